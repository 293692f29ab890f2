-- Records, lists of them ordered by their primary part, and their bytes.
use Rattle.std.specs.Prelude.{ℕ, zero, suc, ◌+◌, ◌-◌, ◌*◌, ◌/◌, ◌<◌, Bool, true, false, ◌&&◌, List, [], ◌∷◌, ◌++◌, length, set, get_or, replicate, ltb, leb, eqb, Result, Ok, Err}
use Rattle.std.proofs.Math.Option.{Option, none, some}
use Rattle.wire.specs.Bytes.{pick, part, over, get16, get32, bytes16, bytes32, is_some}
use Rattle.records.specs.declared.Record.{Record}

-- one for a call that counts, none for one that does not
unfoldable pub tally : Bool → ℕ
tally true = 1
tally false = 0

-- ---- records

-- "All values are legal": those that level's 1 byte, second's 4, phone's 2 and minutes' 1 hold
pub record Fits (r : Record) : Type 0 where
  pub level : r.level < 256
  pub second : r.second < 4294967296
  pub phone : r.phone < 65536
  pub minutes : r.minutes < 256

-- "The first three are the primary part": its 7 bytes read as one number
unfoldable pub key : Record → ℕ
key r = r.level * 281474976710656 + r.second * 65536 + r.phone

-- "by level, second, phone. Minutes never count in the order": does r stand before s
unfoldable pub before : Record → Record → Bool
before r s =
    pick (eqb r.level s.level)
    (pick (eqb r.second s.second) (ltb r.phone s.phone) (ltb r.second s.second))
    (ltb r.level s.level)

-- ---- lists

-- "A list is strictly rising by level, second, phone": no key below `low`, and each above the one before
unfoldable pub rising_from : ℕ → List Record → Bool
rising_from low [] = true
rising_from low (x ∷ xs) = leb low (key x) && rising_from (key x + 1) xs

abbrev pub rising : List Record → Bool
rising xs = rising_from 0 xs

-- the record with a key
unfoldable pub look : ℕ → List Record → Option Record
look k [] = none
look k (x ∷ xs) = pick (eqb (key x) k) (some x) (look k xs)

abbrev pub held : Option Record → Bool
held o = is_some o

-- how many records stand before a key: those at a rising list's front
unfoldable pub rank : ℕ → List Record → ℕ
rank k [] = 0
rank k (x ∷ xs) = pick (ltb (key x) k) (suc (rank k xs)) 0

-- how many records pass a test
unfoldable pub many : (Record → Bool) → List Record → ℕ
many p [] = 0
many p (x ∷ xs) = tally (p x) + many p xs

-- "the number of the tag's records before it": in whatever order they stand
abbrev pub below : ℕ → List Record → ℕ
below k xs = many (λ x. ltb (key x) k) xs

-- where a key is, or where it would stand
unfoldable pub ranked : ℕ → List Record → Result ℕ ℕ
ranked k xs = pick (held (look k xs)) (Ok (rank k xs)) (Err (rank k xs))

-- "Put a record": before the first that does not stand before it
unfoldable pub insert : Record → List Record → List Record
insert r [] = r ∷ []
insert r (x ∷ xs) = pick (ltb (key x) (key r)) (x ∷ insert r xs) (r ∷ x ∷ xs)

-- "delete one"
unfoldable pub remove : ℕ → List Record → List Record
remove k [] = []
remove k (x ∷ xs) = pick (eqb (key x) k) xs (x ∷ remove k xs)

-- a record with other minutes
abbrev pub lasting : Record → ℕ → Record
lasting r m = record { level = r.level; second = r.second; phone = r.phone; minutes = m }

-- "set its minutes"
unfoldable pub amend : ℕ → ℕ → List Record → List Record
amend k m [] = []
amend k m (x ∷ xs) = pick (eqb (key x) k) (lasting x m ∷ xs) (x ∷ amend k m xs)

-- ---- bytes

-- "A record has 8 bytes: level (1, ..), second .. (4), phone (2), minutes .. (1)", "most significant byte first"
unfoldable pub bytes_of : Record → List ℕ
bytes_of r = r.level ∷ (bytes32 r.second ++ (bytes16 r.phone ++ (r.minutes ∷ [])))

unfoldable pub encode : List Record → List ℕ
encode [] = []
encode (x ∷ xs) = bytes_of x ++ encode xs

-- the record at an offset, and the n records from an offset on
unfoldable pub record_at : List ℕ → ℕ → Record
record_at l at = record { level = get_or l at 0; second = get32 l (at + 1); phone = get16 l (at + 5); minutes = get_or l (at + 7) 0 }

unfoldable pub records : List ℕ → ℕ → ℕ → List Record
records l at zero = []
records l at (suc n) = record_at l at ∷ records l (at + 8) n

-- the records of a run of bytes, and those from the i-th on
abbrev pub decode : List ℕ → List Record
decode l = records l 0 (length l / 8)

abbrev pub rest : List ℕ → ℕ → List Record
rest l i = records l (8 * i) (length l / 8 - i)

-- the bytes from an offset on moved up by a record's 8, the last 8 lost; and down by 8, the last 8 left
unfoldable pub up : List ℕ → ℕ → List ℕ
up l at = over l (at + 8) (part l at (length l - (at + 8)))

unfoldable pub down : List ℕ → ℕ → List ℕ
down l at = over l at (part l (at + 8) (length l - (at + 8)))

-- a record put in at a rank
unfoldable pub inserted : List ℕ → ℕ → Record → List ℕ
inserted l i r = over (up l (8 * i)) (8 * i) (bytes_of r)

-- the record at a rank taken out; "Freed cells become zero"
unfoldable pub removed : List ℕ → ℕ → List ℕ
removed l i = over (down l (8 * i)) (length l - 8) (replicate 8 0)

-- the minutes of the record at a rank set
unfoldable pub amended : List ℕ → ℕ → ℕ → List ℕ
amended l i m = set l (8 * i + 7) m
