-- The definitions on small lists.
use Rattle.std.specs.Prelude.{◌≡◌, refl, ℕ, true, false, List, [], ◌∷◌, Ok, Err}
use Rattle.records.specs.declared.Record.{Record}
use Rattle.records.specs.Records.{key, before, rising_from, rising, look, rank, ranked, tally, many, below, insert, remove, amend, bytes_of, encode, record_at, records, decode, inserted, removed, amended, up, down}
use Rattle.wire.specs.Bytes.{part, over, get16, get32, bytes16, bytes32}

abbrev call : ℕ → ℕ → ℕ → ℕ → Record
call l s p m = record { level = l; second = s; phone = p; minutes = m }

-- the list of the program's sample
abbrev sample : List Record
sample = call 0 500 9 1 ∷ call 1 100 3 0 ∷ call 1 100 9 0 ∷ []

-- put in any order it is the same list
sample-put : insert (call 0 500 9 1) (insert (call 1 100 3 0) (insert (call 1 100 9 0) [])) ≡ sample
unfolding insert key
sample-put = refl

sample-rising : rising sample ≡ true
unfolding rising_from key
sample-rising = refl

-- the same call with other minutes is there already, and two such records are no list
same_call : ranked (key (call 1 100 3 5)) sample ≡ Ok 1
unfolding ranked look rank key
same_call = refl

tie : rising (call 1 100 3 0 ∷ call 1 100 3 5 ∷ []) ≡ false
unfolding rising_from key
tie = refl

between : ranked (key (call 1 100 4 0)) sample ≡ Err 2
unfolding ranked look rank key
between = refl

-- third in line: two calls before it, whatever its minutes, which itself is not counted; as many before one that would stand there
third : below (key (call 1 100 9 5)) sample ≡ 2
unfolding many tally key
third = refl

absent_third : below (key (call 1 100 4 0)) sample ≡ 2
unfolding many tally key
absent_third = refl

last : below (key (call 2 0 0 0)) sample ≡ 3
unfolding many tally key
last = refl

unknown : below (key (call 1 100 9 0)) [] ≡ 0
unfolding many
unknown = refl

-- numbers are unsigned
unsigned : before (call 127 0 0 0) (call 128 0 0 0) ≡ true
unfolding before
unsigned = refl

sample_bytes : encode (call 1 258 772 5 ∷ []) ≡ 1 ∷ 0 ∷ 0 ∷ 1 ∷ 2 ∷ 3 ∷ 4 ∷ 5 ∷ []
unfolding encode bytes_of bytes32 bytes16
sample_bytes = refl

sample-back : decode (encode sample) ≡ sample
unfolding records record_at encode bytes_of bytes32 bytes16 get32 get16
sample-back = refl

taken : remove (key (call 1 100 3 0)) sample ≡ call 0 500 9 1 ∷ call 1 100 9 0 ∷ []
unfolding remove key
taken = refl

longer : amend (key (call 1 100 9 0)) 7 sample ≡ call 0 500 9 1 ∷ call 1 100 3 0 ∷ call 1 100 9 7 ∷ []
unfolding amend key
longer = refl

-- on bytes: put in at rank 1 with a free cell behind, and taken out again
bytes_in : inserted (encode (call 1 0 0 0 ∷ call 3 0 0 0 ∷ call 0 0 0 0 ∷ [])) 1 (call 2 7 7 7) ≡ encode (call 1 0 0 0 ∷ call 2 7 7 7 ∷ call 3 0 0 0 ∷ [])
unfolding inserted up over part encode bytes_of bytes32 bytes16
bytes_in = refl

bytes_out : removed (encode (call 1 0 0 0 ∷ call 2 7 7 7 ∷ call 3 0 0 0 ∷ [])) 1 ≡ encode (call 1 0 0 0 ∷ call 3 0 0 0 ∷ call 0 0 0 0 ∷ [])
unfolding removed down over part encode bytes_of bytes32 bytes16
bytes_out = refl

bytes_set : amended (encode (call 1 0 0 0 ∷ call 2 7 7 7 ∷ [])) 1 9 ≡ encode (call 1 0 0 0 ∷ call 2 7 7 9 ∷ [])
unfolding amended encode bytes_of bytes32 bytes16
bytes_set = refl
