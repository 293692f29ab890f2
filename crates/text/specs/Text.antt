-- Fields and numbers in text.
use Rattle.std.specs.Prelude.{◌≡◌, Bool, true, false, ◌&&◌, not, List, [], ◌∷◌, ◌++◌, Option, Some, None, MatchOption, ℕ, zero, suc, ◌+◌, ◌*◌, ◌-◌, ◌/◌, ◌%◌, ◌≤◌, ◌<◌, eqb, leb, ltb, length, drop}
use Rattle.wire.specs.Bytes.{pick}

-- ---- fields

unfoldable pub onto : ℕ → List (List ℕ) → List (List ℕ)
onto x [] = (x ∷ []) ∷ []
onto x (f ∷ fs) = (x ∷ f) ∷ fs

-- "parted by commas": one field more than there are commas
unfoldable pub fields : List ℕ → List (List ℕ)
unfolding onto
fields [] = [] ∷ []
fields (x ∷ l) = pick (eqb x 44) ([] ∷ fields l) (onto x (fields l))

-- how many bytes stand before the first x
unfoldable pub before : ℕ → List ℕ → ℕ
before x [] = 0
before x (y ∷ l) = pick (eqb y x) 0 (suc (before x l))

-- where the first x at or after an offset stands: none where none stands up to the line's end
abbrev pub Found : ℕ → List ℕ → ℕ → Option ℕ → Type 0
Found x line from r =
    let i = from + before x (drop from line) in
    MatchOption r (i ≡ length line) (λ at. (at ≡ i) × (i < length line))

-- ---- numbers read: "decimal, without sign or needless leading zero"

unfoldable pub is_digit : ℕ → Bool
is_digit d = leb 48 d && leb d 57

unfoldable pub digits_only : List ℕ → Bool
unfolding is_digit
digits_only [] = true
digits_only (d ∷ ds) = is_digit d && digits_only ds

-- the number that digits give after v
unfoldable pub value_from : ℕ → List ℕ → ℕ
value_from v [] = v
value_from v (d ∷ ds) = value_from (v * 10 + (d - 48)) ds

-- a digit, and if it is 0 no other
unfoldable pub leads : List ℕ → Bool
leads [] = false
leads (d ∷ []) = true
leads (d ∷ e ∷ ds) = not (eqb d 48)

-- a number up to this one
unfoldable pub number_of : ℕ → List ℕ → Option ℕ
unfolding digits_only leads value_from
number_of most f = pick (leads f && (digits_only f && leb (value_from 0 f) most)) (Some (value_from 0 f)) None

-- one that is at most k
abbrev pub Below : ℕ → Option ℕ → Type 0
Below k n = (v : ℕ) → n ≡ Some v → v ≤ k

-- ---- numbers written

-- a number's decimal digits, at most so many
unfoldable pub digits_by : ℕ → ℕ → List ℕ
digits_by zero n = []
digits_by (suc k) n = pick (ltb n 10) ((48 + n) ∷ []) (digits_by k (n / 10) ++ ((48 + n % 10) ∷ []))

-- numbers here have at most ten
abbrev pub digits : ℕ → List ℕ
digits n = digits_by 10 n

-- a number and the byte that ends it
unfoldable pub field : ℕ → ℕ → List ℕ
unfolding digits_by
field v e = digits v ++ (e ∷ [])
