-- Runs of bytes and the numbers in them. All numbers are unsigned, most significant byte first.
use Rattle.std.specs.Prelude.{ℕ, zero, suc, ◌+◌, ◌-◌, ◌*◌, ◌/◌, ◌%◌, ◌<◌, Bool, true, false, ◌&&◌, List, [], ◌∷◌, ◌++◌, take, drop, get_or, replicate, eqb}
use Rattle.std.proofs.Math.Option.{Option, none, some}

abbrev pub pick {ℓ} : {A : Type ℓ} → Bool → A → A → A
pick true a b = a
pick false a b = b

-- is there an answer
abbrev pub is_some : {A : Type 0} → Option A → Bool
is_some none = false
is_some (some x) = true

-- each value fits a byte
abbrev pub Bytes : List ℕ → Type 0
Bytes l = (i : ℕ) → get_or l i 0 < 256

-- the n bytes from offset `at` on
unfoldable pub part : List ℕ → ℕ → ℕ → List ℕ
part l at n = take n (drop at l)

-- n bytes that are zero but for v at offset p
unfoldable pub zeros_but : ℕ → ℕ → ℕ → List ℕ
zeros_but p v n = replicate p 0 ++ (v ∷ replicate (n - suc p) 0)

-- l with the bytes bs from offset `at` on, as far as l goes
unfoldable pub over : List ℕ → ℕ → List ℕ → List ℕ
over [] at bs = []
over (x ∷ l) zero [] = x ∷ l
over (x ∷ l) zero (b ∷ bs) = b ∷ over l zero bs
over (x ∷ l) (suc at) bs = x ∷ over l at bs

-- the numbers of 2 and of 4 bytes at an offset
unfoldable pub get16 : List ℕ → ℕ → ℕ
get16 l at = get_or l at 0 * 256 + get_or l (at + 1) 0

unfoldable pub get32 : List ℕ → ℕ → ℕ
get32 l at = get_or l at 0 * 16777216 + get_or l (at + 1) 0 * 65536 + get_or l (at + 2) 0 * 256 + get_or l (at + 3) 0

-- their bytes
unfoldable pub bytes16 : ℕ → List ℕ
bytes16 v = v / 256 % 256 ∷ v % 256 ∷ []

unfoldable pub bytes32 : ℕ → List ℕ
bytes32 v = v / 16777216 % 256 ∷ v / 65536 % 256 ∷ v / 256 % 256 ∷ v % 256 ∷ []

-- are two runs the same
unfoldable pub equal : List ℕ → List ℕ → Bool
equal [] [] = true
equal [] (y ∷ ys) = false
equal (x ∷ xs) [] = false
equal (x ∷ xs) (y ∷ ys) = eqb x y && equal xs ys

-- is a run all zero
unfoldable pub blank : List ℕ → Bool
blank [] = true
blank (x ∷ xs) = eqb x 0 && blank xs
