-- Case splits that hand each case its fact, so that it stands among the hypotheses; and tests that tell the same.
use Rattle.std.specs.Prelude.{◌≡◌, refl, Bool, true, false, not, ◌&&◌, ◌||◌, ℕ, ◌+◌, ◌≤◌, ◌<◌, ltb, leb, eqb}
use Rattle.std.proofs.Common.{sym, ap, ◌∙◌, arith, ltb-true, ltb-false, leb-true, eqb-true, lt-ltb, le-ltb, le-leb}
use Rattle.std.proofs.lemmas.Bool.{eqb-false, lt-leb}

pub by_test : {G : Type 0} (b : Bool) → (b ≡ true → G) → (b ≡ false → G) → G
by_test true y n = y refl
by_test false y n = n refl

pub by_lt : {G : Type 0} (a b : ℕ) → (a < b → G) → (b ≤ a → G) → G
by_lt a b y n = by_test (ltb a b) (λ e. y (ltb-true a b e)) (λ e. n (ltb-false a b e))

pub by_eq : {G : Type 0} (a b : ℕ) → (a ≡ b → G) → ((a ≡ b → ⊥) → G) → G
by_eq a b y n = by_test (eqb a b) (λ e. y (eqb-true a b e)) (λ e. n (eqb-false a b e))

-- below a, in the n places from a on, or past them
pub by_within : {G : Type 0} (a n i : ℕ) → (i < a → G) → (a ≤ i → i < a + n → G) → (a + n ≤ i → G) → G
by_within a n i lo mid hi = by_lt i a lo (λ h. by_lt i (a + n) (mid h) hi)

-- false is not true
pub never : {G : Type 0} → false ≡ true → G
never e = let z : ◌≡◌ {A = ℕ} 0 1 = cc in absurd (omega arith)

pub both : (a b : Bool) → a && b ≡ true → (a ≡ true) × (b ≡ true)
both true b e = (refl, e)
both false b e = never e

-- ---- one of two tests

pub by_or : {G : Type 0} (a b : Bool) → a || b ≡ true → (a ≡ true → G) → (b ≡ true → G) → G
by_or true b e f g = f refl
by_or false b e f g = g e

pub or_left : (a b : Bool) → a ≡ true → a || b ≡ true
or_left a b e = rw e

pub or_right : (a b : Bool) → b ≡ true → a || b ≡ true
or_right true b e = refl
or_right false b e = e

-- ---- two tests that tell the same

pub bool_iff : (a b : Bool) → (a ≡ true → b ≡ true) → (b ≡ true → a ≡ true) → a ≡ b
bool_iff true true f g = refl
bool_iff true false f g = never (f refl)
bool_iff false true f g = never (g refl)
bool_iff false false f g = refl

pub ltb_iff : (a b c d : ℕ) → (a < b → c < d) → (c < d → a < b) → ltb a b ≡ ltb c d
ltb_iff a b c d f g = bool_iff (ltb a b) (ltb c d) (λ e. lt-ltb c d (f (ltb-true a b e))) (λ e. lt-ltb a b (g (ltb-true c d e)))

pub leb_iff : (a b c d : ℕ) → (a ≤ b → c ≤ d) → (c ≤ d → a ≤ b) → leb a b ≡ leb c d
leb_iff a b c d f g = bool_iff (leb a b) (leb c d) (λ e. le-leb c d (f (leb-true a b e))) (λ e. le-leb a b (g (leb-true c d e)))

pub not-leb : (a b : ℕ) → not (leb a b) ≡ ltb b a
not-leb a b = by_lt b a (λ g. ap not (lt-leb a b g) ∙ sym (lt-ltb b a g)) (λ g. ap not (le-leb a b g) ∙ sym (le-ltb b a g))

pub and_true : (a : Bool) → a && true ≡ a
and_true true = refl
and_true false = refl

pub and_false : (a : Bool) → a && false ≡ false
and_false true = refl
and_false false = refl
