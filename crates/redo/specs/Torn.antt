-- Stores cut in the middle of one, and made again.
use Rattle.std.specs.Prelude.{◌≡◌, refl, ℕ, zero, suc, ◌-◌, ◌≤◌, ◌<◌, List, [], ◌∷◌, ◌++◌, length, take, drop, set}
use Rattle.std.proofs.Common.{sym, ap, ◌∙◌, arith, set-set}
use Rattle.std.proofs.Math.Nat.{sub-zero, suc-sub-suc}
use Rattle.std.proofs.Math.Decide.{ℕ_discrete}
use Rattle.std.proofs.lemmas.List.{set_comm}
use Rattle.wire.specs.All.{All, none, more, all_map}
use Rattle.redo.specs.Store.{Store, apply, run, halfway}
use Rattle.redo.specs.StoreLaws.{Go, apply-append}

-- the first n of ss, and v where the next one was to go: a byte caught halfway is one more store
unfoldable pub torn : ℕ → ℕ → List Store → List Store
torn n v [] = []
torn zero v (s ∷ ss) = record { at = s.at; byte = v } ∷ []
torn (suc n) v (s ∷ ss) = s ∷ torn n v ss

pub torn_is : (n v : ℕ) (ss : List Store) (l : List ℕ) → halfway (drop n ss) v (apply (take n ss) l) ≡ apply (torn n v ss) l
unfolding halfway torn apply
torn_is zero v [] l = refl
torn_is zero v (s ∷ ss) l = refl
torn_is (suc n) v [] l = refl
torn_is (suc n) v (s ∷ ss) l = torn_is n v ss (set l s.at s.byte)

-- a torn list is the whole list where the allowance is enough
pub torn_all : (n v : ℕ) (ss : List Store) → length ss ≤ n → torn n v ss ≡ ss
unfolding torn
torn_all n v [] g = refl
torn_all zero v (s ∷ ss) g = absurd (omega arith)
torn_all (suc n) v (s ∷ ss) g = ap (λ (r : List Store). s ∷ r) (torn_all n v ss (omega arith))

-- torn in the first of two parts, or in the second
pub torn-first : (n v : ℕ) (ss ts : List Store) → n < length ss → torn n v (ss ++ ts) ≡ torn n v ss
unfolding torn
torn-first n v [] ts g = absurd (omega arith)
torn-first zero v (s ∷ ss) ts g = refl
torn-first (suc n) v (s ∷ ss) ts g = ap (λ (r : List Store). s ∷ r) (torn-first n v ss ts (omega arith))

pub torn_second : (n v : ℕ) (ss ts : List Store) → length ss ≤ n → torn n v (ss ++ ts) ≡ ss ++ torn (n - length ss) v ts
unfolding torn
torn_second n v [] ts g = rw sub-zero
torn_second zero v (s ∷ ss) ts g = absurd (omega arith)
torn_second (suc n) v (s ∷ ss) ts g = rw suc-sub-suc (ap (λ (r : List Store). s ∷ r) (torn_second n v ss ts (omega arith)))

-- it goes nowhere else
pub torn_go : (P : ℕ → Type 0) {ss : List Store} (n v : ℕ) → Go P ss → Go P (torn n v ss)
unfolding torn
torn_go P n v none = none
torn_go P zero v (more p a) = more p none
torn_go P (suc n) v (more p a) = more p (torn_go P n v a)

-- ---- again

-- some store of ss goes to the offset i
pub data Hits (i : ℕ) : List Store → Type 0 where
  here : {s : Store} {ss : List Store} → s.at ≡ i → Hits i (s ∷ ss)
  there : {s : Store} {ss : List Store} → Hits i ss → Hits i (s ∷ ss)

-- an earlier store to an offset that ss stores to as well is of no effect
hit_lost : (i : ℕ) {ss : List Store} (b : ℕ) (l : List ℕ) → Hits i ss → apply ss (set l i b) ≡ apply ss l
unfolding apply
hit_lost i b l (here {s = s} e) = rw (← e, set-set)
hit_lost i b l (there {s = s} {ss = ss} h) = elim (ℕ_discrete i s.at) [
  | yes e ↦ rw (e, set-set)
  | no f ↦ rw (set_comm l i s.at b s.byte f) (hit_lost i b (set l s.at s.byte) h)
]

-- earlier stores that all go where ss stores as well are of no effect
lost : {ss ts : List Store} (l : List ℕ) → All (λ s. Hits s.at ss) ts → apply ss (apply ts l) ≡ apply ss l
unfolding apply
lost l none = refl
lost l (more {x = t} h a) = lost (set l t.at t.byte) a ∙ hit_lost t.at t.byte l h

own : (n v : ℕ) (ss : List Store) → All (λ s. Hits s.at ss) (torn n v ss)
unfolding torn
own n v [] = none
own zero v (s ∷ ss) = more (here refl) none
own (suc n) v (s ∷ ss) = more (here refl) (all_map (λ t h. there h) (own n v ss))

-- all the stores, after any torn ones of them, leave what they leave from the start
pub torn_again : (n v : ℕ) (ss : List Store) (l : List ℕ) → apply ss (apply (torn n v ss) l) ≡ apply ss l
torn_again n v ss l = lost l (own n v ss)

-- ---- torn at the last store

-- torn at the last store of all, which goes to a: the whole, and then v at a
pub torn_last : (n v a b : ℕ) (ss : List Store) (l : List ℕ) → n ≡ length ss → apply (torn n v (ss ++ run a (b ∷ []))) l ≡ set (apply (ss ++ run a (b ∷ [])) l) a v
unfolding torn apply run
torn_last n v a b ss l e =
    let x : List ℕ = apply ss l in
    let z : n - length ss ≡ 0 = omega arith in
    ap (λ (ts : List Store). apply ts l) (torn_second n v ss (run a (b ∷ [])) (omega arith) ∙ ap (λ (j : ℕ). ss ++ torn j v (run a (b ∷ []))) z)
    ∙ apply-append ss (record { at = a; byte = v } ∷ []) l
    ∙ sym (set-set x a b v)
    ∙ sym (ap (λ (y : List ℕ). set y a v) (apply-append ss (run a (b ∷ [])) l))

-- and with its own value there it is the whole
pub last_same : (a b : ℕ) (ss : List Store) (l : List ℕ) → set (apply (ss ++ run a (b ∷ [])) l) a b ≡ apply (ss ++ run a (b ∷ [])) l
unfolding apply run
last_same a b ss l =
    let e : apply (ss ++ run a (b ∷ [])) l ≡ set (apply ss l) a b = apply-append ss (run a (b ∷ [])) l in
    ap (λ (y : List ℕ). set y a b) e ∙ set-set (apply ss l) a b b ∙ sym e

-- a value at a, before stores of which one goes to a, makes no difference
pub marked_before : (a b v : ℕ) (ss : List Store) (l : List ℕ) → apply (ss ++ run a (b ∷ [])) (set l a v) ≡ apply (ss ++ run a (b ∷ [])) l
unfolding apply run
marked_before a b v ss l = lost {ts = record { at = a; byte = v } ∷ []} l (more (last ss) none)
  where
    last : (ss : List Store) → Hits a (ss ++ (record { at = a; byte = b } ∷ []))
    last [] = here refl
    last (s ∷ ss) = there (last ss)
