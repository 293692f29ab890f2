-- What the first rule that applies makes of a call.
use Rattle.std.specs.Prelude.{◌≡◌, Bool, true, false, ℕ, eqb}
use Rattle.std.proofs.Math.Path.{refl, ap}
use Rattle.std.proofs.Common.{sym, ◌∙◌, subst}
use mathlib.Core.List.{List, [], ◌∷◌, ◌++◌}
use Rattle.std.proofs.Math.Option.{Option, none, some}
use Rattle.std.proofs.lemmas.Bool.{eqb-false}
use Rattle.wire.specs.Bytes.{pick}
use Rattle.wire.specs.Cases.{by_test}
use Rattle.wire.specs.All.{All, more}
use Rattle.refusals.specs.declared.Refusal.{Refusal}
use Rattle.refusals.specs.Rules.{number_of, Rule, rule, first, refusal, numbers, Ruled, answered, left, behind}

module _ {A : Type 0} (f : Refusal → A) where
  pub first_here : (n : Refusal) (b : Bool) (rs : List Rule) (a : A) → b ≡ true → first f (rule n b ∷ rs) a ≡ f n
  unfolding first
  first_here n b rs a e = rw e

  pub first_next : (n : Refusal) (b : Bool) (rs : List Rule) (a : A) → b ≡ false → first f (rule n b ∷ rs) a ≡ first f rs a
  unfolding first
  first_next n b rs a e = rw e

  pub first-behind : (gs rs : List Rule) (a : A) → first f (gs ++ rs) a ≡ first f gs (first f rs a)
  unfolding first
  first-behind [] rs a = refl
  first-behind (rule n b ∷ gs) rs a = ap (pick b (f n)) (first-behind gs rs a)

  -- what is told of a refusal, or of none
  abbrev told : Option Refusal → A → A
  told none a = a
  told (some n) a = f n

  first-told : (rs : List Rule) (a : A) → first f rs a ≡ told (refusal rs) a
  unfolding first
  first-told [] a = refl
  first-told (rule n b ∷ rs) a = by_test b (λ e. rw e) (λ e. rw e (first-told rs a))

  pub first-refused : (rs : List Rule) (n : Refusal) (a : A) → refusal rs ≡ some n → first f rs a ≡ f n
  first-refused rs n a e = first-told rs a ∙ ap (λ (o : Option Refusal). told o a) e

  pub first_passed : (rs : List Rule) (a : A) → refusal rs ≡ none → first f rs a ≡ a
  first_passed rs a e = first-told rs a ∙ ap (λ (o : Option Refusal). told o a) e

-- a function of what is told
pub first-map : {A B : Type 0} (g : A → B) (f : Refusal → A) (rs : List Rule) (a : A) → g (first f rs a) ≡ first (λ n. g (f n)) rs (g a)
unfolding first
first-map g f [] a = refl
first-map g f (rule n b ∷ rs) a = by_test b (λ e. rw e) (λ e. rw e (first-map g f rs a))

-- ---- refused, or not

pub refused_here : (n : Refusal) (b : Bool) (rs : List Rule) → b ≡ true → refusal (rule n b ∷ rs) ≡ some n
refused_here n b rs e = first_here some n b rs none e

pub passed_one : (n : Refusal) (b : Bool) (rs : List Rule) → b ≡ false → refusal (rule n b ∷ rs) ≡ refusal rs
passed_one n b rs e = first_next some n b rs none e

-- where no rule applies, neither does the first nor another
pub passes : (n : Refusal) (b : Bool) (rs : List Rule) → refusal (rule n b ∷ rs) ≡ none → (b ≡ false) × (refusal rs ≡ none)
unfolding first
passes n b rs e = by_test b
    (λ t. let f = rw t at e in cc)
    (λ t. (t, rw t at e))

-- a refusal is one of the list's numbers
pub refused_among : {P : ℕ → Type 0} (rs : List Rule) (n : Refusal) → All P (numbers rs) → refusal rs ≡ some n → P (number_of n)
unfolding first numbers
refused_among [] n a e = cc
refused_among {P} (rule m b ∷ rs) n (more p a) e = by_test b
    (λ t. let f : some m ≡ some n = rw t at e in let z : m ≡ n = cc in subst (λ (r : Refusal). P (number_of r)) z p)
    (λ t. refused_among rs n a (rw t at e))

pub passed_both : (gs rs : List Rule) → refusal gs ≡ none → refusal (gs ++ rs) ≡ refusal rs
passed_both gs rs e = first-behind some gs rs none ∙ first_passed some gs (refusal rs) e

pub refused-before : (gs rs : List Rule) (n : Refusal) → refusal gs ≡ some n → refusal (gs ++ rs) ≡ some n
refused-before gs rs n e = first-behind some gs rs none ∙ first-refused some gs n (refusal rs) e

-- a case of the refusal
pub by_refusal : {G : Type 0} (rs : List Rule) → ((n : Refusal) → refusal rs ≡ some n → G) → (refusal rs ≡ none → G) → G
by_refusal {G} rs y n = go (refusal rs) refl
  where
    go : (o : Option Refusal) → refusal rs ≡ o → G
    go none e = n e
    go (some r) e = y r e

-- what no refusal tells is told only where no rule applies
pub unrefused : {A : Type 0} (f : Refusal → A) (rs : List Rule) (a x : A) → ((n : Refusal) → f n ≡ x → ⊥) → first f rs a ≡ x → refusal rs ≡ none
unrefused f rs a x other is = by_refusal rs (λ n e. absurd (other n (sym (first-refused f rs n a e) ∙ is))) (λ e. e)

pub passes_both : (gs rs : List Rule) → refusal (gs ++ rs) ≡ none → (refusal gs ≡ none) × (refusal rs ≡ none)
passes_both gs rs e = by_refusal gs
    (λ n q. let f : some n ≡ none = sym (refused-before gs rs n q) ∙ e in cc)
    (λ q. (q, sym (passed_both gs rs q) ∙ e))

-- a number that no other rule has is told exactly where its own is the first to apply
module _ (gs : List Rule) (n : Refusal) (b : Bool) (us : List Rule) where
  pub refused-first : refusal gs ≡ none → b ≡ true → refusal (gs ++ (rule n b ∷ us)) ≡ some n
  refused-first p e = passed_both gs (rule n b ∷ us) p ∙ refused_here n b us e

  pub refused_only : All (λ (m : ℕ). eqb m (number_of n) ≡ false) (numbers gs) → All (λ (m : ℕ). eqb m (number_of n) ≡ false) (numbers us) → refusal (gs ++ (rule n b ∷ us)) ≡ some n → (refusal gs ≡ none) × (b ≡ true)
  refused_only before behind e = by_refusal gs
      (λ m q. let f : some m ≡ some n = sym (refused-before gs (rule n b ∷ us) m q) ∙ e in let z : m ≡ n = cc in absurd (eqb-false (number_of m) (number_of n) (refused_among gs m before q) (ap number_of z)))
      (λ q. by_test b
      (λ t. (q, t))
      (λ t. absurd (eqb-false (number_of n) (number_of n) (refused_among us n behind (sym (passed_one n b us t) ∙ sym (passed_both gs (rule n b ∷ us) q) ∙ e)) refl)))

-- ---- calls

module _ {A : Type 0} (f : Refusal → A) (c : Ruled A) (old : List ℕ) where
  pub is_refused : (n : Refusal) → refusal c.rules ≡ some n → (f n ≡ answered f c) × (old ≡ left c old)
  is_refused n e = (sym (first-refused f c.rules n c.answer e), sym (first-refused (λ m. old) c.rules n c.bytes e))

  pub is_done : refusal c.rules ≡ none → (c.answer ≡ answered f c) × (c.bytes ≡ left c old)
  is_done e = (sym (first_passed f c.rules c.answer e), sym (first_passed (λ m. old) c.rules c.bytes e))

  -- behind a gate
  pub gate_refuses : (gs : List Rule) (n : Refusal) → refusal gs ≡ some n → (f n ≡ answered f (behind gs c)) × (old ≡ left (behind gs c) old)
  gate_refuses gs n e =
      let q = refused-before gs c.rules n e in
      (sym (first-refused f (gs ++ c.rules) n c.answer q), sym (first-refused (λ m. old) (gs ++ c.rules) n c.bytes q))

  pub gate_opens : (gs : List Rule) (a : A) (bs : List ℕ) → refusal gs ≡ none → (a ≡ answered f c) × (bs ≡ left c old) → (a ≡ answered f (behind gs c)) × (bs ≡ left (behind gs c) old)
  gate_opens gs a bs e d = (
    d.0 ∙ sym (first-behind f gs c.rules c.answer ∙ first_passed f gs (answered f c) e),
    d.1 ∙ sym (first-behind (λ m. old) gs c.rules c.bytes ∙ first_passed (λ m. old) gs (left c old) e),
  )
