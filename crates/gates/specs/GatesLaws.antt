-- What the tests of lent bytes find, and what an open gate says.
use Rattle.std.specs.Prelude.{◌≡◌, refl, true, false, ℕ, ◌+◌, List, ◌++◌, Ok, Err}
use Rattle.std.specs.declared.result.Result.{Result}
use Rattle.std.specs.Result.{IsErrAnd}
use Rattle.std.proofs.Common.{sym, ◌∙◌, arith}
use Rattle.std.proofs.Math.Option.{none, some}
use Rattle.std.proofs.lemmas.Result.{err_from_is_err_and}
use borrow.Author.Tests.{eqb-true, eq-eqb, ne_eqb, not-false}
use Rattle.refusals.specs.declared.Refusal.{Refusal}
use Rattle.refusals.specs.declared.Refusal.TheVariants.{BadHead, Unrecovered, UnsoundHome, SpaceLength, UnsoundSpace}
use Rattle.refusals.specs.Rules.{Rule, first, refusal}
use Rattle.refusals.specs.RulesLaws.{by_refusal, unrefused, first-behind, first-refused, first_passed, passes}
use Rattle.redo.specs.Image.{mark, home, home_at, head_ok}
use Rattle.image_log.specs.declared.Mark.TheVariants.{Clear, Committed, Spoiled}
use Rattle.image_log.specs.Head.{head_of}
use Rattle.image_log.specs.HeadLaws.{bad_head, clear_head, committed_head, spoiled_head}
use Rattle.image_log.specs.Calls.{head_rules, image_rules}
use Rattle.home.specs.Sound.{sized, sound}
use Rattle.gates.specs.declared.Of.{Of}
use Rattle.gates.specs.declared.Of.TheVariants.{Image, Space}
use Rattle.gates.specs.Gates.{gate_rules, gated, home_in, home_from}

-- ---- a gate and its rules

pub gate_open : (rs : List Rule) → gated rs ≡ Ok tt → refusal rs ≡ none
gate_open rs e = unrefused {A = Result (Unit {0}) Refusal} Err rs (Ok tt) (Ok tt) (λ r f. cc) e

pub gate_refused : (rs : List Rule) (r : Refusal) → gated rs ≡ Err r → refusal rs ≡ some r
gate_refused rs r e = by_refusal rs
    (λ m q. let f : gated rs ≡ Err m = first-refused Err rs m (Ok tt) q in cc)
    (λ q. let f : gated rs ≡ Ok tt = first_passed Err rs (Ok tt) q in cc)

-- ---- what is found

module _ (l : List ℕ) where
  pub gate_bad : head_of l ≡ Err BadHead → Err BadHead ≡ gated (gate_rules Image l)
  unfolding gate_rules image_rules head_rules first
  gate_bad e = rw (bad_head l e)

  marked : head_ok l ≡ true → (mark l ≡ 0 → ⊥) → Err Unrecovered ≡ gated (gate_rules Image l)
  unfolding gate_rules image_rules head_rules first
  marked ok f = rw (ok, ne_eqb (mark l) 0 f)

  pub gate_committed : head_of l ≡ Ok Committed → Err Unrecovered ≡ gated (gate_rules Image l)
  gate_committed e = let h = committed_head l e in marked h.0 (λ z. omega (arith, h.1))

  pub gate_spoiled : head_of l ≡ Ok Spoiled → Err Unrecovered ≡ gated (gate_rules Image l)
  gate_spoiled e = let h = spoiled_head l e in marked h.0 h.1

  pub gate_sound : (h : List ℕ) → head_of l ≡ Ok Clear → h ≡ home l → sound h ≡ true → Ok tt ≡ gated (gate_rules Image l)
  unfolding gate_rules image_rules head_rules first
  gate_sound h e f t = let c = clear_head l e in rw (c.0, eq-eqb (mark l) 0 c.1, ← f, t)

  pub gate_unsound : (h : List ℕ) → head_of l ≡ Ok Clear → h ≡ home l → sound h ≡ false → Err UnsoundHome ≡ gated (gate_rules Image l)
  unfolding gate_rules image_rules head_rules first
  gate_unsound h e f t = let c = clear_head l e in rw (c.0, eq-eqb (mark l) 0 c.1, ← f, t)

module _ (w : List ℕ) where
  pub gate_length : sized w ≡ false → Err SpaceLength ≡ gated (gate_rules Space w)
  unfolding gate_rules first
  gate_length e = rw e

  pub gate_space : sized w ≡ true → sound w ≡ true → Ok tt ≡ gated (gate_rules Space w)
  unfolding gate_rules first
  gate_space e t = rw (e, t)

  pub gate_unsound_space : sized w ≡ true → sound w ≡ false → Err UnsoundSpace ≡ gated (gate_rules Space w)
  unfolding gate_rules first
  gate_unsound_space e t = rw (e, t)

-- ---- what an open gate says

-- an image has a right head with mark 0 and a sound home
pub record Opened (l : List ℕ) : Type 0 where
  pub head : head_ok l ≡ true
  pub clear : mark l ≡ 0
  pub fine : sound (home l) ≡ true

pub image_open : (l : List ℕ) → refusal (gate_rules Image l) ≡ none → Opened l
unfolding gate_rules image_rules head_rules
image_open l e =
    let a = passes BadHead _ _ e in
    let b = passes Unrecovered _ _ a.1 in
    let c = passes UnsoundHome _ _ b.1 in
    record { head = not-false (head_ok l) a.0; clear = eqb-true (mark l) 0 (not-false _ b.0); fine = not-false (sound (home l)) c.0 }

pub space_open : (w : List ℕ) → refusal (gate_rules Space w) ≡ none → sound w ≡ true
unfolding gate_rules
space_open w e = not-false (sound w) (passes UnsoundSpace _ _ (passes SpaceLength _ _ e).1).0

-- either holds a sound home
pub home_fine : (of : Of) (bs : List ℕ) → refusal (gate_rules of bs) ≡ none → sound (home_in of bs) ≡ true
unfolding home_in
home_fine Image l e = (image_open l e).fine
home_fine Space w e = space_open w e

-- home, and where it is
pub right_head : (of : Of) (l : List ℕ) → of ≡ Image → refusal (gate_rules of l) ≡ none → head_ok l ≡ true
right_head of l q e = (image_open l (rw q at e)).head

pub home_image : (of : Of) (l h : List ℕ) (p o : ℕ) → of ≡ Image → h ≡ home l → p ≡ o + home_at l → (h ≡ home_in of l) × (p ≡ o + home_from of l)
unfolding home_in home_from
home_image of l h p o q f g = rw q (f, g)

pub home_space : (of : Of) (w : List ℕ) (p : ℕ) → of ≡ Space → (w ≡ home_in of w) × (p ≡ p + home_from of w)
unfolding home_in home_from
home_space of w p q = rw q (refl, omega arith)

-- ---- what a call makes of its gate

pub ruleset behind_gate = (gate_open, gate_refused, home_fine, first-behind, first_passed, first-refused)

-- a refusal that it passes on, as what all its rules tell
module _ {A : Type 0} (x : Result A Refusal) (gs : List Rule) (r : Refusal) (passed_on : IsErrAnd x (λ e. e ≡ r)) (refused : Err r ≡ gated gs) where
  pub told_alone : (a : Result A Refusal) → x ≡ first Err gs a
  told_alone a =
      let p = err_from_is_err_and x passed_on in
      rw (p.1, p.2) (sym (first-refused Err gs r a (gate_refused gs r (sym refused))))

  pub told_first : (rs : List Rule) (a : Result A Refusal) → x ≡ first Err (gs ++ rs) a
  told_first rs a = told_alone (first Err rs a) ∙ sym (first-behind Err gs rs a)
