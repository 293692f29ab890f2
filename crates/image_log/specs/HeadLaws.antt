-- The head's answers: refused with 1, mark 0, mark 165, any other mark.
use Rattle.std.specs.Prelude.{◌≡◌, true, false, ℕ, List, Ok, Err}
use Rattle.std.specs.declared.result.Result.{Result}
use Rattle.std.proofs.Common.{refl, subst, eq-eqb, ne_eqb}
use Rattle.wire.specs.Cases.{by_test, by_eq}
use Rattle.redo.specs.Image.{mark, head_ok}
use Rattle.refusals.specs.declared.Refusal.{Refusal}
use Rattle.refusals.specs.declared.Refusal.TheVariants.{BadHead}
use Rattle.image_log.specs.declared.Mark.{Mark}
use Rattle.image_log.specs.declared.Mark.TheVariants.{Clear, Committed, Spoiled}
use Rattle.image_log.specs.Head.{head_of}

pub head_bad : (l : List ℕ) → head_ok l ≡ false → head_of l ≡ Err BadHead
unfolding head_of
head_bad l e = rw e

pub head_clear : (l : List ℕ) → head_ok l ≡ true → mark l ≡ 0 → head_of l ≡ Ok Clear
unfolding head_of
head_clear l e m = rw (e, eq-eqb (mark l) 0 m)

pub head_committed : (l : List ℕ) → head_ok l ≡ true → mark l ≡ 165 → head_of l ≡ Ok Committed
unfolding head_of
head_committed l e m = rw (e, m)

pub head_spoiled : (l : List ℕ) → head_ok l ≡ true → (mark l ≡ 0 → ⊥) → (mark l ≡ 165 → ⊥) → head_of l ≡ Ok Spoiled
unfolding head_of
head_spoiled l e f g = rw (e, ne_eqb (mark l) 0 f, ne_eqb (mark l) 165 g)

-- ---- and what each of them says

abbrev says : List ℕ → Result Mark Refusal → Type 0
says l (Err r) = (head_ok l ≡ false) × (r ≡ BadHead)
says l (Ok Clear) = (head_ok l ≡ true) × (mark l ≡ 0)
says l (Ok Committed) = (head_ok l ≡ true) × (mark l ≡ 165)
says l (Ok Spoiled) = (head_ok l ≡ true) × (mark l ≡ 0 → ⊥) × (mark l ≡ 165 → ⊥)

head_says : (l : List ℕ) (h : Result Mark Refusal) → head_of l ≡ h → says l h
head_says l h e = subst (says l) e (by_test (head_ok l)
    (λ ok. by_eq (mark l) 0
    (λ m. rw (head_clear l ok m) (ok, m))
    (λ f. by_eq (mark l) 165 (λ m. rw (head_committed l ok m) (ok, m)) (λ g. rw (head_spoiled l ok f g) (ok, f, g))))
    (λ ok. rw (head_bad l ok) (ok, refl)))

module _ (l : List ℕ) where
  -- the one refusal
  pub refused_head : {r : Refusal} → head_of l ≡ Err r → (head_ok l ≡ false) × (r ≡ BadHead)
  refused_head {r} e = head_says l (Err r) e

  pub bad_head : head_of l ≡ Err BadHead → head_ok l ≡ false
  bad_head e = (refused_head e).0

  pub clear_head : head_of l ≡ Ok Clear → (head_ok l ≡ true) × (mark l ≡ 0)
  clear_head e = head_says l (Ok Clear) e

  pub committed_head : head_of l ≡ Ok Committed → (head_ok l ≡ true) × (mark l ≡ 165)
  committed_head e = head_says l (Ok Committed) e

  pub spoiled_head : head_of l ≡ Ok Spoiled → (head_ok l ≡ true) × (mark l ≡ 0 → ⊥) × (mark l ≡ 165 → ⊥)
  spoiled_head e = head_says l (Ok Spoiled) e
