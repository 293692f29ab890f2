-- An edit made and committed, step by step.
use Rattle.std.specs.Prelude.{◌≡◌, refl, true, ◌≢◌, List, [], ◌∷◌, ℕ, ◌*◌, ◌≤◌, length, Ok, Err}
use Rattle.std.specs.declared.result.Result.{Result}
use Rattle.std.proofs.Math.Path.{sym, ap}
use Rattle.std.proofs.Common.{◌∙◌, subst, arith, eqb-true, ltb-false, le-leb}
use Rattle.std.proofs.Math.Option.{none}
use Rattle.std.proofs.lemmas.Bool.{not-false}
use Rattle.wire.specs.All.{All}
use Rattle.refusals.specs.declared.Refusal.{Refusal}
use Rattle.refusals.specs.declared.Refusal.TheVariants.{SpaceLength, UnsoundSpace, LogShort}
use Rattle.refusals.specs.Rules.{Answer, first, refusal, answered, left}
use Rattle.refusals.specs.RulesLaws.{by_refusal, first-map, first_passed, first-refused, passes, passes_both}
use Rattle.redo.specs.Image.{capacity, pages, home_at, home, head_ok}
use Rattle.redo.specs.ImageLaws.{head_right}
use Rattle.redo.specs.Entry.{Entry}
use Rattle.redo.specs.EntryLaws.{Long}
use Rattle.redo.specs.Store.{Store}
use Rattle.redo.specs.Stores.{commit_stores}
use Rattle.redo.specs.StoresLaws.{length_commit}
use Rattle.image_log.specs.declared.Stored.TheVariants.{Cut}
use Rattle.image_log.specs.Calls.{Plan, refuse, store, answer, after, changed_pages, commit_rules, commit_plan}
use Rattle.image_log.specs.Logged.{long_changes}
use Rattle.home.specs.Sound.{sound}
use Rattle.gates.specs.declared.Of.TheVariants.{Image}
use Rattle.gates.specs.Gates.{gate_rules}
use Rattle.gates.specs.GatesLaws.{image_open}
use Rattle.index.specs.Calls.{begin_call}
use Rattle.lines.specs.declared.failure.Failure.TheVariants.{Refused}
use Rattle.parse.specs.declared.Command.{Command}
use Rattle.lines.specs.Run.{Reply, edit_of, plenty, outcome_reply, plan_reply, unless_refused, run_of, reply_of, image_of, left_of}

-- what stands behind begin's rules, by what begin answers
module _ (l w : List ℕ) {A : Type 0} (f : Refusal → A) (a : A) where
  abbrev by_begun : Result (Unit {0}) Refusal → A
  by_begun (Ok x) = a
  by_begun (Err r) = f r

  begun_is : (b : Result (Unit {0}) Refusal) → answered Err (begin_call l w) ≡ b → first f (begin_call l w).rules a ≡ by_begun b
  unfolding begin_call
  begun_is b e = sym (first-map by_begun Err (begin_call l w).rules (Ok tt)) ∙ ap by_begun e

module _ (l w : List ℕ) (c : Command) where
  -- a plan for the image, and a workspace
  planned : (p : Plan) (w₂ : List ℕ) → answered refuse (run_of l w c) ≡ p → left (run_of l w c) w ≡ w₂ → (plan_reply p ≡ reply_of l w c) × ((after p plenty l ≡ image_of l w c) × (w₂ ≡ left_of l w c))
  unfolding reply_of image_of left_of
  planned p w₂ e f = rw (e, f) (refl, (refl, refl))

  pub run_edit : (w₁ w₂ l₂ : List ℕ) (a : Answer) (r : Reply) → answered Err (begin_call l w) ≡ Ok tt → w₁ ≡ left (begin_call l w) w
      → a ≡ answered Err (edit_of c.word w₁ c.tag c.call) → w₂ ≡ left (edit_of c.word w₁ c.tag c.call) w₁
      → r ≡ plan_reply (unless_refused a (commit_plan sound l w₂)) → l₂ ≡ after (unless_refused a (commit_plan sound l w₂)) plenty l
      → (r ≡ reply_of l w c) × ((l₂ ≡ image_of l w c) × (w₂ ≡ left_of l w c))
  unfolding begin_call
  run_edit w₁ w₂ l₂ a r b e₁ ea e₂ er el =
      let h : w₁ ≡ home l = e₁ ∙ begun_is l w (λ n. w) (home l) (Ok tt) b in
      rw (er, el, ea, e₂, h) (planned _ _ (begun_is l w refuse (run_of l w c).answer (Ok tt) b) (begun_is l w (λ n. w) (run_of l w c).bytes (Ok tt) b))

  pub run-not : (n : Refusal) (w₁ : List ℕ) → answered Err (begin_call l w) ≡ Err n → w₁ ≡ left (begin_call l w) w → (Err (Refused n) ≡ reply_of l w c) × ((l ≡ image_of l w c) × (w₁ ≡ left_of l w c))
  unfolding begin_call answer after outcome_reply
  run-not n w₁ b e =
      rw (e ∙ begun_is l w (λ m. w) (home l) (Err n) b)
      (planned (refuse n) w (begun_is l w refuse (run_of l w c).answer (Err n) b) (begun_is l w (λ m. w) (run_of l w c).bytes (Err n) b))

-- ---- no commit needs more stores than are allowed

-- 130 for each of at most 1,050 pages, and 4
few_stores : (l w : List ℕ) → head_ok l ≡ true → length w ≡ 64 * pages l → length (changed_pages l w) ≤ capacity l → length (commit_stores (home_at l) (changed_pages l w)) ≤ plenty
unfolding commit_stores
few_stores l w ok long fit = go (changed_pages l w) refl
  where
    go : (es : List Entry) → changed_pages l w ≡ es → length (commit_stores (home_at l) es) ≤ plenty
    go [] q = omega arith
    go (x ∷ es) q =
        let r = head_right l ok in
        omega (arith, r.sizes.few_log, r.sizes.few_pages, ap length q, length_commit (home_at l) (x ∷ es) (omega arith) (subst (All Long) q (long_changes l w ok long fit)))

-- one that is not refused
few_unrefused : (l w : List ℕ) → refusal (commit_rules sound l w) ≡ none → length (commit_stores (home_at l) (changed_pages l w)) ≤ plenty
unfolding commit_rules gate_rules
few_unrefused l w e =
    let g = passes_both (gate_rules Image l) _ e in
    let a = passes SpaceLength _ _ g.1 in
    let b = passes LogShort _ _ (passes UnsoundSpace _ _ a.1).1 in
    few_stores l w (image_open l g.0).head (eqb-true _ _ (not-false _ a.0)) (ltb-false _ _ b.0)

pub never_cut : (l w : List ℕ) (m : ℕ) → answer (commit_plan sound l w) plenty ≢ Ok (Cut m)
unfolding commit_plan answer
never_cut l w m e =
    let ss : List Store = commit_stores (home_at l) (changed_pages l w) in
    by_refusal (commit_rules sound l w)
    (λ n q. let f = rw (first-refused refuse (commit_rules sound l w) n (store ss) q) at e in cc)
    (λ q. let f = rw (first_passed refuse (commit_rules sound l w) (store ss) q, le-leb (length ss) plenty (few_unrefused l w q)) at e in cc)
