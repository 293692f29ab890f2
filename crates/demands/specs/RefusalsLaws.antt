-- Demand 1's last sentence, and demand 2's: a call is refused only under a condition in the papers, and always then; a refused call changes no lent byte.
use Rattle.std.specs.Prelude.{◌≡◌, ℕ, List, [], ◌∷◌, Err}
use Rattle.std.proofs.Math.Path.{refl}
use Rattle.std.proofs.Common.{sym, ap, ◌∙◌}
use Rattle.std.proofs.Math.Option.{Option, none, some}
use Rattle.refusals.specs.declared.Refusal.{Refusal}
use Rattle.refusals.specs.Rules.{Rule, first, refusal, numbers, Ruled, left}
use Rattle.refusals.specs.RulesLaws.{by_refusal, first-refused, first_passed}
use Rattle.records.specs.declared.Record.{Record}
use Rattle.merges.specs.declared.Merge.{Merge}
use Rattle.redo.specs.Store.{Store}
use Rattle.image_log.specs.Calls.{Plan, refuse, store, answer, after, commit_plan, recover_plan}
use Rattle.layout.specs.Edits.{put as put_edit, delete as delete_edit, set_minutes as set_edit, drop_tag as drop_edit}
use Rattle.gates.specs.declared.Of.TheVariants.{Image, Space}
use Rattle.gates.specs.Gates.{gate_rules}
use Rattle.reads.specs.Reads.{count_in, rank_in}
use Rattle.reads.specs.Merges.{merge_in}
use Rattle.edits.specs.declared.Terminal.TheVariants.{Desk, Pit}
use Rattle.edits.specs.Edits.{full_of}
use Rattle.index.specs.Calls.{begin_call, put_call, delete_call, set_call, drop_call, format_rules, format_plan}
use Rattle.demands.specs.Sequences.{Edit, put, delete, set_minutes, drop_tag, edit_call, answer_of}
use Rattle.demands.specs.Refusals.{Call, begin, edit, count, rank, merge, commit, recover, format, rules_of, refusal_in, refused_with, lent, given_back}

-- ---- which numbers each call can be refused with, in which order

module _ (w : List ℕ) (t k m : ℕ) (r : Record) where
  put-numbers : numbers (rules_of (edit (put Desk t r) w)) ≡ 6 ∷ 7 ∷ 8 ∷ 10 ∷ 19 ∷ 11 ∷ 12 ∷ []
  unfolding rules_of edit_call put_call gate_rules put_edit full_of numbers
  put-numbers = refl

  -- "after 8 and before 10", which no pit put meets
  pit_numbers : numbers (rules_of (edit (put Pit t r) w)) ≡ 6 ∷ 7 ∷ 8 ∷ 17 ∷ 19 ∷ 11 ∷ 12 ∷ []
  unfolding rules_of edit_call put_call gate_rules put_edit full_of numbers
  pit_numbers = refl

  delete-numbers : numbers (rules_of (edit (delete t k) w)) ≡ 6 ∷ 7 ∷ 9 ∷ []
  unfolding rules_of edit_call delete_call gate_rules delete_edit numbers
  delete-numbers = refl

  set-numbers : numbers (rules_of (edit (set_minutes t k m) w)) ≡ 6 ∷ 7 ∷ 9 ∷ []
  unfolding rules_of edit_call set_call gate_rules set_edit numbers
  set-numbers = refl

  drop-numbers : numbers (rules_of (edit (drop_tag t) w)) ≡ 6 ∷ 7 ∷ 9 ∷ []
  unfolding rules_of edit_call drop_call gate_rules drop_edit numbers
  drop-numbers = refl

module _ (l w : List ℕ) (t u n : ℕ) (m : Merge) (out : List ℕ) where
  begin_numbers : numbers (rules_of (begin l w)) ≡ 1 ∷ 3 ∷ 5 ∷ 6 ∷ []
  unfolding rules_of begin_call gate_rules numbers
  begin_numbers = refl

  format_numbers : (L R step : ℕ) → numbers (rules_of (format l L R step n)) ≡ 14 ∷ []
  unfolding rules_of format_rules numbers
  format_numbers L R step = refl

  count_image_numbers : numbers (rules_of (count Image l t)) ≡ 1 ∷ 3 ∷ 5 ∷ []
  unfolding rules_of gate_rules numbers
  count_image_numbers = refl

  count_space_numbers : numbers (rules_of (count Space w t)) ≡ 6 ∷ 7 ∷ []
  unfolding rules_of gate_rules numbers
  count_space_numbers = refl

  rank_image_numbers : (k : ℕ) → numbers (rules_of (rank Image l t k)) ≡ 1 ∷ 3 ∷ 5 ∷ []
  unfolding rules_of gate_rules numbers
  rank_image_numbers k = refl

  rank_space_numbers : (k : ℕ) → numbers (rules_of (rank Space w t k)) ≡ 6 ∷ 7 ∷ []
  unfolding rules_of gate_rules numbers
  rank_space_numbers k = refl

  merge_image_numbers : numbers (rules_of (merge m Image l t u out)) ≡ 1 ∷ 3 ∷ 5 ∷ 15 ∷ []
  unfolding rules_of merge_in gate_rules numbers
  merge_image_numbers = refl

  merge_space_numbers : numbers (rules_of (merge m Space w t u out)) ≡ 6 ∷ 7 ∷ 15 ∷ []
  unfolding rules_of merge_in gate_rules numbers
  merge_space_numbers = refl

-- ---- refused exactly by the first rule that applies

exactly : {A : Type 0} (tells : A → Option Refusal) (f : Refusal → A) (rs : List Rule) (a : A) → ((n : Refusal) → tells (f n) ≡ some n) → tells a ≡ none → tells (first f rs a) ≡ refusal rs
exactly tells f rs a y n = by_refusal rs
    (λ r q. ap tells (first-refused f rs r a q) ∙ y r ∙ sym q)
    (λ q. ap tells (first_passed f rs a q) ∙ n ∙ sym q)

-- an outcome tells of its plan's refusal
planned : (rs : List Rule) (ss : List Store) (n : ℕ) → refusal_in (answer (first refuse rs (store ss)) n) ≡ refusal rs
unfolding answer refusal_in
planned rs ss n = exactly (λ (p : Plan). refusal_in (answer p n)) refuse rs (store ss) (λ r. refl) refl

edited : (e : Edit) (w : List ℕ) → refusal_in (answer_of e w) ≡ refusal (edit_call e w).rules
unfolding edit_call refusal_in put_call delete_call set_call drop_call
edited (put by t r) w = exactly refusal_in Err _ _ (λ n. refl) refl
edited (delete t k) w = exactly refusal_in Err _ _ (λ n. refl) refl
edited (set_minutes t k m) w = exactly refusal_in Err _ _ (λ n. refl) refl
edited (drop_tag t) w = exactly refusal_in Err _ _ (λ n. refl) refl

-- "where none applies the call isn't refused"
pub refused_exactly : (c : Call) → refused_with c ≡ refusal (rules_of c)
unfolding refused_with rules_of refusal_in begin_call merge_in count_in rank_in commit_plan recover_plan format_plan
refused_exactly (begin l w) = exactly refusal_in Err _ _ (λ n. refl) refl
refused_exactly (edit e w) = edited e w
refused_exactly (count of bs t) = exactly refusal_in Err _ _ (λ n. refl) refl
refused_exactly (rank of bs t k) = exactly refusal_in Err _ _ (λ n. refl) refl
refused_exactly (merge m of bs t u out) = exactly refusal_in Err _ _ (λ n. refl) refl
refused_exactly (commit accept l w n) = planned _ _ n
refused_exactly (recover l n) = planned _ _ n
refused_exactly (format l L R step n) = planned _ _ n

-- ---- and then nothing is changed

stays : {A : Type 0} (c : Ruled A) (old : List ℕ) (n : Refusal) → refusal c.rules ≡ some n → left c old ≡ old
stays c old n e = first-refused (λ m. old) c.rules n c.bytes e

unstored : (rs : List Rule) (ss : List Store) (n : ℕ) (r : Refusal) (l : List ℕ) → refusal rs ≡ some r → after (first refuse rs (store ss)) n l ≡ l
unfolding after
unstored rs ss n r l e = ap (λ (p : Plan). after p n l) (first-refused refuse rs r (store ss) e)

unchanged : (c : Call) (n : Refusal) → refusal (rules_of c) ≡ some n → given_back c ≡ lent c
unfolding given_back lent rules_of begin_call merge_in commit_plan recover_plan format_plan
unchanged (begin l w) n e = stays (begin_call l w) w n e
unchanged (edit e w) n q = stays (edit_call e w) w n q
unchanged (count of bs t) n e = refl
unchanged (rank of bs t k) n e = refl
unchanged (merge m of bs t u out) n e = stays (merge_in m of bs t u out) out n e
unchanged (commit accept l w n) r e = unstored _ _ n r l e
unchanged (recover l n) r e = unstored _ _ n r l e
unchanged (format l L R step n) r e = unstored _ _ n r l e

-- "Every refusal leaves all lent bytes unchanged."
pub refused_unchanged : (c : Call) (n : Refusal) → refused_with c ≡ some n → given_back c ≡ lent c
refused_unchanged c n e = unchanged c n (sym (refused_exactly c) ∙ e)
