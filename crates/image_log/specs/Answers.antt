-- What each return of format, commit and recover answers and leaves.
use Rattle.std.specs.Prelude.{◌≡◌, refl, Bool, true, false, ◌&&◌, ℕ, ◌+◌, ◌-◌, ◌*◌, ◌≤◌, ◌<◌, List, [], ◌∷◌, ◌++◌, length, take, drop, leb, ltb, eqb, Ok, Err}
use Rattle.std.proofs.Common.{sym, ap, ◌∙◌, arith, length-take, length-append, length-drop}
use Rattle.std.proofs.Math.Seq.{take-nil}
use borrow.Author.Tests.{le-leb, lt-leb, lt-ltb, ltb-true, le-ltb, eq-eqb, eqb-true, ne_eqb}
use Rattle.wire.specs.BytesLaws.{length-zeros_but}
use Rattle.wire.specs.Bytes.{zeros_but, pick, bytes16}
use Rattle.wire.specs.Cases.{and_false, both}
use Rattle.refusals.specs.declared.Refusal.{Refusal}
use Rattle.refusals.specs.declared.Refusal.TheVariants.{Unrecovered, BadLog, SpaceLength, LogShort, Sizes}
use Rattle.refusals.specs.Rules.{first}
use Rattle.wire.specs.All.{All, all_map}
use Rattle.redo.specs.Store.{Store, run}
use Rattle.redo.specs.StoreLaws.{apply-none, length_run, run-append}
use Rattle.redo.specs.Image.{letters, capacity, record_pages, count, mark, pages, home_at, home, in_range, image_length, head_ok, head_page, empty_image}
use Rattle.redo.specs.ImageLaws.{Right}
use Rattle.redo.specs.Entry.{entry_at, rising, changes, Loggable}
use Rattle.redo.specs.EntryLaws.{entries_long, length-entries, rising-below}
use Rattle.redo.specs.Stores.{format_stores, clear_mark, recover_stores, commit_stores}
use Rattle.redo.specs.StoresLaws.{length_recover}
use Rattle.redo.specs.Stage.{Stage, Makes, stage_more}
use Rattle.redo.specs.Stages.{commit_needs}
use Rattle.image_log.specs.declared.Stored.TheVariants.{Done, Cut}
use Rattle.image_log.specs.Calls.{Plan, refuse, store, answer, after, formattable, format_rules, format_plan, log_of, log_ok, recover_rules, recover_plan, changed_pages, commit_rules, commit_plan, any_bytes}

-- ---- any call

pub refused_is : (p : Plan) (r : Refusal) (n : ℕ) (l : List ℕ) → p ≡ refuse r → (Err r ≡ answer p n) × (l ≡ after p n l)
unfolding answer after
refused_is p r n l e = rw e (refl, refl)

pub nothing_is : (p : Plan) (n : ℕ) (l : List ℕ) → p ≡ store [] → (Ok (Done 0) ≡ answer p n) × (l ≡ after p n l)
unfolding answer after
nothing_is p n l e = rw (e, take-nil, le-leb 0 n (omega arith)) (refl, sym (apply-none l))

pub not_store : (ss : List Store) (r : Refusal) → refuse r ≡ store ss → ⊥
not_store ss r e = cc

-- the whole call's stores as one stage: its answer and the bytes it leaves
pub stage_answer : {n n' m' : ℕ} {ss : List Store} {l l' : List ℕ} (need : ℕ) → length ss ≡ need → Stage n 0 ss l n' m' l'
    → (Ok (pick (leb need n) (Done m') (Cut m')) ≡ answer (store ss) n) × (l' ≡ after (store ss) n l)
unfolding answer after
stage_answer {n} {ss} need e s =
    let made : ◌≡◌ {A = ℕ} _ (length (take n ss)) = s.made ∙ rw (length-take n ss) (omega arith) in
    (rw (← e, made), s.bytes)

-- ---- recover

module _ (l : List ℕ) (ok : head_ok l ≡ true) where
  pub recover_clear : mark l ≡ 0 → recover_plan l ≡ store []
  unfolding recover_plan recover_rules first
  recover_clear m = rw (ok, m)

  pub recover_committed_lem : mark l ≡ 165 → log_ok l ≡ true → recover_plan l ≡ store (recover_stores (home_at l) (log_of l))
  unfolding recover_plan recover_rules first
  recover_committed_lem m e = rw (ok, m, e)

  pub recover_mislogged : mark l ≡ 165 → log_ok l ≡ false → recover_plan l ≡ refuse BadLog
  unfolding recover_plan recover_rules first
  recover_mislogged m e = rw (ok, m, e)

  pub recover_spoiled : (mark l ≡ 0 → ⊥) → (mark l ≡ 165 → ⊥) → recover_plan l ≡ store clear_mark
  unfolding recover_plan recover_rules first
  recover_spoiled f g = rw (ok, ne_eqb (mark l) 0 f, ne_eqb (mark l) 165 g)

-- the one store over a spoiled mark
pub cleared_is : {n m' : ℕ} {l l' : List ℕ} → Makes n (run 10 (0 ∷ [])) l m' l'
    → (Ok (pick (leb 1 n) (Done m') (Cut m')) ≡ answer (store clear_mark) n) × (l' ≡ after (store clear_mark) n l)
unfolding clear_mark
cleared_is s = stage_answer 1 (length_run 10 (0 ∷ [])) s

-- the log as the code finds it
module _ (l : List ℕ) where
  pub none-logged : count l ≡ 0 → log_ok l ≡ false
  unfolding log_ok
  none-logged e = rw e

  pub over-logged : capacity l < count l → log_ok l ≡ false
  unfolding log_ok
  over-logged g = rw (lt-leb (count l) (capacity l) g, and_false)

  pub mixed_logged : rising 0 (pages l) (log_of l) ≡ false → log_ok l ≡ false
  unfolding log_ok
  mixed_logged e = rw (e, and_false)

  pub well_logged : (count l ≡ 0 → ⊥) → count l ≤ capacity l → rising 0 (pages l) (log_of l) ≡ true → log_ok l ≡ true
  unfolding log_ok
  well_logged f g e = rw (le-leb 1 (count l) (omega arith), le-leb (count l) (capacity l) g, e)

  -- each page has its place in the image
  pub logged_inside : Right l → rising 0 (pages l) (log_of l) ≡ true → All (λ e. home_at l + 64 * e.page + 64 ≤ length l) (log_of l)
  logged_inside r e = all_map (λ x t. omega (arith, r.long)) (rising-below 0 (pages l) (log_of l) e)

  -- its stores were made, as far as the allowance goes
  pub recovered_is : {n n' m' : ℕ} {l' : List ℕ} (p : Plan) → p ≡ store (recover_stores (home_at l) (log_of l)) → entry_at (count l) ≤ length l
      → Stage n 0 (recover_stores (home_at l) (log_of l)) l n' m' l'
      → (Ok (pick (leb (64 * count l + 1) n) (Done m') (Cut m')) ≡ answer p n) × (l' ≡ after p n l)
  recovered_is p e g s =
      let long = length_recover (home_at l) (entries_long l 0 (count l) (omega arith)) ∙ ap (λ (k : ℕ). 64 * k + 1) (length-entries l 0 (count l)) in
      rw e (stage_answer (64 * count l + 1) long s)

-- ---- commit

pub commit_marked : (accept : List ℕ → Bool) (l w : List ℕ) → head_ok l ≡ true → (mark l ≡ 0 → ⊥) → commit_plan accept l w ≡ refuse Unrecovered
unfolding commit_plan commit_rules first
commit_marked accept l w ok f = rw (ok, ne_eqb (mark l) 0 f)

module _ (l w : List ℕ) (ok : head_ok l ≡ true) (m : mark l ≡ 0) where
  pub other_length : (length w ≡ 64 * pages l → ⊥) → commit_plan any_bytes l w ≡ refuse SpaceLength
  unfolding commit_plan commit_rules first
  other_length f = rw (ok, m, ne_eqb (length w) (64 * pages l) f)

  pub many-pages : length w ≡ 64 * pages l → capacity l < length (changed_pages l w) → commit_plan any_bytes l w ≡ refuse LogShort
  unfolding commit_plan commit_rules first
  many-pages e g = rw (ok, m, eq-eqb (length w) (64 * pages l) e, lt-ltb (capacity l) (length (changed_pages l w)) g)

  pub few_pages_is : length w ≡ 64 * pages l → length (changed_pages l w) ≤ capacity l → commit_plan any_bytes l w ≡ store (commit_stores (home_at l) (changed_pages l w))
  unfolding commit_plan commit_rules first
  few_pages_is e g = rw (ok, m, eq-eqb (length w) (64 * pages l) e, le-ltb (capacity l) (length (changed_pages l w)) g)

module _ (l w : List ℕ) where
  -- the pages as the code finds them, from the sizes that it read
  pub changed_is : (L R : ℕ) → L ≡ capacity l → R ≡ record_pages l → changes (drop (64 + 66 * L) l) w (26 + R) ≡ changed_pages l w
  unfolding home
  changed_is L R e f = rw (e, f)

-- its stores were made, as far as the allowance goes; home stands at h and has q pages, of which k differ from the workspace w
pub commit_answer : (l : List ℕ) (h : ℕ) (w : List ℕ) (q k : ℕ) → Loggable l h w q k → 0 < k → {n n' m' : ℕ} {l' : List ℕ} → Stage n 0 (commit_stores h (changes (drop h l) w q)) l n' m' l'
    → (Ok (pick (leb (130 * k + 4) n) (Done m') (Cut m')) ≡ answer (store (commit_stores h (changes (drop h l) w q))) n) × (l' ≡ after (store (commit_stores h (changes (drop h l) w q))) n l)
commit_answer l h w q k fit some s = stage_answer (130 * k + 4) (commit_needs l h w q k fit some) s

-- ---- format

pub length_head : (L R : ℕ) → length (head_page L R) ≡ 64
unfolding head_page letters bytes16
length_head L R = refl

pub length_empty : (L R p v : ℕ) → p < 64 * (26 + R) → length (empty_image L R p v) ≡ image_length L R
unfolding empty_image
length_empty L R p v g = length-append (head_page L R) (zeros_but (66 * L + p) v (image_length L R - 64)) ∙ rw length_head (omega (arith, length-zeros_but (66 * L + p) v (image_length L R - 64) (omega arith)))

pub length_format : (L R p v : ℕ) → p < 64 * (26 + R) → length (format_stores L R p v) ≡ image_length L R + 1
unfolding format_stores run letters
length_format L R p v g =
    let rest : length (run 1 (drop 1 (empty_image L R p v))) ≡ image_length L R - 1 = rw (length_run, length-drop, length_empty L R p v g) in
    omega (arith, length-append (run 1 (drop 1 (empty_image L R p v))) (run 0 (67 ∷ [])))

-- all bytes but the first: those of the head page, and zeros
format_runs : (L R p v : ℕ) → run 1 (drop 1 (empty_image L R p v)) ≡ run 1 (take 63 (drop 1 (head_page L R))) ++ run 64 (zeros_but (66 * L + p) v (image_length L R - 64))
unfolding empty_image head_page letters bytes16
format_runs L R p v = run-append 1 (drop 1 (head_page L R)) (zeros_but (66 * L + p) v (image_length L R - 64))

format_first : (L R : ℕ) → take 1 (drop 0 (head_page L R)) ≡ take 1 letters
unfolding head_page letters
format_first L R = refl

pub format_stages : {n n₁ m₁ n₂ m₂ n₃ m₃ n₄ m₄ : ℕ} {l l₁ l₂ l₃ l₄ : List ℕ} (L R p v : ℕ) → p < 64 * (26 + R)
    → Stage n 0 (run 0 (0 ∷ [])) l n₁ m₁ l₁
    → Stage n₁ m₁ (run 1 (take 63 (drop 1 (head_page L R)))) l₁ n₂ m₂ l₂
    → Stage n₂ m₂ (run 64 (zeros_but (66 * L + p) v (image_length L R - 64))) l₂ n₃ m₃ l₃
    → Stage n₃ m₃ (run 0 (take 1 (drop 0 (head_page L R)))) l₃ n₄ m₄ l₄
    → (Ok (pick (leb (image_length L R + 1) n) (Done m₄) (Cut m₄)) ≡ answer (store (format_stores L R p v)) n) × (l₄ ≡ after (store (format_stores L R p v)) n l)
unfolding format_stores
format_stages {n} {n₄ = n₄} {m₄ = m₄} {l} {l₄ = l₄} L R p v g a b c d =
    let all : Stage n 0 (format_stores L R p v) l n₄ m₄ l₄ = stage_more a (stage_more (rw (← format_runs L R p v) at (stage_more b c)) (rw (format_first L R) at d)) in
    stage_answer (image_length L R + 1) (length_format L R p v g) all

pub format_unfit : (l : List ℕ) (L R p v : ℕ) → formattable l L R p ≡ false → format_plan l L R p v ≡ refuse Sizes
unfolding format_plan format_rules first
format_unfit l L R p v e = rw e

pub format_fits : (l : List ℕ) (L R p v : ℕ) → formattable l L R p ≡ true → format_plan l L R p v ≡ store (format_stores L R p v)
unfolding format_plan format_rules first
format_fits l L R p v e = rw e

-- what fits
pub record Formattable (l : List ℕ) (L R p : ℕ) : Type 0 where
  pub sizes : in_range L R ≡ true
  pub long : length l ≡ image_length L R
  pub inside : p < 64 * (26 + R)

pub formattable-says : (l : List ℕ) (L R p : ℕ) → formattable l L R p ≡ true → Formattable l L R p
unfolding formattable
formattable-says l L R p e =
    let a = both (in_range L R) (eqb (length l) (image_length L R) && ltb p (64 * (26 + R))) e in
    let b = both (eqb (length l) (image_length L R)) (ltb p (64 * (26 + R))) a.1 in
    record { sizes = a.0; long = eqb-true (length l) (image_length L R) b.0; inside = ltb-true p (64 * (26 + R)) b.1 }

pub formattable_when : (l : List ℕ) (L R p : ℕ) → Formattable l L R p → formattable l L R p ≡ true
unfolding formattable
formattable_when l L R p f = rw (f.sizes, eq-eqb (length l) (image_length L R) f.long, lt-ltb p (64 * (26 + R)) f.inside)

-- by its tests in turn
pub formattable-none : (l : List ℕ) (L R p : ℕ) → in_range L R ≡ false → false ≡ formattable l L R p
unfolding formattable
formattable-none l L R p e = rw e

pub formattable-rest : (l : List ℕ) (L R p n m : ℕ) → in_range L R ≡ true → n ≡ image_length L R → m ≡ 64 * (26 + R) → eqb (length l) n && ltb p m ≡ formattable l L R p
unfolding formattable
formattable-rest l L R p n m e a b = rw (e, a, b)
