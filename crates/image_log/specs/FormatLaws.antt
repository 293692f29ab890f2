-- What a format leaves: an empty image once it is finished, and, cut after a store, bytes that every other call refuses with 1.
use Rattle.std.specs.Prelude.{◌≡◌, Bool, true, false, take, get_or, set, Err}
use Rattle.std.proofs.Math.Path.{refl, sym, ap}
use Rattle.std.proofs.Common.{◌∙◌, drop_at, drop-drop}
use Prim.Native.Nat.{ℕ, zero, suc, ◌+◌, ◌-◌, ◌*◌, ◌≤◌, ◌<◌}
use native.Mathlib.Omega.{arith}
use mathlib.Core.List.{List, [], ◌∷◌, ◌++◌}
use Rattle.std.proofs.Math.ListN.{length, drop, length-drop}
use Rattle.std.proofs.Math.Seq.{take_all, take-append-le, get_or-set_same}
use borrow.Author.Tests.{le-leb, eq-eqb}
use Rattle.wire.specs.Bytes.{part, over, get16, bytes16, equal, blank, zeros_but}
use Rattle.wire.specs.BytesLaws.{over_whole, part_at, drop-zeros_but}
use Rattle.wire.specs.Cases.{by_test}
use Rattle.refusals.specs.Rules.{first}
use Rattle.wire.specs.All.{all_take}
use Rattle.redo.specs.Store.{apply, run}
use Rattle.redo.specs.StoreLaws.{apply-none, apply-append, apply-run, go_run, kept, length_run}
use Rattle.redo.specs.Image.{letters, capacity, record_pages, count, mark, home, in_range, image_length, head_ok, head_page, empty_image}
use Rattle.redo.specs.ImageLaws.{in_range_lem, head_right}
use Rattle.redo.specs.Stores.{format_stores}
use Rattle.refusals.specs.declared.Refusal.TheVariants.{BadHead}
use Rattle.image_log.specs.Head.{head_of}
use Rattle.image_log.specs.HeadLaws.{head_bad, bad_head}
use Rattle.image_log.specs.Calls.{refuse, after, formattable, format_plan, recover_rules, recover_plan, commit_rules, commit_plan}
use Rattle.image_log.specs.Answers.{length_head, length_empty, length_format, format_fits, formattable_when}

-- ---- finished

whole : (l : List ℕ) (L R p v : ℕ) → p < 64 * (26 + R) → length l ≡ image_length L R → apply (format_stores L R p v) l ≡ empty_image L R p v
unfolding format_stores empty_image head_page letters bytes16 run apply over
whole [] L R p v g e = absurd (omega arith)
whole (x ∷ l) L R p v g e =
    let D : List ℕ = drop 1 (empty_image L R p v) in
    let long : length D ≡ length l = omega (arith, length-drop 1 (empty_image L R p v), length_empty L R p v g) in
    apply-append (run 1 D) (run 0 (67 ∷ [])) (0 ∷ l)
    ∙ ap (apply (run 0 (67 ∷ []))) (apply-run 1 D (0 ∷ l) ∙ ap (λ (z : List ℕ). 0 ∷ z) (over_whole l D long))

-- byte 0 is the letter C
other_letter : (x : List ℕ) → get_or x 0 0 ≡ 0 → head_ok x ≡ false
unfolding letters
other_letter x e = by_test (head_ok x)
    (λ t. absurd (omega (arith, sym (part_at x 0 4 0 (omega arith)) ∙ ap (λ (z : List ℕ). get_or z 0 0) (head_right x t).named, e)))
    (λ t. t)

module _ (l : List ℕ) (L R p v : ℕ) (small : p < 64 * (26 + R)) (fits : in_range L R ≡ true) (long : length l ≡ image_length L R) where
  fits_all : formattable l L R p ≡ true
  fits_all = formattable_when l L R p (record { sizes = fits; long = long; inside = small })

  pub format_done : (n : ℕ) → image_length L R + 1 ≤ n → after (format_plan l L R p v) n l ≡ empty_image L R p v
  unfolding after
  format_done n g =
      rw (format_fits l L R p v fits_all, take_all n (format_stores L R p v) (omega (arith, length_format L R p v small)))
      (whole l L R p v small long)

  -- no store made: the old bytes
  pub format_none : after (format_plan l L R p v) 0 l ≡ l
  unfolding after
  format_none = rw (format_fits l L R p v fits_all) (apply-none l)

  -- cut after a store: byte 0 is 0
  first-zero : (n : ℕ) → 1 ≤ n → n ≤ image_length L R → get_or (after (format_plan l L R p v) n l) 0 0 ≡ 0
  unfolding after format_stores run apply
  first-zero zero g h = absurd (omega arith)
  first-zero (suc n) g h =
      let D : List ℕ = drop 1 (empty_image L R p v) in
      let short : n ≤ length (run 1 D) = rw (length_run, length-drop, length_empty L R p v small) (omega arith) in
      rw (format_fits l L R p v fits_all, take-append-le n (run 1 D) (run 0 (take 1 letters)) short)
      (kept (λ a. 1 ≤ a) (set l 0 0) 0 (all_take n (go_run (λ a. 1 ≤ a) 1 D (λ i a b. a))) (λ a. omega arith) ∙ get_or-set_same l 0 0 0 (omega arith))

  pub format_cut : (n : ℕ) → 1 ≤ n → n ≤ image_length L R → head_of (after (format_plan l L R p v) n l) ≡ Err BadHead
  format_cut n g h = head_bad (after (format_plan l L R p v) n l) (other_letter (after (format_plan l L R p v) n l) (first-zero n g h))

-- so commit and recover refuse it with 1
module _ (x : List ℕ) (e : head_of x ≡ Err BadHead) where
  pub unformatted_recover : recover_plan x ≡ refuse BadHead
  unfolding recover_plan recover_rules first
  unformatted_recover = rw (bad_head x e)

  pub unformatted_commit : (accept : List ℕ → Bool) (w : List ℕ) → commit_plan accept x w ≡ refuse BadHead
  unfolding commit_plan commit_rules first
  unformatted_commit accept w = rw (bad_head x e)

-- ---- the empty image

module _ (L R p v : ℕ) (small : p < 64 * (26 + R)) (fits : in_range L R ≡ true) where
  pub empty_capacity : capacity (empty_image L R p v) ≡ L
  unfolding empty_image head_page letters bytes16 get16
  empty_capacity = let s = in_range_lem L R fits in omega arith

  pub empty_pages : record_pages (empty_image L R p v) ≡ R
  unfolding empty_image head_page letters bytes16 get16
  empty_pages = let s = in_range_lem L R fits in omega arith

  pub empty_mark : mark (empty_image L R p v) ≡ 0
  unfolding empty_image head_page letters bytes16
  empty_mark = refl

  pub empty_count : count (empty_image L R p v) ≡ 0
  unfolding empty_image head_page letters bytes16 get16
  empty_count = refl

  empty_letters : equal (part (empty_image L R p v) 0 4) letters ≡ true
  unfolding part empty_image head_page letters equal
  empty_letters = refl

  empty_rest : blank (part (empty_image L R p v) 11 53) ≡ true
  unfolding part empty_image head_page letters bytes16 blank
  empty_rest = refl

  pub empty_head : head_ok (empty_image L R p v) ≡ true
  unfolding head_ok
  empty_head =
      let s = in_range_lem L R fits in
      rw (length_empty L R p v small, empty_capacity, empty_pages, fits, empty_letters, empty_rest, le-leb 64 (image_length L R) (omega arith))
      (eq-eqb (image_length L R) (image_length L R) refl)

  pub empty_home : home (empty_image L R p v) ≡ zeros_but p v (64 * (26 + R))
  unfolding home empty_image
  empty_home =
      let n : ℕ = image_length L R - 64 in
      let e : n - 66 * L ≡ 64 * (26 + R) = omega arith in
      ap (λ (k : ℕ). drop (64 + 66 * k) (empty_image L R p v)) empty_capacity
      ∙ sym (drop-drop (66 * L) 64 (head_page L R ++ zeros_but (66 * L + p) v n))
      ∙ ap (drop (66 * L)) (drop_at (head_page L R) (zeros_but (66 * L + p) v n) 64 (length_head L R))
      ∙ drop-zeros_but (66 * L) p v n
      ∙ ap (zeros_but p v) e
