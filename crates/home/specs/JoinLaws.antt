-- Home's bytes as its five parts, and bytes written in one of them.
use Rattle.std.specs.Prelude.{◌≡◌, refl, ℕ, ◌+◌, ◌≤◌, ◌<◌, length, drop}
use Rattle.std.proofs.Math.Path.{sym, ap}
use Rattle.std.proofs.Common.{◌∙◌, arith, get_or-drop}
use mathlib.Core.List.{List, ◌++◌, append_assoc}
use Rattle.std.proofs.Math.ListN.{get_or, length-append}
use Rattle.std.proofs.Math.Seq.{drop_at}
use Rattle.wire.specs.Bytes.{part, over, get16, get32, bytes16}
use Rattle.wire.specs.BytesLaws.{over_whole, length-bytes16, over-behind, over-ahead, part-behind, part-ahead}
use Rattle.home.specs.Bytes.{step_bytes, step_of}
use Rattle.home.specs.BytesLaws.{get16-front, get32-drop}

-- ---- the five parts: tag count, zone entries, step code, dictionary, area

unfoldable pub join : ℕ → ℕ → List ℕ → List ℕ → List ℕ → List ℕ
join step n es ds a = bytes16 n ++ (es ++ (step_bytes step ++ (ds ++ a)))

pub join-zones : (step n : ℕ) (es ds a : List ℕ) → drop 2 (join step n es ds a) ≡ es ++ (step_bytes step ++ (ds ++ a))
unfolding join bytes16
join-zones step n es ds a = refl

module _ (step n : ℕ) (es ds a : List ℕ) (le : length es ≡ 120) (ld : length ds ≡ 1536) where
  -- all before the dictionary, and all before the area
  lead : List ℕ
  lead = bytes16 n ++ (es ++ step_bytes step)

  lead2 : List ℕ
  lead2 = bytes16 n ++ (es ++ (step_bytes step ++ ds))

  length_lead : length lead ≡ 128
  unfolding lead
  length_lead = simp length-append (omega (arith, length-bytes16 n))

  length_lead2 : length lead2 ≡ 1664
  unfolding lead2
  length_lead2 = simp length-append (omega (arith, length-bytes16 n))

  split : join step n es ds a ≡ lead ++ (ds ++ a)
  unfolding join lead
  split = simp append_assoc

  split2 : join step n es ds a ≡ lead2 ++ a
  unfolding join lead2
  split2 = simp append_assoc

  pub join-area-at : drop 1664 (join step n es ds a) ≡ a
  join-area-at = ap (drop 1664) split2 ∙ drop_at lead2 a 1664 length_lead2

  pub join-dictionary : drop 128 (join step n es ds a) ≡ ds ++ a
  join-dictionary = ap (drop 128) split ∙ drop_at lead (ds ++ a) 128 length_lead

  pub join-area : (k : ℕ) (bs : List ℕ) → over (join step n es ds a) (1664 + k) bs ≡ join step n es ds (over a k bs)
  unfolding join lead2
  join-area k bs = ap (λ (x : List ℕ). over x (1664 + k) bs) split2 ∙ over-behind lead2 a 1664 k bs length_lead2 ∙ simp append_assoc

  pub join-entry : (k : ℕ) (bs : List ℕ) → k + length bs ≤ 1536 → over (join step n es ds a) (128 + k) bs ≡ join step n es (over ds k bs) a
  unfolding join lead
  join-entry k bs g = ap (λ (x : List ℕ). over x (128 + k) bs) split ∙ over-behind lead (ds ++ a) 128 k bs length_lead
      ∙ ap (λ (x : List ℕ). lead ++ x) (over-ahead ds a k bs (omega arith)) ∙ simp append_assoc

  pub join-zone : (k : ℕ) (bs : List ℕ) → k + length bs ≤ 120 → over (join step n es ds a) (2 + k) bs ≡ join step n (over es k bs) ds a
  unfolding join
  join-zone k bs g = over-behind (bytes16 n) (es ++ (step_bytes step ++ (ds ++ a))) 2 k bs (length-bytes16 n)
      ∙ ap (λ (x : List ℕ). bytes16 n ++ x) (over-ahead es (step_bytes step ++ (ds ++ a)) k bs (omega arith))

  pub join-count : (m : ℕ) → over (join step n es ds a) 0 (bytes16 m) ≡ join step m es ds a
  unfolding join
  join-count m = over-ahead (bytes16 n) (es ++ (step_bytes step ++ (ds ++ a))) 0 (bytes16 m) (omega (arith, length-bytes16 n, length-bytes16 m))
      ∙ ap (λ (x : List ℕ). x ++ (es ++ (step_bytes step ++ (ds ++ a)))) (over_whole (bytes16 n) (bytes16 m) (length-bytes16 m ∙ sym (length-bytes16 n)))

  pub join-part : (k m : ℕ) → part (join step n es ds a) (1664 + k) m ≡ part a k m
  join-part k m = ap (λ (x : List ℕ). part x (1664 + k) m) split2 ∙ part-behind lead2 a 1664 k m length_lead2

  pub join_words : (k m : ℕ) → k + m ≤ 1536 → part (join step n es ds a) (128 + k) m ≡ part ds k m
  join_words k m g = ap (λ (x : List ℕ). part x (128 + k) m) split ∙ part-behind lead (ds ++ a) 128 k m length_lead ∙ part-ahead ds a k m (omega arith)

  pub join-tags : n < 65536 → get16 (join step n es ds a) 0 ≡ n
  unfolding join
  join-tags g = get16-front n (es ++ (step_bytes step ++ (ds ++ a))) g

  pub join_step : step_of (join step n es ds a) ≡ step
  unfolding join bytes16
  join_step =
      sym (get_or-drop 122 (join step n es ds a) 0 0)
      ∙ ap (λ (x : List ℕ). get_or x 0 0)
      (ap (drop 122) (sym (append_assoc (bytes16 n) es (step_bytes step ++ (ds ++ a)))) ∙ drop_at (bytes16 n ++ es) (step_bytes step ++ (ds ++ a)) 122 (rw length-append (omega (arith, length-bytes16 n))))

  pub join_bears : (k : ℕ) → get32 (join step n es ds a) (1664 + k) ≡ get32 a k
  join_bears k = sym (get32-drop (join step n es ds a) 1664 k) ∙ ap (λ (x : List ℕ). get32 x k) join-area-at

  pub join-length : length (join step n es ds a) ≡ 1664 + length a
  join-length = ap length split2 ∙ length-append lead2 a ∙ ap (λ (k : ℕ). k + length a) length_lead2
