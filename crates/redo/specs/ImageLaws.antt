-- What a right head says, and what its bytes fix.
use Rattle.std.specs.Prelude.{◌≡◌, refl, Bool, true, ◌&&◌, ◌⊎◌, ℕ, ◌+◌, ◌*◌, ◌≤◌, ◌<◌, List, length, get_or, replicate, leb, eqb}
use Rattle.std.proofs.Common.{◌∙◌, inl, inr, arith, length-drop, leb-true, le-leb, eqb-true}
use Rattle.wire.specs.Bytes.{part, over, get16, bytes16, equal, blank}
use Rattle.wire.specs.BytesLaws.{part_same, get16_same, equal_is}
use Rattle.wire.specs.Cases.{both}
use Rattle.redo.specs.Store.{Store, apply}
use Rattle.redo.specs.StoreLaws.{Go, kept, length-apply}
use Rattle.redo.specs.Image.{letters, capacity, record_pages, pages, home, in_range, image_length, head_ok, head_page}

-- sizes in range
pub record Sizes (L R : ℕ) : Type 0 where
  pub some_pages : 1 ≤ R
  pub few_pages : R ≤ 1024
  pub some_log : 1 ≤ L
  pub few_log : L ≤ 26 + R

pub in_range_lem : (L R : ℕ) → in_range L R ≡ true → Sizes L R
unfolding in_range
in_range_lem L R e =
    let a = both (leb 1 R && leb R 1024 && leb 1 L) (leb L (26 + R)) e in
    let b = both (leb 1 R && leb R 1024) (leb 1 L) a.0 in
    let c = both (leb 1 R) (leb R 1024) b.0 in
    record {
      some_pages = leb-true 1 R c.0;
      few_pages = leb-true R 1024 c.1;
      some_log = leb-true 1 L b.1;
      few_log = leb-true L (26 + R) a.1;
    }

-- a right head's letters and sizes, and the length that they give
pub record Right (l : List ℕ) : Type 0 where
  pub named : part l 0 4 ≡ letters
  pub sizes : Sizes (capacity l) (record_pages l)
  pub long : length l ≡ image_length (capacity l) (record_pages l)

pub head_right : (l : List ℕ) → head_ok l ≡ true → Right l
unfolding head_ok
head_right l e =
    let a = both (leb 64 (length l) && equal (part l 0 4) letters && in_range (capacity l) (record_pages l) && blank (part l 11 53)) (eqb (length l) (image_length (capacity l) (record_pages l))) e in
    let b = both (leb 64 (length l) && equal (part l 0 4) letters && in_range (capacity l) (record_pages l)) (blank (part l 11 53)) a.0 in
    let c = both (leb 64 (length l) && equal (part l 0 4) letters) (in_range (capacity l) (record_pages l)) b.0 in
    let d = both (leb 64 (length l)) (equal (part l 0 4) letters) c.0 in
    record {
      named = equal_is (part l 0 4) letters d.1;
      sizes = in_range_lem (capacity l) (record_pages l) c.1;
      long = eqb-true (length l) (image_length (capacity l) (record_pages l)) a.1;
    }

-- the test as the code puts it together
pub head_is : (l : List ℕ) (L R n : ℕ) (named sized clean : Bool) → 64 ≤ length l → L ≡ get16 l 4 → R ≡ get16 l 6
    → named ≡ equal (part l 0 4) letters → sized ≡ in_range L R → clean ≡ blank (part l 11 53) → n ≡ image_length L R
    → named && sized && clean && eqb (length l) n ≡ head_ok l
unfolding head_ok
head_is l L R n named sized clean g a b c d e f = rw (f, e, d, c, a, b, le-leb 64 (length l) g)

pub length-home : (l : List ℕ) → Right l → length (home l) ≡ 64 * pages l
unfolding home
length-home l r = rw length-drop (omega arith)

-- ---- the head's bytes, count and mark aside

abbrev pub Fixed : ℕ → Type 0
Fixed i = (i < 8) ⊎ ((11 ≤ i) × (i < 64))

pub record SameHead (l l' : List ℕ) : Type 0 where
  pub long : length l' ≡ length l
  pub bytes : (i : ℕ) → Fixed i → get_or l' i 0 ≡ get_or l i 0

module _ {l l' : List ℕ} (s : SameHead l l') where
  pub capacity_same : capacity l' ≡ capacity l
  capacity_same = get16_same l l' 4 (s.bytes 4 (inl (omega arith))) (s.bytes 5 (inl (omega arith)))

  pub pages_same : record_pages l' ≡ record_pages l
  pages_same = get16_same l l' 6 (s.bytes 6 (inl (omega arith))) (s.bytes 7 (inl (omega arith)))

  pub head_same : head_ok l' ≡ head_ok l
  unfolding head_ok
  head_same =
      rw (
        s.long,
        capacity_same,
        pages_same,
        part_same l l' 0 4 s.long (λ i g h. s.bytes i (inl (omega arith))),
        part_same l l' 11 53 s.long (λ i g h. s.bytes i (inr (omega arith))),
      )

-- stores that spare those bytes keep the head
pub head_kept : {ss : List Store} (l : List ℕ) → Go (λ a. Fixed a → ⊥) ss → SameHead l (apply ss l)
head_kept {ss} l g = record { long = length-apply ss l; bytes = λ i f. kept (λ a. Fixed a → ⊥) l i g (λ h. h f) }

pub same_refl : (l : List ℕ) → SameHead l l
same_refl l = record { long = refl; bytes = λ i f. refl }

pub same_trans : {l l' l'' : List ℕ} → SameHead l l' → SameHead l' l'' → SameHead l l''
same_trans s t = record { long = t.long ∙ s.long; bytes = λ i f. t.bytes i f ∙ s.bytes i f }

-- ---- an empty image

-- its head page as the code puts it together
pub head_made : (L R : ℕ) → over (over (over (replicate 64 0) 0 letters) 4 (bytes16 L)) 6 (bytes16 R) ≡ head_page L R
unfolding over bytes16 head_page letters
head_made L R = refl
