-- The bytes at a span are those shown, and lie inside the lent ones.
use Rattle.std.specs.Prelude.{◌≡◌, true, ◌≢◌, ℕ, ◌+◌, ◌*◌, ◌-◌, ◌≤◌, ◌<◌, length, drop, Some, None}
use Rattle.std.specs.declared.option.Option.{Option}
use Rattle.std.proofs.Math.Path.{refl, ap}
use Rattle.std.proofs.Common.{sym, ◌∙◌, arith, drop-drop, get_or-drop}
use mathlib.Core.List.{List, []}
use Rattle.std.proofs.Math.Option.{none, some}
use Rattle.wire.specs.Bytes.{part, Bytes}
use Rattle.wire.specs.BytesLaws.{part_of}
use Rattle.refusals.specs.declared.Refusal.{Refusal}
use Rattle.refusals.specs.Rules.{refusal}
use Rattle.refusals.specs.RulesLaws.{by_refusal, first-refused, first_passed}
use Rattle.records.specs.Records.{encode}
use Rattle.records.specs.Edits.{length-encode}
use Rattle.redo.specs.Image.{home}
use Rattle.redo.specs.ImageLaws.{Right, head_right, length-home}
use Rattle.home.specs.declared.lookup.Block.{Block}
use Rattle.home.specs.Bytes.{list_at}
use Rattle.home.specs.Lookup.{block_of, offset_of}
use Rattle.home.specs.LookupLaws.{sound-short}
use Rattle.home.specs.TagBlockLaws.{ListAt, list_at_lem, list-at_bytes, list-none, offset_known}
use Rattle.home.specs.Sound.{sound, list_of}
use Rattle.gates.specs.declared.Of.{Of}
use Rattle.gates.specs.declared.Of.TheVariants.{Image, Space}
use Rattle.gates.specs.Gates.{gate_rules, home_in, home_from}
use Rattle.gates.specs.GatesLaws.{image_open, home_fine}
use Rattle.reads.specs.Reads.{list_in, show_in, show_from}
use Rattle.reads.specs.ReadsLaws.{show_open, show_from_lem, show_refused, show_nowhere}
use Rattle.cix.specs.Places.{place_at, place_in, span_in}

-- ---- in a sound home

-- the records of a tag lie at its place, for a home h that begins at an offset of l
record Lies (l : List ℕ) (at : ℕ) (h : List ℕ) (t : ℕ) : Type 0 where
  inside : place_at at (block_of h t) + 8 * length (list_of h t) ≤ length l
  bytes : part l (place_at at (block_of h t)) (8 * length (list_of h t)) ≡ encode (list_of h t)

lies : (l : List ℕ) (at : ℕ) (h : List ℕ) (t : ℕ) → Bytes h → sound h ≡ true → h ≡ drop at l → length l ≡ at + length h → Lies l at h t
unfolding place_at part encode
lies l at h t b s e k = go (block_of h t) refl
  where
    go : (x : Option Block) → block_of h t ≡ x → Lies l at h t
    go (Some x) f =
        let y : ListAt h t x.cell x.count = list_at_lem h t x.cell x.count s f in
        let q : drop (at + list_at x.cell) l ≡ drop (list_at x.cell) h = sym (drop-drop (list_at x.cell) at l) ∙ ap (drop (list_at x.cell)) (sym e) in
        record {
          inside = rw (f, ← y.count) (omega (arith, y.inside));
          bytes = rw (f, ← y.count, q) (sym (part_of h (list_at x.cell) (8 * x.count)) ∙ list-at_bytes h t x.cell x.count b y);
        }
    go None f =
        let y : list_of h t ≡ [] = list-none h t s f in
        record { inside = rw (f, y) (omega arith); bytes = rw (f, y) refl }

pub list-short : (h : List ℕ) (t : ℕ) → sound h ≡ true → length (list_of h t) < 10000
list-short h t s = go (block_of h t) refl
  where
    go : (x : Option Block) → block_of h t ≡ x → length (list_of h t) < 10000
    go (Some b) f = let y : ListAt h t b.cell b.count = list_at_lem h t b.cell b.count s f in omega (arith, y.inside, y.count, y.short)
    go None f = rw (list-none h t s f) (omega arith)

-- ---- home in what is lent

pub record Lent (of : Of) (bs : List ℕ) : Type 0 where
  pub part : home_in of bs ≡ drop (home_from of bs) bs
  pub long : length bs ≡ home_from of bs + length (home_in of bs)
  pub near : home_from of bs < 100000

pub lent : (of : Of) (bs : List ℕ) → refusal (gate_rules of bs) ≡ none → Lent of bs
unfolding home_in home_from home
lent Image l p =
    let r : Right l = head_right l (image_open l p).head in
    record { part = refl; long = omega (arith, r.long, length-home l r); near = omega (arith, r.sizes.few_log, r.sizes.few_pages) }
lent Space w p = record { part = refl; long = omega arith; near = omega arith }

-- ---- what the code needs

module _ (of : Of) (bs : List ℕ) (t : ℕ) where
  module _ (p : refusal (gate_rules of bs) ≡ none) (h : List ℕ) (same : h ≡ home_in of bs) where
    pub home_within : length h ≤ length bs
    home_within = omega (arith, (lent of bs p).long, ap length same)

    lent_long : home_from of bs ≡ length bs - length h
    lent_long = omega (arith, (lent of bs p).long, ap length same)

    pub span_room : (b : Block) → block_of h t ≡ Some b → (length bs - length h + list_at b.cell < 1000000) × (b.count < 1000000)
    span_room b e =
        let y : ListAt h t b.cell b.count = list_at_lem h t b.cell b.count (ap sound same ∙ home_fine of bs p) e in
        (omega (arith, lent_long, (lent of bs p).near, y.inside, y.short), omega (arith, y.inside, y.short))

    pub span_known : (b : Block) (r : ℕ) → block_of h t ≡ Some b → r ≡ (length bs - length h + list_at b.cell) * 4294967296 + 8 * b.count → r ≡ span_in of bs t
    unfolding span_in place_in place_at
    span_known b r f e =
        let found : block_of (home_in of bs) t ≡ Some b = ap (λ (x : List ℕ). block_of x t) (sym same) ∙ f in
        let y : ListAt (home_in of bs) t b.cell b.count = list_at_lem (home_in of bs) t b.cell b.count (home_fine of bs p) found in
        e ∙ rw (← lent_long, first_passed (λ m. 0) (gate_rules of bs) (place_at (home_from of bs) (block_of (home_in of bs) t)) p, found, show_open of bs t p, length-encode (list_in of bs t), ← y.count) refl

    pub span_unknown : block_of h t ≡ None → 0 ≡ span_in of bs t
    unfolding span_in place_in place_at encode
    span_unknown b =
        let unknown : block_of (home_in of bs) t ≡ None = ap (λ (x : List ℕ). block_of x t) (sym same) ∙ b in
        rw (first_passed (λ m. 0) (gate_rules of bs) (place_at (home_from of bs) (block_of (home_in of bs) t)) p, unknown, show_open of bs t p, list-none (home_in of bs) t (home_fine of bs p) unknown) refl

  pub span_refused : (r : Refusal) → refusal (gate_rules of bs) ≡ some r → 0 ≡ span_in of bs t
  unfolding span_in place_in
  span_refused r e = rw (first-refused (λ m. 0) (gate_rules of bs) r (place_at (home_from of bs) (block_of (home_in of bs) t)) e, show_refused of bs t r e) refl

-- ---- the theorem: the bytes at the place are those shown, and place and length fit 32 bits

pub record Shows (l : List ℕ) (p : ℕ) (bs : List ℕ) : Type 0 where
  pub bytes : part l p (length bs) ≡ bs
  pub inside : p + length bs ≤ length l
  pub short : p + length bs < 4294967296

nothing : (l : List ℕ) → Shows l 0 []
unfolding part
nothing l = record { bytes = refl; inside = omega arith; short = omega arith }

pub shows : (of : Of) (bs : List ℕ) (t : ℕ) → Bytes bs → Shows bs (place_in of bs t) (show_in of bs t)
unfolding place_in
shows of bs t b = by_refusal (gate_rules of bs)
    (λ n e. rw (first-refused (λ m. 0) (gate_rules of bs) n (place_at (home_from of bs) (block_of (home_in of bs) t)) e, show_refused of bs t n e) (nothing bs))
    (λ e. rw (first_passed (λ m. 0) (gate_rules of bs) (place_at (home_from of bs) (block_of (home_in of bs) t)) e, show_open of bs t e)
    (let k : Lent of bs = lent of bs e in
    let s : sound (home_in of bs) ≡ true = home_fine of bs e in
    let y : Lies bs (home_from of bs) (home_in of bs) t = lies bs (home_from of bs) (home_in of bs) t (λ i. rw (k.part, get_or-drop (home_from of bs) bs i 0) (b (home_from of bs + i))) s k.part k.long in
    record {
      bytes = rw (length-encode (list_in of bs t)) y.bytes;
      inside = rw (length-encode (list_in of bs t)) y.inside;
      short = rw (length-encode (list_in of bs t)) (omega (arith, y.inside, k.long, k.near, sound-short (home_in of bs) s));
    }))

-- and the place of a list that is not empty is where show's part begins
pub place_shown : (of : Of) (bs : List ℕ) (t : ℕ) → list_in of bs t ≢ [] → place_in of bs t ≡ show_from of bs t
unfolding place_in place_at
place_shown of bs t some-listed = by_refusal (gate_rules of bs)
    (λ n e. first-refused (λ m. 0) (gate_rules of bs) n (place_at (home_from of bs) (block_of (home_in of bs) t)) e ∙ sym (show_nowhere of bs t n e))
    (λ e. first_passed (λ m. 0) (gate_rules of bs) (place_at (home_from of bs) (block_of (home_in of bs) t)) e ∙ go e (block_of (home_in of bs) t) refl ∙ sym (show_from_lem of bs t e))
  where
    go : refusal (gate_rules of bs) ≡ none → (x : Option Block) → block_of (home_in of bs) t ≡ x → place_at (home_from of bs) x ≡ home_from of bs + offset_of (home_in of bs) t
    go e (Some b) q = ap (λ (o : ℕ). home_from of bs + o) (sym (offset_known (home_in of bs) t b.cell b.count q))
    go e None q = absurd (some-listed (list-none (home_in of bs) t (home_fine of bs e) q))
