-- A block taken out of its zone.
use Rattle.std.specs.Prelude.{◌≡◌, refl, false, get_or, take, replicate}
use Rattle.std.proofs.Math.Path.{sym, ap, subst}
use Rattle.std.proofs.Common.{ap₂, ◌∙◌, length-append, lt-ltb, le-ltb}
use mathlib.Core.List.{List, [], ◌∷◌, ◌++◌, append_assoc, append-nil}
use Prim.Native.Nat.{ℕ, zero, suc, ◌+◌, ◌*◌, ◌-◌, ◌≤◌, ◌<◌}
use native.Mathlib.Omega.{arith}
use Rattle.std.proofs.Math.Numerals.{add-one}
use Rattle.std.proofs.Math.ListN.{length}
use Rattle.wire.specs.Bytes.{over, get16}
use Rattle.wire.specs.All.{all_tail}
use Rattle.layout.specs.Capacities.{cells}
use Rattle.layout.specs.CapacitiesLaws.{cells_pos}
use Rattle.layout.specs.Zones.{Block, Zone, empty, zone, blocks, has_tag, last_of, init_of, turned, end_of, close, take_out}
use Rattle.layout.specs.Perm.{Perm, pskip, ptrans, Pairs}
use Rattle.layout.specs.PermLaws.{psym, pleft, pright, pfront, plength, pall, pairs_tail}
use Rattle.layout.specs.FindLaws.{pdistinct}
use Rattle.layout.proofs.TakeLaws.{turned_perm}
use Rattle.layout.specs.Valid.{Other}
use Rattle.home.specs.Layout.{Sits, Fit, Loose}
use Rattle.home.specs.Sound.{pages_of}
use Rattle.home.specs.Bytes.{row, spots, encode, decode, cell_at, first_at, many_at}
use Rattle.home.specs.AreaLaws.{fit_le}
use Rattle.home.specs.Lookup.{Ordered, index_of}
use Rattle.home.specs.EncodeLaws.{decode_loose, pages_loose, length_loose}
use Rattle.moves.specs.Moves.{Movable, zoned, moved, unentered}
use Rattle.moves.specs.SpotLaws.{spot}
use Rattle.moves.specs.HomeLaws.{movable_without}
use Rattle.moves.specs.Stored.{end_after, Stored}
use Rattle.seats.specs.Seat.{first_with, end_from}
use Rattle.seats.specs.SeatLaws.{first-none as seated_none, first_some as seated_some}
use Rattle.seats.specs.LayoutLaws.{stored_ends}
use Rattle.moves.specs.AtLaws.{take_here, take_next, drop-next, zone_here, end_next}
use Rattle.moves.specs.Close.{zone_of, closed_bytes, Open}
use Rattle.zones.specs.Known.{first_if, Known, lacking, out_bytes, filled}
use Rattle.zones.specs.KnownLaws.{lacking_there, take_out_there}
use Rattle.zones.specs.BlockLaws.{Lying, known_spots, known_lying, others-of}
use Rattle.moves.specs.LayoutMoves.{first_of, many_of, first-zone, many-zone, fill_spots, home_last_gone, home-place-filled}
use Rattle.moves.specs.LooseLaws.{zone-at, zone-blocks, movable, blocks-append, fit_above, fit_joined, fit_lower}

-- the zone's other blocks: the last of those behind it first
others : (pre : List Block) (b : Block) (post : List Block) → Perm (b ∷ (pre ++ turned post)) (pre ++ b ∷ post)
others pre b post = ptrans (pskip b (pleft pre (turned_perm post))) (psym (pfront b pre post))

-- fewer blocks fit where more did
fit_less : (step n c e f : ℕ) (bs bs' : List Block) (hs : List Zone) → (b : Block) → Perm (b ∷ bs') bs → Fit step n c e (zone f bs ∷ hs) → Fit step n c e (zone f bs' ∷ hs)
unfolding zone
fit_less step n c e f [] bs' hs b p h = absurd (omega (arith, plength p))
fit_less step n c e f (x ∷ xs) [] hs b p h = fit_lower step n (suc c) (f + suc (length xs) * cells step c) e hs (omega (arith, h.0.after)) h.1
fit_less step n c e f (x ∷ xs) (y ∷ ys) hs b p h =
    let l : suc (suc (length ys)) ≡ suc (length xs) = plength p in (
      record { after = h.0.after; sit = all_tail (pall (Sits step c) (psym p) h.0.sit) },
      fit_lower step n (suc c) (f + suc (length xs) * cells step c) (f + suc (length ys) * cells step c) hs (rw (← l) (omega arith)) h.1,
    )

module _ (step R : ℕ) (ls : List Zone) (f : ℕ) (pre : List Block) (b : Block) (post : List Block) (hs : List Zone) where
  abbrev was : List Zone
  was = ls ++ zone f (pre ++ b ∷ post) ∷ hs

  abbrev now : List Zone
  now = ls ++ zone f (pre ++ turned post) ∷ hs

  out_blocks : Perm (b ∷ blocks now) (blocks was)
  out_blocks =
      let at : (bs : List Block) → blocks (ls ++ zone f bs ∷ hs) ≡ blocks ls ++ (bs ++ blocks hs) =
      λ bs. blocks-append ls (zone f bs ∷ hs) ∙ ap (λ (l : List Block). blocks ls ++ l) (zone-blocks f bs hs) in
      subst (λ (l : List Block). Perm l (blocks was)) (ap (λ (l : List Block). b ∷ l) (sym (at (pre ++ turned post))))
      (subst (Perm (b ∷ (blocks ls ++ ((pre ++ turned post) ++ blocks hs)))) (sym (at (pre ++ b ∷ post)))
      (ptrans (psym (pfront b (blocks ls) ((pre ++ turned post) ++ blocks hs))) (pleft (blocks ls) (pright (blocks hs) (others pre b post)))))

  pub loose_out : Loose step R was → Loose step R now
  loose_out v =
      let d : Pairs Other (b ∷ blocks now) = pdistinct (psym out_blocks) v.distinct in
      record {
        classes = omega (arith, v.classes, length-append ls (zone f (pre ++ b ∷ post) ∷ hs), length-append ls (zone f (pre ++ turned post) ∷ hs));
        fit = fit_joined step (8 * R) 0 0 (length ls) ls (zone f (pre ++ b ∷ post) ∷ hs) (zone f (pre ++ turned post) ∷ hs) (omega arith) v.fit
            (fit_less step (8 * R) (length ls) (end_after step 0 0 ls) f (pre ++ b ∷ post) (pre ++ turned post) hs b (others pre b post)
            (fit_above step (8 * R) 0 0 (length ls) ls (zone f (pre ++ b ∷ post) ∷ hs) (omega arith) v.fit));
        distinct = pairs_tail Other b (blocks now) d;
        few = omega (arith, plength out_blocks, v.few);
      }

-- ---- the bytes

pub filled_here : (step : ℕ) (h : List ℕ) (c last p : ℕ) → last ≤ p → filled step h c last p ≡ over h (cell_at p) (replicate (8 * cells step c) 0)
unfolding filled
filled_here step h c last p g = rw (le-ltb p last g)

pub filled-other : (step : ℕ) (h : List ℕ) (c last p : ℕ) → p < last → filled step h c last p ≡ moved step h c last p
unfolding filled
filled-other step h c last p g = rw (lt-ltb p last g)

first-of : (f : ℕ) (bs : List Block) → first_of (zone f bs) ≡ first_if f (length bs)
unfolding first_of zone first_if
first-of f [] = refl
first-of f (x ∷ xs) = refl

pub first-none : (f n : ℕ) → n ≡ 0 → first_if f n ≡ 0
unfolding first_if
first-none f n q = rw q refl

pub first_some : (f n : ℕ) → 0 < n → first_if f n ≡ f
unfolding first_if
first_some f zero g = absurd (omega arith)
first_some f (suc n) g = refl

-- it is what the code that seats a block sets, with 0 for a zone that is empty now
pub first_is : (f n : ℕ) → first_with n f 0 ≡ first_if f n
unfolding first_if
first_is f zero = seated_none 0 f 0 refl
first_is f (suc n) = seated_some (suc n) f 0 (λ e. absurd (omega (arith, e)))

-- a zone ends in the area
zone_inside : (step n c e f : ℕ) (bs : List Block) (hs : List Zone) → 0 < length bs → Fit step n c e (zone f bs ∷ hs) → f + length bs * cells step c ≤ n
unfolding zone
zone_inside step n c e f [] hs g h = absurd (omega arith)
zone_inside step n c e f (x ∷ xs) hs g h = fit_le step n (suc c) (f + suc (length xs) * cells step c) hs h.1

module _ (step R : ℕ) (small : R ≤ 1024) (ls : List Zone) (f : ℕ) (pre : List Block) (b : Block) (hs : List Zone) where
  abbrev c : ℕ
  c = length ls

  abbrev p : ℕ
  p = f + length pre * cells step c

  -- the zone's last block begins here, if it has n others
  abbrev last_at : ℕ → ℕ
  last_at n = f + n * cells step c

  out_bytes_lem : (post : List Block) (n : ℕ) → n ≡ length pre + length post → Loose step R (was step R ls f pre b post hs)
      → zoned (filled step (unentered (encode step R (was step R ls f pre b post hs)) b.tag) c (last_at n) p) c (first_if f n) n ≡ encode step R (now step R ls f pre b post hs)
  unfolding turned
  out_bytes_lem [] n e v =
      let z : pre ++ [] ≡ pre = append-nil pre in
      let v' : Loose step R (ls ++ zone f pre ∷ hs) = subst (λ (l : List Block). Loose step R (ls ++ zone f l ∷ hs)) z (loose_out step R ls f pre b [] hs v) in
      let q : n ≡ length pre = omega arith in
      rw q (ap (λ (l : List ℕ). zoned l c (first_if f (length pre)) (length pre)) (filled_here step (unentered (encode step R (was step R ls f pre b [] hs)) b.tag) c p p (omega arith))
      ∙ ap (λ (g : ℕ). zoned (over (unentered (encode step R (was step R ls f pre b [] hs)) b.tag) (cell_at p) (replicate (8 * cells step c) 0)) c g (length pre)) (sym (first-of f pre))
      ∙ sym (home_last_gone step R small ls f pre b hs v v') ∙ ap (λ (l : List Block). encode step R (ls ++ zone f l ∷ hs)) (sym z))
  out_bytes_lem (y ∷ ys) n e v =
      let h : List ℕ = unentered (encode step R (was step R ls f pre b (y ∷ ys) hs)) b.tag in
      let q : n ≡ length pre + suc (length ys) = e in
      let a : last_at (length pre + suc (length ys)) ≡ p + cells step c + length ys * cells step c = omega arith in
      let g : p < last_at (length pre + suc (length ys)) = omega (arith, cells_pos step c) in
      let i : first_if f (length pre + suc (length ys)) ≡ f = first_some f (length pre + suc (length ys)) (omega arith) in
      rw q (ap₂ (λ (l : List ℕ) (k : ℕ). zoned l c k (length pre + suc (length ys))) (filled-other step h c (last_at (length pre + suc (length ys))) p g ∙ ap (λ (k : ℕ). moved step h c k p) a) i
      ∙ sym (home-place-filled step R small ls f pre b y ys hs v (loose_out step R ls f pre b (y ∷ ys) hs v)))

  -- the last block can be moved once b's entry is out
  out_movable : (post : List Block) (n : ℕ) → n ≡ length pre + length post → Loose step R (was step R ls f pre b post hs) → p < last_at n → Movable (unentered (encode step R (was step R ls f pre b post hs)) b.tag) (last_at n)
  out_movable [] n e v g = let q : n ≡ length pre = omega arith in absurd (omega (arith, ap (λ (k : ℕ). k * cells step c) q))
  out_movable (y ∷ ys) n e v g =
      let a : p + cells step c + length ys * cells step c ≡ last_at (length pre + suc (length ys)) = omega arith in
      rw (e, ← a) (movable_without step R small (was step R ls f pre b (y ∷ ys) hs) v c p (p + cells step c + length ys * cells step c) b (last_of y ys)
      (spots step 0 ls ++ ((row step c f pre ++ row step c (p + cells step c) (init_of y ys)) ++ spots step (suc c) hs)) (fill_spots step R small ls f pre b y ys hs))

  out_inside : (post : List Block) (n : ℕ) → n ≡ length pre + length post → Loose step R (was step R ls f pre b post hs) → cell_at (last_at n) + 8 * cells step c ≤ length (encode step R (was step R ls f pre b post hs))
  out_inside post n e v =
      let l : length (pre ++ b ∷ post) ≡ suc n = length-append pre (b ∷ post) ∙ omega arith in
      let i : f + suc n * cells step c ≤ 8 * R = subst (λ (k : ℕ). f + k * cells step c ≤ 8 * R) l
      (zone_inside step (8 * R) c (end_after step 0 0 ls) f (pre ++ b ∷ post) hs (omega arith) (fit_above step (8 * R) 0 0 c ls (zone f (pre ++ b ∷ post) ∷ hs) (omega arith) v.fit)) in
      omega (arith, length_loose step R (was step R ls f pre b post hs) v)

-- ---- what the code that takes a block out knows: f is its zone's first cell, n the number of the zone's other blocks

pub record Out (step R : ℕ) (h : List ℕ) (zs : List Zone) (t c p f n : ℕ) : Type 0 where
  pub ordered : Ordered h
  pub found : index_of h t < get16 h 0
  pub place : cell_at p + 8 * cells step c ≤ length h
  pub last : cell_at (f + n * cells step c) + 8 * cells step c ≤ length h
  pub moves : p < f + n * cells step c → Movable (unentered h t) (f + n * cells step c)
  pub bytes : zoned (filled step (unentered h t) c (f + n * cells step c) p) c (first_if f n) n ≡ out_bytes step R zs t c

module _ (step R : ℕ) (small : R ≤ 1024) (zs ls : List Zone) (f : ℕ) (pre : List Block) (b : Block) (post : List Block) (hs : List Zone) (h : List ℕ) (t c p : ℕ)
    (is : zs ≡ ls ++ zone f (pre ++ b ∷ post) ∷ hs) (bytes : h ≡ encode step R zs) (class : length ls ≡ c) (cell : f + length pre * cells step c ≡ p) (tag : b.tag ≡ t) (none : has_tag t pre ≡ false) (v : Loose step R zs) where
  out_zone : out_bytes step R zs t c ≡ encode step R (now step R ls f pre b post hs)
  unfolding out_bytes
  out_zone =
      let z : Zone = zone f (pre ++ b ∷ post) in
      rw (is, ← class)
      (ap₂ (λ (l r : List Zone). encode step R (l ++ lacking t (zone_of (ls ++ z ∷ hs) (length ls)) ∷ r)) (take_here ls z hs) (drop-next ls z hs)
      ∙ ap (λ (y : Zone). encode step R (ls ++ y ∷ hs)) (ap (lacking t) (zone_here ls z hs) ∙ lacking_there t b tag post f pre none))

  out_any : (n : ℕ) → n ≡ length pre + length post → Movable h p → Lying step h c p b → Out step R h zs t c p f n
  out_any n e m l =
      let w : Loose step R (was step R ls f pre b post hs) = subst (Loose step R) is v in
      let eh : h ≡ encode step R (was step R ls f pre b post hs) = bytes ∙ ap (encode step R) is in
      record {
        ordered = m.ordered;
        found = subst (λ (u : ℕ). index_of h u < get16 h 0) (l.tag ∙ tag) m.found;
        place = l.inside;
        last = rw (eh, ← class) (out_inside step R small ls f pre b hs post n e w);
        moves = rw (eh, ← cell, ← class, ← tag) (out_movable step R small ls f pre b hs post n e w);
        bytes = rw (out_zone, eh, ← cell, ← class, ← tag) (out_bytes_lem step R small ls f pre b hs post n e w);
      }

  zone_there : length ls < 30 → (first_at h c ≡ f) × (many_at h c ≡ suc (length pre + length post))
  zone_there g =
      let z : Zone = zone f (pre ++ b ∷ post) in
      let w : Loose step R (was step R ls f pre b post hs) = subst (Loose step R) is v in
      let r = zone-at step R small (was step R ls f pre b post hs) w (length ls) g in
      let i : get_or (ls ++ z ∷ hs) (length ls) empty ≡ z = zone_here ls z hs in
      rw (bytes, is, ← class) (
        r.0 ∙ ap first_of i ∙ first-zone step R small ls f pre b post,
        r.1 ∙ ap many_of i ∙ many-zone step R small ls f (pre ++ b ∷ post) ∙ length-append pre (b ∷ post) ∙ omega arith,
      )

  -- ---- then gaps are closed

  out_closed : (e : ℕ) → has_tag t (blocks ls) ≡ false → e ≡ end_after step 0 0 (take (c + 1) (now step R ls f pre b post hs))
      → closed_bytes step R (now step R ls f pre b post hs) (c + 1) e ≡ encode step R (take_out (cells step) t 0 0 zs)
  unfolding closed_bytes
  out_closed e lacks q =
      let z : Zone = zone f (pre ++ turned post) in
      let g : e ≡ end_of (cells step) (length ls) (end_after step 0 0 ls) z = q ∙ rw (← class, add-one) (ap (end_after step 0 0) (take_next ls z hs) ∙ end_next step 0 0 (length ls) ls z (omega arith)) in
      rw (is, ← class, add-one, g)
      (ap₂ (λ (l r : List Zone). encode step R (l ++ close (cells step) (suc (length ls)) (end_of (cells step) (length ls) (end_after step 0 0 ls) z) r)) (take_next ls z hs) (drop-next ls z hs)
      ∙ ap (encode step R) (append_assoc ls (z ∷ []) (close (cells step) (suc (length ls)) (end_of (cells step) (length ls) (end_after step 0 0 ls) z) hs)
      ∙ sym (take_out_there t b tag post f pre none step 0 0 (length ls) ls hs (omega arith) lacks)))

-- the bytes of a layout
pub stored : (step R : ℕ) (h : List ℕ) (zs : List Zone) → R ≤ 1024 → h ≡ encode step R zs → Loose step R zs → Stored step h
stored step R h zs small e v =
    let q : pages_of h ≡ R = ap pages_of e ∙ pages_loose step R zs v in
    let z : decode h ≡ zs = ap decode e ∙ decode_loose step R small zs v in
    record { pages = rw q small; bytes = e ∙ sym (ap₂ (encode step) q z); loose = rw (q, z) v }

module _ (step R : ℕ) (h : List ℕ) (zs : List Zone) (t c p : ℕ) (k : Known step R h zs t c p) where
  pub known_class : c < 30
  known_class = omega (arith, k.class, ap length k.found.is, length-append k.found.lower (zone k.found.first (k.found.before ++ k.found.block ∷ k.found.behind) ∷ k.found.higher), k.loose.classes)

  pub known_long : length h ≡ 1664 + 64 * R
  known_long = ap length k.bytes ∙ length_loose step R zs k.loose

  pub known_zone : (first_at h c ≡ k.found.first) × (many_at h c ≡ suc (length k.found.before + length k.found.behind))
  known_zone = zone_there step R k.pages zs k.found.lower k.found.first k.found.before k.found.block k.found.behind k.found.higher h t c p k.found.is k.bytes k.class k.cell k.found.tag k.found.none_before k.loose
      (omega (arith, known_class, k.class))

  pub known_out : (f n : ℕ) → f ≡ first_at h c → n ≡ many_at h c - 1 → Out step R h zs t c p f n
  known_out f n a e =
      let z = known_zone in
      let b : f ≡ k.found.first = a ∙ z.0 in
      subst (λ (g : ℕ). Out step R h zs t c p g n) (sym b)
      (out_any step R k.pages zs k.found.lower k.found.first k.found.before k.found.block k.found.behind k.found.higher h t c p k.found.is k.bytes k.class k.cell k.found.tag k.found.none_before k.loose
      n (omega (arith, z.1))
      (subst (λ (l : List ℕ). Movable l p) (sym k.bytes) (movable step R k.pages zs k.loose (spot c p k.found.block) (others-of step R h zs t c p k) (known_spots step R h zs t c p k)))
      (known_lying step R h zs t c p k))

  -- ---- h' is home without the block

  abbrev left : List Zone
  left = now step R k.found.lower k.found.first k.found.before k.found.block k.found.behind k.found.higher

  module _ (h' : List ℕ) (q : h' ≡ out_bytes step R zs t c) where
    left_bytes : h' ≡ encode step R left
    left_bytes = q ∙ out_zone step R k.pages zs k.found.lower k.found.first k.found.before k.found.block k.found.behind k.found.higher h t c p k.found.is k.bytes k.class k.cell k.found.tag k.found.none_before k.loose

    left_loose : Loose step R left
    left_loose = loose_out step R k.found.lower k.found.first k.found.before k.found.block k.found.behind k.found.higher (subst (Loose step R) k.found.is k.loose)

    pub out_stored : Stored step h'
    out_stored = stored step R h' left k.pages left_bytes left_loose

    -- the end carried along up to its class
    module _ (e : ℕ) (ends : e ≡ end_from step (c + 1 - 0) h' 0 0) where
      closes_at : e ≡ end_after step 0 0 (take (c + 1) (decode h'))
      unfolding end_after
      closes_at =
          let m : c + 1 - 0 ≡ c + 1 = omega arith in
          let n : c + 1 + 0 ≡ c + 1 = omega arith in
          ends ∙ ap (λ (i : ℕ). end_from step i h' 0 0) m ∙ stored_ends step h' out_stored (c + 1) 0 (omega (arith, known_class)) ∙ ap (λ (i : ℕ). end_after step 0 0 (take i (decode h'))) n

      pub out_open : Open step (pages_of h') h' (decode h') (c + 1) e
      out_open = record { pages = out_stored.pages; bytes = out_stored.bytes; loose = out_stored.loose; class = omega (arith, known_class); end = sym closes_at }

      pub out_taken : closed_bytes step (pages_of h') (decode h') (c + 1) e ≡ encode step R (take_out (cells step) t 0 0 zs)
      out_taken =
          let z : decode h' ≡ left = ap decode left_bytes ∙ decode_loose step R k.pages left left_loose in
          ap₂ (λ (n : ℕ) (l : List Zone). closed_bytes step n l (c + 1) e) (ap pages_of left_bytes ∙ pages_loose step R left left_loose) z
          ∙ out_closed step R k.pages zs k.found.lower k.found.first k.found.before k.found.block k.found.behind k.found.higher h t c p k.found.is k.bytes k.class k.cell k.found.tag k.found.none_before k.loose
          e k.found.none_lower (closes_at ∙ ap (λ (l : List Zone). end_after step 0 0 (take (c + 1) l)) z)
