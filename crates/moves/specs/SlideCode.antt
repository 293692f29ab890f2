-- What the code that moves a zone knows at its places.
use Rattle.std.specs.Prelude.{◌≡◌, ◌≢◌, ℕ, suc, ◌+◌, ◌*◌, ◌-◌, ◌≤◌, ◌<◌, length}
use Rattle.std.proofs.Math.Path.{refl, sym, ap, subst}
use Rattle.std.proofs.Common.{◌∙◌, arith, mul-le-mul_right, add-one}
use mathlib.Core.List.{List, ◌∷◌, ◌++◌}
use Rattle.wire.specs.Bytes.{over, bytes16}
use Rattle.wire.specs.Cases.{by_lt}
use Rattle.layout.specs.Capacities.{cells}
use Rattle.layout.specs.Zones.{Zone, empty, from, based}
use Rattle.home.specs.Layout.{Fit, Loose}
use Rattle.home.specs.Bytes.{spots, zone_entries, encode, decode, cell_at, first_at, many_at}
use Rattle.home.specs.Sound.{pages_of}
use Rattle.home.specs.AreaLaws.{fit_le}
use Rattle.home.specs.EncodeLaws.{length-zones, length_loose}
use Rattle.moves.specs.Moves.{Movable, zoned, moved}
use Rattle.moves.specs.LayoutMoves.{first_of, many_of, zone-set}
use Rattle.moves.specs.LooseLaws.{zone-at, fit_above}
use Rattle.moves.specs.Stored.{end_after}
use Rattle.moves.specs.AtLaws.{at-zone, zone_here}
use Rattle.moves.specs.AtSpotsLaws.{at_spots, spots-zoned, encode-spots}
use Rattle.moves.specs.Slide.{rebased, Slides, slid, Going}
use Rattle.moves.specs.SlideLaws.{Here, starting_at, half_bytes, Reach, half-none, half_all, half_moves, rebased-at, loose_kept}

pub slides_long : (step R : ℕ) (h : List ℕ) (zs : List Zone) (c to : ℕ) → Slides step R h zs c to → length h ≡ 1664 + 64 * R
slides_long step R h zs c to o = ap length o.bytes ∙ length_loose step R zs o.loose

slides_read : (step R : ℕ) (h : List ℕ) (ls : List Zone) (z : Zone) (hs : List Zone) (to : ℕ) → Slides step R h (ls ++ z ∷ hs) (length ls) to → (first_at h (length ls) ≡ first_of z) × (many_at h (length ls) ≡ many_of z)
slides_read step R h ls z hs to o =
    let c : ℕ = length ls in
    rw o.bytes (subst (λ (y : Zone). (first_at (encode step R (ls ++ z ∷ hs)) c ≡ first_of y) × (many_at (encode step R (ls ++ z ∷ hs)) c ≡ many_of y)) (zone_here ls z hs) (zone-at step R o.pages (ls ++ z ∷ hs) o.loose c o.class))

-- ---- a zone that stays

stays_any : (step R : ℕ) (h : List ℕ) (ls : List Zone) (z : Zone) (hs : List Zone) (to : ℕ) → Slides step R h (ls ++ z ∷ hs) (length ls) to
    → (many_at h (length ls) ≢ 0 → first_at h (length ls) ≡ to) → h ≡ slid step R (ls ++ z ∷ hs) (length ls) to
unfolding first_of many_of slid based
stays_any step R h ls empty hs to o m = o.bytes ∙ ap (encode step R) (sym (rebased-at ls empty hs (length ls) to refl))
stays_any step R h ls (from f x xs) hs to o m =
    let r = slides_read step R h ls (from f x xs) hs to o in
    let e : f ≡ to = sym r.0 ∙ m (λ q. omega (arith, r.1)) in
    o.bytes ∙ ap (encode step R) (ap (λ (d : ℕ). ls ++ from d x xs ∷ hs) e ∙ sym (rebased-at ls (from f x xs) hs (length ls) to refl))

-- it is empty, or there already
pub slide_stays : (step R : ℕ) (h : List ℕ) (zs : List Zone) (c to : ℕ) → Slides step R h zs c to → (many_at h c ≢ 0 → first_at h c ≡ to) → h ≡ slid step R zs c to
slide_stays step R h zs c to o m =
    at-zone zs c (omega (arith, o.loose.classes, o.class)) (λ (l : List Zone) (d : ℕ). Slides step R h l d to → (many_at h d ≢ 0 → first_at h d ≡ to) → h ≡ slid step R l d to)
    (λ ls z hs. stays_any step R h ls z hs to) o m

-- ---- a zone that moves

-- where it is, and that it may be there
record Goes (step R : ℕ) (h : List ℕ) (zs : List Zone) (c to : ℕ) : Type 0 where
  here : Here step R zs c
  first : first_at h c ≡ here.first
  many : many_at h c ≡ suc (length here.tail)
  there : rebased zs c to ≡ starting_at step R zs c here to
  next : Loose step R (starting_at step R zs c here to)

goes_any : (step R : ℕ) (h : List ℕ) (ls : List Zone) (z : Zone) (hs : List Zone) (to : ℕ) → Slides step R h (ls ++ z ∷ hs) (length ls) to → many_at h (length ls) ≢ 0 → Goes step R h (ls ++ z ∷ hs) (length ls) to
unfolding first_of many_of based
goes_any step R h ls empty hs to o m = absurd (m (slides_read step R h ls empty hs to o).1)
goes_any step R h ls (from f x xs) hs to o m =
    let r = slides_read step R h ls (from f x xs) hs to o in
    let t : rebased (ls ++ from f x xs ∷ hs) (length ls) to ≡ ls ++ from to x xs ∷ hs = rebased-at ls (from f x xs) hs (length ls) to refl in
    record {
      here = record { pages = o.pages; loose = o.loose; lower = ls; first = f; head = x; tail = xs; higher = hs; is = refl; class = refl; under = o.class };
      first = r.0;
      many = r.1;
      there = t;
      next = subst (Loose step R) t o.next;
    }

goes : (step R : ℕ) (h : List ℕ) (zs : List Zone) (c to : ℕ) → Slides step R h zs c to → many_at h c ≢ 0 → Goes step R h zs c to
goes step R h zs c to o m =
    at-zone zs c (omega (arith, o.loose.classes, o.class)) (λ (l : List Zone) (d : ℕ). Slides step R h l d to → many_at h d ≢ 0 → Goes step R h l d to) (λ ls z hs. goes_any step R h ls z hs to) o m

-- n blocks of k cells: the first i lie from p on, the others from where they would lie from q on
pub record Sliding (step R : ℕ) (zs : List Zone) (h : List ℕ) (c to p q i n k : ℕ) : Type 0 where
  pub here : Here step R zs c
  pub reach : Reach step R zs c here p q
  pub there : rebased zs c to ≡ starting_at step R zs c here to
  pub next : Loose step R (starting_at step R zs c here to)
  pub many : n ≡ suc (length here.tail)
  pub size : k ≡ cells step c
  pub up_to : i ≤ n
  pub bytes : h ≡ half_bytes step R zs c here p q i

module _ (step : ℕ) (h : List ℕ) (c f to n k : ℕ) (o : Going step h c f to n) (size : k ≡ cells step c) where
  abbrev R : ℕ
  R = pages_of h

  abbrev zs : List Zone
  zs = decode h

  g : Goes step R h zs c to
  g = goes step R h zs c to o.slides (λ e. o.some (o.many ∙ e))

  abbrev z : Here step R zs c
  z = g.here

  -- from its own cell on, and from the other one on
  fits : (p : ℕ) → Loose step R (starting_at step R zs c z p) → (end_after step 0 0 z.lower ≤ p) × Fit step (8 * R) (suc c) (p + suc (length z.tail) * cells step c) z.higher
  fits p v =
      let a : Fit step (8 * R) c (end_after step 0 0 z.lower) (from p z.head z.tail ∷ z.higher) =
      fit_above step (8 * R) 0 0 c z.lower (from p z.head z.tail ∷ z.higher) (omega (arith, z.class)) v.fit in
      (a.0.after, a.1)

  here_is : starting_at step R zs c z f ≡ zs
  here_is = ap (starting_at step R zs c z) (o.first ∙ g.first) ∙ sym z.is

  now_loose : Loose step R (starting_at step R zs c z f)
  now_loose = subst (Loose step R) (sym here_is) z.loose

  blocks_are : n ≡ suc (length z.tail)
  blocks_are = o.many ∙ g.many

  bytes_are : h ≡ at_spots step R (zone_entries zs) (spots step 0 (starting_at step R zs c z f))
  bytes_are = o.slides.bytes ∙ encode-spots step R zs z.loose ∙ ap (λ (l : List Zone). at_spots step R (zone_entries zs) (spots step 0 l)) (sym here_is)

  pub down-start : to ≤ f → Sliding step R zs h c to to f 0 n k
  down-start le = record {
    here = z;
    reach = record { low = (fits to g.next).0; order = le; high = (fits f now_loose).1 };
    there = g.there;
    next = g.next;
    many = blocks_are;
    size = size;
    up_to = omega arith;
    bytes = bytes_are ∙ sym (half-none step R zs c z to f);
  }

  pub up_start : f ≤ to → Sliding step R zs h c to f to n n k
  up_start le = record {
    here = z;
    reach = record { low = (fits f now_loose).0; order = le; high = (fits to g.next).1 };
    there = g.there;
    next = g.next;
    many = blocks_are;
    size = size;
    up_to = omega arith;
    bytes = bytes_are ∙ sym (ap (half_bytes step R zs c z f to) blocks_are ∙ half_all step R zs c z f to);
  }

-- ---- the turns

module _ (step R : ℕ) (zs : List Zone) (h : List ℕ) (c to p q i n k : ℕ) (s : Sliding step R zs h c to p q i n k) where
  -- its blocks are there, and its entry is set
  entry_set : h ≡ at_spots step R (zone_entries zs) (spots step 0 (starting_at step R zs c s.here to)) → zoned h c to n ≡ slid step R zs c to
  unfolding slid first_of many_of
  entry_set e =
      let z : Here step R zs c = s.here in
      let zs' : List Zone = starting_at step R zs c z to in
      let set : over (zone_entries zs) (4 * c) (bytes16 to ++ bytes16 n) ≡ zone_entries zs' =
      subst (λ (l : List Zone). over (zone_entries l) (4 * c) (bytes16 to ++ bytes16 n) ≡ zone_entries zs') (sym z.is)
      (subst (λ (d : ℕ). over (zone_entries (z.lower ++ from z.first z.head z.tail ∷ z.higher)) (4 * d) (bytes16 to ++ bytes16 n) ≡ zone_entries zs') z.class
      (zone-set z.lower (from z.first z.head z.tail) (from to z.head z.tail) z.higher to n refl (sym s.many))) in
      ap (λ (l : List ℕ). zoned l c to n) e
      ∙ spots-zoned step R z.pages (zone_entries zs) (length-zones step R zs z.loose) (spots step 0 zs') (loose_kept step R zs' s.next) c to n z.under
      ∙ ap (λ (l : List ℕ). at_spots step R l (spots step 0 zs')) set ∙ sym (encode-spots step R zs' s.next) ∙ ap (encode step R) (sym s.there)

  ends : q + n * k ≤ 8192
  ends = rw (s.many, s.size) (omega (arith, s.here.pages, fit_le step (8 * R) (suc c) (q + suc (length s.here.tail) * cells step c) s.here.higher s.reach.high))

  -- cells stay small
  pub sliding_small : (j : ℕ) → j ≤ n → (j * k ≤ 8192) × (p + j * k ≤ 8192) × (q + j * k ≤ 8192)
  sliding_small j g = let m : j * k ≤ n * k = mul-le-mul_right k g in (omega (arith, ends), omega (arith, ends, s.reach.order), omega (arith, ends))

  pub down_requires : i < n → ((c < 30) × (cell_at (q + i * k) + 8 * cells step c ≤ length h) × (cell_at (p + i * k) + 8 * cells step c ≤ length h)) × Movable h (q + i * k)
  down_requires g = let m = (half_moves step R zs c s.here p q s.reach i (omega (arith, s.many))).0 in rw (s.bytes, s.size) ((s.here.under, m.old, m.new), m.movable)

  -- with another block moved
  moved_to : (j : ℕ) (h' : List ℕ) → j ≤ n → h' ≡ half_bytes step R zs c s.here p q j → Sliding step R zs h' c to p q j n k
  moved_to j h' g e = record { here = s.here; reach = s.reach; there = s.there; next = s.next; many = s.many; size = s.size; up_to = g; bytes = e }

  pub down-next : i < n → Sliding step R zs (moved step h c (q + i * k) (p + i * k)) c to p q (i + 1) n k
  down-next g = rw add-one
      (moved_to (suc i) (moved step h c (q + i * k) (p + i * k)) g (rw (s.bytes, s.size) (half_moves step R zs c s.here p q s.reach i (omega (arith, s.many))).0.bytes))

  pub down_done : p ≡ to → n ≤ i → zoned h c to n ≡ slid step R zs c to
  down_done e g =
      let j : i ≡ suc (length s.here.tail) = omega (arith, s.up_to, s.many) in
      entry_set (s.bytes ∙ ap (half_bytes step R zs c s.here p q) j ∙ half_all step R zs c s.here p q ∙ ap (λ (d : ℕ). at_spots step R (zone_entries zs) (spots step 0 (starting_at step R zs c s.here d))) e)

  -- the block before
  less : 0 < i → i ≡ suc (i - 1)
  less g = omega arith

  pub up_requires : 0 < i → ((c < 30) × (cell_at (p + (i - 1) * k) + 8 * cells step c ≤ length h) × (cell_at (q + (i - 1) * k) + 8 * cells step c ≤ length h)) × Movable h (p + (i - 1) * k)
  up_requires g =
      let m = (half_moves step R zs c s.here p q s.reach (i - 1) (omega (arith, s.many, s.up_to))).1 in
      rw (s.bytes ∙ ap (half_bytes step R zs c s.here p q) (less g), s.size) ((s.here.under, m.old, m.new), m.movable)

  pub up_next : 0 < i → Sliding step R zs (moved step h c (p + (i - 1) * k) (q + (i - 1) * k)) c to p q (i - 1) n k
  up_next g =
      moved_to (i - 1) (moved step h c (p + (i - 1) * k) (q + (i - 1) * k)) (omega (arith, s.up_to))
      (rw (s.bytes ∙ ap (half_bytes step R zs c s.here p q) (less g), s.size) (half_moves step R zs c s.here p q s.reach (i - 1) (omega (arith, s.many, s.up_to))).1.bytes)

  pub up_done : q ≡ to → i ≤ 0 → zoned h c to n ≡ slid step R zs c to
  up_done e g =
      let j : i ≡ 0 = omega arith in
      entry_set (s.bytes ∙ ap (half_bytes step R zs c s.here p q) j ∙ half-none step R zs c s.here p q ∙ ap (λ (d : ℕ). at_spots step R (zone_entries zs) (spots step 0 (starting_at step R zs c s.here d))) e)

-- its cells stay small, whichever way it goes
pub going_small : (step : ℕ) (h : List ℕ) (c f to n k : ℕ) → Going step h c f to n → k ≡ cells step c → (i : ℕ) → i ≤ n → (i * k ≤ 8192) × (f + i * k ≤ 8192) × (to + i * k ≤ 8192)
going_small step h c f to n k o size i g =
    by_lt to f
    (λ b. let s = sliding_small _ _ _ _ _ _ _ _ _ _ _ (down-start step h c f to n k o size (omega arith)) i g in (s.0, s.2, s.1))
    (λ b. sliding_small _ _ _ _ _ _ _ _ _ _ _ (up_start step h c f to n k o size b) i g)
