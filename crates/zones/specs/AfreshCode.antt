-- What the code that lays all zones out afresh knows at its places.
use Rattle.std.specs.Prelude.{◌≡◌, refl, Bool, ◌≢◌, ℕ, suc, ◌+◌, ◌*◌, ◌/◌, ◌≤◌, ◌<◌, length, get_or}
use Rattle.std.proofs.Common.{sym, ap₂, ◌∙◌, subst, arith, add-one, length-take, take_at, drop_at}
use Rattle.std.proofs.Math.Path.{ap}
use Rattle.std.proofs.Math.Bool.{true, false}
use Rattle.std.proofs.Math.Option.{Option, none, some}
use mathlib.Core.List.{List, [], ◌∷◌, ◌++◌}
use Rattle.std.proofs.Math.ListN.{take, drop, take-append-drop, drop_of_length-le}
use Rattle.wire.specs.Cases.{never}
use Rattle.wire.specs.Bytes.{is_some}
use Rattle.layout.specs.Capacities.{cells, class_of}
use Rattle.layout.specs.CapacitiesLaws.{cells_mono, cells_pos}
use Rattle.layout.specs.Zones.{Block, Zone, empty, blocks, added, end_of, joined, total, afresh, lay_afresh, settle}
use Rattle.home.specs.Layout.{Valid, Loose}
use Rattle.layout.specs.Cases.{or_else, holds_some}
use Rattle.layout.specs.FindLaws.{lacks_has}
use Rattle.layout.specs.PlaceLaws.{Placed}
use Rattle.layout.proofs.AfreshLaws.{afresh-length, afresh-blocks, laid_holds, fit_total}
use Rattle.home.specs.Bytes.{step_of, encode, decode, first_at, many_at}
use Rattle.home.specs.Sound.{pages_of}
use Rattle.home.specs.EncodeLaws.{decode_loose, pages_loose, valid_loose}
use Rattle.home.specs.SoundLaws.{sound-valid}
use Rattle.moves.specs.LayoutMoves.{first_of, many_of}
use Rattle.moves.specs.LooseLaws.{blocks-append, sound-stored}
use Rattle.moves.specs.Stored.{settled, end_after, Stored}
use Rattle.moves.specs.Slide.{rebased, Slides, slid}
use Rattle.zones.specs.Place.{block_in, placed_in, Placeable, with_block}
use Rattle.moves.specs.LooseLaws.{zone_is}
use Rattle.zones.specs.PlaceLaws.{Puts, puts_at, Fitting, fitting_under, fitting_sits, fitting_fits, fitting_bytes}
use Rattle.zones.specs.Afresh.{lower_laid, higher_laid, Layable, laid_in, settled_in}
use Rattle.zones.specs.AfreshLaws.{Down, Up, Way, afresh_end, higher_loose, lower-next, lower-zone, zone-down, zone-up, lower_all, total-next, total_split, total-drop, zone_way, lay_some, lay_none}

-- ---- the bytes of a layout that is valid but for its gaps

module _ (step R : ℕ) (small : R ≤ 1024) (zs : List Zone) (v : Loose step R zs) (h : List ℕ) (q : h ≡ encode step R zs) where
  pages_are : pages_of h ≡ R
  pages_are = ap pages_of q ∙ pages_loose step R zs v

  zones_are : decode h ≡ zs
  zones_are = ap decode q ∙ decode_loose step R small zs v

  are_stored : Stored step h
  are_stored = record { pages = omega (arith, pages_are); bytes = q ∙ sym (ap₂ (encode step) pages_are zones_are); loose = rw (pages_are, zones_are) v }

  are_slides : (c to : ℕ) → c < 30 → Loose step R (rebased zs c to) → Slides step (pages_of h) h (decode h) c to
  are_slides c to g v' = rw (pages_are, zones_are) (record { pages = small; bytes = q; loose = v; class = g; next = v' })

  are_slid : (c to : ℕ) (zs' : List Zone) → rebased zs c to ≡ zs' → slid step (pages_of h) (decode h) c to ≡ encode step R zs'
  unfolding slid
  are_slid c to zs' e = rw (pages_are, zones_are) (ap (encode step R) e)

-- ---- the sizes of all blocks, added up by class

-- those below class c are added up
pub record Summing (step : ℕ) (h : List ℕ) (sum c : ℕ) : Type 0 where
  pub stored : Stored step h
  pub under : c ≤ 30
  pub is : sum ≡ total (cells step) 0 (take c (decode h))

pub sum-start : (step : ℕ) (h : List ℕ) → Stored step h → Summing step h 0 0
unfolding total
sum-start step h s = record { stored = s; under = omega arith; is = refl }

low-total : (step : ℕ) (h : List ℕ) (c : ℕ) → Stored step h → c ≤ 30 → total (cells step) 0 (take c (decode h)) ≤ 8192
low-total step h c s g = omega (arith, total_split step (decode h) c (omega (arith, s.loose.classes)), fit_total (cells step) (class_of step) (8 * pages_of h) 0 0 (decode h) s.loose.fit, s.pages)

module _ (step : ℕ) (h : List ℕ) (sum c n k : ℕ) (s : Summing step h sum c) (g : c < 30) (en : n ≡ many_at h c) (ek : k ≡ cells step c) where
  pub sum-next : Summing step h (sum + n * k) (c + 1)
  sum-next = rw add-one (record {
    stored = s.stored;
    under = g;
    is = rw (en, ek, s.is, (zone_is step h s.stored c g).1) (sym (total-next step (decode h) c (omega (arith, s.stored.loose.classes))));
  })

  pub sum-small : (n * k ≤ 8192) × (sum + n * k ≤ 8192)
  sum-small = let b : sum + n * k ≤ 8192 = omega (arith, sum-next.is, low-total step h (c + 1) s.stored (omega arith)) in (omega arith, b)

pub sum_done : (step : ℕ) (h : List ℕ) (sum c : ℕ) → Summing step h sum c → 30 ≤ c → (sum ≡ total (cells step) 0 (decode h)) × (sum ≤ 8192)
unfolding total
sum_done step h sum c s g =
    let d : drop c (decode h) ≡ [] = drop_of_length-le (decode h) {i = c} (omega (arith, s.stored.loose.classes)) in
    (omega (arith, s.is, total_split step (decode h) c (omega (arith, s.stored.loose.classes, s.under)), ap (total (cells step) c) d), omega (arith, s.is, low-total step h c s.stored s.under))

-- ---- the lower zones, the lowest one first

-- those below class d lie without gaps, up to cell e
pub record Lowered (step : ℕ) (h₀ h : List ℕ) (d e : ℕ) : Type 0 where
  pub sums : Summing step h₀ e d
  pub bytes : h ≡ encode step (pages_of h₀) (lower_laid step (decode h₀) d)

pub lower-start : (step : ℕ) (h : List ℕ) → Stored step h → Lowered step h h 0 0
unfolding afresh
lower-start step h s = record { sums = sum-start step h s; bytes = s.bytes }

module _ (step : ℕ) (h₀ h : List ℕ) (d e : ℕ) (l : Lowered step h₀ h d e) where
  abbrev R₀ : ℕ
  R₀ = pages_of h₀

  abbrev ws : List Zone
  ws = lower_laid step (decode h₀) d

  small₀ : R₀ ≤ 1024
  small₀ = l.sums.stored.pages

  loose_ws : Loose step R₀ ws
  loose_ws = lower_all step R₀ (decode h₀) d l.sums.stored.loose

  pub lower-stored : Stored step h
  lower-stored = are_stored step R₀ small₀ ws loose_ws h l.bytes

  module _ (g : d < 30) where
    inside : d < length (decode h₀)
    inside = omega (arith, l.sums.stored.loose.classes)

    moved_is : rebased ws d e ≡ lower_laid step (decode h₀) (suc d)
    moved_is = ap (rebased ws d) l.sums.is ∙ lower-next step (decode h₀) d inside

    -- zone d is where it was
    zone-was : get_or (decode h) d empty ≡ get_or (decode h₀) d empty
    zone-was = ap (λ (zs : List Zone). get_or zs d empty) (zones_are step R₀ small₀ ws loose_ws h l.bytes) ∙ lower-zone step (decode h₀) d inside

    many-was : many_at h d ≡ many_at h₀ d
    many-was = (zone_is step h lower-stored d g).1 ∙ ap many_of zone-was ∙ sym (zone_is step h₀ l.sums.stored d g).1

    pub lower_slides : Slides step (pages_of h) h (decode h) d e
    lower_slides = are_slides step R₀ small₀ ws loose_ws h l.bytes d e g (subst (Loose step R₀) (sym moved_is) (lower_all step R₀ (decode h₀) (suc d) l.sums.stored.loose))

    pub lower_again : (h' : List ℕ) (n k : ℕ) → n ≡ many_at h d → k ≡ cells step d → h' ≡ slid step (pages_of h) (decode h) d e → Lowered step h₀ h' (d + 1) (e + n * k)
    lower_again h' n k en ek q = record {
      sums = sum-next step h₀ e d n k l.sums g (en ∙ many-was) ek;
      bytes = rw add-one (q ∙ are_slid step R₀ small₀ ws loose_ws h l.bytes d e (lower_laid step (decode h₀) (suc d)) moved_is);
    }

    pub lower-small : (n k : ℕ) → n ≡ many_at h d → k ≡ cells step d → (n * k ≤ 8192) × (e + n * k ≤ 8192)
    lower-small n k en ek = sum-small step h₀ e d n k l.sums g (en ∙ many-was) ek

pub lower_done : (step : ℕ) (h₀ h : List ℕ) (c d e : ℕ) → Lowered step h₀ h d e → d ≡ c
    → ((e ≡ total (cells step) 0 (take c (decode h₀))) × (e ≤ 8192)) × (h ≡ encode step (pages_of h₀) (lower_laid step (decode h₀) c))
lower_done step h₀ h c d e l q = rw (← q) ((l.sums.is, omega (arith, l.sums.is, low-total step h₀ d l.sums.stored l.sums.under)), l.bytes)

-- ---- the higher zones

module _ (step : ℕ) (h : List ℕ) (c e : ℕ) (l : Layable step h c e) where
  abbrev R : ℕ
  R = pages_of h

  abbrev zs : List Zone
  zs = decode h

  abbrev small : R ≤ 1024
  small = l.stored.pages

  pub from_end : c ≡ 30 → h ≡ encode step R (higher_laid step zs c e)
  unfolding afresh
  from_end q =
      let d : drop c zs ≡ [] = drop_of_length-le zs {i = c} (omega (arith, l.stored.loose.classes)) in
      l.stored.bytes ∙ ap (encode step R) (sym (ap (λ (x : List Zone). take c zs ++ afresh (cells step) c e x) d ∙ ap (λ (x : List Zone). take c zs ++ x) (sym d) ∙ take-append-drop c zs))

  module _ (under : c ≢ 30) (n f k : ℕ) (en : n ≡ many_at h c) (ek : k ≡ cells step c) where
    pub from_under : c < 30
    from_under = omega (arith, l.class, under)

    within : c < length zs
    within = omega (arith, l.stored.loose.classes, from_under)

    z-many : n ≡ many_of (get_or zs c empty)
    z-many = en ∙ (zone_is step h l.stored c from_under).1

    abbrev e' : ℕ
    e' = e + many_of (get_or zs c empty) * cells step c

    e_is : e + n * k ≡ e'
    e_is = rw (z-many, ek)

    room' : e' + total (cells step) (suc c) (drop (suc c) zs) ≤ 8 * R
    room' = omega (arith, l.room, total-drop step zs c within)

    pub from_small : (n * k ≤ 8192) × (e + n * k ≤ 8192)
    from_small = let b : e + n * k ≤ 8192 = omega (arith, e_is, room', small) in (omega arith, b)

    module _ (ef : f ≡ first_at h c) where
      z-first : f ≡ first_of (get_or zs c empty)
      z-first = ef ∙ (zone_is step h l.stored c from_under).0

      -- down, then the higher ones
      module _ (le : e ≤ f) where
        down : Down step R zs c e e'
        down = zone-down step R zs c e l.stored.loose within l.low (omega (arith, z-first))

        pub down_slides : Slides step (pages_of h) h (decode h) c e
        down_slides = are_slides step R small zs l.stored.loose h l.stored.bytes c e from_under down.loose

        module _ (h' : List ℕ) (q : h' ≡ slid step (pages_of h) (decode h) c e) where
          bytes' : h' ≡ encode step R (rebased zs c e)
          bytes' = q ∙ are_slid step R small zs l.stored.loose h l.stored.bytes c e (rebased zs c e) refl

          pages' : pages_of h' ≡ R
          pages' = pages_are step R small (rebased zs c e) down.loose h' bytes'

          zones' : decode h' ≡ rebased zs c e
          zones' = zones_are step R small (rebased zs c e) down.loose h' bytes'

          pub down-next : Layable step h' (c + 1) (e + n * k)
          down-next = rw (add-one, e_is) (record {
            stored = are_stored step R small (rebased zs c e) down.loose h' bytes';
            class = from_under;
            low = rw zones' down.low;
            room = rw (zones', pages', down.rest) room';
          })

          pub down_done : (h'' : List ℕ) → h'' ≡ encode step (pages_of h') (higher_laid step (decode h') (c + 1) (e + n * k)) → h'' ≡ encode step R (higher_laid step zs c e)
          down_done h'' x = (rw (add-one, e_is, pages', zones') at x) ∙ ap (encode step R) down.same

      -- the higher ones, then up
      module _ (gt : f < e) where
        up : Up step zs c e e'
        up = zone-up step zs c e within l.low (omega (arith, z-first))

        pub up_next : Layable step h (c + 1) (e + n * k)
        up_next = rw (add-one, e_is) (record { stored = l.stored; class = from_under; low = up.low; room = room' })

        split : (d : ℕ) → Loose step R (take d zs ++ drop d zs)
        split d = subst (Loose step R) (sym (take-append-drop d zs)) l.stored.loose

        long : (d : ℕ) → d ≤ 30 → d ≡ length (take d zs)
        long d g = omega (arith, length-take d zs, l.stored.loose.classes)

        before : Loose step R (higher_laid step zs (suc c) e')
        before = higher_loose step R (suc c) e' (take (suc c) zs) (drop (suc c) zs) (long (suc c) from_under) (split (suc c)) up.low room'

        behind : Loose step R (higher_laid step zs c e)
        behind = higher_loose step R c e (take c zs) (drop c zs) (long c l.class) (split c) l.low l.room

        module _ (h' : List ℕ) (q : h' ≡ encode step R (higher_laid step zs (c + 1) (e + n * k))) where
          bytes₁ : h' ≡ encode step R (higher_laid step zs (suc c) e')
          bytes₁ = rw (add-one, e_is) at q

          pub up_slides : Slides step (pages_of h') h' (decode h') c e
          up_slides = are_slides step R small (higher_laid step zs (suc c) e') before h' bytes₁ c e from_under (subst (Loose step R) (sym up.same) behind)

          pub up_done : (h'' : List ℕ) → h'' ≡ slid step (pages_of h') (decode h') c e → h'' ≡ encode step R (higher_laid step zs c e)
          up_done h'' x = x ∙ are_slid step R small (higher_laid step zs (suc c) e') before h' bytes₁ c e (higher_laid step zs c e) up.same

-- ---- all zones, and the block

module _ (step : ℕ) (h : List ℕ) (t : ℕ) (bs : List ℕ) (c k : ℕ) (l : Fitting step h t bs c) (size : k ≡ cells step c) where
  abbrev N : ℕ
  N = pages_of h

  abbrev ys : List Zone
  ys = decode h

  abbrev b : Block
  b = block_in t bs

  valid : Valid step (8 * N) ys
  valid = subst (λ (x : ℕ). Valid x (8 * N) ys) (sym l.code) (sound-valid h l.able.sound)

  stored : Stored step h
  stored = subst (λ (x : ℕ). Stored x h) (sym l.code) (sound-stored h l.able.sound)

  there : c < length ys
  there = omega (arith, valid.classes, fitting_under step h t bs c l)

  in_is : lay_afresh (cells step) (8 * N) c b ys ≡ laid_in h t bs
  in_is = ap₂ (λ (x k : ℕ). lay_afresh (cells k) (8 * N) x b ys) (l.class ∙ ap (λ (k : ℕ). class_of k (length bs / 8)) l.code) l.code

  -- the sizes add up to more
  pub laying_none : 8 * N < total (cells step) 0 ys + k → (false ≡ is_some (laid_in h t bs)) × (h ≡ settled (step_of h) N h (laid_in h t bs))
  unfolding settled
  laying_none o = rw (sym in_is ∙ lay_none step (8 * N) c b ys there (rw size at o)) (refl, refl)

  module _ (r : total (cells step) 0 ys + k ≤ 8 * N) where
    room : total (cells step) 0 ys + cells step c ≤ 8 * N
    room = rw size at r

    is_some_lem : lay_afresh (cells step) (8 * N) c b ys ≡ some (afresh (cells step) 0 0 (joined c b ys))
    is_some_lem = lay_some step (8 * N) c b ys there room

    full_valid : Valid step (8 * N) (afresh (cells step) 0 0 (joined c b ys))
    full_valid =
        (holds_some (Placed (cells step) (class_of step) (8 * N) b ys) (lay_afresh (cells step) (8 * N) c b ys) (afresh (cells step) 0 0 (joined c b ys)) is_some_lem
        (laid_holds (cells step) (class_of step) (cells_mono step) (cells_pos step) (8 * N) c b ys valid (fitting_sits step h t bs c l) (fitting_under step h t bs c l) (lacks_has t (blocks ys) l.able.new) l.able.few)).valid

    -- the lower zones are there
    module _ (h₁ : List ℕ) (p : ℕ) (ep : p ≡ total (cells step) 0 (take (c + 1) ys)) (q : h₁ ≡ encode step N (lower_laid step ys (c + 1))) where
      cell_is : p ≡ total (cells step) 0 (take (suc c) ys)
      cell_is = rw add-one at ep

      bytes_are : h₁ ≡ encode step N (lower_laid step ys (suc c))
      bytes_are = rw add-one at q

      loose₁ : Loose step N (lower_laid step ys (suc c))
      loose₁ = lower_all step N ys (suc c) stored.loose

      abbrev fs : List Zone
      fs = afresh (cells step) 0 0 (take (suc c) ys)

      long₁ : length fs ≡ suc c
      long₁ = afresh-length (cells step) 0 0 (take (suc c) ys) ∙ omega (arith, length-take (suc c) ys, there)

      parts : (take (suc c) (lower_laid step ys (suc c)) ≡ fs) × (drop (suc c) (lower_laid step ys (suc c)) ≡ drop (suc c) ys)
      parts = (take_at fs (drop (suc c) ys) (suc c) long₁, drop_at fs (drop (suc c) ys) (suc c) long₁)

      ends : end_after step 0 0 fs ≡ p
      ends = afresh_end step 0 0 (take (suc c) ys) ∙ omega (arith, cell_is)

      sum : p + cells step c + total (cells step) (suc c) (drop (suc c) ys) ≤ 8 * N
      sum = omega (arith, cell_is, room, total_split step ys (suc c) there)

      pages₁ : pages_of h₁ ≡ N
      pages₁ = pages_are step N stored.pages (lower_laid step ys (suc c)) loose₁ h₁ bytes_are

      zones₁ : decode h₁ ≡ lower_laid step ys (suc c)
      zones₁ = zones_are step N stored.pages (lower_laid step ys (suc c)) loose₁ h₁ bytes_are

      pub laying_layable : Layable step h₁ (c + 1) (p + k)
      laying_layable = rw (add-one, size) (record {
        stored = are_stored step N stored.pages (lower_laid step ys (suc c)) loose₁ h₁ bytes_are;
        class = fitting_under step h t bs c l;
        low = rw (zones₁, parts.0, ends) (omega arith);
        room = rw (zones₁, pages₁, parts.1) sum;
      })

      -- and the higher ones, behind the free cells
      module _ (h₂ : List ℕ) (q₂ : h₂ ≡ encode step (pages_of h₁) (higher_laid step (decode h₁) (c + 1) (p + k))) where
        way : Way step ys b c
        way = zone_way step ys b c there

        free_is : h₂ ≡ encode step N (way.lower ++ way.here ∷ way.higher)
        free_is = (rw (add-one, size, pages₁, zones₁, parts.0, parts.1) at q₂)
            ∙ ap (encode step N) (ap (λ (x : ℕ). fs ++ afresh (cells step) (suc c) (x + cells step c) (drop (suc c) ys)) cell_is ∙ way.free)

        free_loose : Loose step N (way.lower ++ way.here ∷ way.higher)
        free_loose = subst (Loose step N) (ap (λ (x : ℕ). fs ++ afresh (cells step) (suc c) (x + cells step c) (drop (suc c) ys)) cell_is ∙ way.free)
            (higher_loose step N (suc c) (p + cells step c) fs (drop (suc c) ys) (sym long₁) loose₁ (omega (arith, ends)) sum)

        count : blocks (way.lower ++ way.here ∷ way.higher) ≡ blocks ys
        count = ap blocks (sym way.free) ∙ blocks-append fs (afresh (cells step) (suc c) (total (cells step) 0 (take (suc c) ys) + cells step c) (drop (suc c) ys))
            ∙ ap₂ (λ (x y : List Block). x ++ y) (afresh-blocks (cells step) 0 0 (take (suc c) ys)) (afresh-blocks (cells step) (suc c) (total (cells step) 0 (take (suc c) ys) + cells step c) (drop (suc c) ys))
            ∙ sym (blocks-append (take (suc c) ys) (drop (suc c) ys)) ∙ ap blocks (take-append-drop (suc c) ys)

        pub laying_puts : Puts step h₂ (encode step N (afresh (cells step) 0 0 (joined c b ys))) c p t bs
        laying_puts =
            let n : ℕ = length way.lower in
            let x : Puts step (encode step N (way.lower ++ way.here ∷ way.higher)) (encode step N (way.lower ++ added (end_after step 0 0 way.lower) b way.here ∷ way.higher)) n (end_of (cells step) n (end_after step 0 0 way.lower) way.here) t bs =
            puts_at step N stored.pages t bs way.lower way.here way.higher free_loose (subst (Loose step N) way.full (valid_loose step N (afresh (cells step) 0 0 (joined c b ys)) full_valid))
            (rw count l.able.few) (rw way.class (fitting_fits step h t bs c l)) (rw way.class (fitting_bytes step h t bs c l)) in
            subst (λ (y : List ℕ). Puts step y (encode step N (afresh (cells step) 0 0 (joined c b ys))) c p t bs) (sym free_is)
            (subst (λ (y : List Zone). Puts step (encode step N (way.lower ++ way.here ∷ way.higher)) (encode step N y) c p t bs) (sym way.full)
            (subst (λ (y : ℕ). Puts step (encode step N (way.lower ++ way.here ∷ way.higher)) (encode step N (way.lower ++ added (end_after step 0 0 way.lower) b way.here ∷ way.higher)) c y t bs) (way.cell ∙ sym cell_is)
            (rw way.class at x)))

        pub laying_done : (h₃ : List ℕ) → h₃ ≡ with_block step h₂ c p t bs → (true ≡ is_some (laid_in h t bs)) × (h₃ ≡ settled (step_of h) N h (laid_in h t bs))
        unfolding settled
        laying_done h₃ d = rw (sym in_is ∙ is_some_lem) (refl, d ∙ laying_puts.bytes ∙ ap (λ (k : ℕ). encode k N (afresh (cells step) 0 0 (joined c b ys))) l.code)

-- ---- placed, or laid out afresh

module _ (h : List ℕ) (t : ℕ) (bs : List ℕ) (r : Bool) (h' : List ℕ) (a : r ≡ is_some (placed_in h t bs)) (q : h' ≡ settled (step_of h) (pages_of h) h (placed_in h t bs)) where
  pub settled_placed : r ≡ true → (true ≡ is_some (settled_in h t bs)) × (h' ≡ settled (step_of h) (pages_of h) h (settled_in h t bs))
  unfolding settle or_else
  settled_placed e = by (placed_in h t bs) (sym e ∙ a) q
    where
      by : (o : Option (List Zone)) → true ≡ is_some o → h' ≡ settled (step_of h) (pages_of h) h o
          → (true ≡ is_some (or_else o (laid_in h t bs))) × (h' ≡ settled (step_of h) (pages_of h) h (or_else o (laid_in h t bs)))
      by none a q = never (sym a)
      by (some l) a q = (a, q)

  -- nothing is stored yet
  else_is : r ≡ false → (h' ≡ h) × (settled_in h t bs ≡ laid_in h t bs)
  unfolding settle or_else settled
  else_is e = by (placed_in h t bs) (sym e ∙ a) q
    where
      by : (o : Option (List Zone)) → false ≡ is_some o → h' ≡ settled (step_of h) (pages_of h) h o → (h' ≡ h) × (or_else o (laid_in h t bs) ≡ laid_in h t bs)
      by none a q = (q, refl)
      by (some l) a q = never a

  pub settled_able : r ≡ false → Placeable h t bs → Placeable h' t bs
  settled_able e p = subst (λ (x : List ℕ). Placeable x t bs) (sym (else_is e).0) p

  pub settled-laid : r ≡ false → (r' : Bool) (h'' : List ℕ) → r' ≡ is_some (laid_in h' t bs) → h'' ≡ settled (step_of h') (pages_of h') h' (laid_in h' t bs)
      → (r' ≡ is_some (settled_in h t bs)) × (h'' ≡ settled (step_of h) (pages_of h) h (settled_in h t bs))
  settled-laid e r' h'' a' q' =
      rw (else_is e).1 (subst (λ (x : List ℕ). (r' ≡ is_some (laid_in x t bs)) × (h'' ≡ settled (step_of x) (pages_of x) x (laid_in x t bs))) (else_is e).0 (a', q'))
