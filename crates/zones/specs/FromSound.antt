-- In a sound home, placing from a class up, given the end of the zones below it, is the layout's placing.
use Rattle.std.specs.Prelude.{◌≡◌, refl, Bool, ℕ, suc, ◌+◌, ◌*◌, ◌-◌, ◌/◌, ◌≤◌, ◌<◌, take}
use Rattle.std.proofs.Common.{sym, ◌∙◌, subst, add-one, length-append}
use Rattle.std.proofs.Math.Path.{ap, ap₂}
use Rattle.std.proofs.Math.Option.{Option, none, some, map, get_or}
use mathlib.Core.List.{List, [], ◌∷◌, ◌++◌}
use native.Mathlib.Omega.{arith}
use Rattle.std.proofs.Math.ListN.{length}
use Rattle.wire.specs.Bytes.{Bytes, is_some}
use Rattle.layout.specs.Capacities.{cells, class_of}
use Rattle.layout.specs.CapacitiesLaws.{cells_mono, cells_pos, class_below as class-most}
use Rattle.layout.specs.Zones.{Block, Zone, blocks, added, end_of, shift, place}
use Rattle.layout.specs.PermLaws.{plength}
use Rattle.home.specs.Layout.{Sits, Fit, Valid, Loose}
use Rattle.layout.specs.Cases.{Holds, map_twice}
use Rattle.layout.specs.FindLaws.{Lacks, lacks_has}
use Rattle.layout.specs.PlaceLaws.{place-valid}
use Rattle.home.specs.Bytes.{step_of, encode, decode, first_at, many_at, block_bytes, end_at}
use Rattle.home.specs.Sound.{pages_of}
use Rattle.home.specs.LookupLoopLaws.{sound_ordered}
use Rattle.home.specs.EncodeLaws.{valid_loose}
use Rattle.home.specs.SoundLaws.{sound-valid, sound-tags}
use Rattle.moves.specs.Stored.{Stored, end_after, settled}
use Rattle.moves.specs.LooseLaws.{stored_long, fit_lower, fit_above, blocks-append, loose_joined, Shifted, shift_fit, sound-stored}
use Rattle.moves.specs.AtLaws.{at-zone, take_here, joined, long_next}
use Rattle.seats.specs.Seat.{cell_for, end_from, raised, seated, Stacked}
use Rattle.seats.specs.LayoutLaws.{end_here, loose_next, end_passed, raised_layout, stored_ends, stacked_stored}
use Rattle.zones.specs.Place.{whole_block, with_block, block_in, placed_from, From, placed_in, Placeable}
use Rattle.zones.specs.PlaceLaws.{end_added, puts_at, Fitting, fitting_under, fitting_sits, fitting_fits, fitting_bytes}

-- ---- the layout's placing, taken apart at the block's zone

-- the zones ls, then z with block b, then others
abbrev with_added : ℕ → Block → List Zone → Zone → List Zone → List Zone
with_added e b ls z r = ls ++ added e b z ∷ r

place_at_lem : (step n c e k : ℕ) (b : Block) (ls : List Zone) (z : Zone) (hs : List Zone) → k ≡ c + length ls
    → place (cells step) n c e (length ls) b (ls ++ z ∷ hs)
    ≡ map (with_added (end_after step c e ls) b ls z) (shift (cells step) n (suc k) (end_of (cells step) k (end_after step c e ls) (added (end_after step c e ls) b z)) hs)
unfolding place end_after
place_at_lem step n c e k b [] z hs q = let p : c ≡ k = omega arith in ap (λ (d : ℕ). map (with_added e b [] z) (shift (cells step) n (suc d) (end_of (cells step) d e (added e b z)) hs)) p
place_at_lem step n c e k b (y ∷ ls) z hs q =
    let e' : ℕ = end_after step (suc c) (end_of (cells step) c e y) ls in
    ap (map (λ (r : List Zone). y ∷ r)) (place_at_lem step n (suc c) (end_of (cells step) c e y) k b ls z hs (omega arith))
    ∙ map_twice (λ (r : List Zone). y ∷ r) (with_added e' b ls z) (shift (cells step) n (suc k) (end_of (cells step) k e' (added e' b z)) hs)

-- a block of class k = length ls into the zones ls ++ z ∷ hs
module _ (step R : ℕ) (small : R ≤ 1024) (t : ℕ) (bs : List ℕ) (ls : List Zone) (z : Zone) (hs : List Zone) (v : Valid step (8 * R) (ls ++ z ∷ hs)) (sits : Sits step (length ls) (block_in t bs))
    (new : Lacks t (blocks (ls ++ z ∷ hs))) (few : length (blocks (ls ++ z ∷ hs)) < 256) (fits : length bs + 8 ≤ 8 * cells step (length ls))
    (block : block_bytes step (length ls) (block_in t bs) ≡ whole_block step (length ls) t bs) where
  abbrev b : Block
  b = block_in t bs

  abbrev k : ℕ
  k = length ls

  abbrev e : ℕ
  e = end_after step 0 0 ls

  abbrev to : ℕ
  to = end_of (cells step) k e z

  abbrev ks : List Zone
  ks = ls ++ z ∷ []

  abbrev h : List ℕ
  h = encode step R (ls ++ z ∷ hs)

  abbrev o : Option (List Zone)
  o = shift (cells step) (8 * R) (suc k) (to + cells step k) hs

  loose : Loose step R (ls ++ z ∷ hs)
  loose = valid_loose step R (ls ++ z ∷ hs) v

  long : length ks ≡ suc k
  long = long_next ls z hs

  end : end_after step 0 0 ks ≡ to
  end = end_passed step R small ls z hs loose

  loose_joint : Loose step R (ks ++ hs)
  loose_joint = loose_next step R small ls z hs loose

  stood : Fit step (8 * R) (suc k) to hs
  stood = subst (λ (x : ℕ). Fit step (8 * R) (suc k) x hs) end (fit_above step (8 * R) 0 0 (suc k) ks hs (omega (arith, long)) loose_joint.fit)

  -- room is made by lifting higher zones' blocks, and the lower zones stay
  roomy : (r : List Zone) → Shifted step (8 * R) (suc k) (to + cells step k) hs r → Loose step R (ls ++ z ∷ r)
  roomy r m = subst (Loose step R) (joined ls z r) (loose_joined step R ks hs r loose_joint
      (subst (λ (j : ℕ). Fit step (8 * R) j (end_after step 0 0 ks) r) (sym long) (fit_lower step (8 * R) (suc k) (to + cells step k) (end_after step 0 0 ks) r (omega (arith, end)) m.fit))
      m.same m.long)

  count : (r : List Zone) → length (blocks (ls ++ z ∷ r)) ≡ length (blocks ks) + length (blocks r)
  count r = ap (λ (l : List Zone). length (blocks l)) (sym (joined ls z r)) ∙ ap length (blocks-append ks r) ∙ length-append (blocks ks) (blocks r)

  put_in : (x : Option (List Zone)) → Holds (Shifted step (8 * R) (suc k) (to + cells step k) hs) x → place (cells step) (8 * R) 0 0 k b (ls ++ z ∷ hs) ≡ map (with_added e b ls z) x
      → map (λ (y : List ℕ). with_block step y k to t bs) (map (λ (r : List Zone). encode step R (ks ++ r)) x) ≡ map (encode step R) (map (with_added e b ls z) x)
  put_in none m q = refl
  put_in (some r) m q =
      ap some (ap (λ (l : List Zone). with_block step (encode step R l) k to t bs) (joined ls z r)
      ∙ (puts_at step R small t bs ls z r (roomy r m)
      (valid_loose step R (with_added e b ls z r) (place-valid (cells step) (class_of step) (cells_mono step) (cells_pos step) (8 * R) k b (ls ++ z ∷ hs) (with_added e b ls z r) v sits new few q).valid)
      (omega (arith, few, count hs, count r, plength m.same)) fits block).bytes)

  place_is : place (cells step) (8 * R) 0 0 k b (ls ++ z ∷ hs) ≡ map (with_added e b ls z) o
  place_is = place_at_lem step (8 * R) 0 0 k b ls z hs (omega arith) ∙ ap (λ (x : ℕ). map (with_added e b ls z) (shift (cells step) (8 * R) (suc k) x hs)) (end_added step k e b z)

  room_is : raised step (29 - k) h (k + 1) (to + cells step k) ≡ map (λ (r : List Zone). encode step R (ks ++ r)) o
  room_is =
      let m : 29 - k ≡ length hs = omega (arith, v.classes, length-append ls (z ∷ hs)) in
      ap (λ (i : ℕ). raised step i h (k + 1) (to + cells step k)) m
      ∙ ap₂ (λ (x : List ℕ) (i : ℕ). raised step (length hs) x i (to + cells step k)) (ap (encode step R) (sym (joined ls z hs))) (add-one k ∙ sym long)
      ∙ raised_layout step R small hs ks (to + cells step k) loose_joint (omega (arith, end)) (omega (arith, end, ap (cells step) long, cells_mono step k))
      ∙ ap (λ (i : ℕ). map (λ (r : List Zone). encode step R (ks ++ r)) (shift (cells step) (8 * R) i (to + cells step k) hs)) long

  placed_at : map (λ (y : List ℕ). with_block step y k to t bs) (raised step (29 - k) h (k + 1) (to + cells step k)) ≡ map (encode step R) (place (cells step) (8 * R) 0 0 k b (ls ++ z ∷ hs))
  placed_at =
      ap (map (λ (y : List ℕ). with_block step y k to t bs)) room_is
      ∙ put_in o (shift_fit step (8 * R) (suc k) to (to + cells step k) hs stood (omega arith) (omega (arith, cells_mono step k))) place_is
      ∙ ap (map (encode step R)) (sym place_is)

-- ---- in a sound home

module _ (h : List ℕ) (t : ℕ) (bs : List ℕ) (l : Fitting (step_of h) h t bs (class_of (step_of h) (length bs / 8))) where
  abbrev n : ℕ
  n = class_of (step_of h) (length bs / 8)

  abbrev N : ℕ
  N = pages_of h

  stored : Stored (step_of h) h
  stored = sound-stored h l.able.sound

  under : n < 30
  under = fitting_under (step_of h) h t bs n l

  -- the block's cell is where the layout's zones up to its own end
  from_zone : (y : List Zone) (i : ℕ) → i < length y → encode (step_of h) N y ≡ h → Valid (step_of h) (8 * N) y → Sits (step_of h) i (block_in t bs) → Lacks t (blocks y) → length (blocks y) < 256 → length bs + 8 ≤ 8 * cells (step_of h) i
      → block_bytes (step_of h) i (block_in t bs) ≡ whole_block (step_of h) i t bs → (e : ℕ) → e ≡ end_after (step_of h) 0 0 (take i y)
      → map (λ (x : List ℕ). with_block (step_of h) x i (end_at (step_of h) h i e) t bs) (seated (step_of h) h i (first_at h i) (many_at h i) e) ≡ map (encode (step_of h) N) (place (cells (step_of h)) (8 * N) 0 0 i (block_in t bs) y)
  unfolding end_at cell_for
  from_zone y i g =
      at-zone y i g
      (λ (ys : List Zone) (j : ℕ). encode (step_of h) N ys ≡ h → Valid (step_of h) (8 * N) ys → Sits (step_of h) j (block_in t bs) → Lacks t (blocks ys) → length (blocks ys) < 256 → length bs + 8 ≤ 8 * cells (step_of h) j
      → block_bytes (step_of h) j (block_in t bs) ≡ whole_block (step_of h) j t bs → (e : ℕ) → e ≡ end_after (step_of h) 0 0 (take j ys)
      → map (λ (x : List ℕ). with_block (step_of h) x j (end_at (step_of h) h j e) t bs) (raised (step_of h) (29 - j) h (j + 1) (end_at (step_of h) h j e + cells (step_of h) j)) ≡ map (encode (step_of h) N) (place (cells (step_of h)) (8 * N) 0 0 j (block_in t bs) ys))
      (λ ls z hs q v s k f w c e d.
      let a : end_at (step_of h) h (length ls) e ≡ end_of (cells (step_of h)) (length ls) (end_after (step_of h) 0 0 ls) z =
      ap₂ (λ (x : List ℕ) (u : ℕ). end_at (step_of h) x (length ls) u) (sym q) (d ∙ ap (end_after (step_of h) 0 0) (take_here ls z hs)) ∙ end_here (step_of h) N stored.pages ls z hs (valid_loose (step_of h) N (ls ++ z ∷ hs) v) (end_after (step_of h) 0 0 ls) in
      ap₂ (λ (u : ℕ) (y : List ℕ). map (λ (x : List ℕ). with_block (step_of h) x (length ls) u t bs) (raised (step_of h) (29 - length ls) y (length ls + 1) (u + cells (step_of h) (length ls)))) a (sym q)
      ∙ placed_at (step_of h) N stored.pages t bs ls z hs v s k f w c)

  pub from_sound : (c e : ℕ) → c ≤ n → e ≡ end_after (step_of h) 0 0 (take c (decode h)) → placed_from (step_of h) h c e t bs ≡ map (encode (step_of h) N) (placed_in h t bs)
  unfolding placed_from
  from_sound c e g q =
      let d : n - c + c ≡ n = omega arith in
      from_zone (decode h) n (omega (arith, stored.loose.classes, under)) (sym stored.bytes) (sound-valid h l.able.sound) (fitting_sits (step_of h) h t bs n l)
      (lacks_has t (blocks (decode h)) l.able.new) l.able.few (fitting_fits (step_of h) h t bs n l) (fitting_bytes (step_of h) h t bs n l) (end_from (step_of h) (n - c) h c e)
      (ap (end_from (step_of h) (n - c) h c) q ∙ stored_ends (step_of h) h stored (n - c) c (omega (arith, under)) ∙ ap (λ (i : ℕ). end_after (step_of h) 0 0 (take i (decode h))) d)

-- what is asked for placing from class c up
pub sound_from : (h : List ℕ) (t : ℕ) (bs : List ℕ) → Placeable h t bs → (c e : ℕ) → c ≤ class_of (step_of h) (length bs / 8) → e ≡ end_after (step_of h) 0 0 (take c (decode h)) → From (step_of h) h c e bs
sound_from h t bs a c e g q =
    let s : Stored (step_of h) h = sound-stored h a.sound in
    record {
      long = omega (arith, stored_long (step_of h) h s, s.pages);
      ordered = sound_ordered h a.sound;
      few = omega (arith, sound-tags h a.sound, a.few);
      above = subst (Stacked (step_of h) (30 - c) h c) (sym q) (stacked_stored (step_of h) h s c (omega (arith, class-most (step_of h) (length bs / 8) a.most)));
      class = g;
      whole = a.whole;
      most = a.most;
    }

-- ---- from class 0 and cell 0

pub sound-start : (h : List ℕ) (t : ℕ) (bs : List ℕ) → Placeable h t bs → From (step_of h) h 0 0 bs
unfolding end_after
sound-start h t bs a = sound_from h t bs a 0 0 (omega arith) refl

pub placed_sound : (h : List ℕ) (t : ℕ) (bs : List ℕ) → Placeable h t bs → t < 4294967296 → Bytes bs → (r : Bool) (h' : List ℕ)
    → r ≡ is_some (placed_from (step_of h) h 0 0 t bs) → h' ≡ get_or (placed_from (step_of h) h 0 0 t bs) h → (r ≡ is_some (placed_in h t bs)) × (h' ≡ settled (step_of h) (pages_of h) h (placed_in h t bs))
unfolding end_after settled
placed_sound h t bs a g w r h' p q =
    let m : placed_from (step_of h) h 0 0 t bs ≡ map (encode (step_of h) (pages_of h)) (placed_in h t bs) = from_sound h t bs (record { code = refl; able = a; tag = g; bytes = w; class = refl }) 0 0 (omega arith) refl in
    by (placed_in h t bs) (p ∙ ap is_some m) (q ∙ ap (λ (x : Option (List ℕ)). get_or x h) m)
  where
    by : (x : Option (List Zone)) → r ≡ is_some (map (encode (step_of h) (pages_of h)) x) → h' ≡ get_or (map (encode (step_of h) (pages_of h)) x) h → (r ≡ is_some x) × (h' ≡ settled (step_of h) (pages_of h) h x)
    by none p q = (p, q)
    by (some x) p q = (p, q)
