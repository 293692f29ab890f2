-- Layouts that are valid but for their gaps: their zones and entries read off the bytes, and zones exchanged.
use Rattle.std.specs.Prelude.{◌≡◌, refl, true, List, [], ◌∷◌, ◌++◌, map, ℕ, zero, suc, ◌+◌, ◌*◌, ◌≤◌, ◌<◌, leb, length, get_or}
use Rattle.std.proofs.Common.{sym, ap, ◌∙◌, subst, append_assoc, arith, length-append, leb-true, leb-false}
use Rattle.layout.specs.Capacities.{cells}
use Rattle.layout.specs.CapacitiesLaws.{cells_mono}
use Rattle.layout.specs.Zones.{Block, Zone, empty, from, zone, blocks, lifted, end_of, shift}
use Rattle.layout.specs.Perm.{Perm, pnil, pskip, ptrans, Pairs}
use Rattle.layout.specs.PermLaws.{prefl, psym, pleft, pright, protate, plength, pall, ppairs}
use Rattle.layout.specs.Valid.{Other}
use Rattle.home.specs.Layout.{Sits, Fit, Loose}
use Rattle.layout.specs.Cases.{by_pick, Holds, holds_map}
use Rattle.layout.specs.PlaceLaws.{length_snoc}
use Rattle.home.specs.Bytes.{step_of, Spot, spots, Entry, entry_of, sorted, dictionary, zone_entries, area, encode, decode, first_at, many_at}
use Rattle.home.specs.Sound.{sound, pages_of}
use Rattle.home.specs.SoundLaws.{encode-decode, sound-small, sound_loose}
use Rattle.home.specs.HomeLaws.{Entries}
use Rattle.home.specs.DictionaryLaws.{Below, dictionary-rising}
use Rattle.home.specs.EncodeLaws.{state, Fine, length-zones, fine, encode-state, entries_loose, length_loose}
use Rattle.moves.specs.Moves.{Movable}
use Rattle.moves.specs.EntryLaws.{Parted, kept, sorted-one}
use Rattle.moves.specs.StateLaws.{state_movable}
use Rattle.moves.specs.LayoutMoves.{first_of, many_of}
use Rattle.moves.specs.Stored.{Stored, end_after}
use Rattle.moves.specs.HomeLaws.{area_bears, others, dictionary_as}

-- ---- zones' entries

entry_at : (h : List ℕ) (i : ℕ) (zs : List Zone) (k : ℕ) → Entries h i zs → k < length zs → (first_at h (i + k) ≡ first_of (get_or zs k empty)) × (many_at h (i + k) ≡ many_of (get_or zs k empty))
unfolding first_of many_of
entry_at h i [] k d g = absurd (omega arith)
entry_at h i (empty ∷ zs) zero d g = let e : i + 0 ≡ i = omega arith in rw e (d.0, d.1)
entry_at h i (from f x xs ∷ zs) zero d g = let e : i + 0 ≡ i = omega arith in rw e (d.0, d.1)
entry_at h i (empty ∷ zs) (suc k) d g = let e : i + suc k ≡ suc i + k = omega arith in rw e (entry_at h (suc i) zs k d.2 (omega arith))
entry_at h i (from f x xs ∷ zs) (suc k) d g = let e : i + suc k ≡ suc i + k = omega arith in rw e (entry_at h (suc i) zs k d.2 (omega arith))

module _ (step R : ℕ) (small : R ≤ 1024) (zs : List Zone) (v : Loose step R zs) where
  abbrev es : List ℕ
  es = zone_entries zs

  abbrev a : List ℕ
  a = area step (8 * R) zs

  abbrev ds : List Entry
  ds = dictionary step zs

  pub zone-at : (c : ℕ) → c < 30 → (first_at (encode step R zs) c ≡ first_of (get_or zs c empty)) × (many_at (encode step R zs) c ≡ many_of (get_or zs c empty))
  zone-at c g = let e : 0 + c ≡ c = omega arith in rw e at (entry_at (encode step R zs) 0 zs c (entries_loose step R small zs v) (omega (arith, v.classes)))

  pub movable : (s : Spot) (ss : List Spot) → Perm (spots step 0 zs) (s ∷ ss) → Movable (encode step R zs) s.cell
  movable s ss p =
      let le : length es ≡ 120 = length-zones step R zs v in
      let ok = fine step R small zs v in
      let x : Entry = entry_of s in
      let k : Parted x.tag (sorted (map entry_of ss)) = kept x (map entry_of ss) (others step R zs v (s ∷ ss) p) in
      let d : ds ≡ k.pre ++ x ∷ k.post = dictionary_as step R zs v (s ∷ ss) p ∙ sorted-one x (map entry_of ss) k in
      subst (λ (h : List ℕ). Movable h s.cell) (sym (encode-state step R zs v ∙ ap (λ (l : List Entry). state step es l a) d))
      (state_movable step es le k.pre k.post a x.tag k.low k.high x s.cell refl (subst Fine d ok) (subst (Pairs Below) d (dictionary-rising step zs v.distinct)) (area_bears step R zs v s ss p))

pub sound-stored : (h : List ℕ) → sound h ≡ true → Stored (step_of h) h
sound-stored h t = record { pages = sound-small h t; bytes = sym (encode-decode h t); loose = sound_loose h t }

pub stored_long : (step : ℕ) (h : List ℕ) → Stored step h → length h ≡ 1664 + 64 * pages_of h
stored_long step h s = ap length s.bytes ∙ length_loose step (pages_of h) (decode h) s.loose

pub zone_is : (step : ℕ) (h : List ℕ) → Stored step h → (c : ℕ) → c < 30 → (first_at h c ≡ first_of (get_or (decode h) c empty)) × (many_at h c ≡ many_of (get_or (decode h) c empty))
zone_is step h s c g =
    let z : Zone = get_or (decode h) c empty in
    subst (λ (l : List ℕ). (first_at l c ≡ first_of z) × (many_at l c ≡ many_of z)) (sym s.bytes) (zone-at step (pages_of h) s.pages (decode h) s.loose c g)

-- ---- higher zones exchanged

pub fit_lower : (step n c e e' : ℕ) (zs : List Zone) → e' ≤ e → Fit step n c e zs → Fit step n c e' zs
fit_lower step n c e e' [] g h = omega arith
fit_lower step n c e e' (empty ∷ zs) g h = fit_lower step n (suc c) e e' zs g h
fit_lower step n c e e' (from f x xs ∷ zs) g h = (record { after = omega (arith, h.0.after); sit = h.0.sit }, h.1)

pub fit_above : (step n c e k : ℕ) (ls hs : List Zone) → k ≡ c + length ls → Fit step n c e (ls ++ hs) → Fit step n k (end_after step c e ls) hs
unfolding end_after
fit_above step n c e k [] hs q h = let p : c ≡ k = omega arith in subst (λ (d : ℕ). Fit step n d e hs) p h
fit_above step n c e k (empty ∷ ls) hs q h = fit_above step n (suc c) e k ls hs (omega arith) h
fit_above step n c e k (from f x xs ∷ ls) hs q h = fit_above step n (suc c) (f + suc (length xs) * cells step c) k ls hs (omega arith) h.1

pub fit_joined : (step n c e k : ℕ) (ls hs hs' : List Zone) → k ≡ c + length ls → Fit step n c e (ls ++ hs) → Fit step n k (end_after step c e ls) hs' → Fit step n c e (ls ++ hs')
unfolding end_after
fit_joined step n c e k [] hs hs' q h h' = let p : k ≡ c = omega arith in subst (λ (d : ℕ). Fit step n d e hs') p h'
fit_joined step n c e k (empty ∷ ls) hs hs' q h h' = fit_joined step n (suc c) e k ls hs hs' (omega arith) h h'
fit_joined step n c e k (from f x xs ∷ ls) hs hs' q h h' = (h.0, fit_joined step n (suc c) (f + suc (length xs) * cells step c) k ls hs hs' (omega arith) h.1 h')

pub blocks-append : (ls hs : List Zone) → blocks (ls ++ hs) ≡ blocks ls ++ blocks hs
unfolding blocks
blocks-append [] hs = refl
blocks-append (empty ∷ ls) hs = blocks-append ls hs
blocks-append (from f x xs ∷ ls) hs = ap (λ (l : List Block). x ∷ (xs ++ l)) (blocks-append ls hs) ∙ sym (append_assoc (x ∷ xs) (blocks ls) (blocks hs))

pub zone-blocks : (f : ℕ) (bs : List Block) (hs : List Zone) → blocks (zone f bs ∷ hs) ≡ bs ++ blocks hs
unfolding blocks zone
zone-blocks f [] hs = refl
zone-blocks f (x ∷ xs) hs = refl

-- fitting zones with the same blocks instead
pub loose_joined : (step R : ℕ) (ls hs hs' : List Zone) → Loose step R (ls ++ hs) → Fit step (8 * R) (length ls) (end_after step 0 0 ls) hs' → Perm (blocks hs') (blocks hs) → length hs' ≡ length hs → Loose step R (ls ++ hs')
loose_joined step R ls hs hs' v f p l =
    let q : Perm (blocks (ls ++ hs)) (blocks (ls ++ hs')) = subst (λ (x : List Block). Perm x (blocks (ls ++ hs'))) (sym (blocks-append ls hs))
    (subst (Perm (blocks ls ++ blocks hs)) (sym (blocks-append ls hs')) (pleft (blocks ls) (psym p))) in
    record {
      classes = omega (arith, v.classes, length-append ls hs, length-append ls hs');
      fit = fit_joined step (8 * R) 0 0 (length ls) ls hs hs' (omega arith) v.fit f;
      distinct = ppairs Other (λ x y o e. o (sym e)) q v.distinct;
      few = omega (arith, v.few, plength q);
    }

-- ---- zones shifted

-- zones that fit from e on, with the blocks of zs
pub record Shifted (step n c e : ℕ) (zs zs' : List Zone) : Type 0 where
  pub fit : Fit step n c e zs'
  pub same : Perm (blocks zs') (blocks zs)
  pub long : length zs' ≡ length zs

pub shift_fit : (step n c e₀ e : ℕ) (zs : List Zone) → Fit step n c e₀ zs → e₀ ≤ e → e ≤ e₀ + cells step c → Holds (Shifted step n c e zs) (shift (cells step) n c e zs)
unfolding shift blocks end_of lifted
shift_fit step n c e₀ e [] h lo hi = by_pick (Holds (Shifted step n c e [])) (leb e n) (λ t. record { fit = leb-true e n t; same = pnil; long = refl }) (λ t. tt)
shift_fit step n c e₀ e (empty ∷ zs) h lo hi =
    holds_map (Shifted step n (suc c) e zs) (Shifted step n c e (empty ∷ zs)) empty (λ r m. record { fit = m.fit; same = m.same; long = ap suc m.long }) (shift (cells step) n (suc c) e zs)
    (shift_fit step n (suc c) e₀ e zs h lo (omega (arith, cells_mono step c)))
shift_fit step n c e₀ e (from f x [] ∷ zs) h lo hi =
    by_pick (Holds (Shifted step n c e (from f x [] ∷ zs))) (leb e f)
    (λ t. record { fit = (record { after = leb-true e f t; sit = h.0.sit }, h.1); same = prefl _; long = refl })
    (λ t. let gt : f < e = leb-false e f t in
    holds_map (Shifted step n (suc c) (e + 1 * cells step c) zs) (Shifted step n c e (from f x [] ∷ zs)) (from e x [])
    (λ r m. record { fit = (record { after = omega arith; sit = h.0.sit }, m.fit); same = pskip x m.same; long = ap suc m.long })
    (shift (cells step) n (suc c) (e + 1 * cells step c) zs)
    (shift_fit step n (suc c) (f + 1 * cells step c) (e + 1 * cells step c) zs h.1 (omega arith) (omega (arith, cells_mono step c, h.0.after))))
shift_fit step n c e₀ e (from f x (y ∷ ys) ∷ zs) h lo hi =
    by_pick (Holds (Shifted step n c e (from f x (y ∷ ys) ∷ zs))) (leb e f)
    (λ t. record { fit = (record { after = leb-true e f t; sit = h.0.sit }, h.1); same = prefl _; long = refl })
    (λ t. let gt : f < e = leb-false e f t in
    let k : ℕ = f + cells step c + suc (length (ys ++ (x ∷ []))) * cells step c in
    let ek : k ≡ f + suc (suc (length ys)) * cells step c + cells step c = simp length_snoc (omega arith) in
    holds_map (Shifted step n (suc c) k zs) (Shifted step n c e (from f x (y ∷ ys) ∷ zs)) (from (f + cells step c) y (ys ++ (x ∷ [])))
    (λ r m. record {
      fit = (record { after = omega (arith, h.0.after); sit = pall (Sits step c) (psym (protate x (y ∷ ys))) h.0.sit }, m.fit);
      same = ptrans (pleft (y ∷ (ys ++ (x ∷ []))) m.same) (pright (blocks zs) (protate x (y ∷ ys)));
      long = ap suc m.long;
    })
    (shift (cells step) n (suc c) k zs)
    (shift_fit step n (suc c) (f + suc (suc (length ys)) * cells step c) k zs h.1 (omega arith) (omega (arith, cells_mono step c))))
