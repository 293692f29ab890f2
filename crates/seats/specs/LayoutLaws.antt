-- On a layout's bytes: ends are where its zones end, its zones lie one behind the other, and room is made as the layout's `shift` says.
use Rattle.std.specs.Prelude.{◌≡◌, ◌≢◌, take, drop, get_or}
use Rattle.std.proofs.Math.Path.{refl, sym, ap, ap₂, subst}
use Rattle.std.proofs.Common.{◌∙◌, arith, add-one, length-take, take-append-drop, length-drop}
use Rattle.std.proofs.Math.Option.{Option, none, some, map}
use mathlib.Core.List.{List, [], ◌∷◌, ◌++◌, append_assoc}
use Prim.Native.Nat.{ℕ, zero, suc, ◌+◌, ◌*◌, ◌-◌, ◌≤◌, ◌<◌}
use Rattle.std.proofs.Math.ListN.{length}
use borrow.Author.Tests.{le-leb, lt-leb}
use Rattle.wire.specs.Cases.{by_lt}
use Rattle.layout.specs.Capacities.{cells}
use Rattle.layout.specs.CapacitiesLaws.{cells_mono}
use Rattle.layout.specs.Zones.{Block, Zone, empty, from, blocks, lifted, end_of, shift}
use Rattle.layout.specs.PermLaws.{prefl, pleft}
use Rattle.home.specs.Layout.{Fit, Loose}
use Rattle.layout.specs.Cases.{Holds, map_twice, map_same}
use Rattle.layout.specs.PlaceLaws.{length_snoc}
use Rattle.home.specs.Bytes.{Spot, row, spots, encode, decode, cell_at, first_at, many_at, end_at}
use Rattle.home.specs.EndLaws.{end_none, end_some}
use Rattle.home.specs.Sound.{pages_of}
use Rattle.home.specs.AreaLaws.{fit_le}
use Rattle.home.specs.EncodeLaws.{length_loose}
use Rattle.moves.specs.Moves.{Movable, zoned, moved}
use Rattle.moves.specs.SpotLaws.{spot, in_context, lifted_to, lifted_first}
use Rattle.moves.specs.LayoutMoves.{first_of, many_of, class_below, home-lifted}
use Rattle.moves.specs.Stored.{Stored, end_after}
use Rattle.moves.specs.LooseLaws.{movable, zone-at, zone_is, fit_lower, fit_above, loose_joined, Shifted, shift_fit}
use Rattle.moves.specs.AtLaws.{zone_here, joined, long_next, end_next, end_of_lem}
use Rattle.seats.specs.Seat.{cell_for, first_with, end_from, displaced, raised, Stacked}
use Rattle.seats.specs.SeatLaws.{cell_none, cell_some, first-none, first_some}
use Rattle.seats.specs.StackLaws.{raised_skip, raised_stays, lift, raised_lifts}

-- ---- a zone lifted

-- one block goes to the lower zones' end, of more the first to the zone's end
to_is : (step c e f : ℕ) (xs : List Block) → lifted_to step c e f xs ≡ cell_for e (f + cells step c) (length xs) (cells step c)
unfolding lifted_to
to_is step c e f [] = sym (cell_none e (f + cells step c) 0 (cells step c) refl)
to_is step c e f (y ∷ ys) = sym (cell_some e (f + cells step c) (suc (length ys)) (cells step c) (λ q. omega arith) ∙ omega arith)

first_is : (step c e f : ℕ) (xs : List Block) → lifted_first step c e f xs ≡ first_with (length xs) (f + cells step c) (cell_for e (f + cells step c) (length xs) (cells step c))
unfolding lifted_first
first_is step c e f [] = sym (first-none 0 (f + cells step c) (cell_for e (f + cells step c) 0 (cells step c)) refl ∙ cell_none e (f + cells step c) 0 (cells step c) refl)
first_is step c e f (y ∷ ys) = sym (first_some (suc (length ys)) (f + cells step c) (cell_for e (f + cells step c) (suc (length ys)) (cells step c)) (λ q. omega arith))

end_lifted : (step c e f : ℕ) (x : Block) (xs : List Block) → end_of (cells step) c e (lifted (cells step) c e f x xs) ≡ cell_for e (f + cells step c) (length xs) (cells step c) + cells step c
unfolding lifted end_of
end_lifted step c e f x [] = omega (arith, cell_none e (f + cells step c) 0 (cells step c) refl)
end_lifted step c e f x (y ∷ ys) =
    ap (λ (k : ℕ). f + cells step c + suc k * cells step c) (length_snoc ys x) ∙ omega (arith, cell_some e (f + cells step c) (suc (length ys)) (cells step c) (λ q. omega arith))

shift_stays : (step n c e f : ℕ) (x : Block) (xs : List Block) (zs : List Zone) → e ≤ f → shift (cells step) n c e (from f x xs ∷ zs) ≡ some (from f x xs ∷ zs)
unfolding shift
shift_stays step n c e f x xs zs g = rw (le-leb e f g)

shift_lifts : (step n c e f : ℕ) (x : Block) (xs : List Block) (zs : List Zone) → f < e
    → shift (cells step) n c e (from f x xs ∷ zs)
    ≡ map (λ (r : List Zone). lifted (cells step) c e f x xs ∷ r) (shift (cells step) n (suc c) (cell_for e (f + cells step c) (length xs) (cells step c) + cells step c) zs)
unfolding shift
shift_lifts step n c e f x xs zs g =
    rw (lt-leb e f g) (ap (λ (k : ℕ). map (λ (r : List Zone). lifted (cells step) c e f x xs ∷ r) (shift (cells step) n (suc c) k zs)) (end_lifted step c e f x xs))

-- ---- ends

end_entry : (step : ℕ) (h : List ℕ) (c e : ℕ) (z : Zone) → first_at h c ≡ first_of z → many_at h c ≡ many_of z → end_at step h c e ≡ end_of (cells step) c e z
unfolding first_of many_of end_of
end_entry step h c e empty a b = end_none step h c e b
end_entry step h c e (from f x xs) a b = end_some step h c e (λ q. omega arith) ∙ ap₂ (λ (i j : ℕ). i + j * cells step c) a b

-- the end carried along is that of the zones passed
pub stored_ends : (step : ℕ) (h : List ℕ) → Stored step h → (m c : ℕ) → m + c ≤ 30 → end_from step m h c (end_after step 0 0 (take c (decode h))) ≡ end_after step 0 0 (take (m + c) (decode h))
unfolding end_from
stored_ends step h s zero c g = let e : c ≡ 0 + c = omega arith in ap (λ (k : ℕ). end_after step 0 0 (take k (decode h))) e
stored_ends step h s (suc m) c g =
    let e : m + suc c ≡ suc m + c = omega arith in
    let r = zone_is step h s c (omega arith) in
    ap (end_from step m h (suc c)) (end_entry step h c (end_after step 0 0 (take c (decode h))) (get_or (decode h) c empty) r.0 r.1 ∙ sym (end_of_lem step (decode h) c (omega (arith, s.loose.classes))))
    ∙ stored_ends step h s m (suc c) (omega arith) ∙ ap (λ (k : ℕ). end_after step 0 0 (take k (decode h))) e

-- ---- a layout at a zone

module _ (step R : ℕ) (small : R ≤ 1024) (ls : List Zone) (z : Zone) (hs : List Zone) (v : Loose step R (ls ++ z ∷ hs)) where
  abbrev h : List ℕ
  h = encode step R (ls ++ z ∷ hs)

  abbrev c : ℕ
  c = length ls

  entry_here : (first_at h c ≡ first_of z) × (many_at h c ≡ many_of z)
  entry_here = subst (λ (y : Zone). (first_at h c ≡ first_of y) × (many_at h c ≡ many_of y)) (zone_here ls z hs) (zone-at step R small (ls ++ z ∷ hs) v c (class_below ls z hs v.classes))

  stands : Fit step (8 * R) c (end_after step 0 0 ls) (z ∷ hs)
  stands = fit_above step (8 * R) 0 0 c ls (z ∷ hs) (omega arith) v.fit

  pub end_here : (e : ℕ) → end_at step h c e ≡ end_of (cells step) c e z
  end_here e = end_entry step h c e z entry_here.0 entry_here.1

  -- the zones passed with it
  pub loose_next : Loose step R ((ls ++ z ∷ []) ++ hs)
  loose_next = subst (Loose step R) (sym (joined ls z hs)) v

  pub end_passed : end_after step 0 0 (ls ++ z ∷ []) ≡ end_of (cells step) c (end_after step 0 0 ls) z
  end_passed = end_next step 0 0 c ls z (omega arith)

module _ (step R : ℕ) (small : R ≤ 1024) where
  -- a zone lies behind the lower ones, and its first block can be found
  head_here : (ls : List Zone) (z : Zone) (hs : List Zone) → Loose step R (ls ++ z ∷ hs) → many_at (encode step R (ls ++ z ∷ hs)) (length ls) ≢ 0
      → (end_after step 0 0 ls ≤ first_at (encode step R (ls ++ z ∷ hs)) (length ls)) × Movable (encode step R (ls ++ z ∷ hs)) (first_at (encode step R (ls ++ z ∷ hs)) (length ls))
  unfolding first_of many_of spots row
  head_here ls empty hs v q = absurd (q (entry_here step R small ls empty hs v).1)
  head_here ls (from f x xs) hs v q =
      let c : ℕ = length ls in
      let h : List ℕ = encode step R (ls ++ from f x xs ∷ hs) in
      let rest : List Spot = row step c (f + cells step c) xs ++ spots step (suc c) hs in
      let a : first_at h c ≡ f = (entry_here step R small ls (from f x xs) hs v).0 in (
        omega (arith, a, (stands step R small ls (from f x xs) hs v).0.after),
        subst (Movable h) (sym a)
            (movable step R small (ls ++ from f x xs ∷ hs) v (spot c f x) (spots step 0 ls ++ rest) (in_context step ls (from f x xs ∷ hs) (spot c f x) rest (prefl (spot c f x ∷ rest)))),
      )

  -- so its zones lie one behind the other
  stacked_layout : (hs ls : List Zone) → Loose step R (ls ++ hs) → Stacked step (length hs) (encode step R (ls ++ hs)) (length ls) (end_after step 0 0 ls)
  stacked_layout [] ls v = omega (arith, length_loose step R (ls ++ []) v, fit_le step (8 * R) (length ls) (end_after step 0 0 ls) [] (fit_above step (8 * R) 0 0 (length ls) ls [] (omega arith) v.fit))
  stacked_layout (z ∷ hs) ls v = (
    head_here ls z hs v,
    subst (λ (e : ℕ). Stacked step (length hs) (encode step R (ls ++ z ∷ hs)) (suc (length ls)) e) (end_passed step R small ls z hs v ∙ sym (end_here step R small ls z hs v (end_after step 0 0 ls)))
        (subst (λ (x : List ℕ). Stacked step (length hs) x (suc (length ls)) (end_after step 0 0 (ls ++ z ∷ []))) (ap (encode step R) (joined ls z hs))
        (subst (λ (k : ℕ). Stacked step (length hs) (encode step R ((ls ++ z ∷ []) ++ hs)) k (end_after step 0 0 (ls ++ z ∷ []))) (long_next ls z hs)
        (stacked_layout hs (ls ++ z ∷ []) (loose_next step R small ls z hs v)))),
  )

  -- ---- room made

  abbrev Raises : List Zone → List Zone → ℕ → Type 0
  Raises ls hs e = raised step (length hs) (encode step R (ls ++ hs)) (length ls) e ≡ map (λ (r : List Zone). encode step R (ls ++ r)) (shift (cells step) (8 * R) (length ls) e hs)

  -- what is known of the zones above z, with z below them
  above : (ls : List Zone) (z : Zone) (hs : List Zone) → Loose step R (ls ++ z ∷ hs) → (e : ℕ) → Raises (ls ++ z ∷ []) hs e
      → raised step (length hs) (encode step R (ls ++ z ∷ hs)) (suc (length ls)) e ≡ map (λ (r : List Zone). encode step R (ls ++ z ∷ r)) (shift (cells step) (8 * R) (suc (length ls)) e hs)
  above ls z hs v e q =
      ap₂ (λ (x : List ℕ) (k : ℕ). raised step (length hs) x k e) (sym (ap (encode step R) (joined ls z hs))) (sym (long_next ls z hs)) ∙ q
      ∙ ap (λ (k : ℕ). map (λ (r : List Zone). encode step R ((ls ++ z ∷ []) ++ r)) (shift (cells step) (8 * R) k e hs)) (long_next ls z hs)
      ∙ map_same (λ (r : List Zone). encode step R ((ls ++ z ∷ []) ++ r)) (λ (r : List Zone). encode step R (ls ++ z ∷ r)) (shift (cells step) (8 * R) (suc (length ls)) e hs) (λ r. ap (encode step R) (append_assoc ls (z ∷ []) r))

  -- its first block lifted off
  module _ (ls : List Zone) (f : ℕ) (x : Block) (xs : List Block) (hs : List Zone) (e : ℕ) (v : Loose step R (ls ++ from f x xs ∷ hs)) (low : end_after step 0 0 ls ≤ e) (high : e ≤ end_after step 0 0 ls + cells step (length ls)) (over : f < e) where
    abbrev k : ℕ
    k = length ls

    abbrev z : Zone
    z = from f x xs

    abbrev up : Zone
    up = lifted (cells step) k e f x xs

    abbrev to : ℕ
    to = cell_for e (f + cells step k) (length xs) (cells step k)

    abbrev o : Option (List Zone)
    o = shift (cells step) (8 * R) (suc k) (to + cells step k) hs

    -- behind where the zone ended, by at most a block of the next class
    to_low : f + suc (length xs) * cells step k ≤ to + cells step k
    to_low = by xs
      where
        by : (ys : List Block) → f + suc (length ys) * cells step k ≤ cell_for e (f + cells step k) (length ys) (cells step k) + cells step k
        by [] = omega (arith, over, cell_none e (f + cells step k) 0 (cells step k) refl)
        by (y ∷ ys) = omega (arith, cell_some e (f + cells step k) (suc (length ys)) (cells step k) (λ q. omega arith))

    to_high : to + cells step k ≤ f + suc (length xs) * cells step k + cells step (suc k)
    to_high = by xs
      where
        by : (ys : List Block) → cell_for e (f + cells step k) (length ys) (cells step k) + cells step k ≤ f + suc (length ys) * cells step k + cells step (suc k)
        by [] = omega (arith, high, (stands step R small ls z hs v).0.after, cells_mono step k, cell_none e (f + cells step k) 0 (cells step k) refl)
        by (y ∷ ys) = omega (arith, cells_mono step k, cell_some e (f + cells step k) (suc (length ys)) (cells step k) (λ q. omega arith))

    lifted_bytes : (y : Option (List Zone)) → Holds (Shifted step (8 * R) (suc k) (to + cells step k) hs) y → Holds (Shifted step (8 * R) k e (z ∷ hs)) (map (λ (r : List Zone). up ∷ r) y)
        → map (λ (w : List ℕ). displaced step w k f (length xs) to) (map (λ (r : List Zone). encode step R (ls ++ z ∷ r)) y)
        ≡ map (λ (r : List Zone). encode step R (ls ++ r)) (map (λ (r : List Zone). up ∷ r) y)
    unfolding displaced blocks
    lifted_bytes none i m = refl
    lifted_bytes (some r) i m =
        let v₁ : Loose step R (ls ++ z ∷ r) = loose_joined step R ls (z ∷ hs) (z ∷ r) v
        ((stands step R small ls z hs v).0, fit_lower step (8 * R) (suc k) (to + cells step k) (f + suc (length xs) * cells step k) r to_low i.fit) (pleft (x ∷ xs) i.same) (ap suc i.long) in
        let v₂ : Loose step R (ls ++ up ∷ r) = loose_joined step R ls (z ∷ hs) (up ∷ r) v (fit_lower step (8 * R) k e (end_after step 0 0 ls) (up ∷ r) low m.fit) m.same m.long in
        ap some (sym (home-lifted step R small ls e f x xs r v₁ v₂
        ∙ ap₂ (λ (p q : ℕ). zoned (moved step (encode step R (ls ++ z ∷ r)) k f p) k q (suc (length xs))) (to_is step k e f xs) (first_is step k e f xs)
        ∙ ap (λ (n : ℕ). zoned (moved step (encode step R (ls ++ z ∷ r)) k f to) k (first_with (length xs) (f + cells step k) to) n) (sym (add-one (length xs)))))

    lifts : Raises (ls ++ z ∷ []) hs (to + cells step k) → Raises ls (z ∷ hs) e
    unfolding first_of many_of
    lifts q =
        let h : List ℕ = encode step R (ls ++ z ∷ hs) in
        let a = entry_here step R small ls z hs v in
        let n : many_at h k - 1 ≡ length xs = omega (arith, a.1) in
        let t : lift step h k e ≡ to = ap₂ (λ (i j : ℕ). cell_for e (i + cells step k) j (cells step k)) a.0 n in
        let s : shift (cells step) (8 * R) k e (z ∷ hs) ≡ map (λ (r : List Zone). up ∷ r) o = shift_lifts step (8 * R) k e f x xs hs over in
        raised_lifts step h k e (length hs) (λ y. omega (arith, a.1)) (omega (arith, a.0))
        ∙ rw (t, a.0, n) (ap (map (λ (w : List ℕ). displaced step w k f (length xs) to)) (above ls z hs v (to + cells step k) q)
        ∙ lifted_bytes o
        (shift_fit step (8 * R) (suc k) (f + suc (length xs) * cells step k) (to + cells step k) hs (stands step R small ls z hs v).1 to_low to_high)
        (subst (Holds (Shifted step (8 * R) k e (z ∷ hs))) s (shift_fit step (8 * R) k (end_after step 0 0 ls) e (z ∷ hs) (stands step R small ls z hs v) low high)))
        ∙ ap (map (λ (r : List Zone). encode step R (ls ++ r))) (sym s)

  pub raised_layout : (hs ls : List Zone) (e : ℕ) → Loose step R (ls ++ hs) → end_after step 0 0 ls ≤ e → e ≤ end_after step 0 0 ls + cells step (length ls) → Raises ls hs e
  unfolding raised shift first_of many_of
  raised_layout [] ls e v lo hi =
      by_lt (8 * R) e
      (λ g. rw (lt-leb (cell_at e) (length (encode step R (ls ++ []))) (omega (arith, length_loose step R (ls ++ []) v)), lt-leb e (8 * R) g))
      (λ g. rw (le-leb (cell_at e) (length (encode step R (ls ++ []))) (omega (arith, length_loose step R (ls ++ []) v)), le-leb e (8 * R) g))
  raised_layout (empty ∷ hs) ls e v lo hi =
      let p : end_after step 0 0 (ls ++ empty ∷ []) ≡ end_after step 0 0 ls = end_passed step R small ls empty hs v in
      let g : cells step (length ls) ≤ cells step (length (ls ++ empty ∷ [])) = rw (long_next ls empty hs) (cells_mono step (length ls)) in
      raised_skip step (encode step R (ls ++ empty ∷ hs)) (length ls) e (length hs) (entry_here step R small ls empty hs v).1
      ∙ above ls empty hs v e (raised_layout hs (ls ++ empty ∷ []) e (loose_next step R small ls empty hs v) (omega (arith, p)) (omega (arith, p, g)))
      ∙ sym (map_twice (λ (r : List Zone). encode step R (ls ++ r)) (λ (r : List Zone). empty ∷ r) (shift (cells step) (8 * R) (suc (length ls)) e hs))
  raised_layout (from f x xs ∷ hs) ls e v lo hi =
      let z : Zone = from f x xs in
      let a = entry_here step R small ls z hs v in
      by_lt f e
      (λ g. let p : end_after step 0 0 (ls ++ z ∷ []) ≡ f + suc (length xs) * cells step (length ls) = end_passed step R small ls z hs v in
      let to : ℕ = cell_for e (f + cells step (length ls)) (length xs) (cells step (length ls)) in
      let k : cells step (length (ls ++ z ∷ [])) ≡ cells step (suc (length ls)) = ap (cells step) (long_next ls z hs) in
      lifts ls f x xs hs e v lo hi g
      (raised_layout hs (ls ++ z ∷ []) (to + cells step (length ls)) (loose_next step R small ls z hs v)
      (omega (arith, p, to_low ls f x xs hs e v lo hi g)) (omega (arith, p, k, to_high ls f x xs hs e v lo hi g))))
      (λ g. raised_stays step (encode step R (ls ++ z ∷ hs)) (length ls) e (length hs) (λ q. omega (arith, a.1)) (omega (arith, a.0))
      ∙ ap (map (λ (r : List Zone). encode step R (ls ++ r))) (sym (shift_stays step (8 * R) (length ls) e f x xs hs g)))

-- stored bytes' zones lie one behind the other
pub stacked_stored : (step : ℕ) (h : List ℕ) → Stored step h → (c : ℕ) → c ≤ 30 → Stacked step (30 - c) h c (end_after step 0 0 (take c (decode h)))
stacked_stored step h s c g =
    let zs : List Zone = decode h in
    let e : ℕ = end_after step 0 0 (take c zs) in
    let w : take c zs ++ drop c zs ≡ zs = take-append-drop c zs in
    let l : length (take c zs) ≡ c = length-take c zs ∙ omega (arith, s.loose.classes) in
    let m : length (drop c zs) ≡ 30 - c = length-drop c zs ∙ omega (arith, s.loose.classes) in
    subst (λ (x : List ℕ). Stacked step (30 - c) x c e) (ap (encode step (pages_of h)) w ∙ sym s.bytes)
    (subst (λ (k : ℕ). Stacked step k (encode step (pages_of h) (take c zs ++ drop c zs)) c e) m
    (subst (λ (k : ℕ). Stacked step (length (drop c zs)) (encode step (pages_of h) (take c zs ++ drop c zs)) k e) l
    (stacked_layout step (pages_of h) s.pages (drop c zs) (take c zs) (subst (Loose step (pages_of h)) (sym w) s.loose))))
