-- The steps by which gaps are closed: a zone's last block moves to directly before its first.
use Rattle.std.specs.Prelude.{◌≡◌, refl, List, [], ◌∷◌, ◌++◌, ℕ, zero, suc, ◌+◌, ◌*◌, ◌-◌, ◌≤◌, ◌<◌, length, drop, take}
use Rattle.std.proofs.Common.{sym, ap, ap₂, ◌∙◌, subst, append_assoc, arith, mul-le-mul_left, take-append-drop, drop_of_length-le, le-leb}
use Rattle.std.proofs.lemmas.Bool.{lt-leb}
use Rattle.wire.specs.Cases.{by_lt}
use Rattle.wire.specs.All.{all_head}
use Rattle.layout.specs.Capacities.{cells}
use Rattle.layout.specs.CapacitiesLaws.{cells_pos}
use Rattle.layout.specs.Zones.{Block, Zone, empty, from, lowered, last_of, init_of, end_of, blocks, close}
use Rattle.layout.specs.Perm.{Perm, ptrans}
use Rattle.layout.specs.PermLaws.{psym, pright, protate, pall, prefl}
use Rattle.home.specs.Layout.{Sits, Fit, Loose}
use Rattle.home.specs.Bytes.{Spot, row, spots, encode, cell_at, first_at, many_at}
use Rattle.home.specs.AreaLaws.{Good, spots_good}
use Rattle.home.specs.EncodeLaws.{length_loose}
use Rattle.moves.specs.Moves.{Movable, zoned, moved}
use Rattle.moves.specs.SpotLaws.{spot, in_context, init_last, length_init, lower-before}
use Rattle.moves.specs.LayoutMoves.{first_of, many_of, home-lowered}
use Rattle.moves.specs.LooseLaws.{zone-at, movable, fit_lower, fit_above, loose_joined}
use Rattle.moves.specs.Stored.{end_after}
use Rattle.moves.specs.AtLaws.{at-zone, take_here, drop-next, zone_here, take_next, drop_here, end_next}
use Rattle.moves.specs.Close.{lowest, zone_of, low_bytes, low_end, Open, closed_bytes}

-- ---- lowering

lowered_stop : (step n c e f : ℕ) (x : Block) (xs : List Block) → f < e + cells step c → lowered (cells step) n c e f x xs ≡ from f x xs
unfolding lowered
lowered_stop step zero c e f x xs g = refl
lowered_stop step (suc n) c e f x xs g = rw (lt-leb (e + cells step c) f g)

lowered-step : (step n c e f : ℕ) (x : Block) (xs : List Block) → e + cells step c ≤ f → lowered (cells step) (suc n) c e f x xs ≡ lowered (cells step) n c e (f - cells step c) (last_of x xs) (init_of x xs)
unfolding lowered
lowered-step step n c e f x xs g = rw (le-leb (e + cells step c) f g)

lowered_none : (step c e f : ℕ) (x : Block) (xs : List Block) → lowered (cells step) 0 c e f x xs ≡ from f x xs
unfolding lowered
lowered_none step c e f x xs = refl

-- the bound on the moves does not matter
lowered_bound : (step n m c e f : ℕ) (x : Block) (xs : List Block) → f ≤ n → f ≤ m → lowered (cells step) n c e f x xs ≡ lowered (cells step) m c e f x xs
lowered_bound step zero m c e f x xs a b = lowered_stop step zero c e f x xs (omega (arith, cells_pos step c)) ∙ sym (lowered_stop step m c e f x xs (omega (arith, cells_pos step c)))
lowered_bound step (suc n) zero c e f x xs a b = lowered_stop step (suc n) c e f x xs (omega (arith, cells_pos step c)) ∙ sym (lowered_stop step zero c e f x xs (omega (arith, cells_pos step c)))
lowered_bound step (suc n) (suc m) c e f x xs a b =
    by_lt f (e + cells step c)
    (λ g. lowered_stop step (suc n) c e f x xs g ∙ sym (lowered_stop step (suc m) c e f x xs g))
    (λ g. lowered-step step n c e f x xs g ∙ lowered_bound step n m c e (f - cells step c) (last_of x xs) (init_of x xs) (omega (arith, cells_pos step c)) (omega (arith, cells_pos step c)) ∙ sym (lowered-step step m c e f x xs g))

lowest_stop : (step c e f : ℕ) (x : Block) (xs : List Block) → f < e + cells step c → lowest step c e (from f x xs) ≡ from f x xs
unfolding lowest
lowest_stop step c e f x xs g = lowered_stop step f c e f x xs g

lowest_step : (step c e f : ℕ) (x : Block) (xs : List Block) → e + cells step c ≤ f → lowest step c e (from (f - cells step c) (last_of x xs) (init_of x xs)) ≡ lowest step c e (from f x xs)
unfolding lowest
lowest_step step c e zero x xs g = absurd (omega (arith, cells_pos step c))
lowest_step step c e (suc f) x xs g = sym (lowered-step step f c e (suc f) x xs g ∙ lowered_bound step f (suc f - cells step c) c e (suc f - cells step c) (last_of x xs) (init_of x xs) (omega (arith, cells_pos step c)) (omega arith))

-- ---- a layout at zone c

low-at : (step R : ℕ) (ls : List Zone) (z : Zone) (hs : List Zone) (e : ℕ) → low_bytes step R (ls ++ z ∷ hs) (length ls) e ≡ encode step R (ls ++ lowest step (length ls) e z ∷ hs)
unfolding low_bytes
low-at step R ls z hs e =
    ap₂ (λ (l : List Zone) (y : Zone). encode step R (l ++ lowest step (length ls) e y ∷ drop (suc (length ls)) (ls ++ z ∷ hs))) (take_here ls z hs) (zone_here ls z hs)
    ∙ ap (λ (l : List Zone). encode step R (ls ++ lowest step (length ls) e z ∷ l)) (drop-next ls z hs)

end_at_lem : (step : ℕ) (ls : List Zone) (z : Zone) (hs : List Zone) (e : ℕ) → low_end step (ls ++ z ∷ hs) (length ls) e ≡ end_of (cells step) (length ls) e (lowest step (length ls) e z)
unfolding low_end
end_at_lem step ls z hs e = ap (λ (y : Zone). end_of (cells step) (length ls) e (lowest step (length ls) e y)) (zone_here ls z hs)

zone_read : (step R : ℕ) (h : List ℕ) (ls : List Zone) (z : Zone) (hs : List Zone) (e : ℕ) → length ls < 30 → Open step R h (ls ++ z ∷ hs) (length ls) e
    → (first_at h (length ls) ≡ first_of z) × (many_at h (length ls) ≡ many_of z)
zone_read step R h ls z hs e g o =
    let c : ℕ = length ls in
    rw o.bytes (subst (λ (y : Zone). (first_at (encode step R (ls ++ z ∷ hs)) c ≡ first_of y) × (many_at (encode step R (ls ++ z ∷ hs)) c ≡ many_of y)) (zone_here ls z hs) (zone-at step R o.pages (ls ++ z ∷ hs) o.loose c g))

-- ---- one block lower: f is zone c's first cell, n its number of blocks

pub record Turned (step R : ℕ) (h : List ℕ) (zs : List Zone) (c e f n : ℕ) : Type 0 where
  pub movable : Movable h (f - cells step c + n * cells step c)
  pub old : cell_at (f - cells step c + n * cells step c) + 8 * cells step c ≤ length h
  pub new : cell_at (f - cells step c) + 8 * cells step c ≤ length h
  pub layout : List Zone
  pub after : Open step R (zoned (moved step h c (f - cells step c + n * cells step c) (f - cells step c)) c (f - cells step c) n) layout c e
  pub first : first_of (zone_of layout c) ≡ f - cells step c
  pub many : many_of (zone_of layout c) ≡ n
  pub low : low_bytes step R layout c e ≡ low_bytes step R zs c e
  pub end : low_end step layout c e ≡ low_end step zs c e

turned-at : (step R : ℕ) (h : List ℕ) (ls : List Zone) (f : ℕ) (x : Block) (xs : List Block) (hs : List Zone) (e : ℕ) → Open step R h (ls ++ from f x xs ∷ hs) (length ls) e → length ls < 30
    → e + cells step (length ls) ≤ f → Turned step R h (ls ++ from f x xs ∷ hs) (length ls) e f (suc (length xs))
unfolding blocks first_of many_of
turned-at step R h ls f x xs hs e o g b =
    let c : ℕ = length ls in
    let k : ℕ = cells step c in
    let n : ℕ = suc (length xs) in
    let y : Block = last_of x xs in
    let ys : List Block = init_of x xs in
    let z : Zone = from f x xs in
    let z' : Zone = from (f - k) y ys in
    let p : ℕ = f + length xs * k in
    let same : f - k + n * k ≡ p = omega arith in
    let end : end_after step 0 0 ls ≡ e = ap (end_after step 0 0) (sym (take_here ls z hs)) ∙ o.end in
    let stands : Fit step (8 * R) c e (z ∷ hs) = subst (λ (q : ℕ). Fit step (8 * R) c q (z ∷ hs)) end (fit_above step (8 * R) 0 0 c ls (z ∷ hs) (omega arith) o.loose.fit) in
    let turn : Perm (y ∷ ys) (x ∷ xs) = subst (Perm (y ∷ ys)) (init_last x xs) (psym (protate y ys)) in
    let fit' : Fit step (8 * R) c e (z' ∷ hs) = (
      record { after = omega arith; sit = pall (Sits step c) (psym turn) stands.0.sit },
      fit_lower step (8 * R) (suc c) (f + n * k) (f - k + suc (length ys) * k) hs (rw (length_init x xs) (omega arith)) stands.1,
    ) in
    let v' : Loose step R (ls ++ z' ∷ hs) = loose_joined step R ls (z ∷ hs) (z' ∷ hs) o.loose (subst (λ (q : ℕ). Fit step (8 * R) c q (z' ∷ hs)) (sym end) fit') (pright (blocks hs) turn) refl in
    let ss : List Spot = row step c f ys ++ spots step (suc c) hs in
    let was : Perm (spots step 0 (ls ++ z ∷ hs)) (spot c p y ∷ (spots step 0 ls ++ ss)) = in_context step ls (z ∷ hs) (spot c p y) ss (lower-before step c f x xs hs) in
    let good : Good step (8 * R) (spot c p y) = all_head (pall (Good step (8 * R)) was (spots_good step (8 * R) 0 0 (ls ++ z ∷ hs) o.loose.fit)) in
    let inside : p + k ≤ 8 * R = good.inside in
    let long : length h ≡ 1664 + 64 * R = ap length o.bytes ∙ length_loose step R (ls ++ z ∷ hs) o.loose in
    record {
      movable = subst (λ (q : ℕ). Movable h q) (sym same) (subst (λ (l : List ℕ). Movable l p) (sym o.bytes) (movable step R o.pages (ls ++ z ∷ hs) o.loose (spot c p y) (spots step 0 ls ++ ss) was));
      old = omega (arith, mul-le-mul_left (length xs) (cells_pos step c));
      new = omega (arith, mul-le-mul_left (length xs) (cells_pos step c));
      layout = ls ++ z' ∷ hs;
      after = record {
        pages = o.pages;
        bytes = ap₂ (λ (l : List ℕ) (q : ℕ). zoned (moved step l c q (f - k)) c (f - k) n) o.bytes same ∙ sym (home-lowered step R o.pages ls f x xs hs (omega arith) o.loose v');
        loose = v';
        class = o.class;
        end = ap (end_after step 0 0) (take_here ls z' hs) ∙ end;
      };
      first = ap first_of (zone_here ls z' hs);
      many = ap many_of (zone_here ls z' hs) ∙ ap suc (length_init x xs);
      low = low-at step R ls z' hs e ∙ ap (λ (q : Zone). encode step R (ls ++ q ∷ hs)) (lowest_step step c e f x xs b) ∙ sym (low-at step R ls z hs e);
      end = end_at_lem step ls z' hs e ∙ ap (end_of (cells step) c e) (lowest_step step c e f x xs b) ∙ sym (end_at_lem step ls z hs e);
    }

turned_any : (step R : ℕ) (h : List ℕ) (ls : List Zone) (z : Zone) (hs : List Zone) (e : ℕ) → length ls < 30 → Open step R h (ls ++ z ∷ hs) (length ls) e → (many_at h (length ls) ≡ 0 → ⊥)
    → e + cells step (length ls) ≤ first_at h (length ls) → Turned step R h (ls ++ z ∷ hs) (length ls) e (first_at h (length ls)) (many_at h (length ls))
unfolding first_of many_of
turned_any step R h ls empty hs e g o m b = absurd (m (zone_read step R h ls empty hs e g o).1)
turned_any step R h ls (from f x xs) hs e g o m b =
    let c : ℕ = length ls in
    let q = zone_read step R h ls (from f x xs) hs e g o in
    subst (λ (j : ℕ). Turned step R h (ls ++ from f x xs ∷ hs) c e (first_at h c) j) (sym q.1)
    (subst (λ (j : ℕ). Turned step R h (ls ++ from f x xs ∷ hs) c e j (suc (length xs))) (sym q.0)
    (turned-at step R h ls f x xs hs e o g (subst (λ (j : ℕ). e + cells step c ≤ j) q.0 b)))

pub zone-turned : (step R : ℕ) (h : List ℕ) (zs : List Zone) (c e : ℕ) → Open step R h zs c e → c < 30 → (many_at h c ≡ 0 → ⊥) → e + cells step c ≤ first_at h c → Turned step R h zs c e (first_at h c) (many_at h c)
zone-turned step R h zs c e o g m b =
    at-zone zs c (omega (arith, o.loose.classes))
    (λ (l : List Zone) (k : ℕ). k < 30 → Open step R h l k e → (many_at h k ≡ 0 → ⊥) → e + cells step k ≤ first_at h k → Turned step R h l k e (first_at h k) (many_at h k))
    (λ ls z hs. turned_any step R h ls z hs e) g o m b

-- ---- it is as low as it goes

low_any : (step R : ℕ) (h : List ℕ) (ls : List Zone) (z : Zone) (hs : List Zone) (e : ℕ) → length ls < 30 → Open step R h (ls ++ z ∷ hs) (length ls) e → (many_at h (length ls) ≡ 0 → ⊥)
    → first_at h (length ls) < e + cells step (length ls)
    → (h ≡ low_bytes step R (ls ++ z ∷ hs) (length ls) e) × (first_at h (length ls) + many_at h (length ls) * cells step (length ls) ≡ low_end step (ls ++ z ∷ hs) (length ls) e)
unfolding first_of many_of end_of
low_any step R h ls empty hs e g o m b = absurd (m (zone_read step R h ls empty hs e g o).1)
low_any step R h ls (from f x xs) hs e g o m b =
    let c : ℕ = length ls in
    let z : Zone = from f x xs in
    let q = zone_read step R h ls z hs e g o in
    let s : lowest step c e z ≡ z = lowest_stop step c e f x xs (subst (λ (j : ℕ). j < e + cells step c) q.0 b) in (
      o.bytes ∙ sym (low-at step R ls z hs e ∙ ap (λ (y : Zone). encode step R (ls ++ y ∷ hs)) s),
      ap₂ (λ (i j : ℕ). i + j * cells step c) q.0 q.1 ∙ sym (end_at_lem step ls z hs e ∙ ap (end_of (cells step) c e) s),
    )

pub zone-low : (step R : ℕ) (h : List ℕ) (zs : List Zone) (c e : ℕ) → Open step R h zs c e → c < 30 → (many_at h c ≡ 0 → ⊥) → first_at h c < e + cells step c
    → (h ≡ low_bytes step R zs c e) × (first_at h c + many_at h c * cells step c ≡ low_end step zs c e)
zone-low step R h zs c e o g m b =
    at-zone zs c (omega (arith, o.loose.classes))
    (λ (l : List Zone) (k : ℕ). k < 30 → Open step R h l k e → (many_at h k ≡ 0 → ⊥) → first_at h k < e + cells step k → (h ≡ low_bytes step R l k e) × (first_at h k + many_at h k * cells step k ≡ low_end step l k e))
    (λ ls z hs. low_any step R h ls z hs e) g o m b

none_any : (step R : ℕ) (h : List ℕ) (ls : List Zone) (z : Zone) (hs : List Zone) (e : ℕ) → length ls < 30 → Open step R h (ls ++ z ∷ hs) (length ls) e → many_at h (length ls) ≡ 0
    → (h ≡ low_bytes step R (ls ++ z ∷ hs) (length ls) e) × (e ≡ low_end step (ls ++ z ∷ hs) (length ls) e)
unfolding many_of end_of lowest
none_any step R h ls (from f x xs) hs e g o m = absurd (omega (arith, (zone_read step R h ls (from f x xs) hs e g o).1))
none_any step R h ls empty hs e g o m = (o.bytes ∙ sym (low-at step R ls empty hs e), sym (end_at_lem step ls empty hs e))

pub zone-none : (step R : ℕ) (h : List ℕ) (zs : List Zone) (c e : ℕ) → Open step R h zs c e → c < 30 → many_at h c ≡ 0 → (h ≡ low_bytes step R zs c e) × (e ≡ low_end step zs c e)
zone-none step R h zs c e o g m =
    at-zone zs c (omega (arith, o.loose.classes))
    (λ (l : List Zone) (k : ℕ). k < 30 → Open step R h l k e → many_at h k ≡ 0 → (h ≡ low_bytes step R l k e) × (e ≡ low_end step l k e))
    (λ ls z hs. none_any step R h ls z hs e) g o m

-- ---- the next zone

-- z' in the place of z before hs
record Lower (step m c e : ℕ) (z : Zone) (hs : List Zone) (z' : Zone) : Type 0 where
  fit : Fit step m c e (z' ∷ hs)
  same : Perm (blocks (z' ∷ hs)) (blocks (z ∷ hs))

lower-one : (step m c e f : ℕ) (x : Block) (xs : List Block) (hs : List Zone) → Fit step m c e (from f x xs ∷ hs) → e + cells step c ≤ f → Lower step m c e (from f x xs) hs (from (f - cells step c) (last_of x xs) (init_of x xs))
unfolding blocks
lower-one step m c e f x xs hs h b =
    let y : Block = last_of x xs in
    let ys : List Block = init_of x xs in
    let turn : Perm (y ∷ ys) (x ∷ xs) = subst (Perm (y ∷ ys)) (init_last x xs) (psym (protate y ys)) in
    record {
      fit = (
        record { after = omega arith; sit = pall (Sits step c) (psym turn) h.0.sit },
        fit_lower step m (suc c) (f + suc (length xs) * cells step c) (f - cells step c + suc (length ys) * cells step c) hs (rw (length_init x xs) (omega arith)) h.1,
      );
      same = pright (blocks hs) turn;
    }

lower_all : (step n m c e f : ℕ) (x : Block) (xs : List Block) (hs : List Zone) → Fit step m c e (from f x xs ∷ hs) → Lower step m c e (from f x xs) hs (lowered (cells step) n c e f x xs)
lower_all step zero m c e f x xs hs h = subst (Lower step m c e (from f x xs) hs) (sym (lowered_none step c e f x xs)) (record { fit = h; same = prefl _ })
lower_all step (suc n) m c e f x xs hs h =
    by_lt f (e + cells step c)
    (λ g. subst (Lower step m c e (from f x xs) hs) (sym (lowered_stop step (suc n) c e f x xs g)) (record { fit = h; same = prefl _ }))
    (λ g. let one : Lower step m c e (from f x xs) hs (from (f - cells step c) (last_of x xs) (init_of x xs)) = lower-one step m c e f x xs hs h g in
    let rest : Lower step m c e (from (f - cells step c) (last_of x xs) (init_of x xs)) hs (lowered (cells step) n c e (f - cells step c) (last_of x xs) (init_of x xs)) =
    lower_all step n m c e (f - cells step c) (last_of x xs) (init_of x xs) hs one.fit in
    subst (Lower step m c e (from f x xs) hs) (sym (lowered-step step n c e f x xs g)) (record { fit = rest.fit; same = ptrans rest.same one.same }))

lowest_fit : (step m c e : ℕ) (z : Zone) (hs : List Zone) → Fit step m c e (z ∷ hs) → Lower step m c e z hs (lowest step c e z)
unfolding lowest
lowest_fit step m c e empty hs h = record { fit = h; same = prefl _ }
lowest_fit step m c e (from f x xs) hs h = lower_all step f m c e f x xs hs h

close-cons : (step c e : ℕ) (z : Zone) (hs : List Zone) → close (cells step) c e (z ∷ hs) ≡ lowest step c e z ∷ close (cells step) (suc c) (end_of (cells step) c e (lowest step c e z)) hs
unfolding close lowest
close-cons step c e empty hs = refl
close-cons step c e (from f x xs) hs = refl

pub record Closed (step R : ℕ) (zs : List Zone) (c e : ℕ) : Type 0 where
  pub layout : List Zone
  pub after : Open step R (low_bytes step R zs c e) layout (suc c) (low_end step zs c e)
  pub same : closed_bytes step R layout (suc c) (low_end step zs c e) ≡ closed_bytes step R zs c e

closed_any : (step R : ℕ) (h : List ℕ) (ls : List Zone) (z : Zone) (hs : List Zone) (e : ℕ) → length ls < 30 → Open step R h (ls ++ z ∷ hs) (length ls) e → Closed step R (ls ++ z ∷ hs) (length ls) e
unfolding closed_bytes
closed_any step R h ls z hs e g o =
    let c : ℕ = length ls in
    let z' : Zone = lowest step c e z in
    let end : end_after step 0 0 ls ≡ e = ap (end_after step 0 0) (sym (take_here ls z hs)) ∙ o.end in
    let k : Lower step (8 * R) c e z hs z' = lowest_fit step (8 * R) c e z hs (subst (λ (q : ℕ). Fit step (8 * R) c q (z ∷ hs)) end (fit_above step (8 * R) 0 0 c ls (z ∷ hs) (omega arith) o.loose.fit)) in
    let v' : Loose step R (ls ++ z' ∷ hs) = loose_joined step R ls (z ∷ hs) (z' ∷ hs) o.loose (subst (λ (q : ℕ). Fit step (8 * R) c q (z' ∷ hs)) (sym end) k.fit) k.same refl in
    let le : low_end step (ls ++ z ∷ hs) c e ≡ end_of (cells step) c e z' = end_at_lem step ls z hs e in
    record {
      layout = ls ++ z' ∷ hs;
      after = record {
        pages = o.pages;
        bytes = low-at step R ls z hs e;
        loose = v';
        class = g;
        end = ap (end_after step 0 0) (take_next ls z' hs) ∙ end_next step 0 0 c ls z' (omega arith) ∙ ap (λ (q : ℕ). end_of (cells step) c q z') end ∙ sym le;
      };
      same = ap₂ (λ (l r : List Zone). encode step R (l ++ close (cells step) (suc c) (low_end step (ls ++ z ∷ hs) c e) r)) (take_next ls z' hs) (drop-next ls z' hs)
          ∙ ap (encode step R) (append_assoc ls (z' ∷ []) (close (cells step) (suc c) (low_end step (ls ++ z ∷ hs) c e) hs)
          ∙ ap (λ (q : ℕ). ls ++ z' ∷ close (cells step) (suc c) q hs) le
          ∙ ap (λ (l : List Zone). ls ++ l) (sym (close-cons step c e z hs)))
          ∙ sym (ap₂ (λ (l r : List Zone). encode step R (l ++ close (cells step) c e r)) (take_here ls z hs) (drop_here ls z hs));
    }

pub zone-closed : (step R : ℕ) (h : List ℕ) (zs : List Zone) (c e : ℕ) → Open step R h zs c e → c < 30 → Closed step R zs c e
zone-closed step R h zs c e o g =
    at-zone zs c (omega (arith, o.loose.classes)) (λ (l : List Zone) (k : ℕ). k < 30 → Open step R h l k e → Closed step R l k e) (λ ls z hs. closed_any step R h ls z hs e) g o

pub all_closed : (step R : ℕ) (h : List ℕ) (zs : List Zone) (c e : ℕ) → Open step R h zs c e → 30 ≤ c → h ≡ closed_bytes step R zs c e
unfolding closed_bytes close
all_closed step R h zs c e o g =
    let d : drop c zs ≡ [] = drop_of_length-le zs {i = c} (omega (arith, o.loose.classes)) in
    let w : take c zs ++ [] ≡ zs = ap (λ (l : List Zone). take c zs ++ l) (sym d) ∙ take-append-drop c zs in
    o.bytes ∙ sym (ap (λ (l : List Zone). encode step R (take c zs ++ close (cells step) c e l)) d ∙ ap (encode step R) w)
