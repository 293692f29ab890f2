-- Layouts in which zones are brought, one after the other, to lie without gaps.
use Rattle.std.specs.Prelude.{◌≡◌, refl, List, [], ◌∷◌, ◌++◌, ℕ, suc, ◌+◌, ◌*◌, ◌≤◌, ◌<◌, length, take, drop, get_or}
use Rattle.std.proofs.Common.{sym, ap, ap₂, ◌∙◌, subst, append_assoc, arith, take-append-drop, length-append, length-take, le-leb}
use Rattle.std.proofs.Math.Option.{none, some}
use Rattle.std.proofs.lemmas.Bool.{lt-leb}
use Rattle.layout.specs.Capacities.{cells, class_of}
use Rattle.layout.specs.CapacitiesLaws.{cells_pos}
use Rattle.layout.specs.Zones.{Block, Zone, empty, from, blocks, added, end_of, based, joined, total, afresh, lay_afresh}
use Rattle.layout.specs.Perm.{Pairs}
use Rattle.layout.specs.Valid.{Other}
use Rattle.home.specs.Layout.{Fit, Loose}
use Rattle.home.specs.AreaLaws.{laid_fit}
use Rattle.layout.proofs.AfreshLaws.{afresh-length, afresh-blocks, joined-total, fit_seated, afresh-laid}
use Rattle.moves.specs.LayoutMoves.{first_of, many_of}
use Rattle.moves.specs.LooseLaws.{fit_lower, fit_above, fit_joined, blocks-append}
use Rattle.moves.specs.Stored.{end_after}
use Rattle.moves.specs.AtLaws.{at-zone, take_here, drop_here, take_next, drop-next, zone_here, end_next}
use Rattle.moves.specs.Slide.{rebased}
use Rattle.moves.specs.SlideLaws.{rebased-at}
use Rattle.zones.specs.PlaceLaws.{end_added}
use Rattle.zones.specs.Afresh.{lower_laid, higher_laid}

-- ---- layouts without gaps

based_end : (step c e : ℕ) (z : Zone) → end_of (cells step) c e (based e z) ≡ e + many_of z * cells step c
unfolding based end_of many_of
based_end step c e empty = omega arith
based_end step c e (from f x xs) = refl

total-cons : (step c : ℕ) (z : Zone) (zs : List Zone) → total (cells step) c (z ∷ zs) ≡ many_of z * cells step c + total (cells step) (suc c) zs
unfolding total many_of
total-cons step c empty zs = omega arith
total-cons step c (from f x xs) zs = refl

total-append : (step c k : ℕ) (ls hs : List Zone) → k ≡ c + length ls → total (cells step) c (ls ++ hs) ≡ total (cells step) c ls + total (cells step) k hs
unfolding total
total-append step c k [] hs q = let p : c ≡ k = omega arith in omega (arith, ap (λ (d : ℕ). total (cells step) d hs) p)
total-append step c k (z ∷ ls) hs q = omega (arith, total-cons step c z (ls ++ hs), total-cons step c z ls, total-append step (suc c) k ls hs (omega arith))

afresh-append : (step c e k : ℕ) (ls hs : List Zone) → k ≡ c + length ls → afresh (cells step) c e (ls ++ hs) ≡ afresh (cells step) c e ls ++ afresh (cells step) k (e + total (cells step) c ls) hs
unfolding afresh total
afresh-append step c e k [] hs q = let p : c ≡ k = omega arith in ap₂ (λ (d x : ℕ). afresh (cells step) d x hs) p (omega arith)
afresh-append step c e k (z ∷ ls) hs q =
    ap (λ (l : List Zone). based e z ∷ l)
    (afresh-append step (suc c) (end_of (cells step) c e (based e z)) k ls hs (omega arith)
    ∙ ap (λ (x : ℕ). afresh (cells step) (suc c) (end_of (cells step) c e (based e z)) ls ++ afresh (cells step) k x hs) (omega (arith, based_end step c e z, total-cons step c z ls)))

pub afresh_end : (step c e : ℕ) (zs : List Zone) → end_after step c e (afresh (cells step) c e zs) ≡ e + total (cells step) c zs
unfolding afresh end_after total
afresh_end step c e [] = omega arith
afresh_end step c e (z ∷ zs) = afresh_end step (suc c) (end_of (cells step) c e (based e z)) zs ∙ omega (arith, based_end step c e z, total-cons step c z zs)

-- zones fit from any cell on from which the sizes of their blocks do
afresh_fit : (step n c e e' : ℕ) (zs : List Zone) → Fit step n c e' zs → e + total (cells step) c zs ≤ n → Fit step n c e (afresh (cells step) c e zs)
afresh_fit step n c e e' zs h r = laid_fit step n c e (afresh (cells step) c e zs) (afresh-laid (cells step) (class_of step) (cells_pos step) n c e zs (fit_seated (cells step) (class_of step) n c e' zs h) r)

-- and before others from any lower cell on
lower_fit : (step n c e e' : ℕ) (ls hs : List Zone) → e ≤ e' → Fit step n c e' (ls ++ hs) → Fit step n c e (afresh (cells step) c e ls ++ hs)
unfolding afresh
lower_fit step n c e e' [] hs g h = fit_lower step n c e' e hs g h
lower_fit step n c e e' (empty ∷ ls) hs g h = lower_fit step n (suc c) e e' ls hs g h
lower_fit step n c e e' (from f x xs ∷ ls) hs g h =
    (record { after = omega arith; sit = h.0.sit }, lower_fit step n (suc c) (e + suc (length xs) * cells step c) (f + suc (length xs) * cells step c) ls hs (omega (arith, h.0.after)) h.1)

-- the same blocks in as many zones, which fit as well
loose_same : (step R : ℕ) (zs zs' : List Zone) → Loose step R zs → Fit step (8 * R) 0 0 zs' → blocks zs' ≡ blocks zs → length zs' ≡ length zs → Loose step R zs'
loose_same step R zs zs' v f b l = record { classes = l ∙ v.classes; fit = f; distinct = subst (Pairs Other) (sym b) v.distinct; few = rw b v.few }

lower_loose : (step R : ℕ) (ls hs : List Zone) → Loose step R (ls ++ hs) → Loose step R (afresh (cells step) 0 0 ls ++ hs)
lower_loose step R ls hs v = loose_same step R (ls ++ hs) (afresh (cells step) 0 0 ls ++ hs) v (lower_fit step (8 * R) 0 0 0 ls hs (omega arith) v.fit)
    (blocks-append (afresh (cells step) 0 0 ls) hs ∙ ap (λ (l : List Block). l ++ blocks hs) (afresh-blocks (cells step) 0 0 ls) ∙ sym (blocks-append ls hs))
    (length-append (afresh (cells step) 0 0 ls) hs ∙ ap (λ (n : ℕ). n + length hs) (afresh-length (cells step) 0 0 ls) ∙ sym (length-append ls hs))

pub higher_loose : (step R c e : ℕ) (ls hs : List Zone) → c ≡ length ls → Loose step R (ls ++ hs) → end_after step 0 0 ls ≤ e → e + total (cells step) c hs ≤ 8 * R → Loose step R (ls ++ afresh (cells step) c e hs)
higher_loose step R c e ls hs q v lo r = loose_same step R (ls ++ hs) (ls ++ afresh (cells step) c e hs) v
    (fit_joined step (8 * R) 0 0 c ls hs (afresh (cells step) c e hs) (omega arith) v.fit
    (fit_lower step (8 * R) c e (end_after step 0 0 ls) (afresh (cells step) c e hs) lo (afresh_fit step (8 * R) c e (end_after step 0 0 ls) hs (fit_above step (8 * R) 0 0 c ls hs (omega arith) v.fit) r)))
    (blocks-append ls (afresh (cells step) c e hs) ∙ ap (λ (l : List Block). blocks ls ++ l) (afresh-blocks (cells step) c e hs) ∙ sym (blocks-append ls hs))
    (length-append ls (afresh (cells step) c e hs) ∙ ap (λ (n : ℕ). length ls + n) (afresh-length (cells step) c e hs) ∙ sym (length-append ls hs))

-- ---- one zone brought to its cell

-- the lowest zone that is not there yet, where those below it are
pub lower-next : (step : ℕ) (zs : List Zone) (c : ℕ) → c < length zs → rebased (lower_laid step zs c) c (total (cells step) 0 (take c zs)) ≡ lower_laid step zs (suc c)
unfolding afresh
lower-next step zs c g =
    at-zone zs c g (λ (l : List Zone) (k : ℕ). rebased (lower_laid step l k) k (total (cells step) 0 (take k l)) ≡ lower_laid step l (suc k))
    (λ ls z hs. let k : ℕ = length ls in
    let e : ℕ = total (cells step) 0 ls in
    ap₂ (λ (l r : List Zone). rebased (afresh (cells step) 0 0 l ++ r) k (total (cells step) 0 l)) (take_here ls z hs) (drop_here ls z hs)
    ∙ rebased-at (afresh (cells step) 0 0 ls) z hs k e (afresh-length (cells step) 0 0 ls)
    ∙ sym (ap₂ (λ (l r : List Zone). afresh (cells step) 0 0 l ++ r) (take_next ls z hs) (drop-next ls z hs)
    ∙ ap (λ (l : List Zone). l ++ hs) (afresh-append step 0 0 k ls (z ∷ []) (omega arith))
    ∙ append_assoc (afresh (cells step) 0 0 ls) (afresh (cells step) k (0 + e) (z ∷ [])) hs
    ∙ ap (λ (x : ℕ). afresh (cells step) 0 0 ls ++ based x z ∷ hs) (omega arith)))

pub lower-zone : (step : ℕ) (zs : List Zone) (c : ℕ) → c < length zs → get_or (lower_laid step zs c) c empty ≡ get_or zs c empty
lower-zone step zs c g =
    at-zone zs c g (λ (l : List Zone) (k : ℕ). get_or (lower_laid step l k) k empty ≡ get_or l k empty)
    (λ ls z hs. ap₂ (λ (l r : List Zone). get_or (afresh (cells step) 0 0 l ++ r) (length ls) empty) (take_here ls z hs) (drop_here ls z hs)
    ∙ subst (λ (k : ℕ). get_or (afresh (cells step) 0 0 ls ++ z ∷ hs) k empty ≡ z) (afresh-length (cells step) 0 0 ls) (zone_here (afresh (cells step) 0 0 ls) z hs) ∙ sym (zone_here ls z hs))

-- zone c, the lowest of those that come to lie from e on, which starts at e or above. The next one comes to lie from e' on.
pub record Down (step R : ℕ) (zs : List Zone) (c e e' : ℕ) : Type 0 where
  pub loose : Loose step R (rebased zs c e)
  pub low : end_after step 0 0 (take (suc c) (rebased zs c e)) ≤ e'
  pub rest : drop (suc c) (rebased zs c e) ≡ drop (suc c) zs
  pub same : higher_laid step (rebased zs c e) (suc c) e' ≡ higher_laid step zs c e

-- it starts at e or below
pub record Up (step : ℕ) (zs : List Zone) (c e e' : ℕ) : Type 0 where
  pub low : end_after step 0 0 (take (suc c) zs) ≤ e'
  pub same : rebased (higher_laid step zs (suc c) e') c e ≡ higher_laid step zs c e

based_fit : (step n c l e : ℕ) (z : Zone) (hs : List Zone) → Fit step n c l (z ∷ hs) → l ≤ e → (0 < many_of z → e ≤ first_of z) → Fit step n c l (based e z ∷ hs)
unfolding based many_of first_of
based_fit step n c l e empty hs h lo hi = h
based_fit step n c l e (from f x xs) hs h lo hi =
    (record { after = lo; sit = h.0.sit }, fit_lower step n (suc c) (f + suc (length xs) * cells step c) (e + suc (length xs) * cells step c) hs (omega (arith, hi (omega arith))) h.1)

based-blocks : (e : ℕ) (z : Zone) (hs : List Zone) → blocks (based e z ∷ hs) ≡ blocks (z ∷ hs)
unfolding based blocks
based-blocks e empty hs = refl
based-blocks e (from f x xs) hs = refl

based-low : (step c l e : ℕ) (z : Zone) → l ≤ e → end_of (cells step) c l (based e z) ≤ e + many_of z * cells step c
unfolding based end_of many_of
based-low step c l e empty g = omega arith
based-low step c l e (from f x xs) g = omega arith

end_low : (step c l e : ℕ) (z : Zone) → l ≤ e → first_of z ≤ e → end_of (cells step) c l z ≤ e + many_of z * cells step c
unfolding end_of many_of first_of
end_low step c l e empty g h = omega arith
end_low step c l e (from f x xs) g h = omega arith

pub zone-down : (step R : ℕ) (zs : List Zone) (c e : ℕ) → Loose step R zs → c < length zs → end_after step 0 0 (take c zs) ≤ e → e ≤ first_of (get_or zs c empty) → Down step R zs c e (e + many_of (get_or zs c empty) * cells step c)
unfolding afresh
zone-down step R zs c e v g lo hi =
    at-zone zs c g (λ (l : List Zone) (k : ℕ). Loose step R l → end_after step 0 0 (take k l) ≤ e → e ≤ first_of (get_or l k empty) → Down step R l k e (e + many_of (get_or l k empty) * cells step k))
    (λ ls z hs v' lo' hi'. let k : ℕ = length ls in
    let z' : Zone = based e z in
    let m : ℕ = e + many_of z * cells step k in
    let l : end_after step 0 0 ls ≤ e = subst (λ (x : List Zone). end_after step 0 0 x ≤ e) (take_here ls z hs) lo' in
    let at : rebased (ls ++ z ∷ hs) k e ≡ ls ++ z' ∷ hs = rebased-at ls z hs k e refl in
    subst (λ (y : Zone). Down step R (ls ++ z ∷ hs) k e (e + many_of y * cells step k)) (sym (zone_here ls z hs))
    (record {
      loose = subst (Loose step R) (sym at)
          (loose_same step R (ls ++ z ∷ hs) (ls ++ z' ∷ hs) v'
          (fit_joined step (8 * R) 0 0 k ls (z ∷ hs) (z' ∷ hs) (omega arith) v'.fit
          (based_fit step (8 * R) k (end_after step 0 0 ls) e z hs (fit_above step (8 * R) 0 0 k ls (z ∷ hs) (omega arith) v'.fit) l (λ p. subst (λ (y : Zone). e ≤ first_of y) (zone_here ls z hs) hi')))
          (blocks-append ls (z' ∷ hs) ∙ ap (λ (x : List Block). blocks ls ++ x) (based-blocks e z hs) ∙ sym (blocks-append ls (z ∷ hs)))
          (length-append ls (z' ∷ hs) ∙ sym (length-append ls (z ∷ hs))));
      low = subst (λ (n : ℕ). n ≤ m) (sym (ap (λ (x : List Zone). end_after step 0 0 (take (suc k) x)) at ∙ ap (end_after step 0 0) (take_next ls z' hs) ∙ end_next step 0 0 k ls z' (omega arith))) (based-low step k (end_after step 0 0 ls) e z l);
      rest = ap (drop (suc k)) at ∙ drop-next ls z' hs ∙ sym (drop-next ls z hs);
      same = ap (λ (x : List Zone). higher_laid step x (suc k) m) at
          ∙ ap₂ (λ (x y : List Zone). x ++ afresh (cells step) (suc k) m y) (take_next ls z' hs) (drop-next ls z' hs)
          ∙ append_assoc ls (z' ∷ []) (afresh (cells step) (suc k) m hs)
          ∙ ap (λ (x : ℕ). ls ++ z' ∷ afresh (cells step) (suc k) x hs) (sym (based_end step k e z))
          ∙ sym (ap₂ (λ (x y : List Zone). x ++ afresh (cells step) k e y) (take_here ls z hs) (drop_here ls z hs));
    })) v lo hi

pub zone-up : (step : ℕ) (zs : List Zone) (c e : ℕ) → c < length zs → end_after step 0 0 (take c zs) ≤ e → first_of (get_or zs c empty) ≤ e → Up step zs c e (e + many_of (get_or zs c empty) * cells step c)
unfolding afresh
zone-up step zs c e g lo hi =
    at-zone zs c g (λ (l : List Zone) (k : ℕ). end_after step 0 0 (take k l) ≤ e → first_of (get_or l k empty) ≤ e → Up step l k e (e + many_of (get_or l k empty) * cells step k))
    (λ ls z hs lo' hi'. let k : ℕ = length ls in
    let m : ℕ = e + many_of z * cells step k in
    let hs' : List Zone = afresh (cells step) (suc k) m hs in
    let at : higher_laid step (ls ++ z ∷ hs) (suc k) m ≡ ls ++ z ∷ hs' = ap₂ (λ (x y : List Zone). x ++ afresh (cells step) (suc k) m y) (take_next ls z hs) (drop-next ls z hs) ∙ append_assoc ls (z ∷ []) hs' in
    subst (λ (y : Zone). Up step (ls ++ z ∷ hs) k e (e + many_of y * cells step k)) (sym (zone_here ls z hs))
    (record {
      low = subst (λ (n : ℕ). n ≤ m) (sym (ap (end_after step 0 0) (take_next ls z hs) ∙ end_next step 0 0 k ls z (omega arith)))
          (end_low step k (end_after step 0 0 ls) e z (subst (λ (x : List Zone). end_after step 0 0 x ≤ e) (take_here ls z hs) lo') (subst (λ (y : Zone). first_of y ≤ e) (zone_here ls z hs) hi'));
      same = ap (λ (x : List Zone). rebased x k e) at ∙ rebased-at ls z hs' k e refl
          ∙ ap (λ (x : ℕ). ls ++ based e z ∷ afresh (cells step) (suc k) x hs) (sym (based_end step k e z))
          ∙ sym (ap₂ (λ (x y : List Zone). x ++ afresh (cells step) k e y) (take_here ls z hs) (drop_here ls z hs));
    })) lo hi

pub lower_all : (step R : ℕ) (zs : List Zone) (c : ℕ) → Loose step R zs → Loose step R (lower_laid step zs c)
lower_all step R zs c v = lower_loose step R (take c zs) (drop c zs) (subst (Loose step R) (sym (take-append-drop c zs)) v)

-- ---- sizes by class

pub total-next : (step : ℕ) (zs : List Zone) (c : ℕ) → c < length zs → total (cells step) 0 (take (suc c) zs) ≡ total (cells step) 0 (take c zs) + many_of (get_or zs c empty) * cells step c
unfolding total
total-next step zs c g =
    at-zone zs c g (λ (l : List Zone) (k : ℕ). total (cells step) 0 (take (suc k) l) ≡ total (cells step) 0 (take k l) + many_of (get_or l k empty) * cells step k)
    (λ ls z hs. ap (total (cells step) 0) (take_next ls z hs) ∙ total-append step 0 (length ls) ls (z ∷ []) (omega arith) ∙ omega (arith, total-cons step (length ls) z [])
    ∙ sym (ap₂ (λ (l : List Zone) (y : Zone). total (cells step) 0 l + many_of y * cells step (length ls)) (take_here ls z hs) (zone_here ls z hs)))

pub total_split : (step : ℕ) (zs : List Zone) (c : ℕ) → c ≤ length zs → total (cells step) 0 zs ≡ total (cells step) 0 (take c zs) + total (cells step) c (drop c zs)
total_split step zs c g = ap (total (cells step) 0) (sym (take-append-drop c zs)) ∙ total-append step 0 c (take c zs) (drop c zs) (omega (arith, length-take c zs))

pub total-drop : (step : ℕ) (zs : List Zone) (c : ℕ) → c < length zs → total (cells step) c (drop c zs) ≡ many_of (get_or zs c empty) * cells step c + total (cells step) (suc c) (drop (suc c) zs)
total-drop step zs c g = omega (arith, total_split step zs c (omega arith), total_split step zs (suc c) g, total-next step zs c g)

-- ---- a block behind its zone

joined_at : (b : Block) (ls : List Zone) (z : Zone) (hs : List Zone) → joined (length ls) b (ls ++ z ∷ hs) ≡ ls ++ added 0 b z ∷ hs
unfolding joined
joined_at b [] z hs = refl
joined_at b (y ∷ ls) z hs = ap (λ (l : List Zone). y ∷ l) (joined_at b ls z hs)

based-added : (e : ℕ) (b : Block) (z : Zone) → based e (added 0 b z) ≡ added e b (based e z)
unfolding based added
based-added e b empty = refl
based-added e b (from f x xs) = refl

-- with the cells of a block left free behind zone c, and with the block there
pub record Way (step : ℕ) (zs : List Zone) (b : Block) (c : ℕ) : Type 0 where
  pub lower : List Zone
  pub here : Zone
  pub higher : List Zone
  pub class : length lower ≡ c
  pub cell : end_of (cells step) c (end_after step 0 0 lower) here ≡ total (cells step) 0 (take (suc c) zs)
  pub free : afresh (cells step) 0 0 (take (suc c) zs) ++ afresh (cells step) (suc c) (total (cells step) 0 (take (suc c) zs) + cells step c) (drop (suc c) zs) ≡ lower ++ here ∷ higher
  pub full : afresh (cells step) 0 0 (joined c b zs) ≡ lower ++ added (end_after step 0 0 lower) b here ∷ higher

pub zone_way : (step : ℕ) (zs : List Zone) (b : Block) (c : ℕ) → c < length zs → Way step zs b c
unfolding afresh
zone_way step zs b c g =
    at-zone zs c g (λ (l : List Zone) (k : ℕ). Way step l b k)
    (λ ls z hs. let k : ℕ = length ls in
    let e : ℕ = total (cells step) 0 ls in
    let fs : List Zone = afresh (cells step) 0 0 ls in
    let p : ℕ = e + many_of z * cells step k in
    let hs' : List Zone = afresh (cells step) (suc k) (p + cells step k) hs in
    let le : end_after step 0 0 fs ≡ e = afresh_end step 0 0 ls ∙ omega arith in
    let lp : total (cells step) 0 (take (suc k) (ls ++ z ∷ hs)) ≡ p =
    total-next step (ls ++ z ∷ hs) k (omega (arith, length-append ls (z ∷ hs))) ∙ ap₂ (λ (l : List Zone) (y : Zone). total (cells step) 0 l + many_of y * cells step k) (take_here ls z hs) (zone_here ls z hs) in
    record {
      lower = fs;
      here = based e z;
      higher = hs';
      class = afresh-length (cells step) 0 0 ls;
      cell = ap (λ (x : ℕ). end_of (cells step) k x (based e z)) le ∙ based_end step k e z ∙ sym lp;
      free = ap (λ (x : ℕ). afresh (cells step) 0 0 (take (suc k) (ls ++ z ∷ hs)) ++ afresh (cells step) (suc k) (x + cells step k) (drop (suc k) (ls ++ z ∷ hs))) lp
          ∙ ap₂ (λ (l r : List Zone). afresh (cells step) 0 0 l ++ afresh (cells step) (suc k) (p + cells step k) r) (take_next ls z hs) (drop-next ls z hs)
          ∙ ap (λ (l : List Zone). l ++ hs') (afresh-append step 0 0 k ls (z ∷ []) (omega arith))
          ∙ append_assoc fs (afresh (cells step) k (0 + e) (z ∷ [])) hs' ∙ ap (λ (x : ℕ). fs ++ based x z ∷ hs') (omega arith);
      full = ap (afresh (cells step) 0 0) (joined_at b ls z hs) ∙ afresh-append step 0 0 k ls (added 0 b z ∷ hs) (omega arith)
          ∙ ap (λ (x : ℕ). fs ++ afresh (cells step) k x (added 0 b z ∷ hs)) (omega arith)
          ∙ ap₂ (λ (y : Zone) (x : ℕ). fs ++ y ∷ afresh (cells step) (suc k) x hs) (based-added e b z)
          (ap (end_of (cells step) k e) (based-added e b z) ∙ end_added step k e b (based e z) ∙ ap (λ (x : ℕ). x + cells step k) (based_end step k e z))
          ∙ ap (λ (x : ℕ). fs ++ added x b (based e z) ∷ hs') (sym le);
    })

pub lay_some : (step area n : ℕ) (b : Block) (zs : List Zone) → n < length zs → total (cells step) 0 zs + cells step n ≤ area → lay_afresh (cells step) area n b zs ≡ some (afresh (cells step) 0 0 (joined n b zs))
unfolding lay_afresh
lay_some step area n b zs g t = rw (le-leb (total (cells step) 0 (joined n b zs)) area (omega (arith, joined-total (cells step) 0 n n b zs g (omega arith))))

pub lay_none : (step area n : ℕ) (b : Block) (zs : List Zone) → n < length zs → area < total (cells step) 0 zs + cells step n → lay_afresh (cells step) area n b zs ≡ none
unfolding lay_afresh
lay_none step area n b zs g t = rw (lt-leb (total (cells step) 0 (joined n b zs)) area (omega (arith, joined-total (cells step) 0 n n b zs g (omega arith))))
