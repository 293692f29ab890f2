-- For each step code: the capacities grow as they should, block sizes never fall, and the class of a number of records is the smallest that holds them.
use Rattle.std.specs.Prelude.{◌≡◌, refl, Bool, true, ◌&&◌, List, [], ◌∷◌, ◌≢◌, ℕ, zero, suc, ◌+◌, ◌*◌, ◌-◌, ◌/◌, ◌≤◌, ◌<◌, min, eqb, length, get_or}
use Rattle.std.proofs.Common.{sym, ap, ◌∙◌, arith, add-zero, add-suc, length-take, get_or-take, get_or-append-add, eqb-true}
use Rattle.std.proofs.Math.ListN.{get_or-append}
use Rattle.wire.specs.Cases.{by_lt, by_eq, both}
use Rattle.layout.specs.Classes.{usable}
use Rattle.layout.specs.Capacities.{capacities, growth, capacity, under, cells, class_of, table, short, both_capacities, place_of}
use Rattle.layout.specs.Rising.{Rising}
use Rattle.layout.specs.ClassesLaws.{usable_most, usable_known, usable_holds, usable_least, usable-rising}
use Rattle.layout.specs.Table.{follows, table_at}

-- ---- what is computed for each code

-- each capacity is the one before times p/q, "rounded up and ended at 989"
unfoldable pub grows : ℕ → ℕ → List ℕ → Bool
grows p q [] = true
grows p q (a ∷ []) = eqb a 989
grows p q (a ∷ (b ∷ bs)) = eqb b (min 989 ((a * p + (q - 1)) / q)) && grows p q (b ∷ bs)

-- the capacities grow so and are usable, and the table of 990 numbers has the classes by them
checked : ℕ → Bool
unfolding grows usable
checked step =
    grows (growth step).0 (growth step).1 (capacities step)
    && (usable (capacities step) && (eqb (length (table step)) 990 && follows (class_of step) 0 (table step)))

computed : (step : ℕ) → checked step ≡ true
unfolding checked growth capacities table class_of
computed zero = refl
computed (suc k) = refl

pub capacities_grow : (step : ℕ) → grows (growth step).0 (growth step).1 (capacities step) ≡ true
unfolding checked
capacities_grow step = (both (grows (growth step).0 (growth step).1 (capacities step)) _ (computed step)).0

rest : (step : ℕ) → (usable (capacities step) ≡ true) × (length (table step) ≡ 990) × (follows (class_of step) 0 (table step) ≡ true)
unfolding checked
rest step =
    let a = both (usable (capacities step)) _ (both (grows (growth step).0 (growth step).1 (capacities step)) _ (computed step)).1 in
    let b = both (eqb (length (table step)) 990) (follows (class_of step) 0 (table step)) a.1 in
    (a.0, eqb-true (length (table step)) 990 b.0, b.1)

pub rising : (step : ℕ) → Rising (cells step) (class_of step)
unfolding cells class_of
rising step = usable-rising (capacities step) (rest step).0

-- ---- the table holds the classes

pub table_class : (step n : ℕ) → n < 990 → get_or (table step) n 0 ≡ class_of step n
table_class step n h = table_at (class_of step) (table step) (rest step).2 n (omega (arith, (rest step).1))

pub short_class : (step n : ℕ) → n < 144 → get_or (short step) n 0 ≡ class_of step n
unfolding short
short_class step n h = get_or-take 144 (table step) n 0 h ∙ table_class step n (omega arith)

pub short-length : (step : ℕ) → length (short step) ≡ 144
unfolding short
short-length step = length-take 144 (table step) ∙ omega (arith, (rest step).1)

-- ---- sizes

pub cells_is : (step c : ℕ) → cells step c ≡ capacity step c + 1
unfolding cells
cells_is step c = omega arith

-- sizes never fall, and none is 0
pub cells_mono : (step c : ℕ) → cells step c ≤ cells step (suc c)
cells_mono step = (rising step).mono

pub cells_rise : (step c d : ℕ) → c ≤ d → cells step c ≤ cells step d
cells_rise step c zero g = let e : c ≡ 0 = omega arith in rw e (omega arith)
cells_rise step c (suc d) g = by_eq c (suc d) (λ e. rw e (omega arith)) (λ n. omega (arith, cells_rise step c d (omega arith), cells_mono step d))

pub cells_pos : (step c : ℕ) → 0 < cells step c
cells_pos step = (rising step).pos

pub capacity_most : (step c : ℕ) → capacity step c ≤ 989
unfolding capacity
capacity_most step c = usable_most (capacities step) (rest step).0 c

pub cells_most : (step c : ℕ) → cells step c ≤ 990
cells_most step = (rising step).most

-- ---- the smallest class whose capacity is at least n

pub class_least : (step n c : ℕ) → c < class_of step n → capacity step c < n
unfolding class_of capacity
class_least step n c k = usable_least (capacities step) (rest step).0 n c k

pub class_capacity : (step n : ℕ) → n ≤ 989 → n ≤ capacity step (class_of step n)
unfolding class_of capacity
class_capacity step n h = usable_holds (capacities step) (rest step).0 n h

pub class_holds : (step n : ℕ) → n ≤ 989 → n < cells step (class_of step n)
class_holds step = (rising step).holds

pub class_below : (step n : ℕ) → n ≤ 989 → class_of step n < 30
class_below step = (rising step).below

-- "With code 1 classes from 14 up are always empty": no list has one
pub class_coarse : (n : ℕ) → n ≤ 989 → class_of 1 n < 14
unfolding class_of
class_coarse n h = usable_known (capacities 1) (rest 1).0 n h

classes_begin : (step : ℕ) → class_of step (0 + 1) ≡ class_of step 0
unfolding class_of
classes_begin zero = refl
classes_begin (suc k) = refl

-- ---- a class by its bounds

pub under_none : (step c : ℕ) → c ≡ 0 → 0 ≡ under step c
unfolding under
under_none step zero e = refl
under_none step (suc c) e = absurd (omega arith)

pub under_some : (step c : ℕ) → (c ≡ 0 → ⊥) → capacity step (c - 1) ≡ under step c
unfolding under
under_some step zero e = absurd (omega arith)
under_some step (suc c) e = let q : suc c - 1 ≡ c = omega arith in rw q

capacity_mono : (step c k : ℕ) → capacity step c ≤ capacity step (c + k)
capacity_mono step c zero = rw add-zero (omega arith)
capacity_mono step c (suc k) = rw add-suc (omega (arith, capacity_mono step c k, cells_mono step (c + k), cells_is step (c + k), cells_is step (suc (c + k))))

-- records of class c are more than the class below has room for
pub class_over : (step n c : ℕ) → 0 < n → class_of step n ≡ c → under step c < n
unfolding under
class_over step n zero a e = a
class_over step n (suc c) a e = class_least step n c (omega arith)

not_lower : (step n c : ℕ) → n ≤ 989 → under step c < n → (d : ℕ) → d ≡ class_of step n → d < c → ⊥
unfolding under
not_lower step n zero h l d e k = omega arith
not_lower step n (suc c) h l d e k =
    let s : d + (c - d) ≡ c = omega arith in
    let m : capacity step d ≤ capacity step c = rw s at (capacity_mono step d (c - d)) in
    let t : n ≤ capacity step d = rw (← e) at (class_capacity step n h) in
    omega arith

-- so many records as lie between the two have class c
pub class_within : (step n c : ℕ) → under step c < n → n ≤ capacity step c → class_of step n ≡ c
class_within step n c l r =
    let h : n ≤ 989 = omega (arith, capacity_most step c) in
    by_lt c (class_of step n)
    (λ k. absurd (omega (arith, class_least step n c k)))
    (λ k. by_lt (class_of step n) c (λ q. absurd (not_lower step n c h l (class_of step n) refl q)) (λ q. omega arith))

-- one record more or fewer has the same class within these bounds, and another beyond them
pub class_stays : (step n c : ℕ) → n < 989 → c ≡ class_of step n → n < capacity step c → class_of step (n + 1) ≡ class_of step n
class_stays step n c h e g = by_eq n 0
    (λ z. rw z (classes_begin step))
    (λ z. class_within step (n + 1) (class_of step n) (omega (arith, class_over step n (class_of step n) (omega arith) refl)) (let k : n < capacity step (class_of step n) = rw e at g in omega arith))

pub class_leaves : (step n c : ℕ) → n < 989 → c ≡ class_of step n → capacity step c ≤ n → class_of step (n + 1) ≢ class_of step n
class_leaves step n c h e g q = omega (arith, rw (q, ← e) at (class_capacity step (n + 1) (omega arith)))

pub class_kept : (step n c : ℕ) → 1 < n → n ≤ 989 → c ≡ class_of step n → under step c < n - 1 → class_of step (n - 1) ≡ class_of step n
class_kept step n c l h e g = class_within step (n - 1) (class_of step n) (rw e at g) (omega (arith, class_capacity step n h))

pub class_lost : (step n c : ℕ) → 1 < n → c ≡ class_of step n → n - 1 ≤ under step c → class_of step (n - 1) ≢ class_of step n
class_lost step n c l e g q = omega (arith, class_over step (n - 1) c (omega arith) (q ∙ sym e))

-- ---- what the code finds

pub place_fine : (step c : ℕ) → step ≡ 0 → c ≡ place_of step c
unfolding place_of
place_fine zero c e = refl
place_fine (suc k) c e = absurd (omega arith)

pub place_coarse : (step c : ℕ) → (step ≡ 0 → ⊥) → 30 + c ≡ place_of step c
unfolding place_of
place_coarse zero c n = absurd (n refl)
place_coarse (suc k) c n = refl

capacity-place : (step c : ℕ) → c < 30 → get_or both_capacities (place_of step c) 989 ≡ capacity step c
unfolding both_capacities place_of capacity capacities
capacity-place zero c g = get_or-append (capacities 0) (capacities 1) 989 c g
capacity-place (suc k) c g = get_or-append-add (capacities 0) (capacities 1) c 989

pub capacity-at : (step c i k v : ℕ) → c < 30 → i ≡ place_of step c → i ≡ k → get_or both_capacities k 989 ≡ v → v < 990 → (v ≡ capacity step c) × (v < 990)
capacity-at step c i k v g p e f h = (sym f ∙ ap (λ (j : ℕ). get_or both_capacities j 989) (sym e ∙ p) ∙ capacity-place step c g, h)

pub fine_class : (step n : ℕ) → step ≡ 0 → class_of 0 n ≡ class_of step n
fine_class step n e = rw e

pub fine_short : (step : ℕ) → step ≡ 0 → short 0 ≡ short step
fine_short step e = rw e

-- codes above 0 have one table
pub coarse_class : (step n : ℕ) → (step ≡ 0 → ⊥) → class_of 1 n ≡ class_of step n
unfolding class_of
coarse_class zero n q = absurd (q refl)
coarse_class (suc k) n q = refl

pub coarse_short : (step : ℕ) → (step ≡ 0 → ⊥) → short 1 ≡ short step
unfolding short table
coarse_short zero q = absurd (q refl)
coarse_short (suc k) q = refl

coarse_989 : (k : ℕ) → capacity (suc k) 13 ≡ 989
unfolding capacity
coarse_989 k = refl

-- behind the last number of the row
pub capacity_last : (step c i : ℕ) → c < 30 → i ≡ place_of step c → 43 ≤ i → (989 ≡ capacity step c) × (989 < 990)
unfolding place_of
capacity_last zero c i g p h = absurd (omega arith)
capacity_last (suc k) c i g p h =
    let h' : 13 ≤ c = omega arith in
    (omega (arith, coarse_989 k, cells_rise (suc k) 13 c h', cells_is (suc k) 13, cells_is (suc k) c, capacity_most (suc k) c), omega arith)

-- none of the first n numbers
abbrev pub Past : ℕ → ℕ → Type 0
Past zero c = Unit
Past (suc n) c = Past n c × (c ≡ n → ⊥)

pub past : (n c : ℕ) → Past n c → n ≤ c
past zero c p = omega arith
past (suc n) c p = let a : n ≤ c = past n c p.0 in let b : c ≡ n → ⊥ = p.1 in omega arith
