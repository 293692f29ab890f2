-- The dictionary: it does not depend on the order of blocks, is strictly rising, and is the only such list that leads to all blocks.
use Rattle.std.specs.Prelude.{◌≡◌, refl, ◌≢◌, List, [], ◌∷◌, ◌++◌, map, ℕ, suc, ◌+◌, ◌≤◌, ◌<◌, ltb, length}
use Rattle.std.proofs.Common.{sym, ap, ap₂, ◌∙◌, subst, arith, ltb-true, ltb-false, lt-ltb, le-ltb}
use Rattle.std.proofs.lemmas.List.{map-append, length-map}
use Rattle.wire.specs.Cases.{by_lt}
use Rattle.wire.specs.All.{All, none, more, all_map}
use Rattle.layout.specs.Capacities.{cells}
use Rattle.layout.specs.Zones.{Block, Zone, empty, from, zone, blocks}
use Rattle.layout.specs.Perm.{Perm, pnil, pskip, pswap, ptrans, In, Pairs, single, after}
use Rattle.layout.specs.Valid.{Other}
use Rattle.home.specs.Bytes.{Spot, row, spots, Entry, entry_of, enter, sorted, dictionary}
use Rattle.layout.specs.Cases.{by_pick}
use Rattle.layout.specs.PermLaws.{prefl, psym, plength, pall, all_zip, ppairs, pin, pulled, keep_in, pairs_mapped, pairs_unmapped}

-- entries of different tags, and of rising tags
abbrev pub Else : Entry → Entry → Type 0
Else x y = x.tag ≢ y.tag

abbrev pub Below : Entry → Entry → Type 0
Below x y = x.tag < y.tag

-- ---- entering

pub enter_here : (x y : Entry) (ys : List Entry) → x.tag < y.tag → enter x (y ∷ ys) ≡ x ∷ y ∷ ys
unfolding enter
enter_here x y ys h = rw (lt-ltb x.tag y.tag h)

pub enter_on : (x y : Entry) (ys : List Entry) → y.tag ≤ x.tag → enter x (y ∷ ys) ≡ y ∷ enter x ys
unfolding enter
enter_on x y ys h = rw (le-ltb x.tag y.tag h)

enter-lower : (x y : Entry) (zs : List Entry) → x.tag < y.tag → enter x (enter y zs) ≡ enter y (enter x zs)
unfolding enter
enter-lower x y [] h = enter_here x y [] h ∙ sym (enter_on y x [] (omega arith))
enter-lower x y (z ∷ zs) h = by_lt x.tag z.tag
    (λ a. by_lt y.tag z.tag
    (λ b. ap (enter x) (enter_here y z zs b) ∙ enter_here x y (z ∷ zs) h
    ∙ sym (ap (enter y) (enter_here x z zs a) ∙ enter_on y x (z ∷ zs) (omega arith) ∙ ap (λ (l : List Entry). x ∷ l) (enter_here y z zs b)))
    (λ b. ap (enter x) (enter_on y z zs b) ∙ enter_here x z (enter y zs) a
    ∙ sym (ap (enter y) (enter_here x z zs a) ∙ enter_on y x (z ∷ zs) (omega arith) ∙ ap (λ (l : List Entry). x ∷ l) (enter_on y z zs b))))
    (λ a. ap (enter x) (enter_on y z zs (omega arith)) ∙ enter_on x z (enter y zs) a ∙ ap (λ (l : List Entry). z ∷ l) (enter-lower x y zs h)
    ∙ sym (enter_on y z (enter x zs) (omega arith)) ∙ ap (enter y) (sym (enter_on x z zs a)))

enter_comm : (x y : Entry) (zs : List Entry) → Else x y → enter x (enter y zs) ≡ enter y (enter x zs)
enter_comm x y zs h = by_lt x.tag y.tag (λ a. enter-lower x y zs a) (λ a. sym (enter-lower y x zs (omega arith)))

pub else_sym : (x y : Entry) → Else x y → Else y x
else_sym x y h e = h (sym e)

pub sorted_perm : {xs ys : List Entry} → Perm xs ys → Pairs Else xs → sorted xs ≡ sorted ys
unfolding sorted
sorted_perm pnil h = refl
sorted_perm (pskip x p) (after a h) = ap (enter x) (sorted_perm p h)
sorted_perm (pswap x y xs) (after (more o a) h) = enter_comm x y (sorted xs) o
sorted_perm (ptrans p q) h = sorted_perm p h ∙ sorted_perm q (ppairs Else else_sym p h)

enter_perm : (x : Entry) (ys : List Entry) → Perm (enter x ys) (x ∷ ys)
unfolding enter
enter_perm x [] = prefl (x ∷ [])
enter_perm x (y ∷ ys) = by_pick (λ (l : List Entry). Perm l (x ∷ y ∷ ys)) (ltb x.tag y.tag) (λ t. prefl (x ∷ y ∷ ys)) (λ t. ptrans (pskip y (enter_perm x ys)) (pswap y x ys))

pub perm_sorted : (xs : List Entry) → Perm (sorted xs) xs
unfolding sorted
perm_sorted [] = pnil
perm_sorted (x ∷ xs) = ptrans (enter_perm x (sorted xs)) (pskip x (perm_sorted xs))

-- ---- strictly rising

enter-rising : (x : Entry) (ys : List Entry) → All (Else x) ys → Pairs Below ys → Pairs Below (enter x ys)
unfolding enter
enter-rising x [] o h = after none single
enter-rising x (y ∷ ys) (more o os) (after a h) = by_pick (Pairs Below) (ltb x.tag y.tag)
    (λ t. let b : x.tag < y.tag = ltb-true x.tag y.tag t in after (more b (all_map {P = Below y} {Q = Below x} (λ z k. omega arith) a)) (after a h))
    (λ t. let b : y.tag ≤ x.tag = ltb-false x.tag y.tag t in
    let b' : y.tag < x.tag = omega arith in
    after (pall (Below y) (psym (enter_perm x ys)) (more b' a)) (enter-rising x ys os h))

pub sorted-rising : (xs : List Entry) → Pairs Else xs → Pairs Below (sorted xs)
unfolding sorted
sorted-rising [] h = single
sorted-rising (x ∷ xs) (after a h) = enter-rising x (sorted xs) (pall (Else x) (psym (perm_sorted xs)) a) (sorted-rising xs h)

pub enter-first : (x : Entry) (ys : List Entry) → All (Below x) ys → enter x ys ≡ x ∷ ys
unfolding enter
enter-first x [] h = refl
enter-first x (y ∷ ys) (more b h) = enter_here x y ys b

sorted-of-rising : (xs : List Entry) → Pairs Below xs → sorted xs ≡ xs
unfolding sorted
sorted-of-rising [] h = refl
sorted-of-rising (x ∷ xs) (after a h) = ap (enter x) (sorted-of-rising xs h) ∙ enter-first x xs a

pub rising_else : (xs : List Entry) → Pairs Below xs → Pairs Else xs
rising_else [] h = single
rising_else (x ∷ xs) (after a h) = after (all_map {P = Below x} {Q = Else x} (λ y b. omega arith) a) (rising_else xs h)

-- ---- a rising list of as many entries as blocks, each one a block's, is the dictionary

pigeon : (ds es : List Entry) → Pairs Else ds → All (λ (d : Entry). In d es) ds → length ds ≡ length es → Perm ds es
pigeon [] [] o h l = pnil
pigeon [] (e ∷ es) o h l = absurd (omega arith)
pigeon (d ∷ ds) es (after a o) (more i h) l =
    let r = pulled d es i in
    let p : Perm es (d ∷ r.0) = r.1 in
    ptrans (pskip d (pigeon ds r.0 o
    (all_zip (Else d) (λ (x : Entry). In x es) (λ (x : Entry). In x r.0) ds (λ x a i. keep_in d x r.0 (λ e. a (sym (ap (λ (y : Entry). y.tag) e))) (pin x p i)) a h)
    (omega (arith, plength p))))
    (psym p)

pub dictionary-of : (step : ℕ) (ds : List Entry) (zs : List Zone) → Pairs Below ds → All (λ (d : Entry). In d (map entry_of (spots step 0 zs))) ds → length ds ≡ length (spots step 0 zs)
    → (dictionary step zs ≡ ds) × Pairs Else (map entry_of (spots step 0 zs))
unfolding dictionary
dictionary-of step ds zs b h l =
    let es : List Entry = map entry_of (spots step 0 zs) in
    let o : Pairs Else ds = rising_else ds b in
    let p : Perm ds es = pigeon ds es o h (l ∙ sym (length-map (spots step 0 zs) entry_of)) in
    (sym (sorted_perm p o) ∙ sorted-of-rising ds b, ppairs Else else_sym p o)

-- ---- blocks and spots

pub zone-spots : (step c f : ℕ) (bs : List Block) (zs : List Zone) → spots step c (zone f bs ∷ zs) ≡ row step c f bs ++ spots step (suc c) zs
unfolding spots zone row
zone-spots step c f [] zs = refl
zone-spots step c f (x ∷ xs) zs = refl

pub row-blocks : (step c p : ℕ) (xs : List Block) → map (λ (s : Spot). s.block) (row step c p xs) ≡ xs
unfolding row
row-blocks step c p [] = refl
row-blocks step c p (x ∷ xs) = ap (λ (l : List Block). x ∷ l) (row-blocks step c (p + cells step c) xs)

pub spots-blocks : (step c : ℕ) (zs : List Zone) → map (λ (s : Spot). s.block) (spots step c zs) ≡ blocks zs
unfolding spots blocks
spots-blocks step c [] = refl
spots-blocks step c (empty ∷ zs) = spots-blocks step (suc c) zs
spots-blocks step c (from f x xs ∷ zs) = map-append (λ (s : Spot). s.block) (row step c f (x ∷ xs)) (spots step (suc c) zs) ∙ ap₂ (λ (l r : List Block). l ++ r) (row-blocks step c f (x ∷ xs)) (spots-blocks step (suc c) zs)

-- blocks of different tags have entries of different tags, and the other way round
pub pairs_of : (ss : List Spot) → Pairs Other (map (λ (s : Spot). s.block) ss) → Pairs Else (map entry_of ss)
pairs_of ss h = pairs_mapped entry_of Else ss (pairs_unmapped (λ (s : Spot). s.block) Other ss h)

distinct_of : (ss : List Spot) → Pairs Else (map entry_of ss) → Pairs Other (map (λ (s : Spot). s.block) ss)
distinct_of ss h = pairs_mapped (λ (s : Spot). s.block) Other ss (pairs_unmapped entry_of Else ss h)

pub distinct-tags : (step : ℕ) (zs : List Zone) → Pairs Else (map entry_of (spots step 0 zs)) → Pairs Other (blocks zs)
distinct-tags step zs h = subst (Pairs Other) (spots-blocks step 0 zs) (distinct_of (spots step 0 zs) h)

pub dictionary-rising : (step : ℕ) (zs : List Zone) → Pairs Other (blocks zs) → Pairs Below (dictionary step zs)
unfolding dictionary
dictionary-rising step zs d = sorted-rising (map entry_of (spots step 0 zs)) (pairs_of (spots step 0 zs) (subst (Pairs Other) (sym (spots-blocks step 0 zs)) d))

pub dictionary_perm : (step : ℕ) (zs : List Zone) → Perm (dictionary step zs) (map entry_of (spots step 0 zs))
unfolding dictionary
dictionary_perm step zs = perm_sorted (map entry_of (spots step 0 zs))
