-- A layout's whole bytes after one block has moved, was added, has gone or holds another list.
use Rattle.std.specs.Prelude.{◌≡◌, length}
use Rattle.std.proofs.Math.Path.{refl, ap, subst}
use Rattle.std.proofs.Common.{sym, ap₂, ◌∙◌, arith}
use mathlib.Core.List.{List, [], ◌∷◌, ◌++◌, map}
use Prim.Native.Nat.{ℕ, ◌+◌, ◌*◌, ◌≤◌, ◌<◌}
use Rattle.std.proofs.Math.ListN.{drop, replicate, length-append}
use Rattle.wire.specs.Bytes.{over, get32, bytes16, bytes32}
use Rattle.wire.specs.All.{all_append, all_head}
use Rattle.layout.specs.Capacities.{cells}
use Rattle.layout.specs.Zones.{Block, Zone}
use Rattle.layout.specs.Perm.{Perm, pswap, ptrans, Pairs}
use Rattle.layout.specs.PermLaws.{prefl, pall, ppairs, pairs_tail, all_left, all_right, pmap}
use Rattle.home.specs.Layout.{Sits, Loose}
use Rattle.home.specs.Bytes.{Spot, spots, Entry, entry_of, sorted, dictionary, zone_entries, area, encode, block_bytes, cell_at}
use Rattle.home.specs.BytesLaws.{chop, get32-front}
use Rattle.home.specs.AreaLaws.{Reads, bytes_of, spots_sit, area_reads}
use Rattle.home.specs.HomeLaws.{get32-at}
use Rattle.home.specs.DictionaryLaws.{Else, Below, dictionary-rising, dictionary_perm, else_sym, sorted_perm, sorted-rising, rising_else}
use Rattle.home.specs.EntriesLaws.{Small}
use Rattle.home.specs.EncodeLaws.{state, Fine, length-zones, fine, encode-state}
use Rattle.moves.specs.Moves.{Movable, carried, zoned, moved, entered, unentered}
use Rattle.moves.specs.AreaLaws.{area_gone, area-added, area-moved, area-filled, area-rewritten}
use Rattle.moves.specs.EntryLaws.{Parted, kept, sorted-one}
use Rattle.moves.specs.StateLaws.{state-zoned, state-written, state-moved, state_movable, state-entered, state-unentered}
use Rattle.moves.specs.SpotLaws.{spot}

-- one entry fewer
fine_less : (pre : List Entry) (x : Entry) (post : List Entry) → Fine (pre ++ x ∷ post) → Fine (pre ++ post)
fine_less pre x post ok =
    record {
      few = omega (arith, ok.few, length-append pre (x ∷ post), length-append pre post);
      small = all_append (all_left Small pre (x ∷ post) ok.small) (all_right Small (x ∷ []) post (all_right Small pre (x ∷ post) ok.small));
    }

-- ---- a layout's bytes as its parts

module _ (step R : ℕ) (zs : List Zone) (v : Loose step R zs) where
  -- the tags of its blocks, in any order
  pub others : (ss : List Spot) → Perm (spots step 0 zs) ss → Pairs Else (map entry_of ss)
  others ss p = ppairs Else else_sym (ptrans (dictionary_perm step zs) (pmap entry_of p)) (rising_else (dictionary step zs) (dictionary-rising step zs v.distinct))

  pub dictionary_as : (ss : List Spot) → Perm (spots step 0 zs) ss → dictionary step zs ≡ sorted (map entry_of ss)
  unfolding dictionary
  dictionary_as ss p = sorted_perm (pmap entry_of p) (others (spots step 0 zs) (prefl (spots step 0 zs)))

  -- a block bears its tag
  pub area_bears : (s : Spot) (ss : List Spot) → Perm (spots step 0 zs) (s ∷ ss) → get32 (area step (8 * R) zs) (8 * s.cell) ≡ s.block.tag
  unfolding block_bytes bytes32 get32
  area_bears s ss p =
      let a : List ℕ = area step (8 * R) zs in
      let n : ℕ = 8 * cells step s.class in
      let rest : List ℕ = drop (8 * s.cell + n) a in
      let r : Reads step a s = all_head (pall (Reads step a) p (area_reads step (8 * R) zs v.fit)) in
      let sit : Sits step s.class s.block = all_head (pall (λ (x : Spot). Sits step x.class x.block) p (spots_sit step (8 * R) 0 0 zs v.fit)) in
      get32-at a (bytes_of step s ++ rest) (8 * s.cell) (chop (8 * s.cell) n a ∙ ap (λ (l : List ℕ). l ++ rest) r) ∙ get32-front s.block.tag [] sit.tag

-- ---- an entry taken out

module _ (step R : ℕ) (small : R ≤ 1024) (zs : List Zone) (v : Loose step R zs) where
  fine_without : (s : Spot) (ss : List Spot) → Perm (spots step 0 zs) (s ∷ ss) → Fine (sorted (map entry_of ss))
  fine_without s ss p =
      let x : Entry = entry_of s in
      let t : Parted x.tag (sorted (map entry_of ss)) = kept x (map entry_of ss) (others step R zs v (s ∷ ss) p) in
      subst Fine (sym t.is) (fine_less t.pre x t.post (subst Fine (dictionary_as step R zs v (s ∷ ss) p ∙ sorted-one x (map entry_of ss) t) (fine step R small zs v)))

  pub unentered-state : (s : Spot) (ss : List Spot) → Perm (spots step 0 zs) (s ∷ ss) → unentered (encode step R zs) s.block.tag ≡ state step (zone_entries zs) (sorted (map entry_of ss)) (area step (8 * R) zs)
  unentered-state s ss p =
      let x : Entry = entry_of s in
      let t : Parted x.tag (sorted (map entry_of ss)) = kept x (map entry_of ss) (others step R zs v (s ∷ ss) p) in
      let d : dictionary step zs ≡ t.pre ++ x ∷ t.post = dictionary_as step R zs v (s ∷ ss) p ∙ sorted-one x (map entry_of ss) t in
      ap (λ (h : List ℕ). unentered h x.tag) (encode-state step R zs v ∙ ap (λ (y : List Entry). state step (zone_entries zs) y (area step (8 * R) zs)) d)
      ∙ state-unentered step (zone_entries zs) (length-zones step R zs v) t.pre t.post (area step (8 * R) zs) x.tag t.low t.high x refl (subst Fine d (fine step R small zs v))
      ∙ ap (λ (y : List Entry). state step (zone_entries zs) y (area step (8 * R) zs)) (sym t.is)

  -- b's entry is out: y's among the others
  record Without (n q p : ℕ) (b y : Block) (r : List Spot) : Type 0 where
    pub parted : Parted y.tag (sorted (map entry_of r))
    pub fine : Fine (parted.pre ++ entry_of (spot n p y) ∷ parted.post)
    pub rising : Pairs Below (parted.pre ++ entry_of (spot n p y) ∷ parted.post)
    pub bytes : unentered (encode step R zs) b.tag ≡ state step (zone_entries zs) (parted.pre ++ entry_of (spot n p y) ∷ parted.post) (area step (8 * R) zs)
    pub bears : get32 (area step (8 * R) zs) (8 * p) ≡ y.tag

  without : (n q p : ℕ) (b y : Block) (r : List Spot) → Perm (spots step 0 zs) (spot n q b ∷ spot n p y ∷ r) → Without n q p b y r
  without n q p b y r was =
      let s : Spot = spot n q b in
      let w : Spot = spot n p y in
      let o : Pairs Else (map entry_of (w ∷ r)) = pairs_tail Else (entry_of s) (map entry_of (w ∷ r)) (others step R zs v (s ∷ w ∷ r) was) in
      let u : Parted y.tag (sorted (map entry_of r)) = kept (entry_of w) (map entry_of r) o in
      let m : sorted (map entry_of (w ∷ r)) ≡ u.pre ++ entry_of w ∷ u.post = sorted-one (entry_of w) (map entry_of r) u in
      record {
        parted = u;
        fine = subst Fine m (fine_without s (w ∷ r) was);
        rising = subst (Pairs Below) m (sorted-rising (map entry_of (w ∷ r)) o);
        bytes = unentered-state s (w ∷ r) was ∙ ap (λ (z : List Entry). state step (zone_entries zs) z (area step (8 * R) zs)) m;
        bears = area_bears step R zs v w (s ∷ r) (ptrans was (pswap s w r));
      }

  pub movable_without : (n q p : ℕ) (b y : Block) (r : List Spot) → Perm (spots step 0 zs) (spot n q b ∷ spot n p y ∷ r) → Movable (unentered (encode step R zs) b.tag) p
  movable_without n q p b y r was =
      let m : Without n q p b y r = without n q p b y r was in
      subst (λ (h : List ℕ). Movable h p) (sym m.bytes)
      (state_movable step (zone_entries zs) (length-zones step R zs v) m.parted.pre m.parted.post (area step (8 * R) zs) y.tag m.parted.low m.parted.high (entry_of (spot n p y)) p refl m.fine m.rising m.bears)

-- ---- one block changed, and zone c's entry set

module _ (step R : ℕ) (small : R ≤ 1024) (zs zs' : List Zone) (v : Loose step R zs) (v' : Loose step R zs') where
  abbrev es : List ℕ
  es = zone_entries zs

  abbrev a : List ℕ
  a = area step (8 * R) zs

  le : length es ≡ 120
  le = length-zones step R zs v

  module _ (c f k : ℕ) (g : c < 30) (set : over (zone_entries zs) (4 * c) (bytes16 f ++ bytes16 k) ≡ zone_entries zs') where
    -- the last store: zone c's entry
    zone-set : (ds : List Entry) (a' : List ℕ) → dictionary step zs' ≡ ds → area step (8 * R) zs' ≡ a' → encode step R zs' ≡ zoned (state step es ds a') c f k
    zone-set ds a' d e =
        encode-state step R zs' v'
        ∙ ap₂ (λ (x : List Entry) (y : List ℕ). state step (zone_entries zs') x y) d e
        ∙ ap (λ (x : List ℕ). state step x ds a') (sym set)
        ∙ sym (state-zoned step es a' le ds (subst Fine d (fine step R small zs' v')) c f k g)

    pub home-moved : (s : Spot) (q : ℕ) (ss : List Spot) → Perm (spots step 0 zs) (s ∷ ss) → Perm (spots step 0 zs') (spot s.class q s.block ∷ ss)
        → encode step R zs' ≡ zoned (moved step (encode step R zs) s.class s.cell q) c f k
    home-moved s q ss p p' =
        let x : Entry = entry_of s in
        let x' : Entry = entry_of (spot s.class q s.block) in
        let xs : List Entry = map entry_of ss in
        let t : Parted x.tag (sorted xs) = kept x xs (others step R zs v (s ∷ ss) p) in
        let d : dictionary step zs ≡ t.pre ++ x ∷ t.post = dictionary_as step R zs v (s ∷ ss) p ∙ sorted-one x xs t in
        let d' : dictionary step zs' ≡ t.pre ++ x' ∷ t.post = dictionary_as step R zs' v' (spot s.class q s.block ∷ ss) p' ∙ sorted-one x' xs t in
        zone-set (t.pre ++ x' ∷ t.post) (carried a (8 * s.cell) (8 * q) (8 * cells step s.class)) d' (area-moved step (8 * R) zs zs' v.fit v'.fit s q ss p p')
        ∙ ap (λ (h : List ℕ). zoned h c f k)
        (sym (ap (λ (h : List ℕ). moved step h s.class s.cell q) (encode-state step R zs v ∙ ap (λ (y : List Entry). state step es y a) d)
        ∙ state-moved step es le t.pre t.post a x.tag t.low t.high x s.class s.cell q refl (subst Fine d (fine step R small zs v)) (area_bears step R zs v s ss p)))

    pub home-added : (s : Spot) → Perm (spots step 0 zs') (s ∷ spots step 0 zs)
        → encode step R zs' ≡ zoned (entered (over (encode step R zs) (cell_at s.cell) (bytes_of step s)) s.block.tag s.cell) c f k
    unfolding dictionary
    home-added s p =
        let x : Entry = entry_of s in
        let xs : List Entry = map entry_of (spots step 0 zs) in
        let t : Parted x.tag (sorted xs) = kept x xs (others step R zs' v' (s ∷ spots step 0 zs) p) in
        let d' : dictionary step zs' ≡ t.pre ++ x ∷ t.post = dictionary_as step R zs' v' (s ∷ spots step 0 zs) p ∙ sorted-one x xs t in
        let a' : List ℕ = over a (8 * s.cell) (bytes_of step s) in
        let ok : Fine (t.pre ++ t.post) = subst Fine t.is (fine step R small zs v) in
        let ok' : Fine (t.pre ++ x ∷ t.post) = subst Fine d' (fine step R small zs' v') in
        zone-set (t.pre ++ x ∷ t.post) a' d' (area-added step (8 * R) zs zs' v.fit v'.fit s p)
        ∙ ap (λ (h : List ℕ). zoned h c f k)
        (sym (ap (λ (h : List ℕ). entered (over h (cell_at s.cell) (bytes_of step s)) x.tag x.cell) (encode-state step R zs v ∙ ap (λ (y : List Entry). state step es y a) t.is)
        ∙ ap (λ (h : List ℕ). entered h x.tag x.cell) (state-written step es a le (t.pre ++ t.post) ok s.cell (bytes_of step s))
        ∙ state-entered step es le t.pre t.post a' x.tag t.low t.high x.cell ok (omega (arith, ok'.few, length-append t.pre (x ∷ t.post), length-append t.pre t.post))))

    pub home_gone : (s : Spot) → Perm (spots step 0 zs) (s ∷ spots step 0 zs')
        → encode step R zs' ≡ zoned (over (unentered (encode step R zs) s.block.tag) (cell_at s.cell) (replicate (8 * cells step s.class) 0)) c f k
    unfolding dictionary
    home_gone s p =
        let z : List ℕ = replicate (8 * cells step s.class) 0 in
        zone-set (dictionary step zs') (over a (8 * s.cell) z) refl (area_gone step (8 * R) zs zs' v.fit v'.fit s p)
        ∙ ap (λ (h : List ℕ). zoned h c f k)
        (sym (ap (λ (h : List ℕ). over h (cell_at s.cell) z) (unentered-state step R small zs v s (spots step 0 zs') p)
        ∙ state-written step es a le (dictionary step zs') (fine step R small zs' v') s.cell z))

    -- the last block y of class n, at cell p, fills the place q of b
    pub home-filled : (n q p : ℕ) (b y : Block) (r : List Spot) → Perm (spots step 0 zs) (spot n q b ∷ spot n p y ∷ r) → Perm (spots step 0 zs') (spot n q y ∷ r)
        → encode step R zs' ≡ zoned (moved step (unentered (encode step R zs) b.tag) n p q) c f k
    home-filled n q p b y r was is =
        let w' : Entry = entry_of (spot n q y) in
        let m : Without step R small zs v n q p b y r = without step R small zs v n q p b y r was in
        let ds : List Entry = m.parted.pre ++ w' ∷ m.parted.post in
        zone-set ds (carried a (8 * p) (8 * q) (8 * cells step n)) (dictionary_as step R zs' v' (spot n q y ∷ r) is ∙ sorted-one w' (map entry_of r) m.parted)
        (area-filled step (8 * R) zs zs' v.fit v'.fit n q p b y r was is)
        ∙ ap (λ (h : List ℕ). zoned h c f k)
        (sym (ap (λ (h : List ℕ). moved step h n p q) m.bytes
        ∙ state-moved step es le m.parted.pre m.parted.post a y.tag m.parted.low m.parted.high (entry_of (spot n p y)) n p q refl m.fine m.bears))

  -- another list in the block of class n at cell p
  pub home-rewritten : (n p : ℕ) (b b' : Block) (ss : List Spot) → b.tag ≡ b'.tag → zone_entries zs ≡ zone_entries zs' → Perm (spots step 0 zs) (spot n p b ∷ ss) → Perm (spots step 0 zs') (spot n p b' ∷ ss)
      → encode step R zs' ≡ over (encode step R zs) (cell_at p) (block_bytes step n b')
  home-rewritten n p b b' ss q set was is =
      let d : dictionary step zs' ≡ dictionary step zs = dictionary_as step R zs' v' (spot n p b' ∷ ss) is
      ∙ ap (λ (t : ℕ). sorted (record { tag = t; cell = p } ∷ map entry_of ss)) (sym q) ∙ sym (dictionary_as step R zs v (spot n p b ∷ ss) was) in
      encode-state step R zs' v'
      ∙ ap₂ (λ (x : List Entry) (y : List ℕ). state step (zone_entries zs') x y) d (area-rewritten step (8 * R) zs zs' v.fit v'.fit n p b b' ss was is)
      ∙ ap (λ (x : List ℕ). state step x (dictionary step zs) (over a (8 * p) (block_bytes step n b'))) (sym set)
      ∙ sym (ap (λ (h : List ℕ). over h (cell_at p) (block_bytes step n b')) (encode-state step R zs v) ∙ state-written step es a le (dictionary step zs) (fine step R small zs v) p (block_bytes step n b'))
