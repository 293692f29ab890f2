-- A record put into a tag's list, taken out or changed: home's bytes afterwards.
use Rattle.std.specs.Prelude.{◌≡◌, refl, true, ◌≢◌, List, [], ◌∷◌, ◌++◌, ℕ, suc, ◌+◌, ◌-◌, ◌*◌, ◌≤◌, ◌<◌, length, take}
use Rattle.std.proofs.Common.{sym, ap, ap₂, ◌∙◌, subst, arith, take_at}
use Rattle.records.specs.declared.Record.{Record}
use Rattle.records.specs.Records.{key, insert, remove, amend, encode as record_bytes, decode as records_in}
use Rattle.records.specs.Order.{remove-at, rank-length}
use Rattle.layout.specs.Cases.{some_is}
use Rattle.layout.specs.Capacities.{cells, capacity, class_of}
use Rattle.layout.specs.CapacitiesLaws.{cells_is, class_holds, rising as rises}
use Rattle.layout.specs.Zones.{Block, take_out}
use Rattle.home.specs.Layout.{change}
use Rattle.layout.proofs.EditsLaws.{length-insert, length-amend, remove-listed, amend-listed, insert-listed, shorter}
use Rattle.wire.specs.Bytes.{over, is_some}
use Rattle.home.specs.Bytes.{step_of, encode, decode, block_bytes, cell_at, list_at}
use Rattle.home.specs.Sound.{pages_of, list_of}
use Rattle.layout.specs.Valid.{Proper}
use Rattle.home.specs.SoundLaws.{sound-valid}
use Rattle.zones.specs.BlockLaws.{Lying}
use Rattle.lists.specs.Lists.{grown, shrunk, inserted_here, removed_here, set_here}
use Rattle.lists.specs.ListsLaws.{rank-held, length-remove, insert_aside_is, remove_aside_is, insert_here_is, remove_here_is, set_here_is}
use Rattle.lists.specs.Listed.{Listed, Missing, Ranked, Moving, changed, without}
use Rattle.lists.specs.ListedLaws.{listed_has, listed_lying, listed-many, listed-some, listed_most}
use Rattle.lists.specs.ChangedLaws.{list_read, changed_here, changed-none}

-- what was written to the front of a longer run
pub front_is : (e : ℕ) (ys post v : List ℕ) → ys ≡ v → length v ≡ e → take (e - 0) (ys ++ post) ≡ v
front_is e ys post v q l = take_at ys post (e - 0) (ap length q ∙ omega arith) ∙ q

proper : (h : List ℕ) (t p n : ℕ) (l : Listed h t p n) → Proper (list_of h t)
proper h t p n l = let s = (listed_lying h t p n l).sits in record { rising = s.rising; fits = s.fits; short = omega (arith, listed-many h t p n l, listed_most h t p n l) }

no_records : (rs : List Record) → length rs ≡ 0 → rs ≡ []
no_records [] e = refl
no_records (r ∷ rs) e = absurd (omega arith)

-- ---- taken out

module _ (h : List ℕ) (t p n j : ℕ) (k : Ranked h t p n j) where
  abbrev rs : List Record
  rs = list_of h t

  abbrev b : Block
  b = record { tag = t; list = rs }

  lies : Lying (step_of h) h (class_of (step_of h) n) p b
  lies = listed_lying h t p n k.listed

  many : n ≡ length rs
  many = listed-many h t p n k.listed

  pub ranked-under : j < n
  ranked-under = omega (arith, rank-held k.key rs k.held, k.rank, many)

  pub without_is : remove k.key rs ≡ without j rs
  without_is = remove-at 0 k.key rs (proper h t p n k.listed).rising k.held ∙ ap (λ (i : ℕ). without i rs) k.rank

  left_proper : Proper (without j rs)
  left_proper = subst Proper without_is (remove-listed k.key rs (proper h t p n k.listed))

  pub left-many : suc (length (without j rs)) ≡ n
  left-many = ap (λ (l : List Record). suc (length l)) (sym without_is) ∙ length-remove k.key rs (proper h t p n k.listed).rising k.held ∙ sym many

  -- the last record: its block goes
  pub out_last : n ≡ 1 → encode (step_of h) (pages_of h) (take_out (cells (step_of h)) t 0 0 (decode h)) ≡ changed h t (without j rs)
  out_last e = changed-none h t p n k.listed ∙ ap (changed h t) (sym (no_records (without j rs) (omega (arith, left-many))))

  -- the class stays
  pub out_here : 1 < n → class_of (step_of h) (n - 1) ≡ class_of (step_of h) n → removed_here h p n j ≡ changed h t (without j rs)
  out_here g e =
      let f : length (without j rs) ≡ n - 1 = omega (arith, left-many) in
      ap₂ (removed_here h p) many (sym k.rank)
      ∙ remove_here_is (step_of h) h p (class_of (step_of h) n) b lies.sits lies.bytes lies.inside k.key k.held
      ∙ ap (λ (l : List Record). over h (cell_at p) (block_bytes (step_of h) (class_of (step_of h) n) (record { tag = t; list = l }))) without_is
      ∙ changed_here h t p n k.listed (without j rs) left_proper (omega (arith, left-many)) (ap (class_of (step_of h)) f ∙ e)

  -- another class
  pub shrunk_is : shrunk h p n j ≡ record_bytes (without j rs)
  shrunk_is = ap₂ (shrunk h p) many (sym k.rank) ∙ remove_aside_is (step_of h) h p (class_of (step_of h) n) b lies.sits lies.bytes lies.inside k.key k.held ∙ ap record_bytes without_is

  pub out_room : is_some (change (step_of h) (8 * pages_of h) t (without j rs) (decode h)) ≡ true
  unfolding list_of
  out_room = some_is (change (step_of h) (8 * pages_of h) t (without j rs) (decode h))
      (shorter (cells (step_of h)) (class_of (step_of h)) (rises (step_of h)) (8 * pages_of h) t (decode h) (sound-valid h k.listed.sound) lies.sits.tag (without j rs) (listed_has h t p n k.listed) (omega (arith, left-many, many)))

  module _ (bs : List ℕ) (e : bs ≡ shrunk h p n j) where
    pub out_moving : 1 < n → class_of (step_of h) (n - 1) ≢ class_of (step_of h) n → Moving h t p n bs
    out_moving g d = let f : length (without j rs) ≡ n - 1 = omega (arith, left-many) in record {
      listed = k.listed;
      list = without j rs;
      proper = left_proper;
      bytes = e ∙ shrunk_is;
      some = omega arith;
      class = λ u. d (ap (class_of (step_of h)) (sym f) ∙ u);
      room = out_room;
    }

    pub out_moved : (x : List ℕ) → x ≡ changed h t (records_in bs) → x ≡ changed h t (without j rs)
    out_moved x y = y ∙ ap (changed h t) (list_read (without j rs) left_proper bs (e ∙ shrunk_is))

-- ---- put in

module _ (h : List ℕ) (t p n j : ℕ) (r : Record) (k : Missing h t p n j r) where
  abbrev old : List Record
  old = list_of h t

  abbrev new : List Record
  new = insert r old

  here : Lying (step_of h) h (class_of (step_of h) n) p (record { tag = t; list = old })
  here = listed_lying h t p n k.listed

  count : n ≡ length old
  count = listed-many h t p n k.listed

  pub missing_under : j ≤ n
  missing_under = omega (arith, rank-length (key r) old, k.rank, count)

  pub new-many : length new ≡ n + 1
  new-many = length-insert r old ∙ omega (arith, count)

  module _ (short : n < 989) where
    pub new_proper : Proper new
    new_proper = insert-listed r old k.fits k.held (omega (arith, count)) (proper h t p n k.listed)

    -- the class stays: there is a free cell
    pub in_free : class_of (step_of h) (n + 1) ≡ class_of (step_of h) n → suc n ≤ capacity (step_of h) (class_of (step_of h) n)
    in_free e = omega (arith, class_holds (step_of h) (n + 1) (omega (arith, short)), ap (cells (step_of h)) e, cells_is (step_of h) (class_of (step_of h) n))

    pub in_inside : class_of (step_of h) (n + 1) ≡ class_of (step_of h) n → list_at p + 8 * (n + 1) ≤ length h
    in_inside e = omega (arith, in_free e, cells_is (step_of h) (class_of (step_of h) n), here.inside)

    pub in_here : class_of (step_of h) (n + 1) ≡ class_of (step_of h) n → inserted_here h p n j r ≡ changed h t new
    in_here e =
        ap₂ (λ (x y : ℕ). inserted_here h p x y r) count (sym k.rank)
        ∙ insert_here_is (step_of h) h p (class_of (step_of h) n) (record { tag = t; list = old }) here.sits here.bytes here.inside r (omega (arith, in_free e, count))
        ∙ changed_here h t p n k.listed new new_proper (omega (arith, new-many)) (ap (class_of (step_of h)) new-many ∙ e)

    -- another class
    grown_is : grown h p n j r ≡ record_bytes new
    grown_is = ap₂ (λ (x y : ℕ). grown h p x y r) count (sym k.rank) ∙ insert_aside_is (step_of h) h p (class_of (step_of h) n) (record { tag = t; list = old }) here.sits here.bytes here.inside r

    module _ (bs : List ℕ) (e : bs ≡ grown h p n j r) where
      pub in_moving : class_of (step_of h) (n + 1) ≢ class_of (step_of h) n → is_some (change (step_of h) (8 * pages_of h) t new (decode h)) ≡ true → Moving h t p n bs
      in_moving d i = record {
        listed = k.listed;
        list = new;
        proper = new_proper;
        bytes = e ∙ grown_is;
        some = omega (arith, new-many);
        class = λ u. d (ap (class_of (step_of h)) (sym new-many) ∙ u);
        room = i;
      }

      pub in_moved : (x : List ℕ) → x ≡ changed h t (records_in bs) → x ≡ changed h t new
      in_moved x y = y ∙ ap (changed h t) (list_read new new_proper bs (e ∙ grown_is))

-- ---- its minutes set

pub set-changed : (h : List ℕ) (t p n j m : ℕ) (k : Ranked h t p n j) → m < 256 → set_here h p n j m ≡ changed h t (amend k.key m (list_of h t))
set-changed h t p n j m k g =
    let rs : List Record = list_of h t in
    let s : Lying (step_of h) h (class_of (step_of h) n) p (record { tag = t; list = rs }) = listed_lying h t p n k.listed in
    let c : n ≡ length rs = listed-many h t p n k.listed in
    let l : length (amend k.key m rs) ≡ n = length-amend k.key m rs ∙ sym c in
    ap₂ (λ (x y : ℕ). set_here h p x y m) c (sym k.rank)
    ∙ set_here_is (step_of h) h p (class_of (step_of h) n) (record { tag = t; list = rs }) s.sits s.bytes s.inside k.key m k.held
    ∙ changed_here h t p n k.listed (amend k.key m rs) (amend-listed k.key m rs g (proper h t p n k.listed)) (omega (arith, l, listed-some h t p n k.listed)) (ap (class_of (step_of h)) l)
