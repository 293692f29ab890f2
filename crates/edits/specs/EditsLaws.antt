-- What the edits answer and leave, case by case.
use Rattle.std.specs.Prelude.{◌≡◌, Bool, false, not, ◌&&◌, ◌≢◌, ℕ, ◌+◌, ◌-◌, ◌*◌, ◌/◌, ◌≤◌, ◌<◌, Ok, Err, None}
use Rattle.std.proofs.Math.Path.{refl, sym, ap}
use Rattle.std.proofs.Common.{ap₂, ◌∙◌}
use Rattle.std.proofs.Math.Bool.{true}
use Rattle.std.proofs.Math.Option.{Option, none, some}
use mathlib.Core.List.{List, [], ◌∷◌, append-nil}
use native.Mathlib.Omega.{arith}
use Rattle.std.proofs.Math.Dec.{leb}
use Rattle.std.proofs.Math.ListN.{length}
use borrow.Author.Tests.{lt-leb, le-leb}
use Rattle.wire.specs.Bytes.{pick, get16, is_some}
use Rattle.refusals.specs.declared.Refusal.{Refusal}
use Rattle.refusals.specs.declared.Refusal.TheVariants.{Listed as Present, Unknown, TagsFull, NoRoom, BuildingFull}
use Rattle.refusals.specs.Rules.{Answer, first, refusal, Ruled, answered, left}
use Rattle.refusals.specs.RulesLaws.{is_refused, is_done}
use Rattle.wire.specs.BytesLaws.{over_whole}
use Rattle.wire.specs.Cases.{never, leb_iff, not-leb}
use Rattle.wire.specs.All.{more, none as nothing}
use Rattle.records.specs.declared.Record.{Record}
use Rattle.records.specs.Records.{Fits, key, rising_from, rising, look, held, insert, amend, up, inserted, bytes_of, encode as record_bytes, decode as records_in}
use Rattle.records.specs.Moves.{length_up}
use Rattle.records.specs.Cells.{length-bytes_of}
use Rattle.records.specs.Edits.{length-encode, decode-encode}
use Rattle.layout.specs.Capacities.{cells, class_of}
use Rattle.layout.specs.Zones.{Zone, blocks, tags, has_tag, find, total, change as change_by}
use Rattle.layout.specs.Buildings.{building_full}
use Rattle.home.specs.Layout.{change, total_after, put}
use Rattle.layout.specs.Sizes.{block_size, total_after as total_after_by}
use Rattle.layout.proofs.AfreshLaws.{size-some}
use Rattle.layout.specs.Edits.{Edit, record_rules, put as put_by, delete, set_minutes, drop_tag}
use Rattle.layout.specs.CapacitiesLaws.{rising as rises}
use Rattle.layout.proofs.EditsLaws.{length-amend, exactly, had_size, total-low}
use Rattle.home.specs.HomeLaws.{all_mem}
use Rattle.home.specs.Bytes.{step_of, decode}
use Rattle.home.specs.Sound.{sound, pages_of, list_of}
use Rattle.home.specs.Lookup.{block_of}
use Rattle.home.specs.TagBlockLaws.{list-none}
use Rattle.home.specs.TagsLaws.{new_lacks, lacks_new}
use Rattle.layout.specs.Valid.{Proper}
use Rattle.home.specs.SoundLaws.{sound-valid, sound-tags}
use Rattle.moves.specs.Stored.{settled}
use Rattle.zones.specs.Place.{Placeable}
use Rattle.zones.specs.Afresh.{settled_in}
use Rattle.lists.specs.Lists.{set_here}
use Rattle.lists.specs.ListedLaws.{listed_has, listed_lying, listed-many}
use Rattle.lists.specs.RecordLaws.{without_is, left-many, new-many, new_proper, set-changed}
use Rattle.lists.specs.Listed.{changed, without, Listed, Missing, Ranked}
use Rattle.edits.specs.declared.Terminal.{Terminal}
use Rattle.edits.specs.declared.Terminal.TheVariants.{Desk, Pit}
use Rattle.edits.specs.Edits.{edited, limit_of, full_of, put_of, put_in, delete_in, set_in, drop_in, fits_after}

rising-one : (r : Record) → rising (r ∷ []) ≡ true
unfolding rising_from
rising-one r = rw (le-leb 0 (key r) (omega arith))

-- no list is closed to a terminal while it is empty, and each is at 989 records
pub limit_some : (by : Terminal) → 0 < limit_of by
unfolding limit_of
limit_some Desk = omega arith
limit_some Pit = omega arith

pub limit_low : (by : Terminal) → limit_of by ≤ 989
unfolding limit_of
limit_low Desk = omega arith
limit_low Pit = omega arith

-- ---- refused, or not

-- what is answered to an edit and what it leaves
abbrev Ends : List ℕ → Ruled Answer → Answer → List ℕ → Type 0
Ends h c a bs = (a ≡ answered Err c) × (bs ≡ left c h)

refuses : (h : List ℕ) (t : ℕ) (e : Edit) (n : Refusal) → refusal e.rules ≡ some n → Ends h (edited h t e) (Err n) h
refuses h t e n q = is_refused Err (edited h t e) h n q

makes : (h : List ℕ) (t : ℕ) (e : Edit) (m : ℕ) (rs : List Record) → refusal e.rules ≡ none → e.list ≡ rs → m ≡ length rs → Ends h (edited h t e) (Ok m) (changed h t rs)
makes h t e m rs q f g = let d = is_done Err (edited h t e) h q in (ap Ok (g ∙ ap length (sym f)) ∙ d.0, ap (changed h t) (sym f) ∙ d.1)

listed_nine : (t k : ℕ) (zs : List Zone) → held (look k (find t (blocks zs))) ≡ true → refusal (record_rules t k zs) ≡ none
unfolding first
listed_nine t k zs e = rw e

no_such : (t k : ℕ) (zs : List Zone) → held (look k (find t (blocks zs))) ≡ false → refusal (record_rules t k zs) ≡ some Unknown
unfolding first
no_such t k zs e = rw e

-- no such record, of a tag with a list or of an unknown one
module _ (h : List ℕ) (t k : ℕ) (none-listed : held (look k (list_of h t)) ≡ false) where
  pub delete-none : Ends h (delete_in h t k) (Err Unknown) h
  unfolding delete list_of
  delete-none = refuses h t (delete t k (decode h)) Unknown (no_such t k (decode h) none-listed)

  pub set-none : (m : ℕ) → Ends h (set_in h t k m) (Err Unknown) h
  unfolding set_minutes list_of
  set-none m = refuses h t (set_minutes t k m (decode h)) Unknown (no_such t k (decode h) none-listed)

-- ---- of a tag with a list

module _ (h : List ℕ) (t p n : ℕ) (l : Listed h t p n) where
  pub put-held : (by : Terminal) (r : Record) → held (look (key r) (list_of h t)) ≡ true → Ends h (put_in by h t r) (Err Present) h
  unfolding put_by list_of first
  put-held by r e = refuses h t (put_of by h t r) Present (rw e)

  pub drop_done : Ends h (drop_in h t) (Ok 0) (changed h t [])
  unfolding drop_tag first
  drop_done = makes h t (drop_tag t (decode h)) 0 [] (rw (listed_has h t p n l)) refl refl

pub delete_done : (h : List ℕ) (t p n j : ℕ) (k : Ranked h t p n j) → Ends h (delete_in h t k.key) (Ok (n - 1)) (changed h t (without j (list_of h t)))
unfolding delete list_of
delete_done h t p n j k = makes h t (delete t k.key (decode h)) (n - 1) (without j (list_of h t)) (listed_nine t k.key (decode h) k.held) (without_is h t p n j k) (omega (arith, left-many h t p n j k))

pub set_done : (h : List ℕ) (t p n j m : ℕ) (k : Ranked h t p n j) → m < 256 → Ends h (set_in h t k.key m) (Ok n) (set_here h p n j m)
unfolding set_minutes list_of
set_done h t p n j m k g =
    let rs : List Record = find t (blocks (decode h)) in
    let d = makes h t (set_minutes t k.key m (decode h)) n (amend k.key m rs) (listed_nine t k.key (decode h) k.held) refl (listed-many h t p n k.listed ∙ sym (length-amend k.key m rs)) in
    (d.0, set-changed h t p n j m k g ∙ d.1)

-- ---- a record put to a tag with a list

-- where those before it do not apply, it depends on 12
last : (step area limit : ℕ) (full : Refusal) (t : ℕ) (r : Record) (zs : List Zone) → held (look (key r) (find t (blocks zs))) ≡ false → length (find t (blocks zs)) < limit
    → not (has_tag t (blocks zs)) && building_full t (tags (blocks zs)) ≡ false → not (has_tag t (blocks zs)) && leb 256 (length (blocks zs)) ≡ false → (b : Bool) → leb (total_after step t (insert r (find t (blocks zs))) zs) area ≡ b
    → refusal (put step area limit full t r zs).rules ≡ pick {A = Option Refusal} b none (some NoRoom)
unfolding put_by first
last step area limit full t r zs h g k f b e =
    let rs : List Record = find t (blocks zs) in
    rw (h, lt-leb limit (length rs) g, k, f, sym (not-leb (total_after step t (insert r rs) zs) area) ∙ ap not e) (flip b)
  where
    flip : (b : Bool) → pick {A = Option Refusal} (not b) (some NoRoom) none ≡ pick {A = Option Refusal} b none (some NoRoom)
    flip true = refl
    flip false = refl

module _ (h : List ℕ) (t p n j : ℕ) (r : Record) (k : Missing h t p n j r) where
  abbrev step : ℕ
  step = step_of h

  abbrev new : List Record
  new = insert r (list_of h t)

  pub put_full : (by : Terminal) → limit_of by ≤ n → Ends h (put_in by h t r) (Err (full_of by)) h
  unfolding put_by list_of first
  put_full by e =
      let g : leb (limit_of by) (length (find t (blocks (decode h)))) ≡ true = le-leb (limit_of by) (length (find t (blocks (decode h)))) (omega (arith, listed-many h t p n k.listed)) in
      refuses h t (put_of by h t r) (full_of by) (rw (k.held, g))

  old-size : block_size (cells step) (class_of step) (list_of h t) ≡ cells step (class_of step n)
  unfolding list_of
  old-size =
      (had_size (cells step) (class_of step) (rises step) (8 * pages_of h) t (decode h) (sound-valid h k.listed.sound) (listed_lying h t p n k.listed).sits.tag (listed_has h t p n k.listed)).0
      ∙ ap (λ (m : ℕ). cells step (class_of step m)) (sym (listed-many h t p n k.listed))

  -- its block is one of all
  old_least : cells step (class_of step n) ≤ total (cells step) 0 (decode h)
  unfolding list_of
  old_least =
      omega (
        arith,
        old-size,
        (had_size (cells step) (class_of step) (rises step) (8 * pages_of h) t (decode h) (sound-valid h k.listed.sound) (listed_lying h t p n k.listed).sits.tag (listed_has h t p n k.listed)).1,
      )

  -- whether there is room is known by the sizes of all blocks
  fits-total : fits_after step h (class_of step n) (class_of step (n + 1)) ≡ leb (total_after step t new (decode h)) (8 * pages_of h)
  unfolding list_of total_after_by
  fits-total =
      let m : length new ≡ n + 1 = new-many h t p n j r k in
      let b : block_size (cells step) (class_of step) new ≡ cells step (class_of step (n + 1)) = size-some (cells step) (class_of step) new (omega (arith, m)) ∙ ap (λ (d : ℕ). cells step (class_of step d)) m in
      sym (ap₂ (λ (x y : ℕ). leb (total (cells step) 0 (decode h) - x + y) (8 * pages_of h)) old-size b
      ∙ leb_iff (total (cells step) 0 (decode h) - cells step (class_of step n) + cells step (class_of step (n + 1))) (8 * pages_of h) (total (cells step) 0 (decode h) + cells step (class_of step (n + 1))) (8 * pages_of h + cells step (class_of step n))
      (λ g. omega (arith, old_least)) (λ g. omega (arith, old_least)))

  pub put_room : n < 989 → fits_after step h (class_of step n) (class_of step (n + 1)) ≡ is_some (change step (8 * pages_of h) t new (decode h))
  put_room short = fits-total ∙ sym (exactly (cells step) (class_of step) (rises step) (8 * pages_of h) t (decode h) (sound-valid h k.listed.sound) (listed_lying h t p n k.listed).sits.tag new (new_proper h t p n j r k short))

  -- and there is where the class stays
  pub put_keeps : class_of step (n + 1) ≡ class_of step n → fits_after step h (class_of step n) (class_of step (n + 1)) ≡ true
  put_keeps e =
      ap (fits_after step h (class_of step n)) e
      ∙ le-leb (total (cells step) 0 (decode h) + cells step (class_of step n)) (8 * pages_of h + cells step (class_of step n)) (omega (arith, total-low (cells step) (class_of step) (rises step) (8 * pages_of h) (decode h) (sound-valid h k.listed.sound)))

  module _ (by : Terminal) (short : n < limit_of by) where
    put_last : (b : Bool) → fits_after step h (class_of step n) (class_of step (n + 1)) ≡ b → refusal (put_of by h t r).rules ≡ pick {A = Option Refusal} b none (some NoRoom)
    unfolding list_of
    put_last b q =
        let many : n ≡ length (find t (blocks (decode h))) = listed-many h t p n k.listed in
        last step (8 * pages_of h) (limit_of by) (full_of by) t r (decode h) k.held (omega arith) (rw (listed_has h t p n k.listed) refl) (rw (listed_has h t p n k.listed) refl) b (sym fits-total ∙ q)

    pub put_done : fits_after step h (class_of step n) (class_of step (n + 1)) ≡ true → Ends h (put_in by h t r) (Ok (n + 1)) (changed h t new)
    unfolding put_by list_of
    put_done i = makes h t (put_of by h t r) (n + 1) new (put_last true i) refl (sym (new-many h t p n j r k))

    pub put_no_room : fits_after step h (class_of step n) (class_of step (n + 1)) ≡ false → Ends h (put_in by h t r) (Err NoRoom) h
    put_no_room i = refuses h t (put_of by h t r) NoRoom (put_last false i)

-- ---- of an unknown tag

settled-none : (step R : ℕ) (h : List ℕ) (o : Option (List Zone)) → is_some o ≡ false → settled step R h o ≡ h
unfolding settled
settled-none s R h none i = refl
settled-none s R h (some zs) i = never (sym i)

-- its list of one
pub inserted_alone : (l : List ℕ) (r : Record) → length l ≡ 8 → inserted l 0 r ≡ record_bytes (r ∷ [])
unfolding inserted record_bytes
inserted_alone l r e = over_whole (up l (8 * 0)) (bytes_of r) (length-bytes_of r ∙ sym (length_up l (8 * 0) ∙ e)) ∙ sym (append-nil (bytes_of r))

pub absent_new : (h : List ℕ) (t : ℕ) → sound h ≡ true → block_of h t ≡ None → has_tag t (blocks (decode h)) ≡ false
absent_new h t s e = new_lacks h s t (list-none h t s e)

module _ (h : List ℕ) (t : ℕ) (s : sound h ≡ true) (no : has_tag t (blocks (decode h)) ≡ false) where
  nothing_found : find t (blocks (decode h)) ≡ []
  unfolding list_of
  nothing_found = lacks_new h s t no

  nothing-held : (k : ℕ) → held (look k (find t (blocks (decode h)))) ≡ false
  unfolding look
  nothing-held k = rw nothing_found

  pub unknown_held : (k : ℕ) → held (look k (list_of h t)) ≡ false
  unfolding list_of
  unknown_held k = nothing-held k

  pub drop_unknown : Ends h (drop_in h t) (Err Unknown) h
  unfolding drop_tag first
  drop_unknown = refuses h t (drop_tag t (decode h)) Unknown (rw no)

  nothing-listed : length (find t (blocks (decode h))) ≡ 0
  nothing-listed = rw nothing_found

  -- its list is open to either terminal
  nothing-closed : (by : Terminal) → leb (limit_of by) 0 ≡ false
  nothing-closed by = lt-leb (limit_of by) 0 (limit_some by)

  pub new_either : (by : Terminal) (r : Record) → (answered Err (put_in Desk h t r) ≡ answered Err (put_in by h t r)) × (left (put_in Desk h t r) h ≡ left (put_in by h t r) h)
  unfolding put_by first
  new_either by r = rw (nothing-held (key r), nothing-listed, nothing-closed by, nothing-closed Desk) (refl, refl)

  -- "beyond this"
  pub put-building : (r : Record) → building_full t (tags (blocks (decode h))) ≡ true → Ends h (put_in Desk h t r) (Err BuildingFull) h
  unfolding put_by first
  put-building r e = refuses h t (put_of Desk h t r) BuildingFull (rw (nothing-held (key r), nothing-listed, nothing-closed Desk, no, e))

  pub put-tags : (r : Record) → building_full t (tags (blocks (decode h))) ≡ false → get16 h 0 ≡ 256 → Ends h (put_in Desk h t r) (Err TagsFull) h
  unfolding put_by first
  put-tags r free e =
      let g : leb 256 (length (blocks (decode h))) ≡ true = le-leb 256 (length (blocks (decode h))) (omega (arith, sound-tags h s)) in
      refuses h t (put_of Desk h t r) TagsFull (rw (nothing-held (key r), nothing-listed, nothing-closed Desk, no, free, g))

  module _ (small : t < 4294967296) (free : building_full t (tags (blocks (decode h))) ≡ false) (few : get16 h 0 ≢ 256) (r : Record) (fits : Fits r) (bs : List ℕ) (e : bs ≡ record_bytes (r ∷ [])) where
    fewer : length (blocks (decode h)) < 256
    fewer = omega (arith, sound-tags h s, (sound-valid h s).few)

    one : length bs / 8 ≡ 1
    one = omega (arith, ap length e, length-encode (r ∷ []))

    read : records_in bs ≡ r ∷ []
    read = ap records_in e ∙ decode-encode (r ∷ []) (all_mem (r ∷ []) (more fits nothing))

    pub new_placeable : Placeable h t bs
    new_placeable = record {
      sound = s;
      new = no;
      few = fewer;
      whole = omega (arith, ap length e, length-encode (r ∷ []));
      some = omega (arith, one);
      most = omega (arith, one);
      rising = rw read (rising-one r);
    }

    list_is : insert r (find t (blocks (decode h))) ≡ r ∷ []
    unfolding insert
    list_is = rw nothing_found

    settles : change (step_of h) (8 * pages_of h) t (r ∷ []) (decode h) ≡ settled_in h t bs
    unfolding change_by
    settles = rw (no, read, one)

    one-listed : Proper (r ∷ [])
    one-listed = record { rising = rising-one r; fits = more fits nothing; short = omega arith }

    new_last : (b : Bool) → is_some (settled_in h t bs) ≡ b → refusal (put_of Desk h t r).rules ≡ pick {A = Option Refusal} b none (some NoRoom)
    new_last b q =
        let x : is_some (change (step_of h) (8 * pages_of h) t (r ∷ []) (decode h)) ≡ leb (total_after (step_of h) t (r ∷ []) (decode h)) (8 * pages_of h) = exactly (cells (step_of h)) (class_of (step_of h)) (rises (step_of h)) (8 * pages_of h) t (decode h) (sound-valid h s) small (r ∷ []) one-listed in
        last (step_of h) (8 * pages_of h) (limit_of Desk) (full_of Desk) t r (decode h) (nothing-held (key r)) (omega (arith, nothing-listed, limit_some Desk)) (rw (no, free) refl) (rw (no, lt-leb 256 (length (blocks (decode h))) fewer) refl) b
        (ap (λ (l : List Record). leb (total_after (step_of h) t l (decode h)) (8 * pages_of h)) list_is ∙ sym x ∙ ap is_some settles ∙ q)

    pub new_done : (x : List ℕ) → is_some (settled_in h t bs) ≡ true → x ≡ settled (step_of h) (pages_of h) h (settled_in h t bs) → Ends h (put_in Desk h t r) (Ok 1) x
    unfolding put_by
    new_done x i y =
        let d = makes h t (put_of Desk h t r) 1 (r ∷ []) (new_last true i) list_is refl in
        (d.0, y ∙ ap (settled (step_of h) (pages_of h) h) (sym settles) ∙ d.1)

    pub new_no_room : (x : List ℕ) → is_some (settled_in h t bs) ≡ false → x ≡ settled (step_of h) (pages_of h) h (settled_in h t bs) → Ends h (put_in Desk h t r) (Err NoRoom) x
    new_no_room x i y =
        let d = refuses h t (put_of Desk h t r) NoRoom (new_last false i) in
        (d.0, y ∙ settled-none (step_of h) (pages_of h) h (settled_in h t bs) i ∙ d.1)
