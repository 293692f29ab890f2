-- A tag's list in a sound home: where its block lies, and what it holds.
use Rattle.std.specs.Prelude.{◌≡◌, true, List, ℕ, ◌+◌, ◌-◌, ◌*◌, ◌≤◌, ◌<◌, length, take, drop}
use Rattle.std.proofs.Common.{sym, ap, ◌∙◌, arith}
use Rattle.std.proofs.Math.Path.{subst}
use Rattle.records.specs.declared.Record.{Record}
use Rattle.records.specs.Records.{records, rising, decode as records_in}
use Rattle.records.specs.Edits.{decode-part}
use Rattle.wire.specs.BytesLaws.{part_of}
use Rattle.layout.specs.Capacities.{class_of}
use Rattle.layout.specs.CapacitiesLaws.{cells_most}
use Rattle.layout.specs.Zones.{Zone, blocks, has_tag, find}
use Rattle.home.specs.Bytes.{step_of, decode, list_at}
use Rattle.home.specs.TagBlockLaws.{Entered, block_entered}
use Rattle.home.specs.Sound.{pages_of, list_of}
use Rattle.zones.specs.Known.{Known}
use Rattle.zones.specs.KnownLaws.{find_there}
use Rattle.zones.specs.BlockLaws.{Lying, known_lying, slot_has, slot_known}
use Rattle.lists.specs.ListsLaws.{block_list}
use Rattle.lists.specs.Listed.{Listed}

-- the list of a tag's block is what is found
known_list : (step R : ℕ) (h : List ℕ) (zs : List Zone) (t c p : ℕ) (k : Known step R h zs t c p) → k.found.block.list ≡ find t (blocks zs)
known_list step R h zs t c p k = sym (ap (λ (l : List Zone). find t (blocks l)) k.found.is
    ∙ find_there t k.found.block k.found.tag k.found.behind k.found.first k.found.before k.found.none_before k.found.lower k.found.higher k.found.none_lower)

module _ (h : List ℕ) (t p n : ℕ) (l : Listed h t p n) where
  abbrev list : List Record
  list = list_of h t

  entered : Entered h t p n
  entered = block_entered h t p n l.block

  pub listed_has : has_tag t (blocks (decode h)) ≡ true
  listed_has = slot_has h l.sound t entered.entry entered.slot

  pub listed_known : Known (step_of h) (pages_of h) h (decode h) t (class_of (step_of h) n) p
  listed_known = rw (entered.count, entered.cell) (slot_known h l.sound t entered.entry entered.slot)

  pub listed_lying : Lying (step_of h) h (class_of (step_of h) n) p (record { tag = t; list = list })
  unfolding list_of
  listed_lying =
      let k : Known (step_of h) (pages_of h) h (decode h) t (class_of (step_of h) n) p = listed_known in
      let e : k.found.block.list ≡ list = known_list (step_of h) (pages_of h) h (decode h) t (class_of (step_of h) n) p k in
      let same : k.found.block ≡ record { tag = t; list = list } = λ i. record { tag = k.found.tag i; list = e i } in
      subst (Lying (step_of h) h (class_of (step_of h) n) p) same (known_lying (step_of h) (pages_of h) h (decode h) t (class_of (step_of h) n) p k)

  pub listed-many : n ≡ length list
  listed-many = entered.count ∙ listed_lying.count

  -- it has a record, and at most 989
  pub listed-some : 0 < n
  listed-some = omega (arith, listed-many, listed_lying.sits.some)

  pub listed_most : n ≤ 989
  listed_most = omega (arith, listed-many, listed_lying.sits.room, cells_most (step_of h) (class_of (step_of h) n))

  pub listed_inside : list_at p + 8 * n ≤ length h
  listed_inside = omega (arith, listed-many, listed_lying.sits.room, listed_lying.inside)

  pub listed-records : records h (list_at p) n ≡ list
  listed-records = ap (records h (list_at p)) listed-many ∙ block_list (step_of h) h p (class_of (step_of h) n) (record { tag = t; list = list }) listed_lying.sits listed_lying.bytes listed_lying.inside

-- the records of a part of home
pub part-records : (h : List ℕ) (at n : ℕ) → at + 8 * n ≤ length h → records_in (take (at + 8 * n - at) (drop at h)) ≡ records h at n
part-records h at n g = ap records_in (part_of h at (8 * n)) ∙ decode-part h at n g

pub listed-rising : (h : List ℕ) (t p n : ℕ) → Listed h t p n → rising (records h (list_at p) n) ≡ true
listed-rising h t p n l = rw (listed-records h t p n l) (listed_lying h t p n l).sits.rising
