-- A tag's list that becomes another: in its block, in a block of another class, or in none.
use Rattle.std.specs.Prelude.{◌≡◌, Bool, true, false, ◌≢◌, ℕ, ◌+◌, ◌*◌, ◌/◌, ◌<◌, length}
use Rattle.std.proofs.Math.Path.{refl, sym, ap, subst}
use Rattle.std.proofs.Common.{ap₂, ◌∙◌, arith}
use Rattle.std.proofs.Math.Option.{Option, none, some}
use mathlib.Core.List.{List, [], ◌∷◌, ◌++◌}
use borrow.Author.Tests.{eq-eqb}
use Rattle.wire.specs.Bytes.{pick, over, is_some}
use Rattle.wire.specs.All.{more}
use Rattle.wire.specs.Cases.{never}
use Rattle.records.specs.declared.Record.{Record}
use Rattle.records.specs.Records.{encode as record_bytes, decode as records_in}
use Rattle.records.specs.Edits.{length-encode, decode-encode}
use Rattle.layout.specs.Cases.{Holds}
use Rattle.layout.specs.Capacities.{cells, class_of}
use Rattle.layout.specs.CapacitiesLaws.{cells_pos, rising as rises}
use Rattle.layout.specs.Zones.{Block, Zone, zone, blocks, has_tag, find, take_out, rewritten, settle, change as change_by}
use Rattle.home.specs.Layout.{change, Loose}
use Rattle.layout.specs.FindLaws.{Lacks, has_skip}
use Rattle.layout.specs.PermLaws.{plength}
use Rattle.layout.proofs.TakeLaws.{Taken, TakenOut, take_out_taken, take_out-valid}
use Rattle.layout.proofs.ChangeLaws.{Changed}
use Rattle.layout.proofs.EditsLaws.{changed as holds-changed, free_any}
use Rattle.home.specs.HomeLaws.{all_mem}
use Rattle.home.specs.Bytes.{step_of, encode, decode, block_bytes, cell_at}
use Rattle.home.specs.Sound.{sound, pages_of, list_of}
use Rattle.home.specs.SoundLaws.{sound_code, sound-encode, sound-small, sound-some, sound-valid}
use Rattle.moves.specs.LayoutMoves.{home-list-set}
use Rattle.moves.specs.Stored.{settled}
use Rattle.layout.specs.Afresh.{just_before}
use Rattle.layout.proofs.AfreshLaws.{change_settles}
use Rattle.layout.specs.Valid.{Proper}
use Rattle.home.specs.EncodeLaws.{step_loose, decode_loose, pages_loose, valid_loose}
use Rattle.zones.specs.Known.{Known}
use Rattle.zones.specs.KnownLaws.{rewritten_there}
use Rattle.zones.specs.Place.{Placeable}
use Rattle.zones.specs.Afresh.{settled_in}
use Rattle.lists.specs.Listed.{Listed, Moving, changed}
use Rattle.lists.specs.ListedLaws.{listed_has, listed_known, listed_lying, listed-many}

-- ---- in its block

rewritten_known : (step R : ℕ) (h : List ℕ) (zs : List Zone) (t c p : ℕ) (k : Known step R h zs t c p) (rs : List Record) → Loose step R (rewritten t rs zs)
    → over h (cell_at p) (block_bytes step c (record { tag = t; list = rs })) ≡ encode step R (rewritten t rs zs)
rewritten_known step R h zs t c p k rs v =
    let b : Block = record { tag = t; list = rs } in
    let e : rewritten t rs zs ≡ k.found.lower ++ zone k.found.first (k.found.before ++ b ∷ k.found.behind) ∷ k.found.higher =
    ap (rewritten t rs) k.found.is ∙ rewritten_there t k.found.block k.found.tag k.found.behind k.found.first k.found.before k.found.none_before rs k.found.lower k.found.higher k.found.none_lower in
    let q : k.found.first + length k.found.before * cells step (length k.found.lower) ≡ p = ap (λ (d : ℕ). k.found.first + length k.found.before * cells step d) k.class ∙ k.cell in
    sym (ap (encode step R) e
    ∙ home-list-set step R k.pages k.found.lower k.found.first k.found.before k.found.block b k.found.behind k.found.higher k.found.tag (subst (Loose step R) k.found.is k.loose) (subst (Loose step R) e v)
    ∙ ap₂ (λ (x : List ℕ) (y : ℕ). over x (cell_at y) (block_bytes step (length k.found.lower) b)) (sym (k.bytes ∙ ap (encode step R) k.found.is)) q
    ∙ ap (λ (d : ℕ). over h (cell_at p) (block_bytes step d b)) k.class)

has_none : (t : ℕ) (bs : List Block) → Lacks t bs → has_tag t bs ≡ false
unfolding has_tag
has_none t [] h = refl
has_none t (x ∷ xs) (more n h) = has_skip t x xs n ∙ has_none t xs h

pub list_read : (rs : List Record) → Proper rs → (bs : List ℕ) → bs ≡ record_bytes rs → records_in bs ≡ rs
list_read rs ok bs e = ap records_in e ∙ decode-encode rs (all_mem rs ok.fits)

-- where there is a layout, the old bytes do not matter
settled_any : (step R : ℕ) (h h' : List ℕ) (o : Option (List Zone)) → is_some o ≡ true → settled step R h o ≡ settled step R h' o
unfolding settled
settled_any step R h h' none i = never i
settled_any step R h h' (some zs) i = refl

module _ (h : List ℕ) (t p n : ℕ) (l : Listed h t p n) where
  abbrev R : ℕ
  R = pages_of h

  abbrev zs : List Zone
  zs = decode h

  abbrev step : ℕ
  step = step_of h

  small : t < 4294967296
  small = (listed_lying h t p n l).sits.tag

  same_class : class_of step (length (find t (blocks zs))) ≡ class_of step n
  unfolding list_of
  same_class = ap (class_of step) (sym (listed-many h t p n l))

  keeps_class : (r : Record) (rs : List Record) → class_of step (length (r ∷ rs)) ≡ class_of step n → change step (8 * R) t (r ∷ rs) zs ≡ some (rewritten t (r ∷ rs) zs)
  unfolding change_by
  keeps_class r rs e = rw (listed_has h t p n l, eq-eqb (class_of step (length (find t (blocks zs)))) (class_of step (length (r ∷ rs))) (same_class ∙ sym e))

  pub changed_here : (rs : List Record) → Proper rs → 0 < length rs → class_of step (length rs) ≡ class_of step n → over h (cell_at p) (block_bytes step (class_of step n) (record { tag = t; list = rs })) ≡ changed h t rs
  unfolding settled
  changed_here [] q g e = absurd (omega arith)
  changed_here (r ∷ rs) q g e =
      let k : change step (8 * R) t (r ∷ rs) zs ≡ some (rewritten t (r ∷ rs) zs) = keeps_class r rs e in
      let w : Changed (cells step) (class_of step) t (8 * R) (r ∷ rs) zs (rewritten t (r ∷ rs) zs) = subst (Holds (Changed (cells step) (class_of step) t (8 * R) (r ∷ rs) zs)) k
      (holds-changed (cells step) (class_of step) (rises step) (8 * R) t zs (sound-valid h l.sound) small (r ∷ rs) q (free_any (cells step) (class_of step) (rises step) (8 * R) t zs (sound-valid h l.sound) small (r ∷ rs) (listed_has h t p n l))) in
      rewritten_known step R h zs t (class_of step n) p (listed_known h t p n l) (r ∷ rs) (valid_loose step R (rewritten t (r ∷ rs) zs) w.valid) ∙ sym (ap (settled step R h) k)

  -- ---- in none

  pub changed-none : encode step R (take_out (cells step) t 0 0 zs) ≡ changed h t []
  unfolding settled change_by
  changed-none = refl

  -- ---- in a block of another class

  other_class : (rs : List Record) → 0 < length rs → class_of step (length rs) ≢ class_of step n
      → change step (8 * R) t rs zs ≡ settle (cells step) (8 * R) (class_of step (length rs)) (record { tag = t; list = rs }) (take_out (cells step) t 0 0 zs)
  unfolding just_before
  other_class rs g e =
      change_settles (cells step) (class_of step) (8 * R) t rs zs g (λ i q. e (sym q ∙ same_class))
      ∙ ap (λ (b : Bool). settle (cells step) (8 * R) (class_of step (length rs)) (record { tag = t; list = rs }) (pick b (take_out (cells step) t 0 0 zs) zs)) (listed_has h t p n l)

  module _ (h' : List ℕ) (q : h' ≡ encode step R (take_out (cells step) t 0 0 zs)) where
    abbrev left : List Zone
    left = take_out (cells step) t 0 0 zs

    out : TakenOut (cells step) (class_of step) t (8 * R) zs left
    out = take_out-valid (cells step) (class_of step) (cells_pos step) t (8 * R) zs (sound-valid h l.sound) (listed_has h t p n l)

    pages : pages_of h' ≡ R
    pages = ap pages_of q ∙ pages_loose step R left (valid_loose step R left out.valid)

    code : step_of h' ≡ step
    code = ap step_of q ∙ step_loose step R left (valid_loose step R left out.valid)

    zones : decode h' ≡ left
    zones = ap decode q ∙ decode_loose step R (sound-small h l.sound) left (valid_loose step R left out.valid)

    -- one block fewer
    fewer : length (blocks left) < 256
    fewer =
        let k : Taken (cells step) (class_of step) t (8 * R) 0 0 (blocks zs) left = take_out_taken (cells step) (class_of step) (cells_pos step) t (8 * R) 0 0 zs (sound-valid h l.sound).laid (listed_has h t p n l) in
        omega (arith, plength k.out.same, (sound-valid h l.sound).few)

    module _ (rs : List Record) (ok : Proper rs) (bs : List ℕ) (e : bs ≡ record_bytes rs) where
      many : length bs / 8 ≡ length rs
      many = omega (arith, ap length e, length-encode rs)

      read : records_in bs ≡ rs
      read = list_read rs ok bs e

      moved_placeable : 0 < length rs → Placeable h' t bs
      moved_placeable g = record {
        sound = ap sound q ∙ sound-encode step R left (sound_code h l.sound) (sound-some h l.sound) (sound-small h l.sound) out.valid;
        new = ap (λ (z : List Zone). has_tag t (blocks z)) zones ∙ has_none t (blocks left) out.gone;
        few = rw zones fewer;
        whole = omega (arith, ap length e, length-encode rs);
        some = omega (arith, many);
        most = omega (arith, many, ok.short);
        rising = rw read ok.rising;
      }

      -- where there is room
      moved-changed : (x : List ℕ) → 0 < length rs → class_of step (length rs) ≢ class_of step n → is_some (change step (8 * R) t rs zs) ≡ true → x ≡ settled (step_of h') (pages_of h') h' (settled_in h' t bs) → x ≡ changed h t rs
      moved-changed x g d i y =
          let s : settled_in h' t bs ≡ change step (8 * R) t rs zs = rw (read, many, code, pages, zones) (sym (other_class rs g d)) in
          y ∙ ap (λ (k : ℕ). settled k (pages_of h') h' (settled_in h' t bs)) code ∙ ap₂ (λ (m : ℕ) (o : Option (List Zone)). settled step m h' o) pages s ∙ settled_any step R h' h (change step (8 * R) t rs zs) i

module _ (h : List ℕ) (t p n : ℕ) (bs : List ℕ) (m : Moving h t p n bs) (h' : List ℕ) (q : h' ≡ encode (step_of h) (pages_of h) (take_out (cells (step_of h)) t 0 0 (decode h))) where
  pub moving_placeable : Placeable h' t bs
  moving_placeable = moved_placeable h t p n m.listed h' q m.list m.proper bs m.bytes m.some

  pub moving_changed : (x : List ℕ) → x ≡ settled (step_of h') (pages_of h') h' (settled_in h' t bs) → x ≡ changed h t (records_in bs)
  moving_changed x y =
      moved-changed h t p n m.listed h' q m.list m.proper bs m.bytes x m.some m.class m.room y
      ∙ ap (changed h t) (sym (list_read m.list m.proper bs m.bytes))
