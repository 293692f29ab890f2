use mathlib.Core.Path.{refl, sym, ◌∙◌}
use native.Mathlib.Omega.{arith}
use Rattle.home.specs.LookupLoopLaws.{sound_ordered}
use Rattle.edits.specs.EditsLaws.{inserted_alone, put-building, put-tags, new_placeable, new_done, new_no_room}
use Rattle.edits.proofs.put_new.Goals as goal

pub returns-then-building_full : goal.returns-then-building_full
returns-then-building_full c =
    let r = put-building _ _ c.requires.0 c.requires.1 _ (sym c.building_full.ensures ∙ c.if-building_full.true) in
    record { value = r.0; home_after = r.1 }

pub get16-requires : goal.get16-requires
get16-requires c = omega (arith, (sound_ordered _ c.requires.0).long)

pub returns-then-get16-eq256 : goal.returns-then-get16-eq256
returns-then-get16-eq256 c =
    let r = put-tags _ _ c.requires.0 c.requires.1 _ (sym c.building_full.ensures ∙ c.if-building_full.false) (sym c.get16.ensures.value ∙ c.if-get16-eq256.true) in
    record { value = r.0; home_after = r.1 }

pub settle-requires : goal.settle-requires
settle-requires c =
    let free = sym c.building_full.ensures ∙ c.if-building_full.false in
    new_placeable _ _ c.requires.0 c.requires.1 (omega arith) free (λ q. c.if-get16-eq256.false (c.get16.ensures.value ∙ q)) c.args.r (record { level = omega arith; second = omega arith; phone = omega arith; minutes = omega arith }) _ (c.insert.ensures ∙ inserted_alone _ _ refl)

pub returns-then-settle : goal.returns-then-settle
returns-then-settle c =
    let free = sym c.building_full.ensures ∙ c.if-building_full.false in
    let r = new_done _ _ c.requires.0 c.requires.1 (omega arith) free (λ q. c.if-get16-eq256.false (c.get16.ensures.value ∙ q)) c.args.r (record { level = omega arith; second = omega arith; phone = omega arith; minutes = omega arith }) _ (c.insert.ensures ∙ inserted_alone _ _ refl) _ (sym c.settle.ensures.0 ∙ c.if-settle.true) c.settle.ensures.1 in
    record { value = r.0; home_after = r.1 }

pub returns-else-settle : goal.returns-else-settle
returns-else-settle c =
    let free = sym c.building_full.ensures ∙ c.if-building_full.false in
    let r = new_no_room _ _ c.requires.0 c.requires.1 (omega arith) free (λ q. c.if-get16-eq256.false (c.get16.ensures.value ∙ q)) c.args.r (record { level = omega arith; second = omega arith; phone = omega arith; minutes = omega arith }) _ (c.insert.ensures ∙ inserted_alone _ _ refl) _ (sym c.settle.ensures.0 ∙ c.if-settle.false) c.settle.ensures.1 in
    record { value = r.0; home_after = r.1 }
