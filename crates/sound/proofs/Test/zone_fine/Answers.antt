use Rattle.std.proofs.Common.{refl, sym, ◌∙◌, rules}
use Rattle.layout.specs.Capacities.{cells}
use Rattle.sound.specs.CheckLoopLaws.{zone_empty, zone_astray, zone-lies, zone_gap, zone-rest}
use Rattle.sound.proofs.Test.zone_fine.Goals as goal
use Rattle.sound.proofs.Test.zone_fine.Goals.{then-lies, else-lies}

pub returns-then-many-eq0 : goal.returns-then-many-eq0
returns-then-many-eq0 c =
    let a = c.args in
    let t = a.self.now in
    let f = c.zone_first-first in
    let m = c.zone_count-many in
    zone_empty _ t.home.now t.area a.c a.e f.result m.result (cells _ a.c) f.ensures.0 m.ensures.0 refl (search rules)

pub returns-then-zeros : goal.returns-then-zeros
returns-then-zeros c =
    let a = c.args in
    let t = a.self.now in
    let f = c.zone_first-first in
    let m = c.zone_count-many in
    let s = c.cells in
    elim c.if-lies.branch [
      | then-lies w ↦
          let g = zone-lies t.area a.e s.result f.result m.result (sym c.lies.ensures ∙ w.if-lies.true) in
          c.blocks_fine.ensures
          ∙ zone-rest _ t.home.now t.area a.c a.e f.result m.result s.result f.ensures.0 m.ensures.0 s.ensures.0 c.if-many-eq0.false g.0 g.1 g.2 (sym w.zeros.ensures ∙ sym w.value-is ∙ c.if-zeros.true)
      | else-lies w ↦ cc
    ]

pub returns-else-zeros : goal.returns-else-zeros
returns-else-zeros c =
    let a = c.args in
    let t = a.self.now in
    let f = c.zone_first-first in
    let m = c.zone_count-many in
    let s = c.cells in
    elim c.if-lies.branch [
      | then-lies w ↦
          let g = zone-lies t.area a.e s.result f.result m.result (sym c.lies.ensures ∙ w.if-lies.true) in
          c.if-zeros.false
          ∙ zone_gap _ t.home.now t.area a.c a.e f.result m.result s.result f.ensures.0 m.ensures.0 s.ensures.0 c.if-many-eq0.false g.0 g.1 g.2 (sym w.zeros.ensures ∙ sym w.value-is ∙ c.if-zeros.false)
      | else-lies w ↦
          c.if-zeros.false
          ∙ zone_astray _ t.home.now t.area a.c a.e f.result m.result s.result f.ensures.0 m.ensures.0 s.ensures.0 c.if-many-eq0.false (sym c.lies.ensures ∙ w.if-lies.false)
    ]
