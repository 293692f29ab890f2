use mathlib.Core.Path.{refl}
use native.Mathlib.Omega.{arith}
use Rattle.home.specs.Bytes.{count_at}
use Rattle.layout.specs.CapacitiesLaws.{class_below}
use Rattle.sound.specs.CheckLoopLaws.{leads-beyond, leads_much, leads_early, leads_late, leads_there}
use borrow.Author.Rules.{rules}
use Rattle.sound.proofs.Test.leads_at.Goals as goal

pub returns-then-self-p : goal.returns-then-self-p
returns-then-self-p c =
    let a = c.args in
    let t = a.self.now in
    leads-beyond _ t.home.now t.area a.p (count_at t.home.now a.p) refl (search rules)

pub returns-then-n-ge990 : goal.returns-then-n-ge990
returns-then-n-ge990 c =
    let a = c.args in
    let t = a.self.now in
    let n = c.get16-n in
    leads_much _ t.home.now t.area a.p n.result n.ensures.value (search rules) (search rules)

pub zone_first-first-requires : goal.zone_first-first-requires
zone_first-first-requires c = omega (arith, c.class_of-c.ensures, class_below c.args.self.now.step c.get16-n.result (search rules))

pub zone_count-many-requires : goal.zone_count-many-requires
zone_count-many-requires c = omega (arith, c.class_of-c.ensures, class_below c.args.self.now.step c.get16-n.result (search rules))

pub cells-size-requires : goal.cells-size-requires
cells-size-requires c = omega (arith, c.class_of-c.ensures, class_below c.args.self.now.step c.get16-n.result (search rules))

pub returns-then-p-first : goal.returns-then-p-first
returns-then-p-first c =
    let a = c.args in
    let t = a.self.now in
    let d = c.class_of-c in
    let f = c.zone_first-first in
    let m = c.zone_count-many in
    let n = c.get16-n in
    let s = c.cells-size in
    leads_early _ t.home.now t.area a.p n.result n.ensures.value d.result f.result m.result s.result d.ensures f.ensures.0 m.ensures.0 s.ensures.0 (search rules) (search rules) (search rules)

pub returns-then-first-many : goal.returns-then-first-many
returns-then-first-many c =
    let a = c.args in
    let t = a.self.now in
    let d = c.class_of-c in
    let f = c.zone_first-first in
    let m = c.zone_count-many in
    let n = c.get16-n in
    let s = c.cells-size in
    leads_late _ t.home.now t.area a.p n.result n.ensures.value d.result f.result m.result s.result d.ensures f.ensures.0 m.ensures.0 s.ensures.0 (search rules) (search rules) (search rules) (search rules)

pub returns : goal.returns
returns c =
    let a = c.args in
    let t = a.self.now in
    let d = c.class_of-c in
    let f = c.zone_first-first in
    let m = c.zone_count-many in
    let n = c.get16-n in
    let s = c.cells-size in
    leads_there _ t.home.now t.area a.p n.result n.ensures.value d.result f.result m.result s.result d.ensures f.ensures.0 m.ensures.0 s.ensures.0 (search rules) (search rules) (search rules) (search rules)
