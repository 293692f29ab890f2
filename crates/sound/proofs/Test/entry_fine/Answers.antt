use Rattle.std.proofs.Common.{refl, sym, ap, ◌∙◌, eqb, arith}
use borrow.Author.Tests.{leb-true}
use Rattle.home.specs.Bytes.{entry_cell}
use Rattle.sound.specs.CheckLoopLaws.{entry-low, entry_astray, entry-rest, leads_inside}
use Rattle.sound.proofs.Test.entry_fine.Goals as goal
use Rattle.sound.proofs.Test.entry_fine.Goals.{then-low-from, else-low-from}

pub get32-requires : goal.get32-requires
get32-requires c =
    let a = c.args in
    let t = a.self.now in
    let n = c.get16-p in
    elim c.if-low-from.branch [
      | then-low-from w ↦ omega (arith, leads_inside _ t.home.now t.area a.low a.i a.tag n.result c.requires.1 n.ensures.value (sym w.leads_at.ensures ∙ sym w.value-is ∙ c.if-leads_at.true))
      | else-low-from w ↦ absurd (omega (arith, w.if-low-from.false, leb-true a.low c.from.result (sym w.value-is ∙ c.if-leads_at.true)))
    ]

pub returns-then-leads_at : goal.returns-then-leads_at
returns-then-leads_at c =
    let a = c.args in
    let t = a.self.now in
    let n = c.get16-p in
    elim c.if-low-from.branch [
      | then-low-from w ↦
          ap (λ x. eqb x a.tag) c.get32.ensures
          ∙ entry-rest _ t.home.now t.area a.low a.i a.tag n.result c.requires.1 n.ensures.value (omega (arith, w.if-low-from.true, c.from.ensures)) (sym w.leads_at.ensures ∙ sym w.value-is ∙ c.if-leads_at.true)
      | else-low-from w ↦ absurd (omega (arith, w.if-low-from.false, leb-true a.low c.from.result (sym w.value-is ∙ c.if-leads_at.true)))
    ]

pub returns-else-leads_at : goal.returns-else-leads_at
returns-else-leads_at c =
    let a = c.args in
    let t = a.self.now in
    let n = c.get16-p in
    elim c.if-low-from.branch [
      | then-low-from w ↦
          c.if-leads_at.false
          ∙ entry_astray _ t.home.now t.area a.low a.i a.tag n.result c.requires.1 n.ensures.value (omega (arith, w.if-low-from.true, c.from.ensures)) (sym w.leads_at.ensures ∙ sym w.value-is ∙ c.if-leads_at.false)
      | else-low-from w ↦
          c.if-leads_at.false ∙ entry-low _ t.home.now t.area a.low a.i a.tag (entry_cell t.home.now a.i) c.requires.1 refl (omega (arith, w.if-low-from.false, c.from.ensures))
    ]
