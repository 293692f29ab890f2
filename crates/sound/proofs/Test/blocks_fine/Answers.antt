use Rattle.std.proofs.Common.{◌+◌, ◌*◌, ◌-◌, ◌≡◌, sym, ◌∙◌, arith}
use Rattle.layout.specs.Capacities.{cells}
use Rattle.sound.specs.CheckLoopLaws.{blocks_turn, blocks_stop, blocks_end}
use Rattle.sound.proofs.Test.blocks_fine.Goals as goal

pub returns-then-not-block_fine : goal.returns-then-not-block_fine
returns-then-not-block_fine c =
    let a = c.args in
    let t = a.self.now in
    let l = c.loop-i in
    blocks_stop _ t.home.now a.c (a.p + l.i * c.cells-size.result) (a.n - l.i) (omega arith) (sym c.block_fine.ensures ∙ c.if-not-block_fine.true) ∙ l.invariant

pub loop-i-preserved : goal.loop-i-preserved
loop-i-preserved c =
    let a = c.args in
    let t = a.self.now in
    let l = c.loop-i in
    let s = c.cells-size.result in
    let at : a.p + (l.i + 1) * s ≡ a.p + l.i * s + cells t.step a.c = omega (arith, c.cells-size.ensures.0) in
    let left : a.n - (l.i + 1) ≡ a.n - l.i - 1 = omega arith in
    rw (at, left) (blocks_turn _ t.home.now a.c (a.p + l.i * s) (a.n - l.i) (omega arith) (sym c.block_fine.ensures ∙ c.if-not-block_fine.false) ∙ l.invariant)

pub returns : goal.returns
returns c =
    let a = c.args in
    let l = c.loop-i in
    blocks_end _ a.self.now.home.now a.c (a.p + l.i * c.cells-size.result) (a.n - l.i) (omega arith) ∙ l.invariant
