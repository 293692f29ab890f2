use mathlib.Core.Path.{sym, ◌∙◌}
use native.Mathlib.Omega.{arith}
use Rattle.layout.specs.CapacitiesLaws.{cells_is, cells_pos, cells_most}
use Rattle.sound.specs.CheckLoopLaws.{block_few, block_much, block_head, block_order, block_rest}
use borrow.Author.Rules.{rules}
use Rattle.sound.proofs.Test.block_fine.Goals as goal

pub get16-n-requires : goal.get16-n-requires
get16-n-requires c = omega (arith, cells_pos c.args.self.now.step c.args.c)

pub returns-then-n-low : goal.returns-then-n-low
returns-then-n-low c =
    let a = c.args in
    let t = a.self.now in
    let n = c.get16-n in
    block_few _ t.home.now a.c a.p n.result n.ensures.value a.low a.room c.requires.1 c.requires.2 (search rules)

pub returns-then-room-n : goal.returns-then-room-n
returns-then-room-n c =
    let a = c.args in
    let t = a.self.now in
    let n = c.get16-n in
    block_much _ t.home.now a.c a.p n.result n.ensures.value a.low a.room c.requires.1 c.requires.2 (search rules)

pub get16-requires : goal.get16-requires
get16-requires c = omega (arith, cells_pos c.args.self.now.step c.args.c)

pub returns-then-get16-ne0 : goal.returns-then-get16-ne0
returns-then-get16-ne0 c =
    let a = c.args in
    let t = a.self.now in
    let n = c.get16-n in
    let k = c.get16 in
    block_head _ t.home.now a.c a.p n.result n.ensures.value a.low a.room c.requires.1 c.requires.2 (search rules) (search rules) k.result k.ensures.value c.if-get16-ne0.true

pub rising-requires : goal.rising-requires
rising-requires c = omega (arith, cells_is c.args.self.now.step c.args.c)

pub returns-then-not-rising : goal.returns-then-not-rising
returns-then-not-rising c =
    let a = c.args in
    let t = a.self.now in
    let n = c.get16-n in
    let k = c.get16 in
    block_order _ t.home.now a.c a.p n.result n.ensures.value a.low a.room c.requires.1 c.requires.2 (search rules) (search rules) k.result k.ensures.value c.if-get16-ne0.false (sym c.rising.ensures ∙ c.if-not-rising.true)

pub overflow_mul-room : goal.overflow_mul-room
overflow_mul-room c = omega (arith, cells_is c.args.self.now.step c.args.c, cells_most c.args.self.now.step c.args.c)

pub zeros-requires : goal.zeros-requires
zeros-requires c = omega (arith, cells_is c.args.self.now.step c.args.c)

pub returns : goal.returns
returns c =
    let a = c.args in
    let t = a.self.now in
    let n = c.get16-n in
    let k = c.get16 in
    c.zeros.ensures ∙ block_rest _ t.home.now a.c a.p n.result n.ensures.value a.low a.room c.requires.1 c.requires.2 (search rules) (search rules) k.result k.ensures.value c.if-get16-ne0.false (sym c.rising.ensures ∙ c.if-not-rising.false)
