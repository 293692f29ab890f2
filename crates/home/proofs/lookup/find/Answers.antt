use mathlib.Core.Path.{sym, ◌∙◌}
use native.Mathlib.Omega.{arith}
use Rattle.home.specs.LookupLoopLaws.{find_end, find_at, find_absent}
use Rattle.home.proofs.lookup.find.Goals as goal

pub returns-then-i-get16 : goal.returns-then-i-get16
returns-then-i-get16 c =
    let a = c.args in
    find_end a.home.now a.tag c.index_of-i.result (sym c.index_of-i.ensures.0) (omega arith)

pub returns-then-get32-tag : goal.returns-then-get32-tag
returns-then-get32-tag c =
    let a = c.args in
    let i = c.index_of-i in
    find_at a.home.now a.tag i.result (sym i.ensures.0) (omega arith) (sym c.get32.ensures ∙ c.if-get32-tag.true)

pub returns-else-get32-tag : goal.returns-else-get32-tag
returns-else-get32-tag c =
    let a = c.args in
    let i = c.index_of-i in
    find_absent a.home.now a.tag c.requires i.result (sym i.ensures.0) (omega arith) (λ e. c.if-get32-tag.false (c.get32.ensures ∙ e))
