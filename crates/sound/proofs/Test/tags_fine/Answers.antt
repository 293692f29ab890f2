use mathlib.Core.Path.{sym, ◌∙◌}
use Rattle.sound.specs.CheckLoopLaws.{tags_turn, tags_stop, tags_end}
use borrow.Author.Rules.{rules}
use Rattle.sound.proofs.Test.tags_fine.Goals as goal

pub returns-then-not-entry_fine : goal.returns-then-not-entry_fine
returns-then-not-entry_fine c =
    let a = c.args in
    let t = a.self.now in
    let l = c.loop-i in
    tags_stop _ t.home.now t.area l.low l.i a.n c.requires.1 (search rules) (sym c.entry_fine.ensures ∙ c.if-not-entry_fine.true) ∙ l.invariant

pub loop-i-preserved : goal.loop-i-preserved
loop-i-preserved c =
    let a = c.args in
    let t = a.self.now in
    let l = c.loop-i in
    rw (c.from-low.ensures, c.get32-tag.ensures) (tags_turn _ t.home.now t.area l.low l.i a.n c.requires.1 (search rules) (sym c.entry_fine.ensures ∙ c.if-not-entry_fine.false) ∙ l.invariant)

pub returns : goal.returns
returns c = let a = c.args in
    let t = a.self.now in let l = c.loop-i in tags_end _ t.home.now l.low l.i a.n (search rules) ∙ l.invariant
