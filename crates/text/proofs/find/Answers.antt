use Rattle.std.proofs.Common.{◌-◌, arith, rules, eqb, length, drop, take_all, length-drop}
use borrow.Author.Tests.{tests}
use Rattle.std.proofs.lemmas.Iterator.{YieldsList-from_slice}
use Rattle.std.proofs.lemmas.Iterator.Search.{position_from_yields_List}
use Rattle.text.specs.ReadLaws.{found}
use Rattle.text.proofs.find.Goals as goal

pub returns-in_err-at : goal.returns-in_err-at
returns-in_err-at c =
    let a = c.args in
    let rest = drop a.from a.line.now in
    let all = take_all (length a.line.now - a.from) rest (rw length-drop (omega arith)) in
    let p = position_from_yields_List {all = rest} (λ y. eqb y a.byte) _ _ _ c.position.ensures.ran (YieldsList-from_slice rest cc) (λ x b q k. search (rules, tests)) in
    let f = rw c.in_err-at.was at (found a.byte rest c.position.result p) in
    rw c.from_residual.ensures (omega (arith, f, length-drop a.from a.line.now))

pub returns : goal.returns
returns c =
    let a = c.args in
    let rest = drop a.from a.line.now in
    let all = take_all (length a.line.now - a.from) rest (rw length-drop (omega arith)) in
    let p = position_from_yields_List {all = rest} (λ y. eqb y a.byte) _ _ _ c.position.ensures.ran (YieldsList-from_slice rest cc) (λ x b q k. search (rules, tests)) in
    let f = rw c.in_ok-at.was at (found a.byte rest c.position.result p) in
    (omega (arith, f.0), omega (arith, f.1, length-drop a.from a.line.now))
