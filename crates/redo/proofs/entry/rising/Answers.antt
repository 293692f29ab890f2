use Rattle.std.proofs.Common.{◌≡◌, sym, ◌∙◌, arith, false, true, ◌&&◌, leb, ltb}
use Rattle.std.proofs.lemmas.Bool.Decides.{nat_tests}
use Rattle.redo.specs.EntryLaws.{rising_turn, rising_end}
use Rattle.redo.proofs.entry.rising.Goals as goal

pub returns-then-not-contains : goal.returns-then-not-contains
returns-then-not-contains c =
    let a = c.args in
    let l = c.loop-j in
    let p = c.get16-p.result in
    let out : leb l.low p && ltb p a.limit ≡ false = grind (arith, nat_tests) in
    sym (l.invariant ∙ rising_turn a.image.now a.limit l.low l.j a.k p (omega arith) c.get16-p.ensures.value ∙ rw out)

pub loop-j-preserved : goal.loop-j-preserved
loop-j-preserved c =
    let a = c.args in
    let l = c.loop-j in
    let p = c.get16-p.result in
    let within : leb l.low p && ltb p a.limit ≡ true = grind (arith, nat_tests) in
    l.invariant ∙ rising_turn a.image.now a.limit l.low l.j a.k p (omega arith) c.get16-p.ensures.value ∙ rw within

pub returns : goal.returns
returns c =
    let a = c.args in
    let l = c.loop-j in
    sym (l.invariant ∙ rising_end a.image.now a.limit l.low l.j a.k (omega arith))
