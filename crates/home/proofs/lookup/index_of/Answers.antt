use native.Mathlib.Omega.{arith}
use Prim.Native.Nat.{◌+◌, ◌-◌, ◌/◌}
use Rattle.home.specs.LookupLoopLaws.{find_most, find-up, find-down}
use Rattle.home.proofs.lookup.index_of.Goals as goal

pub loop-low-init : goal.loop-low-init
loop-low-init c = (omega arith, rw c.get16-high.ensures.value (find_most c.args.home.now c.args.tag), omega arith)

pub loop-low-preserved-then-get32-tag : goal.loop-low-preserved-then-get32-tag
loop-low-preserved-then-get32-tag c =
    let a = c.args in
    let l = c.loop-low in
    let g = find-up a.home.now a.tag c.requires (l.low + (l.high - l.low) / 2) (omega arith) (omega arith) in
    (omega arith, omega arith, omega arith)

pub loop-low-preserved : goal.loop-low-preserved
loop-low-preserved c =
    let a = c.args in
    let l = c.loop-low in
    let g = find-down a.home.now a.tag (l.low + (l.high - l.low) / 2) (omega arith) (omega arith) in
    (omega arith, omega arith, omega arith)

pub returns : goal.returns
returns c = (omega arith, omega arith)
