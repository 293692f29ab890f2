use Rattle.std.proofs.Common.{◌≡◌, ◌&&◌, drop, eqb}
use Rattle.wire.specs.Bytes.{blank}
use Rattle.wire.proofs.all_zero.Given as goal

abbrev pub invariant-loop-x : goal.invariant-loop-x
invariant-loop-x l = eqb l.seen 0 && blank (drop l.x-index l.s) ≡ blank l.s
