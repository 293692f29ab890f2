use mathlib.Core.Path.{◌≡◌}
use Prim.Native.Nat.{◌+◌}
use mathlib.Core.Bool.{◌&&◌}
use Rattle.records.specs.Records.{rising_from, decode, rest}
use Rattle.records.proofs.rising.Given as goal

abbrev pub invariant-loop-cell : goal.invariant-loop-cell
invariant-loop-cell l = l.ok && rising_from (l.last + 1) (rest l.s (l.cell-index + 1)) ≡ rising_from 0 (decode l.s)
