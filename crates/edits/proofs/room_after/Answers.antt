use mathlib.Core.Path.{◌≡◌}
use Prim.Native.Nat.{◌-◌, ◌*◌, ◌/◌}
use native.Mathlib.Omega.{arith}
use lib.ListN.{length}
use Rattle.home.specs.Sound.{pages_of}
use Rattle.moves.specs.LooseLaws.{stored_long}
use Rattle.edits.proofs.room_after.Goals as goal

pub overflow_sub-area : goal.overflow_sub-area
overflow_sub-area c = omega (arith, stored_long _ _ c.requires.0)

pub returns : goal.returns
returns c = let e : (length c.args.home.now - 1664) / 8 ≡ 8 * pages_of c.args.home.now = omega (arith, stored_long _ _ c.requires.0) in rw (c.total.ensures.0, c.cells.ensures.0, c.cells-2.ensures.0, e)
