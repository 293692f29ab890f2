use native.Mathlib.Omega.{arith}
use Rattle.home.specs.Lookup.{slot_block}
use Rattle.home.specs.TagBlockLaws.{entry_inside}
use Rattle.home.proofs.lookup.block_at.Goals as goal

pub overflow_mul-i : goal.overflow_mul-i
overflow_mul-i c = omega (arith, (entry_inside c.args.home.now c.args.i c.requires.0 c.requires.1).0)

pub overflow_add-i : goal.overflow_add-i
overflow_add-i c = omega (arith, (entry_inside c.args.home.now c.args.i c.requires.0 c.requires.1).0)

pub overflow_add-i-2 : goal.overflow_add-i-2
overflow_add-i-2 c = omega (arith, (entry_inside c.args.home.now c.args.i c.requires.0 c.requires.1).0)

pub get16-cell-requires : goal.get16-cell-requires
get16-cell-requires c = let e = entry_inside c.args.home.now c.args.i c.requires.0 c.requires.1 in omega (arith, e.0, e.1)

pub get16-count-requires : goal.get16-count-requires
get16-count-requires c = let p = c.get16-cell.ensures.value in omega (arith, (entry_inside c.args.home.now c.args.i c.requires.0 c.requires.1).2)

pub returns : goal.returns
unfolding slot_block
returns c = rw (c.get16-count.ensures.value, c.get16-cell.ensures.value)
