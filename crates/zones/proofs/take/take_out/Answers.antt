use mathlib.Core.Path.{◌∙◌}
use native.Mathlib.Omega.{arith}
use Rattle.moves.specs.LooseLaws.{stored_long}
use Rattle.zones.specs.OutLaws.{known_class, out_stored, out_open, out_taken}
use Rattle.zones.proofs.take.take_out.Goals as goal

pub end_from-e-requires : goal.end_from-e-requires
end_from-e-requires c = omega (arith, known_class _ _ _ _ _ _ _ c.requires, stored_long _ _ (out_stored _ _ _ _ _ _ _ c.requires _ c.remove_block.ensures))

pub close_up-requires : goal.close_up-requires
close_up-requires c = out_open _ _ _ _ _ _ _ c.requires _ c.remove_block.ensures _ c.end_from-e.ensures

pub returns : goal.returns
returns c = c.close_up.ensures ∙ out_taken _ _ _ _ _ _ _ c.requires _ c.remove_block.ensures _ c.end_from-e.ensures
