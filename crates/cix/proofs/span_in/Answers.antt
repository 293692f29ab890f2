use mathlib.Core.Path.{sym}
use native.Mathlib.Omega.{arith}
use Rattle.gates.specs.GatesLaws.{gate_open}
use Rattle.cix.specs.PlacesLaws.{span_room, span_known}
use Rattle.cix.proofs.span_in.Goals as goal

pub records-requires : goal.records-requires
records-requires c = let r = span_room _ c.args.bytes.now c.args.tag (gate_open _ (sym c.in-Ok.ensures)) _ c.home-home.ensures.result_value c.in-Some.block (sym c.in-Some.ensures) in omega (arith, r.0, r.1)

pub span-requires : goal.span-requires
span-requires c = let r = span_room _ c.args.bytes.now c.args.tag (gate_open _ (sym c.in-Ok.ensures)) _ c.home-home.ensures.result_value c.in-Some.block (sym c.in-Some.ensures) in rw c.records.ensures r

pub returns : goal.returns
returns c = span_known _ c.args.bytes.now c.args.tag (gate_open _ (sym c.in-Ok.ensures)) _ c.home-home.ensures.result_value c.in-Some.block _ (sym c.in-Some.ensures) (rw c.records.ensures at c.span.ensures)
