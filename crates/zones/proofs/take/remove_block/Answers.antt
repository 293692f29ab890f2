use native.Mathlib.Omega.{arith}
use mathlib.Core.Path.{◌≡◌, ap}
use Prim.Native.Nat.{ℕ, ◌-◌}
use lib.ListN.{length}
use Rattle.zones.specs.OutLaws.{known_class, known_long, known_zone, known_out, first_is}
use borrow.Author.Rules.{rules}
use Rattle.zones.proofs.take.remove_block.Goals as goal

pub zone_first-f-requires : goal.zone_first-f-requires
zone_first-f-requires c = (known_class _ _ _ _ _ _ _ c.requires, omega (arith, known_long _ _ _ _ _ _ _ c.requires))

pub zone_count-n-requires : goal.zone_count-n-requires
zone_count-n-requires c = (known_class _ _ _ _ _ _ _ c.requires, omega (arith, known_long _ _ _ _ _ _ _ c.requires))

pub overflow_sub-n : goal.overflow_sub-n
overflow_sub-n c = omega (arith, c.zone_count-n.ensures.0, (known_zone _ _ _ _ _ _ _ c.requires).1)

pub remove_entry-requires : goal.remove_entry-requires
remove_entry-requires c = let o = known_out _ _ _ _ _ _ _ c.requires c.zone_first-f.result (c.zone_count-n.result - 1) c.zone_first-f.ensures.0 (ap (λ (m : ℕ). m - 1) c.zone_count-n.ensures.0) in (o.ordered, o.found)

pub fill_place-requires-clause-c_bound : goal.fill_place-requires-clause-c_bound
fill_place-requires-clause-c_bound c =
    let o = known_out _ _ _ _ _ _ _ c.requires c.zone_first-f.result (c.zone_count-n.result - 1) c.zone_first-f.ensures.0 (ap (λ (m : ℕ). m - 1) c.zone_count-n.ensures.0) in
    let l : length c.remove_entry.new.home ≡ length c.args.home.now = search rules in
    rw c.cells.ensures.0 (known_class _ _ _ _ _ _ _ c.requires, omega (arith, l, o.place), omega (arith, l, o.last))

pub fill_place-requires-clause-movable : goal.fill_place-requires-clause-movable
fill_place-requires-clause-movable c =
    let o = known_out _ _ _ _ _ _ _ c.requires c.zone_first-f.result (c.zone_count-n.result - 1) c.zone_first-f.ensures.0 (ap (λ (m : ℕ). m - 1) c.zone_count-n.ensures.0) in
    rw (c.cells.ensures.0, c.remove_entry.ensures) o.moves

pub set_zone-requires : goal.set_zone-requires
set_zone-requires c = (omega (arith, known_long _ _ _ _ _ _ _ c.requires), known_class _ _ _ _ _ _ _ c.requires)

pub returns : goal.returns
returns c =
    let o = known_out _ _ _ _ _ _ _ c.requires c.zone_first-f.result (c.zone_count-n.result - 1) c.zone_first-f.ensures.0 (ap (λ (m : ℕ). m - 1) c.zone_count-n.ensures.0) in
    rw (c.set_zone.ensures, c.first_with.ensures, first_is, c.fill_place.ensures, c.cells.ensures.0, c.remove_entry.ensures) o.bytes
