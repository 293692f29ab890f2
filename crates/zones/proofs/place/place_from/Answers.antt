use Rattle.std.proofs.Common.{◌≡◌, ◌-◌, ◌/◌, ◌∙◌, ℕ, List, length, arith}
use Rattle.layout.specs.Capacities.{class_of}
use Rattle.home.specs.Bytes.{first_at, many_at}
use Rattle.seats.specs.Seat.{end_from}
use Rattle.zones.specs.Place.{From}
use Rattle.zones.specs.FromLaws.{Placing, from_under, placing_able, placing-none, placing_puts}
use Rattle.zones.proofs.place.place_from.Goals as goal

-- what is known once the zone's entry is read
placing : {step c e k end f n : ℕ} {h l : List ℕ} → From step h c e l → k ≡ class_of step (length l / 8) → end ≡ end_from step (k - c) h c e → f ≡ first_at h k → n ≡ many_at h k
    → Placing step h c e l k end f n
placing a k e f n = record { from = a; class = k; carried = e; first = f; many = n }

pub end_from-e-requires : goal.end_from-e-requires
end_from-e-requires c = let u = from_under _ _ _ _ _ c.requires _ c.class_of-k.ensures in (u.0, omega (arith, u.1), c.requires.ordered.long)

pub zone_first-f-requires : goal.zone_first-f-requires
zone_first-f-requires c = ((from_under _ _ _ _ _ c.requires _ c.class_of-k.ensures).1, c.requires.ordered.long)

pub zone_count-n-requires : goal.zone_count-n-requires
zone_count-n-requires c = ((from_under _ _ _ _ _ c.requires _ c.class_of-k.ensures).1, c.requires.ordered.long)

pub seat-requires : goal.seat-requires
seat-requires c = placing_able _ _ _ _ _ _ _ _ _ (placing c.requires c.class_of-k.ensures c.end_from-e.ensures c.zone_first-f.ensures.0 c.zone_count-n.ensures.0)

pub returns-in_default : goal.returns-in_default
returns-in_default c =
    let a = placing-none _ _ _ _ _ _ _ _ _ (placing c.requires c.class_of-k.ensures c.end_from-e.ensures c.zone_first-f.ensures.0 c.zone_count-n.ensures.0) c.args.tag _ _ (record { room = c.seat.ensures.value; bytes = c.seat.ensures.home_after }) c.in_default.is in
    record { value = a.0; home_after = a.1 }

pub put_block-requires : goal.put_block-requires
put_block-requires c = (placing_puts _ _ _ _ _ _ _ _ _ (placing c.requires c.class_of-k.ensures c.end_from-e.ensures c.zone_first-f.ensures.0 c.zone_count-n.ensures.0) _ _ _ (record { room = c.seat.ensures.value; bytes = c.seat.ensures.home_after }) _ c.in-Some.is).0

pub returns : goal.returns
returns c =
    let m = placing_puts _ _ _ _ _ _ _ _ _ (placing c.requires c.class_of-k.ensures c.end_from-e.ensures c.zone_first-f.ensures.0 c.zone_count-n.ensures.0) c.args.tag _ _ (record { room = c.seat.ensures.value; bytes = c.seat.ensures.home_after }) _ c.in-Some.is in
    record { value = m.1; home_after = c.put_block.ensures ∙ m.2 }
