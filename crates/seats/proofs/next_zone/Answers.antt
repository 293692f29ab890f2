use Rattle.std.proofs.Common.{◌≡◌, ◌≢◌, arith, rules, tests}
use Rattle.std.proofs.lemmas.Iterator.{first_from_Range}
use Rattle.home.specs.Bytes.{many_at}
use Rattle.seats.specs.SeatLaws.{next_found}
use Rattle.seats.proofs.next_zone.Goals as goal

pub returns : goal.returns
returns c =
    next_found c.args.home.now c.args.c (omega arith) _
    (first_from_Range _ _ _ c.find.result (λ d. many_at c.args.home.now d ≢ 0) (λ d. many_at c.args.home.now d ≡ 0) c.find.ensures.ran (λ x q k. search (rules, tests)) (λ x q k. search (rules, tests)))
