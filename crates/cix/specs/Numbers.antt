-- An answer as one number of 64 bits: the upper half says what it is, 0 done, 1 cut, 2 refused; the lower half has its count, its stores or its refusal.
use Rattle.std.specs.Prelude.{◌≡◌, ℕ, ◌+◌, ◌<◌, leb, length, take, Ok, Err}
use Rattle.std.proofs.Common.{arith, length-take}
use Rattle.wire.specs.Cases.{by_test}
use Rattle.refusals.specs.Rules.{Answer, number_of}
use Rattle.records.specs.declared.Record.{Record}
use Rattle.image_log.specs.declared.Stored.TheVariants.{Done, Cut}
use Rattle.image_log.specs.Calls.{Outcome, Plan, refuse, store, answer}
use Rattle.index.specs.Calls.{Begun}

-- 1 and 2 in the upper half
abbrev pub cut : ℕ → ℕ
cut n = 4294967296 + n

abbrev pub refused : ℕ → ℕ
refused r = 8589934592 + r

unfoldable pub of_answer : Answer → ℕ
of_answer (Ok n) = n
of_answer (Err r) = refused (number_of r)

unfoldable pub of_begun : Begun → ℕ
of_begun (Ok u) = 0
of_begun (Err r) = refused (number_of r)

unfoldable pub of_outcome : Outcome → ℕ
of_outcome (Ok (Done n)) = n
of_outcome (Ok (Cut n)) = cut n
of_outcome (Err r) = refused (number_of r)

-- a record from its four numbers
abbrev pub call : ℕ → ℕ → ℕ → ℕ → Record
call l s p m = record { level = l; second = s; phone = p; minutes = m }

-- the stores that an outcome tells of fit the lower half
unfoldable pub Fits : Outcome → Type 0
Fits (Ok (Done n)) = n < 4294967296
Fits (Ok (Cut n)) = n < 4294967296
Fits (Err r) = 0 < 1

pub fits_cut : (o : Outcome) (n : ℕ) → o ≡ Ok (Cut n) → Fits o → n < 4294967296
unfolding Fits
fits_cut o n e f = rw e at f

-- no call makes more stores than it is allowed
pub answer-fits : (p : Plan) (n : ℕ) → n < 4294967296 → Fits (answer p n)
unfolding answer Fits
answer-fits (refuse r) n b = omega arith
answer-fits (store ss) n b =
    let few : length (take n ss) < 4294967296 = rw (length-take n ss) (omega arith) in
    by_test (leb (length ss) n) (λ e. rw e few) (λ e. rw e few)

-- what a call that stores answers
pub ruleset stores_fit = (answer-fits)
