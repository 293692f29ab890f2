use Rattle.std.proofs.Common.{◌∙◌, arith, rules, sym}
use borrow.Author.Tests.{tests}
use Rattle.std.proofs.lemmas.Fn.{always_returns_same}
use Rattle.text.specs.ReadLaws.{number_at_most}
use Rattle.parse.specs.Grammar.{built, command_of}
use Rattle.parse.specs.ParseLaws.{bad_long, bad, good_command, wrong, not_six, taken_none, taken_more, taken_all, no_more, one_beyond}
use Rattle.parse.proofs.parse.Goals as goal

pub returns-then-line-gt80 : goal.returns-then-line-gt80
returns-then-line-gt80 c = bad_long _ (omega arith)

pub returns-in_err-word : goal.returns-in_err-word
unfolding built
returns-in_err-word c =
    let t1 = taken_more c.next.new.self c.in_ok-next.field-0 c.in_ok-next.ensures.steps (taken_none c.args.line.now c.split-fields.result c.split-fields.ensures.rest c.split-fields.ensures.done (always_returns_same _ _ _ (λ a r q k. search (rules, tests)))) in
    c.from_residual-in_err-word.ensures ∙ bad c.args.line.now (omega arith) (wrong _ (rw (t1.all, ← c.in_err-word.ensures)))

pub returns-in_err-next-2 : goal.returns-in_err-next-2
unfolding command_of
returns-in_err-next-2 c =
    let t1 = taken_more c.next.new.self c.in_ok-next.field-0 c.in_ok-next.ensures.steps (taken_none c.args.line.now c.split-fields.result c.split-fields.ensures.rest c.split-fields.ensures.done (always_returns_same _ _ _ (λ a r q k. search (rules, tests)))) in
    c.from_residual-in_err-next-2.ensures ∙ bad c.args.line.now (omega arith) (rw (taken_all c.next-2.new.self t1 c.in_err-next-2.ensures.steps))

pub returns-in_err-tag : goal.returns-in_err-tag
unfolding built
returns-in_err-tag c =
    let t1 = taken_more c.next.new.self c.in_ok-next.field-0 c.in_ok-next.ensures.steps (taken_none c.args.line.now c.split-fields.result c.split-fields.ensures.rest c.split-fields.ensures.done (always_returns_same _ _ _ (λ a r q k. search (rules, tests)))) in
    let t2 = taken_more c.next-2.new.self c.in_ok-next-2.field-0 c.in_ok-next-2.ensures.steps t1 in
    c.from_residual-in_err-tag.ensures ∙ bad c.args.line.now (omega arith) (wrong _ (rw (t2.all, ← c.in_ok-word.ensures, ← c.in_err-tag.ensures)))

pub returns-in_err-next-3 : goal.returns-in_err-next-3
unfolding command_of
returns-in_err-next-3 c =
    let t1 = taken_more c.next.new.self c.in_ok-next.field-0 c.in_ok-next.ensures.steps (taken_none c.args.line.now c.split-fields.result c.split-fields.ensures.rest c.split-fields.ensures.done (always_returns_same _ _ _ (λ a r q k. search (rules, tests)))) in
    let t2 = taken_more c.next-2.new.self c.in_ok-next-2.field-0 c.in_ok-next-2.ensures.steps t1 in
    c.from_residual-in_err-next-3.ensures ∙ bad c.args.line.now (omega arith) (rw (taken_all c.next-3.new.self t2 c.in_err-next-3.ensures.steps))

pub returns-in_err-level : goal.returns-in_err-level
unfolding built
returns-in_err-level c =
    let t1 = taken_more c.next.new.self c.in_ok-next.field-0 c.in_ok-next.ensures.steps (taken_none c.args.line.now c.split-fields.result c.split-fields.ensures.rest c.split-fields.ensures.done (always_returns_same _ _ _ (λ a r q k. search (rules, tests)))) in
    let t2 = taken_more c.next-2.new.self c.in_ok-next-2.field-0 c.in_ok-next-2.ensures.steps t1 in
    let t3 = taken_more c.next-3.new.self c.in_ok-next-3.field-0 c.in_ok-next-3.ensures.steps t2 in
    c.from_residual-in_err-level.ensures ∙ bad c.args.line.now (omega arith) (wrong _ (rw (t3.all, ← c.in_ok-word.ensures, ← c.in_ok-tag.ensures, ← c.in_err-level.ensures)))

pub returns-in_err-next-4 : goal.returns-in_err-next-4
unfolding command_of
returns-in_err-next-4 c =
    let t1 = taken_more c.next.new.self c.in_ok-next.field-0 c.in_ok-next.ensures.steps (taken_none c.args.line.now c.split-fields.result c.split-fields.ensures.rest c.split-fields.ensures.done (always_returns_same _ _ _ (λ a r q k. search (rules, tests)))) in
    let t2 = taken_more c.next-2.new.self c.in_ok-next-2.field-0 c.in_ok-next-2.ensures.steps t1 in
    let t3 = taken_more c.next-3.new.self c.in_ok-next-3.field-0 c.in_ok-next-3.ensures.steps t2 in
    c.from_residual-in_err-next-4.ensures ∙ bad c.args.line.now (omega arith) (rw (taken_all c.next-4.new.self t3 c.in_err-next-4.ensures.steps))

pub returns-in_err-second : goal.returns-in_err-second
unfolding built
returns-in_err-second c =
    let t1 = taken_more c.next.new.self c.in_ok-next.field-0 c.in_ok-next.ensures.steps (taken_none c.args.line.now c.split-fields.result c.split-fields.ensures.rest c.split-fields.ensures.done (always_returns_same _ _ _ (λ a r q k. search (rules, tests)))) in
    let t2 = taken_more c.next-2.new.self c.in_ok-next-2.field-0 c.in_ok-next-2.ensures.steps t1 in
    let t3 = taken_more c.next-3.new.self c.in_ok-next-3.field-0 c.in_ok-next-3.ensures.steps t2 in
    let t4 = taken_more c.next-4.new.self c.in_ok-next-4.field-0 c.in_ok-next-4.ensures.steps t3 in
    c.from_residual-in_err-second.ensures ∙ bad c.args.line.now (omega arith) (wrong _ (rw (t4.all, ← c.in_ok-word.ensures, ← c.in_ok-tag.ensures, ← c.in_ok-level.ensures, ← c.in_err-second.ensures)))

pub returns-in_err-next-5 : goal.returns-in_err-next-5
unfolding command_of
returns-in_err-next-5 c =
    let t1 = taken_more c.next.new.self c.in_ok-next.field-0 c.in_ok-next.ensures.steps (taken_none c.args.line.now c.split-fields.result c.split-fields.ensures.rest c.split-fields.ensures.done (always_returns_same _ _ _ (λ a r q k. search (rules, tests)))) in
    let t2 = taken_more c.next-2.new.self c.in_ok-next-2.field-0 c.in_ok-next-2.ensures.steps t1 in
    let t3 = taken_more c.next-3.new.self c.in_ok-next-3.field-0 c.in_ok-next-3.ensures.steps t2 in
    let t4 = taken_more c.next-4.new.self c.in_ok-next-4.field-0 c.in_ok-next-4.ensures.steps t3 in
    c.from_residual-in_err-next-5.ensures ∙ bad c.args.line.now (omega arith) (rw (taken_all c.next-5.new.self t4 c.in_err-next-5.ensures.steps))

pub returns-in_err-phone : goal.returns-in_err-phone
unfolding built
returns-in_err-phone c =
    let t1 = taken_more c.next.new.self c.in_ok-next.field-0 c.in_ok-next.ensures.steps (taken_none c.args.line.now c.split-fields.result c.split-fields.ensures.rest c.split-fields.ensures.done (always_returns_same _ _ _ (λ a r q k. search (rules, tests)))) in
    let t2 = taken_more c.next-2.new.self c.in_ok-next-2.field-0 c.in_ok-next-2.ensures.steps t1 in
    let t3 = taken_more c.next-3.new.self c.in_ok-next-3.field-0 c.in_ok-next-3.ensures.steps t2 in
    let t4 = taken_more c.next-4.new.self c.in_ok-next-4.field-0 c.in_ok-next-4.ensures.steps t3 in
    let t5 = taken_more c.next-5.new.self c.in_ok-next-5.field-0 c.in_ok-next-5.ensures.steps t4 in
    c.from_residual-in_err-phone.ensures ∙ bad c.args.line.now (omega arith) (wrong _ (rw (t5.all, ← c.in_ok-word.ensures, ← c.in_ok-tag.ensures, ← c.in_ok-level.ensures, ← c.in_ok-second.ensures, ← c.in_err-phone.ensures)))

pub returns-in_err-next-6 : goal.returns-in_err-next-6
unfolding command_of
returns-in_err-next-6 c =
    let t1 = taken_more c.next.new.self c.in_ok-next.field-0 c.in_ok-next.ensures.steps (taken_none c.args.line.now c.split-fields.result c.split-fields.ensures.rest c.split-fields.ensures.done (always_returns_same _ _ _ (λ a r q k. search (rules, tests)))) in
    let t2 = taken_more c.next-2.new.self c.in_ok-next-2.field-0 c.in_ok-next-2.ensures.steps t1 in
    let t3 = taken_more c.next-3.new.self c.in_ok-next-3.field-0 c.in_ok-next-3.ensures.steps t2 in
    let t4 = taken_more c.next-4.new.self c.in_ok-next-4.field-0 c.in_ok-next-4.ensures.steps t3 in
    let t5 = taken_more c.next-5.new.self c.in_ok-next-5.field-0 c.in_ok-next-5.ensures.steps t4 in
    c.from_residual-in_err-next-6.ensures ∙ bad c.args.line.now (omega arith) (rw (taken_all c.next-6.new.self t5 c.in_err-next-6.ensures.steps))

pub returns-in_err-minutes : goal.returns-in_err-minutes
unfolding built
returns-in_err-minutes c =
    let t1 = taken_more c.next.new.self c.in_ok-next.field-0 c.in_ok-next.ensures.steps (taken_none c.args.line.now c.split-fields.result c.split-fields.ensures.rest c.split-fields.ensures.done (always_returns_same _ _ _ (λ a r q k. search (rules, tests)))) in
    let t2 = taken_more c.next-2.new.self c.in_ok-next-2.field-0 c.in_ok-next-2.ensures.steps t1 in
    let t3 = taken_more c.next-3.new.self c.in_ok-next-3.field-0 c.in_ok-next-3.ensures.steps t2 in
    let t4 = taken_more c.next-4.new.self c.in_ok-next-4.field-0 c.in_ok-next-4.ensures.steps t3 in
    let t5 = taken_more c.next-5.new.self c.in_ok-next-5.field-0 c.in_ok-next-5.ensures.steps t4 in
    let t6 = taken_more c.next-6.new.self c.in_ok-next-6.field-0 c.in_ok-next-6.ensures.steps t5 in
    c.from_residual-in_err-minutes.ensures ∙ bad c.args.line.now (omega arith) (wrong _ (rw (t6.all, ← c.in_ok-word.ensures, ← c.in_ok-tag.ensures, ← c.in_ok-level.ensures, ← c.in_ok-second.ensures, ← c.in_ok-phone.ensures, ← c.in_err-minutes.ensures)))

pub returns-then-is_some : goal.returns-then-is_some
returns-then-is_some c =
    let t1 = taken_more c.next.new.self c.in_ok-next.field-0 c.in_ok-next.ensures.steps (taken_none c.args.line.now c.split-fields.result c.split-fields.ensures.rest c.split-fields.ensures.done (always_returns_same _ _ _ (λ a r q k. search (rules, tests)))) in
    let t2 = taken_more c.next-2.new.self c.in_ok-next-2.field-0 c.in_ok-next-2.ensures.steps t1 in
    let t3 = taken_more c.next-3.new.self c.in_ok-next-3.field-0 c.in_ok-next-3.ensures.steps t2 in
    let t4 = taken_more c.next-4.new.self c.in_ok-next-4.field-0 c.in_ok-next-4.ensures.steps t3 in
    let t5 = taken_more c.next-5.new.self c.in_ok-next-5.field-0 c.in_ok-next-5.ensures.steps t4 in
    let t6 = taken_more c.next-6.new.self c.in_ok-next-6.field-0 c.in_ok-next-6.ensures.steps t5 in
    let m = one_beyond c.next-7.new.self c.next-7.result c.next-7.ensures.steps t6 (sym c.if-is_some.ensures) in
    bad c.args.line.now (omega arith) (not_six _ (λ e. omega arith))

pub returns : goal.returns
unfolding built command_of
returns c =
    let t1 = taken_more c.next.new.self c.in_ok-next.field-0 c.in_ok-next.ensures.steps (taken_none c.args.line.now c.split-fields.result c.split-fields.ensures.rest c.split-fields.ensures.done (always_returns_same _ _ _ (λ a r q k. search (rules, tests)))) in
    let t2 = taken_more c.next-2.new.self c.in_ok-next-2.field-0 c.in_ok-next-2.ensures.steps t1 in
    let t3 = taken_more c.next-3.new.self c.in_ok-next-3.field-0 c.in_ok-next-3.ensures.steps t2 in
    let t4 = taken_more c.next-4.new.self c.in_ok-next-4.field-0 c.in_ok-next-4.ensures.steps t3 in
    let t5 = taken_more c.next-5.new.self c.in_ok-next-5.field-0 c.in_ok-next-5.ensures.steps t4 in
    let t6 = taken_more c.next-6.new.self c.in_ok-next-6.field-0 c.in_ok-next-6.ensures.steps t5 in
    let e = no_more c.next-7.new.self c.next-7.result c.next-7.ensures.steps t6 (sym c.if-is_some.ensures) in
    good_command c.args.line.now _ (omega arith) (rw (e, ← c.in_ok-word.ensures, ← c.in_ok-tag.ensures, ← c.in_ok-level.ensures, ← c.in_ok-second.ensures, ← c.in_ok-phone.ensures, ← c.in_ok-minutes.ensures))

pub overflow_cast-call : goal.overflow_cast-call
overflow_cast-call c = record { fits = omega (arith, rw (← c.in_ok-level.ensures) at (number_at_most 255 c.in_ok-next-3.field-0.now)) }

pub overflow_cast-call-2 : goal.overflow_cast-call-2
overflow_cast-call-2 c = record { fits = omega (arith, rw (← c.in_ok-phone.ensures) at (number_at_most 65535 c.in_ok-next-5.field-0.now)) }

pub overflow_cast-call-3 : goal.overflow_cast-call-3
overflow_cast-call-3 c = record { fits = omega (arith, rw (← c.in_ok-minutes.ensures) at (number_at_most 255 c.in_ok-next-6.field-0.now)) }
