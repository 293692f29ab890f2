use mathlib.Core.Path.{sym, ◌∙◌}
use native.Mathlib.Omega.{arith}
use Rattle.wire.specs.Cases.{both}
use Rattle.home.specs.SoundLaws.{t_sized}
use Rattle.sound.specs.ChecksLaws.{checked_is}
use Rattle.sound.specs.CheckLoopLaws.{checked-count, checked_gap, checked-zones, checked-tags, checked-rest}
use borrow.Author.Rules.{rules}
use Rattle.sound.proofs.tagged.Goals as goal

pub overflow_sub-area : goal.overflow_sub-area
overflow_sub-area c = let l = (t_sized c.args.home.now).says c.requires.0 in omega arith

pub returns-then-n-gt256 : goal.returns-then-n-gt256
returns-then-n-gt256 c =
    let a = c.args in
    checked-count a.step a.home.now a.n c.requires.1 c.requires.2 c.requires.0 (search rules) ∙ checked_is a.home.now (λ i. omega (arith, c.type_inv.home i))

pub coded-requires : goal.coded-requires
coded-requires c = let l = (t_sized c.args.home.now).says c.requires.0 in omega arith

pub returns-then-not-coded : goal.returns-then-not-coded
returns-then-not-coded c =
    let a = c.args in
    checked_gap a.step a.home.now a.n c.requires.1 c.requires.2 c.requires.0 (search rules) (sym c.coded.ensures ∙ c.if-not-coded.true) ∙ checked_is a.home.now (λ i. omega (arith, c.type_inv.home i))

pub invariant_of-test : goal.invariant_of-test
invariant_of-test c = let l = (t_sized c.args.home.now).says c.requires.0 in record { inside = omega arith }

pub returns-then-not-zones_fine : goal.returns-then-not-zones_fine
returns-then-not-zones_fine c =
    let a = c.args in
    checked-zones a.step a.home.now a.n c.requires.1 c.requires.2 c.requires.0 (search rules) (sym c.coded.ensures ∙ c.if-not-coded.false) (sym c.zones_fine.ensures ∙ c.if-not-zones_fine.true)
    ∙ checked_is a.home.now (λ i. omega (arith, c.type_inv.home i))

pub tags_fine-requires : goal.tags_fine-requires
tags_fine-requires c =
    let l = (t_sized c.args.home.now).says c.requires.0 in
    (omega arith, (both _ _ (sym c.zones_fine.ensures ∙ c.if-not-zones_fine.false)).0)

pub returns-then-not-tags_fine : goal.returns-then-not-tags_fine
returns-then-not-tags_fine c =
    let a = c.args in
    checked-tags a.step a.home.now a.n c.requires.1 c.requires.2 c.requires.0 (search rules) (sym c.coded.ensures ∙ c.if-not-coded.false) (sym c.zones_fine.ensures ∙ c.if-not-zones_fine.false) (sym c.tags_fine.ensures ∙ c.if-not-tags_fine.true)
    ∙ checked_is a.home.now (λ i. omega (arith, c.type_inv.home i))

pub zeros-requires : goal.zeros-requires
zeros-requires c = let l = (t_sized c.args.home.now).says c.requires.0 in omega arith

pub returns : goal.returns
returns c =
    let a = c.args in
    c.zeros.ensures
    ∙ checked-rest a.step a.home.now a.n c.requires.1 c.requires.2 c.requires.0 (search rules) (sym c.coded.ensures ∙ c.if-not-coded.false) (sym c.zones_fine.ensures ∙ c.if-not-zones_fine.false) (sym c.tags_fine.ensures ∙ c.if-not-tags_fine.false)
    ∙ checked_is a.home.now (λ i. omega (arith, c.type_inv.home i))
