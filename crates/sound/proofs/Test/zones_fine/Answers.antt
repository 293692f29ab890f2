use mathlib.Core.Path.{◌≡◌, refl, sym, ap, ap₂, ◌∙◌}
use mathlib.Core.Bool.{true, ◌&&◌}
use native.Mathlib.Omega.{arith}
use Prim.Native.Nat.{ℕ, ◌+◌, ◌≤◌}
use lib.Dec.{eqb}
use mathlib.Core.List.{List}
use Rattle.home.specs.Bytes.{many_at, end_at}
use Rattle.home.specs.EndLaws.{end_none, end_full, zone-fits}
use Rattle.sound.specs.Checks.{zone_fine, many_in}
use Rattle.sound.specs.CheckLoopLaws.{zone-zero, zone-some, end_inside, zones_turn, zones_stop, zones_end, many_turn, many_end}
use borrow.Author.Rules.{rules}
use Rattle.sound.proofs.Test.zones_fine.Goals as goal
use Rattle.sound.proofs.Test.zones_fine.Goals.{then-get32-ne0+else-not-zone_fine, else-get32-ne0}

pub loop-c-init : goal.loop-c-init
loop-c-init c = (omega arith, omega arith, refl, omega arith)

pub returns-then-not-zone_fine : goal.returns-then-not-zone_fine
returns-then-not-zone_fine c =
    let a = c.args in
    let t = a.self.now in
    let l = c.loop-c in
    ap (λ b. b && eqb (many_in t.home.now 0 30) a.n) (zones_stop _ t.home.now t.area l.c l.e 30 (search rules) (sym c.zone_fine.ensures ∙ c.if-not-zone_fine.true) ∙ l.invariant.2)

pub overflow_mul-e : goal.overflow_mul-e
overflow_mul-e c = omega (arith, zone-fits c.zone_count-blocks.result c.cells.result (search rules) (search rules))

pub overflow_add-e : goal.overflow_add-e
overflow_add-e c = omega (arith, zone-fits c.zone_count-blocks.result c.cells.result (search rules) (search rules))

-- the zone is fine, and the blocks counted and the end afterwards, of an entry of zeros and of another
abbrev Passed : (step : ℕ) (h : List ℕ) (area c many e many' e' : ℕ) → Type 0
Passed step h area c many e many' e' = (zone_fine step h area c e ≡ true) × (many' ≡ many + many_at h c) × (e' ≡ end_at step h c e) × (many' ≤ many + 65536)

pub loop-c-preserved : goal.loop-c-preserved
loop-c-preserved c =
    let a = c.args in
    let t = a.self.now in
    let l = c.loop-c in
    let g = c.get32 in
    let u : Passed t.step t.home.now t.area l.c l.many l.e c.if-get32-ne0.many c.if-get32-ne0.e = elim c.if-get32-ne0.branch [
      | then-get32-ne0+else-not-zone_fine w ↦
          let f = sym w.zone_fine.ensures ∙ w.if-not-zone_fine.false in
          let m = zone-some _ t.home.now t.area l.c l.e (λ z. w.if-get32-ne0.true (g.ensures ∙ z)) f in
          (f, w.many-is ∙ omega (arith, w.zone_count-blocks.ensures), w.e-is ∙ end_full _ _ _ _ _ _ _ w.zone_first.ensures.0 w.zone_count-blocks.ensures.0 w.cells.ensures.0 (λ z. m (sym w.zone_count-blocks.ensures.0 ∙ z)), omega (arith, w.many-is, w.zone_count-blocks.ensures.1))
      | else-get32-ne0 w ↦
          let z = zone-zero _ t.home.now t.area l.c l.e (sym g.ensures ∙ w.if-get32-ne0.false) in
          (z.1, w.many-is ∙ omega (arith, z.0), w.e-is ∙ sym (end_none _ _ _ _ z.0), omega (arith, w.many-is))
    ] in (
      rw u.2 (end_inside _ t.home.now t.area l.c l.e l.invariant.0 u.0),
      omega (arith, u.3),
      rw u.2 (zones_turn _ t.home.now t.area l.c l.e 30 (search rules) u.0 ∙ l.invariant.2),
      omega (arith, u.1, many_turn t.home.now l.c 30 (search rules)),
    )

pub returns : goal.returns
returns c =
    let a = c.args in
    let t = a.self.now in
    let l = c.loop-c in
    ap₂ (λ x y. x && eqb y a.n)
    (c.zeros.ensures ∙ zones_end _ t.home.now t.area l.c l.e 30 (search rules) l.invariant.0 ∙ l.invariant.2)
    (omega (arith, many_end t.home.now l.c 30 (search rules)))
