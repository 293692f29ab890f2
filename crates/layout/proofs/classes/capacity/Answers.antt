use Rattle.std.proofs.Common.{◌≡◌, ℕ, zero, suc, ◌++◌, refl, sym, ap, ◌∙◌, arith}
use Rattle.std.specs.Prelude.{replicate}
use Rattle.layout.specs.Capacities.{capacity, capacities}
use Rattle.layout.specs.CapacitiesLaws.{capacity_most}
use Rattle.layout.specs.Table.{table_at}
use Rattle.layout.proofs.classes.capacity.Goals as goal
use Rattle.layout.proofs.classes.capacity.Goals.{then-step-eq0, else-step-eq0}

-- codes above 0 have one row of capacities
coarse : (step c : ℕ) → (step ≡ 0 → ⊥) → capacity 1 c ≡ capacity step c
unfolding capacity
coarse zero c n = absurd (n refl)
coarse (suc k) c n = refl

-- each number of the two rows is its class's capacity
pub returns : goal.returns
unfolding capacity capacities
returns c =
    let a = c.args in
    let e : c.from.result ≡ capacity a.step a.c = elim c.if-step-eq0.branch [
      | then-step-eq0 w ↦ c.from.ensures ∙ w.from-is ∙ table_at (capacity 0) (capacities 0) refl a.c c.requires ∙ ap (λ k. capacity k a.c) (sym w.if-step-eq0.true)
      | else-step-eq0 w ↦ c.from.ensures ∙ w.from-is ∙ table_at (capacity 1) (capacities 1 ++ replicate 16 989) refl a.c c.requires ∙ coarse a.step a.c w.if-step-eq0.false
    ] in
    (e, omega (arith, capacity_most a.step a.c))
