use Rattle.std.proofs.Common.{◌≡◌, ◌/◌, ◌<◌, ℕ, List, length, get_or, arith}
use Rattle.layout.specs.Capacities.{class_of}
use Rattle.home.specs.Bytes.{step_of}
use Rattle.home.specs.SoundLaws.{sound_long}
use Rattle.moves.specs.LooseLaws.{sound-stored}
use Rattle.zones.specs.Place.{Placeable}
use Rattle.zones.specs.PlaceLaws.{Fitting, fitting_under}
use Rattle.zones.specs.AfreshCode.{laying_none, laying_layable, laying_puts, laying_done}
use Rattle.zones.proofs.afresh.lay_afresh.Goals as goal

-- what is known once the class is
fitting : {step t k : ℕ} {h l : List ℕ} → step ≡ step_of h → Placeable h t l → t < 4294967296 → ((i : ℕ) → get_or l i 0 < 256) → k ≡ class_of step (length l / 8) → Fitting step h t l k
fitting s p t b k = record { code = s; able = p; tag = t; bytes = b; class = k }

pub step_of-step-requires : goal.step_of-step-requires
step_of-step-requires c = omega (arith, sound_long _ c.requires.sound)

pub cells-k-requires : goal.cells-k-requires
cells-k-requires c = fitting_under _ _ _ _ _ (fitting c.step_of-step.ensures c.requires (omega arith) (λ i. omega (arith, c.type_inv.list i)) c.class_of-c.ensures)

pub overflow_sub-area : goal.overflow_sub-area
overflow_sub-area c = omega (arith, sound_long _ c.requires.sound)

pub total-requires : goal.total-requires
total-requires c = rw c.step_of-step.ensures (sound-stored _ c.requires.sound)

pub returns-then-area-total : goal.returns-then-area-total
returns-then-area-total c = laying_none _ _ _ _ _ _ (fitting c.step_of-step.ensures c.requires (omega arith) (λ i. omega (arith, c.type_inv.list i)) c.class_of-c.ensures) c.cells-k.ensures.0 (omega (arith, c.total.ensures.0, sound_long _ c.requires.sound))

pub overflow_add-c : goal.overflow_add-c
overflow_add-c c = omega (arith, fitting_under _ _ _ _ _ (fitting c.step_of-step.ensures c.requires (omega arith) (λ i. omega (arith, c.type_inv.list i)) c.class_of-c.ensures))

pub lay_below-p-requires : goal.lay_below-p-requires
lay_below-p-requires c = (rw c.step_of-step.ensures (sound-stored _ c.requires.sound), omega (arith, fitting_under _ _ _ _ _ (fitting c.step_of-step.ensures c.requires (omega arith) (λ i. omega (arith, c.type_inv.list i)) c.class_of-c.ensures)))

pub overflow_add-c-2 : goal.overflow_add-c-2
overflow_add-c-2 c = omega (arith, fitting_under _ _ _ _ _ (fitting c.step_of-step.ensures c.requires (omega arith) (λ i. omega (arith, c.type_inv.list i)) c.class_of-c.ensures))

pub lay_from-requires : goal.lay_from-requires
lay_from-requires c = laying_layable _ _ _ _ _ _ (fitting c.step_of-step.ensures c.requires (omega arith) (λ i. omega (arith, c.type_inv.list i)) c.class_of-c.ensures) c.cells-k.ensures.0 (omega (arith, c.if-area-total.false, c.total.ensures.0, sound_long _ c.requires.sound)) _ _ c.lay_below-p.ensures.value.0 c.lay_below-p.ensures.home_after

pub put_block-requires : goal.put_block-requires
put_block-requires c = (laying_puts _ _ _ _ _ _ (fitting c.step_of-step.ensures c.requires (omega arith) (λ i. omega (arith, c.type_inv.list i)) c.class_of-c.ensures) c.cells-k.ensures.0 (omega (arith, c.if-area-total.false, c.total.ensures.0, sound_long _ c.requires.sound)) _ _ c.lay_below-p.ensures.value.0 c.lay_below-p.ensures.home_after _ c.lay_from.ensures).room

pub returns : goal.returns
returns c = laying_done _ _ _ _ _ _ (fitting c.step_of-step.ensures c.requires (omega arith) (λ i. omega (arith, c.type_inv.list i)) c.class_of-c.ensures) c.cells-k.ensures.0 (omega (arith, c.if-area-total.false, c.total.ensures.0, sound_long _ c.requires.sound)) _ _ c.lay_below-p.ensures.value.0 c.lay_below-p.ensures.home_after _ c.lay_from.ensures _ c.put_block.ensures
