use Rattle.std.proofs.Common.{◌≡◌, ℕ, ◌+◌, ◌-◌, List, refl, ◌∙◌, arith, rules}
use Rattle.wire.specs.Cases.{by_lt}
use Rattle.layout.specs.Zones.{Zone}
use Rattle.moves.specs.SlideCode.{Sliding, slides_long, going_small, down-start, up_start, down_requires, up_requires, down-next, up_next, down_done, up_done}
use Rattle.moves.proofs.slide.slide_blocks.Goals as goal
use Rattle.moves.proofs.slide.slide_blocks.Goals.{then-to-f, else-to-f}

pub cells-k-requires : goal.cells-k-requires
cells-k-requires c = c.requires.slides.class

-- by any number that is the turn's
at_turn : (step R : ℕ) (zs : List Zone) (h : List ℕ) (c to low high i j n k : ℕ) → i ≡ j → Sliding step R zs h c to low high j n k → Sliding step R zs h c to low high i n k
at_turn step R zs h c to low high i j n k e s = rw e s

pub loop-j-init : goal.loop-j-init
loop-j-init c = record {
  down = λ b. at_turn _ _ _ _ _ _ _ _ _ 0 _ _ (search rules) (down-start _ _ _ _ _ _ _ c.requires c.cells-k.ensures.0 (omega arith));
  up = λ b. at_turn _ _ _ _ _ _ _ _ _ _ _ _ (search rules) (up_start _ _ _ _ _ _ _ c.requires c.cells-k.ensures.0 b);
  long = omega (arith, slides_long _ _ _ _ _ _ c.requires.slides);
}

pub overflow_mul-i : goal.overflow_mul-i
overflow_mul-i c = omega (arith, going_small _ _ _ _ _ _ _ c.requires c.cells-k.ensures.0 c.if-to-f.i (omega arith))

pub overflow_add-f : goal.overflow_add-f
overflow_add-f c = omega (arith, going_small _ _ _ _ _ _ _ c.requires c.cells-k.ensures.0 c.if-to-f.i (omega arith))

pub overflow_mul-i-in-loop-j : goal.overflow_mul-i-in-loop-j
overflow_mul-i-in-loop-j c = omega (arith, going_small _ _ _ _ _ _ _ c.requires c.cells-k.ensures.0 c.if-to-f.i (omega arith))

pub overflow_add-to : goal.overflow_add-to
overflow_add-to c = omega (arith, going_small _ _ _ _ _ _ _ c.requires c.cells-k.ensures.0 c.if-to-f.i (omega arith))

pub move_block-requires : goal.move_block-requires
move_block-requires c =
    let l = c.loop-j in
    elim c.if-to-f.branch [
      | then-to-f w ↦
          let r = down_requires _ _ _ _ _ _ _ _ _ _ _ (l.invariant.down w.if-to-f.true) c.loop-j-test.true in
          rw w.i-is (record { c_bound = r.0; movable = r.1 })
      | else-to-f w ↦
          let r = up_requires _ _ _ _ _ _ _ _ _ _ _ (l.invariant.up w.if-to-f.false) (omega arith) in
          let e : c.if-to-f.i ≡ c.args.n - l.j - 1 = omega (arith, w.i-is) in
          rw e (record { c_bound = r.0; movable = r.1 })
    ]

pub loop-j-preserved : goal.loop-j-preserved
loop-j-preserved c =
    let l = c.loop-j in
    let less : c.args.n - (l.j + 1) ≡ c.args.n - l.j - 1 = omega arith in
    record {
      down = λ b. elim c.if-to-f.branch [
        | then-to-f w ↦ rw (c.move_block.ensures, w.i-is) (down-next _ _ _ _ _ _ _ _ _ _ _ (l.invariant.down b) c.loop-j-test.true)
        | else-to-f w ↦ absurd (omega (arith, w.if-to-f.false))
      ];
      up = λ b. elim c.if-to-f.branch [
        | then-to-f w ↦ absurd (omega (arith, w.if-to-f.true))
        | else-to-f w ↦
            let e : c.if-to-f.i ≡ c.args.n - l.j - 1 = omega (arith, w.i-is) in
            rw (c.move_block.ensures, e, less) (up_next _ _ _ _ _ _ _ _ _ _ _ (l.invariant.up b) (omega arith))
      ];
      long = omega (arith, l.invariant.long);
    }

pub set_zone-requires : goal.set_zone-requires
set_zone-requires c = (c.loop-j.invariant.long, c.requires.slides.class)

pub returns : goal.returns
returns c =
    let l = c.loop-j in
    c.set_zone.ensures
    ∙ by_lt c.args.to c.args.f
    (λ b. down_done _ _ _ _ _ _ _ _ _ _ _ (l.invariant.down b) refl (omega arith))
    (λ b. up_done _ _ _ _ _ _ _ _ _ _ _ (l.invariant.up b) refl (omega arith))
