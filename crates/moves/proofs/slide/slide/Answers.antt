use mathlib.Core.Path.{sym, ◌∙◌}
use native.Mathlib.Omega.{arith}
use Rattle.moves.specs.SlideCode.{slides_long, slide_stays}
use Rattle.moves.proofs.slide.slide.Goals as goal

pub zone_count-n-requires : goal.zone_count-n-requires
zone_count-n-requires c = (c.requires.class, omega (arith, slides_long _ _ _ _ _ _ c.requires))

pub returns-then-n-eq0 : goal.returns-then-n-eq0
returns-then-n-eq0 c = slide_stays _ _ _ _ _ _ c.requires (λ d. absurd (d (sym c.zone_count-n.ensures.0 ∙ c.if-n-eq0.true)))

pub zone_first-f-requires : goal.zone_first-f-requires
zone_first-f-requires c = (c.requires.class, omega (arith, slides_long _ _ _ _ _ _ c.requires))

pub returns-then-f-to : goal.returns-then-f-to
returns-then-f-to c = slide_stays _ _ _ _ _ _ c.requires (λ d. sym c.zone_first-f.ensures.0 ∙ c.if-f-to.true)

pub slide_blocks-requires : goal.slide_blocks-requires
slide_blocks-requires c = record { slides = c.requires; first = c.zone_first-f.ensures.0; many = c.zone_count-n.ensures.0; some = c.if-n-eq0.false }
