use Rattle.std.proofs.Common.{◌≡◌, ◌&&◌, sym, refl, ◌∙◌, arith}
use Rattle.std.proofs.lemmas.Bool.{lt-leb}
use Rattle.wire.specs.Bytes.{part, blank}
use Rattle.redo.specs.Image.{letters, in_range, head_ok}
use Rattle.redo.specs.ImageLaws.{head_is}
use Rattle.redo.proofs.sizes.head_ok.Goals as goal
use Rattle.redo.proofs.sizes.head_ok.Goals.{then-equal, else-equal, then-in_range, else-in_range}

pub returns-then-image-lt64 : goal.returns-then-image-lt64
unfolding head_ok
returns-then-image-lt64 c = rw (lt-leb 64 _ c.if-image-lt64.true)

pub returns-then-all_zero : goal.returns-then-all_zero
unfolding part letters
returns-then-all_zero c =
    let l = c.args.image.now in
    let L = c.get16-capacity.result in
    let R = c.get16-pages.result in
    let two : c.if-equal.value ≡ c.equal.result && in_range L R = elim c.if-equal.branch [
      | then-equal v ↦ rw (v.value-is, v.if-equal.true, v.in_range.ensures)
      | else-equal v ↦ rw (v.value-is, v.if-equal.false)
    ] in
    let three : c.if-in_range.value ≡ c.equal.result && in_range L R && blank (part l 11 53) = elim c.if-in_range.branch [
      | then-in_range w ↦ rw (← two, w.value-is, w.if-in_range.true, w.all_zero.ensures)
      | else-in_range w ↦ rw (← two, w.value-is, w.if-in_range.false)
    ] in
    rw (sym three ∙ c.if-all_zero.true) at
    (head_is l L R c.image_length.result _ _ _ (omega arith) c.get16-capacity.ensures.value c.get16-pages.ensures.value c.equal.ensures refl refl c.image_length.ensures)

pub returns-else-all_zero : goal.returns-else-all_zero
unfolding part letters
returns-else-all_zero c =
    let l = c.args.image.now in
    let L = c.get16-capacity.result in
    let R = c.get16-pages.result in
    let two : c.if-equal.value ≡ c.equal.result && in_range L R = elim c.if-equal.branch [
      | then-equal v ↦ rw (v.value-is, v.if-equal.true, v.in_range.ensures)
      | else-equal v ↦ rw (v.value-is, v.if-equal.false)
    ] in
    let three : c.if-in_range.value ≡ c.equal.result && in_range L R && blank (part l 11 53) = elim c.if-in_range.branch [
      | then-in_range w ↦ rw (← two, w.value-is, w.if-in_range.true, w.all_zero.ensures)
      | else-in_range w ↦ rw (← two, w.value-is, w.if-in_range.false)
    ] in
    c.if-all_zero.false
    ∙ rw (sym three ∙ c.if-all_zero.false) at
    (head_is l L R _ _ _ _ (omega arith) c.get16-capacity.ensures.value c.get16-pages.ensures.value c.equal.ensures refl refl refl)
