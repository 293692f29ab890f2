use native.Mathlib.Nat.{sub-zero}
use mathlib.Core.Path.{◌≡◌, refl, sym, ap, ◌∙◌}
use native.Mathlib.Omega.{arith}
use Prim.Native.Nat.{ℕ, ◌*◌}
use native.Mathlib.Numerals.{add-one}
use mathlib.Core.List.{List}
use mathlib.Core.Bool.{Bool}
use lib.ListN.{drop, length-append}
use Rattle.wire.specs.Bytes.{equal}
use Rattle.wire.specs.BytesLaws.{length_part}
use Rattle.redo.specs.Entry.{page, changes, logged}
use Rattle.redo.specs.EntryLaws.{changes-none, changes_same, changes_more}
use Rattle.redo.specs.Stage.{stage_none, stage_next}
use Rattle.redo.specs.LoopLaws.{logged_more, logged-home, changes_room}
use Rattle.redo.proofs.entry.log_pages.Goals as goal
use Rattle.redo.proofs.entry.log_pages.Goals.{then-not-same_page, else-not-same_page}

-- the test of a page is as it was at the start, when home was H
tested : (H home space : List ℕ) (p : ℕ) {b b' : Bool} → home ≡ H → b ≡ equal (page home p) (page space p) → b ≡ b' → equal (page H p) (page space p) ≡ b'
tested H home space p e f g = ap (λ h. equal (page h p) (page space p)) (sym e) ∙ sym f ∙ g

pub loop-p-init : goal.loop-p-init
unfolding logged
loop-p-init c = (omega arith, rw changes-none, refl, rw (changes-none, sub-zero) (stage_none _ _ _))

pub log_entry-made-requires : goal.log_entry-made-requires
log_entry-made-requires c =
    let a = c.args in
    let l = c.loop-p in
    let room = changes_room (drop a.home a.image.now) a.space.now l.p a.pages (tested _ _ _ _ l.invariant.2 c.same_page.ensures c.if-not-same_page.true) (omega arith) in
    omega arith

pub loop-p-preserved : goal.loop-p-preserved
loop-p-preserved c =
    let a = c.args in
    let l = c.loop-p in
    let H = drop a.home a.image.now in
    elim c.if-not-same_page.branch [
      | then-not-same_page w ↦
          let differs = tested _ _ _ _ l.invariant.2 c.same_page.ensures w.if-not-same_page.true in
          let room = changes_room H a.space.now l.p a.pages differs (omega arith) in
          let long = length_part a.space.now (64 * l.p) 64 (omega arith) in
          rw (w.image-is, w.made-is, w.k-is) (
            omega arith,
            rw (add-one l.p, changes_more H a.space.now l.p differs, length-append) (omega arith),
            logged-home a.home l.k l.p (page a.space.now l.p) w.log_entry-made.ensures long (omega arith) ∙ l.invariant.2,
            rw (add-one l.p, changes_more H a.space.now l.p differs) (logged_more (changes H a.space.now l.p) (record { page = l.p; bytes = page a.space.now l.p }) l.k l.invariant.1 l.invariant.3 (stage_next a.left l.made refl w.log_entry-made.ensures)),
          )
      | else-not-same_page w ↦
          let same = changes_same H a.space.now l.p (tested _ _ _ _ l.invariant.2 c.same_page.ensures w.if-not-same_page.false) in
          rw (w.image-is, w.made-is, w.k-is) (omega arith, rw (add-one l.p, same) l.invariant.1, l.invariant.2, rw (add-one l.p, same) l.invariant.3)
    ]
