use mathlib.Core.Path.{sym, ap, ◌∙◌}
use native.Mathlib.Omega.{arith}
use Prim.Native.Nat.{ℕ, ◌+◌, ◌*◌}
use Rattle.redo.specs.Image.{home_at}
use Rattle.redo.specs.ImageLaws.{head_right}
use Rattle.redo.specs.StoresLaws.{commit_none}
use Rattle.refusals.specs.declared.Refusal.TheVariants.{SpaceLength, LogShort}
use Rattle.image_log.specs.Calls.{store, changed_pages}
use Rattle.image_log.specs.Answers.{refused_is, nothing_is, other_length, many-pages, few_pages_is, changed_is}
use lib.ListN.{length}
use Rattle.image_log.proofs.commit_clear.Goals as goal

pub get16-pages-requires : goal.get16-pages-requires
get16-pages-requires c = let r = head_right c.args.image.now c.requires.0 in omega arith

pub returns-then-space-pages : goal.returns-then-space-pages
returns-then-space-pages c =
    let a = c.args in
    let x = refused_is _ SpaceLength a.n a.image.now (other_length a.image.now a.space.now c.requires.0 c.requires.1 (λ e. c.if-space-pages.true (e ∙ ap (λ (j : ℕ). 64 * (26 + j)) (sym c.get16-pages.ensures.value)))) in
    record { value = x.0; image_after = x.1 }

pub get16-capacity-requires : goal.get16-capacity-requires
get16-capacity-requires c = let r = head_right c.args.image.now c.requires.0 in omega arith

pub count_changed-k-requires : goal.count_changed-k-requires
count_changed-k-requires c = let r = head_right c.args.image.now c.requires.0 in omega arith

pub returns-then-capacity-k : goal.returns-then-capacity-k
returns-then-capacity-k c =
    let a = c.args in
    let l = a.image.now in
    let k = c.count_changed-k.ensures ∙ ap length (changed_is l a.space.now _ _ c.get16-capacity.ensures.value c.get16-pages.ensures.value) in
    let x = refused_is _ LogShort a.n l (many-pages l a.space.now c.requires.0 c.requires.1 (omega arith) (omega arith)) in
    record { value = x.0; image_after = x.1 }

pub returns-then-k-eq0 : goal.returns-then-k-eq0
returns-then-k-eq0 c =
    let a = c.args in
    let l = a.image.now in
    let k = c.count_changed-k.ensures ∙ ap length (changed_is l a.space.now _ _ c.get16-capacity.ensures.value c.get16-pages.ensures.value) in
    let empty = ap store (commit_none (home_at l) (changed_pages l a.space.now) (sym k ∙ c.if-k-eq0.true)) in
    let x = nothing_is _ a.n l (few_pages_is l a.space.now c.requires.0 c.requires.1 (omega arith) (omega arith) ∙ empty) in
    record { value = x.0; image_after = x.1 }

pub commit_pages-requires : goal.commit_pages-requires
commit_pages-requires c =
    let r = head_right c.args.image.now c.requires.0 in
    ((omega arith, omega arith, c.count_changed-k.ensures, omega arith), omega arith, omega arith)

pub returns : goal.returns
returns c =
    let a = c.args in
    let l = a.image.now in
    let L = c.get16-capacity.ensures.value in
    let es = changed_is l a.space.now _ _ L c.get16-pages.ensures.value in
    let k = c.count_changed-k.ensures ∙ ap length es in
    rw (few_pages_is l a.space.now c.requires.0 c.requires.1 (omega arith) (omega arith)) (rw (es, L) at c.commit_pages.ensures)
