-- What one turn of a merge's loop passes.
use mathlib.Core.Bool.{Bool, true}
use mathlib.Core.List.{List}
use mathlib.Core.Path.{◌≡◌, sym, ◌∙◌}
use Prim.Native.Nat.{ℕ, ◌+◌, ◌/◌}
use lib.Dec.{ltb}
use lib.ListN.{length}
use borrow.Author.Tests.{ltb-true}
use Rattle.records.specs.Records.{rest}
use Rattle.merges.specs.declared.Merge.{Merge}
use Rattle.merges.specs.declared.Side.{Side}
use Rattle.merges.specs.Merging.{side}
use Rattle.merges.specs.LoopLaws.{Turn, Count, merge_turn}

pub turn : {m : Merge} {a b : List ℕ} {i j k : ℕ} {w : Side} {t : Bool} → Count m a b i j k
    → t ≡ ltb (i + j) (length a / 8 + length b / 8) → t ≡ true → w ≡ side (rest a i) (rest b j) → Turn m a b i j w
turn c e l s = merge_turn _ _ _ _ _ _ c.first c.second (ltb-true _ _ (sym e ∙ l)) s
