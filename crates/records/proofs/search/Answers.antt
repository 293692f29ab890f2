use Rattle.std.proofs.Common.{rules, ltb}
use Rattle.std.proofs.lemmas.List.Sorted.{IsPartitionPoint-from_clause, IsPartitionedBy-ltb}
use Rattle.records.specs.Records.{key, record_at, rank, decode}
use Rattle.records.specs.LoopLaws.{search_found, search_absent, search_end, search_point, cells-rise}
use native.Mathlib.Omega.{arith}
use mathlib.Core.List.{List}
use mathlib.Core.Path.{◌≡◌, sym, ap, ◌∙◌}
use Prim.Native.Nat.{ℕ}
use Rattle.records.proofs.search.Goals as goal
use Rattle.records.proofs.search.Goals.{After-partition_point-i, else-i-list-via-then-i-list+else-key_in-key, else-i-list-via-else-i-list}

-- the closure tells lower keys from the others
place : (c : After-partition_point-i) → rank c.args.key (decode c.args.s.now) ≡ c.partition_point-i.result
place c =
    let lower = λ (y : List ℕ). ltb (key (record_at y 0)) c.args.key in
    let f = c.partition_point-i.ensures in
    let o = c.cells-list.ensures in
    search_point _ _ c.args.key _ o c.requires f.bound
    (IsPartitionPoint-from_clause lower _ _ f.partitioned (IsPartitionedBy-ltb (λ (y : List ℕ). key (record_at y 0)) _ c.args.key (cells-rise _ _ o c.requires)) (λ a r g called. search rules))

pub returns-then-key_in-key : goal.returns-then-key_in-key
returns-then-key_in-key c =
    let o = c.cells-list.ensures in
    search_found c.args.s.now c.args.key _ c.requires (place (goal.at.returns-then-key_in-key c).After-partition_point-i) (omega arith) (ap key (sym (o.each _ _ (omega (arith, o.len)))) ∙ sym c.key_in.ensures.value ∙ c.if-key_in-key.true)

pub returns-else-i-list : goal.returns-else-i-list
returns-else-i-list c =
    let o = c.cells-list.ensures in
    elim c.else-i-list.branch [
      | else-i-list-via-then-i-list+else-key_in-key w ↦ search_absent c.args.s.now c.args.key _ c.requires (place (goal.at.returns-else-i-list c).After-partition_point-i) (omega (arith, o.len)) (λ e. absurd (w.if-key_in-key.false (w.key_in.ensures.value ∙ ap key (o.each _ _ (omega (arith, o.len))) ∙ e)))
      | else-i-list-via-else-i-list w ↦ search_end _ _ _ (place (goal.at.returns-else-i-list c).After-partition_point-i) (omega (arith, o.len, c.partition_point-i.ensures.bound))
    ]
