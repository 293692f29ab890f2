-- The table of cases is what the definitions give: what format leaves is known by law, without its stores; all else is computed.
use Rattle.std.specs.Prelude.{◌≡◌, refl, true, false, List, ℕ, ◌+◌}
use Rattle.std.proofs.Common.{ap, ◌∙◌, arith}
use Rattle.std.proofs.lemmas.List.{length-replicate}
use Rattle.wire.specs.Bytes.{zeros_but, pick, part, over, get16, get32, bytes16, bytes32, equal, blank}
use Rattle.wire.specs.Cases.{by_test}
use Rattle.refusals.specs.Rules.{first}
use Rattle.records.specs.Records.{key, look, insert, remove, rising_from, bytes_of, record_at, records}
use Rattle.redo.specs.Store.{apply, run}
use Rattle.redo.specs.Image.{letters, home, in_range, image_length, head_ok, head_page, empty_image}
use Rattle.redo.specs.Entry.{entry, entries, rising, changes, logged, replay}
use Rattle.redo.specs.Stores.{clear_mark, recover_stores, log_stores, commit_stores}
use Rattle.image_log.specs.Calls.{answer, after, log_ok, recover_rules, recover_plan, commit_rules, commit_plan, formattable}
use Rattle.image_log.specs.FormatLaws.{format_done}
use Rattle.layout.specs.Capacities.{capacity, cells, class_of}
use Rattle.layout.specs.Zones.{find, blocks, has_tag, rewritten, place, take_out, settle, change}
use Rattle.layout.specs.Sizes.{total_after}
use Rattle.layout.specs.Buildings.{building_full}
use Rattle.layout.specs.Valid.{valid}
use Rattle.home.specs.Bytes.{spots, encode, decode, zones_from}
use Rattle.home.specs.Sound.{sound, sized, list_of}
use Rattle.layout.specs.Edits.{put, delete, drop_tag}
use Rattle.moves.specs.Stored.{settled}
use Rattle.gates.specs.Gates.{gate_rules, home_in}
use Rattle.reads.specs.Reads.{count_in}
use Rattle.edits.specs.Edits.{limit_of, full_of}
use Rattle.index.specs.Calls.{begin_call, put_call, delete_call, drop_call, format_rules, format_plan}
use Rattle.index.specs.FormatLaws.{format_coded}
use Rattle.bench.specs.Cases.{of, used, lent, fresh, laid, mended, which, seen, next, result, follow, expected, nothing, table}

quick : ℕ → List ℕ
quick L = pick (in_range L 2) (empty_image L 2 122 0) (used L)

formats : (L : ℕ) → in_range L 2 ≡ true → fresh L ≡ quick L
unfolding fresh quick used
formats L t = rw (t, format_coded (used L) L 2 0 (omega arith)) (format_done (used L) L 2 122 0 (omega arith) t (length-replicate (image_length L 2) 255) (image_length L 2 + 1) (omega arith))

refuses : (L : ℕ) → in_range L 2 ≡ false → fresh L ≡ quick L
unfolding fresh quick first formattable format_rules format_plan after
refuses L t = rw t

formatted : (L : ℕ) → fresh L ≡ quick L
formatted L = by_test (in_range L 2) (formats L) (refuses L)

computed : follow quick expected nothing ≡ expected
unfolding expected follow next result laid which mended seen quick used lent of put_call limit_of full_of delete_call drop_call count_in begin_call gate_rules home_in first letters home in_range head_ok entry entries rising changes logged replay answer after head_page empty_image zeros_but clear_mark recover_stores log_ok recover_rules recover_plan log_stores commit_stores commit_rules commit_plan apply run sized sound list_of valid decode zones_from encode spots settled put delete drop_tag total_after building_full change settle place take_out rewritten has_tag find blocks class_of capacity cells key look insert remove rising_from bytes_of record_at records part over get16 get32 bytes16 bytes32 equal blank
computed = refl

pub cases : table ≡ expected
unfolding table
cases = ap (λ (f : ℕ → List ℕ). follow f expected nothing) (λ i. λ (L : ℕ). formatted L i) ∙ computed
