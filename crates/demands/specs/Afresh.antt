-- A put that is laid out afresh: the layout that it leaves, and a switch-off during its commit.
use Rattle.std.specs.Prelude.{◌≡◌, refl, true, ◌≢◌, ℕ, ◌*◌, ◌<◌, length, Ok, Err}
use Rattle.std.proofs.Math.Path.{sym, ap, subst}
use Rattle.std.proofs.Common.{◌∙◌, ⊎_elim, arith}
use Rattle.std.proofs.Math.Option.{Option, none, some}
use mathlib.Core.List.{List, ◌∷◌, ◌++◌}
use Rattle.wire.specs.All.{All}
use Rattle.wire.specs.Cases.{never}
use Rattle.refusals.specs.Rules.{Rule, Ruled, answered, left, Answer}
use Rattle.refusals.specs.RulesLaws.{unrefused, passes_both, first_passed}
use Rattle.records.specs.declared.Record.{Record}
use Rattle.records.specs.Records.{Fits, insert}
use Rattle.redo.specs.Store.{Store}
use Rattle.redo.specs.Image.{home}
use Rattle.image_log.specs.Calls.{store, changed_pages, commit_plan}
use Rattle.image_log.specs.Book.{Call, commit, final}
use Rattle.image_log.specs.Kept.{IsRecover, Finds, Found}
use Rattle.image_log.proofs.Kept.{one_found}
use Rattle.layout.specs.Capacities.{cells, class_of}
use Rattle.layout.specs.CapacitiesLaws.{cells_mono, cells_pos, rising as rises}
use Rattle.layout.specs.Zones.{Block, Zone, blocks, has_tag, find, place, joined, afresh, settle}
use Rattle.home.specs.Layout.{change}
use Rattle.wire.specs.Bytes.{is_some}
use Rattle.layout.specs.Edits.{put}
use Rattle.layout.proofs.EditsLaws.{length-insert, put_fine}
use Rattle.layout.specs.Afresh.{by_class, behind, Gapless, just_before}
use Rattle.layout.proofs.AfreshLaws.{settle-afresh, change_settles}
use Rattle.home.specs.Bytes.{step_of, encode, decode}
use Rattle.home.specs.Sound.{sound, pages_of, list_of}
use Rattle.home.specs.SoundLaws.{sound-valid}
use Rattle.edits.specs.declared.Terminal.{Terminal}
use Rattle.edits.specs.Edits.{limit_of, full_of, put_in}
use Rattle.edits.specs.EditsLaws.{limit_low}
use Rattle.moves.specs.Stored.{settled}
use Rattle.gates.specs.declared.Of.TheVariants.{Space}
use Rattle.gates.specs.Gates.{gate_rules}
use Rattle.gates.specs.GatesLaws.{space_open}
use Rattle.index.specs.Calls.{put_call}
use Rattle.demands.specs.Claim.{index_switched_off}
use Rattle.demands.specs.Effects.{Effect, put_effect}

-- the block of tag t with its list and one record more
abbrev pub block_with : List ℕ → ℕ → Record → Block
block_with h t r = record { tag = t; list = insert r (list_of h t) }

abbrev pub class_with : List ℕ → ℕ → Record → ℕ
class_with h t r = class_of (step_of h) (length (insert r (list_of h t)))

-- "all zones afresh from cell 0 without gaps, blocks in the order they had just before the placing, the new block last in its zone"
abbrev pub laid_afresh : List ℕ → ℕ → Record → List Zone
laid_afresh h t r = afresh (cells (step_of h)) 0 0 (joined (class_with h t r) (block_with h t r) (just_before (cells (step_of h)) t (decode h)))

-- a put to a sound home that is done, though its list does not stay in its block and "placing finds no room"
pub record Afresh (by : Terminal) (h : List ℕ) (t : ℕ) (r : Record) : Type 0 where
  pub tag : t < 4294967296
  pub fits : Fits r
  pub count : ℕ
  pub done : answered Err (put_call by h t r) ≡ Ok count
  pub leaves : has_tag t (blocks (decode h)) ≡ true → class_of (step_of h) (length (list_of h t)) ≢ class_with h t r
  pub none : place (cells (step_of h)) (8 * pages_of h) 0 0 (class_with h t r) (block_with h t r) (just_before (cells (step_of h)) t (decode h)) ≡ none

-- ---- what it leaves

-- a put that is done has changed the list
record Put (by : Terminal) (h : List ℕ) (t : ℕ) (r : Record) : Type 0 where
  layout : List Zone
  changes : change (step_of h) (8 * pages_of h) t (insert r (list_of h t)) (decode h) ≡ some layout
  bytes : left (put_call by h t r) h ≡ encode (step_of h) (pages_of h) layout

put_is : (by : Terminal) (h : List ℕ) (t : ℕ) (r : Record) → Afresh by h t r → Put by h t r
unfolding put_call put settled list_of
put_is by h t r k =
    let c : Ruled Answer = put_in by h t r in
    let gs : List Rule = gate_rules Space h in
    let q = unrefused Err (gs ++ c.rules) c.answer (Ok k.count) (λ n e. cc) k.done in
    let p = passes_both gs c.rules q in
    let v = sound-valid h (space_open h p.0) in
    go (change (step_of h) (8 * pages_of h) t (insert r (list_of h t)) (decode h)) refl (put_fine (cells (step_of h)) (class_of (step_of h)) (rises (step_of h)) (8 * pages_of h) t (decode h) v k.tag (limit_of by) (full_of by) (limit_low by) r k.fits p.1).room (first_passed (λ n. h) (gs ++ c.rules) c.bytes q)
  where
    go : (o : Option (List Zone)) → change (step_of h) (8 * pages_of h) t (insert r (list_of h t)) (decode h) ≡ o → is_some o ≡ true → left (put_call by h t r) h ≡ settled (step_of h) (pages_of h) h (change (step_of h) (8 * pages_of h) t (insert r (list_of h t)) (decode h)) → Put by h t r
    go none e i b = never i
    go (some zs) e i b = record { layout = zs; changes = e; bytes = b ∙ ap (settled (step_of h) (pages_of h) h) e }

module _ (by : Terminal) (h : List ℕ) (t : ℕ) (r : Record) (k : Afresh by h t r) where
  -- the layout, in which there is no gap, and each class's blocks lie in the order from just before the placing, the new one behind them
  pub put-afresh : (left (put_call by h t r) h ≡ encode (step_of h) (pages_of h) (laid_afresh h t r)) × Gapless (cells (step_of h)) 0 0 (laid_afresh h t r) × (by_class (laid_afresh h t r) ≡ behind (class_with h t r) (block_with h t r) (by_class (just_before (cells (step_of h)) t (decode h))))
  unfolding list_of
  put-afresh =
      let rs : List Record = insert r (find t (blocks (decode h))) in
      let p : Put by h t r = put_is by h t r k in
      let s : settle (cells (step_of h)) (8 * pages_of h) (class_with h t r) (block_with h t r) (just_before (cells (step_of h)) t (decode h)) ≡ some p.layout =
      sym (change_settles (cells (step_of h)) (class_of (step_of h)) (8 * pages_of h) t rs (decode h) (omega (arith, length-insert r (find t (blocks (decode h))))) k.leaves) ∙ p.changes in
      let a = settle-afresh (cells (step_of h)) (class_of (step_of h)) (cells_mono (step_of h)) (cells_pos (step_of h)) (8 * pages_of h) (class_with h t r) (block_with h t r) (just_before (cells (step_of h)) t (decode h)) p.layout k.none s in
      (p.bytes ∙ ap (encode (step_of h) (pages_of h)) a.0, subst (Gapless (cells (step_of h)) 0 0) a.0 a.1, ap by_class (sym a.0) ∙ a.2)

-- ---- a switch-off during its commit

module _ (by : Terminal) (l : List ℕ) (t : ℕ) (r : Record) (k : Afresh by (home l) t r) {ss : List Store} (plan : commit_plan sound l (left (put_call by (home l) t r) (home l)) ≡ store ss) (n v : ℕ) {rs : List Call} (recovers : All IsRecover rs) where
  abbrev w : List ℕ
  w = left (put_call by (home l) t r) (home l)

  abbrev x : List ℕ
  x = final sound (commit w n v ∷ rs) l

  -- "a switch-off during such a commit leaves the index from before it or the one laid out afresh"
  pub afresh_switched_off : Found n v (length (changed_pages l w)) (home l) (encode (step_of (home l)) (pages_of (home l)) (laid_afresh (home l) t r)) x
  afresh_switched_off = subst (λ (y : List ℕ). Found n v (length (changed_pages l w)) (home l) y x) (put-afresh by (home l) t r k).0 (index_switched_off l w plan n v recovers)

  -- "Lists of other tags still read the same", in whichever of the two is found
  pub afresh-others : (y : List ℕ) → Finds n v (length (changed_pages l w)) (home l) (encode (step_of (home l)) (pages_of (home l)) (laid_afresh (home l) t r)) y → (u : ℕ) → u ≢ t → list_of y u ≡ list_of (home l) u
  afresh-others y f u d =
      let new_is : encode (step_of (home l)) (pages_of (home l)) (laid_afresh (home l) t r) ≡ w = sym (put-afresh by (home l) t r k).0 in
      let others : list_of w u ≡ list_of (home l) u = (subst (Effect (home l) w t (insert r (list_of (home l) t))) k.done (put_effect (home l) t k.tag by r k.fits)).others u d in
      let old : y ≡ home l → list_of y u ≡ list_of (home l) u = λ q. ap (λ (z : List ℕ). list_of z u) q in
      let new : y ≡ encode (step_of (home l)) (pages_of (home l)) (laid_afresh (home l) t r) → list_of y u ≡ list_of (home l) u = λ q. ap (λ (z : List ℕ). list_of z u) (q ∙ new_is) ∙ others in
      ⊎_elim old new (one_found n v (length (changed_pages l w)) (home l) (encode (step_of (home l)) (pages_of (home l)) (laid_afresh (home l) t r)) y f)
