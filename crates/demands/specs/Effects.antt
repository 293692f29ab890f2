-- Demand 2 for the edits: an edit changes the named tag's list as said, and every other tag reads as before.
use Rattle.std.specs.Prelude.{◌≡◌, refl, ◌≢◌, List, [], ◌++◌, ℕ, ◌*◌, ◌<◌, length, Ok, Err}
use Rattle.std.proofs.Math.Path.{sym}
use Rattle.std.proofs.Common.{◌∙◌}
use Rattle.std.proofs.Math.Bool.{true}
use Rattle.std.proofs.Math.Option.{Option, none, some}
use Rattle.wire.specs.Cases.{never}
use Rattle.refusals.specs.Rules.{Rule, refusal, Ruled, answered, left, behind, Answer}
use Rattle.refusals.specs.RulesLaws.{by_refusal, passes_both, first-refused, first_passed}
use Rattle.records.specs.declared.Record.{Record}
use Rattle.records.specs.Records.{Fits, insert, remove, amend}
use Rattle.layout.specs.Capacities.{cells, class_of}
use Rattle.layout.specs.Zones.{Zone}
use Rattle.home.specs.Layout.{change}
use Rattle.layout.specs.Cases.{Holds}
use Rattle.wire.specs.Bytes.{is_some}
use Rattle.layout.proofs.ChangeLaws.{Changed}
use Rattle.layout.specs.Edits.{Edit as EditBy, put as put_by, delete as delete_by, set_minutes as set_by, drop_tag as drop_by}
use Rattle.layout.specs.CapacitiesLaws.{rising as rises}
use Rattle.layout.proofs.EditsLaws.{Fine, changed, put_fine, delete_fine, set_fine, drop_fine}
use Rattle.home.specs.Bytes.{step_of, decode}
use Rattle.home.specs.Sound.{sound, pages_of, list_of}
use Rattle.home.specs.SoundLaws.{sound_code, sound-encode, list_of-encode, sound-some, sound-small, sound_long, sound-valid}
use Rattle.home.specs.EncodeLaws.{step_loose, length_loose, valid_loose}
use Rattle.moves.specs.Stored.{settled}
use Rattle.edits.specs.declared.Terminal.{Terminal}
use Rattle.edits.specs.Edits.{edited, limit_of, full_of, put_of}
use Rattle.edits.specs.EditsLaws.{limit_low}
use Rattle.gates.specs.declared.Of.TheVariants.{Space}
use Rattle.gates.specs.Gates.{gate_rules}
use Rattle.gates.specs.GatesLaws.{space_open}
use Rattle.index.specs.Calls.{put_call, delete_call, set_call, drop_call}
use Rattle.demands.specs.Sequences.{Edit, put, delete, set_minutes, drop_tag, edit_call, answer_of, made, tag_of, list_by, Ranged}

-- an edit that is not refused: tag t's list is rs, and the answer its record count; every other tag reads as before, and the step code stays
pub record Done (w w' : List ℕ) (t : ℕ) (rs : List Record) (n : ℕ) : Type 0 where
  pub was : sound w ≡ true
  pub fine : sound w' ≡ true
  pub long : length w' ≡ length w
  pub list : list_of w' t ≡ rs
  pub counts : n ≡ length rs
  pub others : (u : ℕ) → u ≢ t → list_of w' u ≡ list_of w u
  pub step : step_of w' ≡ step_of w

-- a refused one changes no lent byte
abbrev pub Effect : List ℕ → List ℕ → ℕ → List Record → Answer → Type 0
Effect w w' t rs (Ok n) = Done w w' t rs n
Effect w w' t rs (Err n) = w' ≡ w

module _ (w : List ℕ) (t : ℕ) (small : t < 4294967296) where
  abbrev Makes : sound w ≡ true → List Record → Type 0
  Makes s rs = Fine (cells (step_of w)) (class_of (step_of w)) (rises (step_of w)) (8 * pages_of w) t (decode w) (sound-valid w s) small rs

  makes_done : (s : sound w ≡ true) (rs : List Record) → Makes s rs → Done w (settled (step_of w) (pages_of w) w (change (step_of w) (8 * pages_of w) t rs (decode w))) t rs (length rs)
  unfolding settled list_of
  makes_done s rs f = go (change (step_of w) (8 * pages_of w) t rs (decode w)) f.room (changed (cells (step_of w)) (class_of (step_of w)) (rises (step_of w)) (8 * pages_of w) t (decode w) (sound-valid w s) small rs f.listed f.free)
    where
      go : (o : Option (List Zone)) → is_some o ≡ true → Holds (Changed (cells (step_of w)) (class_of (step_of w)) t (8 * pages_of w) rs (decode w)) o → Done w (settled (step_of w) (pages_of w) w o) t rs (length rs)
      go none i h = never i
      go (some zs) i h = record {
        was = s;
        fine = sound-encode (step_of w) (pages_of w) zs (sound_code w s) (sound-some w s) (sound-small w s) h.valid;
        long = length_loose (step_of w) (pages_of w) zs (valid_loose (step_of w) (pages_of w) zs h.valid) ∙ sym (sound_long w s);
        list = list_of-encode (step_of w) (pages_of w) zs t (sound-small w s) h.valid ∙ h.found;
        counts = refl;
        step = step_loose (step_of w) (pages_of w) zs (valid_loose (step_of w) (pages_of w) zs h.valid);
        others = λ u d. list_of-encode (step_of w) (pages_of w) zs u (sound-small w s) h.valid ∙ h.others u d;
      }

  -- behind the rules of a workspace
  effect : (e : EditBy) → ((s : sound w ≡ true) → refusal e.rules ≡ none → Makes s e.list)
      → Effect w (left (behind (gate_rules Space w) (edited w t e)) w) t e.list (answered Err (behind (gate_rules Space w) (edited w t e)))
  effect e f = by_refusal rs
      (λ n q. rw (first-refused Err rs n c.answer q, first-refused (λ m. w) rs n c.bytes q) refl)
      (λ q. rw (first_passed Err rs c.answer q, first_passed (λ m. w) rs c.bytes q)
      (let p = passes_both (gate_rules Space w) e.rules q in let s = space_open w p.0 in makes_done s e.list (f s p.1)))
    where
      c : Ruled Answer
      c = edited w t e

      rs : List Rule
      rs = gate_rules Space w ++ e.rules

  pub put_effect : (by : Terminal) (r : Record) → Fits r → Effect w (left (put_call by w t r) w) t (insert r (list_of w t)) (answered Err (put_call by w t r))
  unfolding put_call put_by list_of
  put_effect by r f = effect (put_of by w t r) (λ s q. put_fine (cells (step_of w)) (class_of (step_of w)) (rises (step_of w)) (8 * pages_of w) t (decode w) (sound-valid w s) small (limit_of by) (full_of by) (limit_low by) r f q)

  pub delete_effect : (k : ℕ) → Effect w (left (delete_call w t k) w) t (remove k (list_of w t)) (answered Err (delete_call w t k))
  unfolding delete_call delete_by list_of
  delete_effect k = effect (delete_by t k (decode w)) (λ s q. delete_fine (cells (step_of w)) (class_of (step_of w)) (rises (step_of w)) (8 * pages_of w) t (decode w) (sound-valid w s) small k q)

  pub set_effect : (k m : ℕ) → m < 256 → Effect w (left (set_call w t k m) w) t (amend k m (list_of w t)) (answered Err (set_call w t k m))
  unfolding set_call set_by list_of
  set_effect k m g = effect (set_by t k m (decode w)) (λ s q. set_fine (cells (step_of w)) (class_of (step_of w)) (rises (step_of w)) (8 * pages_of w) t (decode w) (sound-valid w s) small k m g q)

  pub drop_effect : Effect w (left (drop_call w t) w) t [] (answered Err (drop_call w t))
  unfolding drop_call drop_by
  drop_effect = effect (drop_by t (decode w)) (λ s q. drop_fine (cells (step_of w)) (class_of (step_of w)) (rises (step_of w)) (8 * pages_of w) t (decode w) (sound-valid w s) small q)

-- any of them
pub edit_effect : (e : Edit) → Ranged e → (w : List ℕ) → Effect w (made e w) (tag_of e) (list_by e (list_of w (tag_of e))) (answer_of e w)
unfolding edit_call tag_of list_by
edit_effect (put by t r) (g, f) w = put_effect w t g by r f
edit_effect (delete t k) g w = delete_effect w t g k
edit_effect (set_minutes t k m) (g, f) w = set_effect w t g k m f
edit_effect (drop_tag t) g w = drop_effect w t g
