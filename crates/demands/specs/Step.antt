-- The step code through the calls: begin copies it, edits keep it, and a home with another code than 0 and 1 is refused.
-- (Format stores it and a commit takes the workspace's along: Lists.)
use Rattle.std.specs.Prelude.{◌≡◌, false, ℕ, ◌<◌, List, Ok, Err}
use Rattle.std.proofs.Common.{ap, arith}
use Rattle.std.proofs.Math.Option.{none}
use Rattle.wire.specs.Cases.{by_test}
use Rattle.refusals.specs.Rules.{refusal, left, Answer}
use Rattle.refusals.specs.RulesLaws.{first_passed}
use Rattle.records.specs.declared.Record.{Record}
use Rattle.redo.specs.Image.{home}
use Rattle.home.specs.Bytes.{step_of}
use Rattle.home.specs.Sound.{sound, list_of}
use Rattle.home.specs.SoundLaws.{sound_code}
use Rattle.index.specs.Calls.{begin_call}
use Rattle.demands.specs.Effects.{Effect, edit_effect}
use Rattle.demands.specs.Sequences.{Edit, answer_of, made, tag_of, list_by, Ranged}

-- "as unsound elsewhere"
pub uncoded : (h : List ℕ) → 1 < step_of h → sound h ≡ false
uncoded h g = by_test (sound h) (λ s. absurd (omega (arith, sound_code h s))) (λ s. s)

-- begin copies it
pub begun_step : (l w : List ℕ) → refusal (begin_call l w).rules ≡ none → step_of (left (begin_call l w) w) ≡ step_of (home l)
unfolding begin_call
begun_step l w e = ap step_of (first_passed (λ n. w) (begin_call l w).rules (home l) e)

-- an edit keeps it, refused or not
kept : (w w' : List ℕ) (t : ℕ) (rs : List Record) (a : Answer) → Effect w w' t rs a → step_of w' ≡ step_of w
kept w w' t rs (Ok n) e = e.step
kept w w' t rs (Err n) e = ap step_of e

pub edit_step : (e : Edit) → Ranged e → (w : List ℕ) → step_of (made e w) ≡ step_of w
edit_step e g w = kept w (made e w) (tag_of e) (list_by e (list_of w (tag_of e))) (answer_of e w) (edit_effect e g w)
