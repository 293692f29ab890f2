-- A line's answer, step by step.
use Rattle.std.specs.Prelude.{◌≡◌, ◌≢◌, true, false, List, ℕ, ◌/◌, ◌≤◌, ◌<◌, length, Ok, Err, Some, None}
use Rattle.std.proofs.Math.Path.{refl, ap}
use Rattle.std.proofs.Common.{sym, ◌∙◌, arith, le-leb}
use Rattle.std.proofs.Math.Option.{none}
use Rattle.std.proofs.lemmas.Bool.{lt-leb}
use Rattle.wire.specs.Bytes.{over}
use Rattle.refusals.specs.Rules.{number_of, Answer, refusal}
use Rattle.refusals.specs.RulesLaws.{first-map, unrefused}
use Rattle.records.specs.Records.{decode as records_in}
use Rattle.records.specs.Edits.{length-encode}
use Rattle.gates.specs.declared.Of.TheVariants.{Image}
use Rattle.gates.specs.Gates.{gate_rules, home_in}
use Rattle.gates.specs.GatesLaws.{home_fine}
use Rattle.reads.specs.Reads.{list_in, count_in, show_in}
use Rattle.reads.specs.ReadsLaws.{sound-listed, list_reads, show_open}
use Rattle.parse.specs.declared.Word.{Word}
use Rattle.parse.specs.declared.Word.TheVariants.{Put, Del, Set, Drop, Show}
use Rattle.parse.specs.declared.Command.{Command}
use Rattle.print.specs.Print.{list_lines, longest, no_line}
use Rattle.parse.specs.Grammar.{parsed}
use Rattle.lines.specs.Run.{reply_of, image_of, left_of}
use Rattle.lines.specs.Answer.{reply_line, list_text, is_show, command_text, command_image, command_space, line_text, line_image, line_space, printed_of, out_of, image_after, space_after}

-- ---- a list shown

-- the text by what a count of the list answers
module _ (l : List ℕ) (t : ℕ) where
  abbrev listing : Answer → List ℕ
  listing (Ok n) = list_lines t (list_in Image l t)
  listing (Err r) = no_line (number_of r)

  pub listing_is : (a : Answer) → count_in Image l t ≡ a → listing a ≡ list_text l t
  unfolding count_in list_text
  listing_is a e = ap listing (sym e) ∙ first-map listing Err (gate_rules Image l) (Ok (length (list_in Image l t)))

-- an image whose list was counted is open, and shows it
pub record Shows (l bs : List ℕ) (t : ℕ) : Type 0 where
  pub short : length bs / 8 ≤ 989
  pub text : list_lines t (records_in bs) ≡ list_text l t

pub counted_shows : (l bs : List ℕ) (t n : ℕ) → count_in Image l t ≡ Ok n → bs ≡ show_in Image l t → Shows l bs t
unfolding count_in
counted_shows l bs t n e s =
    let q : refusal (gate_rules Image l) ≡ none = unrefused Err (gate_rules Image l) _ (Ok n) (λ m f. cc) e in
    let b = s ∙ show_open Image l t q in
    let fine = home_fine Image l q in
    record {
      short = omega (arith, ap length b, length-encode (list_in Image l t), (sound-listed (home_in Image l) t fine).short);
      text = ap (list_lines t) (list_reads (home_in Image l) t bs fine b) ∙ listing_is l t (Ok n) e;
    }

-- ---- a command

pub is_show-not : (w : Word) → w ≢ Show → is_show w ≡ false
unfolding is_show
is_show-not Put n = refl
is_show-not Del n = refl
is_show-not Set n = refl
is_show-not Drop n = refl
is_show-not Show n = absurd (n refl)

module _ (l w : List ℕ) (c : Command) where
  pub command_list : is_show c.word ≡ true → (command_text l w c ≡ list_text l c.tag) × ((l ≡ command_image l w c) × (w ≡ command_space l w c))
  unfolding command_text command_image command_space
  command_list e = rw e (refl, (refl, refl))

  pub command_edit : is_show c.word ≡ false → (command_text l w c ≡ reply_line (reply_of l w c)) × ((image_of l w c ≡ command_image l w c) × (left_of l w c ≡ command_space l w c))
  unfolding command_text command_image command_space
  command_edit e = rw e (refl, (refl, refl))

-- ---- a line

module _ (l w line out : List ℕ) where
  pub answer-short : length out < longest → (None ≡ printed_of l w line out) × (out ≡ out_of l w line out) × (l ≡ image_after l w line out) × (w ≡ space_after l w line out)
  unfolding printed_of out_of image_after space_after
  answer-short g = rw (lt-leb longest (length out) g) (refl, refl, refl, refl)

  pub answer-roomy : (n : ℕ) (l₂ w₂ out₂ : List ℕ) → longest ≤ length out → out₂ ≡ over out 0 (line_text (parsed line) l w) → n ≡ length (line_text (parsed line) l w)
      → l₂ ≡ line_image (parsed line) l w → w₂ ≡ line_space (parsed line) l w
      → (Some n ≡ printed_of l w line out) × (out₂ ≡ out_of l w line out) × (l₂ ≡ image_after l w line out) × (w₂ ≡ space_after l w line out)
  unfolding printed_of out_of image_after space_after
  answer-roomy n l₂ w₂ out₂ g o k i s = rw (le-leb longest (length out) g) (ap Some k, o, i, s)
