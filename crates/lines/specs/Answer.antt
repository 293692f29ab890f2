-- A line and its whole answer.
use Rattle.std.specs.Prelude.{Bool, true, false, List, ℕ, leb, length, Ok, Err, Some, None}
use Rattle.std.specs.declared.option.Option.{Option}
use Rattle.wire.specs.Bytes.{pick, over}
use Rattle.refusals.specs.Rules.{number_of, first}
use Rattle.gates.specs.declared.Of.TheVariants.{Image}
use Rattle.gates.specs.Gates.{gate_rules}
use Rattle.reads.specs.Reads.{list_in}
use Rattle.parse.specs.declared.Word.{Word}
use Rattle.parse.specs.declared.Word.TheVariants.{Put, Del, Set, Drop, Show}
use Rattle.parse.specs.declared.Command.{Command}
use Rattle.parse.specs.Grammar.{parsed}
use Rattle.print.specs.Print.{list_lines, longest, ok_line, no_line, bad_line}
use Rattle.lines.specs.Run.{Reply, number_told, reply_of, image_of, left_of}

-- an answer to an edit
unfoldable pub reply_line : Reply → List ℕ
unfolding ok_line no_line
reply_line (Ok x) = ok_line
reply_line (Err f) = no_line (number_told f)

-- the answer to `list`: the refusal of an image lent to a read, or the list
unfoldable pub list_text : List ℕ → ℕ → List ℕ
list_text l t = first (λ r. no_line (number_of r)) (gate_rules Image l) (list_lines t (list_in Image l t))

unfoldable pub is_show : Word → Bool
is_show Put = false
is_show Del = false
is_show Set = false
is_show Drop = false
is_show Show = true

-- what a command prints, of an image l and a workspace w
unfoldable pub command_text : List ℕ → List ℕ → Command → List ℕ
unfolding is_show list_text reply_line
command_text l w c = pick (is_show c.word) (list_text l c.tag) (reply_line (reply_of l w c))

-- and leaves
unfoldable pub command_image : List ℕ → List ℕ → Command → List ℕ
unfolding is_show
command_image l w c = pick (is_show c.word) l (image_of l w c)

unfoldable pub command_space : List ℕ → List ℕ → Command → List ℕ
unfolding is_show
command_space l w c = pick (is_show c.word) w (left_of l w c)

-- the same of a line
unfoldable pub line_text : Option Command → List ℕ → List ℕ → List ℕ
unfolding command_text bad_line
line_text (Some c) l w = command_text l w c
line_text None l w = bad_line

unfoldable pub line_image : Option Command → List ℕ → List ℕ → List ℕ
unfolding command_image
line_image (Some c) l w = command_image l w c
line_image None l w = l

unfoldable pub line_space : Option Command → List ℕ → List ℕ → List ℕ
unfolding command_space
line_space (Some c) l w = command_space l w c
line_space None l w = w

-- an output too short: shorter than the longest answer, 20 bytes and 25 for each of 989 records
abbrev pub roomy : List ℕ → Bool
roomy out = leb longest (length out)

unfoldable pub printed_of : List ℕ → List ℕ → List ℕ → List ℕ → Option ℕ
unfolding line_text parsed
printed_of l w line out = pick (roomy out) (Some (length (line_text (parsed line) l w))) None

unfoldable pub out_of : List ℕ → List ℕ → List ℕ → List ℕ → List ℕ
unfolding line_text parsed
out_of l w line out = pick (roomy out) (over out 0 (line_text (parsed line) l w)) out

unfoldable pub image_after : List ℕ → List ℕ → List ℕ → List ℕ → List ℕ
unfolding line_image parsed
image_after l w line out = pick (roomy out) (line_image (parsed line) l w) l

unfoldable pub space_after : List ℕ → List ℕ → List ℕ → List ℕ → List ℕ
unfolding line_space parsed
space_after l w line out = pick (roomy out) (line_space (parsed line) l w) w
