-- A line as it is read: up to each comma, and each field as a number.
use Rattle.std.specs.Prelude.{List, Option, ℕ, ◌+◌, ◌-◌, length}
use Rattle.wire.specs.Bytes.{part}
use Rattle.parse.specs.declared.Command.{Command}
use Rattle.text.specs.Text.{number_of}
use Rattle.parse.specs.Grammar.{word_of, built}

-- the command of a line with commas at these offsets
unfoldable pub at_commas : List ℕ → ℕ → ℕ → ℕ → ℕ → ℕ → Option Command
at_commas l a b c d e =
    built (word_of (part l 0 a))
    (number_of 4294967295 (part l (a + 1) (b - (a + 1))))
    (number_of 255 (part l (b + 1) (c - (b + 1))))
    (number_of 4294967295 (part l (c + 1) (d - (c + 1))))
    (number_of 65535 (part l (d + 1) (e - (d + 1))))
    (number_of 255 (part l (e + 1) (length l - (e + 1))))
