-- A line and the command that it gives: "lines of six fields parted by commas, no quoting: word, tag, level, second, phone, minutes".
use Rattle.std.specs.Prelude.{List, [], ◌∷◌, Option, Some, None, ℕ, leb, length}
use Rattle.wire.specs.Bytes.{pick, equal}
use Rattle.text.specs.Text.{fields, number_of}
use Rattle.parse.specs.declared.Word.{Word}
use Rattle.parse.specs.declared.Command.{Command}
use Rattle.parse.specs.declared.Word.TheVariants.{Put, Del, Set, Drop, Show}

-- ---- words

-- "Words: `put`, `del`, `set`, `drop`, `list`"
unfoldable pub word_of : List ℕ → Option Word
unfolding equal
word_of f =
    pick (equal f (112 ∷ 117 ∷ 116 ∷ [])) (Some Put)
    (pick (equal f (100 ∷ 101 ∷ 108 ∷ [])) (Some Del)
    (pick (equal f (115 ∷ 101 ∷ 116 ∷ [])) (Some Set)
    (pick (equal f (100 ∷ 114 ∷ 111 ∷ 112 ∷ [])) (Some Drop)
    (pick (equal f (108 ∷ 105 ∷ 115 ∷ 116 ∷ [])) (Some Show) None))))

-- ---- the line

-- all six are right, or the line is bad
unfoldable pub built : Option Word → Option ℕ → Option ℕ → Option ℕ → Option ℕ → Option ℕ → Option Command
built (Some w) (Some t) (Some l) (Some s) (Some p) (Some m) =
    Some (record { word = w; tag = t; call = record { level = l; second = s; phone = p; minutes = m } })
built (Some w) (Some t) (Some l) (Some s) (Some p) None = None
built (Some w) (Some t) (Some l) (Some s) None m = None
built (Some w) (Some t) (Some l) None p m = None
built (Some w) (Some t) None s p m = None
built (Some w) None l s p m = None
built None t l s p m = None

-- "Unused fields are still there and not looked at beyond their range"
unfoldable pub command_of : List (List ℕ) → Option Command
unfolding built word_of number_of
command_of (w ∷ t ∷ l ∷ s ∷ p ∷ m ∷ []) = built (word_of w) (number_of 4294967295 t) (number_of 255 l) (number_of 4294967295 s) (number_of 65535 p) (number_of 255 m)
command_of [] = None
command_of (w ∷ []) = None
command_of (w ∷ t ∷ []) = None
command_of (w ∷ t ∷ l ∷ []) = None
command_of (w ∷ t ∷ l ∷ s ∷ []) = None
command_of (w ∷ t ∷ l ∷ s ∷ p ∷ []) = None
command_of (w ∷ t ∷ l ∷ s ∷ p ∷ m ∷ x ∷ xs) = None

-- "`bad` for any other line or one over 80 bytes"
unfoldable pub parsed : List ℕ → Option Command
unfolding command_of fields
parsed l = pick (leb (length l) 80) (command_of (fields l)) None
