-- What is printed.
use Rattle.std.specs.Prelude.{List, [], ◌∷◌, ◌++◌, ℕ, length}
use Rattle.records.specs.declared.Record.{Record}
use Rattle.text.specs.Text.{field}

-- "each record's level, second, phone, minutes"
unfoldable pub record_line : Record → List ℕ
unfolding field
record_line r = field r.level 44 ++ (field r.second 44 ++ (field r.phone 44 ++ field r.minutes 10))

unfoldable pub record_lines : List Record → List ℕ
unfolding record_line
record_lines [] = []
record_lines (r ∷ rs) = record_line r ++ record_lines rs

-- "`list` prints tag and count, then each record"
unfoldable pub head_line : ℕ → ℕ → List ℕ
unfolding field
head_line t n = 108 ∷ 105 ∷ 115 ∷ 116 ∷ 44 ∷ (field t 44 ++ field n 10)

unfoldable pub list_lines : ℕ → List Record → List ℕ
unfolding head_line record_lines
list_lines t rs = head_line t (length rs) ++ record_lines rs

-- the bytes of the longest answer, that of a list of 989 records
abbrev pub longest : ℕ
longest = 24745

-- "It prints `ok`, `no,` and the refusal, or `bad`"
unfoldable pub ok_line : List ℕ
ok_line = 111 ∷ 107 ∷ 10 ∷ []

unfoldable pub no_line : ℕ → List ℕ
unfolding field
no_line n = 110 ∷ 111 ∷ 44 ∷ field n 10

unfoldable pub bad_line : List ℕ
bad_line = 98 ∷ 97 ∷ 100 ∷ 10 ∷ []
