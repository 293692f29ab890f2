-- Lines worked out by hand.
use Rattle.std.specs.Prelude.{◌≡◌, refl, Bool, true, ◌&&◌, List, [], ◌∷◌, Option, Some, None, ℕ}
use Rattle.wire.specs.Bytes.{equal}
use Rattle.parse.specs.declared.Word.{Word}
use Rattle.parse.specs.declared.Word.TheVariants.{Put, Del, Set, Drop, Show}
use Rattle.parse.specs.declared.Command.{Command}
use Rattle.text.specs.Text.{fields, is_digit, digits_only, value_from, leads, number_of}
use Rattle.parse.specs.Grammar.{word_of, built, command_of, parsed}

-- a command as numbers: word, tag, level, second, phone, minutes; nothing for a bad line
number_of_word : Word → ℕ
number_of_word Put = 1
number_of_word Del = 2
number_of_word Set = 3
number_of_word Drop = 4
number_of_word Show = 5

numbers : Option Command → List ℕ
unfolding number_of_word
numbers (Some c) = number_of_word c.word ∷ c.tag ∷ c.call.level ∷ c.call.second ∷ c.call.phone ∷ c.call.minutes ∷ []
numbers None = []

record Row : Type 0 where
  line : List ℕ
  gives : List ℕ

right : List Row → Bool
unfolding numbers equal parsed
right [] = true
right (r ∷ rs) = equal (numbers (parsed r.line)) r.gives && right rs

table : List Row
table =
    -- put,7,1,100,9,0
    record { line = 112 ∷ 117 ∷ 116 ∷ 44 ∷ 55 ∷ 44 ∷ 49 ∷ 44 ∷ 49 ∷ 48 ∷ 48 ∷ 44 ∷ 57 ∷ 44 ∷ 48 ∷ []; gives = 1 ∷ 7 ∷ 1 ∷ 100 ∷ 9 ∷ 0 ∷ [] } ∷
    -- del,7,1,100,9,0
    record { line = 100 ∷ 101 ∷ 108 ∷ 44 ∷ 55 ∷ 44 ∷ 49 ∷ 44 ∷ 49 ∷ 48 ∷ 48 ∷ 44 ∷ 57 ∷ 44 ∷ 48 ∷ []; gives = 2 ∷ 7 ∷ 1 ∷ 100 ∷ 9 ∷ 0 ∷ [] } ∷
    -- set,0,0,0,0,0
    record { line = 115 ∷ 101 ∷ 116 ∷ 44 ∷ 48 ∷ 44 ∷ 48 ∷ 44 ∷ 48 ∷ 44 ∷ 48 ∷ 44 ∷ 48 ∷ []; gives = 3 ∷ 0 ∷ 0 ∷ 0 ∷ 0 ∷ 0 ∷ [] } ∷
    -- drop,4294967295,255,4294967295,65535,255
    record { line = 100 ∷ 114 ∷ 111 ∷ 112 ∷ 44 ∷ 52 ∷ 50 ∷ 57 ∷ 52 ∷ 57 ∷ 54 ∷ 55 ∷ 50 ∷ 57 ∷ 53 ∷ 44 ∷ 50 ∷ 53 ∷ 53 ∷ 44 ∷ 52 ∷ 50 ∷ 57 ∷ 52 ∷ 57 ∷ 54 ∷ 55 ∷ 50 ∷ 57 ∷ 53 ∷ 44 ∷ 54 ∷ 53 ∷ 53 ∷ 51 ∷ 53 ∷ 44 ∷ 50 ∷ 53 ∷ 53 ∷ []; gives = 4 ∷ 4294967295 ∷ 255 ∷ 4294967295 ∷ 65535 ∷ 255 ∷ [] } ∷
    -- list,7,0,0,0,0
    record { line = 108 ∷ 105 ∷ 115 ∷ 116 ∷ 44 ∷ 55 ∷ 44 ∷ 48 ∷ 44 ∷ 48 ∷ 44 ∷ 48 ∷ 44 ∷ 48 ∷ []; gives = 5 ∷ 7 ∷ 0 ∷ 0 ∷ 0 ∷ 0 ∷ [] } ∷
    -- put,07,1,100,9,0
    record { line = 112 ∷ 117 ∷ 116 ∷ 44 ∷ 48 ∷ 55 ∷ 44 ∷ 49 ∷ 44 ∷ 49 ∷ 48 ∷ 48 ∷ 44 ∷ 57 ∷ 44 ∷ 48 ∷ []; gives = [] } ∷
    -- put,00,1,100,9,0
    record { line = 112 ∷ 117 ∷ 116 ∷ 44 ∷ 48 ∷ 48 ∷ 44 ∷ 49 ∷ 44 ∷ 49 ∷ 48 ∷ 48 ∷ 44 ∷ 57 ∷ 44 ∷ 48 ∷ []; gives = [] } ∷
    -- put,4294967296,1,100,9,0
    record { line = 112 ∷ 117 ∷ 116 ∷ 44 ∷ 52 ∷ 50 ∷ 57 ∷ 52 ∷ 57 ∷ 54 ∷ 55 ∷ 50 ∷ 57 ∷ 54 ∷ 44 ∷ 49 ∷ 44 ∷ 49 ∷ 48 ∷ 48 ∷ 44 ∷ 57 ∷ 44 ∷ 48 ∷ []; gives = [] } ∷
    -- put,42949672950,1,100,9,0
    record { line = 112 ∷ 117 ∷ 116 ∷ 44 ∷ 52 ∷ 50 ∷ 57 ∷ 52 ∷ 57 ∷ 54 ∷ 55 ∷ 50 ∷ 57 ∷ 53 ∷ 48 ∷ 44 ∷ 49 ∷ 44 ∷ 49 ∷ 48 ∷ 48 ∷ 44 ∷ 57 ∷ 44 ∷ 48 ∷ []; gives = [] } ∷
    -- put,7,256,100,9,0
    record { line = 112 ∷ 117 ∷ 116 ∷ 44 ∷ 55 ∷ 44 ∷ 50 ∷ 53 ∷ 54 ∷ 44 ∷ 49 ∷ 48 ∷ 48 ∷ 44 ∷ 57 ∷ 44 ∷ 48 ∷ []; gives = [] } ∷
    -- put,7,1,4294967296,9,0
    record { line = 112 ∷ 117 ∷ 116 ∷ 44 ∷ 55 ∷ 44 ∷ 49 ∷ 44 ∷ 52 ∷ 50 ∷ 57 ∷ 52 ∷ 57 ∷ 54 ∷ 55 ∷ 50 ∷ 57 ∷ 54 ∷ 44 ∷ 57 ∷ 44 ∷ 48 ∷ []; gives = [] } ∷
    -- put,7,1,100,65536,0
    record { line = 112 ∷ 117 ∷ 116 ∷ 44 ∷ 55 ∷ 44 ∷ 49 ∷ 44 ∷ 49 ∷ 48 ∷ 48 ∷ 44 ∷ 54 ∷ 53 ∷ 53 ∷ 51 ∷ 54 ∷ 44 ∷ 48 ∷ []; gives = [] } ∷
    -- list,7,0,0,0,256
    record { line = 108 ∷ 105 ∷ 115 ∷ 116 ∷ 44 ∷ 55 ∷ 44 ∷ 48 ∷ 44 ∷ 48 ∷ 44 ∷ 48 ∷ 44 ∷ 50 ∷ 53 ∷ 54 ∷ []; gives = [] } ∷
    -- put,7,1,100,9
    record { line = 112 ∷ 117 ∷ 116 ∷ 44 ∷ 55 ∷ 44 ∷ 49 ∷ 44 ∷ 49 ∷ 48 ∷ 48 ∷ 44 ∷ 57 ∷ []; gives = [] } ∷
    -- put,7,1,100,9,0,0
    record { line = 112 ∷ 117 ∷ 116 ∷ 44 ∷ 55 ∷ 44 ∷ 49 ∷ 44 ∷ 49 ∷ 48 ∷ 48 ∷ 44 ∷ 57 ∷ 44 ∷ 48 ∷ 44 ∷ 48 ∷ []; gives = [] } ∷
    -- put,7,,100,9,0
    record { line = 112 ∷ 117 ∷ 116 ∷ 44 ∷ 55 ∷ 44 ∷ 44 ∷ 49 ∷ 48 ∷ 48 ∷ 44 ∷ 57 ∷ 44 ∷ 48 ∷ []; gives = [] } ∷
    -- an empty line
    record { line = []; gives = [] } ∷
    -- ,,,,,
    record { line = 44 ∷ 44 ∷ 44 ∷ 44 ∷ 44 ∷ []; gives = [] } ∷
    -- Put,7,1,100,9,0
    record { line = 80 ∷ 117 ∷ 116 ∷ 44 ∷ 55 ∷ 44 ∷ 49 ∷ 44 ∷ 49 ∷ 48 ∷ 48 ∷ 44 ∷ 57 ∷ 44 ∷ 48 ∷ []; gives = [] } ∷
    -- puts,7,1,100,9,0
    record { line = 112 ∷ 117 ∷ 116 ∷ 115 ∷ 44 ∷ 55 ∷ 44 ∷ 49 ∷ 44 ∷ 49 ∷ 48 ∷ 48 ∷ 44 ∷ 57 ∷ 44 ∷ 48 ∷ []; gives = [] } ∷
    -- put,7,1,100,9,0\r
    record { line = 112 ∷ 117 ∷ 116 ∷ 44 ∷ 55 ∷ 44 ∷ 49 ∷ 44 ∷ 49 ∷ 48 ∷ 48 ∷ 44 ∷ 57 ∷ 44 ∷ 48 ∷ 13 ∷ []; gives = [] } ∷
    -- put,+7,1,100,9,0
    record { line = 112 ∷ 117 ∷ 116 ∷ 44 ∷ 43 ∷ 55 ∷ 44 ∷ 49 ∷ 44 ∷ 49 ∷ 48 ∷ 48 ∷ 44 ∷ 57 ∷ 44 ∷ 48 ∷ []; gives = [] } ∷
    -- put, 7,1,100,9,0
    record { line = 112 ∷ 117 ∷ 116 ∷ 44 ∷ 32 ∷ 55 ∷ 44 ∷ 49 ∷ 44 ∷ 49 ∷ 48 ∷ 48 ∷ 44 ∷ 57 ∷ 44 ∷ 48 ∷ []; gives = [] } ∷
    -- put,-0,1,100,9,0
    record { line = 112 ∷ 117 ∷ 116 ∷ 44 ∷ 45 ∷ 48 ∷ 44 ∷ 49 ∷ 44 ∷ 49 ∷ 48 ∷ 48 ∷ 44 ∷ 57 ∷ 44 ∷ 48 ∷ []; gives = [] } ∷
    -- put,7,1,100,9,x
    record { line = 112 ∷ 117 ∷ 116 ∷ 44 ∷ 55 ∷ 44 ∷ 49 ∷ 44 ∷ 49 ∷ 48 ∷ 48 ∷ 44 ∷ 57 ∷ 44 ∷ 120 ∷ []; gives = [] } ∷
    -- pu,7,1,100,9,0
    record { line = 112 ∷ 117 ∷ 44 ∷ 55 ∷ 44 ∷ 49 ∷ 44 ∷ 49 ∷ 48 ∷ 48 ∷ 44 ∷ 57 ∷ 44 ∷ 48 ∷ []; gives = [] } ∷
    -- put,10,10,10,10,10
    record { line = 112 ∷ 117 ∷ 116 ∷ 44 ∷ 49 ∷ 48 ∷ 44 ∷ 49 ∷ 48 ∷ 44 ∷ 49 ∷ 48 ∷ 44 ∷ 49 ∷ 48 ∷ 44 ∷ 49 ∷ 48 ∷ []; gives = 1 ∷ 10 ∷ 10 ∷ 10 ∷ 10 ∷ 10 ∷ [] } ∷
    []

holds : right table ≡ true
unfolding right table fields word_of is_digit digits_only value_from leads number_of built command_of
holds = refl
