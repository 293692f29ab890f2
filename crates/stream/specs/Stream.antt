-- Input that arrives in pieces, split into lines, each answered.
use Rattle.std.specs.Prelude.{List, [], ◌∷◌, ◌++◌, ℕ, eqb, length, take}
use Rattle.wire.specs.Bytes.{pick}
use Rattle.text.specs.Text.{onto}
use Rattle.parse.specs.Grammar.{parsed}
use Rattle.lines.specs.Answer.{line_text, line_image, line_space}

-- ---- a whole input

-- "A line ends at a newline byte, not counted, or at the input's end": nothing stands behind a last newline
unfoldable pub lines_of : List ℕ → List (List ℕ)
unfolding onto
lines_of [] = []
lines_of (b ∷ bs) = pick (eqb b 10) ([] ∷ lines_of bs) (onto b (lines_of bs))

-- the answers to lines, each on the image and the workspace that the one before left
unfoldable pub answers : List (List ℕ) → List ℕ → List ℕ → List ℕ
answers [] l w = []
answers (x ∷ xs) l w = line_text (parsed x) l w ++ answers xs (line_image (parsed x) l w) (line_space (parsed x) l w)

-- ---- byte by byte

-- what is there between two bytes: of the open line at most 81 bytes, the image and the workspace
pub record Open : Type 0 where
  pub kept : List ℕ
  pub image : List ℕ
  pub space : List ℕ

abbrev pub state : List ℕ → List ℕ → List ℕ → Open
state k l w = record { kept = k; image = l; space = w }

-- 81 bytes of a line tell that it is bad
unfoldable pub clip : List ℕ → List ℕ
clip k = take 81 k

-- a newline ends the open line, which is answered; another byte is kept
unfoldable pub next : Open → ℕ → Open
next s b =
    pick (eqb b 10)
    (state [] (line_image (parsed s.kept) s.image s.space) (line_space (parsed s.kept) s.image s.space))
    (state (clip (s.kept ++ (b ∷ []))) s.image s.space)

unfoldable pub reply : Open → ℕ → List ℕ
reply s b = pick (eqb b 10) (line_text (parsed s.kept) s.image s.space) []

-- bytes taken in, and what they have been answered
unfoldable pub after : Open → List ℕ → Open
after s [] = s
after s (b ∷ bs) = after (next s b) bs

unfoldable pub said : Open → List ℕ → List ℕ
said s [] = []
said s (b ∷ bs) = reply s b ++ said (next s b) bs

-- ---- at the input's end

-- what is there once lines are answered
unfoldable pub answered : List (List ℕ) → List ℕ → List ℕ → Open
answered [] l w = state [] l w
answered (x ∷ xs) l w = answered xs (line_image (parsed x) l w) (line_space (parsed x) l w)

-- and once the input's end has ended the open line, as a newline does; where no byte is kept no line is open
unfoldable pub ended : Open → Open
ended s = pick (eqb (length s.kept) 0) (state [] s.image s.space) (next s 10)

-- the answer to a line that the input's end ends
unfoldable pub ending : Open → List ℕ
ending s = pick (eqb (length s.kept) 0) [] (line_text (parsed s.kept) s.image s.space)
