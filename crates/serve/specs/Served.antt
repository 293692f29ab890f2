-- What a server does with the bytes that it read. What the system's read and write do is not known.
use Rattle.std.specs.Prelude.{◌≡◌, true, ◌||◌, List, [], ◌∷◌, ◌++◌, ℕ, ◌+◌, leb, length, take, Ok, Err}
use Rattle.std.specs.declared.result.Result.{Result}
use Rattle.stream.specs.Stream.{Open, state, lines_of, answers, answered, after, said, ending, ended}
use Rattle.serve.specs.declared.Served.{Served}
use Rattle.serve.specs.declared.Served.TheVariants.{Input, Output, Bound}

-- bytes taken in, and all that they are answered written: so many bytes
pub record Taken (s : Open) (bs : List ℕ) (sent : ℕ) (t : Open) : Type 0 where
  pub there : t ≡ after s bs
  pub sends : sent ≡ length (said s bs)

-- only the first of them taken in, since a write failed
pub record Begun (s : Open) (bs l w : List ℕ) : Type 0 where
  pub taken : ℕ
  pub image : l ≡ (after s (take taken bs)).image
  pub space : w ≡ (after s (take taken bs)).space

-- a piece passed on: all answers written, so many bytes, or a write failed; and what is there now
unfoldable pub Passes : {E : Type 0} → Open → List ℕ → Result ℕ E → Open → Type 0
Passes s p (Ok sent) t = Taken s p sent t
Passes s p (Err e) t = Begun s p t.image t.space

-- the input so far, from image l and workspace w on: as many bytes as were read
pub record Serving (l w : List ℕ) (read sent : ℕ) (t : Open) : Type 0 where
  pub input : List ℕ
  pub reads : read ≡ length input
  pub taken : Taken (state [] l w) input sent t

-- ---- how serving ends

-- at the input's end: its lines are answered, one after another, and every byte of the answers is written
pub record Whole (l w : List ℕ) (read sent : ℕ) (l' w' : List ℕ) : Type 0 where
  pub input : List ℕ
  pub reads : read ≡ length input
  pub sends : sent ≡ length (answers (lines_of input) l w)
  pub image : l' ≡ (answered (lines_of input) l w).image
  pub space : w' ≡ (answered (lines_of input) l w).space

-- at a write that failed; the input's end stands for a newline
pub record Unwritten (l w : List ℕ) (read : ℕ) (l' w' : List ℕ) : Type 0 where
  pub input : List ℕ
  pub reads : read ≡ length input
  pub begun : Begun (state [] l w) (input ++ (10 ∷ [])) l' w'

-- at the bound: so many bytes were read or written
pub record Full (l w : List ℕ) (read sent : ℕ) (l' w' : List ℕ) : Type 0 where
  pub kept : List ℕ
  pub serving : Serving l w read sent (state kept l' w')
  pub full : leb 9223372036854775808 read || leb 9223372036854775808 sent ≡ true

unfoldable pub Serves : List ℕ → List ℕ → Served → List ℕ → List ℕ → Type 0
Serves l w (Input read sent) l' w' = Whole l w read sent l' w'
Serves l w (Output read) l' w' = Unwritten l w read l' w'
Serves l w (Bound read sent) l' w' = Full l w read sent l' w'

-- the open line ended, after so many bytes read and written
unfoldable pub Ends : Open → ℕ → ℕ → Served → List ℕ → List ℕ → Type 0
Ends s read sent (Input n m) l w = (n ≡ read) × (m ≡ sent + length (ending s)) × (l ≡ (ended s).image) × (w ≡ (ended s).space)
Ends s read sent (Output n) l w = (n ≡ read) × Begun s (10 ∷ []) l w
Ends s read sent (Bound n m) l w = ⊥
