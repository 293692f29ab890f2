-- Bytes taken in piece by piece are the lines of the whole input, answered one after another.
use Rattle.std.specs.Prelude.{◌≡◌, refl, List, [], ◌∷◌, ◌++◌, ℕ, eqb, length}
use Rattle.std.specs.declared.option.Option.{Option}
use Rattle.std.proofs.Common.{sym, ap, ◌∙◌, append_assoc, append-nil, arith, ne_eqb}
use Rattle.wire.specs.Cases.{by_test}
use Rattle.parse.specs.declared.Command.{Command}
use Rattle.text.specs.Text.{onto}
use Rattle.parse.specs.Grammar.{parsed}
use Rattle.lines.specs.Answer.{line_text, line_image, line_space}
use Rattle.stream.specs.Stream.{lines_of, answers, answered, Open, state, clip, after, said, ending, ended}
use Rattle.stream.specs.StreamLaws.{parsed-clip, after-append, said-append, next-kept, next-none, closed, next-closed, next-reply}

-- lines behind the bytes of one that is open
unfoldable pub behind : List ℕ → List (List ℕ) → List (List ℕ)
behind k (x ∷ xs) = (k ++ x) ∷ xs
behind [] [] = []
behind (b ∷ k) [] = (b ∷ k) ∷ []

behind-none : (xs : List (List ℕ)) → behind [] xs ≡ xs
unfolding behind
behind-none [] = refl
behind-none (x ∷ xs) = refl

behind-onto : (k : List ℕ) (b : ℕ) (xs : List (List ℕ)) → behind k (onto b xs) ≡ behind (k ++ (b ∷ [])) xs
unfolding behind onto
behind-onto [] b [] = refl
behind-onto (x ∷ k) b [] = refl
behind-onto k b (x ∷ xs) = ap (λ (l : List ℕ). l ∷ xs) (sym (append_assoc k (b ∷ []) x))

-- the line k is answered, then the others
first_line : (k l w : List ℕ) (xs : List (List ℕ))
    → (line_text (parsed k) l w ++ answers xs (line_image (parsed k) l w) (line_space (parsed k) l w) ≡ answers (behind k ([] ∷ xs)) l w)
    × (answered xs (line_image (parsed k) l w) (line_space (parsed k) l w) ≡ answered (behind k ([] ∷ xs)) l w)
unfolding answers answered behind
first_line k l w xs = rw (append-nil k) (refl, refl)

-- at the input's end
ends : (k l w : List ℕ) → (ending (state (clip k) l w) ≡ answers (behind k []) l w) × (ended (state (clip k) l w) ≡ answered (behind k []) l w)
unfolding ending ended answers answered behind clip
ends [] l w = (refl, refl)
ends (b ∷ k) l w =
    rw (ne_eqb (length (clip (b ∷ k))) 0 (λ q. absurd (omega (arith, q)))) (
      ap (λ (x : Option Command). line_text x l w) (parsed-clip (b ∷ k)) ∙ sym (append-nil (line_text (parsed (b ∷ k)) l w)),
      next-closed (b ∷ k) l w 10 refl,
    )

-- an open line k and the bytes behind it: what is answered, and what is left
rest_lines : (k l w bs : List ℕ)
    → (said (state (clip k) l w) bs ++ ending (after (state (clip k) l w) bs) ≡ answers (behind k (lines_of bs)) l w)
    × (ended (after (state (clip k) l w) bs) ≡ answered (behind k (lines_of bs)) l w)
unfolding said after lines_of clip
rest_lines k l w [] = ends k l w
rest_lines k l w (b ∷ bs) =
    by_test (eqb b 10)
    (λ e.
    let l' : List ℕ = line_image (parsed k) l w in
    let w' : List ℕ = line_space (parsed k) l w in
    let i = rest_lines [] l' w' bs in
    let n = behind-none (lines_of bs) in
    let f = first_line k l w (lines_of bs) in
    rw (e, next-closed k l w b e, next-reply k l w b e) (
      append_assoc (line_text (parsed k) l w) (said (closed k l w) bs) (ending (after (closed k l w) bs))
          ∙ ap (λ (t : List ℕ). line_text (parsed k) l w ++ t) (i.0 ∙ ap (λ (xs : List (List ℕ)). answers xs l' w') n) ∙ f.0,
      i.1 ∙ ap (λ (xs : List (List ℕ)). answered xs l' w') n ∙ f.1,
    ))
    (λ e.
    let i = rest_lines (k ++ (b ∷ [])) l w bs in
    let n = sym (behind-onto k b (lines_of bs)) in
    rw (e, next-none (state (clip k) l w) b e, next-kept k l w b e)
    (i.0 ∙ ap (λ (xs : List (List ℕ)). answers xs l w) n, i.1 ∙ ap (λ (xs : List (List ℕ)). answered xs l w) n))

-- ---- a whole input

-- "A line ends at a newline byte, not counted, or at the input's end": what is answered is the answers to the input's lines
pub input_answered : (l w bs : List ℕ) → said (state [] l w) bs ++ ending (after (state [] l w) bs) ≡ answers (lines_of bs) l w
unfolding clip
input_answered l w bs = (rest_lines [] l w bs).0 ∙ ap (λ (xs : List (List ℕ)). answers xs l w) (behind-none (lines_of bs))

-- and what is left is what they leave
pub input_left : (l w bs : List ℕ) → ended (after (state [] l w) bs) ≡ answered (lines_of bs) l w
unfolding clip
input_left l w bs = (rest_lines [] l w bs).1 ∙ ap (λ (xs : List (List ℕ)). answered xs l w) (behind-none (lines_of bs))

-- ---- pieces

-- each piece taken in on what the one before left
unfoldable pub after_all : Open → List (List ℕ) → Open
after_all s [] = s
after_all s (p ∷ ps) = after_all (after s p) ps

unfoldable pub said_all : Open → List (List ℕ) → List ℕ
said_all s [] = []
said_all s (p ∷ ps) = said s p ++ said_all (after s p) ps

unfoldable pub joined : List (List ℕ) → List ℕ
joined [] = []
joined (p ∷ ps) = p ++ joined ps

after-joined : (s : Open) (ps : List (List ℕ)) → after_all s ps ≡ after s (joined ps)
unfolding after_all joined after
after-joined s [] = refl
after-joined s (p ∷ ps) = after-joined (after s p) ps ∙ sym (after-append s p (joined ps))

said-joined : (s : Open) (ps : List (List ℕ)) → said_all s ps ≡ said s (joined ps)
unfolding said_all joined said
said-joined s [] = refl
said-joined s (p ∷ ps) = ap (λ (t : List ℕ). said s p ++ t) (said-joined (after s p) ps) ∙ sym (said-append s p (joined ps))

-- however the input arrives in pieces, what is answered is the answers to its lines
pub pieces_answered : (l w : List ℕ) (ps : List (List ℕ)) → said_all (state [] l w) ps ++ ending (after_all (state [] l w) ps) ≡ answers (lines_of (joined ps)) l w
pieces_answered l w ps = rw (after-joined (state [] l w) ps, said-joined (state [] l w) ps) (input_answered l w (joined ps))
