-- Laws of bytes taken in.
use Rattle.std.specs.Prelude.{◌≡◌, refl, true, false, List, [], ◌∷◌, ◌++◌, ℕ, zero, suc, ◌≤◌, ◌<◌, eqb, length, take}
use Rattle.std.proofs.Common.{sym, ap, ◌∙◌, append_assoc, append-nil, arith, take_all, length-take-le}
use Rattle.std.proofs.lemmas.Bool.{lt-leb}
use Rattle.wire.specs.Cases.{by_test, by_lt}
use Rattle.parse.specs.Grammar.{parsed}
use Rattle.text.specs.Text.{before}
use Rattle.lines.specs.Answer.{line_text, line_image, line_space}
use Rattle.stream.specs.Stream.{Open, state, clip, next, reply, after, said}

-- ---- 81 bytes are enough

take-front : (n : ℕ) (k bs : List ℕ) → take n (take n k ++ bs) ≡ take n (k ++ bs)
take-front zero k bs = refl
take-front (suc n) [] bs = refl
take-front (suc n) (x ∷ k) bs = ap (λ (l : List ℕ). x ∷ l) (take-front n k bs)

pub clip_more : (k bs : List ℕ) → clip (clip k ++ bs) ≡ clip (k ++ bs)
unfolding clip
clip_more k bs = take-front 81 k bs

pub clip-short : (k : List ℕ) → length k ≤ 81 → clip k ≡ k
unfolding clip
clip-short k g = take_all 81 k g

pub parsed-clip : (k : List ℕ) → parsed (clip k) ≡ parsed k
unfolding parsed clip
parsed-clip k =
    by_lt 80 (length k)
    (λ g. rw (lt-leb (length (take 81 k)) 80 (omega (arith, length-take-le 81 k g)), lt-leb (length k) 80 g) refl)
    (λ g. rw (take_all 81 k (omega arith)) refl)

-- ---- one piece after another

pub after-append : (s : Open) (p q : List ℕ) → after s (p ++ q) ≡ after (after s p) q
unfolding after
after-append s [] q = refl
after-append s (b ∷ p) q = after-append (next s b) p q

pub said-append : (s : Open) (p q : List ℕ) → said s (p ++ q) ≡ said s p ++ said (after s p) q
unfolding after said
said-append s [] q = refl
said-append s (b ∷ p) q = ap (λ (l : List ℕ). reply s b ++ l) (said-append (next s b) p q) ∙ sym (append_assoc (reply s b) (said (next s b) p) (said (after (next s b) p) q))

-- ---- a piece without a newline is kept

not_here : (b : ℕ) (p : List ℕ) → eqb b 10 ≡ false → before 10 (b ∷ p) ≡ suc (before 10 p)
unfolding before
not_here b p e = rw e refl

here : (b : ℕ) (p : List ℕ) → eqb b 10 ≡ true → before 10 (b ∷ p) ≡ 0
unfolding before
here b p e = rw e refl

pub next-kept : (k l w : List ℕ) (b : ℕ) → eqb b 10 ≡ false → next (state (clip k) l w) b ≡ state (clip (k ++ (b ∷ []))) l w
unfolding next
next-kept k l w b e = rw (e, clip_more k (b ∷ [])) refl

pub next-none : (s : Open) (b : ℕ) → eqb b 10 ≡ false → reply s b ≡ []
unfolding reply
next-none s b e = rw e refl

pub held_on : (k l w p : List ℕ) → length p ≤ before 10 p → (after (state (clip k) l w) p ≡ state (clip (k ++ p)) l w) × (said (state (clip k) l w) p ≡ [])
unfolding after said
held_on k l w [] g = (rw (append-nil k) refl, refl)
held_on k l w (b ∷ p) g =
    by_test (eqb b 10)
    (λ e. absurd (omega (arith, here b p e)))
    (λ e.
    let i = held_on (k ++ (b ∷ [])) l w p (omega (arith, not_here b p e)) in
    (rw (next-kept k l w b e) (i.0 ∙ ap (λ (x : List ℕ). state (clip x) l w) (append_assoc k (b ∷ []) p)), rw (next-none (state (clip k) l w) b e, next-kept k l w b e) i.1))

-- ---- a newline ends the line

-- what stands once a line x is answered
abbrev pub closed : List ℕ → List ℕ → List ℕ → Open
closed x l w = state [] (line_image (parsed x) l w) (line_space (parsed x) l w)

pub next-closed : (k l w : List ℕ) (b : ℕ) → eqb b 10 ≡ true → next (state (clip k) l w) b ≡ closed k l w
unfolding next
next-closed k l w b e = rw (e, parsed-clip k) refl

pub next-reply : (k l w : List ℕ) (b : ℕ) → eqb b 10 ≡ true → reply (state (clip k) l w) b ≡ line_text (parsed k) l w
unfolding reply
next-reply k l w b e = rw (e, parsed-clip k) refl

pub line_ended : (k l w p : List ℕ) → before 10 p < length p
    → (after (state (clip k) l w) (take (suc (before 10 p)) p) ≡ closed (k ++ take (before 10 p) p) l w)
    × (said (state (clip k) l w) (take (suc (before 10 p)) p) ≡ line_text (parsed (k ++ take (before 10 p) p)) l w)
unfolding after said
line_ended k l w [] g = absurd (omega arith)
line_ended k l w (b ∷ p) g =
    by_test (eqb b 10)
    (λ e. rw (here b p e, append-nil k) (next-closed k l w b e, rw (next-reply k l w b e) (append-nil (line_text (parsed k) l w))))
    (λ e.
    let i = line_ended (k ++ (b ∷ [])) l w p (omega (arith, not_here b p e)) in
    let a = append_assoc k (b ∷ []) (take (before 10 p) p) in
    rw (not_here b p e) (
      rw (next-kept k l w b e) (i.0 ∙ ap (λ (x : List ℕ). closed x l w) a),
      rw (next-none (state (clip k) l w) b e, next-kept k l w b e) (i.1 ∙ ap (λ (x : List ℕ). line_text (parsed x) l w) a),
    ))
