-- The code's steps.
use Rattle.std.specs.Prelude.{◌≡◌, refl, List, [], ◌++◌, ℕ, ◌+◌, ◌-◌, ◌≤◌, ◌<◌, min, length, take, drop}
use Rattle.std.proofs.Common.{sym, ap, ap₂, ◌∙◌, arith, add-one, length-append, length-drop, take_all, length-take-le, take-add}
use Rattle.std.proofs.Math.Nat.{sub-zero}
use Rattle.std.proofs.Math.Seq.{take-append-add, take-append_seam, take-length}
use Rattle.wire.specs.Cases.{by_lt}
use Rattle.wire.specs.Bytes.{over}
use Rattle.wire.specs.BytesLaws.{over_is, over-nil, over-append, over-part}
use Rattle.parse.specs.Grammar.{parsed}
use Rattle.text.specs.Text.{before}
use Rattle.lines.specs.Answer.{line_text, line_image, line_space}
use Rattle.stream.specs.declared.Fed.{Fed}
use Rattle.stream.specs.Stream.{Open, state, clip, after, said}
use Rattle.stream.specs.StreamLaws.{clip-short, after-append, said-append, parsed-clip, held_on, closed, line_ended}
use Rattle.stream.specs.Feeds.{Feeds}

-- ---- bytes kept

written : (kept : List ℕ) (held : ℕ) (bs : List ℕ) → held + length bs ≤ length kept → take (held + length bs) (over kept held bs) ≡ take held kept ++ bs
written kept held bs g =
    let h : length (take held kept) ≡ held = length-take-le held kept (omega arith) in
    ap (take (held + length bs)) (over_is kept held bs g)
    ∙ ap (λ (n : ℕ). take (n + length bs) (take held kept ++ (bs ++ drop (held + length bs) kept))) (sym h)
    ∙ take-append-add (take held kept) (bs ++ drop (held + length bs) kept) (length bs)
    ∙ ap (λ (l : List ℕ). take held kept ++ l) (take-append_seam bs (drop (held + length bs) kept))

-- all of them, where they fit
pub keep_all : (kept : List ℕ) (held : ℕ) (bs k : List ℕ) → held + length bs ≤ 81 → 81 ≤ length kept → k ≡ over kept held bs
    → take (held + length bs) k ≡ clip (take held kept ++ bs)
keep_all kept held bs k g h e =
    let w = written kept held bs (omega arith) in
    rw e (w ∙ sym (clip-short (take held kept ++ bs) (omega (arith, length-append (take held kept) bs, length-take-le held kept (omega arith)))))

-- otherwise as many as make 81
pub keep_first : (kept : List ℕ) (held : ℕ) (bs k : List ℕ) → held ≤ 81 → 81 < held + length bs → 81 ≤ length kept → k ≡ over kept held (take (81 - held) bs)
    → take 81 k ≡ clip (take held kept ++ bs)
unfolding clip
keep_first kept held bs k g h f e =
    let n : length (take (81 - held) bs) ≡ 81 - held = length-take-le (81 - held) bs (omega arith) in
    let m : length (take held kept) ≡ held = length-take-le held kept (omega arith) in
    let s : held + (81 - held) ≡ 81 = omega arith in
    let w = written kept held (take (81 - held) bs) (omega (arith, n)) in
    rw e
    (ap (λ (j : ℕ). take j (over kept held (take (81 - held) bs))) (sym s ∙ ap (λ (j : ℕ). held + j) (sym n))
    ∙ w
    ∙ sym (take-append-add (take held kept) bs (81 - held))
    ∙ ap (λ (j : ℕ). take j (take held kept ++ bs)) (ap (λ (j : ℕ). j + (81 - held)) m ∙ s))

-- as a part from byte 0 on
pub keep_some : (kept : List ℕ) (held : ℕ) (bs k : List ℕ) → held ≤ 81 → 81 < held + length bs → 81 ≤ length kept → k ≡ over kept held (take (81 - held - 0) bs)
    → take 81 k ≡ clip (take held kept ++ bs)
keep_some kept held bs k g h f e = keep_first kept held bs k g h f (rw (sub-zero (81 - held)) at e)

-- either way
pub keep_as_fits : (kept : List ℕ) (held n : ℕ) (bs k : List ℕ) → held ≤ 81 → 81 ≤ length kept → n ≡ min (length bs) (81 - held) → k ≡ over kept held (take n bs)
    → take (held + n) k ≡ clip (take held kept ++ bs)
keep_as_fits kept held n bs k g h m e =
    by_lt (81 - held) (length bs)
    (λ f.
    let q : n ≡ 81 - held = omega arith in
    let s : held + (81 - held) ≡ 81 = omega arith in
    rw (q, s) (keep_first kept held bs k g (omega arith) h (rw q at e)))
    (λ f.
    let q : n ≡ length bs = omega arith in
    rw q (keep_all kept held bs k (omega arith) h (e ∙ ap (over kept held) (take_all n bs (omega arith)))))

-- ---- one line

short : (kept : List ℕ) (held : ℕ) → held ≤ 81 → 81 ≤ length kept → clip (take held kept) ≡ take held kept
short kept held g h = clip-short (take held kept) (omega (arith, length-take-le held kept (omega arith)))

-- the line in the bytes kept
pub line_kept : (kept kept' rest : List ℕ) (held end : ℕ) → take end kept' ≡ clip (take held kept ++ rest) → parsed (take end kept') ≡ parsed (take held kept ++ rest)
line_kept kept kept' rest held end e = rw e (parsed-clip (take held kept ++ rest))

pub kept_line : (kept kept' rest : List ℕ) (held end : ℕ) → take end kept' ≡ clip (take held kept ++ rest) → parsed (take (end - 0) kept') ≡ parsed (take held kept ++ rest)
kept_line kept kept' rest held end e = rw (sub-zero end) (line_kept kept kept' rest held end e)

module _ (kept image space piece out : List ℕ) (held : ℕ) (g : held ≤ 81) (h : 81 ≤ length kept) where
  -- a piece without a newline
  pub feeds_kept : (kept' : List ℕ) (k : ℕ) → length piece ≤ before 10 piece → take k kept' ≡ clip (take held kept ++ piece)
      → Feeds (state (take held kept) image space) piece out (record { used = length piece; held = k; printed = 0 }) kept' image space out
  feeds_kept kept' k n e =
      let s = held_on (take held kept) image space piece n in
      let q : state (take held kept) image space ≡ state (clip (take held kept)) image space = rw (short kept held g h) refl in
      let a : after (state (take held kept) image space) (take (length piece) piece) ≡ state (clip (take held kept ++ piece)) image space = rw (q, take-length piece) s.0 in
      let b : said (state (take held kept) image space) (take (length piece) piece) ≡ [] = rw (q, take-length piece) s.1 in
      record {
        within = omega arith;
        keeps = e ∙ ap (λ (x : Open). x.kept) (sym a);
        images = ap (λ (x : Open). x.image) (sym a);
        spaces = ap (λ (x : Open). x.space) (sym a);
        prints = sym (over-nil out 0) ∙ ap (over out 0) (sym b);
        counts = ap length (sym b);
        fits = omega arith;
      }

  -- a piece whose first line ends
  pub feeds_ended : (kept' image' space' out' : List ℕ) (end n : ℕ) → end ≡ before 10 piece → end < length piece
      → out' ≡ over out 0 (line_text (parsed (take held kept ++ take end piece)) image space) → n ≡ length (line_text (parsed (take held kept ++ take end piece)) image space)
      → image' ≡ line_image (parsed (take held kept ++ take end piece)) image space → space' ≡ line_space (parsed (take held kept ++ take end piece)) image space
      → n ≤ length out → Feeds (state (take held kept) image space) piece out (record { used = end + 1; held = 0; printed = n }) kept' image' space' out'
  feeds_ended kept' image' space' out' end n e l o c i w m =
      let s = line_ended (take held kept) image space piece (omega (arith, e)) in
      let q : state (take held kept) image space ≡ state (clip (take held kept)) image space = rw (short kept held g h) refl in
      let a : after (state (take held kept) image space) (take (end + 1) piece) ≡ closed (take held kept ++ take end piece) image space = rw (q, add-one, e) s.0 in
      let b : said (state (take held kept) image space) (take (end + 1) piece) ≡ line_text (parsed (take held kept ++ take end piece)) image space = rw (q, add-one, e) s.1 in
      record {
        within = omega arith;
        keeps = ap (λ (x : Open). x.kept) (sym a);
        images = i ∙ ap (λ (x : Open). x.image) (sym a);
        spaces = w ∙ ap (λ (x : Open). x.space) (sym a);
        prints = o ∙ ap (over out 0) (sym b);
        counts = c ∙ ap length (sym b);
        fits = m;
      }

  -- the line as a part from byte 0 on
  pub feeds_line : (kept' image' space' out' : List ℕ) (end n : ℕ) → end ≡ before 10 piece → end < length piece
      → out' ≡ over out 0 (line_text (parsed (take held kept ++ take (end - 0) piece)) image space) → n ≡ length (line_text (parsed (take held kept ++ take (end - 0) piece)) image space)
      → image' ≡ line_image (parsed (take held kept ++ take (end - 0) piece)) image space → space' ≡ line_space (parsed (take held kept ++ take (end - 0) piece)) image space
      → n ≤ length out → Feeds (state (take held kept) image space) piece out (record { used = end + 1; held = 0; printed = n }) kept' image' space' out'
  feeds_line kept' image' space' out' end n e l o c i w m =
      let z = sub-zero end in
      feeds_ended kept' image' space' out' end n e l (rw z at o) (rw z at c) (rw z at i) (rw z at w) m

-- ---- the loop over a piece's lines

-- a state is its three parts
pub parts : (s : Open) (k l w : List ℕ) → k ≡ s.kept → l ≡ s.image → w ≡ s.space → state k l w ≡ s
parts s k l w a b c = rw (a, b, c) refl

abbrev Fields : ℕ → ℕ → ℕ → Fed
Fields u h p = record { used = u; held = h; printed = p }

pub feeds_start : (kept image space piece out : List ℕ) (held : ℕ) → Feeds (state (take held kept) image space) piece out (Fields 0 held 0) kept image space out
unfolding after said
feeds_start kept image space piece out held = record { within = omega arith; keeps = refl; images = refl; spaces = refl; prints = sym (over-nil out 0); counts = refl; fits = omega arith }

-- the rest of the piece is fed to the rest of the output
pub feeds_rest : (s : Open) (piece out₀ kept image space out : List ℕ) (used held at : ℕ) (g : Fed) (kept' image' space' out' : List ℕ)
    → Feeds s piece out₀ (Fields used held at) kept image space out
    → length out ≡ length out₀ → at + g.printed ≤ length out
    → Feeds (state (take held kept) image space) (take (length piece - used) (drop used piece)) (take (length out - at) (drop at out)) g kept' image' space' out'
    → Feeds s piece out₀ (Fields (used + g.used) g.held (at + g.printed)) kept' image' space' (take at out ++ (out' ++ drop (length out - at) (drop at out)))
feeds_rest s piece out₀ kept image space out used held at g kept' image' space' out' f l r h =
    let whole : take (length piece - used) (drop used piece) ≡ drop used piece = take_all (length piece - used) (drop used piece) (omega (arith, length-drop used piece)) in
    let within' : g.used ≤ length piece - used = omega (arith, h.within, ap length whole, length-drop used piece) in
    let S : Open = after s (take used piece) in
    let st : state (take held kept) image space ≡ S = parts S (take held kept) image space f.keeps f.images f.spaces in
    let cut : take (used + g.used) piece ≡ take used piece ++ take g.used (drop used piece) = take-add used g.used piece in
    let a : after s (take (used + g.used) piece) ≡ after (state (take held kept) image space) (take g.used (take (length piece - used) (drop used piece)))
    = rw (cut, whole, st) (after-append s (take used piece) (take g.used (drop used piece))) in
    let text : List ℕ = said (state (take held kept) image space) (take g.used (take (length piece - used) (drop used piece))) in
    let b : said s (take (used + g.used) piece) ≡ said s (take used piece) ++ text
    = rw (cut, whole, st) (said-append s (take used piece) (take g.used (drop used piece))) in
    let zero_more : at ≡ 0 + length (said s (take used piece)) = omega (arith, f.counts) in
    record {
      within = omega (arith, f.within);
      keeps = h.keeps ∙ ap (λ (x : Open). x.kept) (sym a);
      images = h.images ∙ ap (λ (x : Open). x.image) (sym a);
      spaces = h.spaces ∙ ap (λ (x : Open). x.space) (sym a);
      prints =
          ap (λ (z : List ℕ). take at out ++ (z ++ drop (length out - at) (drop at out))) h.prints
          ∙ over-part at (length out - at) out text (omega (arith, h.counts)) (omega (arith, r))
          ∙ ap₂ (λ (z : List ℕ) (j : ℕ). over z j text) f.prints zero_more
          ∙ over-append out₀ 0 (said s (take used piece)) text
          ∙ ap (over out₀ 0) (sym b);
      counts = omega (arith, f.counts, h.counts, ap length b, length-append (said s (take used piece)) text);
      fits = omega (arith, r);
    }

-- by the length of the whole output
pub feeds_turn : (s : Open) (piece out₀ kept image space out : List ℕ) (used held at : ℕ) (g : Fed) (kept' image' space' out' : List ℕ)
    → Feeds s piece out₀ (Fields used held at) kept image space out
    → length out ≡ length out₀ → at + g.printed ≤ length out
    → Feeds (state (take held kept) image space) (take (length piece - used) (drop used piece)) (take (length out₀ - at) (drop at out)) g kept' image' space' out'
    → Feeds s piece out₀ (Fields (used + g.used) g.held (at + g.printed)) kept' image' space' (take at out ++ (out' ++ drop (length out₀ - at) (drop at out)))
feeds_turn s piece out₀ kept image space out used held at g kept' image' space' out' f l r h =
    rw (← l) (feeds_rest s piece out₀ kept image space out used held at g kept' image' space' out' f l r (rw (← l) at h))
