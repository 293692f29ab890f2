-- A server's turns.
use Rattle.std.specs.Prelude.{◌≡◌, refl, List, [], ◌∷◌, ◌++◌, ℕ, ◌+◌, ◌-◌, ◌≤◌, ◌<◌, leb, length, take, drop, Ok, Err}
use Rattle.std.specs.declared.result.Result.{Result}
use Rattle.std.proofs.Common.{sym, ap, ◌∙◌, append-nil, arith, length-append, length-drop, take_all, take-add, length-take-le, eq-eqb, ne_eqb, le-leb}
use Rattle.std.proofs.Math.Bool.{or-true}
use Rattle.std.proofs.Math.Nat.{sub-zero}
use Rattle.std.proofs.Math.Seq.{take-append-add, take-append_seam}
use Rattle.std.proofs.lemmas.List.{take-append-le}
use Rattle.wire.specs.Cases.{by_lt}
use Rattle.parse.specs.Grammar.{parsed}
use Rattle.print.specs.Print.{longest}
use Rattle.lines.specs.Answer.{line_text}
use Rattle.stream.specs.declared.Fed.{Fed}
use Rattle.stream.specs.Stream.{Open, state, lines_of, answered, reply, after, said, ending, ended}
use Rattle.stream.specs.StreamLaws.{after-append, said-append}
use Rattle.stream.specs.LoopLaws.{parts}
use Rattle.stream.specs.Feeds.{Feeds}
use Rattle.stream.specs.Whole.{input_answered, input_left}
use Rattle.serve.specs.declared.Served.{Served}
use Rattle.serve.specs.declared.Served.TheVariants.{Input, Output, Bound}
use Rattle.serve.specs.Served.{Taken, Begun, Passes, Serving, Unwritten, Full, Serves, Ends}

-- the first n bytes of a buffer
pub part_long : (n : ℕ) (l : List ℕ) → n ≤ length l → n ≡ length (take (n - 0) (drop 0 l))
part_long n l g = sym (length-take-le (n - 0) (drop 0 l) (omega (arith, length-drop 0 l)) ∙ sub-zero n)

-- ---- bytes taken in

pub taken_none : (s : Open) → Taken s [] 0 s
unfolding after said
taken_none s = record { there = refl; sends = refl }

pub taken_then : (s t u : Open) (p q : List ℕ) (m n : ℕ) → Taken s p m t → Taken t q n u → Taken s (p ++ q) (m + n) u
taken_then s t u p q m n a b =
    record {
      there = b.there ∙ ap (λ (x : Open). after x q) a.there ∙ sym (after-append s p q);
      sends = omega (arith, a.sends, b.sends, ap (λ (x : Open). length (said x q)) a.there, ap length (said-append s p q), length-append (said s p) (said (after s p) q));
    }

-- ---- a piece

-- its first bytes fed
taken_fed : (s : Open) (p out : List ℕ) (f : Fed) (kept image space out' : List ℕ) → Feeds s p out f kept image space out' → Taken s (take f.used p) f.printed (state (take f.held kept) image space)
taken_fed s p out f kept image space out' g =
    record { there = parts (after s (take f.used p)) (take f.held kept) image space g.keeps g.images g.spaces; sends = g.counts }

-- the rest of it fed
pub taken_turn : (s t : Open) (p out : List ℕ) (from sent m : ℕ) (f : Fed) (kept image space out' : List ℕ) → Taken s (take from p) sent t
    → Feeds t (take (length p - from) (drop from p)) out f kept image space out' → m ≡ f.printed → Taken s (take (from + f.used) p) (sent + m) (state (take f.held kept) image space)
taken_turn s t p out from sent m f kept image space out' a g e =
    let u : Open = state (take f.held kept) image space in
    let whole : take (length p - from) (drop from p) ≡ drop from p = take_all (length p - from) (drop from p) (omega (arith, length-drop from p)) in
    let fed : Taken t (take f.used (take (length p - from) (drop from p))) f.printed u = taken_fed t (take (length p - from) (drop from p)) out f kept image space out' g in
    let b : Taken s (take from p ++ take f.used (drop from p)) (sent + f.printed) u
    = taken_then s t u (take from p) (take f.used (drop from p)) sent f.printed a (rw whole at fed) in
    rw (take-add from f.used p, e) b

-- with room for an answer some bytes are used, and none that are not there
pub turn_uses : (s : Open) (p out : List ℕ) (from : ℕ) (f : Fed) (kept image space out' : List ℕ) → Feeds s (take (length p - from) (drop from p)) out f kept image space out'
    → (f.used < length (take (length p - from) (drop from p)) → length out < f.printed + longest) → longest ≤ length out → from < length p → (0 < f.used) × (from + f.used ≤ length p)
unfolding said
turn_uses s p out from f kept image space out' g h q b =
    let rest : List ℕ = take (length p - from) (drop from p) in
    let long : length rest ≡ length p - from = length-take-le (length p - from) (drop from p) (omega (arith, length-drop from p)) in (
      by_lt 0 f.used
          (λ y. y)
          (λ z.
          let e : f.used ≡ 0 = omega arith in
          let n : f.printed ≡ 0 = g.counts ∙ ap (λ (u : ℕ). length (said s (take u rest))) e in
          absurd (omega (arith, n, h (omega (arith, long))))),
      omega (arith, long, g.within),
    )

-- all of it
pub taken_whole : (s t : Open) (p : List ℕ) (from sent : ℕ) → length p ≤ from → Taken s (take from p) sent t → Taken s p sent t
taken_whole s t p from sent g a = rw (take_all from p g) at a

pub taken_begun : (s : Open) (p : List ℕ) (from sent : ℕ) (t : Open) → Taken s (take from p) sent t → Begun s p t.image t.space
taken_begun s p from sent t a = record { taken = from; image = ap (λ (x : Open). x.image) a.there; space = ap (λ (x : Open). x.space) a.there }

-- by whether all was written
pub passed_on : {E : Type 0} (s : Open) (p : List ℕ) (r : Result ℕ E) (sent : ℕ) (t : Open) → Passes s p r t → r ≡ Ok sent → Taken s p sent t
unfolding Passes
passed_on s p r sent t h e = rw e at h

pub passed_off : {E : Type 0} (s : Open) (p : List ℕ) (r : Result ℕ E) (e : E) (t : Open) → Passes s p r t → r ≡ Err e → Begun s p t.image t.space
unfolding Passes
passed_off s p r e t h q = rw q at h

-- ---- the input so far

pub serving_none : (l w : List ℕ) → Serving l w 0 0 (state [] l w)
serving_none l w = record { input = []; reads = refl; taken = taken_none (state [] l w) }

pub serving_on : (l w : List ℕ) (read sent n m : ℕ) (t u : Open) (p : List ℕ) → Serving l w read sent t → Taken t p m u → n ≡ length p → Serving l w (read + n) (sent + m) u
serving_on l w read sent n m t u p a b e =
    record {
      input = a.input ++ p;
      reads = omega (arith, a.reads, length-append a.input p, e);
      taken = taken_then (state [] l w) t u a.input p sent m a.taken b;
    }

-- behind bytes taken in whole, the first of more
begun_behind : (s t : Open) (p q : List ℕ) (m : ℕ) (l w : List ℕ) → Taken s p m t → Begun t q l w → Begun s (p ++ q) l w
begun_behind s t p q m l w a b =
    let e : after s (take (length p + b.taken) (p ++ q)) ≡ after t (take b.taken q)
    = ap (after s) (take-append-add p q b.taken) ∙ after-append s p (take b.taken q) ∙ ap (λ (x : Open). after x (take b.taken q)) (sym a.there) in
    record { taken = length p + b.taken; image = b.image ∙ ap (λ (x : Open). x.image) (sym e); space = b.space ∙ ap (λ (x : Open). x.space) (sym e) }

-- more bytes that came
begun_more : (s : Open) (p q l w : List ℕ) → Begun s p l w → Begun s (p ++ q) l w
begun_more s p q l w b =
    by_lt (length p) b.taken
    (λ g. go (length p) (take-append_seam p q ∙ sym (take_all b.taken p (omega arith))))
    (λ g. go b.taken (take-append-le b.taken p q g))
  where
    go : (n : ℕ) → take n (p ++ q) ≡ take b.taken p → Begun s (p ++ q) l w
    go n e = record { taken = n; image = rw e b.image; space = rw e b.space }

-- ---- how serving ends

-- a write failed
pub unwritten : (l w : List ℕ) (read sent n : ℕ) (t : Open) (p l' w' : List ℕ) → Serving l w read sent t → Begun t p l' w' → n ≡ length p → Unwritten l w (read + n) l' w'
unwritten l w read sent n t p l' w' a b e =
    record {
      input = a.input ++ p;
      reads = omega (arith, a.reads, length-append a.input p, e);
      begun = begun_more (state [] l w) (a.input ++ p) (10 ∷ []) l' w' (begun_behind (state [] l w) t a.input p sent l' w' a.taken b);
    }

-- no line is open
pub ends_none : (s : Open) (read sent : ℕ) → length s.kept ≡ 0 → Ends s read sent (Input read sent) s.image s.space
unfolding Ends ending ended
ends_none s read sent z = rw (eq-eqb (length s.kept) 0 z) (refl, omega arith, refl, refl)

-- the open line is ended by a newline
pub ends_line : (s t : Open) (read sent m : ℕ) → 0 < length s.kept → Taken s (10 ∷ []) m t → Ends s read sent (Input read (sent + m)) t.image t.space
unfolding Ends ending ended after said reply
ends_line s t read sent m g a =
    rw (ne_eqb (length s.kept) 0 (λ q. absurd (omega arith)))
    (refl, omega (arith, a.sends, ap length (append-nil (line_text (parsed s.kept) s.image s.space))), ap (λ (x : Open). x.image) a.there, ap (λ (x : Open). x.space) a.there)

-- the bound
pub full_read : (l w kept l' w' : List ℕ) (read sent : ℕ) → Serving l w read sent (state kept l' w') → 9223372036854775808 ≤ read → Full l w read sent l' w'
full_read l w kept l' w' read sent a g = record { kept = kept; serving = a; full = rw (le-leb 9223372036854775808 read g) refl }

pub full_sent : (l w kept l' w' : List ℕ) (read sent : ℕ) → Serving l w read sent (state kept l' w') → 9223372036854775808 ≤ sent → Full l w read sent l' w'
full_sent l w kept l' w' read sent a g = record { kept = kept; serving = a; full = rw (le-leb 9223372036854775808 sent g) (or-true (leb 9223372036854775808 read)) }

-- the whole input
pub serves_end : (l w : List ℕ) (read sent : ℕ) (t : Open) (r : Served) (l' w' : List ℕ) → Serving l w read sent t → Ends t read sent r l' w' → Serves l w r l' w'
unfolding Serves Ends
serves_end l w read sent t (Input n m) l' w' a e =
    let bs : List ℕ = a.input in
    let s : Open = state [] l w in
    let left : ended t ≡ answered (lines_of bs) l w = ap ended a.taken.there ∙ input_left l w bs in
    record {
      input = bs;
      reads = e.0 ∙ a.reads;
      sends = omega (
        arith,
        e.1,
        a.taken.sends,
        ap (λ (x : Open). length (ending x)) a.taken.there,
        length-append (said s bs) (ending (after s bs)),
        ap length (input_answered l w bs),
      );
      image = e.2 ∙ ap (λ (x : Open). x.image) left;
      space = e.3 ∙ ap (λ (x : Open). x.space) left;
    }
serves_end l w read sent t (Output n) l' w' a e =
    record { input = a.input; reads = e.0 ∙ a.reads; begun = begun_behind (state [] l w) t a.input (10 ∷ []) sent l' w' a.taken e.1 }
serves_end l w read sent t (Bound n m) l' w' a e = absurd e
