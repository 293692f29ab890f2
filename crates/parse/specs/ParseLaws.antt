-- Laws of the grammar, as the code reads a line.
use Rattle.std.specs.Prelude.{◌≡◌, refl, List, [], ◌∷◌, ◌++◌, Option, Some, None, is_some, Bool, true, false, ◌&&◌, eqb, get_or, ℕ, suc, ◌+◌, ◌-◌, ◌≤◌, ◌<◌, length, drop}
use Rattle.std.proofs.Common.{append_assoc, length-append, append-nil, ne_eqb, sym, ap, ◌∙◌, arith, le-leb}
use Rattle.std.proofs.Math.Nat.{sub-zero}
use Rattle.std.proofs.lemmas.Bool.{lt-leb}
use Rattle.wire.specs.Bytes.{pick, part, equal}
use Rattle.wire.specs.Cases.{by_test, by_eq, and_true, and_false}
use denote.Ref.{Bor}
use denote.Param.Members.{Mut}
use Rattle.std.specs.Fn.{ComputesKey}
use Rattle.std.specs.Slice.Iter.{split_rest, split_done, split_callee, split_steps}
use Rattle.std.specs.declared.slice.Split.{Split}
use Rattle.parse.specs.declared.Command.{Command}
use Rattle.parse.specs.declared.Word.{Word}
use Rattle.parse.specs.declared.Word.TheVariants.{Put, Del, Set, Drop, Show}
use Rattle.text.specs.Text.{fields, before, number_of}
use Rattle.text.specs.ReadLaws.{first-at, only-at, cut, last, some-field}
use Rattle.parse.specs.Grammar.{word_of, built, command_of, parsed}
use Rattle.parse.specs.Commas.{at_commas}

-- ---- words

-- a word of three letters and one of four, told by the length and each letter
three : (s : List ℕ) (x y z : ℕ) → equal s (x ∷ y ∷ z ∷ []) ≡ eqb (length s) 3 && (eqb (get_or s 0 0) x && (eqb (get_or s 1 0) y && eqb (get_or s 2 0) z))
unfolding equal
three [] x y z = refl
three (p ∷ []) x y z = rw and_false
three (p ∷ q ∷ []) x y z = rw (and_false (eqb q y), and_false (eqb p x))
three (p ∷ q ∷ r ∷ []) x y z = rw and_true
three (p ∷ q ∷ r ∷ t ∷ s) x y z =
    let e : eqb (length (p ∷ q ∷ r ∷ t ∷ s)) 3 ≡ false = ne_eqb _ _ (λ f. omega arith) in
    rw (e, and_false (eqb r z), and_false (eqb q y), and_false (eqb p x))

four : (s : List ℕ) (w x y z : ℕ) → equal s (w ∷ x ∷ y ∷ z ∷ []) ≡ eqb (length s) 4 && (eqb (get_or s 0 0) w && (eqb (get_or s 1 0) x && (eqb (get_or s 2 0) y && eqb (get_or s 3 0) z)))
unfolding equal
four [] w x y z = refl
four (o ∷ s) w x y z = by_eq (length s) 3
    (λ e. rw (three s x y z, e))
    (λ e. rw (three s x y z, ne_eqb (length s) 3 e, ne_eqb (suc (length s)) 4 (λ f. e (omega arith)), and_false (eqb o w)))

abbrev pub word_by : ℕ → ℕ → ℕ → ℕ → ℕ → Option Word
word_by n a b c d =
    pick (eqb n 3 && (eqb a 112 && (eqb b 117 && eqb c 116))) (Some Put)
    (pick (eqb n 3 && (eqb a 100 && (eqb b 101 && eqb c 108))) (Some Del)
    (pick (eqb n 3 && (eqb a 115 && (eqb b 101 && eqb c 116))) (Some Set)
    (pick (eqb n 4 && (eqb a 100 && (eqb b 114 && (eqb c 111 && eqb d 112)))) (Some Drop)
    (pick (eqb n 4 && (eqb a 108 && (eqb b 105 && (eqb c 115 && eqb d 116)))) (Some Show) None))))

pub word_bytes : (s : List ℕ) → word_of s ≡ word_by (length s) (get_or s 0 0) (get_or s 1 0) (get_or s 2 0) (get_or s 3 0)
unfolding word_of
word_bytes s = rw (three s 112 117 116, three s 100 101 108, three s 115 101 116, four s 100 114 111 112, four s 108 105 115 116)

-- ---- the line

pub bad_long : (line : List ℕ) → 80 < length line → None ≡ parsed line
unfolding parsed
bad_long line g = rw (lt-leb (length line) 80 g)

pub bad : (line : List ℕ) → length line ≤ 80 → command_of (fields line) ≡ None → None ≡ parsed line
unfolding parsed
bad line g e = rw (le-leb (length line) 80 g, e)

pub good_command : (line : List ℕ) (c : Command) → length line ≤ 80 → command_of (fields line) ≡ Some c → Some c ≡ parsed line
unfolding parsed
good_command line c g e = rw (le-leb (length line) 80 g, e)

pub not_six : (fs : List (List ℕ)) → (length fs ≡ 6 → ⊥) → command_of fs ≡ None
unfolding command_of
not_six [] g = refl
not_six (w ∷ []) g = refl
not_six (w ∷ t ∷ []) g = refl
not_six (w ∷ t ∷ l ∷ []) g = refl
not_six (w ∷ t ∷ l ∷ s ∷ []) g = refl
not_six (w ∷ t ∷ l ∷ s ∷ p ∷ []) g = refl
not_six (w ∷ t ∷ l ∷ s ∷ p ∷ m ∷ []) g = absurd (g refl)
not_six (w ∷ t ∷ l ∷ s ∷ p ∷ m ∷ x ∷ xs) g = refl

-- a line is bad where one of its first six fields is not right, whatever their number
pub wrong : (fs : List (List ℕ))
    → built (word_of (get_or fs 0 [])) (number_of 4294967295 (get_or fs 1 [])) (number_of 255 (get_or fs 2 [])) (number_of 4294967295 (get_or fs 3 [])) (number_of 65535 (get_or fs 4 [])) (number_of 255 (get_or fs 5 [])) ≡ None
    → command_of fs ≡ None
unfolding command_of
wrong [] e = refl
wrong (w ∷ []) e = refl
wrong (w ∷ t ∷ []) e = refl
wrong (w ∷ t ∷ l ∷ []) e = refl
wrong (w ∷ t ∷ l ∷ s ∷ []) e = refl
wrong (w ∷ t ∷ l ∷ s ∷ p ∷ []) e = refl
wrong (w ∷ t ∷ l ∷ s ∷ p ∷ m ∷ []) e = e
wrong (w ∷ t ∷ l ∷ s ∷ p ∷ m ∷ x ∷ xs) e = refl

-- ---- a line split at its commas

-- the fields that a split has still to give
abbrev pub remaining : {F : Type 0} → Split ℕ F → List (List ℕ)
remaining s = pick (split_done s) [] (fields (split_rest s))

-- a line's split is at s after these fields
pub record Taken {F : Type 0} (g : Mut F (Bor ℕ × Unit {0}) Bool) (line : List ℕ) (fs : List (List ℕ)) (s : Split ℕ F) : Type 0 where
  pub comma : ComputesKey g (λ x. eqb x 44) (split_callee s)
  pub all : fields line ≡ fs ++ remaining s

module _ {F : Type 0} {g : Mut F (Bor ℕ × Unit {0}) Bool} where
  pub taken_none : (line : List ℕ) (s : Split ℕ F) → split_rest s ≡ line → split_done s ≡ false → ComputesKey g (λ x. eqb x 44) (split_callee s) → Taken g line [] s
  taken_none line s e f k = record { comma = k; all = rw (f, e) }

  one_more : (s t : Split ℕ F) (x : Bor (List ℕ)) → ComputesKey g (λ x. eqb x 44) (split_callee s) → split_steps g s (Some x) t → remaining s ≡ x.now ∷ remaining t
  one_more s t x k st =
      let m = (st.2 (λ y. eqb y 44) k).1 in
      by_test (split_done t)
      (λ e. let f = rw e at st.1 in rw (st.0, e, f) (only-at x.now (rw f at m)))
      (λ e. let f = rw e at st.1 in rw (st.0, e) (first-at (split_rest s) x.now (split_rest t) f.0 f.1 m))

  pub taken_more : {line : List ℕ} {fs : List (List ℕ)} {s : Split ℕ F} (t : Split ℕ F) (x : Bor (List ℕ)) → split_steps g s (Some x) t → Taken g line fs s → Taken g line (fs ++ (x.now ∷ [])) t
  taken_more {fs = fs} {s = s} t x st k = record {
    comma = (st.2 (λ y. eqb y 44) k.comma).0;
    all = k.all ∙ ap (λ (r : List (List ℕ)). fs ++ r) (one_more s t x k.comma st) ∙ sym (append_assoc fs (x.now ∷ []) (remaining t));
  }

  pub taken_all : {line : List ℕ} {fs : List (List ℕ)} {s : Split ℕ F} (t : Split ℕ F) → Taken g line fs s → split_steps g s None t → fields line ≡ fs
  taken_all t k st = rw (st.0, append-nil) at k.all

  -- whether one more comes tells whether these are all
  pub no_more : {line : List ℕ} {fs : List (List ℕ)} {s : Split ℕ F} (t : Split ℕ F) (o : Option (Bor (List ℕ))) → split_steps g s o t → Taken g line fs s → is_some o ≡ false → fields line ≡ fs
  no_more t None st k e = taken_all t k st
  no_more t (Some x) st k e = cc

  pub one_beyond : {line : List ℕ} {fs : List (List ℕ)} {s : Split ℕ F} (t : Split ℕ F) (o : Option (Bor (List ℕ))) → split_steps g s o t → Taken g line fs s → is_some o ≡ true → length fs < length (fields line)
  one_beyond t None st k e = cc
  one_beyond {fs = fs} t (Some x) st k e = let f = simp length-append at (ap length (taken_more t x st k).all) in omega arith

-- ---- a line by the offsets of its commas

pub built-at : (line : List ℕ) (a b c d e : ℕ) (w : Option Word) (t l s p m : Option ℕ) → w ≡ word_of (part line 0 (a - 0))
    → t ≡ number_of 4294967295 (part line (a + 1) (b - (a + 1))) → l ≡ number_of 255 (part line (b + 1) (c - (b + 1)))
    → s ≡ number_of 4294967295 (part line (c + 1) (d - (c + 1))) → p ≡ number_of 65535 (part line (d + 1) (e - (d + 1)))
    → m ≡ number_of 255 (part line (e + 1) (length line - (e + 1))) → built w t l s p m ≡ at_commas line a b c d e
unfolding at_commas
built-at line a b c d e w t l s p m ew et el es ep em = rw (ew, et, el, es, ep, em, sub-zero)

bad_count : (line : List ℕ) → length line ≤ 80 → (length (fields line) ≡ 6 → ⊥) → None ≡ parsed line
unfolding parsed
bad_count line g h = rw (le-leb (length line) 80 g) (sym (not_six (fields line) h))

-- as many fields up to an offset, and those from there on
abbrev pub Counted : List ℕ → ℕ → ℕ → Type 0
Counted line n at = length (fields line) ≡ n + length (fields (drop at line))

pub count_next : (line : List ℕ) (n from r : ℕ) → Counted line n from → r ≡ from + before 44 (drop from line) → r < length line → Counted line (n + 1) (r + 1)
count_next line n from r s e g = omega (arith, ap length (cut line from r e g))

pub bad_few : (line : List ℕ) (n from r : ℕ) → length line ≤ 80 → Counted line n from → n < 5 → from ≤ length line → r ≡ from + before 44 (drop from line) → length line ≤ r
    → None ≡ parsed line
bad_few line n from r g s k h e f = bad_count line g (λ z. omega (arith, ap length (last line from r h e f)))

pub bad_many : (line : List ℕ) (at : ℕ) → length line ≤ 80 → Counted line 6 at → None ≡ parsed line
bad_many line at g s = bad_count line g (λ z. omega (arith, some-field (drop at line)))

pub good : (line : List ℕ) (a b c d e f : ℕ) → length line ≤ 80 → e < length line → length line ≤ f
    → a ≡ 0 + before 44 (drop 0 line) → b ≡ a + 1 + before 44 (drop (a + 1) line) → c ≡ b + 1 + before 44 (drop (b + 1) line)
    → d ≡ c + 1 + before 44 (drop (c + 1) line) → e ≡ d + 1 + before 44 (drop (d + 1) line) → f ≡ e + 1 + before 44 (drop (e + 1) line)
    → at_commas line a b c d e ≡ parsed line
unfolding parsed command_of at_commas
good line a b c d e f g h k ea eb ec ed ee ef =
    let fs = cut line 0 a ea (omega arith)
    ∙ ap (◌∷◌ (part line 0 (a - 0))) (cut line (a + 1) b eb (omega arith)
    ∙ ap (◌∷◌ (part line (a + 1) (b - (a + 1)))) (cut line (b + 1) c ec (omega arith)
    ∙ ap (◌∷◌ (part line (b + 1) (c - (b + 1)))) (cut line (c + 1) d ed (omega arith)
    ∙ ap (◌∷◌ (part line (c + 1) (d - (c + 1)))) (cut line (d + 1) e ee h
    ∙ ap (◌∷◌ (part line (d + 1) (e - (d + 1)))) (last line (e + 1) f (omega arith) ef k))))) in
    rw (le-leb (length line) 80 g) (sym (ap command_of (rw sub-zero at fs)))
