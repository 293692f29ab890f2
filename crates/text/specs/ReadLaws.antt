-- Fields and numbers, as the code reads them.
use Rattle.std.specs.Prelude.{◌≡◌, refl, ◌⊎◌, Bool, true, false, ◌&&◌, not, List, [], ◌∷◌, ◌++◌, Option, Some, None, MatchOption, IfSome, ℕ, suc, ◌+◌, ◌*◌, ◌-◌, ◌≤◌, ◌<◌, eqb, leb, ltb, length, take, drop, get_or}
use Rattle.std.proofs.Common.{append_assoc, drop_at, le_refl, inl, inr, sym, ap, ap₂, ◌∙◌, arith, add-one, length-append, length-drop, drop_of_length-le, drop-cons, drop-drop, take_all, le-leb, eq-eqb, ne_eqb, leb-true}
use Rattle.std.proofs.lemmas.Bool.{lt-leb, ltb-true, ltb-false}
use Rattle.std.proofs.lemmas.Grind.{common_steps}
use Rattle.std.proofs.lemmas.List.Recursion.{is_position_or_len}
use Rattle.std.proofs.lemmas.List.Sums.{prefix_len-le-length, position_or_len_is}
use Rattle.std.specs.List.{position, position_or_len, IsFirstMatchOrLen}
use Rattle.wire.specs.Bytes.{part}
use Rattle.wire.specs.Cases.{by_test, both, and_false}
use Rattle.text.specs.Text.{onto, fields, before, is_digit, digits_only, value_from, leads, number_of, Below}

-- ---- commas

before-is : (x : ℕ) (l : List ℕ) → before x l ≡ position_or_len (λ y. eqb y x) l
unfolding before
before-is x = is_position_or_len (before x) (λ y. eqb y x) refl (λ y l. by_test (eqb y x) (λ e. rw e) (λ e. rw e (omega arith)))

-- what a search of a whole list answers
pub found : (x : ℕ) (l : List ℕ) (r : Option ℕ) → r ≡ position (λ y. eqb y x) l → MatchOption r (before x l ≡ length l) (λ at. (at ≡ before x l) × (before x l < length l))
found x l r p =
    let most : position_or_len (λ y. eqb y x) l ≤ length l = prefix_len-le-length _ l in
    by_test (ltb (position_or_len (λ y. eqb y x) l) (length l))
    (λ e. rw (p, e) (sym (before-is x l), omega (arith, before-is x l, ltb-true _ _ e)))
    (λ e. rw (p, e) (omega (arith, before-is x l, ltb-false _ _ e)))

-- one turn of a search
pub before_here : (x : ℕ) (line : List ℕ) (i : ℕ) → i < length line → get_or line i 0 ≡ x → before x (drop i line) ≡ 0
unfolding before
before_here x line i g e = rw (drop-cons line i 0 g, eq-eqb _ _ e)

pub before_turn : (x : ℕ) (line : List ℕ) (i : ℕ) → i < length line → (get_or line i 0 ≡ x → ⊥) → before x (drop i line) ≡ suc (before x (drop (i + 1) line))
unfolding before
before_turn x line i g e = rw (add-one, drop-cons line i 0 g, ne_eqb _ _ e)

pub before_end : (x : ℕ) (line : List ℕ) (i : ℕ) → length line ≤ i → before x (drop i line) ≡ 0
unfolding before
before_end x line i g = rw (drop_of_length-le line {i = i} g)

-- the first field, up to a comma or the line's end
first : (l : List ℕ) → before 44 l < length l → fields l ≡ take (before 44 l) l ∷ fields (drop (suc (before 44 l)) l)
unfolding before fields onto
first [] g = absurd (omega arith)
first (x ∷ l) g =
    by_test (eqb x 44) (λ e. rw e)
    (λ e. rw e (ap (onto x) (first l (let h : before 44 (x ∷ l) ≡ suc (before 44 l) = rw e in omega arith))))

only : (l : List ℕ) → length l ≤ before 44 l → fields l ≡ l ∷ []
unfolding before fields onto
only [] g = refl
only (x ∷ l) g =
    by_test (eqb x 44) (λ e. let h : before 44 (x ∷ l) ≡ 0 = rw e in absurd (omega arith))
    (λ e. rw e (ap (onto x) (only l (let h : before 44 (x ∷ l) ≡ suc (before 44 l) = rw e in omega arith))))

-- the same, by where a search for a comma ends
pub first-at : (l f r : List ℕ) (x : ℕ) → l ≡ f ++ (x ∷ r) → IsFirstMatchOrLen (λ y. eqb y 44) l (length f) → fields l ≡ f ∷ fields r
first-at l f r x e m =
    let long : length l ≡ length f + suc (length r) = rw (e, length-append) in
    let b : before 44 l ≡ length f = before-is 44 l ∙ position_or_len_is (λ y. eqb y 44) l (length f) 0 (omega arith) (λ k h. m.0 k 0 (omega arith) h) (λ h. m.1 h 0) in
    let t : take (length f) l ≡ f = grind (arith, common_steps) in
    let d : drop (suc (length f)) l ≡ r = ap (drop (suc (length f))) (e ∙ sym (append_assoc f (x ∷ []) r)) ∙ drop_at (f ++ (x ∷ [])) r (suc (length f)) (rw length-append (omega arith)) in
    first l (omega arith) ∙ rw (b, t, d)

pub only-at : (l : List ℕ) → IsFirstMatchOrLen (λ y. eqb y 44) l (length l) → fields l ≡ l ∷ []
only-at l m =
    let b : before 44 l ≡ length l = before-is 44 l ∙ position_or_len_is (λ y. eqb y 44) l (length l) 0 (le_refl _) (λ k h. m.0 k 0 (omega arith) h) (λ h. m.1 h 0) in
    only l (omega arith)

-- the same in a line, by offsets: from is where a field begins, r where it ends
pub cut : (line : List ℕ) (from r : ℕ) → r ≡ from + before 44 (drop from line) → r < length line
    → fields (drop from line) ≡ part line from (r - from) ∷ fields (drop (r + 1) line)
unfolding part
cut line from r e g =
    let b : before 44 (drop from line) ≡ r - from = omega arith in
    let k : from + suc (before 44 (drop from line)) ≡ r + 1 = omega arith in
    first (drop from line) (rw length-drop (omega arith))
    ∙ ap₂ (λ (n : ℕ) (l : List ℕ). take n (drop from line) ∷ fields l) b (drop-drop (suc (before 44 (drop from line))) from line ∙ ap (λ (n : ℕ). drop n line) k)

pub last : (line : List ℕ) (from r : ℕ) → from ≤ length line → r ≡ from + before 44 (drop from line) → length line ≤ r
    → fields (drop from line) ≡ part line from (length line - from) ∷ []
unfolding part
last line from r h e g =
    only (drop from line) (rw length-drop (omega arith))
    ∙ ap (λ (l : List ℕ). l ∷ []) (sym (take_all (length line - from) (drop from line) (rw length-drop (omega arith))))

-- there is always a field
pub some-field : (l : List ℕ) → 0 < length (fields l)
unfolding fields onto
some-field [] = omega arith
some-field (x ∷ l) = by_test (eqb x 44) (λ e. rw e (omega arith)) (λ e. rw e (onto-some x (fields l)))
  where
    onto-some : (x : ℕ) (fs : List (List ℕ)) → 0 < length (onto x fs)
    onto-some x [] = omega arith
    onto-some x (f ∷ fs) = omega arith

-- ---- numbers

-- do digits after v give a number up to this one
unfoldable pub fits : ℕ → ℕ → List ℕ → Bool
fits most v f = digits_only f && leb (value_from v f) most

pub leads_short : (s : List ℕ) → length s ≡ 1 → leads s ≡ true
unfolding leads
leads_short [] g = absurd (omega arith)
leads_short (d ∷ []) g = refl
leads_short (d ∷ e ∷ s) g = absurd (omega arith)

pub leads_long : (s : List ℕ) → 2 ≤ length s → leads s ≡ not (eqb (get_or s 0 0) 48)
unfolding leads
leads_long [] g = absurd (omega arith)
leads_long (d ∷ []) g = absurd (omega arith)
leads_long (d ∷ e ∷ s) g = refl

-- as the test of the first digit answers it
pub led_short : (s : List ℕ) → length s < 2 → eqb (length s) 1 ≡ leads s
unfolding leads
led_short [] g = refl
led_short (d ∷ []) g = refl
led_short (d ∷ e ∷ s) g = absurd (omega arith)

pub led_long : (s : List ℕ) → 2 ≤ length s → not (eqb (get_or s 0 0) 48) ≡ leads s
led_long s g = sym (leads_long s g)

-- digits never make a number smaller
grows : (v : ℕ) (f : List ℕ) → v ≤ value_from v f
unfolding value_from
grows v [] = omega arith
grows v (d ∷ f) = omega (arith, grows (v * 10 + (d - 48)) f)

-- what the loop knows: v is the number of the first i digits
pub record Turn (most : ℕ) (s : List ℕ) (v i : ℕ) : Type 0 where
  pub inside : i ≤ length s
  pub small : v ≤ most
  pub fit : fits most v (drop i s) ≡ fits most 0 s
  pub value : value_from v (drop i s) ≡ value_from 0 s

pub turn_first : (most : ℕ) (s : List ℕ) → Turn most s 0 0
turn_first most s = record { inside = omega arith; small = omega arith; fit = refl; value = refl }

fits_turn : (most v : ℕ) (s : List ℕ) (i : ℕ) → i < length s → 48 ≤ get_or s i 0 → get_or s i 0 ≤ 57
    → fits most (v * 10 + (get_or s i 0 - 48)) (drop (i + 1) s) ≡ fits most v (drop i s)
unfolding fits digits_only is_digit value_from
fits_turn most v s i g a b = rw (add-one, drop-cons s i 0 g, le-leb 48 (get_or s i 0) a, le-leb (get_or s i 0) 57 b)

value_turn : (v : ℕ) (s : List ℕ) (i : ℕ) → i < length s → value_from (v * 10 + (get_or s i 0 - 48)) (drop (i + 1) s) ≡ value_from v (drop i s)
unfolding value_from
value_turn v s i g = rw (add-one, drop-cons s i 0 g)

pub turn_next : (most : ℕ) (s : List ℕ) (v i : ℕ) → i < length s → 48 ≤ get_or s i 0 → get_or s i 0 ≤ 57 → v * 10 + (get_or s i 0 - 48) ≤ most
    → Turn most s v i → Turn most s (v * 10 + (get_or s i 0 - 48)) (i + 1)
turn_next most s v i g a b h t =
    record {
      inside = omega arith;
      small = h;
      fit = fits_turn most v s i g a b ∙ t.fit;
      value = value_turn v s i g ∙ t.value;
    }

refused : (most : ℕ) (s : List ℕ) → fits most 0 s ≡ false → None ≡ number_of most s
unfolding number_of fits
refused most s e = rw (e, and_false (leads s))

-- no digit
pub turn_out : (most : ℕ) (s : List ℕ) (v i : ℕ) → i < length s → (get_or s i 0 < 48) ⊎ (57 < get_or s i 0) → Turn most s v i → None ≡ number_of most s
unfolding fits digits_only is_digit
turn_out most s v i g (inl h) t = refused most s (sym t.fit ∙ rw (drop-cons s i 0 g, lt-leb 48 (get_or s i 0) h))
turn_out most s v i g (inr h) t = refused most s (sym t.fit ∙ rw (drop-cons s i 0 g, lt-leb (get_or s i 0) 57 h, and_false (leb 48 (get_or s i 0))))

-- below the digits, and above them
pub turn_low : (most : ℕ) (s : List ℕ) (v i : ℕ) → i < length s → get_or s i 0 < 48 → Turn most s v i → None ≡ number_of most s
unfolding fits digits_only is_digit
turn_low most s v i g h t = refused most s (sym t.fit ∙ rw (drop-cons s i 0 g, lt-leb 48 (get_or s i 0) h))

pub turn_high : (most : ℕ) (s : List ℕ) (v i : ℕ) → i < length s → 57 < get_or s i 0 → Turn most s v i → None ≡ number_of most s
unfolding fits digits_only is_digit
turn_high most s v i g h t = refused most s (sym t.fit ∙ rw (drop-cons s i 0 g, lt-leb (get_or s i 0) 57 h, and_false (leb 48 (get_or s i 0))))

-- too large
fits-over : (most v : ℕ) (f : List ℕ) → most < v → fits most v f ≡ false
unfolding fits
fits-over most v f g = rw (lt-leb (value_from v f) most (omega (arith, grows v f)), and_false (digits_only f))

pub turn_over : (most : ℕ) (s : List ℕ) (v i : ℕ) → i < length s → 48 ≤ get_or s i 0 → get_or s i 0 ≤ 57 → most < v * 10 + (get_or s i 0 - 48)
    → Turn most s v i → None ≡ number_of most s
turn_over most s v i g a b h t = refused most s (sym (fits_turn most v s i g a b ∙ t.fit) ∙ fits-over most (v * 10 + (get_or s i 0 - 48)) (drop (i + 1) s) h)

pub turn_last : (most : ℕ) (s : List ℕ) (v i : ℕ) → length s ≤ i → leads s ≡ true → Turn most s v i → Some v ≡ number_of most s
unfolding number_of fits value_from digits_only
turn_last most s v i g e t =
    let n : drop i s ≡ [] = drop_of_length-le s {i = i} g in
    let a : fits most 0 s ≡ true = sym t.fit ∙ rw (n, le-leb v most t.small) in
    let b : v ≡ value_from 0 s = rw n at t.value in
    rw (e, a) (ap Some b)

pub unled_empty : (most : ℕ) (s : List ℕ) → length s < 1 → None ≡ number_of most s
unfolding number_of leads
unled_empty most [] g = refl
unled_empty most (d ∷ s) g = absurd (omega arith)

pub unled : (most : ℕ) (s : List ℕ) → leads s ≡ false → None ≡ number_of most s
unfolding number_of
unled most s e = rw e

pub unled_zero : (most : ℕ) (s : List ℕ) → 2 ≤ length s → get_or s 0 0 ≡ 48 → None ≡ number_of most s
unfolding number_of
unled_zero most s g e = let f : leads s ≡ false = leads_long s g ∙ rw e in rw f

pub number_at_most : (most : ℕ) (f : List ℕ) → IfSome (number_of most f) (λ v. v ≤ most)
unfolding number_of
number_at_most most f =
    by_test (leads f && (digits_only f && leb (value_from 0 f) most))
    (λ h. let g = both (digits_only f) (leb (value_from 0 f) most) (both (leads f) (digits_only f && leb (value_from 0 f) most) h).1 in rw h (leb-true (value_from 0 f) most g.1))
    (λ h. rw h tt)

value_of : ℕ → Option ℕ → ℕ
value_of k (Some v) = v
value_of k None = k

pub number_below : (most : ℕ) (f : List ℕ) → Below most (number_of most f)
unfolding number_of value_of
number_below most f v e =
    by_test (leads f && (digits_only f && leb (value_from 0 f) most))
    (λ h. let a : value_from 0 f ≡ v = ap (value_of 0) (rw h at e) in
    let g = both (digits_only f) (leb (value_from 0 f) most) (both (leads f) (digits_only f && leb (value_from 0 f) most) h).1 in
    omega (arith, leb-true (value_from 0 f) most g.1))
    (λ h. let a : most ≡ v = ap (value_of most) (rw h at e) in omega arith)
