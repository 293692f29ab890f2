-- Laws of stores: cuts, runs, and bytes that no store goes to.
use Rattle.std.specs.Prelude.{◌≡◌, refl, ◌≢◌, ℕ, zero, suc, ◌+◌, ◌-◌, ◌≤◌, ◌<◌, List, [], ◌∷◌, ◌++◌, length, take, drop, set, get_or}
use Rattle.std.proofs.Common.{sym, ap, subst, ◌∙◌, add-zero, add-suc, suc-add, arith, length-set, length-drop, get_or-set_other, ext_get_or, get_or-drop}
use Rattle.std.proofs.Math.Nat.{zero-sub, sub-zero, suc-sub-suc}
use Rattle.std.proofs.Math.Seq.{take-nil}
use Rattle.std.proofs.lemmas.List.{drop-set-add}
use Rattle.wire.specs.Bytes.{over}
use Rattle.wire.specs.BytesLaws.{over-nil, over-cons}
use Rattle.wire.specs.All.{All, none, more, all_map}
use Rattle.redo.specs.Store.{Store, apply, run}

-- ---- apply

pub apply-none : (l : List ℕ) → apply [] l ≡ l
unfolding apply
apply-none l = refl

pub apply-append : (ss ts : List Store) (l : List ℕ) → apply (ss ++ ts) l ≡ apply ts (apply ss l)
unfolding apply
apply-append [] ts l = refl
apply-append (s ∷ ss) ts l = apply-append ss ts (set l s.at s.byte)

pub length-apply : (ss : List Store) (l : List ℕ) → length (apply ss l) ≡ length l
unfolding apply
length-apply [] l = refl
length-apply (s ∷ ss) l = length-apply ss (set l s.at s.byte) ∙ length-set l s.at s.byte

-- a cut of two parts is the cut of the first, then what is left of the second
pub take-append : {A : Type 0} (n : ℕ) (xs ys : List A) → take n (xs ++ ys) ≡ take n xs ++ take (n - length xs) ys
take-append n [] ys = simp (sub-zero, take-nil)
take-append zero (x ∷ xs) ys = rw zero-sub
take-append (suc n) (x ∷ xs) ys = rw suc-sub-suc (ap (λ (r : List _). x ∷ r) (take-append n xs ys))

pub apply-take-append : (n : ℕ) (ss ts : List Store) (l : List ℕ)
    → apply (take n (ss ++ ts)) l ≡ apply (take (n - length ss) ts) (apply (take n ss) l)
apply-take-append n ss ts l = rw take-append (apply-append (take n ss) (take (n - length ss) ts) l)

-- ---- run

pub length_run : (a : ℕ) (bs : List ℕ) → length (run a bs) ≡ length bs
unfolding run
length_run a [] = refl
length_run a (b ∷ bs) = ap suc (length_run (suc a) bs)

pub run-append : (a : ℕ) (bs cs : List ℕ) → run a (bs ++ cs) ≡ run a bs ++ run (a + length bs) cs
unfolding run
run-append a [] cs = rw add-zero
run-append a (b ∷ bs) cs = rw (add-suc, ← suc-add) (ap (λ (r : List Store). record { at = a; byte = b } ∷ r) (run-append (suc a) bs cs))

pub take-run : (n a : ℕ) (bs : List ℕ) → take n (run a bs) ≡ run a (take n bs)
unfolding run
take-run zero a [] = refl
take-run zero a (b ∷ bs) = refl
take-run (suc n) a [] = refl
take-run (suc n) a (b ∷ bs) = ap (λ (r : List Store). record { at = a; byte = b } ∷ r) (take-run n (suc a) bs)

pub apply-run : (a : ℕ) (bs l : List ℕ) → apply (run a bs) l ≡ over l a bs
unfolding apply run
apply-run a [] l = sym (over-nil l a)
apply-run a (b ∷ bs) l = apply-run (suc a) bs (set l a b) ∙ over-cons l a b bs

pub apply-take-run : (n a : ℕ) (bs l : List ℕ) → apply (take n (run a bs)) l ≡ over l a (take n bs)
apply-take-run n a bs l = ap (λ (ss : List Store). apply ss l) (take-run n a bs) ∙ apply-run a (take n bs) l

-- a run at or past h, seen from h
pub drop-run : (h a : ℕ) (bs l : List ℕ) → drop h (apply (run (h + a) bs) l) ≡ apply (run a bs) (drop h l)
unfolding apply run
drop-run h a [] l = refl
drop-run h a (b ∷ bs) l = rw (← add-suc) (drop-run h (suc a) bs (set l (h + a) b) ∙ ap (apply (run (suc a) bs)) (drop-set-add h l a b))

-- ---- where stores go

-- each store goes to an offset with P
abbrev pub Go : (ℕ → Type 0) → List Store → Type 0
Go P ss = All (λ s. P s.at) ss

pub go_run : (P : ℕ → Type 0) (a : ℕ) (bs : List ℕ) → ((i : ℕ) → a ≤ i → i < a + length bs → P i) → Go P (run a bs)
unfolding run
go_run P a [] f = none
go_run P a (b ∷ bs) f = more (f a (omega arith) (omega arith)) (go_run P (suc a) bs (λ i g h. f i (omega arith) (omega arith)))

untouched : (i : ℕ) {ss : List Store} (l : List ℕ) → Go (λ a. a ≢ i) ss → get_or (apply ss l) i 0 ≡ get_or l i 0
unfolding apply
untouched i l none = refl
untouched i l (more {x = s} f a) = untouched i (set l s.at s.byte) a ∙ get_or-set_other l s.at i s.byte 0 (λ e. f (sym e))

-- a byte that no store goes to stays
pub kept : (P : ℕ → Type 0) {ss : List Store} (l : List ℕ) (i : ℕ) → Go P ss → (P i → ⊥) → get_or (apply ss l) i 0 ≡ get_or l i 0
kept P l i a f = untouched i l (all_map (λ s p e. f (subst P e p)) a)

pub drop-kept : (h : ℕ) {ss : List Store} (l : List ℕ) → Go (λ a. a < h) ss → drop h (apply ss l) ≡ drop h l
drop-kept h {ss} l a =
    ext_get_or 0 (drop h (apply ss l)) (drop h l) (rw (length-drop, length-drop, length-apply))
    (λ i g. get_or-drop h (apply ss l) i 0 ∙ kept (λ a. a < h) l (h + i) a (λ e. omega arith) ∙ sym (get_or-drop h l i 0))
