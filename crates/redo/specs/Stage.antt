-- A stage of a call: some of its stores, with stores left and made before and after.
use Rattle.std.specs.Prelude.{◌≡◌, ℕ, suc, ◌+◌, ◌-◌, ◌≤◌, ◌<◌, min, List, [], ◌∷◌, ◌++◌, length, take, replicate}
use Rattle.std.proofs.Common.{sym, ap, ◌∙◌, arith, add-one, length-append, take_all}
use Rattle.std.proofs.Math.Decide.{dec_le}
use Rattle.std.proofs.Math.Nat.{min-eq_left, min-eq_right}
use Rattle.std.proofs.lemmas.List.{length-replicate}
use Rattle.std.proofs.Math.Seq.{take-nil, take-length}
use Rattle.wire.specs.Bytes.{over, zeros_but}
use Rattle.redo.specs.Store.{Store, apply, run}
use Rattle.redo.specs.StoreLaws.{run-append, apply-none, apply-take-append, apply-take-run, length_run}

-- n stores were left and m made before the stores ss, n' and m' after: the first n of them were made on l, which is then l'
pub record Stage (n m : ℕ) (ss : List Store) (l : List ℕ) (n' m' : ℕ) (l' : List ℕ) : Type 0 where
  pub left : n' ≡ n - length ss
  pub made : m' ≡ m + min n (length ss)
  pub bytes : l' ≡ apply (take n ss) l

-- c stores of ss were made, n being left, and none before
abbrev pub Makes : ℕ → List Store → List ℕ → ℕ → List ℕ → Type 0
Makes n ss l c l' = Stage n 0 ss l (n - c) c l'

pub makes_within : {n c : ℕ} {ss : List Store} {l l' : List ℕ} → Makes n ss l c l' → c ≤ n
makes_within s = omega (arith, s.made)

-- with m made before
pub stage_from : {n c : ℕ} {ss : List Store} {l l' : List ℕ} (m : ℕ) → Makes n ss l c l' → Stage n m ss l (n - c) (m + c) l'
stage_from m s = record { left = s.left; made = omega (arith, s.made); bytes = s.bytes }

-- with m of n made before, so that n₁ are left
pub stage_next : {n₁ c : ℕ} (n m : ℕ) {ss : List Store} {l l' : List ℕ} → n₁ ≡ n - m → Makes n₁ ss l c l' → Stage (n - m) m ss l (n - (m + c)) (m + c) l'
stage_next {n₁} {c} n m {ss} {l} e s = record { left = omega (arith, e, s.left); made = omega (arith, e, s.made); bytes = s.bytes ∙ ap (λ (j : ℕ). apply (take j ss) l) e }

pub stage_none : (n m : ℕ) (l : List ℕ) → Stage n m [] l n m l
stage_none n m l = record { left = omega arith; made = omega arith; bytes = rw take-nil (sym (apply-none l)) }

-- with no store left, none is made
pub stage_stopped : (n m : ℕ) (ss : List Store) (l : List ℕ) → n ≡ 0 → Stage n m ss l n m l
stage_stopped n m ss l e = record { left = omega arith; made = omega arith; bytes = rw e (sym (apply-none l)) }

-- so it does not matter which
pub stage_empty : {n m n' m' : ℕ} {ss ts : List Store} {l l' : List ℕ} → n ≡ 0 → Stage n m ss l n' m' l' → Stage n m ts l n' m' l'
stage_empty {n} {m} {ss} {ts} {l} e s = record { left = omega arith; made = omega arith; bytes = s.bytes ∙ ap (λ (j : ℕ). apply (take j ss) l) e ∙ sym (ap (λ (j : ℕ). apply (take j ts) l) e) }

-- one stage after another
pub stage_more : {n m n₁ m₁ n₂ m₂ : ℕ} {ss ts : List Store} {l l₁ l₂ : List ℕ}
    → Stage n m ss l n₁ m₁ l₁ → Stage n₁ m₁ ts l₁ n₂ m₂ l₂ → Stage n m (ss ++ ts) l n₂ m₂ l₂
stage_more {n} {ss} {ts} {l} f g = record {
  left = rw length-append (omega arith);
  made = rw length-append (omega arith);
  bytes = g.bytes ∙ rw (f.left, f.bytes) (sym (apply-take-append n ss ts l));
}

pub take_min : {A : Type 0} (n : ℕ) (xs : List A) → take (min n (length xs)) xs ≡ take n xs
take_min n xs = elim (dec_le n (length xs)) [
  | yes h ↦ rw (min-eq_left h)
  | no h ↦ let k : length xs ≤ n = omega arith in rw (min-eq_right k, take_all n xs k) (take-length xs)
]

-- as many bytes of a run were written as there are or as were left
pub stage_run : {n' m' : ℕ} (n m i a : ℕ) (bs l l' : List ℕ) → i ≡ min n (length bs) → (n' ≡ n - i) × (m' ≡ m + i) → l' ≡ over l a (take i bs)
    → Stage n m (run a bs) l n' m' l'
stage_run n m i a bs l l' e s h = record {
  left = rw length_run (omega arith);
  made = rw length_run (omega arith);
  bytes = h ∙ ap (over l a) (ap (λ (k : ℕ). take k bs) e ∙ take_min n bs) ∙ sym (apply-take-run n a bs l);
}

-- zeros but for one byte: those before it, the byte, and those behind it
pub stage_but : {n n₁ m₁ n₂ m₂ n₃ m₃ : ℕ} {l l₁ l₂ l₃ : List ℕ} (at q v m p r : ℕ) → p ≡ at + q → r ≡ m - suc q → Stage n 0 (run at (replicate q 0)) l n₁ m₁ l₁
    → Stage n₁ m₁ (run p (v ∷ [])) l₁ n₂ m₂ l₂ → Stage n₂ m₂ (run (p + 1) (replicate r 0)) l₂ n₃ m₃ l₃ → Stage n 0 (run at (zeros_but q v m)) l n₃ m₃ l₃
unfolding zeros_but run
stage_but at q v m p r e f a b c = rw (run-append, length-replicate, ← e, ← f) (stage_more a (stage_more b (rw add-one at c)))

-- stores are left, so all of ss were made
pub stage_whole : {n m n' m' : ℕ} {ss : List Store} {l l' : List ℕ} → Stage n m ss l n' m' l' → 0 < n' → l' ≡ apply ss l
stage_whole {n} {ss} {l} s g = s.bytes ∙ ap (λ (z : List Store). apply z l) (take_all n ss (omega arith))
