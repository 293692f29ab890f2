-- What a `?` behind `ok_or` and `or` passes on, and what it returns.
use Rattle.std.specs.Prelude.{◌≡◌, refl, ℕ, Ok, Err, Some, None}
use Rattle.std.proofs.Common.{ap, ◌∙◌}
use Rattle.std.specs.Option.{ok_or}
use Rattle.std.specs.Result.{IsErrAnd, result_or}
use Rattle.std.specs.declared.option.Option.{Option}
use Rattle.std.specs.declared.result.Result.{Result}
use Rattle.std.proofs.lemmas.Result.{err_from_is_err_and}
use Rattle.refusals.specs.declared.Refusal.{Refusal}
use Rattle.refusals.specs.Rules.{Answer}
use Rattle.home.specs.declared.lookup.Block.{Block}

pub returned : (a : Answer) (m n : Refusal) → IsErrAnd a (λ x. x ≡ m) → m ≡ n → a ≡ Err n
returned a m n h e = let p = err_from_is_err_and a h in p.1 ∙ ap Err (p.2 ∙ e)

-- a block, or a refusal in its place
pub no_block : (b : Option Block) (m n : Refusal) → ◌≡◌ {A = Result Block Refusal} (Err m) (ok_or b n) → (b ≡ None) × (m ≡ n)
no_block None m n h = (refl, cc)
no_block (Some b) m n h = cc

-- a record's rank, or a refusal in its place
pub found : (s : Result ℕ ℕ) (j : ℕ) (n : Refusal) → ◌≡◌ {A = Answer} (Ok j) (result_or s (Err n)) → s ≡ Ok j
found (Ok i) j n h = cc
found (Err i) j n h = cc

pub not_found : (s : Result ℕ ℕ) (m n : Refusal) → ◌≡◌ {A = Answer} (Err m) (result_or s (Err n)) → ((i : ℕ) × (s ≡ Err i)) × (m ≡ n)
not_found (Ok i) m n h = cc
not_found (Err i) m n h = ((i, refl), cc)
