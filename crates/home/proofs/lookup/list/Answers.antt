use Rattle.std.proofs.Common.{◌≡◌, ℕ, ◌+◌, ◌*◌, ◌≤◌, List, length, refl, sym, ap, ◌∙◌, arith}
use Rattle.std.specs.Prelude.{true}
use Rattle.std.specs.declared.option.Option.{Option}
use Rattle.records.specs.Records.{encode}
use Rattle.home.specs.declared.lookup.Block.{Block}
use Rattle.home.specs.Bytes.{list_at}
use Rattle.home.specs.Sound.{sound}
use Rattle.home.specs.Lookup.{known, block_of}
use Rattle.home.specs.TagBlockLaws.{list_at_lem, list-at_bytes, list-none, offset_known, offset_unknown}
use Rattle.home.proofs.lookup.list.Goals as goal

-- the list of a block that is found lies in home
inside : (h : List ℕ) (t p n : ℕ) (r : Option Block) → sound h ≡ true → r ≡ block_of h t → r ≡ known p n → list_at p + 8 * n ≤ length h
inside h t p n r s e f = (list_at_lem h t p n s (sym e ∙ f)).inside

pub overflow_mul-at : goal.overflow_mul-at
overflow_mul-at c = omega (arith, inside _ _ _ _ _ c.requires c.block_of.ensures c.in-Some.is)

pub overflow_add-at : goal.overflow_add-at
overflow_add-at c = omega (arith, inside _ _ _ _ _ c.requires c.block_of.ensures c.in-Some.is)

pub overflow_add-at-in-Some : goal.overflow_add-at-in-Some
overflow_add-at-in-Some c = omega (arith, inside _ _ _ _ _ c.requires c.block_of.ensures c.in-Some.is)

pub overflow_mul-result : goal.overflow_mul-result
overflow_mul-result c = omega (arith, inside _ _ _ _ _ c.requires c.block_of.ensures c.in-Some.is)

pub overflow_add-result : goal.overflow_add-result
overflow_add-result c = omega (arith, inside _ _ _ _ _ c.requires c.block_of.ensures c.in-Some.is)

pub slice_bounds-result-end : goal.slice_bounds-result-end
slice_bounds-result-end c = omega (arith, inside _ _ _ _ _ c.requires c.block_of.ensures c.in-Some.is)

pub returns-in-Some-clause-result_value : goal.returns-in-Some-clause-result_value
returns-in-Some-clause-result_value c =
    list-at_bytes c.args.home.now c.args.tag _ _ (λ i. omega (arith, c.type_inv.home i)) (list_at_lem _ _ _ _ c.requires (sym c.block_of.ensures ∙ c.in-Some.is))

pub returns-in-Some-clause-ref_ptr_value : goal.returns-in-Some-clause-ref_ptr_value
returns-in-Some-clause-ref_ptr_value c =
    (refl, omega (arith, offset_known c.args.home.now c.args.tag _ _ (sym c.block_of.ensures ∙ c.in-Some.is)))

pub returns-in-None : goal.returns-in-None
unfolding encode
returns-in-None c =
    let a = c.args in
    let e = sym c.block_of.ensures ∙ c.in-None.is in record {
      result_value = sym (ap encode (list-none a.home.now a.tag c.requires e));
      ref_ptr_value = (refl, omega (arith, offset_unknown a.home.now a.tag e));
    }
