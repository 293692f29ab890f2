use Rattle.std.proofs.Common.{◌≡◌, ℕ, ◌+◌, ◌++◌, List, arith, rules}
use Rattle.std.specs.Prelude.{take}
use Rattle.stream.specs.Stream.{clip}
use Rattle.stream.specs.LoopLaws.{keep_as_fits}
use Rattle.stream.proofs.keep.Goals as goal

-- by any number that is the sum
told : (kept : List ℕ) (held n r : ℕ) (bs k : List ℕ) → r ≡ held + n → take (held + n) k ≡ clip (take held kept ++ bs) → take r k ≡ clip (take held kept ++ bs)
told kept held n r bs k e g = rw e g

pub returns : goal.returns
returns c =
    let n : ℕ = c.min-n.result in
    (told c.args.kept.now c.args.held n _ c.args.bytes.now _ (search rules) (keep_as_fits c.args.kept.now c.args.held n c.args.bytes.now _ (omega arith) (omega arith) (omega arith) c.copy.ensures), omega arith)
