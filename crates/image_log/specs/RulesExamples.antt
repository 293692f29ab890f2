-- The numbers of each call's rules, and of the book's for a commit.
use Rattle.std.specs.Prelude.{◌≡◌, Bool, ℕ, List, [], ◌∷◌}
use Rattle.std.proofs.Math.Path.{refl}
use Rattle.refusals.specs.Rules.{numbers}
use Rattle.image_log.specs.Calls.{format_rules, recover_rules, commit_rules}
use Rattle.image_log.specs.Book.{Book, book_rules}
use Rattle.image_log.specs.Uncaught.{Plain, plain_rules}

module _ (accept : List ℕ → Bool) (l w : List ℕ) (L R p : ℕ) where
  format_numbers : numbers (format_rules l L R p) ≡ 14 ∷ []
  unfolding numbers format_rules
  format_numbers = refl

  recover_numbers : numbers (recover_rules l) ≡ 1 ∷ 4 ∷ []
  unfolding numbers recover_rules
  recover_numbers = refl

  commit_numbers : numbers (commit_rules accept l w) ≡ 1 ∷ 3 ∷ 5 ∷ 6 ∷ 7 ∷ 13 ∷ []
  unfolding numbers commit_rules
  commit_numbers = refl

  book_numbers : (b : Book) → numbers (book_rules accept L b w) ≡ 3 ∷ 6 ∷ 7 ∷ 13 ∷ []
  unfolding numbers book_rules
  book_numbers b = refl

  plain_numbers : (q : Plain) → numbers (plain_rules accept L q w) ≡ 3 ∷ 6 ∷ 7 ∷ 13 ∷ []
  unfolding numbers plain_rules
  plain_numbers q = refl
