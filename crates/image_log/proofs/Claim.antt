-- The claim about whole lists of commits and recoveries, cut and caught anywhere, refused ones included.
use Rattle.std.specs.Prelude.{◌≡◌, Bool, not, length, eqb, Ok}
use Rattle.std.proofs.Math.Path.{refl, ap}
use Rattle.std.proofs.Common.{sym, ap₂, ◌∙◌, arith, take_all, leb-true, ne_eqb}
use Rattle.std.proofs.Math.Bool.{true}
use Prim.Native.Nat.{ℕ, ◌≤◌}
use mathlib.Core.List.{List, ◌∷◌, []}
use Rattle.std.proofs.Math.Dec.{leb}
use Rattle.wire.specs.Cases.{by_test}
use Rattle.redo.specs.Store.{Store, apply, halfway}
use Rattle.redo.specs.Image.{capacity, mark, home, head_ok}
use Rattle.redo.specs.ImageLaws.{same_refl, capacity_same, pages_same, head_right, length-home}
use Rattle.image_log.specs.declared.Stored.TheVariants.{Done, Cut}
use Rattle.redo.specs.Torn.{torn_all}
use Rattle.image_log.specs.Calls.{Plan, refuse, store, answer, after, recover_plan}
use Rattle.image_log.specs.CallLaws.{log_right}
use Rattle.image_log.specs.Book.{Call, recover, allowance, plan_of, rest, caught, foretold, report, recover_need, told_mark, Seen, seen, trace, final, Book, start, next, book_after, told, ledger}
use Rattle.image_log.specs.Logged.{caught_is}
use Rattle.image_log.proofs.BookLaws.{recovering_done}
use Rattle.image_log.specs.Holds.{State, settled, owing, spoiled, Holds}
use Rattle.image_log.proofs.Steps.{Step, step, recover_goes}
use Rattle.image_log.specs.Claim.{Claim, Starts}

owes_of : (x : List ℕ) (b : Book) → State x b → eqb b.owed 0 ≡ not (eqb b.mark 165)
owes_of x b (settled m e s) = rw (m, e)
owes_of x b (owing m e f o) = let c = log_right x o.right in rw (m, ne_eqb b.owed 0 (λ z. omega (arith, o.counted)))
owes_of x b (spoiled f g e s o) = rw (e, ne_eqb b.mark 165 g)

pub stands_of : (x : List ℕ) (b : Book) → State x b → (b.mark ≡ 165 → ⊥) → home x ≡ b.kept
stands_of x b (settled m e s) h = s
stands_of x b (owing m e f o) h = absurd (h m)
stands_of x b (spoiled f g e s o) h = s

-- only done means that the allowance was enough
pub done_enough : (need n m : ℕ) → report need n ≡ Done m → leb need n ≡ true
unfolding report
done_enough need n m e = by_test (leb need n) (λ t. t) (λ f. let z : Cut _ ≡ Done m = rw f at e in cc)

-- and then no byte is caught
pub done_uncaught : (p : Plan) (n m v : ℕ) (l : List ℕ) → answer p n ≡ Ok (Done m) → caught p n v l ≡ after p n l
unfolding answer caught rest halfway after
done_uncaught (refuse r) n m v l e = refl
done_uncaught (store ss) n m v l e = by_test (leb (length ss) n)
    (λ t.
    let g : length ss ≤ n = leb-true (length ss) n t in
    caught_is ss n v l ∙ ap (λ (ts : List Store). apply ts l) (torn_all n v ss g ∙ sym (take_all n ss g)))
    (λ f. let z : Ok (Cut _) ≡ Ok (Done m) = rw f at e in cc)

module _ (accept : List ℕ → Bool) (l₀ : List ℕ) (ok : head_ok l₀ ≡ true) where
  -- what holds goes on over a list, and the list is the book's
  through : (cs : List Call) (l : List ℕ) (b : Book) → Holds accept l₀ l b
      → (trace accept cs l ≡ ledger accept (capacity l₀) cs b l) × Holds accept l₀ (final accept cs l) (book_after accept (capacity l₀) cs b)
  unfolding trace ledger final book_after
  through [] l b t = (refl, t)
  through (c ∷ cs) l b t =
      let s : Step accept l₀ l b c = step accept l₀ ok l b t c in
      let rest = through cs (seen accept c l).image (next accept (capacity l₀) b c) s.goes_on in
      (ap₂ (λ (x : Seen) (y : List Seen). x ∷ y) s.same (rest.0 ∙ ap (λ (z : Seen). ledger accept (capacity l₀) cs (next accept (capacity l₀) b c) z.image) s.same), rest.1)

  module _ (l : List ℕ) (b : Book) (t : Holds accept l₀ l b) where
    answers : (n : ℕ) → answer (recover_plan l) n ≡ Ok (report (recover_need b) n)
    unfolding seen told plan_of allowance foretold
    answers n = ap (λ (z : Seen). z.answered) (step accept l₀ ok l b t (recover n 0)).same

    -- a recovery that finishes leaves what is kept, and mark 0
    finished : (n m : ℕ) → answer (recover_plan l) n ≡ Ok (Done m) → (home (after (recover_plan l) n l) ≡ b.kept) × (mark (after (recover_plan l) n l) ≡ 0)
    unfolding told_mark
    finished n m e =
        let x : List ℕ = after (recover_plan l) n l in
        let enough : leb (recover_need b) n ≡ true = done_enough (recover_need b) n m (let z = sym (answers n) ∙ e in cc) in
        let h : Holds accept l₀ x (told_mark b 0) =
        rw (done_uncaught (recover_plan l) n m 0 l e, recovering_done b n 0 (leb-true (recover_need b) n enough)) at (recover_goes accept l₀ ok l b t n 0) in
        (stands_of x (told_mark b 0) h.state (λ z. omega arith), h.marks)

module _ (accept : List ℕ → Bool) (l : List ℕ) (s : Starts accept l) where
  pub begins : Holds accept l l (start (home l))
  unfolding start
  begins = record {
    head = same_refl l;
    fits = record { fine = s.fine; long = length-home l (head_right l s.head); fine_logged = s.fine; long_logged = length-home l (head_right l s.head) };
    marks = s.unmarked;
    state = settled refl refl refl;
  }

  -- what holds after any list
  pub holds : (cs : List Call) → Holds accept l (final accept cs l) (book_after accept (capacity l) cs (start (home l)))
  holds cs = (through accept l s.head cs l (start (home l)) begins).1

  pub claim : (cs : List Call) → Claim accept l cs (book_after accept (capacity l) cs (start (home l))) (final accept cs l)
  claim cs =
      let t = through accept l s.head cs l (start (home l)) begins in
      let b : Book = book_after accept (capacity l) cs (start (home l)) in
      let x : List ℕ = final accept cs l in
      record {
        calls = t.0;
        marks = t.1.marks;
        owes = owes_of x b t.1.state;
        stands = λ f. stands_of x b t.1.state (λ z. f (t.1.marks ∙ z));
        needs = answers accept l s.head x b t.1;
        recovers = finished accept l s.head x b t.1;
        long = t.1.head.long;
        same_capacity = capacity_same t.1.head;
        same_pages = pages_same t.1.head;
        fine = t.1.fits.fine;
        fine_logged = t.1.fits.fine_logged;
      }
