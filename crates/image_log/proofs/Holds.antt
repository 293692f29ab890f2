-- What holds of an image and the book between the calls of a list, and that any value in the mark keeps it.
use Rattle.std.specs.Prelude.{◌≡◌, refl, Bool, true, ℕ, List, set, eqb}
use Rattle.std.proofs.Common.{◌∙◌, arith, eq-eqb, ne_eqb}
use Rattle.wire.specs.Cases.{by_test, by_eq}
use Rattle.redo.specs.Image.{head_ok}
use Rattle.redo.specs.ImageLaws.{same_trans, head_same, head_right}
use Rattle.image_log.specs.Book.{Book, told_mark}
use Rattle.image_log.specs.Logged.{remark_head, remark_mark, remark_home, remark_logged}
use Rattle.image_log.specs.Holds.{Fits, Holds, Ready, State, owing, settled, spoiled}

pub moved : {accept : List ℕ → Bool} {l₀ x y : List ℕ} {b c : Book} → x ≡ y → b ≡ c → Holds accept l₀ y c → Holds accept l₀ x b
moved e f h = rw (e, f) h

-- with any value in the mark: 0 settles what is kept, 165 owes what was last logged
told-state : {accept : List ℕ → Bool} {l₀ : List ℕ} (x : List ℕ) (b : Book) → Ready accept l₀ x b → (v : ℕ) → State (set x 10 v) (told_mark b v)
unfolding told_mark
told-state x b r v = by_eq v 165
    (λ e. rw (eq-eqb v 165 e) (owing e refl refl (remark_logged x v r.log)))
    (λ f. rw (ne_eqb v 165 f) (by_eq v 0
    (λ z. settled z refl (remark_home x v ∙ r.stands))
    (λ z. spoiled z f refl (remark_home x v ∙ r.stands) (remark_logged x v r.log))))

pub told-fits : {accept : List ℕ → Bool} {l₀ : List ℕ} (b : Book) (v : ℕ) → Fits accept l₀ b → Fits accept l₀ (told_mark b v)
unfolding told_mark
told-fits b v f = by_test (eqb v 165)
    (λ e. rw e (record { fine = f.fine_logged; long = f.long_logged; fine_logged = f.fine_logged; long_logged = f.long_logged }))
    (λ e. rw e (record { fine = f.fine; long = f.long; fine_logged = f.fine_logged; long_logged = f.long_logged }))

pub tell : (accept : List ℕ → Bool) (l₀ : List ℕ) → head_ok l₀ ≡ true → (x : List ℕ) (b : Book) → Ready accept l₀ x b → (v : ℕ) → Holds accept l₀ (set x 10 v) (told_mark b v)
unfolding told_mark
tell accept l₀ ok x b r v =
    let right = head_right x (head_same r.head ∙ ok) in
    record {
      head = same_trans r.head (remark_head x v);
      fits = told-fits b v r.fits;
      marks = remark_mark x v (omega arith);
      state = told-state x b r v;
    }
