-- Which workspace was last logged, and which is kept: that of the last call at which the mark of a commit was stored.
use Rattle.std.specs.Prelude.{◌≡◌, Bool, ◌&&◌, ◌||◌, not, ◌⊎◌, ℕ, ◌+◌, ◌*◌, leb}
use Rattle.std.proofs.Math.Bool.{true, false}
use mathlib.Core.List.{List, ◌∷◌, ◌++◌, []}
use Rattle.std.proofs.Math.Dec.{eqb}
use Rattle.image_log.specs.Book.{Call, commit, recover, Book, Verdict, refused, writes, judge, recover_need, next, book_after}

-- no call of the list passes it
pub data Never (accept : List ℕ → Bool) (L : ℕ) (test : Book → Call → Bool) : Book → List Call → Type 0 where
  nothing : {b : Book} → Never accept L test b []
  further : {b : Book} {c : Call} {cs : List Call} → test b c ≡ false → Never accept L test (next accept L b c) cs → Never accept L test b (c ∷ cs)

-- the call is the last of the list that passes it
pub record Last (accept : List ℕ → Bool) (L : ℕ) (test : Book → Call → Bool) (b : Book) (cs : List Call) : Type 0 where
  pub earlier : List Call
  pub call : Call
  pub later : List Call
  pub split : cs ≡ earlier ++ (call ∷ later)
  pub passes : test (book_after accept L earlier b) call ≡ true
  pub never : Never accept L test (next accept L (book_after accept L earlier b) call) later

-- the book as that call leaves it
abbrev pub book_then : {accept : List ℕ → Bool} {L : ℕ} {test : Book → Call → Bool} {b : Book} {cs : List Call} → Last accept L test b cs → Book
book_then {accept} {L} {test} {b} t = next accept L (book_after accept L t.earlier b) t.call

-- What is looked at after a list is what that call left to see, or, where there is none, what it was at the start.
abbrev pub Tells : (List ℕ → Bool) → ℕ → (Book → Call → Bool) → (Book → List ℕ) → (Book → List ℕ) → Book → List Call → Type 0
Tells accept L test look left b cs =
    (Never accept L test b cs × (look (book_after accept L cs b) ≡ look b))
    ⊎ ((t : Last accept L test b cs) × (look (book_after accept L cs b) ≡ left (book_then t)))

abbrev pub kept : Book → List ℕ
kept b = b.kept

abbrev pub logged : Book → List ℕ
logged b = b.logged

-- a commit that has its k pages' entries and their count stored: store 66k + 2 is the count's last
unfoldable pub logs_whole : Verdict → ℕ → Bool
logs_whole (refused r) n = false
logs_whole (writes k) n = not (eqb k 0) && leb (66 * k + 2) n

unfoldable pub logs_at : (List ℕ → Bool) → ℕ → Book → Call → Bool
logs_at accept L b (commit w n v) = logs_whole (judge accept L b w) n
logs_at accept L b (recover n v) = false

-- a commit that has its mark stored, by store 66k + 3 or by the byte caught
unfoldable pub stores165 : Verdict → ℕ → ℕ → Bool
stores165 (refused r) n v = false
stores165 (writes k) n v = not (eqb k 0) && (leb (66 * k + 3) n || (eqb n (66 * k + 2) && eqb v 165))

-- the mark of a commit is stored at this call: such a commit, or a recovery that is told 165 for a mark that was not 165
unfoldable pub marks_at : (List ℕ → Bool) → ℕ → Book → Call → Bool
marks_at accept L b (commit w n v) = stores165 (judge accept L b w) n v
marks_at accept L b (recover n v) = not (eqb b.mark 165) && (eqb (n + 1) (recover_need b) && eqb v 165)
