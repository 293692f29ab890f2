-- The stores of format, recover and commit, in order.
use Rattle.std.specs.Prelude.{ℕ, List, [], ◌∷◌, ◌++◌, length, take, drop}
use Rattle.wire.specs.Bytes.{bytes16}
use Rattle.redo.specs.Store.{Store, run}
use Rattle.redo.specs.Image.{letters, empty_image}
use Rattle.redo.specs.Entry.{Entry, logged, replay}

-- ---- format

-- byte 0 as 0 first, then all other bytes from 1 up, then byte 0 as its letter
unfoldable pub format_stores : ℕ → ℕ → ℕ → ℕ → List Store
format_stores L R p v = run 0 (0 ∷ []) ++ (run 1 (drop 1 (empty_image L R p v)) ++ run 0 (take 1 letters))

-- ---- recover

-- mark 0
unfoldable pub clear_mark : List Store
clear_mark = run 10 (0 ∷ [])

-- the entries' pages to home in order, then mark 0
unfoldable pub recover_stores : ℕ → List Entry → List Store
recover_stores h es = replay h es ++ clear_mark

-- ---- commit

-- each page's log entry, the two count bytes, mark 165
unfoldable pub log_stores : List Entry → List Store
log_stores es = logged 0 es ++ (run 8 (bytes16 (length es)) ++ run 10 (165 ∷ []))

-- then each page to home, mark 0: which is what a recovery of that log does. None if no page differs
unfoldable pub commit_stores : ℕ → List Entry → List Store
commit_stores h [] = []
commit_stores h (e ∷ es) = log_stores (e ∷ es) ++ recover_stores h (e ∷ es)
