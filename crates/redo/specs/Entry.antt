-- Log entries, and the stores that write and replay them.
use Rattle.std.specs.Prelude.{◌≡◌, ℕ, zero, suc, ◌+◌, ◌*◌, ◌≤◌, Bool, true, ◌&&◌, List, [], ◌∷◌, ◌++◌, length, drop, leb, ltb}
use Rattle.wire.specs.Bytes.{pick, part, get16, bytes16, equal}
use Rattle.wire.specs.All.{All}
use Rattle.redo.specs.Store.{Store, run}

-- a home page number and that page's new bytes
pub record Entry : Type 0 where
  pub page : ℕ
  pub bytes : List ℕ

-- page p of home bytes or of a workspace
abbrev pub page : List ℕ → ℕ → List ℕ
page x p = part x (64 * p) 64

-- where log entry j starts
abbrev pub entry_at : ℕ → ℕ
entry_at j = 64 + 66 * j

-- entry j as it stands in the image, and n entries from j on
unfoldable pub entry : List ℕ → ℕ → Entry
entry l j = record { page = get16 l (entry_at j); bytes = part l (entry_at j + 2) 64 }

unfoldable pub entries : List ℕ → ℕ → ℕ → List Entry
entries l j zero = []
entries l j (suc n) = entry l j ∷ entries l (suc j) n

-- the page numbers are at least low, below limit, and each above the one before
unfoldable pub rising : ℕ → ℕ → List Entry → Bool
rising low limit [] = true
rising low limit (e ∷ es) = leb low e.page && ltb e.page limit && rising (suc e.page) limit es

-- the pages below q in which home H and workspace w differ, rising, with the workspace's bytes
unfoldable pub changes : List ℕ → List ℕ → ℕ → List Entry
changes H w zero = []
changes H w (suc p) = changes H w p ++ pick (equal (page H p) (page w p)) [] (record { page = p; bytes = page w p } ∷ [])

-- the stores that write entries to the log, from its place j on
unfoldable pub logged : ℕ → List Entry → List Store
logged j [] = []
logged j (e ∷ es) = run (entry_at j) (bytes16 e.page ++ e.bytes) ++ logged (suc j) es

-- the stores that put the entries' pages to home, which starts at offset h
unfoldable pub replay : ℕ → List Entry → List Store
replay h [] = []
replay h (e ∷ es) = run (h + 64 * e.page) e.bytes ++ replay h es

-- the k pages in which home, the image's last q pages from h on, and workspace w differ have their places in the log below home
abbrev pub Loggable : List ℕ → ℕ → List ℕ → ℕ → ℕ → Type 0
Loggable l h w q k = (h + 64 * q ≡ length l) × (64 * q ≡ length w) × (k ≡ length (changes (drop h l) w q)) × (entry_at k ≤ h)

-- a log of k entries that can be replayed: it lies below home, which starts at h, and each entry's page has its place in the image
abbrev pub Replayable : List ℕ → ℕ → ℕ → Type 0
Replayable l h k = (entry_at k ≤ h) × All (λ e. h + 64 * e.page + 64 ≤ length l) (entries l 0 k) × (h ≤ length l)
