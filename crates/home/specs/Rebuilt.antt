-- Home with its tag count and dictionary made anew out of its blocks.
use Rattle.std.specs.Prelude.{Bool, ◌&&◌, List, ℕ, leb, length}
use Rattle.wire.specs.Bytes.{over, bytes16}
use Rattle.layout.specs.Zones.{blocks}
use Rattle.home.specs.Bytes.{Entry, dictionary, padded, step_of, decode}
use Rattle.home.specs.Sound.{sound}

-- h with these entries for its dictionary, and their number for its tag count
unfoldable pub with_entries : List Entry → List ℕ → List ℕ
unfolding over bytes16 padded
with_entries ds h = over (over h 0 (bytes16 (length ds))) 128 (padded ds)

-- every block's tag and first cell, by the zone table alone
abbrev pub block_entries : List ℕ → List Entry
block_entries h = dictionary (step_of h) (decode h)

-- "rebuild both .. out of the blocks"
unfoldable pub rebuilt : List ℕ → List ℕ
unfolding with_entries
rebuilt h = with_entries (block_entries h) h

-- "a spoiled dictionary or tag count and nothing else wrong": with both rebuilt the home is sound. Not "one where two blocks carry one tag, or one of more than 256 blocks"
unfoldable pub mendable : List ℕ → Bool
mendable h = leb (length (blocks (decode h))) 256 && sound (rebuilt h)
