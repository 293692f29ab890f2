-- A fair part of the tags: how many each building has, what is still lacking, and what all of them are sure of.
use Rattle.std.specs.Prelude.{Bool, ◌&&◌, List, [], ◌∷◌, ℕ, zero, suc, ◌-◌, ◌/◌, max, leb, eqb, length}
use Rattle.records.specs.Records.{tally}
use Rattle.layout.specs.Perm.{sum}

-- "The top four bits of a tag name one of 16 buildings."
abbrev pub building : ℕ → ℕ
building t = t / 268435456

-- the numbers below n; the buildings are those below 16
unfoldable pub up_to : ℕ → List ℕ
up_to zero = []
up_to (suc n) = n ∷ up_to n

-- how many of these tags a building has
unfoldable pub owned : ℕ → List ℕ → ℕ
owned b ts = sum (λ (t : ℕ). tally (eqb (building t) b)) ts

-- "what the buildings below 8 still lack", those without a tag too
unfoldable pub lack : List ℕ → ℕ
lack ts = sum (λ (b : ℕ). 8 - owned b ts) (up_to 16)

-- "the larger of 8 and a building's tags, summed over the 16 buildings"
unfoldable pub reserve : List ℕ → ℕ
reserve ts = sum (λ (b : ℕ). max 8 (owned b ts)) (up_to 16)

-- "A building with 8 or more may add one only while unused tags exceed what the buildings below 8 still lack": it may not
unfoldable pub building_full : ℕ → List ℕ → Bool
unfolding sum tally up_to owned lack
building_full t ts = leb 8 (owned (building t) ts) && leb (256 - length ts) (lack ts)
