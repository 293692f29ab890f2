-- Bytes moved by the length of a record, byte by byte.
use Rattle.std.specs.Prelude.{◌≡◌, List, ℕ, ◌+◌, ◌-◌, ◌<◌, length, get_or}
use Rattle.std.proofs.Common.{◌∙◌, arith}
use Rattle.wire.specs.Bytes.{part}
use Rattle.wire.specs.BytesLaws.{length_over, over-low, over_in, length_part, part_at}
use Rattle.records.specs.Records.{up, down}

-- ---- up

pub length_up : (l : List ℕ) (at : ℕ) → length (up l at) ≡ length l
unfolding up
length_up l at = length_over l (at + 8) (part l at (length l - (at + 8)))

pub up-low : (l : List ℕ) (at i : ℕ) → i < at + 8 → get_or (up l at) i 0 ≡ get_or l i 0
unfolding up
up-low l at i g = over-low l (at + 8) (part l at (length l - (at + 8))) i g

pub up_high : (l : List ℕ) (at i : ℕ) → at + 8 + i < length l → get_or (up l at) (at + 8 + i) 0 ≡ get_or l (at + i) 0
unfolding up
up_high l at i g =
    let m : ℕ = length l - (at + 8) in
    let e : length (part l at m) ≡ m = length_part l at m (omega arith) in
    over_in l (at + 8) (part l at m) i (omega arith) g ∙ part_at l at m i (omega arith)

-- ---- down

pub length-down : (l : List ℕ) (at : ℕ) → length (down l at) ≡ length l
unfolding down
length-down l at = length_over l at (part l (at + 8) (length l - (at + 8)))

pub down-low : (l : List ℕ) (at i : ℕ) → i < at → get_or (down l at) i 0 ≡ get_or l i 0
unfolding down
down-low l at i g = over-low l at (part l (at + 8) (length l - (at + 8))) i g

pub down_in : (l : List ℕ) (at i : ℕ) → at + 8 + i < length l → get_or (down l at) (at + i) 0 ≡ get_or l (at + 8 + i) 0
unfolding down
down_in l at i g =
    let m : ℕ = length l - (at + 8) in
    let e : length (part l (at + 8) m) ≡ m = length_part l (at + 8) m (omega arith) in
    over_in l at (part l (at + 8) m) i (omega arith) (omega arith) ∙ part_at l (at + 8) m i (omega arith)
