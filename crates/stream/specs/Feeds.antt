-- A piece fed.
use Rattle.std.specs.Prelude.{◌≡◌, List, ℕ, ◌≤◌, length, take}
use Rattle.wire.specs.Bytes.{over}
use Rattle.stream.specs.declared.Fed.{Fed}
use Rattle.stream.specs.Stream.{Open, after, said}

-- of a piece p the first bytes are used, and all that they are answered is at the output's start
pub record Feeds (s : Open) (p out : List ℕ) (f : Fed) (kept image space out' : List ℕ) : Type 0 where
  pub within : f.used ≤ length p
  pub keeps : take f.held kept ≡ (after s (take f.used p)).kept
  pub images : image ≡ (after s (take f.used p)).image
  pub spaces : space ≡ (after s (take f.used p)).space
  pub prints : out' ≡ over out 0 (said s (take f.used p))
  pub counts : f.printed ≡ length (said s (take f.used p))
  pub fits : f.printed ≤ length out
