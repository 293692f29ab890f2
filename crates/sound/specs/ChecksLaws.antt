-- A program's tests are the definition of soundness.
use Rattle.wire.specs.Bytes.{Bytes}
use Rattle.std.specs.Prelude.{◌≡◌, List, ℕ}
use Rattle.wire.specs.Cases.{bool_iff}
use Rattle.home.specs.Sound.{sound}
use Rattle.sound.specs.Checks.{checked}
use Rattle.home.specs.SoundLaws.{t_sound}
use Rattle.sound.specs.FoundLaws.{checked-sound}
use Rattle.sound.specs.PassLaws.{sound-checked}

pub checked_is : (h : List ℕ) → Bytes h → checked h ≡ sound h
checked_is h b = bool_iff (checked h) (sound h) (λ e. (t_sound h).when (checked-sound h b e)) (λ e. sound-checked h ((t_sound h).says e))
