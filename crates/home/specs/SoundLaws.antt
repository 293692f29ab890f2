-- The test of soundness says what it should, both ways; and what a sound home holds.
use Rattle.std.specs.Prelude.{◌≡◌, refl, true, false, List, ℕ, ◌+◌, ◌*◌, ◌≤◌, length}
use Rattle.std.proofs.Common.{sym, ap, ap₂, ◌∙◌, subst, arith}
use Rattle.wire.specs.Bytes.{get16}
use Rattle.wire.specs.All.{All}
use Rattle.layout.specs.Capacities.{cells, class_of}
use Rattle.layout.specs.Zones.{Zone, blocks, find}
use Rattle.home.specs.Layout.{Valid, Loose}
use Rattle.home.specs.Bytes.{step_of, spots, dictionary, encode, decode, entries_at}
use Rattle.home.specs.Sound.{pages_of, sized, sound, Sound, list_of}
use Rattle.layout.specs.ValidLaws.{Tests, t_and, t_le, t_eq, t_equal, t_as, t_valid}
use Rattle.home.specs.HomeLaws.{ReadsAt}
use Rattle.home.specs.EncodeLaws.{valid_loose, length_loose, step_loose, reads_loose, decode_loose, tags_loose, words_loose}

-- "26 + R pages", R from 1 to 1,024
pub record Sized (h : List ℕ) : Type 0 where
  pub low : 1 ≤ pages_of h
  pub high : pages_of h ≤ 1024
  pub long : length h ≡ 64 * (26 + pages_of h)

pub t_sized : (h : List ℕ) → Tests (Sized h) (sized h)
unfolding sized
t_sized h = t_as (λ p. record { low = p.0; high = p.1.0; long = p.1.1 }) (λ p. (p.low, (p.high, p.long)))
    (t_and (t_le 1 (pages_of h)) (t_and (t_le (pages_of h) 1024) (t_eq (length h) (64 * (26 + pages_of h)))))

pub sound-length : (h : List ℕ) (s : Sound h) → length h ≡ 1664 + 64 * s.pages
sound-length h s = ap length s.bytes ∙ length_loose s.step s.pages s.zones (valid_loose s.step s.pages s.zones s.valid)

-- the layout, the step code and the number of pages are those that the bytes tell
pub sound-pages : (h : List ℕ) (s : Sound h) → pages_of h ≡ s.pages
sound-pages h s = omega (arith, sound-length h s)

pub sound-step : (h : List ℕ) (s : Sound h) → step_of h ≡ s.step
sound-step h s = ap step_of s.bytes ∙ step_loose s.step s.pages s.zones (valid_loose s.step s.pages s.zones s.valid)

pub sound-zones : (h : List ℕ) (s : Sound h) → decode h ≡ s.zones
sound-zones h s = ap decode s.bytes ∙ decode_loose s.step s.pages s.high s.zones (valid_loose s.step s.pages s.zones s.valid)

pub sound_unsized : (h : List ℕ) → sized h ≡ false → sound h ≡ false
unfolding sound
sound_unsized h e = rw e

-- the bytes of that layout are those of the one that the bytes tell
sound_again : (h : List ℕ) (s : Sound h) → encode (step_of h) (pages_of h) (decode h) ≡ encode s.step s.pages s.zones
sound_again h s = ap₂ (λ (k : ℕ) (R : ℕ). encode k R (decode h)) (sound-step h s) (sound-pages h s) ∙ ap (encode s.step s.pages) (sound-zones h s)

pub t_sound : (h : List ℕ) → Tests (Sound h) (sound h)
unfolding sound
t_sound h = t_as
    (λ p. record { pages = pages_of h; low = p.0.low; high = p.0.high; step = step_of h; code = p.1.0; zones = decode h; valid = p.1.1.0; bytes = p.1.1.1 })
    (λ s. let e : pages_of h ≡ s.pages = sound-pages h s in
    let k : step_of h ≡ s.step = sound-step h s in
    let z : decode h ≡ s.zones = sound-zones h s in (
      record { low = omega (arith, s.low); high = omega (arith, s.high); long = omega (arith, sound-length h s) },
      (omega (arith, s.code), (rw (k, e, z) s.valid, s.bytes ∙ sym (sound_again h s))),
    ))
    (t_and (t_sized h)
    (t_and (t_le (step_of h) 1)
    (t_and (t_valid (cells (step_of h)) (class_of (step_of h)) (8 * pages_of h) (decode h)) (t_equal h (encode (step_of h) (pages_of h) (decode h))))))

-- encode of decode is the bytes
pub encode-decode : (h : List ℕ) → sound h ≡ true → encode (step_of h) (pages_of h) (decode h) ≡ h
encode-decode h t = let s : Sound h = (t_sound h).says t in sound_again h s ∙ sym s.bytes

-- a valid layout's bytes are sound, and hold its lists
pub sound-encode : (step R : ℕ) (zs : List Zone) → step ≤ 1 → 1 ≤ R → R ≤ 1024 → Valid step (8 * R) zs → sound (encode step R zs) ≡ true
sound-encode step R zs k lo hi v = (t_sound (encode step R zs)).when (record { pages = R; low = lo; high = hi; step = step; code = k; zones = zs; valid = v; bytes = refl })

pub list_of-encode : (step R : ℕ) (zs : List Zone) (t : ℕ) → R ≤ 1024 → Valid step (8 * R) zs → list_of (encode step R zs) t ≡ find t (blocks zs)
unfolding list_of
list_of-encode step R zs t hi v = ap (λ (l : List Zone). find t (blocks l)) (decode_loose step R hi zs (valid_loose step R zs v))

-- ---- what a sound home holds

module _ (h : List ℕ) (t : sound h ≡ true) where
  abbrev s : Sound h
  s = (t_sound h).says t

  pub sound-small : pages_of h ≤ 1024
  sound-small = omega (arith, sound-pages h s, s.high)

  pub sound-some : 1 ≤ pages_of h
  sound-some = omega (arith, sound-pages h s, s.low)

  pub sound_long : length h ≡ 1664 + 64 * pages_of h
  sound_long = rw (sound-pages h s) (sound-length h s)

  pub sound_code : step_of h ≤ 1
  sound_code = omega (arith, sound-step h s, s.code)

  pub sound-valid : Valid (step_of h) (8 * pages_of h) (decode h)
  sound-valid = rw (sound-step h s, sound-pages h s, sound-zones h s) s.valid

  pub sound_loose : Loose (step_of h) (pages_of h) (decode h)
  sound_loose = valid_loose (step_of h) (pages_of h) (decode h) sound-valid

  pub sound-tags : get16 h 0 ≡ length (blocks (decode h))
  sound-tags = subst (λ (x : List ℕ). get16 x 0 ≡ length (blocks (decode h))) (encode-decode h t) (tags_loose (step_of h) (pages_of h) sound-small (decode h) sound_loose)

  pub sound_words : entries_at h 0 (get16 h 0) ≡ dictionary (step_of h) (decode h)
  sound_words = subst (λ (x : List ℕ). entries_at x 0 (get16 x 0) ≡ dictionary (step_of h) (decode h)) (encode-decode h t) (words_loose (step_of h) (pages_of h) sound-small (decode h) sound_loose)

  pub sound_reads : All (ReadsAt (step_of h) h) (spots (step_of h) 0 (decode h))
  sound_reads = subst (λ (x : List ℕ). All (ReadsAt (step_of h) x) (spots (step_of h) 0 (decode h))) (encode-decode h t) (reads_loose (step_of h) (pages_of h) (decode h) sound_loose)
