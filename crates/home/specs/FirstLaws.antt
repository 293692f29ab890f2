-- Sound with step code 0 is the soundness of before.
use Rattle.std.specs.Prelude.{◌≡◌, refl, ◌&&◌, List, ℕ, ◌*◌, eqb}
use Rattle.std.proofs.Math.Path.{sym, ap, subst}
use Rattle.std.proofs.Common.{◌∙◌, arith, eqb-true, eq-eqb}
use Rattle.std.proofs.Math.Bool.{true}
use Rattle.wire.specs.Bytes.{equal}
use Rattle.wire.specs.Cases.{both, bool_iff}
use Rattle.layout.specs.Zones.{Zone}
use Rattle.layout.specs.Valid.{valid}
use Rattle.home.specs.Layout.{Valid}
use Rattle.layout.specs.ValidLaws.{t_valid, t_equal}
use Rattle.home.specs.Bytes.{step_of, encode, zones_from, decode}
use Rattle.home.specs.Sound.{pages_of, sized, sound}
use Rattle.home.specs.SoundLaws.{t_sized, sound-encode, encode-decode, sound-some, sound-small, sound_long, sound-valid}
use Rattle.home.specs.EncodeLaws.{valid_loose, step_loose}
use Rattle.home.specs.First.{first_cells, first_class, first_bytes, first_zones, first_sound}

bytes_are : (R : ℕ) (zs : List Zone) → first_bytes R zs ≡ encode 0 R zs
unfolding first_bytes encode
bytes_are R zs = refl

zones_are : (h : List ℕ) → step_of h ≡ 0 → decode h ≡ first_zones h
unfolding first_zones decode
zones_are h e = ap (λ (k : ℕ). zones_from k h 0 30) e

module _ (h : List ℕ) where
  abbrev R : ℕ
  R = pages_of h

  to-sound : first_sound h ≡ true → (sound h ≡ true) × (step_of h ≡ 0)
  unfolding first_sound
  to-sound t =
      let a = both (sized h) _ t in
      let b = both (valid first_cells first_class (8 * R) (first_zones h)) (equal h (first_bytes R (first_zones h))) a.1 in
      let k = (t_sized h).says a.0 in
      let v : Valid 0 (8 * R) (first_zones h) = (t_valid first_cells first_class (8 * R) (first_zones h)).says b.0 in
      let e : h ≡ encode 0 R (first_zones h) = (t_equal h (first_bytes R (first_zones h))).says b.1 ∙ bytes_are R (first_zones h) in
      (ap sound e ∙ sound-encode 0 R (first_zones h) (omega arith) k.low k.high v, ap step_of e ∙ step_loose 0 R (first_zones h) (valid_loose 0 R (first_zones h) v))

  from_sound : sound h ≡ true → step_of h ≡ 0 → first_sound h ≡ true
  unfolding first_sound
  from_sound s z =
      let size : sized h ≡ true = (t_sized h).when (record { low = sound-some h s; high = sound-small h s; long = omega (arith, sound_long h s) }) in
      let v : Valid 0 (8 * R) (first_zones h) = subst (Valid 0 (8 * R)) (zones_are h z) (subst (λ (k : ℕ). Valid k (8 * R) (decode h)) z (sound-valid h s)) in
      let e : h ≡ first_bytes R (first_zones h) =
      sym (encode-decode h s) ∙ ap (λ (k : ℕ). encode k R (decode h)) z ∙ ap (encode 0 R) (zones_are h z) ∙ sym (bytes_are R (first_zones h)) in
      rw (size, (t_valid first_cells first_class (8 * R) (first_zones h)).when v, (t_equal h (first_bytes R (first_zones h))).when e)

  -- exactly the sound homes of code 0 were sound
  pub first-sound : first_sound h ≡ sound h && eqb (step_of h) 0
  first-sound = bool_iff (first_sound h) (sound h && eqb (step_of h) 0)
      (λ t. let k = to-sound t in rw k.0 (eq-eqb (step_of h) 0 k.1))
      (λ t. let k = both (sound h) (eqb (step_of h) 0) t in from_sound k.0 (eqb-true (step_of h) 0 k.1))
