-- A home without tags is sound if and only if all its bytes are zero but for its step code.
use Rattle.std.specs.Prelude.{◌≡◌, refl, true, ◌&&◌, List, [], ◌∷◌, ◌++◌, ℕ, ◌+◌, ◌*◌, ◌-◌, ◌≤◌, leb, length, replicate, take, drop}
use Rattle.std.proofs.Common.{sym, ap, ap₂, ◌∙◌, arith, length-drop, take_all, leb-true, le-leb}
use Rattle.std.proofs.lemmas.List.{length-replicate, replicate-append-replicate}
use Rattle.wire.specs.Bytes.{part, get16, blank, zeros_but}
use Rattle.wire.specs.BytesLaws.{length_part, blank-append, blank-zeros, blank_is}
use Rattle.wire.specs.Cases.{bool_iff, both}
use Rattle.layout.specs.Zones.{Zone, empty, from, blocks}
use Rattle.layout.specs.Perm.{single}
use Rattle.home.specs.Layout.{Valid}
use Rattle.home.specs.Bytes.{step_of, encode, decode}
use Rattle.home.specs.BytesLaws.{chop, cons-at}
use Rattle.home.specs.Sound.{pages_of, sized, sound, bare}
use Rattle.home.specs.SoundLaws.{t_sized, sound-encode, encode-decode, sound-valid, sound_code, sound-tags}

unfoldable pub no_zones : List Zone
no_zones = replicate 30 empty

pub no_zones_bytes : (step R : ℕ) → encode step R no_zones ≡ zeros_but 122 step (64 * (26 + R))
unfolding no_zones encode zeros_but
no_zones_bytes step R =
    let e : 1541 + 8 * (8 * R) ≡ 64 * (26 + R) - 123 = omega arith in
    ap (λ (l : List ℕ). replicate 122 0 ++ (step ∷ l)) (replicate-append-replicate 1541 (8 * (8 * R)) 0 ∙ ap (λ (k : ℕ). replicate k 0) e)

pub no_zones-valid : (step R : ℕ) → Valid step (8 * R) no_zones
unfolding no_zones blocks
no_zones-valid step R = record { classes = refl; laid = omega arith; distinct = single; few = omega arith }

no_blocks : (zs : List Zone) → length (blocks zs) ≡ 0 → zs ≡ replicate (length zs) empty
unfolding blocks
no_blocks [] e = refl
no_blocks (empty ∷ zs) e = ap (λ (l : List Zone). empty ∷ l) (no_blocks zs e)
no_blocks (from f x xs ∷ zs) e = absurd (omega arith)

part-rest : (h : List ℕ) → part h 123 (length h - 123) ≡ drop 123 h
unfolding part
part-rest h = take_all (length h - 123) (drop 123 h) (omega (arith, length-drop 123 h))

-- with code 0 it is zero altogether
pub bare-zero : (h : List ℕ) → 123 ≤ length h → step_of h ≡ 0 → blank h ≡ bare h
unfolding bare blank
bare-zero h g z =
    ap blank (chop 0 122 h ∙ ap (λ (l : List ℕ). part h 0 122 ++ l) (cons-at h 122 123 g refl ∙ ap (λ (l : List ℕ). step_of h ∷ l) (sym (part-rest h))))
    ∙ blank-append (part h 0 122) (step_of h ∷ part h 123 (length h - 123)) ∙ rw z

bare-sound : (h : List ℕ) → sized h ≡ true → bare h ≡ true → sound h ≡ true
unfolding bare zeros_but
bare-sound h s z =
    let k = (t_sized h).says s in
    let b = both (blank (part h 0 122)) (leb (step_of h) 1 && blank (part h 123 (length h - 123))) z in
    let d = both (leb (step_of h) 1) (blank (part h 123 (length h - 123))) b.1 in
    let front : part h 0 122 ≡ replicate 122 0 = blank_is (part h 0 122) b.0 ∙ ap (λ (n : ℕ). replicate n 0) (length_part h 0 122 (omega (arith, k.long))) in
    let long : length (part h 123 (length h - 123)) ≡ 64 * (26 + pages_of h) - 123 = omega (arith, k.long, length_part h 123 (length h - 123) (omega (arith, k.long))) in
    let back : drop 123 h ≡ replicate (64 * (26 + pages_of h) - 123) 0 =
    sym (part-rest h) ∙ blank_is (part h 123 (length h - 123)) d.1 ∙ ap (λ (n : ℕ). replicate n 0) long in
    let e : h ≡ encode (step_of h) (pages_of h) no_zones =
    chop 0 122 h ∙ ap₂ (λ (x y : List ℕ). x ++ y) front (cons-at h 122 123 (omega (arith, k.long)) refl ∙ ap (λ (l : List ℕ). step_of h ∷ l) back)
    ∙ sym (no_zones_bytes (step_of h) (pages_of h)) in
    ap sound e ∙ sound-encode (step_of h) (pages_of h) no_zones (leb-true (step_of h) 1 d.0) k.low k.high (no_zones-valid (step_of h) (pages_of h))

bare_bytes : (step R : ℕ) → step ≤ 1 → bare (zeros_but 122 step (64 * (26 + R))) ≡ true
unfolding bare zeros_but part blank
bare_bytes step R k =
    let n : ℕ = 64 * (26 + R) - 123 in
    let z : List ℕ = replicate n 0 in
    let e : take (length (zeros_but 122 step (64 * (26 + R))) - 123) z ≡ z =
    take_all (length (zeros_but 122 step (64 * (26 + R))) - 123) z (omega (arith, length-replicate {A = ℕ} n 0)) in
    rw (le-leb step 1 k, e, blank-zeros n) refl

sound-bare : (h : List ℕ) → get16 h 0 ≡ 0 → sound h ≡ true → bare h ≡ true
unfolding no_zones bare
sound-bare h e t =
    let z : decode h ≡ no_zones = no_blocks (decode h) (sym (sound-tags h t) ∙ e) ∙ ap (λ (k : ℕ). replicate k empty) (sound-valid h t).classes in
    let q : h ≡ zeros_but 122 (step_of h) (64 * (26 + pages_of h)) = sym (encode-decode h t) ∙ ap (encode (step_of h) (pages_of h)) z ∙ no_zones_bytes (step_of h) (pages_of h) in
    ap bare q ∙ bare_bytes (step_of h) (pages_of h) (sound_code h t)

pub no_tags : (h : List ℕ) → sized h ≡ true → get16 h 0 ≡ 0 → bare h ≡ sound h
no_tags h s e = bool_iff (bare h) (sound h) (bare-sound h s) (sound-bare h e)
