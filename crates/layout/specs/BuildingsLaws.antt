-- What the buildings have together: tags and lack are the reserve, and what one tag more adds to it.
use Rattle.std.specs.Prelude.{◌≡◌, Bool, false, ◌&&◌, ◌≢◌, List, [], ◌∷◌, eqb, length}
use Rattle.std.proofs.Math.Path.{refl, ap, ap₂}
use Rattle.std.proofs.Common.{sym, ◌∙◌, arith, le-leb, eq-eqb, ne_eqb}
use Prim.Native.Nat.{ℕ, zero, suc, ◌+◌, ◌-◌, ◌≤◌, ◌<◌, min, max}
use Rattle.std.proofs.Math.Dec.{leb}
use Rattle.std.proofs.lemmas.Bool.{lt-leb}
use Rattle.wire.specs.Cases.{by_eq, by_lt, and_false, leb_iff}
use Rattle.wire.specs.All.{All, more}
use Rattle.records.specs.Records.{tally}
use Rattle.layout.specs.Perm.{Perm, sum}
use Rattle.layout.specs.PermLaws.{plength, psum}
use Rattle.layout.specs.Buildings.{building, up_to, owned, lack, reserve, building_full}

-- ---- sums

sum_as : {A : Type 0} (f g : A → ℕ) → ((x : A) → f x ≡ g x) → (xs : List A) → sum f xs ≡ sum g xs
unfolding sum
sum_as f g e [] = refl
sum_as f g e (x ∷ xs) = omega (arith, e x, sum_as f g e xs)

sum_both : {A : Type 0} (f g : A → ℕ) (xs : List A) → sum (λ (x : A). f x + g x) xs ≡ sum f xs + sum g xs
unfolding sum
sum_both f g [] = refl
sum_both f g (x ∷ xs) = omega (arith, sum_both f g xs)

-- one of them
sum_least : (f : ℕ → ℕ) (b n : ℕ) → b < n → f b ≤ sum f (up_to n)
unfolding sum up_to
sum_least f b zero h = absurd (omega arith)
sum_least f b (suc n) h = by_eq n b (λ e. omega (arith, ap f e)) (λ d. omega (arith, sum_least f b n (omega arith)))

-- numbers that differ at b alone
module _ (f g : ℕ → ℕ) (b : ℕ) (same : (i : ℕ) → i ≢ b → f i ≡ g i) where
  sum_below : (n : ℕ) → n ≤ b → sum f (up_to n) ≡ sum g (up_to n)
  unfolding sum up_to
  sum_below zero h = refl
  sum_below (suc n) h = omega (arith, same n (λ e. omega arith), sum_below n (omega arith))

  sum_past : (n : ℕ) → b < n → sum f (up_to n) + g b ≡ sum g (up_to n) + f b
  unfolding sum up_to
  sum_past zero h = absurd (omega arith)
  sum_past (suc n) h = by_eq n b
      (λ e. omega (arith, ap f e, ap g e, sum_below n (omega arith)))
      (λ d. omega (arith, same n d, sum_past n (omega arith)))

-- ---- a tag more

pub small-building : (t : ℕ) → t < 4294967296 → building t < 16
small-building t g = omega arith

module _ (t : ℕ) (ts : List ℕ) where
  pub owned_more : (b : ℕ) → owned b (t ∷ ts) ≡ tally (eqb (building t) b) + owned b ts
  unfolding owned sum
  owned_more b = refl

  owned_own : owned (building t) (t ∷ ts) ≡ suc (owned (building t) ts)
  unfolding tally
  owned_own = omega (arith, owned_more (building t), ap tally (eq-eqb (building t) (building t) refl))

  owned-other : (b : ℕ) → b ≢ building t → owned b (t ∷ ts) ≡ owned b ts
  unfolding tally
  owned-other b d = omega (arith, owned_more b, ap tally (ne_eqb (building t) b (λ e. d (sym e))))

  -- a sum over the buildings, of any number that goes by how many tags each has
  sum_more : (m : ℕ → ℕ) → t < 4294967296
      → sum (λ (b : ℕ). m (owned b (t ∷ ts))) (up_to 16) + m (owned (building t) ts) ≡ sum (λ (b : ℕ). m (owned b ts)) (up_to 16) + m (suc (owned (building t) ts))
  sum_more m g =
      sum_past (λ (b : ℕ). m (owned b (t ∷ ts))) (λ (b : ℕ). m (owned b ts)) (building t) (λ b d. ap m (owned-other b d)) 16 (small-building t g)
      ∙ ap (λ (n : ℕ). sum (λ (b : ℕ). m (owned b ts)) (up_to 16) + m n) owned_own

  -- what a tag adds to the reserve: nothing where its building has fewer than 8
  pub reserve-below : t < 4294967296 → owned (building t) ts < 8 → reserve (t ∷ ts) ≡ reserve ts
  unfolding reserve
  reserve-below g h = omega (arith, sum_more (λ (n : ℕ). max 8 n) g)

  pub reserve_above : t < 4294967296 → 8 ≤ owned (building t) ts → reserve (t ∷ ts) ≡ suc (reserve ts)
  unfolding reserve
  reserve_above g h = omega (arith, sum_more (λ (n : ℕ). max 8 n) g)

  pub reserve_more : t < 4294967296 → reserve ts ≤ reserve (t ∷ ts)
  reserve_more g = by_lt (owned (building t) ts) 8 (λ h. omega (arith, reserve-below g h)) (λ h. omega (arith, reserve_above g h))

-- ---- all tags

-- "A tag is any 32-bit number"
abbrev pub Tags : List ℕ → Type 0
Tags ts = All (λ (t : ℕ). t < 4294967296) ts

owned_all : (ts : List ℕ) → Tags ts → sum (λ (b : ℕ). owned b ts) (up_to 16) ≡ length ts
unfolding owned sum up_to
owned_all [] h = refl
owned_all (t ∷ ts) (more g h) = omega (arith, sum_more t ts (λ (n : ℕ). n) g, owned_all ts h)

-- tags and lack together are the reserve
pub tags-lack : (ts : List ℕ) → Tags ts → length ts + lack ts ≡ reserve ts
unfolding lack reserve
tags-lack ts h =
    let s : sum (λ (b : ℕ). max 8 (owned b ts)) (up_to 16) ≡ sum (λ (b : ℕ). owned b ts + (8 - owned b ts)) (up_to 16) = sum_as (λ (b : ℕ). max 8 (owned b ts)) (λ (b : ℕ). owned b ts + (8 - owned b ts)) (λ b. omega arith) (up_to 16) in
    omega (arith, s, sum_both (λ (b : ℕ). owned b ts) (λ (b : ℕ). 8 - owned b ts) (up_to 16), owned_all ts h)

-- while a building has fewer than 8, there are fewer tags than the reserve
pub below-reserve : (t : ℕ) (ts : List ℕ) → t < 4294967296 → Tags ts → owned (building t) ts < 8 → length ts < reserve ts
below-reserve t ts g h f = omega (arith, tags-lack (t ∷ ts) (more g h), reserve-below t ts g f)

used-up : (ts : List ℕ) → Tags ts → length ts ≤ 256 → leb (256 - length ts) (lack ts) ≡ leb 256 (reserve ts)
used-up ts h g = leb_iff (256 - length ts) (lack ts) 256 (reserve ts) (λ k. omega (arith, tags-lack ts h)) (λ k. omega (arith, tags-lack ts h))

-- so a building with 8 or more may add one exactly while the reserve is below 256
pub full_reserve : (t : ℕ) (ts : List ℕ) → Tags ts → length ts ≤ 256 → building_full t ts ≡ (leb 8 (owned (building t) ts) && leb 256 (reserve ts))
unfolding building_full
full_reserve t ts h g = ap (λ (x : Bool). leb 8 (owned (building t) ts) && x) (used-up ts h g)

-- tags beyond the eighth of their building: the reserve has 128 more
unfoldable pub beyond : List ℕ → ℕ
beyond ts = sum (λ (b : ℕ). owned b ts - 8) (up_to 16)

eights : sum (λ (b : ℕ). 8) (up_to 16) ≡ 128
unfolding sum up_to
eights = refl

beyond-reserve : (ts : List ℕ) → reserve ts ≡ 128 + beyond ts
unfolding reserve beyond
beyond-reserve ts =
    sum_as (λ (b : ℕ). max 8 (owned b ts)) (λ (b : ℕ). 8 + (owned b ts - 8)) (λ b. omega arith) (up_to 16)
    ∙ sum_both (λ (b : ℕ). 8) (λ (b : ℕ). owned b ts - 8) (up_to 16)
    ∙ ap (λ (n : ℕ). n + sum (λ (b : ℕ). owned b ts - 8) (up_to 16)) eights

pub beyond_more : (t : ℕ) (ts : List ℕ) → t < 4294967296 → beyond (t ∷ ts) ≡ beyond ts + tally (leb 8 (owned (building t) ts))
unfolding beyond tally
beyond_more t ts g = by_lt (owned (building t) ts) 8
    (λ h. rw (lt-leb 8 (owned (building t) ts) h) (omega (arith, sum_more t ts (λ (n : ℕ). n - 8) g)))
    (λ h. rw (le-leb 8 (owned (building t) ts) h) (omega (arith, sum_more t ts (λ (n : ℕ). n - 8) g)))

pub full_beyond : (t : ℕ) (ts : List ℕ) → Tags ts → length ts ≤ 256 → building_full t ts ≡ (leb 8 (owned (building t) ts) && leb 128 (beyond ts))
full_beyond t ts h g =
    full_reserve t ts h g
    ∙ ap (λ (x : Bool). leb 8 (owned (building t) ts) && x) (leb_iff 256 (reserve ts) 128 (beyond ts) (λ k. omega (arith, beyond-reserve ts)) (λ k. omega (arith, beyond-reserve ts)))

-- a building with 8 has them beside all tags beyond
beyond_eight : (t : ℕ) (ts : List ℕ) → t < 4294967296 → Tags ts → 8 ≤ owned (building t) ts → beyond ts + 8 ≤ length ts
unfolding beyond
beyond_eight t ts g h k =
    let parted : sum (λ (b : ℕ). owned b ts) (up_to 16) ≡ sum (λ (b : ℕ). (owned b ts - 8) + min 8 (owned b ts)) (up_to 16) = sum_as (λ (b : ℕ). owned b ts) (λ (b : ℕ). (owned b ts - 8) + min 8 (owned b ts)) (λ b. omega arith) (up_to 16) in
    omega (
      arith,
      owned_all ts h,
      parted,
      sum_both (λ (b : ℕ). owned b ts - 8) (λ (b : ℕ). min 8 (owned b ts)) (up_to 16),
      sum_least (λ (b : ℕ). min 8 (owned b ts)) (building t) 16 (small-building t g),
    )

-- so with fewer than 136 tags none is full
pub few_open : (t : ℕ) (ts : List ℕ) → t < 4294967296 → Tags ts → length ts < 136 → building_full t ts ≡ false
few_open t ts g h few = full_beyond t ts h (omega arith) ∙ by_lt (owned (building t) ts) 8
    (λ k. ap (λ (x : Bool). x && leb 128 (beyond ts)) (lt-leb 8 (owned (building t) ts) k))
    (λ k. ap (λ (x : Bool). leb 8 (owned (building t) ts) && x) (lt-leb 128 (beyond ts) (omega (arith, beyond_eight t ts g h k))) ∙ and_false (leb 8 (owned (building t) ts)))

-- ---- in another order

module _ {xs ys : List ℕ} (p : Perm xs ys) where
  pub owned_perm : (b : ℕ) → owned b xs ≡ owned b ys
  unfolding owned
  owned_perm b = psum (λ (t : ℕ). tally (eqb (building t) b)) p

  sum_perm : (m : ℕ → ℕ) → sum (λ (b : ℕ). m (owned b xs)) (up_to 16) ≡ sum (λ (b : ℕ). m (owned b ys)) (up_to 16)
  sum_perm m = sum_as (λ (b : ℕ). m (owned b xs)) (λ (b : ℕ). m (owned b ys)) (λ b. ap m (owned_perm b)) (up_to 16)

  lack_perm : lack xs ≡ lack ys
  unfolding lack
  lack_perm = sum_perm (λ (n : ℕ). 8 - n)

  pub reserve_perm : reserve xs ≡ reserve ys
  unfolding reserve
  reserve_perm = sum_perm (max 8)

  pub beyond_perm : beyond xs ≡ beyond ys
  unfolding beyond
  beyond_perm = sum_perm (λ (n : ℕ). n - 8)

  pub full_perm : (t : ℕ) → building_full t xs ≡ building_full t ys
  unfolding building_full
  full_perm t = ap₂ (λ (x y : Bool). x && y) (ap (leb 8) (owned_perm (building t))) (ap₂ leb (ap (λ (n : ℕ). 256 - n) (plength p)) lack_perm)
