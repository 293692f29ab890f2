-- Tags of blocks, and the list that is found for a tag.
use Rattle.std.specs.Prelude.{◌≡◌, refl, Bool, true, false, ◌≢◌, List, [], ◌∷◌, ◌++◌, ℕ, eqb}
use Rattle.std.proofs.Common.{sym, ap, ◌∙◌, eqb-true, eq-eqb, ne_eqb}
use Rattle.wire.specs.Bytes.{pick}
use Rattle.wire.specs.Cases.{by_eq, never}
use Rattle.wire.specs.All.{All, none, more}
use Rattle.layout.specs.Zones.{Block, has_tag, find}
use Rattle.layout.specs.Perm.{Perm, pnil, pskip, pswap, ptrans, Pairs, after}
use Rattle.layout.specs.Valid.{Other}
use Rattle.layout.specs.PermLaws.{ppairs}

-- no block has tag t
abbrev pub Lacks : ℕ → List Block → Type 0
Lacks t bs = All (λ (x : Block). t ≢ x.tag) bs

pub other_sym : (x y : Block) → Other x y → Other y x
other_sym x y h e = h (sym e)

pub pdistinct : {xs ys : List Block} → Perm xs ys → Pairs Other xs → Pairs Other ys
pdistinct p h = ppairs Other other_sym p h

-- ---- with a block in front

pub find_here : (t : ℕ) (b : Block) (bs : List Block) → b.tag ≡ t → find t (b ∷ bs) ≡ b.list
unfolding find
find_here t b bs e = rw (eq-eqb b.tag t e)

pub find_skip : (t : ℕ) (b : Block) (bs : List Block) → t ≢ b.tag → find t (b ∷ bs) ≡ find t bs
unfolding find
find_skip t b bs n = rw (ne_eqb b.tag t (λ e. n (sym e)))

pub has_here : (t : ℕ) (b : Block) (bs : List Block) → b.tag ≡ t → has_tag t (b ∷ bs) ≡ true
unfolding has_tag
has_here t b bs e = rw (eq-eqb b.tag t e)

pub has_skip : (t : ℕ) (b : Block) (bs : List Block) → t ≢ b.tag → has_tag t (b ∷ bs) ≡ has_tag t bs
unfolding has_tag
has_skip t b bs n = rw (ne_eqb b.tag t (λ e. n (sym e)))

-- the first block has the tag, or those after it
pub by_tag : {G : Type 0} (t : ℕ) (b : Block) → (b.tag ≡ t → G) → (t ≢ b.tag → G) → G
by_tag t b y n = by_eq b.tag t y (λ q. n (λ e. q (sym e)))

-- ---- the whole list

swap_picks : {X : Type 0} (a b : Bool) (p q r : X) → (a ≡ true → b ≡ true → ⊥) → ◌≡◌ {A = X} (pick a p (pick b q r)) (pick b q (pick a p r))
swap_picks true true p q r no₂ = absurd (no₂ refl refl)
swap_picks true false p q r no₂ = refl
swap_picks false true p q r no₂ = refl
swap_picks false false p q r no₂ = refl

-- what is found does not depend on the order
pub pfind : (t : ℕ) {xs ys : List Block} → Perm xs ys → Pairs Other xs → find t xs ≡ find t ys
unfolding find
pfind t pnil h = refl
pfind t (pskip x p) (after a h) = ap (pick (eqb x.tag t) x.list) (pfind t p h)
pfind t (pswap x y xs) (after (more o a) h) =
    swap_picks (eqb x.tag t) (eqb y.tag t) x.list y.list (find t xs) (λ p q. o (eqb-true x.tag t p ∙ sym (eqb-true y.tag t q)))
pfind t (ptrans p q) h = pfind t p h ∙ pfind t q (pdistinct p h)

pub find_none : (t : ℕ) (bs : List Block) → Lacks t bs → find t bs ≡ []
unfolding find
find_none t [] h = refl
find_none t (x ∷ xs) (more n h) = find_skip t x xs n ∙ find_none t xs h

pub lacks_has : (t : ℕ) (bs : List Block) → has_tag t bs ≡ false → Lacks t bs
unfolding has_tag
lacks_has t [] h = none
lacks_has t (x ∷ xs) h = by_tag t x (λ e. never (sym h ∙ has_here t x xs e)) (λ n. more n (lacks_has t xs (sym (has_skip t x xs n) ∙ h)))

-- ---- two lists joined, of which the first lacks the tag

pub has_append : (t : ℕ) (xs ys : List Block) → has_tag t xs ≡ false → has_tag t (xs ++ ys) ≡ has_tag t ys
has_append t [] ys n = refl
has_append t (x ∷ xs) ys n =
    by_tag t x (λ e. never (sym n ∙ has_here t x xs e)) (λ o. has_skip t x (xs ++ ys) o ∙ has_append t xs ys (sym (has_skip t x xs o) ∙ n))

pub find_later : (t : ℕ) (xs ys : List Block) → has_tag t xs ≡ false → find t (xs ++ ys) ≡ find t ys
find_later t [] ys n = refl
find_later t (x ∷ xs) ys n =
    by_tag t x (λ e. never (sym n ∙ has_here t x xs e)) (λ o. find_skip t x (xs ++ ys) o ∙ find_later t xs ys (sym (has_skip t x xs o) ∙ n))
