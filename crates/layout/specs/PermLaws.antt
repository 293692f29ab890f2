-- What does not depend on the order of a list.
use Rattle.std.specs.Prelude.{◌≡◌, refl, ◌≢◌, List, [], ◌∷◌, ◌++◌, map, ℕ, suc, ◌+◌, length}
use Rattle.std.proofs.Common.{sym, ap, ◌∙◌, subst, inl, inr, append-nil, arith}
use Rattle.wire.specs.All.{All, none, more, all_append, all_head, all_tail}
use Rattle.layout.specs.Perm.{Perm, pnil, pskip, pswap, ptrans, In, sum, Pairs, single, after}

module _ {A : Type 0} where
  pub prefl : (xs : List A) → Perm xs xs
  prefl [] = pnil
  prefl (x ∷ xs) = pskip x (prefl xs)

  pub psym : {xs ys : List A} → Perm xs ys → Perm ys xs
  psym pnil = pnil
  psym (pskip x p) = pskip x (psym p)
  psym (pswap x y xs) = pswap y x xs
  psym (ptrans p q) = ptrans (psym q) (psym p)

  pub pleft : (zs : List A) {xs ys : List A} → Perm xs ys → Perm (zs ++ xs) (zs ++ ys)
  pleft [] p = p
  pleft (z ∷ zs) p = pskip z (pleft zs p)

  pub pright : {xs ys : List A} (zs : List A) → Perm xs ys → Perm (xs ++ zs) (ys ++ zs)
  pright zs pnil = prefl zs
  pright zs (pskip x p) = pskip x (pright zs p)
  pright zs (pswap x y xs) = pswap x y (xs ++ zs)
  pright zs (ptrans p q) = ptrans (pright zs p) (pright zs q)

  -- an element brought to the front
  pub pfront : (x : A) (xs ys : List A) → Perm (xs ++ x ∷ ys) (x ∷ (xs ++ ys))
  pfront x [] ys = prefl (x ∷ ys)
  pfront x (y ∷ xs) ys = ptrans (pskip y (pfront x xs ys)) (pswap y x (xs ++ ys))

  pub protate : (x : A) (xs : List A) → Perm (xs ++ (x ∷ [])) (x ∷ xs)
  protate x xs = subst (λ (l : List A). Perm (xs ++ (x ∷ [])) (x ∷ l)) (append-nil xs) (pfront x xs [])

  pub plength : {xs ys : List A} → Perm xs ys → length xs ≡ length ys
  plength pnil = refl
  plength (pskip x p) = ap suc (plength p)
  plength (pswap x y xs) = refl
  plength (ptrans p q) = plength p ∙ plength q

  pub pall : (P : A → Type 0) {xs ys : List A} → Perm xs ys → All P xs → All P ys
  pall P pnil h = h
  pall P (pskip x p) (more a h) = more a (pall P p h)
  pall P (pswap x y xs) (more a (more b h)) = more b (more a h)
  pall P (ptrans p q) h = pall P q (pall P p h)

  pub all_left : (P : A → Type 0) (xs ys : List A) → All P (xs ++ ys) → All P xs
  all_left P [] ys h = none
  all_left P (x ∷ xs) ys (more a h) = more a (all_left P xs ys h)

  pub all_right : (P : A → Type 0) (xs ys : List A) → All P (xs ++ ys) → All P ys
  all_right P [] ys h = h
  all_right P (x ∷ xs) ys (more a h) = all_right P xs ys h

  pub all_zip : (P Q R : A → Type 0) (xs : List A) → ((x : A) → P x → Q x → R x) → All P xs → All Q xs → All R xs
  all_zip P Q R [] f h k = none
  all_zip P Q R (x ∷ xs) f h k = more (f x (all_head h) (all_head k)) (all_zip P Q R xs f (all_tail h) (all_tail k))

  pub ppairs : (R : A → A → Type 0) → ((x y : A) → R x y → R y x) → {xs ys : List A} → Perm xs ys → Pairs R xs → Pairs R ys
  ppairs R r pnil h = h
  ppairs R r (pskip x p) (after a h) = after (pall (R x) p a) (ppairs R r p h)
  ppairs R r (pswap x y xs) (after (more e a) (after b h)) = after (more (r x y e) b) (after a h)
  ppairs R r (ptrans p q) h = ppairs R r q (ppairs R r p h)

  pub pairs_head : (R : A → A → Type 0) (x : A) (xs : List A) → Pairs R (x ∷ xs) → All (R x) xs
  pairs_head R x xs (after a h) = a

  pub pairs_tail : (R : A → A → Type 0) (x : A) (xs : List A) → Pairs R (x ∷ xs) → Pairs R xs
  pairs_tail R x xs (after a h) = h

  pub pairs_append : (R : A → A → Type 0) (xs ys : List A) → Pairs R xs → Pairs R ys → All (λ (x : A). All (R x) ys) xs → Pairs R (xs ++ ys)
  pairs_append R [] ys h k c = k
  pairs_append R (x ∷ xs) ys (after a h) k (more b c) = after (all_append a b) (pairs_append R xs ys h k c)

  -- ---- members

  pub pin : (z : A) {xs ys : List A} → Perm xs ys → In z xs → In z ys
  pin z pnil i = i
  pin z (pskip x p) (inl e) = inl e
  pin z (pskip x p) (inr i) = inr (pin z p i)
  pin z (pswap x y xs) (inl e) = inr (inl e)
  pin z (pswap x y xs) (inr (inl e)) = inl e
  pin z (pswap x y xs) (inr (inr i)) = inr (inr i)
  pin z (ptrans p q) i = pin z q (pin z p i)

  pub all_in : (P : A → Type 0) (z : A) (xs : List A) → All P xs → In z xs → P z
  all_in P z [] h i = absurd i
  all_in P z (x ∷ xs) (more a h) (inl e) = subst P (sym e) a
  all_in P z (x ∷ xs) (more a h) (inr i) = all_in P z xs h i

  pub in_all : (P : A → Type 0) (xs : List A) → ((x : A) → In x xs → P x) → All P xs
  in_all P [] f = none
  in_all P (x ∷ xs) f = more (f x (inl refl)) (in_all P xs (λ z i. f z (inr i)))

  pub pulled : (x : A) (ys : List A) → In x ys → (zs : List A) × Perm ys (x ∷ zs)
  pulled x [] i = absurd i
  pulled x (y ∷ ys) (inl e) = (ys, subst (λ z. Perm (y ∷ ys) (z ∷ ys)) (sym e) (prefl (y ∷ ys)))
  pulled x (y ∷ ys) (inr i) = let r = pulled x ys i in (y ∷ r.0, ptrans (pskip y r.1) (pswap y x r.0))

  pub keep_in : (x z : A) (ys : List A) → z ≢ x → In z (x ∷ ys) → In z ys
  keep_in x z ys d (inl e) = absurd (d e)
  keep_in x z ys d (inr i) = i

  -- lists of the same members, none of which has one twice
  pub pmembers : (xs ys : List A) → Pairs ◌≢◌ xs → Pairs ◌≢◌ ys → ((x : A) → In x xs → In x ys) → ((x : A) → In x ys → In x xs) → Perm xs ys
  pmembers [] [] a b f g = pnil
  pmembers [] (y ∷ ys) a b f g = absurd (g y (inl refl))
  pmembers (x ∷ xs) ys (after o a) b f g =
      let r = pulled x ys (f x (inl refl)) in
      let p : Perm ys (x ∷ r.0) = r.1 in
      let d : Pairs ◌≢◌ (x ∷ r.0) = ppairs ◌≢◌ (λ y z n e. n (sym e)) p b in
      ptrans (pskip x (pmembers xs r.0 a (pairs_tail ◌≢◌ x r.0 d)
      (λ z i. keep_in x z r.0 (λ e. all_in (λ (y : A). x ≢ y) z xs o i (sym e)) (pin z p (f z (inr i))))
      (λ z i. keep_in x z xs (λ e. all_in (λ (y : A). x ≢ y) z r.0 (pairs_head ◌≢◌ x r.0 d) i (sym e)) (g z (pin z (psym p) (inr i))))))
      (psym p)

module _ {A B : Type 0} (f : A → B) where
  pub pmap : {xs ys : List A} → Perm xs ys → Perm (map f xs) (map f ys)
  pmap pnil = pnil
  pmap (pskip x p) = pskip (f x) (pmap p)
  pmap (pswap x y xs) = pswap (f x) (f y) (map f xs)
  pmap (ptrans p q) = ptrans (pmap p) (pmap q)

  pub in_map : (y : B) (xs : List A) → In y (map f xs) → (x : A) × In x xs × (y ≡ f x)
  in_map y [] i = absurd i
  in_map y (x ∷ xs) (inl e) = (x, inl refl, e)
  in_map y (x ∷ xs) (inr i) = let r = in_map y xs i in (r.0, inr r.1, r.2)

  pub map_in : (x : A) (xs : List A) → In x xs → In (f x) (map f xs)
  map_in x [] i = absurd i
  map_in x (y ∷ xs) (inl e) = inl (ap f e)
  map_in x (y ∷ xs) (inr i) = inr (map_in x xs i)

-- what holds of all elements' images, or of each two, holds of the mapped list, and back
module _ {A B : Type 0} (f : A → B) where
  pub all_mapped : (P : B → Type 0) (xs : List A) → All (λ (x : A). P (f x)) xs → All P (map f xs)
  all_mapped P [] h = none
  all_mapped P (x ∷ xs) (more a h) = more a (all_mapped P xs h)

  all_unmapped : (P : B → Type 0) (xs : List A) → All P (map f xs) → All (λ (x : A). P (f x)) xs
  all_unmapped P [] h = none
  all_unmapped P (x ∷ xs) (more a h) = more a (all_unmapped P xs h)

  pub pairs_mapped : (R : B → B → Type 0) (xs : List A) → Pairs (λ (x y : A). R (f x) (f y)) xs → Pairs R (map f xs)
  pairs_mapped R [] h = single
  pairs_mapped R (x ∷ xs) (after a h) = after (all_mapped (R (f x)) xs a) (pairs_mapped R xs h)

  pub pairs_unmapped : (R : B → B → Type 0) (xs : List A) → Pairs R (map f xs) → Pairs (λ (x y : A). R (f x) (f y)) xs
  pairs_unmapped R [] h = single
  pairs_unmapped R (x ∷ xs) (after a h) = after (all_unmapped (R (f x)) xs a) (pairs_unmapped R xs h)

-- ---- sums

-- a sum does not see the order
pub psum : {A : Type 0} (f : A → ℕ) {xs ys : List A} → Perm xs ys → sum f xs ≡ sum f ys
unfolding sum
psum f pnil = refl
psum f (pskip x p) = ap (λ (n : ℕ). f x + n) (psum f p)
psum f (pswap x y xs) = omega arith
psum f (ptrans p q) = psum f p ∙ psum f q
