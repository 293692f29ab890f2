-- The tests of validity say what they should, both ways.
use Rattle.std.specs.Prelude.{◌≡◌, refl, Bool, true, not, ◌&&◌, leb, ltb, eqb, length}
use mathlib.Core.List.{List, [], ◌∷◌}
use Prim.Native.Nat.{ℕ, suc, ◌+◌, ◌*◌, ◌≤◌, ◌<◌}
use Rattle.std.proofs.Common.{leb-true, le-leb, ltb-true, lt-ltb, eqb-true, eq-eqb, ne_eqb}
use Rattle.std.proofs.lemmas.Bool.{eqb-false, not-true}
use Rattle.wire.specs.Cases.{both}
use Rattle.wire.specs.Bytes.{equal}
use Rattle.wire.specs.BytesLaws.{equal_is, equal_refl}
use Rattle.wire.specs.All.{All, none, more, all_head, all_tail}
use Rattle.records.specs.declared.Record.{Record}
use Rattle.records.specs.Records.{Fits, rising}
use Rattle.layout.specs.Zones.{Block, Zone, empty, from, blocks}
use Rattle.layout.specs.Perm.{Pairs, single, after}
use Rattle.layout.specs.Valid.{Other, all, fits, distinct, Sits, Laid, Valid, sits, laid, valid}
use Rattle.layout.specs.PermLaws.{pairs_head, pairs_tail}

-- a test that says whether P
pub record Tests (P : Type 0) (b : Bool) : Type 0 where
  pub says : b ≡ true → P
  pub when : P → b ≡ true

pub t_and : {P Q : Type 0} {a b : Bool} → Tests P a → Tests Q b → Tests (P × Q) (a && b)
t_and {a = a} {b = b} p q = record { says = λ t. (p.says (both a b t).0, q.says (both a b t).1); when = λ x. rw (p.when x.0) (q.when x.1) }

pub t_le : (a b : ℕ) → Tests (a ≤ b) (leb a b)
t_le a b = record { says = leb-true a b; when = le-leb a b }

pub t_lt : (a b : ℕ) → Tests (a < b) (ltb a b)
t_lt a b = record { says = ltb-true a b; when = lt-ltb a b }

pub t_eq : (a b : ℕ) → Tests (a ≡ b) (eqb a b)
t_eq a b = record { says = eqb-true a b; when = eq-eqb a b }

t_true : (b : Bool) → Tests (b ≡ true) b
t_true b = record { says = λ t. t; when = λ t. t }

pub t_equal : (xs ys : List ℕ) → Tests (xs ≡ ys) (equal xs ys)
t_equal xs ys = record { says = equal_is xs ys; when = λ e. rw e (equal_refl ys) }

-- under another name
pub t_as : {P Q : Type 0} {b : Bool} → (P → Q) → (Q → P) → Tests P b → Tests Q b
t_as f g p = record { says = λ t. f (p.says t); when = λ q. p.when (g q) }

t_all : {A : Type 0} (P : A → Type 0) (p : A → Bool) → ((x : A) → Tests (P x) (p x)) → (xs : List A) → Tests (All P xs) (all p xs)
unfolding all
t_all P p f [] = record { says = λ t. none; when = λ x. refl }
t_all P p f (x ∷ xs) = t_as (λ a. more a.0 a.1) (λ a. (all_head a, all_tail a)) (t_and (f x) (t_all P p f xs))

t_fits : (r : Record) → Tests (Fits r) (fits r)
unfolding fits
t_fits r = t_as
    (λ p. record { level = p.0; second = p.1.0; phone = p.1.1.0; minutes = p.1.1.1 })
    (λ p. (p.level, (p.second, (p.phone, p.minutes))))
    (t_and (t_lt r.level 256) (t_and (t_lt r.second 4294967296) (t_and (t_lt r.phone 65536) (t_lt r.minutes 256))))

t_other : (x y : Block) → Tests (Other x y) (not (eqb x.tag y.tag))
t_other x y = record { says = λ t. eqb-false x.tag y.tag (not-true (eqb x.tag y.tag) t); when = λ o. rw (ne_eqb x.tag y.tag o) }

t_distinct : (bs : List Block) → Tests (Pairs Other bs) (distinct bs)
unfolding distinct
t_distinct [] = record { says = λ t. single; when = λ x. refl }
t_distinct (x ∷ xs) = t_as (λ p. after p.0 p.1) (λ p. (pairs_head Other x xs p, pairs_tail Other x xs p))
    (t_and (t_all (Other x) (λ (y : Block). not (eqb x.tag y.tag)) (t_other x) xs) (t_distinct xs))

module _ (cells class_of : ℕ → ℕ) where
  t_sits : (c : ℕ) (b : Block) → Tests (Sits cells class_of c b) (sits cells class_of c b)
  unfolding sits
  t_sits c b = t_as
      (λ p. record { tag = p.0; some = p.1.0; room = p.1.1.0; class = p.1.1.1.0; rising = p.1.1.1.1.0; fits = p.1.1.1.1.1 })
      (λ p. (p.tag, (p.some, (p.room, (p.class, (p.rising, p.fits))))))
      (t_and (t_lt b.tag 4294967296) (t_and (t_lt 0 (length b.list)) (t_and (t_lt (length b.list) (cells c))
      (t_and (t_eq (class_of (length b.list)) c) (t_and (t_true (rising b.list)) (t_all Fits fits t_fits b.list))))))

  t_laid : (n c e : ℕ) (zs : List Zone) → Tests (Laid cells class_of n c e zs) (laid cells class_of n c e zs)
  unfolding laid
  t_laid n c e [] = t_le e n
  t_laid n c e (empty ∷ zs) = t_laid n (suc c) e zs
  t_laid n c e (from f x xs ∷ zs) = t_and
      (t_as (λ p. record { after = p.0; tight = p.1.0; sit = p.1.1 }) (λ p. (p.after, (p.tight, p.sit)))
      (t_and (t_le e f) (t_and (t_lt f (e + cells c)) (t_all (Sits cells class_of c) (sits cells class_of c) (t_sits c) (x ∷ xs)))))
      (t_laid n (suc c) (f + suc (length xs) * cells c) zs)

  pub t_valid : (n : ℕ) (zs : List Zone) → Tests (Valid cells class_of n zs) (valid cells class_of n zs)
  unfolding valid
  t_valid n zs = t_as (λ p. record { classes = p.0; laid = p.1.0; distinct = p.1.1.0; few = p.1.1.1 }) (λ p. (p.classes, (p.laid, (p.distinct, p.few))))
      (t_and (t_eq (length zs) 30) (t_and (t_laid n 0 0 zs) (t_and (t_distinct (blocks zs)) (t_le (length (blocks zs)) 256))))
