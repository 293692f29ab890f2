-- Two controllers, two sequences: the same edits, in whatever sequence each of the two gets them, leave the same lists.
use Rattle.std.specs.Prelude.{◌≡◌, Bool, true, ◌&&◌, ◌≢◌, ◌⊎◌, ◌↔◌, ℕ, ◌<◌, eqb, length, get_or}
use Rattle.std.proofs.Math.Path.{refl, ap}
use Rattle.std.proofs.Common.{sym, ◌∙◌, subst, arith}
use Rattle.std.proofs.Math.Bool.{false}
use Rattle.std.proofs.Math.Logic.{inl, inr, ⊎_elim}
use Rattle.std.proofs.Math.Option.{none}
use mathlib.Core.List.{List, [], ◌∷◌}
use borrow.Author.Tests.{eq-eqb}
use Rattle.wire.specs.All.{All, more, all_head, all_tail}
use Rattle.wire.specs.Cases.{by_eq, never}
use Rattle.refusals.specs.Rules.{refusal}
use Rattle.records.specs.declared.Record.{Record}
use Rattle.records.specs.Records.{Fits, key, before, rising}
use Rattle.redo.specs.Image.{home}
use Rattle.layout.specs.Perm.{Perm, In, Pairs}
use Rattle.layout.specs.PermLaws.{psym, pin, pall, ppairs, pairs_head, pairs_tail, all_in}
use Rattle.layout.specs.MembersLaws.{same_records, insert_perm, in_removed, removed_in}
use Rattle.home.specs.Sound.{sound, list_of}
use Rattle.gates.specs.declared.Of.{Of}
use Rattle.gates.specs.declared.Of.TheVariants.{Image, Space}
use Rattle.gates.specs.Gates.{gate_rules, home_in}
use Rattle.gates.specs.GatesLaws.{home_fine, image_open}
use Rattle.reads.specs.Reads.{list_in}
use Rattle.reads.specs.ReadsLaws.{sound-listed}
use Rattle.edits.specs.declared.Terminal.{Terminal}
use Rattle.demands.specs.Effects.{Done, Effect, edit_effect}
use Rattle.demands.specs.Lists.{list-sorted, space_opens, ReadsAs, lists_read}
use Rattle.demands.specs.Sequences.{Edit, put, delete, set_minutes, drop_tag, made, tag_of, list_by, Ranged, events, Accepted, through, Turn, after_turns}
use Rattle.demands.specs.SequencesLaws.{through-sound}
use Rattle.demands.specs.Reached.{Reached, edits_of, AllFinished, finished}

-- ---- a collection of edits

-- does an edit name tag t's record with key k
unfoldable pub names : ℕ → ℕ → Edit → Bool
names t k (put by u r) = eqb u t && eqb (key r) k
names t k (delete u j) = eqb u t && eqb j k
names t k (set_minutes u j m) = eqb u t && eqb j k
names t k (drop_tag u) = eqb u t

-- does an edit put a record that another one names
unfoldable pub clash : Edit → Edit → Bool
clash (put by t r) f = names t (key r) f
clash (delete t k) f = false
clash (set_minutes t k m) f = false
clash (drop_tag t) f = false

-- the edits that the claim speaks of: it does not name sets of minutes
unfoldable pub covered : Edit → Bool
covered (put by t r) = true
covered (delete t k) = true
covered (set_minutes t k m) = false
covered (drop_tag t) = true

-- "no two with the same tag and primary part", "no deleted record or dropped tag is also put"
abbrev pub Apart : Edit → Edit → Type 0
Apart e f = (clash e f ≡ false) × (clash f e ≡ false)

-- "any collection of desk puts, .. deletes or drops": puts of the pit, too
pub record Collection (es : List Edit) : Type 0 where
  pub ranged : All Ranged es
  pub kinds : All (λ (e : Edit). covered e ≡ true) es
  pub apart : Pairs Apart es

-- in whatever sequence it comes
pub reordered : {es fs : List Edit} → Perm es fs → Collection es → Collection fs
reordered p c = record {
  ranged = pall Ranged p c.ranged;
  kinds = pall (λ (e : Edit). covered e ≡ true) p c.kinds;
  apart = ppairs Apart (λ e f a. (a.1, a.0)) p c.apart;
}

-- ---- which records are listed afterwards

-- edits of two kinds differ
kind : Edit → ℕ
kind (put by t r) = 0
kind (delete t k) = 1
kind (set_minutes t k m) = 2
kind (drop_tag t) = 3

module _ (t : ℕ) (r : Record) where
  -- it is put, or it is there and neither it is deleted nor the tag dropped
  abbrev pub Due : List Edit → List Record → Type 0
  Due es rs = ((by : Terminal) × In (put by t r) es) ⊎ (In r rs × (In (delete t (key r)) es → ⊥) × (In (drop_tag t) es → ⊥))

  -- another edit than the one of a sequence
  not-one : {x e : Edit} → x ≢ e → In x (e ∷ []) → ⊥
  not-one n (inl q) = n q
  not-one n (inr i) = i

  -- what one edit of tag t makes of its list rs
  one : (e : Edit) (rs : List Record) → covered e ≡ true → rising rs ≡ true → tag_of e ≡ t → In r (list_by e rs) ↔ Due (e ∷ []) rs
  unfolding kind covered tag_of list_by
  one (put by u s) rs m o q = (
    λ i. ⊎_elim (λ p. inl (by, inl cc)) (λ j. inr (j, not-one (λ z. omega (arith, ap kind z)), not-one (λ z. omega (arith, ap kind z)))) (pin r (insert_perm s rs) i),
    λ d. pin r (psym (insert_perm s rs)) (⊎_elim (λ b. inl (⊎_elim (λ p. cc) (λ x. absurd x) b.1)) (λ b. inr b.0) d),
  )
  one (delete u k) rs m o q = (
    λ i. let h = in_removed 0 k r rs o i in inr (h.0, not-one (λ z. h.1 cc), not-one (λ z. omega (arith, ap kind z))),
    λ d. ⊎_elim (λ b. absurd (not-one (λ z. omega (arith, ap kind z)) b.1)) (λ b. removed_in k r rs b.0 (λ z. b.1 (inl cc))) d,
  )
  one (set_minutes u k n) rs m o q = never m
  one (drop_tag u) rs m o q = (
    λ i. absurd i,
    λ d. ⊎_elim (λ b. absurd (not-one (λ z. omega (arith, ap kind z)) b.1)) (λ b. absurd (b.2 (inl cc))) d,
  )

  -- or one of another tag
  aside : (e : Edit) (rs : List Record) → tag_of e ≢ t → In r rs ↔ Due (e ∷ []) rs
  unfolding tag_of
  aside e rs q = (
    λ i. inr (i, not-one (λ z. q (sym (ap tag_of z))), not-one (λ z. q (sym (ap tag_of z)))),
    λ d. ⊎_elim (λ b. absurd (not-one (λ z. q (sym (ap tag_of z))) b.1)) (λ b. b.0) d,
  )

  one_edit : (e : Edit) → covered e ≡ true → (w w' : List ℕ) (n : ℕ) → Done w w' (tag_of e) (list_by e (list_of w (tag_of e))) n → In r (list_of w' t) ↔ Due (e ∷ []) (list_of w t)
  one_edit e m w w' n d =
      let is : (rs : List Record) → list_of w' t ≡ rs → In r rs ↔ Due (e ∷ []) (list_of w t) → In r (list_of w' t) ↔ Due (e ∷ []) (list_of w t) =
      λ rs q h. subst (λ (xs : List Record). In r xs ↔ Due (e ∷ []) (list_of w t)) (sym q) h in
      by_eq (tag_of e) t
      (λ q. is (list_by e (list_of w t)) (ap (list_of w') (sym q) ∙ d.list ∙ ap (λ (u : ℕ). list_by e (list_of w u)) q) (one e (list_of w t) m (sound-listed w t d.was).rising q))
      (λ q. is (list_of w t) (d.others t (λ z. q (sym z))) (aside e (list_of w t) q))

  -- the first edit and those after it
  joined : (e : Edit) (es : List Edit) (rs rs' : List Record) → (In r rs' → Due (e ∷ []) rs) → Due es rs' → Due (e ∷ es) rs
  joined e es rs rs' f (inl (by, i)) = inl (by, inr i)
  joined e es rs rs' f (inr (i, nd, np)) = ⊎_elim
      (λ b. inl (b.0, ⊎_elim (λ p. inl p) (λ x. absurd x) b.1))
      (λ b. inr (b.0, ⊎_elim (λ p. b.1 (inl p)) nd, ⊎_elim (λ p. b.2 (inl p)) np))
      (f i)

  parted : (e : Edit) (es : List Edit) (rs rs' : List Record) → All (Apart e) es → (Due (e ∷ []) rs → In r rs') → Due (e ∷ es) rs → Due es rs'
  unfolding clash names
  parted e es rs rs' a f (inl (by, inr i)) = inl (by, i)
  parted e es rs rs' a f (inl (by, inl p)) =
      let named : (x : Edit) → In x es → names t (key r) x ≡ false = λ x i. ap (λ (y : Edit). clash y x) p ∙ (all_in (Apart e) x es a i).0 in
      inr (f (inl (by, inl p)), λ i. never (sym (named (delete t (key r)) i) ∙ rw (eq-eqb t t refl, eq-eqb (key r) (key r) refl) refl), λ i. never (sym (named (drop_tag t) i) ∙ eq-eqb t t refl))
  parted e es rs rs' a f (inr (i, nd, np)) = inr (f (inr (i, ⊎_elim (λ p. nd (inl p)) (λ x. x), ⊎_elim (λ p. np (inl p)) (λ x. x))), λ j. nd (inr j), λ j. np (inr j))

  -- a record is listed afterwards exactly if it was put, or was there and was neither deleted nor dropped
  pub listed_exactly : (es : List Edit) → Collection es → (w : List ℕ) → All Accepted (events es w) → In r (list_of (through es w) t) ↔ Due es (list_of w t)
  unfolding events through
  listed_exactly [] c w a = (λ i. inr (i, λ x. x, λ x. x), λ d. ⊎_elim (λ b. absurd b.1) (λ b. b.0) d)
  listed_exactly (e ∷ es) c w (more (n, q) a) =
      let c' : Collection es = record { ranged = all_tail c.ranged; kinds = all_tail c.kinds; apart = pairs_tail Apart e es c.apart } in
      let h = listed_exactly es c' (made e w) a in
      let s = one_edit e (all_head c.kinds) w (made e w) n (subst (Effect w (made e w) (tag_of e) (list_by e (list_of w (tag_of e)))) q (edit_effect e (all_head c.ranged) w)) in (
        λ i. joined e es (list_of w t) (list_of (made e w) t) s.0 (h.0 i),
        λ d. h.1 (parted e es (list_of w t) (list_of (made e w) t) (pairs_head Apart e es c.apart) s.1 d),
      )

  -- in either sequence
  same_due : {es fs : List Edit} {rs rs' : List Record} → Perm es fs → rs ≡ rs' → Due es rs → Due fs rs'
  same_due p q (inl (by, i)) = inl (by, pin (put by t r) p i)
  same_due p q (inr (i, nd, np)) = inr (subst (In r) q i, λ j. nd (pin (delete t (key r)) (psym p) j), λ j. np (pin (drop_tag t) (psym p) j))

-- ---- two controllers

-- what two of them have in common
pub record Agree (of : Of) (a : List ℕ) (of' : Of) (b : List ℕ) : Type 0 where
  -- "equal lists for every tag, record by record", minutes included
  pub lists : (t : ℕ) → list_in of a t ≡ list_in of' b t
  -- the top line of every tag, the second, and each after it; z where there is none
  pub line : (t i : ℕ) (z : Record) → get_or (list_in of a t) i z ≡ get_or (list_in of' b t) i z
  -- where one takes the first call and its partner the second, they take two calls, the earlier one first
  pub partners : (t : ℕ) (z : Record) → Fits z → 1 < length (list_in of a t) → before (get_or (list_in of a t) 0 z) (get_or (list_in of' b t) 1 z) ≡ true
  -- and every read
  pub reads : ReadsAs of a of' b

agree : (of : Of) (a : List ℕ) (of' : Of) (b : List ℕ) → refusal (gate_rules of a) ≡ none → refusal (gate_rules of' b) ≡ none → ((t : ℕ) → list_in of a t ≡ list_in of' b t) → Agree of a of' b
agree of a of' b p q e = record {
  lists = e;
  line = λ t i z. ap (λ (rs : List Record). get_or rs i z) (e t);
  partners = λ t z f g. ap (λ (rs : List Record). before (get_or (list_in of a t) 0 z) (get_or rs 1 z)) (sym (e t)) ∙ list-sorted (home_in of a) t (home_fine of a p) 0 1 z f (omega arith) g;
  reads = lists_read of a of' b p q e;
}

module _ (es fs : List Edit) (same : Perm es fs) (c : Collection es) (w w' : List ℕ) (fine : sound w ≡ true) (fine' : sound w' ≡ true) (lists : (t : ℕ) → list_of w t ≡ list_of w' t) where
  -- "applied in two sequences to workspaces with equal lists, where neither sequence meets a refusal: both end with equal lists for every tag"
  pub two_sequences : All Accepted (events es w) → All Accepted (events fs w') → (t : ℕ) → list_of (through es w) t ≡ list_of (through fs w') t
  two_sequences a b t =
      let one : (r : Record) → In r (list_of (through es w) t) ↔ Due t r es (list_of w t) = λ r. listed_exactly t r es c w a in
      let other : (r : Record) → In r (list_of (through fs w') t) ↔ Due t r fs (list_of w' t) = λ r. listed_exactly t r fs (reordered same c) w' b in
      same_records 0 (list_of (through es w) t) (list_of (through fs w') t)
      (sound-listed (through es w) t (through-sound es c.ranged w fine)).rising
      (sound-listed (through fs w') t (through-sound fs (reordered same c).ranged w' fine')).rising
      (λ r i. (other r).1 (same_due t r same (lists t) ((one r).0 i)))
      (λ r i. (one r).1 (same_due t r (psym same) (sym (lists t)) ((other r).0 i)))

  pub controllers_agree : All Accepted (events es w) → All Accepted (events fs w') → Agree Space (through es w) Space (through fs w')
  unfolding home_in
  controllers_agree a b = agree Space (through es w) Space (through fs w')
      (space_opens (through es w) (through-sound es c.ranged w fine))
      (space_opens (through fs w') (through-sound fs (reordered same c).ranged w' fine'))
      (two_sequences a b)

-- ---- through commits

module _ (l l' : List ℕ) (p : refusal (gate_rules Image l) ≡ none) (p' : refusal (gate_rules Image l') ≡ none) (lists : (t : ℕ) → list_in Image l t ≡ list_in Image l' t) where
  -- two images with equal lists have come to hold the edits of a collection, each in its own sequence
  pub images_agree : {es fs : List Edit} {x x' : List ℕ} → Perm es fs → Collection es → Reached es (home l) x → Reached fs (home l') x' → Agree Image x Image x'
  unfolding home_in
  images_agree {es} {fs} {x} {x'} same c a b = agree Image x Image x' a.gate b.gate (λ t.
      ap (λ (h : List ℕ). list_of h t) a.bytes
      ∙ two_sequences es fs same c (home l) (home l') (image_open l p).fine (image_open l' p').fine lists a.accepted b.accepted t
      ∙ ap (λ (h : List ℕ). list_of h t) (sym b.bytes))

  -- by turns, however many edits in one: each begun, made and committed, and all done
  pub turns_agree : (us vs : List Turn) → Perm (edits_of us) (edits_of vs) → Collection (edits_of us) → AllFinished us l → AllFinished vs l' → Agree Image (after_turns us l) Image (after_turns vs l')
  turns_agree us vs same c f g = images_agree same c (finished us l p f) (finished vs l' p' g)
