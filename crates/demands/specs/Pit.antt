-- The pit terminal: its put is the desk's but for 17, and "Both limits hold on the same list in whatever sequence the two work".
use Rattle.refusals.specs.declared.Refusal.TheVariants.{ListFull, Listed, PitFull}
use Rattle.std.specs.Prelude.{◌≡◌, Bool, true, ◌≢◌, ◌⊎◌, List, ◌∷◌, ◌++◌, ℕ, suc, ◌≤◌, ◌<◌, max, Ok, Err}
use Rattle.std.proofs.Math.Path.{refl, sym, ap, subst}
use Rattle.std.proofs.Common.{◌∙◌}
use Rattle.std.proofs.Math.Bool.{false}
use Rattle.std.proofs.Math.Logic.{inl, inr}
use Rattle.std.proofs.Math.Option.{none, some}
use Rattle.std.proofs.Math.Nat.{le-max_left, le-max_right}
use native.Mathlib.Omega.{arith}
use Rattle.std.proofs.Math.Dec.{leb, eqb}
use Rattle.std.proofs.Math.ListN.{length}
use borrow.Author.Tests.{le-leb, lt-leb, eq-eqb, eqb-false}
use Rattle.wire.specs.All.{All, none as nothing, more, all_map}
use Rattle.wire.specs.Cases.{by_test, by_lt, never}
use Rattle.refusals.specs.declared.Refusal.{Refusal}
use Rattle.refusals.specs.Rules.{Rule, rule, first, refusal, numbers}
use Rattle.refusals.specs.RulesLaws.{first-behind, refused_among, unrefused}
use Rattle.records.specs.declared.Record.{Record}
use Rattle.records.specs.Records.{key, look, held}
use Rattle.image_log.specs.Claim.{Starts}
use Rattle.layout.specs.Edits.{put as put_by}
use Rattle.layout.proofs.EditsLaws.{length-insert, length-remove, length-amend}
use Rattle.home.specs.Sound.{sound, list_of}
use Rattle.edits.specs.declared.Terminal.{Terminal}
use Rattle.edits.specs.declared.Terminal.TheVariants.{Desk, Pit}
use Rattle.edits.specs.Edits.{limit_of, full_of}
use Rattle.gates.specs.declared.Of.{Of}
use Rattle.gates.specs.declared.Of.TheVariants.{Image, Space}
use Rattle.gates.specs.Gates.{gate_rules, home_in}
use Rattle.gates.specs.GatesLaws.{space_open, image_open}
use Rattle.reads.specs.Reads.{list_in, count_in}
use Rattle.reads.specs.ReadsLaws.{sound-listed, count_open}
use Rattle.index.specs.Calls.{put_call}
use Rattle.demands.specs.Refusals.{edit, rules_of, refusal_in, refused_with}
use Rattle.demands.specs.RefusalsLaws.{refused_exactly}
use Rattle.demands.specs.Puts.{Closed, closed-refused, refused-closed, listed-refused, done_open}
use Rattle.demands.specs.Sequences.{Edit, put, delete, set_minutes, drop_tag, edit_call, answer_of, made, tag_of, list_by, Ranged, Event, RangedIn, events, through, Turn, after_turns, all_events}
use Rattle.demands.specs.SequencesLaws.{edit_sound, by_list, events-keep, turns_keep}

-- ---- the pit's beside the desk's

-- "after 8 and before 10": with the rule of 10 behind that of 17 nothing would differ, for a list of 989 has 64
pub before_ten : {A : Type 0} (f : Refusal → A) (gs us : List Rule) (h : Bool) (n : ℕ) (a : A) → first f (gs ++ (rule Listed h ∷ rule PitFull (leb 64 n) ∷ rule ListFull (leb 989 n) ∷ us)) a ≡ first f (gs ++ (rule Listed h ∷ rule PitFull (leb 64 n) ∷ us)) a
unfolding first
before_ten f gs us h n a =
    first-behind f gs (rule Listed h ∷ rule PitFull (leb 64 n) ∷ rule ListFull (leb 989 n) ∷ us) a
    ∙ ap (first f gs) (by_lt n 64 (λ g. rw (lt-leb 989 n (omega arith)) refl) (λ g. rw (le-leb 64 n g) refl))
    ∙ sym (first-behind f gs (rule Listed h ∷ rule PitFull (leb 64 n) ∷ us) a)

module _ (w : List ℕ) (t : ℕ) (r : Record) where
  -- no rule but the limit's differs
  same_open : {A : Type 0} (f : Refusal → A) (gs us : List Rule) (h c d : Bool) (a : A) → c ≡ false → d ≡ false → first f (gs ++ (rule Listed h ∷ rule PitFull c ∷ us)) a ≡ first f (gs ++ (rule Listed h ∷ rule ListFull d ∷ us)) a
  unfolding first
  same_open f gs us h c d a e g = first-behind f gs (rule Listed h ∷ rule PitFull c ∷ us) a ∙ ap (first f gs) (rw (e, g) refl) ∙ sym (first-behind f gs (rule Listed h ∷ rule ListFull d ∷ us) a)

  -- "only to lists of fewer than 64 records": to these it is the desk's, in answer and bytes
  pub pit_open : length (list_of w t) < 64 → (answer_of (put Pit t r) w ≡ answer_of (put Desk t r) w) × (made (put Pit t r) w ≡ made (put Desk t r) w)
  unfolding edit_call put_call put_by list_of limit_of full_of
  pit_open g =
      let c : leb 64 (length (list_of w t)) ≡ false = lt-leb 64 (length (list_of w t)) g in
      let d : leb 989 (length (list_of w t)) ≡ false = lt-leb 989 (length (list_of w t)) (omega arith) in
      (same_open Err (gate_rules Space w) _ (held (look (key r) (list_of w t))) _ _ _ c d, same_open (λ n. w) (gate_rules Space w) _ (held (look (key r) (list_of w t))) _ _ _ c d)

  -- so it is never refused with 10
  pub pit_never_ten : answer_of (put Pit t r) w ≢ Err ListFull
  unfolding edit_call put_call put_by gate_rules full_of numbers refused_with rules_of refusal_in
  pit_never_ten e =
      let q : refusal (edit_call (put Pit t r) w).rules ≡ some ListFull = sym (refused_exactly (edit (put Pit t r) w)) ∙ ap refusal_in e in
      eqb-false 10 10 (refused_among {P = λ (m : ℕ). eqb m 10 ≡ false} (edit_call (put Pit t r) w).rules ListFull (more refl (more refl (more refl (more refl (more refl (more refl (more refl nothing))))))) q) refl

  -- "a list the desk filled to 70 is closed to the pit": a listed call is refused with 8, any other with 17
  pub pit_shut : sound w ≡ true → 64 ≤ length (list_of w t) → (answer_of (put Pit t r) w ≡ Err Listed) ⊎ (answer_of (put Pit t r) w ≡ Err PitFull)
  unfolding limit_of full_of
  pit_shut s g = by_test (held (look (key r) (list_of w t)))
      (λ e. inl (listed-refused Pit w t r s e))
      (λ e. inr (closed-refused Pit w t r (record { fine = s; new = e; many = g })))

-- ---- in whatever sequence

-- At each edit the workspace is sound, so that no list is longer than 989. A terminal's put is refused for its limit exactly where the list
-- is closed to it, and one that is done found it open.
pub record Limits (v : Event) : Type 0 where
  pub fine : sound v.space ≡ true
  pub short : (t : ℕ) → length (list_of v.space t) ≤ 989
  pub refused : (by : Terminal) (t : ℕ) (r : Record) → v.edit ≡ put by t r → answer_of (put by t r) v.space ≡ Err (full_of by) → Closed by v.space t r
  pub closed : (by : Terminal) (t : ℕ) (r : Record) → v.edit ≡ put by t r → Closed by v.space t r → answer_of (put by t r) v.space ≡ Err (full_of by)
  pub done : (by : Terminal) (t : ℕ) (r : Record) → v.edit ≡ put by t r → (n : ℕ) → answer_of (put by t r) v.space ≡ Ok n → (n ≡ suc (length (list_of v.space t))) × (length (list_of v.space t) < limit_of by)

abbrev IsSound : List ℕ → Type 0
IsSound w = sound w ≡ true

stays_sound : (v : Event) → IsSound v.space → RangedIn v → IsSound (made v.edit v.space)
stays_sound v s g = edit_sound v.edit g v.space s

limits : (v : Event) → IsSound v.space × RangedIn v → Limits v
limits v (s, g) = record {
  fine = s;
  short = λ t. (sound-listed v.space t s).short;
  refused = λ by t r e. refused-closed by v.space t r;
  closed = λ by t r e. closed-refused by v.space t r;
  done = λ by t r e. done_open by v.space t r;
}

pub limits_hold : (w : List ℕ) → sound w ≡ true → (es : List Edit) → All RangedIn (events es w) → All Limits (events es w)
limits_hold w s es c = all_map limits (events-keep IsSound RangedIn stays_sound es w s c).0

-- and where the two meet at the image
pub limits_hold_at : (l : List ℕ) → Starts sound l → (us : List Turn) → All RangedIn (all_events us l) → All Limits (all_events us l)
limits_hold_at l s us c = all_map limits (turns_keep IsSound RangedIn stays_sound l s s.fine us c).0

-- ---- what a count tells

counted : (of : Of) (bs : List ℕ) (t j : ℕ) → count_in of bs t ≡ Ok j → (refusal (gate_rules of bs) ≡ none) × (length (list_in of bs t) ≡ j)
unfolding count_in
counted of bs t j e =
    let p = unrefused Err (gate_rules of bs) (Ok (length (list_in of bs t))) (Ok j) (λ n q. cc) e in
    let q : Ok (length (list_in of bs t)) ≡ Ok j = sym (count_open of bs t p) ∙ e in
    (p, cc)

-- an image that is read is one on which turns start
read_starts : (l : List ℕ) → refusal (gate_rules Image l) ≡ none → Starts sound l
read_starts l p = let o = image_open l p in record { head = o.head; unmarked = o.clear; fine = o.fine }

-- ---- without the desk

-- a put by the desk to tag t
unfoldable pub desk_put : ℕ → Edit → Bool
desk_put t (put Desk u r) = eqb u t
desk_put t (put Pit u r) = false
desk_put t (delete u k) = false
desk_put t (set_minutes u k m) = false
desk_put t (drop_tag u) = false

module _ (t : ℕ) where
  pub record Deskless (v : Event) : Type 0 where
    pub ranged : Ranged v.edit
    pub deskless : desk_put t v.edit ≡ false

  -- a sound workspace in which tag t has at most m records
  record Within (m : ℕ) (w : List ℕ) : Type 0 where
    fine : sound w ≡ true
    short : length (list_of w t) ≤ m

  no_longer : (m : ℕ) → 64 ≤ m → (e : Edit) (w : List ℕ) → Ranged e → desk_put t e ≡ false → (n : ℕ) → tag_of e ≡ t → answer_of e w ≡ Ok n → length (list_of w t) ≤ m → length (list_by e (list_of w t)) ≤ m
  unfolding desk_put tag_of list_by limit_of
  no_longer m g (put Desk u r) w f d n i a h = never (sym d ∙ eq-eqb u t i)
  no_longer m g (put Pit u r) w f d n i a h =
      let z : length (list_of w t) < 64 = subst (λ (x : ℕ). length (list_of w x) < 64) i (done_open Pit w u r n a).1 in
      omega (arith, length-insert r (list_of w t))
  no_longer m g (delete u k) w f d n i a h = omega (arith, length-remove k (list_of w t))
  no_longer m g (set_minutes u k x) w f d n i a h = omega (arith, length-amend k x (list_of w t))
  no_longer m g (drop_tag u) w f d n i a h = omega arith

  within_kept : (m : ℕ) → 64 ≤ m → (v : Event) → Within m v.space → Deskless v → Within m (made v.edit v.space)
  within_kept m g v h c = record {
    fine = edit_sound v.edit c.ranged v.space h.fine;
    short = by_list (λ (rs : List Record). length rs ≤ m) v.edit c.ranged v.space t h.short
        (λ n i a. no_longer m g v.edit v.space c.ranged c.deskless n i a h.short);
  }

  -- over edits without desk puts to it a list never grows beyond the larger of 64 and what it was
  pub deskless_within : (w : List ℕ) (j : ℕ) → count_in Space w t ≡ Ok j → (es : List Edit) → All Deskless (events es w) → (k : ℕ) → count_in Space (through es w) t ≡ Ok k → k ≤ max 64 j
  unfolding home_in
  deskless_within w j e es c k f =
      let p = counted Space w t j e in
      let q = counted Space (through es w) t k f in
      let h = (events-keep (Within (max 64 j)) Deskless (within_kept (max 64 j) (le-max_left 64 j)) es w (record { fine = space_open w p.0; short = omega (arith, p.1, le-max_right 64 j) }) c).1 in
      omega (arith, q.1, h.short)

  -- and over turns at an image, wherever they are cut and caught, as soon as it is read
  pub deskless_within_at : (l : List ℕ) (j : ℕ) → count_in Image l t ≡ Ok j → (us : List Turn) → All Deskless (all_events us l) → (k : ℕ) → count_in Image (after_turns us l) t ≡ Ok k → k ≤ max 64 j
  unfolding home_in
  deskless_within_at l j e us c k f =
      let p = counted Image l t j e in
      let q = counted Image (after_turns us l) t k f in
      let s = read_starts l p.0 in
      let h = (turns_keep (Within (max 64 j)) Deskless (within_kept (max 64 j) (le-max_left 64 j)) l s (record { fine = s.fine; short = omega (arith, p.1, le-max_right 64 j) }) us c).1 (image_open (after_turns us l) q.0).clear in
      omega (arith, q.1, h.short)

-- ---- closed until it is under 64 again

-- a delete or drop on tag t
unfoldable pub shortens : ℕ → Edit → Bool
shortens t (put by u r) = false
shortens t (delete u k) = eqb u t
shortens t (set_minutes u k m) = false
shortens t (drop_tag u) = eqb u t

module _ (t : ℕ) where
  -- none is accepted
  pub record Unshortened (v : Event) : Type 0 where
    pub ranged : Ranged v.edit
    pub unshortened : shortens t v.edit ≡ true → (n : ℕ) → answer_of v.edit v.space ≢ Ok n

  -- a pit put to tag t is refused, with 8 if its call is listed
  abbrev pub Shut : Event → Type 0
  Shut v = (r : Record) → v.edit ≡ put Pit t r → (answer_of (put Pit t r) v.space ≡ Err Listed) ⊎ (answer_of (put Pit t r) v.space ≡ Err PitFull)

  record Filled (w : List ℕ) : Type 0 where
    fine : sound w ≡ true
    many : 64 ≤ length (list_of w t)

  no_shorter : (e : Edit) (w : List ℕ) → (shortens t e ≡ true → (n : ℕ) → answer_of e w ≢ Ok n) → (n : ℕ) → tag_of e ≡ t → answer_of e w ≡ Ok n → 64 ≤ length (list_of w t) → 64 ≤ length (list_by e (list_of w t))
  unfolding shortens tag_of list_by
  no_shorter (put by u r) w c n i a h = omega (arith, length-insert r (list_of w t))
  no_shorter (delete u k) w c n i a h = absurd (c (eq-eqb u t i) n a)
  no_shorter (set_minutes u k x) w c n i a h = omega (arith, length-amend k x (list_of w t))
  no_shorter (drop_tag u) w c n i a h = absurd (c (eq-eqb u t i) n a)

  filled-kept : (v : Event) → Filled v.space → Unshortened v → Filled (made v.edit v.space)
  filled-kept v h c = record {
    fine = edit_sound v.edit c.ranged v.space h.fine;
    many = by_list (λ (rs : List Record). 64 ≤ length rs) v.edit c.ranged v.space t h.many
        (λ n i a. no_shorter v.edit v.space c.unshortened n i a h.many);
  }

  shut : (v : Event) → Filled v.space × Unshortened v → Shut v
  shut v (h, c) = λ r e. pit_shut v.space t r h.fine h.many

  -- "a list the desk filled to 70 is closed to the pit until it is under 64 again", whatever the desk does: at each edit, and it still has 64
  pub closed_until : (w : List ℕ) (j : ℕ) → count_in Space w t ≡ Ok j → 64 ≤ j → (es : List Edit) → All Unshortened (events es w)
      → All Shut (events es w) × ((k : ℕ) → count_in Space (through es w) t ≡ Ok k → 64 ≤ k)
  unfolding home_in
  closed_until w j e g es c =
      let p = counted Space w t j e in
      let h = events-keep Filled Unshortened filled-kept es w (record { fine = space_open w p.0; many = omega (arith, p.1) }) c in
      (all_map shut h.0, λ k f. omega (arith, (counted Space (through es w) t k f).1, h.1.many))

  pub closed_until_at : (l : List ℕ) (j : ℕ) → count_in Image l t ≡ Ok j → 64 ≤ j → (us : List Turn) → All Unshortened (all_events us l)
      → All Shut (all_events us l) × ((k : ℕ) → count_in Image (after_turns us l) t ≡ Ok k → 64 ≤ k)
  unfolding home_in
  closed_until_at l j e g us c =
      let p = counted Image l t j e in
      let s = read_starts l p.0 in
      let h = turns_keep Filled Unshortened filled-kept l s (record { fine = s.fine; many = omega (arith, p.1) }) us c in
      (all_map shut h.0, λ k f. let q = counted Image (after_turns us l) t k f in omega (arith, q.1, (h.1 (image_open (after_turns us l) q.0).clear).many))
