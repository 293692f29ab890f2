-- A put by either terminal: where it is refused for its limit, for its building's part, for tags and for room, and what one that is done found.
use Rattle.refusals.specs.declared.Refusal.TheVariants.{BuildingFull, ListFull, Listed, NoRoom as LacksRoom, TagsFull}
use Rattle.std.specs.Prelude.{◌≡◌, Bool, true, false, not, ◌&&◌, ◌⊎◌, ℕ, suc, ◌*◌, ◌≤◌, ◌<◌, leb, ltb, eqb, length, Ok, Err}
use Rattle.std.proofs.Math.Path.{refl, sym, ap}
use Rattle.std.proofs.Common.{◌∙◌}
use Rattle.std.proofs.Math.Logic.{inl, inr}
use Rattle.std.proofs.Math.Option.{none, some}
use mathlib.Core.List.{List, [], ◌∷◌, ◌++◌}
use borrow.Author.Tests.{leb-true, leb-false, le-leb, lt-leb, ltb-true, lt-ltb}
use Rattle.wire.specs.All.{All, none as nothing, more}
use Rattle.wire.specs.Cases.{by_test}
use Rattle.refusals.specs.declared.Refusal.{Refusal}
use Rattle.refusals.specs.Rules.{number_of, Rule, rule, first, refusal, numbers}
use Rattle.refusals.specs.RulesLaws.{first-refused, first_passed, refused-first, refused_only, passes, passed_one, passed_both, passes_both}
use Rattle.records.specs.declared.Record.{Record}
use Rattle.records.specs.Records.{key, look, held, insert}
use Rattle.layout.specs.Zones.{blocks, tags, has_tag}
use Rattle.layout.specs.Buildings.{building_full}
use Rattle.layout.specs.Edits.{put as put_by}
use Rattle.layout.proofs.EditsLaws.{length-insert}
use Rattle.home.specs.Layout.{total_after}
use Rattle.home.specs.Bytes.{step_of, decode}
use Rattle.home.specs.Sound.{sound, pages_of, list_of}
use Rattle.home.specs.TagsLaws.{lacks_new}
use Rattle.edits.specs.declared.Terminal.{Terminal}
use Rattle.edits.specs.declared.Terminal.TheVariants.{Desk, Pit}
use Rattle.edits.specs.Edits.{limit_of, full_of}
use Rattle.edits.specs.EditsLaws.{limit_some}
use Rattle.gates.specs.declared.Of.TheVariants.{Space}
use Rattle.gates.specs.Gates.{gate_rules}
use Rattle.gates.specs.GatesLaws.{space_open}
use Rattle.index.specs.Calls.{put_call}
use Rattle.demands.specs.Lists.{space_opens}
use Rattle.demands.specs.Refusals.{edit, rules_of, refusal_in, refused_with}
use Rattle.demands.specs.RefusalsLaws.{refused_exactly}
use Rattle.demands.specs.Sequences.{put, edit_call, answer_of}

-- each number is that of one rule: the limit's
limit_apart : (by : Terminal) → All (λ (m : ℕ). eqb m (number_of (full_of by)) ≡ false) (6 ∷ 7 ∷ 8 ∷ []) × All (λ (m : ℕ). eqb m (number_of (full_of by)) ≡ false) (19 ∷ 11 ∷ 12 ∷ [])
unfolding full_of
limit_apart Desk = (more refl (more refl (more refl nothing)), more refl (more refl (more refl nothing)))
limit_apart Pit = (more refl (more refl (more refl nothing)), more refl (more refl (more refl nothing)))

-- the others', apart from those before them
apart : (by : Terminal) (n : ℕ) (ms : List ℕ) → All (λ (m : ℕ). eqb m n ≡ false) (6 ∷ 7 ∷ 8 ∷ 10 ∷ 17 ∷ ms) → All (λ (m : ℕ). eqb m n ≡ false) (6 ∷ 7 ∷ 8 ∷ number_of (full_of by) ∷ ms)
unfolding full_of
apart Desk n ms (more a (more b (more c (more d (more e h))))) = more a (more b (more c (more d h)))
apart Pit n ms (more a (more b (more c (more d (more e h))))) = more a (more b (more c (more e h)))

module _ (by : Terminal) (w : List ℕ) (t : ℕ) (r : Record) where
  abbrev listed : Bool
  listed = held (look (key r) (list_of w t))

  abbrev closed : Bool
  closed = leb (limit_of by) (length (list_of w t))

  abbrev no_part : Bool
  no_part = not (has_tag t (blocks (decode w))) && building_full t (tags (blocks (decode w)))

  abbrev no_entry : Bool
  no_entry = not (has_tag t (blocks (decode w))) && leb 256 (length (blocks (decode w)))

  abbrev no_room : Bool
  no_room = ltb (8 * pages_of w) (total_after (step_of w) t (insert r (list_of w t)) (decode w))

  -- behind the workspace's, 8 and the limit's
  abbrev behind_limit : List Rule → List Rule
  behind_limit us = gate_rules Space w ++ (rule Listed listed ∷ rule (full_of by) closed ∷ us)

  abbrev rest : List Rule
  rest = rule BuildingFull no_part ∷ rule TagsFull no_entry ∷ rule LacksRoom no_room ∷ []

  abbrev rules : List Rule
  rules = behind_limit rest

  -- ---- its refusals

  tells : (n : Refusal) → refusal rules ≡ some n → answer_of (put by t r) w ≡ Err n
  unfolding edit_call put_call put_by list_of
  tells n q = first-refused Err rules n _ q

  told : (n : Refusal) → answer_of (put by t r) w ≡ Err n → refusal rules ≡ some n
  unfolding edit_call put_call put_by list_of refused_with rules_of refusal_in
  told n e = sym (refused_exactly (edit (put by t r) w)) ∙ ap refusal_in e

  -- a call that is listed, with 8
  pub listed-refused : sound w ≡ true → listed ≡ true → answer_of (put by t r) w ≡ Err Listed
  listed-refused s e = tells Listed (refused-first (gate_rules Space w) Listed listed _ (space_opens w s) e)

  -- the list is closed to the terminal, and the call is not in it
  pub record Closed : Type 0 where
    pub fine : sound w ≡ true
    pub new : listed ≡ false
    pub many : limit_of by ≤ length (list_of w t)

  abbrev before_limit : List Rule
  before_limit = gate_rules Space w ++ (rule Listed listed ∷ [])

  -- "It refuses with 17 a pit put to a list of 64 or more, after 8"; and the desk's to one of 989 with 10
  pub closed-refused : Closed → answer_of (put by t r) w ≡ Err (full_of by)
  unfolding gate_rules first
  closed-refused c = tells (full_of by) (refused-first before_limit (full_of by) closed rest (passed_both (gate_rules Space w) (rule Listed listed ∷ []) (space_opens w c.fine) ∙ passed_one Listed listed [] c.new) (le-leb (limit_of by) (length (list_of w t)) c.many))

  -- and none else
  pub refused-closed : answer_of (put by t r) w ≡ Err (full_of by) → Closed
  unfolding gate_rules numbers
  refused-closed e =
      let o = refused_only before_limit (full_of by) closed rest (limit_apart by).0 (limit_apart by).1 (told (full_of by) e) in
      let p = passes_both (gate_rules Space w) (rule Listed listed ∷ []) o.0 in
      record { fine = space_open w p.0; new = (passes Listed listed [] p.1).0; many = leb-true (limit_of by) (length (list_of w t)) o.1 }

  -- ---- where the list is open

  -- the workspace is sound, the call is not listed, and the list is open to the terminal
  pub record Free : Type 0 where
    pub fine : sound w ≡ true
    pub new : listed ≡ false
    pub few : length (list_of w t) < limit_of by

  free_passes : Free → (us : List Rule) → refusal (behind_limit us) ≡ refusal us
  free_passes c us =
      passed_both (gate_rules Space w) (rule Listed listed ∷ rule (full_of by) closed ∷ us) (space_opens w c.fine)
      ∙ passed_one Listed listed (rule (full_of by) closed ∷ us) c.new
      ∙ passed_one (full_of by) closed us (lt-leb (limit_of by) (length (list_of w t)) c.few)

  passes_free : (us : List Rule) → refusal (behind_limit us) ≡ none → Free × (refusal us ≡ none)
  passes_free us q =
      let p = passes_both (gate_rules Space w) (rule Listed listed ∷ rule (full_of by) closed ∷ us) q in
      let a = passes Listed listed (rule (full_of by) closed ∷ us) p.1 in
      let b = passes (full_of by) closed us a.1 in
      (record { fine = space_open w p.0; new = a.0; few = leb-false (limit_of by) (length (list_of w t)) b.0 }, b.1)

  -- so it is for a new tag
  pub new_free : sound w ≡ true → has_tag t (blocks (decode w)) ≡ false → Free
  unfolding look
  new_free s lacking =
      let e : list_of w t ≡ [] = lacks_new w s t lacking in
      record { fine = s; new = rw e refl; few = rw e (limit_some by) }

  -- a new tag beyond the part of its building
  pub part-refused : Free → no_part ≡ true → answer_of (put by t r) w ≡ Err BuildingFull
  unfolding gate_rules first
  part-refused c e = tells BuildingFull (refused-first (behind_limit []) BuildingFull no_part (rule TagsFull no_entry ∷ rule LacksRoom no_room ∷ []) (free_passes c []) e)

  pub refused-part : answer_of (put by t r) w ≡ Err BuildingFull → Free × (no_part ≡ true)
  unfolding gate_rules numbers
  refused-part e =
      let o = refused_only (behind_limit []) BuildingFull no_part (rule TagsFull no_entry ∷ rule LacksRoom no_room ∷ []) (apart by 19 [] (more refl (more refl (more refl (more refl (more refl nothing)))))) (more refl (more refl nothing)) (told BuildingFull e) in
      ((passes_free [] o.0).0, o.1)

  -- a new tag where 256 are
  pub entry-refused : Free → no_part ≡ false → no_entry ≡ true → answer_of (put by t r) w ≡ Err TagsFull
  unfolding gate_rules first
  entry-refused c p e = tells TagsFull (refused-first (behind_limit (rule BuildingFull no_part ∷ [])) TagsFull no_entry (rule LacksRoom no_room ∷ []) (free_passes c (rule BuildingFull no_part ∷ []) ∙ passed_one BuildingFull no_part [] p) e)

  pub refused-entry : answer_of (put by t r) w ≡ Err TagsFull → Free × (no_part ≡ false) × (no_entry ≡ true)
  unfolding gate_rules numbers
  refused-entry e =
      let o = refused_only (behind_limit (rule BuildingFull no_part ∷ [])) TagsFull no_entry (rule LacksRoom no_room ∷ []) (apart by 11 (19 ∷ []) (more refl (more refl (more refl (more refl (more refl (more refl nothing))))))) (more refl nothing) (told TagsFull e) in
      let p = passes_free (rule BuildingFull no_part ∷ []) o.0 in
      (p.0, (passes BuildingFull no_part [] p.1).0, o.1)

  -- the sizes of all blocks after the put would be more than the area, and nothing else stands in its way
  pub record NoRoom : Type 0 where
    pub free : Free
    pub part : no_part ≡ false
    pub entry : no_entry ≡ false
    pub more : 8 * pages_of w < total_after (step_of w) t (insert r (list_of w t)) (decode w)

  abbrev before_room : List Rule
  before_room = rule BuildingFull no_part ∷ rule TagsFull no_entry ∷ []

  -- "Refusal 12 then means only this: the sizes of all blocks after the edit add up to more than the record area"
  pub no_room_refused : NoRoom → answer_of (put by t r) w ≡ Err LacksRoom
  unfolding gate_rules first
  no_room_refused c =
      let p : refusal (behind_limit before_room) ≡ none = free_passes c.free before_room ∙ passed_one BuildingFull no_part (rule TagsFull no_entry ∷ []) c.part ∙ passed_one TagsFull no_entry [] c.entry in
      tells LacksRoom (refused-first (behind_limit before_room) LacksRoom no_room [] p (lt-ltb (8 * pages_of w) (total_after (step_of w) t (insert r (list_of w t)) (decode w)) c.more))

  pub refused_no_room : answer_of (put by t r) w ≡ Err LacksRoom → NoRoom
  unfolding gate_rules numbers
  refused_no_room e =
      let o = refused_only (behind_limit before_room) LacksRoom no_room [] (apart by 12 (19 ∷ 11 ∷ []) (more refl (more refl (more refl (more refl (more refl (more refl (more refl nothing)))))))) nothing (told LacksRoom e) in
      let p = passes_free before_room o.0 in
      let a = passes BuildingFull no_part (rule TagsFull no_entry ∷ []) p.1 in
      record {
        free = p.0;
        part = a.0;
        entry = (passes TagsFull no_entry [] a.1).0;
        more = ltb-true (8 * pages_of w) (total_after (step_of w) t (insert r (list_of w t)) (decode w)) o.1;
      }

  -- ---- where it is done

  -- where no rule applies it answers one record more
  passed_done : refusal rules ≡ none → answer_of (put by t r) w ≡ Ok (suc (length (list_of w t)))
  unfolding edit_call put_call put_by list_of
  passed_done q = first_passed Err rules (Ok (length (insert r (list_of w t)))) q ∙ ap Ok (length-insert r (list_of w t))

  -- where its list is open and it may have its tag, it depends on room alone
  pub by_room : Free → no_part ≡ false → no_entry ≡ false → (answer_of (put by t r) w ≡ Ok (suc (length (list_of w t)))) ⊎ (answer_of (put by t r) w ≡ Err LacksRoom)
  unfolding first
  by_room c p e = by_test no_room
      (λ q. inr (no_room_refused (record { free = c; part = p; entry = e; more = ltb-true (8 * pages_of w) (total_after (step_of w) t (insert r (list_of w t)) (decode w)) q })))
      (λ q. inl (passed_done (free_passes c rest ∙ passed_one BuildingFull no_part (rule TagsFull no_entry ∷ rule LacksRoom no_room ∷ []) p ∙ passed_one TagsFull no_entry (rule LacksRoom no_room ∷ []) e ∙ passed_one LacksRoom no_room [] q)))

  done_passed : (n : ℕ) → answer_of (put by t r) w ≡ Ok n → refusal rules ≡ none
  unfolding edit_call put_call put_by list_of refused_with rules_of refusal_in
  done_passed n e = sym (refused_exactly (edit (put by t r) w)) ∙ ap refusal_in e

  -- it found fewer records than the limit, and answers one more
  pub done_open : (n : ℕ) → answer_of (put by t r) w ≡ Ok n → (n ≡ suc (length (list_of w t))) × (length (list_of w t) < limit_of by)
  done_open n e =
      let q = done_passed n e in
      let m : Ok n ≡ Ok (suc (length (list_of w t))) = sym e ∙ passed_done q in
      (cc, (passes_free rest q).0.few)

  -- and a new tag was in the part of its building
  pub done_part : (n : ℕ) → answer_of (put by t r) w ≡ Ok n → no_part ≡ false
  done_part n e = (passes BuildingFull no_part (rule TagsFull no_entry ∷ rule LacksRoom no_room ∷ []) (passes_free rest (done_passed n e)).1).0

-- ---- "The desk still goes to 989"

-- its rules: 8, 10, 19, 11 and 12, behind the workspace's
pub desk_rules : (w : List ℕ) (t : ℕ) (r : Record) → (edit_call (put Desk t r) w).rules
    ≡ gate_rules Space w ++ (rule Listed (held (look (key r) (list_of w t)))
    ∷ rule ListFull (leb 989 (length (list_of w t)))
    ∷ rule BuildingFull (not (has_tag t (blocks (decode w))) && building_full t (tags (blocks (decode w))))
    ∷ rule TagsFull (not (has_tag t (blocks (decode w))) && leb 256 (length (blocks (decode w))))
    ∷ rule LacksRoom (ltb (8 * pages_of w) (total_after (step_of w) t (insert r (list_of w t)) (decode w)))
    ∷ [])
unfolding edit_call put_call put_by list_of limit_of full_of
desk_rules w t r = refl
