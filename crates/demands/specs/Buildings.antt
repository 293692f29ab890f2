-- A fair part of the tags: what 19 and 11 mean, and that on an index started empty a building with fewer than 8 tags is never turned away for tags.
use Rattle.refusals.specs.declared.Refusal.TheVariants.{BuildingFull, NoRoom, TagsFull}
use Rattle.std.specs.Prelude.{◌≡◌, refl, Bool, true, false, not, ◌&&◌, ◌≢◌, ◌⊎◌, List, [], ◌∷◌, ℕ, suc, ◌+◌, ◌≤◌, ◌<◌, leb, length, Ok, Err}
use Rattle.std.proofs.Common.{sym, ap, ◌∙◌, subst, arith, leb-true, leb-false, le-leb}
use Rattle.std.proofs.lemmas.Bool.{lt-leb, not-true}
use Rattle.wire.specs.All.{All, all_map}
use Rattle.wire.specs.Cases.{by_lt, by_eq, both, and_true}
use Rattle.records.specs.declared.Record.{Record}
use Rattle.records.specs.Records.{remove, amend}
use Rattle.redo.specs.Image.{mark, home, in_range, image_length}
use Rattle.image_log.specs.Calls.{after}
use Rattle.image_log.specs.Claim.{Starts}
use Rattle.layout.specs.Zones.{blocks, tags, has_tag}
use Rattle.layout.specs.Perm.{Perm, sum}
use Rattle.layout.specs.PermLaws.{psym}
use Rattle.layout.specs.Buildings.{building, up_to, owned, lack, reserve, building_full}
use Rattle.layout.specs.BuildingsLaws.{tags-lack, full_reserve, full_perm, below-reserve, reserve_perm, reserve-below, reserve_above, reserve_more}
use Rattle.refusals.specs.Rules.{Answer}
use Rattle.home.specs.Bytes.{decode, tags_of}
use Rattle.home.specs.Sound.{sound, list_of}
use Rattle.home.specs.TagsLaws.{tags_perm, tags-small, tags-many, tags_few, new_lacks, lacks_new, same_tags, one_more, no_tags}
use Rattle.edits.specs.declared.Terminal.{Terminal}
use Rattle.index.specs.Calls.{format_plan}
use Rattle.demands.specs.Lists.{formatted-sound, formatted_empty, formatted-starts}
use Rattle.demands.specs.Effects.{Done, Effect, edit_effect}
use Rattle.demands.specs.Puts.{new_free, part-refused, refused-part, entry-refused, refused-entry, by_room, done_part}
use Rattle.demands.specs.Sequences.{Edit, put, delete, set_minutes, drop_tag, answer_of, made, tag_of, list_by, Ranged, Event, RangedIn, events, through, Turn, after_turns, all_events}
use Rattle.demands.specs.SequencesLaws.{events-keep, turns_keep}

-- ---- the reserve

module _ (w : List ℕ) (s : sound w ≡ true) where
  -- tags and lack together are the reserve
  pub tags-and-lack : length (tags_of w) + lack (tags_of w) ≡ reserve (tags_of w)
  tags-and-lack = tags-lack (tags_of w) (tags-small w s)

  -- "A building with 8 or more may add one only while unused tags exceed what the buildings below 8 still lack": while the reserve is below 256
  pub full_exactly : (t : ℕ) → building_full t (tags_of w) ≡ (leb 8 (owned (building t) (tags_of w)) && leb 256 (reserve (tags_of w)))
  full_exactly t = full_reserve t (tags_of w) (tags-small w s) (tags_few w s)

  -- the rule counts the blocks' tags, which are the dictionary's
  full_is : (t : ℕ) → building_full t (tags (blocks (decode w))) ≡ (leb 8 (owned (building t) (tags_of w)) && leb 256 (reserve (tags_of w)))
  full_is t = full_perm (psym (tags_perm w s)) t ∙ full_exactly t

  full_below : (t : ℕ) → owned (building t) (tags_of w) < 8 → building_full t (tags (blocks (decode w))) ≡ false
  full_below t g = full_is t ∙ ap (λ (x : Bool). x && leb 256 (reserve (tags_of w))) (lt-leb 8 (owned (building t) (tags_of w)) g)

-- ---- what 19 and 11 mean

-- "a put of a new tag beyond this"
pub record Crowded (w : List ℕ) (t : ℕ) : Type 0 where
  pub fine : sound w ≡ true
  pub new : list_of w t ≡ []
  pub many : 8 ≤ owned (building t) (tags_of w)
  pub used : 256 ≤ reserve (tags_of w)

-- a new tag of a building below 8, with 256 present: the reserve was broken before
pub record Broken (w : List ℕ) (t : ℕ) : Type 0 where
  pub fine : sound w ≡ true
  pub new : list_of w t ≡ []
  pub few : owned (building t) (tags_of w) < 8
  pub all : length (tags_of w) ≡ 256
  pub broken : 256 < reserve (tags_of w)

module _ (by : Terminal) (w : List ℕ) (t : ℕ) (r : Record) where
  -- a put of either terminal is refused with 19 exactly there
  pub crowded_refused : Crowded w t → answer_of (put by t r) w ≡ Err BuildingFull
  crowded_refused c =
      let lacking = new_lacks w c.fine t c.new in
      let full : building_full t (tags (blocks (decode w))) ≡ true = full_is w c.fine t ∙ rw (le-leb 8 (owned (building t) (tags_of w)) c.many, le-leb 256 (reserve (tags_of w)) c.used) refl in
      part-refused by w t r (new_free by w t r c.fine lacking) (rw (lacking, full) refl)

  pub refused_crowded : answer_of (put by t r) w ≡ Err BuildingFull → Crowded w t
  refused_crowded e =
      let o = refused-part by w t r e in
      let s : sound w ≡ true = o.0.fine in
      let p = both (not (has_tag t (blocks (decode w)))) (building_full t (tags (blocks (decode w)))) o.1 in
      let q = both (leb 8 (owned (building t) (tags_of w))) (leb 256 (reserve (tags_of w))) (sym (full_is w s t) ∙ p.1) in
      record {
        fine = s;
        new = lacks_new w s t (not-true (has_tag t (blocks (decode w))) p.0);
        many = leb-true 8 (owned (building t) (tags_of w)) q.0;
        used = leb-true 256 (reserve (tags_of w)) q.1;
      }

  -- and with 11 exactly here
  pub broken_refused : Broken w t → answer_of (put by t r) w ≡ Err TagsFull
  broken_refused c =
      let lacking = new_lacks w c.fine t c.new in
      entry-refused by w t r (new_free by w t r c.fine lacking) (rw (lacking, full_below w c.fine t c.few) refl)
      (rw (lacking, le-leb 256 (length (blocks (decode w))) (omega (arith, tags-many w c.fine, c.all))) refl)

  pub refused_broken : t < 4294967296 → answer_of (put by t r) w ≡ Err TagsFull → Broken w t
  refused_broken small e =
      let o = refused-entry by w t r e in
      let s : sound w ≡ true = o.0.fine in
      let p = both (not (has_tag t (blocks (decode w)))) (leb 256 (length (blocks (decode w)))) o.2 in
      let lacking : has_tag t (blocks (decode w)) ≡ false = not-true (has_tag t (blocks (decode w))) p.0 in
      let all : length (tags_of w) ≡ 256 = omega (arith, tags_few w s, tags-many w s, leb-true 256 (length (blocks (decode w))) p.1) in
      let used : leb 256 (reserve (tags_of w)) ≡ true = le-leb 256 (reserve (tags_of w)) (omega (arith, tags-and-lack w s)) in
      let free : leb 8 (owned (building t) (tags_of w)) ≡ false = sym (and_true (leb 8 (owned (building t) (tags_of w)))) ∙ ap (λ (x : Bool). leb 8 (owned (building t) (tags_of w)) && x) (sym used) ∙ sym (full_is w s t) ∙ rw lacking at o.1 in
      let few : owned (building t) (tags_of w) < 8 = leb-false 8 (owned (building t) (tags_of w)) free in
      record { fine = s; new = lacks_new w s t lacking; few = few; all = all; broken = omega (arith, below-reserve t (tags_of w) small (tags-small w s) few) }

-- ---- a reserve that is not broken

pub record Fair (w : List ℕ) : Type 0 where
  pub fine : sound w ≡ true
  pub within : reserve (tags_of w) ≤ 256

-- an index without lists has 128
pub empty_reserve : (w : List ℕ) → sound w ≡ true → ((t : ℕ) → list_of w t ≡ []) → reserve (tags_of w) ≡ 128
unfolding reserve owned sum up_to
empty_reserve w s f = ap reserve (no_tags w s f)

module _ (by : Terminal) (w : List ℕ) (f : Fair w) (t : ℕ) (small : t < 4294967296) (r : Record) where
  -- "a building with fewer than 8 is never turned away for tags": the put is done, or there is no room
  pub sure_of_eight : list_of w t ≡ [] → owned (building t) (tags_of w) < 8 → (answer_of (put by t r) w ≡ Ok 1) ⊎ (answer_of (put by t r) w ≡ Err NoRoom)
  sure_of_eight new few =
      let s : sound w ≡ true = f.fine in
      let lacking = new_lacks w s t new in
      let room : length (blocks (decode w)) < 256 = omega (arith, tags-many w s, below-reserve t (tags_of w) small (tags-small w s) few, f.within) in
      subst (λ (n : ℕ). (answer_of (put by t r) w ≡ Ok (suc n)) ⊎ (answer_of (put by t r) w ≡ Err NoRoom)) (ap length new)
      (by_room by w t r (new_free by w t r s lacking) (rw (lacking, full_below w s t few) refl) (rw (lacking, lt-leb 256 (length (blocks (decode w))) room) refl))

  -- and no put at all meets 11
  pub never_eleven : answer_of (put by t r) w ≢ Err TagsFull
  never_eleven e = omega (arith, f.within, (refused_broken by w t r small e).broken)

-- ---- which every edit keeps

-- where all tags but t read the same, those with a list still have one if t has
still-listed : (t : ℕ) (a b : List ℕ) → ((u : ℕ) → u ≢ t → list_of b u ≡ list_of a u) → (0 < length (list_of a t) → 0 < length (list_of b t)) → (u : ℕ) → 0 < length (list_of a u) → 0 < length (list_of b u)
still-listed t a b same f u k = by_eq u t
    (λ e. subst (λ (x : ℕ). 0 < length (list_of b x)) (sym e) (f (subst (λ (x : ℕ). 0 < length (list_of a x)) e k)))
    (λ o. subst (λ (x : List Record). 0 < length x) (sym (same u o)) k)

-- an edit that is done, and adds no tag beyond the part of its building
module _ (w w' : List ℕ) (t : ℕ) (rs : List Record) (n : ℕ) (d : Done w w' t rs n) (small : t < 4294967296) (adds : list_of w t ≡ [] → 0 < length rs → building_full t (tags (blocks (decode w))) ≡ false) where
  abbrev was : ℕ
  was = length (list_of w t)

  abbrev is : ℕ
  is = length (list_of w' t)

  -- a tag with a list before it and after it, or at neither time
  alike : (0 < was → 0 < is) → (0 < is → 0 < was) → reserve (tags_of w') ≡ reserve (tags_of w)
  alike f g = reserve_perm (same_tags w' w d.fine d.was (still-listed t w' w (λ u o. sym (d.others u o)) g) (still-listed t w w' d.others f))

  -- a tag that was new
  added : was ≡ 0 → 0 < is → Perm (tags_of w') (t ∷ tags_of w)
  added e g = one_more w w' d.was d.fine t e g d.others

  -- a tag that lost its list
  gone : 0 < was → is ≡ 0 → Perm (tags_of w) (t ∷ tags_of w')
  gone g e = one_more w' w d.fine d.was t e g (λ u o. sym (d.others u o))

  added_within : was ≡ 0 → 0 < is → reserve (tags_of w) ≤ 256 → reserve (tags_of w') ≤ 256
  added_within e g k = by_lt (owned (building t) (tags_of w)) 8
      (λ f. omega (arith, reserve_perm (added e g), reserve-below t (tags_of w) small f))
      (λ f.
      let free = adds (nothing (list_of w t) e) (subst (λ (x : List Record). 0 < length x) d.list g) in
      let open-still : leb 256 (reserve (tags_of w)) ≡ false = ap (λ (x : Bool). x && leb 256 (reserve (tags_of w))) (sym (le-leb 8 (owned (building t) (tags_of w)) f)) ∙ sym (full_is w d.was t) ∙ free in
      omega (arith, reserve_perm (added e g), reserve_above t (tags_of w) small f, leb-false 256 (reserve (tags_of w)) open-still))
    where
      nothing : (xs : List Record) → length xs ≡ 0 → xs ≡ []
      nothing [] q = refl
      nothing (x ∷ xs) q = absurd (omega arith)

  done_within : reserve (tags_of w) ≤ 256 → reserve (tags_of w') ≤ 256
  done_within k = by_lt 0 was
      (λ g. by_lt 0 is
      (λ f. omega (arith, alike (λ x. f) (λ x. g)))
      (λ f. omega (arith, reserve_perm (gone g (omega arith)), reserve_more t (tags_of w') small)))
      (λ g. by_lt 0 is
      (λ f. added_within (omega arith) f k)
      (λ f. omega (arith, alike (λ x. omega arith) (λ x. omega arith))))

-- only a put adds a tag, and one that is done has met no 19
adds_fair : (e : Edit) (w : List ℕ) (n : ℕ) → answer_of e w ≡ Ok n → sound w ≡ true → list_of w (tag_of e) ≡ [] → 0 < length (list_by e (list_of w (tag_of e))) → building_full (tag_of e) (tags (blocks (decode w))) ≡ false
unfolding tag_of list_by remove amend
adds_fair (put by t r) w n q s e g = rw (new_lacks w s t e) at (done_part by w t r n q)
adds_fair (delete t k) w n q s e g = absurd (omega (arith, ap (λ (x : List Record). length (remove k x)) e))
adds_fair (set_minutes t k m) w n q s e g = absurd (omega (arith, ap (λ (x : List Record). length (amend k m x)) e))
adds_fair (drop_tag t) w n q s e g = absurd (omega arith)

ranged_tag : (e : Edit) → Ranged e → tag_of e < 4294967296
unfolding tag_of
ranged_tag (put by t r) g = g.0
ranged_tag (delete t k) g = g
ranged_tag (set_minutes t k m) g = g.0
ranged_tag (drop_tag t) g = g

pub fair_kept : (e : Edit) → Ranged e → (w : List ℕ) → Fair w → Fair (made e w)
fair_kept e g w f = go (answer_of e w) refl (edit_effect e g w)
  where
    go : (a : Answer) → answer_of e w ≡ a → Effect w (made e w) (tag_of e) (list_by e (list_of w (tag_of e))) a → Fair (made e w)
    go (Err n) q d = subst Fair (sym d) f
    go (Ok n) q d = record {
      fine = d.fine;
      within = done_within w (made e w) (tag_of e) (list_by e (list_of w (tag_of e))) n d (ranged_tag e g) (adds_fair e w n q f.fine) f.within;
    }

-- ---- "whatever the others put"

-- at an edit: the reserve is not broken, a put of a new tag of a building below 8 is done or finds no room, and no put meets 11
pub record Sure (v : Event) : Type 0 where
  pub fair : Fair v.space
  pub eight : (by : Terminal) (t : ℕ) (r : Record) → v.edit ≡ put by t r → list_of v.space t ≡ [] → owned (building t) (tags_of v.space) < 8
      → (answer_of (put by t r) v.space ≡ Ok 1) ⊎ (answer_of (put by t r) v.space ≡ Err NoRoom)
  pub never : (by : Terminal) (t : ℕ) (r : Record) → v.edit ≡ put by t r → answer_of (put by t r) v.space ≢ Err TagsFull

stays_fair : (v : Event) → Fair v.space → RangedIn v → Fair (made v.edit v.space)
stays_fair v f g = fair_kept v.edit g v.space f

sure : (v : Event) → Fair v.space × RangedIn v → Sure v
sure v (f, g) =
    let small : (by : Terminal) (t : ℕ) (r : Record) → v.edit ≡ put by t r → t < 4294967296 = λ by t r e. (subst Ranged e g).0 in
    record {
      fair = f;
      eight = λ by t r e. sure_of_eight by v.space f t (small by t r e) r;
      never = λ by t r e. never_eleven by v.space f t (small by t r e) r;
    }

-- over every sequence of edits
pub sure_through : (w : List ℕ) → Fair w → (es : List Edit) → All RangedIn (events es w) → All Sure (events es w) × Fair (through es w)
sure_through w f es c = let k = events-keep Fair RangedIn stays_fair es w f c in (all_map sure k.0, k.1)

pub sure_from_empty : (w : List ℕ) → sound w ≡ true → ((t : ℕ) → list_of w t ≡ []) → (es : List Edit) → All RangedIn (events es w) → All Sure (events es w) × Fair (through es w)
sure_from_empty w s f = sure_through w (record { fine = s; within = omega (arith, empty_reserve w s f) })

-- and over turns at an image, wherever their commits and recoveries are cut and caught
pub sure_turns : (l : List ℕ) → Starts sound l → Fair (home l) → (us : List Turn) → All RangedIn (all_events us l) → All Sure (all_events us l) × (mark (after_turns us l) ≡ 0 → Fair (home (after_turns us l)))
sure_turns l s f us c = let k = turns_keep Fair RangedIn stays_fair l s f us c in (all_map sure k.0, k.1)

-- "On an index started empty and changed only by edits under this rule", of either step code
module _ (l : List ℕ) (L R step n : ℕ) (code : step ≤ 1) (fits : in_range L R ≡ true) (long : length l ≡ image_length L R) (all : image_length L R + 1 ≤ n) where
  abbrev formatted : List ℕ
  formatted = after (format_plan l L R step) n l

  pub formatted-reserve : reserve (tags_of (home formatted)) ≡ 128
  formatted-reserve = empty_reserve (home formatted) (formatted-sound l L R step n code fits long all) (formatted_empty l L R step n code fits long all)

  pub sure_from_format : (us : List Turn) → All RangedIn (all_events us formatted) → All Sure (all_events us formatted) × (mark (after_turns us formatted) ≡ 0 → Fair (home (after_turns us formatted)))
  sure_from_format = sure_turns formatted (formatted-starts l L R step n code fits long all) (record { fine = formatted-sound l L R step n code fits long all; within = omega (arith, formatted-reserve) })
