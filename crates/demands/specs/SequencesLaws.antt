-- What each edit keeps, a sequence of edits keeps, and so do turns at an image, wherever their commits and recoveries are cut and caught.
use Rattle.image_log.specs.declared.Stored.TheVariants.{Done as Committed}
use Rattle.std.specs.Prelude.{◌≡◌, refl, true, ℕ, Ok, Err}
use Rattle.std.proofs.Common.{sym, ◌∙◌, arith}
use Rattle.std.proofs.Math.Path.{ap, subst}
use Rattle.std.proofs.Math.Option.{none, some}
use mathlib.Core.List.{List, [], ◌∷◌, ◌++◌}
use Rattle.wire.specs.Cases.{by_eq}
use Rattle.wire.specs.All.{All, none as nothing, more, all_append}
use Rattle.refusals.specs.declared.Refusal.{Refusal}
use Rattle.refusals.specs.Rules.{refusal, left, Answer}
use Rattle.refusals.specs.RulesLaws.{by_refusal, first-refused, first_passed, passes_both}
use Rattle.records.specs.declared.Record.{Record}
use Rattle.redo.specs.Image.{capacity, mark, home, head_ok}
use Rattle.image_log.specs.Calls.{answer, after, commit_plan}
use Rattle.image_log.specs.Book.{Call, commit, recover, allowance, value, plan_of, Book, start, seen, final, next}
use Rattle.image_log.proofs.BookLaws.{Both, recover_both, commit_both}
use Rattle.image_log.specs.Holds.{Holds}
use Rattle.image_log.proofs.Steps.{step}
use Rattle.image_log.specs.Claim.{Starts}
use Rattle.image_log.proofs.Claim.{begins, stands_of, done_uncaught}
use Rattle.layout.specs.PermLaws.{all_left, all_right}
use Rattle.home.specs.Sound.{sound, list_of}
use Rattle.gates.specs.declared.Of.TheVariants.{Image, Space}
use Rattle.gates.specs.Gates.{gate_rules}
use Rattle.gates.specs.GatesLaws.{image_open}
use Rattle.index.specs.Calls.{begin_call}
use Rattle.demands.specs.Effects.{Effect, edit_effect}
use Rattle.demands.specs.Lists.{ReadsAs, home_reads, committed}
use Rattle.demands.specs.Sequences.{Edit, answer_of, made, tag_of, list_by, Ranged, Event, events, through, Turn, turn, recovery, events_at, calls_at, turned, after_turns, all_events}

-- ---- an edit

-- a sound workspace stays sound
effect_sound : (w w' : List ℕ) (t : ℕ) (rs : List Record) (a : Answer) → Effect w w' t rs a → sound w ≡ true → sound w' ≡ true
effect_sound w w' t rs (Ok n) d s = d.fine
effect_sound w w' t rs (Err n) d s = ap sound d ∙ s

pub edit_sound : (e : Edit) → Ranged e → (w : List ℕ) → sound w ≡ true → sound (made e w) ≡ true
edit_sound e g w = effect_sound w (made e w) (tag_of e) (list_by e (list_of w (tag_of e))) (answer_of e w) (edit_effect e g w)

pub through-sound : (es : List Edit) → All Ranged es → (w : List ℕ) → sound w ≡ true → sound (through es w) ≡ true
unfolding through
through-sound [] g w s = s
through-sound (e ∷ es) (more a g) w s = through-sound es g (made e w) (edit_sound e a w s)

-- a tag's list is as before, or the edit is one of this tag, is done, and has made it
pub by_list : (G : List Record → Type 0) (e : Edit) → Ranged e → (w : List ℕ) (t : ℕ) → G (list_of w t) → ((n : ℕ) → tag_of e ≡ t → answer_of e w ≡ Ok n → G (list_by e (list_of w t))) → G (list_of (made e w) t)
by_list G e g w t same done = go (answer_of e w) refl (edit_effect e g w)
  where
    go : (a : Answer) → answer_of e w ≡ a → Effect w (made e w) (tag_of e) (list_by e (list_of w (tag_of e))) a → G (list_of (made e w) t)
    go (Err n) q d = subst (λ (x : List ℕ). G (list_of x t)) (sym d) same
    go (Ok n) q d = by_eq (tag_of e) t
        (λ i. subst G (sym (ap (list_of (made e w)) (sym i) ∙ d.list ∙ ap (λ (u : ℕ). list_by e (list_of w u)) i)) (done n i q))
        (λ i. subst G (sym (d.others t (λ z. i (sym z)))) same)

-- one sequence and then another
pub through_both : (es fs : List Edit) (w : List ℕ) → through (es ++ fs) w ≡ through fs (through es w)
unfolding through
through_both [] fs w = refl
through_both (e ∷ es) fs w = through_both es fs (made e w)

pub events_both : (es fs : List Edit) (w : List ℕ) → events (es ++ fs) w ≡ events es w ++ events fs (through es w)
unfolding events through
events_both [] fs w = refl
events_both (e ∷ es) fs w = ap (◌∷◌ (record { edit = e; space = w })) (events_both es fs (made e w))

-- ---- a turn

module _ (l w : List ℕ) (es : List Edit) (n v : ℕ) where
  -- where begin is refused it does nothing
  pub turn_refused : (r : Refusal) → refusal (begin_call l w).rules ≡ some r → (events_at (turn w es n v) l ≡ []) × (turned (turn w es n v) l ≡ l)
  unfolding events_at calls_at final
  turn_refused r q = (
    first-refused (λ m. []) (begin_call l w).rules r (events es (left (begin_call l w) w)) q,
    ap (λ (cs : List Call). final sound cs l) (first-refused (λ m. []) (begin_call l w).rules r (commit (through es (left (begin_call l w) w)) n v ∷ []) q),
  )

  -- otherwise home is edited, and what that makes is committed
  pub turn_begun : refusal (begin_call l w).rules ≡ none → (events_at (turn w es n v) l ≡ events es (home l)) × (turned (turn w es n v) l ≡ (seen sound (commit (through es (home l)) n v) l).image)
  unfolding events_at calls_at begin_call final
  turn_begun q =
      let begun : left (begin_call l w) w ≡ home l = first_passed (λ k. w) (begin_call l w).rules (home l) q in (
        first_passed (λ k. []) (begin_call l w).rules (events es (left (begin_call l w) w)) q ∙ ap (events es) begun,
        ap (λ (cs : List Call). final sound cs l) (first_passed (λ k. []) (begin_call l w).rules (commit (through es (left (begin_call l w) w)) n v ∷ []) q)
            ∙ ap (λ (x : List ℕ). (seen sound (commit (through es x) n v) l).image) begun,
      )

  -- and where the commit is done, that is home, and the image reads as it
  module _ (q : refusal (begin_call l w).rules ≡ none) (m : ℕ) (d : answer (commit_plan sound l (through es (home l))) n ≡ (Ok (Committed m))) where
    turn_committed : turned (turn w es n v) l ≡ after (commit_plan sound l (through es (home l))) n l
    unfolding seen plan_of allowance value
    turn_committed = (turn_begun q).1 ∙ done_uncaught (commit_plan sound l (through es (home l))) n m v l d

    pub turn_home : (refusal (gate_rules Image (turned (turn w es n v) l)) ≡ none) × (home (turned (turn w es n v) l) ≡ through es (home l))
    turn_home = let c = committed l (through es (home l)) n m d in (ap (λ (x : List ℕ). refusal (gate_rules Image x)) turn_committed ∙ c.gate, ap home turn_committed ∙ c.bytes)

    pub turn_done : ReadsAs Image (turned (turn w es n v) l) Space (through es (home l))
    turn_done = home_reads (turned (turn w es n v) l) (through es (home l)) turn_home.0 turn_home.1

-- ---- what edits keep, under a condition on each of them

module _ (P : List ℕ → Type 0) (C : Event → Type 0) (keeps : (v : Event) → P v.space → C v → P (made v.edit v.space)) where
  abbrev Meets : Event → Type 0
  Meets v = P v.space × C v

  -- it holds at each edit, and after the last
  pub events-keep : (es : List Edit) (w : List ℕ) → P w → All C (events es w) → All Meets (events es w) × P (through es w)
  unfolding events through
  events-keep [] w p c = (nothing, p)
  events-keep (e ∷ es) w p (more c cs) =
      let r = events-keep es (made e w) (keeps (record { edit = e; space = w }) p c) cs in
      (more (p, c) r.0, r.1)

  -- in a list of turns that started on l₀, with the book's help
  record Goes (l₀ : List ℕ) (u : Turn) (l : List ℕ) : Type 0 where
    met : All Meets (events_at u l)
    book : Book
    holds : Holds sound l₀ (turned u l) book
    both : Both P book

  module _ (l₀ : List ℕ) (ok : head_ok l₀ ≡ true) where
    clear_home : (l : List ℕ) (b : Book) → Holds sound l₀ l b → Both P b → mark l ≡ 0 → P (home l)
    clear_home l b h p m = subst P (sym (stands_of l b h.state (λ z. omega (arith, m, h.marks, z)))) p.kept

    goes : (u : Turn) (l : List ℕ) (b : Book) → Holds sound l₀ l b → Both P b → All C (events_at u l) → Goes l₀ u l
    unfolding events_at calls_at begin_call final
    goes (recovery n v) l b h p c = record {
      met = nothing;
      book = next sound (capacity l₀) b (recover n v);
      holds = (step sound l₀ ok l b h (recover n v)).goes_on;
      both = recover_both sound (capacity l₀) P b p n v;
    }
    goes (turn w es n v) l b h p c = by_refusal (begin_call l w).rules
        (λ r q.
        let i = turn_refused l w es n v r q in
        record { met = subst (All Meets) (sym i.0) nothing; book = b; holds = subst (λ (x : List ℕ). Holds sound l₀ x b) (sym i.1) h; both = p })
        (λ q.
        let i = turn_begun l w es n v q in
        let k = events-keep es (home l) (clear_home l b h p (image_open l (passes_both (gate_rules Image l) _ q).0).clear) (subst (All C) i.0 c) in
        let b' : Book = next sound (capacity l₀) b (commit (through es (home l)) n v) in
        record {
          met = subst (All Meets) (sym i.0) k.0;
          book = b';
          holds = subst (λ (x : List ℕ). Holds sound l₀ x b') (sym i.1) (step sound l₀ ok l b h (commit (through es (home l)) n v)).goes_on;
          both = commit_both sound (capacity l₀) P b p n v (through es (home l)) k.1;
        })

    turns_on : (us : List Turn) (l : List ℕ) (b : Book) → Holds sound l₀ l b → Both P b → All C (all_events us l) → All Meets (all_events us l) × (mark (after_turns us l) ≡ 0 → P (home (after_turns us l)))
    unfolding all_events after_turns
    turns_on [] l b h p c = (nothing, clear_home l b h p)
    turns_on (u ∷ us) l b h p c =
        let g : Goes l₀ u l = goes u l b h p (all_left C (events_at u l) (all_events us (turned u l)) c) in
        let r = turns_on us (turned u l) g.book g.holds g.both (all_right C (events_at u l) (all_events us (turned u l)) c) in
        (all_append g.met r.0, r.1)

  -- from a sound image with mark 0 it holds at each edit, and of home as soon as the mark is 0 again
  pub turns_keep : (l : List ℕ) → Starts sound l → P (home l) → (us : List Turn) → All C (all_events us l) → All Meets (all_events us l) × (mark (after_turns us l) ≡ 0 → P (home (after_turns us l)))
  unfolding start
  turns_keep l s p us c = turns_on l s.head us l (start (home l)) (begins sound l s) (record { kept = p; logged = p }) c
