-- Which edits an image holds: wherever a turn is cut and caught, all of its edits or none, and after turns that are all finished, all.
use Rattle.image_log.specs.declared.Stored.TheVariants.{Done as Committed}
use Rattle.std.specs.Prelude.{◌≡◌, ◌⊎◌, ℕ, zero, suc, length, Ok}
use Rattle.std.proofs.Math.Path.{refl, ap, subst}
use Rattle.std.proofs.Common.{sym, ◌∙◌, inr, ⊎_elim, arith, eq-eqb, ne_eqb}
use Rattle.std.proofs.Math.Logic.{inl}
use Rattle.std.proofs.Math.Option.{none}
use mathlib.Core.List.{List, [], ◌∷◌, ◌++◌}
use Rattle.wire.specs.All.{All, none as nothing, more, all_append}
use Rattle.refusals.specs.declared.Refusal.{Refusal}
use Rattle.refusals.specs.Rules.{first, refusal}
use Rattle.refusals.specs.RulesLaws.{by_refusal}
use Rattle.redo.specs.Store.{halfway, apply}
use Rattle.redo.specs.Image.{mark, home}
use Rattle.image_log.specs.Calls.{Plan, refuse, store, answer, after, recover_rules, recover_plan, changed_pages, commit_plan}
use Rattle.image_log.specs.Book.{Call, commit, recover, allowance, value, plan_of, rest, caught, seen, final}
use Rattle.image_log.specs.Kept.{IsRecover, is_recover}
use Rattle.image_log.proofs.Kept.{one_found}
use Rattle.home.specs.Sound.{sound}
use Rattle.gates.specs.declared.Of.TheVariants.{Image}
use Rattle.gates.specs.Gates.{gate_rules}
use Rattle.gates.specs.GatesLaws.{image_open}
use Rattle.index.specs.Calls.{begin_call}
use Rattle.demands.specs.Claim.{index_switched_off}
use Rattle.demands.specs.Sequences.{Edit, events, Accepted, through, Turn, turn, recovery, calls_at, turned, after_turns}
use Rattle.demands.specs.SequencesLaws.{through_both, events_both, turn_refused, turn_begun, turn_home}

-- an image whose home is what edits that were accepted made of h
pub record Reached (es : List Edit) (h : List ℕ) (l : List ℕ) : Type 0 where
  pub gate : refusal (gate_rules Image l) ≡ none
  pub bytes : home l ≡ through es h
  pub accepted : All Accepted (events es h)

-- none yet
pub none_reached : (l : List ℕ) → refusal (gate_rules Image l) ≡ none → Reached [] (home l) l
unfolding events through
none_reached l p = record { gate = p; bytes = refl; accepted = nothing }

-- some, and then others
pub both_reached : {es fs : List Edit} {h l x : List ℕ} → Reached es h l → Reached fs (home l) x → Reached (es ++ fs) h x
both_reached {es} {fs} {h} r s = record {
  gate = s.gate;
  bytes = s.bytes ∙ ap (through fs) r.bytes ∙ sym (through_both es fs h);
  accepted = subst (All Accepted) (sym (events_both es fs h)) (all_append r.accepted (subst (λ (y : List ℕ). All Accepted (events fs y)) r.bytes s.accepted));
}

-- a call that stores nothing, or is refused
no_stores : (n v : ℕ) (l : List ℕ) → caught (store []) n v l ≡ l
unfolding caught rest after halfway apply
no_stores zero v l = refl
no_stores (suc n) v l = refl

refused_same : (r : Refusal) (n v : ℕ) (l : List ℕ) → caught (refuse r) n v l ≡ l
unfolding caught rest after halfway
refused_same r n v l = refl

-- with mark 0 recoveries have nothing to do
idle : {rs : List Call} (l : List ℕ) → All IsRecover rs → refusal (gate_rules Image l) ≡ none → final sound rs l ≡ l
unfolding final seen plan_of allowance value recover_plan recover_rules first
idle l nothing p = refl
idle {rs = c ∷ rs} l (more (is_recover n v) a) p =
    let o = image_open l p in
    let e : (seen sound (recover n v) l).image ≡ l = rw (o.head, eq-eqb (mark l) 0 o.clear, ne_eqb (mark l) 165 (λ z. omega (arith, o.clear))) (no_stores n v l) in
    ap (final sound rs) e ∙ idle l a p

-- A turn at an image that is read, and any recoveries after it, all of them cut and caught anywhere: as soon as it is read again, it holds
-- the turn's edits besides those that it held, or none of them.
module _ (l w : List ℕ) (fs : List Edit) (n v : ℕ) {rs : List Call} (a : All IsRecover rs) where
  abbrev x : List ℕ
  x = final sound rs (turned (turn w fs n v) l)

  turn_found : refusal (gate_rules Image l) ≡ none → refusal (gate_rules Image x) ≡ none → (home x ≡ home l) ⊎ (home x ≡ through fs (home l))
  unfolding final seen plan_of allowance value
  turn_found p q = by_refusal (begin_call l w).rules
      (λ r e. inl (ap home (ap (final sound rs) (turn_refused l w fs n v r e).1 ∙ idle l a p)))
      (λ e. go (commit_plan sound l (through fs (home l))) refl (ap (final sound rs) (turn_begun l w fs n v e).1))
    where
      go : (plan : Plan) → commit_plan sound l (through fs (home l)) ≡ plan → x ≡ final sound (commit (through fs (home l)) n v ∷ rs) l → (home x ≡ home l) ⊎ (home x ≡ through fs (home l))
      go (refuse r) e i = inl (ap home (i ∙ ap (final sound rs) (ap (λ (k : Plan). caught k n v l) e ∙ refused_same r n v l) ∙ idle l a p))
      go (store ss) e i = subst (λ (y : List ℕ). (home y ≡ home l) ⊎ (home y ≡ through fs (home l))) (sym i)
          (one_found n v (length (changed_pages l (through fs (home l)))) (home l) (through fs (home l)) (home (final sound (commit (through fs (home l)) n v ∷ rs) l)) ((index_switched_off l (through fs (home l)) e n v a).at_once (ap mark (sym i) ∙ (image_open x q).clear)))

  pub turn_reached : {es : List Edit} {h : List ℕ} → Reached es h l → All Accepted (events fs (home l)) → refusal (gate_rules Image x) ≡ none → Reached es h x ⊎ Reached (es ++ fs) h x
  turn_reached r b q = ⊎_elim
      (λ e. inl (record { gate = q; bytes = e ∙ r.bytes; accepted = r.accepted }))
      (λ e. inr (both_reached r (record { gate = q; bytes = e; accepted = b })))
      (turn_found r.gate q)

-- ---- turns that are all finished

-- the edits of a turn, and of one turn after another
unfoldable pub edits_in : Turn → List Edit
edits_in (turn w es n v) = es
edits_in (recovery n v) = []

unfoldable pub edits_of : List Turn → List Edit
edits_of [] = []
edits_of (u ∷ us) = edits_in u ++ edits_of us

-- a turn's begin and edits are not refused, and its commit is done; a recovery may stand anywhere
abbrev pub Finished : Turn → List ℕ → Type 0
Finished (turn w es n v) l = (refusal (begin_call l w).rules ≡ none) × All Accepted (events es (home l)) × ((m : ℕ) × (answer (commit_plan sound l (through es (home l))) n ≡ (Ok (Committed m))))
Finished (recovery n v) l = Unit {0}

abbrev pub AllFinished : List Turn → List ℕ → Type 0
AllFinished [] l = Unit {0}
AllFinished (u ∷ us) l = Finished u l × AllFinished us (turned u l)

finished_one : (u : Turn) (l : List ℕ) → refusal (gate_rules Image l) ≡ none → Finished u l → Reached (edits_in u) (home l) (turned u l)
unfolding edits_in calls_at
finished_one (turn w es n v) l p (q, a, d) = let h = turn_home l w es n v q d.0 d.1 in record { gate = h.0; bytes = h.1; accepted = a }
finished_one (recovery n v) l p f = subst (Reached [] (home l)) (sym (idle l (more (is_recover n v) nothing) p)) (none_reached l p)

-- the image holds all their edits
pub finished : (us : List Turn) (l : List ℕ) → refusal (gate_rules Image l) ≡ none → AllFinished us l → Reached (edits_of us) (home l) (after_turns us l)
unfolding after_turns edits_of
finished [] l p f = none_reached l p
finished (u ∷ us) l p (f, g) = let h = finished_one u l p f in both_reached h (finished us (turned u l) h.gate g)
