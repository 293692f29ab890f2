-- Every count fits the lower half of its number, so that the upper half tells what an answer is. (For stores it is answer-fits in Numbers.)
use Rattle.std.specs.Prelude.{◌≡◌, Bool, true, false, List, [], ◌∷◌, ℕ, ◌+◌, ◌≤◌, ◌<◌, ltb, length, Ok, Err}
use Rattle.std.proofs.Common.{ap, arith}
use Rattle.std.proofs.Math.Option.{none}
use Rattle.wire.specs.Cases.{by_test}
use Rattle.refusals.specs.Rules.{Answer, Rule, first, refusal, answered}
use Rattle.refusals.specs.RulesLaws.{by_refusal, first-refused, first_passed, passes_both}
use Rattle.records.specs.declared.Record.{Record}
use Rattle.merges.specs.declared.Merge.{Merge}
use Rattle.merges.specs.declared.Side.TheVariants.{First, Shared, Second}
use Rattle.records.specs.Records.{key, below}
use Rattle.records.specs.Order.{many-length}
use Rattle.merges.specs.Merging.{keep, keeps, merge}
use Rattle.home.specs.Sound.{list_of}
use Rattle.gates.specs.declared.Of.{Of}
use Rattle.gates.specs.Gates.{gate_rules, home_in}
use Rattle.gates.specs.GatesLaws.{home_fine}
use Rattle.reads.specs.Reads.{list_in, count_in, rank_in}
use Rattle.reads.specs.Merges.{merge_in}
use Rattle.demands.specs.Effects.{Effect, edit_effect}
use Rattle.demands.specs.Sequences.{Edit, answer_of, made, tag_of, list_by, Ranged}
use Rattle.cix.specs.PlacesLaws.{list-short}

abbrev pub Low : Answer → Type 0
Low (Ok n) = n < 4294967296
Low (Err r) = 0 < 1

-- ---- edits

low_effect : (w w' : List ℕ) (t : ℕ) (rs : List Record) (a : Answer) → Effect w w' t rs a → Low a
low_effect w w' t rs (Ok n) d = omega (arith, d.counts, ap length d.list, list-short w' t d.fine)
low_effect w w' t rs (Err r) d = omega arith

pub edit_low : (e : Edit) → Ranged e → (w : List ℕ) → Low (answer_of e w)
edit_low e g w = low_effect w (made e w) (tag_of e) (list_by e (list_of w (tag_of e))) (answer_of e w) (edit_effect e g w)

-- ---- reads

-- a refusal, or a number that is low where nothing is refused
low_first : (rs : List Rule) (n : ℕ) → (refusal rs ≡ none → n < 4294967296) → Low (first Err rs (Ok n))
low_first rs n f = by_refusal rs
    (λ r q. rw (first-refused Err rs r (Ok n) q) (omega arith))
    (λ q. rw (first_passed Err rs (Ok n) q) (f q))

pub count_low : (of : Of) (bs : List ℕ) (t : ℕ) → Low (count_in of bs t)
unfolding count_in
count_low of bs t = low_first (gate_rules of bs) (length (list_in of bs t)) (λ q. omega (arith, list-short (home_in of bs) t (home_fine of bs q)))

pub rank-low : (of : Of) (bs : List ℕ) (t k : ℕ) → Low (rank_in of bs t k)
unfolding rank_in
rank-low of bs t k = low_first (gate_rules of bs) (below k (list_in of bs t)) (λ q. omega (arith, many-length (λ x. ltb (key x) k) (list_in of bs t), list-short (home_in of bs) t (home_fine of bs q)))

-- ---- merges

length-keep : (b : Bool) (x : Record) (xs : List Record) → length (keep b x xs) ≤ 1 + length xs
length-keep true x xs = omega arith
length-keep false x xs = omega arith

length-merge : (m : Merge) (xs ys : List Record) → length (merge m xs ys) ≤ length xs + length ys
unfolding merge
length-merge m [] [] = omega arith
length-merge m [] (y ∷ ys) = omega (arith, length-keep (keeps m Second) y (merge m [] ys), length-merge m [] ys)
length-merge m (x ∷ xs) [] = omega (arith, length-keep (keeps m First) x (merge m xs []), length-merge m xs [])
length-merge m (x ∷ xs) (y ∷ ys) =
    by_test (ltb (key x) (key y))
    (λ e. rw e (omega (arith, length-keep (keeps m First) x (merge m xs (y ∷ ys)), length-merge m xs (y ∷ ys))))
    (λ e. rw e (by_test (ltb (key y) (key x))
    (λ f. rw f (omega (arith, length-keep (keeps m Second) y (merge m (x ∷ xs) ys), length-merge m (x ∷ xs) ys)))
    (λ f. rw f (omega (arith, length-keep (keeps m Shared) x (merge m xs ys), length-merge m xs ys)))))

pub merge_low : (m : Merge) (of : Of) (bs : List ℕ) (t u : ℕ) (out : List ℕ) → Low (answered Err (merge_in m of bs t u out))
unfolding merge_in
merge_low m of bs t u out = low_first _ (length (merge m (list_in of bs t) (list_in of bs u))) (λ q.
    let s = home_fine of bs (passes_both (gate_rules of bs) _ q).0 in
    omega (arith, length-merge m (list_in of bs t) (list_in of bs u), list-short (home_in of bs) t s, list-short (home_in of bs) u s))
