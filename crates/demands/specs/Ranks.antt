-- Third in line: the number foretold is the place at which a put record then stands, in the workspace and through a commit.
use Rattle.image_log.specs.declared.Stored.TheVariants.{Done as Committed}
use Rattle.std.specs.Prelude.{◌≡◌, refl, true, ◌≢◌, ℕ, suc, ◌+◌, ◌≤◌, ◌<◌, ltb, length, get_or, Ok, Err}
use Rattle.std.proofs.Math.Path.{sym, ap}
use Rattle.std.proofs.Common.{◌∙◌, subst, ⊎_elim, arith, le-ltb}
use Rattle.std.proofs.Math.Option.{none}
use mathlib.Core.List.{List, [], ◌∷◌}
use Rattle.wire.specs.All.{All}
use Rattle.refusals.specs.Rules.{refusal, answered, left, Answer}
use Rattle.records.specs.declared.Record.{Record}
use Rattle.records.specs.Records.{Fits, tally, key, before, rank, many, below, insert}
use Rattle.records.specs.Order.{rank-length, rank_below, rank-place, below-before, insert-below, insert_there, insert-before, insert-behind}
use Rattle.redo.specs.Store.{Store}
use Rattle.redo.specs.Image.{home}
use Rattle.image_log.specs.Calls.{store, answer, after, changed_pages, commit_plan}
use Rattle.image_log.specs.Book.{Call, commit, final}
use Rattle.image_log.specs.Claim.{Starts}
use Rattle.image_log.specs.Kept.{IsRecover}
use Rattle.image_log.proofs.Kept.{one_found, starts}
use Rattle.layout.proofs.EditsLaws.{length-insert}
use Rattle.home.specs.Sound.{sound, list_of}
use Rattle.gates.specs.declared.Of.{Of}
use Rattle.gates.specs.declared.Of.TheVariants.{Image, Space}
use Rattle.gates.specs.Gates.{gate_rules, home_in}
use Rattle.gates.specs.GatesLaws.{home_fine, image_open}
use Rattle.reads.specs.Reads.{list_in, rank_in}
use Rattle.reads.specs.ReadsLaws.{sound-listed, rank_open}
use Rattle.edits.specs.declared.Terminal.{Terminal}
use Rattle.index.specs.Calls.{put_call}
use Rattle.demands.specs.Claim.{index_switched_off}
use Rattle.demands.specs.Effects.{Effect, put_effect}
use Rattle.demands.specs.Lists.{space_opens, image_opens, home_reads, committed_reads}

-- ---- what a rank tells

module _ (of : Of) (bs : List ℕ) (t : ℕ) (passed : refusal (gate_rules of bs) ≡ none) where
  -- how many of the tag's records stand before r by level, second, phone
  pub rank-before : (r : Record) → Fits r → rank_in of bs t (key r) ≡ Ok (many (λ x. before x r) (list_in of bs t))
  rank-before r f = rank_open of bs t passed (key r) ∙ ap Ok (below-before r (list_in of bs t) f (sound-listed (home_in of bs) t (home_fine of bs passed)).fits)

  -- of a listed record, its place in the list: the first has 0 before it
  pub rank-listed : (i : ℕ) (z : Record) → i < length (list_in of bs t) → rank_in of bs t (key (get_or (list_in of bs t) i z)) ≡ Ok i
  rank-listed i z g =
      let rises = (sound-listed (home_in of bs) t (home_fine of bs passed)).rising in
      rank_open of bs t passed (key (get_or (list_in of bs t) i z))
      ∙ ap Ok (sym (rank_below (key (get_or (list_in of bs t) i z)) 0 (list_in of bs t) rises) ∙ rank-place 0 i (list_in of bs t) z rises g)

  -- "0 for an unknown tag"
  pub rank_unknown : (k : ℕ) → list_in of bs t ≡ [] → rank_in of bs t k ≡ Ok 0
  unfolding many
  rank_unknown k e = rank_open of bs t passed k ∙ ap (λ (x : List Record). Ok (below k x)) e

-- ---- an edit of tag t that makes a list of rs

space_rank : (w : List ℕ) (t k : ℕ) → sound w ≡ true → rank_in Space w t k ≡ Ok (below k (list_of w t))
unfolding home_in
space_rank w t k s = rank_open Space w t (space_opens w s) k

-- other tags' ranks stay
pub others-ranked : (w w' : List ℕ) (t : ℕ) (rs : List Record) (a : Answer) → Effect w w' t rs a → (u k : ℕ) → u ≢ t → rank_in Space w' u k ≡ rank_in Space w u k
others-ranked w w' t rs (Err n) e u k d = ap (λ (x : List ℕ). rank_in Space x u k) e
others-ranked w w' t rs (Ok n) e u k d = space_rank w' u k e.fine ∙ ap (λ (x : List Record). Ok (below k x)) (e.others u d) ∙ sym (space_rank w u k e.was)

-- ---- a put, done or refused: an edit that puts r into the list

-- done, it answered n, where i was foretold: r stands at place i of the list, calls before it stay in their places, and those behind it are one further
pub record Stands (w w' : List ℕ) (t : ℕ) (r : Record) (n i : ℕ) : Type 0 where
  pub inside : i < n
  pub there : (z : Record) → get_or (list_of w' t) i z ≡ r
  pub before : (j : ℕ) (z : Record) → j < i → get_or (list_of w' t) j z ≡ get_or (list_of w t) j z
  pub behind : (j : ℕ) (z : Record) → i ≤ j → get_or (list_of w' t) (suc j) z ≡ get_or (list_of w t) j z
  -- so any primary part, listed or not, has one call more before it exactly if r stands before it
  pub moves : (k j : ℕ) → rank_in Space w t k ≡ Ok j → rank_in Space w' t k ≡ Ok (j + tally (ltb (key r) k))

module _ (w w' : List ℕ) (t : ℕ) (r : Record) where
  abbrev Puts : Answer → Type 0
  Puts a = Effect w w' t (insert r (list_of w t)) a

  abbrev rs : List Record
  rs = list_of w t

  done_rank : (n k : ℕ) → Puts (Ok n) → rank_in Space w' t k ≡ Ok (below k rs + tally (ltb (key r) k))
  done_rank n k e = space_rank w' t k e.fine ∙ ap (λ (x : List Record). Ok (below k x)) e.list ∙ ap Ok (insert-below k r rs)

  pub puts_foretold : (a : Answer) → Puts a → rank_in Space w' t (key r) ≡ rank_in Space w t (key r)
  unfolding tally
  puts_foretold (Err n) e = ap (λ (x : List ℕ). rank_in Space x t (key r)) e
  puts_foretold (Ok n) e = done_rank n (key r) e ∙ ap Ok (rw (le-ltb (key r) (key r) (omega arith)) (omega arith)) ∙ sym (space_rank w t (key r) e.was)

  pub puts_stands : (n i : ℕ) → Puts (Ok n) → rank_in Space w t (key r) ≡ Ok i → Stands w w' t r n i
  puts_stands n i e f =
      let was : (k j : ℕ) → rank_in Space w t k ≡ Ok j → below k rs ≡ j = λ k j g. let q : Ok (below k rs) ≡ Ok j = sym (space_rank w t k e.was) ∙ g in cc in
      let place : rank (key r) rs ≡ i = rank_below (key r) 0 rs (sound-listed w t e.was).rising ∙ was (key r) i f in
      record {
        inside = omega (arith, e.counts, length-insert r rs, rank-length (key r) rs, place);
        there = λ z. ap (λ (x : List Record). get_or x i z) e.list ∙ ap (λ (j : ℕ). get_or (insert r rs) j z) (sym place) ∙ insert_there r rs z;
        before = λ j z g. ap (λ (x : List Record). get_or x j z) e.list ∙ insert-before r rs j z (omega (arith, place));
        behind = λ j z g. ap (λ (x : List Record). get_or x (suc j) z) e.list ∙ insert-behind r rs j z (omega (arith, place));
        moves = λ k j g. done_rank n k e ∙ ap (λ (m : ℕ). Ok (m + tally (ltb (key r) k))) (was k j g);
      }

-- ---- put, by either terminal

module _ (by : Terminal) (w : List ℕ) (t : ℕ) (small : t < 4294967296) (r : Record) (fits : Fits r) where
  abbrev w' : List ℕ
  w' = left (put_call by w t r) w

  effect : Effect w w' t (insert r (list_of w t)) (answered Err (put_call by w t r))
  effect = put_effect w t small by r fits

  -- "Putting a record and then counting must give the number foretold": also where the put is refused
  pub put-foretold : rank_in Space w' t (key r) ≡ rank_in Space w t (key r)
  put-foretold = puts_foretold w w' t r (answered Err (put_call by w t r)) effect

  pub put_stands : (n i : ℕ) → answered Err (put_call by w t r) ≡ Ok n → rank_in Space w t (key r) ≡ Ok i → Stands w w' t r n i
  put_stands n i d = puts_stands w w' t r n i (subst (Effect w w' t (insert r (list_of w t))) d effect)

  pub put-others : (u k : ℕ) → u ≢ t → rank_in Space w' u k ≡ rank_in Space w u k
  put-others = others-ranked w w' t (insert r (list_of w t)) (answered Err (put_call by w t r)) effect

  -- and once it is committed
  pub foretold-committed : (l : List ℕ) (n m : ℕ) → answer (commit_plan sound l w') n ≡ (Ok (Committed m)) → rank_in Image (after (commit_plan sound l w') n l) t (key r) ≡ rank_in Space w t (key r)
  foretold-committed l n m d = (committed_reads l w' n m d).rank t (key r) ∙ put-foretold

-- Asked of an image, then put in what was begun from it and committed: wherever the commit and any recoveries are cut and caught,
-- the image gives the number foretold as soon as it gives one.
module _ (by : Terminal) (l : List ℕ) (t : ℕ) (small : t < 4294967296) (r : Record) (fits : Fits r) where
  abbrev made : List ℕ
  made = left (put_call by (home l) t r) (home l)

  pub foretold_switched_off : {ss : List Store} → commit_plan sound l made ≡ store ss → (n v : ℕ) {rs : List Call} → All IsRecover rs
      → refusal (gate_rules Image (final sound (commit made n v ∷ rs) l)) ≡ none → rank_in Image (final sound (commit made n v ∷ rs) l) t (key r) ≡ rank_in Image l t (key r)
  foretold_switched_off plan n v {rs} recovers p =
      let x : List ℕ = final sound (commit made n v ∷ rs) l in
      let s : Starts sound l = starts sound l made plan in
      let f = (index_switched_off l made plan n v recovers).at_once (image_open x p).clear in
      let same : (y : List ℕ) → home x ≡ y → rank_in Space (home x) t (key r) ≡ rank_in Space y t (key r) = λ y e. ap (λ (z : List ℕ). rank_in Space z t (key r)) e in
      (home_reads x (home x) p refl).rank t (key r)
      ∙ ⊎_elim (same (home l)) (λ e. same made e ∙ put-foretold by (home l) t small r fits) (one_found n v (length (changed_pages l made)) (home l) made (home x) f)
      ∙ sym ((home_reads l (home l) (image_opens l s.head s.unmarked s.fine) refl).rank t (key r))
