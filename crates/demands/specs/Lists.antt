-- Demand 2 for lists and reads: each list is sorted, a read gives exactly that list, and what was committed or formatted is what is read.
use Rattle.image_log.specs.declared.Stored.TheVariants.{Done as Committed}
use Rattle.std.proofs.Math.Path.{◌≡◌, refl, ap, ap₂, subst}
use Rattle.std.proofs.Common.{sym, ◌∙◌, arith, lt-ltb, eq-eqb}
use Rattle.std.proofs.Math.Bool.{true}
use Rattle.std.specs.Prelude.{ℕ, zero, suc, ◌+◌, ◌≤◌, ◌<◌, length, get_or, Ok, Err}
use mathlib.Core.List.{List, [], ◌∷◌, ◌++◌}
use Rattle.std.proofs.Math.Option.{none}
use Rattle.wire.specs.All.{All, more}
use Rattle.wire.specs.Cases.{by_test, never}
use Rattle.refusals.specs.declared.Refusal.{Refusal}
use Rattle.refusals.specs.Rules.{Rule, first, refusal, answered, left}
use Rattle.refusals.specs.RulesLaws.{by_refusal, first-behind, first_passed, passes_both}
use Rattle.records.specs.declared.Record.{Record}
use Rattle.records.specs.Records.{Fits, key, before, below, rising_from, encode as record_bytes}
use Rattle.records.specs.Order.{before-key, rising_parts, rising-at}
use Rattle.merges.specs.declared.Merge.{Merge}
use Rattle.merges.specs.Merging.{merge}
use Rattle.redo.specs.Image.{mark, home, head_ok, in_range, image_length, empty_image}
use Rattle.redo.specs.ImageLaws.{in_range_lem, head_same}
use Rattle.image_log.specs.Calls.{Plan, answer, after, commit_plan}
use Rattle.image_log.specs.FormatLaws.{format_done, empty_head, empty_mark, empty_home}
use Rattle.image_log.specs.Book.{commit, seen, plan_of, allowance, value, final}
use Rattle.image_log.specs.Claim.{Starts}
use Rattle.image_log.proofs.Claim.{holds, done_uncaught}
use Rattle.image_log.proofs.Kept.{completed}
use Rattle.layout.specs.Zones.{blocks, find}
use Rattle.home.specs.Bytes.{step_of, encode}
use Rattle.home.specs.Sound.{sized, sound, list_of}
use Rattle.home.specs.EncodeLaws.{valid_loose, step_loose}
use Rattle.home.specs.SoundLaws.{sound-encode, list_of-encode}
use Rattle.home.specs.EmptyLaws.{no_zones, no_zones_bytes, no_zones-valid}
use Rattle.gates.specs.declared.Of.{Of}
use Rattle.gates.specs.declared.Of.TheVariants.{Image, Space}
use Rattle.gates.specs.Gates.{gate_rules, home_in}
use Rattle.gates.specs.GatesLaws.{image_open}
use Rattle.reads.specs.Reads.{list_in, count_in, rank_in, show_in}
use Rattle.reads.specs.Merges.{written, merge_in}
use Rattle.reads.specs.ReadsLaws.{sound-listed, count_open, show_open}
use Rattle.index.specs.Calls.{begin_call, format_plan}
use Rattle.index.specs.FormatLaws.{format_coded}
use Rattle.index.specs.CommitLaws.{commit_refused}

-- lists are sorted by level, second, phone, those three never twice
keys_rise : (low i j : ℕ) (xs : List Record) (z : Record) → rising_from low xs ≡ true → i < j → j < length xs → key (get_or xs i z) < key (get_or xs j z)
keys_rise low i j [] z e g h = absurd (omega arith)
keys_rise low i zero (x ∷ xs) z e g h = absurd (omega arith)
keys_rise low zero (suc j) (x ∷ xs) z e g h = omega (arith, rising-at (key x + 1) j xs z (rising_parts low x xs e).1 (omega arith))
keys_rise low (suc i) (suc j) (x ∷ xs) z e g h = keys_rise (key x + 1) i j xs z (rising_parts low x xs e).1 (omega arith) (omega arith)

pub list-sorted : (h : List ℕ) (t : ℕ) → sound h ≡ true → (i j : ℕ) (z : Record) → Fits z → i < j → j < length (list_of h t) → before (get_or (list_of h t) i z) (get_or (list_of h t) j z) ≡ true
list-sorted h t s i j z f g k =
    let rs : List Record = list_of h t in
    let l = sound-listed h t s in
    before-key (get_or rs i z) (get_or rs j z) (fits-at rs i z l.fits f) (fits-at rs j z l.fits f)
    ∙ lt-ltb (key (get_or rs i z)) (key (get_or rs j z)) (keys_rise 0 i j rs z l.rising g k)
  where
    fits-at : (xs : List Record) (n : ℕ) (z : Record) → All Fits xs → Fits z → Fits (get_or xs n z)
    fits-at [] n z a b = b
    fits-at (x ∷ xs) zero z (more c a) b = c
    fits-at (x ∷ xs) (suc n) z (more c a) b = fits-at xs n z a b

-- ---- reads

-- a read gives exactly that list
pub reads_list : (of : Of) (bs : List ℕ) (t : ℕ) → refusal (gate_rules of bs) ≡ none → (count_in of bs t ≡ Ok (length (list_in of bs t))) × (show_in of bs t ≡ record_bytes (list_in of bs t))
reads_list of bs t p = (count_open of bs t p, show_open of bs t p)

sound-sized : (w : List ℕ) → sound w ≡ true → sized w ≡ true
unfolding sound
sound-sized w s = by_test (sized w) (λ e. e) (λ e. never (rw e at s))

-- where a sound workspace or a sound image with mark 0 is lent, it is not refused
pub space_opens : (w : List ℕ) → sound w ≡ true → refusal (gate_rules Space w) ≡ none
unfolding gate_rules first
space_opens w s = rw (sound-sized w s, s)

pub image_opens : (l : List ℕ) → head_ok l ≡ true → mark l ≡ 0 → sound (home l) ≡ true → refusal (gate_rules Image l) ≡ none
unfolding gate_rules first
image_opens l ok m s = rw (ok, eq-eqb (mark l) 0 m, s)

-- ---- two images, two workspaces, or one of each

-- every read of one answers and writes as the same read of the other
pub record ReadsAs (of : Of) (a : List ℕ) (of' : Of) (b : List ℕ) : Type 0 where
  pub count : (t : ℕ) → count_in of a t ≡ count_in of' b t
  pub rank : (t k : ℕ) → rank_in of a t k ≡ rank_in of' b t k
  pub show : (t : ℕ) → show_in of a t ≡ show_in of' b t
  pub merge : (m : Merge) (t u : ℕ) (out : List ℕ) → (answered Err (merge_in m of a t u out) ≡ answered Err (merge_in m of' b t u out)) × (left (merge_in m of a t u out) out ≡ left (merge_in m of' b t u out) out)

-- where neither is refused, if they have the same lists
module _ (of : Of) (a : List ℕ) (of' : Of) (b : List ℕ) (p : refusal (gate_rules of a) ≡ none) (q : refusal (gate_rules of' b) ≡ none) where
  both_open : {A : Type 0} (f : Refusal → A) (x y : A) → x ≡ y → first f (gate_rules of a) x ≡ first f (gate_rules of' b) y
  both_open f x y e = first_passed f (gate_rules of a) x p ∙ e ∙ sym (first_passed f (gate_rules of' b) y q)

  both_behind : {A : Type 0} (f : Refusal → A) (rs ss : List Rule) (x y : A) → first f rs x ≡ first f ss y → first f (gate_rules of a ++ rs) x ≡ first f (gate_rules of' b ++ ss) y
  both_behind f rs ss x y e = first-behind f (gate_rules of a) rs x ∙ both_open f (first f rs x) (first f ss y) e ∙ sym (first-behind f (gate_rules of' b) ss y)

  pub lists_read : ((t : ℕ) → list_in of a t ≡ list_in of' b t) → ReadsAs of a of' b
  unfolding count_in rank_in show_in merge_in
  lists_read e = record {
    count = λ t. both_open Err _ _ (ap (λ (rs : List Record). Ok (length rs)) (e t));
    rank = λ t k. both_open Err _ _ (ap (λ (rs : List Record). Ok (below k rs)) (e t));
    show = λ t. both_open (λ n. []) _ _ (ap record_bytes (e t));
    merge = λ m t u out.
        let c : merge m (list_in of a t) (list_in of a u) ≡ merge m (list_in of' b t) (list_in of' b u) = ap₂ (merge m) (e t) (e u) in
        (both_behind Err _ _ _ _ (ap (λ (rs : List Record). answered Err (written rs out)) c), both_behind (λ n. out) _ _ _ _ (ap (λ (rs : List Record). left (written rs out) out) c));
  }

-- an image and a workspace that is its home
pub home_reads : (l w : List ℕ) → refusal (gate_rules Image l) ≡ none → home l ≡ w → ReadsAs Image l Space w
unfolding home_in
home_reads l w p e = lists_read Image l Space w p (space_opens w (ap sound (sym e) ∙ (image_open l p).fine)) (λ t. ap (λ (h : List ℕ). list_of h t) e)

-- "copies home to a workspace": a workspace that was begun
pub begun_reads : (l w : List ℕ) → refusal (begin_call l w).rules ≡ none → ReadsAs Image l Space (left (begin_call l w) w)
unfolding begin_call
begun_reads l w e = home_reads l (left (begin_call l w) w) (passes_both (gate_rules Image l) _ e).0 (sym (first_passed (λ n. w) (begin_call l w).rules (home l) e))

-- a committed workspace is what a read of the image then finds
module _ (l w : List ℕ) (n m : ℕ) (done : answer (commit_plan sound l w) n ≡ (Ok (Committed m))) where
  abbrev l' : List ℕ
  l' = after (commit_plan sound l w) n l

  pub record Read : Type 0 where
    pub gate : refusal (gate_rules Image l') ≡ none
    pub bytes : home l' ≡ w

  pub committed : Read
  unfolding answer final seen plan_of allowance value
  committed = by_refusal (gate_rules Image l)
      (λ r q. let f = rw (commit_refused l w r q) at done in cc)
      (λ q.
      let o = image_open l q in
      let s : Starts sound l = record { head = o.head; unmarked = o.clear; fine = o.fine } in
      let k = completed sound l s [] w l refl n 0 m done in
      let t = rw (done_uncaught (commit_plan sound l w) n m 0 l done) at (holds sound l s (commit w n 0 ∷ [])) in
      let fine : sound w ≡ true = subst (λ (x : List ℕ). sound x ≡ true) k.0 t.fits.fine in
      record { gate = image_opens l' (head_same t.head ∙ o.head) k.1 (ap sound k.2 ∙ fine); bytes = k.2 })

  pub committed_reads : ReadsAs Image l' Space w
  committed_reads = home_reads l' w committed.gate committed.bytes

  -- the step code is the workspace's then, also where the image had the other one
  pub committed-step : step_of (home l') ≡ step_of w
  committed-step = ap step_of committed.bytes

-- ---- an index that format left

-- its home is that of no blocks, with the code that was asked for, and sound
module _ (l : List ℕ) (L R step n : ℕ) (code : step ≤ 1) (fits : in_range L R ≡ true) (long : length l ≡ image_length L R) (all : image_length L R + 1 ≤ n) where
  abbrev made : List ℕ
  made = after (format_plan l L R step) n l

  formatted_is : made ≡ empty_image L R 122 step
  formatted_is = ap (λ (p : Plan). after p n l) (format_coded l L R step code) ∙ format_done l L R 122 step (omega arith) fits long n all

  formatted-home : home made ≡ encode step R no_zones
  formatted-home = ap home formatted_is ∙ empty_home L R 122 step (omega arith) fits ∙ sym (no_zones_bytes step R)

  -- "Format takes the code"
  pub formatted-step : step_of (home made) ≡ step
  formatted-step = ap step_of formatted-home ∙ step_loose step R no_zones (valid_loose step R no_zones (no_zones-valid step R))

  pub formatted-sound : sound (home made) ≡ true
  formatted-sound =
      let size = in_range_lem L R fits in
      ap sound formatted-home ∙ sound-encode step R no_zones code size.some_pages size.few_pages (no_zones-valid step R)

  pub formatted_empty : (t : ℕ) → list_of (home made) t ≡ []
  unfolding no_zones blocks find
  formatted_empty t =
      let size = in_range_lem L R fits in
      ap (λ (y : List ℕ). list_of y t) formatted-home ∙ list_of-encode step R no_zones t size.few_pages (no_zones-valid step R)

  -- a list of commits and recoveries can start on it
  pub formatted-starts : Starts sound made
  formatted-starts = record {
    head = ap head_ok formatted_is ∙ empty_head L R 122 step (omega arith) fits;
    unmarked = ap mark formatted_is ∙ empty_mark L R 122 step (omega arith) fits;
    fine = formatted-sound;
  }

  -- it reads empty for every tag
  pub formatted_reads : (t : ℕ) → (count_in Image made t ≡ Ok 0) × (show_in Image made t ≡ [])
  unfolding home_in record_bytes
  formatted_reads t =
      let r = reads_list Image made t (image_opens made formatted-starts.head formatted-starts.unmarked formatted-starts.fine) in
      let e : list_of (home made) t ≡ [] = formatted_empty t in
      (r.0 ∙ ap (λ (y : List Record). Ok (length y)) e, r.1 ∙ ap record_bytes e)
