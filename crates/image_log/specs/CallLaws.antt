-- Laws of the calls' stores: where they go, and what a recovery leaves, cut or whole.
use Rattle.std.specs.Prelude.{◌≡◌, refl, true, ◌&&◌, ◌⊎◌, ℕ, ◌+◌, ◌*◌, ◌≤◌, ◌<◌, List, [], ◌∷◌, ◌++◌, length, get_or, set, leb}
use Rattle.std.proofs.Common.{sym, ◌∙◌, inl, inr, ⊎_elim, arith, append_assoc, leb-true}
use Rattle.std.proofs.Math.Path.{ap}
use Rattle.std.proofs.Math.ListN.{take, length-append}
use Rattle.std.proofs.Math.Seq.{take-append-le}
use Rattle.wire.specs.Bytes.{bytes16}
use Rattle.wire.specs.BytesLaws.{get16_same}
use Rattle.wire.specs.Cases.{both}
use Rattle.wire.specs.All.{All, none, more, all_append, all_map, all_take}
use Rattle.redo.specs.Store.{Store, apply, run}
use Rattle.redo.specs.StoreLaws.{Go, kept}
use Rattle.redo.specs.Image.{capacity, count, mark, pages, home_at}
use Rattle.redo.specs.ImageLaws.{Fixed, SameHead, head_kept, capacity_same, pages_same}
use Rattle.redo.specs.Entry.{Entry, entry_at, rising, logged, replay}
use Rattle.redo.specs.EntryLaws.{Long, entries_same, length-logged, length-replay, go_logged, go_replay}
use Rattle.redo.specs.Stores.{clear_mark, recover_stores, log_stores}
use Rattle.redo.specs.Torn.{torn, torn-first, torn_go, torn_last, last_same, marked_before}
use Rattle.image_log.specs.Calls.{log_of, log_ok}

-- ---- where

unfixed : (a : ℕ) → ((8 ≤ a) × (a < 11)) ⊎ (64 ≤ a) → Fixed a → ⊥
unfixed a (inl g) f = ⊎_elim (λ h. omega arith) (λ h. omega arith) f
unfixed a (inr g) f = ⊎_elim (λ h. omega arith) (λ h. omega arith) f

-- a commit's log stores are all but the last, and the mark's
unmarked : List Entry → List Store
unmarked es = logged 0 es ++ run 8 (bytes16 (length es))

log_parts : (es : List Entry) → log_stores es ≡ unmarked es ++ run 10 (165 ∷ [])
unfolding log_stores unmarked
log_parts es = sym (append_assoc (logged 0 es) (run 8 (bytes16 (length es))) (run 10 (165 ∷ [])))

pub log_mark_same : (l : List ℕ) (es : List Entry) → set (apply (log_stores es) l) 10 165 ≡ apply (log_stores es) l
log_mark_same l es = rw (log_parts es) (last_same 10 165 (unmarked es) l)

module _ {es : List Entry} (a : All Long es) where
  pub spare_log : Go (λ a. Fixed a → ⊥) (log_stores es)
  unfolding log_stores bytes16 run
  spare_log =
      all_append (all_map (λ s r. unfixed s.at (inr (omega arith))) (go_logged 0 a))
      (more (unfixed 8 (inl (omega arith))) (more (unfixed 9 (inl (omega arith))) (more (unfixed 10 (inl (omega arith))) none)))

  pub below_log : (h : ℕ) → entry_at (length es) ≤ h → Go (λ a. a < h) (log_stores es)
  unfolding log_stores bytes16 run
  below_log h g =
      all_append (all_map (λ s r. omega arith) (go_logged 0 a))
      (more (omega arith) (more (omega arith) (more (omega arith) none)))

  long_unmarked : length (unmarked es) ≡ 66 * length es + 2
  unfolding unmarked bytes16 run
  long_unmarked = length-append (logged 0 es) (run 8 (bytes16 (length es))) ∙ ap (λ (k : ℕ). k + 2) (length-logged 0 a)

  -- torn before its last store it does not touch the mark
  pub log_unmarked : (n v : ℕ) → n < 66 * length es + 2 → Go (λ a. a ≡ 10 → ⊥) (torn n v (log_stores es))
  unfolding unmarked bytes16 run
  log_unmarked n v g =
      let e : torn n v (log_stores es) ≡ torn n v (unmarked es) =
      ap (torn n v) (log_parts es) ∙ torn-first n v (unmarked es) (run 10 (165 ∷ [])) (omega (arith, long_unmarked)) in
      rw e (torn_go (λ a. a ≡ 10 → ⊥) n v (all_append (all_map (λ s r q. omega arith) (go_logged 0 a)) (more (λ q. omega arith) (more (λ q. omega arith) none))))

  -- cut before it, the mark stands as it stood
  pub log_standing : (l : List ℕ) (n : ℕ) → n ≤ 66 * length es + 2 → mark (apply (take n (log_stores es)) l) ≡ mark l
  unfolding unmarked bytes16 run
  log_standing l n g =
      let e : take n (log_stores es) ≡ take n (unmarked es) = ap (take n) (log_parts es) ∙ take-append-le n (unmarked es) (run 10 (165 ∷ [])) (omega (arith, long_unmarked)) in
      rw e (kept (λ a. a ≡ 10 → ⊥) l 10 (all_take n (all_append (all_map (λ s r q. omega arith) (go_logged 0 a)) (more (λ q. omega arith) (more (λ q. omega arith) none)))) (λ f. f refl))

  -- torn at it, it has that value for the mark
  pub log_last : (l : List ℕ) (n v : ℕ) → n ≡ 66 * length es + 2 → apply (torn n v (log_stores es)) l ≡ set (apply (log_stores es) l) 10 v
  log_last l n v e =
      ap (λ (ss : List Store). apply (torn n v ss) l) (log_parts es)
      ∙ torn_last n v 10 165 (unmarked es) l (omega (arith, long_unmarked))
      ∙ sym (ap (λ (ss : List Store). set (apply ss l) 10 v) (log_parts es))

-- ---- the log in the image

pub log_right : (l : List ℕ) → log_ok l ≡ true → (1 ≤ count l) × (count l ≤ capacity l) × (rising 0 (pages l) (log_of l) ≡ true)
unfolding log_ok
log_right l e =
    let a = both (leb 1 (count l) && leb (count l) (capacity l)) (rising 0 (pages l) (log_of l)) e in
    let b = both (leb 1 (count l)) (leb (count l) (capacity l)) a.0 in
    (leb-true _ _ b.0, leb-true _ _ b.1, a.1)

-- where the bytes below home are the same, the mark aside, so are count and log
pub record SameLog (l l' : List ℕ) : Type 0 where
  pub head : SameHead l l'
  pub bytes : (i : ℕ) → i < home_at l → (i ≡ 10 → ⊥) → get_or l' i 0 ≡ get_or l i 0

module _ {l l' : List ℕ} (s : SameLog l l') where
  pub count_same : count l' ≡ count l
  count_same = get16_same l l' 8 (s.bytes 8 (omega arith) (λ e. omega arith)) (s.bytes 9 (omega arith) (λ e. omega arith))

  pub log_same : count l ≤ capacity l → log_of l' ≡ log_of l
  log_same g = rw count_same (entries_same l l' 0 (count l) s.head.long (λ i a b. s.bytes i (omega arith) (λ e. omega arith)))

  pub log_ok_same : count l ≤ capacity l → log_ok l' ≡ log_ok l
  unfolding log_ok
  log_ok_same g = rw (count_same, capacity_same s.head, pages_same s.head, entries_same l l' 0 (count l) s.head.long (λ i a b. s.bytes i (omega arith) (λ e. omega arith)))

-- stores to home and to the mark only
abbrev pub Spares : ℕ → ℕ → Type 0
Spares h a = (h ≤ a) ⊎ (a ≡ 10)

pub spares_log : (l : List ℕ) {ss : List Store} → Go (Spares (home_at l)) ss → SameLog l (apply ss l)
spares_log l g = record {
  head = head_kept l (all_map (λ s r. ⊎_elim (λ h. unfixed s.at (inr (omega arith))) (λ h. unfixed s.at (inl (omega arith))) r) g);
  bytes = λ i f q. kept (Spares (home_at l)) l i g (⊎_elim (λ h. omega arith) q);
}

pub recover_spares : (h : ℕ) (es : List Entry) → Go (Spares h) (recover_stores h es)
unfolding recover_stores clear_mark run
recover_spares h es = all_append (all_map (λ s r. inl r) (go_replay h es)) (more (inr refl) none)

-- a recovery torn before its last store leaves the mark
pub recover_marked : (l : List ℕ) (h : ℕ) (es : List Entry) (n v : ℕ) → 64 ≤ h → All Long es → n < 64 * length es → mark (apply (torn n v (recover_stores h es)) l) ≡ mark l
unfolding recover_stores
recover_marked l h es n v f a g =
    let e : torn n v (replay h es ++ clear_mark) ≡ torn n v (replay h es) = torn-first n v (replay h es) clear_mark (omega (arith, length-replay h a)) in
    rw e (kept (λ a. h ≤ a) l 10 (torn_go (λ a. h ≤ a) n v (go_replay h es)) (λ b. omega arith))

-- cut before it, the mark stands as it stood
pub recover_standing : (l : List ℕ) (h : ℕ) (es : List Entry) (n : ℕ) → 64 ≤ h → All Long es → n ≤ 64 * length es → mark (apply (take n (recover_stores h es)) l) ≡ mark l
unfolding recover_stores
recover_standing l h es n f a g =
    let e : take n (replay h es ++ clear_mark) ≡ take n (replay h es) = take-append-le n (replay h es) clear_mark (omega (arith, length-replay h a)) in
    rw e (kept (λ a. h ≤ a) l 10 (all_take n (go_replay h es)) (λ b. omega arith))

-- torn at its last store, it has that value for the mark; whole, 0
pub recover_last : (l : List ℕ) (h : ℕ) (es : List Entry) (n v : ℕ) → n ≡ 64 * length es → All Long es → apply (torn n v (recover_stores h es)) l ≡ set (apply (recover_stores h es) l) 10 v
unfolding recover_stores clear_mark
recover_last l h es n v e a = torn_last n v 10 0 (replay h es) l (omega (arith, length-replay h a))

pub recover_zero : (l : List ℕ) (h : ℕ) (es : List Entry) → set (apply (recover_stores h es) l) 10 0 ≡ apply (recover_stores h es) l
unfolding recover_stores clear_mark
recover_zero l h es = last_same 10 0 (replay h es) l

-- whatever stands in the mark before it is of no effect
pub recover_any : (l : List ℕ) (h : ℕ) (es : List Entry) (v : ℕ) → apply (recover_stores h es) (set l 10 v) ≡ apply (recover_stores h es) l
unfolding recover_stores clear_mark
recover_any l h es v = marked_before 10 0 v (replay h es) l
