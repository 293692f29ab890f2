-- Home's bytes of any zone entries, dictionary and area, and what the moves make of them.
use Rattle.std.specs.Prelude.{◌≡◌, replicate}
use Rattle.std.proofs.Math.Path.{sym, ap, ap₂}
use Rattle.std.proofs.Common.{◌∙◌, subst, add-one}
use mathlib.Core.List.{List, ◌∷◌, ◌++◌}
use Prim.Native.Nat.{ℕ, suc, ◌+◌, ◌*◌, ◌-◌, ◌≤◌, ◌<◌}
use native.Mathlib.Omega.{arith}
use Rattle.std.proofs.Math.ListN.{length, length-append}
use Rattle.wire.specs.Bytes.{part, over, get16, get32, bytes16, bytes32}
use Rattle.wire.specs.BytesLaws.{length_part, length_over, length-bytes16}
use Rattle.wire.specs.All.{All, more, all_map}
use Rattle.layout.specs.Capacities.{cells}
use Rattle.home.specs.Bytes.{Entry, padded, cell_at}
use Rattle.layout.specs.Perm.{Pairs}
use Rattle.home.specs.DictionaryLaws.{Below}
use Rattle.home.specs.Lookup.{Ordered, index_of}
use Rattle.home.specs.LookupLaws.{rising-at}
use Rattle.home.specs.JoinLaws.{join, join-length, join-area, join-entry, join-zone, join-count, join-part, join_words, join_bears}
use Rattle.home.specs.HomeLaws.{length-padded}
use Rattle.home.specs.EncodeLaws.{state, Fine, state-tags, state-entries}
use Rattle.moves.specs.Moves.{carried, Movable, celled, entered, unentered, zoned, moved}
use Rattle.moves.specs.EntryLaws.{rank, rank-entries, rank-at, word, length-word, padded-celled, padded-entered, padded-unentered}

entered_at : (h : List ℕ) (t p n i : ℕ) → get16 h 0 ≡ n → index_of h t ≡ i
    → entered h t p ≡ over (over (over h (128 + 6 * i + 6) (part h (128 + 6 * i) (6 * (n - i)))) (128 + 6 * i) (bytes32 t ++ bytes16 p)) 0 (bytes16 (n + 1))
unfolding entered
entered_at h t p n i a b = rw (← a, ← b)

unentered-at : (h : List ℕ) (t n i : ℕ) → get16 h 0 ≡ n → index_of h t ≡ i
    → unentered h t ≡ over (over (over h (128 + 6 * i) (part h (128 + 6 * i + 6) (6 * (n - (i + 1))))) (128 + 6 * (n - 1)) (replicate 6 0)) 0 (bytes16 (n - 1))
unfolding unentered
unentered-at h t n i a b = rw (← a, ← b)

module _ (step : ℕ) (es a : List ℕ) (le : length es ≡ 120) (ds : List Entry) (ok : Fine ds) where
  pub state_index : (t : ℕ) → index_of (state step es ds a) t ≡ rank t ds
  state_index t = rank-entries (state step es ds a) t 0 (get16 (state step es ds a) 0) ∙ ap (rank t) (state-entries step es a le ds ok)

  pub state_ordered : Pairs Below ds → Ordered (state step es ds a)
  state_ordered r = record {
    few = omega (arith, state-tags step es a le ds ok, ok.few);
    long = omega (arith, join-length step (length ds) es (padded ds) a le (length-padded ds ok.few));
    rise = λ i j b c. rising-at (state step es ds a) 0 (get16 (state step es ds a) 0) i j (subst (Pairs Below) (sym (state-entries step es a le ds ok)) r) (omega arith) b (omega arith);
  }

  pub state-zoned : (c f k : ℕ) → c < 30 → zoned (state step es ds a) c f k ≡ state step (over es (4 * c) (bytes16 f ++ bytes16 k)) ds a
  unfolding zoned
  state-zoned c f k g = join-zone step (length ds) es (padded ds) a le (length-padded ds ok.few) (4 * c) (bytes16 f ++ bytes16 k)
      (rw length-append (omega (arith, length-bytes16 f, length-bytes16 k)))

  pub state-written : (p : ℕ) (bs : List ℕ) → over (state step es ds a) (cell_at p) bs ≡ state step es ds (over a (8 * p) bs)
  state-written p bs = join-area step (length ds) es (padded ds) a le (length-padded ds ok.few) (8 * p) bs

  pub state-carried : (p q n : ℕ) → carried (state step es ds a) (cell_at p) (cell_at q) n ≡ state step es ds (carried a (8 * p) (8 * q) n)
  unfolding carried
  state-carried p q n =
      ap (over (over (state step es ds a) (cell_at p) (replicate n 0)) (cell_at q)) (join-part step (length ds) es (padded ds) a le (length-padded ds ok.few) (8 * p) n)
      ∙ ap (λ (l : List ℕ). over l (cell_at q) (part a (8 * p) n)) (join-area step (length ds) es (padded ds) a le (length-padded ds ok.few) (8 * p) (replicate n 0))
      ∙ join-area step (length ds) es (padded ds) (over a (8 * p) (replicate n 0)) le (length-padded ds ok.few) (8 * q) (part a (8 * p) n)

  pub state_bears : (p : ℕ) → get32 (state step es ds a) (cell_at p) ≡ get32 a (8 * p)
  state_bears p = join_bears step (length ds) es (padded ds) a le (length-padded ds ok.few) (8 * p)

-- ---- one entry among lower and higher ones

module _ (step : ℕ) (es : List ℕ) (le : length es ≡ 120) (pre post : List Entry) where
  longer : (x : Entry) → length (pre ++ x ∷ post) ≡ suc (length (pre ++ post))
  longer x = simp length-append (omega arith)

  long : length (pre ++ post) ≡ length pre + length post
  long = length-append pre post

  state-celled : (a : List ℕ) (x x' : Entry) → x.tag ≡ x'.tag → Fine (pre ++ x ∷ post) → celled (state step es (pre ++ x ∷ post) a) (length pre) x'.cell ≡ state step es (pre ++ x' ∷ post) a
  unfolding celled
  state-celled a x x' q ok =
      let i : ℕ = length pre in
      let e : 128 + 6 * i + 4 ≡ 128 + (6 * i + 4) = omega arith in
      ap (λ (k : ℕ). over (state step es (pre ++ x ∷ post) a) k (bytes16 x'.cell)) e
      ∙ join-entry step (length (pre ++ x ∷ post)) es (padded (pre ++ x ∷ post)) a le (length-padded (pre ++ x ∷ post) ok.few) (6 * i + 4) (bytes16 x'.cell)
      (omega (arith, ok.few, longer x, long, length-bytes16 x'.cell))
      ∙ ap₂ (λ (k : ℕ) (l : List ℕ). join step k es l a) (longer x ∙ sym (longer x')) (padded-celled pre post x x' q)

  module _ (a : List ℕ) (t : ℕ) (low : All (λ (d : Entry). d.tag < t) pre) (high : All (λ (d : Entry). t < d.tag) post) where
    not-below : All (λ (d : Entry). t ≤ d.tag) post
    not-below = all_map {P = λ (d : Entry). t < d.tag} {Q = λ (d : Entry). t ≤ d.tag} (λ d k. omega arith) high

    rank-one : (x : Entry) → x.tag ≡ t → rank t (pre ++ x ∷ post) ≡ length pre
    rank-one x q = let b : t ≤ x.tag = omega arith in rank-at t pre (x ∷ post) low (more b not-below)

    pub state_movable : (x : Entry) (p : ℕ) → x.tag ≡ t → Fine (pre ++ x ∷ post) → Pairs Below (pre ++ x ∷ post) → get32 a (8 * p) ≡ t → Movable (state step es (pre ++ x ∷ post) a) p
    state_movable x p e ok r b =
        let ds : List Entry = pre ++ x ∷ post in
        let i : index_of (state step es ds a) (get32 (state step es ds a) (cell_at p)) ≡ length pre =
        ap (index_of (state step es ds a)) (state_bears step es a le ds ok p ∙ b) ∙ state_index step es a le ds ok t ∙ rank-one x e in
        record { ordered = state_ordered step es a le ds ok r; found = omega (arith, i, longer x, long, state-tags step es a le ds ok) }

    -- a block moved
    pub state-moved : (x : Entry) (c p q : ℕ) → x.tag ≡ t → Fine (pre ++ x ∷ post) → get32 a (8 * p) ≡ t
        → moved step (state step es (pre ++ x ∷ post) a) c p q ≡ state step es (pre ++ record { tag = t; cell = q } ∷ post) (carried a (8 * p) (8 * q) (8 * cells step c))
    unfolding moved
    state-moved x c p q e ok b =
        let ds : List Entry = pre ++ x ∷ post in
        let i : index_of (state step es ds a) (get32 (state step es ds a) (cell_at p)) ≡ length pre =
        ap (index_of (state step es ds a)) (state_bears step es a le ds ok p ∙ b) ∙ state_index step es a le ds ok t ∙ rank-one x e in
        ap₂ (λ (h : List ℕ) (k : ℕ). celled h k q) (state-carried step es a le ds ok p q (8 * cells step c)) i
        ∙ state-celled (carried a (8 * p) (8 * q) (8 * cells step c)) x (record { tag = t; cell = q }) e ok

    -- a tag entered
    pub state-entered : (p : ℕ) → Fine (pre ++ post) → length (pre ++ post) < 256 → entered (state step es (pre ++ post) a) t p ≡ state step es (pre ++ record { tag = t; cell = p } ∷ post) a
    state-entered p ok g =
        let x : Entry = record { tag = t; cell = p } in
        let ds : List Entry = pre ++ post in
        let n : ℕ = length ds in
        let i : ℕ = length pre in
        let l : length (padded ds) ≡ 1536 = length-padded ds ok.few in
        let k : ℕ = 6 * (n - i) in
        let e : 128 + 6 * i + 6 ≡ 128 + (6 * i + 6) = omega arith in
        let b : i + length post ≡ n = sym long in
        let v : List ℕ = part (padded ds) (6 * i) k in
        let lv : length v ≡ k = length_part (padded ds) (6 * i) k (omega arith) in
        let w : List ℕ = over (padded ds) (6 * i + 6) v in
        let lw : length w ≡ 1536 = length_over (padded ds) (6 * i + 6) v ∙ l in
        let y : List ℕ = over w (6 * i) (word x) in
        let ly : length y ≡ 1536 = length_over w (6 * i) (word x) ∙ lw in
        entered_at (state step es ds a) t p n i (state-tags step es a le ds ok) (state_index step es a le ds ok t ∙ rank-at t pre post low not-below)
        ∙ ap₂ (λ (j : ℕ) (u : List ℕ). over (over (over (state step es ds a) j u) (128 + 6 * i) (word x)) 0 (bytes16 (n + 1))) e (join_words step n es (padded ds) a le l (6 * i) k (omega arith))
        ∙ ap (λ (h : List ℕ). over (over h (128 + 6 * i) (word x)) 0 (bytes16 (n + 1))) (join-entry step n es (padded ds) a le l (6 * i + 6) v (omega arith))
        ∙ ap (λ (h : List ℕ). over h 0 (bytes16 (n + 1))) (join-entry step n es w a le lw (6 * i) (word x) (omega (arith, length-word x)))
        ∙ join-count step n es y a le ly (n + 1)
        ∙ ap₂ (λ (m : ℕ) (u : List ℕ). join step m es u a) (add-one n ∙ sym (longer x)) (padded-entered pre post x k (omega arith) (omega arith))

    -- a tag's entry taken out
    pub state-unentered : (x : Entry) → x.tag ≡ t → Fine (pre ++ x ∷ post) → unentered (state step es (pre ++ x ∷ post) a) t ≡ state step es (pre ++ post) a
    state-unentered x q ok =
        let ds : List Entry = pre ++ x ∷ post in
        let n : ℕ = length ds in
        let i : ℕ = length pre in
        let l : length (padded ds) ≡ 1536 = length-padded ds ok.few in
        let few : n ≤ 256 = ok.few in
        let k : ℕ = 6 * (n - (i + 1)) in
        let e : 128 + 6 * i + 6 ≡ 128 + (6 * i + 6) = omega arith in
        let b : suc (i + length post) ≡ n = sym (longer x ∙ ap suc long) in
        let v : List ℕ = part (padded ds) (6 * i + 6) k in
        let lv : length v ≡ k = length_part (padded ds) (6 * i + 6) k (omega arith) in
        let w : List ℕ = over (padded ds) (6 * i) v in
        let lw : length w ≡ 1536 = length_over (padded ds) (6 * i) v ∙ l in
        let y : List ℕ = over w (6 * (n - 1)) (replicate 6 0) in
        let ly : length y ≡ 1536 = length_over w (6 * (n - 1)) (replicate 6 0) ∙ lw in
        unentered-at (state step es ds a) t n i (state-tags step es a le ds ok) (state_index step es a le ds ok t ∙ rank-one x q)
        ∙ ap (λ (u : List ℕ). over (over (over (state step es ds a) (128 + 6 * i) u) (128 + 6 * (n - 1)) (replicate 6 0)) 0 (bytes16 (n - 1)))
        (ap (λ (j : ℕ). part (state step es ds a) j k) e ∙ join_words step n es (padded ds) a le l (6 * i + 6) k (omega arith))
        ∙ ap (λ (h : List ℕ). over (over h (128 + 6 * (n - 1)) (replicate 6 0)) 0 (bytes16 (n - 1))) (join-entry step n es (padded ds) a le l (6 * i) v (omega arith))
        ∙ ap (λ (h : List ℕ). over h 0 (bytes16 (n - 1))) (join-entry step n es w a le lw (6 * (n - 1)) (replicate 6 0) (omega arith))
        ∙ join-count step n es y a le ly (n - 1)
        ∙ ap₂ (λ (m : ℕ) (u : List ℕ). join step m es u a) (omega (arith, longer x)) (padded-unentered pre post x k (6 * (n - 1)) (omega arith) (omega arith) (omega arith))
