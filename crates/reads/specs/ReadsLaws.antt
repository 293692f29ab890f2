-- A tag's list read from its bytes, and the answers of a read by the gate.
use Rattle.std.specs.Prelude.{◌≡◌, true, ℕ, ◌+◌, ◌*◌, List, [], length, Ok, Err}
use Rattle.std.proofs.Common.{sym, ap, ◌∙◌, arith}
use Rattle.std.proofs.Math.Option.{none, some}
use Rattle.refusals.specs.declared.Refusal.{Refusal}
use Rattle.refusals.specs.Rules.{refusal}
use Rattle.refusals.specs.RulesLaws.{first-refused, first_passed}
use Rattle.records.specs.Records.{rising, below, encode, decode}
use Rattle.records.specs.Edits.{decode-encode}
use Rattle.layout.specs.Capacities.{cells, class_of}
use Rattle.layout.specs.CapacitiesLaws.{rising as rises}
use Rattle.layout.specs.Valid.{Proper}
use Rattle.layout.proofs.EditsLaws.{valid-listed}
use Rattle.home.specs.Bytes.{step_of, decode as zones_in}
use Rattle.home.specs.HomeLaws.{all_mem}
use Rattle.home.specs.Lookup.{offset_of}
use Rattle.home.specs.Sound.{pages_of, sound, list_of}
use Rattle.home.specs.SoundLaws.{sound-valid}
use Rattle.gates.specs.declared.Of.{Of}
use Rattle.gates.specs.Gates.{gate_rules, home_in, home_from}
use Rattle.gates.specs.GatesLaws.{home_fine}
use Rattle.reads.specs.Reads.{list_in, count_in, rank_in, show_in, show_from}

-- ---- lists

-- lists of a sound home are rising and their values fit
pub sound-listed : (h : List ℕ) (t : ℕ) → sound h ≡ true → Proper (list_of h t)
unfolding list_of
sound-listed h t e = valid-listed (cells (step_of h)) (class_of (step_of h)) (rises (step_of h)) (8 * pages_of h) t (zones_in h) (sound-valid h e)

pub list_reads : (h : List ℕ) (t : ℕ) (bs : List ℕ) → sound h ≡ true → bs ≡ encode (list_of h t) → decode bs ≡ list_of h t
list_reads h t bs e f = ap decode f ∙ decode-encode (list_of h t) (all_mem (list_of h t) (sound-listed h t e).fits)

pub list_rises : (h : List ℕ) (t : ℕ) (bs : List ℕ) → sound h ≡ true → bs ≡ encode (list_of h t) → rising (decode bs) ≡ true
list_rises h t bs e f = ap rising (list_reads h t bs e f) ∙ (sound-listed h t e).rising

-- ---- answers

module _ (of : Of) (bs : List ℕ) (t : ℕ) where
  module _ (passed : refusal (gate_rules of bs) ≡ none) where
    pub count_open : count_in of bs t ≡ Ok (length (list_in of bs t))
    unfolding count_in
    count_open = first_passed Err (gate_rules of bs) (Ok (length (list_in of bs t))) passed

    pub rank_open : (k : ℕ) → rank_in of bs t k ≡ Ok (below k (list_in of bs t))
    unfolding rank_in
    rank_open k = first_passed Err (gate_rules of bs) (Ok (below k (list_in of bs t))) passed

    pub show_open : show_in of bs t ≡ encode (list_in of bs t)
    unfolding show_in
    show_open = first_passed (λ n. []) (gate_rules of bs) (encode (list_in of bs t)) passed

    pub show_from_lem : show_from of bs t ≡ home_from of bs + offset_of (home_in of bs) t
    unfolding show_from
    show_from_lem = first_passed (λ n. 0) (gate_rules of bs) (home_from of bs + offset_of (home_in of bs) t) passed

  module _ (r : Refusal) (no : refusal (gate_rules of bs) ≡ some r) where
    pub count-refused : count_in of bs t ≡ Err r
    unfolding count_in
    count-refused = first-refused Err (gate_rules of bs) r (Ok (length (list_in of bs t))) no

    pub rank-refused : (k : ℕ) → rank_in of bs t k ≡ Err r
    unfolding rank_in
    rank-refused k = first-refused Err (gate_rules of bs) r (Ok (below k (list_in of bs t))) no

    pub show_refused : show_in of bs t ≡ []
    unfolding show_in
    show_refused = first-refused (λ n. []) (gate_rules of bs) r (encode (list_in of bs t)) no

    pub show_nowhere : show_from of bs t ≡ 0
    unfolding show_from
    show_nowhere = first-refused (λ n. 0) (gate_rules of bs) r (home_from of bs + offset_of (home_in of bs) t) no

-- of home h as it is handed out, which begins at q where the lent bytes begin at o
module _ (of : Of) (bs : List ℕ) (t : ℕ) (passed : refusal (gate_rules of bs) ≡ none) (h : List ℕ) (same : h ≡ home_in of bs) where
  pub counted_is : (n : ℕ) → n ≡ length (list_of h t) → Ok n ≡ count_in of bs t
  counted_is n e = ap Ok (e ∙ ap (λ (x : List ℕ). length (list_of x t)) same) ∙ sym (count_open of bs t passed)

  pub ranked_is : (k n : ℕ) (xs : List ℕ) → xs ≡ encode (list_of h t) → n ≡ below k (decode xs) → Ok n ≡ rank_in of bs t k
  ranked_is k n xs f e =
      ap Ok (e ∙ ap (below k) (list_reads h t xs (ap sound same ∙ home_fine of bs passed) f) ∙ ap (λ (x : List ℕ). below k (list_of x t)) same)
      ∙ sym (rank_open of bs t passed k)

  pub shown_is : (xs : List ℕ) (r q o : ℕ) → q ≡ o + home_from of bs → xs ≡ encode (list_of h t) → r ≡ q + offset_of h t → (xs ≡ show_in of bs t) × (r ≡ o + show_from of bs t)
  shown_is xs r q o f e g = (
    e ∙ ap (λ (x : List ℕ). encode (list_of x t)) same ∙ sym (show_open of bs t passed),
    omega (arith, show_from_lem of bs t passed, ap (λ (x : List ℕ). offset_of x t) same),
  )
