-- A layout taken apart at one of its zones: the zones ls below it, the zone z, and those hs above it.
use Rattle.std.specs.Prelude.{◌≡◌, refl, List, [], ◌∷◌, ◌++◌, ℕ, zero, suc, ◌+◌, ◌<◌, length, take, drop, get_or}
use Rattle.std.proofs.Common.{sym, ap, ap₂, ◌∙◌, append_assoc, arith, length-append, take_at, drop_at}
use Rattle.layout.specs.Capacities.{cells}
use Rattle.layout.specs.Zones.{Zone, empty, end_of}
use Rattle.moves.specs.Stored.{end_after}

pub at-zone : (zs : List Zone) (c : ℕ) → c < length zs → (P : List Zone → ℕ → Type 0) → ((ls : List Zone) (z : Zone) (hs : List Zone) → P (ls ++ z ∷ hs) (length ls)) → P zs c
at-zone [] c g P f = absurd (omega arith)
at-zone (z ∷ zs) zero g P f = f [] z zs
at-zone (z ∷ zs) (suc c) g P f = at-zone zs c (omega arith) (λ (l : List Zone) (k : ℕ). P (z ∷ l) (suc k)) (λ ls y hs. f (z ∷ ls) y hs)

module _ (ls : List Zone) (z : Zone) (hs : List Zone) where
  pub take_here : take (length ls) (ls ++ z ∷ hs) ≡ ls
  take_here = take_at ls (z ∷ hs) (length ls) refl

  pub drop_here : drop (length ls) (ls ++ z ∷ hs) ≡ z ∷ hs
  drop_here = drop_at ls (z ∷ hs) (length ls) refl

  pub joined : (ls ++ z ∷ []) ++ hs ≡ ls ++ z ∷ hs
  joined = append_assoc ls (z ∷ []) hs

  pub long_next : length (ls ++ z ∷ []) ≡ suc (length ls)
  long_next = length-append ls (z ∷ []) ∙ omega arith

  pub take_next : take (suc (length ls)) (ls ++ z ∷ hs) ≡ ls ++ z ∷ []
  take_next = ap (take (suc (length ls))) (sym joined) ∙ take_at (ls ++ z ∷ []) hs (suc (length ls)) long_next

  pub drop-next : drop (suc (length ls)) (ls ++ z ∷ hs) ≡ hs
  drop-next = ap (drop (suc (length ls))) (sym joined) ∙ drop_at (ls ++ z ∷ []) hs (suc (length ls)) long_next

pub zone_here : (ls : List Zone) (z : Zone) (hs : List Zone) → get_or (ls ++ z ∷ hs) (length ls) empty ≡ z
zone_here [] z hs = refl
zone_here (y ∷ ls) z hs = zone_here ls z hs

pub end_next : (step c e k : ℕ) (ls : List Zone) (z : Zone) → k ≡ c + length ls → end_after step c e (ls ++ z ∷ []) ≡ end_of (cells step) k (end_after step c e ls) z
unfolding end_after
end_next step c e k [] z q = let p : c ≡ k = omega arith in ap (λ (d : ℕ). end_of (cells step) d e z) p
end_next step c e k (y ∷ ls) z q = end_next step (suc c) (end_of (cells step) c e y) k ls z (omega arith)

pub end_of_lem : (step : ℕ) (zs : List Zone) (c : ℕ) → c < length zs → end_after step 0 0 (take (suc c) zs) ≡ end_of (cells step) c (end_after step 0 0 (take c zs)) (get_or zs c empty)
end_of_lem step zs c g =
    at-zone zs c g (λ (l : List Zone) (k : ℕ). end_after step 0 0 (take (suc k) l) ≡ end_of (cells step) k (end_after step 0 0 (take k l)) (get_or l k empty))
    (λ ls z hs. ap (end_after step 0 0) (take_next ls z hs) ∙ end_next step 0 0 (length ls) ls z (omega arith)
    ∙ sym (ap₂ (λ (l : List Zone) (y : Zone). end_of (cells step) (length ls) (end_after step 0 0 l) y) (take_here ls z hs) (zone_here ls z hs)))
