-- What the code that closes gaps knows at its places.
use Rattle.std.specs.Prelude.{◌≡◌, List, ℕ, suc, ◌+◌, ◌*◌, ◌≤◌, ◌<◌, ◌-◌, length, take, drop}
use Rattle.std.proofs.Common.{sym, ap, ◌∙◌, subst, ap₂, arith, add-one, take-append-drop}
use Rattle.layout.specs.Capacities.{cells}
use Rattle.home.specs.Bytes.{cell_at, first_at, many_at, decode}
use Rattle.home.specs.Sound.{pages_of}
use Rattle.moves.specs.Moves.{Movable, zoned, moved}
use Rattle.moves.specs.Stored.{end_after}
use Rattle.layout.specs.Zones.{Zone}
use Rattle.home.specs.EndLaws.{zone-fits}
use Rattle.home.specs.Layout.{Fit}
use Rattle.home.specs.AreaLaws.{fit_le}
use Rattle.home.specs.EncodeLaws.{length_loose, decode_loose, pages_loose}
use Rattle.moves.specs.LooseLaws.{zone-at, fit_above}
use Rattle.moves.specs.Close.{Open, low_bytes, low_end, closed_bytes}
use Rattle.moves.specs.CloseLaws.{Turned, zone-turned, zone-low, Closed, zone-closed, all_closed}

pub end_small : (f n k : ℕ) → f < 65536 → n < 65536 → k ≤ 990 → f + n * k < 4294967296
end_small f n k a b c = omega (arith, zone-fits n k b c)

-- ---- zone c is lowered: h₀ are the bytes at first, h those now

pub record Lowering (step : ℕ) (h₀ h : List ℕ) (c e f n k : ℕ) : Type 0 where
  pub is : Open step (pages_of h) h (decode h) c e
  pub under : c < 30
  pub first : f ≡ first_at h c
  pub many : n ≡ many_at h c
  pub some : n ≡ 0 → ⊥
  pub size : k ≡ cells step c
  pub low : low_bytes step (pages_of h) (decode h) c e ≡ low_bytes step (pages_of h₀) (decode h₀) c e
  pub end : low_end step (decode h) c e ≡ low_end step (decode h₀) c e

pub open_small : (step R : ℕ) (h : List ℕ) (zs : List Zone) (c e : ℕ) → Open step R h zs c e → e ≤ 8192
open_small step R h zs c e o =
    let k : Fit step (8 * R) (length (take c zs)) (end_after step 0 0 (take c zs)) (drop c zs) =
    fit_above step (8 * R) 0 0 (length (take c zs)) (take c zs) (drop c zs) (omega arith) (subst (Fit step (8 * R) 0 0) (sym (take-append-drop c zs)) o.loose.fit) in
    omega (arith, o.pages, o.end, fit_le step (8 * R) (length (take c zs)) (end_after step 0 0 (take c zs)) (drop c zs) k)

pub open_long : (step R : ℕ) (h : List ℕ) (zs : List Zone) (c e : ℕ) → Open step R h zs c e → length h ≡ 1664 + 64 * R
open_long step R h zs c e o = ap length o.bytes ∙ length_loose step R zs o.loose

-- an open layout is the one that its bytes hold
pub open_decoded : (step R : ℕ) (h : List ℕ) (zs : List Zone) (c e : ℕ) → Open step R h zs c e → (pages_of h ≡ R) × (decode h ≡ zs)
open_decoded step R h zs c e o = (ap pages_of o.bytes ∙ pages_loose step R zs o.loose, ap decode o.bytes ∙ decode_loose step R o.pages zs o.loose)

module _ (step : ℕ) (h₀ h : List ℕ) (c e f n k : ℕ) (l : Lowering step h₀ h c e f n k) where
  turn : e + k ≤ f → Turned step (pages_of h) h (decode h) c e f n
  turn b =
      let b' : e + cells step c ≤ first_at h c = rw (l.size, l.first) at b in
      subst (λ (x : ℕ). Turned step (pages_of h) h (decode h) c e x n) (sym l.first)
      (subst (λ (x : ℕ). Turned step (pages_of h) h (decode h) c e (first_at h c) x) (sym l.many)
      (zone-turned step (pages_of h) h (decode h) c e l.is l.under (λ q. l.some (l.many ∙ q)) b'))

  pub lower_requires : e + k ≤ f → ((c < 30) × (cell_at (f - k + n * k) + 8 * cells step c ≤ length h) × (cell_at (f - k) + 8 * cells step c ≤ length h))
      × Movable h (f - k + n * k)
  lower_requires b =
      let t : Turned step (pages_of h) h (decode h) c e f n = turn b in
      rw l.size ((l.under, t.old, t.new), t.movable)

  pub lower-next : e + k ≤ f → Lowering step h₀ (zoned (moved step h c (f - k + n * k) (f - k)) c (f - k) n) c e (f - k) n k
  lower-next b = let t : Turned step (pages_of h) h (decode h) c e f n = turn b in
      subst (λ (j : ℕ). Lowering step h₀ (zoned (moved step h c (f - j + n * j) (f - j)) c (f - j) n) c e (f - j) n k) (sym l.size) (next t)
    where
      next : (t : Turned step (pages_of h) h (decode h) c e f n) → Lowering step h₀ (zoned (moved step h c (f - cells step c + n * cells step c) (f - cells step c)) c (f - cells step c) n) c e (f - cells step c) n k
      next t =
          let h' : List ℕ = zoned (moved step h c (f - cells step c + n * cells step c) (f - cells step c)) c (f - cells step c) n in
          let d = open_decoded step (pages_of h) h' t.layout c e t.after in
          let r = zone-at step (pages_of h) t.after.pages t.layout t.after.loose c l.under in
          record {
            is = subst (λ (R : ℕ). Open step R h' (decode h') c e) (sym d.0) (subst (λ (zs : List Zone). Open step (pages_of h) h' zs c e) (sym d.1) t.after);
            under = l.under;
            first = sym (ap (λ (x : List ℕ). first_at x c) t.after.bytes ∙ r.0 ∙ t.first);
            many = sym (ap (λ (x : List ℕ). many_at x c) t.after.bytes ∙ r.1 ∙ t.many);
            some = l.some;
            size = l.size;
            low = ap₂ (λ (R : ℕ) (zs : List Zone). low_bytes step R zs c e) d.0 d.1 ∙ t.low ∙ l.low;
            end = ap (λ (zs : List Zone). low_end step zs c e) d.1 ∙ t.end ∙ l.end;
          }

  pub lower_done : f < e + k → (f + n * k ≡ low_end step (decode h₀) c e) × (h ≡ low_bytes step (pages_of h₀) (decode h₀) c e)
  lower_done b =
      let b' : first_at h c < e + cells step c = rw (l.size, l.first) at b in
      let p = zone-low step (pages_of h) h (decode h) c e l.is l.under (λ q. l.some (l.many ∙ q)) b' in
      (rw (l.size, l.first, l.many) (p.1 ∙ l.end), p.0 ∙ l.low)

-- ---- gaps are closed from zone c₀ up: zones below c are done, and end at e

pub record Closing (step : ℕ) (h₀ h : List ℕ) (c₀ e₀ c e : ℕ) : Type 0 where
  pub is : Open step (pages_of h) h (decode h) c e
  pub same : closed_bytes step (pages_of h) (decode h) c e ≡ closed_bytes step (pages_of h₀) (decode h₀) c₀ e₀

pub close-next : (step : ℕ) (h₀ h h' : List ℕ) (c₀ e₀ c e e' : ℕ) → Closing step h₀ h c₀ e₀ c e → c < 30 → e' ≡ low_end step (decode h) c e → h' ≡ low_bytes step (pages_of h) (decode h) c e → Closing step h₀ h' c₀ e₀ (c + 1) e'
close-next step h₀ h h' c₀ e₀ c e e' k g p q = rw (add-one, p, q) (next (zone-closed step (pages_of h) h (decode h) c e k.is g))
  where
    next : Closed step (pages_of h) (decode h) c e → Closing step h₀ (low_bytes step (pages_of h) (decode h) c e) c₀ e₀ (suc c) (low_end step (decode h) c e)
    next t =
        let b : List ℕ = low_bytes step (pages_of h) (decode h) c e in
        let n : ℕ = low_end step (decode h) c e in
        let d = open_decoded step (pages_of h) b t.layout (suc c) n t.after in
        record {
          is = subst (λ (R : ℕ). Open step R b (decode b) (suc c) n) (sym d.0) (subst (λ (zs : List Zone). Open step (pages_of h) b zs (suc c) n) (sym d.1) t.after);
          same = ap₂ (λ (R : ℕ) (zs : List Zone). closed_bytes step R zs (suc c) n) d.0 d.1 ∙ t.same ∙ k.same;
        }

pub close_done : (step : ℕ) (h₀ h : List ℕ) (c₀ e₀ c e : ℕ) → Closing step h₀ h c₀ e₀ c e → 30 ≤ c → h ≡ closed_bytes step (pages_of h₀) (decode h₀) c₀ e₀
close_done step h₀ h c₀ e₀ c e k g = all_closed step (pages_of h) h (decode h) c e k.is g ∙ k.same
