-- Where a zone ends.
use Rattle.std.specs.Prelude.{◌≡◌, ◌≢◌, List, ℕ, ◌+◌, ◌*◌, ◌≤◌, ◌<◌}
use Rattle.std.proofs.Common.{sym, ◌∙◌, arith, mul-le-mul, eq-eqb, ne_eqb}
use Rattle.layout.specs.Capacities.{cells}
use Rattle.home.specs.Bytes.{first_at, many_at, end_at}

pub end_none : (step : ℕ) (h : List ℕ) (c e : ℕ) → many_at h c ≡ 0 → end_at step h c e ≡ e
unfolding end_at
end_none step h c e z = rw (eq-eqb (many_at h c) 0 z)

pub end_some : (step : ℕ) (h : List ℕ) (c e : ℕ) → many_at h c ≢ 0 → end_at step h c e ≡ first_at h c + many_at h c * cells step c
unfolding end_at
end_some step h c e z = rw (ne_eqb (many_at h c) 0 z)

-- as the code finds it
pub end_empty : (step : ℕ) (h : List ℕ) (c e n : ℕ) → n ≡ many_at h c → n ≡ 0 → e ≡ end_at step h c e
end_empty step h c e n m z = sym (end_none step h c e (sym m ∙ z))

pub end_full : (step : ℕ) (h : List ℕ) (c e f n k : ℕ) → f ≡ first_at h c → n ≡ many_at h c → k ≡ cells step c → n ≢ 0 → f + n * k ≡ end_at step h c e
end_full step h c e f n k a b d z = rw (a, b, d) (sym (end_some step h c e (λ q. z (b ∙ q))))

-- a number of 2 bytes times a block's size
pub zone-fits : (m s : ℕ) → m < 65536 → s ≤ 990 → m * s ≤ 64880640
zone-fits m s a b = mul-le-mul {n₁ = m} {m₁ = s} {n₂ = 65536} {m₂ = 990} (omega arith) b
