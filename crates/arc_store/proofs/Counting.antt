-- Numbers that count on, as the words of a buffer do.
use Rattle.std.proofs.Common.{◌≡◌, ℕ, zero, suc, ◌+◌, ◌-◌, ◌≤◌, List, ◌∷◌, ap, ◌∙◌, arith}
use Rattle.std.specs.List.{range_with_len}

pub counting_next : (b k : ℕ) → 1 ≤ k → range_with_len b k ≡ b ∷ range_with_len (b + 1) (k - 1)
counting_next b zero l = absurd (omega arith)
counting_next b (suc k) l = let e : k ≡ suc k - 1 = omega arith in ap (λ (x : ℕ). b ∷ range_with_len (b + 1) x) e

-- the words from b up to n without the first of them
pub buffer_next : (n b : ℕ) → b ≤ n → range_with_len b (n + 1 - b) ≡ b ∷ range_with_len (b + 1) (n + 1 - (b + 1))
buffer_next n b l = counting_next b (n + 1 - b) (omega arith) ∙ (let e : n + 1 - b - 1 ≡ n + 1 - (b + 1) = omega arith in ap (λ (x : ℕ). b ∷ range_with_len (b + 1) x) e)

-- the first number is the one that is counted from
pub counts_from : (b k i : ℕ) (β : List ℕ) → i ∷ β ≡ range_with_len b k → (1 ≤ k) × (i ≡ b)
counts_from b zero i β e = absurd (let z : ◌≡◌ {A = ℕ} 0 1 = cc in omega arith)
counts_from b (suc k) i β e = (omega arith, let first : i ≡ b = cc in first)
