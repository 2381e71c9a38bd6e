-- The rows that a store holds.
use Rattle.std.proofs.Common.{◌≡◌, ℕ, zero, suc, List, [], ◌∷◌, take, set, refl, ap}

-- the first of many rows, with one of them changed
pub take_changed : {A : Type 0} (n i : ℕ) (xs : List A) (x : A) → take n (set xs i x) ≡ set (take n xs) i x
take_changed zero i xs x = refl
take_changed (suc n) i [] x = refl
take_changed (suc n) zero (y ∷ xs) x = refl
take_changed (suc n) (suc i) (y ∷ xs) x = ap (λ (l : List _). y ∷ l) (take_changed n i xs x)
