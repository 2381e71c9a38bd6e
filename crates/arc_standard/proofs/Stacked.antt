-- A stack with its top last, read with its top first.
use Rattle.std.proofs.Common.{◌≡◌, ℕ, ◌-◌, ◌≤◌, List, [], ◌∷◌, ◌++◌, reverse, length, take, sym, ap, ◌∙◌, arith}
use Rattle.std.proofs.lemmas.Grind.{reverse_onto}
use Rattle.std.proofs.lemmas.List.{length-take-le, reverse-append, reverse-reverse}
use Rattle.std.proofs.lemmas.List.Edits.{remove-append_right}
use Rattle.std.specs.List.{remove}

-- the second node i goes out from under the top j
pub second_out : (xs : List ℕ) (i j : ℕ) → 2 ≤ length xs → reverse xs ≡ j ∷ (i ∷ reverse (take (length xs - 2) xs)) → reverse (remove xs (length xs - 2)) ≡ j ∷ reverse (take (length xs - 2) xs)
second_out xs i j two e =
    let below = take (length xs - 2) xs in
    let long : length below ≡ length xs - 2 = length-take-le (length xs - 2) xs (omega arith) in
    let none : length xs - 2 - (length xs - 2) ≡ 0 = omega arith in
    let whole : xs ≡ below ++ i ∷ (j ∷ []) =
    sym (reverse-reverse xs) ∙ ap reverse e ∙ reverse_onto (reverse below) i (j ∷ []) ∙ ap (λ (l : List ℕ). l ++ i ∷ (j ∷ [])) (reverse-reverse below) in
    ap (λ (l : List ℕ). reverse (remove l (length xs - 2))) whole
    ∙ ap reverse (remove-append_right below (i ∷ (j ∷ [])) (length xs - 2) (length xs - 2) long (omega arith) ∙ ap (λ (k : ℕ). below ++ remove (i ∷ (j ∷ [])) k) none)
    ∙ reverse-append below (j ∷ [])
