-- The pieces of a sheet behind its first line, five bytes each, the last perhaps shorter.
use Rattle.std.proofs.Common.{◌≡◌, ℕ, ◌+◌, ◌*◌, ◌<◌, ◌≤◌, min, List, [], ◌∷◌, ◌++◌, length, take, drop, leb, true, Some, None, sym, refl, ap, subst, ◌∙◌, inl, inr, append-nil, arith}
use Rattle.std.proofs.lemmas.List.{length-drop, length-append, drop-drop, drop_all, drop_at, take_all, take_at}
use Rattle.std.proofs.lemmas.Bool.{cases_lt}
use Rattle.std.proofs.lemmas.Bool.Decides.{nat_tests}
use Rattle.std.specs.Iterator.{Yields}
use Rattle.std.specs.Iterator.Adapters.{skip_source, skip_count, skip_steps, enumerate_source, enumerate_count, enumerate_steps}
use Rattle.std.specs.Slice.Iter.{chunks_rest, chunks_size, chunks_steps}
use denote.Ref.{Bor}
use Rattle.run_sheet.specs.Texts.{said}
use Rattle.run_sheet.specs.Says.{line_move, move_said}

-- a text says no other line than its first five bytes
pub said_front : (t : List ℕ) → said (take 5 t) ≡ said t
said_front [] = refl
said_front (a ∷ []) = refl
said_front (a ∷ b ∷ []) = refl
said_front (a ∷ b ∷ c ∷ []) = refl
said_front (a ∷ b ∷ c ∷ d ∷ []) = refl
said_front (a ∷ b ∷ c ∷ d ∷ e ∷ rest) =
    let long : leb 5 (length (a ∷ b ∷ c ∷ d ∷ e ∷ rest)) ≡ true = grind (arith, nat_tests) in
    let five : leb 5 (length (take 5 (a ∷ b ∷ c ∷ d ∷ e ∷ rest))) ≡ true = grind (arith, nat_tests) in
    cc

-- the piece at a place, and what is left behind it
pub record Piece (text : List ℕ) (p : ℕ) (x more : List ℕ) : Type 0 where
  pub is : x ≡ take 5 (drop p text)
  pub left : more ≡ drop (p + 5) text
  pub inside : p < length text

cut_at : (x more : List ℕ) → length x ≡ 5 → (x ≡ take 5 (x ++ more)) × (more ≡ drop 5 (x ++ more))
cut_at x more e = (sym (take_at x more 5 e), sym (drop_at x more 5 e))

cut_short : (x more : List ℕ) → length more ≡ 0 → length x < 5 → (x ≡ take 5 (x ++ more)) × (more ≡ drop 5 (x ++ more))
cut_short x [] e l =
    let whole : x ++ [] ≡ x = append-nil x in
    (sym (ap (take 5) whole ∙ take_all 5 x (omega arith)), sym (ap (drop 5) whole ∙ drop_all 5 x (omega arith)))
cut_short x (y ∷ more) e l = absurd (omega arith)

piece : (text : List ℕ) (p : ℕ) (rest x more : List ℕ) → rest ≡ drop p text → rest ≡ x ++ more → length x ≡ min 5 (length rest) → 0 < length rest → Piece text p x more
piece text p rest x more a b n some =
    let e : x ++ more ≡ drop p text = sym b ∙ a in
    let whole : length rest ≡ length x + length more = omega (arith, ap length b, length-append x more) in
    let cut : (x ≡ take 5 (x ++ more)) × (more ≡ drop 5 (x ++ more)) = elim (cases_lt (length rest) 5) [
      | inl l ↦ cut_short x more (omega arith) (omega arith)
      | inr l ↦ cut_at x more (omega arith)
    ] in
    record {
      is = cut.0 ∙ ap (take 5) e;
      left = cut.1 ∙ ap (drop 5) e ∙ drop-drop 5 p text;
      inside = omega (arith, ap length a, length-drop p text);
    }

pub said_piece : (text : List ℕ) (p : ℕ) (x more : List ℕ) → Piece text p x more → move_said x ≡ move_said (drop p text)
said_piece text p x more h = ap line_move (ap said h.is ∙ said_front (drop p text))

-- an iterator over the numbered pieces stands before the piece that its count numbers
abbrev pub At : List ℕ → ℕ → ℕ → List ℕ → Type 0
At text size count rest = (size ≡ 5) × (rest ≡ drop (5 * count) text)

-- one piece more
one_on : (text : List ℕ) (size size' count count' : ℕ) (rest x rest' : List ℕ) → At text size count rest → size' ≡ size → count' ≡ count + 1 →
    rest ≡ x ++ rest' → length x ≡ min size (length rest) → 0 < length rest → Piece text (5 * count) x rest' × At text size' count' rest'
one_on text size size' count count' rest x rest' (a, b) s n e l some =
    let p : Piece text (5 * count) x rest' = piece text (5 * count) rest x rest' b e (l ∙ ap (λ (k : ℕ). min k (length rest)) a) some in
    let next : 5 * count + 5 ≡ 5 * count' = omega arith in
    (p, (s ∙ a, p.left ∙ ap (λ (k : ℕ). drop k text) next))

-- the pieces that are passed over
passed_over : (text : List ℕ) (xs : List (ℕ × Bor (List ℕ))) (s t : _) → Yields (enumerate_steps (chunks_steps {A = ℕ})) s xs t →
    At text (chunks_size (enumerate_source s)) (enumerate_count s) (chunks_rest (enumerate_source s)) →
    At text (chunks_size (enumerate_source t)) (enumerate_count t) (chunks_rest (enumerate_source t)) × (enumerate_count t ≡ enumerate_count s + length xs)
passed_over text [] s t y a =
    (subst (λ z. At text (chunks_size (enumerate_source z)) (enumerate_count z) (chunks_rest (enumerate_source z))) y a, omega (arith, ap enumerate_count y))
passed_over text (x ∷ xs) s t (j, ((size, (e, l, some)), i, n, fits), y) a =
    let (p, b) = one_on text _ _ _ _ _ _ _ a size n e l some in
    let (c, m) = passed_over text xs j t y b in
    (c, omega arith)

-- what a call that skips the first pieces gives: the piece with the next number, or none where the text is at its end
module _ (text : List ℕ) (s t : _) where
  pub next_piece : (i : ℕ) (x : Bor (List ℕ)) → skip_steps (enumerate_steps (chunks_steps {A = ℕ})) s (Some (i, x)) t →
      At text (chunks_size (enumerate_source (skip_source s))) (enumerate_count (skip_source s)) (chunks_rest (enumerate_source (skip_source s))) →
      (i ≡ enumerate_count (skip_source s) + skip_count s)
      × Piece text (5 * i) x.now (chunks_rest (enumerate_source (skip_source t)))
      × At text (chunks_size (enumerate_source (skip_source t))) (enumerate_count (skip_source t)) (chunks_rest (enumerate_source (skip_source t)))
      × (enumerate_count (skip_source t) + skip_count t ≡ i + 1)
  next_piece i x (none, (xs, (u, y, ((size, (e, l, some)), is, n, fits)), len)) a =
      let (b, m) = passed_over text xs (skip_source s) u y a in
      let (p, c) = one_on text _ _ _ _ _ _ _ b size n e l some in
      (omega arith, subst (λ (k : ℕ). Piece text (5 * k) x.now (chunks_rest (enumerate_source (skip_source t)))) (sym is) p, c, omega arith)

  pub no_piece : skip_steps (enumerate_steps (chunks_steps {A = ℕ})) s None t →
      At text (chunks_size (enumerate_source (skip_source s))) (enumerate_count (skip_source s)) (chunks_rest (enumerate_source (skip_source s))) →
      length text ≤ 5 * (enumerate_count (skip_source s) + skip_count s)
  no_piece (none, (xs, (u, y, ((size, (e, same)), n)), len)) a =
      let (b, m) = passed_over text xs (skip_source s) u y a in
      omega (arith, ap length b.1, length-drop (5 * enumerate_count u) text)
