-- The test of a table, and what a good table's arcs are.
use Rattle.std.proofs.Common.{◌≡◌, ℕ, zero, suc, ◌-◌, ◌≤◌, Bool, true, false, cond, ◌&&◌, eqb, leb, ◌⊎◌, ◌↔◌, List, [], ◌∷◌, length, Some, None, sym, refl, ap, ◌∙◌, subst, inl, inr, arith}
use Rattle.std.proofs.lemmas.Bool.{eqb-true, eqb-false, eq-eqb, ne_eqb, leb-true, le-leb, and_parts, and_from, or_cases, or_left, or_right, cond-false}
use Rattle.treebank.specs.declared.arcs.Arc.{Arc}
use Rattle.treebank.specs.declared.rows.Row.{Row}
use Rattle.treebank.specs.Moves.{Label}
use Rattle.treebank.specs.Tables.{arc, Headless, GoodRow, AllRows, GoodTable, is_good_row, are_good_rows, is_good_table, row_at, row_arc, table_arcs}
use Rattle.treebank.specs.Trees.{◌∈◌, Heads, Joins}
use Rattle.treebank.proofs.Said.{into_row, into_mem, mem_into, table_words}

row_true : (n : ℕ) (r : Row) → is_good_row n r ≡ true → GoodRow n r
row_true n r e = at (or_cases (eqb r.head 255 && eqb r.label 0) (leb r.head n && (leb 1 r.label && leb r.label 200)) e)
  where
    at : ((eqb r.head 255 && eqb r.label 0) ≡ true) ⊎ ((leb r.head n && (leb 1 r.label && leb r.label 200)) ≡ true) → GoodRow n r
    at (inl t) = let (p, q) = and_parts _ _ t in inl (eqb-true _ _ p, eqb-true _ _ q)
    at (inr t) = let (p, q) = and_parts _ _ t in let (x, y) = and_parts _ _ q in inr (leb-true _ _ p, (leb-true _ _ x, leb-true _ _ y))

true_row : (n : ℕ) (r : Row) → GoodRow n r → is_good_row n r ≡ true
true_row n r (inl (p, q)) = or_left _ _ (and_from _ _ (eq-eqb _ _ p) (eq-eqb _ _ q))
true_row n r (inr (p, (x, y))) = or_right (eqb r.head 255 && eqb r.label 0) _ (and_from _ _ (le-leb _ _ p) (and_from _ _ (le-leb _ _ x) (le-leb _ _ y)))

rows_true : (n : ℕ) (w : List Row) → are_good_rows n w ≡ true → AllRows (GoodRow n) w
rows_true n [] e k l = absurd (omega arith)
rows_true n (r ∷ w) e zero l = row_true n r (and_parts (is_good_row n r) (are_good_rows n w) e).0
rows_true n (r ∷ w) e (suc k) l = rows_true n w (and_parts (is_good_row n r) (are_good_rows n w) e).1 k (omega arith)

true_rows : (n : ℕ) (w : List Row) → AllRows (GoodRow n) w → are_good_rows n w ≡ true
true_rows n [] h = refl
true_rows n (r ∷ w) h = and_from (is_good_row n r) (are_good_rows n w) (true_row n r (h zero (omega arith))) (true_rows n w (λ k l. h (suc k) (omega arith)))

-- the test tells exactly the good tables
pub good_exact : (n : ℕ) (w : List Row) → (is_good_table n w ≡ true) ↔ GoodTable n w
good_exact n w = (
  λ e. let (p, q) = and_parts (eqb (length w) n) (are_good_rows n w) e in record { rows = eqb-true _ _ p; good = rows_true n w q },
  λ g. and_from (eqb (length w) n) (are_good_rows n w) (eq-eqb _ _ g.rows) (true_rows n w g.good),
)

pub not_good : (n : ℕ) (w : List Row) → (GoodTable n w → ⊥) → is_good_table n w ≡ false
not_good n w f = at (is_good_table n w) refl
  where
    at : (b : Bool) → is_good_table n w ≡ b → b ≡ false
    at true e = absurd (f ((good_exact n w).0 e))
    at false e = refl

-- an answer to whether the table is good is the test's
pub told_good : (n : ℕ) (w : List Row) (b : Bool) → (b ≡ true) ↔ GoodTable n w → b ≡ is_good_table n w
told_good n w true h = sym ((good_exact n w).1 (h.0 refl))
told_good n w false h = sym (not_good n w (λ g. let z = h.1 g in cc))

module _ (n : ℕ) (w : List Row) (good : GoodTable n w) (small : n ≤ 100) where
  -- the row of an arc
  arc_row : (a : Arc) → a ∈ table_arcs w → (row_arc a.word (row_at w (a.word - 1)) ≡ Some a) × GoodRow n (row_at w (a.word - 1))
  arc_row a m =
      let (lo, hi) = table_words w a m in
      (sym (into_row w a.word lo hi) ∙ mem_into w m, good.good (a.word - 1) (omega arith))

  -- the arcs of a good table join its nodes and have labels
  pub table_fits : (a : Arc) → a ∈ table_arcs w → Joins n a × Label a.label
  table_fits a m = let (e, g) = arc_row a m in at (eqb (row_at w (a.word - 1)).head 255) refl e g
    where
      at : (b : Bool) → eqb (row_at w (a.word - 1)).head 255 ≡ b → cond b None (Some (arc (row_at w (a.word - 1)).head (row_at w (a.word - 1)).label a.word)) ≡ Some a →
          GoodRow n (row_at w (a.word - 1)) → Joins n a × Label a.label
      at true t e g = cc
      at false t e (inl (p, q)) = absurd (eqb-false _ _ t p)
      at false t e (inr (p, q)) =
          let same : arc (row_at w (a.word - 1)).head (row_at w (a.word - 1)).label a.word ≡ a = cc in
          let words = table_words w a m in
          let len = good.rows in (
            record { word = (words.0, let hi = words.1 in omega arith); head = subst (λ (x : Arc). x.head ≤ n) same p },
            subst (λ (x : Arc). Label x.label) same q,
          )

  -- a word whose row has a head has an arc
  pub row_heads : (d : ℕ) → 1 ≤ d → d ≤ n → (Headless (row_at w (d - 1)) → ⊥) → (h : ℕ) × Heads (table_arcs w) h d
  row_heads d lo hi full = at (good.good (d - 1) (let len = good.rows in omega arith))
    where
      at : GoodRow n (row_at w (d - 1)) → (h : ℕ) × Heads (table_arcs w) h d
      at (inl p) = absurd (full p)
      at (inr (p, q)) =
          let r = row_at w (d - 1) in
          let len = good.rows in
          (r.head, (r.label, into_mem w d (arc r.head r.label d) (into_row w d lo (omega arith) ∙ cond-false (eqb r.head 255) None _ (ne_eqb r.head 255 (λ e. omega arith)))))

-- a word with an arc has a row with a head
pub heads_row : (w : List Row) {h d : ℕ} → Heads (table_arcs w) h d → Headless (row_at w (d - 1)) → ⊥
heads_row w {h} {d} (l, m) (p, q) =
    let (lo, hi) = table_words w (arc h l d) m in
    let e = sym (into_row w d lo hi) ∙ mem_into w m in
    let f : row_arc d (row_at w (d - 1)) ≡ None = ap (λ (b : Bool). cond b None (Some (arc (row_at w (d - 1)).head (row_at w (d - 1)).label d))) (eq-eqb _ _ p) in
    cc
