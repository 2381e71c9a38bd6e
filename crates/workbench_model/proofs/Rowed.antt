-- The rows of a configuration are a good table with exactly its arcs.
use Rattle.std.proofs.Common.{◌≡◌, ℕ, zero, suc, ◌+◌, ◌-◌, ◌≤◌, eqb, List, [], ◌∷◌, length, Some, None, Ok, Option, sym, refl, ap, ◌∙◌, subst, inl, inr, arith}
use mathlib.Core.List.Memᴰ
use Rattle.std.proofs.lemmas.List.{length_push, get_or_append_left, get_or_push}
use Rattle.std.proofs.lemmas.Bool.{cases_order, ne_eqb, cond-false}
use Rattle.treebank.specs.declared.arcs.Arc.{Arc}
use Rattle.treebank.specs.declared.moves.Move.{Move}
use Rattle.treebank.specs.declared.rows.Row.{Row}
use Rattle.treebank.specs.Moves.{Label, Proper, ProperLabel}
use Rattle.treebank.specs.Tables.{arc, row, row_of, row_at, row_arc, GoodRow, GoodTable, arc_into, table_arcs}
use Rattle.treebank.specs.Trees.{◌∈◌, SameArcs, Joins}
use Rattle.treebank.proofs.Said.{into_row}
use Rattle.transition.specs.Meaning.{Meaning}
use Rattle.transition.specs.Runs.{Arises}
use Rattle.transition.specs.Laws.{Laws, ArcInto}
use Rattle.transition.proofs.Running.{arises_keeps}
use Rattle.guidance.specs.Building.{Agrees}
use Rattle.guidance.proofs.Compared.{agrees_same}
use Rattle.workbench_model.specs.Rows.{config_rows}

-- the arcs join nodes of the sentence and have labels
abbrev Fits : (M : Meaning) → M.Config → Type 0
Fits M c = (a : Arc) → a ∈ M.arcs c → Joins (M.words c) a × Label a.label

module _ {M : Meaning} {start : ℕ → M.Config} (laws : Laws M start) where
  fits_next : (c : M.Config) (m : Move) (a : Option Arc) → Arises M start c → Proper m → M.verdict c m ≡ Ok a → Fits M c → Fits M (M.next c m)
  fits_next c m a h p v f b k = subst (λ (n : ℕ). Joins n b × Label b.label) (sym (laws.stepping m a h v)) (by a v)
    where
      by : (a : Option Arc) → M.verdict c m ≡ Ok a → Joins (M.words c) b × Label b.label
      by None v = f b (((laws.drawing m None h v).1 b).0 k)
      by (Some x) v =
          let (l, adds, fresh) = laws.drawing m (Some x) h v in
          let new : Joins (M.words c) x × Label x.label = (fresh.joins, subst ProperLabel l p) in
          elim (Memᴰ.cases_cons ((adds b).0 k)) [
            | inl e ↦ subst (λ (y : Arc). Joins (M.words c) y × Label y.label) (sym e) new
            | inr old ↦ f b old
          ]

  pub arcs_fit : {c : M.Config} → Arises M start c → Fits M c
  arcs_fit h = arises_keeps start (Fits M) fits_next (λ n k a m. absurd (Memᴰ.not-nil (subst (λ (xs : List Arc). a ∈ xs) (laws.beginning n k).bare m))) h

module _ (M : Meaning) (c : M.Config) where
  pub rows_length : (n : ℕ) → length (config_rows M c n) ≡ n
  rows_length zero = refl
  rows_length (suc n) = omega (arith, length_push (config_rows M c n) (row_of (M.arc_into c (suc n))), rows_length n)

  pub rows_at : (n d : ℕ) → 1 ≤ d → d ≤ n → row_at (config_rows M c n) (d - 1) ≡ row_of (M.arc_into c d)
  rows_at zero d lo hi = absurd (omega arith)
  rows_at (suc n) d lo hi =
      let last = row_of (M.arc_into c (suc n)) in
      let len = rows_length n in
      elim (cases_order d (suc n)) [
        | inl e ↦ get_or_push (config_rows M c n) last (row 0 0) (d - 1) (omega arith) ∙ ap (λ (x : ℕ). row_of (M.arc_into c x)) (sym e)
        | inr (inl l) ↦ get_or_append_left (config_rows M c n) (last ∷ []) (row 0 0) (d - 1) (omega arith) ∙ rows_at n d lo (omega arith)
        | inr (inr l) ↦ absurd (let z : ⊥ = omega arith in z)
      ]

module _ {M : Meaning} {start : ℕ → M.Config} (laws : Laws M start) (c : M.Config) (h : Arises M start c) (n : ℕ) (small : n ≤ 100) (words : M.words c ≡ n) where
  abbrev rows : List Row
  rows = config_rows M c n

  -- what is told of a word's arc
  told : (d : ℕ) (a : Arc) → M.arc_into c d ≡ Some a → (a.word ≡ d) × (a.head ≤ n) × Label a.label
  told d a e =
      let (m, i, lo, hi) = subst (ArcInto (M.words c) (M.arcs c) d) e (laws.questions d h) in
      let (joins, good) = arcs_fit laws h a m in
      (i, subst (λ (k : ℕ). a.head ≤ k) words joins.head, good)

  good_at : (d : ℕ) → GoodRow n (row_of (M.arc_into c d))
  good_at d = at (M.arc_into c d) refl
    where
      at : (o : Option Arc) → M.arc_into c d ≡ o → GoodRow n (row_of o)
      at None e = inl (refl, refl)
      at (Some a) e = let (i, head, good) = told d a e in inr (head, good)

  pub rows_good : GoodTable n rows
  rows_good = record {
    rows = rows_length M c n;
    good = λ k l.
        let len = rows_length M c n in
        let i : k ≡ k + 1 - 1 = omega arith in
        let e : row_at rows k ≡ row_of (M.arc_into c (k + 1)) = ap (row_at rows) i ∙ rows_at M c n (k + 1) (omega arith) (omega arith) in
        subst (GoodRow n) (sym e) (good_at (k + 1));
  }

  agree : Agrees M c n rows
  agree d lo hi = at (M.arc_into c d) refl
    where
      read : arc_into rows d ≡ row_arc d (row_of (M.arc_into c d))
      read = let len = rows_length M c n in into_row rows d lo (omega arith) ∙ ap (row_arc d) (rows_at M c n d lo hi)

      at : (o : Option Arc) → M.arc_into c d ≡ o → o ≡ arc_into rows d
      at None e = sym (read ∙ ap (λ (x : Option Arc). row_arc d (row_of x)) e)
      at (Some a) e =
          let (i, head, good) = told d a e in
          let same : arc a.head a.label d ≡ a = λ t. record { head = a.head; label = a.label; word = sym i t } in
          sym (read ∙ ap (λ (x : Option Arc). row_arc d (row_of x)) e
          ∙ cond-false (eqb a.head 255) None (Some (arc a.head a.label d)) (ne_eqb a.head 255 (λ f. omega arith))
          ∙ ap (λ (x : Arc). Some x) same)

  pub rows_same : SameArcs (M.arcs c) (table_arcs rows)
  rows_same = agrees_same laws c h rows (rows_length M c n ∙ sym words) (subst (λ (k : ℕ). Agrees M c k rows) (sym words) agree)
