-- Rows with one arc more.
use Rattle.std.proofs.Common.{◌≡◌, ℕ, zero, suc, ◌+◌, ◌-◌, ◌≤◌, cond, eqb, ltb, ◌⊎◌, List, [], ◌∷◌, length, replicate, Some, None, sym, refl, ap, ◌∙◌, subst, inl, inr, arith, length-set, get_or-set_other, get_or-set_same}
use mathlib.Core.List.Memᴰ
use Rattle.std.proofs.lemmas.Bool.{cases_eq, ne_eqb, cond-false}
use Rattle.treebank.specs.declared.arcs.Arc.{Arc}
use Rattle.treebank.specs.declared.rows.Row.{Row}
use Rattle.treebank.specs.Tables.{row, arc, row_at, row_arc, arc_into, arcs_from, table_arcs}
use Rattle.treebank.specs.Trees.{◌∈◌, SameArcs, Fresh}
use Rattle.treebank.proofs.Said.{table_mem, into_row}
use Rattle.arc_store.specs.Drawing.{bare, put}

module _ (w : List Row) (a : Arc) where
  pub put_length : length (put w a) ≡ length w
  put_length = length-set w (a.word - 1) (row a.head a.label)

  module _ (lo : 1 ≤ a.word) (hi : a.word ≤ length w) (headed : a.head ≡ 255 → ⊥) where
    -- the arc itself is read back
    put_same : arc_into (put w a) a.word ≡ Some a
    put_same =
        into_row (put w a) a.word lo (omega (arith, put_length))
        ∙ ap (row_arc a.word) (get_or-set_same w (a.word - 1) (row a.head a.label) (row 0 0) (omega arith))
        ∙ cond-false (eqb a.head 255) None (Some (arc a.head a.label a.word)) (ne_eqb a.head 255 headed)

    -- and every other word's arc as it was
    put_other : (d : ℕ) → (d ≡ a.word → ⊥) → arc_into (put w a) d ≡ arc_into w d
    put_other d other = at (cases_eq d 0)
      where
        same_row : (d ≡ 0 → ⊥) → row_at (put w a) (d - 1) ≡ row_at w (d - 1)
        same_row n = get_or-set_other w (a.word - 1) (d - 1) (row a.head a.label) (row 0 0) (λ e. omega (arith, n, other))

        at : (d ≡ 0) ⊎ (d ≡ 0 → ⊥) → arc_into (put w a) d ≡ arc_into w d
        at (inl e) = subst (λ (x : ℕ). arc_into (put w a) x ≡ arc_into w x) (sym e) refl
        at (inr n) =
            ap (λ (r : Row). cond (eqb d 0) None (cond (ltb (length (put w a)) d) None (row_arc d r))) (same_row n)
            ∙ ap (λ (k : ℕ). cond (eqb d 0) None (cond (ltb k d) None (row_arc d (row_at w (d - 1))))) put_length

    put_arcs : ((b : Arc) → b ∈ table_arcs w → b.word ≡ a.word → ⊥) → SameArcs (table_arcs (put w a)) (a ∷ table_arcs w)
    put_arcs free b = (out, λ m. into (Memᴰ.cases_cons m))
      where
        out : b ∈ table_arcs (put w a) → b ∈ (a ∷ table_arcs w)
        out m = at (cases_eq b.word a.word)
          where
            e : arc_into (put w a) b.word ≡ Some b
            e = (table_mem (put w a) b).0 m

            at : (b.word ≡ a.word) ⊎ (b.word ≡ a.word → ⊥) → b ∈ (a ∷ table_arcs w)
            at (inl f) = Memᴰ.head (let i : Some a ≡ Some b = sym put_same ∙ ap (arc_into (put w a)) (sym f) ∙ e in cc)
            at (inr n) = Memᴰ.tail ((table_mem w b).1 (sym (put_other b.word n) ∙ e))

        into : (b ≡ a) ⊎ (b ∈ table_arcs w) → b ∈ table_arcs (put w a)
        into (inl f) = subst (λ (x : Arc). x ∈ table_arcs (put w a)) (sym f) ((table_mem (put w a) a).1 put_same)
        into (inr m) = (table_mem (put w a) b).1 (put_other b.word (free b m) ∙ (table_mem w b).0 m)

-- a fresh arc joins the others
pub put_fresh : (w : List Row) (a : Arc) → length w ≤ 100 → Fresh (length w) (table_arcs w) a → SameArcs (table_arcs (put w a)) (a ∷ table_arcs w)
put_fresh w a small f =
    let (lo, hi) = f.joins.word in
    let up = f.joins.head in
    put_arcs w a lo hi (λ e. omega arith) f.headless

-- no row says an arc
pub none_drawn : (d n : ℕ) → arcs_from d (replicate n bare) ≡ []
none_drawn d zero = refl
none_drawn d (suc n) = none_drawn (d + 1) n
