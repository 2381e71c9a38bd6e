-- Arcs compared word by word.
use Rattle.std.proofs.Common.{◌≡◌, ℕ, ◌≤◌, List, length, Some, None, Option, sym, refl, ap, ◌∙◌, subst, arith}
use Rattle.treebank.specs.declared.arcs.Arc.{Arc}
use Rattle.treebank.specs.declared.rows.Row.{Row}
use Rattle.treebank.specs.Tables.{arc_into, table_arcs}
use Rattle.treebank.specs.Trees.{◌∈◌, SameArcs}
use Rattle.treebank.proofs.Said.{table_mem, table_words, into_mem, mem_into, into_word}
use Rattle.transition.specs.Meaning.{Meaning}
use Rattle.transition.specs.Runs.{Arises}
use Rattle.transition.specs.Laws.{Laws, ArcInto}
use Rattle.transition.proofs.Forests.{arcs_forest}
use Rattle.guidance.specs.Building.{Agrees}

module _ {M : Meaning} {start : ℕ → M.Config} (laws : Laws M start) (c : M.Config) (h : Arises M start c) (w : List Row) (len : length w ≡ M.words c) where
  -- what is told of a word's arc is the arc
  told : (d : ℕ) (o : Option Arc) → M.arc_into c d ≡ o → ArcInto (M.words c) (M.arcs c) d o
  told d o e = subst (ArcInto (M.words c) (M.arcs c) d) e (laws.questions d h)

  found : (a : Arc) → a ∈ M.arcs c → M.arc_into c a.word ≡ Some a
  found a m = at (M.arc_into c a.word) refl
    where
      at : (o : Option Arc) → M.arc_into c a.word ≡ o → o ≡ Some a
      at None e = absurd (told a.word None e a m refl)
      at (Some b) e = let (k, f, lo, hi) = told a.word (Some b) e in ap (λ (x : Arc). Some x) ((arcs_forest laws h).single_headed b a k m f)

  inside : (a : Arc) → a ∈ M.arcs c → (1 ≤ a.word) × (a.word ≤ M.words c)
  inside a m = let (k, f, lo, hi) = told a.word (Some a) (found a m) in (lo, hi)

  pub agrees_same : Agrees M c (M.words c) w → SameArcs (M.arcs c) (table_arcs w)
  agrees_same agree a = (to, from)
    where
      to : a ∈ M.arcs c → a ∈ table_arcs w
      to m = let (lo, hi) = inside a m in (table_mem w a).1 (sym (agree a.word lo hi) ∙ found a m)

      from : a ∈ table_arcs w → a ∈ M.arcs c
      from m =
          let (lo, hi) = table_words w a m in
          let (k, f, l, u) = told a.word (Some a) (agree a.word lo (omega arith) ∙ (table_mem w a).0 m) in
          k

  pub same_agrees : SameArcs (M.arcs c) (table_arcs w) → Agrees M c (M.words c) w
  same_agrees same d lo hi = at (M.arc_into c d) refl (arc_into w d) refl
    where
      at : (o : Option Arc) → M.arc_into c d ≡ o → (t : Option Arc) → arc_into w d ≡ t → o ≡ t
      at None e None f = refl
      at None e (Some b) f = let (p, q, r) = into_word w d b f in absurd (told d None e b ((same b).1 (into_mem w d b f)) r)
      at (Some a) e None f =
          let (k, i, l, u) = told d (Some a) e in
          let g : None ≡ Some a = sym f ∙ ap (arc_into w) (sym i) ∙ mem_into w ((same a).0 k) in
          cc
      at (Some a) e (Some b) f =
          let (k, i, l, u) = told d (Some a) e in
          sym (mem_into w ((same a).0 k)) ∙ ap (arc_into w) i ∙ f
