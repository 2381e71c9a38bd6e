-- What the search for an arc between two nodes tells.
use Rattle.std.proofs.Common.{◌≡◌, true, false, ◌⊎◌, ℕ, List, is_some, Some, None, Option, sym, refl, subst, inl, inr}
use Rattle.std.proofs.lemmas.Bool.{or_cases, or_parts, both_ways}
use Rattle.treebank.specs.declared.arcs.Arc.{Arc}
use Rattle.treebank.specs.declared.rows.Row.{Row}
use Rattle.treebank.specs.Tables.{arc, arc_between, joins, table_arcs}
use Rattle.treebank.specs.Trees.{◌∈◌, Heads}
use Rattle.treebank.proofs.Said.{joining}

module _ (w : List Row) (h d : ℕ) where
  -- an arc leads from h into d just where it is found
  pub heads_found : Heads (table_arcs w) h d → is_some (arc_between w h d) ≡ true
  heads_found g = at (arc_between w h d) refl
    where
      at : (o : Option Arc) → arc_between w h d ≡ o → is_some o ≡ true
      at None e = absurd (joining w h d None (sym e) g)
      at (Some a) e = refl

  pub found_heads : is_some (arc_between w h d) ≡ true → Heads (table_arcs w) h d
  found_heads t = at (arc_between w h d) refl t
    where
      at : (o : Option Arc) → arc_between w h d ≡ o → is_some o ≡ true → Heads (table_arcs w) h d
      at None e t = absurd (both_ways false refl t)
      at (Some a) e t = let (m, p, q) = joining w h d (Some a) (sym e) in (a.label, subst (λ (x : Arc). x ∈ table_arcs w) (λ i. arc (p i) a.label (q i)) m)

module _ (w : List Row) (a b : ℕ) where
  -- joined nodes are head and dependent, and others are not
  pub joined : joins w a b ≡ true → Heads (table_arcs w) a b ⊎ Heads (table_arcs w) b a
  joined t = at (or_cases (is_some (arc_between w a b)) _ t)
    where
      at : (is_some (arc_between w a b) ≡ true) ⊎ (is_some (arc_between w b a) ≡ true) → Heads (table_arcs w) a b ⊎ Heads (table_arcs w) b a
      at (inl f) = inl (found_heads w a b f)
      at (inr f) = inr (found_heads w b a f)

  pub not_joined : joins w a b ≡ false → Heads (table_arcs w) a b ⊎ Heads (table_arcs w) b a → ⊥
  not_joined e (inl g) = both_ways (is_some (arc_between w a b)) (or_parts (is_some (arc_between w a b)) _ e).0 (heads_found w a b g)
  not_joined e (inr g) = both_ways (is_some (arc_between w b a)) (or_parts (is_some (arc_between w a b)) _ e).1 (heads_found w b a g)
