-- Whether each word that the table puts directly under a node has its arc.
use Rattle.std.proofs.Common.{◌≡◌, ℕ, zero, suc, ◌+◌, ◌-◌, ◌<◌, ◌≤◌, Bool, true, false, not, ◌⊎◌, List, get_or, is_some, Some, None, Option, sym, refl, ap, ◌∙◌, inl, inr, arith}
use Rattle.std.proofs.lemmas.Bool.{and_cases, or_cases, or_parts, not-true, not-false, both_ways}
use Rattle.std.proofs.lemmas.List.FromFn.{length-range_with_len, get_or-range_with_len}
use Rattle.std.proofs.lemmas.List.Sums.{AllPass-from_list_all}
use Rattle.std.specs.List.{list_all, range_with_len}
use Rattle.treebank.specs.declared.arcs.Arc.{Arc}
use Rattle.treebank.specs.declared.rows.Row.{Row}
use Rattle.treebank.specs.Tables.{arc_into, arc_between, table_arcs}
use Rattle.treebank.specs.Trees.{◌∈◌, Heads}
use Rattle.treebank.proofs.Said.{into_mem, into_word, mem_into}
use Rattle.treebank.proofs.Joined.{heads_found, found_heads}
use Rattle.arc_standard_theory.specs.Advice.{serves, served}

-- a word has an arc just where one is told
headed : (w : List Row) (d : ℕ) → is_some (arc_into w d) ≡ true → (b : Arc) × (b ∈ table_arcs w) × (b.word ≡ d)
headed w d t = at (arc_into w d) refl t
  where
    at : (o : Option Arc) → arc_into w d ≡ o → is_some o ≡ true → (b : Arc) × (b ∈ table_arcs w) × (b.word ≡ d)
    at None e t = absurd (both_ways false refl t)
    at (Some b) e t = (b, into_mem w d b e, (into_word w d b e).2)

not_headed : (w : List Row) (d : ℕ) → is_some (arc_into w d) ≡ false → (b : Arc) → b ∈ table_arcs w → b.word ≡ d → ⊥
not_headed w d t b m e = both_ways (is_some (arc_into w d)) t (ap is_some (ap (arc_into w) (sym e) ∙ mem_into w m))

module _ (p : ℕ → Bool) where
  -- a test that holds of so many numbers from a on holds of each
  each_holds : (a n d : ℕ) → list_all p (range_with_len a n) ≡ true → a ≤ d → d < a + n → p d ≡ true
  each_holds a n d t lo hi =
      let here : get_or (range_with_len a n) (d - a) 0 ≡ d = get_or-range_with_len a n (d - a) 0 (omega arith) ∙ omega arith in
      ap p (sym here) ∙ AllPass-from_list_all p (range_with_len a n) t (d - a) 0 (omega (arith, length-range_with_len a n))

  -- and one that does not, fails for one of them
  one_fails : (a n : ℕ) → list_all p (range_with_len a n) ≡ false → (d : ℕ) × (a ≤ d) × (d < a + n) × (p d ≡ false)
  one_fails a zero t = absurd (both_ways true t refl)
  one_fails a (suc n) t = at (and_cases (p a) _ t) (one_fails (a + 1) n)
    where
      at : (p a ≡ false) ⊎ (list_all p (range_with_len (a + 1) n) ≡ false) → (list_all p (range_with_len (a + 1) n) ≡ false → (d : ℕ) × (a + 1 ≤ d) × (d < a + 1 + n) × (p d ≡ false)) → (d : ℕ) × (a ≤ d) × (d < a + suc n) × (p d ≡ false)
      at (inl f) rest = (a, omega arith, omega arith, f)
      at (inr f) rest = let (d, lo, hi, g) = rest f in (d, omega arith, omega arith, g)

module _ (drawn w : List Row) (j : ℕ) where
  pub served_all : (n d : ℕ) → served drawn w j n ≡ true → 1 ≤ d → d ≤ n → Heads (table_arcs w) j d → (b : Arc) × (b ∈ table_arcs drawn) × (b.word ≡ d)
  served_all n d t lo hi g = at (or_cases (not (is_some (arc_between w j d))) _ (each_holds (serves drawn w j) 1 n d t lo (omega arith)))
    where
      at : (not (is_some (arc_between w j d)) ≡ true) ⊎ (is_some (arc_into drawn d) ≡ true) → (b : Arc) × (b ∈ table_arcs drawn) × (b.word ≡ d)
      at (inl f) = absurd (both_ways (is_some (arc_between w j d)) (not-true _ f) (heads_found w j d g))
      at (inr f) = headed drawn d f

  -- some word is not served
  abbrev pub Waits : ℕ → Type 0
  Waits n = (d : ℕ) × (1 ≤ d) × (d ≤ n) × Heads (table_arcs w) j d × ((b : Arc) → b ∈ table_arcs drawn → b.word ≡ d → ⊥)

  pub served_not : (n : ℕ) → served drawn w j n ≡ false → Waits n
  served_not n t =
      let (d, lo, hi, f) = one_fails (serves drawn w j) 1 n t in
      let (p, q) = or_parts (not (is_some (arc_between w j d))) _ f in
      (d, lo, omega arith, found_heads w j d (not-false _ p), not_headed drawn d q)
