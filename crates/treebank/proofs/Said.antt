-- The arcs of a table, row by row.
use Rattle.std.proofs.Common.{◌≡◌, ℕ, zero, suc, ◌+◌, ◌-◌, ◌<◌, ◌≤◌, Bool, true, false, cond, eqb, ltb, ◌⊎◌, ◌↔◌, List, [], ◌∷◌, length, Some, None, Option, sym, refl, ap, ◌∙◌, subst, inl, inr, arith}
use mathlib.Core.List.Memᴰ
use Rattle.std.proofs.lemmas.Bool.{eqb-true, eqb-false, ne_eqb, ltb-false, le-ltb, cond-false}
use Rattle.treebank.specs.declared.arcs.Arc.{Arc}
use Rattle.treebank.specs.declared.rows.Row.{Row}
use Rattle.treebank.specs.Tables.{arc, row_at, row_arc, arc_into, from_head, arc_between, with_arc, arcs_from, table_arcs}
use Rattle.treebank.specs.Trees.{◌∈◌, SingleHeaded, Joining}

-- the row at place k says the arc, where the first row is of word d
abbrev Says : ℕ → List Row → Arc → Type 0
Says d w a = (k : ℕ) × (k < length w) × (a.word ≡ d + k) × (row_arc a.word (row_at w k) ≡ Some a)

-- an arc is into the word of its row
arc_word : (d : ℕ) (r : Row) (a : Arc) → row_arc d r ≡ Some a → a.word ≡ d
arc_word d r a e = at (eqb r.head 255) e
  where
    at : (b : Bool) → cond b None (Some (arc r.head r.label d)) ≡ Some a → a.word ≡ d
    at true e = cc
    at false e = let f : arc r.head r.label d ≡ a = cc in ap (λ (b : Arc). b.word) (sym f)

mem_said : (d : ℕ) (w : List Row) (a : Arc) → a ∈ arcs_from d w → Says d w a
mem_said d [] a m = absurd (Memᴰ.not-nil m)
mem_said d (r ∷ w) a m = at (row_arc d r) refl m (mem_said (d + 1) w a)
  where
    later : Says (d + 1) w a → Says d (r ∷ w) a
    later (k, l, e, i) = (suc k, omega arith, omega arith, i)

    first : (x : Arc) → row_arc d r ≡ Some x → (a ≡ x) ⊎ (a ∈ arcs_from (d + 1) w) → (a ∈ arcs_from (d + 1) w → Says (d + 1) w a) → Says d (r ∷ w) a
    first x e (inl f) rest =
        let i : row_arc d r ≡ Some a = e ∙ ap (λ (b : Arc). Some b) (sym f) in
        let t : a.word ≡ d = arc_word d r a i in
        (zero, omega arith, omega arith, subst (λ (y : ℕ). row_arc y r ≡ Some a) (sym t) i)
    first x e (inr n) rest = later (rest n)

    at : (o : Option Arc) → row_arc d r ≡ o → a ∈ with_arc o (arcs_from (d + 1) w) → (a ∈ arcs_from (d + 1) w → Says (d + 1) w a) → Says d (r ∷ w) a
    at None e n rest = later (rest n)
    at (Some x) e n rest = first x e (Memᴰ.cases_cons n) rest

with_more : {a : Arc} (o : Option Arc) (xs : List Arc) → a ∈ xs → a ∈ with_arc o xs
with_more None xs m = m
with_more (Some x) xs m = Memᴰ.tail m

said_mem : (d : ℕ) (w : List Row) (a : Arc) (k : ℕ) → k < length w → a.word ≡ d + k → row_arc a.word (row_at w k) ≡ Some a → a ∈ arcs_from d w
said_mem d [] a k l e i = absurd (omega arith)
said_mem d (r ∷ w) a zero l e i =
    let t : a.word ≡ d = omega arith in
    let j : row_arc d r ≡ Some a = subst (λ (y : ℕ). row_arc y r ≡ Some a) t i in
    subst (λ (o : Option Arc). a ∈ with_arc o (arcs_from (d + 1) w)) (sym j) (Memᴰ.head refl)
said_mem d (r ∷ w) a (suc k) l e i = with_more (row_arc d r) (arcs_from (d + 1) w) (said_mem (d + 1) w a k (omega arith) (omega arith) i)

module _ (w : List Row) where
  -- what is read of a word of the table
  pub into_row : (d : ℕ) → 1 ≤ d → d ≤ length w → arc_into w d ≡ row_arc d (row_at w (d - 1))
  into_row d p q = cond-false (eqb d 0) None _ (ne_eqb d 0 (λ e. omega arith)) ∙ cond-false (ltb (length w) d) None _ (le-ltb (length w) d q)

  -- only a word of the table has an arc
  pub into_word : (d : ℕ) (a : Arc) → arc_into w d ≡ Some a → (1 ≤ d) × (d ≤ length w) × (a.word ≡ d)
  into_word d a e = at (eqb d 0) refl (ltb (length w) d) refl e
    where
      at : (b : Bool) → eqb d 0 ≡ b → (c : Bool) → ltb (length w) d ≡ c → cond b None (cond c None (row_arc d (row_at w (d - 1)))) ≡ Some a → (1 ≤ d) × (d ≤ length w) × (a.word ≡ d)
      at true s c t e = cc
      at false s true t e = cc
      at false s false t e = (omega (arith, eqb-false d 0 s), ltb-false (length w) d t, arc_word d (row_at w (d - 1)) a e)

  -- the arcs of a table are those into its words
  pub table_mem : (a : Arc) → (a ∈ table_arcs w) ↔ (arc_into w a.word ≡ Some a)
  table_mem a = (to, from)
    where
      to : a ∈ table_arcs w → arc_into w a.word ≡ Some a
      to m =
          let (k, l, e, i) = mem_said 1 w a m in
          let f : k ≡ a.word - 1 = omega arith in
          into_row a.word (omega arith) (omega arith) ∙ subst (λ (y : ℕ). row_arc a.word (row_at w y) ≡ Some a) f i

      from : arc_into w a.word ≡ Some a → a ∈ table_arcs w
      from e =
          let (p, q, r) = into_word a.word a e in
          said_mem 1 w a (a.word - 1) (omega arith) (omega arith) (sym (into_row a.word p q) ∙ e)

  pub mem_into : {a : Arc} → a ∈ table_arcs w → arc_into w a.word ≡ Some a
  mem_into {a} m = (table_mem a).0 m

  pub into_mem : (d : ℕ) (a : Arc) → arc_into w d ≡ Some a → a ∈ table_arcs w
  into_mem d a e =
      let (p, q, r) = into_word d a e in
      (table_mem a).1 (ap (arc_into w) r ∙ e)

  pub table_words : (a : Arc) → a ∈ table_arcs w → (1 ≤ a.word) × (a.word ≤ length w)
  table_words a m = let (p, q, r) = into_word a.word a (mem_into m) in (p, q)

  -- no word has two heads
  pub table_single : SingleHeaded (table_arcs w)
  table_single a b m n e =
      let i : Some a ≡ Some b = sym (mem_into m) ∙ ap (arc_into w) e ∙ mem_into n in
      cc

  -- what the table says of an arc from h into d
  pub joining : (h d : ℕ) (o : Option Arc) → o ≡ arc_between w h d → Joining (table_arcs w) h d o
  joining h d o e = at (arc_into w d) refl o e
    where
      keep : (a : Arc) → arc_into w d ≡ Some a → (b : Bool) → eqb a.head h ≡ b → (o : Option Arc) → o ≡ cond b (Some a) None → Joining (table_arcs w) h d o
      keep a i true t None e = cc
      keep a i true t (Some b) e = let same : a ≡ b = cc in subst (λ (x : Arc). (x ∈ table_arcs w) × (x.head ≡ h) × (x.word ≡ d)) same (into_mem d a i, eqb-true _ _ t, (into_word d a i).2)
      keep a i false t None e = λ (l, m). let same : Some (arc h l d) ≡ Some a = sym (mem_into m) ∙ i in let f : arc h l d ≡ a = cc in eqb-false a.head h t (ap (λ (x : Arc). x.head) (sym f))
      keep a i false t (Some b) e = cc

      at : (i : Option Arc) → arc_into w d ≡ i → (o : Option Arc) → o ≡ from_head h i → Joining (table_arcs w) h d o
      at None i None e = λ (l, m). let z : None ≡ Some (arc h l d) = sym i ∙ mem_into m in cc
      at None i (Some b) e = cc
      at (Some a) i o e = keep a i (eqb a.head h) refl o e
