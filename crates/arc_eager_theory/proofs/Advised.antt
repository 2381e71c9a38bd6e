-- From a viable configuration the advice leads on to a viable one.
use Rattle.std.proofs.Common.{◌≡◌, ℕ, ◌+◌, ◌<◌, Bool, true, false, cond, ◌&&◌, ◌⊎◌, List, [], ◌∷◌, length, is_some, Some, None, Option, sym, refl, ap, ◌∙◌, subst, inl, inr, arith}
use mathlib.Core.List.Memᴰ
use mathlib.Core.List.{Memᴰ}
use Rattle.std.proofs.lemmas.Bool.{and_parts, and_cases, or_cases, or_parts, both_ways, cond-true, cond-false}
use Rattle.treebank.specs.declared.arcs.Arc.{Arc}
use Rattle.treebank.specs.declared.moves.Move.{Move}
use Rattle.treebank.specs.declared.moves.Move.TheVariants.{Shift, LeftArc, RightArc, Reduce}
use Rattle.treebank.specs.declared.rows.Row.{Row}
use Rattle.treebank.specs.Moves.{Label}
use Rattle.treebank.specs.Tables.{arc, GoodTable, is_good_table, arc_into, arc_between, joins, table_arcs}
use Rattle.treebank.specs.Trees.{◌∈◌, Heads, Joins}
use Rattle.treebank.proofs.Said.{joining, into_mem, into_word, mem_into}
use Rattle.treebank.proofs.Joined.{joined, not_joined}
use Rattle.treebank.proofs.Goodness.{good_exact, table_fits}
use Rattle.arc_store.proofs.Putting.{put_fresh}
use Rattle.guidance.specs.Viability.{GoesOn}
use Rattle.arc_eager_theory.specs.Configurations.{Configuration, configuration, finished}
use Rattle.arc_eager_theory.specs.Moves.{arc_eager}
use Rattle.arc_eager_theory.specs.Advice.{joins_any, right_advice, left_advice, advice}
use Rattle.arc_eager_theory.specs.Viable.{Viable}
use Rattle.arc_eager_theory.proofs.Kept.{Kept, inside}
use Rattle.arc_eager_theory.proofs.Defined.{left_fresh, left_permits, right_fresh, right_permits, reduce_permits}
use Rattle.arc_eager_theory.proofs.Onward.{Joined, left_free, left_viable, right_viable, reduce_viable, shift_viable}

-- the table joins the first word of the buffer to a node of the list
joined_some : (w : List Row) (d : ℕ) (s : List ℕ) → joins_any w (d + 1) s ≡ true → (a : Arc) × (a ∈ table_arcs w) × Joined d s a
joined_some w d [] t = absurd (both_ways false refl t)
joined_some w d (x ∷ s) t = at (or_cases (joins w (d + 1) x) (joins_any w (d + 1) s) t) (joined_some w d s)
  where
    here : Heads (table_arcs w) (d + 1) x ⊎ Heads (table_arcs w) x (d + 1) → (a : Arc) × (a ∈ table_arcs w) × Joined d (x ∷ s) a
    here (inl (l, m)) = (arc (d + 1) l x, m, inr (refl, Memᴰ.head refl))
    here (inr (l, m)) = (arc x l (d + 1), m, inl (refl, Memᴰ.head refl))

    deeper : (a : Arc) → Joined d s a → Joined d (x ∷ s) a
    deeper a (inl (e, m)) = inl (e, Memᴰ.tail m)
    deeper a (inr (e, m)) = inr (e, Memᴰ.tail m)

    at : (joins w (d + 1) x ≡ true) ⊎ (joins_any w (d + 1) s ≡ true) → (joins_any w (d + 1) s ≡ true → (a : Arc) × (a ∈ table_arcs w) × Joined d s a) → (a : Arc) × (a ∈ table_arcs w) × Joined d (x ∷ s) a
    at (inl f) rest = here (joined w (d + 1) x f)
    at (inr f) rest = let (a, m, j) = rest f in (a, m, deeper a j)

joined_none : (w : List Row) (d : ℕ) (s : List ℕ) → joins_any w (d + 1) s ≡ false → (a : Arc) → a ∈ table_arcs w → Joined d s a → ⊥
joined_none w d [] t a m (inl (e, n)) = Memᴰ.not-nil n
joined_none w d [] t a m (inr (e, n)) = Memᴰ.not-nil n
joined_none w d (x ∷ s) t a m j = at j (or_parts (joins w (d + 1) x) (joins_any w (d + 1) s) t) (joined_none w d s)
  where
    at : Joined d (x ∷ s) a → (joins w (d + 1) x ≡ false) × (joins_any w (d + 1) s ≡ false) → (joins_any w (d + 1) s ≡ false → (b : Arc) → b ∈ table_arcs w → Joined d s b → ⊥) → ⊥
    at (inl (e, n)) (p, q) rest = from (Memᴰ.cases_cons n)
      where
        from : (a.head ≡ x) ⊎ Memᴰ a.head s → ⊥
        from (inl f) = not_joined w (d + 1) x p (inr (a.label, subst (λ (y : Arc). y ∈ table_arcs w) (λ i. arc (f i) a.label (e i)) m))
        from (inr k) = rest q a m (inl (e, k))
    at (inr (e, n)) (p, q) rest = into (Memᴰ.cases_cons n)
      where
        into : (a.word ≡ x) ⊎ Memᴰ a.word s → ⊥
        into (inl f) = not_joined w (d + 1) x p (inl (a.label, subst (λ (y : Arc). y ∈ table_arcs w) (λ i. arc (e i) a.label (f i)) m))
        into (inr k) = rest q a m (inr (e, k))

abbrev pub On : Configuration → List Row → Type 0
On c w = GoesOn arc_eager Viable c w

module _ (d i : ℕ) (s : List ℕ) (rows w : List Row) (good : GoodTable (length rows) w) (k : Kept (configuration (i ∷ s) d rows)) (u : finished (configuration (i ∷ s) d rows) ≡ false) (v : Viable (configuration (i ∷ s) d rows) w) where
  inner : d < length rows
  inner = inside k u

  -- the advice of a good table while not finished
  advised : (m : Move) → left_advice (configuration (i ∷ s) d rows) w (arc_between w (d + 1) i) ≡ Some m → advice (configuration (i ∷ s) d rows) w ≡ Some m
  advised m e = cond-false (finished (configuration (i ∷ s) d rows)) None _ u ∙ cond-true (is_good_table (length rows) w) _ None ((good_exact (length rows) w).1 good) ∙ e

  -- an arc of the table from h into x
  taken : (h x : ℕ) (a : Arc) → arc_between w h x ≡ Some a → (arc h a.label x ∈ table_arcs w) × Joins (length rows) (arc h a.label x) × Label a.label
  taken h x a e =
      let (m, p, q) = joining w h x (Some a) (sym e) in
      let n : arc h a.label x ∈ table_arcs w = subst (λ (y : Arc). y ∈ table_arcs w) (λ t. arc (p t) a.label (q t)) m in
      let (joins, label) = table_fits (length rows) w good k.small (arc h a.label x) n in
      (n, joins, label)

  by_left : (a : Arc) → arc_between w (d + 1) i ≡ Some a → On (configuration (i ∷ s) d rows) w
  by_left a e =
      let (m, joins, label) = taken (d + 1) i a e in
      let x = arc (d + 1) a.label i in
      let fresh = left_fresh k inner a.label (λ z. let t = joins.word.0 in omega arith) (λ (b, j, q). left_free d i s rows w k v x m refl refl b j q) in (
        LeftArc a.label,
        Some x,
        advised (LeftArc a.label) (ap (left_advice (configuration (i ∷ s) d rows) w) e),
        label,
        left_permits k inner a.label fresh,
        left_viable d i s rows w k v x m refl refl (put_fresh rows x k.small fresh),
      )

  module _ (apart : arc_between w (d + 1) i ≡ None) where
    no_left : (a : Arc) → a ∈ table_arcs w → a.head ≡ d + 1 → a.word ≡ i → ⊥
    no_left a m p q = joining w (d + 1) i None (sym apart) (subst (λ (y : ℕ). Heads (table_arcs w) y i) p (subst (Heads (table_arcs w) a.head) q (a.label, m)))

    by_right : (a : Arc) → arc_between w i (d + 1) ≡ Some a → On (configuration (i ∷ s) d rows) w
    by_right a e =
        let (m, joins, label) = taken i (d + 1) a e in
        let x = arc i a.label (d + 1) in (
          RightArc a.label,
          Some x,
          advised (RightArc a.label) (ap (left_advice (configuration (i ∷ s) d rows) w) apart ∙ ap (right_advice (configuration (i ∷ s) d rows) w) e),
          label,
          right_permits k inner a.label,
          right_viable d i s rows w k v x m refl refl (put_fresh rows x k.small (right_fresh k inner a.label)),
        )

    module _ (over : arc_between w i (d + 1) ≡ None) where
      no_right : (a : Arc) → a ∈ table_arcs w → a.head ≡ i → a.word ≡ d + 1 → ⊥
      no_right a m p q = joining w i (d + 1) None (sym over) (subst (λ (y : ℕ). Heads (table_arcs w) y (d + 1)) p (subst (Heads (table_arcs w) a.head) q (a.label, m)))

      told : (b : Bool) → (is_some (arc_into rows i) && joins_any w (d + 1) s) ≡ b → left_advice (configuration (i ∷ s) d rows) w (arc_between w (d + 1) i) ≡ cond b (Some Reduce) (Some Shift)
      told b e = ap (left_advice (configuration (i ∷ s) d rows) w) apart ∙ ap (right_advice (configuration (i ∷ s) d rows) w) over ∙ ap (λ (x : Bool). cond x (Some Reduce) (Some Shift)) e

      by_shift : ((y : Arc) → y ∈ table_arcs w → Joined d s y → (x : Arc) → x ∈ table_arcs rows → x.word ≡ i → ⊥) → (is_some (arc_into rows i) && joins_any w (d + 1) s) ≡ false → On (configuration (i ∷ s) d rows) w
      by_shift bare t = (Shift, None, advised Shift (told false t), tt, cond-false (finished (configuration (i ∷ s) d rows)) _ _ u, shift_viable d i s rows w k v no_right no_left bare)

      by_reduce : (x : Arc) → x ∈ table_arcs rows → x.word ≡ i → joins_any w (d + 1) s ≡ true → (is_some (arc_into rows i) && joins_any w (d + 1) s) ≡ true → On (configuration (i ∷ s) d rows) w
      by_reduce x q e j t =
          let (y, m, p) = joined_some w d s j in
          (Reduce, None, advised Reduce (told true t), tt, reduce_permits k inner x q e, reduce_viable d i s rows w k v no_right x q e y m p)

      headed_top : (o : Option Arc) → arc_into rows i ≡ o → is_some o ≡ true → (x : Arc) × (x ∈ table_arcs rows) × (x.word ≡ i)
      headed_top None e t = absurd (both_ways false refl t)
      headed_top (Some x) e t = (x, into_mem rows i x e, (into_word rows i x e).2)

      bare_top : is_some (arc_into rows i) ≡ false → (x : Arc) → x ∈ table_arcs rows → x.word ≡ i → ⊥
      bare_top t x q e = both_ways (is_some (arc_into rows i)) t (ap is_some (ap (arc_into rows) (sym e) ∙ mem_into rows q))

      last_lines : On (configuration (i ∷ s) d rows) w
      last_lines = at (is_some (arc_into rows i) && joins_any w (d + 1) s) refl
        where
          no : (is_some (arc_into rows i) ≡ false) ⊎ (joins_any w (d + 1) s ≡ false) → (y : Arc) → y ∈ table_arcs w → Joined d s y → (x : Arc) → x ∈ table_arcs rows → x.word ≡ i → ⊥
          no (inl f) y m j x q e = bare_top f x q e
          no (inr f) y m j x q e = joined_none w d s f y m j

          at : (b : Bool) → (is_some (arc_into rows i) && joins_any w (d + 1) s) ≡ b → On (configuration (i ∷ s) d rows) w
          at true t = let (f, j) = and_parts (is_some (arc_into rows i)) (joins_any w (d + 1) s) t in let (x, q, e) = headed_top (arc_into rows i) refl f in by_reduce x q e j t
          at false t = by_shift (no (and_cases (is_some (arc_into rows i)) (joins_any w (d + 1) s) t)) t

    not_left : (o : Option Arc) → arc_between w i (d + 1) ≡ o → On (configuration (i ∷ s) d rows) w
    not_left None e = last_lines e
    not_left (Some a) e = by_right a e

  on_top : (o : Option Arc) → arc_between w (d + 1) i ≡ o → On (configuration (i ∷ s) d rows) w
  on_top None e = not_left e (arc_between w i (d + 1)) refl
  on_top (Some a) e = by_left a e

pub on_any : (st : List ℕ) (d : ℕ) (rows w : List Row) → GoodTable (length rows) w → Kept (configuration st d rows) → finished (configuration st d rows) ≡ false → Viable (configuration st d rows) w → On (configuration st d rows) w
on_any [] d rows w good k u v = absurd (let e = k.desc in omega arith)
on_any (i ∷ s) d rows w good k u v = on_top d i s rows w good k u v (arc_between w (d + 1) i) refl
