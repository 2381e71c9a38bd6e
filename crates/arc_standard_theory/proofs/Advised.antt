-- From a viable configuration the advice leads on to a viable one.
use Rattle.std.proofs.Common.{◌≡◌, ℕ, ◌+◌, ◌<◌, ◌≤◌, Bool, true, false, eqb, ltb, ◌⊎◌, List, [], ◌∷◌, length, Some, None, Option, sym, refl, ap, ◌∙◌, subst, inl, inr, arith}
use mathlib.Core.List.Memᴰ
use mathlib.Core.List.{Memᴰ}
use Rattle.std.proofs.lemmas.Bool.{eqb-false, ltb-false, le-ltb, and_cases, cond-true, cond-false}
use Rattle.treebank.specs.declared.arcs.Arc.{Arc}
use Rattle.treebank.specs.declared.moves.Move.{Move}
use Rattle.treebank.specs.declared.moves.Move.TheVariants.{Shift, LeftArc, RightArc}
use Rattle.treebank.specs.declared.rows.Row.{Row}
use Rattle.treebank.specs.Moves.{Label}
use Rattle.treebank.specs.Tables.{arc, GoodTable, is_good_table, arc_between, table_arcs}
use Rattle.treebank.specs.Trees.{◌∈◌, Heads, Joins, Fresh}
use Rattle.treebank.proofs.Said.{joining, table_single}
use Rattle.treebank.proofs.Goodness.{good_exact, table_fits}
use Rattle.arc_store.specs.Drawing.{put}
use Rattle.arc_store.proofs.Putting.{put_length, put_fresh}
use Rattle.guidance.specs.Viability.{GoesOn}
use Rattle.arc_standard_theory.specs.Configurations.{Configuration, configuration, words, emptied, finished, top_two}
use Rattle.arc_standard_theory.specs.Moves.{arc_standard}
use Rattle.arc_standard_theory.specs.Advice.{served, shift_advice, right_advice, left_advice, arc_advice, advice}
use Rattle.arc_standard_theory.proofs.Descending.{play_shift, play_unshift}
use Rattle.arc_standard_theory.proofs.Kept.{Kept, In}
use Rattle.arc_standard_theory.proofs.Defined.{left_permits, right_permits, left_fresh, right_fresh}
use Rattle.arc_standard_theory.specs.Viable.{Play, Total, Rest, Viable}
use Rattle.arc_standard_theory.proofs.Onward.{on_left, on_right, on_word, on_shift}
use Rattle.arc_standard_theory.proofs.Served.{served_all, served_not}

abbrev pub On : Configuration → List Row → Type 0
On c w = GoesOn arc_standard Viable c w

module _ (c : Configuration) (w : List Row) (good : GoodTable (words c) w) (u : finished c ≡ false) (v : Viable c w) where
  -- the advice of a good table while not finished
  advised : (m : Move) → arc_advice c w (top_two c.stack) ≡ Some m → advice c w ≡ Some m
  advised m e = cond-false (finished c) None _ u ∙ cond-true (is_good_table (words c) w) _ None ((good_exact (words c) w).1 good) ∙ e

  shift_on : c.front ≤ words c → arc_advice c w (top_two c.stack) ≡ shift_advice c → Rest (table_arcs w) (words c) (c.front ∷ c.stack) (c.front + 1) → On c w
  shift_on l e r =
      let f : emptied c ≡ false = le-ltb (words c) c.front l in (
        Shift,
        None,
        advised Shift (e ∙ cond-false (emptied c) None (Some Shift) f),
        tt,
        cond-false (finished c) _ _ u ∙ cond-false (emptied c) _ _ f,
        record { acyclic = v.acyclic; total = v.total; into = v.into; rest = r },
      )

-- an arc of the table was drawn
drawn_on : {st st' : List ℕ} {b : ℕ} {rows : List Row} (w : List Row) (a : Arc) → length rows ≤ 100 → Fresh (length rows) (table_arcs rows) a → a ∈ table_arcs w →
    Viable (configuration st b rows) w → Rest (table_arcs w) (length rows) st' b → Viable (configuration st' b (put rows a)) w
drawn_on {st} {st'} {b} {rows} w a small f m v r =
    let same : length rows ≡ length (put rows a) = sym (put_length rows a) in
    record {
      acyclic = v.acyclic;
      total = subst (λ (n : ℕ). Total n (table_arcs w)) same v.total;
      into = λ e k. at e (Memᴰ.cases_cons ((put_fresh rows a small f e).0 k));
      rest = subst (λ (n : ℕ). Rest (table_arcs w) n st' b) same r;
    }
  where
    at : (e : Arc) → (e ≡ a) ⊎ (e ∈ table_arcs rows) → e ∈ table_arcs w
    at e (inl i) = subst (λ (x : Arc). x ∈ table_arcs w) (sym i) m
    at e (inr k) = v.into e k

-- the root alone on the stack
module _ (j b : ℕ) (rows w : List Row) (good : GoodTable (length rows) w) (k : Kept (configuration (j ∷ []) b rows)) (u : finished (configuration (j ∷ []) b rows) ≡ false)
    (v : Viable (configuration (j ∷ []) b rows) w) where
  on_one : On (configuration (j ∷ []) b rows) w
  on_one = shift_on (configuration (j ∷ []) b rows) w good u v word refl (record {
    closed = λ g p. play_shift (v.rest.closed g (play_unshift word p));
    cover = λ g p q t. v.rest.cover g (play_unshift word p) (play_unshift word q) t;
    spine = ((λ x y m q l t. absurd (same x y (Memᴰ.cases_cons m) (Memᴰ.cases_cons q) l)), v.rest.spine);
  })
    where
      root : (0 ≡ j) ⊎ Memᴰ {A = ℕ} 0 [] → 0 ≡ j
      root (inl e) = e
      root (inr m) = absurd (Memᴰ.not-nil m)

      at : (eqb j 0 ≡ false) ⊎ (ltb (length rows) b ≡ false) → b ≤ length rows
      at (inl e) = absurd (eqb-false j 0 e (sym (root (Memᴰ.cases_cons k.ground))))
      at (inr e) = ltb-false (length rows) b e

      word : b ≤ length rows
      word = at (and_cases (eqb j 0) (ltb (length rows) b) u)

      same : (x y : ℕ) → (x ≡ j) ⊎ Memᴰ x [] → (y ≡ j) ⊎ Memᴰ y [] → x < y → ⊥
      same x y (inl e) (inl f) l = omega arith
      same x y (inl e) (inr m) l = Memᴰ.not-nil m
      same x y (inr m) o l = Memᴰ.not-nil m

-- two nodes or more
module _ (j i b : ℕ) (s : List ℕ) (rows w : List Row) (good : GoodTable (length rows) w) (k : Kept (configuration (j ∷ (i ∷ s)) b rows)) (v : Viable (configuration (j ∷ (i ∷ s)) b rows) w) where
  here : Configuration
  here = configuration (j ∷ (i ∷ s)) b rows

  -- an arc of the table from h into d
  taken : (h d : ℕ) (a : Arc) → arc_between w h d ≡ Some a → (arc h a.label d ∈ table_arcs w) × Joins (length rows) (arc h a.label d) × Label a.label
  taken h d a e =
      let (m, p, q) = joining w h d (Some a) (sym e) in
      let n : arc h a.label d ∈ table_arcs w = subst (λ (x : Arc). x ∈ table_arcs w) (λ t. arc (p t) a.label (q t)) m in
      let (joins, label) = table_fits (length rows) w good k.small (arc h a.label d) n in
      (n, joins, label)

  by_left : (a : Arc) → arc_between w j i ≡ Some a → On (configuration (j ∷ (i ∷ s)) b rows) w
  by_left a e =
      let (m, joins, label) = taken j i a e in
      let not : i ≡ 0 → ⊥ = λ z. let t = joins.word.0 in omega arith in
      let (o, p) = left_permits k a.label not in (
        LeftArc a.label,
        o,
        advised (configuration (j ∷ (i ∷ s)) b rows) w good refl v (LeftArc a.label) (ap (left_advice (configuration (j ∷ (i ∷ s)) b rows) w i j) e),
        label,
        p,
        drawn_on w (arc j a.label i) k.small (left_fresh k a.label not) m v (on_left (table_single w) v.acyclic k.under v.rest (a.label, m)),
      )

  module _ (apart : arc_between w j i ≡ None) where
    no_left : Heads (table_arcs w) j i → ⊥
    no_left = joining w j i None (sym apart)

    -- nothing that the table puts under the top is in play
    by_right : (a : Arc) → arc_between w i j ≡ Some a → served rows w j (length rows) ≡ true → On (configuration (j ∷ (i ∷ s)) b rows) w
    by_right a e t =
        let (m, joins, label) = taken i j a e in
        let (o, p) = right_permits k a.label in
        let told = ap (left_advice (configuration (j ∷ (i ∷ s)) b rows) w i j) apart ∙ ap (right_advice (configuration (j ∷ (i ∷ s)) b rows) w j) e ∙ cond-true (served rows w j (length rows)) _ _ t in (
          RightArc a.label,
          o,
          advised (configuration (j ∷ (i ∷ s)) b rows) w good refl v (RightArc a.label) told,
          label,
          p,
          drawn_on w (arc i a.label j) k.small (right_fresh k a.label) m v (on_right (table_single w) v.acyclic k.under v.rest none),
        )
      where
        none : (d : ℕ) → Heads (table_arcs w) j d → Play (length rows) (j ∷ (i ∷ s)) b d → ⊥
        none d (l, m) p =
            let (joins, label) = table_fits (length rows) w good k.small (arc j l d) m in
            let (x, q, f) = served_all rows w j (length rows) d t joins.word.0 joins.word.1 (l, m) in
            k.headless p x q f

    by_shift : (Heads (table_arcs w) i j → (d : ℕ) × Heads (table_arcs w) j d × Play (length rows) (j ∷ (i ∷ s)) b d) →
        right_advice (configuration (j ∷ (i ∷ s)) b rows) w j (arc_between w i j) ≡ shift_advice (configuration (j ∷ (i ∷ s)) b rows) → On (configuration (j ∷ (i ∷ s)) b rows) w
    by_shift waits e =
        shift_on (configuration (j ∷ (i ∷ s)) b rows) w good refl v
        (on_word (table_single w) v.acyclic k.under v.rest v.total k.upto no_left waits)
        (ap (left_advice (configuration (j ∷ (i ∷ s)) b rows) w i j) apart ∙ e)
        (on_shift (table_single w) v.acyclic k.under v.rest v.total k.upto no_left waits)

    -- some word under the top is still in play
    waiting : served rows w j (length rows) ≡ false → (d : ℕ) × Heads (table_arcs w) j d × Play (length rows) (j ∷ (i ∷ s)) b d
    waiting t = let (d, lo, hi, g, free) = served_not rows w j (length rows) t in (d, g, at d free (k.out d lo hi))
      where
        at : (d : ℕ) → ((x : Arc) → x ∈ table_arcs rows → x.word ≡ d → ⊥) → In (configuration (j ∷ (i ∷ s)) b rows) d ⊎ ((x : Arc) × (x ∈ table_arcs rows) × (x.word ≡ d)) → Play (length rows) (j ∷ (i ∷ s)) b d
        at d free (inl p) = p
        at d free (inr (x, m, f)) = absurd (free x m f)

    not_left : On (configuration (j ∷ (i ∷ s)) b rows) w
    not_left = at (arc_between w i j) refl
      where
        right : (a : Arc) → arc_between w i j ≡ Some a → (t : Bool) → served rows w j (length rows) ≡ t → On (configuration (j ∷ (i ∷ s)) b rows) w
        right a e true t = by_right a e t
        right a e false t = by_shift (λ g. waiting t) (ap (right_advice (configuration (j ∷ (i ∷ s)) b rows) w j) e ∙ cond-false (served rows w j (length rows)) _ _ t)

        at : (o : Option Arc) → arc_between w i j ≡ o → On (configuration (j ∷ (i ∷ s)) b rows) w
        at None e = by_shift (λ g. absurd (joining w i j None (sym e) g)) (ap (right_advice (configuration (j ∷ (i ∷ s)) b rows) w j) e)
        at (Some a) e = right a e (served rows w j (length rows)) refl

  on_two : On (configuration (j ∷ (i ∷ s)) b rows) w
  on_two = at (arc_between w j i) refl
    where
      at : (o : Option Arc) → arc_between w j i ≡ o → On (configuration (j ∷ (i ∷ s)) b rows) w
      at None e = not_left e
      at (Some a) e = by_left a e

pub on_any : (st : List ℕ) (b : ℕ) (rows w : List Row) → GoodTable (length rows) w → Kept (configuration st b rows) → finished (configuration st b rows) ≡ false → Viable (configuration st b rows) w → On (configuration st b rows) w
on_any [] b rows w good k u v = absurd (Memᴰ.not-nil k.ground)
on_any (j ∷ []) b rows w good k u v = on_one j b rows w good k u v
on_any (j ∷ (i ∷ s)) b rows w good k u v = on_two j i b s rows w good k v
