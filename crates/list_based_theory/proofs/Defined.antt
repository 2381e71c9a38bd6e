-- A move is permitted just where Nivre has a transition, and leads where that leads.
use Rattle.std.proofs.Common.{◌≡◌, ℕ, zero, suc, ◌+◌, ◌-◌, ◌<◌, ◌≤◌, false, ◌⊎◌, List, [], ◌∷◌, ◌++◌, reverse, length, Some, None, Ok, Err, Option, sym, refl, ap, ◌∙◌, subst, inl, inr, arith, MatchResult}
use Rattle.std.specs.List.{range_with_len}
use Rattle.std.proofs.lemmas.List.{reverse-append}
use Rattle.std.proofs.lemmas.Bool.{le-ltb, ne_eqb, cond-false, cases_lt}
use Rattle.treebank.specs.declared.arcs.Arc.{Arc}
use Rattle.treebank.specs.declared.moves.Move.{Move}
use Rattle.treebank.specs.declared.moves.Move.TheVariants.{Shift, LeftArc, RightArc, NoArc}
use Rattle.treebank.specs.declared.rows.Row.{Row}
use Rattle.treebank.specs.Tables.{arc, table_arcs}
use Rattle.treebank.specs.Trees.{Above, Fresh}
use Rattle.transition.specs.Meaning.{Verdict}
use Rattle.transition.specs.Verdicts.{drawn}
use Rattle.transition.specs.Runs.{Arises}
use Rattle.arc_store.specs.Drawing.{put}
use Rattle.arc_store.proofs.Counting.{counting_next, buffer_next, counts_from}
use Rattle.arc_store.proofs.Freshness.{fresh_verdict}
use Rattle.arc_store.proofs.Putting.{put_length, put_fresh}
use Rattle.arc_store.proofs.Verdicts.{impossible}
use Rattle.list_based_theory.specs.Configurations.{Configuration, configuration, words, start, finished, emptied, last}
use Rattle.list_based_theory.specs.Moves.{left_arc, right_arc, verdict, next, list_based}
use Rattle.list_based_theory.specs.Nivre.{Quadruple, quadruple, HeadlessIn, ◌then◌, Transition, shown, AsDefined}
use Rattle.list_based_theory.proofs.Accepted.{Makes, makes}
use Rattle.list_based_theory.proofs.Kept.{Kept, kept}

-- a stretch of numbers is two stretches joined
counting_join : (a k m : ℕ) → range_with_len a (k + m) ≡ range_with_len a k ++ range_with_len (a + k) m
counting_join a zero m = let e : a ≡ a + 0 = omega arith in let f : 0 + m ≡ m = omega arith in ap (range_with_len a) f ∙ ap (λ (x : ℕ). range_with_len x m) e
counting_join a (suc k) m =
    let e : suc k + m ≡ suc (k + m) = omega arith in
    let f : a + 1 + k ≡ a + suc k = omega arith in
    ap (range_with_len a) e ∙ ap (λ (l : List ℕ). a ∷ l) (counting_join (a + 1) k m ∙ ap (λ (x : ℕ). range_with_len (a + 1) k ++ range_with_len x m) f)

-- the first list without its last node
first_last : (k : ℕ) → 1 ≤ k → range_with_len 0 k ≡ range_with_len 0 (k - 1) then (k - 1)
first_last k l =
    let e : k ≡ (k - 1) + 1 = omega arith in
    let f : 0 + (k - 1) ≡ k - 1 = omega arith in
    ap (range_with_len 0) e ∙ counting_join 0 (k - 1) 1 ∙ ap (λ (x : ℕ). range_with_len 0 (k - 1) ++ (x ∷ [])) f

-- the second list with that node before it
second_more : (k b : ℕ) → 1 ≤ k → k ≤ b → range_with_len (k - 1) (b - (k - 1)) ≡ (k - 1) ∷ range_with_len k (b - k)
second_more k b l h =
    let e : k - 1 + 1 ≡ k = omega arith in
    let f : b - (k - 1) - 1 ≡ b - k = omega arith in
    counting_next (k - 1) (b - (k - 1)) (omega arith) ∙ ap (λ (x : ℕ). (k - 1) ∷ range_with_len x (b - (k - 1) - 1)) e ∙ ap (λ (x : ℕ). (k - 1) ∷ range_with_len k x) f

-- both lists and the first word of the buffer
lists_join : (k b : ℕ) → k ≤ b → range_with_len 0 k ++ (range_with_len k (b - k) then b) ≡ range_with_len 0 (b + 1)
lists_join k b h =
    let e : k + (b - k) ≡ b = omega arith in
    let f : k + (b - k + 1) ≡ b + 1 = omega arith in
    let g : 0 + k ≡ k = omega arith in
    ap (λ (x : ℕ). range_with_len 0 k ++ (range_with_len k (b - k) then x)) (sym e)
    ∙ ap (λ (l : List ℕ). range_with_len 0 k ++ l) (sym (counting_join k (b - k) 1))
    ∙ ap (λ (x : ℕ). range_with_len 0 k ++ range_with_len x (b - k + 1)) (sym g)
    ∙ sym (counting_join 0 k (b - k + 1))
    ∙ ap (range_with_len 0) f

-- a transition between quadruples that are the same
along : {f f' s s' g g' t t' β β' γ γ' : List ℕ} {as' bs : List Arc} {m : Move} → f ≡ f' → s ≡ s' → β ≡ β' → g ≡ g' → t ≡ t' → γ ≡ γ' →
    Transition (quadruple f' s' β' as') m (quadruple g' t' γ' bs) → Transition (quadruple f s β as') m (quadruple g t γ bs)
along {as' = as'} {bs = bs} {m = m} p q r x y z h =
    subst (λ (u : Quadruple × Quadruple). Transition u.0 m u.1) (λ i. (quadruple (sym p i) (sym q i) (sym r i) as', quadruple (sym x i) (sym y i) (sym z i) bs)) h

-- an arc move: the last node of the first list goes to the second
moved_on : (b k t : ℕ) (w : List Row) (m : Move) (v : List Row) → length v ≡ length w → b ≤ length w → 1 ≤ k → k ≤ b →
    Transition (quadruple (range_with_len 0 (k - 1) then (k - 1)) (range_with_len k (b - k)) (b ∷ range_with_len (b + 1) (length w + 1 - (b + 1))) (table_arcs w)) m
    (quadruple (range_with_len 0 (k - 1)) ((k - 1) ∷ range_with_len k (b - k)) (b ∷ range_with_len (b + 1) (length w + 1 - (b + 1))) (table_arcs v)) →
    Transition (shown (configuration b k t w)) m (shown (configuration b (k - 1) (t + 1) v))
moved_on b k t w m v same h l g x =
    along (first_last k l) refl (buffer_next (length w) b h) refl (second_more k b l g) (ap (λ (n : ℕ). range_with_len b (n + 1 - b)) same ∙ buffer_next (length w) b h) x

-- every accepted move is a transition
accepted : {c d : Configuration} {m : Move} {a : Option Arc} → Makes c m a d → Kept c → Transition (shown c) m (shown d)
accepted (Makes.shift {b = b} {k = k} {w = w} h) kept =
    let e : b + 1 - (b + 1) ≡ 0 = omega arith in
    along refl refl (buffer_next (length w) b h) (sym (lists_join k b kept.lists)) (ap (range_with_len (b + 1)) e) refl (Transition.shift (λ x. (λ m. m, λ m. m)))
accepted (Makes.left {b = b} {k = k} {t = t} {l = l} {w = w} h g f) kept =
    moved_on b k t w (LeftArc l) (put w (arc b l (k - 1))) (put_length w (arc b l (k - 1))) h g kept.lists
    (Transition.left_arc (λ e. let z = f.joins.word.0 in omega arith) f.headless f.not_below (put_fresh w (arc b l (k - 1)) kept.small f))
accepted (Makes.right {b = b} {k = k} {t = t} {l = l} {w = w} h g f) kept =
    moved_on b k t w (RightArc l) (put w (arc (k - 1) l b)) (put_length w (arc (k - 1) l b)) h g kept.lists
    (Transition.right_arc f.headless f.not_below (put_fresh w (arc (k - 1) l b) kept.small f))
accepted (Makes.pass {b = b} {k = k} {t = t} {w = w} h g) kept = moved_on b k t w NoArc w refl h g kept.lists (Transition.no_arc (λ x. (λ m. m, λ m. m)))

abbrev pub Permits : Configuration → Move → Type 0
Permits c m = (a : Option Arc) × (verdict c m ≡ Ok a)

-- a buffer with a first word
buffer_first : (c : Configuration) (j : ℕ) (β : List ℕ) → j ∷ β ≡ range_with_len c.front (words c + 1 - c.front) → (c.front ≤ words c) × (j ≡ c.front)
buffer_first c j β e = let (l, f) = counts_from c.front (words c + 1 - c.front) j β e in (omega arith, f)

-- a first list with a last node
list_last : (k : ℕ) (first : List ℕ) (i : ℕ) → first then i ≡ range_with_len 0 k → (1 ≤ k) × (i ≡ k - 1)
list_last k first i e = at (cases_lt 0 k)
  where
    turned : i ∷ reverse first ≡ reverse (range_with_len 0 k)
    turned = sym (reverse-append first (i ∷ [])) ∙ ap reverse e

    at : (0 < k) ⊎ (k ≤ 0) → (1 ≤ k) × (i ≡ k - 1)
    at (inl l) = (l, let z = turned ∙ ap reverse (first_last k l) ∙ reverse-append (range_with_len 0 (k - 1)) ((k - 1) ∷ []) in cc)
    at (inr l) =
        let none : k ≡ 0 = omega arith in
        let empty = turned ∙ ap (λ (x : ℕ). reverse (range_with_len 0 x)) none in
        absurd (let z : ◌≡◌ {A = ℕ} 0 1 = cc in omega arith)

-- a fresh arc is permitted, and No-Arc and Shift are
module _ (c : Configuration) (h : c.front ≤ words c) where
  open_yet : finished c ≡ false
  open_yet = le-ltb (words c) c.front h

  pub shift_permits : verdict c Shift ≡ Ok None
  shift_permits = cond-false (finished c) _ _ open_yet

  module _ (g : 1 ≤ c.left) where
    some : emptied c ≡ false
    some = ne_eqb c.left 0 (λ e. omega arith)

    pub pass_permits : verdict c NoArc ≡ Ok None
    pass_permits = cond-false (finished c) _ _ open_yet ∙ cond-false (emptied c) _ _ some

    pub left_permits : (l : ℕ) → Fresh (words c) (table_arcs c.rows) (left_arc c l) → verdict c (LeftArc l) ≡ Ok (Some (left_arc c l))
    left_permits l f = cond-false (finished c) _ _ open_yet ∙ cond-false (emptied c) _ _ some ∙ ap drawn (fresh_verdict c.rows (left_arc c l) f)

    pub right_permits : (l : ℕ) → Fresh (words c) (table_arcs c.rows) (right_arc c l) → verdict c (RightArc l) ≡ Ok (Some (right_arc c l))
    right_permits l f = cond-false (finished c) _ _ open_yet ∙ cond-false (emptied c) _ _ some ∙ ap drawn (fresh_verdict c.rows (right_arc c l) f)

-- where there is a transition the move is permitted
permitted : (c : Configuration) {t u : Quadruple} {m : Move} → Kept c → Transition t m u → t ≡ shown c → Permits c m
permitted c k (Transition.shift {j = j} {β = β} same) e = (None, shift_permits c (buffer_first c j β (ap (λ (x : Quadruple). x.B) e)).0)
permitted c k (Transition.left_arc {i = i} {j = j} {l = l} {first = first} {β = β} {before = before} not free above same) e =
    let (h, at) = buffer_first c j β (ap (λ (x : Quadruple). x.B) e) in
    let (g, up) = list_last c.left first i (ap (λ (x : Quadruple). x.λ₁) e) in
    let drew : before ≡ table_arcs c.rows = ap (λ (x : Quadruple). x.arcs) e in
    let low = k.lists in (
      Some (left_arc c l),
      left_permits c h g l (record {
        joins = record { word = (omega (arith, not), omega arith); head = h };
        headless = subst (λ (as' : List Arc). HeadlessIn as' (last c)) drew (subst (HeadlessIn before) up free);
        apart = λ z. omega arith;
        not_below = λ x. above (subst (λ (y : ℕ). Above before y j) (sym up) (subst (Above before (last c)) (sym at) (subst (λ (as' : List Arc). Above as' (last c) c.front) (sym drew) x)));
      }),
    )
permitted c k (Transition.right_arc {i = i} {j = j} {l = l} {first = first} {β = β} {before = before} free above same) e =
    let (h, at) = buffer_first c j β (ap (λ (x : Quadruple). x.B) e) in
    let (g, up) = list_last c.left first i (ap (λ (x : Quadruple). x.λ₁) e) in
    let drew : before ≡ table_arcs c.rows = ap (λ (x : Quadruple). x.arcs) e in
    let low = k.lists in
    let some = k.some in (
      Some (right_arc c l),
      right_permits c h g l (record {
        joins = record { word = (some, h); head = omega arith };
        headless = subst (λ (as' : List Arc). HeadlessIn as' c.front) drew (subst (HeadlessIn before) at free);
        apart = λ z. omega arith;
        not_below = λ x. above (subst (λ (y : ℕ). Above before y i) (sym at) (subst (Above before c.front) (sym up) (subst (λ (as' : List Arc). Above as' c.front (last c)) (sym drew) x)));
      }),
    )
permitted c k (Transition.no_arc {i = i} {j = j} {first = first} {β = β} same) e =
    let (h, at) = buffer_first c j β (ap (λ (x : Quadruple). x.B) e) in
    let (g, up) = list_last c.left first i (ap (λ (x : Quadruple). x.λ₁) e) in
    (None, pass_permits c h g)

-- an answered move is as defined
pub defined : (c d : Configuration) (m : Move) (v : Verdict) → Arises list_based start c → v ≡ verdict c m → MatchResult v (λ _. d ≡ next c m) (λ _. d ≡ c) → AsDefined c m v d
defined c d m (Ok a) h e n = subst (λ (x : Configuration). Transition (shown c) m (shown x)) (sym n) (accepted (makes c m a (sym e)) (kept h))
defined c d m (Err f) h e n = (λ t s. let (a, p) = permitted c (kept h) s refl in impossible (e ∙ p), n)
