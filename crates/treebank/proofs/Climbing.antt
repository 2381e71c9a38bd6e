-- The climb decides what stands above a word: one that takes more arcs than there are words comes twice to one word.
use Rattle.std.proofs.Common.{◌≡◌, ℕ, zero, suc, ◌+◌, ◌-◌, ◌<◌, ◌≤◌, Bool, true, false, cond, ◌||◌, eqb, ◌⊎◌, ◌↔◌, List, [], ◌∷◌, length, Some, None, Option, sym, refl, ap, ◌∙◌, subst, inl, inr, arith}
use mathlib.Core.List.Memᴰ
use mathlib.Core.List.{Memᴰ}
use Rattle.std.proofs.lemmas.Bool.{eqb-true, eqb-false, eq-eqb, ne_eqb, or_cases, or_left, or_right, cases_eq}
use Rattle.treebank.specs.declared.arcs.Arc.{Arc}
use Rattle.treebank.specs.declared.rows.Row.{Row}
use Rattle.treebank.specs.Tables.{arc_into, table_arcs}
use Rattle.treebank.specs.Trees.{◌∈◌, Above}
use Rattle.treebank.specs.Climbs.{rise, climbs, comes_to}
use Rattle.treebank.proofs.Said.{into_word, into_mem, mem_into, table_single, table_words}

-- what the climb finds stands above
pub climbs_above : (w : List Row) (x k y : ℕ) → climbs w x k y ≡ true → Above (table_arcs w) x y
climbs_above w x zero y t = cc
climbs_above w x (suc k) y t = at (arc_into w y) refl t (climbs_above w x k)
  where
    here : (a : Arc) → a ∈ table_arcs w → a.word ≡ y → (eqb a.head x ≡ true) ⊎ (climbs w x k a.head ≡ true) → ((z : ℕ) → climbs w x k z ≡ true → Above (table_arcs w) x z) → Above (table_arcs w) x y
    here a m e (inl u) rest = subst (Above (table_arcs w) x) e (subst (λ (h : ℕ). Above (table_arcs w) h a.word) (eqb-true _ _ u) (Above.one m))
    here a m e (inr u) rest = subst (Above (table_arcs w) x) e (Above.more (rest a.head u) m)

    at : (o : Option Arc) → arc_into w y ≡ o → rise x (climbs w x k) o ≡ true → ((z : ℕ) → climbs w x k z ≡ true → Above (table_arcs w) x z) → Above (table_arcs w) x y
    at None e t rest = cc
    at (Some a) e t rest = here a (into_mem w y a e) (into_word w y a e).2 (or_cases (eqb a.head x) (climbs w x k a.head) t) rest

-- a list of words without one of them
abbrev less : ℕ → List ℕ → List ℕ
less y [] = []
less y (w ∷ ws) = cond (eqb w y) ws (w ∷ less y ws)

less_length : (y : ℕ) (ws : List ℕ) → Memᴰ y ws → length ws ≡ suc (length (less y ws))
less_length y [] m = absurd (Memᴰ.not-nil m)
less_length y (w ∷ ws) m = at (eqb w y) refl (Memᴰ.cases_cons m) (less_length y ws)
  where
    at : (b : Bool) → eqb w y ≡ b → (y ≡ w) ⊎ Memᴰ y ws → (Memᴰ y ws → length ws ≡ suc (length (less y ws))) → suc (length ws) ≡ suc (length (cond b ws (w ∷ less y ws)))
    at true t n rest = refl
    at false t (inl e) rest = absurd (eqb-false _ _ t (sym e))
    at false t (inr n) rest = ap suc (rest n)

less_keeps : (y z : ℕ) (ws : List ℕ) → Memᴰ z ws → (z ≡ y → ⊥) → Memᴰ z (less y ws)
less_keeps y z [] m other = absurd (Memᴰ.not-nil m)
less_keeps y z (w ∷ ws) m other = at (eqb w y) refl (Memᴰ.cases_cons m) (less_keeps y z ws)
  where
    at : (b : Bool) → eqb w y ≡ b → (z ≡ w) ⊎ Memᴰ z ws → (Memᴰ z ws → (z ≡ y → ⊥) → Memᴰ z (less y ws)) → Memᴰ z (cond b ws (w ∷ less y ws))
    at true t (inl e) rest = absurd (other (e ∙ eqb-true _ _ t))
    at true t (inr n) rest = n
    at false t (inl e) rest = Memᴰ.head e
    at false t (inr n) rest = Memᴰ.tail (rest n other)

-- a way up to x through the words of a list
data Way (arcs : List Arc) (ws : List ℕ) (x : ℕ) : ℕ → Type 0 where
  one : {a : Arc} → a ∈ arcs → Memᴰ a.word ws → a.head ≡ x → Way arcs ws x a.word
  more : {a : Arc} → a ∈ arcs → Memᴰ a.word ws → Way arcs ws x a.head → Way arcs ws x a.word

-- a way past y comes to y for the last time
abbrev Past : List Arc → ℕ → List ℕ → ℕ → Type 0
Past arcs x ws y = (b : Arc) × (b ∈ arcs) × (b.word ≡ y) × ((b.head ≡ x) ⊎ Way arcs (less y ws) x b.head)

module _ {arcs : List Arc} {x : ℕ} where
  way_above : {ws : List ℕ} {y : ℕ} → ((a : Arc) → a ∈ arcs → Memᴰ a.word ws) → Above arcs x y → Way arcs ws x y
  way_above h (Above.one {a = a} m) = Way.one m (h a m) refl
  way_above h (Above.more {a = a} p m) = Way.more m (h a m) (way_above h p)

  past : {ws : List ℕ} (y : ℕ) {z : ℕ} → Way arcs ws x z → Way arcs (less y ws) x z ⊎ Past arcs x ws y
  past {ws} y (Way.one {a = a} m k e) = at (cases_eq a.word y)
    where
      at : (a.word ≡ y) ⊎ (a.word ≡ y → ⊥) → Way arcs (less y ws) x a.word ⊎ Past arcs x ws y
      at (inl f) = inr (a, m, f, inl e)
      at (inr n) = inl (Way.one m (less_keeps y _ ws k n) e)
  past {ws} y (Way.more {a = a} m k p) = at (past y p) (cases_eq a.word y)
    where
      at : Way arcs (less y ws) x a.head ⊎ Past arcs x ws y → (a.word ≡ y) ⊎ (a.word ≡ y → ⊥) → Way arcs (less y ws) x a.word ⊎ Past arcs x ws y
      at (inr r) t = inr r
      at (inl q) (inl f) = inr (a, m, f, inr q)
      at (inl q) (inr n) = inl (Way.more m (less_keeps y _ ws k n) q)

module _ (w : List Row) {x : ℕ} where
  climb_one : (k : ℕ) {a : Arc} → a ∈ table_arcs w → (a.head ≡ x) ⊎ (climbs w x k a.head ≡ true) → climbs w x (suc k) a.word ≡ true
  climb_one k {a} m t = ap (rise x (climbs w x k)) (mem_into w m) ∙ at t
    where
      at : (a.head ≡ x) ⊎ (climbs w x k a.head ≡ true) → (eqb a.head x || climbs w x k a.head) ≡ true
      at (inl e) = or_left _ _ (eq-eqb _ _ e)
      at (inr u) = or_right _ _ u

  climb_way : (k : ℕ) {ws : List ℕ} {y : ℕ} → length ws ≤ k → Way (table_arcs w) ws x y → climbs w x k y ≡ true
  climb_way zero {ws} l (Way.one {a = a} m i e) = absurd (omega (arith, less_length a.word ws i))
  climb_way zero {ws} l (Way.more {a = a} m i p) = absurd (omega (arith, less_length a.word ws i))
  climb_way (suc k) l (Way.one m i e) = climb_one k m (inl e)
  climb_way (suc k) {ws} l (Way.more {a = a} m i p) = climb_one k m (at (past a.word p) (λ z q. climb_way k (omega (arith, less_length a.word ws i)) q))
    where
      at : Way (table_arcs w) (less a.word ws) x a.head ⊎ Past (table_arcs w) x ws a.word → ((z : ℕ) → Way (table_arcs w) (less a.word ws) x z → climbs w x k z ≡ true) → (a.head ≡ x) ⊎ (climbs w x k a.head ≡ true)
      at (inl q) rest = inr (rest _ q)
      at (inr (b, n, e, inl f)) rest = inl (ap (λ (c : Arc). c.head) (table_single w a b m n (sym e)) ∙ f)
      at (inr (b, n, e, inr q)) rest = inr (ap (λ (c : Arc). climbs w x k c.head) (table_single w a b m n (sym e)) ∙ rest _ q)

-- the words up to n
abbrev upto : ℕ → List ℕ
upto zero = []
upto (suc n) = suc n ∷ upto n

upto_length : (n : ℕ) → length (upto n) ≡ n
upto_length zero = refl
upto_length (suc n) = ap suc (upto_length n)

upto_mem : (n d : ℕ) → 1 ≤ d → d ≤ n → Memᴰ d (upto n)
upto_mem zero d h k = absurd (omega arith)
upto_mem (suc n) d h k = at (cases_eq d (suc n)) (upto_mem n d h)
  where
    at : (d ≡ suc n) ⊎ (d ≡ suc n → ⊥) → (d ≤ n → Memᴰ d (upto n)) → Memᴰ d (suc n ∷ upto n)
    at (inl e) rest = Memᴰ.head e
    at (inr e) rest = Memᴰ.tail (rest (omega arith))

-- what stands above is found by a climb of as many arcs as there are words
above_climbs : (w : List Row) {x y : ℕ} → Above (table_arcs w) x y → comes_to w x y ≡ true
above_climbs w p =
    climb_way w (length w) {ws = upto (length w)} (omega (arith, upto_length (length w)))
    (way_above (λ a m. let (lo, hi) = table_words w a m in upto_mem (length w) a.word lo hi) p)

-- with circles or without, the climb tells exactly what stands above
pub climb_exact : (w : List Row) (x y : ℕ) → (comes_to w x y ≡ true) ↔ Above (table_arcs w) x y
climb_exact w x y = (climbs_above w x (length w) y, above_climbs w)

-- one arc of a climb of which n - i are left
module _ (w : List Row) (x y n i : ℕ) (h : i < n) where
  left_suc : n - i ≡ suc (n - (i + 1))
  left_suc = omega arith

  climb_next : climbs w x (n - i) y ≡ rise x (climbs w x (n - (i + 1))) (arc_into w y)
  climb_next = ap (λ (k : ℕ). climbs w x k y) left_suc

  pub climb_on : (a : Arc) → Some a ≡ arc_into w y → (a.head ≡ x → ⊥) → climbs w x (n - i) y ≡ climbs w x (n - (i + 1)) a.head
  climb_on a e f = climb_next ∙ ap (rise x (climbs w x (n - (i + 1)))) (sym e) ∙ ap (λ (b : Bool). b || climbs w x (n - (i + 1)) a.head) (ne_eqb _ _ f)

-- an answer that is the climb's tells what stands above
pub told : (w : List Row) (x y : ℕ) (r : Bool) → r ≡ comes_to w x y → (r ≡ true) ↔ Above (table_arcs w) x y
told w x y r e = (λ t. (climb_exact w x y).0 (sym e ∙ t), λ p. e ∙ (climb_exact w x y).1 p)
