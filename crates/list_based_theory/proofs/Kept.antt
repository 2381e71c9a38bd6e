-- What every configuration keeps: where the lists end, how many moves were made, and that each arc was passed.
use Rattle.std.proofs.Common.{◌≡◌, ℕ, zero, suc, ◌+◌, ◌-◌, ◌*◌, ◌<◌, ◌≤◌, ◌⊎◌, List, length, Option, sym, refl, subst, inl, inr, suc-mul, mul-suc, mul-add, add-one, arith}
use mathlib.Core.List.Memᴰ
use lib.ListN.{length-replicate}
use Rattle.std.proofs.lemmas.Bool.{cases_eq}
use Rattle.treebank.specs.declared.arcs.Arc.{Arc}
use Rattle.treebank.specs.declared.moves.Move.{Move}
use Rattle.treebank.specs.declared.rows.Row.{Row}
use Rattle.treebank.specs.Tables.{arc, table_arcs}
use Rattle.treebank.specs.Trees.{◌∈◌, Fresh}
use Rattle.transition.specs.Runs.{Arises}
use Rattle.transition.proofs.Running.{arises_keeps}
use Rattle.arc_store.specs.Drawing.{put, bare}
use Rattle.arc_store.proofs.Putting.{put_length, put_fresh, none_drawn}
use Rattle.list_based_theory.specs.Configurations.{Configuration, configuration, words, ceiling, start}
use Rattle.list_based_theory.specs.Moves.{list_based}
use Rattle.list_based_theory.specs.Viable.{low, high}
use Rattle.list_based_theory.proofs.Accepted.{Makes, makes}

-- the ceiling word after word
abbrev sums : ℕ → ℕ
sums zero = 0
sums (suc n) = sums n + (n + 2)

twice_sums : (n : ℕ) → n * (n + 3) ≡ 2 * sums n
twice_sums zero = refl
twice_sums (suc n) = omega (arith, twice_sums n, suc-mul n (suc n + 3), mul-add n (suc n) 3, mul-suc n n, mul-add n n 3)

ceiling_sums : (n : ℕ) → ceiling n ≡ sums n
ceiling_sums n = omega (arith, twice_sums n)

sums_up : (m n : ℕ) → m ≤ n → sums m ≤ sums n
sums_up m zero h = let e : m ≡ 0 = omega arith in rw e (omega arith)
sums_up m (suc n) h = at (cases_eq m (suc n)) (sums_up m n)
  where
    at : (m ≡ suc n) ⊎ (m ≡ suc n → ⊥) → (m ≤ n → sums m ≤ sums n) → sums m ≤ sums n + (n + 2)
    at (inl e) rest = rw e (omega arith)
    at (inr e) rest = omega (arith, rest (omega arith))

pub ceiling_up : (m n : ℕ) → m ≤ n → ceiling m ≤ ceiling n
ceiling_up m n h = omega (arith, ceiling_sums m, ceiling_sums n, sums_up m n h)

pub ceiling_next : (n : ℕ) → ceiling (n + 1) ≡ ceiling n + (n + 2)
ceiling_next n = let e : sums (n + 1) ≡ sums n + (n + 2) = rw add-one refl in omega (arith, ceiling_sums n, ceiling_sums (n + 1))

-- an arc whose two ends were passed together
abbrev pub Behind : ℕ → ℕ → Arc → Type 0
Behind b k a = (high a < b) ⊎ ((high a ≡ b) × (k ≤ low a))

pub record Kept (c : Configuration) : Type 0 where
  pub small : words c ≤ 100
  pub some : 1 ≤ c.front
  pub upto : c.front ≤ words c + 1
  pub lists : c.left ≤ c.front
  pub count : c.made + c.left < ceiling c.front
  pub passed : (a : Arc) → a ∈ table_arcs c.rows → Behind c.front c.left a

behind_down : {b k : ℕ} (a : Arc) → Behind b k a → Behind b (k - 1) a
behind_down a (inl p) = inl p
behind_down a (inr (p, q)) = inr (p, omega arith)

behind_more : {b k : ℕ} (a : Arc) → Behind b k a → Behind (b + 1) (b + 1) a
behind_more a (inl p) = inl (omega arith)
behind_more a (inr (p, q)) = inl (omega arith)

-- one arc more, between the last node of the first list and the first word of the buffer
kept_arc : {b k t : ℕ} {w : List Row} (x : Arc) → Kept (configuration b k t w) → 1 ≤ k → Fresh (length w) (table_arcs w) x → high x ≡ b → low x ≡ k - 1 →
    Kept (configuration b (k - 1) (t + 1) (put w x))
kept_arc {b} {k} {t} {w} x kept h fresh p q =
    let same : length w ≡ length (put w x) = sym (put_length w x) in
    record {
      small = subst (λ (n : ℕ). n ≤ 100) same kept.small;
      some = kept.some;
      upto = subst (λ (n : ℕ). b ≤ n + 1) same kept.upto;
      lists = omega (arith, kept.lists);
      count = omega (arith, kept.count);
      passed = λ a m. at a (Memᴰ.cases_cons ((put_fresh w x kept.small fresh a).0 m));
    }
  where
    at : (a : Arc) → (a ≡ x) ⊎ (a ∈ table_arcs w) → Behind b (k - 1) a
    at a (inl e) = subst (Behind b (k - 1)) (sym e) (inr (p, omega arith))
    at a (inr m) = behind_down a (kept.passed a m)

kept_next : {c d : Configuration} {m : Move} {a : Option Arc} → Makes c m a d → Kept c → Kept d
kept_next (Makes.shift {b = b} h) k = record {
  small = k.small;
  some = omega arith;
  upto = omega arith;
  lists = omega arith;
  count = omega (arith, k.count, ceiling_next b);
  passed = λ a m. behind_more a (k.passed a m);
}
kept_next (Makes.left {b = b} {k = j} {l = l} h g f) k = let e = k.lists in kept_arc (arc b l (j - 1)) k g f (omega arith) (omega arith)
kept_next (Makes.right {b = b} {k = j} {l = l} h g f) k = let e = k.lists in kept_arc (arc (j - 1) l b) k g f (omega arith) (omega arith)
kept_next (Makes.pass h g) k = record {
  small = k.small;
  some = k.some;
  upto = k.upto;
  lists = omega (arith, k.lists);
  count = omega (arith, k.count);
  passed = λ a m. behind_down a (k.passed a m);
}

kept_start : (n : ℕ) → n ≤ 100 → Kept (start n)
kept_start n h =
    let same = length-replicate n bare in
    record {
      small = omega arith;
      some = omega arith;
      upto = omega arith;
      lists = omega arith;
      count = omega arith;
      passed = λ a m. absurd (Memᴰ.not-nil (subst (λ (l : List Arc). a ∈ l) (none_drawn 1 n) m));
    }

pub kept : {c : Configuration} → Arises list_based start c → Kept c
kept h = arises_keeps {M = list_based} start Kept (λ c m a i p v k. kept_next (makes c m a v) k) kept_start h
