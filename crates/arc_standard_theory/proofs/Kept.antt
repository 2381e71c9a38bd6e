-- What every configuration keeps: the stack descends from the buffer to the root, and the words in play have no head.
use Rattle.std.proofs.Common.{◌≡◌, ℕ, ◌+◌, ◌≤◌, ◌⊎◌, List, ◌∷◌, length, Option, sym, refl, ap, ◌∙◌, subst, inl, inr, arith}
use mathlib.Core.List.Memᴰ
use mathlib.Core.List.{Memᴰ}
use lib.ListN.{length-replicate}
use Rattle.std.proofs.lemmas.Bool.{cases_eq}
use Rattle.treebank.specs.declared.arcs.Arc.{Arc}
use Rattle.treebank.specs.declared.moves.Move.{Move}
use Rattle.treebank.specs.declared.rows.Row.{Row}
use Rattle.treebank.specs.Tables.{arc, table_arcs}
use Rattle.treebank.specs.Trees.{◌∈◌, Above, SameArcs, Fresh}
use Rattle.treebank.proofs.Ways.{last_arc}
use Rattle.transition.specs.Runs.{Arises}
use Rattle.transition.proofs.Running.{arises_keeps}
use Rattle.arc_store.specs.Drawing.{put, bare}
use Rattle.arc_store.proofs.Putting.{put_length, put_fresh, none_drawn}
use Rattle.arc_standard_theory.specs.Configurations.{Configuration, configuration, words, start}
use Rattle.arc_standard_theory.specs.Moves.{arc_standard}
use Rattle.arc_standard_theory.proofs.Accepted.{Makes, makes}
use Rattle.arc_standard_theory.proofs.Descending.{Under, under_mem, under_more, place, play_second, play_top, play_not_second, play_not_top, play_shift, play_unshift}
use Rattle.arc_standard_theory.specs.Viable.{Play}

-- on the stack or in the buffer
abbrev pub In : Configuration → ℕ → Type 0
In c x = Play (words c) c.stack c.front x

pub record Kept (c : Configuration) : Type 0 where
  pub small : words c ≤ 100
  pub upto : c.front ≤ words c + 1
  pub under : Under c.front c.stack
  pub ground : Memᴰ 0 c.stack
  pub headless : {x : ℕ} → In c x → (a : Arc) → a ∈ table_arcs c.rows → a.word ≡ x → ⊥
  pub out : (d : ℕ) → 1 ≤ d → d ≤ words c → In c d ⊎ ((a : Arc) × (a ∈ table_arcs c.rows) × (a.word ≡ d))

-- an arc is drawn, and its dependent is all that leaves
module _ {b : ℕ} {st st' : List ℕ} {w : List Row} (a : Arc) (k : Kept (configuration st b w)) (fresh : Fresh (length w) (table_arcs w) a)
    (down : Under b st') (root : Memᴰ 0 st')
    (less : (x : ℕ) → Play (length w) st' b x → Play (length w) st b x × (x ≡ a.word → ⊥))
    (rest : (x : ℕ) → Play (length w) st b x → (x ≡ a.word → ⊥) → Play (length w) st' b x) where
  more : SameArcs (table_arcs (put w a)) (a ∷ table_arcs w)
  more = put_fresh w a k.small fresh

  still_headless : {x : ℕ} → Play (length w) st' b x → (e : Arc) → e ∈ table_arcs (put w a) → e.word ≡ x → ⊥
  still_headless {x} p e m f = at (Memᴰ.cases_cons ((more e).0 m))
    where
      at : (e ≡ a) ⊎ (e ∈ table_arcs w) → ⊥
      at (inl g) = (less x p).1 (sym f ∙ ap (λ (y : Arc). y.word) g)
      at (inr q) = k.headless (less x p).0 e q f

  still_out : (d : ℕ) → 1 ≤ d → d ≤ length w → Play (length w) st' b d ⊎ ((e : Arc) × (e ∈ table_arcs (put w a)) × (e.word ≡ d))
  still_out d l h = at (cases_eq d a.word) (k.out d l h)
    where
      at : (d ≡ a.word) ⊎ (d ≡ a.word → ⊥) → Play (length w) st b d ⊎ ((e : Arc) × (e ∈ table_arcs w) × (e.word ≡ d)) → Play (length w) st' b d ⊎ ((e : Arc) × (e ∈ table_arcs (put w a)) × (e.word ≡ d))
      at (inl e) o = inr (a, (more a).1 (Memᴰ.head refl), sym e)
      at (inr not) (inl p) = inl (rest d p not)
      at (inr not) (inr (e, m, f)) = inr (e, (more e).1 (Memᴰ.tail m), f)

  pub kept_arc : Kept (configuration st' b (put w a))
  kept_arc =
      let same : length w ≡ length (put w a) = sym (put_length w a) in
      record {
        small = subst (λ (n : ℕ). n ≤ 100) same k.small;
        upto = subst (λ (n : ℕ). b ≤ n + 1) same k.upto;
        under = down;
        ground = root;
        headless = λ {x} p. still_headless (subst (λ (n : ℕ). Play n st' b x) (sym same) p);
        out = λ d l h. subst (λ (n : ℕ). Play n st' b d ⊎ ((e : Arc) × (e ∈ table_arcs (put w a)) × (e.word ≡ d))) same (still_out d l (subst (λ (n : ℕ). d ≤ n) (sym same) h));
      }

kept_next : {c d : Configuration} {m : Move} {a : Option Arc} → Makes c m a d → Kept c → Kept d
kept_next (Makes.shift {b = b} {st = st} {w = w} h) k = record {
  small = k.small;
  upto = omega arith;
  under = (omega arith, k.under);
  ground = Memᴰ.tail k.ground;
  headless = λ {x} p. k.headless (play_unshift h p);
  out = λ d l g. at d (k.out d l g);
}
  where
    at : (d : ℕ) → Play (length w) st b d ⊎ ((e : Arc) × (e ∈ table_arcs w) × (e.word ≡ d)) → Play (length w) (b ∷ st) (b + 1) d ⊎ ((e : Arc) × (e ∈ table_arcs w) × (e.word ≡ d))
    at d (inl p) = inl (play_shift p)
    at d (inr p) = inr p
kept_next (Makes.left {b = b} {j = j} {i = i} {l = l} {s = s} {w = w} f) k =
    let u = k.under in
    kept_arc (arc j l i) k f (u.0, under_more i j s (let t = u.1.0 in omega arith) u.1.1) (ground (Memᴰ.cases_cons k.ground)) less rest
  where
    ground' : (0 ≡ i) ⊎ Memᴰ 0 s → Memᴰ 0 (j ∷ s)
    ground' (inl e) = absurd (let t = f.joins.word.0 in omega arith)
    ground' (inr m) = Memᴰ.tail m

    ground : (0 ≡ j) ⊎ Memᴰ 0 (i ∷ s) → Memᴰ 0 (j ∷ s)
    ground (inl e) = Memᴰ.head e
    ground (inr m) = ground' (Memᴰ.cases_cons m)

    apart : {x : ℕ} → Play (length w) (j ∷ s) b x → x ≡ i → ⊥
    apart (inl (Memᴰ.head e)) g = let t = k.under.1.0 in omega arith
    apart (inl (Memᴰ.tail m)) g = let t = under_mem i s k.under.1.1 m in omega arith
    apart (inr (p, q)) g = let t = k.under.1.0 in let r = k.under.0 in omega arith

    less : (x : ℕ) → Play (length w) (j ∷ s) b x → Play (length w) (j ∷ (i ∷ s)) b x × (x ≡ i → ⊥)
    less x p = (play_second p, apart p)

    rest : (x : ℕ) → Play (length w) (j ∷ (i ∷ s)) b x → (x ≡ i → ⊥) → Play (length w) (j ∷ s) b x
    rest x p not = play_not_second not (place k.under p)
kept_next (Makes.right {b = b} {j = j} {i = i} {l = l} {s = s} {w = w} f) k =
    let u = k.under in
    kept_arc (arc i l j) k f (let t = u.0 in let r = u.1.0 in omega arith, u.1.1) (ground (Memᴰ.cases_cons k.ground)) less rest
  where
    ground : (0 ≡ j) ⊎ Memᴰ 0 (i ∷ s) → Memᴰ 0 (i ∷ s)
    ground (inl e) = absurd (let t = k.under.1.0 in omega arith)
    ground (inr m) = m

    apart : {x : ℕ} → Play (length w) (i ∷ s) b x → x ≡ j → ⊥
    apart (inl m) g = let t = under_mem j (i ∷ s) k.under.1 m in omega arith
    apart (inr (p, q)) g = let r = k.under.0 in omega arith

    less : (x : ℕ) → Play (length w) (i ∷ s) b x → Play (length w) (j ∷ (i ∷ s)) b x × (x ≡ j → ⊥)
    less x p = (play_top p, apart p)

    rest : (x : ℕ) → Play (length w) (j ∷ (i ∷ s)) b x → (x ≡ j → ⊥) → Play (length w) (i ∷ s) b x
    rest x p not = play_not_top not (place k.under p)

kept_start : (n : ℕ) → n ≤ 100 → Kept (start n)
kept_start n h =
    let same = length-replicate n bare in
    record {
      small = omega arith;
      upto = omega arith;
      under = (omega arith, tt);
      ground = Memᴰ.head refl;
      headless = λ p a m. absurd (Memᴰ.not-nil (subst (λ (l : List Arc). a ∈ l) (none_drawn 1 n) m));
      out = λ d l g. inl (inr (l, g));
    }

pub kept : {c : Configuration} → Arises arc_standard start c → Kept c
kept h = arises_keeps {M = arc_standard} start Kept (λ c m a i p v k. kept_next (makes c m a v) k) kept_start h

-- no arc leads down to a node in play
pub none_above : {c : Configuration} → Kept c → {x y : ℕ} → Above (table_arcs c.rows) x y → In c y → ⊥
none_above k p inside = let (a, m, e) = last_arc p in k.headless inside a m e
