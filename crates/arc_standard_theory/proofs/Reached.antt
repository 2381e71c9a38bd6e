-- What is viable is what can be reached.
use Rattle.std.proofs.Common.{◌≡◌, ℕ, ◌≤◌, true, ◌⊎◌, List, [], ◌∷◌, length, None, Option, sym, refl, ap, subst, inl, inr, arith}
use mathlib.Core.List.Memᴰ
use mathlib.Core.List.{Memᴰ}
use Rattle.std.proofs.lemmas.Bool.{eqb-true, ltb-true, and_parts, cond-true, cond-false}
use Rattle.treebank.specs.declared.arcs.Arc.{Arc}
use Rattle.treebank.specs.declared.moves.Move.{Move}
use Rattle.treebank.specs.declared.rows.Row.{Row}
use Rattle.treebank.specs.Tables.{arc, GoodTable, is_good_table, table_arcs}
use Rattle.treebank.specs.Trees.{◌∈◌, Heads, Acyclic, SameArcs}
use Rattle.treebank.proofs.Said.{table_single}
use Rattle.treebank.proofs.Ways.{above_sub}
use Rattle.treebank.proofs.Goodness.{table_fits, not_good}
use Rattle.transition.proofs.Forests.{arcs_forest}
use Rattle.arc_store.specs.Drawing.{put}
use Rattle.arc_store.proofs.Putting.{put_length, put_fresh}
use Rattle.arc_store.proofs.Verdicts.{none_either}
use Rattle.guidance.specs.Guides.{Guides}
use Rattle.guidance.specs.Viability.{Viability, ViableExactly}
use Rattle.guidance.proofs.Viably.{viable_guides, viable_exactly}
use Rattle.arc_standard_theory.specs.Configurations.{Configuration, configuration, words, start, root_alone, emptied, finished}
use Rattle.arc_standard_theory.specs.Moves.{arc_standard}
use Rattle.arc_standard_theory.proofs.Accepted.{Makes, makes}
use Rattle.arc_standard_theory.proofs.Kept.{Kept, kept, In}
use Rattle.arc_standard_theory.proofs.Lawful.{lawful}
use Rattle.arc_standard_theory.specs.Viable.{Total, Spine, Rest, Viable}
use Rattle.arc_standard_theory.proofs.Back.{back_shift, back_left, back_right}
use Rattle.arc_standard_theory.proofs.Advised.{on_any}

alone_zero : (st : List ℕ) → root_alone st ≡ true → st ≡ 0 ∷ []
alone_zero [] e = absurd (let z : ◌≡◌ {A = ℕ} 0 1 = cc in omega arith)
alone_zero (x ∷ []) e = ap (λ (y : ℕ). y ∷ []) (eqb-true x 0 e)
alone_zero (x ∷ (y ∷ s)) e = absurd (let z : ◌≡◌ {A = ℕ} 0 1 = cc in omega arith)

-- when finished no word is in play
idle : (c : Configuration) → finished c ≡ true → {x : ℕ} → In c x → x ≡ 0
idle c e {x} p = at p
  where
    q : (root_alone c.stack ≡ true) × (emptied c ≡ true)
    q = and_parts (root_alone c.stack) (emptied c) e

    one : Memᴰ x (0 ∷ []) → x ≡ 0
    one (Memᴰ.head f) = f
    one (Memᴰ.tail m) = absurd (Memᴰ.not-nil m)

    at : In c x → x ≡ 0
    at (inl m) = one (subst (Memᴰ x) (alone_zero c.stack q.0) m)
    at (inr (l, k)) = absurd (let t = ltb-true (words c) c.front q.1 in omega arith)

-- finished, viable says that the arcs are the table's
module _ {c : Configuration} (k : Kept c) (e : finished c ≡ true) (w : List Row) (good : GoodTable (words c) w) where
  word_of : (a : Arc) → a ∈ table_arcs w → (1 ≤ a.word) × (a.word ≤ words c)
  word_of a m = (table_fits (words c) w good k.small a m).0.word

  ends_same : Viable c w → SameArcs (table_arcs c.rows) (table_arcs w)
  ends_same v a = (v.into a, λ m. at m (k.out a.word (word_of a m).0 (word_of a m).1))
    where
      at : a ∈ table_arcs w → In c a.word ⊎ ((b : Arc) × (b ∈ table_arcs c.rows) × (b.word ≡ a.word)) → a ∈ table_arcs c.rows
      at m (inl p) = absurd (let z = idle c e p in let o = (word_of a m).0 in omega arith)
      at m (inr (b, q, f)) = Memᴰ.cast (table_single w a b m (v.into b q) (sym f)) q

  no_head : {h d : ℕ} {A : Type 0} → Heads (table_arcs w) h d → In c d → A
  no_head {h} {d} (l, m) p = absurd (let z = idle c e p in let o = (word_of (arc h l d) m).0 in omega arith)

  same_ends : Acyclic (table_arcs c.rows) → SameArcs (table_arcs c.rows) (table_arcs w) → Viable c w
  same_ends acyclic s = record {
    acyclic = λ x p. acyclic x (above_sub (λ b. (s b).1) p);
    total = λ d lo hi. full d lo (k.out d lo hi);
    into = λ a. (s a).0;
    rest = record {
      closed = λ g p. no_head g p;
      cover = λ g p q t. no_head g p;
      spine = subst (Spine (table_arcs w)) (sym (alone_zero c.stack (and_parts (root_alone c.stack) (emptied c) e).0)) ((λ u v m. absurd (Memᴰ.not-nil m)), tt);
    };
  }
    where
      full : (d : ℕ) → 1 ≤ d → In c d ⊎ ((b : Arc) × (b ∈ table_arcs c.rows) × (b.word ≡ d)) → (h : ℕ) × Heads (table_arcs w) h d
      full d lo (inl p) = absurd (let z = idle c e p in omega arith)
      full d lo (inr (b, m, f)) = subst (λ (x : ℕ). (h : ℕ) × Heads (table_arcs w) h x) f (b.head, (b.label, (s b).0 m))

-- a move back
undrawn : {st st' : List ℕ} {b : ℕ} (rows w : List Row) (a : Arc) → ((e : Arc) → e ∈ (a ∷ table_arcs rows) → e ∈ table_arcs (put rows a)) → Viable (configuration st' b (put rows a)) w →
    (a ∈ table_arcs w → Rest (table_arcs w) (length rows) st' b → Rest (table_arcs w) (length rows) st b) → Viable (configuration st b rows) w
undrawn {st} {st'} {b} rows w a more v r = record {
  acyclic = v.acyclic;
  total = subst (λ (n : ℕ). Total n (table_arcs w)) (put_length rows a) v.total;
  into = λ e m. v.into e (more e (Memᴰ.tail m));
  rest = r (v.into a (more a (Memᴰ.head refl))) (subst (λ (n : ℕ). Rest (table_arcs w) n st' b) (put_length rows a) v.rest);
}

back : {c d : Configuration} {m : Move} {a : Option Arc} (w : List Row) → Makes c m a d → Kept c → Viable d w → Viable c w
back w (Makes.shift h) k v = record { acyclic = v.acyclic; total = v.total; into = v.into; rest = back_shift h v.rest }
back w (Makes.left {j = j} {i = i} {l = l} {w = rows} f) k v =
    undrawn rows w (arc j l i) (λ e. (put_fresh rows (arc j l i) k.small f e).1) v (λ m r. back_left (table_single w) k.under (l, m) r)
back w (Makes.right {j = j} {i = i} {l = l} {w = rows} f) k v =
    undrawn rows w (arc i l j) (λ e. (put_fresh rows (arc i l j) k.small f e).1) v (λ m r. back_right (table_single w) k.under (l, m) r)

pub viability : Viability arc_standard start Viable
viability = record {
  ends = λ {c} w h good e. (ends_same (kept h) e w good, same_ends (kept h) e w good (arcs_forest lawful h).acyclic);
  back = λ {c} w m a h good v x. back w (makes c m a v) (kept h) x;
  on = λ {c} w h good u x. on_any c.stack c.front c.rows w good (kept h) u x;
}

-- the law of advice
pub guides : Guides arc_standard start
guides = viable_guides lawful viability (λ c w e. cond-true (finished c) None _ e)
    (λ c w f. none_either (finished c) (cond-false (is_good_table (words c) w) _ None (not_good (words c) w f)))

-- reachable, viable and made by the advice are one
pub exactly : ViableExactly arc_standard start Viable
exactly = viable_exactly lawful viability guides
