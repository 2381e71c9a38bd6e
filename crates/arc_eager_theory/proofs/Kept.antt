-- What a permitted move is, and what every configuration keeps.
use Rattle.std.proofs.Common.{◌≡◌, ℕ, ◌+◌, ◌<◌, ◌≤◌, false, cond, ◌⊎◌, List, ◌∷◌, length, is_some, Some, None, Ok, Option, sym, refl, ap, subst, inl, inr, arith}
use mathlib.Core.List.Memᴰ
use lib.ListN.{length-replicate}
use Rattle.std.proofs.lemmas.Bool.{eqb-false}
use Rattle.treebank.specs.declared.arcs.Arc.{Arc}
use Rattle.treebank.specs.declared.moves.Move.{Move}
use Rattle.treebank.specs.declared.moves.Move.TheVariants.{Shift, LeftArc, RightArc, Reduce, NoArc}
use Rattle.treebank.specs.declared.refusals.Refusal.TheVariants.{Finished, HasNoHead}
use Rattle.treebank.specs.Tables.{arc_into, table_arcs}
use Rattle.treebank.specs.Trees.{◌∈◌, SameArcs, Fresh}
use Rattle.treebank.proofs.Said.{into_mem, into_word, table_words}
use Rattle.transition.specs.Meaning.{Verdict}
use Rattle.transition.specs.Verdicts.{refused}
use Rattle.transition.specs.Runs.{Arises}
use Rattle.transition.proofs.Running.{arises_keeps}
use Rattle.arc_store.specs.Drawing.{put, bare}
use Rattle.arc_store.proofs.Putting.{put_length, put_fresh, none_drawn}
use Rattle.arc_store.proofs.Verdicts.{impossible, passed, stored}
use Rattle.arc_eager_theory.specs.Configurations.{Configuration, configuration, words, start, finished, front, top, under, remaining}
use Rattle.arc_eager_theory.specs.Moves.{left_arc, right_arc, verdict, next, arc_eager}
use Rattle.arc_eager_theory.proofs.Chains.{Desc, Chain, top_under, chain_more, under_desc, under_chain, desc_up, under_length}

-- a permitted move of a configuration that is not finished, and the arc that it draws
pub data Permitted (c : Configuration) : Move → Option Arc → Type 0 where
  shift : Permitted c Shift None
  left : {l : ℕ} → Fresh (words c) (table_arcs c.rows) (left_arc c l) → Permitted c (LeftArc l) (Some (left_arc c l))
  right : {l : ℕ} → Fresh (words c) (table_arcs c.rows) (right_arc c l) → Permitted c (RightArc l) (Some (right_arc c l))
  reduce : {a : Arc} → a ∈ table_arcs c.rows → a.word ≡ top c.stack → Permitted c Reduce None

ok_same : {a o : Option Arc} → ◌≡◌ {A = Verdict} (Ok a) (Ok o) → a ≡ o
ok_same e = cc

reduces : (c : Configuration) (o : Option Arc) (i : Option Arc) → arc_into c.rows (top c.stack) ≡ i → cond (is_some i) (Ok None) (refused HasNoHead) ≡ Ok o → Permitted c Reduce o
reduces c o None i e = impossible e
reduces c o (Some a) i e = subst (Permitted c Reduce) (ok_same e) (Permitted.reduce (into_mem c.rows (top c.stack) a i) (into_word c.rows (top c.stack) a i).2)

pub permitted : (c : Configuration) (m : Move) (o : Option Arc) → verdict c m ≡ Ok o → (finished c ≡ false) × Permitted c m o
permitted c Shift o v = let (p, e) = passed Finished (finished c) _ v in (p, subst (Permitted c Shift) (ok_same e) Permitted.shift)
permitted c (LeftArc l) o v =
    let (p, e) = passed Finished (finished c) _ v in
    let (same, fresh) = stored c.rows (left_arc c l) o e in
    (p, subst (Permitted c (LeftArc l)) (sym same) (Permitted.left fresh))
permitted c (RightArc l) o v =
    let (p, e) = passed Finished (finished c) _ v in
    let (same, fresh) = stored c.rows (right_arc c l) o e in
    (p, subst (Permitted c (RightArc l)) (sym same) (Permitted.right fresh))
permitted c Reduce o v = let (p, e) = passed Finished (finished c) _ v in (p, reduces c o (arc_into c.rows (top c.stack)) refl e)
permitted c NoArc o v = impossible v

pub record Kept (c : Configuration) : Type 0 where
  pub small : words c ≤ 100
  pub upto : c.done ≤ words c
  pub desc : Desc (c.done + 1) c.stack
  pub chain : Chain (table_arcs c.rows) c.stack
  pub buffer : (a : Arc) → a ∈ table_arcs c.rows → a.word ≤ c.done

pub inside : {c : Configuration} → Kept c → finished c ≡ false → c.done < words c
inside {c} k e = let u = k.upto in omega (arith, eqb-false c.done (words c) e)

module _ {c : Configuration} (k : Kept c) (inner : c.done < words c) where
  popped : 1 ≤ top c.stack → Desc (c.done + 1) (under c.stack)
  popped p = desc_up (top c.stack) (c.done + 1) (under c.stack) (under_desc _ c.stack k.desc (omega arith)) (top_under (c.done + 1) c.stack k.desc (omega arith)).0 p

  -- one arc more
  kept_arc : (x : Arc) (st : List ℕ) (d : ℕ) → Fresh (words c) (table_arcs c.rows) x → c.done ≤ d → d ≤ words c → x.word ≤ d → Desc (d + 1) st →
      (((a : Arc) → a ∈ table_arcs (put c.rows x) → a ∈ (x ∷ table_arcs c.rows)) → Chain (table_arcs (put c.rows x)) st) → Kept (configuration st d (put c.rows x))
  kept_arc x st d f lo hi w h chain =
      let same : words c ≡ length (put c.rows x) = sym (put_length c.rows x) in
      record {
        small = subst (λ (n : ℕ). n ≤ 100) same k.small;
        upto = subst (λ (n : ℕ). d ≤ n) same hi;
        desc = h;
        chain = chain (λ a. (more a).0);
        buffer = λ a n. at a (Memᴰ.cases_cons ((more a).0 n));
      }
    where
      more : SameArcs (table_arcs (put c.rows x)) (x ∷ table_arcs c.rows)
      more = put_fresh c.rows x k.small f

      at : (a : Arc) → (a ≡ x) ⊎ (a ∈ table_arcs c.rows) → a.word ≤ d
      at a (inl e) = subst (λ (y : Arc). y.word ≤ d) (sym e) w
      at a (inr n) = let b = k.buffer a n in omega arith

  kept_next : (m : Move) (o : Option Arc) → Permitted c m o → Kept (next c m)
  kept_next m o Permitted.shift = record {
    small = k.small;
    upto = omega arith;
    desc = (omega arith, k.desc);
    chain = (λ a n e. let b = k.buffer a n in absurd (omega arith), k.chain);
    buffer = λ a n. let b = k.buffer a n in omega arith;
  }
  kept_next m o (Permitted.left {l = l} f) =
      let (below, in_stack) = top_under (c.done + 1) c.stack k.desc (omega arith) in
      let low = f.joins.word.0 in
      kept_arc (left_arc c l) (under c.stack) c.done f (omega arith) k.upto (omega arith) (popped low)
      (λ same. chain_more (table_arcs c.rows) _ (left_arc c l) (top c.stack) (under c.stack) same (under_desc (c.done + 1) c.stack k.desc (omega arith)) (omega arith) (under_chain _ c.stack k.chain))
  kept_next m o (Permitted.right {l = l} f) =
      kept_arc (right_arc c l) (front c ∷ c.stack) (c.done + 1) f (omega arith) (omega arith) (omega arith) (omega arith, k.desc)
      (λ same. ((λ a n e. tops a e (Memᴰ.cases_cons (same a n))), chain_more (table_arcs c.rows) _ (right_arc c l) (c.done + 1) c.stack same k.desc (omega arith) k.chain))
    where
      tops : (a : Arc) → a.word ≡ front c → (a ≡ right_arc c l) ⊎ (a ∈ table_arcs c.rows) → a.head ≡ top c.stack
      tops a e (inl i) = ap (λ (b : Arc). b.head) i
      tops a e (inr n) = let b = k.buffer a n in absurd (omega arith)
  kept_next m o (Permitted.reduce {a = a} n e) = record {
    small = k.small;
    upto = k.upto;
    desc = popped (let t = (table_words c.rows a n).0 in omega arith);
    chain = under_chain _ c.stack k.chain;
    buffer = k.buffer;
  }

  pub falls : (m : Move) (o : Option Arc) → Permitted c m o → (words (next c m) ≡ words c) × (remaining (next c m) < remaining c)
  falls m o Permitted.shift = (refl, omega arith)
  falls m o (Permitted.left {l = l} f) = let same = put_length c.rows (left_arc c l) in (same, omega (arith, under_length (c.done + 1) c.stack k.desc (omega arith)))
  falls m o (Permitted.right {l = l} f) = let same = put_length c.rows (right_arc c l) in (same, omega arith)
  falls m o (Permitted.reduce n e) = (refl, omega (arith, under_length (c.done + 1) c.stack k.desc (omega arith)))

kept_start : (n : ℕ) → n ≤ 100 → Kept (start n)
kept_start n h =
    let same = length-replicate n bare in
    record {
      small = omega arith;
      upto = omega arith;
      desc = (omega arith, refl);
      chain = (λ a m e. absurd (none a m), tt);
      buffer = λ a m. absurd (none a m);
    }
  where
    none : (a : Arc) → a ∈ table_arcs (start n).rows → ⊥
    none a m = Memᴰ.not-nil (subst (λ (l : List Arc). a ∈ l) (none_drawn 1 n) m)

pub kept : {c : Configuration} → Arises arc_eager start c → Kept c
kept h = arises_keeps {M = arc_eager} start Kept (λ c m o i p v k. let (e, q) = permitted c m o v in kept_next k (inside k e) m o q) kept_start h
