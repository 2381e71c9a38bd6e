-- A viable table is just one that can be reached, and then the advice guides.
use Rattle.std.proofs.Common.{◌≡◌, ℕ, zero, suc, ◌<◌, Bool, true, false, ◌↔◌, List, [], ◌∷◌, None, refl, arith}
use Rattle.treebank.specs.declared.moves.Move.{Move}
use Rattle.treebank.specs.declared.rows.Row.{Row}
use Rattle.treebank.specs.Tables.{GoodTable, table_arcs}
use Rattle.treebank.specs.Trees.{SameArcs}
use Rattle.transition.specs.Meaning.{Meaning}
use Rattle.transition.specs.Runs.{Run, Reaches, Arises}
use Rattle.transition.specs.Laws.{Laws}
use Rattle.transition.proofs.Running.{arises_next}
use Rattle.guidance.specs.Guides.{Guides}
use Rattle.guidance.specs.Viability.{Viability, ViableExactly}
use Rattle.guidance.proofs.Followed.{good_next, derives}

module _ {M : Meaning} {start : ℕ → M.Config} (laws : Laws M start) {Viable : M.Config → List Row → Type 0} (v : Viability M start Viable) where
  run_viable : (w : List Row) {c d : M.Config} {ms : List Move} → Arises M start c → GoodTable (M.words c) w → Run M c ms d → M.finished d ≡ true → SameArcs (M.arcs d) (table_arcs w) → Viable c w
  run_viable w h good Run.stay e s = (v.ends w h good e).1 s
  run_viable w h good (Run.move {m = m} {a = a} p u r) e s = v.back w m a h good u (run_viable w (arises_next h p u) (good_next laws h u good) r e s)

  module _ (w : List Row) where
    viable_step : {c : M.Config} → Arises M start c → GoodTable (M.words c) w → Viable c w →
        ((d : M.Config) → M.remaining d < M.remaining c → Arises M start d → GoodTable (M.words d) w → Viable d w → Reaches M d w) → Reaches M c w
    viable_step {c} h good x rest = whole (M.finished c) refl
      where
        whole : (b : Bool) → M.finished c ≡ b → Reaches M c w
        whole true e = ([], c, Run.stay, e, (v.ends w h good e).0 x)
        whole false u =
            let (m, a, s, p, k, y) = v.on w h good u x in
            let (ms, d, r, e, t) = rest (M.next c m) (laws.falling m a h k) (arises_next h p k) (good_next laws h k good) y in
            (m ∷ ms, d, Run.move p k r, e, t)

    viable_by : (k : ℕ) {c : M.Config} → M.remaining c < k → Arises M start c → GoodTable (M.words c) w → Viable c w → Reaches M c w
    viable_by zero l h good x = absurd (omega arith)
    viable_by (suc k) l h good x = viable_step h good x (λ d less i g y. viable_by k {c = d} (omega arith) i g y)

    pub viable_reaches : {c : M.Config} → Arises M start c → GoodTable (M.words c) w → Reaches M c w ↔ Viable c w
    viable_reaches {c} h good = (λ (ms, d, r, e, s). run_viable w h good r e s, viable_by (suc (M.remaining c)) (omega arith) h good)

  pub viable_guides :
      ((c : M.Config) (w : List Row) → M.finished c ≡ true → M.advice c w ≡ None) →
      ((c : M.Config) (w : List Row) → (GoodTable (M.words c) w → ⊥) → M.advice c w ≡ None) → Guides M start
  viable_guides ended only_good = record {
    leads = λ {c} w t.
        let (m, a, s, p, k, y) = v.on w t.arises t.good t.unfinished ((viable_reaches w t.arises t.good).0 t.reaches) in
        (m, a, s, p, k, (viable_reaches w (arises_next t.arises p k) (good_next laws t.arises k t.good)).1 y);
    ended = λ {c} w h e. ended c w e;
    only_good = λ {c} w h f. only_good c w f;
  }

  pub viable_exactly : Guides M start → ViableExactly M start Viable
  viable_exactly guides c w h good =
      let (to, from) = viable_reaches w h good in
      let (on, off) = derives laws guides w h good in
      ((to, from), (λ x. on (from x), λ t. to (off t)))
