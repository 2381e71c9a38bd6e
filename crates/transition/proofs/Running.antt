-- Runs joined and split, and what every run keeps.
use Rattle.std.proofs.Common.{◌≡◌, ℕ, ◌≤◌, List, [], ◌∷◌, ◌++◌, Ok, Option, sym, refl, ◌∙◌}
use Rattle.treebank.specs.declared.arcs.Arc.{Arc}
use Rattle.treebank.specs.declared.moves.Move.{Move}
use Rattle.treebank.specs.Moves.{Proper}
use Rattle.transition.specs.Meaning.{Meaning}
use Rattle.transition.specs.Runs.{Run, Arises, after}

module _ {M : Meaning} where
  pub run_after : {c d : M.Config} {ms : List Move} → Run M c ms d → d ≡ after M c ms
  run_after Run.stay = refl
  run_after (Run.move p v r) = run_after r

  pub run_unique : {c d e : M.Config} {ms : List Move} → Run M c ms d → Run M c ms e → d ≡ e
  run_unique r s = run_after r ∙ sym (run_after s)

  pub run_join : {c d e : M.Config} {ms ns : List Move} → Run M c ms d → Run M d ns e → Run M c (ms ++ ns) e
  run_join Run.stay s = s
  run_join (Run.move p v r) s = Run.move p v (run_join r s)

  pub run_one : {c : M.Config} {m : Move} {a : Option Arc} → Proper m → M.verdict c m ≡ Ok a → Run M c (m ∷ []) (M.next c m)
  run_one p v = Run.move p v Run.stay

  module _ {start : ℕ → M.Config} where
    pub arises_start : {n : ℕ} → n ≤ 100 → Arises M start (start n)
    arises_start {n} h = (n, h, [], Run.stay)

    pub arises_run : {c d : M.Config} {ms : List Move} → Arises M start c → Run M c ms d → Arises M start d
    arises_run {ms} h r = (h.0, h.1, h.2 ++ ms, run_join h.3 r)

    pub arises_next : {c : M.Config} {m : Move} {a : Option Arc} → Arises M start c → Proper m → M.verdict c m ≡ Ok a → Arises M start (M.next c m)
    arises_next h p v = arises_run h (run_one p v)

  -- what each permitted move keeps, a run keeps
  module _ (start : ℕ → M.Config) (P : M.Config → Type 0)
      (step : (c : M.Config) (m : Move) (a : Option Arc) → Arises M start c → Proper m → M.verdict c m ≡ Ok a → P c → P (M.next c m)) where
    pub run_keeps : {c d : M.Config} {ms : List Move} → Arises M start c → P c → Run M c ms d → P d
    run_keeps h p Run.stay = p
    run_keeps h p (Run.move {c = c} {m = m} {a = a} q v r) = run_keeps (arises_next h q v) (step c m a h q v p) r

    pub arises_keeps : ((n : ℕ) → n ≤ 100 → P (start n)) → {c : M.Config} → Arises M start c → P c
    arises_keeps base h = run_keeps (arises_start h.1) (base h.0 h.1) h.3
