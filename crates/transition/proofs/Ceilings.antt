-- Each move takes one or more of what remains, and the sentence keeps its words.
use Rattle.std.proofs.Common.{◌≡◌, ℕ, ◌+◌, ◌<◌, ◌≤◌, List, length, ◌∙◌, arith}
use Rattle.treebank.specs.declared.moves.Move.{Move}
use Rattle.transition.specs.Meaning.{Meaning}
use Rattle.transition.specs.Runs.{Run, Arises}
use Rattle.transition.specs.Laws.{Laws}
use Rattle.transition.proofs.Running.{arises_next, arises_start, run_keeps}

module _ {M : Meaning} {start : ℕ → M.Config} (laws : Laws M start) where
  pub run_falls : {c d : M.Config} {ms : List Move} → Arises M start c → Run M c ms d → length ms + M.remaining d ≤ M.remaining c
  run_falls h Run.stay = omega arith
  run_falls {d = d} h (Run.move {c = c} {m = m} {ms = ms} {a = a} p v r) =
      let rest : length ms + M.remaining d ≤ M.remaining (M.next c m) = run_falls (arises_next h p v) r in
      let down : M.remaining (M.next c m) < M.remaining c = laws.falling m a h v in
      omega arith

  pub bounded : {n : ℕ} {ms : List Move} {c : M.Config} → n ≤ 100 → Run M (start n) ms c → length ms + M.remaining c ≤ M.ceiling n
  bounded {n} h r = omega (arith, run_falls (arises_start h) r, (laws.beginning n h).full)

  pub words_kept : {n : ℕ} {ms : List Move} {c : M.Config} → n ≤ 100 → Run M (start n) ms c → M.words c ≡ n
  words_kept {n} h r = run_keeps start (λ c. M.words c ≡ n) (λ c m a k p v e. laws.stepping m a k v ∙ e) (arises_start h) (laws.beginning n h).words r
