-- At the start the viable tables are the forests.
use Rattle.std.proofs.Common.{ℕ, ◌<◌, ◌≤◌, ◌⊎◌, List, sym, subst, inl, inr, arith}
use mathlib.Core.List.Memᴰ
use lib.ListN.{length-replicate}
use Rattle.std.proofs.lemmas.Bool.{cases_lt}
use Rattle.treebank.specs.declared.arcs.Arc.{Arc}
use Rattle.treebank.specs.declared.rows.Row.{Row}
use Rattle.treebank.specs.Tables.{GoodTable, table_arcs}
use Rattle.treebank.specs.Trees.{◌∈◌, Forest}
use Rattle.treebank.proofs.Said.{table_words}
use Rattle.treebank.proofs.Ways.{no_loop}
use Rattle.transition.proofs.Running.{arises_start}
use Rattle.arc_store.specs.Drawing.{bare}
use Rattle.arc_store.proofs.Putting.{none_drawn}
use Rattle.guidance.proofs.Viably.{viable_reaches}
use Rattle.list_based_theory.specs.Configurations.{start}
use Rattle.list_based_theory.specs.Classes.{ReachesForests}
use Rattle.list_based_theory.specs.Viable.{high, Ahead, Viable}
use Rattle.list_based_theory.proofs.Lawful.{lawful}
use Rattle.list_based_theory.proofs.Reached.{viability}

start_viable : (n : ℕ) (w : List Row) → Forest w → Viable (start n) w
start_viable n w forest = record {
  forest = forest;
  into = λ a m. absurd (Memᴰ.not-nil (subst (λ (l : List Arc). a ∈ l) (none_drawn 1 n) m));
  ahead = λ a m. inr (at a m (cases_lt 1 (high a)));
}
  where
    at : (a : Arc) → a ∈ table_arcs w → (1 < high a) ⊎ (high a ≤ 1) → Ahead 1 1 a
    at a m (inl l) = inl l
    at a m (inr l) = let lo = (table_words w a m).0 in let apart = no_loop {a = a} forest m in inr (omega arith, omega arith)

pub reaches_forests : ReachesForests
reaches_forests n w small good =
    let (to, from) = viable_reaches lawful viability w (arises_start small) (subst (λ (k : ℕ). GoodTable k w) (sym (length-replicate n bare)) good) in
    (λ r. (to r).forest, λ f. from (start_viable n w f))
