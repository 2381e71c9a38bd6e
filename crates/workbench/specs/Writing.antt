-- The rows that a workbench writes.
use Rattle.std.specs.Prelude.{◌≡◌, ℕ, ◌<◌, ◌≤◌, List, ◌++◌, length, take, drop, Ok, Err, Result}
use Rattle.treebank.specs.declared.rows.Row.{Row}
use Rattle.treebank.specs.declared.refusals.Refusal.TheVariants.{BufferTooSmall}
use Rattle.treebank.specs.Tables.{GoodTable, table_arcs}
use Rattle.treebank.specs.Trees.{SameArcs}
use Rattle.transition.specs.declared.faults.Fault.{Fault}
use Rattle.transition.specs.declared.system.System.{Ghosts}
use Rattle.transition.specs.Meaning.{fault}
use Rattle.workbench_model.specs.Rows.{config_rows}
use Rattle.workbench.specs.declared.workbench.Workbench.{Workbench}

-- the row of each word, and the later rows as they were; or too few rows were lent, and all are as they were
abbrev pub WroteRows : {X : Type 0} {B : Ghosts X} → Workbench X B → List Row → Result ℕ Fault → List Row → Type 0
WroteRows {B = B} b before (Ok k) after =
    (b.words.count ≤ length before) × (k ≡ b.words.count) × (after ≡ config_rows B.meaning (B.conf b.system) b.words.count ++ drop b.words.count before)
WroteRows b before (Err why) after = (length before < b.words.count) × (why ≡ fault BufferTooSmall 0) × (after ≡ before)

-- the rows written are a good table with exactly the arcs of the configuration
abbrev pub RowsSay : {X : Type 0} {B : Ghosts X} → Workbench X B → Result ℕ Fault → List Row → Type 0
RowsSay {B = B} b (Ok k) after =
    GoodTable b.words.count (take b.words.count after) × SameArcs (B.meaning.arcs (B.conf b.system)) (table_arcs (take b.words.count after))
RowsSay b (Err why) after = Unit {0}
