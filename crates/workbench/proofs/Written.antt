-- Rows written one after the other.
use Rattle.std.proofs.Common.{◌≡◌, ℕ, List, length, take, sym, ap, ◌∙◌, subst, arith}
use Rattle.std.proofs.Math.Logic.{∥∥₁_map}
use Rattle.std.proofs.lemmas.List.{take_all}
use Rattle.treebank.specs.declared.rows.Row.{Row}
use Rattle.treebank.specs.Tables.{GoodTable, table_arcs}
use Rattle.treebank.specs.Trees.{SameArcs}
use Rattle.transition.specs.Meaning.{Meaning}
use Rattle.transition.specs.Laws.{Laws}
use Rattle.transition.proofs.Ceilings.{words_kept}
use Rattle.workbench_model.specs.Rows.{config_rows}
use Rattle.workbench_model.specs.States.{State, Sound}
use Rattle.workbench_model.proofs.Merely.{merely_good, merely_same}
use Rattle.workbench_model.proofs.Rowed.{rows_good, rows_same}
use Rattle.workbench_model.proofs.Serves.{sound_arises}

-- all rows were written
pub all_written : (M : Meaning) (c : M.Config) (n i : ℕ) (rows : List Row) → i ≡ n → length rows ≡ n → take i rows ≡ config_rows M c i → rows ≡ config_rows M c n
all_written M c n i rows e l front = sym (take_all i rows (omega arith)) ∙ front ∙ ap (config_rows M c) e

-- of a sound workbench, and of one that is merely known to be sound, they are a good table with its arcs
pub rows_table : {M : Meaning} (b : State M) → Laws M b.start → Sound M b → (i : ℕ) (rows : List Row) → i ≡ b.model.words → take i rows ≡ config_rows M b.at i →
    GoodTable b.model.words (take b.model.words rows) × SameArcs (M.arcs b.at) (table_arcs (take b.model.words rows))
rows_table {M} b laws s i rows e front =
    let n = b.model.words in
    let all : take n rows ≡ config_rows M b.at n = subst (λ (k : ℕ). take k rows ≡ config_rows M b.at k) e front in
    let words : M.words b.at ≡ n = words_kept laws s.few s.run in
    subst (λ (w : List Row). GoodTable n w × SameArcs (M.arcs b.at) (table_arcs w)) (sym all)
    (rows_good laws b.at (sound_arises b s) n s.few words, rows_same laws b.at (sound_arises b s) n s.few words)

pub merely_table : {M : Meaning} (b : State M) → Laws M b.start → ∥ Sound M b ∥₁ → (i : ℕ) (rows : List Row) → i ≡ b.model.words → take i rows ≡ config_rows M b.at i →
    GoodTable b.model.words (take b.model.words rows) × SameArcs (M.arcs b.at) (table_arcs (take b.model.words rows))
merely_table {M} b laws h i rows e front =
    let t = ∥∥₁_map h (λ s. rows_table b laws s i rows e front) in
    (merely_good _ _ (∥∥₁_map t (λ p. p.0)), merely_same _ _ (∥∥₁_map t (λ p. p.1)))
