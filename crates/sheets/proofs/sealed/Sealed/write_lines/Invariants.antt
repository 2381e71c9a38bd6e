use Rattle.std.proofs.Common.{◌≡◌, ◌≤◌, length, drop}
use Rattle.std.specs.Iterator.Adapters.{enumerate_source, enumerate_count}
use Rattle.workbench.specs.Workbenches.{model_of}
use Rattle.sheets_theory.proofs.Written.{SoFar}
use Rattle.sheets.proofs.sealed.Sealed.write_lines.Given as goal

abbrev pub invariant-loop-i : goal.invariant-loop-i
invariant-loop-i g l =
    record {
      can : (goal.iterator-loop-i g).can_next l.i-iterator;
      ends : (goal.iterator-loop-i g).is_finite l.i-iterator;
      left : enumerate_source l.i-iterator ≡ drop (enumerate_count l.i-iterator) (model_of l.self.workbench).moves;
      within : enumerate_count l.i-iterator ≤ length (model_of l.self.workbench).moves;
      written : SoFar g.S.System.meaning.number (model_of l.self.workbench) l.initial.out (enumerate_count l.i-iterator) l.out;
    }
