use Rattle.std.proofs.Common.{◌+◌, ◌*◌}
use Rattle.std.specs.Iterator.Adapters.{skip_source, skip_count, enumerate_source, enumerate_count}
use Rattle.std.specs.Slice.Iter.{chunks_rest, chunks_size}
use Rattle.workbench.specs.Workbenches.{state}
use Rattle.sheets_theory.proofs.Going.{Going}
use Rattle.sheets.proofs.Pieces.{At}
use Rattle.sheets.proofs.replaying.replay_lines.Given as goal

abbrev pub invariant-loop-i : goal.invariant-loop-i
invariant-loop-i g l =
    record {
      can : (goal.iterator-loop-i g).can_next l.i-iterator;
      ends : (goal.iterator-loop-i g).is_finite l.i-iterator;
      at : At l.sheet (chunks_size (enumerate_source (skip_source l.i-iterator))) (enumerate_count (skip_source l.i-iterator)) (chunks_rest (enumerate_source (skip_source l.i-iterator)));
      going : Going (state l.initial.workbench) l.sheet (5 * (enumerate_count (skip_source l.i-iterator) + skip_count l.i-iterator)) (state l.workbench);
    }
