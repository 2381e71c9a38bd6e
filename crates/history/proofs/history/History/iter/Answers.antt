use Rattle.std.proofs.Common.{length, ap}
use Rattle.std.proofs.iter.runs.Sources.{from_front, as_is}
use Rattle.std.specs.Iterator.{YieldsFirst}
use Rattle.treebank.specs.declared.moves.Move.{Move}
use Rattle.history.proofs.history.History.iter.Goals as goal

pub returns-clause-runs : goal.returns-clause-runs
returns-clause-runs c p seen =
    as_is p p.from (from_front (YieldsFirst {A = Move} (λ rest. rest)) (λ m. m) (λ rest. rest) (λ s t h. ap length h.0) (λ s m t h. h) p seen)
