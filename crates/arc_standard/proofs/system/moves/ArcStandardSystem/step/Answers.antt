use Rattle.std.proofs.Common.{rules}
use Rattle.arc_standard_theory.proofs.Defined.{defined}
use Rattle.arc_standard.specs.Held.{held}
use Rattle.arc_standard.proofs.system.moves.ArcStandardSystem.step.Goals as goal

pub returns-clause-defined : goal.returns-clause-defined
returns-clause-defined c = λ h. defined (held c.args.self.now) (held c.make.new.self) c.args.m c.make.result h (search rules) (search rules)
