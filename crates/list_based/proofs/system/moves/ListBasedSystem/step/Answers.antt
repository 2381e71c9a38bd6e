use Rattle.std.proofs.Common.{rules}
use Rattle.list_based_theory.proofs.Defined.{defined}
use Rattle.list_based.specs.Held.{held}
use Rattle.list_based.proofs.system.moves.ListBasedSystem.step.Goals as goal

pub returns-clause-defined : goal.returns-clause-defined
returns-clause-defined c = λ h. defined (held c.args.self.now) (held c.make.new.self) c.args.m c.make.result h (search rules) (search rules)
