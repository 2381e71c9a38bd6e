use Rattle.arc_eager_theory.proofs.Reached.{exactly}
use Rattle.guidance.proofs.Classed.{class_built}
use Rattle.arc_eager_theory.specs.Configurations.{start}
use Rattle.arc_eager_theory.specs.Moves.{arc_eager}
use Rattle.arc_eager_theory.specs.Classes.{ProjectiveForest}
use Rattle.arc_eager_theory.proofs.Reached.{reaches_projective_forests}
use Rattle.arc_eager.specs.Held.{held}
use Rattle.arc_eager.proofs.building.build_forest.Goals as goal

pub returns-in_err-words-clause-class : goal.returns-in_err-words-clause-class
returns-in_err-words-clause-class c = reaches_projective_forests

pub returns-in_err-words-clause-exact : goal.returns-in_err-words-clause-exact
returns-in_err-words-clause-exact c = exactly

pub returns : goal.returns
returns c = record {
  forest = class_built arc_eager start ProjectiveForest reaches_projective_forests c.args.table.now held c.new-2.result c.build.new.system c.build.result c.build.ensures.built;
  class = reaches_projective_forests;
  exact = exactly;
}
