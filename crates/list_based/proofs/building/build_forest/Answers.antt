use Rattle.treebank.specs.Trees.{Forest}
use Rattle.guidance.proofs.Classed.{class_built}
use Rattle.list_based_theory.specs.Configurations.{start}
use Rattle.list_based_theory.specs.Moves.{list_based}
use Rattle.list_based_theory.proofs.Reached.{exactly}
use Rattle.list_based_theory.proofs.Forests.{reaches_forests}
use Rattle.list_based.specs.Held.{held}
use Rattle.list_based.proofs.building.build_forest.Goals as goal

pub returns-in_err-words-clause-class : goal.returns-in_err-words-clause-class
returns-in_err-words-clause-class c = reaches_forests

pub returns-in_err-words-clause-exact : goal.returns-in_err-words-clause-exact
returns-in_err-words-clause-exact c = exactly

pub returns : goal.returns
returns c = record {
  forest = class_built list_based start Forest reaches_forests c.args.table.now held c.new-2.result c.build.new.system c.build.result c.build.ensures.built;
  class = reaches_forests;
  exact = exactly;
}
