use Rattle.arc_standard_theory.proofs.Reached.{exactly}
use Rattle.guidance.proofs.Classed.{class_built}
use Rattle.arc_standard_theory.specs.Configurations.{start}
use Rattle.arc_standard_theory.specs.Moves.{arc_standard}
use Rattle.arc_standard_theory.specs.Classes.{ProjectiveTree}
use Rattle.arc_standard_theory.proofs.Trees.{reaches_projective_trees}
use Rattle.arc_standard.specs.Held.{held}
use Rattle.arc_standard.proofs.building.build_tree.Goals as goal

pub returns-in_err-words-clause-class : goal.returns-in_err-words-clause-class
returns-in_err-words-clause-class c = reaches_projective_trees

pub returns-in_err-words-clause-exact : goal.returns-in_err-words-clause-exact
returns-in_err-words-clause-exact c = exactly

pub returns : goal.returns
returns c = record {
  tree = class_built arc_standard start ProjectiveTree reaches_projective_trees c.args.table.now held c.new-2.result c.build.new.system c.build.result c.build.ensures.built;
  class = reaches_projective_trees;
  exact = exactly;
}
