-- The configuration that the program's arc-eager system holds, and what its calls did.
use Rattle.std.specs.Prelude.{ℕ, List, reverse}
use Rattle.arc_store.specs.Drawing.{rows_of}
use Rattle.arc_eager_theory.specs.Configurations.{Configuration, configuration}
use Rattle.arc_eager.specs.declared.system.ArcEager.{ArcEager}

abbrev pub stack_of : ArcEager → List ℕ
stack_of s = reverse s.stack.items

abbrev pub held : ArcEager → Configuration
held s = configuration (stack_of s) s.done (rows_of s.arcs)
