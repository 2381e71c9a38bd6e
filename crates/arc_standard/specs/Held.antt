-- The configuration that the program's arc-standard system holds, and what its calls did.
use Rattle.std.specs.Prelude.{◌≡◌, ℕ, ◌-◌, ◌≤◌, List, ◌∷◌, reverse, take, None, Ok, Err, Result}
use Rattle.treebank.specs.declared.refusals.Refusal.{Refusal}
use Rattle.treebank.specs.declared.refusals.Refusal.TheVariants.{TooFewNodes}
use Rattle.arrayvec.specs.ArrayVec.{array_vec_len}
use Rattle.arc_store.specs.Drawing.{rows_of}
use Rattle.arc_standard.specs.declared.system.ArcStandard.{ArcStandard}
use Rattle.arc_standard_theory.specs.Configurations.{Configuration, configuration, top_two}

abbrev pub stack_of : ArcStandard → List ℕ
stack_of s = reverse s.stack.items

abbrev pub held : ArcStandard → Configuration
held s = configuration (stack_of s) s.front (rows_of s.arcs)

-- the second node and the top, on the rest of the stack, or refused for want of them
abbrev pub TopTwo : ArcStandard → Result (ℕ × ℕ) Refusal → Type 0
TopTwo s (Ok (i, j)) = (2 ≤ array_vec_len s.stack) × (stack_of s ≡ j ∷ (i ∷ reverse (take (array_vec_len s.stack - 2) s.stack.items)))
TopTwo s (Err why) = (top_two (stack_of s) ≡ None) × (why ≡ TooFewNodes)
