-- A system under a rule.
use Rattle.std.specs.Prelude.{◌≡◌, ℕ, ◌+◌, ◌≤◌, cond, ◌↔◌, List, Some, None, Ok, Err, Option, nat_lt}
use Rattle.treebank.specs.declared.arcs.Arc.{Arc}
use Rattle.treebank.specs.declared.rows.Row.{Row}
use Rattle.treebank.specs.declared.refusals.Refusal.{Refusal}
use Rattle.treebank.specs.Tables.{table_arcs}
use Rattle.transition.specs.Meaning.{Meaning, Verdict, fault}
use Rattle.transition.specs.Runs.{Reaches, Arises}
use Rattle.layers_theory.specs.Rules.{Ruling}

-- one layer higher; 255 for all from there on
abbrev pub higher : ℕ → ℕ
higher h = cond (nat_lt h 255) (h + 1) h

-- an arc that was permitted below, and what the rule of this level has against it
abbrev pub unless_objected : ℕ → Arc → Option Refusal → Verdict
unless_objected level a None = Ok (Some a)
unless_objected level a (Some why) = Err (fault why level)

-- what stands below is asked first, and the rule only of an arc
abbrev pub ruled : ℕ → (Arc → Option Refusal) → Verdict → Verdict
ruled level objection (Err f) = Err f
ruled level objection (Ok None) = Ok None
ruled level objection (Ok (Some a)) = unless_objected level a (objection a)

-- what a rule with the tables t has against an arc in a configuration
abbrev pub against : {T : Type 0} → Ruling T → (M : Meaning) → T → M.Config → Arc → Option Refusal
against R M t c a = R.objection t (M.words c) (M.arc_into c) a

-- all is passed down but the verdict and the height; the rule's tables stand beside the configuration below
abbrev pub layered : {T : Type 0} → Ruling T → Meaning → Meaning
layered {T} R M = record {
  Config = T × M.Config;
  words = λ c. M.words c.1;
  arcs = λ c. M.arcs c.1;
  arc_into = λ c d. M.arc_into c.1 d;
  finished = λ c. M.finished c.1;
  remaining = λ c. M.remaining c.1;
  verdict = λ c m. ruled (higher M.height) (against R M c.0 c.1) (M.verdict c.1 m);
  next = λ c m. (c.0, M.next c.1 m);
  advice = λ c w. M.advice c.1 w;
  own = M.own;
  ceiling = M.ceiling;
  number = M.number;
  height = higher M.height;
}

-- a sentence begins as below, with the rule's tables beside it
abbrev pub beside : {T C : Type 0} → T → (ℕ → C) → ℕ → T × C
beside t start n = (t, start n)

-- what the system below reaches, less what the rule forbids
pub record LessForbidden {T : Type 0} (R : Ruling T) (M : Meaning) (start : ℕ → M.Config) (t : T) : Type 0 where
  -- a configuration that arises under the rule arises below, and the rule allows its arcs
  pub allowed : {c : T × M.Config} → Arises (layered R M) (beside t start) c → (c.0 ≡ t) × Arises M start c.1 × R.Allows t (M.arcs c.1)
  -- from there a table can be reached exactly where it can be reached below and the rule allows it
  pub reaches : {c : T × M.Config} (w : List Row) → Arises (layered R M) (beside t start) c → Reaches (layered R M) c w ↔ (Reaches M c.1 w × R.Allows t (table_arcs w))
  -- and so it is from the start
  pub from_start : (n : ℕ) (w : List Row) → n ≤ 100 → Reaches (layered R M) (t, start n) w ↔ (Reaches M (start n) w × R.Allows t (table_arcs w))
