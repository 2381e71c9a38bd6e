-- What the workbench's parts did, put together.
use Rattle.std.proofs.Common.{◌≡◌, ℕ, ◌<◌, Bool, true, false, cond, eqb, List, [], ◌∷◌, ◌++◌, length, Some, None, Ok, Err, Option, Result, sym, ap, ◌∙◌, inl, inr, arith}
use Rattle.std.proofs.Math.Logic.{∥∥₁_elim, ∥∥₁_map}
use Rattle.std.proofs.lemmas.Bool.{eqb-true}
use Rattle.std.specs.Coded.{le_prop}
use Rattle.treebank.specs.declared.arcs.Arc.{Arc}
use Rattle.treebank.specs.declared.moves.Move.{Move}
use Rattle.treebank.specs.declared.rows.Row.{Row}
use Rattle.treebank.specs.declared.refusals.Refusal.TheVariants.{ForeignMove, Finished}
use Rattle.treebank.specs.Moves.{Proper}
use Rattle.treebank.specs.Tables.{GoodTable}
use Rattle.transition.specs.declared.faults.Fault.{Fault}
use Rattle.transition.specs.Meaning.{Meaning, fault}
use Rattle.transition.specs.Laws.{Laws}
use Rattle.guidance.specs.Guides.{Guides}
use Rattle.history.specs.declared.history.HistoryFull.{HistoryFull}
use Rattle.history.specs.Pushing.{Pushed}
use Rattle.workbench_model.specs.Models.{Model}
use Rattle.workbench_model.specs.Models.Call.{step, derive}
use Rattle.workbench_model.specs.Serving.{Outcome, refusal}
use Rattle.workbench_model.specs.States.{State, Sound, Served}
use Rattle.workbench_model.specs.Lasting.{Led}
use Rattle.workbench_model.proofs.Tested.{no_way}
use Rattle.workbench_model.proofs.Derived.{served_led}
use Rattle.workbench_model.proofs.Serves.{served_no, step_foreign, step_finished, step_refused, room}
use Rattle.workbench_model.proofs.Merely.{merely_served, merely_led}
use Rattle.workbench.specs.Workbenches.{StepFault, noted_for}

-- a permitted move is pushed: there is room
pub has_room : {M : Meaning} (b : State M) (m : Move) (a : Option Arc) → ∥ Sound M b ∥₁ → Laws M b.start → Proper m → M.verdict b.at m ≡ Ok a → length b.model.moves < 5150
has_room b m a h laws p v = ∥∥₁_elim h le_prop (λ s. room b m s a laws p v)

pub pushed : (before after : List Move) (m : Move) (r : Result Unit HistoryFull) → length before < 5150 → Pushed before m r after → after ≡ before ++ (m ∷ [])
pushed before after m (Ok u) l (free, more) = more
pushed before after m (Err full) l (end, same) = absurd (omega arith)

-- a step that the system refused
pub step_no : {M : Meaning} (b d : State M) (m : Move) (f r : Fault) → ∥ Sound M b ∥₁ → Laws M b.start → Proper m → M.verdict b.at m ≡ Err f → d ≡ b →
    StepFault (M.finished d.at) f r → Served M b (step m) (Err r) d
step_no {M} b d m f r h laws p v e told = merely_served h (ap (λ (y : State M). y.start) e) (λ s. served_no b d (step m) r (why s told) e)
  where
    ended : Sound M b → (t : Bool) → M.finished b.at ≡ t → (f.refusal ≡ ForeignMove → ⊥) → r ≡ cond t (fault Finished 0) f → refusal M b.start b.model (step m) ≡ Some r
    ended s true i other q = step_finished b m s laws f p v other i ∙ ap (λ (y : Fault). Some y) (sym q)
    ended s false i other q = step_refused b m s laws f p v other i ∙ ap (λ (y : Fault). Some y) (sym q)

    why : Sound M b → StepFault (M.finished d.at) f r → refusal M b.start b.model (step m) ≡ Some r
    why s (inl (foreign, q)) = step_foreign b m s laws f p v foreign ∙ ap (λ (y : Fault). Some y) (sym q)
    why s (inr (other, q)) = ended s (M.finished d.at) (ap (λ (y : State M). M.finished y.at) (sym e)) other q

-- a ticket that fits the checkpoint
pub noted : (b : Model) (t k : ℕ) → noted_for b t ≡ Some k → (b.checkpoint ≡ Some k) × (b.epoch ≡ t)
noted b t k e = at (eqb b.epoch t) e (λ i. eqb-true b.epoch t i)
  where
    at : (x : Bool) → cond x b.checkpoint None ≡ Some k → (x ≡ true → b.epoch ≡ t) → (b.checkpoint ≡ Some k) × (b.epoch ≡ t)
    at true i f = (i, f (λ _. true))
    at false i f = no_way (cc)

-- what a derive served, with reliable advice
pub reach_told : {M : Meaning} {reliable : Type 0} (b d : State M) (w : List Row) (a : Outcome) → ∥ Sound M b ∥₁ → Laws M b.start → (reliable → Guides M b.start) →
    Served M b (derive w) a d → reliable → GoodTable b.model.words w → Led M w b.at a d.at
reach_told b d w a h laws guides v r good = merely_led a (∥∥₁_map h (λ s. served_led b d w a laws (guides r) s good v))
