-- What the model answers to a call, and what the call leaves: three tables, one line a call.
use Rattle.std.specs.Prelude.{ℕ, ◌-◌, Bool, cond, not, ◌&&◌, List, [], ◌∷◌, ◌++◌, length, take, is_some, Some, None, Ok, Err, Option, Result, ◌==◌, nat_le, nat_lt}
use Rattle.std.specs.Option.{unwrap_or}
use Rattle.treebank.specs.declared.moves.Move.{Move}
use Rattle.treebank.specs.declared.refusals.Refusal.{Refusal}
use Rattle.treebank.specs.declared.refusals.Refusal.TheVariants.{TooManyWords, BadLabel, ForeignMove, WrongRowCount, BadRow, Finished, Unreachable, NothingToUndo, CheckpointStands, NoSuchCheckpoint}
use Rattle.treebank.specs.Tables.{are_good_rows}
use Rattle.transition.specs.declared.faults.Fault.{Fault}
use Rattle.transition.specs.Meaning.{Meaning, Verdict, fault}
use Rattle.workbench_model.specs.declared.answers.Answer.{Answer}
use Rattle.workbench_model.specs.declared.answers.Answer.TheVariants.{Loaded, Made, Removed, CheckpointSet, Committed}
use Rattle.workbench_model.specs.Models.{Model, Call, config}
use Rattle.workbench_model.specs.Models.Call.{load, step, undo, checkpoint, commit, rollback, derive}
use Rattle.workbench_model.specs.Derivations.{is_proper, derivation}

-- what a call comes to: an answer, or why it is refused
abbrev pub Outcome : Type 0
Outcome = Result Answer Fault

abbrev pub with_moves : Model → List Move → Model
with_moves b ms = record { words = b.words; epoch = b.epoch; moves = ms; checkpoint = b.checkpoint }

abbrev pub with_checkpoint : Model → Option ℕ → Model
with_checkpoint b k = record { words = b.words; epoch = b.epoch; moves = b.moves; checkpoint = k }

-- how many moves the checkpoint notes, 0 for none: no undo takes them
abbrev pub floor : Option ℕ → ℕ
floor k = unwrap_or k 0

abbrev pub moves_of : Option (List Move) → List Move
moves_of None = []
moves_of (Some ms) = ms

-- a checkpoint stands, and the ticket has the epoch
abbrev pub does_fit : Model → ℕ → Bool
does_fit b t = is_some b.checkpoint && b.epoch == t

-- refused for this reason where the test holds, else what comes next decides
abbrev pub refuse_if : Bool → Refusal → Option Fault → Option Fault
refuse_if test why next = cond test (Some (fault why 0)) next

abbrev pub fault_of : Verdict → Option Fault
fault_of (Ok a) = None
fault_of (Err f) = Some f

-- why a call is refused, if it is
abbrev pub refusal : (M : Meaning) → (ℕ → M.Config) → Model → Call → Option Fault
refusal M start b (load n e) = refuse_if (is_some b.checkpoint) CheckpointStands (refuse_if (nat_lt 100 n) TooManyWords None)
refusal M start b (step m) =
    refuse_if (not (is_proper m)) BadLabel
    (refuse_if (not (M.own m)) ForeignMove
    (refuse_if (M.finished (config M start b)) Finished
    (fault_of (M.verdict (config M start b) m))))
refusal M start b undo = refuse_if (nat_le (length b.moves) (floor b.checkpoint)) NothingToUndo None
refusal M start b checkpoint = refuse_if (is_some b.checkpoint) CheckpointStands None
refusal M start b (commit t) = refuse_if (not (does_fit b t)) NoSuchCheckpoint None
refusal M start b (rollback t) = refuse_if (not (does_fit b t)) NoSuchCheckpoint None
refusal M start b (derive w) =
    refuse_if (not (length w == b.words)) WrongRowCount
    (refuse_if (not (are_good_rows b.words w)) BadRow
    (refuse_if (not (is_some (derivation M w (config M start b)))) Unreachable None))

-- what a call that is not refused answers
abbrev pub report : (M : Meaning) → (ℕ → M.Config) → Model → Call → Answer
report M start b (load n e) = Loaded
report M start b (step m) = Made 1
report M start b undo = Removed 1
report M start b checkpoint = CheckpointSet
report M start b (commit t) = Committed
report M start b (rollback t) = Removed (length b.moves - floor b.checkpoint)
report M start b (derive w) = Made (length (moves_of (derivation M w (config M start b))))

-- and what it leaves
abbrev pub change : (M : Meaning) → (ℕ → M.Config) → Model → Call → Model
change M start b (load n e) = record { words = n; epoch = e; moves = []; checkpoint = None }
change M start b (step m) = with_moves b (b.moves ++ (m ∷ []))
change M start b undo = with_moves b (take (length b.moves - 1) b.moves)
change M start b checkpoint = with_checkpoint b (Some (length b.moves))
change M start b (commit t) = with_checkpoint b None
change M start b (rollback t) = with_checkpoint (with_moves b (take (floor b.checkpoint) b.moves)) None
change M start b (derive w) = with_moves b (b.moves ++ moves_of (derivation M w (config M start b)))

-- a refused call changes nothing
abbrev pub unless : Option Fault → Model → Answer → Model → Outcome × Model
unless None b a d = (Ok a, d)
unless (Some f) b a d = (Err f, b)

abbrev pub serve : (M : Meaning) → (ℕ → M.Config) → Model → Call → Outcome × Model
serve M start b call = unless (refusal M start b call) b (report M start b call) (change M start b call)
