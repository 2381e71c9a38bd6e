-- What holds of every sequence of requests on a new workbench, after each of them.
use Rattle.std.specs.Prelude.{◌≡◌, ℕ, ◌+◌, ◌≤◌, List, [], ◌∷◌, length, take, Some}
use Rattle.std.specs.Borrow.{Bor}
use Rattle.std.specs.List.{slice_get}
use Rattle.treebank.specs.declared.rows.Row.{Row}
use Rattle.treebank.specs.Tables.{GoodTable}
use Rattle.treebank.specs.Trees.{DependencyForest}
use Rattle.transition.specs.Meaning.{Meaning}
use Rattle.transition.specs.Runs.{Run}
use Rattle.workbench_model.specs.Models.{Model, config}
use Rattle.workbench_model.specs.Serving.{Outcome}
use Rattle.workbench_model.specs.States.{State, Sound}
use Rattle.workbench_model.specs.Lasting.{Tally, no_moves, count, Balanced, Led}
use Rattle.requests.specs.declared.kinds.GuidedRequest.{GuidedRequest}
use Rattle.requests.specs.declared.kinds.GuidedRequest.TheVariants.{Derive}
use Rattle.requests.specs.declared.kinds.Reply.{Reply}
use Rattle.requests.specs.declared.kinds.Reply.TheVariants.{Answered, NoTicket, NoRoom}
use Rattle.requests.specs.Desks.{Pouch, new_desk, desk, replies, desk_after}
use Rattle.requests.specs.Tickets.{tickets_of, tickets_after}

-- the moves that the replies report made and removed since the last load
abbrev pub count_reply : Tally → Reply → Tally
count_reply t (Answered a) = count t a
count_reply t NoTicket = t
count_reply t NoRoom = t

abbrev pub counted : Tally → List Reply → Tally
counted t [] = t
counted t (r ∷ told) = counted (count_reply t r) told

-- of a workbench, with the replies so far
pub record Standing (M : Meaning) (start : ℕ → M.Config) (b : Model) (told : List Reply) : Type 0 where
  -- the moves standing, each permitted in its turn, lead from the start to the configuration
  pub run : (b.words ≤ 100) × Run M (start b.words) b.moves (config M start b)
  -- no arc enters the root, no word has two heads, no word stands above itself
  pub forest : DependencyForest (M.arcs (config M start b))
  -- since the last load, the moves reported made are those standing and those reported removed
  pub balance : Balanced (counted no_moves told) b
  pub ceiling : length b.moves ≤ M.ceiling b.words

-- the workbench after the first k requests
abbrev pub model_at : (M : Meaning) → (ℕ → M.Config) → Pouch → List GuidedRequest → ℕ → Model
model_at M start p rs k = (desk_after M start (new_desk p) (take k rs)).model

pub record SequenceLaw (M : Meaning) (start : ℕ → M.Config) (reliable : Type 0) (p : Pouch) (rs : List GuidedRequest) (told : List Reply) : Type 0 where
  pub each : length told ≡ length rs
  -- after the first k requests, for every k
  pub standing : (k : ℕ) → Standing M start (model_at M start p rs k) (take k told)
  -- where the advice is reliable, a derive of a good table is refused exactly where the table cannot be reached from the configuration in which
  -- it found the workbench, and else leaves it finished with exactly the table's arcs
  pub led : reliable → (k : ℕ) (w : Bor (List Row)) → slice_get rs k ≡ Some (Derive w) → GoodTable (model_at M start p rs k).words w.now →
      (a : Outcome) × (slice_get told k ≡ Some (Answered a)) × Led M w.now (config M start (model_at M start p rs k)) a (config M start (model_at M start p rs (k + 1)))

-- requests were answered one after the other, and left workbench and pouch, as the model says; which tickets lie there depends on no move
pub record AttendedAll (M : Meaning) (s : State M) (p : Pouch) (rs : List GuidedRequest) (told : List Reply) (t : State M) (q : Pouch) : Type 0 where
  pub is : replies M s.start (desk s p) rs ≡ told
  pub left : desk_after M s.start (desk s p) rs ≡ desk t q
  pub tickets : tickets_after (tickets_of (desk s p)) rs ≡ tickets_of (desk t q)
  pub same : t.start ≡ s.start
  pub sound : Sound M s → Sound M t

-- requests served on a new workbench: each reply is the model's, workbench and pouch hold what the model says, and the law holds after each request
pub record Ran (M : Meaning) (start : ℕ → M.Config) (reliable : Type 0) (p : Pouch) (rs : List GuidedRequest) (told : List Reply) (t : State M) (q : Pouch) : Type 0 where
  pub is : replies M start (new_desk p) rs ≡ told
  pub left : desk_after M start (new_desk p) rs ≡ desk t q
  pub tickets : tickets_after (tickets_of (new_desk p)) rs ≡ tickets_of (desk t q)
  pub same : t.start ≡ start
  pub sound : Sound M t
  pub law : SequenceLaw M start reliable p rs told
