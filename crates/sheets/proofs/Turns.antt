-- One turn of the loop over the lines behind the first.
use Rattle.std.proofs.Common.{◌≡◌, ℕ, ◌+◌, ◌*◌, ◌/◌, List, drop, IsErrAnd, Ok, Err, Option, Result, sym, ap, ◌∙◌, subst, arith}
use Rattle.treebank.specs.declared.arcs.Arc.{Arc}
use Rattle.treebank.specs.declared.moves.Move.{Move}
use Rattle.transition.specs.declared.faults.Fault.{Fault}
use Rattle.transition.specs.Meaning.{Meaning, fault}
use Rattle.run_sheet.specs.Says.{move_said}
use Rattle.workbench_model.specs.declared.answers.Answer.TheVariants.{Made}
use Rattle.workbench_model.specs.Models.Call.{step}
use Rattle.workbench_model.specs.States.{State, Served}
use Rattle.workbench.specs.Workbenches.{answer_of}
use Rattle.sheets_theory.specs.declared.faults.SheetFault.{SheetFault}
use Rattle.sheets_theory.specs.Replays.{at_line, located, faulted}
use Rattle.sheets_theory.specs.Lines.{LinesTold}
use Rattle.sheets_theory.proofs.Going.{Going, going_unsaid, going_refused, going_more}
use Rattle.sheets_theory.proofs.Located.{located_ok, passed_on, faulted_ok, faulted_err}
use Rattle.sheets.proofs.Pieces.{Piece, said_piece}

-- the piece x with the number i was read as r
module _ {M : Meaning} (s t : State M) (text : List ℕ) (i n : ℕ) (x more : List ℕ) (r : Result Move Fault)
    (number : i ≡ n) (piece : Piece text (5 * i) x more) (going : Going s text (5 * n) t) (read : r ≡ faulted (move_said x)) where
  at_place : Going s text (5 * i) t
  at_place = subst (λ (k : ℕ). Going s text (5 * k) t) (sym number) going

  line : i + 1 ≡ 5 * i / 5 + 1
  line = omega arith

  read_here : r ≡ faulted (move_said (drop (5 * i) text))
  read_here = read ∙ ap faulted (said_piece text (5 * i) x more piece)

  -- it says no move
  pub turn_unsaid : (d : ℕ × Fault) (o : Result ℕ SheetFault) → Err d ≡ located (i + 1) r → IsErrAnd o (λ f. f ≡ at_line d.0 d.1) → LinesTold s text o t
  turn_unsaid d o e h =
      let (f, q, told) = passed_on (i + 1) r d o e h in
      let (why, said, is) = faulted_err (move_said (drop (5 * i) text)) f (sym read_here ∙ q) in
      let all : o ≡ Err (at_line (5 * i / 5 + 1) (fault why 0)) = told ∙ ap (λ (k : ℕ). Err (at_line k f)) line ∙ ap (λ (z : Fault). Err (at_line (5 * i / 5 + 1) z)) (sym is) in
      subst (λ (z : Result ℕ SheetFault). LinesTold s text z t) (sym all) (going_unsaid s text (5 * i) t piece.inside at_place why said)

  -- it says a move, to which the step answered v
  module _ (m : Move) (o : Ok m ≡ located (i + 1) r) (v : Result (Option Arc) Fault) (u : State M) (served : Served M t (step m) (answer_of (λ _. Made 1) v) u) where
    said : move_said (drop (5 * i) text) ≡ Ok m
    said = faulted_ok (move_said (drop (5 * i) text)) m (sym read_here ∙ located_ok (i + 1) r m o)

    pub turn_refused : (d : ℕ × Fault) (q : Result ℕ SheetFault) → Err d ≡ located (i + 1) v → IsErrAnd q (λ f. f ≡ at_line d.0 d.1) → LinesTold s text q u
    turn_refused d q e h =
        let (f, is, told) = passed_on (i + 1) v d q e h in
        let refused : Served M t (step m) (Err f) u = subst (λ (z : Result (Option Arc) Fault). Served M t (step m) (answer_of (λ _. Made 1) z) u) is served in
        subst (λ (z : Result ℕ SheetFault). LinesTold s text z u) (sym (told ∙ ap (λ (k : ℕ). Err (at_line k f)) line))
        (going_refused s text (5 * i) t piece.inside at_place m said u f refused)

    pub turn_more : (a : Option Arc) (next : ℕ) → Ok a ≡ located (i + 1) v → next ≡ i + 1 → Going s text (5 * next) u
    turn_more a next e is =
        let made : Served M t (step m) (Ok (Made 1)) u = subst (λ (z : Result (Option Arc) Fault). Served M t (step m) (answer_of (λ _. Made 1) z) u) (located_ok (i + 1) v a e) served in
        let place : 5 * i + 5 ≡ 5 * next = omega arith in
        subst (λ (k : ℕ). Going s text k u) place (going_more s text (5 * i) t piece.inside at_place m said u made)
