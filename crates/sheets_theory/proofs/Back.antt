-- A written sheet reads back.
use Rattle.std.proofs.Common.{◌≡◌, ℕ, ◌+◌, ◌≤◌, Bool, cond, eqb, List, [], ◌∷◌, ◌++◌, length, None, Ok, Err, Option, Result, sym, refl, ap, ◌∙◌, subst, append_assoc, append-nil, arith}
use Rattle.std.proofs.Math.Logic.{∥∥₁_elim}
use Rattle.std.specs.Coded.{Coded, Coded-set, codes}
use Rattle.std.proofs.lemmas.Bool.{eq-eqb, and_from}
use Rattle.treebank.specs.declared.moves.Move.{Move}
use Rattle.treebank.specs.declared.arcs.Arc.{Arc}
use Rattle.treebank.specs.declared.rows.Row.{Row}
use Rattle.treebank.specs.declared.refusals.Refusal.{Refusal}
use Rattle.treebank.specs.declared.refusals.Refusal.TheVariants.{OtherSentence}
use Rattle.treebank.specs.Moves.{Proper}
use Rattle.transition.specs.declared.faults.Fault.{Fault}
use Rattle.transition.specs.Meaning.{Meaning, fault}
use Rattle.transition.specs.Runs.{Run, after}
use Rattle.transition.specs.Laws.{Laws}
use Rattle.run_sheet.specs.declared.lines.SheetLine.{SheetLine}
use Rattle.run_sheet.specs.Texts.{written, said}
use Rattle.run_sheet.proofs.Inverse.{said_written}
use Rattle.workbench_model.specs.Models.{Model, config}
use Rattle.workbench_model.specs.Models.Call.{step}
use Rattle.workbench_model.specs.Serving.{with_moves, refusal, change}
use Rattle.workbench_model.specs.States.{State, Within, Sound}
use Rattle.workbench_model.specs.Lasting.{Lawful}
use Rattle.workbench_model.specs.Rows.{config_rows}
use Rattle.workbench_model.proofs.Followed.{after_join}
use Rattle.workbench_model.proofs.Kept.{change_lawful}
use Rattle.workbench_model.proofs.Serves.{sound_at, sound_lawful, step_free}
use Rattle.sheets_theory.specs.declared.faults.SheetFault.{SheetFault}
use Rattle.sheets_theory.specs.Sheets.{moves_text, heading, sheet_text}
use Rattle.sheets_theory.specs.Replays.{for_move, unless_refused, replayed, is_new, is_headed, then_at, replay_model}
use Rattle.sheets_theory.specs.RoundTrips.{NewlyLoaded, ReadsBack}
use Rattle.sheets_theory.proofs.Lined.{move_written}

module _ {M : Meaning} {start : ℕ → M.Config} (laws : Laws M start) where
  -- a permitted proper move is not refused
  passes_step : (b : Model) (m : Move) (a : Option Arc) → Lawful M start b → Proper m → M.verdict (config M start b) m ≡ Ok a → refusal M start b (step m) ≡ None
  passes_step b m a h p v =
      step_free (record { model = b; at = config M start b; start = start }) m (record { few = h.few; run = h.run; within = h.within }) laws a p v

  -- the lines of a run make its moves
  reads : {c d : M.Config} {ms : List Move} → Run M c ms d → (b : Model) (line : ℕ) → Lawful M start b → c ≡ config M start b →
      replayed M start b line (moves_text ms) ≡ Ok (with_moves b (b.moves ++ ms))
  reads Run.stay b line h e = ap (λ (xs : List Move). Ok (with_moves b xs)) (sym (append-nil b.moves))
  reads (Run.move {c = c} {m = m} {ms = ms} {a = a} p v r) b line h e =
      let free : refusal M start b (step m) ≡ None = passes_step b m a h p (subst (λ (x : M.Config). M.verdict x m ≡ Ok a) e v) in
      let next : M.next c m ≡ config M start (change M start b (step m)) =
      ap (λ (x : M.Config). M.next x m) e ∙ sym (after_join M (start b.words) b.moves (m ∷ [])) in
      let go : Move → Result Model SheetFault = λ k. unless_refused line (refusal M start b (step k)) (replayed M start (change M start b (step k)) (line + 1) (moves_text ms)) in
      ap (λ (o : Result Move Refusal). for_move line o go) (move_written m (moves_text ms) p)
      ∙ ap (λ (o : Option Fault). unless_refused line o (replayed M start (change M start b (step m)) (line + 1) (moves_text ms))) free
      ∙ reads r (change M start b (step m)) (line + 1) (change_lawful laws b (step m) h free) next
      ∙ ap (λ (xs : List Move). Ok (with_moves b xs)) (append_assoc b.moves (m ∷ []) ms)

  -- the tests before the lines pass
  headed : (n : Model) (rest : List ℕ) → n.words ≤ 100 → is_headed M.number n.words (said (written (heading M.number n.words) ++ rest)) ≡ Ok tt
  headed n rest few =
      let l : SheetLine = heading M.number n.words in
      let (low, high) = laws.numbers in
      ap (λ (o : Option SheetLine). is_headed M.number n.words o) (said_written l rest (omega arith) (omega arith))
      ∙ ap (λ (t : Bool). cond t (Ok tt) (Err (fault OtherSentence 0)))
      (and_from (eqb M.number M.number) (eqb n.words n.words) (eq-eqb _ _ refl) (eq-eqb _ _ refl))

  new_free : (n : Model) → n.checkpoint ≡ None → n.moves ≡ [] → is_new n ≡ Ok tt
  new_free n free none =
      ap (λ (o : Option ℕ). is_new (record { words = n.words; epoch = n.epoch; moves = n.moves; checkpoint = o })) free
      ∙ ap (λ (ms : List Move). is_new (record { words = n.words; epoch = n.epoch; moves = ms; checkpoint = None })) none

  module _ (b n : Model) (h : Lawful M start b) (new : NewlyLoaded n b.words) where
    new_few : n.words ≤ 100
    new_few = subst (λ (k : ℕ). k ≤ 100) (sym new.words) h.few

    new_lawful : Lawful M start n
    new_lawful = record {
      few = new_few;
      run = subst (λ (ms : List Move). Run M (start n.words) ms (after M (start n.words) ms)) (sym new.none) Run.stay;
      within = subst (λ (k : Option ℕ). Within k (length n.moves)) (sym new.free) tt;
    }

    same_start : start b.words ≡ config M start n
    same_start = ap start (sym new.words) ∙ ap (after M (start n.words)) (sym new.none)

    pub read_back : replay_model M start n (sheet_text M.number b.words b.moves) ≡ Ok (with_moves n b.moves)
    read_back =
        let told = is_headed M.number n.words (said (sheet_text M.number n.words b.moves)) in
        let lines = replayed M start n 2 (moves_text b.moves) in
        ap (λ (k : ℕ). replay_model M start n (sheet_text M.number k b.moves)) (sym new.words)
        ∙ ap (λ (r : Result Unit Fault). then_at 0 r (then_at 1 told lines)) (new_free n new.free new.none)
        ∙ ap (λ (r : Result Unit Fault). then_at 1 r lines) (headed n (moves_text b.moves) new_few)
        ∙ reads h.run n 2 new_lawful same_start
        ∙ ap (λ (xs : List Move). Ok (with_moves n (xs ++ b.moves))) new.none

replayed_code : Coded (Result Model SheetFault)
replayed_code = hlevel codes

rows_code : Coded (List Row)
rows_code = hlevel codes

pub reads_back : {M : Meaning} (s : State M) → Laws M s.start → ∥ Sound M s ∥₁ → ReadsBack s (sheet_text M.number s.model.words s.model.moves)
reads_back {M} s laws merely start n alike new =
    let text : List ℕ = sheet_text M.number s.model.words s.model.moves in
    let same : Sound M s → config M start (with_moves n s.model.moves) ≡ s.at = λ sound.
    ap (λ (u : ℕ → M.Config). after M (u n.words) s.model.moves) alike ∙ ap (λ (k : ℕ). after M (s.start k) s.model.moves) new.words ∙ sym (sound_at s sound) in
    record {
      moves = ap (λ (u : ℕ → M.Config). replay_model M u n text) alike ∙ ∥∥₁_elim merely (Coded-set replayed_code _ _) (λ sound. read_back laws s.model n (sound_lawful s sound) new);
      configuration = same;
      rows = ∥∥₁_elim merely (Coded-set rows_code _ _) (λ sound. ap (λ (c : M.Config). config_rows M c n.words) (same sound) ∙ ap (config_rows M s.at) new.words);
    }
