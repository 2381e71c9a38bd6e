-- An accepted sheet says exactly the moves that it adds.
use Rattle.std.proofs.Common.{◌≡◌, ℕ, ◌+◌, Bool, true, false, cond, ◌&&◌, eqb, ltb, List, [], ◌∷◌, ◌++◌, length, drop, Some, None, Ok, Err, Option, Result, sym, refl, ap, ◌∙◌, subst, append_assoc, append-nil, arith}
use Rattle.std.proofs.lemmas.List.{take-append-drop}
use Rattle.std.proofs.lemmas.Bool.{lt-ltb, eqb-true, and_parts}
use Rattle.treebank.specs.declared.moves.Move.{Move}
use Rattle.treebank.specs.declared.refusals.Refusal.{Refusal}
use Rattle.treebank.specs.declared.refusals.Refusal.TheVariants.{OtherSentence}
use Rattle.transition.specs.declared.faults.Fault.{Fault}
use Rattle.transition.specs.Meaning.{Meaning, fault}
use Rattle.transition.specs.Laws.{Laws}
use Rattle.run_sheet.specs.declared.lines.SheetLine.{SheetLine}
use Rattle.run_sheet.specs.Texts.{written, said, Begins}
use Rattle.run_sheet.specs.Says.{of_move, move_said}
use Rattle.run_sheet.proofs.Inverse.{stands_if}
use Rattle.workbench_model.specs.Models.{Model}
use Rattle.workbench_model.specs.Models.Call.{step}
use Rattle.workbench_model.specs.Serving.{with_moves, refusal, change}
use Rattle.workbench_model.specs.Lasting.{Lawful}
use Rattle.workbench_model.proofs.Kept.{change_lawful}
use Rattle.sheets_theory.specs.declared.faults.SheetFault.{SheetFault}
use Rattle.sheets_theory.specs.Sheets.{moves_text, heading}
use Rattle.sheets_theory.specs.Replays.{for_move, unless_refused, replayed, is_new, is_headed, then_at, replay_model}
use Rattle.sheets_theory.specs.RoundTrips.{SaysExactly}
use Rattle.sheets_theory.proofs.Lined.{said_move}

module _ (M : Meaning) (start : ℕ → M.Config) where
  -- the lines of a text are those of the moves added
  abbrev Says : List ℕ → Model → Model → Type 0
  Says text b d = (ms : List Move) × (text ≡ moves_text ms) × (d ≡ with_moves b (b.moves ++ ms))

  -- one line, with what is known of the rest
  says_more : (b d : Model) (line : ℕ) (text rest : List ℕ) → drop 5 text ≡ rest → ((b : Model) (line : ℕ) → replayed M start b line rest ≡ Ok d → Says rest b d) →
      for_move line (move_said text) (λ m. unless_refused line (refusal M start b (step m)) (replayed M start (change M start b (step m)) (line + 1) rest)) ≡ Ok d → Says text b d
  says_more b d line text rest r known e = at (move_said text) refl e
    where
      at : (o : Result Move Refusal) → move_said text ≡ o →
          for_move line o (λ m. unless_refused line (refusal M start b (step m)) (replayed M start (change M start b (step m)) (line + 1) rest)) ≡ Ok d → Says text b d
      at (Err why) s e = cc
      at (Ok m) s e = by (refusal M start b (step m)) e
        where
          by : (o : Option Fault) → unless_refused line o (replayed M start (change M start b (step m)) (line + 1) rest) ≡ Ok d → Says text b d
          by (Some f) e = cc
          by None e =
              let (ms, f, g) = known (change M start b (step m)) (line + 1) e in
              (m ∷ ms, said_move text m s ∙ ap (λ (xs : List ℕ). written (of_move m) ++ xs) (r ∙ f), g ∙ ap (with_moves b) (append_assoc b.moves (m ∷ []) ms))

  says : (text : List ℕ) (d b : Model) (line : ℕ) → replayed M start b line text ≡ Ok d → Says text b d
  says [] d b line e = ([], refl, (let f : b ≡ d = cc in sym f ∙ ap (with_moves b) (sym (append-nil b.moves))))
  says (x ∷ []) d b line e = cc
  says (x ∷ y ∷ []) d b line e = cc
  says (x ∷ y ∷ z ∷ []) d b line e = cc
  says (x ∷ y ∷ z ∷ u ∷ []) d b line e = cc
  says (x ∷ y ∷ z ∷ u ∷ v ∷ rest) d b line e = says_more b d line (x ∷ y ∷ z ∷ u ∷ v ∷ rest) rest refl (says rest d) e

  -- a test that passed
  then_passed : (line : ℕ) (r : Result Unit Fault) (d : Model) (next : Result Model SheetFault) → then_at line r next ≡ Ok d → (r ≡ Ok tt) × (next ≡ Ok d)
  then_passed line (Ok u) d next e = (refl, e)
  then_passed line (Err f) d next e = cc

  pub new_passed : (b : Model) → is_new b ≡ Ok tt → (b.checkpoint ≡ None) × (b.moves ≡ [])
  new_passed b e = at b.checkpoint b.moves e
    where
      at : (o : Option ℕ) (ms : List Move) → is_new (record { words = b.words; epoch = b.epoch; moves = ms; checkpoint = o }) ≡ Ok tt → (o ≡ None) × (ms ≡ [])
      at (Some k) ms e = cc
      at None [] e = (refl, refl)
      at None (m ∷ ms) e = let t : ltb 0 (length (m ∷ ms)) ≡ true = lt-ltb 0 _ (omega arith) in cc

  headed : (b : Model) (text : List ℕ) → is_headed M.number b.words (said text) ≡ Ok tt → text ≡ written (heading M.number b.words) ++ drop 5 text
  headed b text e = at (said text) refl e
    where
      at : (o : Option SheetLine) → said text ≡ o → is_headed M.number b.words o ≡ Ok tt → text ≡ written (heading M.number b.words) ++ drop 5 text
      at None s e = cc
      at (Some l) s e = by (eqb l.first M.number && eqb l.second b.words) refl e
        where
          by : (t : Bool) → (eqb l.first M.number && eqb l.second b.words) ≡ t → ◌≡◌ {A = Result Unit Fault} (cond t (Ok tt) (Err (fault OtherSentence 0))) (Ok tt) →
              text ≡ written (heading M.number b.words) ++ drop 5 text
          by true t e =
              let (p, q) = and_parts (eqb l.first M.number) (eqb l.second b.words) t in
              let begins : Begins text l = stands_if text (Some l) (sym s) in
              let first : l.first ≡ M.number = eqb-true _ _ p in
              let second : l.second ≡ b.words = eqb-true _ _ q in
              let same : written l ≡ written (heading M.number b.words) = λ i. written (heading (first i) (second i)) in
              sym (take-append-drop 5 text) ∙ ap (λ (xs : List ℕ). xs ++ drop 5 text) (begins.2 ∙ same)
          by false t e = cc

  -- the tests that an accepted sheet passed
  pub accepted : (b d : Model) (text : List ℕ) → replay_model M start b text ≡ Ok d →
      (b.checkpoint ≡ None) × (b.moves ≡ []) × (text ≡ written (heading M.number b.words) ++ drop 5 text) × (replayed M start b 2 (drop 5 text) ≡ Ok d)
  accepted b d text e =
      let lines = replayed M start b 2 (drop 5 text) in
      let (p, f) = then_passed 0 (is_new b) d (then_at 1 (is_headed M.number b.words (said text)) lines) e in
      let (q, g) = then_passed 1 (is_headed M.number b.words (said text)) d lines f in
      let (free, none) = new_passed b p in
      (free, none, headed b text q, g)

  pub says_exactly : (b d : Model) (text : List ℕ) → replay_model M start b text ≡ Ok d → SaysExactly M.number b text d
  says_exactly b d text e =
      let (free, none, line, lines) = accepted b d text e in
      let (ms, rest, left) = says (drop 5 text) d b 2 lines in
      let these : d.moves ≡ ms = ap (λ (x : Model). x.moves) left ∙ ap (λ (xs : List Move). xs ++ ms) none in
      record {
        bytes = line ∙ ap (λ (xs : List ℕ). written (heading M.number b.words) ++ xs) (rest ∙ ap moves_text (sym these));
        none = none;
        free = free;
        left = left ∙ ap (with_moves b) (ap (λ (xs : List Move). xs ++ ms) none ∙ sym these);
      }

-- an accepted sheet keeps what is lawful
module _ {M : Meaning} {start : ℕ → M.Config} (laws : Laws M start) where
  lawful_more : (b d : Model) (line : ℕ) (o : Result Move Refusal) (rest : List ℕ) → ((b : Model) (line : ℕ) → replayed M start b line rest ≡ Ok d → Lawful M start b → Lawful M start d) →
      for_move line o (λ m. unless_refused line (refusal M start b (step m)) (replayed M start (change M start b (step m)) (line + 1) rest)) ≡ Ok d → Lawful M start b → Lawful M start d
  lawful_more b d line (Err why) rest known e h = cc
  lawful_more b d line (Ok m) rest known e h = by (refusal M start b (step m)) refl e
    where
      by : (o : Option Fault) → refusal M start b (step m) ≡ o → unless_refused line o (replayed M start (change M start b (step m)) (line + 1) rest) ≡ Ok d → Lawful M start d
      by (Some f) p e = cc
      by None p e = known (change M start b (step m)) (line + 1) e (change_lawful laws b (step m) h p)

  lines_lawful : (text : List ℕ) (d b : Model) (line : ℕ) → replayed M start b line text ≡ Ok d → Lawful M start b → Lawful M start d
  lines_lawful [] d b line e h = (let f : b ≡ d = cc in subst (Lawful M start) f h)
  lines_lawful (x ∷ []) d b line e h = cc
  lines_lawful (x ∷ y ∷ []) d b line e h = cc
  lines_lawful (x ∷ y ∷ z ∷ []) d b line e h = cc
  lines_lawful (x ∷ y ∷ z ∷ u ∷ []) d b line e h = cc
  lines_lawful (x ∷ y ∷ z ∷ u ∷ v ∷ rest) d b line e h = lawful_more b d line (move_said (x ∷ y ∷ z ∷ u ∷ v ∷ rest)) rest (lines_lawful rest d) e h

  pub replay_lawful : (b d : Model) (text : List ℕ) → replay_model M start b text ≡ Ok d → Lawful M start b → Lawful M start d
  replay_lawful b d text e h = lines_lawful (drop 5 text) d b 2 (accepted M start b d text e).3 h
