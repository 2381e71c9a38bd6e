-- A sheet written line by line.
use Rattle.std.proofs.Common.{◌≡◌, ℕ, ◌+◌, ◌<◌, List, [], ◌∷◌, ◌++◌, length, get_or, take, drop, Some, Ok, sym, refl, ap, ◌∙◌, subst, ap₂, inl, inr, append_assoc, suc, add-one, drop-cons, arith}
use Rattle.std.specs.List.{slice_get}
use Rattle.std.proofs.lemmas.List.{length-drop, length-take-le, take_at, take_all, take_more}
use Rattle.std.proofs.lemmas.Option.{slice_get-get_or, slice_get_past}
use Rattle.std.proofs.lemmas.Slice.{drop-append-drop}
use Rattle.std.proofs.lemmas.Bool.{cases_lt}
use Rattle.treebank.specs.declared.moves.Move.{Move}
use Rattle.transition.specs.Meaning.{Meaning}
use Rattle.transition.specs.Laws.{Laws}
use Rattle.run_sheet.specs.declared.lines.SheetLine.{SheetLine}
use Rattle.run_sheet.specs.Texts.{written}
use Rattle.run_sheet.specs.Says.{of_move}
use Rattle.workbench_model.specs.Models.{Model}
use Rattle.workbench_model.specs.States.{State, Sound}
use Rattle.sheets_theory.specs.Sheets.{heading, sheet_text, sheet_bytes, WroteSheet}
use Rattle.sheets_theory.specs.RoundTrips.{ReadsBack, WroteBack}
use Rattle.sheets_theory.proofs.Lined.{moves_length, moves_join}
use Rattle.sheets_theory.proofs.Back.{reads_back}

nth_more : (ms : List Move) (i : ℕ) (m : Move) → slice_get ms i ≡ Some m → take (i + 1) ms ≡ take i ms ++ (m ∷ [])
nth_more ms i m e =
    elim (cases_lt i (length ms)) [
      | inl h ↦ (let k : get_or ms i m ≡ m = cc (slice_get-get_or ms i m h) in take_more ms i m h ∙ ap (λ (j : Move). take i ms ++ (j ∷ [])) k)
      | inr h ↦ cc (slice_get_past ms i h)
    ]

-- the moves that are left from a place on: the move there, and those behind it
pub left_more : (ms : List Move) (k : ℕ) (m : Move) (rest : List Move) → drop k ms ≡ m ∷ rest → (slice_get ms k ≡ Some m) × (k < length ms) × (rest ≡ drop (k + 1) ms)
left_more ms k m rest e =
    let inside : k < length ms = omega (arith, ap length e, length-drop k ms) in
    let there : drop k ms ≡ get_or ms k m ∷ drop (suc k) ms = drop-cons ms k m inside in
    let first : get_or ms k m ≡ m = cc in
    let left : rest ≡ drop (suc k) ms = cc in
    (slice_get-get_or ms k m inside ∙ ap (λ (x : Move). Some x) first, inside, rw add-one left)

pub sheet_length : (number words : ℕ) (ms : List Move) → length (sheet_text number words ms) ≡ sheet_bytes (length ms)
sheet_length number words ms = omega (arith, moves_length ms)

-- the heading and the first i moves are written, and the later bytes are as they were
abbrev pub SoFar : ℕ → Model → List ℕ → ℕ → List ℕ → Type 0
SoFar number b before i out = out ≡ sheet_text number b.words (take i b.moves) ++ drop (sheet_bytes i) before

module _ (number : ℕ) (b : Model) (before : List ℕ) where
  pub so_far_more : (i : ℕ) (m : Move) (out next : List ℕ) → slice_get b.moves i ≡ Some m → i < length b.moves →
      next ≡ take (sheet_bytes i) out ++ (written (of_move m) ++ drop (sheet_bytes i + 5) out) → SoFar number b before i out → SoFar number b before (i + 1) next
  so_far_more i m out next e h w o =
      let done : List ℕ = sheet_text number b.words (take i b.moves) in
      let len : length done ≡ sheet_bytes i = omega (arith, sheet_length number b.words (take i b.moves), length-take-le i b.moves (omega arith)) in
      let front : take (sheet_bytes i) out ≡ done = ap (take (sheet_bytes i)) o ∙ take_at done (drop (sheet_bytes i) before) (sheet_bytes i) len in
      let back : drop (sheet_bytes i + 5) out ≡ drop (sheet_bytes i + 5) before =
      ap (drop (sheet_bytes i + 5)) o ∙ drop-append-drop (sheet_bytes i) before done (sheet_bytes i + 5) (omega arith) len in
      let place : sheet_bytes i + 5 ≡ sheet_bytes (i + 1) = omega arith in
      let line : sheet_text number b.words (take (i + 1) b.moves) ≡ done ++ written (of_move m) =
      ap (sheet_text number b.words) (nth_more b.moves i m e) ∙ ap (λ (xs : List ℕ). written (heading number b.words) ++ xs) (moves_join (take i b.moves) (m ∷ [])) in
      w ∙ ap₂ (λ (xs ys : List ℕ). xs ++ (written (of_move m) ++ ys)) front (back ∙ ap (λ (k : ℕ). drop k before) place)
      ∙ sym (append_assoc done (written (of_move m)) (drop (sheet_bytes (i + 1)) before))
      ∙ ap (λ (xs : List ℕ). xs ++ drop (sheet_bytes (i + 1)) before) (sym line)

  pub so_far_done : (i : ℕ) (out : List ℕ) → i ≡ length b.moves → SoFar number b before i out → out ≡ sheet_text number b.words b.moves ++ drop (sheet_bytes i) before
  so_far_done i out e o = o ∙ ap (λ (ms : List Move). sheet_text number b.words ms ++ drop (sheet_bytes i) before) (take_all i b.moves (omega arith))

-- what was written reads back
pub wrote_back : {M : Meaning} (s : State M) (before : List ℕ) (k : ℕ) (after : List ℕ) → Laws M s.start → ∥ Sound M s ∥₁ → WroteSheet M.number s.model before (Ok k) after → WroteBack s (Ok k) after
wrote_back {M} s before k after laws sound (room, count, e) =
    let text : List ℕ = sheet_text M.number s.model.words s.model.moves in
    let front : take k after ≡ text = ap (take k) e ∙ take_at text (drop k before) k (sheet_length M.number s.model.words s.model.moves ∙ sym count) in
    subst (ReadsBack s) (sym front) (reads_back s laws sound)

-- the heading was written over the first bytes, then the lines of the moves
pub lines_done : (number : ℕ) (b : Model) (before first out : List ℕ) (l : SheetLine) (i : ℕ) → first ≡ take 0 before ++ (written l ++ drop (0 + 5) before) → i ≡ length b.moves →
    SoFar number b first i out → out ≡ sheet_text number b.words b.moves ++ drop (sheet_bytes (length b.moves)) before
lines_done number b before first out l i w e o =
    let later : drop (sheet_bytes i) first ≡ drop (sheet_bytes i) before = ap (drop (sheet_bytes i)) w ∙ drop-append-drop 5 before (written l) (sheet_bytes i) (omega arith) refl in
    so_far_done number b first i out e o ∙ ap (λ (xs : List ℕ). sheet_text number b.words b.moves ++ xs) (later ∙ ap (λ (k : ℕ). drop (sheet_bytes k) before) e)
