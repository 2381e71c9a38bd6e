-- One line of a sheet: the move that it says, and the line that says a move.
use Rattle.std.proofs.Common.{◌≡◌, ℕ, ◌+◌, ◌*◌, ◌<◌, Bool, true, false, cond, eqb, leb, List, [], ◌∷◌, ◌++◌, length, drop, Some, None, Ok, Err, Option, sym, refl, ap, ◌∙◌, arith}
use Rattle.std.proofs.lemmas.List.{take-append-drop}
use Rattle.std.proofs.lemmas.Bool.{le-leb, eqb-true}
use Rattle.treebank.specs.declared.moves.Move.{Move}
use Rattle.treebank.specs.declared.moves.Move.TheVariants.{Shift, LeftArc, RightArc, Reduce, NoArc}
use Rattle.treebank.specs.declared.refusals.Refusal.TheVariants.{BadLabel, ForeignMove}
use Rattle.treebank.specs.Moves.{Label, Proper}
use Rattle.transition.specs.Meaning.{Meaning}
use Rattle.run_sheet.specs.declared.lines.SheetLine.{SheetLine}
use Rattle.run_sheet.specs.Texts.{written, said, Begins}
use Rattle.run_sheet.specs.Says.{of_move, drawing, bare, listed, to_move, line_move, move_said}
use Rattle.run_sheet.proofs.Inverse.{said_written, stands_if}
use Rattle.workbench_model.specs.Models.{Model}
use Rattle.workbench_model.specs.Models.Call.{step}
use Rattle.workbench_model.specs.Serving.{refusal, change}
use Rattle.sheets_theory.specs.Sheets.{moves_text}
use Rattle.sheets_theory.specs.Replays.{for_move, unless_refused, replayed}

-- what a test let through
drawn : (l : ℕ) (x m : Move) → drawing x l ≡ Ok m → x ≡ m
drawn l x m e = at (leb 1 l) (leb l 200) e
  where
    at : (s t : Bool) → cond s (cond t (Ok x) (Err BadLabel)) (Err BadLabel) ≡ Ok m → x ≡ m
    at true true e = cc
    at true false e = cc
    at false t e = cc

bared : (l : ℕ) (x m : Move) → bare x l ≡ Ok m → (l ≡ 0) × (x ≡ m)
bared l x m e = at (eqb l 0) refl e
  where
    at : (t : Bool) → eqb l 0 ≡ t → cond t (Ok x) (Err BadLabel) ≡ Ok m → (l ≡ 0) × (x ≡ m)
    at true f e = (eqb-true l 0 f, cc)
    at false f e = cc

abbrev line : ℕ → ℕ → SheetLine
line k l = record { first = k; second = l }

bare_line : (k l : ℕ) (j : ℕ) (x m : Move) → k ≡ j → of_move x ≡ line j 0 → bare x l ≡ Ok m → of_move m ≡ line k l
bare_line k l j x m p q e =
    let (z, y) = bared l x m e in
    ap of_move (sym y) ∙ q ∙ (λ i. line (sym p i) (sym z i))

drawing_line : (k l : ℕ) (j : ℕ) (x m : Move) → k ≡ j → of_move x ≡ line j l → drawing x l ≡ Ok m → of_move m ≡ line k l
drawing_line k l j x m p q e = ap of_move (sym (drawn l x m e)) ∙ q ∙ (λ i. line (sym p i) l)

-- the line that says a move is the move's
listed_line : (k l : ℕ) (m : Move) → listed k l ≡ Ok m → of_move m ≡ line k l
listed_line k l m e = at (eqb k 0) (eqb k 1) (eqb k 2) (eqb k 3) (eqb k 4) refl refl refl refl refl e
  where
    at : (a b c d f : Bool) → eqb k 0 ≡ a → eqb k 1 ≡ b → eqb k 2 ≡ c → eqb k 3 ≡ d → eqb k 4 ≡ f →
        cond a (bare Shift l) (cond b (drawing (LeftArc l) l) (cond c (drawing (RightArc l) l) (cond d (bare Reduce l) (cond f (bare NoArc l) (Err ForeignMove))))) ≡ Ok m → of_move m ≡ line k l
    at true b c d f p q r s t e = bare_line k l 0 Shift m (eqb-true k 0 p) refl e
    at false true c d f p q r s t e = drawing_line k l 1 (LeftArc l) m (eqb-true k 1 q) refl e
    at false false true d f p q r s t e = drawing_line k l 2 (RightArc l) m (eqb-true k 2 r) refl e
    at false false false true f p q r s t e = bare_line k l 3 Reduce m (eqb-true k 3 s) refl e
    at false false false false true p q r s t e = bare_line k l 4 NoArc m (eqb-true k 4 t) refl e
    at false false false false false p q r s t e = cc

-- a text whose first line says a move begins with that move's line
pub said_move : (text : List ℕ) (m : Move) → move_said text ≡ Ok m → text ≡ written (of_move m) ++ drop 5 text
said_move text m e = at (said text) refl e
  where
    at : (o : Option SheetLine) → said text ≡ o → line_move o ≡ Ok m → text ≡ written (of_move m) ++ drop 5 text
    at None s e = cc
    at (Some l) s e =
        let b : Begins text l = stands_if text (Some l) (sym s) in
        let same : of_move m ≡ l = listed_line l.first l.second m e in
        sym (take-append-drop 5 text) ∙ ap (λ (xs : List ℕ). xs ++ drop 5 text) (b.2 ∙ ap written (sym same))

-- a proper move is what its line says
label_passes : (x : Move) (l : ℕ) → Label l → drawing x l ≡ Ok x
label_passes x l (p, q) =
    ap (λ (t : Bool). cond t (cond (leb l 200) (Ok x) (Err BadLabel)) (Err BadLabel)) (le-leb 1 l p)
    ∙ ap (λ (t : Bool). cond t (Ok x) (Err BadLabel)) (le-leb l 200 q)

pub to_of : (m : Move) → Proper m → to_move (of_move m) ≡ Ok m
to_of Shift p = refl
to_of (LeftArc l) p = label_passes (LeftArc l) l p
to_of (RightArc l) p = label_passes (RightArc l) l p
to_of Reduce p = refl
to_of NoArc p = refl

small : (m : Move) → Proper m → ((of_move m).first < 256) × ((of_move m).second < 256)
small Shift p = (omega arith, omega arith)
small (LeftArc l) (p, q) = (omega arith, omega arith)
small (RightArc l) (p, q) = (omega arith, omega arith)
small Reduce p = (omega arith, omega arith)
small NoArc p = (omega arith, omega arith)

pub move_written : (m : Move) (rest : List ℕ) → Proper m → move_said (written (of_move m) ++ rest) ≡ Ok m
move_written m rest p =
    let (f, s) = small m p in
    ap line_move (said_written (of_move m) rest f s) ∙ to_of m p

-- a text that is not empty: its first line, then the rest
module _ (M : Meaning) (start : ℕ → M.Config) where
  pub replayed_line : (b : Model) (line : ℕ) (text : List ℕ) → 0 < length text → replayed M start b line text ≡
      for_move line (move_said text) (λ m. unless_refused line (refusal M start b (step m)) (replayed M start (change M start b (step m)) (line + 1) (drop 5 text)))
  replayed_line b line [] h = absurd (omega arith)
  replayed_line b line (x ∷ []) h = refl
  replayed_line b line (x ∷ y ∷ []) h = refl
  replayed_line b line (x ∷ y ∷ z ∷ []) h = refl
  replayed_line b line (x ∷ y ∷ z ∷ u ∷ []) h = refl
  replayed_line b line (x ∷ y ∷ z ∷ u ∷ v ∷ rest) h = refl

-- how long a sheet is
pub moves_length : (ms : List Move) → length (moves_text ms) ≡ 5 * length ms
moves_length [] = refl
moves_length (m ∷ ms) = omega (arith, moves_length ms)

-- a line more
pub moves_join : (ms ns : List Move) → moves_text (ms ++ ns) ≡ moves_text ms ++ moves_text ns
moves_join [] ns = refl
moves_join (m ∷ ms) ns = ap (λ (xs : List ℕ). written (of_move m) ++ xs) (moves_join ms ns)
