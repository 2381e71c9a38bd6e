-- The text of a sheet line: two digits for each number, and LF.
use Rattle.std.specs.Prelude.{◌≡◌, ℕ, ◌/◌, ◌%◌, ◌<◌, ◌≤◌, cond, List, [], ◌∷◌, ◌++◌, length, take, drop, Some, None, Ok, Err, Option, Result, ◌==◌, nat_le, slice_index}
use Rattle.treebank.specs.declared.refusals.Refusal.{Refusal}
use Rattle.treebank.specs.declared.refusals.Refusal.TheVariants.{BufferTooSmall}
use Rattle.run_sheet.specs.declared.lines.SheetLine.{SheetLine}
use Rattle.run_sheet.specs.Digits.{digit, pair}

-- the line's four digits and LF
abbrev pub written : SheetLine → List ℕ
written l = digit (l.first / 16) ∷ digit (l.first % 16) ∷ digit (l.second / 16) ∷ digit (l.second % 16) ∷ 10 ∷ []

-- the line of two numbers, if there are both
abbrev pub line_of : Option ℕ → Option ℕ → Option SheetLine
line_of None s = None
line_of (Some f) None = None
line_of (Some f) (Some s) = Some (record { first = f; second = s })

-- the line at the beginning of a text: four digits and LF
abbrev pub said : List ℕ → Option SheetLine
said t =
    cond (nat_le 5 (length t))
    (cond (slice_index t 4 == 10) (line_of (pair (slice_index t 0) (slice_index t 1)) (pair (slice_index t 2) (slice_index t 3))) None)
    None

-- a line of two numbers of 0 to 255 whose text begins this text
abbrev pub Begins : List ℕ → SheetLine → Type 0
Begins t l = (l.first < 256) × (l.second < 256) × (take 5 t ≡ written l)

-- the line that begins the text, and none only where no line does
abbrev pub Stands : List ℕ → Option SheetLine → Type 0
Stands t (Some l) = Begins t l
Stands t None = (l : SheetLine) → Begins t l → ⊥

-- the line's text in place of the first five bytes, from which it reads back; or too few bytes, and they stay
abbrev pub Wrote : SheetLine → List ℕ → Result ℕ Refusal → List ℕ → Type 0
Wrote l old (Ok n) new = (5 ≤ length old) × (n ≡ 5) × (new ≡ written l ++ drop 5 old) × (said new ≡ Some l)
Wrote l old (Err e) new = (length old < 5) × (e ≡ BufferTooSmall) × (new ≡ old)
