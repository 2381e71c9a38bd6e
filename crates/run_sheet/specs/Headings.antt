-- The first line of a sheet: the system's number and the word count.
use Rattle.std.specs.Prelude.{◌≡◌, ℕ, cond, List, Some, None, Ok, Err, Option, Result, ◌==◌, ◌≢◌, nat_le}
use Rattle.treebank.specs.declared.words.WordCount.{WordCount}
use Rattle.treebank.specs.declared.refusals.Refusal.{Refusal}
use Rattle.treebank.specs.declared.refusals.Refusal.TheVariants.{TooManyWords, NotASheetLine, OtherSentence}
use Rattle.run_sheet.specs.declared.lines.SheetLine.{SheetLine}
use Rattle.run_sheet.specs.Texts.{said}

-- the first line of a sheet for this system and sentence
abbrev pub headed : ℕ → WordCount → SheetLine
headed s w = record { first = s; second = w.count }

-- how many words a first line for this system says
abbrev pub words_said : ℕ → SheetLine → Result ℕ Refusal
words_said s l = cond (nat_le l.second 100) (cond (l.first == s) (Ok l.second) (Err OtherSentence)) (Err TooManyWords)

-- how many words the first line of a sheet says for this system
abbrev pub line_words : ℕ → Option SheetLine → Result ℕ Refusal
line_words s None = Err NotASheetLine
line_words s (Some l) = words_said s l

abbrev pub heading_said : ℕ → List ℕ → Result ℕ Refusal
heading_said s t = line_words s (said t)

-- a word count as a number
abbrev pub counted : Result WordCount Refusal → Result ℕ Refusal
counted (Ok w) = Ok w.count
counted (Err e) = Err e

-- the word count whose first line this is, and a refusal only where it is no word count's
abbrev pub SaysWords : ℕ → SheetLine → Result WordCount Refusal → Type 0
SaysWords s l (Ok w) = headed s w ≡ l
SaysWords s l (Err e) = (w : WordCount) → headed s w ≢ l
