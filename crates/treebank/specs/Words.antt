-- A sentence has 0 to 100 words.
use Rattle.std.specs.Prelude.{◌≡◌, ℕ, ◌<◌, ◌≤◌, Ok, Err, Result}
use Rattle.treebank.specs.declared.refusals.Refusal.{Refusal}
use Rattle.treebank.specs.declared.refusals.Refusal.TheVariants.{TooManyWords}
use Rattle.treebank.specs.declared.words.WordCount.{WordCount}

-- the count that was asked for, or that it is over 100
abbrev pub Counted : ℕ → Result WordCount Refusal → Type 0
Counted n (Ok w) = (n ≤ 100) × (w.count ≡ n)
Counted n (Err e) = (100 < n) × (e ≡ TooManyWords)
