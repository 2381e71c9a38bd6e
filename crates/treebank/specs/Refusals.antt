-- Every refusal with its number: up to 13 from the input, from 20 on from the state.
use Rattle.std.specs.Prelude.{ℕ}
use Rattle.treebank.specs.declared.refusals.Refusal.{Refusal}
use Rattle.treebank.specs.declared.refusals.Refusal.TheVariants.{TooManyWords, BadLabel, ForeignMove, WrongRowCount, BadRow, NotASheetLine, OtherSentence, NotTenColumns, WrongId, BadHead, UnknownLabel, BadLabelList, BufferTooSmall}
use Rattle.treebank.specs.declared.refusals.Refusal.TheVariants.{Finished, TooFewNodes, IntoRoot, HasHead, HasNoHead, WouldCircle, Unreachable, NothingToUndo, CheckpointStands, NoSuchCheckpoint, SecondRootArc, LabelNotInSet, MovesStand}

abbrev pub number : Refusal → ℕ
number TooManyWords = 1
number BadLabel = 2
number ForeignMove = 3
number WrongRowCount = 4
number BadRow = 5
number NotASheetLine = 6
number OtherSentence = 7
number NotTenColumns = 8
number WrongId = 9
number BadHead = 10
number UnknownLabel = 11
number BadLabelList = 12
number BufferTooSmall = 13
number Finished = 20
number TooFewNodes = 21
number IntoRoot = 22
number HasHead = 23
number HasNoHead = 24
number WouldCircle = 25
number Unreachable = 26
number NothingToUndo = 27
number CheckpointStands = 28
number NoSuchCheckpoint = 29
number SecondRootArc = 30
number LabelNotInSet = 31
number MovesStand = 32
