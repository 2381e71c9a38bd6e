-- What building a table says of the class that a system reaches.
use Rattle.std.proofs.Common.{◌≡◌, ℕ, List, length, Ok, Err, Result, MatchResult, Vec, Global, inl, inr}
use Rattle.treebank.specs.declared.moves.Move.{Move}
use Rattle.treebank.specs.declared.rows.Row.{Row}
use Rattle.treebank.specs.declared.refusals.Refusal.{Refusal}
use Rattle.treebank.specs.declared.refusals.Refusal.TheVariants.{TooManyWords, BadRow}
use Rattle.transition.specs.Meaning.{Meaning}
use Rattle.guidance.specs.declared.errors.BuildError.{BuildError}
use Rattle.guidance.specs.declared.errors.BuildError.TheVariants.{Refused, NoMemory}
use Rattle.guidance.specs.Building.{Built, NotBuilt}
use Rattle.guidance.specs.Classes.{ReachesExactly, Makes, MakesNot}

refusal_of : (x y : Refusal) → Refused x ≡ Refused y → x ≡ y
refusal_of x y e = cc

module _ (M : Meaning) (start : ℕ → M.Config) (Class : List Row → Type 0) (reaches : ReachesExactly M start Class) (w : List Row) where
  pub built_class : (ms : List Move) (d : M.Config) → Built M start w ms d → Makes M start Class w ms
  built_class ms d b =
      let (small, good) = b.good in
      record {
        good = b.good;
        class = (reaches (length w) w small good).0 (ms, d, b.run, b.finished, b.same);
        run = (d, b.follows, b.run, b.finished, b.same);
      }

  pub no_class : {S : Type 0} (conf : S → M.Config) (s : S) (e : BuildError) (t : S) → NotBuilt M conf start (Unit {0}) w s e t → MakesNot Class w e
  no_class conf s (Refused why) t (inl (many, f, same)) = inl (many, refusal_of why TooManyWords f)
  no_class conf s (Refused why) t (inr (inl (few, bad, f, same))) = inr (inl (few, bad, refusal_of why BadRow f))
  no_class conf s (Refused why) t (inr (inr (few, good, (f, stuck), same))) = inr (inr (few, good, (λ c. stuck tt ((reaches (length w) w few good).1 c)), f))
  no_class conf s NoMemory t (inl (many, f, same)) = cc
  no_class conf s NoMemory t (inr (inl (few, bad, f, same))) = cc
  no_class conf s NoMemory t (inr (inr (few, good, stuck, same))) = (few, good)

  -- what a building answered, said of the class
  pub class_built : {S : Type 0} (conf : S → M.Config) (s t : S) (r : Result (Vec Move Global) BuildError) →
      MatchResult r (λ v. Built M start w v.items (conf t)) (λ e. NotBuilt M conf start (Unit {0}) w s e t) →
      MatchResult r (λ v. Makes M start Class w v.items) (λ e. MakesNot Class w e)
  class_built conf s t (Ok v) b = built_class v.items (conf t) b
  class_built conf s t (Err e) n = no_class conf s e t n
