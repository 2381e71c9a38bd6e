-- One turn of following the advice.
use Rattle.std.proofs.Common.{◌≡◌, ℕ, ◌<◌, ◌≤◌, true, false, List, [], ◌∷◌, ◌++◌, length, is_ok, Some, None, Ok, Err, Option, sym, ◌∙◌, subst, inl, inr, append_assoc, append-nil}
use Rattle.treebank.specs.declared.arcs.Arc.{Arc}
use Rattle.treebank.specs.declared.moves.Move.{Move}
use Rattle.treebank.specs.declared.rows.Row.{Row}
use Rattle.treebank.specs.Moves.{Proper}
use Rattle.treebank.specs.Tables.{GoodTable}
use Rattle.transition.specs.declared.faults.Fault.{Fault}
use Rattle.transition.specs.Meaning.{Meaning, Verdict}
use Rattle.transition.specs.Runs.{Run, Reaches, Arises}
use Rattle.transition.specs.Laws.{Laws}
use Rattle.transition.specs.Making.{Made}
use Rattle.transition.proofs.Running.{run_join, run_one}
use Rattle.transition.proofs.Ceilings.{words_kept}
use Rattle.guidance.specs.Guides.{Guides, Leads, WithinReach}
use Rattle.guidance.specs.Following.{Follows}
use Rattle.guidance.specs.Building.{Agrees, Led, Built}
use Rattle.guidance.proofs.Followed.{led_on, not_silent, finished_reaches}
use Rattle.guidance.proofs.Compared.{agrees_same, same_agrees}

module _ {S : Type 0} (M : Meaning) (conf : S → M.Config) (s t : S) (m : Move) where
  -- a move that was refused was not permitted
  pub refused_not : (f : Fault) (a : Option Arc) → Made M conf s m (Err f) t → Proper m → M.verdict (conf s) m ≡ Ok a → ⊥
  refused_not f a (inl (n, e), same) p v = n p
  refused_not f a (inr (q, e), same) p v = let r : ◌≡◌ {A = Verdict} (Err f) (Ok a) = sym e ∙ v in cc

  -- the same, of an answer that is no Ok
  pub not_permitted : (r : Verdict) → is_ok r ≡ false → Made M conf s m r t → (a : Option Arc) → Proper m → M.verdict (conf s) m ≡ Ok a → ⊥
  not_permitted (Ok b) e made a p v = cc
  not_permitted (Err f) e made a p v = refused_not f a made p v

  -- and of one that is
  pub permitted : (r : Verdict) → is_ok r ≡ true → Made M conf s m r t → (a : Option Arc) × Proper m × (M.verdict (conf s) m ≡ Ok a) × (conf t ≡ M.next (conf s) m)
  permitted (Ok a) e (p, v, i) = (a, p, v, i)
  permitted (Err f) e made = cc

module _ (M : Meaning) (start : ℕ → M.Config) (reliable : Type 0) (laws : Laws M start) (guides : reliable → Guides M start) (n : ℕ) (small : n ≤ 100) (w : List Row) (good : GoodTable n w) where
  pub led_start : (c : M.Config) → c ≡ start n → Led M start reliable n w [] c
  led_start c e = record {
    run = subst (Run M (start n) []) (sym e) Run.stay;
    onward = λ {xs} {e = f} s. subst (λ (x : M.Config). Follows M w x xs f) e s;
    still = λ r t. subst (λ (x : M.Config). Reaches M x w) (sym e) t;
  }

  module _ (ms : List Move) (d : M.Config) (led : Led M start reliable n w ms d) where
    pub led_arises : Arises M start d
    led_arises = (n, small, ms, led.run)

    led_good : GoodTable (M.words d) w
    led_good = subst (λ (k : ℕ). GoodTable k w) (sym (words_kept laws small led.run)) good

    -- the table is within reach where it was
    within : reliable → Reaches M (start n) w → M.finished d ≡ false → WithinReach M start d w
    within r t u = record { arises = led_arises; unfinished = u; good = led_good; reaches = led.still r t }

    asked : reliable → Reaches M (start n) w → M.finished d ≡ false → (o : Option Move) → o ≡ M.advice d w → Leads M d w o
    asked r t u o e = let (m, a, s, p, v, on) = (guides r).leads w (within r t u) in (m, a, e ∙ s, p, v, on)

    pub led_silent : M.finished d ≡ false → None ≡ M.advice d w → reliable → Reaches M (start n) w → ⊥
    led_silent u e r t = not_silent M d w (asked r t u None e)

    pub led_refused : M.finished d ≡ false → (m : Move) → Some m ≡ M.advice d w → ((a : Option Arc) → Proper m → M.verdict d m ≡ Ok a → ⊥) → reliable → Reaches M (start n) w → ⊥
    led_refused u m e not r t = let (a, p, v, on) = led_on M d w m (asked r t u (Some m) e) in not a p v

    pub led_further : M.finished d ≡ false → (m : Move) (a : Option Arc) (x : M.Config) → Some m ≡ M.advice d w → Proper m → M.verdict d m ≡ Ok a → x ≡ M.next d m → Led M start reliable n w (ms ++ m ∷ []) x
    led_further u m a x e p v i = record {
      run = subst (Run M (start n) (ms ++ m ∷ [])) (sym i) (run_join led.run (run_one p v));
      onward = λ {xs} {e = f} s. subst (λ (ns : List Move). Follows M w (start n) ns f) (sym (append_assoc ms (m ∷ []) xs))
          (led.onward (Follows.step u (sym e) p v (subst (λ (y : M.Config). Follows M w y xs f) i s)));
      still = λ r t. let (b, q, k, on) = led_on M d w m (asked r t u (Some m) e) in subst (λ (y : M.Config). Reaches M y w) (sym i) on;
    }

    pub led_falls : (m : Move) (a : Option Arc) (x : M.Config) → M.verdict d m ≡ Ok a → x ≡ M.next d m → M.remaining x < M.remaining d
    led_falls m a x v i = subst (λ (y : M.Config). M.remaining y < M.remaining d) (sym i) (laws.falling m a led_arises v)

-- where following the advice has ended finished, the arcs decide
module _ (M : Meaning) (start : ℕ → M.Config) (reliable : Type 0) (laws : Laws M start) (w : List Row) (small : length w ≤ 100) (good : GoodTable (length w) w)
    (ms : List Move) (d : M.Config) (led : Led M start reliable (length w) w ms d) (e : M.finished d ≡ true) where
  here : Arises M start d
  here = (length w, small, ms, led.run)

  same_words : length w ≡ M.words d
  same_words = sym (words_kept laws small led.run)

  pub led_built : Agrees M d (length w) w → Built M start w ms d
  led_built a = record {
    good = (small, good);
    follows = subst (λ (ns : List Move). Follows M w (start (length w)) ns d) (append-nil ms) (led.onward (Follows.done e));
    run = led.run;
    finished = e;
    same = agrees_same laws d here w same_words (subst (λ (n : ℕ). Agrees M d n w) same_words a);
  }

  pub led_other : (Agrees M d (length w) w → ⊥) → reliable → Reaches M (start (length w)) w → ⊥
  led_other not r t = not (subst (λ (n : ℕ). Agrees M d n w) (sym same_words) (same_agrees laws d here w same_words (finished_reaches laws w here e (led.still r t))))
