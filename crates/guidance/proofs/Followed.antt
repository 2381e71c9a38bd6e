-- Where the advice is reliable, following it makes every table that can be reached.
use Rattle.std.proofs.Common.{◌≡◌, ℕ, zero, suc, ◌<◌, Bool, true, false, ◌↔◌, List, [], ◌∷◌, Some, None, Ok, Option, sym, refl, ◌∙◌, subst, arith}
use Rattle.treebank.specs.declared.arcs.Arc.{Arc}
use Rattle.treebank.specs.declared.moves.Move.{Move}
use Rattle.treebank.specs.declared.rows.Row.{Row}
use Rattle.treebank.specs.Moves.{Proper}
use Rattle.treebank.specs.Tables.{GoodTable, table_arcs}
use Rattle.treebank.specs.Trees.{SameArcs}
use Rattle.transition.specs.Meaning.{Meaning}
use Rattle.transition.specs.Runs.{Run, Reaches, Arises}
use Rattle.transition.specs.Laws.{Laws}
use Rattle.transition.proofs.Running.{arises_next}
use Rattle.guidance.specs.Guides.{Guides, Leads, WithinReach}
use Rattle.guidance.specs.Following.{Follows, Derives, LedExactly}

pub follows_run : {M : Meaning} {w : List Row} {c d : M.Config} {ms : List Move} → Follows M w c ms d → Run M c ms d × (M.finished d ≡ true)
follows_run (Follows.done e) = (Run.stay, e)
follows_run (Follows.step u s p v f) = let (r, e) = follows_run f in (Run.move p v r, e)

pub derives_reaches : {M : Meaning} {w : List Row} {c : M.Config} → Derives M c w → Reaches M c w
derives_reaches (ms, d, f, s) = let (r, e) = follows_run f in (ms, d, r, e, s)

module _ {M : Meaning} {start : ℕ → M.Config} (laws : Laws M start) where
  -- a finished configuration goes nowhere else, so it reaches only its own arcs
  pub finished_reaches : {c : M.Config} (w : List Row) → Arises M start c → M.finished c ≡ true → Reaches M c w → SameArcs (M.arcs c) (table_arcs w)
  finished_reaches {c} w h e (ms, d, r, f, s) = subst (λ (x : M.Config). SameArcs (M.arcs x) (table_arcs w)) (sym (stays h e r)) s
    where
      stays : {c d : M.Config} {ms : List Move} → Arises M start c → M.finished c ≡ true → Run M c ms d → c ≡ d
      stays h e Run.stay = refl
      stays h e (Run.move {m = m} {a = a} p v r) = absurd (laws.stopping m a h e v)

  -- a good table stays one after a move
  pub good_next : {c : M.Config} {m : Move} {a : Option Arc} {w : List Row} → Arises M start c → M.verdict c m ≡ Ok a → GoodTable (M.words c) w → GoodTable (M.words (M.next c m)) w
  good_next {m = m} {a = a} {w = w} h v g = subst (λ (n : ℕ). GoodTable n w) (sym (laws.stepping m a h v)) g

  module _ (guides : Guides M start) (w : List Row) where
    derives_step : {c : M.Config} → Arises M start c → GoodTable (M.words c) w → Reaches M c w →
        ((d : M.Config) → M.remaining d < M.remaining c → Arises M start d → GoodTable (M.words d) w → Reaches M d w → Derives M d w) → Derives M c w
    derives_step {c} h good r rest = whole (M.finished c) refl
      where
        whole : (b : Bool) → M.finished c ≡ b → Derives M c w
        whole true e = ([], c, Follows.done e, finished_reaches w h e r)
        whole false u =
            let (m, a, s, p, v, on) = guides.leads w (record { arises = h; unfinished = u; good = good; reaches = r }) in
            let (ms, d, f, same) = rest (M.next c m) (laws.falling m a h v) (arises_next h p v) (good_next h v good) on in
            (m ∷ ms, d, Follows.step u s p v f, same)

    derives_by : (k : ℕ) {c : M.Config} → M.remaining c < k → Arises M start c → GoodTable (M.words c) w → Reaches M c w → Derives M c w
    derives_by zero l h good r = absurd (omega arith)
    derives_by (suc k) l h good r = derives_step h good r (λ d less i g t. derives_by k {c = d} (omega arith) i g t)

    pub derives : {c : M.Config} → Arises M start c → GoodTable (M.words c) w → Reaches M c w ↔ Derives M c w
    derives {c} h good = (derives_by (suc (M.remaining c)) (omega arith) h good, derives_reaches)

  pub led_exactly : Guides M start → LedExactly M start
  led_exactly guides c w h good = derives guides w h good

-- what an answer to the question for advice says
pub advice_leads : {M : Meaning} {start : ℕ → M.Config} → Guides M start → (c : M.Config) (w : List Row) (r : Option Move) → r ≡ M.advice c w → WithinReach M start c w → Leads M c w r
advice_leads {M} guides c w r e within = let (m, a, s, p, v, on) = guides.leads w within in (m, a, e ∙ s, p, v, on)

-- where the answer was a move, that move was permitted and the table can still be reached
module _ (M : Meaning) (c : M.Config) (w : List Row) where
  pub led_on : (m : Move) → Leads M c w (Some m) → (a : Option Arc) × Proper m × (M.verdict c m ≡ Ok a) × Reaches M (M.next c m) w
  led_on m (m', a, s, p, v, on) =
      let e : m' ≡ m = cc in
      (a, subst Proper e p, subst (λ (x : Move). M.verdict c x ≡ Ok a) e v, subst (λ (x : Move). Reaches M (M.next c x) w) e on)

  pub not_silent : Leads M c w None → ⊥
  not_silent (m, a, s, p, v, on) = cc
