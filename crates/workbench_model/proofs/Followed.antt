-- The moves that derive makes, as a function and as a relation.
use Rattle.std.proofs.Common.{◌≡◌, ℕ, zero, suc, ◌+◌, ◌≤◌, Bool, true, false, cond, ◌↔◌, List, [], ◌∷◌, ◌++◌, length, take, Some, None, Ok, Err, Option, sym, refl, ap, ◌∙◌, subst, arith}
use Rattle.std.proofs.lemmas.Bool.{cond-true}
use Rattle.treebank.specs.declared.arcs.Arc.{Arc}
use Rattle.treebank.specs.declared.moves.Move.{Move}
use Rattle.treebank.specs.declared.rows.Row.{Row}
use Rattle.treebank.specs.Moves.{Proper}
use Rattle.treebank.specs.Tables.{table_arcs}
use Rattle.treebank.specs.Trees.{SameArcs}
use Rattle.transition.specs.Meaning.{Meaning, Verdict}
use Rattle.transition.specs.Runs.{Run, Arises, after}
use Rattle.transition.specs.Laws.{Laws}
use Rattle.transition.proofs.Running.{run_after, run_join, arises_run, run_keeps}
use Rattle.transition.proofs.Ceilings.{run_falls}
use Rattle.guidance.specs.Following.{Follows}
use Rattle.guidance.proofs.Followed.{follows_run}
use Rattle.guidance.proofs.Compared.{agrees_same, same_agrees}
use Rattle.workbench_model.specs.Derivations.{is_proper, with_first, advised, permitted, followed, does_agree, if_agrees, derivation}
use Rattle.workbench_model.proofs.Tested.{no_way, proper_exact, agrees_exact}

module _ (M : Meaning) where
  -- the front of a run is a run
  pub run_take : (i : ℕ) {c d : M.Config} {ms : List Move} → Run M c ms d → Run M c (take i ms) (after M c (take i ms))
  run_take zero r = Run.stay
  run_take (suc i) Run.stay = Run.stay
  run_take (suc i) (Run.move p v r) = Run.move p v (run_take i r)

  pub after_join : (c : M.Config) (ms ns : List Move) → after M c (ms ++ ns) ≡ after M (after M c ms) ns
  after_join c [] ns = refl
  after_join c (m ∷ ms) ns = after_join (M.next c m) ms ns

  pub run_more : {c : M.Config} (ms ns : List Move) {d e : M.Config} → Run M c ms d → Run M d ns e → Run M c (ms ++ ns) (after M c (ms ++ ns))
  run_more {c} ms ns {e = e} r s = subst (λ (x : M.Config). Run M c (ms ++ ns) x) (run_after (run_join r s)) (run_join r s)

  -- one turn of following
  abbrev turn : List Row → ℕ → M.Config → Move → Option (List Move)
  turn w k c m = cond (is_proper m) (permitted (M.verdict c m) (with_first m (followed M w k (M.next c m)))) None

  pub turn_made : (w : List Row) (k : ℕ) (c : M.Config) (m : Move) (a : Option Arc) → M.finished c ≡ false → M.advice c w ≡ Some m → Proper m → M.verdict c m ≡ Ok a →
      followed M w (suc k) c ≡ with_first m (followed M w k (M.next c m))
  turn_made w k c m a u s p v =
      ap (λ (t : Bool). cond t (Some []) (advised (M.advice c w) (turn w k c))) u
      ∙ ap (λ (o : Option Move). advised o (turn w k c)) s
      ∙ cond-true (is_proper m) (permitted (M.verdict c m) (with_first m (followed M w k (M.next c m)))) None ((proper_exact m).1 p)
      ∙ ap (λ (r : Verdict). permitted r (with_first m (followed M w k (M.next c m)))) v

  -- finished, no move follows
  pub followed_none : (w : List Row) (k : ℕ) (c : M.Config) → M.finished c ≡ true → followed M w k c ≡ Some []
  followed_none w zero c f = ap (λ (t : Bool). cond t (Some []) None) f
  followed_none w (suc k) c f = ap (λ (t : Bool). cond t (Some []) (advised (M.advice c w) (turn w k c))) f

  first_some : (m : Move) (o : Option (List Move)) (ms : List Move) → with_first m o ≡ Some ms → (ns : List Move) × (o ≡ Some ns) × (ms ≡ m ∷ ns)
  first_some m None ms e = no_way (cc)
  first_some m (Some ns) ms e = (ns, refl, cc)

  pub followed_follows : (w : List Row) (k : ℕ) (c : M.Config) (ms : List Move) → followed M w k c ≡ Some ms → Follows M w c ms (after M c ms)
  followed_follows w zero c ms e = at (M.finished c) refl e
    where
      at : (t : Bool) → M.finished c ≡ t → cond t (Some []) None ≡ Some ms → Follows M w c ms (after M c ms)
      at true f g = let q : [] ≡ ms = cc in subst (λ (xs : List Move). Follows M w c xs (after M c xs)) q (Follows.done f)
      at false f g = no_way (cc)
  followed_follows w (suc k) c ms e = at (M.finished c) refl e (λ m. followed_follows w k (M.next c m))
    where
      F : Move → Option (List Move)
      F m = followed M w k (M.next c m)

      Rest : Type 0
      Rest = (m : Move) (ns : List Move) → F m ≡ Some ns → Follows M w (M.next c m) ns (after M (M.next c m) ns)

      went : (m : Move) (r : Verdict) → M.finished c ≡ false → M.advice c w ≡ Some m → Proper m → M.verdict c m ≡ r → permitted r (with_first m (F m)) ≡ Some ms → Rest → Follows M w c ms (after M c ms)
      went m (Ok a) f s p v g rest =
          let (ns, o, q) = first_some m (F m) ms g in
          subst (λ (xs : List Move). Follows M w c xs (after M c xs)) (sym q) (Follows.step f s p v (rest m ns o))
      went m (Err x) f s p v g rest = no_way (cc)

      labelled : (m : Move) (t : Bool) → is_proper m ≡ t → M.finished c ≡ false → M.advice c w ≡ Some m → cond t (permitted (M.verdict c m) (with_first m (F m))) None ≡ Some ms → Rest → Follows M w c ms (after M c ms)
      labelled m true p f s g rest = went m (M.verdict c m) f s ((proper_exact m).0 p) refl g rest
      labelled m false p f s g rest = no_way (cc)

      told : (o : Option Move) → M.finished c ≡ false → M.advice c w ≡ o → advised o (turn w k c) ≡ Some ms → Rest → Follows M w c ms (after M c ms)
      told None f s g rest = no_way (cc)
      told (Some m) f s g rest = labelled m (is_proper m) refl f s g rest

      at : (t : Bool) → M.finished c ≡ t → cond t (Some []) (advised (M.advice c w) (turn w k c)) ≡ Some ms → Rest → Follows M w c ms (after M c ms)
      at true f g rest = let q : [] ≡ ms = cc in subst (λ (xs : List Move). Follows M w c xs (after M c xs)) q (Follows.done f)
      at false f g rest = told (M.advice c w) f refl g rest

  -- where the relation leads in at most k moves, the function does
  pub follows_followed : (w : List Row) (k : ℕ) {c d : M.Config} {ms : List Move} → Follows M w c ms d → length ms ≤ k → followed M w k c ≡ Some ms
  follows_followed w k (Follows.done {c = c} f) l = followed_none w k c f
  follows_followed w zero (Follows.step u s p v f) l = let z : ⊥ = omega arith in absurd z
  follows_followed w (suc k) (Follows.step {c = c} {m = m} {a = a} u s p v f) l =
      turn_made w k c m a u s p v ∙ ap (with_first m) (follows_followed w k f (omega arith))

  -- the arcs decide
  pub agrees_some : (w : List Row) (c : M.Config) (o : Option (List Move)) (ms : List Move) → if_agrees M w c o ≡ Some ms → (o ≡ Some ms) × (does_agree M (after M c ms) (M.words (after M c ms)) w ≡ true)
  agrees_some w c None ms e = no_way (cc)
  agrees_some w c (Some ns) ms e = at (does_agree M (after M c ns) (M.words (after M c ns)) w) refl e
    where
      at : (t : Bool) → does_agree M (after M c ns) (M.words (after M c ns)) w ≡ t → cond t (Some ns) None ≡ Some ms → (Some ns ≡ Some ms) × (does_agree M (after M c ms) (M.words (after M c ms)) w ≡ true)
      at true f g = let q : ns ≡ ms = cc in (g, subst (λ (xs : List Move). does_agree M (after M c xs) (M.words (after M c xs)) w ≡ true) q f)
      at false f g = no_way (cc)

module _ {M : Meaning} {start : ℕ → M.Config} (laws : Laws M start) (w : List Row) {c : M.Config} (h : Arises M start c) (len : length w ≡ M.words c) where
  -- a run keeps the words
  run_words : {d : M.Config} {ms : List Move} → Run M c ms d → length w ≡ M.words d
  run_words {d} r = run_keeps start (λ x. length w ≡ M.words x) (λ x m a k p v e. e ∙ sym (laws.stepping m a k v)) h len r

  pub derivation_follows : (ms : List Move) → derivation M w c ≡ Some ms → Follows M w c ms (after M c ms) × SameArcs (M.arcs (after M c ms)) (table_arcs w)
  derivation_follows ms e =
      let (o, t) = agrees_some M w c (followed M w (M.remaining c) c) ms e in
      let f : Follows M w c ms (after M c ms) = followed_follows M w (M.remaining c) c ms o in
      let r : Run M c ms (after M c ms) = (follows_run f).0 in
      (f, agrees_same laws (after M c ms) (arises_run h r) w (run_words r) ((agrees_exact M (after M c ms) w (M.words (after M c ms))).0 t))

  pub follows_derivation : (ms : List Move) {d : M.Config} → Follows M w c ms d → SameArcs (M.arcs d) (table_arcs w) → derivation M w c ≡ Some ms
  follows_derivation ms {d} f s =
      let r : Run M c ms d = (follows_run f).0 in
      let l : length ms + M.remaining d ≤ M.remaining c = run_falls laws h r in
      let e : followed M w (M.remaining c) c ≡ Some ms = follows_followed M w (M.remaining c) f (omega arith) in
      let t : does_agree M d (M.words d) w ≡ true = (agrees_exact M d w (M.words d)).1 (same_agrees laws d (arises_run h r) w (run_words r) s) in
      ap (if_agrees M w c) e ∙ cond-true _ (Some ms) None (subst (λ (x : M.Config). does_agree M x (M.words x) w ≡ true) (run_after r) t)

  -- derive makes exactly what following the advice makes
  pub derivation_exact : (ms : List Move) → (derivation M w c ≡ Some ms) ↔ (Follows M w c ms (after M c ms) × SameArcs (M.arcs (after M c ms)) (table_arcs w))
  derivation_exact ms = (derivation_follows ms, λ (f, s). follows_derivation ms f s)
