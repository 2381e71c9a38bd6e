-- A rule over a system: the laws are kept, the advice still guides, and what is reached is what is reached below, less what the rule forbids.
use Rattle.std.proofs.Common.{◌≡◌, ℕ, ◌≤◌, ◌↔◌, List, ◌∷◌, Some, None, Ok, Option, sym, refl, subst}
use mathlib.Core.List.Memᴰ
use Rattle.treebank.specs.declared.arcs.Arc.{Arc}
use Rattle.treebank.specs.declared.moves.Move.{Move}
use Rattle.treebank.specs.declared.rows.Row.{Row}
use Rattle.treebank.specs.Moves.{Proper}
use Rattle.treebank.specs.Tables.{table_arcs}
use Rattle.treebank.specs.Trees.{◌∈◌}
use Rattle.transition.specs.Meaning.{Meaning}
use Rattle.transition.specs.Runs.{Run, Reaches, Arises}
use Rattle.transition.specs.Laws.{Laws}
use Rattle.transition.proofs.Running.{arises_start, arises_next, arises_run, arises_keeps}
use Rattle.transition.proofs.Forests.{arcs_forest}
use Rattle.transition.proofs.Ceilings.{words_kept}
use Rattle.guidance.specs.Guides.{Guides, Leads, WithinReach}
use Rattle.layers_theory.specs.Rules.{Ruling, RuleLaws}
use Rattle.layers_theory.specs.Layers.{higher, against, layered, beside, LessForbidden}
use Rattle.layers_theory.proofs.Ruled.{not_lower, Unopposed, permitted_below, permitted_above, level_of, foreign_of}

-- all of the first arcs are among the second
abbrev Within : List Arc → List Arc → Type 0
Within xs ys = (a : Arc) → a ∈ xs → a ∈ ys

module _ {M : Meaning} {start : ℕ → M.Config} (laws : Laws M start) where
  -- no arc goes
  next_grows : {c : M.Config} (m : Move) (a : Option Arc) → Arises M start c → M.verdict c m ≡ Ok a → Within (M.arcs c) (M.arcs (M.next c m))
  next_grows m None h v b k = ((laws.drawing m None h v).1 b).1 k
  next_grows m (Some a) h v b k = ((laws.drawing m (Some a) h v).1 b).1 (Memᴰ.tail k)

  run_grows : {c d : M.Config} {ms : List Move} → Arises M start c → Run M c ms d → Within (M.arcs c) (M.arcs d)
  run_grows h Run.stay b k = k
  run_grows h (Run.move {m = m} {a = a} p v r) b k = run_grows (arises_next h p v) r b (next_grows m a h v b k)

  few_words : {c : M.Config} → Arises M start c → M.words c ≤ 100
  few_words (n, few, ms, r) = subst (λ (k : ℕ). k ≤ 100) (sym (words_kept laws few r)) few

module _ {T : Type 0} (R : Ruling T) (M : Meaning) where
  below : (c : T × M.Config) (m : Move) (a : Option Arc) → (layered R M).verdict c m ≡ Ok a → (M.verdict c.1 m ≡ Ok a) × Unopposed (against R M c.0 c.1) a
  below c m a v = permitted_below (higher M.height) (against R M c.0 c.1) (M.verdict c.1 m) a v

  run_below : {c d : T × M.Config} {ms : List Move} → Run (layered R M) c ms d → Run M c.1 ms d.1
  run_below Run.stay = Run.stay
  run_below (Run.move {c = c} {m = m} {a = a} p v r) = Run.move p (below c m a v).0 (run_below r)

  module _ (start : ℕ → M.Config) (t : T) where
    arises_below : {c : T × M.Config} → Arises (layered R M) (beside t start) c → Arises M start c.1
    arises_below (n, few, ms, r) = (n, few, ms, run_below r)

    same_tables : {c : T × M.Config} → Arises (layered R M) (beside t start) c → c.0 ≡ t
    same_tables h = arises_keeps {M = layered R M} (beside t start) (λ c. c.0 ≡ t) (λ c m a k p v e. e) (λ n few. refl) h

    module _ (rule : RuleLaws R) (laws : Laws M start) where
      pub layered_laws : Laws (layered R M) (beside t start)
      layered_laws = record {
        beginning = λ n few. (let b = laws.beginning n few in record { words = b.words; bare = b.bare; full = b.full; limit = b.limit });
        questions = λ {c} d h. laws.questions d (arises_below h);
        stepping = λ {c} m a h v. laws.stepping m a (arises_below h) (below c m a v).0;
        drawing = λ {c} m a h v. drawn c m a (arises_below h) (below c m a v).0;
        falling = λ {c} m a h v. laws.falling m a (arises_below h) (below c m a v).0;
        stopping = λ {c} m a h e v. laws.stopping m a (arises_below h) e (below c m a v).0;
        foreign = λ c m. (let (to, from) = foreign_of (higher M.height) (against R M c.0 c.1) (rule.own c.0 (M.words c.1) (M.arc_into c.1)) (M.verdict c.1 m) in
            let (out, back) = laws.foreign c.1 m in (λ f. out (to f), λ e. from (back e)));
        levels = λ c m f e. level_of (higher M.height) (against R M c.0 c.1) (M.verdict c.1 m) M.height (not_lower M.height) (laws.levels c.1 m) f e;
        numbers = laws.numbers;
      }
        where
          drawn : (c : T × M.Config) (m : Move) (a : Option Arc) → Arises M start c.1 → M.verdict c.1 m ≡ Ok a → Rattle.transition.specs.Laws.Draws (layered R M) c m a
          drawn c m None h v = laws.drawing m None h v
          drawn c m (Some a) h v = laws.drawing m (Some a) h v

      -- one arc more is allowed exactly where the rule has nothing against it
      exact_at : {c : M.Config} (m : Move) (a : Arc) → Arises M start c → M.verdict c m ≡ Ok (Some a) → R.Allows t (M.arcs c) → (against R M t c a ≡ None) ↔ R.Allows t (a ∷ M.arcs c)
      exact_at {c} m a h v q =
          let (l, adds, fresh) = laws.drawing m (Some a) h v in
          rule.exact t (M.words c) (M.arcs c) (M.arc_into c) a (few_words laws h) (arcs_forest laws h) (λ d. laws.questions d h) fresh q

      -- the rule allows the arcs of every configuration that arises
      allowed_next : (c : T × M.Config) (m : Move) (a : Option Arc) → Arises (layered R M) (beside t start) c → Proper m → (layered R M).verdict c m ≡ Ok a → R.Allows t (M.arcs c.1) → R.Allows t (M.arcs (M.next c.1 m))
      allowed_next c m None h p v q =
          rule.fewer t _ _ (λ b. ((laws.drawing m None (arises_below h) (below c m None v).0).1 b).0) q
      allowed_next c m (Some a) h p v q =
          let (w, u) = below c m (Some a) v in
          let free : against R M t c.1 a ≡ None = subst (λ (x : T). against R M x c.1 a ≡ None) (same_tables h) u in
          rule.fewer t _ _ (λ b. ((laws.drawing m (Some a) (arises_below h) w).1 b).0) ((exact_at m a (arises_below h) w q).0 free)

      always_allowed : {c : T × M.Config} → Arises (layered R M) (beside t start) c → R.Allows t (M.arcs c.1)
      always_allowed h = arises_keeps {M = layered R M} (beside t start) (λ c. R.Allows t (M.arcs c.1)) allowed_next (λ n few. subst (R.Allows t) (sym (laws.beginning n few).bare) (rule.none t)) h

      -- a move after which the rule allows the arcs is permitted under it
      permitted : {c : M.Config} (m : Move) (a : Option Arc) → Arises M start c → M.verdict c m ≡ Ok a → R.Allows t (M.arcs (M.next c m)) → (layered R M).verdict (t, c) m ≡ Ok a
      permitted {c} m None h v q = permitted_above (higher M.height) (against R M t c) (M.verdict c m) None v tt
      permitted {c} m (Some a) h v q =
          let (l, adds, fresh) = laws.drawing m (Some a) h v in
          let all : R.Allows t (a ∷ M.arcs c) = rule.fewer t _ _ (λ b. (adds b).1) q in
          let old : R.Allows t (M.arcs c) = rule.fewer t _ _ (λ b k. Memᴰ.tail k) all in
          permitted_above (higher M.height) (against R M t c) (M.verdict c m) (Some a) v ((exact_at m a h v old).1 all)

      run_above : {c d : M.Config} {ms : List Move} → Arises M start c → R.Allows t (M.arcs d) → Run M c ms d → Run (layered R M) (t, c) ms (t, d)
      run_above h q Run.stay = Run.stay
      run_above h q (Run.move {m = m} {a = a} p v r) =
          Run.move p (permitted m a h v (rule.fewer t _ _ (run_grows laws (arises_next h p v) r) q)) (run_above (arises_next h p v) q r)

      reaches_below : {c : T × M.Config} (w : List Row) → Arises (layered R M) (beside t start) c → Reaches (layered R M) c w → Reaches M c.1 w × R.Allows t (table_arcs w)
      reaches_below w h (ms, d, r, e, s) =
          ((ms, d.1, run_below r, e, s), rule.fewer t _ _ (λ b. (s b).1) (always_allowed (arises_run h r)))

      reaches_above : {c : M.Config} (w : List Row) → Arises M start c → R.Allows t (table_arcs w) → Reaches M c w → Reaches (layered R M) (t, c) w
      reaches_above w h q (ms, d, r, e, s) = (ms, (t, d), run_above h (rule.fewer t _ _ (λ b. (s b).0) q) r, e, s)

      reaches_less : {c : T × M.Config} (w : List Row) → Arises (layered R M) (beside t start) c → Reaches (layered R M) c w ↔ (Reaches M c.1 w × R.Allows t (table_arcs w))
      reaches_less {c} w h =
          (reaches_below w h, λ (r, q). subst (λ (x : T). Reaches (layered R M) (x, c.1) w) (sym (same_tables h)) (reaches_above w (arises_below h) q r))

      pub less_forbidden : LessForbidden R M start t
      less_forbidden = record {
        allowed = λ h. (same_tables h, arises_below h, always_allowed h);
        reaches = λ w h. reaches_less w h;
        from_start = λ n w few. reaches_less {c = (t, start n)} w (arises_start {M = layered R M} {start = beside t start} few);
      }

      -- the advice is that of the system below, and still leads
      pub layered_guides : Guides M start → Guides (layered R M) (beside t start)
      layered_guides guides = record {
        leads = λ {c} w within. leads c w within;
        ended = λ {c} w h e. guides.ended w (arises_below h) e;
        only_good = λ {c} w h f. guides.only_good w (arises_below h) f;
      }
        where
          leads : (c : T × M.Config) (w : List Row) → WithinReach (layered R M) (beside t start) c w → Leads (layered R M) c w (M.advice c.1 w)
          leads c w within =
              let h = arises_below within.arises in
              let (r, q) = reaches_below w within.arises within.reaches in
              let (m, a, s, p, v, (ns, d, on, e, same)) = guides.leads w (record { arises = h; unfinished = within.unfinished; good = within.good; reaches = r }) in
              let then = arises_next {m = m} h p v in
              let after = rule.fewer t _ _ (λ b k. (same b).0 (run_grows laws then on b k)) q in
              subst (λ (x : T). Leads (layered R M) (x, c.1) w (M.advice c.1 w)) (sym (same_tables within.arises))
              (m, a, s, p, permitted m a h v after, reaches_above w then q (ns, d, on, e, same))
