-- The end of a body's if (Brock, figure 2.12 and the table of the IC gate): what `joined` yields when the arm of a true test iterates or returns,
-- when the arm of a false one does, and when the test is no truth. The results of an arm that was not chosen are absent.
use Rattle.std.specs.Prelude.{ℕ, ◌+◌, ◌≤◌, ◌<◌, ◌≡◌, Bool, ◌&&◌, List, [], ◌∷◌, ◌++◌, length, get_or, replicate, eqb}
use Rattle.std.proofs.Math.Path.{refl, sym, ap, subst}
use Rattle.std.proofs.Common.{◌∙◌, ne_eqb, eq-eqb, arith}
use Rattle.std.proofs.Math.Bool.{true, false, cond}
use Rattle.std.proofs.lemmas.Bool.{false≢true}
use Rattle.std.proofs.Math.Option.{Option, none, some}
use Rattle.value.specs.declared.Value.{Value}
use Rattle.value.specs.declared.Sense.TheVariants.{Neither}
use Rattle.value.specs.Senses.{err, sense}
use Rattle.network.specs.Values.{true-value, false-value, err-value}
use Rattle.formula.specs.Tree.{Exp, Body, if_b}
use Rattle.formula.specs.Widths.{iterated}
use Rattle.formula.specs.Count.{returns, iterates}
use Rattle.formula.specs.Admitted.{AdmittedB}
use Rattle.graph.specs.Assembly.{wire, beside, gate, IC, member_of}
use Rattle.graph.specs.Yields.{Values, absent, present, bound, YieldsIn, Fires}
use Rattle.graph.specs.Translation.{test_name, iter_name, iterated_name, returned_name, join_name, iterated_join, returned_join, arm_names, join_names, joined}
use Rattle.theory_yields.proofs.Naming.{length-up_from, above-up_from}
use Rattle.theory_yields.specs.BodyWidths.{iterated_outputs, returned_outputs}
use Rattle.theory_yields.proofs.BodyWidths.{iterated-both, iterated-outputs, returned-outputs}
use Rattle.theory_yields.specs.Joins.{join_i, join_r}
use Rattle.theory_yields.specs.ArmNames.{iterated_names, returned_names, Narrow}
use Rattle.theory_yields.proofs.ArmNames.{arm_from, join-from}
use Rattle.theory_yields.proofs.FitParts.{if-iterates}
use Rattle.theory_yields.specs.Gates.{join_outputs}
use Rattle.theory_yields.proofs.Gates.{IC-true-true, IC-true-false, IC-false-true, IC-false-false, IC-err}
use Rattle.theory_yields.proofs.Lookups.{present-at, absent-at, bound-other, bound-append, bound-up}
use Rattle.theory_yields.proofs.Rows.{in-turn, side_by_side, three-yield}
use Rattle.theory_yields.specs.JoinRows.{Hold, Empty}
use Rattle.theory_yields.proofs.JoinRows.{join_i-rests, join_i-takes-first, join_i-takes-second, join_r-rests, join_r-errs, join_r-takes-first, join_r-takes-second}

-- ---- the names of one arm
module _ (side : Bool) (w : ℕ) (x : Body) where
  -- What the names of an arm's outputs have.
  pub record Given (ρ : Values) (a : Option Value) (is rs : List (Option Value)) : Type 0 where
    pub iter? : ρ (iter_name side) ≡ a
    pub results : (i : ℕ) → i < iterated_outputs x → ρ (iterated_name side + i) ≡ get_or is i none
    pub answers : (i : ℕ) → i < returned_outputs w x → ρ (returned_name side + i) ≡ get_or rs i none

  past-iterated : Narrow w x → (i : ℕ) → member_of (iterated_names side x) (returned_name side + i) ≡ false
  past-iterated n i = go side
    where
      go : (s : Bool) → member_of (iterated_names s x) (returned_name s + i) ≡ false
      go true = above-up_from 35 (iterated_outputs x) (51 + i) (omega arith)
      go false = above-up_from 68 (iterated_outputs x) (84 + i) (omega arith)

  not-iter : (i : ℕ) → (eqb (iter_name side) (iterated_name side + i) ≡ false) × (eqb (iter_name side) (returned_name side + i) ≡ false)
  not-iter i = go side
    where
      go : (s : Bool) → (eqb (iter_name s) (iterated_name s + i) ≡ false) × (eqb (iter_name s) (returned_name s + i) ≡ false)
      go true = (ne_eqb 34 (35 + i) (λ e. omega arith), ne_eqb 34 (51 + i) (λ e. omega arith))
      go false = (ne_eqb 67 (68 + i) (λ e. omega arith), ne_eqb 67 (84 + i) (λ e. omega arith))

  pub given : (ρ : Values) (a : Option Value) (is rs : List (Option Value)) → Narrow w x → length is ≡ iterated_outputs x → length rs ≡ returned_outputs w x
      → Given (bound (arm_names side w x) (a ∷ (is ++ rs)) ρ) a is rs
  unfolding arm_names bound iterated_outputs returned_outputs
  given ρ a is rs n p q =
      record {
        iter? = ap (λ (b : Bool). cond b a (bound (iterated_names side x ++ returned_names side w x) (is ++ rs) ρ (iter_name side))) (eq-eqb (iter_name side) (iter_name side) refl);
        results = λ i l.
            ap (λ (b : Bool). cond b a (bound (iterated_names side x ++ returned_names side w x) (is ++ rs) ρ (iterated_name side + i))) (not-iter i).0
            ∙ apart (iterated_name side + i)
            ∙ bound-up (bound (returned_names side w x) rs ρ) (iterated_name side) (iterated_outputs x) is i p l;
        answers = λ i l.
            ap (λ (b : Bool). cond b a (bound (iterated_names side x ++ returned_names side w x) (is ++ rs) ρ (returned_name side + i))) (not-iter i).1
            ∙ apart (returned_name side + i)
            ∙ bound-other (bound (returned_names side w x) rs ρ) (iterated_names side x) is (returned_name side + i) (past-iterated n i)
            ∙ bound-up ρ (returned_name side) (returned_outputs w x) rs i q l;
      }
    where
      apart : (k : ℕ) → bound (iterated_names side x ++ returned_names side w x) (is ++ rs) ρ k
          ≡ bound (iterated_names side x) is (bound (returned_names side w x) rs ρ) k
      apart k = bound-append ρ (iterated_names side x) is (returned_names side w x) rs k (p ∙ sym (length-up_from (iterated_name side) (iterated_outputs x)))

-- The names of the first arm keep their values when those of the second are bound.
pub given-still : (w : ℕ) (x y : Body) (ρ : Values) (a : Option Value) (is rs ys : List (Option Value)) → Narrow w x
    → Given true w x ρ a is rs → Given true w x (bound (arm_names false w y) ys ρ) a is rs
given-still w x y ρ a is rs ys n g =
    record {
      iter? = bound-other ρ (arm_names false w y) ys 34 (arm_from false w y 34 (omega arith)) ∙ g.iter?;
      results = λ i l. bound-other ρ (arm_names false w y) ys (35 + i) (arm_from false w y (35 + i) (omega arith)) ∙ g.results i l;
      answers = λ i l. bound-other ρ (arm_names false w y) ys (51 + i) (arm_from false w y (51 + i) (omega arith)) ∙ g.answers i l;
    }

-- ---- IC's outputs
module _ (ρ : Values) (both : Bool) (a b c : Option Value) where
  abbrev pub joining : Values
  joining = bound (join_names both) (join_outputs both a b c) ρ

  join_first : joining join_name ≡ a
  unfolding bound join_names
  join_first = go both
    where
      go : (s : Bool) → bound (join_names s) (join_outputs s a b c) ρ join_name ≡ a
      go true = refl
      go false = refl

  join-second : both ≡ true → joining (join_name + 1) ≡ b
  unfolding bound join_names
  join-second e = go both e
    where
      go : (s : Bool) → s ≡ true → bound (join_names s) (join_outputs s a b c) ρ (join_name + 1) ≡ b
      go true e = refl
      go false e = absurd (false≢true e)

  join-third : joining (join_name + 2) ≡ c
  unfolding bound join_names
  join-third = go both
    where
      go : (s : Bool) → bound (join_names s) (join_outputs s a b c) ρ (join_name + 2) ≡ c
      go true = refl
      go false = refl

  join-other : (k : ℕ) → k < 100 → joining k ≡ ρ k
  join-other k l = bound-other ρ (join_names both) (join_outputs both a b c) k (join-from both k l)

  -- results behind IC
  still-hold : (s n : ℕ) (vs : List Value) → s + n ≤ 100 → length vs ≡ n → ((i : ℕ) → i < n → ρ (s + i) ≡ get_or (present vs) i none) → Hold joining s vs
  still-hold s n vs m e h i l = join-other (s + i) (omega arith) ∙ h i (omega arith) ∙ present-at vs i l

  still-empty : (s n k : ℕ) → s + n ≤ 100 → ((i : ℕ) → i < n → ρ (s + i) ≡ get_or (absent k) i none) → Empty joining s n
  still-empty s n k m h i l = join-other (s + i) (omega arith) ∙ h i l ∙ absent-at k i

-- The results of one arm as they are behind IC.
module _ (side : Bool) (w : ℕ) (x : Body) (n : Narrow w x) (ρ : Values) (both : Bool) (a b c u : Option Value) where
  room : (iterated_name side + iterated_outputs x ≤ 100) × (returned_name side + returned_outputs w x ≤ 100)
  room = go side
    where
      go : (s : Bool) → (iterated_name s + iterated_outputs x ≤ 100) × (returned_name s + returned_outputs w x ≤ 100)
      go true = (omega arith, omega arith)
      go false = (omega arith, omega arith)

  no-results : (k : ℕ) (rs : List (Option Value)) → Given side w x ρ u (absent k) rs → Empty (joining ρ both a b c) (iterated_name side) (iterated_outputs x)
  no-results k rs g = still-empty ρ both a b c (iterated_name side) (iterated_outputs x) k room.0 g.results

  no-answers : (k : ℕ) (is : List (Option Value)) → Given side w x ρ u is (absent k) → Empty (joining ρ both a b c) (returned_name side) (returned_outputs w x)
  no-answers k is g = still-empty ρ both a b c (returned_name side) (returned_outputs w x) k room.1 g.answers

  all_results : (vs : List Value) (rs : List (Option Value)) → length vs ≡ iterated_outputs x → Given side w x ρ u (present vs) rs
      → Hold (joining ρ both a b c) (iterated_name side) vs
  all_results vs rs e g = still-hold ρ both a b c (iterated_name side) (iterated_outputs x) vs room.0 e g.results

  all-answers : (vs : List Value) (is : List (Option Value)) → length vs ≡ returned_outputs w x → Given side w x ρ u is (present vs)
      → Hold (joining ρ both a b c) (returned_name side) vs
  all-answers vs is e g = still-hold ρ both a b c (returned_name side) (returned_outputs w x) vs room.1 e g.answers

module _ (cut : Option ℕ) (w : ℕ) (t : Exp) (x y : Body) (adm : AdmittedB (if_b t x y)) (nx : Narrow w x) (ny : Narrow w y) (ρ : Values) where
  same : iterates x ≡ true → iterates y ≡ true → iterated x ≡ iterated y
  same p q = iterated-both t x y adm p q

  -- IC fires, and the joins follow.
  joined-yields : (a b c : Option Value) (is rs : List (Option Value))
      → Fires (IC (iterates x && iterates y)) (ρ test_name ∷ ρ (iter_name true) ∷ ρ (iter_name false) ∷ []) (join_outputs (iterates x && iterates y) a b c)
      → YieldsIn cut (join_i (iterates x) (iterates y) (iterated x) (iterated y)) (joining ρ (iterates x && iterates y) a b c) 0 (some is)
      → YieldsIn cut (join_r (returns x) (returns y) w) (joining ρ (iterates x && iterates y) a b c) 0 (some rs)
      → YieldsIn cut (joined w x y) ρ 0 (some (a ∷ (is ++ rs)))
  unfolding joined iterated_join returned_join
  joined-yields a b c is rs f p q =
      in-turn cut (join_names (iterates x && iterates y))
      (gate (IC (iterates x && iterates y)) (beside (wire test_name) (beside (wire (iter_name true)) (wire (iter_name false)))))
      (beside (wire join_name) (beside (iterated_join x y) (returned_join w x y))) ρ 0 0 0 (join_outputs (iterates x && iterates y) a b c)
      (some (a ∷ (is ++ rs))) refl
      (three-yield cut ρ (IC (iterates x && iterates y)) test_name (iter_name true) (iter_name false) (join_outputs (iterates x && iterates y) a b c) f)
      (side_by_side cut (wire join_name) (beside (iterated_join x y) (returned_join w x y)) (joining ρ (iterates x && iterates y) a b c) 0 0 0 (a ∷ []) (is ++ rs) refl
      (refl, ap (λ (v : Option Value). some (v ∷ [])) (sym (join_first ρ (iterates x && iterates y) a b c)))
      (side_by_side cut (iterated_join x y) (returned_join w x y) (joining ρ (iterates x && iterates y) a b c) 0 0 0 is rs refl p q))

  module _ (a b c u v : Option Value) where
    results-rest : (k l : ℕ) (ps qs : List (Option Value)) → Given true w x ρ u (absent k) ps → Given false w y ρ v (absent l) qs → b ≡ none
        → YieldsIn cut (join_i (iterates x) (iterates y) (iterated x) (iterated y)) (joining ρ (iterates x && iterates y) a b c) 0
        (some (absent (iterated_outputs (if_b t x y))))
    unfolding iterated_outputs
    results-rest k l ps qs gx gy e =
        subst
        (λ n. YieldsIn cut (join_i (iterates x) (iterates y) (iterated x) (iterated y)) (joining ρ (iterates x && iterates y) a b c) 0 (some (absent n)))
        (sym (if-iterates t x y adm))
        (join_i-rests cut (joining ρ (iterates x && iterates y) a b c) (iterates x) (iterates y) (iterated x) (iterated y) same
        (λ z. join-second ρ (iterates x && iterates y) a b c z ∙ e) (no-results true w x nx ρ (iterates x && iterates y) a b c u k ps gx)
        (no-results false w y ny ρ (iterates x && iterates y) a b c v l qs gy))

    answers-rest : (k l : ℕ) (ps qs : List (Option Value)) → Given true w x ρ u ps (absent k) → Given false w y ρ v qs (absent l) → c ≡ none
        → YieldsIn cut (join_r (returns x) (returns y) w) (joining ρ (iterates x && iterates y) a b c) 0 (some (absent w))
    unfolding returned_outputs
    answers-rest k l ps qs gx gy e =
        join_r-rests cut (joining ρ (iterates x && iterates y) a b c) (returns x) (returns y) w (join-third ρ (iterates x && iterates y) a b c ∙ e)
        (no-answers true w x nx ρ (iterates x && iterates y) a b c u k ps gx) (no-answers false w y ny ρ (iterates x && iterates y) a b c v l qs gy)

  -- What comes from the test.
  at-IC : (p q r : Option Value) (zs : List (Option Value)) → ρ test_name ≡ p → ρ (iter_name true) ≡ q → ρ (iter_name false) ≡ r
      → Fires (IC (iterates x && iterates y)) (p ∷ q ∷ r ∷ []) zs
      → Fires (IC (iterates x && iterates y)) (ρ test_name ∷ ρ (iter_name true) ∷ ρ (iter_name false) ∷ []) zs
  at-IC p q r zs e d f h = rw (e, d, f) h

  pub first-iterates : (k l m : ℕ) (vs : List Value) → ρ test_name ≡ some true-value → iterates x ≡ true → length vs ≡ iterated x
      → Given true w x ρ (some true-value) (present vs) (absent k) → Given false w y ρ none (absent l) (absent m)
      → YieldsIn cut (joined w x y) ρ 0 (some (some true-value ∷ (present vs ++ absent w)))
  unfolding iterated_outputs
  first-iterates k l m vs e i n gx gy =
      joined-yields (some true-value) (some true-value) none (present vs) (absent w)
      (at-IC (some true-value) (some true-value) none (join_outputs (iterates x && iterates y) (some true-value) (some true-value) none) e gx.iter?
      gy.iter? (IC-true-true (iterates x && iterates y) true-value true-value refl refl))
      (join_i-takes-first cut (joining ρ (iterates x && iterates y) (some true-value) (some true-value) none) (iterates x) (iterates y) (iterated x) (iterated y) vs i
      same (join-second ρ (iterates x && iterates y) (some true-value) (some true-value) none) n
      (all_results true w x nx ρ (iterates x && iterates y) (some true-value) (some true-value) none (some true-value) vs (absent k)
      (n ∙ sym (iterated-outputs x)) gx)
      (no-results false w y ny ρ (iterates x && iterates y) (some true-value) (some true-value) none none l (absent m) gy))
      (answers-rest (some true-value) (some true-value) none (some true-value) none k m (present vs) (absent l) gx gy refl)

  pub second-iterates : (k l m : ℕ) (vs : List Value) → ρ test_name ≡ some false-value → iterates y ≡ true → length vs ≡ iterated y
      → Given true w x ρ none (absent l) (absent m) → Given false w y ρ (some true-value) (present vs) (absent k)
      → YieldsIn cut (joined w x y) ρ 0 (some (some true-value ∷ (present vs ++ absent w)))
  unfolding iterated_outputs
  second-iterates k l m vs e i n gx gy =
      joined-yields (some true-value) (some false-value) none (present vs) (absent w)
      (at-IC (some false-value) none (some true-value) (join_outputs (iterates x && iterates y) (some true-value) (some false-value) none) e gx.iter?
      gy.iter? (IC-false-true (iterates x && iterates y) false-value true-value refl refl))
      (join_i-takes-second cut (joining ρ (iterates x && iterates y) (some true-value) (some false-value) none) (iterates x) (iterates y) (iterated x) (iterated y) vs i
      same (join-second ρ (iterates x && iterates y) (some true-value) (some false-value) none) n
      (no-results true w x nx ρ (iterates x && iterates y) (some true-value) (some false-value) none none l (absent m) gx)
      (all_results false w y ny ρ (iterates x && iterates y) (some true-value) (some false-value) none (some true-value) vs (absent k)
      (n ∙ sym (iterated-outputs y)) gy))
      (answers-rest (some true-value) (some false-value) none none (some true-value) m k (absent l) (present vs) gx gy refl)

  pub first-returns : (k l m : ℕ) (vs : List Value) → ρ test_name ≡ some true-value → returns x ≡ true → length vs ≡ w
      → Given true w x ρ (some false-value) (absent k) (present vs) → Given false w y ρ none (absent l) (absent m)
      → YieldsIn cut (joined w x y) ρ 0 (some (some false-value ∷ (absent (iterated_outputs (if_b t x y)) ++ present vs)))
  unfolding returned_outputs
  first-returns k l m vs e i n gx gy =
      joined-yields (some false-value) none (some true-value) (absent (iterated_outputs (if_b t x y))) (present vs)
      (at-IC (some true-value) (some false-value) none (join_outputs (iterates x && iterates y) (some false-value) none (some true-value)) e gx.iter?
      gy.iter? (IC-true-false (iterates x && iterates y) true-value false-value refl refl))
      (results-rest (some false-value) none (some true-value) (some false-value) none k l (present vs) (absent m) gx gy refl)
      (join_r-takes-first cut (joining ρ (iterates x && iterates y) (some false-value) none (some true-value)) (returns x) (returns y) w vs i
      (join-third ρ (iterates x && iterates y) (some false-value) none (some true-value)) n
      (all-answers true w x nx ρ (iterates x && iterates y) (some false-value) none (some true-value) (some false-value) vs (absent k)
      (n ∙ sym (returned-outputs w x i)) gx)
      (no-answers false w y ny ρ (iterates x && iterates y) (some false-value) none (some true-value) none m (absent l) gy))

  pub second-returns : (k l m : ℕ) (vs : List Value) → ρ test_name ≡ some false-value → returns y ≡ true → length vs ≡ w
      → Given true w x ρ none (absent l) (absent m) → Given false w y ρ (some false-value) (absent k) (present vs)
      → YieldsIn cut (joined w x y) ρ 0 (some (some false-value ∷ (absent (iterated_outputs (if_b t x y)) ++ present vs)))
  unfolding returned_outputs
  second-returns k l m vs e i n gx gy =
      joined-yields (some false-value) none (some false-value) (absent (iterated_outputs (if_b t x y))) (present vs)
      (at-IC (some false-value) none (some false-value) (join_outputs (iterates x && iterates y) (some false-value) none (some false-value)) e gx.iter?
      gy.iter? (IC-false-false (iterates x && iterates y) false-value false-value refl refl))
      (results-rest (some false-value) none (some false-value) none (some false-value) l k (absent m) (present vs) gx gy refl)
      (join_r-takes-second cut (joining ρ (iterates x && iterates y) (some false-value) none (some false-value)) (returns x) (returns y) w vs i
      (join-third ρ (iterates x && iterates y) (some false-value) none (some false-value)) n
      (no-answers true w x nx ρ (iterates x && iterates y) (some false-value) none (some false-value) none m (absent l) gx)
      (all-answers false w y ny ρ (iterates x && iterates y) (some false-value) none (some false-value) (some false-value) vs (absent k)
      (n ∙ sym (returned-outputs w y i)) gy))

  -- "in a body it ends the loop with err for each returned value"
  pub neither-arm : (k l m n : ℕ) (v : Value) → ρ test_name ≡ some v → sense v ≡ Neither
      → Given true w x ρ none (absent k) (absent l) → Given false w y ρ none (absent m) (absent n)
      → YieldsIn cut (joined w x y) ρ 0 (some (some false-value ∷ (absent (iterated_outputs (if_b t x y)) ++ present (replicate w err))))
  unfolding returned_outputs
  neither-arm k l m n v e s gx gy =
      joined-yields (some false-value) none (some err-value) (absent (iterated_outputs (if_b t x y))) (present (replicate w err))
      (at-IC (some v) none none (join_outputs (iterates x && iterates y) (some false-value) none (some err-value)) e gx.iter? gy.iter?
      (IC-err (iterates x && iterates y) v s))
      (results-rest (some false-value) none (some err-value) none none k m (absent l) (absent n) gx gy refl)
      (join_r-errs cut (joining ρ (iterates x && iterates y) (some false-value) none (some err-value)) (returns x) (returns y) w
      (join-third ρ (iterates x && iterates y) (some false-value) none (some err-value))
      (no-answers true w x nx ρ (iterates x && iterates y) (some false-value) none (some err-value) none l (absent k) gx)
      (no-answers false w y ny ρ (iterates x && iterates y) (some false-value) none (some err-value) none n (absent m) gy))
