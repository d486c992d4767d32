-- Every loop of an admitted formula's graph can be cut: its body is lets around an if whose test passes two copies before IC takes it (graph/specs/Tests).
-- Assumes an admitted tree; for a body alone, that the whole loop returns at most 16 values, so that the arms' names end before IC's.
use Rattle.std.specs.Prelude.{ℕ, ◌+◌, ◌≤◌, ◌≡◌, refl, Bool, ◌&&◌, List, [], ◌∷◌}
use Rattle.std.proofs.Common.{◌∙◌, arith}
use Rattle.std.proofs.Math.Bool.{true, false}
use Rattle.names.specs.Names.{Names, trigger, without, members}
use Rattle.formula.specs.Tree.{Exp, identifier, constant, pair, operator, let_e, if_e, for_e, Body, ret, iter, let_b, if_b}
use Rattle.formula.specs.Widths.{width, returned, iterated}
use Rattle.formula.specs.Free.{free_e, free_b}
use Rattle.formula.specs.Count.{returns, iterates}
use Rattle.formula.specs.Admitted.{AdmittedE, AdmittedB}
use Rattle.meaning.proofs.WidthLaws.{for-fits}
use Rattle.graph.specs.Assembly.{Graph, wire, beside, bind, gate, Gate, T, F, IC, free, member_of, up_from}
use Rattle.graph.specs.Translation.{test_name, iter_name, iterated_name, returned_name, join_name, row, gated, arm, merged, excepted, merge_row, except_row, straight, copied, iterated_join, returned_join, arm_names, join_names, joined, graph_e, graph_b}
use Rattle.graph.specs.Tests.{Behind, behind, Testing, let-first, at_test, Cuttable}
use Rattle.theory_yields.specs.Naming.{Small}
use Rattle.theory_yields.proofs.Naming.{or_left, or-false, member-members, above-up_from}
use Rattle.theory_yields.proofs.BodyWidths.{not-too-wide, iterated-16}
use Rattle.theory_yields.specs.BodyWidths.{iterated_outputs, returned_outputs}
use Rattle.theory_yields.proofs.Choice.{unseen, row_has}
use Rattle.theory_yields.proofs.Joins.{merge-lacks, straight-lacks, join_r-lacks}
use Rattle.theory_yields.specs.Joins.{join_i, join_r}
use Rattle.theory_yields.proofs.ArmNames.{Foreign, foreign, narrow, arm-to, arm-from-test, join-from, parts-lack}
use Rattle.theory_yields.proofs.FreeNames.{small-B, body-triggered}
use Rattle.theory_yields.proofs.Cuts.{no_test}

-- ---- each arm of a body's if takes the test: it stands behind at least one gate, since every body uses the trigger
-- Gates on names take the test.
gates-test : (G : Gate) (f : Names) (k : ℕ) → Small f → f k ≡ true → free (row (gated G) (members f)) test_name ≡ true
unfolding free
gates-test G f k s e = row_has (gated G) (members f) test_name k (member-members f s k ∙ e) refl

-- The arm of a body's if, behind its gates, takes the test.
arm-tests : (G : Gate) (w : ℕ) (y : Body) → AdmittedB y → free (arm G (free_b y) (graph_b w y)) test_name ≡ true
unfolding free arm
arm-tests G w y adm = or_left _ _ (gates-test G (free_b y) trigger (small-B y adm) (body-triggered y adm))

-- ---- an if behind its test
-- iter? is no control and no result of an arm.
join_i-lacks-iter : (b c : Bool) (m n : ℕ) → m ≤ 16 → n ≤ 16 → free (join_i b c m n) join_name ≡ false
unfolding free
join_i-lacks-iter true true m n p q = merge-lacks (join_name + 1) iterated_name m join_name (λ e. omega arith) (above-up_from 35 m join_name (omega arith)) (above-up_from 68 m join_name (omega arith))
join_i-lacks-iter true false m n p q = straight-lacks 35 m join_name (above-up_from 35 m join_name (omega arith))
join_i-lacks-iter false true m n p q = straight-lacks 68 n join_name (above-up_from 68 n join_name (omega arith))
join_i-lacks-iter false false m n p q = refl

module _ (w : ℕ) (t : Exp) (x y : Body) (adm : AdmittedB (if_b t x y)) (most : w ≤ 16) where
  abbrev results : Graph
  results = beside (iterated_join x y) (returned_join w x y)

  results-lack-iter : free results join_name ≡ false
  unfolding free iterated_join returned_join iterated_outputs returned_outputs
  results-lack-iter =
      let p : Foreign true w x join_name = foreign true w x join_name (arm-to true w x (narrow w x adm.2 most) join_name (omega arith)) in
      let q : Foreign false w y join_name = foreign false w y join_name (arm-to false w y (narrow w y adm.3 most) join_name (omega arith)) in
      or-false _ _ (join_i-lacks-iter (iterates x) (iterates y) (iterated x) (iterated y) (iterated-16 x adm.2) (iterated-16 y adm.3))
      (join_r-lacks (returns x) (returns y) w join_name (λ e. omega arith) p.no-returned q.no-returned)

  -- behind the test, with IC's names and by whether both arms iterate
  abbrev arms-joined : List ℕ → Bool → Graph
  arms-joined ks both =
      bind (arm_names true w x) (arm T (free_b x) (graph_b w x))
      (bind (arm_names false w y) (arm F (free_b y) (graph_b w y))
      (bind ks (gate (IC both) (beside (wire test_name) (beside (wire (iter_name true)) (wire (iter_name false))))) (beside (wire join_name) results)))

  behind-arms : Behind (arms-joined (join_names (iterates x && iterates y)) (iterates x && iterates y))
  unfolding free join_names
  behind-arms =
      go (iterates x && iterates y)
      (unseen _ _ (parts-lack w t x y adm test_name (join-from (iterates x && iterates y) test_name (omega arith)) (foreign true w x test_name none-x) (foreign false w y test_name none-y)))
    where
      none-x : member_of (arm_names true w x) test_name ≡ false
      none-x = arm-from-test true w x test_name (omega arith)

      none-y : member_of (arm_names false w y) test_name ≡ false
      none-y = arm-from-test false w y test_name (omega arith)

      at : (ks : List ℕ) (both : Bool) → without (free (beside (wire join_name) results)) (member_of (join_name ∷ ks)) test_name ≡ false → Behind (arms-joined (join_name ∷ ks) both)
      at ks both h =
          behind (arm_names true w x) (arm_names false w y) ks join_name both _ _ _ results (arm-tests T w x adm.2) none-x (arm-tests F w y adm.3) none-y refl h results-lack-iter

      go : (both : Bool) → without (free (beside (wire join_name) results)) (member_of (join_names both)) test_name ≡ false → Behind (arms-joined (join_names both) both)
      go true h = at ((join_name + 1) ∷ (join_name + 2) ∷ []) true h
      go false h = at ((join_name + 2) ∷ []) false h

-- A body with iterated and with returned values is lets around an if.
pub testing-B : (w : ℕ) (y : Body) → AdmittedB y → w ≤ 16 → 1 ≤ iterated y → 1 ≤ returned y → Testing (graph_b w y)
unfolding graph_b joined iterated returned
testing-B w (ret x) adm n i o = absurd (omega arith)
testing-B w (iter x) adm n i o = absurd (omega arith)
testing-B w (let_b a b x y) adm n i o = let-first (up_from a b) (graph_e x) (graph_b w y) (no_test a b adm.1.1) (testing-B w y adm.3 n i o)
testing-B w (if_b t x y) adm n i o = at_test (graph_e t) _ (behind-arms w t x y adm n)

-- ---- gates and what joins the arms have no loop
row-cuttable : (f : ℕ → Graph) (ns : List ℕ) → ((n : ℕ) → Cuttable (f n)) → Cuttable (row f ns)
unfolding row
row-cuttable f [] h = tt
row-cuttable f (n ∷ ns) h = (h n, row-cuttable f ns h)

arm-cuttable : (G : Gate) (f : Names) (a : Graph) → Cuttable a → Cuttable (arm G f a)
unfolding arm
arm-cuttable G f a c = (row-cuttable (gated G) (members f) (λ n. (tt, tt)), c)

merge-cuttable : (c : ℕ) (s : Bool → ℕ) (w : ℕ) → Cuttable (merge_row c s w)
unfolding merge_row
merge-cuttable c s w = row-cuttable (merged c s) (up_from 0 w) (λ i. (tt, (tt, tt)))

except-cuttable : (c s w : ℕ) → Cuttable (except_row c s w)
unfolding except_row
except-cuttable c s w = row-cuttable (excepted c s) (up_from 0 w) (λ i. (tt, tt))

join_i-cuttable : (b c : Bool) (m n : ℕ) → Cuttable (join_i b c m n)
unfolding straight
join_i-cuttable true true m n = merge-cuttable (join_name + 1) iterated_name m
join_i-cuttable true false m n = row-cuttable (λ i. wire (iterated_name true + i)) (up_from 0 m) (λ i. tt)
join_i-cuttable false true m n = row-cuttable (λ i. wire (iterated_name false + i)) (up_from 0 n) (λ i. tt)
join_i-cuttable false false m n = tt

join_r-cuttable : (b c : Bool) (w : ℕ) → Cuttable (join_r b c w)
unfolding copied
join_r-cuttable true true w = merge-cuttable (join_name + 2) returned_name w
join_r-cuttable true false w = except-cuttable (join_name + 2) (returned_name true) w
join_r-cuttable false true w = except-cuttable (join_name + 2) (returned_name false) w
join_r-cuttable false false w = row-cuttable (λ i. wire (join_name + 2)) (up_from 0 w) (λ i. tt)

joined-cuttable : (w : ℕ) (x y : Body) → Cuttable (joined w x y)
unfolding joined iterated_join returned_join
joined-cuttable w x y = ((tt, (tt, tt)), (tt, (join_i-cuttable (iterates x) (iterates y) (iterated x) (iterated y), join_r-cuttable (returns x) (returns y) w)))

-- ---- the theorem
mutual
  unfolding width graph_e graph_b

  pub cuttable-E : (x : Exp) → AdmittedE x → Cuttable (graph_e x)
  cuttable-E (identifier a) adm = tt
  cuttable-E (constant k a) adm = tt
  cuttable-E (pair x y) adm = (cuttable-E x adm.1, cuttable-E y adm.2)
  cuttable-E (operator k x) adm = cuttable-E x adm.2
  cuttable-E (let_e a b x y) adm = (cuttable-E x adm.2, cuttable-E y adm.3)
  cuttable-E (if_e t x y) adm = (
    cuttable-E t adm.1,
    (arm-cuttable T (free_e x) (graph_e x) (cuttable-E x adm.2), (arm-cuttable F (free_e y) (graph_e y) (cuttable-E y adm.3), merge-cuttable test_name returned_name (width x))),
  )
  cuttable-E (for_e a b x y) adm =
      let f = for-fits a b x y adm.0.0 in
      (cuttable-E x adm.2, cuttable-B (returned y) y adm.3, testing-B (returned y) y adm.3 (not-too-wide (for_e a b x y) adm) (omega (arith, f.1, adm.1.0)) f.2)

  pub cuttable-B : (w : ℕ) (y : Body) → AdmittedB y → Cuttable (graph_b w y)
  cuttable-B w (ret x) adm = (tt, cuttable-E x adm.1)
  cuttable-B w (iter x) adm = (tt, cuttable-E x adm.1)
  cuttable-B w (let_b a b x y) adm = (cuttable-E x adm.2, cuttable-B w y adm.3)
  cuttable-B w (if_b t x y) adm = (
    cuttable-E t adm.1,
    (arm-cuttable T (free_b x) (graph_b w x) (cuttable-B w x adm.2), (arm-cuttable F (free_b y) (graph_b w y) (cuttable-B w y adm.3), joined-cuttable w x y)),
  )
