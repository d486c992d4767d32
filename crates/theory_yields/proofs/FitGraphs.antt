-- Laws of specs/FitGraphs.antt, and what only they need.
use Rattle.std.specs.Prelude.{ℕ, suc, ◌+◌, ◌-◌, ◌≤◌, ◌<◌, ◌≡◌, refl, Bool, true, false, ◌&&◌, List, length}
use Rattle.std.proofs.Common.{sym, ap, ap₂, ◌∙◌, le-leb, lt-ltb, arith}
use Rattle.names.specs.Names.{Names, size_from, bit}
use Rattle.names.proofs.Counts.{size_from-suc, size_from-mono}
use Rattle.formula.specs.Tree.{Exp, identifier, constant, pair, operator, let_e, if_e, for_e, Body, ret, iter, let_b, if_b}
use Rattle.formula.specs.Widths.{width, returned, iterated}
use Rattle.formula.specs.Free.{free_e, free_b, bound_e, bound_b, covers}
use Rattle.formula.specs.Count.{returns, iterates}
use Rattle.formula.specs.Admitted.{AdmittedE, AdmittedB}
use Rattle.graph.specs.Assembly.{Graph, loop, gate_outputs, free, up_from, total, name_count}
use Rattle.graph.specs.Yields.{output_count}
use Rattle.graph.specs.Fit.{Fit, Used, gate_inputs}
use Rattle.graph.specs.Translation.{test_name, returned_name, merge_row, arm_names, joined, graph_e, graph_b}
use Rattle.meaning.proofs.WidthLaws.{operator-fits, let-fits, if-fits, for-fits, let-fits-B, if-fits-B}
use Rattle.theory_yields.proofs.Naming.{length-up_from, member-up_from, up_from-holds, below-up_from, different-up_from}
use Rattle.theory_yields.proofs.BodyWidths.{wide_enough, not-too-wide, iterated-outputs, returned-outputs, iterates-some, returns-some, arms-return}
use Rattle.theory_yields.specs.BodyWidths.{iterated_outputs, returned_outputs}
use Rattle.theory_yields.specs.Choice.{Has}
use Rattle.theory_yields.proofs.Joins.{merge-control, merge-has}
use Rattle.theory_yields.specs.ArmNames.{Narrow}
use Rattle.theory_yields.proofs.ArmNames.{narrow, length-arm-names, arm-from-test, arms-apart, arm-different, use-first, use-second, joined-test}
use Rattle.theory_yields.proofs.FreeNames.{small-E, small-B, free-E, free-B, covered, body-triggered, results-from-test}
use Rattle.theory_yields.proofs.BareOutputs.{body-bare}
use Rattle.theory_yields.proofs.FitParts.{count-merge, fit-merge, fit-choice, fit-joined, count-joined}
use Rattle.theory_yields.specs.FitParts.{Arms}
use Rattle.theory_yields.specs.FitGraphs.{Returning}

-- ---- the graph of a formula
pub count-loop : (ns : List ℕ) (a b : Graph) (n : ℕ) → output_count b ≡ suc n → output_count (loop ns a b) ≡ n - length ns
unfolding output_count
count-loop ns a b n e = rw e refl

-- What a for's body has: all of the loop's iterated and returned results.
pub loop-outputs : (a b : ℕ) (x : Exp) (y : Body) → AdmittedE (for_e a b x y)
    → (iterated_outputs y ≡ b) × (returned_outputs (returned y) y ≡ returned y)
loop-outputs a b x y h =
    let f = for-fits a b x y h.0.0 in
    (iterated-outputs y ∙ f.1, returned-outputs (returned y) y (returns-some y f.2))

pub arms-returning : (w : ℕ) (t : Exp) (x y : Body) → AdmittedB (if_b t x y) → Returning w (if_b t x y) → Returning w x × Returning w y
arms-returning w t x y a r =
    let s = arms-return t x y w a r.suits in (
      record { some-width = r.some-width; at_most = r.at_most; suits = s.0 },
      record { some-width = r.some-width; at_most = r.at_most; suits = s.1 },
    )

pub let-returning : (w p q : ℕ) (x : Exp) (y : Body) → Returning w (let_b p q x y) → Returning w y
unfolding returned
let-returning w p q x y r = record { some-width = r.some-width; at_most = r.at_most; suits = r.suits }

pub loop-returning : (a b : ℕ) (x : Exp) (y : Body) → AdmittedE (for_e a b x y) → Returning (returned y) y
unfolding width
loop-returning a b x y h =
    record {
      some-width = (for-fits a b x y h.0.0).2;
      at_most = not-too-wide (for_e a b x y) h;
      suits = λ i. refl;
    }

mutual
  unfolding output_count gate_outputs width returned graph_e graph_b iterated iterates returns iterated_outputs returned_outputs

  pub count-E : (x : Exp) → AdmittedE x → output_count (graph_e x) ≡ width x
  count-E (identifier a) h = refl
  count-E (constant k a) h = refl
  count-E (pair x y) h = ap₂ ◌+◌ (count-E x h.1) (count-E y h.2)
  count-E (operator k x) h = refl
  count-E (let_e a b x y) h = count-E y h.3
  count-E (if_e t x y) h = count-merge test_name (width x) returned_name
  count-E (for_e a b x y) h =
      let c : output_count (graph_b (returned y) y) ≡ suc (iterated_outputs y + returned_outputs (returned y) y) =
      count-B (returned y) y h.3 (loop-returning a b x y h)
      in
      let o = loop-outputs a b x y h in
      count-loop (up_from a b) (graph_e x) (graph_b (returned y) y) (iterated_outputs y + returned_outputs (returned y) y) c
      ∙ omega (arith, o, length-up_from a b)

  pub count-B : (w : ℕ) (y : Body) → AdmittedB y → Returning w y → output_count (graph_b w y) ≡ suc (iterated_outputs y + returned_outputs w y)
  count-B w (ret x) h r = omega (arith, count-E x h.1, r.suits (wide_enough x h.1))
  count-B w (iter x) h r = omega (arith, count-E x h.1)
  count-B w (let_b a b x y) h r = count-B w y h.3 (let-returning w a b x y r)
  count-B w (if_b t x y) h r = count-joined w t x y h

two-names : (f : Names) (a : ℕ) → a < 32 → f a ≡ true → f 32 ≡ true → 2 ≤ total f
unfolding total
two-names f a l p q =
    let d : size_from (suc a) f ≡ size_from a f + 1 = size_from-suc a f ∙ ap (λ (b : Bool). size_from a f + bit b) p in
    let e : size_from 33 f ≡ size_from 32 f + 1 = size_from-suc 32 f ∙ ap (λ (b : Bool). size_from 32 f + bit b) q in
    omega (arith, size_from-mono (suc a) 32 f l, size_from-mono 33 name_count f (omega arith))

-- What a let or a for binds is used.
bound-used : (a b : ℕ) (f : Names) (g : Graph) → a + b ≤ 32 → covers f a b ≡ true → Has g f → Used (up_from a b) g
bound-used a b f g s c e k m =
    let i : (a ≤ k) × (k < a + b) = up_from-holds a b k m in
    e k ∙ covered f a b s c k (sym (member-up_from a b k) ∙ m) (omega (arith, i))

-- A loop's body has at least two inputs: an identifier and the trigger.
pub body-names : (w a b : ℕ) (y : Body) → AdmittedB y → 1 ≤ b → a + b ≤ 32 → covers (free_b y) a b ≡ true → 2 ≤ total (free (graph_b w y))
body-names w a b y h p s c =
    two-names (free (graph_b w y)) a (omega arith)
    (bound-used a b (free_b y) (graph_b w y) s c (free-B w y h) a (member-up_from a b a ∙ ap₂ ◌&&◌ (le-leb a a (omega arith)) (lt-ltb a (a + b) (omega arith))))
    (free-B w y h 32 ∙ body-triggered y h)

-- ---- the arms of an if
module _ (t x y : Exp) (h : AdmittedE (if_e t x y)) where
  pub arms-of-E : Fit (graph_e x) → Fit (graph_e y)
      → Arms (up_from (returned_name true) (width x)) (free_e x) (graph_e x) (up_from (returned_name false) (width x)) (free_e y) (graph_e y)
  arms-of-E p q =
      record {
        fit-a = p;
        fit-b = q;
        count-a = count-E x h.2 ∙ sym (length-up_from (returned_name true) (width x));
        count-b = count-E y h.3 ∙ sym (if-fits t x y h.0.0).1 ∙ sym (length-up_from (returned_name false) (width x));
        small-f = small-E x h.2;
        small-g = small-E y h.3;
        has-f = free-E x h.2;
        has-g = free-E y h.3;
        from-n = results-from-test true (width x);
        from-m = results-from-test false (width x);
      }

module _ (w : ℕ) (t : Exp) (x y : Body) (h : AdmittedB (if_b t x y)) (r : Returning w (if_b t x y)) where
  pub arms-of-B : Fit (graph_b w x) → Fit (graph_b w y)
      → Arms (arm_names true w x) (free_b x) (graph_b w x) (arm_names false w y) (free_b y) (graph_b w y)
  arms-of-B p q =
      let s = arms-returning w t x y h r in
      record {
        fit-a = p;
        fit-b = q;
        count-a = count-B w x h.2 s.0 ∙ sym (length-arm-names true w x);
        count-b = count-B w y h.3 s.1 ∙ sym (length-arm-names false w y);
        small-f = small-B x h.2;
        small-g = small-B y h.3;
        has-f = free-B w x h.2;
        has-g = free-B w y h.3;
        from-n = arm-from-test true w x;
        from-m = arm-from-test false w y;
      }

-- ---- fit
mutual
  unfolding output_count gate_outputs gate_inputs graph_e graph_b bound_e bound_b

  pub fit-E : (x : Exp) → AdmittedE x → Fit (graph_e x)
  fit-E (identifier a) h = omega arith
  fit-E (constant k a) h = (omega arith, refl)
  fit-E (pair x y) h = (fit-E x h.1, fit-E y h.2)
  fit-E (operator k x) h = (fit-E x h.2, count-E x h.2 ∙ operator-fits k x h.0.0)
  fit-E (let_e a b x y) h = (
    fit-E x h.2,
    fit-E y h.3,
    count-E x h.2 ∙ let-fits a b x y h.0.0 ∙ sym (length-up_from a b),
    different-up_from a b (omega (arith, h.1)),
    bound-used a b (free_e y) (graph_e y) h.1.1 h.0.1 (free-E y h.3),
  )
  fit-E (if_e t x y) h =
      let w : width x ≤ 16 = not-too-wide x h.2 in
      let f = if-fits t x y h.0.0 in
      fit-choice (graph_e t) (up_from (returned_name true) (width x)) (free_e x) (graph_e x) (up_from (returned_name false) (width x)) (free_e y)
      (graph_e y) (merge_row test_name returned_name (width x))
      (record {
        arms = arms-of-E t x y h (fit-E x h.2) (fit-E y h.3);
        fit-t = fit-E t h.1;
        fit-j = fit-merge test_name (width x) returned_name (omega arith) (omega arith) (omega arith);
        one-test = count-E t h.1 ∙ f.0;
        different-n = different-up_from (returned_name true) (width x) (omega arith);
        different-m = different-up_from (returned_name false) (width x) (omega arith);
        apart = λ k m. below-up_from 84 (width x) k (omega (arith, w, up_from-holds 51 (width x) k m));
        used-n = merge-has test_name returned_name true (width x);
        used-m = merge-has test_name returned_name false (width x);
        used-t = merge-control test_name returned_name (width x) (wide_enough x h.2);
      })
  fit-E (for_e a b x y) h =
      let f = for-fits a b x y h.0.0 in
      let o = loop-outputs a b x y h in
      let c : output_count (graph_b (returned y) y) ≡ suc (iterated_outputs y + returned_outputs (returned y) y) =
      count-B (returned y) y h.3 (loop-returning a b x y h)
      in (
        fit-E x h.2,
        fit-B (returned y) y h.3 (loop-returning a b x y h),
        count-E x h.2 ∙ f.0 ∙ sym (length-up_from a b),
        different-up_from a b (omega (arith, h.1)),
        bound-used a b (free_b y) (graph_b (returned y) y) h.1.1 h.0.1 (free-B (returned y) y h.3),
        omega (arith, c, o, length-up_from a b),
        body-names (returned y) a b y h.3 h.1.0 h.1.1 h.0.1,
        body-bare (returned y) y h.3 (iterates-some y (omega (arith, f, h.1))) (returns-some y f.2),
      )

  pub fit-B : (w : ℕ) (y : Body) → AdmittedB y → Returning w y → Fit (graph_b w y)
  fit-B w (ret x) h r = ((omega arith, refl), fit-E x h.1)
  fit-B w (iter x) h r = ((omega arith, refl), fit-E x h.1)
  fit-B w (let_b a b x y) h r = (
    fit-E x h.2,
    fit-B w y h.3 (let-returning w a b x y r),
    count-E x h.2 ∙ let-fits-B a b x y h.0.0 ∙ sym (length-up_from a b),
    different-up_from a b (omega (arith, h.1)),
    bound-used a b (free_b y) (graph_b w y) h.1.1 h.0.1 (free-B w y h.3),
  )
  fit-B w (if_b t x y) h r =
      let s = arms-returning w t x y h r in
      let nx : Narrow w x = narrow w x h.2 r.at_most in
      let ny : Narrow w y = narrow w y h.3 r.at_most in
      fit-choice (graph_e t) (arm_names true w x) (free_b x) (graph_b w x) (arm_names false w y) (free_b y) (graph_b w y) (joined w x y)
      (record {
        arms = arms-of-B w t x y h r (fit-B w x h.2 s.0) (fit-B w y h.3 s.1);
        fit-t = fit-E t h.1;
        fit-j = fit-joined w t x y h r.some-width r.at_most;
        one-test = count-E t h.1 ∙ (if-fits-B t x y h.0.0).0;
        different-n = arm-different true w x nx;
        different-m = arm-different false w y ny;
        apart = arms-apart w x y nx;
        used-n = use-first w t x y h nx;
        used-m = use-second w t x y h ny;
        used-t = joined-test w t x y h;
      })
