-- The laws of `CallsAgree`, each from where it is proved: fire and run from crate demand_view, push and take from crate demand_ends, good standing and the sound graph
-- from crate demand_begin. Assumes an admissible sheet and a capacity of 1 to 16.
use Rattle.std.specs.Prelude.{ℕ, ◌≤◌, ◌≡◌, true, List, ◌++◌, ltb, length, drop}
use Rattle.std.proofs.Common.{sym, ap, ◌∙◌}
use Rattle.network.specs.Net.{Links, Able}
use Rattle.formula.specs.Tree.{Exp, formula_of}
use Rattle.formula.specs.Acceptance.{Admissible}
use Rattle.graph.specs.Translation.{made_of}
use Rattle.machine_layout.specs.Layout.{size_of, results_of, untaken_of}
use Rattle.machine_valid.specs.Below.{all_below, and_left, and_right, and_both}
use Rattle.machine_calls.specs.Calls.{result_ready, written}
use Rattle.meaning.specs.Evaluate.{cells_of}
use Rattle.theory_verdicts.specs.Running.{places, take_of}
use Rattle.demand_view.specs.Sound.{Sound}
use Rattle.demand_view.specs.Stands.{Stands}
use Rattle.demand_view.proofs.Able.{able-on-links, able-on-bytes}
use Rattle.demand_view.proofs.Fired.{fired-stands}
use Rattle.demand_view.proofs.Run.{run-same}
use Rattle.demand_ends.specs.ResultBytes.{cell_bytes}
use Rattle.demand_ends.proofs.ResultBytes.{cells-result}
use Rattle.value_sets.proofs.Sets.{set_values_lem, values-set}
use Rattle.demand_ends.proofs.Push.{tests-push, stands-pushed}
use Rattle.demand_ends.proofs.Take.{result_in, tests-take, take-tests, stands-taken, take-writes}
use Rattle.demand_begin.proofs.MadeSound.{made-sound}
use Rattle.demand_begin.proofs.StandsValid.{stands-well}
use Rattle.demand.specs.Agree.{CallsAgree}

module _ (x : Exp) (S : Sound (made_of x)) (kinds : List ℕ) (capacity : ℕ) (low : 1 ≤ capacity) (high : capacity ≤ 16) (m : List ℕ) (q : Links) (H : Stands (made_of x) kinds capacity m q) where
  -- 35's two tests, with the width of the graph.
  take-can : ltb 0 (untaken_of m) ≡ true → all_below (length (made_of x).results) (result_ready m (size_of capacity)) ≡ true → Able (places capacity) (take_of x) q
  take-can a b =
      tests-take (made_of x) S kinds capacity low high m q H (and_both a (ap (λ (n : ℕ). all_below n (result_ready m (size_of capacity))) H.results-are ∙ b))

  take-ready : Able (places capacity) (take_of x) q → (ltb 0 (untaken_of m) ≡ true) × (all_below (length (made_of x).results) (result_ready m (size_of capacity)) ≡ true)
  take-ready a =
      let t = take-tests (made_of x) S kinds capacity low high m q H a in (
        and_left (ltb 0 (untaken_of m)) (all_below (results_of m) (result_ready m (size_of capacity))) t,
        ap (λ (n : ℕ). all_below n (result_ready m (size_of capacity))) (sym H.results-are)
            ∙ and_right (ltb 0 (untaken_of m)) (all_below (results_of m) (result_ready m (size_of capacity))) t,
      )

  take-hands : Able (places capacity) (take_of x) q → (out : List ℕ) → 80 ≤ length out
      → written 16 m (size_of capacity) (length (made_of x).results) out ≡ cell_bytes (cells_of (result_in (made_of x) q)) ++ drop 80 out
  take-hands a out h =
      ap (λ (n : ℕ). written 16 m (size_of capacity) n out) (sym H.results-are) ∙ take-writes (made_of x) S kinds capacity low high m q H a out h
      ∙ ap (λ (b : List ℕ). b ++ drop 80 out) (sym (cells-result (result_in (made_of x) q)))

pub calls-agree : (s : List ℕ) → Admissible s → (kinds : List ℕ) (capacity : ℕ) → 1 ≤ capacity → capacity ≤ 16 → CallsAgree (formula_of s) kinds capacity
calls-agree s ok kinds capacity low high =
    let x = formula_of s in
    let S = made-sound s ok in
    record {
      sound = S;
      good = stands-well (made_of x) S kinds capacity low high;
      able-links = λ m q H. able-on-links (made_of x) S kinds capacity m q H low;
      able-bytes = able-on-bytes (made_of x) S kinds capacity;
      fired = fired-stands (made_of x) S kinds capacity;
      ran = λ m q H firings. (run-same x S kinds capacity low firings m q H).0;
      set-read = λ set h. let r = set_values_lem kinds set h in (r.0, r.1.values);
      push-able = λ m q H set v r a b. tests-push (made_of x) S kinds capacity low high m q H set v (values-set kinds set v r) (and_both a b);
      pushed = λ m q H set v r a b.
          let I = values-set kinds set v r in
          stands-pushed (made_of x) S kinds capacity low high m q H set v I (tests-push (made_of x) S kinds capacity low high m q H set v I (and_both a b));
      take-able = take-can x S kinds capacity low high;
      take-ready = take-ready x S kinds capacity low high;
      taken = λ m q H a b. stands-taken (made_of x) S kinds capacity low high m q H (take-can x S kinds capacity low high m q H a b);
      handed = λ m q H a b. take-hands x S kinds capacity low high m q H (take-can x S kinds capacity low high m q H a b);
    }
