-- What the calls' bytes have to do with the network's links, call by call: the laws under which demand 3 of the network (theory_verdicts/specs/Verdicts) is
-- demand 3 of the memory. Each field is one law over every memory in which the machine of the formula x stands. Definitions only; assumes nothing.
use Rattle.std.specs.Prelude.{ℕ, ◌≤◌, ◌<◌, ◌≡◌, true, List, ◌++◌, ltb, length, drop}
use Rattle.std.proofs.Math.Option.{some}
use Rattle.value.specs.declared.Value.{Value}
use Rattle.network.specs.Net.{Links, Able, act, label}
use Rattle.formula.specs.Tree.{Exp}
use Rattle.graph.specs.Translation.{made_of}
use Rattle.meaning.specs.Evaluate.{cells_of}
use Rattle.value_sets.specs.Sets.{set_values, set_ok}
use Rattle.machine_layout.specs.Layout.{size_of, untaken_of}
use Rattle.machine_firing.specs.Fire.{able_at, fired_at}
use Rattle.machine_valid.specs.Below.{all_below}
use Rattle.machine_runs.specs.Run.{runs}
use Rattle.machine_calls.specs.Calls.{standing, rooms_ok, pushed_memory, result_ready, written, taken_memory}
use Rattle.theory_verdicts.specs.ResultSets.{values_in}
use Rattle.theory_verdicts.specs.Running.{places, operator_at, push_of, take_of, after_steps, run_steps}
use Rattle.demand_view.specs.Sound.{Sound}
use Rattle.demand_view.specs.Stands.{Stands}
use Rattle.demand_ends.specs.ResultBytes.{cell_bytes}

pub record CallsAgree (x : Exp) (kinds : List ℕ) (capacity : ℕ) : Type 0 where
  pub sound : Sound (made_of x)
  -- 31 is not given.
  pub good : (m : List ℕ) (q : Links) → Stands (made_of x) kinds capacity m q → standing m ≡ 0
  -- fire
  pub able-links : (m : List ℕ) (q : Links) → Stands (made_of x) kinds capacity m q → (i : ℕ) → i < length (made_of x).operators
      → able_at m (size_of capacity) i ≡ true → Able (places capacity) (operator_at x i) q
  pub able-bytes : (m : List ℕ) (q : Links) → Stands (made_of x) kinds capacity m q → (i : ℕ) → i < length (made_of x).operators
      → Able (places capacity) (operator_at x i) q → able_at m (size_of capacity) i ≡ true
  pub fired : (m : List ℕ) (q : Links) → Stands (made_of x) kinds capacity m q → (i : ℕ) → i < length (made_of x).operators
      → able_at m (size_of capacity) i ≡ true → Stands (made_of x) kinds capacity (fired_at m (size_of capacity) i) (act (operator_at x i) q)
  -- run
  pub ran : (m : List ℕ) (q : Links) → Stands (made_of x) kinds capacity m q → (firings : ℕ)
      → Stands (made_of x) kinds capacity (runs (size_of capacity) (length (made_of x).operators) firings m 0).mem (after_steps x (run_steps x capacity firings q) q)
  -- push
  pub set-read : (set : List ℕ) → set_ok kinds set ≡ true → (v : List Value) × (set_values kinds set ≡ some v)
  pub push-able : (m : List ℕ) (q : Links) → Stands (made_of x) kinds capacity m q → (set : List ℕ) (v : List Value) → set_values kinds set ≡ some v
      → ltb (untaken_of m) 16 ≡ true → rooms_ok m (size_of capacity) (made_of x).inputs ≡ true → Able (places capacity) (push_of x v) q
  pub pushed : (m : List ℕ) (q : Links) → Stands (made_of x) kinds capacity m q → (set : List ℕ) (v : List Value) → set_values kinds set ≡ some v
      → ltb (untaken_of m) 16 ≡ true → rooms_ok m (size_of capacity) (made_of x).inputs ≡ true → Stands (made_of x) kinds capacity (pushed_memory m set) (act (push_of x v) q)
  -- take
  pub take-able : (m : List ℕ) (q : Links) → Stands (made_of x) kinds capacity m q
      → ltb 0 (untaken_of m) ≡ true → all_below (length (made_of x).results) (result_ready m (size_of capacity)) ≡ true → Able (places capacity) (take_of x) q
  pub take-ready : (m : List ℕ) (q : Links) → Stands (made_of x) kinds capacity m q → Able (places capacity) (take_of x) q
      → (ltb 0 (untaken_of m) ≡ true) × (all_below (length (made_of x).results) (result_ready m (size_of capacity)) ≡ true)
  pub taken : (m : List ℕ) (q : Links) → Stands (made_of x) kinds capacity m q
      → ltb 0 (untaken_of m) ≡ true → all_below (length (made_of x).results) (result_ready m (size_of capacity)) ≡ true
      → Stands (made_of x) kinds capacity (taken_memory m) (act (take_of x) q)
  pub handed : (m : List ℕ) (q : Links) → Stands (made_of x) kinds capacity m q
      → ltb 0 (untaken_of m) ≡ true → all_below (length (made_of x).results) (result_ready m (size_of capacity)) ≡ true
      → (out : List ℕ) → 80 ≤ length out
      → written 16 m (size_of capacity) (length (made_of x).results) out ≡ cell_bytes (cells_of (values_in (label (take_of x) q))) ++ drop 80 out
