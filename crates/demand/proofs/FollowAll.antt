-- Every call on bytes is followed by calls of the abstract machine (Followed), and so is a list of calls; 31 is answered nowhere in the list. Assumes the laws
-- of `CallsAgree`.
use Prim.Native.Nat.{ℕ, zero, suc, ◌≤◌, ◌<◌}
use Rattle.std.specs.Prelude.{◌≢◌, length, get_or}
use mathlib.Core.List.{List, [], ◌∷◌}
use Rattle.std.proofs.Common.{arith}
use Rattle.network.specs.Net.{Links}
use Rattle.formula.specs.Tree.{Exp}
use Rattle.formula.specs.declared.Refusal.TheVariants.{Altered}
use Rattle.formula.specs.Refusals.{number_of}
use Rattle.graph.specs.Translation.{made_of}
use Rattle.machine_calls.specs.Calls.{answers}
use Rattle.theory_verdicts.specs.Running.{after_steps, steps_from}
use Rattle.demand_view.specs.Stands.{Stands}
use Rattle.demand.specs.MemoryCalls.{Call, push, tray, fire, run, by_rounds, take, answer_of, memory_after, set_of, result_of, memory_after_all, answers_of, sets_pushed, results_taken}
use Rattle.demand.specs.Agree.{CallsAgree}
use Rattle.demand.proofs.Followed.{Follows, follows-none, follows_then}
use Rattle.demand.specs.Followed.{Unaltered}
use Rattle.demand.proofs.FollowPush.{push-follows}
use Rattle.demand.proofs.FollowTray.{tray-follows}
use Rattle.demand.proofs.FollowFire.{fire-follows}
use Rattle.demand.proofs.FollowRun.{run-follows}
use Rattle.demand.proofs.FollowRounds.{rounds-follow}
use Rattle.demand.proofs.FollowTake.{take-follows}

module _ (x : Exp) (kinds : List ℕ) (capacity : ℕ) (low : 1 ≤ capacity) (high : capacity ≤ 16) (A : CallsAgree x kinds capacity) where
  -- Every call is followed, and none answers 31.
  pub call-follows : (m : List ℕ) (q : Links) → Stands (made_of x) kinds capacity m q → (c : Call)
      → Follows x kinds capacity q (memory_after c m) (set_of c m) (result_of c m) × Unaltered (answer_of c m).refusal
  unfolding memory_after set_of result_of answer_of
  call-follows m q H (push lent set) = push-follows x kinds capacity low high A m q H lent set
  call-follows m q H (tray lent sets number) = tray-follows x kinds capacity low high A m q H lent sets number
  call-follows m q H (fire lent operator) = fire-follows x kinds capacity low high A m q H lent operator
  call-follows m q H (run lent firings) = run-follows x kinds capacity low high A m q H lent firings
  call-follows m q H (by_rounds lent rounds) = rounds-follow x kinds capacity low high A m q H lent rounds
  call-follows m q H (take lent out) = take-follows x kinds capacity low high A m q H lent out

  -- ---- a list of calls
  -- The calls of the abstract machine that do what the calls on bytes do.
  pub calls-follow : (calls : List Call) (m : List ℕ) (q : Links) → Stands (made_of x) kinds capacity m q
      → Follows x kinds capacity q (memory_after_all calls m) (sets_pushed calls m) (results_taken calls m)
  unfolding memory_after_all sets_pushed results_taken
  calls-follow [] m q H = follows-none x kinds capacity q m H
  calls-follow (c ∷ calls) m q H =
      let F = (call-follows m q H c).0 in
      follows_then x kinds capacity q (memory_after c m) (memory_after_all calls (memory_after c m)) (set_of c m) (sets_pushed calls (memory_after c m)) (result_of c m)
      (results_taken calls (memory_after c m)) F (calls-follow calls (memory_after c m) (after_steps x (steps_from x capacity F.calls q) q) F.stands)

  -- 31 "never given for a machine that start made and nothing but its calls has touched since"
  pub calls-unaltered : (calls : List Call) (m : List ℕ) (q : Links) → Stands (made_of x) kinds capacity m q
      → (k : ℕ) → k < length (answers_of calls m) → (get_or (answers_of calls m) k (answers 0 0)).refusal ≢ number_of Altered
  unfolding answers_of
  calls-unaltered [] m q H k l = absurd (omega arith)
  calls-unaltered (c ∷ calls) m q H zero l = (call-follows m q H c).1
  calls-unaltered (c ∷ calls) m q H (suc k) l =
      let F = (call-follows m q H c).0 in
      calls-unaltered calls (memory_after c m) (after_steps x (steps_from x capacity F.calls q) q) F.stands k (omega arith)
