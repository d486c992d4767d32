-- A tray of sets on bytes is as many pushes of the abstract machine as sets went in, "also where the call then gives a refusal": by induction on the sets' number
-- from the single push (FollowPush). It answers no 31. Assumes the laws of `CallsAgree`.
use Prim.Native.Nat.{ℕ, zero, suc, ◌+◌, ◌≤◌, ◌<◌}
use Rattle.std.specs.Prelude.{◌≡◌, Bool, cond, eqb, length, drop, take as first_of}
use Rattle.std.proofs.Common.{sym, ◌∙◌, take-append-drop}
use Rattle.std.proofs.Math.Path.{ap, subst}
use Rattle.std.proofs.Math.Bool.{true, false}
use mathlib.Core.List.{List, [], ◌∷◌, ◌++◌, append-nil}
use native.Mathlib.Omega.{arith}
use Rattle.std.proofs.Math.Decide.{dec_lt}
use Rattle.std.proofs.Math.Seq.{take-length, drop-length}
use Rattle.value.specs.Operators.{pick}
use Rattle.network.specs.Net.{Links}
use Rattle.formula.specs.Tree.{Exp}
use Rattle.formula.specs.declared.Refusal.TheVariants.{Memory, Altered}
use Rattle.formula.specs.Refusals.{number_of}
use Rattle.graph.specs.Translation.{made_of}
use Rattle.machine_layout.specs.Layout.{size_of, need}
use Rattle.machine_calls.specs.Calls.{Outcome, outcome, answers, pushed}
use Rattle.machine_tray.specs.Tray.{set_bytes, pushed_in_turn, trayed, cut, went_in}
use Rattle.machine_tray.specs.TrayLaws.{trayed-refused, trayed-in-turn}
use Rattle.theory_verdicts.specs.Running.{after_steps, steps_from}
use Rattle.demand_view.specs.Stands.{Stands}
use Rattle.demand.specs.MemoryCalls.{accepted}
use Rattle.demand_begin.proofs.Lent.{stands-lent, stands-behind, short-refused}
use Rattle.demand.specs.Agree.{CallsAgree}
use Rattle.demand.proofs.Followed.{Follows, follows-none, follows_then}
use Rattle.demand.specs.Followed.{Unaltered}
use Rattle.demand.proofs.FollowPush.{push-follows}

module _ (x : Exp) (kinds : List ℕ) (capacity : ℕ) (low : 1 ≤ capacity) (high : capacity ≤ 16) (A : CallsAgree x kinds capacity) where
  -- ---- set by set, on a memory with nothing behind it
  push-whole : (b : List ℕ) (q : Links) → Stands (made_of x) kinds capacity b q → (set : List ℕ)
      → Follows x kinds capacity q (pushed b set).mem (cond (accepted (pushed b set).answer) (set ∷ []) []) [] × Unaltered (pushed b set).answer.refusal
  push-whole b q H set =
      let p = push-follows x kinds capacity low high A b q H (length b) set in
      rw (take-length b, drop-length b, append-nil (pushed b set).mem) at p

  -- The first d of the sets of k bytes went in, after c others.
  abbrev Turn-follows : ℕ → List ℕ → ℕ → Links → Outcome → Type 0
  Turn-follows k s c q o = (d : ℕ) × (o.answer.count ≡ c + d) × Follows x kinds capacity q o.mem (cut d k s) [] × Unaltered o.answer.refusal

  -- One set, whose push came out as o; a tells whether it was accepted.
  turn-onward : (n k : ℕ) (s : List ℕ) (c : ℕ) (q : Links) (o : Outcome) (a : Bool)
      → Follows x kinds capacity q o.mem (cond a (first_of k s ∷ []) []) [] × Unaltered o.answer.refusal
      → ((r : Links) → Stands (made_of x) kinds capacity o.mem r → Turn-follows k (drop k s) (suc c) r (pushed_in_turn n k o.mem (drop k s) (suc c)))
      → Turn-follows k s c q (pick a (pushed_in_turn n k o.mem (drop k s) (suc c)) (outcome (answers o.answer.refusal c) o.mem))
  unfolding cut
  turn-onward n k s c q o false p rest = (0, omega arith, p.0, p.1)
  turn-onward n k s c q o true p rest =
      let F = p.0 in
      let t = rest (after_steps x (steps_from x capacity F.calls q) q) F.stands in (
        suc t.0,
        omega (arith, t.1),
        follows_then x kinds capacity q o.mem (pushed_in_turn n k o.mem (drop k s) (suc c)).mem (first_of k s ∷ []) (cut t.0 k (drop k s)) [] [] F t.2,
        t.3,
      )

  turn-follows : (n k : ℕ) (b s : List ℕ) (c : ℕ) (q : Links) → Stands (made_of x) kinds capacity b q → Turn-follows k s c q (pushed_in_turn n k b s c)
  unfolding pushed_in_turn cut accepted
  turn-follows zero k b s c q H = (0, omega arith, follows-none x kinds capacity q b H, λ (e : 0 ≡ number_of Altered). absurd (omega arith))
  turn-follows (suc n) k b s c q H =
      let o = pushed b (first_of k s) in
      turn-onward n k s c q o (eqb o.answer.refusal 0) (push-whole b q H (first_of k s)) (turn-follows n k o.mem (drop k s) (suc c))

  -- ---- the call
  module _ (m : List ℕ) (q : Links) (H : Stands (made_of x) kinds capacity m q) (lent : ℕ) where
    abbrev lentPart : List ℕ
    lentPart = first_of lent m

    abbrev Tray-follows : List ℕ → Outcome → Type 0
    Tray-follows s o = Follows x kinds capacity q (o.mem ++ drop lent m) (cut o.answer.count (set_bytes lentPart) s) [] × Unaltered o.answer.refusal

    tray-refused : (s : List ℕ) (r : ℕ) → Unaltered r → Tray-follows s (outcome (answers r 0) lentPart)
    unfolding cut
    tray-refused s r u = rw (take-append-drop lent m) (follows-none x kinds capacity q m H, u)

    follows-behind : (b : List ℕ) (sets : List (List ℕ)) → Follows x kinds capacity q b sets [] → Follows x kinds capacity q (b ++ drop lent m) sets []
    follows-behind b sets F =
        record {
          calls = F.calls;
          stands = stands-behind (made_of x) A.sound kinds capacity b (after_steps x (steps_from x capacity F.calls q) q) F.stands (drop lent m);
          reads = F.reads;
          shows = F.shows;
        }

    tray-turned : (s : List ℕ) (o : Outcome) → Turn-follows (set_bytes lentPart) s 0 q o → Tray-follows s o
    tray-turned s o t =
        let d : o.answer.count ≡ t.0 = t.1 ∙ omega arith in
        (follows-behind o.mem (cut o.answer.count (set_bytes lentPart) s) (rw d t.2), t.3)

    pub tray-follows : (s : List ℕ) (number : ℕ)
        → Follows x kinds capacity q ((trayed lentPart s number).mem ++ drop lent m) (went_in lentPart s number) [] × Unaltered (trayed lentPart s number).answer.refusal
    unfolding went_in
    tray-follows s number = go (dec_lt lent (need (size_of capacity)))
      where
        go : Dec (lent < need (size_of capacity)) → Tray-follows s (trayed lentPart s number)
        go (yes h) =
            let st = short-refused (made_of x) kinds capacity m q low high H lent h in
            subst (Tray-follows s) (sym (trayed-refused lentPart s number (λ z. absurd (omega (arith, st, z))) ∙ ap (λ (r : ℕ). outcome (answers r 0) lentPart) st))
            (tray-refused s (number_of Memory) (omega arith))
        go (no h) =
            let L = stands-lent (made_of x) A.sound kinds capacity m q H lent (omega arith) in
            subst (Tray-follows s) (sym (trayed-in-turn lentPart s number (A.good lentPart q L)))
            (tray-turned s (pushed_in_turn number (set_bytes lentPart) lentPart s 0) (turn-follows number (set_bytes lentPart) lentPart s 0 q L))
