-- Laws of specs/Idle.antt, and what only they need.
use Prim.Native.Nat.{ℕ, ◌≤◌, ◌<◌}
use Rattle.std.specs.Prelude.{◌≡◌, false, length, drop, take as first_of}
use Rattle.std.proofs.Math.Path.{sym}
use Rattle.std.proofs.Common.{ap, ◌∙◌, arith, length-take}
use mathlib.Core.List.{List, ◌++◌}
use Rattle.std.proofs.Math.Decide.{dec_lt}
use Rattle.formula.specs.declared.Refusal.TheVariants.{NotAble}
use Rattle.formula.specs.Refusals.{number_of}
use Rattle.formula.specs.Acceptance.{Admissible}
use Rattle.machine_layout.specs.Layout.{operators_of}
use Rattle.machine_calls.specs.Calls.{Outcome}
use Rattle.machine_planes.specs.Planes.{most_tags, tagged_need}
use Rattle.machine_tags.specs.TagRun.{able_under}
use Rattle.machine_tags.specs.TagCalls.{tag_standing, tag_ran}
use Rattle.machine_tags.proofs.RunSteps.{tag-still-says}
use Rattle.refusals.proofs.TagRunCount.{tag-run-counts}
use Rattle.demand_tags.specs.TagLists.{fire, run, answer_of, memory_after}
use Rattle.demand_tags.proofs.LentPlanes.{plane-lent, plane-behind, able-same}
use Rattle.demand_tags.specs.Benched.{Benched}
use Rattle.demand_tags.proofs.Benched.{bench-operators, few-operators, bench-stands, bench-lent}
use Rattle.demand_tags.proofs.Tested.{run_short, fire-idle, run-made}
use Rattle.demand_tags.proofs.Firings.{run-fires}
use Rattle.demand_tags.proofs.CallSteps.{bench-call}
use Rattle.demand_tags.specs.Idle.{Idle}

module _ (sheet line : List ℕ) (ok : Admissible sheet) (m : List ℕ) (B : Benched sheet line m) (lent : ℕ) where
  abbrev lentPart : List ℕ
  lentPart = first_of lent m

  L : tagged_need ≤ lent → Benched sheet line lentPart
  L l = bench-lent sheet line ok m B lent l

  good : (l : tagged_need ≤ lent) → tag_standing lentPart ≡ 0
  good l = bench-stands sheet line ok lentPart (L l)

  pub refused-idle : tagged_need ≤ lent → (i t : ℕ) → i < operators_of m → t < most_tags → (answer_of (fire lent i t) m).refusal ≡ number_of NotAble → able_under m i t ≡ false
  unfolding answer_of
  refused-idle l i t few tag z =
      let n : operators_of lentPart ≡ operators_of m = bench-operators sheet line ok lentPart (L l) ∙ sym (bench-operators sheet line ok m B) in
      let most = few-operators sheet line ok m B in
      sym (able-same m lentPart B.long (L l).long t tag (plane-lent m B.long lent l t tag) i (omega arith)) ∙ fire-idle lentPart (good l) i t (omega arith) tag z

  pub run-idle : (firings : ℕ) → (answer_of (run lent firings) m).refusal ≡ 0 → Idle (memory_after (run lent firings) m)
  unfolding answer_of memory_after
  run-idle firings z = go (dec_lt lent tagged_need)
    where
      left : List ℕ
      left = (tag_ran lentPart firings).mem

      rested : tagged_need ≤ lent → Idle ((tag_ran lentPart firings).mem ++ drop lent m)
      rested l i t few tag =
          let B' = bench-call sheet line ok m B (run lent firings) in
          let n : operators_of (left ++ drop lent m) ≡ operators_of lentPart = bench-operators sheet line ok (left ++ drop lent m) B' ∙ sym (bench-operators sheet line ok lentPart (L l)) in
          let most = few-operators sheet line ok lentPart (L l) in
          let long : tagged_need ≤ length left
          = omega (arith, ap length (run-made lentPart (good l) firings).0, (run-fires sheet line ok (drop lent m) firings lentPart (L l)).1.as_long, (L l).long) in
          able-same left (left ++ drop lent m) long B'.long t tag (plane-behind left (drop lent m) long t tag) i (omega arith)
          ∙ tag-still-says left (operators_of lentPart) ((tag-run-counts lentPart firings (good l)).accepted z) i t (omega arith) tag

      go : Dec (lent < tagged_need) → Idle ((tag_ran lentPart firings).mem ++ drop lent m)
      go (yes l) = absurd (omega (arith, ap (λ (o : Outcome). o.answer.refusal) (run_short lentPart (omega (arith, length-take lent m)) firings), z))
      go (no l) = rested (omega arith)
