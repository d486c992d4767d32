-- Each accepted fire of a benched memory is a firing by Brock's rule on the tokens of its tag, and each run is as many as it counts, refused ones included: OutOfOrder's `fires-by-rule` and
-- `runs-by-rule`. Where a fire is refused though its output links have a free place, the rule gives nothing: `silent-by-rule`. Assumes an accepted sheet.
use Rattle.std.specs.Prelude.{ℕ, ◌≤◌, ◌<◌, ◌≡◌, true, drop, take as first_of}
use Rattle.std.proofs.Common.{sym, ◌∙◌, arith, take-append-drop}
use Rattle.std.proofs.Math.Path.{ap, subst}
use mathlib.Core.List.{List, ◌++◌}
use Rattle.std.proofs.Math.Decide.{dec_lt}
use Rattle.std.proofs.Math.ListN.{length-take}
use Rattle.formula.specs.declared.Refusal.TheVariants.{NotAble}
use Rattle.formula.specs.Refusals.{number_of}
use Rattle.formula.specs.Tree.{formula_of}
use Rattle.formula.specs.Faults.{letters_of}
use Rattle.formula.specs.Acceptance.{Admissible}
use Rattle.graph.specs.Translation.{made_of}
use Rattle.machine_layout.specs.Layout.{operators_of, port_of, least_size}
use Rattle.machine_firing.specs.Links.{room_at}
use Rattle.machine_calls.specs.Calls.{Outcome}
use Rattle.machine_planes.specs.Planes.{most_tags, tagged_need, plane_of}
use Rattle.machine_planes.proofs.PlaneBytes.{plane-port}
use Rattle.machine_planes.proofs.PlaneFirings.{plane-room, plane-able}
use Rattle.machine_tags.specs.TagRun.{fired_under, tag_runs}
use Rattle.machine_tags.specs.TagCalls.{tag_standing, tag_fired, tag_ran}
use Rattle.demand_view.proofs.Operators.{ith-there}
use Rattle.demand_view.proofs.FiredHistory.{silent-by-history}
use Rattle.demand_begin.proofs.MadeSound.{made-sound}
use Rattle.demand_tags.specs.TagLists.{fire, run, answer_of, memory_after}
use Rattle.demand_tags.specs.OutOfOrder.{FiresUnder, FiringsUnder, RoomUnder, SilentUnder}
use Rattle.demand_tags.specs.Benched.{Benched}
use Rattle.demand_tags.proofs.Benched.{bench-operators, few-operators, bench-stands, bench-lent}
use Rattle.demand_tags.proofs.Stepped.{bench-stepped}
use Rattle.demand_tags.specs.Stepped.{no-sets, no-results}
use Rattle.demand_tags.proofs.Tested.{fire-short, run_short, fire-case, run-made}
use Rattle.demand_tags.specs.Tested.{FireCase, not-able, able}
use Rattle.demand_tags.proofs.Firings.{fired-step, fired-by-rule, fires-behind, run-fires}
use Rattle.demand_tags.proofs.Idle.{refused-idle}

module _ (sheet line : List ℕ) (ok : Admissible sheet) (m : List ℕ) (B : Benched sheet line m) (lent : ℕ) where
  abbrev lentPart : List ℕ
  lentPart = first_of lent m

  abbrev behind : List ℕ
  behind = drop lent m

  L : tagged_need ≤ lent → Benched sheet line lentPart
  L l = bench-lent sheet line ok m B lent l

  good : (l : tagged_need ≤ lent) → tag_standing lentPart ≡ 0
  good l = bench-stands sheet line ok lentPart (L l)

  pub fires-by-rule : (i t : ℕ) → (answer_of (fire lent i t) m).refusal ≡ 0 → FiresUnder sheet line m i t (memory_after (fire lent i t) m)
  unfolding answer_of memory_after
  fires-by-rule i t z = go (dec_lt lent tagged_need)
    where
      answered : (o : Outcome) → tag_fired lentPart i t ≡ o → o.answer.refusal ≡ 0
      answered o e = ap (λ (x : Outcome). x.answer.refusal) (sym e) ∙ z

      tested : tagged_need ≤ lent → FireCase lentPart i t → FiresUnder sheet line m i t ((tag_fired lentPart i t).mem ++ behind)
      tested l (not-able e) = absurd (omega (arith, answered _ e))
      tested l (able p q r e) =
          let S = fired-step sheet line ok lentPart (L l) i p t q r in
          let long = (bench-stepped sheet line ok lentPart (fired_under lentPart i t) no-sets no-results (L l) S).long in
          subst (λ (o : Outcome). FiresUnder sheet line m i t (o.mem ++ behind)) (sym e)
          (subst (λ (x : List ℕ). FiresUnder sheet line x i t (fired_under lentPart i t ++ behind)) (take-append-drop lent m)
          (fires-behind sheet line ok lentPart (fired_under lentPart i t) behind i t q (L l).long long (fired-by-rule sheet line ok lentPart (L l) i p t q r)))

      go : Dec (lent < tagged_need) → FiresUnder sheet line m i t ((tag_fired lentPart i t).mem ++ behind)
      go (yes l) = absurd (omega (arith, answered _ (fire-short lentPart (omega (arith, length-take lent m)) i t)))
      go (no l) = tested (omega arith) (fire-case lentPart (good (omega arith)) i t)

  pub runs-by-rule : (firings : ℕ) → FiringsUnder sheet line (answer_of (run lent firings) m).count m (memory_after (run lent firings) m)
  unfolding answer_of memory_after
  runs-by-rule firings = go (dec_lt lent tagged_need)
    where
      go : Dec (lent < tagged_need) → FiringsUnder sheet line (tag_ran lentPart firings).answer.count m ((tag_ran lentPart firings).mem ++ behind)
      go (yes l) = rw (run_short lentPart (omega (arith, length-take lent m)) firings) (take-append-drop lent m)
      go (no l) =
          let w = run-made lentPart (good (omega arith)) firings in
          let made : FiringsUnder sheet line (tag_runs (operators_of lentPart) firings lentPart 0).count m ((tag_runs (operators_of lentPart) firings lentPart 0).mem ++ behind)
          = subst (λ (x : List ℕ). FiringsUnder sheet line (tag_runs (operators_of lentPart) firings lentPart 0).count x ((tag_runs (operators_of lentPart) firings lentPart 0).mem ++ behind))
          (take-append-drop lent m) (run-fires sheet line ok behind firings lentPart (L (omega arith))).0 in
          rw (w.0, w.1) made

  -- The operator's ports on the tag's machine are its ports in the memory, and name the graph's links.
  pub silent-by-rule : (i t : ℕ) → tagged_need ≤ lent → i < operators_of m → t < most_tags → (answer_of (fire lent i t) m).refusal ≡ number_of NotAble
      → RoomUnder m i t → SilentUnder sheet line m i t
  silent-by-rule i t l few tag z room =
      let g = made_of (formula_of sheet) in
      let s = B.planes t tag in
      let there = few-operators sheet line ok m B in
      let w = ith-there g.operators i (omega (arith, bench-operators sheet line ok m B)) in
      let R = s.1.recorded i w.0 w.1 in
      let free : (p : ℕ) → 3 ≤ p → p < 6 → (x : ℕ) → port_of (plane_of m t) i p ≡ x → room_at (plane_of m t) least_size x ≡ true
      = λ p from to x e.
      ap (room_at (plane_of m t) least_size) (sym e ∙ plane-port m t B.long tag i (omega arith) p to) ∙ sym (plane-room m t B.long tag (port_of m i p)) ∙ room p from to in
      let idle = sym (plane-able m t B.long tag i (omega arith)) ∙ refused-idle sheet line ok m B lent l i t few tag z in (
        s.0,
        s.1,
        w.0,
        w.1,
        silent-by-history g (made-sound sheet ok) (letters_of (formula_of sheet) line) 1 (plane_of m t) s.0 s.1 i w.0 w.1 idle
            (free 3 (omega arith) (omega arith) _ R.out1) (free 4 (omega arith) (omega arith) _ R.out2) (free 5 (omega arith) (omega arith) _ R.out3),
      )
