-- Laws of specs/Begins.antt, and what only they need.
use Rattle.std.specs.Prelude.{ℕ, ◌+◌, ◌<◌, ◌≡◌, true, List, length, get_or}
use Rattle.std.proofs.Common.{sym, ap, ◌∙◌, subst, arith}
use borrow.Author.Tests.{le-leb}
use Rattle.network.specs.Rules.{M-gate}
use Rattle.formula.specs.Tree.{formula_of}
use Rattle.graph.specs.Translation.{made_of}
use Rattle.theory_verdicts.specs.Running.{start_of}
use Rattle.theory_verdicts.proofs.Admitting.{accepted-admitted}
use Rattle.theory_tags.specs.PlainGraphs.{Plain}
use Rattle.theory_tags.proofs.PlainGraphs.{plain-graph}
use Rattle.machine_layout.specs.Layout.{operators_of, kind_byte, register_at}
use Rattle.machine_layout.specs.Kinds.{byte_of}
use Rattle.machine_planes.specs.Planes.{most_tags, plane_of}
use Rattle.machine_planes.proofs.PlaneBytes.{plane-byte, plane-operators, plane-kind}
use Rattle.machine_tags.specs.TagValid.{plain_kind}
use Rattle.machine_start.specs.Start.{started}
use Rattle.demand_view.proofs.Operators.{ith-there}
use Rattle.demand_begin.proofs.Positions.{each-ith}
use Rattle.demand_begin.proofs.MadeSound.{made-sound}
use Rattle.demand_begin.proofs.StartedStands.{accepted-stands}
use Rattle.demand_tags.specs.Benched.{StandsOne, Benched}
use Rattle.demand_tags.specs.StartedBytes.{SmallRegister}
use Rattle.demand_tags.proofs.StartedBytes.{started-small}
use Rattle.demand_tags.specs.Begins.{Begins}

module _ (sheet line start : List ℕ) (b : Begins sheet line start) where
  -- The machine of a tag stands as started.
  pub plane-begins : (t : ℕ) → t < most_tags → StandsOne sheet line (plane_of start t) (start_of (formula_of sheet))
  plane-begins t h = let p = b.planes t h in rw p.2 (accepted-stands sheet line 1 p.0 p.1)

  registers-begin : (i : ℕ) → i < operators_of start → SmallRegister start i
  registers-begin i l j k =
      let p = b.planes 0 (omega arith) in
      let H = plane-begins 0 (omega arith) in
      let n : operators_of (plane_of start 0) ≡ operators_of start = plane-operators start 0 b.long (omega arith) in
      let few : i < length (made_of (formula_of sheet)).operators = omega (arith, H.operators-are) in
      let e : get_or (started sheet line 1 p.0).mem (register_at i + j) 0 ≡ get_or start (register_at i + j) 0
      = ap (λ (x : List ℕ). get_or x (register_at i + j) 0) (sym p.2)
      ∙ plane-byte start 0 b.long (omega arith) (register_at i + j) (omega (arith, (made-sound sheet b.admissible).few-operators)) (omega arith) (omega arith) in
      subst (λ (x : ℕ). x < 256) e (started-small sheet line p.0 p.1 i few j k)

  -- Without for there is no kind behind M.
  plain-begins : (i : ℕ) → i < operators_of start → plain_kind start i ≡ true
  unfolding plain_kind
  plain-begins i l =
      let g = made_of (formula_of sheet) in
      let S = made-sound sheet b.admissible in
      let H = plane-begins 0 (omega arith) in
      let n : operators_of (plane_of start 0) ≡ operators_of start = plane-operators start 0 b.long (omega arith) in
      let w = ith-there g.operators i (omega (arith, H.operators-are)) in
      let k : kind_byte (plane_of start 0) i ≡ kind_byte start i = plane-kind start 0 b.long (omega arith) i (omega (arith, H.operators-are, S.few-operators)) in
      let few = each-ith Plain g.operators (plain-graph (formula_of sheet) (accepted-admitted sheet b.admissible) b.loopless) i w.0 w.1 in
      le-leb (kind_byte start i) (byte_of M-gate) (omega (arith, k, (H.recorded i w.0 w.1).kind, few))

  pub bench-begins : Benched sheet line start
  bench-begins =
      record {
        long = b.long;
        mark = b.mark;
        none-untaken = b.none-untaken;
        plain = plain-begins;
        registers = registers-begin;
        bytes = λ t h. omega (arith, b.tags t h);
        planes = λ t h. (start_of (formula_of sheet), plane-begins t h);
      }
