use Prim.Native.Nat.{ℕ, ◌≤◌, ◌<◌}
use native.Mathlib.Omega.{arith}
use native.Mathlib.Decide.{dec_lt}
use Rattle.machine_marks.specs.Held.{held}
use Rattle.machine_tag_marks.specs.FirstMarks.{first_found, first-none}
use Rattle.machine_tag_marks.proofs.settle.Goals as goal

-- a number that is not past all is an operator's

an-operator : (r : ℕ) → (1024 ≤ r → ⊥) → r < 1024
an-operator r past = go (dec_lt r 1024)
  where
    go : Dec (r < 1024) → r < 1024
    go (yes h) = h
    go (no h) = absurd (past (omega arith))

pub returns-then-a-eq0 : goal.returns-then-a-eq0
returns-then-a-eq0 c = (c.forward-a.ensures.0.same, rw c.forward-a.ensures.0.same (first-none (held c.args.awake.now c.args.m) (c.forward-a.ensures.2 c.if-a-eq0.true)))

pub returns : goal.returns
returns c =
    let few = an-operator c.first_of.result (λ h. c.if-a-eq0.false (c.first_of.ensures.1 h)) in
    (c.forward-a.ensures.0.same, first_found c.forward-a.new.awake c.forward-a.result c.forward-a.ensures.0.stands c.forward-a.ensures.0.level c.first_of.result few (c.first_of.ensures.0 few))
