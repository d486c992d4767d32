-- The IC gate's cases on any memory (machine_gates' specs/LoopJoin): the tokens are those that wait first on the operator's three inputs, and a
-- case that holds also wants a free place on each link that it emits on. Exactly one does where the operator is able, none where it is not.
-- Altered memory included. Assumes nothing.
use Rattle.std.specs.Prelude.{ℕ, ◌+◌, ◌≤◌, ◌≡◌, Bool, true, false, cond, ◌&&◌, List, [], ◌∷◌, Option}
use Rattle.std.proofs.Math.Path.{refl}
use Rattle.std.proofs.Common.{sym, ap, ◌∙◌, arith}
use Rattle.value.specs.declared.Value.{Value}
use Rattle.machine_layout.specs.Layout.{operator_at, kind_byte, port_of}
use Rattle.machine_gates.specs.Decide.{Decided, idle, decide_at}
use Rattle.machine_gates.specs.Rows.{Row, table, holding, first_row}
use Rattle.machine_gates.specs.LoopJoin.{Among}
use Rattle.machine_gates.proofs.LoopJoin.{decided-by-row, decided-by-that-row, at_most_one}
use Rattle.machine_firing.specs.Links.{token_from}
use Rattle.machine_firing.specs.Fire.{planned, register_of, decision_from, plan_from, ready_from, performed_from, able_from, fired_from}

-- whether every token that a decision takes waits and each link it emits on has a free place
abbrev pub ready : List ℕ → ℕ → ℕ → ℕ → Decided → Bool
ready m base size i d = ready_from m base size (planned m (operator_at i + 2) d)

-- how many rows hold with room for what they give
abbrev pub holding_in : List ℕ → ℕ → ℕ → ℕ → List Row → Option Value → Option Value → Option Value → Option Value → ℕ
holding_in m base size i [] a b c g = 0
holding_in m base size i (r ∷ rs) a b c g = cond (r.holds a b c && ready m base size i (r.acts g)) 1 0 + holding_in m base size i rs a b c g

module _ (m : List ℕ) (base size i : ℕ) (a b c g : Option Value) where
  idle-never : ready m base size i idle ≡ false
  unfolding ready_from planned
  idle-never = refl

  none-holds : (rs : List Row) → holding rs a b c ≡ 0 → holding_in m base size i rs a b c g ≡ 0
  none-holds [] e = refl
  none-holds (r ∷ rs) e = go (r.holds a b c) refl (λ h. none-holds rs h)
    where
      go : (t : Bool) → r.holds a b c ≡ t → (holding rs a b c ≡ 0 → holding_in m base size i rs a b c g ≡ 0) → holding_in m base size i (r ∷ rs) a b c g ≡ 0
      go true q ih = absurd (let o : ◌≡◌ {A = ℕ} (cond (r.holds a b c) 1 0) 1 = (rw q refl) in omega (arith, e))
      go false q ih = let o : ◌≡◌ {A = ℕ} (cond (r.holds a b c) 1 0) 0 = (rw q refl) in rw q (omega (arith, ih (omega (arith, e))))

  -- where at most one row holds, the first one decides
  first-decides : (rs : List Row) → holding rs a b c ≤ 1 → holding_in m base size i rs a b c g ≡ cond (ready m base size i (first_row rs a b c g)) 1 0
  first-decides [] h = ap (λ (t : Bool). cond t 1 0) (sym idle-never)
  first-decides (r ∷ rs) h = go (r.holds a b c) refl (λ k. first-decides rs k)
    where
      go : (t : Bool) → r.holds a b c ≡ t → (holding rs a b c ≤ 1 → holding_in m base size i rs a b c g ≡ cond (ready m base size i (first_row rs a b c g)) 1 0) →
          holding_in m base size i (r ∷ rs) a b c g ≡ cond (ready m base size i (first_row (r ∷ rs) a b c g)) 1 0
      go true q ih =
          let o : ◌≡◌ {A = ℕ} (cond (r.holds a b c) 1 0) 1 = (rw q refl) in
          let n = none-holds rs (omega (arith, h)) in
          rw (q, n) (omega arith)
      go false q ih =
          let o : ◌≡◌ {A = ℕ} (cond (r.holds a b c) 1 0) 0 = (rw q refl) in
          rw q (omega (arith, ih (omega (arith, h))))

-- "each able firing falls under exactly one": of an IC gate in any memory one row holds with room where it is able, else none.
pub one-row : (m : List ℕ) (base size i : ℕ) → kind_byte m i ≡ 18 →
    holding_in m base size i table (token_from m base size (port_of m i 0)) (token_from m base size (port_of m i 1)) (token_from m base size (port_of m i 2)) (register_of m i)
    ≡ cond (able_from m base size i) 1 0
unfolding decision_from plan_from able_from
one-row m base size i k =
    let a = token_from m base size (port_of m i 0) in
    let b = token_from m base size (port_of m i 1) in
    let c = token_from m base size (port_of m i 2) in
    let g = register_of m i in
    first-decides m base size i a b c g table (at_most_one a b c g)
    ∙ ap (λ (d : Decided). cond (ready m base size i d) 1 0) (sym (decided-by-row a b c g) ∙ ap (λ (n : ℕ). decide_at n a b c g) (sym k))

-- Whichever row holds with room, its firing is what is done to the memory.
pub fired-by-that-row : (m : List ℕ) (base size i : ℕ) → kind_byte m i ≡ 18 → (r : Row) → Among r table →
    r.holds (token_from m base size (port_of m i 0)) (token_from m base size (port_of m i 1)) (token_from m base size (port_of m i 2)) ≡ true →
    ready m base size i (r.acts (register_of m i)) ≡ true → fired_from m base size i ≡ performed_from m base size i (planned m (operator_at i + 2) (r.acts (register_of m i)))
unfolding decision_from plan_from able_from fired_from
fired-by-that-row m base size i k r n e room =
    let a = token_from m base size (port_of m i 0) in
    let b = token_from m base size (port_of m i 1) in
    let c = token_from m base size (port_of m i 2) in
    let g = register_of m i in
    let d : decide_at (kind_byte m i) a b c g ≡ r.acts g = ap (λ (x : ℕ). decide_at x a b c g) k ∙ decided-by-that-row a b c g r n e in
    rw (d, room) refl
