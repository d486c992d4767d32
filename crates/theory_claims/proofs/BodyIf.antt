-- Claims for the if of a body, from those that the kinds of its arms give. Assumes that arms agree in the kinds that both have.
use Rattle.std.specs.Prelude.{ℕ, ◌+◌, ◌≤◌, ◌<◌, ◌≡◌, Bool, ◌&&◌, List, [], ◌∷◌, length, eqb}
use Rattle.std.proofs.Math.Path.{refl}
use Rattle.std.proofs.Common.{◌∙◌, eq-eqb}
use Rattle.std.proofs.Math.Bool.{true, false, cond}
use native.Mathlib.Omega.{arith}
use Rattle.value.specs.declared.ValueKind.{ValueKind}
use Rattle.formula.specs.Tree.{Exp, Body, if_b}
use Rattle.formula.specs.Widths.{returned, iterated}
use Rattle.formula.specs.Count.{returns, iterates}
use Rattle.formula.specs.Admitted.{AdmittedB}
use Rattle.formula.specs.Kinds.{Kinds, either_kinds, agree_kinds, kinds_e, returned_kinds, iterated_kinds}
use Rattle.graph.specs.Assembly.{member_of}
use Rattle.graph.specs.Translation.{test_name, iter_name, iterated_name, returned_name, join_name, arm_names, join_names, joined, iterated_join, returned_join}
use Rattle.meaning.specs.WidthLaws.{Suits}
use Rattle.theory_kinds.proofs.KindLaws.{same-kinds}
use Rattle.theory_reference.proofs.NameSets.{or_left, or_right}
use Rattle.theory_yields.proofs.Naming.{within-up_from}
use Rattle.theory_yields.proofs.BodyWidths.{iterated-16, iterated-some, iterated-outputs, returned-outputs-le}
use Rattle.theory_yields.specs.BodyWidths.{iterated_outputs, returned_outputs}
use Rattle.theory_yields.proofs.ArmNames.{arm-member, join-has-first, join-has-third}
use Rattle.theory_yields.specs.ArmNames.{iterated_names, returned_names}
use Rattle.theory_claims.specs.Claims.{truths, Claims}
use Rattle.theory_claims.specs.TypedGraphs.{claims_of, at}
use Rattle.theory_claims.proofs.TypedGraphs.{Typed}
use Rattle.theory_claims.specs.KindClaims.{claims_for, returned_for}
use Rattle.theory_claims.proofs.KindClaims.{length-claims}
use Rattle.theory_claims.specs.Rows.{over}
use Rattle.theory_claims.proofs.Rows.{over-in, over-keeps}
use Rattle.theory_claims.proofs.IfNames.{table, table-iter, table-join, table-iterated, table-returned, arm-claims}
use Rattle.theory_claims.specs.BodyJoins.{iter_for, third_for}
use Rattle.theory_claims.proofs.BodyJoins.{IC-joined, join_i-typed, join_r-typed}
use Rattle.theory_claims.proofs.FormulaParts.{iterated-length, returned-fit, length-returned-by, length-iterated, returns-no-kinds}
use Rattle.theory_claims.specs.FormulaParts.{returned_by, body_claims}

agree_same : (ks ls : List ValueKind) → agree_kinds ks ls ≡ true → 1 ≤ length ks → 1 ≤ length ls → ks ≡ ls
agree_same [] ls a p q = absurd (omega arith)
agree_same (k ∷ ks) [] a p q = absurd (omega arith)
agree_same (k ∷ ks) (l ∷ ls) a p q = same-kinds (k ∷ ks) (l ∷ ls) a

module _ (side : Bool) (w : ℕ) (x : Body) where
  has-iter : member_of (arm_names side w x) (iter_name side) ≡ true
  has-iter = arm-member side w x (iter_name side) ∙ or_left (eqb (iter_name side) (iter_name side)) _ (eq-eqb (iter_name side) (iter_name side) refl)

  has-iterated : (i : ℕ) → i < iterated_outputs x → member_of (arm_names side w x) (iterated_name side + i) ≡ true
  has-iterated i h =
      let k : ℕ = iterated_name side + i in
      arm-member side w x k
      ∙ or_right (eqb (iter_name side) k) _
      (or_left (member_of (iterated_names side x) k) (member_of (returned_names side w x) k)
      (within-up_from (iterated_name side) (iterated_outputs x) k (omega arith) (omega arith)))

  has-returned : (i : ℕ) → i < returned_outputs w x → member_of (arm_names side w x) (returned_name side + i) ≡ true
  has-returned i h =
      let k : ℕ = returned_name side + i in
      arm-member side w x k
      ∙ or_right (eqb (iter_name side) k) _
      (or_right (member_of (iterated_names side x) k) (member_of (returned_names side w x) k)
      (within-up_from (returned_name side) (returned_outputs w x) k (omega arith) (omega arith)))

module _ (w : ℕ) (t : Exp) (x y : Body) (kinds : Kinds) (C : Claims) (adm : AdmittedB (if_b t x y)) (sx : Suits (returned x) w) (sy : Suits (returned y) w) (narrow : w ≤ 16) where
  abbrev arm : Bool → Body
  arm side = cond side x y

  abbrev pub ifTable : Claims
  ifTable =
      table C (λ side. iter_for (returns (arm side))) (λ side. claims_for (iterated_kinds (arm side) kinds)) (λ side. returned_by w (arm side) kinds)
      (third_for (returns x) (returns y))

  few : (z : Body) → iterated z ≤ 16 → iterated_outputs z ≤ 16
  few z h = let e = iterated-outputs z in omega arith

  -- What is told of an arm's names is what its kinds give.
  pub first-claims : claims_of ifTable (arm_names true w x) ≡ body_claims w x kinds
  unfolding arm_names iterated_outputs returned_outputs body_claims
  first-claims =
      arm-claims C (λ side. iter_for (returns (arm side))) (λ side. claims_for (iterated_kinds (arm side) kinds)) (λ side. returned_by w (arm side) kinds)
      (third_for (returns x) (returns y)) true (iterated_outputs x) (returned_outputs w x)
      (length-claims (iterated_kinds x kinds) ∙ length-iterated x kinds) (length-returned-by w x kinds sx) (few x (iterated-16 x adm.2))
      (low-returned (returned-outputs-le w x))
    where
      low-returned : {r : ℕ} → r ≤ w → r ≤ 16
      low-returned h = omega arith

  pub second-claims : claims_of ifTable (arm_names false w y) ≡ body_claims w y kinds
  unfolding arm_names iterated_outputs returned_outputs body_claims
  second-claims =
      arm-claims C (λ side. iter_for (returns (arm side))) (λ side. claims_for (iterated_kinds (arm side) kinds)) (λ side. returned_by w (arm side) kinds)
      (third_for (returns x) (returns y)) false (iterated_outputs y) (returned_outputs w y)
      (length-claims (iterated_kinds y kinds) ∙ length-iterated y kinds) (length-returned-by w y kinds sy) (few y (iterated-16 y adm.3))
      (low-returned (returned-outputs-le w y))
    where
      low-returned : {r : ℕ} → r ≤ w → r ≤ 16
      low-returned h = omega arith

  module _ (agree : agree_kinds (iterated_kinds x kinds) (iterated_kinds y kinds) ≡ true) (agree-returned : agree_kinds (returned_kinds x kinds) (returned_kinds y kinds) ≡ true)
      (D : Claims) (test : D test_name ≡ truths) (on-first : (k : ℕ) → member_of (arm_names true w x) k ≡ true → D k ≡ ifTable k)
      (on-second : (k : ℕ) → member_of (arm_names false w y) k ≡ true → D k ≡ ifTable k) where
    abbrev both : Bool
    both = iterates x && iterates y

    abbrev J : Claims
    J = over (join_names both) ifTable D

    abbrev joins : (ifTable join_name ≡ truths) × (ifTable (join_name + 1) ≡ truths) × (ifTable (join_name + 2) ≡ third_for (returns x) (returns y))
    joins =
        table-join C (λ side. iter_for (returns (arm side))) (λ side. claims_for (iterated_kinds (arm side) kinds)) (λ side. returned_by w (arm side) kinds)
        (third_for (returns x) (returns y))

    keep : (k : ℕ) → D k ≡ ifTable k → J k ≡ ifTable k
    keep k e = over-keeps (join_names both) ifTable D k e

    iter-first : D (iter_name true) ≡ iter_for (returns x)
    iter-first =
        on-first (iter_name true) (has-iter true w x)
        ∙ table-iter C (λ side. iter_for (returns (arm side))) (λ side. claims_for (iterated_kinds (arm side) kinds)) (λ side. returned_by w (arm side) kinds)
        (third_for (returns x) (returns y)) true

    iter-second : D (iter_name false) ≡ iter_for (returns y)
    iter-second =
        on-second (iter_name false) (has-iter false w y)
        ∙ table-iter C (λ side. iter_for (returns (arm side))) (λ side. claims_for (iterated_kinds (arm side) kinds)) (λ side. returned_by w (arm side) kinds)
        (third_for (returns x) (returns y)) false

    iterated-at : (side : Bool) (i : ℕ) → i < 16 → ifTable (iterated_name side + i) ≡ at (claims_for (iterated_kinds (arm side) kinds)) i
    iterated-at side i h =
        table-iterated C (λ side. iter_for (returns (arm side))) (λ side. claims_for (iterated_kinds (arm side) kinds)) (λ side. returned_by w (arm side) kinds)
        (third_for (returns x) (returns y)) side i h

    returned-at : (side : Bool) (i : ℕ) → i < 16 → ifTable (returned_name side + i) ≡ at (returned_by w (arm side) kinds) i
    returned-at side i h =
        table-returned C (λ side. iter_for (returns (arm side))) (λ side. claims_for (iterated_kinds (arm side) kinds)) (λ side. returned_by w (arm side) kinds)
        (third_for (returns x) (returns y)) side i h

    second-join : (b c : Bool) → b ≡ true → c ≡ true → member_of (join_names (b && c)) (join_name + 1) ≡ true
    unfolding join_names member_of
    second-join true true p q = refl
    second-join true false p q = q
    second-join false c p q = p

    both-iterate : iterates x ≡ true → iterates y ≡ true → (J (join_name + 1) ≡ truths) × (iterated_kinds x kinds ≡ iterated_kinds y kinds)
    both-iterate p q =
        let ex = iterated-length x kinds in
        let ey = iterated-length y kinds in
        let ix = iterated-some x adm.2 p in
        let iy = iterated-some y adm.3 q in (
          over-in (join_names both) ifTable D (join_name + 1) (second-join (iterates x) (iterates y) p q) ∙ joins.1,
          agree_same (iterated_kinds x kinds) (iterated_kinds y kinds) agree (omega arith) (omega arith),
        )

    iterated-typed : Typed (iterated_join x y) J (claims_for (either_kinds (iterated_kinds x kinds) (iterated_kinds y kinds)))
    unfolding iterated_join iterated_outputs
    iterated-typed =
        join_i-typed J (iterates x) (iterates y) (iterated x) (iterated y) (iterated_kinds x kinds) (iterated_kinds y kinds)
        (length-iterated x kinds) (length-iterated y kinds) both-iterate
        (λ i h. keep (iterated_name true + i) (on-first (iterated_name true + i) (has-iterated true w x i h)) ∙ iterated-at true i (below h (few x (iterated-16 x adm.2))))
        (λ i h. keep (iterated_name false + i) (on-second (iterated_name false + i) (has-iterated false w y i h)) ∙ iterated-at false i (below h (few y (iterated-16 y adm.3))))
      where
        below : {i k : ℕ} → i < k → k ≤ 16 → i < 16
        below h l = omega arith

    -- An arm that returns has these claims for it.
    by-returned : (z : Body) (i : ℕ) → i < returned_outputs w z → (at (returned_by w z kinds) i ≡ at (returned_for w (returned_kinds z kinds)) i) × (i < 16)
    unfolding returned_by returned_outputs
    by-returned z i = go (returns z)
      where
        go : (b : Bool) → i < cond b w 0 → (at (cond b (returned_for w (returned_kinds z kinds)) []) i ≡ at (returned_for w (returned_kinds z kinds)) i) × (i < 16)
        go true h = (refl, omega arith)
        go false h = absurd (omega arith)

    returned-typed : Typed (returned_join w x y) J (returned_for w (either_kinds (returned_kinds x kinds) (returned_kinds y kinds)))
    unfolding returned_join returned_outputs
    returned-typed =
        join_r-typed J (returns x) (returns y) w (returned_kinds x kinds) (returned_kinds y kinds) (returns-no-kinds x kinds) (returns-no-kinds y kinds) agree-returned
        (returned-fit w x kinds sx) (returned-fit w y kinds sy)
        (over-in (join_names both) ifTable D (join_name + 2) (join-has-third both) ∙ joins.2)
        (λ i h. keep (returned_name true + i) (on-first (returned_name true + i) (has-returned true w x i h)) ∙ returned-at true i (by-returned x i h).1 ∙ (by-returned x i h).0)
        (λ i h. keep (returned_name false + i) (on-second (returned_name false + i) (has-returned false w y i h)) ∙ returned-at false i (by-returned y i h).1 ∙ (by-returned y i h).0)

    pub joined_typed : Typed (joined w x y) D (body_claims w (if_b t x y) kinds)
    unfolding joined body_claims returned_by returns iterated_kinds kinds_e
    joined_typed =
        IC-joined ifTable D (returns x) (returns y) test iter-first iter-second joins both (iterated_join x y) (returned_join w x y)
        (claims_for (either_kinds (iterated_kinds x kinds) (iterated_kinds y kinds))) (returned_for w (either_kinds (returned_kinds x kinds) (returned_kinds y kinds)))
        (over-in (join_names both) ifTable D join_name (join-has-first both) ∙ joins.0) iterated-typed returned-typed
