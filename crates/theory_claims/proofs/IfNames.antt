-- The claims of the names in an if (graph/specs/Translation), as one table: of its test, of each arm's iter?, iterated and returned results, and of
-- the three outputs of IC. Assumes at most sixteen results of each.
use Rattle.std.specs.Prelude.{ℕ, ◌+◌, ◌-◌, ◌≤◌, ◌<◌, ◌≡◌, Bool, cond, List, ◌∷◌, ◌++◌, length, ltb}
use Rattle.std.proofs.Math.Path.{refl}
use Rattle.std.proofs.Math.Bool.{true, false}
use borrow.Author.Tests.{lt-ltb, le-ltb}
use native.Mathlib.Omega.{arith}
use Rattle.graph.specs.Assembly.{up_from}
use Rattle.graph.specs.Translation.{test_name, iter_name, iterated_name, returned_name, join_name}
use Rattle.theory_claims.specs.Claims.{Claim, truths, Claims}
use Rattle.theory_claims.specs.TypedGraphs.{claims_of, at}
use Rattle.theory_claims.proofs.Rows.{claims-of-append, up-claims}

-- By the side of the arm: its iter?, its iterated and its returned results; and the third output of IC.
module _ (C : Claims) (it : Bool → Claim) (is rs : Bool → List Claim) (third : Claim) where
  unfoldable pub table : Claims
  table k =
      cond (ltb k test_name) (C k)
      (cond (ltb k 34) truths
      (cond (ltb k 35) (it true)
      (cond (ltb k 51) (at (is true) (k - 35))
      (cond (ltb k 67) (at (rs true) (k - 51))
      (cond (ltb k 68) (it false)
      (cond (ltb k 84) (at (is false) (k - 68))
      (cond (ltb k 100) (at (rs false) (k - 84))
      (cond (ltb k 102) truths third))))))))

  pub table-low : (k : ℕ) → k < test_name → table k ≡ C k
  unfolding table
  table-low k h = rw (lt-ltb k test_name h) refl

  pub table-test : table test_name ≡ truths
  unfolding table
  table-test = refl

  pub table-iter : (side : Bool) → table (iter_name side) ≡ it side
  unfolding table
  table-iter true = refl
  table-iter false = refl

  pub table-join : (table join_name ≡ truths) × (table (join_name + 1) ≡ truths) × (table (join_name + 2) ≡ third)
  unfolding table
  table-join = (refl, refl, refl)

  pub table-iterated : (side : Bool) (i : ℕ) → i < 16 → table (iterated_name side + i) ≡ at (is side) i
  unfolding table
  table-iterated true i h =
      let z : 35 + i - 35 ≡ i = omega arith in
      rw (le-ltb (35 + i) 33 (omega arith), le-ltb (35 + i) 34 (omega arith), le-ltb (35 + i) 35 (omega arith), lt-ltb (35 + i) 51 (omega arith), z) refl
  table-iterated false i h =
      let z : 68 + i - 68 ≡ i = omega arith in
      rw (
        le-ltb (68 + i) 33 (omega arith),
        le-ltb (68 + i) 34 (omega arith),
        le-ltb (68 + i) 35 (omega arith),
        le-ltb (68 + i) 51 (omega arith),
        le-ltb (68 + i) 67 (omega arith),
        le-ltb (68 + i) 68 (omega arith),
        lt-ltb (68 + i) 84 (omega arith),
        z,
      ) refl

  pub table-returned : (side : Bool) (i : ℕ) → i < 16 → table (returned_name side + i) ≡ at (rs side) i
  unfolding table
  table-returned true i h =
      let z : 51 + i - 51 ≡ i = omega arith in
      rw (
        le-ltb (51 + i) 33 (omega arith),
        le-ltb (51 + i) 34 (omega arith),
        le-ltb (51 + i) 35 (omega arith),
        le-ltb (51 + i) 51 (omega arith),
        lt-ltb (51 + i) 67 (omega arith),
        z,
      ) refl
  table-returned false i h =
      let z : 84 + i - 84 ≡ i = omega arith in
      rw (
        le-ltb (84 + i) 33 (omega arith),
        le-ltb (84 + i) 34 (omega arith),
        le-ltb (84 + i) 35 (omega arith),
        le-ltb (84 + i) 51 (omega arith),
        le-ltb (84 + i) 67 (omega arith),
        le-ltb (84 + i) 68 (omega arith),
        le-ltb (84 + i) 84 (omega arith),
        lt-ltb (84 + i) 100 (omega arith),
        z,
      ) refl

  pub returned-claims : (side : Bool) (w : ℕ) → length (rs side) ≡ w → w ≤ 16 → claims_of table (up_from (returned_name side) w) ≡ rs side
  returned-claims side w e h = up-claims table (returned_name side) w (rs side) e (λ i l. table-returned side i (omega arith))

  iterated-claims : (side : Bool) (m : ℕ) → length (is side) ≡ m → m ≤ 16 → claims_of table (up_from (iterated_name side) m) ≡ is side
  iterated-claims side m e h = up-claims table (iterated_name side) m (is side) e (λ i l. table-iterated side i (omega arith))

  -- The names of an arm: iter?, the iterated results, the returned results.
  pub arm-claims : (side : Bool) (m w : ℕ) → length (is side) ≡ m → length (rs side) ≡ w → m ≤ 16 → w ≤ 16
      → claims_of table (iter_name side ∷ (up_from (iterated_name side) m ++ up_from (returned_name side) w)) ≡ it side ∷ (is side ++ rs side)
  arm-claims side m w p q h l =
      cc (
        table-iter side,
        claims-of-append table (up_from (iterated_name side) m) (up_from (returned_name side) w),
        iterated-claims side m p h,
        returned-claims side w q l,
      )
