-- Laws of specs/LoopRows.antt, and what only they need.
use Rattle.std.specs.Prelude.{ℕ, zero, suc, ◌+◌, ◌≤◌, ◌⊎◌}
use Rattle.std.proofs.Common.{inl, inr, arith}
use Rattle.formula.specs.Tree.{Exp, identifier, constant, pair, operator, let_e, if_e, for_e, Body, ret, iter, let_b, if_b}
use Rattle.formula.specs.Widths.{width, returned, iterated, either}
use Rattle.sheet_listed.specs.LoopRows.{rows_e, rows_b}

pub some-rows : (x : Exp) → 1 ≤ rows_e x
unfolding rows_e
some-rows (identifier a) = omega arith
some-rows (constant k a) = omega arith
some-rows (pair x y) = omega arith
some-rows (operator k x) = omega arith
some-rows (let_e a b x y) = omega arith
some-rows (if_e t x y) = omega arith
some-rows (for_e a b x y) = omega arith

pub body-rows : (y : Body) → 1 ≤ rows_b y
unfolding rows_e
body-rows (ret x) = some-rows x
body-rows (iter x) = omega arith
body-rows (let_b a b x y) = omega arith
body-rows (if_b t x y) = omega arith

-- Two arms have a width where one of them has.
either-some : (u v : ℕ) → 1 ≤ either u v → (1 ≤ u) ⊎ (1 ≤ v)
either-some zero v h = inr h
either-some (suc u) v h = inl (omega arith)

pub iterating-rows : (y : Body) → 1 ≤ iterated y → 2 ≤ rows_b y
unfolding iterated width rows_e
iterating-rows (ret x) h = absurd (omega arith)
iterating-rows (iter x) h = omega (arith, some-rows x)
iterating-rows (let_b a b x y) h = omega (arith, iterating-rows y h)
iterating-rows (if_b t x y) h = omega (arith, some-rows t, body-rows x, body-rows y)

pub loop-body-rows : (y : Body) → 1 ≤ iterated y → 1 ≤ returned y → 5 ≤ rows_b y
unfolding iterated width rows_e
loop-body-rows (ret x) h k = absurd (omega arith)
loop-body-rows (iter x) h k = absurd (omega arith)
loop-body-rows (let_b a b x y) h k = omega (arith, loop-body-rows y h k)
loop-body-rows (if_b t x y) h k =
    go (λ i r. loop-body-rows x i r) (λ i r. loop-body-rows y i r) (either-some (iterated x) (iterated y) h) (either-some (returned x) (returned y) k)
  where
    go : (1 ≤ iterated x → 1 ≤ returned x → 5 ≤ rows_b x) → (1 ≤ iterated y → 1 ≤ returned y → 5 ≤ rows_b y)
        → (1 ≤ iterated x) ⊎ (1 ≤ iterated y) → (1 ≤ returned x) ⊎ (1 ≤ returned y) → 5 ≤ 1 + (rows_e t + (rows_b x + rows_b y))
    go f g (inl i) (inl r) = omega (arith, f i r)
    go f g (inl i) (inr r) = omega (arith, some-rows t, iterating-rows x i, body-rows y)
    go f g (inr i) (inl r) = omega (arith, some-rows t, iterating-rows y i, body-rows x)
    go f g (inr i) (inr r) = omega (arith, g i r)
