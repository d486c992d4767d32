-- Laws of specs/NoLoops.antt, and what only they need.
use Prim.Native.Nat.{ℕ, zero, suc, ◌+◌, ◌-◌, ◌≤◌, ◌<◌}
use Rattle.std.specs.Prelude.{◌≡◌, Bool, cond, ◌&&◌, ◌||◌, List, [], ◌∷◌, ◌++◌, eqb, replicate}
use Rattle.std.proofs.Math.Path.{refl, ap}
use Rattle.std.proofs.Common.{sym, ◌∙◌}
use Rattle.std.proofs.Math.Bool.{true, false, not, false≢true}
use native.Mathlib.Omega.{arith}
use Rattle.std.proofs.Math.Decide.{dec_lt}
use Rattle.std.proofs.Math.Dec.{leb}
use Rattle.std.proofs.lemmas.List.{get_or-replicate, length-replicate}
use Rattle.std.proofs.Math.ListN.{get_or-eq_default}
use borrow.Author.Tests.{eqb-true, eqb-false, ne_eqb, leb-true, not-true}
use Rattle.formula.specs.declared.Shape.{Shape}
use Rattle.formula.specs.declared.Shape.TheVariants.{Identifier, Constant, Pair, Operator, Let, If, For, Iter}
use Rattle.formula.specs.Sheet.{row_count, fields_of, field, shape_of, shape_at, named_in}
use Rattle.formula.specs.Tree.{Exp, for_e, Body, ret, exp_node, body_node, exp_of, body_of}
use Rattle.formula.specs.Places.{bodies_in, is_in_body, mark, mark_down, places_of, node_in}
use Rattle.formula.specs.Widths.{width, returned, iterated, fitting_e, fitting_b, wide_e, wide_b}
use Rattle.formula.specs.Tests.{occurrences, all_named, binds_well, in_range, ranges_well, is_iter, placed_well, wide_node, widths_well}
use Rattle.formula.specs.TreeLaws.{AllBetween}
use Rattle.formula.proofs.TreeLaws.{and-true, exp-at, body_at, exp-as, body-as}
use Rattle.formula.specs.PlaceLaws.{Sound}
use Rattle.formula.proofs.PlaceLaws.{occurs-append}
use Rattle.sheet_listed.specs.Small.{modest, modest_row, is_small}
use Rattle.sheet_listed.specs.LoopRows.{rows_e, rows_b}
use Rattle.sheet_listed.proofs.LoopRows.{some-rows, loop-body-rows}
use Rattle.sheet_listed.specs.RowSizes.{sum_over}
use Rattle.sheet_listed.proofs.RowSizes.{size-bound}
use Rattle.sheet_listed.proofs.Passing.{Passing, small-passing}
use Rattle.sheet_listed.specs.NoLoops.{is_for}

-- ---- the tree of row k has at most k rows
-- A row and the trees of the rows that it names.
module _ (E : ℕ → Exp) (B : ℕ → Body) (size : ℕ → ℕ) (e : (k : ℕ) → rows_e (E k) ≤ size k) (b : (k : ℕ) → rows_b (B k) ≤ size k) where
  exp-rows : (s : Shape) → rows_e (exp_node E B s) ≤ 1 + sum_over size (named_in s)
  unfolding rows_e exp_node named_in
  exp-rows (Identifier x) = omega arith
  exp-rows (Constant k x) = omega arith
  exp-rows (Pair x y) = omega (arith, e x, e y)
  exp-rows (Operator k x) = omega (arith, e x)
  exp-rows (Let i k x y) = omega (arith, e x, e y)
  exp-rows (If x y z) = omega (arith, e x, e y, e z)
  exp-rows (For i k x y) = omega (arith, e x, b y)
  exp-rows (Iter x) = omega (arith, e x)

  body-rows : (s : Shape) → rows_b (body_node E B s) ≤ 1 + sum_over size (named_in s)
  unfolding rows_e body_node named_in
  body-rows (Identifier x) = exp-rows (Identifier x)
  body-rows (Constant k x) = exp-rows (Constant k x)
  body-rows (Pair x y) = exp-rows (Pair x y)
  body-rows (Operator k x) = exp-rows (Operator k x)
  body-rows (Let i k x y) = omega (arith, e x, b y)
  body-rows (If x y z) = omega (arith, e x, b y, b z)
  body-rows (For i k x y) = exp-rows (For i k x y)
  body-rows (Iter x) = omega (arith, e x)

between-append : (r : ℕ) (l m : List ℕ) → AllBetween r l → AllBetween r m → AllBetween r (l ++ m)
between-append r [] m h i = i
between-append r (x ∷ l) m h i = (h.0, between-append r l m h.1 i)

between_more : (q r : ℕ) (l : List ℕ) → q ≤ r → AllBetween q l → AllBetween r l
between_more q r [] h a = tt
between_more q r (x ∷ l) h a = ((a.0.0, omega (arith, a.0.1)), between_more q r l h a.1)

module _ (t : List ℕ) (n : ℕ) (ok : Sound t n) where
  all-between-up : (k r : ℕ) → k ≤ n → k ≤ r → AllBetween r (all_named t k)
  unfolding all_named
  all-between-up zero r h i = tt
  all-between-up (suc k) r h i =
      between-append r (all_named t k) (named_in (shape_at t (suc k))) (all-between-up k r (omega arith) (omega arith))
      (between_more (suc k) r (named_in (shape_at t (suc k))) i (ok.named.names (suc k) (omega arith) h))

  more-named : (x k d : ℕ) → occurrences x (all_named t k) ≤ occurrences x (all_named t (d + k))
  unfolding all_named
  more-named x k zero = let e : 0 + k ≡ k = omega arith in rw e (omega arith)
  more-named x k (suc d) =
      let e : suc d + k ≡ suc (d + k) = omega arith in
      rw e (omega (arith, more-named x k d, occurs-append x (all_named t (d + k)) (named_in (shape_at t (suc (d + k))))))

  -- The rows before row r name a row at most once.
  pub at-most-once : (k x : ℕ) → k ≤ n → 1 ≤ x → x < n → occurrences x (all_named t k) ≤ 1
  at-most-once k x h a b =
      let e : n - k + k ≡ n = omega arith in
      let m : occurrences x (all_named t k) ≤ occurrences x (all_named t n) = rw e at (more-named x k (n - k)) in
      omega (arith, ok.once x a b)

  -- The larger of both readings' trees.
  size : ℕ → ℕ
  size k = rows_e (exp_of t k) + (rows_b (body_of t k) - rows_e (exp_of t k))

  size-at : (r : ℕ) → 1 ≤ r → r ≤ n → size r ≤ 1 + sum_over size (named_in (shape_at t r))
  unfolding size
  size-at r l u =
      let e : (k : ℕ) → rows_e (exp_of t k) ≤ size k = λ k. omega arith in
      let b : (k : ℕ) → rows_b (body_of t k) ≤ size k = λ k. omega arith in
      omega (
        arith,
        ap rows_e (exp-at t n ok.named r l u),
        exp-rows (exp_of t) (body_of t) size e b (shape_at t r),
        ap rows_b (body_at t n ok.named r l u),
        body-rows (exp_of t) (body_of t) size e b (shape_at t r),
      )

  tree-rows : (r : ℕ) → 1 ≤ r → r ≤ n → rows_e (exp_of t r) ≤ r
  unfolding size
  tree-rows zero l u = absurd (omega arith)
  tree-rows (suc k) l u =
      omega (arith, size-bound t size n size-at k u (all-between-up (suc k) (suc k) u (omega arith)) (λ x a b. at-most-once (suc k) x u a (omega arith)))

-- ---- no for
loop-tree : (a b : ℕ) (x : Exp) (y : Body) → 1 ≤ b → fitting_e (for_e a b x y) ≡ true → 7 ≤ rows_e (for_e a b x y)
unfolding fitting_e rows_e
loop-tree a b x y h f =
    let both = and-true (eqb (width x) b && eqb (iterated y) b) (not (eqb (returned y) 0)) f in
    let i : iterated y ≡ b = eqb-true (iterated y) b (and-true (eqb (width x) b) (eqb (iterated y) b) both.0).1 in
    let n : returned y ≡ 0 → ⊥ = eqb-false (returned y) 0 (not-true (eqb (returned y) 0) both.1) in
    omega (arith, some-rows x, loop-body-rows y (omega arith) (omega arith))

module _ (t : List ℕ) (n : ℕ) (ok : Passing t n) (r : ℕ) (l : 1 ≤ r) (u : r ≤ n) where
  -- Test 8 of a for, in either place.
  fitting-either : (a b c d : ℕ) → shape_at t r ≡ For a b c d → (p : Bool) → wide_node (node_in p t r) ≡ true → fitting_e (for_e a b (exp_of t c) (body_of t d)) ≡ true
  unfolding wide_node node_in wide_e wide_b fitting_b exp_node body_node
  fitting-either a b c d e false h =
      let x : Exp = for_e a b (exp_of t c) (body_of t d) in
      let w : wide_e x ≡ true = ap wide_e (sym (exp-as t n ok.sound.named r l u (For a b c d) e)) ∙ h in
      (and-true (leb (width x) 16) (fitting_e x) w).1
  fitting-either a b c d e true h =
      let y : Body = ret (for_e a b (exp_of t c) (body_of t d)) in
      let w : wide_b y ≡ true = ap wide_b (sym (body-as t n ok.sound.named r l u (For a b c d) e)) ∙ h in
      (and-true (leb (iterated y) 16 && leb (returned y) 16) (fitting_b y) w).1

  no-for : field t r 0 ≡ 8 → ⊥
  unfolding shape_at shape_of ranges_well in_range widths_well exp_node
  no-for e =
      let a = field t r 1 in
      let b = field t r 2 in
      let c = field t r 3 in
      let d = field t r 4 in
      let s : shape_at t r ≡ For a b c d = rw e refl in
      let w : binds_well a b ≡ true = rw e at (ok.ranged r l u) in
      let h : 1 ≤ b = leb-true 1 b (and-true (leb 1 b) (leb (a + b) 32) w).0 in
      let f = fitting-either a b c d s (is_in_body (places_of t n) r) (ok.wide r l u) in
      omega (arith, loop-tree a b (exp_of t c) (body_of t d) h f, ap rows_e (exp-as t n ok.sound.named r l u (For a b c d) s), tree-rows t n ok.sound r l u, ok.few)

either-for : (b : Bool) (x y : Shape) → is_for x ≡ false → is_for y ≡ false → is_for (cond b x y) ≡ false
either-for true x y h i = h
either-for false x y h i = i

other-kind : (kind a b c d : ℕ) → (kind ≡ 8 → ⊥) → is_for (shape_of kind a b c d) ≡ false
unfolding shape_of
other-kind kind a b c d h =
    rw (ne_eqb kind 8 h)
    (either-for (eqb kind 1) _ _ refl
    (either-for (eqb kind 2) _ _ refl
    (either-for (eqb kind 3) _ _ refl
    (either-for (eqb kind 4) _ _ refl
    (either-for (eqb kind 5) _ _ refl
    (either-for (eqb kind 6) _ _ refl
    (either-for (eqb kind 7) _ _ refl
    (either-for (eqb kind 9) _ _ refl
    (either-for (eqb kind 10) _ _ refl refl)))))))))

no-bodies : (s : Shape) → is_for s ≡ false → bodies_in false s ≡ []
unfolding bodies_in
no-bodies (Identifier a) h = refl
no-bodies (Constant k a) h = refl
no-bodies (Pair a b) h = refl
no-bodies (Operator a b) h = refl
no-bodies (Let a b c d) h = refl
no-bodies (If a b c) h = refl
no-bodies (For a b c d) h = absurd (false≢true (sym h))
no-bodies (Iter a) h = refl

no_place : (n r : ℕ) → is_in_body (replicate n false) r ≡ false
no_place n r = go (dec_lt (r - 1) n)
  where
    go : Dec (r - 1 < n) → is_in_body (replicate n false) r ≡ false
    go (yes h) = get_or-replicate n (r - 1) false false h
    go (no h) = get_or-eq_default (replicate n false) false (rw (length-replicate n false) (omega arith))

none-marked : (t : List ℕ) (n m : ℕ) → ((r : ℕ) → 1 ≤ r → r ≤ m → field t r 0 ≡ 8 → ⊥) → mark_down t m (replicate n false) ≡ replicate n false
unfolding mark_down mark shape_at
none-marked t n zero h = refl
none-marked t n (suc m) h =
    rw (no_place n (suc m), no-bodies (shape_at t (suc m)) (other-kind _ _ _ _ _ (h (suc m) (omega arith) (omega arith))))
    (none-marked t n m (λ r a b. h r a (omega arith)))

module _ (t : List ℕ) (n : ℕ) (ok : Passing t n) where
  -- Without a for no place is a body's.
  pub no-for-places : places_of t n ≡ replicate n false
  unfolding places_of
  no-for-places = none-marked t n n (no-for t n ok)

  pub expression-place : (r : ℕ) → is_in_body (places_of t n) r ≡ false
  expression-place r = ap (λ (p : List Bool). is_in_body p r) no-for-places ∙ no_place n r

  no-iter : (r : ℕ) → 1 ≤ r → r ≤ n → field t r 0 ≡ 9 → ⊥
  unfolding placed_well shape_at shape_of
  no-iter r l u e =
      let s : shape_at t r ≡ Iter (field t r 1) = rw e refl in
      let p : not (is_iter (shape_at t r)) || is_in_body (places_of t n) r ≡ true = ok.placed r l u in
      false≢true (sym (expression-place r) ∙ rw s at p)

  pub passing-kinds : (r : ℕ) → 1 ≤ r → r ≤ n → field t r 0 ≤ 7
  unfolding modest_row
  passing-kinds r l u =
      let both = and-true (leb 1 (field t r 0) && leb (field t r 0) 9) (modest (shape_at t r)) (ok.modest r l u) in
      let h : field t r 0 ≤ 9 = leb-true (field t r 0) 9 (and-true (leb 1 (field t r 0)) (leb (field t r 0) 9) both.0).1 in
      go (dec_lt (field t r 0) 8) (dec_lt (field t r 0) 9) h
    where
      go : Dec (field t r 0 < 8) → Dec (field t r 0 < 9) → field t r 0 ≤ 9 → field t r 0 ≤ 7
      go (yes a) b h = omega arith
      go (no a) (yes b) h = absurd (no-for t n ok r l u (omega arith))
      go (no a) (no b) h = absurd (no-iter r l u (omega arith))

-- A small sheet has neither a for nor an iter.
pub small-no-loops : (s : List ℕ) → is_small s ≡ true → (r : ℕ) → 1 ≤ r → r ≤ row_count s → field (fields_of s) r 0 ≤ 7
small-no-loops s h = passing-kinds (fields_of s) (row_count s) (small-passing s h)
