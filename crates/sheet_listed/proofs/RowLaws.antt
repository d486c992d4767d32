-- Laws of specs/RowLaws.antt, and what only they need.
use Prim.Native.Nat.{ℕ, zero, suc, ◌+◌, ◌≤◌, ◌<◌}
use Rattle.std.specs.Prelude.{◌≡◌, refl, Bool, ◌&&◌, List, [], ◌∷◌, eqb}
use Rattle.std.proofs.Math.Bool.{true}
use Rattle.std.proofs.Math.Dec.{leb}
use borrow.Author.Tests.{eqb-true, leb-true}
use native.Mathlib.Omega.{arith}
use Rattle.formula.specs.Sheet.{shape_of, named_in}
use Rattle.formula.specs.Tests.{in_range, all_between}
use Rattle.formula.specs.FaultRows.{Among}
use Rattle.formula.specs.TreeLaws.{AllBetween}
use Rattle.formula.proofs.TreeLaws.{and-true, all-between}
use Rattle.sheet_tidied.specs.TextLaws.{Row, five}
use Rattle.sheet_listed.specs.Small.{modest, small_row, small_rows, counted_rows, count_from}
use Rattle.sheet_listed.proofs.Lists.{among-filtered, filtered-among, among-map, map-among, among-each, each-among, among-counted, counted-among}
use Rattle.sheet_listed.specs.RowLaws.{Counted, with_d, with_c, with_b, with_a}

and_both : (a b : Bool) → a ≡ true → b ≡ true → a && b ≡ true
and_both a b h i = rw (h, i) refl

module _ (a b c d : ℕ) where
  -- The three tests of a small row.
  small-tests : (kind : ℕ) → small_row (kind ∷ a ∷ b ∷ c ∷ d ∷ []) ≡ true
      → (in_range kind a b c d ≡ true) × AllBetween 5 (named_in (shape_of kind a b c d)) × (modest (shape_of kind a b c d) ≡ true)
  unfolding small_row
  small-tests kind h =
      let s = shape_of kind a b c d in
      let x = and-true (in_range kind a b c d) (all_between 5 (named_in s) && modest s) h in
      let y = and-true (all_between 5 (named_in s)) (modest s) x.1 in
      (x.0, all-between 5 (named_in s) y.0, y.1)

  pub tests-small : (kind : ℕ) → in_range kind a b c d ≡ true → all_between 5 (named_in (shape_of kind a b c d)) ≡ true → modest (shape_of kind a b c d) ≡ true
      → small_row (kind ∷ a ∷ b ∷ c ∷ d ∷ []) ≡ true
  unfolding small_row
  tests-small kind h i j =
      let s = shape_of kind a b c d in
      and_both (in_range kind a b c d) (all_between 5 (named_in s) && modest s) h (and_both (all_between 5 (named_in s)) (modest s) i j)

  is_zero : (x : ℕ) → eqb x 0 ≡ true → x < 5
  is_zero x h = let e = eqb-true x 0 h in omega arith

  two-zeros : (u : Bool) → u && eqb c 0 && eqb d 0 ≡ true → (u ≡ true) × (c < 5) × (d < 5)
  two-zeros u h =
      let x = and-true (u && eqb c 0) (eqb d 0) h in
      let y = and-true u (eqb c 0) x.0 in
      (y.0, is_zero c y.1, is_zero d x.1)

  three-zeros : (u : Bool) → u && eqb b 0 && eqb c 0 && eqb d 0 ≡ true → (b < 5) × (c < 5) × (d < 5)
  three-zeros u h = let x = two-zeros (u && eqb b 0) h in (is_zero b (and-true u (eqb b 0) x.0).1, x.1, x.2)

  leaf-counted : (u : Bool) → u && eqb b 0 && eqb c 0 && eqb d 0 ≡ true → leb a 1 ≡ true → Counted a b c d
  leaf-counted u h m = let x = three-zeros u h in let l = leb-true a 1 m in (omega arith, x.0, x.1, x.2)

  binding-counted : AllBetween 5 (c ∷ d ∷ []) → leb (a + b) 2 ≡ true → Counted a b c d
  binding-counted n m = let l = leb-true (a + b) 2 m in (omega arith, omega arith, n.0.1, n.1.0.1)

  small-counted : (kind : ℕ) → 1 ≤ kind → kind ≤ 9 → small_row (kind ∷ a ∷ b ∷ c ∷ d ∷ []) ≡ true → Counted a b c d
  unfolding in_range named_in shape_of modest
  small-counted zero l u h = absurd (omega arith)
  small-counted (suc zero) l u h = let t = small-tests 1 h in leaf-counted (leb a 31) t.0 t.2
  small-counted (suc (suc zero)) l u h = let t = small-tests 2 h in leaf-counted (leb a 999999) t.0 t.2
  small-counted (suc (suc (suc zero))) l u h = let t = small-tests 3 h in leaf-counted (leb a 1) t.0 t.2
  small-counted (suc (suc (suc (suc zero)))) l u h =
      let t = small-tests 4 h in
      let z = two-zeros true t.0 in
      (omega (arith, t.1.0.1), t.1.1.0.1, z.1, z.2)
  small-counted (suc (suc (suc (suc (suc zero))))) l u h =
      let t = small-tests 5 h in
      let z = two-zeros (leb 1 a && leb a 11) t.0 in
      let m = leb-true a 11 (and-true (leb 1 a) (leb a 11) z.0).1 in
      (omega arith, t.1.0.1, z.1, z.2)
  small-counted (suc (suc (suc (suc (suc (suc zero)))))) l u h = let t = small-tests 6 h in binding-counted t.1 t.2
  small-counted (suc (suc (suc (suc (suc (suc (suc zero))))))) l u h =
      let t = small-tests 7 h in
      (omega (arith, t.1.0.1), t.1.1.0.1, t.1.1.1.0.1, is_zero d t.0)
  small-counted (suc (suc (suc (suc (suc (suc (suc (suc zero)))))))) l u h = let t = small-tests 8 h in binding-counted t.1 t.2
  small-counted (suc (suc (suc (suc (suc (suc (suc (suc (suc zero))))))))) l u h =
      let t = small-tests 9 h in
      let z = three-zeros true t.0 in
      (omega (arith, t.1.0.1), z.0, z.1, z.2)
  small-counted (suc (suc (suc (suc (suc (suc (suc (suc (suc (suc kind)))))))))) l u h = absurd (omega arith)

among-rows : (kind a b c d : ℕ) → 1 ≤ kind → kind ≤ 9 → Counted a b c d → Among (kind ∷ a ∷ b ∷ c ∷ d ∷ []) counted_rows
unfolding counted_rows
among-rows kind a b c d l u h =
    let row : List ℕ = kind ∷ a ∷ b ∷ c ∷ d ∷ [] in
    among-each with_a kind (count_from 1 9) row (among-counted kind 1 9 l (omega arith))
    (among-each (with_b kind) a (count_from 0 12) row (among-counted a 0 12 (omega arith) (omega (arith, h.0)))
    (among-each (with_c kind a) b (count_from 0 5) row (among-counted b 0 5 (omega arith) (omega (arith, h.1)))
    (among-each (with_d kind a b) c (count_from 0 5) row (among-counted c 0 5 (omega arith) (omega (arith, h.2)))
    (among-map (λ d. kind ∷ a ∷ b ∷ c ∷ d ∷ []) d (count_from 0 5) (among-counted d 0 5 (omega arith) (omega (arith, h.3)))))))

rows-among : (q : List ℕ) → Among q counted_rows → Row q
unfolding counted_rows
rows-among = each-among with_a Row (count_from 1 9) (λ kind i.
    each-among (with_b kind) Row (count_from 0 12) (λ a j.
    each-among (with_c kind a) Row (count_from 0 5) (λ b k.
    each-among (with_d kind a b) Row (count_from 0 5) (λ c l.
    map-among (λ d. kind ∷ a ∷ b ∷ c ∷ d ∷ []) Row (count_from 0 5) (λ d m.
    five kind a b c d
    (omega (arith, (counted-among kind 1 9 i).1))
    (omega (arith, (counted-among a 0 12 j).1))
    (omega (arith, (counted-among b 0 5 k).1))
    (omega (arith, (counted-among c 0 5 l).1))
    (omega (arith, (counted-among d 0 5 m).1)))))))

-- A small row of kind 1 to 9 is one of the list.
pub row_listed : (kind a b c d : ℕ) → 1 ≤ kind → kind ≤ 9 → small_row (kind ∷ a ∷ b ∷ c ∷ d ∷ []) ≡ true → Among (kind ∷ a ∷ b ∷ c ∷ d ∷ []) small_rows
unfolding small_rows
row_listed kind a b c d l u h =
    let row : List ℕ = kind ∷ a ∷ b ∷ c ∷ d ∷ [] in
    among-filtered small_row row counted_rows (among-rows kind a b c d l u (small-counted a b c d kind l u h)) h

-- Each of the list is small, with five fields that a sheet can hold.
pub listed-row : (q : List ℕ) → Among q small_rows → Row q × (small_row q ≡ true)
unfolding small_rows
listed-row q h = let i = filtered-among small_row q counted_rows h in (rows-among q i.0, i.1)
