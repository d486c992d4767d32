use Rattle.std.proofs.Common.{rules, tests, ◌≡◌, ℕ, suc, List, Bool, false, true, [], ◌∷◌, ◌&&◌, ◌+◌, ◌<◌, not, refl, sym, ◌∙◌, length, get_or, drop, drop-cons, add-one}
use Rattle.std.specs.Prelude.{eqb, ltb, ◌||◌}
use Rattle.std.proofs.lemmas.List.{take_rest}
use Rattle.std.proofs.Math.ListN.{drop_of_length-le}
use borrow.Author.Tests.{lt-ltb, le-ltb}
use Rattle.std.specs.List.{list_any}
use Rattle.std.proofs.lemmas.Iterator.{YieldsList-from_slice}
use Rattle.std.proofs.lemmas.Iterator.Search.{any_from_yields_List}
use Rattle.machine_valid.specs.Ports.{away, apart}
use Rattle.machine_valid.proofs.are_apart.Goals as goal
use Rattle.machine_valid.proofs.are_apart.Goals.{then-links-x-via-then-links-x, then-links-x-via-else-links-x+then-any}

away-any : (x : ℕ) (ys : List ℕ) → away x ys ≡ not (list_any (λ y. eqb x y) ys)
unfolding away
away-any x [] = refl
away-any x (y ∷ ys) = rw (away-any x ys) (go (eqb x y))
  where
    go : (b : Bool) → not b && not (list_any (λ y. eqb x y) ys) ≡ not (b || list_any (λ y. eqb x y) ys)
    go true = refl
    go false = refl

apart-step : (links : ℕ) (s : List ℕ) (i : ℕ) → i < length s
    → apart links (drop i s) ≡ ltb (get_or s i 0) links && (not (list_any (λ y. eqb (get_or s i 0) y) (drop (i + 1) s)) && apart links (drop (i + 1) s))
unfolding apart
apart-step links s i h = rw (add-one, drop-cons s i 0, away-any (get_or s i 0) (drop (suc i) s)) refl

pub returns : goal.returns
unfolding apart
returns g c = sym (c.loop-i.invariant ∙ rw (drop_of_length-le c.args.names.now c.loop-i-test.false) refl)

pub loop-i-preserved : goal.loop-i-preserved
loop-i-preserved g c =
    let xs = c.args.names.now in
    let i = c.loop-i.i in
    let a = any_from_yields_List (λ y. eqb (get_or xs i 0) y) _ _ c.any.result c.any.ensures.ran (YieldsList-from_slice (drop (i + 1) xs) (c.iter.ensures.rest ∙ take_rest xs (i + 1))) (λ x b q k. search (rules, tests)) in
    c.loop-i.invariant ∙ apart-step c.args.links xs i c.loop-i-test.true ∙ simp (lt-ltb (get_or xs i 0) c.args.links c.if-links-x.false, sym a ∙ c.if-any.false)

pub returns-then-links-x : goal.returns-then-links-x
returns-then-links-x g c =
    let xs = c.args.names.now in
    let i = c.loop-i.i in
    sym (c.loop-i.invariant ∙ apart-step c.args.links xs i c.loop-i-test.true ∙ elim c.then-links-x.branch [
      | then-links-x-via-then-links-x w ↦ simp (le-ltb (get_or xs i 0) c.args.links w.if-links-x.true)
      | then-links-x-via-else-links-x+then-any w ↦
          let a = any_from_yields_List (λ y. eqb (get_or xs i 0) y) _ _ w.any.result w.any.ensures.ran (YieldsList-from_slice (drop (i + 1) xs) (w.iter.ensures.rest ∙ take_rest xs (i + 1))) (λ x b q k. search (rules, tests)) in
          simp (lt-ltb (get_or xs i 0) c.args.links w.if-links-x.false, sym a ∙ w.if-any.true)
    ])
