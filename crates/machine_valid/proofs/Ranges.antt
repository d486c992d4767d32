-- What `(0..n).all(test)` answers: whether every number below n passes.
use Prim.Native.Nat.{ℕ, zero, suc, ◌+◌, ◌-◌}
use Rattle.std.specs.Prelude.{◌≡◌, Bool, true, false, ◌&&◌, List}
use Rattle.std.proofs.Math.Path.{refl}
use Rattle.std.proofs.Common.{sym, ap, ap₂, ◌∙◌, arith}
use Rattle.std.proofs.Math.Bool.{and-true, and_assoc}
use denote.Param.Members.{Mut}
use Rattle.std.specs.Fn.{Called}
use Rattle.std.specs.Iterator.{YieldsThen}
use Rattle.std.specs.List.{list_all, range_with_len, FoldsTo}
use Rattle.std.specs.Option.{MatchOption}
use Rattle.std.specs.declared.option.Option.{Option}
use Rattle.std.specs.declared.ops.Range.{Range}
use Rattle.std.proofs.iter.Yields.{nat_range_steps}
use Rattle.std.proofs.lemmas.Iterator.{YieldsList-from_range}
use Rattle.std.proofs.lemmas.Iterator.Search.{all_from_yields_List}
use Rattle.machine_valid.specs.Below.{all_below}

-- the first number apart
pub below-front : (n : ℕ) (f : ℕ → Bool) → all_below (suc n) f ≡ f 0 && all_below n (λ i. f (suc i))
unfolding all_below
below-front zero f = sym (and-true (f 0))
below-front (suc n) f = rw (below-front n f) (and_assoc (f 0) (all_below n (λ i. f (suc i))) (f (suc n)))

listed-below : (n a : ℕ) (f g : ℕ → Bool) → ((i : ℕ) → f (a + i) ≡ g i) → list_all f (range_with_len a n) ≡ all_below n g
unfolding all_below
listed-below zero a f g h = refl
listed-below (suc n) a f g h =
    let e : a ≡ a + 0 = omega arith in
    ap₂ (λ (b c : Bool). b && c) (ap f e ∙ h 0) (listed-below n (a + 1) f (λ i. g (suc i)) (λ i. (let d : a + 1 + i ≡ a + suc i = omega arith in rw d (h (suc i))))) ∙ sym (below-front n g)

pub below_from_all : {F : Type 0} {g : Mut F (ℕ × Unit {0}) Bool} {s : Range ℕ} (n : ℕ) (test : ℕ → Bool) (u : Range ℕ) (f : F) (r : Bool)
    → (xs : List ℕ) × (o : Option ℕ) × (j : F) × YieldsThen nat_range_steps s xs o u × FoldsTo (λ p x q. Called g p (x, tt) true q) f xs j
    × MatchOption o (r ≡ true) (λ x. (r ≡ false) × ((h : F) × Called g j (x, tt) false h))
    → s ≡ record { start = 0; end = n } → ((x : ℕ) (b : Bool) (q : F) → Called g f (x, tt) b q → (q ≡ f) × (b ≡ test x)) → r ≡ all_below n test
below_from_all n test u f r ran e step =
    let d : n - 0 ≡ n = omega arith in
    all_from_yields_List test u f r ran (YieldsList-from_range 0 n n e d) step ∙ listed-below n 0 test test (λ i. (let z : 0 + i ≡ i = omega arith in ap test z))
