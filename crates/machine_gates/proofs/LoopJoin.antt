-- Laws of specs/LoopJoin.antt, and what only they need.
use Rattle.std.specs.Prelude.{ℕ, ◌≤◌, ◌≡◌, refl, Bool, true, false, cond, not, ◌&&◌, List, [], ◌∷◌, Option, Some, None}
use Rattle.std.proofs.Common.{◌∙◌, inl, inr, arith}
use Rattle.value.specs.declared.Value.{Value}
use Rattle.value.specs.declared.Sense.{Sense}
use Rattle.value.specs.declared.Sense.TheVariants.{True, False, Neither}
use Rattle.value.specs.Senses.{sense}
use Rattle.network.specs.Rules.{as-truth}
use Rattle.machine_gates.specs.Decide.{is_true, counts_false, true_sense, false_sense, neither_sense, decide_at}
use Rattle.machine_gates.specs.Rows.{Row, table, holding, first_row}
use Rattle.machine_gates.specs.Gates.{ic_by}
use Rattle.machine_gates.proofs.Tables.{decide-IC}
use Rattle.machine_gates.specs.LoopJoin.{count, first, Among}

pub decided-by-row : (a b c g : Option Value) → decide_at 18 a b c g ≡ first_row table a b c g
unfolding ic_by
decided-by-row a b c g = decide-IC a b c g

-- "each able firing falls under exactly one": one row holds where the tokens make the gate able, none where they do not
pub exactly-one : (a b c g : Option Value) → holding table a b c ≡ cond (decide_at 18 a b c g).able 1 0
exactly-one a b c g = rw (decided-by-row a b c g) (go a b c)
  where
    by-second : (s : Sense) →
        count (true_sense s) (not (as-truth s)) false false false ≡ cond (first g (true_sense s) (not (as-truth s)) false false false).able 1 0
    by-second True = refl
    by-second False = refl
    by-second Neither = refl

    by-third : (s : Sense) →
        count false false (true_sense s) (not (as-truth s)) false ≡ cond (first g false false (true_sense s) (not (as-truth s)) false).able 1 0
    by-third True = refl
    by-third False = refl
    by-third Neither = refl

    by-control : (s : Sense) (b c : Option Value) →
        count (true_sense s && is_true b) (true_sense s && counts_false b) (false_sense s && is_true c) (false_sense s && counts_false c) (neither_sense s)
        ≡ cond (first g (true_sense s && is_true b) (true_sense s && counts_false b) (false_sense s && is_true c) (false_sense s && counts_false c) (neither_sense s)).able 1 0
    by-control True None c = refl
    by-control True (Some y) c = by-second (sense y)
    by-control False b None = refl
    by-control False b (Some z) = by-third (sense z)
    by-control Neither b c = refl

    go : (a b c : Option Value) → holding table a b c ≡ cond (first_row table a b c g).able 1 0
    go None b c = refl
    go (Some x) b c = by-control (sense x) b c

module _ (a b c g : Option Value) (r : Row) (e : r.holds a b c ≡ true) where
  some_holds : (rs : List Row) → Among r rs → 1 ≤ holding rs a b c
  some_holds (x ∷ rs) (inl p) = let o : ◌≡◌ {A = ℕ} (cond (x.holds a b c) 1 0) 1 = (rw (p, e) refl) in omega arith
  some_holds (x ∷ rs) (inr m) = let h = some_holds rs m in omega arith
  some_holds [] x' = elim x' [ ]

  that-row : (rs : List Row) → Among r rs → holding rs a b c ≤ 1 → first_row rs a b c g ≡ r.acts g
  that-row (x ∷ rs) (inl p) h = rw (p, e) refl
  that-row (x ∷ rs) (inr m) h = go (x.holds a b c) refl (λ k. that-row rs m k)
    where
      go : (t : Bool) → x.holds a b c ≡ t → (holding rs a b c ≤ 1 → first_row rs a b c g ≡ r.acts g) → first_row (x ∷ rs) a b c g ≡ r.acts g
      go true q ih = absurd (let o : ◌≡◌ {A = ℕ} (cond (x.holds a b c) 1 0) 1 = (rw q refl) in omega (arith, h, some_holds rs m))
      go false q ih = let o : ◌≡◌ {A = ℕ} (cond (x.holds a b c) 1 0) 0 = (rw q refl) in rw q (ih (omega (arith, h)))
  that-row [] x'' h = elim x'' [ ]

pub at_most_one : (a b c g : Option Value) → holding table a b c ≤ 1
at_most_one a b c g = go (decide_at 18 a b c g).able (exactly-one a b c g)
  where
    go : (t : Bool) → holding table a b c ≡ cond t 1 0 → holding table a b c ≤ 1
    go true e = omega (arith, e)
    go false e = omega (arith, e)

-- whichever row holds, what is decided is its own
pub decided-by-that-row : (a b c g : Option Value) (r : Row) → Among r table → r.holds a b c ≡ true → decide_at 18 a b c g ≡ r.acts g
decided-by-that-row a b c g r m e = decided-by-row a b c g ∙ that-row a b c g r e table m (at_most_one a b c g)
