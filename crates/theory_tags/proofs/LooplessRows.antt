-- The tree of a row has no for where no row has (document 01, "The formula sheet": row kind 8; document 02, Job 12: "for sheets without for"). Rests on test 5: a row
-- names only rows from 1 to the one before it.
use Prim.Native.Nat.{ℕ, zero, suc, ◌≤◌, ◌<◌}
use Rattle.std.proofs.Common.{sym, arith, ne_eqb}
use Rattle.std.proofs.Math.Path.{subst}
use Rattle.std.specs.Prelude.{◌≢◌, Bool, true, false, cond, List, eqb}
use Rattle.formula.specs.declared.Shape.{Shape}
use Rattle.formula.specs.Sheet.{row_count, fields_of, field, shape_of, shape_at, named_in}
use Rattle.formula.specs.Tree.{Exp, Body, exp_node, exp_in, exp_of, body_of, formula_of}
use Rattle.formula.specs.Tests.{names_well}
use Rattle.formula.specs.TreeLaws.{AllBetween, Named}
use Rattle.formula.proofs.TreeLaws.{all-between, exp-at}
use Rattle.formula.specs.Acceptance.{Admissible}
use Rattle.meaning.specs.Loopless.{Loopless}

-- ---- a row that is no for, where the rows that it names have none
module _ (r : ℕ) (E : ℕ → Exp) (B : ℕ → Body) (below : (k : ℕ) → 1 ≤ k → k < r → Loopless (E k)) where
  abbrev Passes : Shape → Type 0
  Passes s = AllBetween r (named_in s) → Loopless (exp_node E B s)

  either : (b : Bool) (x y : Shape) → Passes x → Passes y → Passes (cond b x y)
  either true x y p q = p
  either false x y p q = q

  loopless-node : (kind a b c d : ℕ) → kind ≢ 8 → Passes (shape_of kind a b c d)
  unfolding shape_of exp_node named_in
  loopless-node kind a b c d other =
      rw (ne_eqb kind 8 other)
      (either (eqb kind 1) _ _ (λ h. tt)
      (either (eqb kind 2) _ _ (λ h. tt)
      (either (eqb kind 3) _ _ (λ h. tt)
      (either (eqb kind 4) _ _ (λ h. (below a h.0.0 h.0.1, below b h.1.0.0 h.1.0.1))
      (either (eqb kind 5) _ _ (λ h. below b h.0.0 h.0.1)
      (either (eqb kind 6) _ _ (λ h. (below c h.0.0 h.0.1, below d h.1.0.0 h.1.0.1))
      (either (eqb kind 7) _ _ (λ h. (below a h.0.0 h.0.1, below b h.1.0.0 h.1.0.1, below c h.1.1.0.0 h.1.1.0.1))
      (either (eqb kind 9) _ _ (λ h. below a h.0.0 h.0.1)
      (either (eqb kind 10) _ _ (λ h. tt) (λ h. tt))))))))))

-- ---- every row
module _ (t : List ℕ) (n : ℕ) (named : Named t n) (without : (r : ℕ) → 1 ≤ r → r ≤ n → field t r 0 ≢ 8) where
  loopless-upto : (d r : ℕ) → r ≤ d → 1 ≤ r → r ≤ n → Loopless (exp_of t r)
  unfolding shape_at
  loopless-upto zero r h l u = absurd (omega arith)
  loopless-upto (suc d) r h l u =
      subst Loopless (sym (exp-at t n named r l u))
      (loopless-node r (exp_of t) (body_of t) (λ k a b. loopless-upto d k (omega arith) a (omega arith))
      (field t r 0) (field t r 1) (field t r 2) (field t r 3) (field t r 4) (without r l u) (named.names r l u))

  pub loopless-row : (r : ℕ) → 1 ≤ r → r ≤ n → Loopless (exp_of t r)
  loopless-row r l u = loopless-upto r r (omega arith) l u

pub rows_named : (s : List ℕ) → Admissible s → Named (fields_of s) (row_count s)
unfolding names_well
rows_named s ok = record { names = λ r l u. all-between r (named_in (shape_at (fields_of s) r)) (ok.names r l u) }

pub rows-loopless : (s : List ℕ) → Admissible s → ((r : ℕ) → 1 ≤ r → r ≤ row_count s → field (fields_of s) r 0 ≢ 8) → Loopless (formula_of s)
unfolding formula_of exp_of exp_in
rows-loopless s ok without = go (row_count s) (loopless-row (fields_of s) (row_count s) (rows_named s ok) without)
  where
    -- a sheet has a row, but of none the formula would be a constant
    go : (n : ℕ) → ((r : ℕ) → 1 ≤ r → r ≤ n → Loopless (exp_of (fields_of s) r)) → Loopless (exp_of (fields_of s) n)
    go zero each = tt
    go (suc n) each = each (suc n) (omega arith) (omega arith)
