-- The tidied sheet has the same formula, which document 02 does not ask for: a club that tidies keeps its verdicts. The way there: every kept row, read
-- in an expression place or in a body place, is the same tree under its new number.
use Rattle.std.specs.Prelude.{ℕ, zero, suc, ◌≤◌, ◌<◌, ◌≡◌, true, List, Ok}
use Rattle.std.proofs.Math.Path.{refl, ap}
use Rattle.std.proofs.Common.{sym, ◌∙◌, inl, inr, arith}
use Rattle.formula.specs.declared.Shape.{Shape}
use Rattle.formula.specs.declared.Shape.TheVariants.{Identifier, Constant, Pair, Operator, Let, If, For, Iter}
use Rattle.formula.specs.Sheet.{row_count, fields_of, shape_at, named_in}
use Rattle.formula.specs.Tree.{Exp, Body, ret, exp_node, body_node, exp_of, body_of, formula_of}
use Rattle.formula.specs.TreeLaws.{Named}
use Rattle.formula.proofs.TreeLaws.{exp-at, body_at}
use Rattle.formula.specs.FaultRows.{Among}
use Rattle.sheet_tidied.specs.Tidy.{is_kept, new_number, tidied}
use Rattle.sheet_read.specs.Reading.{row_verdict}
use Rattle.sheet_tidied.proofs.KeptLaws.{last-kept, kept-names, between-among}
use Rattle.sheet_tidied.proofs.NumberLaws.{number-first, number-rises}
use Rattle.sheet_tidied.specs.ShapeLaws.{renumbered}
use Rattle.sheet_tidied.specs.Rowwise.{Rowwise}
use Rattle.sheet_tidied.proofs.Rowwise.{passes-rowwise, naming}
use Rattle.sheet_tidied.specs.Tidied.{kept_in}
use Rattle.sheet_tidied.proofs.Tidied.{new-count, new-shape, tidied-rowwise}

-- A row whose named rows are the same trees under their new numbers is the same tree.
module _ (f : ℕ → ℕ) (E E' : ℕ → Exp) (B B' : ℕ → Body) where
  abbrev pub Same : List ℕ → Type 0
  Same l = (x : ℕ) → Among x l → (E' (f x) ≡ E x) × (B' (f x) ≡ B x)

  pub exp-same : (s : Shape) → Same (named_in s) → exp_node E' B' (renumbered f s) ≡ exp_node E B s
  unfolding exp_node renumbered named_in
  exp-same (Identifier a) h = refl
  exp-same (Constant k a) h = refl
  exp-same (Pair a b) h = cc ((h a (inl refl)).0, (h b (inr (inl refl))).0)
  exp-same (Operator a b) h = cc (h b (inl refl)).0
  exp-same (Let a b c d) h = cc ((h c (inl refl)).0, (h d (inr (inl refl))).0)
  exp-same (If a b c) h = cc ((h a (inl refl)).0, (h b (inr (inl refl))).0, (h c (inr (inr (inl refl)))).0)
  exp-same (For a b c d) h = cc ((h c (inl refl)).0, (h d (inr (inl refl))).1)
  exp-same (Iter a) h = (h a (inl refl)).0

  pub body_same : (s : Shape) → Same (named_in s) → body_node E' B' (renumbered f s) ≡ body_node E B s
  unfolding body_node renumbered named_in
  body_same (Identifier a) h = refl
  body_same (Constant k a) h = refl
  body_same (Pair a b) h = ap ret (exp-same (Pair a b) h)
  body_same (Operator a b) h = ap ret (exp-same (Operator a b) h)
  body_same (Let a b c d) h = cc ((h c (inl refl)).0, (h d (inr (inl refl))).1)
  body_same (If a b c) h = cc ((h a (inl refl)).0, (h b (inr (inl refl))).1, (h c (inr (inr (inl refl)))).1)
  body_same (For a b c d) h = ap ret (exp-same (For a b c d) h)
  body_same (Iter a) h = cc (h a (inl refl)).0

module _ (s : List ℕ) (ok : Rowwise s) where
  abbrev t : List ℕ
  t = fields_of s

  abbrev u : List ℕ
  u = fields_of (tidied s)

  abbrev f : ℕ → ℕ
  f x = new_number (kept_in s) x

  same-trees : (depth r : ℕ) → r < depth → 1 ≤ r → r ≤ row_count s → is_kept (kept_in s) r ≡ true → (exp_of u (f r) ≡ exp_of t r) × (body_of u (f r) ≡ body_of t r)
  same-trees zero r d l h k = absurd (omega arith)
  same-trees (suc depth) r d l h k = (
    exp-at u (row_count (tidied s)) new (f r) low high ∙ ap (exp_node (exp_of u) (body_of u)) shape
        ∙ exp-same f (exp_of t) (exp_of u) (body_of t) (body_of u) (shape_at t r) (below (same-trees depth)) ∙ sym (exp-at t (row_count s) old r l h),
    body_at u (row_count (tidied s)) new (f r) low high ∙ ap (body_node (exp_of u) (body_of u)) shape
        ∙ body_same f (exp_of t) (exp_of u) (body_of t) (body_of u) (shape_at t r) (below (same-trees depth)) ∙ sym (body_at t (row_count s) old r l h),
  )
    where
      old : Named t (row_count s)
      old = naming s ok

      new : Named u (row_count (tidied s))
      new = naming (tidied s) (tidied-rowwise s ok)

      low : 1 ≤ f r
      low = number-first (kept_in s) r l k

      high : f r ≤ row_count (tidied s)
      high = omega (arith, number-rises (kept_in s) r (row_count s) h, new-count s ok)

      shape : shape_at u (f r) ≡ renumbered f (shape_at t r)
      shape = new-shape s ok r l h k

      below : ((q : ℕ) → q < depth → 1 ≤ q → q ≤ row_count s → is_kept (kept_in s) q ≡ true → (exp_of u (f q) ≡ exp_of t q) × (body_of u (f q) ≡ body_of t q))
          → (x : ℕ) → Among x (named_in (shape_at t r)) → (exp_of u (f x) ≡ exp_of t x) × (body_of u (f x) ≡ body_of t x)
      below ih x a =
          let i = between-among r x (named_in (shape_at t r)) (old.names r l h) a in
          ih x (omega (arith, i.1)) i.0 (omega (arith, i.1)) (kept-names t (row_count s) old ok.some r l h k x a)

-- The new sheet's formula is the sheet's.
pub tidied-formula : (s : List ℕ) → row_verdict s ≡ Ok tt → formula_of (tidied s) ≡ formula_of s
unfolding formula_of
tidied-formula s h =
    let ok = passes-rowwise s h in
    ap (exp_of (fields_of (tidied s))) (new-count s ok)
    ∙ (same-trees s ok (suc (row_count s)) (row_count s) (omega arith) ok.some (omega arith) (last-kept (fields_of s) (row_count s) (naming s ok) ok.some)).0
