-- Laws of rows that stand, one behind another: what standing says, that the tables of the first rows rest on those rows alone, fewer rows and none.
-- Assumes nothing.
use Prim.Native.Nat.{ℕ, ◌*◌, ◌≤◌, ◌<◌}
use mathlib.Core.Path.{◌≡◌, refl, sym, ap, subst, ◌∙◌}
use mathlib.Core.Bool.{true}
use mathlib.Core.List.{List}
use native.Mathlib.Omega.{arith}
use lib.Dec.{leb}
use lib.ListN.{length, take}
use lib.Seq.{get_or-take}
use borrow.Author.Tests.{leb-true}
use Rattle.names.specs.Names.{mask}
use Rattle.formula.specs.Sheet.{field, shape_at, named_in}
use Rattle.formula.specs.Tree.{Exp, exp_of}
use Rattle.formula.specs.Tests.{names_well}
use Rattle.formula.specs.Widths.{width}
use Rattle.formula.specs.Free.{free_e}
use Rattle.formula.specs.TreeLaws.{Named}
use Rattle.formula.proofs.TreeLaws.{and-true, all-between}
use Rattle.sheet_listed.specs.Search.{stands_at}
use Rattle.sheet_listed.specs.Texts.{field_row}
use Rattle.sheet_listed.specs.Standing.{Agree}
use Rattle.sheet_listed.proofs.Standing.{field_alike, exp-alike, stands_alike}
use Rattle.sheet_stands.specs.Fronts.{Content, Front}

-- ---- what standing says

pub record Stands (t : List ℕ) (r : ℕ) : Type 0 where
  pub kind : field t r 0 ≤ 7
  pub names : names_well t r ≡ true

pub stands-says : (t : List ℕ) (r : ℕ) → stands_at t r ≡ true → Stands t r
unfolding stands_at
stands-says t r h =
    let a = and-true (leb (field t r 0) 7) _ h in
    record { kind = leb-true (field t r 0) 7 a.0; names = (and-true (names_well t r) _ a.1).0 }

pub rows_named : (t : List ℕ) (i : ℕ) → ((r : ℕ) → 1 ≤ r → r ≤ i → names_well t r ≡ true) → Named t i
unfolding names_well
rows_named t i h = record { names = λ r a b. all-between r (named_in (shape_at t r)) (h r a b) }

-- ---- tables with the same first rows

pub agree-back : (i : ℕ) (t u : List ℕ) → Agree i t u → Agree i u t
agree-back i t u h k l = sym (h k l)

pub agree_then : (i : ℕ) (t u v : List ℕ) → Agree i t u → Agree i u v → Agree i t v
agree_then i t u v h j k l = h k l ∙ j k l

pub agree_less : (i j : ℕ) (t u : List ℕ) → j ≤ i → Agree i t u → Agree j t u
agree_less i j t u b h k l = h k (omega arith)

-- A table and its part.
pub agree-part : (i j : ℕ) (t : List ℕ) → i ≤ j → Agree i t (take (5 * j) t)
agree-part i j t b k l = sym (get_or-take (5 * j) t k 0 (omega arith))

module _ (t u : List ℕ) (i : ℕ) (same : Agree i t u) where
  pub row-alike : (r : ℕ) → 1 ≤ r → r ≤ i → field_row t r ≡ field_row u r
  row-alike r a b =
      let f : (j : ℕ) → j < 5 → field t r j ≡ field u r j = λ j c. field_alike t u i same r j a b c in
      rw (f 0 (omega arith), f 1 (omega arith), f 2 (omega arith), f 3 (omega arith), f 4 (omega arith)) refl

  module _ (stand : (r : ℕ) → 1 ≤ r → r ≤ i → stands_at t r ≡ true) where
    pub stand-alike : (r : ℕ) → 1 ≤ r → r ≤ i → stands_at u r ≡ true
    stand-alike r a b =
        sym (stands_alike t u r a (agree_less i r t u b same) (λ k c d. (stands-says t k (stand k c (omega arith))).names)) ∙ stand r a b

    tree-alike : (r : ℕ) → 1 ≤ r → r ≤ i → exp_of t r ≡ exp_of u r
    tree-alike = exp-alike t u i same (rows_named t i (λ r a b. (stands-says t r (stand r a b)).names))

  pub front-alike : (w m : List ℕ) → Front t w m i → Front u w m i
  front-alike w m h =
      record {
        content = λ r a b. subst Content (row-alike r a b) (h.content r a b);
        stand = stand-alike h.stand;
        widths = record { entry = λ r a b. h.widths.entry r a b ∙ ap width (tree-alike h.stand r a b) };
        masks = record { entry = λ r a b. h.masks.entry r a b ∙ ap (λ (x : Exp). mask (free_e x)) (tree-alike h.stand r a b) };
        widths-size = h.widths-size;
        masks-size = h.masks-size;
      }

-- ---- fewer rows, and none

pub front_less : (t w m : List ℕ) (i j : ℕ) → j ≤ i → Front t w m i → Front t w m j
front_less t w m i j l h =
    record {
      content = λ r a b. h.content r a (omega arith);
      stand = λ r a b. h.stand r a (omega arith);
      widths = record { entry = λ r a b. h.widths.entry r a (omega arith) };
      masks = record { entry = λ r a b. h.masks.entry r a (omega arith) };
      widths-size = h.widths-size;
      masks-size = h.masks-size;
    }

pub front-none : (t w m : List ℕ) → length w ≡ 5 → length m ≡ 5 → Front t w m 0
front-none t w m a b =
    record {
      content = λ r l u. absurd (omega arith);
      stand = λ r l u. absurd (omega arith);
      widths = record { entry = λ r l u. absurd (omega arith) };
      masks = record { entry = λ r l u. absurd (omega arith) };
      widths-size = a;
      masks-size = b;
    }
