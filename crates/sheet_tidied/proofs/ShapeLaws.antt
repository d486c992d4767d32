-- Laws of specs/ShapeLaws.antt, and what only they need.
use Rattle.std.specs.Prelude.{ℕ, ◌+◌, ◌≤◌, ◌<◌, ◌≡◌, Bool, false, cond, ◌&&◌, [], ◌∷◌, map, eqb}
use Rattle.std.proofs.Math.Path.{refl}
use Rattle.std.proofs.Math.Logic.{inl, inr}
use Rattle.std.proofs.Math.Bool.{true}
use Rattle.std.proofs.lemmas.Bool.{false≢true}
use Rattle.std.proofs.Math.Dec.{leb}
use borrow.Author.Tests.{leb-true, le-leb, eqb-true}
use Rattle.std.proofs.Common.{arith}
use Rattle.formula.specs.declared.Shape.{Shape}
use Rattle.formula.specs.declared.Shape.TheVariants.{Identifier, Constant, Pair, Operator, Let, If, For, Iter}
use Rattle.formula.specs.Sheet.{shape_of, named_in}
use Rattle.formula.specs.Tests.{in_range}
use Rattle.formula.specs.TreeLaws.{AllBetween}
use Rattle.formula.proofs.TreeLaws.{and-true}
use Rattle.sheet_tidied.specs.Tidy.{renamed}
use Rattle.sheet_tidied.specs.TextLaws.{Row, five, row_shape, row_in_range}
use Rattle.sheet_tidied.specs.ShapeLaws.{renumbered, ConstantWithin, Within}

pub names-renumbered : (f : ℕ → ℕ) (s : Shape) → named_in (renumbered f s) ≡ map f (named_in s)
unfolding renumbered named_in
names-renumbered f (Identifier a) = refl
names-renumbered f (Constant kind a) = refl
names-renumbered f (Pair a b) = refl
names-renumbered f (Operator a b) = refl
names-renumbered f (Let a b c d) = refl
names-renumbered f (If a b c) = refl
names-renumbered f (For a b c d) = refl
names-renumbered f (Iter a) = refl

-- Test 4 passes whatever the rows named.
pub range-renamed : (f : ℕ → ℕ) (s : Shape) → Within s → row_in_range (renamed f s) ≡ true
unfolding renamed in_range
range-renamed f (Identifier a) h = rw (le-leb a 31 h) refl
range-renamed f (Constant kind a) (inl h) = rw (h.0, le-leb a 999999 h.1) refl
range-renamed f (Constant kind a) (inr (inl h)) = rw (h.0, le-leb a 1 h.1) refl
range-renamed f (Constant kind a) (inr (inr h)) = rw (h.0, le-leb a 999999 h.1) refl
range-renamed f (Pair a b) h = refl
range-renamed f (Operator a b) h = rw (le-leb 1 a h.0, le-leb a 11 h.1) refl
range-renamed f (Let a b c d) h = rw (le-leb 1 b h.0, le-leb (a + b) 32 h.1) refl
range-renamed f (If a b c) h = refl
range-renamed f (For a b c d) h = rw (le-leb 1 b h.0, le-leb (a + b) 32 h.1) refl
range-renamed f (Iter a) h = refl

-- The fields are read as the row with those numbers.
pub shape-renamed : (f : ℕ → ℕ) (s : Shape) → Within s → row_shape (renamed f s) ≡ renumbered f s
unfolding renamed renumbered shape_of
shape-renamed f (Identifier a) h = refl
shape-renamed f (Constant kind a) (inl h) = rw h.0 refl
shape-renamed f (Constant kind a) (inr (inl h)) = rw h.0 refl
shape-renamed f (Constant kind a) (inr (inr h)) = rw h.0 refl
shape-renamed f (Pair a b) h = refl
shape-renamed f (Operator a b) h = refl
shape-renamed f (Let a b c d) h = refl
shape-renamed f (If a b c) h = refl
shape-renamed f (For a b c d) h = refl
shape-renamed f (Iter a) h = refl

-- They fit six characters.
pub row-renamed : (f : ℕ → ℕ) (r : ℕ) → ((x : ℕ) → x < r → f x ≤ 999999) → (s : Shape) → Within s → AllBetween r (named_in s) → Row (renamed f s)
unfolding renamed named_in
row-renamed f r g (Identifier a) h n = five 1 a 0 0 0 (omega arith) (omega arith) (omega arith) (omega arith) (omega arith)
row-renamed f r g (Constant kind a) (inl h) n = five kind a 0 0 0 (omega arith) (omega arith) (omega arith) (omega arith) (omega arith)
row-renamed f r g (Constant kind a) (inr (inl h)) n = five kind a 0 0 0 (omega arith) (omega arith) (omega arith) (omega arith) (omega arith)
row-renamed f r g (Constant kind a) (inr (inr h)) n = five kind a 0 0 0 (omega arith) (omega arith) (omega arith) (omega arith) (omega arith)
row-renamed f r g (Pair a b) h n = five 4 (f a) (f b) 0 0 (omega arith) (g a n.0.1) (g b n.1.0.1) (omega arith) (omega arith)
row-renamed f r g (Operator a b) h n = five 5 a (f b) 0 0 (omega arith) (omega arith) (g b n.0.1) (omega arith) (omega arith)
row-renamed f r g (Let a b c d) h n = five 6 a b (f c) (f d) (omega arith) (omega arith) (omega arith) (g c n.0.1) (g d n.1.0.1)
row-renamed f r g (If a b c) h n = five 7 (f a) (f b) (f c) 0 (omega arith) (g a n.0.1) (g b n.1.0.1) (g c n.1.1.0.1) (omega arith)
row-renamed f r g (For a b c d) h n = five 8 a b (f c) (f d) (omega arith) (omega arith) (omega arith) (g c n.0.1) (g d n.1.0.1)
row-renamed f r g (Iter a) h n = five 9 (f a) 0 0 0 (omega arith) (g a n.0.1) (omega arith) (omega arith) (omega arith)

-- A row's fields depend on the numbers of the rows that it names alone.
pub renamed-alike : (r : ℕ) (f g : ℕ → ℕ) → ((x : ℕ) → 1 ≤ x → x < r → f x ≡ g x) → (s : Shape) → AllBetween r (named_in s) → renamed f s ≡ renamed g s
unfolding renamed named_in
renamed-alike r f g p (Identifier a) h = refl
renamed-alike r f g p (Constant k a) h = refl
renamed-alike r f g p (Pair a b) h = cc (p a h.0.0 h.0.1, p b h.1.0.0 h.1.0.1)
renamed-alike r f g p (Operator a b) h = cc (p b h.0.0 h.0.1)
renamed-alike r f g p (Let a b c d) h = cc (p c h.0.0 h.0.1, p d h.1.0.0 h.1.0.1)
renamed-alike r f g p (If a b c) h = cc (p a h.0.0 h.0.1, p b h.1.0.0 h.1.0.1, p c h.1.1.0.0 h.1.1.0.1)
renamed-alike r f g p (For a b c d) h = cc (p c h.0.0 h.0.1, p d h.1.0.0 h.1.0.1)
renamed-alike r f g p (Iter a) h = cc (p a h.0.0 h.0.1)

-- ---- what test 4 says of five fields
zeros-behind : (x : Bool) (c d : ℕ) → x && eqb c 0 && eqb d 0 ≡ true → (x ≡ true) × (c ≡ 0) × (d ≡ 0)
zeros-behind x c d h =
    let e = and-true (x && eqb c 0) (eqb d 0) h in
    let f = and-true x (eqb c 0) e.0 in
    (f.0, eqb-true c 0 f.1, eqb-true d 0 e.1)

module _ (kind a b c d : ℕ) where
  -- A row's shape that is within its range and has these fields.
  pub record Listed (s : Shape) : Type 0 where
    pub within : Within s
    pub fields : renamed (λ x. x) s ≡ kind ∷ a ∷ b ∷ c ∷ d ∷ []

  by_kind : (number : ℕ) (is : Bool) → eqb kind number ≡ is → {test rest : Bool} {shape other : Shape}
      → (kind ≡ number → test ≡ true → Listed shape) → (rest ≡ true → Listed other) → cond is test rest ≡ true → Listed (cond is shape other)
  by_kind number true e f g h = f (eqb-true kind number e) h
  by_kind number false e f g h = g h

  three-zeros : (x : Bool) → x && eqb b 0 && eqb c 0 && eqb d 0 ≡ true → (x ≡ true) × (b ≡ 0) × (c ≡ 0) × (d ≡ 0)
  three-zeros x h =
      let e = zeros-behind (x && eqb b 0) c d h in
      let f = and-true x (eqb b 0) e.0 in
      (f.0, eqb-true b 0 f.1, e.1, e.2)

  identifier-row : kind ≡ 1 → leb a 31 && eqb b 0 && eqb c 0 && eqb d 0 ≡ true → Listed (Identifier a)
  unfolding renamed
  identifier-row e h = let z = three-zeros (leb a 31) h in record { within = leb-true a 31 z.0; fields = cc }

  constant-row : (number most : ℕ) → kind ≡ number → (a ≤ most → ConstantWithin number a) → leb a most && eqb b 0 && eqb c 0 && eqb d 0 ≡ true → Listed (Constant number a)
  unfolding renamed
  constant-row number most e f h = let z = three-zeros (leb a most) h in record { within = f (leb-true a most z.0); fields = cc }

  pair_row : kind ≡ 4 → eqb c 0 && eqb d 0 ≡ true → Listed (Pair a b)
  unfolding renamed
  pair_row e h = let z = zeros-behind true c d h in record { within = tt; fields = cc }

  operator-row : kind ≡ 5 → leb 1 a && leb a 11 && eqb c 0 && eqb d 0 ≡ true → Listed (Operator a b)
  unfolding renamed
  operator-row e h =
      let z = zeros-behind (leb 1 a && leb a 11) c d h in
      let f = and-true (leb 1 a) (leb a 11) z.0 in
      record { within = (leb-true 1 a f.0, leb-true a 11 f.1); fields = cc }

  binds-well : leb 1 b && leb (a + b) 32 ≡ true → (1 ≤ b) × (a + b ≤ 32)
  binds-well h = let f = and-true (leb 1 b) (leb (a + b) 32) h in (leb-true 1 b f.0, leb-true (a + b) 32 f.1)

  let-row : kind ≡ 6 → leb 1 b && leb (a + b) 32 ≡ true → Listed (Let a b c d)
  unfolding renamed
  let-row e h = record { within = binds-well h; fields = cc }

  if-row : kind ≡ 7 → eqb d 0 ≡ true → Listed (If a b c)
  unfolding renamed
  if-row e h = let z = eqb-true d 0 h in record { within = tt; fields = cc }

  for-row : kind ≡ 8 → leb 1 b && leb (a + b) 32 ≡ true → Listed (For a b c d)
  unfolding renamed
  for-row e h = record { within = binds-well h; fields = cc }

  iter-row : kind ≡ 9 → eqb b 0 && eqb c 0 && eqb d 0 ≡ true → Listed (Iter a)
  unfolding renamed
  iter-row e h = let z = three-zeros true h in record { within = tt; fields = cc }

  -- A row that passes test 4 is within its range, and its shape has all of its fields.
  pub listed : in_range kind a b c d ≡ true → Listed (shape_of kind a b c d)
  unfolding in_range shape_of
  listed =
      by_kind 1 (eqb kind 1) refl identifier-row
      (by_kind 2 (eqb kind 2) refl (λ e. constant-row 2 999999 e (λ h. inl (refl, h)))
      (by_kind 3 (eqb kind 3) refl (λ e. constant-row 3 1 e (λ h. inr (inl (refl, h))))
      (by_kind 4 (eqb kind 4) refl pair_row
      (by_kind 5 (eqb kind 5) refl operator-row
      (by_kind 6 (eqb kind 6) refl let-row
      (by_kind 7 (eqb kind 7) refl if-row
      (by_kind 8 (eqb kind 8) refl for-row
      (by_kind 9 (eqb kind 9) refl iter-row
      (by_kind 10 (eqb kind 10) refl (λ e. constant-row 10 999999 e (λ h. inr (inr (refl, h))))
      (λ h. absurd (false≢true h)))))))))))
