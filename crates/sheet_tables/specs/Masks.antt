-- Document 01, "Names free in a row" and test 9, for a table of masks: the mask of a row's free names from those of the rows
-- that it names, by u64 operators ("a u64 mask per row").
use Rattle.std.specs.Prelude.{ℕ, ◌+◌, ◌*◌, ◌-◌, ◌^◌, ◌≤◌, ◌<◌, Bool, true, false, cond, ◌&&◌, eqb}
use Rattle.std.specs.Int.Bits.{bit_and, bit_or}
use Rattle.std.specs.Int.Count.{ones}
use Rattle.formula.specs.declared.Shape.{Shape}
use Rattle.formula.specs.declared.Shape.TheVariants.{Identifier, Constant, Pair, Operator, Let, If, For, Iter}

-- The mask of the trigger.
abbrev pub trigger_mask : ℕ
trigger_mask = 4294967296

-- The mask of the identifiers a to a + k - 1.
abbrev pub range_mask : ℕ → ℕ → ℕ
range_mask a k = 2 ^ a * (2 ^ k - 1)

-- The names of m that are not the identifiers a to a + k - 1.
abbrev pub outside : ℕ → ℕ → ℕ → ℕ
outside m a k = bit_and m ((2 ^ 64 - 1) - range_mask a k)

-- A row in an expression place; a let or an if in a body place has its names in the same way, and an iter its constant's.
unfoldable pub plain_mask : (ℕ → ℕ) → Shape → ℕ
plain_mask M (Identifier a) = 2 ^ a
plain_mask M (Constant k a) = trigger_mask
plain_mask M (Pair x y) = bit_or (M x) (M y)
plain_mask M (Operator k x) = M x
plain_mask M (Let a k x y) = bit_or (M x) (outside (M y) a k)
plain_mask M (If x y z) = bit_or (M x) (bit_or (M y) (M z))
plain_mask M (For a k x y) = bit_or (M x) (outside (M y) a k)
plain_mask M (Iter x) = bit_or trigger_mask (M x)

-- Whether a row of this kind, in a body place, is a returned expression.
abbrev pub is_returned : Shape → Bool
is_returned (Identifier a) = true
is_returned (Constant k a) = true
is_returned (Pair x y) = true
is_returned (Operator k x) = true
is_returned (Let a k x y) = false
is_returned (If x y z) = false
is_returned (For a k x y) = true
is_returned (Iter x) = false

-- A returned expression has the trigger for its false constant.
abbrev pub mask_by : Bool → (ℕ → ℕ) → Shape → ℕ
mask_by b M s = cond (b && is_returned s) (bit_or trigger_mask (plain_mask M s)) (plain_mask M s)

-- Test 9: how many of the identifiers a to a + k - 1 are missing from m.
abbrev pub missing : ℕ → ℕ → ℕ → ℕ
missing m a k = ones (bit_and (range_mask a k) ((2 ^ 64 - 1) - m))

unfoldable pub bound_by : (ℕ → ℕ) → Shape → Bool
bound_by M (Identifier a) = true
bound_by M (Constant k a) = true
bound_by M (Pair x y) = true
bound_by M (Operator k x) = true
bound_by M (Let a k x y) = eqb (missing (M y) a k) 0
bound_by M (If x y z) = true
bound_by M (For a k x y) = eqb (missing (M y) a k) 0
bound_by M (Iter x) = true

-- What test 4 says of a row's identifiers, by its shape.
abbrev pub Ranged : Shape → Type 0
Ranged (Identifier a) = a < 32
Ranged (Constant k a) = Unit {0}
Ranged (Pair x y) = Unit {0}
Ranged (Operator k x) = Unit {0}
Ranged (Let a k x y) = a + k ≤ 32
Ranged (If x y z) = Unit {0}
Ranged (For a k x y) = a + k ≤ 32
Ranged (Iter x) = Unit {0}
