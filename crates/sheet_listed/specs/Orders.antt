-- "Fewer rows come first, then rising bytes" (document 02, Job 14) is an order: no sheet precedes itself, what precedes passes on, and of two sheets with
-- whole rows that differ one precedes the other. Assumes nothing.
use Rattle.std.specs.Prelude.{ℕ, ◌*◌, ◌<◌, ◌≡◌, refl, ◌⊎◌, Bool, true, false, ◌&&◌, ◌||◌, List, [], ◌∷◌, ◌++◌, eqb, ltb, length}
use Rattle.formula.specs.Sheet.{row_count}

-- ---- two numbers in front of a later comparison
-- The test that both orders make: less, or equal and then the rest.
abbrev pub less_then : ℕ → ℕ → Bool → Bool
less_then x y later = ltb x y || (eqb x y && later)
