-- "write .. the next one" (document 02, Job 14): what is given is the least small sheet behind the one handed in, 22 comes for a sheet that is neither
-- empty nor small, 23 for the last one, and from an empty memory the calls list each small sheet once.
use Rattle.std.specs.Prelude.{ℕ, ◌≡◌, refl, ◌⊎◌, ◌↔◌, Bool, true, false, cond, List, [], ◌∷◌}
use Rattle.formula.specs.FaultRows.{Among}
use Rattle.sheet_tidied.specs.Text.{sheet_text}
use Rattle.sheet_listed.specs.Small.{is_small, precedes}
use Rattle.sheet_listed.specs.Rising.{Precedes}

-- ---- what stands behind g in an ordered list
pub record Least (l : List (List ℕ)) (g y : List ℕ) : Type 0 where
  pub given : Among g l
  pub listed : Among y l
  pub behind : Precedes g y
  pub least : (u : List ℕ) → Among u l → Precedes g u → (u ≡ y) ⊎ Precedes y u

-- The sheet y is the least small one behind g.
pub record Succeeds (g y : List ℕ) : Type 0 where
  pub given : (g ≡ []) ⊎ (is_small g ≡ true)
  pub small : is_small y ≡ true
  pub behind : precedes g y ≡ true
  pub least : (u : List ℕ) → is_small u ≡ true → precedes g u ≡ true → (u ≡ y) ⊎ (precedes y u ≡ true)

-- The sheet g is the last small one.
pub record Last (g : List ℕ) : Type 0 where
  pub small : is_small g ≡ true
  pub alone : (u : List ℕ) → is_small u ≡ true → precedes g u ≡ true → ⊥
