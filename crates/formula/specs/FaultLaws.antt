-- The rows at fault at a row in terms of those at the rows that it names, with no depth in it. Rests on test 5: a row names only rows
-- from 1 to the one before it.
use Prim.Native.Nat.{ℕ, zero, suc, ◌≤◌, ◌<◌}
use Rattle.std.specs.Prelude.{◌≡◌, refl, Bool, true, false}
use mathlib.Core.List.{List, [], ◌∷◌, ◌++◌}
use Rattle.formula.specs.Kinds.{Kinds, Rule}
use Rattle.formula.specs.Faults.{faults_in}

-- Row r and the rows below it that break the rule.
abbrev pub faults_at : Rule → List ℕ → Bool → Kinds → ℕ → List ℕ
faults_at rule t in_body kinds r = faults_in rule r t in_body kinds r
