-- "either every pushed set has been taken, or the oldest untaken one has its whole result ready to take": the take that would be accepted hands out the oldest
-- untaken set's verdict, and its evaluation ends: where nothing can fire, nothing of it is left to do. It is demand 3 (Demand3) of the list with that take
-- behind it. Assumes an accepted start and nothing else.
use Rattle.std.specs.Prelude.{ℕ, ◌+◌, ◌≤◌, ◌<◌, ◌≡◌, refl, ◌⊎◌, cond, List, [], ◌∷◌, ◌++◌, length, get_or, take as first_of}
use Rattle.formula.specs.Faults.{letters_of}
use Rattle.formula.specs.Tree.{formula_of}
use Rattle.formula.specs.declared.Refusal.TheVariants.{NotAble}
use Rattle.formula.specs.Refusals.{number_of}
use Rattle.meaning.specs.Evaluate.{evaluation_of}
use Rattle.machine_layout.specs.Layout.{operators_of, size_of, need}
use Rattle.machine_calls.specs.Calls.{taken}
use Rattle.machine_start.specs.Start.{started}
use Rattle.demand.specs.MemoryCalls.{Result, result}
use Rattle.machine_start.specs.StartLaws.{accepted-start}

-- What a take hands out where it is accepted.
unfoldable pub handed_out : ℕ → List ℕ → List ℕ → Result
handed_out lent out m = result (taken (first_of lent m) out).answer.count (first_of 80 (taken (first_of lent m) out).out)
