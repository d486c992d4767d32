-- Laws of specs/Refusals.antt, and what only they need.
use Rattle.std.specs.Prelude.{◌≤◌}
use Rattle.std.proofs.Common.{arith}
use Rattle.formula.specs.declared.Refusal.{Refusal}
use Rattle.formula.specs.declared.Refusal.TheVariants.{Layout, Rows, Malformed, Range, Naming, Named, StrayIter, Width, Unused, Operators, Memory, Set, SetFile, Capacity, LogLine, LogRefused, KindsLine, KindsBroken, Loop, Sort, Movement, Unlisted, LastListed, Altered, Untaken, Full, NotAble, NoResult, Unfinished, NoTag, NoTagResult}
use Rattle.formula.specs.Refusals.{number_of}

-- 0 is no refusal's number: an answer of 0 is an acceptance.
pub number-positive : (r : Refusal) → 1 ≤ number_of r
number-positive Layout = omega arith
number-positive Rows = omega arith
number-positive Malformed = omega arith
number-positive Range = omega arith
number-positive Naming = omega arith
number-positive Named = omega arith
number-positive StrayIter = omega arith
number-positive Width = omega arith
number-positive Unused = omega arith
number-positive Operators = omega arith
number-positive Memory = omega arith
number-positive Set = omega arith
number-positive SetFile = omega arith
number-positive Capacity = omega arith
number-positive LogLine = omega arith
number-positive LogRefused = omega arith
number-positive KindsLine = omega arith
number-positive KindsBroken = omega arith
number-positive Loop = omega arith
number-positive Sort = omega arith
number-positive Movement = omega arith
number-positive Unlisted = omega arith
number-positive LastListed = omega arith
number-positive Altered = omega arith
number-positive Untaken = omega arith
number-positive Full = omega arith
number-positive NotAble = omega arith
number-positive NoResult = omega arith
number-positive Unfinished = omega arith
number-positive NoTag = omega arith
number-positive NoTagResult = omega arith
