-- Document 01, "Said by what was handed in" and "Said by how the machine stands": the number of each refusal; 15 and 16 are document 02's, Job 3, 17 and 18 Job 6, 19, 37 and 38 Job 12, 20 and 21 Job 13, 22 and 23 Job 14.
use Rattle.std.specs.Prelude.{ℕ, ◌≤◌}
use Rattle.formula.specs.declared.Refusal.{Refusal}
use Rattle.formula.specs.declared.Refusal.TheVariants.{Layout, Rows, Malformed, Range, Naming, Named, StrayIter, Width, Unused, Operators, Memory, Set, SetFile, Capacity, LogLine, LogRefused, KindsLine, KindsBroken, Loop, Sort, Movement, Unlisted, LastListed, Altered, Untaken, Full, NotAble, NoResult, Unfinished, NoTag, NoTagResult}

abbrev pub number_of : Refusal → ℕ
number_of Layout = 1
number_of Rows = 2
number_of Malformed = 3
number_of Range = 4
number_of Naming = 5
number_of Named = 6
number_of StrayIter = 7
number_of Width = 8
number_of Unused = 9
number_of Operators = 10
number_of Memory = 11
number_of Set = 12
number_of SetFile = 13
number_of Capacity = 14
number_of LogLine = 15
number_of LogRefused = 16
number_of KindsLine = 17
number_of KindsBroken = 18
number_of Loop = 19
number_of Sort = 20
number_of Movement = 21
number_of Unlisted = 22
number_of LastListed = 23
number_of Altered = 31
number_of Untaken = 32
number_of Full = 33
number_of NotAble = 34
number_of NoResult = 35
number_of Unfinished = 36
number_of NoTag = 37
number_of NoTagResult = 38
