-- A row of a body by what its place asks of it (document 01, "Body places are .. of a row in a body place, d of a let and b, c of an if"; "a body
-- ends in an expression or an iter"). Assumes nothing.
use Rattle.formula.specs.declared.Shape.{Shape}
use Rattle.formula.specs.declared.Shape.TheVariants.{Identifier, Constant, Pair, Operator, Let, If, For, Iter}
use Rattle.formula.specs.declared.Way.{Way}
use Rattle.formula.specs.declared.Way.TheVariants.{Let as let-way, If as if-way, Iter as iter-way, End}

abbrev pub way_of : Shape → Way
way_of (Identifier a) = End
way_of (Constant k a) = End
way_of (Pair a b) = End
way_of (Operator a b) = End
way_of (Let a b c d) = let-way a b c d
way_of (If a b c) = if-way a b c
way_of (For a b c d) = End
way_of (Iter a) = iter-way a
