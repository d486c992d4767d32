-- One firing, link by link: what it emits is there, what it took is gone, every other link is as it was. Assumes that the links of the
-- tokens taken are different from each other, and those of the tokens emitted too.
use Rattle.std.specs.Prelude.{ℕ, ◌≡◌, List, [], ◌∷◌}
use Rattle.std.proofs.Math.Option.{none}
use Rattle.network.specs.Net.{Token, Demand, Links, Able, act}
use Rattle.theory_pieces.specs.Load.{Load, opt, set_link, put, On}
use Rattle.theory_pieces.specs.LoadSets.{Mem}
use Rattle.theory_pieces.specs.Goes.{Net, one_place}
use Rattle.theory_pieces.specs.Gate.{Distinct, emitted, Consumes}

-- The tokens of a load wait on their links.
abbrev pub Wait : Load → Links → Type 0
Wait [] s = Unit {0}
Wait (x ∷ xs) s = (s x.0 ≡ opt x.1) × Wait xs s

abbrev pub cleared : Load → Load
cleared [] = []
cleared (x ∷ xs) = (x.0, none) ∷ cleared xs
