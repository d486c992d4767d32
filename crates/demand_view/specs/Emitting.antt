-- What a firing does link by link, for the room it needs and the links it leaves (network/specs/Net, Fill, Firing): each of its changes looks at one
-- link alone, so what is elsewhere is as it was, and its tokens find room where the links had it before. Theory of links, no bytes.
-- Assumes of the operator that it names no link twice (`Own-links`).
use Rattle.std.specs.Prelude.{ℕ, ◌≤◌, ◌<◌, ◌≡◌, refl, ◌≢◌, Bool, true, false, List, [], ◌∷◌, ◌++◌, length}
use Rattle.std.proofs.Math.Option.{Option, none, some}
use Rattle.value.specs.declared.Value.{Value}
use Rattle.network.specs.Rules.{Kind, Register, Input, first, second, third}
use Rattle.network.specs.Net.{Token, val, Links, tail, pop, append, Room, appends}
use Rattle.network.specs.Fill.{Ports, input, register-token, emission, emissions, remembering, kept}
use Rattle.network.specs.Decide.{Taken, Decision}
use Rattle.network.specs.Firing.{pop-if, gone, Holds, Own-register, unregistered, carried, Room-for}
use Rattle.network.specs.FiringLinks.{Output, output1, output2, output3, output, Own-links}
use Rattle.network.specs.Ends.{capacities}

-- what is emitted, output by output
abbrev pub given_out : Ports → Decision → Links → Links
given_out p d q = appends (emission p.out3 d.give3) (appends (emission p.out2 d.give2) (appends (emission p.out1 d.give1) q))

-- A free place on the link of a port for what is given there.
abbrev pub Place : ℕ → Option ℕ → Option Value → Links → Type 0
Place capacity none v q = Unit {0}
Place capacity (some l) none q = Unit {0}
Place capacity (some l) (some v) q = length (q l) < capacity
