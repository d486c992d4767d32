-- What a run does (document 01, "Running": "Run fires the least-numbered able operator, up to a lent number of firings, and gives a count .. It is below
-- the number only when nothing can fire."), shown of the definition in Running. Assumes nothing.
use Prim.Native.Nat.{ℕ, zero, suc, ◌+◌, ◌≤◌, ◌<◌}
use Rattle.std.specs.Prelude.{◌≡◌, []}
use Rattle.std.proofs.Math.Option.{Option, none, some}
use Rattle.network.specs.Net.{Links, Able, act}
use Rattle.theory_pieces.specs.Tape.{Step, firing}
use Rattle.formula.specs.Tree.{Exp}
use Rattle.graph.specs.Translation.{made_of}

abbrev pub Is-none : Option ℕ → Type 0
Is-none none = Unit {0}
Is-none (some a) = ⊥

abbrev pub number : Option ℕ → ℕ
number none = 0
number (some a) = a
