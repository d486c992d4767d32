-- What joins the arms of an if yields (document 01, "The graph": "Its iterated results join by M on the second IC output where both arms iterate,
-- else pass straight. Its returned results .. join by M on the third output where both arms return, by E where one does; where neither does,
-- each is a copy of that third output"), by which arm gave its results, or neither.
use Rattle.std.specs.Prelude.{ℕ, ◌+◌, ◌<◌, ◌≡◌, refl, Bool, true, false, cond, ◌&&◌, List, length, get_or, replicate}
use Rattle.std.proofs.Math.Option.{none, some}
use Rattle.value.specs.declared.Value.{Value}
use Rattle.value.specs.declared.Sense.{Sense}
use Rattle.value.specs.declared.Sense.TheVariants.{True, False, Neither}
use Rattle.value.specs.Senses.{err, sense}
use Rattle.network.specs.Values.{true-value, false-value, err-value}
use Rattle.graph.specs.Yields.{Values, absent, present, YieldsIn}
use Rattle.graph.specs.Translation.{iterated_name, returned_name, join_name, merge_row, except_row, straight}

-- The names from s on have the values of a list, or none.
abbrev pub Hold : Values → ℕ → List Value → Type 0
Hold ρ s vs = (i : ℕ) → i < length vs → ρ (s + i) ≡ some (get_or vs i err)

abbrev pub Empty : Values → ℕ → ℕ → Type 0
Empty ρ s w = (i : ℕ) → i < w → ρ (s + i) ≡ none
