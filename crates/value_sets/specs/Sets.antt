-- The values of a set in the byte form (value's specs/Bytes), five bytes a value: document 01, "12 a set with another number of values than
-- inputs, a bad value field"; document 02, Job 6, "Sets with another kind are refused with 12". The kinds are the letters of the kinds line, one an
-- input. Push tests by it and direct evaluation reads by it. Assumes nothing.
use Prim.Native.Nat.{ℕ, ◌+◌, ◌*◌, ◌<◌}
use Rattle.std.specs.Prelude.{◌≡◌, Bool}
use Rattle.std.proofs.Math.Bool.{true, false}
use mathlib.Core.List.{List, [], ◌∷◌}
use Rattle.std.proofs.Math.Option.{Option, some, none}
use Rattle.std.proofs.Math.Dec.{eqb}
use Rattle.std.proofs.Math.ListN.{length, get_or, drop}
use Rattle.value.specs.declared.Value.{Value}
use Rattle.value.specs.Operators.{pick}
use Rattle.value.specs.Bytes.{InRange, value_of, word_of, word_at}
use Rattle.value.specs.Senses.{err}
use Rattle.value.specs.Kinds.{suits, kind_of_letter, of_kind}

abbrev pub consed : Value → Option (List Value) → Option (List Value)
consed v (some vs) = some (v ∷ vs)
consed v none = none

abbrev pub joined : Option Value → Option (List Value) → Option (List Value)
joined (some v) rest = consed v rest
joined none rest = none

-- The values of a set from a place on, each of the kind of its letter or an err.
unfoldable pub values_from : List ℕ → ℕ → List ℕ → Option (List Value)
unfolding value_of word_at of_kind
values_from [] at set = some []
values_from (k ∷ kinds) at set = joined (of_kind k (value_of (word_at set at))) (values_from kinds (at + 5) set)

-- The values of a set with as many letters of kinds as inputs, or none where it is no such set.
unfoldable pub set_values : List ℕ → List ℕ → Option (List Value)
unfolding values_from
set_values kinds set = pick (eqb (length set) (5 * length kinds)) (values_from kinds 0 set) none

abbrev pub all_some : Option (List Value) → Bool
all_some (some vs) = true
all_some none = false

-- Whether a set has values of these kinds, or errs.
unfoldable pub set_ok : List ℕ → List ℕ → Bool
unfolding set_values
set_ok kinds set = all_some (set_values kinds set)

-- Field j of a set, where it is of its kind or an err.
abbrev pub field_in : List ℕ → List ℕ → ℕ → Option Value
field_in kinds set j = of_kind (get_or kinds j 0) (value_of (word_at set (5 * j)))

-- Whether the values from i on are some.
unfoldable pub later_some : List ℕ → ℕ → List ℕ → Bool
later_some kinds i set = all_some (values_from (drop i kinds) (5 * i) set)

-- ---- the values
abbrev pub Suits : List ℕ → List Value → ℕ → Type 0
Suits kinds v j = suits (kind_of_letter (get_or kinds j 0)) (get_or v j err) ≡ true

-- The values of fields from a place on: each field holds its value's word, and the value is of its kind or an err.
pub record Fields (kinds : List ℕ) (at : ℕ) (s : List ℕ) (v : List Value) : Type 0 where
  pub count : length v ≡ length kinds
  pub ranged : (j : ℕ) → j < length kinds → InRange (get_or v j err)
  pub words : (j : ℕ) → j < length kinds → word_at s (at + 5 * j) ≡ word_of (get_or v j err)
  pub suit : (j : ℕ) → j < length kinds → Suits kinds v j

-- The bytes of a set of values of these kinds.
pub record IsSet (kinds s : List ℕ) (v : List Value) : Type 0 where
  pub values : set_values kinds s ≡ some v
  pub count : length v ≡ length kinds
  pub ranged : (j : ℕ) → j < length kinds → InRange (get_or v j err)
  pub words : (j : ℕ) → j < length kinds → word_at s (5 * j) ≡ word_of (get_or v j err)
  pub suit : (j : ℕ) → j < length kinds → Suits kinds v j
