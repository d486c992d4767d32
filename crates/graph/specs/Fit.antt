-- Which graphs of the assembly language are fit to run: ports and names match in number, every bound name is used, so that no
-- token is left on a link without a taker, and a loop's body hands on no bare input. The translation of an admitted formula is
-- fit; the wiring and the schedule are proved for every fit graph.
use Rattle.std.specs.Prelude.{ℕ, suc, ◌≤◌, ◌<◌, ◌≡◌, true, false, cond, List, [], ◌∷◌, length, eqb}
use Rattle.value.specs.Operators.{operands}
use Rattle.names.specs.Names.{Names, none as noNames, one, union, common, without, size_from}
use Rattle.graph.specs.Assembly.{Gate, const, oper, T, F, M, E, IC, Graph, wire, nothing, beside, bind, gate, loop, free, member_of, total, name_count}
use Rattle.graph.specs.Yields.{output_count}

unfoldable pub gate_inputs : Gate → ℕ
unfolding operands
gate_inputs (const v) = 1
gate_inputs (oper k) = operands k
gate_inputs T = 2
gate_inputs F = 2
gate_inputs M = 3
gate_inputs E = 2
gate_inputs (IC both) = 3

-- The names whose own links are among a graph's outputs.
unfoldable pub bare : Graph → Names
unfolding member_of total size_from
bare (wire x) = one x
bare nothing = noNames
bare (beside a b) = union (bare a) (bare b)
bare (bind ns a b) =
    union (without (bare b) (member_of ns)) (cond (eqb (total (common (bare b) (member_of ns))) 0) noNames (bare a))
bare (gate g a) = noNames
bare (loop ns a b) = noNames

-- No name stands twice in a list, and each is a name of the language.
abbrev pub Different : List ℕ → Type 0
Different [] = Unit {0}
Different (x ∷ xs) = (x < name_count) × (member_of xs x ≡ false) × Different xs

abbrev pub Used : List ℕ → Graph → Type 0
Used ns b = (x : ℕ) → member_of ns x ≡ true → free b x ≡ true

abbrev pub Fit : Graph → Type 0
Fit (wire x) = x < name_count
Fit nothing = Unit {0}
Fit (beside a b) = Fit a × Fit b
Fit (bind ns a b) = Fit a × Fit b × (output_count a ≡ length ns) × Different ns × Used ns b
Fit (gate g a) = Fit a × (output_count a ≡ gate_inputs g)
Fit (loop ns a b) =
    Fit a × Fit b × (output_count a ≡ length ns) × Different ns × Used ns b
    × (suc (length ns) ≤ output_count b) × (2 ≤ total (free b)) × ((x : ℕ) → bare b x ≡ false)
