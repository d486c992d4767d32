-- How many operators and links a graph of the assembly language has, by its parts (formula/specs/Count has the same for formulas), and that
-- its layout has just so many: the list of its operators is so long, and its own links are so many. At most three links an operator.
-- Assumes a fit graph for the operators.
use Rattle.std.specs.Prelude.{ℕ, zero, suc, ◌+◌, ◌*◌, ◌-◌, ◌≤◌, ◌≡◌, refl, true, false, List, [], ◌∷◌, ◌++◌, length, drop, get_or}
use Rattle.names.specs.Names.{Names, common, without}
use Rattle.formula.specs.Count.{Count, ◌⊕◌, gates, copies}
use Rattle.graph.specs.Assembly.{Gate, const, oper, T, F, M, E, IC, Graph, wire, nothing, beside, bind, gate, loop, free, member_of, gate_outputs, Env, Operator, copies_for, sharing, shared_links, first_use, second_use, named, spread, chain, chain_ends, ring, total, listed, links_of, outputs, operators_of}
use Rattle.graph.specs.Fit.{Fit}

abbrev pub gate_count : Gate → Count
gate_count g = record { operators = 1; links = gate_outputs g }

-- Copies of the names that two parts share.
abbrev pub shared_count : Names → Names → Count
shared_count f g = copies (total (common f g))

unfoldable pub count_g : Graph → Count
unfolding free member_of total gate_outputs
count_g (wire x) = gates 0
count_g nothing = gates 0
count_g (beside a b) = shared_count (free a) (free b) ⊕ count_g a ⊕ count_g b
count_g (bind ns a b) = shared_count (free a) (without (free b) (member_of ns)) ⊕ count_g a ⊕ count_g b
count_g (gate g a) = count_g a ⊕ gate_count g
count_g (loop ns a b) =
    shared_count (free a) (without (free b) (member_of ns)) ⊕ count_g a ⊕ gates (total (free b)) ⊕ copies (total (free b) - 1) ⊕ count_g b
