-- Claims for the parts of a translated formula (graph/specs/Translation): constants, rows of gates, an arm behind its gates, an if. Assumes nothing.
use Rattle.std.specs.Prelude.{ℕ, zero, suc, ◌+◌, ◌<◌, ◌≡◌, Bool, length}
use Rattle.std.proofs.Math.Bool.{cond}
use mathlib.Core.List.{List, [], ◌∷◌, ◌++◌}
use Rattle.value.specs.declared.Value.{Value}
use Rattle.names.specs.Names.{Names, members, trigger}
use Rattle.network.specs.Values.{err-value}
use Rattle.graph.specs.Assembly.{Graph, wire, T, F, gate_outputs, member_of, up_from}
use Rattle.graph.specs.Fit.{gate_inputs}
use Rattle.graph.specs.Translation.{test_name, row, gated, arm, merged, excepted, merge_row, except_row, straight, copied, constant_of}
use Rattle.theory_yields.specs.Choice.{choice}
use Rattle.theory_claims.specs.Claims.{Claims}

-- ---- names bound anew
-- The names of a list have the claims of a table, the others their own.
unfoldable pub over : List ℕ → Claims → Claims → Claims
unfolding member_of
over ns R C k = cond (member_of ns k) (R k) (C k)
