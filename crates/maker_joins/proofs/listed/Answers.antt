use Prim.Native.Nat.{ℕ}
use mathlib.Core.Path.{ap, ◌∙◌}
use mathlib.Core.List.{List, ◌++◌}
use lib.ListN.{take}
use Rattle.maker_joins.proofs.listed.Goals as goal

pub returns : goal.returns
returns c = c.join.ensures ∙ ap (λ (t : List ℕ). t ++ take c.args.b.count c.args.b.outs) c.join-front.ensures
