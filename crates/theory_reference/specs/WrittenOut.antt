-- States written out as loads: values laid on the links of names, values that lie on a list of links, and what lies on the links of a list but
-- for some of them.
use Rattle.std.specs.Prelude.{ℕ, ◌≤◌, ◌≡◌, refl, ◌⊎◌, true, List, [], ◌∷◌, length}
use Rattle.std.proofs.Math.Option.{Option, none, some}
use Rattle.value.specs.declared.Value.{Value}
use Rattle.network.specs.Net.{Token, Links}
use Rattle.network.specs.Uses.{In}
use Rattle.theory_pieces.specs.Load.{Load, opt, set_link, put, On}
use Rattle.theory_pieces.specs.Piece.{load}
use Rattle.theory_pieces.specs.Sets.{Different}
use Rattle.graph.specs.Assembly.{Env, member_of}
use Rattle.graph.specs.Yields.{Values, bound}
use Rattle.graph.specs.Fit.{Different as DifferentNames}

-- The links of names.
abbrev pub links-of : List ℕ → Env → List ℕ
links-of [] env = []
links-of (x ∷ ns) env = env x ∷ links-of ns env

-- No value for any name.
abbrev pub no-values : Values
no-values x = none

-- What lies on the links of a list but for those of another.
abbrev pub first_of : List Token → Option Token
first_of [] = none
first_of (t ∷ ts) = some t

abbrev pub kept : {A : Type 0} → Dec A → ℕ → Links → Load → Load
kept (yes p) l s σ = σ
kept (no p) l s σ = (l, first_of (s l)) ∷ σ
