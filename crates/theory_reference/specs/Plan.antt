-- A graph laid out, and the statement of the schedule lemma about it. A plan has the names of its inputs with their links, its own links, an
-- interval, and its outputs; the registers of its loops' gates lie as far above them as `registers` says.
-- Between two sets every own link is empty, except that each gate of a loop is ready: it has never fired and its control link is empty, or it
-- has fired and its control link holds just one false. All is said of states link by link; no order of links or operators appears.
use Rattle.std.specs.Prelude.{ℕ, ◌+◌, ◌≤◌, ◌<◌, ◌≡◌, refl, ◌⊎◌, true, List, [], ◌∷◌, ◌++◌, length}
use Rattle.std.proofs.Math.Option.{Option}
use Rattle.value.specs.declared.Value.{Value}
use Rattle.names.specs.Names.{Names}
use Rattle.network.specs.Values.{false-value}
use Rattle.network.specs.Net.{Token, val, mark, Links}
use Rattle.network.specs.Uses.{In}
use Rattle.theory_pieces.specs.Load.{opt}
use Rattle.theory_pieces.specs.Goes.{Net}
use Rattle.theory_pieces.specs.Piece.{token-of}
use Rattle.theory_pieces.specs.Sets.{Different}
use Rattle.graph.specs.Assembly.{Env, name_count}
use Rattle.graph.specs.Yields.{Values, Answer}
use Rattle.theory_reference.specs.Plugged.{nowhere, registers}

-- What lies on a link: nothing, or one value.
abbrev pub tokens : Option Value → List Token
tokens v = opt (token-of v)

-- Values on links, as many of the one as of the other.
abbrev pub Hold : List ℕ → List (Option Value) → Links → Type 0
Hold [] [] s = Unit {0}
Hold [] (v ∷ vs) s = ⊥
Hold (l ∷ ls) [] s = ⊥
Hold (l ∷ ls) (v ∷ vs) s = (s l ≡ tokens v) × Hold ls vs s

-- The values of names on their links.
abbrev pub Laid : Names → Env → Values → Links → Type 0
Laid f env ρ s = (x : ℕ) → f x ≡ true → s (env x) ≡ tokens (ρ x)

-- The k numbers from n on.
abbrev pub Between : ℕ → ℕ → ℕ → Type 0
Between n k l = (n ≤ l) × (l < n + k)

pub record Plan : Type 1 where
  pub names : Names
  pub start : ℕ
  pub size : ℕ
  pub env : Env
  pub outs : List ℕ
  -- the gates of its loops: control link and register link
  pub Ring : ℕ → ℕ → Type 0

abbrev pub Own : Plan → ℕ → Type 0
Own P l = Between P.start P.size l

abbrev pub Register : Plan → ℕ → Type 0
Register P l = Between (registers + P.start) P.size l

abbrev pub Port : Plan → ℕ → Type 0
Port P l = (x : ℕ) × (P.names x ≡ true) × (l ≡ P.env x)

abbrev pub Zone : Plan → ℕ → Type 0
Zone P l = Own P l ⊎ Port P l

abbrev pub Control : Plan → ℕ → Type 0
Control P l = (r : ℕ) × P.Ring l r

pub record Outside (P : Plan) (l : ℕ) : Type 0 where
  pub not_own : Own P l → ⊥
  pub not_register : Register P l → ⊥
  pub not-port : Port P l → ⊥

-- The links of names lie below all others and are different for different names.
pub record Envs (f : Names) (env : Env) (n : ℕ) : Type 0 where
  pub below : (x : ℕ) → f x ≡ true → env x < n
  pub differ : (x y : ℕ) → f x ≡ true → f y ≡ true → env x ≡ env y → x ≡ y
  pub small : (x : ℕ) → f x ≡ true → x < name_count

-- What every layout has.
pub record Sound (P : Plan) : Type 0 where
  pub envs : Envs P.names P.env P.start
  pub fits : P.start + P.size ≤ nowhere
  pub outs-zone : (l : ℕ) → In l P.outs → Zone P l
  pub outs-differ : Different P.outs
  pub ring-own : (c r : ℕ) → P.Ring c r → Own P c × Register P r
  pub ring-off : (c r : ℕ) → P.Ring c r → In c P.outs → ⊥

abbrev pub Ready : ℕ → ℕ → Links → Type 0
Ready c r s = ((s r ≡ mark ∷ []) × (s c ≡ [])) ⊎ ((v : Value) × (s r ≡ val v ∷ []) × (s c ≡ val false-value ∷ []))

pub record Before (P : Plan) (ρ : Values) (s : Links) : Type 0 where
  pub laid : Laid P.names P.env ρ s
  pub clear : (l : ℕ) → Own P l → (Control P l → ⊥) → s l ≡ []
  pub ready : (c r : ℕ) → P.Ring c r → Ready c r s
  pub void : s nowhere ≡ []

pub record After (P : Plan) (s s' : Links) (vs : List (Option Value)) : Type 0 where
  pub gives : Hold P.outs vs s'
  pub clear : (l : ℕ) → Zone P l → (Control P l → ⊥) → (In l P.outs → ⊥) → s' l ≡ []
  pub ready : (c r : ℕ) → P.Ring c r → Ready c r s'
  pub same : (l : ℕ) → Outside P l → s' l ≡ s l
