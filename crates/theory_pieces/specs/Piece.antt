-- The schedule lemma as a statement (`Serves`), for every piece of a graph at any width: from any idle load and the values on its inputs, a
-- schedule to the values on its outputs with the piece idle again, or as many firings as anyone asks where the rounds do not suffice.
-- A piece is known by its links alone; no numbering and no translation appears. That the graph of a formula has it is proved in
-- crate reference (WholeGraph.antt).
use Rattle.std.specs.Prelude.{ℕ, ◌⊎◌, List, [], ◌∷◌, ◌++◌}
use Rattle.std.proofs.Math.Option.{Option, none, some}
use Rattle.value.specs.declared.Value.{Value}
use Rattle.network.specs.Net.{Token, val}
use Rattle.network.specs.Uses.{In}
use Rattle.theory_pieces.specs.Load.{Load, Within}

-- As many of the one as of the other: values for links, for gates, for names.
abbrev pub Fits : {X Y : Type 0} → List X → List Y → Type 0
Fits [] [] = Unit {0}
Fits [] (y ∷ ys) = ⊥
Fits (x ∷ xs) [] = ⊥
Fits (x ∷ xs) (y ∷ ys) = Fits xs ys

-- A value that may be absent: an arm that was not chosen gets nothing and gives nothing.
abbrev pub Values : Type 0
Values = List (Option Value)

abbrev pub token-of : Option Value → Option Token
token-of none = none
token-of (some v) = some (val v)

-- values on links, in order; links beyond the values are empty
abbrev pub load : List ℕ → Values → Load
load [] vs = []
load (l ∷ ls) [] = (l, none) ∷ load ls []
load (l ∷ ls) (v ∷ vs) = (l, token-of v) ∷ load ls vs

-- A piece of a graph. Its interface is two lists of links; a bare identifier has the same link in both. `own` are the links that nobody
-- else uses: the inner links, the control links of its FM and FS gates and their registers (a register is a link that its gate alone
-- takes from and puts onto and that holds one token: the mark before the first firing, then the register's value).
-- `Idle` are the loads of the own links between two sets: everything empty but the registers, and each FM and FS ready (never
-- fired, or with one false on its control).
pub record Piece : Type 1 where
  pub ins : List ℕ
  pub outs : List ℕ
  pub own : ℕ → Type 0
  pub Idle : Load → Type 0

-- every link that the piece may touch
abbrev pub Region : Piece → ℕ → Type 0
Region P l = P.own l ⊎ (In l P.ins ⊎ In l P.outs)

-- What is known of every piece that the maker makes (freshness of numbers, proved once over the translation).
pub record Neat (P : Piece) : Type 0 where
  pub idle-own : (σ : Load) → P.Idle σ → Within σ P.own
  pub off-ins : (l : ℕ) → P.own l → In l P.ins → ⊥
  pub off-outs : (l : ℕ) → P.own l → In l P.outs → ⊥

-- An answer: the values on the outputs, or none, where the lent rounds did not suffice.
abbrev pub Answer : Type 0
Answer = Option Values

-- What a piece means: from the values of its inputs, with at least so many rounds, to an answer. A relation, or the graph of an evaluator.
abbrev pub Means : Type 1
Means = Values → ℕ → Answer → Type 0

abbrev pub some_of : List Value → Values
some_of [] = []
some_of (v ∷ vs) = some v ∷ some_of vs
