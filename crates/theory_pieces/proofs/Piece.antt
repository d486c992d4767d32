-- Laws of specs/Piece.antt, and what only they need.
use Rattle.std.specs.Prelude.{ℕ, List, [], ◌∷◌, ◌++◌}
use Rattle.std.proofs.Common.{inl, inr}
use Rattle.std.proofs.Math.Option.{none, some}
use Rattle.network.specs.Uses.{In}
use Rattle.theory_pieces.specs.Load.{Load, On}
use Rattle.theory_pieces.specs.Goes.{Net}
use Rattle.theory_pieces.proofs.Goes.{Goes, Goes_on}
use Rattle.theory_pieces.specs.Piece.{Values, load, Piece, Region, Answer, Means}

module _ (net : Net) where
  -- Where a schedule from the load `xs` leads: to the values on the outputs, with the piece idle again (perhaps another idle load: a
  -- gate that has fired waits otherwise than one that has not); or as far as anyone asks.
  abbrev pub Leads : (ℕ → Type 0) → Load → List ℕ → (Load → Type 0) → ℕ → Answer → Type 0
  Leads D xs os Idle c none = Goes_on net D xs c
  Leads D xs os Idle c (some rs) = (σ : Load) × Idle σ × Goes net D xs c (load os rs ++ σ)

  -- The schedule lemma, as a property of a piece: from any idle load and the values on its inputs there is a schedule, possible with one
  -- place a link, of at least as many firings as rounds, that leads to the answer. The base under `Goes` is any that is empty on the
  -- piece's links, so nothing outside is touched; what is not in the last load is empty.
  abbrev pub Serves : Piece → Means → Type 0
  Serves P M = (vs : Values) (c : ℕ) (a : Answer) → M vs c a → (σ : Load) → P.Idle σ → Leads (Region P) (load P.ins vs ++ σ) P.outs P.Idle c a

pub load-in : (ls : List ℕ) (vs : Values) (l : ℕ) → On l (load ls vs) → In l ls
load-in [] vs l o = absurd o
load-in (k ∷ ls) [] l (inl e) = inl e
load-in (k ∷ ls) [] l (inr o) = inr (load-in ls [] l o)
load-in (k ∷ ls) (v ∷ vs) l (inl e) = inl e
load-in (k ∷ ls) (v ∷ vs) l (inr o) = inr (load-in ls vs l o)
