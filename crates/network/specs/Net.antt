-- Networks of links. Document 01, "The graph": "An operator fires only when every token listed waits and each link it emits on has a free
-- place". Push and take ("Running") are treated as operators of the same kind (Ends.antt). A link is the queue of its waiting tokens, the
-- oldest first; a state is the links alone, since a register is a link that its gate alone takes from and puts onto and that holds one token.
-- Links are total functions of their numbers, so no bound appears; a capacity is a function of the link.
use Rattle.std.specs.Prelude.{ℕ, ◌<◌, ◌≤◌, ◌≡◌, refl, ◌≢◌, List, [], ◌∷◌, ◌++◌, length}
use Rattle.std.proofs.Math.Logic.{ite}
use Rattle.std.proofs.Math.Decide.{ℕ_discrete}
use Rattle.value.specs.declared.Value.{Value}

-- A token is a value, or the mark on the register link of an FM or FS that has never fired: no value can be taken for it.
pub data Token : Type 0 where
  val : Value → Token
  mark : Token

-- What a firing demands: the head of a link, and goes on by it; or it ends in what it emits, onto which links, and in what it hands to
-- the world (a take's values; all others hand out nothing); or it can never be made.
pub data Demand : Type 0 where
  ask : ℕ → (Token → Demand) → Demand
  fire : List (ℕ × Token) → List Token → Demand
  halt : Demand

abbrev pub Links : Type 0
Links = ℕ → List Token

abbrev pub head : List Token → Token
head [] = mark
head (t ∷ ts) = t

abbrev pub tail : List Token → List Token
tail [] = []
tail (t ∷ ts) = ts

unfoldable pub pop : ℕ → Links → Links
pop l q j = ite (ℕ_discrete j l) (tail (q j)) (q j)

unfoldable pub append : ℕ → Token → Links → Links
append l t q j = ite (ℕ_discrete j l) (q j ++ (t ∷ [])) (q j)

module _ (cap : ℕ → ℕ) where
  abbrev pub Room : List (ℕ × Token) → Links → Type 0
  Room [] q = Unit {0}
  Room (e ∷ es) q = (length (q e.0) < cap e.0) × Room es (append e.0 e.1 q)

  -- the firing can be made
  abbrev pub Able : Demand → Links → Type 0
  Able (ask l k) q = (0 < length (q l)) × Able (k (head (q l))) (pop l q)
  Able (fire es r) q = Room es q
  Able halt q = ⊥

abbrev pub appends : List (ℕ × Token) → Links → Links
appends [] q = q
appends (e ∷ es) q = appends es (append e.0 e.1 q)

abbrev pub act : Demand → Links → Links
act (ask l k) q = act (k (head (q l))) (pop l q)
act (fire es r) q = appends es q
act halt q = q

abbrev pub label : Demand → Links → List Token
label (ask l k) q = label (k (head (q l))) (pop l q)
label (fire es r) q = r
label halt q = []
