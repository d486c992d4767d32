-- Two firings of different operators commute, whatever the operators compute: of any link one of them alone takes the head and one of them
-- alone appends, so the token that a firing looks at stays the head and the place that it needs stays free.
-- `diamond` is what crate schedule asks of a transition system. Assumes that what two operators take from and put onto is apart (`Free`;
-- Wired.antt gets it from one taker and one putter a link).
use Rattle.std.specs.Prelude.{ℕ, ◌<◌, ◌≡◌, refl, ◌≢◌, List, [], ◌∷◌, length}
use Rattle.network.specs.Net.{Token, Demand, ask, fire, halt}

abbrev pub Never-asks : Demand → ℕ → Type 0
Never-asks (ask m k) l = (m ≢ l) × ((t : Token) → Never-asks (k t) l)
Never-asks (fire es r) l = Unit {0}
Never-asks halt l = Unit {0}

abbrev pub Not-among : List (ℕ × Token) → ℕ → Type 0
Not-among [] l = Unit {0}
Not-among (e ∷ es) l = (e.0 ≢ l) × Not-among es l

abbrev pub Never-emits : Demand → ℕ → Type 0
Never-emits (ask m k) l = (t : Token) → Never-emits (k t) l
Never-emits (fire es r) l = Not-among es l
Never-emits halt l = Unit {0}

-- What `d` takes from, `e` does not take from; what `d` puts onto, `e` does not put onto.
abbrev pub Free-emissions : List (ℕ × Token) → Demand → Type 0
Free-emissions [] e = Unit {0}
Free-emissions (x ∷ es) e = Never-emits e x.0 × Free-emissions es e

abbrev pub Free : Demand → Demand → Type 0
Free (ask l k) e = Never-asks e l × ((t : Token) → Free (k t) e)
Free (fire es r) e = Free-emissions es e
Free halt e = Unit {0}
