-- What is told of the links (Telling.antt) of a loop: the links of the body's names, the chain of copies of iter?, and the gates of its ring.
-- Assumes nothing beside that.
use Rattle.std.specs.Prelude.{ℕ, zero, suc, ◌+◌, ◌≤◌, ◌<◌, ◌≡◌, refl, Bool, true, false, cond, List, [], ◌∷◌, get_or}
use Rattle.names.specs.Names.{Names}
use Rattle.network.specs.Values.{err-value}
use Rattle.network.specs.Uses.{In}
use Rattle.graph.specs.Assembly.{name_count, rank, total, listed, member_of, Env, spread, nth, chain, chain_ends, chain_links, ring_gate, ring, Operator}
use Rattle.theory_reference.specs.Plugged.{Each}
use Rattle.theory_claims.specs.Claims.{truths, storable, Claims}
use Rattle.theory_claims.specs.Telling.{Told}

-- ---- the links of the body's names
-- FM remembers that it has fired, FS its data.
abbrev pub ring_told : Names → Claims → ℕ → Told
ring_told ids D x = record { link = D x; register = cond (ids x) truths (storable (D x)) }
