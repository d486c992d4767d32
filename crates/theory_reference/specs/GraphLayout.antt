-- The layout of every fit graph (graph, Assembly.antt): where its outputs lie, that they are different and as many as `output_count`
-- says, and which links and registers the gates of its loops have.
use Rattle.std.specs.Prelude.{ℕ, zero, suc, ◌+◌, ◌-◌, ◌≤◌, ◌<◌, ◌≡◌, refl, ◌⊎◌, Bool, true, false, cond, List, [], ◌∷◌, ◌++◌, length, get_or, take, drop, eqb}
use Rattle.names.specs.Names.{Names, none as noNames, union, common, without}
use Rattle.network.specs.Uses.{In}
use Rattle.graph.specs.Assembly.{Graph, wire, nothing, beside, bind, gate, loop, Env, name_count, member_of, named, spread, rank, total, free, links_of, outputs, gate_outputs, shared_links, first_use, second_use, chain_ends, chain_links}
use Rattle.graph.specs.Yields.{output_count}
use Rattle.graph.specs.Fit.{Fit, bare, Different as DifferentNames}
use Rattle.theory_reference.specs.Plugged.{registers}
use Rattle.theory_reference.specs.Plan.{Plan, Sound}
use Rattle.theory_reference.specs.Bareness.{Straight}

-- The gates of a graph's loops: control link and register link.
abbrev pub RingOf : Graph → ℕ → ℕ → ℕ → Type 0
RingOf (wire x) n c r = ⊥
RingOf nothing n c r = ⊥
RingOf (beside a b) n c r =
    let m : ℕ = n + shared_links (free a) (free b) in
    RingOf a m c r ⊎ RingOf b (m + links_of a) c r
RingOf (bind ns a b) n c r =
    let m : ℕ = n + shared_links (free a) (without (free b) (member_of ns)) in
    RingOf a m c r ⊎ RingOf b (m + links_of a) c r
RingOf (gate g a) n c r = RingOf a n c r
RingOf (loop ns a b) n c r =
    let m : ℕ = n + shared_links (free a) (without (free b) (member_of ns)) in
    let o : ℕ = m + links_of a in
    let s : ℕ = total (free b) in
    let it : ℕ = get_or (outputs b (o + s) (spread (free b) o)) 0 0 in
    RingOf a m c r
    ⊎ (RingOf b (o + s) c r
    ⊎ ((x : ℕ) × (free b x ≡ true) × (c ≡ get_or (chain_ends it (o + s + links_of b) s) (rank (free b) x) 0) × (r ≡ registers + spread (free b) o x)))

abbrev pub plan_of : Graph → ℕ → Env → Plan
plan_of g n env = record { names = free g; start = n; size = links_of g; env = env; outs = outputs g n env; Ring = RingOf g n }

pub record Layout (g : Graph) (n : ℕ) (env : Env) : Type 0 where
  pub sound : Sound (plan_of g n env)
  pub count : length (outputs g n env) ≡ output_count g
  pub straight : Straight (bare g) (plan_of g n env)

-- A loop's body with the loop's gates round it.
abbrev pub body_plan : Names → ℕ → ℕ → (ℕ → ℕ → Type 0) → List ℕ → Plan
body_plan h o kb RB os = record { names = h; start = o + total h; size = kb; env = spread h o; outs = os; Ring = RB }
