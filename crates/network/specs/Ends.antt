-- Push and take as operators of the network (document 01, "Running"): "Push gives one value to each input link, and one trigger if that link
-- exists"; "Take removes one value from each result port". The sets to come lie on a source link, one value after another, onto which nobody
-- puts, so that push needs no argument. The credit link holds one token for each set untaken and has sixteen places: push has no room there
-- when "sixteen sets untaken" (32), take finds none when "no set untaken" (35). A full input link (33) is want of room, an empty result
-- port (35) want of a token. What take hands out is its label.
use Rattle.std.specs.Prelude.{ℕ, ◌≤◌, ◌≡◌, ◌≢◌, List, [], ◌∷◌}
use Rattle.std.proofs.Math.Logic.{ite}
use Rattle.std.proofs.Math.Decide.{ℕ_discrete}
use Rattle.network.specs.Values.{true-value}
use Rattle.network.specs.Net.{Token, val, Demand, ask, fire}

-- One value from the source for each input link.
abbrev pub draw : ℕ → List ℕ → (List (ℕ × Token) → Demand) → Demand
draw source [] k = k []
draw source (i ∷ is) k = ask source (λ t. draw source is (λ es. k ((i, t) ∷ es)))

-- One value from each result port.
abbrev pub collect : List ℕ → (List Token → Demand) → Demand
collect [] k = k []
collect (o ∷ os) k = ask o (λ t. collect os (λ ts. k (t ∷ ts)))

abbrev pub push-demand : ℕ → ℕ → List ℕ → Demand
push-demand source credit ins = draw source ins (λ es. fire ((credit, val true-value) ∷ es) [])

abbrev pub take-demand : ℕ → List ℕ → Demand
take-demand credit outs = collect outs (λ ts. ask credit (λ u. fire [] ts))

-- Every link has the capacity asked at start, the credit link sixteen places.
unfoldable pub capacities : ℕ → ℕ → ℕ → ℕ
capacities credit capacity l = ite (ℕ_discrete l credit) 16 capacity
