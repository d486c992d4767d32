-- A graph assembly language, after Brock, section 2.1: small graphs put together to larger ones, with the numbers that their
-- operators and links get. A graph has named inputs and a list of outputs. It is laid out from a link number on, in an
-- environment that gives the link of each name; its own links are then an interval, and the order of its operators is their
-- number. Copies appear in one place only: where two parts use the same name ("A name .. used k times, k above 1, passes k-1
-- two-way copies").
use Rattle.std.specs.Prelude.{ℕ, zero, suc, ◌+◌, ◌*◌, ◌-◌, Bool, true, false, cond, ◌&&◌, ◌||◌, List, [], ◌∷◌, ◌++◌, length, get_or, drop, eqb}
use Rattle.std.proofs.Math.Option.{Option, none, some}
use Rattle.value.specs.declared.Value.{Value}
use Rattle.names.specs.Names.{Names, none as noNames, one, union, common, without, size_from, members_from}
use Rattle.network.specs.Rules.{Kind, constant, copy, operator, T-gate, F-gate, M-gate, E-gate, IC-gate, FM-gate, FS-gate, Register}

-- The gates that stand between inputs and outputs; copies and the gates of a loop are placed by the layout itself. An IC whose
-- second output has no user has two outputs: "An output with no user is not emitted."
pub data Gate : Type 0 where
  const : Value → Gate
  oper : ℕ → Gate
  T F M E : Gate
  IC : Bool → Gate

pub data Graph : Type 0 where
  -- a name: a bare link
  wire : ℕ → Graph
  -- no output
  nothing : Graph
  -- side by side; the outputs of the first, then those of the second
  beside : Graph → Graph → Graph
  -- the outputs of the first are the names of the second
  bind : List ℕ → Graph → Graph → Graph
  -- a gate whose input ports take the outputs of a graph, in order
  gate : Gate → Graph → Graph
  -- a loop: its names, what starts them, and its body, whose outputs are iter?, the iterated values and the returned values
  loop : List ℕ → Graph → Graph → Graph

-- Names 0 to 31 are the identifiers and 32 the trigger; the translation uses names from 33 on for links that no identifier has.
abbrev pub name_count : ℕ
name_count = 103

unfoldable pub member_of : List ℕ → Names
member_of [] k = false
member_of (x ∷ xs) k = eqb x k || member_of xs k

unfoldable pub rank : Names → ℕ → ℕ
rank f x = size_from x f

unfoldable pub total : Names → ℕ
total f = size_from name_count f

unfoldable pub listed : Names → List ℕ
listed f = members_from name_count 0 f

-- The names of a graph's inputs.
unfoldable pub free : Graph → Names
unfolding member_of
free (wire x) = one x
free nothing = noNames
free (beside a b) = union (free a) (free b)
free (bind ns a b) = union (free a) (without (free b) (member_of ns))
free (gate g a) = free a
free (loop ns a b) = union (free a) (without (free b) (member_of ns))

unfoldable pub gate_outputs : Gate → ℕ
gate_outputs (const v) = 1
gate_outputs (oper k) = 1
gate_outputs T = 1
gate_outputs F = 1
gate_outputs M = 1
gate_outputs E = 1
gate_outputs (IC second) = cond second 3 2

-- The links of the copies for the names that two parts share, and of the chain of copies for k users.
unfoldable pub shared_links : Names → Names → ℕ
unfolding total size_from
shared_links f g = 2 * total (common f g)

abbrev pub chain_links : ℕ → ℕ
chain_links k = 2 * (k - 1)

-- How many links of its own a graph has.
unfoldable pub links_of : Graph → ℕ
unfolding free gate_outputs shared_links total size_from member_of
links_of (wire x) = 0
links_of nothing = 0
links_of (beside a b) = shared_links (free a) (free b) + (links_of a + links_of b)
links_of (bind ns a b) = shared_links (free a) (without (free b) (member_of ns)) + (links_of a + links_of b)
links_of (gate g a) = links_of a + gate_outputs g
links_of (loop ns a b) =
    shared_links (free a) (without (free b) (member_of ns))
    + (links_of a + (total (free b) + (links_of b + chain_links (total (free b)))))

-- The link of each name.
abbrev pub Env : Type 0
Env = ℕ → ℕ

-- The copies of the shared names, rising, lie from link n on, two links each: the first for the first part, the second for the
-- second part. A name that is not shared keeps its link.
unfoldable pub first_use : Names → Names → ℕ → Env → Env
unfolding rank size_from
first_use f g n env x = cond (f x && g x) (n + 2 * rank (common f g) x) (env x)

unfoldable pub second_use : Names → Names → ℕ → Env → Env
unfolding rank size_from
second_use f g n env x = cond (f x && g x) (n + 2 * rank (common f g) x + 1) (env x)

-- The names of a list have the links of a list, the others their own.
unfoldable pub named : List ℕ → List ℕ → Env → Env
named [] ls env x = env x
named (y ∷ ns) [] env x = env x
named (y ∷ ns) (l ∷ ls) env x = cond (eqb y x) l (named ns ls env x)

-- The names of a set have the links from n on, rising.
unfoldable pub spread : Names → ℕ → Env
unfolding rank size_from
spread f n x = n + rank f x

-- n, n + 1, .. k of them
unfoldable pub up_from : ℕ → ℕ → List ℕ
up_from n zero = []
up_from n (suc k) = n ∷ up_from (suc n) k

-- The links of a graph's outputs.
unfoldable pub outputs : Graph → ℕ → Env → List ℕ
unfolding free links_of gate_outputs first_use second_use named spread up_from shared_links total size_from member_of
outputs (wire x) n env = env x ∷ []
outputs nothing n env = []
outputs (beside a b) n env =
    let f : Names = free a in
    let g : Names = free b in
    let m : ℕ = n + shared_links f g in
    outputs a m (first_use f g n env) ++ outputs b (m + links_of a) (second_use f g n env)
outputs (bind ns a b) n env =
    let f : Names = free a in
    let g : Names = without (free b) (member_of ns) in
    let m : ℕ = n + shared_links f g in
    outputs b (m + links_of a) (named ns (outputs a m (first_use f g n env)) (second_use f g n env))
outputs (gate g a) n env = up_from (n + links_of a) (gate_outputs g)
outputs (loop ns a b) n env =
    let f : Names = free a in
    let g : Names = without (free b) (member_of ns) in
    let m : ℕ = n + shared_links f g + links_of a in
    drop (suc (length ns)) (outputs b (m + total (free b)) (spread (free b) m))

-- An operator with the links of its ports: control first, as document 01's rules count them.
pub record Operator : Type 0 where
  pub kind : Kind
  pub in1 : Option ℕ
  pub in2 : Option ℕ
  pub in3 : Option ℕ
  pub out1 : Option ℕ
  pub out2 : Option ℕ
  pub out3 : Option ℕ
  pub held : Register

-- The i-th link of a list, where there is one.
unfoldable pub nth : List ℕ → ℕ → Option ℕ
nth [] i = none
nth (l ∷ ls) zero = some l
nth (l ∷ ls) (suc i) = nth ls i

abbrev pub made : Kind → Register → List ℕ → Option ℕ → Option ℕ → Option ℕ → Operator
made k v ins o₁ o₂ o₃ =
    record { kind = k; in1 = nth ins 0; in2 = nth ins 1; in3 = nth ins 2; out1 = o₁; out2 = o₂; out3 = o₃; held = v }

abbrev pub copy_of : ℕ → ℕ → ℕ → Operator
copy_of l a b = made copy none (l ∷ []) (some a) (some b) none

-- A gate with its inputs, its outputs from link n on.
unfoldable pub gate_of : Gate → List ℕ → ℕ → Operator
unfolding nth
gate_of (const v) ins n = made constant (some v) ins (some n) none none
gate_of (oper k) ins n = made (operator k) none ins (some n) none none
gate_of T ins n = made T-gate none ins (some n) none none
gate_of F ins n = made F-gate none ins (some n) none none
gate_of M ins n = made M-gate none ins (some n) none none
gate_of E ins n = made E-gate none ins (some n) none none
gate_of (IC true) ins n = made IC-gate none ins (some n) (some (n + 1)) (some (n + 2))
gate_of (IC false) ins n = made IC-gate none ins (some n) none (some (n + 1))

-- A copy for each name of a list that two parts share.
unfoldable pub copies_for : List ℕ → Env → Env → Env → List Operator
unfolding nth
copies_for [] env e₁ e₂ = []
copies_for (x ∷ xs) env e₁ e₂ = copy_of (env x) (e₁ x) (e₂ x) ∷ copies_for xs env e₁ e₂

unfoldable pub sharing : Names → Names → ℕ → Env → List Operator
unfolding copies_for first_use second_use listed members_from
sharing f g n env = copies_for (listed (common f g)) env (first_use f g n env) (second_use f g n env)

-- A chain of copies from a link to k users, by the links from n on: the first user's link is n, the next copy takes n + 1.
unfoldable pub chain : ℕ → ℕ → ℕ → List Operator
unfolding nth
chain l n zero = []
chain l n (suc zero) = []
chain l n (suc (suc k)) = copy_of l n (suc n) ∷ chain (suc n) (suc (suc n)) (suc k)

unfoldable pub chain_ends : ℕ → ℕ → ℕ → List ℕ
chain_ends l n zero = []
chain_ends l n (suc zero) = l ∷ []
chain_ends l n (suc (suc k)) = n ∷ chain_ends (suc n) (suc (suc n)) (suc k)

-- "A for puts FM on its identifiers and FS on the body's other names, trigger included": FM takes iter?, the iterated value and the
-- starting value; FS takes iter? and the name's own link.
unfoldable pub ring_gate : Bool → ℕ → ℕ → ℕ → ℕ → ℕ → Operator
unfolding nth
ring_gate true control iterated started own out = made FM-gate none (control ∷ iterated ∷ started ∷ []) (some out) none none
ring_gate false control iterated started own out = made FS-gate none (control ∷ own ∷ []) (some out) none none

-- The gates of a loop on a list of names, with their controls.
unfoldable pub ring : List ℕ → Names → List ℕ → Env → Env → Env → Env → List Operator
unfolding ring_gate
ring [] ids controls iterated started own out = []
ring (x ∷ xs) ids [] iterated started own out = []
ring (x ∷ xs) ids (c ∷ cs) iterated started own out =
    ring_gate (ids x) c (iterated x) (started x) (own x) (out x) ∷ ring xs ids cs iterated started own out

-- The operators of a graph, in the order of their numbers.
unfoldable pub operators_of : Graph → ℕ → Env → List Operator
unfolding free links_of gate_outputs first_use second_use named spread outputs gate_of sharing chain chain_ends ring listed members_from shared_links total size_from member_of
operators_of (wire x) n env = []
operators_of nothing n env = []
operators_of (beside a b) n env =
    let f : Names = free a in
    let g : Names = free b in
    let m : ℕ = n + shared_links f g in
    sharing f g n env ++ (operators_of a m (first_use f g n env) ++ operators_of b (m + links_of a) (second_use f g n env))
operators_of (bind ns a b) n env =
    let f : Names = free a in
    let g : Names = without (free b) (member_of ns) in
    let m : ℕ = n + shared_links f g in
    let e : Env = first_use f g n env in
    sharing f g n env
    ++ (operators_of a m e ++ operators_of b (m + links_of a) (named ns (outputs a m e) (second_use f g n env)))
operators_of (gate g a) n env = operators_of a n env ++ (gate_of g (outputs a n env) (n + links_of a) ∷ [])
operators_of (loop ns a b) n env =
    let f : Names = free a in
    let g : Names = without (free b) (member_of ns) in
    let m : ℕ = n + shared_links f g in
    let e : Env = first_use f g n env in
    let s : ℕ = total (free b) in
    let o : ℕ = m + links_of a in
    let inner : Env = spread (free b) o in
    let outs : List ℕ = outputs b (o + s) inner in
    let it : ℕ = get_or outs 0 0 in
    let c : ℕ = o + s + links_of b in
    sharing f g n env
    ++ (operators_of a m e
    ++ (operators_of b (o + s) inner
    ++ (chain it c s
    ++ ring (listed (free b)) (member_of ns) (chain_ends it c s) (named ns (drop 1 outs) env) (named ns (outputs a m e) env)
    (second_use f g n env) inner)))
