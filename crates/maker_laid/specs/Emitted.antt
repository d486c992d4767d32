-- What the emitters of src/ write and give, in the order in which they do it: links dealt out to the names of a list, links assigned to them, and
-- a row of gates whose control goes through a chain of copies (document 01, "The graph": "A name, a test's output, an IC output or an "iter?"
-- used k times, k above 1, passes k-1 two-way copies"). That these are the operators of Brock's translation is Sharing, Rows, .. below.
use Prim.Native.Nat.{ℕ, zero, suc, ◌+◌, ◌-◌, ◌≤◌, ◌<◌}
use Rattle.std.specs.Prelude.{◌≡◌, Bool, true, false, List, [], ◌∷◌, length, get_or, set, drop}
use Rattle.std.proofs.Math.Path.{refl}
use native.Mathlib.Omega.{arith}
use Rattle.machine_layout.specs.Layout.{no_link}
use Rattle.machine_layout.specs.declared.Operator.{Operator as Record}
use Rattle.graph.specs.Assembly.{Env, copy_of, copies_for, nth, ring, ring_gate, chain, chain_ends}
use Rattle.names.specs.Names.{Names}
use Rattle.maker_laid.specs.Encode.{encode, encoded}

-- the link of a name in an array of links
abbrev pub link_in : List ℕ → Env
link_in e x = get_or e x 0

abbrev pub copy_record : ℕ → ℕ → ℕ → Record
copy_record l a b = record { kind = 13; in1 = l; in2 = no_link; in3 = no_link; out1 = a; out2 = b; out3 = no_link; register = 0 }

-- an operator with one output: its kind's byte, its inputs, its output
abbrev pub gate_record : ℕ → ℕ → ℕ → ℕ → ℕ → Record
gate_record kind a b c o = record { kind = kind; in1 = a; in2 = b; in3 = c; out1 = o; out2 = no_link; out3 = no_link; register = 0 }

-- The names of a list get the links n, n + step, ..
unfoldable pub dealt : ℕ → List ℕ → ℕ → List ℕ → List ℕ
dealt step [] n e = e
dealt step (x ∷ xs) n e = dealt step xs (n + step) (set e x n)

-- The names of a list get the links of a list.
unfoldable pub assigned : List ℕ → List ℕ → List ℕ → List ℕ
assigned [] ls e = e
assigned (x ∷ xs) [] e = e
assigned (x ∷ xs) (l ∷ ls) e = assigned xs ls (set e x l)

-- k gates of a kind, the i-th on the i-th links of two arrays, links from n on; each but the last takes its control from a copy.
unfoldable pub row_records : ℕ → ℕ → ℕ → List ℕ → List ℕ → ℕ → ℕ → List Record
row_records kind c n a b i zero = []
row_records kind c n a b i (suc zero) = gate_record kind c (link_in a i) (link_in b i) n ∷ []
row_records kind c n a b i (suc (suc k)) =
    copy_record c n (n + 1) ∷ gate_record kind n (link_in a i) (link_in b i) (n + 2) ∷ row_records kind (n + 1) (n + 3) a b (i + 1) (suc k)

unfoldable pub row_outputs : ℕ → ℕ → List ℕ
row_outputs n zero = []
row_outputs n (suc zero) = n ∷ []
row_outputs n (suc (suc k)) = (n + 2) ∷ row_outputs (n + 3) (suc k)

-- ---- laws: one turn of each

pub copy-encoded : (l a b : ℕ) → encode (copy_of l a b) ≡ copy_record l a b
unfolding nth
copy-encoded l a b = refl

pub copies-more : (x : ℕ) (xs : List ℕ) (env e₁ e₂ : Env)
    → encoded (copies_for (x ∷ xs) env e₁ e₂) ≡ copy_record (env x) (e₁ x) (e₂ x) ∷ encoded (copies_for xs env e₁ e₂)
unfolding copies_for nth
copies-more x xs env e₁ e₂ = refl

pub copies-none : (env e₁ e₂ : Env) → encoded (copies_for [] env e₁ e₂) ≡ []
unfolding copies_for
copies-none env e₁ e₂ = refl

module _ (step n : ℕ) (e : List ℕ) where
  pub dealt-none : dealt step [] n e ≡ e
  unfolding dealt
  dealt-none = refl

  pub dealt-more : (x : ℕ) (xs : List ℕ) → dealt step (x ∷ xs) n e ≡ dealt step xs (n + step) (set e x n)
  unfolding dealt
  dealt-more x xs = refl

pub assigned-none : (ls e : List ℕ) → assigned [] ls e ≡ e
unfolding assigned
assigned-none ls e = refl

pub drop-cons : (ls : List ℕ) (k : ℕ) → k < length ls → drop k ls ≡ get_or ls k 0 ∷ drop (k + 1) ls
drop-cons [] k h = absurd (omega arith)
drop-cons (l ∷ ls) zero h = refl
drop-cons (l ∷ ls) (suc k) h = let z : suc k + 1 ≡ suc (k + 1) = omega arith in rw z (drop-cons ls k (omega arith))

pub assigned-more : (x : ℕ) (xs ls : List ℕ) (k : ℕ) (e : List ℕ) → k < length ls
    → assigned (x ∷ xs) (drop k ls) e ≡ assigned xs (drop (k + 1) ls) (set e x (get_or ls k 0))
unfolding assigned
assigned-more x xs ls k e h = rw (drop-cons ls k h) refl

module _ (kind c n : ℕ) (a b : List ℕ) (i : ℕ) where
  pub row-none : row_records kind c n a b i 0 ≡ []
  unfolding row_records
  row-none = refl

  pub row_last : row_records kind c n a b i 1 ≡ gate_record kind c (link_in a i) (link_in b i) n ∷ []
  unfolding row_records
  row_last = refl

  pub row_more : (k : ℕ) → 1 < k → row_records kind c n a b i k
      ≡ copy_record c n (n + 1) ∷ gate_record kind n (link_in a i) (link_in b i) (n + 2) ∷ row_records kind (n + 1) (n + 3) a b (i + 1) (k - 1)
  unfolding row_records
  row_more zero h = absurd (omega arith)
  row_more (suc zero) h = absurd (omega arith)
  row_more (suc (suc k)) h = let z : suc (suc k) - 1 ≡ suc k = omega arith in rw z refl

pub outputs-more : (n k : ℕ) → 1 < k → row_outputs n k ≡ (n + 2) ∷ row_outputs (n + 3) (k - 1)
unfolding row_outputs
outputs-more n zero h = absurd (omega arith)
outputs-more n (suc zero) h = absurd (omega arith)
outputs-more n (suc (suc k)) h = let z : suc (suc k) - 1 ≡ suc k = omega arith in rw z refl

pub outputs-last : (n : ℕ) → row_outputs n 1 ≡ n ∷ []
unfolding row_outputs
outputs-last n = refl

pub outputs-none : (n : ℕ) → row_outputs n 0 ≡ []
unfolding row_outputs
outputs-none n = refl

-- ---- a chain of copies

pub chain_more : (l n k : ℕ) → 1 < k → encoded (chain l n k) ≡ copy_record l n (n + 1) ∷ encoded (chain (n + 1) (n + 2) (k - 1))
unfolding chain nth
chain_more l n zero h = absurd (omega arith)
chain_more l n (suc zero) h = absurd (omega arith)
chain_more l n (suc (suc k)) h =
    let z : suc (suc k) - 1 ≡ suc k = omega arith in
    let p : n + 1 ≡ suc n = omega arith in
    let q : n + 2 ≡ suc (suc n) = omega arith in
    rw (z, p, q) refl

pub chain-few : (l n k : ℕ) → k ≤ 1 → encoded (chain l n k) ≡ []
unfolding chain
chain-few l n zero h = refl
chain-few l n (suc zero) h = refl
chain-few l n (suc (suc k)) h = absurd (omega arith)

pub ends_more : (l n k : ℕ) → 1 < k → chain_ends l n k ≡ n ∷ chain_ends (n + 1) (n + 2) (k - 1)
unfolding chain_ends
ends_more l n zero h = absurd (omega arith)
ends_more l n (suc zero) h = absurd (omega arith)
ends_more l n (suc (suc k)) h =
    let z : suc (suc k) - 1 ≡ suc k = omega arith in
    let p : n + 1 ≡ suc n = omega arith in
    let q : n + 2 ≡ suc (suc n) = omega arith in
    rw (z, p, q) refl

pub ends_last : (l n : ℕ) → chain_ends l n 1 ≡ l ∷ []
unfolding chain_ends
ends_last l n = refl

pub ends-none : (l n : ℕ) → chain_ends l n 0 ≡ []
unfolding chain_ends
ends-none l n = refl

-- ---- the ring of a loop

pub ring-FM : (b : Bool) → b ≡ true → (c i s w o : ℕ) → encode (ring_gate b c i s w o) ≡ gate_record 19 c i s o
unfolding ring_gate nth
ring-FM b e c i s w o = rw e refl

pub ring-FS : (b : Bool) → b ≡ false → (c i s w o : ℕ) → encode (ring_gate b c i s w o) ≡ gate_record 20 c w no_link o
unfolding ring_gate nth
ring-FS b e c i s w o = rw e refl

module _ (ids : Names) (iterated started own out : Env) where
  pub ring-none : (cs : List ℕ) → encoded (ring [] ids cs iterated started own out) ≡ []
  unfolding ring
  ring-none cs = refl

  pub ring-more : (x : ℕ) (xs cs : List ℕ) (k : ℕ) → k < length cs
      → encoded (ring (x ∷ xs) ids (drop k cs) iterated started own out)
      ≡ encode (ring_gate (ids x) (get_or cs k 0) (iterated x) (started x) (own x) (out x)) ∷ encoded (ring xs ids (drop (k + 1) cs) iterated started own out)
  unfolding ring
  ring-more x xs cs k h = rw (drop-cons cs k h) refl
