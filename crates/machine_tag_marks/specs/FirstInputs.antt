-- The marks that a tag's operators begin a run with: those for whose first input a token waits. Every kind but FM and FS takes from that input first (network's specs/Rules), and a
-- graph without `for` has neither, so no other operator is able. Assumes nothing.
use Rattle.std.specs.Prelude.{ℕ, ◌+◌, ◌≤◌, ◌<◌, ◌≡◌, Bool, ◌&&◌, List, eqb, get_or, drop, Some, None}
use Rattle.std.proofs.Math.Path.{refl}
use Rattle.std.proofs.Common.{ap, ◌∙◌, arith, get_or-take, get_or-drop}
use Rattle.std.proofs.Math.Bool.{true, false}
use Rattle.std.proofs.Math.Option.{Option, some, none}
use Rattle.std.proofs.Math.Decide.{ℕ_discrete}
use borrow.Author.Tests.{lt-ltb, le-ltb, ne_eqb}
use Rattle.std.proofs.Math.Dec.{leb}
use Rattle.std.specs.Prelude as std
use Rattle.value.specs.declared.Value.{Value}
use Rattle.value.specs.Operators.{pick}
use Rattle.value.proofs.Words.{no_value}
use Rattle.network.specs.Rules.{Kind, constant, copy, operator, T-gate, F-gate, M-gate, E-gate, IC-gate, FM-gate, FS-gate}
use Rattle.machine_queue.specs.Stretch.{head_of}
use Rattle.machine_layout.specs.Kinds.{byte_of, kind_of}
use Rattle.machine_layout.specs.Layout.{most_links, least_size, kind_byte, port_of, link_from, part}
use Rattle.machine_gates.specs.Decide.{idle, told, ruled, decide_at}
use Rattle.machine_firing.specs.Links.{head_from, token_from}
use Rattle.machine_firing.specs.Fire.{planned, decision_from, plan_from, ready_from, able_from}
use Rattle.machine_marks.specs.declared.Marks.{Marks}
use Rattle.machine_marks.specs.Words.{mark}
use Rattle.machine_marks.specs.Held.{held, Woke}
use Rattle.machine_runs.specs.Marks.{Resting}

-- ---- no token on the first input, no firing

module _ (b c g : std.Option Value) where
  abbrev Idle : Option Kind → Type 0
  Idle k = ruled k None b c g ≡ none

  constant-idle : (r : std.Option Value) → ruled (some constant) None b c r ≡ none
  constant-idle (Some v) = refl
  constant-idle None = refl

  -- the bytes below FM's are those of the other kinds
  kind-idle : (kind : ℕ) → kind < byte_of FM-gate → Idle (kind_of kind)
  unfolding kind_of
  kind-idle kind h =
      rw (ne_eqb kind (byte_of FM-gate) (omega arith), ne_eqb kind (byte_of FS-gate) (omega arith))
      (or (leb 1 kind && leb kind 11) (some (operator kind)) _ refl
      (or (eqb kind (byte_of constant)) (some constant) _ (constant-idle g)
      (or (eqb kind (byte_of copy)) (some copy) _ refl
      (or (eqb kind (byte_of T-gate)) (some T-gate) _ refl
      (or (eqb kind (byte_of F-gate)) (some F-gate) _ refl
      (or (eqb kind (byte_of M-gate)) (some M-gate) _ refl
      (or (eqb kind (byte_of E-gate)) (some E-gate) _ refl
      (or (eqb kind (byte_of IC-gate)) (some IC-gate) none refl refl))))))))
    where
      or : (p : Bool) (x y : Option Kind) → Idle x → Idle y → Idle (pick p x y)
      or true x y p q = p
      or false x y p q = q

module _ (m : List ℕ) (base i : ℕ) (kind : kind_byte m i < byte_of FM-gate) (none! : token_from m base least_size (port_of m i 0) ≡ None) where
  decision-idle : decision_from m base least_size i ≡ idle
  unfolding decision_from decide_at
  decision-idle = rw none! (ap told (kind-idle _ _ _ (kind_byte m i) kind))

  pub idle-without : able_from m base least_size i ≡ false
  unfolding able_from ready_from plan_from planned
  idle-without = rw decision-idle refl

-- ---- when there is none: the number is no link's, or the link's count is 0

pub none-absent : (m : List ℕ) (base l : ℕ) → most_links ≤ l → token_from m base least_size l ≡ None
unfolding token_from head_from
none-absent m base l h = rw (le-ltb l most_links h, no_value) refl

pub none-empty : (m : List ℕ) (base l : ℕ) → l < most_links → get_or m (link_from base least_size l) 0 ≡ 0 → token_from m base least_size l ≡ None
unfolding token_from head_from head_of
none-empty m base l h e =
    let at = link_from base least_size l in
    let count : get_or (part m at least_size) 0 0 ≡ 0 =
    get_or-take least_size (drop at m) 0 0 (omega arith) ∙ get_or-drop at m 0 0 ∙ ap (λ (x : ℕ). get_or m x 0) (omega arith) ∙ e in
    rw (lt-ltb l most_links h, count, no_value) refl

-- ---- one operator after another

module _ (m : List ℕ) (base j : ℕ) (w : List ℕ) (a : Marks) (q : Resting m base least_size j (held w a)) (w' : List ℕ) (r : Marks) (more : Woke w a w' r) where
  pub resting-more : (mark (held w' r) j ≡ 0 → able_from m base least_size j ≡ false) → Resting m base least_size (j + 1) (held w' r)
  resting-more own x h z = go (ℕ_discrete x j)
    where
      go : Dec (x ≡ j) → able_from m base least_size x ≡ false
      go (yes e) = rw e (own (rw e at z))
      go (no n) = q x (omega arith) (more.asleep x z)
