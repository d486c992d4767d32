-- Laws of specs/MadeClaims.antt, and what only they need.
use Rattle.std.specs.Prelude.{ℕ, ◌+◌, ◌-◌, ◌≤◌, ◌<◌, ◌≡◌, Bool, List, [], ◌∷◌, get_or, ltb}
use Rattle.std.proofs.Math.Path.{refl, ap, subst}
use Rattle.std.proofs.Common.{sym, ◌∙◌, ap₂, ltb-false, ltb-true, lt-ltb, le-ltb}
use Rattle.std.proofs.Math.Bool.{true, false, cond}
use Rattle.std.proofs.lemmas.Bool.{false≢true}
use native.Mathlib.Omega.{arith}
use Rattle.value.specs.declared.ValueKind.{ValueKind}
use Rattle.names.specs.Names.{trigger, size, members, below}
use Rattle.names.proofs.Counts.{member-at}
use Rattle.names.proofs.Sets.{below-lt}
use Rattle.network.specs.Values.{err-value}
use Rattle.formula.specs.Tree.{Exp}
use Rattle.formula.specs.Free.{free_e}
use Rattle.formula.specs.Admitted.{AdmittedE}
use Rattle.formula.specs.Kinds.{Kinds, kinds_e}
use Rattle.graph.specs.Assembly.{free, links_of, outputs}
use Rattle.graph.specs.Translation.{graph_e, port_of, made_of}
use Rattle.theory_kinds.specs.Kinded.{AllE}
use Rattle.theory_reference.specs.Plugged.{nowhere, registers}
use Rattle.theory_yields.proofs.FreeNames.{small-E, free-E}
use Rattle.theory_yields.proofs.FitGraphs.{fit-E}
use Rattle.theory_claims.specs.Claims.{Claim, of-kind, Meets, truths, Claims}
use Rattle.theory_claims.specs.Telling.{Told, Telling, plain, links, Agree, Marked, Named, Outs}
use Rattle.theory_claims.proofs.Telling.{outs-up}
use Rattle.theory_claims.specs.LaidParts.{Laid}
use Rattle.theory_claims.proofs.LaidOut.{laid_out}
use Rattle.theory_claims.specs.KindClaims.{claims_for}
use Rattle.theory_claims.specs.FormulaParts.{Kinded-names}
use Rattle.theory_claims.proofs.TypedFormulas.{typed-E}
use Rattle.theory_claims.specs.MadeClaims.{Kinds-at, Claimed}

outs-kinds : (p : ℕ) (S : Telling) (ls : List ℕ) (ks : List ValueKind) → Outs p S ls (claims_for ks) → Kinds-at (links S) ls ks
outs-kinds p S [] [] o = tt
outs-kinds p S [] (k ∷ ks) o = absurd o
outs-kinds p S (l ∷ ls) [] o = absurd o
outs-kinds p S (l ∷ ls) (k ∷ ks) o = (o.1, outs-kinds p S ls ks o.2)

-- ---- what is told of links and registers, as claims of a network's links
module _ (S : Telling) where
  register_claim : ℕ → Claim
  register_claim l = cond (ltb l registers) (S l).register truths

  -- Links, then the registers, then links that carry truths.
  claims_by : Claims
  unfolding register_claim
  claims_by l = cond (ltb l registers) (links S l) (register_claim (l - registers))

  by-link : (l : ℕ) → l < registers → claims_by l ≡ links S l
  unfolding claims_by
  by-link l h = ap (λ (b : Bool). cond b (links S l) (register_claim (l - registers))) (lt-ltb l registers h)

  behind-links : (l : ℕ) → claims_by (registers + l) ≡ register_claim l
  unfolding claims_by
  behind-links l =
      let z : registers + l - registers ≡ l = omega arith in
      ap (λ (b : Bool). cond b (links S (registers + l)) (register_claim (registers + l - registers))) (le-ltb (registers + l) registers (omega arith))
      ∙ ap register_claim z

  by_register : (l : ℕ) → l < registers → claims_by (registers + l) ≡ (S l).register
  unfolding register_claim
  by_register l h = behind-links l ∙ ap (λ (b : Bool). cond b (S l).register truths) (lt-ltb l registers h)

  by-beyond : (l : ℕ) → registers + registers ≤ l → claims_by l ≡ truths
  unfolding register_claim
  by-beyond l h =
      let z : registers + (l - registers) ≡ l = omega arith in
      ap claims_by (sym z) ∙ behind-links (l - registers) ∙ ap (λ (b : Bool). cond b (S (l - registers)).register truths) (le-ltb (l - registers) registers (omega arith))

  by-marked : Marked S → (l : ℕ) → Meets (claims_by (registers + l)) err-value
  unfolding register_claim
  by-marked m l = subst (λ (c : Claim). Meets c err-value) (sym (behind-links l)) (go (ltb l registers))
    where
      go : (b : Bool) → Meets (cond b (S l).register truths) err-value
      go true = m l
      go false = refl

  -- The same, told of links below the registers.
  abbrev asTold : Telling
  asTold l = record { link = claims_by l; register = claims_by (registers + l) }

  as-told : (top : ℕ) → top ≤ nowhere → Agree top S asTold
  as-told top h l k = both_told (by-link l (omega arith)) (by_register l (omega arith))
    where
      both_told : {c d : Claim} → c ≡ (S l).link → d ≡ (S l).register → ◌≡◌ {A = Told} (record { link = c; register = d }) (S l)
      both_told p q = ap₂ (λ (c d : Claim). record { link = c; register = d }) p q

-- ---- the made graph
module _ (x : Exp) (kinds : Kinds) (h : AdmittedE x) (k : AllE x kinds) (room : (made_of x).links ≤ nowhere) where
  abbrev n : ℕ
  n = size (free_e x)

  -- The names' claims, and those of their links: the free names, rising.
  abbrev nameClaims : Claims
  nameClaims j = cond (ltb j trigger) (of-kind (kinds j)) truths

  abbrev portTold : Telling
  portTold l = plain (nameClaims (get_or (members (free_e x)) l 0))

  kinded-names : Kinded-names kinds nameClaims
  kinded-names = record { identifiers = λ j l. ap (λ (b : Bool). cond b (of-kind (kinds j)) truths) (lt-ltb j trigger l); triggered = refl }

  low : (j : ℕ) → free_e x j ≡ true → j < 33
  low j e = go (ltb j 33) refl
    where
      go : (b : Bool) → ltb j 33 ≡ b → j < 33
      go true z = ltb-true j 33 z
      go false z = absurd (false≢true (sym (small-E x h j (ltb-false j 33 z)) ∙ e))

  at-port : (j : ℕ) → free_e x j ≡ true → links portTold (port_of x j) ≡ nameClaims j
  unfolding port_of members below
  at-port j e =
      let z : 0 + j ≡ j = omega arith in
      ap nameClaims (member-at 33 0 j (free_e x) (low j e) e ∙ z)

  port-low : (j : ℕ) → free_e x j ≡ true → port_of x j < n
  unfolding port_of
  port-low j e = below-lt (free_e x) j (low j e) e

  named-ports : Named (free (graph_e x)) (port_of x) n portTold nameClaims
  named-ports =
      record { below = λ j e. port-low j (sym (free-E x h j) ∙ e); claims = λ j e. at-port j (sym (free-E x h j) ∙ e) }

  laid : Laid (graph_e x) n (port_of x) (claims_for (kinds_e x kinds)) portTold
  laid =
      laid_out (graph_e x) (fit-E x h) nameClaims (claims_for (kinds_e x kinds)) (typed-E x kinds h k nameClaims kinded-names) n (port_of x) portTold named-ports
      (λ l. refl)

  top-low : n + links_of (graph_e x) ≤ nowhere
  unfolding made_of
  top-low = room

  input-claim : (j : ℕ) → free_e x j ≡ true → claims_by laid.told (port_of x j) ≡ nameClaims j
  input-claim j e =
      by-link laid.told (port_of x j) (under (port_of x j) n (links_of (graph_e x)) (port-low j e) top-low)
      ∙ ap (λ (t : Told). t.link) (laid.agree (port_of x j) (port-low j e))
      ∙ at-port j e
    where
      under : (l m t : ℕ) → l < m → m + t ≤ nowhere → l < registers
      under l m t p q = omega arith

  pub made-claimed : (K : Claims) × Claimed x kinds K
  unfolding made_of
  made-claimed =
      let S : Telling = laid.told in (
        claims_by S,
        record {
          operators = laid.typed (asTold S) (as-told S (n + links_of (graph_e x)) top-low);
          inputs = λ j e l. input-claim j e ∙ kinded-names.identifiers j l;
          triggered = λ e. input-claim trigger e;
          results = result-claims;
          marks = by-marked S laid.marked;
          beyond = by-beyond S;
        },
      )
    where
      result-claims : Kinds-at (claims_by laid.told) (outputs (graph_e x) n (port_of x)) (kinds_e x kinds)
      result-claims =
          outs-kinds (n + links_of (graph_e x)) (asTold laid.told) (outputs (graph_e x) n (port_of x)) (kinds_e x kinds)
          (outs-up (n + links_of (graph_e x)) (n + links_of (graph_e x)) laid.told (asTold laid.told) (omega arith) (as-told laid.told (n + links_of (graph_e x)) top-low)
          (outputs (graph_e x) n (port_of x)) (claims_for (kinds_e x kinds)) laid.outs)
