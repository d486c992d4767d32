-- Where things stand in a list: operators by their number (demand_view/specs/Sound: Ith) with the links of their ports, and links in lists in which none stands
-- twice. Assumes nothing.
use Rattle.std.specs.Prelude.{ℕ, zero, suc, ◌<◌, ◌≡◌, refl, ◌≢◌, List, [], ◌∷◌, ◌++◌, length, get_or}
use Rattle.std.proofs.Common.{ap, subst, inl, inr, arith}
use Rattle.std.proofs.Math.Option.{Option, some}
use Rattle.network.specs.Uses.{In}
use Rattle.theory_pieces.specs.Sets.{Different}
use Rattle.graph.specs.Assembly.{Operator}
use Rattle.theory_reference.specs.Plugged.{Each}
use Rattle.theory_wiring.specs.Links.{optional, input_links, output_links}
use Rattle.theory_wiring.specs.Wiring.{inputs_at, outputs_at}
use Rattle.demand_view.specs.Sound.{Ith}

-- ---- operators
pub ith-there : (os : List Operator) (i : ℕ) → i < length os → (o : Operator) × Ith os i o
ith-there [] i h = absurd (omega arith)
ith-there (o ∷ os) zero h = (o, refl)
ith-there (o ∷ os) (suc i) h = ith-there os i (omega arith)

pub ith-inside : (os : List Operator) (i : ℕ) (o : Operator) → Ith os i o → i < length os
ith-inside [] i o e = absurd e
ith-inside (x ∷ os) zero o e = omega arith
ith-inside (x ∷ os) (suc i) o e = let h = ith-inside os i o e in omega arith

pub ith-inputs : (os : List Operator) (i : ℕ) (o : Operator) → Ith os i o → inputs_at os i ≡ input_links o
unfolding inputs_at
ith-inputs [] i o e = absurd e
ith-inputs (x ∷ os) zero o e = ap (λ (y : Operator). input_links y) e
ith-inputs (x ∷ os) (suc i) o e = ith-inputs os i o e

pub ith-outputs : (os : List Operator) (i : ℕ) (o : Operator) → Ith os i o → outputs_at os i ≡ output_links o
unfolding outputs_at
ith-outputs [] i o e = absurd e
ith-outputs (x ∷ os) zero o e = ap (λ (y : Operator). output_links y) e
ith-outputs (x ∷ os) (suc i) o e = ith-outputs os i o e

-- What holds of every operator, by its place in the list.
pub each-ith : (P : Operator → Type 0) (os : List Operator) → Each P os → (i : ℕ) (o : Operator) → Ith os i o → P o
each-ith P [] h i o e = absurd e
each-ith P (x ∷ os) h zero o e = subst P e h.0
each-ith P (x ∷ os) h (suc i) o e = each-ith P os h.1 i o e

pub ith-each : (P : Operator → Type 0) (os : List Operator) → ((i : ℕ) (o : Operator) → Ith os i o → P o) → Each P os
ith-each P [] h = tt
ith-each P (o ∷ os) h = (h zero o refl, ith-each P os (λ i y e. h (suc i) y e))

-- ---- links
pub in-first : (l : ℕ) (xs ys : List ℕ) → In l xs → In l (xs ++ ys)
in-first l [] ys i = absurd i
in-first l (x ∷ xs) ys (inl e) = inl e
in-first l (x ∷ xs) ys (inr i) = inr (in-first l xs ys i)

pub in_rest : (l : ℕ) (xs ys : List ℕ) → In l ys → In l (xs ++ ys)
in_rest l [] ys i = i
in_rest l (x ∷ xs) ys i = inr (in_rest l xs ys i)

pub in-optional : (l : ℕ) (p : Option ℕ) → p ≡ some l → In l (optional p)
in-optional l p e = rw e (inl refl)

pub in-get_d : (i : ℕ) (ls : List ℕ) → i < length ls → In (get_or ls i 0) ls
in-get_d i [] h = absurd (omega arith)
in-get_d zero (x ∷ ls) h = inl refl
in-get_d (suc i) (x ∷ ls) h = inr (in-get_d i ls (omega arith))

pub different-parts : (l : ℕ) (xs ys : List ℕ) → Different (xs ++ ys) → In l xs → In l ys → ⊥
different-parts l [] ys d i j = i
different-parts l (x ∷ xs) ys d (inl e) j = d.0 (subst (λ (z : ℕ). In z (xs ++ ys)) e (in_rest l xs ys j))
different-parts l (x ∷ xs) ys d (inr i) j = different-parts l xs ys d.1 i j

pub different-rest : (xs ys : List ℕ) → Different (xs ++ ys) → Different ys
different-rest [] ys d = d
different-rest (x ∷ xs) ys d = different-rest xs ys d.1

pub different-get_d : (ls : List ℕ) → Different ls → (i j : ℕ) → i < length ls → j < i → get_or ls i 0 ≢ get_or ls j 0
different-get_d [] d i j h k e = omega arith
different-get_d (x ∷ ls) d zero j h k e = omega arith
different-get_d (x ∷ ls) d (suc i) zero h k e = d.0 (subst (λ (z : ℕ). In z ls) e (in-get_d i ls (omega arith)))
different-get_d (x ∷ ls) d (suc i) (suc j) h k e = different-get_d ls d.1 i j (omega arith) (omega arith) e
