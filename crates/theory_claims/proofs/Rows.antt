-- Laws of specs/Rows.antt, and what only they need.
use Rattle.std.specs.Prelude.{ℕ, zero, suc, ◌+◌, ◌<◌, ◌≡◌, Bool, length}
use Rattle.std.proofs.Math.Path.{refl, ap}
use Rattle.std.proofs.Common.{sym, ◌∙◌, subst, arith}
use Rattle.std.proofs.Math.Bool.{true, false, cond}
use mathlib.Core.List.{List, [], ◌∷◌, ◌++◌}
use Rattle.value.specs.declared.Value.{Value}
use Rattle.names.specs.Names.{Names, members, trigger}
use Rattle.network.specs.Values.{err-value}
use Rattle.graph.specs.Assembly.{Graph, wire, T, F, gate_outputs, member_of, up_from}
use Rattle.graph.specs.Fit.{gate_inputs}
use Rattle.graph.specs.Translation.{test_name, row, gated, arm, merged, excepted, merge_row, except_row, straight, copied, constant_of}
use Rattle.theory_reference.proofs.NameSets.{member-head, member-tail}
use Rattle.theory_yields.proofs.Naming.{up_from-holds}
use Rattle.theory_yields.specs.Choice.{choice}
use Rattle.theory_claims.specs.Claims.{Claim, Meets, Under, truths, Claims}
use Rattle.theory_claims.specs.TypedGraphs.{claims_of, at, Binds-only}
use Rattle.theory_claims.proofs.TypedGraphs.{Typed}
use Rattle.theory_claims.proofs.Parts.{same-under}
use Rattle.theory_claims.specs.Rows.{over}

-- ---- lists of names
pub claims-cong : (C D : Claims) (ns : List ℕ) → ((x : ℕ) → member_of ns x ≡ true → C x ≡ D x) → claims_of C ns ≡ claims_of D ns
claims-cong C D [] h = refl
claims-cong C D (x ∷ ns) h = cc (h x (member-head x ns), claims-cong C D ns (λ y i. h y (member-tail x ns y i)))

pub claims-of-append : (C : Claims) (ns ms : List ℕ) → claims_of C (ns ++ ms) ≡ claims_of C ns ++ claims_of C ms
claims-of-append C [] ms = refl
claims-of-append C (x ∷ ns) ms = ap (λ (cs : List Claim). C x ∷ cs) (claims-of-append C ns ms)

-- Names in a row have a list's claims.
pub up-claims : (C : Claims) (a b : ℕ) (cs : List Claim) → length cs ≡ b → ((i : ℕ) → i < b → C (a + i) ≡ at cs i) → claims_of C (up_from a b) ≡ cs
unfolding up_from
up-claims C a zero [] e h = refl
up-claims C a zero (c ∷ cs) e h = absurd (omega arith)
up-claims C a (suc b) [] e h = absurd (omega arith)
up-claims C a (suc b) (c ∷ cs) e h =
    let z : a + 0 ≡ a = omega arith in
    cc (
      ap C (sym z) ∙ h 0 (omega arith),
      up-claims C (suc a) b cs (omega arith) (λ i l. let y : suc a + i ≡ a + suc i = omega arith in ap C y ∙ h (suc i) (omega arith)),
    )

-- ---- gates
module _ (C : Claims) where
  pub constant-typed : (v : Value) (c : Claim) → Meets c v → Typed (constant_of v) C (c ∷ [])
  unfolding gate_inputs gate_outputs
  constant-typed v c m = (C trigger ∷ [], refl, (refl, refl, m))

  row_typed : (f : ℕ → Graph) (D : Claims) (ns : List ℕ) → ((x : ℕ) → member_of ns x ≡ true → Typed (f x) C (D x ∷ [])) → Typed (row f ns) C (claims_of D ns)
  unfolding row
  row_typed f D [] h = refl
  row_typed f D (x ∷ ns) h = (D x ∷ [], claims_of D ns, refl, h x (member-head x ns), row_typed f D ns (λ y i. h y (member-tail x ns y i)))

  -- One result for each of w places.
  up-typed : (f : ℕ → Graph) (w : ℕ) (ds : List Claim) → length ds ≡ w → ((i : ℕ) → i < w → Typed (f i) C (at ds i ∷ [])) → Typed (row f (up_from 0 w)) C ds
  up-typed f w ds e h =
      subst (Typed (row f (up_from 0 w)) C)
      (up-claims (at ds) 0 w ds e (λ i l. let z : 0 + i ≡ i = omega arith in ap (at ds) z))
      (row_typed f (at ds) (up_from 0 w) (λ i m. h i (omega (arith, up_from-holds 0 w i m))))

  gated-T : (x : ℕ) → C test_name ≡ truths → Typed (gated T x) C (C x ∷ [])
  unfolding gate_inputs gate_outputs
  gated-T x e = (C test_name ∷ C x ∷ [], (C test_name ∷ [], C x ∷ [], refl, refl, refl), (refl, refl, (same-under (C test_name) truths e, λ v m. m)))

  gated-F : (x : ℕ) → C test_name ≡ truths → Typed (gated F x) C (C x ∷ [])
  unfolding gate_inputs gate_outputs
  gated-F x e = (C test_name ∷ C x ∷ [], (C test_name ∷ [], C x ∷ [], refl, refl, refl), (refl, refl, (same-under (C test_name) truths e, λ v m. m)))

  -- An arm behind its gates: they leave the names' claims.
  pub arm-T : (f : Names) (a : Graph) (cs : List Claim) → C test_name ≡ truths → Typed a C cs → Typed (arm T f a) C cs
  unfolding arm
  arm-T f a cs e t = (C, (λ x i. refl), row_typed (gated T) C (members f) (λ x i. gated-T x e), t)

  pub arm-F : (f : Names) (a : Graph) (cs : List Claim) → C test_name ≡ truths → Typed a C cs → Typed (arm F f a) C cs
  unfolding arm
  arm-F f a cs e t = (C, (λ x i. refl), row_typed (gated F) C (members f) (λ x i. gated-F x e), t)

  module _ (c w : ℕ) (ds : List Claim) (wide : length ds ≡ w) where
    -- M on the results of two arms, E on those of one.
    pub merge-typed : (s : Bool → ℕ) → C c ≡ truths
        → ((i : ℕ) → i < w → Under (C (s true + i)) (at ds i) × Under (C (s false + i)) (at ds i) × Meets (at ds i) err-value) → Typed (merge_row c s w) C ds
    unfolding merge_row gate_inputs gate_outputs
    merge-typed s e h =
        up-typed (merged c s) w ds wide
        (λ i l. (
          C c ∷ C (s true + i) ∷ C (s false + i) ∷ [],
          (C c ∷ [], C (s true + i) ∷ C (s false + i) ∷ [], refl, refl, (C (s true + i) ∷ [], C (s false + i) ∷ [], refl, refl, refl)),
          (refl, refl, (same-under (C c) truths e, (h i l).0, (h i l).1, (h i l).2)),
        ))

    pub except-typed : (s : ℕ) → C c ≡ truths → ((i : ℕ) → i < w → Under (C (s + i)) (at ds i) × Meets (at ds i) err-value) → Typed (except_row c s w) C ds
    unfolding except_row gate_inputs gate_outputs
    except-typed s e h =
        up-typed (excepted c s) w ds wide
        (λ i l. (
          C c ∷ C (s + i) ∷ [],
          (C c ∷ [], C (s + i) ∷ [], refl, refl, refl),
          (refl, refl, (same-under (C c) truths e, (h i l).0, (h i l).1)),
        ))

    pub copied-typed : ((i : ℕ) → i < w → at ds i ≡ C c) → Typed (copied c w) C ds
    unfolding copied
    copied-typed h = up-typed (λ i. wire c) w ds wide (λ i l. ap (λ (d : Claim). d ∷ []) (h i l))

  pub straight-typed : (s w : ℕ) (ds : List Claim) → length ds ≡ w → ((i : ℕ) → i < w → at ds i ≡ C (s + i)) → Typed (straight s w) C ds
  unfolding straight
  straight-typed s w ds e h = up-typed (λ i. wire (s + i)) w ds e (λ i l. ap (λ (d : Claim). d ∷ []) (h i l))

module _ (ns : List ℕ) (R C : Claims) where
  pub over-in : (k : ℕ) → member_of ns k ≡ true → over ns R C k ≡ R k
  unfolding over
  over-in k e = ap (λ (b : Bool). cond b (R k) (C k)) e

  pub over-only : Binds-only ns C (over ns R C)
  unfolding over
  over-only k e = ap (λ (b : Bool). cond b (R k) (C k)) e

  pub over-keeps : (k : ℕ) → C k ≡ R k → over ns R C k ≡ R k
  unfolding over
  over-keeps k e = go (member_of ns k)
    where
      go : (b : Bool) → cond b (R k) (C k) ≡ R k
      go true = refl
      go false = e

  pub over-claims : claims_of (over ns R C) ns ≡ claims_of R ns
  over-claims = claims-cong (over ns R C) R ns over-in

-- ---- an if
-- With a table of claims that has the names of the test and of both arms, and leaves those below.
module _ (R C : Claims) (low : (k : ℕ) → k < test_name → R k ≡ C k) (test : R test_name ≡ truths) where
  -- Names below the test's keep their claims.
  abbrev pub Same-low : Claims → Type 0
  Same-low D = (k : ℕ) → k < test_name → D k ≡ C k

  pub choice-typed : (t : Graph) (ns : List ℕ) (f : Names) (a : Graph) (ms : List ℕ) (g : Names) (b j : Graph) (cs : List Claim)
      → Typed t C (truths ∷ []) → ((D : Claims) → Same-low D → Typed a D (claims_of R ns)) → ((D : Claims) → Same-low D → Typed b D (claims_of R ms))
      → ((D : Claims) → D test_name ≡ truths → ((k : ℕ) → member_of ns k ≡ true → D k ≡ R k) → ((k : ℕ) → member_of ms k ≡ true → D k ≡ R k) → Typed j D cs)
      → Typed (choice t ns f a ms g b j) C cs
  choice-typed t ns f a ms g b j cs tt' ta tb tj =
      let D₁ : Claims = over (test_name ∷ []) R C in
      let D₂ : Claims = over ns R D₁ in
      let D₃ : Claims = over ms R D₂ in
      let t₁ : D₁ test_name ≡ R test_name = over-in (test_name ∷ []) R C test_name (member-head test_name []) in
      let t₂ : D₂ test_name ≡ R test_name = over-keeps ns R D₁ test_name t₁ in
      let l₁ : (k : ℕ) → k < test_name → D₁ k ≡ R k = λ k h. over-keeps (test_name ∷ []) R C k (sym (low k h)) in
      let l₂ : (k : ℕ) → k < test_name → D₂ k ≡ R k = λ k h. over-keeps ns R D₁ k (l₁ k h) in (
        D₁,
        over-only (test_name ∷ []) R C,
        subst (λ (c : Claim). Typed t C (c ∷ [])) (sym (t₁ ∙ test)) tt',
        (
          D₂,
          over-only ns R D₁,
          arm-T D₁ f a (claims_of D₂ ns) (t₁ ∙ test) (subst (Typed a D₁) (sym (over-claims ns R D₁)) (ta D₁ (λ k h. l₁ k h ∙ low k h))),
          (
            D₃,
            over-only ms R D₂,
            arm-F D₂ g b (claims_of D₃ ms) (t₂ ∙ test) (subst (Typed b D₂) (sym (over-claims ms R D₂)) (tb D₂ (λ k h. l₂ k h ∙ low k h))),
            tj D₃ (over-keeps ms R D₂ test_name t₂ ∙ test) (λ k e. over-keeps ms R D₂ k (over-in ns R D₁ k e)) (λ k e. over-in ms R D₂ k e),
          ),
        ),
      )
