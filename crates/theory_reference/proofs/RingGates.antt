-- Laws of specs/RingGates.antt, and what only they need.
use Rattle.std.specs.Prelude.{ℕ, ◌+◌, ◌≡◌, refl, ◌≢◌, ◌⊎◌, Bool, true, false, cond, List, [], ◌∷◌}
use Rattle.std.proofs.Common.{sym, ◌∙◌, ap, subst, inl, inr, arith}
use Rattle.std.proofs.Math.Logic.{Ne-symm}
use Rattle.std.proofs.lemmas.Bool.{false≢true}
use Rattle.std.proofs.Math.Option.{some}
use Rattle.value.specs.declared.Value.{Value}
use Rattle.network.specs.Values.{true-value, false-value}
use Rattle.theory_pieces.specs.Goes.{Net}
use Rattle.network.specs.Net.{Token, val, mark, Demand, Links}
use Rattle.theory_pieces.specs.Load.{Load, On}
use Rattle.theory_pieces.specs.Gate.{Distinct, emitted, Consumes}
use Rattle.theory_pieces.proofs.Gate.{distinct-two, distinct-three}
use Rattle.graph.specs.Assembly.{ring_gate, nth}
use Rattle.theory_reference.specs.Plugged.{registers, demand_of}
use Rattle.theory_reference.proofs.Plugged.{Somewhere}
use Rattle.theory_reference.proofs.Firings.{Fired, fires-at}
use Rattle.theory_reference.specs.Plan.{Ready}
use Rattle.theory_reference.proofs.NameRows.{Works}
use Rattle.theory_reference.specs.RingGates.{Passed, Touched}

module _ (net : Net) (b : Bool) (c e o : ℕ) (v w : Value) (keeps : b ≡ false → w ≡ v) (s : Links) (ce : c ≢ e) (co : c ≢ o) (eo : e ≢ o) (cr : c ≢ registers + o) (er : e ≢ registers + o) where
  abbrev r : ℕ
  r = registers + o

  abbrev given : List (ℕ × Token)
  given = (o, val v) ∷ (r, val w) ∷ []

  ro : o ≢ r
  ro = omega arith

  given-distinct : Distinct (emitted given)
  given-distinct = distinct-two (o, some (val v)) (r, some (val w)) ro

  -- the firing took the register first, then what else is in the load
  room : (xs : Load) → On r xs → s o ≡ [] → (l : ℕ) → On l (emitted given) → (On l xs → ⊥) → s l ≡ []
  room xs at so l (inl z) n = ap s z ∙ so
  room xs at so l (inr (inl z)) n = absurd (n (subst (λ k. On k xs) (sym z) at))
  room xs at so l (inr (inr z)) n = absurd z

  off-given : (l : ℕ) → l ≢ o → l ≢ r → On l (emitted given) → ⊥
  off-given l a d (inl z) = a z
  off-given l a d (inr (inl z)) = d z
  off-given l a d (inr (inr z)) = z

  -- The control and the data were taken.
  done : (xs : Load) → ((l : ℕ) → On l xs → (l ≡ r) ⊎ ((l ≡ c) ⊎ (l ≡ e))) → (Dec (On c xs)) → (Dec (On e xs)) → ((On c xs → ⊥) → s c ≡ []) → ((On e xs → ⊥) → s e ≡ []) → Fired net s xs given →
      Works net (Touched c e o) 1 (Passed b c e o v) s
  done xs sub dc de nc ne h =
      (h.after, h.steps, (at_c dc, at-e de, h.emits o (val v) (inl (refl, refl)), (w, h.emits r (val w) (inr (inl (refl, refl))), keeps)), λ l n. h.keeps l (λ i. away l n (sub l i)) (λ i. out l n i))
    where
      at_c : Dec (On c xs) → h.after c ≡ []
      at_c (yes i) = h.takes c i (off-given c co cr)
      at_c (no i) = h.keeps c i (off-given c co cr) ∙ nc i

      at-e : Dec (On e xs) → h.after e ≡ []
      at-e (yes i) = h.takes e i (off-given e eo er)
      at-e (no i) = h.keeps e i (off-given e eo er) ∙ ne i

      away : (l : ℕ) → (Touched c e o l → ⊥) → (l ≡ r) ⊎ ((l ≡ c) ⊎ (l ≡ e)) → ⊥
      away l n (inl z) = n (inr (inr (inr z)))
      away l n (inr (inl z)) = n (inl z)
      away l n (inr (inr z)) = n (inr (inl z))

      out : (l : ℕ) → (Touched c e o l → ⊥) → On l (emitted given) → ⊥
      out l n (inl z) = n (inr (inr (inl z)))
      out l n (inr (inl z)) = n (inr (inr (inr z)))
      out l n (inr (inr z)) = z

  -- with the data alone (a first firing)
  fresh-fires : (d : Demand) (t : Token) → (a : ℕ) × (net.at a ≡ d) × net.Fine (a ∷ []) → Consumes d ((r, some t) ∷ (e, some (val v)) ∷ []) given → s r ≡ t ∷ [] → s e ≡ val v ∷ [] → s o ≡ [] → s c ≡ [] →
      Works net (Touched c e o) 1 (Passed b c e o v) s
  fresh-fires d t at k sr se so sc =
      done xs sub (no off) (yes (inr (inl refl))) (λ i. sc) (λ i. absurd (i (inr (inl refl))))
      (fires-at net d xs given s at k (distinct-two (r, some t) (e, some (val v)) (Ne-symm er)) given-distinct (sr, (se, tt)) (room xs (inl refl) so))
    where
      xs : Load
      xs = (r, some t) ∷ (e, some (val v)) ∷ []

      off : On c xs → ⊥
      off (inl z) = cr z
      off (inr (inl z)) = ce z
      off (inr (inr z)) = z

      sub : (l : ℕ) → On l xs → (l ≡ r) ⊎ ((l ≡ c) ⊎ (l ≡ e))
      sub l (inl z) = inl z
      sub l (inr (inl z)) = inr (inr z)
      sub l (inr (inr z)) = absurd z

  -- with a control and data
  both-fire : (d : Demand) (t u : Token) → (a : ℕ) × (net.at a ≡ d) × net.Fine (a ∷ []) → Consumes d ((r, some t) ∷ (c, some u) ∷ (e, some (val v)) ∷ []) given → s r ≡ t ∷ [] → s c ≡ u ∷ [] → s e ≡ val v ∷ [] → s o ≡ [] →
      Works net (Touched c e o) 1 (Passed b c e o v) s
  both-fire d t u at k sr sc se so =
      done xs sub (yes (inr (inl refl))) (yes (inr (inr (inl refl)))) (λ i. absurd (i (inr (inl refl)))) (λ i. absurd (i (inr (inr (inl refl)))))
      (fires-at net d xs given s at k (distinct-three (r, some t) (c, some u) (e, some (val v)) (Ne-symm cr) (Ne-symm er) ce) given-distinct (sr, (sc, (se, tt))) (room xs (inl refl) so))
    where
      xs : Load
      xs = (r, some t) ∷ (c, some u) ∷ (e, some (val v)) ∷ []

      sub : (l : ℕ) → On l xs → (l ≡ r) ⊎ ((l ≡ c) ⊎ (l ≡ e))
      sub l (inl z) = inl z
      sub l (inr (inl z)) = inr (inl z)
      sub l (inr (inr (inl z))) = inr (inr z)
      sub l (inr (inr (inr z))) = absurd z

-- The start of a set: e is where the value comes in.
pub start-gate : (net : Net) (b : Bool) (c i st ow o e : ℕ) (v : Value) (s : Links) → Somewhere net (ring_gate b c i st ow o) → cond b st ow ≡ e →
    c ≢ e → c ≢ o → e ≢ o → c ≢ registers + o → e ≢ registers + o → s e ≡ val v ∷ [] → s o ≡ [] → Ready c (registers + o) s → Works net (Touched c e o) 1 (Passed b c e o v) s
unfolding ring_gate nth
start-gate net true c i st ow o e v s at en ce co eo cr er se so rd = go rd
  where
    at' : Somewhere net (ring_gate true c i e ow o)
    at' = subst (λ z. Somewhere net (ring_gate true c i z ow o)) en at

    go : Ready c (registers + o) s → Works net (Touched c e o) 1 (Passed true c e o v) s
    go (inl (sr, sc)) =
        fresh-fires net true c e o v true-value (λ z. absurd (false≢true (sym z))) s ce co eo cr er (demand_of (ring_gate true c i e ow o)) mark at'
        (0, mark, (refl, refl), (1, val v, (refl, refl), ((refl, (refl, tt)), refl))) sr se so sc
    go (inr (w, sr, sc)) =
        both-fire net true c e o v true-value (λ z. absurd (false≢true (sym z))) s ce co eo cr er (demand_of (ring_gate true c i e ow o)) (val w) (val false-value) at'
        (0, val w, (refl, refl), (1, val false-value, (refl, refl), (2, val v, (refl, refl), ((refl, (refl, (refl, tt))), refl)))) sr sc se so
start-gate net false c i st ow o e v s at en ce co eo cr er se so rd = go rd
  where
    at' : Somewhere net (ring_gate false c i st e o)
    at' = subst (λ z. Somewhere net (ring_gate false c i st z o)) en at

    go : Ready c (registers + o) s → Works net (Touched c e o) 1 (Passed false c e o v) s
    go (inl (sr, sc)) =
        fresh-fires net false c e o v v (λ z. refl) s ce co eo cr er (demand_of (ring_gate false c i st e o)) mark at'
        (0, mark, (refl, refl), (1, val v, (refl, refl), ((refl, (refl, tt)), refl))) sr se so sc
    go (inr (w, sr, sc)) =
        both-fire net false c e o v v (λ z. refl) s ce co eo cr er (demand_of (ring_gate false c i st e o)) (val w) (val false-value) at'
        (0, val w, (refl, refl), (1, val false-value, (refl, refl), (2, val v, (refl, refl), ((refl, (refl, (refl, tt))), refl)))) sr sc se so

-- A further round: FM takes the iterated value.
pub again-moves : (net : Net) (c i st ow o : ℕ) (v w : Value) (s : Links) → Somewhere net (ring_gate true c i st ow o) → c ≢ i → c ≢ o → i ≢ o → c ≢ registers + o → i ≢ registers + o →
    s c ≡ val true-value ∷ [] → s i ≡ val v ∷ [] → s o ≡ [] → s (registers + o) ≡ val w ∷ [] → Works net (Touched c i o) 1 (Passed true c i o v) s
unfolding ring_gate nth
again-moves net c i st ow o v w s at ci co io cr ir sc si so sr =
    both-fire net true c i o v true-value (λ z. absurd (false≢true (sym z))) s ci co io cr ir (demand_of (ring_gate true c i st ow o)) (val w) (val true-value) at
    (0, val w, (refl, refl), (1, val true-value, (refl, refl), (2, val v, (refl, refl), ((refl, (refl, (refl, tt))), refl)))) sr sc si so

-- FS repeats what it remembers, and takes its control alone.
pub again-repeats : (net : Net) (c i st ow o : ℕ) (w : Value) (s : Links) → Somewhere net (ring_gate false c i st ow o) → c ≢ o → c ≢ registers + o →
    s c ≡ val true-value ∷ [] → s o ≡ [] → s (registers + o) ≡ val w ∷ [] →
    Works net (λ l. (l ≡ c) ⊎ ((l ≡ o) ⊎ (l ≡ registers + o))) 1 (λ s'. (s' c ≡ []) × (s' o ≡ val w ∷ []) × (s' (registers + o) ≡ val w ∷ [])) s
unfolding ring_gate nth
again-repeats net c i st ow o w s at co cr sc so sr =
    (h.after, h.steps, (h.takes c (inr (inl refl)) off, h.emits o (val w) (inl (refl, refl)), h.emits r (val w) (inr (inl (refl, refl)))), λ l n. h.keeps l (taken l n) (out l n))
  where
    r : ℕ
    r = registers + o

    xs : Load
    xs = (r, some (val w)) ∷ (c, some (val true-value)) ∷ []

    es : List (ℕ × Token)
    es = (o, val w) ∷ (r, val w) ∷ []

    off : On c (emitted es) → ⊥
    off (inl z) = co z
    off (inr (inl z)) = cr z
    off (inr (inr z)) = z

    taken : (l : ℕ) → ((l ≡ c) ⊎ ((l ≡ o) ⊎ (l ≡ r)) → ⊥) → On l xs → ⊥
    taken l n (inl z) = n (inr (inr z))
    taken l n (inr (inl z)) = n (inl z)
    taken l n (inr (inr z)) = z

    out : (l : ℕ) → ((l ≡ c) ⊎ ((l ≡ o) ⊎ (l ≡ r)) → ⊥) → On l (emitted es) → ⊥
    out l n (inl z) = n (inr (inl z))
    out l n (inr (inl z)) = n (inr (inr z))
    out l n (inr (inr z)) = z

    room : (l : ℕ) → On l (emitted es) → (On l xs → ⊥) → s l ≡ []
    room l (inl z) n = ap s z ∙ so
    room l (inr (inl z)) n = absurd (n (inl z))
    room l (inr (inr z)) n = absurd z

    h : Fired net s xs es
    h =
        fires-at net (demand_of (ring_gate false c i st ow o)) xs es s at (0, val w, (refl, refl), (1, val true-value, (refl, refl), ((refl, (refl, tt)), refl)))
        (distinct-two (r, some (val w)) (c, some (val true-value)) (Ne-symm cr)) (distinct-two (o, some (val w)) (r, some (val w)) (omega arith)) (sr, (sc, tt)) room
