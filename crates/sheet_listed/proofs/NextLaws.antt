-- Laws of specs/NextLaws.antt, and what only they need.
use Rattle.std.specs.Prelude.{ℕ, ◌≡◌, refl, ◌⊎◌, ◌↔◌, Bool, true, false, cond, List, [], ◌∷◌}
use Rattle.std.proofs.Common.{sym, ap, subst, ◌∙◌, inl, inr, arith}
use Rattle.std.proofs.lemmas.Bool.{false≢true}
use Rattle.formula.specs.FaultRows.{Among}
use Rattle.sheet_tidied.specs.Text.{sheet_text}
use Rattle.sheet_listed.specs.Small.{is_small, precedes, small_sheets, Behind, next, none-behind, unlisted, same, headed, following, next_of}
use Rattle.sheet_listed.proofs.Texts.{small-has}
use Rattle.sheet_listed.proofs.Listed.{listed-iff, same_true, next-of, next-unlisted, unlisted-next}
use Rattle.sheet_listed.proofs.Orders.{precedes-once, precedes-nothing, fewer-precedes}
use Rattle.sheet_listed.specs.Ordered.{Ordered}
use Rattle.sheet_listed.specs.Rising.{Precedes}
use Rattle.sheet_listed.proofs.Rising.{not_itself, listed-ordered}
use Rattle.sheet_listed.specs.NextLaws.{Least, Succeeds, Last}

-- ---- answers apart
pub next-none : (y : List ℕ) → next y ≡ none-behind → ⊥
next-none y h = let z : ◌≡◌ {A = ℕ} 0 1 = cc h in omega arith

next-not-listed : (y : List ℕ) → next y ≡ unlisted → ⊥
next-not-listed y h = let z : ◌≡◌ {A = ℕ} 0 1 = cc h in omega arith

none-not-listed : none-behind ≡ unlisted → ⊥
none-not-listed h = let z : ◌≡◌ {A = ℕ} 0 1 = cc h in omega arith

headed-least : (x g : List ℕ) (l : List (List ℕ)) → x ≡ g → Ordered Precedes (x ∷ l) → (y : List ℕ) → headed l ≡ next y → Least (x ∷ l) g y
headed-least x g [] e h y i = absurd (next-none y (sym i))
headed-least x g (z ∷ l) e h y i =
    let k : z ≡ y = cc i in
    record {
      given = inl (sym e);
      listed = inr (inl (sym k));
      behind = subst (λ (w : List ℕ). Precedes w y) e (h.0 y (inl (sym k)));
      least = each k;
    }
  where
    each : z ≡ y → (u : List ℕ) → (u ≡ x) ⊎ ((u ≡ z) ⊎ Among u l) → Precedes g u → (u ≡ y) ⊎ Precedes y u
    each k u (inl p) b = absurd (not_itself g (subst (Precedes g) (p ∙ e) b))
    each k u (inr (inl p)) b = inl (p ∙ k)
    each k u (inr (inr p)) b = inr (subst (λ (w : List ℕ). Precedes w u) k (h.1.0 u p))

following-least : (l : List (List ℕ)) → Ordered Precedes l → (g y : List ℕ) → following l g ≡ next y → Least l g y
unfolding following
following-least [] h g y i = absurd (next-not-listed y (sym i))
following-least (x ∷ l) h g y i = go (same x g) refl i (following-least l h.1 g y)
  where
    go : (b : Bool) → same x g ≡ b → cond b (headed l) (following l g) ≡ next y → (following l g ≡ next y → Least l g y) → Least (x ∷ l) g y
    go true e j ih = headed-least x g l (same_true x g e) h y j
    go false e j ih =
        let k = ih j in
        record {
          given = inr k.given;
          listed = inr k.listed;
          behind = k.behind;
          least = each k;
        }
      where
        each : Least l g y → (u : List ℕ) → (u ≡ x) ⊎ Among u l → Precedes g u → (u ≡ y) ⊎ Precedes y u
        each k u (inl p) b = absurd (precedes-once x g (h.0 g k.given) (subst (Precedes g) p b))
        each k u (inr p) b = k.least u p b

headed-last : (x g : List ℕ) (l : List (List ℕ)) → x ≡ g → headed l ≡ none-behind → (u : List ℕ) → Among u (x ∷ l) → Precedes g u → ⊥
headed-last x g [] e i u (inl p) b = not_itself g (subst (Precedes g) (p ∙ e) b)
headed-last x g (z ∷ l) e i u a b = next-none z i
headed-last x g [] e i u (inr x7) b = elim x7 [ ]

following-last : (l : List (List ℕ)) → Ordered Precedes l → (g : List ℕ) → following l g ≡ none-behind → Among g l × ((u : List ℕ) → Among u l → Precedes g u → ⊥)
unfolding following
following-last [] h g i = absurd (none-not-listed (sym i))
following-last (x ∷ l) h g i = go (same x g) refl i (following-last l h.1 g)
  where
    go : (b : Bool) → same x g ≡ b → cond b (headed l) (following l g) ≡ none-behind
        → (following l g ≡ none-behind → Among g l × ((u : List ℕ) → Among u l → Precedes g u → ⊥))
        → ((g ≡ x) ⊎ Among g l) × ((u : List ℕ) → (u ≡ x) ⊎ Among u l → Precedes g u → ⊥)
    go true e j ih = (inl (sym (same_true x g e)), headed-last x g l (same_true x g e) j)
    go false e j ih = let k = ih j in (inr k.0, each k)
      where
        each : Among g l × ((u : List ℕ) → Among u l → Precedes g u → ⊥) → (u : List ℕ) → (u ≡ x) ⊎ Among u l → Precedes g u → ⊥
        each k u (inl p) b = precedes-once x g (h.0 g k.0) (subst (Precedes g) p b)
        each k u (inr p) b = k.1 u p b

-- ---- the next small sheet
pub empty-first : (u : List ℕ) → is_small u ≡ true → precedes [] u ≡ true
empty-first u h = fewer-precedes [] u (small-has u h).rowwise.some

pub all-ordered : Ordered Precedes ([] ∷ small_sheets)
all-ordered = (λ u a. empty-first u ((listed-iff u).0 a), listed-ordered)

-- One small sheet, so that the list is not empty.
leaf : List ℕ
leaf = sheet_text ((1 ∷ 0 ∷ 0 ∷ 0 ∷ 0 ∷ []) ∷ [])

leaf-small : is_small leaf ≡ true
unfolding is_small leaf sheet_text
leaf-small = refl

not-empty : (g y : List ℕ) → Precedes g y → (y ≡ []) ⊎ Among y small_sheets → is_small y ≡ true
not-empty g y h (inl e) = absurd (precedes-nothing g (subst (Precedes g) e h))
not-empty g y h (inr a) = (listed-iff y).0 a

next-succeeds : (g y : List ℕ) → next_of g ≡ next y → Succeeds g y
next-succeeds g y h = let k = following-least ([] ∷ small_sheets) all-ordered g y (sym (next-of g) ∙ h) in record {
  given = begins k.given;
  small = not-empty g y k.behind k.listed;
  behind = k.behind;
  least = λ u i b. k.least u (inr ((listed-iff u).1 i)) b;
}
  where
    begins : (g ≡ []) ⊎ Among g small_sheets → (g ≡ []) ⊎ (is_small g ≡ true)
    begins (inl e) = inl e
    begins (inr a) = inr ((listed-iff g).0 a)

none_last : (g : List ℕ) → next_of g ≡ none-behind → Last g
none_last g h =
    let k = following-last ([] ∷ small_sheets) all-ordered g (sym (next-of g) ∙ h) in
    let alone : (u : List ℕ) → is_small u ≡ true → precedes g u ≡ true → ⊥ = λ u i. k.1 u (inr ((listed-iff u).1 i)) in
    record { small = begins alone k.0; alone = alone }
  where
    begins : ((u : List ℕ) → is_small u ≡ true → precedes g u ≡ true → ⊥) → (g ≡ []) ⊎ Among g small_sheets → is_small g ≡ true
    begins alone (inl e) = absurd (alone leaf leaf-small (subst (λ (x : List ℕ). Precedes x leaf) (sym e) (empty-first leaf leaf-small)))
    begins alone (inr a) = (listed-iff g).0 a

-- Two that succeed the same sheet are one.
succeeds-once : (g y z : List ℕ) → Succeeds g y → Succeeds g z → z ≡ y
succeeds-once g y z h i = go (h.least z i.small i.behind) (i.least y h.small h.behind)
  where
    go : (z ≡ y) ⊎ Precedes y z → (y ≡ z) ⊎ Precedes z y → z ≡ y
    go (inl e) b = e
    go (inr a) (inl e) = sym e
    go (inr a) (inr b) = absurd (precedes-once y z a b)

-- A sheet that begins a step is not refused by 22.
not-refused : (g : List ℕ) → (g ≡ []) ⊎ (is_small g ≡ true) → next_of g ≡ unlisted → ⊥
not-refused g (inl e) h = (unlisted-next g h).0 e
not-refused g (inr s) h = false≢true (sym (unlisted-next g h).1 ∙ s)

-- An accepted call writes the least small sheet behind the one handed in, and only there is a call accepted.
pub next-least : (g y : List ℕ) → (next_of g ≡ next y) ↔ Succeeds g y
next-least g y = (next-succeeds g y, λ k. back k (next_of g) refl)
  where
    back : Succeeds g y → (b : Behind) → next_of g ≡ b → next_of g ≡ next y
    back k (next z) e = e ∙ ap next (succeeds-once g y z k (next-succeeds g z e))
    back k none-behind e = absurd ((none_last g e).alone y k.small k.behind)
    back k unlisted e = absurd (not-refused g k.given e)

-- 23 comes for the last small sheet, and for no other.
pub next_last : (g : List ℕ) → (next_of g ≡ none-behind) ↔ Last g
next_last g = (none_last g, λ k. back k (next_of g) refl)
  where
    back : Last g → (b : Behind) → next_of g ≡ b → next_of g ≡ none-behind
    back k (next z) e = let i = next-succeeds g z e in absurd (k.alone z i.small i.behind)
    back k none-behind e = e
    back k unlisted e = absurd (not-refused g (inr k.small) e)

-- 22 comes for a sheet that is neither empty nor small, and for no other.
pub next-refused : (g : List ℕ) → (next_of g ≡ unlisted) ↔ ((g ≡ [] → ⊥) × (is_small g ≡ false))
next-refused g = (unlisted-next g, λ k. next-unlisted g k.0 k.1)
