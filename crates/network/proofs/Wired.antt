-- Laws of specs/Wired.antt, and what only they need.
use Rattle.std.specs.Prelude.{ℕ, ◌≡◌, ◌≢◌, List, [], ◌∷◌}
use Rattle.std.proofs.Common.{subst}
use Rattle.network.specs.Net.{Token, Demand, ask, fire, halt}
use Rattle.network.specs.Commute.{Never-asks, Not-among, Never-emits, Free-emissions, Free}
use Rattle.network.specs.Wired.{Emits-in, Uses}

module _ (R W : ℕ → Type 0) where
  pub never-asks : (d : Demand) → Uses R W d → (l : ℕ) → ¬ (R l) → Never-asks d l
  never-asks (ask m k) u l n = (λ e. n (subst R e u.0), λ t. never-asks (k t) (u.1 t) l n)
  never-asks (fire es r) u l n = tt
  never-asks halt u l n = tt

  not-among : (es : List (ℕ × Token)) → Emits-in W es → (l : ℕ) → ¬ (W l) → Not-among es l
  not-among [] u l n = tt
  not-among (e ∷ es) u l n = (λ z. n (subst W z u.0), not-among es u.1 l n)

  pub never-emits : (d : Demand) → Uses R W d → (l : ℕ) → ¬ (W l) → Never-emits d l
  never-emits (ask m k) u l n = λ t. never-emits (k t) (u.1 t) l n
  never-emits (fire es r) u l n = not-among es u l n
  never-emits halt u l n = tt

module _ (R W R' W' : ℕ → Type 0) (ra : (l : ℕ) → R l → ¬ (R' l)) (wa : (l : ℕ) → W l → ¬ (W' l)) (e : Demand) (ue : Uses R' W' e) where
  free-emissions : (es : List (ℕ × Token)) → Emits-in W es → Free-emissions es e
  free-emissions [] u = tt
  free-emissions (x ∷ es) u = (never-emits R' W' e ue x.0 (wa x.0 u.0), free-emissions es u.1)

  -- What the one takes from and puts onto, the other does not.
  pub free_of : (d : Demand) → Uses R W d → Free d e
  free_of (ask l k) u = (never-asks R' W' e ue l (ra l u.0), λ t. free_of (k t) (u.1 t))
  free_of (fire es r) u = free-emissions es u
  free_of halt u = tt

-- Every link has one taker and one putter, and each operator keeps to its own: then any two are free of one another.
pub wired : (net : ℕ → Demand) (R W : ℕ → ℕ → Type 0) → ((a : ℕ) → Uses (R a) (W a) (net a)) →
    ((a b l : ℕ) → R a l → R b l → a ≡ b) → ((a b l : ℕ) → W a l → W b l → a ≡ b) → (a b : ℕ) → a ≢ b → Free (net a) (net b)
wired net R W us one-taker one-putter a b ne =
    free_of (R a) (W a) (R b) (W b) (λ l x y. ne (one-taker a b l x y)) (λ l x y. ne (one-putter a b l x y)) (net b) (us b) (net a) (us a)
