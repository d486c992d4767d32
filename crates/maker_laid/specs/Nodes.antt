-- What the maker knows of an accepted sheet's rows: the tables that the reader made are right for each row as its place has it read, and each row's
-- tree is admitted. Document 01: "Body places are d of a for, and, of a row in a body place, d of a let and b, c of an if." A row in a body
-- place that is no let, if or iter is also read as the expression that the body returns.
use Rattle.std.specs.Prelude.{ℕ, ◌+◌, ◌-◌, ◌*◌, ◌≤◌, ◌<◌, ◌≡◌, Bool, not, ◌&&◌, ◌||◌, List, length, get_or}
use Rattle.std.proofs.Math.Path.{refl, ap, subst}
use Rattle.std.proofs.Common.{sym, ◌∙◌, eq-eqb, arith}
use Rattle.std.proofs.Math.Bool.{true, false}
use Rattle.names.specs.Names.{Names, trigger, range, mask}
use Rattle.formula.specs.declared.Shape.{Shape}
use Rattle.formula.specs.declared.Shape.TheVariants.{Identifier, Constant, Pair, Operator, Let, If, For, Iter}
use Rattle.formula.specs.Constants.{constant_most}
use Rattle.formula.specs.Sheet.{shape_at, named_in}
use Rattle.formula.specs.Tree.{Exp, identifier, constant, pair, operator, let_e, if_e, for_e, ret, iter, let_b, if_b, exp_of, body_of, exp_node, body_node}
use Rattle.formula.specs.TreeLaws.{Named, AllBetween}
use Rattle.formula.proofs.TreeLaws.{exp-as, body-as, between-as}
use Rattle.formula.specs.Widths.{width, returned}
use Rattle.formula.specs.Free.{free_e, free_b}
use Rattle.formula.specs.Admitted.{AdmittedE, AdmittedB}
use Rattle.graph.specs.Assembly.{Graph, wire, beside, bind, gate, loop, oper, up_from}
use Rattle.graph.specs.Translation.{graph_e, graph_b, test_name, returned_name, arm_names, merge_row, joined}
use Rattle.meaning.proofs.WidthLaws.{let-fits, let-fits-B}
use Rattle.theory_yields.specs.Naming.{Small}
use Rattle.theory_yields.proofs.Naming.{or_left}
use Rattle.theory_yields.specs.Choice.{Has, choice}
use Rattle.theory_yields.proofs.FreeNames.{free-E, free-B, small-E, small-B, body-triggered}
use Rattle.theory_yields.specs.FitGraphs.{Returning}
use Rattle.theory_yields.proofs.FitGraphs.{arms-returning, let-returning, loop-returning}

-- ---- a row by its place

abbrev pub graph_in : Bool → ℕ → List ℕ → ℕ → Graph
graph_in false w t r = graph_e (exp_of t r)
graph_in true w t r = graph_b w (body_of t r)

abbrev pub free_in : Bool → List ℕ → ℕ → Names
free_in false t r = free_e (exp_of t r)
free_in true t r = free_b (body_of t r)

-- w is the returned width of the whole loop, for a row in a body place
abbrev pub FitsIn : Bool → ℕ → List ℕ → ℕ → Type 0
FitsIn false w t r = AdmittedE (exp_of t r)
FitsIn true w t r = AdmittedB (body_of t r) × Returning w (body_of t r)

pub has_in : (p : Bool) (w : ℕ) (t : List ℕ) (r : ℕ) → FitsIn p w t r → Has (graph_in p w t r) (free_in p t r)
has_in false w t r h = free-E (exp_of t r) h
has_in true w t r h = free-B w (body_of t r) h.0

pub small-in : (p : Bool) (w : ℕ) (t : List ℕ) (r : ℕ) → FitsIn p w t r → Small (free_in p t r)
small-in false w t r h = small-E (exp_of t r) h
small-in true w t r h = small-B (body_of t r) h.0

-- Every expression has a free name.
some-name : (x : Exp) → AdmittedE x → (k : ℕ) × (free_e x k ≡ true)
unfolding free_e
some-name (identifier a) h = (a, eq-eqb a a refl)
some-name (constant k a) h = (trigger, refl)
some-name (pair x y) h = let s = some-name x h.1 in (s.0, or_left (free_e x s.0) (free_e y s.0) s.1)
some-name (operator c x) h = some-name x h.2
some-name (let_e a b x y) h = let s = some-name x h.2 in (s.0, or_left (free_e x s.0) (free_e y s.0 && not (range a b s.0)) s.1)
some-name (if_e t x y) h = let s = some-name t h.1 in (s.0, or_left (free_e t s.0) (free_e x s.0 || free_e y s.0) s.1)
some-name (for_e a b x y) h = let s = some-name x h.2 in (s.0, or_left (free_e x s.0) (free_b y s.0 && not (range a b s.0)) s.1)

pub some_in : (p : Bool) (w : ℕ) (t : List ℕ) (r : ℕ) → FitsIn p w t r → (k : ℕ) × (free_in p t r k ≡ true)
some_in false w t r h = some-name (exp_of t r) h
some_in true w t r h = (trigger, body-triggered (body_of t r) h.0)

-- ---- the tables

-- The places of the rows that a row names, when the row is read as an expression or as a body.
abbrev pub Kids : (ℕ → Bool) → Bool → Shape → Type 0
Kids place p (Identifier a) = Unit {0}
Kids place p (Constant k a) = Unit {0}
Kids place p (Pair a b) = (place a ≡ false) × (place b ≡ false)
Kids place p (Operator k b) = place b ≡ false
Kids place p (Let a b c d) = (place c ≡ false) × (place d ≡ p)
Kids place p (If a b c) = (place a ≡ false) × (place b ≡ p) × (place c ≡ p)
Kids place p (For a b c d) = (place c ≡ false) × (place d ≡ true)
Kids place p (Iter a) = place a ≡ false

pub record Read (t masks widths : List ℕ) : Type 0 where
  pub rows : ℕ
  pub place : ℕ → Bool
  pub long : 5 * rows ≤ length t
  pub masks-long : rows ≤ length masks
  pub widths-long : rows ≤ length widths
  pub named : Named t rows
  pub kids : (r : ℕ) → 1 ≤ r → r ≤ rows → Kids place (place r) (shape_at t r)
  -- the mask of each row's free names
  pub masked : (r : ℕ) → 1 ≤ r → r ≤ rows → get_or masks (r - 1) 0 ≡ mask (free_in (place r) t r)
  -- the returned width of each row in a body place
  pub returns : (r : ℕ) → 1 ≤ r → r ≤ rows → place r ≡ true → get_or widths (r - 1) 0 ≡ returned (body_of t r)

-- Row r is ready to be emitted as an expression or as a body.
pub record Ready (t masks widths : List ℕ) (p : Bool) (w r : ℕ) : Type 0 where
  pub read : Read t masks widths
  pub low : 1 ≤ r
  pub high : r ≤ read.rows
  pub kids : Kids read.place p (shape_at t r)
  pub fits : FitsIn p w t r

-- A row named by another, with its mask.
pub record Child (t masks widths : List ℕ) (p : Bool) (w r k : ℕ) : Type 0 where
  pub ready : Ready t masks widths p w k
  pub masked : get_or masks (k - 1) 0 ≡ mask (free_in p t k)
  pub less : k < r
  pub in-masks : k ≤ length masks
  pub in-widths : k ≤ length widths

module _ (t masks widths : List ℕ) where
  child : (R : Read t masks widths) (p : Bool) (w r k : ℕ) → r ≤ R.rows → 1 ≤ k → k < r → R.place k ≡ p → FitsIn p w t k → Child t masks widths p w r k
  child R p w r k h l u e f =
      let n : k ≤ R.rows = omega arith in
      record {
        ready =
            record {
              read = R;
              low = l;
              high = n;
              kids = subst (λ (q : Bool). Kids R.place q (shape_at t k)) e (R.kids k l n);
              fits = f;
            };
        masked = R.masked k l n ∙ ap (λ (q : Bool). mask (free_in q t k)) e;
        less = u;
        in-masks = (let m : R.rows ≤ length masks = R.masks-long in omega arith);
        in-widths = (let m : R.rows ≤ length widths = R.widths-long in omega arith);
      }

  module _ (p : Bool) (w r : ℕ) (Y : Ready t masks widths p w r) where
    kids-as : (s : Shape) → shape_at t r ≡ s → Kids Y.read.place p s
    kids-as s e = subst (λ (z : Shape). Kids Y.read.place p z) e Y.kids

    between : (s : Shape) → shape_at t r ≡ s → AllBetween r (named_in s)
    between s e = between-as t Y.read.rows Y.read.named r Y.low Y.high s e

    exp-is : (s : Shape) → shape_at t r ≡ s → exp_of t r ≡ exp_node (exp_of t) (body_of t) s
    exp-is s e = exp-as t Y.read.rows Y.read.named r Y.low Y.high s e

    body_is : (s : Shape) → shape_at t r ≡ s → body_of t r ≡ body_node (exp_of t) (body_of t) s
    body_is s e = body-as t Y.read.rows Y.read.named r Y.low Y.high s e

  -- ---- rows read as expressions

  module _ (w r : ℕ) (Y : Ready t masks widths false w r) where
    admitted : (s : Shape) → shape_at t r ≡ s → AdmittedE (exp_node (exp_of t) (body_of t) s)
    admitted s e = subst AdmittedE (exp-is false w r Y s e) Y.fits

    pub at-identifier : (a : ℕ) → shape_at t r ≡ Identifier a → (graph_e (exp_of t r) ≡ wire a) × (a < 32)
    unfolding exp_node graph_e
    at-identifier a e = (ap graph_e (exp-is false w r Y (Identifier a) e), admitted (Identifier a) e)

    pub at_constant : (k a : ℕ) → shape_at t r ≡ Constant k a → (graph_e (exp_of t r) ≡ graph_e (constant k a)) × (a ≤ constant_most k)
    unfolding exp_node
    at_constant k a e = (ap graph_e (exp-is false w r Y (Constant k a) e), admitted (Constant k a) e)

    pub at_pair : (a b : ℕ) → shape_at t r ≡ Pair a b
        → (graph_e (exp_of t r) ≡ beside (graph_e (exp_of t a)) (graph_e (exp_of t b))) × AdmittedE (pair (exp_of t a) (exp_of t b))
        × Child t masks widths false 0 r a × Child t masks widths false 0 r b
    unfolding exp_node graph_e named_in
    at_pair a b e =
        let h : AdmittedE (pair (exp_of t a) (exp_of t b)) = admitted (Pair a b) e in
        let n = between false w r Y (Pair a b) e in
        let k = kids-as false w r Y (Pair a b) e in (
          ap graph_e (exp-is false w r Y (Pair a b) e),
          h,
          child Y.read false 0 r a Y.high n.0.0 n.0.1 k.0 h.1,
          child Y.read false 0 r b Y.high n.1.0.0 n.1.0.1 k.1 h.2,
        )

    pub at-operator : (c b : ℕ) → shape_at t r ≡ Operator c b
        → (graph_e (exp_of t r) ≡ gate (oper c) (graph_e (exp_of t b))) × AdmittedE (operator c (exp_of t b)) × Child t masks widths false 0 r b
    unfolding exp_node graph_e named_in
    at-operator c b e =
        let h : AdmittedE (operator c (exp_of t b)) = admitted (Operator c b) e in
        let n = between false w r Y (Operator c b) e in (
          ap graph_e (exp-is false w r Y (Operator c b) e),
          h,
          child Y.read false 0 r b Y.high n.0.0 n.0.1 (kids-as false w r Y (Operator c b) e) h.2,
        )

    pub at-for : (a b c d : ℕ) → shape_at t r ≡ For a b c d
        → (graph_e (exp_of t r) ≡ loop (up_from a b) (graph_e (exp_of t c)) (graph_b (returned (body_of t d)) (body_of t d)))
        × AdmittedE (for_e a b (exp_of t c) (body_of t d)) × Child t masks widths false 0 r c
        × Child t masks widths true (returned (body_of t d)) r d × (get_or widths (d - 1) 0 ≡ returned (body_of t d))
    unfolding exp_node graph_e named_in
    at-for a b c d e =
        let h : AdmittedE (for_e a b (exp_of t c) (body_of t d)) = admitted (For a b c d) e in
        let n = between false w r Y (For a b c d) e in
        let k = kids-as false w r Y (For a b c d) e in (
          ap graph_e (exp-is false w r Y (For a b c d) e),
          h,
          child Y.read false 0 r c Y.high n.0.0 n.0.1 k.0 h.2,
          child Y.read true (returned (body_of t d)) r d Y.high n.1.0.0 n.1.0.1 k.1 (h.3, loop-returning a b (exp_of t c) (body_of t d) h),
          Y.read.returns d n.1.0.0 (let z : r ≤ Y.read.rows = Y.high in let y : d < r = n.1.0.1 in omega arith) k.1,
        )

    -- an iter in an expression place is refused before; its tree is that of the row it names
    pub at-iter : (a : ℕ) → shape_at t r ≡ Iter a → (graph_e (exp_of t r) ≡ graph_e (exp_of t a)) × Child t masks widths false 0 r a
    unfolding exp_node named_in
    at-iter a e =
        let n = between false w r Y (Iter a) e in (
          ap graph_e (exp-is false w r Y (Iter a) e),
          child Y.read false 0 r a Y.high n.0.0 n.0.1 (kids-as false w r Y (Iter a) e) (admitted (Iter a) e),
        )

  -- ---- lets and ifs, in both places

  pub at-let : (p : Bool) (w r : ℕ) (Y : Ready t masks widths p w r) (a b c d : ℕ) → shape_at t r ≡ Let a b c d
      → (graph_in p w t r ≡ bind (up_from a b) (graph_e (exp_of t c)) (graph_in p w t d)) × ((1 ≤ b) × (a + b ≤ 32)) × (width (exp_of t c) ≡ b)
      × Child t masks widths false 0 r c × Child t masks widths p w r d
  unfolding exp_node body_node graph_e graph_b named_in
  at-let false w r Y a b c d e =
      let h : AdmittedE (let_e a b (exp_of t c) (exp_of t d)) = admitted w r Y (Let a b c d) e in
      let n = between false w r Y (Let a b c d) e in
      let k = kids-as false w r Y (Let a b c d) e in (
        ap graph_e (exp-is false w r Y (Let a b c d) e),
        h.1,
        let-fits a b (exp_of t c) (exp_of t d) h.0.0,
        child Y.read false 0 r c Y.high n.0.0 n.0.1 k.0 h.2,
        child Y.read false w r d Y.high n.1.0.0 n.1.0.1 k.1 h.3,
      )
  at-let true w r Y a b c d e =
      let i : body_of t r ≡ let_b a b (exp_of t c) (body_of t d) = body_is true w r Y (Let a b c d) e in
      let h : AdmittedB (let_b a b (exp_of t c) (body_of t d)) = subst AdmittedB i Y.fits.0 in
      let u : Returning w (let_b a b (exp_of t c) (body_of t d)) = subst (Returning w) i Y.fits.1 in
      let n = between true w r Y (Let a b c d) e in
      let k = kids-as true w r Y (Let a b c d) e in (
        ap (graph_b w) i,
        h.1,
        let-fits-B a b (exp_of t c) (body_of t d) h.0.0,
        child Y.read false 0 r c Y.high n.0.0 n.0.1 k.0 h.2,
        child Y.read true w r d Y.high n.1.0.0 n.1.0.1 k.1 (h.3, let-returning w a b (exp_of t c) (body_of t d) u),
      )

  -- the names of an arm's outputs, and what joins the arms
  abbrev pub sideNames : Bool → Bool → ℕ → ℕ → ℕ → List ℕ
  sideNames false side w b c = up_from (returned_name side) (width (exp_of t b))
  sideNames true true w b c = arm_names true w (body_of t b)
  sideNames true false w b c = arm_names false w (body_of t c)

  abbrev pub join_of : Bool → ℕ → ℕ → ℕ → Graph
  join_of false w b c = merge_row test_name returned_name (width (exp_of t b))
  join_of true w b c = joined w (body_of t b) (body_of t c)

  abbrev pub choice_of : Bool → ℕ → ℕ → ℕ → ℕ → Graph
  choice_of p w a b c =
      choice (graph_e (exp_of t a)) (sideNames p true w b c) (free_in p t b) (graph_in p w t b) (sideNames p false w b c) (free_in p t c) (graph_in p w t c) (join_of p w b c)

  -- what holds of the arms in an expression place, and in a body place
  abbrev pub ArmsFit : Bool → ℕ → ℕ → ℕ → ℕ → Type 0
  ArmsFit false w a b c = AdmittedE (if_e (exp_of t a) (exp_of t b) (exp_of t c))
  ArmsFit true w a b c = AdmittedB (if_b (exp_of t a) (body_of t b) (body_of t c)) × Returning w (if_b (exp_of t a) (body_of t b) (body_of t c))

  pub at-if : (p : Bool) (w r : ℕ) (Y : Ready t masks widths p w r) (a b c : ℕ) → shape_at t r ≡ If a b c
      → (graph_in p w t r ≡ choice_of p w a b c) × ArmsFit p w a b c × Child t masks widths false 0 r a × Child t masks widths p w r b × Child t masks widths p w r c
  unfolding exp_node body_node graph_e graph_b named_in
  at-if false w r Y a b c e =
      let h : AdmittedE (if_e (exp_of t a) (exp_of t b) (exp_of t c)) = admitted w r Y (If a b c) e in
      let n = between false w r Y (If a b c) e in
      let k = kids-as false w r Y (If a b c) e in (
        ap graph_e (exp-is false w r Y (If a b c) e),
        h,
        child Y.read false 0 r a Y.high n.0.0 n.0.1 k.0 h.1,
        child Y.read false w r b Y.high n.1.0.0 n.1.0.1 k.1 h.2,
        child Y.read false w r c Y.high n.1.1.0.0 n.1.1.0.1 k.2 h.3,
      )
  at-if true w r Y a b c e =
      let i : body_of t r ≡ if_b (exp_of t a) (body_of t b) (body_of t c) = body_is true w r Y (If a b c) e in
      let h : AdmittedB (if_b (exp_of t a) (body_of t b) (body_of t c)) = subst AdmittedB i Y.fits.0 in
      let u : Returning w (if_b (exp_of t a) (body_of t b) (body_of t c)) = subst (Returning w) i Y.fits.1 in
      let v = arms-returning w (exp_of t a) (body_of t b) (body_of t c) h u in
      let n = between true w r Y (If a b c) e in
      let k = kids-as true w r Y (If a b c) e in (
        ap (graph_b w) i,
        (h, u),
        child Y.read false 0 r a Y.high n.0.0 n.0.1 k.0 h.1,
        child Y.read true w r b Y.high n.1.0.0 n.1.0.1 k.1 (h.2, v.0),
        child Y.read true w r c Y.high n.1.1.0.0 n.1.1.0.1 k.2 (h.3, v.1),
      )

  -- ---- rows in a body place that end the body

  pub at-iteration : (w r : ℕ) (Y : Ready t masks widths true w r) (a : ℕ) → shape_at t r ≡ Iter a
      → (body_of t r ≡ iter (exp_of t a)) × Child t masks widths false 0 r a
  unfolding body_node named_in
  at-iteration w r Y a e =
      let i : body_of t r ≡ iter (exp_of t a) = body_is true w r Y (Iter a) e in
      let h : AdmittedB (iter (exp_of t a)) = subst AdmittedB i Y.fits.0 in
      let n = between true w r Y (Iter a) e in
      (i, child Y.read false 0 r a Y.high n.0.0 n.0.1 (kids-as true w r Y (Iter a) e) h.1)

  -- neither a let nor an if nor an iter
  abbrev pub Ends : Shape → Type 0
  Ends (Identifier a) = Unit {0}
  Ends (Constant k a) = Unit {0}
  Ends (Pair a b) = Unit {0}
  Ends (Operator a b) = Unit {0}
  Ends (Let a b c d) = ⊥
  Ends (If a b c) = ⊥
  Ends (For a b c d) = Unit {0}
  Ends (Iter a) = ⊥

  ends-body : (s : Shape) → Ends s → body_node (exp_of t) (body_of t) s ≡ ret (exp_node (exp_of t) (body_of t) s)
  unfolding body_node
  ends-body (Identifier a) h = refl
  ends-body (Constant k a) h = refl
  ends-body (Pair a b) h = refl
  ends-body (Operator a b) h = refl
  ends-body (Let a b c d) h = absurd h
  ends-body (If a b c) h = absurd h
  ends-body (For a b c d) h = refl
  ends-body (Iter a) h = absurd h

  ends-kids : (place : ℕ → Bool) (s : Shape) → Ends s → Kids place true s → Kids place false s
  ends-kids place (Identifier a) h k = k
  ends-kids place (Constant kind a) h k = k
  ends-kids place (Pair a b) h k = k
  ends-kids place (Operator a b) h k = k
  ends-kids place (Let a b c d) h k = absurd h
  ends-kids place (If a b c) h k = absurd h
  ends-kids place (For a b c d) h k = k
  ends-kids place (Iter a) h k = absurd h

  pub at-end : (w r : ℕ) (Y : Ready t masks widths true w r) → Ends (shape_at t r) → (body_of t r ≡ ret (exp_of t r)) × Ready t masks widths false 0 r
  at-end w r Y h =
      let i : body_of t r ≡ ret (exp_of t r) =
      body_is true w r Y (shape_at t r) refl ∙ ends-body (shape_at t r) h ∙ ap ret (sym (exp-is true w r Y (shape_at t r) refl))
      in
      let a : AdmittedB (ret (exp_of t r)) = subst AdmittedB i Y.fits.0 in (
        i,
        record { read = Y.read; low = Y.low; high = Y.high; kids = ends-kids Y.read.place (shape_at t r) h Y.kids; fits = a.1 },
      )
