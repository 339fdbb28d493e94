-- The test of the planes of four indices that an entry completes: what the code tests of one plane, what it depends on, and what it
-- says of a row. Assumes nothing.
use mathlib.Core.Path.{◌≡◌, refl, sym, ◌∙◌}
use mathlib.Core.Bool.{Bool, true, false, true≢false}
use mathlib.Core.List.{List}
use Prim.Native.Nat.{ℕ, suc, ◌≤◌, ◌<◌}
use native.Mathlib.Decide.{dec_lt}
use native.Mathlib.Omega.{arith}
use lib.Dec.{eqb, leb}
use lib.ListN.{get_or, take}
use lib.Seq.{get_or-take}
use borrow.Author.Tests.{eqb-true, eqb-false, le-leb, lt-leb, eq-eqb, ne_eqb}
use Rattle.field.specs.Polynomial.{◌⊕◌, product}
use Rattle.field.specs.Steps.{every_below}
use Rattle.matrix.proofs.Squares.{every_each, each_every, every_same}
use Rattle.matrix.proofs.Planes.{fourth}
use Rattle.cuts.specs.Steps.Hadamard.{plane_passes, planes_pass}

-- ---- one plane

-- the entries of a and b have the product of those of the others: a block of size 2 is singular
abbrev pub SingularPlane : ℕ → List ℕ → ℕ → ℕ → ℕ → Type 0
SingularPlane p row d b a = product p (get_or row a 0) (get_or row b 0) ≡ product p (get_or row (fourth a b d) 0) (get_or row d 0)

-- the sum of the four entries
abbrev pub plane_sum : List ℕ → ℕ → ℕ → ℕ → ℕ
plane_sum row d b a = get_or row a 0 ⊕ get_or row b 0 ⊕ get_or row (fourth a b d) 0 ⊕ get_or row d 0

module _ (p n : ℕ) (row : List ℕ) (d b a : ℕ) where
  -- another entry completes the plane
  pub plane_later : d ≤ fourth a b d → true ≡ plane_passes p n row d b a
  unfolding plane_passes
  plane_later l = rw (le-leb d (fourth a b d) l)

  module _ (l : fourth a b d < d) where
    -- two products are the same
    pub plane_singular : SingularPlane p row d b a → false ≡ plane_passes p n row d b a
    unfolding plane_passes
    plane_singular e = rw (lt-leb d (fourth a b d) l, eq-eqb _ _ e)

    -- they are not, and nothing is asked of the sum
    pub plane_small : (SingularPlane p row d b a → ⊥) → (n ≡ 8 → ⊥) → true ≡ plane_passes p n row d b a
    unfolding plane_passes
    plane_small e o = rw (lt-leb d (fourth a b d) l, ne_eqb _ _ e, ne_eqb n 8 o)

    -- the sum decides
    pub plane_sums : (SingularPlane p row d b a → ⊥) → n ≡ 8 → leb 2 (plane_sum row d b a) ≡ plane_passes p n row d b a
    unfolding plane_passes
    plane_sums e o = rw (lt-leb d (fourth a b d) l, ne_eqb _ _ e, eq-eqb n 8 o)

    -- where it passes, the products differ
    pub plane_regular : plane_passes p n row d b a ≡ true → SingularPlane p row d b a → ⊥
    plane_regular t e = true≢false (sym t ∙ sym (plane_singular e))

    -- it passes where they differ, and at order 8 the sum is 2 or more
    plane_both : (SingularPlane p row d b a → ⊥) → (n ≡ 8 → 2 ≤ plane_sum row d b a) → plane_passes p n row d b a ≡ true
    plane_both e s = go (eqb n 8) refl
      where
        go : (t : Bool) → eqb n 8 ≡ t → plane_passes p n row d b a ≡ true
        go true q = let o = eqb-true n 8 q in sym (plane_sums e o) ∙ le-leb 2 (plane_sum row d b a) (s o)
        go false q = sym (plane_small e (eqb-false n 8 q))

  -- the same of any plane
  plane_holds : (fourth a b d < d → (SingularPlane p row d b a → ⊥) × (n ≡ 8 → 2 ≤ plane_sum row d b a)) → plane_passes p n row d b a ≡ true
  plane_holds h = elim (dec_lt (fourth a b d) d) [
    | yes l ↦ plane_both l (h l).0 (h l).1
    | no l ↦ sym (plane_later (omega arith))
  ]

-- it depends on the entries up to place d alone
plane_same : (p n : ℕ) (row row' : List ℕ) (d b a : ℕ) → a < b → b < d → ((j : ℕ) → j ≤ d → get_or row j 0 ≡ get_or row' j 0)
    → plane_passes p n row d b a ≡ plane_passes p n row' d b a
unfolding plane_passes
plane_same p n row row' d b a l m same = elim (dec_lt (fourth a b d) d) [
  | yes k ↦ rw (same a (omega arith), same b (omega arith), same (fourth a b d) (omega arith), same d (omega arith))
  | no k ↦ sym (plane_later p n row d b a (omega arith)) ∙ plane_later p n row' d b a (omega arith)
]

-- ---- all planes that an entry completes

-- the first entries of an array are enough
pub planes_front : (p n : ℕ) (row : List ℕ) (d : ℕ) → planes_pass p n (take (suc d) row) d ≡ planes_pass p n row d
unfolding planes_pass
planes_front p n row d =
    every_same d _ _ (λ b l. every_same b _ _ (λ a m. plane_same p n (take (suc d) row) row d b a m l (λ j k. get_or-take (suc d) row j 0 (omega arith))))

module _ (p n : ℕ) (row : List ℕ) (d : ℕ) where
  -- where they pass, each of them does
  pub planes_each : planes_pass p n row d ≡ true → (b a : ℕ) → a < b → b < d → plane_passes p n row d b a ≡ true
  unfolding planes_pass
  planes_each t b a l m = every_each b (plane_passes p n row d b) (every_each d (λ b. every_below b (plane_passes p n row d b)) t b m) a l

  -- they pass where each does
  pub planes_hold : ((b a : ℕ) → a < b → b < d → fourth a b d < d → (SingularPlane p row d b a → ⊥) × (n ≡ 8 → 2 ≤ plane_sum row d b a))
      → planes_pass p n row d ≡ true
  unfolding planes_pass
  planes_hold h = each_every d _ (λ b m. each_every b _ (λ a l. plane_holds p n row d b a (h b a l m)))
