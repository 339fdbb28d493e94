-- Irreducibility: the test says what the definition says, and below degree 10 division by every polynomial of degree 1 to 4 decides it.
-- Assumes nothing.
use mathlib.Core.Path.{◌≡◌, refl, sym, ap, ap₂, ◌∙◌, subst}
use mathlib.Core.Bool.{Bool, true, false, not, ◌&&◌, ◌||◌, or-true, true≢false}
use mathlib.Core.Logic.{⊎_elim}
use Prim.Native.Nat.{ℕ, zero, suc, ◌+◌, ◌^◌, ◌≤◌, ◌<◌}
use native.Mathlib.Nat.{le_trans, le_refl, le-suc, lt_of_lt_of_le, lt_of_le_of_lt, not-suc-le-zero, eq-or-lt_of_le, le_of_suc-le-suc, lt_of_not-le}
use native.Mathlib.Decide.{dec_le}
use native.Mathlib.Omega.{arith}
use borrow.Author.Tests.{le-leb, eq-eqb, ne_eqb, leb-true, eqb-true, eqb-false, not-true, not-false}
use lib.Dec.{leb, eqb}
use lib.Pow.{pow_mono}
use Rattle.field.specs.Polynomial.{◌⊕◌, ◌⊗◌, degree, rem, Irreducible, is_irreducible, some_below}
use Rattle.field.specs.Steps.{every_below}
use Rattle.field.proofs.Sum.{sum_zero_r}
use Rattle.field.proofs.Ring.{product_comm, product_zero_l, product_one_l}
use Rattle.field.proofs.Degrees.{HasDegree, has_degree, product_degree, pow_cancel}
use Rattle.field.proofs.Division.{division, rem_multiple}

-- ---- tests

and_left : (a b : Bool) → (a && b) ≡ true → a ≡ true
and_left true b e = refl
and_left false b e = e

and_right : (a b : Bool) → (a && b) ≡ true → b ≡ true
and_right true b e = e
and_right false b e = let z : ◌≡◌ {A = ℕ} 0 1 = cc in let y : ⊥ = omega arith in absurd y

and_both : (a b : Bool) → a ≡ true → b ≡ true → (a && b) ≡ true
and_both a b e f = ap₂ ◌&&◌ e f

-- a number below n that passes the test
pub some_witness : (n : ℕ) (test : ℕ → Bool) → some_below n test ≡ true → (k : ℕ) × (k < n) × (test k ≡ true)
unfolding some_below
some_witness zero test e = let z : ◌≡◌ {A = ℕ} 0 1 = cc in let y : ⊥ = omega arith in absurd y
some_witness (suc n) test e = at (some_witness n test) (test n) refl e
  where
    wider : (k : ℕ) × (k < n) × (test k ≡ true) → (k : ℕ) × (k < suc n) × (test k ≡ true)
    wider r = (r.0, le_trans r.1 (le-suc n), r.2)

    at : (some_below n test ≡ true → (k : ℕ) × (k < n) × (test k ≡ true))
        → (b : Bool) → test n ≡ b → (b || some_below n test) ≡ true → (k : ℕ) × (k < suc n) × (test k ≡ true)
    at below true f e = (n, le_refl (suc n), f)
    at below false f e = wider (below e)

pub some_there : (n : ℕ) (test : ℕ → Bool) (k : ℕ) → k < n → test k ≡ true → some_below n test ≡ true
unfolding some_below
some_there zero test k h e = absurd (not-suc-le-zero h)
some_there (suc n) test k h e =
    ⊎_elim (λ (f : k ≡ n). ap (λ (b : Bool). b || some_below n test) (ap test (sym f) ∙ e))
    (λ (l : k < n). ap (λ (b : Bool). test n || b) (some_there n test k l e) ∙ or-true (test n))
    (eq-or-lt_of_le (le_of_suc-le-suc h))

-- every number below n passes: each of them does
pub every_at : (n : ℕ) (test : ℕ → Bool) → every_below n test ≡ true → (k : ℕ) → k < n → test k ≡ true
unfolding every_below
every_at zero test e k h = absurd (not-suc-le-zero h)
every_at (suc n) test e k h =
    ⊎_elim (λ (f : k ≡ n). ap test f ∙ and_right (every_below n test) (test n) e)
    (λ (l : k < n). every_at n test (and_left (every_below n test) (test n) e) k l)
    (eq-or-lt_of_le (le_of_suc-le-suc h))

-- ---- the definition as a test

-- a factor with a cofactor of degree 1 or more is smaller than the product
pub factor_lt : (a b p : ℕ) → 2 ≤ a → 2 ≤ b → a ⊗ b ≡ p → a < p
factor_lt a b p ha hb e =
    let da : HasDegree a (degree a) = has_degree a (omega arith) in
    let db : HasDegree b (degree b) = has_degree b (omega arith) in
    let dp : HasDegree (a ⊗ b) (degree a + degree b) = product_degree (degree a) (degree b) a b da db in
    let l : 1 < suc (degree b) = pow_cancel 1 (suc (degree b)) (lt_of_le_of_lt hb db.high) in
    lt_of_lt_of_le da.high (le_trans (pow_mono {j = degree a + degree b} (omega arith)) (subst (λ (x : ℕ). 2 ^ (degree a + degree b) ≤ x) e dp.low))

pub irreducible_to : (p : ℕ) → is_irreducible p ≡ true → Irreducible p
unfolding is_irreducible Irreducible
irreducible_to p e a b ha hb f =
    true≢false
    (sym
    (some_there p (λ a. some_below p (λ b. leb 2 a && leb 2 b && eqb (a ⊗ b) p)) a (factor_lt a b p ha hb f)
    (some_there p (λ b. leb 2 a && leb 2 b && eqb (a ⊗ b) p) b (factor_lt b a p hb ha (product_comm b a ∙ f))
    (and_both (leb 2 a && leb 2 b) (eqb (a ⊗ b) p) (and_both (leb 2 a) (leb 2 b) (le-leb 2 a ha) (le-leb 2 b hb)) (eq-eqb (a ⊗ b) p f))))
    ∙ not-true (some_below p (λ a. some_below p (λ b. leb 2 a && leb 2 b && eqb (a ⊗ b) p))) e)

-- a reducible polynomial is a product of two of degree 1 or more
pub reducible_factors : (p : ℕ) → is_irreducible p ≡ false → (a : ℕ) × (b : ℕ) × (2 ≤ a) × (2 ≤ b) × (a ⊗ b ≡ p)
unfolding is_irreducible
reducible_factors p e =
    let r = some_witness p (λ a. some_below p (λ b. leb 2 a && leb 2 b && eqb (a ⊗ b) p))
    (not-false (some_below p (λ a. some_below p (λ b. leb 2 a && leb 2 b && eqb (a ⊗ b) p))) e) in
    let s = some_witness p (λ b. leb 2 r.0 && leb 2 b && eqb (r.0 ⊗ b) p) r.2 in
    let both = and_left (leb 2 r.0 && leb 2 s.0) (eqb (r.0 ⊗ s.0) p) s.2 in (
      r.0,
      s.0,
      leb-true 2 r.0 (and_left (leb 2 r.0) (leb 2 s.0) both),
      leb-true 2 s.0 (and_right (leb 2 r.0) (leb 2 s.0) both),
      eqb-true (r.0 ⊗ s.0) p (and_right (leb 2 r.0 && leb 2 s.0) (eqb (r.0 ⊗ s.0) p) s.2),
    )

pub irreducible_from : (p : ℕ) → Irreducible p → is_irreducible p ≡ true
unfolding Irreducible
irreducible_from p irr = at (is_irreducible p) refl
  where
    at : (b : Bool) → is_irreducible p ≡ b → b ≡ true
    at true e = refl
    at false e = let r = reducible_factors p e in absurd (irr r.0 r.1 r.2 r.3 r.4)

-- ---- trial division

-- no polynomial of degree 1 to 4, other than p itself, divides p
pub divides : ℕ → ℕ → Bool
divides p c = leb 2 c && not (eqb c p) && eqb (rem c p) 0

unfoldable pub trial : ℕ → Bool
unfolding divides
trial p = not (some_below 32 (divides p))

-- one of two factors is below 32, or the product has degree 10
small_factor : (a b p : ℕ) → 2 ≤ a → 2 ≤ b → a ⊗ b ≡ p → p < 1024 → (c : ℕ) × (q : ℕ) × (2 ≤ c) × (2 ≤ q) × (c < 32) × (q ⊗ c ≡ p)
small_factor a b p ha hb e h =
    elim (dec_le 32 a) [
      | yes l ↦
          elim (dec_le 32 b) [
            | yes k ↦ (let z : ⊥ = large l k in absurd z)
            | no k ↦ (b, a, hb, ha, lt_of_not-le k, e)
          ]
      | no l ↦ (a, b, ha, hb, lt_of_not-le l, product_comm b a ∙ e)
    ]
  where
    da : HasDegree a (degree a)
    da = has_degree a (omega arith)

    db : HasDegree b (degree b)
    db = has_degree b (omega arith)

    large : 32 ≤ a → 32 ≤ b → ⊥
    large l k =
        let i : 5 < suc (degree a) = pow_cancel 5 (suc (degree a)) (lt_of_le_of_lt l da.high) in
        let j : 5 < suc (degree b) = pow_cancel 5 (suc (degree b)) (lt_of_le_of_lt k db.high) in
        let s : 1024 ≤ 2 ^ (degree a + degree b) = pow_mono {i = 10} (omega arith) in
        let t : 2 ^ (degree a + degree b) ≤ a ⊗ b = (product_degree (degree a) (degree b) a b da db).low in
        omega arith

trial_divides : (p c : ℕ) → 2 ≤ c → (q : ℕ) → 2 ≤ q → q ⊗ c ≡ p → divides p c ≡ true
unfolding divides
trial_divides p c hc q hq e =
    and_both (leb 2 c && not (eqb c p)) (eqb (rem c p) 0)
    (and_both (leb 2 c) (not (eqb c p)) (le-leb 2 c hc) (ap not (ne_eqb c p (λ f. let l : c < p = factor_lt c q p hc hq (product_comm c q ∙ e) in omega arith))))
    (eq-eqb (rem c p) 0 (ap (rem c) (sym e) ∙ rem_multiple c (degree c) q (has_degree c (omega arith))))

divides_trial : (p c : ℕ) → 0 < p → divides p c ≡ true → (q : ℕ) × (2 ≤ c) × (2 ≤ q) × (q ⊗ c ≡ p)
unfolding divides
divides_trial p c h e = from (division c p).0 ((division c p).1 ∙ ap (λ (x : ℕ). (division c p).0 ⊗ c ⊕ x) (eqb-true (rem c p) 0 (and_right (leb 2 c && not (eqb c p)) (eqb (rem c p) 0) e)) ∙ sum_zero_r ((division c p).0 ⊗ c))
  where
    first : (leb 2 c && not (eqb c p)) ≡ true
    first = and_left (leb 2 c && not (eqb c p)) (eqb (rem c p) 0) e

    two : 2 ≤ c
    two = leb-true 2 c (and_left (leb 2 c) (not (eqb c p)) first)

    other : c ≡ p → ⊥
    other = eqb-false c p (not-true (eqb c p) (and_right (leb 2 c) (not (eqb c p)) first))

    from : (q : ℕ) → p ≡ q ⊗ c → (q : ℕ) × (2 ≤ c) × (2 ≤ q) × (q ⊗ c ≡ p)
    from zero f = let z : p ≡ 0 = f ∙ product_zero_l c in let y : ⊥ = omega arith in absurd y
    from (suc zero) f = absurd (other (sym (f ∙ product_one_l c)))
    from (suc (suc q)) f = (suc (suc q), two, omega arith, sym f)

-- below degree 10 trial division decides irreducibility
pub trial_is : (p : ℕ) → 0 < p → p < 1024 → trial p ≡ is_irreducible p
unfolding trial
trial_is p h l = at (some_below 32 (divides p)) refl (is_irreducible p) refl
  where
    at : (b : Bool) → some_below 32 (divides p) ≡ b → (i : Bool) → is_irreducible p ≡ i → not b ≡ i
    at true e true f =
        let r = some_witness 32 (divides p) e in
        let s = divides_trial p r.0 h r.2 in
        absurd (unfold Irreducible in irreducible_to p f s.0 r.0 s.2 s.1 s.3)
    at true e false f = refl
    at false e true f = refl
    at false e false f =
        let r = reducible_factors p f in
        let s = small_factor r.0 r.1 p r.2 r.3 r.4 l in
        absurd (true≢false (sym (some_there 32 (divides p) s.0 s.4 (trial_divides p s.0 s.2 s.1 s.3 s.5)) ∙ e))
