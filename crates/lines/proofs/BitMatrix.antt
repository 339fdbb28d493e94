-- The ones of an element's bit matrix, line by line: together they are those counted column by column (`lines_columns`), and every line of a nonzero
-- element has one (`line_positive`). Assumes nothing.
use mathlib.Core.Path.{◌≡◌, refl, sym, ap, ◌∙◌}
use mathlib.Core.Logic.{⊎_elim}
use Prim.Native.Nat.{ℕ, zero, suc, ◌+◌, ◌*◌, ◌^◌, ◌<◌}
use native.Mathlib.Nat.{le_refl, zero-mul, one-mul, mul-zero, eq-zero-or-pos}
use native.Mathlib.Decide.{ℕ_discrete}
use native.Mathlib.Omega.{arith}
use borrow.Author.Tests.{ne_eqb}
use lib.Count.{ones, ones_in}
use lib.Dec.{eqb}
use lib.Pow.{pow-lt}
use Rattle.algebra.specs.Matrix.{sum}
use Rattle.algebra.proofs.Words.{one_unless}
use Rattle.algebra.proofs.Sums.{Naturals, naturals, sum_cong, sum_swap}
use Rattle.field.specs.Polynomial.{Modulus, degree, product, ones_in_columns, xor_count, Irreducible}
use Rattle.field.proofs.Sum.{sum_self}
use Rattle.field.proofs.Degrees.{Polynomial, polynomial}
use Rattle.field.proofs.Irreducibility.{irreducible_to}
use Rattle.field.proofs.Field.{times_zero_l, times_assoc, times_one_l, times_lt}
use Rattle.field.proofs.Inverses.{inverse_exists, columns_ones, count_positive}
use Rattle.lines.specs.Numbers.{numbers}
use Rattle.lines.specs.Depths.{bit, ones_in_line}
use Rattle.lines.proofs.Bits.{bit_own, bits_ones, bit_product}
use Rattle.lines.proofs.Tallies.{total_sum}

-- the ones of a line, as a sum
pub line_sum : (p a b : ℕ) → ones_in_line p a b ≡ sum Naturals (degree p) (λ k. bit b (product p a (2 ^ k)))
unfolding ones_in_line
line_sum p a b = total_sum (degree p) (λ k. bit b (product p a (2 ^ k)))

-- ---- sums of which nothing is left

-- a sum of numbers is 0 only if each is
pub sum_none : (n : ℕ) (f : ℕ → ℕ) → sum Naturals n f ≡ 0 → (i : ℕ) → i < n → f i ≡ 0
unfolding sum
sum_none zero f e i l = let z : ⊥ = omega arith in absurd z
sum_none (suc n) f e i l = elim (ℕ_discrete i n) [
  | yes q ↦ rw q (omega arith)
  | no q ↦ sum_none n f (omega arith) i (omega arith)
]

-- an exclusive or of zeros
xors_none : (p n : ℕ) (f : ℕ → ℕ) → ((i : ℕ) → i < n → f i ≡ 0) → sum (numbers p) n f ≡ 0
unfolding sum
xors_none p zero f h = refl
xors_none p (suc n) f h = rw (xors_none p n f (λ i l. h i (omega arith)), h n (le_refl (suc n))) (sum_self 0)

-- ---- columns

columns_sum : (p a k : ℕ) → ones_in_columns p a k ≡ sum Naturals k (λ j. ones (product p a (2 ^ j)))
unfolding ones_in_columns sum
columns_sum p a zero = refl
columns_sum p a (suc k) = ap (λ (s : ℕ). s + ones (product p a (2 ^ k))) (columns_sum p a k)

columns_none : (p k : ℕ) → ones_in_columns p 0 k ≡ 0
unfolding ones_in_columns ones ones_in
columns_none p zero = refl
columns_none p (suc k) = rw (columns_none p k, times_zero_l p (2 ^ k)) refl

module _ (p : ℕ) (h : Modulus p) where
  poly : Polynomial p
  poly = polynomial p h

  irr : Irreducible p
  irr = irreducible_to p h.irreducible

  positive : 0 < degree p
  positive = omega (arith, poly.least)

  -- line by line they are as many as column by column
  pub lines_columns : (a : ℕ) → sum Naturals (degree p) (λ b. ones_in_line p a b) ≡ ones_in_columns p a (degree p)
  lines_columns a =
      sum_cong Naturals (degree p) _ _ (λ b l. line_sum p a b)
      ∙ sum_swap Naturals naturals (degree p) (degree p) (λ b k. bit b (product p a (2 ^ k)))
      ∙ sum_cong Naturals (degree p) _ _ (λ k l. bits_ones (degree p) (product p a (2 ^ k)) (times_lt p (degree p) poly.has a (2 ^ k)))
      ∙ sym (columns_sum p a (degree p))

  -- an element that a takes to 2^b
  preimage : (a b : ℕ) → 0 < a → a < 2 ^ degree p → b < degree p → (c : ℕ) × (c < 2 ^ degree p) × (product p a c ≡ 2 ^ b)
  preimage a b pos l k =
      let r = inverse_exists p (degree p) poly.has irr positive a pos l in (
        product p r.0 (2 ^ b),
        times_lt p (degree p) poly.has r.0 (2 ^ b),
        sym (times_assoc p (degree p) poly.has a r.0 (2 ^ b))
            ∙ ap (λ (x : ℕ). product p x (2 ^ b)) r.2
            ∙ times_one_l p (degree p) poly.has (2 ^ b) (pow-lt k),
      )

  -- a line without ones takes every element to a number without that bit
  line_none : (a b c : ℕ) → c < 2 ^ degree p → ones_in_line p a b ≡ 0 → bit b (product p a c) ≡ 0
  line_none a b c l e =
      bit_product p (degree p) poly.has a c b l
      ∙ xors_none p (degree p) _ (λ k m. ap (λ (x : ℕ). bit k c * x) (sum_none (degree p) _ (sym (line_sum p a b) ∙ e) k m) ∙ mul-zero (bit k c))

  -- a nonzero element has a one in every line
  pub line_positive : (a b : ℕ) → 0 < a → a < 2 ^ degree p → b < degree p → 0 < ones_in_line p a b
  line_positive a b pos l k = ⊎_elim (λ (e : ones_in_line p a b ≡ 0). absurd (none e)) (λ (q : 0 < ones_in_line p a b). q) (eq-zero-or-pos (ones_in_line p a b))
    where
      none : ones_in_line p a b ≡ 0 → ⊥
      none e =
          let r = preimage a b pos l k in
          omega (arith, line_none a b r.0 r.1 e, ap (bit b) r.2 ∙ bit_own b)

  -- the ones of an entry: its count, and m where it is not 0
  pub entry_ones : (a : ℕ) → a < 2 ^ degree p → ones_in_columns p a (degree p) ≡ xor_count p a + one_unless (eqb a 0) * degree p
  entry_ones a l = elim (ℕ_discrete a 0) [
    | yes e ↦ rw e (none (degree p))
    | no e ↦ rw (ne_eqb a 0 e) (some (omega arith))
  ]
    where
      none : (k : ℕ) → ones_in_columns p 0 k ≡ xor_count p 0 + one_unless (eqb 0 0) * degree p
      none k = unfold xor_count in omega (arith, columns_none p k, zero-mul (degree p))

      some : 0 < a → ones_in_columns p a (degree p) ≡ xor_count p a + 1 * degree p
      some pos =
          omega (
            arith,
            count_positive p a pos,
            one-mul (degree p),
            columns_ones p (degree p) poly.has irr positive a (degree p) pos l (le_refl (degree p)),
          )
