-- A number in its six columns: what is read there is at most 999999, and of `column v` it is v.
-- Assumes nothing.
use mathlib.Core.Path.{◌≡◌, sym, ap, ◌∙◌}
use mathlib.Core.List.{List, ◌∷◌, ◌++◌}
use Prim.Native.Nat.{ℕ, zero, suc, ◌+◌, ◌*◌, ◌/◌, ◌%◌, ◌^◌, ◌<◌, ◌≤◌}
use native.Mathlib.Numerals.{add-one}
use native.Mathlib.Nat.{add-zero, pow-suc, pow-le-pow_right}
use Rattle.text.specs.Reading.{digit_at}
use native.Mathlib.Nat.{div-eq_of_lt, div-div-eq-div-mul, div-add-mod', mod-eq_of_lt}
use native.Mathlib.Omega.{arith}
use native.Mathlib.Decide.{dec_lt}
use borrow.Author.Tests.{lt-ltb, le-ltb}
use lib.ListN.{length, get_or-eq_default}
use lib.Seq.{get_or-append_seam, get_or-append-add}
use Rattle.text.specs.Text.{column_byte, column}
use Rattle.text.specs.Reading.{number_at, value_at}

pub number_six : (s : List ℕ) (at : ℕ) → number_at s at ≤ 999999
unfolding number_at
number_six s at = omega arith

-- the number in the first n of the columns from byte `at` on
unfoldable pub number_to : List ℕ → ℕ → ℕ → ℕ
number_to s at zero = 0
number_to s at (suc n) = number_to s at n * 10 + digit_at s (at + n)

pub number_step : (s : List ℕ) (at n : ℕ) → number_to s at (n + 1) ≡ number_to s at n * 10 + digit_at s (at + n)
unfolding number_to
number_step s at n = rw add-one

number_to_small : (s : List ℕ) (at n : ℕ) → number_to s at n < 10 ^ n
unfolding number_to
number_to_small s at zero = omega arith
number_to_small s at (suc n) = omega (arith, number_to_small s at n, pow-suc 10 n)

pub number_to_most : (s : List ℕ) (at n : ℕ) → n < 6 → number_to s at n ≤ 99999
number_to_most s at n h = omega (arith, number_to_small s at n, pow-le-pow_right {n = 10} (omega arith) {i = n} {j = 5} (omega arith))

pub number_to_six : (s : List ℕ) (at : ℕ) → number_to s at 6 ≡ number_at s at
unfolding number_to number_at
number_to_six s at = rw add-zero (omega arith)

pub value_six : (s : List ℕ) (i : ℕ) → value_at s i ≤ 999999
unfolding value_at
value_six s i = number_six s (6 * i + i / 16)

-- behind the end of the text only zeros are read
pub number_past : (s : List ℕ) (at : ℕ) → length s ≤ at → number_at s at ≡ 0
unfolding number_at
number_past s at h =
    rw (
      get_or-eq_default s 0 {n = at} h,
      get_or-eq_default s 0 {n = at + 1} (omega arith),
      get_or-eq_default s 0 {n = at + 2} (omega arith),
      get_or-eq_default s 0 {n = at + 3} (omega arith),
      get_or-eq_default s 0 {n = at + 4} (omega arith),
      get_or-eq_default s 0 {n = at + 5} (omega arith),
    )

-- a column's byte gives back the digit of v, 0 where it is a space
digit_back : (v place : ℕ) → column_byte v place % 16 % 10 ≡ v / place % 10
unfolding column_byte
digit_back v place = elim (dec_lt v place) [
  | yes h ↦ rw (lt-ltb v place h, div-eq_of_lt h)
  | no h ↦ rw (le-ltb v place (omega (arith, h))) (omega arith)
]

-- one digit more
digit_step : (v place : ℕ) → v / place ≡ v / (place * 10) * 10 + v / place % 10
digit_step v place = rw (← div-div-eq-div-mul v place 10) (sym (div-add-mod' (v / place) 10))

together : (v a b c d e z y x w u t : ℕ) → v ≡ a * 10 + z → a ≡ b * 10 + y → b ≡ c * 10 + x → c ≡ d * 10 + w → d ≡ e * 10 + u → t ≡ e
    → t * 100000 + u * 10000 + w * 1000 + x * 100 + y * 10 + z ≡ v
together v a b c d e z y x w u t p q r s k l = omega arith

digits : (v : ℕ) → v ≤ 999999 → v / 100000 % 10 * 100000 + v / 10000 % 10 * 10000 + v / 1000 % 10 * 1000 + v / 100 % 10 * 100 + v / 10 % 10 * 10 + v % 10 ≡ v
digits v h =
    together v (v / 10) (v / 100) (v / 1000) (v / 10000) (v / 100000) _ _ _ _ _ _
    (sym (div-add-mod' v 10))
    (digit_step v 10)
    (digit_step v 100)
    (digit_step v 1000)
    (digit_step v 10000)
    (mod-eq_of_lt (omega arith))

-- a number that stands behind p is read back
pub number_back : (p : List ℕ) (v : ℕ) (q : List ℕ) → v ≤ 999999 → number_at (p ++ (column v ++ q)) (length p) ≡ v
unfolding number_at column
number_back p v q h =
    rw (
      get_or-append_seam p (column_byte v 100000) (column_byte v 10000 ∷ column_byte v 1000 ∷ column_byte v 100 ∷ column_byte v 10 ∷ (48 + v % 10) ∷ q) 0,
      get_or-append-add p (column v ++ q) 1 0,
      get_or-append-add p (column v ++ q) 2 0,
      get_or-append-add p (column v ++ q) 3 0,
      get_or-append-add p (column v ++ q) 4 0,
      get_or-append-add p (column v ++ q) 5 0,
      digit_back v 100000,
      digit_back v 10000,
      digit_back v 1000,
      digit_back v 100,
      digit_back v 10,
    )
    (ap (λ (d : ℕ). v / 100000 % 10 * 100000 + v / 10000 % 10 * 10000 + v / 1000 % 10 * 1000 + v / 100 % 10 * 100 + v / 10 % 10 * 10 + d) (last v) ∙ digits v h)
  where
    last : (v : ℕ) → (48 + v % 10) % 16 % 10 ≡ v % 10
    last v = omega arith
