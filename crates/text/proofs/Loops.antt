-- What is left to write in the loops over a line's numbers and over the values, before a turn and after it.
-- Assumes nothing.
use mathlib.Core.Path.{◌≡◌, ap}
use mathlib.Core.List.{List, [], ◌++◌}
use Prim.Native.Nat.{ℕ, suc, ◌+◌, ◌-◌, ◌<◌, ◌≤◌}
use native.Mathlib.Nat.{sub-zero}
use native.Mathlib.Numerals.{add-one}
use native.Mathlib.Omega.{arith}
use lib.ListN.{length, length-append, get_or, drop, drop_of_length-le}
use lib.Seq.{drop-cons}
use Rattle.text.specs.Text.{column, columns, line_end, value_text}
use Rattle.text.specs.Reading.{value_at, values_from}
use Rattle.text.proofs.Lengths.{length_values_from}

-- a line, from number i on
pub columns_next : (vs : List ℕ) (i : ℕ) → i < length vs → columns (drop i vs) ≡ column (get_or vs i 0) ++ columns (drop (i + 1) vs)
unfolding columns
columns_next vs i h = rw (add-one, drop-cons vs i 0 h)

pub columns_none : (vs : List ℕ) (i : ℕ) → length vs ≤ i → columns (drop i vs) ≡ []
unfolding columns
columns_none vs i h = rw (drop_of_length-le vs h)

-- n values, from number i on
pub values_left : List ℕ → ℕ → ℕ → List ℕ
values_left s n i = value_text i (values_from s i (n - i))

one_value : (s : List ℕ) (i m : ℕ) → value_text i (values_from s i (suc m)) ≡ column (value_at s i) ++ line_end i m ++ value_text (suc i) (values_from s (suc i) m)
unfolding value_text values_from
one_value s i m = rw (length_values_from s (suc i) m)

pub values_next : (s : List ℕ) (n i : ℕ) → i < n → values_left s n i ≡ column (value_at s i) ++ line_end i (n - i - 1) ++ values_left s n (i + 1)
unfolding values_left
values_next s n i h =
    let fewer : n - i - 1 ≡ n - (i + 1) = omega arith in
    let more : n - i ≡ suc (n - (i + 1)) = omega arith in
    rw (fewer, more, add-one i) (one_value s i (n - suc i))

pub values_room : (s : List ℕ) (n i : ℕ) → i < n → length (column (value_at s i) ++ line_end i (n - i - 1)) ≤ length (values_left s n i)
values_room s n i h =
    omega (arith, ap length (values_next s n i h), length-append (column (value_at s i) ++ line_end i (n - i - 1)) (values_left s n (i + 1)))

pub values_start : (s : List ℕ) (n : ℕ) → value_text 0 (values_from s 0 n) ≡ values_left s n 0
unfolding values_left
values_start s n = rw sub-zero

pub values_none : (s : List ℕ) (n i : ℕ) → n ≤ i → values_left s n i ≡ []
unfolding values_left value_text values_from
values_none s n i h = let none : n - i ≡ 0 = omega arith in rw none
