-- The tests of the calls on matrices decide what document 01 says, and so a number applies to a call exactly if it is stated, and the lowest
-- of them is returned. Assumes nothing.
use mathlib.Core.Path.{◌≡◌, refl}
use mathlib.Core.Logic.{◌≢◌, ◌↔◌, ◌⊎◌}
use mathlib.Core.Bool.{true}
use mathlib.Core.List.{List}
use Prim.Native.Nat.{ℕ, ◌<◌}
use lib.ListN.{get_or}
use Rattle.refusal.specs.Refusals.{Applies, LowestOf, answer_after}
use Rattle.refusal.proofs.Faults.{lowest_same}
use Rattle.refusal.proofs.Tests.{never_passes, below_exactly, same_exactly, zero_exactly, not_exactly, or_exactly, neither_exactly}
use Rattle.field.specs.Stated.{SomeTooLarge}
use Rattle.field.proofs.Irreducibility.{some_witness, some_there}
use Rattle.field.proofs.Limits.{too_large_exactly, either_too_large, call_exactly, call_lowest}
use Rattle.checks.specs.Answers.{is_wrong_order, is_wrong_halved_order, some_word_too_large, some_entry_too_large, determinant_faults, matrix_faults, row_faults, plain_faults, halved_faults}
use Rattle.checks.specs.Stated.{WordOf, EntryOf, DeterminantStated, MatrixStated, RowStated, PlainStated, HalvedStated}

-- ---- the tests

pub order_exactly : (n : ℕ) → (is_wrong_order n ≡ true) ↔ ((n < 1) ⊎ (8 < n))
unfolding is_wrong_order
order_exactly n = or_exactly _ _ (zero_exactly n) (below_exactly 8 n)

pub halved_order_exactly : (n : ℕ) → (is_wrong_halved_order n ≡ true) ↔ ((n ≢ 2) × (n ≢ 4) × (n ≢ 8))
unfolding is_wrong_halved_order
halved_order_exactly n =
    let test = not_exactly _ (or_exactly _ _ (or_exactly _ _ (same_exactly n 2) (same_exactly n 4)) (same_exactly n 8)) in (
      λ e.
          let (rest, eight) = neither_exactly.0 (test.0 e) in
          let (two, four) = neither_exactly.0 rest in
          (two, four, eight),
      λ (two, four, eight). test.1 (neither_exactly.1 (neither_exactly.1 (two, four), eight)),
    )

pub words_exactly : (p n : ℕ) (row : List ℕ) → (some_word_too_large p n row ≡ true) ↔ SomeTooLarge p (WordOf n row)
unfolding some_word_too_large
words_exactly p n row = (
  λ e. let (j, l, large) = some_witness n _ e in (get_or row j 0, (j, l, refl), (too_large_exactly p _).0 large),
  λ (a, (j, l, e), large). some_there n _ j l ((too_large_exactly p _).1 (rw e large)),
)

pub entries_exactly : (p n : ℕ) (f : ℕ → ℕ → ℕ) → (some_entry_too_large p n f ≡ true) ↔ SomeTooLarge p (EntryOf n f)
unfolding some_entry_too_large
entries_exactly p n f = (
  λ e.
      let (i, k, line) = some_witness n _ e in
      let (j, l, large) = some_witness n _ line in
      (f i j, (i, j, k, l, refl), (too_large_exactly p _).0 large),
  λ (a, (i, j, k, l, e), large). some_there n _ i k (some_there n _ j l ((too_large_exactly p _).1 (rw e large))),
)

-- ---- the calls

module _ (p n : ℕ) where
  pub determinant_exactly : (f : ℕ → ℕ → ℕ) (k : ℕ) → Applies (determinant_faults p n f) k ↔ DeterminantStated p n f k
  unfolding determinant_faults
  determinant_exactly f = call_exactly p (below_exactly 8 n) never_passes (entries_exactly p n f) never_passes

  pub matrix_exactly : (f : ℕ → ℕ → ℕ) (k : ℕ) → Applies (matrix_faults p n f) k ↔ MatrixStated p n f k
  unfolding matrix_faults
  matrix_exactly f = call_exactly p (order_exactly n) never_passes (entries_exactly p n f) never_passes

  pub row_exactly : (row : List ℕ) (k : ℕ) → Applies (row_faults p n row) k ↔ RowStated p n row k
  unfolding row_faults
  row_exactly row = call_exactly p (order_exactly n) never_passes (words_exactly p n row) never_passes

  pub plain_exactly : (f : ℕ → ℕ → ℕ) (x : List ℕ) (k : ℕ) → Applies (plain_faults p n f x) k ↔ PlainStated p n f x k
  unfolding plain_faults
  plain_exactly f x = call_exactly p (order_exactly n) never_passes (either_too_large p _ _ (entries_exactly p n f) (words_exactly p n x)) never_passes

  pub halved_exactly : (row x : List ℕ) (k : ℕ) → Applies (halved_faults p n row x) k ↔ HalvedStated p n row x k
  unfolding halved_faults
  halved_exactly row x =
      call_exactly p (halved_order_exactly n) never_passes (either_too_large p _ _ (words_exactly p n row) (words_exactly p n x)) never_passes

  -- what their contracts yield: the lowest number that is stated, 0 where none is
  module _ {A : Type 0} (empty value : A) where
    pub determinant_lowest : (f : ℕ → ℕ → ℕ) → LowestOf (DeterminantStated p n f) (answer_after empty (determinant_faults p n f) value).number
    unfolding determinant_faults
    determinant_lowest f = lowest_same (determinant_exactly f) (call_lowest empty value p _ _ _ _)

    pub matrix_lowest : (f : ℕ → ℕ → ℕ) → LowestOf (MatrixStated p n f) (answer_after empty (matrix_faults p n f) value).number
    unfolding matrix_faults
    matrix_lowest f = lowest_same (matrix_exactly f) (call_lowest empty value p _ _ _ _)

    pub row_lowest : (row : List ℕ) → LowestOf (RowStated p n row) (answer_after empty (row_faults p n row) value).number
    unfolding row_faults
    row_lowest row = lowest_same (row_exactly row) (call_lowest empty value p _ _ _ _)

    pub plain_lowest : (f : ℕ → ℕ → ℕ) (x : List ℕ) → LowestOf (PlainStated p n f x) (answer_after empty (plain_faults p n f x) value).number
    unfolding plain_faults
    plain_lowest f x = lowest_same (plain_exactly f x) (call_lowest empty value p _ _ _ _)

    pub halved_lowest : (row x : List ℕ) → LowestOf (HalvedStated p n row x) (answer_after empty (halved_faults p n row x) value).number
    unfolding halved_faults
    halved_lowest row x = lowest_same (halved_exactly row x) (call_lowest empty value p _ _ _ _)
