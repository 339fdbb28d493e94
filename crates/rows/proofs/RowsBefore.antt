-- The search before request Four, which compared rows by their sums alone: it found none exactly where none is found now (`none_as_before`); a row
-- that is found now and is not the one found before has the same sum and is shallower (`row_as_before`). Assumes nothing.
use mathlib.Core.Path.{◌≡◌, sym}
use mathlib.Core.Logic.{◌≢◌, ◌↔◌, ⊎_elim}
use mathlib.Core.List.{List}
use Prim.Native.Nat.{ℕ, ◌^◌, ◌<◌}
use native.Mathlib.Omega.{arith}
use Rattle.field.specs.Polynomial.{degree}
use Rattle.rows.specs.Lightest.{Best, nothing, found, lightest, rows_over, Earlier}
use Rattle.rows.specs.Shape.{Shape, is_good}
use Rattle.rows.specs.Keys.{sum_of, depth_of_row, key_of, lightest_row}
use Rattle.rows.proofs.Rows.{sorted_rows, earlier_asym}
use Rattle.rows.proofs.Lightest.{none_sorted, row_sorted}
use Rattle.rows.proofs.Keys.{key_split, key_same}

-- what the search found before
unfoldable pub lightest_before : Shape → ℕ → ℕ → List ℕ → Best
lightest_before shape p n candidates = lightest (is_good shape p n) (sum_of p n) (rows_over (2 ^ degree p) candidates n)

module _ (shape : Shape) (p n : ℕ) (candidates : List ℕ) where
  pub none_as_before : (lightest_row shape p n candidates ≡ nothing) ↔ (lightest_before shape p n candidates ≡ nothing)
  unfolding lightest_row lightest_before
  none_as_before =
      let now = none_sorted (is_good shape p n) (key_of p n) (sorted_rows (2 ^ degree p) candidates n) in
      let then = none_sorted (is_good shape p n) (sum_of p n) (sorted_rows (2 ^ degree p) candidates n) in
      (λ e. then.1 (now.0 e), λ e. now.1 (then.0 e))

  pub row_as_before : (r s : List ℕ) → lightest_row shape p n candidates ≡ found r → lightest_before shape p n candidates ≡ found s → r ≢ s
      → (sum_of p n r ≡ sum_of p n s) × (depth_of_row p n r < depth_of_row p n s)
  unfolding lightest_row lightest_before
  row_as_before r s e f apart =
      let now = row_sorted (is_good shape p n) (key_of p n) (sorted_rows (2 ^ degree p) candidates n) r e in
      let then = row_sorted (is_good shape p n) (sum_of p n) (sorted_rows (2 ^ degree p) candidates n) s f in
      let first = now.is_first s then.is_row then.is_good (λ q. apart (sym q)) in
      let before = then.is_first r now.is_row now.is_good apart in
      ⊎_elim
      (λ l.
      ⊎_elim (λ (m : sum_of p n r < sum_of p n s). absurd (⊎_elim (λ (k : sum_of p n s < sum_of p n r). omega arith) (λ q. omega (arith, q.0)) before))
      (λ q. q) (key_split p n r s l))
      (λ (q : (key_of p n r ≡ key_of p n s) × Earlier r s).
      let (sums, depths) = key_same p n r s q.0 in
      absurd (⊎_elim (λ (k : sum_of p n s < sum_of p n r). omega arith) (λ h. earlier_asym q.1 h.1) before))
      first
