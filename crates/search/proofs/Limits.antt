-- The tests of a search decide what documents 01 and 02 say, and so each of the numbers 3 to 8 applies exactly if it is stated (`search_exactly`);
-- the lowest number that applies is returned (`search_lowest`). Assumes nothing.
use mathlib.Core.Path.{◌≡◌, refl, sym, ap}
use mathlib.Core.Logic.{◌≢◌, ◌↔◌, ◌⊎◌, inl, inr, ⊎_elim}
use mathlib.Core.Bool.{true, false≢true}
use mathlib.Core.List.Memᴰ
use mathlib.Core.List.{List, [], ◌∷◌, Memᴰ}
use Prim.Native.Nat.{ℕ, zero, suc, ◌≤◌, ◌<◌}
use native.Mathlib.Omega.{arith}
use lib.ListN.{length}
use Rattle.refusal.specs.Refusals.{fault, Applies, LowestOf}
use Rattle.refusal.proofs.Faults.{numbered, ascends, fault_here, fault_cases, lowest_after, lowest_same}
use Rattle.refusal.proofs.Tests.{below_exactly, same_exactly, zero_exactly, not_exactly, or_exactly, and_exactly, neither_exactly}
use Rattle.field.specs.Faults.{polynomial_faults, call_faults}
use Rattle.field.specs.Stated.{SomeTooLarge, Stated}
use Rattle.field.proofs.Limits.{one_too_large, either_too_large, call_exactly}
use Rattle.rows.specs.declared.Family.{Family}
use Rattle.rows.specs.declared.Family.TheVariants.{Hadamard, Circulant}
use Rattle.rows.specs.Lightest.{Best, nothing, found}
use Rattle.rows.specs.Shape.{shape_of}
use Rattle.rows.specs.Keys.{lightest_row}
use Rattle.rows.proofs.Rows.{member_mem, mem_at, get_d_mem}
use Rattle.search.specs.Answer.{is_wrong_search_order, is_wrong_search_count, is_wrong_circulant_order, is_wrong_circulant_count, is_wrong_order_for, is_wrong_count_for}
use Rattle.rows.specs.Candidates.{some_too_large, some_repeated, some_bad}
use Rattle.search.specs.Answer.{is_none, search_faults, no_row, search_answer}
use Rattle.search.specs.Stated.{WrongSearchCount, no_candidate, many_for_four, many_for_eight, Repeated, StatedFor, OrNone}

-- ---- order and count

pub search_order_exactly : (n : ℕ) → (is_wrong_search_order n ≡ true) ↔ ((n ≢ 4) × (n ≢ 8))
unfolding is_wrong_search_order
search_order_exactly n =
    let test = not_exactly _ (or_exactly _ _ (same_exactly n 4) (same_exactly n 8)) in
    (λ e. neither_exactly.0 (test.0 e), λ h. test.1 (neither_exactly.1 h))

pub search_count_exactly : (n count : ℕ) → (is_wrong_search_count n count ≡ true) ↔ WrongSearchCount n count
unfolding is_wrong_search_count
search_count_exactly n count =
    let four = and_exactly _ _ (same_exactly n 4) (below_exactly 255 count) in
    let eight = and_exactly _ _ (same_exactly n 8) (below_exactly 16 count) in
    let test = or_exactly _ _ (or_exactly _ _ (zero_exactly count) four) eight in
    (λ e. named (test.0 e), λ h. test.1 (unnamed h))
  where
    named : ((count < 1) ⊎ ((n ≡ 4) × (255 < count))) ⊎ ((n ≡ 8) × (16 < count)) → WrongSearchCount n count
    named (inl (inl h)) = no_candidate h
    named (inl (inr (four, h))) = many_for_four four h
    named (inr (eight, h)) = many_for_eight eight h

    unnamed : WrongSearchCount n count → ((count < 1) ⊎ ((n ≡ 4) × (255 < count))) ⊎ ((n ≡ 8) × (16 < count))
    unnamed (no_candidate h) = inl (inl h)
    unnamed (many_for_four four h) = inl (inr (four, h))
    unnamed (many_for_eight eight h) = inr (eight, h)

-- 1 to 255 candidates for order 4, 1 to 16 for order 8
pub count_four_exactly : (count : ℕ) → (is_wrong_search_count 4 count ≡ true) ↔ ((count < 1) ⊎ (255 < count))
count_four_exactly count = (λ e. to ((search_count_exactly 4 count).0 e), λ h. (search_count_exactly 4 count).1 (⊎_elim no_candidate (many_for_four refl) h))
  where
    to : WrongSearchCount 4 count → (count < 1) ⊎ (255 < count)
    to (no_candidate h) = inl h
    to (many_for_four four h) = inr h
    to (many_for_eight eight h) = let z : ⊥ = omega arith in absurd z

pub count_eight_exactly : (count : ℕ) → (is_wrong_search_count 8 count ≡ true) ↔ ((count < 1) ⊎ (16 < count))
count_eight_exactly count = (λ e. to ((search_count_exactly 8 count).0 e), λ h. (search_count_exactly 8 count).1 (⊎_elim no_candidate (many_for_eight refl) h))
  where
    to : WrongSearchCount 8 count → (count < 1) ⊎ (16 < count)
    to (no_candidate h) = inl h
    to (many_for_four four h) = let z : ⊥ = omega arith in absurd z
    to (many_for_eight eight h) = inr h

pub circulant_order_exactly : (n : ℕ) → (is_wrong_circulant_order n ≡ true) ↔ ((n < 2) ⊎ (8 < n))
unfolding is_wrong_circulant_order
circulant_order_exactly n = or_exactly _ _ (below_exactly n 2) (below_exactly 8 n)

pub circulant_count_exactly : (count : ℕ) → (is_wrong_circulant_count count ≡ true) ↔ ((count < 1) ⊎ (8 < count))
unfolding is_wrong_circulant_count
circulant_count_exactly count = or_exactly _ _ (zero_exactly count) (below_exactly 8 count)

-- ---- candidates

-- the first value, or one behind it
large_step : (p b : ℕ) (values : List ℕ) → (some_too_large p values ≡ true) ↔ SomeTooLarge p (λ a. Memᴰ a values)
    → (some_too_large p (b ∷ values) ≡ true) ↔ SomeTooLarge p (λ a. Memᴰ a (b ∷ values))
unfolding some_too_large
large_step p b values rest =
    let test = either_too_large p _ _ (one_too_large p b) rest in (
      λ e. let (a, s, l) = test.0 e in (a, ⊎_elim Memᴰ.head Memᴰ.tail s, l),
      λ (a, m, l). test.1 (a, Memᴰ.cases_cons m, l),
    )

pub some_too_large_exactly : (p : ℕ) (values : List ℕ) → (some_too_large p values ≡ true) ↔ SomeTooLarge p (λ a. Memᴰ a values)
unfolding some_too_large
some_too_large_exactly p [] = (λ e. absurd (false≢true e), λ (a, m, l). absurd (Memᴰ.not-nil m))
some_too_large_exactly p (b ∷ values) = large_step p b values (some_too_large_exactly p values)

-- the first value is repeated, or one behind it
repeated_step : (a : ℕ) (values : List ℕ) → (some_repeated values ≡ true) ↔ Repeated values → (some_repeated (a ∷ values) ≡ true) ↔ Repeated (a ∷ values)
unfolding some_repeated
repeated_step a values rest =
    let test = or_exactly _ _ (member_mem a values) rest in
    (λ e. joined (test.0 e), λ r. test.1 (parted r))
  where
    joined : Memᴰ a values ⊎ Repeated values → Repeated (a ∷ values)
    joined (inl m) = let (j, l, e) = mem_at values a m in (0, suc j, omega arith, omega arith, sym e)
    joined (inr (i, j, h, l, e)) = (suc i, suc j, omega arith, omega arith, e)

    parted : Repeated (a ∷ values) → Memᴰ a values ⊎ Repeated values
    parted (i, zero, h, l, e) = let z : ⊥ = omega arith in absurd z
    parted (zero, suc j, h, l, e) = inl (Memᴰ.cast e (get_d_mem values j 0 (omega arith)))
    parted (suc i, suc j, h, l, e) = inr (i, j, omega arith, omega arith, e)

repeated_exactly : (values : List ℕ) → (some_repeated values ≡ true) ↔ Repeated values
unfolding some_repeated
repeated_exactly [] = (λ e. absurd (false≢true e), λ (i, j, h, l, e). absurd (let z : ⊥ = omega arith in z))
repeated_exactly (a ∷ values) = repeated_step a values (repeated_exactly values)

pub bad_exactly : (candidates : List ℕ) → (some_bad candidates ≡ true) ↔ (Memᴰ 0 candidates ⊎ Repeated candidates)
unfolding some_bad
bad_exactly candidates = or_exactly _ _ (member_mem 0 candidates) (repeated_exactly candidates)

-- ---- the search

is_none_exactly : (best : Best) → (is_none best ≡ true) ↔ (best ≡ nothing)
is_none_exactly nothing = (λ e. refl, λ e. refl)
is_none_exactly (found row) = (λ e. absurd (false≢true e), λ e. ap is_none e)

-- a search for any family, whose tests of order and count decide what is said of them
module _ (family : Family) (p n : ℕ) (candidates : List ℕ) {Order Count : Type 0} (order : (is_wrong_order_for family n ≡ true) ↔ Order)
    (count : (is_wrong_count_for family n (length candidates) ≡ true) ↔ Count) where
  -- what is said of 3 to 8
  abbrev Says : ℕ → Type 0
  Says = Stated p Order Count (λ a. Memᴰ a candidates) (Memᴰ 0 candidates ⊎ Repeated candidates)

  -- what applies: one of the numbers that are stated, or 9 where there is no row
  all_exactly : (best : Best) (k : ℕ) → Applies (search_faults family p n candidates best) k ↔ OrNone Says best k
  unfolding Applies search_faults
  all_exactly best k = (λ m. ⊎_elim (λ l. inl (call.0 l)) nine (Memᴰ.append_cases (call_faults p _ _ _ _) m), from)
    where
      call : Applies (call_faults p (is_wrong_order_for family n) (is_wrong_count_for family n (length candidates)) (some_too_large p candidates) (some_bad candidates)) k
          ↔ Says k
      call = call_exactly p order count (some_too_large_exactly p candidates) (bad_exactly candidates) k

      nine : Memᴰ (fault k true) (fault 9 (is_none best) ∷ []) → OrNone Says best k
      nine = fault_cases 9 (λ e t. inr (e, (is_none_exactly best).0 t)) (λ m. absurd (Memᴰ.not-nil m))

      from : OrNone Says best k → Memᴰ (fault k true) (search_faults family p n candidates best)
      from (inl s) = Memᴰ.append_left _ (call.1 s)
      from (inr (e, b)) = Memᴰ.append_right (call_faults p _ _ _ _) (rw e (fault_here 9 ((is_none_exactly best).1 b)))

  -- the numbers up to 8
  to_eight_exactly : (best : Best) (k : ℕ) → k ≤ 8 → Applies (search_faults family p n candidates best) k ↔ Says k
  to_eight_exactly best k l =
      let (to, from) = all_exactly best k in
      (λ m. ⊎_elim (λ s. s) (λ h. let z : ⊥ = omega (arith, h.0) in absurd z) (to m), λ s. from (inl s))

  -- what the contract yields: the lowest of them, 0 where none applies
  lowest : LowestOf (OrNone Says (lightest_row (shape_of family) p n candidates)) (search_answer family p n candidates).number
  unfolding search_answer
  lowest =
      let best = lightest_row (shape_of family) p n candidates in
      let faults = search_faults family p n candidates best in
      lowest_same (all_exactly best)
      (lowest_after no_row _ faults (unfold search_faults polynomial_faults numbered in refl) (unfold search_faults polynomial_faults ascends in refl))

-- each family
pub search_exactly : (family : Family) (p n : ℕ) (candidates : List ℕ) (best : Best) (k : ℕ) → k ≤ 8
    → Applies (search_faults family p n candidates best) k ↔ StatedFor family p n candidates k
search_exactly Hadamard p n candidates = to_eight_exactly Hadamard p n candidates (search_order_exactly n) (search_count_exactly n (length candidates))
search_exactly Circulant p n candidates = to_eight_exactly Circulant p n candidates (circulant_order_exactly n) (circulant_count_exactly (length candidates))

pub search_lowest : (family : Family) (p n : ℕ) (candidates : List ℕ)
    → LowestOf (OrNone (StatedFor family p n candidates) (lightest_row (shape_of family) p n candidates)) (search_answer family p n candidates).number
search_lowest Hadamard p n candidates = lowest Hadamard p n candidates (search_order_exactly n) (search_count_exactly n (length candidates))
search_lowest Circulant p n candidates = lowest Circulant p n candidates (circulant_order_exactly n) (circulant_count_exactly (length candidates))
