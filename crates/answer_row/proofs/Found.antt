-- What is found by a search: the values that are kept, and the lines of a row. Assumes nothing.
use mathlib.Core.Path.{◌≡◌, refl, sym, ap, ◌∙◌}
use mathlib.Core.Logic.{⊎_elim}
use mathlib.Core.Bool.{Bool, true, false, cond, true≢false}
use mathlib.Core.List.{List, [], ◌∷◌, ◌++◌, Memᴰ}
use Prim.Native.Nat.{ℕ, zero, suc, ◌+◌, ◌-◌, ◌*◌, ◌^◌, ◌≤◌, ◌<◌, min, zero-le}
use native.Mathlib.Nat.{add-zero, zero-add}
use native.Mathlib.Numerals.{add-one}
use native.Mathlib.Omega.{arith}
use native.Mathlib.Decide.{dec_lt}
use borrow.Author.Tests.{lt-ltb}
use lib.ListN.{get_or, length, take, replicate, length-take, get_or-eq_default}
use lib.Seq.{take_at, get_or-take, ext_get_or}
use Rattle.refusal.specs.Refusals.{number_of, Fault, fault, first_number, Answer, answer, answer_after}
use Rattle.refusal.specs.declared.Refusal.{Refusal}
use Rattle.refusal.proofs.Faults.{numbered, number_not_zero, first_passed, after_none, after_number, after_number_is, first_parts, first_behind}
use Rattle.field.specs.Polynomial.{Modulus, degree}
use Rattle.field.specs.Faults.{polynomial_faults}
use Rattle.field.proofs.Calls.{elements_most}
use Rattle.lines.specs.Counts.{element_count, addition_count, row_count}
use Rattle.lines.proofs.Tallies.{element_count_le}
use Rattle.rows.specs.declared.Family.{Family}
use Rattle.rows.specs.declared.Family.TheVariants.{Hadamard, Circulant}
use Rattle.rows.specs.Lightest.{Best, nothing, found}
use Rattle.rows.specs.Shape.{is_good, shape_of}
use Rattle.rows.specs.Keys.{sum_of, lightest_row, key_of}
use Rattle.rows.proofs.Demands.{NoZero}
use Rattle.rows.proofs.Rows.{mem_rows, sorted_rows, get_d_mem}
use Rattle.rows.proofs.Lightest.{row_sorted}
use Rattle.cuts.proofs.Families.{family_most, family_least}
use Rattle.rows.specs.Candidates.{some_too_large, some_bad}
use Rattle.search.specs.Answer.{is_wrong_order_for, is_wrong_count_for, brief_faults, is_none, search_faults, RowFound, no_row, row_found, search_answer, row_told}
use Rattle.search.specs.declared.LightestRow.{LightestRow}
use Rattle.lightest.proofs.LetterCounts.{member_nonzero}
use Rattle.search.proofs.Refusals.{order_of_holds, brief_passed, brief_parts, count_four, count_eight, circulant_count_other}
use Rattle.text.specs.Text.{SixDigits}
use Rattle.text.proofs.Form.{six_none, six_more}
use Rattle.text.specs.Reading.{value_at, values_from}
use Rattle.text.proofs.Lengths.{length_values_from}
use Rattle.reply.specs.Due.{request, row_lines, best_lines, search, due_to}

-- ---- the values that are kept

-- one more value
values_more : (s : List ℕ) (j n : ℕ) → values_from s j (suc n) ≡ values_from s j n ++ (value_at s (j + n) ∷ [])
unfolding values_from
values_more s j zero = ap (λ (k : ℕ). value_at s k ∷ []) (sym (add-zero j))
values_more s j (suc n) =
    let place : suc j + n ≡ j + suc n = omega arith in
    ap (λ (l : List ℕ). value_at s j ∷ l) (values_more s (suc j) n ∙ ap (λ (k : ℕ). values_from s (suc j) n ++ (value_at s k ∷ [])) place)

-- a value is stored behind those before it
pub values_stored : (s : List ℕ) (i : ℕ) (l : List ℕ) (v : ℕ) → l ≡ values_from s 0 i → v ≡ value_at s i → l ++ (v ∷ []) ≡ values_from s 0 (i + 1)
values_stored s i l v e d = rw (add-one i, values_more s 0 i, zero-add i, e, d) refl

pub values_none : (s : List ℕ) → [] ≡ values_from s 0 0
unfolding values_from
values_none s = refl

-- of more than 255 values none is looked at: the order or the count is wrong
abbrev many_faults : Family → ℕ → List Fault
many_faults family n = fault 5 (is_wrong_order_for family n) ∷ fault 6 true ∷ []

many_wrong : (family : Family) (n count : ℕ) → is_wrong_order_for family n ≡ false → 255 < count → is_wrong_count_for family n count ≡ true
many_wrong Hadamard n count e h =
    let some : count ≡ 0 → ⊥ = λ z. omega arith in
    ⊎_elim (λ (q : n ≡ 4). sym (count_four n count some q) ∙ lt-ltb 255 count h)
    (λ (q : n ≡ 8). sym (count_eight n count some q) ∙ lt-ltb 16 count (omega arith)) (order_of_holds n e)
many_wrong Circulant n count e h = sym (circulant_count_other count (λ z. omega arith)) ∙ lt-ltb 8 count (omega arith)

many : Family → ℕ → ℕ → ℕ
many family p n = first_number (polynomial_faults p ++ many_faults family n)

many_first : (family : Family) (p n : ℕ) (values : List ℕ) (more : List Fault) → 255 < length values → first_number (brief_faults family p n values ++ more) ≡ many family p n
unfolding polynomial_faults first_number many
many_first family p n values more h =
    let behind = fault 7 (some_too_large p values) ∷ fault 8 (some_bad values) ∷ more in
    first_behind (polynomial_faults p) (fault 5 (is_wrong_order_for family n) ∷ fault 6 (is_wrong_count_for family n (length values)) ∷ behind) (many_faults family n)
    (go (is_wrong_order_for family n) refl (first_number behind))
  where
    go : (b : Bool) → is_wrong_order_for family n ≡ b → (rest : ℕ) → ◌≡◌ {A = ℕ} (cond b 5 (cond (is_wrong_count_for family n (length values)) 6 rest)) (cond b 5 6)
    go true e rest = refl
    go false e rest = ap (λ (x : Bool). cond x 6 rest) (many_wrong family n (length values) e h)

many_told : (family : Family) (p n : ℕ) → many family p n ≡ 0 → ⊥
unfolding many polynomial_faults numbered first_number
many_told family p n e = go (is_wrong_order_for family n) (first_parts (polynomial_faults p) (many_faults family n) refl e).1
  where
    go : (b : Bool) → ◌≡◌ {A = ℕ} (cond b 5 6) 0 → ⊥
    go true f = omega arith
    go false f = omega arith

-- so what is due to the first 256 values of a brief is due to all
module _ (family : Family) (p n : ℕ) (more : List ℕ → List Fault) (lines : List ℕ → List (List ℕ)) where
  abbrev due_of : List ℕ → Answer (List (List ℕ))
  due_of values = answer_after [] (brief_faults family p n values ++ more values) (lines values)

  many_due : (values : List ℕ) → 255 < length values → answer (many family p n) [] ≡ due_of values
  many_due values h = after_number [] _ (brief_faults family p n values ++ more values) (many family p n) (many_first family p n values (more values) h) (many_told family p n)

  pub brief_kept : (s : List ℕ) (count : ℕ) → due_of (values_from s 0 (min count 256)) ≡ due_of (values_from s 0 count)
  brief_kept s count = elim (dec_lt count 256) [
    | yes h ↦ ap (λ (k : ℕ). due_of (values_from s 0 k)) (omega arith)
    | no h ↦
        sym (many_due (values_from s 0 (min count 256)) (omega (arith, h, length_values_from s 0 (min count 256))))
        ∙ many_due (values_from s 0 count) (omega (arith, h, length_values_from s 0 count))
  ]

pub search_kept : (family : Family) (p n : ℕ) (s : List ℕ) (count : ℕ) → due_to (search family) (request p n (values_from s 0 (min count 256))) ≡ due_to (search family) (request p n (values_from s 0 count))
unfolding due_to search search_faults
search_kept family p n s count =
    brief_kept family p n (λ values. fault 9 (is_none (lightest_row (shape_of family) p n values)) ∷ []) (λ values. best_lines p n (lightest_row (shape_of family) p n values)) s count

-- ---- an accepted search

-- what it has shown
pub record Accepted (family : Family) (p n : ℕ) (values : List ℕ) : Type 0 where
  pub modulus : Modulus p
  pub low : 1 ≤ n
  pub high : n ≤ 8
  pub row : List ℕ
  pub lightest : lightest_row (shape_of family) p n values ≡ found row
  pub entries : length row ≡ n
  pub small : (j : ℕ) → get_or row j 0 ≤ 255
  pub nonzero : NoZero n row

row_there : (best : Best) → is_none best ≡ false → (row : List ℕ) × (best ≡ found row)
row_there nothing e = absurd (true≢false e)
row_there (found row) e = (row, refl)

-- every entry of a row is bounded where its members are
pub small_entries : (b : ℕ) (row : List ℕ) → ((a : ℕ) → Memᴰ a row → a ≤ b) → (i : ℕ) → get_or row i 0 ≤ b
small_entries b [] h i = zero-le
small_entries b (x ∷ row) h zero = h x (Memᴰ.head refl)
small_entries b (x ∷ row) h (suc i) = small_entries b row (λ a m. h a (Memᴰ.tail m)) i

-- a row that is found has n entries, each of them a candidate below 2^m
found_over : (family : Family) (p n : ℕ) (values row : List ℕ) → lightest_row (shape_of family) p n values ≡ found row
    → (length row ≡ n) × ((a : ℕ) → Memᴰ a row → Memᴰ a values × (a < 2 ^ degree p))
unfolding lightest_row
found_over family p n values row e = (mem_rows (2 ^ degree p) values n row).0 (row_sorted (is_good (shape_of family) p n) (key_of p n) (sorted_rows (2 ^ degree p) values n) row e).is_row

pub search_accepted : (family : Family) (p n : ℕ) (values : List ℕ) → first_number (search_faults family p n values (lightest_row (shape_of family) p n values)) ≡ 0 → Accepted family p n values
unfolding search_faults polynomial_faults
search_accepted family p n values e =
    let (brief, nine) = brief_parts family p n values _ e in
    let passed = brief_passed family p n values brief in
    let (none, e₉) = first_passed 9 0 (is_none (lightest_row (shape_of family) p n values)) [] (λ h. omega arith) nine in
    let modulus = passed.modulus in
    let orders = passed.order in
    let bad = passed.bad in
    let there = row_there (lightest_row (shape_of family) p n values) none in
    let row = found_over family p n values there.0 there.1 in
    record {
      modulus = modulus;
      low = family_least family n orders;
      high = family_most family n orders;
      row = there.0;
      lightest = there.1;
      entries = row.0;
      small = small_entries 255 there.0 (λ a m. let l = (row.1 a m).1 in omega (arith, l, elements_most p modulus));
      nonzero = λ j l. member_nonzero values bad _ (row.1 _ (get_d_mem there.0 j 0 (rw row.0 l))).0;
    }

-- ---- what is due, from what the search says

module _ (family : Family) (p n : ℕ) (values : List ℕ) where
  says_number : (a : Answer RowFound) → a ≡ search_answer family p n values → first_number (search_faults family p n values (lightest_row (shape_of family) p n values)) ≡ a.number
  unfolding search_answer
  says_number a e = sym (ap (λ (x : Answer RowFound). x.number) e ∙ after_number_is no_row _ (search_faults family p n values (lightest_row (shape_of family) p n values)))

  pub search_refused : (r : Refusal) → answer (number_of r) no_row ≡ search_answer family p n values → answer (number_of r) [] ≡ due_to (search family) (request p n values)
  unfolding due_to search
  search_refused r e = after_number [] _ (search_faults family p n values (lightest_row (shape_of family) p n values)) (number_of r) (says_number _ e) (number_not_zero r)

  module _ (r : LightestRow) (e : answer 0 (row_told r) ≡ search_answer family p n values) where
    pub search_passed : Accepted family p n values
    search_passed = search_accepted family p n values (says_number _ e)

    -- the row that is told is the lightest, filled up
    told : answer 0 (row_told r) ≡ answer 0 (row_found p n (found search_passed.row))
    unfolding search_answer
    told =
        e
        ∙ sym (after_none no_row _ (search_faults family p n values (lightest_row (shape_of family) p n values)) (says_number _ e))
        ∙ ap (λ (b : Best). answer 0 (row_found p n b)) search_passed.lightest

    same_row : take n r.row ≡ search_passed.row
    same_row = ap (λ (x : Answer RowFound). take n x.value.row) told ∙ take_at search_passed.row (replicate (8 - n) 0) n search_passed.entries

    pub sum_told : r.sum ≡ sum_of p n (take n r.row)
    sum_told = ap (λ (x : Answer RowFound). x.value.sum) told ∙ ap (sum_of p n) (sym same_row)

    pub search_told : answer 0 (row_lines p n (take n r.row)) ≡ due_to (search family) (request p n values)
    unfolding due_to search
    search_told =
        ap (λ (l : List ℕ). answer 0 (row_lines p n l)) same_row
        ∙ ap (λ (b : Best). answer 0 (best_lines p n b)) (sym search_passed.lightest)
        ∙ after_none [] _ (search_faults family p n values (lightest_row (shape_of family) p n values)) (says_number _ e)

-- ---- the lines of a row

pub same_entries : (l r : List ℕ) → length l ≡ 8 → length r ≡ 8 → ((k : ℕ) → k < 8 → get_or l k 0 ≡ get_or r k 0) → l ≡ r
same_entries l r e f h = ext_get_or 0 l r (e ∙ sym f) (λ k m. h k (rw e at m))

pub six_entries : (l : List ℕ) → length l ≡ 8 → ((k : ℕ) → k < 8 → get_or l k 0 ≤ 255) → SixDigits l
unfolding SixDigits
six_entries l e h i = elim (dec_lt i 8) [
  | yes m ↦ omega (arith, h i m)
  | no m ↦ rw (get_or-eq_default l 0 {n = i} (omega (arith, e, m))) zero-le
]

pub six_take : (n : ℕ) (l : List ℕ) → SixDigits l → SixDigits (take n l)
unfolding SixDigits
six_take n l h i = elim (dec_lt i n) [
  | yes m ↦ rw (get_or-take n l i 0 m) (h i)
  | no m ↦ rw (get_or-eq_default (take n l) 0 {n = i} (omega (arith, length-take n l, m))) zero-le
]

-- the row count is the sum of the element counts and the additions
pub row_lines_holds : (p n sum count : ℕ) (row : List ℕ) → sum ≡ sum_of p n row → count ≡ sum + addition_count p n (λ j. get_or row j 0)
    → (0 ∷ sum ∷ count ∷ n * count ∷ []) ∷ row ∷ [] ≡ row_lines p n row
unfolding row_lines sum_of row_count
row_lines_holds p n sum count row e f = rw (f, e)

-- every number of a row's lines fits its columns
pub sum_le : (p n sum : ℕ) (row : ℕ → ℕ) → Modulus p → n ≤ 8 → sum ≡ element_count p n row → sum ≤ 448
sum_le p n sum row h l e = omega (arith, element_count_le p n row h)

pub six_row : (sum count most : ℕ) → sum ≤ 448 → count ≤ 504 → most ≤ 4032 → SixDigits (0 ∷ sum ∷ count ∷ most ∷ [])
six_row sum count most a b c =
    six_more _ zero-le (six_more _ (omega arith) (six_more _ (omega arith) (six_more _ (omega arith) six_none)))
