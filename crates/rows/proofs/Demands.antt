-- Demand 3, whole, for each family. `demand_three`: a row that is answered is over the brief's elements and has what is asked (its Hadamard matrix
-- is an involution with branch number order plus one; its circulant matrix has branch number order plus one), and every other row over these elements
-- that has it has a larger XOR count; or the same count and a greater depth; or both the same and a later place. `demand_three_none`: nothing is
-- answered exactly if no row over these elements has it. `demand_three_only`: no other row is demanded. `order_of_candidates`: the order of the
-- brief's elements does not matter. They are the theorems `shape_row`, `shape_none`, `shape_only` of any shape, at the family's. What compares counts takes a shape by which
-- every entry of the row stands in its matrix: then no entry is 0, and rows compare by the sums of their element counts. Assumes nothing.
use mathlib.Core.Path.{◌≡◌, refl, sym, ap, ap₂, ◌∙◌}
use mathlib.Core.Logic.{◌≢◌, ◌↔◌, ◌⊎◌, inl, inr, ⊎_elim}
use mathlib.Core.Bool.{Bool, true, false, not, ◌||◌, true≢false, false≢true}
use mathlib.Core.List.{List, Memᴰ}
use Prim.Native.Nat.{ℕ, suc, ◌+◌, ◌-◌, ◌*◌, ◌^◌, ◌≤◌, ◌<◌}
use native.Mathlib.Omega.{arith}
use borrow.Author.Tests.{eqb-true, eq-eqb}
use lib.Bits.{xor_zero_r}
use lib.ListN.{length, get_or}
use lib.Seq.{ext_get_or}
use Rattle.algebra.specs.Matrix.{hadamard, circulant, branch_number, is_mds, is_involution}
use Rattle.algebra.proofs.Involution.{and_left, and_right}
use Rattle.algebra.proofs.Sums.{le_or_lt}
use Rattle.field.specs.Polynomial.{degree}
use Rattle.lines.specs.Numbers.{numbers, elements}
use Rattle.lines.proofs.Tallies.{full_line}
use Rattle.matrix.proofs.Theorems.{zero_entry_light}
use Rattle.rows.specs.declared.Family.{Family}
use Rattle.rows.specs.declared.Family.TheVariants.{Hadamard, Circulant}
use Rattle.rows.specs.Lightest.{Earlier, nothing, found, rows_over}
use Rattle.rows.specs.Shape.{Shape, row_matrix, is_good, hadamard_shape, circulant_shape, shape_of}
use Rattle.rows.specs.Keys.{sum_of, key_of, lightest_row}
use Rattle.rows.specs.Demands.{count_of_row, Before, by_count, by_depth, by_place, FirstOf, Asks, Demanded}
use Rattle.rows.proofs.Around.{mod_once}
use Rattle.rows.proofs.Keys.{key_lt, key_split, key_same}
use Rattle.rows.proofs.Rows.{mem_rows, sorted_rows, get_d_mem, not_passed}
use Rattle.rows.proofs.Lightest.{none_sorted, row_sorted, unique_sorted, same_answer}

-- a row over the brief's elements with what a shape asks for: its matrix of that shape has branch number order plus one, and is an
-- involution where it has to be
pub record Suited (shape : Shape) (p n : ℕ) (candidates row : List ℕ) : Type 0 where
  pub entries : length row ≡ n
  pub over : (a : ℕ) → Memᴰ a row → Memᴰ a candidates
  pub involution : shape.involutory ≡ true → is_involution (numbers p) (elements p) n (row_matrix shape n row) ≡ true
  pub branch : branch_number (numbers p) (elements p) n (row_matrix shape n row) ≡ suc n

-- ---- counts

-- none of the first n entries is 0
abbrev pub NoZero : ℕ → List ℕ → Type 0
NoZero n row = (j : ℕ) → j < n → get_or row j 0 ≢ 0

-- the count of a row without zeros is its sum and a number that only the order and the polynomial decide
pub count_sum : (p n : ℕ) (row : List ℕ) → NoZero n row → count_of_row p n row ≡ sum_of p n row + (n - 1) * degree p
unfolding sum_of
count_sum p n row h = full_line p n (λ j. get_or row j 0) h

-- the order of keys is that of counts, then of depths
module _ (p n : ℕ) (r s : List ℕ) (x : NoZero n r) (y : NoZero n s) where
  same_count : sum_of p n r ≡ sum_of p n s → count_of_row p n r ≡ count_of_row p n s
  same_count e = omega (arith, count_sum p n r x, count_sum p n s y)

  same_sum : count_of_row p n r ≡ count_of_row p n s → sum_of p n r ≡ sum_of p n s
  same_sum e = omega (arith, count_sum p n r x, count_sum p n s y)

  pub key_before : (key_of p n r < key_of p n s) ⊎ ((key_of p n r ≡ key_of p n s) × Earlier r s) → Before p n r s
  key_before h =
      ⊎_elim
      (λ l.
      ⊎_elim (λ (m : sum_of p n r < sum_of p n s). by_count (omega (arith, count_sum p n r x, count_sum p n s y)))
      (λ q. by_depth (same_count q.0) q.1) (key_split p n r s l))
      (λ q. let (e, f) = key_same p n r s q.0 in by_place (same_count e) f q.1) h

  pub before_key : Before p n r s → (key_of p n r < key_of p n s) ⊎ ((key_of p n r ≡ key_of p n s) × Earlier r s)
  before_key (by_count l) = inl (key_lt p n r s (inl (omega (arith, count_sum p n r x, count_sum p n s y))))
  before_key (by_depth e l) = inl (key_lt p n r s (inr (same_sum e, l)))
  before_key (by_place e f h) = inr (unfold key_of in ap₂ (λ (t d : ℕ). t * suc (degree p * n) + d) (same_sum e) f, h)

-- ---- any shape

-- every place of a row of n entries stands somewhere in its matrix
abbrev pub EveryPlace : Shape → ℕ → Type 0
EveryPlace shape n = (a : ℕ) → a < n → (i : ℕ) × (j : ℕ) × (i < n) × (j < n) × (shape.place n i j ≡ a)

-- a test that is made only where it is asked for
where_asked : (asked x : Bool) → (not asked || x) ≡ true → asked ≡ true → x ≡ true
where_asked true x e a = e
where_asked false x e a = absurd (false≢true a)

asked_where : (asked x : Bool) → (asked ≡ true → x ≡ true) → (not asked || x) ≡ true
asked_where true x h = h refl
asked_where false x h = refl

module _ (shape : Shape) (p n : ℕ) (candidates : List ℕ) (fits : (a : ℕ) → Memᴰ a candidates → a < 2 ^ degree p) where
  -- a good row over the candidates has what the shape asks for
  pub suited_of : (r : List ℕ) → Memᴰ r (rows_over (2 ^ degree p) candidates n) → is_good shape p n r ≡ true → Suited shape p n candidates r
  unfolding is_good is_mds
  suited_of r m g =
      let (l, over) = (mem_rows (2 ^ degree p) candidates n r).0 m in
      record {
        entries = l;
        over = λ a i. (over a i).0;
        involution = where_asked shape.involutory _ (and_left _ _ g);
        branch = eqb-true _ (suc n) (and_right (not shape.involutory || _) _ g);
      }

  -- a row that has it is one of the rows, and good
  pub of_suited : (r : List ℕ) → Suited shape p n candidates r → Memᴰ r (rows_over (2 ^ degree p) candidates n) × (is_good shape p n r ≡ true)
  unfolding is_good is_mds
  of_suited r b = (
    (mem_rows (2 ^ degree p) candidates n r).1 (b.entries, λ a i. (b.over a i, fits a (b.over a i))),
    rw (asked_where shape.involutory _ b.involution) (eq-eqb _ (suc n) b.branch),
  )

  pub shape_none : (lightest_row shape p n candidates ≡ nothing) ↔ ((r : List ℕ) → Suited shape p n candidates r → ⊥)
  unfolding lightest_row
  shape_none =
      let none = none_sorted (is_good shape p n) (key_of p n) (sorted_rows (2 ^ degree p) candidates n) in (
        λ e r b. let (m, g) = of_suited r b in true≢false (sym g ∙ none.0 e r m),
        λ h. none.1 (λ r m. not_passed (is_good shape p n r) (λ g. h r (suited_of r m g))),
      )

  module _ (each : EveryPlace shape n) where
    -- where 1 is an element, a suited row has no 0
    suited_nonzero : 1 < 2 ^ degree p → (r : List ℕ) → Suited shape p n candidates r → NoZero n r
    unfolding row_matrix
    suited_nonzero some r b a l z =
        let (i, j, x, y, e) = each a l in
        let light = zero_entry_light p n (row_matrix shape n r) i j x y (ap (λ (k : ℕ). get_or r k 0) e ∙ z) some in
        omega (arith, light, b.branch)

    -- else 0 is the only element, and there is one row
    one_element : 2 ^ degree p ≤ 1 → (r s : List ℕ) → Suited shape p n candidates r → Suited shape p n candidates s → s ≡ r
    one_element few r s b c = ext_get_or 0 s r (c.entries ∙ sym b.entries) (λ k l. zero s c k (rw c.entries at l) ∙ sym (zero r b k (rw c.entries at l)))
      where
        zero : (t : List ℕ) → Suited shape p n candidates t → (k : ℕ) → k < n → get_or t k 0 ≡ 0
        zero t d k l = let below = fits _ (d.over _ (get_d_mem t k 0 (rw d.entries l))) in omega arith

    -- so of two suited rows neither has a 0
    apart_nonzero : (r s : List ℕ) → Suited shape p n candidates r → Suited shape p n candidates s → s ≢ r → NoZero n r × NoZero n s
    apart_nonzero r s b c d =
        ⊎_elim (λ (few : 2 ^ degree p ≤ 1). absurd (d (one_element few r s b c)))
        (λ (some : 1 < 2 ^ degree p). (suited_nonzero some r b, suited_nonzero some s c)) (le_or_lt (2 ^ degree p) 1)

    -- of two good rows over the candidates, the first by the keys is before the other
    pub before_exactly : (r s : List ℕ) → Memᴰ r (rows_over (2 ^ degree p) candidates n) → is_good shape p n r ≡ true
        → Memᴰ s (rows_over (2 ^ degree p) candidates n) → is_good shape p n s ≡ true → s ≢ r
        → ((key_of p n r < key_of p n s) ⊎ ((key_of p n r ≡ key_of p n s) × Earlier r s)) ↔ Before p n r s
    before_exactly r s m g k f d =
        let (x, y) = apart_nonzero r s (suited_of r m g) (suited_of s k f) d in
        (key_before p n r s x y, before_key p n r s x y)

    pub shape_row : (r : List ℕ) → lightest_row shape p n candidates ≡ found r → FirstOf (Suited shape p n candidates) p n r
    unfolding lightest_row
    shape_row r e =
        let d = row_sorted (is_good shape p n) (key_of p n) (sorted_rows (2 ^ degree p) candidates n) r e in
        record {
          has = suited_of r d.is_row d.is_good;
          first = λ s b q.
              let (m, g) = of_suited s b in
              (before_exactly r s d.is_row d.is_good m g q).0 (d.is_first s m g q);
        }

    pub shape_only : (r : List ℕ) → FirstOf (Suited shape p n candidates) p n r → lightest_row shape p n candidates ≡ found r
    unfolding lightest_row
    shape_only r d =
        let (m, g) = of_suited r d.has in
        unique_sorted (is_good shape p n) (key_of p n) (sorted_rows (2 ^ degree p) candidates n) r
        (record {
          is_row = m;
          is_good = g;
          is_first = λ s i t q. (before_exactly r s m g i t q).1 (d.first s (suited_of s i t) q);
        })

pub order_of_candidates : (shape : Shape) (p n : ℕ) (candidates candidates' : List ℕ) → ((a : ℕ) → Memᴰ a candidates ↔ Memᴰ a candidates')
    → lightest_row shape p n candidates ≡ lightest_row shape p n candidates'
unfolding lightest_row
order_of_candidates shape p n candidates candidates' same = same_answer (is_good shape p n) (key_of p n) (2 ^ degree p) candidates candidates' n same

-- ---- each family, in the customer's words

-- the first column of a Hadamard matrix has the row's entries, and so has the first line of a circulant matrix
pub every_place : (family : Family) (n : ℕ) → EveryPlace (shape_of family) n
unfolding hadamard_shape circulant_shape
every_place Hadamard n a l = (a, 0, l, omega arith, xor_zero_r a)
every_place Circulant n a l = (0, a, omega arith, l, mod_once n (a + (n - 0)) a l (omega arith))

-- rows that have the same have the same first
same_first : (P Q : List ℕ → Type 0) → ((s : List ℕ) → P s ↔ Q s) → (p n : ℕ) (r : List ℕ) → FirstOf P p n r → FirstOf Q p n r
same_first P Q same p n r d = record { has = (same r).0 d.has; first = λ s q. d.first s ((same s).1 q) }

-- what a shape asks for is what the customer asks for
pub suited_asks : (family : Family) (p n : ℕ) (candidates r : List ℕ) → Suited (shape_of family) p n candidates r ↔ Asks family p n candidates r
unfolding row_matrix hadamard_shape circulant_shape hadamard circulant
suited_asks Hadamard p n candidates r = (
  λ s. record { entries = s.entries; over = s.over; involution = s.involution refl; branch = s.branch },
  λ b. record { entries = b.entries; over = b.over; involution = λ asked. b.involution; branch = b.branch },
)
suited_asks Circulant p n candidates r = (
  λ s. record { entries = s.entries; over = s.over; branch = s.branch },
  λ b. record { entries = b.entries; over = b.over; involution = λ asked. absurd (false≢true asked); branch = b.branch },
)

module _ (family : Family) (p n : ℕ) (candidates : List ℕ) (fits : (a : ℕ) → Memᴰ a candidates → a < 2 ^ degree p) where
  pub demand_three : (r : List ℕ) → lightest_row (shape_of family) p n candidates ≡ found r → Demanded family p n candidates r
  demand_three r e =
      same_first _ _ (suited_asks family p n candidates) p n r (shape_row (shape_of family) p n candidates fits (every_place family n) r e)

  pub demand_three_none : (lightest_row (shape_of family) p n candidates ≡ nothing) ↔ ((r : List ℕ) → Asks family p n candidates r → ⊥)
  demand_three_none =
      let none = shape_none (shape_of family) p n candidates fits in
      (λ e r b. none.0 e r ((suited_asks family p n candidates r).1 b), λ h. none.1 (λ r s. h r ((suited_asks family p n candidates r).0 s)))

  pub demand_three_only : (r : List ℕ) → Demanded family p n candidates r → lightest_row (shape_of family) p n candidates ≡ found r
  demand_three_only r d =
      shape_only (shape_of family) p n candidates fits (every_place family n) r
      (same_first _ _ (λ s. ((suited_asks family p n candidates s).1, (suited_asks family p n candidates s).0)) p n r d)
