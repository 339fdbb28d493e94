-- The block that is left without a line and a column, and the determinant of numbers. Assumes nothing.
use mathlib.Core.Path.{◌≡◌, refl, sym, ap, ap₂, ◌∙◌}
use mathlib.Core.List.{List}
use Prim.Native.Nat.{ℕ, zero, suc, ◌+◌, ◌-◌, ◌^◌, ◌≤◌, ◌<◌}
use native.Mathlib.Nat.{not-suc-le-zero, le_of_suc-le-suc, zero-lt-suc}
use native.Mathlib.Numerals.{add-one}
use native.Mathlib.Omega.{arith}
use lib.Bits.{bit_xor}
use Rattle.algebra.specs.Matrix.{sum, skip, without, det}
use Rattle.algebra.proofs.Planes.{det_one, det_two}
use Rattle.algebra.proofs.Bridge.{skip_lt, det_cong}
use Rattle.field.specs.Polynomial.{degree, over_digits, digits_within, rem, ◌⊗◌, product, ◌⊕◌}
use Rattle.field.proofs.Sum.{sum_zero_l}
use Rattle.field.proofs.Degrees.{has_degree}
use Rattle.field.proofs.Field.{times_one_r}
use Rattle.lines.specs.Numbers.{numbers, entry, InField}
use Rattle.lines.specs.Steps.Blocks.{framed}
use Rattle.lines.proofs.Filled.{entry_of}

-- ---- a line without a column

-- the columns before column j stay
pub skip_before : (j k : ℕ) → k < j → skip j k ≡ k
unfolding skip
skip_before zero k l = absurd (not-suc-le-zero l)
skip_before (suc j) zero l = refl
skip_before (suc j) (suc k) l = ap suc (skip_before j k (le_of_suc-le-suc l))

-- those behind it move up by one
pub skip_behind : (j k : ℕ) → j ≤ k → skip j k ≡ suc k
unfolding skip
skip_behind zero k l = refl
skip_behind (suc j) zero l = absurd (not-suc-le-zero l)
skip_behind (suc j) (suc k) l = ap suc (skip_behind j k (le_of_suc-le-suc l))

-- ---- the determinant

-- the sum over the first k columns of the first line: each entry times the determinant of the block left, of order m
unfoldable pub first_line : ℕ → ℕ → (ℕ → ℕ → ℕ) → ℕ → ℕ
first_line p m f k = sum (numbers p) k (λ j. product p (f 0 j) (det (numbers p) m (without f j)))

pub first_line_none : (p m : ℕ) (f : ℕ → ℕ → ℕ) → 0 ≡ first_line p m f 0
unfolding first_line sum
first_line_none p m f = refl

-- one column more, whose block is g
pub first_line_more : (p m : ℕ) (f g : ℕ → ℕ → ℕ) (j r d s : ℕ) → r ≡ first_line p m f j → d ≡ det (numbers p) m g
    → ((i k : ℕ) → i < m → k < m → g i k ≡ without f j i k) → s ≡ product p (f 0 j) d → bit_xor r s ≡ first_line p m f (j + 1)
unfolding first_line sum ◌⊕◌
first_line_more p m f g j r d s er ed eg es =
    rw (add-one j) (ap₂ bit_xor er (es ∙ ap (product p (f 0 j)) (ed ∙ det_cong (numbers p) m g (without f j) eg)))

-- over all columns it is the determinant
pub first_line_all : (p n : ℕ) (f : ℕ → ℕ → ℕ) → 1 ≤ n → first_line p (n - 1) f n ≡ det (numbers p) n f
unfolding first_line det
first_line_all p zero f h = absurd (not-suc-le-zero h)
first_line_all p (suc m) f h = let e : suc m - 1 ≡ m = omega arith in rw e refl

-- of the empty block
pub det_none : (p : ℕ) (f : ℕ → ℕ → ℕ) → 1 ≡ det (numbers p) 0 f
unfolding det
det_none p f = refl

-- an element times 1; the polynomial 0 has the element 0 alone
times_one : (p a : ℕ) → a < 2 ^ degree p → product p a 1 ≡ a
unfolding degree product rem ◌⊗◌ over_digits digits_within
times_one zero a l = let z : a ≡ 0 = omega arith in rw z refl
times_one (suc p) a l = times_one_r (suc p) (degree (suc p)) (has_degree (suc p) (zero-lt-suc p)) a l

-- of a single entry
pub det_single : (p : ℕ) (f : ℕ → ℕ → ℕ) → f 0 0 < 2 ^ degree p → f 0 0 ≡ det (numbers p) 1 f
det_single p f l = sym (det_one (numbers p) sum_zero_l f (times_one p (f 0 0) l))

-- of two lines
pub det_pair : (p : ℕ) (f : ℕ → ℕ → ℕ) → f 1 0 < 2 ^ degree p → f 1 1 < 2 ^ degree p
    → product p (f 0 0) (f 1 1) ⊕ product p (f 0 1) (f 1 0) ≡ det (numbers p) 2 f
det_pair p f l m = sym (det_two (numbers p) sum_zero_l f (times_one p (f 1 0) l) (times_one p (f 1 1) m))

-- of lines 1 and 2 in columns i and j
abbrev pub lower_minor : ℕ → (ℕ → ℕ → ℕ) → ℕ → ℕ → ℕ
lower_minor p f i j = product p (f 1 i) (f 2 j) ⊕ product p (f 1 j) (f 2 i)

-- of three lines
pub det_three : (p : ℕ) (f : ℕ → ℕ → ℕ) → ((j : ℕ) → j < 3 → f 2 j < 2 ^ degree p)
    → product p (f 0 0) (lower_minor p f 1 2) ⊕ product p (f 0 1) (lower_minor p f 0 2) ⊕ product p (f 0 2) (lower_minor p f 0 1) ≡ det (numbers p) 3 f
unfolding det sum without skip
det_three p f below =
    ap₂ ◌⊕◌
    (ap₂ ◌⊕◌
    (ap (product p (f 0 0)) (det_pair p (without f 0) (below 1 (omega arith)) (below 2 (omega arith)))
    ∙ sym (sum_zero_l (product p (f 0 0) (det (numbers p) 2 (without f 0)))))
    (ap (product p (f 0 1)) (det_pair p (without f 1) (below 0 (omega arith)) (below 2 (omega arith)))))
    (ap (product p (f 0 2)) (det_pair p (without f 2) (below 0 (omega arith)) (below 1 (omega arith))))

-- the entries of the block left are elements
pub minor_in_field : (p n j : ℕ) (block r : List (List ℕ)) → 1 ≤ n → n ≤ 8 → InField p n n block
    → r ≡ framed (n - 1) 7 (without (entry block) j) → InField p (n - 1) (n - 1) r
unfolding InField without
minor_in_field p n j block r low high inside e i k l m =
    rw (entry_of (n - 1) 7 (without (entry block) j) r e i k l (omega arith)) (inside (suc i) (skip j k) (omega arith) (omega (arith, skip_lt j k (n - 1) m)))
