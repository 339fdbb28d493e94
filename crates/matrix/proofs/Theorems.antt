-- The theorems on matrices, for the numbers below 2^m: determinant and kernel, MDS and square blocks, the branch number by
-- elimination, involutions, entries 0. A matrix is a function whose entries below the order are elements.
-- Assumes nothing.
use mathlib.Core.Path.{◌≡◌, refl, sym, ap, ap₂, ◌∙◌}
use mathlib.Core.Bool.{Bool, true, false, cond}
use mathlib.Core.List.{List, map}
use Prim.Native.Nat.{ℕ, zero, suc, ◌+◌, ◌-◌, ◌/◌, ◌^◌, ◌≤◌, ◌<◌}
use native.Mathlib.Nat.{le_refl, le-suc, le_trans}
use native.Mathlib.Omega.{arith}
use lib.Dec.{eqb}
use lib.ListN.{length, get_or, length-map}
use lib.Pow.{pow_pos}
use Rattle.algebra.specs.Operations.{Operations}
use Rattle.algebra.proofs.FieldLaws.{Field}
use Rattle.algebra.specs.Matrix.{words, up_to, sum, apply, without, det, weight, activity, least_activity, branch_number, is_mds, is_involution, block, chosen, has_kernel}
use Rattle.algebra.specs.Steps.{cleared}
use Rattle.algebra.proofs.Words.{tabulate_mem}
use Rattle.algebra.proofs.Sums.{delta}
use Rattle.algebra.proofs.Weights.{get_d_apply, NullLaws}
use Rattle.algebra.proofs.Branch.{null_entry_light, branch_le, branch_le_suc, branch_attained}
use Rattle.algebra.proofs.Involution.{product as times, involution_back, back_involution, involution_identity, identity_involution}
use Rattle.algebra.proofs.Kernel.{cleared_bridge, has_kernel_free, has_kernel_step, det_kernel_to, det_kernel_from}
use Rattle.algebra.proofs.Blocks.{kernel_activity, activity_kernel}
use Rattle.algebra.proofs.Bridge.{sum_bridge}
use Rattle.field.specs.Polynomial.{degree, product, Modulus}
use Rattle.field.proofs.Sum.{sum_assoc, sum_comm, sum_zero_r, sum_lt}
use Rattle.field.proofs.Degrees.{polynomial}
use Rattle.field.proofs.Field.{times_zero_l, times_zero_r, times_lt}
use Rattle.lines.specs.Numbers.{numbers, elements, WordsInField}
use Rattle.matrix.specs.Steps.Regular.{regular_between}
use Rattle.matrix.proofs.Squares as Squares
use Rattle.matrix.proofs.Residues.{Residue, number, lift, lift_number, same_number, same_numbers, lift_words, residue_list as all, residues_complete as complete, one_lt, residues, number_keeps, residues_field}
use Rattle.matrix.proofs.Residues.{words_below, weight_carried, apply_carried, image_carried, det_carried, branch_carried, mds_carried, involution_carried, regular_carried, kernel_carried}

-- ---- an entry 0, over any polynomial of degree 1 or more

-- the laws of 0 and 1
number_nulls : (p : ℕ) → NullLaws (numbers p)
number_nulls p =
    record {
      sums = record { plus_assoc = sum_assoc; plus_comm = sum_comm; plus_null = sum_zero_r };
      times_null = times_zero_r p;
      null_times = times_zero_l p;
      null_is = refl;
      one_not_null = refl;
    }

-- a matrix with an entry 0 has branch number at most its order
pub zero_entry_light : (p n : ℕ) (f : ℕ → ℕ → ℕ) (i j : ℕ) → i < n → j < n → f i j ≡ 0 → 1 < 2 ^ degree p → branch_number (numbers p) (elements p) n f ≤ n
unfolding elements up_to
zero_entry_light p n f i j l m z some =
    null_entry_light (numbers p) (number_nulls p) n f i j l m z (elements p)
    (tabulate_mem (2 ^ degree p) (λ a. a) 0 (pow_pos (degree p))) (tabulate_mem (2 ^ degree p) (λ a. a) 1 some)

module _ (p : ℕ) (h : Modulus p) where
  -- the field of elements
  abbrev R : Operations
  R = residues p h

  abbrev L : Field R
  L = residues_field p h

  -- ---- results are elements

  -- products, whatever the factors
  product_below : (a b : ℕ) → product p a b < 2 ^ degree p
  product_below = times_lt p (degree p) (polynomial p h).has

  -- sums of elements
  pub sum_below : (n : ℕ) (u : ℕ → ℕ) → ((i : ℕ) → i < n → u i < 2 ^ degree p) → sum (numbers p) n u < 2 ^ degree p
  unfolding sum
  sum_below zero u b = pow_pos (degree p)
  sum_below (suc n) u b =
      sum_lt (degree p) (sum (numbers p) n u) (u n) (sum_below n u (λ i l. b i (le_trans l (le-suc n)))) (b n (le_refl (suc n)))

  -- determinants
  pub det_lt : (n : ℕ) (f : ℕ → ℕ → ℕ) → det (numbers p) n f < 2 ^ degree p
  unfolding det
  det_lt zero f = one_lt p h
  det_lt (suc n) f = sum_below (suc n) _ (λ j l. product_below (f 0 j) (det (numbers p) n (without f j)))

  -- the words of a matrix product
  pub apply_below : (n : ℕ) (f : ℕ → ℕ → ℕ) (x : List ℕ) → WordsInField p n (apply (numbers p) n f x)
  unfolding WordsInField
  apply_below n f x j l = rw (get_d_apply (numbers p) n f x j l) (sum_below n _ (λ i m. product_below (f j i) (get_or x i 0)))

  -- ---- the kernel

  -- whether an input that is not zero goes to zero, by elimination
  module _ (c r : ℕ) (f : ℕ → ℕ → ℕ) (below : (i j : ℕ) → i < r → j < suc c → f i j < 2 ^ degree p) where
    numbered : (i j : ℕ) → i < r → j < suc c → (lift p (f i j)).0 ≡ f i j
    numbered i j l m = lift_number p (f i j) (below i j l m)

    carried : has_kernel (numbers p) (elements p) (suc c) r f ≡ has_kernel R (all p) (suc c) r (λ i j. lift p (f i j))
    carried = kernel_carried p h (suc c) r f (λ i j. lift p (f i j)) numbered

    -- no line has an entry in column 0
    pub kernel_free : ((i : ℕ) → i < r → f i 0 ≡ 0) → has_kernel (numbers p) (elements p) (suc c) r f ≡ true
    kernel_free z =
        carried ∙ has_kernel_free R L (all p) (complete p) c r _ (λ i l. same_number p _ _ (numbered i 0 l (omega arith) ∙ z i l))

    -- line k has one, and clears the others
    pub kernel_step : (k : ℕ) → k < r → eqb (f k 0) 0 ≡ false
        → has_kernel (numbers p) (elements p) (suc c) r f ≡ has_kernel (numbers p) (elements p) c (r - 1) (cleared (numbers p) f k)
    kernel_step k l z =
        carried
        ∙ has_kernel_step R L (all p) (complete p) c r _ k l (rw (numbered k 0 l (omega arith)) z)
        ∙ sym (kernel_carried p h c (r - 1) _ _ (cleared_bridge R (numbers p) (number p) (number_keeps p h) r c _ f k l numbered))

  module _ (n : ℕ) (f : ℕ → ℕ → ℕ) (below : (i j : ℕ) → i < n → j < n → f i j < 2 ^ degree p) where
    -- the matrix of elements
    lifted : ℕ → ℕ → Residue p
    lifted i j = lift p (f i j)

    entries : (i j : ℕ) → i < n → j < n → (lifted i j).0 ≡ f i j
    unfolding lifted
    entries i j l m = lift_number p (f i j) (below i j l m)

    -- ---- the determinant

    det_null : R.is_null (det R n lifted) ≡ eqb (det (numbers p) n f) 0
    det_null = ap (λ (d : ℕ). eqb d 0) (det_carried p h n f lifted entries)

    -- where the determinant is 0, an input that is not zero goes to zero
    pub singular_kernel : eqb (det (numbers p) n f) 0 ≡ true
        → (x : List ℕ) × (length x ≡ n) × WordsInField p n x × (0 < weight (numbers p) x) × (weight (numbers p) (apply (numbers p) n f x) ≡ 0)
    singular_kernel t =
        let x = det_kernel_to R L n lifted (det_null ∙ t) in (
          map (number p) x.0,
          length-map x.0 (number p) ∙ x.1,
          words_below p h n x.0,
          rw (weight_carried p h x.0) x.2,
          image_carried p h n f lifted entries x.0 ∙ x.3,
        )

    -- and the other way round
    pub kernel_singular : (x : List ℕ) → length x ≡ n → WordsInField p n x → 0 < weight (numbers p) x
        → weight (numbers p) (apply (numbers p) n f x) ≡ 0 → eqb (det (numbers p) n f) 0 ≡ true
    kernel_singular x e b w z =
        let y : List (Residue p) = map (lift p) x in
        let q : map (number p) y ≡ x = lift_words p n x e b in
        sym det_null
        ∙ det_kernel_from R L n lifted y (length-map x (lift p) ∙ e)
        (rw (← weight_carried p h y, q) w)
        (sym (image_carried p h n f lifted entries y) ∙ ap (λ v. weight (numbers p) (apply (numbers p) n f v)) q ∙ z)

    -- ---- MDS and square blocks

    -- MDS: every square block has a nonzero determinant
    pub mds_is_regular : 0 < n → is_mds (numbers p) (elements p) n f ≡ regular_between (numbers p) n f 0 0 n
    mds_is_regular g =
        mds_carried p h n f lifted entries
        ∙ Squares.mds_is_regular R L (all p) (complete p) n lifted g
        ∙ sym (regular_carried p h n f lifted entries 0 0 n)

    -- an MDS matrix passes the test, whatever blocks it looks at
    pub mds_regular : is_mds (numbers p) (elements p) n f ≡ true → (look above most : ℕ)
        → regular_between (numbers p) n f look above most ≡ true
    mds_regular t look above most =
        regular_carried p h n f lifted entries look above most
        ∙ Squares.mds_regular R L (all p) (complete p) n lifted (sym (mds_carried p h n f lifted entries) ∙ t) look above most

    -- a matrix that passes it with all blocks is MDS
    pub regular_mds : 0 < n → regular_between (numbers p) n f 0 0 n ≡ true → is_mds (numbers p) (elements p) n f ≡ true
    regular_mds g t = mds_is_regular g ∙ t

    -- ---- the branch number

    block_carried : (r s : ℕ)
        → has_kernel (numbers p) (elements p) (length (chosen n s)) (length (chosen n r)) (block f (chosen n r) (chosen n s))
        ≡ has_kernel R (all p) (length (chosen n s)) (length (chosen n r)) (block lifted (chosen n r) (chosen n s))
    block_carried r s =
        kernel_carried p h (length (chosen n s)) (length (chosen n r)) _ _ (Squares.block_bridge R (numbers p) (number p) (number_keeps p h) n lifted f entries r s)

    branch_is : branch_number (numbers p) (elements p) n f ≡ branch_number R (all p) n lifted
    branch_is = branch_carried p h n f lifted entries

    -- a block with a kernel bounds it
    pub branch_below : (r s : ℕ)
        → has_kernel (numbers p) (elements p) (length (chosen n s)) (length (chosen n r)) (block f (chosen n r) (chosen n s)) ≡ true
        → branch_number (numbers p) (elements p) n f + length (chosen n r) ≤ length (chosen n s) + n
    branch_below r s t =
        let x = kernel_activity R L (all p) (complete p) n lifted r s (sym (block_carried r s) ∙ t) in
        omega (
          arith,
          branch_is,
          branch_le R L (all p) (complete p) n lifted x.0 x.1 x.2,
          x.3,
        )

    -- some block with a kernel meets that bound
    pub branch_reached : 0 < n
        → (r : ℕ) × (s : ℕ) × (r < 2 ^ n) × (s < 2 ^ n)
        × (has_kernel (numbers p) (elements p) (length (chosen n s)) (length (chosen n r)) (block f (chosen n r) (chosen n s)) ≡ true)
        × (branch_number (numbers p) (elements p) n f + length (chosen n r) ≡ length (chosen n s) + n)
    branch_reached g =
        let x = branch_attained R L (all p) (complete p) n lifted g in
        let w = activity_kernel R L (all p) (complete p) n lifted x.0 x.1 x.2 in
        (w.0, w.1, w.2, w.3, block_carried w.0 w.1 ∙ w.6, omega (arith, branch_is, x.3, w.7))

    -- a number that every block with a kernel bounds is at most the branch number
    pub branch_at_least : 0 < n → (b : ℕ)
        → ((r s : ℕ) → r < 2 ^ n → s < 2 ^ n
        → has_kernel (numbers p) (elements p) (length (chosen n s)) (length (chosen n r)) (block f (chosen n r) (chosen n s)) ≡ true
        → b + length (chosen n r) ≤ length (chosen n s) + n)
        → b ≤ branch_number (numbers p) (elements p) n f
    branch_at_least g b bound = let w = branch_reached g in omega (arith, bound w.0 w.1 w.2 w.3 w.4, w.5)

    -- at most the order plus one
    pub branch_most : 0 < n → branch_number (numbers p) (elements p) n f ≤ suc n
    branch_most g = omega (arith, branch_is, branch_le_suc R L (all p) (complete p) n lifted g)

    -- at least one
    pub branch_least : 0 < n → 1 ≤ branch_number (numbers p) (elements p) n f
    unfolding activity
    branch_least g =
        let x = branch_attained R L (all p) (complete p) n lifted g in
        omega (arith, branch_is, x.2, x.3)

    -- ---- the involution

    involution_is : is_involution (numbers p) (elements p) n f ≡ is_involution R (all p) n lifted
    involution_is = involution_carried p h n f lifted entries

    -- an involution, Hadamard or not, is MDS exactly if its square blocks up to half the order have nonzero determinants
    pub involution_half : 0 < n → is_involution (numbers p) (elements p) n f ≡ true
        → is_mds (numbers p) (elements p) n f ≡ regular_between (numbers p) n f 0 0 (n / 2)
    involution_half g t =
        mds_carried p h n f lifted entries
        ∙ Squares.involution_half R L (all p) (complete p) n lifted g (sym involution_is ∙ t)
        ∙ sym (regular_carried p h n f lifted entries 0 0 (n / 2))

    twice_carried : (x : List (Residue p))
        → map (number p) (apply R n lifted (apply R n lifted x)) ≡ apply (numbers p) n f (apply (numbers p) n f (map (number p) x))
    twice_carried x =
        apply_carried p h n f lifted entries (apply R n lifted x)
        ∙ ap (apply (numbers p) n f) (apply_carried p h n f lifted entries x)

    -- an involution gives every input back
    pub involution_gives_back : is_involution (numbers p) (elements p) n f ≡ true → (x : List ℕ) → length x ≡ n → WordsInField p n x
        → apply (numbers p) n f (apply (numbers p) n f x) ≡ x
    involution_gives_back t x e b =
        let y : List (Residue p) = map (lift p) x in
        let q : map (number p) y ≡ x = lift_words p n x e b in
        ap (λ v. apply (numbers p) n f (apply (numbers p) n f v)) (sym q)
        ∙ sym (twice_carried y)
        ∙ ap (map (number p)) (involution_back R L (all p) (complete p) n lifted (sym involution_is ∙ t) y (length-map x (lift p) ∙ e))
        ∙ q

    -- and the other way round
    pub back_is_involution : ((x : List ℕ) → length x ≡ n → WordsInField p n x → apply (numbers p) n f (apply (numbers p) n f x) ≡ x)
        → is_involution (numbers p) (elements p) n f ≡ true
    back_is_involution g =
        involution_is
        ∙ back_involution R L (all p) (complete p) n lifted (λ x e.
        same_numbers p _ x (twice_carried x ∙ g (map (number p) x) (length-map x (number p) ∙ e) (words_below p h n x)))

    square_carried : (i j : ℕ) → i < n → j < n → (times R n lifted lifted i j).0 ≡ sum (numbers p) n (λ k. product p (f i k) (f k j))
    unfolding times
    square_carried i j l m =
        sum_bridge R (numbers p) (number p) (number_keeps p h) n _ _ (λ k g. ap₂ (product p) (entries i k l g) (entries k j g m))

    delta_carried : (i j : ℕ) → (delta R i j R.one).0 ≡ cond (eqb i j) 1 0
    unfolding delta
    delta_carried i j = decide (eqb i j)
      where
        decide : (t : Bool) → (cond t R.one R.null).0 ≡ cond t 1 0
        decide true = refl
        decide false = refl

    -- an involution times itself is the identity
    pub involution_is_identity : is_involution (numbers p) (elements p) n f ≡ true → (i j : ℕ) → i < n → j < n
        → sum (numbers p) n (λ k. product p (f i k) (f k j)) ≡ cond (eqb i j) 1 0
    involution_is_identity t i j l m =
        sym (square_carried i j l m)
        ∙ ap (number p) (involution_identity R L (all p) (complete p) n lifted (sym involution_is ∙ t) i j l m)
        ∙ delta_carried i j

    -- and the other way round
    pub identity_is_involution : ((i j : ℕ) → i < n → j < n → sum (numbers p) n (λ k. product p (f i k) (f k j)) ≡ cond (eqb i j) 1 0)
        → is_involution (numbers p) (elements p) n f ≡ true
    identity_is_involution g =
        involution_is
        ∙ identity_involution R L (all p) (complete p) n lifted (λ i j l m.
        same_number p _ _ (square_carried i j l m ∙ g i j l m ∙ sym (delta_carried i j)))

  -- twice the order at most, also at order 0
  pub branch_twice : (n : ℕ) (f : ℕ → ℕ → ℕ) → ((i j : ℕ) → i < n → j < n → f i j < 2 ^ degree p)
      → branch_number (numbers p) (elements p) n f ≤ n + n
  branch_twice zero f b = unfold branch_number least_activity words weight in le_refl 0
  branch_twice (suc n) f b = omega (arith, branch_most (suc n) f b (omega arith))
