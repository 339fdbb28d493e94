-- The numbers below 2^m are a field: the theorems of crate algebra hold for them, and carry over to numbers.
-- Assumes nothing.
use mathlib.Core.Path.{◌≡◌, refl, sym, ap, ◌∙◌}
use mathlib.Core.Bool.{false}
use mathlib.Core.HLevel.{Σ_prop_path}
use mathlib.Core.List.Memᴰ
use mathlib.Core.List.{List, [], ◌∷◌, map, Memᴰ}
use Prim.Native.Nat.{ℕ, suc, ◌^◌, ◌%◌, ◌<◌, suc-le-suc}
use native.Mathlib.Nat.{suc-ne-zero, mod-lt, mod-eq_of_lt, zero-lt-suc, lt_of_lt_of_le, eq-zero-or-pos}
use native.Mathlib.Bridge.{le_prop}
use native.Mathlib.Omega.{arith}
use mathlib.Core.Logic.{⊎_elim}
use lib.Dec.{eqb}
use lib.ListN.{length, get_or, get_or-map}
use lib.Pow.{pow_pos, pow_mono}
use borrow.Author.Tests.{eqb-true, eqb-false, eq-eqb}
use Rattle.algebra.specs.Operations.{Operations}
use Rattle.algebra.proofs.FieldLaws.{Field}
use Rattle.algebra.specs.Matrix.{tabulate, up_to, apply, weight, det, branch_number, is_mds, is_involution, has_kernel}
use Rattle.algebra.proofs.Words.{tabulate_mem, tabulate_cong}
use Rattle.algebra.proofs.Bridge.{Homomorphism, map_tabulate, weight_bridge, apply_bridge, det_bridge, branch_bridge, mds_bridge, has_kernel_bridge, involution_bridge}
use Rattle.field.specs.Polynomial.{◌⊕◌, degree, product, Modulus}
use Rattle.field.proofs.Sum.{sum_assoc, sum_comm, sum_zero_r, sum_self, sum_lt}
use Rattle.field.proofs.Degrees.{HasDegree, polynomial}
use Rattle.field.proofs.Field.{times_assoc, times_comm, times_one_r, times_sum_r, times_lt}
use Rattle.field.proofs.Inverses.{inverse_exists}
use Rattle.field.proofs.Irreducibility.{irreducible_to}
use Rattle.lines.specs.Numbers.{numbers, elements, WordsInField}
use Rattle.matrix.specs.Steps.Regular.{regular_between}
use Rattle.matrix.proofs.Squares.{regular_bridge}

-- ---- elements

-- an element: a number below 2^m
abbrev pub Residue : ℕ → Type 0
Residue p = (a : ℕ) × (a < 2 ^ degree p)

-- its number
abbrev pub number : (p : ℕ) → Residue p → ℕ
number p a = a.0

-- elements are equal where their numbers are
pub same_number : (p : ℕ) (a b : Residue p) → a.0 ≡ b.0 → a ≡ b
same_number p a b e = Σ_prop_path (λ (n : ℕ). le_prop) e

-- the element of a number: its remainder, so that every number has one
abbrev pub lift : (p : ℕ) → ℕ → Residue p
lift p a = (a % 2 ^ degree p, mod-lt a (pow_pos (degree p)))

-- the element of a number below 2^m is that number
pub lift_number : (p a : ℕ) → a < 2 ^ degree p → (lift p a).0 ≡ a
lift_number p a l = mod-eq_of_lt l

-- all elements
unfoldable pub residue_list : (p : ℕ) → List (Residue p)
residue_list p = tabulate (2 ^ degree p) (lift p)

-- there are no others
pub residues_complete : (p : ℕ) (a : Residue p) → Memᴰ a (residue_list p)
unfolding residue_list
residues_complete p a =
    Memᴰ.cast (same_number p a (lift p a.0) (sym (lift_number p a.0 a.1))) (tabulate_mem (2 ^ degree p) (lift p) a.0 a.1)

-- as numbers they are 0 to 2^m - 1
pub residue_numbers : (p : ℕ) → map (number p) (residue_list p) ≡ elements p
unfolding residue_list elements up_to
residue_numbers p = map_tabulate (number p) (2 ^ degree p) (lift p) ∙ tabulate_cong (2 ^ degree p) _ _ (λ i l. lift_number p i l)

-- ---- words

words_elements : (p : ℕ) (x : List ℕ) → ((j : ℕ) → j < length x → get_or x j 0 < 2 ^ degree p) → map (number p) (map (lift p) x) ≡ x
words_elements p [] b = refl
words_elements p (a ∷ x) b =
    let first : a % 2 ^ degree p ≡ a = lift_number p a (b 0 (zero-lt-suc (length x))) in
    let rest : map (number p) (map (lift p) x) ≡ x = words_elements p x (λ j l. b (suc j) (suc-le-suc l)) in
    cc

-- the words of an input as elements, and back
pub lift_words : (p n : ℕ) (x : List ℕ) → length x ≡ n → WordsInField p n x → map (number p) (map (lift p) x) ≡ x
unfolding WordsInField
lift_words p n x e b = words_elements p x (λ j l. b j (omega arith))

-- inputs are equal where their numbers are
pub same_numbers : (p : ℕ) (x y : List (Residue p)) → map (number p) x ≡ map (number p) y → x ≡ y
same_numbers p [] [] e = refl
same_numbers p [] (b ∷ y) e = absurd (suc-ne-zero (length (map (number p) y)) (sym (ap length e)))
same_numbers p (a ∷ x) [] e = absurd (suc-ne-zero (length (map (number p) x)) (ap length e))
same_numbers p (a ∷ x) (b ∷ y) e =
    let first : a ≡ b = same_number p a b (cc) in
    let rest : x ≡ y = same_numbers p x y (cc) in
    cc

-- ---- the field

module _ (p : ℕ) (h : Modulus p) where
  has : HasDegree p (degree p)
  has = (polynomial p h).has

  -- 1 is an element
  pub one_lt : 1 < 2 ^ degree p
  one_lt = lt_of_lt_of_le (omega arith) (pow_mono (polynomial p h).least)

  -- the operations on elements
  abbrev pub residues : Operations
  residues =
      record {
        Element = Residue p;
        null = (0, pow_pos (degree p));
        one = (1, one_lt);
        plus = λ a b. (a.0 ⊕ b.0, sum_lt (degree p) a.0 b.0 a.1 b.1);
        times = λ a b. (product p a.0 b.0, times_lt p (degree p) (polynomial p h).has a.0 b.0);
        is_null = λ a. eqb a.0 0;
      }

  -- they are those on numbers
  pub number_keeps : Homomorphism residues (numbers p) (number p)
  number_keeps =
      record { keeps_null = refl; keeps_one = refl; keeps_plus = λ a b. refl; keeps_times = λ a b. refl; keeps_is_null = λ a. refl }

  -- an inverse, as an element
  inverse_of : (a : Residue p) → eqb a.0 0 ≡ false → (b : Residue p) × (residues.times a b ≡ residues.one)
  inverse_of a z =
      let positive : 0 < a.0 = ⊎_elim (λ e. absurd (eqb-false a.0 0 z e)) (λ l. l) (eq-zero-or-pos a.0) in
      let b = inverse_exists p (degree p) has (irreducible_to p h.irreducible) (omega (arith, (polynomial p h).least)) a.0 positive a.1 in
      ((b.0, b.1), same_number p _ _ b.2)

  -- they are a field
  pub residues_field : Field residues
  residues_field =
      record {
        plus_assoc = λ a b c. same_number p _ _ (sum_assoc a.0 b.0 c.0);
        plus_comm = λ a b. same_number p _ _ (sum_comm a.0 b.0);
        plus_null = λ a. same_number p _ _ (sum_zero_r a.0);
        plus_self = λ a. same_number p _ _ (sum_self a.0);
        times_assoc = λ a b c. same_number p _ _ (times_assoc p (degree p) has a.0 b.0 c.0);
        times_comm = λ a b. same_number p _ _ (times_comm p a.0 b.0);
        times_one = λ a. same_number p _ _ (times_one_r p (degree p) has a.0 a.1);
        times_plus = λ a b c. same_number p _ _ (times_sum_r p (degree p) has a.0 b.0 c.0);
        null_is = eq-eqb 0 0 refl;
        is_null_holds = λ a e. same_number p _ _ (eqb-true a.0 0 e);
        one_not_null = refl;
        inverse = inverse_of;
      }

  -- the numbers of elements are below 2^m
  pub words_below : (n : ℕ) (x : List (Residue p)) → WordsInField p n (map (number p) x)
  unfolding WordsInField
  words_below n x j l = rw (get_or-map (number p) x j residues.null) (get_or x j residues.null).1

  -- ---- what carries over

  -- the weight
  pub weight_carried : (x : List (Residue p)) → weight (numbers p) (map (number p) x) ≡ weight residues x
  weight_carried = weight_bridge residues (numbers p) (number p) number_keeps

  -- the kernel
  pub kernel_carried : (c r : ℕ) (f : ℕ → ℕ → ℕ) (F : ℕ → ℕ → Residue p) → ((i j : ℕ) → i < r → j < c → (F i j).0 ≡ f i j)
      → has_kernel (numbers p) (elements p) c r f ≡ has_kernel residues (residue_list p) c r F
  kernel_carried c r f F e =
      ap (λ l. has_kernel (numbers p) l c r f) (sym (residue_numbers p))
      ∙ has_kernel_bridge residues (numbers p) (number p) number_keeps c r F f e (residue_list p)

  module _ (n : ℕ) (f : ℕ → ℕ → ℕ) (F : ℕ → ℕ → Residue p) (e : (i j : ℕ) → i < n → j < n → (F i j).0 ≡ f i j) where
    -- the product
    pub apply_carried : (x : List (Residue p)) → map (number p) (apply residues n F x) ≡ apply (numbers p) n f (map (number p) x)
    apply_carried = apply_bridge residues (numbers p) (number p) number_keeps n F f e

    -- its weight
    pub image_carried : (x : List (Residue p))
        → weight (numbers p) (apply (numbers p) n f (map (number p) x)) ≡ weight residues (apply residues n F x)
    image_carried x = ap (weight (numbers p)) (sym (apply_carried x)) ∙ weight_carried (apply residues n F x)

    -- the determinant
    pub det_carried : (det residues n F).0 ≡ det (numbers p) n f
    det_carried = det_bridge residues (numbers p) (number p) number_keeps n F f e

    -- the branch number
    pub branch_carried : branch_number (numbers p) (elements p) n f ≡ branch_number residues (residue_list p) n F
    branch_carried =
        ap (λ l. branch_number (numbers p) l n f) (sym (residue_numbers p))
        ∙ branch_bridge residues (numbers p) (number p) number_keeps n F f e (residue_list p)

    -- MDS
    pub mds_carried : is_mds (numbers p) (elements p) n f ≡ is_mds residues (residue_list p) n F
    mds_carried =
        ap (λ l. is_mds (numbers p) l n f) (sym (residue_numbers p)) ∙ mds_bridge residues (numbers p) (number p) number_keeps n F f e (residue_list p)

    -- involution
    pub involution_carried : is_involution (numbers p) (elements p) n f ≡ is_involution residues (residue_list p) n F
    involution_carried =
        ap (λ l. is_involution (numbers p) l n f) (sym (residue_numbers p))
        ∙ involution_bridge residues (numbers p) (number p) number_keeps n F f e (residue_list p)

    -- the test of square blocks
    pub regular_carried : (look above most : ℕ)
        → regular_between (numbers p) n f look above most ≡ regular_between residues n F look above most
    regular_carried = regular_bridge residues (numbers p) (number p) number_keeps n F f e
