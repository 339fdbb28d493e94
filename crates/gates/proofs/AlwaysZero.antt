-- 999999 carries an output bit exactly if the bit is 0 on every input (`zero_exactly`): a bit with inputs is 1 on the input in which its lowest input
-- alone is 1. Assumes nothing.
use mathlib.Core.Path.{◌≡◌, refl, sym, ap, ap₂, ◌∙◌}
use mathlib.Core.Bool.{cond}
use mathlib.Core.Logic.{◌≢◌, ◌↔◌, ⊎_elim}
use mathlib.Core.List.{List, [], ◌∷◌, Memᴰ}
use Prim.Native.Nat.{ℕ, suc, ◌+◌, ◌-◌, ◌*◌, ◌/◌, ◌%◌, ◌^◌, ◌≤◌, ◌<◌}
use native.Mathlib.Nat.{mod-lt, div-eq_of_lt, div-add-mod', mul-div_cancel_left, mul-mod_left, div-lt_iff_lt-mul, pow-suc}
use native.Mathlib.Decide.{ℕ_discrete}
use native.Mathlib.Omega.{arith}
use borrow.Author.Tests.{eq-eqb, ne_eqb}
use lib.Dec.{eqb}
use lib.ListN.{length, get_or}
use lib.Pow.{pow_pos, pow-lt, pow-add}
use Rattle.algebra.specs.Matrix.{tabulate, apply}
use Rattle.algebra.proofs.Words.{get_d_tabulate}
use Rattle.algebra.proofs.Sums.{le_or_lt}
use Rattle.field.specs.Polynomial.{◌⊕◌, Modulus, degree}
use Rattle.field.proofs.Sum.{sum_zero_r, sum_self}
use Rattle.field.proofs.Degrees.{polynomial}
use Rattle.field.proofs.Completeness.{Ascends, rise, ascends_above}
use Rattle.lines.specs.Numbers.{numbers, WordsInField}
use Rattle.lines.specs.Depths.{bit}
use Rattle.lines.proofs.Bits.{bit_zero, bit_own}
use Rattle.gates.specs.Gates.{outputs, gates_of, carrier_of, gates_of_matrix, carriers_of_matrix}
use Rattle.gates.specs.Wires.{bits_of}
use Rattle.gates.specs.Netlist.{product_bits}
use Rattle.gates.proofs.Lists.{list_sum}
use Rattle.gates.proofs.Joined.{InputList, length_outputs, output_at, output_inputs, CarrierAt, carrier_at, of_there}
use Rattle.gates.proofs.Evaluation.{xor_of, bit_at, output_product}

-- ---- an input of one bit

-- a power of 2 has no lower bit
bit_lower : (k e : ℕ) → bit k (2 ^ (k + suc e)) ≡ 0
unfolding bit
bit_lower k e =
    ap (λ (x : ℕ). x / 2 ^ k % 2) (pow-add 2 k (suc e))
    ∙ ap (λ (x : ℕ). x % 2) (mul-div_cancel_left (2 ^ suc e) (pow_pos k))
    ∙ ap (λ (x : ℕ). x % 2) (pow-suc 2 e)
    ∙ mul-mod_left (2 ^ e) 2

-- and no higher one
bit_higher : (k j : ℕ) → j < k → bit k (2 ^ j) ≡ 0
unfolding bit
bit_higher k j l = ap (λ (x : ℕ). x % 2) (div-eq_of_lt (pow-lt l))

bit_other : (k j : ℕ) → k ≢ j → bit k (2 ^ j) ≡ 0
bit_other k j h =
    ⊎_elim
    (λ (l : k ≤ j).
    let e : j ≡ k + suc (j - suc k) = omega arith in
    ap (λ (x : ℕ). bit k (2 ^ x)) e ∙ bit_lower k (j - suc k))
    (bit_higher k j)
    (le_or_lt k j)

-- the input of n words in which bit v alone is 1
bit_alone : ℕ → ℕ → ℕ → List ℕ
bit_alone m n v = tabulate n (λ i. cond (eqb i (v / m)) (2 ^ (v % m)) 0)

module _ (m n v : ℕ) (pos : 0 < m) (h : v < n * m) where
  word_at : (u : ℕ) → u < n * m → get_or (bit_alone m n v) (u / m) 0 ≡ cond (eqb (u / m) (v / m)) (2 ^ (v % m)) 0
  unfolding bit_alone
  word_at u l = get_d_tabulate n (λ i. cond (eqb i (v / m)) (2 ^ (v % m)) 0) (u / m) 0 ((div-lt_iff_lt-mul pos).1 l)

  alone_own : bit_at m (bit_alone m n v) v ≡ 1
  alone_own = ap (bit (v % m)) (word_at v h ∙ rw (eq-eqb (v / m) (v / m) refl)) ∙ bit_own (v % m)

  alone_other : (u : ℕ) → u < n * m → u ≢ v → bit_at m (bit_alone m n v) u ≡ 0
  alone_other u l d = elim (ℕ_discrete (u / m) (v / m)) [
    | yes e ↦
        ap (bit (u % m)) (word_at u l ∙ rw (eq-eqb (u / m) (v / m) e))
        ∙ bit_other (u % m) (v % m) (λ q. d (sym (div-add-mod' u m) ∙ ap₂ (λ (x y : ℕ). x * m + y) e q ∙ div-add-mod' v m))
    | no e ↦ ap (bit (u % m)) (word_at u l ∙ rw (ne_eqb (u / m) (v / m) e)) ∙ bit_zero (u % m)
  ]

alone_small : (p n v : ℕ) → Modulus p → WordsInField p n (bit_alone (degree p) n v)
unfolding WordsInField bit_alone
alone_small p n v h j l =
    rw (get_d_tabulate n (λ i. cond (eqb i (v / degree p)) (2 ^ (v % degree p)) 0) j 0 l) (elim (ℕ_discrete j (v / degree p)) [
      | yes e ↦ rw (eq-eqb j (v / degree p) e) (pow-lt (mod-lt v positive))
      | no e ↦ rw (ne_eqb j (v / degree p) e) (pow_pos (degree p))
    ])
  where
    positive : 0 < degree p
    positive = omega (arith, (polynomial p h).least)

-- ---- the output bit

-- where the values are 0, so is their exclusive or
xor_none : (p : ℕ) (value : ℕ → ℕ) (l : List ℕ) → ((v : ℕ) → Memᴰ v l → value v ≡ 0) → xor_of p value l ≡ 0
unfolding list_sum
xor_none p value [] h = refl
xor_none p value (v ∷ l) h = rw (h v (Memᴰ.head refl), xor_none p value l (λ u m. h u (Memᴰ.tail m))) (sum_self 0)

-- the lowest input alone makes the bit 1
lowest_alone : (p m n v : ℕ) (l : List ℕ) → 0 < m → InputList (n * m) (v ∷ l) → xor_of p (bit_at m (bit_alone m n v)) (v ∷ l) ≡ 1
unfolding list_sum
lowest_alone p m n v l pos h =
    let below = h.below v (Memᴰ.head refl) in
    ap₂ ◌⊕◌ (alone_own m n v pos below)
    (xor_none p (bit_at m (bit_alone m n v)) l
    (λ u k. alone_other m n v pos below u (h.below u (Memᴰ.tail k)) (λ e. omega (arith, behind h.ascending u k))))
    ∙ sum_zero_r 1
  where
    behind : Ascends 0 (v ∷ l) → (u : ℕ) → Memᴰ u l → v < u
    behind (rise k a) u m = ascends_above a m

-- a list of inputs that are never 1 together is empty
never_one : (p m n : ℕ) (l : List ℕ) → 0 < m → InputList (n * m) l → ((v : ℕ) → xor_of p (bit_at m (bit_alone m n v)) l ≡ 0) → l ≡ []
never_one p m n [] pos h e = refl
never_one p m n (v ∷ l) pos h e = let z : ⊥ = omega (arith, e v, lowest_alone p m n v l pos h) in absurd z

module _ (p n : ℕ) (f : ℕ → ℕ → ℕ) (h : Modulus p) (few : n * degree p + length (gates_of_matrix p n f) ≤ 999999) (o : ℕ) (l : o < n * degree p) where
  abbrev inputs : List ℕ
  inputs = get_or (outputs p n f) o []

  given : CarrierAt (n * degree p) (outputs p n f) o
  given = carrier_at (n * degree p) (outputs p n f) o (rw (length_outputs p n f) l)

  -- the product's bit is the exclusive or of its inputs
  bit_is : (x : List ℕ) → WordsInField p n x → get_or (product_bits p n f x) o 0 ≡ xor_of p (bit_at (degree p) x) inputs
  unfolding bits_of
  bit_is x small =
      get_d_tabulate (n * degree p) (bit_at (degree p) (apply (numbers p) n f x)) o 0 l
      ∙ sym (output_product p n f x h small o l)
      ∙ ap (xor_of p (bit_at (degree p) x)) (sym (output_at p n f o l))

  carrier_is : get_or (carriers_of_matrix p n f) o 0 ≡ carrier_of given.start inputs
  unfolding carriers_of_matrix
  carrier_is = given.is_carrier

  -- 999999 exactly where there is no input
  empty_of : get_or (carriers_of_matrix p n f) o 0 ≡ 999999 → inputs ≡ []
  unfolding gates_of_matrix
  empty_of e =
      ⊎_elim (λ (q : (inputs ≡ []) × (carrier_of given.start inputs ≡ 999999)). q.0)
      (λ (q : carrier_of given.start inputs < given.start + length (gates_of given.start inputs)).
      let z : ⊥ = omega (arith, given.last, carrier_is) in
      absurd z)
      (of_there (n * degree p) given.start inputs given.first (output_inputs p n f o l))

  of_empty : inputs ≡ [] → get_or (carriers_of_matrix p n f) o 0 ≡ 999999
  unfolding carrier_of
  of_empty e = carrier_is ∙ ap (carrier_of given.start) e

  pub zero_exactly : (get_or (carriers_of_matrix p n f) o 0 ≡ 999999) ↔ ((x : List ℕ) → WordsInField p n x → get_or (product_bits p n f x) o 0 ≡ 0)
  unfolding list_sum
  zero_exactly = (
    λ e x small. bit_is x small ∙ ap (xor_of p (bit_at (degree p) x)) (empty_of e),
    λ z.
        of_empty
        (never_one p (degree p) n inputs (omega (arith, (polynomial p h).least)) (output_inputs p n f o l)
        (λ v. sym (bit_is (bit_alone (degree p) n v) (alone_small p n v h)) ∙ z (bit_alone (degree p) n v) (alone_small p n v h))),
  )
