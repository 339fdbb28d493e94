-- Evaluating the gates of a matrix on the bits of an input gives the bits of the matrix product (`gates_product`): a gate's wire carries the exclusive
-- or of the inputs joined so far, so the carrier of an output bit carries that of its inputs (`outputs_carried`), which is the bit of the product
-- (`inputs_product`). Assumes nothing.
use mathlib.Core.Path.{◌≡◌, refl, sym, ap, ap₂, ◌∙◌}
use mathlib.Core.Bool.{cond}
use mathlib.Core.Logic.{◌⊎◌, inl, inr, ⊎_elim}
use mathlib.Core.List.{List, [], ◌∷◌, ◌++◌, map, Memᴰ}
use Prim.Native.Nat.{ℕ, suc, ◌+◌, ◌*◌, ◌/◌, ◌%◌, ◌^◌, ◌≤◌, ◌<◌}
use native.Mathlib.Nat.{add-zero, add-suc, suc-add, le_refl, mul-zero, mul-one, div-lt_iff_lt-mul}
use native.Mathlib.Omega.{arith}
use borrow.Author.Tests.{ne_eqb}
use lib.Arith.{digits_lt, digits_div, digits_mod}
use lib.Dec.{eqb}
use lib.ListN.{length, get_or, length-append, get_or-append}
use lib.Seq.{get_or_at}
use Rattle.algebra.specs.Matrix.{tabulate, sum, apply}
use Rattle.algebra.proofs.Words.{length_tabulate, get_d_tabulate, tabulate_cong}
use Rattle.algebra.proofs.Sums.{Additive, sum_cong, sum_flat}
use Rattle.algebra.proofs.Weights.{get_d_apply}
use Rattle.algebra.proofs.Bridge.{map_tabulate}
use Rattle.field.specs.Polynomial.{◌⊕◌, Modulus, degree, product}
use Rattle.field.proofs.Sum.{sum_assoc, sum_comm, sum_zero_r}
use Rattle.field.proofs.Degrees.{polynomial}
use Rattle.lines.specs.Numbers.{numbers, WordsInField}
use Rattle.lines.specs.Depths.{bit}
use Rattle.lines.proofs.Bits.{at_bit, bit_sums, bit_product}
use Rattle.gates.specs.Gates.{is_input, inputs_of, outputs, Gate, joining, gates_of, carrier_of, gates_from, carriers_from, gates_of_matrix, carriers_of_matrix}
use Rattle.gates.specs.Wires.{bits_of, wires, carried_bit, evaluate}
use Rattle.gates.specs.Netlist.{product_bits}
use Rattle.gates.proofs.Lists.{list_sum, passing_sum}
use Rattle.gates.proofs.Counting.{length_joining, length_more}
use Rattle.gates.proofs.Joined.{InputList, InputLists, of_there, outputs_inputs}

-- ---- wires

-- gates behind others
pub wires_append : (bits : List ℕ) (gates more : List Gate) → wires bits (gates ++ more) ≡ wires (wires bits gates) more
unfolding wires
wires_append bits [] more = refl
wires_append bits (g ∷ gates) more = wires_append (bits ++ (get_or bits g.running 0 ⊕ get_or bits g.input 0) ∷ []) gates more

-- a wire for each gate
pub wires_length : (bits : List ℕ) (gates : List Gate) → length (wires bits gates) ≡ length bits + length gates
unfolding wires
wires_length bits [] = sym (add-zero (length bits))
wires_length bits (g ∷ gates) =
    omega (
      arith,
      wires_length (bits ++ (get_or bits g.running 0 ⊕ get_or bits g.input 0) ∷ []) gates,
      length-append bits ((get_or bits g.running 0 ⊕ get_or bits g.input 0) ∷ []),
    )

-- what a wire carries stays
pub wires_keep : (bits : List ℕ) (gates : List Gate) (i : ℕ) → i < length bits → get_or (wires bits gates) i 0 ≡ get_or bits i 0
unfolding wires
wires_keep bits [] i l = refl
wires_keep bits (g ∷ gates) i l =
    let new = (get_or bits g.running 0 ⊕ get_or bits g.input 0) ∷ [] in
    wires_keep (bits ++ new) gates i (omega (arith, length-append bits new)) ∙ get_or-append bits new 0 i l

-- ---- an output bit

-- the laws of the exclusive or
xors : (p : ℕ) → Additive (numbers p)
xors p = record { plus_assoc = sum_assoc; plus_comm = sum_comm; plus_null = sum_zero_r }

-- the exclusive or of the values of a list; it is the same for every p
abbrev pub xor_of : ℕ → (ℕ → ℕ) → List ℕ → ℕ
xor_of p value l = list_sum (numbers p) value l

-- the numbers of a list are wires that carry these values
abbrev Carry : List ℕ → (ℕ → ℕ) → List ℕ → Type 0
Carry bits value l = (v : ℕ) → Memᴰ v l → (v < length bits) × (get_or bits v 0 ≡ value v)

-- the last running result
last_of : ℕ → ℕ → List ℕ → ℕ
last_of next running [] = running
last_of next running (v ∷ l) = last_of (suc next) next l

-- it carries what ran first and all that was joined to it
joining_value : (p : ℕ) (value : ℕ → ℕ) (bits : List ℕ) (next running : ℕ) (l : List ℕ) → length bits ≡ next → running < next → Carry bits value l
    → get_or (wires bits (joining next running l)) (last_of next running l) 0 ≡ get_or bits running 0 ⊕ xor_of p value l
unfolding wires joining last_of list_sum
joining_value p value bits next running [] e r h = sym (sum_zero_r (get_or bits running 0))
joining_value p value bits next running (v ∷ l) e r h =
    joining_value p value (bits ++ new) (suc next) next l (omega (arith, length-append bits new)) (le_refl (suc next)) kept
    ∙ ap (λ (x : ℕ). x ⊕ xor_of p value l) (get_or_at bits (get_or bits running 0 ⊕ get_or bits v 0) [] 0 next e ∙ ap (λ (x : ℕ). get_or bits running 0 ⊕ x) (h v (Memᴰ.head refl)).1)
    ∙ sum_assoc (get_or bits running 0) (value v) (xor_of p value l)
  where
    new : List ℕ
    new = (get_or bits running 0 ⊕ get_or bits v 0) ∷ []

    kept : Carry (bits ++ new) value l
    kept u m =
        let k = h u (Memᴰ.tail m) in
        (omega (arith, length-append bits new, k.0), get_or-append bits new 0 u k.0 ∙ k.1)

-- the last running result is the carrier
last_gate : (next : ℕ) (l : List ℕ) → last_of (suc next) next l ≡ next + length l
unfolding last_of
last_gate next [] = sym (add-zero next)
last_gate next (v ∷ l) = last_gate (suc next) l ∙ suc-add next (length l) ∙ sym (add-suc next (length l))

carrier_last : (next v : ℕ) (l : List ℕ) → carrier_of next (v ∷ l) ≡ last_of next v l
unfolding carrier_of last_of
carrier_last next v [] = refl
carrier_last next v (w ∷ l) = sym (last_gate next l)

last_lt : (next v : ℕ) (l : List ℕ) → v < next → last_of next v l < next + length l
unfolding last_of
last_lt next v [] h = omega arith
last_lt next v (w ∷ l) h = omega (arith, last_gate next l)

carried_wire : (bits : List ℕ) (number : ℕ) → number < 999999 → carried_bit bits number ≡ get_or bits number 0
unfolding carried_bit
carried_wire bits number l = rw (ne_eqb number 999999 (λ e. omega arith))

-- the carrier of an output bit carries the exclusive or of its inputs
output_carried : (p : ℕ) (value : ℕ → ℕ) (bits : List ℕ) (next : ℕ) (l : List ℕ) → length bits ≡ next → next + length (gates_of next l) ≤ 999999
    → Carry bits value l → carried_bit (wires bits (gates_of next l)) (carrier_of next l) ≡ xor_of p value l
unfolding gates_of list_sum
output_carried p value bits next [] e u h = unfold carrier_of carried_bit in refl
output_carried p value bits next (v ∷ l) e u h =
    let first = h v (Memᴰ.head refl) in
    let below : v < next = omega (arith, first.0) in
    ap (carried_bit (wires bits (joining next v l))) (carrier_last next v l)
    ∙ carried_wire (wires bits (joining next v l)) (last_of next v l) (omega (arith, last_lt next v l below, length_joining next v l))
    ∙ joining_value p value bits next v l e below (λ w m. h w (Memᴰ.tail m))
    ∙ ap (λ (x : ℕ). x ⊕ xor_of p value l) first.1

-- ---- all output bits

-- wires behind the carrier do not change it
carried_keep : (bits : List ℕ) (more : List Gate) (number : ℕ) → (number ≡ 999999) ⊎ (number < length bits)
    → carried_bit (wires bits more) number ≡ carried_bit bits number
unfolding carried_bit
carried_keep bits more number h =
    ⊎_elim (λ (e : number ≡ 999999). rw e refl) (λ (l : number < length bits). ap (cond (eqb number 999999) 0) (wires_keep bits more number l)) h

module _ (p : ℕ) (value : ℕ → ℕ) (bound : ℕ) where
  -- the input bits have these values
  abbrev Valued : List ℕ → Type 0
  Valued bits = (v : ℕ) → v < bound → get_or bits v 0 ≡ value v

  pub outputs_carried : (bits : List ℕ) (next : ℕ) (outs : List (List ℕ)) → length bits ≡ next → bound ≤ next → next + length (gates_from next outs) ≤ 999999
      → InputLists bound outs → Valued bits → evaluate (gates_from next outs) (carriers_from next outs) bits ≡ map (xor_of p value) outs
  unfolding evaluate gates_from carriers_from
  outputs_carried bits next [] e b u h k = refl
  outputs_carried bits next (l ∷ outs) e b u h k =
      ap₂ (λ (x : ℕ) (y : List ℕ). x ∷ y)
      (ap (λ (w : List ℕ). carried_bit w (carrier_of next l)) split
      ∙ carried_keep (wires bits (gates_of next l)) rest (carrier_of next l) there
      ∙ output_carried p value bits next l e (omega (arith, length_more next l outs)) (λ v m. (omega (arith, inputs.below v m), k v (inputs.below v m))))
      (ap (λ (w : List ℕ). map (carried_bit w) (carriers_from after outs)) split
      ∙ outputs_carried (wires bits (gates_of next l)) after outs (wires_length bits (gates_of next l) ∙ ap (λ (x : ℕ). x + length (gates_of next l)) e) (omega arith)
      (omega (arith, length_more next l outs)) (λ i m. h i (Memᴰ.tail m)) (λ v m. wires_keep bits (gates_of next l) v (omega arith) ∙ k v m))
    where
      after : ℕ
      after = next + length (gates_of next l)

      rest : List Gate
      rest = gates_from after outs

      inputs : InputList bound l
      inputs = h l (Memᴰ.head refl)

      split : wires bits (gates_of next l ++ rest) ≡ wires (wires bits (gates_of next l)) rest
      split = wires_append bits (gates_of next l) rest

      there : (carrier_of next l ≡ 999999) ⊎ (carrier_of next l < length (wires bits (gates_of next l)))
      there =
          ⊎_elim (λ q. inl q.1) (λ (q : carrier_of next l < next + length (gates_of next l)). inr (omega (arith, wires_length bits (gates_of next l))))
          (of_there bound next l b inputs)

-- ---- the bits of the product

-- the value of input bit v of an input x
abbrev pub bit_at : ℕ → List ℕ → ℕ → ℕ
bit_at m x v = bit (v % m) (get_or x (v / m) 0)

-- bit j of word i has the number i·m + j
pub bit_number : (m n : ℕ) (x : List ℕ) (i j : ℕ) → i < n → j < m → get_or (bits_of m n x) (i * m + j) 0 ≡ bit j (get_or x i 0)
unfolding bits_of
bit_number m n x i j h l =
    get_d_tabulate (n * m) (bit_at m x) (i * m + j) 0 (digits_lt h l)
    ∙ ap₂ (λ (k w : ℕ). bit k (get_or x w 0)) (digits_mod i l) (digits_div i l)

-- the exclusive or of the inputs of an output bit is the bit of the line's product
pub inputs_product : (p n b : ℕ) (line : ℕ → ℕ) (x : List ℕ) → Modulus p → WordsInField p n x
    → xor_of p (bit_at (degree p) x) (inputs_of p n line b) ≡ bit b (sum (numbers p) n (λ j. product p (line j) (get_or x j 0)))
unfolding inputs_of is_input WordsInField
inputs_product p n b line x h small =
    passing_sum (numbers p) (xors p) (is_input p line b) (bit_at (degree p) x) (n * degree p)
    ∙ sum_cong (numbers p) (n * degree p) _ (λ v. bit (v % degree p) (get_or x (v / degree p) 0) * bit b (product p (line (v / degree p)) (2 ^ (v % degree p))))
    (λ v l. selected (bit_at (degree p) x v) b (product p (line (v / degree p)) (2 ^ (v % degree p))))
    ∙ sum_flat (numbers p) (xors p) (degree p) n (λ j k. bit k (get_or x j 0) * bit b (product p (line j) (2 ^ k)))
    ∙ sum_cong (numbers p) n _ _ (λ j l. sym (bit_product p (degree p) (polynomial p h).has (line j) (get_or x j 0) b (small j l)))
    ∙ sym (bit_sums p n b (λ j. product p (line j) (get_or x j 0)))
  where
    selected : (y b a : ℕ) → cond (eqb (bit b a) 1) y 0 ≡ y * bit b a
    selected y b a = at_bit (λ d. cond (eqb d 1) y 0 ≡ y * d) (sym (mul-zero y)) (sym (mul-one y)) b a

-- output bit o of a matrix
pub output_product : (p n : ℕ) (f : ℕ → ℕ → ℕ) (x : List ℕ) → Modulus p → WordsInField p n x → (o : ℕ) → o < n * degree p
    → xor_of p (bit_at (degree p) x) (inputs_of p n (f (o / degree p)) (o % degree p)) ≡ bit_at (degree p) (apply (numbers p) n f x) o
output_product p n f x h small o l =
    let positive : 0 < degree p = omega (arith, (polynomial p h).least) in
    inputs_product p n (o % degree p) (f (o / degree p)) x h small
    ∙ ap (bit (o % degree p)) (sym (get_d_apply (numbers p) n f x (o / degree p) ((div-lt_iff_lt-mul positive).1 l)))

output_lists : (p n : ℕ) (f : ℕ → ℕ → ℕ) (value : ℕ → ℕ)
    → map (xor_of p value) (outputs p n f) ≡ tabulate (n * degree p) (λ o. xor_of p value (inputs_of p n (f (o / degree p)) (o % degree p)))
unfolding outputs
output_lists p n f value = map_tabulate (xor_of p value) (n * degree p) (λ o. inputs_of p n (f (o / degree p)) (o % degree p))

-- evaluating the gates of a matrix gives the bits of the product
pub gates_product : (p n : ℕ) (f : ℕ → ℕ → ℕ) (x : List ℕ) → Modulus p → n * degree p + length (gates_of_matrix p n f) ≤ 999999 → WordsInField p n x
    → evaluate (gates_of_matrix p n f) (carriers_of_matrix p n f) (bits_of (degree p) n x) ≡ product_bits p n f x
unfolding gates_of_matrix carriers_of_matrix bits_of
gates_product p n f x h u small =
    outputs_carried p (bit_at (degree p) x) (n * degree p) (bits_of (degree p) n x) (n * degree p) (outputs p n f)
    (length_tabulate (n * degree p) (bit_at (degree p) x)) (le_refl (n * degree p)) u (outputs_inputs p n f)
    (λ v l. get_d_tabulate (n * degree p) (bit_at (degree p) x) v 0 l)
    ∙ output_lists p n f (bit_at (degree p) x)
    ∙ tabulate_cong (n * degree p) _ _ (output_product p n f x h small)
