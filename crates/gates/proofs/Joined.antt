-- The inputs of an output bit are numbers of input bits and ascend (`outputs_inputs`). Every gate joins two different numbers that are smaller than
-- its own (`gates_earlier`), and every output bit has a carrier (`carriers_there`). Assumes nothing.
use mathlib.Core.Path.{◌≡◌, refl, ap}
use mathlib.Core.Logic.{◌≢◌, ◌⊎◌, inl, inr, ⊎_elim}
use mathlib.Core.List.{List, [], ◌∷◌, ◌++◌, Memᴰ}
use Prim.Native.Nat.{ℕ, zero, suc, ◌+◌, ◌*◌, ◌/◌, ◌%◌, ◌≤◌, ◌<◌}
use native.Mathlib.Nat.{le_of_suc-le-suc, not-suc-le-zero, add-zero, add-suc, suc-add, le_refl}
use native.Mathlib.Omega.{arith}
use lib.ListN.{length, get_or, length-append}
use Rattle.algebra.proofs.Words.{length_tabulate, get_d_tabulate, mem_tabulate}
use Rattle.field.specs.Polynomial.{degree}
use Rattle.field.proofs.Completeness.{Ascends, rise, member_passing, passing_ascends, ascends_above}
use Rattle.gates.specs.Gates.{is_input, inputs_of, outputs, Gate, gate, joining, gates_of, carrier_of, gates_from, carriers_from, gates_of_matrix, carriers_of_matrix}
use Rattle.gates.specs.Netlist.{JoinsEarlier}
use Rattle.gates.proofs.Counting.{length_joining}

-- ---- inputs

-- numbers below the bound, ascending
pub record InputList (bound : ℕ) (l : List ℕ) : Type 0 where
  pub ascending : Ascends 0 l
  pub below : (v : ℕ) → Memᴰ v l → v < bound

inputs_list : (p n b : ℕ) (line : ℕ → ℕ) → InputList (n * degree p) (inputs_of p n line b)
unfolding inputs_of
inputs_list p n b line =
    record {
      ascending = passing_ascends (is_input p line b) (n * degree p) 0;
      below = λ v m. let r = member_passing (is_input p line b) (n * degree p) 0 m in omega arith;
    }

-- those of every output bit
abbrev pub InputLists : ℕ → List (List ℕ) → Type 0
InputLists bound outs = (l : List ℕ) → Memᴰ l outs → InputList bound l

pub outputs_inputs : (p n : ℕ) (f : ℕ → ℕ → ℕ) → InputLists (n * degree p) (outputs p n f)
unfolding outputs
outputs_inputs p n f l m =
    let r = mem_tabulate (n * degree p) (λ o. inputs_of p n (f (o / degree p)) (o % degree p)) l m in
    rw r.2 (inputs_list p n (r.0 % degree p) (f (r.0 / degree p)))

pub length_outputs : (p n : ℕ) (f : ℕ → ℕ → ℕ) → length (outputs p n f) ≡ n * degree p
unfolding outputs
length_outputs p n f = length_tabulate (n * degree p) (λ o. inputs_of p n (f (o / degree p)) (o % degree p))

pub output_at : (p n : ℕ) (f : ℕ → ℕ → ℕ) (o : ℕ) → o < n * degree p → get_or (outputs p n f) o [] ≡ inputs_of p n (f (o / degree p)) (o % degree p)
unfolding outputs
output_at p n f o l = get_d_tabulate (n * degree p) (λ o. inputs_of p n (f (o / degree p)) (o % degree p)) o [] l

pub output_inputs : (p n : ℕ) (f : ℕ → ℕ → ℕ) (o : ℕ) → o < n * degree p → InputList (n * degree p) (get_or (outputs p n f) o [])
output_inputs p n f o l = rw (output_at p n f o l) (inputs_list p n (o % degree p) (f (o / degree p)))

-- ---- gates

-- gates with the numbers from this one on
data AllEarlier (bits : ℕ) : ℕ → List Gate → Type 0 where
  none_joins : {number : ℕ} → AllEarlier bits number []
  also_joins : {number : ℕ} {g : Gate} {gates : List Gate} → JoinsEarlier bits number g → AllEarlier bits (suc number) gates → AllEarlier bits number (g ∷ gates)

earlier_at : {bits number : ℕ} {gates : List Gate} → AllEarlier bits number gates → (k : ℕ) → k < length gates → JoinsEarlier bits (number + k) (get_or gates k (gate 0 0))
earlier_at none_joins k l = absurd (not-suc-le-zero l)
earlier_at {number = number} (also_joins h rest) zero l = rw (add-zero number) h
earlier_at {number = number} (also_joins h rest) (suc k) l = rw (add-suc number k, ← suc-add number k) (earlier_at rest k (le_of_suc-le-suc l))

earlier_append : {bits number : ℕ} {gates more : List Gate} → AllEarlier bits number gates → AllEarlier bits (number + length gates) more
    → AllEarlier bits number (gates ++ more)
earlier_append {number = number} none_joins k = rw (add-zero number) at k
earlier_append {number = number} (also_joins {gates = gates} h rest) k =
    also_joins h (earlier_append rest (rw (add-suc number (length gates), ← suc-add number (length gates)) at k))

-- inputs joined to a running result that is none of them
joining_earlier : (bound next running : ℕ) (l : List ℕ) → bound ≤ next → running < next
    → ((v : ℕ) → Memᴰ v l → (v < bound) × (running ≢ v)) → AllEarlier bound next (joining next running l)
unfolding joining
joining_earlier bound next running [] b r h = none_joins
joining_earlier bound next running (v ∷ l) b r h =
    let first = h v (Memᴰ.head refl) in
    also_joins (record { different = first.1; running_earlier = r; input_earlier = omega arith; is_input_holds = first.0 })
    (joining_earlier bound (suc next) next l (omega arith) (le_refl (suc next)) (λ u m. let k = h u (Memᴰ.tail m) in (k.0, λ e. omega arith)))

of_earlier : (bound next : ℕ) (l : List ℕ) → bound ≤ next → InputList bound l → AllEarlier bound next (gates_of next l)
unfolding gates_of
of_earlier bound next [] b h = none_joins
of_earlier bound next (v ∷ l) b h =
    joining_earlier bound next v l b (omega (arith, h.below v (Memᴰ.head refl)))
    (λ u m. (h.below u (Memᴰ.tail m), λ e. omega (arith, behind h.ascending u m)))
  where
    behind : Ascends 0 (v ∷ l) → (u : ℕ) → Memᴰ u l → v < u
    behind (rise k a) u m = ascends_above a m

from_earlier : (bound next : ℕ) (outs : List (List ℕ)) → bound ≤ next → InputLists bound outs → AllEarlier bound next (gates_from next outs)
unfolding gates_from
from_earlier bound next [] b h = none_joins
from_earlier bound next (l ∷ outs) b h =
    earlier_append (of_earlier bound next l b (h l (Memᴰ.head refl)))
    (from_earlier bound (next + length (gates_of next l)) outs (omega arith) (λ k m. h k (Memᴰ.tail m)))

-- every gate joins two different numbers smaller than its own, the second of them an input
pub gates_earlier : (p n : ℕ) (f : ℕ → ℕ → ℕ) (k : ℕ) → k < length (gates_of_matrix p n f)
    → JoinsEarlier (n * degree p) (n * degree p + k) (get_or (gates_of_matrix p n f) k (gate 0 0))
unfolding gates_of_matrix
gates_earlier p n f =
    earlier_at (from_earlier (n * degree p) (n * degree p) (outputs p n f) (le_refl (n * degree p)) (outputs_inputs p n f))

-- ---- carriers

pub length_carriers : (next : ℕ) (outs : List (List ℕ)) → length (carriers_from next outs) ≡ length outs
unfolding carriers_from
length_carriers next [] = refl
length_carriers next (l ∷ outs) = ap suc (length_carriers (next + length (gates_of next l)) outs)

-- the carrier of output bit o, where its gates are numbered from `start` on
pub record CarrierAt (next : ℕ) (outs : List (List ℕ)) (o : ℕ) : Type 0 where
  pub start : ℕ
  pub first : next ≤ start
  pub last : start + length (gates_of start (get_or outs o [])) ≤ next + length (gates_from next outs)
  pub is_carrier : get_or (carriers_from next outs) o 0 ≡ carrier_of start (get_or outs o [])

pub carrier_at : (next : ℕ) (outs : List (List ℕ)) (o : ℕ) → o < length outs → CarrierAt next outs o
unfolding carriers_from gates_from
carrier_at next [] o l = absurd (not-suc-le-zero l)
carrier_at next (inputs ∷ outs) zero l =
    let e = length-append (gates_of next inputs) (gates_from (next + length (gates_of next inputs)) outs) in
    record { start = next; first = le_refl next; last = omega arith; is_carrier = refl }
carrier_at next (inputs ∷ outs) (suc o) l =
    let e = length-append (gates_of next inputs) (gates_from (next + length (gates_of next inputs)) outs) in
    let r = carrier_at (next + length (gates_of next inputs)) outs o (le_of_suc-le-suc l) in
    let low : next ≤ r.start = omega (arith, r.first) in
    let high : r.start + length (gates_of r.start (get_or outs o [])) ≤ next + length (gates_of next inputs ++ gates_from (next + length (gates_of next inputs)) outs) = omega (arith, r.last) in
    record { start = r.start; first = low; last = high; is_carrier = r.is_carrier }

-- a carrier is an input or a gate, or 999999 where there is no input
pub of_there : (bound next : ℕ) (l : List ℕ) → bound ≤ next → InputList bound l
    → ((l ≡ []) × (carrier_of next l ≡ 999999)) ⊎ (carrier_of next l < next + length (gates_of next l))
unfolding carrier_of gates_of joining
of_there bound next [] b h = inl (refl, refl)
of_there bound next (v ∷ []) b h = inr (omega (arith, h.below v (Memᴰ.head refl)))
of_there bound next (v ∷ w ∷ l) b h = inr (omega (arith, length_joining (suc next) next l))

pub carriers_there : (p n : ℕ) (f : ℕ → ℕ → ℕ) (o : ℕ) → o < n * degree p
    → (get_or (carriers_of_matrix p n f) o 0 ≡ 999999) ⊎ (get_or (carriers_of_matrix p n f) o 0 < n * degree p + length (gates_of_matrix p n f))
unfolding carriers_of_matrix gates_of_matrix
carriers_there p n f o l =
    let l' = get_or (outputs p n f) o [] in
    let c = carrier_at (n * degree p) (outputs p n f) o (rw (length_outputs p n f) l) in
    rw c.is_carrier
    (⊎_elim (λ e. inl e.1) (λ (k : carrier_of c.start l' < c.start + length (gates_of c.start l')). inr (omega (arith, c.last)))
    (of_there (n * degree p) c.start l' c.first (output_inputs p n f o l)))
