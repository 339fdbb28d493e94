-- Lists of inputs in arrays of 64: how the loop that gathers them goes on, and the list that is read back. Assumes nothing.
use mathlib.Core.Path.{◌≡◌, refl, sym, ap, ap₂, ◌∙◌, subst⁻¹}
use mathlib.Core.Bool.{Bool, true, false}
use mathlib.Core.List.{List, [], ◌∷◌, ◌++◌}
use Prim.Native.Nat.{ℕ, ◌+◌, ◌-◌, ◌≤◌, ◌<◌}
use native.Mathlib.Omega.{arith}
use lib.ListN.{length, take, set, replicate, length-append}
use lib.Seq.{take_at}
use Rattle.algebra.proofs.Words.{stored_more}
use Rattle.field.specs.Table.{passing}
use Rattle.gates.specs.declared.Inputs.{Inputs}
use Rattle.gates.specs.Steps.{as_inputs}
use Rattle.gates.proofs.InputLists.{passing_few, passing_none, passing_left, passing_taken}

-- the struct of an array and a count
abbrev pub inputs_in : List ℕ → ℕ → Inputs
inputs_in list count = record { list = list; count = count }

-- ---- gathering

-- no number was looked at
pub inputs_none : (t : ℕ → Bool) → inputs_in (replicate 64 0) 0 ≡ as_inputs (passing t 0 0)
unfolding as_inputs
inputs_none t = ap as_inputs (passing_none t)

module _ (t : ℕ → Bool) (list : List ℕ) (count v : ℕ) (e : inputs_in list count ≡ as_inputs (passing t v 0)) where
  long : count ≡ length (passing t v 0)
  unfolding as_inputs
  long = ap (λ (x : Inputs). x.count) e

  front : list ≡ passing t v 0 ++ replicate (64 - length (passing t v 0)) 0
  unfolding as_inputs
  front = ap (λ (x : Inputs). x.list) e

  -- there is room
  pub inputs_room : count ≤ v
  inputs_room = omega (arith, long, passing_few t v 0)

  -- the number does not pass
  pub inputs_left : t v ≡ false → inputs_in list count ≡ as_inputs (passing t (v + 1) 0)
  inputs_left h = e ∙ ap as_inputs (sym (passing_left t v h))

  -- it passes
  pub inputs_taken : t v ≡ true → v < 64 → inputs_in (set list count v) (count + 1) ≡ as_inputs (passing t (v + 1) 0)
  unfolding as_inputs
  inputs_taken h l =
      let more = passing_taken t v h in
      let size : count + 1 ≡ length (passing t (v + 1) 0) = omega (arith, long, ap length more, length-append (passing t v 0) (v ∷ [])) in
      ap₂ inputs_in
      (stored_more 0 64 count (passing t v 0) (passing t (v + 1) 0) list v (omega (arith, inputs_room)) (sym long) more
      (front ∙ ap (λ (k : ℕ). passing t v 0 ++ replicate (64 - k) 0) (sym long))
      ∙ ap (λ (k : ℕ). passing t (v + 1) 0 ++ replicate (64 - k) 0) size)
      size

-- ---- reading

module _ (r : Inputs) (l : List ℕ) (e : r ≡ as_inputs l) where
  pub inputs_take : take r.count r.list ≡ l
  unfolding as_inputs
  inputs_take = ap (λ (x : Inputs). take x.count x.list) e ∙ take_at l (replicate (64 - length l) 0) (length l) refl

  pub inputs_count_is : r.count ≡ length l
  unfolding as_inputs
  inputs_count_is = ap (λ (x : Inputs). x.count) e

  pub inputs_fit : r.count ≤ length r.list
  unfolding as_inputs
  inputs_fit = subst⁻¹ (λ (x : Inputs). x.count ≤ length x.list) e (omega (arith, length-append l (replicate (64 - length l) 0)))
