-- `answer_matrix::gate_list::put_outputs` meets its contract. Assumes nothing.
use mathlib.Core.Path.{◌≡◌, sym, ap, ◌∙◌}
use mathlib.Core.List.{List, []}
use Prim.Native.Nat.{ℕ, ◌-◌, ◌*◌, ◌/◌, ◌%◌, ◌≤◌, ◌<◌}
use native.Mathlib.Nat.{mul-le-mul}
use native.Mathlib.Omega.{arith}
use lib.ListN.{length, get_or, take}
use lib.Seq.{length-take-le}
use Rattle.field.specs.Polynomial.{degree}
use Rattle.field.proofs.Degrees.{polynomial}
use Rattle.lines.specs.Numbers.{entry}
use Rattle.gates.specs.Gates.{outputs}
use Rattle.gates.proofs.InputLists.{inputs_few}
use Rattle.gates.proofs.InputArrays.{inputs_take, inputs_count_is, inputs_fit}
use Rattle.gates.proofs.Joined.{length_outputs, output_at}
use Rattle.text.proofs.Places.{left_start}
use Rattle.answer_matrix.proofs.GateLines.{outputs_room, outputs_step, outputs_finish}
use Rattle.answer_matrix.proofs.gate_list.put_outputs.Goals as goal
use Rattle.answer_matrix.proofs.gate_list.put_outputs.Goals.{After-from, After-inputs_at-found, In-loop-o, Start}

-- there are n·m output bits, at most 64
bits : (c : After-from) → c.args.matrix.order * c.from.result ≡ c.args.matrix.order * degree c.args.matrix.field.polynomial
bits c = ap (λ (m : ℕ). c.args.matrix.order * m) (c.from.ensures ∙ c.degree.ensures)

few : (c : After-from) → c.args.matrix.order * c.from.result ≤ 64
few c =
    let m : c.from.result ≤ 8 = omega (arith, c.from.ensures, c.degree.ensures, (polynomial _ c.args.matrix.field.modulus).most) in
    mul-le-mul c.args.matrix.high m

pub loop-o-init : goal.loop-o-init
loop-o-init c = (omega (arith, few (goal.at.loop-o-init c).After-from), rw (bits (goal.at.loop-o-init c).After-from) (left_start _ _))

-- the inputs of every output bit
abbrev outs : Start → List (List ℕ)
outs s = outputs s.args.matrix.field.polynomial s.args.matrix.order (entry s.args.matrix.entries)

-- output bit o, and its inputs
below : (c : In-loop-o) → c.loop-o.o < c.args.matrix.order * degree c.args.matrix.field.polynomial
below c = rw (bits (goal.at.In-loop-o c).After-from) at c.loop-o-test.true

place : (c : In-loop-o) → c.loop-o.o < length (outs (goal.at.In-loop-o c).Start)
place c = rw (length_outputs c.args.matrix.field.polynomial c.args.matrix.order (entry c.args.matrix.entries)) (below c)

given : (c : After-inputs_at-found)
    → take c.inputs_at-found.result.count c.inputs_at-found.result.list ≡ get_or (outs (goal.at.After-inputs_at-found c).Start) c.loop-o.o []
given c =
    let m = c.args.matrix in
    inputs_take _ _ c.inputs_at-found.ensures
    ∙ sym (output_at m.field.polynomial m.order (entry m.entries) c.loop-o.o (below (goal.at.After-inputs_at-found c).In-loop-o))

counted : (c : After-inputs_at-found) → c.inputs_at-found.result.count ≡ length (get_or (outs (goal.at.After-inputs_at-found c).Start) c.loop-o.o [])
counted c =
    let m = c.args.matrix in
    inputs_count_is _ _ c.inputs_at-found.ensures
    ∙ ap length (sym (output_at m.field.polynomial m.order (entry m.entries) c.loop-o.o (below (goal.at.After-inputs_at-found c).In-loop-o)))

most : (c : After-inputs_at-found) → c.inputs_at-found.result.count ≤ 64
most c =
    let m = c.args.matrix in
    let p = m.field.polynomial in
    omega (
      arith,
      inputs_count_is _ _ c.inputs_at-found.ensures,
      inputs_few p m.order (c.loop-o.o % degree p) (entry m.entries (c.loop-o.o / degree p)),
      bits (goal.at.After-inputs_at-found c).After-from,
      few (goal.at.After-inputs_at-found c).After-from,
    )

pub inputs_at-found-requires : goal.inputs_at-found-requires
inputs_at-found-requires c = (c.args.matrix.high, c.args.matrix.inside, below (goal.at.inputs_at-found-requires c).In-loop-o)

pub shared_ref_as_front-put_output : goal.shared_ref_as_front-put_output
shared_ref_as_front-put_output c = most (goal.at.shared_ref_as_front-put_output c).After-inputs_at-found

pub slice_bounds-put_output-end : goal.slice_bounds-put_output-end
slice_bounds-put_output-end c = sym (length-take-le _ _ (inputs_fit _ _ c.inputs_at-found.ensures))

pub put_output-requires : goal.put_output-requires
put_output-requires c =
    let found = (goal.at.put_output-requires c).After-inputs_at-found in (
      rw (given found) (omega (arith, counted found, most found)),
      omega (arith, c.loop-o.invariant.0, c.loop-o-test.true, few (goal.at.put_output-requires c).After-from),
      rw (given found) (outputs_room c.args.part c.loop-o.next (outs (goal.at.put_output-requires c).Start) c.loop-o.o c.loop-o.invariant.1 (place (goal.at.put_output-requires c).In-loop-o) c.requires),
    )

pub loop-o-preserved : goal.loop-o-preserved
loop-o-preserved c =
    let all = outs (goal.at.loop-o-preserved c).Start in
    let found = (goal.at.loop-o-preserved c).After-inputs_at-found in (
      omega (arith, c.gate_count.ensures, most found, c.loop-o.invariant.0),
      outputs_step c.args.part c.loop-o.next all c.loop-o.o c.loop-o.invariant.1 (place (goal.at.loop-o-preserved c).In-loop-o) (given found)
          (c.gate_count.ensures ∙ ap (λ (k : ℕ). k - 1) (counted found))
          c.put_output.ensures,
    )

pub returns : goal.returns
returns c =
    let m = c.args.matrix in
    outputs_finish c.args.part c.loop-o.next (outs (goal.at.returns c).Start) c.loop-o.o c.loop-o.invariant.1
    (omega (arith, length_outputs m.field.polynomial m.order (entry m.entries), bits (goal.at.returns c).After-from, c.loop-o-test.false))
