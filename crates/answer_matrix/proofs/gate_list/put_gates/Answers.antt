-- `answer_matrix::gate_list::put_gates` meets its contract. Assumes nothing.
use mathlib.Core.Path.{◌≡◌, sym, ap, ◌∙◌}
use mathlib.Core.List.{◌∷◌}
use Prim.Native.Nat.{ℕ, ◌+◌, ◌-◌, ◌≤◌}
use native.Mathlib.Omega.{arith}
use lib.ListN.{length, get_or, take, drop, length-take, length-drop}
use lib.Seq.{get_or-take, get_or-drop}
use Rattle.text.proofs.Form.{six_none, six_more}
use Rattle.answer_matrix.proofs.GateLines.{first_and_rest, gates_start, gates_none, gates_room, gates_step, gates_end}
use Rattle.answer_matrix.proofs.gate_list.put_gates.Goals as goal
use Rattle.answer_matrix.proofs.gate_list.put_gates.Goals.{In-loop-k}

pub loop-k-init : goal.loop-k-init
loop-k-init c =
    let inputs = c.args.inputs.now in (
      omega (arith, c.from-running.ensures, (c.type_inv.inputs 0).fits),
      gates_start _ _ _ inputs _ (first_and_rest inputs (omega arith) ∙ ap (λ (v : ℕ). v ∷ take (length inputs - 1) (drop 1 inputs)) (sym c.from-running.ensures)),
    )

-- one of the inputs
below : (c : In-loop-k) → c.loop-k.k + 1 ≤ length c.args.inputs.now
below c =
    let inputs = c.args.inputs.now in
    omega (arith, c.loop-k-test.true, length-take (length inputs - 1) (drop 1 inputs), length-drop 1 inputs)

pub put_line-requires : goal.put_line-requires
put_line-requires c =
    let inputs = c.args.inputs.now in
    let k = c.loop-k.k in
    let here : get_or (take (length inputs - 1) (drop 1 inputs)) k 0 ≡ get_or inputs (1 + k) 0 =
    get_or-take (length inputs - 1) (drop 1 inputs) k 0 (omega (arith, below (goal.at.put_line-requires c).In-loop-k)) ∙ get_or-drop 1 inputs k 0 in (
      omega (arith, gates_room _ _ _ k c.loop-k.invariant.1 c.loop-k-test.true c.requires.2),
      six_more _ c.loop-k.invariant.0 (six_more _ (omega (arith, c.from.ensures, here, (c.type_inv.inputs (1 + k)).fits)) six_none),
    )

pub loop-k-preserved : goal.loop-k-preserved
loop-k-preserved c = (
  omega (arith, c.requires.0, c.requires.1, below (goal.at.loop-k-preserved c).In-loop-k),
  gates_step _ _ _ c.loop-k.k c.loop-k.invariant.1 c.loop-k-test.true c.from.ensures c.put_line.ensures,
)

pub returns-in_default : goal.returns-in_default
returns-in_default c = gates_none _ _ _ (omega arith)

pub returns-after-loop-k : goal.returns-after-loop-k
returns-after-loop-k c = gates_end _ _ _ c.loop-k.k c.loop-k.invariant.1 c.loop-k-test.false
