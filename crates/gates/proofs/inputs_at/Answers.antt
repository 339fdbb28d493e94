-- `gates::inputs_at` meets its contract. Assumes nothing.
use Rattle.std.proofs.Common.{◌≡◌, ap, ◌∙◌, ◌/◌, ◌%◌, arith, ℕ}
use native.Mathlib.Nat.{mod-lt, div-lt_iff_lt-mul}
use Rattle.field.specs.Polynomial.{degree}
use Rattle.lines.specs.Numbers.{entry, InField, WordsInField}
use Rattle.gates.specs.Gates.{inputs_of}
use Rattle.gates.specs.Steps.{as_inputs}
use Rattle.gates.proofs.InputLists.{width}
use Rattle.gates.proofs.inputs_at.Goals as goal
use Rattle.gates.proofs.inputs_at.Goals.{After-from-m}

-- m is the degree
same : (c : After-from-m) → c.from-m.result ≡ degree c.args.field.polynomial
same c = c.from-m.ensures ∙ c.degree.ensures

-- the output bit is one of a line of the matrix
pub inputs_of-requires : goal.inputs_of-requires
unfolding InField WordsInField
inputs_of-requires c =
    let e = same (goal.at.inputs_of-requires c).After-from-m in
    let m = width c.args.field.polynomial _ c.args.field.modulus e in
    (c.requires.0, λ j l. c.requires.1 _ j ((div-lt_iff_lt-mul m.0).1 (rw e c.requires.2)) l, omega (arith, mod-lt c.args.o m.0))

pub returns : goal.returns
returns c =
    let a = c.args in
    c.inputs_of.ensures
    ∙ ap (λ (m : ℕ). as_inputs (inputs_of a.field.polynomial a.n (entry a.matrix (a.o / m)) (a.o % m))) (same (goal.at.returns c).After-from-m)
