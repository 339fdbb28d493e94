-- `gates::inputs_of` meets its contract. Assumes nothing.
use Rattle.std.proofs.Common.{◌≡◌, sym, ap₂, ◌∙◌, ◌*◌, ◌≤◌, ◌<◌, arith, get_or}
use native.Mathlib.Nat.{mod-lt, div-lt_iff_lt-mul, mul-le-mul}
use Rattle.field.specs.Polynomial.{degree}
use Rattle.lines.specs.Numbers.{WordsInField}
use Rattle.gates.specs.Gates.{is_input, inputs_of}
use Rattle.gates.proofs.InputLists.{width}
use Rattle.gates.proofs.InputArrays.{inputs_in, inputs_none, inputs_room, inputs_left, inputs_taken}
use Rattle.gates.proofs.inputs_of.Goals as goal
use Rattle.gates.proofs.inputs_of.Goals.{After-from-m, After-has_bit, In-loop-v, then-has_bit, else-has_bit}

-- m is the degree
same : (c : After-from-m) → c.from-m.result ≡ degree c.args.field.polynomial
same c = c.from-m.ensures ∙ c.degree.ensures

bits : (c : After-from-m) → (0 < c.from-m.result) × (c.from-m.result ≤ 8)
bits c = width c.args.field.polynomial _ c.args.field.modulus (same c)

pub loop-v-init : goal.loop-v-init
loop-v-init c = inputs_none _

-- the word and the bit of input v
pub has_bit-requires : goal.has_bit-requires
unfolding WordsInField
has_bit-requires c =
    let m = bits (goal.at.has_bit-requires c).After-from-m in
    (c.requires.1 _ ((div-lt_iff_lt-mul m.0).1 c.loop-v-test.true), omega (arith, mod-lt c.loop-v.v m.0), c.requires.2)

-- input v is below 64, and there is room for it
below : (c : In-loop-v) → c.loop-v.v < 64
below c =
    let all : c.args.n * c.from-m.result ≤ 64 = mul-le-mul c.requires.0 (bits (goal.at.In-loop-v c).After-from-m).1 in
    omega (arith, c.loop-v-test.true)

room : (c : In-loop-v) → c.loop-v.count < 64
room c = omega (arith, below c, inputs_room _ c.loop-v.list c.loop-v.count c.loop-v.v c.loop-v.invariant)

pub overflow_cast-list : goal.overflow_cast-list
overflow_cast-list c = record { fits = omega (arith, below (goal.at.overflow_cast-list c).In-loop-v) }

pub bounds-list-count : goal.bounds-list-count
bounds-list-count c = omega (arith, room (goal.at.bounds-list-count c).In-loop-v)

pub overflow_add-count : goal.overflow_add-count
overflow_add-count c = record { fits = omega (arith, room (goal.at.overflow_add-count c).In-loop-v) }

-- the test is the definition's
test : (c : After-has_bit) → is_input c.args.field.polynomial (λ j. get_or c.args.line j 0) c.args.b c.loop-v.v ≡ c.has_bit.result
unfolding is_input
test c = rw (← same (goal.at.After-has_bit c).After-from-m) (sym c.has_bit.ensures)

pub loop-v-preserved : goal.loop-v-preserved
loop-v-preserved c =
    let at = c.loop-v in
    let t = test (goal.at.loop-v-preserved c).After-has_bit in
    elim c.if-has_bit.branch [
      | then-has_bit w ↦
          ap₂ inputs_in w.list-is w.count-is
          ∙ inputs_taken _ at.list at.count at.v at.invariant (t ∙ w.if-has_bit.true) (below (goal.at.loop-v-preserved c).In-loop-v)
      | else-has_bit w ↦ ap₂ inputs_in w.list-is w.count-is ∙ inputs_left _ at.list at.count at.v at.invariant (t ∙ w.if-has_bit.false)
    ]

pub returns : goal.returns
unfolding inputs_of
returns c =
    let all : c.loop-v.v ≡ c.args.n * degree c.args.field.polynomial = rw (← same (goal.at.returns c).After-from-m) (omega arith) in
    rw all at c.loop-v.invariant
