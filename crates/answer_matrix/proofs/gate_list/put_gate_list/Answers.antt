-- `answer_matrix::gate_list::put_gate_list` meets its contract: line one, the gates and the carriers are the answer, whose length the matrix count tells.
-- Assumes nothing.
use mathlib.Core.Path.{◌≡◌, sym, ap, ◌∙◌}
use mathlib.Core.List.{List, [], ◌∷◌, ◌++◌}
use Prim.Native.Nat.{ℕ, ◌+◌, ◌*◌, ◌^◌, ◌≤◌, ◌<◌}
use native.Mathlib.Nat.{mul-le-mul}
use native.Mathlib.Omega.{arith}
use lib.ListN.{length, length-append}
use Rattle.field.specs.Polynomial.{degree}
use Rattle.field.proofs.Degrees.{polynomial}
use Rattle.lines.specs.Numbers.{entry, InField}
use Rattle.lines.proofs.Tallies.{matrix_count_le}
use Rattle.gates.specs.Gates.{outputs}
use Rattle.gates.proofs.Counting.{gates_count}
use Rattle.text.specs.Text.{line_text, answer_text}
use Rattle.text.specs.Writing.{Put}
use Rattle.text.proofs.Form.{six_none, six_more}
use Rattle.text.proofs.Places.{wrote_join, wrote_room}
use Rattle.reply.specs.Due.{gate_lines}
use Rattle.reply.proofs.Replies.{lines_written, lines_short}
use Rattle.answer_matrix.specs.declared.gate_list.Part.{Part}
use Rattle.answer_matrix.specs.declared.gate_list.Part.TheVariants.{Gates, Carrier}
use Rattle.answer_matrix.specs.Steps.Outputs.{output_texts}
use Rattle.answer_matrix.proofs.GateLines.{gate_lines_text, gate_lines_length}
use borrow.Author.Rules.{rules}
use Rattle.answer_matrix.proofs.gate_list.put_gate_list.Goals as goal
use Rattle.answer_matrix.proofs.gate_list.put_gate_list.Goals.{Start, After-from}

-- the entries
abbrev entries : Start → ℕ → ℕ → ℕ
entries s = entry s.args.matrix.entries

small : (s : Start) (i j : ℕ) → i < s.args.matrix.order → j < s.args.matrix.order → entries s i j < 2 ^ degree s.args.matrix.field.polynomial
unfolding InField
small s = s.args.matrix.inside

-- at most 4,032 gates and 64 output bits
few : (c : After-from) → c.matrix_count-count.result ≤ 4032
few c =
    let m = c.args.matrix in
    omega (arith, c.matrix_count-count.ensures, matrix_count_le m.field.polynomial m.order (entry m.entries) m.field.modulus m.high)

bits : (c : After-from) → c.args.matrix.order * c.from.result ≤ 64
bits c =
    let m : c.from.result ≤ 8 = omega (arith, c.from.ensures, c.degree.ensures, (polynomial _ c.args.matrix.field.modulus).most) in
    mul-le-mul c.args.matrix.high m

-- the answer's length
size : (c : After-from)
    → let m = c.args.matrix in
    length (answer_text (gate_lines m.field.polynomial m.order (entry m.entries))) ≡ 13 + 13 * c.matrix_count-count.result + 7 * (m.order * c.from.result)
size c =
    let m = c.args.matrix in
    rw (c.matrix_count-count.ensures, c.from.ensures, c.degree.ensures)
    (gate_lines_length m.field.polynomial m.order (entry m.entries) m.field.modulus m.high (small (goal.at.After-from c).Start))

pub returns-then-space-count : goal.returns-then-space-count
returns-then-space-count c =
    lines_short _ _ (omega (arith, size (goal.at.returns-then-space-count c).After-from, c.if-space-count.true))

pub put_line-requires : goal.put_line-requires
put_line-requires c =
    (omega (arith, c.if-space-count.false), six_more _ (search rules) (six_more _ (omega (arith, few (goal.at.put_line-requires c).After-from)) six_none))

-- the text, piece by piece
abbrev texts : Part → Start → List ℕ
texts part s =
    let m = s.args.matrix in
    output_texts part (m.order * degree m.field.polynomial) (outputs m.field.polynomial m.order (entry m.entries))

whole : (c : After-from)
    → let m = c.args.matrix in
    let s = (goal.at.After-from c).Start in
    answer_text (gate_lines m.field.polynomial m.order (entry m.entries)) ≡ line_text (0 ∷ c.matrix_count-count.result ∷ []) ++ (texts Gates s ++ texts Carrier s)
whole c =
    let m = c.args.matrix in
    let s = (goal.at.After-from c).Start in
    gate_lines_text m.field.polynomial m.order (entry m.entries)
    ∙ ap (λ (k : ℕ). line_text (0 ∷ k ∷ []) ++ (texts Gates s ++ texts Carrier s))
    (gates_count m.field.polynomial m.order (entry m.entries) m.field.modulus (small s) ∙ sym c.matrix_count-count.ensures)

-- behind line one there is room for the rest
room : (c : After-from) → (l : ℕ) → 13 + 13 * c.matrix_count-count.result + 7 * (c.args.matrix.order * c.from.result) ≤ l
    → let s = (goal.at.After-from c).Start in 0 + length (line_text (0 ∷ c.matrix_count-count.result ∷ []) ++ (texts Gates s ++ texts Carrier s)) ≤ l
room c l h = omega (arith, size c, ap length (whole c))

pub put_outputs-requires : goal.put_outputs-requires
put_outputs-requires c =
    let s = (goal.at.put_outputs-requires c).Start in
    omega (
      arith,
      wrote_room _ (texts Gates s ++ texts Carrier s) (room (goal.at.put_outputs-requires c).After-from _ (omega (arith, c.if-space-count.false))) c.put_line.ensures,
      length-append (texts Gates s) (texts Carrier s),
    )

pub put_outputs-requires-2 : goal.put_outputs-requires-2
put_outputs-requires-2 c =
    let s = (goal.at.put_outputs-requires-2 c).Start in
    wrote_room _ (texts Carrier s)
    (wrote_room _ (texts Gates s ++ texts Carrier s) (room (goal.at.put_outputs-requires-2 c).After-from _ (omega (arith, c.if-space-count.false))) c.put_line.ensures)
    c.put_outputs.ensures

pub returns : goal.returns
returns c =
    let m = c.args.matrix in
    let wrote = wrote_join _ _ c.put_line.ensures (wrote_join _ _ c.put_outputs.ensures c.put_outputs-2.ensures) in
    let end = c.put_outputs-2.new.writer in
    let put : Put c.args.space.now end.space.now 0 (answer_text (gate_lines m.field.polynomial m.order (entry m.entries))) end.at =
    rw (whole (goal.at.returns c).After-from) wrote.put in
    let replied = lines_written _ (omega (arith, size (goal.at.returns c).After-from, c.if-space-count.false)) put in
    search rules
