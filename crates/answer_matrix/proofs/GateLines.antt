-- The lines of a gate list: its text, piece by piece as it is written, and its length, which the matrix count tells before the first byte is written
-- (`gate_lines_length`): 13 bytes for line one and for each gate, 7 for each output bit, at most 52,877 in all. Assumes nothing.
use mathlib.Core.Path.{◌≡◌, refl, sym, ap, ap₂, ◌∙◌}
use mathlib.Core.List.{List, [], ◌∷◌, ◌++◌, map, map-append}
use Prim.Native.Nat.{ℕ, ◌+◌, ◌-◌, ◌*◌, ◌^◌, ◌≤◌, ◌<◌}
use native.Mathlib.Nat.{add-zero}
use native.Mathlib.Numerals.{add-one}
use native.Mathlib.Omega.{arith}
use lib.ListN.{length, length-append, get_or, take, drop, drop_of_length-le}
use lib.Seq.{take_all, drop-cons}
use Rattle.field.specs.Polynomial.{Modulus, degree}
use Rattle.lines.specs.Counts.{matrix_count}
use Rattle.gates.specs.Gates.{Gate, outputs, joining, gates_of, carrier_of, gates_from, carriers_from, gates_of_matrix, carriers_of_matrix}
use Rattle.gates.proofs.Counting.{length_gates, gates_count}
use Rattle.gates.proofs.SameEntries.{gates_same, carriers_same}
use Rattle.gates.proofs.Netlists.{bits_few, gates_few, carriers_length}
use Rattle.text.specs.Text.{line_text, answer_text}
use Rattle.text.specs.declared.Writer.{Writer}
use Rattle.text.specs.Writing.{Wrote}
use Rattle.text.proofs.Lengths.{length_line}
use Rattle.text.proofs.Places.{Left, left_start, left_step, left_end, left_room}
use Rattle.text.proofs.Answers.{answer_append}
use Rattle.reply.specs.Due.{gate_line, carrier_line, gate_lines}
use Rattle.answer_matrix.specs.declared.gate_list.Part.{Part}
use Rattle.answer_matrix.specs.declared.gate_list.Part.TheVariants.{Gates, Carrier}
use Rattle.answer_matrix.specs.Steps.Outputs.{output_text, output_texts}

-- ---- the gates of an output bit, one by one

-- those that join the inputs from place k on
abbrev pub joining_text : ℕ → ℕ → List ℕ → List ℕ
joining_text next running l = answer_text (map gate_line (joining next running l))

-- one gate is written
pub joining_next : (next running : ℕ) (l : List ℕ) (k : ℕ) → k < length l
    → joining_text next running (drop k l) ≡ line_text (running ∷ get_or l k 0 ∷ []) ++ joining_text (next + 1) next (drop (k + 1) l)
unfolding joining answer_text
joining_next next running l k h = rw (drop-cons l k 0 h, add-one next, add-one k)

-- no input is left
pub joining_end : (next running : ℕ) (l : List ℕ) (k : ℕ) → length l ≤ k → joining_text next running (drop k l) ≡ []
unfolding joining answer_text
joining_end next running l k h = rw (drop_of_length-le l h)

-- the first input, and those behind it
pub first_and_rest : (l : List ℕ) → 1 ≤ length l → l ≡ get_or l 0 0 ∷ take (length l - 1) (drop 1 l)
first_and_rest [] h = absurd (let z : ⊥ = omega arith in z)
first_and_rest (v ∷ l) h = ap (λ (r : List ℕ). v ∷ r) (sym (take_all (length (v ∷ l) - 1) l (omega arith)))

-- what is left to write, before the first gate, after a gate, and after the last
pub gates_start : (w : Writer) (next first : ℕ) (inputs rest : List ℕ) → inputs ≡ first ∷ rest
    → Left w (output_text Gates next inputs) w (joining_text (next + 0) first (drop 0 rest))
unfolding gates_of joining answer_text
gates_start w next first inputs rest e = rw (e, add-zero next) (left_start w (joining_text next first rest))

-- no input, no gate
pub gates_none : (w : Writer) (next : ℕ) (inputs : List ℕ) → length inputs ≡ 0 → Wrote w w (output_text Gates next inputs)
unfolding gates_of answer_text
gates_none w next [] e = left_end (left_start w [])
gates_none w next (v ∷ l) e = absurd (let z : ⊥ = omega arith in z)

module _ {w₀ w : Writer} {whole : List ℕ} (next running : ℕ) (inputs : List ℕ) (k : ℕ) (r : Left w₀ whole w (joining_text (next + k) running (drop k inputs))) where
  pub gates_room : k < length inputs → w₀.at + length whole ≤ length w₀.space.now → w.at + 13 ≤ length w.space.now
  gates_room h u =
      let line = line_text (running ∷ get_or inputs k 0 ∷ []) in
      omega (
        arith,
        left_room u r,
        ap length (joining_next (next + k) running inputs k h),
        length-append line (joining_text (next + k + 1) (next + k) (drop (k + 1) inputs)),
        length_line (running ∷ get_or inputs k 0 ∷ []),
      )

  pub gates_step : {w' : Writer} {input : ℕ} → k < length inputs → input ≡ get_or inputs k 0
      → Wrote w w' (line_text (running ∷ input ∷ [])) → Left w₀ whole w' (joining_text (next + (k + 1)) (next + k) (drop (k + 1) inputs))
  gates_step h e p =
      let number : next + k + 1 ≡ next + (k + 1) = omega arith in
      rw (← number)
      (left_step (line_text (running ∷ get_or inputs k 0 ∷ [])) (joining_text (next + k + 1) (next + k) (drop (k + 1) inputs))
      (rw (joining_next (next + k) running inputs k h) at r) (rw e at p))

  pub gates_end : length inputs ≤ k → Wrote w₀ w whole
  gates_end h = left_end (rw (joining_end (next + k) running inputs k h) at r)

-- ---- the output bits, one by one

-- one output bit is written
pub outputs_next : (part : Part) (next : ℕ) (outs : List (List ℕ)) (o : ℕ) → o < length outs
    → output_texts part next (drop o outs) ≡ output_text part next (get_or outs o []) ++ output_texts part (next + (length (get_or outs o []) - 1)) (drop (o + 1) outs)
unfolding output_texts
outputs_next part next outs o h = rw (drop-cons outs o [] h, add-one o)

pub outputs_end : (part : Part) (next : ℕ) (outs : List (List ℕ)) (o : ℕ) → length outs ≤ o → output_texts part next (drop o outs) ≡ []
unfolding output_texts
outputs_end part next outs o h = rw (drop_of_length-le outs h)

-- what is left to write, after an output bit, and after the last
module _ {w₀ w : Writer} {whole : List ℕ} (part : Part) (next : ℕ) (outs : List (List ℕ)) (o : ℕ) (r : Left w₀ whole w (output_texts part next (drop o outs))) where
  pub outputs_room : o < length outs → w₀.at + length whole ≤ length w₀.space.now → w.at + length (output_text part next (get_or outs o [])) ≤ length w.space.now
  outputs_room h u =
      omega (
        arith,
        left_room u r,
        ap length (outputs_next part next outs o h),
        length-append (output_text part next (get_or outs o [])) (output_texts part (next + (length (get_or outs o []) - 1)) (drop (o + 1) outs)),
      )

  pub outputs_step : {w' : Writer} {inputs : List ℕ} {more : ℕ} → o < length outs → inputs ≡ get_or outs o [] → more ≡ length (get_or outs o []) - 1
      → Wrote w w' (output_text part next inputs) → Left w₀ whole w' (output_texts part (next + more) (drop (o + 1) outs))
  outputs_step h e m p =
      rw m
      (left_step (output_text part next (get_or outs o [])) (output_texts part (next + (length (get_or outs o []) - 1)) (drop (o + 1) outs))
      (rw (outputs_next part next outs o h) at r) (rw e at p))

  pub outputs_finish : length outs ≤ o → Wrote w₀ w whole
  outputs_finish h = left_end (rw (outputs_end part next outs o h) at r)

-- together they are the gates' lines, and the carriers'
gates_text : (next : ℕ) (outs : List (List ℕ)) → output_texts Gates next outs ≡ answer_text (map gate_line (gates_from next outs))
unfolding output_texts gates_from answer_text
gates_text next [] = refl
gates_text next (l ∷ outs) =
    ap (λ (y : List ℕ). answer_text (map gate_line (gates_of next l)) ++ y) (gates_text (next + (length l - 1)) outs)
    ∙ ap (λ (k : ℕ). answer_text (map gate_line (gates_of next l)) ++ answer_text (map gate_line (gates_from (next + k) outs))) (sym (length_gates next l))
    ∙ sym (answer_append (map gate_line (gates_of next l)) (map gate_line (gates_from (next + length (gates_of next l)) outs)))
    ∙ ap answer_text (sym (map-append gate_line (gates_of next l) (gates_from (next + length (gates_of next l)) outs)))

carriers_text : (next : ℕ) (outs : List (List ℕ)) → output_texts Carrier next outs ≡ answer_text (map carrier_line (carriers_from next outs))
unfolding output_texts carriers_from answer_text
carriers_text next [] = refl
carriers_text next (l ∷ outs) =
    ap (λ (y : List ℕ). line_text (carrier_line (carrier_of next l)) ++ y)
    (carriers_text (next + (length l - 1)) outs
    ∙ ap (λ (k : ℕ). answer_text (map carrier_line (carriers_from (next + k) outs))) (sym (length_gates next l)))

-- the text of a gate list: line one, the gates, the carriers
pub gate_lines_text : (p n : ℕ) (f : ℕ → ℕ → ℕ)
    → answer_text (gate_lines p n f)
    ≡ line_text (0 ∷ length (gates_of_matrix p n f) ∷ [])
    ++ (output_texts Gates (n * degree p) (outputs p n f) ++ output_texts Carrier (n * degree p) (outputs p n f))
unfolding gate_lines answer_text gates_of_matrix carriers_of_matrix
gate_lines_text p n f =
    ap (λ (x : List ℕ). line_text (0 ∷ length (gates_of_matrix p n f) ∷ []) ++ x)
    (answer_append (map gate_line (gates_of_matrix p n f)) (map carrier_line (carriers_of_matrix p n f))
    ∙ ap₂ (λ (x y : List ℕ). x ++ y) (sym (gates_text (n * degree p) (outputs p n f))) (sym (carriers_text (n * degree p) (outputs p n f))))

-- ---- lengths

-- a line of 13 bytes for each gate
pub length_gate_lines : (l : List Gate) → length (answer_text (map gate_line l)) ≡ 13 * length l
unfolding answer_text
length_gate_lines [] = refl
length_gate_lines (g ∷ l) = omega (arith, length-append (line_text (gate_line g)) (answer_text (map gate_line l)), length_line (gate_line g), length_gate_lines l)

-- and of 7 for each carrier
pub length_carrier_lines : (l : List ℕ) → length (answer_text (map carrier_line l)) ≡ 7 * length l
unfolding answer_text
length_carrier_lines [] = refl
length_carrier_lines (c ∷ l) =
    omega (arith, length-append (line_text (carrier_line c)) (answer_text (map carrier_line l)), length_line (carrier_line c), length_carrier_lines l)

-- of the gates and of the carriers of a matrix
pub length_gates_text : (p n : ℕ) (f : ℕ → ℕ → ℕ) → length (output_texts Gates (n * degree p) (outputs p n f)) ≡ 13 * length (gates_of_matrix p n f)
unfolding gates_of_matrix
length_gates_text p n f = ap length (gates_text (n * degree p) (outputs p n f)) ∙ length_gate_lines (gates_from (n * degree p) (outputs p n f))

module _ (p n : ℕ) (f : ℕ → ℕ → ℕ) (h : Modulus p) (u : n ≤ 8) (small : (i j : ℕ) → i < n → j < n → f i j < 2 ^ degree p) where
  pub length_carriers_text : length (output_texts Carrier (n * degree p) (outputs p n f)) ≡ 7 * (n * degree p)
  unfolding carriers_of_matrix
  length_carriers_text =
      ap length (carriers_text (n * degree p) (outputs p n f))
      ∙ length_carrier_lines (carriers_from (n * degree p) (outputs p n f))
      ∙ ap (λ (k : ℕ). 7 * k) (carriers_length p n f h u small)

  -- the length of the answer, by the matrix count
  pub gate_lines_length : length (answer_text (gate_lines p n f)) ≡ 13 + 13 * matrix_count p n f + 7 * (n * degree p)
  gate_lines_length =
      omega (
        arith,
        ap length (gate_lines_text p n f),
        length-append (line_text (0 ∷ length (gates_of_matrix p n f) ∷ []))
            (output_texts Gates (n * degree p) (outputs p n f) ++ output_texts Carrier (n * degree p) (outputs p n f)),
        length-append (output_texts Gates (n * degree p) (outputs p n f)) (output_texts Carrier (n * degree p) (outputs p n f)),
        length_line (0 ∷ length (gates_of_matrix p n f) ∷ []),
        length_gates_text p n f,
        length_carriers_text,
        gates_count p n f h small,
      )

  -- at most 52,877 bytes: 64 output bits, each with 63 gates
  pub gate_lines_short : length (answer_text (gate_lines p n f)) ≤ 52877
  gate_lines_short = omega (arith, gate_lines_length, gates_count p n f h small, gates_few p n f h u small, bits_few p n f h u small)

-- only the entries below the order count
pub gate_lines_cong : (p n : ℕ) (f g : ℕ → ℕ → ℕ) → Modulus p → ((i j : ℕ) → i < n → j < n → f i j ≡ g i j) → gate_lines p n f ≡ gate_lines p n g
unfolding gate_lines
gate_lines_cong p n f g h e = rw (gates_same p n h f g e, carriers_same p n h f g e)
