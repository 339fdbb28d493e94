-- What an accepted request has shown, for every kind: every number of its answer fits six columns (`six_columns`), and the answer has at
-- most 52,877 bytes (`answer_short`), less than 64 KiB; so 10 is never returned where 52,877 are lent (`never_ten`). Assumes nothing.
use mathlib.Core.Path.{◌≡◌, refl, ◌∙◌}
use mathlib.Core.Bool.{cond, not, ◌||◌}
use mathlib.Core.Logic.{⊎_elim}
use mathlib.Core.List.{List, [], ◌∷◌, ◌++◌, map}
use Prim.Native.Nat.{ℕ, zero, suc, ◌+◌, ◌*◌, ◌^◌, ◌≤◌, ◌<◌, zero-le, suc-le-suc}
use native.Mathlib.Nat.{le_trans, mul-le-mul}
use native.Mathlib.Omega.{arith}
use borrow.Author.Tests.{eqb-true, not-false}
use lib.Dec.{eqb, ltb, lit≤}
use lib.ListN.{length, get_or}
use Rattle.refusal.specs.Refusals.{first_number}
use Rattle.refusal.proofs.Faults.{first_passed, applies_most, none_first}
use Rattle.field.specs.Polynomial.{Modulus, degree}
use Rattle.field.specs.Table.{polynomials}
use Rattle.field.proofs.Calls.{not_too_large, modulus_parts}
use Rattle.lines.proofs.Tallies.{row_count_le}
use Rattle.checks.specs.Answers.{check_of, is_wrong_order}
use Rattle.checks.proofs.CallFaults.{order_passes}
use Rattle.gates.specs.Gates.{Gate, gate, gates_of_matrix, carriers_of_matrix}
use Rattle.gates.specs.Netlist.{Netlist}
use Rattle.gates.proofs.Netlists.{bits_few, gates_few, netlist}
use Rattle.rows.specs.declared.Family.{Family}
use Rattle.rows.specs.declared.Family.TheVariants.{Hadamard}
use Rattle.rows.specs.Walks.{walk_of, lower_bound}
use Rattle.rows.specs.Keys.{sum_of}
use Rattle.rows.specs.Demands.{count_of_row}
use Rattle.rows.specs.Candidates.{some_too_large}
use Rattle.cuts.proofs.Families.{family_most}
use Rattle.lightest.proofs.LetterCounts.{fits_at}
use Rattle.search.proofs.Refusals.{brief_passed, brief_parts}
use Rattle.walk.specs.Answer.{walk_faults, best_count, best_row}
use Rattle.text.specs.Text.{further_numbers, SixDigits, answer_text}
use Rattle.text.specs.Reading.{numbers_from, kind_of, further_of, budget_of}
use Rattle.text.proofs.Numbers.{number_six}
use Rattle.text.proofs.Form.{six_none, six_more}
use Rattle.reply.specs.Due.{Request, Kind, row_lines, search, check_faults, entries_of, check_lines, check, survey_faults, survey_line, survey_lines, survey, gate_line, carrier_line, gate_lines, gates, walk_lines, walk, request_in, faults_of, due}
use Rattle.reply.specs.Answered.{Answered}
use Rattle.answer.proofs.EveryKind.{unknown, kind_holds, faults_to_nine, due_number, due_lines_of, due_passed}
use Rattle.answer.proofs.Demands.{FirstFault, at_fault, with_room, without_room, first_fault}
use Rattle.reply.proofs.Replies.{one_length, two_length}
use Rattle.answer_matrix.proofs.GateLines.{gate_lines_short}
use Rattle.answer_survey.proofs.Surveys.{survey_length, six_survey, starts_few, polynomials_few, polynomials_modulus}
use Rattle.reply.proofs.Values.{place_below_holds, degree_passed, six_check}
use Rattle.answer_row.proofs.Found.{search_accepted, sum_le, six_row}
use Rattle.answer_row.proofs.Walked.{row_told, six_walk}

-- the lines of an accepted request fit their columns and the program's space
pub record Fitting (l : List (List ℕ)) : Type 0 where
  pub six : (i : ℕ) → SixDigits (get_or l i [])
  pub short : length (answer_text l) ≤ 52877

-- the budget, which is read from a text, has at most six digits
abbrev FitsWhere : Kind → Type 0
FitsWhere kind = (r : Request) → r.budget ≤ 999999 → first_number (kind.faults r) ≡ 0 → Fitting (kind.lines r)

-- ---- kinds 1 and 5

two_six : (a b : List ℕ) → SixDigits a → SixDigits b → (i : ℕ) → SixDigits (get_or (a ∷ b ∷ []) i [])
two_six a b h k zero = h
two_six a b h k (suc zero) = k
two_six a b h k (suc (suc i)) = six_none

row_fits : (p n : ℕ) (row : List ℕ) → Modulus p → n ≤ 8 → length row ≡ n → ((j : ℕ) → get_or row j 0 ≤ 255) → Fitting (row_lines p n row)
unfolding row_lines sum_of SixDigits
row_fits p n row h u e small =
    let count = row_count_le p n (λ j. get_or row j 0) h u in
    record {
      six =
          two_six _ row
          (six_row (sum_of p n row) (count_of_row p n row) (n * count_of_row p n row) (sum_le p n _ (λ j. get_or row j 0) h u refl) count (mul-le-mul u count))
          (λ i. le_trans (small i) (lit≤ tt));
      short = omega (arith, two_length (0 ∷ sum_of p n row ∷ count_of_row p n row ∷ n * count_of_row p n row ∷ []) row, e, u);
    }

search_fits : (family : Family) → FitsWhere (search family)
unfolding search
search_fits family r six e =
    let a = search_accepted family r.polynomial r.order r.values e in
    rw a.lightest (row_fits r.polynomial r.order a.row a.modulus a.high a.entries a.small)

-- ---- kind 2

one_six : (a : List ℕ) → SixDigits a → (i : ℕ) → SixDigits (get_or (a ∷ []) i [])
one_six a h zero = h
one_six a h (suc i) = six_none

-- what an accepted check has shown
pub record CheckAccepted (p n : ℕ) (values : List ℕ) : Type 0 where
  pub modulus : Modulus p
  pub low : 1 ≤ n
  pub high : n ≤ 8
  pub square : length values ≡ n * n
  pub small : (k : ℕ) → k < n * n → get_or values k 0 < 2 ^ degree p

pub check_accepted : (p n : ℕ) (values : List ℕ) → first_number (check_faults p n values) ≡ 0 → CheckAccepted p n values
unfolding check_faults
check_accepted p n v e =
    let (modulus, e₄) = modulus_parts p _ e in
    let (order, e₅) = first_passed 5 0 (is_wrong_order n) _ (λ h. omega arith) e₄ in
    let (count, e₆) = first_passed 6 0 (not (eqb (length v) (n * n))) _ (λ h. omega arith) e₅ in
    let (large, e₇) = first_passed 7 0 (some_too_large p v) _ (λ h. omega arith) e₆ in
    let square : length v ≡ n * n = eqb-true (length v) (n * n) (not-false _ count) in
    let orders = order_passes n order in
    record {
      modulus = modulus;
      low = orders.0;
      high = orders.1;
      square = square;
      small = λ k l. not_too_large p _ (fits_at p v large k (rw square l));
    }

check_fits : FitsWhere check
unfolding check check_lines check_of entries_of
check_fits r six e =
    let p = r.polynomial in
    let n = r.order in
    let v = r.values in
    let c = check_accepted p n v e in
    record {
      six = one_six _ (six_check p n (entries_of n v) c.modulus c.low c.high (λ i j a b. c.small (i * n + j) (place_below_holds n i j a b)));
      short = omega (arith, one_length (0 ∷ check_of p n (entries_of n v)));
    }

-- ---- kind 3

map_six : (ps : List ℕ) → ((i : ℕ) → i < length ps → Modulus (get_or ps i 0)) → (i : ℕ) → SixDigits (get_or (map survey_line ps) i [])
map_six [] h i = six_none
map_six (p ∷ ps) h zero = six_survey p (h 0 (omega arith))
map_six (p ∷ ps) h (suc i) = map_six ps (λ j m. h (suc j) (suc-le-suc m)) i

survey_six : (m : ℕ) → 2 ≤ m → m ≤ 8 → (i : ℕ) → SixDigits (get_or (survey_lines m) i [])
unfolding survey_lines
survey_six m l u zero = six_more _ zero-le (six_more _ (omega (arith, polynomials_few m l u)) six_none)
survey_six m l u (suc i) = map_six (polynomials m) (polynomials_modulus m l u) i

-- the survey of degree 8 has 583 bytes
survey_fits : FitsWhere survey
unfolding survey survey_faults
survey_fits r six e =
    let m = r.polynomial in
    let (degrees, e₅) = first_passed 3 0 (ltb m 2 || ltb 8 m) _ (λ h. omega arith) e in
    let range = degree_passed m degrees in
    record {
      six = survey_six m range.0 range.1;
      short = omega (arith, survey_length m range.0 range.1, starts_few m range.1);
    }

-- ---- kind 4

-- lines behind others
append_six : (a b : List (List ℕ)) → ((i : ℕ) → SixDigits (get_or a i [])) → ((i : ℕ) → SixDigits (get_or b i [])) → (i : ℕ) → SixDigits (get_or (a ++ b) i [])
append_six [] b h k i = k i
append_six (l ∷ a) b h k zero = h zero
append_six (l ∷ a) b h k (suc i) = append_six a b (λ j. h (suc j)) k i

gates_six : (l : List Gate) → ((k : ℕ) → k < length l → ((get_or l k (gate 0 0)).running ≤ 999999) × ((get_or l k (gate 0 0)).input ≤ 999999))
    → (i : ℕ) → SixDigits (get_or (map gate_line l) i [])
gates_six [] h i = six_none
gates_six (g ∷ l) h zero = let r = h 0 (omega arith) in six_more _ r.0 (six_more _ r.1 six_none)
gates_six (g ∷ l) h (suc i) = gates_six l (λ k m. h (suc k) (suc-le-suc m)) i

carriers_six : (l : List ℕ) → ((k : ℕ) → k < length l → get_or l k 0 ≤ 999999) → (i : ℕ) → SixDigits (get_or (map carrier_line l) i [])
carriers_six [] h i = six_none
carriers_six (c ∷ l) h zero = six_more _ (h 0 (omega arith)) six_none
carriers_six (c ∷ l) h (suc i) = carriers_six l (λ k m. h (suc k) (suc-le-suc m)) i

module _ (p n : ℕ) (f : ℕ → ℕ → ℕ) (h : Modulus p) (u : n ≤ 8) (small : (i j : ℕ) → i < n → j < n → f i j < 2 ^ degree p) where
  -- 64 input bits and 4,032 gates are numbered; the one number more is 999999
  numbers_few : n * degree p + length (gates_of_matrix p n f) ≤ 4096
  numbers_few = omega (arith, bits_few p n f h u small, gates_few p n f h u small)

  list : Netlist p n f
  list = netlist p n f h u small

  gate_lines_six : (i : ℕ) → SixDigits (get_or (gate_lines p n f) i [])
  unfolding gate_lines
  gate_lines_six zero = six_more _ zero-le (six_more _ (omega (arith, numbers_few)) six_none)
  gate_lines_six (suc i) =
      append_six (map gate_line (gates_of_matrix p n f)) (map carrier_line (carriers_of_matrix p n f))
      (gates_six (gates_of_matrix p n f) (λ k l. let r = list.gates_join k l in (omega (arith, r.running_earlier, numbers_few), omega (arith, r.input_earlier, numbers_few))))
      (carriers_six (carriers_of_matrix p n f) (λ k l.
      ⊎_elim (λ (e : get_or (carriers_of_matrix p n f) k 0 ≡ 999999). omega arith)
      (λ (q : get_or (carriers_of_matrix p n f) k 0 < n * degree p + length (gates_of_matrix p n f)). omega (arith, numbers_few))
      (list.carriers_exist k (rw list.carriers_counted at l))))
      i

gates_fits : FitsWhere gates
unfolding gates entries_of
gates_fits r six e =
    let p = r.polynomial in
    let n = r.order in
    let v = r.values in
    let c = check_accepted p n v e in
    let small : (i j : ℕ) → i < n → j < n → entries_of n v i j < 2 ^ degree p = λ i j a b. c.small (i * n + j) (place_below_holds n i j a b) in
    record {
      six = gate_lines_six p n (entries_of n v) c.modulus c.high small;
      short = gate_lines_short p n (entries_of n v) c.modulus c.high small;
    }

-- ---- kind 6

walk_fits : FitsWhere walk
unfolding walk walk_faults walk_lines SixDigits
walk_fits r six e =
    let p = r.polynomial in
    let n = r.order in
    let v = r.values in
    let w = walk_of p n v r.budget in
    let passed = brief_passed Hadamard p n v (brief_parts Hadamard p n v _ e).0 in
    let u = family_most Hadamard n passed.order in
    let (long, small) = row_told p n v r.budget passed.modulus w.best refl in
    record {
      six =
          two_six _ (best_row n w.best)
          (six_walk p n v r.budget passed.modulus u six)
          (λ i. le_trans (small i) (lit≤ tt));
      short = omega (arith, two_length (0 ∷ cond w.finished 1 0 ∷ w.rows_tried ∷ best_count p n w.best ∷ lower_bound p n v ∷ []) (best_row n w.best), long, u);
    }

-- ---- every kind

none_fits : (k : ℕ) → FitsWhere (unknown k)
unfolding first_number
none_fits k r six e = let z : ⊥ = omega arith in absurd z

pub budget_small : (text : List ℕ) → budget_of text ≤ 999999
unfolding budget_of further_of
budget_small text = go (further_numbers (kind_of text))
  where
    go : (n : ℕ) → get_or (numbers_from text 24 n) 0 0 ≤ 999999
    go zero = unfold numbers_from in zero-le
    go (suc n) = unfold numbers_from in number_six text 24

budget_six : (text : List ℕ) → (request_in text).budget ≤ 999999
unfolding request_in
budget_six text = budget_small text

pub accepted_fits : (text : List ℕ) → (due text).number ≡ 0 → Fitting (due text).value
accepted_fits text e =
    rw (due_lines_of text e)
    (kind_holds FitsWhere search_fits check_fits survey_fits gates_fits walk_fits none_fits text (request_in text) (budget_six text) (due_passed text e))

-- every number of an accepted answer fits six columns
pub six_columns : (text : List ℕ) → (due text).number ≡ 0 → (i : ℕ) → SixDigits (get_or (due text).value i [])
six_columns text e = (accepted_fits text e).six

pub answer_short : (text : List ℕ) → (due text).number ≡ 0 → length (answer_text (due text).value) ≤ 52877
answer_short text e = (accepted_fits text e).short

-- ---- number 10

-- with 52,877 bytes lent, 10 is never returned
pub never_ten : {text space after : List ℕ} {number size : ℕ} → Answered text space after number size → 52877 ≤ length space → number ≡ 10 → ⊥
never_ten {text} {space} {number = number} a h = go (first_fault a)
  where
    go : FirstFault text space number → number ≡ 10 → ⊥
    go (at_fault x k) e = omega (arith, applies_most 9 (faults_of text) (faults_to_nine text) number x)
    go (with_room k r z) e = omega arith
    go (without_room k r z) e = omega (arith, answer_short text (due_number text ∙ none_first (faults_of text) k))
