-- What is due to a request text, in the words of documents 01 and 02: what a request is; for each kind its faults in the order in which they are
-- looked at, and its lines; the table of kinds; and what is due. Assumes nothing.
use Rattle.std.specs.Prelude.{true, false, not, cond, ◌||◌, List, [], ◌∷◌, ◌++◌, map, ℕ, suc, ◌+◌, ◌-◌, ◌*◌, ◌^◌, eqb, ltb, length, get_or}
use Rattle.refusal.specs.Refusals.{Fault, fault, Answer, answer_after}
use Rattle.field.specs.Polynomial.{degree, xor_count}
use Rattle.field.specs.Table.{polynomials}
use Rattle.field.specs.Faults.{call_faults}
use Rattle.lines.specs.Counts.{total}
use Rattle.checks.specs.Answers.{check_of, is_wrong_order}
use Rattle.gates.specs.Gates.{Gate, gates_of_matrix, carriers_of_matrix}
use Rattle.rows.specs.declared.Family.{Family}
use Rattle.rows.specs.declared.Family.TheVariants.{Hadamard, Circulant}
use Rattle.rows.specs.Lightest.{Best, nothing, found}
use Rattle.rows.specs.Shape.{shape_of}
use Rattle.rows.specs.Keys.{sum_of, lightest_row}
use Rattle.rows.specs.Demands.{count_of_row}
use Rattle.rows.specs.Candidates.{some_too_large}
use Rattle.rows.specs.Walks.{Walked, walk_of, lower_bound}
use Rattle.search.specs.Answer.{search_faults}
use Rattle.walk.specs.Answer.{walk_faults, best_count, best_row}
use Rattle.text.specs.Reading.{in_form, kind_of, polynomial_of, order_of, budget_of, values_of}

-- a request: the second, the third and the fifth number of line one, and the values; budget 0 where there is no fifth number
pub record Request : Type 0 where
  pub polynomial : ℕ
  pub order : ℕ
  pub budget : ℕ
  pub values : List ℕ

abbrev pub request_with : ℕ → ℕ → ℕ → List ℕ → Request
request_with polynomial order budget values = record { polynomial = polynomial; order = order; budget = budget; values = values }

-- a request without a budget
abbrev pub request : ℕ → ℕ → List ℕ → Request
request polynomial order values = request_with polynomial order 0 values

-- a kind: its number, its faults, and the numbers of its answer, line by line
pub record Kind : Type 0 where
  pub number : ℕ
  pub faults : Request → List Fault
  pub lines : Request → List (List ℕ)

-- ---- kinds 1 and 5, search: for a Hadamard involution, for a circulant matrix

-- the number of the kind that searches for matrices of a family
abbrev pub search_number : Family → ℕ
search_number Hadamard = 1
search_number Circulant = 5

-- line one: 0, sum of element counts, row count, matrix count (n times the row count); line two: the row
unfoldable pub row_lines : ℕ → ℕ → List ℕ → List (List ℕ)
row_lines p n row = (0 ∷ sum_of p n row ∷ count_of_row p n row ∷ n * count_of_row p n row ∷ []) ∷ row ∷ []

abbrev pub best_lines : ℕ → ℕ → Best → List (List ℕ)
best_lines p n nothing = []
best_lines p n (found row) = row_lines p n row

unfoldable pub search : Family → Kind
search family =
    record {
      number = search_number family;
      faults = λ r. search_faults family r.polynomial r.order r.values (lightest_row (shape_of family) r.polynomial r.order r.values);
      lines = λ r. best_lines r.polynomial r.order (lightest_row (shape_of family) r.polynomial r.order r.values);
    }

-- ---- kind 2, check

-- order n from 1 to 8, count n·n
unfoldable pub check_faults : ℕ → ℕ → List ℕ → List Fault
check_faults p n values = call_faults p (is_wrong_order n) (not (eqb (length values) (n * n))) (some_too_large p values) false

-- the entries line by line
unfoldable pub entries_of : ℕ → List ℕ → ℕ → ℕ → ℕ
entries_of n values i j = get_or values (i * n + j) 0

-- 0, branch number, MDS (1 or 0), involution (1 or 0), matrix count
unfoldable pub check_lines : ℕ → ℕ → (ℕ → ℕ → ℕ) → List (List ℕ)
check_lines p n f = (0 ∷ check_of p n f) ∷ []

unfoldable pub check : Kind
check =
    record {
      number = 2;
      faults = λ r. check_faults r.polynomial r.order r.values;
      lines = λ r. check_lines r.polynomial r.order (entries_of r.order r.values);
    }

-- ---- kind 3, survey

-- the second number is a degree from 2 to 8, order and count are 0
unfoldable pub survey_faults : ℕ → ℕ → List ℕ → List Fault
survey_faults m order values = fault 3 (ltb m 2 || ltb 8 m) ∷ fault 5 (not (eqb order 0)) ∷ fault 6 (not (eqb (length values) 0)) ∷ []

-- a polynomial, the sum of the XOR counts of its nonzero elements, the sum of their squares
unfoldable pub survey_line : ℕ → List ℕ
survey_line p =
    p
    ∷ total (2 ^ degree p - 1) (λ a. xor_count p (suc a))
    ∷ total (2 ^ degree p - 1) (λ a. xor_count p (suc a) * xor_count p (suc a))
    ∷ []

-- 0 and how many polynomials; then a line each
unfoldable pub survey_lines : ℕ → List (List ℕ)
survey_lines m = (0 ∷ length (polynomials m) ∷ []) ∷ map survey_line (polynomials m)

unfoldable pub survey : Kind
survey =
    record {
      number = 3;
      faults = λ r. survey_faults r.polynomial r.order r.values;
      lines = λ r. survey_lines r.polynomial;
    }

-- ---- kind 4, gates: the request of a check

-- a gate's line: the running result first, then the input joined to it
abbrev pub gate_line : Gate → List ℕ
gate_line g = g.running ∷ g.input ∷ []

-- an output bit's line: the number that carries it
abbrev pub carrier_line : ℕ → List ℕ
carrier_line number = number ∷ []

-- 0 and the number of gates; then a line for each gate; then a line for each output bit
unfoldable pub gate_lines : ℕ → ℕ → (ℕ → ℕ → ℕ) → List (List ℕ)
gate_lines p n f = (0 ∷ length (gates_of_matrix p n f) ∷ []) ∷ map gate_line (gates_of_matrix p n f) ++ map carrier_line (carriers_of_matrix p n f)

unfoldable pub gates : Kind
gates =
    record {
      number = 4;
      faults = λ r. check_faults r.polynomial r.order r.values;
      lines = λ r. gate_lines r.polynomial r.order (entries_of r.order r.values);
    }

-- ---- kind 6, walk: kind 1 with a budget

-- line one: 0, finished (1 or 0), rows tried, best row count or 999999 if none yet, the bound; line two: the best row, or zeros
unfoldable pub walk_lines : ℕ → ℕ → List ℕ → Walked → List (List ℕ)
walk_lines p n candidates w =
    (0 ∷ cond w.finished 1 0 ∷ w.rows_tried ∷ best_count p n w.best ∷ lower_bound p n candidates ∷ []) ∷ best_row n w.best ∷ []

unfoldable pub walk : Kind
walk =
    record {
      number = 6;
      faults = λ r. walk_faults r.polynomial r.order r.values (walk_of r.polynomial r.order r.values r.budget);
      lines = λ r. walk_lines r.polynomial r.order r.values (walk_of r.polynomial r.order r.values r.budget);
    }

-- ---- the request text

-- the kinds
unfoldable pub kinds : List Kind
kinds = search Hadamard ∷ check ∷ survey ∷ gates ∷ search Circulant ∷ walk ∷ []

-- the kind of a number; to a number that no kind has, 2 applies
unfoldable pub kind_among : List Kind → ℕ → Kind
kind_among [] number = record { number = number; faults = λ r. fault 2 true ∷ []; lines = λ r. [] }
kind_among (kind ∷ rest) number = cond (eqb number kind.number) kind (kind_among rest number)

-- what is due to a request of a kind: the first of its faults that applies, else its lines
unfoldable pub due_to : Kind → Request → Answer (List (List ℕ))
due_to kind r = answer_after [] (kind.faults r) (kind.lines r)

-- kind and request of a text
unfoldable pub kind_in : List ℕ → Kind
kind_in text = kind_among kinds (kind_of text)

unfoldable pub request_in : List ℕ → Request
request_in text = request_with (polynomial_of text) (order_of text) (budget_of text) (values_of text)

-- the faults of a text: 1 where it is not of the form, then those of its kind
unfoldable pub faults_of : List ℕ → List Fault
faults_of text = fault 1 (not (in_form text)) ∷ (kind_in text).faults (request_in text)

-- what is due to a text
unfoldable pub due : List ℕ → Answer (List (List ℕ))
due text = answer_after [] (faults_of text) ((kind_in text).lines (request_in text))
