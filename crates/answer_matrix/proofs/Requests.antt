-- What is asked of a matrix: the two kinds; what their requests are refused for; and what is due to a matrix that is read. Assumes nothing.
use mathlib.Core.Path.{◌≡◌, refl, sym, ap, ◌∙◌, subst}
use mathlib.Core.Bool.{Bool, false, cond, not}
use mathlib.Core.List.{List, [], ◌∷◌}
use Prim.Native.Nat.{ℕ, ◌*◌, ◌<◌}
use lib.Dec.{eqb}
use lib.ListN.{length}
use Rattle.refusal.specs.declared.Refusal.{Refusal}
use Rattle.refusal.specs.Refusals.{number_of, fault, first_number, Answer, answer}
use Rattle.refusal.proofs.Faults.{number_not_zero, numbered, first_later, after_none, after_number, after_number_is, refused_before}
use Rattle.field.specs.Polynomial.{Modulus}
use Rattle.field.specs.Faults.{polynomial_faults}
use Rattle.field.proofs.Calls.{modulus_number}
use Rattle.lines.specs.Numbers.{entry}
use Rattle.checks.specs.Answers.{is_wrong_order}
use Rattle.rows.specs.Candidates.{some_too_large}
use Rattle.reply.specs.Due.{check_faults, check_lines, entries_of, check, gates, kinds, kind_among, request, due_to}
use Rattle.reply.proofs.DueFrom.{kind_check, kind_gates, BudgetUnseen}
use Rattle.reply.proofs.Values.{check_cong}
use Rattle.answer_matrix.specs.declared.Asked.{Asked}
use Rattle.answer_matrix.specs.declared.Asked.TheVariants.{Check, Gates}
use Rattle.answer_matrix.specs.declared.square.Matrix.{Matrix}
use Rattle.answer_matrix.specs.Steps.Asked.{matrix_lines, matrix_number, matrix_kind}
use Rattle.answer_matrix.proofs.GateLines.{gate_lines_cong}

-- ---- the kinds

check_asked : matrix_kind Check ≡ check
unfolding matrix_kind check
check_asked = refl

gates_asked : matrix_kind Gates ≡ gates
unfolding matrix_kind gates
gates_asked = refl

-- they are those of the table
pub asked_kind : (asked : Asked) (kind : ℕ) → kind ≡ matrix_number asked → matrix_kind asked ≡ kind_among kinds kind
asked_kind Check kind e = check_asked ∙ kind_check kind e
asked_kind Gates kind e = gates_asked ∙ kind_gates kind e

-- neither looks at a budget
pub matrix_unseen : (asked : Asked) → BudgetUnseen (matrix_kind asked)
unfolding due_to matrix_kind
matrix_unseen asked p n budget values = refl

-- ---- refusals

-- a reason that the polynomial is refused for is the request's
pub matrix_before : (p n : ℕ) (values : List ℕ) (r : Refusal) → number_of r ≡ first_number (polynomial_faults p) → number_of r ≡ first_number (check_faults p n values)
unfolding check_faults
matrix_before p n values r e =
    ap (λ (a : Answer ℕ). a.number) (refused_before 0 0 (polynomial_faults p) _ r e) ∙ after_number_is 0 0 (check_faults p n values)

-- where the polynomial passes, the first of the tests that fails tells
pub matrix_first : (p n : ℕ) (values : List ℕ) {q : ℕ} → Modulus q → q ≡ p → {o c l : Bool}
    → is_wrong_order n ≡ o → not (eqb (length values) (n * n)) ≡ c → some_too_large q values ≡ l
    → cond o 5 (cond c 6 (cond l 7 0)) ≡ first_number (check_faults p n values)
unfolding first_number polynomial_faults numbered check_faults
matrix_first p n values h e order count large =
    rw (sym order, sym count, sym large, e)
    (sym (first_later (polynomial_faults p)
    (fault 5 (is_wrong_order n) ∷ fault 6 (not (eqb (length values) (n * n))) ∷ fault 7 (some_too_large p values) ∷ fault 8 false ∷ []) refl
    (modulus_number p (subst Modulus e h))))

-- ---- what is due

module _ (asked : Asked) (p n : ℕ) (values : List ℕ) where
  pub matrix_refused : (r : Refusal) → number_of r ≡ first_number (check_faults p n values) → answer (number_of r) [] ≡ due_to (matrix_kind asked) (request p n values)
  unfolding due_to matrix_kind
  matrix_refused r e = after_number [] _ (check_faults p n values) (number_of r) (sym e) (number_not_zero r)

  pub matrix_due : (m : Matrix) → m.field.polynomial ≡ p → m.order ≡ n → first_number (check_faults p n values) ≡ 0
      → ((i j : ℕ) → i < n → j < n → entry m.entries i j ≡ entries_of n values i j)
      → answer 0 (matrix_lines asked m.field.polynomial m.order (entry m.entries)) ≡ due_to (matrix_kind asked) (request p n values)
  unfolding due_to matrix_kind check_lines
  matrix_due m ep en none same = ap (answer 0) (lines asked) ∙ after_none [] _ (check_faults p n values) none
    where
      lines : (a : Asked) → matrix_lines a m.field.polynomial m.order (entry m.entries) ≡ matrix_lines a p n (entries_of n values)
      lines Check = rw (ep, en) (ap (λ (l : List ℕ). (0 ∷ l) ∷ []) (check_cong p n (entry m.entries) (entries_of n values) same))
      lines Gates = rw (ep, en) (gate_lines_cong p n (entry m.entries) (entries_of n values) (subst Modulus ep m.field.modulus) same)
