-- What is promised of an accepted text of kind 4 (`accepted_gates`). Assumes nothing.
use mathlib.Core.Path.{◌≡◌, sym, ap, ◌∙◌}
use mathlib.Core.List.{List}
use Prim.Native.Nat.{ℕ, ◌+◌, ◌*◌, ◌^◌, ◌<◌}
use native.Mathlib.Nat.{le_trans}
use lib.Dec.{lit≤}
use lib.ListN.{length}
use Rattle.field.specs.Polynomial.{degree}
use Rattle.gates.proofs.Netlists.{netlist}
use Rattle.text.specs.Text.{answer_text}
use Rattle.text.specs.Reading.{kind_of, polynomial_of, order_of, values_of}
use Rattle.reply.specs.Due.{entries_of, gate_lines, gates, kind_in, request_in, due}
use Rattle.answer.specs.Demands.{matrix_in, GatesAnswered}
use Rattle.reply.proofs.DueFrom.{kind_gates}
use Rattle.answer.proofs.EveryKind.{due_lines_of, due_passed}
use Rattle.reply.proofs.Values.{place_below_holds}
use Rattle.answer_matrix.proofs.GateLines.{gate_lines_length}
use Rattle.answer.proofs.Acceptance.{CheckAccepted, check_accepted, answer_short}

module _ (text : List ℕ) (kind : kind_of text ≡ 4) (accepted : (due text).number ≡ 0) where
  is_gates : kind_in text ≡ gates
  unfolding kind_in
  is_gates = sym (kind_gates (kind_of text) kind)

  passed : CheckAccepted (polynomial_of text) (order_of text) (values_of text)
  unfolding gates request_in
  passed = check_accepted (polynomial_of text) (order_of text) (values_of text) (rw is_gates at (due_passed text accepted))

  small : (i j : ℕ) → i < order_of text → j < order_of text → matrix_in text i j < 2 ^ degree (polynomial_of text)
  unfolding entries_of
  small i j l m = passed.small (i * order_of text + j) (place_below_holds (order_of text) i j l m)

  lines_are : (due text).value ≡ gate_lines (polynomial_of text) (order_of text) (matrix_in text)
  unfolding gates request_in
  lines_are = due_lines_of text accepted ∙ rw is_gates

  pub accepted_gates : GatesAnswered text
  accepted_gates =
      record {
        gates_due = lines_are;
        promised = netlist (polynomial_of text) (order_of text) (matrix_in text) passed.modulus passed.high small;
        length_is =
            ap (λ (l : List (List ℕ)). length (answer_text l)) lines_are
            ∙ gate_lines_length (polynomial_of text) (order_of text) (matrix_in text) passed.modulus passed.high small;
        within = le_trans (answer_short text accepted) (lit≤ tt);
      }
