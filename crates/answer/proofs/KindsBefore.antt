-- What was due before a kind came, and what of it stayed: everything that is due to a text of another kind (`more_as_before`). Before walks (request
-- Seven), when line one had four numbers in every kind: `walks_apart`; a text of kind 6 in the form of then was refused with 2 (`walks_before`), and
-- is refused with 1 today (`budget_missing`); one in the form of today was refused with 1 (`budget_before`). Before circulant searches (request Six):
-- `circulants_apart`, and a text of kind 5 in form was refused with 2 (`circulants_before`). Before gates (request Two), when kind 5 was none either:
-- `gates_apart`, `gates_before`. The other kinds are those of today. Assumes nothing.
use mathlib.Core.Path.{◌≡◌, refl, sym, ap, ◌∙◌}
use mathlib.Core.Logic.{◌≢◌}
use mathlib.Core.Bool.{true, not, cond}
use mathlib.Core.List.{List, [], ◌∷◌, ◌++◌}
use Prim.Native.Nat.{ℕ, ◌+◌, ◌*◌, ◌/◌}
use native.Mathlib.Omega.{arith}
use lib.Dec.{eqb, leb}
use lib.ListN.{length, drop}
use borrow.Author.Tests.{ne_eqb}
use Rattle.refusal.specs.Refusals.{fault, Answer, answer, answer_after}
use Rattle.refusal.specs.declared.Refusal.TheVariants.{Form, Kind as UnknownKind}
use Rattle.refusal.proofs.Faults.{after_taken, after_left}
use Rattle.algebra.proofs.Involution.{and_right}
use Rattle.rows.specs.declared.Family.TheVariants.{Hadamard, Circulant}
use Rattle.text.specs.Text.{further_numbers, request_text}
use Rattle.text.specs.Reading.{kind_of, polynomial_of, order_of, count_of, line_one_length, in_form}
use Rattle.text.proofs.Compare.{is_false, same_true}
use Rattle.text.proofs.Lengths.{length_request, length_values_from}
use Rattle.text.proofs.Form.{budget_none, form_length, length_rewritten}
use Rattle.text.proofs.FormBefore.{values_before, form_before, values_as_before, form_as_before}
use Rattle.reply.specs.Due.{Request, Kind, request, search, check, survey, gates, walk, kinds, kind_among, kind_in, request_in, faults_of, due}
use Rattle.reply.proofs.DueFrom.{text_refused}

-- the request of a text whose line one has four numbers
unfoldable pub request_before : List ℕ → Request
request_before text = request (polynomial_of text) (order_of text) (values_before text)

-- what was due to a text by a kind, and by a table of kinds, when line one had four numbers in every kind
abbrev due_by : List ℕ → Kind → Answer (List (List ℕ))
due_by text kind = answer_after [] (fault 1 (not (form_before text)) ∷ kind.faults (request_before text)) (kind.lines (request_before text))

unfoldable pub due_among : List Kind → List ℕ → Answer (List (List ℕ))
due_among table text = due_by text (kind_among table (kind_of text))

-- ---- one kind more

among_more : (table : List Kind) (kind : Kind) (k : ℕ) → k ≢ kind.number → kind_among (table ++ kind ∷ []) k ≡ kind_among table k
unfolding kind_among
among_more [] kind k h = rw (ne_eqb k kind.number h)
among_more (x ∷ table) kind k h = ap (cond (eqb k x.number) x) (among_more table kind k h)

-- a text of another kind has the answer of before
pub more_as_before : (table : List Kind) (kind : Kind) (text : List ℕ) → kind_of text ≢ kind.number → due_among (table ++ kind ∷ []) text ≡ due_among table text
unfolding due_among
more_as_before table kind text h = ap (due_by text) (among_more table kind (kind_of text) h)

-- ---- the tables of before

-- before request Two, before request Six, and before request Seven
unfoldable pub three_kinds : List Kind
three_kinds = search Hadamard ∷ check ∷ survey ∷ []

unfoldable pub four_kinds : List Kind
four_kinds = three_kinds ++ gates ∷ []

unfoldable pub five_kinds : List Kind
five_kinds = four_kinds ++ search Circulant ∷ []

-- ---- the form of before

-- the length of a text in the form of before, by its count
before_length : (text : List ℕ) → form_before text ≡ true → length text ≡ 25 + 6 * count_of text + (count_of text + 15) / 16
unfolding form_before values_before request_text
before_length text e =
    let values = values_before text in
    let same = same_true text _ (and_right (leb (length text) 4096) _ e) in
    omega (
      arith,
      ap length same,
      length_request (kind_of text) (polynomial_of text) (order_of text) [] (values_before text),
      length_values_from (drop 25 text) 0 (count_of text),
    )

-- in kind 6 no text has both forms: the budget makes six bytes
forms_apart : (text : List ℕ) → kind_of text ≡ 6 → form_before text ≡ true → in_form text ≡ true → ⊥
unfolding count_of
forms_apart text e before today = omega (arith, before_length text before, ap length (form_length text today).1, length_rewritten text, further)
  where
    further : line_one_length (kind_of text) ≡ 31
    further = unfold line_one_length further_numbers in rw e

module _ (text : List ℕ) where
  -- a text of another kind than 6 has the answer of before
  pub walks_apart : kind_of text ≢ 6 → due text ≡ due_among five_kinds text
  walks_apart h = today ∙ more_as_before five_kinds walk text (λ e. h (e ∙ six))
    where
      six : walk.number ≡ 6
      six = unfold walk in refl

      none : further_numbers (kind_of text) ≡ 0
      none = unfold further_numbers in rw (ne_eqb (kind_of text) 6 h)

      asked : request_in text ≡ request_before text
      asked = unfold request_in request_before in rw (values_as_before text none, budget_none text none)

      today : due text ≡ due_among (five_kinds ++ walk ∷ []) text
      today = unfold due due_among faults_of kind_in kinds five_kinds four_kinds three_kinds in rw (asked, form_as_before text none) refl

  -- one of kind 6 in the form of before is refused with 1: its budget is missing
  pub budget_missing : kind_of text ≡ 6 → form_before text ≡ true → due text ≡ answer 1 []
  budget_missing e form = sym (text_refused text (is_false (in_form text) (forms_apart text e form)))

  -- one in the form of today was refused with 1
  pub budget_before : kind_of text ≡ 6 → in_form text ≡ true → due_among five_kinds text ≡ answer 1 []
  unfolding due_among
  budget_before e form = sym (after_taken [] _ Form _ _ (ap not (is_false (form_before text) (λ before. forms_apart text e before form))))

  -- one of another kind than 5 had the answer that it had before there were circulant searches
  pub circulants_apart : kind_of text ≢ 5 → due_among five_kinds text ≡ due_among four_kinds text
  circulants_apart h = unfold five_kinds in more_as_before four_kinds (search Circulant) text (λ e. h (e ∙ five))
    where
      five : (search Circulant).number ≡ 5
      five = unfold search in refl

  -- one of another kind than 4 had the answer that it had before there were gates
  pub gates_apart : kind_of text ≢ 4 → due_among four_kinds text ≡ due_among three_kinds text
  gates_apart h = unfold four_kinds in more_as_before three_kinds gates text (λ e. h (e ∙ four))
    where
      four : gates.number ≡ 4
      four = unfold gates in refl

  module _ (form : form_before text ≡ true) where
    -- 2 is due where no kind has the number
    refused_two : answer 2 [] ≡ answer_after {A = List (List ℕ)} [] (fault 1 (not (form_before text)) ∷ fault 2 true ∷ []) []
    refused_two = after_taken [] [] UnknownKind true [] refl ∙ after_left [] _ 1 _ _ (ap not form)

    -- one of kind 6 was refused with 2
    pub walks_before : kind_of text ≡ 6 → due_among five_kinds text ≡ answer 2 []
    unfolding due_among five_kinds four_kinds three_kinds kind_among search check survey gates
    walks_before e = rw e (sym refused_two)

    -- so was one of kind 5 before there were circulant searches
    pub circulants_before : kind_of text ≡ 5 → due_among four_kinds text ≡ answer 2 []
    unfolding due_among four_kinds three_kinds kind_among search check survey gates
    circulants_before e = rw e (sym refused_two)

    -- and one of kind 4 before there were gates
    pub gates_before : kind_of text ≡ 4 → due_among three_kinds text ≡ answer 2 []
    unfolding due_among three_kinds kind_among search check survey
    gates_before e = rw e (sym refused_two)
