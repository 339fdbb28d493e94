-- What is due, from the kind and from the text. Assumes nothing.
use mathlib.Core.Path.{◌≡◌, refl, ap, ◌∙◌}
use mathlib.Core.Bool.{true, false, not}
use mathlib.Core.List.{List, []}
use Prim.Native.Nat.{ℕ, ◌-◌}
use borrow.Author.Tests.{ne_eqb}
use lib.ListN.{length, take, drop}
use Rattle.refusal.specs.Refusals.{answer}
use Rattle.refusal.specs.declared.Refusal.TheVariants.{Form, Kind as UnknownKind}
use Rattle.refusal.proofs.Faults.{after_taken, after_left}
use Rattle.rows.specs.declared.Family.{Family}
use Rattle.rows.specs.declared.Family.TheVariants.{Hadamard, Circulant}
use Rattle.std.specs.Prelude.{Ok}
use Rattle.text.specs.declared.Header.{Header}
use Rattle.text.specs.Reading.{in_form, kind_of, polynomial_of, order_of, count_of, budget_of, line_one_length, values_from, values_of, says_header, header_answer}
use Rattle.text.proofs.Form.{part_is}
use Rattle.text.proofs.Requests.{header_read}
use Rattle.reply.specs.Due.{Kind, Request, request, request_with, search_number, search, check, survey, gates, walk, kinds, kind_among, due_to, kind_in, request_in, faults_of, due}

-- ---- by the kind

module _ (kind : ℕ) where
  pub kind_search : (family : Family) → kind ≡ search_number family → search family ≡ kind_among kinds kind
  unfolding kinds kind_among search check survey gates walk
  kind_search Hadamard e = rw e
  kind_search Circulant e = rw e

  pub kind_check : kind ≡ 2 → check ≡ kind_among kinds kind
  unfolding kinds kind_among search check survey gates walk
  kind_check e = rw e

  pub kind_survey : kind ≡ 3 → survey ≡ kind_among kinds kind
  unfolding kinds kind_among search check survey gates walk
  kind_survey e = rw e

  pub kind_gates : kind ≡ 4 → gates ≡ kind_among kinds kind
  unfolding kinds kind_among search check survey gates walk
  kind_gates e = rw e

  pub kind_walk : kind ≡ 6 → walk ≡ kind_among kinds kind
  unfolding kinds kind_among search check survey gates walk
  kind_walk e = rw e

  pub kind_unknown : (r : Request) → (kind ≡ 1 → ⊥) → (kind ≡ 2 → ⊥) → (kind ≡ 3 → ⊥) → (kind ≡ 4 → ⊥) → (kind ≡ 5 → ⊥) → (kind ≡ 6 → ⊥)
      → answer 2 [] ≡ due_to (kind_among kinds kind) r
  unfolding due_to kinds kind_among search check survey gates walk
  kind_unknown r a b c d f g =
      rw (ne_eqb kind 1 a, ne_eqb kind 2 b, ne_eqb kind 3 c, ne_eqb kind 4 d, ne_eqb kind 5 f, ne_eqb kind 6 g) (after_taken [] [] UnknownKind true [] refl)

-- ---- the budget

-- what is due to a kind does not depend on the budget
abbrev pub BudgetUnseen : Kind → Type 0
BudgetUnseen kind =
    (polynomial order budget : ℕ) (values : List ℕ) → due_to kind (request polynomial order values) ≡ due_to kind (request_with polynomial order budget values)

pub search_unseen : (family : Family) → BudgetUnseen (search family)
unfolding due_to search
search_unseen family p n budget values = refl

pub survey_unseen : BudgetUnseen survey
unfolding due_to survey
survey_unseen m n budget values = refl

-- so the budget of a request may be left out
pub budget_left : {k l : Kind} → BudgetUnseen k → k ≡ l → (r : Request) → due_to k (request r.polynomial r.order r.values) ≡ due_to l r
budget_left {k} unseen e r =
    unseen r.polynomial r.order r.budget r.values ∙ ap (λ (k : Kind). due_to k r) e

-- ---- from the text

module _ (text : List ℕ) where
  pub text_refused : in_form text ≡ false → answer 1 [] ≡ due text
  unfolding due faults_of
  text_refused e = after_taken [] _ Form _ _ (ap not e)

  pub text_read : in_form text ≡ true → due_to (kind_in text) (request_in text) ≡ due text
  unfolding due faults_of due_to
  text_read e = after_left [] _ 1 _ _ (ap not e)

  -- the numbers of line one and the part behind it, as the code reads them
  pub text_numbers : (h : Header) → says_header (Ok h) ≡ header_answer text
      → due_to (kind_among kinds h.kind)
      (request_with h.polynomial h.order h.budget (values_from (take (length text - line_one_length h.kind) (drop (line_one_length h.kind) text)) 0 h.count))
      ≡ due text
  text_numbers h e =
      let r = header_read text h e in
      same r.1 r.2 r.3 r.4 r.5 ∙ text_read r.0
    where
      same : kind_of text ≡ h.kind → polynomial_of text ≡ h.polynomial → order_of text ≡ h.order → count_of text ≡ h.count → budget_of text ≡ h.budget
          → due_to (kind_among kinds h.kind)
          (request_with h.polynomial h.order h.budget (values_from (take (length text - line_one_length h.kind) (drop (line_one_length h.kind) text)) 0 h.count))
          ≡ due_to (kind_in text) (request_in text)
      same k p o n b = unfold kind_in request_in values_of in rw (k, p, o, n, b, part_is (line_one_length h.kind) text)
