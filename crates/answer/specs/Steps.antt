-- The kinds of requests as the code names them. Nobody need believe these: `answer_kind` is proved by them of the table of kinds. Assumes nothing.
use Rattle.std.specs.Prelude.{◌≡◌, ◌≤◌, ℕ, [], Result, MatchResult}
use Rattle.refusal.specs.declared.Refusal.{Refusal}
use Rattle.refusal.specs.declared.Refusal.TheVariants as refusals
use Rattle.refusal.specs.Refusals.{number_of, answer}
use Rattle.reply.specs.Due as due
use Rattle.answer_matrix.specs.Steps.Asked.{matrix_kind}
use Rattle.answer.specs.declared.kind.Kind.{Kind}
use Rattle.answer.specs.declared.kind.Kind.TheVariants.{Search, Matrix, Survey, Walk}

-- the kind of the table
abbrev pub kind_named : Kind → due.Kind
kind_named (Search family) = due.search family
kind_named (Matrix asked) = matrix_kind asked
kind_named Survey = due.survey
kind_named Walk = due.walk

-- the kind of a number from 1 to 6; any other number is refused for its kind, which is due to it whatever the request
abbrev pub GivesKind : ℕ → Result Kind Refusal → Type 0
GivesKind number result =
    MatchResult result (λ kind. kind_named kind ≡ due.kind_among due.kinds number)
    (λ reason.
    (reason ≡ refusals.Kind)
    × (1 ≤ number → number ≤ 6 → ⊥)
    × ((r : due.Request) → answer (number_of reason) [] ≡ due.due_to (due.kind_among due.kinds number) r))
