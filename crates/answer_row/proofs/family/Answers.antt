-- `answer_row::family` meets its contract. Assumes nothing.
use mathlib.Core.Logic.{⊎_elim}
use Rattle.answer_row.proofs.family.Goals as goal

pub returns-then-kind-eq5 : goal.returns-then-kind-eq5
returns-then-kind-eq5 c = c.if-kind-eq5.true

pub returns-else-kind-eq5 : goal.returns-else-kind-eq5
returns-else-kind-eq5 c = ⊎_elim (λ e. e) (λ e. absurd (c.if-kind-eq5.false e)) c.requires
