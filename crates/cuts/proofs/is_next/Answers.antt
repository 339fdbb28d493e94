-- `cuts::is_next` meets its contract. Assumes nothing.
use mathlib.Core.Path.{sym, ap, ◌∙◌}
use lib.ListN.{take}
use Rattle.rows.specs.declared.Family.{Family}
use Rattle.cuts.specs.Steps.Families.{is_next_of}
use Rattle.cuts.proofs.is_next.Goals as goal

-- `search` finds this too; of a wrong function it gives up at a limit
pub returns-in-Circulant : goal.returns-in-Circulant
returns-in-Circulant c =
    let a = c.args in
    c.is_next-in-Circulant.ensures ∙ ap (λ (f : Family). is_next_of f a.n (take a.level a.row) a.a) (sym c.in-Circulant.is)
