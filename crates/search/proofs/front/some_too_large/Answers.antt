-- `search::front::some_too_large` meets its contract. Assumes nothing.
use mathlib.Core.Path.{refl}
use Rattle.std.proofs.Common.{rules}
use Rattle.std.proofs.lemmas.List.Recursion.{or_is}
use Rattle.field.specs.Faults.{is_too_large}
use Rattle.rows.specs.Candidates.{some_too_large}
use Rattle.search.proofs.front.some_too_large.Goals as goal

pub returns : goal.returns
unfolding some_too_large
returns c = or_is (some_too_large c.args.field.polynomial) (is_too_large c.args.field.polynomial) refl (λ _ _. refl) c.args.values.now 0 _ (search rules) (search rules)
