-- `field::times` meets its contract. Assumes nothing.
use Rattle.field.proofs.ProductTable.{looked_up}
use borrow.Author.Rules.{rules}
use Rattle.field.proofs.times.Goals as goal

pub returns : goal.returns
returns c = looked_up _ _ _ _ (search rules) (search rules) c.requires.0 c.requires.1
