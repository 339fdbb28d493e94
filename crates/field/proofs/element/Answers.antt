-- `field::element` meets its contract: an element fits a byte. Assumes nothing.
use mathlib.Core.Path.{sym, ◌∙◌}
use Rattle.field.proofs.Calls.{element_fits}
use Rattle.field.proofs.element.Goals as goal

pub overflow_cast-result : goal.overflow_cast-result
overflow_cast-result c =
    record { fits = element_fits c.args.field.polynomial c.args.a c.args.field.modulus (sym c.too_large.ensures ∙ c.if-too_large.false) }
