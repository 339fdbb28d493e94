-- `lines::figure::greatest` meets its contract: after b turns r is the greatest of the first b. Assumes nothing.
use mathlib.Core.Path.{refl, sym, ap, ◌∙◌}
use Prim.Native.Nat.{ℕ, max}
use native.Mathlib.Numerals.{add-one}
use lib.ListN.{get_or}
use Rattle.lines.specs.Depths.{greatest}
use Rattle.lines.proofs.figure.greatest.Goals as goal

pub loop-t-init : goal.loop-t-init
unfolding greatest
loop-t-init c = refl

pub loop-t-preserved : goal.loop-t-preserved
unfolding greatest
loop-t-preserved c =
    let at = c.loop-t in
    let args = c.args in
    c.max-r.ensures
    ∙ ap (λ (x : ℕ). max x (get_or args.ones at.t-index 0)) at.invariant
    ∙ ap (λ (k : ℕ). greatest k (λ i. get_or args.ones i 0)) (sym (add-one at.t-index))
