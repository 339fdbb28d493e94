-- `rowfind::main` is safe and ends: what is lent lies within the two spaces. Assumes nothing.
use mathlib.Core.Path.{sym}
use Prim.Native.Nat.{◌≤◌}
use native.Mathlib.Omega.{arith}
use lib.ListN.{length, take, length-take}
use lib.Seq.{length-take-le}
use Rattle.answer.proofs.WholeInput.{whole_most}
use borrow.Author.Rules.{rules}
use Rattle.rowfind.proofs.main.Goals as goal
use Rattle.rowfind.proofs.main.Goals.{After-respond-shown}

-- no more is shown than the space has
shown_fits : (c : After-respond-shown) → c.respond-shown.result ≤ length c.respond-shown.new.space
shown_fits c =
    let few : length (take c.read_full-ended.new.done c.read_full-ended.new.buffer) ≤ 4097 = rw length-take (search rules) in
    whole_most 4097 few c.respond-shown.ensures

pub slice_bounds-space-end : goal.slice_bounds-space-end
slice_bounds-space-end c = omega (arith, shown_fits (goal.at.slice_bounds-space-end c).After-respond-shown)

pub slice_bounds-write_all-end : goal.slice_bounds-write_all-end
slice_bounds-write_all-end c = sym (length-take-le _ _ (shown_fits (goal.at.slice_bounds-write_all-end c).After-respond-shown))
