-- `walk::next::free_above` meets its contract. Assumes nothing.
use mathlib.Core.Path.{ap, ◌∙◌}
use Prim.Native.Nat.{ℕ, ◌<◌, ◌≤◌}
use native.Mathlib.Omega.{arith}
use lib.ListN.{length, get_or}
use Rattle.walk.proofs.Ranks.{rank_inside, found_at}
use Rattle.walk.proofs.next.free_above.Goals as goal
use Rattle.walk.proofs.next.free_above.Goals.{After-from-rank}

-- the rank is a place in the list, or its end
inside : (c : After-from-rank) → c.from-rank.result ≤ length c.args.letters.now
inside c =
    let byte : c.args.a < 256 = omega arith in
    rw (c.from-rank.ensures, c.from.ensures) (rank_inside c.requires c.args.a byte)

pub slice_bounds-first_free-start : goal.slice_bounds-first_free-start
slice_bounds-first_free-start c = inside c

pub slice_bounds-first_free-count : goal.slice_bounds-first_free-count
slice_bounds-first_free-count c = inside c

pub returns : goal.returns
returns c =
    let byte : c.args.a < 256 = omega arith in
    found_at c.requires c.args.used.now c.args.a c.from-rank.result byte
    (c.from-rank.ensures ∙ ap (λ (k : ℕ). get_or c.args.ranks.now k 0) c.from.ensures) c.first_free.result c.first_free.ensures
