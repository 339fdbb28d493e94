-- `lightest::prefix::Search::branch`, `grow` and `extend` meet their contracts. Assumes nothing.
use mathlib.Core.Path.{◌≡◌, sym, ap, subst⁻¹, ◌∙◌}
use mathlib.Core.Bool.{true}
use Prim.Native.Nat.{ℕ, ◌+◌, ◌-◌, ◌*◌, ◌<◌}
use native.Mathlib.Nat.{lt_of_le_of_lt}
use native.Mathlib.Omega.{arith}
use lib.Dec.{lit<}
use lib.ListN.{length, take, set}
use borrow.Author.Tests.{eqb-true}
use Rattle.cuts.specs.Steps.Cuts.{may_stand}
use Rattle.cuts.proofs.Pruning.{OnlyLast, stand_not_next, stand_not_blocks, stand_both}
use Rattle.cuts.proofs.Families.{family_back, family_forced, forced_last, family_free}
use Rattle.lightest.specs.Steps.Prefix.{kept, is_heavier}
use Rattle.lightest.specs.Steps.Search.{cuts_in}
use Rattle.lightest.proofs.Prefixes.{AtPrefix, whole_at, at_whole, at_bound, level_fits, count_small, bound_small, letter_small, branch_left, branch_heavy, branch_heavier}
use Rattle.lightest.proofs.Prefixes.{in_field_next, in_field_suc, counts_next, counts_whole, at_next, whole_next, branch_whole}
use Rattle.lightest.proofs.Prefixes.{upto_none, upto_letter, upto_at, upto_more, upto_all, last_left, last_taken, last_row}
use Rattle.lightest.proofs.prefix.Search.+branch_extend_grow.Invariants.{thrice}
use Rattle.lightest.proofs.prefix.Search.+branch_extend_grow.Goals as goal

-- ---- branch

pub branch-returns-then-not-is_next : goal.branch-returns-then-not-is_next
branch-returns-then-not-is_next t c =
    branch_left (whole_at c.requires.0) c.requires.1
    (stand_not_next (cuts_in c.args.self.now) _ _ (sym c.is_next.ensures ∙ c.if-not-is_next.true))

pub branch-overflow_add-bound : goal.branch-overflow_add-bound
branch-overflow_add-bound t c =
    record { fits = omega (arith, letter_small (whole_at c.requires.0) c.requires.1, count_small (whole_at c.requires.0)) }

pub branch-overflow_mul-bound : goal.branch-overflow_mul-bound
branch-overflow_mul-bound t c = record { fits = lt_of_le_of_lt (bound_small (whole_at c.requires.0)) (lit< tt) }

pub branch-overflow_add-bound-2 : goal.branch-overflow_add-bound-2
branch-overflow_add-bound-2 t c =
    let at = whole_at c.requires.0 in
    record { fits = omega (arith, letter_small at c.requires.1, count_small at, bound_small at) }

pub branch-returns-then-is_heavier : goal.branch-returns-then-is_heavier
branch-returns-then-is_heavier t c =
    let s = c.args.self.now in
    let at = c.args.at in
    branch_heavier (whole_at c.requires.0) c.requires.1
    (ap (λ (x : ℕ). is_heavier c.args.best.now (at.count + x + s.least * (s.order - (at.level + 1)))) (sym c.count_of.ensures)
    ∙ (sym c.is_heavier.ensures ∙ c.if-is_heavier.true))

-- ---- grow

pub grow-overflow_add-next-2 : goal.grow-overflow_add-next-2
grow-overflow_add-next-2 t c =
    record { fits = omega (arith, letter_small (whole_at c.requires.0) c.requires.1, count_small (whole_at c.requires.0)) }

pub grow-is_heavy-requires : goal.grow-is_heavy-requires
grow-is_heavy-requires t c =
    let at = whole_at c.requires.0 in (
      omega (arith, at.inside),
      omega (arith, letter_small at c.requires.1, count_small at, bound_small at, c.requires.3),
      in_field_next at c.requires.1,
      counts_next at c.requires.1,
    )

pub grow-returns-then-is_heavy : goal.grow-returns-then-is_heavy
grow-returns-then-is_heavy t c =
    let at = whole_at c.requires.0 in
    branch_heavy at c.requires.1 (at_bound at c.requires.1 c.args.bound c.requires.3 (sym c.is_heavy.ensures ∙ c.if-is_heavy.true))

pub grow-blocks_pass-requires : goal.grow-blocks_pass-requires
grow-blocks_pass-requires t c =
    let at = whole_at c.requires.0 in
    (at.inside, at.brief.most, in_field_suc at c.requires.1)

pub grow-returns-then-not-blocks_pass : goal.grow-returns-then-not-blocks_pass
grow-returns-then-not-blocks_pass t c =
    let at = whole_at c.requires.0 in
    branch_left at c.requires.1
    (stand_not_blocks _ (family_back c.args.self.now.family c.args.self.now.table.polynomial c.args.self.now.order) _ _ (level_fits at) _ (sym c.blocks_pass.ensures ∙ c.if-not-blocks_pass.true))

pub grow-finish-requires : goal.grow-finish-requires
grow-finish-requires t c =
    let s = c.args.self.now in
    let at = whole_at c.requires.0 in
    let may : may_stand (cuts_in s) (take c.args.at.level c.args.at.row) c.args.a ≡ true =
    stand_both _ (family_back s.family s.table.polynomial s.order) _ _ (level_fits at) _ c.requires.2
    (sym c.blocks_pass.ensures ∙ c.if-not-blocks_pass.false) in
    (whole_next at c.requires.1 may c.if-next-self.true, counts_whole at c.requires.1 may c.if-next-self.true, at.holds)

pub grow-returns-then-next-self : goal.grow-returns-then-next-self
grow-returns-then-next-self t c =
    let s = c.args.self.now in
    let at = whole_at c.requires.0 in
    let may : may_stand (cuts_in s) (take c.args.at.level c.args.at.row) c.args.a ≡ true =
    stand_both _ (family_back s.family s.table.polynomial s.order) _ _ (level_fits at) _ c.requires.2
    (sym c.blocks_pass.ensures ∙ c.if-not-blocks_pass.false) in
    c.finish.ensures
    ∙ ap (kept s.table.polynomial s.order)
    (branch_whole at c.requires.1 may c.if-next-self.true (at_bound at c.requires.1 c.args.bound c.requires.3 (sym c.is_heavy.ensures ∙ c.if-is_heavy.false)))

pub grow-extend-requires : goal.grow-extend-requires
grow-extend-requires t c =
    let s = c.args.self.now in
    let at = whole_at c.requires.0 in
    let may : may_stand (cuts_in s) (take c.args.at.level c.args.at.row) c.args.a ≡ true =
    stand_both _ (family_back s.family s.table.polynomial s.order) _ _ (level_fits at) _ c.requires.2
    (sym c.blocks_pass.ensures ∙ c.if-not-blocks_pass.false) in
    let n = s.order in
    let level = c.args.at.level in
    let inside : level < n = at.inside in
    let same : thrice (n - level) ≡ t = c.decreases in
    let less : thrice (n - (level + 1)) + 2 < t = omega arith in (
      less,
      at_whole (subst⁻¹ (λ (x : ℕ). AtPrefix (cuts_in s) s.table.polynomial n s.letters.now s.counts.now s.least (level + 1) (set c.args.at.row level c.args.a) (c.args.at.count + x) c.args.best.now)
          c.count_of.ensures (at_next at c.requires.1 may c.if-next-self.false)),
    )

-- ---- extend

pub extend-returns-else-is_letter : goal.extend-returns-else-is_letter
extend-returns-else-is_letter t c =
    let s = c.args.self.now in
    let x = c.last_letter-a in
    let at = whole_at c.requires in
    let forced = sym c.is_forced.ensures ∙ c.if-is_forced.true in
    let last : c.args.at.level + 1 ≡ s.order = eqb-true _ _ (forced_last s.family _ forced) in
    let only : OnlyLast (cuts_in s) (take c.args.at.level c.args.at.row) x.result = family_forced s.family _ _ _ _ _ forced x.ensures in
    last_left at last x.result only (sym c.is_letter.ensures ∙ c.if-is_letter.false)

pub extend-branch-self-requires : goal.extend-branch-self-requires
extend-branch-self-requires t c =
    let s = c.args.self.now in
    let x = c.last_letter-a in
    let at = whole_at c.requires in
    let forced = sym c.is_forced.ensures ∙ c.if-is_forced.true in
    let last : c.args.at.level + 1 ≡ s.order = eqb-true _ _ (forced_last s.family _ forced) in
    let only : OnlyLast (cuts_in s) (take c.args.at.level c.args.at.row) x.result = family_forced s.family _ _ _ _ _ forced x.ensures in
    let n = s.order in
    let level = c.args.at.level in
    let same : thrice (n - level) + 2 ≡ t = c.decreases in
    let less : thrice (n - level) + 1 < t = omega arith in
    (less, (c.requires, last_taken at last x.result only (sym c.is_letter.ensures ∙ c.if-is_letter.true)))

pub extend-returns-then-is_letter : goal.extend-returns-then-is_letter
extend-returns-then-is_letter t c =
    let s = c.args.self.now in
    let x = c.last_letter-a in
    let at = whole_at c.requires in
    let forced = sym c.is_forced.ensures ∙ c.if-is_forced.true in
    let last : c.args.at.level + 1 ≡ s.order = eqb-true _ _ (forced_last s.family _ forced) in
    let only : OnlyLast (cuts_in s) (take c.args.at.level c.args.at.row) x.result = family_forced s.family _ _ _ _ _ forced x.ensures in
    last_row at last x.result only (sym c.is_letter.ensures ∙ c.if-is_letter.true) c.branch-self.new.best c.branch-self.ensures

pub extend-loop-a-init : goal.extend-loop-a-init
extend-loop-a-init t c = upto_none (whole_at c.requires)

pub extend-branch-self-requires-in-loop-a : goal.extend-branch-self-requires-in-loop-a
extend-branch-self-requires-in-loop-a t c =
    let n = c.args.self.now.order in
    let level = c.args.at.level in
    let at = whole_at c.requires in
    let l = c.loop-a in
    let same : thrice (n - level) + 2 ≡ t = c.decreases in
    let less : thrice (n - level) + 1 < t = omega arith in
    let letter = upto_letter at (λ a e. family_free c.args.self.now.family _ a _ _ (sym c.is_forced.ensures ∙ c.if-is_forced.false) e) l.a-index c.loop-a-test.true in
    (less, (at_whole (upto_at at l.a-index l.best l.invariant), letter))

pub extend-loop-a-preserved : goal.extend-loop-a-preserved
extend-loop-a-preserved t c =
    let l = c.loop-a in
    upto_more (whole_at c.requires) l.a-index l.best l.invariant c.loop-a-test.true c.branch-self-in-loop-a.new.best c.branch-self-in-loop-a.ensures

pub extend-returns : goal.extend-returns
extend-returns t c =
    let l = c.loop-a in
    let all : l.a-index ≡ length c.args.self.now.letters.now = omega arith in
    upto_all (whole_at c.requires) l.a-index all l.best l.invariant
