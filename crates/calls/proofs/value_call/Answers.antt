-- `calls::value_call` meets its contract: each call stands at its number. Assumes nothing.
use mathlib.Core.Path.{refl}
use mathlib.Core.List.{List}
use Prim.Native.Nat.{ℕ, ◌<◌}
use Rattle.refusal.specs.Refusals.{Answer}
use Rattle.calls.specs.Replies.{no_answer, value_answers}
use Rattle.calls.proofs.Numbered.{at_number, unnumbered, five_more}
use Rattle.calls.proofs.value_call.Goals as goal
use Rattle.calls.proofs.value_call.Goals.{Start}

-- the answers of all calls
abbrev listed : Start → List (Answer ℕ)
listed s = value_answers s.args.call.p s.args.call.a s.args.call.b s.args.call.m s.args.call.x

pub returns-in-1 : goal.returns-in-1
unfolding value_answers
returns-in-1 c = at_number (listed (goal.at.returns-in-1 c).Start) no_answer c.in-1.is c.checked_degree.ensures

pub returns-in-2 : goal.returns-in-2
unfolding value_answers
returns-in-2 c = at_number (listed (goal.at.returns-in-2 c).Start) no_answer c.in-2.is c.checked_product.ensures

pub returns-in-3 : goal.returns-in-3
unfolding value_answers
returns-in-3 c = at_number (listed (goal.at.returns-in-3 c).Start) no_answer c.in-3.is c.checked_inverse.ensures

pub returns-in-4 : goal.returns-in-4
unfolding value_answers
returns-in-4 c = at_number (listed (goal.at.returns-in-4 c).Start) no_answer c.in-4.is c.checked_xor_count.ensures

pub returns-in-5 : goal.returns-in-5
unfolding value_answers
returns-in-5 c = at_number (listed (goal.at.returns-in-5 c).Start) no_answer c.in-5.is c.checked_determinant.ensures

pub returns-in-6 : goal.returns-in-6
unfolding value_answers
returns-in-6 c = at_number (listed (goal.at.returns-in-6 c).Start) no_answer c.in-6.is c.checked_branch_number.ensures

pub returns-in-7 : goal.returns-in-7
unfolding value_answers
returns-in-7 c = at_number (listed (goal.at.returns-in-7 c).Start) no_answer c.in-7.is c.checked_mds.ensures

pub returns-in-8 : goal.returns-in-8
unfolding value_answers
returns-in-8 c = at_number (listed (goal.at.returns-in-8 c).Start) no_answer c.in-8.is c.checked_involution.ensures

pub returns-in-9 : goal.returns-in-9
unfolding value_answers
returns-in-9 c = at_number (listed (goal.at.returns-in-9 c).Start) no_answer c.in-9.is c.checked_matrix_count.ensures

pub returns-in-10 : goal.returns-in-10
unfolding value_answers
returns-in-10 c = at_number (listed (goal.at.returns-in-10 c).Start) no_answer c.in-10.is c.checked_row_count.ensures

pub returns-in_default : goal.returns-in_default
unfolding value_answers
returns-in_default c =
    let call = c.args.call.number in
    let six = c.in_default.in_default-own.rest in
    let one = six.0.0.0.0.0 in
    unnumbered (listed (goal.at.returns-in_default c).Start) no_answer call refl
    (λ (h : 0 < call).
    five_more 5 call (five_more 0 call h one.0.0.0.0.1 one.0.0.0.1 one.0.0.1 one.0.1 one.1)
    six.0.0.0.0.1 six.0.0.0.1 six.0.0.1 six.0.1 six.1)
