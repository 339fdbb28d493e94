-- `calls::reply_to` meets its contract: each call stands at its number. Assumes nothing.
use mathlib.Core.Path.{◌≡◌, ap, ◌∙◌}
use mathlib.Core.List.{List}
use Prim.Native.Nat.{ℕ, zero, suc, ◌+◌, ◌<◌}
use native.Mathlib.Omega.{arith}
use lib.ListN.{drop}
use Rattle.calls.specs.Replies.{value_reply, words_reply, check_reply, search_reply, walk_reply, no_answer, value_answers, replies, reply_to}
use Rattle.calls.proofs.Numbered.{at_number, values_kept}
use Rattle.calls.proofs.reply_to.Goals as goal
use Rattle.calls.proofs.reply_to.Goals.{Start}

-- the replies of all calls
abbrev listed : Start → List (List ℕ)
listed s = replies s.args.call.p s.args.call.a s.args.call.b s.args.call.m s.args.call.x s.args.candidates.now s.args.call.budget

pub returns-in-11 : goal.returns-in-11
unfolding reply_to replies value_answers
returns-in-11 c =
    at_number (listed (goal.at.returns-in-11 c).Start) (value_reply no_answer) c.in-11.is
    (c.words_reply.ensures ∙ ap words_reply c.checked_plain.ensures)

pub returns-in-12 : goal.returns-in-12
unfolding reply_to replies value_answers
returns-in-12 c =
    at_number (listed (goal.at.returns-in-12 c).Start) (value_reply no_answer) c.in-12.is
    (c.words_reply-in-12.ensures ∙ ap words_reply c.checked_halved.ensures)

pub returns-in-13 : goal.returns-in-13
unfolding reply_to replies value_answers
returns-in-13 c =
    at_number (listed (goal.at.returns-in-13 c).Start) (value_reply no_answer) c.in-13.is
    (c.check_reply.ensures ∙ ap check_reply c.checked_check.ensures)

pub returns-in-14 : goal.returns-in-14
unfolding reply_to replies value_answers
returns-in-14 c =
    at_number (listed (goal.at.returns-in-14 c).Start) (value_reply no_answer) c.in-14.is
    (c.search_reply.ensures ∙ ap search_reply c.search_for.ensures)

pub returns-in-15 : goal.returns-in-15
unfolding reply_to replies value_answers
returns-in-15 c =
    at_number (listed (goal.at.returns-in-15 c).Start) (value_reply no_answer) c.in-15.is
    (c.search_reply-in-15.ensures ∙ ap search_reply c.search_for-in-15.ensures)

pub returns-in-16 : goal.returns-in-16
unfolding reply_to replies value_answers
returns-in-16 c =
    at_number (listed (goal.at.returns-in-16 c).Start) (value_reply no_answer) c.in-16.is
    (c.walk_reply.ensures ∙ ap walk_reply c.best_yet.ensures.answer)

-- a call that is none of the six behind the values
none_of : (call : ℕ) → (call ≡ 11 → ⊥) → (call ≡ 12 → ⊥) → (call ≡ 13 → ⊥) → (call ≡ 14 → ⊥) → (call ≡ 15 → ⊥) → (call ≡ 16 → ⊥)
    → (k : ℕ) → k < 6 → call ≡ 11 + k → ⊥
none_of call a b c d e f zero l q = a (omega arith)
none_of call a b c d e f (suc zero) l q = b (omega arith)
none_of call a b c d e f (suc (suc zero)) l q = c (omega arith)
none_of call a b c d e f (suc (suc (suc zero))) l q = d (omega arith)
none_of call a b c d e f (suc (suc (suc (suc zero)))) l q = e (omega arith)
none_of call a b c d e f (suc (suc (suc (suc (suc k))))) l q = f (omega arith)

pub returns-in_default : goal.returns-in_default
unfolding reply_to replies value_answers
returns-in_default c =
    let other = c.in_default.in_default-own.rest in
    c.value_reply.ensures
    ∙ ap value_reply c.value_call.ensures
    ∙ values_kept (value_answers c.args.call.p c.args.call.a c.args.call.b c.args.call.m c.args.call.x) (drop 11 (listed (goal.at.returns-in_default c).Start)) c.args.call.number
    (none_of c.args.call.number other.0.0.0.0.0.1 other.0.0.0.0.1 other.0.0.0.1 other.0.0.1 other.0.1 other.1)
