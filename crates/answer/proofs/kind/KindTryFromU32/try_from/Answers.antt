-- The kind of a number. Assumes nothing.
use mathlib.Core.Path.{◌≡◌, refl}
use mathlib.Core.Logic.{inl, inr}
use Prim.Native.Nat.{◌≤◌}
use native.Mathlib.Omega.{arith}
use Rattle.answer_matrix.specs.declared.Asked.TheVariants.{Check, Gates}
use Rattle.reply.proofs.DueFrom.{kind_search, kind_survey, kind_walk, kind_unknown}
use Rattle.answer_matrix.proofs.Requests.{asked_kind}
use Rattle.answer.proofs.kind.KindTryFromU32.try_from.Goals as goal

pub family-requires : goal.family-requires
family-requires c = c.in-1.is

pub returns-in-1 : goal.returns-in-1
returns-in-1 c = kind_search _ _ c.family.ensures

pub returns-in-2 : goal.returns-in-2
returns-in-2 c = asked_kind Check _ c.in-2.is

pub returns-in-3 : goal.returns-in-3
returns-in-3 c = kind_survey _ c.in-3.is

pub returns-in-4 : goal.returns-in-4
returns-in-4 c = asked_kind Gates _ c.in-4.is

pub returns-in-6 : goal.returns-in-6
returns-in-6 c = kind_walk _ c.in-6.is

pub returns-in_default : goal.returns-in_default
returns-in_default c =
    let other = c.in_default.in_default-own.rest in
    let one : c.args.number ≡ 1 → ⊥ = λ e. other.0.0.0.0.1 (inl e) in
    let five : c.args.number ≡ 5 → ⊥ = λ e. other.0.0.0.0.1 (inr e) in
    let none : 1 ≤ c.args.number → c.args.number ≤ 6 → ⊥ = λ l h. omega (arith, one, five, other.0.0.0.1, other.0.0.1, other.0.1, other.1) in
    (refl, none, λ r. kind_unknown _ r one other.0.0.0.1 other.0.0.1 other.0.1 five other.1)
