-- Demand 1's refusals. `nine_answered`: 9 is returned to searches and walks alone, where it applies. `lowest_refusal`: the number is the lowest that
-- applies, by document 01's list. Assumes nothing.
use mathlib.Core.Path.{◌≡◌, sym, ◌∙◌}
use mathlib.Core.Logic.{⊎_elim}
use mathlib.Core.List.{List}
use Prim.Native.Nat.{ℕ, ◌≤◌, ◌<◌}
use native.Mathlib.Omega.{arith}
use Rattle.refusal.specs.Refusals.{Applies}
use Rattle.refusal.proofs.Faults.{first_applies, applies_most, none_first}
use Rattle.algebra.proofs.Sums.{le_or_lt}
use Rattle.rows.specs.declared.Family.{Family}
use Rattle.text.specs.Reading.{kind_of}
use Rattle.reply.specs.Due.{search_number, faults_of, due}
use Rattle.reply.specs.Answered.{Answered}
use Rattle.answer.specs.Limits.{StatedOf}
use Rattle.answer.specs.Demands.{NineStated, none_searched, none_walked, Faultless, Lowest, refused, none, accepted, too_short}
use Rattle.answer.proofs.EveryKind.{faults_to_nine, nine_is_search, due_number}
use Rattle.answer.proofs.Demands.{FirstFault, at_fault, with_room, without_room, first_fault}
use Rattle.answer.proofs.Limits.{limits_exactly, stated_applies}
use Rattle.answer.proofs.DemandThree.{nine_faultless, none_exactly, nine_returned}
use Rattle.answer.proofs.Walks.{none_walked_exactly}

module _ (text : List ℕ) where
  -- 9 is due only where it applies
  pub nine_stated : (due text).number ≡ 9 → NineStated text
  nine_stated e =
      ⊎_elim
      (λ (s : (family : Family) × (kind_of text ≡ search_number family)). none_searched s.0 s.1 ((none_exactly s.0 text).0 (s.1, e)).1)
      (λ (six : kind_of text ≡ 6). none_walked six ((none_walked_exactly text).0 (six, e)).1)
      (nine_is_search text (first_applies (faults_of text) 8 (sym (due_number text) ∙ e)))

  -- and everywhere, if nothing else is stated
  stated_nine : ((k : ℕ) → StatedOf text k → ⊥) → NineStated text → (due text).number ≡ 9
  stated_nine clear (none_searched family kind h) = ((none_exactly family text).1 (record { kind_is = kind; faultless = clear }, h)).1
  stated_nine clear (none_walked six h) = ((none_walked_exactly text).1 (record { kind_is = six; faultless = clear }, h)).1

  -- without a fault none of 1 to 9 applies
  no_fault : ((k : ℕ) → Applies (faults_of text) k → ⊥) → Faultless text
  no_fault clear =
      let unstated : (k : ℕ) → StatedOf text k → ⊥ = λ k s. clear k (stated_applies s) in
      record {
        none_stated = unstated;
        not_nine = λ n.
            let nine = stated_nine unstated n in
            let zero = due_number text ∙ none_first (faults_of text) clear in
            omega arith;
      }

module _ {text space after : List ℕ} {number size : ℕ} (a : Answered text space after number size) where
  -- 9 is returned to searches and walks alone
  pub nine_answered : number ≡ 9 → NineStated text
  nine_answered e = nine_stated text ((nine_returned a).0 e)

  pub lowest_refusal : Lowest text space number
  lowest_refusal = go (first_fault a)
    where
      go : FirstFault text space number → Lowest text space number
      go (at_fault x low) =
          ⊎_elim (λ (l : number ≤ 8). refused ((limits_exactly text number l).0 x) (λ k s. low k (stated_applies s)))
          (λ (l : 8 < number).
          let most = applies_most 9 (faults_of text) (faults_to_nine text) number x in
          let e : number ≡ 9 = omega arith in
          none (nine_faultless text ((nine_returned a).0 e)) (nine_answered e) e)
          (le_or_lt number 8)
      go (with_room clear fit z) = accepted (no_fault text clear) fit z
      go (without_room clear short z) = too_short (no_fault text clear) short z
