-- Demand 3, of request texts. `demand_three_text`: what is due to a well-formed search is the demanded row, or 9.
-- `accepted_search` and `accepted_row`: a search that is answered with lines is well formed, and they are those of the demanded row.
-- `none_exactly`: 9 is due to a search exactly if it is well formed and no row over its candidates has what is asked. `search_answered`: what a
-- call returns and leaves for a search, whatever space is lent; `none_answered`: its part on 9. Each of them for both families.
-- Assumes nothing.
use mathlib.Core.Path.{◌≡◌, refl, sym, ap, ◌∙◌}
use mathlib.Core.Logic.{◌↔◌, ◌⊎◌, inl, inr}
use mathlib.Core.Bool.{Bool, true, false, cond}
use mathlib.Core.List.{List, [], ◌∷◌, ◌++◌}
use Prim.Native.Nat.{ℕ, zero, suc, ◌≤◌, ◌<◌}
use native.Mathlib.Omega.{arith}
use borrow.Author.Tests.{leb-true, leb-false}
use lib.Dec.{leb}
use lib.ListN.{length, drop}
use Rattle.refusal.specs.Refusals.{fault, first_number, Applies, Answer, answer_after}
use Rattle.refusal.proofs.Faults.{first_none, first_lowest, applies_above, after_taken, after_left, after_empty}
use Rattle.refusal.specs.declared.Refusal.TheVariants.{NoRow as NoRowReason}
use Rattle.rows.specs.declared.Family.{Family}
use Rattle.rows.specs.Lightest.{Best, nothing, found}
use Rattle.rows.proofs.Demands.{demand_three, demand_three_none, demand_three_only}
use Rattle.search.specs.Answer.{is_none}
use Rattle.text.specs.Text.{line_text, answer_text}
use Rattle.text.specs.Reading.{kind_of, polynomial_of, order_of}
use Rattle.reply.specs.Due.{search_number, row_lines, best_lines, faults_of, due}
use Rattle.reply.specs.Answered.{number_returned, length_returned, written_at, Replied, Answered}
use Rattle.answer.specs.Limits.{StatedOf}
use Rattle.answer.specs.Demands.{WellFormedSearch, NoRow, DemandedBy, row_text, SearchDue, row_due, none_due, RowFits, RowTooLong, RowStands, SearchAnswered}
use Rattle.answer.proofs.EveryKind.{faults_numbered, faults_ascend, due_number}
use Rattle.answer.proofs.Demands.{FirstFault, at_fault, with_room, without_room, first_fault}
use Rattle.answer.proofs.Limits.{faultless_exactly}
use Rattle.answer.proofs.WellFormed.{best, only_nine, passed}

-- ---- a well-formed search

module _ (family : Family) (text : List ℕ) (w : WellFormedSearch family text) where
  -- only one row is demanded
  pub one_row : (r s : List ℕ) → DemandedBy family text r → DemandedBy family text s → r ≡ s
  one_row r s d e =
      let q = demand_three_only family _ _ _ (passed family text w).fits r d in
      let q' = demand_three_only family _ _ _ (passed family text w).fits s e in
      cc

  -- so its text does not both fit a space and exceed it
  not_both : {space : List ℕ} → RowFits family text space → RowTooLong family text space → ⊥
  not_both f g =
      let e = ap (λ (r : List ℕ). length (row_text text r)) (one_row f.row g.row f.demanded g.demanded) in
      omega (arith, f.fits, g.too_long)

  pub demand_three_text : SearchDue family text (due text)
  unfolding NoRow
  demand_three_text = rw (only_nine family text w) (go (best family text) refl)
    where
      rows : List ℕ → List (List ℕ)
      rows = row_lines (polynomial_of text) (order_of text)

      go : (b : Best) → best family text ≡ b → SearchDue family text (answer_after [] (fault 9 (is_none b) ∷ []) (best_lines (polynomial_of text) (order_of text) b))
      go nothing e =
          rw (← after_taken {A = List (List ℕ)} [] [] NoRowReason true [] refl) (none_due ((demand_three_none family _ _ _ (passed family text w).fits).0 e))
      go (found r) e =
          rw (← after_left {A = List (List ℕ)} [] (rows r) 9 false [] refl, ← after_empty {A = List (List ℕ)} [] (rows r))
          (row_due r (demand_three family _ _ _ (passed family text w).fits r e))

-- ---- what is answered

-- what is due without a refusal: nothing is stated of the text
pub accepted_faultless : (text : List ℕ) → (due text).number ≡ 0 → (k : ℕ) → StatedOf text k → ⊥
accepted_faultless text e =
    (faultless_exactly text).1 (λ k a l. first_none (faults_of text) (faults_numbered text) (sym (due_number text) ∙ e) k a)

pub accepted_search : (family : Family) (text : List ℕ) → kind_of text ≡ search_number family → (due text).number ≡ 0 → WellFormedSearch family text
accepted_search family text kind e =
    record { kind_is = kind; faultless = accepted_faultless text e }

pub accepted_row : (family : Family) (text : List ℕ) → kind_of text ≡ search_number family → (due text).number ≡ 0
    → (r : List ℕ) × DemandedBy family text r × ((due text).value ≡ row_lines (polynomial_of text) (order_of text) r)
accepted_row family text kind e = go (demand_three_text family text (accepted_search family text kind e)) e
  where
    go : {d : Answer (List (List ℕ))} → SearchDue family text d → d.number ≡ 0
        → (r : List ℕ) × DemandedBy family text r × (d.value ≡ row_lines (polynomial_of text) (order_of text) r)
    go (row_due r h) z = (r, h, refl)
    go (none_due h) z = let y : ⊥ = omega arith in absurd y

-- ---- 9

-- nothing is stated of a text to which 9 is due
pub nine_faultless : (text : List ℕ) → (due text).number ≡ 9 → (k : ℕ) → StatedOf text k → ⊥
nine_faultless text e =
    let nine : first_number (faults_of text) ≡ 9 = sym (due_number text) ∙ e in
    (faultless_exactly text).1
    (λ k a l. let lowest : first_number (faults_of text) ≤ k = first_lowest 0 (faults_of text) (faults_ascend text) k a in omega arith)

-- what is due to a search is 9 exactly if no row has what is asked
nine_of : {family : Family} {text : List ℕ} {d : Answer (List (List ℕ))} → SearchDue family text d → (d.number ≡ 9) ↔ NoRow family text
unfolding NoRow
nine_of (row_due r h) = (λ e. let y : ⊥ = omega arith in absurd y, λ f. absurd (f r h.has))
nine_of (none_due f) = (λ e. f, λ g. refl)

pub none_exactly : (family : Family) (text : List ℕ)
    → ((kind_of text ≡ search_number family) × ((due text).number ≡ 9)) ↔ (WellFormedSearch family text × NoRow family text)
none_exactly family text = (
  λ (kind, e). let w : WellFormedSearch family text = record { kind_is = kind; faultless = nine_faultless text e } in (w, (nine_of (demand_three_text family text w)).0 e),
  λ (w, h). (w.kind_is, (nine_of (demand_three_text family text w)).1 h),
)

-- it is returned exactly where it is due, whatever space is lent
returned_nine : (m : ℕ) (fits : Bool) → (number_returned m fits ≡ 9) ↔ (m ≡ 9)
returned_nine zero true = (λ e. let y : ⊥ = omega arith in absurd y, λ e. let y : ⊥ = omega arith in absurd y)
returned_nine zero false = (λ e. let y : ⊥ = omega arith in absurd y, λ e. let y : ⊥ = omega arith in absurd y)
returned_nine (suc m) fits = (λ e. e, λ e. e)

-- ---- what a call returns and leaves

module _ {text space after : List ℕ} {number size : ℕ} (a : Answered text space after number size) where
  pub nine_returned : (number ≡ 9) ↔ ((due text).number ≡ 9)
  nine_returned =
      let told = returned_nine (due text).number _ in
      (λ e. told.0 (sym a.reply.number_is ∙ e), λ e. a.reply.number_is ∙ told.1 e)

  -- of a text that is not refused with 1 to 8 nothing is stated
  pub not_refused : (0 < number → number ≤ 8 → ⊥) → (k : ℕ) → StatedOf text k → ⊥
  not_refused h = (faultless_exactly text).1 (go (first_fault a))
    where
      go : FirstFault text space number → (k : ℕ) → Applies (faults_of text) k → k ≤ 8 → ⊥
      go (at_fault x low) k y l = let least = low k y in h (applies_above 0 (faults_of text) (faults_ascend text) number x) (omega arith)
      go (with_room clear fit z) k y l = clear k y
      go (without_room clear short z) k y l = clear k y

-- for a well-formed search: 0 and the text of the row demanded where it fits, 10 where it does not; or 9 and its line
data SearchLeaves (family : Family) (text space after : List ℕ) (number size : ℕ) : Type 0 where
  row_left : RowFits family text space → number ≡ 0 → RowStands family text space after size → SearchLeaves family text space after number size
  short_left : RowTooLong family text space → number ≡ 10 → (after ≡ space) × (size ≡ 0) → SearchLeaves family text space after number size
  none_left : NoRow family text → number ≡ 9 → (after ≡ written_at (line_text (9 ∷ [])) space) × (size ≡ 0) → SearchLeaves family text space after number size

module _ {family : Family} {text space after : List ℕ} {number size : ℕ} where
  left_by : {d : Answer (List (List ℕ))} → SearchDue family text d → Replied d space after number size → SearchLeaves family text space after number size
  left_by (none_due h) l = none_left h l.number_is (l.bytes, l.size_is ∙ ap (λ (k : ℕ). length_returned k (length (answer_text []))) l.number_is)
  left_by (row_due r h) l = go (leb long (length space)) refl
    where
      long : ℕ
      long = length (row_text text r)

      size_at : (k : ℕ) → number ≡ k → size ≡ length_returned k long
      size_at k z = l.size_is ∙ ap (λ (k : ℕ). length_returned k long) z

      bytes_at : (t : Bool) → leb long (length space) ≡ t → after ≡ cond t (row_text text r ++ drop long space) space
      bytes_at t f =
          l.bytes
          ∙ ap (λ (t : Bool). cond t (row_text text r ++ drop long space) space) f

      go : (t : Bool) → leb long (length space) ≡ t → SearchLeaves family text space after number size
      go true f =
          let z : number ≡ 0 = l.number_is ∙ ap (λ (t : Bool). cond t 0 10) f in
          row_left (record { row = r; demanded = h; fits = leb-true long (length space) f }) z
          (record { row = r; demanded = h; at_start = bytes_at true f; is_length = size_at 0 z })
      go false f =
          let z : number ≡ 10 = l.number_is ∙ ap (λ (t : Bool). cond t 0 10) f in
          short_left (record { row = r; demanded = h; too_long = leb-false long (length space) f }) z (bytes_at false f, size_at 10 z)

  -- what each number tells
  with_nine : SearchLeaves family text space after number size → number ≡ 9 → (after ≡ written_at (line_text (9 ∷ [])) space) × (size ≡ 0)
  with_nine (row_left f z s) e = let y : ⊥ = omega arith in absurd y
  with_nine (short_left f z s) e = let y : ⊥ = omega arith in absurd y
  with_nine (none_left f z s) e = s

  with_zero : SearchLeaves family text space after number size → number ≡ 0 → RowFits family text space × RowStands family text space after size
  with_zero (row_left f z s) e = (f, s)
  with_zero (short_left f z s) e = let y : ⊥ = omega arith in absurd y
  with_zero (none_left f z s) e = let y : ⊥ = omega arith in absurd y

  with_ten : SearchLeaves family text space after number size → number ≡ 10 → RowTooLong family text space × ((after ≡ space) × (size ≡ 0))
  with_ten (row_left f z s) e = let y : ⊥ = omega arith in absurd y
  with_ten (short_left f z s) e = (f, s)
  with_ten (none_left f z s) e = let y : ⊥ = omega arith in absurd y

  one_of : SearchLeaves family text space after number size → (number ≡ 9) ⊎ ((number ≡ 0) ⊎ (number ≡ 10))
  one_of (row_left f z s) = inr (inl z)
  one_of (short_left f z s) = inr (inr z)
  one_of (none_left f z s) = inl z

  fits_zero : WellFormedSearch family text → SearchLeaves family text space after number size → RowFits family text space → number ≡ 0
  unfolding NoRow
  fits_zero w (row_left f z s) g = z
  fits_zero w (short_left f z s) g = absurd (not_both family text w g f)
  fits_zero w (none_left f z s) g = absurd (f g.row g.demanded.has)

  long_ten : WellFormedSearch family text → SearchLeaves family text space after number size → RowTooLong family text space → number ≡ 10
  unfolding NoRow
  long_ten w (row_left f z s) g = absurd (not_both family text w f g)
  long_ten w (short_left f z s) g = z
  long_ten w (none_left f z s) g = absurd (f g.row g.demanded.has)

  pub search_answered : Answered text space after number size → SearchAnswered family text space after number size
  search_answered a =
      record {
        nine_exactly = nine;
        zero_exactly = (λ (kind, z). let w = at_zero kind z in (w, (with_zero (left w) z).0), λ (w, f). (w.kind_is, fits_zero w (left w) f));
        ten_exactly = (λ (kind, z). let w = at_ten kind z in (w, (with_ten (left w) z).0), λ (w, f). (w.kind_is, long_ten w (left w) f));
        nothing_else = λ w. one_of (left w);
        nine_leaves = λ kind z. with_nine (left (nine.0 (kind, z)).0) z;
        zero_leaves = λ kind z. (with_zero (left (at_zero kind z)) z).1;
        ten_leaves = λ kind z. (with_ten (left (at_ten kind z)) z).1;
      }
    where
      left : WellFormedSearch family text → SearchLeaves family text space after number size
      left w = left_by (demand_three_text family text w) a.reply

      at_zero : kind_of text ≡ search_number family → number ≡ 0 → WellFormedSearch family text
      at_zero kind z = record { kind_is = kind; faultless = not_refused a (λ h l. omega arith) }

      at_ten : kind_of text ≡ search_number family → number ≡ 10 → WellFormedSearch family text
      at_ten kind z = record { kind_is = kind; faultless = not_refused a (λ h l. omega arith) }

      nine : ((kind_of text ≡ search_number family) × (number ≡ 9)) ↔ (WellFormedSearch family text × NoRow family text)
      nine = (
        λ (kind, e). (none_exactly family text).0 (kind, (nine_returned a).0 e),
        λ h. let (kind, e) = (none_exactly family text).1 h in (kind, (nine_returned a).1 e),
      )

  pub none_answered : Answered text space after number size → WellFormedSearch family text → (number ≡ 9) ↔ NoRow family text
  none_answered a w = let nine = (search_answered a).nine_exactly in (λ e. (nine.0 (w.kind_is, e)).1, λ h. (nine.1 (w, h)).1)
