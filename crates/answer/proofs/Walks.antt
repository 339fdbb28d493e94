-- Request Seven, of request texts. `walk_due`: what is due to a well-formed walk is its lines, or 9; `none_walked_exactly`: when it is 9.
-- `walk_answered`: what a call returns and leaves for a walk, whatever space is lent. `walk_tells`: what its lines say of the rows.
-- `finished_as_search`: beside the search of kind 1 with the same brief. `never_worse`: with a larger budget. Assumes nothing.
use mathlib.Core.Path.{◌≡◌, refl, sym, ap, ◌∙◌}
use mathlib.Core.Logic.{◌↔◌, ◌⊎◌, inl, inr}
use mathlib.Core.Bool.{Bool, true, false, cond, ◌&&◌, true≢false}
use mathlib.Core.List.{List, [], ◌∷◌, ◌++◌}
use Prim.Native.Nat.{ℕ, ◌≤◌, ◌<◌}
use native.Mathlib.Omega.{arith}
use borrow.Author.Tests.{leb-true, leb-false}
use lib.Dec.{leb}
use lib.ListN.{length, drop}
use Rattle.refusal.specs.Refusals.{fault, Answer, answer, answer_after}
use Rattle.refusal.specs.declared.Refusal.TheVariants.{NoRow as NoRowReason}
use Rattle.refusal.proofs.Faults.{after_taken, after_left, after_empty}
use Rattle.refusal.proofs.Tests.{or_none}
use Rattle.rows.specs.declared.Family.TheVariants.{Hadamard}
use Rattle.rows.specs.Lightest.{Best, nothing, found, member}
use Rattle.rows.specs.Candidates.{some_repeated, some_bad}
use Rattle.rows.specs.Shape.{hadamard_shape}
use Rattle.rows.specs.Keys.{lightest_row}
use Rattle.rows.proofs.Demands.{demand_three, demand_three_none}
use Rattle.rows.proofs.Bounds.{bound_not_beaten}
use Rattle.rows.proofs.Walks.{rows_tried_holds, finished_exactly, walk_best, walk_none, larger_budget, finished_lightest}
use Rattle.search.specs.Answer.{is_none}
use Rattle.text.specs.Text.{InForm, line_text, answer_text}
use Rattle.text.specs.Reading.{kind_of, polynomial_of, order_of, budget_of, values_of}
use Rattle.reply.specs.Due.{row_lines, due}
use Rattle.reply.specs.Answered.{number_returned, written_at, Answered}
use Rattle.answer.specs.Limits.{of_search, of_walk, StatedOf, not_in_form, of_request}
use Rattle.answer.specs.Demands.{WellFormedSearch, NoRow, DemandedBy, SearchDue, row_due, none_due, walk_in, walk_lines_in, walk_text, WellFormedWalk, NoneWalked, Walking, not_finished, is_finished, WalkDue, lines_due, nine_due, WalkAnswered, BestYet, row_yet, none_yet, WalkTells, SameBrief, AsSearch, NeverWorse}
use Rattle.answer.proofs.Demands.{told, bytes_left, refusal_length}
use Rattle.answer.proofs.Limits.{search_stated, walk_stated}
use Rattle.answer.proofs.WellFormed.{walk_nine, walk_passed}
use Rattle.answer.proofs.DemandThree.{one_row, demand_three_text, accepted_faultless, nine_faultless, none_exactly, nine_returned, not_refused}

-- ---- what is due

module _ (text : List ℕ) (w : WellFormedWalk text) where
  -- a finished walk's best row is the lightest row of the search
  finished_row : (walk_in text).finished ≡ true → (walk_in text).best ≡ lightest_row hadamard_shape (polynomial_of text) (order_of text) (values_of text)
  finished_row = finished_lightest _ _ _ (walk_passed text w).modulus (walk_passed text w).order (budget_of text)

  pub walk_due : WalkDue text (due text)
  unfolding NoRow
  walk_due = rw (walk_nine text w) (go (walk_in text).finished refl (walk_in text).best refl)
    where
      lines : List (List ℕ)
      lines = walk_lines_in text

      shown : (b : Bool) → b ≡ false → Walking text → WalkDue text (answer_after [] (fault 9 b ∷ []) lines)
      shown b e h =
          rw (← after_left {A = List (List ℕ)} [] lines 9 b [] e, ← after_empty {A = List (List ℕ)} [] lines) (lines_due h)

      go : (f : Bool) → (walk_in text).finished ≡ f → (b : Best) → (walk_in text).best ≡ b → WalkDue text (answer_after [] (fault 9 (f && is_none b) ∷ []) lines)
      go false e b q = shown false refl (not_finished e)
      go true e nothing q =
          rw (← after_taken {A = List (List ℕ)} [] lines NoRowReason true [] refl)
          (nine_due (record { finished = e; no_row = (demand_three_none Hadamard _ _ _ (walk_passed text w).fits).0 (sym (finished_row e) ∙ q) }))
      go true e (found r) q = shown false refl (is_finished e r (demand_three Hadamard _ _ _ (walk_passed text w).fits r (sym (finished_row e) ∙ q)) q)

-- a walk does not both end without a row and stand to be told
walking_apart : {text : List ℕ} → NoneWalked text → Walking text → ⊥
unfolding NoRow
walking_apart n (not_finished e) = true≢false (sym n.finished ∙ e)
walking_apart n (is_finished e r d q) = n.no_row r d.has

-- 9 is due exactly where it ends without a row
nine_of : {text : List ℕ} {d : Answer (List (List ℕ))} → WalkDue text d → (d.number ≡ 9) ↔ NoneWalked text
nine_of (lines_due h) = (λ e. let y : ⊥ = omega arith in absurd y, λ n. absurd (walking_apart n h))
nine_of (nine_due n) = (λ e. n, λ m. refl)

pub none_walked_exactly : (text : List ℕ) → ((kind_of text ≡ 6) × ((due text).number ≡ 9)) ↔ (WellFormedWalk text × NoneWalked text)
none_walked_exactly text = (
  λ (kind, e). let w : WellFormedWalk text = record { kind_is = kind; faultless = nine_faultless text e } in (w, (nine_of (walk_due text w)).0 e),
  λ (w, h). (w.kind_is, (nine_of (walk_due text w)).1 h),
)

-- ---- what a call returns and leaves

module _ {text space after : List ℕ} {number size : ℕ} (a : Answered text space after number size) where
  -- for a well-formed walk: 0 where the text of its lines fits, 10 where it does not; or 9
  data WalkReturns : Type 0 where
    lines_fit : Walking text → length (walk_text text) ≤ length space → number ≡ 0 → due text ≡ answer 0 (walk_lines_in text) → WalkReturns
    lines_long : Walking text → length space < length (walk_text text) → number ≡ 10 → WalkReturns
    none_left : NoneWalked text → number ≡ 9 → WalkReturns

  returns : WellFormedWalk text → WalkReturns
  returns w = go (walk_due text w) refl
    where
      returned : due text ≡ answer 0 (walk_lines_in text) → (t : Bool) → leb (length (walk_text text)) (length space) ≡ t → number ≡ cond t 0 10
      returned e t f =
          a.reply.number_is
          ∙ ap (λ (d : Answer (List (List ℕ))). number_returned d.number (leb (length (answer_text d.value)) (length space))) e
          ∙ ap (λ (t : Bool). cond t 0 10) f

      lines : due text ≡ answer 0 (walk_lines_in text) → Walking text → (t : Bool) → leb (length (walk_text text)) (length space) ≡ t → WalkReturns
      lines e h true f = lines_fit h (leb-true (length (walk_text text)) (length space) f) (returned e true f) e
      lines e h false f = lines_long h (leb-false (length (walk_text text)) (length space) f) (returned e false f)

      go : {d : Answer (List (List ℕ))} → WalkDue text d → due text ≡ d → WalkReturns
      go (lines_due h) e = lines e h (leb (length (walk_text text)) (length space)) refl
      go (nine_due n) e = none_left n ((nine_returned a).1 (ap (λ (d : Answer (List (List ℕ))). d.number) e))

  -- what each number tells
  with_zero : WalkReturns → number ≡ 0 → (Walking text × (length (walk_text text) ≤ length space)) × (due text ≡ answer 0 (walk_lines_in text))
  with_zero (lines_fit h l z e) q = ((h, l), e)
  with_zero (lines_long h l z) q = let y : ⊥ = omega arith in absurd y
  with_zero (none_left n z) q = let y : ⊥ = omega arith in absurd y

  with_ten : WalkReturns → number ≡ 10 → Walking text × (length space < length (walk_text text))
  with_ten (lines_fit h l z e) q = let y : ⊥ = omega arith in absurd y
  with_ten (lines_long h l z) q = (h, l)
  with_ten (none_left n z) q = let y : ⊥ = omega arith in absurd y

  fits_zero : WalkReturns → Walking text → length (walk_text text) ≤ length space → number ≡ 0
  fits_zero (lines_fit h l z e) g k = z
  fits_zero (lines_long h l z) g k = let y : ⊥ = omega arith in absurd y
  fits_zero (none_left n z) g k = absurd (walking_apart n g)

  long_ten : WalkReturns → Walking text → length space < length (walk_text text) → number ≡ 10
  long_ten (lines_fit h l z e) g k = let y : ⊥ = omega arith in absurd y
  long_ten (lines_long h l z) g k = z
  long_ten (none_left n z) g k = absurd (walking_apart n g)

  one_of : WalkReturns → (number ≡ 9) ⊎ ((number ≡ 0) ⊎ (number ≡ 10))
  one_of (lines_fit h l z e) = inr (inl z)
  one_of (lines_long h l z) = inr (inr z)
  one_of (none_left n z) = inl z

  formed : kind_of text ≡ 6 → (0 < number → number ≤ 8 → ⊥) → WellFormedWalk text
  formed kind h = record { kind_is = kind; faultless = not_refused a h }

  pub walk_answered : WalkAnswered text space after number size
  walk_answered =
      record {
        nine_exactly = (
          λ (kind, e). (none_walked_exactly text).0 (kind, (nine_returned a).0 e),
          λ h. let (kind, e) = (none_walked_exactly text).1 h in (kind, (nine_returned a).1 e),
        );
        zero_exactly = (
          λ (kind, z). let w = formed kind (λ h l. omega arith) in let (h, l) = (with_zero (returns w) z).0 in (w, h, l),
          λ (w, h, l). (w.kind_is, fits_zero (returns w) h l),
        );
        ten_exactly = (
          λ (kind, z). let w = formed kind (λ h l. omega arith) in let (h, l) = with_ten (returns w) z in (w, h, l),
          λ (w, h, l). (w.kind_is, long_ten (returns w) h l),
        );
        nothing_else = λ w. one_of (returns w);
        nine_leaves = λ kind z.
            (told a (λ e. omega arith) (λ e. omega arith) ∙ ap (λ (n : ℕ). written_at (line_text (n ∷ [])) space) z, refusal_length a (λ e. omega arith));
        zero_leaves = λ kind z.
            let s = (bytes_left a).zero_left z in
            let e = ap (λ (d : Answer (List (List ℕ))). answer_text d.value) (with_zero (returns (formed kind (λ h l. omega arith))) z).1 in
            (s.at_start ∙ ap (λ (t : List ℕ). t ++ drop size space) e, s.is_length ∙ ap length e);
        ten_leaves = λ kind z. ((bytes_left a).ten_left z, refusal_length a (λ e. omega arith));
      }

-- ---- what a walk tells of its rows

pub walk_tells : (text : List ℕ) → WellFormedWalk text → WalkTells text
walk_tells text w =
    record {
      tried = rows_tried_holds _ _ _ (budget_of text);
      finished_exactly = finished_exactly _ _ _ (budget_of text);
      best = yet (walk_in text).best refl;
      bound = bound_not_beaten _ _ (values_of text) (unfold some_bad in (or_none (member 0 (values_of text)) (some_repeated (values_of text)) (walk_passed text w).good).0);
    }
  where
    yet : (b : Best) → (walk_in text).best ≡ b → BestYet text b
    yet nothing e = none_yet ((walk_none _ _ _ (walk_passed text w).fits (budget_of text)).0 e)
    yet (found r) e = row_yet r ((walk_best _ _ _ (walk_passed text w).fits (budget_of text) r).0 e)

-- a larger budget never worsens the best row
pub never_worse : (text larger : List ℕ) → SameBrief text larger → budget_of text ≤ budget_of larger → NeverWorse text larger
never_worse text larger b l =
    record { kept = λ r e. rw (← b.polynomial_is, ← b.order_is, ← b.values_are) (larger_budget _ _ _ (budget_of text) (budget_of larger) l r e) }

-- ---- beside the search

module _ (walk search : List ℕ) (form : InForm walk) (form' : InForm search) (six : kind_of walk ≡ 6) (one : kind_of search ≡ 1) (b : SameBrief walk search) where
  -- what is stated of the one is stated of the other
  alike : (k : ℕ) → StatedOf walk k ↔ StatedOf search k
  alike k = (to, from)
    where
      to : {k : ℕ} → StatedOf walk k → StatedOf search k
      to (not_in_form h) = absurd (h form)
      to (of_request {k = k} s) = of_request (of_search {k = k} Hadamard one (rw (← b.polynomial_is, ← b.order_is, ← b.values_are) (walk_stated six s)))

      from : {k : ℕ} → StatedOf search k → StatedOf walk k
      from (not_in_form h) = absurd (h form')
      from (of_request {k = k} s) = of_request (of_walk {k = k} six (rw (b.polynomial_is, b.order_is, b.values_are) (search_stated Hadamard one s)))

  to_search : WellFormedWalk walk → WellFormedSearch Hadamard search
  to_search w = record { kind_is = one; faultless = λ k s. w.faultless k ((alike k).1 s) }

  to_walk : WellFormedSearch Hadamard search → WellFormedWalk walk
  to_walk w = record { kind_is = six; faultless = λ k s. w.faultless k ((alike k).0 s) }

  no_rows : NoRow Hadamard walk ↔ NoRow Hadamard search
  unfolding NoRow
  no_rows = (λ h. rw (← b.polynomial_is, ← b.order_is, ← b.values_are) h, λ h. rw (b.polynomial_is, b.order_is, b.values_are) h)

  -- the row that a finished walk has is that of the search
  row_of : {d d' : Answer (List (List ℕ))} → WalkDue walk d → SearchDue Hadamard search d' → WellFormedSearch Hadamard search → d.number ≡ 0 → (walk_in walk).finished ≡ true
      → (r : List ℕ) × ((walk_in walk).best ≡ found r) × (d' ≡ answer 0 (row_lines (polynomial_of walk) (order_of walk) r))
  unfolding NoRow
  row_of (lines_due (not_finished e)) s w z f = absurd (true≢false (sym f ∙ e))
  row_of (lines_due (is_finished e r d q)) (none_due h) w z f =
      let d' : DemandedBy Hadamard search r = rw (← b.polynomial_is, ← b.order_is, ← b.values_are) d in
      absurd (h r d'.has)
  row_of (lines_due (is_finished e r d q)) (row_due r' h) w z f =
      let d' : DemandedBy Hadamard search r = rw (← b.polynomial_is, ← b.order_is, ← b.values_are) d in
      (r, q, rw (b.polynomial_is, b.order_is, one_row Hadamard search w r r' d' h) refl)
  row_of (nine_due n) s w z f = let y : ⊥ = omega arith in absurd y

  pub finished_as_search : AsSearch walk search
  finished_as_search =
      record {
        stated_alike = alike;
        nine_alike = (
          λ e.
              let (w, n) = (none_walked_exactly walk).0 (six, e) in
              (((none_exactly Hadamard search).1 (to_search w, no_rows.0 n.no_row)).1, n.finished),
          λ (e, f).
              let (w, h) = (none_exactly Hadamard search).0 (one, e) in
              ((none_walked_exactly walk).1 (to_walk w, record { finished = f; no_row = no_rows.1 h })).1,
        );
        row_alike = λ e f.
            let w : WellFormedWalk walk = record { kind_is = six; faultless = accepted_faultless walk e } in
            row_of (walk_due walk w) (demand_three_text Hadamard search (to_search w)) (to_search w) e f;
      }
