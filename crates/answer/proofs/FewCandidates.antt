-- A well-formed search for a Hadamard matrix with fewer candidates than the order is answered 9, whatever space is lent. So is a walk: it is
-- finished with no row tried (`few_walked`). Assumes nothing.
use mathlib.Core.Path.{◌≡◌, refl}
use mathlib.Core.Bool.{true}
use mathlib.Core.List.{List, [], ◌∷◌, Memᴰ}
use Prim.Native.Nat.{ℕ, ◌^◌, ◌<◌}
use native.Mathlib.Omega.{arith}
use lib.ListN.{length}
use Rattle.field.specs.Polynomial.{degree}
use Rattle.rows.specs.declared.Family.TheVariants.{Hadamard}
use Rattle.rows.proofs.Rows.{mem_rows}
use Rattle.rows.proofs.FewCandidates.{few_candidates}
use Rattle.rows.proofs.Arrangements.{mem_arrangements, different_few}
use Rattle.rows.proofs.Walks.{rows_tried_holds, finished_exactly}
use Rattle.text.specs.Reading.{polynomial_of, order_of, budget_of, values_of}
use Rattle.reply.specs.Due.{due}
use Rattle.reply.specs.Answered.{Answered}
use Rattle.answer.specs.Demands.{WellFormedSearch, NoRow, walk_in, WellFormedWalk, rows_in}
use Rattle.answer.proofs.WellFormed.{passed, walk_passed}
use Rattle.answer.proofs.DemandThree.{none_exactly, none_answered}
use Rattle.answer.proofs.Walks.{none_walked_exactly}

-- no row over so few candidates has both properties
few_none : (text : List ℕ) → WellFormedSearch Hadamard text → length (values_of text) < order_of text → NoRow Hadamard text
unfolding NoRow
few_none text w few r b =
    let s = passed Hadamard text w in
    omega (arith, few, few_candidates (polynomial_of text) (order_of text) s.modulus s.order (values_of text) s.fits r b)

-- 9 is due
pub few_candidates_nine : (text : List ℕ) → WellFormedSearch Hadamard text → length (values_of text) < order_of text → (due text).number ≡ 9
few_candidates_nine text w few = ((none_exactly Hadamard text).1 (w, few_none text w few)).1

-- and 9 is returned
pub few_candidates_answered : {text space after : List ℕ} {number size : ℕ} → Answered text space after number size → WellFormedSearch Hadamard text
    → length (values_of text) < order_of text → number ≡ 9
few_candidates_answered {text} a w few = (none_answered a w).1 (few_none text w few)

-- ---- a walk

-- there is no row of so few different candidates
few_rows : (text : List ℕ) → length (values_of text) < order_of text → length (rows_in text) ≡ 0
few_rows text few = go (rows_in text) (λ r m. m)
  where
    go : (rows : List (List ℕ)) → ((r : List ℕ) → Memᴰ r rows → Memᴰ r (rows_in text)) → length rows ≡ 0
    go [] h = refl
    go (r ∷ rest) h =
        let (m, different) = (mem_arrangements (polynomial_of text) (order_of text) (values_of text) r).0 (h r (Memᴰ.head refl)) in
        let (long, over) = (mem_rows (2 ^ degree (polynomial_of text)) (values_of text) (order_of text) r).0 m in
        let z : ⊥ = omega (arith, long, different_few (values_of text) r different (λ a i. (over a i).0)) in
        absurd z

-- so a walk is finished with no row tried, whatever its budget, and 9 is due
pub few_walked : (text : List ℕ) → WellFormedWalk text → length (values_of text) < order_of text
    → ((walk_in text).rows_tried ≡ 0) × ((walk_in text).finished ≡ true) × ((due text).number ≡ 9)
unfolding NoRow
few_walked text w few =
    let s = walk_passed text w in
    let none = few_rows text few in
    let tried = rows_tried_holds (polynomial_of text) (order_of text) (values_of text) (budget_of text) in
    let finished = (finished_exactly (polynomial_of text) (order_of text) (values_of text) (budget_of text)).1 (omega arith) in
    let no_row : NoRow Hadamard text =
    λ r b. omega (arith, few, few_candidates (polynomial_of text) (order_of text) s.modulus s.order (values_of text) s.fits r b) in
    (omega arith, finished, ((none_walked_exactly text).1 (w, record { finished = finished; no_row = no_row })).1)
