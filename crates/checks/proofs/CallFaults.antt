-- The faults of the calls on matrices: what passes, and what is told. Assumes nothing.
use mathlib.Core.Path.{◌≡◌, refl, sym, ap, ap₂, subst, ◌∙◌}
use mathlib.Core.Bool.{Bool, true, false, cond, ◌||◌, true≢false}
use mathlib.Core.List.{List, [], ◌∷◌}
use mathlib.Core.Logic.{⊎_elim, inl, inr}
use Prim.Native.Nat.{ℕ, zero, suc, ◌≤◌, ◌<◌}
use native.Mathlib.Nat.{not-suc-le-zero, le_of_suc-le-suc, eq-or-lt_of_le}
use native.Mathlib.Omega.{arith}
use borrow.Author.Tests.{ltb-false, eqb-true, eqb-false, not-false}
use lib.Dec.{eqb, ltb}
use Rattle.std.specs.Prelude.{Result}
use Rattle.std.specs.Result.{IsErrAnd}
use Rattle.std.proofs.lemmas.Result.{err_from_is_err_and}
use lib.ListN.{get_or, length, take}
use lib.Seq.{length-take-le, get_or-take}
use Rattle.refusal.specs.declared.Refusal.{Refusal}
use Rattle.refusal.specs.declared.Refusal.TheVariants.{ValueRange}
use Rattle.refusal.specs.Refusals.{number_of, Fault, fault, first_number, Answer, answer, answer_after, answer_by}
use Rattle.refusal.proofs.Tests.{or_none}
use Rattle.refusal.proofs.Faults.{number_not_zero, numbered, first_later, after_none, after_number, after_number_is, refused_before}
use Rattle.field.specs.Polynomial.{Modulus, some_below}
use Rattle.field.specs.Faults.{polynomial_faults, call_faults}
use Rattle.field.proofs.Calls.{not_too_large, modulus_number}
use Rattle.field.proofs.Irreducibility.{some_witness, some_there}
use Rattle.lines.specs.Numbers.{entry, InField, WordsInField, HalvingOrder}
use Rattle.checks.specs.Answers.{is_wrong_order, is_wrong_halved_order, some_word_too_large, some_entry_too_large}

-- ---- some number below n passes a test

pub some_is : (n : ℕ) (test : ℕ → Bool) (r : Bool) → (r ≡ true → (i : ℕ) × (i < n) × (test i ≡ true)) → (r ≡ false → (i : ℕ) → i < n → test i ≡ false) → r ≡ some_below n test
some_is n test true there _ = let (i, l, e) = there refl in sym (some_there n test i l e)
some_is n test false _ nowhere = go (some_below n test) refl
  where
    go : (b : Bool) → some_below n test ≡ b → false ≡ some_below n test
    go false e = sym e
    go true e = let (i, l, d) = some_witness n test e in absurd (true≢false (sym d ∙ nowhere refl i l))

-- the same of the first n of a list
pub some_first : {X : Type 0} (n : ℕ) (xs : List X) (d : X) (test : X → Bool) (r : Bool) → n ≤ length xs
    → (r ≡ true → (i : ℕ) × (i < length (take n xs)) × (test (get_or (take n xs) i d) ≡ true))
    → (r ≡ false → (i : ℕ) → i < length (take n xs) → test (get_or (take n xs) i d) ≡ false)
    → r ≡ some_below n (λ i. test (get_or xs i d))
some_first n xs d test r most there nowhere =
    some_is n _ r
    (λ e. let (i, l, h) = there e in let within : i < n = omega (arith, length-take-le n xs most) in (i, within, ap test (sym (get_or-take n xs i d within)) ∙ h))
    (λ e i l. ap test (sym (get_or-take n xs i d l)) ∙ nowhere e i (omega (arith, length-take-le n xs most)))

pub some_none : (n : ℕ) (test : ℕ → Bool) → some_below n test ≡ false → (i : ℕ) → i < n → test i ≡ false
unfolding some_below
some_none zero test e i l = absurd (not-suc-le-zero l)
some_none (suc n) test e i l =
    let w = or_none (test n) (some_below n test) e in
    ⊎_elim (λ (q : i ≡ n). ap test q ∙ w.0) (λ (q : i < n). some_none n test w.1 i q) (eq-or-lt_of_le (le_of_suc-le-suc l))

-- ---- what passes

pub words_pass : (p n : ℕ) (row : List ℕ) → some_word_too_large p n row ≡ false → WordsInField p n row
unfolding some_word_too_large WordsInField
words_pass p n row e j l = not_too_large p _ (some_none n _ e j l)

pub entries_pass : (p n : ℕ) (m : List (List ℕ)) → some_entry_too_large p n (entry m) ≡ false → InField p n n m
unfolding some_entry_too_large InField
entries_pass p n m e i j l k = not_too_large p _ (some_none n _ (some_none n _ e i l) j k)

pub order_passes : (n : ℕ) → is_wrong_order n ≡ false → (1 ≤ n) × (n ≤ 8)
unfolding is_wrong_order
order_passes n e =
    let w = or_none (eqb n 0) (ltb 8 n) e in
    let d = eqb-false n 0 w.0 in
    (omega arith, ltb-false 8 n w.1)

pub halved_order_passes : (n : ℕ) → is_wrong_halved_order n ≡ false → HalvingOrder n
unfolding is_wrong_halved_order
halved_order_passes n e = from (eqb n 2) (eqb n 4) (eqb n 8) refl refl refl (not-false _ e)
  where
    from : (b c d : Bool) → eqb n 2 ≡ b → eqb n 4 ≡ c → eqb n 8 ≡ d → (b || c || d) ≡ true → HalvingOrder n
    from true c d e2 e4 e8 h = inr (inl (eqb-true n 2 e2))
    from false true d e2 e4 e8 h = inr (inr (inl (eqb-true n 4 e4)))
    from false false true e2 e4 e8 h = inr (inr (inr (eqb-true n 8 e8)))
    from false false false e2 e4 e8 h = absurd (true≢false (sym h))

pub halving_most : {n : ℕ} → HalvingOrder n → n ≤ 8
halving_most (inl e) = omega arith
halving_most (inr (inl e)) = omega arith
halving_most (inr (inr (inl e))) = omega arith
halving_most (inr (inr (inr e))) = omega arith

-- ---- the first fault of a call

-- a reason that the polynomial is refused for is the call's
pub call_before : (p : ℕ) (wrong large : Bool) (r : Refusal) → number_of r ≡ first_number (polynomial_faults p) → number_of r ≡ first_number (call_faults p wrong false large false)
call_before p wrong large r e =
    ap (λ (a : Answer ℕ). a.number) (refused_before 0 0 (polynomial_faults p) _ r e) ∙ after_number_is 0 0 (call_faults p wrong false large false)

-- where the polynomial passes, the order tells, and then the values
pub call_first : (p : ℕ) (wrong large : Bool) {q : ℕ} → Modulus q → q ≡ p → {w l : Bool} → wrong ≡ w → large ≡ l
    → cond w 5 (cond l 7 0) ≡ first_number (call_faults p wrong false large false)
unfolding first_number polynomial_faults numbered
call_first p wrong large h e order values =
    rw (sym order, sym values)
    (sym (first_later (polynomial_faults p) (fault 5 wrong ∷ fault 6 false ∷ fault 7 large ∷ fault 8 false ∷ []) refl (modulus_number p (subst Modulus e h))))

-- ---- what follows from the faults of a call

-- the call is refused so
pub call_refused : {A : Type 0} (empty value : A) (l : List Fault) (r : Refusal) → number_of r ≡ first_number l → answer (number_of r) empty ≡ answer_after empty l value
call_refused empty value l r e = after_number empty value l (number_of r) (sym e) (number_not_zero r)

-- the call returns at once, with the reason that its first step gives
pub call_returned : {T A : Type 0} (values : T → A) (empty value : A) (l : List Fault) (reason : Refusal) (r : Result T Refusal) → IsErrAnd r (λ x. x ≡ reason)
    → number_of reason ≡ first_number l → answer_by values empty r ≡ answer_after empty l value
call_returned values empty value l reason r h e = let (x, is, same) = err_from_is_err_and r h in rw (is, same) (call_refused empty value l reason e)

-- the value is given
pub call_accepted : {A : Type 0} (empty : A) {a b : A} (l : List Fault) → first_number l ≡ 0 → a ≡ b → answer 0 a ≡ answer_after empty l b
call_accepted empty {b = b} l e f = ap (answer 0) f ∙ after_none empty b l e

-- behind a polynomial and an order that pass the values decide, whose test is made over the field
module _ {A : Type 0} (empty : A) {p q : ℕ} (h : Modulus q) (e : q ≡ p) {wrong : Bool} (order : wrong ≡ false) (large : ℕ → Bool) where
  pub value_refused : (value : A) → large q ≡ true → answer 7 empty ≡ answer_after empty (call_faults p wrong false (large p) false) value
  value_refused value d = call_refused empty value _ ValueRange (call_first p wrong (large p) h e order (ap large (sym e) ∙ d))

  pub value_yielded : {a b : A} → large q ≡ false → a ≡ b → answer 0 a ≡ answer_after empty (call_faults p wrong false (large p) false) b
  value_yielded d f = call_accepted empty _ (sym (call_first p wrong (large p) h e order (ap large (sym e) ∙ d))) f

-- neither of two tests passes
pub neither : {a b : Bool} → a ≡ false → b ≡ false → (a || b) ≡ false
neither e d = ap₂ ◌||◌ e d
