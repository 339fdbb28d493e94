-- Demand 1 as theorems, of every kind. `one_answer`: number, length and every byte are fixed by the request and the lent space.
-- `any_space`: the answer text of an accepted request and the number of a refused one do not depend on the lent space, 10 apart.
-- `first_fault`: the number is that of the first fault. `bytes_left`: every byte of the lent space, by the number.
-- `refusal_length`: the length is 0 with every refusal. Assumes nothing.
use mathlib.Core.Path.{◌≡◌, refl, sym, ap, ◌∙◌}
use mathlib.Core.Bool.{Bool, true, false, cond}
use mathlib.Core.List.{List, [], ◌∷◌, ◌++◌}
use Prim.Native.Nat.{ℕ, zero, suc, ◌≤◌, ◌<◌}
use native.Mathlib.Decide.{ℕ_discrete}
use native.Mathlib.Omega.{arith}
use borrow.Author.Tests.{leb-true, leb-false, le-leb, lt-leb}
use lib.Dec.{leb}
use lib.ListN.{length, take, drop, length-append, length-drop}
use lib.Seq.{take_at}
use Rattle.refusal.specs.Refusals.{first_number, Applies}
use Rattle.refusal.proofs.Faults.{first_applies, first_none, first_lowest}
use Rattle.text.specs.Text.{line_text, answer_text}
use Rattle.text.proofs.Lengths.{length_line}
use Rattle.reply.specs.Due.{faults_of, due}
use Rattle.reply.specs.Answered.{text_of, number_returned, length_returned, written_at, Answered}
use Rattle.answer.specs.Demands.{OneAnswer, BytesLeft, AnySpace}
use Rattle.answer.proofs.EveryKind.{faults_numbered, faults_ascend, due_number, due_most}

-- ---- number, length and bytes of one call

-- 0 is returned only where nothing is refused and the answer fits
returned_zero : (m : ℕ) (fits : Bool) → number_returned m fits ≡ 0 → (m ≡ 0) × (fits ≡ true)
returned_zero zero true e = (refl, refl)
returned_zero zero false e = let y : ⊥ = omega arith in absurd y
returned_zero (suc m) fits e = let y : ⊥ = omega arith in absurd y

-- another number than 0 and 10 is that of the refusal
returned_refusal : (m : ℕ) (fits : Bool) → (number_returned m fits ≡ 0 → ⊥) → (number_returned m fits ≡ 10 → ⊥) → m ≡ number_returned m fits
returned_refusal zero true f g = absurd (f refl)
returned_refusal zero false f g = absurd (g refl)
returned_refusal (suc m) fits f g = refl

-- a refusal is returned whatever space is lent
returned_told : (m : ℕ) (fits : Bool) → (m ≡ 0 → ⊥) → number_returned m fits ≡ m
returned_told zero fits f = absurd (f refl)
returned_told (suc m) fits f = refl

-- 10 is returned only where nothing is refused and the answer does not fit
returned_ten : (m : ℕ) (fits : Bool) → m ≤ 9 → number_returned m fits ≡ 10 → (m ≡ 0) × (fits ≡ false)
returned_ten zero true l e = let y : ⊥ = omega arith in absurd y
returned_ten zero false l e = (refl, refl)
returned_ten (suc m) fits l e = let y : ⊥ = omega arith in absurd y

-- its line is written
text_told : (m : ℕ) (lines : List (List ℕ)) → (m ≡ 0 → ⊥) → text_of m lines ≡ line_text (m ∷ [])
text_told zero lines f = absurd (f refl)
text_told (suc m) lines f = refl

-- a text that fits stands at the start, and the bytes behind it are kept
stands : (text space : List ℕ) (n : ℕ) → length text ≡ n → n ≤ length space → written_at text space ≡ text ++ drop n space
stands text space n e h = rw (le-leb (length text) (length space) (omega arith), e) refl

front : (text space : List ℕ) (n : ℕ) → length text ≡ n → n ≤ length space → take n (written_at text space) ≡ text
front text space n e h = ap (take n) (stands text space n e h) ∙ take_at text (drop n space) n e

-- one that does not fit is not written
kept : (text space : List ℕ) → length space < length text → written_at text space ≡ space
kept text space h = rw (lt-leb (length text) (length space) h) refl

-- the space stays as long as it is
as_long : (text space : List ℕ) → length (written_at text space) ≡ length space
as_long text space = go (leb (length text) (length space)) refl
  where
    go : (t : Bool) → leb (length text) (length space) ≡ t → length (cond t (text ++ drop (length text) space) space) ≡ length space
    go true f =
        omega (arith, leb-true (length text) (length space) f, length-append text (drop (length text) space), length-drop (length text) space)
    go false f = refl

module _ {text space after : List ℕ} {number size : ℕ} (a : Answered text space after number size) where
  -- the length of the answer due
  abbrev long : ℕ
  long = length (answer_text (due text).value)

  -- accepted: nothing is refused, the answer fits, and its length is returned
  pub accepted_due : number ≡ 0 → ((due text).number ≡ 0) × (long ≤ length space) × (size ≡ long)
  accepted_due z =
      let (e, f) = returned_zero (due text).number (leb long (length space)) (sym a.reply.number_is ∙ z) in
      (e, leb-true long (length space) f, a.reply.size_is ∙ ap (λ (n : ℕ). length_returned n long) z)

  -- the answer text stands at the start
  pub accepted_text : number ≡ 0 → take size after ≡ answer_text (due text).value
  accepted_text z =
      let (e, fits, is-long) = accepted_due z in
      ap (take size) (a.reply.bytes ∙ ap (λ (m : ℕ). written_at (text_of m (due text).value) space) e)
      ∙ front (answer_text (due text).value) space size (omega arith) (omega arith)

  -- refused with 1 to 9: that is due
  refused_due : (number ≡ 0 → ⊥) → (number ≡ 10 → ⊥) → (due text).number ≡ number
  refused_due f g =
      let is = a.reply.number_is in
      returned_refusal (due text).number (leb long (length space)) (λ e. f (is ∙ e)) (λ e. g (is ∙ e)) ∙ sym is

  -- its line is written, where it fits
  pub told : (number ≡ 0 → ⊥) → (number ≡ 10 → ⊥) → after ≡ written_at (line_text (number ∷ [])) space
  told f g =
      a.reply.bytes
      ∙ ap (λ (m : ℕ). written_at (text_of m (due text).value) space) (refused_due f g)
      ∙ ap (λ (l : List ℕ). written_at l space) (text_told number (due text).value f)

  -- it stands at the start
  pub refused_line : (number ≡ 0 → ⊥) → (number ≡ 10 → ⊥) → 7 ≤ length space → take 7 after ≡ line_text (number ∷ [])
  refused_line f g h =
      ap (take 7) (told f g)
      ∙ front (line_text (number ∷ [])) space 7 (length_line (number ∷ [])) h

  -- what is left in the lent space
  pub bytes_left : BytesLeft text space after number size
  bytes_left =
      record {
        as_long = rw a.reply.bytes (as_long (text_of (due text).number (due text).value) space);
        zero_left = λ z. record { at_start = answered z; is_length = (accepted_due z).2 };
        line_left = λ f g h. told f g ∙ stands (line_text (number ∷ [])) space 7 (length_line (number ∷ [])) h;
        few_left = few;
        ten_left = ten;
      }
    where
      answered : number ≡ 0 → after ≡ answer_text (due text).value ++ drop size space
      answered z =
          let (e, fits, s) = accepted_due z in
          a.reply.bytes
          ∙ ap (λ (m : ℕ). written_at (text_of m (due text).value) space) e
          ∙ stands (answer_text (due text).value) space size (sym s) (omega arith)

      ten : number ≡ 10 → after ≡ space
      ten z =
          let (e, f) = returned_ten (due text).number (leb long (length space)) (due_most text) (sym a.reply.number_is ∙ z) in
          a.reply.bytes
          ∙ ap (λ (m : ℕ). written_at (text_of m (due text).value) space) e
          ∙ kept (answer_text (due text).value) space (omega (arith, leb-false long (length space) f))

      few : (number ≡ 0 → ⊥) → length space < 7 → after ≡ space
      few f h = elim (ℕ_discrete number 10) [
        | yes z ↦ ten z
        | no g ↦ told f g ∙ kept (line_text (number ∷ [])) space (omega (arith, length_line (number ∷ [])))
      ]

-- ---- two calls of one request

module _ {text space space' after after' : List ℕ} {number number' size size' : ℕ}
    (a : Answered text space after number size) (b : Answered text space' after' number' size') where
  -- with the same number, the same length
  sizes : number ≡ number' → size ≡ size'
  sizes e = a.reply.size_is ∙ ap (λ (n : ℕ). length_returned n (length (answer_text (due text).value))) e ∙ sym b.reply.size_is

  -- the other space decides between 0 and 10 where the one call is accepted
  number_other : number ≡ 0 → (fits : Bool) → leb size (length space') ≡ fits → number' ≡ cond fits 0 10
  number_other z fits e =
      let (none, _, is-long) = accepted_due a z in
      b.reply.number_is ∙ rw (none, ← is-long, e) refl

  pub any_space : AnySpace space space' after after' number number' size size'
  any_space =
      record {
        refused_alike = alike;
        accepted_alike = λ z h. number_other z true (le-leb size (length space') h);
        ten_if_shorter = λ z h. number_other z false (lt-leb size (length space') h);
        same_length = sizes;
        same_text = λ z z'. accepted_text a z ∙ sym (accepted_text b z');
        same_line = λ f g h h'.
            let e = alike f g in
            refused_line a f g h ∙ ap (λ (n : ℕ). line_text (n ∷ [])) (sym e) ∙ sym (refused_line b (λ z. f (sym e ∙ z)) (λ z. g (sym e ∙ z)) h');
      }
    where
      alike : (number ≡ 0 → ⊥) → (number ≡ 10 → ⊥) → number' ≡ number
      alike f g =
          let e = refused_due a f g in
          b.reply.number_is ∙ returned_told (due text).number _ (λ z. f (sym e ∙ z)) ∙ e

-- with the same space, the same number and every byte
pub one_answer : {text space after after' : List ℕ} {number number' size size' : ℕ}
    → Answered text space after number size → Answered text space after' number' size' → OneAnswer after after' number number' size size'
one_answer a b =
    let numbers = a.reply.number_is ∙ sym b.reply.number_is in
    record { one_number = numbers; one_size = sizes a b numbers; one_space = a.reply.bytes ∙ sym b.reply.bytes }

-- ---- the first fault

-- the number returned: the lowest with a fault; where there is none, 0, or 10 if the lent space is shorter than the answer due
pub data FirstFault (text space : List ℕ) (number : ℕ) : Type 0 where
  at_fault : Applies (faults_of text) number → ((k : ℕ) → Applies (faults_of text) k → number ≤ k) → FirstFault text space number
  with_room : ((k : ℕ) → Applies (faults_of text) k → ⊥) → length (answer_text (due text).value) ≤ length space → number ≡ 0 → FirstFault text space number
  without_room : ((k : ℕ) → Applies (faults_of text) k → ⊥) → length space < length (answer_text (due text).value) → number ≡ 10 → FirstFault text space number

pub first_fault : {text space after : List ℕ} {number size : ℕ} → Answered text space after number size → FirstFault text space number
first_fault {text} {space} {number = number} a = go (due text).number (sym (due_number text)) a.reply.number_is
  where
    size : ℕ
    size = length (answer_text (due text).value)

    room : first_number (faults_of text) ≡ 0 → (t : Bool) → leb size (length space) ≡ t → number ≡ cond t 0 10 → FirstFault text space number
    room e true f n = with_room (first_none (faults_of text) (faults_numbered text) e) (leb-true size (length space) f) n
    room e false f n = without_room (first_none (faults_of text) (faults_numbered text) e) (leb-false size (length space) f) n

    go : (m : ℕ) → first_number (faults_of text) ≡ m → number ≡ number_returned m (leb size (length space)) → FirstFault text space number
    go zero e n = room e _ refl n
    go (suc m) e n =
        rw n (at_fault (first_applies (faults_of text) m e)
        (λ k x. rw (← e) (first_lowest 0 (faults_of text) (faults_ascend text) k x)))

-- ---- the length

pub refusal_length : {text space after : List ℕ} {number size : ℕ} → Answered text space after number size → (number ≡ 0 → ⊥) → size ≡ 0
refusal_length {text} {number = number} {size = size} a h = go number h a.reply.size_is
  where
    go : (n : ℕ) → (n ≡ 0 → ⊥) → size ≡ length_returned n (length (answer_text (due text).value)) → size ≡ 0
    go zero f e = absurd (f refl)
    go (suc n) f e = e
