-- What the program shows after a call with at least 52,877 bytes: the answer, or the refusal's line, and every byte behind it as before. The bytes
-- shown are fixed by the text alone (`shown_text`, `one_shown`). Assumes nothing.
use mathlib.Core.Path.{◌≡◌, refl, sym, ap, ◌∙◌}
use mathlib.Core.List.{List, [], ◌∷◌, ◌++◌}
use Prim.Native.Nat.{ℕ, zero, suc, ◌≤◌}
use native.Mathlib.Omega.{arith}
use borrow.Author.Tests.{le-leb}
use lib.ListN.{length, take, drop, length-append}
use lib.Seq.{take_at}
use Rattle.text.specs.Text.{answer_text}
use Rattle.text.proofs.Lengths.{length_line}
use Rattle.reply.specs.Due.{due}
use Rattle.reply.specs.Answered.{text_of, length_returned, written_at, Answered, Shown}
use Rattle.answer.proofs.Acceptance.{answer_short}

-- a text that fits stands at the start
fits_front : (text space : List ℕ) → length text ≤ length space → written_at text space ≡ text ++ drop (length text) space
fits_front text space h = rw (le-leb (length text) (length space) h)

-- the text that is due fits, and has as many bytes as are shown
record ShownBytes (text shown : List ℕ) (number size : ℕ) : Type 0 where
  few : length shown ≤ 52877
  of_answer : number ≡ 0 → size ≡ length shown
  of_refusal : (number ≡ 0 → ⊥) → 7 ≡ length shown

length_accepted : (n size long : ℕ) → n ≡ 0 → size ≡ length_returned n long → size ≡ long
length_accepted zero size long z s = s
length_accepted (suc n) size long z s = let y : ⊥ = omega arith in absurd y

shown_length : {text space after : List ℕ} {number size : ℕ} (a : Answered text space after number size) → 52877 ≤ length space → (m : ℕ) → (due text).number ≡ m
    → ShownBytes text (text_of m (due text).value) number size
shown_length {text} {space} {number = number} {size = size} a h zero e =
    let short = answer_short text e in
    let number_is : number ≡ 0 = a.reply.number_is ∙ rw (e, le-leb (length (answer_text (due text).value)) (length space) (omega arith)) in
    record {
      few = omega arith;
      of_answer = λ z. length_accepted number size _ z a.reply.size_is;
      of_refusal = λ z. absurd (z number_is);
    }
shown_length {text} {space} {number = number} a h (suc m) e =
    let line = length_line (suc m ∷ []) in
    let number_is : number ≡ suc m = a.reply.number_is ∙ rw e in
    record { few = omega arith; of_answer = λ z. let y : ⊥ = omega arith in absurd y; of_refusal = λ z. sym line }

module _ {text space after : List ℕ} {number size : ℕ} (a : Answered text space after number size) (h : 52877 ≤ length space) where
  shown_at : (count : ℕ) → count ≡ length (text_of (due text).number (due text).value) → Shown text space after count
  shown_at count e =
      let fits = (shown_length a h (due text).number refl).few in
      record {
        count_is = e;
        bytes = a.reply.bytes ∙ fits_front (text_of (due text).number (due text).value) space (omega arith) ∙ rw e;
      }

  pub shown_answer : number ≡ 0 → Shown text space after size
  shown_answer e = shown_at size ((shown_length a h (due text).number refl).of_answer e)

  pub shown_refusal : (number ≡ 0 → ⊥) → Shown text space after 7
  shown_refusal e = shown_at 7 ((shown_length a h (due text).number refl).of_refusal e)

-- no more is shown than there is
pub shown_most : {text space after : List ℕ} {count : ℕ} → Shown text space after count → count ≤ length after
shown_most {text} {space = space} {count = count} s =
    omega (arith, s.count_is, ap length s.bytes, length-append (text_of (due text).number (due text).value) (drop count space))

-- what is shown is the text that is due
pub shown_text : {text space after : List ℕ} {count : ℕ} → Shown text space after count → take count after ≡ text_of (due text).number (due text).value
shown_text {text} {space = space} {count = count} s =
    ap (take count) s.bytes ∙ take_at (text_of (due text).number (due text).value) (drop count space) count (sym s.count_is)

-- so it is the same whatever the space held
pub one_shown : {text space space' after after' : List ℕ} {count count' : ℕ} → Shown text space after count → Shown text space' after' count'
    → take count after ≡ take count' after'
one_shown s t = shown_text s ∙ sym (shown_text t)
