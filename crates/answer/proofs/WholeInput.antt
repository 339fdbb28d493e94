-- The first bytes of an input tell what is due to all of it, whatever its length, where they are more than 4,093: no longer text is in form
-- (`form_most`), and one of 4,093 bytes is (`form_reached`). So the program need not read further (`first_bytes`). Assumes nothing.
use mathlib.Core.Path.{◌≡◌, refl, sym, ap, ◌∙◌}
use mathlib.Core.Logic.{⊎_elim}
use mathlib.Core.Bool.{true}
use mathlib.Core.List.{List, []}
use Prim.Native.Nat.{ℕ, zero, suc, ◌+◌, ◌*◌, ◌/◌, ◌≤◌, ◌<◌, zero-le}
use native.Mathlib.Omega.{arith}
use lib.ListN.{length, take, replicate, length-replicate}
use lib.Seq.{take_all, length-take-le}
use Rattle.refusal.specs.Refusals.{answer}
use Rattle.algebra.proofs.Sums.{le_or_lt}
use Rattle.text.specs.Text.{further_numbers, request_text, SixDigits}
use Rattle.text.specs.Reading.{number_at, kind_of, line_one_length, in_form}
use Rattle.text.proofs.Compare.{is_false}
use Rattle.text.proofs.Lengths.{further_le}
use Rattle.text.proofs.Form.{form_length, length_rewritten, six_none, six_more}
use Rattle.text.proofs.Requests.{longest_text, written_read}
use Rattle.reply.specs.Due.{due}
use Rattle.reply.specs.Answered.{Shown}
use Rattle.reply.proofs.DueFrom.{text_refused}
use Rattle.answer.proofs.Shown.{shown_most}

-- ---- the longest texts

-- a text in form has at most 4,093 bytes
pub form_most : (text : List ℕ) → in_form text ≡ true → length text ≤ 4093
unfolding line_one_length
form_most text e =
    whole (further_numbers (kind_of text)) (number_at text 18) (length text) (further_le (kind_of text))
    (ap length (form_length text e).1 ∙ length_rewritten text) (form_length text e).0
  where
    whole : (further count long : ℕ) → further ≤ 1 → long ≡ 25 + 6 * further + 6 * count + (count + 15) / 16 → long ≤ 4096 → long ≤ 4093
    whole zero count long f e h = let few : count ≤ 671 = omega arith in omega arith
    whole (suc n) count long f e h = let few : count ≤ 670 = omega arith in omega arith

-- and each of 671 values has as many
form_of : (values : List ℕ) → length values ≡ 671 → SixDigits values → (text : List ℕ) × (in_form text ≡ true) × (length text ≡ 4093)
form_of values count six =
    let long = longest_text 0 0 0 values count in
    let line = six_more _ zero-le (six_more _ zero-le (six_more _ zero-le (six_more {v = length values} values (omega arith) six))) in
    (request_text 0 0 0 [] values, (written_read 0 0 0 [] values (unfold further_numbers in refl) line (omega arith)).0, long)

six_zeros : (n : ℕ) → SixDigits (replicate n 0)
six_zeros zero = six_none
six_zeros (suc n) = six_more (replicate n 0) zero-le (six_zeros n)

pub form_reached : (text : List ℕ) × (in_form text ≡ true) × (length text ≡ 4093)
form_reached = form_of (replicate 671 0) (length-replicate {A = ℕ} 671 0) (six_zeros 671)

-- a longer one is refused with 1
pub long_refused : (text : List ℕ) → 4093 < length text → due text ≡ answer 1 []
long_refused text h = sym (text_refused text (is_false (in_form text) (λ e. omega (arith, form_most text e))))

-- ---- the first bytes of an input

module _ (n : ℕ) (h : 4093 < n) (input : List ℕ) where
  pub first_due : due (take n input) ≡ due input
  first_due = ⊎_elim short long (le_or_lt (length input) n)
    where
      short : length input ≤ n → due (take n input) ≡ due input
      short l = ap due (take_all n input l)

      long : n < length input → due (take n input) ≡ due input
      long l = long_refused (take n input) (rw (length-take-le n input (omega arith)) h) ∙ sym (long_refused input (omega arith))

  -- what is shown to them is what is to be shown to all of it
  pub first_bytes : {space after : List ℕ} {count : ℕ} → Shown (take n input) space after count → Shown input space after count
  first_bytes s = record { count_is = rw first_due at s.count_is; bytes = rw first_due at s.bytes }

-- some input has these first bytes, so no more is shown than there is
pub whole_most : {first space after : List ℕ} {count : ℕ} (n : ℕ) → length first ≤ n
    → ((input : List ℕ) → take n input ≡ first → Shown input space after count) → count ≤ length after
whole_most {first} n h shown = shown_most (shown first (take_all n first h))
