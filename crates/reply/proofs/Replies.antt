-- What is left in the lent space: where a text is written, and where it does not fit. Assumes nothing.
use mathlib.Core.Path.{◌≡◌, refl, sym, ap, ap₂, ◌∙◌}
use mathlib.Core.List.{List, [], ◌∷◌, ◌++◌, append-nil, map}
use denote.Bor.{Bor}
use Rattle.std.specs.Prelude.{sum_by, All}
use Rattle.std.proofs.lemmas.List.Elements.{All-cons, All-nil}
use Rattle.std.proofs.lemmas.List.Sums.{sum_by-cons}
use Prim.Native.Nat.{ℕ, zero, suc, ◌+◌, ◌*◌, ◌≤◌, ◌<◌}
use native.Mathlib.Nat.{zero-add}
use native.Mathlib.Omega.{arith}
use borrow.Author.Tests.{le-leb, lt-leb}
use native.Mathlib.Numerals.{add-one}
use lib.ListN.{length, length-append, get_or, drop, drop_of_length-le}
use lib.Seq.{drop-cons}
use Rattle.refusal.specs.declared.Refusal.{Refusal}
use Rattle.refusal.specs.Refusals.{number_of, Answer, answer}
use Rattle.refusal.proofs.Faults.{number_not_zero}
use Rattle.text.specs.Text.{line_text, answer_text, SixDigits}
use Rattle.text.specs.Writing.{Put}
use Rattle.text.proofs.Places.{put_front}
use Rattle.text.proofs.Lengths.{length_line}
use Rattle.text.proofs.Answers.{answer_one}
use Rattle.reply.specs.Answered.{written_at, Replied}

-- the reply to what is due is a reply to the same by another name
pub replied_as : {d e : Answer (List (List ℕ))} {space after : List ℕ} {number size : ℕ} → d ≡ e → Replied d space after number size → Replied e space after number size
replied_as q r = rw q at r

-- a text that fits is written at the start, one that does not changes nothing
written_fits : (text : List ℕ) {space after : List ℕ} {next : ℕ} → length text ≤ length space → Put space after 0 text next → after ≡ written_at text space
written_fits text {space} h p = rw (le-leb (length text) (length space) h) (put_front text h p)

written_short : (text space : List ℕ) → length space < length text → space ≡ written_at text space
written_short text space h = rw (lt-leb (length text) (length space) h)

-- a refusal: its line is left
refused_left : (number : ℕ) {space after : List ℕ} → (number ≡ 0 → ⊥) → after ≡ written_at (line_text (number ∷ [])) space → Replied (answer number []) space after number 0
refused_left zero h e = absurd (h refl)
refused_left (suc number) h e = record { number_is = refl; size_is = refl; bytes = e }

pub refused_written : (r : Refusal) {space after : List ℕ} {next : ℕ} → 7 ≤ length space → Put space after 0 (line_text (number_of r ∷ [])) next
    → Replied (answer (number_of r) []) space after (number_of r) 0
refused_written r h p =
    refused_left (number_of r) (number_not_zero r) (written_fits (line_text (number_of r ∷ [])) (rw (length_line (number_of r ∷ [])) h) p)

pub refused_short : (r : Refusal) (space : List ℕ) → length space < 7 → Replied (answer (number_of r) []) space space (number_of r) 0
refused_short r space h =
    refused_left (number_of r) (number_not_zero r) (written_short (line_text (number_of r ∷ [])) space (rw (length_line (number_of r ∷ [])) h))

-- an accepted answer
pub lines_written : (l : List (List ℕ)) {space after : List ℕ} {next : ℕ} → length (answer_text l) ≤ length space → Put space after 0 (answer_text l) next
    → Replied (answer 0 l) space after 0 next
lines_written l {space} h p =
    record {
      number_is = rw (le-leb (length (answer_text l)) (length space) h);
      size_is = p.place ∙ zero-add (length (answer_text l));
      bytes = written_fits (answer_text l) h p;
    }

pub lines_short : (l : List (List ℕ)) (space : List ℕ) → length space < length (answer_text l) → Replied (answer 0 l) space space 10 0
lines_short l space h =
    record {
      number_is = rw (lt-leb (length (answer_text l)) (length space) h);
      size_is = refl;
      bytes = written_short (answer_text l) space h;
    }

-- answers of one line and of two
pub one_length : (a : List ℕ) → length (answer_text (a ∷ [])) ≡ 6 * length a + 1
one_length a = rw (answer_one a) (length_line a)

pub two_text : (a b : List ℕ) → answer_text (a ∷ b ∷ []) ≡ line_text a ++ line_text b
unfolding answer_text
two_text a b = ap (λ (l : List ℕ). line_text a ++ l) (append-nil (line_text b))

pub two_length : (a b : List ℕ) → length (answer_text (a ∷ b ∷ [])) ≡ 6 * length a + 6 * length b + 2
two_length a b = rw (two_text a b) (omega (arith, length-append (line_text a) (line_text b), length_line a, length_line b))

-- ---- lines behind references

-- the text of the lines from number i on
abbrev pub lines_text : List (Bor (List ℕ)) → List ℕ
lines_text lines = answer_text (map (λ line. line.now) lines)

-- line i, empty behind the last
abbrev pub line_at : List (Bor (List ℕ)) → ℕ → List ℕ
line_at lines i = (get_or lines i (record { ref_ptr = (0, 0); now = [] })).now

pub lines_next : (lines : List (Bor (List ℕ))) (i : ℕ) → i < length lines → lines_text (drop i lines) ≡ line_text (line_at lines i) ++ lines_text (drop (i + 1) lines)
unfolding answer_text
lines_next lines i h = rw (add-one, drop-cons lines i (record { ref_ptr = (0, 0); now = [] }) h)

pub lines_none : (lines : List (Bor (List ℕ))) (i : ℕ) → length lines ≤ i → lines_text (drop i lines) ≡ []
unfolding answer_text
lines_none lines i h = rw (drop_of_length-le lines h)

pub lines_size : (lines : List (Bor (List ℕ))) → length (lines_text lines) ≡ sum_by (λ line. 6 * length line.now + 1) lines
unfolding answer_text
lines_size [] = refl
lines_size (l ∷ ls) =
    length-append (line_text l.now) (lines_text ls)
    ∙ ap₂ (λ (a b : ℕ). a + b) (length_line l.now) (lines_size ls)
    ∙ sym (sum_by-cons (λ (line : Bor (List ℕ)). 6 * length line.now + 1) l ls)

-- where each number of each line fits its columns: one line, and two
pub six_in_one : (a : Bor (List ℕ)) → SixDigits a.now → All (λ line. SixDigits line.now) (a ∷ [])
six_in_one a h = All-cons (λ (line : Bor (List ℕ)). SixDigits line.now) a [] h (All-nil (λ (line : Bor (List ℕ)). SixDigits line.now))

pub six_in_two : (a b : Bor (List ℕ)) → SixDigits a.now → SixDigits b.now → All (λ line. SixDigits line.now) (a ∷ b ∷ [])
six_in_two a b h k = All-cons (λ (line : Bor (List ℕ)). SixDigits line.now) a (b ∷ []) h (six_in_one b k)
