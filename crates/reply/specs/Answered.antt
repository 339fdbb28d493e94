-- What a call of `answer` returns, and every byte of the lent space after it; and what the program shows. Assumes nothing.
use Rattle.std.specs.Prelude.{◌≡◌, Bool, cond, List, [], ◌∷◌, ◌++◌, ℕ, zero, suc, leb, length, drop, Result}
use Rattle.refusal.specs.declared.Refusal.{Refusal}
use Rattle.refusal.specs.Refusals.{Answer, answer_of}
use Rattle.text.specs.Text.{line_text, answer_text}
use Rattle.reply.specs.Due.{due}

-- the text of a number that is due and of lines: the answer text, or the refusal's line
abbrev pub text_of : ℕ → List (List ℕ) → List ℕ
text_of zero lines = answer_text lines
text_of (suc number) lines = line_text (suc number ∷ [])

-- the number returned: the refusal's; else 0, or 10 where the answer due does not fit the lent space
abbrev pub number_returned : ℕ → Bool → ℕ
number_returned zero fits = cond fits 0 10
number_returned (suc number) fits = suc number

-- the length returned: that of the answer if accepted, 0 for every refusal
abbrev pub length_returned : ℕ → ℕ → ℕ
length_returned zero size = size
length_returned (suc number) size = 0

-- a text at the start of the space where it fits, and the rest kept; else nothing changes
abbrev pub written_at : List ℕ → List ℕ → List ℕ
written_at text space = cond (leb (length text) (length space)) (text ++ drop (length text) space) space

-- what a call leaves where this is due: number, length and bytes
pub record Replied (d : Answer (List (List ℕ))) (space after : List ℕ) (number size : ℕ) : Type 0 where
  pub number_is : number ≡ number_returned d.number (leb (length (answer_text d.value)) (length space))
  pub size_is : size ≡ length_returned number (length (answer_text d.value))
  pub bytes : after ≡ written_at (text_of d.number d.value) space

-- the same of a call that returns the length of the answer, or the reason of the refusal: it says 0 and the length, or the reason's number and 0
abbrev pub RepliedBy : Answer (List (List ℕ)) → List ℕ → List ℕ → Result ℕ Refusal → Type 0
RepliedBy d space after result = Replied d space after (answer_of result).number (answer_of result).value

-- what a call yields: the reply to what is due to the text
pub record Answered (text space after : List ℕ) (number size : ℕ) : Type 0 where
  pub reply : Replied (due text) space after number size

-- the same, by the call's result
abbrev pub AnsweredBy : List ℕ → List ℕ → List ℕ → Result ℕ Refusal → Type 0
AnsweredBy text space after result = Answered text space after (answer_of result).number (answer_of result).value

-- what the program shows: the first `count` bytes of the space, which are the answer text or the refusal's line; the bytes behind them are
-- as before
pub record Shown (text space after : List ℕ) (count : ℕ) : Type 0 where
  pub count_is : count ≡ length (text_of (due text).number (due text).value)
  pub bytes : after ≡ text_of (due text).number (due text).value ++ drop count space
