-- Laws of arrays that a loop fills from the front, of eight lines, and of the bytes of numbers. Assumes nothing.
use mathlib.Core.Path.{◌≡◌, refl, sym, ap, ap₂, ◌∙◌}
use mathlib.Core.List.{List, [], ◌∷◌, ◌++◌}
use Prim.Native.Nat.{ℕ, zero, suc, ◌+◌, ◌-◌, ◌*◌, ◌/◌, ◌%◌, ◌≤◌, ◌<◌, min}
use native.Mathlib.Numerals.{add-one}
use native.Mathlib.Decide.{dec_lt}
use native.Mathlib.Omega.{arith}
use lib.ListN.{length, get_or, take, drop, replicate, take-append-drop, length-append, length-take, length-drop, get_or-append}
use lib.Seq.{take_all, take-suc, drop-cons, drop-length, ext_get_or, get_or-take, get_or-drop, get_or-append-add}
use Rattle.std.specs.Int.{w32, to_le_bytes}
use Rattle.std.proofs.lemmas.Slice.{take-put_mid}
use borrow.Rule.Slice.PartMut.{put_mid}
use Rattle.calls.specs.Records.{byte_of, as_bytes}

-- ---- eight elements of a list, one by one

module _ {A : Type 0} (d : A) (w : List A) (h : length w ≡ 8) where
  from : (i : ℕ) {v : A} {rest : List A} → i < 8 → v ≡ get_or w i d → rest ≡ drop (suc i) w → v ∷ rest ≡ drop i w
  from i l e r = ap₂ (λ (v : A) (rest : List A). v ∷ rest) e r ∙ sym (drop-cons w i d (omega arith))

  none_left : [] ≡ drop 8 w
  none_left = sym (ap (λ (n : ℕ). drop n w) (sym h) ∙ drop-length w)

  pub eight_elements : (f : ℕ → A) → ((i : ℕ) → i < 8 → get_or w i d ≡ f i) → w ≡ f 0 ∷ f 1 ∷ f 2 ∷ f 3 ∷ f 4 ∷ f 5 ∷ f 6 ∷ f 7 ∷ []
  eight_elements f e =
      let at : (i : ℕ) → i < 8 → f i ≡ get_or w i d = λ i l. sym (e i l) in
      sym (from 0 (omega arith) (at 0 (omega arith))
      (from 1 (omega arith) (at 1 (omega arith))
      (from 2 (omega arith) (at 2 (omega arith))
      (from 3 (omega arith) (at 3 (omega arith))
      (from 4 (omega arith) (at 4 (omega arith))
      (from 5 (omega arith) (at 5 (omega arith))
      (from 6 (omega arith) (at 6 (omega arith))
      (from 7 (omega arith) (at 7 (omega arith)) none_left))))))))

-- ---- the bytes of numbers

pub bytes_append : (a b : List ℕ) → as_bytes (a ++ b) ≡ as_bytes a ++ as_bytes b
unfolding as_bytes
bytes_append [] b = refl
bytes_append (v ∷ vs) b = rw (bytes_append vs b) refl

-- four for each number
pub length_bytes : (l : List ℕ) → length (as_bytes l) ≡ length l * 4
unfolding as_bytes
length_bytes [] = refl
length_bytes (v ∷ vs) = omega (arith, length_bytes vs)

pub byte_at : (l : List ℕ) (i : ℕ) → i < length l * 4 → byte_of (get_or l (i / 4) 0) (i % 4) ≡ get_or (as_bytes l) i 0
unfolding as_bytes
byte_at [] i h = absurd (let z : ⊥ = omega arith in z)
byte_at (v ∷ vs) zero h = refl
byte_at (v ∷ vs) (suc zero) h = refl
byte_at (v ∷ vs) (suc (suc zero)) h = refl
byte_at (v ∷ vs) (suc (suc (suc zero))) h = refl
byte_at (v ∷ vs) (suc (suc (suc (suc k)))) h =
    let number : suc (suc (suc (suc k))) / 4 ≡ suc (k / 4) = omega arith in
    let place : suc (suc (suc (suc k))) % 4 ≡ k % 4 = omega arith in
    ap₂ (λ (a b : ℕ). byte_of (get_or (v ∷ vs) a 0) b) number place ∙ byte_at vs k (omega arith)

-- those of one number
four_bytes : (v : ℕ) → to_le_bytes w32 v ≡ as_bytes (v ∷ [])
unfolding as_bytes
four_bytes v = ap (λ (x : ℕ). x % 256 ∷ v / 256 % 256 ∷ v / 65536 % 256 ∷ v / 16777216 % 256 ∷ []) (let e : v ≡ v / 1 = omega arith in e)

-- those of one more number
pub bytes_more : (l bytes four : List ℕ) (i k : ℕ) → i < length l → take (4 * i) bytes ≡ as_bytes (take i l) → 4 * i ≤ length bytes
    → four ≡ to_le_bytes w32 (get_or l i 0) → take (4 * (i + 1)) (put_mid (4 * i) k bytes four) ≡ as_bytes (take (i + 1) l)
unfolding as_bytes
bytes_more l bytes four i k h e fits d =
    let size : length four ≡ 4 = rw d refl in
    take-put_mid (4 * i) k bytes four (4 * (i + 1)) (omega arith) fits
    ∙ ap₂ ◌++◌ e (d ∙ four_bytes (get_or l i 0))
    ∙ sym (rw (add-one, take-suc l i 0 h) (bytes_append (take i l) (get_or l i 0 ∷ [])))

-- ---- arrays that hold the elements of lists

pub zeros : (n k : ℕ) → get_or (replicate {A = ℕ} n 0) k 0 ≡ 0
zeros zero k = refl
zeros (suc n) zero = refl
zeros (suc n) (suc k) = zeros n k

-- bytes 16 to 79, and zeros behind them
pub stored_of : (bytes values : List ℕ) → 80 ≤ length bytes → length values ≡ 256 → ((k : ℕ) → k < 64 → get_or values k 0 ≡ get_or bytes (16 + k) 0)
    → ((k : ℕ) → 64 ≤ k → get_or values k 0 ≡ 0) → values ≡ take 64 (drop 16 bytes) ++ replicate 192 0
stored_of bytes values h e first behind =
    let many : length (take 64 (drop 16 bytes)) ≡ 64 = simp (length-take, length-drop) (omega arith) in
    ext_get_or 0 values (take 64 (drop 16 bytes) ++ replicate 192 0) (e ∙ sym (length-append _ (replicate 192 0) ∙ ap (λ (n : ℕ). n + 192) many)) (λ k l.
    elim (dec_lt k 64) [
      | yes m ↦ first k m ∙ sym (get_or-append (take 64 (drop 16 bytes)) (replicate 192 0) 0 k (rw many m) ∙ get_or-take 64 (drop 16 bytes) k 0 m ∙ get_or-drop 16 bytes k 0)
      | no m ↦ behind k (omega arith) ∙ sym (later k (omega arith))
    ])
  where
    later : (k : ℕ) → 64 ≤ k → get_or (take 64 (drop 16 bytes) ++ replicate 192 0) k 0 ≡ 0
    later k l =
        let at : k ≡ length (take 64 (drop 16 bytes)) + (k - 64) = simp (length-take, length-drop) (omega arith) in
        ap (λ (n : ℕ). get_or (take 64 (drop 16 bytes) ++ replicate 192 0) n 0) at ∙ get_or-append-add (take 64 (drop 16 bytes)) (replicate 192 0) (k - 64) 0 ∙ zeros 192 (k - 64)

-- five numbers, and eight behind them
pub thirteen : (reply first words : List ℕ) → length reply ≡ 13 → length words ≡ 8 → take 5 reply ≡ first
    → ((k : ℕ) → k < 8 → get_or reply (5 + k) 0 ≡ get_or words k 0) → reply ≡ first ++ words
thirteen reply first words h k e rest =
    sym (take-append-drop 5 reply)
    ∙ ap₂ ◌++◌ e (ext_get_or 0 (drop 5 reply) words (length-drop 5 reply ∙ omega arith) (λ i l. get_or-drop 5 reply i 0 ∙ rest i (omega (arith, length-drop 5 reply))))

-- at most 256 of 256 elements are as many as there are
pub at_most_all : (l : List ℕ) (n : ℕ) → length l ≡ 256 → take (min n 256) l ≡ take n l
at_most_all l n h = elim (dec_lt n 256) [
  | yes m ↦ let same : min n 256 ≡ n = omega arith in ap (λ (k : ℕ). take k l) same
  | no m ↦ take_all (min n 256) l (omega arith) ∙ sym (take_all n l (omega arith))
]
