-- Laws of lists of replies, each at the number of its call. Assumes nothing.
use mathlib.Core.Path.{◌≡◌, refl, sym, ap, ◌∙◌}
use mathlib.Core.Logic.{⊎_elim}
use mathlib.Core.List.{List, [], ◌∷◌, ◌++◌, map}
use Prim.Native.Nat.{ℕ, zero, suc, ◌+◌, ◌≤◌, ◌<◌}
use native.Mathlib.Omega.{arith}
use lib.ListN.{length, get_or, get_or-eq_default}
use Rattle.refusal.specs.Refusals.{Answer}
use Rattle.algebra.proofs.Sums.{le_or_lt}
use Rattle.calls.specs.Replies.{value_reply, no_answer, reply_to}

-- what stands at the number that was found
pub at_number : {A : Type 0} (l : List A) (d : A) {call k : ℕ} {v : A} → call ≡ k → v ≡ get_or l k d → v ≡ get_or l call d
at_number l d e h = h ∙ sym (ap (λ (n : ℕ). get_or l n d) e)

-- a number that no call has: 0, where nothing stands, or one behind the list
pub unnumbered : {A : Type 0} (l : List A) (d : A) (call : ℕ) → d ≡ get_or l 0 d → (0 < call → length l ≤ call) → d ≡ get_or l call d
unnumbered l d zero e h = e
unnumbered l d (suc n) e h = sym (get_or-eq_default l d {n = suc n} (h (omega arith)))

-- a number above k that is none of the next five
pub five_more : (k call : ℕ) → k < call
    → (call ≡ k + 1 → ⊥) → (call ≡ k + 2 → ⊥) → (call ≡ k + 3 → ⊥) → (call ≡ k + 4 → ⊥) → (call ≡ k + 5 → ⊥) → k + 5 < call
five_more k call l a b c d e = omega arith

-- a number that none of the replies behind the values has
pub values_kept : (l : List (Answer ℕ)) (more : List (List ℕ)) (call : ℕ) → ((k : ℕ) → k < length more → call ≡ length l + k → ⊥)
    → value_reply (get_or l call no_answer) ≡ get_or (map value_reply l ++ more) call (value_reply no_answer)
values_kept [] more call h =
    sym (get_or-eq_default more (value_reply no_answer) {n = call}
    (⊎_elim (λ (m : length more ≤ call). m) (λ (m : call < length more). absurd (h call m (omega arith))) (le_or_lt (length more) call)))
values_kept (v ∷ l) more zero h = refl
values_kept (v ∷ l) more (suc n) h = values_kept l more n (λ k m e. h k m (omega arith))

-- the same call of the same values
pub same_reply : {call call' p p' a a' b b' t t' : ℕ} {m m' : List (List ℕ)} {x x' l l' : List ℕ}
    → call ≡ call' → p ≡ p' → a ≡ a' → b ≡ b' → m ≡ m' → x ≡ x' → l ≡ l' → t ≡ t' → reply_to call p a b m x l t ≡ reply_to call' p' a' b' m' x' l' t'
same_reply d e f g h i j k = cc
