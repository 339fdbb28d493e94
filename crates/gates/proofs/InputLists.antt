-- Lists of inputs: how the loop that gathers them goes on, and the carrier by how many there are. Assumes nothing.
use mathlib.Core.Path.{◌≡◌, refl, ap, ◌∙◌}
use mathlib.Core.Bool.{Bool, true, false}
use mathlib.Core.List.{List, [], ◌∷◌, ◌++◌, append-nil}
use Prim.Native.Nat.{ℕ, zero, suc, ◌+◌, ◌-◌, ◌*◌, ◌≤◌, ◌<◌}
use native.Mathlib.Nat.{add-zero}
use native.Mathlib.Omega.{arith}
use lib.ListN.{length, get_or}
use Rattle.field.specs.Polynomial.{Modulus, degree}
use Rattle.field.specs.Table.{keep_if, passing}
use Rattle.field.proofs.Degrees.{polynomial}
use Rattle.field.proofs.Completeness.{passing_append}
use Rattle.gates.specs.Gates.{is_input, inputs_of, carrier_of}

-- ---- input bits

-- a word has from 2 to 8 bits
pub width : (p m : ℕ) → Modulus p → m ≡ degree p → (0 < m) × (m ≤ 8)
width p m h e = let d = polynomial p h in (omega (arith, d.least), omega (arith, d.most))

-- ---- gathering

-- one number more was looked at
passing_one : (t : ℕ → Bool) (v : ℕ) → passing t (v + 1) 0 ≡ passing t v 0 ++ keep_if (t v) v []
unfolding passing
passing_one t v = passing_append t v 1 0 ∙ ap (λ (k : ℕ). passing t v 0 ++ keep_if (t k) k []) (add-zero v)

pub passing_few : (t : ℕ → Bool) (n s : ℕ) → length (passing t n s) ≤ n
unfolding passing
passing_few t zero s = omega arith
passing_few t (suc n) s = kept (t s) (passing t n (suc s)) (passing_few t n (suc s))
  where
    kept : (b : Bool) (l : List ℕ) → length l ≤ n → length (keep_if b s l) ≤ suc n
    kept true l h = omega arith
    kept false l h = omega arith

-- an output bit has at most as many inputs as there are input bits
pub inputs_few : (p n b : ℕ) (line : ℕ → ℕ) → length (inputs_of p n line b) ≤ n * degree p
unfolding inputs_of
inputs_few p n b line = passing_few (is_input p line b) (n * degree p) 0

-- no number was looked at
pub passing_none : (t : ℕ → Bool) → [] ≡ passing t 0 0
unfolding passing
passing_none t = refl

-- after a number that does not pass
pub passing_left : (t : ℕ → Bool) (v : ℕ) → t v ≡ false → passing t (v + 1) 0 ≡ passing t v 0
passing_left t v h = passing_one t v ∙ ap (λ (b : Bool). passing t v 0 ++ keep_if b v []) h ∙ append-nil (passing t v 0)

-- after one that passes
pub passing_taken : (t : ℕ → Bool) (v : ℕ) → t v ≡ true → passing t (v + 1) 0 ≡ passing t v 0 ++ (v ∷ [])
passing_taken t v h = passing_one t v ∙ ap (λ (b : Bool). passing t v 0 ++ keep_if b v []) h

-- ---- the carrier, by how many inputs there are

pub carrier_none : (next : ℕ) (l : List ℕ) → length l ≡ 0 → 999999 ≡ carrier_of next l
unfolding carrier_of
carrier_none next [] e = refl
carrier_none next (v ∷ l) e = let z : ⊥ = omega arith in absurd z

pub carrier_one : (next : ℕ) (l : List ℕ) → length l ≡ 1 → get_or l 0 0 ≡ carrier_of next l
unfolding carrier_of
carrier_one next [] e = let z : ⊥ = omega arith in absurd z
carrier_one next (v ∷ []) e = refl
carrier_one next (v ∷ w ∷ l) e = let z : ⊥ = omega arith in absurd z

pub carrier_more : (next : ℕ) (l : List ℕ) → (length l ≡ 0 → ⊥) → (length l ≡ 1 → ⊥) → next + (length l - 2) ≡ carrier_of next l
unfolding carrier_of
carrier_more next [] h k = absurd (h refl)
carrier_more next (v ∷ []) h k = absurd (k refl)
carrier_more next (v ∷ w ∷ l) h k = ap (λ (x : ℕ). next + x) (omega arith)
