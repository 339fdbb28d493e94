-- Laws of lists of faults: the first that is there, in a list that is taken apart or put together. Assumes nothing.
use mathlib.Core.Path.{◌≡◌, refl, sym, ap, ap₂, ◌∙◌}
use mathlib.Core.Logic.{◌↔◌, ◌⊎◌, inl, inr, ⊎_elim}
use mathlib.Core.Bool.{Bool, true, false, cond, not, ◌&&◌, true≢false}
use mathlib.Core.List.{List, [], ◌∷◌, ◌++◌, Memᴰ}
use Prim.Native.Nat.{ℕ, zero, suc, ◌≤◌, ◌<◌}
use native.Mathlib.Nat.{le_of_eq}
use borrow.Author.Tests.{ltb-true, eqb-false, leb-true}
use native.Mathlib.Omega.{arith}
use lib.Dec.{eqb, leb, ltb, lit≤}
use Rattle.refusal.specs.declared.Refusal.{Refusal}
use Rattle.refusal.specs.declared.Refusal.TheVariants.{Form, Kind, PolynomialRange, Reducible, OrderRange, CountRange, ValueRange, BadCandidate, NoRow, ShortSpace}
use Rattle.refusal.specs.Refusals.{number_of, Fault, fault, first_number, Applies, LowestOf, lowest, none, Answer, answer, unless_refused, answer_after}

-- no number of a refusal is 0
pub number_not_zero : (r : Refusal) → number_of r ≡ 0 → ⊥
number_not_zero Form e = let z : ◌≡◌ {A = ℕ} 1 0 = e in omega arith
number_not_zero Kind e = let z : ◌≡◌ {A = ℕ} 2 0 = e in omega arith
number_not_zero PolynomialRange e = let z : ◌≡◌ {A = ℕ} 3 0 = e in omega arith
number_not_zero Reducible e = let z : ◌≡◌ {A = ℕ} 4 0 = e in omega arith
number_not_zero OrderRange e = let z : ◌≡◌ {A = ℕ} 5 0 = e in omega arith
number_not_zero CountRange e = let z : ◌≡◌ {A = ℕ} 6 0 = e in omega arith
number_not_zero ValueRange e = let z : ◌≡◌ {A = ℕ} 7 0 = e in omega arith
number_not_zero BadCandidate e = let z : ◌≡◌ {A = ℕ} 8 0 = e in omega arith
number_not_zero NoRow e = let z : ◌≡◌ {A = ℕ} 9 0 = e in omega arith
number_not_zero ShortSpace e = let z : ◌≡◌ {A = ℕ} 10 0 = e in omega arith

-- every number of a refusal fits a line's columns
pub number_le : (r : Refusal) → number_of r ≤ 10
number_le Form = lit≤ tt
number_le Kind = lit≤ tt
number_le PolynomialRange = lit≤ tt
number_le Reducible = lit≤ tt
number_le OrderRange = lit≤ tt
number_le CountRange = lit≤ tt
number_le ValueRange = lit≤ tt
number_le BadCandidate = lit≤ tt
number_le NoRow = lit≤ tt
number_le ShortSpace = lit≤ tt

-- ---- the first number

pub first_empty : first_number [] ≡ 0
unfolding first_number
first_empty = refl

-- the first fault is there, or it is not
pub first_taken : (n : ℕ) (b : Bool) (rest : List Fault) → b ≡ true → first_number (fault n b ∷ rest) ≡ n
unfolding first_number
first_taken n b rest e = ap (λ (x : Bool). cond x n (first_number rest)) e

pub first_left : (n : ℕ) (b : Bool) (rest : List Fault) → b ≡ false → first_number (fault n b ∷ rest) ≡ first_number rest
unfolding first_number
first_left n b rest e = ap (λ (x : Bool). cond x n (first_number rest)) e

-- another number than the first fault's: it is not there
pub first_passed : (n m : ℕ) (b : Bool) (rest : List Fault) → (n ≡ m → ⊥) → first_number (fault n b ∷ rest) ≡ m → (b ≡ false) × (first_number rest ≡ m)
unfolding first_number
first_passed n m true rest h e = absurd (h e)
first_passed n m false rest h e = (refl, e)

-- no number of the list is 0: a computed test
abbrev not_zero : ℕ → Bool
not_zero zero = false
not_zero (suc n) = true

unfoldable pub numbered : List Fault → Bool
numbered [] = true
numbered (f ∷ rest) = not_zero f.number && numbered rest

-- a list behind another is looked at where the other tells nothing
pub first_later : (l r : List Fault) → numbered l ≡ true → first_number l ≡ 0 → first_number (l ++ r) ≡ first_number r
unfolding first_number numbered
first_later [] r h e = refl
first_later (f ∷ l) r h e = go f.applies f.number (λ k d. first_later l r k d) h e
  where
    go : (b : Bool) (n : ℕ) → (numbered l ≡ true → first_number l ≡ 0 → first_number (l ++ r) ≡ first_number r) → (not_zero n && numbered l) ≡ true → cond b n (first_number l) ≡ 0 → cond b n (first_number (l ++ r)) ≡ first_number r
    go b zero rest k d = absurd (true≢false (sym k))
    go true (suc n) rest k d = absurd (let z : ⊥ = omega arith in z)
    go false (suc n) rest k d = rest k d

pub first_before : (l r : List Fault) (n : ℕ) → first_number l ≡ suc n → first_number (l ++ r) ≡ suc n
unfolding first_number
first_before [] r n e = absurd (let z : ⊥ = omega arith in z)
first_before (f ∷ l) r n e = go f.applies (λ d. first_before l r n d) e
  where
    go : (b : Bool) → (first_number l ≡ suc n → first_number (l ++ r) ≡ suc n) → cond b f.number (first_number l) ≡ suc n → cond b f.number (first_number (l ++ r)) ≡ suc n
    go true rest d = d
    go false rest d = rest d

-- behind the same list, lists that tell the same are the same
pub first_behind : (l r s : List Fault) → first_number r ≡ first_number s → first_number (l ++ r) ≡ first_number (l ++ s)
unfolding first_number
first_behind [] r s e = e
first_behind (f ∷ l) r s e = ap (cond f.applies f.number) (first_behind l r s e)

-- two lists that tell nothing together tell nothing apart
pub first_parts : (l r : List Fault) → numbered l ≡ true → first_number (l ++ r) ≡ 0 → (first_number l ≡ 0) × (first_number r ≡ 0)
first_parts l r h e = go (first_number l) refl
  where
    go : (n : ℕ) → first_number l ≡ n → (n ≡ 0) × (first_number r ≡ 0)
    go zero d = (refl, sym (first_later l r h d) ∙ e)
    go (suc n) d = let z : ⊥ = omega (arith, first_before l r n d) in absurd z

-- ---- the numbers that apply

-- the first number applies
pub first_applies : (l : List Fault) (n : ℕ) → first_number l ≡ suc n → Applies l (suc n)
unfolding first_number Applies
first_applies [] n e = absurd (let z : ⊥ = omega arith in z)
first_applies (f ∷ l) n e = go f.applies refl e (λ d. first_applies l n d)
  where
    go : (b : Bool) → f.applies ≡ b → cond b f.number (first_number l) ≡ suc n → (first_number l ≡ suc n → Memᴰ (fault (suc n) true) l)
        → Memᴰ (fault (suc n) true) (f ∷ l)
    go true d k rest = mathlib.Core.List.Memᴰ.head (ap₂ fault (sym k) (sym d))
    go false d k rest = mathlib.Core.List.Memᴰ.tail (rest k)

-- no number applies where the first is 0, and only there
pub first_none : (l : List Fault) → numbered l ≡ true → first_number l ≡ 0 → (k : ℕ) → Applies l k → ⊥
unfolding first_number Applies numbered
first_none [] h e k m = mathlib.Core.List.Memᴰ.not-nil m
first_none (f ∷ l) h e k m = go f.applies f.number refl h e (mathlib.Core.List.Memᴰ.cases_cons m) (λ x d y. first_none l x d k y)
  where
    go : (b : Bool) (n : ℕ) → f.applies ≡ b → (not_zero n && numbered l) ≡ true → cond b n (first_number l) ≡ 0
        → (fault k true ≡ f) ⊎ Memᴰ (fault k true) l → (numbered l ≡ true → first_number l ≡ 0 → Memᴰ (fault k true) l → ⊥) → ⊥
    go b zero d x y c rest = true≢false (sym x)
    go true (suc n) d x y c rest = omega arith
    go false (suc n) d x y (inl q) rest = true≢false (ap (λ (g : Fault). g.applies) q ∙ d)
    go false (suc n) d x y (inr q) rest = rest x y q

pub none_first : (l : List Fault) → ((k : ℕ) → Applies l k → ⊥) → first_number l ≡ 0
none_first l h = go (first_number l) refl
  where
    go : (n : ℕ) → first_number l ≡ n → n ≡ 0
    go zero e = refl
    go (suc n) e = absurd (h (suc n) (first_applies l n e))

-- a fault that is there is the first of the list, or one behind it
pub fault_here : (n : ℕ) {b : Bool} {rest : List Fault} → b ≡ true → Memᴰ (fault n true) (fault n b ∷ rest)
fault_here n e = mathlib.Core.List.Memᴰ.head (ap (fault n) (sym e))

pub fault_cases : {P : Type 0} (n : ℕ) {b : Bool} {rest : List Fault} {k : ℕ} → (k ≡ n → b ≡ true → P) → (Memᴰ (fault k true) rest → P)
    → Memᴰ (fault k true) (fault n b ∷ rest) → P
fault_cases n {b} {k = k} here behind m =
    ⊎_elim (λ (e : fault k true ≡ fault n b). here (ap (λ (g : Fault). g.number) e) (sym (ap (λ (g : Fault). g.applies) e))) behind (mathlib.Core.List.Memᴰ.cases_cons m)

-- a fault of the list whose number does not apply is not there
pub absent : (l : List Fault) (k : ℕ) (b : Bool) → Memᴰ (fault k b) l → (Applies l k → ⊥) → b ≡ false
unfolding Applies
absent l k true m h = absurd (h m)
absent l k false m h = refl

-- no number of the list is this one: a computed test
unfoldable pub lacks : ℕ → List Fault → Bool
lacks k [] = true
lacks k (f ∷ rest) = not (eqb k f.number) && lacks k rest

pub lacks_applies : (k : ℕ) (l : List Fault) → lacks k l ≡ true → Applies l k → ⊥
unfolding lacks Applies
lacks_applies k [] h m = mathlib.Core.List.Memᴰ.not-nil m
lacks_applies k (f ∷ l) h m = go (eqb k f.number) refl h (mathlib.Core.List.Memᴰ.cases_cons m) (λ x y. lacks_applies k l x y)
  where
    go : (b : Bool) → eqb k f.number ≡ b → (not b && lacks k l) ≡ true → (fault k true ≡ f) ⊎ Memᴰ (fault k true) l
        → (lacks k l ≡ true → Memᴰ (fault k true) l → ⊥) → ⊥
    go true d x c rest = true≢false (sym x)
    go false d x (inl q) rest = eqb-false k f.number d (ap (λ (g : Fault). g.number) q)
    go false d x (inr q) rest = rest x q

-- no number of the list is above k: a computed test
unfoldable pub most : ℕ → List Fault → Bool
most k [] = true
most k (f ∷ rest) = leb f.number k && most k rest

-- what applies is not above k
pub applies_most : (k : ℕ) (l : List Fault) → most k l ≡ true → (j : ℕ) → Applies l j → j ≤ k
unfolding most Applies
applies_most k [] h j m = absurd (mathlib.Core.List.Memᴰ.not-nil m)
applies_most k (f ∷ l) h j m = go (leb f.number k) refl h (mathlib.Core.List.Memᴰ.cases_cons m) (λ x y. applies_most k l x j y)
  where
    go : (b : Bool) → leb f.number k ≡ b → (b && most k l) ≡ true → (fault j true ≡ f) ⊎ Memᴰ (fault j true) l
        → (most k l ≡ true → Memᴰ (fault j true) l → j ≤ k) → j ≤ k
    go true d x (inl q) rest = rw (ap (λ (g : Fault). g.number) q) (leb-true f.number k d)
    go true d x (inr q) rest = rest x q
    go false d x c rest = absurd (true≢false (sym x))

-- the numbers of the list ascend from above k on: a computed test
unfoldable pub ascends : ℕ → List Fault → Bool
ascends k [] = true
ascends k (f ∷ rest) = ltb k f.number && ascends f.number rest

ascends_split : (k n : ℕ) (rest : List Fault) → (ltb k n && ascends n rest) ≡ true → (k < n) × (ascends n rest ≡ true)
ascends_split k n rest h = go (ltb k n) refl h
  where
    go : (b : Bool) → ltb k n ≡ b → (b && ascends n rest) ≡ true → (k < n) × (ascends n rest ≡ true)
    go true d x = (ltb-true k n d, x)
    go false d x = absurd (true≢false (sym x))

-- what applies is above k
pub applies_above : (k : ℕ) (l : List Fault) → ascends k l ≡ true → (j : ℕ) → Applies l j → k < j
unfolding Applies ascends
applies_above k [] h j m = absurd (mathlib.Core.List.Memᴰ.not-nil m)
applies_above k (f ∷ l) h j m =
    let w = ascends_split k f.number l h in
    ⊎_elim (λ (q : fault j true ≡ f). rw (ap (λ (g : Fault). g.number) q) w.0)
    (λ (q : Memᴰ (fault j true) l). let r = applies_above f.number l w.1 j q in omega arith) (mathlib.Core.List.Memᴰ.cases_cons m)

-- the first number of such a list is the lowest that applies
pub first_lowest : (k : ℕ) (l : List Fault) → ascends k l ≡ true → (j : ℕ) → Applies l j → first_number l ≤ j
unfolding Applies ascends first_number
first_lowest k [] h j m = absurd (mathlib.Core.List.Memᴰ.not-nil m)
first_lowest k (f ∷ l) h j m = go f.applies refl (mathlib.Core.List.Memᴰ.cases_cons m) (λ q. first_lowest f.number l (ascends_split k f.number l h).1 j q)
  where
    go : (b : Bool) → f.applies ≡ b → (fault j true ≡ f) ⊎ Memᴰ (fault j true) l → (Memᴰ (fault j true) l → first_number l ≤ j) → cond b f.number (first_number l) ≤ j
    go true d (inl q) rest = le_of_eq (sym (ap (λ (g : Fault). g.number) q))
    go true d (inr q) rest = let r = applies_above f.number l (ascends_split k f.number l h).1 j q in omega arith
    go false d (inl q) rest = absurd (true≢false (ap (λ (g : Fault). g.applies) q ∙ d))
    go false d (inr q) rest = rest q

-- the number that a call with such a list returns: the lowest that applies, or 0
pub lowest_after : {A : Type 0} (empty value : A) (l : List Fault) → numbered l ≡ true → ascends 0 l ≡ true → LowestOf (Applies l) (answer_after empty l value).number
unfolding answer_after
lowest_after empty value l h a = go (first_number l) refl
  where
    go : (n : ℕ) → first_number l ≡ n → LowestOf (Applies l) (unless_refused empty n value).number
    go zero e = none (first_none l h e) refl
    go (suc n) e = lowest (first_applies l n e) (λ k m. rw e at (first_lowest 0 l a k m))

-- numbers that have the same have the same lowest
pub lowest_same : {P Q : ℕ → Type 0} → ((k : ℕ) → P k ↔ Q k) → {n : ℕ} → LowestOf P n → LowestOf Q n
lowest_same same {n} (lowest h least) = lowest ((same n).0 h) (λ k q. least k ((same k).1 q))
lowest_same same (none h e) = none (λ k q. h k ((same k).1 q)) e

-- ---- what follows from a list

module _ {A : Type 0} (empty value : A) where
  -- nothing is told
  pub after_none : (l : List Fault) → first_number l ≡ 0 → answer 0 value ≡ answer_after empty l value
  unfolding answer_after
  after_none l e = ap (λ (n : ℕ). unless_refused empty n value) (sym e)

  pub after_empty : answer 0 value ≡ answer_after empty [] value
  after_empty = after_none [] first_empty

  -- a number is told
  pub after_number : (l : List Fault) (n : ℕ) → first_number l ≡ n → (n ≡ 0 → ⊥) → answer n empty ≡ answer_after empty l value
  unfolding answer_after
  after_number l n e h = at n h ∙ ap (λ (k : ℕ). unless_refused empty k value) (sym e)
    where
      at : (k : ℕ) → (k ≡ 0 → ⊥) → answer k empty ≡ unless_refused empty k value
      at zero f = absurd (f refl)
      at (suc k) f = refl

  -- the number and the value
  pub after_number_is : (l : List Fault) → (answer_after empty l value).number ≡ first_number l
  unfolding answer_after
  after_number_is l = at (first_number l)
    where
      at : (n : ℕ) → (unless_refused empty n value).number ≡ n
      at zero = refl
      at (suc n) = refl

  pub after_value : (l : List Fault) → first_number l ≡ 0 → (answer_after empty l value).value ≡ value
  after_value l e = sym (ap (λ (a : Answer A). a.value) (after_none l e))

  -- two lists with the same first number
  pub after_same : (l r : List Fault) → first_number l ≡ first_number r → answer_after empty l value ≡ answer_after empty r value
  unfolding answer_after
  after_same l r e = ap (λ (n : ℕ). unless_refused empty n value) e

  -- the first fault is there, or it is not
  pub after_taken : (r : Refusal) (b : Bool) (rest : List Fault) → b ≡ true → answer (number_of r) empty ≡ answer_after empty (fault (number_of r) b ∷ rest) value
  after_taken r b rest e = after_number _ (number_of r) (first_taken (number_of r) b rest e) (number_not_zero r)

  pub after_left : (n : ℕ) (b : Bool) (rest : List Fault) → b ≡ false → answer_after empty rest value ≡ answer_after empty (fault n b ∷ rest) value
  after_left n b rest e = sym (after_same _ _ (first_left n b rest e))

  -- the list before tells nothing
  pub after_later : (l r : List Fault) → numbered l ≡ true → first_number l ≡ 0 → answer_after empty r value ≡ answer_after empty (l ++ r) value
  after_later l r h e = sym (after_same _ _ (first_later l r h e))

-- ---- a result that is matched

-- a reason whose number is that of the first fault of a list: so is every call refused that looks at these faults first
pub refused_before : {A : Type 0} (empty value : A) (l more : List Fault) (r : Refusal) → number_of r ≡ first_number l → answer (number_of r) empty ≡ answer_after empty (l ++ more) value
refused_before empty value l more r e = after_number empty value (l ++ more) (number_of r) (told (number_of r) (number_not_zero r) (sym e)) (number_not_zero r)
  where
    told : (n : ℕ) → (n ≡ 0 → ⊥) → first_number l ≡ n → first_number (l ++ more) ≡ n
    told zero h f = absurd (h refl)
    told (suc n) h f = first_before l more n f
