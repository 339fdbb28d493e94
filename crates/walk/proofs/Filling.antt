-- The array of a row while it is filled up, and while a place to raise is looked for. Assumes nothing.
use mathlib.Core.Path.{◌≡◌, refl, sym, ap, ◌∙◌}
use mathlib.Core.List.{List, [], ◌∷◌, ◌++◌}
use Prim.Native.Nat.{ℕ, suc, ◌+◌, ◌-◌, ◌≤◌, ◌<◌}
use native.Mathlib.Numerals.{add-one}
use native.Mathlib.Omega.{arith}
use lib.ListN.{length, get_or, take, drop, set, replicate, length-replicate, length-set, replicate-append-replicate, take-append-drop, get_or-append}
use lib.Seq.{take-suc-set, take-take, get_or-take, get_or-set_same, length-take-le, drop_at}
use borrow.Author.Tests.{eq-eqb, ne_eqb}
use Rattle.walk.specs.Steps.Successors.{free_above, eight, filled_up, raised_or, raised_below}
use Rattle.walk.proofs.Successors.{fill_front, fill_length}

module _ (letters : List ℕ) where
  -- one letter more
  fill_step : (q : List ℕ) (k j v : ℕ) → k ≡ suc j → v ≡ free_above letters q 0 → filled_up letters (q ++ v ∷ []) j ≡ filled_up letters q k
  fill_step q k j v e d =
      ap (λ (v : ℕ). filled_up letters (q ++ v ∷ []) j) d ∙ clause ∙ ap (filled_up letters q) (sym e)
    where
      clause : filled_up letters (q ++ free_above letters q 0 ∷ []) j ≡ filled_up letters q (suc j)
      clause = unfold filled_up in refl

  -- the least free letter is stored
  pub fill_turn : (r : List ℕ) (n i v : ℕ) → i < n → n ≤ length r → v ≡ free_above letters (take i r) 0
      → filled_up letters (take (i + 1) (set r i v)) (n - (i + 1)) ≡ filled_up letters (take i r) (n - i)
  fill_turn r n i v h l e =
      ap (λ (q : List ℕ). filled_up letters q (n - (i + 1))) (ap (λ (k : ℕ). take k (set r i v)) (add-one i) ∙ take-suc-set r i v (omega arith))
      ∙ fill_step (take i r) (n - i) (n - (i + 1)) v (omega arith) e

  -- nothing is left to fill
  pub fill_end : (r : List ℕ) (n i : ℕ) → i ≡ n → drop n r ≡ replicate (8 - n) 0 → r ≡ eight n (filled_up letters (take i r) (n - i))
  fill_end r n i e d =
      let none : n - i ≡ 0 = omega arith in
      sym (take-append-drop n r) ∙ ap (λ (q : List ℕ). take n r ++ q) d
      ∙ ap (eight n) (ap (λ (k : ℕ). take k r) (sym e) ∙ sym (ap (filled_up letters (take i r)) none ∙ whole (take i r)))
    where
      whole : (q : List ℕ) → filled_up letters q 0 ≡ q
      whole q = unfold filled_up in refl

-- all zeros, as an array of eight
pub eight_zeros : (n : ℕ) → n ≤ 8 → replicate 8 0 ≡ eight n (replicate n 0)
eight_zeros n h = let whole : n + (8 - n) ≡ 8 = omega arith in sym (replicate-append-replicate n (8 - n) 0 ∙ ap (λ (k : ℕ). replicate k 0) whole)

-- the entry at place i of an array whose first n entries are a row
module _ (letters row : List ℕ) (n i j v : ℕ) (is : i ≡ suc j) (inside : i ≤ n) (fits : n ≤ length row) (e : v ≡ free_above letters (take j row) (get_or row j 0)) where
  raise_clause : raised_below letters n (take n row) i ≡ raised_or letters (take j row) (n - (j + 1)) v (raised_below letters n (take n row) j)
  raise_clause =
      ap (raised_below letters n (take n row)) is
      ∙ clause
      ∙ ap (λ (k : ℕ). raised_or letters (take j (take n row)) k (free_above letters (take j (take n row)) (get_or (take n row) j 0)) (raised_below letters n (take n row) j)) (ap (λ (k : ℕ). n - k) (sym (add-one j)))
      ∙ ap (λ (q : List ℕ). raised_or letters q (n - (j + 1)) (free_above letters q (get_or (take n row) j 0)) (raised_below letters n (take n row) j)) (take-take j n row (omega arith))
      ∙ ap (λ (a : ℕ). raised_or letters (take j row) (n - (j + 1)) (free_above letters (take j row) a) (raised_below letters n (take n row) j)) (get_or-take n row j 0 (omega arith))
      ∙ ap (λ (v : ℕ). raised_or letters (take j row) (n - (j + 1)) v (raised_below letters n (take n row) j)) (sym e)
    where
      clause : raised_below letters n (take n row) (suc j)
          ≡ raised_or letters (take j (take n row)) (n - suc j) (free_above letters (take j (take n row)) (get_or (take n row) j 0)) (raised_below letters n (take n row) j)
      clause = unfold raised_below in refl

  -- it cannot be raised
  pub raise_none : v ≡ 0 → raised_below letters n (take n row) i ≡ raised_below letters n (take n row) j
  raise_none z = raise_clause ∙ go
    where
      go : raised_or letters (take j row) (n - (j + 1)) v (raised_below letters n (take n row) j) ≡ raised_below letters n (take n row) j
      go = unfold raised_or in (rw (eq-eqb v 0 z) refl)

  -- it is raised, and the row filled up
  pub raise_some : (v ≡ 0 → ⊥) → filled_up letters (take (j + 1) (set row j v)) (n - (j + 1)) ≡ raised_below letters n (take n row) i
  raise_some d =
      ap (λ (q : List ℕ). filled_up letters q (n - (j + 1))) (ap (λ (k : ℕ). take k (set row j v)) (add-one j) ∙ take-suc-set row j v (omega arith))
      ∙ sym (raise_clause ∙ go)
    where
      go : raised_or letters (take j row) (n - (j + 1)) v (raised_below letters n (take n row) j) ≡ filled_up letters (take j row ++ v ∷ []) (n - (j + 1))
      go = unfold raised_or in (rw (ne_eqb v 0 d) refl)

-- no place is left
pub raise_end : (letters row : List ℕ) (n i : ℕ) → i ≡ 0 → replicate n 0 ≡ raised_below letters n (take n row) i
unfolding raised_below
raise_end letters row n i e = rw e refl

-- the zeros behind a row of zeros
pub drop_zeros : (n : ℕ) → n ≤ 8 → drop {A = ℕ} n (replicate 8 0) ≡ replicate (8 - n) 0
drop_zeros n h = ap (drop n) (eight_zeros n h) ∙ drop_at (replicate n 0) (replicate (8 - n) 0) n (length-replicate n 0)

-- the letter that a place is raised to stands there
pub raised_there : (letters row : List ℕ) (n j v : ℕ) → j < n → n ≤ length row
    → get_or (eight n (filled_up letters (take (j + 1) (set row j v)) (n - (j + 1)))) j 0 ≡ v
raised_there letters row n j v l h =
    let start = take (j + 1) (set row j v) in
    let long : length start ≡ j + 1 = length-take-le (j + 1) (set row j v) (omega (arith, length-set row j v)) in
    let filled = fill_length letters start (n - (j + 1)) in
    get_or-append (filled_up letters start (n - (j + 1))) (replicate (8 - n) 0) 0 j (omega arith)
    ∙ fill_front letters start (n - (j + 1)) j (omega arith)
    ∙ get_or-take (j + 1) (set row j v) j 0 (omega arith)
    ∙ get_or-set_same row j v 0 (omega arith)
