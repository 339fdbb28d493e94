-- The table of all products: what its entries are, and how a product is looked up. Assumes nothing.
use mathlib.Core.Path.{◌≡◌, sym, ap, ap₂, ◌∙◌}
use mathlib.Core.Bool.{cond}
use mathlib.Core.List.{List}
use Prim.Native.Nat.{ℕ, ◌+◌, ◌-◌, ◌*◌, ◌/◌, ◌%◌, ◌^◌, ◌≤◌, ◌<◌}
use native.Mathlib.Decide.{dec_lt}
use native.Mathlib.Omega.{arith}
use lib.ListN.{length, get_or, set, length-set}
use lib.Seq.{get_or-set_same, get_or-set_other}
use borrow.Author.Count.{below_more}
use borrow.Author.Tests.{lt-ltb, le-ltb}
use Rattle.field.specs.Polynomial.{degree, product, Products, product_at}
use Rattle.field.proofs.Field.{times_zero_r}

-- the entry of an element and a byte
entry_element : (p i : ℕ) → i / 256 < 2 ^ degree p → product_at p i ≡ product p (i / 256) (i % 256)
unfolding product_at
entry_element p i l = ap (λ t. cond t (product p (i / 256) (i % 256)) 0) (lt-ltb (i / 256) (2 ^ degree p) l)

-- behind the elements
entry_behind : (p i : ℕ) → 2 ^ degree p ≤ i / 256 → product_at p i ≡ 0
unfolding product_at
entry_behind p i l = ap (λ t. cond t (product p (i / 256) (i % 256)) 0) (le-ltb (i / 256) (2 ^ degree p) l)

-- a product, looked up
pub looked_up : (p a b : ℕ) (table : List ℕ) → a < 256 → b < 256 → a < 2 ^ degree p → Products p table → get_or table (a * 256 + b) 0 ≡ product p a b
unfolding Products
looked_up p a b table la lb l h =
    let high : (a * 256 + b) / 256 ≡ a = omega arith in
    let low : (a * 256 + b) % 256 ≡ b = omega arith in
    h (a * 256 + b) (omega arith) ∙ entry_element p (a * 256 + b) (rw high l) ∙ ap₂ (product p) high low

-- an array filled up to place k: one more store keeps what is there, and adds place k
pub entries_more : {A : Type 0} (P : ℕ → A → Type 0) (r : List A) (k : ℕ) (a d : A) → k < length r → ((i : ℕ) → i < k → P i (get_or r i d)) → P k a
    → (i : ℕ) → i < k + 1 → P i (get_or (set r k a) i d)
entries_more P r k a d h before now =
    below_more (λ i. P i (get_or (set r k a) i d)) k (λ i l. rw (get_or-set_other r k i a d (λ e. omega arith)) (before i l)) (rw (get_or-set_same r k a d h) now)

-- the table that has its first i entries, and 0 behind them
pub record Filled (p i : ℕ) (table : List ℕ) : Type 0 where
  pub size : length table ≡ 65536
  pub entries : (j : ℕ) → j < i → get_or table j 0 ≡ product_at p j
  pub behind : (j : ℕ) → i ≤ j → j < 65536 → get_or table j 0 ≡ 0

-- none yet
pub filled_none : (p : ℕ) (table : List ℕ) → length table ≡ 65536 → ((j : ℕ) → j < 65536 → get_or table j 0 ≡ 0) → Filled p 0 table
filled_none p table e z = record { size = e; entries = λ j l. absurd (omega arith); behind = λ j l m. z j m }

-- one more is stored
pub filled_more : (p i : ℕ) (table : List ℕ) → i < 65536 → i / 256 < 2 ^ degree p → Filled p i table → (v : ℕ) → v ≡ product p (i / 256) (i % 256)
    → Filled p (i + 1) (set table i v)
filled_more p i table l e f v is =
    record {
      size = length-set table i v ∙ f.size;
      entries = entries_more (λ j x. x ≡ product_at p j) table i v 0 (omega (arith, f.size)) f.entries (is ∙ sym (entry_element p i e));
      behind = λ j m q. get_or-set_other table i j v 0 (λ (e : j ≡ i). omega arith) ∙ f.behind j (omega arith) q;
    }

-- the place of an element and half of a byte
pub half_place : (i : ℕ) → i - i % 256 + i % 256 / 2 ≡ i / 256 * 256 + i % 256 / 2
half_place i = omega arith

-- the product with half of the byte is there already; that with 0 is 0
pub filled_half : (p i : ℕ) (table : List ℕ) → i < 65536 → i / 256 < 2 ^ degree p → Filled p i table
    → get_or table (i - i % 256 + i % 256 / 2) 0 ≡ product p (i / 256) (i % 256 / 2)
filled_half p i table l e f =
    let place = half_place i in
    let high : (i / 256 * 256 + i % 256 / 2) / 256 ≡ i / 256 = omega arith in
    let low : (i / 256 * 256 + i % 256 / 2) % 256 ≡ i % 256 / 2 = omega arith in
    elim (dec_lt (i - i % 256 + i % 256 / 2) i) [
      | yes h ↦
          f.entries (i - i % 256 + i % 256 / 2) h
          ∙ ap (product_at p) place
          ∙ entry_element p (i / 256 * 256 + i % 256 / 2) (rw high e)
          ∙ ap₂ (product p) high low
      | no h ↦
          let none : i % 256 / 2 ≡ 0 = omega arith in
          f.behind (i - i % 256 + i % 256 / 2) (omega arith) (omega arith) ∙ sym (rw none (times_zero_r p (i / 256)))
    ]

-- all of the elements
pub filled_all : (p i : ℕ) (table : List ℕ) → i ≡ 256 * 2 ^ degree p → Filled p i table → Products p table
unfolding Products
filled_all p i table e f j l = elim (dec_lt j i) [
  | yes h ↦ f.entries j h
  | no h ↦ f.behind j (omega arith) l ∙ sym (entry_behind p j (omega arith))
]
