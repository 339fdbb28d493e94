-- Laws for a recursive program that extends a prefix letter by letter: the fold over the completions of a prefix is, letter by
-- letter, the fold over the completions of the longer prefix; and where no completion changes the row kept, it is that row.
-- Assumes nothing.
use mathlib.Core.Path.{◌≡◌, refl, sym, ap, ◌∙◌}
use mathlib.Core.Logic.{◌↔◌, ⊎_elim}
use mathlib.Core.Bool.{Bool, true, false, cond, ◌&&◌, true≢false}
use mathlib.Core.List.Memᴰ
use mathlib.Core.List.{List, [], ◌∷◌, ◌++◌, map, append-nil, Memᴰ}
use Prim.Native.Nat.{ℕ, suc, ◌<◌, ◌≤◌}
use lib.ListN.{length, get_or, take}
use lib.Seq.{take-suc, append_snoc}
use borrow.Author.Tests.{le-ltb}
use Rattle.algebra.specs.Matrix.{before, words}
use Rattle.rows.specs.Lightest.{Best, nothing, found, lighter, keep, keep_all, lightest}
use Rattle.rows.specs.Steps.Walk.{completions, branches}
use Rattle.rows.proofs.Lightest.{keep_cases}

-- ---- the completions

-- a completion is the prefix and a word behind it
pub mem_completions : (letters prefix : List ℕ) (k : ℕ) (r : List ℕ)
    → Memᴰ r (completions letters prefix k) ↔ ((w : List ℕ) × Memᴰ w (words letters k) × (r ≡ prefix ++ w))
unfolding completions
mem_completions letters prefix k r = (
  λ m. let (w, i, e) = Memᴰ.of_map (λ w. prefix ++ w) (words letters k) m in (w, i, sym e),
  λ (w, i, e). Memᴰ.cast e (Memᴰ.map (λ w. prefix ++ w) i),
)

-- the completions of the empty prefix are all rows
pub completions_all : (letters : List ℕ) (n : ℕ) → completions letters [] n ≡ words letters n
unfolding completions
completions_all letters n = same (words letters n)
  where
    same : (l : List (List ℕ)) → map (λ w. [] ++ w) l ≡ l
    same [] = refl
    same (w ∷ l) = rw (same l)

-- without places left there is the prefix alone
pub completions_none : (letters prefix : List ℕ) → completions letters prefix 0 ≡ prefix ∷ []
unfolding completions words
completions_none letters prefix = rw append-nil

-- a map over two lists behind each other
map_append : {A B : Type 0} (f : A → B) (l l' : List A) → map f (l ++ l') ≡ map f l ++ map f l'
map_append f [] l' = refl
map_append f (x ∷ l) l' = rw (map_append f l l')

-- the prefix and a letter behind it are a longer prefix
map_longer : (prefix : List ℕ) (a : ℕ) (ws : List (List ℕ)) → map (λ w. prefix ++ w) (map (λ w. a ∷ w) ws) ≡ map (λ w. prefix ++ (a ∷ []) ++ w) ws
map_longer prefix a [] = refl
map_longer prefix a (w ∷ ws) = rw (append_snoc prefix a w, map_longer prefix a ws)

module _ (good : List ℕ → Bool) (key : List ℕ → ℕ) where
  -- ---- the fold

  -- the fold over two lists behind each other
  pub keep_all_append : (best : Best) (l l' : List (List ℕ)) → keep_all good key best (l ++ l') ≡ keep_all good key (keep_all good key best l) l'
  unfolding keep_all
  keep_all_append best [] l' = refl
  keep_all_append best (r ∷ l) l' = keep_all_append (keep good key best r) l l'

  -- from the empty prefix and with no row kept: the answer of the search
  pub extend_all : (letters : List ℕ) (n : ℕ) → keep_all good key nothing (completions letters [] n) ≡ lightest good key (words letters n)
  unfolding lightest
  extend_all letters n = rw completions_all

  module _ (letters prefix : List ℕ) where
    -- no place left: the prefix is the row
    pub extend_none : (best : Best) → keep_all good key best (completions letters prefix 0) ≡ keep good key best prefix
    unfolding keep_all
    extend_none best = rw completions_none

    -- the fold over some next letters, letter by letter
    keep_all_before : (k : ℕ) (best : Best) (firsts : List ℕ)
        → keep_all good key best (map (λ w. prefix ++ w) (before firsts (words letters k))) ≡ branches good key letters prefix k best firsts
    unfolding keep_all before branches completions
    keep_all_before k best [] = refl
    keep_all_before k best (a ∷ firsts) = rw (map_append, map_longer prefix a (words letters k), keep_all_append) (keep_all_before k (keep_all good key best (map (λ w. (prefix ++ a ∷ []) ++ w) (words letters k))) firsts)

    -- one place more: letter by letter, the completions of the longer prefix
    pub extend_suc : (k : ℕ) (best : Best) → keep_all good key best (completions letters prefix (suc k)) ≡ branches good key letters prefix k best letters
    unfolding completions words
    extend_suc k best = keep_all_before k best letters

    -- one letter more at the end
    branches_snoc : (k : ℕ) (best : Best) (firsts : List ℕ) (a : ℕ)
        → branches good key letters prefix k best (firsts ++ a ∷ []) ≡ keep_all good key (branches good key letters prefix k best firsts) (completions letters (prefix ++ a ∷ []) k)
    unfolding branches
    branches_snoc k best [] a = refl
    branches_snoc k best (b ∷ firsts) a = branches_snoc k (keep_all good key best (completions letters (prefix ++ b ∷ []) k)) firsts a

    -- one letter more of a loop over the letters
    pub branches_suc : (k : ℕ) (best : Best) (firsts : List ℕ) (i d : ℕ) → i < length firsts
        → branches good key letters prefix k best (take (suc i) firsts)
        ≡ keep_all good key (branches good key letters prefix k best (take i firsts)) (completions letters (prefix ++ get_or firsts i d ∷ []) k)
    branches_suc k best firsts i d h = rw (take-suc firsts i d h) (branches_snoc k best (take i firsts) (get_or firsts i d))

    -- before the first letter
    pub branches_zero : (k : ℕ) (best : Best) (firsts : List ℕ) → branches good key letters prefix k best (take 0 firsts) ≡ best
    unfolding branches
    branches_zero k best firsts = refl

  -- ---- pruning

  -- where no good row is lighter than the row kept, that row stays
  pub skip_heavy : (best : Best) (rows : List (List ℕ)) → ((r : List ℕ) → Memᴰ r rows → good r ≡ true → lighter key best r ≡ false)
      → keep_all good key best rows ≡ best
  unfolding keep_all
  skip_heavy best [] h = refl
  skip_heavy best (r ∷ rows) h =
      ⊎_elim (λ q. absurd (true≢false (sym q.2 ∙ h r (Memᴰ.head refl) q.1)))
      (λ (q : (keep good key best r ≡ best) × (good r ≡ true → lighter key best r ≡ false)). rw q.0 (skip_heavy best rows (λ s m. h s (Memᴰ.tail m))))
      (keep_cases good key best r)

  -- the same, the row kept named: no row is lighter than it
  pub skip : (best : Best) (rows : List (List ℕ)) → ((r : List ℕ) → Memᴰ r rows → good r ≡ true → (b : List ℕ) × (best ≡ found b) × (key b ≤ key r))
      → keep_all good key best rows ≡ best
  unfolding lighter
  skip best rows h = skip_heavy best rows λ r m g. let (b, e, l) = h r m g in rw e (le-ltb (key r) (key b) l)

  -- the same, where no row is good
  pub skip_none : (best : Best) (rows : List (List ℕ)) → ((r : List ℕ) → Memᴰ r rows → good r ≡ false) → keep_all good key best rows ≡ best
  skip_none best rows h = skip_heavy best rows λ r m g. absurd (true≢false (sym g ∙ h r m))

-- ---- congruence

-- where goodness agrees on the rows, the folds agree
pub same_good : (good good' : List ℕ → Bool) (key : List ℕ → ℕ) (best : Best) (rows : List (List ℕ)) → ((r : List ℕ) → Memᴰ r rows → good r ≡ good' r)
    → keep_all good key best rows ≡ keep_all good' key best rows
unfolding keep_all keep
same_good good good' key best [] h = refl
same_good good good' key best (r ∷ rows) h =
    ap (λ t. keep_all good key (cond (t && lighter key best r) (found r) best) rows) (h r (Memᴰ.head refl))
    ∙ same_good good good' key (keep good' key best r) rows (λ s m. h s (Memᴰ.tail m))
