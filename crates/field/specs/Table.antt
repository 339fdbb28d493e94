-- The irreducible polynomials of degrees 2 to 8. Assumes nothing.
use Rattle.std.specs.Prelude.{Bool, true, false, List, [], ◌∷◌, ℕ, zero, suc, ◌^◌}
use Rattle.field.specs.Polynomial.{is_irreducible}

-- a number before the rest, where it passed the test
abbrev pub keep_if : Bool → ℕ → List ℕ → List ℕ
keep_if true a rest = a ∷ rest
keep_if false a rest = rest

-- those of the n numbers from `first` on that pass the test, ascending
unfoldable pub passing : (ℕ → Bool) → ℕ → ℕ → List ℕ
passing test zero first = []
passing test (suc n) first = keep_if (test first) first (passing test n (suc first))

-- the irreducible polynomials of degree m, ascending: those among 2^m, .. 2^(m + 1) - 1
unfoldable pub polynomials : ℕ → List ℕ
polynomials m = passing is_irreducible (2 ^ m) (2 ^ m)

-- the fixed table: the irreducible polynomials of degree 2, then of degree 3, and so on to degree 8, ascending
unfoldable pub table : List ℕ
table =
    7 ∷
    11 ∷ 13 ∷
    19 ∷ 25 ∷ 31 ∷
    37 ∷ 41 ∷ 47 ∷ 55 ∷ 59 ∷ 61 ∷
    67 ∷ 73 ∷ 87 ∷ 91 ∷ 97 ∷ 103 ∷ 109 ∷ 115 ∷ 117 ∷
    131 ∷ 137 ∷ 143 ∷ 145 ∷ 157 ∷ 167 ∷ 171 ∷ 185 ∷ 191 ∷ 193 ∷ 203 ∷ 211 ∷ 213 ∷ 229 ∷ 239 ∷ 241 ∷ 247 ∷ 253 ∷
    283 ∷ 285 ∷ 299 ∷ 301 ∷ 313 ∷ 319 ∷ 333 ∷ 351 ∷ 355 ∷ 357 ∷ 361 ∷ 369 ∷ 375 ∷ 379 ∷ 391 ∷ 395 ∷ 397 ∷ 415 ∷ 419 ∷ 425 ∷ 433 ∷ 445 ∷ 451 ∷ 463 ∷ 471 ∷ 477 ∷ 487 ∷ 499 ∷ 501 ∷ 505 ∷ []
