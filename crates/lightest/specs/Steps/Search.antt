-- What holds at a prefix of a search, and what is kept of the rows behind it, in terms of the structs of the code.
use Rattle.std.specs.Prelude.{◌≡◌, Option, List, ℕ, ◌+◌, ◌-◌, ◌*◌, ◌<◌, get_or, take}
use Rattle.rows.specs.Lightest.{keep_all}
use Rattle.rows.specs.Keys.{key_of}
use Rattle.rows.specs.Steps.Walk.{completions, branches}
use Rattle.cuts.specs.Steps.Cuts.{Cuts, tried}
use Rattle.cuts.specs.Steps.Families.{cuts_of}
use Rattle.lightest.specs.declared.Best.{Best as Kept}
use Rattle.lightest.specs.declared.prefix.Search.{Search}
use Rattle.lightest.specs.declared.prefix.Prefix.{Prefix}
use Rattle.lightest.specs.Steps.Prefix.{kept, best_as, Long, Reached, NextLetter}

-- the cuts of the search
abbrev pub cuts_in : Search → Cuts
cuts_in s = cuts_of s.family s.table.polynomial s.order

-- the search is at the prefix, which is no whole row, with a row kept
pub record At (s : Search) (at : Prefix) (best : Option Kept) : Type 0 where
  pub reached : Reached (cuts_in s) s.table.polynomial s.order s.letters.now at.level at.row at.count
  pub inside : at.level < s.order
  pub holds : best ≡ kept s.table.polynomial s.order (best_as s.order best)
  pub long : Long s.order (best_as s.order best)

-- the letter may come next
abbrev pub Next : Search → Prefix → ℕ → Type 0
Next s at a = NextLetter (cuts_in s) s.order s.letters.now at.level at.row a

-- what a row that begins with the prefix and the letter counts at least
abbrev pub bound_at : Search → Prefix → ℕ → ℕ
bound_at s at a = at.count + get_or s.counts.now a 0 + s.least * (s.order - (at.level + 1))

-- the row kept after all rows that begin with these entries, where so many places are left
abbrev pub kept_behind : Search → Option Kept → List ℕ → ℕ → Option Kept
kept_behind s best entries left =
    kept s.table.polynomial s.order
    (keep_all (tried (cuts_in s) s.table.polynomial s.order) (key_of s.table.polynomial s.order) (best_as s.order best) (completions s.letters.now entries left))

-- the row kept after all rows that begin with the prefix and one of the first i letters
abbrev pub kept_upto : Search → Prefix → Option Kept → ℕ → Option Kept
kept_upto s at best i =
    kept s.table.polynomial s.order
    (branches (tried (cuts_in s) s.table.polynomial s.order) (key_of s.table.polynomial s.order) s.letters.now (take at.level at.row) (s.order - (at.level + 1)) (best_as s.order best) (take i s.letters.now))
