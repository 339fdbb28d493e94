-- What the walk does for each family of matrices: its orders, its cuts, and whether the last letter of a row is forced. Nobody need believe it:
-- `family_rows` of proofs/Families.antt ties it to the definitions.
use Rattle.std.specs.Prelude.{Bool, true, false, List, ℕ, eqb}
use Rattle.rows.specs.declared.Family.{Family}
use Rattle.rows.specs.declared.Family.TheVariants.{Hadamard, Circulant}
use Rattle.rows.specs.Shape.{shape_of}
use Rattle.cuts.specs.Steps.Cuts.{Cuts}
use Rattle.rows.specs.Steps.Orders.{SearchOrder}
use Rattle.cuts.specs.Steps.Hadamard.{is_next, planes_pass, last_letter}
use Rattle.rows.specs.Steps.Orders.{CirculantOrder}
use Rattle.cuts.specs.Steps.Circulant.{is_next_around, pairs_pass}

-- the orders of its searches
abbrev pub OrderOf : Family → ℕ → Type 0
OrderOf Hadamard n = SearchOrder n
OrderOf Circulant n = CirculantOrder n

-- whether a letter comes next behind a prefix by the order of the entries
abbrev pub is_next_of : Family → ℕ → List ℕ → ℕ → Bool
is_next_of Hadamard n prefix a = is_next prefix a
is_next_of Circulant n prefix a = is_next_around n prefix a

-- whether the blocks of size 2 pass that the entry at place d completes
abbrev pub blocks_pass_of : Family → ℕ → ℕ → List ℕ → ℕ → Bool
blocks_pass_of Hadamard p n row d = planes_pass p n row d
blocks_pass_of Circulant p n row d = pairs_pass p n row d

-- whether one letter alone may be the last
abbrev pub is_forced : Family → Bool
is_forced Hadamard = true
is_forced Circulant = false

-- whether a letter may be the last
abbrev pub may_end_of : Family → List ℕ → ℕ → Bool
may_end_of Hadamard prefix a = eqb a (last_letter prefix)
may_end_of Circulant prefix a = true

-- the shape with these cuts, over the field of p and of order n
abbrev pub cuts_of : Family → ℕ → ℕ → Cuts
cuts_of family p n =
    record {
      shape = shape_of family;
      Order = OrderOf family;
      is_next = is_next_of family n;
      blocks_pass = blocks_pass_of family p n;
      may_end = may_end_of family;
    }

abbrev pub hadamard_cuts : ℕ → ℕ → Cuts
hadamard_cuts p n = cuts_of Hadamard p n

abbrev pub circulant_cuts : ℕ → ℕ → Cuts
circulant_cuts p n = cuts_of Circulant p n
