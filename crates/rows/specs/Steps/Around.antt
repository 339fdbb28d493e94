-- Places modulo the order of a circulant row. Nobody need believe these: they say which rows are tried, and theorems show that this is enough.
use Rattle.std.specs.Prelude.{[], ◌∷◌, ℕ, ◌+◌, ◌-◌, ◌/◌, ◌%◌, ◌^◌, get_or}

-- the places from 2 on that are prime to n, as the ones of a mask
unfoldable pub prime_places : ℕ → ℕ
prime_places n = get_or (0 ∷ 0 ∷ 0 ∷ 4 ∷ 8 ∷ 28 ∷ 32 ∷ 124 ∷ 168 ∷ []) n 0

-- the place whose entry is not to be larger than that at place d: 1 where d is one of these, else 0
unfoldable pub place_below : ℕ → ℕ → ℕ
place_below n d = prime_places n / 2 ^ d % 2

-- the place z with x + d = y + z modulo n
unfoldable pub fourth_around : ℕ → ℕ → ℕ → ℕ → ℕ
fourth_around n d x y = (x + d + (n - y)) % n
