-- Sums of binary32 numbers, added one after the other.
use Rattle.std.specs.Prelude.{◌≡◌, ℕ, List, [], ◌∷◌, map, from_bits, to_bits, Float}
use Rattle.std.specs.Float.{binary32}
use Rattle.std.specs.Float.Ieee.{add}

-- each number added to the sum so far, from the left, rounded to the nearest binary32 number each time, ties to even
abbrev pub sum_from : Float → List Float → Float
sum_from s [] = s
sum_from s (w ∷ ws) = sum_from (add binary32 s w) ws

-- the sum of a list, from 00000000
abbrev pub sum_of : List Float → Float
sum_of ws = sum_from (from_bits binary32 0) ws

-- the pattern of the sum of the numbers of some patterns
abbrev pub sum_of_patterns : List ℕ → ℕ
sum_of_patterns bits = to_bits binary32 (sum_of (map (from_bits binary32) bits))

-- sums worked by hand
pub record WorkedSums : Type 0 where
  -- nothing is added
  pub empty : sum_of_patterns [] ≡ 0x0000_0000
  -- 2^24, and 1 twice: each 1 is lost in rounding
  pub large_first : sum_of_patterns (0x4B80_0000 ∷ 0x3F80_0000 ∷ 0x3F80_0000 ∷ []) ≡ 0x4B80_0000
  -- the same numbers in another order: nothing is lost
  pub small_first : sum_of_patterns (0x3F80_0000 ∷ 0x3F80_0000 ∷ 0x4B80_0000 ∷ []) ≡ 0x4B80_0001
  -- the largest finite number twice is infinite
  pub infinite : sum_of_patterns (0x7F7F_FFFF ∷ 0x7F7F_FFFF ∷ []) ≡ 0x7F80_0000
  -- and stays so
  pub stays_infinite : sum_of_patterns (0x7F7F_FFFF ∷ 0x7F7F_FFFF ∷ 0x3F80_0000 ∷ []) ≡ 0x7F80_0000
