-- Weights that are binary32 numbers.
use Rattle.std.specs.Prelude.{ℕ, Bool, cond, ◌&&◌, from_bits, nat_le, to_bits, Float}
use Rattle.std.specs.declared.cmp.Ordering.TheVariants.{Less, Equal, Greater}
use Rattle.std.specs.declared.cmp.Ordering.{Ordering}
use Rattle.std.specs.Float.{binary32}
use Rattle.std.specs.Float.Ieee.{fits, lt}

-- the pattern of a number; for what is not a number, one fixed pattern of such
abbrev pub pattern : Float → ℕ
pattern w = to_bits binary32 w

-- the number of a pattern
abbrev pub weight_of : ℕ → Float
weight_of bits = from_bits binary32 bits

-- a binary32 number with a pattern from 00000000 to 7F7FFFFF
abbrev pub fit_weight : Float → Bool
fit_weight w = fits binary32 w && nat_le (pattern w) 0x7F7F_FFFF

-- two numbers, the smaller one first; what is not a number ties with everything
abbrev pub by_size : Float → Float → Ordering
by_size a b = cond (lt a b) Less (cond (lt b a) Greater Equal)
