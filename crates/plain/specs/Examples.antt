-- Windows of plain sets, worked by hand.
use Rattle.std.specs.Prelude.{◌≡◌, ℕ, true, false, List, [], ◌∷◌, map, Float}
use Rattle.kinds.specs.Kinds.{large, small}
use Rattle.kinds.specs.Weight.{pattern, weight_of, fit_weight}
use Rattle.plain.specs.declared.point.Point.{Point}
use Rattle.plain.specs.Set.{put, remove}
use Rattle.plain.specs.Windows.{later, window, matches, firsts, total}

-- a residual at number 1, by the pattern of its weight
abbrev pub residual : ℕ → ℕ → Point ℕ Float
residual epoch bits = record { key = record { at = epoch; number = 1 }; weight = weight_of bits }

-- the epochs of some points
abbrev pub epochs : List (Point ℕ Float) → List ℕ
epochs ps = map (λ p. p.key.at) ps

-- 2^24 at epoch 10, and 1 at 11 and 12, put in another order
abbrev pub three : List (Point ℕ Float)
three = put small (residual 11 0x3F80_0000) (put small (residual 10 0x4B80_0000) (put small (residual 12 0x3F80_0000) []))

-- 4 at epoch 10, 9 at 20, 1 at 30, likewise
abbrev pub squares : List (Point ℕ Float)
squares = put large (residual 20 0x4110_0000) (put large (residual 30 0x3F80_0000) (put large (residual 10 0x4080_0000) []))

-- the pattern of the sum of a window
abbrev pub sum_bits : ℕ → ℕ → List (Point ℕ Float) → ℕ
sum_bits l u ps = pattern (total (λ w. w) (window small l u ps))

pub record WorkedWindows : Type 0 where
  pub nothing : sum_bits 0 9 [] ≡ 0x0000_0000
  pub lost : sum_bits 10 12 three ≡ 0x4B80_0000
  pub without_first : sum_bits 11 12 three ≡ 0x4000_0000
  pub two_places : epochs (firsts small 2 10 12 three) ≡ 10 ∷ 11 ∷ []
  pub removed : epochs (remove small (record { at = 11; number = 1 }) three) ≡ 10 ∷ 12 ∷ []
  pub overflow : sum_bits 1 2 (residual 1 0x7F7F_FFFF ∷ residual 2 0x7F7F_FFFF ∷ []) ≡ 0x7F80_0000
  pub strong : epochs (matches large 10 20 (weight_of 0x4000_0000) squares) ≡ 10 ∷ 20 ∷ []
  pub largest_fit : fit_weight (weight_of 0x7F7F_FFFF) ≡ true
  pub infinite_unfit : fit_weight (weight_of 0x7F80_0000) ≡ false
  pub negative_unfit : fit_weight (weight_of 0x8000_0000) ≡ false
  pub backward : later small 12 11 ≡ true
