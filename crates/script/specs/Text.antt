-- What is printed, as bytes.
use Rattle.std.specs.Prelude.{ℕ, zero, suc, ◌+◌, ◌/◌, ◌%◌, ◌^◌, ◌<◌, cond, List, [], ◌∷◌, ◌++◌, length, codes, decimal, nat_lt, Float}
use Rattle.std.specs.List.{flat_map}
use Rattle.kinds.specs.Weight.{pattern}
use Rattle.refusals.specs.declared.Refusal.{Refusal}
use Rattle.refusals.specs.Refusals.{number_of}
use Rattle.plain.specs.declared.point.Point.{Point}
use Rattle.lines.specs.Limits.{pattern_digits}
use Rattle.lines.specs.Digits.{Pattern}

-- the digit of a number below 16: 0 to 9, then A to F
abbrev pub hex_byte : ℕ → ℕ
hex_byte d = cond (nat_lt d 10) (48 + d) (55 + d)

-- a number in so many digits in base 16
unfoldable pub hex_text : ℕ → ℕ → List ℕ
hex_text zero n = []
hex_text (suc k) n = hex_text k (n / 16) ++ (hex_byte (n % 16) ∷ [])

-- a pattern in its digits
abbrev pub pattern_text : ℕ → List ℕ
pattern_text n = hex_text pattern_digits n

-- each pattern of 32 bits is read back as the number that it was printed for
abbrev pub ReadsBack : Type 0
ReadsBack = (n : ℕ) → n < 2 ^ 32 → Pattern n (pattern_text n)

-- a change that is granted
abbrev pub ok_text : List ℕ
ok_text = codes "ok\n"

-- a refusal, by its number
abbrev pub refusal_text : Refusal → List ℕ
refusal_text e = codes "no " ++ (decimal (number_of e) ++ codes "\n")

-- a sum, by its pattern, and how many points it is of
abbrev pub sum_text : Float → ℕ → List ℕ
sum_text w n = codes "sum " ++ (pattern_text (pattern w) ++ (codes " " ++ (decimal n ++ codes "\n")))

-- a point: its epoch, its number and its pattern
abbrev pub point_text : Point ℕ Float → List ℕ
point_text p = (decimal p.key.at ++ (codes " " ++ (decimal p.key.number ++ codes " "))) ++ (pattern_text (pattern p.weight) ++ codes "\n")

-- how many points are listed, and then each on a line
abbrev pub first_text : List (Point ℕ Float) → List ℕ
first_text ps = (codes "first " ++ (decimal (length ps) ++ codes "\n")) ++ flat_map point_text ps

-- how many points match
abbrev pub range_text : ℕ → List ℕ
range_text n = codes "range " ++ (decimal n ++ codes "\n")
