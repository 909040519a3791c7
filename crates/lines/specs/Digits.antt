-- Numbers in digits.
use Rattle.std.specs.Prelude.{◌≡◌, ℕ, ◌+◌, ◌-◌, ◌*◌, ◌<◌, ◌≤◌, cond, ◌⊎◌, List, [], ◌∷◌, length, nat_le}
use Rattle.std.specs.List.{AllByRecursion}
use Rattle.lines.specs.Limits.{most_digits, pattern_digits}

-- a decimal digit: the bytes 0 to 9
abbrev pub Ten : ℕ → Type 0
Ten b = (48 ≤ b) × (b ≤ 57)

-- a digit of a pattern: the bytes 0 to 9 and A to F
abbrev pub Hex : ℕ → Type 0
Hex b = Ten b ⊎ ((65 ≤ b) × (b ≤ 70))

-- what a digit stands for
abbrev pub digit : ℕ → ℕ
digit b = cond (nat_le b 57) (b - 48) (b - 55)

-- the number that digits write in a base, read from the left after the number n
abbrev pub writes : ℕ → ℕ → List ℕ → ℕ
writes base n [] = n
writes base n (b ∷ bs) = writes base (n * base + digit b) bs

-- decimal digits, at least one and not too many, that write n, which is at most top
pub record Decimal (top n : ℕ) (bs : List ℕ) : Type 0 where
  pub digits : AllByRecursion Ten bs
  pub some : 0 < length bs
  pub few : length bs ≤ most_digits
  pub value : n ≡ writes 10 0 bs
  pub within : n ≤ top

-- as many digits of a pattern as it has, that write n
pub record Pattern (n : ℕ) (bs : List ℕ) : Type 0 where
  pub digits : AllByRecursion Hex bs
  pub eight : length bs ≡ pattern_digits
  pub value : n ≡ writes 16 0 bs
