-- How long fields are, and how large what they write.
use Rattle.std.specs.Prelude.{ℕ, ◌-◌, ◌^◌}

-- the most digits of a decimal field
abbrev pub most_digits : ℕ
most_digits = 20

-- the digits of a pattern
abbrev pub pattern_digits : ℕ
pattern_digits = 8

-- the last epoch, and the last bound of a window
abbrev pub top_epoch : ℕ
top_epoch = 2 ^ 64 - 1

-- the last number of a point
abbrev pub top_number : ℕ
top_number = 2 ^ 32 - 1

-- the most points that a line can ask to list
abbrev pub most_places : ℕ
most_places = 64
