-- The caller's list.
use Rattle.std.specs.Prelude.{ℕ, cond, List, ◌++◌, length, take, drop, nat_lt, slice_set}

-- a list after points were written to it, as many as it has places; places beyond the last written keep their contents
abbrev pub filled : {X : Type 0} → List X → List X → List X
filled list ps = take (length list) ps ++ drop (length ps) list

-- a list with one more point written to it, after n others, if it has a place left
abbrev pub noted : {X : Type 0} → List X → ℕ → X → List X
noted list n x = cond (nat_lt n (length list)) (slice_set list n x) list
