-- The numbers of the refusals, and how the tests of a call are run.
use Rattle.std.specs.Prelude.{ℕ, Bool, cond, List, [], ◌∷◌, ◌++◌, Some, None, Option, codes, decimal}
use Rattle.refusals.specs.declared.Refusal.{Refusal}
use Rattle.refusals.specs.declared.Refusal.TheVariants.{Table, Unfit, Stands, Full, Missing, Reversed, Overflow, Frontier, Order, Unreadable}

-- the number of each refusal
abbrev pub number_of : Refusal → ℕ
number_of Table = 1
number_of Unfit = 2
number_of Stands = 3
number_of Full = 4
number_of Missing = 5
number_of Reversed = 6
number_of (Overflow matches visited) = 7
number_of Frontier = 8
number_of Order = 9
number_of Unreadable = 10

-- a refusal as it is printed
abbrev pub text_of : Refusal → List ℕ
text_of e = codes "no " ++ decimal (number_of e)

-- tests run in the order of the list, each with the refusal that it gives where it is true: the first such refusal, if any
abbrev pub refusal_of : List (Bool × Refusal) → Option Refusal
refusal_of [] = None
refusal_of (t ∷ ts) = cond t.0 (Some t.1) (refusal_of ts)
