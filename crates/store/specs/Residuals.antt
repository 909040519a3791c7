-- The residuals as a plain set, and what calls make of it.
use Rattle.std.specs.Prelude.{◌≡◌, ℕ, List, ◌++◌, length, drop, Some, None, Ok, Err, Option, Result, Float}
use Rattle.kinds.specs.Kinds.{small}
use Rattle.refusals.specs.declared.Refusal.{Refusal}
use Rattle.plain.specs.declared.point.Point.{Point}
use Rattle.plain.specs.Set.{put}
use Rattle.plain.specs.Windows.{window, firsts, total}
use Rattle.plain.specs.Refused.{insert_refused, frontier_refused}
use Rattle.store.specs.declared.failure.Failure.{Failure}
use Rattle.store.specs.declared.failure.Failure.TheVariants.{Refused, Memory}

-- a point of kind small
abbrev pub P : Type 0
P = Point ℕ Float

-- how many points there is room for, and how many places a frontier has
abbrev pub room : ℕ
room = 256

-- an insert that is granted leaves the set with the point; one that is refused leaves it as it was, and so does one that is not but finds no memory
abbrev pub Inserted : P → List P → Result (Unit {0}) Failure → List P → Type 0
Inserted p ps (Ok done) after = (insert_refused small room p ps ≡ None) × (after ≡ put small p ps)
Inserted p ps (Err (Refused e)) after = (insert_refused small room p ps ≡ Some e) × (after ≡ ps)
Inserted p ps (Err (Memory e)) after = (insert_refused small room p ps ≡ None) × (after ≡ ps)

-- a change that is granted leaves the new set, one that is refused the old one
abbrev pub Changed : Option Refusal → List P → List P → Result (Unit {0}) Refusal → List P → Type 0
Changed refused old new (Ok done) after = (refused ≡ None) × (after ≡ new)
Changed refused old new (Err e) after = (refused ≡ Some e) × (after ≡ old)

-- a question that is granted has this answer
abbrev pub Answered : {X : Type 0} → Option Refusal → X → Result X Refusal → Type 0
Answered refused answer (Ok x) = (refused ≡ None) × (x ≡ answer)
Answered refused answer (Err e) = refused ≡ Some e

-- the sum of the points in a window, from the earliest key on, and how many they are
abbrev pub sum_of_window : ℕ → ℕ → List P → Float × ℕ
sum_of_window l u ps = (total (λ w. w) (window small l u ps), length (window small l u ps))

-- the first points of a window are written to the front of the list, and the other places are as they were
abbrev pub Listed : ℕ → ℕ → List P → List P → Result ℕ Refusal → List P → Type 0
Listed l u ps list (Ok n) after =
    (frontier_refused small l u room ps ≡ None) × (n ≡ length (firsts small (length list) l u ps)) × (after ≡ firsts small (length list) l u ps ++ drop n list)
Listed l u ps list (Err e) after = (frontier_refused small l u room ps ≡ Some e) × (after ≡ list)
