-- Free places that no write touches stay free, in their order.
use Rattle.std.proofs.Common.{◌≡◌, ℕ, ◌<◌, ◌≤◌, List, [], ◌∷◌, length, subst, arith}
use Rattle.std.specs.List.{slice_get, AllByRecursion}
use Rattle.shapes.specs.Shape.{occurs}
use Rattle.table.specs.declared.node.Node.{Node}
use Rattle.table.specs.declared.free.Free.{Free}
use Rattle.table.specs.Spares.{spares}
use Rattle.table.specs.Reading.{inside}
use Rattle.table.proofs.Frames.{hit-here}
use Rattle.table.proofs.Places.{spares-same}
use Rattle.table.proofs.Steps.{inside-lt}

-- what holds of each place that occurs holds of all
pub all-occurring : (P : ℕ → Type 0) (qs : List ℕ) → ((q : ℕ) → 0 < occurs q qs → P q) → AllByRecursion P qs
all-occurring P [] h = tt
all-occurring P (q ∷ qs) h = (h q (omega (arith, hit-here q)), all-occurring P qs (λ z o. h z (omega arith)))

-- a place that does not occur is none of them
pub none-occurring : (z : ℕ) (qs : List ℕ) → occurs z qs ≡ 0 → AllByRecursion (λ q. q ≡ z → ⊥) qs
none-occurring z qs off = all-occurring (λ q. q ≡ z → ⊥) qs (λ q o e. let o' : 0 < occurs z qs = subst (λ x. 0 < occurs x qs) e o in omega arith)

-- places inside the table
pub all-inside : (n : ℕ) (qs : List ℕ) → ((q : ℕ) → occurs q qs ≤ inside n q) → AllByRecursion (λ q. q < n) qs
all-inside n qs h = all-occurring (λ q. q < n) qs (λ q o. inside-lt n q (omega (arith, h q)))

pub spares-kept : {C R : Type 0} (a b : List (Node C R)) (f : Free) → length b ≡ length a → ((q : ℕ) → 0 < occurs q (spares a f) → slice_get b q ≡ slice_get a q) → spares b f ≡ spares a f
spares-kept a b f len same = spares-same a b f len (all-occurring (λ q. slice_get b q ≡ slice_get a q) (spares a f) same)
