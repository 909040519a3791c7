-- Fewer children at the least.
use Rattle.std.proofs.Common.{ℕ, ◌≤◌, arith}
use Rattle.trees.specs.Tree.{Tree, Forest, gone, leaf, fork, none, more}
use Rattle.trees.specs.Rules.{Degrees, DegreesAll}

mutual
  pub degrees-weaker : {C W : Type 0} (t : Tree C W) (a c b : ℕ) → c ≤ a → Degrees t a b → Degrees t c b
  degrees-weaker (gone p) a c b le d = tt
  degrees-weaker (leaf p x o) a c b le d = tt
  degrees-weaker (fork p k o ts) a c b le (x, y, ds) = (omega arith, y, all-degrees-weaker ts a c b le ds)

  pub all-degrees-weaker : {C W : Type 0} (ts : Forest C W) (a c b : ℕ) → c ≤ a → DegreesAll ts a b → DegreesAll ts c b
  all-degrees-weaker none a c b le d = tt
  all-degrees-weaker (more t ts) a c b le (x, ds) = (degrees-weaker t a c b le x, all-degrees-weaker ts a c b le ds)
