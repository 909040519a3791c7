-- The height of a tree is at most the logarithm of the number of its points.
use Rattle.std.proofs.Common.{ℕ, ◌≤◌, length, arith}
use Rattle.kinds.specs.Meaning.{Meaning}
use Rattle.trees.specs.Tree.{Tree, Forest, gone, leaf, fork, none, more, points}
use Rattle.trees.specs.Rules.{Degrees, DegreesAll, Rules}
use Rattle.shapes.proofs.Counts.{points-least, size-most}
use Rattle.walked.specs.Walk.{Log}

module _ {C W : Type 0} where
  -- fewer children may be asked for
  mutual
    pub degrees-least : (a c b : ℕ) → c ≤ a → (t : Tree C W) → Degrees t a b → Degrees t c b
    degrees-least a c b q (gone p) d = tt
    degrees-least a c b q (leaf p x o) d = tt
    degrees-least a c b q (fork p k o ts) (lo, hi, d) = (omega arith, hi, degrees-least-all a c b q ts d)

    degrees-least-all : (a c b : ℕ) → c ≤ a → (ts : Forest C W) → DegreesAll ts a b → DegreesAll ts c b
    degrees-least-all a c b q none d = tt
    degrees-least-all a c b q (more t ts) (d, ds) = (degrees-least a c b q t d, degrees-least-all a c b q ts ds)

module _ {C W R : Type 0} (m : Meaning C W R) (a b h : ℕ) (t : Tree C W) (rules : Rules m a b h t) (least : 2 ≤ a) where
  pub height-most : (k : ℕ) → Log (length (points t)) k → h ≤ k
  height-most k (_, g) = g h (points-least b t h rules.level (degrees-least a 2 b least t rules.degrees))

  -- a tree has points
  pub some-points : 1 ≤ length (points t)
  some-points = omega (arith, size-most b t h rules.level (degrees-least a 2 b least t rules.degrees))
