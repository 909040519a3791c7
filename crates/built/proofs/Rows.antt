-- Places in a row, in two parts.
use Rattle.std.proofs.Common.{◌≡◌, ℕ, zero, suc, ◌+◌, add-zero, add-suc, suc-add, zero-add, arith}
use Rattle.built.specs.Build.{occurs, row}

pub occurs-row : (q a b p : ℕ) → occurs q (row (a + b) p) ≡ occurs q (row a p) + occurs q (row b (p + a))
occurs-row q zero b p = simp (zero-add, add-zero)
occurs-row q (suc a) b p = rw (suc-add, add-suc, ← suc-add) (omega (arith, occurs-row q a b (suc p)))
