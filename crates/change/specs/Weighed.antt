-- Another weight for the point of a key, in one tree.
use Rattle.std.specs.Prelude.{ℕ}
use Rattle.kinds.specs.Meaning.{Meaning}
use Rattle.plain.specs.declared.point.Key.{Key}
use Rattle.trees.specs.Tree.{Tree}
use Rattle.trees.specs.Kept.{push, take_out, weigh}

module _ {C W R : Type 0} (m : Meaning C W R) where
  -- the point of a key is taken out, its leaf gets the weight, and it is kept again
  abbrev pub reweighed : ℕ → Key C → W → Tree C W → Tree C W
  reweighed h k w t = push m h (record { key = k; weight = w }) (weigh m h k w (take_out m h k t))
