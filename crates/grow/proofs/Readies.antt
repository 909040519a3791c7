-- A tree that can take one leaf more.
use Rattle.std.proofs.Common.{◌≡◌, ℕ, suc, ◌-◌, ◌<◌, List, ◌∷◌, length, ap, arith}
use Rattle.std.specs.List.{AllByRecursion}
use Rattle.kinds.specs.Meaning.{Meaning}
use Rattle.shapes.specs.Shape.{occurs}
use Rattle.table.specs.declared.node.Node.{Node}
use Rattle.table.specs.declared.free.Free.{Free}
use Rattle.table.specs.Spares.{spares}
use Rattle.table.specs.Reading.{tree_at, Sound}
use Rattle.table.proofs.Frames.{hit-here}
use Rattle.table.proofs.Steps.{inside-lt, sound-within}
use Rattle.tree.proofs.Degrees.{degrees-weaker}
use Rattle.tree.proofs.Heights.{up}
use Rattle.tree.proofs.Spared.{all-inside}
use Rattle.grow.specs.Grown.{Ready}

module _ {C W R : Type 0} {m : Meaning C W R} {a : List (Node C R)} {f : Free} where
  -- a height that is not 0
  pub ready_up : {H at : ℕ} → (H ≡ 0 → ⊥) → Ready m a f H at → Ready m a f (suc (H - 1)) at
  ready_up {H} pos r = rw (up H pos) at r

  pub ready-sound : {h at : ℕ} → Ready m a f h at → Sound (length a) h (tree_at m a h at)
  ready-sound {h} {at} r = record { level = r.level; degrees = degrees-weaker (tree_at m a h at) 2 1 4 (omega arith) r.degrees; apart = λ q. omega (arith, r.apart q) }

  module _ {h at : ℕ} (r : Ready m a f h at) where
    pub root-within : at < length a
    root-within = sound-within m a h at (ready-sound r)

    pub spares-within : AllByRecursion (λ q. q < length a) (spares a f)
    spares-within = all-inside (length a) (spares a f) (λ q. omega (arith, r.apart q))

    -- the first free place, by what was taken
    pub next-within : (g : Free) {q : ℕ} → spares a f ≡ q ∷ spares a g → q < length a
    next-within g {q} took = inside-lt (length a) q (omega (arith, r.apart q, ap (occurs q) took, hit-here q))
