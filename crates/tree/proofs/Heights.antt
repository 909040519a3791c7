-- A height that is not 0 is one more than another.
use Rattle.std.proofs.Common.{◌≡◌, ℕ, suc, ◌-◌, List, length, sym, subst, arith}
use Rattle.kinds.specs.Meaning.{Meaning}
use Rattle.trees.specs.Tree.{Tree}
use Rattle.table.specs.declared.node.Node.{Node}
use Rattle.table.specs.Reading.{tree_at, Sound, Became}

pub up : (H : ℕ) → (H ≡ 0 → ⊥) → H ≡ suc (H - 1)
up H pos = omega arith

module _ {C W R : Type 0} (m : Meaning C W R) (a : List (Node C R)) (H at : ℕ) (pos : H ≡ 0 → ⊥) where
  pub sound-up : Sound (length a) H (tree_at m a H at) → Sound (length a) (suc (H - 1)) (tree_at m a (suc (H - 1)) at)
  sound-up s = subst (λ k. Sound (length a) k (tree_at m a k at)) (up H pos) s

  -- what was shown of the one height, of the other
  pub became-up : (b : List (Node C R)) (f : ℕ → Tree C W → Tree C W) → Became m a b (suc (H - 1)) at (f (suc (H - 1)) (tree_at m a (suc (H - 1)) at)) → Became m a b H at (f H (tree_at m a H at))
  became-up b f bec = subst (λ k. Became m a b k at (f k (tree_at m a k at))) (sym (up H pos)) bec
