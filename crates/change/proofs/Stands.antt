-- From a tree that stands in a table to the tree at its root.
use Rattle.std.proofs.Common.{◌≡◌, List, length, ap, subst, arith}
use Rattle.kinds.specs.Meaning.{Meaning}
use Rattle.trees.specs.Tree.{uses_all}
use Rattle.shapes.specs.Shape.{Holds}
use Rattle.tree.proofs.Degrees.{degrees-weaker}
use Rattle.tree.proofs.Standings.{one-tree}
use Rattle.table.specs.declared.node.Node.{Node}
use Rattle.table.specs.declared.header.Header.{Header}
use Rattle.table.specs.Reading.{tree_at, Sound}
use Rattle.tree.specs.Standing.{Standing}

module _ {C W R : Type 0} (m : Meaning C W R) (ns : List (Node C R)) (hd : Header) where
  -- the tree at the root is sound
  pub standing-sound : Standing m ns hd → (hd.count ≡ 0 → ⊥) → Sound (length ns) hd.top.height (tree_at m ns hd.top.height hd.top.root)
  standing-sound s pos =
      let t = tree_at m ns hd.top.height hd.top.root in
      let holds = subst (Holds hd.top.height) (one-tree m ns hd pos) s.holds in
      record {
        level = holds.fine.level.0;
        degrees = degrees-weaker t 2 1 4 (omega arith) holds.fine.degrees.0;
        apart = λ q. omega (arith, s.places q, ap (λ f. uses_all f q) (one-tree m ns hd pos));
      }
