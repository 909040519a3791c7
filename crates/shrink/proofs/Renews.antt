-- A node written again over other children: in the table, as in the tree.
use Rattle.std.proofs.Common.{◌≡◌, ℕ, ◌<◌, List, [], ◌∷◌, length, get_or, Some, unwrap_or, sym, refl, ap, ◌∙◌, subst, arith}
use Rattle.std.specs.List.{slice_get}
use Rattle.kinds.specs.Meaning.{Meaning}
use Rattle.plain.specs.declared.point.Key.{Key}
use Rattle.trees.specs.Tree.{fork, grow}
use Rattle.trees.specs.Moves.{first_key}
use Rattle.table.specs.declared.node.Node.{Node}
use Rattle.table.specs.declared.children.Children.{Children}
use Rattle.table.specs.Kids.{kids_of}
use Rattle.table.specs.Nodes.{over}
use Rattle.table.specs.Reading.{kept_in, tree_at}
use Rattle.table.specs.Keys.{key_in}
use Rattle.table.proofs.Steps.{fork-now, other}
use Rattle.tree.specs.Places.{key_of_node}
use Rattle.tree.specs.Rewritten.{Rewritten}
use Rattle.tree.proofs.Picks.{key-tree}
use Rattle.shrink.specs.Removes.{Renewed}

module _ {C W R : Type 0} (m : Meaning C W R) where
  first-key-is : (a : List (Node C R)) (h : ℕ) (k : Key C) (f : Node C R) (qs : List ℕ) → 0 < length qs → slice_get a (get_or qs 0 0) ≡ Some f → first_key k (grow (tree_at m a h) qs) ≡ key_in f.own
  first-key-is a h k f [] some is = absurd (omega arith)
  first-key-is a h k f (q ∷ qs) some is = ap (λ o. unwrap_or o k) (key-tree m a h q ∙ ap key_of_node is)

  pub renewed : {a b : List (Node C R)} {p : ℕ} {n : Node C R} {c : Children} → p < length a → 0 < length (kids_of c) → Rewritten a b p n c → Renewed m a b p n (kids_of c)
  renewed {a} {b} {p} {n} {c} within some w = subst (λ d. Renewed m a d p n (kids_of c)) (sym w.after) (record {
    tree = λ h k off. fork-now m a h p (over n w.first.own c) within (kids_of c) refl off ∙ ap (λ j. fork p j (kept_in m n) (grow (tree_at m a h) (kids_of c))) (sym (first-key-is a h k w.first (kids_of c) some w.is));
    frame = λ q z. other m a 0 p (over n w.first.own c) within q z;
  })
