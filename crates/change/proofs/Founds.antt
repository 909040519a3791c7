-- The weight found on the way to a key: in the table as in the tree, and in the tree as in the set.
use Rattle.std.proofs.Common.{◌≡◌, ℕ, zero, suc, ◌-◌, ◌<◌, List, length, get_or, Some, Option, sym, refl, ap, ◌∙◌, subst, append-nil}
use Rattle.std.specs.List.{slice_get}
use Rattle.kinds.specs.Meaning.{Meaning, First, Second}
use Rattle.plain.specs.declared.point.Key.{Key}
use Rattle.plain.specs.Set.{weight_at}
use Rattle.trees.specs.Tree.{Tree, Forest, gone, leaf, fork, none, more, nth_tree, points, points_all}
use Rattle.trees.specs.Kept.{pick, found}
use Rattle.trees.specs.Heap.{Sorted, SortedAll}
use Rattle.kept.proofs.Picks.{pick-inside, pick-weight}
use Rattle.kept.proofs.Puts.{put-alter, put-sorted}
use Rattle.kept.proofs.Pushes.{below-fork}
use Rattle.shapes.proofs.Wholes.{whole-sorted}
use Rattle.shapes.specs.Settles.{Whole}
use Rattle.table.specs.declared.node.Node.{Node}
use Rattle.table.specs.declared.header.Header.{Header}
use Rattle.table.specs.Reading.{tree_at}
use Rattle.table.proofs.Frames.{nth-grow}
use Rattle.table.proofs.Steps.{kids, below, fork-was}
use Rattle.tree.specs.Places.{pick_at}
use Rattle.tree.specs.Standing.{points_of, Ruled}
use Rattle.tree.proofs.Heights.{up}
use Rattle.tree.proofs.Picks.{pick-tree}
use Rattle.tree.proofs.Standings.{one-tree}

-- ---- in the tree as in the set
module _ {C W R : Type 0} (m : Meaning C W R) (first : First m) (second : Second m) where
  -- below a fork, if it holds of each child
  found-fork : (h : ℕ) (k : Key C) (ts : Forest C W) → SortedAll m h ts → ((c : Tree C W) → Sorted m h c → found m h k c ≡ weight_at m k (points c))
      → found m h k (nth_tree (pick m k ts) ts) ≡ weight_at m k (points_all ts)
  found-fork h k none s ih = refl
  found-fork h k (more t ts) s ih =
      let us = more t ts in
      let i = pick m k us in
      ih (nth_tree i us) (put-sorted m (put-alter i (λ (u : Tree C W). u) us (pick-inside m first second k t ts)) h s) ∙ pick-weight m first second k h us s

  pub found-weight : (h : ℕ) (k : Key C) (t : Tree C W) → Sorted m h t → found m h k t ≡ weight_at m k (points t)
  found-weight h k (gone p) s = absurd s.level
  found-weight h k (leaf p x o) s = refl
  found-weight zero k (fork p j o ts) s = absurd s.level
  found-weight (suc h) k (fork p j o ts) s = found-fork h k ts (below-fork m first second h p j o ts s) (found-weight h k)

  -- the tree that stands in a table, none or one
  module _ (ns : List (Node C R)) (hd : Header) (k : Key C) (r : Option W) where
    pub find-some : (hd.count ≡ 0 → ⊥) → r ≡ found m hd.top.height k (tree_at m ns hd.top.height hd.top.root) → Ruled m ns hd → r ≡ weight_at m k (points_of m ns hd)
    find-some pos e ruled =
        let t = tree_at m ns hd.top.height hd.top.root in
        let one = subst (Whole m hd.top.height) (one-tree m ns hd pos) ruled in
        e ∙ found-weight hd.top.height k t (whole-sorted m hd.top.height t one)
        ∙ ap (weight_at m k) (sym (append-nil (points t)))
        ∙ ap (λ f. weight_at m k (points_all f)) (sym (one-tree m ns hd pos))

-- ---- in the table as in the tree
module _ {C W R : Type 0} (m : Meaning C W R) (a : List (Node C R)) (k : Key C) (H at : ℕ) (n : Node C R) (is : slice_get a at ≡ Some n) where
  -- at a node above others
  pub found-on : (H ≡ 0 → ⊥) → (i : ℕ) → i < length (kids m n) → i ≡ pick_at m a k (kids m n) → (child : ℕ) → child ≡ get_or (kids m n) i 0 → (r : Option W) → r ≡ found m (H - 1) k (tree_at m a (H - 1) child) → r ≡ found m H k (tree_at m a H at)
  found-on pos i lt picked child there r e =
      let h = H - 1 in
      subst (λ j. r ≡ found m j k (tree_at m a j at)) (sym (up H pos))
      (e ∙ ap (λ q. found m h k (tree_at m a h q)) there ∙ ap (found m h k) (sym (nth-grow (tree_at m a h) i (kids m n) lt))
      ∙ ap (λ j. found m h k (nth_tree j (below m a h n))) (picked ∙ sym (pick-tree m a h k (kids m n)))
      ∙ ap (found m (suc h) k) (sym (fork-was m a h at n is)))
