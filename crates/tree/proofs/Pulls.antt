-- The point that a node keeps goes: in the table, as in the tree.
use Rattle.std.proofs.Common.{◌≡◌, ℕ, suc, ◌<◌, Bool, true, false, cond, List, length, get_or, set, is_some, Some, None, sym, refl, ap, ◌∙◌, subst}
use Rattle.std.specs.List.{slice_get}
use Rattle.kinds.specs.Meaning.{Meaning}
use Rattle.trees.specs.Tree.{Tree, leaf, fork, nth_tree, kept_by, alter, uses}
use Rattle.trees.specs.Kept.{pull}
use Rattle.trees.proofs.Bares.{alike-uses, pull-bare}
use Rattle.table.specs.declared.node.Node.{Node}
use Rattle.table.specs.Reading.{point_in, point_in_any, kept_in, leaf_of, tree_at, Sound, Became}
use Rattle.table.specs.Keys.{key_in}
use Rattle.table.proofs.Frames.{nth-grow}
use Rattle.table.proofs.Steps.{kids, below, fork-was, leaf-became, own-became, child-became}
use Rattle.table.specs.Nodes.{keeping}
use Rattle.tree.specs.Places.{kept_of_node, best_at}
use Rattle.tree.proofs.Picks.{kept-tree, best-tree}

-- the tree that a place has become, by another name
pub renamed : {C W R : Type 0} (m : Meaning C W R) (a b : List (Node C R)) (h p : ℕ) (t u : Tree C W) → t ≡ u → Became m a b h p t → Became m a b h p u
renamed m a b h p t u e bec = record { tree = bec.tree ∙ e; frame = bec.frame }

module _ {C W R : Type 0} (m : Meaning C W R) (a : List (Node C R)) where
  pub leaf-was : (at : ℕ) (n : Node C R) → slice_get a at ≡ Some n → tree_at m a 0 at ≡ leaf at (point_in m n.own) (kept_in m n)
  leaf-was at n is = ap (leaf_of m at) is

  pub pull-uses : (h : ℕ) (t : Tree C W) (q : ℕ) → uses (pull m h t) q ≡ uses t q
  pull-uses h t q = alike-uses (pull m h t) t (pull-bare m h t) q

  pub pull-leaf : (H at : ℕ) (n : Node C R) → H ≡ 0 → slice_get a at ≡ Some n → at < length a → Became m a (set a at (keeping n None)) H at (pull m H (tree_at m a H at))
  pull-leaf H at n z is within =
      subst (λ k. Became m a (set a at (keeping n None)) k at (pull m k (tree_at m a k at))) (sym z)
      (renamed m a _ 0 at _ _ (sym (ap (pull m 0) (leaf-was at n is))) (leaf-became m a at (keeping n None) within))

  module _ (h at : ℕ) (n : Node C R) (is : slice_get a at ≡ Some n) (s : Sound (length a) (suc h) (tree_at m a (suc h) at))
      (i : ℕ) (best-is : i ≡ best_at m a (kids m n)) (lt : i < length (kids m n)) (top : Node C R) (top-is : slice_get a (get_or (kids m n) i 0) ≡ Some top) where
    top_kept : kept_by (nth_tree i (below m a h n)) ≡ kept_in m top
    top_kept = ap kept_by (nth-grow (tree_at m a h) i (kids m n) lt) ∙ kept-tree m a h (get_or (kids m n) i 0) ∙ ap (kept_of_node m) top-is

    -- what the definition says, by what was read
    pulled-is : (b : Bool) → is_some (kept_in m top) ≡ b → pull m (suc h) (tree_at m a (suc h) at) ≡ fork at (key_in n.own) (kept_in m top) (cond b (alter i (pull m h) (below m a h n)) (below m a h n))
    pulled-is b e =
        ap (pull m (suc h)) (fork-was m a h at n is)
        ∙ ap (λ j. fork at (key_in n.own) (kept_by (nth_tree j (below m a h n))) (cond (is_some (kept_by (nth_tree j (below m a h n)))) (alter j (pull m h) (below m a h n)) (below m a h n))) (best-tree m a h (kids m n) ∙ sym best-is)
        ∙ ap (λ o. fork at (key_in n.own) o (cond (is_some o) (alter i (pull m h) (below m a h n)) (below m a h n))) top_kept
        ∙ ap (λ c. fork at (key_in n.own) (kept_in m top) (cond c (alter i (pull m h) (below m a h n)) (below m a h n))) e

    pub pull-stop : top.kept ≡ None → Became m a (set a at (keeping n None)) (suc h) at (pull m (suc h) (tree_at m a (suc h) at))
    pull-stop e =
        renamed m a _ (suc h) at _ _ (ap (λ o. fork at (key_in n.own) o (below m a h n)) (sym (ap (point_in_any m) e)) ∙ sym (pulled-is false (ap (λ o. is_some (point_in_any m o)) e)))
        (own-became m a h at n is s (keeping n None) refl)

    pub pull-on : (b : List (Node C R)) → length b ≡ length a → is_some (kept_in m top) ≡ true → Became m a b h (get_or (kids m n) i 0) (pull m h (tree_at m a h (get_or (kids m n) i 0)))
        → Became m a (set b at (keeping n top.kept)) (suc h) at (pull m (suc h) (tree_at m a (suc h) at))
    pull-on b len e bec =
        renamed m a _ (suc h) at _ _ (sym (pulled-is true e))
        (child-became m a h at n is s b len i lt (pull m h) (pull-uses h) bec (keeping n top.kept) refl)
