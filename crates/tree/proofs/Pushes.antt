-- Points move towards their leaves, and leaves are weighed: in the table, as in the tree.
use Rattle.std.proofs.Common.{◌≡◌, ℕ, suc, ◌<◌, Bool, true, false, cond, List, length, get_or, set, Some, None, Option, sym, refl, ap, ◌∙◌, subst}
use Rattle.std.specs.List.{slice_get}
use Rattle.std.specs.Ordering.{is_lt}
use Rattle.kinds.specs.Meaning.{Meaning}
use Rattle.plain.specs.declared.point.Key.{Key}
use Rattle.plain.specs.declared.point.Point.{Point}
use Rattle.plain.specs.Points.{rank_order}
use Rattle.trees.specs.Tree.{Tree, fork, alter, uses}
use Rattle.trees.specs.Kept.{pick, pull, push, has_key, take_out, weigh}
use Rattle.trees.proofs.Bares.{alike-uses, push-bare, take_bare, weigh-bare}
use Rattle.table.specs.declared.node.Node.{Node}
use Rattle.table.specs.declared.node.Stored.{Stored}
use Rattle.table.specs.Reading.{point_in, point_in_any, kept_in, tree_at, Sound, Became}
use Rattle.table.specs.Keys.{key_in}
use Rattle.table.proofs.Steps.{kids, below, fork-was, leaf-became, own-became, child-became, child-only}
use Rattle.table.specs.Nodes.{keeping, weighing}
use Rattle.tree.specs.Places.{pick_at}
use Rattle.tree.proofs.Picks.{pick-tree}
use Rattle.tree.proofs.Pulls.{renamed, leaf-was}

module _ {C W R : Type 0} (m : Meaning C W R) (a : List (Node C R)) where
  pub push-uses : (h : ℕ) (x : Point C W) (t : Tree C W) (q : ℕ) → uses (push m h x t) q ≡ uses t q
  push-uses h x t q = alike-uses (push m h x t) t (push-bare m h x t) q

  pub take-uses : (h : ℕ) (k : Key C) (t : Tree C W) (q : ℕ) → uses (take_out m h k t) q ≡ uses t q
  take-uses h k t q = alike-uses (take_out m h k t) t (take_bare m h k t) q

  pub weigh-uses : (h : ℕ) (k : Key C) (w : W) (t : Tree C W) (q : ℕ) → uses (weigh m h k w t) q ≡ uses t q
  weigh-uses h k w t q = alike-uses (weigh m h k w t) t (weigh-bare m h k w t) q

  -- ---- at a leaf
  module _ (H at : ℕ) (n : Node C R) (z : H ≡ 0) (is : slice_get a at ≡ Some n) (within : at < length a) where
    pub push-leaf : (x : Stored C R) → Became m a (set a at (keeping n (Some x))) H at (push m H (point_in m x) (tree_at m a H at))
    push-leaf x =
        subst (λ k. Became m a (set a at (keeping n (Some x))) k at (push m k (point_in m x) (tree_at m a k at))) (sym z)
        (renamed m a _ 0 at _ _ (sym (ap (push m 0 (point_in m x)) (leaf-was m a at n is))) (leaf-became m a at (keeping n (Some x)) within))

    pub take-leaf : (k : Key C) → Became m a (set a at (keeping n None)) H at (take_out m H k (tree_at m a H at))
    take-leaf k =
        subst (λ j. Became m a (set a at (keeping n None)) j at (take_out m j k (tree_at m a j at))) (sym z)
        (renamed m a _ 0 at _ _ (sym (ap (take_out m 0 k) (leaf-was m a at n is))) (leaf-became m a at (keeping n None) within))

    pub weigh-leaf : (k : Key C) (w : R) → Became m a (set a at (weighing n w)) H at (weigh m H k (m.recalled w) (tree_at m a H at))
    weigh-leaf k w =
        subst (λ j. Became m a (set a at (weighing n w)) j at (weigh m j k (m.recalled w) (tree_at m a j at))) (sym z)
        (renamed m a _ 0 at _ _ (sym (ap (weigh m 0 k (m.recalled w)) (leaf-was m a at n is))) (leaf-became m a at (weighing n w) within))

  -- ---- at a node above others
  module _ (h at : ℕ) (n : Node C R) (is : slice_get a at ≡ Some n) (s : Sound (length a) (suc h) (tree_at m a (suc h) at)) where
    abbrev fork_keeping : Option (Point C W) → Tree C W
    fork_keeping o = fork at (key_in n.own) o (below m a h n)

    abbrev pushed_as : Point C W → Point C W → ℕ → Tree C W
    pushed_as u v j = fork at (key_in n.own) (Some u) (alter j (push m h v) (below m a h n))

    pub push-empty : (x : Stored C R) → n.kept ≡ None → Became m a (set a at (keeping n (Some x))) (suc h) at (push m (suc h) (point_in m x) (tree_at m a (suc h) at))
    push-empty x e =
        renamed m a _ (suc h) at _ _ (sym (ap (push m (suc h) (point_in m x)) (fork-was m a h at n is ∙ ap (λ o. fork_keeping (point_in_any m o)) e)))
        (own-became m a h at n is s (keeping n (Some x)) refl)

    pub take-here : (k : Key C) (b : List (Node C R)) → has_key m k (kept_in m n) ≡ true → Became m a b (suc h) at (pull m (suc h) (tree_at m a (suc h) at)) → Became m a b (suc h) at (take_out m (suc h) k (tree_at m a (suc h) at))
    take-here k b e bec =
        renamed m a b (suc h) at _ _
        (ap (pull m (suc h)) (fork-was m a h at n is)
        ∙ sym (ap (take_out m (suc h) k) (fork-was m a h at n is) ∙ ap (λ c. cond c (pull m (suc h) (fork_keeping (kept_in m n))) (fork at (key_in n.own) (kept_in m n) (alter (pick m k (below m a h n)) (take_out m h k) (below m a h n)))) e))
        bec

    -- one child changes
    module _ (b : List (Node C R)) (len : length b ≡ length a) (i : ℕ) (lt : i < length (kids m n)) where
      index : (k : Key C) → i ≡ pick_at m a k (kids m n) → pick m k (below m a h n) ≡ i
      index k e = pick-tree m a h k (kids m n) ∙ sym e

      pub push-on : (x y first last : Stored C R) → n.kept ≡ Some y
          → first ≡ cond (is_lt (rank_order m (point_in m x) (point_in m y))) x y
          → last ≡ cond (is_lt (rank_order m (point_in m x) (point_in m y))) y x
          → i ≡ pick_at m a (key_in last) (kids m n)
          → Became m a b h (get_or (kids m n) i 0) (push m h (point_in m last) (tree_at m a h (get_or (kids m n) i 0)))
          → Became m a (set b at (keeping n (Some first))) (suc h) at (push m (suc h) (point_in m x) (tree_at m a (suc h) at))
      push-on x y first last e f l picked bec =
          renamed m a _ (suc h) at _ _ (sym pushed-is) (child-became m a h at n is s b len i lt (push m h (point_in m last)) (push-uses h (point_in m last)) bec (keeping n (Some first)) refl)
        where
          either : (c : Bool) (u v : Stored C R) → cond c (point_in m u) (point_in m v) ≡ point_in m (cond c u v)
          either true u v = refl
          either false u v = refl

          pushed-is : push m (suc h) (point_in m x) (tree_at m a (suc h) at) ≡ pushed_as (point_in m first) (point_in m last) i
          pushed-is =
              let c = is_lt (rank_order m (point_in m x) (point_in m y)) in
              let fs : cond c (point_in m x) (point_in m y) ≡ point_in m first = either c x y ∙ ap (point_in m) (sym f) in
              let ls : cond c (point_in m y) (point_in m x) ≡ point_in m last = either c y x ∙ ap (point_in m) (sym l) in
              ap (push m (suc h) (point_in m x)) (fork-was m a h at n is ∙ ap (λ o. fork_keeping (point_in_any m o)) e)
              ∙ ap (λ u. pushed_as u (cond c (point_in m y) (point_in m x)) (pick m (cond c (point_in m y) (point_in m x)).key (below m a h n))) fs
              ∙ ap (λ v. pushed_as (point_in m first) v (pick m v.key (below m a h n))) ls
              ∙ ap (pushed_as (point_in m first) (point_in m last)) (index (key_in last) picked)

      pub take_on : (k : Key C) → has_key m k (kept_in m n) ≡ false → i ≡ pick_at m a k (kids m n)
          → Became m a b h (get_or (kids m n) i 0) (take_out m h k (tree_at m a h (get_or (kids m n) i 0)))
          → Became m a b (suc h) at (take_out m (suc h) k (tree_at m a (suc h) at))
      take_on k e picked bec =
          renamed m a b (suc h) at _ _
          (sym (ap (take_out m (suc h) k) (fork-was m a h at n is)
          ∙ ap (λ c. cond c (pull m (suc h) (fork_keeping (kept_in m n))) (fork at (key_in n.own) (kept_in m n) (alter (pick m k (below m a h n)) (take_out m h k) (below m a h n)))) e
          ∙ ap (λ j. fork at (key_in n.own) (kept_in m n) (alter j (take_out m h k) (below m a h n))) (index k picked)))
          (child-only m a h at n is s b len i lt (take_out m h k) (take-uses h k) bec)

      pub weigh-on : (k : Key C) (w : W) → i ≡ pick_at m a k (kids m n)
          → Became m a b h (get_or (kids m n) i 0) (weigh m h k w (tree_at m a h (get_or (kids m n) i 0)))
          → Became m a b (suc h) at (weigh m (suc h) k w (tree_at m a (suc h) at))
      weigh-on k w picked bec =
          renamed m a b (suc h) at _ _
          (sym (ap (weigh m (suc h) k w) (fork-was m a h at n is) ∙ ap (λ j. fork at (key_in n.own) (kept_in m n) (alter j (weigh m h k w) (below m a h n))) (index k picked)))
          (child-only m a h at n is s b len i lt (weigh m h k w) (weigh-uses h k w) bec)
