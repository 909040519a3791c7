-- The laws of the two orders, of the plain set, and of sums.
use Rattle.std.specs.Prelude.{◌≡◌, suc, true, false, cond, T, List, [], ◌∷◌, ◌++◌, length, Some, None, Float}
use Rattle.std.specs.declared.cmp.Ordering.TheVariants.{Equal}
use Rattle.std.specs.Float.Ieee.{le}
use Rattle.std.specs.Ordering.{is_eq}
use Rattle.kinds.specs.Order.{Preorder, IsAny}
use Rattle.kinds.specs.Meaning.{Meaning}
use Rattle.plain.specs.declared.point.Key.{Key}
use Rattle.plain.specs.declared.point.Point.{Point}
use Rattle.plain.specs.Points.{key_order, rank_order, FitPoint}
use Rattle.plain.specs.Set.{Rising, AllFit, weight_at, stands, put, remove, reweigh, not_after_last}
use Rattle.plain.specs.Windows.{window, total, Covered}

module _ {C W R : Type 0} (m : Meaning C W R) where
  -- key order is total among all keys, and only a key ties with itself; rank order is total among fit points, and only points of one key tie
  pub record Orders : Type 0 where
    pub keys : Preorder IsAny (key_order m)
    pub keys_tie : (a b : Key C) → key_order m a b ≡ Equal → a ≡ b
    pub ranks : Preorder (FitPoint m) (rank_order m)
    pub ranks_tie : (p q : Point C W) → rank_order m p q ≡ Equal → p.key ≡ q.key

  -- what a change keeps: the order, and that points are fit
  pub record Keeps : Type 0 where
    pub put_rises : (p : Point C W) (ps : List (Point C W)) → stands m p.key ps ≡ false → Rising m ps → Rising m (put m p ps)
    pub remove_rises : (k : Key C) (ps : List (Point C W)) → Rising m ps → Rising m (remove m k ps)
    pub reweigh_rises : (k : Key C) (w : W) (ps : List (Point C W)) → Rising m ps → Rising m (reweigh m k w ps)
    pub append_rises : (p : Point C W) (ps : List (Point C W)) → not_after_last m ps p.key ≡ false → Rising m ps → Rising m (ps ++ (p ∷ []))
    pub put_fits : (p : Point C W) (ps : List (Point C W)) → FitPoint m p → AllFit m ps → AllFit m (put m p ps)
    pub remove_fits : (k : Key C) (ps : List (Point C W)) → AllFit m ps → AllFit m (remove m k ps)
    pub reweigh_fits : (k : Key C) (w : W) (ps : List (Point C W)) → T (m.fit k.at w) → AllFit m ps → AllFit m (reweigh m k w ps)

  -- how many points there are after a change
  pub record Counts : Type 0 where
    pub put_counts : (p : Point C W) (ps : List (Point C W)) → length (put m p ps) ≡ suc (length ps)
    pub remove_counts : (k : Key C) (ps : List (Point C W)) → stands m k ps ≡ true → suc (length (remove m k ps)) ≡ length ps
    pub reweigh_counts : (k : Key C) (w : W) (ps : List (Point C W)) → length (reweigh m k w ps) ≡ length ps

  -- what is found after a change: at its key the new weight, or none; at every other key what was found before
  pub record Finds : Type 0 where
    pub put_found : (p : Point C W) (ps : List (Point C W)) (k : Key C) → stands m p.key ps ≡ false → weight_at m k (put m p ps) ≡ cond (is_eq (key_order m k p.key)) (Some p.weight) (weight_at m k ps)
    pub remove_found : (j : Key C) (ps : List (Point C W)) (k : Key C) → Rising m ps → weight_at m k (remove m j ps) ≡ cond (is_eq (key_order m k j)) None (weight_at m k ps)
    pub reweigh_found : (j : Key C) (w : W) (ps : List (Point C W)) (k : Key C) → stands m j ps ≡ true → weight_at m k (reweigh m j w ps) ≡ cond (is_eq (key_order m k j)) (Some w) (weight_at m k ps)

  -- the laws of the plain set
  pub record SetLaws : Type 0 where
    pub keeps : Keeps
    pub counts : Counts
    pub finds : Finds

  -- sums grow: if each key matched by one sum is matched by the other at a weight no smaller, the other's sum is no smaller
  abbrev pub SumsGrow : (W → Float) → Type 0
  SumsGrow number =
      (ps qs : List (Point C W)) (l u a b : C) → Rising m ps → Rising m qs → AllFit m ps → AllFit m qs
      → Covered number (window m l u ps) (window m a b qs) → T (le (total number (window m l u ps)) (total number (window m a b qs)))
