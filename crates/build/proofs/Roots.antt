-- The last level: one tree, or none, which stands in the table.
use Rattle.std.proofs.Common.{◌≡◌, ℕ, ◌+◌, ◌-◌, ◌≤◌, eqb, ◌⊎◌, List, length, sym, ap, ◌∙◌, subst, inl, inr, ⊎_elim, arith}
use Rattle.std.proofs.lemmas.Bool.{cond-true, cond-false, eq-eqb, ne_eqb, cases_eq}
use Rattle.kinds.specs.Meaning.{Meaning, First, Second}
use Rattle.plain.specs.declared.point.Key.{Key}
use Rattle.refusals.specs.Limits.{most_nodes}
use Rattle.trees.specs.Tree.{Forest, none, more, points_all, size_all, uses_all}
use Rattle.trees.specs.Heap.{Good}
use Rattle.shapes.specs.Shape.{Holds, occurs}
use Rattle.shapes.specs.Settles.{Whole}
use Rattle.shapes.proofs.Wholes.{whole-none}
use Rattle.built.specs.Build.{levels, leaves_from, Grown}
use Rattle.built.proofs.Steps.{levels-done}
use Rattle.built.proofs.Whole.{leaves-grown}
use Rattle.table.specs.declared.node.Node.{Node}
use Rattle.table.specs.declared.header.Header.{Header}
use Rattle.table.specs.Spares.{spares}
use Rattle.table.specs.Reading.{tree_at, inside}
use Rattle.tree.specs.Standing.{forest_of, points_of, Standing, Ruled}
use Rattle.build.specs.Leaves.{laid_at, Leaves}
use Rattle.build.specs.Stages.{headed, trees_in, tree_over, Raising}
use Rattle.build.proofs.Rows.{length-row, occurs-inside}
use Rattle.build.proofs.Leaves.{laid-length}
use Rattle.build.proofs.Turns.{some_key, count-trees}

module _ {C W R : Type 0} (m : Meaning C W R) (a b : List (Node C R)) (n first left h : ℕ) (are : Leaves m a n)
    (on : Raising m b n (laid_at m a n) (tree_over m a n) first left h) (done : left ≤ 1) (hd : Header) (is : hd ≡ headed first left h n) where
  abbrev ts : Forest C W
  ts = trees_in m b h left first

  -- what is left is the tree that stands
  root-forest : forest_of m b hd ≡ ts
  root-forest =
      let t = tree_at m b h first in
      ap (forest_of m b) is
      ∙ ⊎_elim
      (λ z. let e : left ≡ 0 = omega (arith, on.most) in cond-true (eqb n 0) none (more t none) (eq-eqb n 0 z) ∙ ap (λ j. trees_in m b h j first) (sym e))
      (λ z. let e : left ≡ 1 = omega (arith, on.some (omega arith)) in cond-false (eqb n 0) none (more t none) (ne_eqb n 0 z) ∙ ap (λ j. trees_in m b h j first) (sym e))
      (cases_eq n 0)

  within : first + left ≤ length b
  within = go (cases_eq left 0)
    where
      go : (left ≡ 0) ⊎ (left ≡ 0 → ⊥) → first + left ≤ length b
      go (inl z) = omega (arith, on.nodes, ap (λ j. size_all (trees_in m b h j first)) z)
      go (inr z) = omega (arith, on.room)

  pub root-points : points_of m b hd ≡ laid_at m a n
  root-points = ap points_all root-forest ∙ on.same

  pub root-counted : hd.count ≡ n
  root-counted = ap (λ k. k.count) is

  pub root-standing : length b ≤ most_nodes → Standing m b hd
  root-standing small =
      let fresh = first + left in
      let all : fresh + (length b - fresh) ≡ length b = omega (arith, within) in
      record {
        small = small;
        holds = subst (λ k. Holds k.top.height (forest_of m b hd)) (sym is) (subst (Holds h) (sym root-forest) (record { one = omega (arith, count-trees m b h left first); fine = record { level = on.level; degrees = on.degrees; keyed = on.keyed } }));
        places = λ q. omega (arith, ap (λ k. occurs q (spares b k.free)) is, ap (λ f. uses_all f q) root-forest, on.places q, occurs-inside q (length b - fresh) fresh, ap (λ j. inside j q) all);
        free = omega (arith, ap (λ k. length (spares b k.free)) is, ap size_all root-forest, on.nodes, length-row (length b - fresh) fresh, within);
        counted = root-counted ∙ sym (ap length root-points ∙ laid-length m a n (laid_at m a n) are);
      }

  -- no level is left to lay
  ended : (k : Key C) → (ts, h, first + left) ≡ tree_over m a n k
  ended k = sym (levels-done m left h (first + left) k ts (omega (arith, count-trees m b h left first))) ∙ on.trees k

  pub root-tree : (k : Key C) → tree_over m a n k ≡ (forest_of m b hd, hd.top.height, hd.free.fresh)
  root-tree k = sym (ended k) ∙ ap (λ f. (f, h, first + left)) (sym root-forest) ∙ ap (λ k. (forest_of m b hd, k.top.height, k.free.fresh)) (sym is)

  module _ (orders : First m) (ranks : Second m) (good : Good m (laid_at m a n)) where
    xs-length : length (laid_at m a n) ≡ n
    xs-length = laid-length m a n (laid_at m a n) are

    grown : Key C → Grown m 0 (laid_at m a n) ts h (first + left)
    grown k =
        let xs = laid_at m a n in
        let z : 0 + length xs ≡ n = omega (arith, xs-length) in
        let same : (ts, h, first + left) ≡ levels m n 0 (0 + length xs) k (leaves_from 0 xs) =
        ended k ∙ ap (levels m n 0 n k) are ∙ ap (λ j. levels m n 0 j k (leaves_from 0 xs)) (sym z) in
        let P : Forest C W × ℕ × ℕ → Type 0 = λ r. Grown m 0 (laid_at m a n) r.0 r.1 r.2 in
        subst P (sym same) (leaves-grown m orders ranks n 0 k xs good (omega (arith, xs-length)))

    whole : Whole m h ts
    whole = go (cases_eq n 0)
      where
        go : (n ≡ 0) ⊎ (n ≡ 0 → ⊥) → Whole m h ts
        go (inl z) = let e : left ≡ 0 = omega (arith, on.most) in subst (λ j. Whole m h (trees_in m b h j first)) (sym e) (whole-none m h)
        go (inr z) =
            let w = grown (some_key ts h on.level (omega (arith, count-trees m b h left first, on.some (omega arith)))) in
            record {
              holds = record { one = w.one; fine = record { level = w.sorted.level; degrees = w.degrees; keyed = w.sorted.keyed } };
              good = w.sorted.good;
              heap = w.heap;
              full = w.full;
            }

    pub root-ruled : Ruled m b hd
    root-ruled = subst (λ k. Whole m k.top.height (forest_of m b hd)) (sym is) (subst (Whole m h) (sym root-forest) whole)

  -- all that is promised of it
  pub rooted : length b ≤ most_nodes →
      record {
        standing : Standing m b hd;
        counted : hd.count ≡ n;
        tree : (k : Key C) → tree_over m a n k ≡ (forest_of m b hd, hd.top.height, hd.free.fresh);
        points : points_of m b hd ≡ laid_at m a n;
        ruled : First m → Second m → Good m (laid_at m a n) → Ruled m b hd;
      }
  rooted small = record { standing = root-standing small; counted = root-counted; tree = root-tree; points = root-points; ruled = root-ruled }
