-- A new leaf beside another: in the table, as in the tree.
use Rattle.std.proofs.Common.{◌≡◌, ℕ, ◌+◌, ◌<◌, ◌≤◌, true, false, cond, List, [], ◌∷◌, length, set, Some, None, sym, ap, ◌∙◌, subst, arith, length-set}
use Rattle.std.specs.List.{slice_get}
use Rattle.std.specs.Ordering.{is_lt}
use Rattle.kinds.specs.Meaning.{Meaning}
use Rattle.plain.specs.Points.{key_order}
use Rattle.trees.specs.Tree.{Tree, leaf, none, more, grow, hit, uses, uses_all}
use Rattle.trees.specs.Moves.{beside, inserted}
use Rattle.shapes.specs.Shape.{occurs}
use Rattle.table.specs.declared.node.Node.{Node}
use Rattle.table.specs.declared.node.Stored.{Stored}
use Rattle.table.specs.declared.children.Children.{Children}
use Rattle.table.specs.declared.free.Free.{Free}
use Rattle.table.specs.Spares.{spares}
use Rattle.table.specs.Reading.{point_in, kept_in, leaf_of, tree_at, inside}
use Rattle.table.specs.Keys.{key_in}
use Rattle.table.proofs.Frames.{nth-set-same, nth-set-other, hit-here}
use Rattle.table.proofs.Steps.{inside_one}
use Rattle.table.specs.Nodes.{bare}
use Rattle.tree.proofs.Pulls.{leaf-was}
use Rattle.tree.proofs.Spared.{spares-kept}
use Rattle.grow.proofs.Readies.{root-within, next-within}
use Rattle.grow.specs.Grown.{Ready, Inserted, most, half}

module _ {C W R : Type 0} {m : Meaning C W R} {a : List (Node C R)} {f : Free} {at q : ℕ} (r : Ready m a f 0 at) (g : Free) (took : spares a f ≡ q ∷ spares a g)
    {n : Node C R} (is : slice_get a at ≡ Some n) (x : Stored C R) (c : Children) where
  within : at < length a
  within = root-within r

  was : tree_at m a 0 at ≡ leaf at (point_in m n.own) (kept_in m n)
  was = leaf-was m a at n is

  apart : (z : ℕ) → hit at z + (hit q z + occurs z (spares a g)) ≤ 1
  apart z = omega (arith, subst (λ t. uses t z + occurs z (spares a f) ≤ inside (length a) z) was (r.apart z), ap (occurs z) took, inside_one (length a) z)

  inside-q : q < length a
  inside-q = next-within r g took

  q-not-at : q ≡ at → ⊥
  q-not-at e = omega (arith, apart at, hit-here at, subst (λ z. hit z at ≡ 1) (sym e) (hit-here at))

  -- places with nothing of the two
  other_at : (z : ℕ) → hit at z ≡ 0 → z ≡ at → ⊥
  other_at z u e = omega (arith, subst (λ y. hit at y ≡ 0) e u, hit-here at)

  other-q : (z : ℕ) → hit q z ≡ 0 → z ≡ q → ⊥
  other-q z u e = omega (arith, subst (λ y. hit q y ≡ 0) e u, hit-here q)

  made : (t : Tree C W) → t ≡ leaf at (point_in m n.own) (kept_in m n) → inserted m most half 0 (point_in m x) (spares a f) t ≡ (beside m (point_in m x) q at (point_in m n.own) (kept_in m n), spares a g)
  made t e = ap (inserted m most half 0 (point_in m x) (spares a f)) e ∙ ap (λ qs. inserted m most half 0 (point_in m x) qs (leaf at (point_in m n.own) (kept_in m n))) took

  -- a table that differs at the two places alone, and holds the two leaves
  module _ (b : List (Node C R)) (len : length b ≡ length a) (same : (z : ℕ) → hit at z ≡ 0 → hit q z ≡ 0 → slice_get b z ≡ slice_get a z)
      (uses-both : (z : ℕ) → uses_all (beside m (point_in m x) q at (point_in m n.own) (kept_in m n)) z ≡ hit at z + hit q z)
      (trees : grow (tree_at m b 0) (at ∷ q ∷ []) ≡ beside m (point_in m x) q at (point_in m n.own) (kept_in m n)) where
    both : Inserted m a b f g 0 at (point_in m x) (Some q)
    both = record {
      trees = trees ∙ sym (ap (λ p. p.0) (made (tree_at m a 0 at) was));
      spare = spares-kept a b g len (λ z o. same z (omega (arith, apart z)) (omega (arith, apart z))) ∙ sym (ap (λ p. p.1) (made (tree_at m a 0 at) was));
      frame = λ z u v.
          let w = sym (ap (λ p. uses_all p.0 z) (made (tree_at m a 0 at) was)) ∙ v in
          same z (omega (arith, uses-both z)) (omega (arith, uses-both z));
    }

  pub leaf-before : is_lt (key_order m (key_in x) (key_in n.own)) ≡ true → Inserted m a (set (set a q n) at (bare x c)) f g 0 at (point_in m x) (Some q)
  leaf-before e =
      let b = set (set a q n) at (bare x c) in
      let len : length (set a q n) ≡ length a = length-set a q n in
      let is-beside : beside m (point_in m x) q at (point_in m n.own) (kept_in m n) ≡ more (leaf at (point_in m x) None) (more (leaf q (point_in m n.own) (kept_in m n)) none) = ap (λ d. cond d (more (leaf at (point_in m x) None) (more (leaf q (point_in m n.own) (kept_in m n)) none)) (more (leaf at (point_in m n.own) (kept_in m n)) (more (leaf q (point_in m x) None) none))) e in
      let first = ap (leaf_of m at) (nth-set-same (set a q n) at (bare x c) (subst (λ k. at < k) (sym len) within)) in
      let second = ap (leaf_of m q) (nth-set-other (set a q n) at q (bare x c) q-not-at ∙ nth-set-same a q n inside-q) in
      both b (length-set (set a q n) at (bare x c) ∙ len)
      (λ z u v. nth-set-other (set a q n) at z (bare x c) (other_at z u) ∙ nth-set-other a q z n (other-q z v))
      (λ z. ap (λ ts. uses_all ts z) is-beside ∙ omega arith)
      (ap (λ t. more t (more (tree_at m b 0 q) none)) first ∙ ap (λ t. more (leaf at (point_in m x) None) (more t none)) second ∙ sym is-beside)

  pub leaf-after : is_lt (key_order m (key_in x) (key_in n.own)) ≡ false → Inserted m a (set a q (bare x c)) f g 0 at (point_in m x) (Some q)
  leaf-after e =
      let b = set a q (bare x c) in
      let is-beside : beside m (point_in m x) q at (point_in m n.own) (kept_in m n) ≡ more (leaf at (point_in m n.own) (kept_in m n)) (more (leaf q (point_in m x) None) none) = ap (λ d. cond d (more (leaf at (point_in m x) None) (more (leaf q (point_in m n.own) (kept_in m n)) none)) (more (leaf at (point_in m n.own) (kept_in m n)) (more (leaf q (point_in m x) None) none))) e in
      let first = ap (leaf_of m at) (nth-set-other a q at (bare x c) (λ w. q-not-at (sym w)) ∙ is) in
      let second = ap (leaf_of m q) (nth-set-same a q (bare x c) inside-q) in
      both b (length-set a q (bare x c))
      (λ z u v. nth-set-other a q z (bare x c) (other-q z v))
      (λ z. ap (λ ts. uses_all ts z) is-beside ∙ omega arith)
      (ap (λ t. more t (more (tree_at m b 0 q) none)) first ∙ ap (λ t. more (leaf at (point_in m n.own) (kept_in m n)) (more t none)) second ∙ sym is-beside)
