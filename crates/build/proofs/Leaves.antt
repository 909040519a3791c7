-- Leaves laid one by one at the first places.
use Rattle.std.proofs.Common.{◌≡◌, ℕ, suc, ◌+◌, List, [], ◌∷◌, ◌++◌, length, Some, sym, refl, ap, ◌∙◌, arith}
use Rattle.std.specs.List.{slice_get}
use Rattle.kinds.specs.Meaning.{Meaning}
use Rattle.plain.specs.declared.point.Point.{Point}
use Rattle.trees.specs.Tree.{leaf, none, more, ◌⊕◌, grow, count, points_all, uses_all}
use Rattle.built.specs.Build.{leaves_from}
use Rattle.built.proofs.Leaves.{leaves-points, leaves-count, leaves-uses}
use Rattle.table.specs.declared.node.Node.{Node}
use Rattle.table.specs.Spares.{row}
use Rattle.table.specs.Reading.{tree_at, inside}
use Rattle.table.proofs.Frames.{grow-append, count-grow, same-trees, not_there}
use Rattle.build.specs.Leaves.{leaves_at, laid_at, Leaves}
use Rattle.build.proofs.Rows.{length-row, row_more, not-inside, occurs-inside, same_count}

-- leaves for the points of one list and of another after it
leaves-⊕ : {C W : Type 0} (p : ℕ) (xs ys : List (Point C W)) → leaves_from p (xs ++ ys) ≡ leaves_from p xs ⊕ leaves_from (p + length xs) ys
leaves-⊕ p [] ys = let e : p ≡ p + 0 = omega arith in ap (λ j. leaves_from j ys) e
leaves-⊕ p (x ∷ xs) ys =
    let e : suc p + length xs ≡ p + suc (length xs) = omega arith in
    ap (more (leaf p x (Some x))) (leaves-⊕ (suc p) xs ys ∙ ap (λ j. leaves_from (suc p) xs ⊕ leaves_from j ys) e)

module _ {C W R : Type 0} (m : Meaning C W R) where
  module _ (ns : List (Node C R)) (n : ℕ) (xs : List (Point C W)) (are : leaves_at m ns n ≡ leaves_from 0 xs) where
    -- the points that lie there are these
    pub laid-are : laid_at m ns n ≡ xs
    laid-are = ap points_all are ∙ leaves-points 0 xs

    pub leaves-lie : Leaves m ns n
    leaves-lie = are ∙ ap (leaves_from 0) (sym laid-are)

    pub laid-length : length xs ≡ n
    laid-length = sym (leaves-count 0 xs) ∙ ap count (sym are) ∙ count-grow (tree_at m ns 0) (row n 0) ∙ length-row n 0

    -- their places are the first n
    pub laid-uses : (q : ℕ) → uses_all (leaves_at m ns n) q ≡ inside n q
    laid-uses q =
        let e : 0 + n ≡ n = omega arith in
        omega (arith, ap (λ ts. uses_all ts q) are, leaves-uses 0 xs q, same_count q (length xs) 0, occurs-inside q (length xs) 0, not-inside 0 q (omega arith), ap (λ j. inside (0 + j) q) laid-length, ap (λ j. inside j q) e)

  -- one leaf more
  pub leaves-more : (a b : List (Node C R)) (n : ℕ) (xs : List (Point C W)) (x : Point C W) → leaves_at m a n ≡ leaves_from 0 xs
      → tree_at m b 0 n ≡ leaf n x (Some x) → ((q : ℕ) → (q ≡ n → ⊥) → slice_get b q ≡ slice_get a q)
      → leaves_at m b (n + 1) ≡ leaves_from 0 (xs ++ (x ∷ []))
  leaves-more a b n xs x are is frame =
      let there : 0 + n ≡ n = omega arith in
      let end : n ≡ 0 + length xs = omega (arith, laid-length a n xs are) in
      ap (grow (tree_at m b 0)) (row_more n 0 ∙ ap (λ (p : ℕ). row n 0 ++ (p ∷ [])) there)
      ∙ grow-append (tree_at m b 0) (row n 0) (n ∷ [])
      ∙ ap (λ ts. ts ⊕ more (tree_at m b 0 n) none) (same-trees m a b 0 (row n 0) (λ q u. frame q (not_there (uses_all (leaves_at m a n)) n (laid-uses a n xs are n ∙ not-inside n n (omega arith)) q u)) ∙ are)
      ∙ ap (λ t. leaves_from 0 xs ⊕ more t none) (is ∙ ap (λ p. leaf p x (Some x)) end)
      ∙ sym (leaves-⊕ 0 xs (x ∷ []))

  -- at first there is none
  pub laid_none : (a : List (Node C R)) → Leaves m a 0 × (laid_at m a 0 ≡ [])
  laid_none a = (refl, refl)

  -- and then each adds its point at the end
  pub laid_more : (a b : List (Node C R)) (n : ℕ) (x : Point C W) → Leaves m a n
      → tree_at m b 0 n ≡ leaf n x (Some x) → ((q : ℕ) → (q ≡ n → ⊥) → slice_get b q ≡ slice_get a q)
      → Leaves m b (n + 1) × (laid_at m b (n + 1) ≡ laid_at m a n ++ (x ∷ []))
  laid_more a b n x are is frame =
      let xs = laid_at m a n ++ (x ∷ []) in
      let e = leaves-more a b n (laid_at m a n) x are is frame in
      (leaves-lie b (n + 1) xs e, laid-are b (n + 1) xs e)
