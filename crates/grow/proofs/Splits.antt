-- One node laid as two: in the table, as in the tree.
use Rattle.std.proofs.Common.{◌≡◌, ℕ, suc, ◌+◌, ◌-◌, ◌<◌, ◌≤◌, List, [], ◌∷◌, length, None, Option, sym, ap, ◌∙◌, subst, arith}
use Rattle.kinds.specs.Meaning.{Meaning}
use Rattle.plain.specs.declared.point.Key.{Key}
use Rattle.plain.specs.declared.point.Point.{Point}
use Rattle.trees.specs.Tree.{Forest, fork, none, more, grow, hit, uses, uses_all, count}
use Rattle.trees.specs.Rules.{Level, Degrees}
use Rattle.trees.specs.Moves.{first_key, settled, seated}
use Rattle.trees.proofs.Bares.{alike-uses, alike-level, alike-degrees, pull-bare}
use Rattle.table.specs.declared.node.Node.{Node}
use Rattle.table.specs.Reading.{tree_at, inside, Sounds}
use Rattle.table.proofs.Frames.{hit-here, count-grow, same-tree, same-trees}
use Rattle.table.proofs.Steps.{inside-lt, inside_one}
use Rattle.tree.specs.Forests.{Laid, Seated}
use Rattle.grow.specs.Split.{under, Apart, pair_over, Split}

module _ {C W R : Type 0} (m : Meaning C W R) where
  -- a settled node has the shape of a fork
  pub settled-uses : (H p : ℕ) (k : Key C) (ts : Forest C W) (z : ℕ) → uses (settled m H p k ts) z ≡ hit p z + uses_all ts z
  settled-uses H p k ts z = alike-uses (settled m H p k ts) (fork p (first_key k ts) None ts) (pull-bare m H (fork p (first_key k ts) None ts)) z

  pub settled-level : (H p : ℕ) (k : Key C) (n : ℕ) (ts : Forest C W) → 0 < H → Sounds n (H - 1) ts → Level (settled m H p k ts) H
  settled-level H p k n ts pos s =
      alike-level (settled m H p k ts) (fork p (first_key k ts) None ts) (pull-bare m H (fork p (first_key k ts) None ts)) H
      (let up : suc (H - 1) ≡ H = omega arith in subst (λ j. Level (fork p (first_key k ts) None ts) j) up s.level)

  pub settled-degrees : (H p : ℕ) (k : Key C) (n : ℕ) (ts : Forest C W) → 0 < count ts → count ts ≤ 4 → Sounds n (H - 1) ts → Degrees (settled m H p k ts) 1 4
  settled-degrees H p k n ts some few s =
      alike-degrees (settled m H p k ts) (fork p (first_key k ts) None ts) (pull-bare m H (fork p (first_key k ts) None ts)) 1 4 (omega arith, few, s.degrees)

module _ {C W R : Type 0} {m : Meaning C W R} {a : List (Node C R)} {H p q : ℕ} {ls rs : List ℕ} (pre : Apart m a H p q ls rs) where
  abbrev lefts : Forest C W
  lefts = under m a H ls

  abbrev rights : Forest C W
  rights = under m a H rs

  one : (z : ℕ) → hit p z + hit q z + (uses_all lefts z + uses_all rights z) ≤ 1
  one z = omega (arith, pre.each z, inside_one (length a) z)

  pub p-within : p < length a
  p-within = inside-lt (length a) p (omega (arith, pre.each p, hit-here p))

  pub q-within : q < length a
  q-within = inside-lt (length a) q (omega (arith, pre.each q, hit-here q))

  -- the first node has been laid
  module _ {b : List (Node C R)} (len : length b ≡ length a) (laid : Laid m a b H p ls) where
    pub rights-same : under m b H rs ≡ rights
    rights-same = same-trees m a b (H - 1) rs (λ z u. laid.frame z (omega (arith, one z)) (omega (arith, one z)))

    pub rights-sound : Sounds (length b) (H - 1) (under m b H rs)
    rights-sound = subst (λ ts. Sounds (length b) (H - 1) ts) (sym rights-same) (subst (λ n. Sounds n (H - 1) rights) (sym len) pre.right)

    pub q-off : uses_all (under m b H rs) q ≡ 0
    q-off = ap (λ ts. uses_all ts q) rights-same ∙ omega (arith, one q, hit-here q)

    -- and the second
    module _ {d : List (Node C R)} (len' : length d ≡ length b) (laid' : Laid m b d H q rs) where
      pub both : (k : Key C) → grow (tree_at m d H) (p ∷ q ∷ []) ≡ pair_over m a H p q k ls rs
      both k =
          let first : tree_at m d H p ≡ settled m H p k lefts =
          same-tree m b d H p (λ z u.
          let v : 0 < hit p z + uses_all lefts z = subst (λ y. 0 < y) (ap (λ t. uses t z) (laid.tree k) ∙ settled-uses m H p k lefts z) u in
          laid'.frame z (omega (arith, one z)) (ap (λ ts. uses_all ts z) rights-same ∙ omega (arith, one z)))
          ∙ laid.tree k in
          let second : tree_at m d H q ≡ settled m H q k rights = laid'.tree k ∙ ap (settled m H q k) rights-same in
          ap (λ t. more t (more (tree_at m d H q) none)) first ∙ ap (λ t. more (settled m H p k lefts) (more t none)) second

      pub both-sound : Key C → Sounds (length d) H (grow (tree_at m d H) (p ∷ q ∷ []))
      both-sound k =
          subst (Sounds (length d) H) (sym (both k))
          (record {
            level = (settled-level m H p k (length a) lefts pre.above pre.left, (settled-level m H q k (length a) rights pre.above pre.right, tt));
            degrees = (
              settled-degrees m H p k (length a) lefts (omega (arith, pre.left_some, count-grow (tree_at m a (H - 1)) ls)) (omega (arith, pre.left_few, count-grow (tree_at m a (H - 1)) ls)) pre.left,
              (settled-degrees m H q k (length a) rights (omega (arith, pre.right_some, count-grow (tree_at m a (H - 1)) rs)) (omega (arith, pre.right_few, count-grow (tree_at m a (H - 1)) rs)) pre.right, tt),
            );
            apart = λ z. subst (λ n. uses (settled m H p k lefts) z + (uses (settled m H q k rights) z + 0) ≤ inside n z) (sym (len' ∙ len)) (omega (arith, settled-uses m H p k lefts z, settled-uses m H q k rights z, pre.each z));
          })

      -- and the kept point seated
      pub split_done : {e : List (Node C R)} {o : Option (Point C W)} → Key C → Seated m d e H (p ∷ q ∷ []) o → Split m a e H p q ls rs o
      split_done {e} {o} j seat = record {
        trees = λ k. seat.trees ∙ ap (seated m H o) (both k);
        frame = λ z x y u v.
            seat.frame z (ap (λ ts. uses_all ts z) (both j) ∙ omega (arith, settled-uses m H p j lefts z, settled-uses m H q j rights z))
            ∙ laid'.frame z y (ap (λ ts. uses_all ts z) rights-same ∙ v)
            ∙ laid.frame z x u;
      }
