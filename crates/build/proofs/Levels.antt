-- One level more: the trees of the next height are all there is.
use Rattle.std.proofs.Common.{◌≡◌, ℕ, suc, ◌+◌, ◌*◌, ◌^◌, ◌<◌, ◌≤◌, List, length, sym, refl, ap, ◌∙◌, subst, le_trans, mul_assoc, mul-le-mul_left, one-mul, pow-suc, arith}
use native.Mathlib.Nat.{pow-zero}
use Rattle.kinds.specs.Meaning.{Meaning}
use Rattle.plain.specs.declared.point.Key.{Key}
use Rattle.plain.specs.declared.point.Point.{Point}
use Rattle.trees.specs.Tree.{Forest, count, size_all}
use Rattle.trees.specs.Rules.{LevelAll, KeyedAll}
use Rattle.built.specs.Build.{parents, levels}
use Rattle.built.specs.Build.{Laid as LaidOver}
use Rattle.built.proofs.Leaves.{flat-degrees, leaves-level, leaves-keyed, leaves-size}
use Rattle.built.proofs.Parents.{parents-laid}
use Rattle.built.proofs.Steps.{levels-step}
use Rattle.table.specs.declared.node.Node.{Node}
use Rattle.table.specs.Reading.{inside, Sounds}
use Rattle.tree.proofs.Degrees.{all-degrees-weaker}
use Rattle.build.specs.Leaves.{leaves_at, laid_at, Leaves}
use Rattle.build.specs.Stages.{trees_in, tree_over, Raising}
use Rattle.build.proofs.Rows.{occurs-inside, same_count}
use Rattle.build.proofs.Leaves.{laid-length, laid-uses}
use Rattle.build.proofs.Turns.{some_key, count-trees}

module _ {C W R : Type 0} (m : Meaning C W R) where
  -- ---- the leaves
  pub raising-starts : (a : List (Node C R)) (n : ℕ) → 2 * n ≤ suc (length a) → Leaves m a n → Raising m a n (laid_at m a n) (tree_over m a n) 0 n 0
  raising-starts a n room are =
      let xs = laid_at m a n in
      let z : 0 + n ≡ n = omega arith in
      let flat : LevelAll (leaves_at m a n) 0 = subst (λ ts. LevelAll ts 0) (sym are) (leaves-level 0 xs) in
      record {
        trees = λ k. ap (λ j. levels m n 0 j k (leaves_at m a n)) z;
        level = flat;
        degrees = flat-degrees 2 4 (leaves_at m a n) flat;
        keyed = subst KeyedAll (sym are) (leaves-keyed 0 xs);
        same = refl;
        places = λ q. laid-uses m a n xs are q ∙ ap (λ j. inside j q) (sym z);
        nodes = ap size_all are ∙ leaves-size 0 xs ∙ laid-length m a n xs are ∙ sym z;
        room = omega arith;
        some = λ s. s;
        most = omega arith;
        low = rw (pow-zero, one-mul) (omega arith);
      }

  -- ---- a level
  module _ (b : List (Node C R)) (n : ℕ) (xs : List (Point C W)) (goal : Key C → Forest C W × ℕ × ℕ) (first left h : ℕ) (on : Raising m b n xs goal first left h) (two : 2 ≤ left) where
    abbrev p : ℕ
    p = first + left

    abbrev ts : Forest C W
    ts = trees_in m b h left first

    pub raising-sounds : Sounds p h ts
    raising-sounds = record { level = on.level; degrees = all-degrees-weaker ts 2 1 4 (omega arith) on.degrees; apart = λ q. omega (arith, on.places q) }

    module _ (c : List (Node C R)) (len : length c ≡ length b) (made : ℕ) (laid : (k : Key C) → trees_in m c (suc h) made p ≡ parents m left h p k ts) where
      abbrev vs : Forest C W
      vs = trees_in m c (suc h) made p

      cts : count ts ≡ left
      cts = count-trees m b h left first

      cvs : count vs ≡ made
      cvs = count-trees m c (suc h) made p

      key : Key C
      key = some_key ts h on.level (omega (arith, cts))

      over : LaidOver h p ts vs
      over = subst (LaidOver h p ts) (sym (laid key)) (parents-laid m left h p key ts (omega (arith, cts)) (λ e. omega (arith, cts)) on.level on.degrees on.keyed)

      next : (k : Key C) → levels m made (suc h) (p + made) k vs ≡ goal k
      next k =
          ap (λ j. levels m j (suc h) (p + j) k vs) (sym cvs)
          ∙ ap (λ ws. levels m (count ws) (suc h) (p + count ws) k ws) (laid k ∙ ap (λ j. parents m j h p k ts) (sym cts))
          ∙ sym (levels-step m h p k ts (omega (arith, cts)))
          ∙ ap (λ j. levels m j h p k ts) cts
          ∙ on.trees k

      half : 2 * made ≤ left
      half = omega (arith, over.halved, cts, cvs)

      pub raising-less : made < left
      raising-less = omega (arith, half)

      made_some : 1 ≤ made
      made_some = omega (arith, over.some (omega (arith, cts)), cvs)

      halved : 2 ^ suc h * made ≤ n
      halved =
          let twice : 2 ^ suc h * made ≡ 2 ^ h * (2 * made) = rw (pow-suc, mul_assoc) in
          le_trans (rw twice (mul-le-mul_left (2 ^ h) half)) on.low

      pub raising-turns : Raising m c n xs goal p made (suc h)
      raising-turns = record {
        trees = next;
        level = over.level;
        degrees = over.degrees;
        keyed = over.keyed;
        same = over.same ∙ on.same;
        places = λ q. omega (arith, over.places q, on.places q, ap (λ j. inside (p + j) q) cvs, same_count q (count vs) p, occurs-inside q (count vs) p);
        nodes = omega (arith, over.nodes, on.nodes, cvs);
        room = omega (arith, on.room, half);
        some = λ s. made_some;
        most = omega (arith, on.most, half);
        low = halved;
      }
