-- One parent over trees that stand side by side.
use Rattle.std.proofs.Common.{ℕ, suc, ◌≤◌, List, [], ◌∷◌, ◌++◌, None, refl, arith}
use Rattle.kinds.specs.Meaning.{Meaning}
use Rattle.plain.specs.declared.point.Key.{Key}
use Rattle.plain.specs.declared.point.Point.{Point}
use Rattle.trees.specs.Tree.{Forest, gone, leaf, fork, none, more, count, points_all}
use Rattle.trees.specs.Rules.{LevelAll, DegreesAll, KeyedAll, FirstKey}
use Rattle.trees.specs.Moves.{first_key, settled}
use Rattle.trees.proofs.Bares.{alike-level, alike-degrees, alike-keyed, alike-uses, alike_size, pull-bare, pull-points}
use Rattle.built.specs.Build.{Over}

module _ {C W : Type 0} where
  first_more : (k : Key C) (xs ys : List (Point C W)) → FirstKey k xs → FirstKey k (xs ++ ys)
  first_more k [] ys f = absurd f
  first_more k (x ∷ xs) ys f = f

  -- the key of the first tree is that of the first leaf
  pub first-keyed : (k : Key C) (h : ℕ) (ts : Forest C W) → LevelAll ts h → KeyedAll ts → 1 ≤ count ts → FirstKey (first_key k ts) (points_all ts)
  first-keyed k h none l d n = absurd (omega arith)
  first-keyed k h (more (gone p) ts) l d n = absurd l.0
  first-keyed k h (more (leaf p x o) ts) l d n = refl
  first-keyed k h (more (fork p j o us) ts) l d n = first_more j (points_all us) (points_all ts) d.0.0

module _ {C W R : Type 0} (m : Meaning C W R) where
  pub settled-over : (h p : ℕ) (k : Key C) (ts : Forest C W) → 2 ≤ count ts → count ts ≤ 4 → LevelAll ts h → DegreesAll ts 2 4 → KeyedAll ts → Over h p ts (settled m (suc h) p k ts)
  settled-over h p k ts least most l d y =
      let t = fork p (first_key k ts) None ts in
      let u = settled m (suc h) p k ts in
      let like = pull-bare m (suc h) t in
      record {
        level = alike-level u t like (suc h) l;
        degrees = alike-degrees u t like 2 4 (least, most, d);
        keyed = alike-keyed u t like (first-keyed k h ts l y (omega arith), y);
        same = pull-points m (suc h) t;
        places = alike-uses u t like;
        nodes = alike_size u t like;
      }
