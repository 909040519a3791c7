-- What points can move on stays so when they have moved.
use Rattle.std.proofs.Common.{◌≡◌, ℕ, true, T, Option, sym, subst}
use Rattle.kinds.specs.Meaning.{Meaning, First, Second}
use Rattle.plain.specs.declared.point.Key.{Key}
use Rattle.plain.specs.declared.point.Point.{Point}
use Rattle.plain.specs.Set.{AllFit, stands}
use Rattle.plain.proofs.Sets.{fit-reweigh}
use Rattle.trees.specs.Tree.{Tree, Forest, points}
use Rattle.trees.specs.Kept.{pull, push, take_out, weigh}
use Rattle.trees.specs.Moves.{seated}
use Rattle.trees.specs.Heap.{Good, Sorted, SortedAll}
use Rattle.trees.proofs.Bares.{bare, alike-level, alike-keyed, alike-rising, alike-level_all, alike-keyed_all, pull-bare, pull-points, push-bare, push-points, take_bare, take-points, weigh-bare, seated-bare, seated-points}
use Rattle.kept.proofs.Weighs.{weigh-points}

module _ {C W R : Type 0} (m : Meaning C W R) (first : First m) (second : Second m) where
  pub alike-sorted : (h : ℕ) (s t : Tree C W) → bare s ≡ bare t → points s ≡ points t → Sorted m h t → Sorted m h s
  alike-sorted h s t e p d = record { level = alike-level s t e h d.level; keyed = alike-keyed s t e d.keyed; good = subst (Good m) (sym p) d.good }

  pub pull-sorted : (h : ℕ) (t : Tree C W) → Sorted m h t → Sorted m h (pull m h t)
  pull-sorted h t = alike-sorted h (pull m h t) t (pull-bare m h t) (pull-points m h t)

  pub push-sorted : (h : ℕ) (x : Point C W) (t : Tree C W) → Sorted m h t → Sorted m h (push m h x t)
  push-sorted h x t = alike-sorted h (push m h x t) t (push-bare m h x t) (push-points m h x t)

  pub take-sorted : (h : ℕ) (k : Key C) (t : Tree C W) → Sorted m h t → Sorted m h (take_out m h k t)
  take-sorted h k t = alike-sorted h (take_out m h k t) t (take_bare m h k t) (take-points m h k t)

  pub seated-sorted : (h : ℕ) (o : Option (Point C W)) (ts : Forest C W) → SortedAll m h ts → SortedAll m h (seated m h o ts)
  seated-sorted h o ts d =
      let us = seated m h o ts in
      let e = seated-bare m h o ts in
      record { level = alike-level_all us ts e h d.level; keyed = alike-keyed_all us ts e d.keyed; good = subst (Good m) (sym (seated-points m h o ts)) d.good }

  pub weigh-sorted : (h : ℕ) (k : Key C) (w : W) (t : Tree C W) → T (m.fit k.at w) → stands m k (points t) ≡ true → Sorted m h t → Sorted m h (weigh m h k w t)
  weigh-sorted h k w t f st d =
      let u = weigh m h k w t in
      let e = weigh-bare m h k w t in
      record {
        level = alike-level u t e h d.level;
        keyed = alike-keyed u t e d.keyed;
        good = (alike-rising m u t e d.good.0, subst (AllFit m) (sym (weigh-points m first second h k w t d st)) (fit-reweigh m first k w (points t) f d.good.1));
      }
