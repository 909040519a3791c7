-- What is known of a tree that stands in a table has at most one proof, so that a ghost field can hold it.
use Rattle.std.specs.Prelude.{◌≡◌, ℕ, zero, suc, ◌≤◌, List, [], ◌∷◌, refl}
use Rattle.std.specs.Coded.{Coded, Coded-set, code_by, coded×, coded_ℕ, ×_prop, Unit-prop, le_prop}
use Rattle.kinds.specs.Meaning.{Meaning}
use Rattle.plain.specs.declared.point.Key.{Key}
use Rattle.plain.specs.declared.point.Point.{Point}
use Rattle.trees.specs.Tree.{Tree, Forest, gone, leaf, fork, none, more, count, points_all}
use Rattle.trees.specs.Rules.{Level, LevelAll, Degrees, DegreesAll, FirstKey, Keyed, KeyedAll}
use Rattle.table.specs.declared.node.Node.{Node}
use Rattle.table.specs.declared.header.Header.{Header}
use Rattle.tree.specs.Standing.{Standing}

none_prop : IsProp ⊥
none_prop x y = absurd x

number_prop : (a b : ℕ) → IsProp (a ≡ b)
number_prop a b = Coded-set coded_ℕ a b

most_prop : (a b : ℕ) → IsProp (a ≤ b)
most_prop a b = le_prop

key_code : {C : Type 0} → Coded C → Coded (Key C)
key_code {C} code = code_by (C × ℕ) (coded× code coded_ℕ) (λ k. (k.at, k.number)) (λ p. record { at = p.0; number = p.1 }) (λ _. refl)

module _ {C W : Type 0} (code : Coded C) where
  mutual
    level_prop : (t : Tree C W) (h : ℕ) → IsProp (Level t h)
    level_prop (gone p) h = none_prop
    level_prop (leaf p x o) h = number_prop h 0
    level_prop (fork p k o ts) zero = none_prop
    level_prop (fork p k o ts) (suc h) = all-level_prop ts h

    all-level_prop : (ts : Forest C W) (h : ℕ) → IsProp (LevelAll ts h)
    all-level_prop none h = Unit-prop
    all-level_prop (more t ts) h = ×_prop (level_prop t h) (all-level_prop ts h)

  mutual
    degrees_prop : (t : Tree C W) (a b : ℕ) → IsProp (Degrees t a b)
    degrees_prop (gone p) a b = Unit-prop
    degrees_prop (leaf p x o) a b = Unit-prop
    degrees_prop (fork p k o ts) a b = λ x y i. (most_prop a (count ts) x.0 y.0 i, most_prop (count ts) b x.1 y.1 i, all-degrees_prop ts a b x.2 y.2 i)

    all-degrees_prop : (ts : Forest C W) (a b : ℕ) → IsProp (DegreesAll ts a b)
    all-degrees_prop none a b = Unit-prop
    all-degrees_prop (more t ts) a b = ×_prop (degrees_prop t a b) (all-degrees_prop ts a b)

  first_prop : (k : Key C) (xs : List (Point C W)) → IsProp (FirstKey k xs)
  first_prop k [] = none_prop
  first_prop k (x ∷ xs) = Coded-set (key_code code) k x.key

  mutual
    keyed_prop : (t : Tree C W) → IsProp (Keyed t)
    keyed_prop (gone p) = Unit-prop
    keyed_prop (leaf p x o) = Unit-prop
    keyed_prop (fork p k o ts) = ×_prop (first_prop k (points_all ts)) (all-keyed_prop ts)

    all-keyed_prop : (ts : Forest C W) → IsProp (KeyedAll ts)
    all-keyed_prop none = Unit-prop
    all-keyed_prop (more t ts) = ×_prop (keyed_prop t) (all-keyed_prop ts)

  pub standing_prop : {R : Type 0} (m : Meaning C W R) (ns : List (Node C R)) (hd : Header) → IsProp (Standing m ns hd)
  standing_prop m ns hd x y = λ i. record {
    small = le_prop x.small y.small i;
    holds = record {
      one = le_prop x.holds.one y.holds.one i;
      fine = record {
        level = all-level_prop _ _ x.holds.fine.level y.holds.fine.level i;
        degrees = all-degrees_prop _ _ _ x.holds.fine.degrees y.holds.fine.degrees i;
        keyed = all-keyed_prop _ x.holds.fine.keyed y.holds.fine.keyed i;
      };
    };
    places = λ q. number_prop _ _ (x.places q) (y.places q) i;
    free = number_prop _ _ x.free y.free i;
    counted = number_prop _ _ x.counted y.counted i;
  }
