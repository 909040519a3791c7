-- Each node keeps none, with nothing kept below it, or one of its own points, which precedes all that are kept below.
use Rattle.std.proofs.Common.{◌≡◌, List, [], ◌++◌, Some, None, Option, Less, refl}
use Rattle.std.specs.Option.{option_to_list}
use Rattle.std.specs.List.{Contains, AllByRecursion}
use Rattle.std.proofs.lemmas.List.Elements.{Contains-append_left, Contains-append_right}
use Rattle.kinds.specs.Meaning.{Meaning}
use Rattle.plain.specs.declared.point.Point.{Point}
use Rattle.plain.specs.Points.{rank_order}
use Rattle.trees.specs.Tree.{Tree, Forest, gone, leaf, fork, none, more, points, points_all}
use Rattle.trees.specs.Rules.{kept, kept_all, OnPath, OnPathAll, Filled, FilledAll, Ranked, RankedAll}
use Rattle.trees.proofs.Each.{each-append, each-weaker}

-- a node's kept points are among its leaves' points
module _ {C W : Type 0} where
  mutual
    pub homed : (t : Tree C W) → OnPath t → AllByRecursion (Contains (points t)) (kept t)
    homed (gone p) on = tt
    homed (leaf p x o) on = on
    homed (fork p k o ts) (own, on) = each-append (Contains (points_all ts)) (option_to_list o) (kept_all ts) own (homed_all ts on)

    pub homed_all : (ts : Forest C W) → OnPathAll ts → AllByRecursion (Contains (points_all ts)) (kept_all ts)
    homed_all none on = tt
    homed_all (more t ts) (on, ons) =
        each-append (Contains (points t ++ points_all ts)) (kept t) (kept_all ts)
        (each-weaker (Contains (points t)) (Contains (points t ++ points_all ts)) (λ x. Contains-append_left (points t) (points_all ts) x) (kept t) (homed t on))
        (each-weaker (Contains (points_all ts)) (Contains (points t ++ points_all ts)) (λ x. Contains-append_right (points t) (points_all ts) x) (kept_all ts) (homed_all ts ons))

module _ {C W R : Type 0} (m : Meaning C W R) where
  -- what a node may keep that has the points ps, with ks kept below it
  abbrev pub Keeps : Option (Point C W) → List (Point C W) → List (Point C W) → Type 0
  Keeps None ps ks = ks ≡ []
  Keeps (Some x) ps ks = Contains ps x × AllByRecursion (λ y. rank_order m x y ≡ Less) ks

  abbrev mutual
    pub Placed : Tree C W → Type 0
    Placed (gone p) = Unit {0}
    Placed (leaf p x o) = Unit {0}
    Placed (fork p k o ts) = Keeps o (points_all ts) (kept_all ts) × PlacedAll ts

    pub PlacedAll : Forest C W → Type 0
    PlacedAll none = Unit {0}
    PlacedAll (more t ts) = Placed t × PlacedAll ts

  keeps : (o : Option (Point C W)) (ps ks : List (Point C W)) → AllByRecursion (Contains ps) (option_to_list o) → (o ≡ None → ks ≡ []) → AllByRecursion (λ x. AllByRecursion (λ y. rank_order m x y ≡ Less) ks) (option_to_list o) → Keeps o ps ks
  keeps None ps ks a f r = f refl
  keeps (Some x) ps ks (a, _) f (r, _) = (a, r)

  mutual
    pub placed : (t : Tree C W) → OnPath t → Filled t → Ranked m t → Placed t
    placed (gone p) on fi ra = tt
    placed (leaf p x o) on fi ra = tt
    placed (fork p k o ts) (on, ons) (fi, fis) (ra, ras) = (keeps o (points_all ts) (kept_all ts) on fi ra, placed-all ts ons fis ras)

    placed-all : (ts : Forest C W) → OnPathAll ts → FilledAll ts → RankedAll m ts → PlacedAll ts
    placed-all none on fi ra = tt
    placed-all (more t ts) (on, ons) (fi, fis) (ra, ras) = (placed t on fi ra, placed-all ts ons fis ras)
