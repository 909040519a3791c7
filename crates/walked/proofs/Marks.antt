-- The key that a node records is that of the first of its points.
use Rattle.std.proofs.Common.{◌≡◌, ℕ, zero, suc, List, [], ◌∷◌, ◌++◌, Some, sym, refl, subst}
use Rattle.std.specs.List.{AllByRecursion}
use Rattle.kinds.specs.Meaning.{Meaning, First}
use Rattle.plain.specs.declared.point.Key.{Key}
use Rattle.plain.specs.declared.point.Point.{Point}
use Rattle.trees.specs.Tree.{Tree, Forest, gone, leaf, fork, none, more, key_of, points, points_all}
use Rattle.trees.specs.Rules.{Level, LevelAll, FirstKey, Keyed, KeyedAll}
use Rattle.kept.proofs.Risings.{first_more}
use Rattle.walked.proofs.Uptos.{Upto, Unfalling, upto-self}

module _ {C W : Type 0} where
  abbrev mutual
    -- no place is gone, and each fork records the key of its first leaf
    pub Marked : Tree C W → Type 0
    Marked (gone p) = ⊥
    Marked (leaf p x o) = Unit {0}
    Marked (fork p k o ts) = FirstKey k (points_all ts) × MarkedAll ts

    pub MarkedAll : Forest C W → Type 0
    MarkedAll none = Unit {0}
    MarkedAll (more t ts) = Marked t × MarkedAll ts

  mutual
    pub marked : (t : Tree C W) (h : ℕ) → Level t h → Keyed t → Marked t
    marked (gone p) h lv ke = absurd lv
    marked (leaf p x o) h lv ke = tt
    marked (fork p k o ts) zero lv ke = absurd lv
    marked (fork p k o ts) (suc h) lv (f, ke) = (f, marked_all ts h lv ke)

    marked_all : (ts : Forest C W) (h : ℕ) → LevelAll ts h → KeyedAll ts → MarkedAll ts
    marked_all none h lv ke = tt
    marked_all (more t ts) h (lv, lvs) (ke, kes) = (marked t h lv ke, marked_all ts h lvs kes)

  -- the key that the root records
  abbrev pub mark : (t : Tree C W) → Marked t → Key C
  mark (gone p) h = absurd h
  mark (leaf p x o) h = x.key
  mark (fork p k o ts) h = k

  pub mark-is : (t : Tree C W) (h : Marked t) → key_of t ≡ Some (mark t h)
  mark-is (gone p) h = absurd h
  mark-is (leaf p x o) h = refl
  mark-is (fork p k o ts) h = refl

  pub mark-first : (t : Tree C W) (h : Marked t) → FirstKey (mark t h) (points t)
  mark-first (gone p) h = absurd h
  mark-first (leaf p x o) h = refl
  mark-first (fork p k o ts) h = h.0

  -- what holds of the keys of all points holds of the first
  pub first-at : (P : Key C → Type 0) (k : Key C) (ps : List (Point C W)) → FirstKey k ps → AllByRecursion (λ q. P q.key) ps → P k
  first-at P k [] f a = absurd f
  first-at P k (p ∷ ps) f (h, a) = subst P (sym f) h

  pub mark-at : (P : Key C → Type 0) (t : Tree C W) (h : Marked t) → AllByRecursion (λ q. P q.key) (points t) → P (mark t h)
  mark-at P t h a = first-at P (mark t h) (points t) (mark-first t h) a

module _ {C W R : Type 0} (m : Meaning C W R) (first : First m) where
  -- the first key comes before all points
  pub ahead : (k : Key C) (ps : List (Point C W)) → FirstKey k ps → Unfalling m ps → AllByRecursion (λ p. Upto m k.at p.key.at) ps
  ahead k [] f r = tt
  ahead k (p ∷ ps) f (a, r) = subst (λ (j : Key C). AllByRecursion (λ q. Upto m j.at q.key.at) (p ∷ ps)) (sym f) (upto-self m first p.key.at, a)

  pub mark-ahead : (t : Tree C W) (h : Marked t) → Unfalling m (points t) → AllByRecursion (λ p. Upto m (mark t h).at p.key.at) (points t)
  mark-ahead t h r = ahead (mark t h) (points t) (mark-first t h) r

  -- a key comes before all points from its tree on
  pub mark-before : (t : Tree C W) (h : Marked t) (ps : List (Point C W)) → Unfalling m (points t ++ ps) → AllByRecursion (λ p. Upto m (mark t h).at p.key.at) (points t ++ ps)
  mark-before t h ps r = ahead (mark t h) (points t ++ ps) (first_more m (mark t h) (points t) ps (mark-first t h)) r
