-- What passes has its shape, its keys and its order.
use Rattle.std.proofs.Common.{◌≡◌, ℕ, zero, suc, List, [], ◌∷◌, ◌++◌, Some, None, Option, sym, refl, subst}
use Rattle.std.specs.List.{AllByRecursion}
use Rattle.kinds.specs.Meaning.{Meaning, First}
use Rattle.plain.specs.declared.point.Key.{Key}
use Rattle.plain.specs.declared.point.Point.{Point}
use Rattle.plain.specs.Points.{Before, FitPoint}
use Rattle.plain.specs.Set.{Rising, AllFit}
use Rattle.plain.proofs.Keys.{before-carries}
use Rattle.trees.specs.Tree.{Tree, Forest, gone, leaf, fork, none, more, key_of, points, points_all}
use Rattle.trees.specs.Rules.{Level, LevelAll, Degrees, DegreesAll, FirstKey, Keyed, KeyedAll}
use Rattle.trees.proofs.Each.{each-append, each-weaker}
use Rattle.kept.proofs.Risings.{first_more, later-all}
use Rattle.checker.specs.Passes.{next_key, Heads, Under, Passes, PassesAll}

module _ {C W R : Type 0} (m : Meaning C W R) where
  -- ---- the shape
  mutual
    pub level-of : (t : Tree C W) (u : Option (Key C)) (h : ℕ) → Passes m t u h → Level t h
    level-of (gone p) u h q = absurd q
    level-of (leaf p x o) u h q = q.0
    level-of (fork p k o ts) u zero q = absurd q
    level-of (fork p k o ts) u (suc h) q = level_all ts (Some o) u h q.1

    level_all : (ts : Forest C W) (a : Option (Option (Point C W))) (u : Option (Key C)) (h : ℕ) → PassesAll m ts a u h → LevelAll ts h
    level_all none a u h q = tt
    level_all (more t ts) a u h q = (level-of t (next_key ts u) h q.1, level_all ts a u h q.2)

  mutual
    pub degrees-of : (t : Tree C W) (u : Option (Key C)) (h : ℕ) → Passes m t u h → Degrees t 2 4
    degrees-of (gone p) u h q = tt
    degrees-of (leaf p x o) u h q = tt
    degrees-of (fork p k o ts) u zero q = absurd q
    degrees-of (fork p k o ts) u (suc h) q = (q.0.0, q.0.1, degrees-all ts (Some o) u h q.1)

    degrees-all : (ts : Forest C W) (a : Option (Option (Point C W))) (u : Option (Key C)) (h : ℕ) → PassesAll m ts a u h → DegreesAll ts 2 4
    degrees-all none a u h q = tt
    degrees-all (more t ts) a u h q = (degrees-of t (next_key ts u) h q.1, degrees-all ts a u h q.2)

  -- ---- the keys
  has_key : (t : Tree C W) (u : Option (Key C)) (h : ℕ) → Passes m t u h → (k : Key C) × (key_of t ≡ Some k)
  has_key (gone p) u h q = absurd q
  has_key (leaf p x o) u h q = (x.key, refl)
  has_key (fork p k o ts) u h q = (k, refl)

  mutual
    first_key_lem : (t : Tree C W) (u : Option (Key C)) (h : ℕ) → Passes m t u h → (k : Key C) → key_of t ≡ Some k → FirstKey k (points t)
    first_key_lem (gone p) u h q k e = absurd q
    first_key_lem (leaf p x o) u h q k e = cc
    first_key_lem (fork p j o ts) u zero q k e = absurd q
    first_key_lem (fork p j o ts) u (suc h) q k e = let same : j ≡ k = cc in subst (λ i. FirstKey i (points_all ts)) same (heads-key ts (Some o) u h q.1 j q.0.2)

    heads-key : (ts : Forest C W) (a : Option (Option (Point C W))) (u : Option (Key C)) (h : ℕ) → PassesAll m ts a u h → (k : Key C) → Heads k ts → FirstKey k (points_all ts)
    heads-key none a u h q k e = absurd e
    heads-key (more t ts) a u h q k e = first_more m k (points t) (points_all ts) (first_key_lem t (next_key ts u) h q.1 k e)

  mutual
    pub keyed-of : (t : Tree C W) (u : Option (Key C)) (h : ℕ) → Passes m t u h → Keyed t
    keyed-of (gone p) u h q = tt
    keyed-of (leaf p x o) u h q = tt
    keyed-of (fork p k o ts) u zero q = absurd q
    keyed-of (fork p k o ts) u (suc h) q = (first_key_lem (fork p k o ts) u (suc h) q k refl, keyed-all ts (Some o) u h q.1)

    keyed-all : (ts : Forest C W) (a : Option (Option (Point C W))) (u : Option (Key C)) (h : ℕ) → PassesAll m ts a u h → KeyedAll ts
    keyed-all none a u h q = tt
    keyed-all (more t ts) a u h q = (keyed-of t (next_key ts u) h q.1, keyed-all ts a u h q.2)

  -- ---- all points are fit
  mutual
    pub fit_of : (t : Tree C W) (u : Option (Key C)) (h : ℕ) → Passes m t u h → AllFit m (points t)
    fit_of (gone p) u h q = tt
    fit_of (leaf p x o) u h q = (q.1.0, tt)
    fit_of (fork p k o ts) u zero q = absurd q
    fit_of (fork p k o ts) u (suc h) q = fit_all ts (Some o) u h q.1

    pub fit_all : (ts : Forest C W) (a : Option (Option (Point C W))) (u : Option (Key C)) (h : ℕ) → PassesAll m ts a u h → AllFit m (points_all ts)
    fit_all none a u h q = tt
    fit_all (more t ts) a u h q = each-append (FitPoint m) (points t) (points_all ts) (fit_of t (next_key ts u) h q.1) (fit_all ts a u h q.2)

  -- ---- the order
  rising-append : (xs ys : List (Point C W)) → Rising m xs → Rising m ys → AllByRecursion (λ x. AllByRecursion (λ y. Before m x.key y.key) ys) xs → Rising m (xs ++ ys)
  rising-append [] ys r s c = s
  rising-append (x ∷ xs) ys r s c = (each-append (λ y. Before m x.key y.key) xs ys r.0 c.0, rising-append xs ys r.1 s c.1)

  under_first : (u : Option (Key C)) (j : Key C) (xs ys : List (Point C W)) → FirstKey j xs → AllByRecursion (λ x. Under m u x.key) (xs ++ ys) → Under m u j
  under_first u j [] ys f a = absurd f
  under_first u j (x ∷ xs) ys f a = subst (Under m u) (sym f) a.0

  module _ (first : First m) where
    under-carries : (u : Option (Key C)) (k j : Key C) → Before m k j → Under m u j → Under m u k
    under-carries None k j b c = tt
    under-carries (Some v) k j b c = before-carries m first k j v b c

    -- what is before the first of some trees is before their end
    weaken : (ts : Forest C W) (a : Option (Option (Point C W))) (u : Option (Key C)) (h : ℕ) → PassesAll m ts a u h → AllByRecursion (λ x. Under m u x.key) (points_all ts) → (k : Key C) → Under m (next_key ts u) k → Under m u k
    weaken none a u h q all k b = b
    weaken (more t ts) a u h q all k b =
        let (j, e) = has_key t (next_key ts u) h q.1 in
        under-carries u k j (subst (λ o. Under m o k) e b) (under_first u j (points t) (points_all ts) (first_key_lem t (next_key ts u) h q.1 j e) all)

    mutual
      under_of : (t : Tree C W) (u : Option (Key C)) (h : ℕ) → Passes m t u h → AllByRecursion (λ x. Under m u x.key) (points t)
      under_of (gone p) u h q = tt
      under_of (leaf p x o) u h q = (q.1.1, tt)
      under_of (fork p k o ts) u zero q = absurd q
      under_of (fork p k o ts) u (suc h) q = under_all ts (Some o) u h q.1

      under_all : (ts : Forest C W) (a : Option (Option (Point C W))) (u : Option (Key C)) (h : ℕ) → PassesAll m ts a u h → AllByRecursion (λ x. Under m u x.key) (points_all ts)
      under_all none a u h q = tt
      under_all (more t ts) a u h q =
          let rest = under_all ts a u h q.2 in
          each-append (λ x. Under m u x.key) (points t) (points_all ts)
          (each-weaker (λ x. Under m (next_key ts u) x.key) (λ x. Under m u x.key) (λ x. weaken ts a u h q.2 rest x.key) (points t) (under_of t (next_key ts u) h q.1))
          rest

    -- what is before the first of some trees is before all their points
    later : (ts : Forest C W) (a : Option (Option (Point C W))) (u : Option (Key C)) (h : ℕ) → PassesAll m ts a u h → Rising m (points_all ts) → (k : Key C) → Under m (next_key ts u) k → AllByRecursion (λ y. Before m k y.key) (points_all ts)
    later none a u h q r k b = tt
    later (more t ts) a u h q r k b =
        let (j, e) = has_key t (next_key ts u) h q.1 in
        later-all m first k j (points t ++ points_all ts) (first_more m j (points t) (points_all ts) (first_key_lem t (next_key ts u) h q.1 j e)) r (subst (λ o. Under m o k) e b)

    mutual
      pub rising-of : (t : Tree C W) (u : Option (Key C)) (h : ℕ) → Passes m t u h → Rising m (points t)
      rising-of (gone p) u h q = tt
      rising-of (leaf p x o) u h q = (tt, tt)
      rising-of (fork p k o ts) u zero q = absurd q
      rising-of (fork p k o ts) u (suc h) q = rising-all ts (Some o) u h q.1

      rising-all : (ts : Forest C W) (a : Option (Option (Point C W))) (u : Option (Key C)) (h : ℕ) → PassesAll m ts a u h → Rising m (points_all ts)
      rising-all none a u h q = tt
      rising-all (more t ts) a u h q =
          let rest = rising-all ts a u h q.2 in
          rising-append (points t) (points_all ts) (rising-of t (next_key ts u) h q.1) rest
          (each-weaker (λ x. Under m (next_key ts u) x.key) (λ x. AllByRecursion (λ y. Before m x.key y.key) (points_all ts)) (λ x. later ts a u h q.2 rest x.key) (points t) (under_of t (next_key ts u) h q.1))
