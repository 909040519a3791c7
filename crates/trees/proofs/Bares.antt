-- What does not depend on the weights and the points kept.
use Rattle.std.proofs.Common.{◌≡◌, ℕ, zero, suc, ◌+◌, Bool, true, false, cond, List, [], ◌∷◌, ◌++◌, map, is_some, Some, None, Option, sym, refl, ap, ◌∙◌, subst, arith}
use mathlib.Core.List.{map-append}
use Rattle.std.specs.Ordering.{is_lt}
use Rattle.std.specs.List.{AllByRecursion}
use Rattle.kinds.specs.Meaning.{Meaning}
use Rattle.plain.specs.declared.point.Key.{Key}
use Rattle.plain.specs.declared.point.Point.{Point}
use Rattle.plain.specs.Points.{Before, rank_order}
use Rattle.plain.specs.Set.{Rising}
use Rattle.trees.specs.Tree.{Tree, Forest, gone, leaf, fork, none, more, place_of, key_of, kept_by, count, children_of, nth_tree, alter, points, points_all, size, size_all, hit, uses, uses_all}
use Rattle.trees.specs.Rules.{Level, LevelAll, Degrees, DegreesAll, FirstKey, Keyed, KeyedAll}
use Rattle.trees.specs.Kept.{pick, best, pull, push, has_key, take_out, weigh}
use Rattle.trees.specs.Moves.{seated}

module _ {C W : Type 0} where
  abbrev mutual
    -- the tree without weights and points kept: its places, keys and children
    pub bare : Tree C W → Tree C (Unit {0})
    bare (gone p) = gone p
    bare (leaf p x o) = leaf p (record { key = x.key; weight = tt }) None
    bare (fork p k o ts) = fork p k None (bare_all ts)

    pub bare_all : Forest C W → Forest C (Unit {0})
    bare_all none = none
    bare_all (more t ts) = more (bare t) (bare_all ts)

  -- the keys of points
  abbrev pub keys_of : List (Point C W) → List (Key C)
  keys_of xs = map (λ (x : Point C W). x.key) xs

-- ---- what the bare tree has of the tree
module _ {C W : Type 0} where
  mutual
    uses-bare : (t : Tree C W) (q : ℕ) → uses (bare t) q ≡ uses t q
    uses-bare (gone p) q = refl
    uses-bare (leaf p x o) q = refl
    uses-bare (fork p k o ts) q = ap (λ n. hit p q + n) (uses-bares ts q)

    uses-bares : (ts : Forest C W) (q : ℕ) → uses_all (bare_all ts) q ≡ uses_all ts q
    uses-bares none q = refl
    uses-bares (more t ts) q = omega (arith, uses-bare t q, uses-bares ts q)

  mutual
    size-bare : (t : Tree C W) → size (bare t) ≡ size t
    size-bare (gone p) = refl
    size-bare (leaf p x o) = refl
    size-bare (fork p k o ts) = ap suc (size-bares ts)

    size-bares : (ts : Forest C W) → size_all (bare_all ts) ≡ size_all ts
    size-bares none = refl
    size-bares (more t ts) = omega (arith, size-bare t, size-bares ts)

  count-bares : (ts : Forest C W) → count (bare_all ts) ≡ count ts
  count-bares none = refl
  count-bares (more t ts) = ap suc (count-bares ts)

  mutual
    keys-bare : (t : Tree C W) → keys_of (points (bare t)) ≡ keys_of (points t)
    keys-bare (gone p) = refl
    keys-bare (leaf p x o) = refl
    keys-bare (fork p k o ts) = keys-bares ts

    keys-bares : (ts : Forest C W) → keys_of (points_all (bare_all ts)) ≡ keys_of (points_all ts)
    keys-bares none = refl
    keys-bares (more t ts) =
        map-append (λ (x : Point C (Unit {0})). x.key) (points (bare t)) (points_all (bare_all ts))
        ∙ ap (λ l. l ++ keys_of (points_all (bare_all ts))) (keys-bare t)
        ∙ ap (λ l. keys_of (points t) ++ l) (keys-bares ts)
        ∙ sym (map-append (λ (x : Point C W). x.key) (points t) (points_all ts))

  mutual
    level_in : (t : Tree C W) (h : ℕ) → Level t h → Level (bare t) h
    level_in (gone p) h l = l
    level_in (leaf p x o) h l = l
    level_in (fork p k o ts) zero l = l
    level_in (fork p k o ts) (suc h) l = levels-in ts h l

    levels-in : (ts : Forest C W) (h : ℕ) → LevelAll ts h → LevelAll (bare_all ts) h
    levels-in none h l = tt
    levels-in (more t ts) h (l, ls) = (level_in t h l, levels-in ts h ls)

  mutual
    level_out : (t : Tree C W) (h : ℕ) → Level (bare t) h → Level t h
    level_out (gone p) h l = l
    level_out (leaf p x o) h l = l
    level_out (fork p k o ts) zero l = l
    level_out (fork p k o ts) (suc h) l = levels-out ts h l

    levels-out : (ts : Forest C W) (h : ℕ) → LevelAll (bare_all ts) h → LevelAll ts h
    levels-out none h l = tt
    levels-out (more t ts) h (l, ls) = (level_out t h l, levels-out ts h ls)

  mutual
    degrees-in : (t : Tree C W) (a b : ℕ) → Degrees t a b → Degrees (bare t) a b
    degrees-in (gone p) a b d = tt
    degrees-in (leaf p x o) a b d = tt
    degrees-in (fork p k o ts) a b d = (omega (arith, count-bares ts, d.0), omega (arith, count-bares ts, d.1), degrees-ins ts a b d.2)

    degrees-ins : (ts : Forest C W) (a b : ℕ) → DegreesAll ts a b → DegreesAll (bare_all ts) a b
    degrees-ins none a b d = tt
    degrees-ins (more t ts) a b (d, ds) = (degrees-in t a b d, degrees-ins ts a b ds)

  mutual
    degrees-out : (t : Tree C W) (a b : ℕ) → Degrees (bare t) a b → Degrees t a b
    degrees-out (gone p) a b d = tt
    degrees-out (leaf p x o) a b d = tt
    degrees-out (fork p k o ts) a b d = (omega (arith, count-bares ts, d.0), omega (arith, count-bares ts, d.1), degrees-outs ts a b d.2)

    degrees-outs : (ts : Forest C W) (a b : ℕ) → DegreesAll (bare_all ts) a b → DegreesAll ts a b
    degrees-outs none a b d = tt
    degrees-outs (more t ts) a b (d, ds) = (degrees-out t a b d, degrees-outs ts a b ds)

-- ---- facts of points that their keys decide
abbrev Heads : {C : Type 0} → Key C → List (Key C) → Type 0
Heads k [] = ⊥
Heads k (j ∷ js) = k ≡ j

heads-in : {C W : Type 0} (k : Key C) (xs : List (Point C W)) → FirstKey k xs → Heads k (keys_of xs)
heads-in k [] f = f
heads-in k (x ∷ xs) f = f

heads-out : {C W : Type 0} (k : Key C) (xs : List (Point C W)) → Heads k (keys_of xs) → FirstKey k xs
heads-out k [] f = f
heads-out k (x ∷ xs) f = f

-- points with the same keys have the same first key
pub first_alike : {C V W : Type 0} (k : Key C) (xs : List (Point C V)) (ys : List (Point C W)) → keys_of xs ≡ keys_of ys → FirstKey k ys → FirstKey k xs
first_alike k xs ys e f = heads-out k xs (subst (Heads k) (sym e) (heads-in k ys f))

module _ {C W R : Type 0} (m : Meaning C W R) where
  abbrev Climbs : List (Key C) → Type 0
  Climbs [] = Unit {0}
  Climbs (k ∷ ks) = AllByRecursion (Before m k) ks × Climbs ks

  all_in : (k : Key C) (xs : List (Point C W)) → AllByRecursion (λ x. Before m k x.key) xs → AllByRecursion (Before m k) (keys_of xs)
  all_in k [] a = tt
  all_in k (x ∷ xs) (b, a) = (b, all_in k xs a)

  all-out : (k : Key C) (xs : List (Point C W)) → AllByRecursion (Before m k) (keys_of xs) → AllByRecursion (λ x. Before m k x.key) xs
  all-out k [] a = tt
  all-out k (x ∷ xs) (b, a) = (b, all-out k xs a)

  climbs-in : (xs : List (Point C W)) → Rising m xs → Climbs (keys_of xs)
  climbs-in [] r = tt
  climbs-in (x ∷ xs) (a, r) = (all_in x.key xs a, climbs-in xs r)

  climbs-out : (xs : List (Point C W)) → Climbs (keys_of xs) → Rising m xs
  climbs-out [] r = tt
  climbs-out (x ∷ xs) (a, r) = (all-out x.key xs a, climbs-out xs r)

  -- points with the keys of points that rise rise
  pub rising-alike : (xs ys : List (Point C W)) → keys_of xs ≡ keys_of ys → Rising m ys → Rising m xs
  rising-alike xs ys e r = climbs-out xs (subst Climbs (sym e) (climbs-in ys r))

-- ---- two trees with the same bare tree
module _ {C W : Type 0} where
  mutual
    keyed-in : (t : Tree C W) → Keyed t → Keyed (bare t)
    keyed-in (gone p) d = tt
    keyed-in (leaf p x o) d = tt
    keyed-in (fork p k o ts) (f, d) = (first_alike k (points_all (bare_all ts)) (points_all ts) (keys-bares ts) f, keyed-ins ts d)

    keyed-ins : (ts : Forest C W) → KeyedAll ts → KeyedAll (bare_all ts)
    keyed-ins none d = tt
    keyed-ins (more t ts) (d, ds) = (keyed-in t d, keyed-ins ts ds)

  mutual
    keyed-out : (t : Tree C W) → Keyed (bare t) → Keyed t
    keyed-out (gone p) d = tt
    keyed-out (leaf p x o) d = tt
    keyed-out (fork p k o ts) (f, d) = (first_alike k (points_all ts) (points_all (bare_all ts)) (sym (keys-bares ts)) f, keyed-outs ts d)

    keyed-outs : (ts : Forest C W) → KeyedAll (bare_all ts) → KeyedAll ts
    keyed-outs none d = tt
    keyed-outs (more t ts) (d, ds) = (keyed-out t d, keyed-outs ts ds)

  place-bare : (t : Tree C W) → place_of (bare t) ≡ place_of t
  place-bare (gone p) = refl
  place-bare (leaf p x o) = refl
  place-bare (fork p k o ts) = refl

  key-bare : (t : Tree C W) → key_of (bare t) ≡ key_of t
  key-bare (gone p) = refl
  key-bare (leaf p x o) = refl
  key-bare (fork p k o ts) = refl

  children-bare : (t : Tree C W) → children_of (bare t) ≡ bare_all (children_of t)
  children-bare (gone p) = refl
  children-bare (leaf p x o) = refl
  children-bare (fork p k o ts) = refl

  module _ (s t : Tree C W) (e : bare s ≡ bare t) where
    pub alike-uses : (q : ℕ) → uses s q ≡ uses t q
    alike-uses q = sym (uses-bare s q) ∙ ap (λ u. uses u q) e ∙ uses-bare t q

    pub alike_size : size s ≡ size t
    alike_size = sym (size-bare s) ∙ ap size e ∙ size-bare t

    pub alike-level : (h : ℕ) → Level t h → Level s h
    alike-level h l = level_out s h (subst (λ u. Level u h) (sym e) (level_in t h l))

    pub alike-degrees : (a b : ℕ) → Degrees t a b → Degrees s a b
    alike-degrees a b d = degrees-out s a b (subst (λ u. Degrees u a b) (sym e) (degrees-in t a b d))

    pub alike-keyed : Keyed t → Keyed s
    alike-keyed d = keyed-out s (subst Keyed (sym e) (keyed-in t d))

    pub alike-place : place_of s ≡ place_of t
    alike-place = sym (place-bare s) ∙ ap place_of e ∙ place-bare t

    pub alike-key : key_of s ≡ key_of t
    alike-key = sym (key-bare s) ∙ ap key_of e ∙ key-bare t

    pub alike-children : bare_all (children_of s) ≡ bare_all (children_of t)
    alike-children = sym (children-bare s) ∙ ap children_of e ∙ children-bare t

    pub alike-count : count (children_of s) ≡ count (children_of t)
    alike-count = sym (count-bares (children_of s)) ∙ ap count alike-children ∙ count-bares (children_of t)

    pub alike-keys : map (λ (x : Point C W). x.key) (points s) ≡ map (λ (x : Point C W). x.key) (points t)
    alike-keys = sym (keys-bare s) ∙ ap (λ u. keys_of (points u)) e ∙ keys-bare t

  -- the same of forests
  module _ (ss ts : Forest C W) (e : bare_all ss ≡ bare_all ts) where
    pub alike-uses_all : (q : ℕ) → uses_all ss q ≡ uses_all ts q
    alike-uses_all q = sym (uses-bares ss q) ∙ ap (λ u. uses_all u q) e ∙ uses-bares ts q

    pub alike-size_all : size_all ss ≡ size_all ts
    alike-size_all = sym (size-bares ss) ∙ ap size_all e ∙ size-bares ts

    pub alike-level_all : (h : ℕ) → LevelAll ts h → LevelAll ss h
    alike-level_all h l = levels-out ss h (subst (λ u. LevelAll u h) (sym e) (levels-in ts h l))

    pub alike-degrees_all : (a b : ℕ) → DegreesAll ts a b → DegreesAll ss a b
    alike-degrees_all a b d = degrees-outs ss a b (subst (λ u. DegreesAll u a b) (sym e) (degrees-ins ts a b d))

    pub alike-keyed_all : KeyedAll ts → KeyedAll ss
    alike-keyed_all d = keyed-outs ss (subst KeyedAll (sym e) (keyed-ins ts d))

    pub alike-count_all : count ss ≡ count ts
    alike-count_all = sym (count-bares ss) ∙ ap count e ∙ count-bares ts

    pub alike-keys_all : map (λ (x : Point C W). x.key) (points_all ss) ≡ map (λ (x : Point C W). x.key) (points_all ts)
    alike-keys_all = sym (keys-bares ss) ∙ ap (λ u. keys_of (points_all u)) e ∙ keys-bares ts

  -- one tree of a forest replaced by one like it
  pub alter-bare : (i : ℕ) (f : Tree C W → Tree C W) (ts : Forest C W) → ((t : Tree C W) → bare (f t) ≡ bare t) → bare_all (alter i f ts) ≡ bare_all ts
  alter-bare i f none e = refl
  alter-bare zero f (more t ts) e = ap (λ u. more u (bare_all ts)) (e t)
  alter-bare (suc i) f (more t ts) e = ap (more (bare t)) (alter-bare i f ts e)

  pub alter-points : (i : ℕ) (f : Tree C W → Tree C W) (ts : Forest C W) → ((t : Tree C W) → points (f t) ≡ points t) → points_all (alter i f ts) ≡ points_all ts
  alter-points i f none e = refl
  alter-points zero f (more t ts) e = ap (λ l. l ++ points_all ts) (e t)
  alter-points (suc i) f (more t ts) e = ap (λ l. points t ++ l) (alter-points i f ts e)

module _ {C W R : Type 0} (m : Meaning C W R) where
  pub alike-rising : (s t : Tree C W) → bare s ≡ bare t → Rising m (points t) → Rising m (points s)
  alike-rising s t e r = rising-alike m (points s) (points t) (alike-keys s t e) r

  pub alike-rising_all : (ss ts : Forest C W) → bare_all ss ≡ bare_all ts → Rising m (points_all ts) → Rising m (points_all ss)
  alike-rising_all ss ts e r = rising-alike m (points_all ss) (points_all ts) (alike-keys_all ss ts e) r

  -- ---- kept points move, and all else stays
  pub pull-bare : (h : ℕ) (t : Tree C W) → bare (pull m h t) ≡ bare t
  pull-bare h (gone p) = refl
  pull-bare h (leaf p x o) = refl
  pull-bare zero (fork p k o ts) = refl
  pull-bare (suc h) (fork p k o ts) = ap (fork p k None) (go (is_some (kept_by (nth_tree (best m ts) ts))) (alter-bare (best m ts) (pull m h) ts (pull-bare h)))
    where
      go : (b : Bool) → bare_all (alter (best m ts) (pull m h) ts) ≡ bare_all ts → bare_all (cond b (alter (best m ts) (pull m h) ts) ts) ≡ bare_all ts
      go true e = e
      go false e = refl

  pub pull-points : (h : ℕ) (t : Tree C W) → points (pull m h t) ≡ points t
  pull-points h (gone p) = refl
  pull-points h (leaf p x o) = refl
  pull-points zero (fork p k o ts) = refl
  pull-points (suc h) (fork p k o ts) = go (is_some (kept_by (nth_tree (best m ts) ts))) (alter-points (best m ts) (pull m h) ts (pull-points h))
    where
      go : (b : Bool) → points_all (alter (best m ts) (pull m h) ts) ≡ points_all ts → points_all (cond b (alter (best m ts) (pull m h) ts) ts) ≡ points_all ts
      go true e = e
      go false e = refl

  -- the point that goes on
  abbrev last : Point C W → Point C W → Point C W
  last x y = cond (is_lt (rank_order m x y)) y x

  pub push-bare : (h : ℕ) (x : Point C W) (t : Tree C W) → bare (push m h x t) ≡ bare t
  push-bare h x (gone p) = refl
  push-bare h x (leaf p y o) = refl
  push-bare h x (fork p k None ts) = refl
  push-bare zero x (fork p k (Some y) ts) = refl
  push-bare (suc h) x (fork p k (Some y) ts) = ap (fork p k None) (alter-bare (pick m (last x y).key ts) (push m h (last x y)) ts (push-bare h (last x y)))

  pub push-points : (h : ℕ) (x : Point C W) (t : Tree C W) → points (push m h x t) ≡ points t
  push-points h x (gone p) = refl
  push-points h x (leaf p y o) = refl
  push-points h x (fork p k None ts) = refl
  push-points zero x (fork p k (Some y) ts) = refl
  push-points (suc h) x (fork p k (Some y) ts) = alter-points (pick m (last x y).key ts) (push m h (last x y)) ts (push-points h (last x y))

  pub take_bare : (h : ℕ) (k : Key C) (t : Tree C W) → bare (take_out m h k t) ≡ bare t
  take_bare h k (gone p) = refl
  take_bare h k (leaf p x o) = refl
  take_bare zero k (fork p j o ts) = refl
  take_bare (suc h) k (fork p j o ts) = go (has_key m k o) (alter-bare (pick m k ts) (take_out m h k) ts (take_bare h k))
    where
      go : (b : Bool) → bare_all (alter (pick m k ts) (take_out m h k) ts) ≡ bare_all ts → bare (cond b (pull m (suc h) (fork p j o ts)) (fork p j o (alter (pick m k ts) (take_out m h k) ts))) ≡ fork p j None (bare_all ts)
      go true e = pull-bare (suc h) (fork p j o ts)
      go false e = ap (fork p j None) e

  pub take-points : (h : ℕ) (k : Key C) (t : Tree C W) → points (take_out m h k t) ≡ points t
  take-points h k (gone p) = refl
  take-points h k (leaf p x o) = refl
  take-points zero k (fork p j o ts) = refl
  take-points (suc h) k (fork p j o ts) = go (has_key m k o) (alter-points (pick m k ts) (take_out m h k) ts (take-points h k))
    where
      go : (b : Bool) → points_all (alter (pick m k ts) (take_out m h k) ts) ≡ points_all ts → points (cond b (pull m (suc h) (fork p j o ts)) (fork p j o (alter (pick m k ts) (take_out m h k) ts))) ≡ points_all ts
      go true e = pull-points (suc h) (fork p j o ts)
      go false e = e

  pub weigh-bare : (h : ℕ) (k : Key C) (w : W) (t : Tree C W) → bare (weigh m h k w t) ≡ bare t
  weigh-bare h k w (gone p) = refl
  weigh-bare h k w (leaf p x o) = refl
  weigh-bare zero k w (fork p j o ts) = refl
  weigh-bare (suc h) k w (fork p j o ts) = ap (fork p j None) (alter-bare (pick m k ts) (weigh m h k w) ts (weigh-bare h k w))

  pub seated-bare : (h : ℕ) (o : Option (Point C W)) (ts : Forest C W) → bare_all (seated m h o ts) ≡ bare_all ts
  seated-bare h None ts = refl
  seated-bare h (Some x) ts = alter-bare (pick m x.key ts) (push m h x) ts (push-bare h x)

  pub seated-points : (h : ℕ) (o : Option (Point C W)) (ts : Forest C W) → points_all (seated m h o ts) ≡ points_all ts
  seated-points h None ts = refl
  seated-points h (Some x) ts = alter-points (pick m x.key ts) (push m h x) ts (push-points h x)
