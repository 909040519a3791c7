-- Points that rise, in two parts; and where a key stands to them.
use Rattle.std.proofs.Common.{◌≡◌, Bool, true, false, List, [], ◌∷◌, ◌++◌, sym, refl, subst}
use Rattle.std.specs.Ordering.{is_lt, is_eq}
use Rattle.std.specs.List.{AllByRecursion}
use Rattle.kinds.specs.Meaning.{Meaning, First}
use Rattle.plain.specs.declared.point.Key.{Key}
use Rattle.plain.specs.declared.point.Point.{Point}
use Rattle.plain.specs.Points.{key_order, Before}
use Rattle.plain.specs.Set.{Rising}
use Rattle.plain.proofs.Keys.{tie, before-carries, after, eq-equal}
use Rattle.trees.specs.Rules.{FirstKey}

pub all_left : {X : Type 0} (P : X → Type 0) (xs ys : List X) → AllByRecursion P (xs ++ ys) → AllByRecursion P xs
all_left P [] ys h = tt
all_left P (x ∷ xs) ys (h, k) = (h, all_left P xs ys k)

pub all_right : {X : Type 0} (P : X → Type 0) (xs ys : List X) → AllByRecursion P (xs ++ ys) → AllByRecursion P ys
all_right P [] ys h = h
all_right P (x ∷ xs) ys (h, k) = all_right P xs ys k

module _ {C W R : Type 0} (m : Meaning C W R) where
  pub rising-left : (xs ys : List (Point C W)) → Rising m (xs ++ ys) → Rising m xs
  rising-left [] ys r = tt
  rising-left (x ∷ xs) ys (a, r) = (all_left (λ y. Before m x.key y.key) xs ys a, rising-left xs ys r)

  pub rising-right : (xs ys : List (Point C W)) → Rising m (xs ++ ys) → Rising m ys
  rising-right [] ys r = r
  rising-right (x ∷ xs) ys (a, r) = rising-right xs ys r

  pub rising-cross : (xs ys : List (Point C W)) → Rising m (xs ++ ys) → AllByRecursion (λ x. AllByRecursion (λ y. Before m x.key y.key) ys) xs
  rising-cross [] ys r = tt
  rising-cross (x ∷ xs) ys (a, r) = (all_right (λ y. Before m x.key y.key) xs ys a, rising-cross xs ys r)

  pub first_more : (k : Key C) (xs ys : List (Point C W)) → FirstKey k xs → FirstKey k (xs ++ ys)
  first_more k [] ys f = absurd f
  first_more k (x ∷ xs) ys f = f

  module _ (first : First m) where
    -- a before b, and k not before b: a before k
    pub before-mixed : (a b k : Key C) → Before m a b → is_lt (key_order m k b) ≡ false → Before m a k
    before-mixed a b k h i = go (is_eq (key_order m k b)) refl
      where
        go : (e : Bool) → is_eq (key_order m k b) ≡ e → Before m a k
        go true e = subst (Before m a) (sym (tie m first k b (eq-equal (key_order m k b) e))) h
        go false e = before-carries m first a b k h (after m first k b i e)

    -- all points are after a key that is before the first
    pub later-all : (k j : Key C) (ys : List (Point C W)) → FirstKey j ys → Rising m ys → Before m k j → AllByRecursion (λ y. Before m k y.key) ys
    later-all k j [] f r b = tt
    later-all k j (y ∷ ys) f (a, r) b = let b' : Before m k y.key = subst (Before m k) f b in (b', go ys a b')
      where
        go : (zs : List (Point C W)) → AllByRecursion (λ z. Before m y.key z.key) zs → Before m k y.key → AllByRecursion (λ z. Before m k z.key) zs
        go [] a b = tt
        go (z ∷ zs) (s, a) b = (before-carries m first k y.key z.key b s, go zs a b)

    -- all points are before a key that is not before the first of those after them
    pub sooner-all : (k j : Key C) (xs ys : List (Point C W)) → FirstKey j ys → AllByRecursion (λ x. AllByRecursion (λ y. Before m x.key y.key) ys) xs → is_lt (key_order m k j) ≡ false → AllByRecursion (λ x. Before m x.key k) xs
    sooner-all k j [] ys f a b = tt
    sooner-all k j (x ∷ xs) [] f a b = absurd f
    sooner-all k j (x ∷ xs) (y ∷ ys) f ((s, u), a) b =
        (before-mixed x.key j k (subst (Before m x.key) (sym f) s) b, sooner-all k j xs (y ∷ ys) f a b)
