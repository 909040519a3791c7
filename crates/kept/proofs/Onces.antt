-- Among points that rise, one at most has a key; and what no sum tells apart.
use Rattle.std.proofs.Common.{◌≡◌, ℕ, ◌+◌, ◌-◌, ◌≤◌, Bool, true, false, ◌⊎◌, List, [], ◌∷◌, sym, refl, ◌∙◌, subst, inl, inr, arith}
use Rattle.std.specs.Ordering.{is_eq}
use Rattle.std.specs.List.{AllByRecursion}
use Rattle.kinds.specs.Meaning.{Meaning, First}
use Rattle.plain.specs.declared.point.Key.{Key}
use Rattle.plain.specs.declared.point.Point.{Point}
use Rattle.plain.specs.Points.{key_order, Before}
use Rattle.plain.specs.Set.{Rising}
use Rattle.plain.proofs.Keys.{tie, eq-equal}
use Rattle.trees.specs.Heap.{total}
use Rattle.kept.proofs.Sums.{total-none}
use Rattle.kept.proofs.Onlys.{only, only-tied, only-apart, only-late, only_self}

-- what no sum tells apart
pub level : {X : Type 0} (x z : X) → ((f : X → ℕ) → f x ≤ f z) → (f : X → ℕ) → f x ≡ f z
level x z le f = omega (arith, le f, le (λ w. (f x + f z) - f w))

module _ {C W R : Type 0} (m : Meaning C W R) (first : First m) (k : Key C) where
  abbrev pub One : List (Point C W) → Type 0
  One xs = ((f : Point C W → ℕ) → total (only m k f) xs ≡ 0) ⊎ ((z : Point C W) × ((f : Point C W → ℕ) → total (only m k f) xs ≡ f z))

  -- one at most has the key
  pub one_key : (xs : List (Point C W)) → Rising m xs → One xs
  one_key [] r = inl (λ f. refl)
  one_key (y ∷ ys) (a, r) = go (is_eq (key_order m k y.key)) refl (one_key ys r)
    where
      go : (b : Bool) → is_eq (key_order m k y.key) ≡ b → One ys → One (y ∷ ys)
      go true e i =
          let late : AllByRecursion (λ z. Before m k z.key) ys = subst (λ (j : Key C). AllByRecursion (λ z. Before m j z.key) ys) (sym (tie m first k y.key (eq-equal (key_order m k y.key) e))) a in
          inr (y, λ f. omega (arith, only-tied m k f y e, total-none (only m k f) (λ z. Before m k z.key) (only-late m k f first) ys late))
      go false e (inl i) = inl (λ f. omega (arith, only-apart m k f y e, i f))
      go false e (inr i) = inr (i.0, λ f. omega (arith, only-apart m k f y e, i.1 f))

-- two points among them with one key are the same
pub same_key : {C W R : Type 0} (m : Meaning C W R) (first : First m) (x y : Point C W) (xs : List (Point C W)) → Rising m xs → is_eq (key_order m x.key y.key) ≡ true →
    ((f : Point C W → ℕ) → f x ≤ total f xs) → ((f : Point C W → ℕ) → f y ≤ total f xs) → (f : Point C W → ℕ) → f x ≡ f y
same_key {C} {W} m first x y xs r e mx my = go (one_key m first x.key xs r)
  where
    go : One m first x.key xs → (f : Point C W → ℕ) → f x ≡ f y
    go (inl i) f = absurd (omega (arith, i (λ _. 1), mx (only m x.key (λ _. 1)), only_self m first x (λ _. 1)))
    go (inr (z, i)) f =
        level x z (λ g. omega (arith, i g, mx (only m x.key g), only_self m first x g)) f
        ∙ sym (level y z (λ g. omega (arith, i g, my (only m x.key g), only-tied m x.key g y e)) f)
