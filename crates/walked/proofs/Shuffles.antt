-- What a filter keeps of a list, it keeps of the list in another order.
use Rattle.std.proofs.Common.{ℕ, zero, suc, ◌<◌, Bool, true, false, cond, List, [], ◌∷◌, length, get_or, set, filter, refl, arith}
use Rattle.std.specs.List.Sorted.{IsPermutation}
use Rattle.std.specs.List.{swap}
use Rattle.std.proofs.lemmas.List.Sorted.{IsPermutation-refl, IsPermutation-cons, IsPermutation-swap, IsPermutation-trans, IsPermutation-keeps}

module _ {X : Type 0} (p : X → Bool) where
  abbrev Kin : List X → List X → Type 0
  Kin xs ys = IsPermutation (filter p xs) (filter p ys)

  kin-cons : (x : X) (xs ys : List X) → Kin xs ys → Kin (x ∷ xs) (x ∷ ys)
  kin-cons x xs ys h =
      elim (p x) as (λ b. IsPermutation (cond b (x ∷ filter p xs) (filter p xs)) (cond b (x ∷ filter p ys) (filter p ys))) [
        | true ↦ IsPermutation-cons x (filter p xs) (filter p ys) h
        | false ↦ h
      ]

  kin-swap : (x y : X) (xs : List X) → Kin (x ∷ y ∷ xs) (y ∷ x ∷ xs)
  kin-swap x y xs = go (p x) (p y)
    where
      go : (a b : Bool) → IsPermutation (cond a (x ∷ cond b (y ∷ filter p xs) (filter p xs)) (cond b (y ∷ filter p xs) (filter p xs))) (cond b (y ∷ cond a (x ∷ filter p xs) (filter p xs)) (cond a (x ∷ filter p xs) (filter p xs)))
      go true true = IsPermutation-swap (x ∷ y ∷ filter p xs) (y ∷ x ∷ filter p xs) 0 1 (omega arith) (omega arith) refl
      go true false = IsPermutation-refl (x ∷ filter p xs)
      go false true = IsPermutation-refl (y ∷ filter p xs)
      go false false = IsPermutation-refl (filter p xs)

  kin-trans : (xs ys zs : List X) → Kin xs ys → Kin ys zs → Kin xs zs
  kin-trans xs ys zs h k = IsPermutation-trans (filter p xs) (filter p ys) (filter p zs) h k

  -- the first exchanged with the j-th of the rest
  kin-first : (x : X) (xs : List X) (j : ℕ) (d : X) → j < length xs → Kin (x ∷ xs) (get_or xs j d ∷ set xs j x)
  kin-first x [] j d h = absurd (omega arith)
  kin-first x (y ∷ ys) zero d h = kin-swap x y ys
  kin-first x (y ∷ ys) (suc j) d h =
      kin-trans (x ∷ y ∷ ys) (y ∷ x ∷ ys) (get_or ys j d ∷ y ∷ set ys j x) (kin-swap x y ys)
      (kin-trans (y ∷ x ∷ ys) (y ∷ get_or ys j d ∷ set ys j x) (get_or ys j d ∷ y ∷ set ys j x)
      (kin-cons y (x ∷ ys) (get_or ys j d ∷ set ys j x) (kin-first x ys j d (omega arith)))
      (kin-swap y (get_or ys j d) (set ys j x)))

  kin-both : (xs : List X) (i j : ℕ) (d : X) → i < length xs → j < length xs → Kin xs (set (set xs i (get_or xs j d)) j (get_or xs i d))
  kin-both [] i j d a b = absurd (omega arith)
  kin-both (x ∷ xs) zero zero d a b = IsPermutation-refl (filter p (x ∷ xs))
  kin-both (x ∷ xs) zero (suc j) d a b = kin-first x xs j d (omega arith)
  kin-both (x ∷ xs) (suc i) zero d a b = kin-first x xs i d (omega arith)
  kin-both (x ∷ xs) (suc i) (suc j) d a b = kin-cons x xs (set (set xs i (get_or xs j d)) j (get_or xs i d)) (kin-both xs i j d (omega arith) (omega arith))

  kin-step : (xs : List X) (i j : ℕ) → i < length xs → j < length xs → Kin xs (swap xs i j)
  kin-step [] i j a b = absurd (omega arith)
  kin-step (x ∷ xs) i j a b = kin-both (x ∷ xs) i j x a b

  pub kept-shuffled : (xs ys : List X) → IsPermutation xs ys → IsPermutation (filter p xs) (filter p ys)
  kept-shuffled xs ys h = IsPermutation-keeps xs (Kin xs) (IsPermutation-refl (filter p xs)) (λ l i j a b k. kin-trans xs l (swap l i j) k (kin-step l i j a b)) ys h
