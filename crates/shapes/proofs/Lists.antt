-- A point more and a point less, in the middle of points that rise.
use Rattle.std.proofs.Common.{◌≡◌, ℕ, ◌+◌, Bool, true, false, cond, List, [], ◌∷◌, ◌++◌, is_some, Some, sym, refl, ap, ◌∙◌, arith}
use Rattle.std.specs.Ordering.{is_lt, is_eq, ordering_reverse}
use Rattle.std.specs.List.{AllByRecursion}
use Rattle.std.proofs.lemmas.Bool.{cond-true, cond-false, true≢false}
use Rattle.kinds.specs.Meaning.{Meaning, First}
use Rattle.plain.specs.declared.point.Key.{Key}
use Rattle.plain.specs.declared.point.Point.{Point}
use Rattle.plain.specs.Points.{key_order, Before}
use Rattle.plain.specs.Set.{weight_at, stands, put, remove}
use Rattle.plain.proofs.Keys.{tie, turned, apart-back, eq-equal}
use Rattle.trees.specs.Heap.{total}

module _ {C W R : Type 0} (m : Meaning C W R) where
  -- ---- one point more in a sum
  pub total-put : (f : Point C W → ℕ) (x : Point C W) (ps : List (Point C W)) → total f (put m x ps) ≡ f x + total f ps
  total-put f x [] = refl
  total-put f x (p ∷ ps) =
      elim (is_lt (key_order m x.key p.key)) as (λ b. total f (cond b (x ∷ p ∷ ps) (p ∷ put m x ps)) ≡ f x + (f p + total f ps)) [
        | true ↦ refl
        | false ↦ omega (arith, total-put f x ps)
      ]

  -- ---- after points before it, and before points after it
  pub put-stop : (x : Point C W) (xs ys : List (Point C W)) → AllByRecursion (λ y. Before m x.key y.key) ys → put m x (xs ++ ys) ≡ put m x xs ++ ys
  put-stop x [] [] a = refl
  put-stop x [] (y ∷ ys) a = cond-true (is_lt (key_order m x.key y.key)) (x ∷ y ∷ ys) (y ∷ put m x ys) (ap is_lt a.0)
  put-stop x (p ∷ xs) ys a =
      elim (is_lt (key_order m x.key p.key)) as (λ b. cond b (x ∷ p ∷ (xs ++ ys)) (p ∷ put m x (xs ++ ys)) ≡ cond b (x ∷ p ∷ xs) (p ∷ put m x xs) ++ ys) [
        | true ↦ refl
        | false ↦ ap (λ l. p ∷ l) (put-stop x xs ys a)
      ]

  pub remove-stop : (k : Key C) (xs ys : List (Point C W)) → stands m k xs ≡ true → remove m k (xs ++ ys) ≡ remove m k xs ++ ys
  remove-stop k [] ys e = absurd (true≢false (sym e))
  remove-stop k (p ∷ xs) ys e =
      (elim (is_eq (key_order m k p.key)) as (λ b. is_some (cond b (Some p.weight) (weight_at m k xs)) ≡ true → cond b (xs ++ ys) (p ∷ remove m k (xs ++ ys)) ≡ cond b xs (p ∷ remove m k xs) ++ ys) [
        | true ↦ λ s. refl
        | false ↦ λ s. ap (λ l. p ∷ l) (remove-stop k xs ys s)
      ]) e

  module _ (first : First m) where
    pub put-skip : (x : Point C W) (xs ys : List (Point C W)) → AllByRecursion (λ y. Before m y.key x.key) xs → put m x (xs ++ ys) ≡ xs ++ put m x ys
    put-skip x [] ys a = refl
    put-skip x (p ∷ xs) ys a =
        cond-false (is_lt (key_order m x.key p.key)) (x ∷ p ∷ (xs ++ ys)) (p ∷ put m x (xs ++ ys)) (ap is_lt (turned m first p.key x.key ∙ ap ordering_reverse a.0))
        ∙ ap (λ l. p ∷ l) (put-skip x xs ys a.1)

    pub remove-skip : (k : Key C) (xs ys : List (Point C W)) → AllByRecursion (λ y. Before m y.key k) xs → remove m k (xs ++ ys) ≡ xs ++ remove m k ys
    remove-skip k [] ys a = refl
    remove-skip k (p ∷ xs) ys a =
        cond-false (is_eq (key_order m k p.key)) (xs ++ ys) (p ∷ remove m k (xs ++ ys)) (apart-back m first p.key k a.0)
        ∙ ap (λ l. p ∷ l) (remove-skip k xs ys a.1)

    -- ---- the point found is the one that goes
    some : {X : Type 0} (a b : X) → Some a ≡ Some b → a ≡ b
    some a b e = cc

    found : (x p : Point C W) → is_eq (key_order m x.key p.key) ≡ true → p.weight ≡ x.weight → x ≡ p
    found x p e w = λ i. record { key = tie m first x.key p.key (eq-equal (key_order m x.key p.key) e) i; weight = sym w i }

    pub total-remove : (f : Point C W → ℕ) (x : Point C W) (ps : List (Point C W)) → weight_at m x.key ps ≡ Some x.weight → f x + total f (remove m x.key ps) ≡ total f ps
    total-remove f x [] e = absurd (true≢false (sym (ap is_some e)))
    total-remove f x (p ∷ ps) e = go (is_eq (key_order m x.key p.key)) refl e (total-remove f x ps)
      where
        go : (b : Bool) → is_eq (key_order m x.key p.key) ≡ b → cond b (Some p.weight) (weight_at m x.key ps) ≡ Some x.weight → (weight_at m x.key ps ≡ Some x.weight → f x + total f (remove m x.key ps) ≡ total f ps)
            → f x + total f (cond b ps (p ∷ remove m x.key ps)) ≡ f p + total f ps
        go true q w ih = ap (λ z. f z + total f ps) (found x p q (some p.weight x.weight w))
        go false q w ih = omega (arith, ih w)
