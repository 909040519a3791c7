-- What a list costs in which an element fails a test.
use Rattle.std.proofs.Common.{◌≡◌, ℕ, ◌+◌, ◌≤◌, Bool, true, false, cond, ◌⊎◌, List, [], ◌∷◌, ◌++◌, sym, refl, ◌∙◌, inl, inr, arith}
use Rattle.std.specs.List.{Contains, AllByRecursion}
use Rattle.std.proofs.lemmas.Bool.{true≢false}
use Rattle.trees.proofs.Each.{each-has}

-- x, if some element fails the test
abbrev pub cost : {X : Type 0} → (X → Bool) → ℕ → List X → ℕ
cost p x [] = 0
cost p x (y ∷ ys) = cond (p y) (cost p x ys) x

module _ {X : Type 0} (p : X → Bool) where
  pub cost-most : (x : ℕ) (ys : List X) → cost p x ys ≤ x
  cost-most x [] = omega arith
  cost-most x (y ∷ ys) = go (p y) (cost-most x ys)
    where
      go : (b : Bool) → cost p x ys ≤ x → cond b (cost p x ys) x ≤ x
      go true e = e
      go false e = omega arith

  pub cost-all : (x : ℕ) (ys : List X) → AllByRecursion (λ y. p y ≡ true) ys → cost p x ys ≡ 0
  cost-all x [] a = refl
  cost-all x (y ∷ ys) (h, a) = rw h (cost-all x ys a)

  -- nothing fails, or it costs x
  pub cost-ways : (ys : List X) → AllByRecursion (λ y. p y ≡ true) ys ⊎ ((x : ℕ) → cost p x ys ≡ x)
  cost-ways [] = inl tt
  cost-ways (y ∷ ys) = go (p y) refl (cost-ways ys)
    where
      go : (b : Bool) → p y ≡ b → AllByRecursion (λ y. p y ≡ true) ys ⊎ ((x : ℕ) → cost p x ys ≡ x) → AllByRecursion (λ y. p y ≡ true) (y ∷ ys) ⊎ ((x : ℕ) → cost p x (y ∷ ys) ≡ x)
      go true e (inl a) = inl (e, a)
      go true e (inr f) = inr (λ x. rw e (f x))
      go false e w = inr (λ x. rw e)

  pub cost-fails : (x : ℕ) (y : X) (ys : List X) → p y ≡ false → Contains ys y → cost p x ys ≡ x
  cost-fails x y ys f h = go (cost-ways ys)
    where
      go : AllByRecursion (λ z. p z ≡ true) ys ⊎ ((x : ℕ) → cost p x ys ≡ x) → cost p x ys ≡ x
      go (inl a) = absurd (true≢false (sym (each-has (λ z. p z ≡ true) ys y a h) ∙ f))
      go (inr g) = g x

  pub cost-add : (x z : ℕ) (ys : List X) → cost p (x + z) ys ≡ cost p x ys + cost p z ys
  cost-add x z [] = refl
  cost-add x z (y ∷ ys) = go (p y) (cost-add x z ys)
    where
      go : (b : Bool) → cost p (x + z) ys ≡ cost p x ys + cost p z ys → cond b (cost p (x + z) ys) (x + z) ≡ cond b (cost p x ys) x + cond b (cost p z ys) z
      go true e = e
      go false e = refl

  pub cost-left : (x : ℕ) (ys zs : List X) → cost p x ys ≤ cost p x (ys ++ zs)
  cost-left x [] zs = omega arith
  cost-left x (y ∷ ys) zs = go (p y) (cost-left x ys zs)
    where
      go : (b : Bool) → cost p x ys ≤ cost p x (ys ++ zs) → cond b (cost p x ys) x ≤ cond b (cost p x (ys ++ zs)) x
      go true e = e
      go false e = omega arith

  pub cost-right : (x : ℕ) (ys zs : List X) → cost p x zs ≤ cost p x (ys ++ zs)
  cost-right x [] zs = omega arith
  cost-right x (y ∷ ys) zs = go (p y) (cost-right x ys zs)
    where
      go : (b : Bool) → cost p x zs ≤ cost p x (ys ++ zs) → cost p x zs ≤ cond b (cost p x (ys ++ zs)) x
      go true e = e
      go false e = cost-most x zs
