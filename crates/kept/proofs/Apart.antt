-- Points can be told apart, so sums tell which points a list has, and how often.
use Rattle.std.proofs.Common.{◌≡◌, ℕ, ◌+◌, ◌≤◌, Bool, true, false, cond, eqb, ◌⊎◌, List, [], ◌∷◌, ◌++◌, sym, refl, ap, ◌∙◌, subst, inl, inr, arith}
use base.Stored.{Gv, gnil, gnum, gcons, Coded}
use Rattle.std.specs.List.Sorted.{IsPermutation}
use Rattle.std.specs.List.{Contains, AllByRecursion}
use Rattle.std.proofs.lemmas.Bool.{both_ways, eqb-true, eq-eqb, cond-true}
use Rattle.std.proofs.lemmas.List.Elements.{Contains-append_right}
use Rattle.std.proofs.lemmas.List.Sorted.{IsPermutation-refl, IsPermutation-cons, IsPermutation-trans, IsPermutation-sym, IsPermutation-middle}
use Rattle.plain.specs.declared.point.Point.{Point}
use Rattle.trees.specs.Heap.{total}
use Rattle.trees.proofs.Forests.{total-++}

-- ---- codes are equal or not
abbrev same : Gv → Gv → Bool
same gnil gnil = true
same gnil (gnum n) = false
same gnil (gcons a b) = false
same (gnum m) gnil = false
same (gnum m) (gnum n) = eqb m n
same (gnum m) (gcons a b) = false
same (gcons a b) gnil = false
same (gcons a b) (gnum n) = false
same (gcons a b) (gcons c d) = cond (same a c) (same b d) false

same_self : (a : Gv) → same a a ≡ true
same_self gnil = refl
same_self (gnum n) = eq-eqb n n refl
same_self (gcons a b) = rw (same_self a, same_self b)

same-is : (a b : Gv) → same a b ≡ true → a ≡ b
same-is gnil gnil e = refl
same-is gnil (gnum n) e = absurd (both_ways _ refl e)
same-is gnil (gcons a b) e = absurd (both_ways _ refl e)
same-is (gnum m) gnil e = absurd (both_ways _ refl e)
same-is (gnum m) (gnum n) e = ap gnum (eqb-true m n e)
same-is (gnum m) (gcons a b) e = absurd (both_ways _ refl e)
same-is (gcons a b) gnil e = absurd (both_ways _ refl e)
same-is (gcons a b) (gnum n) e = absurd (both_ways _ refl e)
same-is (gcons a b) (gcons c d) e = go (same a c) refl (same-is a c) (same-is b d) e
  where
    go : (x : Bool) → same a c ≡ x → (same a c ≡ true → a ≡ c) → (same b d ≡ true → b ≡ d) → cond x (same b d) false ≡ true → gcons a b ≡ gcons c d
    go true p i j q = let u = i p in let v = j q in cc
    go false p i j q = absurd (both_ways _ refl q)

-- ---- elements of a list
module _ {X : Type 0} where
  pub data Member (x : X) : List X → Type 0 where
    here : (xs : List X) → Member x (x ∷ xs)
    there : (y : X) (xs : List X) → Member x xs → Member x (y ∷ xs)

  pub has_of : (x : X) (xs : List X) → Member x xs → Contains xs x
  has_of x [] i = elim i [ ]
  has_of x (y ∷ ys) (here _) = (0, omega arith, refl)
  has_of x (y ∷ ys) (there _ _ i) = Contains-append_right (y ∷ []) ys x (has_of x ys i)

  pub all_of : (P : X → Type 0) (xs : List X) → ((x : X) → Member x xs → P x) → AllByRecursion P xs
  all_of P [] k = tt
  all_of P (x ∷ xs) k = (k x (here xs), all_of P xs (λ y i. k y (there x xs i)))

  pub around : (x : X) (xs : List X) → Member x xs → (u : List X) × ((v : List X) × (xs ≡ u ++ (x ∷ v)))
  around x [] i = elim i [ ]
  around x (y ∷ ys) (here _) = ([], (ys, refl))
  around x (y ∷ ys) (there _ _ i) = let (u, (v, e)) = around x ys i in (y ∷ u, (v, ap (λ l. y ∷ l) e))

pub member-le : {C W : Type 0} (f : Point C W → ℕ) (x : Point C W) (xs : List (Point C W)) → Member x xs → f x ≤ total f xs
member-le f x [] i = elim i [ ]
member-le f x (y ∷ ys) (here _) = omega arith
member-le f x (y ∷ ys) (there _ _ i) = omega (arith, member-le f x ys i)

-- ---- points
module _ {C W : Type 0} (kc : Coded C) (kw : Coded W) where
  pub code : Point C W → Gv
  code x = gcons (kc.code x.key.at) (gcons (gnum x.key.number) (kw.code x.weight))

  code-inj : (x y : Point C W) → code x ≡ code y → x ≡ y
  unfolding code
  code-inj x y e =
      let a : kc.code x.key.at ≡ kc.code y.key.at = cc in
      let b : x.key.number ≡ y.key.number = cc in
      let c : kw.code x.weight ≡ kw.code y.weight = cc in
      let p = kc.inj x.key.at y.key.at a in
      let r = kw.inj x.weight y.weight c in
      λ i. record { key = record { at = p i; number = b i }; weight = r i }

  -- 1 at x, 0 elsewhere
  abbrev pub is : Point C W → Point C W → ℕ
  is x y = cond (same (code x) (code y)) 1 0

  pub is-self : (x : Point C W) → is x x ≡ 1
  is-self x = cond-true (same (code x) (code x)) 1 0 (same_self (code x))

  pub tell : (x y : Point C W) → (is x y ≡ 0) ⊎ (x ≡ y)
  tell x y = go (same (code x) (code y)) refl
    where
      go : (b : Bool) → same (code x) (code y) ≡ b → (◌≡◌ {A = ℕ} (cond b 1 0) 0) ⊎ (x ≡ y)
      go true e = inr (code-inj x y (same-is (code x) (code y) e))
      go false e = inl refl

  -- what no sum tells apart is equal
  pub level-is : (x y : Point C W) → ((f : Point C W → ℕ) → f x ≡ f y) → x ≡ y
  level-is x y h = go (tell x y)
    where
      go : (is x y ≡ 0) ⊎ (x ≡ y) → x ≡ y
      go (inl z) = absurd (omega (arith, h (is x), is-self x))
      go (inr e) = e

  pub member : (x : Point C W) (xs : List (Point C W)) → 1 ≤ total (is x) xs → Member x xs
  member x [] h = absurd (omega arith)
  member x (y ∷ ys) h = go (tell x y) (member x ys)
    where
      go : (is x y ≡ 0) ⊎ (x ≡ y) → (1 ≤ total (is x) ys → Member x ys) → Member x (y ∷ ys)
      go (inl z) ih = there y ys (ih (omega arith))
      go (inr e) ih = subst (λ w. Member x (w ∷ ys)) e (here ys)

  -- a point that each sum counts is there
  pub has-among : (x : Point C W) (xs : List (Point C W)) → ((f : Point C W → ℕ) → f x ≤ total f xs) → Contains xs x
  has-among x xs h = has_of x xs (member x xs (omega (arith, h (is x), is-self x)))

  -- lists with the same sums have the same points, each as often
  pub shuffled-of : (xs ys : List (Point C W)) → ((f : Point C W → ℕ) → total f xs ≡ total f ys) → IsPermutation xs ys
  shuffled-of [] [] h = IsPermutation-refl []
  shuffled-of [] (y ∷ ys) h = absurd (omega (arith, h (λ _. 1)))
  shuffled-of (x ∷ xs) ys h =
      let (u, (v, e)) = around x ys (member x ys (omega (arith, h (is x), is-self x))) in
      let below = shuffled-of xs (u ++ v) (λ f. let q : total f ys ≡ total f u + (f x + total f v) = ap (total f) e ∙ total-++ f u (x ∷ v) in omega (arith, h f, total-++ f u v)) in
      subst (IsPermutation (x ∷ xs)) (sym e) (IsPermutation-trans (x ∷ xs) (x ∷ (u ++ v)) (u ++ (x ∷ v)) (IsPermutation-cons x xs (u ++ v) below) (IsPermutation-sym _ _ (IsPermutation-middle u x v)))
