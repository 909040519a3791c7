-- Coordinates that are not later than others, and points whose coordinates do not fall.
use Rattle.std.proofs.Common.{◌≡◌, Bool, true, false, not, T, ◌⊎◌, List, [], ◌∷◌, ◌++◌, Ordering, Less, Equal, Greater, sym, refl, ap, ◌∙◌, inl, inr}
use Rattle.std.specs.Ordering.{is_le, is_lt, is_gt, ordering_then}
use Rattle.std.specs.List.{AllByRecursion}
use Rattle.std.proofs.lemmas.Bool.{true≢false}
use Rattle.kinds.specs.Meaning.{Meaning, First}
use Rattle.plain.specs.declared.point.Point.{Point}
use Rattle.plain.specs.Points.{Before}
use Rattle.plain.specs.Set.{Rising}
use Rattle.plain.specs.Windows.{later}
use Rattle.trees.proofs.Each.{each-weaker}
use Rattle.walked.proofs.Parts.{all-parts}

-- ---- answers
le-upto : (o : Ordering) → T (is_le o) → not (is_gt o) ≡ true
le-upto Less h = refl
le-upto Equal h = refl
le-upto Greater h = absurd h

upto_le : (o : Ordering) → not (is_gt o) ≡ true → T (is_le o)
upto_le Less h = tt
upto_le Equal h = tt
upto_le Greater h = absurd (true≢false (sym h))

pub less-le : (o n : Ordering) → ordering_then o n ≡ Less → T (is_le o)
less-le Less n h = tt
less-le Equal n h = tt
less-le Greater n h = absurd (true≢false (sym (ap is_lt h)))

module _ {C W R : Type 0} (m : Meaning C W R) where
  -- the first is not later than the second
  abbrev pub Upto : C → C → Type 0
  Upto x y = not (later m x y) ≡ true

  -- the first is later than the second
  abbrev pub Past : C → C → Type 0
  Past x y = not (later m x y) ≡ false

  -- the coordinates do not fall
  abbrev pub Unfalling : List (Point C W) → Type 0
  Unfalling [] = Unit {0}
  Unfalling (p ∷ ps) = AllByRecursion (λ q. Upto p.key.at q.key.at) ps × Unfalling ps

  pub unfalling : (ps : List (Point C W)) → Rising m ps → Unfalling ps
  unfalling [] r = tt
  unfalling (p ∷ ps) (h, r) =
      (each-weaker (λ q. Before m p.key q.key) (λ q. Upto p.key.at q.key.at) (λ q e. le-upto (m.order p.key.at q.key.at) (less-le (m.order p.key.at q.key.at) _ e)) ps h, unfalling ps r)

  pub unfalling-parts : (xs ys : List (Point C W)) → Unfalling (xs ++ ys) → Unfalling xs × Unfalling ys × AllByRecursion (λ x. AllByRecursion (λ y. Upto x.key.at y.key.at) ys) xs
  unfalling-parts [] ys r = (tt, r, tt)
  unfalling-parts (x ∷ xs) ys (h, r) =
      let (a, b, c) = unfalling-parts xs ys r in
      let (d, e) = all-parts (λ y. Upto x.key.at y.key.at) xs ys h in
      ((d, a), b, (e, c))

  module _ (first : First m) where
    pub upto-trans : (x y z : C) → Upto x y → Upto y z → Upto x z
    upto-trans x y z a b = le-upto (m.order x z) (first.orders.carries x y z tt tt tt (upto_le (m.order x y) a) (upto_le (m.order y z) b))

    pub upto-total : (x y : C) → Past x y → Upto y x
    upto-total x y h = go (first.orders.total x y tt tt)
      where
        go : T (is_le (m.order x y)) ⊎ T (is_le (m.order y x)) → Upto y x
        go (inl t) = absurd (true≢false (sym (le-upto (m.order x y) t) ∙ h))
        go (inr t) = le-upto (m.order y x) t

    pub upto-self : (x : C) → Upto x x
    upto-self x = go (first.orders.total x x tt tt)
      where
        go : T (is_le (m.order x x)) ⊎ T (is_le (m.order x x)) → Upto x x
        go (inl t) = le-upto (m.order x x) t
        go (inr t) = le-upto (m.order x x) t

    -- what comes after something later than z is later than z
    pub past_after : (x y z : C) → Upto x y → Past x z → Past y z
    past_after x y z a h = go (not (later m y z)) refl
      where
        go : (b : Bool) → not (later m y z) ≡ b → Past y z
        go true e = absurd (true≢false (sym (upto-trans x y z a e) ∙ h))
        go false e = e

    -- what is later than z is later than what comes before z
    pub past-before : (x y z : C) → Upto y z → Past x z → Past x y
    past-before x y z a h = go (not (later m x y)) refl
      where
        go : (b : Bool) → not (later m x y) ≡ b → Past x y
        go true e = absurd (true≢false (sym (upto-trans x y z e a) ∙ h))
        go false e = e
