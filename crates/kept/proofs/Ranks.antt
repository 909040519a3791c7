-- Rank order among fit points, by its tests.
use Rattle.std.proofs.Common.{◌≡◌, ℕ, Bool, true, false, cond, T, List, [], ◌∷◌, Ordering, Less, Equal, Greater, sym, refl, ap, ◌∙◌, subst, arith}
use Rattle.std.proofs.lemmas.Bool.{both_ways}
use Rattle.std.specs.Ordering.{is_le, is_lt, ordering_reverse}
use Rattle.kinds.specs.Order.{Preorder}
use Rattle.kinds.specs.Meaning.{Meaning, First, Second}
use Rattle.plain.specs.declared.point.Point.{Point}
use Rattle.plain.specs.Points.{rank_order, FitPoint}
use Rattle.plain.specs.Set.{AllFit}
use Rattle.plain.proofs.Keys.{lt-less}
use Rattle.plain.proofs.Laws.{orders}
use Rattle.trees.specs.Heap.{total}

not-lt : (o : Ordering) → is_lt o ≡ false → T (is_le (ordering_reverse o))
not-lt Less e = absurd (both_ways _ e refl)
not-lt Equal e = tt
not-lt Greater e = tt

lt_not : (o : Ordering) → T (is_le (ordering_reverse o)) → is_lt o ≡ false
lt_not Less h = absurd h
lt_not Equal h = refl
lt_not Greater h = refl

module _ {C W R : Type 0} (m : Meaning C W R) where
  -- 1 for an unfit point
  abbrev pub unfit : Point C W → ℕ
  unfit z = cond (m.fit z.key.at z.weight) 0 1

  pub fits : (z : Point C W) → unfit z ≡ 0 → FitPoint m z
  fits z = go (m.fit z.key.at z.weight)
    where
      go : (b : Bool) → ◌≡◌ {A = ℕ} (cond b 0 1) 0 → T b
      go true e = tt
      go false e = absurd (omega arith)

  fit_none : (z : Point C W) → FitPoint m z → unfit z ≡ 0
  fit_none z = go (m.fit z.key.at z.weight)
    where
      go : (b : Bool) → T b → ◌≡◌ {A = ℕ} (cond b 0 1) 0
      go true h = refl
      go false h = absurd h

  pub all_fit : (ps : List (Point C W)) → AllFit m ps → total unfit ps ≡ 0
  all_fit [] a = refl
  all_fit (p ∷ ps) (f, a) = omega (arith, fit_none p f, all_fit ps a)

pub no-rank : (b : Bool) → ◌≡◌ {A = ℕ} (cond b 1 0) 0 → b ≡ false
no-rank true e = absurd (omega arith)
no-rank false e = refl

module _ {C W R : Type 0} (m : Meaning C W R) (first : First m) (second : Second m) where
  ranks : Preorder (FitPoint m) (rank_order m)
  ranks = (orders m first second).ranks

  le_of : (x y : Point C W) → FitPoint m x → FitPoint m y → is_lt (rank_order m x y) ≡ false → T (is_le (rank_order m y x))
  le_of x y fx fy p = subst (λ o. T (is_le o)) (sym (ranks.turned x y fx fy)) (not-lt (rank_order m x y) p)

  -- x is not first of x and y, nor y of y and z: nor is x of x and z
  pub rank-carry : (x y z : Point C W) → FitPoint m x → FitPoint m y → FitPoint m z → is_lt (rank_order m x y) ≡ false → is_lt (rank_order m y z) ≡ false → is_lt (rank_order m x z) ≡ false
  rank-carry x y z fx fy fz p q =
      lt_not (rank_order m x z)
      (subst (λ o. T (is_le o)) (ranks.turned x z fx fz) (ranks.carries z y x fz fy fx (le_of y z fy fz q) (le_of x y fx fy p)))

  pub rank-asym : (x y : Point C W) → FitPoint m x → FitPoint m y → is_lt (rank_order m x y) ≡ true → is_lt (rank_order m y x) ≡ false
  rank-asym x y fx fy h = ap is_lt (ranks.turned x y fx fy ∙ ap ordering_reverse (lt-less (rank_order m x y) h))

  pub rank-self : (x : Point C W) → FitPoint m x → is_lt (rank_order m x x) ≡ false
  rank-self x f = go (is_lt (rank_order m x x)) refl
    where
      go : (b : Bool) → is_lt (rank_order m x x) ≡ b → is_lt (rank_order m x x) ≡ false
      go true e = rank-asym x x f f e
      go false e = e
