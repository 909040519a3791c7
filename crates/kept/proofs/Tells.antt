-- From sums to the rules of the tree.
use Rattle.std.proofs.Common.{◌≡◌, ℕ, ◌+◌, ◌≤◌, true, false, List, [], ◌∷◌, Some, None, Option, Ordering, Less, Equal, Greater, sym, refl, ap, ◌∙◌, inl, inr, arith}
use Rattle.std.proofs.lemmas.Bool.{both_ways}
use base.Stored.{Coded}
use Rattle.std.specs.Ordering.{is_lt, is_eq, ordering_reverse}
use Rattle.std.specs.Option.{option_to_list}
use Rattle.std.specs.List.{Contains, AllByRecursion}
use Rattle.kinds.specs.Meaning.{Meaning, First, Second}
use Rattle.plain.specs.declared.point.Point.{Point}
use Rattle.plain.specs.Points.{key_order, rank_order, FitPoint}
use Rattle.plain.specs.Set.{Rising, AllFit}
use Rattle.plain.proofs.Keys.{same}
use Rattle.plain.proofs.Laws.{orders}
use Rattle.trees.specs.Tree.{Tree, Forest, gone, leaf, fork, none, more, points, points_all}
use Rattle.trees.specs.Rules.{Degrees, kept, kept_all, OnPath, OnPathAll, Filled, FilledAll, Ranked, RankedAll, Rules}
use Rattle.trees.specs.Heap.{total, held, tally, tally_all, over, Full, Heap, HeapAll, Sorted}
use Rattle.trees.proofs.Forests.{total-++}
use Rattle.kept.proofs.Ranks.{unfit, fits, all_fit, no-rank}
use Rattle.kept.proofs.Risings.{all_left, all_right, rising-left, rising-right}
use Rattle.kept.proofs.Onlys.{only, only-tied, only_self}
use Rattle.kept.proofs.Onces.{One, one_key}
use Rattle.kept.proofs.Apart.{Member, all_of, member-le, has-among, shuffled-of}

-- ---- the sum over the list of the points kept
module _ {C W : Type 0} where
  listed : (f : Point C W → ℕ) (o : Option (Point C W)) → total f (option_to_list o) ≡ held f o
  listed f None = refl
  listed f (Some x) = omega arith

  mutual
    pub kept-total : (f : Point C W → ℕ) (t : Tree C W) → total f (kept t) ≡ tally t f
    kept-total f (gone p) = refl
    kept-total f (leaf p x o) = listed f o
    kept-total f (fork p k o ts) = omega (arith, total-++ f (option_to_list o) (kept_all ts), listed f o, kept-totals f ts)

    pub kept-totals : (f : Point C W → ℕ) (ts : Forest C W) → total f (kept_all ts) ≡ tally_all ts f
    kept-totals f none = refl
    kept-totals f (more t ts) = omega (arith, total-++ f (kept t) (kept_all ts), kept-total f t, kept-totals f ts)

not_after : (o : Ordering) → is_lt (ordering_reverse o) ≡ false → (o ≡ Equal → ⊥) → o ≡ Less
not_after Less e n = refl
not_after Equal e n = absurd (n refl)
not_after Greater e n = absurd (both_ways _ e refl)

module _ {C W R : Type 0} (m : Meaning C W R) (first : First m) (second : Second m) where
  -- a point that is not before x in rank, and of another key, is after it
  rank-other : (x y : Point C W) → FitPoint m x → FitPoint m y → is_lt (rank_order m y x) ≡ false → only m x.key (λ _. 1) y ≡ 0 → rank_order m x y ≡ Less
  rank-other x y fx fy h o =
      not_after (rank_order m x y) (sym (ap is_lt ((orders m first second).ranks.turned x y fx fy)) ∙ h)
      (λ e.
      let tied : is_eq (key_order m x.key y.key) ≡ true = ap is_eq (ap (key_order m x.key) (sym ((orders m first second).ranks_tie x y e)) ∙ same m first x.key) in
      omega (arith, only-tied m x.key (λ _. 1) y tied))

  -- below a node that keeps none is none
  filled-here : (o : Option (Point C W)) (ts : Forest C W) → tally_all ts (over m o) ≡ 0 → o ≡ None → kept_all ts ≡ []
  filled-here o ts ov e = go (kept_all ts) (ap (λ (a : Option (Point C W)). total (over m a) (kept_all ts)) (sym e) ∙ kept-totals (over m o) ts ∙ ov)
    where
      go : (xs : List (Point C W)) → total (over m None) xs ≡ 0 → xs ≡ []
      go [] z = refl
      go (x ∷ xs) z = absurd (omega (arith, z))

  -- a kept point precedes all that are kept below it
  ranked-here : (o : Option (Point C W)) (ts : Forest C W) → Rising m (points_all ts) → AllFit m (points_all ts) → ((f : Point C W → ℕ) → held f o + tally_all ts f ≤ total f (points_all ts)) → tally_all ts (over m o) ≡ 0 →
      AllByRecursion (λ x. AllByRecursion (λ y. rank_order m x y ≡ Less) (kept_all ts)) (option_to_list o)
  ranked-here None ts r fit am ov = tt
  ranked-here (Some x) ts r fit am ov = (all_of (λ y. rank_order m x y ≡ Less) (kept_all ts) each, tt)
    where
      le : (f : Point C W → ℕ) (y : Point C W) → Member y (kept_all ts) → f y ≤ tally_all ts f
      le f y i = omega (arith, member-le f y (kept_all ts) i, kept-totals f ts)

      no_key : (y : Point C W) → Member y (kept_all ts) → One m first x.key (points_all ts) → only m x.key (λ _. 1) y ≡ 0
      no_key y i (inl z) = omega (arith, z (λ _. 1), am (only m x.key (λ _. 1)), le (only m x.key (λ _. 1)) y i)
      no_key y i (inr (w, z)) = omega (arith, z (λ _. 1), am (only m x.key (λ _. 1)), le (only m x.key (λ _. 1)) y i, only_self m first x (λ _. 1))

      each : (y : Point C W) → Member y (kept_all ts) → rank_order m x y ≡ Less
      each y i =
          let u = unfit m in
          let none-unfit = all_fit m (points_all ts) fit in
          let fx : u x ≡ 0 = omega (arith, am u, none-unfit) in
          let fy : u y ≡ 0 = omega (arith, am u, none-unfit, le u y i) in
          let o : over m (Some x) y ≡ 0 = omega (arith, le (over m (Some x)) y i, ov) in
          rank-other x y (fits m x fx) (fits m y fy) (no-rank (is_lt (rank_order m y x)) o) (no_key y i (one_key m first x.key (points_all ts) r))

  mutual
    filled_of : (t : Tree C W) → Heap m t → Filled t
    filled_of (gone p) hp = tt
    filled_of (leaf p x o) hp = tt
    filled_of (fork p k o ts) (am, ov, hs) = (filled-here o ts ov, filled-all ts hs)

    filled-all : (ts : Forest C W) → HeapAll m ts → FilledAll ts
    filled-all none hs = tt
    filled-all (more t ts) (hp, hs) = (filled_of t hp, filled-all ts hs)

  mutual
    ranked-of : (t : Tree C W) → Rising m (points t) → AllFit m (points t) → Heap m t → Ranked m t
    ranked-of (gone p) r fit hp = tt
    ranked-of (leaf p x o) r fit hp = tt
    ranked-of (fork p k o ts) r fit (am, ov, hs) = (ranked-here o ts r fit am ov, ranked-all ts r fit hs)

    ranked-all : (ts : Forest C W) → Rising m (points_all ts) → AllFit m (points_all ts) → HeapAll m ts → RankedAll m ts
    ranked-all none r fit hs = tt
    ranked-all (more t ts) r fit (hp, hs) = (
      ranked-of t (rising-left m (points t) (points_all ts) r) (all_left (FitPoint m) (points t) (points_all ts) fit) hp,
      ranked-all ts (rising-right m (points t) (points_all ts) r) (all_right (FitPoint m) (points t) (points_all ts) fit) hs,
    )

  module _ (kc : Coded C) (kw : Coded W) where
    kept_here : (o : Option (Point C W)) (xs : List (Point C W)) → ((f : Point C W → ℕ) → held f o ≤ total f xs) → AllByRecursion (Contains xs) (option_to_list o)
    kept_here None xs h = tt
    kept_here (Some x) xs h = (has-among kc kw x xs h, tt)

    mutual
      path-of : (t : Tree C W) → Heap m t → OnPath t
      path-of (gone p) hp = tt
      path-of (leaf p x o) hp = kept_here o (x ∷ []) (λ f. omega (arith, hp f))
      path-of (fork p k o ts) (am, ov, hs) = (kept_here o (points_all ts) (λ f. omega (arith, am f)), path-all ts hs)

      path-all : (ts : Forest C W) → HeapAll m ts → OnPathAll ts
      path-all none hs = tt
      path-all (more t ts) (hp, hs) = (path-of t hp, path-all ts hs)

    pub rules-hold : (a b h : ℕ) (t : Tree C W) → Sorted m h t → Degrees t a b → Heap m t → Full t → Rules m a b h t
    rules-hold a b h t s d hp full = record {
      level = s.level;
      rising = s.good.0;
      fit = s.good.1;
      degrees = d;
      keyed = s.keyed;
      once = shuffled-of kc kw (points t) (kept t) (λ f. sym (kept-total f t ∙ full f));
      on_path = path-of t hp;
      filled = filled_of t hp;
      ranked = ranked-of t s.good.0 s.good.1 hp;
    }
