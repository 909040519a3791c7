-- What passes keeps its points as it should: each on the way to its leaf, in rank order, and none twice.
use Rattle.std.proofs.Common.{◌≡◌, ℕ, zero, suc, ◌+◌, ◌≤◌, Bool, true, false, ◌⊎◌, List, [], ◌∷◌, ◌++◌, length, Some, None, Option, Less, sym, refl, ap, ◌∙◌, subst, inl, inr, arith, length-append}
use base.Stored.{Coded}
use Rattle.std.specs.Ordering.{is_lt}
use Rattle.std.specs.Option.{option_to_list}
use Rattle.std.specs.List.{Contains, AllByRecursion}
use Rattle.std.proofs.lemmas.Bool.{both_ways}
use Rattle.std.proofs.lemmas.List.Elements.{Contains-append_left, Contains-append_right}
use Rattle.kinds.specs.Meaning.{Meaning, First, Second}
use Rattle.plain.specs.declared.point.Key.{Key}
use Rattle.plain.specs.declared.point.Point.{Point}
use Rattle.plain.specs.Points.{rank_order, FitPoint}
use Rattle.plain.specs.Set.{AllFit}
use Rattle.plain.proofs.Keys.{lt-less}
use Rattle.trees.specs.Tree.{Tree, Forest, gone, leaf, fork, none, more, kept_by, points, points_all}
use Rattle.trees.specs.Rules.{kept, kept_all, OnPath, OnPathAll, Filled, FilledAll, Ranked, RankedAll}
use Rattle.trees.specs.Heap.{total, held, tally, tally_all}
use Rattle.trees.proofs.Forests.{total-++}
use Rattle.trees.proofs.Each.{each-append, each-weaker, each-has}
use Rattle.kept.proofs.Ranks.{rank-carry, rank-asym, rank-self}
use Rattle.kept.proofs.Sums.{total-none}
use Rattle.kept.proofs.Tells.{kept-totals}
use Rattle.kept.proofs.Apart.{all_of, around, member-le, is, is-self, tell, member}
use Rattle.checker.specs.Passes.{next_key, After, Passes, PassesAll}
use Rattle.checker.proofs.Rises.{fit_all}

module _ {C W R : Type 0} (m : Meaning C W R) where
  -- ---- on the way to its leaf
  mutual
    pub path-of : (t : Tree C W) (u : Option (Key C)) (h : ℕ) → Passes m t u h → OnPath t
    path-of (gone p) u h q = tt
    path-of (leaf p x o) u h q = q.1.2
    path-of (fork p k o ts) u zero q = absurd q
    path-of (fork p k o ts) u (suc h) q = (q.0.3, path-all ts (Some o) u h q.1)

    path-all : (ts : Forest C W) (a : Option (Option (Point C W))) (u : Option (Key C)) (h : ℕ) → PassesAll m ts a u h → OnPathAll ts
    path-all none a u h q = tt
    path-all (more t ts) a u h q = (path-of t (next_key ts u) h q.1, path-all ts a u h q.2)

  -- each point kept is one of the tree's
  mutual
    kept-has : (t : Tree C W) → OnPath t → AllByRecursion (Contains (points t)) (kept t)
    kept-has (gone p) on = tt
    kept-has (leaf p x o) on = on
    kept-has (fork p k o ts) on = each-append (Contains (points_all ts)) (option_to_list o) (kept_all ts) on.0 (kept-hases ts on.1)

    kept-hases : (ts : Forest C W) → OnPathAll ts → AllByRecursion (Contains (points_all ts)) (kept_all ts)
    kept-hases none on = tt
    kept-hases (more t ts) on =
        each-append (Contains (points t ++ points_all ts)) (kept t) (kept_all ts)
        (each-weaker (Contains (points t)) (Contains (points t ++ points_all ts)) (λ x. Contains-append_left (points t) (points_all ts) x) (kept t) (kept-has t on.0))
        (each-weaker (Contains (points_all ts)) (Contains (points t ++ points_all ts)) (λ x. Contains-append_right (points t) (points_all ts) x) (kept_all ts) (kept-hases ts on.1))

  fit-some : (xs ys : List (Point C W)) → AllFit m xs → AllByRecursion (Contains xs) ys → AllFit m ys
  fit-some xs ys fit has = each-weaker (Contains xs) (FitPoint m) (λ x i. each-has (FitPoint m) xs x fit i) ys has

  none_after : (zs : List (Point C W)) → AllByRecursion (After m None) zs → zs ≡ []
  none_after [] a = refl
  none_after (z ∷ zs) a = absurd a.0

  module _ (first : First m) (second : Second m) where
    -- ---- in rank order
    less-carries : (x y z : Point C W) → FitPoint m x → FitPoint m y → FitPoint m z → rank_order m x y ≡ Less → rank_order m y z ≡ Less → rank_order m x z ≡ Less
    less-carries x y z fx fy fz p q = go (is_lt (rank_order m x z)) refl
      where
        go : (b : Bool) → is_lt (rank_order m x z) ≡ b → rank_order m x z ≡ Less
        go true e = lt-less (rank_order m x z) e
        go false e = absurd (both_ways _ (rank-carry m first second y x z fy fx fz (rank-asym m first second x y fx fy (ap is_lt p)) e) (ap is_lt q))

    -- what comes after a point that comes after o comes after o
    after-carries : (o q : Option (Point C W)) (zs : List (Point C W)) → AllFit m (option_to_list o) → AllFit m (option_to_list q) → AllFit m zs → AllByRecursion (After m o) (option_to_list q) → AllByRecursion (After m q) zs → AllByRecursion (After m o) zs
    after-carries o q [] fo fq fz a b = tt
    after-carries o None (z ∷ zs) fo fq fz a b = absurd b.0
    after-carries None (Some y) (z ∷ zs) fo fq fz a b = absurd a.0
    after-carries (Some x) (Some y) (z ∷ zs) fo fq fz a b =
        (less-carries x y z fo.0 fq.0 fz.0 a.0 b.0, after-carries (Some x) (Some y) zs fo fq fz.1 a b.1)

    mutual
      after-of : (t : Tree C W) (u : Option (Key C)) (h : ℕ) → Passes m t u h → (o : Option (Point C W)) → AllFit m (option_to_list o) → AllByRecursion (After m o) (option_to_list (kept_by t)) → AllByRecursion (After m o) (kept t)
      after-of (gone p) u h q o fo f = tt
      after-of (leaf p x i) u h q o fo f = f
      after-of (fork p k i ts) u zero q o fo f = absurd q
      after-of (fork p k i ts) u (suc h) q o fo f =
          let fit = fit_all m ts (Some i) u h q.1 in
          let fi = fit-some (points_all ts) (option_to_list i) fit q.0.3 in
          let fk = fit-some (points_all ts) (kept_all ts) fit (kept-hases ts (path-all ts (Some i) u h q.1)) in
          each-append (After m o) (option_to_list i) (kept_all ts) f (after-carries o i (kept_all ts) fo fi fk f (after-all ts i u h q.1 fi))

      after-all : (ts : Forest C W) (o : Option (Point C W)) (u : Option (Key C)) (h : ℕ) → PassesAll m ts (Some o) u h → AllFit m (option_to_list o) → AllByRecursion (After m o) (kept_all ts)
      after-all none o u h q fo = tt
      after-all (more t ts) o u h q fo =
          each-append (After m o) (kept t) (kept_all ts) (after-of t (next_key ts u) h q.1 o fo q.0) (after-all ts o u h q.2 fo)

    -- all that is kept below a fork comes after what it keeps
    after-fork : (p : ℕ) (k : Key C) (o : Option (Point C W)) (ts : Forest C W) (u : Option (Key C)) (h : ℕ) → Passes m (fork p k o ts) u (suc h) → AllByRecursion (After m o) (kept_all ts)
    after-fork p k o ts u h q = after-all ts o u h q.1 (fit-some (points_all ts) (option_to_list o) (fit_all m ts (Some o) u h q.1) q.0.3)

    filled-here : (o : Option (Point C W)) (ts : Forest C W) → AllByRecursion (After m o) (kept_all ts) → o ≡ None → kept_all ts ≡ []
    filled-here o ts a e = none_after (kept_all ts) (subst (λ i. AllByRecursion (After m i) (kept_all ts)) e a)

    mutual
      pub filled_of : (t : Tree C W) (u : Option (Key C)) (h : ℕ) → Passes m t u h → Filled t
      filled_of (gone p) u h q = tt
      filled_of (leaf p x o) u h q = tt
      filled_of (fork p k o ts) u zero q = absurd q
      filled_of (fork p k o ts) u (suc h) q = (filled-here o ts (after-fork p k o ts u h q), filled-all ts (Some o) u h q.1)

      filled-all : (ts : Forest C W) (a : Option (Option (Point C W))) (u : Option (Key C)) (h : ℕ) → PassesAll m ts a u h → FilledAll ts
      filled-all none a u h q = tt
      filled-all (more t ts) a u h q = (filled_of t (next_key ts u) h q.1, filled-all ts a u h q.2)

    ranked-here : (o : Option (Point C W)) (zs : List (Point C W)) → AllByRecursion (After m o) zs → AllByRecursion (λ x. AllByRecursion (λ y. rank_order m x y ≡ Less) zs) (option_to_list o)
    ranked-here None zs a = tt
    ranked-here (Some x) zs a = (a, tt)

    mutual
      pub ranked-of : (t : Tree C W) (u : Option (Key C)) (h : ℕ) → Passes m t u h → Ranked m t
      ranked-of (gone p) u h q = tt
      ranked-of (leaf p x o) u h q = tt
      ranked-of (fork p k o ts) u zero q = absurd q
      ranked-of (fork p k o ts) u (suc h) q = (ranked-here o (kept_all ts) (after-fork p k o ts u h q), ranked-all ts (Some o) u h q.1)

      ranked-all : (ts : Forest C W) (a : Option (Option (Point C W))) (u : Option (Key C)) (h : ℕ) → PassesAll m ts a u h → RankedAll m ts
      ranked-all none a u h q = tt
      ranked-all (more t ts) a u h q = (ranked-of t (next_key ts u) h q.1, ranked-all ts a u h q.2)

    -- ---- none twice
    module _ (kc : Coded C) (kw : Coded W) where
      has-le : (f : Point C W → ℕ) (x : Point C W) (xs : List (Point C W)) → Contains xs x → f x ≤ total f xs
      has-le f x xs i = each-has (λ w. f w ≤ total f xs) xs x (all_of (λ w. f w ≤ total f xs) xs (λ w j. member-le f w xs j)) i

      -- no point comes after itself
      not-self : (x : Point C W) → FitPoint m x → (y : Point C W) → rank_order m x y ≡ Less → is kc kw x y ≡ 0
      not-self x fx y l = go (tell kc kw x y)
        where
          go : (is kc kw x y ≡ 0) ⊎ (x ≡ y) → is kc kw x y ≡ 0
          go (inl e) = e
          go (inr e) = absurd (both_ways _ (rank-self m first second x fx) (ap is_lt (subst (λ w. rank_order m x w ≡ Less) (sym e) l)))

      -- a point kept at a fork, and those kept below it
      held-once : (o : Option (Point C W)) (ts : Forest C W) (z : Point C W) → AllByRecursion (Contains (points_all ts)) (option_to_list o) → AllFit m (option_to_list o) → AllByRecursion (After m o) (kept_all ts) → tally_all ts (is kc kw z) ≤ total (is kc kw z) (points_all ts) → held (is kc kw z) o + tally_all ts (is kc kw z) ≤ total (is kc kw z) (points_all ts)
      held-once None ts z has fit a le = omega arith
      held-once (Some x) ts z has fit a le = go (tell kc kw z x)
        where
          go : (is kc kw z x ≡ 0) ⊎ (z ≡ x) → is kc kw z x + tally_all ts (is kc kw z) ≤ total (is kc kw z) (points_all ts)
          go (inl e) = omega arith
          go (inr e) =
              let below : total (is kc kw x) (kept_all ts) ≡ 0 = total-none (is kc kw x) (λ y. rank_order m x y ≡ Less) (not-self x fit.0) (kept_all ts) a in
              let one : is kc kw x x + tally_all ts (is kc kw x) ≤ total (is kc kw x) (points_all ts) = omega (arith, kept-totals (is kc kw x) ts, has-le (is kc kw x) x (points_all ts) has.0) in
              subst (λ w. is kc kw w x + tally_all ts (is kc kw w) ≤ total (is kc kw w) (points_all ts)) (sym e) one

      held-leaf : (x : Point C W) (o : Option (Point C W)) (z : Point C W) → AllByRecursion (Contains (x ∷ [])) (option_to_list o) → held (is kc kw z) o ≤ total (is kc kw z) (x ∷ [])
      held-leaf x None z has = omega arith
      held-leaf x (Some y) z has = has-le (is kc kw z) y (x ∷ []) has.0

      mutual
        pub once-of : (t : Tree C W) (u : Option (Key C)) (h : ℕ) → Passes m t u h → (z : Point C W) → tally t (is kc kw z) ≤ total (is kc kw z) (points t)
        once-of (gone p) u h q z = absurd q
        once-of (leaf p x o) u h q z = held-leaf x o z q.1.2
        once-of (fork p k o ts) u zero q z = absurd q
        once-of (fork p k o ts) u (suc h) q z =
            held-once o ts z q.0.3 (fit-some (points_all ts) (option_to_list o) (fit_all m ts (Some o) u h q.1) q.0.3) (after-fork p k o ts u h q) (once-all ts (Some o) u h q.1 z)

        once-all : (ts : Forest C W) (a : Option (Option (Point C W))) (u : Option (Key C)) (h : ℕ) → PassesAll m ts a u h → (z : Point C W) → tally_all ts (is kc kw z) ≤ total (is kc kw z) (points_all ts)
        once-all none a u h q z = omega arith
        once-all (more t ts) a u h q z = omega (arith, once-of t (next_key ts u) h q.1 z, once-all ts a u h q.2 z, total-++ (is kc kw z) (points t) (points_all ts))

      -- lists as long as each other, of which the one has each point no more often than the other, have the same sums
      pub sums_same : (xs ys : List (Point C W)) → ((z : Point C W) → total (is kc kw z) xs ≤ total (is kc kw z) ys) → length xs ≡ length ys → (f : Point C W → ℕ) → total f xs ≡ total f ys
      sums_same [] [] le len f = refl
      sums_same [] (y ∷ ys) le len f = absurd (omega arith)
      sums_same (x ∷ xs) ys le len f =
          let (v, (w, e)) = around x ys (member kc kw x ys (omega (arith, le x, is-self kc kw x))) in
          let parts : (g : Point C W → ℕ) → total g ys ≡ total g v + (g x + total g w) = λ g. ap (total g) e ∙ total-++ g v (x ∷ w) in
          let long : length ys ≡ length v + suc (length w) = ap length e ∙ length-append v (x ∷ w) in
          let rest = sums_same xs (v ++ w) (λ z. omega (arith, le z, parts (is kc kw z), total-++ (is kc kw z) v w)) (omega (arith, length-append v w)) f in
          omega (arith, parts f, total-++ f v w)
