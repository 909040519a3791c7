-- From the rules of the tree back to sums.
use Rattle.std.proofs.Common.{◌≡◌, ℕ, ◌+◌, ◌<◌, ◌≤◌, Bool, true, false, cond, ◌⊎◌, List, [], ◌∷◌, ◌++◌, Some, None, sum_by, Option, Less, Equal, sym, refl, ap, ◌∙◌, subst, inl, inr, arith}
use base.Stored.{Coded}
use Rattle.std.specs.Ordering.{is_lt, ordering_reverse}
use Rattle.std.specs.Option.{option_to_list}
use Rattle.std.specs.List.{Contains, AllByRecursion}
use Rattle.std.proofs.lemmas.Bool.{cases_lt, cond-false}
use Rattle.std.proofs.lemmas.List.Elements.{Contains-append_left, Contains-append_right}
use Rattle.std.proofs.lemmas.List.Sums.{sum_by-cons}
use Rattle.std.proofs.lemmas.List.Sorted.{sum_by-IsPermutation}
use Rattle.kinds.specs.Meaning.{Meaning, First, Second}
use Rattle.plain.specs.declared.point.Point.{Point}
use Rattle.plain.specs.Points.{rank_order, Before, FitPoint}
use Rattle.plain.specs.Set.{Rising, AllFit}
use Rattle.plain.proofs.Keys.{same}
use Rattle.plain.proofs.Laws.{orders}
use Rattle.trees.specs.Tree.{Tree, Forest, gone, leaf, fork, none, more, points, points_all}
use Rattle.trees.specs.Rules.{kept, kept_all, OnPath, OnPathAll, Filled, FilledAll, Ranked, RankedAll, Rules}
use Rattle.trees.specs.Heap.{total, held, tally, tally_all, over, Full, Heap, HeapAll, Sorted}
use Rattle.trees.proofs.Forests.{total-++}
use Rattle.trees.proofs.Each.{each-append, each-weaker, each-has}
use Rattle.kept.proofs.Sums.{total-none}
use Rattle.kept.proofs.Risings.{all_left, all_right}
use Rattle.kept.proofs.Apart.{Member, here, there, all_of, around, member-le, is, is-self, tell, member}
use Rattle.kept.proofs.Tells.{kept-total, kept-totals}

module _ {C W : Type 0} where
  total-sum : (f : Point C W → ℕ) (xs : List (Point C W)) → total f xs ≡ sum_by f xs
  total-sum f [] = refl
  total-sum f (x ∷ xs) = ap (λ n. f x + n) (total-sum f xs) ∙ sym (sum_by-cons f x xs)

  has-le : (f : Point C W → ℕ) (x : Point C W) (xs : List (Point C W)) → Contains xs x → f x ≤ total f xs
  has-le f x xs h = each-has (λ w. f w ≤ total f xs) xs x (all_of (λ w. f w ≤ total f xs) xs (λ w i. member-le f w xs i)) h

  -- each point kept is one of the tree's
  mutual
    kept-has : (t : Tree C W) → OnPath t → AllByRecursion (Contains (points t)) (kept t)
    kept-has (gone p) on = tt
    kept-has (leaf p x o) on = on
    kept-has (fork p k o ts) (own, on) = each-append (Contains (points_all ts)) (option_to_list o) (kept_all ts) own (kept-hases ts on)

    kept-hases : (ts : Forest C W) → OnPathAll ts → AllByRecursion (Contains (points_all ts)) (kept_all ts)
    kept-hases none on = tt
    kept-hases (more t ts) (on, ons) =
        each-append (Contains (points t ++ points_all ts)) (kept t) (kept_all ts)
        (each-weaker (Contains (points t)) (Contains (points t ++ points_all ts)) (λ x. Contains-append_left (points t) (points_all ts) x) (kept t) (kept-has t on))
        (each-weaker (Contains (points_all ts)) (Contains (points t ++ points_all ts)) (λ x. Contains-append_right (points t) (points_all ts) x) (kept_all ts) (kept-hases ts ons))

module _ {C W R : Type 0} (m : Meaning C W R) (first : First m) (second : Second m) (kc : Coded C) (kw : Coded W) where
  -- ---- points that rise have each point once
  only-once : (z : Point C W) (xs : List (Point C W)) → Rising m xs → total (is kc kw z) xs ≤ 1
  only-once z [] r = omega arith
  only-once z (x ∷ xs) (a, r) = go (tell kc kw z x) (only-once z xs r)
    where
      most : (b : Bool) → cond b 1 0 ≤ 1
      most true = omega arith
      most false = omega arith

      off : (y : Point C W) → Before m z.key y.key → is kc kw z y ≡ 0
      off y b = elim (tell kc kw z y) [
        | inl e ↦ e
        | inr e ↦ absurd (never (sym (same m first z.key) ∙ subst (λ (w : Point C W). Before m z.key w.key) (sym e) b))
      ]
        where
          never : Equal ≡ Less → ⊥
          never e = let w : ◌≡◌ {A = ℕ} 0 1 = cc in omega arith

      go : (is kc kw z x ≡ 0) ⊎ (z ≡ x) → total (is kc kw z) xs ≤ 1 → is kc kw z x + total (is kc kw z) xs ≤ 1
      go (inl e) i = omega arith
      go (inr e) i =
          let none_left : total (is kc kw z) xs ≡ 0 = total-none (is kc kw z) (λ y. Before m z.key y.key) off xs (subst (λ (w : Point C W). AllByRecursion (λ y. Before m w.key y.key) xs) (sym e) a) in
          let one : is kc kw z x ≤ 1 = most _ in
          omega arith

  -- ---- a list that has each point no more often has no larger sum
  sums-le : (xs ys : List (Point C W)) → ((z : Point C W) → total (is kc kw z) xs ≤ total (is kc kw z) ys) → (f : Point C W → ℕ) → total f xs ≤ total f ys
  sums-le [] ys h f = omega arith
  sums-le (x ∷ xs) ys h f =
      let (u, (v, e)) = around x ys (member kc kw x ys (omega (arith, h x, is-self kc kw x))) in
      let split : (g : Point C W → ℕ) → total g ys ≡ total g u + (g x + total g v) = λ g. ap (total g) e ∙ total-++ g u (x ∷ v) in
      let below = sums-le xs (u ++ v) (λ z. omega (arith, h z, split (is kc kw z), total-++ (is kc kw z) u v)) f in
      omega (arith, split f, total-++ f u v)

  counts-le : (xs ys : List (Point C W)) → ((z : Point C W) → total (is kc kw z) xs ≤ 1) → AllByRecursion (Contains ys) xs → (z : Point C W) → total (is kc kw z) xs ≤ total (is kc kw z) ys
  counts-le xs ys one has z = go (cases_lt 0 (total (is kc kw z) xs))
    where
      among : (ws : List (Point C W)) → AllByRecursion (Contains ys) ws → Member z ws → Contains ys z
      among [] a i = elim i [ ]
      among (w ∷ ws) (h, a) (here _) = h
      among (w ∷ ws) (h, a) (there _ _ i) = among ws a i

      go : (0 < total (is kc kw z) xs) ⊎ (total (is kc kw z) xs ≤ 0) → total (is kc kw z) xs ≤ total (is kc kw z) ys
      go (inl l) = omega (arith, one z, has-le (is kc kw z) z ys (among xs has (member kc kw z xs (omega arith))), is-self kc kw z)
      go (inr l) = omega arith

  -- ---- each node
  over_none : (x : Point C W) → FitPoint m x → (ys : List (Point C W)) → AllFit m ys → AllByRecursion (λ y. rank_order m x y ≡ Less) ys → total (over m (Some x)) ys ≡ 0
  over_none x fx [] fs l = refl
  over_none x fx (y ∷ ys) (fy, fs) (e, l) =
      omega (arith, cond-false {A = ℕ} (is_lt (rank_order m y x)) 1 0 (ap is_lt ((orders m first second).ranks.turned x y fx fy ∙ ap ordering_reverse e)), over_none x fx ys fs l)

  over-kept : (o : Option (Point C W)) (ts : Forest C W) → AllFit m (option_to_list o) → AllFit m (kept_all ts) → (o ≡ None → kept_all ts ≡ []) → AllByRecursion (λ x. AllByRecursion (λ y. rank_order m x y ≡ Less) (kept_all ts)) (option_to_list o) → tally_all ts (over m o) ≡ 0
  over-kept None ts fo fs fill rk = sym (kept-totals (over m None) ts) ∙ ap (total (over m None)) (fill refl)
  over-kept (Some x) ts fo fs fill rk = sym (kept-totals (over m (Some x)) ts) ∙ over_none x fo.0 (kept_all ts) fs rk.0

  leaf-kept : (x : Point C W) (o : Option (Point C W)) → AllByRecursion (Contains (x ∷ [])) (option_to_list o) → (f : Point C W → ℕ) → held f o ≤ f x
  leaf-kept x None h f = omega arith
  leaf-kept x (Some y) h f = omega (arith, has-le f y (x ∷ []) h.0)

  mutual
    heap_of : (t : Tree C W) → AllFit m (points t) → OnPath t → Filled t → Ranked m t → ((z : Point C W) → tally t (is kc kw z) ≤ 1) → Heap m t
    heap_of (gone p) fit on fill rk one = tt
    heap_of (leaf p x o) fit on fill rk one = leaf-kept x o on
    heap_of (fork p k o ts) fit on fill rk one =
        let t = fork p k o ts in
        let has = kept-has t on in
        let fits = each-weaker (Contains (points_all ts)) (FitPoint m) (λ x h. each-has (FitPoint m) (points_all ts) x fit h) (option_to_list o ++ kept_all ts) has in
        let le = sums-le (kept t) (points_all ts) (counts-le (kept t) (points_all ts) (λ z. omega (arith, kept-total (is kc kw z) t, one z)) has) in (
          (λ f. omega (arith, le f, kept-total f t)),
          over-kept o ts (all_left (FitPoint m) (option_to_list o) (kept_all ts) fits) (all_right (FitPoint m) (option_to_list o) (kept_all ts) fits) fill.0 rk.0,
          heap-all ts fit on.1 fill.1 rk.1 (λ z. omega (arith, one z)),
        )

    heap-all : (ts : Forest C W) → AllFit m (points_all ts) → OnPathAll ts → FilledAll ts → RankedAll m ts → ((z : Point C W) → tally_all ts (is kc kw z) ≤ 1) → HeapAll m ts
    heap-all none fit on fill rk one = tt
    heap-all (more t ts) fit (on, ons) (fill, fills) (rk, rks) one = (
      heap_of t (all_left (FitPoint m) (points t) (points_all ts) fit) on fill rk (λ z. omega (arith, one z)),
      heap-all ts (all_right (FitPoint m) (points t) (points_all ts) fit) ons fills rks (λ z. omega (arith, one z)),
    )

  pub heap-holds : (a b h : ℕ) (t : Tree C W) → Rules m a b h t → Heap m t × Full t
  heap-holds a b h t r =
      let full : (f : Point C W → ℕ) → tally t f ≡ total f (points t) = λ f. sym (kept-total f t) ∙ total-sum f (kept t) ∙ sum_by-IsPermutation f (points t) (kept t) r.once ∙ sym (total-sum f (points t)) in
      (heap_of t r.fit r.on_path r.filled r.ranked (λ z. omega (arith, full (is kc kw z), only-once z (points t) r.rising)), full)

-- a tree that keeps the rules is one on which points can move
pub rules-sorted : {C W R : Type 0} (m : Meaning C W R) (a b h : ℕ) (t : Tree C W) → Rules m a b h t → Sorted m h t
rules-sorted m a b h t r = record { level = r.level; keyed = r.keyed; good = (r.rising, r.fit) }
