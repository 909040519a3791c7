-- The point kept at the root of a tree goes.
use Rattle.std.proofs.Common.{◌≡◌, ℕ, zero, suc, ◌+◌, cond, is_some, Some, None, Option, sym, refl, ap, ◌∙◌, subst, arith}
use Rattle.kinds.specs.Meaning.{Meaning, First, Second}
use Rattle.plain.specs.declared.point.Key.{Key}
use Rattle.plain.specs.declared.point.Point.{Point}
use Rattle.trees.specs.Tree.{Tree, Forest, gone, leaf, fork, kept_by, nth_tree, alter, points_all}
use Rattle.trees.specs.Kept.{best, pull}
use Rattle.trees.specs.Heap.{held, tally, tally_all, below, over, Heap, HeapAll, HeapBelow, Sorted, SortedAll}
use Rattle.trees.proofs.Bares.{alter-points, pull-points}
use Rattle.kept.proofs.Ranks.{unfit, all_fit}
use Rattle.kept.proofs.Sums.{root-held, among-all, heap-below}
use Rattle.kept.proofs.Puts.{put-alter, put-tally, put-heap, put-heap-of, put-sorted}
use Rattle.kept.proofs.Pushes.{below-fork}
use Rattle.kept.proofs.Bests.{best-top, nth-less, over-top}

module _ {C W R : Type 0} (m : Meaning C W R) (first : First m) (second : Second m) where
  -- what was kept below the root of t is kept in u
  abbrev Closed : Tree C W → Tree C W → Type 0
  Closed t u = Heap m u × ((f : Point C W → ℕ) → tally u f ≡ below t f)

  pull-fork : (h p : ℕ) (k : Key C) (o : Option (Point C W)) (ts : Forest C W) → SortedAll m h ts → HeapAll m ts →
      ((c : Tree C W) → Sorted m h c → HeapBelow m c → Closed c (pull m h c)) →
      (top : Option (Point C W)) → kept_by (nth_tree (best m ts) ts) ≡ top → Closed (fork p k o ts) (fork p k top (cond (is_some top) (alter (best m ts) (pull m h) ts) ts))
  pull-fork h p k o ts s hs ih top e =
      let u : tally_all ts (unfit m) ≡ 0 = omega (arith, among-all m ts hs (unfit m), all_fit m (points_all ts) s.good.1) in
      go top e (subst (λ (a : Option (Point C W)). tally_all ts (over m a) ≡ 0) (sym (best-top m ts) ∙ e) (over-top m first second ts hs u))
    where
      go : (a : Option (Point C W)) → kept_by (nth_tree (best m ts) ts) ≡ a → tally_all ts (over m a) ≡ 0 → Closed (fork p k o ts) (fork p k a (cond (is_some a) (alter (best m ts) (pull m h) ts) ts))
      go None e ov = (((λ f. omega (arith, among-all m ts hs f)), ov, hs), λ f. omega arith)
      go (Some x) e ov =
          let i = best m ts in
          let c = nth_tree i ts in
          let put = put-alter i (pull m h) ts (nth-less i ts x e) in
          let j = ih c (put-sorted m put h s) (heap-below m c (put-heap-of m put hs)) in
          let root : (f : Point C W → ℕ) → tally c f ≡ f x + below c f = λ f. root-held c f ∙ ap (λ (a : Option (Point C W)). held f a + below c f) e in
          let now : (f : Point C W → ℕ) → f x + tally_all (alter i (pull m h) ts) f ≡ tally_all ts f = λ f. omega (arith, put-tally put f, j.1 f, root f) in
          let same : points_all (alter i (pull m h) ts) ≡ points_all ts = alter-points i (pull m h) ts (pull-points m h) in (
            ((λ f. rw same (omega (arith, now f, among-all m ts hs f))), omega (arith, now (over m (Some x)), ov), put-heap m put hs j.0),
            now,
          )

  pub pull-heap : (h : ℕ) (t : Tree C W) → Sorted m h t → HeapBelow m t → Heap m (pull m h t) × ((f : Point C W → ℕ) → tally (pull m h t) f ≡ below t f)
  pull-heap h (gone p) s hb = absurd s.level
  pull-heap h (leaf p x o) s hb = (λ f. omega arith, λ f. refl)
  pull-heap zero (fork p k o ts) s hb = absurd s.level
  pull-heap (suc h) (fork p k o ts) s hb = pull-fork h p k o ts (below-fork m first second h p k o ts s) hb (pull-heap h) (kept_by (nth_tree (best m ts) ts)) refl
