-- One tree of a forest replaced.
use Rattle.std.proofs.Common.{◌≡◌, ℕ, zero, suc, ◌+◌, ◌<◌, ◌≤◌, ◌++◌, ap, arith}
use Rattle.kinds.specs.Meaning.{Meaning}
use Rattle.plain.specs.declared.point.Point.{Point}
use Rattle.plain.specs.Points.{FitPoint}
use Rattle.trees.specs.Tree.{Tree, Forest, none, more, count, nth_tree, alter, points, points_all}
use Rattle.trees.specs.Heap.{total, tally, tally_all, Heap, HeapAll, Sorted, SortedAll}
use Rattle.trees.proofs.Forests.{total-++}
use Rattle.kept.proofs.Risings.{all_left, all_right, rising-left, rising-right}
use Rattle.kept.proofs.Sums.{among, among-all}

pub data Put {C W : Type 0} (t t' : Tree C W) : Forest C W → Forest C W → Type 0 where
  here : (ts : Forest C W) → Put t t' (more t ts) (more t' ts)
  later : (s : Tree C W) (ts ts' : Forest C W) → Put t t' ts ts' → Put t t' (more s ts) (more s ts')

pub put-alter : {C W : Type 0} (i : ℕ) (f : Tree C W → Tree C W) (ts : Forest C W) → i < count ts → Put (nth_tree i ts) (f (nth_tree i ts)) ts (alter i f ts)
put-alter i f none h = absurd (omega arith)
put-alter zero f (more t ts) h = here ts
put-alter (suc i) f (more t ts) h = later t ts (alter i f ts) (put-alter i f ts (omega arith))

module _ {C W : Type 0} {t t' : Tree C W} where
  pub put-tally : {ts ts' : Forest C W} → Put t t' ts ts' → (f : Point C W → ℕ) → tally_all ts' f + tally t f ≡ tally_all ts f + tally t' f
  put-tally (here ts) f = omega arith
  put-tally (later s ts ts' i) f = omega (arith, put-tally i f)

  pub put-less : {ts ts' : Forest C W} → Put t t' ts ts' → (f : Point C W → ℕ) → tally t f ≤ tally_all ts f
  put-less (here ts) f = omega arith
  put-less (later s ts ts' i) f = omega (arith, put-less i f)

  pub put-total : {ts ts' : Forest C W} → Put t t' ts ts' → (f : Point C W → ℕ) → total f (points t) ≤ total f (points_all ts)
  put-total (here ts) f = omega (arith, total-++ f (points t) (points_all ts))
  put-total (later s ts ts' i) f = omega (arith, put-total i f, total-++ f (points s) (points_all ts))

  -- what the sum over the points becomes
  pub put-totals : {ts ts' : Forest C W} → Put t t' ts ts' → (f : Point C W → ℕ) → total f (points_all ts') + total f (points t) ≡ total f (points_all ts) + total f (points t')
  put-totals (here ts) f = omega (arith, total-++ f (points t) (points_all ts), total-++ f (points t') (points_all ts))
  put-totals (later s ts ts' i) f = omega (arith, put-totals i f, total-++ f (points s) (points_all ts), total-++ f (points s) (points_all ts'))

  pub put-points : {ts ts' : Forest C W} → Put t t' ts ts' → points t' ≡ points t → points_all ts' ≡ points_all ts
  put-points (here ts) e = ap (λ l. l ++ points_all ts) e
  put-points (later s ts ts' i) e = ap (λ l. points s ++ l) (put-points i e)

  module _ {R : Type 0} (m : Meaning C W R) where
    pub put-heap : {ts ts' : Forest C W} → Put t t' ts ts' → HeapAll m ts → Heap m t' → HeapAll m ts'
    put-heap (here ts) (a, b) c = (c, b)
    put-heap (later s ts ts' i) (a, b) c = (a, put-heap i b c)

    pub put-heap-of : {ts ts' : Forest C W} → Put t t' ts ts' → HeapAll m ts → Heap m t
    put-heap-of (here ts) (a, b) = a
    put-heap-of (later s ts ts' i) (a, b) = put-heap-of i b

    pub put-sorted : {ts ts' : Forest C W} → Put t t' ts ts' → (h : ℕ) → SortedAll m h ts → Sorted m h t
    put-sorted (here ts) h s = record {
      level = s.level.0;
      keyed = s.keyed.0;
      good = (rising-left m (points t) (points_all ts) s.good.0, all_left (FitPoint m) (points t) (points_all ts) s.good.1);
    }
    put-sorted (later u ts ts' i) h s = put-sorted i h (record {
      level = s.level.1;
      keyed = s.keyed.1;
      good = (rising-right m (points u) (points_all ts) s.good.0, all_right (FitPoint m) (points u) (points_all ts) s.good.1);
    })

    -- where one tree has all of what a sum counts, the others keep none of it
    pub put-focus : {ts ts' : Forest C W} → Put t t' ts ts' → HeapAll m ts → (g : Point C W → ℕ) → total g (points t) ≡ total g (points_all ts) → tally_all ts g ≡ tally t g
    put-focus (here ts) (a, b) g e = omega (arith, among-all m ts b g, total-++ g (points t) (points_all ts))
    put-focus (later s ts ts' i) (a, b) g e =
        let z = total-++ g (points s) (points_all ts) in
        let w = put-total i g in
        omega (arith, among m s a g, put-focus i b g (omega arith))
