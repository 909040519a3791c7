-- The tree over leaves in key order.
use Rattle.std.proofs.Common.{◌≡◌, ℕ, ◌+◌, ◌-◌, ◌≤◌, List, length, sym, ap, ◌∙◌, subst, one-mul, arith}
use native.Mathlib.Nat.{pow-zero}
use Rattle.kinds.specs.Meaning.{Meaning, First, Second}
use Rattle.plain.specs.declared.point.Key.{Key}
use Rattle.plain.specs.declared.point.Point.{Point}
use Rattle.trees.specs.Tree.{Forest, count, points_all}
use Rattle.trees.specs.Heap.{total, tally_all, HeapAll, Good, SortedAll}
use Rattle.built.specs.Build.{levels, leaves_from, Raised, Grown}
use Rattle.built.proofs.Leaves.{flat-degrees, flat-count, leaves-points, leaves-count, leaves-size, leaves-uses, leaves_sorted, leaves-heap, leaves-full}
use Rattle.built.proofs.Rows.{occurs-row}
use Rattle.built.proofs.Levels.{levels-built, levels-carried}

module _ {C W R : Type 0} (m : Meaning C W R) (first : First m) (second : Second m) where
  pub levels-raised : (n p : ℕ) (k : Key C) (ts : Forest C W) → count ts ≤ n → SortedAll m 0 ts → HeapAll m ts → ((f : Point C W → ℕ) → tally_all ts f ≡ total f (points_all ts)) →
      let r = levels m n 0 p k ts in Raised m p ts r.0 r.1 r.2
  levels-raised n p k ts c s hp full =
      let d = flat-degrees 2 4 ts s.level in
      let b = levels-built m n 0 p k ts (omega arith) s.level d s.keyed in
      let a = levels-carried m first second n 0 p k ts d s hp in
      record {
        built = b;
        heap = a.heap;
        full = λ f. a.tallied f ∙ full f ∙ ap (total f) (sym b.same);
        low = λ e. let l = rw (pow-zero, one-mul, flat-count ts s.level) at (b.low e) in l;
      }

  -- over a leaf for each point, the forks in the places after them
  pub leaves-grown : (n p : ℕ) (k : Key C) (xs : List (Point C W)) → Good m xs → length xs ≤ n →
      let r = levels m n 0 (p + length xs) k (leaves_from p xs) in Grown m p xs r.0 r.1 r.2
  leaves-grown n p k xs good c =
      let ts = leaves_from p xs in
      let s = leaves_sorted m p xs good in
      let ct = leaves-count p xs in
      let w = levels-raised n (p + length xs) k ts (omega arith) s (leaves-heap m p xs) (leaves-full p xs) in
      let b = w.built in
      let on = b.onward in
      let e = (levels m n 0 (p + length xs) k ts).2 in
      let z : e - p ≡ length xs + (e - (p + length xs)) = omega arith in
      record {
        one = b.one;
        some = λ l. b.some (omega arith);
        sorted = record { level = b.level; keyed = b.keyed; good = subst (Good m) (sym b.same) s.good };
        degrees = b.degrees;
        same = b.same ∙ leaves-points p xs;
        heap = w.heap;
        full = w.full;
        onward = on;
        places = λ q. rw z (omega (arith, b.places q, leaves-uses p xs q, occurs-row q (length xs) (e - (p + length xs)) p));
        nodes = omega (arith, b.nodes, leaves-size p xs);
        few = λ l. omega (arith, b.few (omega arith));
        low = λ l. let a = w.low (omega arith) in rw leaves-points at a;
      }
