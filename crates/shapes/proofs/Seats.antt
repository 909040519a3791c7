-- Forks over trees that keep points, from which the first in rank moves up, and points that are seated below: the points and the sum of those kept stay.
use Rattle.std.proofs.Common.{◌≡◌, ℕ, suc, ◌+◌, ◌<◌, ◌≤◌, List, ◌++◌, Some, None, Option, sym, ap, ◌∙◌, subst, append-nil, arith}
use Rattle.kinds.specs.Meaning.{Meaning, First, Second}
use Rattle.plain.specs.declared.point.Key.{Key}
use Rattle.plain.specs.declared.point.Point.{Point}
use Rattle.plain.specs.Points.{FitPoint}
use Rattle.trees.specs.Tree.{Tree, Forest, fork, none, more, ◌⊕◌, front, back, count, points, points_all}
use Rattle.trees.specs.Heap.{total, held, tally_all, over, HeapAll, Good, Sorted, SortedAll}
use Rattle.trees.specs.Moves.{first_key, settled, seated, halves}
use Rattle.trees.proofs.Forests.{points-⊕, tally-⊕, front-back, count-front, count-parts, level-⊕, level-parts, keyed-⊕, keyed-parts, heap-⊕, heap-parts}
use Rattle.trees.proofs.Bares.{alike-level_all, alike-keyed_all, alike-level, alike-keyed, pull-bare, pull-points, seated-bare, seated-points}
use Rattle.kept.proofs.Risings.{all_left, all_right, rising-left, rising-right}
use Rattle.kept.proofs.Pulls.{pull-heap}
use Rattle.kept.proofs.Pushes.{seat-heap}
use Rattle.shapes.specs.Settles.{Settles}
use Rattle.shapes.proofs.Forks.{first-keyed}

module _ {C W R : Type 0} (m : Meaning C W R) where
  -- ---- good points in two parts
  pub good_left : (xs ys : List (Point C W)) → Good m (xs ++ ys) → Good m xs
  good_left xs ys (r, f) = (rising-left m xs ys r, all_left (FitPoint m) xs ys f)

  pub good_right : (xs ys : List (Point C W)) → Good m (xs ++ ys) → Good m ys
  good_right xs ys (r, f) = (rising-right m xs ys r, all_right (FitPoint m) xs ys f)

  -- ---- trees in two parts
  pub sorted-left : (h : ℕ) (ts us : Forest C W) → SortedAll m h (ts ⊕ us) → SortedAll m h ts
  sorted-left h ts us s = record {
    level = (level-parts ts us h s.level).0;
    keyed = (keyed-parts ts us s.keyed).0;
    good = good_left (points_all ts) (points_all us) (subst (Good m) (points-⊕ ts us) s.good);
  }

  pub sorted-right : (h : ℕ) (ts us : Forest C W) → SortedAll m h (ts ⊕ us) → SortedAll m h us
  sorted-right h ts us s = record {
    level = (level-parts ts us h s.level).1;
    keyed = (keyed-parts ts us s.keyed).1;
    good = good_right (points_all ts) (points_all us) (subst (Good m) (points-⊕ ts us) s.good);
  }

  pub sorted_head : (h : ℕ) (t : Tree C W) (ts : Forest C W) → SortedAll m h (more t ts) → Sorted m h t
  sorted_head h t ts s = record { level = s.level.0; keyed = s.keyed.0; good = good_left (points t) (points_all ts) s.good }

  pub sorted-one : (h : ℕ) (t : Tree C W) → Sorted m h t → SortedAll m h (more t none)
  sorted-one h t s = record { level = (s.level, tt); keyed = (s.keyed, tt); good = subst (Good m) (sym (append-nil (points t))) s.good }

  -- a fork over trees
  pub sorted-fork : (h p : ℕ) (k : Key C) (o : Option (Point C W)) (ts : Forest C W) → SortedAll m h ts → 1 ≤ count ts → Sorted m (suc h) (fork p (first_key k ts) o ts)
  sorted-fork h p k o ts s n = record { level = s.level; keyed = (first-keyed k h ts s.level s.keyed n, s.keyed); good = s.good }

module _ {C W R : Type 0} (m : Meaning C W R) (first : First m) (second : Second m) where
  -- a fork, which keeps the first in rank of what they kept
  pub settled-stays : (h p : ℕ) (k : Key C) (ts : Forest C W) → SortedAll m h ts → HeapAll m ts → 1 ≤ count ts → Settles m (suc h) (points_all ts) (tally_all ts) (more (settled m (suc h) p k ts) none)
  settled-stays h p k ts s hp n =
      let t = fork p (first_key k ts) None ts in
      let u = settled m (suc h) p k ts in
      let st = sorted-fork m h p k None ts s n in
      let like = pull-bare m (suc h) t in
      let same : points u ≡ points_all ts = pull-points m (suc h) t in
      let pulled = pull-heap m first second (suc h) t st hp in
      record {
        sorted = sorted-one m (suc h) u (record { level = alike-level u t like (suc h) st.level; keyed = alike-keyed u t like st.keyed; good = subst (Good m) (sym same) s.good });
        heap = (pulled.0, tt);
        same = append-nil (points u) ∙ same;
        tallied = λ f. omega (arith, pulled.1 f);
      }

  -- some trees and others after them
  pub both-stay : (h : ℕ) (ps qs : List (Point C W)) (f g : (Point C W → ℕ) → ℕ) (us vs : Forest C W) → Good m (ps ++ qs) → Settles m h ps f us → Settles m h qs g vs → Settles m h (ps ++ qs) (λ x. f x + g x) (us ⊕ vs)
  both-stay h ps qs f g us vs good a b =
      let same : points_all (us ⊕ vs) ≡ ps ++ qs = points-⊕ us vs ∙ (λ i. a.same i ++ b.same i) in
      record {
        sorted = record {
          level = level-⊕ us vs h a.sorted.level b.sorted.level;
          keyed = keyed-⊕ us vs a.sorted.keyed b.sorted.keyed;
          good = subst (Good m) (sym same) good;
        };
        heap = heap-⊕ m us vs a.heap b.heap;
        same = same;
        tallied = λ x. omega (arith, tally-⊕ us vs x, a.tallied x, b.tallied x);
      }

  -- two forks
  pub halves-stay : (h p q : ℕ) (k : Key C) (n : ℕ) (ts : Forest C W) → SortedAll m h ts → HeapAll m ts → 1 ≤ n → n < count ts → Settles m (suc h) (points_all ts) (tally_all ts) (halves m (suc h) p q k n ts)
  halves-stay h p q k n ts s hp low high =
      let e = front-back n ts in
      let s' : SortedAll m h (front n ts ⊕ back n ts) = subst (SortedAll m h) (sym e) s in
      let hp' = heap-parts m (front n ts) (back n ts) (subst (HeapAll m) (sym e) hp) in
      let c = count-front n ts (omega arith) in
      let d = count-parts n ts in
      let same : points_all (front n ts) ++ points_all (back n ts) ≡ points_all ts = sym (points-⊕ (front n ts) (back n ts)) ∙ ap points_all e in
      let r = both-stay (suc h) (points_all (front n ts)) (points_all (back n ts)) (tally_all (front n ts)) (tally_all (back n ts)) (more (settled m (suc h) p k (front n ts)) none) (more (settled m (suc h) q k (back n ts)) none)
      (subst (Good m) (sym same) s.good)
      (settled-stays h p k (front n ts) (sorted-left m h (front n ts) (back n ts) s') hp'.0 (omega arith))
      (settled-stays h q k (back n ts) (sorted-right m h (front n ts) (back n ts) s') hp'.1 (omega arith)) in
      record {
        sorted = r.sorted;
        heap = r.heap;
        same = r.same ∙ same;
        tallied = λ f. omega (arith, r.tallied f, tally-⊕ (front n ts) (back n ts) f, ap (λ v. tally_all v f) e);
      }

  -- a point that was kept above is seated below, if it is one of the points beside those kept
  pub seated-stays : (h : ℕ) (o : Option (Point C W)) (ps : List (Point C W)) (sum : (Point C W → ℕ) → ℕ) (us : Forest C W) → Settles m h ps sum us → ((f : Point C W → ℕ) → held f o + sum f ≤ total f ps)
      → Settles m h ps (λ f. held f o + sum f) (seated m h o us)
  seated-stays h None ps sum us a room = record { sorted = a.sorted; heap = a.heap; same = a.same; tallied = λ f. omega (arith, a.tallied f) }
  seated-stays h (Some x) ps sum us a room =
      let vs = seated m h (Some x) us in
      let like = seated-bare m h (Some x) us in
      let same : points_all vs ≡ ps = seated-points m h (Some x) us ∙ a.same in
      let r = seat-heap m first second h x us a.sorted a.heap (λ f. omega (arith, room f, a.tallied f, ap (total f) a.same)) in
      record {
        sorted = record {
          level = alike-level_all vs us like h a.sorted.level;
          keyed = alike-keyed_all vs us like a.sorted.keyed;
          good = subst (Good m) (a.same ∙ sym same) a.sorted.good;
        };
        heap = r.0;
        same = same;
        tallied = λ f. omega (arith, r.1 f, a.tallied f);
      }

  -- a fork that keeps a point already
  pub fork-stays : (h p : ℕ) (k : Key C) (o : Option (Point C W)) (ps : List (Point C W)) (sum : (Point C W → ℕ) → ℕ) (ts : Forest C W) → Settles m h ps sum ts → 1 ≤ count ts → ((f : Point C W → ℕ) → held f o + sum f ≤ total f ps) → sum (over m o) ≡ 0
      → Settles m (suc h) ps (λ f. held f o + sum f) (more (fork p (first_key k ts) o ts) none)
  fork-stays h p k o ps sum ts a n room ov = record {
    sorted = sorted-one m (suc h) (fork p (first_key k ts) o ts) (sorted-fork m h p k o ts a.sorted n);
    heap = (((λ f. omega (arith, room f, a.tallied f, ap (total f) a.same)), a.tallied (over m o) ∙ ov, a.heap), tt);
    same = append-nil (points_all ts) ∙ a.same;
    tallied = λ f. omega (arith, a.tallied f);
  }
