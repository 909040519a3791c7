-- Parents over trees that keep points: each takes the first in rank of what its children kept, and no point is lost.
use Rattle.std.proofs.Common.{◌≡◌, ℕ, zero, suc, ◌≤◌, ◌++◌, None, sym, refl, ap, subst, arith}
use Rattle.kinds.specs.Meaning.{Meaning, First, Second}
use Rattle.plain.specs.declared.point.Key.{Key}
use Rattle.plain.specs.declared.point.Point.{Point}
use Rattle.plain.specs.Points.{FitPoint}
use Rattle.trees.specs.Tree.{Forest, fork, none, more, ◌⊕◌, count, front, back, points_all}
use Rattle.trees.specs.Heap.{tally, tally_all, Heap, HeapAll, Good, SortedAll}
use Rattle.trees.specs.Moves.{first_key, settled}
use Rattle.trees.proofs.Forests.{points-⊕, tally-⊕, front-back, count-front, level-parts, keyed-parts, heap-parts}
use Rattle.kept.proofs.Risings.{all_left, all_right, rising-left, rising-right}
use Rattle.kept.proofs.Pulls.{pull-heap}
use Rattle.built.specs.Build.{group, parents, Laid, Carried}
use Rattle.built.proofs.Groups.{group-some}
use Rattle.built.proofs.Overs.{first-keyed}
use Rattle.built.proofs.Steps.{rest-less}

module _ {C W R : Type 0} (m : Meaning C W R) where
  -- trees in two parts
  sorted-parts : (h : ℕ) (ts us : Forest C W) → SortedAll m h (ts ⊕ us) → SortedAll m h ts × SortedAll m h us
  sorted-parts h ts us s =
      let xs = points_all ts in
      let ys = points_all us in
      let good : Good m (xs ++ ys) = subst (Good m) (points-⊕ ts us) s.good in
      let l = level-parts ts us h s.level in
      let y = keyed-parts ts us s.keyed in (
        record { level = l.0; keyed = y.0; good = (rising-left m xs ys good.0, all_left (FitPoint m) xs ys good.1) },
        record { level = l.1; keyed = y.1; good = (rising-right m xs ys good.0, all_right (FitPoint m) xs ys good.1) },
      )

  -- parents over trees in key order are in key order
  pub laid-sorted : (h p : ℕ) (ts us : Forest C W) → Laid h p ts us → SortedAll m h ts → SortedAll m (suc h) us
  laid-sorted h p ts us l s = record { level = l.level; keyed = l.keyed; good = subst (Good m) (sym l.same) s.good }

module _ {C W R : Type 0} (m : Meaning C W R) (first : First m) (second : Second m) where
  settled-heap : (h p : ℕ) (k : Key C) (ts : Forest C W) → 1 ≤ count ts → SortedAll m h ts → HeapAll m ts → Heap m (settled m (suc h) p k ts) × ((f : Point C W → ℕ) → tally (settled m (suc h) p k ts) f ≡ tally_all ts f)
  settled-heap h p k ts n s hp =
      pull-heap m first second (suc h) (fork p (first_key k ts) None ts)
      (record { level = s.level; keyed = (first-keyed k h ts s.level s.keyed n, s.keyed); good = s.good }) hp

  pub parents-carried : (n h p : ℕ) (k : Key C) (ts : Forest C W) → count ts ≤ n → SortedAll m h ts → HeapAll m ts → Carried m ts (parents m n h p k ts)
  parents-carried zero h p k none c s hp = record { heap = tt; tallied = λ f. refl }
  parents-carried zero h p k (more t ts) c s hp = absurd (omega arith)
  parents-carried (suc n) h p k none c s hp = record { heap = tt; tallied = λ f. refl }
  parents-carried (suc n) h p k (more t ts) c s hp =
      let g = group (count (more t ts)) in
      let fs = front g (more t ts) in
      let bs = back g (more t ts) in
      let e = front-back g (more t ts) in
      let fits = group-some (count (more t ts)) (omega arith) in
      let cf : count fs ≡ g = count-front g (more t ts) fits.1 in
      let less = rest-less (more t ts) (omega arith) in
      let ss = sorted-parts m h fs bs (subst (SortedAll m h) (sym e) s) in
      let hs = heap-parts m fs bs (subst (HeapAll m) (sym e) hp) in
      let one = settled-heap h p k fs (omega arith) ss.0 hs.0 in
      let all = parents-carried n h (suc p) k bs (omega arith) ss.1 hs.1 in
      record {
        heap = (one.0, all.heap);
        tallied = λ f. omega (arith, one.1 f, all.tallied f, tally-⊕ fs bs f, ap (λ us. tally_all us f) e);
      }
