-- One leaf more: the points are those of the set with one point more, and the points kept stand as they should.
use Rattle.std.proofs.Common.{◌≡◌, ℕ, zero, suc, ◌+◌, ◌≤◌, true, false, cond, leb, List, [], ◌∷◌, ◌++◌, length, is_some, Some, None, Option, sym, refl, ap, ◌∙◌, subst, append-nil, add-one, arith}
use Rattle.std.specs.Ordering.{is_lt}
use Rattle.std.specs.List.{AllByRecursion}
use Rattle.std.proofs.lemmas.Bool.{cond_both, leb-false}
use Rattle.kinds.specs.Meaning.{Meaning, First, Second}
use Rattle.plain.specs.declared.point.Key.{Key}
use Rattle.plain.specs.declared.point.Point.{Point}
use Rattle.plain.specs.Points.{key_order, Before, FitPoint}
use Rattle.plain.specs.Set.{stands, put}
use Rattle.plain.proofs.Sets.{rising-put, fit-put, length-put}
use Rattle.trees.specs.Tree.{Tree, Forest, gone, leaf, fork, none, more, ◌⊕◌, front, back, count, nth_tree, points, points_all}
use Rattle.trees.specs.Rules.{FirstKey}
use Rattle.trees.specs.Kept.{pick}
use Rattle.trees.specs.Heap.{total, held, tally, tally_all, over, Heap, HeapAll, Good, Sorted, SortedAll}
use Rattle.trees.specs.Moves.{exchange, first_key, settled, seated, halves, beside, divided, inserted, topped, with_point}
use Rattle.trees.proofs.Forests.{points-⊕, tally-⊕, level-⊕, keyed-⊕, heap-⊕, heap-parts}
use Rattle.kept.proofs.Picks.{pick-sides, pick-weight}
use Rattle.kept.proofs.Pushes.{below-fork}
use Rattle.shapes.specs.Shape.{wants}
use Rattle.shapes.specs.Settles.{Settles, Whole}
use Rattle.shapes.proofs.Forks.{pick-inside}
use Rattle.shapes.proofs.Grows.{parted, inserted-grew, with-point-changed}
use Rattle.shapes.proofs.Seats.{sorted-left, sorted-right, sorted_head, settled-stays, halves-stay, seated-stays, fork-stays}
use Rattle.shapes.proofs.Lists.{total-put, put-skip, put-stop}

-- a fork that records a key has a child
pub has-child : {C W : Type 0} (k : Key C) (ts : Forest C W) → FirstKey k (points_all ts) → 1 ≤ count ts
has-child k none f = absurd f
has-child k (more t ts) f = omega arith

-- the sum over the point that a leaf keeps
abbrev held' : {C W : Type 0} → Option (Point C W) → (Point C W → ℕ) → ℕ
held' o f = held f o

module _ {C W R : Type 0} (m : Meaning C W R) (first : First m) (second : Second m) where
  -- trees with a point are not none
  has-points : (x : Point C W) (ps : List (Point C W)) (us : Forest C W) → points_all us ≡ put m x ps → 1 ≤ count us
  has-points x ps none e = absurd (omega (arith, ap length e, length-put m x ps))
  has-points x ps (more u us) e = omega arith

  good-put : (x : Point C W) (ps : List (Point C W)) → FitPoint m x → stands m x.key ps ≡ false → Good m ps → Good m (put m x ps)
  good-put x ps fit off (r, f) = (rising-put m first x ps off r, fit-put m x ps fit f)

  -- ---- at a leaf
  leaf-adds : (x : Point C W) (q p : ℕ) (y : Point C W) (o : Option (Point C W)) → Good m (put m x (y ∷ [])) → ((f : Point C W → ℕ) → held f o ≤ f y) → Settles m 0 (put m x (y ∷ [])) (held' o) (beside m x q p y o)
  leaf-adds x q p y o good hp =
      elim (is_lt (key_order m x.key y.key)) as (λ b. Good m (cond b (x ∷ y ∷ []) (y ∷ x ∷ [])) → Settles m 0 (cond b (x ∷ y ∷ []) (y ∷ x ∷ [])) (held' o) (cond b (more (leaf p x None) (more (leaf q y o) none)) (more (leaf p y o) (more (leaf q x None) none)))) [
        | true ↦ λ g. record {
          sorted = record { level = (refl, (refl, tt)); keyed = (tt, (tt, tt)); good = g };
          heap = ((λ f. omega arith), (hp, tt));
          same = refl;
          tallied = λ f. omega arith;
        }
        | false ↦ λ g. record {
          sorted = record { level = (refl, (refl, tt)); keyed = (tt, (tt, tt)); good = g };
          heap = (hp, ((λ f. omega arith), tt));
          same = refl;
          tallied = λ f. omega arith;
        }
      ] good

  -- ---- among the children
  children-add : (h : ℕ) (x : Point C W) (ts us : Forest C W) → FitPoint m x → stands m x.key (points_all ts) ≡ false → SortedAll m h ts → HeapAll m ts → 1 ≤ count ts
      → Settles m h (put m x (points (nth_tree (pick m x.key ts) ts))) (tally (nth_tree (pick m x.key ts) ts)) us
      → Settles m h (put m x (points_all ts)) (tally_all ts) (exchange (pick m x.key ts) 1 us ts)
  children-add h x ts us fit off s hp n a =
      let i = pick m x.key ts in
      let l = front i ts in
      let t = nth_tree i ts in
      let r = back (i + 1) ts in
      let e = parted i ts (pick-inside m x.key ts n) in
      let s' : SortedAll m h (l ⊕ more t r) = subst (SortedAll m h) (sym e) s in
      let hp' = heap-parts m l (more t r) (subst (HeapAll m) (sym e) hp) in
      let sl = sorted-left m h l (more t r) s' in
      let sr = sorted-right m h (more t none) r (sorted-right m h l (more t r) s') in
      let (before, later) = pick-sides m first second x.key h ts s in
      let after : AllByRecursion (λ y. Before m x.key y.key) (points_all r) = subst (λ j. AllByRecursion (λ y. Before m x.key y.key) (points_all (back j ts))) (sym (add-one i)) later in
      let was : points_all ts ≡ points_all l ++ (points t ++ points_all r) = ap points_all (sym e) ∙ points-⊕ l (more t r) in
      let now : points_all (l ⊕ (us ⊕ r)) ≡ points_all l ++ (put m x (points t) ++ points_all r) =
      points-⊕ l (us ⊕ r) ∙ ap (λ v. points_all l ++ v) (points-⊕ us r ∙ ap (λ v. v ++ points_all r) a.same) in
      let same : points_all (l ⊕ (us ⊕ r)) ≡ put m x (points_all ts) =
      now ∙ ap (λ v. points_all l ++ v) (sym (put-stop m x (points t) (points_all r) after)) ∙ sym (put-skip m first x (points_all l) (points t ++ points_all r) before) ∙ ap (put m x) (sym was) in
      record {
        sorted = record {
          level = level-⊕ l (us ⊕ r) h sl.level (level-⊕ us r h a.sorted.level sr.level);
          keyed = keyed-⊕ l (us ⊕ r) sl.keyed (keyed-⊕ us r a.sorted.keyed sr.keyed);
          good = subst (Good m) (sym same) (good-put x (points_all ts) fit off s.good);
        };
        heap = heap-⊕ m l (us ⊕ r) hp'.0 (heap-⊕ m us r a.heap hp'.1.1);
        same = same;
        tallied = λ f. omega (arith, tally-⊕ l (us ⊕ r) f, tally-⊕ us r f, a.tallied f, tally-⊕ l (more t r) f, ap (λ v. tally_all v f) e);
      }

  -- ---- a fork with its children, split where there are too many
  divided-stays : (b half : ℕ) → 1 ≤ half → half ≤ b → (h p : ℕ) (k : Key C) (o : Option (Point C W)) (ps : List (Point C W)) (sum : (Point C W → ℕ) → ℕ) (ts : Forest C W) (qs : List ℕ) → Settles m h ps sum ts → 1 ≤ count ts
      → ((f : Point C W → ℕ) → held f o + sum f ≤ total f ps) → sum (over m o) ≡ 0 → Settles m (suc h) ps (λ f. held f o + sum f) (divided m b half (suc h) p k o ts qs).0
  divided-stays b half low high h p k o ps sum ts [] a n room ov = fork-stays m first second h p k o ps sum ts a n room ov
  divided-stays b half low high h p k o ps sum ts (q ∷ qs) a n room ov =
      cond_both {A = Forest C W × List ℕ} (leb (count ts) b) (more (fork p (first_key k ts) o ts) none, q ∷ qs) (seated m (suc h) o (halves m (suc h) p q k half ts), qs)
      (λ r. Settles m (suc h) ps (λ f. held f o + sum f) r.0)
      (λ e. fork-stays m first second h p k o ps sum ts a n room ov)
      (λ e.
      let c = halves-stay m first second h p q k half ts a.sorted a.heap low (omega (arith, leb-false (count ts) b e)) in
      seated-stays m first second (suc h) o ps sum (halves m (suc h) p q k half ts)
      (record { sorted = c.sorted; heap = c.heap; same = c.same ∙ a.same; tallied = λ f. c.tallied f ∙ a.tallied f }) room)

  -- ---- in a tree
  module _ (b half : ℕ) (low : 1 ≤ half) (high : half ≤ b) where
    -- one free place is enough: with less a fork is not split, and the points stand as well
    pub inserted-settles : (h : ℕ) (x : Point C W) (qs : List ℕ) (t : Tree C W) → 1 ≤ length qs → Sorted m h t → Heap m t → FitPoint m x → stands m x.key (points t) ≡ false
        → Settles m h (put m x (points t)) (tally t) (inserted m b half h x qs t).0
    inserted-settles h x qs (gone p) n s hp fit off = absurd s.level
    inserted-settles h x [] (leaf p y o) n s hp fit off = absurd (omega arith)
    inserted-settles h x (q ∷ qs) (leaf p y o) n s hp fit off =
        subst (λ i. Settles m i (put m x (y ∷ [])) (held' o) (beside m x q p y o)) (sym s.level) (leaf-adds x q p y o (good-put x (y ∷ []) fit off s.good) hp)
    inserted-settles zero x qs (fork p k o ts) n s hp fit off = absurd s.level
    inserted-settles (suc h) x qs (fork p k o ts) n s (am, ov, hs) fit off =
        let i = pick m x.key ts in
        let t = nth_tree i ts in
        let c = has-child k ts s.keyed.0 in
        let st = below-fork m first second h p k o ts s in
        let e = parted i ts (pick-inside m x.key ts c) in
        let s' : SortedAll m h (front i ts ⊕ more t (back (i + 1) ts)) = subst (SortedAll m h) (sym e) st in
        let hp' = heap-parts m (front i ts) (more t (back (i + 1) ts)) (subst (HeapAll m) (sym e) hs) in
        let ih = inserted-settles h x qs t n (sorted_head m h t (back (i + 1) ts) (sorted-right m h (front i ts) (more t (back (i + 1) ts)) s')) hp'.1.0 fit (ap is_some (pick-weight m first second x.key h ts st) ∙ off) in
        let us = (inserted m b half h x qs t).0 in
        let r = children-add h x ts us fit off st hs c ih in
        divided-stays b half low high h p k o (put m x (points_all ts)) (tally_all ts) (exchange i 1 us ts) (inserted m b half h x qs t).1 r
        (has-points x (points_all ts) (exchange i 1 us ts) r.same)
        (λ f. omega (arith, am f, total-put m f x (points_all ts))) ov

  -- ---- the whole tree
  topped-settles : (h : ℕ) (x : Point C W) (ps : List (Point C W)) (sum : (Point C W → ℕ) → ℕ) (us : Forest C W) (rs : List ℕ) → Settles m h ps sum us → 1 ≤ count us → ((f : Point C W → ℕ) → f x + sum f ≤ total f ps)
      → Settles m (topped m h x us rs).1 ps (λ f. f x + sum f) (topped m h x us rs).0
  topped-settles h x ps sum us [] a n room = seated-stays m first second h (Some x) ps sum us a room
  topped-settles h x ps sum us (q ∷ rs) a n room =
      cond_both {A = Forest C W × ℕ × List ℕ} (leb (count us) 1) (seated m h (Some x) us, h, q ∷ rs) (seated m (suc h) (Some x) (more (settled m (suc h) q x.key us) none), suc h, rs)
      (λ r. Settles m r.1 ps (λ f. f x + sum f) r.0)
      (λ e. seated-stays m first second h (Some x) ps sum us a room)
      (λ e.
      let c = settled-stays m first second h q x.key us a.sorted a.heap n in
      seated-stays m first second (suc h) (Some x) ps sum (more (settled m (suc h) q x.key us) none)
      (record { sorted = c.sorted; heap = c.heap; same = c.same ∙ a.same; tallied = λ f. c.tallied f ∙ a.tallied f }) room)

  -- x, a fit point with a key that does not stand, has its leaf and is kept
  pub with-point-whole : (h : ℕ) (x : Point C W) (qs : List ℕ) (f : Forest C W) → Whole m h f → wants f ≤ length qs → FitPoint m x → stands m x.key (points_all f) ≡ false
      → Whole m (with_point m 4 3 h x qs f).1 (with_point m 4 3 h x qs f).0 × (points_all (with_point m 4 3 h x qs f).0 ≡ put m x (points_all f))
  with-point-whole h x [] none w n fit off = absurd (omega arith)
  with-point-whole h x (q ∷ qs) none w n fit off = (
    record {
      holds = (with-point-changed m h x (q ∷ qs) none w.holds n).0.holds;
      good = ((tt, tt), (fit, tt));
      heap = ((λ f. omega arith), tt);
      full = λ f. omega arith;
    },
    refl,
  )
  with-point-whole h x qs (more t (more u us)) w n fit off = absurd (omega (arith, w.holds.one))
  with-point-whole h x qs (more t none) w n fit off =
      let nil = append-nil (points t) in
      let fine = w.holds.fine in
      let s : Sorted m h t = record { level = fine.level.0; keyed = fine.keyed.0; good = subst (Good m) nil w.good } in
      let full : (g : Point C W → ℕ) → tally t g ≡ total g (points t) = λ g. omega (arith, w.full g, ap (total g) nil) in
      let g = inserted-grew m 2 4 3 (omega arith) (omega arith) (omega arith) h x qs t fine.level.0 fine.degrees.0 fine.keyed.0 (omega arith) in
      let a = inserted-settles 4 3 (omega arith) (omega arith) h x qs t (omega arith) s w.heap.0 fit (ap (stands m x.key) (sym nil) ∙ off) in
      let r = inserted m 4 3 h x qs t in
      let c = topped-settles h x (put m x (points t)) (tally t) r.0 r.1 a g.least (λ f. omega (arith, full f, total-put m f x (points t))) in (
        record {
          holds = (with-point-changed m h x qs (more t none) w.holds n).0.holds;
          good = c.sorted.good;
          heap = c.heap;
          full = λ f. omega (arith, c.tallied f, full f, total-put m f x (points t), ap (total f) c.same);
        },
        c.same ∙ ap (put m x) (sym nil),
      )
