-- The child on the way to a key: all points before it are sooner, all points after it later.
use Rattle.std.proofs.Common.{◌≡◌, ℕ, suc, ◌<◌, ◌≤◌, Bool, true, false, cond, ◌≢◌, List, [], ◌∷◌, ◌++◌, Some, sym, refl, ap, ◌∙◌, arith}
use Rattle.std.specs.Ordering.{is_eq}
use Rattle.std.specs.List.{AllByRecursion}
use Rattle.std.proofs.lemmas.Bool.{cond-false}
use Rattle.kinds.specs.Meaning.{Meaning, First, Second}
use Rattle.plain.specs.declared.point.Key.{Key}
use Rattle.plain.specs.declared.point.Point.{Point}
use Rattle.plain.specs.Points.{key_order, Before}
use Rattle.plain.specs.Set.{Rising, weight_at}
use Rattle.plain.proofs.Keys.{lt-less, apart-back}
use Rattle.plain.proofs.Sets.{missing}
use Rattle.trees.specs.Tree.{Tree, Forest, gone, leaf, fork, none, more, key_of, count, nth_tree, front, back, points, points_all}
use Rattle.trees.specs.Rules.{Level, LevelAll, FirstKey, Keyed, KeyedAll}
use Rattle.trees.specs.Kept.{is_before, run, pick}
use Rattle.trees.specs.Heap.{total, SortedAll}
use Rattle.trees.proofs.Forests.{points-⊕, total-++, split-nth}
use Rattle.trees.proofs.Each.{each-append}
use Rattle.kept.proofs.Risings.{rising-right, rising-cross, first_more, later-all, sooner-all}
use Rattle.kept.proofs.Sums.{total-none}
use Rattle.kept.proofs.Onlys.{only, only-late, only-soon}

-- the root records the key of its first point
pub root-key : {C W : Type 0} (t : Tree C W) (h : ℕ) → Level t h → Keyed t → (k : Key C) × (key_of t ≡ Some k) × FirstKey k (points t)
root-key (gone p) h l d = absurd l
root-key (leaf p x o) h l d = (x.key, refl, refl)
root-key (fork p k o ts) h l d = (k, refl, d.0)

module _ {C W R : Type 0} (m : Meaning C W R) (first : First m) (second : Second m) where
  run-most : (k : Key C) (ts : Forest C W) → run m k ts ≤ count ts
  run-most k none = omega arith
  run-most k (more t ts) = go (is_before m k (key_of t)) (run-most k ts)
    where
      go : (b : Bool) → run m k ts ≤ count ts → cond b 0 (suc (run m k ts)) ≤ suc (count ts)
      go true l = omega arith
      go false l = omega arith

  pub pick_less : (k : Key C) (ts : Forest C W) → ts ≢ none → pick m k ts < count ts
  pick_less k none n = absurd (n refl)
  pick_less k (more t ts) n = omega (arith, run-most k ts)

  pub pick-inside : (k : Key C) (t : Tree C W) (ts : Forest C W) → pick m k (more t ts) < count (more t ts)
  pick-inside k t ts = omega (arith, run-most k ts)

  -- the trees before number i have points before the key, those after it points after the key
  abbrev pub Sides : Key C → ℕ → Forest C W → Type 0
  Sides k i ts = AllByRecursion (λ x. Before m x.key k) (points_all (front i ts)) × AllByRecursion (λ x. Before m k x.key) (points_all (back (suc i) ts))

  sides : (k : Key C) (h : ℕ) (t : Tree C W) (ts : Forest C W) → LevelAll ts h → KeyedAll ts → Rising m (points t ++ points_all ts) → Sides k (run m k ts) (more t ts)
  sides k h t none l d r = (tt, tt)
  sides k h t (more u us) l d r =
      let f = root-key u h l.0 d.0 in
      let rr = rising-right m (points t) (points_all (more u us)) r in
      step f.0 f.1 (first_more m f.0 (points u) (points_all us) f.2) rr (is_before m k (key_of u)) refl (sides k h u us l.1 d.1 rr)
    where
      step : (j : Key C) → key_of u ≡ Some j → FirstKey j (points_all (more u us)) → Rising m (points_all (more u us)) → (b : Bool) → is_before m k (key_of u) ≡ b → Sides k (run m k us) (more u us) → Sides k (cond b 0 (suc (run m k us))) (more t (more u us))
      step j e f rr true q ih = (tt, later-all m first k j (points_all (more u us)) f rr (lt-less (key_order m k j) (sym (ap (is_before m k) e) ∙ q)))
      step j e f rr false q ih = (
        each-append (λ x. Before m x.key k) (points t) (points_all (front (run m k us) (more u us)))
            (sooner-all m first k j (points t) (points_all (more u us)) f (rising-cross m (points t) (points_all (more u us)) r) (sym (ap (is_before m k) e) ∙ q))
            ih.0,
        ih.1,
      )

  pub pick-sides : (k : Key C) (h : ℕ) (ts : Forest C W) → SortedAll m h ts → Sides k (pick m k ts) ts
  pick-sides k h none s = (tt, tt)
  pick-sides k h (more t ts) s = sides k h t ts s.level.1 s.keyed.1 s.good.0

  -- the points, with those of a child in the middle
  pub parts : (i : ℕ) (ts : Forest C W) → i < count ts → points_all ts ≡ points_all (front i ts) ++ (points (nth_tree i ts) ++ points_all (back (suc i) ts))
  parts i ts l = ap points_all (sym (split-nth i ts l)) ∙ points-⊕ (front i ts) (more (nth_tree i ts) (back (suc i) ts))

  -- the child has all that the children have of the key
  pub pick_total : (k : Key C) (f : Point C W → ℕ) (h : ℕ) (ts : Forest C W) → SortedAll m h ts → total (only m k f) (points (nth_tree (pick m k ts) ts)) ≡ total (only m k f) (points_all ts)
  pick_total k f h none s = refl
  pick_total k f h (more t ts) s =
      let i = pick m k (more t ts) in
      let us = front i (more t ts) in
      let vs = back (suc i) (more t ts) in
      let c = nth_tree i (more t ts) in
      let g = only m k f in
      let (a, b) = pick-sides k h (more t ts) s in
      let e : total g (points_all (more t ts)) ≡ total g (points_all us ++ (points c ++ points_all vs)) = ap (total g) (parts i (more t ts) (pick-inside k t ts)) in
      omega (
        arith,
        e,
        total-++ g (points_all us) (points c ++ points_all vs),
        total-++ g (points c) (points_all vs),
        total-none g (λ x. Before m x.key k) (only-soon m k f first) (points_all us) a,
        total-none g (λ x. Before m k x.key) (only-late m k f first) (points_all vs) b,
      )

  -- ---- look-ups
  weight-skip : (k : Key C) (xs ys : List (Point C W)) → AllByRecursion (λ x. Before m x.key k) xs → weight_at m k (xs ++ ys) ≡ weight_at m k ys
  weight-skip k [] ys a = refl
  weight-skip k (x ∷ xs) ys (b, a) = cond-false (is_eq (key_order m k x.key)) (Some x.weight) (weight_at m k (xs ++ ys)) (apart-back m first x.key k b) ∙ weight-skip k xs ys a

  weight-stop : (k : Key C) (xs ys : List (Point C W)) → AllByRecursion (λ y. Before m k y.key) ys → weight_at m k (xs ++ ys) ≡ weight_at m k xs
  weight-stop k [] ys a = missing m first k ys a
  weight-stop k (x ∷ xs) ys a = ap (λ o. cond (is_eq (key_order m k x.key)) (Some x.weight) o) (weight-stop k xs ys a)

  pub pick-weight : (k : Key C) (h : ℕ) (ts : Forest C W) → SortedAll m h ts → weight_at m k (points (nth_tree (pick m k ts) ts)) ≡ weight_at m k (points_all ts)
  pick-weight k h none s = refl
  pick-weight k h (more t ts) s =
      let i = pick m k (more t ts) in
      let us = front i (more t ts) in
      let vs = back (suc i) (more t ts) in
      let c = nth_tree i (more t ts) in
      let (a, b) = pick-sides k h (more t ts) s in
      sym (weight-stop k (points c) (points_all vs) b)
      ∙ sym (weight-skip k (points_all us) (points c ++ points_all vs) a)
      ∙ ap (weight_at m k) (sym (parts i (more t ts) (pick-inside k t ts)))
