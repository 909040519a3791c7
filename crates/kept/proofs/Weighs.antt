-- The leaf of a point gets another weight.
use Rattle.std.proofs.Common.{◌≡◌, ℕ, zero, suc, ◌+◌, Bool, true, false, cond, List, [], ◌∷◌, ◌++◌, is_some, Some, None, Option, sym, refl, ap, ◌∙◌, arith}
use Rattle.std.specs.Ordering.{is_eq}
use Rattle.std.specs.List.{AllByRecursion}
use Rattle.std.proofs.lemmas.Bool.{both_ways, cond-false}
use Rattle.kinds.specs.Meaning.{Meaning, First, Second}
use Rattle.plain.specs.declared.point.Key.{Key}
use Rattle.plain.specs.declared.point.Point.{Point}
use Rattle.plain.specs.Points.{key_order, Before}
use Rattle.plain.specs.Set.{weight_at, stands, reweigh}
use Rattle.plain.proofs.Keys.{apart-back}
use Rattle.trees.specs.Tree.{Tree, Forest, gone, leaf, fork, none, more, nth_tree, alter, front, back, points, points_all}
use Rattle.trees.specs.Kept.{pick, weigh}
use Rattle.trees.specs.Heap.{total, held, tally, tally_all, over, Room, Heap, Sorted, SortedAll}
use Rattle.trees.proofs.Forests.{points-⊕, split-alter}
use Rattle.kept.proofs.Onces.{level}
use Rattle.kept.proofs.Puts.{put-alter, put-tally, put-totals, put-heap, put-heap-of, put-sorted}
use Rattle.kept.proofs.Picks.{pick-inside, pick-sides, parts, pick-weight}
use Rattle.kept.proofs.Pushes.{below-fork, room-down}

module _ {C W R : Type 0} (m : Meaning C W R) (first : First m) (second : Second m) where
  -- ---- the same points are kept
  alter-tally : (i : ℕ) (g : Tree C W → Tree C W) (ts : Forest C W) (f : Point C W → ℕ) → ((t : Tree C W) → tally (g t) f ≡ tally t f) → tally_all (alter i g ts) f ≡ tally_all ts f
  alter-tally i g none f e = refl
  alter-tally zero g (more t ts) f e = ap (λ n. n + tally_all ts f) (e t)
  alter-tally (suc i) g (more t ts) f e = ap (λ n. tally t f + n) (alter-tally i g ts f e)

  pub weigh-tally : (h : ℕ) (k : Key C) (w : W) (t : Tree C W) (f : Point C W → ℕ) → tally (weigh m h k w t) f ≡ tally t f
  weigh-tally h k w (gone p) f = refl
  weigh-tally h k w (leaf p x o) f = refl
  weigh-tally zero k w (fork p j o ts) f = refl
  weigh-tally (suc h) k w (fork p j o ts) f = ap (λ n. held f o + n) (alter-tally (pick m k ts) (weigh m h k w) ts f (λ t. weigh-tally h k w t f))

  -- ---- a point that is not kept: its leaf is found, and it may have any weight
  abbrev weighing : Point C W → W → Point C W
  weighing x w = record { key = x.key; weight = w }

  -- the rules of kept points hold, and in the sum over the points the new one stands for x
  abbrev Weighed : Point C W → W → Tree C W → Tree C W → Type 0
  Weighed x w t u = Heap m u × ((f : Point C W → ℕ) → total f (points u) + f x ≡ total f (points t) + f (weighing x w))

  at_leaf : (p : ℕ) (x y : Point C W) (w : W) (o : Option (Point C W)) → Room x (leaf p y o) → Weighed x w (leaf p y o) (leaf p (weighing y w) o)
  at_leaf p x y w (Some z) room = absurd (omega (arith, room (λ v. 1)))
  at_leaf p x y w None room =
      let same = level x y (λ f. omega (arith, room f)) in
      (λ f. omega arith, λ f. omega (arith, same f, same (λ v. f (weighing v w))))

  at_fork : (h : ℕ) (x : Point C W) (w : W) (p : ℕ) (j : Key C) (o : Option (Point C W)) (ts : Forest C W) → SortedAll m h ts → Heap m (fork p j o ts) → Room x (fork p j o ts) →
      ((c : Tree C W) → Sorted m h c → Heap m c → Room x c → Weighed x w c (weigh m h x.key w c)) →
      Weighed x w (fork p j o ts) (fork p j o (alter (pick m x.key ts) (weigh m h x.key w) ts))
  at_fork h x w p j o none s hp room ih = absurd (omega (arith, room (λ v. 1)))
  at_fork h x w p j o (more t ts) s (am, ov, hs) room ih =
      let k = x.key in
      let us = more t ts in
      let i = pick m k us in
      let c = nth_tree i us in
      let vs = alter i (weigh m h k w) us in
      let put = put-alter i (weigh m h k w) us (pick-inside m first second k t ts) in
      let l = ih c (put-sorted m put h s) (put-heap-of m put hs) (room-down m first second h x t ts s hs (λ f. omega (arith, room f))) in
      let now : (f : Point C W → ℕ) → tally_all vs f ≡ tally_all us f = λ f. omega (arith, put-tally put f, weigh-tally h k w c f) in
      let sum : (f : Point C W → ℕ) → total f (points_all vs) + f x ≡ total f (points_all us) + f (weighing x w) = λ f. omega (arith, put-totals put f, l.1 f) in (
        ((λ f. omega (arith, now f, room f, sum f)), omega (arith, now (over m o)), put-heap m put hs l.0),
        sum,
      )

  weigh-both : (h : ℕ) (x : Point C W) (w : W) (t : Tree C W) → Sorted m h t → Heap m t → Room x t → Weighed x w t (weigh m h x.key w t)
  weigh-both h x w (gone p) s hp room = absurd s.level
  weigh-both h x w (leaf p y o) s hp room = at_leaf p x y w o room
  weigh-both zero x w (fork p j o ts) s hp room = absurd s.level
  weigh-both (suc h) x w (fork p j o ts) s hp room = at_fork h x w p j o ts (below-fork m first second h p j o ts s) hp room (weigh-both h x w)

  pub weigh-heap : (h : ℕ) (x : Point C W) (w : W) (t : Tree C W) → Sorted m h t → Heap m t → Room x t → Heap m (weigh m h x.key w t) × ((f : Point C W → ℕ) → tally (weigh m h x.key w t) f ≡ tally t f)
  weigh-heap h x w t s hp room = ((weigh-both h x w t s hp room).0, weigh-tally h x.key w t)

  pub weigh-total : (h : ℕ) (x : Point C W) (w : W) (t : Tree C W) → Sorted m h t → Heap m t → Room x t → (f : Point C W → ℕ) → total f (points (weigh m h x.key w t)) + f x ≡ total f (points t) + f (record { key = x.key; weight = w })
  weigh-total h x w t s hp room = (weigh-both h x w t s hp room).1

  -- ---- the points are those of the plain set
  reweigh-skip : (k : Key C) (w : W) (xs ys : List (Point C W)) → AllByRecursion (λ x. Before m x.key k) xs → reweigh m k w (xs ++ ys) ≡ xs ++ reweigh m k w ys
  reweigh-skip k w [] ys a = refl
  reweigh-skip k w (x ∷ xs) ys (b, a) =
      cond-false (is_eq (key_order m k x.key)) (weighing x w ∷ (xs ++ ys)) (x ∷ reweigh m k w (xs ++ ys)) (apart-back m first x.key k b)
      ∙ ap (λ l. x ∷ l) (reweigh-skip k w xs ys a)

  reweigh-here : (k : Key C) (w : W) (xs ys : List (Point C W)) → stands m k xs ≡ true → reweigh m k w (xs ++ ys) ≡ reweigh m k w xs ++ ys
  reweigh-here k w [] ys e = absurd (both_ways _ refl e)
  reweigh-here k w (x ∷ xs) ys e = go (is_eq (key_order m k x.key)) e (reweigh-here k w xs ys)
    where
      go : (b : Bool) → is_some (cond b (Some x.weight) (weight_at m k xs)) ≡ true → (stands m k xs ≡ true → reweigh m k w (xs ++ ys) ≡ reweigh m k w xs ++ ys) →
          cond b (weighing x w ∷ (xs ++ ys)) (x ∷ reweigh m k w (xs ++ ys)) ≡ cond b (weighing x w ∷ xs) (x ∷ reweigh m k w xs) ++ ys
      go true s ih = refl
      go false s ih = ap (λ l. x ∷ l) (ih s)

  weigh-leaf : (k : Key C) (w : W) (x : Point C W) → stands m k (x ∷ []) ≡ true → weighing x w ∷ [] ≡ reweigh m k w (x ∷ [])
  weigh-leaf k w x e = go (is_eq (key_order m k x.key)) e
    where
      go : (b : Bool) → is_some (cond b (Some x.weight) None) ≡ true → weighing x w ∷ [] ≡ cond b (weighing x w ∷ []) (x ∷ [])
      go true s = refl
      go false s = absurd (both_ways _ refl s)

  weigh-fork : (h : ℕ) (k : Key C) (w : W) (ts : Forest C W) → SortedAll m h ts → stands m k (points_all ts) ≡ true → ((c : Tree C W) → Sorted m h c → stands m k (points c) ≡ true → points (weigh m h k w c) ≡ reweigh m k w (points c)) →
      points_all (alter (pick m k ts) (weigh m h k w) ts) ≡ reweigh m k w (points_all ts)
  weigh-fork h k w none s e ih = absurd (both_ways _ refl e)
  weigh-fork h k w (more t ts) s e ih =
      let us = more t ts in
      let i = pick m k us in
      let c = nth_tree i us in
      let xs = points_all (front i us) in
      let ys = points_all (back (suc i) us) in
      let inside = pick-inside m first second k t ts in
      let put = put-alter i (weigh m h k w) us inside in
      let st : stands m k (points c) ≡ true = ap is_some (pick-weight m first second k h us s) ∙ e in
      let now : points_all (alter i (weigh m h k w) us) ≡ xs ++ (points (weigh m h k w c) ++ ys) = ap points_all (split-alter i (weigh m h k w) us inside) ∙ points-⊕ (front i us) (more (weigh m h k w c) (back (suc i) us)) in
      now
      ∙ ap (λ l. xs ++ (l ++ ys)) (ih c (put-sorted m put h s) st)
      ∙ ap (λ l. xs ++ l) (sym (reweigh-here k w (points c) ys st))
      ∙ sym (reweigh-skip k w xs (points c ++ ys) (pick-sides m first second k h us s).0)
      ∙ ap (reweigh m k w) (sym (parts m first second i us inside))

  pub weigh-points : (h : ℕ) (k : Key C) (w : W) (t : Tree C W) → Sorted m h t → stands m k (points t) ≡ true → points (weigh m h k w t) ≡ reweigh m k w (points t)
  weigh-points h k w (gone p) s e = absurd s.level
  weigh-points h k w (leaf p x o) s e = weigh-leaf k w x e
  weigh-points zero k w (fork p j o ts) s e = absurd s.level
  weigh-points (suc h) k w (fork p j o ts) s e = weigh-fork h k w ts (below-fork m first second h p j o ts s) e (weigh-points h k w)
