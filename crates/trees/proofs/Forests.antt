-- Trees one after the other: what a forest and its two parts have.
use Rattle.std.proofs.Common.{◌≡◌, ℕ, zero, suc, ◌+◌, ◌-◌, ◌<◌, ◌≤◌, List, [], ◌∷◌, ◌++◌, sym, refl, ap, ◌∙◌, append_assoc, arith}
use Rattle.kinds.specs.Meaning.{Meaning}
use Rattle.plain.specs.declared.point.Point.{Point}
use Rattle.trees.specs.Tree.{Tree, Forest, none, more, ◌⊕◌, count, nth_tree, alter, front, back, points, points_all, size_all, uses_all}
use Rattle.trees.specs.Rules.{LevelAll, DegreesAll, KeyedAll}
use Rattle.trees.specs.Heap.{total, tally_all, HeapAll}

module _ {C W : Type 0} where
  -- ---- sums over both
  pub points-⊕ : (ts us : Forest C W) → points_all (ts ⊕ us) ≡ points_all ts ++ points_all us
  points-⊕ none us = refl
  points-⊕ (more t ts) us = ap (λ l. points t ++ l) (points-⊕ ts us) ∙ sym (append_assoc (points t) (points_all ts) (points_all us))

  pub total-++ : (f : Point C W → ℕ) (xs ys : List (Point C W)) → total f (xs ++ ys) ≡ total f xs + total f ys
  total-++ f [] ys = omega arith
  total-++ f (x ∷ xs) ys = omega (arith, total-++ f xs ys)

  pub total-⊕ : (ts us : Forest C W) (f : Point C W → ℕ) → total f (points_all (ts ⊕ us)) ≡ total f (points_all ts) + total f (points_all us)
  total-⊕ ts us f = ap (total f) (points-⊕ ts us) ∙ total-++ f (points_all ts) (points_all us)

  pub tally-⊕ : (ts us : Forest C W) (f : Point C W → ℕ) → tally_all (ts ⊕ us) f ≡ tally_all ts f + tally_all us f
  tally-⊕ none us f = omega arith
  tally-⊕ (more t ts) us f = omega (arith, tally-⊕ ts us f)

  pub uses-⊕ : (ts us : Forest C W) (q : ℕ) → uses_all (ts ⊕ us) q ≡ uses_all ts q + uses_all us q
  uses-⊕ none us q = omega arith
  uses-⊕ (more t ts) us q = omega (arith, uses-⊕ ts us q)

  pub size-⊕ : (ts us : Forest C W) → size_all (ts ⊕ us) ≡ size_all ts + size_all us
  size-⊕ none us = omega arith
  size-⊕ (more t ts) us = omega (arith, size-⊕ ts us)

  pub count-⊕ : (ts us : Forest C W) → count (ts ⊕ us) ≡ count ts + count us
  count-⊕ none us = omega arith
  count-⊕ (more t ts) us = omega (arith, count-⊕ ts us)

  pub assoc-⊕ : (ts us vs : Forest C W) → (ts ⊕ us) ⊕ vs ≡ ts ⊕ (us ⊕ vs)
  assoc-⊕ none us vs = refl
  assoc-⊕ (more t ts) us vs = ap (more t) (assoc-⊕ ts us vs)

  pub none-⊕ : (ts : Forest C W) → ts ⊕ none ≡ ts
  none-⊕ none = refl
  none-⊕ (more t ts) = ap (more t) (none-⊕ ts)

  -- ---- the first trees, and the rest
  pub front-back : (i : ℕ) (ts : Forest C W) → front i ts ⊕ back i ts ≡ ts
  front-back i none = refl
  front-back zero (more t ts) = refl
  front-back (suc i) (more t ts) = ap (more t) (front-back i ts)

  pub count-parts : (i : ℕ) (ts : Forest C W) → count (front i ts) + count (back i ts) ≡ count ts
  count-parts i ts = sym (count-⊕ (front i ts) (back i ts)) ∙ ap count (front-back i ts)

  pub count-front : (i : ℕ) (ts : Forest C W) → i ≤ count ts → count (front i ts) ≡ i
  count-front zero none h = refl
  count-front (suc i) none h = absurd (omega arith)
  count-front zero (more t ts) h = refl
  count-front (suc i) (more t ts) h = ap suc (count-front i ts (omega arith))

  pub count-back : (i : ℕ) (ts : Forest C W) → i ≤ count ts → count (back i ts) ≡ count ts - i
  count-back i ts h = omega (arith, count-parts i ts, count-front i ts h)

  pub back-all : (i : ℕ) (ts : Forest C W) → count ts ≤ i → back i ts ≡ none
  back-all i none h = refl
  back-all zero (more t ts) h = absurd (omega arith)
  back-all (suc i) (more t ts) h = back-all i ts (omega arith)

  pub front-all : (i : ℕ) (ts : Forest C W) → count ts ≤ i → front i ts ≡ ts
  front-all i none h = refl
  front-all zero (more t ts) h = absurd (omega arith)
  front-all (suc i) (more t ts) h = ap (more t) (front-all i ts (omega arith))

  -- a tree stands between those before it and those after it
  pub at-nth : (i : ℕ) (ts : Forest C W) → i < count ts → back i ts ≡ more (nth_tree i ts) (back (suc i) ts)
  at-nth i none h = absurd (omega arith)
  at-nth zero (more t ts) h = ap (more t) (sym (all ts))
    where
      all : (us : Forest C W) → back zero us ≡ us
      all none = refl
      all (more u us) = refl
  at-nth (suc i) (more t ts) h = at-nth i ts (omega arith)

  pub split-nth : (i : ℕ) (ts : Forest C W) → i < count ts → front i ts ⊕ more (nth_tree i ts) (back (suc i) ts) ≡ ts
  split-nth i ts h = ap (λ us. front i ts ⊕ us) (sym (at-nth i ts h)) ∙ front-back i ts

  pub split-alter : (i : ℕ) (f : Tree C W → Tree C W) (ts : Forest C W) → i < count ts → alter i f ts ≡ front i ts ⊕ more (f (nth_tree i ts)) (back (suc i) ts)
  split-alter i f none h = absurd (omega arith)
  split-alter zero f (more t ts) h = ap (more (f t)) (sym (all ts))
    where
      all : (us : Forest C W) → back zero us ≡ us
      all none = refl
      all (more u us) = refl
  split-alter (suc i) f (more t ts) h = ap (more t) (split-alter i f ts (omega arith))

  pub count-alter : (i : ℕ) (f : Tree C W → Tree C W) (ts : Forest C W) → count (alter i f ts) ≡ count ts
  count-alter i f none = refl
  count-alter zero f (more t ts) = refl
  count-alter (suc i) f (more t ts) = ap suc (count-alter i f ts)

  -- ---- the rules of both
  pub level-⊕ : (ts us : Forest C W) (h : ℕ) → LevelAll ts h → LevelAll us h → LevelAll (ts ⊕ us) h
  level-⊕ none us h a b = b
  level-⊕ (more t ts) us h (l, a) b = (l, level-⊕ ts us h a b)

  pub level-parts : (ts us : Forest C W) (h : ℕ) → LevelAll (ts ⊕ us) h → LevelAll ts h × LevelAll us h
  level-parts none us h a = (tt, a)
  level-parts (more t ts) us h (l, a) = let (b, c) = level-parts ts us h a in ((l, b), c)

  pub degrees-⊕ : (ts us : Forest C W) (a b : ℕ) → DegreesAll ts a b → DegreesAll us a b → DegreesAll (ts ⊕ us) a b
  degrees-⊕ none us a b d e = e
  degrees-⊕ (more t ts) us a b (l, d) e = (l, degrees-⊕ ts us a b d e)

  pub degrees-parts : (ts us : Forest C W) (a b : ℕ) → DegreesAll (ts ⊕ us) a b → DegreesAll ts a b × DegreesAll us a b
  degrees-parts none us a b d = (tt, d)
  degrees-parts (more t ts) us a b (l, d) = let (e, c) = degrees-parts ts us a b d in ((l, e), c)

  pub keyed-⊕ : (ts us : Forest C W) → KeyedAll ts → KeyedAll us → KeyedAll (ts ⊕ us)
  keyed-⊕ none us a b = b
  keyed-⊕ (more t ts) us (k, a) b = (k, keyed-⊕ ts us a b)

  pub keyed-parts : (ts us : Forest C W) → KeyedAll (ts ⊕ us) → KeyedAll ts × KeyedAll us
  keyed-parts none us a = (tt, a)
  keyed-parts (more t ts) us (k, a) = let (b, c) = keyed-parts ts us a in ((k, b), c)

module _ {C W R : Type 0} (m : Meaning C W R) where
  pub heap-⊕ : (ts us : Forest C W) → HeapAll m ts → HeapAll m us → HeapAll m (ts ⊕ us)
  heap-⊕ none us a b = b
  heap-⊕ (more t ts) us (h, a) b = (h, heap-⊕ ts us a b)

  pub heap-parts : (ts us : Forest C W) → HeapAll m (ts ⊕ us) → HeapAll m ts × HeapAll m us
  heap-parts none us a = (tt, a)
  heap-parts (more t ts) us (h, a) = let (b, c) = heap-parts ts us a in ((h, b), c)
