-- A point that a tree keeps is taken out.
use Rattle.std.proofs.Common.{◌≡◌, ℕ, zero, suc, ◌+◌, Bool, true, false, cond, Some, None, Option, refl, arith}
use Rattle.std.proofs.lemmas.Bool.{both_ways}
use Rattle.kinds.specs.Meaning.{Meaning, First, Second}
use Rattle.plain.specs.declared.point.Key.{Key}
use Rattle.plain.specs.declared.point.Point.{Point}
use Rattle.trees.specs.Tree.{Tree, Forest, gone, leaf, fork, none, more, nth_tree, alter, points_all}
use Rattle.trees.specs.Kept.{pick, pull, has_key, take_out}
use Rattle.trees.specs.Heap.{held, tally, tally_all, over, KeptIn, Heap, Sorted, SortedAll}
use Rattle.trees.proofs.Bares.{alter-points, take-points}
use Rattle.kept.proofs.Sums.{tally-split}
use Rattle.kept.proofs.Onlys.{only, rest, parted, only-apart, only_self}
use Rattle.kept.proofs.Onces.{level, same_key}
use Rattle.kept.proofs.Puts.{put-alter, put-tally, put-heap, put-heap-of, put-sorted, put-focus}
use Rattle.kept.proofs.Picks.{pick-inside, pick_total}
use Rattle.kept.proofs.Pushes.{below-fork}
use Rattle.kept.proofs.Pulls.{pull-heap}

module _ {C W R : Type 0} (m : Meaning C W R) (first : First m) (second : Second m) where
  -- x is no longer kept
  abbrev Left : Point C W → Tree C W → Tree C W → Type 0
  Left x t u = Heap m u × ((f : Point C W → ℕ) → f x + tally u f ≡ tally t f)

  at_leaf : (p : ℕ) (x y : Point C W) (o : Option (Point C W)) → KeptIn x (leaf p y o) → Left x (leaf p y o) (leaf p y None)
  at_leaf p x y None kx = absurd (omega (arith, kx (λ z. 1)))
  at_leaf p x y (Some z) kx = (λ f. omega arith, λ f. omega (arith, level x z kx f))

  -- a fork that does not keep the key
  keeps-not : (k : Key C) (o : Option (Point C W)) → has_key m k o ≡ false → (f : Point C W → ℕ) → held (only m k f) o ≡ 0
  keeps-not k None e f = refl
  keeps-not k (Some y) e f = only-apart m k f y e

  -- at the fork that keeps it
  at_fork : (h : ℕ) (x : Point C W) (p : ℕ) (j : Key C) (o : Option (Point C W)) (ts : Forest C W) → has_key m x.key o ≡ true → Sorted m (suc h) (fork p j o ts) → Heap m (fork p j o ts) → KeptIn x (fork p j o ts) →
      Left x (fork p j o ts) (pull m (suc h) (fork p j o ts))
  at_fork h x p j None ts e s hp kx = absurd (both_ways _ refl e)
  at_fork h x p j (Some y) ts e s hp kx =
      let pl = pull-heap m first second (suc h) (fork p j (Some y) ts) s hp.2 in
      let same = same_key m first x y (points_all ts) s.good.0 e (λ f. omega (arith, kx f, hp.0 f)) (λ f. omega (arith, hp.0 f)) in
      (pl.0, λ f. omega (arith, pl.1 f, same f))

  -- below a fork that does not
  below-it : (h : ℕ) (x : Point C W) (p : ℕ) (j : Key C) (o : Option (Point C W)) (ts : Forest C W) → has_key m x.key o ≡ false → SortedAll m h ts → Heap m (fork p j o ts) → KeptIn x (fork p j o ts) →
      ((c : Tree C W) → Sorted m h c → Heap m c → KeptIn x c → Left x c (take_out m h x.key c)) →
      Left x (fork p j o ts) (fork p j o (alter (pick m x.key ts) (take_out m h x.key) ts))
  below-it h x p j o none e s hp kx ih = absurd (omega (arith, kx (only m x.key (λ _. 1)), keeps-not x.key o e (λ _. 1), only_self m first x (λ _. 1)))
  below-it h x p j o (more t ts) e s (am, ov, hs) kx ih =
      let k = x.key in
      let us = more t ts in
      let i = pick m k us in
      let c = nth_tree i us in
      let put = put-alter i (take_out m h k) us (pick-inside m first second k t ts) in
      let kc : KeptIn x c = λ f. omega (
        arith,
        kx (only m k f),
        keeps-not k o e f,
        only_self m first x f,
        put-focus m put hs (only m k f) (pick_total m first second k f h us s),
        tally-split f (only m k f) (rest m k f) (parted m k f) c,
      ) in
      let l = ih c (put-sorted m put h s) (put-heap-of m put hs) kc in
      let now : (f : Point C W → ℕ) → f x + tally_all (alter i (take_out m h k) us) f ≡ tally_all us f = λ f. omega (arith, put-tally put f, l.1 f) in
      let same : points_all (alter i (take_out m h k) us) ≡ points_all us = alter-points i (take_out m h k) us (take-points m h k) in (
        ((λ f. rw same (omega (arith, now f, am f))), omega (arith, now (over m o)), put-heap m put hs l.0),
        λ f. omega (arith, now f),
      )

  pub take-heap : (h : ℕ) (x : Point C W) (t : Tree C W) → Sorted m h t → Heap m t → KeptIn x t → Heap m (take_out m h x.key t) × ((f : Point C W → ℕ) → f x + tally (take_out m h x.key t) f ≡ tally t f)
  take-heap h x (gone p) s hp kx = absurd s.level
  take-heap h x (leaf p y o) s hp kx = at_leaf p x y o kx
  take-heap zero x (fork p j o ts) s hp kx = absurd s.level
  take-heap (suc h) x (fork p j o ts) s hp kx = go (has_key m x.key o) refl (λ e. below-it h x p j o ts e (below-fork m first second h p j o ts s) hp kx (take-heap h x))
    where
      go : (b : Bool) → has_key m x.key o ≡ b → (has_key m x.key o ≡ false → Left x (fork p j o ts) (fork p j o (alter (pick m x.key ts) (take_out m h x.key) ts))) →
          Left x (fork p j o ts) (cond b (pull m (suc h) (fork p j o ts)) (fork p j o (alter (pick m x.key ts) (take_out m h x.key) ts)))
      go true e under = at_fork h x p j o ts e s hp kx
      go false e under = under e
