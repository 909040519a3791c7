-- What a change makes of a tree: a leaf more, a leaf less, and the splits and fusions that follow.
use Rattle.std.specs.Prelude.{ℕ, zero, suc, ◌+◌, ◌-◌, Bool, cond, List, [], ◌∷◌, Some, None, Option, ◌==◌, nat_le, nat_lt}
use Rattle.std.specs.Option.{unwrap_or}
use Rattle.std.specs.Ordering.{is_lt}
use Rattle.kinds.specs.Meaning.{Meaning}
use Rattle.plain.specs.declared.point.Key.{Key}
use Rattle.plain.specs.declared.point.Point.{Point}
use Rattle.plain.specs.Points.{key_order}
use Rattle.trees.specs.Tree.{Tree, Forest, gone, leaf, fork, none, more, key_of, kept_by, place_of, children_of, count, nth_tree, alter, ◌⊕◌, front, back}
use Rattle.trees.specs.Kept.{pick, pull, push, take_out, weigh}

-- some trees in the place of n others, from number i on
abbrev pub exchange : {C W : Type 0} → ℕ → ℕ → Forest C W → Forest C W → Forest C W
exchange i n us ts = front i ts ⊕ (us ⊕ back (i + n) ts)

-- the key of the first tree, or else k
abbrev pub first_key : {C W : Type 0} → Key C → Forest C W → Key C
first_key k none = k
first_key k (more t ts) = unwrap_or (key_of t) k

module _ {C W R : Type 0} (m : Meaning C W R) where
  -- a fork over some trees, which keeps the first in rank of what they kept; k is its key where there is no tree
  abbrev pub settled : ℕ → ℕ → Key C → Forest C W → Tree C W
  settled h p k ts = pull m h (fork p (first_key k ts) None ts)

  -- a point joins those kept in some trees, at the one on the way to its leaf
  abbrev pub seated : ℕ → Option (Point C W) → Forest C W → Forest C W
  seated h None ts = ts
  seated h (Some x) ts = alter (pick m x.key ts) (push m h x) ts

  -- two forks over some trees, the first n below the one and the rest below the other
  abbrev pub halves : ℕ → ℕ → ℕ → Key C → ℕ → Forest C W → Forest C W
  halves h p q k n ts = more (settled h p k (front n ts)) (more (settled h q k (back n ts)) none)

  -- ---- one leaf more
  -- a leaf, and a leaf for x at the place q beside it
  abbrev pub beside : Point C W → ℕ → ℕ → Point C W → Option (Point C W) → Forest C W
  beside x q p y o = cond (is_lt (key_order m x.key y.key)) (more (leaf p x None) (more (leaf q y o) none)) (more (leaf p y o) (more (leaf q x None) none))

  -- a fork at p that keeps o, with at most b children; with more it is split in two at half, the second at the first free place
  abbrev pub divided : ℕ → ℕ → ℕ → ℕ → Key C → Option (Point C W) → Forest C W → List ℕ → Forest C W × List ℕ
  divided b half h p k o ts [] = (more (fork p (first_key k ts) o ts) none, [])
  divided b half h p k o ts (q ∷ qs) = cond (nat_le (count ts) b) (more (fork p (first_key k ts) o ts) none, q ∷ qs) (seated h o (halves h p q k half ts), qs)

  -- x has a leaf in a tree of height h: one tree, or two where it was split; and the places that stay free
  abbrev pub inserted : ℕ → ℕ → ℕ → Point C W → List ℕ → Tree C W → Forest C W × List ℕ
  inserted b half h x qs (gone p) = (more (gone p) none, qs)
  inserted b half h x [] (leaf p y o) = (more (leaf p y o) none, [])
  inserted b half h x (q ∷ qs) (leaf p y o) = (beside x q p y o, qs)
  inserted b half zero x qs (fork p k o ts) = (more (fork p k o ts) none, qs)
  inserted b half (suc h) x qs (fork p k o ts) =
      let i = pick m x.key ts in
      let r = inserted b half h x qs (nth_tree i ts) in
      divided b half (suc h) p k o (exchange i 1 r.0 ts) r.1

  -- ---- one leaf less
  -- two neighbours, of which one (the left, or else the right) has too few children: one fork where they have less than b together, else each has its own and the poor one gets one more
  abbrev pub joined : ℕ → ℕ → Key C → Bool → Tree C W → Tree C W → List ℕ → Forest C W × List ℕ
  joined b h k left l r qs =
      let ts = children_of l ⊕ children_of r in
      cond (nat_lt (count ts) b)
      (seated h (kept_by r) (seated h (kept_by l) (more (settled h (place_of l) k ts) none)), place_of r ∷ qs)
      (seated h (kept_by r) (seated h (kept_by l) (halves h (place_of l) (place_of r) k (cond left (suc (count (children_of l))) (count (children_of l) - 1)) ts)), qs)

  -- a fork at p over ts, of which number i may have less than a children: then it is joined with the neighbour on its left, or if it is the first on its right
  abbrev pub mended : ℕ → ℕ → ℕ → ℕ → Key C → Option (Point C W) → ℕ → Forest C W → List ℕ → Tree C W × List ℕ
  mended a b h p k o i ts qs =
      cond (nat_le a (count (children_of (nth_tree i ts))))
      (fork p (first_key k ts) o ts, qs)
      (let u = joined b h k (i == 0) (nth_tree (i - 1) ts) (nth_tree (suc (i - 1)) ts) qs in
      let us = exchange (i - 1) 2 u.0 ts in
      (fork p (first_key k us) o us, u.1))

  -- a tree of height h without the leaf on the way to a key, which is not kept any more; and the places that are free then
  abbrev pub removed : ℕ → ℕ → ℕ → Key C → List ℕ → Tree C W → Tree C W × List ℕ
  removed a b h k qs (gone p) = (gone p, qs)
  removed a b h k qs (leaf p x o) = (leaf p x o, qs)
  removed a b zero k qs (fork p j o ts) = (fork p j o ts, qs)
  removed a b (suc zero) k qs (fork p j o ts) =
      let i = pick m k ts in
      let us = exchange i 1 none ts in
      (fork p (first_key j us) o us, place_of (nth_tree i ts) ∷ qs)
  removed a b (suc (suc h)) k qs (fork p j o ts) =
      let i = pick m k ts in
      let r = removed a b (suc h) k qs (nth_tree i ts) in
      mended a b (suc h) p j o i (exchange i 1 (more r.0 none) ts) r.1

  -- ---- the whole tree: none, or one of height h; with the height after the change and the places that are free then
  -- over one tree there is no more to do; over two a new root is laid
  abbrev pub topped : ℕ → Point C W → Forest C W → List ℕ → Forest C W × ℕ × List ℕ
  topped h x us [] = (seated h (Some x) us, h, [])
  topped h x us (q ∷ qs) = cond (nat_le (count us) 1) (seated h (Some x) us, h, q ∷ qs) (seated (suc h) (Some x) (more (settled (suc h) q x.key us) none), suc h, qs)

  -- x has a leaf, and is kept
  abbrev pub with_point : ℕ → ℕ → ℕ → Point C W → List ℕ → Forest C W → Forest C W × ℕ × List ℕ
  with_point b half h x [] none = (none, h, [])
  with_point b half h x (q ∷ qs) none = (more (leaf q x (Some x)) none, 0, qs)
  with_point b half h x qs (more t ts) = let r = inserted b half h x qs t in topped h x r.0 r.1

  -- a root with one child goes, and its kept point moves down
  abbrev pub lowered : ℕ → Tree C W → List ℕ → Forest C W × ℕ × List ℕ
  lowered h t qs = cond (nat_le 2 (count (children_of t))) (more t none, h, qs) (seated (h - 1) (kept_by t) (children_of t), h - 1, place_of t ∷ qs)

  -- the point of a key is no longer kept, and its leaf is gone
  abbrev pub without_key : ℕ → ℕ → ℕ → Key C → List ℕ → Forest C W → Forest C W × ℕ × List ℕ
  without_key a b h k qs none = (none, h, qs)
  without_key a b zero k qs (more t ts) = (none, 0, place_of t ∷ qs)
  without_key a b (suc h) k qs (more t ts) = let r = removed a b (suc h) k qs (take_out m (suc h) k t) in lowered (suc h) r.0 r.1

  -- the point of a key is taken out, its leaf gets the weight, and it is kept again
  abbrev pub with_weight : ℕ → Key C → W → Forest C W → Forest C W
  with_weight h k w none = none
  with_weight h k w (more t ts) = seated h (Some (record { key = k; weight = w })) (more (weigh m h k w (take_out m h k t)) none)
