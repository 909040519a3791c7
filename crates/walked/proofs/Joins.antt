-- Children join a stack from the right, one after the other.
use Rattle.std.proofs.Common.{◌≡◌, ℕ, suc, ◌<◌, ◌≤◌, true, cond, [], ◌∷◌, ◌++◌, refl, ap, arith}
use Rattle.kinds.specs.Meaning.{Meaning}
use Rattle.trees.specs.Tree.{Forest, none, more, key_of, count, nth_tree, back}
use Rattle.trees.proofs.Forests.{at-nth, back-all}
use Rattle.walked.specs.Walk.{starts_from, reaches_right, opens, open_of}

module _ {C W R : Type 0} (m : Meaning C W R) (l u : C) (ts : Forest C W) where
  -- before the first joins
  pub join-none : open_of m l u (back (count ts) ts) ≡ []
  join-none = ap (open_of m l u) (back-all (count ts) ts le)
    where
      le : count ts ≤ count ts
      le = omega arith

  -- the child number i joins those to its right, if it is open
  pub join_more : (i : ℕ) → i < count ts → open_of m l u (back i ts) ≡ cond (opens m l u (nth_tree i ts) (back (suc i) ts)) (nth_tree i ts ∷ []) [] ++ open_of m l u (back (suc i) ts)
  join_more i h = ap (open_of m l u) (at-nth i ts h)

  -- after the last has joined
  pub join-all : open_of m l u (back 0 ts) ≡ open_of m l u ts
  join-all = ap (open_of m l u) (whole ts)
    where
      whole : (us : Forest C W) → back 0 us ≡ us
      whole none = refl
      whole (more t us) = refl

  -- the sibling to the right that is looked at
  pub reach-more : (i : ℕ) → i < count ts → reaches_right m l (back i ts) ≡ starts_from m l (key_of (nth_tree i ts))
  reach-more i h = ap (reaches_right m l) (at-nth i ts h)

  pub reach-last : (i : ℕ) → count ts ≤ i → reaches_right m l (back i ts) ≡ true
  reach-last i h = ap (reaches_right m l) (back-all i ts h)
