-- What is known of the walks over every tree: what they list, how many nodes they take, and how many entries a stack has.
use Rattle.std.specs.Prelude.{◌≡◌, ℕ, ◌+◌, ◌*◌, ◌≤◌, Bool, false, T, List, [], ◌∷◌, length, Option}
use Rattle.std.specs.List.Sorted.{IsPermutation}
use Rattle.std.specs.List.{flat_map}
use Rattle.kinds.specs.Meaning.{Meaning}
use Rattle.plain.specs.declared.point.Point.{Point}
use Rattle.plain.specs.Windows.{later, window, matches, firsts}
use Rattle.trees.specs.Tree.{Tree, Forest, points, points_all}
use Rattle.trees.specs.Rules.{Level, Degrees, Rules}
use Rattle.shapes.specs.Settles.{Whole}
use Rattle.walked.specs.Walk.{walk, step, after, visits, ranged, taken, first_taken, listed, visits_all, ranged_all, taken_all, first_taken_all, Log, most_visited, most_taken}

module _ {C W R : Type 0} (m : Meaning C W R) where
  -- the walks over a tree
  pub record WalksHold : Type 0 where
    -- the range walk lists the points that match, each once
    pub range_exact : (h : ℕ) (t : Tree C W) → Rules m 2 4 h t → (l u : C) (w : W) → T (m.threshold w) → IsPermutation (matches m l u w (points t)) (ranged m l u w t)
    -- a frontier walk lists the points in the window in key order, and with so many places the first of them
    pub taken_exact : (h : ℕ) (t : Tree C W) → Rules m 2 4 h t → (l u : C) → listed m l u (taken m l u t) ≡ window m l u (points t)
    pub first_exact : (h : ℕ) (t : Tree C W) → Rules m 2 4 h t → (l u : C) (places : ℕ) → listed m l u (first_taken m l u places t) ≡ firsts m places l u (points t)
    -- with L the logarithm of the number of points, few nodes are visited and taken
    pub range_few : (h : ℕ) (t : Tree C W) → Rules m 2 4 h t → (L : ℕ) → Log (length (points t)) L → (l u : C) (w : W) → T (m.threshold w) → length (visits m l u w t) ≤ most_visited L (length (matches m l u w (points t)))
    pub taken_few : (h : ℕ) (t : Tree C W) → Rules m 2 4 h t → (L : ℕ) → Log (length (points t)) L → (l u : C) → later m l u ≡ false → length (taken m l u t) ≤ most_taken L (length (window m l u (points t)))
    pub first_few : (h : ℕ) (t : Tree C W) → Rules m 2 4 h t → (L : ℕ) → Log (length (points t)) L → (l u : C) → later m l u ≡ false → (places : ℕ) → length (first_taken m l u places t) ≤ most_taken L (length (firsts m places l u (points t)))
    -- a step of a stack takes the first node of what is left of the walk
    pub steps : (leads : Option (Point C W) → Bool) (l u : C) (v : Tree C W) (vs : List (Tree C W)) → flat_map (walk m leads l u) (v ∷ vs) ≡ v ∷ flat_map (walk m leads l u) (step m leads l u (v ∷ vs))
    -- the stack has no more than 3 h + 1 entries, and no more than there are points
    pub stack_small : (leads : Option (Point C W) → Bool) (l u : C) (h : ℕ) (t : Tree C W) → Level t h → Degrees t 2 4 → (n : ℕ) → length (after m leads l u n (t ∷ [])) ≤ 3 * h + 1
    pub frontier_small : (leads : Option (Point C W) → Bool) (l u : C) (h : ℕ) (t : Tree C W) → Level t h → Degrees t 2 4 → (n : ℕ) → length (after m leads l u n (t ∷ [])) ≤ length (points t)

  -- the walks over a tree or none
  pub record WholesHold : Type 0 where
    pub range_exact : (h : ℕ) (f : Forest C W) → Whole m h f → (l u : C) (w : W) → T (m.threshold w) → IsPermutation (matches m l u w (points_all f)) (ranged_all m l u w f)
    pub taken_exact : (h : ℕ) (f : Forest C W) → Whole m h f → (l u : C) → listed m l u (taken_all m l u f) ≡ window m l u (points_all f)
    pub first_exact : (h : ℕ) (f : Forest C W) → Whole m h f → (l u : C) (places : ℕ) → listed m l u (first_taken_all m l u places f) ≡ firsts m places l u (points_all f)
    -- with L the logarithm of the number of points, if there are any
    pub range_few : (h : ℕ) (f : Forest C W) → Whole m h f → (L : ℕ) → (1 ≤ length (points_all f) → Log (length (points_all f)) L) → (l u : C) (w : W) → T (m.threshold w) → length (visits_all m l u w f) ≤ most_visited L (length (matches m l u w (points_all f)))
    pub taken_few : (h : ℕ) (f : Forest C W) → Whole m h f → (L : ℕ) → (1 ≤ length (points_all f) → Log (length (points_all f)) L) → (l u : C) → later m l u ≡ false → length (taken_all m l u f) ≤ most_taken L (length (window m l u (points_all f)))
    pub first_few : (h : ℕ) (f : Forest C W) → Whole m h f → (L : ℕ) → (1 ≤ length (points_all f) → Log (length (points_all f)) L) → (l u : C) → later m l u ≡ false → (places : ℕ) → length (first_taken_all m l u places f) ≤ most_taken L (length (firsts m places l u (points_all f)))

-- 16,384 points: at most 113 nodes visited and 29 taken where nothing is listed, and a stack of at most 43 entries
pub record BoundsExample : Type 0 where
  pub logarithm : Log 16384 14
  pub visited : most_visited 14 0 ≡ 113
  pub taken : most_taken 14 0 ≡ 29
  pub stack : (h : ℕ) → h ≤ 14 → 3 * h + 1 ≤ 43
