-- What a change of one leaf does to the shape of a tree.
use Rattle.std.specs.Prelude.{◌≡◌, ℕ, suc, ◌+◌, ◌<◌, ◌≤◌, cond, List, [], ◌∷◌, ◌++◌, length, nat_le}
use Rattle.trees.specs.Tree.{Tree, Forest, gone, leaf, fork, none, more, count, nth_tree, place_of, children_of, points, points_all, size, size_all, uses, uses_all, hit}
use Rattle.trees.specs.Rules.{Level, LevelAll, DegreesAll, Keyed, KeyedAll}

-- how often a place stands in a list of places
abbrev pub occurs : ℕ → List ℕ → ℕ
occurs q [] = 0
occurs q (p ∷ ps) = hit p q + occurs q ps

module _ {C W : Type 0} where
  abbrev mutual
    -- how many forks have at least b children: one leaf more can split these and no others
    pub full : Tree C W → ℕ → ℕ
    full (gone p) b = 0
    full (leaf p x o) b = 0
    full (fork p k o ts) b = cond (nat_le b (count ts)) 1 0 + full_all ts b

    pub full_all : Forest C W → ℕ → ℕ
    full_all none b = 0
    full_all (more t ts) b = full t b + full_all ts b

  -- trees of height h that stand side by side: their forks have a to b children, and record the keys of their first leaves
  pub record Fine (a b h : ℕ) (ts : Forest C W) : Type 0 where
    pub level : LevelAll ts h
    pub degrees : DegreesAll ts a b
    pub keyed : KeyedAll ts

  -- what is made of a fork at p over ts: itself, or two forks that share the children
  pub record Forked (a b h p : ℕ) (ts : Forest C W) (qs : List ℕ) (us : Forest C W) (rs : List ℕ) : Type 0 where
    pub fine : Fine a b (suc h) us
    pub least : 1 ≤ count us
    pub most : count us ≤ 2
    pub same : points_all us ≡ points_all ts
    pub places : (q : ℕ) → uses_all us q + occurs q rs ≡ hit p q + uses_all ts q + occurs q qs
    pub root : place_of (nth_tree 0 us) ≡ p
    -- a place more where the fork had to be split, and else none
    pub nodes : (n : ℕ) → (b < count ts → 1 ≤ n) → size_all us ≤ suc (size_all ts) + n
    pub free : size_all us + length rs ≡ suc (size_all ts) + length qs

  -- the trees that are made of t by one leaf more: one, or two where it was split; qs and rs are the free places before and after
  pub record Grew (a b h : ℕ) (qs : List ℕ) (t : Tree C W) (us : Forest C W) (rs : List ℕ) : Type 0 where
    pub fine : Fine a b h us
    pub least : 1 ≤ count us
    pub most : count us ≤ 2
    -- one point more
    pub counted : length (points_all us) ≡ suc (length (points t))
    -- no place is lost and none is used twice
    pub places : (q : ℕ) → uses_all us q + occurs q rs ≡ uses t q + occurs q qs
    -- the root stays where it was
    pub root : place_of (nth_tree 0 us) ≡ place_of t
    pub nodes : size_all us ≤ size t + suc (full t b)
    pub free : size_all us + length rs ≡ size t + length qs

  -- what is made of two neighbours l and r: one tree or two, with the same children
  pub record Joined (a b h : ℕ) (l r : Tree C W) (qs : List ℕ) (us : Forest C W) (rs : List ℕ) : Type 0 where
    pub fine : Fine a b h us
    pub least : 1 ≤ count us
    pub most : count us ≤ 2
    pub same : points_all us ≡ points l ++ points r
    pub places : (q : ℕ) → uses_all us q + occurs q rs ≡ uses l q + uses r q + occurs q qs
    pub free : size_all us + length rs ≡ size l + size r + length qs

  -- what is made of a fork t by one leaf less: a fork with as many children or one less
  pub record Shrunk (a b h : ℕ) (qs : List ℕ) (t u : Tree C W) (rs : List ℕ) : Type 0 where
    pub level : Level u h
    pub degrees : DegreesAll (children_of u) a b
    pub keyed : Keyed u
    pub least : count (children_of t) ≤ suc (count (children_of u))
    pub most : count (children_of u) ≤ count (children_of t)
    -- one point less
    pub counted : suc (length (points u)) ≡ length (points t)
    pub places : (q : ℕ) → uses u q + occurs q rs ≡ uses t q + occurs q qs
    pub root : place_of u ≡ place_of t
    pub free : size u + length rs ≡ size t + length qs

  -- a tree that is whole: none, or one of height h whose forks have 2 to 4 children
  pub record Holds (h : ℕ) (f : Forest C W) : Type 0 where
    pub one : count f ≤ 1
    pub fine : Fine 2 4 h f

  -- f becomes g, of height i, and the free places qs become rs: g is whole, and no place is lost and none is used twice
  pub record Changed (f : Forest C W) (qs : List ℕ) (g : Forest C W) (i : ℕ) (rs : List ℕ) : Type 0 where
    pub holds : Holds i g
    pub places : (q : ℕ) → uses_all g q + occurs q rs ≡ uses_all f q + occurs q qs
    pub free : size_all g + length rs ≡ size_all f + length qs

  -- how many free places one leaf more may take
  abbrev pub wants : Forest C W → ℕ
  wants none = 1
  wants (more t ts) = suc (suc (full t 4))
