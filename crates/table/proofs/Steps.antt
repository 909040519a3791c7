-- From the table to the tree: what is known of a sound tree, and a node written again after the tree of one child has changed.
use Rattle.std.proofs.Common.{◌≡◌, ℕ, zero, suc, ◌+◌, ◌<◌, ◌≤◌, Bool, true, false, cond, ltb, List, [], ◌∷◌, length, get_or, set, Some, None, Option, refl, ap, ◌∙◌, subst, arith, ltb-true}
use Rattle.std.specs.List.{slice_get, AllByRecursion}
use Rattle.kinds.specs.Meaning.{Meaning}
use Rattle.trees.specs.Tree.{Tree, Forest, gone, leaf, fork, none, more, grow, hit, uses, uses_all, count, nth_tree, place_of, alter}
use Rattle.trees.specs.Rules.{Level, LevelAll, Degrees, DegreesAll}
use Rattle.trees.proofs.Each.{each-from}
use Rattle.table.specs.declared.node.Node.{Node}
use Rattle.table.specs.Kids.{kids_of}
use Rattle.table.specs.Reading.{point_in, kept_in, leaf_of, fork_of, tree_at, inside, Sound, Sounds, Became}
use Rattle.table.specs.Keys.{key_in}
use Rattle.table.proofs.Frames.{nth-set-same, nth-set-other, hit-here, not_there, count-grow, nth-grow, place_at, same-tree, same-trees}

-- ---- places inside the table
pub inside-lt : (n q : ℕ) → 0 < inside n q → q < n
inside-lt n q h = go (ltb q n) refl h
  where
    go : (b : Bool) → ltb q n ≡ b → 0 < cond b 1 0 → q < n
    go true e h = ltb-true q n e
    go false e h = absurd (omega arith)

pub inside_one : (n q : ℕ) → inside n q ≤ 1
inside_one n q = go (ltb q n)
  where
    go : (b : Bool) → cond b 1 0 ≤ 1
    go true = omega arith
    go false = omega arith

uses-root : {C W : Type 0} (t : Tree C W) → 0 < uses t (place_of t)
uses-root (gone p) = omega (arith, hit-here p)
uses-root (leaf p x o) = omega (arith, hit-here p)
uses-root (fork p k o ts) = omega (arith, hit-here p)

-- ---- one tree of a forest
module _ {C W : Type 0} where
  pub level-nth : (ts : Forest C W) (h i : ℕ) → LevelAll ts h → i < count ts → Level (nth_tree i ts) h
  level-nth none h i l lt = absurd (omega arith)
  level-nth (more t ts) h zero l lt = l.0
  level-nth (more t ts) h (suc i) l lt = level-nth ts h i l.1 (omega arith)

  pub degrees-nth : (ts : Forest C W) (a b i : ℕ) → DegreesAll ts a b → i < count ts → Degrees (nth_tree i ts) a b
  degrees-nth none a b i d lt = absurd (omega arith)
  degrees-nth (more t ts) a b zero d lt = d.0
  degrees-nth (more t ts) a b (suc i) d lt = degrees-nth ts a b i d.1 (omega arith)

  pub uses-nth : (ts : Forest C W) (i q : ℕ) → i < count ts → uses (nth_tree i ts) q ≤ uses_all ts q
  uses-nth none i q lt = absurd (omega arith)
  uses-nth (more t ts) zero q lt = omega arith
  uses-nth (more t ts) (suc i) q lt = omega (arith, uses-nth ts i q (omega arith))

  pub uses-alter : (f : Tree C W → Tree C W) → ((t : Tree C W) (q : ℕ) → uses (f t) q ≡ uses t q) → (i : ℕ) (ts : Forest C W) (q : ℕ) → uses_all (alter i f ts) q ≡ uses_all ts q
  uses-alter f e i none q = refl
  uses-alter f e zero (more t ts) q = ap (λ k. k + uses_all ts q) (e t q)
  uses-alter f e (suc i) (more t ts) q = ap (λ k. uses t q + k) (uses-alter f e i ts q)

  pub sound-nth : (n h i : ℕ) (ts : Forest C W) → Sounds n h ts → i < count ts → Sound n h (nth_tree i ts)
  sound-nth n h i ts s lt = record {
    level = level-nth ts h i s.level lt;
    degrees = degrees-nth ts 1 4 i s.degrees lt;
    apart = λ q. omega (arith, uses-nth ts i q lt, s.apart q);
  }

module _ {C W R : Type 0} (m : Meaning C W R) where
  abbrev pub kids : Node C R → List ℕ
  kids n = kids_of n.children

  -- the trees below a node
  abbrev pub below : List (Node C R) → ℕ → Node C R → Forest C W
  below ns h n = grow (tree_at m ns h) (kids n)

  pub sound-within : (ns : List (Node C R)) (h p : ℕ) → Sound (length ns) h (tree_at m ns h p) → p < length ns
  sound-within ns h p s =
      let u : 0 < uses (tree_at m ns h p) p = subst (λ q. 0 < uses (tree_at m ns h p) q) (place_at m ns h p) (uses-root (tree_at m ns h p)) in
      inside-lt (length ns) p (omega (arith, s.apart p))

  -- ---- at a node above others
  module _ (ns : List (Node C R)) (h p : ℕ) (n : Node C R) (is : slice_get ns p ≡ Some n) where
    pub fork-was : tree_at m ns (suc h) p ≡ fork p (key_in n.own) (kept_in m n) (below ns h n)
    fork-was = ap (fork_of m (tree_at m ns h) p) is

    module _ (s : Sound (length ns) (suc h) (tree_at m ns (suc h) p)) where
      whole : Sound (length ns) (suc h) (fork p (key_in n.own) (kept_in m n) (below ns h n))
      whole = subst (Sound (length ns) (suc h)) fork-was s

      pub kids-some : 0 < length (kids n)
      kids-some = omega (arith, whole.degrees.0, count-grow (tree_at m ns h) (kids n))

      pub kids-sound : Sounds (length ns) h (below ns h n)
      kids-sound = record { level = whole.level; degrees = whole.degrees.2; apart = λ q. omega (arith, whole.apart q) }

      pub kids-apart : uses_all (below ns h n) p ≡ 0
      kids-apart = omega (arith, whole.apart p, inside_one (length ns) p, hit-here p)

      pub kid-sound : (i : ℕ) → i < length (kids n) → Sound (length ns) h (tree_at m ns h (get_or (kids n) i 0))
      kid-sound i lt =
          subst (Sound (length ns) h) (nth-grow (tree_at m ns h) i (kids n) lt)
          (sound-nth (length ns) h i (below ns h n) kids-sound (omega (arith, count-grow (tree_at m ns h) (kids n))))

      pub kids-within : AllByRecursion (λ q. q < length ns) (kids n)
      kids-within = each-from (λ q. q < length ns) (kids n) 0 (λ i lt. sound-within ns h (get_or (kids n) i 0) (kid-sound i lt))

  -- ---- one child has changed
  module _ (a b : List (Node C R)) (h : ℕ) (f : Tree C W → Tree C W) where
    pub alter-grow : (ps : List ℕ) (i : ℕ) → i < length ps → ((q : ℕ) → uses_all (grow (tree_at m a h) ps) q ≤ 1) → Became m a b h (get_or ps i 0) (f (tree_at m a h (get_or ps i 0)))
        → grow (tree_at m b h) ps ≡ alter i f (grow (tree_at m a h) ps)
    alter-grow [] i lt once bec = absurd (omega arith)
    alter-grow (p ∷ ps) zero lt once bec =
        let e = bec.tree in
        let r = same-trees m a b h ps (λ q u. bec.frame q (omega (arith, once q))) in
        cc
    alter-grow (p ∷ ps) (suc i) lt once bec =
        let at = uses-place ps i (omega arith) in
        let e = same-tree m a b h p (λ q u. bec.frame q (omega (arith, once q, at q))) in
        let r = alter-grow ps i (omega arith) (λ q. omega (arith, once q)) bec in
        cc
      where
        uses-place : (ps : List ℕ) (i : ℕ) → i < length ps → (q : ℕ) → uses (tree_at m a h (get_or ps i 0)) q ≤ uses_all (grow (tree_at m a h) ps) q
        uses-place ps i lt q = subst (λ t. uses t q ≤ uses_all (grow (tree_at m a h) ps) q) (nth-grow (tree_at m a h) i ps lt) (uses-nth (grow (tree_at m a h) ps) i q (omega (arith, count-grow (tree_at m a h) ps)))

  -- ---- a node is written
  -- over trees that it is not part of
  module _ (b : List (Node C R)) (h at : ℕ) (n : Node C R) (within : at < length b) where
    pub fork-now : (ps : List ℕ) → kids n ≡ ps → uses_all (grow (tree_at m b h) ps) at ≡ 0 → tree_at m (set b at n) (suc h) at ≡ fork at (key_in n.own) (kept_in m n) (grow (tree_at m b h) ps)
    fork-now ps same off =
        ap (fork_of m (tree_at m (set b at n) h) at) (nth-set-same b at n within)
        ∙ ap (λ qs. fork at (key_in n.own) (kept_in m n) (grow (tree_at m (set b at n) h) qs)) same
        ∙ ap (fork at (key_in n.own) (kept_in m n)) (same-trees m b (set b at n) h ps (λ q u. nth-set-other b at q n (not_there (uses_all (grow (tree_at m b h) ps)) at off q u)))

    pub other : (q : ℕ) → hit at q ≡ 0 → slice_get (set b at n) q ≡ slice_get b q
    other q z = nth-set-other b at q n (λ e. let z' : hit at at ≡ 0 = subst (λ x. hit at x ≡ 0) e z in omega (arith, hit-here at))

  -- a leaf
  pub leaf-became : (a : List (Node C R)) (at : ℕ) (n : Node C R) → at < length a → Became m a (set a at n) 0 at (leaf at (point_in m n.own) (kept_in m n))
  leaf-became a at n within = record {
    tree = ap (leaf_of m at) (nth-set-same a at n within);
    frame = λ q z. other a 0 at n within q (alone (slice_get a at) q z);
  }
    where
      alone : (o : Option (Node C R)) (q : ℕ) → uses (leaf_of m at o) q ≡ 0 → hit at q ≡ 0
      alone None q z = z
      alone (Some k) q z = z

  module _ (a : List (Node C R)) (h at : ℕ) (n : Node C R) (is : slice_get a at ≡ Some n) (s : Sound (length a) (suc h) (tree_at m a (suc h) at)) where
    was-not : (q : ℕ) → uses (tree_at m a (suc h) at) q ≡ 0 → (hit at q ≡ 0) × (uses_all (below a h n) q ≡ 0)
    was-not q z = let z' = subst (λ t. uses t q ≡ 0) (fork-was a h at n is) z in (omega arith, omega arith)

    -- a node with the same children, over unchanged trees
    pub own-became : (n' : Node C R) → kids n' ≡ kids n → Became m a (set a at n') (suc h) at (fork at (key_in n'.own) (kept_in m n') (below a h n))
    own-became n' same = record {
      tree = fork-now a h at n' (sound-within a (suc h) at s) (kids n) same (kids-apart a h at n is s);
      frame = λ q z. other a h at n' (sound-within a (suc h) at s) q (was-not q z).0;
    }

    -- and after one of them has become another
    module _ (b : List (Node C R)) (len : length b ≡ length a) (i : ℕ) (lt : i < length (kids n)) (f : Tree C W → Tree C W) (uses-kept : (t : Tree C W) (q : ℕ) → uses (f t) q ≡ uses t q)
        (bec : Became m a b h (get_or (kids n) i 0) (f (tree_at m a h (get_or (kids n) i 0)))) where
      pub kids-now : grow (tree_at m b h) (kids n) ≡ alter i f (below a h n)
      kids-now = alter-grow a b h f (kids n) i lt (λ q. omega (arith, (kids-sound a h at n is s).apart q, inside_one (length a) q)) bec

      pub child-became : (n' : Node C R) → kids n' ≡ kids n → Became m a (set b at n') (suc h) at (fork at (key_in n'.own) (kept_in m n') (alter i f (below a h n)))
      child-became n' same =
          let within : at < length b = omega (arith, sound-within a (suc h) at s) in
          let off : uses_all (grow (tree_at m b h) (kids n)) at ≡ 0 = ap (λ ts. uses_all ts at) kids-now ∙ uses-alter f uses-kept i (below a h n) at ∙ kids-apart a h at n is s in
          let c = uses-nth (below a h n) i in
          record {
            tree = fork-now b h at n' within (kids n) same off ∙ ap (fork at (key_in n'.own) (kept_in m n')) kids-now;
            frame = λ q z.
                let z' = was-not q z in
                let child : uses (tree_at m a h (get_or (kids n) i 0)) q ≡ 0 =
                let t = c q (omega (arith, count-grow (tree_at m a h) (kids n))) in
                let e = ap (λ u. uses u q) (nth-grow (tree_at m a h) i (kids n) lt) in
                omega (arith, z'.1) in
                other b h at n' within q z'.0 ∙ bec.frame q child;
          }

      -- the node itself is not written
      pub child-only : Became m a b (suc h) at (fork at (key_in n.own) (kept_in m n) (alter i f (below a h n)))
      child-only =
          let c : (q : ℕ) → uses (tree_at m a h (get_or (kids n) i 0)) q ≤ uses_all (below a h n) q = λ q. subst (λ t. uses t q ≤ uses_all (below a h n) q) (nth-grow (tree_at m a h) i (kids n) lt) (uses-nth (below a h n) i q (omega (arith, count-grow (tree_at m a h) (kids n)))) in
          let same : slice_get b at ≡ Some n = bec.frame at (omega (arith, c at, kids-apart a h at n is s)) ∙ is in
          record {
            tree = ap (fork_of m (tree_at m b h) at) same ∙ ap (fork at (key_in n.own) (kept_in m n)) kids-now;
            frame = λ q z. bec.frame q (omega (arith, c q, (was-not q z).1));
          }
