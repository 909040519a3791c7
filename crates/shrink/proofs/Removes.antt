-- A tree without one leaf: in the table, as in the tree.
use Rattle.std.proofs.Common.{◌≡◌, ℕ, zero, suc, ◌+◌, ◌-◌, ◌<◌, ◌≤◌, Bool, cond, eqb, ltb, leb, List, ◌∷◌, ◌++◌, length, get_or, take, drop, Some, Option, sym, refl, ap, ◌∙◌, subst, arith}
use Rattle.std.specs.List.{slice_get}
use Rattle.std.proofs.lemmas.Bool.{cond_both}
use Rattle.kinds.specs.Meaning.{Meaning}
use Rattle.plain.specs.declared.point.Key.{Key}
use Rattle.plain.specs.declared.point.Point.{Point}
use Rattle.trees.specs.Tree.{Tree, Forest, gone, leaf, fork, none, more, ◌⊕◌, grow, count, children_of, nth_tree, place_of, kept_by, front, back, hit, uses, uses_all, size, size_all}
use Rattle.trees.specs.Rules.{Level, LevelAll, Degrees, DegreesAll, Keyed, KeyedAll}
use Rattle.trees.specs.Kept.{pick}
use Rattle.trees.specs.Moves.{first_key, exchange, settled, seated, halves, joined, mended, removed}
use Rattle.trees.proofs.Forests.{uses-⊕, size-⊕, level-⊕, level-parts, degrees-⊕, degrees-parts, keyed-parts}
use Rattle.shapes.specs.Shape.{occurs, Shrunk}
use Rattle.shapes.proofs.Grows.{parted}
use Rattle.shapes.proofs.Shrinks.{fork-degrees, removed-shrunk}
use Rattle.table.specs.declared.node.Node.{Node}
use Rattle.table.specs.declared.free.Free.{Free}
use Rattle.table.specs.Kids.{kids_of}
use Rattle.table.specs.Spares.{spares}
use Rattle.table.specs.Reading.{kept_in, tree_at, inside, Sound, Sounds}
use Rattle.table.specs.Keys.{key_in}
use Rattle.table.proofs.Frames.{hit-here, front-grow, back-grow, nth-grow, count-grow, place_at, exchange-grow}
use Rattle.table.proofs.Steps.{inside-lt, inside_one, sound-within, fork-was}
use Rattle.tree.specs.Places.{pick_at}
use Rattle.tree.proofs.Picks.{pick-tree}
use Rattle.tree.proofs.Settles.{tree-sound}
use Rattle.tree.proofs.Spared.{spares-kept}
use Rattle.shrink.specs.Removes.{Renewed, Mendable, Mended, Ready, Removed, under}
use Rattle.shrink.proofs.Lists.{put_back}
use Rattle.shrink.proofs.Basics.{Givable, givable, uses-children}

-- ---- trees by themselves
module _ {C W : Type 0} where
  mutual
    pub looser : (t : Tree C W) → Degrees t 2 4 → Degrees t 1 4
    looser (gone p) d = tt
    looser (leaf p x o) d = tt
    looser (fork p k o ts) d = (omega (arith, d.0), d.1, looser-all ts d.2)

    pub looser-all : (ts : Forest C W) → DegreesAll ts 2 4 → DegreesAll ts 1 4
    looser-all none d = tt
    looser-all (more t ts) d = (looser t d.0, looser-all ts d.1)

  pub loose-root : (t : Tree C W) → 1 ≤ count (children_of t) → count (children_of t) ≤ 4 → DegreesAll (children_of t) 2 4 → Degrees t 1 4
  loose-root (gone p) a b d = tt
  loose-root (leaf p x o) a b d = tt
  loose-root (fork p k o ts) a b d = (a, b, looser-all ts d)

  pub size-some : (t : Tree C W) → 1 ≤ size t
  size-some (gone p) = omega arith
  size-some (leaf p x o) = omega arith
  size-some (fork p k o ts) = omega arith

-- a tree above leaves that loses one
module _ {C W R : Type 0} (m : Meaning C W R) where
  pub root-degrees : (h : ℕ) → 0 < h → (t : Tree C W) → Level t h → Degrees t 2 4 → (2 ≤ count (children_of t)) × (count (children_of t) ≤ 4) × DegreesAll (children_of t) 2 4
  root-degrees h above t level degrees = let up : h ≡ suc (h - 1) = omega arith in fork-degrees m 2 4 (omega arith) (omega arith) (h - 1) t (subst (Level t) up level) degrees

  pub cut-shrunk : (h : ℕ) → 0 < h → (k : Key C) (qs : List ℕ) (t : Tree C W) → Level t h → Degrees t 2 4 → Keyed t → Shrunk 2 4 h qs t (removed m 2 4 h k qs t).0 (removed m 2 4 h k qs t).1
  cut-shrunk h above k qs t level degrees keyed =
      let up : h ≡ suc (h - 1) = omega arith in
      let down : suc (h - 1) ≡ h = omega arith in
      let d = root-degrees h above t level degrees in
      subst (λ x. Shrunk 2 4 x qs t (removed m 2 4 x k qs t).0 (removed m 2 4 x k qs t).1) down
      (removed-shrunk m 2 4 (omega arith) (omega arith) (omega arith) (h - 1) k qs t (subst (Level t) up level) keyed d.0 d.2)

  removed-deep : (h : ℕ) → 0 < h → (p : ℕ) (j : Key C) (o : Option (Point C W)) (ts : Forest C W) (k : Key C) (qs : List ℕ) → removed m 2 4 (suc h) k qs (fork p j o ts)
      ≡ mended m 2 4 h p j o (pick m k ts) (exchange (pick m k ts) 1 (more (removed m 2 4 h k qs (nth_tree (pick m k ts) ts)).0 none) ts) (removed m 2 4 h k qs (nth_tree (pick m k ts) ts)).1
  removed-deep zero above p j o ts k qs = absurd (omega arith)
  removed-deep (suc h) above p j o ts k qs = refl

-- no free place is taken
module _ {C W R : Type 0} (m : Meaning C W R) (q : ℕ) where
  joined-frees : (h : ℕ) (k : Key C) (left : Bool) (l r : Tree C W) (qs : List ℕ) → occurs q qs ≤ occurs q (joined m 4 h k left l r qs).1
  joined-frees h k left l r qs =
      let ts = children_of l ⊕ children_of r in
      cond_both {A = Forest C W × List ℕ} (ltb (count ts) 4)
      (seated m h (kept_by r) (seated m h (kept_by l) (more (settled m h (place_of l) k ts) none)), place_of r ∷ qs)
      (seated m h (kept_by r) (seated m h (kept_by l) (halves m h (place_of l) (place_of r) k (cond left (suc (count (children_of l))) (count (children_of l) - 1)) ts)), qs)
      (λ v. occurs q qs ≤ occurs q v.1) (λ e. omega arith) (λ e. omega arith)

  mended-frees : (h p : ℕ) (k : Key C) (o : Option (Point C W)) (i : ℕ) (ts : Forest C W) (qs : List ℕ) → occurs q qs ≤ occurs q (mended m 2 4 h p k o i ts qs).1
  mended-frees h p k o i ts qs =
      let u = joined m 4 h k (eqb i 0) (nth_tree (i - 1) ts) (nth_tree (suc (i - 1)) ts) qs in
      let us = exchange (i - 1) 2 u.0 ts in
      cond_both {A = Tree C W × List ℕ} (leb 2 (count (children_of (nth_tree i ts)))) (fork p (first_key k ts) o ts, qs) (fork p (first_key k us) o us, u.1)
      (λ v. occurs q qs ≤ occurs q v.1) (λ e. omega arith) (λ e. joined-frees h k (eqb i 0) (nth_tree (i - 1) ts) (nth_tree (suc (i - 1)) ts) qs)

  removed-frees : (h : ℕ) (k : Key C) (qs : List ℕ) (t : Tree C W) → occurs q qs ≤ occurs q (removed m 2 4 h k qs t).1
  removed-frees h k qs (gone p) = omega arith
  removed-frees h k qs (leaf p x o) = omega arith
  removed-frees zero k qs (fork p j o ts) = omega arith
  removed-frees (suc zero) k qs (fork p j o ts) = omega arith
  removed-frees (suc (suc h)) k qs (fork p j o ts) =
      let i = pick m k ts in
      let r = removed m 2 4 (suc h) k qs (nth_tree i ts) in
      omega (arith, removed-frees (suc h) k qs (nth_tree i ts), mended-frees (suc h) p j o i (exchange i 1 (more r.0 none) ts) r.1)

module _ {C W R : Type 0} {m : Meaning C W R} {a : List (Node C R)} {f : Free} where
  pub ready-sound : {h p : ℕ} → Ready m a f h p → Sound (length a) h (tree_at m a h p)
  ready-sound {h} {p} s = record { level = s.level; degrees = looser (tree_at m a h p) s.degrees; apart = λ q. omega (arith, s.apart q) }

  -- a height above leaves is one more than another
  pub ready-up : {h p : ℕ} → Ready m a f h p → Ready m a f (suc (h - 1)) p
  ready-up {h} {p} s = let up : h ≡ suc (h - 1) = omega (arith, s.above) in subst (λ x. Ready m a f x p) up s

  pub removed-down : {h p : ℕ} {b : List (Node C R)} {g : Free} {k : Key C} → 0 < h → Removed m a b f g (suc (h - 1)) p k → Removed m a b f g h p k
  removed-down {h} {p} {b} {g} {k} above w = let down : suc (h - 1) ≡ h = omega arith in subst (λ x. Removed m a b f g x p k) down w

  -- ---- a node, and its child number i on the way to a key
  module _ {h p : ℕ} (s : Ready m a f (suc h) p) {n : Node C R} (is : slice_get a p ≡ Some n) (i : ℕ) (lt : i < length (kids_of n.children)) where
    -- the trees of the height below
    abbrev branch_at : ℕ → Tree C W
    branch_at = tree_at m a h

    -- the places of the children, and their trees
    abbrev ps : List ℕ
    ps = kids_of n.children

    abbrev ts : Forest C W
    ts = under m a h n

    -- where the child stands; the trees before it and after it
    abbrev c : ℕ
    c = get_or ps i 0

    abbrev before : Forest C W
    before = front i ts

    abbrev after : Forest C W
    after = back (i + 1) ts

    was : tree_at m a (suc h) p ≡ fork p (key_in n.own) (kept_in m n) ts
    was = fork-was m a h p n is

    levels : LevelAll ts h
    levels = subst (λ t. Level t (suc h)) was s.level

    degrees : (2 ≤ count ts) × (count ts ≤ 4) × DegreesAll ts 2 4
    degrees = subst (λ t. Degrees t 2 4) was s.degrees

    keys : KeyedAll ts
    keys = (subst Keyed was s.keyed).1

    apart : (q : ℕ) → hit p q + uses_all ts q + occurs q (spares a f) ≤ inside (length a) q
    apart q = omega (arith, s.apart q, ap (λ t. uses t q) was)

    room : suc (size_all ts) + length (spares a f) ≤ 65535
    room = omega (arith, s.room, ap size was)

    pub two : 2 ≤ length ps
    two = omega (arith, degrees.0, count-grow branch_at ps)

    pub here : p < length a
    here = inside-lt (length a) p (omega (arith, apart p, hit-here p))

    pub within : (j : ℕ) → j < length ps → get_or ps j 0 < length a
    within j below = sound-within m a h (get_or ps j 0) (tree-sound m a h ps (record { level = levels; degrees = looser-all ts degrees.2; apart = λ q. omega (arith, apart q) }) j below)

    at-child : nth_tree i ts ≡ branch_at c
    at-child = nth-grow branch_at i ps lt

    split : before ⊕ more (branch_at c) after ≡ ts
    split = ap (λ t. before ⊕ more t after) (sym at-child) ∙ parted i ts (omega (arith, count-grow branch_at ps, lt))

    counted : (q : ℕ) → uses_all ts q ≡ uses_all before q + (uses (branch_at c) q + uses_all after q)
    counted q = ap (λ us. uses_all us q) (sym split) ∙ uses-⊕ before (more (branch_at c) after) q

    sized : size_all ts ≡ size_all before + (size (branch_at c) + size_all after)
    sized = ap size_all (sym split) ∙ size-⊕ before (more (branch_at c) after)

    level-split : LevelAll before h × (Level (branch_at c) h × LevelAll after h)
    level-split = level-parts before (more (branch_at c) after) h (subst (λ us. LevelAll us h) (sym split) levels)

    degrees-split : DegreesAll before 2 4 × (Degrees (branch_at c) 2 4 × DegreesAll after 2 4)
    degrees-split = degrees-parts before (more (branch_at c) after) 2 4 (subst (λ us. DegreesAll us 2 4) (sym split) degrees.2)

    keyed-child : Keyed (branch_at c)
    keyed-child = (keyed-parts before (more (branch_at c) after) (subst KeyedAll (sym split) keys)).1.0

    off : uses_all ts p ≡ 0
    off = omega (arith, apart p, inside_one (length a) p, hit-here p)

    child-uses : (q : ℕ) → uses (branch_at c) q ≡ hit c q + uses_all (children_of (branch_at c)) q
    child-uses q = uses-children (branch_at c) q ∙ ap (λ x. hit x q + uses_all (children_of (branch_at c)) q) (place_at m a h c)

    not-child : (q : ℕ) → uses (branch_at c) q ≡ 0 → q ≡ c → ⊥
    not-child q z e = let z' = subst (λ x. uses (branch_at c) x ≡ 0) e z in omega (arith, child-uses c, hit-here c)

    -- ---- the child is a leaf, and goes
    pub child-givable : Givable a f c
    child-givable = givable a f c (spares a f) (inside-lt (length a) c (omega (arith, apart c, counted c, child-uses c, hit-here c))) refl (omega (arith, apart c, counted c, child-uses c, hit-here c, inside_one (length a) c)) (omega (arith, room))

    module _ (k : Key C) (picked : i ≡ pick_at m a k ps) (b : List (Node C R)) (stays : (q : ℕ) → (q ≡ c → ⊥) → slice_get b q ≡ slice_get a q) where
      -- the children without it
      abbrev us : Forest C W
      us = exchange i 1 none ts

      now-below : grow (tree_at m b h) (take i ps ++ drop (i + 1) ps) ≡ us
      now-below = exchange-grow m a b h ps i 1 none refl
          (λ q u. let z = ap (λ vs. uses_all vs q) (front-grow branch_at i ps) in stays q (not-child q (omega (arith, apart q, counted q, inside_one (length a) q))))
          (λ q u. let z = ap (λ vs. uses_all vs q) (back-grow branch_at (i + 1) ps) in stays q (not-child q (omega (arith, apart q, counted q, inside_one (length a) q))))

      off-now : uses_all (grow (tree_at m b h) (take i ps ++ drop (i + 1) ps)) p ≡ 0
      off-now = ap (λ vs. uses_all vs p) now-below ∙ omega (arith, uses-⊕ before after p, counted p, off)

      pub removed-leaf : h ≡ 0 → {g : Free} → spares b g ≡ c ∷ spares a f → {d : List (Node C R)} → length d ≡ length b → Renewed m b d p n (take i ps ++ drop (i + 1) ps) → Removed m a d f g (suc h) p k
      removed-leaf low {g} given {d} len' w =
          let same = spares-kept b d g len' (λ q u. w.frame q (omega (arith, ap (occurs q) given, apart q, counted q, child-uses q, inside_one (length a) q))) in
          let j = pick-tree m a h k ps ∙ sym picked in
          let o = kept_in m n in
          let r : (e : ℕ) → e ≡ 0 → removed m 2 4 (suc e) k (spares a f) (fork p (key_in n.own) o ts) ≡ (fork p (first_key (key_in n.own) us) o us, c ∷ spares a f) =
          λ e z. ap (λ x. removed m 2 4 (suc x) k (spares a f) (fork p (key_in n.own) o ts)) z
          ∙ (λ x. (fork p (first_key (key_in n.own) (exchange (j x) 1 none ts)) o (exchange (j x) 1 none ts), place_of (nth_tree (j x) ts) ∷ spares a f))
          ∙ ap (λ x. (fork p (first_key (key_in n.own) us) o us, x ∷ spares a f)) (ap place_of at-child ∙ place_at m a h c) in
          let is : removed m 2 4 (suc h) k (spares a f) (tree_at m a (suc h) p) ≡ (fork p (first_key (key_in n.own) us) o us, c ∷ spares a f) = ap (removed m 2 4 (suc h) k (spares a f)) was ∙ r h low in
          record {
            tree = w.tree h (key_in n.own) off-now ∙ ap (λ vs. fork p (first_key (key_in n.own) vs) o vs) now-below ∙ sym (ap (λ v. v.0) is);
            spares = same ∙ given ∙ sym (ap (λ v. v.1) is);
            frame = λ q z. let z' = ap (λ t. uses t q) (sym was) ∙ z in w.frame q (omega arith) ∙ stays q (not-child q (omega (arith, counted q)));
          }

    -- ---- the child is itself above others, and loses a leaf
    module _ (deep : 0 < h) (k : Key C) where
      pub child-ready : Ready m a f h c
      child-ready = record {
        above = deep;
        level = level-split.1.0;
        degrees = degrees-split.1.0;
        keyed = keyed-child;
        apart = λ q. omega (arith, apart q, counted q);
        room = omega (arith, room, sized);
      }

      child-degrees : (2 ≤ count (children_of (branch_at c))) × (count (children_of (branch_at c)) ≤ 4) × DegreesAll (children_of (branch_at c)) 2 4
      child-degrees = root-degrees m h deep (branch_at c) child-ready.level child-ready.degrees

      -- the child after, and the places that are free then
      abbrev shorter : Tree C W
      shorter = (removed m 2 4 h k (spares a f) (branch_at c)).0

      abbrev freed : List ℕ
      freed = (removed m 2 4 h k (spares a f) (branch_at c)).1

      -- all children after
      abbrev new : Forest C W
      new = exchange i 1 (more shorter none) ts

      shrunk : Shrunk 2 4 h (spares a f) (branch_at c) shorter freed
      shrunk = cut-shrunk m h deep k (spares a f) (branch_at c) child-ready.level child-ready.degrees child-ready.keyed

      module _ {b : List (Node C R)} (len : length b ≡ length a) {g : Free} (rem : Removed m a b f g h c k) where
        now-all : under m b h n ≡ new
        now-all =
            let at : c ≡ place_of shorter = sym (place_at m a h c) ∙ sym shrunk.root in
            ap (grow (tree_at m b h)) (sym (put_back ps i lt) ∙ ap (λ x. take i ps ++ (x ∷ drop (i + 1) ps)) at)
            ∙ exchange-grow m a b h ps i 1 (more shorter none) (ap (λ x. more (tree_at m b h x) none) (sym at) ∙ ap (λ t. more t none) rem.tree)
            (λ q u. let z = ap (λ vs. uses_all vs q) (front-grow branch_at i ps) in rem.frame q (omega (arith, apart q, counted q, inside_one (length a) q)))
            (λ q u. let z = ap (λ vs. uses_all vs q) (back-grow branch_at (i + 1) ps) in rem.frame q (omega (arith, apart q, counted q, inside_one (length a) q)))

        moved : (q : ℕ) → uses_all (under m b h n) q + occurs q freed ≡ uses_all ts q + occurs q (spares a f)
        moved q = omega (arith, ap (λ vs. uses_all vs q) now-all, uses-⊕ before (more shorter after) q, counted q, shrunk.places q)

        still-out : (q : ℕ) → uses_all ts q ≡ 0 → uses_all (under m b h n) q ≡ 0
        still-out q z = omega (arith, moved q, removed-frees m q h k (spares a f) (branch_at c))

        pub mendable : Mendable m b g p n h i
        mendable = record {
          is = rem.frame p (omega (arith, counted p, off)) ∙ is;
          above = deep;
          index = lt;
          two = two;
          sounds = subst (Sounds (length b) h) (sym now-all) (record {
            level = level-⊕ before (more shorter after) h level-split.0 (shrunk.level, level-split.1.1);
            degrees = degrees-⊕ before (more shorter after) 1 4 (looser-all before degrees-split.0) (loose-root shorter (omega (arith, shrunk.least, child-degrees.0)) (omega (arith, shrunk.most, child-degrees.1)) shrunk.degrees, looser-all after degrees-split.1.1);
            apart = λ q. subst (λ x. uses_all new q ≤ inside x q) (sym len) (omega (arith, moved q, ap (λ vs. uses_all vs q) now-all, apart q));
          });
          apart = λ q. subst (λ x. hit p q + uses_all (under m b h n) q + occurs q (spares b g) ≤ inside x q) (sym len) (omega (arith, moved q, ap (occurs q) rem.spares, apart q));
          room = omega (arith, ap length rem.spares, shrunk.free, size-some shorter, sized, room);
        }

        pub removed-fork : i ≡ pick_at m a k ps → {d : List (Node C R)} {g' : Free} → Mended m b d g g' p n h i → Removed m a d f g' (suc h) p k
        removed-fork picked {d} {g'} w =
            let x = key_in n.own in
            let o = kept_in m n in
            let j = pick-tree m a h k ps ∙ sym picked in
            let e : removed m 2 4 (suc h) k (spares a f) (tree_at m a (suc h) p) ≡ mended m 2 4 h p x o i new freed =
            ap (removed m 2 4 (suc h) k (spares a f)) was
            ∙ removed-deep m h deep p x o ts k (spares a f)
            ∙ (λ v. mended m 2 4 h p x o (j v) (exchange (j v) 1 (more (removed m 2 4 h k (spares a f) (nth_tree (j v) ts)).0 none) ts) (removed m 2 4 h k (spares a f) (nth_tree (j v) ts)).1)
            ∙ (λ v. mended m 2 4 h p x o i (exchange i 1 (more (removed m 2 4 h k (spares a f) (at-child v)).0 none) ts) (removed m 2 4 h k (spares a f) (at-child v)).1) in
            let made : mended m 2 4 h p x o i (under m b h n) (spares b g) ≡ removed m 2 4 (suc h) k (spares a f) (tree_at m a (suc h) p) =
            (λ v. mended m 2 4 h p x o i (now-all v) (rem.spares v)) ∙ sym e in
            record {
              tree = w.tree ∙ ap (λ v. v.0) made;
              spares = w.spares ∙ ap (λ v. v.1) made;
              frame = λ q z.
                  let z' = ap (λ v. uses v q) (sym was) ∙ z in
                  w.frame q (omega arith) (still-out q (omega arith)) ∙ rem.frame q (omega (arith, counted q));
            }
