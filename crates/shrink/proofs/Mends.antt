-- A node of which one child may have too few children: in the table, as in the tree.
use Rattle.std.proofs.Common.{◌≡◌, ℕ, suc, ◌+◌, ◌-◌, ◌<◌, ◌≤◌, Bool, false, cond, eqb, List, [], ◌∷◌, ◌++◌, length, get_or, take, drop, Some, Option, sym, ap, ◌∙◌, subst, arith, eqb-true, le-leb}
use borrow.Author.Tests.{lt-leb, eqb-false}
use Rattle.std.specs.List.{slice_get}
use Rattle.kinds.specs.Meaning.{Meaning}
use Rattle.plain.specs.declared.point.Key.{Key}
use Rattle.plain.specs.declared.point.Point.{Point}
use Rattle.trees.specs.Tree.{Tree, Forest, fork, more, ◌⊕◌, grow, count, children_of, nth_tree, places_of, front, back, uses, uses_all}
use Rattle.trees.specs.Rules.{Level, LevelAll, DegreesAll}
use Rattle.trees.specs.Moves.{first_key, exchange, joined, mended}
use Rattle.trees.proofs.Forests.{uses-⊕, at-nth, split-nth, level-parts, degrees-parts}
use Rattle.table.specs.declared.node.Node.{Node}
use Rattle.table.specs.declared.free.Free.{Free}
use Rattle.table.specs.Kids.{kids_of}
use Rattle.table.specs.Spares.{spares}
use Rattle.table.specs.Reading.{kept_in, tree_at}
use Rattle.table.specs.Keys.{key_in}
use Rattle.table.proofs.Frames.{hit-here, front-grow, back-grow, nth-grow, count-grow, places-at, exchange-grow}
use Rattle.table.proofs.Steps.{inside-lt, inside_one, sound-within, level-nth, degrees-nth}
use Rattle.tree.proofs.Settles.{tree-sound}
use Rattle.shapes.proofs.Shrinks.{fork-degrees}
use Rattle.tree.proofs.Spared.{spares-kept}
use Rattle.shrink.specs.Joins.{Neighbours, Poor, Spared, Joint}
use Rattle.shrink.specs.Removes.{Renewed, Mendable, Mended, under}
use Rattle.shrink.proofs.Lists.{put_two}
use Rattle.shrink.proofs.Basics.{count-were}

module _ {C W R : Type 0} {m : Meaning C W R} {a : List (Node C R)} {f : Free} {p : ℕ} {n : Node C R} {h i : ℕ} (s : Mendable m a f p n h i) where
  -- the trees of the height below
  abbrev branch_at : ℕ → Tree C W
  branch_at = tree_at m a h

  -- the places of the children, and their trees
  abbrev ps : List ℕ
  ps = kids_of n.children

  abbrev ts : Forest C W
  ts = under m a h n

  -- the key and the kept point of the node
  abbrev k : Key C
  k = key_in n.own

  abbrev o : Option (Point C W)
  o = kept_in m n

  pub node-within : p < length a
  node-within = inside-lt (length a) p (omega (arith, s.apart p, hit-here p))

  pub child-within : (j : ℕ) → j < length ps → get_or ps j 0 < length a
  child-within j lt = sound-within m a h (get_or ps j 0) (tree-sound m a h ps s.sounds j lt)

  off : uses_all ts p ≡ 0
  off = omega (arith, s.apart p, inside_one (length a) p, hit-here p)

  up : h ≡ suc (h - 1)
  up = omega (arith, s.above)

  at-index : nth_tree i ts ≡ branch_at (get_or ps i 0)
  at-index = nth-grow branch_at i ps s.index

  module _ {t : Node C R} (is : slice_get a (get_or ps i 0) ≡ Some t) where
    child-count : count (children_of (nth_tree i ts)) ≡ length (kids_of t.children)
    child-count = ap (λ u. count (children_of u)) at-index ∙ count-were m a h (get_or ps i 0) up t is

    -- ---- the child has enough
    pub mended-rich : 2 ≤ length (kids_of t.children) → {b : List (Node C R)} → length b ≡ length a → Renewed m a b p n ps → Mended m a b f f p n h i
    mended-rich rich {b} len w =
        let e = le-leb 2 (count (children_of (nth_tree i ts))) (omega (arith, child-count)) in
        let u = joined m 4 h k (eqb i 0) (nth_tree (i - 1) ts) (nth_tree (suc (i - 1)) ts) (spares a f) in
        let us = exchange (i - 1) 2 u.0 ts in
        let is : mended m 2 4 h p k o i ts (spares a f) ≡ (fork p (first_key k ts) o ts, spares a f) = ap (λ c. cond c (fork p (first_key k ts) o ts, spares a f) (fork p (first_key k us) o us, u.1)) e in
        let same = spares-kept a b f len (λ q v. w.frame q (omega (arith, s.apart q, inside_one (length a) q))) in
        record {
          tree = w.tree h k off ∙ sym (ap (λ v. v.0) is);
          spares = same ∙ sym (ap (λ v. v.1) is);
          frame = λ q x y. w.frame q x;
        }

    -- ---- it has one child: it and its neighbour, at the numbers j and j + 1, are joined
    module _ (poor : length (kids_of t.children) < 2) {j : ℕ} (j-is : j ≡ i - 1) {l r : ℕ} (l-is : l ≡ get_or ps j 0) (r-is : r ≡ get_or ps (j + 1) 0) where
      one-child : count (children_of (nth_tree i ts)) ≡ 1
      one-child =
          let lt : i < count ts = omega (arith, count-grow branch_at ps, s.index) in
          let d = fork-degrees m 1 4 (omega arith) (omega arith) (h - 1) (nth_tree i ts) (subst (λ x. Level (nth_tree i ts) x) up (level-nth ts h i s.sounds.level lt)) (degrees-nth ts 1 4 i s.sounds.degrees lt) in
          omega (arith, child-count, d.0)

      next : suc j < length ps
      next = omega (arith, s.index, s.two)

      tree-l : nth_tree j ts ≡ branch_at l
      tree-l = nth-grow branch_at j ps (omega (arith, next)) ∙ ap branch_at (sym l-is)

      tree-r : nth_tree (suc j) ts ≡ branch_at r
      tree-r = let one : suc j ≡ j + 1 = omega arith in nth-grow branch_at (suc j) ps next ∙ ap (λ x. branch_at (get_or ps x 0)) one ∙ ap branch_at (sym r-is)

      split : front j ts ⊕ more (branch_at l) (more (branch_at r) (back (j + 2) ts)) ≡ ts
      split =
          let c = count-grow branch_at ps in
          let two : j + 2 ≡ suc (suc j) = omega arith in
          let e : back (suc j) ts ≡ more (branch_at r) (back (j + 2) ts) = at-nth (suc j) ts (omega (arith, next)) ∙ (λ x. more (tree-r x) (back (sym two x) ts)) in
          (λ x. front j ts ⊕ more (sym tree-l x) (sym e x)) ∙ split-nth j ts (omega (arith, next))

      counted : (q : ℕ) → uses_all ts q ≡ uses_all (front j ts) q + (uses (branch_at l) q + (uses (branch_at r) q + uses_all (back (j + 2) ts) q))
      counted q = ap (λ us. uses_all us q) (sym split) ∙ uses-⊕ (front j ts) (more (branch_at l) (more (branch_at r) (back (j + 2) ts))) q

      pub neighbours : Neighbours m a h l r
      neighbours =
          let v = (level-parts (front j ts) (more (branch_at l) (more (branch_at r) (back (j + 2) ts))) h (subst (λ us. LevelAll us h) (sym split) s.sounds.level)).1 in
          let d = (degrees-parts (front j ts) (more (branch_at l) (more (branch_at r) (back (j + 2) ts))) 1 4 (subst (λ us. DegreesAll us 1 4) (sym split) s.sounds.degrees)).1 in
          record {
            above = s.above;
            sounds = record { level = (v.0, (v.1.0, tt)); degrees = (d.0, (d.1.0, tt)); apart = λ q. omega (arith, counted q, s.sounds.apart q) };
          }

      pub is-poor : Poor m a h l r (eqb i 0)
      is-poor = record {
        first = λ e. let z : i ≡ j = omega (arith, eqb-true i 0 e) in ap (λ u. count (children_of u)) (sym tree-l ∙ ap (λ x. nth_tree x ts) (sym z)) ∙ one-child;
        last = λ e. let z : i ≡ suc j = later e in ap (λ u. count (children_of u)) (sym tree-r ∙ ap (λ x. nth_tree x ts) (sym z)) ∙ one-child;
      }
        where
          later : eqb i 0 ≡ false → i ≡ suc j
          later e = let z = eqb-false i 0 e in omega arith

      pub joinable : record { pair : Neighbours m a h l r; poor : Poor m a h l r (eqb i 0); spared : Spared m a f h (l ∷ r ∷ []) }
      joinable = record { pair = neighbours; poor = is-poor; spared = record { apart = λ q. omega (arith, counted q, s.apart q); room = s.room } }

      -- the joined ones stand in the table b
      module _ {b : List (Node C R)} (len : length b ≡ length a) {g : Free} {one : Bool} (jt : Joint m a b h l r f g (eqb i 0) one) where
        -- the two neighbours after, and the places of all children
        abbrev joint : Forest C W
        joint = (joined m 4 h k (eqb i 0) (branch_at l) (branch_at r) (spares a f)).0

        abbrev stay : List ℕ
        stay = cond one (take (j + 1) ps ++ drop (j + 1 + 1) ps) ps

        places : places_of joint ≡ cond one (l ∷ []) (l ∷ r ∷ [])
        places = ap places_of (sym (jt.trees k)) ∙ places-at m b h (cond one (l ∷ []) (l ∷ r ∷ []))

        stays : (q : ℕ) → uses (branch_at l) q ≡ 0 → uses (branch_at r) q ≡ 0 → slice_get b q ≡ slice_get a q
        stays = jt.framed.frame

        now-below : grow (tree_at m b h) stay ≡ exchange j 2 joint ts
        now-below =
            let x : cond one (get_or ps j 0 ∷ []) (get_or ps j 0 ∷ get_or ps (j + 1) 0 ∷ []) ≡ places_of joint = (λ i. cond one (sym l-is i ∷ []) (sym l-is i ∷ sym r-is i ∷ [])) ∙ sym places in
            ap (grow (tree_at m b h)) (sym (put_two ps j one next) ∙ ap (λ us. take j ps ++ (us ++ drop (j + 2) ps)) x)
            ∙ exchange-grow m a b h ps j 2 joint (ap (grow (tree_at m b h)) places ∙ jt.trees k)
            (λ q u. let z = ap (λ us. uses_all us q) (front-grow branch_at j ps) in stays q (omega (arith, counted q, s.sounds.apart q, inside_one (length a) q)) (omega (arith, counted q, s.sounds.apart q, inside_one (length a) q)))
            (λ q u. let z = ap (λ us. uses_all us q) (back-grow branch_at (j + 2) ps) in stays q (omega (arith, counted q, s.sounds.apart q, inside_one (length a) q)) (omega (arith, counted q, s.sounds.apart q, inside_one (length a) q)))

        off-now : uses_all (grow (tree_at m b h) stay) p ≡ 0
        off-now =
            ap (λ us. uses_all us p) now-below
            ∙ omega (arith, uses-⊕ (front j ts) (joint ⊕ back (j + 2) ts) p, uses-⊕ joint (back (j + 2) ts) p, ap (λ us. uses_all us p) (jt.trees k), jt.framed.within p, counted p, off)

        mended-is : mended m 2 4 h p k o i ts (spares a f) ≡ (fork p (first_key k (exchange j 2 joint ts)) o (exchange j 2 joint ts), (joined m 4 h k (eqb i 0) (branch_at l) (branch_at r) (spares a f)).1)
        mended-is =
            let e = lt-leb 2 (count (children_of (nth_tree i ts))) (omega (arith, one-child)) in
            let x : nth_tree (i - 1) ts ≡ branch_at l = ap (λ y. nth_tree y ts) (sym j-is) ∙ tree-l in
            let y : nth_tree (suc (i - 1)) ts ≡ branch_at r = ap (λ y. nth_tree (suc y) ts) (sym j-is) ∙ tree-r in
            λ v. cond (e v) (fork p (first_key k ts) o ts, spares a f) (
              fork p (first_key k (exchange (sym j-is v) 2 (joined m 4 h k (eqb i 0) (x v) (y v) (spares a f)).0 ts)) o (exchange (sym j-is v) 2 (joined m 4 h k (eqb i 0) (x v) (y v) (spares a f)).0 ts),
              (joined m 4 h k (eqb i 0) (x v) (y v) (spares a f)).1,
            )

        pub mended-poor : {c : List (Node C R)} → length c ≡ length b → Renewed m b c p n stay → Mended m a c f g p n h i
        mended-poor {c} len' w =
            let same = spares-kept b c g len' (λ q u. w.frame q (omega (arith, jt.freed q, counted q, s.apart q, inside_one (length a) q))) in
            record {
              tree = w.tree h k off-now ∙ ap (λ us. fork p (first_key k us) o us) now-below ∙ sym (ap (λ v. v.0) mended-is);
              spares = same ∙ jt.spares k ∙ sym (ap (λ v. v.1) mended-is);
              frame = λ q x y. w.frame q x ∙ stays q (omega (arith, counted q)) (omega (arith, counted q));
            }
