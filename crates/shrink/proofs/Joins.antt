-- Two neighbours whose children are laid out anew: in the table, as in the tree.
use Rattle.std.proofs.Common.{◌≡◌, ℕ, suc, ◌+◌, ◌-◌, ◌<◌, ◌≤◌, List, [], ◌∷◌, ◌++◌, length, Some, None, sym, ap, ◌∙◌, subst, arith}
use Rattle.std.specs.List.{slice_get}
use Rattle.kinds.specs.Meaning.{Meaning}
use Rattle.plain.specs.declared.point.Key.{Key}
use Rattle.trees.specs.Tree.{Tree, Forest, fork, none, more, ◌⊕◌, grow, count, children_of, kept_by, hit, uses, uses_all}
use Rattle.trees.specs.Rules.{Level, LevelAll, DegreesAll}
use Rattle.trees.specs.Moves.{first_key, settled, seated}
use Rattle.trees.proofs.Forests.{uses-⊕, count-⊕, level-⊕, level-parts, degrees-⊕, degrees-parts, none-⊕}
use Rattle.trees.proofs.Bares.{bare, bare_all, alike-uses_all, pull-bare}
use Rattle.shapes.proofs.Shrinks.{fork-degrees}
use Rattle.table.specs.declared.node.Node.{Node}
use Rattle.table.specs.declared.free.Free.{Free}
use Rattle.table.specs.Spares.{spares}
use Rattle.table.specs.Kids.{kids_of}
use Rattle.table.specs.Reading.{kept_in, tree_at, inside, Sounds}
use Rattle.table.proofs.Frames.{hit-here, not_there, grow-append, count-grow, place_at, same-tree, same-trees}
use Rattle.table.proofs.Steps.{inside_one, sound-within}
use Rattle.tree.specs.Places.{kept_of_node}
use Rattle.tree.specs.Forests.{Laid}
use Rattle.tree.proofs.Picks.{kept-tree}
use Rattle.tree.proofs.Settles.{tree-sound}
use Rattle.tree.proofs.Spared.{spares-kept}
use Rattle.shrink.specs.Joins.{SeatedBoth, Neighbours, Spared, Fused, Shared}
use Rattle.shrink.proofs.Basics.{Givable, givable, children-were, count-were, uses-children, level-children, sounds-alike, both-like}

-- a fork over sound trees that it is not part of
fork-sounds : {C W : Type 0} (n H p : ℕ) (k : Key C) (ts : Forest C W) → H ≡ suc (H - 1) → Sounds n (H - 1) ts → 0 < count ts → count ts ≤ 4 → ((q : ℕ) → hit p q + uses_all ts q ≤ inside n q) → Sounds n H (more (fork p k None ts) none)
fork-sounds n H p k ts up s some few room = record {
  level = (subst (Level (fork p k None ts)) (sym up) s.level, tt);
  degrees = ((some, few, s.degrees), tt);
  apart = λ q. omega (arith, room q);
}

sounds-both : {C W : Type 0} (n h : ℕ) (t u : Tree C W) → Sounds n h (more t none) → Sounds n h (more u none) → ((q : ℕ) → uses t q + uses u q ≤ inside n q) → Sounds n h (more t (more u none))
sounds-both n h t u a b room = record {
  level = (a.level.0, b.level);
  degrees = (a.degrees.0, b.degrees);
  apart = λ q. omega (arith, room q);
}

module _ {C W R : Type 0} {m : Meaning C W R} {a : List (Node C R)} {H l r : ℕ} (s : Neighbours m a H l r) where
  -- the two trees, and the trees of the height below
  abbrev tl : Tree C W
  tl = tree_at m a H l

  abbrev tr : Tree C W
  tr = tree_at m a H r

  abbrev branch_at : ℕ → Tree C W
  branch_at = tree_at m a (H - 1)

  up : H ≡ suc (H - 1)
  up = omega (arith, s.above)

  pub within-l : l < length a
  within-l = sound-within m a H l (tree-sound m a H (l ∷ r ∷ []) s.sounds 0 (omega arith))

  pub within-r : r < length a
  within-r = sound-within m a H r (tree-sound m a H (l ∷ r ∷ []) s.sounds 1 (omega arith))

  pub counts-l : (1 ≤ count (children_of tl)) × (count (children_of tl) ≤ 4) × DegreesAll (children_of tl) 1 4
  counts-l = fork-degrees m 1 4 (omega arith) (omega arith) (H - 1) tl (subst (Level tl) up s.sounds.level.0) s.sounds.degrees.0

  pub counts-r : (1 ≤ count (children_of tr)) × (count (children_of tr) ≤ 4) × DegreesAll (children_of tr) 1 4
  counts-r = fork-degrees m 1 4 (omega arith) (omega arith) (H - 1) tr (subst (Level tr) up s.sounds.level.1.0) s.sounds.degrees.1.0

  -- the children of both, read in the table
  pub all_are : {nl nr : Node C R} → slice_get a l ≡ Some nl → slice_get a r ≡ Some nr → (cs : List ℕ) → cs ≡ kids_of nl.children ++ kids_of nr.children → grow branch_at cs ≡ children_of tl ⊕ children_of tr
  all_are {nl} {nr} is-l is-r cs is =
      ap (grow branch_at) is ∙ grow-append branch_at (kids_of nl.children) (kids_of nr.children)
      ∙ sym (λ i. children-were m a H l up nl is-l i ⊕ children-were m a H r up nr is-r i)

  pub count-l : {nl : Node C R} → slice_get a l ≡ Some nl → count (children_of tl) ≡ length (kids_of nl.children)
  count-l {nl} is = count-were m a H l up nl is

  pub count-r : {nr : Node C R} → slice_get a r ≡ Some nr → count (children_of tr) ≡ length (kids_of nr.children)
  count-r {nr} is = count-were m a H r up nr is

  root-r : 0 < uses tr r
  root-r = omega (arith, uses-children tr r, ap (λ p. hit p r) (place_at m a H r), hit-here r)

  -- the children of both, in two parts
  module _ (xs ys : List ℕ) (e : grow branch_at xs ⊕ grow branch_at ys ≡ children_of tl ⊕ children_of tr) where
    spread : (q : ℕ) → hit l q + uses_all (grow branch_at xs) q + (hit r q + uses_all (grow branch_at ys) q) ≡ uses tl q + uses tr q
    spread q = omega (
      arith,
      uses-children tl q,
      uses-children tr q,
      ap (λ p. hit p q) (place_at m a H l),
      ap (λ p. hit p q) (place_at m a H r),
      uses-⊕ (grow branch_at xs) (grow branch_at ys) q,
      uses-⊕ (children_of tl) (children_of tr) q,
      ap (λ ts. uses_all ts q) e,
    )

    pub once : (q : ℕ) → hit l q + uses_all (grow branch_at xs) q + (hit r q + uses_all (grow branch_at ys) q) ≤ inside (length a) q
    once q = omega (arith, spread q, s.sounds.apart q)

    levels : LevelAll (grow branch_at xs) (H - 1) × LevelAll (grow branch_at ys) (H - 1)
    levels = level-parts (grow branch_at xs) (grow branch_at ys) (H - 1) (subst (λ ts. LevelAll ts (H - 1)) (sym e)
        (level-⊕ (children_of tl) (children_of tr) (H - 1) (level-children (H - 1) tl (subst (Level tl) up s.sounds.level.0)) (level-children (H - 1) tr (subst (Level tr) up s.sounds.level.1.0))))

    degrees : DegreesAll (grow branch_at xs) 1 4 × DegreesAll (grow branch_at ys) 1 4
    degrees = degrees-parts (grow branch_at xs) (grow branch_at ys) 1 4 (subst (λ ts. DegreesAll ts 1 4) (sym e) (degrees-⊕ (children_of tl) (children_of tr) 1 4 counts-l.2 counts-r.2))

    pub left-sounds : Sounds (length a) (H - 1) (grow branch_at xs)
    left-sounds = record { level = levels.0; degrees = degrees.0; apart = λ q. omega (arith, once q) }

    right-sounds : Sounds (length a) (H - 1) (grow branch_at ys)
    right-sounds = record { level = levels.1; degrees = degrees.1; apart = λ q. omega (arith, once q) }

    pub left-off : uses_all (grow branch_at xs) l ≡ 0
    left-off = omega (arith, once l, inside_one (length a) l, hit-here l)

    right-off : uses_all (grow branch_at ys) r ≡ 0
    right-off = omega (arith, once r, inside_one (length a) r, hit-here r)

    -- the first part is laid below l
    module _ (k : Key C) {b : List (Node C R)} (len : length b ≡ length a) (some : 0 < length xs) (few : length xs ≤ 4) (laid : Laid m a b H l xs) where
      left-like : bare_all (grow (tree_at m b H) (l ∷ [])) ≡ bare_all (more (fork l (first_key k (grow branch_at xs)) None (grow branch_at xs)) none)
      left-like = ap (λ t. more (bare t) none) (laid.tree k) ∙ ap (λ t. more t none) (pull-bare m H (fork l (first_key k (grow branch_at xs)) None (grow branch_at xs)))

      left-uses : (q : ℕ) → uses_all (grow (tree_at m b H) (l ∷ [])) q ≡ hit l q + uses_all (grow branch_at xs) q + 0
      left-uses q = alike-uses_all (grow (tree_at m b H) (l ∷ [])) (more (fork l (first_key k (grow branch_at xs)) None (grow branch_at xs)) none) left-like q

      pub one-sounds : Sounds (length b) H (grow (tree_at m b H) (l ∷ []))
      one-sounds =
          subst (λ n. Sounds n H (grow (tree_at m b H) (l ∷ []))) (sym len)
          (sounds-alike (length a) H (grow (tree_at m b H) (l ∷ [])) (more (fork l (first_key k (grow branch_at xs)) None (grow branch_at xs)) none) left-like
          (fork-sounds (length a) H l (first_key k (grow branch_at xs)) (grow branch_at xs) up left-sounds (omega (arith, count-grow branch_at xs)) (omega (arith, count-grow branch_at xs)) (λ q. omega (arith, once q))))

      still-right : grow (tree_at m b (H - 1)) ys ≡ grow branch_at ys
      still-right = same-trees m a b (H - 1) ys (λ q u. laid.frame q (omega (arith, once q, inside_one (length a) q)) (omega (arith, once q, inside_one (length a) q)))

      pub right-sounds-now : Sounds (length b) (H - 1) (grow (tree_at m b (H - 1)) ys)
      right-sounds-now = subst (λ n. Sounds n (H - 1) (grow (tree_at m b (H - 1)) ys)) (sym len) (subst (Sounds (length a) (H - 1)) (sym still-right) right-sounds)

      pub right-off-now : uses_all (grow (tree_at m b (H - 1)) ys) r ≡ 0
      right-off-now = ap (λ ts. uses_all ts r) still-right ∙ right-off

      -- and the second below r
      module _ {c : List (Node C R)} (len' : length c ≡ length b) (some' : 0 < length ys) (few' : length ys ≤ 4) (laid' : Laid m b c H r ys) where
        still-left : tree_at m c H l ≡ tree_at m b H l
        still-left = same-tree m b c H l (λ q u. laid'.frame q (omega (arith, left-uses q, once q, inside_one (length a) q)) (ap (λ ts. uses_all ts q) still-right ∙ omega (arith, left-uses q, once q, inside_one (length a) q)))

        pub two-are : (j : Key C) → grow (tree_at m c H) (l ∷ r ∷ []) ≡ more (settled m H l j (grow branch_at xs)) (more (settled m H r j (grow branch_at ys)) none)
        two-are j =
            let x : tree_at m c H l ≡ settled m H l j (grow branch_at xs) = still-left ∙ laid.tree j in
            let y : tree_at m c H r ≡ settled m H r j (grow branch_at ys) = laid'.tree j ∙ ap (settled m H r j) still-right in
            λ i. more (x i) (more (y i) none)

        -- the two forks before points are pulled up
        abbrev plain : Forest C W
        plain = more (fork l (first_key k (grow branch_at xs)) None (grow branch_at xs)) (more (fork r (first_key k (grow branch_at ys)) None (grow branch_at ys)) none)

        two-like : bare_all (grow (tree_at m c H) (l ∷ r ∷ [])) ≡ bare_all plain
        two-like =
            let x = pull-bare m H (fork l (first_key k (grow branch_at xs)) None (grow branch_at xs)) in
            let y = pull-bare m H (fork r (first_key k (grow branch_at ys)) None (grow branch_at ys)) in
            ap bare_all (two-are k) ∙ (λ i. more (x i) (more (y i) none))

        two-uses : (q : ℕ) → uses_all (grow (tree_at m c H) (l ∷ r ∷ [])) q ≡ uses tl q + uses tr q
        two-uses q = alike-uses_all (grow (tree_at m c H) (l ∷ r ∷ [])) plain two-like q ∙ omega (arith, spread q)

        pub two-sounds : Sounds (length c) H (grow (tree_at m c H) (l ∷ r ∷ []))
        two-sounds =
            let n : length a ≡ length c = sym len ∙ sym len' in
            subst (λ n. Sounds n H (grow (tree_at m c H) (l ∷ r ∷ []))) n
            (sounds-alike (length a) H (grow (tree_at m c H) (l ∷ r ∷ [])) plain two-like
            (sounds-both (length a) H (fork l (first_key k (grow branch_at xs)) None (grow branch_at xs)) (fork r (first_key k (grow branch_at ys)) None (grow branch_at ys))
            (fork-sounds (length a) H l (first_key k (grow branch_at xs)) (grow branch_at xs) up left-sounds (omega (arith, count-grow branch_at xs)) (omega (arith, count-grow branch_at xs)) (λ q. omega (arith, once q)))
            (fork-sounds (length a) H r (first_key k (grow branch_at ys)) (grow branch_at ys) up right-sounds (omega (arith, count-grow branch_at ys)) (omega (arith, count-grow branch_at ys)) (λ q. omega (arith, once q)))
            (λ q. omega (arith, once q))))

        -- the points that l and r kept join in
        module _ {nl nr : Node C R} (is-l : slice_get a l ≡ Some nl) (is-r : slice_get a r ≡ Some nr) {z : List (Node C R)}
            (both : SeatedBoth m c z H (l ∷ r ∷ []) (kept_in m nl) (kept_in m nr)) where
          pub shared : Shared m a z H l r xs ys
          shared =
              let kept-l : kept_in m nl ≡ kept_by tl = sym (kept-tree m a H l ∙ ap (kept_of_node m) is-l) in
              let kept-r : kept_in m nr ≡ kept_by tr = sym (kept-tree m a H r ∙ ap (kept_of_node m) is-r) in
              let like = both-like both in
              record {
                trees = λ j. both.trees
                    ∙ (λ i. seated m H (kept-r i) (seated m H (kept-l i) (two-are j i)));
                framed = record {
                  frame = λ q x y.
                      both.frame q (omega (arith, two-uses q))
                      ∙ laid'.frame q (omega (arith, spread q)) (ap (λ ts. uses_all ts q) still-right ∙ omega (arith, spread q))
                      ∙ laid.frame q (omega (arith, spread q)) (omega (arith, spread q));
                  within = λ q. omega (arith, alike-uses_all (grow (tree_at m z H) (l ∷ r ∷ [])) (grow (tree_at m c H) (l ∷ r ∷ [])) like q, two-uses q);
                };
              }

  -- ---- all the children below l
  module _ (cs : List ℕ) (e : grow branch_at cs ≡ children_of tl ⊕ children_of tr) (few : length cs ≤ 4) where
    pub all-parts : grow branch_at cs ⊕ grow branch_at [] ≡ children_of tl ⊕ children_of tr
    all-parts = none-⊕ (grow branch_at cs) ∙ e

    pub all-some : 0 < length cs
    all-some = omega (arith, count-grow branch_at cs, ap count e, count-⊕ (children_of tl) (children_of tr), counts-l.0)

    module _ {f : Free} (sp : Spared m a f H (l ∷ r ∷ [])) {nl nr : Node C R} (is-l : slice_get a l ≡ Some nl) (is-r : slice_get a r ≡ Some nr)
        (k : Key C) {b d : List (Node C R)} (len-b : length b ≡ length a) (len-d : length d ≡ length b)
        (laid : Laid m a b H l cs) (both : SeatedBoth m b d H (l ∷ []) (kept_in m nl) (kept_in m nr)) where
      like : bare_all (grow (tree_at m d H) (l ∷ [])) ≡ bare_all (grow (tree_at m b H) (l ∷ []))
      like = both-like both

      uses-b : (q : ℕ) → uses_all (grow (tree_at m b H) (l ∷ [])) q ≡ hit l q + uses_all (grow branch_at cs) q + 0
      uses-b = left-uses cs [] all-parts k len-b all-some few laid

      uses-d : (q : ℕ) → uses_all (grow (tree_at m d H) (l ∷ [])) q ≡ hit l q + uses_all (grow branch_at cs) q + 0
      uses-d q = alike-uses_all (grow (tree_at m d H) (l ∷ [])) (grow (tree_at m b H) (l ∷ [])) like q ∙ uses-b q

      frame-d : (q : ℕ) → uses tl q ≡ 0 → uses tr q ≡ 0 → slice_get d q ≡ slice_get a q
      frame-d q x y =
          both.frame q (omega (arith, uses-b q, spread cs [] all-parts q))
          ∙ laid.frame q (omega (arith, spread cs [] all-parts q)) (omega (arith, spread cs [] all-parts q))

      free-same : spares d f ≡ spares a f
      free-same = spares-kept a d f (len-d ∙ len-b) (λ q u. frame-d q (omega (arith, sp.apart q, inside_one (length a) q)) (omega (arith, sp.apart q, inside_one (length a) q)))

      pub right-givable : Givable d f r
      right-givable = givable d f r (spares a f) (omega (arith, within-r)) free-same (omega (arith, sp.apart r, inside_one (length a) r, root-r)) sp.room

      pub fused : {z : List (Node C R)} {g : Free} → spares z g ≡ r ∷ spares d f → ((q : ℕ) → (q ≡ r → ⊥) → slice_get z q ≡ slice_get d q) → Fused m a z H l r f g
      fused {z} {g} given frame =
          let kept-l : kept_in m nl ≡ kept_by tl = sym (kept-tree m a H l ∙ ap (kept_of_node m) is-l) in
          let kept-r : kept_in m nr ≡ kept_by tr = sym (kept-tree m a H r ∙ ap (kept_of_node m) is-r) in
          let off : uses_all (grow (tree_at m d H) (l ∷ [])) r ≡ 0 = uses-d r ∙ omega (arith, once cs [] all-parts r, inside_one (length a) r, hit-here r) in
          let still = same-trees m d z H (l ∷ []) (λ q u. frame q (not_there (uses_all (grow (tree_at m d H) (l ∷ []))) r off q u)) in
          let one : (j : Key C) → grow (tree_at m b H) (l ∷ []) ≡ more (settled m H l j (children_of tl ⊕ children_of tr)) none =
          λ j. ap (λ t. more t none) (laid.tree j ∙ ap (settled m H l j) e) in
          record {
            tree = λ j. still ∙ both.trees ∙ (λ i. seated m H (kept-r i) (seated m H (kept-l i) (one j i)));
            spares = given ∙ ap (λ qs. r ∷ qs) free-same;
            framed = record {
              frame = λ q x y. frame q (λ v. let u = subst (λ p. uses tr p ≡ 0) v y in omega (arith, root-r)) ∙ frame-d q x y;
              within = λ q. omega (arith, ap (λ ts. uses_all ts q) still, uses-d q, spread cs [] all-parts q);
            };
          }
