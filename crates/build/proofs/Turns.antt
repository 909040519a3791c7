-- One parent more: what is laid and what is left.
use Rattle.std.proofs.Common.{◌≡◌, ℕ, zero, suc, ◌+◌, ◌-◌, ◌*◌, ◌<◌, ◌≤◌, List, [], ◌∷◌, length, None, sym, refl, ap, ◌∙◌, subst, arith}
use Rattle.std.specs.List.{slice_get}
use Rattle.kinds.specs.Meaning.{Meaning}
use Rattle.plain.specs.declared.point.Key.{Key}
use Rattle.trees.specs.Tree.{Tree, Forest, gone, leaf, fork, none, more, ◌⊕◌, grow, count, front, back, hit, uses_all}
use Rattle.trees.specs.Rules.{Level, LevelAll, DegreesAll}
use Rattle.trees.specs.Moves.{first_key, settled}
use Rattle.trees.proofs.Bares.{alike-uses, pull-bare}
use Rattle.trees.proofs.Forests.{uses-⊕, none-⊕, front-back, level-parts, degrees-parts}
use Rattle.built.specs.Build.{group, parents}
use Rattle.built.proofs.Groups.{group-fits}
use Rattle.built.proofs.Steps.{parents-turn}
use Rattle.table.specs.declared.children.Children.{Children}
use Rattle.table.specs.declared.node.Node.{Node}
use Rattle.table.specs.Kids.{kids_of}
use Rattle.table.specs.Spares.{row}
use Rattle.table.specs.Reading.{tree_at, inside, Sounds}
use Rattle.table.proofs.Frames.{hit-apart, grow-append, front-grow, back-grow, count-grow, same-trees}
use Rattle.table.proofs.Steps.{inside-lt, inside_one}
use Rattle.tree.specs.Forests.{Laid}
use Rattle.build.specs.Stages.{trees_in, level_over, Laying}
use Rattle.build.proofs.Rows.{length-row, take_row, drop-row, row_more, not-inside, inside-le, inside-more}

module _ {C W : Type 0} where
  tree-key : (t : Tree C W) (h : ℕ) → Level t h → Key C
  tree-key (gone p) h l = absurd l
  tree-key (leaf p x o) h l = x.key
  tree-key (fork p k o ts) h l = k

  -- a key, where there is a tree
  pub some_key : (ts : Forest C W) (h : ℕ) → LevelAll ts h → 1 ≤ count ts → Key C
  some_key none h l c = absurd (omega arith)
  some_key (more t ts) h l c = tree-key t h l.0

module _ {C W R : Type 0} (m : Meaning C W R) where
  pub count-trees : (ns : List (Node C R)) (h n p : ℕ) → count (trees_in m ns h n p) ≡ n
  count-trees ns h n p = count-grow (tree_at m ns h) (row n p) ∙ length-row n p

  -- a parent over the first trees, by what those and the rest are
  turned : (h p : ℕ) (k : Key C) (made ts fs bs : Forest C W) (n g : ℕ) → count ts ≡ n → g ≡ group n → front g ts ≡ fs → back g ts ≡ bs → 1 ≤ n
      → made ⊕ parents m n h p k ts ≡ (made ⊕ more (settled m (suc h) p k fs) none) ⊕ parents m (count bs) h (suc p) k bs
  turned h p k made ts fs bs n g c size ef eb some =
      let rest = back (group (count ts)) ts in
      let same : group (count ts) ≡ g = ap group c ∙ sym size in
      ap (λ j. made ⊕ parents m j h p k ts) (sym c)
      ∙ parents-turn m h p k made ts (omega arith)
      ∙ ap (λ us. (made ⊕ more (settled m (suc h) p k us) none) ⊕ parents m (count rest) h (suc p) k rest) (ap (λ j. front j ts) same ∙ ef)
      ∙ ap (λ us. (made ⊕ more (settled m (suc h) p k fs) none) ⊕ parents m (count us) h (suc p) k us) (ap (λ j. back j ts) same ∙ eb)

  -- ---- a level begins
  pub laying-starts : (b : List (Node C R)) (h first n : ℕ) → 2 ≤ n → 2 * (first + n) + n ≤ 2 * length b → Sounds (first + n) h (trees_in m b h n first)
      → Laying m b h (first + n) (level_over m b h n first) first n 0
  laying-starts b h first n some room s =
      let z : first + n + 0 ≡ first + n = omega arith in
      record {
        trees = λ k. ap (λ j. parents m n h j k (trees_in m b h n first)) z;
        level = s.level;
        degrees = s.degrees;
        apart = λ q. omega (arith, s.apart q, ap (λ j. inside j q) z);
        alone = λ e. omega arith;
        onward = refl;
        room = omega arith;
      }

  -- ---- a turn
  module _ (b : List (Node C R)) (h p : ℕ) (goal : Key C → Forest C W) (from left made : ℕ) (on : Laying m b h p goal from left made) (some : 0 < left) (g : ℕ) (size : g ≡ group left) where
    abbrev at : ℕ
    at = p + made

    abbrev fs : Forest C W
    fs = trees_in m b h g from

    abbrev bs : Forest C W
    bs = trees_in m b h (left - g) (from + g)

    abbrev ts : Forest C W
    ts = trees_in m b h left from

    -- the group has 2 to 4 trees, and leaves none or more than one
    pub group-size : (2 ≤ g) × (g ≤ 4) × (g ≤ left) × (suc g ≡ left → ⊥)
    group-size = subst (λ j. (2 ≤ j) × (j ≤ 4) × (j ≤ left) × (suc j ≡ left → ⊥)) (sym size) (group-fits left (two left some on.alone))
      where
        two : (n : ℕ) → 0 < n → (n ≡ 1 → ⊥) → 2 ≤ n
        two zero s a = absurd (omega arith)
        two (suc zero) s a = absurd (a refl)
        two (suc (suc n)) s a = omega arith

    ef : front g ts ≡ fs
    ef = front-grow (tree_at m b h) g (row left from) ∙ ap (grow (tree_at m b h)) (take_row g left from group-size.2)

    eb : back g ts ≡ bs
    eb = back-grow (tree_at m b h) g (row left from) ∙ ap (grow (tree_at m b h)) (drop-row g left from group-size.2)

    parted : fs ⊕ bs ≡ ts
    parted = ap (λ us. us ⊕ bs) (sym ef) ∙ ap (λ us. front g ts ⊕ us) (sym eb) ∙ front-back g ts

    in_parts : (q : ℕ) → uses_all ts q ≡ uses_all fs q + uses_all bs q
    in_parts q = ap (λ us. uses_all us q) (sym parted) ∙ uses-⊕ fs bs q

    pub group-within : at < length b
    group-within = omega (arith, on.room, group-size.0, group-size.2)

    pub group-apart : uses_all fs at ≡ 0
    group-apart = omega (arith, on.apart at, in_parts at, not-inside at at (omega arith))

    pub group-sounds : Sounds (length b) h fs
    group-sounds = record {
      level = (level-parts fs bs h (subst (λ us. LevelAll us h) (sym parted) on.level)).0;
      degrees = (degrees-parts fs bs 1 4 (subst (λ us. DegreesAll us 1 4) (sym parted) on.degrees)).0;
      apart = λ q. omega (arith, on.apart q, in_parts q, below-inside q);
    }
      where
        below-inside : (q : ℕ) → inside at q ≤ inside (length b) q
        below-inside q = inside-le at (length b) q (omega (arith, group-within))

    -- a parent of height H, its children at places in a row
    module _ (H : ℕ) (up : H ≡ suc h) (kids : Children) (are : kids_of kids ≡ row g from) where
      over : H - 1 ≡ h
      over = omega arith

      same-group : grow (tree_at m b (H - 1)) (kids_of kids) ≡ fs
      same-group = ap (λ j. grow (tree_at m b j) (kids_of kids)) over ∙ ap (grow (tree_at m b h)) are

      -- what is asked where the parent is laid
      pub turn-ready :
          record {
            within : at < length b;
            above : 0 < H;
            some : 0 < length (kids_of kids);
            sounds : Sounds (length b) (H - 1) (grow (tree_at m b (H - 1)) (kids_of kids));
            apart : uses_all (grow (tree_at m b (H - 1)) (kids_of kids)) at ≡ 0;
          }
      turn-ready = record {
        within = group-within;
        above = omega arith;
        some = omega (arith, ap length are, length-row g from, group-size.0);
        sounds = subst (λ us. Sounds (length b) (H - 1) us) (sym same-group) (subst (λ j. Sounds (length b) j fs) (sym over) group-sounds);
        apart = ap (λ us. uses_all us at) same-group ∙ group-apart;
      }

    -- the parent is laid
    module _ (c : List (Node C R)) (len : length c ≡ length b) (H : ℕ) (up : H ≡ suc h) (kids : Children) (are : kids_of kids ≡ row g from) (laid : Laid m b c H at (kids_of kids)) where
      tree : (k : Key C) → tree_at m c (suc h) at ≡ settled m (suc h) at k fs
      tree k = ap (λ j. tree_at m c j at) (sym up) ∙ laid.tree k ∙ ap (settled m H at k) (same-group H up kids are) ∙ ap (λ j. settled m j at k fs) up

      frame : (q : ℕ) → q < at → uses_all fs q ≡ 0 → slice_get c q ≡ slice_get b q
      frame q lt u = laid.frame q (hit-apart at q (λ e. omega arith)) (ap (λ us. uses_all us q) (same-group H up kids are) ∙ u)

      before : (q : ℕ) → 0 < inside at q → q < at
      before q i = inside-lt at q i

      -- those laid before stay, and so do those that are left
      made-same : trees_in m c (suc h) made p ≡ trees_in m b (suc h) made p
      made-same = same-trees m b c (suc h) (row made p) (λ q u. frame q (before q (omega (arith, on.apart q))) (omega (arith, on.apart q, in_parts q, inside_one at q)))

      left-same : trees_in m c h (left - g) (from + g) ≡ bs
      left-same = same-trees m b c h (row (left - g) (from + g)) (λ q u. frame q (before q (omega (arith, on.apart q, in_parts q))) (omega (arith, on.apart q, in_parts q, inside_one at q)))

      made_more : (k : Key C) → trees_in m c (suc h) (made + 1) p ≡ trees_in m b (suc h) made p ⊕ more (settled m (suc h) at k fs) none
      made_more k =
          ap (grow (tree_at m c (suc h))) (row_more made p)
          ∙ grow-append (tree_at m c (suc h)) (row made p) (at ∷ [])
          ∙ ap (λ us. us ⊕ more (tree_at m c (suc h) at) none) made-same
          ∙ ap (λ t. trees_in m b (suc h) made p ⊕ more t none) (tree k)

      next : suc at ≡ p + (made + 1)
      next = omega arith

      key : Key C
      key = some_key ts h on.level (omega (arith, count-trees b h left from))

      uses-more : (q : ℕ) → uses_all (trees_in m c (suc h) (made + 1) p) q ≡ uses_all (trees_in m b (suc h) made p) q + (hit at q + uses_all fs q)
      uses-more q =
          let t = fork at (first_key key fs) None fs in
          omega (arith, ap (λ us. uses_all us q) (made_more key), uses-⊕ (trees_in m b (suc h) made p) (more (settled m (suc h) at key fs) none) q, alike-uses (settled m (suc h) at key fs) t (pull-bare m (suc h) t) q)

      pub laying-turns : Laying m c h p goal (from + g) (left - g) (made + 1)
      laying-turns = record {
        trees = λ k.
            ap (λ us. us ⊕ parents m (left - g) h (p + (made + 1)) k (trees_in m c h (left - g) (from + g))) (made_more k)
            ∙ ap (λ us. (trees_in m b (suc h) made p ⊕ more (settled m (suc h) at k fs) none) ⊕ parents m (left - g) h (p + (made + 1)) k us) left-same
            ∙ ap (λ j. (trees_in m b (suc h) made p ⊕ more (settled m (suc h) at k fs) none) ⊕ parents m (left - g) h j k bs) (sym next)
            ∙ ap (λ j. (trees_in m b (suc h) made p ⊕ more (settled m (suc h) at k fs) none) ⊕ parents m j h (suc at) k bs) (sym (count-trees b h (left - g) (from + g)))
            ∙ sym (turned h at k (trees_in m b (suc h) made p) ts fs bs left g (count-trees b h left from) size ef eb (omega arith))
            ∙ on.trees k;
        level = subst (λ us. LevelAll us h) (sym left-same) (level-parts fs bs h (subst (λ us. LevelAll us h) (sym parted) on.level)).1;
        degrees = subst (λ us. DegreesAll us 1 4) (sym left-same) (degrees-parts fs bs 1 4 (subst (λ us. DegreesAll us 1 4) (sym parted) on.degrees)).1;
        apart = λ q. omega (arith, on.apart q, in_parts q, uses-more q, ap (λ us. uses_all us q) left-same, inside-more at q, ap (λ j. inside j q) next);
        alone = λ e. group-size.3 (omega arith);
        onward = omega (arith, on.onward, group-size.2);
        room = omega (arith, on.room, group-size.0, group-size.2);
      }

  -- ---- and ends
  pub laying-ends : (b : List (Node C R)) (h p : ℕ) (goal : Key C → Forest C W) (from left made : ℕ) → Laying m b h p goal from left made → left ≡ 0 → (k : Key C) → trees_in m b (suc h) made p ≡ goal k
  laying-ends b h p goal from left made on z k =
      sym (none-⊕ (trees_in m b (suc h) made p))
      ∙ ap (λ j. trees_in m b (suc h) made p ⊕ parents m j h (p + made) k (trees_in m b h left from)) (sym z)
      ∙ on.trees k
