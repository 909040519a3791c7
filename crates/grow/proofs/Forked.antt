-- A leaf more below a node: what the table holds once the child has grown.
use Rattle.std.proofs.Common.{◌≡◌, ℕ, zero, suc, ◌+◌, ◌<◌, ◌≤◌, Bool, cond, leb, List, [], ◌∷◌, ◌++◌, length, get_or, take, drop, set, Some, None, Option, unwrap_or, sym, refl, ap, ◌∙◌, subst, arith, length-append, length-set}
use borrow.Author.Tests.{le-true}
use Rattle.std.specs.List.{slice_get, AllByRecursion}
use Rattle.std.specs.Option.{option_to_list}
use Rattle.std.proofs.lemmas.Bool.{cond-true}
use Rattle.kinds.specs.Meaning.{Meaning}
use Rattle.plain.specs.declared.point.Point.{Point}
use Rattle.trees.specs.Tree.{Tree, Forest, fork, none, more, grow, hit, uses, uses_all, count, nth_tree, places_of, front, back, ◌⊕◌}
use Rattle.trees.specs.Rules.{Level, Degrees, Keyed, KeyedAll}
use Rattle.trees.specs.Moves.{exchange, first_key, inserted, divided}
use Rattle.trees.proofs.Forests.{uses-⊕}
use Rattle.shapes.specs.Shape.{occurs, full, full_all, Fine, Grew}
use Rattle.shapes.proofs.Forks.{fine-⊕, fine-left, fine-right}
use Rattle.shapes.proofs.Grows.{parted, inserted-grew}
use Rattle.table.specs.declared.node.Node.{Node}
use Rattle.table.specs.declared.children.Children.{Children}
use Rattle.table.specs.declared.free.Free.{Free}
use Rattle.table.specs.Kids.{kids_of}
use Rattle.table.specs.Spares.{spares}
use Rattle.table.specs.Reading.{kept_in, tree_at, inside, Sounds}
use Rattle.table.specs.Keys.{key_in}
use Rattle.table.proofs.Cases.{few}
use Rattle.table.proofs.Frames.{hit-here, nth-grow, count-grow, front-grow, back-grow, places-at, exchange-grow}
use Rattle.table.proofs.Steps.{inside_one, kids, kids-within, below, fork-was, fork-now, other, level-nth, degrees-nth, uses-nth}
use Rattle.tree.proofs.Picks.{key-tree, pick-tree}
use Rattle.tree.specs.Places.{key_of_node, pick_at}
use Rattle.tree.proofs.Spared.{spares-kept, all-inside}
use Rattle.grow.specs.Grown.{Ready, Inserted, most, half}
use Rattle.table.specs.Nodes.{over}
use Rattle.tree.proofs.Degrees.{all-degrees-weaker}
use Rattle.grow.proofs.Readies.{ready-sound, root-within}

module _ {C W : Type 0} where
  pub keyed-nth : (ts : Forest C W) (i : ℕ) → KeyedAll ts → i < count ts → Keyed (nth_tree i ts)
  keyed-nth none i k lt = absurd (omega arith)
  keyed-nth (more t ts) zero k lt = k.0
  keyed-nth (more t ts) (suc i) k lt = keyed-nth ts i k.1 (omega arith)

  full-nth : (ts : Forest C W) (b i : ℕ) → i < count ts → full (nth_tree i ts) b ≤ full_all ts b
  full-nth none b i lt = absurd (omega arith)
  full-nth (more t ts) b zero lt = omega arith
  full-nth (more t ts) b (suc i) lt = omega (arith, full-nth ts b i (omega arith))

-- fine trees whose places are apart are sound
pub fine-sounds : {C W : Type 0} (n : ℕ) {h : ℕ} {ts : Forest C W} → Fine 2 4 h ts → ((q : ℕ) → uses_all ts q ≤ inside n q) → Sounds n h ts
fine-sounds n {h} {ts} f a = record { level = f.level; degrees = all-degrees-weaker ts 2 1 4 (omega arith) f.degrees; apart = a }

module _ {C W R : Type 0} {m : Meaning C W R} {a : List (Node C R)} {f : Free} where
  module _ {h at : ℕ} (r : Ready m a f (suc h) at) {n : Node C R} (is : slice_get a at ≡ Some n) where
    abbrev qs : List ℕ
    qs = spares a f

    abbrev ks : List ℕ
    ks = kids m n

    abbrev ts : Forest C W
    ts = below m a h n

    pub was : tree_at m a (suc h) at ≡ fork at (key_in n.own) (kept_in m n) ts
    was = fork-was m a h at n is

    pub degrees-was : Degrees (fork at (key_in n.own) (kept_in m n) ts) 2 most
    degrees-was = subst (λ t. Degrees t 2 most) was r.degrees

    keyed-was : Keyed (fork at (key_in n.own) (kept_in m n) ts)
    keyed-was = subst Keyed was r.keyed

    pub fine-was : Fine 2 4 h ts
    fine-was = record { level = subst (λ t. Level t (suc h)) was r.level; degrees = degrees-was.2; keyed = keyed-was.1 }

    pub apart-was : (q : ℕ) → hit at q + uses_all ts q + occurs q qs ≤ inside (length a) q
    apart-was q = omega (arith, subst (λ t. uses t q + occurs q qs ≤ inside (length a) q) was (r.apart q))

    module _ (i : ℕ) (lt : i < length ks) where
      abbrev c : ℕ
      c = get_or ks i 0

      abbrev branch : Tree C W
      branch = tree_at m a h c

      inner : i < count ts
      inner = omega (arith, count-grow (tree_at m a h) ks)

      child-is : nth_tree i ts ≡ branch
      child-is = nth-grow (tree_at m a h) i ks lt

      pub child-ready : Ready m a f h c
      child-ready = record {
        small = r.small;
        level = subst (λ t. Level t h) child-is (level-nth ts h i fine-was.level inner);
        degrees = subst (λ t. Degrees t 2 most) child-is (degrees-nth ts 2 most i fine-was.degrees inner);
        keyed = subst Keyed child-is (keyed-nth ts i fine-was.keyed inner);
        apart = λ q. omega (arith, apart-was q, subst (λ t. uses t q ≤ uses_all ts q) child-is (uses-nth ts i q inner));
        room = omega (arith, subst (λ t. suc (full t most) ≤ length qs) was r.room, subst (λ t. full t most ≤ full_all ts most) child-is (full-nth ts most i inner));
      }

      -- the first child stays the first, so that a node over these places can be written
      pub first-within : (qs : List ℕ) (k : Children) → kids_of k ≡ take i ks ++ ((c ∷ qs) ++ drop (i + 1) ks) → get_or (kids_of k) 0 0 < length a
      first-within qs k e = rw e (go i ks lt (kids-within m a h at n is (ready-sound r)))
        where
          go : (i : ℕ) (ks : List ℕ) → i < length ks → AllByRecursion (λ q. q < length a) ks → get_or (take i ks ++ ((get_or ks i 0 ∷ qs) ++ drop (i + 1) ks)) 0 0 < length a
          go i [] lt w = absurd (omega arith)
          go zero (k ∷ ks) lt w = w.0
          go (suc i) (k ∷ ks) lt w = w.0

      module _ (x : Point C W) where
        abbrev pub grown : Forest C W × List ℕ
        grown = inserted m most half h x qs branch

        abbrev pub grown_forest : Forest C W
        grown_forest = exchange i 1 grown.0 ts

        pub grew : Grew 2 4 h qs branch grown.0 grown.1
        grew = inserted-grew m 2 4 3 (omega arith) (omega arith) (omega arith) h x qs branch child-ready.level child-ready.degrees child-ready.keyed child-ready.room

        parts : front i ts ⊕ more branch (back (i + 1) ts) ≡ ts
        parts = ap (λ t. front i ts ⊕ more t (back (i + 1) ts)) (sym child-is) ∙ parted i ts inner

        uses-parts : (q : ℕ) → uses_all ts q ≡ uses_all (front i ts) q + (uses branch q + uses_all (back (i + 1) ts) q)
        uses-parts q = sym (ap (λ us. uses_all us q) parts) ∙ uses-⊕ (front i ts) (more branch (back (i + 1) ts)) q

        uses-grown_forest : (q : ℕ) → uses_all grown_forest q ≡ uses_all (front i ts) q + (uses_all grown.0 q + uses_all (back (i + 1) ts) q)
        uses-grown_forest q = uses-⊕ (front i ts) (grown.0 ⊕ back (i + 1) ts) q ∙ ap (λ k. uses_all (front i ts) q + k) (uses-⊕ grown.0 (back (i + 1) ts) q)

        -- no place is lost
        pub uses-now : (q : ℕ) → uses_all grown_forest q + occurs q grown.1 ≡ uses_all ts q + occurs q qs
        uses-now q = omega (arith, uses-grown_forest q, uses-parts q, grew.places q)

        pub fine-now : Fine 2 4 h grown_forest
        fine-now =
            let f = subst (Fine 2 4 h) (sym parts) fine-was in
            let right = fine-right 2 4 h (more branch none) (back (i + 1) ts) (fine-right 2 4 h (front i ts) (more branch (back (i + 1) ts)) f) in
            fine-⊕ 2 4 h (front i ts) (grown.0 ⊕ back (i + 1) ts) (fine-left 2 4 h (front i ts) (more branch (back (i + 1) ts)) f) (fine-⊕ 2 4 h grown.0 (back (i + 1) ts) grew.fine right)

        pub apart-now : (q : ℕ) → hit at q + uses_all grown_forest q + occurs q grown.1 ≤ inside (length a) q
        apart-now q = omega (arith, uses-now q, apart-was q)

        -- in the table
        module _ {b : List (Node C R)} {g : Free} {o : Option ℕ} (ins : Inserted m a b f g h c x o) (len : length b ≡ length a) where
          places : places_of grown.0 ≡ c ∷ option_to_list o
          places = sym (ap places_of ins.trees) ∙ places-at m b h (c ∷ option_to_list o)

          pub trees-now : grow (tree_at m b h) (take i ks ++ ((c ∷ option_to_list o) ++ drop (i + 1) ks)) ≡ grown_forest
          trees-now =
              ap (λ ps. grow (tree_at m b h) (take i ks ++ (ps ++ drop (i + 1) ks))) (sym places)
              ∙ exchange-grow m a b h ks i 1 grown.0 (ap (grow (tree_at m b h)) places ∙ ins.trees)
              (λ q u. let v : 0 < uses_all (front i ts) q = subst (λ us. 0 < uses_all us q) (sym (front-grow (tree_at m a h) i ks)) u in ins.frame q (omega (arith, apart-was q, inside_one (length a) q, uses-parts q)) (omega (arith, apart-now q, inside_one (length a) q, uses-grown_forest q)))
              (λ q u. let v : 0 < uses_all (back (i + 1) ts) q = subst (λ us. 0 < uses_all us q) (sym (back-grow (tree_at m a h) (i + 1) ks)) u in ins.frame q (omega (arith, apart-was q, inside_one (length a) q, uses-parts q)) (omega (arith, apart-now q, inside_one (length a) q, uses-grown_forest q)))

          -- what neither the tree nor the new trees use is unchanged
          pub frame-now : (q : ℕ) → uses_all ts q ≡ 0 → uses_all grown_forest q ≡ 0 → slice_get b q ≡ slice_get a q
          frame-now q u v = ins.frame q (omega (arith, uses-parts q)) (omega (arith, uses-grown_forest q))

          -- by the definition
          pub inserted-is : i ≡ pick_at m a x.key ks → inserted m most half (suc h) x qs (tree_at m a (suc h) at) ≡ divided m most half (suc h) at (key_in n.own) (kept_in m n) grown_forest grown.1
          inserted-is picked =
              let e = picked ∙ sym (pick-tree m a h x.key ks) in
              ap (inserted m most half (suc h) x qs) was
              ∙ ap (λ j. divided m most half (suc h) at (key_in n.own) (kept_in m n) (exchange j 1 (inserted m most half h x qs (nth_tree j ts)).0 ts) (inserted m most half h x qs (nth_tree j ts)).1) (sym e)
              ∙ ap (λ t. divided m most half (suc h) at (key_in n.own) (kept_in m n) (exchange i 1 (inserted m most half h x qs t).0 ts) (inserted m most half h x qs t).1) child-is

          -- ---- the node has room
          pub fits : (k : Children) (first : Node C R) → kids_of k ≡ take i ks ++ ((c ∷ option_to_list o) ++ drop (i + 1) ks) → slice_get b (get_or (kids_of k) 0 0) ≡ Some first → i ≡ pick_at m a x.key ks
              → Inserted m a (set b at (over n first.own k)) f g (suc h) at x None
          fits k first kids-are first-is picked =
              let e = inserted-is picked ∙ whole grown.1 in
              let d = set b at (over n first.own k) in
              let within : at < length b = omega (arith, root-within r) in
              let u : grow (tree_at m b h) (kids_of k) ≡ grown_forest = ap (grow (tree_at m b h)) kids-are ∙ trees-now in
              let off : uses_all (grow (tree_at m b h) (kids_of k)) at ≡ 0 = ap (λ us. uses_all us at) u ∙ omega (arith, apart-now at, inside_one (length a) at, hit-here at) in
              record {
                trees = ap (λ t. more t none) (fork-now m b h at (over n first.own k) within (kids_of k) refl off ∙ ap (λ us. fork at (key_in first.own) (kept_in m n) us) u ∙ ap (λ j. fork at j (kept_in m n) grown_forest) (sym first_key_lem)) ∙ sym (ap (λ p. p.0) e);
                spare = spares-kept b d g (length-set b at (over n first.own k)) (λ q z. other m b h at (over n first.own k) within q (omega (arith, apart-now q, inside_one (length a) q, subst (λ l. 0 < occurs q l) ins.spare z))) ∙ ins.spare ∙ sym (ap (λ p. p.1) e);
                frame = λ q y z.
                    let w : hit at q + uses_all ts q ≡ 0 = sym (ap (λ t. uses t q) was) ∙ y in
                    let v : hit at q + uses_all grown_forest q + 0 ≡ 0 = sym (ap (λ p. uses_all p.0 q) e) ∙ z in
                    other m b h at (over n first.own k) within q (omega arith) ∙ frame-now q (omega arith) (omega arith);
              }
            where
              counted : count grown_forest ≤ most
              counted = omega (arith, few k, count-grow (tree_at m b h) (kids_of k), ap count (ap (grow (tree_at m b h)) kids-are ∙ trees-now))

              whole : (rs : List ℕ) → divided m most half (suc h) at (key_in n.own) (kept_in m n) grown_forest rs ≡ (more (fork at (first_key (key_in n.own) grown_forest) (kept_in m n) grown_forest) none, rs)
              whole [] = refl
              whole (q ∷ rs) = cond-true (leb (count grown_forest) most) _ _ (sym (le-true (count grown_forest) most counted))

              first_key_lem : first_key (key_in n.own) grown_forest ≡ key_in first.own
              first_key_lem = sym (ap (first_key (key_in n.own)) (ap (grow (tree_at m b h)) kids-are ∙ trees-now)) ∙ go (kids_of k) (omega (arith, length-append (take i ks) ((c ∷ option_to_list o) ++ drop (i + 1) ks), ap length kids-are)) first-is
                where
                  go : (ps : List ℕ) → 0 < length ps → slice_get b (get_or ps 0 0) ≡ Some first → first_key (key_in n.own) (grow (tree_at m b h) ps) ≡ key_in first.own
                  go [] z w = absurd (omega arith)
                  go (p ∷ ps) z w = ap (λ y. unwrap_or y (key_in n.own)) (key-tree m b h p ∙ ap key_of_node w)

          -- ---- the node is full, so that a place is left for its other half
          pub spare-left : length ks ≡ most → 0 < length (spares b g)
          spare-left four =
              let has : suc (cond (leb most (count ts)) 1 0 + full_all ts most) ≤ length qs = subst (λ t. suc (full t most) ≤ length qs) was r.room in
              let yes : ◌≡◌ {A = ℕ} (cond (leb most (count ts)) 1 0) 1 = ap (λ (d : Bool). cond {A = ℕ} d 1 0) (sym (le-true most (count ts) (omega (arith, count-grow (tree_at m a h) ks)))) in
              let part = subst (λ t. full t most ≤ full_all ts most) child-is (full-nth ts most i inner) in
              omega (arith, has, yes, part, ap length ins.spare, grew.free, grew.nodes)

          pub spares-in : AllByRecursion (λ q. q < length b) (spares b g)
          spares-in = all-inside (length b) (spares b g) (λ q. subst (λ k. occurs q (spares b g) ≤ inside k q) (sym len) (subst (λ l. occurs q l ≤ inside (length a) q) (sym ins.spare) (omega (arith, apart-now q))))
