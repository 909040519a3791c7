-- A point more in the whole tree: in the table, as in the tree.
use Rattle.std.proofs.Common.{◌≡◌, ℕ, suc, ◌+◌, ◌-◌, ◌<◌, ◌≤◌, leb, List, [], ◌∷◌, length, set, Some, Option, None, sym, refl, ap, ◌∙◌, subst, arith, length-set, le-leb}
use borrow.Author.Tests.{lt-leb}
use Rattle.std.specs.List.{AllByRecursion}
use Rattle.std.specs.Option.{option_to_list}
use Rattle.std.proofs.lemmas.Bool.{cond-true, cond-false}
use Rattle.kinds.specs.Meaning.{Meaning}
use Rattle.plain.specs.declared.point.Point.{Point}
use Rattle.trees.specs.Tree.{Tree, Forest, none, more, grow, hit, uses, uses_all, count}
use Rattle.trees.specs.Moves.{settled, seated, inserted, topped, with_point}
use Rattle.shapes.specs.Shape.{occurs, full, Grew}
use Rattle.shapes.proofs.Grows.{inserted-grew}
use Rattle.table.specs.declared.node.Node.{Node}
use Rattle.table.specs.declared.node.Stored.{Stored}
use Rattle.table.specs.declared.children.Children.{Children}
use Rattle.table.specs.declared.free.Free.{Free}
use Rattle.table.specs.Spares.{spares}
use Rattle.table.specs.Reading.{point_in, leaf_of, tree_at, inside, Sounds}
use Rattle.table.proofs.Frames.{nth-set-same, nth-set-other, hit-here}
use Rattle.table.proofs.Steps.{inside-lt, inside_one}
use Rattle.table.specs.Nodes.{bare, keeping}
use Rattle.tree.specs.Forests.{Laid, Seated}
use Rattle.tree.proofs.Spared.{spares-kept, all-inside}
use Rattle.grow.specs.Grown.{Ready, Inserted, most, half}
use Rattle.grow.specs.Planted.{Planted}
use Rattle.grow.proofs.Forked.{fine-sounds}
use Rattle.grow.proofs.Splits.{settled-uses, settled-level, settled-degrees}

-- ---- the first point
pub planted : {C W R : Type 0} (m : Meaning C W R) (a : List (Node C R)) (f g : Free) (x : Stored C R) (c : Children) {q : ℕ} → spares a f ≡ q ∷ spares a g → q < length a → ((z : ℕ) → occurs z (spares a f) ≤ 1)
    → Planted m a (set a q (keeping (bare x c) (Some x))) f g 0 none (point_in m x) 0 q
planted m a f g x c {q} took within apart =
    let n = keeping (bare x c) (Some x) in
    let e = ap (λ qs. with_point m most half 0 (point_in m x) qs none) took in
    record {
      forest = ap (λ t. more t none) (ap (leaf_of m q) (nth-set-same a q n within)) ∙ sym (ap (λ r. r.0) e);
      height = sym (ap (λ r. r.1) e);
      spare = spares-kept a (set a q n) g (length-set a q n) (λ z o. nth-set-other a q z n (λ w. clash z o w)) ∙ sym (ap (λ r. r.2) e);
    }
  where
    clash : (z : ℕ) → 0 < occurs z (spares a g) → z ≡ q → ⊥
    clash z o w = omega (arith, subst (λ y. 0 < occurs y (spares a g)) w o, subst (λ l. occurs q l ≤ 1) took (apart q), hit-here q)

-- ---- one more
module _ {C W R : Type 0} {m : Meaning C W R} {a : List (Node C R)} {f : Free} {h root : ℕ} (r : Ready m a f h root) (x : Point C W) where
  abbrev t : Tree C W
  t = tree_at m a h root

  abbrev us : Forest C W
  us = (inserted m most half h x (spares a f) t).0

  abbrev rs : List ℕ
  rs = (inserted m most half h x (spares a f) t).1

  grew : Grew 2 4 h (spares a f) t us rs
  grew = inserted-grew m 2 4 3 (omega arith) (omega arith) (omega arith) h x (spares a f) t r.level r.degrees r.keyed r.room

  each : (q : ℕ) → uses_all us q + occurs q rs ≤ inside (length a) q
  each q = omega (arith, grew.places q, r.apart q)

  module _ {b : List (Node C R)} {g : Free} {o : Option ℕ} (ins : Inserted m a b f g h root x o) (len : length b ≡ length a) where
    pub us-sound : Sounds (length b) h (grow (tree_at m b h) (root ∷ option_to_list o))
    us-sound = rw (ins.trees, len) (fine-sounds (length a) grew.fine (λ q. omega (arith, each q)))

    pub left_over : suc (suc (full (tree_at m a h root) most)) ≤ length (spares a f) → 0 < length (spares b g)
    left_over room = omega (arith, room, grew.free, grew.nodes, ap length ins.spare)

    pub spares-in : AllByRecursion (λ q. q < length b) (spares b g)
    spares-in = all-inside (length b) (spares b g) (λ q. subst (λ n. occurs q (spares b g) ≤ inside n q) (sym len) (subst (λ l. occurs q l ≤ inside (length a) q) (sym ins.spare) (omega (arith, each q))))

  -- the root was not split
  pub grown-one : {b d : List (Node C R)} {g : Free} → Inserted m a b f g h root x None → length d ≡ length b → Seated m b d h (root ∷ []) (Some x) → Planted m a d f g h (more t none) x h root
  grown-one {b} {d} {g} ins len' seat = record {
    forest = seat.trees ∙ ap (seated m h (Some x)) ins.trees ∙ sym (ap (λ p. p.0) (result rs));
    height = sym (ap (λ p. p.1) (result rs));
    spare = spares-kept b d g len' (λ q z. seat.frame q (ap (λ ts. uses_all ts q) ins.trees ∙ omega (arith, each q, inside_one (length a) q, subst (λ l. 0 < occurs q l) ins.spare z))) ∙ ins.spare ∙ sym (ap (λ p. p.2) (result rs));
  }
    where
      result : (qs : List ℕ) → topped m h x us qs ≡ (seated m h (Some x) us, h, qs)
      result [] = refl
      result (q ∷ qs) = cond-true (leb (count us) 1) _ _ (le-leb (count us) 1 (omega (arith, ap count ins.trees)))

  -- it was: a new root over the two
  module _ {b : List (Node C R)} {g : Free} {q : ℕ} (ins : Inserted m a b f g h root x (Some q)) (len : length b ≡ length a) (g' : Free) {next : ℕ} (took : spares b g ≡ next ∷ spares b g') where
    rest-is : rs ≡ next ∷ spares b g'
    rest-is = sym ins.spare ∙ took

    with-next : (z : ℕ) → uses_all us z + (hit next z + occurs z (spares b g')) ≤ inside (length a) z
    with-next z = subst (λ l. uses_all us z + occurs z l ≤ inside (length a) z) rest-is (each z)

    one : h + 1 - 1 ≡ h
    one = omega arith

    pub under_next : grow (tree_at m b (h + 1 - 1)) (root ∷ q ∷ []) ≡ us
    under_next = ap (λ j. grow (tree_at m b j) (root ∷ q ∷ [])) one ∙ ins.trees

    pub next-sound : Sounds (length b) (h + 1 - 1) (grow (tree_at m b (h + 1 - 1)) (root ∷ q ∷ []))
    next-sound = subst (λ j. Sounds (length b) j (grow (tree_at m b j) (root ∷ q ∷ []))) (sym one) (us-sound ins len)

    pub next-within : next < length b
    next-within = inside-lt (length b) next (subst (λ n. 0 < inside n next) (sym len) (omega (arith, with-next next, hit-here next)))

    pub next-off : uses_all (grow (tree_at m b (h + 1 - 1)) (root ∷ q ∷ [])) next ≡ 0
    next-off = ap (λ ts. uses_all ts next) under_next ∙ omega (arith, with-next next, inside_one (length a) next, hit-here next)

    module _ {d : List (Node C R)} (len' : length d ≡ length b) (laid : Laid m b d (h + 1) next (root ∷ q ∷ [])) where
      up : h + 1 ≡ suc h
      up = omega arith

      top : tree_at m d (h + 1) next ≡ settled m (suc h) next x.key us
      top = laid.tree x.key ∙ ap (settled m (h + 1) next x.key) under_next ∙ ap (λ j. settled m j next x.key us) up

      top-uses : (z : ℕ) → uses_all (grow (tree_at m d (h + 1)) (next ∷ [])) z ≡ hit next z + uses_all us z
      top-uses z = omega (arith, ap (λ u. uses u z) top, settled-uses m (suc h) next x.key us z)

      pub top_sound : Sounds (length d) (h + 1) (grow (tree_at m d (h + 1)) (next ∷ []))
      top_sound =
          let back : suc h - 1 ≡ h = omega arith in
          let below = subst (λ j. Sounds (length b) j us) (sym back) (subst (Sounds (length b) h) ins.trees (us-sound ins len)) in
          let two : count us ≡ 2 = sym (ap count ins.trees) in
          subst (λ u. Sounds (length d) (h + 1) (more u none)) (sym top)
          (subst (λ j. Sounds (length d) j (more (settled m (suc h) next x.key us) none)) (sym up)
          (record {
            level = (settled-level m (suc h) next x.key (length b) us (omega arith) below, tt);
            degrees = (settled-degrees m (suc h) next x.key (length b) us (omega arith) (omega arith) below, tt);
            apart = λ z. subst (λ n. uses (settled m (suc h) next x.key us) z + 0 ≤ inside n z) (sym (len' ∙ len)) (omega (arith, settled-uses m (suc h) next x.key us z, with-next z));
          }))

      pub grown-two : {c : List (Node C R)} → length c ≡ length d → Seated m d c (h + 1) (next ∷ []) (Some x) → Planted m a c f g' h (more t none) x (h + 1) next
      grown-two {c} len'' seat = record {
        forest = seat.trees ∙ ap (λ u. seated m (h + 1) (Some x) (more u none)) top ∙ ap (λ j. seated m j (Some x) (more (settled m (suc h) next x.key us) none)) up ∙ sym (ap (λ p. p.0) result);
        height = up ∙ sym (ap (λ p. p.1) result);
        spare =
            spares-kept d c g' len'' (λ z u. seat.frame z (top-uses z ∙ omega (arith, with-next z, inside_one (length a) z, subst (λ l. 0 < occurs z l) kept u)))
            ∙ kept ∙ sym (ap (λ p. p.2) result);
      }
        where
          kept : spares d g' ≡ spares b g'
          kept = spares-kept b d g' len' (λ z u. laid.frame z (omega (arith, with-next z, inside_one (length a) z)) (ap (λ ts. uses_all ts z) under_next ∙ omega (arith, with-next z, inside_one (length a) z)))

          result : topped m h x us rs ≡ (seated m (suc h) (Some x) (more (settled m (suc h) next x.key us) none), suc h, spares b g')
          result = ap (topped m h x us) rest-is ∙ cond-false (leb (count us) 1) _ _ (lt-leb (count us) 1 (omega (arith, ap count ins.trees)))
