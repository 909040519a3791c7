-- The whole tree without a key: in the table, as in the tree.
use Rattle.std.proofs.Common.{◌≡◌, ℕ, suc, ◌+◌, ◌-◌, ◌<◌, ◌≤◌, true, eqb, List, ◌∷◌, length, sym, refl, ap, ◌∙◌, subst, arith, length-append, pow_pos, eq-eqb, ne_eqb}
use Rattle.std.proofs.lemmas.Bool.{cond-true, cond-false}
use Rattle.kinds.specs.Meaning.{Meaning, First, Second}
use Rattle.plain.specs.declared.point.Key.{Key}
use Rattle.plain.specs.Set.{stands, remove}
use Rattle.trees.specs.Tree.{Tree, Forest, none, more, count, place_of, points, points_all, hit, uses, uses_all, size, size_all}
use Rattle.trees.specs.Rules.{Level, Degrees, Keyed}
use Rattle.trees.specs.Kept.{take_out}
use Rattle.trees.specs.Moves.{removed, lowered, without_key}
use Rattle.trees.proofs.Bares.{bare, alike-level, alike-degrees, alike-keyed, alike-uses, alike_size, take_bare}
use Rattle.shapes.specs.Shape.{occurs, Holds, Changed, Shrunk}
use Rattle.shapes.specs.Settles.{Whole}
use Rattle.shapes.proofs.Counts.{points-least}
use Rattle.shapes.proofs.Drops.{without-key-whole}
use Rattle.shapes.proofs.Shrinks.{without-key-changed}
use Rattle.table.specs.declared.node.Node.{Node}
use Rattle.table.specs.declared.free.Free.{Free}
use Rattle.table.specs.declared.header.Header.{Header}
use Rattle.table.specs.declared.subtree.Subtree.{Subtree}
use Rattle.table.specs.Spares.{spares}
use Rattle.table.specs.Reading.{tree_at, inside, Sound, Became}
use Rattle.table.proofs.Frames.{hit-here, place_at}
use Rattle.table.proofs.Steps.{inside_one, sound-within}
use Rattle.tree.specs.Standing.{forest_of, points_of, Standing, Ruled}
use Rattle.tree.proofs.Spared.{spares-kept}
use Rattle.shrink.specs.Removes.{Ready, Removed}
use Rattle.shrink.specs.Lowers.{Lowerable, Lowered}
use Rattle.shrink.proofs.Basics.{Givable, givable, uses-children}
use Rattle.shrink.proofs.Removes.{looser, loose-root, size-some, root-degrees, cut-shrunk}

-- a tree has points
some-points : {C W : Type 0} (h : ℕ) (f : Forest C W) → Holds h f → 1 ≤ count f → 0 < length (points_all f)
some-points h none w n = absurd (omega arith)
some-points h (more t ts) w n = omega (arith, length-append (points t) (points_all ts), points-least 4 t h w.fine.level.0 w.fine.degrees.0, pow_pos h)

module _ {C W R : Type 0} {m : Meaning C W R} {a : List (Node C R)} {hd : Header} (st : Standing m a hd) (some : 0 < hd.count) (k : Key C) where
  -- the parts of the header, the tree and the free places
  abbrev tall : ℕ
  tall = hd.top.height

  abbrev p : ℕ
  p = hd.top.root

  abbrev f : Free
  f = hd.free

  abbrev t : Tree C W
  t = tree_at m a tall p

  abbrev qs : List ℕ
  qs = spares a f

  one : forest_of m a hd ≡ more t none
  one = cond-false (eqb hd.count 0) none (more t none) (ne_eqb hd.count 0 (λ z. omega arith))

  holds : Holds tall (more t none)
  holds = subst (Holds tall) one st.holds

  places : (q : ℕ) → uses t q + occurs q qs ≡ inside (length a) q
  places q = omega (arith, st.places q, ap (λ v. uses_all v q) one)

  free : size t + length qs ≡ length a
  free = omega (arith, st.free, ap size_all one)

  pub root-sound : Sound (length a) tall t
  root-sound = record { level = holds.fine.level.0; degrees = looser t holds.fine.degrees.0; apart = λ q. omega (arith, places q) }

  -- ---- what the tree without the key gives
  -- the forest, its height and the free places
  abbrev result : Forest C W × ℕ × List ℕ
  result = without_key m 2 4 tall k qs (forest_of m a hd)

  changed : Changed (forest_of m a hd) qs result.0 result.1 result.2 × (suc (length (points_all result.0)) ≡ length (points_all (forest_of m a hd)))
  changed = without-key-changed m tall k qs (forest_of m a hd) st.holds (ap count one)

  -- the table b, a tree and the free places hold just that
  pub record Left (b : List (Node C R)) (top : Subtree) (g : Free) : Type 0 where
    pub same : length b ≡ length a
    pub forest : forest_of m b (record { top = top; count = hd.count - 1; free = g }) ≡ result.0
    pub height : top.height ≡ result.1
    pub spares : spares b g ≡ result.2

  module _ {b : List (Node C R)} {top : Subtree} {g : Free} (e : Left b top g) where
    -- the header after
    abbrev new : Header
    new = record { top = top; count = hd.count - 1; free = g }

    pub stands-again : Standing m b new
    stands-again = record {
      small = omega (arith, st.small, e.same);
      holds = subst (Holds top.height) (sym e.forest) (subst (λ x. Holds x result.0) (sym e.height) changed.0.holds);
      places = λ q. omega (arith, ap (λ v. uses_all v q) e.forest, ap (occurs q) e.spares, changed.0.places q, st.places q, ap (λ x. inside x q) e.same);
      free = omega (arith, ap size_all e.forest, ap length e.spares, changed.0.free, st.free, e.same);
      counted = omega (arith, st.counted, changed.1, ap (λ v. length (points_all v)) e.forest);
    }

    pub ruled-again : First m → Second m → Ruled m a hd → stands m k (points_of m a hd) ≡ true → Ruled m b new × (points_of m b new ≡ remove m k (points_of m a hd))
    ruled-again first second r on =
        let w = without-key-whole m first second tall k qs (forest_of m a hd) r on in
        (subst (Whole m top.height) (sym e.forest) (subst (λ x. Whole m x result.0) (sym e.height) w.0), ap points_all e.forest ∙ w.1)

  -- ---- the point is not kept any more, in the table b
  module _ {b : List (Node C R)} (len : length b ≡ length a) (bec : Became m a b tall p (take_out m tall k t)) where
    -- the tree that keeps the point no more
    abbrev taken : Tree C W
    taken = take_out m tall k t

    like : bare taken ≡ bare t
    like = take_bare m tall k t

    free-same : spares b f ≡ qs
    free-same = spares-kept a b f len (λ q u. bec.frame q (omega (arith, places q, inside_one (length a) q)))

    pub root-givable : Givable b f p
    root-givable = givable b f p qs (omega (arith, sound-within m a tall p root-sound)) free-same (omega (arith, places p, uses-children t p, ap (λ x. hit x p) (place_at m a tall p), hit-here p, inside_one (length a) p)) (omega (arith, free, st.small))

    -- the tree was a leaf, which goes
    module _ (z : tall ≡ 0) where
      none_left : result ≡ (none, 0, p ∷ qs)
      none_left =
          ap (without_key m 2 4 tall k qs) one
          ∙ subst (λ x. without_key m 2 4 x k qs (more t none) ≡ (none, 0, place_of t ∷ qs)) (sym z) refl
          ∙ ap (λ (x : ℕ). (none, 0, x ∷ qs)) (place_at m a tall p)

      pub leaf-left : {c : List (Node C R)} → length c ≡ length b → {g : Free} → spares c g ≡ p ∷ spares b f → Left c hd.top g
      leaf-left {c} len-c {g} given =
          let e : hd.count - 1 ≡ 0 = omega (arith, st.counted, changed.1, ap (λ v. length (points_all v.0)) none_left) in
          record {
            same = len-c ∙ len;
            forest = cond-true (eqb (hd.count - 1) 0) none (more (tree_at m c tall p) none) (eq-eqb (hd.count - 1) 0 e) ∙ sym (ap (λ v. v.0) none_left);
            height = z ∙ sym (ap (λ v. v.1) none_left);
            spares = given ∙ ap (λ rs. p ∷ rs) free-same ∙ sym (ap (λ v. v.2) none_left);
          }

    -- the tree is above leaves, of which one goes
    module _ (pos : tall ≡ 0 → ⊥) where
      up : tall ≡ suc (tall - 1)
      up = omega arith

      level : Level taken tall
      level = alike-level taken t like tall holds.fine.level.0

      degrees : Degrees taken 2 4
      degrees = alike-degrees taken t like 2 4 holds.fine.degrees.0

      keyed : Keyed taken
      keyed = alike-keyed taken t like holds.fine.keyed.0

      pub ready : Ready m b f tall p
      ready = record {
        above = omega arith;
        level = subst (λ u. Level u tall) (sym bec.tree) level;
        degrees = subst (λ u. Degrees u 2 4) (sym bec.tree) degrees;
        keyed = subst Keyed (sym bec.tree) keyed;
        apart = λ q. omega (arith, ap (λ u. uses u q) bec.tree, alike-uses taken t like q, ap (occurs q) free-same, places q, ap (λ x. inside x q) len);
        room = omega (arith, ap size bec.tree, alike_size taken t like, ap length free-same, free, st.small);
      }

      -- that tree without the leaf, and the free places
      abbrev cut : Tree C W × List ℕ
      cut = removed m 2 4 tall k qs taken

      shrunk : Shrunk 2 4 tall qs taken cut.0 cut.1
      shrunk = cut-shrunk m tall (omega arith) k qs taken level degrees keyed

      module _ {c : List (Node C R)} (len-c : length c ≡ length b) {g : Free} (rem : Removed m b c f g tall p k) where
        made : removed m 2 4 tall k (spares b f) (tree_at m b tall p) ≡ cut
        made = λ i. removed m 2 4 tall k (free-same i) (bec.tree i)

        tree-now : tree_at m c tall p ≡ cut.0
        tree-now = rem.tree ∙ ap (λ v. v.0) made

        spares-now : spares c g ≡ cut.1
        spares-now = rem.spares ∙ ap (λ v. v.1) made

        pub lowerable : Lowerable m c g tall p
        lowerable =
            let d = root-degrees m tall (omega arith) taken level degrees in
            let s = shrunk in
            let n : length c ≡ length a = len-c ∙ len in
            record {
              above = omega arith;
              sound = subst (Sound (length c) tall) (sym tree-now) (record {
                level = s.level;
                degrees = loose-root cut.0 (omega (arith, s.least, d.0)) (omega (arith, s.most, d.1)) s.degrees;
                apart = λ q. omega (arith, s.places q, alike-uses taken t like q, places q, ap (λ x. inside x q) n);
              });
              apart = λ q. omega (arith, ap (λ u. uses u q) tree-now, ap (occurs q) spares-now, s.places q, alike-uses taken t like q, places q, ap (λ x. inside x q) n);
              room = omega (arith, ap length spares-now, s.free, alike_size taken t like, size-some cut.0, free, st.small);
            }

        module _ {d : List (Node C R)} (len-d : length d ≡ length c) {g' : Free} {top : Subtree} (low : Lowered m c d g g' tall p top.height top.root) where
          lowered_is : lowered m tall (tree_at m c tall p) (spares c g) ≡ result
          lowered_is =
              (λ v. lowered m tall (tree-now v) (spares-now v))
              ∙ sym (ap (without_key m 2 4 tall k qs) one
              ∙ subst (λ x. without_key m 2 4 x k qs (more t none) ≡ lowered m x (removed m 2 4 x k qs (take_out m x k t)).0 (removed m 2 4 x k qs (take_out m x k t)).1) (sym up) refl)

          pub fork-left : Left d top g'
          fork-left =
              let e : more (tree_at m d top.height top.root) none ≡ result.0 = low.forest ∙ ap (λ v. v.0) lowered_is in
              let n = some-points result.1 result.0 changed.0.holds (subst (λ v. 1 ≤ count v) e (omega arith)) in
              record {
                same = len-d ∙ len-c ∙ len;
                forest = cond-false (eqb (hd.count - 1) 0) none (more (tree_at m d top.height top.root) none) (ne_eqb (hd.count - 1) 0 (λ z. omega (arith, st.counted, changed.1))) ∙ e;
                height = low.height ∙ ap (λ v. v.1) lowered_is;
                spares = low.spares ∙ ap (λ v. v.2) lowered_is;
              }
