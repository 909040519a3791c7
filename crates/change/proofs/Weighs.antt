-- A weight changed in the tree of a table: the three steps one after the other, and what stands then.
use Rattle.std.proofs.Common.{◌≡◌, ℕ, true, T, List, length, sym, ap, ◌∙◌, subst, arith}
use lib.ListN.{length-map}
use Rattle.kinds.specs.Meaning.{Meaning, First, Second}
use Rattle.plain.specs.declared.point.Key.{Key}
use Rattle.plain.specs.declared.point.Point.{Point}
use Rattle.plain.specs.Set.{reweigh, stands}
use Rattle.trees.specs.Tree.{Tree, none, more, uses, uses_all, points_all, size_all}
use Rattle.trees.specs.Moves.{with_weight}
use Rattle.trees.proofs.Bares.{bare, alike-uses, alike-level, alike-degrees, alike-keys_all}
use Rattle.shapes.specs.Shape.{occurs, Holds}
use Rattle.shapes.specs.Settles.{Whole}
use Rattle.shapes.proofs.Changes.{with-weight-bare, with-weight-changed, with-weight-whole}
use Rattle.table.specs.declared.node.Node.{Node}
use Rattle.table.specs.declared.header.Header.{Header}
use Rattle.table.specs.Spares.{spares}
use Rattle.table.specs.Reading.{tree_at, inside, Sound, Became}
use Rattle.table.proofs.Steps.{inside_one}
use Rattle.tree.specs.Standing.{forest_of, points_of, Standing, Ruled}
use Rattle.tree.proofs.Spared.{spares-kept}
use Rattle.change.specs.Weighed.{reweighed}
use Rattle.tree.proofs.Standings.{one-tree}

module _ {C W R : Type 0} (m : Meaning C W R) where
  -- ---- one step and then another, where the first leaves the nodes where they are
  module _ (a b : List (Node C R)) (h p : ℕ) (f : Tree C W → Tree C W) (like : (t : Tree C W) → bare (f t) ≡ bare t) (one : Became m a b h p (f (tree_at m a h p))) where
    pub sound-after : length b ≡ length a → Sound (length a) h (tree_at m a h p) → Sound (length b) h (tree_at m b h p)
    sound-after len s =
        let t = tree_at m a h p in
        subst (λ n. Sound n h (tree_at m b h p)) (sym len)
        (subst (Sound (length a) h) (sym one.tree)
        (record {
          level = alike-level (f t) t (like t) h s.level;
          degrees = alike-degrees (f t) t (like t) 1 4 s.degrees;
          apart = λ q. omega (arith, alike-uses (f t) t (like t) q, s.apart q);
        }))

    pub became-after : (c : List (Node C R)) (g : Tree C W → Tree C W) → Became m b c h p (g (tree_at m b h p)) → Became m a c h p (g (f (tree_at m a h p)))
    became-after c g two = record {
      tree = two.tree ∙ ap g one.tree;
      frame = λ q z. two.frame q (ap (λ v. uses v q) one.tree ∙ alike-uses (f (tree_at m a h p)) (tree_at m a h p) (like (tree_at m a h p)) q ∙ z) ∙ one.frame q z;
    }

  -- ---- the tree that stands
  module _ (a b : List (Node C R)) (hd : Header) (k : Key C) (w : W) (len : length b ≡ length a) (s : Standing m a hd) (pos : hd.count ≡ 0 → ⊥)
      (bec : Became m a b hd.top.height hd.top.root (reweighed m hd.top.height k w (tree_at m a hd.top.height hd.top.root))) where
    pub changed-forest : forest_of m b hd ≡ with_weight m hd.top.height k w (forest_of m a hd)
    changed-forest =
        one-tree m b hd pos
        ∙ ap (λ t. more t none) bec.tree
        ∙ ap (with_weight m hd.top.height k w) (sym (one-tree m a hd pos))

    -- no free place has changed
    changed-spares : spares b hd.free ≡ spares a hd.free
    changed-spares =
        spares-kept a b hd.free len
        (λ q o. bec.frame q (omega (arith, s.places q, inside_one (length a) q, ap (λ f. uses_all f q) (one-tree m a hd pos))))

    pub changed-standing : Standing m b hd
    changed-standing =
        let f = forest_of m a hd in
        let g = with_weight m hd.top.height k w f in
        let qs = spares a hd.free in
        let ch = with-weight-changed m hd.top.height k w qs f s.holds in
        let keys = ap length (alike-keys_all g f (with-weight-bare m hd.top.height k w f s.holds.one)) in
        let spare = ap length changed-spares in
        let size = ap size_all changed-forest in
        record {
          small = omega (arith, s.small);
          holds = subst (Holds hd.top.height) (sym changed-forest) ch.holds;
          places = λ q. omega (arith, s.places q, ch.places q, ap (λ v. uses_all v q) changed-forest, ap (occurs q) changed-spares, ap (λ n. inside n q) len);
          free = omega (arith, s.free, ch.free);
          counted = omega (arith, s.counted, ap (λ v. length (points_all v)) changed-forest, length-map (points_all g) (λ (x : Point C W). x.key), length-map (points_all f) (λ (x : Point C W). x.key));
        }

    pub changed-ruled : First m → Second m → Ruled m a hd → stands m k (points_of m a hd) ≡ true → T (m.fit k.at w) → Ruled m b hd × (points_of m b hd ≡ reweigh m k w (points_of m a hd))
    changed-ruled first second ruled on fit =
        let r = with-weight-whole m first second hd.top.height k w (forest_of m a hd) ruled on fit in
        (subst (Whole m hd.top.height) (sym changed-forest) r.0, ap points_all changed-forest ∙ r.1)
