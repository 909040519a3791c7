-- How many nodes the range walk visits in a tree, by what lies on either side of the window.
use Rattle.std.proofs.Common.{◌≡◌, ℕ, zero, suc, ◌+◌, ◌*◌, ◌≤◌, ◌&&◌, List, ◌++◌, length, Some, None, ap, ◌∙◌, ⊎_elim, mul-suc, mul-add, arith, length-append}
use Rattle.std.proofs.lemmas.Grind.{flat_map-append}
use Rattle.std.specs.List.{flat_map}
use Rattle.std.proofs.lemmas.List.Elements.{filter-append}
use Rattle.kinds.specs.Meaning.{Meaning, First}
use Rattle.plain.specs.Windows.{inside, reaches, matches}
use Rattle.trees.specs.Tree.{Tree, Forest, gone, leaf, fork, none, more, points, points_all}
use Rattle.trees.specs.Rules.{Level, LevelAll, Degrees, DegreesAll}
use Rattle.walked.specs.Walk.{kept_at, opens, open_of, leads_on, walk_all, visits, ranged}
use Rattle.walked.proofs.Parts.{by-test}
use Rattle.walked.proofs.Uptos.{Unfalling, unfalling-parts}
use Rattle.walked.proofs.Marks.{Marked, MarkedAll}
use Rattle.walked.proofs.Opens.{Shut, open-most}
use Rattle.walked.proofs.Homes.{Placed, PlacedAll}
use Rattle.walked.proofs.Edges.{early, late, early-add, early-left, early-right, late-add, late-left, late-right, outside, pays}

module _ {C W R : Type 0} (m : Meaning C W R) (l u : C) (w : W) where
  -- how many of the points kept at some nodes match
  abbrev hits : List (Tree C W) → ℕ
  hits vs = length (matches m l u w (flat_map kept_at vs))

  hits_join : (vs ws : List (Tree C W)) → hits (vs ++ ws) ≡ hits vs + hits ws
  hits_join vs ws =
      ap (λ z. length (matches m l u w z)) (flat_map-append kept_at vs ws)
      ∙ ap length (filter-append (λ p. inside m l u p.key.at && reaches m p.weight w) (flat_map kept_at vs) (flat_map kept_at ws))
      ∙ length-append (matches m l u w (flat_map kept_at vs)) (matches m l u w (flat_map kept_at ws))

  module _ (first : First m) (a b : ℕ) where
    mutual
      pub visits-tree : (t : Tree C W) (h : ℕ) → Level t h → Unfalling m (points t) → Degrees t a b → Marked t → Placed m t
          → length (visits m l u w t) ≤ early m l (b * h) (points t) + late m u (b * h) (points t) + b * length (ranged m l u w t) + 1
      visits-tree (gone p) h lv up de ma pl = absurd ma
      visits-tree (leaf p x o) h lv up de ma pl = omega arith
      visits-tree (fork p k None ts) h lv up de ma pl = omega arith
      visits-tree (fork p k (Some q) ts) zero lv up de ma pl = absurd lv
      visits-tree (fork p k (Some q) ts) (suc h) lv up (lo, hi, de) (ma, mas) ((i, _), pl) =
          let ps = points_all ts in
          let vs = walk_all m (leads_on m w) l u ts in
          let below = visits-forest ts h lv up de mas pl in
          let opened = open-most m l u ts in
          let e = early-add m l (b * h) b (b * suc h) (mul-suc b h) ps in
          let f = late-add m u (b * h) b (b * suc h) (mul-suc b h) ps in
          by-test (reaches m q.weight w)
          (λ s. by-test (inside m l u q.key.at)
          (λ i. rw (s, i) (omega (arith, below, opened, e, f, mul-suc b (hits vs))))
          (λ o. rw (s, o) (omega (arith, below, opened, e, f, outside m l u q ps i o b))))
          (λ s. rw s (omega arith))

      visits-forest : (ts : Forest C W) (h : ℕ) → LevelAll ts h → Unfalling m (points_all ts) → DegreesAll ts a b → MarkedAll ts → PlacedAll m ts
          → length (walk_all m (leads_on m w) l u ts) ≤ early m l (b * h) (points_all ts) + late m u (b * h) (points_all ts) + b * hits (walk_all m (leads_on m w) l u ts) + length (open_of m l u ts)
      visits-forest none h lv up de ma pl = omega arith
      visits-forest (more t ts) h (lv, lvs) up (de, des) (ma, mas) (pl, pls) =
          let ps = points t in
          let qs = points_all ts in
          let (x, y, z) = unfalling-parts m ps qs up in
          let first_part = visits-tree t h lv x de ma pl in
          let rest = visits-forest ts h lvs y des mas pls in
          let v = visits m l u w t in
          let vs = walk_all m (leads_on m w) l u ts in
          let n = hits_join v vs in
          let k = mul-add b (hits v) (hits vs) in
          by-test (opens m l u t ts)
          (λ o. rw (o, n, k)
          (⊎_elim
          (λ (f : (z : ℕ) → late m u z ps ≡ 0). omega (arith, first_part, rest, length-append v vs, early-left m l (b * h) ps qs, late-right m u (b * h) ps qs, (pays m first l u t ts o mas up).behind (b * h), f (b * h)))
          (λ (s : Shut m l u ts). omega (arith, first_part, length-append v vs, early-left m l (b * h) ps qs, late-left m u (b * h) ps qs, ap length (s.1 (leads_on m w))))
          (pays m first l u t ts o mas up).ahead))
          (λ o. rw o (omega (arith, rest, early-right m l (b * h) ps qs, late-right m u (b * h) ps qs)))
