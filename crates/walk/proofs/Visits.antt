-- One node is visited: what it lists, and what is then left.
use Rattle.std.proofs.Common.{◌≡◌, ℕ, ◌+◌, true, false, cond, List, [], ◌∷◌, ◌++◌, Some, refl, ap, ◌∙◌}
use Rattle.std.specs.List.{slice_get, flat_map}
use Rattle.kinds.specs.Meaning.{Meaning}
use Rattle.plain.specs.declared.point.Point.{Point}
use Rattle.plain.specs.Windows.{inside, reaches, matches}
use Rattle.trees.specs.Tree.{Tree}
use Rattle.walked.specs.Walk.{leads_on, kept_at}
use Rattle.table.specs.declared.node.Node.{Node}
use Rattle.table.specs.declared.node.Stored.{Stored}
use Rattle.table.specs.declared.subtree.Subtree.{Subtree}
use Rattle.table.specs.Reading.{point_in, point_in_any, kept_in, tree_of}
use Rattle.walk.specs.Lists.{noted}
use Rattle.walk.proofs.Turns.{kept_here}
use Rattle.walk.proofs.Ranges.{Listing, lists, rest-is, lists-none, lists-some, listing-same, listing-visit}

module _ {C W R : Type 0} (m : Meaning C W R) (l u : C) (w : W) (ns : List (Node C R)) (e : Subtree) (n : Node C R) (is : slice_get ns e.root ≡ Some n) where
  -- what the walk has left to list
  abbrev pub unlisted : List (Tree C W) → List (Point C W)
  unlisted vs = matches m l u w (flat_map kept_at vs)

  module _ (all was now : List (Point C W)) (k : ℕ) (before vs : List (Tree C W)) (next : before ≡ tree_of m ns e ∷ vs) (p : Listing all (unlisted before) was now k) where
    rest : unlisted before ≡ lists m l u w (kept_in m n) ++ unlisted vs
    rest = ap unlisted next ∙ rest-is m l u w (tree_of m ns e) vs ∙ ap (λ o. lists m l u w o ++ unlisted vs) (kept_here m (leads_on m w) l u ns e [] n is)

    -- it keeps nothing that leads on
    pub listing-passed : leads_on m w (kept_in m n) ≡ false → Listing all (unlisted vs) was now k
    listing-passed off = listing-same all (unlisted before) (unlisted vs) was now k p (rest ∙ ap (λ ps. ps ++ unlisted vs) (lists-none m l u w (kept_in m n) off))

    -- it keeps a point that leads on
    pub listing-visited : (y : Stored C R) → n.kept ≡ Some y → reaches m (m.recalled y.weight) w ≡ true → (now' : List (Point C W)) (r : ℕ)
        → r ≡ cond (inside m l u y.at) (k + 1) k → now' ≡ cond (inside m l u y.at) (noted now k (point_in m y)) now → Listing all (unlisted vs) was now' r
    listing-visited y kept on now' r count list =
        listing-visit all (unlisted before) (unlisted vs) was now now' k r (point_in m y) (inside m l u y.at) p
        (rest ∙ ap (λ o. lists m l u w (point_in_any m o) ++ unlisted vs) kept ∙ ap (λ ps. ps ++ unlisted vs) (lists-some m l u w (point_in m y) on (inside m l u y.at) refl))
        count list
