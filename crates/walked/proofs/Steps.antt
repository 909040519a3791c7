-- What one step of a stack adds to the list, and how many steps there can be.
use Rattle.std.proofs.Common.{◌≡◌, ◌≤◌, Bool, ◌&&◌, List, ◌∷◌, ◌++◌, length, Option, ap, ◌∙◌, arith, length-append}
use Rattle.std.specs.List.{flat_map}
use Rattle.std.proofs.lemmas.List.Elements.{filter-append}
use Rattle.kinds.specs.Meaning.{Meaning}
use Rattle.plain.specs.declared.point.Point.{Point}
use Rattle.plain.specs.Windows.{inside, reaches, matches}
use Rattle.trees.specs.Tree.{Tree, Forest, gone, leaf, fork, none, more, size, size_all}
use Rattle.walked.specs.Walk.{kept_at, opens, leads_on, always, walk, walk_all, step, shown, listed}
use Rattle.walked.proofs.Parts.{by-test}
use Rattle.walked.proofs.Stacks.{walk_step}

module _ {C W R : Type 0} (m : Meaning C W R) (l u : C) (v : Tree C W) (vs : List (Tree C W)) where
  -- a range walk lists what the entry keeps, if it matches, and then the rest
  pub range-step : (w : W) → matches m l u w (flat_map kept_at (flat_map (walk m (leads_on m w) l u) (v ∷ vs))) ≡ matches m l u w (kept_at v) ++ matches m l u w (flat_map kept_at (flat_map (walk m (leads_on m w) l u) (step m (leads_on m w) l u (v ∷ vs))))
  range-step w =
      ap (λ z. matches m l u w (flat_map kept_at z)) (walk_step m (leads_on m w) l u v vs)
      ∙ filter-append (λ p. inside m l u p.key.at && reaches m p.weight w) (kept_at v) (flat_map kept_at (flat_map (walk m (leads_on m w) l u) (step m (leads_on m w) l u (v ∷ vs))))

  -- a frontier walk the entry's point, if it is a leaf in the window, and then the rest
  pub taken_step : listed m l u (flat_map (walk m always l u) (v ∷ vs)) ≡ shown m l u v ++ listed m l u (flat_map (walk m always l u) (step m always l u (v ∷ vs)))
  taken_step = ap (listed m l u) (walk_step m always l u v vs)

module _ {C W R : Type 0} (m : Meaning C W R) (leads : Option (Point C W) → Bool) (l u : C) where
  -- no walk takes more nodes than there are
  mutual
    pub walk-size : (t : Tree C W) → length (walk m leads l u t) ≤ size t
    walk-size (gone p) = omega arith
    walk-size (leaf p x o) = omega arith
    walk-size (fork p k o ts) = let i = walk-sizes ts in by-test (leads o) (λ e. rw e (omega arith)) (λ e. rw e (omega arith))

    walk-sizes : (ts : Forest C W) → length (walk_all m leads l u ts) ≤ size_all ts
    walk-sizes none = omega arith
    walk-sizes (more t ts) =
        let i = walk-size t in
        let j = walk-sizes ts in
        by-test (opens m l u t ts) (λ o. rw o (omega (arith, length-append (walk m leads l u t) (walk_all m leads l u ts)))) (λ o. rw o (omega arith))
