use Rattle.std.proofs.Common.{◌≡◌, Bool, true, false, cond, List, [], ◌∷◌, Some, refl, ap, ◌∙◌, rules}
use Rattle.std.specs.List.{find}
use Rattle.std.specs.Option.{option_map}
use Rattle.std.specs.Ordering.{is_eq}
use Rattle.std.proofs.lemmas.Iterator.{YieldsList-from_slice}
use Rattle.std.proofs.lemmas.Iterator.Search.{find_from_yields_List}
use borrow.Author.Tests.{tests}
use Rattle.kinds.specs.Meaning.{Meaning}
use Rattle.plain.specs.declared.point.Key.{Key}
use Rattle.plain.specs.declared.point.Point.{Point}
use Rattle.plain.specs.Points.{key_order}
use Rattle.plain.specs.Set.{weight_at}
use Rattle.plain.proofs.slice.find.Goals as goal

module _ {C W R : Type 0} (m : Meaning C W R) (k : Key C) where
  abbrev sought : Point C W → Bool
  sought p = is_eq (key_order m k p.key)

  -- a look-up takes the weight of the first point with the key
  first_sought : (ps : List (Point C W)) → option_map (λ p. p.weight) (find sought ps) ≡ weight_at m k ps
  first_sought [] = refl
  first_sought (p ∷ ps) =
      elim (sought p) as (λ b. option_map (λ q. q.weight) (cond b (Some p) (find sought ps)) ≡ cond b (Some p.weight) (weight_at m k ps)) [
        | true ↦ refl
        | false ↦ first_sought ps
      ]

pub returns : goal.returns
returns g c =
    let m = g.K.Kind.meaning in
    let k = c.args.key in
    let e = find_from_yields_List (sought m k) _ _ c.find.result c.find.ensures.ran (YieldsList-from_slice c.args.points.now (search rules)) (λ y b q h. search (rules, tests)) in
    let w : c.map.result ≡ option_map (λ p. p.weight) (option_map (λ y. y.now) c.find.result) = search rules in
    w ∙ ap (option_map (λ p. p.weight)) e ∙ first_sought m k c.args.points.now
