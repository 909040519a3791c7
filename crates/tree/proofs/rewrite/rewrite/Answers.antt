use Rattle.std.proofs.Common.{◌≡◌, set, Some, ap, ◌∙◌, subst}
use Rattle.std.specs.List.{slice_get}
use Rattle.tree.proofs.rewrite.rewrite.Goals as goal

pub returns : goal.returns
returns g c = record {
  first = c.read-first.result;
  is = subst (λ q. slice_get c.args.nodes.now q ≡ Some c.read-first.result) c.at.ensures c.read-first.ensures;
  after = c.write.ensures ∙ ap (λ n. set c.args.nodes.now c.args.at n) c.over.ensures;
}
