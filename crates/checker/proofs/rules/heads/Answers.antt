use Rattle.std.proofs.Common.{◌≡◌, true, None, Some, sym, ap, ◌∙◌}
use Rattle.std.specs.Ordering.{is_eq}
use Rattle.plain.specs.Points.{key_order}
use Rattle.plain.proofs.Keys.{tie, eq-equal}
use Rattle.table.specs.Keys.{key_in}
use Rattle.checker.specs.Passes.{next_at}
use Rattle.checker.proofs.rules.heads.Goals as goal

pub returns : goal.returns
returns g c e =
    let m = g.K.Kind.meaning in
    let j = c.in-Some.key in
    let k = key_in c.args.n.own in
    let equal : is_eq (key_order m j k) ≡ true = ap (λ i. is_eq (key_order m j i)) (sym c.key.ensures) ∙ sym (ap is_eq c.key_order.ensures) ∙ sym c.is_eq.ensures ∙ e in
    ap (λ ps. next_at c.args.nodes.now ps None) (sym c.as_slice.ensures) ∙ sym c.next_key.ensures ∙ c.in-Some.is ∙ ap Some (tie m g.met.K.Kind.first j k (eq-equal (key_order m j k) equal))
