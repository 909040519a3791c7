use Rattle.std.proofs.Common.{◌≡◌, true, false, arith}
use Rattle.std.specs.Ordering.{is_lt}
use Rattle.plain.specs.Points.{key_order}
use Rattle.table.specs.Keys.{key_in}
use Rattle.grow.proofs.Readies.{root-within, spares-within, next-within}
use Rattle.grow.proofs.Leaves.{leaf-before, leaf-after}
use Rattle.grow.proofs.leaf.add_leaf.Goals as goal

pub take-next-requires-clause-within : goal.take-next-requires-clause-within
take-next-requires-clause-within g c = spares-within c.requires

pub write-requires : goal.write-requires
write-requires g c = next-within c.requires _ c.take-next.ensures

pub write-requires-then-is_lt : goal.write-requires-then-is_lt
write-requires-then-is_lt g c = omega (arith, root-within c.requires, c.write.auto.nodes)

pub write-requires-2 : goal.write-requires-2
write-requires-2 g c = next-within c.requires _ c.take-next.ensures

pub returns-then-is_lt : goal.returns-then-is_lt
returns-then-is_lt g c =
    let before : is_lt (key_order g.K.Kind.meaning (key_in c.args.x) (key_in c.read-old.result.own)) ≡ true = cc in
    rw (c.write-then-is_lt.ensures, c.write.ensures, c.bare-new.ensures)
    (leaf-before c.requires _ c.take-next.ensures c.read-old.ensures c.args.x c.none.result before)

pub returns : goal.returns
returns g c =
    let after : is_lt (key_order g.K.Kind.meaning (key_in c.args.x) (key_in c.read-old.result.own)) ≡ false = cc in
    rw (c.write-2.ensures, c.bare-new.ensures)
    (leaf-after c.requires _ c.take-next.ensures c.read-old.ensures c.args.x c.none.result after)
