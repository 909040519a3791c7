use Rattle.std.proofs.Common.{arith}
use Rattle.table.specs.Kids.{kids_of}
use Rattle.table.specs.Keys.{key_in}
use Rattle.table.proofs.Cases.{few}
use Rattle.shrink.proofs.Joins.{within-l, within-r, left-sounds, left-off, right-sounds-now, right-off-now, two-sounds, shared}
use Rattle.shrink.proofs.join.share.Goals as goal

pub read-first-requires : goal.read-first-requires
read-first-requires g c = within-l c.requires.pair

pub read-last-requires : goal.read-last-requires
read-last-requires g c = within-r c.requires.pair

pub settle-requires : goal.settle-requires
settle-requires g c =
    let s = c.requires.pair in
    let xs = kids_of c.args.new.left in
    let ys = kids_of c.args.new.right in
    record {
      within = within-l s;
      above = s.above;
      some = c.requires.some.0;
      sounds = left-sounds s xs ys c.requires.same;
      apart = left-off s xs ys c.requires.same;
    }

pub settle-requires-2 : goal.settle-requires-2
settle-requires-2 g c =
    let s = c.requires.pair in
    let xs = kids_of c.args.new.left in
    let ys = kids_of c.args.new.right in
    let k = key_in c.read-first.result.own in
    record {
      within = omega (arith, within-r s, c.settle.auto.nodes);
      above = s.above;
      some = c.requires.some.1;
      sounds = right-sounds-now s xs ys c.requires.same k c.settle.auto.nodes c.requires.some.0 (few c.args.new.left) c.settle.ensures;
      apart = right-off-now s xs ys c.requires.same k c.settle.auto.nodes c.requires.some.0 (few c.args.new.left) c.settle.ensures;
    }

pub seat_both-requires-clause-sounds : goal.seat_both-requires-clause-sounds
seat_both-requires-clause-sounds g c =
    let s = c.requires.pair in
    let xs = kids_of c.args.new.left in
    let ys = kids_of c.args.new.right in
    let k = key_in c.read-first.result.own in
    rw c.of-both.ensures (two-sounds s xs ys c.requires.same k c.settle.auto.nodes c.requires.some.0 (few c.args.new.left) c.settle.ensures c.settle-2.auto.nodes c.requires.some.1 (few c.args.new.right) c.settle-2.ensures)

pub returns : goal.returns
returns g c =
    let s = c.requires.pair in
    let xs = kids_of c.args.new.left in
    let ys = kids_of c.args.new.right in
    let k = key_in c.read-first.result.own in
    let both = rw c.of-both.ensures at c.seat_both.ensures in
    shared s xs ys c.requires.same k c.settle.auto.nodes c.requires.some.0 (few c.args.new.left) c.settle.ensures c.settle-2.auto.nodes c.requires.some.1 (few c.args.new.right) c.settle-2.ensures c.read-first.ensures c.read-last.ensures both
