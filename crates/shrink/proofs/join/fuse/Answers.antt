use Rattle.std.proofs.Common.{[], arith}
use Rattle.table.specs.Kids.{kids_of}
use Rattle.table.specs.Keys.{key_in}
use Rattle.table.proofs.Cases.{few}
use Rattle.shrink.proofs.Joins.{within-l, within-r, count-l, count-r, all_are, all-parts, all-some, left-sounds, left-off, one-sounds, right-givable, fused}
use Rattle.shrink.proofs.join.fuse.Goals as goal

pub read-last-requires : goal.read-last-requires
read-last-requires g c = within-r c.requires.pair

pub append-requires : goal.append-requires
append-requires g c =
    let s = c.requires.pair in
    omega (arith, c.requires.few, count-l s c.read-first.ensures, count-r s c.read-last.ensures)

pub settle-requires : goal.settle-requires
settle-requires g c =
    let s = c.requires.pair in
    let cs = kids_of c.append.result in
    let e = all_are s c.read-first.ensures c.read-last.ensures cs c.append.ensures in
    let n = few c.append.result in
    record {
      within = within-l s;
      above = s.above;
      some = all-some s cs e n;
      sounds = left-sounds s cs [] (all-parts s cs e n);
      apart = left-off s cs [] (all-parts s cs e n);
    }

pub seat_both-requires-clause-sounds : goal.seat_both-requires-clause-sounds
seat_both-requires-clause-sounds g c =
    let s = c.requires.pair in
    let cs = kids_of c.append.result in
    let e = all_are s c.read-first.ensures c.read-last.ensures cs c.append.ensures in
    let n = few c.append.result in
    rw c.of.ensures (one-sounds s cs [] (all-parts s cs e n) (key_in c.read-first.result.own) c.settle.auto.nodes (all-some s cs e n) n c.settle.ensures)

pub give-requires : goal.give-requires
give-requires g c =
    let s = c.requires.pair in
    let cs = kids_of c.append.result in
    let e = all_are s c.read-first.ensures c.read-last.ensures cs c.append.ensures in
    let both = rw c.of.ensures at c.seat_both.ensures in
    right-givable s cs e (few c.append.result) c.requires.spared c.read-first.ensures c.read-last.ensures (key_in c.read-first.result.own) c.settle.auto.nodes c.seat_both.auto.nodes c.settle.ensures both

pub returns : goal.returns
returns g c =
    let s = c.requires.pair in
    let cs = kids_of c.append.result in
    let e = all_are s c.read-first.ensures c.read-last.ensures cs c.append.ensures in
    let both = rw c.of.ensures at c.seat_both.ensures in
    fused s cs e (few c.append.result) c.requires.spared c.read-first.ensures c.read-last.ensures (key_in c.read-first.result.own) c.settle.auto.nodes c.seat_both.auto.nodes c.settle.ensures both c.give.ensures.spares c.give.ensures.frame
