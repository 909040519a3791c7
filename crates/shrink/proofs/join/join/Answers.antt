use Rattle.std.proofs.Common.{◌≡◌, suc, ◌+◌, ◌-◌, ◌≤◌, cond, length, sym, ap, ◌∙◌, arith, length-append}
use Rattle.table.specs.Kids.{kids_of}
use Rattle.shrink.proofs.Joins.{count-l, count-r}
use Rattle.shrink.proofs.Sides.{joint-fused, joint-shared, parts_same}
use Rattle.shrink.proofs.join.join.Goals as goal

pub fuse-requires-clause-few : goal.fuse-requires-clause-few
fuse-requires-clause-few g c =
    let s = c.requires.pair in
    omega (arith, count-l s c.read.ensures, count-r s c.read-2.ensures, c.len.ensures, c.len-2.ensures, c.if-len-lt4.true)

pub returns-then-len-lt4 : goal.returns-then-len-lt4
returns-then-len-lt4 g c = joint-fused c.requires.pair c.read.ensures c.read-2.ensures c.args.left (omega (arith, c.len.ensures, c.len-2.ensures, c.if-len-lt4.true)) c.fuse.ensures

pub to_left-requires : goal.to_left-requires
to_left-requires g c =
    let s = c.requires.pair in
    let one : length (kids_of c.read.result.children) ≡ 1 = sym (count-l s c.read.ensures) ∙ c.requires.poor.first c.if-left.true in
    let many : 4 ≤ length (kids_of c.read.result.children) + length (kids_of c.read-2.result.children) = omega (arith, c.len.ensures, c.len-2.ensures, c.if-len-lt4.false) in
    (omega arith, omega arith)

pub share-requires : goal.share-requires
share-requires g c =
    let s = c.requires.pair in
    let one : length (kids_of c.read.result.children) ≡ 1 = sym (count-l s c.read.ensures) ∙ c.requires.poor.first c.if-left.true in
    let many : 4 ≤ length (kids_of c.read.result.children) + length (kids_of c.read-2.result.children) = omega (arith, c.len.ensures, c.len-2.ensures, c.if-len-lt4.false) in
    let xs = kids_of c.to_left.result.left in
    let ys = kids_of c.to_left.result.right in
    let lengths = simp (length-append) at (ap length c.to_left.ensures.same) in
    record { pair = s; same = parts_same s c.read.ensures c.read-2.ensures xs ys c.to_left.ensures.same; some = (omega (arith, c.to_left.ensures.more), omega (arith, c.to_left.ensures.more)) }

pub returns-then-left : goal.returns-then-left
returns-then-left g c =
    let xs = kids_of c.to_left.result.left in
    let ys = kids_of c.to_left.result.right in
    let n = length (kids_of c.read.result.children) in
    let more : length xs ≡ cond c.args.left (suc n) (n - 1) = rw c.if-left.true (omega (arith, c.to_left.ensures.more)) in
    joint-shared c.requires.pair c.read.ensures c.read-2.ensures xs ys c.to_left.ensures.same c.share.auto.nodes c.requires.spared c.args.left (omega (arith, c.len.ensures, c.len-2.ensures, c.if-len-lt4.false)) more c.share.ensures

pub to_right-requires : goal.to_right-requires
to_right-requires g c =
    let s = c.requires.pair in
    let one : length (kids_of c.read-2.result.children) ≡ 1 = sym (count-r s c.read-2.ensures) ∙ c.requires.poor.last c.if-left.false in
    let many : 4 ≤ length (kids_of c.read.result.children) + length (kids_of c.read-2.result.children) = omega (arith, c.len.ensures, c.len-2.ensures, c.if-len-lt4.false) in
    (omega arith, omega arith)

pub share-requires-2 : goal.share-requires-2
share-requires-2 g c =
    let s = c.requires.pair in
    let one : length (kids_of c.read-2.result.children) ≡ 1 = sym (count-r s c.read-2.ensures) ∙ c.requires.poor.last c.if-left.false in
    let many : 4 ≤ length (kids_of c.read.result.children) + length (kids_of c.read-2.result.children) = omega (arith, c.len.ensures, c.len-2.ensures, c.if-len-lt4.false) in
    let xs = kids_of c.to_right.result.left in
    let ys = kids_of c.to_right.result.right in
    let lengths = simp (length-append) at (ap length c.to_right.ensures.same) in
    record { pair = s; same = parts_same s c.read.ensures c.read-2.ensures xs ys c.to_right.ensures.same; some = (omega (arith, c.to_right.ensures.less), omega (arith, c.to_right.ensures.less)) }

pub returns : goal.returns
returns g c =
    let xs = kids_of c.to_right.result.left in
    let ys = kids_of c.to_right.result.right in
    let n = length (kids_of c.read.result.children) in
    let less : length xs ≡ cond c.args.left (suc n) (n - 1) = rw c.if-left.false (omega (arith, c.to_right.ensures.less)) in
    joint-shared c.requires.pair c.read.ensures c.read-2.ensures xs ys c.to_right.ensures.same c.share-2.auto.nodes c.requires.spared c.args.left (omega (arith, c.len.ensures, c.len-2.ensures, c.if-len-lt4.false)) less c.share-2.ensures
