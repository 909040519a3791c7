use Rattle.std.proofs.Common.{ℕ, ◌+◌, ◌<◌, ◌≤◌, List, length, get_or, sym, ap, ◌∙◌, arith}
use Rattle.std.specs.List.{slice_get}
use Rattle.table.specs.Reading.{kept_in}
use Rattle.table.specs.Kids.{kids_of}
use Rattle.tree.proofs.Picks.{later-at, best-start, best-better, best-all}
use Rattle.tree.proofs.search.best_child.Goals as goal

pub loop-i-init : goal.loop-i-init
loop-i-init g c = (
  best-start g.K.Kind.meaning c.args.nodes.now (kids_of c.args.children) c.requires.some c.read.result
      (ap (λ (s : List ℕ). slice_get c.args.nodes.now (get_or s 0 0)) (sym c.as_slice.ensures) ∙ c.read.ensures),
  c.requires.some,
)

pub loop-i-preserved : goal.loop-i-preserved
loop-i-preserved g c =
    let ps = kids_of c.args.children in
    let i = c.loop-i.i in
    let lt : i + 1 < length ps = omega (arith, ap length c.as_slice.ensures, c.loop-i-test.true) in
    let is =
    ap (λ (s : List ℕ). slice_get c.args.nodes.now (get_or s (i + 1) 0)) (sym c.as_slice.ensures) ∙ ap (slice_get c.args.nodes.now) (sym (later-at c.as_slice.result.now i c.in-len1-up.len_at_least)) ∙ c.read-in-loop-i.ensures in
    rw c.better-best.ensures (best-better g.K.Kind.meaning c.args.nodes.now ps c.loop-i.best.0 c.loop-i.best.1 (i + 1) lt c.loop-i.invariant.0 c.loop-i.invariant.1 c.read-in-loop-i.result is)

pub returns : goal.returns
returns g c =
    let ps = kids_of c.args.children in
    let all : length ps ≤ c.loop-i.i + 1 = omega (arith, ap length c.as_slice.ensures, c.loop-i-test.false) in
    record { is = best-all g.K.Kind.meaning c.args.nodes.now ps c.loop-i.best.0 (kept_in g.K.Kind.meaning c.loop-i.best.1) (c.loop-i.i + 1) all c.loop-i.invariant.0; below = c.loop-i.invariant.1 }
