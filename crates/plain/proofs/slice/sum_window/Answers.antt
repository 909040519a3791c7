use Rattle.std.proofs.Common.{◌≡◌, ◌+◌, map, length, drop, sym, ap, ◌∙◌, arith}
use lib.Ieee.{Float}
use Rattle.std.proofs.lemmas.List.{at_drop_all}
use Rattle.sums.specs.Sum.{sum_from}
use Rattle.plain.specs.Windows.{inside, window, total}
use Rattle.plain.proofs.Scans.{taken, passed}
use Rattle.plain.proofs.slice.sum_window.Goals as goal
use Rattle.plain.proofs.slice.sum_window.Goals.{then-is_inside, else-is_inside}

pub loop-p-preserved : goal.loop-p-preserved
loop-p-preserved g c =
    let m = g.K.Kind.meaning in
    let n = g.K.SummedKind.number in
    let ps = c.args.points.now in
    let i = c.loop-p.p-index in
    let p = c.p-item.result in
    let t = c.is_inside.ensures in
    elim c.if-is_inside.branch [
      | then-is_inside w ↦
          let e = taken (λ q. inside m c.args.bounds.lower c.args.bounds.upper q.key.at) ps i p c.loop-p-test.true c.p-item.is (sym t ∙ w.if-is_inside.true) in (
            ap (λ (s : Float). sum_from s (map (λ q. n q.weight) (window m c.args.bounds.lower c.args.bounds.upper (drop (i + 1) ps)))) (w.sum-is ∙ w.plus-sum.ensures)
                ∙ sym (ap (λ l. sum_from c.loop-p.sum (map (λ q. n q.weight) l)) e) ∙ c.loop-p.invariant.0,
            omega (arith, ap length e, c.loop-p.invariant.1, w.count-is),
            omega (arith, c.loop-p.invariant.2, w.count-is),
          )
      | else-is_inside w ↦
          let e = passed (λ q. inside m c.args.bounds.lower c.args.bounds.upper q.key.at) ps i p c.loop-p-test.true c.p-item.is (sym t ∙ w.if-is_inside.false) in (
            ap (λ (s : Float). sum_from s (map (λ q. n q.weight) (window m c.args.bounds.lower c.args.bounds.upper (drop (i + 1) ps)))) w.sum-is
                ∙ sym (ap (λ l. sum_from c.loop-p.sum (map (λ q. n q.weight) l)) e) ∙ c.loop-p.invariant.0,
            omega (arith, ap length e, c.loop-p.invariant.1, w.count-is),
            omega (arith, c.loop-p.invariant.2, w.count-is),
          )
    ]

pub returns : goal.returns
returns g c =
    let m = g.K.Kind.meaning in
    let n = g.K.SummedKind.number in
    let ps = c.args.points.now in
    let done = at_drop_all (window m c.args.bounds.lower c.args.bounds.upper) ps c.loop-p.p-index c.loop-p-test.false in
    let sum : c.loop-p.sum ≡ total n (window m c.args.bounds.lower c.args.bounds.upper ps) = sym (ap (λ l. sum_from c.loop-p.sum (map (λ q. n q.weight) l)) done) ∙ c.loop-p.invariant.0 in
    let count : c.loop-p.count ≡ length (window m c.args.bounds.lower c.args.bounds.upper ps) = omega (arith, ap length done, c.loop-p.invariant.1) in
    cc
