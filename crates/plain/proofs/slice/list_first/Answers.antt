use Rattle.std.proofs.Common.{◌≡◌, ℕ, ◌+◌, ◌<◌, ◌++◌, length, take, drop, sym, ap, ◌∙◌, arith, take_all}
use Rattle.plain.specs.Windows.{inside, window}
use Rattle.plain.proofs.Scans.{list-more, count-more, list_same, list_full}
use Rattle.plain.proofs.slice.list_first.Goals as goal
use Rattle.plain.proofs.slice.list_first.Goals.{then-is_inside, else-is_inside}

pub loop-p-preserved : goal.loop-p-preserved
loop-p-preserved g c =
    let m = g.K.Kind.meaning in
    let ps = c.args.points.now in
    let was = c.args.list.now in
    let n = c.loop-p.count in
    let inv = c.loop-p.invariant in
    let t = c.is_inside.ensures in
    let room : n < length was = omega (arith, c.if-count-list.false, c.loop-p.auto.list, inv.2) in
    elim c.if-is_inside.branch [
      | then-is_inside w ↦
          let e = sym t ∙ w.if-is_inside.true in
          let step = list-more (λ q. inside m c.args.bounds.lower c.args.bounds.upper q.key.at) ps was c.loop-p.list c.loop-p.p-index n c.p-item.result c.loop-p-test.true c.p-item.is inv.0 inv.1 e room in
          let more = count-more (λ q. inside m c.args.bounds.lower c.args.bounds.upper q.key.at) ps was c.loop-p.list c.loop-p.p-index n c.p-item.result c.loop-p-test.true c.p-item.is inv.0 inv.1 e in (
            w.list-is ∙ step ∙ ap (λ (k : ℕ). window m c.args.bounds.lower c.args.bounds.upper (take (c.loop-p.p-index + 1) ps) ++ drop k was) (sym w.count-is),
            w.count-is ∙ more,
            omega (arith, w.count-is),
          )
      | else-is_inside w ↦
          let e = sym t ∙ w.if-is_inside.false in
          let step = list_same (λ q. inside m c.args.bounds.lower c.args.bounds.upper q.key.at) ps was c.loop-p.list c.loop-p.p-index n c.p-item.result c.loop-p-test.true c.p-item.is inv.0 inv.1 e in (
            w.list-is ∙ inv.0 ∙ ap (λ l. l ++ drop n was) (sym step) ∙ ap (λ (k : ℕ). window m c.args.bounds.lower c.args.bounds.upper (take (c.loop-p.p-index + 1) ps) ++ drop k was) (sym w.count-is),
            w.count-is ∙ inv.1 ∙ ap length (sym step),
            omega (arith, w.count-is, inv.2),
          )
    ]

pub returns : goal.returns
returns g c =
    let m = g.K.Kind.meaning in
    let ps = c.args.points.now in
    let was = c.args.list.now in
    let all = ap (window m c.args.bounds.lower c.args.bounds.upper) (take_all c.loop-p.p-index ps c.loop-p-test.false) in
    let count : c.loop-p.count ≡ length (window m c.args.bounds.lower c.args.bounds.upper ps) = c.loop-p.invariant.1 ∙ ap length all in
    let e = take_all (length was) (window m c.args.bounds.lower c.args.bounds.upper ps) (omega (arith, count, c.loop-p.invariant.2)) in
    record { count = count ∙ ap length (sym e); listed = c.loop-p.invariant.0 ∙ ap (λ l. l ++ drop c.loop-p.count was) (all ∙ sym e) }

pub returns-then-count-list : goal.returns-then-count-list
returns-then-count-list g c =
    let m = g.K.Kind.meaning in
    let k = length c.args.list.now in
    let full : c.loop-p.count ≡ k = omega arith in
    let e = list_full (λ q. inside m c.args.bounds.lower c.args.bounds.upper q.key.at) c.args.points.now c.loop-p.p-index k (sym full ∙ c.loop-p.invariant.1) in
    record { count = c.loop-p.invariant.1 ∙ ap length (sym e); listed = c.loop-p.invariant.0 ∙ ap (λ l. l ++ drop c.loop-p.count c.args.list.now) (sym e) }
