use Rattle.std.proofs.Common.{sym, ◌∙◌, arith}
use Rattle.std.proofs.lemmas.Bool.{leb-true}
use Rattle.checker.proofs.Nodes.{fork-of}
use Rattle.checker.proofs.rules.fork_passes.Goals as goal
use Rattle.checker.proofs.rules.fork_passes.Goals.{then-len-ge2, else-len-ge2}

pub returns-then-heads : goal.returns-then-heads
returns-then-heads g c e =
    elim c.if-len-ge2.branch [
      | then-len-ge2 w ↦ fork-of g.K.Kind.meaning c.args.nodes.now c.args.height c.args.n (omega (arith, w.if-len-ge2.true, c.len.ensures)) (w.heads.ensures (sym w.value-is ∙ c.if-heads.true)) (c.keeps_own.ensures e)
      | else-len-ge2 w ↦ absurd (omega (arith, w.if-len-ge2.false, leb-true 2 c.len.result (sym w.value-is ∙ c.if-heads.true)))
    ]
