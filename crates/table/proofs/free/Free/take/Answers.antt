use Rattle.std.proofs.Common.{ℕ, ◌-◌, ◌<◌, ◌∷◌, length, sym, ap, ◌∙◌, arith}
use Rattle.table.specs.Spares.{spares}
use Rattle.table.proofs.Places.{take-chained, take-fresh, head-within}
use Rattle.table.proofs.free.Free.take.Goals as goal

pub read-requires : goal.read-requires
read-requires g c = head-within c.args.nodes.now c.args.self.now (λ q. q < length c.args.nodes.now) c.if-self-gt0.true c.requires.within

pub returns-then-self-gt0 : goal.returns-then-self-gt0
returns-then-self-gt0 g c =
    take-chained c.args.nodes.now c.args.self.now c.read.result c.if-self-gt0.true c.read.ensures
    ∙ ap (λ (p : ℕ). c.args.self.now.head ∷ spares c.args.nodes.now (record { head = p; chained = c.args.self.now.chained - 1; fresh = c.args.self.now.fresh })) (sym c.link-self.ensures)

pub returns : goal.returns
returns g c = take-fresh c.args.nodes.now c.args.self.now (omega arith) c.requires.some
