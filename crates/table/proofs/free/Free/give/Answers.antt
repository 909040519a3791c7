use Rattle.std.proofs.Common.{◌≡◌, ◌+◌, ◌∷◌, set, sym, ap, ◌∙◌, subst, length-set, arith}
use Rattle.std.specs.List.{slice_get, AllByRecursion}
use Rattle.trees.proofs.Each.{each-weaker}
use Rattle.table.specs.Spares.{spares}
use Rattle.table.proofs.Frames.{nth-set-same, nth-set-other}
use Rattle.table.proofs.Places.{chained-few, give-chained}
use Rattle.table.proofs.free.Free.give.Goals as goal

pub headed-requires : goal.headed-requires
headed-requires g c = omega (arith, chained-few c.args.nodes.now c.args.nodes.now c.args.self.now, c.requires.room)

pub returns : goal.returns
returns g c =
    let a = c.args.nodes.now in
    let p = c.args.p in
    let n = c.linked-node.result in
    let apart : AllByRecursion (λ q. slice_get (set a p n) q ≡ slice_get a q) (spares a c.args.self.now) = each-weaker (λ q. q ≡ p → ⊥) (λ q. slice_get (set a p n) q ≡ slice_get a q) (λ q z. nth-set-other a p q n z) (spares a c.args.self.now) c.requires.apart in
    record {
      spares = rw c.headed.ensures (subst (λ b. spares b (record { head = p; chained = c.args.self.now.chained + 1; fresh = c.args.self.now.fresh }) ≡ p ∷ spares a c.args.self.now) (sym c.write.ensures) (give-chained a (set a p n) c.args.self.now p n (length-set a p n) (nth-set-same a p n c.requires.within) c.linked-node.ensures apart));
      frame = λ q z. ap (λ b. slice_get b q) c.write.ensures ∙ nth-set-other a p q n z;
    }
