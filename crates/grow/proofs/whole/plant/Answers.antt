use Rattle.grow.proofs.Plants.{planted}
use Rattle.grow.proofs.whole.plant.Goals as goal

pub returns : goal.returns
returns g c =
    rw (c.write.ensures, c.keeping-leaf.ensures, c.bare.ensures)
    (planted g.K.Kind.meaning _ _ _ c.args.x c.none.result c.take-root.ensures (rw (c.take-root.ensures) at c.requires.within).0 c.requires.apart)
