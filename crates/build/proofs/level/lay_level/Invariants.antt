use Rattle.std.proofs.Common.{◌-◌}
use Rattle.build.specs.Stages.{level_over, Laying}
use Rattle.build.proofs.level.lay_level.Given as goal

-- the parents laid so far, and the trees that have none yet
abbrev pub invariant-loop-from : goal.invariant-loop-from
invariant-loop-from g l =
    let v = l.fn.level in
    Laying g.K.Kind.meaning l.nodes v.height l.next (level_over g.K.Kind.meaning l.initial.nodes v.height v.count v.first) l.from (l.next - l.from) l.made

abbrev pub decreases-loop-from : goal.decreases-loop-from
decreases-loop-from g l = l.next - l.from
