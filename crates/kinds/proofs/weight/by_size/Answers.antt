use Rattle.std.proofs.Common.{◌≡◌, Bool, true, false, cond, T, Some, None, refl, rules}
use Rattle.std.specs.declared.cmp.Ordering.TheVariants.{Less, Equal, Greater}
use Rattle.std.specs.Option.{unwrap_or}
use Rattle.std.specs.Float.Ieee.{lt, eq}
use Rattle.std.proofs.lemmas.Float.{eq_flip, eq-not_lt}
use Rattle.kinds.proofs.weight.by_size.Goals as goal

-- equal numbers are not in order
either : (l e g : Bool) → (T e → T g → ⊥) → unwrap_or (cond l (Some Less) (cond e (Some Equal) (cond g (Some Greater) None))) Equal ≡ cond l Less (cond g Greater Equal)
either true e g n = refl
either false true true n = absurd (n tt tt)
either false true false n = refl
either false false true n = refl
either false false false n = refl

pub returns : goal.returns
returns c =
    let a = c.args.a in
    let b = c.args.b in
    let e = either (lt a b) (eq a b) (lt b a) (λ h k. eq-not_lt b a (eq_flip a b h) k) in
    search (rules, e)
