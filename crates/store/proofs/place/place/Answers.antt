use Rattle.std.proofs.Common.{◌≡◌, is_lt, ◌-◌, ◌∙◌, get_or, sym, ap, rules, arith}
use Rattle.std.proofs.lemmas.Fn.{always_returns_same}
use Rattle.std.proofs.lemmas.List.{get_or_default}
use Rattle.kinds.specs.Kinds.{small}
use Rattle.plain.specs.Points.{key_order}
use Rattle.store.proofs.Places.{Reaches, found_near}
use Rattle.store.proofs.place.place.Goals as goal
use Rattle.store.proofs.place.place.Goals.{then-loop-bound-test+else-is_lt, else-loop-bound-test}

reaches : (c : goal.After-binary_search_by) → Reaches c.args.key c.args.points.now c.min.result
reaches c = elim c.loop-bound-test.branch [
  | then-loop-bound-test+else-is_lt w ↦
      let e : c.min.result ≡ c.loop-bound.bound = omega arith in
      (λ lt. (
        omega arith,
        λ d. ap (λ n. is_lt (key_order small (get_or c.args.points.now (n - 1) d).key c.args.key)) e
            ∙ ap (λ p. is_lt (key_order small p.key c.args.key)) (get_or_default c.args.points.now (c.loop-bound.bound - 1) d _ (omega arith))
            ∙ sym (ap is_lt w.key_order.ensures) ∙ sym w.is_lt.ensures ∙ w.if-is_lt.false,
      ))
  | else-loop-bound-test w ↦ (λ lt. absurd (omega arith))
]

pub returns : goal.returns
returns c =
    found_near c.args.key c.args.points.now c.min.result c.requires (omega arith) (reaches c) _ c.binary_search_by.ensures.bound
    (c.binary_search_by.ensures.position (λ q. key_order small q.key c.args.key) (always_returns_same _ _ _ (λ a r g k. search rules)))
