use Rattle.std.proofs.Common.{◌≡◌, ◌+◌, ◌-◌, ◌<◌, ◌&&◌, List, [], ◌∷◌, ◌++◌, length, get_or, drop, Some, sym, refl, ap, ◌∙◌, subst, arith, rules}
use Rattle.std.specs.List.{slice_get}
use Rattle.trees.proofs.Each.{each-at}
use Rattle.table.specs.Kids.{kids_of}
use Rattle.walk.specs.Entries.{pile, entry, reaches_at, open_entries}
use Rattle.walk.specs.Piles.{pile_of}
use Rattle.walk.proofs.Opens.{open-start, open_more, open-same, reaches-next, joined-few}
use Rattle.walk.proofs.pile.Pile.push_open.Goals as goal
use Rattle.walk.proofs.pile.Pile.push_open.Goals.{then-starts_by-reaching, else-starts_by-reaching}

pub loop-i-init : goal.loop-i-init
loop-i-init g c =
    let s = open-start g.K.Kind.meaning c.args.nodes.now c.args.height c.args.bounds.lower c.args.bounds.upper (kids_of c.args.children) c.len-i.result (omega (arith, c.len-i.ensures)) in (
      omega (arith, c.len-i.ensures),
      ap (λ es. es ++ pile_of c.args.self.now) (sym s.0),
      omega (arith, ap length s.0),
      refl,
      s.1,
      refl,
    )

pub read-at-requires : goal.read-at-requires
read-at-requires g c =
    let lt : (c.loop-i.i - 1) < length (kids_of c.args.children) = omega (arith, c.loop-i.invariant.0, c.loop-i-test.true) in
    subst (λ q. q < length c.args.nodes.now) (sym c.at-root.ensures) (each-at (λ q. q < length c.args.nodes.now) (kids_of c.args.children) (c.loop-i.i - 1) 0 lt c.requires.within)

pub put-requires : goal.put-requires
put-requires g c =
    let next : c.loop-i.i ≡ (c.loop-i.i - 1) + 1 = omega (arith, c.loop-i-test.true) in
    let lt : (c.loop-i.i - 1) < length (kids_of c.args.children) = omega (arith, c.loop-i.invariant.0, c.loop-i-test.true) in
    let is = subst (λ q. slice_get c.args.nodes.now q ≡ Some c.read-at.result) c.at-root.ensures c.read-at.ensures in
    let e = open_more g.K.Kind.meaning c.args.nodes.now c.args.height c.args.bounds.lower c.args.bounds.upper (kids_of c.args.children) c.loop-i.i (c.loop-i.i - 1) next lt c.read-at.result is c.loop-i.reaching c.loop-i.invariant.4 (ap (λ b. b && c.loop-i.reaching) (sym c.starts_by.ensures) ∙ c.if-starts_by-reaching.true) in
    omega (arith, ap length e, joined-few g.K.Kind.meaning c.args.nodes.now c.args.height c.args.bounds.lower c.args.bounds.upper (kids_of c.args.children) (c.loop-i.i - 1), c.loop-i.invariant.2, c.loop-i.invariant.3, c.requires.room)

pub overflow_add-top : goal.overflow_add-top
overflow_add-top g c =
    let next : c.loop-i.i ≡ (c.loop-i.i - 1) + 1 = omega (arith, c.loop-i-test.true) in
    let lt : (c.loop-i.i - 1) < length (kids_of c.args.children) = omega (arith, c.loop-i.invariant.0, c.loop-i-test.true) in
    let is = subst (λ q. slice_get c.args.nodes.now q ≡ Some c.read-at.result) c.at-root.ensures c.read-at.ensures in
    let e = open_more g.K.Kind.meaning c.args.nodes.now c.args.height c.args.bounds.lower c.args.bounds.upper (kids_of c.args.children) c.loop-i.i (c.loop-i.i - 1) next lt c.read-at.result is c.loop-i.reaching c.loop-i.invariant.4 (ap (λ b. b && c.loop-i.reaching) (sym c.starts_by.ensures) ∙ c.if-starts_by-reaching.true) in
    let small : c.loop-i.top < length c.loop-i.self.entries.now = omega (arith, ap length e, joined-few g.K.Kind.meaning c.args.nodes.now c.args.height c.args.bounds.lower c.args.bounds.upper (kids_of c.args.children) (c.loop-i.i - 1), c.loop-i.invariant.2, c.loop-i.invariant.3, c.requires.room) in
    search rules

pub loop-i-preserved : goal.loop-i-preserved
loop-i-preserved g c =
    let next : c.loop-i.i ≡ (c.loop-i.i - 1) + 1 = omega (arith, c.loop-i-test.true) in
    let lt : (c.loop-i.i - 1) < length (kids_of c.args.children) = omega (arith, c.loop-i.invariant.0, c.loop-i-test.true) in
    let is = subst (λ q. slice_get c.args.nodes.now q ≡ Some c.read-at.result) c.at-root.ensures c.read-at.ensures in
    let right : c.starts_from-reaching.result ≡ reaches_at g.K.Kind.meaning c.args.nodes.now c.args.bounds.lower (drop (c.loop-i.i - 1) (kids_of c.args.children)) = c.starts_from-reaching.ensures ∙ reaches-next g.K.Kind.meaning c.args.nodes.now c.args.height c.args.bounds.lower c.args.bounds.upper (kids_of c.args.children) c.loop-i.i (c.loop-i.i - 1) next lt c.read-at.result is c.loop-i.reaching c.loop-i.invariant.4 in
    elim c.if-starts_by-reaching.branch [
      | then-starts_by-reaching w ↦
          let e = open_more g.K.Kind.meaning c.args.nodes.now c.args.height c.args.bounds.lower c.args.bounds.upper (kids_of c.args.children) c.loop-i.i (c.loop-i.i - 1) next lt c.read-at.result is c.loop-i.reaching c.loop-i.invariant.4 (ap (λ b. b && c.loop-i.reaching) (sym c.starts_by.ensures) ∙ w.if-starts_by-reaching.true) in (
            omega arith,
            ap (λ p. pile p.entries.now c.if-starts_by-reaching.top) w.self-is ∙ ap (pile w.put.new.self.entries.now) w.top-is ∙ w.put.ensures.pile
                ∙ ap (λ p. entry p c.args.height ∷ pile c.loop-i.self.entries.now c.loop-i.top) c.at-root.ensures
                ∙ ap (λ es. entry (get_or (kids_of c.args.children) (c.loop-i.i - 1) 0) c.args.height ∷ es) c.loop-i.invariant.1
                ∙ ap (λ es. es ++ pile_of c.args.self.now) (sym e),
            omega (arith, w.top-is, ap length e, c.loop-i.invariant.2),
            ap (λ p. length p.entries.now) w.self-is ∙ w.put.ensures.places ∙ c.loop-i.invariant.3,
            right,
            ap (λ p. p.entries.ghost_name) w.self-is ∙ w.put.ensures.same_slice ∙ c.loop-i.invariant.5,
          )
      | else-starts_by-reaching w ↦
          let e = open-same g.K.Kind.meaning c.args.nodes.now c.args.height c.args.bounds.lower c.args.bounds.upper (kids_of c.args.children) c.loop-i.i (c.loop-i.i - 1) next lt c.read-at.result is c.loop-i.reaching c.loop-i.invariant.4 (ap (λ b. b && c.loop-i.reaching) (sym c.starts_by.ensures) ∙ w.if-starts_by-reaching.false) in (
            omega arith,
            ap (λ p. pile p.entries.now c.if-starts_by-reaching.top) w.self-is ∙ ap (pile c.loop-i.self.entries.now) w.top-is ∙ c.loop-i.invariant.1 ∙ ap (λ es. es ++ pile_of c.args.self.now) (sym e),
            omega (arith, w.top-is, ap length e, c.loop-i.invariant.2),
            ap (λ p. length p.entries.now) w.self-is ∙ c.loop-i.invariant.3,
            right,
            ap (λ p. p.entries.ghost_name) w.self-is ∙ c.loop-i.invariant.5,
          )
    ]

drop-zero : {X : Type 0} (xs : List X) → drop 0 xs ≡ xs
drop-zero [] = refl
drop-zero (x ∷ xs) = refl

pub returns : goal.returns
returns g c =
    let zero : c.loop-i.i ≡ 0 = omega (arith, c.loop-i-test.false) in
    let all : open_entries g.K.Kind.meaning c.args.nodes.now c.args.height c.args.bounds.lower c.args.bounds.upper (drop c.loop-i.i (kids_of c.args.children)) ≡ open_entries g.K.Kind.meaning c.args.nodes.now c.args.height c.args.bounds.lower c.args.bounds.upper (kids_of c.args.children) = ap (λ k. open_entries g.K.Kind.meaning c.args.nodes.now c.args.height c.args.bounds.lower c.args.bounds.upper (drop k (kids_of c.args.children))) zero ∙ ap (open_entries g.K.Kind.meaning c.args.nodes.now c.args.height c.args.bounds.lower c.args.bounds.upper) (drop-zero (kids_of c.args.children)) in
    record { pile = c.loop-i.invariant.1 ∙ ap (λ es. es ++ pile_of c.args.self.now) all; depth = c.loop-i.invariant.2 ∙ ap (λ es. c.args.self.now.depth + length es) all; places = c.loop-i.invariant.3; same_slice = c.loop-i.invariant.5 }
