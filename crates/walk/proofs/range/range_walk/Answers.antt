use Rattle.std.proofs.Common.{◌≡◌, suc, ◌-◌, length, sym, refl, ap, ◌∙◌, subst, append-nil, arith}
use Rattle.std.specs.List.{flat_map}
use Rattle.plain.specs.Windows.{inside, matches}
use Rattle.table.specs.Kids.{kids_of}
use Rattle.table.specs.Reading.{point_in_any, tree_at, tree_of, Sound}
use Rattle.table.proofs.Cases.{few}
use Rattle.table.proofs.Steps.{sound-within, kids-within}
use Rattle.walked.specs.Walk.{kept_at, leads_on, visits, ranged}
use Rattle.walk.specs.Entries.{Rooms, AllSound, to_come}
use Rattle.walk.specs.Lists.{filled}
use Rattle.walk.specs.Piles.{pile_of}
use Rattle.walk.proofs.Turns.{open-few, turn-leaf, turn-off, turn_on, sound-on, rooms-after}
use Rattle.walk.proofs.Ranges.{listing_start, listing-same, listing-end, at_most_one, pile-long}
use Rattle.walk.proofs.Visits.{unlisted, listing-passed, listing-visited}
use Rattle.walk.proofs.range.range_walk.Goals as goal

pub loop-next-init : goal.loop-next-init
loop-next-init g c = (refl, omega arith, (c.requires.sound, tt), (omega (arith, c.requires.low), tt), omega arith, omega arith, listing_start _ _)

pub read-node-requires : goal.read-node-requires
read-node-requires g c =
    let m = g.K.Kind.meaning in
    let sound = subst (AllSound m c.args.nodes.now) c.in-Some.ensures.pile c.loop-next.invariant.2 in
    sound-within m c.args.nodes.now c.in-Some.next.height c.in-Some.next.root sound.0

pub push_open-requires : goal.push_open-requires
push_open-requires g c =
    let m = g.K.Kind.meaning in
    let ns = c.args.nodes.now in
    let next = c.in-Some.next in
    let node = c.read-node.result in
    let sound = subst (AllSound m ns) c.in-Some.ensures.pile c.loop-next.invariant.2 in
    let rooms = subst Rooms c.in-Some.ensures.pile c.loop-next.invariant.3 in
    let up : next.height ≡ suc (next.height - 1) = omega (arith, c.if-next-gt0.true) in
    record {
      within = kids-within m ns (next.height - 1) next.root node c.read-node.ensures (subst (λ k. Sound (length ns) k (tree_at m ns k next.root)) up sound.0);
      room = omega (arith, open-few m ns (next.height - 1) c.args.bounds.lower c.args.bounds.upper (kids_of node.children), few node.children, rooms.0, c.if-next-gt0.true, pile-long c.pop.new.self.entries.now c.pop.new.self.depth (omega (arith, c.in-Some.ensures.depth, c.in-Some.ensures.places, c.loop-next.invariant.0, c.loop-next.invariant.1)), c.in-Some.ensures.places, c.loop-next.invariant.0);
    }

pub loop-next-smaller-then-next-gt0 : goal.loop-next-smaller-then-next-gt0
loop-next-smaller-then-next-gt0 g c =
    let m = g.K.Kind.meaning in
    let ns = c.args.nodes.now in
    let l = c.args.bounds.lower in
    let u = c.args.bounds.upper in
    let w = c.args.threshold in
    let next = c.in-Some.next in
    let left = pile_of c.pop.new.self in
    let node = c.read-node.result in
    let leads = leads_on m w in
    let on = ap (λ o. leads (point_in_any m o)) c.in-Some-leading.ensures.0 ∙ c.in-Some-leading.ensures.1 in
    let top = ap (to_come m ns leads l u) c.in-Some.ensures.pile in
    let coming = top ∙ turn_on m leads l u ns next left node c.read-node.ensures (next.height - 1) (omega (arith, c.if-next-gt0.true)) on in
    omega (arith, ap length coming, ap (λ es. length (to_come m ns leads l u es)) c.push_open.ensures.pile)

pub loop-next-preserved-then-next-gt0 : goal.loop-next-preserved-then-next-gt0
loop-next-preserved-then-next-gt0 g c =
    let m = g.K.Kind.meaning in
    let ns = c.args.nodes.now in
    let l = c.args.bounds.lower in
    let u = c.args.bounds.upper in
    let w = c.args.threshold in
    let next = c.in-Some.next in
    let left = pile_of c.pop.new.self in
    let node = c.read-node.result in
    let leads = leads_on m w in
    let on = ap (λ o. leads (point_in_any m o)) c.in-Some-leading.ensures.0 ∙ c.in-Some-leading.ensures.1 in
    let top = ap (to_come m ns leads l u) c.in-Some.ensures.pile in
    let sound = subst (AllSound m ns) c.in-Some.ensures.pile c.loop-next.invariant.2 in
    let rooms = subst Rooms c.in-Some.ensures.pile c.loop-next.invariant.3 in
    let up : next.height ≡ suc (next.height - 1) = omega (arith, c.if-next-gt0.true) in
    let coming = top ∙ turn_on m leads l u ns next left node c.read-node.ensures (next.height - 1) (omega (arith, c.if-next-gt0.true)) on in
    let piled = c.push_open.ensures.pile in
    let listing = listing-visited m l u w ns next node c.read-node.ensures _ _ _ c.loop-next.matches _ _ coming c.loop-next.invariant.6
    c.in-Some-leading.x c.in-Some-leading.ensures.0 c.in-Some-leading.ensures.1 c.visit-matches.new.list c.visit-matches.result c.visit-matches.ensures.count c.visit-matches.ensures.list in (
      c.push_open.ensures.places ∙ c.in-Some.ensures.places ∙ c.loop-next.invariant.0,
      omega (arith, c.push_open.ensures.depth, open-few m ns (next.height - 1) l u (kids_of node.children), few node.children, rooms.0, c.if-next-gt0.true, pile-long c.pop.new.self.entries.now c.pop.new.self.depth (omega (arith, c.in-Some.ensures.depth, c.in-Some.ensures.places, c.loop-next.invariant.0, c.loop-next.invariant.1))),
      subst (AllSound m ns) (sym piled) (sound-on m leads l u ns next left node c.read-node.ensures (next.height - 1) up sound),
      subst Rooms (sym piled) (rooms-after m leads l u ns next left node (next.height - 1) up rooms),
      omega (arith, c.loop-next.invariant.4, ap length coming, ap (λ es. length (to_come m ns leads l u es)) piled),
      omega (arith, c.loop-next.invariant.5, c.visit-matches.ensures.count, at_most_one (inside m l u c.in-Some-leading.x.at) c.loop-next.matches),
      listing-same _ _ _ _ _ _ listing (ap (λ es. unlisted m l u w ns next node c.read-node.ensures (to_come m ns leads l u es)) (sym piled)),
    )

pub loop-next-smaller-else-next-gt0 : goal.loop-next-smaller-else-next-gt0
loop-next-smaller-else-next-gt0 g c =
    let m = g.K.Kind.meaning in
    let ns = c.args.nodes.now in
    let l = c.args.bounds.lower in
    let u = c.args.bounds.upper in
    let w = c.args.threshold in
    let next = c.in-Some.next in
    let left = pile_of c.pop.new.self in
    let node = c.read-node.result in
    let leads = leads_on m w in
    let top = ap (to_come m ns leads l u) c.in-Some.ensures.pile in
    let coming = top ∙ turn-leaf m leads l u ns next left node c.read-node.ensures (omega (arith, c.if-next-gt0.false)) in
    omega (arith, ap length coming)

pub loop-next-preserved-else-next-gt0 : goal.loop-next-preserved-else-next-gt0
loop-next-preserved-else-next-gt0 g c =
    let m = g.K.Kind.meaning in
    let ns = c.args.nodes.now in
    let l = c.args.bounds.lower in
    let u = c.args.bounds.upper in
    let w = c.args.threshold in
    let next = c.in-Some.next in
    let left = pile_of c.pop.new.self in
    let node = c.read-node.result in
    let leads = leads_on m w in
    let top = ap (to_come m ns leads l u) c.in-Some.ensures.pile in
    let sound = subst (AllSound m ns) c.in-Some.ensures.pile c.loop-next.invariant.2 in
    let rooms = subst Rooms c.in-Some.ensures.pile c.loop-next.invariant.3 in
    let coming = top ∙ turn-leaf m leads l u ns next left node c.read-node.ensures (omega (arith, c.if-next-gt0.false)) in (
      c.in-Some.ensures.places ∙ c.loop-next.invariant.0,
      omega (arith, c.in-Some.ensures.depth, c.loop-next.invariant.1),
      sound.1,
      rooms.1,
      omega (arith, c.loop-next.invariant.4, ap length coming),
      omega (arith, c.loop-next.invariant.5, c.visit-matches.ensures.count, at_most_one (inside m l u c.in-Some-leading.x.at) c.loop-next.matches),
      listing-visited m l u w ns next node c.read-node.ensures _ _ _ c.loop-next.matches _ _ coming c.loop-next.invariant.6
          c.in-Some-leading.x c.in-Some-leading.ensures.0 c.in-Some-leading.ensures.1 c.visit-matches.new.list c.visit-matches.result c.visit-matches.ensures.count c.visit-matches.ensures.list,
    )

pub loop-next-smaller : goal.loop-next-smaller
loop-next-smaller g c =
    let m = g.K.Kind.meaning in
    let ns = c.args.nodes.now in
    let l = c.args.bounds.lower in
    let u = c.args.bounds.upper in
    let w = c.args.threshold in
    let next = c.in-Some.next in
    let left = pile_of c.pop.new.self in
    let node = c.read-node.result in
    let leads = leads_on m w in
    let top = ap (to_come m ns leads l u) c.in-Some.ensures.pile in
    let coming = top ∙ turn-off m leads l u ns next left node c.read-node.ensures c.in_default-leading.ensures in
    omega (arith, ap length coming)

pub loop-next-preserved : goal.loop-next-preserved
loop-next-preserved g c =
    let m = g.K.Kind.meaning in
    let ns = c.args.nodes.now in
    let l = c.args.bounds.lower in
    let u = c.args.bounds.upper in
    let w = c.args.threshold in
    let next = c.in-Some.next in
    let left = pile_of c.pop.new.self in
    let node = c.read-node.result in
    let leads = leads_on m w in
    let top = ap (to_come m ns leads l u) c.in-Some.ensures.pile in
    let sound = subst (AllSound m ns) c.in-Some.ensures.pile c.loop-next.invariant.2 in
    let rooms = subst Rooms c.in-Some.ensures.pile c.loop-next.invariant.3 in
    let coming = top ∙ turn-off m leads l u ns next left node c.read-node.ensures c.in_default-leading.ensures in (
      c.in-Some.ensures.places ∙ c.loop-next.invariant.0,
      omega (arith, c.in-Some.ensures.depth, c.loop-next.invariant.1),
      sound.1,
      rooms.1,
      omega (arith, c.loop-next.invariant.4, ap length coming),
      omega (arith, c.loop-next.invariant.5),
      listing-passed m l u w ns next node c.read-node.ensures _ _ _ c.loop-next.matches _ _ coming c.loop-next.invariant.6 c.in_default-leading.ensures,
    )

pub returns : goal.returns
returns g c =
    let m = g.K.Kind.meaning in
    let ns = c.args.nodes.now in
    let l = c.args.bounds.lower in
    let u = c.args.bounds.upper in
    let w = c.args.threshold in
    let leads = leads_on m w in
    let empty = c.in_default.ensures.pile in
    let whole = append-nil (visits m l u w (tree_of m ns c.args.tree)) in
    let ends = listing-end _ _ _ _ _ c.loop-next.invariant.6 (ap (λ es. matches m l u w (flat_map kept_at (to_come m ns leads l u es))) empty) in
    let listed = ap (λ vs. matches m l u w (flat_map kept_at vs)) whole in
    let visited : c.loop-next.visited ≡ length (visits m l u w (tree_of m ns c.args.tree)) = omega (arith, c.loop-next.invariant.4, ap (λ es. length (to_come m ns leads l u es)) empty, ap length whole) in
    record {
      counts = ap (λ n. (n, c.loop-next.visited)) (ends.0 ∙ ap length listed) ∙ ap (λ n. (length (ranged m l u w (tree_of m ns c.args.tree)), n)) visited;
      list = ends.1 ∙ ap (filled c.args.list.now) listed;
    }
