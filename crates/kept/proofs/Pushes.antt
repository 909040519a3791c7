-- A point joins those that a tree keeps.
use Rattle.std.proofs.Common.{◌≡◌, ℕ, zero, suc, ◌+◌, Bool, true, false, cond, Some, None, Option, refl, arith}
use Rattle.std.specs.Ordering.{is_lt}
use Rattle.std.proofs.lemmas.Bool.{cond-false}
use Rattle.kinds.specs.Meaning.{Meaning, First, Second}
use Rattle.plain.specs.declared.point.Key.{Key}
use Rattle.plain.specs.declared.point.Point.{Point}
use Rattle.plain.specs.Points.{rank_order, FitPoint}
use Rattle.trees.specs.Tree.{Tree, Forest, gone, leaf, fork, none, more, nth_tree, alter, points, points_all}
use Rattle.trees.specs.Kept.{pick, push}
use Rattle.trees.specs.Heap.{total, tally, tally_all, over, Room, RoomAll, Heap, HeapAll, Sorted, SortedAll}
use Rattle.trees.proofs.Bares.{alter-points, push-points}
use Rattle.kept.proofs.Ranks.{unfit, fits, all_fit, no-rank, rank-carry, rank-asym}
use Rattle.kept.proofs.Sums.{total-split, tally-split, tallies-zero, among}
use Rattle.kept.proofs.Onlys.{only, rest, parted, only_self}
use Rattle.kept.proofs.Puts.{put-alter, put-tally, put-less, put-heap, put-heap-of, put-sorted}
use Rattle.kept.proofs.Picks.{pick-inside, pick_total}

module _ {C W R : Type 0} (m : Meaning C W R) (first : First m) (second : Second m) where
  -- the children of a fork
  pub below-fork : (h p : ℕ) (k : Key C) (o : Option (Point C W)) (ts : Forest C W) → Sorted m (suc h) (fork p k o ts) → SortedAll m h ts
  below-fork h p k o ts s = record { level = s.level; keyed = s.keyed.1; good = s.good }

  -- room among the children for a point is room in the child on its way
  pub room-down : (h : ℕ) (x : Point C W) (t : Tree C W) (ts : Forest C W) → SortedAll m h (more t ts) → HeapAll m (more t ts) → RoomAll x (more t ts) → Room x (nth_tree (pick m x.key (more t ts)) (more t ts))
  room-down h x t ts s hs room f =
      let i = pick m x.key (more t ts) in
      let c = nth_tree i (more t ts) in
      let put = put-alter i (λ (u : Tree C W). u) (more t ts) (pick-inside m first second x.key t ts) in
      let g = only m x.key f in
      let r = rest m x.key f in
      omega (
        arith,
        tally-split f g r (parted m x.key f) c,
        total-split f g r (parted m x.key f) (points c),
        only_self m first x f,
        pick_total m first second x.key f h (more t ts) s,
        room g,
        put-less put g,
        among m c (put-heap-of m put hs) r,
      )

  -- x has joined the points kept
  abbrev Joined : Point C W → Tree C W → Tree C W → Type 0
  Joined x t u = Heap m u × ((f : Point C W → ℕ) → tally u f ≡ f x + tally t f)

  abbrev JoinedAll : Point C W → Forest C W → Forest C W → Type 0
  JoinedAll x ts us = HeapAll m us × ((f : Point C W → ℕ) → tally_all us f ≡ f x + tally_all ts f)

  -- at the child on its way, if it joins there
  seat-with : (h : ℕ) (x : Point C W) (ts : Forest C W) → ((c : Tree C W) → Sorted m h c → Heap m c → Room x c → Joined x c (push m h x c)) →
      SortedAll m h ts → HeapAll m ts → RoomAll x ts → JoinedAll x ts (alter (pick m x.key ts) (push m h x) ts)
  seat-with h x none ih s hs room = absurd (omega (arith, room (λ z. 1)))
  seat-with h x (more t ts) ih s hs room =
      let i = pick m x.key (more t ts) in
      let put = put-alter i (push m h x) (more t ts) (pick-inside m first second x.key t ts) in
      let j = ih (nth_tree i (more t ts)) (put-sorted m put h s) (put-heap-of m put hs) (room-down h x t ts s hs room) in
      (put-heap m put hs j.0, λ f. omega (arith, put-tally put f, j.1 f))

  -- a leaf that keeps nothing takes its point
  at_leaf : (p : ℕ) (x y : Point C W) (o : Option (Point C W)) → Room x (leaf p y o) → Joined x (leaf p y o) (leaf p y (Some x))
  at_leaf p x y None room = (λ f. omega (arith, room f), λ f. omega arith)
  at_leaf p x y (Some z) room = absurd (omega (arith, room (λ w. 1)))

  -- so does a fork that keeps none, since there is none below it
  at-empty : (p : ℕ) (k : Key C) (x : Point C W) (ts : Forest C W) → Heap m (fork p k None ts) → Room x (fork p k None ts) → Joined x (fork p k None ts) (fork p k (Some x) ts)
  at-empty p k x ts (am, ov, hs) room = (
    (
      (λ f. omega (arith, room f)),
      tallies-zero (over m None) (over m None) (over m (Some x)) (λ y _ o. absurd (omega (arith, o))) ts ov ov,
      hs,
    ),
    λ f. omega arith,
  )

  -- of x and the point y that a fork keeps, a stays and b goes on
  at_fork : (p : ℕ) (k : Key C) (x y a b : Point C W) (ts us : Forest C W) → ((f : Point C W → ℕ) → f a + f b ≡ f x + f y) →
      (FitPoint m x → FitPoint m y → (is_lt (rank_order m b a) ≡ false) × ((z : Point C W) → FitPoint m z → is_lt (rank_order m z y) ≡ false → is_lt (rank_order m z a) ≡ false)) →
      (RoomAll b ts → JoinedAll b ts us) → points_all us ≡ points_all ts → total (unfit m) (points_all ts) ≡ 0 →
      Heap m (fork p k (Some y) ts) → Room x (fork p k (Some y) ts) → Joined x (fork p k (Some y) ts) (fork p k (Some a) us)
  at_fork p k x y a b ts us ex after seat e fit (am, ov, hs) room =
      let u = unfit m in
      let fx : u x ≡ 0 = omega (arith, room u) in
      let fy : u y ≡ 0 = omega (arith, room u) in
      let ft : tally_all ts u ≡ 0 = omega (arith, room u) in
      let rk = after (fits m x fx) (fits m y fy) in
      let j = seat (λ f. omega (arith, room f, ex f)) in
      let o = over m (Some a) in
      let on : tally_all ts o ≡ 0 = tallies-zero u (over m (Some y)) o (λ z fz w. stays z (rk.1 z (fits m z fz) (no-rank (is_lt (rank_order m z y)) w))) ts ft ov in
      let ob : o b ≡ 0 = stays b rk.0 in (
        ((λ f. rw e (omega (arith, j.1 f, ex f, room f))), omega (arith, j.1 o), j.0),
        λ f. omega (arith, j.1 f, ex f),
      )
    where
      stays : (z : Point C W) → is_lt (rank_order m z a) ≡ false → over m (Some a) z ≡ 0
      stays z q = cond-false (is_lt (rank_order m z a)) 1 0 q

  pub push-heap : (h : ℕ) (x : Point C W) (t : Tree C W) → Sorted m h t → Heap m t → Room x t → Heap m (push m h x t) × ((f : Point C W → ℕ) → tally (push m h x t) f ≡ f x + tally t f)
  push-heap h x (gone p) s hp room = absurd s.level
  push-heap h x (leaf p y o) s hp room = at_leaf p x y o room
  push-heap h x (fork p k None ts) s hp room = at-empty p k x ts hp room
  push-heap zero x (fork p k (Some y) ts) s hp room = absurd s.level
  push-heap (suc h) x (fork p k (Some y) ts) s hp room = go (is_lt (rank_order m x y)) refl (λ (z : Point C W). seat-with h z ts (push-heap h z) (below-fork h p k (Some y) ts s) hp.2)
    where
      go : (b : Bool) → is_lt (rank_order m x y) ≡ b → ((z : Point C W) → RoomAll z ts → JoinedAll z ts (alter (pick m z.key ts) (push m h z) ts)) →
          Joined x (fork p k (Some y) ts) (fork p k (Some (cond b x y)) (alter (pick m (cond b y x).key ts) (push m h (cond b y x)) ts))
      go true e seat =
          at_fork p k x y x y ts (alter (pick m y.key ts) (push m h y) ts) (λ f. refl)
          (λ fx fy. let d = rank-asym m first second x y fx fy e in (d, λ z fz r. rank-carry m first second z y x fz fy fx r d))
          (seat y) (alter-points (pick m y.key ts) (push m h y) ts (push-points m h y)) (all_fit m (points_all ts) s.good.1) hp room
      go false e seat =
          at_fork p k x y y x ts (alter (pick m x.key ts) (push m h x) ts) (λ f. omega arith)
          (λ fx fy. (e, λ z fz r. r))
          (seat x) (alter-points (pick m x.key ts) (push m h x) ts (push-points m h x)) (all_fit m (points_all ts) s.good.1) hp room

  pub seat-heap : (h : ℕ) (x : Point C W) (ts : Forest C W) → SortedAll m h ts → HeapAll m ts → RoomAll x ts →
      HeapAll m (alter (pick m x.key ts) (push m h x) ts) × ((f : Point C W → ℕ) → tally_all (alter (pick m x.key ts) (push m h x) ts) f ≡ f x + tally_all ts f)
  seat-heap h x ts s hs room = seat-with h x ts (push-heap h x) s hs room
