-- One leaf less: the points are those of the set without the point, and the points kept stand as they should.
use Rattle.std.proofs.Common.{◌≡◌, ℕ, zero, suc, ◌+◌, ◌-◌, ◌<◌, ◌≤◌, Bool, true, false, cond, ltb, leb, List, [], ◌∷◌, ◌++◌, is_some, Some, None, Option, sym, refl, ap, ◌∙◌, subst, append_assoc, append-nil, arith}
use Rattle.std.specs.Ordering.{is_eq}
use Rattle.std.proofs.lemmas.Bool.{cond_both, ltb-false, true≢false}
use Rattle.kinds.specs.Meaning.{Meaning, First, Second}
use Rattle.plain.specs.declared.point.Key.{Key}
use Rattle.plain.specs.declared.point.Point.{Point}
use Rattle.plain.specs.Points.{key_order}
use Rattle.plain.specs.Set.{weight_at, stands, remove}
use Rattle.plain.proofs.Sets.{rising-remove, fit-remove}
use Rattle.trees.specs.Tree.{Tree, Forest, gone, leaf, fork, none, more, ◌⊕◌, front, back, count, nth_tree, children_of, points, points_all}
use Rattle.trees.specs.Rules.{Level, DegreesAll}
use Rattle.trees.specs.Kept.{pick, take_out}
use Rattle.trees.specs.Heap.{total, held, tally, tally_all, over, Room, RoomAll, Heap, HeapAll, Good, Sorted, SortedAll}
use Rattle.trees.specs.Moves.{exchange, first_key, settled, seated, halves, joined, mended, removed, lowered, without_key}
use Rattle.trees.proofs.Forests.{points-⊕, tally-⊕, total-⊕, count-⊕, count-front, assoc-⊕, level-⊕, keyed-⊕, heap-⊕, heap-parts}
use Rattle.trees.proofs.Bares.{alike-level, alike-degrees, alike-keyed, take_bare, take-points}
use Rattle.kept.proofs.Picks.{pick-sides, pick-weight}
use Rattle.kept.proofs.Pushes.{below-fork, room-down}
use Rattle.kept.proofs.Takes.{take-heap}
use Rattle.shapes.specs.Shape.{Fine}
use Rattle.shapes.specs.Settles.{Settles, Settled, Whole}
use Rattle.shapes.proofs.Forks.{pick-inside, fine-left, fine-right}
use Rattle.shapes.proofs.Grows.{parted}
use Rattle.shapes.proofs.Mends.{built, mended-cases}
use Rattle.shapes.proofs.Shrinks.{fork-degrees, removed-shrunk, without-key-changed}
use Rattle.shapes.proofs.Seats.{good_left, sorted-right, sorted_head, sorted-one, settled-stays, halves-stay, seated-stays}
use Rattle.shapes.proofs.Lists.{total-remove, remove-skip, remove-stop}

module _ {C W R : Type 0} (m : Meaning C W R) (first : First m) (second : Second m) where
  -- ---- two neighbours: one fork over their children, or two
  module _ (h : ℕ) (k : Key C) (p q : ℕ) (i j : Key C) (c d : Option (Point C W)) (ls rs : Forest C W) (qs : List ℕ) (s : SortedAll m h (ls ⊕ rs)) (hl : Heap m (fork p i c ls)) (hr : Heap m (fork q j d rs)) where
    abbrev all : Forest C W
    all = ls ⊕ rs

    abbrev seat : Forest C W → Forest C W
    seat us = seated m (suc h) d (seated m (suc h) c us)

    -- what they kept is seated below
    seats : (us : Forest C W) → Settles m (suc h) (points_all all) (tally_all all) us → Settles m (suc h) (points_all all) (λ f. held f d + (held f c + tally_all all f)) (seat us)
    seats us a =
        let room : (f : Point C W → ℕ) → held f d + (held f c + tally_all all f) ≤ total f (points_all all) = λ f. omega (arith, hl.0 f, hr.0 f, tally-⊕ ls rs f, total-⊕ ls rs f) in
        seated-stays m first second (suc h) d (points_all all) (λ f. held f c + tally_all all f) (seated m (suc h) c us)
        (seated-stays m first second (suc h) c (points_all all) (tally_all all) us a (λ f. omega (arith, room f))) room

    both : HeapAll m all
    both = heap-⊕ m ls rs hl.2 hr.2

    joined_at : (b : ℕ) (left : Bool) (n : ℕ) → 1 ≤ count ls + count rs → (b ≤ count ls + count rs → (1 ≤ n) × (n < count ls + count rs)) → n ≡ cond left (suc (count ls)) (count ls - 1)
        → Settles m (suc h) (points_all all) (λ f. held f d + (held f c + tally_all all f)) (joined m b (suc h) k left (fork p i c ls) (fork q j d rs) qs).0
    joined_at b left n some inside e =
        let v = count-⊕ ls rs in
        subst (λ z. Settles m (suc h) (points_all all) (λ f. held f d + (held f c + tally_all all f)) (cond {A = Forest C W × List ℕ} (ltb (count all) b) (seat (more (settled m (suc h) p k all) none), q ∷ qs) (seat (halves m (suc h) p q k z all), qs)).0) e
        (cond_both {A = Forest C W × List ℕ} (ltb (count all) b) (seat (more (settled m (suc h) p k all) none), q ∷ qs) (seat (halves m (suc h) p q k n all), qs)
        (λ r. Settles m (suc h) (points_all all) (λ f. held f d + (held f c + tally_all all f)) r.0)
        (λ w. seats (more (settled m (suc h) p k all) none) (settled-stays m first second h p k all s both (omega arith)))
        (λ w.
        let z = inside (omega (arith, ltb-false (count all) b w)) in
        seats (halves m (suc h) p q k n all) (halves-stay m first second h p q k n all s both z.0 (omega (arith, z.1)))))

  module _ (a b : ℕ) (one : 1 ≤ a) (twice : a + a ≤ b) where
    -- the left one has one child too few, or else the right one
    abbrev Uneven : Bool → Tree C W → Tree C W → Type 0
    Uneven true l r = (suc (count (children_of l)) ≡ a) × (a ≤ count (children_of r))
    Uneven false l r = (a ≤ count (children_of l)) × (suc (count (children_of r)) ≡ a)

    joined-settles : (h : ℕ) (k : Key C) (left : Bool) (l r : Tree C W) (qs : List ℕ) → Sorted m (suc h) l → Sorted m (suc h) r → Good m (points l ++ points r) → Heap m l → Heap m r → Uneven left l r
        → Settles m (suc h) (points l ++ points r) (λ f. tally l f + tally r f) (joined m b (suc h) k left l r qs).0
    joined-settles h k left (gone p) r qs sl sr good hl hr un = absurd sl.level
    joined-settles h k left (leaf p x o) r qs sl sr good hl hr un = absurd (omega (arith, sl.level))
    joined-settles h k left (fork p i c ls) (gone q) qs sl sr good hl hr un = absurd sr.level
    joined-settles h k left (fork p i c ls) (leaf q x o) qs sl sr good hl hr un = absurd (omega (arith, sr.level))
    joined-settles h k left (fork p i c ls) (fork q j d rs) qs sl sr good hl hr un =
        let s : SortedAll m h (ls ⊕ rs) = record {
          level = level-⊕ ls rs h sl.level sr.level;
          keyed = keyed-⊕ ls rs sl.keyed.1 sr.keyed.1;
          good = subst (Good m) (sym (points-⊕ ls rs)) good;
        } in
        let r = by_side left un (joined_at h k p q i j c d ls rs qs s hl hr b) in
        record { sorted = r.sorted; heap = r.heap; same = r.same ∙ points-⊕ ls rs; tallied = λ f. omega (arith, r.tallied f, tally-⊕ ls rs f) }
      where
        by_side : {P : Bool → Type 0} (left : Bool) → Uneven left (fork p i c ls) (fork q j d rs)
            → ((left : Bool) (n : ℕ) → 1 ≤ count ls + count rs → (b ≤ count ls + count rs → (1 ≤ n) × (n < count ls + count rs)) → n ≡ cond left (suc (count ls)) (count ls - 1) → P left) → P left
        by_side true un f = f true (suc (count ls)) (omega arith) (λ v. (omega arith, omega arith)) refl
        by_side false un f = f false (count ls - 1) (omega arith) (λ v. (omega arith, omega arith)) refl

    -- ---- a fork in which neighbours were joined, or none
    -- children below a node that keeps o
    record Ready (h : ℕ) (o : Option (Point C W)) (ts : Forest C W) : Type 0 where
      sorted : SortedAll m h ts
      heap : HeapAll m ts
      room : (f : Point C W → ℕ) → held f o + tally_all ts f ≤ total f (points_all ts)
      lower : tally_all ts (over m o) ≡ 0

    abbrev Over : Option (Point C W) → Forest C W → Tree C W → Type 0
    Over o ts t = Settled m (points_all ts) (λ f. held f o + tally_all ts f) t

    spliced : (h p : ℕ) (k : Key C) (o : Option (Point C W)) (l r : Tree C W) (ls rs us : Forest C W) → Ready h o (ls ⊕ more l (more r rs)) → Settles m h (points l ++ points r) (λ f. tally l f + tally r f) us
        → Over o (ls ⊕ more l (more r rs)) (fork p (first_key k (ls ⊕ (us ⊕ rs))) o (ls ⊕ (us ⊕ rs)))
    spliced h p k o l r ls rs us y s =
        let old = ls ⊕ more l (more r rs) in
        let new = ls ⊕ (us ⊕ rs) in
        let hp = heap-parts m ls (more l (more r rs)) y.heap in
        let tal : (f : Point C W → ℕ) → tally_all new f ≡ tally_all old f = λ f. omega (arith, tally-⊕ ls (us ⊕ rs) f, tally-⊕ us rs f, tally-⊕ ls (more l (more r rs)) f, s.tallied f) in
        let inner : points_all (us ⊕ rs) ≡ points_all (more l (more r rs)) = points-⊕ us rs ∙ ap (λ v. v ++ points_all rs) s.same ∙ append_assoc (points l) (points r) (points_all rs) in
        let same : points_all new ≡ points_all old = points-⊕ ls (us ⊕ rs) ∙ ap (λ v. points_all ls ++ v) inner ∙ sym (points-⊕ ls (more l (more r rs))) in
        record {
          heap = ((λ f. omega (arith, tal f, y.room f, ap (total f) same)), tal (over m o) ∙ y.lower, heap-⊕ m ls (us ⊕ rs) hp.0 (heap-⊕ m us rs s.heap hp.1.1.1));
          same = same;
          tallied = λ f. omega (arith, tal f);
        }

    unspliced : (h p : ℕ) (k : Key C) (o : Option (Point C W)) (ts : Forest C W) → Ready h o ts → Over o ts (fork p (first_key k ts) o ts)
    unspliced h p k o ts y = record { heap = (y.room, y.lower, y.heap); same = refl; tallied = λ f. refl }

    -- neighbours, as they stand among the children
    next-settles : (h : ℕ) (k : Key C) (o : Option (Point C W)) (left : Bool) (l r : Tree C W) (ls rs : Forest C W) (qs : List ℕ) → Ready (suc h) o (ls ⊕ more l (more r rs)) → Uneven left l r
        → Settles m (suc h) (points l ++ points r) (λ f. tally l f + tally r f) (joined m b (suc h) k left l r qs).0
    next-settles h k o left l r ls rs qs y un =
        let s = sorted-right m (suc h) ls (more l (more r rs)) y.sorted in
        let hp = (heap-parts m ls (more l (more r rs)) y.heap).1 in
        joined-settles h k left l r qs (sorted_head m (suc h) l (more r rs) s) (sorted_head m (suc h) r rs (sorted-right m (suc h) (more l none) (more r rs) s))
        (good_left m (points l ++ points r) (points_all rs) (subst (Good m) (sym (append_assoc (points l) (points r) (points_all rs))) s.good)) hp.0 hp.1.0 un

    mended-settled : (h p : ℕ) (k : Key C) (o : Option (Point C W)) (i : ℕ) (l : Forest C W) (t : Tree C W) (r : Forest C W) (qs : List ℕ) → i ≡ count l → 1 ≤ count l + count r
        → Fine a b (suc h) l → Fine a b (suc h) r → a ≤ suc (count (children_of t)) → Ready (suc h) o (l ⊕ more t r) → Over o (l ⊕ more t r) (mended m a b (suc h) p k o i (l ⊕ more t r) qs).0
    mended-settled h p k o i l t r qs at two fl fr n y =
        mended-cases m a b (suc h) p k o qs (λ v. Over o (l ⊕ more t r) v.0) i l t r at two
        (λ rich. unspliced (suc h) p k o (l ⊕ more t r) y)
        (λ poor w s e f.
        let g : Fine a b (suc h) (more w s) = subst (Fine a b (suc h)) f fr in
        let fw = fine-left a b (suc h) (more w none) s g in
        let d = fork-degrees m a b one twice h w fw.level.0 fw.degrees.0 in
        let is : l ⊕ more t r ≡ more t (more w s) = λ j. e j ⊕ more t (f j) in
        let z : Ready (suc h) o (more t (more w s)) = subst (Ready (suc h) o) is y in
        subst (λ v. Over o v (built p k o ((joined m b (suc h) k true t w qs).0 ⊕ s) (joined m b (suc h) k true t w qs).1).0) (sym is)
        (spliced (suc h) p k o t w none s (joined m b (suc h) k true t w qs).0 z (next-settles h k o true t w none s qs z (omega arith, d.0))))
        (λ poor w s e.
        let g : Fine a b (suc h) (s ⊕ more w none) = subst (Fine a b (suc h)) e fl in
        let fw = fine-right a b (suc h) s (more w none) g in
        let d = fork-degrees m a b one twice h w fw.level.0 fw.degrees.0 in
        let is : l ⊕ more t r ≡ s ⊕ more w (more t r) = ap (λ v. v ⊕ more t r) e ∙ assoc-⊕ s (more w none) (more t r) in
        let z : Ready (suc h) o (s ⊕ more w (more t r)) = subst (Ready (suc h) o) is y in
        subst (λ v. Over o v (built p k o (s ⊕ ((joined m b (suc h) k false w t qs).0 ⊕ r)) (joined m b (suc h) k false w t qs).1).0) (sym is)
        (spliced (suc h) p k o w t s r (joined m b (suc h) k false w t qs).0 z (next-settles h k o false w t s r qs z (d.0, omega arith))))

  -- ---- the leaf that goes
  leaf_room : (x : Point C W) (t : Tree C W) → Level t 0 → Room x t → (f : Point C W → ℕ) → tally t f ≡ 0
  leaf_room x (gone p) l room f = absurd l
  leaf_room x (leaf p y None) l room f = refl
  leaf_room x (leaf p y (Some z)) l room f = absurd (omega (arith, room (λ v. 1)))
  leaf_room x (fork p k o ts) l room f = absurd l

  leaf-remove : (k : Key C) (t : Tree C W) → Level t 0 → stands m k (points t) ≡ true → remove m k (points t) ≡ []
  leaf-remove k (gone p) l e = absurd l
  leaf-remove k (leaf p y o) l e =
      (elim (is_eq (key_order m k y.key)) as (λ b. is_some (cond b (Some y.weight) None) ≡ true → cond b [] (y ∷ []) ≡ []) [
        | true ↦ λ s. refl
        | false ↦ λ s. absurd (true≢false (sym s))
      ]) e
  leaf-remove k (fork p j o ts) l e = absurd l

  good-remove : (k : Key C) (ps : List (Point C W)) → Good m ps → Good m (remove m k ps)
  good-remove k ps (r, f) = (rising-remove m first k ps r, fit-remove m k ps f)

  -- ---- among the children
  children-drop : (h : ℕ) (k : Key C) (ts us : Forest C W) → SortedAll m h ts → 1 ≤ count ts → stands m k (points_all ts) ≡ true → points_all us ≡ remove m k (points (nth_tree (pick m k ts) ts))
      → points_all (exchange (pick m k ts) 1 us ts) ≡ remove m k (points_all ts)
  children-drop h k ts us s n on e =
      let i = pick m k ts in
      let l = front i ts in
      let t = nth_tree i ts in
      let r = back (i + 1) ts in
      let (before, later) = pick-sides m first second k h ts s in
      let was : points_all ts ≡ points_all l ++ (points t ++ points_all r) = ap points_all (sym (parted i ts (pick-inside m k ts n))) ∙ points-⊕ l (more t r) in
      points-⊕ l (us ⊕ r) ∙ ap (λ v. points_all l ++ v) (points-⊕ us r ∙ ap (λ v. v ++ points_all r) e ∙ sym (remove-stop m k (points t) (points_all r) (ap is_some (pick-weight m first second k h ts s) ∙ on)))
      ∙ sym (remove-skip m first k (points_all l) (points t ++ points_all r) before) ∙ ap (remove m k) (sym was)

  -- room for a point is room in the child on its way
  room_in : (h : ℕ) (x : Point C W) (ts : Forest C W) → SortedAll m h ts → HeapAll m ts → 1 ≤ count ts → RoomAll x ts → Room x (nth_tree (pick m x.key ts) ts)
  room_in h x none s hp n room = absurd (omega arith)
  room_in h x (more t ts) s hp n room = room-down m first second h x t ts s hp room

  -- ---- in a tree
  module _ (a b : ℕ) (one : 1 ≤ a) (twice : a + a ≤ b) (many : 2 ≤ a) where
    -- x is a point of the tree, and is not kept in it
    pub removed-settled : (h : ℕ) (x : Point C W) (qs : List ℕ) (t : Tree C W) → Sorted m (suc h) t → Heap m t → 2 ≤ count (children_of t) → DegreesAll (children_of t) a b → weight_at m x.key (points t) ≡ Some x.weight → Room x t
        → Settled m (remove m x.key (points t)) (tally t) (removed m a b (suc h) x.key qs t).0
    removed-settled h x qs (gone p) s hp two d is room = absurd s.level
    removed-settled h x qs (leaf p y o) s hp two d is room = absurd (omega (arith, s.level))
    removed-settled zero x qs (fork p j o ts) s (am, ov, hs) two d is room =
        let i = pick m x.key ts in
        let l = front i ts in
        let t = nth_tree i ts in
        let r = back (i + 1) ts in
        let st = below-fork m first second 0 p j o ts s in
        let e = parted i ts (pick-inside m x.key ts (omega arith)) in
        let ft : SortedAll m 0 (l ⊕ more t r) = subst (SortedAll m 0) (sym e) st in
        let lv = (sorted-right m 0 l (more t r) ft).level.0 in
        let hp = heap-parts m l (more t r) (subst (HeapAll m) (sym e) hs) in
        let empty = leaf_room x t lv (room_in 0 x ts st hs (omega arith) (λ f. omega (arith, room f))) in
        let on : stands m x.key (points t) ≡ true = ap is_some (pick-weight m first second x.key 0 ts st ∙ is) in
        let same : points_all (l ⊕ r) ≡ remove m x.key (points_all ts) = children-drop 0 x.key ts none st (omega arith) (ap is_some is) (sym (leaf-remove x.key t lv on)) in
        let tal : (f : Point C W → ℕ) → tally_all (l ⊕ r) f ≡ tally_all ts f = λ f. omega (arith, tally-⊕ l r f, tally-⊕ l (more t r) f, ap (λ v. tally_all v f) e, empty f) in
        record {
          heap = ((λ f. omega (arith, tal f, room f, ap (total f) same, total-remove m first f x (points_all ts) is)), tal (over m o) ∙ ov, heap-⊕ m l r hp.0 hp.1.1);
          same = same;
          tallied = λ f. omega (arith, tal f);
        }
    removed-settled (suc h) x qs (fork p j o ts) s (am, ov, hs) two d is room =
        let i = pick m x.key ts in
        let l = front i ts in
        let t = nth_tree i ts in
        let r = back (i + 1) ts in
        let u = (removed m a b (suc h) x.key qs t).0 in
        let rs = (removed m a b (suc h) x.key qs t).1 in
        let st = below-fork m first second (suc h) p j o ts s in
        let lt = pick-inside m x.key ts (omega arith) in
        let e = parted i ts lt in
        let f : Fine a b (suc h) ts = record { level = s.level; degrees = d; keyed = s.keyed.1 } in
        let f' : Fine a b (suc h) (l ⊕ more t r) = subst (Fine a b (suc h)) (sym e) f in
        let ft = fine-right a b (suc h) l (more t r) f' in
        let fl = fine-left a b (suc h) l (more t r) f' in
        let fr = fine-right a b (suc h) (more t none) r ft in
        let s' : SortedAll m (suc h) (l ⊕ more t r) = subst (SortedAll m (suc h)) (sym e) st in
        let hp = heap-parts m l (more t r) (subst (HeapAll m) (sym e) hs) in
        let c = fork-degrees m a b one twice h t ft.level.0 ft.degrees.0 in
        let shape = removed-shrunk m a b one twice many h x.key qs t ft.level.0 ft.keyed.0 (omega (arith, c.0)) c.2 in
        let on : weight_at m x.key (points t) ≡ Some x.weight = pick-weight m first second x.key (suc h) ts st ∙ is in
        let ih = removed-settled h x qs t (sorted_head m (suc h) t r (sorted-right m (suc h) l (more t r) s')) hp.1.0 (omega (arith, c.0)) c.2 on
        (room_in (suc h) x ts st hs (omega arith) (λ f. omega (arith, room f))) in
        let same : points_all (l ⊕ more u r) ≡ remove m x.key (points_all ts) = children-drop (suc h) x.key ts (more u none) st (omega arith) (ap is_some is) (append-nil (points u) ∙ ih.same) in
        let tal : (f : Point C W → ℕ) → tally_all (l ⊕ more u r) f ≡ tally_all ts f = λ f. omega (arith, tally-⊕ l (more u r) f, tally-⊕ l (more t r) f, ap (λ v. tally_all v f) e, ih.tallied f) in
        let cs : count ts ≡ count l + suc (count r) = ap count (sym e) ∙ count-⊕ l (more t r) in
        let ready : Ready a b one twice (suc h) o (l ⊕ more u r) = record {
          sorted = record {
            level = level-⊕ l (more u r) (suc h) fl.level (shape.level, fr.level);
            keyed = keyed-⊕ l (more u r) fl.keyed (shape.keyed, fr.keyed);
            good = subst (Good m) (sym same) (good-remove x.key (points_all ts) st.good);
          };
          heap = heap-⊕ m l (more u r) hp.0 (ih.heap, hp.1.1);
          room = λ f. omega (arith, tal f, room f, ap (total f) same, total-remove m first f x (points_all ts) is);
          lower = tal (over m o) ∙ ov;
        } in
        let done = mended-settled a b one twice h p j o i l u r rs (sym (count-front i ts (omega arith))) (omega arith) fl fr (omega (arith, shape.least, c.0)) ready in
        record { heap = done.heap; same = done.same ∙ same; tallied = λ f. omega (arith, done.tallied f, tal f) }

  -- ---- the whole tree
  lowered-settles : (h : ℕ) (t : Tree C W) (rs : List ℕ) → Sorted m (suc h) t → Heap m t → Settles m (lowered m (suc h) t rs).1 (points t) (tally t) (lowered m (suc h) t rs).0
  lowered-settles h (gone p) rs s hp = absurd s.level
  lowered-settles h (leaf p x o) rs s hp = absurd (omega (arith, s.level))
  lowered-settles h (fork p k o ts) rs s (am, ov, hs) =
      let e : suc h - 1 ≡ h = omega arith in
      let st : SortedAll m (suc h - 1) ts = subst (λ i. SortedAll m i ts) (sym e) (below-fork m first second h p k o ts s) in
      cond_both {A = Forest C W × ℕ × List ℕ} (leb 2 (count ts)) (more (fork p k o ts) none, suc h, rs) (seated m (suc h - 1) o ts, suc h - 1, p ∷ rs)
      (λ r. Settles m r.1 (points_all ts) (λ f. held f o + tally_all ts f) r.0)
      (λ v. record { sorted = sorted-one m (suc h) (fork p k o ts) s; heap = ((am, ov, hs), tt); same = append-nil (points_all ts); tallied = λ f. omega arith })
      (λ v. seated-stays m first second (suc h - 1) o (points_all ts) (tally_all ts) ts (record { sorted = st; heap = hs; same = refl; tallied = λ f. refl }) am)

  without-point : (h : ℕ) (x : Point C W) (qs : List ℕ) (f : Forest C W) → Whole m h f → weight_at m x.key (points_all f) ≡ Some x.weight
      → Whole m (without_key m 2 4 h x.key qs f).1 (without_key m 2 4 h x.key qs f).0 × (points_all (without_key m 2 4 h x.key qs f).0 ≡ remove m x.key (points_all f))
  without-point h x qs none w is = absurd (true≢false (sym (ap is_some is)))
  without-point h x qs (more t (more u us)) w is = absurd (omega (arith, w.holds.one))
  without-point zero x qs (more t none) w is =
      let nil = append-nil (points t) in (
        record {
          holds = (without-key-changed m 0 x.key qs (more t none) w.holds refl).0.holds;
          good = (tt, tt);
          heap = tt;
          full = λ f. refl;
        },
        sym (ap (remove m x.key) nil ∙ leaf-remove x.key t w.holds.fine.level.0 (ap is_some (ap (weight_at m x.key) (sym nil) ∙ is))),
      )
  without-point (suc h) x qs (more t none) w is =
      let k = x.key in
      let nil = append-nil (points t) in
      let fine = w.holds.fine in
      let u = take_out m (suc h) k t in
      let like = take_bare m (suc h) k t in
      let pu : points u ≡ points t = take-points m (suc h) k t in
      let good : Good m (points t) = subst (Good m) nil w.good in
      let s : Sorted m (suc h) t = record { level = fine.level.0; keyed = fine.keyed.0; good = good } in
      let full : (g : Point C W → ℕ) → tally t g ≡ total g (points t) = λ g. omega (arith, w.full g, ap (total g) nil) in
      let at : weight_at m k (points t) ≡ Some x.weight = ap (weight_at m k) (sym nil) ∙ is in
      let cut : (g : Point C W → ℕ) → g x + total g (remove m k (points t)) ≡ total g (points t) = λ g. total-remove m first g x (points t) at in
      let taken = take-heap m first second (suc h) x t s w.heap.0 (λ g. omega (arith, full g, cut g)) in
      let su : Sorted m (suc h) u = record { level = alike-level u t like (suc h) fine.level.0; keyed = alike-keyed u t like fine.keyed.0; good = subst (Good m) (sym pu) good } in
      let d = fork-degrees m 2 4 (omega arith) (omega arith) h u su.level (alike-degrees u t like 2 4 fine.degrees.0) in
      let shape = removed-shrunk m 2 4 (omega arith) (omega arith) (omega arith) h k qs u su.level su.keyed d.0 d.2 in
      let r = removed m 2 4 (suc h) k qs u in
      let v = removed-settled 2 4 (omega arith) (omega arith) (omega arith) h x qs u su taken.0 d.0 d.2 (ap (weight_at m k) pu ∙ at) (λ g. omega (arith, taken.1 g, full g, ap (total g) pu)) in
      let same : points r.0 ≡ remove m k (points t) = v.same ∙ ap (remove m k) pu in
      let low = lowered-settles h r.0 r.1 (record { level = shape.level; keyed = shape.keyed; good = subst (Good m) (sym same) (good-remove k (points t) good) }) v.heap in (
        record {
          holds = (without-key-changed m (suc h) k qs (more t none) w.holds refl).0.holds;
          good = low.sorted.good;
          heap = low.heap;
          full = λ g. omega (arith, low.tallied g, v.tallied g, taken.1 g, full g, cut g, ap (total g) (low.same ∙ same));
        },
        low.same ∙ same ∙ ap (remove m k) (sym nil),
      )

  -- the point of a key that stands is no longer kept, and its leaf is gone
  pub without-key-whole : (h : ℕ) (k : Key C) (qs : List ℕ) (f : Forest C W) → Whole m h f → stands m k (points_all f) ≡ true
      → Whole m (without_key m 2 4 h k qs f).1 (without_key m 2 4 h k qs f).0 × (points_all (without_key m 2 4 h k qs f).0 ≡ remove m k (points_all f))
  without-key-whole h k qs f w on = go (weight_at m k (points_all f)) refl on
    where
      go : (o : Option W) → weight_at m k (points_all f) ≡ o → is_some o ≡ true → Whole m (without_key m 2 4 h k qs f).1 (without_key m 2 4 h k qs f).0 × (points_all (without_key m 2 4 h k qs f).0 ≡ remove m k (points_all f))
      go None e on = absurd (true≢false (sym on))
      go (Some v) e on = without-point h (record { key = k; weight = v }) qs f w e
