-- One leaf less: heights, degrees, recorded keys, places and counts, whatever the order.
use Rattle.std.proofs.Common.{◌≡◌, ℕ, zero, suc, ◌+◌, ◌-◌, ◌<◌, ◌≤◌, Bool, true, false, ltb, leb, List, [], ◌∷◌, ◌++◌, length, None, Option, sym, refl, ap, ◌∙◌, subst, append_assoc, append-nil, arith, length-append}
use Rattle.std.proofs.lemmas.Bool.{cond_both, leb-true, leb-false, ltb-true, ltb-false, true≢false, false≢true}
use Rattle.kinds.specs.Meaning.{Meaning}
use Rattle.plain.specs.declared.point.Key.{Key}
use Rattle.plain.specs.declared.point.Point.{Point}
use Rattle.trees.specs.Tree.{Tree, Forest, gone, leaf, fork, none, more, ◌⊕◌, front, back, count, nth_tree, place_of, children_of, points, points_all, size, size_all, uses, uses_all, hit}
use Rattle.trees.specs.Rules.{Level, LevelAll, Degrees, DegreesAll, Keyed, KeyedAll}
use Rattle.trees.specs.Kept.{pick, take_out}
use Rattle.trees.specs.Moves.{first_key, settled, seated, halves, joined, mended, removed, lowered, without_key}
use Rattle.trees.proofs.Forests.{points-⊕, uses-⊕, size-⊕, count-⊕, count-front, assoc-⊕}
use Rattle.trees.proofs.Bares.{bare_all, alike-uses_all, alike-count_all, alike-size_all, alike-level, alike-degrees, alike-keyed, alike-uses, alike_size, pull-bare, pull-points, seated-bare, seated-points, take_bare, take-points}
use Rattle.shapes.specs.Shape.{Fine, Joined, Shrunk, Holds, Changed, occurs}
use Rattle.shapes.proofs.Forks.{fine-⊕, fine-left, fine-right, fine-none, fine-alike, fork-fine, first-keyed, pick-inside, pair, pair-fine, pair-uses, pair_size, halves-bare, halves-points}
use Rattle.shapes.proofs.Grows.{length-⊕, parted}
use Rattle.shapes.proofs.Mends.{built, mended-cases}

module _ {C W R : Type 0} (m : Meaning C W R) (a b : ℕ) (one : 1 ≤ a) (twice : a + a ≤ b) where
  -- ---- two neighbours
  module _ (h : ℕ) (k : Key C) (p : ℕ) (i j : Key C) (c d : Option (Point C W)) (q : ℕ) (ls rs : Forest C W) (qs : List ℕ) (fl : Fine a b h ls) (fr : Fine a b h rs) where
    abbrev all : Forest C W
    all = ls ⊕ rs

    abbrev seat : Forest C W → Forest C W
    seat us = seated m (suc h) d (seated m (suc h) c us)

    seat-bare : (us : Forest C W) → bare_all (seat us) ≡ bare_all us
    seat-bare us = seated-bare m (suc h) d (seated m (suc h) c us) ∙ seated-bare m (suc h) c us

    seat-points : (us : Forest C W) → points_all (seat us) ≡ points_all us
    seat-points us = seated-points m (suc h) d (seated m (suc h) c us) ∙ seated-points m (suc h) c us

    -- are one fork
    fused : a ≤ count ls + count rs → count ls + count rs < b → Joined a b (suc h) (fork p i c ls) (fork q j d rs) qs (seat (more (settled m (suc h) p k all) none)) (q ∷ qs)
    fused low high =
        let us = seat (more (settled m (suc h) p k all) none) in
        let t = fork p (first_key k all) None all in
        let like : bare_all us ≡ bare_all (more t none) = seat-bare (more (settled m (suc h) p k all) none) ∙ ap (λ u. more u none) (pull-bare m (suc h) t) in
        let n = count-⊕ ls rs in
        let v = alike-count_all us (more t none) like in
        let z = alike-size_all us (more t none) like in
        let y = size-⊕ ls rs in
        record {
          fine = fine-alike a b (suc h) us (more t none) like (fork-fine a b h p k None all (fine-⊕ a b h ls rs fl fr) (omega arith) (omega arith) (omega arith));
          least = omega arith;
          most = omega arith;
          same = seat-points (more (settled m (suc h) p k all) none) ∙ ap (λ l. l ++ []) (pull-points m (suc h) t) ∙ append-nil (points_all all) ∙ points-⊕ ls rs;
          places = λ x. omega (arith, alike-uses_all us (more t none) like x, uses-⊕ ls rs x);
          free = omega arith;
        }

    -- or share their children
    shared : (n : ℕ) → a ≤ n → n ≤ b → n + a ≤ count ls + count rs → count ls + count rs ≤ n + b → Joined a b (suc h) (fork p i c ls) (fork q j d rs) qs (seat (halves m (suc h) p q k n all)) qs
    shared n low high rest top =
        let us = seat (halves m (suc h) p q k n all) in
        let like : bare_all us ≡ bare_all (pair p q k n all) = seat-bare (halves m (suc h) p q k n all) ∙ halves-bare m (suc h) p q k n all in
        let e = count-⊕ ls rs in
        let v = alike-count_all us (pair p q k n all) like in
        let z = alike-size_all us (pair p q k n all) like in
        let w = pair_size p q k n all in
        let y = size-⊕ ls rs in
        record {
          fine = fine-alike a b (suc h) us (pair p q k n all) like (pair-fine a b h p q k n all (fine-⊕ a b h ls rs fl fr) one low high (omega arith) (omega arith));
          least = omega arith;
          most = omega arith;
          same = seat-points (halves m (suc h) p q k n all) ∙ halves-points m (suc h) p q k n all ∙ points-⊕ ls rs;
          places = λ x. omega (arith, alike-uses_all us (pair p q k n all) like x, pair-uses p q k n all x, uses-⊕ ls rs x);
          free = omega arith;
        }

    -- the left one has one child too few, or else the right one
    pub joined-forks : (left : Bool) → count ls ≤ b → count rs ≤ b → (left ≡ true → (suc (count ls) ≡ a) × (a ≤ count rs)) → (left ≡ false → (a ≤ count ls) × (suc (count rs) ≡ a))
        → Joined a b (suc h) (fork p i c ls) (fork q j d rs) qs (joined m b (suc h) k left (fork p i c ls) (fork q j d rs) qs).0 (joined m b (suc h) k left (fork p i c ls) (fork q j d rs) qs).1
    joined-forks true tl tr on off =
        let e = count-⊕ ls rs in
        let n = on refl in
        cond_both {A = Forest C W × List ℕ} (ltb (count all) b) (seat (more (settled m (suc h) p k all) none), q ∷ qs) (seat (halves m (suc h) p q k (suc (count ls)) all), qs)
        (λ r. Joined a b (suc h) (fork p i c ls) (fork q j d rs) qs r.0 r.1)
        (λ v. let w = ltb-true (count all) b v in fused (omega arith) (omega arith))
        (λ v. let w = ltb-false (count all) b v in shared (suc (count ls)) (omega arith) (omega arith) (omega arith) (omega arith))
    joined-forks false tl tr on off =
        let e = count-⊕ ls rs in
        let n = off refl in
        cond_both {A = Forest C W × List ℕ} (ltb (count all) b) (seat (more (settled m (suc h) p k all) none), q ∷ qs) (seat (halves m (suc h) p q k (count ls - 1) all), qs)
        (λ r. Joined a b (suc h) (fork p i c ls) (fork q j d rs) qs r.0 r.1)
        (λ v. let w = ltb-true (count all) b v in fused (omega arith) (omega arith))
        (λ v. let w = ltb-false (count all) b v in shared (count ls - 1) (omega arith) (omega arith) (omega arith) (omega arith))

  -- a tree of height suc h is a fork
  fork-level : (h : ℕ) (t : Tree C W) → Level t (suc h) → LevelAll (children_of t) h
  fork-level h (gone p) l = absurd l
  fork-level h (leaf p x o) l = absurd (omega arith)
  fork-level h (fork p k o ts) l = l

  fork-keyed : (h : ℕ) (t : Tree C W) → Level t (suc h) → Keyed t → KeyedAll (children_of t)
  fork-keyed h (gone p) l y = absurd l
  fork-keyed h (leaf p x o) l y = absurd (omega arith)
  fork-keyed h (fork p k o ts) l y = y.1

  pub fork-degrees : (h : ℕ) (t : Tree C W) → Level t (suc h) → Degrees t a b → (a ≤ count (children_of t)) × (count (children_of t) ≤ b) × DegreesAll (children_of t) a b
  fork-degrees h (gone p) l d = absurd l
  fork-degrees h (leaf p x o) l d = absurd (omega arith)
  fork-degrees h (fork p k o ts) l d = d

  degrees-fork : (h : ℕ) (t : Tree C W) → Level t (suc h) → a ≤ count (children_of t) → count (children_of t) ≤ b → DegreesAll (children_of t) a b → Degrees t a b
  degrees-fork h (gone p) l x y d = absurd l
  degrees-fork h (leaf p z o) l x y d = absurd (omega arith)
  degrees-fork h (fork p k o ts) l x y d = (x, y, d)

  -- its children are fine
  pub record Loose (h : ℕ) (t : Tree C W) : Type 0 where
    pub level : Level t (suc h)
    pub degrees : DegreesAll (children_of t) a b
    pub keyed : Keyed t
    pub most : count (children_of t) ≤ b

  pub joined-shape : (h : ℕ) (k : Key C) (left : Bool) (l r : Tree C W) (qs : List ℕ) → Loose h l → Loose h r
      → (left ≡ true → (suc (count (children_of l)) ≡ a) × (a ≤ count (children_of r))) → (left ≡ false → (a ≤ count (children_of l)) × (suc (count (children_of r)) ≡ a))
      → Joined a b (suc h) l r qs (joined m b (suc h) k left l r qs).0 (joined m b (suc h) k left l r qs).1
  joined-shape h k left (gone p) r qs x y on off = absurd x.level
  joined-shape h k left (leaf p z o) r qs x y on off = absurd (omega (arith, x.level))
  joined-shape h k left (fork p i c ls) (gone q) qs x y on off = absurd y.level
  joined-shape h k left (fork p i c ls) (leaf q z o) qs x y on off = absurd (omega (arith, y.level))
  joined-shape h k left (fork p i c ls) (fork q j d rs) qs x y on off =
      joined-forks h k p i j c d q ls rs qs
      (record { level = x.level; degrees = x.degrees; keyed = x.keyed.1 })
      (record { level = y.level; degrees = y.degrees; keyed = y.keyed.1 })
      left x.most y.most on off

  -- ---- a fork in which neighbours were joined, or none
  -- t is made of a fork at p over ts, with the same points
  record Spliced (h p : ℕ) (ts : Forest C W) (qs : List ℕ) (t : Tree C W) (rs : List ℕ) : Type 0 where
    level : Level t (suc h)
    degrees : DegreesAll (children_of t) a b
    keyed : Keyed t
    least : count ts ≤ suc (count (children_of t))
    most : count (children_of t) ≤ count ts
    same : points t ≡ points_all ts
    places : (q : ℕ) → uses t q + occurs q rs ≡ hit p q + uses_all ts q + occurs q qs
    root : place_of t ≡ p
    free : size t + length rs ≡ suc (size_all ts) + length qs

  spliced : (h p : ℕ) (k : Key C) (o : Option (Point C W)) (l r : Tree C W) (ls rs us : Forest C W) (qs q' : List ℕ) → Fine a b h ls → Fine a b h rs → Joined a b h l r qs us q'
      → Spliced h p (ls ⊕ more l (more r rs)) qs (fork p (first_key k (ls ⊕ (us ⊕ rs))) o (ls ⊕ (us ⊕ rs))) q'
  spliced h p k o l r ls rs us qs q' fl fr j =
      let old = ls ⊕ more l (more r rs) in
      let new = ls ⊕ (us ⊕ rs) in
      let f = fine-⊕ a b h ls (us ⊕ rs) fl (fine-⊕ a b h us rs j.fine fr) in
      let c = count-⊕ ls (more l (more r rs)) in
      let d = count-⊕ ls (us ⊕ rs) in
      let e = count-⊕ us rs in
      let z = size-⊕ ls (more l (more r rs)) in
      let y = size-⊕ ls (us ⊕ rs) in
      let x = size-⊕ us rs in
      let s : points_all (us ⊕ rs) ≡ points_all (more l (more r rs)) = points-⊕ us rs ∙ ap (λ v. v ++ points_all rs) j.same ∙ append_assoc (points l) (points r) (points_all rs) in
      record {
        level = f.level;
        degrees = f.degrees;
        keyed = (first-keyed k h new f.level f.keyed (omega (arith, j.least)), f.keyed);
        least = omega (arith, j.least);
        most = omega (arith, j.most);
        same = points-⊕ ls (us ⊕ rs) ∙ ap (λ v. points_all ls ++ v) s ∙ sym (points-⊕ ls (more l (more r rs)));
        places = λ q. omega (arith, j.places q, uses-⊕ ls (more l (more r rs)) q, uses-⊕ ls (us ⊕ rs) q, uses-⊕ us rs q);
        root = refl;
        free = omega (arith, j.free);
      }

  unspliced : (h p : ℕ) (k : Key C) (o : Option (Point C W)) (ts : Forest C W) (qs : List ℕ) → Fine a b h ts → 1 ≤ count ts → Spliced h p ts qs (fork p (first_key k ts) o ts) qs
  unspliced h p k o ts qs f n = record {
    level = f.level;
    degrees = f.degrees;
    keyed = (first-keyed k h ts f.level f.keyed n, f.keyed);
    least = omega arith;
    most = omega arith;
    same = refl;
    places = λ q. omega arith;
    root = refl;
    free = omega arith;
  }

  loose : (h : ℕ) (t : Tree C W) → Fine a b (suc h) (more t none) → Loose h t
  loose h t f =
      let d = fork-degrees h t f.level.0 f.degrees.0 in
      record { level = f.level.0; degrees = d.2; keyed = f.keyed.0; most = d.1 }

  fine-loose : (h : ℕ) (t : Tree C W) → Loose h t → a ≤ count (children_of t) → Fine a b (suc h) (more t none)
  fine-loose h t x n = record { level = (x.level, tt); degrees = (degrees-fork h t x.level n x.most x.degrees, tt); keyed = (x.keyed, tt) }

  -- a fork of which number i may have one child too few
  mended-spliced : (h p : ℕ) (k : Key C) (o : Option (Point C W)) (i : ℕ) (l : Forest C W) (t : Tree C W) (r : Forest C W) (qs : List ℕ) → i ≡ count l → 1 ≤ count l + count r
      → Fine a b (suc h) l → Fine a b (suc h) r → Loose h t → a ≤ suc (count (children_of t))
      → Spliced (suc h) p (l ⊕ more t r) qs (mended m a b (suc h) p k o i (l ⊕ more t r) qs).0 (mended m a b (suc h) p k o i (l ⊕ more t r) qs).1
  mended-spliced h p k o i l t r qs at two fl fr x n =
      mended-cases m a b (suc h) p k o qs (λ v. Spliced (suc h) p (l ⊕ more t r) qs v.0 v.1) i l t r at two
      (λ rich. unspliced (suc h) p k o (l ⊕ more t r) qs (fine-⊕ a b (suc h) l (more t r) fl (fine-⊕ a b (suc h) (more t none) r (fine-loose h t x rich) fr)) (omega (arith, count-⊕ l (more t r))))
      (λ poor w s e f.
      let g : Fine a b (suc h) (more w s) = subst (Fine a b (suc h)) f fr in
      let fw = fine-left a b (suc h) (more w none) s g in
      let d = fork-degrees h w fw.level.0 fw.degrees.0 in
      subst (λ v. Spliced (suc h) p v qs (built p k o ((joined m b (suc h) k true t w qs).0 ⊕ s) (joined m b (suc h) k true t w qs).1).0 (joined m b (suc h) k true t w qs).1)
      (sym (λ j. e j ⊕ more t (f j)))
      (spliced (suc h) p k o t w none s (joined m b (suc h) k true t w qs).0 qs (joined m b (suc h) k true t w qs).1 (fine-none a b (suc h)) (fine-right a b (suc h) (more w none) s g)
      (joined-shape h k true t w qs x (loose h w fw) (λ z. (omega arith, d.0)) (λ z. absurd (true≢false z)))))
      (λ poor w s e.
      let g : Fine a b (suc h) (s ⊕ more w none) = subst (Fine a b (suc h)) e fl in
      let fw = fine-right a b (suc h) s (more w none) g in
      let d = fork-degrees h w fw.level.0 fw.degrees.0 in
      subst (λ v. Spliced (suc h) p v qs (built p k o (s ⊕ ((joined m b (suc h) k false w t qs).0 ⊕ r)) (joined m b (suc h) k false w t qs).1).0 (joined m b (suc h) k false w t qs).1)
      (sym (ap (λ v. v ⊕ more t r) e ∙ assoc-⊕ s (more w none) (more t r)))
      (spliced (suc h) p k o w t s r (joined m b (suc h) k false w t qs).0 qs (joined m b (suc h) k false w t qs).1 (fine-left a b (suc h) s (more w none) g) fr
      (joined-shape h k false w t qs (loose h w fw) x (λ z. absurd (false≢true z)) (λ z. (d.0, omega arith)))))

  -- ---- a leaf
  leaf-uses : (t : Tree C W) (q : ℕ) → Level t 0 → uses t q ≡ hit (place_of t) q
  leaf-uses (gone p) q l = absurd l
  leaf-uses (leaf p x o) q l = refl
  leaf-uses (fork p k o ts) q l = absurd l

  leaf-size : (t : Tree C W) → Level t 0 → size t ≡ 1
  leaf-size (gone p) l = absurd l
  leaf-size (leaf p x o) l = refl
  leaf-size (fork p k o ts) l = absurd l

  leaf-points : (t : Tree C W) → Level t 0 → length (points t) ≡ 1
  leaf-points (gone p) l = absurd l
  leaf-points (leaf p x o) l = refl
  leaf-points (fork p k o ts) l = absurd l

  -- a fork over leaves, of which one goes
  leafless : (p : ℕ) (j : Key C) (o : Option (Point C W)) (ts l r : Forest C W) (t : Tree C W) (qs : List ℕ) → l ⊕ more t r ≡ ts → Fine a b 0 ts → 2 ≤ count ts
      → Shrunk a b 1 qs (fork p j o ts) (fork p (first_key j (l ⊕ r)) o (l ⊕ r)) (place_of t ∷ qs)
  leafless p j o ts l r t qs e f two =
      let f' : Fine a b 0 (l ⊕ more t r) = subst (Fine a b 0) (sym e) f in
      let ft = fine-right a b 0 l (more t r) f' in
      let g = fine-⊕ a b 0 l r (fine-left a b 0 l (more t r) f') (fine-right a b 0 (more t none) r ft) in
      let c : count ts ≡ count l + suc (count r) = ap count (sym e) ∙ count-⊕ l (more t r) in
      let d = count-⊕ l r in
      let z : size_all ts ≡ size_all l + (size t + size_all r) = ap size_all (sym e) ∙ size-⊕ l (more t r) in
      let n : length (points_all ts) ≡ length (points_all l) + (length (points t) + length (points_all r)) = ap (λ u. length (points_all u)) (sym e) ∙ length-⊕ l (more t r) ∙ ap (λ i. length (points_all l) + i) (length-append (points t) (points_all r)) in
      record {
        level = g.level;
        degrees = g.degrees;
        keyed = (first-keyed j 0 (l ⊕ r) g.level g.keyed (omega arith), g.keyed);
        least = omega arith;
        most = omega arith;
        counted = omega (arith, leaf-points t ft.level.0, length-⊕ l r);
        places = λ q. omega (arith, leaf-uses t q ft.level.0, uses-⊕ l (more t r) q, uses-⊕ l r q, ap (λ v. uses_all v q) e);
        root = refl;
        free = omega (arith, leaf-size t ft.level.0, size-⊕ l r);
      }

  -- a fork over forks, of which one has shrunk
  shrunk-fork : (h p : ℕ) (j : Key C) (o : Option (Point C W)) (i : ℕ) (ts l r : Forest C W) (t u : Tree C W) (qs rs : List ℕ) → l ⊕ more t r ≡ ts → i ≡ count l → Fine a b (suc h) ts → 2 ≤ count ts → Shrunk a b (suc h) qs t u rs
      → Shrunk a b (suc (suc h)) qs (fork p j o ts) (mended m a b (suc h) p j o i (l ⊕ more u r) rs).0 (mended m a b (suc h) p j o i (l ⊕ more u r) rs).1
  shrunk-fork h p j o i ts l r t u qs rs e at f two s =
      let f' : Fine a b (suc h) (l ⊕ more t r) = subst (Fine a b (suc h)) (sym e) f in
      let ft = fine-right a b (suc h) l (more t r) f' in
      let d = fork-degrees h t ft.level.0 ft.degrees.0 in
      let c : count ts ≡ count l + suc (count r) = ap count (sym e) ∙ count-⊕ l (more t r) in
      let c' = count-⊕ l (more u r) in
      let z : size_all ts ≡ size_all l + (size t + size_all r) = ap size_all (sym e) ∙ size-⊕ l (more t r) in
      let n : length (points_all ts) ≡ length (points_all l) + (length (points t) + length (points_all r)) = ap (λ v. length (points_all v)) (sym e) ∙ length-⊕ l (more t r) ∙ ap (λ i. length (points_all l) + i) (length-append (points t) (points_all r)) in
      let n' : length (points_all (l ⊕ more u r)) ≡ length (points_all l) + (length (points u) + length (points_all r)) = length-⊕ l (more u r) ∙ ap (λ i. length (points_all l) + i) (length-append (points u) (points_all r)) in
      let v = mended-spliced h p j o i l u r rs at (omega arith) (fine-left a b (suc h) l (more t r) f') (fine-right a b (suc h) (more t none) r ft)
      (record { level = s.level; degrees = s.degrees; keyed = s.keyed; most = omega (arith, s.most, d.1) }) (omega (arith, s.least, d.0)) in
      record {
        level = v.level;
        degrees = v.degrees;
        keyed = v.keyed;
        least = omega (arith, v.least);
        most = omega (arith, v.most);
        counted = ap (λ ps. suc (length ps)) v.same ∙ omega (arith, s.counted);
        places = λ q. omega (arith, v.places q, s.places q, uses-⊕ l (more t r) q, uses-⊕ l (more u r) q, ap (λ w. uses_all w q) e);
        root = v.root;
        free = omega (arith, v.free, s.free, size-⊕ l (more u r));
      }

  module _ (many : 2 ≤ a) where
    -- it has at least 2 children, since with 1 over leaves no child, and so no key, would be left
    pub removed-shrunk : (h : ℕ) (k : Key C) (qs : List ℕ) (t : Tree C W) → Level t (suc h) → Keyed t → 2 ≤ count (children_of t) → DegreesAll (children_of t) a b
        → Shrunk a b (suc h) qs t (removed m a b (suc h) k qs t).0 (removed m a b (suc h) k qs t).1
    removed-shrunk h k qs (gone p) l y two d = absurd l
    removed-shrunk h k qs (leaf p x o) l y two d = absurd (omega arith)
    removed-shrunk zero k qs (fork p j o ts) l y two d =
        let i = pick m k ts in
        let e = parted i ts (pick-inside m k ts (omega arith)) in
        leafless p j o ts (front i ts) (back (i + 1) ts) (nth_tree i ts) qs e (record { level = l; degrees = d; keyed = y.1 }) two
    removed-shrunk (suc h) k qs (fork p j o ts) l y two d =
        let i = pick m k ts in
        let lt = pick-inside m k ts (omega arith) in
        let e = parted i ts lt in
        let f : Fine a b (suc h) ts = record { level = l; degrees = d; keyed = y.1 } in
        let f' : Fine a b (suc h) (front i ts ⊕ more (nth_tree i ts) (back (i + 1) ts)) = subst (Fine a b (suc h)) (sym e) f in
        let ft = fine-right a b (suc h) (front i ts) (more (nth_tree i ts) (back (i + 1) ts)) f' in
        let c = fork-degrees h (nth_tree i ts) ft.level.0 ft.degrees.0 in
        shrunk-fork h p j o i ts (front i ts) (back (i + 1) ts) (nth_tree i ts) (removed m a b (suc h) k qs (nth_tree i ts)).0 qs (removed m a b (suc h) k qs (nth_tree i ts)).1
        e (sym (count-front i ts (omega arith))) f two
        (removed-shrunk h k qs (nth_tree i ts) ft.level.0 ft.keyed.0 (omega (arith, c.0)) c.2)

-- ---- the whole tree
module _ {C W R : Type 0} (m : Meaning C W R) where
  abbrev Result : Type 0
  Result = Forest C W × ℕ × List ℕ

  -- a root with one child goes
  lowered-changed : (h : ℕ) (f : Forest C W) (qs : List ℕ) (t : Tree C W) (rs : List ℕ) → Fine 2 4 h (children_of t) → Level t (suc h) → Keyed t → 1 ≤ count (children_of t) → count (children_of t) ≤ 4
      → ((q : ℕ) → uses t q + occurs q rs ≡ uses_all f q + occurs q qs) → size t + length rs ≡ size_all f + length qs
      → Changed f qs (lowered m (suc h) t rs).0 (lowered m (suc h) t rs).1 (lowered m (suc h) t rs).2 × (points_all (lowered m (suc h) t rs).0 ≡ points t)
  lowered-changed h f qs (gone p) rs fine l k low high places free = absurd l
  lowered-changed h f qs (leaf p x o) rs fine l k low high places free = absurd (omega arith)
  lowered-changed h f qs (fork p j o ts) rs fine l k low high places free =
      let e : suc h - 1 ≡ h = omega arith in
      let us = seated m (suc h - 1) o ts in
      let like = seated-bare m (suc h - 1) o ts in
      let fs : Fine 2 4 (suc h - 1) us = fine-alike 2 4 (suc h - 1) us ts like (subst (λ i. Fine 2 4 i ts) (sym e) fine) in
      let c = alike-count_all us ts like in
      let z = alike-size_all us ts like in
      cond_both {A = Result} (leb 2 (count ts)) (more (fork p j o ts) none, suc h, rs) (us, suc h - 1, p ∷ rs)
      (λ r. Changed f qs r.0 r.1 r.2 × (points_all r.0 ≡ points_all ts))
      (λ v. (
        record {
          holds = record { one = omega arith; fine = record { level = (l, tt); degrees = ((leb-true 2 (count ts) v, high, fine.degrees), tt); keyed = (k, tt) } };
          places = λ q. omega (arith, places q);
          free = omega arith;
        },
        append-nil (points_all ts),
      ))
      (λ v. (
        record {
          holds = record { one = omega (arith, leb-false 2 (count ts) v); fine = fs };
          places = λ q. omega (arith, places q, alike-uses_all us ts like q);
          free = omega arith;
        },
        seated-points m (suc h - 1) o ts,
      ))

  -- there is a tree: from none no leaf can go
  pub without-key-changed : (h : ℕ) (k : Key C) (qs : List ℕ) (f : Forest C W) → Holds h f → count f ≡ 1
      → Changed f qs (without_key m 2 4 h k qs f).0 (without_key m 2 4 h k qs f).1 (without_key m 2 4 h k qs f).2 × (suc (length (points_all (without_key m 2 4 h k qs f).0)) ≡ length (points_all f))
  without-key-changed h k qs none w n = absurd (omega arith)
  without-key-changed h k qs (more t (more u us)) w n = absurd (omega arith)
  without-key-changed zero k qs (more t none) w n =
      let l = w.fine.level.0 in (
        record {
          holds = record { one = omega arith; fine = fine-none 2 4 0 };
          places = λ q. omega (arith, leaf-uses m 2 4 (omega arith) (omega arith) t q l);
          free = omega (arith, leaf-size m 2 4 (omega arith) (omega arith) t l);
        },
        sym (ap length (append-nil (points t)) ∙ leaf-points m 2 4 (omega arith) (omega arith) t l),
      )
  without-key-changed (suc h) k qs (more t none) w n =
      let u = take_out m (suc h) k t in
      let like = take_bare m (suc h) k t in
      let l = alike-level u t like (suc h) w.fine.level.0 in
      let d = fork-degrees m 2 4 (omega arith) (omega arith) h u l (alike-degrees u t like 2 4 w.fine.degrees.0) in
      let s = removed-shrunk m 2 4 (omega arith) (omega arith) (omega arith) h k qs u l (alike-keyed u t like w.fine.keyed.0) d.0 d.2 in
      let r = removed m 2 4 (suc h) k qs u in
      let c = lowered-changed h (more t none) qs r.0 r.1
      (record { level = fork-level m 2 4 (omega arith) (omega arith) h r.0 s.level; degrees = s.degrees; keyed = fork-keyed m 2 4 (omega arith) (omega arith) h r.0 s.level s.keyed })
      s.level s.keyed (omega (arith, s.least, d.0)) (omega (arith, s.most, d.1))
      (λ q. omega (arith, s.places q, alike-uses u t like q)) (omega (arith, s.free, alike_size u t like)) in
      (c.0, ap (λ ps. suc (length ps)) c.1 ∙ s.counted ∙ ap length (take-points m (suc h) k t) ∙ ap length (sym (append-nil (points t))))
