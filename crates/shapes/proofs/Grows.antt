-- One leaf more: heights, degrees, recorded keys, places and counts, whatever the order.
use Rattle.std.proofs.Common.{◌≡◌, ℕ, zero, suc, ◌+◌, ◌<◌, ◌≤◌, cond, leb, List, [], ◌∷◌, ◌++◌, length, Some, None, Option, sym, refl, ap, ◌∙◌, subst, append-nil, add-one, arith, length-append}
use Rattle.std.specs.Ordering.{is_lt}
use Rattle.std.proofs.lemmas.Bool.{cond_both, leb-true, leb-false, le-leb}
use Rattle.kinds.specs.Meaning.{Meaning}
use Rattle.plain.specs.declared.point.Key.{Key}
use Rattle.plain.specs.declared.point.Point.{Point}
use Rattle.plain.specs.Points.{key_order}
use Rattle.trees.specs.Tree.{Tree, Forest, gone, leaf, fork, none, more, ◌⊕◌, front, back, count, nth_tree, points, points_all, size, size_all, uses_all}
use Rattle.trees.specs.Rules.{Level, Degrees, Keyed}
use Rattle.trees.specs.Kept.{pick}
use Rattle.trees.specs.Moves.{first_key, settled, seated, beside, divided, inserted, topped, with_point}
use Rattle.trees.proofs.Forests.{points-⊕, uses-⊕, size-⊕, count-⊕, split-nth}
use Rattle.trees.proofs.Bares.{bare_all, alike-uses_all, alike-count_all, alike-size_all, pull-bare, pull-points, seated-bare, seated-points}
use Rattle.shapes.specs.Shape.{Fine, Grew, Holds, Changed, wants, occurs, full, full_all}
use Rattle.shapes.proofs.Forks.{fine-⊕, fine-left, fine-right, fine-alike, fork-fine, pick-inside, divided-forked}

-- a fork that may be split is counted as full
full-bit : (b n : ℕ) → b ≤ n → 1 ≤ cond (leb b n) 1 0
full-bit b n h = rw (le-leb b n h) (omega arith)

module _ {C W : Type 0} where
  pub full-⊕ : (ts us : Forest C W) (b : ℕ) → full_all (ts ⊕ us) b ≡ full_all ts b + full_all us b
  full-⊕ none us b = omega arith
  full-⊕ (more t ts) us b = omega (arith, full-⊕ ts us b)

  pub length-⊕ : (ts us : Forest C W) → length (points_all (ts ⊕ us)) ≡ length (points_all ts) + length (points_all us)
  length-⊕ ts us = ap length (points-⊕ ts us) ∙ length-append (points_all ts) (points_all us)

  -- a tree stands between those before it and those after it
  pub parted : (i : ℕ) (ts : Forest C W) → i < count ts → front i ts ⊕ more (nth_tree i ts) (back (i + 1) ts) ≡ ts
  parted i ts h = rw add-one (split-nth i ts h)

module _ {C W R : Type 0} (m : Meaning C W R) (a b half : ℕ) (one : 1 ≤ a) (low : a ≤ half) (high : half + a ≤ suc b) where
  -- at a leaf
  beside-grew : (x : Point C W) (q : ℕ) (qs : List ℕ) (p : ℕ) (y : Point C W) (o : Option (Point C W)) → Grew a b 0 (q ∷ qs) (leaf p y o) (beside m x q p y o) qs
  beside-grew x q qs p y o =
      cond_both (is_lt (key_order m x.key y.key)) (more (leaf p x None) (more (leaf q y o) none)) (more (leaf p y o) (more (leaf q x None) none))
      (λ us. Grew a b 0 (q ∷ qs) (leaf p y o) us qs) (λ e. two x y None o) (λ e. two y x o None)
    where
      two : (u v : Point C W) (c d : Option (Point C W)) → Grew a b 0 (q ∷ qs) (leaf p y o) (more (leaf p u c) (more (leaf q v d) none)) qs
      two u v c d = record {
        fine = record { level = (refl, (refl, tt)); degrees = (tt, (tt, tt)); keyed = (tt, (tt, tt)) };
        least = omega arith;
        most = omega arith;
        counted = refl;
        places = λ z. omega arith;
        root = refl;
        nodes = omega arith;
        free = omega arith;
      }

  -- at a fork, of whose children one has grown
  fork-grew : (h p : ℕ) (k : Key C) (o : Option (Point C W)) (ts l r us : Forest C W) (t : Tree C W) (qs rs : List ℕ) → l ⊕ more t r ≡ ts → Fine a b h ts → a ≤ count ts → count ts ≤ b
      → suc (full (fork p k o ts) b) ≤ length qs → Grew a b h qs t us rs
      → Grew a b (suc h) qs (fork p k o ts) (divided m b half (suc h) p k o (l ⊕ (us ⊕ r)) rs).0 (divided m b half (suc h) p k o (l ⊕ (us ⊕ r)) rs).1
  fork-grew h p k o ts l r us t qs rs e f least most enough g =
      let new = l ⊕ (us ⊕ r) in
      let f' : Fine a b h (l ⊕ more t r) = subst (Fine a b h) (sym e) f in
      let fl = fine-left a b h l (more t r) f' in
      let fr = fine-right a b h (more t none) r (fine-right a b h l (more t r) f') in
      let c : count ts ≡ count l + suc (count r) = ap count (sym e) ∙ count-⊕ l (more t r) in
      let c' : count new ≡ count l + (count us + count r) = count-⊕ l (us ⊕ r) ∙ ap (λ n. count l + n) (count-⊕ us r) in
      let z : size_all ts ≡ size_all l + (size t + size_all r) = ap size_all (sym e) ∙ size-⊕ l (more t r) in
      let z' : size_all new ≡ size_all l + (size_all us + size_all r) = size-⊕ l (us ⊕ r) ∙ ap (λ n. size_all l + n) (size-⊕ us r) in
      let n : length (points_all ts) ≡ length (points_all l) + length (points_all (more t r)) = ap (λ u. length (points_all u)) (sym e) ∙ length-⊕ l (more t r) in
      let n' : length (points_all new) ≡ length (points_all l) + (length (points_all us) + length (points_all r)) = length-⊕ l (us ⊕ r) ∙ ap (λ i. length (points_all l) + i) (length-⊕ us r) in
      let nt : length (points_all (more t r)) ≡ length (points t) + length (points_all r) = length-append (points t) (points_all r) in
      let u : full_all ts b ≡ full_all l b + (full t b + full_all r b) = ap (λ v. full_all v b) (sym e) ∙ full-⊕ l (more t r) b in
      let d = divided-forked m a b half one low high h p k o new rs (fine-⊕ a b h l (us ⊕ r) fl (fine-⊕ a b h us r g.fine fr))
      (omega (arith, g.least)) (omega (arith, g.most)) (λ lt. omega (arith, g.nodes, g.free, full-bit b (count ts) (omega (arith, g.most)))) in
      record {
        fine = d.fine;
        least = d.least;
        most = d.most;
        counted = ap length d.same ∙ omega (arith, g.counted);
        places = λ q. omega (arith, d.places q, g.places q, uses-⊕ l (us ⊕ r) q, uses-⊕ us r q, uses-⊕ l (more t r) q, ap (λ v. uses_all v q) e);
        root = d.root;
        nodes = omega (arith, g.nodes, d.nodes (cond (leb b (count ts)) 1 0) (λ lt. full-bit b (count ts) (omega (arith, g.most))));
        free = omega (arith, g.free, d.free);
      }

  -- the keys recorded in t are asked for, since a fork takes its key from its first child
  pub inserted-grew : (h : ℕ) (x : Point C W) (qs : List ℕ) (t : Tree C W) → Level t h → Degrees t a b → Keyed t → suc (full t b) ≤ length qs
      → Grew a b h qs t (inserted m b half h x qs t).0 (inserted m b half h x qs t).1
  inserted-grew h x qs (gone p) l d k n = absurd l
  inserted-grew h x [] (leaf p y o) l d k n = absurd (omega arith)
  inserted-grew h x (q ∷ qs) (leaf p y o) l d k n = subst (λ i. Grew a b i (q ∷ qs) (leaf p y o) (beside m x q p y o) qs) (sym l) (beside-grew x q qs p y o)
  inserted-grew zero x qs (fork p j o ts) l d k n = absurd l
  inserted-grew (suc h) x qs (fork p j o ts) l (least, most, ds) k n =
      let i = pick m x.key ts in
      let f : Fine a b h ts = record { level = l; degrees = ds; keyed = k.1 } in
      let e = parted i ts (pick-inside m x.key ts (omega arith)) in
      let f' : Fine a b h (front i ts ⊕ more (nth_tree i ts) (back (i + 1) ts)) = subst (Fine a b h) (sym e) f in
      let g = fine-right a b h (front i ts) (more (nth_tree i ts) (back (i + 1) ts)) f' in
      let u = ap (λ v. full_all v b) (sym e) ∙ full-⊕ (front i ts) (more (nth_tree i ts) (back (i + 1) ts)) b in
      fork-grew h p j o ts (front i ts) (back (i + 1) ts) (inserted m b half h x qs (nth_tree i ts)).0 (nth_tree i ts) qs (inserted m b half h x qs (nth_tree i ts)).1 e f least most n
      (inserted-grew h x qs (nth_tree i ts) g.level.0 g.degrees.0 g.keyed.0 (omega arith))

-- ---- the whole tree
module _ {C W R : Type 0} (m : Meaning C W R) where
  abbrev Result : Type 0
  Result = Forest C W × ℕ × List ℕ

  -- one tree, and a point that joins those kept
  one-changed : (h : ℕ) (x : Point C W) (f us : Forest C W) (qs rs : List ℕ) → Fine 2 4 h us → count us ≡ 1 → ((q : ℕ) → uses_all us q + occurs q rs ≡ uses_all f q + occurs q qs) → size_all us + length rs ≡ size_all f + length qs
      → Changed f qs (seated m h (Some x) us) h rs
  one-changed h x f us qs rs fine n places free =
      let like = seated-bare m h (Some x) us in
      let c = alike-count_all (seated m h (Some x) us) us like in
      let z = alike-size_all (seated m h (Some x) us) us like in
      record {
        holds = record { one = omega arith; fine = fine-alike 2 4 h (seated m h (Some x) us) us like fine };
        places = λ q. omega (arith, places q, alike-uses_all (seated m h (Some x) us) us like q);
        free = omega arith;
      }

  -- a new root over two trees
  root-changed : (h : ℕ) (x : Point C W) (f us : Forest C W) (qs : List ℕ) (p : ℕ) (rs : List ℕ) → Fine 2 4 h us → count us ≡ 2 → ((q : ℕ) → uses_all us q + occurs q (p ∷ rs) ≡ uses_all f q + occurs q qs) → size_all us + length (p ∷ rs) ≡ size_all f + length qs
      → Changed f qs (seated m (suc h) (Some x) (more (settled m (suc h) p x.key us) none)) (suc h) rs
  root-changed h x f us qs p rs fine n places free =
      let t = fork p (first_key x.key us) None us in
      let like : bare_all (more (settled m (suc h) p x.key us) none) ≡ bare_all (more t none) = ap (λ u. more u none) (pull-bare m (suc h) t) in
      one-changed (suc h) x f (more (settled m (suc h) p x.key us) none) qs rs
      (fine-alike 2 4 (suc h) (more (settled m (suc h) p x.key us) none) (more t none) like (fork-fine 2 4 h p x.key None us fine (omega arith) (omega arith) (omega arith)))
      refl
      (λ q. omega (arith, places q, alike-uses_all (more (settled m (suc h) p x.key us) none) (more t none) like q))
      (omega (arith, alike-size_all (more (settled m (suc h) p x.key us) none) (more t none) like))

  topped-changed : (h : ℕ) (x : Point C W) (f us : Forest C W) (qs rs : List ℕ) → Fine 2 4 h us → 1 ≤ count us → count us ≤ 2 → 1 ≤ length rs → ((q : ℕ) → uses_all us q + occurs q rs ≡ uses_all f q + occurs q qs) → size_all us + length rs ≡ size_all f + length qs
      → Changed f qs (topped m h x us rs).0 (topped m h x us rs).1 (topped m h x us rs).2
  topped-changed h x f us qs [] fine low high n places free = absurd (omega arith)
  topped-changed h x f us qs (p ∷ rs) fine low high n places free =
      cond_both {A = Result} (leb (count us) 1) (seated m h (Some x) us, h, p ∷ rs) (seated m (suc h) (Some x) (more (settled m (suc h) p x.key us) none), suc h, rs)
      (λ r. Changed f qs r.0 r.1 r.2)
      (λ e. one-changed h x f us qs (p ∷ rs) fine (omega (arith, leb-true (count us) 1 e)) places free)
      (λ e. root-changed h x f us qs p rs fine (omega (arith, leb-false (count us) 1 e)) places free)

  -- the points of the result are those of the trees
  pub topped-points : (h : ℕ) (x : Point C W) (us : Forest C W) (rs : List ℕ) → points_all (topped m h x us rs).0 ≡ points_all us
  topped-points h x us [] = seated-points m h (Some x) us
  topped-points h x us (p ∷ rs) =
      cond_both {A = Result} (leb (count us) 1) (seated m h (Some x) us, h, p ∷ rs) (seated m (suc h) (Some x) (more (settled m (suc h) p x.key us) none), suc h, rs)
      (λ r. points_all r.0 ≡ points_all us)
      (λ e. seated-points m h (Some x) us)
      (λ e. seated-points m (suc h) (Some x) (more (settled m (suc h) p x.key us) none) ∙ ap (λ l. l ++ []) (pull-points m (suc h) (fork p (first_key x.key us) None us)) ∙ append-nil (points_all us))

  -- a new root may be laid above the split of the old one, so one place more is asked for than in a tree
  pub with-point-changed : (h : ℕ) (x : Point C W) (qs : List ℕ) (f : Forest C W) → Holds h f → wants f ≤ length qs
      → Changed f qs (with_point m 4 3 h x qs f).0 (with_point m 4 3 h x qs f).1 (with_point m 4 3 h x qs f).2 × (length (points_all (with_point m 4 3 h x qs f).0) ≡ suc (length (points_all f)))
  with-point-changed h x [] none w n = absurd (omega arith)
  with-point-changed h x (q ∷ qs) none w n = (
    record {
      holds = record { one = omega arith; fine = record { level = (refl, tt); degrees = (tt, tt); keyed = (tt, tt) } };
      places = λ z. omega arith;
      free = omega arith;
    },
    refl,
  )
  with-point-changed h x qs (more t (more u us)) w n = absurd (omega (arith, w.one))
  with-point-changed h x qs (more t none) w n =
      let g = inserted-grew m 2 4 3 (omega arith) (omega arith) (omega arith) h x qs t w.fine.level.0 w.fine.degrees.0 w.fine.keyed.0 (omega arith) in
      let r = inserted m 4 3 h x qs t in (
        topped-changed h x (more t none) r.0 qs r.1 g.fine g.least g.most (omega (arith, g.nodes, g.free)) (λ q. omega (arith, g.places q)) (omega (arith, g.free)),
        ap length (topped-points h x r.0 r.1) ∙ g.counted ∙ ap (λ l. suc (length l)) (sym (append-nil (points t))),
      )
