-- Forks over trees that stand side by side, and what a split makes of them.
use Rattle.std.proofs.Common.{◌≡◌, ℕ, suc, ◌+◌, ◌<◌, ◌≤◌, true, false, cond, leb, List, [], ◌∷◌, ◌++◌, length, None, Option, sym, refl, ap, ◌∙◌, subst, ⊎_elim, append-nil, arith}
use Rattle.std.proofs.lemmas.Bool.{cond_both, leb-true, leb-false, cases_lt}
use Rattle.kinds.specs.Meaning.{Meaning}
use Rattle.plain.specs.declared.point.Key.{Key}
use Rattle.plain.specs.declared.point.Point.{Point}
use Rattle.trees.specs.Tree.{Forest, gone, leaf, fork, none, more, ◌⊕◌, front, back, count, nth_tree, place_of, key_of, points_all, size_all, uses_all, hit}
use Rattle.trees.specs.Rules.{LevelAll, KeyedAll, FirstKey}
use Rattle.trees.specs.Kept.{is_before, run, pick}
use Rattle.trees.specs.Moves.{first_key, seated, halves, divided}
use Rattle.trees.proofs.Forests.{points-⊕, uses-⊕, size-⊕, front-back, count-parts, count-front, level-⊕, level-parts, degrees-⊕, degrees-parts, keyed-⊕, keyed-parts}
use Rattle.trees.proofs.Bares.{bare_all, alike-place, alike-uses_all, alike-size_all, alike-level_all, alike-degrees_all, alike-keyed_all, alike-count_all, pull-bare, pull-points, seated-bare, seated-points}
use Rattle.shapes.specs.Shape.{Fine, Forked}

module _ {C W : Type 0} where
  -- ---- trees that stand side by side
  module _ (a b h : ℕ) where
    pub fine-⊕ : (ts us : Forest C W) → Fine a b h ts → Fine a b h us → Fine a b h (ts ⊕ us)
    fine-⊕ ts us f g = record {
      level = level-⊕ ts us h f.level g.level;
      degrees = degrees-⊕ ts us a b f.degrees g.degrees;
      keyed = keyed-⊕ ts us f.keyed g.keyed;
    }

    pub fine-left : (ts us : Forest C W) → Fine a b h (ts ⊕ us) → Fine a b h ts
    fine-left ts us f = record {
      level = (level-parts ts us h f.level).0;
      degrees = (degrees-parts ts us a b f.degrees).0;
      keyed = (keyed-parts ts us f.keyed).0;
    }

    pub fine-right : (ts us : Forest C W) → Fine a b h (ts ⊕ us) → Fine a b h us
    fine-right ts us f = record {
      level = (level-parts ts us h f.level).1;
      degrees = (degrees-parts ts us a b f.degrees).1;
      keyed = (keyed-parts ts us f.keyed).1;
    }

    pub fine-alike : (ss ts : Forest C W) → bare_all ss ≡ bare_all ts → Fine a b h ts → Fine a b h ss
    fine-alike ss ts e f = record {
      level = alike-level_all ss ts e h f.level;
      degrees = alike-degrees_all ss ts e a b f.degrees;
      keyed = alike-keyed_all ss ts e f.keyed;
    }

    pub fine-none : Fine {C = C} {W = W} a b h none
    fine-none = record { level = tt; degrees = tt; keyed = tt }

  -- ---- the key of the first tree is that of the first leaf
  pub first_more : (k : Key C) (xs ys : List (Point C W)) → FirstKey k xs → FirstKey k (xs ++ ys)
  first_more k [] ys f = absurd f
  first_more k (x ∷ xs) ys f = f

  pub first-keyed : (k : Key C) (h : ℕ) (ts : Forest C W) → LevelAll ts h → KeyedAll ts → 1 ≤ count ts → FirstKey (first_key k ts) (points_all ts)
  first-keyed k h none l d n = absurd (omega arith)
  first-keyed k h (more (gone p) ts) l d n = absurd l.0
  first-keyed k h (more (leaf p x o) ts) l d n = refl
  first-keyed k h (more (fork p j o us) ts) l d n = first_more j (points_all us) (points_all ts) d.0.0

  -- ---- a fork
  pub fork-fine : (a b h p : ℕ) (k : Key C) (o : Option (Point C W)) (ts : Forest C W) → Fine a b h ts → 1 ≤ count ts → a ≤ count ts → count ts ≤ b → Fine a b (suc h) (more (fork p (first_key k ts) o ts) none)
  fork-fine a b h p k o ts f n d e = record {
    level = (f.level, tt);
    degrees = ((d, e, f.degrees), tt);
    keyed = ((first-keyed k h ts f.level f.keyed n, f.keyed), tt);
  }

  -- ---- two forks that share the children
  -- before points are pulled up
  abbrev pub pair : ℕ → ℕ → Key C → ℕ → Forest C W → Forest C W
  pair p q k n ts = more (fork p (first_key k (front n ts)) None (front n ts)) (more (fork q (first_key k (back n ts)) None (back n ts)) none)

  pub pair-fine : (a b h p q : ℕ) (k : Key C) (n : ℕ) (ts : Forest C W) → Fine a b h ts → 1 ≤ a → a ≤ n → n ≤ b → n + a ≤ count ts → count ts ≤ n + b → Fine a b (suc h) (pair p q k n ts)
  pair-fine a b h p q k n ts f one least most rest top =
      let g : Fine a b h (front n ts ⊕ back n ts) = subst (Fine a b h) (sym (front-back n ts)) f in
      let c = count-front n ts (omega arith) in
      let d = count-parts n ts in
      fine-⊕ a b (suc h) (more (fork p (first_key k (front n ts)) None (front n ts)) none) (more (fork q (first_key k (back n ts)) None (back n ts)) none)
      (fork-fine a b h p k None (front n ts) (fine-left a b h (front n ts) (back n ts) g) (omega arith) (omega arith) (omega arith))
      (fork-fine a b h q k None (back n ts) (fine-right a b h (front n ts) (back n ts) g) (omega arith) (omega arith) (omega arith))

  pub pair-uses : (p q : ℕ) (k : Key C) (n : ℕ) (ts : Forest C W) (x : ℕ) → uses_all (pair p q k n ts) x ≡ hit p x + hit q x + uses_all ts x
  pair-uses p q k n ts x = omega (arith, uses-⊕ (front n ts) (back n ts) x, ap (λ u. uses_all u x) (front-back n ts))

  pub pair_size : (p q : ℕ) (k : Key C) (n : ℕ) (ts : Forest C W) → size_all (pair p q k n ts) ≡ 2 + size_all ts
  pair_size p q k n ts = omega (arith, size-⊕ (front n ts) (back n ts), ap size_all (front-back n ts))

  -- what is like two forks, the first at p
  like-pair-place : (p q : ℕ) (k : Key C) (n : ℕ) (ts us : Forest C W) → bare_all us ≡ bare_all (pair p q k n ts) → place_of (nth_tree 0 us) ≡ p
  like-pair-place p q k n ts none e = absurd (let z : ◌≡◌ {A = ℕ} 0 2 = ap count e in omega arith)
  like-pair-place p q k n ts (more u us) e = alike-place u (fork p (first_key k (front n ts)) None (front n ts)) (ap (nth_tree 0) e)

module _ {C W R : Type 0} (m : Meaning C W R) where
  -- ---- the child on the way is one of the children
  run-most : (k : Key C) (ts : Forest C W) → run m k ts ≤ count ts
  run-most k none = omega arith
  run-most k (more t ts) =
      elim (is_before m k (key_of t)) as (λ v. cond v 0 (suc (run m k ts)) ≤ suc (count ts)) [
        | true ↦ omega arith
        | false ↦ omega (arith, run-most k ts)
      ]

  pub pick-inside : (k : Key C) (ts : Forest C W) → 1 ≤ count ts → pick m k ts < count ts
  pick-inside k none n = absurd (omega arith)
  pick-inside k (more t ts) n = omega (arith, run-most k ts)

  -- ---- two forks that share the children, with the points that move up
  pub halves-bare : (h p q : ℕ) (k : Key C) (n : ℕ) (ts : Forest C W) → bare_all (halves m h p q k n ts) ≡ bare_all (pair p q k n ts)
  halves-bare h p q k n ts =
      let e = pull-bare m h (fork p (first_key k (front n ts)) None (front n ts)) in
      let f = pull-bare m h (fork q (first_key k (back n ts)) None (back n ts)) in
      λ i. more (e i) (more (f i) none)

  pub halves-points : (h p q : ℕ) (k : Key C) (n : ℕ) (ts : Forest C W) → points_all (halves m h p q k n ts) ≡ points_all ts
  halves-points h p q k n ts =
      let e = pull-points m h (fork p (first_key k (front n ts)) None (front n ts)) in
      let f = pull-points m h (fork q (first_key k (back n ts)) None (back n ts)) in
      (λ i. e i ++ (f i ++ [])) ∙ ap (λ l. points_all (front n ts) ++ l) (append-nil (points_all (back n ts))) ∙ sym (points-⊕ (front n ts) (back n ts)) ∙ ap points_all (front-back n ts)

  -- ---- a fork with at most one child too many
  module _ (a b half : ℕ) (one : 1 ≤ a) (low : a ≤ half) (high : half + a ≤ suc b) where
    whole : (h p : ℕ) (k : Key C) (o : Option (Point C W)) (ts : Forest C W) (qs : List ℕ) → Fine a b h ts → a ≤ count ts → count ts ≤ b → Forked a b h p ts qs (more (fork p (first_key k ts) o ts) none) qs
    whole h p k o ts qs f least most = record {
      fine = fork-fine a b h p k o ts f (omega arith) least most;
      least = omega arith;
      most = omega arith;
      same = append-nil (points_all ts);
      places = λ q. omega arith;
      root = refl;
      nodes = λ n g. omega arith;
      free = omega arith;
    }

    parts : (h p q : ℕ) (k : Key C) (o : Option (Point C W)) (ts : Forest C W) (qs : List ℕ) → Fine a b h ts → count ts ≡ suc b → Forked a b h p ts (q ∷ qs) (seated m (suc h) o (halves m (suc h) p q k half ts)) qs
    parts h p q k o ts qs f e =
        let us = seated m (suc h) o (halves m (suc h) p q k half ts) in
        let like : bare_all us ≡ bare_all (pair p q k half ts) = seated-bare m (suc h) o (halves m (suc h) p q k half ts) ∙ halves-bare (suc h) p q k half ts in
        let c = alike-count_all us (pair p q k half ts) like in
        let z = alike-size_all us (pair p q k half ts) like in
        let y = pair_size p q k half ts in
        record {
          fine = fine-alike a b (suc h) us (pair p q k half ts) like (pair-fine a b h p q k half ts f one low (omega arith) (omega arith) (omega arith));
          least = omega arith;
          most = omega arith;
          same = seated-points m (suc h) o (halves m (suc h) p q k half ts) ∙ halves-points (suc h) p q k half ts;
          places = λ x. omega (arith, alike-uses_all us (pair p q k half ts) like x, pair-uses p q k half ts x);
          root = like-pair-place p q k half ts us like;
          nodes = λ n g. omega (arith, g (omega arith));
          free = omega arith;
        }

    pub divided-forked : (h p : ℕ) (k : Key C) (o : Option (Point C W)) (ts : Forest C W) (qs : List ℕ) → Fine a b h ts → a ≤ count ts → count ts ≤ suc b → (b < count ts → 1 ≤ length qs)
        → Forked a b h p ts qs (divided m b half (suc h) p k o ts qs).0 (divided m b half (suc h) p k o ts qs).1
    divided-forked h p k o ts [] f least most enough = whole h p k o ts [] f least (⊎_elim (λ lt. absurd (omega (arith, enough lt))) (λ le. le) (cases_lt b (count ts)))
    divided-forked h p k o ts (q ∷ qs) f least most enough =
        cond_both {A = Forest C W × List ℕ} (leb (count ts) b) (more (fork p (first_key k ts) o ts) none, q ∷ qs) (seated m (suc h) o (halves m (suc h) p q k half ts), qs)
        (λ r. Forked a b h p ts (q ∷ qs) r.0 r.1)
        (λ e. whole h p k o ts (q ∷ qs) f least (leb-true (count ts) b e))
        (λ e. parts h p q k o ts qs f (omega (arith, leb-false (count ts) b e)))
