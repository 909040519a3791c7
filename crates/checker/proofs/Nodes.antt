-- Some trees in a table, by the node of the first.
use Rattle.std.proofs.Common.{◌≡◌, ℕ, suc, ◌-◌, ◌≤◌, List, [], ◌∷◌, ◌++◌, length, get_or, take, drop, Some, None, Option, sym, refl, ap, ◌∙◌, subst, arith, length-append}
use Rattle.std.proofs.Math.Seq.{take-length}
use Rattle.std.specs.List.{slice_get, Contains, AllByRecursion}
use Rattle.std.specs.Option.{option_to_list}
use Rattle.std.proofs.lemmas.List.Elements.{Contains-append_left, Contains-append_right}
use Rattle.kinds.specs.Meaning.{Meaning}
use Rattle.plain.specs.declared.point.Key.{Key}
use Rattle.plain.specs.declared.point.Point.{Point}
use Rattle.trees.specs.Tree.{Tree, Forest, leaf, fork, more, grow, kept_by, points, points_all}
use Rattle.trees.specs.Rules.{kept_all}
use Rattle.table.specs.declared.node.Node.{Node}
use Rattle.table.specs.declared.node.Stored.{Stored}
use Rattle.table.specs.Kids.{kids_of}
use Rattle.table.specs.Reading.{point_in, point_in_any, kept_in, leaf_of, fork_of, tree_at}
use Rattle.table.specs.Keys.{key_in}
use Rattle.table.proofs.Cases.{few}
use Rattle.table.proofs.Frames.{count-grow}
use Rattle.tree.proofs.Heights.{up}
use Rattle.tree.proofs.Picks.{key-tree}
use Rattle.checker.specs.declared.count.Counts.{Counts}
use Rattle.checker.specs.Counted.{Added, Counted}
use Rattle.checker.specs.Passes.{next_key, next_at, Heads, Follows, LeafPasses, ForkPasses, Passes, PassesAll}

-- the places after the first
abbrev others : List ℕ → List ℕ
others ps = take (length ps - 1) (drop 1 ps)

first-parts : (ps : List ℕ) → 1 ≤ length ps → ps ≡ get_or ps 0 0 ∷ others ps
first-parts [] some = absurd (omega arith)
first-parts (p ∷ ps) some =
    let n : suc (length ps) - 1 ≡ length ps = omega arith in
    rw (n, take-length)

module _ {C W R : Type 0} (m : Meaning C W R) (ns : List (Node C R)) where
  kept-one : (o : Option (Stored C R)) → length (option_to_list (point_in_any m o)) ≡ length (option_to_list o)
  kept-one None = refl
  kept-one (Some s) = refl

  next-tree : (h : ℕ) (ps : List ℕ) (u : Option (Key C)) → next_key (grow (tree_at m ns h) ps) u ≡ next_at ns ps u
  next-tree h [] u = refl
  next-tree h (p ∷ ps) u = key-tree m ns h p

  -- the trees below a node, of one less than the height
  abbrev pub under : ℕ → Node C R → Forest C W
  under h n = grow (tree_at m ns (h - 1)) (kids_of n.children)

  module _ (h : ℕ) (ps : List ℕ) (some : 1 ≤ length ps) (n : Node C R) (is : slice_get ns (get_or ps 0 0) ≡ Some n) where
    abbrev p : ℕ
    p = get_or ps 0 0

    abbrev qs : List ℕ
    qs = others ps

    parts : ps ≡ p ∷ qs
    parts = first-parts ps some

    trees-fork : (h ≡ 0 → ⊥) → grow (tree_at m ns h) ps ≡ more (fork p (key_in n.own) (kept_in m n) (under h n)) (grow (tree_at m ns h) qs)
    trees-fork pos = ap (grow (tree_at m ns h)) parts ∙ ap (λ t. more t (grow (tree_at m ns h) qs)) (ap (λ k. tree_at m ns k p) (up h pos) ∙ ap (fork_of m (tree_at m ns (h - 1)) p) is)

    trees-leaf : h ≡ 0 → grow (tree_at m ns h) ps ≡ more (leaf p (point_in m n.own) (kept_in m n)) (grow (tree_at m ns h) qs)
    trees-leaf z = ap (grow (tree_at m ns h)) parts ∙ ap (λ t. more t (grow (tree_at m ns h) qs)) (ap (λ k. tree_at m ns k p) z ∙ ap (leaf_of m p) is)

    -- ---- a point that stands in them
    module _ (x : Point C W) where
      pub has-below : (h ≡ 0 → ⊥) → Contains (points_all (under h n)) x → Contains (points_all (grow (tree_at m ns h) ps)) x
      has-below pos i =
          subst (λ ts. Contains (points_all ts) x) (sym (trees-fork pos))
          (Contains-append_left (points_all (under h n)) (points_all (grow (tree_at m ns h) qs)) x i)

      pub has-after : Contains (points_all (grow (tree_at m ns h) qs)) x → Contains (points_all (grow (tree_at m ns h) ps)) x
      has-after i = subst (λ l. Contains (points_all (grow (tree_at m ns h) l)) x) (sym parts) (Contains-append_right (points (tree_at m ns h p)) (points_all (grow (tree_at m ns h) qs)) x i)

    -- ---- how many points they have, and how many are kept
    pub count-fork : (h ≡ 0 → ⊥) → (own below rest all : Counts) → own.points ≡ 0 → own.kept ≡ length (option_to_list n.kept)
        → Counted (under h n) (Some below) → Counted (grow (tree_at m ns h) qs) (Some rest) → Added below rest (Some all) → (r : Option Counts) → Added own all r → Counted (grow (tree_at m ns h) ps) r
    count-fork pos own below rest all op ok cb cr sum None added = tt
    count-fork pos own below rest all op ok cb cr sum (Some r) added =
        let ts = under h n in
        let us = grow (tree_at m ns h) qs in
        let e = trees-fork pos in (
          omega (arith, ap (λ f. length (points_all f)) e, length-append (points_all ts) (points_all us)),
          omega (arith, ap (λ f. length (kept_all f)) e, length-append (option_to_list (kept_in m n) ++ kept_all ts) (kept_all us), length-append (option_to_list (kept_in m n)) (kept_all ts), kept-one n.kept),
        )

    -- ---- what passes
    module _ (a : Option (Option (Point C W))) (u next : Option (Key C)) (ne : next ≡ next_at ns qs u) (f : Follows m a (kept_in m n)) (rest : PassesAll m (grow (tree_at m ns h) qs) a u h) where
      pass-more : (t : Tree C W) → grow (tree_at m ns h) ps ≡ more t (grow (tree_at m ns h) qs) → kept_by t ≡ kept_in m n → Passes m t next h → PassesAll m (grow (tree_at m ns h) ps) a u h
      pass-more t e k one = subst (λ ts. PassesAll m ts a u h) (sym e) (subst (Follows m a) (sym k) f, subst (λ v. Passes m t v h) (ne ∙ sym (next-tree h qs u)) one, rest)

      pub pass-leaf : h ≡ 0 → LeafPasses m (point_in m n.own) (kept_in m n) next → PassesAll m (grow (tree_at m ns h) ps) a u h
      pass-leaf z here = pass-more (leaf p (point_in m n.own) (kept_in m n)) (trees-leaf z) refl (z, here)

      pub pass-fork : (h ≡ 0 → ⊥) → ForkPasses m (key_in n.own) (kept_in m n) (under h n) → PassesAll m (under h n) (Some (kept_in m n)) next (h - 1) → PassesAll m (grow (tree_at m ns h) ps) a u h
      pass-fork pos here below =
          let t = fork p (key_in n.own) (kept_in m n) (under h n) in
          pass-more t (trees-fork pos) refl (subst (Passes m t next) (sym (up h pos)) (here, below))

  -- the first of some trees has the key
  pub heads-at : (h : ℕ) (k : Key C) (ps : List ℕ) → next_at ns ps None ≡ Some k → Heads k (grow (tree_at m ns h) ps)
  heads-at h k [] e = cc
  heads-at h k (p ∷ ps) e = key-tree m ns h p ∙ e

  -- a fork passes by its parts
  pub fork-of : (h : ℕ) (n : Node C R) → let ts = grow (tree_at m ns h) (kids_of n.children) in
      2 ≤ length (kids_of n.children) → next_at ns (kids_of n.children) None ≡ Some (key_in n.own) → AllByRecursion (Contains (points_all ts)) (option_to_list (kept_in m n)) → ForkPasses m (key_in n.own) (kept_in m n) ts
  fork-of h n two head has =
      let kids = kids_of n.children in
      let long = count-grow (tree_at m ns h) kids in
      (omega arith, omega (arith, few n.children), heads-at h (key_in n.own) kids head, has)
