-- The child to go to, from place to place; and that it is the child that the tree says.
use Rattle.std.proofs.Common.{◌≡◌, ℕ, zero, suc, ◌+◌, ◌-◌, ◌<◌, ◌≤◌, Bool, true, false, cond, List, [], ◌∷◌, length, get_or, take, drop, Some, None, Option, sym, refl, ap, ◌∙◌, subst, arith}
use Rattle.std.proofs.lemmas.List.{at_drop_more, at_drop_all, take_all}
use Rattle.std.proofs.lemmas.Bool.{cond-true, cond-false}
use Rattle.std.specs.List.{slice_get}
use Rattle.kinds.specs.Meaning.{Meaning}
use Rattle.plain.specs.declared.point.Key.{Key}
use Rattle.plain.specs.declared.point.Point.{Point}
use Rattle.trees.specs.Tree.{grow, key_of, kept_by}
use Rattle.trees.specs.Kept.{is_before, leads, run, pick, best_from, best}
use Rattle.table.specs.declared.node.Node.{Node}
use Rattle.table.specs.Reading.{leaf_of, fork_of, tree_at, kept_in}
use Rattle.tree.specs.Places.{key_of_node, kept_of_node, key_at, kept_at, run_at, pick_at, best_from_at, best_at}

-- an element after the first
pub later-at : (s : List ℕ) (i : ℕ) → 0 < length s → get_or (take (length s - 1) (drop 1 s)) i 0 ≡ get_or s (i + 1) 0
later-at [] i h = absurd (omega arith)
later-at (p ∷ ps) i h =
    let one : i + 1 ≡ suc i = omega arith in
    ap (λ qs. get_or qs i 0) (take_all (suc (length ps) - 1) ps (omega arith)) ∙ ap (λ j. get_or (p ∷ ps) j 0) (sym one)

module _ {C W R : Type 0} (m : Meaning C W R) (ns : List (Node C R)) where
  -- ---- the loop that looks for the child on the way to a key, among those after the first
  module _ (k : Key C) where
    pub pick-later : (ps : List ℕ) → 0 < length ps → run_at m ns k (take (length ps - 1) (drop 1 ps)) ≡ pick_at m ns k ps
    pick-later [] h = absurd (omega arith)
    pick-later (p ∷ ps) h = ap (run_at m ns k) (take_all (suc (length ps) - 1) ps (omega arith))

    module _ (qs : List ℕ) (i : ℕ) (lt : i < length qs) (inv : i + run_at m ns k (drop i qs) ≡ run_at m ns k qs) (b : Bool) (is : b ≡ is_before m k (key_at ns (get_or qs i 0))) where
      here : run_at m ns k (drop i qs) ≡ cond b 0 (suc (run_at m ns k (drop (i + 1) qs)))
      here = at_drop_more (run_at m ns k) qs i 0 lt ∙ ap (λ c. cond c 0 (suc (run_at m ns k (drop (i + 1) qs)))) (sym is)

      pub pick-found : b ≡ true → i ≡ run_at m ns k qs
      pick-found e = omega (arith, inv, here ∙ cond-true b _ _ e)

      pub pick_more : b ≡ false → i + 1 + run_at m ns k (drop (i + 1) qs) ≡ run_at m ns k qs
      pick_more e = omega (arith, inv, here ∙ cond-false b _ _ e)

    pub pick_all : (qs : List ℕ) (i : ℕ) → length qs ≤ i → i + run_at m ns k (drop i qs) ≡ run_at m ns k qs → i ≡ run_at m ns k qs
    pick_all qs i all inv = omega (arith, inv, at_drop_all (run_at m ns k) qs i all)

  -- ---- the loop that looks for the child that keeps the first point in rank
  module _ (ps : List ℕ) where
    abbrev pub Best : ℕ → Option (Point C W) → ℕ → Type 0
    Best b o i = best_from_at m ns b o i (drop i ps) ≡ best_at m ns ps

    pub best-start : 0 < length ps → (n : Node C R) → slice_get ns (get_or ps 0 0) ≡ Some n → Best 0 (kept_in m n) 1
    best-start some n is = go ps some is
      where
        go : (ps : List ℕ) → 0 < length ps → slice_get ns (get_or ps 0 0) ≡ Some n → best_from_at m ns 0 (kept_in m n) 1 (drop 1 ps) ≡ best_at m ns ps
        go [] h e = absurd (omega arith)
        go (p ∷ ps) h e = ap (λ o. best_from_at m ns 0 o 1 ps) (sym (ap (kept_of_node m) e))

    module _ (b : ℕ) (o : Option (Point C W)) (i : ℕ) (lt : i < length ps) (inv : Best b o i) (n : Node C R) (is : slice_get ns (get_or ps i 0) ≡ Some n) where
      step : cond (leads m (kept_in m n) o) (best_from_at m ns i (kept_in m n) (suc i) (drop (i + 1) ps)) (best_from_at m ns b o (suc i) (drop (i + 1) ps)) ≡ best_at m ns ps
      step = ap (λ q. cond (leads m q o) (best_from_at m ns i q (suc i) (drop (i + 1) ps)) (best_from_at m ns b o (suc i) (drop (i + 1) ps))) (sym (ap (kept_of_node m) is)) ∙ sym (at_drop_more (best_from_at m ns b o i) ps i 0 lt) ∙ inv

      next : (c : ℕ) (q : Option (Point C W)) → best_from_at m ns c q (suc i) (drop (i + 1) ps) ≡ best_at m ns ps → Best c q (i + 1)
      next c q e = let one : suc i ≡ i + 1 = omega arith in subst (λ j. best_from_at m ns c q j (drop (i + 1) ps) ≡ best_at m ns ps) one e

      pub best-new : leads m (kept_in m n) o ≡ true → Best i (kept_in m n) (i + 1)
      best-new e = next i (kept_in m n) (sym (cond-true (leads m (kept_in m n) o) _ _ e) ∙ step)

      pub best-old : leads m (kept_in m n) o ≡ false → Best b o (i + 1)
      best-old e = next b o (sym (cond-false (leads m (kept_in m n) o) _ _ e) ∙ step)

    -- the better of the best so far, number b, and number i
    pub best-better : (b : ℕ) (top : Node C R) (i : ℕ) → (lt : i < length ps) → Best b (kept_in m top) i → b < length ps → (n : Node C R) → slice_get ns (get_or ps i 0) ≡ Some n
        → let z : ℕ × Node C R = cond (leads m (kept_in m n) (kept_in m top)) (i, n) (b, top) in Best z.0 (kept_in m z.1) (i + 1) × (z.0 < length ps)
    best-better b top i lt inv low n is = go (leads m (kept_in m n) (kept_in m top)) refl
      where
        go : (l : Bool) → leads m (kept_in m n) (kept_in m top) ≡ l → let z : ℕ × Node C R = cond l (i, n) (b, top) in Best z.0 (kept_in m z.1) (i + 1) × (z.0 < length ps)
        go true e = (best-new b (kept_in m top) i lt inv n is e, lt)
        go false e = (best-old b (kept_in m top) i lt inv n is e, low)

    pub best-all : (b : ℕ) (o : Option (Point C W)) (i : ℕ) → length ps ≤ i → Best b o i → b ≡ best_at m ns ps
    best-all b o i all inv = sym (at_drop_all (best_from_at m ns b o i) ps i all) ∙ inv

  -- ---- in the tree
  pub key-tree : (h p : ℕ) → key_of (tree_at m ns h p) ≡ key_at ns p
  key-tree zero p = go (slice_get ns p)
    where
      go : (o : Option (Node C R)) → key_of (leaf_of m p o) ≡ key_of_node o
      go None = refl
      go (Some n) = refl
  key-tree (suc h) p = go (slice_get ns p)
    where
      go : (o : Option (Node C R)) → key_of (fork_of m (tree_at m ns h) p o) ≡ key_of_node o
      go None = refl
      go (Some n) = refl

  pub kept-tree : (h p : ℕ) → kept_by (tree_at m ns h p) ≡ kept_at m ns p
  kept-tree zero p = go (slice_get ns p)
    where
      go : (o : Option (Node C R)) → kept_by (leaf_of m p o) ≡ kept_of_node m o
      go None = refl
      go (Some n) = refl
  kept-tree (suc h) p = go (slice_get ns p)
    where
      go : (o : Option (Node C R)) → kept_by (fork_of m (tree_at m ns h) p o) ≡ kept_of_node m o
      go None = refl
      go (Some n) = refl

  module _ (h : ℕ) where
    run-tree : (k : Key C) (ps : List ℕ) → run m k (grow (tree_at m ns h) ps) ≡ run_at m ns k ps
    run-tree k [] = refl
    run-tree k (p ∷ ps) = let e = key-tree h p in let r = run-tree k ps in cc

    pub pick-tree : (k : Key C) (ps : List ℕ) → pick m k (grow (tree_at m ns h) ps) ≡ pick_at m ns k ps
    pick-tree k [] = refl
    pick-tree k (p ∷ ps) = run-tree k ps

    best-from-tree : (b : ℕ) (o : Option (Point C W)) (i : ℕ) (ps : List ℕ) → best_from m b o i (grow (tree_at m ns h) ps) ≡ best_from_at m ns b o i ps
    best-from-tree b o i [] = refl
    best-from-tree b o i (p ∷ ps) =
        ap (λ q. cond (leads m q o) (best_from m i q (suc i) (grow (tree_at m ns h) ps)) (best_from m b o (suc i) (grow (tree_at m ns h) ps))) (kept-tree h p)
        ∙ ap (λ j. cond (leads m (kept_at m ns p) o) j (best_from m b o (suc i) (grow (tree_at m ns h) ps))) (best-from-tree i (kept_at m ns p) (suc i) ps)
        ∙ ap (λ j. cond (leads m (kept_at m ns p) o) (best_from_at m ns i (kept_at m ns p) (suc i) ps) j) (best-from-tree b o (suc i) ps)

    pub best-tree : (ps : List ℕ) → best m (grow (tree_at m ns h) ps) ≡ best_at m ns ps
    best-tree [] = refl
    best-tree (p ∷ ps) = ap (λ o. best_from m 0 o 1 (grow (tree_at m ns h) ps)) (kept-tree h p) ∙ best-from-tree 0 (kept_at m ns p) 1 ps
