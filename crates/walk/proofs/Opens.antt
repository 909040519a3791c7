-- Open children join from the right, one after the other.
use Rattle.std.proofs.Common.{◌≡◌, ℕ, zero, suc, ◌+◌, ◌<◌, ◌≤◌, Bool, true, false, cond, not, ◌&&◌, List, [], ◌∷◌, ◌++◌, map, length, get_or, drop, Some, sym, refl, ap, ◌∙◌, arith, length-append}
use mathlib.Core.List.{map-append}
use Rattle.std.specs.List.{slice_get}
use Rattle.std.proofs.lemmas.List.{at_drop_more, at_drop_all}
use Rattle.kinds.specs.Meaning.{Meaning}
use Rattle.plain.specs.Windows.{later}
use Rattle.table.specs.declared.node.Node.{Node}
use Rattle.tree.specs.Places.{key_at, key_of_node}
use Rattle.table.specs.declared.subtree.Subtree.{Subtree}
use Rattle.walked.specs.Walk.{starts_by, starts_from, reaches_right, open_of}
use Rattle.trees.specs.Tree.{grow, key_of}
use Rattle.table.specs.Reading.{tree_at}
use Rattle.tree.proofs.Picks.{key-tree}
use Rattle.walk.specs.Entries.{entry, trees_of, reaches_at, open_entries}
use Rattle.table.specs.Reading.{tree_of}

module _ {C W R : Type 0} (m : Meaning C W R) (ns : List (Node C R)) (h : ℕ) (l u : C) (ks : List ℕ) where
  abbrev joined : ℕ → List Subtree
  joined i = open_entries m ns h l u (drop i ks)

  pub open-start : (i : ℕ) → length ks ≤ i → (joined i ≡ []) × (true ≡ reaches_at m ns l (drop i ks))
  open-start i all = (at_drop_all (open_entries m ns h l u) ks i all, sym (at_drop_all (reaches_at m ns l) ks i all))

  -- one child more, number j, before number i
  module _ (i j : ℕ) (next : i ≡ j + 1) (lt : j < length ks) (n : Node C R) (is : slice_get ns (get_or ks j 0) ≡ Some n) (r : Bool) (reaches : r ≡ reaches_at m ns l (drop i ks)) where
    here : joined j ≡ cond (not (later m n.own.at u) && r) (entry (get_or ks j 0) h ∷ []) [] ++ joined i
    here =
        at_drop_more (open_entries m ns h l u) ks j 0 lt
        ∙ ap (λ k. cond (starts_by m u (key_at ns (get_or ks j 0)) && reaches_at m ns l (drop k ks)) (entry (get_or ks j 0) h ∷ []) [] ++ open_entries m ns h l u (drop k ks)) (sym next)
        ∙ ap (λ b. cond (starts_by m u (key_at ns (get_or ks j 0)) && b) (entry (get_or ks j 0) h ∷ []) [] ++ joined i) (sym reaches)
        ∙ ap (λ o. cond (starts_by m u (key_of_node o) && r) (entry (get_or ks j 0) h ∷ []) [] ++ joined i) is

    pub open_more : (not (later m n.own.at u) && r) ≡ true → joined j ≡ entry (get_or ks j 0) h ∷ joined i
    open_more e = here ∙ ap (λ b. cond b (entry (get_or ks j 0) h ∷ []) [] ++ joined i) e

    pub open-same : (not (later m n.own.at u) && r) ≡ false → joined j ≡ joined i
    open-same e = here ∙ ap (λ b. cond b (entry (get_or ks j 0) h ∷ []) [] ++ joined i) e

    pub reaches-next : not (later m l n.own.at) ≡ reaches_at m ns l (drop j ks)
    reaches-next = sym (at_drop_more (reaches_at m ns l) ks j 0 lt ∙ ap (λ o. starts_from m l (key_of_node o)) is)

  -- those that have joined are among all
  pub joined-few : (i : ℕ) → length (joined i) ≤ length (open_entries m ns h l u ks)
  joined-few i = go ks i
    where
      go : (ps : List ℕ) (i : ℕ) → length (open_entries m ns h l u (drop i ps)) ≤ length (open_entries m ns h l u ps)
      go ps zero = all ps
        where
          all : (ps : List ℕ) → length (open_entries m ns h l u (drop 0 ps)) ≤ length (open_entries m ns h l u ps)
          all [] = omega arith
          all (p ∷ ps) = omega arith
      go [] (suc i) = omega arith
      go (p ∷ ps) (suc i) = omega (arith, go ps i, length-append (cond (starts_by m u (key_at ns p) && reaches_at m ns l ps) (entry p h ∷ []) []) (open_entries m ns h l u ps))

  -- ---- in the tree
  reaches-tree : (ps : List ℕ) → reaches_right m l (grow (tree_at m ns h) ps) ≡ reaches_at m ns l ps
  reaches-tree [] = refl
  reaches-tree (p ∷ ps) = ap (starts_from m l) (key-tree m ns h p)

  pub open-trees : (ps : List ℕ) → trees_of m ns (open_entries m ns h l u ps) ≡ open_of m l u (grow (tree_at m ns h) ps)
  open-trees [] = refl
  open-trees (p ∷ ps) =
      let b = starts_by m u (key_at ns p) && reaches_at m ns l ps in
      map-append (tree_of m ns) (cond b (entry p h ∷ []) []) (open_entries m ns h l u ps)
      ∙ ap (λ ts. map (tree_of m ns) (cond b (entry p h ∷ []) []) ++ ts) (open-trees ps)
      ∙ ap (λ ts. ts ++ open_of m l u (grow (tree_at m ns h) ps)) (one b)
      ∙ ap (λ c. cond (c && reaches_at m ns l ps) (tree_at m ns h p ∷ []) [] ++ open_of m l u (grow (tree_at m ns h) ps)) (ap (starts_by m u) (sym (key-tree m ns h p)))
      ∙ ap (λ c. cond (starts_by m u (key_of (tree_at m ns h p)) && c) (tree_at m ns h p ∷ []) [] ++ open_of m l u (grow (tree_at m ns h) ps)) (sym (reaches-tree ps))
    where
      one : (b : Bool) → map (tree_of m ns) (cond b (entry p h ∷ []) []) ≡ cond b (tree_at m ns h p ∷ []) []
      one true = refl
      one false = refl
