-- One step of a walk: the entry on top is taken, and the nodes that it leads to join.
use Rattle.std.proofs.Common.{◌≡◌, ℕ, zero, suc, ◌+◌, ◌*◌, ◌≤◌, Bool, true, false, cond, ◌&&◌, List, [], ◌∷◌, ◌++◌, length, Some, Option, sym, refl, ap, ◌∙◌, subst, arith, length-append}
use Rattle.std.proofs.lemmas.Grind.{flat_map-append}
use mathlib.Core.List.{map-append}
use Rattle.std.specs.List.{slice_get, flat_map, AllByRecursion}
use Rattle.kinds.specs.Meaning.{Meaning}
use Rattle.plain.specs.declared.point.Point.{Point}
use Rattle.trees.specs.Tree.{fork, kept_by}
use Rattle.trees.proofs.Each.{each-append, each-from}
use Rattle.walked.specs.Walk.{starts_by, walk, walk_all}
use Rattle.walked.proofs.Stacks.{walk-open}
use Rattle.table.specs.declared.node.Node.{Node}
use Rattle.table.specs.Reading.{kept_in, tree_at, Sound}
use Rattle.table.specs.Keys.{key_in}
use Rattle.table.proofs.Cases.{few}
use Rattle.table.proofs.Steps.{kids, below, fork-was, kid-sound}
use Rattle.tree.specs.Places.{key_at}
use Rattle.tree.proofs.Pulls.{leaf-was}
use Rattle.table.specs.declared.subtree.Subtree.{Subtree}
use Rattle.walk.specs.Entries.{entry, trees_of, reaches_at, open_entries, Rooms, AllSound, to_come}
use Rattle.table.specs.Reading.{tree_of}
use Rattle.walk.proofs.Opens.{open-trees}

-- at most one entry for each child
pub open-few : {C W R : Type 0} (m : Meaning C W R) (ns : List (Node C R)) (h : ℕ) (l u : C) (ps : List ℕ) → length (open_entries m ns h l u ps) ≤ length ps
open-few m ns h l u [] = omega arith
open-few {C = C} m ns h l u (p ∷ ps) = omega (arith, open-few m ns h l u ps, length-append (cond (starts_by m u (key_at ns p) && reaches_at m ns l ps) (entry p h ∷ []) []) (open_entries m ns h l u ps), one (starts_by m u (key_at ns p) && reaches_at m ns l ps))
  where
    one : (b : Bool) → length (cond b (entry p h ∷ []) []) ≤ 1
    one true = omega arith
    one false = omega arith

-- what holds of an entry for each child holds of those that join
pub open-all : {C W R : Type 0} (m : Meaning C W R) (ns : List (Node C R)) (h : ℕ) (l u : C) (P : Subtree → Type 0) (ps : List ℕ) → AllByRecursion (λ p. P (entry p h)) ps → AllByRecursion P (open_entries m ns h l u ps)
open-all m ns h l u P [] a = tt
open-all m ns h l u P (p ∷ ps) a = each-append P (cond (starts_by m u (key_at ns p) && reaches_at m ns l ps) (entry p h ∷ []) []) (open_entries m ns h l u ps) (one (starts_by m u (key_at ns p) && reaches_at m ns l ps)) (open-all m ns h l u P ps a.1)
  where
    one : (b : Bool) → AllByRecursion P (cond b (entry p h ∷ []) [])
    one true = (a.0, tt)
    one false = tt

-- entries of one height on top of others, where there is room
pub rooms-on : (h : ℕ) (xs es : List Subtree) → AllByRecursion (λ e. e.height ≡ h) xs → length xs + length es + 3 * h ≤ 43 → Rooms es → Rooms (xs ++ es)
rooms-on h [] es a n r = r
rooms-on h (x ∷ xs) es a n r = (omega (arith, a.0, length-append xs es), rooms-on h xs es a.1 (omega arith) r)

module _ {C W R : Type 0} (m : Meaning C W R) (leads : Option (Point C W) → Bool) (l u : C) where
  module _ (ns : List (Node C R)) (e : Subtree) (es : List Subtree) (n : Node C R) (is : slice_get ns e.root ≡ Some n) where
    -- what the entry keeps
    pub kept_here : kept_by (tree_of m ns e) ≡ kept_in m n
    kept_here = go e.height
      where
        go : (h : ℕ) → kept_by (tree_at m ns h e.root) ≡ kept_in m n
        go zero = ap kept_by (leaf-was m ns e.root n is)
        go (suc h) = ap kept_by (fork-was m ns h e.root n is)

    -- it leads no further
    pub turn-leaf : e.height ≡ 0 → to_come m ns leads l u (e ∷ es) ≡ tree_of m ns e ∷ to_come m ns leads l u es
    turn-leaf z = ap (λ vs. vs ++ to_come m ns leads l u es) (go e.height z)
      where
        go : (h : ℕ) → h ≡ 0 → walk m leads l u (tree_at m ns h e.root) ≡ tree_at m ns h e.root ∷ []
        go zero z = ap (walk m leads l u) (leaf-was m ns e.root n is) ∙ ap (λ t. t ∷ []) (sym (leaf-was m ns e.root n is))
        go (suc h) z = absurd (omega arith)

    pub turn-off : leads (kept_in m n) ≡ false → to_come m ns leads l u (e ∷ es) ≡ tree_of m ns e ∷ to_come m ns leads l u es
    turn-off no_more = ap (λ vs. vs ++ to_come m ns leads l u es) (go e.height)
      where
        go : (h : ℕ) → walk m leads l u (tree_at m ns h e.root) ≡ tree_at m ns h e.root ∷ []
        go zero = ap (walk m leads l u) (leaf-was m ns e.root n is) ∙ ap (λ t. t ∷ []) (sym (leaf-was m ns e.root n is))
        go (suc h) =
            ap (walk m leads l u) (fork-was m ns h e.root n is)
            ∙ ap (λ b. fork e.root (key_in n.own) (kept_in m n) (below m ns h n) ∷ cond b (walk_all m leads l u (below m ns h n)) []) no_more
            ∙ ap (λ t. t ∷ []) (sym (fork-was m ns h e.root n is))

    -- it leads on to its open children
    pub turn_on : (h : ℕ) → e.height ≡ suc h → leads (kept_in m n) ≡ true → to_come m ns leads l u (e ∷ es) ≡ tree_of m ns e ∷ to_come m ns leads l u (open_entries m ns h l u (kids m n) ++ es)
    turn_on h up on =
        subst (λ k. walk m leads l u (tree_at m ns k e.root) ++ to_come m ns leads l u es ≡ tree_at m ns k e.root ∷ to_come m ns leads l u (open_entries m ns h l u (kids m n) ++ es)) (sym up)
        (ap (λ vs. vs ++ to_come m ns leads l u es)
        (ap (walk m leads l u) (fork-was m ns h e.root n is)
        ∙ ap (λ b. fork e.root (key_in n.own) (kept_in m n) (below m ns h n) ∷ cond b (walk_all m leads l u (below m ns h n)) []) on
        ∙ ap (λ t. t ∷ walk_all m leads l u (below m ns h n)) (sym (fork-was m ns h e.root n is)))
        ∙ ap (λ vs. tree_at m ns (suc h) e.root ∷ vs)
        (ap (λ vs. vs ++ to_come m ns leads l u es) (walk-open m leads l u (below m ns h n) ∙ ap (flat_map (walk m leads l u)) (sym (open-trees m ns h l u (kids m n) (kids m n))))
        ∙ sym (flat_map-append (walk m leads l u) (trees_of m ns (open_entries m ns h l u (kids m n))) (trees_of m ns es))
        ∙ ap (flat_map (walk m leads l u)) (sym (map-append (tree_of m ns) (open_entries m ns h l u (kids m n)) es))))

  -- the entries that join name sound trees, and the stack has room for them
  pub sound-on : (ns : List (Node C R)) (e : Subtree) (es : List Subtree) (n : Node C R) → slice_get ns e.root ≡ Some n → (h : ℕ) → e.height ≡ suc h → AllSound m ns (e ∷ es) → AllSound m ns (open_entries m ns h l u (kids m n) ++ es)
  sound-on ns e es n is h up s =
      each-append (λ d. Sound (length ns) d.height (tree_of m ns d)) (open_entries m ns h l u (kids m n)) es
      (open-all m ns h l u (λ d. Sound (length ns) d.height (tree_of m ns d)) (kids m n)
      (each-from (λ p. Sound (length ns) h (tree_at m ns h p)) (kids m n) 0 (kid-sound m ns h e.root n is (subst (λ k. Sound (length ns) k (tree_at m ns k e.root)) up s.0))))
      s.1

  pub rooms-after : (ns : List (Node C R)) (e : Subtree) (es : List Subtree) (n : Node C R) (h : ℕ) → e.height ≡ suc h → Rooms (e ∷ es) → Rooms (open_entries m ns h l u (kids m n) ++ es)
  rooms-after ns e es n h up r =
      rooms-on h (open_entries m ns h l u (kids m n)) es (open-all m ns h l u (λ d. d.height ≡ h) (kids m n) (same (kids m n))) (omega (arith, open-few m ns h l u (kids m n), few n.children, r.0)) r.1
    where
      same : (ps : List ℕ) → AllByRecursion (λ p. h ≡ h) ps
      same [] = tt
      same (p ∷ ps) = (refl, same ps)
