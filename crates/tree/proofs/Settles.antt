-- Nodes laid over trees, and points that find their place in them: in the table, as in the tree.
use Rattle.std.proofs.Common.{◌≡◌, ℕ, suc, ◌+◌, ◌<◌, ◌≤◌, Bool, true, false, cond, eqb, ◌⊎◌, List, [], ◌∷◌, length, get_or, set, Some, None, unwrap_or, sym, refl, ap, ◌∙◌, subst, inl, inr, arith, eqb-true}
use borrow.Author.Tests.{lt-true}
use Rattle.std.specs.List.{slice_get, AllByRecursion}
use Rattle.kinds.specs.Meaning.{Meaning}
use Rattle.plain.specs.declared.point.Key.{Key}
use Rattle.plain.specs.declared.point.Point.{Point}
use Rattle.trees.specs.Tree.{fork, grow, hit, uses, uses_all, alter}
use Rattle.trees.specs.Kept.{pull, push}
use Rattle.trees.specs.Moves.{first_key, settled}
use Rattle.trees.proofs.Each.{each-from}
use Rattle.table.specs.declared.node.Node.{Node}
use Rattle.table.specs.declared.children.Children.{Children}
use Rattle.table.specs.Kids.{kids_of}
use Rattle.table.specs.Reading.{tree_at, inside, Sound, Sounds, Became}
use Rattle.table.specs.Keys.{key_in}
use Rattle.table.proofs.Frames.{hit-here, nth-grow, count-grow}
use Rattle.table.proofs.Steps.{inside_one, sound-nth, sound-within, uses-nth, alter-grow, fork-now, other}
use Rattle.table.specs.Nodes.{bare}
use Rattle.tree.specs.Places.{key_of_node, pick_at}
use Rattle.tree.specs.Forests.{Seated}
use Rattle.tree.proofs.Picks.{key-tree, pick-tree}

module _ {C W R : Type 0} (m : Meaning C W R) where
  -- ---- trees at some places
  module _ (a : List (Node C R)) (h : ℕ) (ps : List ℕ) (s : Sounds (length a) h (grow (tree_at m a h) ps)) where
    pub tree-sound : (i : ℕ) → i < length ps → Sound (length a) h (tree_at m a h (get_or ps i 0))
    tree-sound i lt = subst (Sound (length a) h) (nth-grow (tree_at m a h) i ps lt) (sound-nth (length a) h i (grow (tree_at m a h) ps) s (omega (arith, count-grow (tree_at m a h) ps)))

    pub trees-within : AllByRecursion (λ q. q < length a) ps
    trees-within = each-from (λ q. q < length a) ps 0 (λ i lt. sound-within m a h (get_or ps i 0) (tree-sound i lt))

    pub tree-uses : (i : ℕ) → i < length ps → (q : ℕ) → uses (tree_at m a h (get_or ps i 0)) q ≤ uses_all (grow (tree_at m a h) ps) q
    tree-uses i lt q = subst (λ t. uses t q ≤ uses_all (grow (tree_at m a h) ps) q) (nth-grow (tree_at m a h) i ps lt) (uses-nth (grow (tree_at m a h) ps) i q (omega (arith, count-grow (tree_at m a h) ps)))

    pub once : (q : ℕ) → uses_all (grow (tree_at m a h) ps) q ≤ 1
    once q = omega (arith, s.apart q, inside_one (length a) q)

  -- ---- a node that keeps nothing, over some trees
  module _ (a : List (Node C R)) (h at : ℕ) (children : Children) (within : at < length a)
      (some : 0 < length (kids_of children)) (few : length (kids_of children) ≤ 4) (s : Sounds (length a) h (grow (tree_at m a h) (kids_of children))) (apart : uses_all (grow (tree_at m a h) (kids_of children)) at ≡ 0)
      (f : Node C R) (is : slice_get a (get_or (kids_of children) 0 0) ≡ Some f) where
    abbrev ps : List ℕ
    ps = kids_of children

    abbrev c : List (Node C R)
    c = set a at (bare f.own children)

    first_key_lem : (k : Key C) → first_key k (grow (tree_at m a h) ps) ≡ key_in f.own
    first_key_lem k = go ps some is
      where
        go : (qs : List ℕ) → 0 < length qs → slice_get a (get_or qs 0 0) ≡ Some f → first_key k (grow (tree_at m a h) qs) ≡ key_in f.own
        go [] z e = absurd (omega arith)
        go (q ∷ qs) z e = ap (λ o. unwrap_or o k) (key-tree m a h q ∙ ap key_of_node e)

    laid : tree_at m c (suc h) at ≡ fork at (key_in f.own) None (grow (tree_at m a h) ps)
    laid = fork-now m a h at (bare f.own children) within ps refl apart

    pub laid-sound : length c ≡ length a → Sound (length c) (suc h) (tree_at m c (suc h) at)
    laid-sound len = subst (Sound (length c) (suc h)) (sym laid) (record {
      level = s.level;
      degrees = (omega (arith, count-grow (tree_at m a h) ps), omega (arith, count-grow (tree_at m a h) ps), s.degrees);
      apart = λ q. room q (hit-or at q);
    })
      where
        hit-or : (p q : ℕ) → (hit p q ≡ 0) ⊎ (q ≡ p)
        hit-or p q = go (eqb p q) refl
          where
            go : (e : Bool) → eqb p q ≡ e → (◌≡◌ {A = ℕ} (cond e 1 0) 0) ⊎ (q ≡ p)
            go true e = inr (sym (eqb-true p q e))
            go false e = inl refl

        room : (q : ℕ) → (hit at q ≡ 0) ⊎ (q ≡ at) → hit at q + uses_all (grow (tree_at m a h) ps) q ≤ inside (length c) q
        room q (inl z) = subst (λ n. hit at q + uses_all (grow (tree_at m a h) ps) q ≤ inside n q) (sym len) (omega (arith, s.apart q))
        room q (inr e) = subst (λ r. hit at r + uses_all (grow (tree_at m a h) ps) r ≤ inside (length c) r) (sym e) (omega (arith, hit-here at, apart, lt-inside (length c) at (omega arith)))
          where
            lt-inside : (n q : ℕ) → q < n → inside n q ≡ 1
            lt-inside n q l = ap (λ b. cond b 1 0) (sym (lt-true q n l))

    pub laid-over : (b : List (Node C R)) → Became m c b (suc h) at (pull m (suc h) (tree_at m c (suc h) at)) → (k : Key C) → tree_at m b (suc h) at ≡ settled m (suc h) at k (grow (tree_at m a h) ps)
    laid-over b bec k = bec.tree ∙ ap (pull m (suc h)) (laid ∙ ap (λ j. fork at j None (grow (tree_at m a h) ps)) (sym (first_key_lem k)))

    pub laid-frame : (b : List (Node C R)) → Became m c b (suc h) at (pull m (suc h) (tree_at m c (suc h) at)) → (q : ℕ) → hit at q ≡ 0 → uses_all (grow (tree_at m a h) ps) q ≡ 0 → slice_get b q ≡ slice_get a q
    laid-frame b bec q z u = bec.frame q (ap (λ t. uses t q) laid ∙ omega arith) ∙ other m a h at (bare f.own children) within q z

  -- ---- a point joins
  module _ (a b : List (Node C R)) (h : ℕ) (ps : List ℕ) (s : Sounds (length a) h (grow (tree_at m a h) ps)) where
    pub seated-none : a ≡ b → Seated m a b h ps None
    seated-none e = subst (λ d. Seated m a d h ps None) e (record { trees = refl; frame = λ q z. refl })

    pub seated-some : (x : Point C W) (i : ℕ) → i < length ps → i ≡ pick_at m a x.key ps → Became m a b h (get_or ps i 0) (push m h x (tree_at m a h (get_or ps i 0))) → Seated m a b h ps (Some x)
    seated-some x i lt picked bec = record {
      trees = alter-grow m a b h (push m h x) ps i lt (once a h ps s) bec ∙ ap (λ j. alter j (push m h x) (grow (tree_at m a h) ps)) (picked ∙ sym (pick-tree m a h x.key ps));
      frame = λ q z. bec.frame q (omega (arith, tree-uses a h ps s i lt q));
    }
