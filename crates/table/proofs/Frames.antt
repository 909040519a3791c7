-- Two tables that agree wherever a tree has a node hold the same tree.
use Rattle.std.proofs.Common.{◌≡◌, ℕ, zero, suc, ◌+◌, ◌<◌, List, [], ◌∷◌, ◌++◌, length, get_or, take, drop, set, Some, None, Option, sym, refl, ap, ◌∙◌, subst, arith, eq-eqb, ne_eqb}
use Rattle.std.specs.List.{slice_get}
use Rattle.kinds.specs.Meaning.{Meaning}
use Rattle.trees.specs.Tree.{Tree, Forest, fork, more, grow, hit, uses, uses_all, count, nth_tree, places_of, place_of, front, back, ◌⊕◌}
use Rattle.trees.specs.Moves.{exchange}
use Rattle.table.specs.declared.node.Node.{Node}
use Rattle.table.specs.Kids.{kids_of}
use Rattle.table.specs.Reading.{kept_in, leaf_of, fork_of, tree_at}
use Rattle.table.specs.Keys.{key_in}

pub nth-set-same : {X : Type 0} (xs : List X) (i : ℕ) (x : X) → i < length xs → slice_get (set xs i x) i ≡ Some x
nth-set-same [] i x h = absurd (omega arith)
nth-set-same (y ∷ ys) zero x h = refl
nth-set-same (y ∷ ys) (suc i) x h = nth-set-same ys i x (omega arith)

pub nth-set-other : {X : Type 0} (xs : List X) (i q : ℕ) (x : X) → (q ≡ i → ⊥) → slice_get (set xs i x) q ≡ slice_get xs q
nth-set-other [] i q x h = refl
nth-set-other (y ∷ ys) zero zero x h = absurd (h refl)
nth-set-other (y ∷ ys) zero (suc q) x h = refl
nth-set-other (y ∷ ys) (suc i) zero x h = refl
nth-set-other (y ∷ ys) (suc i) (suc q) x h = nth-set-other ys i q x (λ e. h (ap suc e))

pub hit-here : (p : ℕ) → hit p p ≡ 1
hit-here p = rw (eq-eqb p p refl)

pub hit-apart : (p q : ℕ) → (p ≡ q → ⊥) → hit p q ≡ 0
hit-apart p q h = rw (ne_eqb p q h)

-- places at which a count differs are not the same
pub not_there : (used : ℕ → ℕ) (p : ℕ) → used p ≡ 0 → (q : ℕ) → 0 < used q → q ≡ p → ⊥
not_there used p z q u e = let u' : 0 < used p = subst (λ x. 0 < used x) e u in omega arith

-- ---- forests at lists of places
module _ {C W : Type 0} (at : ℕ → Tree C W) where
  pub grow-append : (ps qs : List ℕ) → grow at (ps ++ qs) ≡ grow at ps ⊕ grow at qs
  grow-append [] qs = refl
  grow-append (p ∷ ps) qs = ap (more (at p)) (grow-append ps qs)

  pub front-grow : (i : ℕ) (ps : List ℕ) → front i (grow at ps) ≡ grow at (take i ps)
  front-grow zero [] = refl
  front-grow (suc i) [] = refl
  front-grow zero (p ∷ ps) = refl
  front-grow (suc i) (p ∷ ps) = ap (more (at p)) (front-grow i ps)

  pub back-grow : (i : ℕ) (ps : List ℕ) → back i (grow at ps) ≡ grow at (drop i ps)
  back-grow zero [] = refl
  back-grow (suc i) [] = refl
  back-grow zero (p ∷ ps) = refl
  back-grow (suc i) (p ∷ ps) = back-grow i ps

  pub nth-grow : (i : ℕ) (ps : List ℕ) → i < length ps → nth_tree i (grow at ps) ≡ at (get_or ps i 0)
  nth-grow i [] h = absurd (omega arith)
  nth-grow zero (p ∷ ps) h = refl
  nth-grow (suc i) (p ∷ ps) h = nth-grow i ps (omega arith)

  pub count-grow : (ps : List ℕ) → count (grow at ps) ≡ length ps
  count-grow [] = refl
  count-grow (p ∷ ps) = ap suc (count-grow ps)

module _ {C W R : Type 0} (m : Meaning C W R) where
  pub place_at : (ns : List (Node C R)) (h p : ℕ) → place_of (tree_at m ns h p) ≡ p
  place_at ns zero p = go (slice_get ns p)
    where
      go : (o : Option (Node C R)) → place_of (leaf_of m p o) ≡ p
      go None = refl
      go (Some n) = refl
  place_at ns (suc h) p = go (slice_get ns p)
    where
      go : (o : Option (Node C R)) → place_of (fork_of m (tree_at m ns h) p o) ≡ p
      go None = refl
      go (Some n) = refl

  pub places-at : (ns : List (Node C R)) (h : ℕ) (ps : List ℕ) → places_of (grow (tree_at m ns h) ps) ≡ ps
  places-at ns h [] = refl
  places-at ns h (p ∷ ps) = let e = place_at ns h p in let r = places-at ns h ps in cc

  module _ (a b : List (Node C R)) where
    -- they agree wherever something is counted
    abbrev pub Agree : (ℕ → ℕ) → Type 0
    Agree used = (q : ℕ) → 0 < used q → slice_get b q ≡ slice_get a q

    same-grow : (f g : ℕ → Tree C W) → ((p : ℕ) → Agree (uses (f p)) → g p ≡ f p) → (ps : List ℕ) → Agree (uses_all (grow f ps)) → grow g ps ≡ grow f ps
    same-grow f g ih [] s = refl
    same-grow f g ih (p ∷ ps) s =
        let e = ih p (λ q h. s q (omega arith)) in
        let r = same-grow f g ih ps (λ q h. s q (omega arith)) in
        cc

    same-leaf : (p : ℕ) (o : Option (Node C R)) → slice_get a p ≡ o → Agree (uses (leaf_of m p o)) → leaf_of m p (slice_get b p) ≡ leaf_of m p o
    same-leaf p None e s = ap (leaf_of m p) (s p (omega (arith, hit-here p)) ∙ e)
    same-leaf p (Some n) e s = ap (leaf_of m p) (s p (omega (arith, hit-here p)) ∙ e)

    same-fork : (f g : ℕ → Tree C W) → ((p : ℕ) → Agree (uses (f p)) → g p ≡ f p) → (p : ℕ) (o : Option (Node C R)) → slice_get a p ≡ o → Agree (uses (fork_of m f p o)) → fork_of m g p (slice_get b p) ≡ fork_of m f p o
    same-fork f g ih p None e s = ap (fork_of m g p) (s p (omega (arith, hit-here p)) ∙ e)
    same-fork f g ih p (Some n) e s =
        ap (fork_of m g p) (s p (omega (arith, hit-here p)) ∙ e) ∙ ap (fork p (key_in n.own) (kept_in m n)) (same-grow f g ih (kids_of n.children) (λ q h. s q (omega arith)))

    pub same-tree : (h p : ℕ) → Agree (uses (tree_at m a h p)) → tree_at m b h p ≡ tree_at m a h p
    same-tree zero p s = same-leaf p (slice_get a p) refl s
    same-tree (suc h) p s = same-fork (tree_at m a h) (tree_at m b h) (same-tree h) p (slice_get a p) refl s

    pub same-trees : (h : ℕ) (ps : List ℕ) → Agree (uses_all (grow (tree_at m a h) ps)) → grow (tree_at m b h) ps ≡ grow (tree_at m a h) ps
    same-trees h ps s = same-grow (tree_at m a h) (tree_at m b h) (same-tree h) ps s

    -- where n trees from number i on give way to others, and the rest agrees, the table holds the exchange
    pub exchange-grow : (h : ℕ) (ps : List ℕ) (i n : ℕ) (us : Forest C W) → grow (tree_at m b h) (places_of us) ≡ us
        → Agree (uses_all (grow (tree_at m a h) (take i ps))) → Agree (uses_all (grow (tree_at m a h) (drop (i + n) ps)))
        → grow (tree_at m b h) (take i ps ++ (places_of us ++ drop (i + n) ps)) ≡ exchange i n us (grow (tree_at m a h) ps)
    exchange-grow h ps i n us here left right =
        let f = tree_at m b h in
        grow-append f (take i ps) (places_of us ++ drop (i + n) ps)
        ∙ ap (λ ts. ts ⊕ grow f (places_of us ++ drop (i + n) ps)) (same-trees h (take i ps) left ∙ sym (front-grow (tree_at m a h) i ps))
        ∙ ap (λ ts. front i (grow (tree_at m a h) ps) ⊕ ts)
        (grow-append f (places_of us) (drop (i + n) ps) ∙ ap (λ ts. ts ⊕ grow f (drop (i + n) ps)) here
        ∙ ap (λ ts. us ⊕ ts) (same-trees h (drop (i + n) ps) right ∙ sym (back-grow (tree_at m a h) (i + n) ps)))
