-- What the range walk lists: the points that match, each once.
use Rattle.std.proofs.Common.{◌≡◌, ℕ, Bool, true, false, cond, ◌&&◌, T, List, [], ◌∷◌, ◌++◌, Some, None, Less, sym, refl, ap, ◌∙◌, subst, inl, inr, append-nil}
use Rattle.std.proofs.lemmas.Grind.{flat_map-append}
use Rattle.std.specs.List.Sorted.{IsPermutation}
use Rattle.std.specs.Option.{option_to_list}
use Rattle.std.specs.List.{Contains, flat_map, AllByRecursion}
use Rattle.std.proofs.lemmas.List.Elements.{filter-append}
use Rattle.std.proofs.lemmas.Bool.{true≢false, and_left, and_right}
use Rattle.std.proofs.lemmas.Float.{T_from_true}
use Rattle.kinds.specs.Meaning.{Meaning, First, Second}
use Rattle.plain.specs.declared.point.Point.{Point}
use Rattle.plain.specs.Points.{rank_order, FitPoint}
use Rattle.plain.specs.Windows.{inside, reaches, matches}
use Rattle.trees.specs.Tree.{Tree, Forest, gone, leaf, fork, none, more, points, points_all}
use Rattle.trees.specs.Rules.{kept, kept_all, OnPath, OnPathAll, Rules}
use Rattle.trees.proofs.Each.{each-weaker, each-has}
use Rattle.walked.specs.Walk.{kept_at, opens, leads_on, walk_all, visits, ranged}
use Rattle.walked.proofs.Parts.{by-test, all-parts, kept-none}
use Rattle.walked.proofs.Shuffles.{kept-shuffled}
use Rattle.walked.proofs.Uptos.{less-le, Unfalling, unfalling, unfalling-parts}
use Rattle.walked.proofs.Marks.{Marked, MarkedAll, marked}
use Rattle.walked.proofs.Opens.{shut_out}
use Rattle.walked.proofs.Homes.{homed, homed_all, Placed, PlacedAll, placed}

T_true : (b : Bool) → T b → b ≡ true
T_true true h = refl
T_true false h = absurd h

module _ {C W R : Type 0} (m : Meaning C W R) (first : First m) (second : Second m) (l u : C) (w : W) (fit : T (m.threshold w)) where
  -- inside the window and reaching the threshold
  abbrev hit : Point C W → Bool
  hit p = inside m l u p.key.at && reaches m p.weight w

  -- below a kept point that is weaker than the threshold nothing matches
  weak-below : (q : Point C W) → FitPoint m q → reaches m q.weight w ≡ false → (ks : List (Point C W)) → AllByRecursion (λ x. rank_order m q x ≡ Less) ks → AllByRecursion (FitPoint m) ks → AllByRecursion (λ x. hit x ≡ false) ks
  weak-below q f s [] a b = tt
  weak-below q f s (x ∷ xs) (r, a) (g, b) = (and_right _ _ (go (reaches m x.weight w) refl), weak-below q f s xs a b)
    where
      go : (b : Bool) → reaches m x.weight w ≡ b → reaches m x.weight w ≡ false
      go true e =
          let far = second.orders.carries q.weight x.weight w (inl (q.key.at, f)) (inl (x.key.at, g)) (inr fit) (less-le (m.strength q.weight x.weight) _ r) (T_from_true _ e) in
          absurd (true≢false (sym (T_true _ far) ∙ s))
      go false e = e

  mutual
    range-tree : (t : Tree C W) → Unfalling m (points t) → Marked t → OnPath t → Placed m t → AllByRecursion (FitPoint m) (points t) → ranged m l u w t ≡ matches m l u w (kept t)
    range-tree (gone p) r h on pl f = absurd h
    range-tree (leaf p x o) r h on pl f = ap (matches m l u w) (append-nil (option_to_list o))
    range-tree (fork p k None ts) r (e, h) on (e', pl) f = sym (ap (matches m l u w) e')
    range-tree (fork p k (Some q) ts) r (e, h) (own, on) ((i, a), pl) f =
        let ks = kept_all ts in
        let below = each-weaker (Contains (points_all ts)) (FitPoint m) (λ p i. each-has (FitPoint m) (points_all ts) p f i) ks (homed_all ts on) in
        ap (λ z. cond (hit q) (q ∷ z) z)
        (by-test (reaches m q.weight w)
        (λ s. rw s (range-forest ts r h on pl f))
        (λ s. rw s (sym (kept-none hit ks (weak-below q (each-has (FitPoint m) (points_all ts) q f i) s ks a below)))))

    range-forest : (ts : Forest C W) → Unfalling m (points_all ts) → MarkedAll ts → OnPathAll ts → PlacedAll m ts → AllByRecursion (FitPoint m) (points_all ts) → matches m l u w (flat_map kept_at (walk_all m (leads_on m w) l u ts)) ≡ matches m l u w (kept_all ts)
    range-forest none r h on pl f = refl
    range-forest (more t ts) r (h, hs) (on, ons) (pl, pls) f =
        let (a, b, c) = unfalling-parts m (points t) (points_all ts) r in
        let (d, e) = all-parts (FitPoint m) (points t) (points_all ts) f in
        let v = visits m l u w t in
        let vs = walk_all m (leads_on m w) l u ts in
        let first_part = range-tree t a h on pl d in
        let rest = range-forest ts b hs ons pls e in
        let both = filter-append hit (kept t) (kept_all ts) in
        by-test (opens m l u t ts)
        (λ o. rw o (cc (flat_map-append kept_at v vs, filter-append hit (flat_map kept_at v) (flat_map kept_at vs), first_part, rest, both)))
        (λ o.
        let out = shut_out m first l u t ts o h hs r in
        let empty = each-weaker (Contains (points t)) (λ p. hit p ≡ false) (λ p i. and_left _ _ (each-has (λ p. inside m l u p.key.at ≡ false) (points t) p out i)) (kept t) (homed t on) in
        rw o (rest ∙ ap (λ z. z ++ matches m l u w (kept_all ts)) (sym (kept-none hit (kept t) empty)) ∙ sym both))

  module _ (a b h : ℕ) (t : Tree C W) (rules : Rules m a b h t) where
    -- of the points kept those that match, a node's before those below it
    pub range-order : ranged m l u w t ≡ matches m l u w (kept t)
    range-order =
        range-tree t (unfalling m (points t) rules.rising) (marked t h rules.level rules.keyed) rules.on_path (placed m t rules.on_path rules.filled rules.ranked) rules.fit

    -- so the points that match, each once
    pub range-lists : IsPermutation (matches m l u w (points t)) (ranged m l u w t)
    range-lists = subst (IsPermutation (matches m l u w (points t))) (sym range-order) (kept-shuffled hit (points t) (kept t) rules.once)
