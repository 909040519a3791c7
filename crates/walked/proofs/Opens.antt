-- Open children: what keys say of the coordinates below them.
use Rattle.std.proofs.Common.{◌≡◌, ◌≤◌, Bool, true, false, ◌⊎◌, [], ◌++◌, length, Option, sym, refl, ap, ◌∙◌, inl, inr, arith}
use Rattle.std.specs.List.{AllByRecursion}
use Rattle.std.proofs.lemmas.Bool.{true≢false, and_parts, and_cases, and_left, and_right}
use Rattle.kinds.specs.Meaning.{Meaning, First}
use Rattle.plain.specs.declared.point.Key.{Key}
use Rattle.plain.specs.declared.point.Point.{Point}
use Rattle.plain.specs.Windows.{inside}
use Rattle.trees.specs.Tree.{Tree, Forest, none, more, key_of, count, points, points_all}
use Rattle.trees.proofs.Each.{each-weaker}
use Rattle.walked.specs.Walk.{starts_by, starts_from, reaches_right, opens, open_of, walk_all}
use Rattle.walked.proofs.Parts.{by-test, all-parts}
use Rattle.walked.proofs.Uptos.{Upto, Past, Unfalling, unfalling-parts, upto-trans, past_after, past-before}
use Rattle.walked.proofs.Marks.{Marked, MarkedAll, mark, mark-is, mark-at, mark-ahead, mark-before}

module _ {C W R : Type 0} (m : Meaning C W R) where
  -- no child is open
  abbrev pub Shut : C → C → Forest C W → Type 0
  Shut l u ts = (open_of m l u ts ≡ []) × ((leads : Option (Point C W) → Bool) → walk_all m leads l u ts ≡ [])

  -- no more children are open than there are
  pub open-most : (l u : C) (ts : Forest C W) → length (open_of m l u ts) ≤ count ts
  open-most l u none = omega arith
  open-most l u (more t ts) =
      let i = open-most l u ts in
      by-test (opens m l u t ts) (λ o. rw o (omega arith)) (λ o. rw o (omega arith))

  module _ (l u : C) where
    -- what the tests say of the key
    pub open-starts : (t : Tree C W) (ts : Forest C W) (h : Marked t) → opens m l u t ts ≡ true → Upto m (mark t h).at u
    open-starts t ts h o = sym (ap (starts_by m u) (mark-is t h)) ∙ (and_parts (starts_by m u (key_of t)) (reaches_right m l ts) o).0

    open-reaches : (t d : Tree C W) (ts : Forest C W) (h : Marked d) → opens m l u t (more d ts) ≡ true → Upto m l (mark d h).at
    open-reaches t d ts h o = sym (ap (starts_from m l) (mark-is d h)) ∙ (and_parts (starts_by m u (key_of t)) (starts_from m l (key_of d)) o).1

  module _ (first : First m) (l u : C) where
    -- behind an open child no point is earlier than l
    pub behind-open : (t : Tree C W) (ts : Forest C W) → opens m l u t ts ≡ true → MarkedAll ts → Unfalling m (points_all ts) → AllByRecursion (λ p. Upto m l p.key.at) (points_all ts)
    behind-open t none o k r = tt
    behind-open t (more d ts) o (k, ks) r =
        each-weaker (λ p. Upto m (mark d k).at p.key.at) (λ p. Upto m l p.key.at) (λ p e. upto-trans m first l (mark d k).at p.key.at (open-reaches l u t d ts k o) e) (points d ++ points_all ts) (mark-before m first d k (points_all ts) r)

    -- what comes before all points of trees with an open one is not later than u; or else none is open
    pub before-open : (ts : Forest C W) → MarkedAll ts → ((x : C) → AllByRecursion (λ q. Upto m x q.key.at) (points_all ts) → Upto m x u) ⊎ Shut l u ts
    before-open none k = inr (refl, λ leads. refl)
    before-open (more d ts) (k, ks) = go (opens m l u d ts) refl (before-open ts ks)
      where
        parts : (x : C) → AllByRecursion (λ q. Upto m x q.key.at) (points d ++ points_all ts) → AllByRecursion (λ q. Upto m x q.key.at) (points d) × AllByRecursion (λ q. Upto m x q.key.at) (points_all ts)
        parts x a = all-parts (λ q. Upto m x q.key.at) (points d) (points_all ts) a

        go : (b : Bool) → opens m l u d ts ≡ b → ((x : C) → AllByRecursion (λ q. Upto m x q.key.at) (points_all ts) → Upto m x u) ⊎ Shut l u ts → ((x : C) → AllByRecursion (λ q. Upto m x q.key.at) (points d ++ points_all ts) → Upto m x u) ⊎ Shut l u (more d ts)
        go true o w = inl (λ x a. upto-trans m first x (mark d k).at u (mark-at (λ (j : Key C). Upto m x j.at) d k (parts x a).0) (open-starts l u d ts k o))
        go false o (inl f) = inl (λ x a. f x (parts x a).1)
        go false o (inr (e, w)) = inr (rw o e, λ leads. rw o (w leads))

    -- below a child that is not open no point is in the window
    pub shut_out : (t : Tree C W) (ts : Forest C W) → opens m l u t ts ≡ false → Marked t → MarkedAll ts → Unfalling m (points t ++ points_all ts) → AllByRecursion (λ p. inside m l u p.key.at ≡ false) (points t)
    shut_out t ts o k ks r = go (and_cases (starts_by m u (key_of t)) (reaches_right m l ts) o)
      where
        next-far : (ts : Forest C W) → MarkedAll ts → Unfalling m (points t ++ points_all ts) → reaches_right m l ts ≡ false → AllByRecursion (λ p. inside m l u p.key.at ≡ false) (points t)
        next-far none ks r e = absurd (true≢false e)
        next-far (more d ts) (k, ks) r e =
            let (a, b, c) = unfalling-parts m (points t) (points d ++ points_all ts) r in
            let far : Past m l (mark d k).at = sym (ap (starts_from m l) (mark-is d k)) ∙ e in
            each-weaker (λ p. AllByRecursion (λ q. Upto m p.key.at q.key.at) (points d ++ points_all ts)) (λ p. inside m l u p.key.at ≡ false)
            (λ p a. and_left _ _ (past-before m first l p.key.at (mark d k).at (mark-at (λ (j : Key C). Upto m p.key.at j.at) d k (all-parts (λ q. Upto m p.key.at q.key.at) (points d) (points_all ts) a).0) far)) (points t) c

        go : (starts_by m u (key_of t) ≡ false) ⊎ (reaches_right m l ts ≡ false) → AllByRecursion (λ p. inside m l u p.key.at ≡ false) (points t)
        go (inl e) =
            let far : Past m (mark t k).at u = sym (ap (starts_by m u) (mark-is t k)) ∙ e in
            each-weaker (λ p. Upto m (mark t k).at p.key.at) (λ p. inside m l u p.key.at ≡ false) (λ p a. and_right _ _ (past_after m first (mark t k).at p.key.at u a far)) (points t) (mark-ahead m first t k (unfalling-parts m (points t) (points_all ts) r).0)
        go (inr e) = next-far ts ks r e
