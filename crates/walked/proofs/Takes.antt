-- What a frontier walk lists: the points in the window, in key order.
use Rattle.std.proofs.Common.{◌≡◌, ℕ, zero, suc, ◌-◌, ◌≤◌, List, [], ◌∷◌, ◌++◌, length, take, sym, refl, ap, ◌∙◌, arith}
use Rattle.std.proofs.lemmas.Grind.{flat_map-append}
use native.Mathlib.Nat.{sub-zero}
use Rattle.std.specs.List.{flat_map}
use Rattle.std.proofs.lemmas.List.Elements.{filter-append}
use Rattle.kinds.specs.Meaning.{Meaning, First}
use Rattle.plain.specs.Windows.{inside, window, firsts}
use Rattle.trees.specs.Tree.{Tree, Forest, gone, leaf, fork, none, more, points, points_all}
use Rattle.trees.specs.Rules.{Rules}
use Rattle.walked.specs.Walk.{point_at, until, opens, always, walk_all, taken, shown, first_taken, listed}
use Rattle.walked.proofs.Parts.{by-test, kept-none, joined-kept}
use Rattle.walked.proofs.Uptos.{Unfalling, unfalling, unfalling-parts}
use Rattle.walked.proofs.Marks.{Marked, MarkedAll, marked}
use Rattle.walked.proofs.Opens.{shut_out}

-- a walk cut off when k elements are listed lists the first k
pub until-take : {X Y : Type 0} (list : X → List Y) → ((v : X) → length (list v) ≤ 1) → (k : ℕ) (vs : List X) → flat_map list (until list k vs) ≡ take k (flat_map list vs)
until-take list short zero [] = refl
until-take list short (suc k) [] = refl
until-take list short zero (v ∷ vs) = refl
until-take {X} {Y} list short (suc k) (v ∷ vs) = go (list v) (short v) (λ j. until-take list short j vs)
  where
    go : (ys : List Y) → length ys ≤ 1 → ((j : ℕ) → flat_map list (until list j vs) ≡ take j (flat_map list vs)) → ys ++ flat_map list (until list (suc k - length ys) vs) ≡ take (suc k) (ys ++ flat_map list vs)
    go [] h ih = rw sub-zero (ih (suc k))
    go (y ∷ []) h ih = let e : suc k - 1 ≡ k = omega arith in ap (λ z. y ∷ z) (ap (λ j. flat_map list (until list j vs)) e ∙ ih k)
    go (y ∷ z ∷ ys) h ih = absurd (omega arith)

module _ {C W R : Type 0} (m : Meaning C W R) (first : First m) (l u : C) where
  mutual
    taken-tree : (t : Tree C W) → Unfalling m (points t) → Marked t → window m l u (flat_map point_at (taken m l u t)) ≡ window m l u (points t)
    taken-tree (gone p) r h = absurd h
    taken-tree (leaf p x o) r h = refl
    taken-tree (fork p k o ts) r (f, h) = taken-forest ts r h

    taken-forest : (ts : Forest C W) → Unfalling m (points_all ts) → MarkedAll ts → window m l u (flat_map point_at (walk_all m always l u ts)) ≡ window m l u (points_all ts)
    taken-forest none r h = refl
    taken-forest (more t ts) r (h, hs) =
        let ps = points t in
        let qs = points_all ts in
        let v = taken m l u t in
        let vs = walk_all m always l u ts in
        let (a, b, c) = unfalling-parts m ps qs r in
        let first_part = taken-tree t a h in
        let rest = taken-forest ts b hs in
        let both = filter-append (λ p. inside m l u p.key.at) ps qs in
        by-test (opens m l u t ts)
        (λ o. rw o (cc (flat_map-append point_at v vs, filter-append (λ p. inside m l u p.key.at) (flat_map point_at v) (flat_map point_at vs), first_part, rest, both)))
        (λ o. rw o (rest ∙ ap (λ z. z ++ window m l u qs) (sym (kept-none (λ p. inside m l u p.key.at) ps (shut_out m first l u t ts o h hs r))) ∙ sym both))

  shown-short : (v : Tree C W) → length (shown m l u v) ≤ 1
  shown-short (gone p) = omega arith
  shown-short (leaf p x o) = by-test (inside m l u x.key.at) (λ e. rw e (omega arith)) (λ e. rw e (omega arith))
  shown-short (fork p k o ts) = omega arith

  module _ (a b h : ℕ) (t : Tree C W) (rules : Rules m a b h t) where
    -- run to the end, it lists all of them
    pub taken-lists : listed m l u (taken m l u t) ≡ window m l u (points t)
    taken-lists = joined-kept (λ p. inside m l u p.key.at) point_at (taken m l u t) ∙ taken-tree t (unfalling m (points t) rules.rising) (marked t h rules.level rules.keyed)

    -- and with so many places the first of them
    pub first-lists : (k : ℕ) → listed m l u (first_taken m l u k t) ≡ firsts m k l u (points t)
    first-lists k = until-take (shown m l u) shown-short k (taken m l u t) ∙ ap (take k) taken-lists
