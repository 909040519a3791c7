-- What a tree pays for points on either side of the window.
use Rattle.std.proofs.Common.{◌≡◌, ℕ, ◌+◌, ◌≤◌, true, false, not, ◌⊎◌, List, ◌++◌, ap, ◌∙◌, inl, inr, ⊎_elim, arith}
use Rattle.std.specs.List.{Contains, AllByRecursion}
use Rattle.std.proofs.lemmas.Bool.{and_cases}
use Rattle.kinds.specs.Meaning.{Meaning, First}
use Rattle.plain.specs.declared.point.Point.{Point}
use Rattle.plain.specs.Windows.{later, inside}
use Rattle.trees.specs.Tree.{Tree, Forest, points, points_all}
use Rattle.trees.proofs.Each.{each-weaker}
use Rattle.walked.specs.Walk.{opens}
use Rattle.walked.proofs.Costs.{cost, cost-most, cost-all, cost-fails, cost-ways, cost-add, cost-left, cost-right}
use Rattle.walked.proofs.Uptos.{Upto, Past, Unfalling, unfalling-parts}
use Rattle.walked.proofs.Marks.{MarkedAll}
use Rattle.walked.proofs.Opens.{Shut, behind-open, before-open}

module _ {C W R : Type 0} (m : Meaning C W R) where
  -- x if a point is earlier than l
  abbrev pub early : C → ℕ → List (Point C W) → ℕ
  early l x ps = cost (λ p. not (later m l p.key.at)) x ps

  -- x if a point is later than u
  abbrev pub late : C → ℕ → List (Point C W) → ℕ
  late u x ps = cost (λ p. not (later m p.key.at u)) x ps

  module _ (l : C) where
    pub early-most : (x : ℕ) (ps : List (Point C W)) → early l x ps ≤ x
    early-most x ps = cost-most (λ p. not (later m l p.key.at)) x ps

    pub early-ways : (ps : List (Point C W)) → AllByRecursion (λ p. Upto m l p.key.at) ps ⊎ ((x : ℕ) → early l x ps ≡ x)
    early-ways ps = cost-ways (λ p. not (later m l p.key.at)) ps

    pub early-add : (x y z : ℕ) → z ≡ x + y → (ps : List (Point C W)) → early l z ps ≡ early l x ps + early l y ps
    early-add x y z e ps = ap (λ n. early l n ps) e ∙ cost-add (λ p. not (later m l p.key.at)) x y ps

    pub early-left : (x : ℕ) (ps qs : List (Point C W)) → early l x ps ≤ early l x (ps ++ qs)
    early-left x ps qs = cost-left (λ p. not (later m l p.key.at)) x ps qs

    pub early-right : (x : ℕ) (ps qs : List (Point C W)) → early l x qs ≤ early l x (ps ++ qs)
    early-right x ps qs = cost-right (λ p. not (later m l p.key.at)) x ps qs

  module _ (u : C) where
    pub late-most : (x : ℕ) (ps : List (Point C W)) → late u x ps ≤ x
    late-most x ps = cost-most (λ p. not (later m p.key.at u)) x ps

    pub late-ways : (ps : List (Point C W)) → AllByRecursion (λ p. Upto m p.key.at u) ps ⊎ ((x : ℕ) → late u x ps ≡ x)
    late-ways ps = cost-ways (λ p. not (later m p.key.at u)) ps

    pub late-add : (x y z : ℕ) → z ≡ x + y → (ps : List (Point C W)) → late u z ps ≡ late u x ps + late u y ps
    late-add x y z e ps = ap (λ n. late u n ps) e ∙ cost-add (λ p. not (later m p.key.at u)) x y ps

    pub late-left : (x : ℕ) (ps qs : List (Point C W)) → late u x ps ≤ late u x (ps ++ qs)
    late-left x ps qs = cost-left (λ p. not (later m p.key.at u)) x ps qs

    pub late-right : (x : ℕ) (ps qs : List (Point C W)) → late u x qs ≤ late u x (ps ++ qs)
    late-right x ps qs = cost-right (λ p. not (later m p.key.at u)) x ps qs

  -- a point outside the window is paid for
  pub outside : (l u : C) (q : Point C W) (ps : List (Point C W)) → Contains ps q → inside m l u q.key.at ≡ false → (x : ℕ) → x ≤ early l x ps + late u x ps
  outside l u q ps i w x =
      ⊎_elim
      (λ (e : Past m l q.key.at). omega (arith, cost-fails (λ p. not (later m l p.key.at)) x q ps e i))
      (λ (e : Past m q.key.at u). omega (arith, cost-fails (λ p. not (later m p.key.at u)) x q ps e i))
      (and_cases (not (later m l q.key.at)) (not (later m q.key.at u)) w)

  -- at an open child: what follows pays nothing for l; and it pays nothing for u, or nothing that follows is open
  pub record Pays (l u : C) (t : Tree C W) (ts : Forest C W) : Type 0 where
    pub behind : (x : ℕ) → early l x (points_all ts) ≡ 0
    pub ahead : ((x : ℕ) → late u x (points t) ≡ 0) ⊎ Shut m l u ts

  pub pays : First m → (l u : C) (t : Tree C W) (ts : Forest C W) → opens m l u t ts ≡ true → MarkedAll ts → Unfalling m (points t ++ points_all ts) → Pays l u t ts
  pays first l u t ts o k r =
      let (a, b, c) = unfalling-parts m (points t) (points_all ts) r in
      record {
        behind = λ x. cost-all (λ p. not (later m l p.key.at)) x (points_all ts) (behind-open m first l u t ts o k b);
        ahead =
            ⊎_elim (λ f. inl (λ x. cost-all (λ p. not (later m p.key.at u)) x (points t) (each-weaker (λ p. AllByRecursion (λ q. Upto m p.key.at q.key.at) (points_all ts)) (λ p. Upto m p.key.at u) (λ p h. f p.key.at h) (points t) c)))
            (λ s. inr s) (before-open m first l u ts k);
      }
