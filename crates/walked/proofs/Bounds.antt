-- How many nodes a walk from the root visits and takes.
use Rattle.std.proofs.Common.{◌≡◌, ℕ, zero, suc, ◌+◌, ◌*◌, ◌≤◌, false, not, T, leb, [], length, refl, ap, ◌∙◌, arith, length-take}
use Rattle.std.specs.List.{AllByRecursion}
use Rattle.std.proofs.lemmas.List.Sorted.{length_permutation}
use Rattle.std.proofs.lemmas.Bool.{leb-true, leb-false, not_from_false}
use Rattle.kinds.specs.Meaning.{Meaning, First, Second}
use Rattle.plain.specs.declared.point.Key.{Key}
use Rattle.plain.specs.Windows.{later, window, matches, firsts}
use Rattle.trees.specs.Tree.{Tree, Forest, gone, leaf, fork, none, more, points, points_all}
use Rattle.trees.specs.Rules.{Rules}
use Rattle.trees.proofs.Each.{each-weaker}
use Rattle.walked.specs.Walk.{starts_by, always, walk_all, visits, ranged, taken, shown, first_taken, listed, Log, most_visited, most_taken}
use Rattle.walked.proofs.Parts.{by-test, all-parts}
use Rattle.walked.proofs.Uptos.{Upto, Past, Unfalling, unfalling, past_after}
use Rattle.walked.proofs.Marks.{Marked, MarkedAll, marked, mark, mark-is, mark-at, mark-ahead}
use Rattle.walked.proofs.Edges.{early-most, late-most}
use Rattle.walked.proofs.Homes.{placed}
use Rattle.walked.proofs.Heights.{height-most}
use Rattle.walked.proofs.Takes.{taken-lists, first-lists}
use Rattle.walked.proofs.Ranges.{range-lists}
use Rattle.walked.proofs.Visits.{visits-tree}
use Rattle.walked.proofs.Frontiers.{until-all, until-zero, taken-tree, first-tree}

module _ {C W R : Type 0} (m : Meaning C W R) (first : First m) (l u : C) where
  -- from a root that is later than u no child is open
  none_open : (ts : Forest C W) → MarkedAll ts → AllByRecursion (λ p. Past m p.key.at u) (points_all ts) → walk_all m always l u ts ≡ []
  none_open none k f = refl
  none_open (more d ts) (k, ks) f =
      let (x, y) = all-parts (λ p. Past m p.key.at u) (points d) (points_all ts) f in
      let e = ap (starts_by m u) (mark-is d k) ∙ mark-at (λ (j : Key C). Past m j.at u) d k x in
      rw e (none_open ts ks y)

  past : (t : Tree C W) (k : Marked t) → Unfalling m (points t) → Past m (mark t k).at u → length (taken m l u t) ≤ 1
  past (gone p) k r e = omega arith
  past (leaf p x o) k r e = omega arith
  past (fork p j o ts) (f, k) r e =
      omega (arith, ap length (none_open ts k (each-weaker (λ p. Upto m j.at p.key.at) (λ p. Past m p.key.at u) (λ p g. past_after m first j.at p.key.at u g e) (points_all ts) (mark-ahead m first (fork p j o ts) (f, k) r))))

module _ {C W R : Type 0} (m : Meaning C W R) (first : First m) (a b h : ℕ) (t : Tree C W) (rules : Rules m a b h t) (l u : C) where
  -- ---- by the height
  pub visits-most : (w : W) → length (visits m l u w t) ≤ 2 * (b * h) + b * length (ranged m l u w t) + 1
  visits-most w =
      omega (
        arith,
        visits-tree m l u w first a b t h rules.level (unfalling m (points t) rules.rising) rules.degrees (marked t h rules.level rules.keyed) (placed m t rules.on_path rules.filled rules.ranked),
        early-most m l (b * h) (points t),
        late-most m u (b * h) (points t),
      )

  module _ (least : 2 ≤ a) (forward : later m l u ≡ false) where
    pub taken-most : length (taken m l u t) ≤ 2 * h + 2 * length (listed m l u (taken m l u t)) + 1
    taken-most =
        let k = marked t h rules.level rules.keyed in
        let up = unfalling m (points t) rules.rising in
        by-test (not (later m (mark t k).at u))
        (λ e. omega (arith, taken-tree m first l u (not_from_false (later m l u) forward) a b least t h rules.level up rules.degrees k e, early-most m l (h + 2) (points t), late-most m u h (points t)))
        (λ e. omega (arith, past m first l u t k up e))

    pub first-most : (places : ℕ) → length (first_taken m l u places t) ≤ 2 * h + 2 * length (listed m l u (first_taken m l u places t)) + 1
    first-most zero = rw (until-zero (shown m l u) (taken m l u t)) (omega arith)
    first-most (suc k) =
        let n = length (listed m l u (taken m l u t)) in
        by-test (leb (suc k) n)
        (λ e.
        let full = leb-true (suc k) n e in
        omega (
          arith,
          ap length (first-lists m first l u a b h t rules (suc k)),
          length-take (suc k) (window m l u (points t)),
          ap length (taken-lists m first l u a b h t rules),
          early-most m l (h + 2) (points t),
          first-tree m first l u (not_from_false (later m l u) forward) a b least t h rules.level (unfalling m (points t) rules.rising) rules.degrees (marked t h rules.level rules.keyed) (suc k) (omega arith) full,
        ))
        (λ e. rw (until-all (shown m l u) (suc k) (taken m l u t) (leb-false (suc k) n e)) taken-most)

-- ---- with 2 to 4 children, by the logarithm of the number of points
module _ {C W R : Type 0} (m : Meaning C W R) (first : First m) (h : ℕ) (t : Tree C W) (rules : Rules m 2 4 h t) (L : ℕ) (log : Log (length (points t)) L) (l u : C) where
  pub range-bound : Second m → (w : W) → T (m.threshold w) → length (visits m l u w t) ≤ most_visited L (length (matches m l u w (points t)))
  range-bound second w fit =
      omega (arith, visits-most m first 2 4 h t rules l u w, height-most m 2 4 h t rules (omega arith) L log, length_permutation (matches m l u w (points t)) (ranged m l u w t) (range-lists m first second l u w fit 2 4 h t rules))

  pub taken-bound : later m l u ≡ false → length (taken m l u t) ≤ most_taken L (length (window m l u (points t)))
  taken-bound forward = omega (arith, taken-most m first 2 4 h t rules l u (omega arith) forward, height-most m 2 4 h t rules (omega arith) L log, ap length (taken-lists m first l u 2 4 h t rules))

  pub first-bound : later m l u ≡ false → (places : ℕ) → length (first_taken m l u places t) ≤ most_taken L (length (firsts m places l u (points t)))
  first-bound forward places = omega (arith, first-most m first 2 4 h t rules l u (omega arith) forward places, height-most m 2 4 h t rules (omega arith) L log, ap length (first-lists m first l u 2 4 h t rules places))
