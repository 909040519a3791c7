-- How many nodes a frontier walk takes in a tree, by what lies on either side of the window.
use Rattle.std.proofs.Common.{◌≡◌, ℕ, zero, suc, ◌+◌, ◌-◌, ◌*◌, ◌<◌, ◌≤◌, true, not, leb, List, [], ◌∷◌, ◌++◌, length, sym, refl, ap, ◌∙◌, ⊎_elim, append-nil, arith, length-append}
use Rattle.std.proofs.lemmas.Grind.{flat_map-append}
use native.Mathlib.Nat.{sub-zero}
use Rattle.std.specs.List.{flat_map, AllByRecursion}
use Rattle.std.proofs.lemmas.Bool.{leb-true, leb-false}
use Rattle.kinds.specs.Meaning.{Meaning, First}
use Rattle.plain.specs.declared.point.Key.{Key}
use Rattle.plain.specs.Windows.{later}
use Rattle.trees.specs.Tree.{Tree, Forest, gone, leaf, fork, none, more, key_of, count, points, points_all}
use Rattle.trees.specs.Rules.{Level, LevelAll, Degrees, DegreesAll, FirstKey}
use Rattle.walked.specs.Walk.{until, starts_by, starts_from, reaches_right, opens, open_of, always, walk_all, taken, shown, first_taken, listed}
use Rattle.walked.proofs.Parts.{by-test, all-parts}
use Rattle.walked.proofs.Uptos.{Upto, Unfalling, unfalling-parts, upto-trans, upto-total}
use Rattle.walked.proofs.Marks.{Marked, MarkedAll, mark, mark-is, mark-at, mark-before, first-at}
use Rattle.walked.proofs.Opens.{Shut, open-starts}
use Rattle.walked.proofs.Edges.{early, late, early-ways, early-add, early-left, early-right, late-ways, late-add, late-left, late-right, pays}

-- ---- a walk that is cut off
module _ {X Y : Type 0} (f : X → List Y) where
  pub until-zero : (vs : List X) → until f 0 vs ≡ []
  until-zero [] = refl
  until-zero (v ∷ vs) = refl

  -- in the first part
  until-left : (k : ℕ) (xs ys : List X) → k ≤ length (flat_map f xs) → until f k (xs ++ ys) ≡ until f k xs
  until-left zero [] ys h = until-zero ys
  until-left (suc k) [] ys h = absurd (omega arith)
  until-left zero (x ∷ xs) ys h = refl
  until-left (suc k) (x ∷ xs) ys h = ap (λ z. x ∷ z) (until-left (suc k - length (f x)) xs ys (omega (arith, length-append (f x) (flat_map f xs))))

  -- behind it
  until-right : (k : ℕ) (xs ys : List X) → length (flat_map f xs) < k → until f k (xs ++ ys) ≡ xs ++ until f (k - length (flat_map f xs)) ys
  until-right k [] ys h = rw sub-zero
  until-right zero (x ∷ xs) ys h = absurd (omega arith)
  until-right (suc k) (x ∷ xs) ys h =
      let e : (suc k - length (f x)) - length (flat_map f xs) ≡ suc k - length (f x ++ flat_map f xs) = omega (arith, length-append (f x) (flat_map f xs)) in
      ap (λ z. x ∷ z) (until-right (suc k - length (f x)) xs ys (omega (arith, length-append (f x) (flat_map f xs))) ∙ ap (λ n. xs ++ until f n ys) e)

  -- not at all
  pub until-all : (k : ℕ) (xs : List X) → length (flat_map f xs) < k → until f k xs ≡ xs
  until-all k xs h = ap (until f k) (sym (append-nil xs)) ∙ until-right k xs [] h ∙ append-nil xs

  found : (xs ys : List X) → length (flat_map f (xs ++ ys)) ≡ length (flat_map f xs) + length (flat_map f ys)
  found xs ys = ap length (flat_map-append f xs ys) ∙ length-append (flat_map f xs) (flat_map f ys)

module _ {C W R : Type 0} (m : Meaning C W R) where
  -- what a frontier walk takes of the open children
  abbrev taken_of : C → C → Forest C W → List (Tree C W)
  taken_of l u ts = walk_all m always l u ts

module _ {C W R : Type 0} (m : Meaning C W R) (first : First m) (l u : C) (forward : Upto m l u) where
  -- ---- how many children are open
  starts : (t : Tree C W) (h : Marked t) → Upto m (mark t h).at u → starts_by m u (key_of t) ≡ true
  starts t h e = ap (starts_by m u) (mark-is t h) ∙ e

  some-open : (ts : Forest C W) (t : Tree C W) (h : Marked t) → MarkedAll ts → Upto m (mark t h).at u → 1 ≤ length (open_of m l u (more t ts))
  some-open none t h hs e = rw (starts t h e) (omega arith)
  some-open (more d ts) t h (k, ks) e =
      by-test (not (later m l (mark d k).at))
      (λ i. rw (starts t h e, ap (starts_from m l) (mark-is d k) ∙ i) (omega arith))
      (λ i. rw (starts t h e, ap (starts_from m l) (mark-is d k) ∙ i) (some-open ts d k ks (upto-trans m first (mark d k).at l u (upto-total m first l (mark d k).at i) forward)))

  -- if all points are in the window, all children are open
  all-reach : (ts : Forest C W) → MarkedAll ts → AllByRecursion (λ p. Upto m l p.key.at) (points_all ts) → reaches_right m l ts ≡ true
  all-reach none k a = refl
  all-reach (more d ts) (k, ks) a = ap (starts_from m l) (mark-is d k) ∙ mark-at (λ (j : Key C). Upto m l j.at) d k (all-parts (λ p. Upto m l p.key.at) (points d) (points_all ts) a).0

  all-open : (ts : Forest C W) → MarkedAll ts → AllByRecursion (λ p. Upto m l p.key.at) (points_all ts) → AllByRecursion (λ p. Upto m p.key.at u) (points_all ts) → length (open_of m l u ts) ≡ count ts
  all-open none k a b = refl
  all-open (more t ts) (k, ks) a b =
      let (a1, a2) = all-parts (λ p. Upto m l p.key.at) (points t) (points_all ts) a in
      let (b1, b2) = all-parts (λ p. Upto m p.key.at u) (points t) (points_all ts) b in
      let e = starts t k (mark-at (λ (j : Key C). Upto m j.at u) t k b1) in
      rw (e, all-reach ts ks a2) (ap suc (all-open ts ks a2 b2))

  open-two : (x : Key C) (ts : Forest C W) → 2 ≤ count ts → FirstKey x (points_all ts) → MarkedAll ts → Unfalling m (points_all ts) → Upto m x.at u → 2 ≤ length (open_of m l u ts) + early m l 1 (points_all ts) + late m u 1 (points_all ts)
  open-two x none n f k r h = absurd (omega arith)
  open-two x (more t ts) n f (k, ks) r h =
      let ps = points t ++ points_all ts in
      let here : Upto m (mark t k).at x.at = first-at (λ (j : Key C). Upto m (mark t k).at j.at) x ps f (mark-before m first t k (points_all ts) r) in
      let one = some-open ts t k ks (upto-trans m first (mark t k).at x.at u here h) in
      ⊎_elim
      (λ (a : AllByRecursion (λ p. Upto m l p.key.at) ps). ⊎_elim
      (λ (b : AllByRecursion (λ p. Upto m p.key.at u) ps). omega (arith, all-open (more t ts) (k, ks) a b))
      (λ (g : (z : ℕ) → late m u z ps ≡ z). omega (arith, one, g 1))
      (late-ways m u ps))
      (λ (f : (z : ℕ) → early m l z ps ≡ z). ⊎_elim
      (λ (b : AllByRecursion (λ p. Upto m p.key.at u) ps). omega (arith, one, f 1))
      (λ (g : (z : ℕ) → late m u z ps ≡ z). omega (arith, f 1, g 1))
      (late-ways m u ps))
      (early-ways m l ps)

  module _ (a b : ℕ) (least : 2 ≤ a) where
    -- ---- run to the end
    mutual
      pub taken-tree : (t : Tree C W) (h : ℕ) → Level t h → Unfalling m (points t) → Degrees t a b → (k : Marked t) → Upto m (mark t k).at u
          → length (taken m l u t) + 1 ≤ 2 * length (listed m l u (taken m l u t)) + early m l (h + 2) (points t) + late m u h (points t)
      taken-tree (gone p) h lv up de ma e = absurd ma
      taken-tree (leaf p x o) h lv up de ma e = by-test (not (later m l x.key.at)) (λ f. rw (e, f) (omega arith)) (λ f. rw (e, f) (omega arith))
      taken-tree (fork p k o ts) zero lv up de ma e = absurd lv
      taken-tree (fork p k o ts) (suc h) lv up (lo, hi, de) (ma, mas) e =
          omega (
            arith,
            taken-forest ts h lv up de mas,
            open-two k ts (omega arith) ma mas up e,
            early-add m l (h + 2) 1 (suc h + 2) (omega arith) (points_all ts),
            late-add m u h 1 (suc h) (omega arith) (points_all ts),
          )

      taken-forest : (ts : Forest C W) (h : ℕ) → LevelAll ts h → Unfalling m (points_all ts) → DegreesAll ts a b → MarkedAll ts
          → length (taken_of m l u ts) + length (open_of m l u ts) ≤ 2 * length (listed m l u (taken_of m l u ts)) + early m l (h + 2) (points_all ts) + late m u h (points_all ts)
      taken-forest none h lv up de ma = omega arith
      taken-forest (more t ts) h (lv, lvs) up (de, des) (ma, mas) =
          let ps = points t in
          let qs = points_all ts in
          let v = taken m l u t in
          let vs = taken_of m l u ts in
          let (x, y, z) = unfalling-parts m ps qs up in
          let rest = taken-forest ts h lvs y des mas in
          by-test (opens m l u t ts)
          (λ o. let here = taken-tree t h lv x de ma (open-starts m l u t ts ma o) in rw o
          (⊎_elim
          (λ (f : (z : ℕ) → late m u z ps ≡ 0). omega (arith, here, rest, length-append v vs, found (shown m l u) v vs, early-left m l (h + 2) ps qs, late-right m u h ps qs, (pays m first l u t ts o mas up).behind (h + 2), f h))
          (λ (w : Shut m l u ts). omega (arith, here, length-append v vs, found (shown m l u) v vs, early-left m l (h + 2) ps qs, late-left m u h ps qs, ap length w.0, ap length (w.1 always)))
          (pays m first l u t ts o mas up).ahead))
          (λ o. rw o (omega (arith, rest, early-right m l (h + 2) ps qs, late-right m u h ps qs)))

    -- ---- cut off after k points
    mutual
      pub first-tree : (t : Tree C W) (h : ℕ) → Level t h → Unfalling m (points t) → Degrees t a b → Marked t → (k : ℕ) → 1 ≤ k → k ≤ length (listed m l u (taken m l u t))
          → length (first_taken m l u k t) + 1 ≤ 2 * k + early m l (h + 2) (points t) + h
      first-tree (gone p) h lv up de ma k one full = absurd ma
      first-tree (leaf p x o) h lv up de ma zero one full = absurd (omega arith)
      first-tree (leaf p x o) h lv up de ma (suc j) one full = omega arith
      first-tree (fork p k o ts) zero lv up de ma n one full = absurd lv
      first-tree (fork p k o ts) (suc h) lv up de ma zero one full = absurd (omega arith)
      first-tree (fork p k o ts) (suc h) lv up (lo, hi, de) (ma, mas) (suc j) one full =
          rw sub-zero (omega (arith, first-forest ts h lv up de mas (suc j) one full, early-add m l (h + 2) 1 (suc h + 2) (omega arith) (points_all ts)))

      first-forest : (ts : Forest C W) (h : ℕ) → LevelAll ts h → Unfalling m (points_all ts) → DegreesAll ts a b → MarkedAll ts → (k : ℕ) → 1 ≤ k → k ≤ length (listed m l u (taken_of m l u ts))
          → length (until (shown m l u) k (taken_of m l u ts)) + 1 ≤ 2 * k + early m l (h + 2) (points_all ts) + h
      first-forest none h lv up de ma k one full = absurd (omega arith)
      first-forest (more t ts) h (lv, lvs) up (de, des) (ma, mas) k one full =
          let ps = points t in
          let qs = points_all ts in
          let v = taken m l u t in
          let vs = taken_of m l u ts in
          let n = length (listed m l u v) in
          let (x, y, z) = unfalling-parts m ps qs up in
          by-test (opens m l u t ts)
          (λ o.
          let fill : k ≤ length (listed m l u (v ++ vs)) = rw o at full in
          rw o (by-test (leb k n)
          -- the child fills the list
          (λ e. rw (until-left (shown m l u) k v vs (leb-true k n e))
          (omega (arith, first-tree t h lv x de ma k one (leb-true k n e), early-left m l (h + 2) ps qs)))
          -- it is run to the end, and a later one fills the list
          (λ e.
          let less = leb-false k n e in
          let sum = found (shown m l u) v vs in
          rw (until-right (shown m l u) k v vs less, length-append)
          (⊎_elim
          (λ (f : (z : ℕ) → late m u z ps ≡ 0). omega (arith, taken-tree t h lv x de ma (open-starts m l u t ts ma o), first-forest ts h lvs y des mas (k - n) (omega arith) (omega arith), f h, (pays m first l u t ts o mas up).behind (h + 2), early-left m l (h + 2) ps qs))
          (λ (w : Shut m l u ts). absurd (omega (arith, fill, sum, less, ap (λ z. length (listed m l u z)) (w.1 always))))
          (pays m first l u t ts o mas up).ahead))))
          (λ o.
          let fill : k ≤ length (listed m l u vs) = rw o at full in
          rw o (omega (arith, first-forest ts h lvs y des mas k one fill, early-right m l (h + 2) ps qs)))
