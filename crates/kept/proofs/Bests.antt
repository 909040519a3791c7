-- The best child keeps a point that comes after none kept at the other children.
use Rattle.std.proofs.Common.{◌≡◌, ℕ, zero, suc, ◌+◌, ◌<◌, Bool, true, false, cond, Some, None, Option, sym, refl, ap, ◌∙◌, add-zero, arith}
use Rattle.std.specs.Ordering.{is_lt}
use Rattle.std.proofs.lemmas.Bool.{both_ways, cond-false}
use Rattle.kinds.specs.Meaning.{Meaning, First, Second}
use Rattle.plain.specs.declared.point.Point.{Point}
use Rattle.plain.specs.Points.{rank_order}
use Rattle.trees.specs.Tree.{Tree, Forest, gone, leaf, fork, none, more, kept_by, count, nth_tree}
use Rattle.trees.specs.Kept.{leads, best_from, best}
use Rattle.trees.specs.Heap.{held, tally, tally_all, over, Heap, HeapAll}
use Rattle.kept.proofs.Ranks.{unfit, fits, no-rank, rank-carry, rank-asym, rank-self}
use Rattle.kept.proofs.Sums.{tallies-zero, root-held}

-- of what the trees and o keep, that which leads
module _ {C W R : Type 0} (m : Meaning C W R) where
  abbrev pub best_of : Option (Point C W) → Forest C W → Option (Point C W)
  best_of o none = o
  best_of o (more t ts) = cond (leads m (kept_by t) o) (best_of (kept_by t) ts) (best_of o ts)

  abbrev pub top_of : Forest C W → Option (Point C W)
  top_of none = None
  top_of (more t ts) = best_of (kept_by t) ts

  -- the number found is that of a tree which keeps it
  best-at : (us : Forest C W) (b : ℕ) (o : Option (Point C W)) (i : ℕ) (ts : Forest C W) → kept_by (nth_tree b us) ≡ o → ((j : ℕ) → nth_tree (i + j) us ≡ nth_tree j ts) → kept_by (nth_tree (best_from m b o i ts) us) ≡ best_of o ts
  best-at us b o i none e at = e
  best-at us b o i (more t ts) e at =
      go (leads m (kept_by t) o)
      (best-at us i (kept_by t) (suc i) ts (ap (λ n. kept_by (nth_tree n us)) (sym (add-zero i)) ∙ ap kept_by (at 0)) next)
      (best-at us b o (suc i) ts e next)
    where
      next : (j : ℕ) → nth_tree (suc i + j) us ≡ nth_tree j ts
      next j = let s : suc i + j ≡ i + suc j = omega arith in ap (λ n. nth_tree n us) s ∙ at (suc j)

      go : (b' : Bool) → kept_by (nth_tree (best_from m i (kept_by t) (suc i) ts) us) ≡ best_of (kept_by t) ts → kept_by (nth_tree (best_from m b o (suc i) ts) us) ≡ best_of o ts →
          kept_by (nth_tree (cond b' (best_from m i (kept_by t) (suc i) ts) (best_from m b o (suc i) ts)) us) ≡ cond b' (best_of (kept_by t) ts) (best_of o ts)
      go true p q = p
      go false p q = q

  pub best-top : (ts : Forest C W) → kept_by (nth_tree (best m ts) ts) ≡ top_of ts
  best-top none = refl
  best-top (more t ts) = best-at (more t ts) 0 (kept_by t) 1 ts refl (λ j. let s : 1 + j ≡ suc j = omega arith in ap (λ n. nth_tree n (more t ts)) s)

-- a tree that keeps a point is there
pub nth-less : {C W : Type 0} (i : ℕ) (ts : Forest C W) (x : Point C W) → kept_by (nth_tree i ts) ≡ Some x → i < count ts
nth-less i none x e = absurd (let z : ◌≡◌ {A = ℕ} 0 1 = cc in omega arith)
nth-less zero (more t ts) x e = omega arith
nth-less (suc i) (more t ts) x e = omega (arith, nth-less i ts x e)

module _ {C W R : Type 0} (m : Meaning C W R) (first : First m) (second : Second m) where
  -- what is kept is fit
  abbrev pub FitKept : Option (Point C W) → Type 0
  FitKept o = held (unfit m) o ≡ 0

  -- a does not lead b, nor b c: a does not lead c
  leads-carry : (a b c : Option (Point C W)) → FitKept a → FitKept b → FitKept c → leads m a b ≡ false → leads m b c ≡ false → leads m a c ≡ false
  leads-carry None b c fa fb fc p q = refl
  leads-carry (Some x) None c fa fb fc p q = absurd (both_ways _ p refl)
  leads-carry (Some x) (Some y) None fa fb fc p q = absurd (both_ways _ q refl)
  leads-carry (Some x) (Some y) (Some z) fa fb fc p q = rank-carry m first second x y z (fits m x fa) (fits m y fb) (fits m z fc) p q

  leads-asym : (a b : Option (Point C W)) → FitKept a → FitKept b → leads m a b ≡ true → leads m b a ≡ false
  leads-asym None b fa fb p = absurd (both_ways _ refl p)
  leads-asym (Some x) None fa fb p = refl
  leads-asym (Some x) (Some y) fa fb p = rank-asym m first second x y (fits m x fa) (fits m y fb) p

  leads-self : (a : Option (Point C W)) → FitKept a → leads m a a ≡ false
  leads-self None f = refl
  leads-self (Some x) f = rank-self m first second x (fits m x f)

  -- P holds of what each root keeps
  abbrev Roots : (Option (Point C W) → Type 0) → Forest C W → Type 0
  Roots P none = Unit {0}
  Roots P (more t ts) = P (kept_by t) × Roots P ts

  fit-roots : (ts : Forest C W) → tally_all ts (unfit m) ≡ 0 → Roots FitKept ts
  fit-roots none u = tt
  fit-roots (more t ts) u = (omega (arith, root-held t (unfit m)), fit-roots ts (omega arith))

  -- fit, and led by none
  abbrev Tops : Option (Point C W) → Option (Point C W) → Forest C W → Type 0
  Tops r o ts = FitKept r × (leads m o r ≡ false) × Roots (λ a. leads m a r ≡ false) ts

  tops : (o : Option (Point C W)) (ts : Forest C W) → FitKept o → Roots FitKept ts → Tops (best_of m o ts) o ts
  tops o none f fs = (f, leads-self o f, tt)
  tops o (more t ts) f (g, fs) = go (leads m (kept_by t) o) refl (tops (kept_by t) ts g fs) (tops o ts f fs)
    where
      go : (b : Bool) → leads m (kept_by t) o ≡ b → Tops (best_of m (kept_by t) ts) (kept_by t) ts → Tops (best_of m o ts) o ts → Tops (cond b (best_of m (kept_by t) ts) (best_of m o ts)) o (more t ts)
      go true e (fr, l, ls) i = (fr, leads-carry o (kept_by t) (best_of m (kept_by t) ts) f g fr (leads-asym (kept_by t) o g f e) l, (l, ls))
      go false e i (fr, l, ls) = (fr, l, (leads-carry (kept_by t) o (best_of m o ts) g f fr e l, ls))

  -- what is not led may be kept below
  led : (o s : Option (Point C W)) → leads m o s ≡ false → held (over m s) o ≡ 0
  led None s e = refl
  led (Some x) None e = absurd (both_ways _ e refl)
  led (Some x) (Some y) e = cond-false (is_lt (rank_order m x y)) 1 0 e

  under : (o s : Option (Point C W)) → FitKept o → FitKept s → leads m o s ≡ false → (z : Point C W) → unfit m z ≡ 0 → over m o z ≡ 0 → over m s z ≡ 0
  under None s fo fs e z fz w = absurd (omega (arith, w))
  under (Some x) None fo fs e z fz w = absurd (both_ways _ e refl)
  under (Some x) (Some y) fo fs e z fz w =
      cond-false (is_lt (rank_order m z y)) 1 0
      (rank-carry m first second z x y (fits m z fz) (fits m x fo) (fits m y fs) (no-rank (is_lt (rank_order m z x)) w) e)

  -- below a node that keeps what is led by no root, nothing is kept that may not be
  module _ (r : Option (Point C W)) (fr : FitKept r) where
    over-tree : (t : Tree C W) → leads m (kept_by t) r ≡ false → Heap m t → tally t (unfit m) ≡ 0 → tally t (over m r) ≡ 0
    over-tree (gone p) l hp u = refl
    over-tree (leaf p x o) l hp u = led o r l
    over-tree (fork p k o ts) l hp u =
        omega (arith, led o r l, tallies-zero (unfit m) (over m o) (over m r) (under o r (omega arith) fr l) ts (omega arith) hp.1)

    over-trees : (ts : Forest C W) → Roots (λ a. leads m a r ≡ false) ts → HeapAll m ts → tally_all ts (unfit m) ≡ 0 → tally_all ts (over m r) ≡ 0
    over-trees none l hs u = refl
    over-trees (more t ts) (l, ls) (hp, hs) u = omega (arith, over-tree t l hp (omega arith), over-trees ts ls hs (omega arith))

  pub over-top : (ts : Forest C W) → HeapAll m ts → tally_all ts (unfit m) ≡ 0 → tally_all ts (over m (top_of m ts)) ≡ 0
  over-top none hs u = refl
  over-top (more t ts) hs u =
      let (f, fs) = fit-roots (more t ts) u in
      let (fr, l, ls) = tops (kept_by t) ts f fs in
      over-trees (top_of m (more t ts)) fr (more t ts) (l, ls) hs u
