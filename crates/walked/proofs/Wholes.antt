-- What is known of the walks over a tree, and over a tree or none.
use Rattle.std.proofs.Common.{◌≡◌, ℕ, zero, suc, ◌≤◌, false, T, List, [], length, sym, refl, subst, append-nil, arith}
use base.Stored.{Coded}
use Rattle.std.specs.List.Sorted.{IsPermutation}
use Rattle.std.proofs.lemmas.List.Sorted.{IsPermutation-refl}
use Rattle.kinds.specs.Meaning.{Meaning, First, Second}
use Rattle.plain.specs.declared.point.Point.{Point}
use Rattle.plain.specs.Windows.{later, window, matches, firsts}
use Rattle.trees.specs.Tree.{Tree, Forest, none, more, points, points_all}
use Rattle.shapes.specs.Settles.{Whole}
use Rattle.shapes.proofs.Wholes.{whole-rules}
use Rattle.walked.specs.Walk.{visits, ranged, taken, first_taken, listed, visits_all, ranged_all, taken_all, first_taken_all, Log, most_visited, most_taken}
use Rattle.walked.specs.Theorems.{WalksHold, WholesHold}
use Rattle.walked.proofs.Heights.{some-points}
use Rattle.walked.proofs.Takes.{taken-lists, first-lists}
use Rattle.walked.proofs.Ranges.{range-lists}
use Rattle.walked.proofs.Bounds.{range-bound, taken-bound, first-bound}
use Rattle.walked.proofs.Stacks.{walk_step, stack-most, frontier-most}

pub walks-hold : {C W R : Type 0} (m : Meaning C W R) → First m → Second m → WalksHold m
walks-hold m first second = record {
  range_exact = λ h t rules l u w fit. range-lists m first second l u w fit 2 4 h t rules;
  taken_exact = λ h t rules l u. taken-lists m first l u 2 4 h t rules;
  first_exact = λ h t rules l u places. first-lists m first l u 2 4 h t rules places;
  range_few = λ h t rules L log l u w fit. range-bound m first h t rules L log l u second w fit;
  taken_few = λ h t rules L log l u forward. taken-bound m first h t rules L log l u forward;
  first_few = λ h t rules L log l u forward places. first-bound m first h t rules L log l u forward places;
  steps = λ leads l u v vs. walk_step m leads l u v vs;
  stack_small = λ leads l u h t level degrees n. stack-most m leads l u 4 h t level degrees n;
  frontier_small = λ leads l u h t level degrees n. frontier-most m leads l u 4 h t level degrees n;
}

module _ {C W R : Type 0} (m : Meaning C W R) (first : First m) (second : Second m) (kc : Coded C) (kw : Coded W) (h : ℕ) where
  -- what holds of the points of the one tree holds of those of the forest
  alone : (P : List (Point C W) → Type 0) (t : Tree C W) → P (points t) → P (points_all (more t none))
  alone P t p = subst P (sym (append-nil (points t))) p

  module _ (l u : C) where
    pub range-whole : (f : Forest C W) → Whole m h f → (w : W) → T (m.threshold w) → IsPermutation (matches m l u w (points_all f)) (ranged_all m l u w f)
    range-whole none o w fit = IsPermutation-refl []
    range-whole (more t none) o w fit = alone (λ ps. IsPermutation (matches m l u w ps) (ranged m l u w t)) t (range-lists m first second l u w fit 2 4 h t (whole-rules m first second kc kw h t o))
    range-whole (more t (more v vs)) o w fit = absurd (omega (arith, o.holds.one))

    pub taken-whole : (f : Forest C W) → Whole m h f → listed m l u (taken_all m l u f) ≡ window m l u (points_all f)
    taken-whole none o = refl
    taken-whole (more t none) o = alone (λ ps. listed m l u (taken m l u t) ≡ window m l u ps) t (taken-lists m first l u 2 4 h t (whole-rules m first second kc kw h t o))
    taken-whole (more t (more v vs)) o = absurd (omega (arith, o.holds.one))

    pub first-whole : (f : Forest C W) → Whole m h f → (places : ℕ) → listed m l u (first_taken_all m l u places f) ≡ firsts m places l u (points_all f)
    first-whole none o zero = refl
    first-whole none o (suc places) = refl
    first-whole (more t none) o places = alone (λ ps. listed m l u (first_taken m l u places t) ≡ firsts m places l u ps) t (first-lists m first l u 2 4 h t (whole-rules m first second kc kw h t o) places)
    first-whole (more t (more v vs)) o places = absurd (omega (arith, o.holds.one))

  -- the logarithm of the number of points of the one tree
  log-one : (L : ℕ) (t : Tree C W) → Whole m h (more t none) → (1 ≤ length (points_all (more t none)) → Log (length (points_all (more t none))) L) → Log (length (points t)) L
  log-one L t o g =
      let e = append-nil (points t) in
      subst (λ (ps : List (Point C W)). 1 ≤ length ps → Log (length ps) L) e g (some-points m 2 4 h t (whole-rules m first second kc kw h t o) (omega arith))

  module _ (L : ℕ) (l u : C) where
    pub range-whole-few : (f : Forest C W) → Whole m h f → (1 ≤ length (points_all f) → Log (length (points_all f)) L) → (w : W) → T (m.threshold w) → length (visits_all m l u w f) ≤ most_visited L (length (matches m l u w (points_all f)))
    range-whole-few none o g w fit = omega arith
    range-whole-few (more t none) o g w fit =
        alone (λ ps. length (visits m l u w t) ≤ most_visited L (length (matches m l u w ps))) t (range-bound m first h t (whole-rules m first second kc kw h t o) L (log-one L t o g) l u second w fit)
    range-whole-few (more t (more v vs)) o g w fit = absurd (omega (arith, o.holds.one))

    pub taken-whole-few : (f : Forest C W) → Whole m h f → (1 ≤ length (points_all f) → Log (length (points_all f)) L) → later m l u ≡ false → length (taken_all m l u f) ≤ most_taken L (length (window m l u (points_all f)))
    taken-whole-few none o g forward = omega arith
    taken-whole-few (more t none) o g forward =
        alone (λ ps. length (taken m l u t) ≤ most_taken L (length (window m l u ps))) t (taken-bound m first h t (whole-rules m first second kc kw h t o) L (log-one L t o g) l u forward)
    taken-whole-few (more t (more v vs)) o g forward = absurd (omega (arith, o.holds.one))

    pub first-whole-few : (f : Forest C W) → Whole m h f → (1 ≤ length (points_all f) → Log (length (points_all f)) L) → later m l u ≡ false → (places : ℕ) → length (first_taken_all m l u places f) ≤ most_taken L (length (firsts m places l u (points_all f)))
    first-whole-few none o g forward places = omega arith
    first-whole-few (more t none) o g forward places =
        alone (λ ps. length (first_taken m l u places t) ≤ most_taken L (length (firsts m places l u ps))) t (first-bound m first h t (whole-rules m first second kc kw h t o) L (log-one L t o g) l u forward places)
    first-whole-few (more t (more v vs)) o g forward places = absurd (omega (arith, o.holds.one))

pub wholes-hold : {C W R : Type 0} (m : Meaning C W R) → First m → Second m → Coded C → Coded W → WholesHold m
wholes-hold m first second kc kw = record {
  range_exact = λ h f o l u w fit. range-whole m first second kc kw h l u f o w fit;
  taken_exact = λ h f o l u. taken-whole m first second kc kw h l u f o;
  first_exact = λ h f o l u places. first-whole m first second kc kw h l u f o places;
  range_few = λ h f o L g l u w fit. range-whole-few m first second kc kw h L l u f o g w fit;
  taken_few = λ h f o L g l u forward. taken-whole-few m first second kc kw h L l u f o g forward;
  first_few = λ h f o L g l u forward places. first-whole-few m first second kc kw h L l u f o g forward places;
}
