-- A worked tree: three points, at 10, 20 and 30, the larger weight the stronger.
use Rattle.std.proofs.Common.{◌≡◌, ℕ, true, [], ◌∷◌, length, Some, None, refl, arith}
use Rattle.kinds.specs.Order.{by_number}
use Rattle.kinds.specs.Meaning.{Meaning}
use Rattle.plain.specs.declared.point.Point.{Point}
use Rattle.trees.specs.Tree.{Tree, leaf, fork, none, more}
use Rattle.trees.specs.Rules.{Rules}
use Rattle.walked.specs.Walk.{visits, ranged, taken, first_taken, listed}

abbrev meaning : Meaning ℕ ℕ ℕ
meaning = record { order = by_number; strength = λ a b. by_number b a; fit = λ c w. true; threshold = λ w. true; recorded = λ w. w; recalled = λ w. w }

abbrev at : ℕ → ℕ → Point ℕ ℕ
at c w = record { key = record { at = c; number = 1 }; weight = w }

abbrev tree : Tree ℕ ℕ
tree =
    fork 0 (record { at = 10; number = 1 }) (Some (at 20 9))
    (more (leaf 1 (at 10 4) (Some (at 10 4)))
    (more (leaf 2 (at 20 9) None)
    (more (leaf 3 (at 30 1) (Some (at 30 1))) none)))

ruled : Rules meaning 2 4 1 tree
ruled = record {
  level = (refl, (refl, (refl, tt)));
  rising = ((refl, (refl, tt)), ((refl, tt), (tt, tt)));
  fit = (tt, (tt, (tt, tt)));
  degrees = (omega arith, omega arith, (tt, (tt, (tt, tt))));
  keyed = (refl, (tt, (tt, (tt, tt))));
  once = record { moves = (0, 1) ∷ []; below = (omega arith, omega arith, tt); is = refl };
  on_path = (((1, omega arith, refl), tt), (((0, omega arith, refl), tt), (tt, (((0, omega arith, refl), tt), tt))));
  filled = (λ e. absurd (let z : ◌≡◌ {A = ℕ} 0 1 = cc in omega arith), (tt, (tt, (tt, tt))));
  ranked = (((refl, (refl, tt)), tt), (tt, (tt, (tt, tt))));
}

-- from 10 to 20, with a threshold of 2: the points at 20 and 10, and 3 nodes visited
lists : ranged meaning 10 20 2 tree ≡ at 20 9 ∷ at 10 4 ∷ []
lists = refl

visits-3 : length (visits meaning 10 20 2 tree) ≡ 3
visits-3 = refl

-- the first 2 from 10 to 30: at 10 and 20, and 3 nodes taken
first-2 : listed meaning 10 30 (first_taken meaning 10 30 2 tree) ≡ at 10 4 ∷ at 20 9 ∷ []
first-2 = refl

takes-3 : length (first_taken meaning 10 30 2 tree) ≡ 3
takes-3 = refl

-- from 11 to 19 there are none
none_between : listed meaning 11 19 (taken meaning 11 19 tree) ≡ []
none_between = refl
