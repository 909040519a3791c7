-- A walk by a stack: a step takes the next node, and how many entries the stack has.
use Rattle.std.proofs.Common.{◌≡◌, ℕ, zero, suc, ◌+◌, ◌-◌, ◌*◌, ◌≤◌, Bool, List, [], ◌∷◌, ◌++◌, length, take, drop, Option, sym, refl, ap, ◌∙◌, append-nil, mul-suc, arith, length-append}
use Rattle.std.proofs.lemmas.Grind.{flat_map-append}
use Rattle.std.specs.List.{flat_map, AllByRecursion}
use Rattle.kinds.specs.Meaning.{Meaning}
use Rattle.plain.specs.declared.point.Point.{Point}
use Rattle.trees.specs.Tree.{Tree, Forest, gone, leaf, fork, none, more, count, points, points_all}
use Rattle.trees.specs.Rules.{Level, LevelAll, Degrees, DegreesAll}
use Rattle.shapes.proofs.Counts.{size-most}
use Rattle.walked.specs.Walk.{until, opens, open_of, walk, walk_all, next, step, after, run}
use Rattle.walked.proofs.Parts.{by-test}
use Rattle.walked.proofs.Opens.{open-most}

-- ---- room for what is below each entry: with i entries under it, one of height g has i + (b - 1) * g ≤ (b - 1) * h
module _ {C W : Type 0} (b h : ℕ) where
  abbrev pub Room : List (Tree C W) → Type 0
  Room [] = Unit {0}
  Room (v ∷ vs) = ((g : ℕ) × Level v g × Degrees v 2 b × (length vs + (b - 1) * g ≤ (b - 1) * h)) × Room vs

  pub room-length : (vs : List (Tree C W)) → Room vs → length vs ≤ (b - 1) * h + 1
  room-length [] r = omega arith
  room-length (v ∷ vs) ((g, lv, de, q), r) = omega arith

  -- a stack begins with room
  pub start-room : (t : Tree C W) → Level t h → Degrees t 2 b → Room (t ∷ [])
  start-room t level degrees = ((h, level, degrees, omega arith), tt)

module _ {C W R : Type 0} (m : Meaning C W R) (leads : Option (Point C W) → Bool) (l u : C) where
  pub walk-open : (ts : Forest C W) → walk_all m leads l u ts ≡ flat_map (walk m leads l u) (open_of m l u ts)
  walk-open none = refl
  walk-open (more t ts) = by-test (opens m l u t ts) (λ o. rw o (ap (λ z. walk m leads l u t ++ z) (walk-open ts))) (λ o. rw o (walk-open ts))

  pub walk-next : (v : Tree C W) → walk m leads l u v ≡ v ∷ flat_map (walk m leads l u) (next m leads l u v)
  walk-next (gone p) = refl
  walk-next (leaf p x o) = refl
  walk-next (fork p k o ts) = by-test (leads o) (λ e. rw e (ap (λ z. fork p k o ts ∷ z) (walk-open ts))) (λ e. rw e)

  -- a step takes the first node of what is left of the walk
  pub walk_step : (v : Tree C W) (vs : List (Tree C W)) → flat_map (walk m leads l u) (v ∷ vs) ≡ v ∷ flat_map (walk m leads l u) (step m leads l u (v ∷ vs))
  walk_step v vs = ap (λ z. z ++ flat_map (walk m leads l u) vs) (walk-next v) ∙ ap (λ z. v ∷ z) (sym (flat_map-append (walk m leads l u) (next m leads l u v) vs))

  -- the same of a walk that is cut off
  pub until-step : {Y : Type 0} (list : Tree C W → List Y) (k : ℕ) (v : Tree C W) (vs : List (Tree C W))
      → until list (suc k) (flat_map (walk m leads l u) (v ∷ vs)) ≡ v ∷ until list (suc k - length (list v)) (flat_map (walk m leads l u) (step m leads l u (v ∷ vs)))
  until-step list k v vs = ap (until list (suc k)) (walk_step v vs)

  -- one entry is its whole walk
  pub walk-one : (v : Tree C W) → flat_map (walk m leads l u) (v ∷ []) ≡ walk m leads l u v
  walk-one v = append-nil (walk m leads l u v)

  -- the entries taken are the nodes of the walk, in its order
  pub run-walk : (n : ℕ) (vs : List (Tree C W)) → run m leads l u n vs ≡ take n (flat_map (walk m leads l u) vs)
  run-walk zero [] = refl
  run-walk (suc n) [] = refl
  run-walk zero (v ∷ vs) = refl
  run-walk (suc n) (v ∷ vs) = ap (λ z. v ∷ z) (run-walk n (step m leads l u (v ∷ vs))) ∙ sym (ap (take (suc n)) (walk_step v vs))

  -- and the entries left lead to the rest
  pub after-walk : (n : ℕ) (vs : List (Tree C W)) → flat_map (walk m leads l u) (after m leads l u n vs) ≡ drop n (flat_map (walk m leads l u) vs)
  after-walk zero vs = refl
  after-walk (suc n) [] = after-walk n [] ∙ nothing n
    where
      nothing : (n : ℕ) → drop n (flat_map (walk m leads l u) []) ≡ []
      nothing zero = refl
      nothing (suc n) = refl
  after-walk (suc n) (v ∷ vs) = after-walk n (step m leads l u (v ∷ vs)) ∙ sym (ap (drop (suc n)) (walk_step v vs))

  -- ---- at most as many entries as points
  abbrev Sound : ℕ → List (Tree C W) → Type 0
  Sound b vs = AllByRecursion (λ v. (g : ℕ) × Level v g × Degrees v 2 b) vs

  open-sound : (b g : ℕ) (ts : Forest C W) (vs : List (Tree C W)) → LevelAll ts g → DegreesAll ts 2 b → Sound b vs → Sound b (open_of m l u ts ++ vs)
  open-sound b g none vs lv de s = s
  open-sound b g (more t ts) vs (lv, lvs) (de, des) s =
      by-test (opens m l u t ts) (λ o. rw o ((g, lv, de), open-sound b g ts vs lvs des s)) (λ o. rw o (open-sound b g ts vs lvs des s))

  step-sound : (b : ℕ) (vs : List (Tree C W)) → Sound b vs → Sound b (step m leads l u vs)
  step-sound b [] s = tt
  step-sound b (gone p ∷ vs) (a, s) = s
  step-sound b (leaf p x o ∷ vs) (a, s) = s
  step-sound b (fork p k o ts ∷ vs) ((zero, lv, de), s) = absurd lv
  step-sound b (fork p k o ts ∷ vs) ((suc g, lv, (i, j, de)), s) = by-test (leads o) (λ e. rw e (open-sound b g ts vs lv de s)) (λ e. rw e s)

  open-points : (ts : Forest C W) → length (flat_map points (open_of m l u ts)) ≤ length (points_all ts)
  open-points none = omega arith
  open-points (more t ts) =
      let rest = open-points ts in
      let n = length-append (points t) (points_all ts) in
      by-test (opens m l u t ts) (λ o. rw o (omega (arith, rest, n, length-append (points t) (flat_map points (open_of m l u ts))))) (λ o. rw o (omega (arith, rest, n)))

  step-points : (vs : List (Tree C W)) → length (flat_map points (step m leads l u vs)) ≤ length (flat_map points vs)
  step-points [] = omega arith
  step-points (gone p ∷ vs) = omega arith
  step-points (leaf p x o ∷ vs) = omega arith
  step-points (fork p k o ts ∷ vs) =
      let os = open_of m l u ts in
      let n = length-append (points_all ts) (flat_map points vs) in
      by-test (leads o)
      (λ e. rw e (omega (arith, n, open-points ts, ap length (flat_map-append points os vs), length-append (flat_map points os) (flat_map points vs))))
      (λ e. rw e (omega (arith, n)))

  sound-length : (b : ℕ) (vs : List (Tree C W)) → Sound b vs → length vs ≤ length (flat_map points vs)
  sound-length b [] s = omega arith
  sound-length b (v ∷ vs) ((g, lv, de), s) = omega (arith, size-most b v g lv de, sound-length b vs s, length-append (points v) (flat_map points vs))

  after-points : (b n : ℕ) (vs : List (Tree C W)) → Sound b vs → length (after m leads l u n vs) ≤ length (flat_map points vs)
  after-points b zero vs s = sound-length b vs s
  after-points b (suc n) vs s = omega (arith, after-points b n (step m leads l u vs) (step-sound b vs s), step-points vs)

  -- ---- a step keeps room for what is below each entry
  open-room : (b h g : ℕ) (ts : Forest C W) (vs : List (Tree C W)) → LevelAll ts g → DegreesAll ts 2 b → count ts + length vs + (b - 1) * g ≤ (b - 1) * h + 1 → Room b h vs → Room b h (open_of m l u ts ++ vs)
  open-room b h g none vs lv de q r = r
  open-room b h g (more t ts) vs (lv, lvs) (de, des) q r =
      let rest = open-room b h g ts vs lvs des (omega arith) r in
      by-test (opens m l u t ts) (λ o. rw o ((g, lv, de, omega (arith, length-append (open_of m l u ts) vs, open-most m l u ts)), rest)) (λ o. rw o rest)

  pub step_room : (b h : ℕ) (vs : List (Tree C W)) → Room b h vs → Room b h (step m leads l u vs)
  step_room b h [] r = tt
  step_room b h (gone p ∷ vs) (e, r) = r
  step_room b h (leaf p x o ∷ vs) (e, r) = r
  step_room b h (fork p k o ts ∷ vs) ((zero, lv, de, q), r) = absurd lv
  step_room b h (fork p k o ts ∷ vs) ((suc g, lv, (i, j, de), q), r) = by-test (leads o) (λ e. rw e (open-room b h g ts vs lv de (omega (arith, mul-suc (b - 1) g)) r)) (λ e. rw e r)

  after-room : (b h n : ℕ) (vs : List (Tree C W)) → Room b h vs → length (after m leads l u n vs) ≤ (b - 1) * h + 1
  after-room b h zero vs r = room-length b h vs r
  after-room b h (suc n) vs r = after-room b h n (step m leads l u vs) (step_room b h vs r)

  module _ (b h : ℕ) (t : Tree C W) (level : Level t h) (degrees : Degrees t 2 b) where
    -- a frontier never has more entries than there are points
    pub frontier-most : (n : ℕ) → length (after m leads l u n (t ∷ [])) ≤ length (points t)
    frontier-most n = omega (arith, after-points b n (t ∷ []) ((h, level, degrees), tt), ap length (append-nil (points t)))

    -- a stack never has more than (b - 1) * h + 1
    pub stack-most : (n : ℕ) → length (after m leads l u n (t ∷ [])) ≤ (b - 1) * h + 1
    stack-most n = after-room b h n (t ∷ []) (start-room b h t level degrees)
