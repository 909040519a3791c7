-- How many points and nodes a tree of some height has.
use Rattle.std.proofs.Common.{ℕ, zero, suc, ◌+◌, ◌*◌, ◌^◌, ◌<◌, ◌≤◌, cond, leb, [], length, le_trans, suc-mul, mul_comm, mul-le-mul, pow-suc, zero-mul, arith, length-append}
use native.Mathlib.Nat.{pow-zero}
use Rattle.std.proofs.lemmas.Bool.{cond_both, leb-true}
use Rattle.trees.specs.Tree.{Tree, Forest, gone, leaf, fork, none, more, count, points, points_all, size, size_all}
use Rattle.trees.specs.Rules.{Level, LevelAll, Degrees, DegreesAll}
use Rattle.shapes.specs.Shape.{Holds, full, full_all, wants}

-- a fork has 2 children, or 4 where it is full
wide : (b n : ℕ) → 4 ≤ b → 2 ≤ n → 2 + 2 * cond (leb b n) 1 0 ≤ n
wide b n f h = cond_both (leb b n) 1 0 (λ c. 2 + 2 * c ≤ n) (λ e. omega (arith, leb-true b n e)) (λ e. omega arith)

module _ {C W : Type 0} where
  -- ---- a tree of height h has at least 2 ^ h points
  mutual
    pub points-least : (b : ℕ) (t : Tree C W) (h : ℕ) → Level t h → Degrees t 2 b → 2 ^ h ≤ length (points t)
    points-least b (gone p) h l d = absurd l
    points-least b (leaf p x o) h l d = rw (l, pow-zero) (omega arith)
    points-least b (fork p k o ts) zero l d = absurd l
    points-least b (fork p k o ts) (suc h) l (least, most, ds) =
        le_trans (rw (pow-suc, mul_comm (2 ^ h) 2) (mul-le-mul least (omega arith))) (points-forest b ts h l ds)

    points-forest : (b : ℕ) (ts : Forest C W) (h : ℕ) → LevelAll ts h → DegreesAll ts 2 b → count ts * 2 ^ h ≤ length (points_all ts)
    points-forest b none h l d = omega (arith, zero-mul (2 ^ h))
    points-forest b (more t ts) h (l, ls) (d, ds) =
        let i = points-least b t h l d in
        let j = points-forest b ts h ls ds in
        rw (length-append, suc-mul) (omega arith)

  -- ---- n points stand on at most 2 n - 1 nodes, two less for each fork with 4 children or more
  mutual
    pub size-full : (b : ℕ) → 4 ≤ b → (t : Tree C W) (h : ℕ) → Level t h → Degrees t 2 b → size t + 1 + 2 * full t b ≤ 2 * length (points t)
    size-full b f (gone p) h l d = absurd l
    size-full b f (leaf p x o) h l d = omega arith
    size-full b f (fork p k o ts) zero l d = absurd l
    size-full b f (fork p k o ts) (suc h) l (least, most, ds) = omega (arith, size-full-forest b f ts h l ds, wide b (count ts) f least)

    size-full-forest : (b : ℕ) → 4 ≤ b → (ts : Forest C W) (h : ℕ) → LevelAll ts h → DegreesAll ts 2 b → size_all ts + count ts + 2 * full_all ts b ≤ 2 * length (points_all ts)
    size-full-forest b f none h l d = omega arith
    size-full-forest b f (more t ts) h (l, ls) (d, ds) =
        let i = size-full b f t h l d in
        let j = size-full-forest b f ts h ls ds in
        rw length-append (omega arith)

  mutual
    pub size-most : (b : ℕ) (t : Tree C W) (h : ℕ) → Level t h → Degrees t 2 b → size t + 1 ≤ 2 * length (points t)
    size-most b (gone p) h l d = absurd l
    size-most b (leaf p x o) h l d = omega arith
    size-most b (fork p k o ts) zero l d = absurd l
    size-most b (fork p k o ts) (suc h) l (least, most, ds) = omega (arith, size-forest b ts h l ds)

    size-forest : (b : ℕ) (ts : Forest C W) (h : ℕ) → LevelAll ts h → DegreesAll ts 2 b → size_all ts + count ts ≤ 2 * length (points_all ts)
    size-forest b none h l d = omega arith
    size-forest b (more t ts) h (l, ls) (d, ds) =
        let i = size-most b t h l d in
        let j = size-forest b ts h ls ds in
        rw length-append (omega arith)

  -- ---- a table of 2 n - 1 places is enough for n points: below n points there are places for one leaf more
  pub wants-met : (room : ℕ) (h : ℕ) (f : Forest C W) (places : ℕ) → Holds h f → length (points_all f) < room → 2 * room ≤ suc (size_all f + places) → wants f ≤ places
  wants-met room h none places w n e = omega arith
  wants-met room h (more t (more u us)) places w n e = absurd (omega (arith, w.one))
  wants-met room h (more t none) places w n e =
      omega (arith, size-full 4 (omega arith) t h w.fine.level.0 w.fine.degrees.0, length-append (points t) [])
