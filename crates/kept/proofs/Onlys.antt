-- A sum at the points of one key, and elsewhere.
use Rattle.std.proofs.Common.{◌≡◌, ℕ, ◌+◌, Bool, true, false, cond, ap, arith}
use Rattle.std.specs.Ordering.{is_eq}
use Rattle.std.proofs.lemmas.Bool.{cond-true, cond-false}
use Rattle.kinds.specs.Meaning.{Meaning, First}
use Rattle.plain.specs.declared.point.Key.{Key}
use Rattle.plain.specs.declared.point.Point.{Point}
use Rattle.plain.specs.Points.{key_order, Before}
use Rattle.plain.proofs.Keys.{same, apart, apart-back}

module _ {C W R : Type 0} (m : Meaning C W R) (k : Key C) (f : Point C W → ℕ) where
  abbrev pub only : Point C W → ℕ
  only z = cond (is_eq (key_order m k z.key)) (f z) 0

  abbrev pub rest : Point C W → ℕ
  rest z = cond (is_eq (key_order m k z.key)) 0 (f z)

  pub parted : (z : Point C W) → f z ≡ only z + rest z
  parted z = go (is_eq (key_order m k z.key))
    where
      go : (b : Bool) → f z ≡ cond b (f z) 0 + cond b 0 (f z)
      go true = omega arith
      go false = omega arith

  pub only-tied : (z : Point C W) → is_eq (key_order m k z.key) ≡ true → only z ≡ f z
  only-tied z e = cond-true (is_eq (key_order m k z.key)) (f z) 0 e

  pub only-apart : (z : Point C W) → is_eq (key_order m k z.key) ≡ false → only z ≡ 0
  only-apart z e = cond-false (is_eq (key_order m k z.key)) (f z) 0 e

  module _ (first : First m) where
    pub only-late : (z : Point C W) → Before m k z.key → only z ≡ 0
    only-late z b = only-apart z (apart m first k z.key b)

    pub only-soon : (z : Point C W) → Before m z.key k → only z ≡ 0
    only-soon z b = only-apart z (apart-back m first z.key k b)

pub only_self : {C W R : Type 0} (m : Meaning C W R) (first : First m) (x : Point C W) (f : Point C W → ℕ) → only m x.key f x ≡ f x
only_self m first x f = only-tied m x.key f x (ap is_eq (same m first x.key))
