-- Codes are ordered from the left, and the weights of stations as any binary32 weights.
use Rattle.std.specs.Prelude.{ℕ, ◌&&◌, T, Float}
use Rattle.std.specs.Float.Ieee.Fits.{and_r}
use Rattle.kinds.specs.declared.code.Code.{Code}
use Rattle.kinds.specs.Order.{by_number, Preorder, IsAny}
use Rattle.kinds.specs.Weight.{fit_weight}
use Rattle.kinds.specs.Code.{by_code, fit_code}
use Rattle.kinds.specs.Meaning.{First, Second, Numbering}
use Rattle.kinds.specs.Kinds.{station}
use Rattle.kinds.specs.Orders.{by_number_lem, through, and_then, then_tie, number-tie}
use Rattle.kinds.specs.Weights.{smaller-first, own-numbers}

-- the order of one byte
abbrev ByByte : (Code → ℕ) → Type 0
ByByte byte = Preorder IsAny (λ (x y : Code). by_number (byte x) (byte y))

by_byte : (byte : Code → ℕ) → ByByte byte
by_byte byte = through byte by_number_lem

pub code-law : First station
code-law = record {
  orders =
      and_then (by_byte (λ x. x.a))
      (and_then (by_byte (λ x. x.b))
      (and_then (by_byte (λ x. x.c))
      (and_then (by_byte (λ x. x.d))
      (and_then (by_byte (λ x. x.e))
      (and_then (by_byte (λ x. x.f))
      (and_then (by_byte (λ x. x.g)) (by_byte (λ x. x.h))))))));
  ties = λ x y t.
      let a = then_tie _ _ t in
      let b = then_tie _ _ a.1 in
      let c = then_tie _ _ b.1 in
      let d = then_tie _ _ c.1 in
      let e = then_tie _ _ d.1 in
      let f = then_tie _ _ e.1 in
      let g = then_tie _ _ f.1 in
      λ i. record {
        a = number-tie x.a y.a a.0 i;
        b = number-tie x.b y.b b.0 i;
        c = number-tie x.c y.c c.0 i;
        d = number-tie x.d y.d d.0 i;
        e = number-tie x.e y.e e.0 i;
        f = number-tie x.f y.f f.0 i;
        g = number-tie x.g y.g g.0 i;
        h = number-tie x.h y.h g.1 i;
      };
}

-- ---- the weight of a fit point is fit
fine : (x : Code) (w : Float) → T (fit_code x && fit_weight w) → T (fit_weight w)
fine x w h = and_r (fit_code x) (fit_weight w) h

pub code-weights : Second station
code-weights = smaller-first by_code (λ x w. fit_code x && fit_weight w) fine

pub code-numbers : Numbering station (λ w. w)
code-numbers = own-numbers by_code (λ x w. fit_code x && fit_weight w) fine
