-- The four kinds.
use Rattle.std.specs.Prelude.{ℕ, Bool, true, false, cond, ◌&&◌, nat_le, Float}
use Rattle.kinds.specs.Order.{by_number}
use Rattle.kinds.specs.Weight.{pattern, weight_of, fit_weight, by_size}
use Rattle.kinds.specs.Code.{by_code, fit_code}
use Rattle.kinds.specs.Meaning.{Meaning}
use Rattle.kinds.specs.declared.code.Code.{Code}

-- residuals by epoch, the larger or the smaller one stronger
abbrev pub residuals : Bool → Meaning ℕ Float ℕ
residuals large_first = record {
  order = by_number;
  strength = λ a b. cond large_first (by_size b a) (by_size a b);
  fit = λ c w. fit_weight w;
  threshold = fit_weight;
  recorded = pattern;
  recalled = weight_of;
}

-- residuals by epoch, the larger one stronger
abbrev pub large : Meaning ℕ Float ℕ
large = residuals true

-- residuals by epoch, the smaller one stronger
abbrev pub small : Meaning ℕ Float ℕ
small = residuals false

-- stations by code, the smaller weight stronger
abbrev pub station : Meaning Code Float ℕ
station = record { order = by_code; strength = by_size; fit = λ c w. fit_code c && fit_weight w; threshold = fit_weight; recorded = pattern; recalled = weight_of }

-- intervals by start, the later end stronger; the end is not before the start, and every end is a fit threshold
abbrev pub validity : Meaning ℕ ℕ ℕ
validity = record { order = by_number; strength = λ a b. by_number b a; fit = λ c w. nat_le c w; threshold = λ w. true; recorded = λ w. w; recalled = λ w. w }
