-- Fit weights are finite and not negative, and `by_size` orders them.
use Rattle.std.specs.Prelude.{◌≡◌, ℕ, ◌*◌, ◌≤◌, Bool, true, false, T, nat_le, refl, Float}
use Rattle.std.specs.declared.cmp.Ordering.{Ordering}
use Rattle.std.proofs.Common.{sym, ap, ◌∙◌, subst, inl, inr, arith, leb→le}
use Rattle.std.specs.Float.{nan, inf, fin, binary32}
use Rattle.std.specs.Float.Ieee.{fits, lt, to_bits}
use Rattle.std.specs.Float.Ieee.Fits.{and_l, and_r}
use Rattle.std.specs.Float.Ieee.Bits.{of_bits-to_bits}
use Rattle.std.specs.Float.Ieee.Positive.{num, den, den_pos, through as fractions}
use Rattle.std.specs.Ordering.{is_le, ordering_reverse}
use Rattle.kinds.specs.Order.{by_number, Preorder}
use Rattle.kinds.specs.Weight.{pattern, weight_of, fit_weight, by_size}
use Rattle.kinds.specs.Kinds.{residuals}
use Rattle.kinds.specs.Meaning.{Meaning, Occurs, Second, Numbering}
use Rattle.kinds.specs.Orders.{number-le, le-number, number-total, number-turned, among, backward}

-- finite and not negative
abbrev pub plain : Float → Bool
plain nan = false
plain (inf s) = false
plain (fin true m e) = false
plain (fin false m e) = true

-- what has a fit pattern
fit-pattern : (w : Float) → T (fit_weight w) → T (nat_le (pattern w) 0x7F7F_FFFF)
fit-pattern w h = and_r (fits binary32 w) (nat_le (pattern w) 0x7F7F_FFFF) h

pub fit-plain : (w : Float) → T (fit_weight w) → T (plain w)
unfolding to_bits
fit-plain nan h = absurd (fit-pattern nan h)
fit-plain (inf true) h = absurd (fit-pattern (inf true) h)
fit-plain (inf false) h = absurd (fit-pattern (inf false) h)
fit-plain (fin true m e) h = let p : pattern (fin true m e) ≤ 2139095039 = leb→le (pattern (fin true m e)) 0x7F7F_FFFF (fit-pattern (fin true m e) h) in omega arith
fit-plain (fin false m e) h = tt

-- ---- the order of two such numbers is that of two fractions
size_is : (a b : Float) → T (plain a) → T (plain b) → by_size a b ≡ by_number (num a * den b) (num b * den a)
unfolding lt
size_is nan b p q = absurd p
size_is (inf s) b p q = absurd p
size_is (fin true m e) b p q = absurd p
size_is (fin false m e) nan p q = absurd q
size_is (fin false m e) (inf t) p q = absurd q
size_is (fin false m e) (fin true n d) p q = absurd q
size_is (fin false m e) (fin false n d) p q = refl

size-le : (a b : Float) → T (plain a) → T (plain b) → T (is_le (by_size a b)) → num a * den b ≤ num b * den a
size-le a b p q h = number-le (num a * den b) (num b * den a) (subst (λ z. T (is_le z)) (size_is a b p q) h)

le-size : (a b : Float) → T (plain a) → T (plain b) → num a * den b ≤ num b * den a → T (is_le (by_size a b))
le-size a b p q h = subst (λ z. T (is_le z)) (sym (size_is a b p q)) (le-number (num a * den b) (num b * den a) h)

pub by-size : Preorder (λ w. T (plain w)) by_size
by-size = record {
  total = λ a b p q. elim (number-total (num a * den b) (num b * den a)) [
    | inl h ↦ inl (subst (λ z. T (is_le z)) (sym (size_is a b p q)) h)
    | inr h ↦ inr (subst (λ z. T (is_le z)) (sym (size_is b a q p)) h)
  ];
  carries = λ a b c p q r h k. le-size a c p r (fractions (num a) (num b) (num c) (den a) (den b) (den c) (den_pos b) (size-le a b p q h) (size-le b c q r k));
  turned = λ a b p q. size_is b a q p ∙ number-turned (num a * den b) (num b * den a) ∙ ap ordering_reverse (sym (size_is a b p q));
}

-- a fit weight turned into its pattern and back
fit-kept : (w : Float) → T (fit_weight w) → weight_of (pattern w) ≡ w
fit-kept w h = of_bits-to_bits binary32 w (and_l (fits binary32 w) (nat_le (pattern w) 0x7F7F_FFFF) h)

-- ---- the second law of a kind with binary32 weights, whatever its coordinates
module _ {C : Type 0} (order : C → C → Ordering) (fit : C → Float → Bool) (fine : (c : C) (w : Float) → T (fit c w) → T (fit_weight w)) where
  abbrev smallest : Meaning C Float ℕ
  smallest = record { order = order; strength = by_size; fit = fit; threshold = fit_weight; recorded = pattern; recalled = weight_of }

  abbrev largest : Meaning C Float ℕ
  largest = record { order = order; strength = λ a b. by_size b a; fit = fit; threshold = fit_weight; recorded = pattern; recalled = weight_of }

  occurs-fit : (w : Float) → Occurs smallest w → T (fit_weight w)
  occurs-fit w (inl (c, h)) = fine c w h
  occurs-fit w (inr h) = h

  pub smaller-first : Second smallest
  smaller-first = record { orders = among by-size (λ w h. fit-plain w (occurs-fit w h)); kept = λ w h. fit-kept w (occurs-fit w h) }

  pub larger-first : Second largest
  larger-first = record { orders = backward (among by-size (λ w h. fit-plain w (occurs-fit w h))); kept = λ w h. fit-kept w (occurs-fit w h) }

  -- a weight that is its own number
  pub own-numbers : Numbering smallest (λ w. w)
  own-numbers = record { small = fine; ranks = λ c d v w h k. refl }

-- the second law of residuals, whichever are strong
pub residual-weights : (large_first : Bool) → Second (residuals large_first)
residual-weights true = larger-first by_number (λ c w. fit_weight w) (λ c w h. h)
residual-weights false = smaller-first by_number (λ c w. fit_weight w) (λ c w h. h)
