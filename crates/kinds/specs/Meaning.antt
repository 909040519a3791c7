-- What a kind means, and the laws that it keeps.
use Rattle.std.specs.Prelude.{◌≡◌, Bool, T, ◌⊎◌, Float}
use Rattle.std.specs.declared.cmp.Ordering.TheVariants.{Equal}
use Rattle.std.specs.declared.cmp.Ordering.{Ordering}
use Rattle.kinds.specs.Order.{Preorder, IsAny}
use Rattle.kinds.specs.Weight.{fit_weight, by_size}

-- one fixed answer to each question, for all coordinates (C) and weights (W), fit or not; a node records a weight as an R
pub record Meaning (C W R : Type 0) : Type 0 where
  -- `Less` if the first coordinate is earlier
  pub order : C → C → Ordering
  -- `Less` if the first weight is stronger
  pub strength : W → W → Ordering
  -- fit together, as a point
  pub fit : C → W → Bool
  -- fit as a threshold
  pub threshold : W → Bool
  -- a weight as a node records it
  pub recorded : W → R
  -- the weight that was recorded
  pub recalled : R → W

module _ {C W R : Type 0} (m : Meaning C W R) where
  -- the first law: 'not later' is total and carries over, exchanged coordinates answer the reverse, and those that tie are equal
  pub record First : Type 0 where
    pub orders : Preorder IsAny m.order
    pub ties : (a b : C) → m.order a b ≡ Equal → a ≡ b

  -- a weight that occurs in a fit point, or is a fit threshold
  abbrev pub Occurs : W → Type 0
  Occurs w = ((c : C) × T (m.fit c w)) ⊎ T (m.threshold w)

  -- the second law: among the weights that occur, 'not weaker' is total and carries over, and exchanged weights answer the reverse; each is recalled as it was recorded
  pub record Second : Type 0 where
    pub orders : Preorder Occurs m.strength
    pub kept : (w : W) → Occurs w → m.recalled (m.recorded w) ≡ w

  -- what a summed kind shows of the numbers of fit weights: each has a pattern from 00000000 to 7F7FFFFF, and the smaller one is stronger
  pub record Numbering (number : W → Float) : Type 0 where
    pub small : (c : C) (w : W) → T (m.fit c w) → T (fit_weight (number w))
    pub ranks : (c d : C) (v w : W) → T (m.fit c v) → T (m.fit d w) → m.strength v w ≡ by_size (number v) (number w)
