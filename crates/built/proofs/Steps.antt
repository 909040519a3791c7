-- One parent more, one level more: what a step makes, and that the number of steps allowed does not matter where it suffices.
use Rattle.std.proofs.Common.{◌≡◌, ℕ, zero, suc, ◌+◌, ◌*◌, ◌≤◌, leb, sym, refl, ap, ◌∙◌, ⊎_elim, arith}
use Rattle.std.proofs.lemmas.Bool.{cond-true, cond-false, le-leb, lt-leb, cases_lt}
use Rattle.kinds.specs.Meaning.{Meaning}
use Rattle.plain.specs.declared.point.Key.{Key}
use Rattle.trees.specs.Tree.{Forest, none, more, ◌⊕◌, count, front, back}
use Rattle.trees.specs.Moves.{settled}
use Rattle.trees.proofs.Forests.{count-back, assoc-⊕}
use Rattle.built.specs.Build.{group, parents, levels}
use Rattle.built.proofs.Groups.{group-fits, group-some}

module _ {C W : Type 0} where
  -- fewer trees are left
  pub rest-less : (ts : Forest C W) → 1 ≤ count ts → suc (count (back (group (count ts)) ts)) ≤ count ts
  rest-less ts c = let g = group-some (count ts) c in omega (arith, count-back (group (count ts)) ts g.1)

module _ {C W R : Type 0} (m : Meaning C W R) where
  -- over no trees there are no parents
  pub parents-none : (n h p : ℕ) (k : Key C) → parents m n h p k none ≡ none
  parents-none zero h p k = refl
  parents-none (suc n) h p k = refl

  pub parents-more : (n h p : ℕ) (k : Key C) (ts : Forest C W) → 1 ≤ count ts →
      parents m (suc n) h p k ts ≡ more (settled m (suc h) p k (front (group (count ts)) ts)) (parents m n h (suc p) k (back (group (count ts)) ts))
  parents-more n h p k none c = absurd (omega arith)
  parents-more n h p k (more t ts) c = refl

  pub parents-fuel : (n i h p : ℕ) (k : Key C) (ts : Forest C W) → count ts ≤ n → count ts ≤ i → parents m n h p k ts ≡ parents m i h p k ts
  parents-fuel n i h p k none a b = parents-none n h p k ∙ sym (parents-none i h p k)
  parents-fuel zero i h p k (more t ts) a b = absurd (omega arith)
  parents-fuel (suc n) zero h p k (more t ts) a b = absurd (omega arith)
  parents-fuel (suc n) (suc i) h p k (more t ts) a b =
      let g = group (count (more t ts)) in
      let r = rest-less (more t ts) (omega arith) in
      ap (more (settled m (suc h) p k (front g (more t ts)))) (parents-fuel n i h (suc p) k (back g (more t ts)) (omega arith) (omega arith))

  -- one parent, and then those over the rest
  pub parents-step : (h p : ℕ) (k : Key C) (ts : Forest C W) → 1 ≤ count ts →
      let rest = back (group (count ts)) ts in
      parents m (count ts) h p k ts ≡ more (settled m (suc h) p k (front (group (count ts)) ts)) (parents m (count rest) h (suc p) k rest)
  parents-step h p k none c = absurd (omega arith)
  parents-step h p k (more t ts) c =
      let g = group (count (more t ts)) in
      let r = rest-less (more t ts) c in
      ap (more (settled m (suc h) p k (front g (more t ts)))) (parents-fuel (count ts) (count (back g (more t ts))) h (suc p) k (back g (more t ts)) (omega arith) (omega arith))

  -- there are at most half as many parents as trees
  pub parents-halved : (n h p : ℕ) (k : Key C) (ts : Forest C W) → (count ts ≡ 1 → ⊥) → 2 * count (parents m n h p k ts) ≤ count ts
  parents-halved zero h p k ts u = omega arith
  parents-halved (suc n) h p k none u = omega arith
  parents-halved (suc n) h p k (more t ts) u =
      let g = group (count (more t ts)) in
      let fits = group-fits (count (more t ts)) (omega arith) in
      let c = count-back g (more t ts) fits.2 in
      omega (arith, parents-halved n h (suc p) k (back g (more t ts)) (λ z. fits.3 (omega arith)))

  -- parents made before, one more, and those over the rest
  pub parents-turn : (h p : ℕ) (k : Key C) (made ts : Forest C W) → 1 ≤ count ts →
      let rest = back (group (count ts)) ts in
      made ⊕ parents m (count ts) h p k ts ≡ (made ⊕ more (settled m (suc h) p k (front (group (count ts)) ts)) none) ⊕ parents m (count rest) h (suc p) k rest
  parents-turn h p k made ts c =
      let rest = back (group (count ts)) ts in
      ap (λ us. made ⊕ us) (parents-step h p k ts c)
      ∙ sym (assoc-⊕ made (more (settled m (suc h) p k (front (group (count ts)) ts)) none) (parents m (count rest) h (suc p) k rest))

  -- ---- levels
  pub levels-done : (n h p : ℕ) (k : Key C) (ts : Forest C W) → count ts ≤ 1 → levels m n h p k ts ≡ (ts, h, p)
  levels-done zero h p k ts c = refl
  levels-done (suc n) h p k ts c = cond-true (leb (count ts) 1) _ _ (le-leb (count ts) 1 c)

  pub levels-more : (n h p : ℕ) (k : Key C) (ts : Forest C W) → 2 ≤ count ts →
      let us = parents m (count ts) h p k ts in
      levels m (suc n) h p k ts ≡ levels m n (suc h) (p + count us) k us
  levels-more n h p k ts c = cond-false (leb (count ts) 1) _ _ (lt-leb (count ts) 1 c)

  pub levels-fuel : (n i h p : ℕ) (k : Key C) (ts : Forest C W) → count ts ≤ suc n → count ts ≤ suc i → levels m n h p k ts ≡ levels m i h p k ts
  levels-fuel zero i h p k ts a b = sym (levels-done i h p k ts a)
  levels-fuel (suc n) zero h p k ts a b = levels-done (suc n) h p k ts b
  levels-fuel (suc n) (suc i) h p k ts a b =
      let us = parents m (count ts) h p k ts in
      ⊎_elim
      (λ c.
      let half = parents-halved (count ts) h p k ts (λ e. omega arith) in
      levels-more n h p k ts c ∙ levels-fuel n i (suc h) (p + count us) k us (omega arith) (omega arith) ∙ sym (levels-more i h p k ts c))
      (λ c. levels-done (suc n) h p k ts c ∙ sym (levels-done (suc i) h p k ts c))
      (cases_lt 1 (count ts))

  -- one level, and then those over it
  pub levels-step : (h p : ℕ) (k : Key C) (ts : Forest C W) → 2 ≤ count ts →
      let us = parents m (count ts) h p k ts in
      levels m (count ts) h p k ts ≡ levels m (count us) (suc h) (p + count us) k us
  levels-step h p k none c = absurd (omega arith)
  levels-step h p k (more t ts) c =
      let us = parents m (count (more t ts)) h p k (more t ts) in
      let half = parents-halved (count (more t ts)) h p k (more t ts) (λ e. omega arith) in
      levels-more (count ts) h p k (more t ts) c ∙ levels-fuel (count ts) (count us) (suc h) (p + count us) k us (omega arith) (omega arith)
