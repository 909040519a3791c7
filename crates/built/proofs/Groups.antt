-- How many trees a parent takes.
use Rattle.std.proofs.Common.{◌≡◌, ℕ, suc, ◌≤◌, cond, eqb, leb, arith}
use Rattle.std.proofs.lemmas.Bool.{cond_both, leb-true, leb-false, eqb-true, eqb-false}
use Rattle.built.specs.Build.{group}

-- a parent takes 2 to 4 trees, and leaves none or at least 2
pub group-fits : (r : ℕ) → 2 ≤ r → (2 ≤ group r) × (group r ≤ 4) × (group r ≤ r) × (suc (group r) ≡ r → ⊥)
group-fits r h =
    cond_both (leb r 4) r (cond (eqb r 5) 3 4) (λ g. (2 ≤ g) × (g ≤ 4) × (g ≤ r) × (suc g ≡ r → ⊥))
    (λ e. (h, leb-true r 4 e, omega arith, λ z. omega arith))
    (λ e. let b = leb-false r 4 e in
    cond_both (eqb r 5) 3 4 (λ g. (2 ≤ g) × (g ≤ 4) × (g ≤ r) × (suc g ≡ r → ⊥))
    (λ i. let j = eqb-true r 5 i in (omega arith, omega arith, omega arith, λ z. omega arith))
    (λ i. (omega arith, omega arith, omega arith, λ z. eqb-false r 5 i (omega arith))))

-- and at least one where there is one
pub group-some : (r : ℕ) → 1 ≤ r → (1 ≤ group r) × (group r ≤ r)
group-some r h =
    cond_both (leb r 4) r (cond (eqb r 5) 3 4) (λ g. (1 ≤ g) × (g ≤ r))
    (λ e. (h, omega arith))
    (λ e. let b = leb-false r 4 e in
    cond_both (eqb r 5) 3 4 (λ g. (1 ≤ g) × (g ≤ r)) (λ i. (omega arith, omega arith)) (λ i. (omega arith, omega arith)))
