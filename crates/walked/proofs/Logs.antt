-- The logarithm of a number: that it is there, and which it is.
use Rattle.std.proofs.Common.{◌≡◌, ℕ, zero, suc, ◌*◌, ◌^◌, ◌<◌, ◌≤◌, ◌⊎◌, refl, inl, inr, mul_comm, pow-suc, arith, lit<, lit≤, pow_mono}
use Rattle.std.proofs.lemmas.Bool.{cases_lt}
use Rattle.walked.specs.Walk.{Log}
use Rattle.walked.specs.Theorems.{BoundsExample}

-- between 2 ^ k and the next power
pub logged : (n k : ℕ) → 2 ^ k ≤ n → n < 2 ^ suc k → Log n k
logged n k low high = (low, λ j h. go j h (cases_lt k j))
  where
    go : (j : ℕ) → 2 ^ j ≤ n → (k < j) ⊎ (j ≤ k) → j ≤ k
    go j h (inl more) = let p : 2 ^ suc k ≤ 2 ^ j = pow_mono more in absurd (omega arith)
    go j h (inr less) = less

double : (k : ℕ) → 2 ^ suc k ≡ 2 * 2 ^ k
double k = rw (pow-suc, mul_comm (2 ^ k) 2)

-- each number from 1 on has one
pub logarithm : (n : ℕ) → (k : ℕ) × (2 ^ k ≤ suc n) × (suc n < 2 ^ suc k)
logarithm zero = (0, lit≤ tt, lit< tt)
logarithm (suc n) = let (k, low, high) = logarithm n in go k low high (cases_lt (suc (suc n)) (2 ^ suc k))
  where
    go : (k : ℕ) → 2 ^ k ≤ suc n → suc n < 2 ^ suc k → (suc (suc n) < 2 ^ suc k) ⊎ (2 ^ suc k ≤ suc (suc n)) → (k : ℕ) × (2 ^ k ≤ suc (suc n)) × (suc (suc n) < 2 ^ suc k)
    go k low high (inl less) = (k, omega arith, less)
    go k low high (inr reached) = (suc k, reached, omega (arith, double (suc k)))

pub log-of : (n : ℕ) → 1 ≤ n → (k : ℕ) × Log n k
log-of zero h = absurd (omega arith)
log-of (suc n) h = let (k, low, high) = logarithm n in (k, logged (suc n) k low high)

pub bounds-example : BoundsExample
bounds-example = record {
  logarithm = logged 16384 14 (lit≤ tt) (lit< tt);
  visited = refl;
  taken = refl;
  stack = λ h i. omega arith;
}
