-- Orders that answer `Less`, `Equal` or `Greater`.
use Rattle.std.specs.Prelude.{◌≡◌, ℕ, cond, T, ◌⊎◌, nat_lt}
use Rattle.std.specs.declared.cmp.Ordering.TheVariants.{Less, Equal, Greater}
use Rattle.std.specs.declared.cmp.Ordering.{Ordering}
use Rattle.std.specs.Ordering.{is_le, ordering_reverse}

-- two numbers, the smaller one first
abbrev pub by_number : ℕ → ℕ → Ordering
by_number a b = cond (nat_lt a b) Less (cond (nat_lt b a) Greater Equal)

-- among the values of which P holds, 'at most' holds one way or the other and carries over from first to third, and an exchange turns the answer round
pub record Preorder {A : Type 0} (P : A → Type 0) (order : A → A → Ordering) : Type 0 where
  pub total : (a b : A) → P a → P b → T (is_le (order a b)) ⊎ T (is_le (order b a))
  pub carries : (a b c : A) → P a → P b → P c → T (is_le (order a b)) → T (is_le (order b c)) → T (is_le (order a c))
  pub turned : (a b : A) → P a → P b → order b a ≡ ordering_reverse (order a b)

-- every value
abbrev pub IsAny : {A : Type 0} → A → Type 0
IsAny a = Unit {0}
