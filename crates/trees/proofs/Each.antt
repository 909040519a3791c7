-- What holds of each element of a list, as `AllByRecursion` says it, by the library's lemmas on `All`, which says it by index.
use Rattle.std.proofs.Common.{ℕ, ◌<◌, List, ◌++◌, length, get_or}
use Rattle.std.specs.List.{Contains, AllByRecursion}
use Rattle.std.proofs.lemmas.List.Elements.{All-from_recursion, recursion_from_All, All-append, All-weaker, All-from_get_or, All-contains}

module _ {X : Type 0} (P : X → Type 0) where
  pub each-append : (xs ys : List X) → AllByRecursion P xs → AllByRecursion P ys → AllByRecursion P (xs ++ ys)
  each-append xs ys a b = recursion_from_All P (xs ++ ys) (All-append P xs ys (All-from_recursion P xs a) (All-from_recursion P ys b))

  pub each-weaker : (Q : X → Type 0) → ((x : X) → P x → Q x) → (xs : List X) → AllByRecursion P xs → AllByRecursion Q xs
  each-weaker Q f xs a = recursion_from_All Q xs (All-weaker P Q f xs (All-from_recursion P xs a))

  pub each-at : (xs : List X) (i : ℕ) (d : X) → i < length xs → AllByRecursion P xs → P (get_or xs i d)
  each-at xs i d below a = All-from_recursion P xs a i d below

  pub each-from : (xs : List X) (d : X) → ((i : ℕ) → i < length xs → P (get_or xs i d)) → AllByRecursion P xs
  each-from xs d f = recursion_from_All P xs (All-from_get_or P xs d f)

  pub each-has : (xs : List X) (x : X) → AllByRecursion P xs → Contains xs x → P x
  each-has xs x a i = All-contains P xs x (All-from_recursion P xs a) i
