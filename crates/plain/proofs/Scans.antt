-- A loop that passes over a list: what it takes, finds and lists.
use Rattle.std.proofs.Common.{◌≡◌, ℕ, ◌+◌, ◌-◌, ◌<◌, Bool, true, false, cond, List, [], ◌∷◌, ◌++◌, length, get_or, take, drop, set, Some, filter, sym, ap, ◌∙◌, append_assoc, append-nil, le_refl, arith, length-append, take-append-drop}
use Rattle.std.specs.Ordering.{is_eq}
use Rattle.std.proofs.lemmas.List.Elements.{filter_more, filter-append}
use Rattle.std.proofs.lemmas.List.{at_drop_more, drop_more, set-append_right, take-append-le, take_all}
use Rattle.std.proofs.lemmas.Bool.{cond-true, cond-false}
use Rattle.kinds.specs.Meaning.{Meaning}
use Rattle.plain.specs.declared.point.Key.{Key}
use Rattle.plain.specs.declared.point.Point.{Point}
use Rattle.plain.specs.Points.{key_order}
use Rattle.plain.specs.Set.{weight_at}

module _ {X : Type 0} (test : X → Bool) (xs : List X) (i : ℕ) (x : X) (lt : i < length xs) (is : x ≡ get_or xs i x) where
  here : filter test (drop i xs) ≡ cond (test x) (x ∷ filter test (drop (i + 1) xs)) (filter test (drop (i + 1) xs))
  here = at_drop_more (filter test) xs i x lt ∙ ap (λ y. cond (test y) (y ∷ filter test (drop (i + 1) xs)) (filter test (drop (i + 1) xs))) (sym is)

  -- the element passes
  pub taken : test x ≡ true → filter test (drop i xs) ≡ x ∷ filter test (drop (i + 1) xs)
  taken e = here ∙ cond-true (test x) _ _ e

  -- it does not
  pub passed : test x ≡ false → filter test (drop i xs) ≡ filter test (drop (i + 1) xs)
  passed e = here ∙ cond-false (test x) _ _ e

-- ---- a look-up
module _ {C W R : Type 0} (m : Meaning C W R) (k : Key C) (ps : List (Point C W)) (i : ℕ) (p : Point C W) (lt : i < length ps) (is : p ≡ get_or ps i p) where
  sought : weight_at m k (drop i ps) ≡ cond (is_eq (key_order m k p.key)) (Some p.weight) (weight_at m k (drop (i + 1) ps))
  sought = at_drop_more (weight_at m k) ps i p lt ∙ ap (λ q. cond (is_eq (key_order m k q.key)) (Some q.weight) (weight_at m k (drop (i + 1) ps))) (sym is)

  pub found : is_eq (key_order m k p.key) ≡ true → weight_at m k (drop i ps) ≡ Some p.weight
  found e = sought ∙ cond-true (is_eq (key_order m k p.key)) _ _ e

  pub not_found : is_eq (key_order m k p.key) ≡ false → weight_at m k (drop i ps) ≡ weight_at m k (drop (i + 1) ps)
  not_found e = sought ∙ cond-false (is_eq (key_order m k p.key)) _ _ e

-- ---- a list that is filled from the front
module _ {X : Type 0} (test : X → Bool) (xs was now : List X) (i n : ℕ) (x : X) (lt : i < length xs) (is : x ≡ get_or xs i x)
    (filled : now ≡ filter test (take i xs) ++ drop n was) (count : n ≡ length (filter test (take i xs))) where
  more : (b : Bool) → test x ≡ b → filter test (take (i + 1) xs) ≡ filter test (take i xs) ++ cond b (x ∷ []) []
  more b e = filter_more test xs i x lt ∙ ap (λ y. filter test (take i xs) ++ cond (test y) (y ∷ []) []) (sym is) ∙ ap (λ c. filter test (take i xs) ++ cond c (x ∷ []) []) e

  -- one that passes is written
  pub list-more : test x ≡ true → n < length was → set now n x ≡ filter test (take (i + 1) xs) ++ drop (n + 1) was
  list-more e room =
      let place : filter test (take i xs) ++ set (drop n was) (n - n) x ≡ filter test (take i xs) ++ (x ∷ drop (n + 1) was) =
      ap (λ k. filter test (take i xs) ++ set (drop n was) k x) (omega arith) ∙ ap (λ l. filter test (take i xs) ++ set l 0 x) (drop_more was n x room) in
      ap (λ l. set l n x) filled ∙ set-append_right (filter test (take i xs)) (drop n was) n n x (sym count) (le_refl n) ∙ place
      ∙ sym (append_assoc (filter test (take i xs)) (x ∷ []) (drop (n + 1) was)) ∙ ap (λ l. l ++ drop (n + 1) was) (sym (more true e))

  pub count-more : test x ≡ true → n + 1 ≡ length (filter test (take (i + 1) xs))
  count-more e = omega (arith, ap length (more true e), length-append (filter test (take i xs)) (x ∷ []))

  -- one that does not is not
  pub list_same : test x ≡ false → filter test (take (i + 1) xs) ≡ filter test (take i xs)
  list_same e = more false e ∙ append-nil (filter test (take i xs))

-- the list is full
pub list_full : {X : Type 0} (test : X → Bool) (xs : List X) (i n : ℕ) → n ≡ length (filter test (take i xs)) → take n (filter test xs) ≡ filter test (take i xs)
list_full test xs i n count =
    ap (λ l. take n (filter test l)) (sym (take-append-drop i xs)) ∙ ap (take n) (filter-append test (take i xs) (drop i xs))
    ∙ ap (λ k. take k (filter test (take i xs) ++ filter test (drop i xs))) count ∙ take-append-le (length (filter test (take i xs))) (filter test (take i xs)) (filter test (drop i xs)) (le_refl _) ∙ take_all (length (filter test (take i xs))) (filter test (take i xs)) (le_refl _)
