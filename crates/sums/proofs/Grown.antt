-- Of two lists in the order of their keys, the one that has the other's keys, at numbers no smaller, has a sum no smaller.
use Rattle.std.proofs.Common.{◌≡◌, T, List, [], ◌∷◌, map, sym, subst, inl, inr}
use Rattle.std.proofs.lemmas.Float.{le_refl, le_trans}
use lib.Ieee.{Float, binary32, add, le, of_bits, fits}
use lib.Ieee.Fits.{add-fits}
use lib.Ieee.Bits.{of_bits-fits}
use Rattle.std.specs.List.{AllByRecursion}
use Rattle.sums.specs.Lists.{One}
use Rattle.sums.specs.Sum.{sum_from, sum_of}
use Rattle.sums.proofs.Adds.{nonneg, add-mono, add-grows, add-nonneg, is_number}

zero-nonneg : T (nonneg (of_bits binary32 0))
unfolding of_bits
zero-nonneg = tt

-- elements of a type X, each with a key and a number
module _ {X K : Type 0} (key : X → K) (number : X → Float) where
  -- the number is not negative
  abbrev pub Counts : X → Type 0
  Counts x = T (nonneg (number x))

  -- y has the key of x, at a number no smaller
  abbrev pub Covers : (x y : X) → Type 0
  Covers x y = (key x ≡ key y) × T (le (number x) (number y))

  -- each of the first list is covered by one of the second
  abbrev pub AllCovered : List X → List X → Type 0
  AllCovered xs ys = AllByRecursion (λ x. One (Covers x) ys) xs

  -- a sum is no smaller than where it began
  from-grows : (s : Float) (ys : List X) → T (fits binary32 s) → T (nonneg s) → AllByRecursion Counts ys → T (le s (sum_from s (map number ys))) × T (nonneg (sum_from s (map number ys)))
  from-grows s [] f p h = (le_refl s (is_number s p), p)
  from-grows s (y ∷ ys) f p h =
      let v = number y in
      let q = add-nonneg binary32 s v p h.0 in
      let r = from-grows (add binary32 s v) ys (add-fits binary32 s v) q h.1 in
      (le_trans s (add binary32 s v) (sum_from (add binary32 s v) (map number ys)) (add-grows binary32 s v f p h.0) r.0, r.1)

  module _ (before : K → K → Type 0) (never : (a b : K) → before a b → before b a → ⊥) where
    -- each key is before the keys of all that follow
    abbrev pub Sorted : List X → Type 0
    Sorted [] = Unit {0}
    Sorted (x ∷ xs) = AllByRecursion (λ y. before (key x) (key y)) xs × Sorted xs

    -- where no key is the head's, the rest covers
    tail-covers : (y : X) (ys xs : List X) → AllByRecursion (λ x. (key x ≡ key y) → ⊥) xs → AllCovered xs (y ∷ ys) → AllCovered xs ys
    tail-covers y ys [] n c = tt
    tail-covers y ys (x ∷ xs) n c = (elim c.0 [ inl h ↦ absurd (n.0 h.0) | inr h ↦ h ], tail-covers y ys xs n.1 c.1)

    -- keys after k are not k
    later : (k : K) (xs : List X) → AllByRecursion (λ x. before k (key x)) xs → AllByRecursion (λ x. (key x ≡ k) → ⊥) xs
    later k [] h = tt
    later k (x ∷ xs) h = (λ e. let b = subst (before k) e h.0 in never k k b b, later k xs h.1)

    -- a key that stands among those after y's is after it
    after : (x y : X) (ys : List X) → AllByRecursion (λ z. before (key y) (key z)) ys → One (Covers x) ys → before (key y) (key x)
    after x y [] h o = absurd o
    after x y (z ∷ zs) h (inl o) = subst (before (key y)) (sym o.0) h.0
    after x y (z ∷ zs) h (inr o) = after x y zs h.1 o

    -- keys after x's are not y's where y's is before x's
    beyond : (x y : X) (xs : List X) → before (key y) (key x) → AllByRecursion (λ z. before (key x) (key z)) xs → AllByRecursion (λ z. (key z ≡ key y) → ⊥) xs
    beyond x y [] b h = tt
    beyond x y (z ∷ zs) b h = (λ e. never (key y) (key x) b (subst (before (key x)) e h.0), beyond x y zs b h.1)

    grow : (s t : Float) (xs ys : List X) → T (fits binary32 t) → T (nonneg s) → T (nonneg t) → T (le s t) → Sorted xs → Sorted ys → AllByRecursion Counts xs → AllByRecursion Counts ys → AllCovered xs ys
        → T (le (sum_from s (map number xs)) (sum_from t (map number ys)))
    grow s t [] ys f p q l a b h k c = let r = from-grows t ys f q k in le_trans s t (sum_from t (map number ys)) l r.0
    grow s t (x ∷ xs) [] f p q l a b h k c = absurd c.0
    grow s t (x ∷ xs) (y ∷ ys) f p q l a b h k c =
        let u = number x in
        let v = number y in
        let q' = add-nonneg binary32 t v q k.0 in
        elim c.0 [
          | inl o ↦
              grow (add binary32 s u) (add binary32 t v) xs ys (add-fits binary32 t v) (add-nonneg binary32 s u p h.0) q'
              (add-mono binary32 s t u v p q h.0 k.0 l o.1) a.1 b.1 h.1 k.1
              (tail-covers y ys xs (subst (λ (j : K). AllByRecursion (λ z. (key z ≡ j) → ⊥) xs) o.0 (later (key x) xs a.0)) c.1)
          | inr o ↦
              grow s (add binary32 t v) (x ∷ xs) ys (add-fits binary32 t v) p q'
              (le_trans s t (add binary32 t v) l (add-grows binary32 t v f q k.0))
              a b.1 h k.1 (o, tail-covers y ys xs (beyond x y xs (after x y ys b.0 o) a.0) c.1)
        ]

    pub sums-grow : (xs ys : List X) → Sorted xs → Sorted ys → AllByRecursion Counts xs → AllByRecursion Counts ys → AllCovered xs ys → T (le (sum_of (map number xs)) (sum_of (map number ys)))
    sums-grow xs ys a b h k c = let z = of_bits binary32 0 in grow z z xs ys (of_bits-fits binary32 0) zero-nonneg zero-nonneg (le_refl z (is_number z zero-nonneg)) a b h k c
