-- Sums of two numbers that are not negative grow with each part, and are no smaller than the first part.
use Rattle.std.proofs.Common.{◌≡◌, ℕ, zero, suc, ◌+◌, ◌-◌, ◌*◌, ◌%◌, ◌^◌, ◌<◌, ◌≤◌, Bool, true, false, cond, not, ◌&&◌, ◌||◌, T, eqb, ltb, leb, ◌⊎◌, ℤ, pos, negsuc, sym, refl, ap, ◌∙◌, subst, inl, inr, le_of_eq, le_refl, lt_of_lt_of_le, le_of_suc-le-suc, le_of_lt, lt_irrefl, mul-le-mul_right, mul_assoc, mul_comm, add-mul, lt_of_mul-lt-mul_right, mul-lt-mul_of_pos_right, mul-pos, lt_of_not-le, zero-mul, mul-one, mul_right_comm, mul_left_comm, arith, eqb→eq, ltb→lt, leb→le, pow_pos, pow-add}
use Rattle.std.specs.Float.{NotNan}
use Rattle.std.proofs.lemmas.Float.{le_trans}
use lib.Pow.{pow-lt}
use lib.Ieee.{Float, is_nan, nan, inf, fin, Format, prec, emax, low, up, down, odd, units, round, add, le, fits}
use lib.Ieee.Fits.{down_pos, and_l, and_r, round_is}
use lib.Ieee.Exact.{HasValue, round_exact}
use lib.Ieee.Order.{le_of_values, round_mono}
use lib.Ieee.Positive.{num, den, den_pos}

-- not negative: an infinity included
abbrev pub nonneg : Float → Bool
nonneg nan = false
nonneg (inf s) = not s
nonneg (fin s m e) = not s

abbrev pub finite : Float → Bool
finite nan = false
finite (inf s) = false
finite (fin s m e) = not s

-- ---- the order
pub le-top : (x : Float) → T (nonneg x) → T (le x (inf false))
unfolding le
le-top nan p = absurd p
le-top (inf true) p = absurd p
le-top (inf false) p = tt
le-top (fin s m e) p = tt

-- and only infinity is no smaller than it
pub top-le : (y : Float) → T (nonneg y) → T (le (inf false) y) → y ≡ inf false
unfolding le
top-le nan p h = absurd p
top-le (inf true) p h = absurd p
top-le (inf false) p h = refl
top-le (fin s m e) p h = absurd h

split : (a b : Bool) → T (a || b) → T a ⊎ T b
split true b t = inl tt
split false b t = inr t

pub le→cross : (x y : Float) → T (finite x) → T (finite y) → T (le x y) → num x * den y ≤ num y * den x
unfolding le
le→cross nan y p q h = absurd p
le→cross (inf s) y p q h = absurd p
le→cross (fin true m e) y p q h = absurd p
le→cross (fin false m e) nan p q h = absurd q
le→cross (fin false m e) (inf t) p q h = absurd q
le→cross (fin false m e) (fin true n d) p q h = absurd q
le→cross (fin false m e) (fin false n d) p q h =
    let a = m * up e * down d in
    let b = n * up d * down e in
    elim (split (ltb a b) (eqb a b && true) h) [ inl u ↦ le_of_lt (ltb→lt a b u) | inr u ↦ le_of_eq (eqb→eq a b (and_l (eqb a b) true u)) ]

own : (x : Float) → T (finite x) → HasValue x false (num x) (den x)
own nan p = absurd p
own (inf s) p = absurd p
own (fin true m e) p = absurd p
own (fin false m e) p = (refl, refl)

pub cross→le : (x y : Float) → T (finite x) → T (finite y) → num x * den y ≤ num y * den x → T (le x y)
cross→le x y p q h = le_of_values x y (num x) (den x) (num y) (den y) (den_pos x) (den_pos y) (own x p) (own y q) h

-- a value that is not negative is finite, or the infinity
which : (x : Float) → T (nonneg x) → T (finite x) ⊎ (x ≡ inf false)
which nan p = absurd p
which (inf true) p = absurd p
which (inf false) p = inr refl
which (fin s m e) p = inl p

pub is_number : (x : Float) → T (nonneg x) → NotNan x
unfolding is_nan
is_number nan p = absurd p
is_number (inf s) p = tt
is_number (fin s m e) p = tt

-- ---- a rounded fraction is not negative
odd-nonneg : (d q k l : ℕ) → T (nonneg (odd d false q k l))
unfolding odd
odd-nonneg d zero k l = tt
odd-nonneg d (suc q) k l = tt

units-nonneg : (f : Format) (q k : ℕ) → T (nonneg (units f false q k))
unfolding units
units-nonneg f q k = go (ltb (q * 2 ^ k) (2 ^ (low f + suc (emax f))))
  where
    go : (b : Bool) → T (nonneg (cond b (odd (suc (prec f)) false q k (low f)) (inf false)))
    go true = odd-nonneg (suc (prec f)) q k (low f)
    go false = tt

round-nonneg : (f : Format) (a c : ℕ) → T (nonneg (round f false a c))
round-nonneg f a c = subst (λ (z : Float). T (nonneg z)) (sym (round_is f false a c)) (units-nonneg f _ _)

-- ---- the sum
add_is : (f : Format) (x y : Float) → T (finite x) → T (finite y) → add f x y ≡ round f false (num x * den y + num y * den x) (den x * den y)
unfolding add
add_is f nan y p q = absurd p
add_is f (inf s) y p q = absurd p
add_is f (fin true m e) y p q = absurd p
add_is f (fin false m e) nan p q = absurd q
add_is f (fin false m e) (inf t) p q = absurd q
add_is f (fin false m e) (fin true n d) p q = absurd q
add_is f (fin false m e) (fin false n d) p q = refl

top-add : (f : Format) (y : Float) → T (nonneg y) → add f (inf false) y ≡ inf false
unfolding add
top-add f nan p = absurd p
top-add f (inf true) p = absurd p
top-add f (inf false) p = refl
top-add f (fin s m e) p = refl

add-top : (f : Format) (x : Float) → T (nonneg x) → add f x (inf false) ≡ inf false
unfolding add
add-top f nan p = absurd p
add-top f (inf true) p = absurd p
add-top f (inf false) p = refl
add-top f (fin s m e) p = refl

pub add-nonneg : (f : Format) (x y : Float) → T (nonneg x) → T (nonneg y) → T (nonneg (add f x y))
add-nonneg f x y p q =
    elim (which x p) [
      | inr e ↦ subst (λ (z : Float). T (nonneg (add f z y))) (sym e) (subst (λ (z : Float). T (nonneg z)) (sym (top-add f y q)) tt)
      | inl fx ↦ elim (which y q) [
        | inr e ↦ subst (λ (z : Float). T (nonneg (add f x z))) (sym e) (subst (λ (z : Float). T (nonneg z)) (sym (add-top f x p)) tt)
        | inl fy ↦ subst (λ (z : Float). T (nonneg z)) (sym (add_is f x y fx fy)) (round-nonneg f _ _)
      ]
    ]

-- X / p + Y / q ≤ X' / p' + Y' / q' where each part is
sums-cross : (X p Y q X' p' Y' q' : ℕ) → X * p' ≤ X' * p → Y * q' ≤ Y' * q → (X * q + Y * p) * (p' * q') ≤ (X' * q' + Y' * p') * (p * q)
sums-cross X p Y q X' p' Y' q' h k =
    let a : X * q * (p' * q') ≤ X' * q' * (p * q) = simp (mul_assoc, mul_comm, mul_left_comm) (simp (mul_assoc, mul_comm, mul_left_comm) at (mul-le-mul_right (q * q') h)) in
    let b : Y * p * (p' * q') ≤ Y' * p' * (p * q) = simp (mul_assoc, mul_comm, mul_left_comm) (simp (mul_assoc, mul_comm, mul_left_comm) at (mul-le-mul_right (p * p') k)) in
    omega (arith, add-mul (X * q) (Y * p) (p' * q'), add-mul (X' * q') (Y' * p') (p * q))

-- what is at most a finite value is finite
under : (x y : Float) → T (nonneg x) → T (finite y) → T (le x y) → T (finite x)
unfolding le
under nan y p f h = absurd p
under (inf true) y p f h = absurd p
under (inf false) nan p f h = absurd f
under (inf false) (inf t) p f h = absurd f
under (inf false) (fin t n d) p f h = absurd h
under (fin s m e) y p f h = p

pub add-mono : (f : Format) (x x' y y' : Float) → T (nonneg x) → T (nonneg x') → T (nonneg y) → T (nonneg y') → T (le x x') → T (le y y') → T (le (add f x y) (add f x' y'))
add-mono f x x' y y' p p' q q' h k =
    elim (which x' p') [
      | inr e ↦ subst (λ (z : Float). T (le (add f x y) (add f z y'))) (sym e) (subst (λ (z : Float). T (le (add f x y) z)) (sym (top-add f y' q')) (le-top (add f x y) (add-nonneg f x y p q)))
      | inl fx' ↦ elim (which y' q') [
        | inr e ↦ subst (λ (z : Float). T (le (add f x y) (add f x' z))) (sym e) (subst (λ (z : Float). T (le (add f x y) z)) (sym (add-top f x' p')) (le-top (add f x y) (add-nonneg f x y p q)))
        | inl fy' ↦
            let fx = under x x' p fx' h in
            let fy = under y y' q fy' k in
            subst (λ (z : Float). T (le z (add f x' y'))) (sym (add_is f x y fx fy))
            (subst (λ (z : Float). T (le (round f false (num x * den y + num y * den x) (den x * den y)) z)) (sym (add_is f x' y' fx' fy'))
            (round_mono f (num x * den y + num y * den x) (den x * den y) (num x' * den y' + num y' * den x') (den x' * den y') (mul-pos (den_pos x) (den_pos y)) (mul-pos (den_pos x') (den_pos y'))
            (sums-cross (num x) (den x) (num y) (den y) (num x') (den x') (num y') (den y') (le→cross x x' fx fx' h) (le→cross y y' fy fy' k))))
      ]
    ]

-- ---- a value that fits rounds to itself
exact-place : (l m : ℕ) (e : ℤ) → down e ≤ 2 ^ l → (j : ℕ) × (m * up e * 2 ^ l ≡ m * 2 ^ j * down e)
exact-place l m (pos a) h = (a + l, mul_assoc m (2 ^ a) (2 ^ l) ∙ ap (λ (x : ℕ). m * x) (sym (pow-add 2 a l)) ∙ sym (mul-one (m * 2 ^ (a + l))))
exact-place l m (negsuc a) h =
    let le : suc a ≤ l = back (suc a) l h in
    (l - suc a, ap (λ (x : ℕ). x * 2 ^ l) (mul-one m) ∙ ap (λ (x : ℕ). m * 2 ^ x) (rejoin l (suc a) le) ∙ ap (λ (x : ℕ). m * x) (pow-add 2 (l - suc a) (suc a)) ∙ sym (mul_assoc m (2 ^ (l - suc a)) (2 ^ suc a)))
  where
    back : (a l : ℕ) → 2 ^ a ≤ 2 ^ l → a ≤ l
    back a l h = le_of_suc-le-suc (lt_of_not-le (λ (g : suc l ≤ a). lt_irrefl (2 ^ l) (lt_of_lt_of_le (pow-lt g) h)))

    rejoin : (l a : ℕ) → a ≤ l → l ≡ l - a + a
    rejoin l a h = omega arith

fits-parts : (f : Format) (m : ℕ) (e : ℤ) → T (fits f (fin false (suc m) e)) → (suc m < 2 ^ prec f) × (down e ≤ 2 ^ low f) × (suc m * up e < 2 ^ suc (emax f) * down e)
unfolding fits
fits-parts f m e t =
    let a = eqb (suc m % 2) 1 in
    let b = ltb (suc m) (2 ^ prec f) in
    let c = leb (down e) (2 ^ low f) in
    let d = ltb (suc m * up e) (2 ^ suc (emax f) * down e) in
    (ltb→lt (suc m) (2 ^ prec f) (and_r a b (and_l (a && b) c (and_l (a && b && c) d t))), leb→le (down e) (2 ^ low f) (and_r (a && b) c (and_l (a && b && c) d t)), ltb→lt (suc m * up e) (2 ^ suc (emax f) * down e) (and_r (a && b && c) d t))

round-own : (f : Format) (m : ℕ) (e : ℤ) → T (fits f (fin false (suc m) e)) → HasValue (round f false (suc m * up e) (down e)) false (suc m * up e) (down e)
round-own f m e t =
    let k = fits-parts f m e t in
    let j = exact-place (low f) (suc m) e k.1 in
    let l = low f in
    let x : suc m * up e * 2 ^ l < 2 ^ suc (emax f) * down e * 2 ^ l = mul-lt-mul_of_pos_right k.2 (pow_pos l) in
    let y : suc m * 2 ^ j.0 * down e < 2 ^ (l + suc (emax f)) * down e = subst (λ (z : ℕ). z < 2 ^ (l + suc (emax f)) * down e) j.1 (lt_of_lt_of_le x (le_of_eq (mul_right_comm (2 ^ suc (emax f)) (down e) (2 ^ l) ∙ ap (λ (z : ℕ). z * down e) (mul_comm (2 ^ suc (emax f)) (2 ^ l) ∙ sym (pow-add 2 l (suc (emax f))))))) in
    round_exact f false (suc m * up e) (down e) (suc m) j.0 (down_pos e) k.0 (lt_of_mul-lt-mul_right (down e) y) j.1

zero-le' : (e : ℤ) (y : Float) → T (nonneg y) → T (le (fin false 0 e) y)
zero-le' e y q = elim (which y q) [
  | inr i ↦ subst (λ (z : Float). T (le (fin false 0 e) z)) (sym i) (le-top (fin false 0 e) tt)
  | inl fy ↦ cross→le (fin false 0 e) y tt fy (omega (arith, zero-mul (up e), ap (λ (z : ℕ). z * den y) (zero-mul (up e)), zero-mul (den y)))
]

-- x ≤ x + w
more : (X p W q : ℕ) → X * (p * q) ≤ (X * q + W * p) * p
more X p W q =
    let a : X * (p * q) ≡ X * q * p = simp (mul_assoc, mul_comm) in
    omega (arith, add-mul (X * q) (W * p) p, a)

pub add-grows : (f : Format) (x w : Float) → T (fits f x) → T (nonneg x) → T (nonneg w) → T (le x (add f x w))
add-grows f x w t p q = elim (which w q) [
  | inr e ↦ subst (λ (z : Float). T (le x (add f x z))) (sym e) (subst (λ (z : Float). T (le x z)) (sym (add-top f x p)) (le-top x p))
  | inl fw ↦ go x t p fw
]
  where
    go : (x : Float) → T (fits f x) → T (nonneg x) → T (finite w) → T (le x (add f x w))
    go nan t p fw = absurd p
    go (inf true) t p fw = absurd p
    go (inf false) t p fw = subst (λ (z : Float). T (le (inf false) z)) (sym (top-add f w q)) (le-top (inf false) tt)
    go (fin true m e) t p fw = absurd p
    go (fin false zero e) t p fw = zero-le' e (add f (fin false zero e) w) (add-nonneg f (fin false zero e) w tt q)
    go (fin false (suc m) e) t p fw =
        let X = suc m * up e in
        let r = round f false X (down e) in
        let s = round f false (X * den w + num w * down e) (down e * den w) in
        let a : T (le (fin false (suc m) e) r) = le_of_values (fin false (suc m) e) r X (down e) X (down e) (down_pos e) (down_pos e) (refl, refl) (round-own f m e t) (le_refl (X * down e)) in
        let b : T (le r s) = round_mono f X (down e) (X * den w + num w * down e) (down e * den w) (down_pos e) (mul-pos (down_pos e) (den_pos w)) (more X (down e) (num w) (den w)) in
        subst (λ (z : Float). T (le (fin false (suc m) e) z)) (sym (add_is f (fin false (suc m) e) w tt fw))
        (le_trans (fin false (suc m) e) r s a b)
