-- Digits read one by one.
use Rattle.std.proofs.Common.{◌≡◌, ℕ, ◌+◌, ◌*◌, ◌^◌, ◌<◌, ◌≤◌, List, [], ◌∷◌, length, get_or, drop, ap, ◌∙◌, add-one, pow-suc, arith}
use native.Mathlib.Nat.{pow-le-pow_right}
use Rattle.std.proofs.lemmas.List.{at_drop_more}
use Rattle.lines.specs.Digits.{digit, writes}

-- more digits never write less
pub writes-ge : (n : ℕ) (bs : List ℕ) → n ≤ writes 10 n bs
writes-ge n [] = omega arith
writes-ge n (b ∷ bs) = omega (arith, writes-ge (n * 10 + digit b) bs)

-- nor do fewer of them
pub writes-more : (n : ℕ) (s : List ℕ) (i : ℕ) → i < length s → n * 10 + digit (get_or s i 0) ≤ writes 10 n (drop i s)
writes-more n s i lt = omega (arith, at_drop_more (writes 10 n) s i 0 lt, writes-ge (n * 10 + digit (get_or s i 0)) (drop (i + 1) s))

-- one hexadecimal digit more
pub hex-more : (n i d : ℕ) → n < 16 ^ i → d < 16 → n * 16 + d < 16 ^ (i + 1)
hex-more n i d h lt =
    let p : 16 ^ (i + 1) ≡ 16 ^ i * 16 = ap (λ k. 16 ^ k) (add-one i) ∙ pow-suc 16 i in
    omega (arith, p)

-- before the last of eight digits there is room for one more
pub hex-room : (n i : ℕ) → n < 16 ^ i → i < 8 → n < 2 ^ 28
hex-room n i h lt =
    let q : i ≤ 7 = omega arith in
    let z : 0 < 16 = omega arith in
    let p : 16 ^ i ≤ 16 ^ 7 = pow-le-pow_right z q in
    omega (arith, p)
