-- A pattern that is printed is read back.
use Rattle.std.proofs.Common.{◌≡◌, ℕ, zero, suc, ◌+◌, ◌*◌, ◌/◌, ◌%◌, ◌^◌, ◌<◌, List, [], ◌∷◌, ◌++◌, length, refl, pow-suc, arith, rules}
use Rattle.std.specs.List.{AllByRecursion}
use Rattle.std.proofs.lemmas.List.Elements.{All-from_recursion, recursion_from_All, All-push}
use Rattle.std.proofs.lemmas.List.{length_push}
use Rattle.lines.specs.Digits.{Hex, digit, writes}
use Rattle.script.specs.Text.{hex_byte, hex_text, ReadsBack}

hex-digit : (d : ℕ) → d < 16 → Hex (hex_byte d) × (digit (hex_byte d) ≡ d)
hex-digit d h = search rules

writes-push : (m : ℕ) (bs : List ℕ) (b : ℕ) → writes 16 m (bs ++ (b ∷ [])) ≡ writes 16 m bs * 16 + digit b
writes-push m [] b = refl
writes-push m (a ∷ bs) b = writes-push (m * 16 + digit a) bs b

hex-length : (k n : ℕ) → length (hex_text k n) ≡ k
unfolding hex_text
hex-length zero n = refl
hex-length (suc k) n = omega (arith, length_push (hex_text k (n / 16)) (hex_byte (n % 16)), hex-length k (n / 16))

hex-digits : (k n : ℕ) → AllByRecursion Hex (hex_text k n)
unfolding hex_text
hex-digits zero n = tt
hex-digits (suc k) n =
    recursion_from_All Hex (hex_text k (n / 16) ++ (hex_byte (n % 16) ∷ []))
    (All-push Hex (hex_text k (n / 16)) (hex_byte (n % 16)) (All-from_recursion Hex (hex_text k (n / 16)) (hex-digits k (n / 16))) (hex-digit (n % 16) (omega arith)).0)

hex-value : (k n : ℕ) → n < 16 ^ k → n ≡ writes 16 0 (hex_text k n)
unfolding hex_text
hex-value zero n h = omega arith
hex-value (suc k) n h =
    let more : 16 ^ suc k ≡ 16 ^ k * 16 = pow-suc 16 k in
    let front = hex-value k (n / 16) (omega (arith, more)) in
    let last = (hex-digit (n % 16) (omega arith)).1 in
    omega (arith, writes-push 0 (hex_text k (n / 16)) (hex_byte (n % 16)), front, last)

pub reads-back : ReadsBack
reads-back n h = record { digits = hex-digits 8 n; eight = hex-length 8 n; value = hex-value 8 n h }
