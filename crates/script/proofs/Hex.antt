-- What `{:08X}` writes is a pattern in its eight digits.
use Rattle.std.proofs.Common.{◌≡◌, ℕ, zero, suc, ◌-◌, ◌/◌, ◌%◌, ◌^◌, ◌<◌, ◌≤◌, true, false, List, [], ◌∷◌, ◌++◌, length, replicate, sym, refl, ap, ◌∙◌, append_assoc, append-nil, add-one, pow-suc, ⊎_elim, eq-eqb, arith}
use Rattle.std.specs.Fmt.{digits, digits_onto, padded_integral, format_spec, char_count}
use Rattle.std.proofs.lemmas.Bool.{ne_eqb, cases_lt, cond-true, cond-false}
use Rattle.std.proofs.lemmas.List.{length_push, replicate_more}
use Rattle.script.specs.Text.{hex_byte, hex_text, pattern_text}

zeros : (k : ℕ) → hex_text k 0 ≡ replicate k 48
unfolding hex_text
zeros zero = refl
zeros (suc k) = ap (λ l. l ++ (48 ∷ [])) (zeros k) ∙ replicate_more k 48 ∙ ap (λ m. replicate m 48) (add-one k)

-- ds are the digits of n, written before acc, and fill up to k places with zeros
record Spelled (k n : ℕ) (acc all : List ℕ) : Type 0 where
  ds : List ℕ
  are : all ≡ ds ++ acc
  fit : length ds ≤ k
  fill : replicate (k - length ds) 48 ++ ds ≡ hex_text k n

last : (k j n : ℕ) (acc : List ℕ) → n / 16 ≡ 0 → Spelled (suc k) n acc (digits_onto (suc j) 16 true n acc)
unfolding hex_text
last k j n acc high =
    let count : suc k - length (hex_byte (n % 16) ∷ []) ≡ k = omega arith in
    record {
      ds = hex_byte (n % 16) ∷ [];
      are = cond-true _ _ _ (eq-eqb _ 0 high);
      fit = omega arith;
      fill = ap (λ m. replicate m 48 ++ (hex_byte (n % 16) ∷ [])) count ∙ ap (λ l. l ++ (hex_byte (n % 16) ∷ [])) (sym (zeros k) ∙ ap (hex_text k) (sym high));
    }

more : (k j n : ℕ) (acc : List ℕ) → (n / 16 ≡ 0 → ⊥) → Spelled (suc k) (n / 16) (hex_byte (n % 16) ∷ acc) (digits_onto (suc j) 16 true (n / 16) (hex_byte (n % 16) ∷ acc)) → Spelled (suc (suc k)) n acc (digits_onto (suc (suc j)) 16 true n acc)
unfolding hex_text
more k j n acc high s =
    let g = hex_byte (n % 16) in
    let count : suc (suc k) - length (s.ds ++ (g ∷ [])) ≡ suc k - length s.ds = omega (arith, length_push s.ds g) in
    record {
      ds = s.ds ++ (g ∷ []);
      are = cond-false _ _ _ (ne_eqb _ 0 high) ∙ s.are ∙ sym (append_assoc s.ds (g ∷ []) acc);
      fit = omega (arith, length_push s.ds g, s.fit);
      fill = ap (λ m. replicate m 48 ++ (s.ds ++ (g ∷ []))) count ∙ sym (append_assoc (replicate (suc k - length s.ds) 48) s.ds (g ∷ [])) ∙ ap (λ l. l ++ (g ∷ [])) s.fill;
    }

spelled : (k j n : ℕ) (acc : List ℕ) → k ≤ j → n < 16 ^ suc k → Spelled (suc k) n acc (digits_onto (suc j) 16 true n acc)
spelled zero j n acc le small = last zero j n acc (omega arith)
spelled (suc k) zero n acc le small = absurd (omega arith)
spelled (suc k) (suc j) n acc le small =
    ⊎_elim
    (λ one. last (suc k) (suc j) n acc (omega arith))
    (λ far. more k j n acc (λ z. omega arith) (spelled k j (n / 16) (hex_byte (n % 16) ∷ acc) (omega arith) (omega (arith, pow-suc 16 (suc k)))))
    (cases_lt n 16)

pub padded_pattern : (n : ℕ) → n < 2 ^ 32 → padded_integral (format_spec 32 0 4 8 (2 ^ 64 - 1)) false [] (digits 16 true n) ≡ pattern_text n
unfolding padded_integral char_count digits
padded_pattern n small =
    let s = spelled 7 63 n [] (omega arith) (omega arith) in
    let d : digits 16 true n ≡ s.ds = s.are ∙ append-nil s.ds in
    let count : 8 - length s.ds - 0 - 0 ≡ 8 - length s.ds = omega arith in
    rw d (ap (λ m. replicate m 48 ++ (s.ds ++ [])) count ∙ ap (λ l. replicate (8 - length s.ds) 48 ++ l) (append-nil s.ds) ∙ s.fill)
