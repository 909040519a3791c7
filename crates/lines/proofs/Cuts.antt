-- A line is cut at its first blank, and a text at its first newline, in one way.
use Rattle.std.proofs.Common.{◌≡◌, ℕ, suc, ◌<◌, List, [], ◌∷◌, ◌++◌, length, get_or, sym, refl, ap, ◌∙◌, subst, arith, length-append}
use Rattle.std.specs.List.{AllByRecursion}
use Rattle.std.proofs.lemmas.List.{get_or_at}
use Rattle.std.proofs.lemmas.List.Elements.{All-from_recursion, All-get_or}
use Rattle.lines.specs.Digits.{Ten}
use Rattle.lines.specs.Grammar.{Head, Then}

-- the byte b does not stand in x
abbrev pub Lacks : ℕ → List ℕ → Type 0
Lacks b x = (k : ℕ) → k < length x → get_or x k 0 ≡ b → ⊥

pub no-blank : (x : List ℕ) → AllByRecursion Ten x → Lacks 32 x
no-blank x h k lt e = let d = All-get_or Ten x k 0 lt (All-from_recursion Ten x h) in omega (arith, d.0, e)

-- a list is cut in one way at the first place of a byte
pub cut-once : (b : ℕ) (x y p q : List ℕ) → Lacks b x → Lacks b p → x ++ (b ∷ y) ≡ p ++ (b ∷ q) → (x ≡ p) × (y ≡ q)
cut-once b [] y [] q hx hp e = (refl, cc)
cut-once b [] y (d ∷ p) q hx hp e = let z : d ≡ b = cc in absurd (hp 0 (omega arith) z)
cut-once b (a ∷ x) y [] q hx hp e = let z : a ≡ b = cc in absurd (hx 0 (omega arith) z)
cut-once b (a ∷ x) y (d ∷ p) q hx hp e =
    let first : a ≡ d = cc in
    let rest : x ++ (b ∷ y) ≡ p ++ (b ∷ q) = cc in
    let r = cut-once b x y p q (λ k lt z. hx (suc k) (omega arith) z) (λ k lt z. hp (suc k) (omega arith) z) rest in
    (let f = r.0 in cc, r.1)

-- a list without a byte is not cut at it
pub uncut : (b : ℕ) (s x y : List ℕ) → Lacks b s → s ≡ x ++ (b ∷ y) → ⊥
uncut b s x y h e =
    h (length x) (omega (arith, ap length e, length-append x (b ∷ y))) (ap (λ l. get_or l (length x) 0) e ∙ get_or_at x b y 0 (length x) refl)

-- two readings of a field before a blank are one
pub head-once : (s : List ℕ) (a b m n : ℕ) (y z : List ℕ) → Head a m y s → Head b n z s → (m ≡ n) × (y ≡ z)
head-once s a b m n y z h j =
    let same = cut-once 32 h.0 y j.0 z (no-blank _ h.1.digits) (no-blank _ j.1.digits) (sym h.2 ∙ j.2) in
    let first = same.0 in
    let one = h.1.value in
    let two = j.1.value in
    (cc, same.1)

-- what follows the field that was cut off
pub then-rest : (s : List ℕ) (a b m n : ℕ) (y : List ℕ) (Q : List ℕ → Type 0) → Head a m y s → Then b n Q s → Q y
then-rest s a b m n y Q h t = subst Q (sym (head-once s a b m n y t.0 h t.1).1) t.2

-- two fields before a blank, and what follows
pub heads_of : (a b m n : ℕ) (Q : List ℕ → Type 0) (s : List ℕ) (h : Then a m (Then b n Q) s) → Then a m (Head b n h.2.0) s
heads_of a b m n Q s h = (h.0, h.1, h.2.1)

pub heads_rest : (s : List ℕ) (a b k l m n : ℕ) (y : List ℕ) (Q : List ℕ → Type 0) → Then a k (Head b l y) s → Then a m (Then b n Q) s → Q y
heads_rest s a b k l m n y Q t h = then-rest t.0 b b l n y Q t.2 (then-rest s a a k m t.0 (Then b n Q) t.1 h)
