-- Places in a row: in two parts, and how often each stands there.
use Rattle.std.proofs.Common.{◌≡◌, ℕ, zero, suc, ◌+◌, ◌-◌, ◌<◌, ◌≤◌, ltb, List, [], ◌∷◌, ◌++◌, length, take, drop, sym, refl, ap, ◌∙◌, ⊎_elim, arith}
use Rattle.std.proofs.lemmas.Bool.{cond-true, cond-false, lt-ltb, le-ltb, cases_lt, cases_eq}
use Rattle.trees.specs.Tree.{hit}
use Rattle.shapes.specs.Shape.{occurs}
use Rattle.built.specs.Build.{occurs as occurs_in, row as row_of}
use Rattle.table.specs.Spares.{row}
use Rattle.table.specs.Reading.{inside}
use Rattle.table.proofs.Frames.{hit-here, hit-apart}

pub length-row : (n p : ℕ) → length (row n p) ≡ n
length-row zero p = refl
length-row (suc n) p = ap suc (length-row n (suc p))

-- the first g, and the rest
pub take_row : (g n p : ℕ) → g ≤ n → take g (row n p) ≡ row g p
take_row zero n p h = refl
take_row (suc g) zero p h = absurd (omega arith)
take_row (suc g) (suc n) p h = ap (λ ps. p ∷ ps) (take_row g n (suc p) (omega arith))

pub drop-row : (g n p : ℕ) → g ≤ n → drop g (row n p) ≡ row (n - g) (p + g)
drop-row zero n p h = let a : n ≡ n - 0 = omega arith in let b : p ≡ p + 0 = omega arith in ap (λ j. row j p) a ∙ ap (row (n - 0)) b
drop-row (suc g) zero p h = absurd (omega arith)
drop-row (suc g) (suc n) p h =
    let a : n - g ≡ suc n - suc g = omega arith in
    let b : suc p + g ≡ p + suc g = omega arith in
    drop-row g n (suc p) (omega arith) ∙ ap (λ j. row j (suc p + g)) a ∙ ap (row (suc n - suc g)) b

-- one more at the end
pub row_more : (n p : ℕ) → row (n + 1) p ≡ row n p ++ ((p + n) ∷ [])
row_more n p = let e : n + 1 ≡ suc n = omega arith in ap (λ j. row j p) e ∙ go n p
  where
    go : (n p : ℕ) → row (suc n) p ≡ row n p ++ ((p + n) ∷ [])
    go zero p = let e : p ≡ p + 0 = omega arith in ap (λ (q : ℕ). q ∷ []) e
    go (suc n) p = let e : suc p + n ≡ p + suc n = omega arith in ap (λ ps. p ∷ ps) (go n (suc p) ∙ ap (λ q. row n (suc p) ++ (q ∷ [])) e)

-- ---- how often a place stands
yes-inside : (n q : ℕ) → q < n → inside n q ≡ 1
yes-inside n q h = cond-true (ltb q n) 1 0 (lt-ltb q n h)

pub not-inside : (n q : ℕ) → n ≤ q → inside n q ≡ 0
not-inside n q h = cond-false (ltb q n) 1 0 (le-ltb q n h)

-- in a larger table
pub inside-le : (a b q : ℕ) → a ≤ b → inside a q ≤ inside b q
inside-le a b q h = ⊎_elim (λ l. omega (arith, yes-inside a q l, yes-inside b q (omega arith))) (λ l. omega (arith, not-inside a q l)) (cases_lt q a)

-- one place more
pub inside-more : (n q : ℕ) → inside (suc n) q ≡ inside n q + hit n q
inside-more n q =
    ⊎_elim
    (λ l. omega (arith, yes-inside (suc n) q (omega arith), yes-inside n q l, hit-apart n q (λ e. omega arith)))
    (λ l.
    ⊎_elim
    (λ e. omega (arith, yes-inside (suc n) q (omega arith), not-inside n q l, ap (hit n) (sym e), hit-here n))
    (λ e. omega (arith, not-inside (suc n) q (omega arith), not-inside n q l, hit-apart n q e))
    (cases_eq n q))
    (cases_lt q n)

-- a row takes up where the places before it end
pub occurs-inside : (q n p : ℕ) → inside p q + occurs q (row n p) ≡ inside (p + n) q
occurs-inside q zero p = let e : p ≡ p + 0 = omega arith in omega (arith, ap (λ j. inside j q) e)
occurs-inside q (suc n) p =
    let e : suc p + n ≡ p + suc n = omega arith in
    omega (arith, occurs-inside q n (suc p), inside-more p q, ap (λ j. inside j q) e)

-- ---- the same, as the construction has it
same_row : (n p : ℕ) → row_of n p ≡ row n p
same_row zero p = refl
same_row (suc n) p = ap (λ ps. p ∷ ps) (same_row n (suc p))

same-occurs : (q : ℕ) (ps : List ℕ) → occurs_in q ps ≡ occurs q ps
same-occurs q [] = refl
same-occurs q (p ∷ ps) = ap (λ n. hit p q + n) (same-occurs q ps)

pub same_count : (q n p : ℕ) → occurs_in q (row_of n p) ≡ occurs q (row n p)
same_count q n p = same-occurs q (row_of n p) ∙ ap (occurs q) (same_row n p)

-- ---- children in a row
pub row-kids : (n p : ℕ) → n ≤ 4 → take n (p ∷ (p + 1) ∷ (p + 2) ∷ (p + 3) ∷ []) ≡ row n p
row-kids n p h =
    let one : p + 1 ≡ suc p = omega arith in
    let two : p + 2 ≡ suc (suc p) = omega arith in
    let three : p + 3 ≡ suc (suc (suc p)) = omega arith in
    rw (one, two, three) (take_row n 4 p h)
