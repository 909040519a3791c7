-- Lists of places: some of which one changes sides, is put back or goes.
use Rattle.std.proofs.Common.{◌≡◌, ℕ, zero, suc, ◌+◌, ◌<◌, ◌≤◌, Bool, true, false, cond, List, [], ◌∷◌, ◌++◌, length, get_or, take, drop, sym, ap, ◌∙◌, append_assoc, arith}
use Rattle.std.specs.List.{AllByRecursion}
use Rattle.std.proofs.lemmas.List.{take-append-drop, drop_more, take_more}
use Rattle.std.proofs.lemmas.List.Elements.{All-from_recursion, recursion_from_All, All-append, All-take, All-drop}

-- ---- a place put back where it was
pub put_back : (ps : List ℕ) (i : ℕ) → i < length ps → take i ps ++ (get_or ps i 0 ∷ drop (i + 1) ps) ≡ ps
put_back ps i lt = ap (λ qs. take i ps ++ qs) (sym (drop_more ps i 0 lt)) ∙ take-append-drop i ps

-- two places in a row, both put back or only the first
pub put_two : (ps : List ℕ) (j : ℕ) (one : Bool) → suc j < length ps
    → take j ps ++ (cond one (get_or ps j 0 ∷ []) (get_or ps j 0 ∷ get_or ps (j + 1) 0 ∷ []) ++ drop (j + 2) ps) ≡ cond one (take (j + 1) ps ++ drop (j + 1 + 1) ps) ps
put_two ps j one lt = let two : j + 2 ≡ j + 1 + 1 = omega arith in ap (λ k. take j ps ++ (cond one (get_or ps j 0 ∷ []) (get_or ps j 0 ∷ get_or ps (j + 1) 0 ∷ []) ++ drop k ps)) two ∙ go ps j one lt
  where
    go : (ps : List ℕ) (j : ℕ) (one : Bool) → suc j < length ps
        → take j ps ++ (cond one (get_or ps j 0 ∷ []) (get_or ps j 0 ∷ get_or ps (j + 1) 0 ∷ []) ++ drop (j + 1 + 1) ps) ≡ cond one (take (j + 1) ps ++ drop (j + 1 + 1) ps) ps
    go ps j true lt = sym (append_assoc (take j ps) (get_or ps j 0 ∷ []) (drop (j + 1 + 1) ps)) ∙ ap (λ qs. qs ++ drop (j + 1 + 1) ps) (sym (take_more ps j 0 (omega arith)))
    go ps j false lt = ap (λ qs. take j ps ++ (get_or ps j 0 ∷ qs)) (sym (drop_more ps (j + 1) 0 (omega arith))) ∙ put_back ps j (omega arith)

-- what holds of each place holds of each that is left
pub all_left : (P : ℕ → Type 0) (i j : ℕ) (ps : List ℕ) → AllByRecursion P ps → AllByRecursion P (take i ps ++ drop j ps)
all_left P i j ps h =
    let a = All-from_recursion P ps h in
    recursion_from_All P (take i ps ++ drop j ps) (All-append P (take i ps) (drop j ps) (All-take P i ps a) (All-drop P j ps a))

pub all-left-if : (P : ℕ → Type 0) (one : Bool) (i j : ℕ) (ps : List ℕ) → AllByRecursion P ps → AllByRecursion P (cond one (take i ps ++ drop j ps) ps)
all-left-if P true i j ps h = all_left P i j ps h
all-left-if P false i j ps h = h

-- the first of the places that are left
pub first_left : (P : ℕ → Type 0) (i : ℕ) (ps : List ℕ) → 2 ≤ length ps → ((j : ℕ) → j < length ps → P (get_or ps j 0)) → P (get_or (take i ps ++ drop (i + 1) ps) 0 0)
first_left P i [] two h = absurd (omega arith)
first_left P i (p ∷ []) two h = absurd (omega arith)
first_left P zero (p ∷ q ∷ ps) two h = h 1 (omega arith)
first_left P (suc i) (p ∷ q ∷ ps) two h = h 0 (omega arith)

pub first-left-if : (P : ℕ → Type 0) (one : Bool) (i : ℕ) (ps : List ℕ) → 2 ≤ length ps → ((j : ℕ) → j < length ps → P (get_or ps j 0)) → P (get_or (cond one (take i ps ++ drop (i + 1) ps) ps) 0 0)
first-left-if P true i ps two h = first_left P i ps two h
first-left-if P false i ps two h = h 0 (omega arith)

pub some_left : (i : ℕ) (ps : List ℕ) → i < length ps → 2 ≤ length ps → 0 < length (take i ps ++ drop (i + 1) ps)
some_left i [] lt two = absurd (omega arith)
some_left zero (p ∷ []) lt two = absurd (omega arith)
some_left zero (p ∷ q ∷ ps) lt two = omega arith
some_left (suc i) (p ∷ ps) lt two = omega arith

pub some-left-if : (one : Bool) (i : ℕ) (ps : List ℕ) → i < length ps → 2 ≤ length ps → 0 < length (cond one (take i ps ++ drop (i + 1) ps) ps)
some-left-if true i ps lt two = some_left i ps lt two
some-left-if false i ps lt two = omega arith
