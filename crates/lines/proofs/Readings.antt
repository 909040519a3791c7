-- A line says at most one command.
use Rattle.std.proofs.Common.{◌≡◌, ℕ, List, sym, ◌∙◌, subst}
use Rattle.lines.specs.declared.command.Command.{Command}
use Rattle.lines.specs.declared.command.Command.TheVariants.{Insert, Change, Delete, Sum, First, Range}
use Rattle.lines.specs.Limits.{top_epoch, top_number, most_places}
use Rattle.lines.specs.Digits.{Decimal, Pattern}
use Rattle.lines.specs.Grammar.{Then, Fields, letter, OneReading}
use Rattle.lines.proofs.Cuts.{head-once}
use Rattle.lines.proofs.Sayings.{said, insert-by, change-by, delete-by, sum_by, first_by, range-by}

-- two numbers are equal where each writes the same bytes
abbrev Fixed : (ℕ → List ℕ → Type 0) → Type 0
Fixed Q = (m n : ℕ) (bs : List ℕ) → Q m bs → Q n bs → m ≡ n

decimal-once : (top : ℕ) → Fixed (Decimal top)
decimal-once top m n bs h j = h.value ∙ sym j.value

pattern-once : Fixed Pattern
pattern-once m n bs h j = h.value ∙ sym j.value

-- one field before a blank, and what follows
two-once : (top : ℕ) (Q : ℕ → List ℕ → Type 0) → Fixed Q → (a b m n : ℕ) (bs : List ℕ) → Then top a (Q m) bs → Then top b (Q n) bs → (a ≡ b) × (m ≡ n)
two-once top Q once a b m n bs h j =
    let same = head-once bs top top a b h.0 j.0 h.1 j.1 in
    (same.0, once m n j.0 (subst (Q m) same.1 h.2) j.2)

-- two fields before a blank, and what follows
three-once : (top next : ℕ) (Q : ℕ → List ℕ → Type 0) → Fixed Q → (a b c d m n : ℕ) (bs : List ℕ) → Then top a (Then next c (Q m)) bs → Then top b (Then next d (Q n)) bs → (a ≡ b) × (c ≡ d) × (m ≡ n)
three-once top next Q once a b c d m n bs h j =
    let same = head-once bs top top a b h.0 j.0 h.1 j.1 in
    let rest = two-once next Q once c d m n j.0 (subst (Then next c (Q m)) same.1 h.2) j.2 in
    (same.0, rest.0, rest.1)

-- a command of the same letter whose fields stand in the same place
module _ (bs : List ℕ) where
  same : (c d : Command) → letter d ≡ letter c → Fields c bs → Fields d bs → c ≡ d
  same (Insert e n p) d l f g =
      let i = insert-by d l in
      let is = i.3 in
      let t = three-once _ _ Pattern pattern-once _ _ _ _ _ _ bs f (subst (λ k. Fields k bs) is g) in
      let a = t.0 in
      let b = t.1 in
      let q = t.2 in
      cc
  same (Change e n p) d l f g =
      let i = change-by d l in
      let is = i.3 in
      let t = three-once _ _ Pattern pattern-once _ _ _ _ _ _ bs f (subst (λ k. Fields k bs) is g) in
      let a = t.0 in
      let b = t.1 in
      let q = t.2 in
      cc
  same (Delete e n) d l f g =
      let i = delete-by d l in
      let is = i.2 in
      let t = two-once _ (Decimal top_number) (decimal-once _) _ _ _ _ bs f (subst (λ k. Fields k bs) is g) in
      let a = t.0 in
      let b = t.1 in
      cc
  same (Sum x y) d l f g =
      let i = sum_by d l in
      let is = i.2 in
      let t = two-once _ (Decimal top_epoch) (decimal-once _) _ _ _ _ bs f (subst (λ k. Fields k bs) is g) in
      let a = t.0 in
      let b = t.1 in
      cc
  same (First x y z) d l f g =
      let i = first_by d l in
      let is = i.3 in
      let t = three-once _ _ (Decimal most_places) (decimal-once _) _ _ _ _ _ _ bs f (subst (λ k. Fields k bs) is g) in
      let a = t.0 in
      let b = t.1 in
      let q = t.2 in
      cc
  same (Range x y z) d l f g =
      let i = range-by d l in
      let is = i.3 in
      let t = three-once _ _ Pattern pattern-once _ _ _ _ _ _ bs f (subst (λ k. Fields k bs) is g) in
      let a = t.0 in
      let b = t.1 in
      let q = t.2 in
      cc

pub one-reading : OneReading
one-reading line c d h j =
    let s = said line h.0 (letter c) h.1 d j in
    same h.0 c d s.0 h.2 s.1
