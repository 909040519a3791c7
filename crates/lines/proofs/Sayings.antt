-- What a line that begins with a letter and a blank says.
use Rattle.std.proofs.Common.{◌≡◌, ℕ, ◌-◌, ◌≤◌, List, [], ◌∷◌, length, get_or, take, drop, sym, refl, ◌∙◌, subst, arith}
use Rattle.std.proofs.lemmas.List.{take_all}
use Rattle.lines.specs.declared.command.Command.{Command}
use Rattle.lines.specs.declared.command.Command.TheVariants.{Insert, Change, Delete, Sum, First, Range}
use Rattle.lines.specs.Grammar.{Key, Point, Window, Listing, Floor, Fields, letter, Says}

-- ---- a command by its letter
pub insert-by : (k : Command) → letter k ≡ 105 → (e n p : ℕ) × (k ≡ Insert e n p)
insert-by (Insert e n p) l = (e, n, p, refl)
insert-by (Change e n p) l = absurd (omega arith)
insert-by (Delete e n) l = absurd (omega arith)
insert-by (Sum x y) l = absurd (omega arith)
insert-by (First x y z) l = absurd (omega arith)
insert-by (Range x y z) l = absurd (omega arith)

pub change-by : (k : Command) → letter k ≡ 99 → (e n p : ℕ) × (k ≡ Change e n p)
change-by (Insert e n p) l = absurd (omega arith)
change-by (Change e n p) l = (e, n, p, refl)
change-by (Delete e n) l = absurd (omega arith)
change-by (Sum x y) l = absurd (omega arith)
change-by (First x y z) l = absurd (omega arith)
change-by (Range x y z) l = absurd (omega arith)

pub delete-by : (k : Command) → letter k ≡ 100 → (e n : ℕ) × (k ≡ Delete e n)
delete-by (Insert e n p) l = absurd (omega arith)
delete-by (Change e n p) l = absurd (omega arith)
delete-by (Delete e n) l = (e, n, refl)
delete-by (Sum x y) l = absurd (omega arith)
delete-by (First x y z) l = absurd (omega arith)
delete-by (Range x y z) l = absurd (omega arith)

pub sum_by : (k : Command) → letter k ≡ 115 → (x y : ℕ) × (k ≡ Sum x y)
sum_by (Insert e n p) l = absurd (omega arith)
sum_by (Change e n p) l = absurd (omega arith)
sum_by (Delete e n) l = absurd (omega arith)
sum_by (Sum x y) l = (x, y, refl)
sum_by (First x y z) l = absurd (omega arith)
sum_by (Range x y z) l = absurd (omega arith)

pub first_by : (k : Command) → letter k ≡ 102 → (x y z : ℕ) × (k ≡ First x y z)
first_by (Insert e n p) l = absurd (omega arith)
first_by (Change e n p) l = absurd (omega arith)
first_by (Delete e n) l = absurd (omega arith)
first_by (Sum x y) l = absurd (omega arith)
first_by (First x y z) l = (x, y, z, refl)
first_by (Range x y z) l = absurd (omega arith)

pub range-by : (k : Command) → letter k ≡ 114 → (x y z : ℕ) × (k ≡ Range x y z)
range-by (Insert e n p) l = absurd (omega arith)
range-by (Change e n p) l = absurd (omega arith)
range-by (Delete e n) l = absurd (omega arith)
range-by (Sum x y) l = absurd (omega arith)
range-by (First x y z) l = absurd (omega arith)
range-by (Range x y z) l = (x, y, z, refl)

-- ---- a line that begins so
-- what follows the letter and the blank, as the code has it
abbrev after : List ℕ → List ℕ
after s = take (length s - 2) (drop 2 s)

starts : (s : List ℕ) (a b : ℕ) → 2 ≤ length s → get_or s 0 0 ≡ a → get_or s 1 0 ≡ b → s ≡ a ∷ b ∷ after s
starts [] a b h x y = absurd (omega arith)
starts (p ∷ []) a b h x y = absurd (omega arith)
starts (p ∷ q ∷ s) a b h x y = let r = sym (take_all (length (p ∷ q ∷ s) - 2) s (omega arith)) in cc

-- two readings of a line have one letter, and the fields stand in one place
pub said : (line bs : List ℕ) (a : ℕ) → line ≡ a ∷ 32 ∷ bs → (k : Command) → Says line k → (letter k ≡ a) × Fields k bs
said line bs a e k h =
    let z : letter k ∷ 32 ∷ h.0 ≡ a ∷ 32 ∷ bs = sym h.1 ∙ e in
    let x : letter k ≡ a = cc in
    let y : h.0 ≡ bs = cc in
    (x, subst (Fields k) y h.2)

module _ (s : List ℕ) (two : 2 ≤ length s) (gap : get_or s 1 0 ≡ 32) where
  pub begins : (a : ℕ) → get_or s 0 0 ≡ a → s ≡ a ∷ 32 ∷ after s
  begins a first = starts s a 32 two first gap

  fields : (a : ℕ) → get_or s 0 0 ≡ a → (k : Command) → Says s k → (letter k ≡ a) × Fields k (after s)
  fields a first k h = said s (after s) a (begins a first) k h

  pub no-insert : get_or s 0 0 ≡ 105 → ((e n p : ℕ) → Point e n p (after s) → ⊥) → (k : Command) → Says s k → ⊥
  no-insert a h k said = let f = fields 105 a k said in let i = insert-by k f.0 in h i.0 i.1 i.2 (subst (λ c. Fields c (after s)) i.3 f.1)

  pub no_change : get_or s 0 0 ≡ 99 → ((e n p : ℕ) → Point e n p (after s) → ⊥) → (k : Command) → Says s k → ⊥
  no_change a h k said = let f = fields 99 a k said in let i = change-by k f.0 in h i.0 i.1 i.2 (subst (λ c. Fields c (after s)) i.3 f.1)

  pub no-delete : get_or s 0 0 ≡ 100 → ((e n : ℕ) → Key e n (after s) → ⊥) → (k : Command) → Says s k → ⊥
  no-delete a h k said = let f = fields 100 a k said in let i = delete-by k f.0 in h i.0 i.1 (subst (λ c. Fields c (after s)) i.2 f.1)

  pub no-sum : get_or s 0 0 ≡ 115 → ((l u : ℕ) → Window l u (after s) → ⊥) → (k : Command) → Says s k → ⊥
  no-sum a h k said = let f = fields 115 a k said in let i = sum_by k f.0 in h i.0 i.1 (subst (λ c. Fields c (after s)) i.2 f.1)

  pub no-first : get_or s 0 0 ≡ 102 → ((l u n : ℕ) → Listing l u n (after s) → ⊥) → (k : Command) → Says s k → ⊥
  no-first a h k said = let f = fields 102 a k said in let i = first_by k f.0 in h i.0 i.1 i.2 (subst (λ c. Fields c (after s)) i.3 f.1)

  pub no-range : get_or s 0 0 ≡ 114 → ((l u p : ℕ) → Floor l u p (after s) → ⊥) → (k : Command) → Says s k → ⊥
  no-range a h k said = let f = fields 114 a k said in let i = range-by k f.0 in h i.0 i.1 i.2 (subst (λ c. Fields c (after s)) i.3 f.1)
