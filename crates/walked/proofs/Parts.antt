-- Parts of lists: what a filter keeps of them, and lists in a row.
use Rattle.std.proofs.Common.{◌≡◌, Bool, true, false, List, [], ◌∷◌, ◌++◌, filter, sym, refl, ap, ◌∙◌}
use Rattle.std.specs.List.{flat_map, AllByRecursion}
use Rattle.std.proofs.lemmas.List.Elements.{filter-append}
use Rattle.kept.proofs.Risings.{all_left, all_right}

-- either way a test goes
pub by-test : {G : Type 0} (b : Bool) → (b ≡ true → G) → (b ≡ false → G) → G
by-test true f g = f refl
by-test false f g = g refl

pub all-parts : {X : Type 0} (P : X → Type 0) (xs ys : List X) → AllByRecursion P (xs ++ ys) → AllByRecursion P xs × AllByRecursion P ys
all-parts P xs ys a = (all_left P xs ys a, all_right P xs ys a)

pub kept-none : {X : Type 0} (p : X → Bool) (xs : List X) → AllByRecursion (λ x. p x ≡ false) xs → filter p xs ≡ []
kept-none p [] a = refl
kept-none p (x ∷ xs) (h, a) = rw h (kept-none p xs a)

pub joined-kept : {X Y : Type 0} (p : Y → Bool) (f : X → List Y) (xs : List X) → flat_map (λ x. filter p (f x)) xs ≡ filter p (flat_map f xs)
joined-kept p f [] = refl
joined-kept p f (x ∷ xs) = ap (λ z. filter p (f x) ++ z) (joined-kept p f xs) ∙ sym (filter-append p (f x) (flat_map f xs))
