use Rattle.std.proofs.Common.{◌≡◌, ℕ, List, [], ◌∷◌, ◌∙◌, refl, rules}
use Rattle.std.specs.List.{list_all}
use Rattle.std.proofs.Math.Bool.{and_assoc, and-true}
use Rattle.std.proofs.lemmas.Iterator.{YieldsList-from_slice}
use Rattle.std.proofs.lemmas.Iterator.Search.{all_from_yields_List}
use borrow.Author.Tests.{tests}
use Rattle.kinds.specs.declared.code.Code.{Code}
use Rattle.kinds.specs.Code.{printable, fit_code}
use Rattle.kinds.proofs.code.Code.is_fit.Goals as goal

abbrev bytes : Code → List ℕ
bytes x = x.a ∷ x.b ∷ x.c ∷ x.d ∷ x.e ∷ x.f ∷ x.g ∷ x.h ∷ []

grouped : (x : Code) → list_all printable (bytes x) ≡ fit_code x
grouped x = simp (and_assoc, and-true) refl

pub returns : goal.returns
returns c =
    all_from_yields_List printable _ _ _ c.all.ensures.ran (YieldsList-from_slice (bytes c.args.self) (search rules)) (λ y b q k. search (rules, tests))
    ∙ grouped c.args.self
