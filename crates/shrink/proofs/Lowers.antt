-- A root with one child goes: in the table, as in the tree.
use Rattle.std.proofs.Common.{◌≡◌, ℕ, suc, ◌+◌, ◌-◌, ◌<◌, ◌≤◌, cond, List, [], ◌∷◌, length, get_or, Some, sym, refl, ap, ◌∙◌, arith, le-leb}
use borrow.Author.Tests.{lt-leb}
use Rattle.std.specs.List.{slice_get}
use Rattle.kinds.specs.Meaning.{Meaning}
use Rattle.trees.specs.Tree.{Tree, none, more, grow, count, children_of, place_of, kept_by, hit, uses, uses_all}
use Rattle.trees.specs.Moves.{seated, lowered}
use Rattle.trees.proofs.Bares.{alike-uses_all}
use Rattle.table.specs.declared.node.Node.{Node}
use Rattle.table.specs.declared.free.Free.{Free}
use Rattle.table.specs.Kids.{kids_of}
use Rattle.table.specs.Spares.{spares}
use Rattle.table.specs.Reading.{kept_in, tree_at, Sound, Sounds}
use Rattle.table.proofs.Frames.{hit-here, not_there, place_at, same-trees}
use Rattle.table.proofs.Steps.{inside_one, sound-within, kids-some, kids-sound}
use Rattle.tree.specs.Forests.{Seated}
use Rattle.tree.specs.Places.{kept_of_node}
use Rattle.tree.proofs.Heights.{sound-up}
use Rattle.tree.proofs.Picks.{kept-tree}
use Rattle.tree.proofs.Spared.{spares-kept}
use Rattle.shrink.specs.Lowers.{Lowerable, Lowered}
use Rattle.shrink.proofs.Basics.{Givable, givable, seated-like, children-were, count-were, uses-children}

single : (ps : List ℕ) → 0 < length ps → length ps < 2 → get_or ps 0 0 ∷ [] ≡ ps
single [] some few = absurd (omega arith)
single (p ∷ []) some few = refl
single (p ∷ q ∷ ps) some few = absurd (omega arith)

module _ {C W R : Type 0} {m : Meaning C W R} {a : List (Node C R)} {f : Free} {H p : ℕ} (s : Lowerable m a f H p) {n : Node C R} (is : slice_get a p ≡ Some n) where
  -- the tree, and the places of its children
  abbrev t : Tree C W
  t = tree_at m a H p

  abbrev ps : List ℕ
  ps = kids_of n.children

  up : H ≡ suc (H - 1)
  up = omega (arith, s.above)

  lower-sound : Sound (length a) (suc (H - 1)) (tree_at m a (suc (H - 1)) p)
  lower-sound = sound-up m a H p (λ e. omega (arith, s.above)) s.sound

  pub some : 0 < length ps
  some = kids-some m a (H - 1) p n is lower-sound

  pub below-sounds : Sounds (length a) (H - 1) (grow (tree_at m a (H - 1)) ps)
  below-sounds = kids-sound m a (H - 1) p n is lower-sound

  counted : (q : ℕ) → uses t q ≡ hit p q + uses_all (grow (tree_at m a (H - 1)) ps) q
  counted q = uses-children t q ∙ (λ i. hit (place_at m a H p i) q + uses_all (children-were m a H p up n is i) q)

  counts : count (children_of t) ≡ length ps
  counts = count-were m a H p up n is

  pub stays-root : 2 ≤ length ps → Lowered m a a f f H p H p
  stays-root rich =
      let e = le-leb 2 (count (children_of t)) (omega (arith, counts)) in
      let x : lowered m H t (spares a f) ≡ (more t none, H, spares a f) = ap (λ c. cond c (more t none, H, spares a f) (seated m (H - 1) (kept_by t) (children_of t), H - 1, place_of t ∷ spares a f)) e in
      record { forest = sym (ap (λ v. v.0) x); height = sym (ap (λ v. v.1) x); spares = sym (ap (λ v. v.2) x) }

  -- ---- the point that the root kept has moved down, in the table b
  module _ (poor : length ps < 2) {b : List (Node C R)} (len : length b ≡ length a) (st : Seated m a b (H - 1) ps (kept_in m n)) where
    free-same : spares b f ≡ spares a f
    free-same = spares-kept a b f len (λ q u. st.frame q (omega (arith, s.apart q, counted q, inside_one (length a) q)))

    pub root-givable : Givable b f p
    root-givable = givable b f p (spares a f) (omega (arith, sound-within m a H p s.sound)) free-same (omega (arith, s.apart p, counted p, hit-here p, inside_one (length a) p)) s.room

    pub root-gone : {c : List (Node C R)} {g : Free} {r : ℕ} → r ≡ get_or ps 0 0 → spares c g ≡ p ∷ spares b f → ((q : ℕ) → (q ≡ p → ⊥) → slice_get c q ≡ slice_get b q) → Lowered m a c f g H p (H - 1) r
    root-gone {c} {g} {r} r-is given frame =
        let e = lt-leb 2 (count (children_of t)) (omega (arith, counts, poor)) in
        let k : kept_by t ≡ kept_in m n = kept-tree m a H p ∙ ap (kept_of_node m) is in
        let x : lowered m H t (spares a f) ≡ (seated m (H - 1) (kept_in m n) (grow (tree_at m a (H - 1)) ps), H - 1, p ∷ spares a f) =
        λ i. cond (e i) (more t none, H, spares a f) (seated m (H - 1) (k i) (children-were m a H p up n is i), H - 1, place_at m a H p i ∷ spares a f) in
        let off : uses_all (grow (tree_at m b (H - 1)) ps) p ≡ 0 =
        alike-uses_all (grow (tree_at m b (H - 1)) ps) (grow (tree_at m a (H - 1)) ps) (seated-like len st) p
        ∙ omega (arith, s.apart p, counted p, hit-here p, inside_one (length a) p) in
        let still = same-trees m b c (H - 1) ps (λ q u. frame q (not_there (uses_all (grow (tree_at m b (H - 1)) ps)) p off q u)) in
        let one : r ∷ [] ≡ ps = ap (λ (q : ℕ). q ∷ []) r-is ∙ single ps some poor in
        record {
          forest = ap (grow (tree_at m c (H - 1))) one ∙ still ∙ st.trees ∙ sym (ap (λ v. v.0) x);
          height = sym (ap (λ v. v.1) x);
          spares = given ∙ ap (λ qs. p ∷ qs) free-same ∙ sym (ap (λ v. v.2) x);
        }
