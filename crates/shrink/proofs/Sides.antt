-- Which of the two ways neighbours are joined, and what each of them holds then.
use Rattle.std.proofs.Common.{◌≡◌, ℕ, suc, ◌+◌, ◌-◌, ◌<◌, ◌≤◌, Bool, true, false, cond, ltb, List, [], ◌∷◌, ◌++◌, length, Some, sym, ap, ◌∙◌, arith, le-ltb, lt-ltb}
use Rattle.std.specs.List.{slice_get}
use Rattle.kinds.specs.Meaning.{Meaning}
use Rattle.plain.specs.declared.point.Key.{Key}
use Rattle.trees.specs.Tree.{Tree, Forest, none, more, ◌⊕◌, grow, count, children_of, hit, front, back}
use Rattle.trees.specs.Moves.{settled, joined, halves}
use Rattle.std.proofs.lemmas.List.{take_at, drop_at}
use Rattle.trees.proofs.Forests.{count-⊕}
use Rattle.shapes.specs.Shape.{occurs}
use Rattle.table.specs.declared.node.Node.{Node}
use Rattle.table.specs.declared.free.Free.{Free}
use Rattle.table.specs.Spares.{spares}
use Rattle.table.specs.Kids.{kids_of}
use Rattle.table.specs.Reading.{tree_at}
use Rattle.table.proofs.Frames.{grow-append, front-grow, back-grow, place_at}
use Rattle.table.proofs.Steps.{inside_one}
use Rattle.tree.proofs.Spared.{spares-kept}
use Rattle.shrink.specs.Joins.{Neighbours, Spared, Fused, Shared, Joint, reseated}
use Rattle.shrink.proofs.Basics.{uses-children}
use Rattle.shrink.proofs.Joins.{all_are, count-l, count-r}

module _ {C W R : Type 0} {m : Meaning C W R} {a : List (Node C R)} {H l r : ℕ} (s : Neighbours m a H l r) {nl nr : Node C R} (is-l : slice_get a l ≡ Some nl) (is-r : slice_get a r ≡ Some nr) where
  -- the trees of the height below, and the places of the children of each
  abbrev branch_at : ℕ → Tree C W
  branch_at = tree_at m a (H - 1)

  abbrev ls : List ℕ
  ls = kids_of nl.children

  abbrev rs : List ℕ
  rs = kids_of nr.children

  -- the children of both
  abbrev all : Forest C W
  all = children_of (tree_at m a H l) ⊕ children_of (tree_at m a H r)

  -- the points that both kept join in
  abbrev seat : Forest C W → Forest C W
  seat = reseated m a H l r

  -- how many the left one gets
  abbrev pub portion : Bool → ℕ
  portion left = cond left (suc (length ls)) (length ls - 1)

  counted : count all ≡ length ls + length rs
  counted = count-⊕ (children_of (tree_at m a H l)) (children_of (tree_at m a H r)) ∙ (λ i. count-l s is-l i + count-r s is-r i)

  joined_is : (k : Key C) (left : Bool) (qs : List ℕ) (one : Bool) → ltb (count all) 4 ≡ one
      → joined m 4 H k left (tree_at m a H l) (tree_at m a H r) qs ≡ cond one (seat (more (settled m H l k all) none), r ∷ qs) (seat (halves m H l r k (portion left) all), qs)
  joined_is k left qs one e =
      let p = place_at m a H l in
      let q = place_at m a H r in
      let n = count-l s is-l in
      λ i. cond (e i) (seat (more (settled m H (p i) k all) none), q i ∷ qs) (seat (halves m H (p i) (q i) k (cond left (suc (n i)) (n i - 1)) all), qs)

  pub joint-fused : {z : List (Node C R)} {f g : Free} (left : Bool) → length ls + length rs < 4 → Fused m a z H l r f g → Joint m a z H l r f g left true
  joint-fused {z} {f} {g} left few j =
      let e = lt-ltb (count all) 4 (omega (arith, counted)) in
      record {
        trees = λ k. j.tree k ∙ sym (ap (λ v. v.0) (joined_is k left (spares a f) true e));
        spares = λ k. j.spares ∙ sym (ap (λ v. v.1) (joined_is k left (spares a f) true e));
        framed = j.framed;
        freed = λ q. omega (arith, ap (occurs q) j.spares, uses-children (tree_at m a H r) q, ap (λ p. hit p q) (place_at m a H r));
      }

  -- ---- the same children, parted at another place
  module _ (xs ys : List ℕ) (same : xs ++ ys ≡ ls ++ rs) where
    read : grow branch_at (xs ++ ys) ≡ all
    read = all_are s is-l is-r (xs ++ ys) same

    pub parts_same : grow branch_at xs ⊕ grow branch_at ys ≡ all
    parts_same = sym (grow-append branch_at xs ys) ∙ read

    pub joint-shared : {z : List (Node C R)} → length z ≡ length a → {f : Free} → Spared m a f H (l ∷ r ∷ []) → (left : Bool)
        → 4 ≤ length ls + length rs → length xs ≡ portion left → Shared m a z H l r xs ys → Joint m a z H l r f f left false
    joint-shared {z} len {f} sp left many n j =
        let e = le-ltb (count all) 4 (omega (arith, counted)) in
        let x : grow branch_at xs ≡ front (portion left) all = ap (grow branch_at) (sym (take_at xs ys (portion left) n)) ∙ sym (front-grow branch_at (portion left) (xs ++ ys)) ∙ ap (front (portion left)) read in
        let y : grow branch_at ys ≡ back (portion left) all = ap (grow branch_at) (sym (drop_at xs ys (portion left) n)) ∙ sym (back-grow branch_at (portion left) (xs ++ ys)) ∙ ap (back (portion left)) read in
        let stays = spares-kept a z f len (λ q u. j.framed.frame q (omega (arith, sp.apart q, inside_one (length a) q)) (omega (arith, sp.apart q, inside_one (length a) q))) in
        record {
          trees = λ k. j.trees k ∙ (λ i. seat (more (settled m H l k (x i)) (more (settled m H r k (y i)) none))) ∙ sym (ap (λ v. v.0) (joined_is k left (spares a f) false e));
          spares = λ k. stays ∙ sym (ap (λ v. v.1) (joined_is k left (spares a f) false e));
          framed = j.framed;
          freed = λ q. omega (arith, ap (occurs q) stays);
        }
