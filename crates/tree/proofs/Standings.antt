-- What is known of every tree that stands in a table.
use Rattle.std.proofs.Common.{◌≡◌, ◌+◌, ◌<◌, eqb, List, [], length, sym, ap, ◌∙◌, subst, arith, length-append, ne_eqb}
use base.Stored.{Coded}
use Rattle.std.proofs.lemmas.Bool.{cond-false}
use Rattle.kinds.specs.Meaning.{Meaning, First, Second}
use Rattle.trees.specs.Tree.{none, more, points, points_all, size_all}
use Rattle.shapes.specs.Shape.{Holds}
use Rattle.shapes.specs.Settles.{Whole}
use Rattle.shapes.proofs.Counts.{points-least, size-most}
use Rattle.shapes.proofs.Wholes.{whole-rules, rules-whole}
use Rattle.table.specs.declared.node.Node.{Node}
use Rattle.table.specs.declared.header.Header.{Header}
use Rattle.table.specs.Reading.{tree_at}
use Rattle.tree.specs.Standing.{forest_of}
use Rattle.tree.specs.Theorems.{FewNodes, RulesHold}

module _ {C W R : Type 0} (m : Meaning C W R) where
  -- with points there is one tree
  pub one-tree : (ns : List (Node C R)) (hd : Header) → (hd.count ≡ 0 → ⊥) → forest_of m ns hd ≡ more (tree_at m ns hd.top.height hd.top.root) none
  one-tree ns hd nz = cond-false (eqb hd.count 0) _ _ (ne_eqb hd.count 0 nz)

  some : (hd : Header) → 0 < hd.count → hd.count ≡ 0 → ⊥
  some hd pos z = omega arith

  pub few-nodes : FewNodes m
  few-nodes ns hd s pos =
      let t = tree_at m ns hd.top.height hd.top.root in
      let e = one-tree ns hd (some hd pos) in
      let holds = subst (Holds hd.top.height) e s.holds in
      let n : hd.count ≡ length (points t) + 0 = s.counted ∙ ap (λ f. length (points_all f)) e ∙ length-append (points t) [] in
      let z = ap size_all e in
      (omega (arith, size-most 4 t hd.top.height holds.fine.level.0 holds.fine.degrees.0), omega (arith, points-least 4 t hd.top.height holds.fine.level.0 holds.fine.degrees.0))

  pub rules-held : First m → Second m → Coded C → Coded W → RulesHold m
  rules-held first second kc kw = record {
    ruled_rules = λ ns hd pos r. whole-rules m first second kc kw hd.top.height (tree_at m ns hd.top.height hd.top.root) (subst (Whole m hd.top.height) (one-tree ns hd (some hd pos)) r);
    rules_ruled = λ ns hd pos r. subst (Whole m hd.top.height) (sym (one-tree ns hd (some hd pos))) (rules-whole m first second kc kw hd.top.height (tree_at m ns hd.top.height hd.top.root) r);
  }
