-- From the tests to the rules.
use Rattle.std.proofs.Common.{◌≡◌, ℕ, List, length, Option, sym, ap, ◌∙◌, subst, append-nil, arith, ne_eqb}
use base.Stored.{Coded}
use Rattle.kinds.specs.Meaning.{Meaning, First, Second}
use Rattle.plain.specs.declared.point.Key.{Key}
use Rattle.trees.specs.Tree.{Tree, none, more, points, points_all}
use Rattle.trees.specs.Rules.{kept, kept_all, Rules}
use Rattle.kept.proofs.Tells.{kept-total}
use Rattle.kept.proofs.Apart.{is, shuffled-of}
use Rattle.shapes.specs.Settles.{Whole}
use Rattle.shapes.proofs.Wholes.{rules-whole}
use Rattle.table.specs.declared.node.Node.{Node}
use Rattle.table.specs.declared.header.Header.{Header}
use Rattle.table.specs.Reading.{tree_at}
use Rattle.tree.specs.Standing.{forest_of}
use Rattle.checker.specs.Passes.{Passes}
use Rattle.checker.specs.Checked.{Checked}
use Rattle.checker.proofs.Rises.{level-of, degrees-of, keyed-of, fit_of, rising-of}
use Rattle.checker.proofs.Keeps.{path-of, filled_of, ranked-of, once-of, sums_same}

module _ {C W R : Type 0} (m : Meaning C W R) (first : First m) (second : Second m) (kc : Coded C) (kw : Coded W) where
  -- a tree that passes, and keeps as many points as it has, keeps the rules
  pub passes-rules : (t : Tree C W) (u : Option (Key C)) (h : ℕ) → Passes m t u h → length (points t) ≡ length (kept t) → Rules m 2 4 h t
  passes-rules t u h q len = record {
    level = level-of m t u h q;
    rising = rising-of m first t u h q;
    fit = fit_of m t u h q;
    degrees = degrees-of m t u h q;
    keyed = keyed-of m t u h q;
    once = shuffled-of kc kw (points t) (kept t) (λ f. sym (sums_same m first second kc kw (kept t) (points t) (λ z. omega (arith, kept-total (is kc kw z) t, once-of m first second kc kw t u h q z)) (sym len) f));
    on_path = path-of m t u h q;
    filled = filled_of m first second t u h q;
    ranked = ranked-of m first second t u h q;
  }

  -- the same of the tree that a header names, with its points counted
  pub passes-checked : (ns : List (Node C R)) (hd : Header) → (hd.count ≡ 0 → ⊥) → (u : Option (Key C)) → Passes m (tree_at m ns hd.top.height hd.top.root) u hd.top.height
      → hd.count ≡ length (points_all (more (tree_at m ns hd.top.height hd.top.root) none)) → hd.count ≡ length (kept_all (more (tree_at m ns hd.top.height hd.top.root) none)) → Checked m ns hd
  passes-checked ns hd pos u q all some =
      let t = tree_at m ns hd.top.height hd.top.root in
      let one : forest_of m ns hd ≡ more t none = rw (ne_eqb hd.count 0 pos) in
      let rules = passes-rules t u hd.top.height q (omega (arith, ap length (append-nil (points t)), ap length (append-nil (kept t)))) in
      record {
        rules = λ _. rules;
        ruled = subst (Whole m hd.top.height) (sym one) (rules-whole m first second kc kw hd.top.height t rules);
        counted = all ∙ ap (λ f. length (points_all f)) (sym one);
      }
