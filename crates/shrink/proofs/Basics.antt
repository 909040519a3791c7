-- Small facts: the children of a root, places given back, and trees that differ only in the points they keep.
use Rattle.std.proofs.Common.{◌≡◌, ℕ, suc, ◌+◌, ◌-◌, ◌<◌, List, length, Some, Option, sym, refl, ap, ◌∙◌, subst, arith}
use Rattle.std.specs.List.{slice_get, AllByRecursion}
use Rattle.kinds.specs.Meaning.{Meaning}
use Rattle.plain.specs.declared.point.Point.{Point}
use Rattle.trees.specs.Tree.{Tree, Forest, gone, leaf, fork, grow, count, children_of, place_of, hit, uses, uses_all}
use Rattle.trees.specs.Rules.{Level, LevelAll}
use Rattle.trees.specs.Moves.{seated}
use Rattle.trees.proofs.Bares.{bare_all, alike-uses_all, alike-level_all, alike-degrees_all, seated-bare}
use Rattle.table.specs.declared.node.Node.{Node}
use Rattle.table.specs.declared.free.Free.{Free}
use Rattle.table.specs.Spares.{spares}
use Rattle.shapes.specs.Shape.{occurs}
use Rattle.tree.proofs.Spared.{none-occurring}
use Rattle.table.specs.Kids.{kids_of}
use Rattle.table.specs.Reading.{kept_in, tree_at, Sounds}
use Rattle.table.specs.Keys.{key_in}
use Rattle.table.proofs.Frames.{count-grow}
use Rattle.table.proofs.Steps.{fork-was}
use Rattle.tree.specs.Forests.{Seated}
use Rattle.shrink.specs.Joins.{SeatedBoth}

module _ {C W : Type 0} where
  -- ---- the children of a root
  pub uses-children : (t : Tree C W) (q : ℕ) → uses t q ≡ hit (place_of t) q + uses_all (children_of t) q
  uses-children (gone p) q = omega arith
  uses-children (leaf p x o) q = omega arith
  uses-children (fork p k o ts) q = refl

  pub level-children : (h : ℕ) (t : Tree C W) → Level t (suc h) → LevelAll (children_of t) h
  level-children h (gone p) l = absurd l
  level-children h (leaf p x o) l = absurd (omega arith)
  level-children h (fork p k o ts) l = l

  -- ---- sound trees
  pub sounds-alike : (n h : ℕ) (us vs : Forest C W) → bare_all us ≡ bare_all vs → Sounds n h vs → Sounds n h us
  sounds-alike n h us vs e s = record {
    level = alike-level_all us vs e h s.level;
    degrees = alike-degrees_all us vs e 1 4 s.degrees;
    apart = λ q. omega (arith, alike-uses_all us vs e q, s.apart q);
  }

-- ---- a place that can be given back
module _ {C R : Type 0} (b : List (Node C R)) (f : Free) (p : ℕ) where
  abbrev pub Givable : Type 0
  Givable = record { within : p < length b; apart : AllByRecursion (λ q. q ≡ p → ⊥) (spares b f); room : length (spares b f) < 65535 }

  pub givable : (qs : List ℕ) → p < length b → spares b f ≡ qs → occurs p qs ≡ 0 → length qs < 65535 → Givable
  givable qs within same off room = record {
    within = within;
    apart = subst (AllByRecursion (λ q. q ≡ p → ⊥)) (sym same) (none-occurring p qs off);
    room = omega (arith, ap length same);
  }

-- ---- a point joins those kept in some trees, and then another one
module _ {C W R : Type 0} {m : Meaning C W R} where
  module _ {b c : List (Node C R)} (len : length c ≡ length b) {h : ℕ} {ps : List ℕ} {o : Option (Point C W)} (first : Seated m b c h ps o) where
    pub seated-like : bare_all (grow (tree_at m c h) ps) ≡ bare_all (grow (tree_at m b h) ps)
    seated-like = ap bare_all first.trees ∙ seated-bare m h o (grow (tree_at m b h) ps)

    pub seated_sounds : Sounds (length b) h (grow (tree_at m b h) ps) → Sounds (length c) h (grow (tree_at m c h) ps)
    seated_sounds s = subst (λ n. Sounds n h (grow (tree_at m c h) ps)) (sym len) (sounds-alike (length b) h (grow (tree_at m c h) ps) (grow (tree_at m b h) ps) seated-like s)

    pub seated_both : {d : List (Node C R)} {o' : Option (Point C W)} → Seated m c d h ps o' → SeatedBoth m b d h ps o o'
    seated_both {d} {o'} last = record {
      trees = last.trees ∙ ap (seated m h o') first.trees;
      frame = λ q z. last.frame q (alike-uses_all (grow (tree_at m c h) ps) (grow (tree_at m b h) ps) seated-like q ∙ z) ∙ first.frame q z;
    }

  pub both-like : {b d : List (Node C R)} {h : ℕ} {ps : List ℕ} {o o' : Option (Point C W)} → SeatedBoth m b d h ps o o' → bare_all (grow (tree_at m d h) ps) ≡ bare_all (grow (tree_at m b h) ps)
  both-like {b} {d} {h} {ps} {o} {o'} both =
      ap bare_all both.trees ∙ seated-bare m h o' (seated m h o (grow (tree_at m b h) ps)) ∙ seated-bare m h o (grow (tree_at m b h) ps)

-- ---- a root read in the table, and its children
module _ {C W R : Type 0} (m : Meaning C W R) where
  module _ (a : List (Node C R)) (H p : ℕ) (up : H ≡ suc (H - 1)) (n : Node C R) (is : slice_get a p ≡ Some n) where
    pub root-was : tree_at m a H p ≡ fork p (key_in n.own) (kept_in m n) (grow (tree_at m a (H - 1)) (kids_of n.children))
    root-was = ap (λ k. tree_at m a k p) up ∙ fork-was m a (H - 1) p n is

    pub children-were : children_of (tree_at m a H p) ≡ grow (tree_at m a (H - 1)) (kids_of n.children)
    children-were = ap children_of root-was

    pub count-were : count (children_of (tree_at m a H p)) ≡ length (kids_of n.children)
    count-were = ap count children-were ∙ count-grow (tree_at m a (H - 1)) (kids_of n.children)
