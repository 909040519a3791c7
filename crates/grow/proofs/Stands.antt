-- After one point more the tree stands as it should.
use Rattle.std.proofs.Common.{◌≡◌, ℕ, suc, ◌+◌, ◌*◌, ◌^◌, ◌<◌, ◌≤◌, false, eqb, List, [], ◌∷◌, length, sym, refl, ap, ◌∙◌, subst, arith, length-append, pow_mono, eq-eqb, ne_eqb}
use Rattle.std.specs.List.{AllByRecursion}
use Rattle.std.proofs.lemmas.Bool.{cond-true, cond-false}
use Rattle.kinds.specs.Meaning.{Meaning, First, Second}
use Rattle.plain.specs.declared.point.Point.{Point}
use Rattle.plain.specs.Points.{FitPoint}
use Rattle.plain.specs.Set.{put, stands}
use Rattle.trees.specs.Tree.{Tree, Forest, none, more, points, points_all, uses_all, size_all}
use Rattle.trees.specs.Moves.{with_point}
use Rattle.shapes.specs.Shape.{occurs, full, wants, Holds, Changed}
use Rattle.shapes.specs.Settles.{Whole}
use Rattle.shapes.proofs.Counts.{points-least, wants-met}
use Rattle.shapes.proofs.Grows.{with-point-changed}
use Rattle.shapes.proofs.Adds.{with-point-whole}
use Rattle.tree.proofs.Standings.{one-tree}
use Rattle.table.specs.declared.node.Node.{Node}
use Rattle.table.specs.declared.free.Free.{Free}
use Rattle.table.specs.declared.header.Header.{Header}
use Rattle.table.specs.declared.subtree.Subtree.{Subtree}
use Rattle.table.specs.Spares.{spares}
use Rattle.table.specs.Reading.{tree_at, inside}
use Rattle.tree.specs.Standing.{forest_of, points_of, Standing, Ruled}
use Rattle.tree.proofs.Spared.{all-inside}
use Rattle.grow.specs.Grown.{Ready, most, half}
use Rattle.grow.specs.Planted.{Planted}

-- a tree with so few points is low
bound : (h c : ℕ) → 2 ^ h ≤ c → c < 32768 → h < 255
bound h c p l =
    let never : 255 ≤ h → ⊥ = λ ge. let far : 15 ≤ h = omega arith in let q : 2 ^ 15 ≤ 2 ^ h = pow_mono far in omega (arith, q, p, l) in
    omega arith

module _ {C W R : Type 0} {m : Meaning C W R} {a : List (Node C R)} {hd : Header} (s : Standing m a hd) (room : 2 * suc hd.count ≤ suc (length a)) where
  abbrev f : Forest C W
  f = forest_of m a hd

  abbrev qs : List ℕ
  qs = spares a hd.free

  pub met : wants f ≤ length qs
  met = wants-met (suc hd.count) hd.top.height f (length qs) s.holds (omega (arith, s.counted)) (omega (arith, s.free, room))

  pub spares-in : AllByRecursion (λ q. q < length a) qs
  spares-in = all-inside (length a) qs (λ q. omega (arith, s.places q))

  -- ---- no point yet
  pub empty : hd.count ≡ 0 → f ≡ none
  empty z = cond-true (eqb hd.count 0) _ _ (eq-eqb hd.count 0 z)

  pub some-spare : hd.count ≡ 0 → 0 < length qs
  some-spare z = omega (arith, subst (λ g. wants g ≤ length qs) (empty z) met)

  -- ---- a tree
  module _ (nz : hd.count ≡ 0 → ⊥) where
    abbrev t : Tree C W
    t = tree_at m a hd.top.height hd.top.root

    holds : Holds hd.top.height (more t none)
    holds = subst (Holds hd.top.height) (one-tree m a hd nz) s.holds

    pub enough : suc (suc (full t most)) ≤ length qs
    enough = subst (λ g. wants g ≤ length qs) (one-tree m a hd nz) met

    pub ready : Ready m a hd.free hd.top.height hd.top.root
    ready = record {
      small = s.small;
      level = holds.fine.level.0;
      degrees = holds.fine.degrees.0;
      keyed = holds.fine.keyed.0;
      apart = λ q. omega (arith, subst (λ g. uses_all g q + occurs q qs ≡ inside (length a) q) (one-tree m a hd nz) (s.places q));
      room = omega (arith, enough);
    }

    pub low : hd.top.height < 255
    low = go (points-least most t hd.top.height holds.fine.level.0 holds.fine.degrees.0)
      where
        n : length (points t) ≡ hd.count
        n = sym (s.counted ∙ ap (λ g. length (points_all g)) (one-tree m a hd nz) ∙ length-append (points t) [] ∙ omega arith)

        go : 2 ^ hd.top.height ≤ length (points t) → hd.top.height < 255
        go p = bound hd.top.height hd.count (omega (arith, n)) (omega (arith, room, s.small))

  -- ---- after
  module _ {x : Point C W} {b : List (Node C R)} {g : Free} (top : Subtree) (len : length b ≡ length a) (pl : Planted m a b hd.free g hd.top.height f x top.height top.root) where
    abbrev hd' : Header
    hd' = record { top = top; count = hd.count + 1; free = g }

    abbrev r : Forest C W × ℕ × List ℕ
    r = with_point m most half hd.top.height x qs f

    now : forest_of m b hd' ≡ r.0
    now = cond-false (eqb (hd.count + 1) 0) _ _ (ne_eqb (hd.count + 1) 0 (λ e. omega arith)) ∙ pl.forest

    changed : Changed f qs r.0 r.1 r.2 × (length (points_all r.0) ≡ suc (length (points_all f)))
    changed = with-point-changed m hd.top.height x qs f s.holds met

    pub stands_on : Standing m b hd'
    stands_on = record {
      small = subst (λ n. n ≤ 32767) (sym len) s.small;
      holds = subst (λ j. Holds j (forest_of m b hd')) (sym pl.height) (subst (Holds r.1) (sym now) changed.0.holds);
      places = λ q. ap (λ t. uses_all t q + occurs q (spares b g)) now ∙ ap (λ l. uses_all r.0 q + occurs q l) pl.spare ∙ changed.0.places q ∙ s.places q ∙ ap (λ n. inside n q) (sym len);
      free = ap (λ t. size_all t + length (spares b g)) now ∙ ap (λ l. size_all r.0 + length l) pl.spare ∙ changed.0.free ∙ s.free ∙ sym len;
      counted = omega (arith, s.counted, changed.1, ap (λ t. length (points_all t)) now);
    }

    pub rules-on : First m → Second m → Ruled m a hd → FitPoint m x → stands m x.key (points_of m a hd) ≡ false → Ruled m b hd' × (points_of m b hd' ≡ put m x (points_of m a hd))
    rules-on first second w fit off =
        let z = with-point-whole m first second hd.top.height x qs f w met fit off in
        (subst (λ j. Whole m j (forest_of m b hd')) (sym pl.height) (subst (Whole m r.1) (sym now) z.0), ap points_all now ∙ z.1)

-- where there is no tree, its height does not matter
pub any-height : {C W R : Type 0} {m : Meaning C W R} {a b : List (Node C R)} {f g : Free} (h : ℕ) {i p : ℕ} {x : Point C W} → 0 < length (spares a f) → Planted m a b f g 0 none x i p → Planted m a b f g h none x i p
any-height {m} {a} {b} {f} {g} h {i} {p} {x} some pl =
    let e = go (spares a f) some in
    record { forest = pl.forest ∙ ap (λ r. r.0) e; height = pl.height ∙ ap (λ r. r.1) e; spare = pl.spare ∙ ap (λ r. r.2) e }
  where
    go : (qs : List ℕ) → 0 < length qs → with_point m most half 0 x qs none ≡ with_point m most half h x qs none
    go [] z = absurd (omega arith)
    go (q ∷ ps) z = refl
