-- Parents over all trees of one height, from the left.
use Rattle.std.proofs.Common.{◌≡◌, ℕ, zero, suc, ◌+◌, ◌≤◌, ◌++◌, sym, refl, ap, ◌∙◌, subst, arith}
use Rattle.kinds.specs.Meaning.{Meaning}
use Rattle.plain.specs.declared.point.Key.{Key}
use Rattle.trees.specs.Tree.{Tree, Forest, none, more, ◌⊕◌, count, front, back, points_all, size_all, uses_all}
use Rattle.trees.specs.Rules.{LevelAll, DegreesAll, KeyedAll}
use Rattle.trees.specs.Moves.{settled}
use Rattle.trees.proofs.Forests.{points-⊕, uses-⊕, size-⊕, count-⊕, front-back, count-front, count-back, level-parts, degrees-parts, keyed-parts}
use Rattle.built.specs.Build.{group, parents, Over, Laid}
use Rattle.built.proofs.Groups.{group-fits}
use Rattle.built.proofs.Overs.{settled-over}

module _ {C W : Type 0} where
  laid_none : (h p : ℕ) → Laid {C = C} {W = W} h p none none
  laid_none h p = record {
    level = tt;
    degrees = tt;
    keyed = tt;
    same = refl;
    halved = omega arith;
    some = λ n. n;
    places = λ q. omega arith;
    nodes = omega arith;
  }

  -- a parent over the first trees, and parents over the rest
  laid_more : (h p : ℕ) (ts fs bs us : Forest C W) (t : Tree C W) → fs ⊕ bs ≡ ts → 2 ≤ count fs → Over h p fs t → Laid h (suc p) bs us → Laid h p ts (more t us)
  laid_more h p ts fs bs us t e least o l =
      let c : count fs + count bs ≡ count ts = sym (count-⊕ fs bs) ∙ ap count e in
      let z : size_all fs + size_all bs ≡ size_all ts = sym (size-⊕ fs bs) ∙ ap size_all e in
      let v = l.halved in
      let w = l.nodes in
      record {
        level = (o.level, l.level);
        degrees = (o.degrees, l.degrees);
        keyed = (o.keyed, l.keyed);
        same = (λ i. o.same i ++ l.same i) ∙ sym (points-⊕ fs bs) ∙ ap points_all e;
        halved = omega arith;
        some = λ n. omega arith;
        places = λ q. omega (arith, o.places q, l.places q, uses-⊕ fs bs q, ap (λ us. uses_all us q) e);
        nodes = omega (arith, o.nodes);
      }

module _ {C W R : Type 0} (m : Meaning C W R) where
  pub parents-laid : (n h p : ℕ) (k : Key C) (ts : Forest C W) → count ts ≤ n → (count ts ≡ 1 → ⊥) → LevelAll ts h → DegreesAll ts 2 4 → KeyedAll ts → Laid h p ts (parents m n h p k ts)
  parents-laid zero h p k none c u l d y = laid_none h p
  parents-laid zero h p k (more t ts) c u l d y = absurd (omega arith)
  parents-laid (suc n) h p k none c u l d y = laid_none h p
  parents-laid (suc n) h p k (more t ts) c u l d y =
      let g = group (count (more t ts)) in
      let fs = front g (more t ts) in
      let bs = back g (more t ts) in
      let e = front-back g (more t ts) in
      let fits = group-fits (count (more t ts)) (omega arith) in
      let cf : count fs ≡ g = count-front g (more t ts) fits.2 in
      let cb = count-back g (more t ts) fits.2 in
      let ls = level-parts fs bs h (subst (λ us. LevelAll us h) (sym e) l) in
      let ds = degrees-parts fs bs 2 4 (subst (λ us. DegreesAll us 2 4) (sym e) d) in
      let ys = keyed-parts fs bs (subst KeyedAll (sym e) y) in
      laid_more h p (more t ts) fs bs (parents m n h (suc p) k bs) (settled m (suc h) p k fs) e (omega arith)
      (settled-over m h p k fs (omega arith) (omega arith) ls.0 ds.0 ys.0)
      (parents-laid n h (suc p) k bs (omega arith) (λ z. fits.3 (omega arith)) ls.1 ds.1 ys.1)
