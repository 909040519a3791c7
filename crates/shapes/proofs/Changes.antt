-- Another weight for the point of a key: the shape stays, and the points are those of the set with that weight.
use Rattle.std.proofs.Common.{◌≡◌, ℕ, ◌+◌, ◌≤◌, true, T, List, [], is_some, Some, None, Option, sym, refl, ap, ◌∙◌, subst, append-nil, arith}
use Rattle.std.proofs.lemmas.Bool.{true≢false}
use Rattle.kinds.specs.Meaning.{Meaning, First, Second}
use Rattle.plain.specs.declared.point.Key.{Key}
use Rattle.plain.specs.declared.point.Point.{Point}
use Rattle.plain.specs.Set.{weight_at, stands, reweigh}
use Rattle.plain.proofs.Sets.{rising-reweigh, fit-reweigh}
use Rattle.trees.specs.Tree.{Forest, none, more, count, points, points_all}
use Rattle.trees.specs.Kept.{take_out, weigh}
use Rattle.trees.specs.Heap.{total, tally, Good, Sorted}
use Rattle.trees.specs.Moves.{with_weight}
use Rattle.trees.proofs.Bares.{bare, bare_all, alike-level, alike-keyed, alike-count_all, alike-size_all, alike-uses_all, take_bare, take-points, weigh-bare, seated-bare}
use Rattle.kept.proofs.Takes.{take-heap}
use Rattle.kept.proofs.Weighs.{weigh-heap, weigh-total, weigh-points}
use Rattle.shapes.specs.Shape.{Holds, Changed}
use Rattle.shapes.specs.Settles.{Whole}
use Rattle.shapes.proofs.Forks.{fine-alike}
use Rattle.shapes.proofs.Seats.{sorted-one, seated-stays}
use Rattle.shapes.proofs.Lists.{total-remove}

module _ {C W R : Type 0} (m : Meaning C W R) where
  -- ---- whatever the order, the nodes stand where they stood
  pub with-weight-bare : (h : ℕ) (k : Key C) (w : W) (f : Forest C W) → count f ≤ 1 → bare_all (with_weight m h k w f) ≡ bare_all f
  with-weight-bare h k w none n = refl
  with-weight-bare h k w (more t (more u us)) n = absurd (omega arith)
  with-weight-bare h k w (more t none) n =
      let v = weigh m h k w (take_out m h k t) in
      seated-bare m h (Some (record { key = k; weight = w })) (more v none) ∙ ap (λ z. more z none) (weigh-bare m h k w (take_out m h k t) ∙ take_bare m h k t)

  pub with-weight-changed : (h : ℕ) (k : Key C) (w : W) (qs : List ℕ) (f : Forest C W) → Holds h f → Changed f qs (with_weight m h k w f) h qs
  with-weight-changed h k w qs f holds =
      let g = with_weight m h k w f in
      let like = with-weight-bare h k w f holds.one in
      record {
        holds = record { one = omega (arith, holds.one, alike-count_all g f like); fine = fine-alike 2 4 h g f like holds.fine };
        places = λ q. omega (arith, alike-uses_all g f like q);
        free = omega (arith, alike-size_all g f like);
      }

module _ {C W R : Type 0} (m : Meaning C W R) (first : First m) (second : Second m) where
  -- x is the point of the key
  with-weight-point : (h : ℕ) (x : Point C W) (w : W) (f : Forest C W) → Whole m h f → weight_at m x.key (points_all f) ≡ Some x.weight → T (m.fit x.key.at w)
      → Whole m h (with_weight m h x.key w f) × (points_all (with_weight m h x.key w f) ≡ reweigh m x.key w (points_all f))
  with-weight-point h x w none whole is fit = absurd (true≢false (sym (ap is_some is)))
  with-weight-point h x w (more t (more u us)) whole is fit = absurd (omega (arith, whole.holds.one))
  with-weight-point h x w (more t none) whole is fit =
      let k = x.key in
      let y : Point C W = record { key = k; weight = w } in
      let nil = append-nil (points t) in
      let fine = whole.holds.fine in
      let u = take_out m h k t in
      let v = weigh m h k w u in
      let pu : points u ≡ points t = take-points m h k t in
      let like : bare u ≡ bare t = take_bare m h k t in
      let likes : bare v ≡ bare t = weigh-bare m h k w u ∙ like in
      let good : Good m (points t) = subst (Good m) nil whole.good in
      let s : Sorted m h t = record { level = fine.level.0; keyed = fine.keyed.0; good = good } in
      let full : (g : Point C W → ℕ) → tally t g ≡ total g (points t) = λ g. omega (arith, whole.full g, ap (total g) nil) in
      let at : weight_at m k (points t) ≡ Some x.weight = ap (weight_at m k) (sym nil) ∙ is in
      let taken = take-heap m first second h x t s whole.heap.0 (λ g. omega (arith, full g, total-remove m first g x (points t) at)) in
      let su : Sorted m h u = record { level = alike-level u t like h s.level; keyed = alike-keyed u t like s.keyed; good = subst (Good m) (sym pu) good } in
      let room : (g : Point C W → ℕ) → g x + tally u g ≤ total g (points u) = λ g. omega (arith, taken.1 g, full g, ap (total g) pu) in
      let weighed = weigh-heap m first second h x w u su taken.0 room in
      let sum : (g : Point C W → ℕ) → total g (points v) + g x ≡ total g (points u) + g y = weigh-total m first second h x w u su taken.0 room in
      let same : points v ≡ reweigh m k w (points t) = weigh-points m first second h k w u su (ap is_some (ap (weight_at m k) pu ∙ at)) ∙ ap (reweigh m k w) pu in
      let sv : Sorted m h v = record {
        level = alike-level v t likes h s.level;
        keyed = alike-keyed v t likes s.keyed;
        good = subst (Good m) (sym same) (rising-reweigh m first k w (points t) good.0, fit-reweigh m first k w (points t) fit good.1);
      } in
      let all : (g : Point C W → ℕ) → g y + tally v g ≡ total g (points v) = λ g. omega (arith, sum g, weighed.1 g, taken.1 g, full g, ap (total g) pu) in
      let done = seated-stays m first second h (Some y) (points v) (tally v) (more v none)
      (record { sorted = sorted-one m h v sv; heap = (weighed.0, tt); same = append-nil (points v); tallied = λ g. omega arith })
      (λ g. omega (arith, all g)) in (
        record {
          holds = (with-weight-changed m h k w [] (more t none) whole.holds).holds;
          good = done.sorted.good;
          heap = done.heap;
          full = λ g. omega (arith, done.tallied g, all g, ap (total g) done.same);
        },
        done.same ∙ same ∙ ap (reweigh m k w) (sym nil),
      )

  pub with-weight-whole : (h : ℕ) (k : Key C) (w : W) (f : Forest C W) → Whole m h f → stands m k (points_all f) ≡ true → T (m.fit k.at w)
      → Whole m h (with_weight m h k w f) × (points_all (with_weight m h k w f) ≡ reweigh m k w (points_all f))
  with-weight-whole h k w f whole on fit = go (weight_at m k (points_all f)) refl on
    where
      go : (o : Option W) → weight_at m k (points_all f) ≡ o → is_some o ≡ true → Whole m h (with_weight m h k w f) × (points_all (with_weight m h k w f) ≡ reweigh m k w (points_all f))
      go None e on = absurd (true≢false (sym on))
      go (Some v) e on = with-weight-point h (record { key = k; weight = v }) w f whole e fit
