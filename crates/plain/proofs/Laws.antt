-- The laws of the plain set and of sums, from the laws of the kind.
use Rattle.std.proofs.Common.{◌≡◌, Bool, true, false, cond, T, List, [], ◌∷◌, is_some, Some, None, Option, Ordering, Less, sym, refl, ap, ◌∙◌, inl}
use lib.Ieee.{Float, nan, inf, fin}
use Rattle.std.specs.Ordering.{is_eq, is_lt, ordering_reverse}
use Rattle.std.specs.List.{AllByRecursion}
use Rattle.std.proofs.lemmas.Bool.{true≢false, false≢true}
use Rattle.kinds.specs.Meaning.{Meaning, First, Second, Numbering}
use Rattle.kinds.specs.Orders.{among, and_then, through, then_tie}
use Rattle.kinds.specs.Weights.{plain, fit-plain}
use Rattle.sums.proofs.Adds.{nonneg}
use Rattle.sums.proofs.Grown as grown
use Rattle.plain.specs.declared.point.Key.{Key}
use Rattle.plain.specs.declared.point.Point.{Point}
use Rattle.plain.specs.Points.{key_order, Before, FitPoint}
use Rattle.plain.specs.Set.{Rising, AllFit, weight_at}
use Rattle.plain.specs.Windows.{window}
use Rattle.plain.specs.Laws.{Orders, Keeps, Finds, SetLaws, SumsGrow}
use Rattle.plain.proofs.Each.{each_weaker, each_kept}
use Rattle.plain.proofs.Keys.{keys, tie, turned}
use Rattle.plain.proofs.Sets.{rising-kept, rising-put, rising-remove, rising-reweigh, rising-push, after-all, fit-put, fit-remove, fit-reweigh, length-put, length-remove, length-reweigh, weight-put, weight-remove, weight-reweigh}

plain-nonneg : (w : Float) → T (plain w) → T (nonneg w)
plain-nonneg nan h = h
plain-nonneg (inf s) h = absurd h
plain-nonneg (fin true m e) h = h
plain-nonneg (fin false m e) h = tt

none_found : {W : Type 0} (o : Option W) → is_some o ≡ false → o ≡ None
none_found None h = refl
none_found (Some w) h = absurd (true≢false h)

module _ {C W R : Type 0} (m : Meaning C W R) (law : First m) where
  pub orders : Second m → Orders m
  orders second = record {
    keys = keys m law;
    keys_tie = tie m law;
    ranks =
        and_then
        (among (through (λ (p : Point C W). p.weight) second.orders) (λ p h. inl (p.key.at, h)))
        (among (through (λ (p : Point C W). p.key) (keys m law)) (λ p h. tt));
    ranks_tie = λ p q h. tie m law p.key q.key (then_tie _ _ h).1;
  }

  keeps : Keeps m
  keeps = record {
    put_rises = rising-put m law;
    remove_rises = rising-remove m law;
    reweigh_rises = rising-reweigh m law;
    append_rises = λ p ps e h. rising-push m law ps p h (after-all m law ps p.key h e);
    put_fits = fit-put m;
    remove_fits = fit-remove m;
    reweigh_fits = fit-reweigh m law;
  }

  finds : Finds m
  finds = record {
    put_found = λ p ps k n. weight-put m law p ps k (none_found (weight_at m p.key ps) n);
    remove_found = weight-remove m law;
    reweigh_found = λ j w ps k s. weight-reweigh m law j w ps k ∙ ap (λ (b : Bool). cond (is_eq (key_order m k j)) (cond b (Some w) None) (weight_at m k ps)) s;
  }

  pub set-laws : SetLaws m
  set-laws = record { keeps = keeps; counts = record { put_counts = length-put m; remove_counts = length-remove m; reweigh_counts = length-reweigh m }; finds = finds }

  -- ---- sums
  not-both : (x y : Ordering) → y ≡ ordering_reverse x → x ≡ Less → y ≡ Less → ⊥
  not-both x y e h k = false≢true (ap is_lt (sym (ap ordering_reverse h) ∙ sym e ∙ k))

  never : (a b : Key C) → Before m a b → Before m b a → ⊥
  never a b h k = not-both (key_order m a b) (key_order m b a) (turned m law a b) h k

  module _ (number : W → Float) (numbering : Numbering m number) where
    abbrev number_at : Point C W → Float
    number_at p = number p.weight

    abbrev key_of : Point C W → Key C
    key_of p = p.key

    counted : (ps : List (Point C W)) → AllFit m ps → AllByRecursion (λ p. T (nonneg (number_at p))) ps
    counted ps f = each_weaker (FitPoint m) _ (λ p h. plain-nonneg (number_at p) (fit-plain (number_at p) (numbering.small p.key.at p.weight h))) ps f

    sorted : (ps : List (Point C W)) → Rising m ps → grown.Sorted key_of number_at (Before m) never ps
    sorted [] h = tt
    sorted (p ∷ ps) h = (h.0, sorted ps h.1)

    pub sums-grow : SumsGrow m number
    sums-grow ps qs l u a b rp rq fp fq c =
        let xs = window m l u ps in
        let ys = window m a b qs in
        grown.sums-grow key_of number_at (Before m) never xs ys
        (sorted xs (rising-kept m _ ps rp)) (sorted ys (rising-kept m _ qs rq))
        (counted xs (each_kept _ (FitPoint m) ps fp)) (counted ys (each_kept _ (FitPoint m) qs fq))
        c
