-- A binary search by key order over points that rise.
use Rattle.std.proofs.Common.{◌≡◌, ℕ, zero, suc, ◌-◌, ◌<◌, ◌≤◌, true, false, List, [], ◌∷◌, ◌++◌, length, get_or, get_or-take, length-take-le, take, drop, set, is_some, None, Ok, Err, Result, MatchResult, Ordering, Less, Equal, Greater, sym, refl, ap, ◌∙◌, subst, ⊎_elim, arith, rules}
use lib.Ieee.{Float}
use Rattle.std.specs.Ordering.{is_lt, is_eq, ordering_index, ordering_reverse}
use Rattle.std.specs.List.{AllWithin, insert, remove as removed}
use Rattle.std.specs.List.Sorted.{IsNonDecreasingBy, IsPartitionPoint, IsSearchInRange, IsBinarySearchResult}
use Rattle.std.proofs.lemmas.Bool.{cond-true, cond-false, cases_lt, true≢false}
use Rattle.std.proofs.Math.Nat.{eq-or-lt_of_le}
use Rattle.std.proofs.lemmas.List.Elements.{All-from_recursion, All-get_or}
use Rattle.kinds.specs.Kinds.{small}
use Rattle.kinds.specs.Meaning.{First}
use Rattle.plain.specs.declared.point.Key.{Key}
use Rattle.plain.specs.declared.point.Point.{Point}
use Rattle.plain.specs.Points.{key_order, Before}
use Rattle.plain.specs.Set.{Rising, weight_at, put}
use Rattle.plain.proofs.Keys.{same, tie, turned, before-carries, apart-back}
use Rattle.plain.proofs.Laws.{set-laws}
use Rattle.store.specs.Places.{StandsAt, GoesAt}

abbrev P : Type 0
P = Point ℕ Float

law : First small
law = search rules

-- each key is before those of the points that follow
rising-at : (ps : List P) (i j : ℕ) (d : P) → Rising small ps → i < j → j < length ps → Before small (get_or ps i d).key (get_or ps j d).key
rising-at [] i j d h lt len = absurd (omega arith)
rising-at (p ∷ ps) i zero d h lt len = absurd (omega arith)
rising-at (p ∷ ps) zero (suc j) d h lt len = All-get_or (λ q. Before small p.key q.key) ps j d (omega arith) (All-from_recursion (λ q. Before small p.key q.key) ps h.0)
rising-at (p ∷ ps) (suc i) (suc j) d h lt len = rising-at ps i j d h.1 (omega arith) (omega arith)

index-le : (o : Ordering) → ordering_index o ≤ 2
index-le Less = omega arith
index-le Equal = omega arith
index-le Greater = omega arith

-- the later of two keys is no earlier against a third
index-rises : (a b k : Key ℕ) → Before small a b → (o : Ordering) → key_order small b k ≡ o → ordering_index (key_order small a k) ≤ ordering_index o
index-rises a b k h Less e = omega (arith, ap ordering_index (before-carries small law a b k h e))
index-rises a b k h Equal e = omega (arith, ap ordering_index (subst (Before small a) (tie small law b k e) h))
index-rises a b k h Greater e = index-le (key_order small a k)

rises : (k : Key ℕ) (ps : List P) → Rising small ps → IsNonDecreasingBy (λ q. ordering_index (key_order small q.key k)) ps
rises k ps h i j d le len =
    ⊎_elim
    (λ same. omega (arith, ap (λ n. ordering_index (key_order small (get_or ps n d).key k)) same))
    (λ lt. index-rises _ _ k (rising-at ps i j d h lt len) _ refl)
    (eq-or-lt_of_le le)

-- ---- the key does not stand
put-at : (p : P) (ps : List P) (i : ℕ) → i ≤ length ps → AllWithin (λ q. key_order small q.key p.key ≡ Less) ps 0 i → AllWithin (λ q. key_order small q.key p.key ≡ Greater) ps i (length ps) → put small p ps ≡ take i ps ++ (p ∷ drop i ps)
put-at p [] zero le a b = refl
put-at p [] (suc i) le a b = absurd (omega arith)
put-at p (q ∷ qs) zero le a b = cond-true _ _ _ (ap is_lt (turned small law q.key p.key ∙ ap ordering_reverse (b 0 q (omega arith) (omega arith))))
put-at p (q ∷ qs) (suc i) le a b =
    cond-false _ _ _ (ap is_lt (turned small law q.key p.key ∙ ap ordering_reverse (a 0 q (omega arith) (omega arith))))
    ∙ ap (λ l. q ∷ l) (put-at p qs i (omega arith) (λ j d x y. a (suc j) d (omega arith) (omega arith)) (λ j d x y. b (suc j) d (omega arith) (omega arith)))

none-at : (k : Key ℕ) (ps : List P) → ((j : ℕ) (d : P) → j < length ps → is_eq (key_order small k (get_or ps j d).key) ≡ false) → weight_at small k ps ≡ None
none-at k [] h = refl
none-at k (q ∷ qs) h = cond-false _ _ _ (h 0 q (omega arith)) ∙ none-at k qs (λ j d lt. h (suc j) d (omega arith))

goes-at : (k : Key ℕ) (ps : List P) (i : ℕ) → i ≤ length ps → IsPartitionPoint (λ q. key_order small q.key k ≡ Less) (λ q. key_order small q.key k ≡ Greater) ps i → GoesAt k ps i
goes-at k ps i le h =
    let apart : (j : ℕ) (d : P) → j < length ps → is_eq (key_order small k (get_or ps j d).key) ≡ false =
    λ j d lt. ap is_eq (turned small law (get_or ps j d).key k) ∙ ⊎_elim (λ x. ap (λ o. is_eq (ordering_reverse o)) (h.0 j d (omega arith) x)) (λ x. ap (λ o. is_eq (ordering_reverse o)) (h.1 j d x lt)) (cases_lt j i)
    in record {
      within = le;
      missing = ap is_some (none-at k ps apart);
      puts = λ p e. put-at p ps i le (subst (λ x. AllWithin (λ q. key_order small q.key x ≡ Less) ps 0 i) (sym e) h.0) (subst (λ x. AllWithin (λ q. key_order small q.key x ≡ Greater) ps i (length ps)) (sym e) h.1);
    }

-- ---- the key stands
stands-at : (k : Key ℕ) (ps : List P) (i : ℕ) → i < length ps → ((d : P) → (get_or ps i d).key ≡ k) → ((j : ℕ) (d : P) → j < i → is_eq (key_order small k (get_or ps j d).key) ≡ false) → StandsAt k ps i
stands-at k [] i lt is apart = absurd (omega arith)
stands-at k (q ∷ qs) zero lt is apart =
    let e : is_eq (key_order small k q.key) ≡ true = ap (λ x. is_eq (key_order small k x)) (is q) ∙ ap is_eq (same small law k) in
    record {
      within = lt;
      found = ap is_some (cond-true _ _ _ e);
      removes = cond-true _ _ _ e;
      reweighs = λ w. cond-true _ _ _ e ∙ ap (λ (x : Key ℕ). record { key = x; weight = w } ∷ qs) (is q);
    }
stands-at k (q ∷ qs) (suc i) lt is apart =
    let e : is_eq (key_order small k q.key) ≡ false = apart 0 q (omega arith) in
    let r = stands-at k qs i (omega arith) is (λ j d x. apart (suc j) d (omega arith)) in
    record {
      within = lt;
      found = ap is_some (cond-false _ _ _ e) ∙ r.found;
      removes = cond-false _ _ _ e ∙ ap (λ l. q ∷ l) r.removes;
      reweighs = λ w. cond-false _ _ _ e ∙ ap (λ l. q ∷ l) (r.reweighs w);
    }

-- ---- what a binary search says
pub found : (k : Key ℕ) (ps : List P) → Rising small ps → (r : Result ℕ ℕ) → IsSearchInRange r (length ps) → IsBinarySearchResult (λ q. key_order small q.key k) ps r → MatchResult r (StandsAt k ps) (GoesAt k ps)
found k ps h (Ok i) lt e =
    let is : (d : P) → (get_or ps i d).key ≡ k = λ d. tie small law _ k (e d) in
    stands-at k ps i lt is (λ j d x. apart-back small law _ k (subst (Before small (get_or ps j d).key) (is d) (rising-at ps j i d h x lt)))
found k ps h (Err i) le point = goes-at k ps i le (point (rises k ps h))

-- ---- a search of the first points
top : (o : Ordering) → 2 ≤ ordering_index o → o ≡ Greater
top Less h = absurd (omega arith)
top Equal h = absurd (omega arith)
top Greater h = refl

-- the first n points are all, or the last of them is no earlier than the key
abbrev pub Reaches : (k : Key ℕ) (ps : List P) (n : ℕ) → Type 0
Reaches k ps n = n < length ps → (0 < n) × ((d : P) → is_lt (key_order small (get_or ps (n - 1) d).key k) ≡ false)

module _ (k : Key ℕ) (ps : List P) (n : ℕ) (h : Rising small ps) (le : n ≤ length ps) (reach : Reaches k ps n) where
  abbrev ord : P → Ordering
  ord q = key_order small q.key k

  -- the order, of the first n
  rises-near : IsNonDecreasingBy (λ q. ordering_index (ord q)) (take n ps)
  rises-near i j d ij len =
      let lt : j < n = omega (arith, length-take-le n ps le) in
      omega (arith, ap (λ q. ordering_index (ord q)) (get_or-take n ps i d (omega arith)), ap (λ q. ordering_index (ord q)) (get_or-take n ps j d lt), rises k ps h i j d ij (omega arith))

  -- past them each key is after k, if k does not stand
  beyond : (i : ℕ) → i ≤ n → IsPartitionPoint (λ q. ord q ≡ Less) (λ q. ord q ≡ Greater) (take n ps) i → (j : ℕ) (d : P) → n ≤ j → j < length ps → ord (get_or ps j d) ≡ Greater
  beyond i at part j d nj len =
      let r = reach (omega arith) in
      let last : n - 1 < n = omega (arith, r.0) in
      let here = get_or-take n ps (n - 1) d last in
      let e : ord (get_or ps (n - 1) d) ≡ Greater =
      ⊎_elim
      (λ x. absurd (true≢false (ap is_lt (sym (sym (ap ord here) ∙ part.0 (n - 1) d (omega arith) x)) ∙ r.1 d)))
      (λ x. sym (ap ord here) ∙ part.1 (n - 1) d x (omega (arith, length-take-le n ps le)))
      (cases_lt (n - 1) i) in
      top _ (omega (arith, ap ordering_index e, rises k ps h (n - 1) j d (omega arith) len))

  -- so what a search of them says, one of all says
  pub found_near : (r : Result ℕ ℕ) → IsSearchInRange r (length (take n ps)) → IsBinarySearchResult (λ q. key_order small q.key k) (take n ps) r → MatchResult r (StandsAt k ps) (GoesAt k ps)
  found_near (Ok i) lt e = found k ps h (Ok i) (omega (arith, length-take-le n ps le)) (λ d. sym (ap ord (get_or-take n ps i d (omega (arith, length-take-le n ps le)))) ∙ e d)
  found_near (Err i) at point =
      let in-near : i ≤ n = omega (arith, length-take-le n ps le) in
      let part = point rises-near in
      goes-at k ps i (omega arith) (
        λ j d x y. sym (ap ord (get_or-take n ps j d (omega arith))) ∙ part.0 j d x y,
        λ j d x y. ⊎_elim (λ lt. sym (ap ord (get_or-take n ps j d lt)) ∙ part.1 j d x (omega (arith, length-take-le n ps le))) (λ nj. beyond i in-near part j d nj y) (cases_lt j n),
      )

-- ---- what a change leaves rises
module _ (ps now : List P) (h : Rising small ps) where
  pub put_rises : (p : P) (i : ℕ) → GoesAt p.key ps i → now ≡ insert ps i p → Rising small now
  put_rises p i at e = subst (Rising small) (at.puts p refl ∙ sym e) ((set-laws small law).keeps.put_rises p ps at.missing h)

  pub remove_rises : (k : Key ℕ) (i : ℕ) → StandsAt k ps i → now ≡ removed ps i → Rising small now
  remove_rises k i at e = subst (Rising small) (at.removes ∙ sym e) ((set-laws small law).keeps.remove_rises k ps h)

  pub reweigh_rises : (k : Key ℕ) (w : Float) (i : ℕ) → StandsAt k ps i → now ≡ set ps i (record { key = k; weight = w }) → Rising small now
  reweigh_rises k w i at e = subst (Rising small) (at.reweighs w ∙ sym e) ((set-laws small law).keeps.reweigh_rises k w ps h)
