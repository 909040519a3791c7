-- What put, remove and reweigh keep and change.
use Rattle.std.proofs.Common.{◌≡◌, suc, Bool, true, false, cond, T, List, [], ◌∷◌, ◌++◌, length, is_some, Some, None, filter, Option, sym, refl, ap, ◌∙◌, subst}
use Rattle.std.specs.Ordering.{is_lt, is_eq}
use Rattle.std.specs.List.{AllByRecursion}
use Rattle.std.proofs.lemmas.Bool.{true≢false, not-false, cond_both, cond-true, cond-false}
use Rattle.kinds.specs.Meaning.{Meaning, First}
use Rattle.plain.specs.declared.point.Key.{Key}
use Rattle.plain.specs.declared.point.Point.{Point}
use Rattle.plain.specs.Points.{key_order, Before, FitPoint}
use Rattle.plain.specs.Set.{Rising, AllFit, weight_at, stands, put, remove, reweigh, not_after_last}
use Rattle.plain.proofs.Each.{each_weaker, each_kept}
use Rattle.plain.proofs.Keys.{tie, same, before-carries, after, apart, lt-less, eq-equal}

-- a filter keeps what rises
pub rising-kept : {C W R : Type 0} (m : Meaning C W R) (test : Point C W → Bool) (ps : List (Point C W)) → Rising m ps → Rising m (filter test ps)
rising-kept m test [] h = tt
rising-kept m test (p ∷ ps) h =
    elim (test p) as (λ b. Rising m (cond b (p ∷ filter test ps) (filter test ps))) [
      | true ↦ (each_kept test _ ps h.0, rising-kept m test ps h.1)
      | false ↦ rising-kept m test ps h.1
    ]

module _ {C W R : Type 0} (m : Meaning C W R) where
  abbrev P : Type 0
  P = Point C W

  -- ---- each point of the new list is the new one or an old one
  module _ (Q : P → Type 0) where
    pub all-put : (x : P) (ps : List P) → Q x → AllByRecursion Q ps → AllByRecursion Q (put m x ps)
    all-put x [] q h = (q, tt)
    all-put x (p ∷ ps) q h =
        elim (is_lt (key_order m x.key p.key)) as (λ b. AllByRecursion Q (cond b (x ∷ p ∷ ps) (p ∷ put m x ps))) [
          | true ↦ (q, h)
          | false ↦ (h.0, all-put x ps q h.1)
        ]

    pub all_remove : (k : Key C) (ps : List P) → AllByRecursion Q ps → AllByRecursion Q (remove m k ps)
    all_remove k [] h = tt
    all_remove k (p ∷ ps) h =
        elim (is_eq (key_order m k p.key)) as (λ b. AllByRecursion Q (cond b ps (p ∷ remove m k ps))) [
          | true ↦ h.1
          | false ↦ (h.0, all_remove k ps h.1)
        ]

    pub all-reweigh : (k : Key C) (w : W) (ps : List P) → ((p : P) → Q p → is_eq (key_order m k p.key) ≡ true → Q (record { key = p.key; weight = w })) → AllByRecursion Q ps → AllByRecursion Q (reweigh m k w ps)
    all-reweigh k w [] f h = tt
    all-reweigh k w (p ∷ ps) f h =
        cond_both (is_eq (key_order m k p.key)) (record { key = p.key; weight = w } ∷ ps) (p ∷ reweigh m k w ps) (AllByRecursion Q)
        (λ e. (f p h.0 e, h.1))
        (λ e. (h.0, all-reweigh k w ps f h.1))

  -- ---- lengths
  pub length-put : (x : P) (ps : List P) → length (put m x ps) ≡ suc (length ps)
  length-put x [] = refl
  length-put x (p ∷ ps) =
      elim (is_lt (key_order m x.key p.key)) as (λ b. length (cond b (x ∷ p ∷ ps) (p ∷ put m x ps)) ≡ suc (suc (length ps))) [
        | true ↦ refl
        | false ↦ ap suc (length-put x ps)
      ]

  pub length-remove : (k : Key C) (ps : List P) → stands m k ps ≡ true → suc (length (remove m k ps)) ≡ length ps
  length-remove k [] h = absurd (true≢false (sym h))
  length-remove k (p ∷ ps) h =
      (elim (is_eq (key_order m k p.key)) as (λ b. is_some (cond b (Some p.weight) (weight_at m k ps)) ≡ true → suc (length (cond b ps (p ∷ remove m k ps))) ≡ suc (length ps)) [
        | true ↦ λ s. refl
        | false ↦ λ s. ap suc (length-remove k ps s)
      ]) h

  pub length-reweigh : (k : Key C) (w : W) (ps : List P) → length (reweigh m k w ps) ≡ length ps
  length-reweigh k w [] = refl
  length-reweigh k w (p ∷ ps) =
      elim (is_eq (key_order m k p.key)) as (λ b. length (cond b (record { key = p.key; weight = w } ∷ ps) (p ∷ reweigh m k w ps)) ≡ suc (length ps)) [
        | true ↦ refl
        | false ↦ ap suc (length-reweigh k w ps)
      ]

  -- ---- fit points
  pub fit-put : (x : P) (ps : List P) → T (m.fit x.key.at x.weight) → AllFit m ps → AllFit m (put m x ps)
  fit-put x ps f h = all-put (FitPoint m) x ps f h

  pub fit-remove : (k : Key C) (ps : List P) → AllFit m ps → AllFit m (remove m k ps)
  fit-remove k ps h = all_remove (FitPoint m) k ps h

  module _ (law : First m) where
    pub fit-reweigh : (k : Key C) (w : W) (ps : List P) → T (m.fit k.at w) → AllFit m ps → AllFit m (reweigh m k w ps)
    fit-reweigh k w ps f h =
        all-reweigh (FitPoint m) k w ps
        (λ p q e. subst (λ (j : Key C). T (m.fit j.at w)) (tie m law k p.key (eq-equal _ e)) f) h

    -- ---- the order is kept
    pub rising-put : (x : P) (ps : List P) → stands m x.key ps ≡ false → Rising m ps → Rising m (put m x ps)
    rising-put x [] n h = (tt, tt)
    rising-put x (p ∷ ps) n h =
        cond_both (is_lt (key_order m x.key p.key)) (x ∷ p ∷ ps) (p ∷ put m x ps) (Rising m)
        (λ e. let b = lt-less _ e in ((b, each_weaker _ _ (λ q c. before-carries m law x.key p.key q.key b c) ps h.0), h))
        (λ e.
        let f = other p ps x n in
        (all-put (λ q. Before m p.key q.key) x ps (after m law x.key p.key e f.0) h.0, rising-put x ps f.1 h.1))
      where
        other : (p : P) (ps : List P) (x : P) → stands m x.key (p ∷ ps) ≡ false → (is_eq (key_order m x.key p.key) ≡ false) × (stands m x.key ps ≡ false)
        other p ps x n =
            (elim (is_eq (key_order m x.key p.key)) as (λ b. is_some (cond b (Some p.weight) (weight_at m x.key ps)) ≡ false → (b ≡ false) × (stands m x.key ps ≡ false)) [
              | true ↦ λ s. absurd (true≢false s)
              | false ↦ λ s. (refl, s)
            ]) n

    pub rising-remove : (k : Key C) (ps : List P) → Rising m ps → Rising m (remove m k ps)
    rising-remove k [] h = tt
    rising-remove k (p ∷ ps) h =
        elim (is_eq (key_order m k p.key)) as (λ b. Rising m (cond b ps (p ∷ remove m k ps))) [
          | true ↦ h.1
          | false ↦ (all_remove (λ q. Before m p.key q.key) k ps h.0, rising-remove k ps h.1)
        ]

    pub rising-reweigh : (k : Key C) (w : W) (ps : List P) → Rising m ps → Rising m (reweigh m k w ps)
    rising-reweigh k w [] h = tt
    rising-reweigh k w (p ∷ ps) h =
        elim (is_eq (key_order m k p.key)) as (λ b. Rising m (cond b (record { key = p.key; weight = w } ∷ ps) (p ∷ reweigh m k w ps))) [
          | true ↦ h
          | false ↦ (all-reweigh (λ q. Before m p.key q.key) k w ps (λ q b e. b) h.0, rising-reweigh k w ps h.1)
        ]

    -- what is after the last is after all
    pub after-all : (ps : List P) (k : Key C) → Rising m ps → not_after_last m ps k ≡ false → AllByRecursion (λ p. Before m p.key k) ps
    after-all [] k h e = tt
    after-all (p ∷ []) k h e = (lt-less (key_order m p.key k) (not-false (is_lt (key_order m p.key k)) e), tt)
    after-all (p ∷ q ∷ ps) k h e =
        let rest = after-all (q ∷ ps) k h.1 e in
        (before-carries m law p.key q.key k h.0.0 rest.0, rest)

    -- one point more at the end, as a load takes it
    pub rising-push : (ps : List P) (x : P) → Rising m ps → AllByRecursion (λ p. Before m p.key x.key) ps → Rising m (ps ++ (x ∷ []))
    rising-push [] x h b = (tt, tt)
    rising-push (p ∷ ps) x h b = (all_end ps h.0 b.0, rising-push ps x h.1 b.1)
      where
        all_end : (qs : List P) → AllByRecursion (λ q. Before m p.key q.key) qs → Before m p.key x.key → AllByRecursion (λ q. Before m p.key q.key) (qs ++ (x ∷ []))
        all_end [] a c = (c, tt)
        all_end (q ∷ qs) a c = (a.0, all_end qs a.1 c)

    -- ---- look-ups after each
    -- a key before all does not stand
    pub missing : (k : Key C) (ps : List P) → AllByRecursion (λ p. Before m k p.key) ps → weight_at m k ps ≡ None
    missing k [] h = refl
    missing k (p ∷ ps) h = cond-false (is_eq (key_order m k p.key)) _ _ (apart m law k p.key h.0) ∙ missing k ps h.1

    -- a look-up that is the new one's at one key, past a point of another key
    past : (a b : Bool) (y u v x : Option W) → (a ≡ true → b ≡ true → ⊥) → x ≡ cond b u v → cond a y x ≡ cond b u (cond a y v)
    past true true y u v x f e = absurd (f refl refl)
    past true false y u v x f e = refl
    past false true y u v x f e = e
    past false false y u v x f e = e

    nowhere : (b : Bool) → ◌≡◌ {A = Option W} None (cond b None None)
    nowhere true = refl
    nowhere false = refl

    -- one key is not two
    clash : (k p q : Key C) → is_eq (key_order m k p) ≡ false → is_eq (key_order m q p) ≡ true → is_eq (key_order m q k) ≡ true → ⊥
    clash k p q e a b =
        let f : k ≡ p = sym (tie m law q k (eq-equal _ b)) ∙ tie m law q p (eq-equal _ a) in
        true≢false (sym (ap is_eq (same m law k)) ∙ ap (λ (j : Key C). is_eq (key_order m k j)) f ∙ e)

    -- what is not found at the head or behind it
    not-here : (b : Bool) (y o : Option W) → is_some y ≡ true → cond b y o ≡ None → (b ≡ false) × (o ≡ None)
    not-here true y o s h = absurd (true≢false (sym s ∙ ap is_some h))
    not-here false y o s h = (refl, h)

    pub weight-put : (x : P) (ps : List P) (q : Key C) → weight_at m x.key ps ≡ None → weight_at m q (put m x ps) ≡ cond (is_eq (key_order m q x.key)) (Some x.weight) (weight_at m q ps)
    weight-put x [] q n = refl
    weight-put x (p ∷ ps) q n =
        let f = not-here (is_eq (key_order m x.key p.key)) (Some p.weight) (weight_at m x.key ps) refl n in
        let rest = weight-put x ps q f.1 in
        elim (is_lt (key_order m x.key p.key)) as (λ b. weight_at m q (cond b (x ∷ p ∷ ps) (p ∷ put m x ps)) ≡ cond (is_eq (key_order m q x.key)) (Some x.weight) (weight_at m q (p ∷ ps))) [
          | true ↦ refl
          | false ↦ past (is_eq (key_order m q p.key)) (is_eq (key_order m q x.key)) (Some p.weight) (Some x.weight) (weight_at m q ps) (weight_at m q (put m x ps)) (clash x.key p.key q f.0) rest
        ]

    gone : (b : Bool) (y o : Option W) → (b ≡ true → o ≡ None) → o ≡ cond b None (cond b y o)
    gone true y o f = f refl
    gone false y o f = refl

    pub weight-remove : (k : Key C) (ps : List P) (q : Key C) → Rising m ps → weight_at m q (remove m k ps) ≡ cond (is_eq (key_order m q k)) None (weight_at m q ps)
    weight-remove k [] q h = nowhere (is_eq (key_order m q k))
    weight-remove k (p ∷ ps) q h =
        let rest = weight-remove k ps q h.1 in
        cond_both (is_eq (key_order m k p.key)) ps (p ∷ remove m k ps) (λ (l : List P). weight_at m q l ≡ cond (is_eq (key_order m q k)) None (weight_at m q (p ∷ ps)))
        (λ e. subst (λ (j : Key C). weight_at m q ps ≡ cond (is_eq (key_order m q j)) None (weight_at m q (p ∷ ps))) (sym (tie m law k p.key (eq-equal _ e)))
        (gone (is_eq (key_order m q p.key)) (Some p.weight) (weight_at m q ps)
        (λ a. missing q ps (subst (λ (j : Key C). AllByRecursion (λ r. Before m j r.key) ps) (sym (tie m law q p.key (eq-equal _ a))) h.0))))
        (λ e. past (is_eq (key_order m q p.key)) (is_eq (key_order m q k)) (Some p.weight) None (weight_at m q ps) (weight_at m q (remove m k ps)) (clash k p.key q e) rest)

    over : (b s : Bool) (w : W) (y o : Option W) → s ≡ true → cond b (Some w) o ≡ cond b (cond s (Some w) None) (cond b y o)
    over true s w y o e = sym (cond-true s (Some w) None e)
    over false s w y o e = refl

    -- the key stands at the weight given, if it stood
    pub weight-reweigh : (k : Key C) (w : W) (ps : List P) (q : Key C) → weight_at m q (reweigh m k w ps) ≡ cond (is_eq (key_order m q k)) (cond (stands m k ps) (Some w) None) (weight_at m q ps)
    weight-reweigh k w [] q = nowhere (is_eq (key_order m q k))
    weight-reweigh k w (p ∷ ps) q =
        let rest = weight-reweigh k w ps q in
        cond_both (is_eq (key_order m k p.key)) (record { key = p.key; weight = w } ∷ ps) (p ∷ reweigh m k w ps)
        (λ (l : List P). weight_at m q l ≡ cond (is_eq (key_order m q k)) (cond (stands m k (p ∷ ps)) (Some w) None) (weight_at m q (p ∷ ps)))
        (λ e.
        over (is_eq (key_order m q p.key)) (stands m k (p ∷ ps)) w (Some p.weight) (weight_at m q ps) (ap is_some (cond-true (is_eq (key_order m k p.key)) (Some p.weight) (weight_at m k ps) e))
        ∙ ap (λ (j : Key C). cond (is_eq (key_order m q j)) (cond (stands m k (p ∷ ps)) (Some w) None) (weight_at m q (p ∷ ps))) (sym (tie m law k p.key (eq-equal _ e))))
        (λ e.
        past (is_eq (key_order m q p.key)) (is_eq (key_order m q k)) (Some p.weight) (cond (stands m k ps) (Some w) None) (weight_at m q ps) (weight_at m q (reweigh m k w ps)) (clash k p.key q e) rest
        ∙ ap (λ (s : Bool). cond (is_eq (key_order m q k)) (cond s (Some w) None) (weight_at m q (p ∷ ps))) (sym (ap is_some (cond-false (is_eq (key_order m k p.key)) (Some p.weight) (weight_at m k ps) e))))
