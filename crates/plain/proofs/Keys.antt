-- Key order is total, carries over, and ties only a key with itself.
use Rattle.std.proofs.Common.{◌≡◌, true, false, T, Ordering, Less, Equal, Greater, sym, refl, ap, ◌∙◌, subst}
use Rattle.std.specs.Ordering.{is_le, is_eq, is_lt, ordering_reverse}
use Rattle.std.proofs.lemmas.Bool.{true≢false, false≢true}
use Rattle.kinds.specs.Order.{Preorder, IsAny}
use Rattle.kinds.specs.Meaning.{Meaning, First}
use Rattle.kinds.specs.Orders.{and_then, through, by_number_lem, then_tie, number-tie}
use Rattle.plain.specs.declared.point.Key.{Key}
use Rattle.plain.specs.Points.{key_order, Before}

-- ---- answers
pub lt-less : (o : Ordering) → is_lt o ≡ true → o ≡ Less
lt-less Less h = refl
lt-less Equal h = absurd (false≢true h)
lt-less Greater h = absurd (false≢true h)

pub eq-equal : (o : Ordering) → is_eq o ≡ true → o ≡ Equal
eq-equal Less h = absurd (false≢true h)
eq-equal Equal h = refl
eq-equal Greater h = absurd (false≢true h)

pub neither : (o : Ordering) → is_lt o ≡ false → is_eq o ≡ false → o ≡ Greater
neither Less h k = absurd (true≢false h)
neither Equal h k = absurd (true≢false k)
neither Greater h k = refl

itself : (o : Ordering) → o ≡ ordering_reverse o → o ≡ Equal
itself Less h = absurd (true≢false (ap is_lt h))
itself Equal h = refl
itself Greater h = absurd (false≢true (ap is_lt h))

at_most : (o : Ordering) → T (is_le o) → (o ≡ Equal → ⊥) → o ≡ Less
at_most Less h k = refl
at_most Equal h k = absurd (k refl)
at_most Greater h k = absurd h

module _ {C W R : Type 0} (m : Meaning C W R) (law : First m) where
  pub keys : Preorder IsAny (key_order m)
  keys = and_then (through (λ (a : Key C). a.at) law.orders) (through (λ (a : Key C). a.number) by_number_lem)

  pub tie : (a b : Key C) → key_order m a b ≡ Equal → a ≡ b
  tie a b h =
      let t = then_tie _ _ h in
      λ i. record { at = law.ties a.at b.at t.0 i; number = number-tie a.number b.number t.1 i }

  pub same : (a : Key C) → key_order m a a ≡ Equal
  same a = itself (key_order m a a) (keys.turned a a tt tt)

  pub turned : (a b : Key C) → key_order m b a ≡ ordering_reverse (key_order m a b)
  turned a b = keys.turned a b tt tt

  pub before-carries : (a b c : Key C) → Before m a b → Before m b c → Before m a c
  before-carries a b c h k =
      at_most (key_order m a c)
      (keys.carries a b c tt tt tt (subst (λ o. T (is_le o)) (sym h) tt) (subst (λ o. T (is_le o)) (sym k) tt))
      (λ e. false≢true (ap is_lt (sym (ap ordering_reverse h) ∙ sym (turned a b) ∙ ap (key_order m b) (tie a c e) ∙ k)))

  -- what is not before and is not the same is after
  pub after : (a b : Key C) → is_lt (key_order m a b) ≡ false → is_eq (key_order m a b) ≡ false → Before m b a
  after a b h k = turned a b ∙ ap ordering_reverse (neither (key_order m a b) h k)

  -- of keys one of which is before the other, neither is the other
  pub apart : (a b : Key C) → Before m a b → is_eq (key_order m a b) ≡ false
  apart a b h = ap is_eq h

  pub apart-back : (a b : Key C) → Before m a b → is_eq (key_order m b a) ≡ false
  apart-back a b h = ap is_eq (turned a b ∙ ap ordering_reverse h)
