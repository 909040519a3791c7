-- Preorders: from numbers, turned round, through a function, and one after another.
use Rattle.std.specs.Prelude.{◌≡◌, ℕ, ◌≤◌, T, ◌⊎◌, refl}
use Rattle.std.specs.declared.cmp.Ordering.TheVariants.{Less, Equal, Greater}
use Rattle.std.specs.declared.cmp.Ordering.{Ordering}
use Rattle.std.proofs.Common.{sym, ap, ◌∙◌, subst, inl, inr, arith}
use Rattle.std.proofs.lemmas.Bool.{true≢false, false≢true}
use Rattle.std.proofs.lemmas.Bool.Decides.{nat_tests}
use Rattle.std.specs.Ordering.{is_le, is_lt, ordering_reverse, ordering_then}
use Rattle.kinds.specs.Order.{by_number, Preorder, IsAny}

pub number-le : (a b : ℕ) → T (is_le (by_number a b)) → a ≤ b
number-le a b h = grind (arith, nat_tests)

pub le-number : (a b : ℕ) → a ≤ b → T (is_le (by_number a b))
le-number a b h = grind (arith, nat_tests)

pub number-total : (a b : ℕ) → T (is_le (by_number a b)) ⊎ T (is_le (by_number b a))
number-total a b = grind (arith, nat_tests)

pub number-turned : (a b : ℕ) → by_number b a ≡ ordering_reverse (by_number a b)
number-turned a b = grind (arith, nat_tests)

pub number-tie : (a b : ℕ) → by_number a b ≡ Equal → a ≡ b
number-tie a b h = grind (arith, nat_tests)

pub by_number_lem : Preorder IsAny by_number
by_number_lem = record {
  total = λ a b p q. number-total a b;
  carries = λ a b c p q r h k. le-number a c (omega (arith, number-le a b h, number-le b c k));
  turned = λ a b p q. number-turned a b;
}

module _ {A : Type 0} {P : A → Type 0} {o : A → A → Ordering} (pre : Preorder P o) where
  pub backward : Preorder P (λ a b. o b a)
  backward = record {
    total = λ a b p q. pre.total b a q p;
    carries = λ a b c p q r h k. pre.carries c b a r q p k h;
    turned = λ a b p q. pre.turned b a q p;
  }

  pub among : {Q : A → Type 0} → ((a : A) → Q a → P a) → Preorder Q o
  among f = record {
    total = λ a b p q. pre.total a b (f a p) (f b q);
    carries = λ a b c p q r h k. pre.carries a b c (f a p) (f b q) (f c r) h k;
    turned = λ a b p q. pre.turned a b (f a p) (f b q);
  }

pub through : {A B : Type 0} {P : B → Type 0} {o : B → B → Ordering} (f : A → B) → Preorder P o → Preorder (λ (x : A). P (f x)) (λ (x y : A). o (f x) (f y))
through f pre = record {
  total = λ a b p q. pre.total (f a) (f b) p q;
  carries = λ a b c p q r h k. pre.carries (f a) (f b) (f c) p q r h k;
  turned = λ a b p q. pre.turned (f a) (f b) p q;
}

-- ---- one order, and on a tie another
then-turned : (x x' y y' : Ordering) → x' ≡ ordering_reverse x → y' ≡ ordering_reverse y → ordering_then x' y' ≡ ordering_reverse (ordering_then x y)
then-turned Less x' y y' p q = ap (λ z. ordering_then z y') p
then-turned Equal x' y y' p q = ap (λ z. ordering_then z y') p ∙ q
then-turned Greater x' y y' p q = ap (λ z. ordering_then z y') p

-- either way, since an exchange turns the answer round
pub turned-total : (x x' : Ordering) → x' ≡ ordering_reverse x → T (is_le x) ⊎ T (is_le x')
turned-total Less x' p = inl tt
turned-total Equal x' p = inl tt
turned-total Greater x' p = inr (subst (λ z. T (is_le z)) (sym p) tt)

-- ab, bc and ac are the answers of the first order, and AB, BC, AC those of the second
then-carries : (ab bc ac AB BC AC : Ordering) → (T (is_le ab) → T (is_le bc) → T (is_le ac)) → (T (is_le (ordering_reverse ac)) → T (is_le ab) → T (is_le (ordering_reverse bc)))
    → (T (is_le bc) → T (is_le (ordering_reverse ac)) → T (is_le (ordering_reverse ab))) → (T (is_le AB) → T (is_le BC) → T (is_le AC))
    → T (is_le (ordering_then ab AB)) → T (is_le (ordering_then bc BC)) → T (is_le (ordering_then ac AC))
then-carries Less Less Less AB BC AC p q r s h k = tt
then-carries Less Less Equal AB BC AC p q r s h k = absurd (q tt tt)
then-carries Less Less Greater AB BC AC p q r s h k = p tt tt
then-carries Less Equal Less AB BC AC p q r s h k = tt
then-carries Less Equal Equal AB BC AC p q r s h k = absurd (r tt tt)
then-carries Less Equal Greater AB BC AC p q r s h k = p tt tt
then-carries Less Greater ac AB BC AC p q r s h k = absurd k
then-carries Equal Less Less AB BC AC p q r s h k = tt
then-carries Equal Less Equal AB BC AC p q r s h k = absurd (q tt tt)
then-carries Equal Less Greater AB BC AC p q r s h k = p tt tt
then-carries Equal Equal Less AB BC AC p q r s h k = tt
then-carries Equal Equal Equal AB BC AC p q r s h k = s h k
then-carries Equal Equal Greater AB BC AC p q r s h k = p tt tt
then-carries Equal Greater ac AB BC AC p q r s h k = absurd k
then-carries Greater bc ac AB BC AC p q r s h k = absurd h

module _ {A : Type 0} {P : A → Type 0} {o O : A → A → Ordering} (f : Preorder P o) (g : Preorder P O) where
  then-turn : (a b : A) → P a → P b → ordering_then (o b a) (O b a) ≡ ordering_reverse (ordering_then (o a b) (O a b))
  then-turn a b p q = then-turned (o a b) (o b a) (O a b) (O b a) (f.turned a b p q) (g.turned a b p q)

  -- at most, the other way round
  over : (a b : A) → P a → P b → T (is_le (ordering_reverse (o a b))) → T (is_le (o b a))
  over a b p q h = subst (λ z. T (is_le z)) (sym (f.turned a b p q)) h

  under : (a b : A) → P a → P b → T (is_le (o b a)) → T (is_le (ordering_reverse (o a b)))
  under a b p q h = subst (λ z. T (is_le z)) (f.turned a b p q) h

  pub and_then : Preorder P (λ a b. ordering_then (o a b) (O a b))
  and_then = record {
    total = λ a b p q. turned-total (ordering_then (o a b) (O a b)) (ordering_then (o b a) (O b a)) (then-turn a b p q);
    carries = λ a b c p q r h k. then-carries (o a b) (o b c) (o a c) (O a b) (O b c) (O a c)
        (f.carries a b c p q r)
        (λ x y. under b c q r (f.carries c a b r p q (over a c p r x) y))
        (λ x y. under a b p q (f.carries b c a q r p x (over a c p r y)))
        (g.carries a b c p q r) h k;
    turned = λ a b p q. then-turn a b p q;
  }

pub then_tie : (x y : Ordering) → ordering_then x y ≡ Equal → (x ≡ Equal) × (y ≡ Equal)
then_tie Less y h = absurd (true≢false (ap is_lt h))
then_tie Equal y h = (refl, h)
then_tie Greater y h = absurd (false≢true (ap is_le h))
