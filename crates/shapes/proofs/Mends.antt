-- The ways to mend a fork of which one child may have too few children, and where the neighbours stand.
use Rattle.std.proofs.Common.{◌≡◌, ℕ, suc, ◌+◌, ◌-◌, ◌<◌, ◌≤◌, true, false, eqb, leb, List, Option, sym, refl, ap, ◌∙◌, subst, arith}
use Rattle.std.proofs.lemmas.Bool.{cond_both, leb-true, leb-false, ne_eqb}
use Rattle.kinds.specs.Meaning.{Meaning}
use Rattle.plain.specs.declared.point.Key.{Key}
use Rattle.plain.specs.declared.point.Point.{Point}
use Rattle.trees.specs.Tree.{Tree, Forest, fork, none, more, ◌⊕◌, front, back, count, nth_tree, children_of}
use Rattle.trees.specs.Moves.{exchange, first_key, joined, mended}
use Rattle.trees.proofs.Forests.{count-⊕, assoc-⊕}

module _ {C W : Type 0} where
  -- ---- the tree after the first ones, and those after it
  pub back-zero : (ts : Forest C W) → back 0 ts ≡ ts
  back-zero none = refl
  back-zero (more t ts) = refl

  pub nth-⊕ : (ls : Forest C W) (t : Tree C W) (ts : Forest C W) → nth_tree (count ls) (ls ⊕ more t ts) ≡ t
  nth-⊕ none t ts = refl
  nth-⊕ (more l ls) t ts = nth-⊕ ls t ts

  pub next-⊕ : (ls : Forest C W) (t u : Tree C W) (ts : Forest C W) → nth_tree (suc (count ls)) (ls ⊕ more t (more u ts)) ≡ u
  next-⊕ none t u ts = refl
  next-⊕ (more l ls) t u ts = next-⊕ ls t u ts

  pub front-⊕ : (ls ts : Forest C W) → front (count ls) (ls ⊕ ts) ≡ ls
  front-⊕ none none = refl
  front-⊕ none (more t ts) = refl
  front-⊕ (more l ls) ts = ap (more l) (front-⊕ ls ts)

  after_two : (ls : Forest C W) (t u : Tree C W) (ts : Forest C W) → back (suc (suc (count ls))) (ls ⊕ more t (more u ts)) ≡ ts
  after_two none t u ts = back-zero ts
  after_two (more l ls) t u ts = after_two ls t u ts

  pub exchange-two : (ls us : Forest C W) (t u : Tree C W) (ts : Forest C W) → exchange (count ls) 2 us (ls ⊕ more t (more u ts)) ≡ ls ⊕ (us ⊕ ts)
  exchange-two ls us t u ts =
      let e : count ls + 2 ≡ suc (suc (count ls)) = omega arith in
      let f = front-⊕ ls (more t (more u ts)) in
      let g : back (count ls + 2) (ls ⊕ more t (more u ts)) ≡ ts = ap (λ n. back n (ls ⊕ more t (more u ts))) e ∙ after_two ls t u ts in
      λ i. f i ⊕ (us ⊕ g i)

  -- the last of some trees
  pub unlast : (l : Tree C W) (ls : Forest C W) → (ms : Forest C W) × (n : Tree C W) × (more l ls ≡ ms ⊕ more n none)
  unlast l none = (none, l, refl)
  unlast l (more k ls) = let (ms, n, e) = unlast k ls in (more l ms, n, ap (more l) e)

-- a fork at p, with the places that are free then
abbrev pub built : {C W : Type 0} → ℕ → Key C → Option (Point C W) → Forest C W → List ℕ → Tree C W × List ℕ
built p k o us rs = (fork p (first_key k us) o us, rs)

module _ {C W R : Type 0} (m : Meaning C W R) (a b h p : ℕ) (k : Key C) (o : Option (Point C W)) (qs : List ℕ) where
  abbrev poor : ℕ → Forest C W → Tree C W × List ℕ
  poor i ts =
      let u = joined m b h k (eqb i 0) (nth_tree (i - 1) ts) (nth_tree (suc (i - 1)) ts) qs in
      built p k o (exchange (i - 1) 2 u.0 ts) u.1

  poor-later : (s : Forest C W) (n t : Tree C W) (r : Forest C W) → poor (suc (count s)) (s ⊕ more n (more t r)) ≡ built p k o (s ⊕ ((joined m b h k false n t qs).0 ⊕ r)) (joined m b h k false n t qs).1
  poor-later s n t r =
      let ts = s ⊕ more n (more t r) in
      let e : suc (count s) - 1 ≡ count s = omega arith in
      let f : eqb (suc (count s)) 0 ≡ false = ne_eqb (suc (count s)) 0 (λ z. omega arith) in
      let x : nth_tree (suc (count s) - 1) ts ≡ n = ap (λ j. nth_tree j ts) e ∙ nth-⊕ s n (more t r) in
      let y : nth_tree (suc (suc (count s) - 1)) ts ≡ t = ap (λ j. nth_tree (suc j) ts) e ∙ next-⊕ s n t r in
      (λ i. built p k o (exchange (e i) 2 (joined m b h k (f i) (x i) (y i) qs).0 ts) (joined m b h k (f i) (x i) (y i) qs).1)
      ∙ ap (λ us. built p k o us (joined m b h k false n t qs).1) (exchange-two s (joined m b h k false n t qs).0 n t r)

  module _ (P : Tree C W × List ℕ → Type 0) where
    poor-cases : (l : Forest C W) (t : Tree C W) (r : Forest C W) → 1 ≤ count l + count r
        → ((n : Tree C W) (s : Forest C W) → l ≡ none → r ≡ more n s → P (built p k o ((joined m b h k true t n qs).0 ⊕ s) (joined m b h k true t n qs).1))
        → ((n : Tree C W) (s : Forest C W) → l ≡ s ⊕ more n none → P (built p k o (s ⊕ ((joined m b h k false n t qs).0 ⊕ r)) (joined m b h k false n t qs).1))
        → P (poor (count l) (l ⊕ more t r))
    poor-cases none t none two first later = absurd (omega arith)
    poor-cases none t (more n s) two first later =
        subst (λ v. P (built p k o ((joined m b h k true t n qs).0 ⊕ v) (joined m b h k true t n qs).1)) (sym (back-zero s)) (first n s refl refl)
    poor-cases (more x xs) t r two first later =
        let (s, n, e) = unlast x xs in
        let c : count (more x xs) ≡ suc (count s) = ap count e ∙ count-⊕ s (more n none) ∙ omega arith in
        let f : more x xs ⊕ more t r ≡ s ⊕ more n (more t r) = ap (λ v. v ⊕ more t r) e ∙ assoc-⊕ s (more n none) (more t r) in
        subst P (sym ((λ i. poor (c i) (f i)) ∙ poor-later s n t r)) (later n s e)

    pub mended-cases : (i : ℕ) (l : Forest C W) (t : Tree C W) (r : Forest C W) → i ≡ count l → 1 ≤ count l + count r
        → (a ≤ count (children_of t) → P (built p k o (l ⊕ more t r) qs))
        → (count (children_of t) < a → (n : Tree C W) (s : Forest C W) → l ≡ none → r ≡ more n s → P (built p k o ((joined m b h k true t n qs).0 ⊕ s) (joined m b h k true t n qs).1))
        → (count (children_of t) < a → (n : Tree C W) (s : Forest C W) → l ≡ s ⊕ more n none → P (built p k o (s ⊕ ((joined m b h k false n t qs).0 ⊕ r)) (joined m b h k false n t qs).1))
        → P (mended m a b h p k o i (l ⊕ more t r) qs)
    mended-cases i l t r e two rich first later =
        let ts = l ⊕ more t r in
        let at : count (children_of (nth_tree (count l) ts)) ≡ count (children_of t) = ap (λ u. count (children_of u)) (nth-⊕ l t r) in
        subst (λ j. P (mended m a b h p k o j ts qs)) (sym e)
        (cond_both {A = Tree C W × List ℕ} (leb a (count (children_of (nth_tree (count l) ts)))) (built p k o ts qs) (poor (count l) ts) P
        (λ v. rich (omega (arith, at, leb-true a (count (children_of (nth_tree (count l) ts))) v)))
        (λ v.
        let lt : count (children_of t) < a = omega (arith, at, leb-false a (count (children_of (nth_tree (count l) ts))) v) in
        poor-cases l t r two (first lt) (later lt)))
