-- Free places: how one is taken, and how one is given back.
use Rattle.std.proofs.Common.{◌≡◌, ℕ, zero, suc, ◌+◌, ◌-◌, ◌<◌, ◌≤◌, List, [], ◌∷◌, ◌++◌, length, Some, sym, refl, ap, ◌∙◌, arith, length-append}
use Rattle.std.specs.List.{slice_get, AllByRecursion}
use Rattle.table.specs.declared.node.Node.{Node}
use Rattle.table.specs.declared.free.Free.{Free}
use Rattle.table.specs.Spares.{link_of, chain, row, spares}

length-row : (k p : ℕ) → length (row k p) ≡ k
length-row zero p = refl
length-row (suc k) p = ap suc (length-row k (suc p))

module _ {C R : Type 0} (ns : List (Node C R)) where
  -- the first of the chained places is taken
  pub take-chained : (f : Free) (n : Node C R) → 0 < f.chained → slice_get ns f.head ≡ Some n → spares ns f ≡ f.head ∷ spares ns (record { head = link_of (Some n); chained = f.chained - 1; fresh = f.fresh })
  take-chained f n some is = go f.chained some
    where
      go : (k : ℕ) → 0 < k → chain ns k f.head ++ row (length ns - f.fresh) f.fresh ≡ f.head ∷ (chain ns (k - 1) (link_of (Some n)) ++ row (length ns - f.fresh) f.fresh)
      go zero h = absurd (omega arith)
      go (suc k) h =
          let one : suc k - 1 ≡ k = omega arith in
          ap (λ (p : ℕ). f.head ∷ (chain ns k p ++ row (length ns - f.fresh) f.fresh)) (ap link_of is)
          ∙ ap (λ (j : ℕ). f.head ∷ (chain ns j (link_of (Some n)) ++ row (length ns - f.fresh) f.fresh)) (sym one)

  -- where none is chained, the first that was never used
  pub take-fresh : (f : Free) → f.chained ≡ 0 → 0 < length (spares ns f) → spares ns f ≡ f.fresh ∷ spares ns (record { head = f.head; chained = f.chained; fresh = f.fresh + 1 })
  take-fresh f empty some = go f.chained empty some
    where
      rows : (k p : ℕ) → 0 < k - p → row (k - p) p ≡ p ∷ row (k - (p + 1)) (p + 1)
      rows k p h =
          let e : k - p ≡ suc (k - (p + 1)) = omega arith in
          let s : suc p ≡ p + 1 = omega arith in
          ap (λ j. row j p) e ∙ ap (λ j. p ∷ row (k - (p + 1)) j) s

      go : (k : ℕ) → k ≡ 0 → 0 < length (chain ns k f.head ++ row (length ns - f.fresh) f.fresh) → chain ns k f.head ++ row (length ns - f.fresh) f.fresh ≡ f.fresh ∷ (chain ns k f.head ++ row (length ns - (f.fresh + 1)) (f.fresh + 1))
      go zero e h = rows (length ns) f.fresh (omega (arith, length-row (length ns - f.fresh) f.fresh))
      go (suc k) e h = absurd (omega arith)

  pub head-within : (f : Free) (P : ℕ → Type 0) → 0 < f.chained → AllByRecursion P (spares ns f) → P f.head
  head-within f P some all = go f.chained some all
    where
      go : (k : ℕ) → 0 < k → AllByRecursion P (chain ns k f.head ++ row (length ns - f.fresh) f.fresh) → P f.head
      go zero h a = absurd (omega arith)
      go (suc k) h a = a.0

-- ---- tables that agree at the free places have the same
module _ {C R : Type 0} (a b : List (Node C R)) where
  pub chain_same : (k p : ℕ) → AllByRecursion (λ q. slice_get b q ≡ slice_get a q) (chain a k p) → chain b k p ≡ chain a k p
  chain_same zero p s = refl
  chain_same (suc k) p s =
      ap (λ (q : ℕ). p ∷ chain b k q) (ap link_of s.0) ∙ ap (λ l. p ∷ l) (chain_same k (link_of (slice_get a p)) s.1)

  left : {X : Type 0} (P : X → Type 0) (xs ys : List X) → AllByRecursion P (xs ++ ys) → AllByRecursion P xs
  left P [] ys h = tt
  left P (x ∷ xs) ys h = (h.0, left P xs ys h.1)

  pub spares-same : (f : Free) → length b ≡ length a → AllByRecursion (λ q. slice_get b q ≡ slice_get a q) (spares a f) → spares b f ≡ spares a f
  spares-same f len s =
      ap (λ l. l ++ row (length b - f.fresh) f.fresh) (chain_same f.chained f.head (left (λ q. slice_get b q ≡ slice_get a q) (chain a f.chained f.head) _ s))
      ∙ ap (λ n. chain a f.chained f.head ++ row (n - f.fresh) f.fresh) len

  pub chained-few : (f : Free) → f.chained ≤ length (spares a f)
  chained-few f = omega (arith, length-append (chain a f.chained f.head) (row (length a - f.fresh) f.fresh), length-chain f.chained f.head)
    where
      length-chain : (k p : ℕ) → length (chain a k p) ≡ k
      length-chain zero p = refl
      length-chain (suc k) p = ap suc (length-chain k (link_of (slice_get a p)))

  -- a place given back heads the chain
  pub give-chained : (f : Free) (p : ℕ) (n : Node C R) → length b ≡ length a → slice_get b p ≡ Some n → link_of (Some n) ≡ f.head → AllByRecursion (λ q. slice_get b q ≡ slice_get a q) (spares a f)
      → spares b (record { head = p; chained = f.chained + 1; fresh = f.fresh }) ≡ p ∷ spares a f
  give-chained f p n len is link s =
      let one : f.chained + 1 ≡ suc f.chained = omega arith in
      ap (λ k. chain b k p ++ row (length b - f.fresh) f.fresh) one
      ∙ ap (λ (q : ℕ). p ∷ (chain b f.chained q ++ row (length b - f.fresh) f.fresh)) (ap link_of is ∙ link)
      ∙ ap (λ l. p ∷ l) (spares-same f len s)
