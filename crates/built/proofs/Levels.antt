-- Level upon level, until one tree is left.
use Rattle.std.proofs.Common.{◌≡◌, ℕ, zero, suc, ◌+◌, ◌-◌, ◌*◌, ◌^◌, ◌≤◌, leb, refl, ◌∙◌, le_trans, mul_assoc, mul-le-mul_left, pow-suc, mul-one, arith}
use Rattle.std.proofs.lemmas.Bool.{cond_both, leb-true, leb-false}
use Rattle.kinds.specs.Meaning.{Meaning, First, Second}
use Rattle.plain.specs.declared.point.Key.{Key}
use Rattle.trees.specs.Tree.{Forest, count}
use Rattle.trees.specs.Rules.{LevelAll, DegreesAll, KeyedAll}
use Rattle.trees.specs.Heap.{HeapAll, SortedAll}
use Rattle.built.specs.Build.{parents, levels, Laid, Built, Carried}
use Rattle.built.proofs.Rows.{occurs-row}
use Rattle.built.proofs.Parents.{parents-laid}
use Rattle.built.proofs.Carries.{laid-sorted, parents-carried}

module _ {C W : Type 0} where
  built-done : (h p : ℕ) (ts : Forest C W) → count ts ≤ 1 → LevelAll ts h → DegreesAll ts 2 4 → KeyedAll ts → Built h p ts ts h p
  built-done h p ts c l d y =
      let z : p - p ≡ 0 = omega arith in
      record {
        one = c;
        some = λ n. n;
        level = l;
        degrees = d;
        keyed = y;
        same = refl;
        onward = omega arith;
        places = λ q. rw z (omega arith);
        nodes = omega arith;
        few = λ n. omega arith;
        low = λ n. let e : count ts ≡ 1 = omega arith in rw (e, mul-one) (omega arith);
      }

  -- a level, and what is built over it
  built-more : (h p : ℕ) (ts us vs : Forest C W) (i e : ℕ) → 2 ≤ count ts → Laid h p ts us → Built (suc h) (p + count us) us vs i e → Built h p ts vs i e
  built-more h p ts us vs i e c l b =
      let n = l.some (omega arith) in
      let half = l.halved in
      let on = b.onward in
      let z : e - p ≡ count us + (e - (p + count us)) = omega arith in
      let twice : 2 ^ suc h * count us ≡ 2 ^ h * (2 * count us) = rw (pow-suc, mul_assoc) in
      record {
        one = b.one;
        some = λ _. b.some n;
        level = b.level;
        degrees = b.degrees;
        keyed = b.keyed;
        same = b.same ∙ l.same;
        onward = omega arith;
        places = λ q. rw z (omega (arith, b.places q, l.places q, occurs-row q (count us) (e - (p + count us)) p));
        nodes = omega (arith, b.nodes, l.nodes);
        few = λ _. omega (arith, b.few n);
        low = λ _. le_trans (b.low n) (rw twice (mul-le-mul_left (2 ^ h) half));
      }

module _ {C W R : Type 0} (m : Meaning C W R) where
  pub levels-built : (n h p : ℕ) (k : Key C) (ts : Forest C W) → count ts ≤ suc n → LevelAll ts h → DegreesAll ts 2 4 → KeyedAll ts →
      let r = levels m n h p k ts in Built h p ts r.0 r.1 r.2
  levels-built zero h p k ts c l d y = built-done h p ts c l d y
  levels-built (suc n) h p k ts c l d y =
      let us = parents m (count ts) h p k ts in
      cond_both {A = Forest C W × ℕ × ℕ} (leb (count ts) 1) (ts, h, p) (levels m n (suc h) (p + count us) k us) (λ r. Built h p ts r.0 r.1 r.2)
      (λ e. built-done h p ts (leb-true (count ts) 1 e) l d y)
      (λ e.
      let two : 2 ≤ count ts = leb-false (count ts) 1 e in
      let a = parents-laid m (count ts) h p k ts (omega arith) (λ z. omega arith) l d y in
      let half = a.halved in
      let r = levels m n (suc h) (p + count us) k us in
      built-more h p ts us r.0 r.1 r.2 two a (levels-built n (suc h) (p + count us) k us (omega arith) a.level a.degrees a.keyed))

module _ {C W R : Type 0} (m : Meaning C W R) (first : First m) (second : Second m) where
  pub levels-carried : (n h p : ℕ) (k : Key C) (ts : Forest C W) → DegreesAll ts 2 4 → SortedAll m h ts → HeapAll m ts → Carried m ts (levels m n h p k ts).0
  levels-carried zero h p k ts d s hp = record { heap = hp; tallied = λ f. refl }
  levels-carried (suc n) h p k ts d s hp =
      let us = parents m (count ts) h p k ts in
      cond_both {A = Forest C W × ℕ × ℕ} (leb (count ts) 1) (ts, h, p) (levels m n (suc h) (p + count us) k us) (λ r. Carried m ts r.0)
      (λ e. record { heap = hp; tallied = λ f. refl })
      (λ e.
      let two : 2 ≤ count ts = leb-false (count ts) 1 e in
      let a = parents-laid m (count ts) h p k ts (omega arith) (λ z. omega arith) s.level d s.keyed in
      let b = parents-carried m first second (count ts) h p k ts (omega arith) s hp in
      let c = levels-carried n (suc h) (p + count us) k us a.degrees (laid-sorted m h p ts us a s) b.heap in
      record { heap = c.heap; tallied = λ f. c.tallied f ∙ b.tallied f })
