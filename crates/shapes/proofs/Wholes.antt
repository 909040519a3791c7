-- A whole tree, and its parts: sorted, with its degrees, and all points kept as they should.
use Rattle.std.proofs.Common.{ℕ, sym, refl, ap, subst, append-nil, arith}
use base.Stored.{Coded}
use Rattle.kinds.specs.Meaning.{Meaning, First, Second}
use Rattle.trees.specs.Tree.{Tree, none, more, points}
use Rattle.trees.specs.Rules.{Degrees, Rules}
use Rattle.trees.specs.Heap.{total, Full, Heap, Good, Sorted}
use Rattle.kept.proofs.Tells.{rules-hold}
use Rattle.kept.proofs.Backs.{heap-holds, rules-sorted}
use Rattle.shapes.specs.Settles.{Whole}

module _ {C W R : Type 0} (m : Meaning C W R) where
  -- no tree
  pub whole-none : (h : ℕ) → Whole m h none
  whole-none h = record {
    holds = record { one = omega arith; fine = record { level = tt; degrees = tt; keyed = tt } };
    good = (tt, tt);
    heap = tt;
    full = λ g. refl;
  }

  -- one tree
  pub whole-one : (h : ℕ) (t : Tree C W) → Sorted m h t → Degrees t 2 4 → Heap m t → Full t → Whole m h (more t none)
  whole-one h t s d hp full = record {
    holds = record { one = omega arith; fine = record { level = (s.level, tt); degrees = (d, tt); keyed = (s.keyed, tt) } };
    good = subst (Good m) (sym (append-nil (points t))) s.good;
    heap = (hp, tt);
    full = λ g. omega (arith, full g, ap (total g) (append-nil (points t)));
  }

  pub whole-sorted : (h : ℕ) (t : Tree C W) → Whole m h (more t none) → Sorted m h t
  whole-sorted h t w = record { level = w.holds.fine.level.0; keyed = w.holds.fine.keyed.0; good = subst (Good m) (append-nil (points t)) w.good }

  pub whole-full : (h : ℕ) (t : Tree C W) → Whole m h (more t none) → Full t
  whole-full h t w = λ g. omega (arith, w.full g, ap (total g) (append-nil (points t)))

module _ {C W R : Type 0} (m : Meaning C W R) (first : First m) (second : Second m) (kc : Coded C) (kw : Coded W) where
  -- the rules of the tree, which say the same
  pub whole-rules : (h : ℕ) (t : Tree C W) → Whole m h (more t none) → Rules m 2 4 h t
  whole-rules h t w = rules-hold m first second kc kw 2 4 h t (whole-sorted m h t w) w.holds.fine.degrees.0 w.heap.0 (whole-full m h t w)

  pub rules-whole : (h : ℕ) (t : Tree C W) → Rules m 2 4 h t → Whole m h (more t none)
  rules-whole h t r = let (hp, full) = heap-holds m first second kc kw 2 4 h t r in whole-one m h t (rules-sorted m 2 4 h t r) r.degrees hp full
