-- A leaf more below a full node, which is split.
use Rattle.std.proofs.Common.{◌≡◌, ℕ, suc, ◌+◌, ◌-◌, ◌<◌, ◌≤◌, leb, List, [], ◌∷◌, ◌++◌, length, get_or, take, drop, Some, sym, ap, ◌∙◌, subst, append_assoc, arith, length-append, length-drop, length-take}
use borrow.Author.Tests.{lt-leb}
use Rattle.std.specs.List.{slice_get}
use Rattle.std.proofs.lemmas.List.{take_more, drop_more, take-append-drop}
use Rattle.std.proofs.lemmas.Bool.{cond-false}
use Rattle.kinds.specs.Meaning.{Meaning}
use Rattle.plain.specs.declared.point.Point.{Point}
use Rattle.trees.specs.Tree.{Forest, none, more, grow, hit, uses, uses_all, count, front, back, ◌⊕◌}
use Rattle.trees.specs.Moves.{settled, inserted, divided, halves, seated}
use Rattle.trees.proofs.Forests.{uses-⊕, front-back}
use Rattle.trees.proofs.Bares.{alike-uses_all, seated-bare}
use Rattle.shapes.specs.Shape.{occurs, Fine}
use Rattle.shapes.proofs.Forks.{fine-left, fine-right, halves-bare, pair, pair-uses}
use Rattle.table.specs.declared.node.Node.{Node}
use Rattle.table.specs.declared.free.Free.{Free}
use Rattle.table.specs.Spares.{spares}
use Rattle.table.specs.Reading.{kept_in, tree_at, inside, Sounds}
use Rattle.table.specs.Keys.{key_in}
use Rattle.table.proofs.Frames.{count-grow, front-grow, back-grow}
use Rattle.table.proofs.Steps.{inside_one, kids, below}
use Rattle.tree.specs.Places.{pick_at}
use Rattle.tree.proofs.Spared.{spares-kept}
use Rattle.grow.specs.Grown.{Ready, Inserted, most, half}
use Rattle.grow.specs.Split.{with_next, under, Apart, Split}
use Rattle.grow.proofs.Forked.{fine-sounds, was, grown, grown_forest, fine-now, apart-now, trees-now, frame-now, inserted-is}

-- the places with one more after number i
pub next-places : (i q : ℕ) (ks : List ℕ) → i < length ks → with_next i q ks ≡ take i ks ++ ((get_or ks i 0 ∷ q ∷ []) ++ drop (i + 1) ks)
next-places i q ks lt = ap (λ l. l ++ (q ∷ drop (i + 1) ks)) (take_more ks i 0 lt) ∙ append_assoc (take i ks) (get_or ks i 0 ∷ []) (q ∷ drop (i + 1) ks)

-- the places as they were
pub same-places : (i : ℕ) (ks : List ℕ) → i < length ks → ks ≡ take i ks ++ ((get_or ks i 0 ∷ []) ++ drop (i + 1) ks)
same-places i ks lt = sym (take-append-drop i ks) ∙ ap (λ l. take i ks ++ l) (drop_more ks i 0 lt)

module _ {C W R : Type 0} {m : Meaning C W R} {a : List (Node C R)} {f : Free} {h at : ℕ} (r : Ready m a f (suc h) at) {n : Node C R} (is : slice_get a at ≡ Some n)
    (i : ℕ) (lt : i < length (kids m n)) (x : Point C W) {b : List (Node C R)} {g : Free} {q : ℕ} (ins : Inserted m a b f g h (get_or (kids m n) i 0) x (Some q)) (len : length b ≡ length a)
    (full : length (kids m n) ≡ 4) (g' : Free) {next : ℕ} (took : spares b g ≡ next ∷ spares b g') where
  abbrev wider_forest : Forest C W
  wider_forest = grown_forest r is i lt x

  abbrev ps : List ℕ
  ps = with_next i q (kids m n)

  abbrev rest : List ℕ
  rest = (grown r is i lt x).1

  trees : grow (tree_at m b h) ps ≡ wider_forest
  trees = ap (grow (tree_at m b h)) (next-places i q (kids m n) lt) ∙ trees-now r is i lt x ins len

  rest-is : rest ≡ next ∷ spares b g'
  rest-is = sym ins.spare ∙ took

  each : (z : ℕ) → hit at z + uses_all wider_forest z + (hit next z + occurs z (spares b g')) ≤ inside (length a) z
  each z = subst (λ l. hit at z + uses_all wider_forest z + occurs z l ≤ inside (length a) z) rest-is (apart-now r is i lt x z)

  five : length ps ≡ 5
  five = ap length (next-places i q (kids m n) lt) ∙ omega (arith, length-append (take i (kids m n)) ((get_or (kids m n) i 0 ∷ q ∷ []) ++ drop (i + 1) (kids m n)), length-take i (kids m n), length-drop (i + 1) (kids m n))

  count-wider_forest : count wider_forest ≡ 5
  count-wider_forest = sym (ap count trees) ∙ count-grow (tree_at m b h) ps ∙ five

  one : suc h - 1 ≡ h
  one = omega arith

  lefts : under m b (suc h) (take half ps) ≡ front half wider_forest
  lefts = ap (λ j. grow (tree_at m b j) (take half ps)) one ∙ sym (front-grow (tree_at m b h) half ps) ∙ ap (front half) trees

  rights : under m b (suc h) (drop half ps) ≡ back half wider_forest
  rights = ap (λ j. grow (tree_at m b j) (drop half ps)) one ∙ sym (back-grow (tree_at m b h) half ps) ∙ ap (back half) trees

  parts : (z : ℕ) → uses_all (front half wider_forest) z + uses_all (back half wider_forest) z ≡ uses_all wider_forest z
  parts z = sym (uses-⊕ (front half wider_forest) (back half wider_forest) z) ∙ ap (λ ts. uses_all ts z) (front-back half wider_forest)

  fine : Fine 2 4 h (front half wider_forest ⊕ back half wider_forest)
  fine = subst (Fine 2 4 h) (sym (front-back half wider_forest)) (fine-now r is i lt x)

  sounds : (ts : Forest C W) → Fine 2 4 h ts → ((z : ℕ) → uses_all ts z ≤ uses_all wider_forest z) → (us : Forest C W) → us ≡ ts → Sounds (length b) (suc h - 1) us
  sounds ts fi le us e =
      subst (λ j. Sounds (length b) j us) (sym one) (subst (Sounds (length b) h) (sym e) (fine-sounds (length b) fi (λ z. subst (λ k. uses_all ts z ≤ inside k z) (sym len) (omega (arith, each z, le z)))))

  pub ready-to-split : Apart m b (suc h) at next (take half ps) (drop half ps)
  ready-to-split = record {
    above = omega arith;
    left_some = omega (arith, five, length-take half ps);
    left_few = omega (arith, five, length-take half ps);
    right_some = omega (arith, five, length-drop half ps);
    right_few = omega (arith, five, length-drop half ps);
    left = sounds (front half wider_forest) (fine-left 2 4 h (front half wider_forest) (back half wider_forest) fine) (λ z. omega (arith, parts z)) (under m b (suc h) (take half ps)) lefts;
    right = sounds (back half wider_forest) (fine-right 2 4 h (front half wider_forest) (back half wider_forest) fine) (λ z. omega (arith, parts z)) (under m b (suc h) (drop half ps)) rights;
    each = λ z. subst (λ k. hit at z + hit next z + (uses_all (under m b (suc h) (take half ps)) z + uses_all (under m b (suc h) (drop half ps)) z) ≤ inside k z) (sym len)
        (omega (arith, ap (λ ts. uses_all ts z) lefts, ap (λ ts. uses_all ts z) rights, parts z, each z));
  }

  -- what the definition says
  module _ (picked : i ≡ pick_at m a x.key (kids m n)) where
    result : inserted m most half (suc h) x (spares a f) (tree_at m a (suc h) at) ≡ (seated m (suc h) (kept_in m n) (halves m (suc h) at next (key_in n.own) half wider_forest), spares b g')
    result =
        inserted-is r is i lt x ins len picked
        ∙ ap (divided m most half (suc h) at (key_in n.own) (kept_in m n) wider_forest) rest-is
        ∙ cond-false (leb (count wider_forest) most) _ _ (lt-leb (count wider_forest) most (omega (arith, count-wider_forest)))

    shape : (z : ℕ) → uses_all (seated m (suc h) (kept_in m n) (halves m (suc h) at next (key_in n.own) half wider_forest)) z ≡ hit at z + hit next z + uses_all wider_forest z
    shape z =
        alike-uses_all (seated m (suc h) (kept_in m n) (halves m (suc h) at next (key_in n.own) half wider_forest)) (halves m (suc h) at next (key_in n.own) half wider_forest) (seated-bare m (suc h) (kept_in m n) (halves m (suc h) at next (key_in n.own) half wider_forest)) z
        ∙ alike-uses_all (halves m (suc h) at next (key_in n.own) half wider_forest) (pair at next (key_in n.own) half wider_forest) (halves-bare m (suc h) at next (key_in n.own) half wider_forest) z
        ∙ pair-uses at next (key_in n.own) half wider_forest z

    pub split-grown : (d : List (Node C R)) → length d ≡ length b → Split m b d (suc h) at next (take half ps) (drop half ps) (kept_in m n) → Inserted m a d f g' (suc h) at x (Some next)
    split-grown d len' sp = record {
      trees =
          sp.trees (key_in n.own)
          ∙ ap (seated m (suc h) (kept_in m n)) (ap (λ ts. more (settled m (suc h) at (key_in n.own) ts) (more (settled m (suc h) next (key_in n.own) (under m b (suc h) (drop half ps))) none)) lefts ∙ ap (λ ts. more (settled m (suc h) at (key_in n.own) (front half wider_forest)) (more (settled m (suc h) next (key_in n.own) ts) none)) rights)
          ∙ sym (ap (λ p. p.0) result);
      spare = spares-kept b d g' len' (λ z o. untouched z (omega (arith, each z, inside_one (length a) z)) (omega (arith, each z, inside_one (length a) z)) (omega (arith, each z, inside_one (length a) z))) ∙ sym (ap (λ p. p.1) result);
      frame = λ z y v.
          let w : hit at z + uses_all (below m a h n) z ≡ 0 = sym (ap (λ t. uses t z) (was r is)) ∙ y in
          let s : hit at z + hit next z + uses_all wider_forest z ≡ 0 = sym (shape z) ∙ sym (ap (λ p. uses_all p.0 z) result) ∙ v in
          untouched z (omega arith) (omega arith) (omega arith) ∙ frame-now r is i lt x ins len z (omega arith) (omega arith);
    }
      where
        untouched : (z : ℕ) → hit at z ≡ 0 → hit next z ≡ 0 → uses_all wider_forest z ≡ 0 → slice_get d z ≡ slice_get b z
        untouched z u v w = sp.frame z u v (ap (λ ts. uses_all ts z) lefts ∙ omega (arith, parts z)) (ap (λ ts. uses_all ts z) rights ∙ omega (arith, parts z))
