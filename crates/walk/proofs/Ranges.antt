-- The range walk, turn by turn: what is listed, and what is left.
use Rattle.std.proofs.Common.{◌≡◌, ℕ, ◌+◌, ◌-◌, ◌<◌, ◌≤◌, Bool, true, false, cond, ◌&&◌, ltb, List, [], ◌∷◌, ◌++◌, length, get_or, reverse, take, drop, set, Some, None, Option, sym, refl, ap, ◌∙◌, subst, append_assoc, append-nil, le_refl, arith, length-append, length-drop, length-take, ltb-false, ltb-true}
use lib.ListN.{length-reverse}
use mathlib.Core.List.{reverse-append}
use Rattle.std.specs.Option.{option_to_list}
use Rattle.std.specs.List.{flat_map}
use Rattle.std.proofs.lemmas.List.{set-append_right, take_all, take_more, drop_all, drop_more, take-append-le}
use Rattle.std.proofs.lemmas.List.Elements.{filter-append}
use Rattle.kinds.specs.Meaning.{Meaning}
use Rattle.plain.specs.declared.point.Point.{Point}
use Rattle.plain.specs.Windows.{inside, reaches, matches}
use Rattle.trees.specs.Tree.{Tree, kept_by}
use Rattle.walked.specs.Walk.{leads_on, kept_at}
use Rattle.walk.specs.Lists.{filled, noted}
use Rattle.table.specs.declared.subtree.Subtree.{Subtree}
use Rattle.walk.specs.Entries.{pile}

-- ---- lists that are filled
-- a list, and the point after those written
pub filled_more : {X : Type 0} (list done : List X) (x : X) → noted (filled list done) (length done) x ≡ filled list (done ++ (x ∷ []))
filled_more list done x = go (ltb (length done) (length (filled list done))) refl
  where
    n : length (filled list done) ≡ length list
    n = omega (arith, length-append (take (length list) done) (drop (length done) list), length-take (length list) done, length-drop (length done) list)

    more : length (done ++ (x ∷ [])) ≡ length done + 1
    more = length-append done (x ∷ [])

    go : (b : Bool) → ltb (length done) (length (filled list done)) ≡ b → cond b (set (filled list done) (length done) x) (filled list done) ≡ filled list (done ++ (x ∷ []))
    go true e =
        let lt : length done < length list = subst (λ k. length done < k) n (ltb-true (length done) (length (filled list done)) e) in
        let all : take (length list) done ≡ done = take_all (length list) done (omega arith) in
        let every : take (length list) (done ++ (x ∷ [])) ≡ done ++ (x ∷ []) = take_all (length list) (done ++ (x ∷ [])) (omega (arith, more)) in
        ap (λ l. set (l ++ drop (length done) list) (length done) x) all
        ∙ set-append_right done (drop (length done) list) (length done) (length done) x refl (le_refl (length done))
        ∙ ap (λ k. done ++ set (drop (length done) list) k x) (omega arith)
        ∙ ap (λ l. done ++ set l 0 x) (drop_more list (length done) x lt)
        ∙ sym (append_assoc done (x ∷ []) (drop (length done + 1) list))
        ∙ ap (λ l. l ++ drop (length done + 1) list) (sym every)
        ∙ ap (λ k. take (length list) (done ++ (x ∷ [])) ++ drop k list) (sym more)
    go false e =
        let ge : length list ≤ length done = subst (λ k. k ≤ length done) n (ltb-false (length done) (length (filled list done)) e) in
        ap (λ l. l ++ drop (length done) list) (sym (take-append-le (length list) done (x ∷ []) ge))
        ∙ ap (λ l. take (length list) (done ++ (x ∷ [])) ++ l) (drop_all (length done) list ge ∙ sym (drop_all (length (done ++ (x ∷ []))) list (omega (arith, more))))

-- ---- one node more
module _ {C W R : Type 0} (m : Meaning C W R) (l u : C) (w : W) where
  -- of a node: the point that it lists
  abbrev pub lists : Option (Point C W) → List (Point C W)
  lists o = matches m l u w (option_to_list o)

  pub rest-is : (v : Tree C W) (vs : List (Tree C W)) → matches m l u w (flat_map kept_at (v ∷ vs)) ≡ lists (kept_by v) ++ matches m l u w (flat_map kept_at vs)
  rest-is v vs = filter-append _ (kept_at v) (flat_map kept_at vs)

  pub lists-none : (o : Option (Point C W)) → leads_on m w o ≡ false → lists o ≡ []
  lists-none None e = refl
  lists-none (Some x) e = go (inside m l u x.key.at)
    where
      go : (b : Bool) → cond (b && reaches m x.weight w) (x ∷ []) [] ≡ []
      go true = ap (λ c. cond c (x ∷ []) []) e
      go false = refl

  pub lists-some : (x : Point C W) → reaches m x.weight w ≡ true → (b : Bool) → inside m l u x.key.at ≡ b → lists (Some x) ≡ cond b (x ∷ []) []
  lists-some x e b i = ap (λ c. cond (c && reaches m x.weight w) (x ∷ []) []) i ∙ ap (λ c. cond (b && c) (x ∷ []) []) e ∙ both b
    where
      both : (b : Bool) → cond (b && true) (x ∷ []) [] ≡ cond b (x ∷ []) []
      both true = refl
      both false = refl

-- ---- what is done and what is left of a list of points
-- so many are listed; the rest is left, and the caller's list has those listed
pub record Listing {X : Type 0} (all rest was now : List X) (n : ℕ) : Type 0 where
  pub done : List X
  pub parts : all ≡ done ++ rest
  pub count : n ≡ length done
  pub list : now ≡ filled was done

module _ {X : Type 0} where
  pub listing_start : (all was : List X) → Listing all all was was 0
  listing_start all was = record { done = []; parts = refl; count = refl; list = sym (none was) }
    where
      none : (was : List X) → filled was [] ≡ was
      none [] = refl
      none (x ∷ xs) = refl

  pub listing-same : (all rest rest' was now : List X) (n : ℕ) → Listing all rest was now n → rest ≡ rest' → Listing all rest' was now n
  listing-same all rest rest' was now n p e = subst (λ r. Listing all r was now n) e p

  pub listing-more : (all rest rest' was now : List X) (n : ℕ) (x : X) → Listing all rest was now n → rest ≡ x ∷ rest' → Listing all rest' was (noted now n x) (n + 1)
  listing-more all rest rest' was now n x p e = record {
    done = p.done ++ (x ∷ []);
    parts = p.parts ∙ ap (λ r. p.done ++ r) e ∙ sym (append_assoc p.done (x ∷ []) rest');
    count = omega (arith, p.count, length-append p.done (x ∷ []));
    list = ap (λ k. noted now k x) p.count ∙ ap (λ l. noted l (length p.done) x) p.list ∙ filled_more was p.done x;
  }

  pub listing-end : (all rest was now : List X) (n : ℕ) → Listing all rest was now n → rest ≡ [] → (n ≡ length all) × (now ≡ filled was all)
  listing-end all rest was now n p e =
      let whole : p.done ≡ all = sym (append-nil p.done) ∙ ap (λ r. p.done ++ r) (sym e) ∙ sym p.parts in
      (p.count ∙ ap length whole, p.list ∙ ap (filled was) whole)

  -- a node that lists a point if a test is passed
  pub listing-visit : (all rest rest' was now now' : List X) (n r : ℕ) (x : X) (b : Bool) → Listing all rest was now n → rest ≡ cond b (x ∷ []) [] ++ rest' → r ≡ cond b (n + 1) n → now' ≡ cond b (noted now n x) now → Listing all rest' was now' r
  listing-visit all rest rest' was now now' n r x b p e c d = subst (λ k. Listing all rest' was now' k) (sym c) (subst (λ z. Listing all rest' was z (cond b (n + 1) n)) (sym d) (go b e))
    where
      go : (b : Bool) → rest ≡ cond b (x ∷ []) [] ++ rest' → Listing all rest' was (cond b (noted now n x) now) (cond b (n + 1) n)
      go true e = listing-more all rest rest' was now n x p e
      go false e = listing-same all rest rest' was now n p e

pub at_most_one : (b : Bool) (n : ℕ) → cond b (n + 1) n ≤ n + 1
at_most_one true n = omega arith
at_most_one false n = omega arith

-- the entry on top, and those below it
pub pile-top : (es : List Subtree) (d : ℕ) → 0 < d → d ≤ length es → (z : Subtree) → pile es d ≡ get_or es (d - 1) z ∷ pile es (d - 1)
pile-top es d some few z =
    let e : d ≡ d - 1 + 1 = omega arith in
    let w : d - 1 < length es = omega arith in
    ap (pile es) e ∙ ap reverse (take_more es (d - 1) z w) ∙ reverse-append (take (d - 1) es) (get_or es (d - 1) z ∷ [])

pub pile-long : (es : List Subtree) (d : ℕ) → d ≤ length es → length (pile es d) ≡ d
pile-long es d few = omega (arith, length-reverse (take d es), length-take d es)
