-- A script has at most one report.
use Rattle.std.proofs.Common.{◌≡◌, ℕ, List, [], ◌∷◌, length, sym, refl, ap, ◌∙◌, subst, ⊎_elim, arith, length-append}
use Rattle.std.proofs.lemmas.Bool.{cases_lt}
use Rattle.lines.proofs.Cuts.{cut-once, uncut}
use Rattle.lines.proofs.Readings.{one-reading}
use Rattle.script.specs.Limits.{most_bytes}
use Rattle.script.specs.Replies.{Points, after, printed}
use Rattle.script.specs.Reports.{Reply, said, unread, Lines, none, line, last, OneReport}

-- one line has one reply, and leaves one set
reply-once : (l : List ℕ) (ps : Points) (a b : List ℕ) (qs rs : Points) → Reply l ps a qs → Reply l ps b rs → (a ≡ b) × (qs ≡ rs)
reply-once l ps a b qs rs (said c h) (said d j) = let e = one-reading l c d h j in (ap (λ k. printed k ps) e, ap (λ k. after k ps) e)
reply-once l ps a b qs rs (said c h) (unread never) = absurd (never c h)
reply-once l ps a b qs rs (unread never) (said d j) = absurd (never d j)
reply-once l ps a b qs rs (unread never) (unread still) = (refl, refl)

-- the same line, the same set
reply-same : (l m : List ℕ) (ps : Points) (a b : List ℕ) (qs rs : Points) → l ≡ m → Reply l ps a qs → Reply m ps b rs → (a ≡ b) × (qs ≡ rs)
reply-same l m ps a b qs rs e h j = reply-once m ps a b qs rs (subst (λ x. Reply x ps a qs) e h) j

pub lines-once : (ps : Points) (s t a b : List ℕ) → Lines ps s a → Lines ps t b → s ≡ t → a ≡ b
lines-once ps s t a b (none _) (none _) e = refl
lines-once ps s t a b (none _) (line _ qs l rest o os one r more) e = absurd (omega (arith, ap length e, length-append l (10 ∷ rest)))
lines-once ps s t a b (none _) (last _ qs l o one some r) e = absurd (omega (arith, ap length e))
lines-once ps s t a b (line _ qs l rest o os one r more) (none _) e = absurd (omega (arith, ap length e, length-append l (10 ∷ rest)))
lines-once ps s t a b (line _ qs l rest o os one r more) (line _ rs m tail p xs two j next) e =
    let cut = cut-once 10 l rest m tail one two e in
    let same = reply-same l m ps o p qs rs cut.0 r j in
    let first = same.0 in
    let others = lines-once qs rest tail os xs more (subst (λ z. Lines z tail xs) (sym same.1) next) cut.1 in
    cc
lines-once ps s t a b (line _ qs l rest o os one r more) (last _ rs m p two some j) e = absurd (uncut 10 m l rest two (sym e))
lines-once ps s t a b (last _ qs l o one some r) (none _) e = absurd (omega (arith, ap length e))
lines-once ps s t a b (last _ qs l o one some r) (line _ rs m tail p xs two j next) e = absurd (uncut 10 l m tail one e)
lines-once ps s t a b (last _ qs l o one some r) (last _ rs m p two more j) e = (reply-same l m ps o p qs rs e r j).0

pub one-report : OneReport
one-report script a b h j =
    ⊎_elim
    (λ long. h.long long ∙ sym (j.long long))
    (λ short. lines-once [] script script a b (h.short short) (j.short short) refl)
    (cases_lt most_bytes (length script))
