-- A script, line by line.
use Rattle.std.proofs.Common.{◌≡◌, ℕ, ◌<◌, List, [], ◌∷◌, ◌++◌, length, Bor, Option, Some, None, MatchOption, Ok, Err, Result, OnOk, string_bytes, refl, sym, ap, ◌∙◌, subst, append_assoc, append-nil}
use Rattle.std.specs.Option.{unwrap_or}
use Rattle.std.proofs.lemmas.List.{nil_from_length}
use Rattle.refusals.specs.declared.Refusal.TheVariants.{Unreadable}
use Rattle.lines.specs.declared.command.Command.{Command}
use Rattle.lines.specs.Grammar.{Says}
use Rattle.script.specs.declared.session.Session.{Session}
use Rattle.script.specs.Text.{refusal_text}
use Rattle.script.specs.Replies.{Points, Obeyed}
use Rattle.script.specs.Reports.{OneLine, Reply, said, unread, Lines, none, line, last}
use Rattle.script.proofs.Once.{lines-once}

-- a line that says a command is answered as the command is
pub replied_said : {X Y : Type 0} (l : List ℕ) (c : Command) (old new : Session) (r : Result X Y) → Obeyed c old r new → Says l c → OnOk r ((o : List ℕ) × Reply l old.set o new.set × (string_bytes new.out ≡ string_bytes old.out ++ o))
replied_said l c old new (Ok x) did h = (_, subst (Reply l old.set _) (sym did.0) (said c h), did.1)
replied_said l c old new (Err e) did h = did

-- one that says none is refused
pub replied_unread : {X Y : Type 0} (l : List ℕ) (old new : Session) (r : Result X Y) → OnOk r ((new.set ≡ old.set) × (string_bytes new.out ≡ string_bytes old.out ++ refusal_text Unreadable)) → ((c : Command) → Says l c → ⊥) → OnOk r ((o : List ℕ) × Reply l old.set o new.set × (string_bytes new.out ≡ string_bytes old.out ++ o))
replied_unread l old new (Ok x) did h = (_, subst (Reply l old.set _) (sym did.0) (unread h), did.1)
replied_unread l old new (Err e) did h = did

-- whatever the rest prints from here, the script prints after what was printed so far
pub record Leaves (first : Points) (script before : List ℕ) (ps : Points) (rest now : List ℕ) : Type 0 where
  pub done : List ℕ
  pub printed : now ≡ before ++ done
  pub goes_on : (os : List ℕ) → Lines ps rest os → Lines first script (done ++ os)

-- what is printed after a line is printed after what came before it
join : (a b c x y : List ℕ) → b ≡ a ++ x → c ≡ b ++ y → c ≡ a ++ (x ++ y)
join a b c x y p q = q ∙ ap (λ l. l ++ y) p ∙ append_assoc a x y

module _ (first : Points) (script before : List ℕ) (ps : Points) (rest now : List ℕ) (h : Leaves first script before ps rest now) where
  pub line_run : (qs : Points) (l others new : List ℕ) → OneLine l → rest ≡ l ++ (10 ∷ others) → (o : List ℕ) × Reply l ps o qs × (new ≡ now ++ o) → Leaves first script before qs others new
  line_run qs l others new one cut r = record {
    done = h.done ++ r.0;
    printed = join before now new h.done r.0 h.printed r.2;
    goes_on = λ os more. subst (Lines first script) (sym (append_assoc h.done r.0 os)) (h.goes_on (r.0 ++ os) (subst (λ s. Lines ps s (r.0 ++ os)) (sym cut) (line ps qs l others r.0 os one r.1 more)));
  }

  pub last_run : (qs : Points) (new : List ℕ) → OneLine rest → 0 < length rest → (o : List ℕ) × Reply rest ps o qs × (new ≡ now ++ o) → (os : List ℕ) × Lines first script os × (new ≡ before ++ os)
  last_run qs new one some r = (h.done ++ r.0, h.goes_on r.0 (last ps qs rest r.0 one some r.1), join before now new h.done r.0 h.printed r.2)

  -- then nothing is left
  end_run : (qs : Points) (new : List ℕ) → OneLine rest → 0 < length rest → (o : List ℕ) × Reply rest ps o qs × (new ≡ now ++ o) → Leaves first script before qs [] new
  end_run qs new one some r =
      let ran = last_run qs new one some r in
      record {
        done = ran.0;
        printed = ran.2;
        goes_on = λ os more. subst (λ x. Lines first script (ran.0 ++ x)) (lines-once qs [] [] [] os (none qs) more refl) (subst (Lines first script) (sym (append-nil ran.0)) ran.1);
      }

  -- a line up to a newline, or up to the end
  pub cut_run : (cut : Option (Bor (List ℕ) × Bor (List ℕ))) (whole parts : Bor (List ℕ) × Bor (List ℕ)) → parts ≡ unwrap_or cut whole → whole.0.now ≡ rest → whole.1.now ≡ [] → 0 < length rest → MatchOption cut (OneLine rest) (λ p. OneLine p.0.now × (rest ≡ p.0.now ++ (10 ∷ p.1.now))) → (qs : Points) (new : List ℕ) → (o : List ℕ) × Reply parts.0.now ps o qs × (new ≡ now ++ o) → Leaves first script before qs parts.1.now new
  cut_run None whole parts e all end some one qs new r =
      subst (λ x. Leaves first script before qs x new) (sym (ap (λ p. p.1.now) e ∙ end))
      (end_run qs new one some (subst (λ x. (o : List ℕ) × Reply x ps o qs × (new ≡ now ++ o)) (ap (λ p. p.0.now) e ∙ all) r))
  cut_run (Some p) whole parts e all end some one qs new r =
      subst (λ x. Leaves first script before qs x.1.now new) (sym e)
      (line_run qs p.0.now p.1.now new one.0 one.1 (subst (λ x. (o : List ℕ) × Reply x.0.now ps o qs × (new ≡ now ++ o)) e r))

  pub all_run : length rest ≡ 0 → (os : List ℕ) × Lines first script os × (now ≡ before ++ os)
  all_run e = (h.done, subst (Lines first script) (append-nil h.done) (h.goes_on [] (subst (λ s. Lines ps s []) (sym (nil_from_length rest e)) (none ps))), h.printed)
