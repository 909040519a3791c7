-- What a command prints, and the set that it leaves.
use Rattle.std.specs.Prelude.{◌≡◌, ℕ, List, ◌++◌, length, Some, None, Option, Result, OnOk, Float, string_bytes}
use Rattle.kinds.specs.Kinds.{small}
use Rattle.kinds.specs.Weight.{weight_of}
use Rattle.refusals.specs.declared.Refusal.{Refusal}
use Rattle.plain.specs.declared.point.Key.{Key}
use Rattle.plain.specs.declared.point.Point.{Point}
use Rattle.plain.specs.Set.{put, remove, reweigh}
use Rattle.plain.specs.Windows.{window, matches, firsts, total}
use Rattle.plain.specs.Refused.{insert_refused, delete_refused, change_refused, range_refused, frontier_refused}
use Rattle.lines.specs.declared.command.Command.{Command}
use Rattle.lines.specs.declared.command.Command.TheVariants.{Insert, Change, Delete, Sum, First, Range}
use Rattle.script.specs.declared.session.Session.{Session}
use Rattle.script.specs.Limits.{room, frontier}
use Rattle.script.specs.Text.{ok_text, refusal_text, sum_text, first_text, range_text}

-- the points of a script's index
abbrev pub Points : Type 0
Points = List (Point ℕ Float)

-- the key of an epoch and a number
abbrev pub key_of : ℕ → ℕ → Key ℕ
key_of e n = record { at = e; number = n }

-- the point of an epoch, a number and a pattern
abbrev pub point_of : ℕ → ℕ → ℕ → Point ℕ Float
point_of e n p = record { key = key_of e n; weight = weight_of p }

-- the set that a change leaves: the new one, or the old one where it is refused
abbrev pub left : Option Refusal → Points → Points → Points
left None old new = new
left (Some e) old new = old

-- what is printed: a text, or the refusal
abbrev pub told : Option Refusal → List ℕ → List ℕ
told None text = text
told (Some e) text = refusal_text e

-- the set after a command
abbrev pub after : Command → Points → Points
after (Insert e n p) ps = left (insert_refused small room (point_of e n p) ps) ps (put small (point_of e n p) ps)
after (Change e n p) ps = left (change_refused small (key_of e n) (weight_of p) ps) ps (reweigh small (key_of e n) (weight_of p) ps)
after (Delete e n) ps = left (delete_refused small (key_of e n) ps) ps (remove small (key_of e n) ps)
after (Sum l u) ps = ps
after (First l u k) ps = ps
after (Range l u p) ps = ps

-- what a command prints
abbrev pub printed : Command → Points → List ℕ
printed (Insert e n p) ps = told (insert_refused small room (point_of e n p) ps) ok_text
printed (Change e n p) ps = told (change_refused small (key_of e n) (weight_of p) ps) ok_text
printed (Delete e n) ps = told (delete_refused small (key_of e n) ps) ok_text
printed (Sum l u) ps = told (frontier_refused small l u frontier ps) (sum_text (total (λ w. w) (window small l u ps)) (length (window small l u ps)))
printed (First l u k) ps = told (frontier_refused small l u frontier ps) (first_text (firsts small k l u ps))
printed (Range l u p) ps = told (range_refused small l u (weight_of p)) (range_text (length (matches small l u (weight_of p) ps)))

-- a command that finds memory leaves the set that it should, and adds to what is printed what it should
abbrev pub Obeyed : {X Y : Type 0} → Command → Session → Result X Y → Session → Type 0
Obeyed c old r new = OnOk r ((new.set ≡ after c old.set) × (string_bytes new.out ≡ string_bytes old.out ++ printed c old.set))
