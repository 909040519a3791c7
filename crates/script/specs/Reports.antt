-- What a script prints.
use Rattle.std.specs.Prelude.{◌≡◌, ℕ, ◌<◌, ◌≤◌, List, [], ◌∷◌, ◌++◌, length, ◌≢◌, slice_index}
use Rattle.refusals.specs.declared.Refusal.TheVariants.{Unreadable}
use Rattle.lines.specs.declared.command.Command.{Command}
use Rattle.lines.specs.Grammar.{Says}
use Rattle.script.specs.Limits.{most_bytes}
use Rattle.script.specs.Text.{refusal_text}
use Rattle.script.specs.Replies.{Points, after, printed}

-- the byte that ends a line
abbrev pub newline : ℕ
newline = 10

-- no line ends inside l
abbrev pub OneLine : List ℕ → Type 0
OneLine l = (k : ℕ) → k < length l → slice_index l k ≢ newline

-- a line run on a set: what it prints, and the set that it leaves; a line that says nothing is refused
pub data Reply (l : List ℕ) (ps : Points) : List ℕ → Points → Type 0 where
  said : (c : Command) → Says l c → Reply l ps (printed c ps) (after c ps)
  unread : ((c : Command) → Says l c → ⊥) → Reply l ps (refusal_text Unreadable) ps

-- lines run on a set one after the other, and what they print: each ends at a newline, the last one perhaps with the text, and no line begins after a final newline
pub data Lines : Points → List ℕ → List ℕ → Type 0 where
  none : (ps : Points) → Lines ps [] []
  line : (ps qs : Points) (l rest o os : List ℕ) → OneLine l → Reply l ps o qs → Lines qs rest os → Lines ps (l ++ (newline ∷ rest)) (o ++ os)
  last : (ps qs : Points) (l o : List ℕ) → OneLine l → 0 < length l → Reply l ps o qs → Lines ps l o

-- what a script prints: the replies to its lines, run from the empty set; a script that is too long is refused as a whole
pub record Report (script out : List ℕ) : Type 0 where
  pub short : length script ≤ most_bytes → Lines [] script out
  pub long : most_bytes < length script → out ≡ refusal_text Unreadable

-- a script has at most one report
abbrev pub OneReport : Type 0
OneReport = (script a b : List ℕ) → Report script a → Report script b → a ≡ b
