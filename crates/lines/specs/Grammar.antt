-- What a line of a script says.
use Rattle.std.specs.Prelude.{◌≡◌, ℕ, List, ◌∷◌, ◌++◌}
use Rattle.lines.specs.Limits.{top_epoch, top_number, most_places}
use Rattle.lines.specs.Digits.{Decimal, Pattern}
use Rattle.lines.specs.declared.command.Command.{Command}
use Rattle.lines.specs.declared.command.Command.TheVariants.{Insert, Change, Delete, Sum, First, Range}

-- the byte between fields
abbrev pub blank : ℕ
blank = 32

-- a decimal field that writes n, one blank, and y
abbrev pub Head : ℕ → ℕ → List ℕ → List ℕ → Type 0
Head top n y bs = (x : List ℕ) × Decimal top n x × (bs ≡ x ++ (blank ∷ y))

-- a decimal field that writes n, one blank, and what Q says
abbrev pub Then : ℕ → ℕ → (List ℕ → Type 0) → List ℕ → Type 0
Then top n Q bs = (y : List ℕ) × Head top n y bs × Q y

-- the fields of a key: an epoch and a number
abbrev pub Key : ℕ → ℕ → List ℕ → Type 0
Key e n = Then top_epoch e (Decimal top_number n)

-- the fields of a point: an epoch, a number and a pattern
abbrev pub Point : ℕ → ℕ → ℕ → List ℕ → Type 0
Point e n p = Then top_epoch e (Then top_number n (Pattern p))

-- the fields of a window: a lower and an upper bound
abbrev pub Window : ℕ → ℕ → List ℕ → Type 0
Window l u = Then top_epoch l (Decimal top_epoch u)

-- the fields of a listing: a window and how many points to list
abbrev pub Listing : ℕ → ℕ → ℕ → List ℕ → Type 0
Listing l u k = Then top_epoch l (Then top_epoch u (Decimal most_places k))

-- the fields of a range: a window and a threshold's pattern
abbrev pub Floor : ℕ → ℕ → ℕ → List ℕ → Type 0
Floor l u p = Then top_epoch l (Then top_epoch u (Pattern p))

-- the fields of each command
abbrev pub Fields : Command → List ℕ → Type 0
Fields (Insert e n p) bs = Point e n p bs
Fields (Change e n p) bs = Point e n p bs
Fields (Delete e n) bs = Key e n bs
Fields (Sum l u) bs = Window l u bs
Fields (First l u k) bs = Listing l u k bs
Fields (Range l u p) bs = Floor l u p bs

-- the letter of each command: i, c, d, s, f, r
abbrev pub letter : Command → ℕ
letter (Insert e n p) = 105
letter (Change e n p) = 99
letter (Delete e n) = 100
letter (Sum l u) = 115
letter (First l u k) = 102
letter (Range l u p) = 114

-- the line is the command's letter, a blank and its fields
abbrev pub Says : List ℕ → Command → Type 0
Says line c = (bs : List ℕ) × (line ≡ letter c ∷ blank ∷ bs) × Fields c bs

-- a line says at most one command
abbrev pub OneReading : Type 0
OneReading = (line : List ℕ) (c d : Command) → Says line c → Says line d → c ≡ d
