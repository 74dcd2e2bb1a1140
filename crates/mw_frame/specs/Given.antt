-- Claims that a feed gives the lines of all the bytes that it was fed, however they were cut into pieces.
-- Used by: laws.rt. docs/PROMISES cites one.
use Rattle.std.specs.Prelude.{ℕ, ◌≡◌, ◌++◌, List, [], ◌∷◌, Option, slice_get}
use Rattle.std.specs.Option.{option_to_list}
use Rattle.mw_frame.specs.declared.lines.Line.{Line}
use Rattle.mw_frame.specs.Lines.{lines}
use Rattle.mw_frame.specs.Stream.{Stream, Open, behind, fed, lines_of}

-- Of all these bytes that were fed, these lines were given and this stream is left. Whatever comes later, the lines of
-- it all are those that were given, and then those that are left.
pub record HasGiven (all : List ℕ) (given : List Line) (left : Stream) : Type 0 where
  pub whole : (more : List ℕ) → lines (all ++ more) ≡ given ++ lines_of (fed left more)

-- A call on a feed, and how it was answered. A call that took nothing because memory was out changed nothing, and is
-- left out.
pub data Call : Type 0 where
  -- this piece was taken
  Fed : List ℕ → Call
  -- this was given, if anything
  Gave : Option Line → Call

-- These calls, each with the right answer, lead from one stream to another.
abbrev pub Leads : Stream → List Call → Stream → Type 0
Leads old [] new = new ≡ old
Leads old (Fed piece ∷ calls) new = Leads (fed old piece) calls new
Leads old (Gave answer ∷ calls) new = (answer ≡ slice_get (lines_of old) 0) × Leads (behind answer old) calls new

-- all that was fed in these calls
abbrev pub bytes_fed : List Call → List ℕ
bytes_fed [] = []
bytes_fed (Fed piece ∷ calls) = piece ++ bytes_fed calls
bytes_fed (Gave answer ∷ calls) = bytes_fed calls

-- the lines that were given in these calls
abbrev pub lines_given : List Call → List Line
lines_given [] = []
lines_given (Fed piece ∷ calls) = lines_given calls
lines_given (Gave answer ∷ calls) = option_to_list answer ++ lines_given calls

-- However a stream is cut, and whenever lines are asked for, the lines that were given, and then those that are left,
-- are those of all that was fed.
abbrev pub HoweverCut : Type 0
HoweverCut = (calls : List Call) (left : Stream) → Leads (Open []) calls left → HasGiven (bytes_fed calls) (lines_given calls) left

-- Two ways to cut the same bytes give the same lines, once all are given.
abbrev pub SameLines : Type 0
SameLines = (calls others : List Call) (left rest : Stream) → Leads (Open []) calls left → Leads (Open []) others rest → bytes_fed calls ≡ bytes_fed others
    → lines_of left ≡ [] → lines_of rest ≡ [] → lines_given calls ≡ lines_given others

-- A new feed has given nothing of nothing.
abbrev pub GivenAtFirst : Type 0
GivenAtFirst = HasGiven [] [] (Open [])

-- A piece that is taken is added to what was fed.
abbrev pub GivenThenFed : Type 0
GivenThenFed = (all : List ℕ) (given : List Line) (left : Stream) (piece : List ℕ) → HasGiven all given left → HasGiven (all ++ piece) given (fed left piece)

-- The first line of what is left, if there is one, is added to what was given.
abbrev pub GivenThenMore : Type 0
GivenThenMore = (all : List ℕ) (given : List Line) (left : Stream) (answer : Option Line) → HasGiven all given left → answer ≡ slice_get (lines_of left) 0
    → HasGiven all (given ++ option_to_list answer) (behind answer left)

-- If no line is left, the lines that were given are all.
abbrev pub NoneLeft : Type 0
NoneLeft = (all : List ℕ) (given : List Line) (left : Stream) → HasGiven all given left → lines_of left ≡ [] → lines all ≡ given
