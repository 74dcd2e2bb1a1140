-- Defines what is heard of each line of a session: a request, its first fault, or that it is too long.
-- Used by: laws.rt. A change here changes how a line is heard, and so what one_hearing says.
use Rattle.std.specs.Prelude.{◌≡◌, ◌↔◌, ℕ, List, [], ◌∷◌, Result, Err, IfOk, None}
use Rattle.mw_line.specs.declared.requests.LineFault.{LineFault}
use Rattle.mw_line.specs.declared.requests.LineFault.TheVariants as line_fault
use Rattle.mw_line.specs.declared.requests.Request.{Request}
use Rattle.mw_line.specs.Grammar.{Command, Spells}
use Rattle.mw_line.specs.Limits.{Answers, command_of, first_fault}
use Rattle.mw_frame.specs.declared.lines.Line.{Line}
use Rattle.mw_frame.specs.declared.lines.Line.TheVariants as line
use Rattle.mw_session.specs.Talk.{Heard, Said, Overlong}

-- What a text says: the request of the command that it spells, if the command keeps the limits; else the command's
-- first fault. A text that spells no command says that it is none.
pub record Says (text : List ℕ) (said : Result Request LineFault) : Type 0 where
  pub spelled : IfOk said (λ r. Spells (command_of r) text × (first_fault (command_of r) ≡ None))
  pub answered : (c : Command) → Spells c text → Answers c said
  pub not_a_command : (said ≡ Err line_fault.NotACommand) ↔ ((c : Command) → ¬ Spells c text)

-- this is heard of the line
abbrev pub Hears : Line → Heard → Type 0
Hears (line.Text text) (Said said) = Says text.items said
Hears (line.Text text) Overlong = ⊥
Hears line.TooLong (Said said) = ⊥
Hears line.TooLong Overlong = Unit {0}

-- this is heard of the lines, one by one
abbrev pub HearsAll : List Line → List Heard → Type 0
HearsAll [] [] = Unit {0}
HearsAll [] (h ∷ heard) = ⊥
HearsAll (l ∷ lines) [] = ⊥
HearsAll (l ∷ lines) (h ∷ heard) = Hears l h × HearsAll lines heard
