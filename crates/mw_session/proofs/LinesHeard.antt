-- Each line of a session is heard in one way only: as one request, or as one fault. Used by: one_hearing.
use Rattle.std.proofs.Common.{◌≡◌, ℕ, zero, suc, Bool, true, false, List, [], ◌∷◌, Some, None, Result, Ok, Err, eqb, refl, sym, ap, ◌∙◌}
use Rattle.std.proofs.lemmas.Bool.{eqb-true}
use Rattle.mw_words.specs.declared.jobs.Job.TheVariants as job
use Rattle.mw_line.specs.declared.requests.LineFault.{LineFault}
use Rattle.mw_line.specs.declared.requests.LineFault.TheVariants.{NotACommand, AddressRange, AddressOrder, TooManyEntries, ValueRange}
use Rattle.mw_line.specs.declared.requests.Request.{Request}
use Rattle.mw_line.specs.declared.requests.Request.TheVariants as request
use Rattle.mw_line.specs.Grammar.{Command, Tenant, Admin, Get, Cas, Report, Quit, Spells}
use Rattle.mw_line.specs.Limits.{command_of}
use Rattle.mw_frame.specs.declared.lines.Line.{Line}
use Rattle.mw_frame.specs.declared.lines.Line.TheVariants as line
use Rattle.mw_session.specs.Talk.{Heard, Said, Overlong}
use Rattle.mw_session.specs.Lines.{Hears, HearsAll, Says}

request_of : Command → Request
request_of (Tenant name) = request.Tenant (record { items = name })
request_of Admin = request.Admin
request_of (Get addr) = request.Job (job.Get addr)
request_of (Cas entries) = request.Job (job.Cas (record { items = entries }))
request_of Report = request.Report
request_of Quit = request.Quit

back : (r : Request) → request_of (command_of r) ≡ r
unfolding request_of
back (request.Tenant name) = refl
back request.Admin = refl
back (request.Job (job.Get addr)) = refl
back (request.Job (job.Cas entries)) = refl
back request.Report = refl
back request.Quit = refl

-- the faults, numbered
abbrev place : LineFault → ℕ
place NotACommand = 0
place AddressRange = 1
place AddressOrder = 2
place TooManyEntries = 3
place ValueRange = 4

abbrev at_place : ℕ → LineFault
at_place zero = NotACommand
at_place (suc zero) = AddressRange
at_place (suc (suc zero)) = AddressOrder
at_place (suc (suc (suc zero))) = TooManyEntries
at_place (suc (suc (suc (suc n)))) = ValueRange

there : (f : LineFault) → at_place (place f) ≡ f
there NotACommand = refl
there AddressRange = refl
there AddressOrder = refl
there TooManyEntries = refl
there ValueRange = refl

same_place : (f : LineFault) → eqb (place f) (place f) ≡ true
same_place NotACommand = refl
same_place AddressRange = refl
same_place AddressOrder = refl
same_place TooManyEntries = refl
same_place ValueRange = refl

same_fault : (f g : LineFault) → eqb (place f) (place g) ≡ true → f ≡ g
same_fault f g h = sym (there f) ∙ ap at_place (eqb-true (place f) (place g) h) ∙ there g

module _ (text : List ℕ) where
  one_request : (r s : Request) → Says text (Ok r) → Says text (Ok s) → r ≡ s
  one_request r s a b = sym (back r) ∙ ap request_of (sym (b.answered (command_of r) a.spelled.0).1) ∙ back s

  no_fault : (r : Request) (f : LineFault) → Says text (Ok r) → Says text (Err f) → ⊥
  no_fault r f a b =
      let e : None ≡ Some f = sym a.spelled.1 ∙ b.answered (command_of r) a.spelled.0 in
      cc e

  one_fault : (f g : LineFault) (t : Bool) → eqb (place f) (place g) ≡ t → Says text (Err f) → Says text (Err g) → f ≡ g
  one_fault f g true h a b = same_fault f g h
  one_fault f g false h a b =
      let none : (c : Command) → ¬ Spells c text = λ c s.
      let e : Some f ≡ Some g = sym (a.answered c s) ∙ b.answered c s in
      let same : f ≡ g = cc e in
      let k : true ≡ false = sym (same_place f) ∙ ap (λ x. eqb (place f) (place x)) same ∙ h in
      cc k in
      let left : Result Request LineFault = Err f in let right : Result Request LineFault = Err g in
      let e : left ≡ right = a.not_a_command.1 none ∙ sym (b.not_a_command.1 none) in
      cc e

  pub one_saying : (a b : Result Request LineFault) → Says text a → Says text b → a ≡ b
  one_saying (Ok r) (Ok s) a b = ap (λ x. Ok x) (one_request r s a b)
  one_saying (Ok r) (Err f) a b = absurd (no_fault r f a b)
  one_saying (Err f) (Ok r) a b = absurd (no_fault r f b a)
  one_saying (Err f) (Err g) a b = ap (λ x. Err x) (one_fault f g (eqb (place f) (place g)) refl a b)

hears_one : (l : Line) (h g : Heard) → Hears l h → Hears l g → h ≡ g
hears_one (line.Text text) (Said a) (Said b) h g = ap Said (one_saying text.items a b h g)
hears_one (line.Text text) (Said a) Overlong h g = absurd g
hears_one (line.Text text) Overlong k h g = absurd h
hears_one line.TooLong (Said a) k h g = absurd h
hears_one line.TooLong Overlong (Said b) h g = absurd g
hears_one line.TooLong Overlong Overlong h g = refl

pub one_hearing : (lines : List Line) (hs gs : List Heard) → HearsAll lines hs → HearsAll lines gs → hs ≡ gs
one_hearing [] [] [] h g = refl
one_hearing [] [] (x ∷ gs) h g = absurd g
one_hearing [] (x ∷ hs) gs h g = absurd h
one_hearing (l ∷ lines) [] gs h g = absurd h
one_hearing (l ∷ lines) (x ∷ hs) [] h g = absurd g
one_hearing (l ∷ lines) (x ∷ hs) (y ∷ gs) h g = ap (λ z. z ∷ hs) (hears_one l x y h.0 g.0) ∙ ap (λ zs. y ∷ zs) (one_hearing lines hs gs h.1 g.1)
