-- What pages give by a service and by files that stay as they are, they give by what is seen of the service. Used by: mw_programs.
use Rattle.std.specs.Prelude.{◌≡◌, ℕ, List, [], ◌∷◌}
use Rattle.std.proofs.Common.{refl, ap}
use Rattle.mw_http.specs.Targets as target
use Rattle.mw_session.specs.Talk as talk
use Rattle.mw_http.specs.Calls.{AreAnswered, Call, Dates, Shows}
use Rattle.mw_server_pages.specs.Copies.{Copy}
use Rattle.mw_server_pages.specs.Shown.{Gives}

-- calls that were answered are answered as what is seen of the pages answers, if each call is
pub answers_seen : {P V : Type 0} (view : P → V) (answered : P → Call → P → Type 0) (seen : V → Call → V → Type 0) → ((old : P) (call : Call) (new : P) → answered old call new → seen (view old) call (view new))
    → (old new : P) (calls : List Call) → AreAnswered answered old new calls → AreAnswered seen (view old) (view new) calls
answers_seen view answered seen each old new [] same = ap view same
answers_seen view answered seen each old new (call ∷ later) goes = (view goes.0, each old call goes.0 goes.1, answers_seen view answered seen each goes.0 new later goes.2)

module _ {S V F : Type 0} (view : S → V) (answered : S → talk.Call → S → Type 0) (told : V → talk.Call → V → Type 0) (each : (old : S) (call : talk.Call) (new : S) → answered old call new → told (view old) call (view new))
    (Copied : List ℕ → Copy → Type 0) where
  -- one call
  pub gives_seen : (version : List ℕ) (old new : S) (files left : F) (call : Call) → Gives answered (λ before name copy after. (after ≡ before) × Copied name copy) version old files call new left
      → Gives told (λ before name copy after. (after ≡ before) × Copied name copy) version (view old) (tt {0}) call (view new) (tt {0})
  gives_seen version old new files left (Shows (target.file tenant) page) gives = (ap view gives.0, record { copy = gives.1.copy; asked = (refl, gives.1.asked.1); shown = gives.1.shown })
  gives_seen version old new files left (Shows (target.words tenant) page) gives = (ap view gives.0, record { copy = gives.1.copy; asked = (refl, gives.1.asked.1); shown = gives.1.shown })
  gives_seen version old new files left (Shows target.style page) gives = (refl, ap view gives.1, gives.2)
  gives_seen version old new files left (Shows target.script page) gives = (refl, ap view gives.1, gives.2)
  gives_seen version old new files left (Shows target.page page) gives = (refl, record { figures = gives.1.figures; asked = each old (talk.Counts gives.1.figures) new gives.1.asked; shown = gives.1.shown })
  gives_seen version old new files left (Shows target.metrics page) gives = (refl, record { figures = gives.1.figures; asked = each old (talk.Counts gives.1.figures) new gives.1.asked; shown = gives.1.shown })
  gives_seen version old new files left (Shows target.health page) gives = (refl, record { figures = gives.1.figures; asked = each old (talk.Counts gives.1.figures) new gives.1.asked; shown = gives.1.shown })
  gives_seen version old new files left (Dates date) gives = (ap view gives.0, refl)
