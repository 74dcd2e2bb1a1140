-- Each step of a session writes the text, and asks the service, as `specs/Talk` says.
-- Used by: perform, report, Session::answer_all, Session::run.
use Rattle.std.proofs.Common.{◌≡◌, ℕ, List, [], ◌∷◌, ◌++◌, Some, None, refl, sym, ap, subst}
use Rattle.arrayvec.specs.ArrayVec.{ArrayVec}
use Rattle.mw_words.specs.declared.jobs.Job.{Job}
use Rattle.mw_words.specs.declared.replies.Reply.{Reply}
use Rattle.mw_line.specs.declared.replies.ErrCode.{ErrCode}
use Rattle.mw_line.specs.declared.replies.ErrCode.TheVariants as fault
use Rattle.mw_line.specs.declared.replies.Say.TheVariants as say
use Rattle.mw_line.specs.Replies.{text_of}
use Rattle.mw_report.specs.declared.figures.Figures.{Figures}
use Rattle.mw_report.specs.Table.{report}
use Rattle.mw_session.specs.declared.steps.Bound.{Bound}
use Rattle.mw_session.specs.declared.steps.Bound.TheVariants.{Tenant, Admin}
use Rattle.mw_session.specs.declared.steps.Step.TheVariants.{Refuse, Find, BindAdmin, Ask, Report, Leave, Overrun}
use Rattle.mw_session.specs.Talk.{Found, Replied, Counted, Call, Finds, Asks, Counts, after}
use Rattle.mw_session.specs.ServiceCalls.{AreAnswered}
use Rattle.mw_session.specs.SessionParts.{Performs}

pub asked_nothing : {S : Type 0} (answered : S → Call → S → Type 0) (s : S) → AreAnswered answered s s []
asked_nothing answered s = refl

pub asked_then : {S : Type 0} (answered : S → Call → S → Type 0) (s t u : S) (xs ys : List Call)
    → AreAnswered answered s t xs → AreAnswered answered t u ys → AreAnswered answered s u (xs ++ ys)
asked_then answered s t u [] ys h k = subst (λ state. AreAnswered answered state u ys) h k
asked_then answered s t u (x ∷ xs) ys h k = (h.0, h.1, asked_then answered h.0 t u xs ys h.2 k)

module _ (Asked : List Call → Type 0) where
  pub refused : (wrong : ErrCode) (bound : Bound) → Asked [] → Performs Asked (Refuse wrong) bound bound (text_of (say.Err wrong))
  refused wrong bound h = record { answers = []; calls = []; asked = h; does = λ unused rest. refl }

  pub bound_to_admin : (bound : Bound) → Asked [] → Performs Asked BindAdmin bound Admin (text_of say.OkAdmin)
  bound_to_admin bound h = record { answers = []; calls = []; asked = h; does = λ unused rest. refl }

  pub left : (bound : Bound) → Asked [] → Performs Asked Leave bound bound (text_of say.Bye)
  left bound h = record { answers = []; calls = []; asked = h; does = λ unused rest. refl }

  pub overran : (bound : Bound) → Asked [] → Performs Asked Overrun bound bound (text_of (say.Err fault.LineTooLong))
  overran bound h = record { answers = []; calls = []; asked = h; does = λ unused rest. refl }

  pub not_found : (name : ArrayVec ℕ) (bound : Bound) → Asked (Finds name.items None ∷ []) → Performs Asked (Find name) bound bound (text_of (say.Err fault.NoSuchTenant))
  not_found name bound h = record {
    answers = Found None ∷ [];
    calls = Finds name.items None ∷ [];
    asked = h;
    does = λ unused rest. refl;
  }

  pub is_found : (name : ArrayVec ℕ) (number words : ℕ) (bound : Bound) → Asked (Finds name.items (Some (number, words)) ∷ []) → Performs Asked (Find name) bound (Tenant number words) (text_of (say.Ok words))
  is_found name number words bound h = record {
    answers = Found (Some (number, words)) ∷ [];
    calls = Finds name.items (Some (number, words)) ∷ [];
    asked = h;
    does = λ unused rest. refl;
  }

  pub replied : (tenant : ℕ) (wanted : Job) (reply : Reply) (bound : Bound) → Asked (Asks tenant wanted reply ∷ []) → Performs Asked (Ask tenant wanted) bound bound (text_of (say.Store reply))
  replied tenant wanted reply bound h = record {
    answers = Replied reply ∷ [];
    calls = Asks tenant wanted reply ∷ [];
    asked = h;
    does = λ unused rest. refl;
  }

  pub reported : (figures : Figures) (bound : Bound) (text : List ℕ) → Asked (Counts figures ∷ []) → text ≡ report figures.tenants.items figures.pool_free → Performs Asked Report bound bound text
  reported figures bound text h e = record {
    answers = Counted figures ∷ [];
    calls = Counts figures ∷ [];
    asked = h;
    does = λ unused rest. ap (λ t. after t (Counts figures ∷ []) (rest bound unused)) (sym e);
  }
