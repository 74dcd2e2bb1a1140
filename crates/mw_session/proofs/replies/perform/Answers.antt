-- Goals of `perform` (src/replies.rt) that the prover can't close alone.
use Rattle.std.proofs.Common.{refl, sym, subst}
use Rattle.mw_line.specs.declared.replies.ErrCode.TheVariants as fault
use Rattle.mw_line.specs.declared.replies.Say.TheVariants as say
use Rattle.mw_line.specs.Replies.{text_of}
use Rattle.mw_session.specs.declared.steps.Bound.TheVariants.{Tenant, Admin}
use Rattle.mw_session.specs.Talk.{Finds}
use Rattle.mw_session.specs.SessionParts.{Performs}
use Rattle.mw_session.specs.ServiceCalls.{AreAnswered}
use Rattle.mw_session.proofs.StepOutputs as done
use Rattle.mw_session.proofs.replies.perform.Goals as goal

pub returns-in-Refuse-clause-performs : goal.returns-in-Refuse-clause-performs
returns-in-Refuse-clause-performs g c =
    let s = g.S.Service in
    let now = c.args.service.now in
    let bound = c.args.bound.now in
    let Asked = AreAnswered s.answered now now in
    subst (λ step. Performs Asked step bound bound (text_of (say.Err c.in-Refuse.fault))) (sym c.in-Refuse.is)
    (done.refused Asked c.in-Refuse.fault bound (done.asked_nothing s.answered now))

pub returns-in-Some-clause-performs : goal.returns-in-Some-clause-performs
returns-in-Some-clause-performs g c =
    let s = g.S.Service in
    let now = c.args.service.now in
    let bound = c.args.bound.now in
    let Asked = AreAnswered s.answered now now in
    subst (λ step. Performs Asked step bound (Tenant c.in-Some.number c.in-Some.words) (text_of (say.Ok c.in-Some.words))) (sym c.in-Find.is)
    (done.is_found Asked c.in-Find.name c.in-Some.number c.in-Some.words bound
    (now, subst (λ found. s.answered now (Finds c.in-Find.name.items found) now) c.in-Some.is c.find.ensures.answered, refl))

pub returns-in-None-clause-performs : goal.returns-in-None-clause-performs
returns-in-None-clause-performs g c =
    let s = g.S.Service in
    let now = c.args.service.now in
    let bound = c.args.bound.now in
    let Asked = AreAnswered s.answered now now in
    subst (λ step. Performs Asked step bound bound (text_of (say.Err fault.NoSuchTenant))) (sym c.in-Find.is)
    (done.not_found Asked c.in-Find.name bound
    (now, subst (λ found. s.answered now (Finds c.in-Find.name.items found) now) c.in-None.is c.find.ensures.answered, refl))

pub returns-in-BindAdmin-clause-performs : goal.returns-in-BindAdmin-clause-performs
returns-in-BindAdmin-clause-performs g c =
    let s = g.S.Service in
    let now = c.args.service.now in
    let bound = c.args.bound.now in
    let Asked = AreAnswered s.answered now now in
    subst (λ step. Performs Asked step bound Admin (text_of say.OkAdmin)) (sym c.in-BindAdmin.is)
    (done.bound_to_admin Asked bound (done.asked_nothing s.answered now))

pub returns-in-Ask-clause-performs : goal.returns-in-Ask-clause-performs
returns-in-Ask-clause-performs g c =
    let s = g.S.Service in
    let new = c.ask.new.self in
    let bound = c.args.bound.now in
    let Asked = AreAnswered s.answered c.args.service.now new in
    subst (λ step. Performs Asked step bound bound (text_of (say.Store c.ask.result))) (sym c.in-Ask.is)
    (done.replied Asked c.in-Ask.tenant c.in-Ask.job c.ask.result bound (new, c.ask.ensures.answered, refl))

pub returns-in-Leave-clause-performs : goal.returns-in-Leave-clause-performs
returns-in-Leave-clause-performs g c =
    let s = g.S.Service in
    let now = c.args.service.now in
    let bound = c.args.bound.now in
    let Asked = AreAnswered s.answered now now in
    subst (λ step. Performs Asked step bound bound (text_of say.Bye)) (sym c.in-Leave.is)
    (done.left Asked bound (done.asked_nothing s.answered now))

pub returns-in-Overrun-clause-performs : goal.returns-in-Overrun-clause-performs
returns-in-Overrun-clause-performs g c =
    let s = g.S.Service in
    let now = c.args.service.now in
    let bound = c.args.bound.now in
    let Asked = AreAnswered s.answered now now in
    subst (λ step. Performs Asked step bound bound (text_of (say.Err fault.LineTooLong))) (sym c.in-Overrun.is)
    (done.overran Asked bound (done.asked_nothing s.answered now))
