-- What holds after each reply to a session. Used by: mwserve.
use Rattle.std.specs.Prelude.{ℕ, ◌≡◌, List, [], ◌∷◌, Some}
use Rattle.std.proofs.Common.{inr}
use Rattle.mw_words.specs.declared.jobs.Job.{Job}
use Rattle.mw_words.specs.declared.replies.Reply.{Reply}
use Rattle.mw_words.specs.declared.replies.Reply.TheVariants.{Val, Yes as SaysYes, No as SaysNo, Busy as SaysBusy, Fault as SaysFault, Worn as SaysWorn}
use Rattle.mw_lone.specs.Store.{entries_of}
use Rattle.mw_disk.specs.Facts.{Facts}
use Rattle.mw_rule.specs.KnownRuns.{known_run_of}
use Rattle.mw_rule.specs.Splits.{learns}
use Rattle.mw_rule.specs.declared.views.View.{View}
use Rattle.mw_rule.proofs.KnownRunLaws.{on_again}
use Rattle.mw_table.specs.TableAtStart.{StartedWith}
use Rattle.mw_table.proofs.Meetings.{learns_lives, lives}
use Rattle.mw_session.specs.Talk.{Call, Finds, Asks, Counts}
use Rattle.mw_session.specs.Transitions.{GoesThrough}
use Rattle.mw_engine.specs.Brand.{Identity}
use Rattle.mw_engine.specs.FromBelow.{Pass, said_in}
use Rattle.mw_engine.specs.History.{IsAnswered}
use Rattle.mw_service.specs.EngineAnswers.{ByBorrower, ByWorker}
use Rattle.mw_service.specs.OwnReplies.{AnswersOwn, Kept}
use Rattle.mw_service.specs.Served.{Answers}
use Rattle.mw_law_threads.specs.AfterReplies.{AfterLoan, AfterReply, IsServedByLoan, IsServedByPass, Moment, ServesByLoan, ServesByPass, run_in}
use Rattle.mw_law_threads.specs.Durable.CrashMoments.{CrashMoment, first_disk, last_disk, stake_at}
use Rattle.mw_law_threads.specs.Durable.Durable.{LeavesChangeOfRun}
use Rattle.mw_law_threads.specs.History.AnswersInOneRun.{IsKnownAt}
use Rattle.mw_law_threads.proofs.Durable.DurableLaws.{moments_keep_changes, moments_leave_wholly_or_not}
use Rattle.mw_law_threads.proofs.History.AnswerMomentLaws.{answers_have_moments}
use Rattle.mw_law_threads.proofs.History.AnswersInOneRunLaws.{in_one_run, in_time}
use Rattle.mw_law_threads.proofs.Sessions.OwnRequestLaws.{own_requests, sessions}
use Rattle.mw_law_threads.proofs.Sessions.NoteLaws.{learned_since, since_answer, told_since}
use Rattle.mw_law_threads.proofs.Sessions.LearnedRuns.{learned_run}

module _ {D : Type 0} (facts : D → Facts) (first now : View) (tenant : ℕ) (job : Job) where
  -- after a YES the change is kept
  kept_after : (reply : Reply) (one : IsAnswered first now tenant job reply) → reply ≡ SaysYes → (at : Moment) (known : IsKnownAt at.table now) (crash : CrashMoment facts at.table tenant)
      → LeavesChangeOfRun facts at.config (StartedWith at.config at.found) at.tied known.view tenant one.token.request (entries_of job) one.answered.place
      (stake_at facts crash) (first_disk facts crash) (last_disk facts crash)
  kept_after SaysYes one is at known crash =
      moments_keep_changes facts at.config (StartedWith at.config at.found) at.table tenant first now job at.tied crash known one
  kept_after (Val value) one is at known crash = absurd (let e : Val value ≡ SaysYes = is in cc)
  kept_after (SaysNo address value) one is at known crash = absurd (let e : SaysNo address value ≡ SaysYes = is in cc)
  kept_after SaysBusy one is at known crash = absurd (let e : SaysBusy ≡ SaysYes = is in cc)
  kept_after SaysFault one is at known crash = absurd (let e : SaysFault ≡ SaysYes = is in cc)
  kept_after SaysWorn one is at known crash = absurd (let e : SaysWorn ≡ SaysYes = is in cc)

  after_reply : (reply : Reply) (one : IsAnswered first now tenant job reply) → AfterReply facts one
  after_reply reply one = record {
    true_at = answers_have_moments first now one.token tenant job reply one.answered one.whole;
    in_one_run = λ at known. in_one_run at.config (StartedWith at.config at.found) at.table at.tied first now tenant job reply one at.tied.past.began.nothing known;
    in_time = λ then more next on id was here only own known.
        in_time then.config (StartedWith then.config then.found) then.table next then.tied more on id first now was tenant job reply one then.tied.past.began.nothing here only own known;
    own = λ begins ends asked said that at known also apart.
        own_requests at.config (StartedWith at.config at.found) at.table at.tied first now begins ends tenant job asked reply said one that known also apart;
    kept = kept_after reply one;
    wholly = λ at known crash.
        moments_leave_wholly_or_not facts at.config (StartedWith at.config at.found) at.table tenant first now job reply at.tied crash known one;
  }

module _ {D : Type 0} (facts : D → Facts) (identity : Identity) where
  after_loan : (old new : Kept) (tenant : ℕ) (job : Job) (reply : Reply) (its : AnswersOwn identity old (Asks tenant job reply) new) → AfterLoan facts identity old new its
  after_loan old new tenant job reply its =
      let first : View = its.0.2.borrows.learned.seat.me.0 in
      let last : View = its.0.1.seat.me.0 in
      let one = its.0.2.answered in
      let after = after_reply facts first last tenant job reply one in
      record {
        after = after;
        timed = on_again (run_in old.note) first.known_run (Some (known_run_of last.config (one.answered.run one.whole).behind.openings (one.answered.run one.whole).behind.before after.true_at.until))
            (learned_run its.0.0.seat.me.0 first old.note its.0.2.borrows.learns) after.true_at.known;
        noted = λ calls note goes. since_answer identity its.0.0 its.0.1 old.note new.note its.0.2.borrows one.keeps calls note goes;
        learning = λ calls note goes pass own at id here. record {
          id = id;
          view = learns pass.seat.me.0 (said_in note);
          at = here;
          live = learns_lives pass.seat.me.0 (said_in note) (lives pass);
          knows = inr (told_since identity its.0.0 its.0.1 old.note new.note its.0.2.borrows one.keeps calls note goes pass own);
        };
        learned = λ calls note goes pass own view learned. learned_since identity its.0.0 its.0.1 old.note new.note its.0.2.borrows one.keeps calls note goes pass own view learned;
        two = λ calls kept tokens id other asked said that at are goes has apart known also.
            sessions at.config (StartedWith at.config at.found) at.table at.tied tokens are identity id other tenant job asked reply said
            (record { old = old; new = new; last = kept; calls = calls; its = its; goes = goes; has = has }) that apart known also;
      }

  -- each call of a worker's session
  by_pass : (old new : Pass) (call : Call) → Answers identity old call new → ServesByPass facts identity old call new
  by_pass old new (Finds name found) its = its
  by_pass old new (Asks tenant job reply) its = (its, after_reply facts old.seat.me.0 new.seat.me.0 tenant job reply its.1)
  by_pass old new (Counts figures) its = its

  through_passes : (calls : List Call) (old new : Pass) → GoesThrough (Answers identity) old calls new → GoesThrough (ServesByPass facts identity) old calls new
  through_passes [] old new same = same
  through_passes (call ∷ later) old new goes = (goes.0, by_pass old goes.0 call goes.1, through_passes later goes.0 new goes.2)

  -- and of one that borrows
  by_loan : (old new : Kept) (call : Call) → AnswersOwn identity old call new → ServesByLoan facts identity old call new
  by_loan old new (Finds name found) its = its
  by_loan old new (Asks tenant job reply) its = (its, after_loan old new tenant job reply its)
  by_loan old new (Counts figures) its = its

  through_loans : (calls : List Call) (old new : Kept) → GoesThrough (AnswersOwn identity) old calls new → GoesThrough (ServesByLoan facts identity) old calls new
  through_loans [] old new same = same
  through_loans (call ∷ later) old new goes = (goes.0, by_loan old goes.0 call goes.1, through_loans later goes.0 new goes.2)

  pub served_by_pass : (calls : List Call) → ByWorker identity calls → IsServedByPass facts identity calls
  served_by_pass calls by = record { old = by.old; new = by.new; own = by.own; served = through_passes calls by.old by.new by.answered }

  pub served_by_loan : (calls : List Call) → ByBorrower identity calls → IsServedByLoan facts identity calls
  served_by_loan calls by = record { old = by.old; new = by.new; served = through_loans calls by.old by.new by.answered }
