-- A whole call on a file is one event. After it the request, the book and the file pass (the capability to call the file)
-- agree.
-- Used by: Core::file.
use Rattle.std.specs.Prelude.{ℕ, ◌≡◌, ◌++◌, Bool, List, [], ◌∷◌, map, None}
use Rattle.std.proofs.Common.{refl, sym, ap, subst, ◌∙◌}
use Rattle.mw_look.specs.declared.steps.Call.{Call}
use Rattle.mw_look.specs.declared.steps.Call.TheVariants.{Prepare as PrepareCall, Seal as SealCall, Settle as SettleCall, Cancel as CancelCall}
use Rattle.mw_look.specs.declared.observations.Observation.TheVariants.{Filed}
use Rattle.mw_actor.specs.ActorState.{ActorState, own_entries}
use Rattle.mw_actor.specs.Program.{replied, tells}
use Rattle.mw_disk.specs.Facts.{Facts}
use Rattle.mw_world.specs.declared.config.Config.{Config}
use Rattle.mw_world.specs.Definition.Calls.{Called as CallOn}
use Rattle.mw_world.specs.Definition.State.{TenantStart}
use Rattle.mw_book.specs.declared.book.Book.{Book}
use Rattle.mw_book.specs.declared.waiting.Waiting.{Waiting}
use Rattle.mw_table.specs.FromRule.{End, FileToken, FindsFault, GoesWell, HeldFile, MayEnd, MeetsFault, WorkerToken, Serves, Skips, View, LearnsFileCall, after_call, without_file, takes_files, opening_at, file_token_by, file_token_filed}
use Rattle.mw_table.specs.declared.file_pass.FilePass.{FilePass}
use Rattle.mw_table.specs.declared.shared.Pass.{Pass}
use Rattle.mw_table.specs.declared.shared.Shared.{Shared}
use Rattle.mw_table.specs.CarriedRequest.{IsCarried}
use Rattle.mw_table.specs.FileCalls.{IsFree, file_kept}
use Rattle.mw_table.specs.HeldFiles.{HasFile, file_among}
use Rattle.mw_table.specs.Meet.{IsSamePass}
use Rattle.mw_table.specs.Numbers.{number_of}
use Rattle.mw_table.specs.Origins.{config_of, openings_of}
use Rattle.mw_table.specs.Passes.{IsOf}
use Rattle.mw_table.proofs.RequestsOverCalls.{carried_on_call, carried_so}
use Rattle.mw_table.proofs.StepsKeepNumbers.{settled_number}
use Rattle.mw_core.specs.Books.{Agrees, AgreesFor, AgreesHeld, AgreesThere}
use Rattle.mw_core.specs.FileCalls.{EndsThere, FilesOnce, HasFiled, IsOneEvent, IsOneEventWithFile, MakesCall, StaysSafe, held_as}
use Rattle.mw_core.proofs.WholeCalls.{has_filed, serves_on}

-- A file token stays its tenant's over a call.
filed_tenant : (call : Call) (file_token : FileToken) (slot place : ℕ) (entries : List _) → (file_token_filed call file_token slot place entries).tenant ≡ file_token.tenant
filed_tenant PrepareCall file_token slot place entries = refl
filed_tenant SealCall file_token slot place entries = refl
filed_tenant SettleCall file_token slot place entries = refl
filed_tenant CancelCall file_token slot place entries = refl

same_tenant : (end : End) (file_token : FileToken) (actor : ActorState) (called : CallOn) → (file_token_by end file_token actor called).tenant ≡ file_token.tenant
same_tenant Skips file_token actor called = refl
same_tenant GoesWell file_token actor called = filed_tenant called.call file_token called.change.slot _ (own_entries actor)
same_tenant (MeetsFault number) file_token actor called = refl
same_tenant FindsFault file_token actor called = refl

pub same_on : (first between last : Pass) → IsSamePass first between → IsSamePass between last → IsSamePass first last
same_on first between last one two = record {
  same_worker = two.same_worker ∙ one.same_worker;
  same_attempt = two.same_attempt ∙ one.same_attempt;
  same_idle = two.same_idle ∙ one.same_idle;
}

-- book and token agree, if the same file is given by equal parts
agrees_as : {D : Type 0} (facts : D → Facts) (book : Book D) (file_token other : FileToken) (given given_there : List TenantStart) (tenant its : ℕ) (config config_there : Config) → file_token ≡ other
    → given ≡ given_there → tenant ≡ its → config ≡ config_there → Agrees facts book file_token (opening_at given tenant).quota config.pool
    → Agrees facts book other (opening_at given_there its).quota config_there.pool
agrees_as facts book file_token other given given_there tenant its config config_there same_file_token same_given same_tenant_there same_config agrees =
    subst (λ (one : FileToken). Agrees facts book one (opening_at given_there its).quota config_there.pool) same_file_token
    (subst (λ (one : List TenantStart). Agrees facts book file_token (opening_at one its).quota config_there.pool) same_given
    (subst (λ (one : ℕ). Agrees facts book file_token (opening_at given one).quota config_there.pool) same_tenant_there
    (subst (λ (one : Config). Agrees facts book file_token (opening_at given tenant).quota one.pool) same_config agrees)))

-- A pass that has no file takes this one.
module _ {D : Type 0} (facts : D → Facts) (shared : Shared) (old taken : Pass) (actor : ActorState) (file_pass : FilePass) (free : IsFree old) (same : IsSamePass old taken) (own : IsOf shared taken)
    (took : taken.seat.me.0 ≡ takes_files old.seat.me.0 file_pass.seat.me.0) (has : HasFile taken.seat.me.0 file_pass.tenant) (whose : file_pass.tenant ≡ actor.tenant) where
  files_are : taken.seat.me.0.files ≡ file_pass.seat.me.0.files
  files_are = ap (λ (view : View). view.files) took ∙ ap (λ (files : List HeldFile). files ++ file_pass.seat.me.0.files) free

  pub carried_taken : IsCarried old actor → IsCarried taken actor
  carried_taken carried = carried_so old taken actor same (ap (λ (view : View). view.tokens) took) (ap (λ (view : View). view.config) took) carried

  pub has_taken : HasFile taken.seat.me.0 actor.tenant
  has_taken = subst (HasFile taken.seat.me.0) whose has

  pub agrees_taken : (book : Book D) → AgreesThere facts shared book file_pass → AgreesHeld facts book taken.seat.me.0 actor.tenant
  agrees_taken book agrees =
      agrees_as facts book (file_kept file_pass) (file_among taken.seat.me.0.files) (openings_of shared.table.shared.key) taken.seat.me.0.openings file_pass.tenant actor.tenant (config_of shared.table.shared.key)
      taken.seat.me.0.config (sym (ap file_among files_are)) (sym own.openings) whose (sym own.config) agrees

  -- The call is made.
  module _ (waiting : List Waiting) (last : Pass) (before after : Book D) (well : Bool) (same_last : IsSamePass taken last) (made : MakesCall facts waiting taken.worker taken.seat.me.0 last.seat.me.0 actor before after well) where
    known : file_among taken.seat.me.0.files ≡ file_kept file_pass
    known = ap file_among files_are

    pub may_give_back : HasFile last.seat.me.0 file_pass.tenant
    may_give_back = record {
      held = record made.held { file = file_token_by made.end (file_among taken.seat.me.0.files) actor made.called; found = None };
      only = made.went.keeps;
      its = same_tenant made.end (file_among taken.seat.me.0.files) actor made.called ∙ ap (λ (files : List HeldFile). (file_among files).tenant) has.only ∙ has.its;
      idle = refl;
    }

    -- The file is given back, and the request is told.
    module _ (back : Pass) (next : ActorState) (kept : FilePass) (number : ℕ) (same_back : IsSamePass last back) (left : back.seat.me.0 ≡ without_file last.seat.me.0)
        (is : file_kept kept ≡ file_among last.seat.me.0.files) (number_is : number ≡ last.attempt) (told : next ≡ tells actor (Filed well) number) where
      told_so : next ≡ tells actor (Filed well) last.attempt
      told_so = told ∙ ap (tells actor (Filed well)) number_is

      pub carried_back : IsCarried old actor → IsCarried back next
      carried_back carried =
          subst (IsCarried back) (sym told_so)
          (carried_so last back (tells actor (Filed well) last.attempt) same_back (ap (λ (view : View). view.tokens) left) (ap (λ (view : View). view.config) left)
          (carried_on_call taken last actor made.called made.held well (file_token_by made.end (file_among taken.seat.me.0.files) actor made.called) same_last (carried_taken carried) made.comes_to made.went))

      went_on : LearnsFileCall well made.held (file_token_by made.end (file_among taken.seat.me.0.files) actor made.called) (takes_files old.seat.me.0 file_pass.seat.me.0) last.seat.me.0
      went_on = subst (λ (view : View). LearnsFileCall well made.held (file_token_by made.end (file_among taken.seat.me.0.files) actor made.called) view last.seat.me.0) took made.went

      filed_then : HasFiled well old.seat.me.0 back.seat.me.0
      filed_then =
          subst (HasFiled well old.seat.me.0) (sym left)
          (has_filed old.seat.me.0 file_pass.seat.me.0 last.seat.me.0 has.held made.held well (file_token_by made.end (file_among taken.seat.me.0.files) actor made.called) free (sym files_are ∙ has.only) went_on)

      -- the number of the worker's next attempt
      attempt_of : (first : View) (token : WorkerToken) → Serves first old.seat.me.0 token actor → token.attempt ≡ number
      attempt_of first token serves =
          ap (λ (p : ℕ × ℕ). p.1) (sym (settled_number token actor (replied actor))) ∙ ap second_of (sym (ap (map number_of) serves.only) ∙ old.numbered)
          ∙ sym (number_is ∙ same_last.same_attempt ∙ same.same_attempt)
        where
          second_of : List (ℕ × ℕ) → ℕ
          second_of [] = 0
          second_of (one ∷ rest) = one.1

      serves_then : (first : View) (token : WorkerToken) → Serves first old.seat.me.0 token actor → Serves first back.seat.me.0 (after_call well token actor) next
      serves_then first token serves =
          subst (λ (one : ActorState). Serves first back.seat.me.0 (after_call well token actor) one) (ap (tells actor (Filed well)) (attempt_of first token serves) ∙ sym told)
          (subst (λ (view : View). Serves first view (after_call well token actor) (tells actor (Filed well) token.attempt)) (sym left)
          (serves_on old.seat.me.0 file_pass.seat.me.0 last.seat.me.0 has.held made.held well (file_token_by made.end (file_among taken.seat.me.0.files) actor made.called) free (sym files_are ∙ has.only) went_on
          actor made.called made.comes_to first token serves))

      kept_so : file_kept kept ≡ file_token_by made.end (file_kept file_pass) actor made.called
      kept_so = is ∙ ap file_among made.went.keeps ∙ ap (λ (file_token : FileToken). file_token_by made.end file_token actor made.called) known

      -- what the thread knows of the table is the same over it
      same_openings : last.seat.me.0.openings ≡ old.seat.me.0.openings
      same_openings = made.went.files.goes_on.same_openings ∙ ap (λ (view : View). view.openings) took

      same_config : last.seat.me.0.config ≡ old.seat.me.0.config
      same_config = made.went.files.goes_on.same_config ∙ ap (λ (view : View). view.config) took

      agreed_then : AgreesThere facts shared before file_pass → AgreesFor facts before old.seat.me.0 actor.tenant (file_kept file_pass)
      agreed_then agrees =
          agrees_as facts before (file_kept file_pass) (file_kept file_pass) (openings_of shared.table.shared.key) old.seat.me.0.openings file_pass.tenant actor.tenant (config_of shared.table.shared.key) old.seat.me.0.config refl
          (sym own.openings ∙ ap (λ (view : View). view.openings) took) whose (sym own.config ∙ ap (λ (view : View). view.config) took) agrees

      agrees_then : AgreesHeld facts after last.seat.me.0 actor.tenant → AgreesFor facts after old.seat.me.0 actor.tenant (file_kept kept)
      agrees_then agrees =
          agrees_as facts after (file_among last.seat.me.0.files) (file_kept kept) last.seat.me.0.openings old.seat.me.0.openings actor.tenant actor.tenant last.seat.me.0.config old.seat.me.0.config (sym is) same_openings
          refl same_config agrees

      event_since : IsOneEvent taken.worker made.end made.status (file_among taken.seat.me.0.files) (takes_files old.seat.me.0 file_pass.seat.me.0) last.seat.me.0
      event_since = subst (λ (view : View). IsOneEvent taken.worker made.end made.status (file_among taken.seat.me.0.files) view last.seat.me.0) took made.event

      -- with the file that was taken for it
      event_with_file : IsOneEvent taken.worker made.end made.status (file_among taken.seat.me.0.files) old.seat.me.0 last.seat.me.0
      event_with_file = record {
        with_file = event_since.with_file;
        keeps = record { same_config = event_since.keeps.same_config; same_openings = event_since.keeps.same_openings; seen = event_since.keeps.seen; known_run = event_since.keeps.known_run };
        same_token = event_since.same_token;
        same_mine = event_since.same_mine;
        has = event_since.has;
        went_on = event_since.went_on;
      }

      event_then : IsOneEventWithFile old.worker made.end made.status (file_kept file_pass) (file_kept kept) old.seat.me.0 back.seat.me.0
      event_then = record {
        last = last.seat.me.0;
        has = made.went.keeps ∙ ap (λ (file_token : FileToken). held_as file_token None ∷ []) (sym (is ∙ ap file_among made.went.keeps));
        left = left;
        event = subst (λ (file_token : FileToken). IsOneEvent old.worker made.end made.status file_token old.seat.me.0 last.seat.me.0) known
            (subst (λ (worker : ℕ). IsOneEvent worker made.end made.status (file_among taken.seat.me.0.files) old.seat.me.0 last.seat.me.0) same.same_worker event_with_file);
      }

      pub files_once : AgreesThere facts shared before file_pass → AgreesHeld facts after last.seat.me.0 actor.tenant → FilesOnce facts waiting old back actor next before after (file_kept file_pass) (file_kept kept)
      files_once agreed agrees = record {
        called = made.called;
        comes_to = made.comes_to;
        status = made.status;
        end = made.end;
        may = subst (λ (file_token : FileToken). MayEnd made.end made.called made.status file_token) known made.may;
        there = subst (λ (file_token : FileToken). EndsThere facts made.called (own_entries actor) waiting file_token before after made.end) known made.there;
        safe = subst (λ (file_token : FileToken). StaysSafe facts made.called file_token before after made.end) known made.safe;
        filed = subst (λ (test : Bool). HasFiled test old.seat.me.0 back.seat.me.0) made.well_is filed_then;
        told = told_so ∙ (λ i. tells actor (Filed (made.well_is i)) (sym same_back.same_attempt i));
        kept_is = kept_so;
        its = ap (λ (files : List HeldFile). (file_among files).tenant) (sym files_are ∙ has.only) ∙ has.its ∙ whose;
        agreed = agreed_then agreed;
        agrees = agrees_then agrees;
        event = event_then;
        serves = λ first token serves.
            subst (λ (test : Bool). Serves first back.seat.me.0 (after_call test token actor) next) made.well_is (serves_then first token serves);
      }

      pub agrees_back : IsOf shared last → kept.tenant ≡ file_pass.tenant → AgreesHeld facts after last.seat.me.0 actor.tenant → AgreesThere facts shared after kept
      agrees_back own_last its agrees =
          agrees_as facts after (file_among last.seat.me.0.files) (file_kept kept) last.seat.me.0.openings (openings_of shared.table.shared.key) actor.tenant kept.tenant last.seat.me.0.config
          (config_of shared.table.shared.key) (sym is) own_last.openings (sym (its ∙ whose)) own_last.config agrees
