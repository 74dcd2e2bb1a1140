-- A thread is serving its request (`specs/WholeCalls`) over each of the request's steps. With the reply, the request is
-- answered.
-- Used by: calls_are_noted, mw_table, mw_law_threads.
use Rattle.std.specs.Prelude.{ℕ, ◌≡◌, ◌≤◌, ◌<◌, true, false, List, [], ◌∷◌, ◌++◌, length, map, Option, Some, None}
use Rattle.std.proofs.Common.{refl, sym, ap, subst, ◌∙◌, append_assoc, arith}
use Rattle.mw_words.specs.declared.jobs.Job.{Job}
use Rattle.mw_words.specs.declared.replies.Reply.{Reply}
use Rattle.mw_actor.specs.ActorState.{ActorState}
use Rattle.mw_look.specs.declared.observations.Observation.TheVariants.{Filed}
use Rattle.mw_actor.specs.Program.{replied, tells}
use Rattle.mw_world.specs.declared.config.Config.{Config}
use Rattle.mw_world.specs.Definition.State.{tenants_of}
use Rattle.mw_rule.proofs.Calls.WorldAfterCalls.{requests_go_on_from_calls}
use Rattle.mw_rule.specs.declared.views.Finished.{Finished}
use Rattle.mw_rule.specs.declared.views.WorkerEvent.TheVariants.{Came, Stepped, Called}
use Rattle.mw_rule.specs.declared.views.HeldFile.{HeldFile}
use Rattle.mw_rule.specs.declared.views.WorkerToken.{WorkerToken}
use Rattle.mw_rule.specs.declared.views.View.{View}
use Rattle.mw_rule.specs.WholeCalls.{CallsBegin, CallsTakeFiles, CallsDealt, CallsEnd, CallsFile, CallsGiveBack, CallsGoOn, CallsMeet, CallsOverPlainLoads, CallsStart, Serves}
use Rattle.mw_rule.specs.Steps.{ExtendsWithLearned, ExtendsView, AddsFinishedIf, comes, finished_as, settled, settled_as, stepped, told, actor_after}
use Rattle.mw_rule.specs.KnownRuns.{KnownRun}
use Rattle.mw_rule.specs.Splits.{without_file, takes_files, other_held, token_of}
use Rattle.mw_rule.specs.FileCalls.{after_call, went}
use Rattle.mw_rule.specs.Rule.{Each, IsFinished, IsRight}
use Rattle.mw_rule.specs.RunBehind.{IsBehind, IsInRun, handed_if}
use Rattle.mw_rule.specs.Prefixes.{seen_at}
use Rattle.mw_rule.proofs.KnownRunLaws.{on_again, stays}
use Rattle.mw_rule.proofs.RequestsInRuns.{begins_in, goes_further, settled_made, settled_worker, stays_in}
use Rattle.mw_rule.proofs.RunsBehind.{behind_files}
use Rattle.mw_rule.proofs.WorkerStretches.{begins_itself, begins_on}
use Rattle.mw_rule.proofs.KnowledgeIsRight.{without_file_right, takes_files_right}

-- Knowledge that has grown twice has grown.
pub keeps_on : (first between last : View) → ExtendsView first between → ExtendsView between last → ExtendsView first last
keeps_on first between last one two =
    let there = λ (tenant : ℕ) (low : tenant < tenants_of first.config). subst (λ (c : Config). tenant < tenants_of c) (sym one.same_config) low in
    record {
      same_config = two.same_config ∙ one.same_config;
      same_openings = two.same_openings ∙ one.same_openings;
      seen = λ tenant low. begins_on (seen_at first.seen tenant) (seen_at between.seen tenant) (seen_at last.seen tenant) (one.seen tenant low) (two.seen tenant (there tenant low));
      known_run = on_again first.known_run between.known_run last.known_run one.known_run two.known_run;
    }

-- knowledge that a step extends has grown
pub keeps_so : (old new : View) → ExtendsWithLearned old new → ExtendsView old new
keeps_so old new on = record { same_config = on.same_config; same_openings = on.same_openings; seen = on.seen; known_run = on.known_run }

pub keeps_all : (view : View) → ExtendsView view view
keeps_all view = record { same_config = refl; same_openings = refl; seen = λ tenant low. begins_itself (seen_at view.seen tenant); known_run = stays view.known_run }

-- whatever files the thread holds
keeps_files : (view : View) (files : List HeldFile) (told : Option KnownRun) → ExtendsView view (record view { files = files; learned_run = told })
keeps_files view files told = record { same_config = refl; same_openings = refl; seen = λ tenant low. begins_itself (seen_at view.seen tenant); known_run = stays view.known_run }

-- A position that is at least one number is at least each lower number.
notes_from : (token : WorkerToken) (tenant begun lower : ℕ) (job : Job) (reply : Option Reply) (old new : List Finished) → lower ≤ begun → AddsFinishedIf token tenant begun job reply old new → AddsFinishedIf token tenant lower job reply old new
notes_from token tenant begun lower job None old new low noted = noted
notes_from token tenant begun lower job (Some reply) old new low noted = let no_smaller = noted.no_smaller in record { place = noted.place; no_smaller = omega (arith, low, no_smaller); noted = noted.noted }

-- the token of a request that has no reply
running_so : (token : WorkerToken) (actor : ActorState) → replied actor ≡ None → settled token actor ≡ record token { actor = Some actor }
running_so token actor running = ap (settled_as token actor) running

pub calls_begin : CallsBegin
calls_begin old new worker actor got may began =
    let token = may.token in
    let request = began.request in
    let begun = began.begun in
    let fewer = began.no_fewer in
    let after = stepped got (comes actor request begun token) actor in
    let next = actor_after got token.attempt actor in
    record {
      only = began.token ∙ ap (map (λ one. told got (comes actor request begun one))) may.has.only;
      keeps = keeps_so old new began.goes_on;
      right = began.right;
      begun = fewer;
      run = λ whole.
          begins_in actor.tenant request actor.job old new token (settled after next) (Stepped ∷ []) (replied next) (began.arrival token may.has.only) may.has.only
          (began.token ∙ ap (map (λ one. told got (comes actor request begun one))) may.has.only) (settled_worker after next (replied next))
          (settled_made after next (replied next) ∙ (append_assoc (token.made ++ Came ∷ []) (Stepped ∷ []) (handed_if (replied next)) ∙ append_assoc token.made (Came ∷ []) (Stepped ∷ handed_if (replied next)))) (tt, tt)
          began.goes_on.behind;
      noted = notes_from (stepped got (comes actor request begun token) actor) actor.tenant begun (length (seen_at old.seen actor.tenant)) actor.job (replied (actor_after got token.attempt actor)) old.mine new.mine fewer (began.ends token may.has.only);
    }

pub calls_go_on : CallsGoOn
calls_go_on first old new token actor got serves running took =
    let carried : WorkerToken = record token { actor = Some actor } in
    let had : old.tokens ≡ carried ∷ [] = serves.only ∙ ap (λ (one : WorkerToken). one ∷ []) (running_so token actor running) in
    let lower = length (seen_at first.seen actor.tenant) in
    let begun = serves.begun in
    let same : old.mine ≡ first.mine = subst (λ (reply : Option Reply). AddsFinishedIf token actor.tenant lower actor.job reply first.mine old.mine) running serves.noted in
    let reply = replied (actor_after got token.attempt actor) in
    let after = stepped got token actor in
    let next = actor_after got token.attempt actor in
    record {
      run = λ whole.
          goes_further token.worker actor.tenant token.request actor.job first old new carried (settled after next) (Stepped ∷ []) reply
          (subst (λ (one : Option Reply). IsInRun token.worker actor.tenant token.request actor.job one first old) running (serves.run whole)) had (took.token ∙ ap (map (told got)) had) refl
          (settled_worker after next reply) (settled_made after next reply ∙ append_assoc token.made (Stepped ∷ []) (handed_if reply)) (tt, tt) took.goes_on.known_run took.goes_on.behind;
      only = took.token ∙ ap (map (told got)) had;
      keeps = keeps_on first old new serves.keeps (keeps_so old new took.goes_on);
      right = took.right;
      begun = begun;
      noted = subst (λ (mine : List Finished). AddsFinishedIf (stepped got token actor) actor.tenant lower actor.job reply mine new.mine) same
          (notes_from (stepped got token actor) actor.tenant token.begun lower actor.job reply old.mine new.mine begun (took.ends carried actor had refl));
    }

pub calls_file : CallsFile
calls_file first old new token actor called went_well held after serves comes_to made =
    let on = requests_go_on_from_calls actor called comes_to in
    let had : old.tokens ≡ record token { actor = Some actor } ∷ [] = serves.only ∙ ap (λ (one : WorkerToken). one ∷ []) (running_so token actor on.unreplied) in
    let lower = length (seen_at first.seen actor.tenant) in
    let next = tells actor (Filed went_well) token.attempt in
    let silent : replied next ≡ None = on.onward went_well token.attempt in
    let same : old.mine ≡ first.mine = subst (λ (reply : Option Reply). AddsFinishedIf token actor.tenant lower actor.job reply first.mine old.mine) on.unreplied serves.noted in
    record {
      only = made.token ∙ ap (map (went went_well)) had ∙ ap (λ (one : WorkerToken). one ∷ []) (sym (running_so (after_call went_well token actor) next silent));
      keeps = keeps_on first old new serves.keeps (keeps_so old new made.files.goes_on);
      right = made.files.right;
      run = λ whole.
          subst (λ (one : Option Reply). IsInRun token.worker actor.tenant token.request actor.job one first new) (sym silent)
          (goes_further token.worker actor.tenant token.request actor.job first old new (record token { actor = Some actor }) (after_call went_well token actor) (Called ∷ []) None
          (subst (λ (one : Option Reply). IsInRun token.worker actor.tenant token.request actor.job one first old) on.unreplied (serves.run whole)) had (made.token ∙ ap (map (went went_well)) had) refl refl refl (tt, tt)
          made.files.goes_on.known_run made.files.goes_on.behind);
      begun = serves.begun;
      noted = subst (λ (reply : Option Reply). AddsFinishedIf (after_call went_well token actor) actor.tenant lower actor.job reply first.mine new.mine) (sym silent) (made.files.same_mine ∙ same);
    }

-- a thread still serves its request when its token and its finished requests stay
still_serves : (first old new : View) (token : WorkerToken) (actor : ActorState) → Serves first old token actor → ExtendsView old new → IsRight new → new.tokens ≡ old.tokens → new.mine ≡ old.mine
    → (token.is_whole ≡ true → IsBehind new) → Serves first new token actor
still_serves first old new token actor serves keeps right same_token same_mine behind = record {
  only = same_token ∙ serves.only;
  keeps = keeps_on first old new serves.keeps keeps;
  right = right;
  begun = serves.begun;
  noted = subst (λ (mine : List Finished). AddsFinishedIf token actor.tenant (length (seen_at first.seen actor.tenant)) actor.job (replied actor) first.mine mine) (sym same_mine) serves.noted;
  run = λ whole.
      stays_in token.worker actor.tenant token.request actor.job (replied actor) first old new (settled token actor) (serves.run whole) serves.only (same_token ∙ serves.only)
      (settled_worker token actor (replied actor)) keeps.known_run (behind whole);
}

pub calls_meet : CallsMeet
calls_meet first old new token actor serves met = still_serves first old new token actor serves met.keeps met.right met.same_token met.same_mine (λ whole. met.behind)

pub calls_stand : CallsOverPlainLoads
calls_stand first old new token actor index bits serves looked =
    still_serves first old new token actor serves (keeps_so old new looked.goes_on) looked.right looked.same_token looked.same_mine (λ whole. looked.goes_on.behind)

pub calls_take_files : CallsTakeFiles
calls_take_files first old its token actor serves =
    still_serves first old (takes_files old its) token actor serves (keeps_files old (old.files ++ its.files) its.known_run) (takes_files_right old its serves.right) refl refl
    (λ whole. behind_files old (old.files ++ its.files) its.known_run (serves.run whole).behind)

pub calls_give_back : CallsGiveBack
calls_give_back first old token actor serves =
    still_serves first old (without_file old) token actor serves (keeps_files old (other_held old.files) old.learned_run) (without_file_right old serves.right) refl refl
    (λ whole. behind_files old (other_held old.files) old.learned_run (serves.run whole).behind)

pub calls_start : CallsStart
calls_start first old new token worker actor called held status serves starts =
    let files = starts.files in
    still_serves first old new token actor serves (keeps_so old new files.goes_on) files.right starts.same_token files.same_mine (λ whole. files.goes_on.behind)

false_true : false ≡ true → ⊥
false_true e = cc

pub calls_dealt : CallsDealt
calls_dealt config openings known_run worker worker_state actor carries running right =
    let token = token_of worker worker_state in
    record {
      only = ap (λ (one : Option ActorState). record token { actor = one } ∷ []) carries ∙ ap (λ (one : WorkerToken). one ∷ []) (sym (running_so token actor running));
      keeps = keeps_all _;
      right = right;
      begun = omega arith;
      run = λ whole. absurd (false_true whole);
      noted = subst (λ (reply : Option Reply). AddsFinishedIf token actor.tenant 0 actor.job reply [] []) (sym running) refl;
    }

-- what holds of each holds of the last
pub each_last : {A : Type 0} (P : A → Type 0) (all : List A) (last : A) → Each P (all ++ last ∷ []) → P last
each_last P [] last holds = holds.0
each_last P (one ∷ all) last holds = each_last P all last holds.1

pub calls_end : CallsEnd
calls_end first now token actor reply serves stands =
    let lower = length (seen_at first.seen actor.tenant) in
    let ended = subst (λ (one : Option Reply). AddsFinishedIf token actor.tenant lower actor.job one first.mine now.mine) stands serves.noted in
    let one : Finished = finished_as token actor.tenant actor.job reply ended.place in
    let right = each_last (IsFinished now) first.mine one (subst (Each (IsFinished now)) ended.noted serves.right.mine) in
    record {
      place = ended.place;
      noted = ended.noted;
      no_smaller = ended.no_smaller;
      within = right.within;
      right = right.right;
      evidence = right.evidence;
      run = λ whole.
          subst (λ (one : Option Reply). IsInRun token.worker actor.tenant token.request actor.job one first now) stands (serves.run whole);
    }
