-- A request that comes, a reply that is handed out, and a start keep `HasFiles`.
-- Used by: comes_keep_files, hands_keep_files, starts_have_files.
use Rattle.std.specs.Prelude.{ℕ, zero, suc, ◌≡◌, ◌<◌, ◌==◌, ◌&&◌, ◌||◌, not, Bool, true, false, if◌then◌else◌, is_none, List, [], ◌∷◌, length, bytes_eq, Option, Some, None}
use Rattle.std.proofs.Common.{refl, sym, ap, subst, ◌∙◌, arith}
use Rattle.std.proofs.lemmas.Bool.Decides.{nat_tests}
use Rattle.std.proofs.lemmas.Slice.Eq.{bytes_eq-Decides}
use Rattle.mw_words.specs.declared.jobs.Job.{Job}
use Rattle.mw_words.specs.declared.replies.Reply.{Reply}
use Rattle.mw_actor.specs.ActorState.{ActorState}
use Rattle.mw_actor.specs.Program.{replied}
use Rattle.mw_world.specs.Files.State.{File, Empty, is_empty, is_sealed}
use Rattle.mw_words.specs.declared.jobs.Entry.{Entry}
use Rattle.mw_words.specs.Change.{put, word_at}
use Rattle.mw_world.specs.declared.config.Config.{Config}
use Rattle.mw_world.specs.Claim.Invariant.{AreApart}
use Rattle.mw_world.specs.Definition.Events.{Found}
use Rattle.mw_world.specs.Definition.Restarts.{doubt_then, found_of, is_sealed_then, may_all_be_found, may_be_found, may_fail, may_find, may_interrupt, opened_file, restarted, takes, under_way}
use Rattle.mw_world.specs.Definition.Requests.{came, gave}
use Rattle.mw_world.specs.Definition.State.{State, TenantState, tenant_state_at, started, tenant_at, tenants_of}
use Rattle.mw_world.specs.Definition.World.{come, hand, handed, may_come}
use Rattle.mw_lone.proofs.SoundStores.{length-put}
use Rattle.mw_law_runs.proofs.Counts.Startable.{may_start, start_tells}
use Rattle.mw_law_runs.proofs.Moves.StepsKeepMemory.{comes_leave, hands_leave}
use Rattle.mw_law_runs.proofs.Moves.Shared.{memory_is_shared}
use Rattle.mw_law_runs.proofs.GuardedEvents.{first_holds, guarded, second_holds}
use Rattle.mw_law_runs.specs.RunInvariant.{IsSound}
use Rattle.mw_law_store.specs.Files.Files.{HasFiles, IsOpened, places_of}
use Rattle.mw_law_store.specs.Files.Laws.{ComesKeepFiles, HandsKeepFiles, FirstStartsHaveFiles, RestartsKeepFiles, StartsHaveFiles}
use Rattle.mw_law_store.proofs.Files.StepsLeaveFiles.{SameTenantState, all_filed_same, same_tenant_state}
use Rattle.mw_law_store.proofs.Files.PlacesBySlot.{ArePlaced}
use Rattle.mw_law_store.proofs.Files.Tenants.{Agrees, IsFiled, are_filed, files_if, has_files}

module _ (config : Config) (state next : State) (sound : IsSound config state) (has : HasFiles config state) where
  pub comes_keep : (worker tenant : ℕ) (job : Job) → come config state worker tenant job ≡ Some next → HasFiles config next
  comes_keep worker tenant job is =
      guarded (λ (one : State). come config state worker tenant job ≡ Some one → HasFiles config one) (may_come config state worker tenant job) (came config state worker tenant job) next
      (λ may so. has_files config (came config state worker tenant job) (memory_is_shared config (came config state worker tenant job) state (comes_leave config state (came config state worker tenant job) worker tenant job so) sound.memory)
      (all_filed_same config state (came config state worker tenant job) (record { dues = λ other slot. refl; faults = λ other. refl; values = λ other address. refl }) same (are_filed config state has))) is is
    where
      same : (other : ℕ) → SameTenantState config other ((came config state worker tenant job).tenant_states other) (state.tenant_states other)
      same other = same_tenant_state config state.tenant_states tenant other _ (record { file = refl; is_up = refl; places = refl })

  given : (worker tenant : ℕ) (reply : Option Reply) → hand state worker (state.worker_states worker).actor ≡ Some next → handed state worker tenant reply ≡ Some next → HasFiles config next
  given worker tenant None hands is = absurd (none is)
    where
      none : None ≡ Some next → ⊥
      none e = cc
  given worker tenant (Some reply) hands is =
      subst (HasFiles config) (some_same is)
      (has_files config (gave state worker tenant) (memory_is_shared config (gave state worker tenant) state (hands_leave state (gave state worker tenant) worker (hands ∙ sym is)) sound.memory)
      (all_filed_same config state (gave state worker tenant) (record { dues = λ other slot. refl; faults = λ other. refl; values = λ other address. refl }) same (are_filed config state has)))
    where
      some_same : Some (gave state worker tenant) ≡ Some next → gave state worker tenant ≡ next
      some_same e = cc

      same : (other : ℕ) → SameTenantState config other ((gave state worker tenant).tenant_states other) (state.tenant_states other)
      same other = same_tenant_state config state.tenant_states tenant other _ (record { file = refl; is_up = refl; places = refl })

  pub hands_keep : (worker : ℕ) (found : Option ActorState) → hand state worker (state.worker_states worker).actor ≡ Some next → hand state worker found ≡ Some next → HasFiles config next
  hands_keep worker None hands is = absurd (none is)
    where
      none : None ≡ Some next → ⊥
      none e = cc
  hands_keep worker (Some actor) hands is = given worker actor.tenant (replied actor) hands is

pub comes_keep_files : ComesKeepFiles
comes_keep_files config state next worker tenant job sound has is = comes_keep config state next sound has worker tenant job is

pub hands_keep_files : HandsKeepFiles
hands_keep_files config state next worker sound has is = hands_keep config state next sound has worker (state.worker_states worker).actor is is

-- Words that may be found of a file are as many as the file has.
same_words : (words other : List ℕ) → bytes_eq words other ≡ true → length words ≡ length other
same_words words other is = grind (arith, bytes_eq-Decides words other, is)

taken_long : (before : List ℕ) (doubt : List Entry) (words : List ℕ) → takes before doubt words ≡ true → length words ≡ length before
taken_long before [] words is = absurd (grind (arith, is))
taken_long before (entry ∷ entries) words is = same_words words (put before (entry ∷ entries)) is ∙ length-put before (entry ∷ entries)

found_long : (is_sealed : Bool) (before : List ℕ) (doubt : List Entry) (words : List ℕ) → may_find is_sealed before doubt words ≡ true → length words ≡ length before
found_long true before doubt words is = same_words words (put before doubt) is ∙ length-put before doubt
found_long false before doubt words is = by_test (bytes_eq words before) refl is
  where
    by_test : (b : Bool) → bytes_eq words before ≡ b → (b || takes before doubt words) ≡ true → length words ≡ length before
    by_test true same may = same_words words before same
    by_test false other may = taken_long before doubt words may

-- what may be found of all tenants may be found of each
pub among_all : (config : Config) (state : State) (founds : List Found) (many tenant : ℕ) → may_all_be_found config state founds many ≡ true → tenant < many
    → may_be_found config state tenant (found_of founds tenant) ≡ true
among_all config state founds zero tenant may low = absurd (omega (arith, low))
among_all config state founds (suc many) tenant may low = by_test (tenant == many) refl (among_all config state founds many tenant)
  where
    by_test : (b : Bool) → (tenant == many) ≡ b → (may_all_be_found config state founds many ≡ true → tenant < many → may_be_found config state tenant (found_of founds tenant) ≡ true)
        → may_be_found config state tenant (found_of founds tenant) ≡ true
    by_test true is others =
        subst (λ (n : ℕ). may_be_found config state n (found_of founds n) ≡ true) (grind (arith, nat_tests, is))
        (second_holds (may_all_be_found config state founds many) (may_be_found config state many (found_of founds many)) may)
    by_test false is others = others (first_holds (may_all_be_found config state founds many) (may_be_found config state many (found_of founds many)) may) (grind (arith, nat_tests, is, low))

-- an opened file agrees with its start
opened_agrees : (words : List ℕ) (fails : Option ℕ) (many : ℕ) → length words ≡ many
    → Agrees many (not (is_none fails)) (is_none fails) (λ address. if is_none fails then word_at (opened_file words fails).contents address else 0) (opened_file words fails)
opened_agrees words None many long = record { long = long; failed = refl; down = λ is. cc; certain = λ is. refl; shown = λ is address low. refl }
opened_agrees words (Some number) many long = record { long = long; failed = refl; down = λ is. refl; certain = λ is. refl; shown = λ is address low. cc }

all_empty : (words : List ℕ) (fails : Option ℕ) (place : ℕ) → (opened_file words fails).places place ≡ Empty
all_empty words None place = refl
all_empty words (Some number) place = refl

nothing_due : Empty ≡ Empty → is_empty Empty ≡ false → ⊥
nothing_due e is = grind (arith, is)

none_placed : (many : ℕ) (words : List ℕ) (fails : Option ℕ) → ArePlaced many (λ slot. Empty) (opened_file words fails)
none_placed many words fails = record {
  within = λ slot some. absurd (nothing_due refl some);
  there = λ slot some. absurd (nothing_due refl some);
  own = λ slot other some too is. absurd (nothing_due refl some);
  in_use = λ place used. absurd (nothing_due refl (ap is_empty (sym (all_empty words fails place)) ∙ used));
}

none_apart : (words : List ℕ) (fails : Option ℕ) → AreApart (opened_file words fails)
none_apart words fails place other differ here there = absurd (not_sealed (ap is_sealed (sym (all_empty words fails place)) ∙ here))
  where
    not_sealed : is_sealed Empty ≡ true → ⊥
    not_sealed is = grind (arith, is)

module _ (config : Config) (tenant_states : ℕ → TenantState) (opened : (tenant : ℕ) → tenant < tenants_of config → IsOpened config tenant (tenant_states tenant)) where
  -- an opened file is among the tenants' states of a world that starts
  started_filed : (tenant : ℕ) → tenant < tenants_of config → IsFiled config (started config tenant_states) tenant
  started_filed tenant low =
      let at = opened tenant low in
      record {
        agrees = with_up at.found at.fails_at (tenant_states tenant).is_up at.is_up (tenant_states tenant).file at.file at.long;
        places = subst (ArePlaced (places_of config (started config tenant_states) tenant) (λ slot. Empty)) (sym at.file) (none_placed (places_of config (started config tenant_states) tenant) at.found at.fails_at);
      }
    where
      with_up : (found : List ℕ) (fails : Option ℕ) (is_up : Bool) → is_up ≡ is_none fails → (file : File) → file ≡ opened_file found fails → length found ≡ (tenant_at config tenant).words
          → Agrees (tenant_at config tenant).words (not is_up) is_up (λ address. if is_up then word_at file.contents address else 0) file
      with_up found fails is_up up file is long =
          subst (λ (one : File). Agrees (tenant_at config tenant).words (not is_up) is_up (λ address. if is_up then word_at one.contents address else 0) one) (sym is)
          (subst (λ (b : Bool). Agrees (tenant_at config tenant).words (not b) b (λ address. if b then word_at (opened_file found fails).contents address else 0) (opened_file found fails)) (sym up)
          (opened_agrees found fails (tenant_at config tenant).words long))

  pub started_has : HasFiles config (started config tenant_states)
  started_has = files_if config (started config tenant_states) (λ tenant slot is. absurd (untaken is.taken)) apart started_filed
    where
      untaken : false ≡ true → ⊥
      untaken e = cc

      apart : (tenant : ℕ) → tenant < tenants_of config → AreApart (tenant_states tenant).file
      apart tenant low = let at = opened tenant low in subst AreApart (sym at.file) (none_apart at.found at.fails_at)

pub starts_have_files : StartsHaveFiles
starts_have_files config tenant_states opened = started_has config tenant_states opened

module _ (config : Config) (state : State) (founds : List Found) (has : HasFiles config state) (may : may_all_be_found config state founds (tenants_of config) ≡ true) where
  as_long : (tenant : ℕ) → tenant < tenants_of config → length (found_of founds tenant).words ≡ (tenant_at config tenant).words
  as_long tenant low =
      let found = found_of founds tenant in
      let file = (state.tenant_states tenant).file in
      let call = under_way config state found.interrupted in
      found_long (is_sealed_then call) file.contents (doubt_then file call) found.words
      (middle (may_interrupt config state tenant found.interrupted) (may_find (is_sealed_then call) file.contents (doubt_then file call) found.words) (may_fail found.opening_calls found.fails_at)
      (among_all config state founds (tenants_of config) tenant may low)) ∙ (has.told tenant low).long
    where
      middle : (one two three : Bool) → (one && two && three) ≡ true → two ≡ true
      middle true true three is = refl
      middle true false three is = absurd (grind (arith, is))
      middle false two three is = absurd (grind (arith, is))

  starts_again : HasFiles config (restarted config state founds)
  starts_again =
      started_has config _ (λ tenant low.
      let found = found_of founds tenant in
      record { found = found.words; fails_at = found.fails_at; file = refl; is_up = refl; long = as_long tenant low })

pub restarts_keep_files : RestartsKeepFiles
restarts_keep_files config state next founds has is =
    guarded (HasFiles config) (may_start config state founds) (restarted config state founds) next
    (λ may. starts_again config state founds has (start_tells config state founds may).found) is

-- the file that a start gave a tenant was just opened
opened_so : (config : Config) (tenant quota places : ℕ) (words : List ℕ) (is_up : Bool) → length words ≡ (tenant_at config tenant).words
    → IsOpened config tenant (tenant_state_at (record { quota = quota; places = places; words = words; is_up = is_up }))
opened_so config tenant quota places words true long = record { found = words; fails_at = None; file = refl; is_up = refl; long = long }
opened_so config tenant quota places words false long = record { found = words; fails_at = Some 0; file = refl; is_up = refl; long = long }

pub first_starts_have_files : FirstStartsHaveFiles
first_starts_have_files config openings start =
    started_has config _ (λ tenant low.
    let opening = openings tenant in
    opened_so config tenant opening.quota opening.places opening.words opening.is_up (start.long tenant low))
