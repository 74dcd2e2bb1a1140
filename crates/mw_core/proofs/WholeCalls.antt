-- The steps of a call on a file, taken together, are one whole call of the request. Used by: CallWithItsFile, MadeCalls.
use Rattle.std.specs.Prelude.{ℕ, ◌≡◌, ◌<◌, ◌++◌, Bool, [], ◌∷◌, map, Some, None}
use Rattle.std.proofs.Common.{sym, ap, subst, ◌∙◌}
use Rattle.mw_words.specs.declared.statuses.Status.{Status}
use Rattle.mw_look.specs.declared.observations.Observation.TheVariants.{Filed}
use Rattle.mw_actor.specs.ActorState.{ActorState}
use Rattle.mw_actor.specs.Program.{tells}
use Rattle.mw_world.specs.declared.config.Config.{Config}
use Rattle.mw_world.specs.Definition.Calls.{Called as CallOn, called_at}
use Rattle.mw_world.specs.Definition.State.{tenants_of}
use Rattle.mw_table.specs.FromRule.{FileToken, ExtendsWithLearned, HeldFile, LeavesRest, WorkerToken, Serves, Starts, View, LearnsFileCall, after_call, without_file, takes_files, with_file_given, first_held, other_held, seen_at, went as went_of}
use Rattle.mw_table.proofs.FromRule.{begins_on, behind_files, without_file_right, calls_take_files, calls_file, calls_give_back, on_again}
use Rattle.mw_core.specs.FileCalls.{HasFiled}

-- knowledge that has grown twice has grown
goes_on_on : (first between last : View) → ExtendsWithLearned first between → ExtendsWithLearned between last → ExtendsWithLearned first last
goes_on_on first between last one two =
    let there = λ (tenant : ℕ) (low : tenant < tenants_of first.config). subst (λ (c : Config). tenant < tenants_of c) (sym one.same_config) low in
    record {
      same_config = two.same_config ∙ one.same_config;
      same_openings = two.same_openings ∙ one.same_openings;
      same_spent = two.same_spent ∙ one.same_spent;
      same_told = two.same_told ∙ one.same_told;
      seen = λ tenant low. begins_on (seen_at first.seen tenant) (seen_at between.seen tenant) (seen_at last.seen tenant) (one.seen tenant low) (two.seen tenant (there tenant low));
      told = λ tenant low. begins_on (seen_at first.told tenant) (seen_at between.seen tenant) (seen_at last.seen tenant) (one.told tenant low) (two.seen tenant (there tenant low));
      known_run = on_again first.known_run between.known_run last.known_run one.known_run two.known_run;
      behind = two.behind;
    }

files_on : (first between last : View) → LeavesRest first between → LeavesRest between last → LeavesRest first last
files_on first between last one two = record {
  goes_on = goes_on_on first between last one.goes_on two.goes_on;
  right = two.right;
  same_mine = two.same_mine ∙ one.same_mine;
}

-- A call that ended after its status was found is one call since before that.
pub went_since : (old between last : View) (worker : ℕ) (actor : ActorState) (called : CallOn) (held found : HeldFile) (status : Status) (well : Bool) (after : FileToken)
    → Starts worker actor called held status old between → LearnsFileCall well found after between last → LearnsFileCall well found after old last
went_since old between last worker actor called held found status well after starts went = record {
  files = files_on old between last starts.files went.files;
  token = went.token ∙ ap (map (went_of well)) starts.same_token;
  ready = went.ready;
  keeps = went.keeps;
}

-- A thread without files takes one before a call, and gives it back after it.
module _ (old its last : View) (held found : HeldFile) (well : Bool) (after : FileToken) (none : old.files ≡ []) (its_one : its.files ≡ held ∷ []) (made : LearnsFileCall well found after (takes_files old its) last) where
  -- it gives back that file and no other
  pub kept_then : (with_file_given last).files ≡ record found { file = after; found = None } ∷ []
  kept_then = ap first_held made.keeps

  pub has_filed : HasFiled well old (without_file last)
  has_filed = record {
    files = record {
      goes_on = record {
        same_config = made.files.goes_on.same_config;
        same_openings = made.files.goes_on.same_openings;
        same_spent = made.files.goes_on.same_spent;
        same_told = made.files.goes_on.same_told;
        seen = made.files.goes_on.seen;
        told = made.files.goes_on.told;
        known_run = made.files.goes_on.known_run;
        behind = behind_files last (other_held last.files) last.learned_run made.files.goes_on.behind;
      };
      right = without_file_right last made.files.right;
      same_mine = made.files.same_mine;
    };
    token = made.token;
    ready = made.ready;
    same_files = ap other_held made.keeps ∙ sym none;
  }

  -- the thread still serves its request
  pub serves_on : (actor : ActorState) (called : CallOn) → called_at actor.point ≡ Some called → (first : View) (token : WorkerToken) → Serves first old token actor
      → Serves first (without_file last) (after_call well token actor) (tells actor (Filed well) token.attempt)
  serves_on actor called comes_to first token serves =
      calls_give_back first last (after_call well token actor) (tells actor (Filed well) token.attempt)
      (calls_file first (takes_files old its) last token actor called well found after (calls_take_files first old its token actor serves) comes_to made)

-- it has no other file then
pub only_taken : (old its : View) (held : HeldFile) → old.files ≡ [] → its.files ≡ held ∷ [] → (takes_files old its).files ≡ held ∷ []
only_taken old its held none its_one = λ i. none i ++ its_one i
