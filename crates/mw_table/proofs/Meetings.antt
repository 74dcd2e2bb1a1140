-- After two passes meet (`Shared::meet`), both have seen the same sealed changes, and each keeps its worker and finished
-- requests.
-- Used by: Shared::meet, confirm, give_back, learn, look, among others.
use Rattle.std.specs.Prelude.{ℕ, ◌≡◌, ◌≢◌, ◌≤◌, ◌<◌, List, [], ◌∷◌, ◌++◌, map}
use Rattle.std.proofs.Common.{refl, sym, ap, subst, ◌∙◌, inl, inr, arith}
use Rattle.atomic_table.specs.Table.{Allows, Me}
use Rattle.mw_actor.specs.ActorState.{ActorState}
use Rattle.mw_world.specs.declared.config.Config.{Config}
use Rattle.mw_world.specs.Definition.State.{tenants_of}
use Rattle.mw_rule.specs.declared.views.WorkerToken.{WorkerToken}
use Rattle.mw_rule.specs.declared.views.View.{View}
use Rattle.mw_rule.specs.Steps.{ExtendsView, LearnsPlainLoad, LearnsMeeting, IsPrefix}
use Rattle.mw_rule.specs.Splits.{dealt, merges, head_of, learns, left_over, note, of_head, of_rest, rest_of}
use Rattle.mw_rule.specs.WordActions.{AddsNoEvent}
use Rattle.mw_rule.specs.Rule.{IsLive, IsRight, times}
use Rattle.mw_rule.specs.Prefixes.{seen_at}
use Rattle.mw_rule.proofs.Apart.{changes_are_own}
use Rattle.mw_rule.proofs.RunsBehind.{behind_dealt, behind_left}
use Rattle.mw_rule.proofs.WholeCallLaws.{keeps_on, keeps_so}
use Rattle.mw_rule.proofs.KnownRunLaws.{on_again}
use Rattle.mw_rule.proofs.Events.{looks_are_no_events}
use Rattle.mw_rule.proofs.WorkerStretches.{begins_on}
use Rattle.mw_rule.proofs.FinishedRequests.{dealt_alone, merged_parts_again}
use Rattle.mw_rule.proofs.KnowledgeIsRight.{dealt_right, learns_right, left_right}
use Rattle.mw_rule.proofs.Totals.{own_once, times_behind}
use Rattle.mw_table.specs.declared.shared.Pass.{Pass}
use Rattle.mw_table.specs.declared.shared.Shared.{Shared}
use Rattle.mw_table.specs.Meet.{HaveMet}
use Rattle.mw_table.specs.Numbers.{number_of, numbers}
use Rattle.mw_table.proofs.StepRequirements.{live, rule_of}

pub lives : (pass : Pass) → IsLive pass.seat.me.0
lives pass = live pass.seat.me.0 pass.seat.me.0.tokens pass.worker pass.attempt refl pass.numbered

-- a table has a word
pub some_word : (shared : Shared) → 0 < shared.table.shared.table_id.words
some_word shared = let long = shared.long in omega (arith, long)

-- a note is live
pub note_lives : (view its : View) → its ≡ note view → IsLive its
note_lives view its is = inl (ap (λ (one : View). one.is_spent) is)

pub note_has_none : (view its : View) → its ≡ note view → its.tokens ≡ []
note_has_none view its is = ap (λ (one : View). one.tokens) is

-- a load of any word by a thread that is live
pub load_asks : (shared : Shared) (id : ℕ) (me : Me ActorState View) → IsLive me.0
    → (0 < shared.table.shared.table_id.words) × Allows (rule_of shared) shared.table.shared.table_id.slots id me 0 (λ bits. bits) (λ bits next. LearnsPlainLoad 0 bits me.0 next.0 × AddsNoEvent 0 bits me.0 next.0)
load_asks shared id me is_live = (some_word shared, looks_are_no_events _ _ shared.table.shared.table_id.slots id 0 me (λ bits. bits) is_live (λ bits. refl))

-- a live thread is live after a load
pub looks_live : (bits : ℕ) (old new : View) → LearnsPlainLoad 0 bits old new → IsLive old → IsLive new
looks_live bits old new looked (inl flag) = inl (looked.goes_on.same_spent ∙ flag)
looks_live bits old new looked (inr has_some) = inr (has_some.0, has_some.1, looked.same_token ∙ has_some.2)

-- a live thread is live after it learns a note, or merges what another knew
pub learns_lives : (view its : View) → IsLive view → IsLive (learns view its)
learns_lives view its (inl flag) = inl flag
learns_lives view its (inr has_some) = inr has_some

pub merges_lives : (view its : View) → IsLive view → IsLive (merges view its)
merges_lives view its (inl flag) = inl flag
merges_lives view its (inr has_some) = inr (has_some.0, has_some.1 ++ its.tokens, ap (λ (all : List WorkerToken). all ++ its.tokens) has_some.2)

-- the token of a pass's one worker
one_token : (token : List WorkerToken) (worker attempt : ℕ) → map number_of token ≡ (worker, attempt) ∷ [] → (one : WorkerToken) × (token ≡ one ∷ [])
one_token [] worker attempt is = absurd (cc)
one_token (one ∷ []) worker attempt is = (one, refl)
one_token (one ∷ other ∷ rest) worker attempt is = absurd (cc)

-- the two workers of whom a thread has tokens, once each
apart_so : (all : View) (one other : WorkerToken) → all.tokens ≡ one ∷ other ∷ [] → IsRight all → one.worker ≢ other.worker
apart_so all one other both right same =
    let few : times one.worker (one ∷ other ∷ []) ≤ 1 = subst (λ (token : List WorkerToken). times one.worker token ≤ 1) both (right.alone one.worker) in
    let first = own_once one.worker one refl in
    let second = own_once one.worker other (sym same) in
    let sum = times_behind one.worker (one ∷ []) (other ∷ []) in absurd (omega (arith, few, first, second, sum))

parted : (token : List WorkerToken) → head_of token ++ rest_of token ≡ token
parted [] = refl
parted (one ∷ rest) = refl

-- The one made a load and a note; the other learned the note, made a load, and gave all that it knew away.
pub record Learned (one other : View) : Type 0 where
  pub looked : View
  pub bits : ℕ
  pub looking : LearnsPlainLoad 0 bits one looked
  pub noted : View
  pub same : noted ≡ looked
  pub said : View
  pub is_note : said ≡ note looked
  pub learned : View
  pub others : ℕ
  pub learning : LearnsPlainLoad 0 others (learns other said) learned
  pub its : View
  pub is_dealt : its ≡ dealt learned

-- Then the one merged all that, and made a load.
pub record Merged (one other : View) : Type 0 where
  pub told : Learned one other
  pub all : View
  pub last : ℕ
  pub merging : LearnsPlainLoad 0 last (merges told.noted told.its) all

-- The facts before the merge.
module _ (one other : View) (theirs : ℕ × ℕ) (others : numbers other ≡ theirs ∷ []) (same_config : other.config ≡ one.config) (told : Learned one other) where
  learning : LearnsPlainLoad 0 told.others (learns other (note told.looked)) told.learned
  learning = subst (λ (said : View). LearnsPlainLoad 0 told.others (learns other said) told.learned) told.is_note told.learning

  second : (token : WorkerToken) × (other.tokens ≡ token ∷ [])
  second = one_token other.tokens theirs.0 theirs.1 others

  same_its : ((dealt told.learned).tokens ≡ other.tokens) × ((dealt told.learned).mine ≡ other.mine)
  same_its =
      let alone = dealt_alone told.learned second.0 (learning.same_token ∙ second.1) learning.right in
      (alone.0 ∙ learning.same_token, alone.1 ∙ learning.same_mine)

  no_less : IsPrefix (tenants_of told.looked.config) told.looked.seen (dealt told.learned).seen
  no_less = subst (λ (config : Config). IsPrefix (tenants_of config) told.looked.seen told.learned.seen) (same_config ∙ sym told.looking.goes_on.same_config) learning.goes_on.told

  pub first_lives : IsLive one → IsLive told.noted
  first_lives lives_first = subst IsLive (sym told.same) (looks_live told.bits one told.looked told.looking lives_first)

  pub its_live : IsLive told.its
  its_live = subst IsLive (sym told.is_dealt) (inr (second.0, [], same_its.0 ∙ second.1))

  pub saw_no_less : IsPrefix (tenants_of told.noted.config) told.noted.seen told.its.seen
  saw_no_less =
      subst (λ (view : View). IsPrefix (tenants_of view.config) view.seen told.its.seen) (sym told.same)
      (subst (λ (view : View). IsPrefix (tenants_of told.looked.config) told.looked.seen view.seen) (sym told.is_dealt) no_less)

-- Each then has its own again.
module _ (one other : View) (own theirs : ℕ × ℕ) (ones : numbers one ≡ own ∷ []) (others : numbers other ≡ theirs ∷ []) (same_config : other.config ≡ one.config)
    (same_openings : other.openings ≡ one.openings) (story : Merged one other) where
  merging : LearnsPlainLoad 0 story.last (merges story.told.looked (dealt story.told.learned)) story.all
  merging =
      subst (λ (view : View). LearnsPlainLoad 0 story.last (merges view (dealt story.told.learned)) story.all) story.told.same
      (subst (λ (view : View). LearnsPlainLoad 0 story.last (merges story.told.noted view) story.all) story.told.is_dealt story.merging)

  learned_so : LearnsPlainLoad 0 story.told.others (learns other (note story.told.looked)) story.told.learned
  learned_so = learning one other theirs others same_config story.told

  its_own : ((dealt story.told.learned).tokens ≡ other.tokens) × ((dealt story.told.learned).mine ≡ other.mine)
  its_own = same_its one other theirs others same_config story.told

  first : (token : WorkerToken) × (story.told.looked.tokens ≡ token ∷ [])
  first = let some = one_token one.tokens own.0 own.1 ones in (some.0, story.told.looking.same_token ∙ some.1)

  last_one : (token : WorkerToken) × ((dealt story.told.learned).tokens ≡ token ∷ [])
  last_one = let some = one_token other.tokens theirs.0 theirs.1 others in (some.0, its_own.0 ∙ some.1)

  apart : first.0.worker ≢ last_one.0.worker
  apart = apart_so story.all first.0 last_one.0 (merging.same_token ∙ (λ i. first.1 i ++ last_one.1 i)) merging.right

  again : ((dealt (merges story.told.looked (dealt story.told.learned))).tokens ≡ story.told.looked.tokens) × ((dealt (merges story.told.looked (dealt story.told.learned))).mine ≡ story.told.looked.mine)
      × ((left_over (merges story.told.looked (dealt story.told.learned))).tokens ≡ (dealt story.told.learned).tokens) × ((left_over (merges story.told.looked (dealt story.told.learned))).mine ≡ (dealt story.told.learned).mine)
      × (story.told.looked.files ≡ [] → (dealt story.told.learned).files ≡ [] → ((dealt (merges story.told.looked (dealt story.told.learned))).files ≡ []) × ((left_over (merges story.told.looked (dealt story.told.learned))).files ≡ []))
  again = merged_parts_again story.told.looked (dealt story.told.learned) first.0 last_one.0 first.1 last_one.1 apart story.told.looking.right (dealt_right story.told.learned learned_so.right)

  keeps_first : ExtendsView one story.all
  keeps_first = keeps_on one story.told.looked story.all (keeps_so one story.told.looked story.told.looking.goes_on) (record {
    same_config = merging.goes_on.same_config;
    same_openings = merging.goes_on.same_openings;
    seen = λ tenant low.
        begins_on (seen_at story.told.looked.seen tenant) (seen_at story.told.learned.seen tenant) (seen_at story.all.seen tenant) (no_less one other theirs others same_config story.told tenant low)
        (merging.goes_on.seen tenant low);
    known_run = on_again story.told.looked.known_run story.told.learned.known_run story.all.known_run learned_so.learned_run merging.goes_on.known_run;
  })

  -- if neither had a file, neither has one then
  pub none_held : one.files ≡ [] → story.all.files ≡ []
  none_held free = merging.same_files ∙ (λ i. (story.told.looking.same_files ∙ free) i ++ [])

  pub one_met : LearnsMeeting one (dealt story.all)
  one_met = record {
    keeps = record { same_config = keeps_first.same_config; same_openings = keeps_first.same_openings; seen = keeps_first.seen; known_run = keeps_first.known_run };
    behind = behind_dealt story.all merging.goes_on.behind;
    right = dealt_right story.all merging.right;
    same_token = ap head_of merging.same_token ∙ again.0 ∙ story.told.looking.same_token;
    same_mine = (λ i. of_head (merging.same_token i) (merging.same_mine i)) ∙ again.1 ∙ story.told.looking.same_mine;
  }

  pub other_met : LearnsMeeting other (left_over story.all)
  other_met = record {
    keeps = record {
      same_config = keeps_first.same_config ∙ sym same_config;
      same_openings = keeps_first.same_openings ∙ sym same_openings;
      seen = λ tenant low.
          let there = subst (λ (config : Config). tenant < tenants_of config) (same_config ∙ sym story.told.looking.goes_on.same_config) low in
          begins_on (seen_at other.seen tenant) (seen_at story.told.learned.seen tenant) (seen_at story.all.seen tenant) (learned_so.goes_on.seen tenant low) (merging.goes_on.seen tenant there);
      known_run = on_again other.known_run story.told.learned.known_run story.all.known_run learned_so.goes_on.known_run merging.goes_on.known_run;
    };
    behind = behind_left story.all merging.goes_on.behind;
    right = left_right story.all merging.right;
    same_token = ap rest_of merging.same_token ∙ again.2 ∙ its_own.0;
    same_mine = (λ i. of_rest (merging.same_token i) (merging.same_mine i)) ∙ again.3 ∙ its_own.1;
  }

  together : IsRight (merges (dealt story.all) (left_over story.all))
  together =
      let mine : (dealt story.all).mine ++ (left_over story.all).mine ≡ story.all.mine =
      (λ i. (one_met.same_mine ∙ sym story.told.looking.same_mine) i ++ (other_met.same_mine ∙ sym its_own.1) i) ∙ sym merging.same_mine in
      subst IsRight (sym (λ i. record story.all { tokens = parted story.all.tokens i; told = story.all.seen; learned_run = story.all.known_run; mine = mine i })) (learns_right story.all story.all merging.right)

  pub have_met : HaveMet (dealt story.all) (left_over story.all)
  have_met = record { same_seen = refl; same_known_run = refl; right = together; own = changes_are_own (merges (dealt story.all) (left_over story.all)) together }
