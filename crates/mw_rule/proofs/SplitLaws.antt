-- The table's rule (`specs/Rule`) holds of a new table. Plain loads, and splitting and merging what threads know, keep it.
-- Used by: what_is_known_is_parted, steps_keep_the_rule, tables_start_under_the_rule, the_run_goes_on, mw_table.
use Rattle.std.specs.Prelude.{true, false, ℕ, zero, suc, ◌+◌, ◌≡◌, ◌≤◌, ◌<◌, ◌==◌, List, [], ◌∷◌, ◌++◌, length, slice_index, slice_set, Option, Some, None}
use Rattle.std.proofs.Common.{refl, sym, ap, subst, ◌∙◌, append-nil, ◌⊎◌, inl, inr, arith}
use Rattle.std.proofs.lemmas.Bool.Decides.{nat_tests}
use Rattle.std.proofs.lemmas.List.{set-get_or}
use mathlib.Core.Option.{some, some-injective, some-ne-none}
use lib.ListN.{get_elem?}
use Rattle.atomic_table.specs.Table.{State as Table, keeps}
use Rattle.atomic_table.proofs.Lists.{at_set, at_snoc}
use Rattle.mw_words.specs.declared.places.At.{At}
use Rattle.mw_look.specs.Places.{pack}
use Rattle.mw_actor.specs.ActorState.{ActorState}
use Rattle.mw_world.specs.declared.config.Config.{Config}
use Rattle.mw_world.specs.Claim.Headline.{IsExecution}
use Rattle.mw_world.specs.Definition.Cells.{read}
use Rattle.mw_world.specs.Definition.Extent.{has_place}
use Rattle.mw_world.specs.Definition.Events.{WorldEvent}
use Rattle.mw_world.specs.Definition.State.{State, TenantStart, WorkerState, tenants_of, world_at}
use Rattle.mw_rule.proofs.FromLaws.{requests_have_begun, same_or_other}
use Rattle.mw_rule.specs.FromLaws.{IsBeginning, SealedChange, sealed_of}
use Rattle.mw_rule.specs.declared.views.PlainLoad.{PlainLoad}
use Rattle.mw_rule.specs.declared.views.HeldFile.{HeldFile}
use Rattle.mw_rule.specs.declared.views.View.{View}
use Rattle.mw_rule.specs.Steps.{ExtendsWithLearned, IsPrefix, StoodThere}
use Rattle.mw_rule.specs.RunEvents.{JoinsOn, PlainLoadsGoOn, PartsOn}
use Rattle.mw_rule.specs.Layout.{index_of}
use Rattle.mw_rule.specs.Splits.{without_file, takes_files, dealt, with_file_given, first_held, merges, head_of, learns, left_over, maker, meets, note, of_head, of_rest, other_held, tokens_from, token_of, rest_of, spent}
use Rattle.mw_rule.specs.Laws.{TakingFilesKeepsTheRule, SplitsKeepTheRule, GivingFilesKeepsTheRule, MergingKeepsTheRule, LearningKeepsTheRule, PlainLoadsKeepTheRule, MeetingKeepsTheRule, NotesKeepTheRule, StartsUnderTheRule}
use Rattle.mw_rule.specs.KnownRuns.{ExtendsKnownRun, known_run_of}
use Rattle.mw_rule.specs.Rule.{Continues, Each, Fits, has, HasEvidenceFor, Holds, holds_of, HoldsFile, IsHandedOut, IsLive, IsOver, IsRight, IsRunOf, IsSpent, notes_of, TableInvariant, BitsMatch, times, times_held, total, weight, WentOnFor}
use Rattle.mw_rule.specs.Prefixes.{Gave, HasBegunFor, opening_at, seen_at}
use Rattle.mw_rule.proofs.KnownRunLaws.{stays}
use Rattle.mw_rule.proofs.KnowledgeIsRight.{without_file_right, takes_files_right, dealt_right, with_file_given_right, merges_right, learns_right, left_right, meets_right, mine_in, note_right, nothing_right, sees_right}
use Rattle.mw_rule.proofs.Totals.{each_head, each_more, each_rest, heads_and_rests, times_behind, times_more, total_more, total_set, total_two, weight_none}
use Rattle.mw_rule.proofs.FinishedRequests.{each_of_head, each_of_rest, parts_sum}
use Rattle.mw_rule.proofs.RunsBehind.{behind_so}
use Rattle.mw_rule.proofs.ViewAfterStep.{all_at, all_seen, live_fits, prefix_of_all, sees}

-- the rule of the same words, when threads know other things of the same world
other_views : (config : Config) (begun : (ℕ → TenantStart) → List WorldEvent → Type 0) (s now : Table ActorState View) (tied : TableInvariant config begun s) → now.words ≡ s.words
    → ((id : ℕ) (view : View) → get_elem? now.views id ≡ some view → IsSpent view ⊎ Fits config tied.past.openings tied.state tied.events view)
    → ((id : ℕ) (view : View) → get_elem? now.views id ≡ some view → IsRunOf config tied.past.openings tied.past.before tied.events view) → ((worker : ℕ) → total (has worker) now.views ≤ 1)
    → ((tenant request : ℕ) → total (notes_of tenant request) now.views ≤ 1) → ((tenant : ℕ) → total (holds_of tenant) now.views ≤ 1) → Continues config begun s tied [] now
other_views config begun s now tied same fits known alone once one_hand = record { after = kept; same_openings = refl; same_before = refl; events = sym (append-nil tied.events) }
  where
    kept : TableInvariant config begun now
    kept = record {
      state = tied.state;
      events = tied.events;
      past = tied.past;
      long = ap length same ∙ tied.long;
      ties = subst (BitsMatch config tied.state.cells) (sym same) tied.ties;
      fits = fits;
      known = known;
      alone = alone;
      once = once;
      one_hand = one_hand;
    }

-- the bits at an index, by the configuration that the thread knows
stood_there : (config : Config) (openings : ℕ → TenantStart) (events : List WorldEvent) (state : State) (view : View) (index bits : ℕ) → view.config ≡ config → IsExecution config openings events state
    → ((tenant : ℕ) → tenant < tenants_of config → Gave openings state tenant (opening_at view.openings tenant))
    → ((tenant : ℕ) → tenant < tenants_of config → seen_at view.seen tenant ≡ sealed_of openings state tenant)
    → ((at : At) → has_place config at ≡ true → index_of config.pool at ≡ index → bits ≡ pack at (read state.cells at)) → Each (HoldsFile config state) view.files → StoodThere view index bits
stood_there config openings events state view index bits same played gave all is files = record {
  openings = openings;
  events = events;
  state = state;
  played = subst (λ (one : Config). IsExecution one openings events state) (sym same) played;
  gave = subst (λ (one : Config). (tenant : ℕ) → tenant < tenants_of one → Gave openings state tenant (opening_at view.openings tenant)) (sym same) gave;
  seen = subst (λ (one : Config). (tenant : ℕ) → tenant < tenants_of one → seen_at view.seen tenant ≡ sealed_of openings state tenant) (sym same) all;
  same_bits = subst (λ (one : Config). (at : At) → has_place one at ≡ true → index_of one.pool at ≡ index → bits ≡ pack at (read state.cells at)) (sym same) is;
  files = subst (λ (one : Config). Each (HoldsFile one state) view.files) (sym same) files;
}

-- a thread that knows a table's run knows it when nothing has happened
for_looker : (config : Config) (begun : (ℕ → TenantStart) → List WorldEvent → Type 0) (s : Table ActorState View) (tied : TableInvariant config begun s) (next : Table ActorState View) (view : View)
    → view.known_run ≡ Some (known_run_of config tied.past.openings tied.past.before tied.events) → Continues config begun s tied [] next → WentOnFor config begun s tied [] next view
for_looker config begun s tied next view known_run on = record {
  on = on;
  known_run = known_run ∙ (λ i. Some (known_run_of config (sym on.same_openings i) (sym on.same_before i) (sym (on.events ∙ append-nil tied.events) i)));
}

-- A load that is no event, after which the thread holds these files and has these loads.
pub record LooksAs (config : Config) (begun : (ℕ → TenantStart) → List WorldEvent → Type 0) (s : Table ActorState View) (tied : TableInvariant config begun s) (id index bits : ℕ) (old : View) (files : List HeldFile) (plain_loads : List PlainLoad) : Type 0 where
  pub view : View
  pub goes_on : ExtendsWithLearned old view
  pub learned_run : ExtendsKnownRun old.learned_run view.known_run
  pub stood : StoodThere view index (slice_index s.words index)
  pub right : IsRight view
  pub same_token : view.tokens ≡ old.tokens
  pub same_mine : view.mine ≡ old.mine
  pub same_files : view.files ≡ files
  pub same_plain_loads : view.plain_loads ≡ plain_loads
  pub run : WentOnFor config begun s tied [] (record { words = slice_set s.words index bits; homes = s.homes; views = slice_set s.views id view }) view

pub looks_as : (config : Config) (begun : (ℕ → TenantStart) → List WorldEvent → Type 0) (id index : ℕ) (view : View) (make : ℕ → ℕ) (files : List HeldFile) (plain_loads : List PlainLoad) → IsLive view → ((bits : ℕ) → make bits ≡ bits)
    → (s : Table ActorState View) (tied : TableInvariant config begun s) → get_elem? s.views id ≡ some view → ((tenant : ℕ) → times_held tenant files ≡ holds_of tenant view) → Each (HoldsFile config tied.state) files
    → LooksAs config begun s tied id index (make (slice_index s.words index)) view files plain_loads
looks_as config begun id index view make files plain_loads live makes s tied at same_file_token hold_files =
    let openings = tied.past.openings in
    let sealed = sealed_of openings tied.state in
    let fits = live_fits config openings tied.state tied.events view live (tied.fits id view at) in
    let known_run = known_run_of config openings tied.past.before tied.events in
    let follows = tied.known id view at in
    let new = record (sees config sealed known_run view view.tokens view.mine files) { plain_loads = plain_loads } in
    let before = tied.past.before ++ tied.events in
    let right = sees_right config openings tied.state new fits.same_config fits.gave before tied.past.played (all_at sealed (tenants_of config))
    (mine_in config openings tied.state view fits.same_config fits.gave fits.seen view.mine fits.right.mine) fits.right.once fits.right.own fits.right.alone in
    let new_fits : Fits config openings tied.state tied.events new =
    record { same_config = fits.same_config; gave = fits.gave; token = fits.token; seen = all_seen sealed (tenants_of config); told = fits.told; right = right; over = fits.over; files = hold_files } in
    let bits = slice_index s.words index in
    let words : slice_set s.words index (make bits) ≡ s.words = ap (slice_set s.words index) (makes bits) ∙ set-get_or s.words index 0 in
    record {
      view = new;
      goes_on = record {
        same_config = refl;
        same_openings = refl;
        same_spent = refl;
        same_told = refl;
        seen = prefix_of_all config sealed view.config fits.same_config view.seen fits.seen;
        told = prefix_of_all config sealed view.config fits.same_config view.told fits.told;
        known_run = follows.known;
        behind = behind_so config openings tied.past.before tied.events tied.state new new_fits tied.past.played tied.past.no_starts refl follows.handed;
      };
      learned_run = follows.told;
      stood = stood_there config openings before tied.state new index bits fits.same_config tied.past.played fits.gave (all_at sealed (tenants_of config)) (λ place there is. sym (ap (slice_index s.words) is) ∙ tied.ties place there) hold_files;
      right = right;
      same_token = refl;
      same_mine = refl;
      same_files = refl;
      same_plain_loads = refl;
      run = for_looker config begun s tied _ new refl (other_views config begun s (record { words = slice_set s.words index (make bits); homes = s.homes; views = slice_set s.views id new }) tied words
          (λ other one is. elim (at_set s.views id other new one is) [
            | inl here ↦ inr (subst (Fits config openings tied.state tied.events) here.1 new_fits)
            | inr else ↦ tied.fits other one else.1
          ])
          (λ other one is. elim (at_set s.views id other new one is) [
            | inl here ↦ subst (IsRunOf config openings tied.past.before tied.events) here.1 (record { known = stays (Some known_run); told = follows.told; handed = follows.handed })
            | inr else ↦ tied.known other one else.1
          ]) (λ worker. let sums = total_set (has worker) s.views id view new at in let all = tied.alone worker in omega (arith, sums, all))
          (λ tenant request. let sums = total_set (notes_of tenant request) s.views id view new at in let all = tied.once tenant request in omega (arith, sums, all))
          (λ tenant. let sums = total_set (holds_of tenant) s.views id view new at in let all = tied.one_hand tenant in let even = same_file_token tenant in omega (arith, sums, all, even)));
    }

pub looks_on : (config : Config) (begun : (ℕ → TenantStart) → List WorldEvent → Type 0) → PlainLoadsGoOn config begun
looks_on config begun id index view make live makes s tied at =
    let fits = live_fits config tied.past.openings tied.state tied.events view live (tied.fits id view at) in
    let looks = looks_as config begun id index view make view.files (view.plain_loads ++ record { index = index; bits = slice_index s.words index } ∷ []) live makes s tied at (λ tenant. refl) fits.files in
    record {
      new = looks.view;
      is_told = record {
        goes_on = looks.goes_on;
        learned_run = looks.learned_run;
        stood = looks.stood;
        plain_loads = looks.same_plain_loads;
        right = looks.right;
        same_token = looks.same_token;
        same_mine = looks.same_mine;
        same_files = looks.same_files;
      };
      run = looks.run;
    }

pub looks_keep : (config : Config) (begun : (ℕ → TenantStart) → List WorldEvent → Type 0) → PlainLoadsKeepTheRule config begun
looks_keep config begun slots id index me make live makes s tied homes at low =
    let on = looks_on config begun id index me.0 make live makes s tied at in (on.new, keeps, tt, on.run.on.after, on.is_told)

-- A thread's knowledge is split into two parts. Both are true if the whole is, and they share its tokens.
parts_on : (config : Config) (begun : (ℕ → TenantStart) → List WorldEvent → Type 0) (id : ℕ) (view left right : View)
    → ((openings : ℕ → TenantStart) (state : State) (events : List WorldEvent) → IsSpent view ⊎ Fits config openings state events view
    → (IsSpent left ⊎ Fits config openings state events left) × (IsSpent right ⊎ Fits config openings state events right))
    → ((openings : ℕ → TenantStart) (before events : List WorldEvent) → IsRunOf config openings before events view → IsRunOf config openings before events left × IsRunOf config openings before events right)
    → ((worker : ℕ) → has worker left + has worker right ≡ has worker view)
    → ((tenant request : ℕ) → notes_of tenant request left + notes_of tenant request right ≡ notes_of tenant request view)
    → ((tenant : ℕ) → holds_of tenant left + holds_of tenant right ≡ holds_of tenant view) → (s : Table ActorState View) (tied : TableInvariant config begun s) → get_elem? s.views id ≡ some view
    → Continues config begun s tied [] (record { words = s.words; homes = s.homes; views = slice_set s.views id left ++ right ∷ [] })
parts_on config begun id view left right fit follow sums notes holds s tied at =
    let both = fit tied.past.openings tied.state tied.events (tied.fits id view at) in
    let two = follow tied.past.openings tied.past.before tied.events (tied.known id view at) in
    let So : View → Type 0 = λ one. IsSpent one ⊎ Fits config tied.past.openings tied.state tied.events one in
    other_views config begun s (record { words = s.words; homes = s.homes; views = slice_set s.views id left ++ right ∷ [] }) tied refl
    (λ other one is. elim (at_snoc (slice_set s.views id left) right one other is) [
      | inl before ↦ elim (at_set s.views id other left one before) [
        | inl here ↦ subst So here.1 both.0
        | inr else ↦ tied.fits other one else.1
      ]
      | inr last ↦ subst So last both.1
    ])
    (λ other one is. elim (at_snoc (slice_set s.views id left) right one other is) [
      | inl before ↦ elim (at_set s.views id other left one before) [
        | inl here ↦ subst (IsRunOf config tied.past.openings tied.past.before tied.events) here.1 two.0
        | inr else ↦ tied.known other one else.1
      ]
      | inr last ↦ subst (IsRunOf config tied.past.openings tied.past.before tied.events) last two.1
    ])
    (λ worker.
    let first = total_set (has worker) s.views id view left at in
    let second = total_more (has worker) (slice_set s.views id left) right in
    let all = tied.alone worker in
    let even = sums worker in omega (arith, first, second, all, even))
    (λ tenant request.
    let first = total_set (notes_of tenant request) s.views id view left at in
    let second = total_more (notes_of tenant request) (slice_set s.views id left) right in
    let all = tied.once tenant request in
    let even = notes tenant request in omega (arith, first, second, all, even))
    (λ tenant.
    let first = total_set (holds_of tenant) s.views id view left at in
    let second = total_more (holds_of tenant) (slice_set s.views id left) right in
    let all = tied.one_hand tenant in
    let even = holds tenant in omega (arith, first, second, all, even))

pub deals_on : (config : Config) (begun : (ℕ → TenantStart) → List WorldEvent → Type 0) → PartsOn config begun (λ view. Unit {0}) left_over dealt
deals_on config begun id view any = parts_on config begun id view (left_over view) (dealt view) (λ openings state events fit. elim fit [
  | inl gone ↦ (
    inl (record { flag = gone.flag; no_tokens = ap rest_of gone.no_tokens; no_mine = (λ i. of_rest (gone.no_tokens i) (gone.no_mine i)) }),
    inl (record { flag = gone.flag; no_tokens = ap head_of gone.no_tokens; no_mine = (λ i. of_head (gone.no_tokens i) (gone.no_mine i)) }),
  )
  | inr fits ↦ (
    inr (record { same_config = fits.same_config; gave = fits.gave; token = each_rest (Holds config openings state events) view.tokens fits.token; seen = fits.seen; told = fits.told; right = left_right view fits.right; over = each_of_rest (IsOver state) view.tokens view.mine fits.over; files = fits.files }),
    inr (record { same_config = fits.same_config; gave = fits.gave; token = each_head (Holds config openings state events) view.tokens fits.token; seen = fits.seen; told = fits.told; right = dealt_right view fits.right; over = each_of_head (IsOver state) view.tokens view.mine fits.over; files = tt }),
  )
]) (λ openings before events is. (
  record { known = is.known; told = is.told; handed = each_of_rest (IsHandedOut config (world_at config openings) (before ++ events)) view.tokens view.mine is.handed },
  record { known = is.known; told = is.told; handed = each_of_head (IsHandedOut config (world_at config openings) (before ++ events)) view.tokens view.mine is.handed },
)) (λ worker. heads_and_rests worker view.tokens) (λ tenant request. parts_sum tenant request view.tokens view.mine) (λ tenant. omega arith)

pub deals_keep : (config : Config) (begun : (ℕ → TenantStart) → List WorldEvent → Type 0) → SplitsKeepTheRule config begun
deals_keep config begun id view s tied at = (deals_on config begun id view tt s tied at).after

pub notes_on : (config : Config) (begun : (ℕ → TenantStart) → List WorldEvent → Type 0) → PartsOn config begun IsLive (λ view. view) note
notes_on config begun id view live = parts_on config begun id view view (note view) (λ openings state events fit.
    let fits = live_fits config openings state events view live fit in (
      inr fits,
      inr (record { same_config = fits.same_config; gave = fits.gave; token = tt; seen = fits.seen; told = fits.told; right = note_right view fits.right; over = tt; files = tt }),
    )) (λ openings before events is. (is, record { known = is.known; told = is.told; handed = tt })) (λ worker. omega arith) (λ tenant request. omega arith) (λ tenant. omega arith)

pub notes_keep : (config : Config) (begun : (ℕ → TenantStart) → List WorldEvent → Type 0) → NotesKeepTheRule config begun
notes_keep config begun id view live s tied at = (notes_on config begun id view live s tied at).after

-- One file goes, and no token.
held_apart : (tenant : ℕ) (all : List HeldFile) → times_held tenant (other_held all) + times_held tenant (first_held all) ≡ times_held tenant all
held_apart tenant [] = refl
held_apart tenant (one ∷ rest) = omega arith

first_holds : (P : HeldFile → Type 0) (all : List HeldFile) → Each P all → Each P (first_held all)
first_holds P [] holds = tt
first_holds P (one ∷ rest) holds = (holds.0, tt)

others_hold_files : (P : HeldFile → Type 0) (all : List HeldFile) → Each P all → Each P (other_held all)
others_hold_files P [] holds = tt
others_hold_files P (one ∷ rest) holds = holds.1

pub giving_files_on : (config : Config) (begun : (ℕ → TenantStart) → List WorldEvent → Type 0) → PartsOn config begun IsLive without_file with_file_given
giving_files_on config begun id view live = parts_on config begun id view (without_file view) (with_file_given view) (λ openings state events fit.
    let fits = live_fits config openings state events view live fit in (
      inr (record {
        same_config = fits.same_config;
        gave = fits.gave;
        token = fits.token;
        seen = fits.seen;
        told = fits.told;
        right = without_file_right view fits.right;
        over = fits.over;
        files = others_hold_files (HoldsFile config state) view.files fits.files;
      }),
      inr (record {
        same_config = fits.same_config;
        gave = fits.gave;
        token = tt;
        seen = fits.seen;
        told = fits.told;
        right = with_file_given_right view fits.right;
        over = tt;
        files = first_holds (HoldsFile config state) view.files fits.files;
      }),
    )) (λ openings before events is. (record { known = is.known; told = is.told; handed = is.handed }, record { known = is.known; told = is.told; handed = tt })) (λ worker. omega arith) (λ tenant request. omega arith) (λ tenant. held_apart tenant view.files)

pub giving_files_keeps : (config : Config) (begun : (ℕ → TenantStart) → List WorldEvent → Type 0) → GivingFilesKeepsTheRule config begun
giving_files_keeps config begun id view live s tied at = (giving_files_on config begun id view live s tied at).after

-- Two threads' knowledge is merged. The result is true if both are, and it has no tokens but theirs.
joins_on : (config : Config) (begun : (ℕ → TenantStart) → List WorldEvent → Type 0) (id other : ℕ) (view its both : View) → IsLive view → IsLive its
    → ((tenant request : ℕ) → notes_of tenant request both ≤ notes_of tenant request view + notes_of tenant request its) → ((worker : ℕ) → has worker both ≤ has worker view + has worker its)
    → ((tenant : ℕ) → holds_of tenant both ≤ holds_of tenant view + holds_of tenant its)
    → ((openings : ℕ → TenantStart) (state : State) (events : List WorldEvent) → ((tenant request : ℕ) → notes_of tenant request view + notes_of tenant request its ≤ 1)
    → ((worker : ℕ) → has worker view + has worker its ≤ 1) → Fits config openings state events view → Fits config openings state events its → Fits config openings state events both)
    → ((openings : ℕ → TenantStart) (before events : List WorldEvent) → IsRunOf config openings before events view → IsRunOf config openings before events its → IsRunOf config openings before events both) → (s : Table ActorState View) (tied : TableInvariant config begun s) → get_elem? s.views id ≡ some view → ¬ (other ≡ id)
    → get_elem? (slice_set s.views id both) other ≡ some its → Continues config begun s tied [] (record { words = s.words; homes = s.homes; views = slice_set (slice_set s.views id both) other spent })
joins_on config begun id other view its both live its_live notes sums holds fit follow s tied at apart its_at =
    let openings = tied.past.openings in
    let So : View → Type 0 = λ one. IsSpent one ⊎ Fits config openings tied.state tied.events one in
    let fits = live_fits config openings tied.state tied.events view live (tied.fits id view at) in
    let was : get_elem? s.views other ≡ some its = elim (at_set s.views id other both its its_at) [
      | inl here ↦ absurd (apart here.0)
      | inr else ↦ else.1
    ] in
    let its_fits = live_fits config openings tied.state tied.events its its_live (tied.fits other its was) in
    let few : (tenant request : ℕ) → notes_of tenant request view + notes_of tenant request its ≤ 1 =
    λ tenant request. let two = total_two (notes_of tenant request) s.views id other view its apart at was in let all = tied.once tenant request in omega (arith, two, all) in
    let single : (worker : ℕ) → has worker view + has worker its ≤ 1 =
    λ worker. let two = total_two (has worker) s.views id other view its apart at was in let all = tied.alone worker in omega (arith, two, all) in
    other_views config begun s (record { words = s.words; homes = s.homes; views = slice_set (slice_set s.views id both) other spent }) tied refl
    (λ third one is. elim (at_set (slice_set s.views id both) other third spent one is) [
      | inl here ↦ inl (subst IsSpent here.1 (record { flag = refl; no_tokens = refl; no_mine = refl }))
      | inr else ↦ elim (at_set s.views id third both one else.1) [
        | inl there ↦ inr (subst (Fits config openings tied.state tied.events) there.1 (fit openings tied.state tied.events few single fits its_fits))
        | inr third_one ↦ tied.fits third one third_one.1
      ]
    ])
    (λ third one is. elim (at_set (slice_set s.views id both) other third spent one is) [
      | inl here ↦ subst (IsRunOf config openings tied.past.before tied.events) here.1 (record { known = tt; told = tt; handed = tt })
      | inr else ↦ elim (at_set s.views id third both one else.1) [
        | inl there ↦ subst (IsRunOf config openings tied.past.before tied.events) there.1 (follow openings tied.past.before tied.events (tied.known id view at) (tied.known other its was))
        | inr third_one ↦ tied.known third one third_one.1
      ]
    ])
    (λ worker.
    let first = total_set (has worker) s.views id view both at in
    let second = total_set (has worker) (slice_set s.views id both) other its spent its_at in
    let no_more = sums worker in
    let all = tied.alone worker in omega (arith, first, second, no_more, all))
    (λ tenant request.
    let first = total_set (notes_of tenant request) s.views id view both at in
    let second = total_set (notes_of tenant request) (slice_set s.views id both) other its spent its_at in
    let no_more = notes tenant request in
    let all = tied.once tenant request in omega (arith, first, second, no_more, all))
    (λ tenant.
    let first = total_set (holds_of tenant) s.views id view both at in
    let second = total_set (holds_of tenant) (slice_set s.views id both) other its spent its_at in
    let no_more = holds tenant in
    let all = tied.one_hand tenant in omega (arith, first, second, no_more, all))

pub learning_on : (config : Config) (begun : (ℕ → TenantStart) → List WorldEvent → Type 0) → JoinsOn config begun (λ view its. its.tokens ≡ []) learns
learning_on config begun id other view its live its_live may = joins_on config begun id other view its (learns view its) live its_live (λ tenant request. omega arith) (λ worker. omega arith) (λ tenant. omega arith)
    (λ openings state events few single fits its_fits. record {
      same_config = fits.same_config;
      gave = fits.gave;
      token = fits.token;
      seen = fits.seen;
      told = its_fits.seen;
      right = learns_right view its fits.right;
      over = fits.over;
      files = fits.files;
    }) (λ openings before events own its. record { known = own.known; told = its.known; handed = own.handed })

pub meeting_on : (config : Config) (begun : (ℕ → TenantStart) → List WorldEvent → Type 0) → JoinsOn config begun (λ view its. (its.tokens ≡ []) × IsPrefix (tenants_of view.config) view.seen its.seen) meets
meeting_on config begun id other view its live its_live may = joins_on config begun id other view its (meets view its) live its_live (λ tenant request. omega arith) (λ worker. omega arith) (λ tenant. omega arith)
    (λ openings state events few single fits its_fits. record {
      same_config = fits.same_config;
      gave = fits.gave;
      token = fits.token;
      seen = its_fits.seen;
      told = its_fits.seen;
      right = meets_right view its (λ tenant low. let there = subst (λ (c : Config). tenant < tenants_of c) fits.same_config low in sym (its_fits.gave tenant there).words ∙ (fits.gave tenant there).words)
          (its_fits.same_config ∙ sym fits.same_config) may.1 fits.right its_fits.right;
      over = fits.over;
      files = fits.files;
    }) (λ openings before events own its. record { known = its.known; told = its.known; handed = own.handed })

held_behind : (tenant : ℕ) (all more : List HeldFile) → times_held tenant (all ++ more) ≡ times_held tenant all + times_held tenant more
held_behind tenant [] more = omega arith
held_behind tenant (one ∷ all) more = let rest = held_behind tenant all more in omega (arith, rest)

pub merging_on : (config : Config) (begun : (ℕ → TenantStart) → List WorldEvent → Type 0) → JoinsOn config begun (λ view its. IsPrefix (tenants_of view.config) view.seen its.seen) merges
merging_on config begun id other view its live its_live first = joins_on config begun id other view its (merges view its) live its_live
    (λ tenant request. let sum = times_more tenant request view.mine its.mine in omega (arith, sum)) (λ worker. let sum = times_behind worker view.tokens its.tokens in omega (arith, sum))
    (λ tenant. let sum = held_behind tenant view.files its.files in omega (arith, sum))
    (λ openings state events few single fits its_fits. record {
      same_config = fits.same_config;
      gave = fits.gave;
      token = each_more (Holds config openings state events) view.tokens its.tokens fits.token its_fits.token;
      seen = its_fits.seen;
      told = its_fits.seen;
      right = merges_right view its
          (λ tenant low. let there = subst (λ (c : Config). tenant < tenants_of c) fits.same_config low in sym (its_fits.gave tenant there).quota ∙ (fits.gave tenant there).quota)
          (λ tenant low. let there = subst (λ (c : Config). tenant < tenants_of c) fits.same_config low in sym (its_fits.gave tenant there).words ∙ (fits.gave tenant there).words)
          (its_fits.same_config ∙ sym fits.same_config) first few single fits.right its_fits.right;
      over = each_more (IsOver state) view.mine its.mine fits.over its_fits.over;
      files = each_more (HoldsFile config state) view.files its.files fits.files its_fits.files;
    }) (λ openings before events own theirs.
    record { known = theirs.known; told = theirs.known; handed = each_more (IsHandedOut config (world_at config openings) (before ++ events)) view.mine its.mine own.handed theirs.handed })

pub taking_files_on : (config : Config) (begun : (ℕ → TenantStart) → List WorldEvent → Type 0) → JoinsOn config begun (λ view its. Unit {0}) takes_files
taking_files_on config begun id other view its live its_live may = joins_on config begun id other view its (takes_files view its) live its_live (λ tenant request. omega arith) (λ worker. omega arith)
    (λ tenant. let sum = held_behind tenant view.files its.files in omega (arith, sum))
    (λ openings state events few single fits its_fits. record {
      same_config = fits.same_config;
      gave = fits.gave;
      token = fits.token;
      seen = fits.seen;
      told = fits.told;
      right = takes_files_right view its fits.right;
      over = fits.over;
      files = each_more (HoldsFile config state) view.files its.files fits.files its_fits.files;
    }) (λ openings before events own its. record { known = own.known; told = its.known; handed = own.handed })

pub taking_files_keeps : (config : Config) (begun : (ℕ → TenantStart) → List WorldEvent → Type 0) → TakingFilesKeepsTheRule config begun
taking_files_keeps config begun id other view its live its_live s tied at apart its_at = (taking_files_on config begun id other view its live its_live tt s tied at apart its_at).after

pub merging_keeps : (config : Config) (begun : (ℕ → TenantStart) → List WorldEvent → Type 0) → MergingKeepsTheRule config begun
merging_keeps config begun id other view its live its_live first s tied at apart its_at = (merging_on config begun id other view its live its_live first s tied at apart its_at).after

pub learning_keeps : (config : Config) (begun : (ℕ → TenantStart) → List WorldEvent → Type 0) → LearningKeepsTheRule config begun
learning_keeps config begun id other view its live its_live none s tied at apart its_at = (learning_on config begun id other view its live its_live none s tied at apart its_at).after

pub meeting_keeps : (config : Config) (begun : (ℕ → TenantStart) → List WorldEvent → Type 0) → MeetingKeepsTheRule config begun
meeting_keeps config begun id other view its live its_live none first s tied at apart its_at = (meeting_on config begun id other view its live its_live (none, first) s tied at apart its_at).after

-- The first thread has the token of each worker once.
module _ (config : Config) (openings : ℕ → TenantStart) (before : List WorldEvent) (state : State) (played : IsExecution config openings before state) (worker_states : ℕ → WorkerState)
    (same : (worker : ℕ) → worker < config.workers → worker_states worker ≡ state.worker_states worker) where
  begun_before : (worker : ℕ) (actor : Option ActorState) → (state.worker_states worker).actor ≡ actor → HasBegunFor openings state worker 0 actor
  begun_before worker None sits = tt
  begun_before worker (Some actor) sits = let begun = requests_have_begun config openings before state worker actor played sits in record { sealed = begun.0; no_fewer = omega arith; came = begun.1 }

  -- nothing is known of what the request's steps found before
  not_whole : (worker : ℕ) (actor : Option ActorState) → HasEvidenceFor (token_of worker (worker_states worker)) actor
  not_whole worker None = tt
  not_whole worker (Some actor) = λ whole. absurd (false_true whole)
    where
      false_true : false ≡ true → ⊥
      false_true e = cc

  one_holds : (worker : ℕ) → worker < config.workers → Holds config openings state [] (token_of worker (worker_states worker))
  one_holds worker low =
      let sits = ap (λ (worker_state : WorkerState). worker_state.actor) (sym (same worker low)) in
      record {
        there = low;
        actor = sits;
        attempt = ap (λ (worker_state : WorkerState). worker_state.attempt) (sym (same worker low));
        request = ap (λ (worker_state : WorkerState). worker_state.request) (sym (same worker low));
        made = refl;
        begun = begun_before worker (worker_states worker).actor sits;
        evidence = not_whole worker (worker_states worker).actor;
      }

  all_hold : (first left : ℕ) → first + left ≤ config.workers → Each (Holds config openings state []) (tokens_from worker_states first left)
  all_hold first zero most = tt
  all_hold first (suc left) most = (one_holds first (omega (arith, most)), all_hold (first + 1) left (omega (arith, most)))

weight_most : (one other : ℕ) → weight (one == other) ≤ 1
weight_most one other = grind (arith, nat_tests)

none_before : (worker_states : ℕ → WorkerState) (worker first left : ℕ) → worker < first → times worker (tokens_from worker_states first left) ≡ 0
none_before worker_states worker first zero low = refl
none_before worker_states worker first (suc left) low =
    let here = weight_none first worker (λ e. absurd (omega (arith, e, low))) in let rest = none_before worker_states worker (first + 1) left (omega (arith, low)) in omega (arith, here, rest)

one_each : (worker_states : ℕ → WorkerState) (worker first left : ℕ) → times worker (tokens_from worker_states first left) ≤ 1
one_each worker_states worker first zero = omega arith
one_each worker_states worker first (suc left) = elim (same_or_other first worker) [
  | inl same ↦ let rest = none_before worker_states worker (first + 1) left (omega (arith, same)) in let here = weight_most first worker in omega (arith, rest, here)
  | inr apart ↦ let here = weight_none first worker apart in let rest = one_each worker_states worker (first + 1) left in omega (arith, here, rest)
]

-- the one view of a new table
the_one : (one view : View) (id : ℕ) → get_elem? (one ∷ []) id ≡ some view → one ≡ view
the_one one view zero is = some-injective one view is
the_one one view (suc id) is = absurd (some-ne-none view (sym is))

nothing_first : (tenants : ℕ) (sealed : ℕ → List SealedChange) (tenant : ℕ) → tenant < tenants → IsBeginning (seen_at [] tenant) (sealed tenant)
nothing_first tenants sealed tenant low = record { rest = sealed tenant; parted = refl }

pub starts : (config : Config) (begun : (ℕ → TenantStart) → List WorldEvent → Type 0) → StartsUnderTheRule config begun
starts config begun openings before state given known_run worker_states files words began known played gave same files_fit one_each_file long ties =
    let all_fit : Fits config openings state [] (maker config given known_run worker_states files) = record {
      same_config = refl;
      gave = gave;
      token = all_hold config openings before state played worker_states same 0 config.workers (omega arith);
      seen = nothing_first (tenants_of config) (sealed_of openings state);
      told = nothing_first (tenants_of config) (sealed_of openings state);
      right = record { changes = λ tenant low. nothing_right (opening_at given tenant).words; mine = tt; once = λ tenant request. omega arith; own = tt; alone = λ worker. one_each worker_states worker 0 config.workers };
      over = tt;
      files = files_fit;
    } in
    record {
      state = state;
      events = [];
      past = record { openings = openings; before = before; began = began; played = subst (λ all. IsExecution config openings all state) (sym (append-nil before)) played; no_starts = tt };
      long = long;
      ties = ties;
      fits = λ id view is. inr (subst (Fits config openings state []) (the_one (maker config given known_run worker_states files) view id is) all_fit);
      known = λ id view is. subst (IsRunOf config openings before []) (the_one (maker config given known_run worker_states files) view id is) (record { known = known; told = tt; handed = tt });
      alone = λ worker. let one = one_each worker_states worker 0 config.workers in omega (arith, one);
      once = λ tenant request. omega arith;
      one_hand = λ tenant. let one = one_each_file tenant in omega (arith, one);
    }
