-- After its own step a thread knows the whole new run and all changes sealed in it, and the table's rule (`specs/Rule`)
-- holds.
-- Used by: mw_table.
use Rattle.std.specs.Prelude.{ℕ, zero, suc, ◌+◌, ◌≡◌, ◌≢◌, ◌≤◌, ◌<◌, ◌==◌, true, false, List, [], ◌∷◌, ◌++◌, length, map, slice_index_or, slice_set, Option, Some, None}
use Rattle.std.proofs.Common.{refl, sym, ap, subst, ◌∙◌, append_assoc, ◌⊎◌, inl, inr, arith}
use Rattle.std.proofs.lemmas.List.{length-append}
use mathlib.Core.Option.{some}
use lib.ListN.{get_elem?}
use Rattle.atomic_table.specs.Table.{State as Table}
use Rattle.mw_words.specs.declared.replies.Reply.{Reply}
use Rattle.mw_look.specs.declared.observations.Got.{Got}
use Rattle.mw_actor.specs.ActorState.{ActorState}
use Rattle.mw_actor.specs.Program.{replied}
use Rattle.mw_world.specs.declared.config.Config.{Config}
use Rattle.mw_world.specs.Claim.Headline.{IsExecution}
use Rattle.mw_world.specs.Definition.Calls.{Called as CallOn, called_at}
use Rattle.mw_world.specs.Definition.Cells.{Cells}
use Rattle.mw_world.specs.Definition.Events.{WorldEvent}
use Rattle.mw_world.specs.Definition.State.{State, TenantStart, tenants_of, world_at}
use Rattle.mw_rule.specs.Calls.OtherEvents.{AreBesideFile}
use Rattle.mw_rule.proofs.Calls.CallStartLaws.{calls_have_words}
use Rattle.mw_rule.proofs.FromLaws.{runs_are_bit_exact}
use Rattle.mw_rule.specs.FromLaws.{IsBeginning, SealedChange, sealed_of}
use Rattle.mw_rule.specs.declared.views.Finished.{Finished}
use Rattle.mw_rule.specs.declared.views.HeldFile.{HeldFile}
use Rattle.mw_rule.specs.declared.views.WorkerToken.{WorkerToken}
use Rattle.mw_rule.specs.declared.views.View.{View}
use Rattle.mw_rule.specs.Steps.{ExtendsWithLearned, IsPrefix, IsReady, IsReadyAt, IsReadyFor, settled_as, stepped, told, told_as, actor_after}
use Rattle.mw_rule.specs.KnownRuns.{KnownRun, ExtendsKnownRun, known_run_of}
use Rattle.mw_rule.specs.Rule.{Each, Fits, has, Holds, holds_of, HoldsFile, IsHandedOut, IsLive, IsOfThese, IsOver, IsRight, IsSpent, notes_of, TableInvariant, BitsMatch, times, times_held, times_finished, total, weight, WentOnFor}
use Rattle.mw_rule.specs.Prefixes.{ArePrefixes, all_of, opening_at, seen_at}
use Rattle.mw_rule.proofs.KnownRunLaws.{run_with_more}
use Rattle.mw_rule.proofs.Preservation.{keep}
use Rattle.mw_rule.specs.RunBehind.{IsBehind}
use Rattle.mw_rule.proofs.HandedReplies.{handed_after}
use Rattle.mw_rule.proofs.RunsBehind.{behind_so}
use Rattle.mw_rule.proofs.WorkerStretches.{begins_itself, gave_on, over_on, past_on, played_on, seen_on}
use Rattle.mw_rule.proofs.KnowledgeIsRight.{IsRightIn, mine_in, sees_right}
use Rattle.mw_rule.proofs.RequestEvents.{Reached}
use Rattle.mw_rule.proofs.Totals.{each_more, each_on, own_once, times_more, times_none, total_none, total_one}

-- a list with one more item: a read before its end, and a read of that item
read_before : {A : Type 0} (all : List A) (last none : A) (index : ℕ) → index < length all → slice_index_or (all ++ last ∷ []) index none ≡ slice_index_or all index none
read_before [] last none index low = absurd (omega (arith, low))
read_before (one ∷ rest) last none zero low = refl
read_before (one ∷ rest) last none (suc index) low = read_before rest last none index (omega (arith, low))

read_last : {A : Type 0} (all : List A) (last none : A) (index : ℕ) → index ≡ length all → slice_index_or (all ++ last ∷ []) index none ≡ last
read_last [] last none zero is = refl
read_last [] last none (suc index) is = absurd (omega (arith, is))
read_last (one ∷ rest) last none zero is = absurd (omega (arith, is))
read_last (one ∷ rest) last none (suc index) is = read_last rest last none index (omega (arith, is))

all_long : (sealed : ℕ → List SealedChange) (tenants : ℕ) → length (all_of sealed tenants) ≡ tenants
all_long sealed zero = refl
all_long sealed (suc tenants) = let rest = all_long sealed tenants in omega (arith, rest, length-append (all_of sealed tenants) (sealed tenants ∷ []))

pub all_at : (sealed : ℕ → List SealedChange) (tenants tenant : ℕ) → tenant < tenants → seen_at (all_of sealed tenants) tenant ≡ sealed tenant
all_at sealed zero tenant low = absurd (omega (arith, low))
all_at sealed (suc tenants) tenant low = elim (same_or_below tenant tenants (omega (arith, low))) [
  | inl same ↦ read_last (all_of sealed tenants) (sealed tenants) [] tenant (same ∙ sym (all_long sealed tenants)) ∙ ap sealed (sym same)
  | inr below ↦ let long = all_long sealed tenants in read_before (all_of sealed tenants) (sealed tenants) [] tenant (omega (arith, below, long)) ∙ all_at sealed tenants tenant below
]
  where
    same_or_below : (n m : ℕ) → n ≤ m → (n ≡ m) ⊎ (n < m)
    same_or_below zero zero le = inl refl
    same_or_below zero (suc m) le = inr (omega arith)
    same_or_below (suc n) zero le = absurd (omega (arith, le))
    same_or_below (suc n) (suc m) le = elim (same_or_below n m (omega (arith, le))) [
      | inl same ↦ inl (ap suc same)
      | inr below ↦ inr (omega (arith, below))
    ]

-- The view with these tokens, finished requests and files. It has seen all that was sealed, and knows the whole run.
abbrev pub sees : Config → (ℕ → List SealedChange) → KnownRun → View → List WorkerToken → List Finished → List HeldFile → View
sees config sealed known_run old token mine files = record old { tokens = token; seen = all_of sealed (tenants_of config); known_run = Some known_run; mine = mine; files = files }

-- What was seen is a prefix of what is seen now.
pub prefix_of_all : (config : Config) (sealed : ℕ → List SealedChange) (its : Config) → its ≡ config → (seen : List (List SealedChange)) → ArePrefixes (tenants_of config) seen sealed
    → IsPrefix (tenants_of its) seen (all_of sealed (tenants_of config))
prefix_of_all config sealed its same seen first tenant low =
    let there = subst (λ (one : Config). tenant < tenants_of one) same low in
    subst (IsBeginning (seen_at seen tenant)) (sym (all_at sealed (tenants_of config) tenant there)) (first tenant there)

pub sees_on : (config : Config) (sealed : ℕ → List SealedChange) (known_run : KnownRun) (old : View) (token : List WorkerToken) (mine : List Finished) (files : List HeldFile) → old.config ≡ config → ArePrefixes (tenants_of config) old.seen sealed
    → ArePrefixes (tenants_of config) old.told sealed → ExtendsKnownRun old.known_run (Some known_run) → IsBehind (sees config sealed known_run old token mine files)
    → ExtendsWithLearned old (sees config sealed known_run old token mine files)
sees_on config sealed known_run old token mine files same seen told on behind = record {
  same_config = refl;
  same_openings = refl;
  same_spent = refl;
  same_told = refl;
  seen = prefix_of_all config sealed old.config same old.seen seen;
  told = prefix_of_all config sealed old.config same old.told told;
  known_run = on;
  behind = behind;
}

pub all_seen : (sealed : ℕ → List SealedChange) (tenants : ℕ) → ArePrefixes tenants (all_of sealed tenants) sealed
all_seen sealed tenants tenant low = subst (λ changes. IsBeginning changes (sealed tenant)) (sym (all_at sealed tenants tenant low)) (begins_itself (sealed tenant))

-- What a live thread knows is true.
no_tokens : (one : WorkerToken) (rest : List WorkerToken) → one ∷ rest ≡ [] → ⊥
no_tokens one rest e = cc

pub live_fits : (config : Config) (openings : ℕ → TenantStart) (state : State) (events : List WorldEvent) (view : View) → IsLive view → IsSpent view ⊎ Fits config openings state events view
    → Fits config openings state events view
live_fits config openings state events view (inl flag) (inl spent) = absurd (true_false (sym spent.flag ∙ flag))
  where
    true_false : true ≡ false → ⊥
    true_false e = cc
live_fits config openings state events view (inr has_some) (inl spent) = absurd (no_tokens has_some.0 has_some.1 (sym has_some.2 ∙ spent.no_tokens))
live_fits config openings state events view live (inr fits) = fits

-- the words of the next step, or of the call, of a token's request are there
ready_of : (config : Config) (openings : ℕ → TenantStart) (all events : List WorldEvent) (state : State) (token : WorkerToken) → IsExecution config openings all state → Holds config openings state events token
    → IsReady config token
ready_of config openings all events state token played holds = by token.actor refl
  where
    by : (actor : Option ActorState) → token.actor ≡ actor → IsReadyFor config actor
    by None is = tt
    by (Some actor) is = λ running. at_point running (called_at actor.point) refl
      where
        at_point : replied actor ≡ None → (called : Option CallOn) → called_at actor.point ≡ called → IsReadyAt config actor called
        at_point running None no_call = ((runs_are_bit_exact config openings all state played).steps token.worker actor (holds.actor ∙ is) running no_call).there
        at_point running (Some called) comes_to = calls_have_words config openings all state token.worker actor called played (record { sits = holds.actor ∙ is; comes_to = comes_to })

-- A step leaves each token with its worker.
same_worker_as : (token : WorkerToken) (actor : ActorState) (reply : Option Reply) → (settled_as token actor reply).worker ≡ token.worker
same_worker_as token actor None = refl
same_worker_as token actor (Some reply) = refl

told_worker_as : (got : Got) (token : WorkerToken) (actor : Option ActorState) → (told_as got token actor).worker ≡ token.worker
told_worker_as got token None = refl
told_worker_as got token (Some actor) = same_worker_as (stepped got token actor) (actor_after got token.attempt actor) (replied (actor_after got token.attempt actor))

pub told_worker : (got : Got) (token : WorkerToken) → (told got token).worker ≡ token.worker
told_worker got token = told_worker_as got token token.actor

times_map : (f : WorkerToken → WorkerToken) → ((one : WorkerToken) → (f one).worker ≡ one.worker) → (worker : ℕ) (all : List WorkerToken) → times worker (map f all) ≡ times worker all
times_map f same worker [] = refl
times_map f same worker (one ∷ rest) = let first = ap (λ n. weight (n == worker)) (same one) in let more = times_map f same worker rest in omega (arith, first, more)

-- What a thread knows after these events of its worker, and the rule of the table then.
pub record Moved (config : Config) (begun : (ℕ → TenantStart) → List WorldEvent → Type 0) (s : Table ActorState View) (tied : TableInvariant config begun s) (more : List WorldEvent) (id index bits : ℕ) (old : View) (f : WorkerToken → WorkerToken)
    (files : List HeldFile) (IsSo : List Finished → Type 0) : Type 0 where
  pub view : View
  pub run : WentOnFor config begun s tied more (record { words = slice_set s.words index bits; homes = s.homes; views = slice_set s.views id view }) view
  pub goes_on : ExtendsWithLearned old view
  pub right : IsRight view
  pub token : view.tokens ≡ map f old.tokens
  pub ready : Each (IsReady view.config) view.tokens
  pub noted : List Finished
  pub mine : view.mine ≡ old.mine ++ noted
  pub ends : IsSo noted
  pub same_files : view.files ≡ files

-- Requests that are none of those that are over, none of them twice, are among no view's finished ones.
module _ (config : Config) (begun : (ℕ → TenantStart) → List WorldEvent → Type 0) (s : Table ActorState View) (tied : TableInvariant config begun s) (noted : List Finished)
    (few : (tenant request : ℕ) → times_finished tenant request noted ≤ 1) (fresh : (other : Finished) → IsOver tied.state other → times_finished other.tenant other.request noted ≡ 0) where
  none_in : (tenant request many : ℕ) (view : View) → times_finished tenant request noted ≡ suc many → IsSpent view ⊎ Fits config tied.past.openings tied.state tied.events view → notes_of tenant request view ≡ 0
  none_in tenant request many view is (inl spent) = ap (times_finished tenant request) spent.no_mine
  none_in tenant request many view is (inr fits) =
      times_none tenant request view.mine (each_on (IsOver tied.state) (λ one. one.tenant ≡ tenant → one.request ≢ request)
      (λ one over its same. let none = sym (λ i. times_finished (its i) (same i) noted) ∙ fresh one over in absurd (omega (arith, is, none))) view.mine fits.over)

  noted_few : (tenant request : ℕ) → total (notes_of tenant request) s.views + times_finished tenant request noted ≤ 1
  noted_few tenant request = by (times_finished tenant request noted) refl
    where
      by : (many : ℕ) → times_finished tenant request noted ≡ many → total (notes_of tenant request) s.views + many ≤ 1
      by zero is = let all = tied.once tenant request in omega (arith, all)
      by (suc many) is =
          let none = total_none (notes_of tenant request) s.views (λ id view at. none_in tenant request many view is (tied.fits id view at)) in
          let low = few tenant request in omega (arith, none, low, is)

pub moves : (config : Config) (begun : (ℕ → TenantStart) → List WorldEvent → Type 0) (s : Table ActorState View) (tied : TableInvariant config begun s) (more : List WorldEvent) (id index bits : ℕ) (old : View) (token : WorkerToken) (f : WorkerToken → WorkerToken) (cells : Cells)
    (files : List HeldFile) (IsSo : List Finished → Type 0)
    → get_elem? s.views id ≡ some old → old.tokens ≡ token ∷ [] → Fits config tied.past.openings tied.state tied.events old → ((one : WorkerToken) → (f one).worker ≡ one.worker)
    → (reached : Reached config tied.past.openings tied.state token.worker tied.events more (f token) cells IsSo) → BitsMatch config cells (slice_set s.words index bits)
    → ((tenant : ℕ) → AreBesideFile config tenant tied.state more ⊎ (1 ≤ holds_of tenant old)) → ((tenant : ℕ) → times_held tenant files ≡ holds_of tenant old)
    → Each (HoldsFile config reached.after) files → Moved config begun s tied more id index bits old f files IsSo
moves config begun s tied more id index bits old token f cells files IsSo at only fits same reached ties beside same_files hold_files =
    let openings = tied.past.openings in
    let before = tied.past.before ++ tied.events in
    let sealed = sealed_of openings reached.after in
    let known_run = known_run_of config openings tied.past.before (tied.events ++ more) in
    let follows = run_with_more config openings tied.past.before tied.events more old (tied.known id old at) in
    let new = sees config sealed known_run old (map f old.tokens) (old.mine ++ reached.noted) files in
    let later = played_on config openings before tied.state tied.past.played token.worker reached.after more reached.leads in
    let seen = seen_on config openings before tied.state tied.past.played token.worker reached.after more reached.leads in
    let own : has token.worker old ≡ 1 = ap (times token.worker) only ∙ own_once token.worker token refl in
    let gave = λ (tenant : ℕ) (low : tenant < tenants_of config).
    gave_on config openings before tied.state tied.past.played token.worker reached.after more reached.leads tenant low (opening_at old.openings tenant) (fits.gave tenant low) in
    let right = sees_right config openings reached.after new fits.same_config gave (before ++ more) later (all_at sealed (tenants_of config))
    (each_more (IsRightIn config openings reached.after) old.mine reached.noted
    (mine_in config openings reached.after old fits.same_config gave (seen old.seen fits.seen) old.mine fits.right.mine) reached.right)
    (λ tenant request.
    let all = noted_few config begun s tied reached.noted reached.few reached.fresh tenant request in
    let some = total_one (notes_of tenant request) s.views id old at in
    let sum = times_more tenant request old.mine reached.noted in omega (arith, all, some, sum))
    (each_more (IsOfThese (map f old.tokens)) old.mine reached.noted
    (each_on (IsOfThese old.tokens) (IsOfThese (map f old.tokens)) (λ one so. let as_many = times_map f same one.worker old.tokens in omega (arith, as_many, so)) old.mine fits.right.own)
    (each_on (λ one. one.worker ≡ token.worker) (IsOfThese (map f old.tokens)) (λ one is.
    let as_many = times_map f same one.worker old.tokens in
    let once : times one.worker old.tokens ≡ 1 = ap (times one.worker) only ∙ own_once one.worker token (sym is) in omega (arith, as_many, once)) reached.noted reached.own))
    (λ worker. let as_many = times_map f same worker old.tokens in let few = fits.right.alone worker in omega (arith, as_many, few)) in
    let handed : Each (IsHandedOut config (world_at config openings) (tied.past.before ++ (tied.events ++ more))) new.mine =
    each_more (IsHandedOut config (world_at config openings) (tied.past.before ++ (tied.events ++ more))) old.mine reached.noted follows.handed
    (each_on (IsHandedOut config tied.state more) (IsHandedOut config (world_at config openings) (tied.past.before ++ (tied.events ++ more)))
    (λ one so. subst (λ (all : List WorldEvent). IsHandedOut config (world_at config openings) all one) (append_assoc tied.past.before tied.events more)
    (handed_after config (world_at config openings) tied.state before more one tied.past.played.runs so)) reached.noted reached.handed) in
    let past = past_on config begun tied.state reached.after tied.events more token.worker tied.past reached.leads in
    let new_fits : Fits config openings reached.after (tied.events ++ more) new = record {
      same_config = fits.same_config;
      gave = gave;
      token = subst (λ all. Each (Holds config openings reached.after (tied.events ++ more)) (map f all)) (sym only) (reached.holds, tt);
      seen = all_seen sealed (tenants_of config);
      told = seen old.told fits.told;
      right = right;
      over = each_more (IsOver reached.after) old.mine reached.noted
          (each_on (IsOver tied.state) (IsOver reached.after) (over_on config tied.state reached.after token.worker more reached.leads) old.mine fits.over) reached.over;
      files = hold_files;
    } in
    record {
      view = new;
      run = keep config begun s tied id index bits token.worker old new reached.after more at (omega (arith, own)) (λ one. times_map f same one old.tokens) reached.leads new_fits
          (subst (λ all. BitsMatch config all (slice_set s.words index bits)) (sym reached.same_cells) ties)
          (λ tenant request.
          let all = noted_few config begun s tied reached.noted reached.few reached.fresh tenant request in
          let sum = times_more tenant request old.mine reached.noted in omega (arith, all, sum)) beside same_files refl refl handed;
      goes_on = sees_on config sealed known_run old (map f old.tokens) (old.mine ++ reached.noted) files fits.same_config (seen old.seen fits.seen) (seen old.told fits.told) follows.known
          (behind_so config openings tied.past.before (tied.events ++ more) reached.after new new_fits past.played past.no_starts refl handed);
      right = right;
      token = refl;
      ready = subst (λ (one : Config). Each (IsReady one) (map f old.tokens)) (sym fits.same_config)
          (subst (λ all. Each (IsReady config) (map f all)) (sym only) (ready_of config openings (before ++ more) (tied.events ++ more) reached.after (f token) later reached.holds, tt));
      noted = reached.noted;
      mine = refl;
      ends = reached.ends;
      same_files = refl;
    }
