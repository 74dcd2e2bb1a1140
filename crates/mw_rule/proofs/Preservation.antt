-- A thread's step keeps the table's rule (`specs/Rule`), if the step's events are all of one of the thread's own workers and
-- no start. Used by: FileCallRule, StepRule, ViewAfterStep.
use Rattle.std.specs.Prelude.{ℕ, ◌+◌, ◌≡◌, ◌≢◌, ◌≤◌, ◌<◌, true, List, ◌++◌, length, slice_index, slice_set, Option, Some}
use Rattle.std.proofs.Common.{refl, sym, ap, subst, ◌∙◌, ◌⊎◌, inl, inr, arith}
use Rattle.std.proofs.lemmas.List.{length-set, get_or-set_same, get_or-set_other}
use mathlib.Core.Option.{some}
use lib.ListN.{get_elem?}
use Rattle.atomic_table.specs.Table.{State as Table}
use Rattle.atomic_table.proofs.Lists.{at_set}
use Rattle.mw_words.specs.declared.places.At.{At}
use Rattle.mw_look.specs.Places.{pack}
use Rattle.mw_actor.specs.ActorState.{ActorState}
use Rattle.mw_world.specs.declared.config.Config.{Config}
use Rattle.mw_world.specs.Definition.Cells.{Cells, read}
use Rattle.mw_world.specs.Definition.Extent.{has_place}
use Rattle.mw_world.specs.Definition.Events.{WorldEvent}
use Rattle.mw_world.specs.Definition.State.{State, TenantStart, IsConfig, world_at}
use Rattle.mw_rule.proofs.FromLaws.{same_or_other}
use Rattle.mw_rule.specs.Calls.OtherEvents.{AreBesideFile}
use Rattle.mw_rule.specs.declared.views.View.{View}
use Rattle.mw_rule.specs.KnownRuns.{KnownRun, ExtendsKnownRun, known_run_of}
use Rattle.mw_rule.specs.Layout.{index_of, words_of}
use Rattle.mw_rule.specs.Rule.{Each, Fits, IsHandedOut, IsRunOf, TableInvariant, BitsMatch, WentOnFor, has, holds_of, notes_of, total}
use Rattle.mw_rule.proofs.KnownRunLaws.{run_with_more, stays}
use Rattle.mw_rule.proofs.Layouts.{index_injective, places_within, places_in_table}
use Rattle.mw_rule.proofs.HeldFiles.{all_held_on}
use Rattle.mw_rule.proofs.WorkerStretches.{Leads, others_fit, past_on}
use Rattle.mw_rule.proofs.Totals.{total_set, total_two}

-- The word of one place gets the same new bits in the table and in the world.
pub ties_on : (config : Config) (cells after : Cells) (words : List ℕ) (place : At) (bits : ℕ) → IsConfig config → has_place config place ≡ true → length words ≡ words_of config
    → BitsMatch config cells words → pack place (read after place) ≡ bits → ((other : At) → other ≢ place → read after other ≡ read cells other)
    → BitsMatch config after (slice_set words (index_of config.pool place) bits)
ties_on config cells after words place bits is_config there long ties here else other its = elim (same_or_other (index_of config.pool other) (index_of config.pool place)) [
  | inl same ↦
      let one : other ≡ place = index_injective config.pool other place (places_within config other is_config its) (places_within config place is_config there) same in
      let low : index_of config.pool place < length words = subst (λ n. index_of config.pool place < n) (sym long) (places_in_table config place is_config there) in
      subst (λ at. slice_index (slice_set words (index_of config.pool place) bits) (index_of config.pool at) ≡ pack at (read after at)) (sym one)
      (get_or-set_same words (index_of config.pool place) bits 0 low ∙ sym here)
  | inr apart ↦
      get_or-set_other words (index_of config.pool place) (index_of config.pool other) bits 0 apart ∙ ties other its
      ∙ ap (pack other) (sym (else other (λ e. apart (ap (index_of config.pool) e))))
]

pub keep : (config : Config) (begun : (ℕ → TenantStart) → List WorldEvent → Type 0) (s : Table ActorState View) (tied : TableInvariant config begun s) (id index bits worker : ℕ) (old new : View) (after : State)
    (more : List WorldEvent) → get_elem? s.views id ≡ some old → 1 ≤ has worker old → ((one : ℕ) → has one new ≡ has one old) → Leads config tied.state worker after more
    → Fits config tied.past.openings after (tied.events ++ more) new → BitsMatch config after.cells (slice_set s.words index bits)
    → ((tenant request : ℕ) → total (notes_of tenant request) s.views + notes_of tenant request new ≤ 1 + notes_of tenant request old)
    → ((tenant : ℕ) → AreBesideFile config tenant tied.state more ⊎ (1 ≤ holds_of tenant old)) → ((tenant : ℕ) → holds_of tenant new ≡ holds_of tenant old)
    → new.known_run ≡ Some (known_run_of config tied.past.openings tied.past.before (tied.events ++ more)) → new.learned_run ≡ old.learned_run
    → Each (IsHandedOut config (world_at config tied.past.openings) (tied.past.before ++ (tied.events ++ more))) new.mine
    → WentOnFor config begun s tied more (record { words = slice_set s.words index bits; homes = s.homes; views = slice_set s.views id new }) new
keep config begun s tied id index bits worker old new after more at own same leads fits ties few beside same_files known_run same_told handed =
    record { on = record { after = kept; same_openings = refl; same_before = refl; events = refl }; known_run = known_run }
  where
    on_so : (other : ℕ) (view : View) → get_elem? s.views other ≡ some view → IsRunOf config tied.past.openings tied.past.before (tied.events ++ more) view
    on_so other view is = run_with_more config tied.past.openings tied.past.before tied.events more view (tied.known other view is)

    own_so : IsRunOf config tied.past.openings tied.past.before (tied.events ++ more) new
    own_so = record {
      known = subst (λ (known : Option KnownRun). ExtendsKnownRun known (Some (known_run_of config tied.past.openings tied.past.before (tied.events ++ more)))) (sym known_run)
          (stays (Some (known_run_of config tied.past.openings tied.past.before (tied.events ++ more))));
      told = subst (λ (told : Option KnownRun). ExtendsKnownRun told (Some (known_run_of config tied.past.openings tied.past.before (tied.events ++ more)))) (sym same_told) (on_so id old at).told;
      handed = handed;
    }

    kept : TableInvariant config begun (record { words = slice_set s.words index bits; homes = s.homes; views = slice_set s.views id new })
    kept = record {
      state = after;
      events = tied.events ++ more;
      past = past_on config begun tied.state after tied.events more worker tied.past leads;
      long = length-set s.words index bits ∙ tied.long;
      ties = ties;
      fits = λ other view is. elim (at_set s.views id other new view is) [
        | inl here ↦ inr (subst (Fits config tied.past.openings after (tied.events ++ more)) here.1 fits)
        | inr else ↦ elim (tied.fits other view else.1) [
          | inl spent ↦ inl spent
          | inr fit ↦
              let two = total_two (has worker) s.views id other old view else.0 at else.1 in
              let all = tied.alone worker in
              inr (others_fit config tied.past.openings (tied.past.before ++ tied.events) tied.state tied.past.played worker after more leads tied.events view (omega (arith, two, all, own))
              (all_held_on config tied.past.openings (tied.past.before ++ tied.events) tied.state tied.past.played after more leads.runs view.files
              (λ tenant few_held. elim (beside tenant) [
                | inl none ↦ none
                | inr here ↦
                    let both = total_two (holds_of tenant) s.views id other old view else.0 at else.1 in let one = tied.one_hand tenant in
                    absurd (omega (arith, both, one, here, few_held))
              ]) fit.files) fit)
        ]
      ];
      known = λ other view is. elim (at_set s.views id other new view is) [
        | inl here ↦ subst (IsRunOf config tied.past.openings tied.past.before (tied.events ++ more)) here.1 own_so
        | inr else ↦ on_so other view else.1
      ];
      alone = λ one. let sums = total_set (has one) s.views id old new at in let all = tied.alone one in let even = same one in omega (arith, sums, all, even);
      once = λ tenant request. let sums = total_set (notes_of tenant request) s.views id old new at in let all = few tenant request in omega (arith, sums, all);
      one_hand = λ tenant. let sums = total_set (holds_of tenant) s.views id old new at in let all = tied.one_hand tenant in let even = same_files tenant in omega (arith, sums, all, even);
    }
