-- Starts of one world after the same stop of a tenant find the same of its file. Used by: starts_find_one_thing.
use Rattle.std.specs.Prelude.{ℕ, ◌≡◌, List, [], Option, Some, None}
use Rattle.std.proofs.Common.{sym, ap, ◌∙◌}
use Rattle.mw_record.specs.Damages.{file_words}
use Rattle.mw_file.specs.OpeningEnds.{open_calls}
use Rattle.mw_world_file.specs.Devices.{disk_under}
use Rattle.mw_world_file.proofs.ExactDisks.{one_image}
use Rattle.mw_world.specs.declared.events.Interrupted.{Interrupted}
use Rattle.mw_world.specs.Definition.Events.{Found}
use Rattle.mw_world.specs.Definition.State.{State}
use Rattle.mw_world_memory.specs.declared.tenants.TenantState.{TenantState}
use Rattle.mw_simulator.specs.Events.{IsFoundBy, Outage, interrupted_list, made_in}

abbrev words_or : List ℕ → Option (List ℕ) → List ℕ
words_or words None = words
words_or words (Some others) = others

-- what was found has these five parts
abbrev found_in : Option Interrupted → List ℕ → ℕ → Option ℕ → Option ℕ → Found
found_in interrupted words calls fails_at quota = record { interrupted = interrupted; words = words; opening_calls = calls; fails_at = fails_at; quota = quota }

same_parts : (interrupted also : Option Interrupted) (words others : List ℕ) (calls more : ℕ) (fails_at fails quota given : Option ℕ) → interrupted ≡ also → words ≡ others → calls ≡ more → fails_at ≡ fails
    → quota ≡ given → found_in interrupted words calls fails_at quota ≡ found_in also others more fails given
same_parts interrupted also words others calls more fails_at fails quota given i w c f q =
    ap (λ (x : Option Interrupted). found_in x words calls fails_at quota) i
    ∙ (ap (λ (x : List ℕ). found_in also x calls fails_at quota) w
    ∙ (ap (λ (x : ℕ). found_in also others x fails_at quota) c
    ∙ (ap (λ (x : Option ℕ). found_in also others more x quota) f ∙ ap (λ (x : Option ℕ). found_in also others more fails x) q)))

pub one_found : (state : State) (shown : TenantState) (outage : Outage) (found other : Found) → IsFoundBy state shown outage found → IsFoundBy state shown outage other → found ≡ other
one_found state shown outage found other this that =
    let image = one_image (disk_under shown.book.device) (made_in outage.interrupted) (interrupted_list state shown.book outage.interrupted) outage.torn this.image that.image this.exact that.exact in
    let words = ap (words_or []) (sym this.words ∙ (ap file_words image ∙ that.words)) in
    let calls = sym this.calls ∙ (ap open_calls image ∙ that.calls) in
    same_parts found.interrupted other.interrupted found.words other.words found.opening_calls other.opening_calls found.fails_at other.fails_at found.quota other.quota
    (this.same_call ∙ sym that.same_call) words calls (this.same_failure ∙ sym that.same_failure) (this.same_quota ∙ sym that.same_quota)
