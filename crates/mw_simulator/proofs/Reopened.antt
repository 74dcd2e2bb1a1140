-- A tenant that a start reopens in the simulated world is the one that the definition reopens. A tenant that is refused can't
-- be stopped so.
-- Used by: World::reopened, World::all_reopened.
use Rattle.std.specs.Prelude.{ℕ, ◌≡◌, ◌≤◌, ◌&&◌, Bool, true, false, List, [], ◌∷◌, ◌++◌, is_none, slice_get, Some, Err}
use Rattle.std.proofs.Common.{refl, sym, ap, subst, ◌∙◌, inl, inr, arith}
use Rattle.std.proofs.lemmas.Option.{slice_get_within}
use Rattle.mw_lone.specs.declared.marks.Mark.TheVariants.{Restart as IsRestart}
use Rattle.mw_file.specs.OpeningEnds.{open_calls}
use Rattle.mw_world_file.specs.declared.faults.BookFault.{BookFault}
use Rattle.mw_world_file.specs.declared.faults.BookFault.TheVariants.{NotEnabled, Memory}
use Rattle.std.specs.Option.{unwrap_or}
use Rattle.mw_world_file.specs.Books.{quota_of}
use Rattle.mw_disk.specs.DeviceCalls.{DeviceCall}
use Rattle.mw_memory_disk.specs.Memory.{Memory as Disk}
use Rattle.mw_world_file.specs.DeviceCalls.{LedBy, cut_list}
use Rattle.mw_world_file.specs.Devices.{disk_under}
use Rattle.mw_world_file.specs.Recovery.{IsCutImage, IsLeft, IsLeftOf, IsRestarted, Restarts, made_of, until, doubt_left, is_sealed_left, may_be_made}
use Rattle.mw_world.specs.declared.config.Config.{Config}
use Rattle.mw_world.specs.declared.events.Stop.{Stop}
use Rattle.mw_world.specs.Definition.Restarts.{doubt_then, interrupted_request, is_sealed_then, may_fail, may_find, may_interrupt, takes, under_way}
use Rattle.mw_world.specs.Definition.State.{State, marks_in, tenant_at}
use Rattle.mw_world_memory.specs.declared.tenants.TenantState.{TenantState as TenantStateInMemory}
use Rattle.mw_simulator.specs.declared.world.halts.StoppedCall.{StoppedCall}
use Rattle.mw_simulator.specs.declared.world.World.{World}
use Rattle.mw_simulator.specs.Quotas.{quota_after}
use Rattle.mw_simulator.specs.Events.{IsFoundBy, Outage, interrupted_list, made_in, outage_of}
use Rattle.mw_simulator.specs.Representation.{Represents, RepresentsTenant}
use Rattle.mw_simulator.specs.Stops.{AllReopen, IsHalted, IsReopened, Reopens}

all_true : (a b c : Bool) → a ≡ true → b ≡ true → c ≡ true → (a && b && c) ≡ true
all_true true true true a b c = refl
all_true true true false a b c = absurd (cc)
all_true true false z a b c = absurd (cc)
all_true false y z a b c = absurd (cc)

-- the image of as many device calls, of the same list if any was made
image_as : (disk : Disk) (made also : ℕ) (calls others : List DeviceCall) (torn image : List ℕ) → made ≡ also → (1 ≤ also → calls ≡ others) → IsCutImage disk made calls torn image
    → IsCutImage disk also others torn image
image_as disk made also calls others torn image same are is =
    let there = subst (λ (n : ℕ). IsCutImage disk n calls torn image) same is in
    record {
      stopped = there.stopped;
      is_stopped = record {
        same = there.is_stopped.same;
        well = there.is_stopped.well;
        led = λ some. subst (λ (l : List DeviceCall). LedBy l there.is_stopped.well (until disk also) there.stopped) (are some) (there.is_stopped.led some);
      };
      tears = there.tears;
    }

module _ (config : Config) (state : State) (tenant : ℕ) (shown : TenantStateInMemory) (outage : Outage) (halt : StoppedCall)
    (words_of : ℕ) (shows : RepresentsTenant words_of shown (state.tenant_states tenant)) (halted : IsHalted config state tenant outage.interrupted halt) where
  places_are : quota_of shown.book ≡ (state.tenant_states tenant).quota
  places_are = shows.places

  doubt_is : doubt_then (state.tenant_states tenant).file (under_way config state outage.interrupted) ≡ doubt_left (state.tenant_states tenant).file (quota_of shown.book) halt.cut
  doubt_is = halted.is.doubt ∙ ap (λ places. doubt_left (state.tenant_states tenant).file places halt.cut) (sym places_are)

  sealed_is : is_sealed_then (under_way config state outage.interrupted) ≡ is_sealed_left (state.tenant_states tenant).file (quota_of shown.book) halt.cut
  sealed_is = halted.is.sealed ∙ ap (λ places. is_sealed_left (state.tenant_states tenant).file places halt.cut) (sym places_are)

  may_is : may_interrupt config state tenant outage.interrupted ≡ may_be_made (state.tenant_states tenant).file (quota_of shown.book) halt.cut
  may_is = halted.may ∙ ap (λ places. may_be_made (state.tenant_states tenant).file places halt.cut) (sym places_are)

  abbrev found_by : (words image : List ℕ) → IsLeft shown.book (state.tenant_states tenant).file halt.cut outage.torn words image
      → IsFoundBy state shown outage (record { interrupted = outage.interrupted; words = words; opening_calls = open_calls image; fails_at = outage.fails_at; quota = outage.quota })
  found_by words image left = record { same_call = refl; same_failure = refl; same_quota = refl; image = image; words = left.has; calls = refl; left = subst (λ made. IsLeftOf (disk_under shown.book.device) made outage.torn image) halted.made_so left.left; exact = image_as (disk_under shown.book.device) (made_of halt.cut) (made_in outage.interrupted) (cut_list shown.book halt.cut) (interrupted_list state shown.book outage.interrupted) outage.torn image halted.made_so (halted.list_so shown.book) left.exact }

  may_have_words : (words image : List ℕ) → IsLeft shown.book (state.tenant_states tenant).file halt.cut outage.torn words image
      → may_find (is_sealed_then (under_way config state outage.interrupted)) (state.tenant_states tenant).file.contents
      (doubt_then (state.tenant_states tenant).file (under_way config state outage.interrupted)) words ≡ true
  may_have_words words image left =
      let contents = (state.tenant_states tenant).file.contents in
      let doubt = doubt_then (state.tenant_states tenant).file (under_way config state outage.interrupted) in
      ap (λ whole. may_find whole contents doubt words) sealed_is
      ∙ ap (λ doubted. may_find (is_sealed_left (state.tenant_states tenant).file (quota_of shown.book) halt.cut) contents doubted words) doubt_is
      ∙ left.found

  -- the tenant after a start that went well
  pub is_reopened : (took opened : Bool) (told : ℕ) (new : TenantStateInMemory) → told ≡ quota_after outage.quota shown → IsRestarted shown.book (state.tenant_states tenant).file halt.cut outage.torn outage.fails_at told new.book took → opened ≡ is_none outage.fails_at
      → new.quota ≡ told → new.asked ≡ shown.asked → new.lines.lines.items ≡ []
      → new.lines.closed.items ≡ shown.lines.closed.items ++ marks_in shown.lines.lines.items ++ IsRestart halt.sealing took opened told ∷ []
      → words_of ≡ (tenant_at config tenant).words → IsReopened config state tenant outage shown new
  is_reopened took opened told new is_told started up quota asked none closed long =
      let tenant_state = state.tenant_states tenant in
      let call = under_way config state outage.interrupted in
      let given : told ≡ unwrap_or outage.quota tenant_state.quota = is_told ∙ ap (λ quota. unwrap_or outage.quota quota) shows.quota in
      let taken = started.taken ∙ ap (λ doubt. takes tenant_state.file.contents doubt started.words) (sym doubt_is) in
      record {
        found = record { interrupted = outage.interrupted; words = started.words; opening_calls = open_calls started.image; fails_at = outage.fails_at; quota = outage.quota };
        opened = record { found_so = found_by started.words started.image started.left; came = started.came };
        may = all_true (may_interrupt config state tenant outage.interrupted)
            (may_find (is_sealed_then call) tenant_state.file.contents (doubt_then tenant_state.file call) started.words)
            (may_fail (open_calls started.image) outage.fails_at)
            (may_is ∙ started.left.made) (may_have_words started.words started.image started.left) started.fails;
        shows = record {
          book = started.shows;
          quota = quota ∙ given;
          places = started.count ∙ given;
          file_places = started.has ∙ shows.file_places;
          words_are = started.long ∙ shows.words_are ∙ long;
          asked = asked ∙ shows.asked;
          closed = closed ∙ ap (λ marks. marks ++ marks_in shown.lines.lines.items ++ IsRestart halt.sealing took opened told ∷ []) shows.closed
              ∙ ap (λ lines. tenant_state.closed ++ marks_in lines ++ IsRestart halt.sealing took opened told ∷ []) shows.lines
              ∙ ap (λ request. tenant_state.closed ++ marks_in tenant_state.lines ++ IsRestart request took opened told ∷ []) (sym halted.is.request)
              ∙ ap (λ take. tenant_state.closed ++ marks_in tenant_state.lines ++ IsRestart (interrupted_request call) take opened told ∷ []) taken
              ∙ ap (λ was. tenant_state.closed ++ marks_in tenant_state.lines ++ IsRestart (interrupted_request call)
              (takes tenant_state.file.contents (doubt_then tenant_state.file call) started.words) was told ∷ []) up
              ∙ ap (λ gives. tenant_state.closed ++ marks_in tenant_state.lines ++ IsRestart (interrupted_request call)
              (takes tenant_state.file.contents (doubt_then tenant_state.file call) started.words) (is_none outage.fails_at) gives ∷ []) given;
          lines = none;
        };
      }

-- a start of a tenant that was refused
pub not_reopened : (world : World) (state : State) (tenant : ℕ) (shown : TenantStateInMemory) (outage : Outage) (halt : StoppedCall) (told : ℕ)
    (fault : BookFault) → slice_get world.tenant_states.items tenant ≡ Some shown → Represents world state → IsHalted world.config state tenant outage.interrupted halt
    → Restarts shown.book halt.cut outage.torn outage.fails_at told (Err fault) → Reopens world state tenant shown outage (Err fault)
not_reopened world state tenant shown outage halt told Memory here shows halted ends = tt
not_reopened world state tenant shown outage halt told NotEnabled here shows halted ends =
    let tenant_state = state.tenant_states tenant in
    let shown_so = shows.tenant_states tenant shown here in
    let config = world.config in
    let words = (tenant_at config tenant).words in
    record {
      there = omega (arith, slice_get_within world.tenant_states.items tenant shown here, world.tenants);
      why = elim (ends tenant_state.file shown_so.book) [
        | inl few ↦ inl (may_is config state tenant shown outage halt words shown_so halted ∙ few)
        | inr cannot ↦ inr (record {
          shown = shown;
          is = here;
          found = record { interrupted = outage.interrupted; words = cannot.words; opening_calls = open_calls cannot.image; fails_at = outage.fails_at; quota = outage.quota };
          found_so = found_by config state tenant shown outage halt words shown_so halted cannot.words cannot.image cannot.left;
          may = may_have_words config state tenant shown outage halt words shown_so halted cannot.words cannot.image cannot.left;
          fails = cannot.fails;
        })
      ];
    }

-- a start at which one tenant was refused
pub one_refused : (world : World) (stops : List Stop) (tenant : ℕ) (shown : TenantStateInMemory) (fault : BookFault)
    → ((state : State) → Represents world state → Reopens world state tenant shown (outage_of stops tenant) (Err fault))
    → AllReopen world stops (Err fault)
one_refused world stops tenant shown Memory ends = tt
one_refused world stops tenant shown NotEnabled ends = λ state shows. (tenant, ends state shows)
