-- Stops of files that a schedule may have are still such with one more, if that is of another tenant. Used by: read_stops.
use Rattle.std.proofs.Common.{◌≡◌, ◌≢◌, ℕ, ◌==◌, ◌<◌, false, List, [], ◌∷◌, ◌++◌, arith}
use Rattle.std.specs.Prelude.{All}
use Rattle.std.specs.List.{list_any}
use Rattle.std.proofs.lemmas.List.Elements.{All-nil, All-cons, All-append}
use Rattle.std.proofs.lemmas.List.Quantifiers.{all_pairs_push}
use Rattle.std.proofs.lemmas.Bool.Decides.{nat_tests}
use Rattle.mw_world.specs.declared.events.Stop.{Stop}
use Rattle.mw_schedule.specs.Playable.{AreStops, IsOfWorker}
use Rattle.mw_schedule.proofs.Tenants.{neither}

apart : (k n : ℕ) → (k == n) ≡ false → k ≢ n
apart k n h same = grind (arith, nat_tests, h, same)

-- if the test finds no stop of a tenant, no stop is of it
none_of : (tenant : ℕ) (stops : List Stop) → list_any (λ stop. stop.tenant == tenant) stops ≡ false → All (λ (stop : Stop). stop.tenant ≢ tenant) stops
none_of tenant [] h = All-nil (λ (stop : Stop). stop.tenant ≢ tenant)
none_of tenant (stop ∷ stops) h =
    let parts = neither (stop.tenant == tenant) (list_any (λ (other : Stop). other.tenant == tenant) stops) h in
    All-cons (λ (other : Stop). other.tenant ≢ tenant) stop stops (apart stop.tenant tenant parts.0) (none_of tenant stops parts.1)

more : (P : Stop → Type 0) (stops : List Stop) (stop : Stop) → All P stops → P stop → All P (stops ++ stop ∷ [])
more P stops stop are is = All-append P stops (stop ∷ []) are (All-cons P stop [] is (All-nil P))

pub stops_more : (tenants : ℕ) (stops : List Stop) (stop : Stop) → AreStops tenants stops → stop.tenant < tenants → IsOfWorker stop.interrupted → list_any (λ other. other.tenant == stop.tenant) stops ≡ false → AreStops tenants (stops ++ stop ∷ [])
stops_more tenants stops stop are there worker new = record {
  named = more (λ (other : Stop). other.tenant < tenants) stops stop are.named there;
  once = all_pairs_push (λ (earlier later : Stop). earlier.tenant ≢ later.tenant) stops stop are.once (none_of stop.tenant stops new);
  workers = more (λ (other : Stop). IsOfWorker other.interrupted) stops stop are.workers worker;
}
