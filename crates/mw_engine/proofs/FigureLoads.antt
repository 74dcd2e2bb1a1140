-- For the figures (a report), a load of a tenant's door finds a door, and a load of a slot's gate finds a gate.
-- Used by: TenantWords::door, TenantWords::gate.
use Rattle.std.specs.Prelude.{ℕ, ◌≡◌, ◌<◌, ◌≤◌, true, nat_lt, List, length, Option, Some, None}
use Rattle.std.proofs.Common.{refl, sym, ap, subst, ◌∙◌, arith}
use Rattle.std.proofs.lemmas.Bool.Decides.{nat_tests}
use Rattle.mw_words.specs.declared.doors.Door.{Door}
use Rattle.mw_words.specs.declared.gates.Gate.{Gate}
use Rattle.mw_words.specs.declared.limits.TheConstants.{MAX_QUOTA}
use Rattle.mw_words.specs.declared.places.At.TheVariants.{Door as AtDoor, Gate as AtGate}
use Rattle.mw_words.specs.Patterns.{packed_door, packed_gate, unpacked_door, unpacked_gate}
use Rattle.mw_words.proofs.PatternLaws.{door_round, gate_round}
use Rattle.mw_world.specs.declared.config.Config.{Config}
use Rattle.mw_world.specs.Definition.State.{TenantStart, tenants_of}
use Rattle.mw_core.specs.FromTable.{IsOf, LearnsPlainLoad, Pass, View, index_of, opening_at}
use Rattle.mw_core.proofs.FromTable.{runs_are_sound}
use Rattle.mw_engine.specs.declared.tenant_words.TenantWords.{TenantWords}
use Rattle.mw_engine.specs.Identity.{quota_told}
use Rattle.mw_engine.specs.TenantWords.{lines_told}
use Rattle.mw_engine.proofs.RequestsMayCome.{quota_is}

under : (n m : ℕ) → n < m → nat_lt n m ≡ true
under n m low = grind (arith, nat_tests, low)

-- the bits are a door's, with no more slots in use than the tenant may use
pub record StandsAtDoor (bits quota : ℕ) : Type 0 where
  pub door : Door
  pub is : unpacked_door bits ≡ Some door
  pub used : door.used ≤ quota
  pub few : quota ≤ MAX_QUOTA

pub door_stood : (words : TenantWords) (pass : Pass) (old : View) (pool tenant bits : ℕ) → IsOf words.core.shared pass → tenant < length (lines_told words)
    → LearnsPlainLoad (index_of pool (AtDoor tenant)) bits old pass.seat.me.0 → StandsAtDoor bits (quota_told (lines_told words) tenant)
door_stood words pass old pool tenant bits own there looked =
    let view = pass.seat.me.0 in
    let stood = looked.stood in
    let config = view.config in
    let low : tenant < tenants_of config = subst (λ (c : Config). tenant < tenants_of c) (sym own.config) (subst (λ (n : ℕ). tenant < n) words.agrees.count there) in
    let door = stood.state.cells.doors tenant in
    let sound = (runs_are_sound config stood.openings stood.events stood.state stood.played).0 in
    let bits_are : bits ≡ packed_door door = stood.same_bits (AtDoor tenant) (under tenant (tenants_of config) low) refl in
    let quota : (stood.state.tenant_states tenant).quota ≡ quota_told (lines_told words) tenant =
    (stood.gave tenant low).quota ∙ (ap (λ (o : List TenantStart). (opening_at o tenant).quota) own.openings ∙ sym (quota_is words tenant there)) in
    record {
      door = door;
      is = ap unpacked_door bits_are ∙ door_round door (sound.memory.fits (AtDoor tenant));
      used = subst (λ (n : ℕ). door.used ≤ n) quota (sound.counts.counts.quotas tenant low);
      few = subst (λ (n : ℕ). n ≤ MAX_QUOTA) quota (sound.counts.counts.limits.each tenant low).1;
    }

-- the bits are a gate's
pub gate_stood : (words : TenantWords) (pass : Pass) (old : View) (pool slot bits : ℕ) → IsOf words.core.shared pass → slot < words.pool
    → LearnsPlainLoad (index_of pool (AtGate slot)) bits old pass.seat.me.0 → (gate : Gate) × (unpacked_gate bits ≡ Some gate)
gate_stood words pass old pool slot bits own there looked =
    let stood = looked.stood in
    let config = pass.seat.me.0.config in
    let low : slot < config.pool = subst (λ (c : Config). slot < c.pool) (sym own.config) (subst (λ (n : ℕ). slot < n) words.agrees.slots there) in
    let gate = stood.state.cells.gates slot in
    let sound = (runs_are_sound config stood.openings stood.events stood.state stood.played).0 in
    let bits_are : bits ≡ packed_gate gate = stood.same_bits (AtGate slot) (under slot config.pool low) refl in
    (gate, ap unpacked_gate bits_are ∙ gate_round gate (sound.memory.fits (AtGate slot)))

-- a door or gate that was unpacked is there
pub no_door : (found : Option Door) (door : Door) → found ≡ Some door → found ≡ None → ⊥
no_door found door is none = let never : Some door ≡ None = sym is ∙ none in cc

pub no_gate : (found : Option Gate) (gate : Gate) → found ≡ Some gate → found ≡ None → ⊥
no_gate found gate is none = let never : Some gate ≡ None = sym is ∙ none in cc

pub used_of : (found : Option Door) (door other : Door) (quota : ℕ) → found ≡ Some door → found ≡ Some other → door.used ≤ quota → quota ≤ MAX_QUOTA → other.used ≤ MAX_QUOTA
used_of found door other quota is also used few =
    let same : Some door ≡ Some other = sym is ∙ also in
    let numbers : door.used ≡ other.used = cc in
    omega (arith, numbers, used, few)
