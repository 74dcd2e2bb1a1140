-- What each kind of step does to a gate or a door: both sides of each count (the number in the word, and the sum over
-- requests) change by the same. Used by: GateSteps, QuietSteps, ReadSteps, among others.
use Rattle.std.specs.Prelude.{ℕ, ◌≡◌, ◌≢◌, ◌<◌, ◌≤◌, ◌+◌, ◌-◌, ◌==◌, ◌&&◌, true, false, Bool, cond, if◌then◌else◌}
use Rattle.std.proofs.Common.{refl, sym, ap, subst, ◌∙◌, inl, inr, arith}
use Rattle.std.proofs.lemmas.Bool.{cases_eq}
use Rattle.std.proofs.lemmas.Bool.Decides.{nat_tests}
use Rattle.mw_words.specs.declared.doors.Door.{Door}
use Rattle.mw_words.specs.declared.gates.Gate.{Gate}
use Rattle.mw_pool.specs.Moves.{Admits, Claims, Pins, after_unpin}
use Rattle.mw_look.specs.Program.{freed as freed_gate}
use Rattle.mw_look.specs.Runs.{if_same}
use Rattle.mw_world.specs.declared.config.Config.{Config}
use Rattle.mw_world.specs.Claim.Invariant.{IsPinnedAs}
use Rattle.mw_world.specs.Maps.{upd, upd_two}
use Rattle.mw_world.specs.Definition.State.{State, tenant_at, tenants_of}
use Rattle.mw_law_runs.specs.Counts.CountInvariant.{CountsStand}
use Rattle.mw_law_runs.specs.Counts.Sides.{left_pin, idle}
use Rattle.mw_law_runs.proofs.Counts.Shifts.{of_tenant, Shifts, of_gate, of_door}
use Rattle.mw_law_runs.proofs.Counts.Sums.{claimed}

-- 1 if the test holds, else 0
abbrev one_if : Bool → ℕ
one_if b = if b then 1 else 0

pub upd_here : {A : Type 0} (f : ℕ → A) (i : ℕ) (x : A) → upd f i x i ≡ x
upd_here f i x = grind (arith, nat_tests)

pub upd_else : {A : Type 0} (f : ℕ → A) (i k : ℕ) (x : A) → k ≢ i → upd f i x k ≡ f k
upd_else f i k x apart = grind (arith, nat_tests, apart)

upd_two_here : {A : Type 0} (f : ℕ → ℕ → A) (i j : ℕ) (x : A) → upd_two f i j x i j ≡ x
upd_two_here f i j x = grind (arith, nat_tests)

-- the value of a map at the place where it was set
upd_two_at : {A : Type 0} (f g : ℕ → ℕ → A) (i j k : ℕ) (x : A) → g ≡ upd_two f i j x → k ≡ j → g i k ≡ x
upd_two_at f g i j k x is e = ap (λ h. h i k) is ∙ ap (λ n. upd_two f i j x i n) e ∙ upd_two_here f i j x

upd_two_else : {A : Type 0} (f : ℕ → ℕ → A) (i j k l : ℕ) (x : A) → k ≢ i → upd_two f i j x k l ≡ f k l
upd_two_else f i j k l x apart = grind (arith, nat_tests, apart)

upd_two_next : {A : Type 0} (f : ℕ → ℕ → A) (i j l : ℕ) (x : A) → l ≢ j → upd_two f i j x i l ≡ f i l
upd_two_next f i j l x apart = grind (arith, nat_tests, apart)

same_once : (slot : ℕ) → if_same slot slot ≡ 1
same_once slot = grind (arith, nat_tests)

other_none : (slot other : ℕ) → other ≢ slot → if_same slot other ≡ 0
other_none slot other apart = grind (arith, nat_tests, apart)

-- a test that would make a count at least 1 is false if the count is 0
isnt : (b : Bool) (n : ℕ) → (b ≡ true → 1 ≤ n) → n ≡ 0 → b ≡ false
isnt true n tells none = absurd (omega (arith, tells refl, none))
isnt false n tells none = refl

contradiction : (b : Bool) → b ≡ true → b ≡ false → ⊥
contradiction true e f = grind (arith, f)
contradiction false e f = grind (arith, e)

counts_none : (b : Bool) → b ≡ false → one_if b ≡ 0
counts_none b is = ap one_if is

idle_gate : (gate : Gate) → gate.taken ≡ true → gate.pins ≡ 0 → one_if (gate.taken && (gate.pins == 0)) ≡ 1
idle_gate gate taken none = grind (arith, nat_tests, taken, none)

busy_gate : (gate : Gate) → 1 ≤ gate.pins → one_if (gate.taken && (gate.pins == 0)) ≡ 0
busy_gate gate some = grind (arith, nat_tests, some)

untaken_gate : (gate : Gate) → gate.taken ≡ false → one_if (gate.taken && (gate.pins == 0)) ≡ 0
untaken_gate gate is = grind (arith, nat_tests, is)

pub taken_and_unpinned : (gate : Gate) → one_if (gate.taken && (gate.pins == 0)) ≡ 1 → (gate.taken ≡ true) × (gate.pins ≡ 0)
taken_and_unpinned gate is = (grind (arith, nat_tests, is), grind (arith, nat_tests, is))

pub pinned_is_taken : (gate : Gate) → (gate.taken ≡ false → gate.pins ≡ 0) → 1 ≤ gate.pins → gate.taken ≡ true
pinned_is_taken gate is some = taken_or gate.taken gate.pins is some
  where
    taken_or : (taken : Bool) (pins : ℕ) → (taken ≡ false → pins ≡ 0) → 1 ≤ pins → taken ≡ true
    taken_or true pins is some = refl
    taken_or false pins is some = absurd (omega (arith, is refl, some))

claimed_taken : (gate : Gate) (owner tenant : ℕ) → gate.taken ≡ true → one_if (gate.taken && (owner == tenant)) ≡ of_tenant owner 1 tenant
claimed_taken gate owner tenant is = grind (arith, nat_tests, is)

claimed_untaken : (gate : Gate) (owner tenant : ℕ) → gate.taken ≡ false → one_if (gate.taken && (owner == tenant)) ≡ 0
claimed_untaken gate owner tenant is = grind (arith, nat_tests, is)

none_of : (own tenant : ℕ) → of_tenant own 0 tenant ≡ 0
none_of own tenant = grind (arith, nat_tests)

one_of : (own tenant : ℕ) → tenant ≡ own → of_tenant own 1 tenant ≡ 1
one_of own tenant is = grind (arith, nat_tests, is)

none_else : (own tenant : ℕ) → tenant ≢ own → of_tenant own 1 tenant ≡ 0
none_else own tenant apart = grind (arith, nat_tests, apart)

none_last : (last : Bool) (n : ℕ) → n ≡ 0 → cond last n 0 ≡ 0
none_last true n is = is
none_last false n is = refl

one_last : {n : ℕ} (last : Bool) → n ≡ 1 → cond last n 0 ≡ cond last 1 0
one_last true is = is
one_last false is = refl

-- a gate after its last pin, or another one, was taken back
unpinned_idle : (gate : Gate) → gate.taken ≡ true → 1 ≤ gate.pins
    → one_if ((after_unpin gate).taken && ((after_unpin gate).pins == 0)) ≡ cond (gate.pins == 1) 1 0
unpinned_idle gate taken some = by_test (gate.pins == 1) refl
  where
    by_test : (b : Bool) → (gate.pins == 1) ≡ b → one_if (gate.taken && ((gate.pins - 1) == 0)) ≡ cond b 1 0
    by_test true is = grind (arith, nat_tests, taken, some, is)
    by_test false is = grind (arith, nat_tests, taken, some, is)

module _ (config : Config) (state later : State) (stand : CountsStand config state) (own : ℕ) where
  -- a slot without a pin has no pin that was left behind
  pub none_left : (slot seq : ℕ) → (state.cells.gates slot).pins ≡ 0 → state.history.stays slot seq ≡ false
  none_left slot seq none = isnt (state.history.stays slot seq) (state.cells.gates slot).pins (λ is. (stand.counts.left slot seq is).0.1) none

  -- no gate changes, and a door changes only in its fault
  pub quiet : (had freed : ℕ → ℕ) (waited : ℕ) → ((slot : ℕ) → later.cells.gates slot ≡ state.cells.gates slot)
      → ((tenant : ℕ) → (later.cells.doors tenant).used ≡ (state.cells.doors tenant).used)
      → ((slot seq : ℕ) → later.history.stays slot seq ≡ state.history.stays slot seq) → ((slot seq : ℕ) → later.history.tenant slot seq ≡ state.history.tenant slot seq)
      → Shifts config state later own had freed had freed waited waited
  quiet had freed waited gates used stays tenants = of_door config state later own had freed had freed waited waited stand (record {
    gates = gates;
    stays = stays;
    tenants = tenants;
    pins = λ slot. refl;
    frees_one = λ slot. refl;
    doors = λ tenant low. omega (arith, used tenant);
    quotas = λ tenant low. omega (arith, used tenant, stand.counts.quotas tenant low);
  })

  -- a change is admitted: its tenant's door counts one slot more
  pub admits : (from to : Door) → state.cells.doors own ≡ from → Admits (state.tenant_states own).quota from to
      → ((slot : ℕ) → later.cells.gates slot ≡ state.cells.gates slot) → later.cells.doors own ≡ to
      → ((tenant : ℕ) → tenant ≢ own → later.cells.doors tenant ≡ state.cells.doors tenant)
      → ((slot seq : ℕ) → later.history.stays slot seq ≡ state.history.stays slot seq) → ((slot seq : ℕ) → later.history.tenant slot seq ≡ state.history.tenant slot seq)
      → Shifts config state later own (λ slot. 0) (λ slot. 0) (λ slot. 0) (λ slot. 0) 0 1
  admits from to found allowed gates here elsewhere stays tenants =
      let one_more : (later.cells.doors own).used ≡ (state.cells.doors own).used + 1 = ap (λ d. d.used) here ∙ allowed.one_more ∙ ap (λ d. d.used + 1) (sym found) in
      let below : (state.cells.doors own).used < (state.tenant_states own).quota = subst (λ d. d.used < (state.tenant_states own).quota) (sym found) allowed.was_below_quota in
      of_door config state later own (λ slot. 0) (λ slot. 0) (λ slot. 0) (λ slot. 0) 0 1 stand (record {
        gates = gates;
        stays = stays;
        tenants = tenants;
        pins = λ slot. refl;
        frees_one = λ slot. refl;
        doors = λ tenant low. elim (cases_eq tenant own) [
          | inl e ↦ omega (arith, ap (λ t. (later.cells.doors t).used) e, ap (λ t. (state.cells.doors t).used) e, one_more, none_of own tenant, one_of own tenant e)
          | inr apart ↦ omega (arith, ap (λ d. d.used) (elsewhere tenant apart), none_of own tenant, none_else own tenant apart)
        ];
        quotas = λ tenant low. elim (cases_eq tenant own) [
          | inl e ↦ omega (arith, ap (λ t. (later.cells.doors t).used) e, ap (λ t. (state.tenant_states t).quota) e, one_more, below)
          | inr apart ↦ omega (arith, ap (λ d. d.used) (elsewhere tenant apart), stand.counts.quotas tenant low)
        ];
      })

  -- a slot is counted off its tenant's door
  pub lowers : (pins : ℕ → ℕ) → 1 ≤ (state.cells.doors own).used
      → ((slot : ℕ) → later.cells.gates slot ≡ state.cells.gates slot) → (later.cells.doors own).used ≡ (state.cells.doors own).used - 1
      → ((tenant : ℕ) → tenant ≢ own → later.cells.doors tenant ≡ state.cells.doors tenant)
      → ((slot seq : ℕ) → later.history.stays slot seq ≡ state.history.stays slot seq) → ((slot seq : ℕ) → later.history.tenant slot seq ≡ state.history.tenant slot seq)
      → Shifts config state later own pins (λ slot. 0) pins (λ slot. 0) 1 0
  lowers pins some gates here elsewhere stays tenants = of_door config state later own pins (λ slot. 0) pins (λ slot. 0) 1 0 stand (record {
    gates = gates;
    stays = stays;
    tenants = tenants;
    pins = λ slot. refl;
    frees_one = λ slot. refl;
    doors = λ tenant low. elim (cases_eq tenant own) [
      | inl e ↦ omega (arith, ap (λ t. (later.cells.doors t).used) e, ap (λ t. (state.cells.doors t).used) e, here, some, none_of own tenant, one_of own tenant e)
      | inr apart ↦ omega (arith, ap (λ d. d.used) (elsewhere tenant apart), none_of own tenant, none_else own tenant apart)
    ];
    quotas = λ tenant low. elim (cases_eq tenant own) [
      | inl e ↦ omega (arith, ap (λ t. (later.cells.doors t).used) e, ap (λ t. (state.cells.doors t).used) e, here, stand.counts.quotas tenant low)
      | inr apart ↦ omega (arith, ap (λ d. d.used) (elsewhere tenant apart), stand.counts.quotas tenant low)
    ];
  })

  module _ (slot : ℕ) (there : slot < config.pool) (used : (tenant : ℕ) → (later.cells.doors tenant).used ≡ (state.cells.doors tenant).used)
      (elsewhere : (other : ℕ) → other ≢ slot → later.cells.gates other ≡ state.cells.gates other) where
    -- a pin that was left behind still is, if the slot has the same number
    same_left_here : (later.cells.gates slot).seq ≡ (state.cells.gates slot).seq → ((other seq : ℕ) → later.history.stays other seq ≡ state.history.stays other seq)
        → left_pin later slot ≡ left_pin state slot
    same_left_here number stays = ap one_if (stays slot (later.cells.gates slot).seq) ∙ ap (λ n. if state.history.stays slot n then 1 else 0) number

    same_claimed_here : (tenant : ℕ) → (later.cells.gates slot).taken ≡ (state.cells.gates slot).taken → (later.cells.gates slot).seq ≡ (state.cells.gates slot).seq
        → ((other seq : ℕ) → later.history.tenant other seq ≡ state.history.tenant other seq) → claimed later tenant slot ≡ claimed state tenant slot
    same_claimed_here tenant taken number tenants =
        ap (λ b. if b && (later.history.tenant slot (later.cells.gates slot).seq == tenant) then 1 else 0) taken
        ∙ ap (λ t. if (state.cells.gates slot).taken && (t == tenant) then 1 else 0) (tenants slot (later.cells.gates slot).seq ∙ ap (λ n. state.history.tenant slot n) number)

    same_taken_for : (later.cells.gates slot).seq ≡ (state.cells.gates slot).seq → ((other seq : ℕ) → later.history.tenant other seq ≡ state.history.tenant other seq)
        → (state.cells.gates slot).taken ≡ true → later.history.tenant slot (later.cells.gates slot).seq < tenants_of config
    same_taken_for number tenants taken =
        subst (λ t. t < tenants_of config) (sym (tenants slot (later.cells.gates slot).seq ∙ ap (λ n. state.history.tenant slot n) number)) (stand.tenants slot taken)

    -- a slot is claimed for the tenant
    pub claims : (from to : Gate) → own < tenants_of config → state.cells.gates slot ≡ from → Claims from to → later.cells.gates slot ≡ to
        → ((other seq : ℕ) → later.history.stays other seq ≡ state.history.stays other seq) → later.history.tenant ≡ upd_two state.history.tenant slot from.seq own
        → Shifts config state later own (λ other. 0) (λ other. 0) (λ other. if_same slot other) (λ other. 0) 1 0
    claims from to known found allowed here stays tenants =
        let untaken : (state.cells.gates slot).taken ≡ false = ap (λ g. g.taken) found ∙ allowed.was_not_taken in
        let unpinned : (state.cells.gates slot).pins ≡ 0 = stand.unpinned slot untaken in
        let taken : (later.cells.gates slot).taken ≡ true = ap (λ g. g.taken) here ∙ allowed.is_taken in
        let one : (later.cells.gates slot).pins ≡ 1 = ap (λ g. g.pins) here ∙ allowed.has_one_pin in
        let number : (later.cells.gates slot).seq ≡ from.seq = ap (λ g. g.seq) here ∙ allowed.same_number in
        let unleft : (seq : ℕ) → later.history.stays slot seq ≡ false = λ seq. stays slot seq ∙ none_left slot seq unpinned in
        let owner : later.history.tenant slot (later.cells.gates slot).seq ≡ own =
        upd_two_at state.history.tenant later.history.tenant slot from.seq (later.cells.gates slot).seq own tenants number in
        of_gate config state later own (λ other. 0) (λ other. 0) (λ other. if_same slot other) (λ other. 0) 1 0 stand slot (record {
          there = there;
          gates = elsewhere;
          stays = λ other seq apart. stays other seq;
          tenants = λ other seq apart. ap (λ f. f other seq) tenants ∙ upd_two_else state.history.tenant slot from.seq other seq own apart;
          other_pins = λ other apart. other_none slot other apart;
          other_frees = λ other apart. refl;
          pins = omega (
            arith,
            one,
            unpinned,
            same_once slot,
            counts_none (state.history.stays slot (state.cells.gates slot).seq) (none_left slot (state.cells.gates slot).seq unpinned),
            counts_none (later.history.stays slot (later.cells.gates slot).seq) (unleft (later.cells.gates slot).seq),
          );
          left = λ seq is. absurd (contradiction (later.history.stays slot seq) is (unleft seq));
          frees_one = omega (arith, busy_gate (later.cells.gates slot) (omega (arith, one)), untaken_gate (state.cells.gates slot) untaken);
          doors = λ tenant low. omega (
            arith,
            used tenant,
            none_of own tenant,
            claimed_untaken (state.cells.gates slot) (state.history.tenant slot (state.cells.gates slot).seq) tenant untaken,
            ap (λ t. if (later.cells.gates slot).taken && (t == tenant) then 1 else 0) owner ∙ claimed_taken (later.cells.gates slot) own tenant taken,
          );
          quotas = λ tenant low. omega (arith, used tenant, stand.counts.quotas tenant low);
          unpinned = λ is. absurd (contradiction (later.cells.gates slot).taken taken is);
          taken_for = λ is. subst (λ t. t < tenants_of config) (sym owner) known;
        })

    -- one pin more
    pub pins : (seq : ℕ) (from to : Gate) (had held freed : ℕ → ℕ) (waited : ℕ) → state.cells.gates slot ≡ from → Pins seq from to → later.cells.gates slot ≡ to
        → ((other : ℕ) → held other ≡ if_same slot other + had other)
        → ((other seq : ℕ) → later.history.stays other seq ≡ state.history.stays other seq) → ((other seq : ℕ) → later.history.tenant other seq ≡ state.history.tenant other seq)
        → Shifts config state later own had freed held freed waited waited
    pins seq from to had held freed waited found allowed here more stays tenants =
        let was_taken : (state.cells.gates slot).taken ≡ true = ap (λ g. g.taken) found ∙ allowed.was_taken in
        let was_pinned : 1 ≤ (state.cells.gates slot).pins = subst (λ g. 1 ≤ g.pins) (sym found) allowed.was_pinned in
        let taken : (later.cells.gates slot).taken ≡ true = ap (λ g. g.taken) here ∙ allowed.is_taken in
        let one_more : (later.cells.gates slot).pins ≡ (state.cells.gates slot).pins + 1 = ap (λ g. g.pins) here ∙ allowed.one_more ∙ ap (λ g. g.pins + 1) (sym found) in
        let number : (later.cells.gates slot).seq ≡ (state.cells.gates slot).seq = ap (λ g. g.seq) here ∙ allowed.same_number ∙ ap (λ g. g.seq) (sym found) in
        of_gate config state later own had freed held freed waited waited stand slot (record {
          there = there;
          gates = elsewhere;
          stays = λ other s apart. stays other s;
          tenants = λ other s apart. tenants other s;
          other_pins = λ other apart. omega (arith, more other, other_none slot other apart);
          other_frees = λ other apart. refl;
          pins = omega (arith, one_more, more slot, same_once slot, same_left_here number stays);
          left = λ s is. let was : IsPinnedAs s (state.cells.gates slot) = stand.counts.left slot s (sym (stays slot s) ∙ is) in
              ((taken, omega (arith, one_more)), number ∙ was.1);
          frees_one = omega (arith, busy_gate (later.cells.gates slot) (omega (arith, one_more)), busy_gate (state.cells.gates slot) was_pinned);
          doors = λ tenant low. omega (arith, used tenant, same_claimed_here tenant (taken ∙ sym was_taken) number tenants);
          quotas = λ tenant low. omega (arith, used tenant, stand.counts.quotas tenant low);
          unpinned = λ is. absurd (contradiction (later.cells.gates slot).taken taken is);
          taken_for = λ is. same_taken_for number tenants was_taken;
        })

    -- one pin less
    pub unpins : (had held : ℕ → ℕ) → left_pin state slot + 1 ≤ (state.cells.gates slot).pins → later.cells.gates slot ≡ after_unpin (state.cells.gates slot)
        → ((other : ℕ) → had other ≡ if_same slot other + held other)
        → ((other seq : ℕ) → later.history.stays other seq ≡ state.history.stays other seq) → ((other seq : ℕ) → later.history.tenant other seq ≡ state.history.tenant other seq)
        → Shifts config state later own had (λ other. 0) held (λ other. cond ((state.cells.gates slot).pins == 1) (if_same slot other) 0) 0 0
    unpins had held some here less stays tenants =
        let gate : Gate = state.cells.gates slot in
        let was_taken : (state.cells.gates slot).taken ≡ true = pinned_is_taken (state.cells.gates slot) (stand.unpinned slot) (omega (arith, some)) in
        let taken : (later.cells.gates slot).taken ≡ (state.cells.gates slot).taken = ap (λ g. g.taken) here in
        let one_less : (later.cells.gates slot).pins ≡ (state.cells.gates slot).pins - 1 = ap (λ g. g.pins) here in
        let number : (later.cells.gates slot).seq ≡ (state.cells.gates slot).seq = ap (λ g. g.seq) here in
        let last : ℕ → ℕ = λ other. cond ((state.cells.gates slot).pins == 1) (if_same slot other) 0 in
        of_gate config state later own had (λ other. 0) held last 0 0 stand slot (record {
          there = there;
          gates = elsewhere;
          stays = λ other s apart. stays other s;
          tenants = λ other s apart. tenants other s;
          other_pins = λ other apart. omega (arith, less other, other_none slot other apart);
          other_frees = λ other apart. none_last ((state.cells.gates slot).pins == 1) (if_same slot other) (other_none slot other apart);
          pins = omega (arith, one_less, less slot, same_once slot, some, same_left_here number stays);
          left = λ s is.
              let was : IsPinnedAs s (state.cells.gates slot) = stand.counts.left slot s (sym (stays slot s) ∙ is) in
              let stayed : left_pin state slot ≡ 1 = ap one_if (ap (λ n. state.history.stays slot n) was.1 ∙ sym (stays slot s) ∙ is) in
              ((taken ∙ was_taken, omega (arith, one_less, some, stayed)), number ∙ was.1);
          frees_one = omega (
            arith,
            busy_gate (state.cells.gates slot) (omega (arith, some)),
            one_last ((state.cells.gates slot).pins == 1) (same_once slot),
            ap (λ g. one_if (g.taken && (g.pins == 0))) here ∙ unpinned_idle (state.cells.gates slot) was_taken (omega (arith, some)),
          );
          doors = λ tenant low. omega (arith, used tenant, same_claimed_here tenant taken number tenants);
          quotas = λ tenant low. omega (arith, used tenant, stand.counts.quotas tenant low);
          unpinned = λ is. absurd (contradiction (later.cells.gates slot).taken (taken ∙ was_taken) is);
          taken_for = λ is. same_taken_for number tenants was_taken;
        })

    -- a slot without pins is freed
    pub frees : (seq : ℕ) (had freed : ℕ → ℕ) → idle state slot ≡ 1 → state.history.tenant slot (state.cells.gates slot).seq ≡ own → later.cells.gates slot ≡ freed_gate seq
        → ((other : ℕ) → freed other ≡ if_same slot other)
        → ((other seq : ℕ) → later.history.stays other seq ≡ state.history.stays other seq) → ((other seq : ℕ) → later.history.tenant other seq ≡ state.history.tenant other seq)
        → Shifts config state later own had freed had (λ other. 0) 0 1
    frees seq had freed is_idle owner here are stays tenants =
        let was : ((state.cells.gates slot).taken ≡ true) × ((state.cells.gates slot).pins ≡ 0) = taken_and_unpinned (state.cells.gates slot) is_idle in
        let untaken : (later.cells.gates slot).taken ≡ false = ap (λ g. g.taken) here in
        let unpinned : (later.cells.gates slot).pins ≡ 0 = ap (λ g. g.pins) here in
        let unleft : (s : ℕ) → later.history.stays slot s ≡ false = λ s. stays slot s ∙ none_left slot s was.1 in
        of_gate config state later own had freed had (λ other. 0) 0 1 stand slot (record {
          there = there;
          gates = elsewhere;
          stays = λ other s apart. stays other s;
          tenants = λ other s apart. tenants other s;
          other_pins = λ other apart. refl;
          other_frees = λ other apart. sym (are other ∙ other_none slot other apart);
          pins = omega (
            arith,
            unpinned,
            was.1,
            counts_none (state.history.stays slot (state.cells.gates slot).seq) (none_left slot (state.cells.gates slot).seq was.1),
            counts_none (later.history.stays slot (later.cells.gates slot).seq) (unleft (later.cells.gates slot).seq),
          );
          left = λ s is. absurd (contradiction (later.history.stays slot s) is (unleft s));
          frees_one = omega (arith, untaken_gate (later.cells.gates slot) untaken, is_idle, are slot, same_once slot);
          doors = λ tenant low. omega (
            arith,
            used tenant,
            none_of own tenant,
            claimed_untaken (later.cells.gates slot) (later.history.tenant slot (later.cells.gates slot).seq) tenant untaken,
            ap (λ t. if (state.cells.gates slot).taken && (t == tenant) then 1 else 0) owner ∙ claimed_taken (state.cells.gates slot) own tenant was.0,
          );
          quotas = λ tenant low. omega (arith, used tenant, stand.counts.quotas tenant low);
          unpinned = λ is. unpinned;
          taken_for = λ is. absurd (contradiction (later.cells.gates slot).taken is untaken);
        })

    -- a pin is left behind
    pub leaves : (seq : ℕ) → later.cells.gates slot ≡ state.cells.gates slot → 1 ≤ (state.cells.gates slot).pins → (state.cells.gates slot).seq ≡ seq → state.history.stays slot seq ≡ false
        → later.history.stays ≡ upd_two state.history.stays slot seq true → ((other s : ℕ) → later.history.tenant other s ≡ state.history.tenant other s)
        → Shifts config state later own (λ other. if_same slot other) (λ other. 0) (λ other. 0) (λ other. 0) 0 0
    leaves seq here some number unleft stays tenants =
        let taken : (state.cells.gates slot).taken ≡ true = pinned_is_taken (state.cells.gates slot) (stand.unpinned slot) some in
        let same : (later.cells.gates slot).seq ≡ seq = ap (λ g. g.seq) here ∙ number in
        let now : later.history.stays slot (later.cells.gates slot).seq ≡ true =
        upd_two_at state.history.stays later.history.stays slot seq (later.cells.gates slot).seq true stays same in
        let was : state.history.stays slot (state.cells.gates slot).seq ≡ false = ap (λ n. state.history.stays slot n) number ∙ unleft in
        of_gate config state later own (λ other. if_same slot other) (λ other. 0) (λ other. 0) (λ other. 0) 0 0 stand slot (record {
          there = there;
          gates = elsewhere;
          stays = λ other s apart. ap (λ f. f other s) stays ∙ upd_two_else state.history.stays slot seq other s true apart;
          tenants = λ other s apart. tenants other s;
          other_pins = λ other apart. sym (other_none slot other apart);
          other_frees = λ other apart. refl;
          pins = omega (arith, ap (λ g. g.pins) here, same_once slot, counts_none (state.history.stays slot (state.cells.gates slot).seq) was, ap one_if now);
          left = λ s is. elim (cases_eq s seq) [
            | inl e ↦ ((ap (λ g. g.taken) here ∙ taken, omega (arith, ap (λ g. g.pins) here, some)), same ∙ sym e)
            | inr apart ↦ subst (λ g. IsPinnedAs s g) (sym here) (stand.counts.left slot s (sym (upd_two_next state.history.stays slot seq s true apart) ∙ sym (ap (λ f. f slot s) stays) ∙ is))
          ];
          frees_one = omega (arith, ap (λ g. one_if (g.taken && (g.pins == 0))) here);
          doors = λ tenant low. omega (arith, used tenant, same_claimed_here tenant (ap (λ g. g.taken) here) (ap (λ g. g.seq) here) tenants);
          quotas = λ tenant low. omega (arith, used tenant, stand.counts.quotas tenant low);
          unpinned = λ is. absurd (contradiction (later.cells.gates slot).taken (ap (λ g. g.taken) here ∙ taken) is);
          taken_for = λ is. same_taken_for (ap (λ g. g.seq) here) tenants taken;
        })
