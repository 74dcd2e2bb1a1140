-- What the shared words tell of each tenant's file: which changes are in it, by the status of each slot's change.
-- Used by: ArrivalsAndStarts, CallFiles, CallsCanBeMade, among others.
use Rattle.std.specs.Prelude.{ℕ, ◌≡◌, ◌<◌, ◌==◌, ◌&&◌, Bool, true, false, if◌then◌else◌, List, [], length}
use Rattle.std.proofs.Common.{refl, sym, ap, subst, ◌∙◌, inr, arith}
use Rattle.std.proofs.lemmas.Bool.Decides.{nat_tests}
use Rattle.mw_words.specs.declared.gates.Gate.{Gate}
use Rattle.mw_words.specs.declared.jobs.Entry.{Entry}
use Rattle.mw_words.specs.declared.statuses.Status.{Status}
use Rattle.mw_words.specs.declared.statuses.Status.TheVariants.{Draft, Open, YesDirty, Yes, No, DoneYes, DoneNo}
use Rattle.mw_words.specs.Change.{word_at}
use Rattle.mw_world.specs.Files.State.{File, Place, Empty, Prepared, Sealed, is_empty, is_sealed, entries_in, entries_at, share_a_word}
use Rattle.mw_world.specs.declared.config.Config.{Config}
use Rattle.mw_world.specs.Claim.Invariant.{AreApart, IsInFile, placed}
use Rattle.mw_world.specs.Definition.Logical.{logical}
use Rattle.mw_world.specs.Definition.State.{State, tenant_at, tenants_of}
use Rattle.mw_law_runs.specs.Moves.Memory.{Memory}
use Rattle.mw_law_store.specs.Files.Files.{HasFiles, places_of}
use Rattle.mw_law_store.proofs.Files.Apart.{two_apart}
use Rattle.mw_law_store.proofs.Files.PlacesBySlot.{ArePlaced}

-- the place that is due to a slot in a tenant's file: by the slot's gate, and by the tenant, the status and the entries of the
-- slot's change
abbrev pub due_of : Gate → ℕ → Status → List Entry → ℕ → Place
due_of gate owner fate change tenant = if gate.taken && (owner == tenant) then placed fate change else Empty

abbrev pub due : State → ℕ → ℕ → Place
due state tenant slot =
    let seq = (state.cells.gates slot).seq in
    due_of (state.cells.gates slot) (state.history.tenant slot seq) (state.history.fate slot seq) (state.history.change slot seq) tenant

-- A file has so many words. It has failed exactly if the door has the fault, and always if it didn't open. It has nothing in
-- doubt until it fails. If it opened, its words have these values.
pub record Agrees (words : ℕ) (fault is_up : Bool) (values : ℕ → ℕ) (file : File) : Type 0 where
  pub long : length file.contents ≡ words
  pub failed : file.has_failed ≡ fault
  pub down : is_up ≡ false → file.has_failed ≡ true
  pub certain : file.has_failed ≡ false → file.doubt ≡ []
  pub shown : is_up ≡ true → (address : ℕ) → address < words → values address ≡ word_at file.contents address

-- A tenant's file agrees with the shared words, and each of its changes has its place.
pub record IsFiled (config : Config) (state : State) (tenant : ℕ) : Type 0 where
  pub agrees : Agrees (tenant_at config tenant).words (state.cells.doors tenant).fault (state.tenant_states tenant).is_up (logical state.cells tenant) (state.tenant_states tenant).file
  pub places : ArePlaced (places_of config state tenant) (due state tenant) (state.tenant_states tenant).file

-- That holds of each tenant's file.
abbrev pub AreFiled : Config → State → Type 0
AreFiled config state = (tenant : ℕ) → tenant < tenants_of config → IsFiled config state tenant

module _ (state : State) (tenant slot : ℕ) where
  pub is_due : IsInFile state tenant slot → is_empty (due state tenant slot) ≡ false
  is_due is = grind (arith, nat_tests, is.taken, is.same_tenant, is.in_file)

  pub due_as : IsInFile state tenant slot → due state tenant slot ≡ placed (state.history.fate slot (state.cells.gates slot).seq) (state.history.change slot (state.cells.gates slot).seq)
  due_as is = grind (arith, nat_tests, is.taken, is.same_tenant)

  pub in_file : is_empty (due state tenant slot) ≡ false → IsInFile state tenant slot
  in_file some = record { taken = grind (arith, nat_tests, some); same_tenant = grind (arith, nat_tests, some); in_file = grind (arith, nat_tests, some) }

pub are_filed : (config : Config) (state : State) → HasFiles config state → AreFiled config state
are_filed config state has tenant low =
    let told = has.told tenant low in
    record {
      agrees = record { long = told.long; failed = told.fault; down = told.down; certain = told.certain; shown = told.shown };
      places = record {
        within = λ slot some. has.places.within tenant slot (in_file state tenant slot some);
        there = λ slot some. has.places.there tenant slot (in_file state tenant slot some) ∙ sym (due_as state tenant slot (in_file state tenant slot some));
        own = λ slot other some too is. has.places.own tenant slot other (in_file state tenant slot some) (in_file state tenant other too) is;
        in_use = λ place used. let at = has.places.in_use tenant place low used in record { slot = at.slot; due_some = is_due state tenant at.slot at.in_file; is = at.is };
      };
    }

-- if that holds of each tenant's file
pub files_if : (config : Config) (state : State) → ((tenant slot : ℕ) → IsInFile state tenant slot → tenant < tenants_of config)
    → ((tenant : ℕ) → tenant < tenants_of config → AreApart (state.tenant_states tenant).file) → AreFiled config state → HasFiles config state
files_if config state there_is aparts filed = record {
  told = λ tenant low.
      let agrees = (filed tenant low).agrees in
      record { long = agrees.long; fault = agrees.failed; down = agrees.down; certain = agrees.certain; shown = agrees.shown; apart = aparts tenant low };
  places = record {
    within = λ tenant slot is. (filed tenant (there_is tenant slot is)).places.within slot (is_due state tenant slot is);
    there = λ tenant slot is. (filed tenant (there_is tenant slot is)).places.there slot (is_due state tenant slot is) ∙ due_as state tenant slot is;
    own = λ tenant slot other is too same. (filed tenant (there_is tenant slot is)).places.own slot other (is_due state tenant slot is) (is_due state tenant other too) same;
    in_use = λ tenant place low used.
        let at = (filed tenant low).places.in_use place used in
        record { slot = at.slot; in_file = in_file state tenant at.slot at.due_some; is = at.is };
  };
}

-- a sealed place is that of a change whose status is Yes
sealed_as : (status : Status) (entries : List Entry) → is_sealed (placed status entries) ≡ true → status ≡ Yes
sealed_as Yes entries is = refl
sealed_as Draft entries is = cc
sealed_as Open entries is = cc
sealed_as YesDirty entries is = cc
sealed_as DoneYes entries is = cc
sealed_as (No entry value) entries is = cc
sealed_as (DoneNo entry value) entries is = cc

sealed_some : (place : Place) → is_sealed place ≡ true → is_empty place ≡ false
sealed_some Empty is = cc
sealed_some (Prepared entries) is = refl
sealed_some (Sealed entries) is = refl

module _ (config : Config) (state : State) (memory : Memory config state) where
  -- A sealed place is that of a slot whose change is made.
  pub record IsMadeAt (tenant place : ℕ) : Type 0 where
    pub slot : ℕ
    pub at : (state.tenant_states tenant).file.place_of slot ≡ place
    pub same_tenant : state.history.tenant slot (state.cells.gates slot).seq ≡ tenant
    pub is_made : state.history.fate slot (state.cells.gates slot).seq ≡ Yes
    pub entries : entries_at (state.tenant_states tenant).file place ≡ state.history.change slot (state.cells.gates slot).seq

  pub made_at : (tenant place : ℕ) → IsFiled config state tenant → is_sealed ((state.tenant_states tenant).file.places place) ≡ true → IsMadeAt tenant place
  made_at tenant place filed is =
      let file = (state.tenant_states tenant).file in
      let at = filed.places.in_use place (sealed_some (file.places place) is) in
      let its = in_file state tenant at.slot at.due_some in
      let seq = (state.cells.gates at.slot).seq in
      let stands : file.places place ≡ placed (state.history.fate at.slot seq) (state.history.change at.slot seq) =
      ap (λ (n : ℕ). file.places n) (sym at.is) ∙ filed.places.there at.slot at.due_some ∙ due_as state tenant at.slot its in
      let made = sealed_as (state.history.fate at.slot seq) (state.history.change at.slot seq) (ap is_sealed (sym stands) ∙ is) in
      record {
        slot = at.slot;
        at = at.is;
        same_tenant = its.same_tenant;
        is_made = made;
        entries = ap entries_in stands ∙ ap (λ (status : Status). entries_in (placed status (state.history.change at.slot seq))) made;
      }

  apart : (tenant : ℕ) → IsFiled config state tenant → AreApart (state.tenant_states tenant).file
  apart tenant filed place other differ here there =
      let file = (state.tenant_states tenant).file in
      let one = made_at tenant place filed here in
      let two = made_at tenant other filed there in
      subst (λ (entries : List Entry). share_a_word entries (entries_at file other) ≡ false) (sym one.entries)
      (subst (λ (entries : List Entry). share_a_word (state.history.change one.slot (state.cells.gates one.slot).seq) entries ≡ false) (sym two.entries)
      (two_apart config state memory one.slot (state.cells.gates one.slot).seq two.slot (state.cells.gates two.slot).seq
      (λ same. differ (sym one.at ∙ ap (λ (n : ℕ). file.place_of n) same ∙ two.at)) (one.same_tenant ∙ sym two.same_tenant) (inr one.is_made) (inr two.is_made)))

  tenant_there : (tenant slot : ℕ) → IsInFile state tenant slot → tenant < tenants_of config
  tenant_there tenant slot is =
      subst (λ (n : ℕ). n < tenants_of config) is.same_tenant (memory.claims.formed slot (state.cells.gates slot).seq (memory.claims.claimed slot is.taken)).0

  pub has_files : AreFiled config state → HasFiles config state
  has_files filed = files_if config state tenant_there (λ tenant low. apart tenant (filed tenant low)) filed
