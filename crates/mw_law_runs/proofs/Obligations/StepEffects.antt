-- Defines what one step of any request may do to gates, words and statuses (claim, hold, refuse, write), and proves it of
-- each single update. StepEffectsByPoint says which of these each point's step makes. Used by: StepObligations, which
-- proves steps_keep_releasers; FileCalls, Cleaners, RefusedChanges.
use Rattle.std.specs.Prelude.{ℕ, ◌≡◌, ◌⊎◌, ◌==◌, ◌++◌, Bool, true, false, if◌then◌else◌, [], ◌∷◌, Some}
use Rattle.std.proofs.Common.{refl, sym, ap, subst, ◌∙◌, inl, inr, arith}
use Rattle.std.proofs.lemmas.Bool.Decides.{nat_tests}
use Rattle.mw_words.specs.declared.gates.Gate.{Gate}
use Rattle.mw_words.specs.declared.replies.Reply.TheVariants.{Fault as SaysFault}
use Rattle.mw_words.specs.declared.statuses.Status.{Status}
use Rattle.mw_words.specs.declared.statuses.Status.TheVariants.{Yes}
use Rattle.mw_words.specs.declared.words.Word.{Word}
use Rattle.mw_words.specs.declared.words.Word.TheVariants.{Held, Dirty}
use Rattle.mw_actor.specs.declared.points.Point.{Point}
use Rattle.mw_actor.specs.declared.points.Point.TheVariants.{ReadTargetStatus, Release, Replied}
use Rattle.mw_actor.specs.declared.points.Slot.{Slot}
use Rattle.mw_actor.specs.declared.points.Sweep.TheVariants.{Yes as SweepYes}
use Rattle.mw_actor.specs.declared.points.Task.{Task}
use Rattle.mw_actor.specs.ActorState.{ActorState}
use Rattle.mw_world.specs.Maps.{upd, upd_two}
use Rattle.mw_world.specs.Definition.History.{StandingAttempt, HoldPermission}
use Rattle.mw_world.specs.Claim.Invariant.{IsRefused}
use Rattle.mw_world.specs.Definition.State.{State}
use Rattle.mw_law_runs.specs.Moves.Moves.{SetIntent, made_all}
use Rattle.mw_law_runs.specs.Moves.StepMoves.{give_up_moves}
use Rattle.mw_law_runs.specs.Obligations.{own_of}

-- The slot was taken under this number before.
pub record WasTaken (old : State) (slot seq : ℕ) : Type 0 where
  pub was : (old.cells.gates slot).taken ≡ true
  pub number : (old.cells.gates slot).seq ≡ seq

-- The slot wasn't taken. The request of this worker claimed it, and has the slot's change as its own from then on.
pub record IsClaimed (old after : State) (by : ℕ) (next : Point) (slot seq : ℕ) : Type 0 where
  pub was_free : (old.cells.gates slot).taken ≡ false
  pub owner : after.history.owner slot seq ≡ by
  pub own : own_of next ≡ Some (record { slot = slot; seq = seq })

-- The request goes on to the status of this change.
pub record Turns (next : Point) (slot seq : ℕ) : Type 0 where
  pub task : Task
  pub goes : next ≡ ReadTargetStatus task
  pub target_slot : task.target.slot ≡ slot
  pub target_seq : task.target.seq ≡ seq

-- The request has written a held word for the change that has this slot. The change is made.
pub record Inks (old : State) (point : Point) (tenant address slot : ℕ) : Type 0 where
  pub task : Task
  pub entry : ℕ
  pub releases : point ≡ Release task SweepYes entry
  pub target_slot : task.target.slot ≡ slot
  pub word : old.cells.words tenant address ≡ Held task.target.slot task.target.seq
  pub made : old.history.fate task.target.slot task.target.seq ≡ Yes

-- A slot that is taken was taken before under the same number, or was claimed by the step.
abbrev pub GatesGoOn : State → State → ActorState → Point → Type 0
GatesGoOn old after actor next = (slot : ℕ) → (after.cells.gates slot).taken ≡ true
    → WasTaken old slot (after.cells.gates slot).seq ⊎ IsClaimed old after actor.worker next slot (after.cells.gates slot).seq

-- A word that is held for a change was held for it before, or the step has held it.
abbrev pub HeldGoOn : State → State → ActorState → Point → Type 0
HeldGoOn old after actor next = (tenant address slot seq : ℕ) → after.cells.words tenant address ≡ Held slot seq
    → (old.cells.words tenant address ≡ Held slot seq) ⊎ (Turns next slot seq × (actor.tenant ≡ tenant))

-- A change that is refused was refused before, or the step has refused it.
abbrev pub RefusedGoOn : State → State → ActorState → Point → Type 0
RefusedGoOn old after actor next = (slot seq : ℕ) → IsRefused (after.history.fate slot seq)
    → IsRefused (old.history.fate slot seq) ⊎ (Turns next slot seq × (old.history.tenant slot seq ≡ actor.tenant))

-- A word that a change has written was written before, or the step has written it.
abbrev pub DirtyGoOn : State → State → Point → Type 0
DirtyGoOn old after point = (tenant address slot value : ℕ) → after.cells.words tenant address ≡ Dirty slot value
    → (old.cells.words tenant address ≡ Dirty slot value) ⊎ Inks old point tenant address slot

-- All of this, of a request that was at one point and is at the next one.
pub record StepsOn (old after : State) (actor : ActorState) (point next : Point) : Type 0 where
  pub gates : GatesGoOn old after actor next
  pub held : HeldGoOn old after actor next
  pub refused : RefusedGoOn old after actor next
  pub dirty : DirtyGoOn old after point

-- the value of a map that was set at one place
pub set_or_not : {A : Type 0} (P : A → Type 0) (f : ℕ → ℕ → A) (i j k l : ℕ) (x : A) → P (upd_two f i j x k l) → ((k ≡ i) × (l ≡ j) × P x) ⊎ P (f k l)
set_or_not P f i j k l x holds = by_tests (k == i) (l == j) refl refl holds
  where
    same : (one other : ℕ) → (one == other) ≡ true → one ≡ other
    same one other is = grind (arith, nat_tests, is)

    by_tests : (b c : Bool) → (k == i) ≡ b → (l == j) ≡ c → P (if b then (if c then x else f k l) else f k l) → ((k ≡ i) × (l ≡ j) × P x) ⊎ P (f k l)
    by_tests true true one two holds = inl (same k i one, same l j two, holds)
    by_tests true false one two holds = inr holds
    by_tests false c one two holds = inr holds

pub upd_here : {A : Type 0} (f : ℕ → A) (i k : ℕ) (x : A) → k ≡ i → upd f i x k ≡ x
upd_here f i k x is = grind (arith, nat_tests, is)

pub upd_else : {A : Type 0} (f : ℕ → A) (i k : ℕ) (x : A) → (k == i) ≡ false → upd f i x k ≡ f k
upd_else f i k x isnt = ap (λ (b : Bool). if b then x else f k) isnt

pub upd_two_here : {A : Type 0} (f : ℕ → ℕ → A) (i j k l : ℕ) (x : A) → k ≡ i → l ≡ j → upd_two f i j x k l ≡ x
upd_two_here f i j k l x one two = grind (arith, nat_tests, one, two)

-- a gate that was set
pub gate_set : (gates : ℕ → Gate) (i k : ℕ) (to : Gate) → (to.taken ≡ true → ((gates i).taken ≡ true) × ((gates i).seq ≡ to.seq)) → (upd gates i to k).taken ≡ true
    → ((gates k).taken ≡ true) × ((gates k).seq ≡ (upd gates i to k).seq)
gate_set gates i k to was taken = by_test (k == i) refl
  where
    here : k ≡ i → ((gates k).taken ≡ true) × ((gates k).seq ≡ (upd gates i to k).seq)
    here e =
        let set = upd_here gates i k to e in
        let both = was (sym (ap (λ (gate : Gate). gate.taken) set) ∙ taken) in
        (ap (λ (n : ℕ). (gates n).taken) e ∙ both.0, ap (λ (n : ℕ). (gates n).seq) e ∙ both.1 ∙ sym (ap (λ (gate : Gate). gate.seq) set))

    by_test : (b : Bool) → (k == i) ≡ b → ((gates k).taken ≡ true) × ((gates k).seq ≡ (upd gates i to k).seq)
    by_test true is = here (grind (arith, nat_tests, is))
    by_test false isnt =
        let same = upd_else gates i k to isnt in
        (sym (ap (λ (gate : Gate). gate.taken) same) ∙ taken, sym (ap (λ (gate : Gate). gate.seq) same))

module _ (old after : State) (actor : ActorState) (point next : Point) where
  -- nothing of this changed
  pub same_gates : after.cells.gates ≡ old.cells.gates → GatesGoOn old after actor next
  same_gates same slot taken = inl (record {
    was = ap (λ (gates : ℕ → Gate). (gates slot).taken) (sym same) ∙ taken;
    number = ap (λ (gates : ℕ → Gate). (gates slot).seq) (sym same);
  })

  pub same_held : after.cells.words ≡ old.cells.words → HeldGoOn old after actor next
  same_held same tenant address slot seq is = inl (ap (λ (words : ℕ → ℕ → Word). words tenant address) (sym same) ∙ is)

  pub same_refused : after.history.fate ≡ old.history.fate → RefusedGoOn old after actor next
  same_refused same slot seq is = inl (subst (λ (fates : ℕ → ℕ → Status). IsRefused (fates slot seq)) same is)

  pub same_dirty : after.cells.words ≡ old.cells.words → DirtyGoOn old after point
  same_dirty same tenant address slot value is = inl (ap (λ (words : ℕ → ℕ → Word). words tenant address) (sym same) ∙ is)

  pub untouched : after.cells.gates ≡ old.cells.gates → after.cells.words ≡ old.cells.words → after.history.fate ≡ old.history.fate → StepsOn old after actor point next
  untouched gates words fates = record { gates = same_gates gates; held = same_held words; refused = same_refused fates; dirty = same_dirty words }

  -- one gate was set, or pinned, unpinned or freed
  pub one_gate : (slot : ℕ) (to : Gate) → after.cells.gates ≡ upd old.cells.gates slot to
      → (to.taken ≡ true → ((old.cells.gates slot).taken ≡ true) × ((old.cells.gates slot).seq ≡ to.seq))
      → after.cells.words ≡ old.cells.words → after.history.fate ≡ old.history.fate → StepsOn old after actor point next
  one_gate slot to set was words fates = record { gates = by_gate; held = same_held words; refused = same_refused fates; dirty = same_dirty words }
    where
      by_gate : GatesGoOn old after actor next
      by_gate other taken =
          let both = gate_set old.cells.gates slot other to was (ap (λ (gates : ℕ → Gate). (gates other).taken) (sym set) ∙ taken) in
          inl (record { was = both.0; number = both.1 ∙ ap (λ (gates : ℕ → Gate). (gates other).seq) (sym set) })

  -- one word was set, to one that is neither held nor written
  pub one_word : (tenant address : ℕ) (to : Word) → ((slot seq : ℕ) → to ≡ Held slot seq → ⊥) → ((slot value : ℕ) → to ≡ Dirty slot value → ⊥)
      → after.cells.words ≡ upd_two old.cells.words tenant address to → after.cells.gates ≡ old.cells.gates → after.history.fate ≡ old.history.fate
      → StepsOn old after actor point next
  one_word tenant address to not_held not_dirty set gates fates = record { gates = same_gates gates; held = held_before; refused = same_refused fates; dirty = dirty_before }
    where
      was : (want : Word) (t a : ℕ) → (to ≡ want → ⊥) → after.cells.words t a ≡ want → old.cells.words t a ≡ want
      was want t a isnt is =
          either (set_or_not (λ (word : Word). word ≡ want) old.cells.words tenant address t a to (ap (λ (words : ℕ → ℕ → Word). words t a) (sym set) ∙ is))
        where
          either : ((t ≡ tenant) × (a ≡ address) × (to ≡ want)) ⊎ (old.cells.words t a ≡ want) → old.cells.words t a ≡ want
          either (inl here) = absurd (isnt here.2)
          either (inr before) = before

      held_before : HeldGoOn old after actor next
      held_before t a slot seq is = inl (was (Held slot seq) t a (not_held slot seq) is)

      dirty_before : DirtyGoOn old after point
      dirty_before t a slot value is = inl (was (Dirty slot value) t a (not_dirty slot value) is)

  -- one word is held now for the change to whose status the request goes on
  pub one_held : (tenant address : ℕ) (target : Slot) → Turns next target.slot target.seq → actor.tenant ≡ tenant
      → after.cells.words ≡ upd_two old.cells.words tenant address (Held target.slot target.seq) → after.cells.gates ≡ old.cells.gates → after.history.fate ≡ old.history.fate
      → StepsOn old after actor point next
  one_held tenant address target turns same_tenant set gates fates = record { gates = same_gates gates; held = held_before; refused = same_refused fates; dirty = dirty_before }
    where
      turned : (slot seq : ℕ) → Held target.slot target.seq ≡ Held slot seq → Turns next slot seq
      turned slot seq is = record { task = turns.task; goes = turns.goes; target_slot = turns.target_slot ∙ parts.0; target_seq = turns.target_seq ∙ parts.1 }
        where
          parts : (target.slot ≡ slot) × (target.seq ≡ seq)
          parts = (cc, cc)

      held_before : HeldGoOn old after actor next
      held_before t a slot seq is =
          either (set_or_not (λ (word : Word). word ≡ Held slot seq) old.cells.words tenant address t a (Held target.slot target.seq) (ap (λ (words : ℕ → ℕ → Word). words t a) (sym set) ∙ is))
        where
          either : ((t ≡ tenant) × (a ≡ address) × (Held target.slot target.seq ≡ Held slot seq)) ⊎ (old.cells.words t a ≡ Held slot seq)
              → (old.cells.words t a ≡ Held slot seq) ⊎ (Turns next slot seq × (actor.tenant ≡ t))
          either (inl here) = inr (turned slot seq here.2, same_tenant ∙ sym here.0)
          either (inr before) = inl before

      dirty_before : DirtyGoOn old after point
      dirty_before t a slot value is =
          either (set_or_not (λ (word : Word). word ≡ Dirty slot value) old.cells.words tenant address t a (Held target.slot target.seq) (ap (λ (words : ℕ → ℕ → Word). words t a) (sym set) ∙ is))
        where
          isnt : Held target.slot target.seq ≡ Dirty slot value → ⊥
          isnt same = cc

          either : ((t ≡ tenant) × (a ≡ address) × (Held target.slot target.seq ≡ Dirty slot value)) ⊎ (old.cells.words t a ≡ Dirty slot value)
              → (old.cells.words t a ≡ Dirty slot value) ⊎ Inks old point t a slot
          either (inl here) = absurd (isnt here.2)
          either (inr before) = inl before

  -- one held word was written by its change
  pub one_written : (tenant address entry value : ℕ) (task : Task) → point ≡ Release task SweepYes entry → old.cells.words tenant address ≡ Held task.target.slot task.target.seq
      → old.history.fate task.target.slot task.target.seq ≡ Yes
      → after.cells.words ≡ upd_two old.cells.words tenant address (Dirty task.target.slot value) → after.cells.gates ≡ old.cells.gates → after.history.fate ≡ old.history.fate
      → StepsOn old after actor point next
  one_written tenant address entry value task at was made set gates fates = record { gates = same_gates gates; held = held_before; refused = same_refused fates; dirty = dirty_before }
    where
      held_before : HeldGoOn old after actor next
      held_before t a slot seq is =
          either (set_or_not (λ (word : Word). word ≡ Held slot seq) old.cells.words tenant address t a (Dirty task.target.slot value) (ap (λ (words : ℕ → ℕ → Word). words t a) (sym set) ∙ is))
        where
          isnt : Dirty task.target.slot value ≡ Held slot seq → ⊥
          isnt same = cc

          either : ((t ≡ tenant) × (a ≡ address) × (Dirty task.target.slot value ≡ Held slot seq)) ⊎ (old.cells.words t a ≡ Held slot seq)
              → (old.cells.words t a ≡ Held slot seq) ⊎ (Turns next slot seq × (actor.tenant ≡ t))
          either (inl here) = absurd (isnt here.2)
          either (inr before) = inl before

      dirty_before : DirtyGoOn old after point
      dirty_before t a slot number is =
          either (set_or_not (λ (word : Word). word ≡ Dirty slot number) old.cells.words tenant address t a (Dirty task.target.slot value) (ap (λ (words : ℕ → ℕ → Word). words t a) (sym set) ∙ is))
        where
          same_slot_of : Dirty task.target.slot value ≡ Dirty slot number → task.target.slot ≡ slot
          same_slot_of same = cc

          either : ((t ≡ tenant) × (a ≡ address) × (Dirty task.target.slot value ≡ Dirty slot number)) ⊎ (old.cells.words t a ≡ Dirty slot number)
              → (old.cells.words t a ≡ Dirty slot number) ⊎ Inks old point t a slot
          either (inl here) = inr (record {
            task = task;
            entry = entry;
            releases = at;
            target_slot = same_slot_of here.2;
            word = ap (λ (n : ℕ). old.cells.words n a) here.0 ∙ ap (λ (n : ℕ). old.cells.words tenant n) here.1 ∙ was;
            made = made;
          })
          either (inr before) = inl before

  -- one change has another status, and is refused only if the request goes on to its status
  pub one_fate : (target : Slot) (to : Status) → (IsRefused to → Turns next target.slot target.seq × (old.history.tenant target.slot target.seq ≡ actor.tenant))
      → after.history.fate ≡ upd_two old.history.fate target.slot target.seq to → after.cells.gates ≡ old.cells.gates → after.cells.words ≡ old.cells.words
      → StepsOn old after actor point next
  one_fate target to turns set gates words = record { gates = same_gates gates; held = same_held words; refused = refused_before; dirty = same_dirty words }
    where
      refused_before : RefusedGoOn old after actor next
      refused_before slot seq is =
          either (set_or_not IsRefused old.history.fate target.slot target.seq slot seq to (subst (λ (fates : ℕ → ℕ → Status). IsRefused (fates slot seq)) set is))
        where
          turned : slot ≡ target.slot → seq ≡ target.seq → Turns next target.slot target.seq → Turns next slot seq
          turned one two turns = record { task = turns.task; goes = turns.goes; target_slot = turns.target_slot ∙ sym one; target_seq = turns.target_seq ∙ sym two }

          same_tenant : slot ≡ target.slot → seq ≡ target.seq → old.history.tenant target.slot target.seq ≡ actor.tenant → old.history.tenant slot seq ≡ actor.tenant
          same_tenant one two is = ap (λ (n : ℕ). old.history.tenant n seq) one ∙ ap (λ (n : ℕ). old.history.tenant target.slot n) two ∙ is

          either : ((slot ≡ target.slot) × (seq ≡ target.seq) × IsRefused to) ⊎ IsRefused (old.history.fate slot seq)
              → IsRefused (old.history.fate slot seq) ⊎ (Turns next slot seq × (old.history.tenant slot seq ≡ actor.tenant))
          either (inl here) = let both = turns here.2 in inr (turned here.0 here.1 both.0, same_tenant here.0 here.1 both.1)
          either (inr before) = inl before

  -- one slot was claimed
  pub one_claimed : (own : Slot) (to : Gate) → (old.cells.gates own.slot).taken ≡ false → to.seq ≡ own.seq → own_of next ≡ Some own
      → after.cells.gates ≡ upd old.cells.gates own.slot to → after.history.owner ≡ upd_two old.history.owner own.slot own.seq actor.worker
      → after.cells.words ≡ old.cells.words → after.history.fate ≡ old.history.fate → StepsOn old after actor point next
  one_claimed own to was_free number is_own set owners words fates = record { gates = by_gate; held = same_held words; refused = same_refused fates; dirty = same_dirty words }
    where
      here : (slot : ℕ) → slot ≡ own.slot → IsClaimed old after actor.worker next slot (after.cells.gates slot).seq
      here slot e =
          let gate = ap (λ (gates : ℕ → Gate). (gates slot).seq) set ∙ ap (λ (one : Gate). one.seq) (upd_here old.cells.gates own.slot slot to e) ∙ number in
          record {
            was_free = ap (λ (n : ℕ). (old.cells.gates n).taken) e ∙ was_free;
            owner = ap (λ (owner : ℕ → ℕ → ℕ). owner slot (after.cells.gates slot).seq) owners
                ∙ upd_two_here old.history.owner own.slot own.seq slot (after.cells.gates slot).seq actor.worker e gate;
            own = is_own ∙ ap (λ (found : Slot). Some found) (sym (same_slot_as slot (after.cells.gates slot).seq e gate));
          }
        where
          same_slot_as : (one two : ℕ) → one ≡ own.slot → two ≡ own.seq → record { slot = one; seq = two } ≡ own
          same_slot_as one two first second = ap (λ (n : ℕ). slot_of n two) first ∙ ap (λ (n : ℕ). slot_of own.slot n) second
            where
              slot_of : ℕ → ℕ → Slot
              slot_of s n = record { slot = s; seq = n }

      by_gate : GatesGoOn old after actor next
      by_gate slot taken = by_test (slot == own.slot) refl
        where
          by_test : (b : Bool) → (slot == own.slot) ≡ b → WasTaken old slot (after.cells.gates slot).seq ⊎ IsClaimed old after actor.worker next slot (after.cells.gates slot).seq
          by_test true is = inr (here slot (grind (arith, nat_tests, is)))
          by_test false isnt =
              let same = ap (λ (gates : ℕ → Gate). gates slot) set ∙ upd_else old.cells.gates own.slot slot to isnt in
              inl (record { was = sym (ap (λ (gate : Gate). gate.taken) same) ∙ taken; number = sym (ap (λ (gate : Gate). gate.seq) same) })

-- A request that gives up leaves its pin behind, and changes nothing else of this.
pub record LeftBehind (old after : State) (own : Slot) : Type 0 where
  pub gates : after.cells.gates ≡ old.cells.gates
  pub words : after.cells.words ≡ old.cells.words
  pub fates : after.history.fate ≡ old.history.fate
  pub stays : after.history.stays own.slot own.seq ≡ true

pub left_behind : (old : State) (by : ℕ) (own : Slot) (next : Point) (standing : StandingAttempt) (permission : HoldPermission)
    → LeftBehind old (made_all old by (give_up_moves own next ++ SetIntent standing permission ∷ [])) own
left_behind old by own (Replied SaysFault) standing permission = record { gates = refl; words = refl; fates = refl; stays = upd_two_here old.history.stays own.slot own.seq own.slot own.seq true refl refl }
left_behind old by own (Replied reply) standing permission = record { gates = refl; words = refl; fates = refl; stays = upd_two_here old.history.stays own.slot own.seq own.slot own.seq true refl refl }
left_behind old by own next standing permission = record { gates = refl; words = refl; fates = refl; stays = upd_two_here old.history.stays own.slot own.seq own.slot own.seq true refl refl }
