-- A step on the bits does what the definition of a world says of the step on the shared words.
-- Used by: Cells::make, Cells::status, mw_simulator.
use Rattle.std.specs.Prelude.{ℕ, ◌≡◌, ◌-◌, ◌==◌, Bool, true, false, cond, is_some, Some, None, IfSome}
use Rattle.std.specs.declared.option.Option.{Option}
use Rattle.std.specs.Option.{option_and_then, option_map_or}
use Rattle.std.proofs.Common.{refl, sym, ap, subst, ◌∙◌, arith}
use Rattle.std.proofs.lemmas.Option.{same_Some}
use Rattle.mw_words.specs.declared.places.At.{At}
use Rattle.mw_words.specs.declared.places.At.TheVariants.{Door as AtDoor, Gate as AtGate, Status as AtStatus}
use Rattle.mw_words.specs.Patterns.{packed_door, packed_gate, unpacked_status}
use Rattle.mw_words.proofs.PatternLaws.{door_round, gate_round, status_round}
use Rattle.mw_pool.specs.Moves.{after_unpin}
use Rattle.mw_look.specs.declared.steps.Kind.{Kind}
use Rattle.mw_look.specs.declared.steps.Kind.TheVariants.{Unpin as UnpinKind, Drop as DropKind, Fault as FaultKind}
use Rattle.mw_look.specs.declared.steps.Op.{Op}
use Rattle.mw_look.specs.declared.steps.Op.TheVariants.{Load as LoadBits, Change as ChangeBits, File as FileCall}
use Rattle.mw_look.specs.declared.observations.Got.{Got}
use Rattle.mw_look.specs.declared.observations.Got.TheVariants.{Word as Found, Won as GotWon, Lost as GotLost}
use Rattle.mw_look.specs.declared.observations.Observation.{Observation}
use Rattle.mw_look.specs.declared.observations.Observation.TheVariants.{Won, Lost}
use Rattle.mw_look.specs.Observations.{observation_of, observation_of_bits, seen}
use Rattle.mw_look.specs.Places.{Val, Fits, pack}
use Rattle.mw_look.proofs.PlaceLaws.{packs_are_seen}
use Rattle.mw_look.specs.Steps.{Step, Load, Change, File, op_of, place}
use Rattle.mw_world.specs.Definition.Cells.{Cells, read, write, AllFit}
use Rattle.mw_look.specs.declared.steps.Shape.{Shape}
use Rattle.mw_look.specs.declared.steps.Shape.TheVariants.{Exchange, Store, Fetch}
use Rattle.mw_look.specs.Shapes.{shape_of}
use Rattle.mw_world.specs.Definition.Changes.{fetched, changed, done}
use Rattle.mw_look.specs.Steps.{StepFits}
use Rattle.mw_world_memory.specs.Bits.{Bits, bits_at, put_bits, is_there, SamePlaces}
use Rattle.mw_world_memory.specs.BitsMatch.{BitsMatch}
use Rattle.mw_world_memory.specs.StepsInBits.{fetched_bits, bits_changed, got_by, bits_after, got_after, is_step_there, cells_after, observation_after, Makes}
use Rattle.mw_world_memory.proofs.BitsMatchLaws.{put_ties, write_fits, put_keeps_places}

-- what a fetch makes of a word is in range
fetched_fits : (kind : Kind) (at : At) (x : Val at) → Fits at x → Fits at (fetched kind at x)
fetched_fits UnpinKind (AtGate slot) gate fits = (omega (arith, fits.0), fits.1, λ e. omega (arith, fits.2 e))
fetched_fits DropKind (AtDoor tenant) door fits = omega (arith, fits)
fetched_fits FaultKind (AtDoor tenant) door fits = fits
fetched_fits kind at x fits = fits

-- its bits are those that a fetch in bits makes
fetched_packs : (kind : Kind) (at : At) (x : Val at) → Fits at x → fetched_bits kind at (pack at x) ≡ pack at (fetched kind at x)
fetched_packs UnpinKind (AtGate slot) gate fits = ap (λ o. option_map_or (λ g. packed_gate (after_unpin g)) o (packed_gate gate)) (gate_round gate fits)
fetched_packs DropKind (AtDoor tenant) door fits = ap (λ o. option_map_or (λ d. packed_door (record d { used = d.used - 1 })) o (packed_door door)) (door_round door fits)
fetched_packs FaultKind (AtDoor tenant) door fits = ap (λ o. option_map_or (λ d. packed_door (record d { fault = true })) o (packed_door door)) (door_round door fits)
fetched_packs kind at x fits = refl

-- the bits after a change match the words after it
change_ties : (shape : Shape) (kind : Kind) (at : At) (from to : Val at) (bits : Bits) (cells : Cells) → BitsMatch bits cells → Fits at (read cells at) →
    BitsMatch (bits_changed shape kind at (pack at from) (pack at to) bits (pack at (read cells at))) (changed shape kind at from to cells (λ after observation. after))
change_ties Exchange kind at from to bits cells tie fits = by (pack at (read cells at) == pack at from)
  where
    by : (wins : Bool) → BitsMatch (cond wins (put_bits bits at (pack at to)) bits) (cond wins (write cells at to) cells)
    by true = put_ties bits cells at to tie
    by false = tie
change_ties Store kind at from to bits cells tie fits = put_ties bits cells at to tie
change_ties Fetch kind at from to bits cells tie fits =
    let x = read cells at in
    subst (λ there. BitsMatch (put_bits bits at there) (write cells at (fetched kind at x))) (sym (fetched_packs kind at x fits)) (put_ties bits cells at (fetched kind at x) tie)

change_fits : (shape : Shape) (kind : Kind) (at : At) (from to : Val at) (cells : Cells) → AllFit cells → Fits at to →
    AllFit (changed shape kind at from to cells (λ after observation. after))
change_fits Exchange kind at from to cells all fits = by (pack at (read cells at) == pack at from)
  where
    by : (wins : Bool) → AllFit (cond wins (write cells at to) cells)
    by true = write_fits cells at to fits all
    by false = all
change_fits Store kind at from to cells all fits = write_fits cells at to fits all
change_fits Fetch kind at from to cells all fits = write_fits cells at (fetched kind at (read cells at)) (fetched_fits kind at (read cells at) (all at)) all

-- the request is told the same of the change
change_tells : (shape : Shape) (kind : Kind) (at : At) (from to : Val at) (cells : Cells) → Fits at (read cells at) →
    observation_of at (got_by shape (pack at from) (pack at (read cells at))) ≡ changed shape kind at from to cells (λ after observation. observation)
change_tells Exchange kind at from to cells fits = by (pack at (read cells at) == pack at from)
  where
    by : (wins : Bool) → observation_of at (cond wins GotWon GotLost) ≡ cond wins Won Lost
    by true = refl
    by false = refl
change_tells Store kind at from to cells fits = refl
change_tells Fetch kind at from to cells fits = packs_are_seen at (read cells at) fits

-- What a step in bits did, for one step and one state of the shared words.
record Did (step : Step) (bits : Bits) (cells : Cells) (got : Got) : Type 0 where
  tie : BitsMatch (bits_after (op_of step) bits) (cells_after step cells)
  fit : AllFit (cells_after step cells)
  observation : observation_of (place step) got ≡ observation_after step cells

did : (step : Step) (bits : Bits) (cells : Cells) (got : Got) → got_after (op_of step) bits ≡ Some got → BitsMatch bits cells → AllFit cells → StepFits step → Did step bits cells got
did (Load at) bits cells got is tie all fits = record { tie = tie; fit = all; observation = told (bits_at bits at) (tie at) is }
  where
    told : (o : Option ℕ) → IfSome o (λ there. there ≡ pack at (read cells at)) → option_map_or (λ there. Some (Found there)) o None ≡ Some got → observation_of at got ≡ seen at (read cells at)
    told (Some there) same e = ap (observation_of at) (sym (same_Some (Found there) got e)) ∙ ap (observation_of_bits at) same ∙ packs_are_seen at (read cells at) (all at)
    told None same e = cc
did (Change kind at from to) bits cells got is tie all fits =
    record { tie = tied (bits_at bits at) (tie at) is; fit = change_fits (shape_of kind) kind at from to cells all fits.1; observation = told (bits_at bits at) (tie at) is }
  where
    tied : (o : Option ℕ) → IfSome o (λ there. there ≡ pack at (read cells at)) → option_map_or (λ there. Some (got_by (shape_of kind) (pack at from) there)) o None ≡ Some got →
        BitsMatch (option_map_or (λ there. bits_changed (shape_of kind) kind at (pack at from) (pack at to) bits there) o bits) (changed (shape_of kind) kind at from to cells (λ after observation. after))
    tied (Some there) same e =
        subst (λ n. BitsMatch (bits_changed (shape_of kind) kind at (pack at from) (pack at to) bits n) (changed (shape_of kind) kind at from to cells (λ after observation. after))) (sym same)
        (change_ties (shape_of kind) kind at from to bits cells tie (all at))
    tied None same e = absurd (cc)

    told : (o : Option ℕ) → IfSome o (λ there. there ≡ pack at (read cells at)) → option_map_or (λ there. Some (got_by (shape_of kind) (pack at from) there)) o None ≡ Some got →
        observation_of at got ≡ changed (shape_of kind) kind at from to cells (λ after observation. observation)
    told (Some there) same e =
        ap (observation_of at) (sym (same_Some (got_by (shape_of kind) (pack at from) there) got e)) ∙ ap (λ n. observation_of at (got_by (shape_of kind) (pack at from) n)) same
        ∙ change_tells (shape_of kind) kind at from to cells (all at)
    told None same e = absurd (cc)
did (File call slot) bits cells got is tie all fits = absurd (cc)

makes_as : (op : Op) (bits : Bits) (o : Option Got) → got_after op bits ≡ o → IfSome o (Makes op bits (bits_after op bits))
makes_as op bits None is = tt
makes_as op bits (Some got) is = record {
  tie = λ cells step same tie all fits. subst (λ p. BitsMatch (bits_after p bits) (cells_after step cells)) (sym same) (did step bits cells got (of step same) tie all fits).tie;
  fit = λ cells step same tie all fits. (did step bits cells got (of step same) tie all fits).fit;
  observation = λ cells step same tie all fits. (did step bits cells got (of step same) tie all fits).observation;
}
  where
    of : (step : Step) → op ≡ op_of step → got_after (op_of step) bits ≡ Some got
    of step same = sym (ap (λ p. got_after p bits) same) ∙ is

-- the request is told something if, and only if, the step is a load or a change of an existing place
told_there : (op : Op) (bits : Bits) → is_some (got_after op bits) ≡ is_step_there op bits
told_there (LoadBits at) bits = by (bits_at bits at)
  where
    by : (o : Option ℕ) → is_some (option_map_or (λ there. Some (Found there)) o None) ≡ is_some o
    by (Some there) = refl
    by None = refl
told_there (ChangeBits kind at from to) bits = by (bits_at bits at)
  where
    by : (o : Option ℕ) → is_some (option_map_or (λ there. Some (got_by (shape_of kind) from there)) o None) ≡ is_some o
    by (Some there) = refl
    by None = refl
told_there (FileCall call slot) bits = refl

change_keeps_places : (shape : Shape) (kind : Kind) (at : At) (from to : ℕ) (bits : Bits) (there : ℕ) → SamePlaces bits (bits_changed shape kind at from to bits there)
change_keeps_places Exchange kind at from to bits there = by (there == from)
  where
    by : (wins : Bool) → SamePlaces bits (cond wins (put_bits bits at to) bits)
    by true = put_keeps_places bits at to
    by false = λ o. refl
change_keeps_places Store kind at from to bits there = put_keeps_places bits at to
change_keeps_places Fetch kind at from to bits there = put_keeps_places bits at (fetched_bits kind at there)

step_keeps_places : (op : Op) (bits : Bits) → SamePlaces bits (bits_after op bits)
step_keeps_places (LoadBits at) bits = λ o. refl
step_keeps_places (ChangeBits kind at from to) bits = by (bits_at bits at)
  where
    by : (o : Option ℕ) → SamePlaces bits (option_map_or (λ there. bits_changed (shape_of kind) kind at from to bits there) o bits)
    by (Some there) = change_keeps_places (shape_of kind) kind at from to bits there
    by None = λ o. refl
step_keeps_places (FileCall call slot) bits = λ o. refl

untold : (op : Op) (bits : Bits) → got_after op bits ≡ None → bits_after op bits ≡ bits
untold (LoadBits at) bits is = refl
untold (ChangeBits kind at from to) bits is = by (bits_at bits at) is
  where
    by : (o : Option ℕ) → option_map_or (λ there. Some (got_by (shape_of kind) from there)) o None ≡ None → option_map_or (λ there. bits_changed (shape_of kind) kind at from to bits there) o bits ≡ bits
    by (Some there) e = absurd (cc)
    by None e = refl
untold (FileCall call slot) bits is = refl

-- What holds after a step was made, by equations.
pub record Made (op : Op) (old new : Bits) (result : Option Got) : Type 0 where
  pub there : is_some result ≡ is_step_there op old
  pub makes : IfSome result (Makes op old new)
  pub places : SamePlaces old new
  pub none : result ≡ None → new ≡ old

pub made_is : (op : Op) (old new : Bits) (result : Option Got) → result ≡ got_after op old → new ≡ bits_after op old → Made op old new result
made_is op old new result is after = record {
  there = ap is_some is ∙ told_there op old;
  makes = subst (λ bits. IfSome result (Makes op old bits)) (sym after) (makes_as op old result (sym is));
  places = subst (SamePlaces old) (sym after) (step_keeps_places op old);
  none = λ e. after ∙ untold op old (sym is ∙ e);
}

-- what follows a step depends on the shared words after it and on what the request is told
pub done_is : {A : Type 0} → (step : Step) (cells : Cells) (then : Cells → Observation → A) → done step cells then ≡ then (cells_after step cells) (observation_after step cells)
done_is (Load at) cells then = refl
done_is (Change kind at from to) cells then = changed_is (shape_of kind)
  where
    changed_is : (shape : Shape) →
        changed shape kind at from to cells then ≡ then (changed shape kind at from to cells (λ after observation. after)) (changed shape kind at from to cells (λ after observation. observation))
    changed_is Exchange = by (pack at (read cells at) == pack at from)
      where
        by : (wins : Bool) → cond wins (then (write cells at to) Won) (then cells Lost) ≡ then (cond wins (write cells at to) cells) (cond wins Won Lost)
        by true = refl
        by false = refl
    changed_is Store = refl
    changed_is Fetch = refl
done_is (File call slot) cells then = refl

-- the status of a slot is unpacked from its bits
pub status_is : (bits : Bits) (cells : Cells) (slot : ℕ) → BitsMatch bits cells → AllFit cells →
    option_and_then unpacked_status (bits_at bits (AtStatus slot)) ≡ cond (is_there bits (AtStatus slot)) (Some (cells.statuses slot)) None
status_is bits cells slot tie fits = by (bits_at bits (AtStatus slot)) (tie (AtStatus slot))
  where
    by : (o : Option ℕ) → IfSome o (λ there. there ≡ pack (AtStatus slot) (cells.statuses slot)) → option_and_then unpacked_status o ≡ cond (is_some o) (Some (cells.statuses slot)) None
    by (Some there) same = ap unpacked_status same ∙ status_round (cells.statuses slot) (fits (AtStatus slot))
    by None same = refl
