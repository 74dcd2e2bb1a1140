-- Goals of `recall` (src/opening.rt).
use Rattle.std.proofs.Common.{◌<◌, ◌∙◌, List, ap, arith, inl, inr, length, slice_set, sym}
use Rattle.std.proofs.lemmas.Bool.{cases_eq}
use Rattle.mw_record.specs.Damages.{records_of}
use Rattle.mw_file.specs.declared.place_states.PlaceState.{PlaceState}
use Rattle.mw_file.specs.PlaceStates.{stage_at, stage_of, writes_in, writes_of_place, IsStaged}
use Rattle.mw_file.specs.RollForward.{if_open, kept_of}
use Rattle.mw_file.proofs.Places.{staged, get_written, get_others}
use Rattle.mw_file.proofs.RollLoop.{kept_is}
use Rattle.mw_file.proofs.opening.recall.Goals as goal

pub loop-place-preserved : goal.loop-place-preserved
loop-place-preserved c =
    let image = c.args.image.now in
    let states = c.loop-place.states in
    let k = c.loop-place.place in
    let s = c.state_of.result in
    let so_far = c.loop-place.invariant in
    let within : k < length states = omega (arith, c.loop-place-test.true, c.places-place-end.ensures.value, so_far.0) in
    let next : List PlaceState = slice_set states k s in
    let now : IsStaged states next k s.stage s.writes.items = staged states k s within in (
      now.count ∙ so_far.0,
      λ place low. elim (cases_eq place k) [
        | inl here ↦
            ap (kept_of next) here ∙ kept_is next k s (get_written states k s within) ∙ c.state_of.ensures.«record» ∙ ap (records_of image) (sym here)
        | inr apart ↦
            ap (λ o. if_open (stage_at o) (writes_in o)) (get_others states k place s apart) ∙ so_far.1 place (omega (arith, low, apart))
      ],
      λ place low is. elim (cases_eq place k) [
        | inl here ↦ c.state_of.ensures.stage (sym now.stage_here ∙ ap (stage_of next) (sym here) ∙ is)
        | inr apart ↦ so_far.2 place (omega (arith, low, apart)) (sym (now.stage_there place apart) ∙ is)
      ],
      λ place low is. elim (cases_eq place k) [
        | inl here ↦
            let some = c.state_of.ensures.some (sym now.stage_here ∙ ap (stage_of next) (sym here) ∙ is) in
            omega (arith, some, ap length (ap (writes_of_place next) here ∙ now.writes_here))
        | inr apart ↦
            let some = so_far.3 place (omega (arith, low, apart)) (sym (now.stage_there place apart) ∙ is) in
            omega (arith, some, ap length (now.writes_there place apart))
      ],
    )
