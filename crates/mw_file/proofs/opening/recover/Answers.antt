-- Goals of `recover` (src/opening.rt).
use Rattle.std.proofs.Common.{◌≡◌, ◌≤◌, ℕ, List, length, arith, sym, ap, ◌∙◌, refl, true, false, IsTrue, subst}
use Rattle.std.proofs.lemmas.List.FromFn.{length-map-range_with_len}
use Rattle.mw_words.specs.declared.limits.TheConstants.{MAX_PLACES}
use Rattle.mw_record.specs.Layout.{second_part}
use Rattle.mw_record.specs.Damages.{damage_of, is_switched, words_of, places_of, layout_of, part_of}
use Rattle.mw_record.specs.LayoutBytes.{told_at}
use Rattle.mw_file.specs.declared.place_states.PlaceState.{PlaceState}
use Rattle.mw_file.specs.Migration.{given_second}
use Rattle.mw_file.specs.OpeningEnds.{ready_calls, begins_at, CanOpen}
use Rattle.mw_file.specs.OpeningReads.{IsRead, IsReadBy}
use Rattle.mw_file.specs.PlaceStates.{all_free}
use Rattle.mw_file.specs.Stores.{IsDurable}
use Rattle.mw_file.proofs.Ended.{went_well}
use Rattle.mw_file.proofs.Free.{first_free}
use Rattle.mw_file.proofs.Opened.{whole}
use Rattle.mw_file.proofs.OpeningCallLaws.{made_well, made_badly, damaged_read, made_ready}
use Rattle.mw_file.proofs.Ran.{ran_well, ran_badly}
use Rattle.mw_file.proofs.Recovered.{IsPrepared, IsHeld, is_damaged, disk_failed, is_opened}
use Rattle.mw_file.proofs.opening.recover.Goals as goal

pub returns-in-Err-clause-opens : goal.returns-in-Err-clause-opens
returns-in-Err-clause-opens g c start read =
    let here = subst (λ (bs : List ℕ). IsRead (g.D.Disk.facts start) (g.D.Disk.facts c.args.disk) bs) (sym c.deref.ensures.value) read in
    is_damaged g.D.Disk.facts start c.args.disk c.deref.result.now _ here c.in-Err.ensures

pub returns-in-Err-clause-made : goal.returns-in-Err-clause-made
returns-in-Err-clause-made g c start read =
    let here = subst (λ (bs : List ℕ). IsReadBy g.D.Disk.facts g.D.Disk.made start c.args.disk bs) (sym c.deref.ensures.value) read in
    record {
      image = c.deref.result.now;
      seen = here.seen;
      found = c.in-Err.ensures;
      calls = damaged_read g.D.Disk.made c.deref.result.now start c.args.disk here.calls _ c.in-Err.ensures;
    }

pub make_ready-requires-clause-count : goal.make_ready-requires-clause-count
make_ready-requires-clause-count g c =
    let image = c.in-Ok.image in
    ap length (c.deref-2.ensures.value ∙ c.fill_words.ensures) ∙ length-map-range_with_len (told_at (layout_of image) (part_of image)) 0 (words_of image)

pub make_ready-requires-clause-free : goal.make_ready-requires-clause-free
make_ready-requires-clause-free g c =
    subst (λ (ss : List PlaceState). IsTrue (all_free ss)) (sym (c.deref_mut.ensures.value ∙ c.truncate.ensures.items))
    (first_free _ c.args.room.states.items c.requires.free)

pub returns-then-is_err-clause-opens : goal.returns-then-is_err-clause-opens
returns-then-is_err-clause-opens g c start read =
    let f1 = g.D.Disk.facts c.args.disk in
    let f2 = g.D.Disk.facts c.make_ready.new.disk in
    let image = c.in-Ok.image in
    let same = c.in-Ok.ensures.1 in
    let here = subst (λ (bs : List ℕ). IsRead (g.D.Disk.facts start) f1 bs) (sym (same ∙ c.deref.ensures.value)) read in
    let none = ap damage_of same ∙ c.in-Ok.ensures.0 in
    let calls = ready_calls image in
    disk_failed g.D.Disk.facts start c.args.disk c.make_ready.new.disk image c.deref-2.result.now here none (c.deref-2.ensures.value ∙ c.fill_words.ensures)
    (record { later = c.make_ready.ensures.later; moments = c.make_ready.ensures.moments; read = c.make_ready.ensures.read; touched = c.make_ready.ensures.touched; grown = c.make_ready.ensures.grown })
    (ran_badly calls calls f1 f2 c.make_ready.result refl (sym c.is_err.ensures.value ∙ c.if-is_err.true) c.make_ready.ensures.calls)

pub returns-then-is_err-clause-made : goal.returns-then-is_err-clause-made
returns-then-is_err-clause-made g c start read =
    let image = c.in-Ok.image in
    let same = c.in-Ok.ensures.1 in
    let here = subst (λ (bs : List ℕ). IsReadBy g.D.Disk.facts g.D.Disk.made start c.args.disk bs) (sym (same ∙ c.deref.ensures.value)) read in
    let none = ap damage_of same ∙ c.in-Ok.ensures.0 in
    let ready = made_badly g.D.Disk.made _ c.args.disk c.make_ready.new.disk c.make_ready.result (sym c.is_err.ensures.value ∙ c.if-is_err.true) c.make_ready.ensures.made in
    record {
      image = image;
      seen = here.seen;
      calls = made_ready g.D.Disk.made image start c.args.disk here.calls c.deref-2.result.now false c.make_ready.new.disk none (c.deref-2.ensures.value ∙ c.fill_words.ensures) ready;
    }

pub returns-clause-opens : goal.returns-clause-opens
returns-clause-opens g c start read =
    let f1 = g.D.Disk.facts c.args.disk in
    let f2 = g.D.Disk.facts c.make_ready.new.disk in
    let image = c.in-Ok.image in
    let same = c.in-Ok.ensures.1 in
    let here = subst (λ (bs : List ℕ). IsRead (g.D.Disk.facts start) f1 bs) (sym (same ∙ c.deref.ensures.value)) read in
    let none = ap damage_of same ∙ c.in-Ok.ensures.0 in
    let calls = ready_calls image in
    let ended = sym c.is_err.ensures.value ∙ c.if-is_err.false in
    let words = c.fill_words.new.words.items in
    let is_words = c.deref-2.ensures.value in
    let prepared = subst (λ (ws : List ℕ). IsPrepared f1 f2 image ws) is_words
    (record { later = c.make_ready.ensures.later; moments = c.make_ready.ensures.moments; read = c.make_ready.ensures.read; touched = c.make_ready.ensures.touched; grown = c.make_ready.ensures.grown }) in
    let good = ran_well calls calls f1 f2 c.make_ready.result refl ended c.make_ready.ensures.calls in
    let durable = went_well c.make_ready.result _ ended c.make_ready.ensures.done in
    let given = went_well c.make_ready.result _ ended c.make_ready.ensures.given in
    let states_len = c.make_ready.auto.states ∙ c.deref_mut.ensures.len in
    let states_are = whole _ c.make_ready.new.states _ states_len in
    let states_long = ap length states_are in
    let few = c.truncate.ensures.len in
    let most = c.requires.states in
    let held : IsHeld _ image words c.make_ready.new.states = record {
      at = c.begins_at.ensures.value;
      count = c.words.ensures.value;
      long = c.words.ensures.value ∙ sym (ap length c.fill_words.ensures ∙ length-map-range_with_len (told_at (layout_of image) (part_of image)) 0 (words_of image));
      states_are = states_are;
      places = omega (arith, few, most, states_long, states_len, c.places_once_open.ensures.value, c.places_once_open.ensures.fits);
      some_place = omega (arith, few, most, states_long, states_len, c.places_once_open.ensures.some, c.places_once_open.ensures.fits);
      free = subst (λ (ss : List PlaceState). IsTrue (all_free ss)) (sym states_are) c.make_ready.ensures.free;
      sound = refl;
    } in
    is_opened g.D.Disk.facts start c.args.disk _ image words c.make_ready.new.states here none c.fill_words.ensures prepared good
    (subst (λ (ws : List ℕ). CanOpen f1 image ws → IsDurable f2 (begins_at image) (words_of image) ws c.make_ready.new.states) is_words durable)
    (subst (λ (ws : List ℕ). CanOpen f1 image ws → is_switched image ≡ false → f2.reads ≡ given_second (begins_at image) (second_part (places_of image) ws) f1.reads) is_words given)
    held

pub returns-clause-made : goal.returns-clause-made
returns-clause-made g c start read =
    let image = c.in-Ok.image in
    let same = c.in-Ok.ensures.1 in
    let here = subst (λ (bs : List ℕ). IsReadBy g.D.Disk.facts g.D.Disk.made start c.args.disk bs) (sym (same ∙ c.deref.ensures.value)) read in
    let none = ap damage_of same ∙ c.in-Ok.ensures.0 in
    let filled = c.deref-2.ensures.value ∙ c.fill_words.ensures in
    let ready = made_well g.D.Disk.made _ c.args.disk c.make_ready.new.disk c.make_ready.result (sym c.is_err.ensures.value ∙ c.if-is_err.false) c.make_ready.ensures.made in
    record {
      image = image;
      seen = here.seen;
      undamaged = none;
      has = c.fill_words.ensures;
      calls = made_ready g.D.Disk.made image start c.args.disk here.calls c.deref-2.result.now true c.make_ready.new.disk none filled ready;
    }

pub invariant_of-file : goal.invariant_of-file
invariant_of-file g c =
    let len = c.make_ready.auto.states ∙ c.deref_mut.ensures.len in
    record {
      few = subst (λ (ss : List PlaceState). length ss ≤ MAX_PLACES) (sym (whole _ c.make_ready.new.states _ len)) (omega (arith, len, c.truncate.ensures.len, c.places_once_open.ensures.fits));
      near = c.begins_at.ensures.fits;
    }
