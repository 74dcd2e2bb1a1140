-- Goals of `LoadedFile::change` (src/loaded_file.rt).
use Rattle.std.proofs.Common.{◌≡◌, ◌+◌, vec_len, length, refl, sym, ap, subst, ◌∙◌, arith}
use Rattle.mw_words.specs.Change.{put}
use Rattle.mw_file.specs.File.{states_of, Ends, WentWell}
use Rattle.mw_file.proofs.Ended.{ended_well, went_well}
use Rattle.mw_file.specs.PlaceStates.{writes_of_place, IsStaged}
use Rattle.mw_file.proofs.Free.{staged_on}
use Rattle.mw_file.specs.declared.place_states.Stage.TheVariants.{Free, Sealed}
use Rattle.mw_plain.specs.Cases.{Unsealed, Unsettled, Changed}
use Rattle.mw_plain.proofs.Ready.{one_less, none_sealed, may_seal}
use Rattle.mw_plain.proofs.FinishEnds.{as_many, all_written, unsealed, unsettled, changed}
use Rattle.mw_plain.proofs.loaded_file.LoadedFile.change.Goals as goal

pub seal-requires : goal.seal-requires
seal-requires g c =
    let book = c.args.self.now in
    let up = c.requires.up in
    may_seal (states_of book.file) _ (c.requires.prepared up).0 (book.unsealed up)

pub overflow_sub-self : goal.overflow_sub-self
overflow_sub-self g c =
    let book = c.args.self.now in
    let up = c.requires.up in
    let sealed_well = sym c.is_err.ensures.value ∙ c.if-is_err.false in
    let settled_well = sym c.is_err-2.ensures.value ∙ c.if-is_err-2.false in
    let staged = staged_on (states_of book.file) (states_of c.seal.new.self) (states_of c.settle.new.self) _ Sealed Free _ _
    (went_well c.seal.result _ sealed_well c.seal.ensures.staged) (went_well c.settle.result _ settled_well c.settle.ensures.staged) in
    let less = one_less (states_of book.file) (states_of c.settle.new.self) _ _ (c.requires.prepared up).0 staged in
    omega (arith, less, book.counted up)

pub invariant_of-self-2 : goal.invariant_of-self-2
invariant_of-self-2 g c =
    let book = c.args.self.now in
    let up = c.requires.up in
    let sealed_well = sym c.is_err.ensures.value ∙ c.if-is_err.false in
    let settled_well = sym c.is_err-2.ensures.value ∙ c.if-is_err-2.false in
    let sealed = ended_well g.D.Disk.facts _ _ _ c.seal.result sealed_well c.seal.ensures.ends in
    let settled = ended_well g.D.Disk.facts _ _ _ c.settle.result settled_well c.settle.ensures.ends in
    let staged = staged_on (states_of book.file) (states_of c.seal.new.self) (states_of c.settle.new.self) _ Sealed Free _ _
    (went_well c.seal.result _ sealed_well c.seal.ensures.staged) (went_well c.settle.result _ settled_well c.settle.ensures.staged) in
    let less = one_less (states_of book.file) (states_of c.settle.new.self) _ _ (c.requires.prepared up).0 staged in
    record {
      same_words = book.same_words ∙ sym (settled.words ∙ sealed.words);
      sound = λ _. settled.after;
      counted = λ _. omega (arith, less, book.counted up);
      unsealed = λ _. none_sealed (states_of book.file) (states_of c.settle.new.self) _ Free _ (λ e. cc) (book.unsealed up) staged;
    }

pub returns-then-is_err-clause-ends : goal.returns-then-is_err-clause-ends
returns-then-is_err-clause-ends g c =
    let book = c.args.self.now in (
      Unsealed,
      unsealed g.D.Disk.facts book _ c.args.place.0 c.args.entries.now c.seal.result c.requires.up c.requires.as_expected (c.requires.prepared c.requires.up).1
          refl refl refl (sym c.is_err.ensures.value ∙ c.if-is_err.true) c.seal.ensures.ends c.seal.ensures.later c.seal.ensures.safe,
    )

pub returns-then-is_err-2-clause-ends : goal.returns-then-is_err-2-clause-ends
returns-then-is_err-2-clause-ends g c =
    let book = c.args.self.now in
    let up = c.requires.up in
    let entries = c.args.entries.now in
    let sealed_well = sym c.is_err.ensures.value ∙ c.if-is_err.false in
    let sealed = ended_well g.D.Disk.facts _ _ _ c.seal.result sealed_well c.seal.ensures.ends in
    let sealed_here = went_well c.seal.result _ sealed_well c.seal.ensures.staged in
    let writes = (c.requires.prepared up).1 in
    let count : length (writes_of_place (states_of c.seal.new.self) c.args.place.0) ≡ length entries.items =
    ap length (sealed_here.writes_here ∙ writes) ∙ as_many entries.items in (
      Unsettled,
      unsettled g.D.Disk.facts book _ c.seal.new.self c.args.place.0 entries c.seal.result (record {
        up = up;
        expected = c.requires.as_expected;
        writes = writes;
        words = all_written (vec_len book.words) book.words.items c.put.new.words entries.items (omega (arith, c.deref_mut.ensures.len, ap length c.deref_mut.ensures.value))
            (c.put.ensures ∙ ap (λ ws. put ws c.deref.result.now) c.deref_mut.ensures.value ∙ ap (put book.words.items) c.deref.ensures.0);
        well = sealed_well;
        places = sealed_here.count;
        first = c.seal.ensures.later;
        last = c.settle.ensures.later;
        sealed = c.seal.ensures.safe;
        settled = c.settle.ensures.safe;
      }) c.settle.result refl refl
          (sym c.is_err-2.ensures.value ∙ c.if-is_err-2.true) sealed
          (subst (λ n. Ends g.D.Disk.facts (n + 3) c.seal.new.self c.settle.new.self c.settle.result) count c.settle.ensures.ends),
    )

pub returns-clause-ends : goal.returns-clause-ends
returns-clause-ends g c =
    let book = c.args.self.now in
    let up = c.requires.up in
    let entries = c.args.entries.now in
    let sealed_well = sym c.is_err.ensures.value ∙ c.if-is_err.false in
    let sealed = ended_well g.D.Disk.facts _ _ _ c.seal.result sealed_well c.seal.ensures.ends in
    let sealed_here = went_well c.seal.result _ sealed_well c.seal.ensures.staged in
    let writes = (c.requires.prepared up).1 in
    let count : length (writes_of_place (states_of c.seal.new.self) c.args.place.0) ≡ length entries.items =
    ap length (sealed_here.writes_here ∙ writes) ∙ as_many entries.items in
    let settled_well = sym c.is_err-2.ensures.value ∙ c.if-is_err-2.false in
    let settled = ended_well g.D.Disk.facts _ _ _ c.settle.result settled_well c.settle.ensures.ends in
    let staged = staged_on (states_of book.file) (states_of c.seal.new.self) (states_of c.settle.new.self) _ Sealed Free _ _
    sealed_here (went_well c.settle.result _ settled_well c.settle.ensures.staged) in (
      Changed,
      changed g.D.Disk.facts book _ c.seal.new.self c.args.place.0 entries c.seal.result (record {
        up = up;
        expected = c.requires.as_expected;
        writes = writes;
        words = all_written (vec_len book.words) book.words.items c.put.new.words entries.items (omega (arith, c.deref_mut.ensures.len, ap length c.deref_mut.ensures.value))
            (c.put.ensures ∙ ap (λ ws. put ws c.deref.result.now) c.deref_mut.ensures.value ∙ ap (put book.words.items) c.deref.ensures.0);
        well = sealed_well;
        places = sealed_here.count;
        first = c.seal.ensures.later;
        last = c.settle.ensures.later;
        sealed = c.seal.ensures.safe;
        settled = c.settle.ensures.safe;
      }) refl refl sealed
          (subst (λ n. WentWell g.D.Disk.facts (n + 3) c.seal.new.self c.settle.new.self) count settled)
          (subst (λ w. IsStaged (states_of book.file) (states_of c.settle.new.self) c.args.place.0 Free w) sealed_here.writes_here staged),
    )
