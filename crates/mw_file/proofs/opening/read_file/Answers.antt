-- Goals of `read_file` (src/opening.rt).
use Rattle.std.proofs.Common.{◌+◌, ℕ, length, min, arith, sym, ap, ◌∙◌, refl, true, false, inl, IsTrue, subst}
use Rattle.std.proofs.lemmas.List.{length-take}
use Rattle.mw_disk.specs.Runs.{Good, Touched}
use Rattle.mw_disk.proofs.RunLaws.{good_call, bad_call, good_trans, then_bad, called_later, later_trans, still_honest, touched_trans, touched_quiet}
use Rattle.mw_record.specs.declared.layout.TheConstants.{MAX_FILE}
use Rattle.mw_file.specs.OpeningEnds.{front}
use Rattle.mw_file.specs.RollForward.{Nowhere}
use Rattle.mw_file.proofs.Ended.{went_well}
use Rattle.mw_file.proofs.Opened.{whole, front_read, first_unwritten, first_kept_unwritten, untouched_trans, nothing_written, calls_before}
use Rattle.mw_file.proofs.OpeningCallLaws.{made_well, made_badly, front_bytes, read_made, failed_read}
use Rattle.mw_file.proofs.Ran.{ran_well, ran_badly}
use Rattle.mw_file.proofs.opening.read_file.Goals as goal

pub returns-in_default-clause-reads : goal.returns-in_default-clause-reads
returns-in_default-clause-reads g c =
    let f0 = g.D.Disk.facts c.args.disk.now in
    let f1 = g.D.Disk.facts c.len.new.self in
    let quiet : IsTrue f0.honest → Touched Nowhere f0 f1 = λ honest.
    touched_quiet Nowhere f0 f1 false c.in_default.ensures.call (c.in_default.ensures.crash honest) (c.in_default.ensures.same honest) in
    record {
      later = called_later f0 f1 false c.in_default.ensures.call;
      unchanged = λ honest rest. nothing_written f0 f1 (quiet honest) rest;
      first_stays = first_unwritten f0 f1 quiet;
      first_kept = first_kept_unwritten f0 f1 quiet;
      calls = 1;
      made = bad_call f0 f1 c.in_default.ensures.call (λ honest. c.in_default.ensures.spared);
      within = λ honest. omega arith;
    }

pub returns-then-is_err-clause-reads : goal.returns-then-is_err-clause-reads
returns-then-is_err-clause-reads g c =
    let f0 = g.D.Disk.facts c.args.disk.now in
    let f1 = g.D.Disk.facts c.len.new.self in
    let f2 = g.D.Disk.facts c.read_front.new.disk in
    let size = length c.deref_mut.result.now in
    let n = min 1 size in
    let first = called_later f0 f1 true c.in-Ok.ensures.call in
    let size_is = c.deref_mut.ensures.len ∙ c.in-Ok-new.ensures.bytes in
    let quiet : IsTrue f0.honest → Touched Nowhere f0 f2 = λ honest. touched_trans Nowhere f0 f1 f2
    (touched_quiet Nowhere f0 f1 true c.in-Ok.ensures.call (c.in-Ok.ensures.crash honest) (c.in-Ok.ensures.same honest))
    (c.read_front.ensures.touched (still_honest f0 f1 first honest)) in
    record {
      later = later_trans f0 f1 f2 first c.read_front.ensures.later;
      unchanged = λ honest rest. nothing_written f0 f2 (quiet honest) rest;
      first_stays = first_unwritten f0 f2 quiet;
      first_kept = first_kept_unwritten f0 f2 quiet;
      calls = 1 + n;
      made = then_bad 1 n f0 f1 f2 (good_call f0 f1 c.in-Ok.ensures.call) (ran_badly n n f1 f2 _ refl (sym c.is_err.ensures.value ∙ c.if-is_err.true) c.read_front.ensures.calls);
      within = λ honest. calls_before f0 c.in-Ok.len size (c.in-Ok.ensures.length honest) size_is;
    }

pub returns-clause-reads : goal.returns-clause-reads
returns-clause-reads g c =
    let f0 = g.D.Disk.facts c.args.disk.now in
    let f1 = g.D.Disk.facts c.len.new.self in
    let f2 = g.D.Disk.facts c.read_front.new.disk in
    let size = length c.deref_mut.result.now in
    let n = min 1 size in
    let first = called_later f0 f1 true c.in-Ok.ensures.call in
    let size_is = c.deref_mut.ensures.len ∙ c.in-Ok-new.ensures.bytes in
    let well = sym c.is_err.ensures.value ∙ c.if-is_err.false in
    let is = whole _ c.read_front.new.bytes _ (c.read_front.auto.bytes ∙ c.deref_mut.ensures.len) in
    record {
      later = later_trans f0 f1 f2 first c.read_front.ensures.later;
      untouched = untouched_trans f0 f1 f2 first (record { same = c.in-Ok.ensures.same; nothing_new = c.in-Ok.ensures.crash }) c.read_front.ensures.untouched;
      quiet = λ honest. touched_trans Nowhere f0 f1 f2
          (touched_quiet Nowhere f0 f1 true c.in-Ok.ensures.call (c.in-Ok.ensures.crash honest) (c.in-Ok.ensures.same honest))
          (c.read_front.ensures.touched (still_honest f0 f1 first honest));
      seen = λ honest.
          let read = went_well c.read_front.result _ well c.read_front.ensures.read (still_honest f0 f1 first honest) in
          is ∙ front_read f0 f1 c.in-Ok.len _ _ (c.in-Ok.ensures.length honest) size_is (c.in-Ok.ensures.same honest) read;
      made = subst (λ (k : ℕ). Good (1 + min 1 k) f0 f2) (sym (ap length is ∙ c.read_front.auto.bytes))
          (good_trans 1 n f0 f1 f2 (good_call f0 f1 c.in-Ok.ensures.call) (ran_well n n f1 f2 _ refl well c.read_front.ensures.calls));
    }

-- ---- the device calls

pub returns-in_default-clause-made : goal.returns-in_default-clause-made
returns-in_default-clause-made g c =
    let f0 = g.D.Disk.facts c.args.disk.now in
    record { image = front f0; seen = λ honest. refl; calls = inl (refl, c.in_default.ensures.made) }

pub returns-then-is_err-clause-made : goal.returns-then-is_err-clause-made
returns-then-is_err-clause-made g c =
    let f0 = g.D.Disk.facts c.args.disk.now in
    let size = length c.deref_mut.result.now in
    let size_is = c.deref_mut.ensures.len ∙ c.in-Ok-new.ensures.bytes in
    let bytes = front_bytes f0 size f0.honest refl (λ honest. let long = c.in-Ok.ensures.length honest in length-take MAX_FILE f0.reads ∙ omega (arith, long, size_is)) in
    let read = made_badly g.D.Disk.made _ c.len.new.self c.read_front.new.disk c.read_front.result (sym c.is_err.ensures.value ∙ c.if-is_err.true) c.read_front.ensures.made in
    record {
      image = bytes.0;
      seen = bytes.1;
      calls = failed_read g.D.Disk.made bytes.0 size bytes.2 c.args.disk.now c.len.new.self c.read_front.new.disk c.in-Ok.ensures.made read;
    }

pub returns-clause-made : goal.returns-clause-made
returns-clause-made g c =
    let f0 = g.D.Disk.facts c.args.disk.now in
    let f1 = g.D.Disk.facts c.len.new.self in
    let size = length c.deref_mut.result.now in
    let first = called_later f0 f1 true c.in-Ok.ensures.call in
    let size_is = c.deref_mut.ensures.len ∙ c.in-Ok-new.ensures.bytes in
    let well = sym c.is_err.ensures.value ∙ c.if-is_err.false in
    let is = whole _ c.read_front.new.bytes _ (c.read_front.auto.bytes ∙ c.deref_mut.ensures.len) in
    let long = ap length is ∙ c.read_front.auto.bytes in
    let read_all = made_well g.D.Disk.made _ c.len.new.self c.read_front.new.disk c.read_front.result well c.read_front.ensures.made in
    record {
      seen = λ honest.
          let read = went_well c.read_front.result _ well c.read_front.ensures.read (still_honest f0 f1 first honest) in
          is ∙ front_read f0 f1 c.in-Ok.len _ _ (c.in-Ok.ensures.length honest) size_is (c.in-Ok.ensures.same honest) read;
      calls = read_made g.D.Disk.made _ size long c.args.disk.now c.len.new.self c.read_front.new.disk c.in-Ok.ensures.made true read_all;
    }

pub returns-in_default-new-clause-reads : goal.returns-in_default-new-clause-reads
returns-in_default-new-clause-reads g c =
    let f0 = g.D.Disk.facts c.args.disk.now in
    let f1 = g.D.Disk.facts c.len.new.self in
    record {
      later = called_later f0 f1 true c.in-Ok.ensures.call;
      unchanged = λ honest rest. nothing_written f0 f1 (touched_quiet Nowhere f0 f1 true c.in-Ok.ensures.call (c.in-Ok.ensures.crash honest) (c.in-Ok.ensures.same honest)) rest;
      untouched = record { same = c.in-Ok.ensures.same; nothing_new = c.in-Ok.ensures.crash };
      made = good_call f0 f1 c.in-Ok.ensures.call;
    }
