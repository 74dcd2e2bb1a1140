-- Goals of `Part::new` (src/tenant.rt).
use Rattle.std.proofs.Common.{Option, subst, ◌∙◌}
use Rattle.std.specs.Prelude.{Vec, ℕ}
use Rattle.std.specs.declared.alloc.Global.{Global}
use Rattle.mw_file.specs.declared.tenant_file.TenantFile.{TenantFile}
use Rattle.mw_file.specs.File.{states_of}
use Rattle.mw_plain.specs.Lines.{FitsLine}
use Rattle.mw_plain.proofs.Ready.{taken_none, none_taken}
use Rattle.mw_plain.proofs.tenant.Part.new.Goals as goal

pub invariant_of-book : goal.invariant_of-book
invariant_of-book g c =
    let fresh = subst (λ (opened : Option (TenantFile g.row.D.Denot × Vec ℕ Global)). FitsLine c.args.line.now opened) c.in-Some.is c.requires.fits in
    record {
      same_words = c.in-Some.words.ok.0 ∙ fresh.read;
      sound = λ _. fresh.sound;
      counted = λ _. taken_none (states_of c.in-Some.file) fresh.free;
      unsealed = λ _. none_taken (states_of c.in-Some.file) fresh.free;
    }
