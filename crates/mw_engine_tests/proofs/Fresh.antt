-- A file that was opened with its line's words and places fits that line. Used by: opened.
use Rattle.std.specs.Prelude.{◌≡◌, ◌≤◌, ℕ, length, Vec, IsTrue}
use Rattle.std.specs.declared.alloc.Global.{Global}
use Rattle.std.proofs.Common.{sym, subst, ◌∙◌}
use Rattle.mw_words.specs.Change.{AreWords}
use Rattle.mw_disk.specs.Facts.{Facts, IsSynced}
use Rattle.mw_record.proofs.Sound.{undamaged_words}
use Rattle.mw_file.specs.declared.tenant_file.TenantFile.{TenantFile}
use Rattle.mw_file.specs.File.{states_of}
use Rattle.mw_file.specs.OpeningEnds.{IsOpened}
use Rattle.mw_config.specs.declared.lines.TenantLine.{TenantLine}
use Rattle.mw_engine.specs.OpenedFiles.{IsFresh}

pub fits : {D : Type 0} (facts : D → Facts) (line : TenantLine) (disk : D) (file : TenantFile D) (words : Vec ℕ Global) → IsOpened facts disk file words.items → (IsTrue (facts disk).honest → IsSynced (facts disk))
    → length words.items ≡ line.words → line.quota ≤ length (states_of file) → IsFresh facts line (file, words)
fits facts line disk file words opened rests long room =
    record {
      count = opened.count ∙ long;
      read = sym opened.count;
      values = subst AreWords (sym opened.read) (undamaged_words opened.image opened.undamaged);
      room = room;
      free = opened.free;
      sound = opened.sound;
      keeps = λ honest. let was = subst IsTrue opened.later.honest honest in opened.keeps was (rests was);
    }
