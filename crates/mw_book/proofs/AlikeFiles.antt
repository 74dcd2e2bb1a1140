-- A book (a tenant's open file under its lock) that represents a simulated file also represents every file that is alike.
-- Used by: mw_core.
use Rattle.std.proofs.Common.{ℕ, List, length, sym, ap, subst, ◌∙◌}
use Rattle.mw_words.specs.declared.jobs.Entry.{Entry}
use Rattle.mw_disk.specs.Facts.{Facts}
use Rattle.mw_record.specs.Layout.{pairs_of}
use Rattle.mw_world.specs.Files.State.{Place, entries_in, is_empty, is_sealed}
use Rattle.mw_book.specs.Alike.{RepresentsAlike}
use Rattle.mw_book.specs.OpenFile.{FileRecoversTo}
use Rattle.mw_book.specs.Representation.{is_prepared_ahead, is_settled, stage_held}

pub shows_alike : {D : Type 0} (facts : D → Facts) → RepresentsAlike facts
shows_alike facts book one other shows alike = record {
  same_words = ap length (sym alike.contents) ∙ shows.same_words;
  same_places = record {
    stages = λ place low. shows.same_places.stages place low ∙ ap (stage_held (is_settled book.table place) (is_prepared_ahead book.table place)) (alike.same_places place low);
    ahead = λ place low flag. sym (ap is_sealed (alike.same_places place low)) ∙ shows.same_places.ahead place low flag;
    empty_ahead = λ place low flag. sym (ap is_empty (alike.same_places place low)) ∙ shows.same_places.empty_ahead place low flag;
    further = shows.same_places.further;
    further_not_ahead = shows.same_places.further_not_ahead;
    further_none_ahead = shows.same_places.further_none_ahead;
    writes = λ place low busy.
        let same = alike.same_places place low in
        shows.same_places.writes place low (ap is_empty same ∙ busy) ∙ ap (λ (p : Place). pairs_of (entries_in p)) same;
  };
  same_place_of = λ slot low. sym (alike.same_place_of slot low) ∙ shows.same_place_of slot low;
  same_failed = sym alike.same_failed ∙ shows.same_failed;
  stands = subst (λ (doubt : List Entry). FileRecoversTo facts book.held other.contents (pairs_of doubt)) alike.same_doubt
      (subst (λ (contents : List ℕ). FileRecoversTo facts book.held contents (pairs_of one.doubt)) alike.contents shows.stands);
}
