-- An ask of the plain store is answered as a start and then a finish of the store alone. Used by: Plain::ask.
use Rattle.std.proofs.Common.{◌≡◌, ℕ, false, List, [], length, Option, Some, None, IsTrue, refl, sym, subst, ◌∙◌, inl, inr}
use Rattle.mw_disk.specs.Facts.{Facts}
use Rattle.mw_disk.specs.Runs.{LeavesOnly}
use Rattle.mw_disk.proofs.RunLaws.{still_honest, leaves_more, leaves_wider}
use Rattle.mw_words.specs.declared.jobs.Entry.{Entry}
use Rattle.mw_words.specs.declared.jobs.Job.{Job}
use Rattle.mw_words.specs.declared.jobs.Job.TheVariants.{Cas}
use Rattle.mw_words.specs.declared.replies.Reply.{Reply}
use Rattle.mw_words.specs.Change.{is_well_formed}
use Rattle.mw_file.specs.File.{disk_of, states_of}
use Rattle.mw_file.specs.RecoveryInvariant.{IsFile, IsBeforeOrAfter}
use Rattle.mw_record.specs.Layout.{pairs_of}
use Rattle.mw_record.specs.Records.{Pairs, put_pairs}
use Rattle.mw_lone.specs.Store.{Store}
use Rattle.mw_plain.specs.declared.loaded_file.LoadedFile.{LoadedFile}
use Rattle.mw_plain.specs.declared.plain.Plain.{Plain}
use Rattle.mw_plain.specs.declared.tickets.Ticket.{Ticket}
use Rattle.mw_plain.specs.declared.tickets.Start.TheVariants.{Done, Open}
use Rattle.mw_plain.specs.Books.{faulted_in, places_in}
use Rattle.mw_plain.specs.Parts.{words_at, book_at}
use Rattle.mw_plain.specs.Cases.{StartCase, FinishCase, Faulted, Looked, Full, Unprepared, Prepared, AtStart, AtFinish, AskFits, is_end, after_start}
use Rattle.mw_plain.specs.Refinement.{IsKept, CrashLeaves}
use Rattle.mw_plain.specs.CallEnds.{at_stake}
use Rattle.mw_plain.specs.Answers.{StartsAs, FinishesAs, AsksAs}
use Rattle.mw_plain.proofs.Runs.{answered}

-- if the start is not the end, it prepared the change
was_prepared : (case : StartCase) → is_end case ≡ false → case ≡ Prepared
was_prepared Faulted ended = absurd (cc)
was_prepared Looked ended = absurd (cc)
was_prepared Full ended = absurd (cc)
was_prepared Unprepared ended = absurd (cc)
was_prepared Prepared ended = refl

-- no change was in doubt
certain_words : (places : ℕ) (words : List ℕ) (doubt change : Pairs) (image : List ℕ) → doubt ≡ [] → IsBeforeOrAfter places words doubt image → IsBeforeOrAfter places words change image
certain_words places words doubt change image none (inl is) = inl is
certain_words places words doubt change image none (inr is) = inl (subst (λ (doubt : Pairs). IsFile places (put_pairs doubt words) image) none is)

module _ {D : Type 0} (facts : D → Facts) where
  join_moments : (old between new : Option (LoadedFile D)) (s : Store) (change : List Entry) → faulted_in old ≡ false → IsKept facts old s
      → ((so_many : ℕ) → places_in so_many between ≡ places_in so_many old)
      → CrashLeaves facts old between s.words s.in_doubt → CrashLeaves facts between new s.words change → CrashLeaves facts old new s.words change
  join_moments None between new s change up keeps places first last = absurd (cc)
  join_moments (Some old) None new s change up keeps places first last = absurd first
  join_moments (Some old) (Some between) None s change up keeps places first last = absurd last
  join_moments (Some old) (Some between) (Some new) s change up keeps places first last = λ honest.
      let begun = first honest in
      let none = (keeps honest).certain (old.sound up) in
      leaves_more _ (facts (disk_of between.file)) _
      (leaves_wider _ _ (λ image either. certain_words (length (states_of old.file)) s.words (pairs_of s.in_doubt) (pairs_of change) image none either) begun)
      (subst (λ n. LeavesOnly (facts (disk_of between.file)) (facts (disk_of new.file)) (IsBeforeOrAfter n s.words (pairs_of change))) (places 0) (last (still_honest _ _ begun.later honest)))

  pub asks_done : (case : StartCase) (old new : Plain D) (tenant : ℕ) (job : Job) (reply : Reply) → IsTrue (is_well_formed (words_at old tenant) job)
      → StartsAs facts case old new tenant job (Done reply) → AsksAs facts (AtStart case) old new tenant job reply
  asks_done case old new tenant job reply formed start = record {
    made = start.made;
    serves = λ s stands.
        let first = start.serves s stands in
        let fits : AskFits s job (AtStart case) = (first.fits, start.ended) in
        record {
          fits = fits;
          reply_is = sym first.reply;
          goes = answered s job (AtStart case) (subst (λ n. IsTrue (is_well_formed n job)) (sym stands.as_many) formed) fits;
          stands = first.stands;
        };
    keeps = start.keeps;
    moments = start.moments;
    places = start.places;
    kept = start.kept;
  }

  finished_too : (old between new : Plain D) (ticket : Ticket) (case : FinishCase) (reply : Reply) → IsTrue (is_well_formed (words_at old ticket.tenant) (Cas ticket.entries))
      → StartsAs facts Prepared old between ticket.tenant (Cas ticket.entries) (Open ticket) → FinishesAs facts case between new ticket reply
      → AsksAs facts (AtFinish case) old new ticket.tenant (Cas ticket.entries) reply
  finished_too old between new ticket case reply formed start finish = record {
    made = (book_at between ticket.tenant, start.made, finish.made);
    serves = λ s stands.
        let first = start.serves s stands in
        let last = finish.serves (after_start s (Cas ticket.entries) Prepared) s.next first.stands first.goes.requests.own in
        let fits : AskFits s (Cas ticket.entries) (AtFinish case) = (first.fits, last.fits) in
        record {
          fits = fits;
          reply_is = sym last.reply_is;
          goes = answered s (Cas ticket.entries) (AtFinish case) (subst (λ n. IsTrue (is_well_formed n (Cas ticket.entries))) (sym stands.as_many) formed) fits;
          stands = last.stands;
        };
    keeps = λ s keeps. finish.keeps (after_start s (Cas ticket.entries) Prepared) s.next (start.keeps s keeps);
    moments = λ s keeps.
        join_moments (book_at old ticket.tenant) (book_at between ticket.tenant) (book_at new ticket.tenant) s (at_stake case ticket.entries.items s.in_doubt) start.made.0 keeps start.places
        (start.moments s keeps) (finish.moments (after_start s (Cas ticket.entries) Prepared) (start.keeps s keeps));
    places = λ so_many. finish.places so_many ∙ start.places so_many;
    kept = λ other is_open. finish.kept other (start.ticket.alone other is_open) (start.kept other is_open);
  }

  pub asks_on : (first : StartCase) (old between new : Plain D) (tenant : ℕ) (job : Job) (ticket : Ticket) (case : FinishCase) (reply : Reply) → IsTrue (is_well_formed (words_at old tenant) job)
      → StartsAs facts first old between tenant job (Open ticket) → FinishesAs facts case between new ticket reply → AsksAs facts (AtFinish case) old new tenant job reply
  asks_on first old between new tenant job ticket case reply formed start finish =
      let here = start.ticket.tenant_is in
      let change = start.ticket.change in
      let prepared = was_prepared first start.ended in
      let start_there : StartsAs facts Prepared old between ticket.tenant (Cas ticket.entries) (Open ticket) =
      subst (λ c. StartsAs facts c old between ticket.tenant (Cas ticket.entries) (Open ticket)) prepared
      (subst (λ j. StartsAs facts first old between ticket.tenant j (Open ticket)) change
      (subst (λ t. StartsAs facts first old between t job (Open ticket)) (sym here) start)) in
      let formed_there : IsTrue (is_well_formed (words_at old ticket.tenant) (Cas ticket.entries)) =
      subst (λ j. IsTrue (is_well_formed (words_at old ticket.tenant) j)) change (subst (λ t. IsTrue (is_well_formed (words_at old t) job)) (sym here) formed) in
      subst (λ j. AsksAs facts (AtFinish case) old new tenant j reply) (sym change)
      (subst (λ t. AsksAs facts (AtFinish case) old new t (Cas ticket.entries) reply) here (finished_too old between new ticket case reply formed_there start_there finish))
