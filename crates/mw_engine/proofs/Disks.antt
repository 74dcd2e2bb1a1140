-- At its end an engine gives each tenant's disk under that tenant's number.
-- Used by: Engine::into_disks, GuardedFile::into_disk.
use Rattle.std.specs.Prelude.{◌≡◌, ℕ, zero, suc, is_some, List, [], ◌∷◌, ◌++◌, length, slice_get, Option, Some, None, IsTrue}
use Rattle.std.proofs.Common.{refl, sym, ap, subst, ◌∙◌}
use Rattle.mw_disk.specs.Facts.{Facts}
use Rattle.mw_record.specs.Layout.{pairs_of}
use Rattle.mw_file.specs.declared.tenant_file.TenantFile.{TenantFile}
use Rattle.mw_file.specs.File.{disk_of}
use Rattle.mw_file.specs.RecoveryInvariant.{RecoversTo}
use Rattle.mw_words.specs.declared.jobs.Entry.{Entry}
use Rattle.mw_book.specs.declared.book.Book.{Book}
use Rattle.mw_book.specs.OpenFile.{FileRecoversTo, disk_in}
use Rattle.mw_core.specs.FromTable.{FilePass, IsSamePass, IsSoOfWorld, Pass, SeesFile, View, file_kept, file_told, opening_at, put_sealed, seen_at, words_given}
use Rattle.mw_core.proofs.FromTable.{keeps_all, keeps_on}
use Rattle.mw_engine.specs.Brand.{Identity}
use Rattle.mw_engine.specs.DisksAtEnd.{EachIsGivenSeen, GivenSeenAs, SeesMore}
use Rattle.mw_engine.specs.GuardedFile.{IsKept}
use Rattle.mw_engine.proofs.AgreementForms.{agrees_of}

-- a fact of each element of a list, by number, goes on to a list with one more
abbrev some_in : {A : Type 0} → A → Option A → A
some_in other None = other
some_in other (Some one) = one

by_number : {A : Type 0} (P : ℕ → A → Type 0) (old : List A) (one : A) → ((k : ℕ) (x : A) → slice_get old k ≡ Some x → P k x) → P (length old) one
    → (k : ℕ) (x : A) → slice_get (old ++ one ∷ []) k ≡ Some x → P k x
by_number P [] one all so zero x is = subst (P 0) (ap (some_in one) is) so
by_number P [] one all so (suc k) x is = absurd (cc)
by_number P (first ∷ rest) one all so zero x is = all zero x is
by_number P (first ∷ rest) one all so (suc k) x is = by_number (λ j. P (suc j)) rest one (λ j. all (suc j)) so k x is

module _ {D : Type 0} (facts : D → Facts) (identity : Identity) where
  -- if there is a file, it represents the words that it has in the world
  stands_so : (tenant : ℕ) (file_pass : FilePass) (so : IsSoOfWorld identity.config identity.openings file_pass.seat.me.0.known_run tenant (file_kept file_pass)) (file : TenantFile D)
      → FileRecoversTo facts (Some file) (file_told (file_kept file_pass)).contents (pairs_of (file_told (file_kept file_pass)).doubt)
      → IsTrue (facts (disk_of file)).honest → RecoversTo facts file (so.state.tenant_states tenant).file.contents (pairs_of (so.state.tenant_states tenant).file.doubt)
  stands_so tenant file_pass so file stands honest =
      subst (λ (words : List ℕ). RecoversTo facts file words (pairs_of (so.state.tenant_states tenant).file.doubt)) (sym so.tells.contents)
      (subst (λ (change : List Entry). RecoversTo facts file (file_kept file_pass).contents (pairs_of change)) (sym so.tells.doubt) (stands honest))

-- Knowledge that has grown twice has grown, and what has not changed has grown.
pub sees_on : (first between last : View) → SeesMore first between → SeesMore between last → SeesMore first last
sees_on first between last one two = record { keeps = keeps_on first between last one.keeps two.keeps; same_mine = two.same_mine ∙ one.same_mine }

pub sees_all : (view : View) → SeesMore view view
sees_all view = record { keeps = keeps_all view; same_mine = refl }

pub sees_by : (file_pass : FilePass) (old new : View) → SeesFile file_pass old new → SeesMore old new
sees_by file_pass old new sees = record { keeps = sees.keeps; same_mine = sees.same_mine }

pub same_twice : (first between last : Pass) → IsSamePass first between → IsSamePass between last → IsSamePass first last
same_twice first between last one two = record {
  same_worker = two.same_worker ∙ one.same_worker;
  same_attempt = two.same_attempt ∙ one.same_attempt;
  same_idle = two.same_idle ∙ one.same_idle;
}

pub same_still : (pass : Pass) → IsSamePass pass pass
same_still pass = record { same_worker = refl; same_attempt = refl; same_idle = refl }

module _ {D : Type 0} (facts : D → Facts) (identity : Identity) where
  nothing_seen : (first last : View) → EachIsGivenSeen facts identity first last []
  nothing_seen first last tenant found is = absurd (cc)

  pub none_given_seen : (first last : View) (disks : List (Option D)) → disks ≡ [] → EachIsGivenSeen facts identity first last disks
  none_given_seen first last disks none = subst (EachIsGivenSeen facts identity first last) (sym none) (nothing_seen first last)

  -- a pass that sees more later has still seen it
  later : (first last now : View) (tenant : ℕ) (found : Option D) → SeesMore last now → GivenSeenAs facts identity first last tenant found → GivenSeenAs facts identity first now tenant found
  later first last now tenant None on is = is
  later first last now tenant (Some disk) on is = record { given = is.given; before = is.before; now = is.now; from = is.from; sees = is.sees; until = sees_on is.now last now is.until on; stands = is.stands }

  pub one_more_seen : (first last now : View) (old new : List (Option D)) (one : Option D) (tenant : ℕ) → new ≡ old ++ one ∷ [] → length old ≡ tenant → SeesMore first last → SeesMore last now
      → EachIsGivenSeen facts identity first last old → GivenSeenAs facts identity last now tenant one → EachIsGivenSeen facts identity first now new
  one_more_seen first last now old new one tenant is many before on all so =
      subst (EachIsGivenSeen facts identity first now) (sym is)
      (by_number (GivenSeenAs facts identity first now) old one (λ k x at. later first last now k x on (all k x at))
      (subst (λ (n : ℕ). GivenSeenAs facts identity first now n one) (sym many) (from_first one so)))
    where
      from_first : (found : Option D) → GivenSeenAs facts identity last now tenant found → GivenSeenAs facts identity first now tenant found
      from_first None is = is
      from_first (Some disk) is = record { given = is.given; before = is.before; now = is.now; from = sees_on first last is.before before is.from; sees = is.sees; until = is.until; stands = is.stands }

  -- what the book that was kept for a tenant gives, after a pass has seen its file
  pub given_seen_as : (book : Book D) (file_pass : FilePass) (tenant : ℕ) (result : Option D) (first last : View) → result ≡ disk_in book.held → IsKept facts identity book file_pass → file_pass.tenant ≡ tenant
      → IsSoOfWorld identity.config identity.openings file_pass.seat.me.0.known_run file_pass.tenant (file_kept file_pass) → SeesFile file_pass first last → GivenSeenAs facts identity first last tenant result
  given_seen_as book file_pass tenant result first last is kept its so sees = subst (GivenSeenAs facts identity first last tenant) (sym is) (by book.held refl)
    where
      here : IsSoOfWorld identity.config identity.openings file_pass.seat.me.0.known_run tenant (file_kept file_pass)
      here = subst (λ (n : ℕ). IsSoOfWorld identity.config identity.openings file_pass.seat.me.0.known_run n (file_kept file_pass)) its so

      contents : (file_kept file_pass).contents ≡ put_sealed (words_given last tenant) (seen_at last.seen tenant)
      contents = subst (λ (n : ℕ). (file_kept file_pass).contents ≡ put_sealed (words_given last n) (seen_at last.seen n)) its sees.contents

      by : (held : Option (TenantFile D)) → book.held ≡ held → GivenSeenAs facts identity first last tenant (disk_in held)
      by None none = sym (ap (λ (one : Option (TenantFile D)). is_some one) (sym none) ∙ (kept.opened ∙ ap (λ (n : ℕ). (opening_at identity.openings n).is_up) its))
      by (Some file) there =
          let stands = subst (λ (one : Option (TenantFile D)). FileRecoversTo facts one (file_told (file_kept file_pass)).contents (pairs_of (file_told (file_kept file_pass)).doubt)) there
          (agrees_of facts book (file_kept file_pass) (opening_at identity.openings file_pass.tenant).quota identity.config.pool kept.agrees).shows.stands in
          record {
            given = record { book = book; file_pass = file_pass; file = file; kept = kept; its = its; held = there; on = refl; so = here; stands = stands_so facts identity tenant file_pass here file stands };
            before = first;
            now = last;
            from = sees_all first;
            sees = sees;
            until = sees_all last;
            stands = λ honest. subst (λ (words : List ℕ). RecoversTo facts file words (pairs_of (file_kept file_pass).doubt)) contents (stands honest);
          }
