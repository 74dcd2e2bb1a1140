-- A call on a file is in the run that is known after it, and stays in the run that is known later. So do all calls since the start, and what
-- a crash left in them.
-- Used by: GuardedFileLaws, FileCopies.
use Rattle.std.specs.Prelude.{◌≡◌, ◌⊎◌, ◌++◌, ℕ, zero, suc, List, [], Some, None}
use Rattle.std.proofs.Common.{refl, sym, ap, subst, ◌∙◌, append_assoc, append-nil, inl, inr}
use Rattle.mw_words.specs.Change.{put}
use Rattle.mw_actor.specs.ActorState.{ActorState}
use Rattle.mw_disk.specs.Facts.{Facts}
use Rattle.mw_record.specs.Damages.{file_words}
use Rattle.mw_world.specs.Definition.Events.{WorldEvent}
use Rattle.mw_book.specs.declared.book.Book.{Book}
use Rattle.mw_book.specs.declared.waiting.Waiting.{Waiting}
use Rattle.mw_core.specs.FileCalls.{FilesOnce, stake_by}
use Rattle.mw_core.specs.FromTable.{ExtendsKnownRun, FileToken, IsCarried, Pass, View, opening_at}
use Rattle.mw_engine.specs.Brand.{Identity}
use Rattle.mw_engine.specs.CallsSinceStart.{CallInRun, IsLeftInRun, IsUsed, IsUsedOnce, IsUsedSinceStart, token_given}
use Rattle.mw_engine.specs.Passes.{IsPassOf}

-- A run extends itself, and what the run that it extends does.
pub extends_self : (known : _) → ExtendsKnownRun known known
extends_self None = tt
extends_self (Some known) = record { same_openings = refl; same_before = refl; since = []; events = sym (append-nil known.events) }

extends_on : (first : _) (between : _) (last : _) → ExtendsKnownRun first between → ExtendsKnownRun between last → ExtendsKnownRun first last
extends_on None between last one two = tt
extends_on (Some first) None last one two = absurd one
extends_on (Some first) (Some between) None one two = absurd two
extends_on (Some first) (Some between) (Some last) one two = record {
  same_openings = two.same_openings ∙ one.same_openings;
  same_before = two.same_before ∙ one.same_before;
  since = one.since ++ two.since;
  events = two.events ∙ (ap (λ (events : List WorldEvent). events ++ two.since) one.events ∙ append_assoc first.events one.since two.since);
}

module _ {D : Type 0} (facts : D → Facts) (identity : Identity) where
  -- a call that was just made, by the pass and the file pass that know the same run after it
  pub call_of : (waiting : List Waiting) (old new : Pass) (actor next : ActorState) (before after : Book D) (token kept : FileToken) (view : View) (tenant : ℕ) → IsPassOf identity old → IsCarried old actor → actor.tenant ≡ tenant
      → FilesOnce facts waiting old new actor next before after token kept → view.known_run ≡ new.seat.me.0.known_run → CallInRun facts identity view tenant before after token kept
  call_of waiting old new actor next before after token kept view tenant own carried its once known = record {
    old = old;
    new = new;
    actor = actor;
    next = next;
    waiting = waiting;
    own = own;
    carried = carried;
    its = its;
    once = once;
    in_run = subst (λ run. ExtendsKnownRun new.seat.me.0.known_run run) (sym known) (extends_self new.seat.me.0.known_run);
  }

  -- and what a crash in it leaves
  pub left_by : (waiting : List Waiting) (old new : Pass) (actor next : ActorState) (before after : Book D) (token kept : FileToken) (view : View) (tenant : ℕ) → IsPassOf identity old → IsCarried old actor → actor.tenant ≡ tenant
      → (once : FilesOnce facts waiting old new actor next before after token kept) → view.known_run ≡ new.seat.me.0.known_run
      → (image : List ℕ) → (file_words image ≡ Some token.contents) ⊎ (file_words image ≡ Some (put token.contents (stake_by once.end once.called token))) → IsLeftInRun facts identity view tenant image
  unfolding call_of
  left_by waiting old new actor next before after token kept view tenant own carried its once known image words = inr (record {
    before = before;
    after = after;
    token = token;
    kept = kept;
    call = call_of waiting old new actor next before after token kept view tenant own carried its once known;
    words_are = words;
  })

  module _ (first now : View) (tenant : ℕ) (more : ExtendsKnownRun first.known_run now.known_run) where
    -- all of it stays when more of the run is known
    call_still : (before after : Book D) (token kept : FileToken) → CallInRun facts identity first tenant before after token kept → CallInRun facts identity now tenant before after token kept
    call_still before after token kept call = record {
      old = call.old;
      new = call.new;
      actor = call.actor;
      next = call.next;
      waiting = call.waiting;
      own = call.own;
      carried = call.carried;
      its = call.its;
      once = call.once;
      in_run = extends_on call.new.seat.me.0.known_run first.known_run now.known_run call.in_run more;
    }

    pub left_still : (image : List ℕ) → IsLeftInRun facts identity first tenant image → IsLeftInRun facts identity now tenant image
    unfolding call_still
    left_still image (inl start) = inl start
    left_still image (inr left) = inr (record {
      before = left.before;
      after = left.after;
      token = left.token;
      kept = left.kept;
      call = call_still left.before left.after left.token left.kept left.call;
      words_are = left.words_are;
    })

    use_still : (before : Book D) (token : FileToken) (after : Book D) (kept : FileToken) → IsUsedOnce facts identity first tenant before token after kept → IsUsedOnce facts identity now tenant before token after kept
    use_still before token after kept (inl call) = inl (call_still before after token kept call)
    use_still before token after kept (inr copy) = inr copy

    uses_still : (count : ℕ) (start : Book D) (opened : FileToken) (book : Book D) (token : FileToken) → IsUsed facts identity first tenant count start opened book token → IsUsed facts identity now tenant count start opened book token
    uses_still zero start opened book token same = same
    uses_still (suc count) start opened book token uses =
        (uses.0, uses.1, uses_still count start opened uses.0 uses.1 uses.2, use_still uses.0 uses.1 book token uses.3)

    -- one more use
    pub used_again : (between : Book D) (told : FileToken) (book : Book D) (token : FileToken) → IsUsedSinceStart facts identity first tenant between told → IsUsedOnce facts identity now tenant between told book token
        → IsUsedSinceStart facts identity now tenant book token
    used_again between told book token was once = record {
      first = was.first;
      on = was.on;
      count = suc was.count;
      uses = (between, told, uses_still was.count was.first (token_given tenant identity.config.pool (opening_at identity.openings tenant)) between told was.uses, once);
    }
