-- A session between two reads goes on to the next read, or ends as `specs/WholeSessions` says. Used by: Session::run.
use Rattle.std.proofs.Common.{◌≡◌, ℕ, ◌-◌, ◌^◌, ◌<◌, min, length, List, [], ◌++◌, Err, refl, sym, ap, ◌∙◌, arith, append-nil, append_assoc, lit<}
use Rattle.mw_session.specs.StreamRecords.{ReadRecord, WriteRecord, with_end, with_read, with_read_fault, with_write_fault}
use Rattle.mw_frame.specs.declared.lines.Line.{Line}
use Rattle.mw_frame.specs.Lines.{lines}
use Rattle.mw_frame.specs.Stream.{Stream, Open, Ended as Closed, fed, lines_of}
use Rattle.mw_session.specs.declared.steps.Bound.{Bound}
use Rattle.mw_session.specs.declared.steps.Bound.TheVariants.{Nobody}
use Rattle.mw_session.specs.declared.session.Ended.{Ended}
use Rattle.mw_session.specs.declared.session.Ended.TheVariants.{Quit, PeerEnd, TooLong, ReadFault, WriteFault, Memory}
use Rattle.mw_session.specs.Talk.{Script, Call, Cuts, End, Listens, Quits, after, ends, talk}
use Rattle.mw_session.specs.SessionParts.{Gives, Next, On, Over, Talked, Turned, goes}
use Rattle.mw_session.specs.WholeSessions.{EndsTalk, Holds, IsTalk}
use Rattle.mw_session.specs.UnderWay.{UnderWay}
use Rattle.mw_session.proofs.WrittenTexts.{read_nothing, read_then, written_nothing}
use Rattle.mw_session.proofs.AnsweredLines.{talked_nothing, talked_then, turned_then}

ended_text : (sent : List ℕ) (calls : List Call) (end : End) → after (sent ++ []) calls (ends end) ≡ record { text = sent; calls = calls; end = end }
ended_text sent calls end =
    ap (λ text. record { text = text; calls = calls ++ []; end = end }) (append-nil (sent ++ []) ∙ append-nil sent)
    ∙ ap (λ cs. record { text = sent; calls = cs; end = end }) (append-nil calls)

-- nothing follows if nothing more is heard
rest_text : (next : Next) → (goes next (λ bound given. talk bound [] given) []).text ≡ []
rest_text (On bound) = refl
rest_text (Over end) = refl

rest_calls : (next : Next) → (goes next (λ bound given. talk bound [] given) []).calls ≡ []
rest_calls (On bound) = refl
rest_calls (Over end) = refl

module _ (a b : WriteRecord) (Asked : List Call → Type 0) (m : ℕ) (ls : List Line) where
  heard_only : (next : Next) (unsent : List ℕ) (t : Talked a b Asked 0 m ls Nobody next unsent)
      → talk Nobody t.heard t.answers ≡ after (t.sent ++ unsent) t.calls (goes next (λ bound given. talk bound [] given) [])
  heard_only next unsent t =
      ap (λ hs. talk Nobody hs t.answers) (sym (append-nil t.heard)) ∙ ap (λ given. talk Nobody (t.heard ++ []) given) (sym (append-nil t.answers))
      ∙ t.talks [] []

  is_talk : (bound : Bound) (t : Talked a b Asked 0 m ls Nobody (On bound) []) → IsTalk t.heard t.answers t.sent t.calls
  is_talk bound t =
      ap (λ hs. talk Nobody hs t.answers) (sym (append-nil t.heard)) ∙ ap (λ given. talk Nobody (t.heard ++ []) given) (sym (append-nil t.answers))
      ∙ t.talks [] [] ∙ ended_text t.sent t.calls Listens

  ends_talk : (end : End) (t : Talked a b Asked 0 m ls Nobody (Over end) []) → EndsTalk t.heard t.answers t.sent t.calls end
  ends_talk end t unheard unused = t.talks unheard unused ∙ ended_text t.sent t.calls end

module _ (a b : WriteRecord) (Asked : List Call → Type 0) (m : ℕ) (ls : List Line) where
  -- a session that has ended in its lines
  pub holds_ended : (reads new_reads : ReadRecord) (read : List ℕ) (unseen : List Line) (new : Bound) (ended : Ended) → new_reads ≡ with_read reads read → lines read ≡ ls ++ unseen
      → Turned a b Asked 0 m ls Nobody new (Err ended) → Holds reads new_reads a b Asked ended
  holds_ended reads new_reads read unseen new Quit is_read cut t = record {
    read = read;
    seen = ls;
    unseen = unseen;
    heard = t.heard;
    answers = t.answers;
    calls = t.calls;
    text = t.sent;
    is_read = is_read;
    are_lines = cut;
    runs_out = tt;
    is_heard = t.hears;
    is_asked = t.asked;
    is_written = t.written.wrote;
    ends = ends_talk a b Asked m ls Quits t;
  }
  holds_ended reads new_reads read unseen new TooLong is_read cut t = record {
    read = read;
    seen = ls;
    unseen = unseen;
    heard = t.heard;
    answers = t.answers;
    calls = t.calls;
    text = t.sent;
    is_read = is_read;
    are_lines = cut;
    runs_out = tt;
    is_heard = t.hears;
    is_asked = t.asked;
    is_written = t.written.wrote;
    ends = ends_talk a b Asked m ls Cuts t;
  }
  holds_ended reads new_reads read unseen new (WriteFault told) is_read cut w = let v = w.3 in let t = v.talked in record {
    read = read;
    seen = ls;
    unseen = unseen;
    heard = t.heard;
    answers = t.answers;
    calls = t.calls;
    text = t.sent;
    is_read = is_read;
    are_lines = cut;
    runs_out = tt;
    is_heard = t.hears;
    is_asked = t.asked;
    is_written = w.2 ∙ ap with_write_fault t.written.wrote;
    ends = (
      w.0 ∙ t.written.count (lit< tt) ∙ ap (λ l. min l (2 ^ 64 - 1)) (omega arith),
      record {
        unsent = v.unsent;
        some = v.some;
        said = ap (λ (s : Script). s.text) (heard_only a w.1 Asked m ls v.next v.unsent t) ∙ ap (λ l. (t.sent ++ v.unsent) ++ l) (rest_text v.next) ∙ append-nil (t.sent ++ v.unsent);
        made = ap (λ (s : Script). s.calls) (heard_only a w.1 Asked m ls v.next v.unsent t) ∙ ap (λ l. t.calls ++ l) (rest_calls v.next) ∙ append-nil t.calls;
        begins = λ unheard unused. (goes v.next (λ bound given. talk bound unheard given) unused, t.talks unheard unused);
        earlier = v.earlier;
        last = v.last;
        heard_are = v.heard;
        part = v.part;
        replied = v.replied;
      },
    );
  }
  holds_ended reads new_reads read unseen new PeerEnd is_read cut t = absurd t
  holds_ended reads new_reads read unseen new ReadFault is_read cut t = absurd t
  holds_ended reads new_reads read unseen new Memory is_read cut t = absurd t

pub holds_nothing : (reads : ReadRecord) (writes : WriteRecord) (Asked : List Call → Type 0) → Asked [] → Holds reads reads writes writes Asked Memory
unfolding lines
holds_nothing reads writes Asked asked = record {
  read = [];
  seen = [];
  unseen = [];
  heard = [];
  answers = [];
  calls = [];
  text = [];
  is_read = read_nothing reads;
  are_lines = refl;
  runs_out = ([], [], refl, λ some. some, refl);
  is_heard = tt;
  is_asked = asked;
  is_written = written_nothing writes;
  ends = refl;
}

pub starts : (reads : ReadRecord) (writes : WriteRecord) (Asked : List Call → Type 0) (feed : Stream) → feed ≡ Open [] → Asked [] → UnderWay reads reads writes writes Asked feed Nobody 0
unfolding lines
starts reads writes Asked feed e asked = record {
  read = [];
  is_read = read_nothing reads;
  seen = [];
  gives = λ more. ap (λ s. lines_of (fed s more)) (sym e);
  talked = talked_nothing writes Asked 0 Nobody asked;
  waits = ap lines_of e;
}

fed_then : (feed : Stream) (piece more : List ℕ) → fed feed (piece ++ more) ≡ fed (fed feed piece) more
fed_then (Open bytes) piece more = ap Open (sym (append_assoc bytes piece more))
fed_then Closed piece more = refl

fed_nothing : (feed : Stream) → fed feed [] ≡ feed
fed_nothing (Open bytes) = ap Open (append-nil bytes)
fed_nothing Closed = refl

module _ (reads new_reads later_reads : ReadRecord) (writes new_writes : WriteRecord) (Asked : List Call → Type 0) (feed : Stream) (bound : Bound) (written : ℕ) (way : UnderWay reads new_reads writes new_writes Asked feed bound written) where
  seen_all : lines way.read ≡ way.seen
  seen_all =
      ap lines (sym (append-nil way.read)) ∙ way.gives [] ∙ ap (λ s. way.seen ++ lines_of s) (fed_nothing feed)
      ∙ ap (λ l. way.seen ++ l) way.waits ∙ append-nil way.seen

  pub holds_peer_end : later_reads ≡ with_end new_reads → Holds reads later_reads writes new_writes Asked PeerEnd
  holds_peer_end h = let t = way.talked in record {
    read = way.read;
    seen = way.seen;
    unseen = [];
    heard = t.heard;
    answers = t.answers;
    calls = t.calls;
    text = t.sent;
    is_read = h ∙ ap with_end way.is_read;
    are_lines = seen_all ∙ sym (append-nil way.seen);
    runs_out = tt;
    is_heard = t.hears;
    is_asked = t.asked;
    is_written = t.written.wrote;
    ends = (refl, is_talk writes new_writes Asked written way.seen bound t);
  }

  pub holds_read_fault : later_reads ≡ with_read_fault new_reads → Holds reads later_reads writes new_writes Asked ReadFault
  holds_read_fault h = let t = way.talked in record {
    read = way.read;
    seen = way.seen;
    unseen = [];
    heard = t.heard;
    answers = t.answers;
    calls = t.calls;
    text = t.sent;
    is_read = h ∙ ap with_read_fault way.is_read;
    are_lines = seen_all ∙ sym (append-nil way.seen);
    runs_out = tt;
    is_heard = t.hears;
    is_asked = t.asked;
    is_written = t.written.wrote;
    ends = (refl, is_talk writes new_writes Asked written way.seen bound t);
  }

  pub holds_memory : (piece : List ℕ) → 0 < length piece → later_reads ≡ with_read new_reads piece → Holds reads later_reads writes new_writes Asked Memory
  holds_memory piece some h = let t = way.talked in record {
    read = way.read ++ piece;
    seen = way.seen;
    unseen = lines_of (fed feed piece);
    heard = t.heard;
    answers = t.answers;
    calls = t.calls;
    text = t.sent;
    is_read = read_then reads new_reads later_reads way.read piece way.is_read h;
    are_lines = way.gives piece;
    runs_out = (way.read, piece, refl, λ given. some, seen_all);
    is_heard = t.hears;
    is_asked = t.asked;
    is_written = t.written.wrote;
    ends = is_talk writes new_writes Asked written way.seen bound t;
  }

  module _ (later_writes : WriteRecord) (Asked2 Asked3 : List Call → Type 0) (both : (xs ys : List Call) → Asked xs → Asked2 ys → Asked3 (xs ++ ys)) (piece : List ℕ) (ls : List Line) (new : Stream) (later : ℕ) (new_bound : Bound)
      (h : later_reads ≡ with_read new_reads piece) (given : Gives (fed feed piece) ls new) where
    goes_on : (more : List ℕ) → lines ((way.read ++ piece) ++ more) ≡ (way.seen ++ ls) ++ lines_of (fed new more)
    goes_on more =
        ap lines (append_assoc way.read piece more) ∙ way.gives (piece ++ more) ∙ ap (λ s. way.seen ++ lines_of s) (fed_then feed piece more)
        ∙ ap (λ l. way.seen ++ l) (given more) ∙ sym (append_assoc way.seen ls (lines_of (fed new more)))

    pub more_lines : Talked new_writes later_writes Asked2 written later ls bound (On new_bound) [] → lines_of new ≡ [] → UnderWay reads later_reads writes later_writes Asked3 new new_bound later
    more_lines t waits = record {
      read = way.read ++ piece;
      is_read = read_then reads new_reads later_reads way.read piece way.is_read h;
      seen = way.seen ++ ls;
      gives = goes_on;
      talked = talked_then writes new_writes later_writes Asked Asked2 Asked3 both 0 written later way.seen ls Nobody bound (On new_bound) [] way.talked t;
      waits = waits;
    }

    pub last_lines : (ended : Ended) → Turned new_writes later_writes Asked2 written later ls bound new_bound (Err ended) → Holds reads later_reads writes later_writes Asked3 ended
    last_lines ended t =
        holds_ended writes later_writes Asked3 later (way.seen ++ ls) reads later_reads (way.read ++ piece) (lines_of new) new_bound ended
        (read_then reads new_reads later_reads way.read piece way.is_read h)
        (ap lines (sym (append-nil (way.read ++ piece))) ∙ goes_on [] ∙ ap (λ s. (way.seen ++ ls) ++ lines_of s) (fed_nothing new))
        (turned_then writes new_writes later_writes Asked Asked2 Asked3 both 0 written later way.seen ls Nobody bound new_bound (Err ended) way.talked t)
