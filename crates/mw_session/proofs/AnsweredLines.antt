-- One answered line is a run of the session (`Talked`), and two such runs in order make one.
-- Used by: Session::answer, Session::answer_all.
use Rattle.std.proofs.Common.{◌≡◌, ℕ, ◌<◌, List, [], ◌∷◌, ◌++◌, length, Some, None, Result, Ok, Err, IsErr, refl, sym, ap, ◌∙◌, subst, append-nil, append_assoc, arith}
use Rattle.mw_frame.specs.declared.lines.Line.{Line}
use Rattle.mw_frame.specs.Stream.{Stream, Open, Ended as Closed, fed, lines_of}
use Rattle.mw_session.specs.declared.steps.Bound.{Bound}
use Rattle.mw_session.specs.declared.steps.Step.{Step}
use Rattle.mw_session.specs.declared.steps.Step.TheVariants.{Refuse, Find, BindAdmin, Ask, Report, Leave, Overrun}
use Rattle.mw_session.specs.declared.session.Ended.{Ended}
use Rattle.mw_session.specs.declared.session.Ended.TheVariants.{Quit, PeerEnd, TooLong, ReadFault, WriteFault, Memory}
use Rattle.mw_session.specs.Talk.{Answer, Call, Heard, Script, after, does, talk}
use Rattle.mw_session.specs.Lines.{HearsAll}
use Rattle.mw_session.specs.StepOfLine.{Judges}
use Rattle.mw_session.specs.SessionParts.{Gives, Next, On, Performs, Sent, Spoken, Talked, Turned, Writes, end_of, goes, next_of}
use Rattle.mw_session.specs.StreamRecords.{WriteRecord}
use Rattle.mw_session.proofs.WrittenTexts.{sent_then, sent_nothing}

-- ---- one line

module _ (a b : WriteRecord) (Asked : List Call → Type 0) (n m : ℕ) (line : Line) (bound new : Bound) where
  abbrev pub talked_line : (step : Step) (text sent unsent : List ℕ) → Judges bound line step → Performs Asked step bound new text → Sent a b n m sent → text ≡ sent ++ unsent
      → Talked a b Asked n m (line ∷ []) bound (next_of step new) unsent
  talked_line step text sent unsent j p s whole = record {
    heard = j.heard ∷ [];
    hears = (j.hears, tt);
    answers = p.answers;
    calls = p.calls;
    asked = p.asked;
    sent = sent;
    written = s;
    talks = λ unheard unused.
        let rest = λ (next : Bound) (left : List Answer). talk next unheard left in
        ap (λ s. does s bound (p.answers ++ unused) rest) (sym j.step)
        ∙ p.does unused rest
        ∙ ap (λ t. after t p.calls (goes (next_of step new) rest unused)) whole;
  }

module _ (a b : WriteRecord) (Asked : List Call → Type 0) (n m : ℕ) (line : Line) (bound new : Bound) where
  pub line_breaks : (step : Step) (text : List ℕ) (r : Result (Unit {0}) Ended) → IsErr r → Judges bound line step → Performs Asked step bound new text → Writes a b n m text r
      → Turned a b Asked n m (line ∷ []) bound new r
  line_breaks step text (Ok x) is j p w = absurd (cc is)
  line_breaks step text (Err (WriteFault told)) is j p w = (
    w.6,
    w.0,
    w.1,
    record {
      next = next_of step new;
      unsent = w.3;
      some = w.5;
      talked = talked_line a w.0 Asked n m line bound new step text w.2 w.3 j p w.7 w.4;
      earlier = [];
      last = j.heard;
      heard = refl;
      part = w.2;
      replied = refl;
    },
  )
  line_breaks step text (Err Quit) is j p w = absurd w
  line_breaks step text (Err PeerEnd) is j p w = absurd w
  line_breaks step text (Err TooLong) is j p w = absurd w
  line_breaks step text (Err ReadFault) is j p w = absurd w
  line_breaks step text (Err Memory) is j p w = absurd w

  ends_as : (step : Step) (ended : Ended) → end_of step ≡ Some ended → Talked a b Asked n m (line ∷ []) bound (next_of step new) [] → Turned a b Asked n m (line ∷ []) bound new (Err ended)
  ends_as Leave ended e t = let i : Quit ≡ ended = cc e in subst (λ x. Turned a b Asked n m (line ∷ []) bound new (Err x)) i t
  ends_as Overrun ended e t = let i : TooLong ≡ ended = cc e in subst (λ x. Turned a b Asked n m (line ∷ []) bound new (Err x)) i t
  ends_as (Refuse wrong) ended e t = absurd (cc e)
  ends_as (Find name) ended e t = absurd (cc e)
  ends_as BindAdmin ended e t = absurd (cc e)
  ends_as (Ask tenant wanted) ended e t = absurd (cc e)
  ends_as Report ended e t = absurd (cc e)

  goes_as : (step : Step) → end_of step ≡ None → Talked a b Asked n m (line ∷ []) bound (next_of step new) [] → Talked a b Asked n m (line ∷ []) bound (On new) []
  goes_as Leave e t = absurd (cc e)
  goes_as Overrun e t = absurd (cc e)
  goes_as (Refuse wrong) e t = t
  goes_as (Find name) e t = t
  goes_as BindAdmin e t = t
  goes_as (Ask tenant wanted) e t = t
  goes_as Report e t = t

  pub line_ends : (step : Step) (text : List ℕ) (ended : Ended) → end_of step ≡ Some ended → Judges bound line step → Performs Asked step bound new text → Sent a b n m text
      → Turned a b Asked n m (line ∷ []) bound new (Err ended)
  line_ends step text ended e j p s = ends_as step ended e (talked_line a b Asked n m line bound new step text text [] j p s (sym (append-nil text)))

  pub line_goes_on : (step : Step) (text : List ℕ) → end_of step ≡ None → Judges bound line step → Performs Asked step bound new text → Sent a b n m text
      → Talked a b Asked n m (line ∷ []) bound (On new) []
  line_goes_on step text e j p s = goes_as step e (talked_line a b Asked n m line bound new step text text [] j p s (sym (append-nil text)))

-- ---- one part after another

pub hears_append : (ls ks : List Line) (hs gs : List Heard) → HearsAll ls hs → HearsAll ks gs → HearsAll (ls ++ ks) (hs ++ gs)
hears_append [] ks [] gs h g = g
hears_append [] ks (x ∷ hs) gs h g = absurd h
hears_append (l ∷ ls) ks [] gs h g = absurd h
hears_append (l ∷ ls) ks (x ∷ hs) gs h g = (h.0, hears_append ls ks hs gs h.1 g)

pub after_after : (s t : List ℕ) (c d : List Call) (rest : Script) → after s c (after t d rest) ≡ after (s ++ t) (c ++ d) rest
after_after s t c d rest =
    ap (λ text. record { text = text; calls = c ++ (d ++ rest.calls); end = rest.end }) (sym (append_assoc s t rest.text))
    ∙ ap (λ calls. record { text = (s ++ t) ++ rest.text; calls = calls; end = rest.end }) (sym (append_assoc c d rest.calls))

pub talked_nothing : (a : WriteRecord) (Asked : List Call → Type 0) (n : ℕ) (bound : Bound) → Asked [] → Talked a a Asked n n [] bound (On bound) []
talked_nothing a Asked n bound asked = record {
  heard = [];
  hears = tt;
  answers = [];
  calls = [];
  asked = asked;
  sent = [];
  written = sent_nothing a n;
  talks = λ unheard unused. refl;
}

module _ (a b c : WriteRecord) (Asked1 Asked2 Asked : List Call → Type 0) (both : (xs ys : List Call) → Asked1 xs → Asked2 ys → Asked (xs ++ ys)) (n m k : ℕ) (ls ks : List Line) (bound middle : Bound) where
  abbrev pub talked_then : (next : Next) (unsent : List ℕ) → Talked a b Asked1 n m ls bound (On middle) [] → Talked b c Asked2 m k ks middle next unsent
      → Talked a c Asked n k (ls ++ ks) bound next unsent
  talked_then next unsent t u = record {
    heard = t.heard ++ u.heard;
    hears = hears_append ls ks t.heard u.heard t.hears u.hears;
    answers = t.answers ++ u.answers;
    calls = t.calls ++ u.calls;
    asked = both t.calls u.calls t.asked u.asked;
    sent = t.sent ++ u.sent;
    written = sent_then a b c n m k t.sent u.sent t.written u.written;
    talks = λ unheard unused.
        let rest = goes next (λ next left. talk next unheard left) unused in
        ap (λ hs. talk bound hs ((t.answers ++ u.answers) ++ unused)) (append_assoc t.heard u.heard unheard)
        ∙ ap (λ given. talk bound (t.heard ++ (u.heard ++ unheard)) given) (append_assoc t.answers u.answers unused)
        ∙ t.talks (u.heard ++ unheard) (u.answers ++ unused)
        ∙ ap (λ s. after (t.sent ++ []) t.calls s) (u.talks unheard unused)
        ∙ after_after (t.sent ++ []) (u.sent ++ unsent) t.calls u.calls rest
        ∙ ap (λ text. after text (t.calls ++ u.calls) rest)
        (ap (λ l. l ++ (u.sent ++ unsent)) (append-nil t.sent) ∙ sym (append_assoc t.sent u.sent unsent));
  }

module _ (a b c : WriteRecord) (Asked1 Asked2 Asked : List Call → Type 0) (both : (xs ys : List Call) → Asked1 xs → Asked2 ys → Asked (xs ++ ys)) (n m k : ℕ) (ls ks : List Line) (bound middle : Bound) where
  pub turned_then : (new : Bound) (r : Result (Unit {0}) Ended) → Talked a b Asked1 n m ls bound (On middle) [] → Turned b c Asked2 m k ks middle new r
      → Turned a c Asked n k (ls ++ ks) bound new r
  turned_then new (Ok x) t u = talked_then a b c Asked1 Asked2 Asked both n m k ls ks bound middle (On new) [] t u
  turned_then new (Err Quit) t u = talked_then a b c Asked1 Asked2 Asked both n m k ls ks bound middle _ [] t u
  turned_then new (Err TooLong) t u = talked_then a b c Asked1 Asked2 Asked both n m k ls ks bound middle _ [] t u
  turned_then new (Err (WriteFault told)) t u =
      let v = u.3 in
      let said = talk middle v.earlier v.talked.answers in (
        u.0,
        u.1,
        u.2,
        record {
          next = v.next;
          unsent = v.unsent;
          some = v.some;
          talked = talked_then a b u.1 Asked1 Asked2 Asked both n m k ls ks bound middle v.next v.unsent t v.talked;
          earlier = t.heard ++ v.earlier;
          last = v.last;
          heard = ap (λ hs. t.heard ++ hs) v.heard ∙ sym (append_assoc t.heard v.earlier (v.last ∷ []));
          part = v.part;
          replied = ap (λ l. t.sent ++ l) v.replied ∙ sym (append_assoc t.sent said.text v.part)
              ∙ ap (λ l. (l ++ said.text) ++ v.part) (sym (append-nil t.sent))
              ∙ ap (λ (s : Script). s.text ++ v.part) (sym (t.talks v.earlier v.talked.answers));
        },
      )
  turned_then new (Err PeerEnd) t u = absurd u
  turned_then new (Err ReadFault) t u = absurd u
  turned_then new (Err Memory) t u = absurd u

pub gives_then : (old middle new : Stream) (ls ks : List Line) → Gives old ls middle → Gives middle ks new → Gives old (ls ++ ks) new
gives_then old middle new ls ks g h more = g more ∙ ap (λ l. ls ++ l) (h more) ∙ sym (append_assoc ls ks (lines_of (fed new more)))

pub spoken_nothing : (a : WriteRecord) (Asked : List Call → Type 0) (n : ℕ) (feed : Stream) (bound : Bound) → Asked [] → Spoken a a Asked n n feed feed bound bound
spoken_nothing a Asked n feed bound asked = record { lines = []; gives = λ more. refl; talked = talked_nothing a Asked n bound asked }

-- one more line is given and answered
pub spoken_more : (a b c : WriteRecord) (Asked1 Asked2 Asked : List Call → Type 0) → ((xs ys : List Call) → Asked1 xs → Asked2 ys → Asked (xs ++ ys)) → (n m k : ℕ) (old middle new : Stream) (line : Line) (bound next last : Bound)
    → Spoken a b Asked1 n m old middle bound next → Gives middle (line ∷ []) new → Talked b c Asked2 m k (line ∷ []) next (On last) [] → Spoken a c Asked n k old new bound last
spoken_more a b c Asked1 Asked2 Asked both n m k old middle new line bound next last h g t = record {
  lines = h.lines ++ line ∷ [];
  gives = gives_then old middle new h.lines (line ∷ []) h.gives g;
  talked = talked_then a b c Asked1 Asked2 Asked both n m k h.lines (line ∷ []) bound next (On last) [] h.talked t;
}

fed_nothing : (s : Stream) → fed s [] ≡ s
fed_nothing (Open bytes) = ap Open (append-nil bytes)
fed_nothing Closed = refl

-- after a line is given, one line less is left to give
pub fewer_lines : (old new : Stream) (line : Line) → Gives old (line ∷ []) new → length (lines_of new) < length (lines_of old)
fewer_lines old new line g =
    let e : lines_of old ≡ line ∷ lines_of new = ap lines_of (sym (fed_nothing old)) ∙ g [] ∙ ap (λ s. line ∷ lines_of s) (fed_nothing new) in
    omega (arith, ap length e)
