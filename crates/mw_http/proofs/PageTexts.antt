-- The text of an answer by a page is its head, and then its body if that is asked for. Used by: send_page.
use Rattle.std.proofs.Common.{◌≡◌, ◌++◌, Bool, true, false, List, [], ℕ, Some, if◌then◌else◌, length, sym, ap, ◌∙◌, subst, arith, append-nil}
use Rattle.std.specs.Prelude.{vec_len}
use Rattle.mw_session.specs.StreamRecords.{WriteRecord, with_written}
use Rattle.mw_http.specs.declared.exchanges.Exchanged.{Exchanged}
use Rattle.mw_http.specs.declared.pages.Page.{Page}
use Rattle.mw_http.specs.Exchanges.{Breaks, Sends, answer_text}
use Rattle.mw_http.specs.Heads.{head}
use Rattle.mw_http.proofs.ExchangeLaws.{breaks_early, sends_then}

-- the head of the answer
abbrev pub front : Page → List ℕ → List ℕ
front page date = head page.status date (Some (record { kind = page.kind; length = length page.body.items }))

-- this text is the head, made with this length and this date
pub front_is : (page : Page) (date : List ℕ) (long : ℕ) (given made text : List ℕ) → long ≡ vec_len page.body → given ≡ date
    → made ≡ head page.status given (Some (record { kind = page.kind; length = long })) → text ≡ made → text ≡ front page date
front_is page date long given made text long_is date_is is same =
    same ∙ is ∙ ap (λ (day : List ℕ). head page.status day (Some (record { kind = page.kind; length = long }))) date_is
    ∙ ap (λ (count : ℕ). head page.status date (Some (record { kind = page.kind; length = count }))) (omega (arith, long_is, page.body.ok.0))

pub front_breaks : (page : Page) (date : List ℕ) (content : Bool) (first next : WriteRecord) (text : List ℕ) → text ≡ front page date
    → Breaks first next text → Breaks first next (answer_text page content date)
front_breaks page date content first next text is breaks =
    breaks_early first next (front page date) (if content then page.body.items else []) (subst (λ (t : List ℕ). Breaks first next t) is breaks)

pub front_alone : (page : Page) (date : List ℕ) (content : Bool) (first next : WriteRecord) (text : List ℕ) → text ≡ front page date → content ≡ false
    → next ≡ with_written first text → next ≡ with_written first (answer_text page content date)
front_alone page date content first next text is none written =
    written ∙ ap (λ (t : List ℕ). with_written first t)
    (is ∙ sym (append-nil (front page date)) ∙ ap (λ (more : Bool). front page date ++ (if more then page.body.items else [])) (sym none))

pub front_then_body : (page : Page) (date : List ℕ) (content : Bool) (first next last : WriteRecord) (text body : List ℕ) (ended : Exchanged) → text ≡ front page date
    → content ≡ true → next ≡ with_written first text → body ≡ page.body.items → Sends next last body ended → Sends first last (answer_text page content date) ended
front_then_body page date content first next last text body ended is asked written body_is sends =
    sends_then first next last (front page date) (if content then page.body.items else []) ended (written ∙ ap (λ (t : List ℕ). with_written first t) is)
    (subst (λ (t : List ℕ). Sends next last t ended) (body_is ∙ ap (λ (more : Bool). if more then page.body.items else []) (sym asked)) sends)
