-- The text of a server's reply is read as that reply, and what is read as a reply is its text. Used by: read_reply.
use Rattle.std.proofs.Common.{◌≡◌, ℕ, ◌<◌, ◌≤◌, Bool, true, false, cond, eqb, ltb, leb, leb-true, ltb-true, le-leb, lt-ltb, eqb-true, ◌&&◌, List, [], ◌∷◌, ◌++◌, length, decimal, Option, Some, None, ◌⊎◌, inl, inr, refl, sym, ap, subst, ◌∙◌, arith, append-nil, append_assoc}
use Rattle.std.specs.Prelude.{codes, bytes_eq}
use Rattle.std.proofs.lemmas.List.{nil_from_length}
use Rattle.std.proofs.lemmas.Option.{none-some, same_Some, cond_some}
use Rattle.std.proofs.lemmas.Slice.Eq.{bytes_eq-Decides}
use Rattle.mw_words.specs.declared.limits.TheConstants.{MAX_VALUE, MAX_WORDS}
use Rattle.mw_words.specs.declared.replies.Reply.TheVariants as reply
use Rattle.mw_line.specs.declared.replies.ErrCode.{ErrCode}
use Rattle.mw_line.specs.declared.replies.ErrCode.TheVariants as fault
use Rattle.mw_line.specs.declared.replies.Say.{Say}
use Rattle.mw_line.specs.declared.replies.Say.TheVariants as say
use Rattle.mw_line.specs.Number.{numeral}
use Rattle.mw_line.specs.Replies as replies
use Rattle.mw_line.specs.Replies.{words_of}
use Rattle.mw_line.specs.LineReader.{narrow, behind, number_at}
use Rattle.mw_line.proofs.Fronts.{behind_found}
use Rattle.mw_line.proofs.Numerals as numerals
use Rattle.mw_line.proofs.Numerals.{as_printed}
use Rattle.mw_line.proofs.Entries.{bind_some, cases_cond_is}
use Rattle.mw_client.specs.ReplyGrammar.{IsReply, Says, number_of, bound_to, bound_read, value_read, miss_read, fault_numbered, fault_read, plain_read, read_behind, or_else, reading}

both : (a b : Bool) → (a && b) ≡ true → (a ≡ true) × (b ≡ true)
both true b h = (refl, h)
both false b h = absurd cc

-- ---- numbers

number_is : (bytes : List ℕ) (n : ℕ) → number_of bytes ≡ Some n → n ≤ MAX_VALUE → bytes ≡ decimal n
unfolding number_of
number_is bytes n e small =
    let p = bind_some (number_at narrow.value bytes) _ n e in
    let h = cond_some (eqb (length p.0.1) 0) p.0.0 n p.2 in
    let r = numerals.number_found narrow.value bytes p.0.0 p.0.1 p.1 in
    let nothing : p.0.1 ≡ [] = nil_from_length p.0.1 (eqb-true _ 0 h.0) in
    let same : r.number ≡ n = omega (arith, r.value, h.1) in
    r.text ∙ ap (λ (x : List ℕ). numeral r.number ++ x) nothing ∙ append-nil (numeral r.number) ∙ ap numeral same ∙ as_printed n (omega arith)

number_again : (n : ℕ) → n ≤ MAX_VALUE → number_of (decimal n) ≡ Some n
unfolding number_of
number_again n small =
    let whole : decimal n ≡ numeral n ++ [] = sym (as_printed n (omega arith)) ∙ sym (append-nil (numeral n)) in
    let kept : narrow.value n ≡ n = omega arith in
    ap number_of whole ∙ rw (numerals.number_again narrow.value n [] (inl refl)) (ap Some kept)

-- ---- what is read is the text of a reply

value_found : (line rest : List ℕ) (s : Say) → line ≡ codes "VAL " ++ rest → value_read rest ≡ Some s → Says s line
unfolding value_read
value_found line rest s text e =
    let p = bind_some (number_of rest) _ s e in
    let h = cond_some (leb p.0 MAX_VALUE) (say.Store (reply.Val p.0)) s p.2 in
    let small : p.0 ≤ MAX_VALUE = leb-true p.0 MAX_VALUE h.0 in
    subst (λ (x : Say). Says x line) h.1 (small, text ∙ ap (λ (x : List ℕ). codes "VAL " ++ x) (number_is rest p.0 p.1 small))

bound_found : (o : Option ℕ) (line rest : List ℕ) (s : Say) → number_of rest ≡ o → line ≡ codes "OK " ++ rest → bound_to o rest ≡ Some s → Says s line
bound_found (Some words) line rest s read text e =
    let h = cond_some (leb 1 words && leb words MAX_WORDS) (say.Ok words) s e in
    let p = both _ _ h.0 in
    let low : 1 ≤ words = leb-true 1 words p.0 in
    let high : words ≤ MAX_WORDS = leb-true words MAX_WORDS p.1 in
    subst (λ (x : Say). Says x line) h.1 ((low, high), text ∙ ap (λ (x : List ℕ). codes "OK " ++ x) (number_is rest words read (omega arith)))
bound_found None line rest s read text e =
    let h = cond_some (bytes_eq rest (codes "ADMIN")) say.OkAdmin s e in
    subst (λ (x : Say). Says x line) h.1 (tt, text ∙ ap (λ (x : List ℕ). codes "OK " ++ x) ((bytes_eq-Decides rest (codes "ADMIN")).0 h.0))

address_is : (bytes rest : List ℕ) (a : ℕ) → number_at narrow.addr bytes ≡ Some (a, rest) → a < MAX_WORDS → bytes ≡ decimal a ++ rest
address_is bytes rest a e small =
    let r = numerals.number_found narrow.addr bytes a rest e in
    let same : r.number ≡ a = omega (arith, r.value) in
    r.text ∙ ap (λ (n : ℕ). numeral n ++ rest) same ∙ ap (λ (x : List ℕ). x ++ rest) (as_printed a (omega arith))

miss_text : (line rest after behind_space a v : List ℕ) → line ≡ codes "NO " ++ rest → rest ≡ a ++ after → after ≡ codes " " ++ behind_space → behind_space ≡ v → line ≡ ((codes "NO " ++ a) ++ codes " ") ++ v
miss_text line rest after behind_space a v e1 e2 e3 e4 =
    let whole : line ≡ codes "NO " ++ (a ++ (codes " " ++ v)) = cc in
    let grouped : (codes "NO " ++ (a ++ (codes " " ++ v))) ≡ ((codes "NO " ++ a) ++ codes " ") ++ v = simp append_assoc in
    whole ∙ grouped

miss_found : (line rest : List ℕ) (s : Say) → line ≡ codes "NO " ++ rest → miss_read rest ≡ Some s → Says s line
unfolding miss_read
miss_found line rest s text e =
    let p = bind_some (number_at narrow.addr rest) _ s e in
    let q = bind_some (behind (codes " ") p.0.1) _ s p.2 in
    let r = bind_some (number_of q.0) _ s q.2 in
    let h = cond_some (ltb p.0.0 MAX_WORDS && leb r.0 MAX_VALUE) (say.Store (reply.No p.0.0 r.0)) s r.2 in
    let b = both _ _ h.0 in
    let low : p.0.0 < MAX_WORDS = ltb-true p.0.0 MAX_WORDS b.0 in
    let small : r.0 ≤ MAX_VALUE = leb-true r.0 MAX_VALUE b.1 in
    subst (λ (x : Say). Says x line) h.1 ((low, small), miss_text line rest p.0.1 q.0 (decimal p.0.0) (decimal r.0) text (address_is rest p.0.1 p.0.0 p.1 low) (behind_found (codes " ") p.0.1 q.0 q.1) (number_is q.0 r.0 r.1 small))

one_fault : (n k : ℕ) (f g : ErrCode) (rest : Option ErrCode) → k ≡ replies.number_of f → (rest ≡ Some g → n ≡ replies.number_of g) → cond (eqb n k) (Some f) rest ≡ Some g → n ≡ replies.number_of g
one_fault n k f g rest named others e =
    elim (cases_cond_is (eqb n k) (Some f) rest (Some g) e) [
      | inl h ↦ eqb-true n k h.0 ∙ named ∙ ap replies.number_of (same_Some f g h.1)
      | inr h ↦ others h.1
    ]

fault_is : (n : ℕ) (g : ErrCode) → fault_numbered n ≡ Some g → n ≡ replies.number_of g
unfolding fault_numbered
fault_is n g =
    one_fault n 1 fault.LineTooLong g _ refl
    (one_fault n 2 fault.NotACommand g _ refl
    (one_fault n 3 fault.NotBound g _ refl
    (one_fault n 4 fault.AlreadyBound g _ refl
    (one_fault n 5 fault.NoSuchTenant g _ refl
    (one_fault n 6 fault.AddressRange g _ refl
    (one_fault n 7 fault.AddressOrder g _ refl
    (one_fault n 8 fault.TooManyEntries g _ refl
    (one_fault n 9 fault.ValueRange g _ refl
    (one_fault n 10 fault.WrongSession g None refl (λ e. absurd (none-some g e)))))))))))

small_number : (g : ErrCode) → replies.number_of g ≤ 10
small_number fault.LineTooLong = omega arith
small_number fault.NotACommand = omega arith
small_number fault.NotBound = omega arith
small_number fault.AlreadyBound = omega arith
small_number fault.NoSuchTenant = omega arith
small_number fault.AddressRange = omega arith
small_number fault.AddressOrder = omega arith
small_number fault.TooManyEntries = omega arith
small_number fault.ValueRange = omega arith
small_number fault.WrongSession = omega arith

fault_found : (line rest : List ℕ) (s : Say) → line ≡ codes "ERR " ++ rest → fault_read rest ≡ Some s → Says s line
unfolding fault_read
fault_found line rest s text e =
    let p = bind_some (number_of rest) _ s e in
    let q = bind_some (fault_numbered p.0) _ s p.2 in
    let same : p.0 ≡ replies.number_of q.0 = fault_is p.0 q.0 q.1 in
    let printed : rest ≡ decimal p.0 = number_is rest p.0 p.1 (omega (arith, same, small_number q.0)) in
    subst (λ (x : Say). Says x line) (same_Some (say.Err q.0) s q.2) (tt, text ∙ ap (λ (x : List ℕ). codes "ERR " ++ x) (printed ∙ ap decimal same))

one_text : (line t : List ℕ) (f g : Say) (rest : Option Say) → IsReply f → t ≡ words_of f → (rest ≡ Some g → Says g line) → cond (bytes_eq line t) (Some f) rest ≡ Some g → Says g line
one_text line t f g rest fits named others e =
    elim (cases_cond_is (bytes_eq line t) (Some f) rest (Some g) e) [
      | inl h ↦ subst (λ (x : Say). Says x line) (same_Some f g h.1) (fits, (bytes_eq-Decides line t).0 h.0 ∙ named)
      | inr h ↦ others h.1
    ]

plain_found : (line : List ℕ) (s : Say) → plain_read line ≡ Some s → Says s line
unfolding plain_read
plain_found line s =
    one_text line (codes "YES") (say.Store reply.Yes) s _ tt refl
    (one_text line (codes "BUSY") (say.Store reply.Busy) s _ tt refl
    (one_text line (codes "FAULT") (say.Store reply.Fault) s _ tt refl
    (one_text line (codes "WORN") (say.Store reply.Worn) s _ tt refl
    (one_text line (codes "BYE") say.Bye s None tt refl (λ e. absurd (none-some s e))))))

either_read : (o other : Option Say) (s : Say) → or_else o other ≡ Some s → (o ≡ Some s) ⊎ (other ≡ Some s)
either_read (Some x) other s e = inl e
either_read None other s e = inr e

read_behind_is : (o : Option (List ℕ)) (read : List ℕ → Option Say) (other : Option Say) (s : Say) → read_behind o read other ≡ Some s → ((rest : List ℕ) × (o ≡ Some rest) × (read rest ≡ Some s)) ⊎ (other ≡ Some s)
read_behind_is (Some rest) read other s e = inl (rest, refl, e)
read_behind_is None read other s e = inr e

pub reading_found : (line : List ℕ) (s : Say) → reading line ≡ Some s → Says s line
unfolding reading bound_read
reading_found line s e =
    elim (either_read (plain_read line) _ s e) [
      | inl h ↦ plain_found line s h
      | inr e1 ↦
          elim (read_behind_is (behind (codes "VAL ") line) value_read _ s e1) [
            | inl h ↦ value_found line h.0 s (behind_found (codes "VAL ") line h.0 h.1) h.2
            | inr e2 ↦
                elim (read_behind_is (behind (codes "NO ") line) miss_read _ s e2) [
                  | inl h ↦ miss_found line h.0 s (behind_found (codes "NO ") line h.0 h.1) h.2
                  | inr e3 ↦
                      elim (read_behind_is (behind (codes "OK ") line) bound_read _ s e3) [
                        | inl h ↦ bound_found (number_of h.0) line h.0 s refl (behind_found (codes "OK ") line h.0 h.1) h.2
                        | inr e4 ↦
                            elim (read_behind_is (behind (codes "ERR ") line) fault_read None s e4) [
                              | inl h ↦ fault_found line h.0 s (behind_found (codes "ERR ") line h.0 h.1) h.2
                              | inr none ↦ absurd (none-some s none)
                            ]
                      ]
                ]
          ]
    ]

-- ---- the text of a reply is read

fault_again : (f : ErrCode) → fault_numbered (replies.number_of f) ≡ Some f
unfolding fault_numbered
fault_again fault.LineTooLong = refl
fault_again fault.NotACommand = refl
fault_again fault.NotBound = refl
fault_again fault.AlreadyBound = refl
fault_again fault.NoSuchTenant = refl
fault_again fault.AddressRange = refl
fault_again fault.AddressOrder = refl
fault_again fault.TooManyEntries = refl
fault_again fault.ValueRange = refl
fault_again fault.WrongSession = refl

value_again : (v : ℕ) → v ≤ MAX_VALUE → value_read (decimal v) ≡ Some (say.Store (reply.Val v))
unfolding value_read
value_again v small = rw (number_again v small, le-leb v MAX_VALUE small) refl

bound_again : (n : ℕ) → 1 ≤ n → n ≤ MAX_WORDS → bound_read (decimal n) ≡ Some (say.Ok n)
unfolding bound_read
bound_again n low high = rw (number_again n (omega arith), le-leb 1 n low, le-leb n MAX_WORDS high) refl

error_again : (f : ErrCode) → fault_read (decimal (replies.number_of f)) ≡ Some (say.Err f)
unfolding fault_read
error_again f = rw (number_again (replies.number_of f) (omega (arith, small_number f)), fault_again f) refl

miss_again : (a v : ℕ) → a < MAX_WORDS → v ≤ MAX_VALUE → miss_read ((decimal a ++ codes " ") ++ decimal v) ≡ Some (say.Store (reply.No a v))
unfolding miss_read
miss_again a v low small =
    let whole : ((decimal a ++ codes " ") ++ decimal v) ≡ numeral a ++ (32 ∷ decimal v) = append_assoc (decimal a) (codes " ") (decimal v) ∙ ap (λ (x : List ℕ). x ++ (32 ∷ decimal v)) (sym (as_printed a (omega arith))) in
    let kept : narrow.addr a ≡ a = omega arith in
    ap miss_read whole ∙ rw (numerals.number_again narrow.addr a (32 ∷ decimal v) (inr refl), number_again v small, kept, lt-ltb a MAX_WORDS low, le-leb v MAX_VALUE small) refl

again : (s : Say) → IsReply s → reading (words_of s) ≡ Some s
unfolding reading plain_read bound_read number_of number_at
again (say.Ok words) h = bound_again words h.0 h.1
again (say.Store (reply.Val value)) h = value_again value h
again (say.Store (reply.No addr value)) h = miss_again addr value h.0 h.1
again (say.Store reply.Yes) h = refl
again (say.Store reply.Busy) h = refl
again (say.Store reply.Fault) h = refl
again (say.Store reply.Worn) h = refl
again say.OkAdmin h = refl
again say.Bye h = refl
again (say.Err wrong) h = error_again wrong

pub reading_again : (s : Say) (line : List ℕ) → Says s line → reading line ≡ Some s
reading_again s line h = ap reading h.1 ∙ again s h.0

-- what the reader gives is a reply whose text is the line
pub is_found : (line : List ℕ) (r : Option Say) → r ≡ reading line → (s : Say) → r ≡ Some s → Says s line
is_found line r e s h = reading_found line s (sym e ∙ h)
