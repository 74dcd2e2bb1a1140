-- The lines of a dump, read one after the other, make the dump. Used by: after_entry, after_entries, read_words, read_dump.
use Rattle.std.proofs.Common.{◌≡◌, ℕ, ◌+◌, ◌==◌, Bool, true, List, [], ◌∷◌, ◌++◌, length, Bor, Option, None, Some, MatchOption, ◌≢◌, refl, sym, ap, ◌∙◌, subst, arith, append_assoc, append-nil, eqb-true, codes, decimal}
use Rattle.std.specs.Prelude.{IfSome}
use Rattle.std.specs.List.{flat_map}
use Rattle.std.proofs.lemmas.List.{nil_from_length}
use Rattle.std.proofs.lemmas.Grind.{flat_map-append}
use Rattle.mwinit.specs.Dump.{HasEntries, IsDump, layout_line, number_line, open_line, word_line, words_text}

-- ---- entries of open records

pub no_entries : (text : List ℕ) → HasEntries text text
no_entries text = record { entries = []; is_text = refl }

pub one_entry_more : (text rest next : List ℕ) (entry : ℕ × ℕ × ℕ) → HasEntries text rest → rest ≡ open_line entry ++ next → HasEntries text next
one_entry_more text rest next entry so is =
    record {
      entries = so.entries ++ entry ∷ [];
      is_text =
          so.is_text
          ∙ ap (λ t. flat_map open_line so.entries ++ t) is
          ∙ sym (append_assoc (flat_map open_line so.entries) (open_line entry) next)
          ∙ ap (λ t. (flat_map open_line so.entries ++ t) ++ next) (sym (append-nil (open_line entry)))
          ∙ ap (λ t. t ++ next) (sym (flat_map-append open_line so.entries (entry ∷ [])));
    }

-- the line of an entry, as it is printed
pub entry_printed : (place addr value : ℕ) (bytes : List ℕ) → bytes ≡ codes "open " ++ (decimal place ++ (codes " " ++ (decimal addr ++ (codes " " ++ (decimal value ++ codes "\n")))))
    → bytes ≡ open_line (place, addr, value)
entry_printed place addr value bytes is =
    let o : List ℕ = codes "open " in
    let s : List ℕ = codes " " in
    let n : List ℕ = codes "\n" in
    let p : List ℕ = decimal place in
    let a : List ℕ = decimal addr in
    let v : List ℕ = decimal value in
    is
    ∙ sym (append_assoc o p (s ++ (a ++ (s ++ (v ++ n)))))
    ∙ sym (append_assoc (o ++ p) s (a ++ (s ++ (v ++ n))))
    ∙ sym (append_assoc (o ++ p ++ s) a (s ++ (v ++ n)))
    ∙ sym (append_assoc (o ++ p ++ s ++ a) s (v ++ n))
    ∙ sym (append_assoc (o ++ p ++ s ++ a ++ s) v n)

-- the line of an entry was found in front
pub entry_found : (r : Option (Bor (List ℕ))) (text line : List ℕ) (entry : ℕ × ℕ × ℕ) → line ≡ open_line entry
    → MatchOption r ((rest : List ℕ) → text ≢ line ++ rest) (λ x. text ≡ line ++ x.now) → IfSome r (λ x. (entry : ℕ × ℕ × ℕ) × (text ≡ open_line entry ++ x.now))
entry_found None text line entry is found = tt
entry_found (Some x) text line entry is found = (entry, found ∙ ap (λ l. l ++ x.now) is)

pub entries_and_next : (text rest : List ℕ) (r : Option (Bor (List ℕ))) (next : Bor (List ℕ)) → HasEntries text rest
    → IfSome r (λ x. (entry : ℕ × ℕ × ℕ) × (rest ≡ open_line entry ++ x.now)) → r ≡ Some next → HasEntries text next.now
entries_and_next text rest r next so found is =
    let it = subst (λ o. IfSome o (λ x. (entry : ℕ × ℕ × ℕ) × (rest ≡ open_line entry ++ x.now))) is found in
    one_entry_more text rest next.now it.0 so it.1

-- ---- words

words_and_one : (addr : ℕ) (words : List ℕ) (value : ℕ) → words_text addr (words ++ value ∷ []) ≡ words_text addr words ++ word_line (addr + length words) value
words_and_one addr [] value =
    let at : addr ≡ addr + 0 = omega arith in
    append-nil (word_line addr value) ∙ ap (λ n. word_line n value) at
words_and_one addr (word ∷ words) value =
    let at : (addr + 1) + length words ≡ addr + length (word ∷ words) = omega arith in
    ap (λ t. word_line addr word ++ t) (words_and_one (addr + 1) words value ∙ ap (λ n. words_text (addr + 1) words ++ word_line n value) at)
    ∙ sym (append_assoc (word_line addr word) (words_text (addr + 1) words) (word_line (addr + length (word ∷ words)) value))

pub one_word_more : (text rest next words : List ℕ) (value : ℕ) → text ≡ words_text 0 words ++ rest → rest ≡ word_line (length words) value ++ next
    → text ≡ words_text 0 (words ++ value ∷ []) ++ next
one_word_more text rest next words value so is =
    let at : 0 + length words ≡ length words = omega arith in
    so
    ∙ ap (λ t. words_text 0 words ++ t) is
    ∙ sym (append_assoc (words_text 0 words) (word_line (length words) value) next)
    ∙ ap (λ t. t ++ next) (sym (words_and_one 0 words value ∙ ap (λ n. words_text 0 words ++ word_line n value) at))

-- nothing is left of the text
pub all_read : (text rest words : List ℕ) (is_empty : Bool) → text ≡ words_text 0 words ++ rest → is_empty ≡ (length rest == 0) → is_empty ≡ true → text ≡ words_text 0 words
all_read text rest words is_empty so is e =
    let none : rest ≡ [] = nil_from_length rest (eqb-true (length rest) 0 (sym is ∙ e)) in
    so ∙ ap (λ t. words_text 0 words ++ t) none ∙ append-nil (words_text 0 words)

-- ---- the whole

pub whole : (text sizes behind lines rest words : List ℕ) (has_second : Bool) (number places at : ℕ)
    → text ≡ layout_line has_second at ++ sizes → sizes ≡ number_line (codes "words ") number ++ behind → behind ≡ number_line (codes "places ") places ++ lines
    → HasEntries lines rest → rest ≡ words_text 0 words → length words ≡ number → IsDump text has_second places words
whole text sizes behind lines rest words has_second number places at a b c d e f =
    record {
      at = at;
      entries = d.entries;
      is_text =
          a
          ∙ ap (λ t. layout_line has_second at ++ t) (
          b
          ∙ ap (λ n. number_line (codes "words ") n ++ behind) (sym f)
          ∙ ap (λ t. number_line (codes "words ") (length words) ++ t) (
          c ∙ ap (λ t. number_line (codes "places ") places ++ t) (d.is_text ∙ ap (λ t. flat_map open_line d.entries ++ t) e)
          )
          );
    }
