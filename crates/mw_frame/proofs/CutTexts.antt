-- The lines of some bytes are the texts between their line feeds. The first text that is too long ends them.
-- Used by: texts_are_lines, lines_stay.
use Rattle.std.specs.Prelude.{ℕ, ◌≡◌, ◌+◌, ◌<◌, ◌≤◌, ◌++◌, List, [], ◌∷◌, length, take, drop, map, flat_map}
use Rattle.std.specs.List.{AllByRecursion, list_all, prefix_len}
use Rattle.std.proofs.Common.{Bool, true, false, eqb, ltb, get_or, refl, sym, ap, subst, ◌∙◌, inl, inr, arith, append_assoc, append-nil, length-append, one-add}
use Rattle.std.proofs.lemmas.Bool.{and_from, and_parts, not-true, not-false, eqb-true, lt-ltb, le-ltb, cases_lt}
use Rattle.std.proofs.lemmas.List.{drop_more, take-append-drop, length-take-le, take_all}
use Rattle.std.proofs.lemmas.List.Sums.{prefix_len-le-length, prefix_len_stops}
use Rattle.std.proofs.lemmas.List.Folds.{list_all-append}
use Rattle.std.proofs.lemmas.List.Elements.{recursion_from_All, All-nil, All-cons}
use Rattle.mw_words.specs.declared.limits.TheConstants.{MAX_LINE}
use Rattle.mw_frame.specs.declared.lines.Line.{Line}
use Rattle.mw_frame.specs.declared.lines.Line.TheVariants.{TooLong}
use Rattle.mw_frame.specs.Lines.{IsText, is_text_byte, line_feed, lines, lines_behind, text_line}
use Rattle.mw_frame.specs.FeedBytes.{text_len}
use Rattle.mw_frame.specs.Texts.{with_line_feed, IsCut, EachIsCut, TextsAreLines, TooLongIsLast, LinesStay}

-- ---- one line

text_byte_or_end : (b : ℕ) → is_text_byte b ≡ false → b ≡ line_feed
text_byte_or_end b is = eqb-true b line_feed (not-false _ is)

byte_behind : (text : List ℕ) (b : ℕ) (bytes : List ℕ) → is_text_byte b ≡ true → length text < MAX_LINE → lines_behind text (b ∷ bytes) ≡ lines_behind (text ++ b ∷ []) bytes
byte_behind text b bytes is room =
    let other : eqb b line_feed ≡ false = not-true _ is in
    rw (other, lt-ltb (length text) MAX_LINE room) refl

byte_too_many : (text : List ℕ) (b : ℕ) (bytes : List ℕ) → is_text_byte b ≡ true → MAX_LINE ≤ length text → lines_behind text (b ∷ bytes) ≡ TooLong ∷ []
byte_too_many text b bytes is full =
    let other : eqb b line_feed ≡ false = not-true _ is in
    rw (other, le-ltb (length text) MAX_LINE full) refl

one_more : (text : List ℕ) (b : ℕ) → length (text ++ b ∷ []) ≡ length text + 1
one_more text b = length-append text (b ∷ [])

-- bytes of a text join the text before them
text_joins : (text front rest : List ℕ) → list_all is_text_byte front ≡ true → length text + length front ≤ MAX_LINE → lines_behind text (front ++ rest) ≡ lines_behind (text ++ front) rest
text_joins text [] rest is fits = ap (λ t. lines_behind t rest) (sym (append-nil text))
text_joins text (b ∷ front) rest is fits =
    let parts = and_parts (is_text_byte b) (list_all is_text_byte front) is in
    byte_behind text b (front ++ rest) parts.0 (omega arith)
    ∙ text_joins (text ++ b ∷ []) front rest parts.1 (omega (arith, one_more text b))
    ∙ ap (λ t. lines_behind t rest) (append_assoc text (b ∷ []) front)

-- a text and its line feed are a line
pub text_ends : (text rest : List ℕ) → IsText text → lines (text ++ line_feed ∷ rest) ≡ text_line text ∷ lines rest
unfolding lines
text_ends text rest is = text_joins [] text (line_feed ∷ rest) is.no_line_feed (let h = is.fits in omega arith)

-- a part of a text is no line
pub part_waits : (part : List ℕ) → IsText part → lines part ≡ []
unfolding lines
part_waits part is = ap lines (sym (append-nil part)) ∙ text_joins [] part [] is.no_line_feed (let h = is.fits in omega arith)

too_long_behind : (text long more : List ℕ) → list_all is_text_byte long ≡ true → length text ≤ MAX_LINE → MAX_LINE < length text + length long → lines_behind text (long ++ more) ≡ TooLong ∷ []
too_long_behind text [] more is fits long = absurd (omega arith)
too_long_behind text (b ∷ front) more is fits long =
    let parts = and_parts (is_text_byte b) (list_all is_text_byte front) is in
    elim (cases_lt (length text) MAX_LINE) [
      | inl room ↦ byte_behind text b (front ++ more) parts.0 room ∙ too_long_behind (text ++ b ∷ []) front more parts.1 (omega (arith, one_more text b)) (omega (arith, one_more text b))
      | inr full ↦ byte_too_many text b (front ++ more) parts.0 full
    ]

-- more bytes of a text than a line may have are a line too long
pub too_long : (long more : List ℕ) → list_all is_text_byte long ≡ true → MAX_LINE < length long → lines (long ++ more) ≡ TooLong ∷ []
unfolding lines
too_long long more is h = too_long_behind [] long more is (omega arith) (omega arith)

-- ---- all lines

each_is_line : (texts : List (List ℕ)) (rest : List ℕ) → AllByRecursion IsText texts → lines (flat_map with_line_feed texts ++ rest) ≡ map text_line texts ++ lines rest
unfolding lines
each_is_line [] rest each = refl
each_is_line (text ∷ texts) rest each =
    ap lines (append_assoc (with_line_feed text) (flat_map with_line_feed texts) rest ∙ append_assoc text (line_feed ∷ []) (flat_map with_line_feed texts ++ rest))
    ∙ text_ends text (flat_map with_line_feed texts ++ rest) each.0
    ∙ ap (λ ls. text_line text ∷ ls) (each_is_line texts rest each.1)

pub texts-are-lines : TextsAreLines
texts-are-lines texts part each is =
    each_is_line texts part (recursion_from_All IsText texts each)
    ∙ ap (λ ls. map text_line texts ++ ls) (part_waits part is)
    ∙ append-nil (map text_line texts)

pub too-long-is-last : TooLongIsLast
too-long-is-last texts rest each begins =
    each_is_line texts rest (recursion_from_All IsText texts each)
    ∙ ap (λ ls. map text_line texts ++ ls) (ap lines begins.whole ∙ too_long begins.long begins.more begins.no_line_feed begins.long_enough)

-- bytes that come after a text whose line feed hasn't come, cut
cut_behind : (text bytes : List ℕ) → IsText text → (texts : List (List ℕ)) × (rest : List ℕ) × IsCut (text ++ bytes) texts rest
cut_behind text [] is = ([], text, record { whole = append-nil text; each = All-nil IsText; ends = inl is })
cut_behind text (b ∷ bytes) is = cut_at text b bytes is (is_text_byte b) refl (cut_behind [] bytes no_text) (λ more. cut_behind (text ++ b ∷ []) bytes more)
  where
    no_text : IsText []
    no_text = record { no_line_feed = refl; fits = omega arith }

    Cuts : List ℕ → Type 0
    Cuts bytes = (texts : List (List ℕ)) × (rest : List ℕ) × IsCut bytes texts rest

    longer : (text : List ℕ) (b : ℕ) → IsText text → is_text_byte b ≡ true → list_all is_text_byte (text ++ b ∷ []) ≡ true
    longer text b is byte = list_all-append is_text_byte text (b ∷ []) ∙ and_from _ _ is.no_line_feed (and_from _ true byte refl)

    cut_at : (text : List ℕ) (b : ℕ) (bytes : List ℕ) → IsText text → (t : Bool) → is_text_byte b ≡ t → Cuts bytes → (IsText (text ++ b ∷ []) → Cuts ((text ++ b ∷ []) ++ bytes)) → Cuts (text ++ b ∷ bytes)
    cut_at text b bytes is false end new same =
        let joined = append_assoc (with_line_feed text) (flat_map with_line_feed new.0) new.1 ∙ append_assoc text (line_feed ∷ []) (flat_map with_line_feed new.0 ++ new.1) in (
          text ∷ new.0,
          new.1,
          record {
            whole = ap (λ x. text ++ x ∷ bytes) (text_byte_or_end b end) ∙ ap (λ xs. text ++ line_feed ∷ xs) new.2.whole ∙ sym joined;
            each = All-cons IsText text new.0 is new.2.each;
            ends = new.2.ends;
          },
        )
    cut_at text b bytes is true byte new same =
        elim (cases_lt (length text) MAX_LINE) [
          | inl room ↦ subst Cuts (append_assoc text (b ∷ []) bytes) (same (record { no_line_feed = longer text b is byte; fits = omega (arith, one_more text b) }))
          | inr full ↦ (
            [],
            text ++ b ∷ bytes,
            record {
              whole = refl;
              each = All-nil IsText;
              ends = inr (record { long = text ++ b ∷ []; more = bytes; whole = sym (append_assoc text (b ∷ []) bytes); no_line_feed = longer text b is byte; long_enough = omega (arith, one_more text b) });
            },
          )
        ]

pub each-is-cut : EachIsCut
each-is-cut bytes = cut_behind [] bytes (record { no_line_feed = refl; fits = omega arith })

stay_behind : (text bytes more : List ℕ) → (later : List Line) × (lines_behind text (bytes ++ more) ≡ lines_behind text bytes ++ later)
stay_behind text [] more = (lines_behind text more, refl)
stay_behind text (b ∷ bytes) more =
    stay_at text b bytes more (eqb b line_feed) refl (ltb (length text) MAX_LINE) refl (stay_behind [] bytes more) (stay_behind (text ++ b ∷ []) bytes more)
  where
    stay_at : (text : List ℕ) (b : ℕ) (bytes more : List ℕ) (end : Bool) → eqb b line_feed ≡ end → (room : Bool) → ltb (length text) MAX_LINE ≡ room
        → (later : List Line) × (lines_behind [] (bytes ++ more) ≡ lines_behind [] bytes ++ later)
        → (later : List Line) × (lines_behind (text ++ b ∷ []) (bytes ++ more) ≡ lines_behind (text ++ b ∷ []) bytes ++ later)
        → (later : List Line) × (lines_behind text (b ∷ (bytes ++ more)) ≡ lines_behind text (b ∷ bytes) ++ later)
    stay_at text b bytes more true e room f new same = (new.0, rw e (ap (λ ls. text_line text ∷ ls) new.1))
    stay_at text b bytes more false e true f new same = (same.0, rw (e, f) same.1)
    stay_at text b bytes more false e false f new same = ([], rw (e, f) refl)

pub lines-stay : LinesStay
unfolding lines
lines-stay bytes more = stay_behind [] bytes more

-- ---- the first line

pass_in_front : (p : ℕ → Bool) (xs : List ℕ) → list_all p (take (prefix_len p xs) xs) ≡ true
pass_in_front p [] = refl
pass_in_front p (x ∷ xs) = first_passes p x xs (p x) refl (pass_in_front p xs)
  where
    first_passes : (p : ℕ → Bool) (x : ℕ) (xs : List ℕ) (t : Bool) → p x ≡ t → list_all p (take (prefix_len p xs) xs) ≡ true → list_all p (take (prefix_len p (x ∷ xs)) (x ∷ xs)) ≡ true
    first_passes p x xs true is rest = rw (is, one-add, is) rest
    first_passes p x xs false is rest = rw is refl

text_in_front : (bytes : List ℕ) → list_all is_text_byte (take (text_len bytes) bytes) ≡ true
unfolding text_len
text_in_front bytes = pass_in_front is_text_byte bytes

-- the bytes before the first line feed, the line feed, and the bytes after it
split_at_end : (bytes : List ℕ) → text_len bytes < length bytes → bytes ≡ take (text_len bytes) bytes ++ line_feed ∷ drop (text_len bytes + 1) bytes
unfolding text_len
split_at_end bytes h =
    let end = text_byte_or_end (get_or bytes (text_len bytes) 0) (prefix_len_stops is_text_byte bytes 0 h) in
    sym (take-append-drop (text_len bytes) bytes)
    ∙ ap (λ rest. take (text_len bytes) bytes ++ rest) (drop_more bytes (text_len bytes) 0 h ∙ ap (λ b. b ∷ drop (text_len bytes + 1) bytes) end)

-- a line feed comes after few enough bytes
pub first_is_text : (bytes more : List ℕ) → text_len bytes < length bytes → text_len bytes ≤ MAX_LINE
    → lines (bytes ++ more) ≡ text_line (take (text_len bytes) bytes) ∷ lines (drop (text_len bytes + 1) bytes ++ more)
unfolding text_len
first_is_text bytes more h fits =
    let text = take (text_len bytes) bytes in
    let rest = drop (text_len bytes + 1) bytes in
    let is : IsText text = record { no_line_feed = text_in_front bytes; fits = omega (arith, length-take-le (text_len bytes) bytes) } in
    ap (λ bs. lines (bs ++ more)) (split_at_end bytes h)
    ∙ ap lines (append_assoc text (line_feed ∷ rest) more)
    ∙ text_ends text (rest ++ more) is

-- too many bytes come before any line feed
pub first_is_too_long : (bytes more : List ℕ) → MAX_LINE < text_len bytes → lines (bytes ++ more) ≡ TooLong ∷ []
unfolding text_len
first_is_too_long bytes more h =
    let long = take (text_len bytes) bytes in
    let rest = drop (text_len bytes) bytes in
    let most = prefix_len-le-length is_text_byte bytes in
    ap (λ bs. lines (bs ++ more)) (sym (take-append-drop (text_len bytes) bytes))
    ∙ ap lines (append_assoc long rest more)
    ∙ too_long long (rest ++ more) (text_in_front bytes) (omega (arith, length-take-le (text_len bytes) bytes most))

-- there are few enough bytes, and no line feed
pub is_part : (bytes : List ℕ) → text_len bytes ≡ length bytes → text_len bytes ≤ MAX_LINE → IsText bytes
is_part bytes h fits = record {
  no_line_feed = ap (list_all is_text_byte) (sym (take_all (text_len bytes) bytes (omega arith))) ∙ text_in_front bytes;
  fits = omega arith;
}
