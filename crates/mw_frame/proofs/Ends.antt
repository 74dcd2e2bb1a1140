-- A feed may search for the next line feed from where its last search ended, and what it finds tells the first line.
-- Used by: Feed::feed, Feed::next, src/lines.rt.
use Rattle.std.proofs.Common.{◌≡◌, ℕ, zero, suc, ◌+◌, ◌-◌, ◌<◌, ◌≤◌, ◌++◌, Bool, true, false, List, [], ◌∷◌, length, drop, take, Option, Some, None, slice_get, refl, sym, ap, ◌∙◌, arith}
use Rattle.std.proofs.lemmas.List.{length-take-le, take_rest}
use Rattle.std.proofs.lemmas.List.Folds.{prefix_len-append}
use Rattle.std.proofs.lemmas.List.Sums.{prefix_len-le-length}
use Rattle.std.specs.List.{prefix_len}
use Rattle.std.specs.Option.{option_to_list}
use Rattle.mw_words.specs.declared.limits.TheConstants.{MAX_LINE}
use Rattle.mw_frame.specs.declared.lines.Line.{Line}
use Rattle.mw_frame.specs.declared.lines.Line.TheVariants.{TooLong}
use Rattle.mw_frame.specs.Lines.{is_text_byte, lines, text_line}
use Rattle.mw_frame.specs.FeedBytes.{stream_of, text_len}
use Rattle.mw_frame.specs.Stream.{Stream, Open, IsPart, behind, fed, lines_of}
use Rattle.mw_frame.proofs.CutTexts.{is_part}
use Rattle.mw_frame.proofs.GivenLines.{answers_text, answers_too_long, answers_none, first_and_behind}

-- those at the front that are known to pass, and then those after them
prefix_len_from : (p : ℕ → Bool) (xs : List ℕ) (n : ℕ) → n ≤ prefix_len p xs → n + prefix_len p (drop n xs) ≡ prefix_len p xs
prefix_len_from p xs zero h = omega arith
prefix_len_from p [] (suc n) h = absurd (omega arith)
prefix_len_from p (x ∷ xs) (suc n) h = one_passed p x xs n (p x) refl h (λ k. prefix_len_from p xs n k)
  where
    one_passed : (p : ℕ → Bool) (x : ℕ) (xs : List ℕ) (n : ℕ) (t : Bool) → p x ≡ t → suc n ≤ prefix_len p (x ∷ xs) → (n ≤ prefix_len p xs → n + prefix_len p (drop n xs) ≡ prefix_len p xs)
        → suc n + prefix_len p (drop n xs) ≡ prefix_len p (x ∷ xs)
    one_passed p x xs n true is h rest = rw is (let k : suc n ≤ 1 + prefix_len p xs = rw is at h in let e = rest (omega arith) in omega arith)
    one_passed p x xs n false is h rest = let k : suc n ≤ 0 = rw is at h in absurd (omega arith)

-- the bytes after those that were searched, as a slice, have the rest of the text
pub text_len_from : (bytes : List ℕ) (searched : ℕ) → searched ≤ text_len bytes → searched + text_len (take (length bytes - searched) (drop searched bytes)) ≡ text_len bytes
unfolding text_len
text_len_from bytes searched h = rw (take_rest bytes searched) (prefix_len_from is_text_byte bytes searched h)

pub text_len-le-length : (bytes : List ℕ) → text_len bytes ≤ length bytes
unfolding text_len
text_len-le-length bytes = prefix_len-le-length is_text_byte bytes

pub first_text : (bytes : List ℕ) → text_len bytes < length bytes → text_len bytes ≤ MAX_LINE → slice_get (lines bytes) 0 ≡ Some (text_line (take (text_len bytes) bytes))
first_text bytes h fits = (answers_text bytes h fits).first

pub ruleset ends = (text_len_from, text_len-le-length)

pub searched_more : (bytes piece : List ℕ) → text_len bytes ≤ text_len (bytes ++ piece)
unfolding text_len
searched_more bytes piece = grind (arith, prefix_len-append is_text_byte bytes piece, prefix_len-le-length is_text_byte bytes)

-- ---- the first line of a feed that goes on, whose bytes are these

pub open_so : (old : Stream) (ended : Bool) (bytes seen : List ℕ) → stream_of ended bytes ≡ old → ended ≡ false → seen ≡ bytes → Open seen ≡ old
open_so old ended bytes seen is goes same = ap Open same ∙ ap (λ e. stream_of e bytes) (sym goes) ∙ is

module _ (old : Stream) (bytes : List ℕ) (is : Open bytes ≡ old) where
  pub open_too_long : MAX_LINE < text_len bytes → Some TooLong ≡ slice_get (lines_of old) 0
  open_too_long long = rw (← is) (sym (answers_too_long bytes long).first)

  pub open_none : text_len bytes ≡ length bytes → text_len bytes ≤ MAX_LINE → None ≡ slice_get (lines_of old) 0
  open_none end fits = rw (← is) (sym (answers_none bytes end fits).first)

  pub open_part : text_len bytes ≡ length bytes → text_len bytes ≤ MAX_LINE → IsPart old
  open_part end fits = rw (← is) (is_part bytes end fits)

  -- a line too long was the first line, and nothing follows
  pub open_ends : MAX_LINE < text_len bytes → (more : List ℕ) → lines_of (fed old more) ≡ TooLong ∷ []
  open_ends long more = first_and_behind old (Some TooLong) more (open_too_long long)

  -- a text was the first line, and the stream goes on after it
  pub open_goes_on : (end : ℕ) (line : Option Line) → end < length bytes → line ≡ Some (text_line (take end bytes)) → line ≡ slice_get (lines bytes) 0
      → (more : List ℕ) → lines_of (fed old more) ≡ option_to_list line ++ lines_of (fed (Open (drop (end + 1) bytes)) more)
  open_goes_on end line within text first more =
      let left : behind line (Open bytes) ≡ Open (drop (end + 1) bytes) =
      ap (λ l. behind l (Open bytes)) text ∙ ap (λ n. Open (drop (n + 1) bytes)) (length-take-le end bytes (omega arith)) in
      rw (← is) (first_and_behind (Open bytes) line more first ∙ ap (λ s. option_to_list line ++ lines_of (fed s more)) left)
