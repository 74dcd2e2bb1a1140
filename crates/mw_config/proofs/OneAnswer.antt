-- A tenants file has only one answer: its lines, or one first refusal. Used by: one_answer.
use Rattle.std.proofs.Common.{◌≡◌, ◌≢◌, ℕ, suc, ◌+◌, ◌<◌, ◌≤◌, leb, le-leb, ltb, lt-ltb, le-ltb, Bool, true, false, not, cond, List, [], ◌∷◌, ◌++◌, length, Option, Some, None, refl, sym, ap, ap₂, subst, ◌∙◌, inl, inr, ◌⊎◌, arith, append_assoc, append-nil, ◌&&◌}
use Rattle.std.specs.Prelude.{flat_map, All, bytes_eq, Result, Ok, Err}
use Rattle.std.specs.List.{list_all, AllPairs, slice_index_or}
use Rattle.std.proofs.lemmas.Bool.{cases_lt, lt-leb}
use Rattle.std.proofs.lemmas.Option.{none-some, some_pair_parts}
use Rattle.std.proofs.lemmas.List.{length-map, length-append, get_or-map, get_or_append_left}
use Rattle.std.proofs.Math.Seq.{get_or-append_seam}
use Rattle.std.proofs.lemmas.List.Folds.{list_all_at}
use Rattle.std.proofs.lemmas.List.Sums.{list_all-from_AllPass}
use Rattle.std.proofs.lemmas.Slice.Eq.{bytes_eq-Decides}
use Rattle.mw_words.specs.declared.limits.TheConstants.{MAX_QUOTA}
use Rattle.mw_config.specs.declared.refusals.Refusal.{Refusal}
use Rattle.mw_config.specs.declared.refusals.Refusal.TheVariants as refusal
use Rattle.mw_config.specs.LineTexts.{Line, IsLine, HasNoLine, spelling}
use Rattle.mw_config.specs.Limits.{HasWords, HasQuota, Differ, IsNew, IsTwice, AreFine, differ, quota_sum}
use Rattle.mw_config.specs.Refusals.{Answers, HasLineRefused, IsAtLine, IsOutside, IsRefused}
use Rattle.mw_config.specs.LineReader.{line_at, is_within}
use Rattle.mw_config.proofs.LineTextLaws.{line_again, line_found}

-- ---- a text begins with at most one line

-- a number as it is
abbrev as_it_is : ℕ → ℕ
as_it_is n = n

same_front : (l m : Line) (a b : List ℕ) → IsLine l → IsLine m → spelling l ++ a ≡ spelling m ++ b → (l ≡ m) × (a ≡ b)
same_front l m a b fl fm e =
    some_pair_parts l m a b (sym (line_again as_it_is l a fl) ∙ ap (line_at as_it_is) e ∙ line_again as_it_is m b fm)

not_empty : (l : Line) (a : List ℕ) → IsLine l → [] ≡ spelling l ++ a → ⊥
unfolding line_at
not_empty l a formed e = none-some (l, a) (ap (line_at as_it_is) e ∙ line_again as_it_is l a formed)

read_again : (l : Line) (text after : List ℕ) → IsLine l → text ≡ spelling l ++ after → line_at as_it_is text ≡ Some (l, after)
read_again l text after formed e = ap (line_at as_it_is) e ∙ line_again as_it_is l after formed

none_read_of : (text : List ℕ) (read : Option (Line × List ℕ)) → line_at as_it_is text ≡ read → HasNoLine text → read ≡ None
none_read_of text None e none = refl
none_read_of text (Some r) e none =
    let f = line_found as_it_is text r.0 r.1 e in
    absurd (none f.line r.1 f.formed f.text)

none_read : (text : List ℕ) → HasNoLine text → line_at as_it_is text ≡ None
none_read text none = none_read_of text (line_at as_it_is text) refl none

-- ---- two lists of lines that begin a text: one of them goes on after the other ends

pub record GoesOn (lines longer : List Line) (rest : List ℕ) : Type 0 where
  pub line : Line
  pub more : List Line
  pub after : List ℕ
  pub formed : IsLine line
  pub is : longer ≡ lines ++ (line ∷ more)
  pub spelled : rest ≡ spelling line ++ after

-- the second list goes on, or the first does, or they are the same
abbrev Fork : List Line → List Line → List ℕ → List ℕ → Type 0
Fork ls ms r s = ((ls ≡ ms) × (r ≡ s)) ⊎ (GoesOn ls ms r ⊎ GoesOn ms ls s)

front_of : (l : Line) (ls : List Line) → All IsLine (l ∷ ls) → IsLine l
front_of l ls h = h 0 l (omega arith)

others_of : (l : Line) (ls : List Line) → All IsLine (l ∷ ls) → All IsLine ls
others_of l ls h = λ k d low. h (suc k) d (omega arith)

goes_on_more : (l m : Line) (ls ms : List Line) (r : List ℕ) → l ≡ m → GoesOn ls ms r → GoesOn (l ∷ ls) (m ∷ ms) r
goes_on_more l m ls ms r e g = record {
  line = g.line;
  more = g.more;
  after = g.after;
  formed = g.formed;
  spelled = g.spelled;
  is = ap₂ (λ (x : Line) (xs : List Line). x ∷ xs) (sym e) g.is;
}

fork_more : (l m : Line) (ls ms : List Line) (r s : List ℕ) → l ≡ m → Fork ls ms r s → Fork (l ∷ ls) (m ∷ ms) r s
fork_more l m ls ms r s e (inl same) = inl (ap₂ (λ (x : Line) (xs : List Line). x ∷ xs) e same.0, same.1)
fork_more l m ls ms r s e (inr (inl g)) = inr (inl (goes_on_more l m ls ms r e g))
fork_more l m ls ms r s e (inr (inr g)) = inr (inr (goes_on_more m l ms ls s (sym e) g))

fork : (ls ms : List Line) (r s : List ℕ) → All IsLine ls → All IsLine ms → flat_map spelling ls ++ r ≡ flat_map spelling ms ++ s → Fork ls ms r s
fork [] [] r s fl fm e = inl (refl, e)
fork [] (m ∷ ms) r s fl fm e = inr (inl (record {
  line = m;
  more = ms;
  after = flat_map spelling ms ++ s;
  formed = front_of m ms fm;
  is = refl;
  spelled = e ∙ append_assoc (spelling m) (flat_map spelling ms) s;
}))
fork (l ∷ ls) [] r s fl fm e = inr (inr (record {
  line = l;
  more = ls;
  after = flat_map spelling ls ++ r;
  formed = front_of l ls fl;
  is = refl;
  spelled = sym e ∙ append_assoc (spelling l) (flat_map spelling ls) r;
}))
fork (l ∷ ls) (m ∷ ms) r s fl fm e =
    let e2 = sym (append_assoc (spelling l) (flat_map spelling ls) r) ∙ e ∙ append_assoc (spelling m) (flat_map spelling ms) s in
    let p = same_front l m (flat_map spelling ls ++ r) (flat_map spelling ms ++ s) (front_of l ls fl) (front_of m ms fm) e2 in
    fork_more l m ls ms r s p.0 (fork ls ms r s (others_of l ls fl) (others_of m ms fm) p.1)

-- ---- where an answer ends

abbrev Ends : ℕ → List Line → List ℕ → Result (List Line) Refusal → Type 0
Ends pool ls r (Ok lines) = (lines ≡ ls) × (r ≡ []) × (1 ≤ length ls) × (quota_sum ls ≤ pool)
Ends pool ls r (Err refusal.File) = ⊥
Ends pool ls r (Err refusal.None) = (ls ≡ []) × (r ≡ [])
Ends pool ls r (Err refusal.Pool) = (r ≡ []) × (pool < quota_sum ls)
Ends pool ls r (Err (refusal.Form n)) = (0 < length r) × (n ≡ length ls + 1) × HasNoLine r
Ends pool ls r (Err (refusal.Words n)) = (0 < length r) × (n ≡ length ls + 1) × HasLineRefused ls r (refusal.Words n)
Ends pool ls r (Err (refusal.Quota n)) = (0 < length r) × (n ≡ length ls + 1) × HasLineRefused ls r (refusal.Quota n)
Ends pool ls r (Err (refusal.Twice n)) = (0 < length r) × (n ≡ length ls + 1) × HasLineRefused ls r (refusal.Twice n)
Ends pool ls r (Err (refusal.Many n)) = (0 < length r) × (n ≡ length ls + 1) × HasLineRefused ls r (refusal.Many n)

pub record EndsThere (pool : ℕ) (text : List ℕ) (answer : Result (List Line) Refusal) : Type 0 where
  pub lines : List Line
  pub rest : List ℕ
  pub fine : AreFine lines
  pub spelled : text ≡ flat_map spelling lines ++ rest
  pub ends : Ends pool lines rest answer

none_fine : AreFine []
none_fine = record {
  formed = λ k d low. absurd (omega arith);
  words = λ k d low. absurd (omega arith);
  quotas = λ k d low. absurd (omega arith);
  differ = λ i j d before low. absurd (omega arith);
  count = omega arith;
}

ends_there : (pool : ℕ) (text : List ℕ) (answer : Result (List Line) Refusal) → length text ≤ 8192 → Answers pool text answer → EndsThere pool text answer
ends_there pool text (Ok lines) short a = record { lines = lines; rest = []; fine = a.fine; spelled = a.spelled ∙ sym (append-nil (flat_map spelling lines)); ends = (refl, refl, a.some, a.slots) }
ends_there pool text (Err refusal.File) short a = absurd (omega arith)
ends_there pool text (Err refusal.None) short a = record { lines = []; rest = []; fine = none_fine; spelled = a; ends = (refl, refl) }
ends_there pool text (Err refusal.Pool) short a = record { lines = a.lines; rest = []; fine = a.reaches.fine; spelled = a.reaches.spelled; ends = (refl, a.more) }
ends_there pool text (Err (refusal.Form n)) short a = record { lines = a.lines; rest = a.rest; fine = a.reaches.fine; spelled = a.reaches.spelled; ends = (a.more, a.number, a.wrong) }
ends_there pool text (Err (refusal.Words n)) short a = record { lines = a.lines; rest = a.rest; fine = a.reaches.fine; spelled = a.reaches.spelled; ends = (a.more, a.number, a.wrong) }
ends_there pool text (Err (refusal.Quota n)) short a = record { lines = a.lines; rest = a.rest; fine = a.reaches.fine; spelled = a.reaches.spelled; ends = (a.more, a.number, a.wrong) }
ends_there pool text (Err (refusal.Twice n)) short a = record { lines = a.lines; rest = a.rest; fine = a.reaches.fine; spelled = a.reaches.spelled; ends = (a.more, a.number, a.wrong) }
ends_there pool text (Err (refusal.Many n)) short a = record { lines = a.lines; rest = a.rest; fine = a.reaches.fine; spelled = a.reaches.spelled; ends = (a.more, a.number, a.wrong) }

-- ---- no answer ends before a line with which nothing is wrong

has_place : (ls more : List Line) (m : Line) → length ls < length (ls ++ (m ∷ more))
has_place ls more m = omega (arith, length-append ls (m ∷ more))

of_all : (P : Line → Type 0) (ls more : List Line) (m : Line) → All P (ls ++ (m ∷ more)) → P m
of_all P ls more m h = subst P (get_or-append_seam ls m more m) (h (length ls) m (has_place ls more m))

differs_before : (ls more : List Line) (m : Line) (k : ℕ) → k < length ls → AllPairs Differ (ls ++ (m ∷ more)) → Differ (slice_index_or ls k m) m
differs_before ls more m k low h =
    subst (λ (x : Line). Differ x m) (get_or_append_left ls (m ∷ more) m k low)
    (subst (λ (y : Line). Differ (slice_index_or (ls ++ (m ∷ more)) k m) y) (get_or-append_seam ls m more m)
    (h k (length ls) m low (has_place ls more m)))

no_twice : (ls more : List Line) (m : Line) → AllPairs Differ (ls ++ (m ∷ more)) → IsTwice ls m → ⊥
no_twice ls more m h (inl c) =
    let low : c.0 < length ls = omega (arith, c.1, length-map ls (λ x. x.name)) in
    (differs_before ls more m c.0 low h).0 (sym (get_or-map (λ (x : Line). x.name) ls c.0 m m.name low) ∙ c.2)
no_twice ls more m h (inr c) =
    let low : c.0 < length ls = omega (arith, c.1, length-map ls (λ x. x.path)) in
    (differs_before ls more m c.0 low h).1 (sym (get_or-map (λ (x : Line). x.path) ls c.0 m m.path low) ∙ c.2)

not_outside : (most n : ℕ) → (1 ≤ n) × (n ≤ most) → IsOutside most n → ⊥
not_outside most n h (inl none) = absurd (omega arith)
not_outside most n h (inr large) = absurd (omega arith)

not_refused : (ls more : List Line) (m : Line) (why : Refusal) → AreFine (ls ++ (m ∷ more)) → IsRefused ls m why → ⊥
not_refused ls more m (refusal.Words n) fine h = not_outside 4096 m.words (of_all HasWords ls more m fine.words) h
not_refused ls more m (refusal.Quota n) fine h = not_outside MAX_QUOTA m.quota (of_all HasQuota ls more m fine.quotas) h.1
not_refused ls more m (refusal.Twice n) fine h = no_twice ls more m fine.differ h.2
not_refused ls more m (refusal.Many n) fine h = absurd (omega (arith, h.3, fine.count, length-append ls (m ∷ more)))
not_refused ls more m (refusal.Form n) fine h = h
not_refused ls more m refusal.File fine h = h
not_refused ls more m refusal.None fine h = h
not_refused ls more m refusal.Pool fine h = h

not_refused_here : (ls more : List Line) (m : Line) (r after : List ℕ) (why : Refusal) → AreFine (ls ++ (m ∷ more)) → IsLine m → r ≡ spelling m ++ after → HasLineRefused ls r why → ⊥
not_refused_here ls more m r after why fine formed e h =
    let same = same_front h.line m h.after after h.formed formed (sym h.spelled ∙ e) in
    not_refused ls more m why fine (subst (λ (l : Line). IsRefused ls l why) same.0 h.wrong)

not_over : (pool : ℕ) (ls more : List Line) (m : Line) (r after : List ℕ) (answer : Result (List Line) Refusal) → AreFine (ls ++ (m ∷ more)) → IsLine m → r ≡ spelling m ++ after → Ends pool ls r answer → ⊥
not_over pool ls more m r after (Ok lines) fine formed e h = not_empty m after formed (sym h.1 ∙ e)
not_over pool ls more m r after (Err refusal.File) fine formed e h = h
not_over pool ls more m r after (Err refusal.None) fine formed e h = not_empty m after formed (sym h.1 ∙ e)
not_over pool ls more m r after (Err refusal.Pool) fine formed e h = not_empty m after formed (sym h.0 ∙ e)
not_over pool ls more m r after (Err (refusal.Form n)) fine formed e h = h.2 m after formed e
not_over pool ls more m r after (Err (refusal.Words n)) fine formed e h = not_refused_here ls more m r after (refusal.Words n) fine formed e h.2
not_over pool ls more m r after (Err (refusal.Quota n)) fine formed e h = not_refused_here ls more m r after (refusal.Quota n) fine formed e h.2
not_over pool ls more m r after (Err (refusal.Twice n)) fine formed e h = not_refused_here ls more m r after (refusal.Twice n) fine formed e h.2
not_over pool ls more m r after (Err (refusal.Many n)) fine formed e h = not_refused_here ls more m r after (refusal.Many n) fine formed e h.2

-- ---- two answers that end at one place are the same

and_false : (a b : Bool) → b ≡ false → (a && b) ≡ false
and_false true b h = h
and_false false b h = refl

outside_test : (most n : ℕ) → IsOutside most n → is_within most n ≡ false
outside_test most n (inl none) = rw none refl
outside_test most n (inr large) = and_false (leb 1 n) (leb n most) (lt-leb n most large)

inside_test : (most n : ℕ) → (1 ≤ n) × (n ≤ most) → is_within most n ≡ true
inside_test most n h = rw (le-leb 1 n h.0, le-leb n most h.1) refl

false_of : (b : Bool) → (b ≡ true → ⊥) → b ≡ false
false_of true h = absurd (h refl)
false_of false h = refl

other_test : (xs ys : List ℕ) → xs ≢ ys → bytes_eq xs ys ≡ false
other_test xs ys h = false_of (bytes_eq xs ys) (λ e. h ((bytes_eq-Decides xs ys).0 e))

differ_test : (e l : Line) → Differ e l → differ e l ≡ true
differ_test e l h = rw (other_test e.name l.name h.0, other_test e.path l.path h.1) refl

new_test : (ls : List Line) (line : Line) → IsNew ls line → list_all (λ e. differ e line) ls ≡ true
new_test ls line h = list_all-from_AllPass (λ e. differ e line) ls (λ k d low. differ_test (slice_index_or ls k d) line (h k d low))

same_test : (xs ys : List ℕ) → xs ≡ ys → bytes_eq xs ys ≡ true
same_test xs ys e = (bytes_eq-Decides xs ys).1 e

name_test : (e l : Line) → e.name ≡ l.name → differ e l ≡ false
name_test e l h = rw (same_test e.name l.name h) refl

path_test : (e l : Line) → e.path ≡ l.path → differ e l ≡ false
path_test e l h = and_false (not (bytes_eq e.name l.name)) (not (bytes_eq e.path l.path)) (ap not (same_test e.path l.path h))

twice_test : (ls : List Line) (line : Line) → IsTwice ls line → list_all (λ e. differ e line) ls ≡ false
twice_test ls line (inl c) =
    let low : c.0 < length ls = omega (arith, c.1, length-map ls (λ x. x.name)) in
    list_all_at (λ e. differ e line) ls c.0 line low (name_test (slice_index_or ls c.0 line) line (sym (get_or-map (λ (x : Line). x.name) ls c.0 line line.name low) ∙ c.2))
twice_test ls line (inr c) =
    let low : c.0 < length ls = omega (arith, c.1, length-map ls (λ x. x.path)) in
    list_all_at (λ e. differ e line) ls c.0 line low (path_test (slice_index_or ls c.0 line) line (sym (get_or-map (λ (x : Line). x.path) ls c.0 line line.path low) ∙ c.2))

-- the verdict on a line after these
abbrev line_verdict : List Line → Line → Result (List Line) Refusal
line_verdict ls line =
    cond (is_within 4096 line.words)
    (cond (is_within MAX_QUOTA line.quota)
    (cond (list_all (λ e. differ e line) ls) (Err (refusal.Many (length ls + 1))) (Err (refusal.Twice (length ls + 1))))
    (Err (refusal.Quota (length ls + 1))))
    (Err (refusal.Words (length ls + 1)))

abbrev next_verdict : List Line → Option (Line × List ℕ) → Result (List Line) Refusal
next_verdict ls None = Err (refusal.Form (length ls + 1))
next_verdict ls (Some read) = line_verdict ls read.0

abbrev end_verdict : ℕ → List Line → Result (List Line) Refusal
end_verdict pool [] = Err refusal.None
end_verdict pool (l ∷ ls) = cond (ltb pool (quota_sum (l ∷ ls))) (Err refusal.Pool) (Ok (l ∷ ls))

abbrev verdict : ℕ → List Line → List ℕ → Result (List Line) Refusal
verdict pool ls [] = end_verdict pool ls
verdict pool ls (b ∷ bs) = next_verdict ls (line_at as_it_is (b ∷ bs))

next_is : (pool : ℕ) (ls : List Line) (r : List ℕ) (read : Option (Line × List ℕ)) → 0 < length r → line_at as_it_is r ≡ read → verdict pool ls r ≡ next_verdict ls read
next_is pool ls [] read more e = absurd (omega arith)
next_is pool ls (b ∷ bs) read more e = ap (next_verdict ls) e

accepted_is : (pool : ℕ) (ls : List Line) → 1 ≤ length ls → quota_sum ls ≤ pool → Ok ls ≡ end_verdict pool ls
accepted_is pool [] some slots = absurd (omega arith)
accepted_is pool (l ∷ ls) some slots = rw (le-ltb pool (quota_sum (l ∷ ls)) slots) refl

pool_is : (pool : ℕ) (ls : List Line) → pool < quota_sum ls → Err refusal.Pool ≡ end_verdict pool ls
pool_is pool [] more = absurd (omega arith)
pool_is pool (l ∷ ls) more = rw (lt-ltb pool (quota_sum (l ∷ ls)) more) refl

line_verdict_is : (ls : List Line) (line : Line) (why : Refusal) → IsAtLine (length ls + 1) why → IsRefused ls line why → Err why ≡ line_verdict ls line
line_verdict_is ls line (refusal.Words n) at h = rw (at, outside_test 4096 line.words h) refl
line_verdict_is ls line (refusal.Quota n) at h = rw (at, inside_test 4096 line.words h.0, outside_test MAX_QUOTA line.quota h.1) refl
line_verdict_is ls line (refusal.Twice n) at h = rw (at, inside_test 4096 line.words h.0, inside_test MAX_QUOTA line.quota h.1, twice_test ls line h.2) refl
line_verdict_is ls line (refusal.Many n) at h = rw (at, inside_test 4096 line.words h.0, inside_test MAX_QUOTA line.quota h.1, new_test ls line h.2) refl
line_verdict_is ls line (refusal.Form n) at h = absurd h
line_verdict_is ls line refusal.File at h = absurd h
line_verdict_is ls line refusal.None at h = absurd h
line_verdict_is ls line refusal.Pool at h = absurd h

refused_is : (pool : ℕ) (ls : List Line) (r : List ℕ) (why : Refusal) → 0 < length r → IsAtLine (length ls + 1) why → HasLineRefused ls r why → Err why ≡ verdict pool ls r
refused_is pool ls r why more at h =
    line_verdict_is ls h.line why at h.wrong ∙ sym (next_is pool ls r (Some (h.line, h.after)) more (read_again h.line r h.after h.formed h.spelled))

verdict_is : (pool : ℕ) (ls : List Line) (r : List ℕ) (answer : Result (List Line) Refusal) → Ends pool ls r answer → answer ≡ verdict pool ls r
verdict_is pool ls r (Ok lines) h = ap Ok h.0 ∙ accepted_is pool ls h.2 h.3 ∙ ap (verdict pool ls) (sym h.1)
verdict_is pool ls r (Err refusal.File) h = absurd h
verdict_is pool ls r (Err refusal.None) h = ap (end_verdict pool) (sym h.0) ∙ ap (verdict pool ls) (sym h.1)
verdict_is pool ls r (Err refusal.Pool) h = pool_is pool ls h.1 ∙ ap (verdict pool ls) (sym h.0)
verdict_is pool ls r (Err (refusal.Form n)) h = ap (λ (k : ℕ). Err (refusal.Form k)) h.1 ∙ sym (next_is pool ls r None h.0 (none_read r h.2))
verdict_is pool ls r (Err (refusal.Words n)) h = refused_is pool ls r (refusal.Words n) h.0 h.1 h.2
verdict_is pool ls r (Err (refusal.Quota n)) h = refused_is pool ls r (refusal.Quota n) h.0 h.1 h.2
verdict_is pool ls r (Err (refusal.Twice n)) h = refused_is pool ls r (refusal.Twice n) h.0 h.1 h.2
verdict_is pool ls r (Err (refusal.Many n)) h = refused_is pool ls r (refusal.Many n) h.0 h.1 h.2

-- ---- one answer

too_long : (pool : ℕ) (text : List ℕ) (answer : Result (List Line) Refusal) → 8192 < length text → Answers pool text answer → answer ≡ Err refusal.File
too_long pool text (Ok lines) long a = absurd (omega (arith, a.short))
too_long pool text (Err refusal.File) long a = refl
too_long pool text (Err refusal.None) long a = absurd (omega (arith, ap length a))
too_long pool text (Err refusal.Pool) long a = absurd (omega (arith, a.reaches.short))
too_long pool text (Err (refusal.Form n)) long a = absurd (omega (arith, a.reaches.short))
too_long pool text (Err (refusal.Words n)) long a = absurd (omega (arith, a.reaches.short))
too_long pool text (Err (refusal.Quota n)) long a = absurd (omega (arith, a.reaches.short))
too_long pool text (Err (refusal.Twice n)) long a = absurd (omega (arith, a.reaches.short))
too_long pool text (Err (refusal.Many n)) long a = absurd (omega (arith, a.reaches.short))

blocked : (pool : ℕ) (ls ms : List Line) (r : List ℕ) (answer : Result (List Line) Refusal) → AreFine ms → Ends pool ls r answer → GoesOn ls ms r → ⊥
blocked pool ls ms r answer fine ends g =
    not_over pool ls g.more g.line r g.after answer (subst AreFine g.is fine) g.formed g.spelled ends

joined : (pool : ℕ) (ls ms : List Line) (r s : List ℕ) (one other : Result (List Line) Refusal) → AreFine ls → AreFine ms → Ends pool ls r one → Ends pool ms s other → Fork ls ms r s → one ≡ other
joined pool ls ms r s one other fl fm a b (inl same) =
    verdict_is pool ls r one a ∙ ap₂ (verdict pool) same.0 same.1 ∙ sym (verdict_is pool ms s other b)
joined pool ls ms r s one other fl fm a b (inr (inl g)) = absurd (blocked pool ls ms r one fm a g)
joined pool ls ms r s one other fl fm a b (inr (inr g)) = absurd (blocked pool ms ls s other fl b g)

pub one_answer_is : (pool : ℕ) (text : List ℕ) (one other : Result (List Line) Refusal) → Answers pool text one → Answers pool text other → one ≡ other
one_answer_is pool text one other a b =
    elim (cases_lt 8192 (length text)) [
      | inl long ↦ too_long pool text one long a ∙ sym (too_long pool text other long b)
      | inr short ↦
          let p = ends_there pool text one short a in
          let q = ends_there pool text other short b in
          joined pool p.lines q.lines p.rest q.rest one other p.fine q.fine p.ends q.ends
          (fork p.lines q.lines p.rest q.rest p.fine.formed q.fine.formed (sym p.spelled ∙ q.spelled))
    ]
