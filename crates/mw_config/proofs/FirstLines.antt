-- The reader of a tenants file finds the first line of a text, or what is wrong with it after the lines before.
-- Used by: read_path, tenants::read_line, read_lines, read_tenants.
use Rattle.std.proofs.Common.{◌≡◌, ◌≢◌, ◌==◌, ℕ, zero, suc, ◌+◌, ◌<◌, ◌≤◌, min, leb, leb-true, le-leb, Bool, true, false, not, List, [], ◌∷◌, ◌++◌, length, map, Some, refl, sym, ap, subst, ◌∙◌, inl, inr, ◌⊎◌, arith, append_assoc, append-nil, ◌&&◌}
use Rattle.std.specs.Prelude.{flat_map, All, sum_by, bytes_eq}
use Rattle.std.specs.List.{list_all, AllPairs, Contains, slice_index_or}
use Rattle.std.specs.Str.{IsAscii}
use Rattle.std.proofs.lemmas.Bool.{cases_lt}
use Rattle.std.proofs.lemmas.List.{length-map, map-append, length-append, get_or-map}
use Rattle.std.proofs.lemmas.List.Sums.{AllPass-from_list_all}
use Rattle.std.proofs.lemmas.List.Folds.{list_all-map, fold-map}
use Rattle.std.proofs.lemmas.List.Elements.{All-nil, All-cons, All-append}
use Rattle.std.proofs.lemmas.List.Quantifiers.{all_pairs_push}
use Rattle.std.proofs.lemmas.Grind.{flat_map-append}
use Rattle.std.proofs.lemmas.Slice.Eq.{bytes_eq-Decides}
use Rattle.mw_line.specs.LineReader.{narrow}
use Rattle.mw_words.specs.declared.limits.TheConstants.{MAX_QUOTA}
use Rattle.mw_config.specs.declared.lines.TenantLine.{TenantLine}
use Rattle.mw_config.specs.declared.refusals.Refusal.TheVariants as refusal
use Rattle.mw_config.specs.LineTexts.{Line, IsLine, spelling, is_path_byte, line_of, lines_of}
use Rattle.mw_config.specs.Limits.{HasWords, HasQuota, Differ, IsNew, IsTwice, AreFine, IsTenantsFile, ArePermitted, differ}
use Rattle.mw_config.specs.Refusals.{IsOutside, HasLineRefused, Reaches}
use Rattle.mw_config.specs.LineReader.{line_at, Continues, is_within}
use Rattle.mw_config.proofs.LineTextLaws.{line_found, both_true}

-- ---- paths are text

pub path_is_ascii : (bytes : List ℕ) → list_all is_path_byte bytes ≡ true → IsAscii bytes
path_is_ascii [] h i = omega arith
path_is_ascii (b ∷ bs) h zero =
    let p = both_true (is_path_byte b) (list_all is_path_byte bs) h in
    let q = both_true (leb 33 b) (leb b 126) p.0 in
    omega (arith, leb-true b 126 q.1)
path_is_ascii (b ∷ bs) h (suc i) = path_is_ascii bs (both_true (is_path_byte b) (list_all is_path_byte bs) h).1 i

-- ---- tests

true_false : (b : Bool) → b ≡ true → b ≡ false → ⊥
true_false b t f = absurd cc

not_true : (b : Bool) → not b ≡ true → b ≡ false
not_true true h = absurd cc
not_true false h = refl

not_false : (b : Bool) → not b ≡ false → b ≡ true
not_false true h = refl
not_false false h = absurd cc

leb_false : (a b : ℕ) → leb a b ≡ false → b < a
leb_false a b h =
    elim (cases_lt b a) [
      | inl low ↦ low
      | inr high ↦ absurd (true_false (leb a b) (le-leb a b high) h)
    ]

-- ---- numbers, as the reader sees them

not_both : (a b : Bool) → (a && b) ≡ false → (a ≡ false) ⊎ (b ≡ false)
not_both true b h = inr h
not_both false b h = inl refl

pub is_outside : (most n seen : ℕ) → most < 65535 → seen ≡ min n 65535 → is_within most seen ≡ false → IsOutside most n
is_outside most n seen small e h =
    elim (not_both (leb 1 seen) (leb seen most) h) [
      | inl none ↦ inl (omega (arith, leb_false 1 seen none))
      | inr large ↦ inr (omega (arith, leb_false seen most large))
    ]

pub is_inside : (most n seen : ℕ) → most < 65535 → seen ≡ min n 65535 → is_within most seen ≡ true → (1 ≤ n) × (n ≤ most)
is_inside most n seen small e h =
    let p = both_true (leb 1 seen) (leb seen most) h in
    (omega (arith, leb-true 1 seen p.0, leb-true seen most p.1), omega (arith, leb-true 1 seen p.0, leb-true seen most p.1))

pub seen_whole : (most n seen : ℕ) → most < 65535 → seen ≡ min n 65535 → is_within most seen ≡ true → n ≡ seen
seen_whole most n seen small e h =
    let p = is_inside most n seen small e h in
    omega arith

-- ---- names and paths of earlier lines

not_eq : (xs ys : List ℕ) → not (bytes_eq xs ys) ≡ true → xs ≢ ys
not_eq xs ys h same = absurd (true_false (bytes_eq xs ys) ((bytes_eq-Decides xs ys).1 same) (not_true (bytes_eq xs ys) h))

is_eq : (xs ys : List ℕ) → not (bytes_eq xs ys) ≡ false → xs ≡ ys
is_eq xs ys h = (bytes_eq-Decides xs ys).0 (not_false (bytes_eq xs ys) h)

differs : (e l : Line) → differ e l ≡ true → Differ e l
differs e l h =
    let p = both_true (not (bytes_eq e.name l.name)) (not (bytes_eq e.path l.path)) h in
    (not_eq e.name l.name p.0, not_eq e.path l.path p.1)

pub is_new : (lines : List Line) (line : Line) → list_all (λ e. differ e line) lines ≡ true → IsNew lines line
is_new lines line h =
    let all = AllPass-from_list_all (λ e. differ e line) lines h in
    λ k d low. differs (slice_index_or lines k d) line (all k d low)

contains_more : (x y : List ℕ) (xs : List (List ℕ)) → Contains xs y → Contains (x ∷ xs) y
contains_more x y xs c = (suc c.0, omega (arith, c.1), c.2)

twice_more : (e : Line) (es : List Line) (line : Line) → IsTwice es line → IsTwice (e ∷ es) line
twice_more e es line (inl c) = inl (contains_more e.name line.name (map (λ x. x.name) es) c)
twice_more e es line (inr c) = inr (contains_more e.path line.path (map (λ x. x.path) es) c)

pub is_twice : (lines : List Line) (line : Line) → list_all (λ e. differ e line) lines ≡ false → IsTwice lines line
is_twice [] line h = absurd cc
is_twice (e ∷ es) line h =
    elim (not_both (differ e line) (list_all (λ x. differ x line) es) h) [
      | inl here ↦ elim (not_both (not (bytes_eq e.name line.name)) (not (bytes_eq e.path line.path)) here) [
        | inl name ↦ inl (0, omega arith, is_eq e.name line.name name)
        | inr path ↦ inr (0, omega arith, is_eq e.path line.path path)
      ]
      | inr later ↦ twice_more e es line (is_twice es line later)
    ]

-- ---- the line in front

-- the line that was read, and the result of a test of the earlier tenants
pub record IsFound (text : List ℕ) (told : Line) (after : List ℕ) : Type 0 where
  pub line : Line
  pub formed : IsLine line
  pub name : told.name ≡ line.name
  pub path : told.path ≡ line.path
  pub words : told.words ≡ min line.words 65535
  pub quota : told.quota ≡ min line.quota 65535
  pub spelled : text ≡ spelling line ++ after

pub found : (text : List ℕ) (told : Line) (after : List ℕ) → line_at narrow.addr text ≡ Some (told, after) → IsFound text told after
found text told after e =
    let f = line_found narrow.addr text told after e in
    record {
      line = f.line;
      formed = f.formed;
      name = ap (λ (l : Line). l.name) f.value;
      path = ap (λ (l : Line). l.path) f.value;
      words = ap (λ (l : Line). l.words) f.value;
      quota = ap (λ (l : Line). l.quota) f.value;
      spelled = f.text;
    }

all_same : (tenants : List TenantLine) (told line : Line) → told.name ≡ line.name → told.path ≡ line.path → list_all (λ t. differ (line_of t) line) tenants ≡ list_all (λ t. differ (line_of t) told) tenants
all_same tenants told line name path = rw (name, path) refl

-- what a test of the earlier tenants says of the fields, it says of the line
tested : (tenants : List TenantLine) (told line : Line) (answer : Bool) → told.name ≡ line.name → told.path ≡ line.path → list_all (λ t. differ (line_of t) told) tenants ≡ answer → list_all (λ e. differ e line) (lines_of tenants) ≡ answer
tested tenants told line answer name path h =
    list_all-map (λ e. differ e line) line_of tenants ∙ all_same tenants told line name path ∙ h

pub refused_words : (lines : List Line) (text : List ℕ) (told : Line) (after : List ℕ) (n : ℕ) → line_at narrow.addr text ≡ Some (told, after) → is_within 4096 told.words ≡ false → HasLineRefused lines text (refusal.Words n)
refused_words lines text told after n e h =
    let f = found text told after e in
    record { line = f.line; after = after; formed = f.formed; spelled = f.spelled; wrong = is_outside 4096 f.line.words told.words (omega arith) f.words h }

pub refused_quota : (lines : List Line) (text : List ℕ) (told : Line) (after : List ℕ) (n : ℕ) → line_at narrow.addr text ≡ Some (told, after) → is_within 4096 told.words ≡ true → is_within MAX_QUOTA told.quota ≡ false → HasLineRefused lines text (refusal.Quota n)
refused_quota lines text told after n e words h =
    let f = found text told after e in
    record {
      line = f.line;
      after = after;
      formed = f.formed;
      spelled = f.spelled;
      wrong = (is_inside 4096 f.line.words told.words (omega arith) f.words words, is_outside MAX_QUOTA f.line.quota told.quota (omega arith) f.quota h);
    }

pub refused_twice : (tenants : List TenantLine) (text : List ℕ) (told : Line) (after : List ℕ) (n : ℕ) → line_at narrow.addr text ≡ Some (told, after) → is_within 4096 told.words ≡ true → is_within MAX_QUOTA told.quota ≡ true → list_all (λ t. differ (line_of t) told) tenants ≡ false → HasLineRefused (lines_of tenants) text (refusal.Twice n)
refused_twice tenants text told after n e words quota h =
    let f = found text told after e in
    record {
      line = f.line;
      after = after;
      formed = f.formed;
      spelled = f.spelled;
      wrong = (is_inside 4096 f.line.words told.words (omega arith) f.words words, is_inside MAX_QUOTA f.line.quota told.quota (omega arith) f.quota quota, is_twice (lines_of tenants) f.line (tested tenants told f.line false f.name f.path h));
    }

pub refused_many : (tenants : List TenantLine) (text : List ℕ) (told : Line) (after : List ℕ) (n : ℕ) → line_at narrow.addr text ≡ Some (told, after) → is_within 4096 told.words ≡ true → is_within MAX_QUOTA told.quota ≡ true → list_all (λ t. differ (line_of t) told) tenants ≡ true → length tenants ≡ 16 → HasLineRefused (lines_of tenants) text (refusal.Many n)
refused_many tenants text told after n e words quota h full =
    let f = found text told after e in
    record {
      line = f.line;
      after = after;
      formed = f.formed;
      spelled = f.spelled;
      wrong = (is_inside 4096 f.line.words told.words (omega arith) f.words words, is_inside MAX_QUOTA f.line.quota told.quota (omega arith) f.quota quota, is_new (lines_of tenants) f.line (tested tenants told f.line true f.name f.path h), length-map tenants line_of ∙ full);
    }

abbrev made : List ℕ → ℕ → ℕ → List ℕ → Line
made name words quota path = record { name = name; words = words; quota = quota; path = path }

-- a line with the fields of another is that line
as_told : (line told : Line) → told.name ≡ line.name → line.words ≡ told.words → line.quota ≡ told.quota → told.path ≡ line.path → line ≡ told
as_told line told name words quota path =
    let parts : made line.name line.words line.quota line.path ≡ made told.name told.words told.quota told.path = rw (name, words, quota, path) refl in
    parts

pub taken : (tenants : List TenantLine) (text : List ℕ) (told : Line) (after : List ℕ) → line_at narrow.addr text ≡ Some (told, after) → is_within 4096 told.words ≡ true → is_within MAX_QUOTA told.quota ≡ true → list_all (λ t. differ (line_of t) told) tenants ≡ true → length tenants < 16 → Continues (lines_of tenants) text told after
taken tenants text told after e words quota h room =
    let f = found text told after e in
    let is : f.line ≡ told = as_told f.line told f.name (seen_whole 4096 f.line.words told.words (omega arith) f.words words) (seen_whole MAX_QUOTA f.line.quota told.quota (omega arith) f.quota quota) f.path in
    let continues : Continues (lines_of tenants) text f.line after = record {
      formed = f.formed;
      spelled = f.spelled;
      words = is_inside 4096 f.line.words told.words (omega arith) f.words words;
      quota = is_inside MAX_QUOTA f.line.quota told.quota (omega arith) f.quota quota;
      new = is_new (lines_of tenants) f.line (tested tenants told f.line true f.name f.path h);
      room = omega (arith, length-map tenants line_of);
    } in
    subst (λ (l : Line). Continues (lines_of tenants) text l after) is continues

-- ---- one line more

one : (P : Line → Type 0) (line : Line) → P line → All P (line ∷ [])
one P line h = All-cons P line [] h (All-nil P)

fine_more : (lines : List Line) (text : List ℕ) (line : Line) (after : List ℕ) → AreFine lines → Continues lines text line after → AreFine (lines ++ (line ∷ []))
fine_more lines text line after fine c = record {
  formed = All-append IsLine lines (line ∷ []) fine.formed (one IsLine line c.formed);
  words = All-append HasWords lines (line ∷ []) fine.words (one HasWords line c.words);
  quotas = All-append HasQuota lines (line ∷ []) fine.quotas (one HasQuota line c.quota);
  differ = all_pairs_push Differ lines line fine.differ c.new;
  count = omega (arith, length-append lines (line ∷ []), c.room);
}

spelled_more : (lines : List Line) (line : Line) (rest after text : List ℕ) → text ≡ flat_map spelling lines ++ rest → rest ≡ spelling line ++ after → text ≡ flat_map spelling (lines ++ (line ∷ [])) ++ after
spelled_more lines line rest after text e next =
    e ∙ ap (λ (x : List ℕ). flat_map spelling lines ++ x) next
    ∙ sym (append_assoc (flat_map spelling lines) (spelling line) after)
    ∙ ap (λ (x : List ℕ). x ++ after) (sym (flat_map-append spelling lines (line ∷ []) ∙ ap (λ (x : List ℕ). flat_map spelling lines ++ x) (append-nil (spelling line))))

pub reaches_more : (lines : List Line) (line : Line) (rest after text : List ℕ) → Reaches lines rest text → Continues lines rest line after → Reaches (lines ++ (line ∷ [])) after text
reaches_more lines line rest after text r c = record {
  short = r.short;
  spelled = spelled_more lines line rest after text r.spelled c.spelled;
  fine = fine_more lines rest line after r.fine c;
}

pub tenants_more : (tenants new : List TenantLine) (tenant : TenantLine) (rest after text : List ℕ) → Reaches (lines_of tenants) rest text → Continues (lines_of tenants) rest (line_of tenant) after → new ≡ tenants ++ (tenant ∷ []) → Reaches (lines_of new) after text
tenants_more tenants new tenant rest after text r c e =
    let lines : lines_of tenants ++ (line_of tenant ∷ []) ≡ lines_of new = sym (ap lines_of e ∙ map-append line_of tenants (tenant ∷ [])) in
    subst (λ (ls : List Line). Reaches ls after text) lines (reaches_more (lines_of tenants) (line_of tenant) rest after text r c)

-- the number of the line after those of these tenants
pub number_is : (tenants : List TenantLine) → length tenants + 1 ≡ length (lines_of tenants) + 1
number_is tenants = omega (arith, length-map tenants line_of)

-- ---- what callers may rely on

all_of : (P : Line → Type 0) (tenants : List TenantLine) → All P (lines_of tenants) → All (λ t. P (line_of t)) tenants
all_of P tenants h = λ k d low. subst P (get_or-map line_of tenants k d (line_of d) low) (h k (line_of d) (omega (arith, length-map tenants line_of)))

all_pairs_of : (R : Line → Line → Type 0) (tenants : List TenantLine) → AllPairs R (lines_of tenants) → AllPairs (λ s t. R (line_of s) (line_of t)) tenants
all_pairs_of R tenants h = λ i j d before low.
    let a : slice_index_or (lines_of tenants) i (line_of d) ≡ line_of (slice_index_or tenants i d) = get_or-map line_of tenants i d (line_of d) (omega arith) in
    let b : slice_index_or (lines_of tenants) j (line_of d) ≡ line_of (slice_index_or tenants j d) = get_or-map line_of tenants j d (line_of d) low in
    subst (λ (y : Line). R (line_of (slice_index_or tenants i d)) y) b (subst (λ (x : Line). R x (slice_index_or (lines_of tenants) j (line_of d))) a (h i j (line_of d) before (omega (arith, length-map tenants line_of))))

sum_of : (tenants : List TenantLine) → sum_by (λ l. l.quota) (lines_of tenants) ≡ sum_by (λ t. t.quota) tenants
sum_of tenants = fold-map (λ a l. a + l.quota) line_of 0 tenants

pub permitted : (pool : ℕ) (tenants : List TenantLine) (text : List ℕ) → IsTenantsFile pool (lines_of tenants) text → ArePermitted pool tenants
permitted pool tenants text f =
    let differ = all_pairs_of Differ tenants f.fine.differ in
    record {
      some = omega (arith, f.some, length-map tenants line_of);
      count = omega (arith, f.fine.count, length-map tenants line_of);
      named = λ k d low. (all_of IsLine tenants f.fine.formed k d low).0;
      words = all_of HasWords tenants f.fine.words;
      quotas = all_of HasQuota tenants f.fine.quotas;
      slots = omega (arith, f.slots, sum_of tenants);
      names = λ i j d before low. (differ i j d before low).0;
      paths = λ i j d before low. (differ i j d before low).1;
    }

-- some tenants are at least one
pub at_least_one : (tenants : List TenantLine) → (length tenants == 0) ≡ false → 1 ≤ length tenants
at_least_one [] h = absurd cc
at_least_one (tenant ∷ tenants) h = omega arith

pub file_of : (pool : ℕ) (tenants : List TenantLine) (text : List ℕ) → Reaches (lines_of tenants) [] text → 1 ≤ length tenants → sum_by (λ t. t.quota) tenants ≤ pool → IsTenantsFile pool (lines_of tenants) text
file_of pool tenants text r some slots = record {
  short = r.short;
  spelled = r.spelled ∙ append-nil (flat_map spelling (lines_of tenants));
  fine = r.fine;
  some = omega (arith, length-map tenants line_of);
  slots = omega (arith, sum_of tenants);
}
