-- The loop that reads the entries of a `CAS` line keeps what `specs/EntryList` says, and what it read tells the change's
-- first fault.
-- Used by: listing_of, Listing::change, Listing::note, cas.
use Rattle.std.proofs.Common.{◌≡◌, ℕ, zero, suc, ◌<◌, ◌≤◌, Bool, true, false, cond, eqb, ltb, leb, ◌&&◌, List, [], ◌∷◌, ◌++◌, length, take_all, Option, Some, None, refl, sym, ap, ◌∙◌, arith, append_assoc, append-nil, ne_eqb, le-leb, ltb-false, lt-ltb, length-append, nat_lt, take}
use Rattle.std.specs.Prelude.{codes, flat_map, map}
use Rattle.std.specs.List.{list_all}
use Rattle.std.proofs.lemmas.List.{length-take, take-append-le}
use Rattle.std.proofs.lemmas.Option.{none-some}
use Rattle.mw_words.specs.declared.limits.TheConstants.{MAX_ENTRIES, MAX_VALUE, MAX_WORDS}
use Rattle.mw_words.specs.declared.jobs.Entry.{Entry}
use Rattle.mw_words.specs.Change.{is_in_range, is_change, rises}
use Rattle.mw_line.specs.declared.changes.Listing.{Listing}
use Rattle.mw_line.specs.Grammar.{Cas, entry_text, spaced}
use Rattle.mw_line.specs.Limits.{addr_fits, values_fit}
use Rattle.mw_line.specs.EntryList.{Lists, ListsAll}
use Rattle.mw_line.specs.LineReader.{◌>>=◌, Sight, narrow, behind, entry_at, entries_of, cas_of}
use Rattle.mw_line.proofs.Fronts.{behind_found}
use Rattle.mw_line.proofs.Entries.{entry_found, entries_found, seen_entry}

-- ---- one step of reading

-- the bytes after an entry are fewer
pub shorter : (s : Sight) (rest inner after : List ℕ) (e : Entry) → behind (codes " ") rest ≡ Some inner → entry_at s inner ≡ Some (e, after) → length after < length rest
shorter s rest inner after e space entry =
    let a = behind_found (codes " ") rest inner space in
    let b = entry_found s inner e after entry in
    let la : length rest ≡ suc (length inner) = ap length a in
    let lb : length inner ≡ length (entry_text b.entry ++ after) = ap length b.text in
    omega (arith, la, lb, length-append (entry_text b.entry) after)

go_on : Option (List Entry) → Entry → Option (List Entry)
go_on others e = others >>= λ es. Some (e ∷ es)

-- two readers that agree on fewer bytes agree on what follows an entry
same_behind_entry : (f g : List ℕ → Option (List Entry)) (n : ℕ) (o : Option (Entry × List ℕ)) → ((e : Entry) (after : List ℕ) → o ≡ Some (e, after) → length after < n) → ((after : List ℕ) → length after < n → f after ≡ g after) → (o >>= λ e. f e.1 >>= λ es. Some (e.0 ∷ es)) ≡ (o >>= λ e. g e.1 >>= λ es. Some (e.0 ∷ es))
same_behind_entry f g n None short same = refl
same_behind_entry f g n (Some e) short same = rw (same e.1 (short e.0 e.1 refl)) refl

same_behind_space : (s : Sight) (f g : List ℕ → Option (List Entry)) (bytes : List ℕ) (o : Option (List ℕ)) → behind (codes " ") bytes ≡ o → ((after : List ℕ) → length after < length bytes → f after ≡ g after)
    → (o >>= λ inner. entry_at s inner >>= λ e. f e.1 >>= λ es. Some (e.0 ∷ es)) ≡ (o >>= λ inner. entry_at s inner >>= λ e. g e.1 >>= λ es. Some (e.0 ∷ es))
same_behind_space s f g bytes None space same = refl
same_behind_space s f g bytes (Some inner) space same =
    same_behind_entry f g (length bytes) (entry_at s inner) (λ e after entry. shorter s bytes inner after e space entry) same

-- with more room than there are bytes the same is read
same_room : (s : Sight) (k m : ℕ) (bytes : List ℕ) → length bytes ≤ k → length bytes ≤ m → entries_of s k bytes ≡ entries_of s m bytes
unfolding entries_of
same_room s zero zero bytes lk lm = refl
same_room s zero (suc m) [] lk lm = refl
same_room s zero (suc m) (b ∷ bs) lk lm = absurd (omega arith)
same_room s (suc k) zero [] lk lm = refl
same_room s (suc k) zero (b ∷ bs) lk lm = absurd (omega arith)
same_room s (suc k) (suc m) bytes lk lm =
    ap (λ (o : Option (List Entry)). cond (eqb (length bytes) 0) (Some []) o) (same_behind_space s (entries_of s k) (entries_of s m) bytes (behind (codes " ") bytes) refl (λ after short. same_room s k m after (omega arith) (omega arith)))

-- one entry, and the others after it
one_more : (s : Sight) (rest inner after : List ℕ) (e : Entry) → behind (codes " ") rest ≡ Some inner → entry_at s inner ≡ Some (e, after) → entries_of s (length rest) rest ≡ go_on (entries_of s (length after) after) e
unfolding entries_of go_on
one_more s [] inner after e space entry = absurd (none-some inner space)
one_more s (b ∷ bs) inner after e space entry =
    let short = shorter s (b ∷ bs) inner after e space entry in
    let some : eqb (suc (length bs)) 0 ≡ false = ne_eqb _ 0 (omega arith) in
    let room = same_room s (length bs) (length after) after (omega arith) (omega arith) in
    rw (some, space, entry, room) refl

no_space : (s : Sight) (rest : List ℕ) → 0 < length rest → behind (codes " ") rest ≡ None → entries_of s (length rest) rest ≡ None
unfolding entries_of
no_space s [] some space = absurd (omega arith)
no_space s (b ∷ bs) some space =
    let longer : eqb (suc (length bs)) 0 ≡ false = ne_eqb _ 0 (omega arith) in
    rw (longer, space) refl

no_entry : (s : Sight) (rest inner : List ℕ) → behind (codes " ") rest ≡ Some inner → entry_at s inner ≡ None → entries_of s (length rest) rest ≡ None
unfolding entries_of
no_entry s [] inner space entry = absurd (none-some inner space)
no_entry s (b ∷ bs) inner space entry =
    let longer : eqb (suc (length bs)) 0 ≡ false = ne_eqb _ 0 (omega arith) in
    rw (longer, space, entry) refl

-- ---- the loop

abbrev pub with_front : List Entry → Option (List Entry) → Option (List Entry)
with_front front read = read >>= λ es. Some (front ++ es)

-- the listing is of the entries so far, and the bytes that are left go on with them
pub record GoesOn (listing : Listing) (rest all : List ℕ) : Type 0 where
  pub front : List Entry
  pub lists : Lists front listing
  pub rest_read : with_front front (entries_of narrow (length rest) rest) ≡ entries_of narrow (length all) all

no_front : (o : Option (List Entry)) → with_front [] o ≡ o
no_front None = refl
no_front (Some es) = refl

pub begins : (listing : Listing) (all : List ℕ) → Lists [] listing → GoesOn listing all all
begins listing all empty = record { front = []; lists = empty; rest_read = no_front (entries_of narrow (length all) all) }

moved : (front : List Entry) (e : Entry) (o : Option (List Entry)) → with_front (front ++ e ∷ []) o ≡ with_front front (go_on o e)
unfolding go_on
moved front e None = refl
moved front e (Some es) = ap Some (append_assoc front (e ∷ []) es)

pub goes_on : (old new : Listing) (rest inner after all : List ℕ) (e : Entry) → GoesOn old rest all → behind (codes " ") rest ≡ Some inner → entry_at narrow inner ≡ Some (e, after) → ((es : List Entry) → Lists es old → Lists (es ++ e ∷ []) new) → GoesOn new after all
goes_on old new rest inner after all e so_far space entry adds = record {
  front = so_far.front ++ e ∷ [];
  lists = adds so_far.front so_far.lists;
  rest_read = moved so_far.front e (entries_of narrow (length after) after) ∙ ap (with_front so_far.front) (sym (one_more narrow rest inner after e space entry)) ∙ so_far.rest_read;
}

nothing_left : (rest : List ℕ) → length rest ≡ 0 → entries_of narrow (length rest) rest ≡ Some []
unfolding entries_of
nothing_left [] h = refl
nothing_left (b ∷ bs) h = absurd (omega arith)

pub ends : (listing : Listing) (rest all : List ℕ) → GoesOn listing rest all → length rest ≡ 0 → ListsAll (entries_of narrow (length all) all) (Some listing)
ends listing rest all so_far empty =
    let read : entries_of narrow (length all) all ≡ Some so_far.front = sym so_far.rest_read ∙ ap (with_front so_far.front) (nothing_left rest empty) ∙ ap Some (append-nil so_far.front) in
    (so_far.front, read, so_far.lists)

pub stops_at_space : (listing : Listing) (rest all : List ℕ) → GoesOn listing rest all → 0 < length rest → behind (codes " ") rest ≡ None → entries_of narrow (length all) all ≡ None
stops_at_space listing rest all so_far some space = sym so_far.rest_read ∙ ap (with_front so_far.front) (no_space narrow rest some space)

pub stops_at_entry : (listing : Listing) (rest inner all : List ℕ) → GoesOn listing rest all → behind (codes " ") rest ≡ Some inner → entry_at narrow inner ≡ None → entries_of narrow (length all) all ≡ None
stops_at_entry listing rest inner all so_far space entry = sym so_far.rest_read ∙ ap (with_front so_far.front) (no_entry narrow rest inner space entry)

-- ---- the limits

-- once as many entries are kept as may be, one more is not kept, and the listing says that there are more
pub full : (most : ℕ) (es kept : List Entry) (e : Entry) → kept ≡ take most es → length kept ≡ most → (kept ≡ take most (es ++ e ∷ [])) × (nat_lt most (length (es ++ e ∷ [])) ≡ true)
full most es kept e is all =
    let enough : most ≤ length es = omega (arith, sym all, ap length is, length-take most es) in
    (is ∙ sym (take-append-le most es (e ∷ []) enough), lt-ltb most (length (es ++ e ∷ [])) (omega (arith, enough, length-append es (e ∷ []))))

-- if there are no more entries than are kept, all are kept
pub all_kept : (es : List Entry) (listing : Listing) → Lists es listing → listing.more ≡ false → (listing.kept.items ≡ es) × (ltb MAX_ENTRIES (length es) ≡ false)
all_kept es listing lists none =
    let few : ltb MAX_ENTRIES (length es) ≡ false = sym lists.more ∙ none in
    let short : length es ≤ MAX_ENTRIES = ltb-false MAX_ENTRIES (length es) few in
    (lists.kept ∙ take_all MAX_ENTRIES es short, few)

join : (a x n : Bool) → a ≡ true → (x && n) ≡ true → (a && x && n) ≡ true
join true x n h g = g
join false x n h g = absurd cc

pair : (a b : Bool) → (a && b) ≡ true → (a ≡ true) × (b ≡ true)
pair true b h = (refl, h)
pair false b h = absurd cc

entries_fit : (es : List Entry) → list_all addr_fits es ≡ true → list_all values_fit es ≡ true → list_all (is_in_range MAX_WORDS) es ≡ true
entries_fit [] a v = refl
entries_fit (e ∷ es) a v =
    let p = pair _ _ a in
    let q = pair _ _ v in
    rw (join (addr_fits e) (leb e.expected MAX_VALUE) (leb e.new MAX_VALUE) p.0 q.0) (entries_fit es p.1 q.1)

-- if all else is in order, the entries are a change exactly if their addresses rise
pub order_is_left : (es : List Entry) → 0 < length es → ltb MAX_ENTRIES (length es) ≡ false → list_all addr_fits es ≡ true → list_all values_fit es ≡ true → is_change MAX_WORDS es ≡ rises es
order_is_left es some few a v =
    let short : length es ≤ MAX_ENTRIES = ltb-false MAX_ENTRIES (length es) few in
    rw (le-leb 1 (length es) some, le-leb (length es) MAX_ENTRIES short, entries_fit es a v) refl

-- ---- the whole change

pub record IsCasRead (text : List ℕ) (listing : Listing) : Type 0 where
  pub entries : List Entry
  pub some : 0 < length entries
  pub lists : Lists entries listing
  pub read : cas_of narrow text ≡ Some (Cas entries)

at_least_one : (text : List ℕ) (es : List Entry) → (length text ≡ 0 → ⊥) → entries_of narrow (length text) text ≡ Some es → 0 < length es
at_least_one text [] some read =
    let found = entries_found narrow (length text) text [] read in
    absurd (some (ap length found.text ∙ ap (λ (es : List Entry). length (flat_map spaced es)) (none_seen found.entries found.values)))
  where
    none_seen : (es : List Entry) → [] ≡ map (seen_entry narrow) es → es ≡ []
    none_seen [] h = refl
    none_seen (e ∷ es) h = absurd cc
at_least_one text (e ∷ es) some read = omega arith

pub cas_read : (text : List ℕ) (listing : Listing) → (length text ≡ 0 → ⊥) → ListsAll (entries_of narrow (length text) text) (Some listing) → IsCasRead text listing
unfolding cas_of
cas_read text listing some h =
    record {
      entries = h.0;
      some = at_least_one text h.0 some h.1;
      lists = h.2;
      read = rw (ne_eqb (length text) 0 some, h.1) refl;
    }
