-- A value that clap reads of an option of one value was given with its name, or in the word after it.
-- Used by: mw_config.
use Rattle.std.proofs.Common.{◌≡◌, ◌∙◌, ◌⊎◌, ◌≤◌, ◌+◌, ◌==◌, ◌&&◌, ◌||◌, ℕ, Bool, not, true, false, zero, suc, refl, sym, ap, subst, arith, List, [], ◌∷◌, ◌++◌, length, drop, append_assoc, append-nil, Option, Some, None, is_some, inl, inr, true≢false, if◌then◌else◌, nat_lt, le-ltb}
use Rattle.std.specs.List.{AllByRecursion, find, fold, list_all, list_any}
use Rattle.std.specs.Option.{option_map_or}
use Rattle.std.specs.Str.{bytes_eq, chars}
use Rattle.std.specs.Prelude.{min, encode_utf8, option_and_then, slice_get}
use Rattle.std.proofs.lemmas.Bool.Decides.{nat_tests}
use Rattle.std.proofs.lemmas.Slice.Eq.{bytes_eq-Decides}
use Rattle.clap.proofs.CutLemmas.{Lacks}
use Rattle.clap.proofs.LexerLemmas.{name_and_value-at, name_and_value-without}
use Rattle.clap.specs.Lexer.{long_of, long_of_rest, name_and_value, short_of, strip_byte}
use Rattle.clap.specs.Matches.{count_text}
use Rattle.clap.specs.Walk.{Held, Outcome, done, waits, plain, refused, Row, Rule, Step, next, trailing, subcommand, value, Text, Waiting, idle, option, positional, Walk, action_of, after_flag, after_step, arg_by_id, arg_by_index, arg_by_long, arg_by_short, at_row, attached_value, count_of, bundle, bundle_met, bundle_step, default_rows, first_of, flag_met, has_long, has_row, has_short, is_empty, long_met, long_or_other, more_values, most_values, new_count, nothing_held, option_met, option_word, pending_count, plain_word, pushed, reacted, reading_by, rows_after, settled, settled_rows, short_met, short_or_plain, short_word, started, subcommand_met, subcommand_or_other, takes_values, to_positional, used, used_as, used_by_id, values_or_missing, walk_from, walked, walked_from, with_count, with_default, with_values, without, word_met}
use Rattle.clap.specs.declared.builder.action.ArgAction.{ArgAction}
use Rattle.clap.specs.declared.builder.action.ArgAction.TheVariants.{Set, Append, SetTrue, SetFalse, Count, Help, HelpShort, HelpLong, Version}
use Rattle.clap.specs.declared.builder.value_parser.Reading.{Reading}
use Rattle.clap.specs.declared.parser.matches.ValueSource.{ValueSource}
use Rattle.clap.specs.declared.parser.matches.ValueSource.TheVariants.{CommandLine, DefaultValue}
use Rattle.mw_main.specs.Commands.{IsGiven, After, With}

-- ---- tests

both : (a b : Bool) → (a && b) ≡ true → (a ≡ true) × (b ≡ true)
both true b e = (refl, e)
both false b e = absurd (true≢false (sym e))

given_test : (a b : Bool) → (not a || b) ≡ true → a ≡ true → b ≡ true
given_test true b e t = e
given_test false b e t = absurd (true≢false (sym t))

denied : (a : Bool) → not a ≡ true → a ≡ false
denied true e = absurd (true≢false (sym e))
denied false e = refl

same_text : (a b : Text) → bytes_eq a b ≡ true → a ≡ b
same_text a b e = (bytes_eq-Decides a b).0 e

text_same : (a b : Text) → a ≡ b → bytes_eq a b ≡ true
text_same a b e = (bytes_eq-Decides a b).1 e

none_some : {X : Type 0} {P : Type 0} (x : X) → None ≡ Some x → P
none_some x e = absurd (true≢false (sym (ap (λ o. is_some o) e)))

some_is : {X : Type 0} (a b : X) → Some a ≡ Some b → a ≡ b
some_is a b e = cc

empty_is : {X : Type 0} (xs : List X) → is_empty xs ≡ true → xs ≡ []
empty_is [] e = refl
empty_is (x ∷ xs) e = let none : suc (length xs) ≡ 0 = grind (arith, nat_tests) in absurd (omega arith)

cons_none : {X : Type 0} (x : X) (xs : List X) → x ∷ xs ≡ [] → ⊥
cons_none x xs e = let none : suc (length xs) ≡ 0 = ap length e in absurd (omega arith)

found : {X : Type 0} (p q : X → Bool) (xs : List X) (x : X) → list_all q xs ≡ true → find p xs ≡ Some x → (p x ≡ true) × (q x ≡ true)
found p q [] x all is = none_some x is
found {X} p q (y ∷ ys) x all is = go (p y) refl (found p q ys x (both (q y) (list_all q ys) all).1) is
  where
    go : (b : Bool) → p y ≡ b → (find p ys ≡ Some x → (p x ≡ true) × (q x ≡ true)) → (if b then Some y else find p ys) ≡ Some x → (p x ≡ true) × (q x ≡ true)
    go true e rest at = let same : y ≡ x = some_is y x at in (subst (λ (z : X). p z ≡ true) same e, subst (λ (z : X). q z ≡ true) same (both (q y) (list_all q ys) all).0)
    go false e rest at = rest at

nowhere : {X : Type 0} (p q : X → Bool) (xs : List X) → ((x : X) → q x ≡ true → p x ≡ false) → list_all q xs ≡ true → find p xs ≡ None
nowhere p q [] miss all = refl
nowhere p q (y ∷ ys) miss all = rw (miss y (both (q y) (list_all q ys) all).0) (nowhere p q ys miss (both (q y) (list_all q ys) all).1)

-- ---- all of a list

all_by : {X : Type 0} (P Q : X → Type 0) (xs : List X) → ((x : X) → P x → Q x) → AllByRecursion P xs → AllByRecursion Q xs
all_by P Q [] f h = tt
all_by P Q (x ∷ xs) f h = (f x h.0, all_by P Q xs f h.1)

all_append : {X : Type 0} (P : X → Type 0) (xs ys : List X) → AllByRecursion P xs → AllByRecursion P ys → AllByRecursion P (xs ++ ys)
all_append P [] ys h k = k
all_append P (x ∷ xs) ys h k = (h.0, all_append P xs ys h.1 k)

-- ---- rules: of the option of this name one value is read, by its long name alone; no rule is known by its place

abbrev is_name : Text → Option Text → Bool
is_name name None = false
is_name name (Some long) = bytes_eq long name

abbrev is_set : Option ArgAction → Bool
is_set (Some Set) = true
is_set _ = false

abbrev is_option : Text → Rule → Bool
is_option name a = is_name name a.long && (is_empty a.aliases && (not (is_some a.short) && (is_empty a.short_aliases
    && (is_set a.action && (is_empty a.missing && (is_empty a.defaults && (most_values a == 1)))))))

abbrev fits : Text → Rule → Bool
fits name a = not (is_some a.index) && (not (bytes_eq a.id name) || is_option name a)

abbrev pub are_fit : Text → List Rule → Bool
are_fit name rules = list_all (fits name) rules && is_some (arg_by_id rules name)

record IsOption (name : Text) (a : Rule) : Type 0 where
  long : is_name name a.long ≡ true
  aliases : a.aliases ≡ []
  short : is_some a.short ≡ false
  short_aliases : a.short_aliases ≡ []
  set : is_set a.action ≡ true
  missing : a.missing ≡ []
  defaults : a.defaults ≡ []
  most : (most_values a == 1) ≡ true

option_facts : (name : Text) (a : Rule) → fits name a ≡ true → a.id ≡ name → IsOption name a
option_facts name a fit is =
    let test = given_test (bytes_eq a.id name) (is_option name a) (both (not (is_some a.index)) _ fit).1 (text_same a.id name is) in
    let p1 = both (is_name name a.long) _ test in
    let p2 = both (is_empty a.aliases) _ p1.1 in
    let p3 = both (not (is_some a.short)) _ p2.1 in
    let p4 = both (is_empty a.short_aliases) _ p3.1 in
    let p5 = both (is_set a.action) _ p4.1 in
    let p6 = both (is_empty a.missing) _ p5.1 in
    let p7 = both (is_empty a.defaults) _ p6.1 in
    record {
      long = p1.0;
      aliases = empty_is _ p2.0;
      short = denied _ p3.0;
      short_aliases = empty_is _ p4.0;
      set = p5.0;
      missing = empty_is _ p6.0;
      defaults = empty_is _ p7.0;
      most = p7.1;
    }

set_is : (o : Option ArgAction) (a : Rule) → a.action ≡ o → is_set o ≡ true → action_of a ≡ Set
set_is (Some Set) a is e = rw is refl
set_is (Some Append) a is e = absurd (true≢false (sym e))
set_is (Some SetTrue) a is e = absurd (true≢false (sym e))
set_is (Some SetFalse) a is e = absurd (true≢false (sym e))
set_is (Some Count) a is e = absurd (true≢false (sym e))
set_is (Some Help) a is e = absurd (true≢false (sym e))
set_is (Some HelpShort) a is e = absurd (true≢false (sym e))
set_is (Some HelpLong) a is e = absurd (true≢false (sym e))
set_is (Some Version) a is e = absurd (true≢false (sym e))
set_is None a is e = absurd (true≢false (sym e))

-- ---- values that were given

given_more : (name : Text) (words : List Text) (v word : Text) → IsGiven name words v → IsGiven name (words ++ word ∷ []) v
given_more name words v word (After before after is) = After before (after ++ word ∷ []) (ap (λ (l : List Text). l ++ word ∷ []) is ∙ append_assoc before ((45 ∷ 45 ∷ name) ∷ v ∷ after) (word ∷ []))
given_more name words v word (With before after is) = With before (after ++ word ∷ []) (ap (λ (l : List Text). l ++ word ∷ []) is ∙ append_assoc before ((45 ∷ 45 ∷ (name ++ 61 ∷ v)) ∷ after) (word ∷ []))

abbrev Values : Text → List Text → List Text → Type 0
Values name words values = AllByRecursion (IsGiven name words) values

abbrev RowGiven : Text → List Text → Row → Type 0
RowGiven name words r = r.id ≡ name → Values name words r.values

abbrev RowsGiven : Text → List Text → List Row → Type 0
RowsGiven name words rows = AllByRecursion (RowGiven name words) rows

abbrev PendingGiven : Text → List Text → Option (Text × List Text) → Type 0
PendingGiven name words None = Unit {0}
PendingGiven name words (Some p) = p.0 ≡ name → Values name words p.1

record IsHeld (name : Text) (words : List Text) (h : Held) : Type 0 where
  rows : RowsGiven name words h.rows
  pending : PendingGiven name words h.pending

values_more : (name : Text) (words values : List Text) (word : Text) → Values name words values → Values name (words ++ word ∷ []) values
values_more name words values word h = all_by (IsGiven name words) (IsGiven name (words ++ word ∷ [])) values (λ v. given_more name words v word) h

pending_more : (name : Text) (words : List Text) (word : Text) (p : Option (Text × List Text)) → PendingGiven name words p → PendingGiven name (words ++ word ∷ []) p
pending_more name words word None h = tt
pending_more name words word (Some p) h = λ is. values_more name words p.1 word (h is)

held_more : (name : Text) (words : List Text) (word : Text) (h : Held) → IsHeld name words h → IsHeld name (words ++ word ∷ []) h
held_more name words word h held = record {
  rows = all_by (RowGiven name words) (RowGiven name (words ++ word ∷ [])) h.rows (λ r row is. values_more name words r.values word (row is)) held.rows;
  pending = pending_more name words word h.pending held.pending;
}

-- ---- what a use of an argument leaves

at_row_keeps : (P : Row → Type 0) (id : Text) (change : Row → List Row) (missing rows : List Row) → ((r : Row) → r.id ≡ id → P r → AllByRecursion P (change r))
    → AllByRecursion P missing → AllByRecursion P rows → AllByRecursion P (at_row id change missing rows)
at_row_keeps P id change missing [] f m h = m
at_row_keeps P id change missing (r ∷ rs) f m h = go (bytes_eq r.id id) refl (at_row_keeps P id change missing rs f m h.1)
  where
    go : (b : Bool) → bytes_eq r.id id ≡ b → AllByRecursion P (at_row id change missing rs) → AllByRecursion P (if b then change r ++ rs else r ∷ at_row id change missing rs)
    go true e rest = all_append P (change r) rs (f r (same_text r.id id e) h.0) h.1
    go false e rest = (h.0, rest)

with_values_given : (name : Text) (words : List Text) (id : Text) (how : Reading) (s : ValueSource) (values : List Text) (rows : List Row) → (id ≡ name → Values name words values)
    → RowsGiven name words rows → RowsGiven name words (with_values id how s values rows)
with_values_given name words id how s values rows f h =
    at_row_keeps (RowGiven name words) id (more_values s values) _ rows
    (λ r is row. ((λ at. all_append (IsGiven name words) r.values values (row at) (f (sym is ∙ at))), tt)) (f, tt) h

without_given : (name : Text) (words : List Text) (id : Text) (rows : List Row) → RowsGiven name words rows → RowsGiven name words (without id rows)
without_given name words id rows h = at_row_keeps (RowGiven name words) id (λ _. []) [] rows (λ r is row. tt) tt h

with_count_given : (name : Text) (words : List Text) (id : Text) (how : Reading) (s : ValueSource) (n : ℕ) (rows : List Row) → (id ≡ name → ⊥)
    → RowsGiven name words rows → RowsGiven name words (with_count id how s n rows)
with_count_given name words id how s n rows f h =
    let new : AllByRecursion (RowGiven name words) (record { id = id; values = count_text n ∷ []; count = Some n; source = Some s; reading = how } ∷ []) = ((λ at. absurd (f at)), tt) in
    at_row_keeps (RowGiven name words) id (new_count s n) (record { id = id; values = count_text n ∷ []; count = Some n; source = Some s; reading = how } ∷ []) rows
    (λ r is row. ((λ at. absurd (f (sym is ∙ at))), tt)) new h

used_as_given : (name : Text) (words : List Text) (action : ArgAction) (id : Text) (how : Reading) (values : List Text) (rows : List Row)
    → (id ≡ name → (action ≡ Set) × Values name words values) → RowsGiven name words rows → RowsGiven name words (used_as action id how values rows)
used_as_given name words Set id how values rows f h = with_values_given name words id how CommandLine values _ (λ is. (f is).1) (without_given name words id rows h)
used_as_given name words SetTrue id how values rows f h = with_values_given name words id how CommandLine values _ (λ is. (f is).1) (without_given name words id rows h)
used_as_given name words SetFalse id how values rows f h = with_values_given name words id how CommandLine values _ (λ is. (f is).1) (without_given name words id rows h)
used_as_given name words Append id how values rows f h = with_values_given name words id how CommandLine values rows (λ is. (f is).1) h
used_as_given name words Count id how [] rows f h = with_count_given name words id how CommandLine (min (count_of id rows + 1) 255) (without id rows) (λ is. not_set (f is).0) (without_given name words id rows h)
  where
    not_set : Count ≡ Set → ⊥
    not_set e = cc
used_as_given name words Count id how (v ∷ vs) rows f h = with_values_given name words id how CommandLine (v ∷ vs) _ (λ is. (f is).1) (without_given name words id rows h)
used_as_given name words Help id how values rows f h = h
used_as_given name words HelpShort id how values rows f h = h
used_as_given name words HelpLong id how values rows f h = h
used_as_given name words Version id how values rows f h = h

used_given : (name : Text) (words : List Text) (a : Rule) (values : List Text) (rows : List Row) → fits name a ≡ true → (a.id ≡ name → Values name words values)
    → RowsGiven name words rows → RowsGiven name words (used a values rows)
used_given name words a values rows fit f h =
    used_as_given name words (action_of a) a.id (reading_by a) (values_or_missing a values) rows
    (λ is. (set_is a.action a refl (option_facts name a fit is).set, filled values (option_facts name a fit is) (f is))) h
  where
    filled : (vs : List Text) → IsOption name a → Values name words vs → Values name words (values_or_missing a vs)
    filled [] facts g = subst (λ (l : List Text). Values name words l) (sym facts.missing) tt
    filled (v ∷ vs) facts g = g

settled_given : (name : Text) (words : List Text) (c : List Rule) (h : Held) → list_all (fits name) c ≡ true → IsHeld name words h → RowsGiven name words (settled c h).rows
settled_given name words c h all held = go h.pending held.pending
  where
    by : (p : Text × List Text) (o : Option Rule) → arg_by_id c p.0 ≡ o → (p.0 ≡ name → Values name words p.1) → RowsGiven name words (used_by_id o p.1 h.rows)
    by p None is g = held.rows
    by p (Some a) is g =
        let at = found (λ (x : Rule). bytes_eq x.id p.0) (fits name) c a all is in
        used_given name words a p.1 h.rows at.1 (λ same. g (sym (same_text a.id p.0 at.0) ∙ same)) held.rows

    go : (p : Option (Text × List Text)) → PendingGiven name words p → RowsGiven name words (settled_rows c p h.rows)
    go None g = held.rows
    go (Some p) g = by p (arg_by_id c p.0) refl g

reacted_given : (name : Text) (words : List Text) (c : List Rule) (a : Rule) (values : List Text) (h : Held) → list_all (fits name) c ≡ true → fits name a ≡ true
    → (a.id ≡ name → Values name words values) → IsHeld name words h → IsHeld name words (reacted c a values h)
reacted_given name words c a values h all fit f held = record {
  rows = used_given name words a values _ fit f (settled_given name words c h all held);
  pending = tt;
}

-- ---- what waits for a value

abbrev PendingFor : Text → Option (Text × List Text) → Type 0
PendingFor id None = Unit {0}
PendingFor id (Some p) = p.0 ≡ id

-- the last word is the option's name
abbrev EndsNamed : Text → List Text → Type 0
EndsNamed name words = (before : List Text) × (words ≡ before ++ (45 ∷ 45 ∷ name) ∷ [])

abbrev WaitingGiven : Text → List Text → Option (Text × List Text) → Waiting → Type 0
WaitingGiven name words p (option id) = PendingFor id p × (id ≡ name → EndsNamed name words)
WaitingGiven name words p idle = Unit {0}
WaitingGiven name words p positional = Unit {0}

-- what a word came to, if `old` was pending and this waited
abbrev OutcomeGiven : Text → List Text → Option (Text × List Text) → Option (Text × List Text) → Outcome → Type 0
OutcomeGiven name words old p done = Unit {0}
OutcomeGiven name words old p (waits id) = PendingFor id p × (id ≡ name → EndsNamed name words)
OutcomeGiven name words old p plain = (p ≡ old) ⊎ (p ≡ None)
OutcomeGiven name words old p refused = (p ≡ old) ⊎ (p ≡ None)

abbrev StepGiven : Text → List Text → Waiting → Option (Text × List Text) → Step → Type 0
StepGiven name words waiting p (next after) = WaitingGiven name words p after
StepGiven name words waiting p (trailing position) = Unit {0}
StepGiven name words waiting p (subcommand called) = ⊥
StepGiven name words waiting p value = WaitingGiven name words p waiting

abbrev MetGiven : Text → List Text → Waiting → Held × Step → Type 0
MetGiven name words waiting met = IsHeld name words met.0 × StepGiven name words waiting met.0.pending met.1

abbrev FlagGiven : Text → List Text → Option (Text × List Text) → Held × Outcome → Type 0
FlagGiven name words old met = IsHeld name words met.0 × OutcomeGiven name words old met.0.pending met.1

ends_given : (name : Text) (words : List Text) (word : Text) → EndsNamed name words → IsGiven name (words ++ word ∷ []) word
ends_given name words word ends = After ends.0 [] (ap (λ (l : List Text). l ++ word ∷ []) ends.1 ∙ append_assoc ends.0 ((45 ∷ 45 ∷ name) ∷ []) (word ∷ []))

-- ---- `--NAME` and `--NAME=VALUE`

strip_is : (b : ℕ) (xs rest : Text) → strip_byte b xs ≡ Some rest → xs ≡ b ∷ rest
strip_is b [] rest e = none_some rest e
strip_is b (x ∷ xs) rest e = go (x == b) refl e
  where
    go : (t : Bool) → (x == b) ≡ t → (if t then Some xs else None) ≡ Some rest → x ∷ xs ≡ b ∷ rest
    go true is at = let same : x ≡ b = grind (arith, nat_tests) in ap (λ (n : ℕ). n ∷ xs) same ∙ ap (λ (l : Text). b ∷ l) (some_is xs rest at)
    go false is at = none_some rest at

-- a text lacks `=` (61), or has a first one
cut : (text : Text) → Lacks 61 text ⊎ ((xs : Text) × (ys : Text) × Lacks 61 xs × (text ≡ xs ++ 61 ∷ ys))
cut [] = inl (λ i lt. absurd (omega arith))
cut (x ∷ text) = go (x == 61) refl (cut text)
  where
    more : (xs : Text) → (x == 61) ≡ false → Lacks 61 xs → Lacks 61 (x ∷ xs)
    more xs is lacks zero lt = grind (arith, nat_tests)
    more xs is lacks (suc i) lt = lacks i (omega arith)

    go : (t : Bool) → (x == 61) ≡ t → Lacks 61 text ⊎ ((xs : Text) × (ys : Text) × Lacks 61 xs × (text ≡ xs ++ 61 ∷ ys))
        → Lacks 61 (x ∷ text) ⊎ ((xs : Text) × (ys : Text) × Lacks 61 xs × (x ∷ text ≡ xs ++ 61 ∷ ys))
    go true is rest = inr ([], text, (λ i lt. absurd (omega arith)), ap (λ (n : ℕ). n ∷ text) (grind (arith, nat_tests)))
    go false is (inl lacks) = inl (more text is lacks)
    go false is (inr at) = inr (x ∷ at.0, at.1, more at.0 is at.2, ap (λ (l : Text). x ∷ l) at.3)

abbrev IsLong : Text → Text × Option Text → Type 0
IsLong word p = ((p.1 ≡ None) × (word ≡ 45 ∷ 45 ∷ p.0)) ⊎ ((t : Text) × (p.1 ≡ Some t) × (word ≡ 45 ∷ 45 ∷ (p.0 ++ 61 ∷ t)))

named_is : (text : Text) (p : Text × Option Text) → name_and_value text ≡ p → IsLong (45 ∷ 45 ∷ text) p
named_is text p e = go (cut text)
  where
    go : Lacks 61 text ⊎ ((xs : Text) × (ys : Text) × Lacks 61 xs × (text ≡ xs ++ 61 ∷ ys)) → IsLong (45 ∷ 45 ∷ text) p
    go (inl lacks) =
        let is = sym e ∙ name_and_value-without text lacks in
        inl (ap (λ (q : Text × Option Text). q.1) is, ap (λ (l : Text). 45 ∷ 45 ∷ l) (sym (ap (λ (q : Text × Option Text). q.0) is)))
    go (inr at) =
        let is = sym e ∙ (ap name_and_value at.3 ∙ name_and_value-at at.0 at.1 at.2) in
        inr (at.1, ap (λ (q : Text × Option Text). q.1) is, ap (λ (l : Text). 45 ∷ 45 ∷ l) (at.3 ∙ ap (λ (l : Text). l ++ 61 ∷ at.1) (sym (ap (λ (q : Text × Option Text). q.0) is))))

long_is : (word : Text) (p : Text × Option Text) → long_of word ≡ Some p → IsLong word p
long_is word p e = first (strip_byte 45 word) refl e
  where
    third : (text : Text) → word ≡ 45 ∷ 45 ∷ text → long_of_rest text ≡ Some p → IsLong word p
    third [] is at = none_some p at
    third (x ∷ xs) is at = subst (λ (w : Text). IsLong w p) (sym is) (named_is (x ∷ xs) p (some_is (name_and_value (x ∷ xs)) p at))

    second : (rest : Text) → word ≡ 45 ∷ rest → (o : Option Text) → strip_byte 45 rest ≡ o → option_and_then long_of_rest o ≡ Some p → IsLong word p
    second rest is None by at = none_some p at
    second rest is (Some text) by at = third text (is ∙ ap (λ (l : Text). 45 ∷ l) (strip_is 45 rest text by)) at

    first : (o : Option Text) → strip_byte 45 word ≡ o → option_and_then long_of_rest (option_and_then (strip_byte 45) o) ≡ Some p → IsLong word p
    first None by at = none_some p at
    first (Some rest) by at = second rest (strip_is 45 word rest by) (strip_byte 45 rest) refl at

alone : (b : Bool) → (b || false) ≡ true → b ≡ true
alone true e = refl
alone false e = e

-- an option that this long name calls has that name
called : (name : Text) (a : Rule) (n : Text) → IsOption name a → has_long a n ≡ true → n ≡ name
called name a n facts has = go a.long a.aliases facts.long facts.aliases has
  where
    go : (o : Option Text) (l : List Text) → is_name name o ≡ true → l ≡ [] → (option_map_or (λ s. bytes_eq s n) o false || list_any (λ alias. bytes_eq alias n) l) ≡ true → n ≡ name
    go None l is none at = absurd (true≢false (sym is))
    go (Some s) (x ∷ l) is none at = absurd (cons_none x l none)
    go (Some s) [] is none at = sym (same_text s n (alone (bytes_eq s n) at)) ∙ same_text s name is

-- ---- a word that is no flag

module _ (name : Text) (c : List Rule) (all : list_all (fits name) c ≡ true) (known : is_some (arg_by_id c name) ≡ true) where
  pushed_given : (words : List Text) (id word : Text) (h : Held) → IsHeld name (words ++ word ∷ []) h → PendingFor id h.pending → (id ≡ name → EndsNamed name words)
      → IsHeld name (words ++ word ∷ []) (pushed id word h) × ((started id h.pending).0 ≡ id)
  pushed_given words id word h held for ends = (record { rows = held.rows; pending = (go h.pending for held.pending).0 }, (go h.pending for held.pending).1)
    where
      go : (p : Option (Text × List Text)) → PendingFor id p → PendingGiven name (words ++ word ∷ []) p
          → ((started id p).0 ≡ name → Values name (words ++ word ∷ []) ((started id p).1 ++ word ∷ [])) × ((started id p).0 ≡ id)
      go None f g = ((λ is. (ends_given name words word (ends is), tt)), refl)
      go (Some p) f g = ((λ is. all_append (IsGiven name (words ++ word ∷ [])) p.1 (word ∷ []) (g is) (ends_given name words word (ends (sym f ∙ is)), tt)), f)

  -- one value is enough
  enough : (a : Rule) (first : Text) (values : List Text) (word : Text) → first ≡ a.id → (most_values a == 1) ≡ true → nat_lt (pending_count a (Some (first, values ++ word ∷ []))) (most_values a) ≡ false
  enough a first values word is most =
      let one : most_values a ≡ 1 = is_one (most_values a) most in
      rw (text_same first a.id is, one) (le-ltb (length (values ++ word ∷ [])) 1 (some values))
    where
      is_one : (n : ℕ) → (n == 1) ≡ true → n ≡ 1
      is_one n e = grind (arith, nat_tests)

      some : (xs : List Text) → 1 ≤ length (xs ++ word ∷ [])
      some [] = omega arith
      some (x ∷ xs) = omega arith

  plain_given : (words : List Text) (waiting : Waiting) (word : Text) (h : Held) → IsHeld name (words ++ word ∷ []) h → WaitingGiven name words h.pending waiting
      → MetGiven name (words ++ word ∷ []) waiting (plain_word c waiting word h)
  plain_given words idle word h held wait = (held, tt)
  plain_given words positional word h held wait = (held, tt)
  plain_given words (option id) word h held wait = go (arg_by_id c id) refl
    where
      put : IsHeld name (words ++ word ∷ []) (pushed id word h) × ((started id h.pending).0 ≡ id)
      put = pushed_given words id word h held wait.0 wait.1

      more : (a : Rule) → arg_by_id c id ≡ Some a → (b : Bool) → nat_lt (pending_count a (pushed id word h).pending) (most_values a) ≡ b
          → WaitingGiven name (words ++ word ∷ []) (pushed id word h).pending (if b then option id else idle)
      more a is false e = tt
      more a is true e = (
        put.1,
        λ same.
            let at = found (λ (x : Rule). bytes_eq x.id id) (fits name) c a all is in
            let same_id = same_text a.id id at.0 in
            let full = enough a (started id h.pending).0 (started id h.pending).1 word (put.1 ∙ sym same_id) (option_facts name a at.1 (same_id ∙ same)).most in
            absurd (true≢false (sym e ∙ full)),
      )

      go : (o : Option Rule) → arg_by_id c id ≡ o → MetGiven name (words ++ word ∷ []) (option id) ((option_word o id word h).0, next (option_word o id word h).1)
      go None is = (held, (wait.0, λ same. absurd (true≢false (sym known ∙ ap (λ (o : Option Rule). is_some o) (ap (arg_by_id c) (sym same) ∙ is)))))
      go (Some a) is = (put.0, more a is _ refl)

  -- ---- flags

  still : (words : List Text) (waiting : Waiting) (old p : Option (Text × List Text)) → (p ≡ old) ⊎ (p ≡ None) → WaitingGiven name words old waiting → WaitingGiven name words p waiting
  still words waiting old p (inl same) wait = subst (λ (q : Option (Text × List Text)). WaitingGiven name words q waiting) (sym same) wait
  still words idle old p (inr none) wait = tt
  still words positional old p (inr none) wait = tt
  still words (option id) old p (inr none) wait = (subst (λ (q : Option (Text × List Text)). PendingFor id q) (sym none) tt, wait.1)

  flag_given : (words : List Text) (waiting : Waiting) (word : Text) (old : Option (Text × List Text)) (met : Held × Outcome) → FlagGiven name (words ++ word ∷ []) old met
      → WaitingGiven name words old waiting → MetGiven name (words ++ word ∷ []) waiting (after_flag c waiting word met.0 met.1)
  flag_given words waiting word old (h, done) (held, out) wait = (held, tt)
  flag_given words waiting word old (h, waits id) (held, out) wait = (held, out)
  flag_given words waiting word old (h, plain) (held, out) wait = plain_given words waiting word h held (still words waiting old h.pending out wait)
  flag_given words waiting word old (h, refused) (held, out) wait = plain_given words waiting word h held (still words waiting old h.pending out wait)

  -- an option, with the value that is attached to it
  option_given : (words : List Text) (old : Option (Text × List Text)) (a : Rule) (v : Option Text) (h : Held) → fits name a ≡ true
      → ((t : Text) → v ≡ Some t → a.id ≡ name → IsGiven name words t) → (v ≡ None → a.id ≡ name → EndsNamed name words) → IsHeld name words h
      → FlagGiven name words old (option_met c a v h)
  option_given words old a (Some t) h fit f ends held = (reacted_given name words c a (t ∷ []) h all fit (λ is. (f t refl is, tt)) held, tt)
  option_given words old a None h fit f ends held = (record { rows = settled_given name words c h all held; pending = λ is. tt }, (refl, ends refl))

  unnamed : (a : Rule) (x : ℕ) → fits name a ≡ true → has_short a x ≡ true → a.id ≡ name → ⊥
  unnamed a x fit has is = let facts = option_facts name a fit is in true≢false (sym has ∙ none a.short a.short_aliases facts.short facts.short_aliases)
    where
      none : (o : Option ℕ) (l : List ℕ) → is_some o ≡ false → l ≡ [] → (option_map_or (λ s. s == x) o false || list_any (λ s. s == x) l) ≡ false
      none None l e is = rw is refl
      none (Some s) l e is = absurd (true≢false e)

  bundle_given : (words : List Text) (k : ℕ) (flags : Text) (skip : ℕ) (so_far : Outcome) (h : Held) (old : Option (Text × List Text)) → IsHeld name words h
      → (h.pending ≡ old) ⊎ (h.pending ≡ None) → OutcomeGiven name words old h.pending so_far → FlagGiven name words old (bundle_met c k flags skip so_far h)
  unfolding bundle_met
  bundle_given words zero flags skip so_far h old held from out = (held, out)
  bundle_given words (suc k) flags skip so_far h old held from out = go (λ rest less step now. bundle_given words k rest less step now old) (slice_get (chars flags) 0) skip
    where
      More : Type 0
      More = (rest : Text) (less : ℕ) (step : Outcome) (now : Held) → IsHeld name words now → (now.pending ≡ old) ⊎ (now.pending ≡ None)
          → OutcomeGiven name words old now.pending step → FlagGiven name words old (bundle_met c k rest less step now)

      takes : More → (a : Rule) (rest : Text) (b : Bool) → fits name a ≡ true → (a.id ≡ name → ⊥)
          → FlagGiven name words old (if b then option_met c a (attached_value rest) h else bundle_met c k rest 0 done (reacted c a [] h))
      takes more a rest true fit un = option_given words old a (attached_value rest) h fit (λ t e is. absurd (un is)) (λ e is. absurd (un is)) held
      takes more a rest false fit un = more rest 0 done (reacted c a [] h) (reacted_given name words c a [] h all fit (λ is. tt) held) (inr refl) tt

      short : More → (x : ℕ) (rest : Text) (o : Option Rule) → arg_by_short c x ≡ o → FlagGiven name words old (short_met c o rest h (bundle_met c k rest 0 done))
      short more x rest None is = (held, from)
      short more x rest (Some a) is =
          let at = found (λ (r : Rule). not (is_some r.index) && has_short r x) (fits name) c a all is in
          takes more a rest (takes_values a) at.1 (unnamed a x at.1 (both (not (is_some a.index)) (has_short a x) at.0).1)

      go : More → (o : Option ℕ) (n : ℕ) → FlagGiven name words old (bundle_step c o flags n so_far h (bundle_met c k))
      go more None n = (held, out)
      go more (Some x) zero = short more x (drop (length (encode_utf8 x)) flags) (arg_by_short c x) refl
      go more (Some x) (suc n) = more (drop (length (encode_utf8 x)) flags) n so_far h held from out

  long_given : (words : List Text) (word : Text) (p : Text × Option Text) (h : Held) → long_of word ≡ Some p → IsHeld name (words ++ word ∷ []) h
      → FlagGiven name (words ++ word ∷ []) h.pending (long_met c (arg_by_long c p.0) p.1 h)
  long_given words word p h is held = go (arg_by_long c p.0) refl
    where
      all_words : List Text
      all_words = words ++ word ∷ []

      valued : (t : Text) → IsLong word p → p.1 ≡ Some t → p.0 ≡ name → IsGiven name all_words t
      valued t (inl none) at same = none_some t (sym none.0 ∙ at)
      valued t (inr some) at same = With words [] (ap (λ (w : Text). words ++ w ∷ []) (some.2
          ∙ (ap (λ (n : Text). 45 ∷ 45 ∷ (n ++ 61 ∷ some.0)) same ∙ ap (λ (v : Text). 45 ∷ 45 ∷ (name ++ 61 ∷ v)) (some_is some.0 t (sym some.1 ∙ at)))))

      ends : IsLong word p → p.1 ≡ None → p.0 ≡ name → EndsNamed name all_words
      ends (inl none) at same = (words, ap (λ (w : Text). words ++ w ∷ []) (none.1 ∙ ap (λ (n : Text). 45 ∷ 45 ∷ n) same))
      ends (inr some) at same = none_some some.0 (sym at ∙ some.1)

      flag : (a : Rule) (o : Option Text) → fits name a ≡ true → FlagGiven name all_words h.pending (flag_met c a o h)
      flag a (Some v) fit = (held, inl refl)
      flag a None fit = (reacted_given name all_words c a [] h all fit (λ same. tt) held, tt)

      takes : (a : Rule) (b : Bool) → fits name a ≡ true → has_long a p.0 ≡ true → FlagGiven name all_words h.pending (if b then option_met c a p.1 h else flag_met c a p.1 h)
      takes a true fit has = option_given all_words h.pending a p.1 h fit
          (λ t at same. valued t (long_is word p is) at (called name a p.0 (option_facts name a fit same) has))
          (λ at same. ends (long_is word p is) at (called name a p.0 (option_facts name a fit same) has)) held
      takes a false fit has = flag a p.1 fit

      go : (o : Option Rule) → arg_by_long c p.0 ≡ o → FlagGiven name all_words h.pending (long_met c o p.1 h)
      go None at = (held, inl refl)
      go (Some a) at =
          let by = found (λ (r : Rule). not (is_some r.index) && has_long r p.0) (fits name) c a all at in
          takes a (takes_values a) by.1 (both (not (is_some a.index)) (has_long a p.0) by.0).1

  -- ---- a word

  word_given : (words : List Text) (waiting : Waiting) (position : ℕ) (word : Text) (h : Held) → IsHeld name words h → WaitingGiven name words h.pending waiting
      → MetGiven name (words ++ word ∷ []) waiting (subcommand_or_other c None waiting position word h)
  word_given words waiting position word h held wait = go (bytes_eq word (45 ∷ 45 ∷ []))
    where
      now : IsHeld name (words ++ word ∷ []) h
      now = held_more name words word h held

      bundled : (flags : Text) → MetGiven name (words ++ word ∷ []) waiting (short_word c waiting word flags h)
      bundled flags = flag_given words waiting word h.pending (bundle c flags h)
          (bundle_given (words ++ word ∷ []) (length flags) flags h.skip plain (record h { skip = 0 }) h.pending (record { rows = now.rows; pending = now.pending }) (inl refl) (inl refl)) wait

      shorts : (o : Option Text) → MetGiven name (words ++ word ∷ []) waiting (short_or_plain c waiting word o h)
      shorts None = plain_given words waiting word h now wait
      shorts (Some flags) = bundled flags

      longs : (o : Option (Text × Option Text)) → long_of word ≡ o → MetGiven name (words ++ word ∷ []) waiting (long_or_other c waiting word o h)
      longs None is = shorts (short_of word)
      longs (Some p) is = flag_given words waiting word h.pending (long_met c (arg_by_long c p.0) p.1 h) (long_given words word p h is now) wait

      go : (b : Bool) → MetGiven name (words ++ word ∷ []) waiting (if b then (h, trailing position) else long_or_other c waiting word (long_of word) h)
      go true = (now, tt)
      go false = longs (long_of word) refl

  -- ---- the walk

  record IsWalked (words : List Text) (w : Walk) : Type 0 where
    held : IsHeld name words w.held
    waiting : w.is_trailing ≡ false → WaitingGiven name words w.held.pending w.waiting
    stopped : w.stopped ≡ None

  no_position : (position : ℕ) → arg_by_index c position ≡ None
  no_position position = nowhere (λ (a : Rule). option_map_or (λ k. k == position) a.index false) (fits name) c (λ a fit. none a.index (denied (is_some a.index) (both (not (is_some a.index)) _ fit).0)) all
    where
      none : (o : Option ℕ) → is_some o ≡ false → option_map_or (λ k. k == position) o false ≡ false
      none None e = refl
      none (Some k) e = absurd (true≢false e)

  to_none : (words : List Text) (word : Text) (w : Walk) (h : Held) (o : Option Rule) → o ≡ None → IsHeld name words h → (w.is_trailing ≡ false → WaitingGiven name words h.pending w.waiting)
      → w.stopped ≡ None → IsWalked words (to_positional c o word w h)
  to_none words word w h None is held wait stopped = record { held = held; waiting = wait; stopped = stopped }
  to_none words word w h (Some a) is held wait stopped = none_some a (sym is)

  after_given : (words : List Text) (word : Text) (w : Walk) (met : Held × Step) → MetGiven name words w.waiting met → w.stopped ≡ None → IsWalked words (after_step c word w met.0 met.1)
  after_given words word w (h, next after) (held, step) stopped = record { held = held; waiting = λ _. step; stopped = stopped }
  after_given words word w (h, trailing position) (held, step) stopped = record { held = held; waiting = λ is. absurd (true≢false is); stopped = stopped }
  after_given words word w (h, subcommand name_met) (held, step) stopped = absurd step
  after_given words word w (h, value) (held, step) stopped = to_none words word w h (arg_by_index c w.position) (no_position w.position) held (λ _. step) stopped

  no_subcommand : (waiting : Waiting) (word : Text) → subcommand_met [] waiting word ≡ None
  no_subcommand idle word = refl
  no_subcommand positional word = refl
  no_subcommand (option id) word = refl

  walked_given : (words : List Text) (word : Text) (w : Walk) → IsWalked words w → IsWalked (words ++ word ∷ []) (walked c [] w word)
  unfolding walked
  walked_given words word w so = go w.stopped so.stopped
    where
      turn : (b : Bool) → w.is_trailing ≡ b → IsWalked (words ++ word ∷ []) (after_step c word w (word_met c [] b w.waiting w.position word w.held).0 (word_met c [] b w.waiting w.position word w.held).1)
      turn true is = to_none (words ++ word ∷ []) word w w.held (arg_by_index c w.position) (no_position w.position) (held_more name words word w.held so.held)
          (λ no. absurd (true≢false (sym is ∙ no))) so.stopped
      turn false is = after_given (words ++ word ∷ []) word w (word_met c [] false w.waiting w.position word w.held)
          (subst (λ (o : Option Text). MetGiven name (words ++ word ∷ []) w.waiting (subcommand_or_other c o w.waiting w.position word w.held)) (sym (no_subcommand w.waiting word))
          (word_given words w.waiting w.position word w.held so.held (so.waiting is))) so.stopped

      go : (o : Option (Text × List Text)) → o ≡ None → IsWalked (words ++ word ∷ []) (walked_from c [] o w word)
      go None is = turn w.is_trailing refl
      go (Some p) is = none_some p (sym is)

  fold_given : (before after : List Text) (w : Walk) → IsWalked before w → IsWalked (before ++ after) (fold (walked c []) w after)
  fold_given before [] w so = subst (λ (l : List Text). IsWalked l w) (sym (append-nil before)) so
  fold_given before (word ∷ after) w so =
      subst (λ (l : List Text). IsWalked l (fold (walked c []) (walked c [] w word) after)) (append_assoc before (word ∷ []) after)
      (fold_given (before ++ word ∷ []) after (walked c [] w word) (walked_given before word w so))

  -- ---- the rows at the end

  default_given : (words : List Text) (a : Rule) (rows : List Row) → fits name a ≡ true → RowsGiven name words rows → RowsGiven name words (with_default rows a)
  default_given words a rows fit h = go (has_row a.id rows)
    where
      filled : (vs : List Text) → (a.id ≡ name → vs ≡ []) → RowsGiven name words (default_rows a.id (reading_by a) vs rows)
      filled [] none = h
      filled (v ∷ vs) none = with_values_given name words a.id (reading_by a) DefaultValue (v ∷ vs) rows (λ is. absurd (cons_none v vs (none is))) h

      go : (b : Bool) → RowsGiven name words (if b then rows else default_rows a.id (reading_by a) a.defaults rows)
      go true = h
      go false = filled a.defaults (λ is. (option_facts name a fit is).defaults)

  defaults_given : (words : List Text) (some : List Rule) (rows : List Row) → list_all (fits name) some ≡ true → RowsGiven name words rows → RowsGiven name words (fold with_default rows some)
  defaults_given words [] rows fit h = h
  defaults_given words (a ∷ some) rows fit h =
      let each = both (fits name a) (list_all (fits name) some) fit in
      defaults_given words some (with_default rows a) each.1 (default_given words a rows each.0 h)

  first_given : (words : List Text) (v : Text) (rows : List Row) → RowsGiven name words rows → first_of name rows ≡ Some v → IsGiven name words v
  first_given words v [] h is = none_some v is
  first_given words v (r ∷ rows) h is = go (bytes_eq r.id name) refl (first_given words v rows h.1) is
    where
      at : (values : List Text) → Values name words values → slice_get values 0 ≡ Some v → IsGiven name words v
      at [] g e = none_some v e
      at (x ∷ values) g e = subst (λ (one : Text). IsGiven name words one) (some_is x v e) g.0

      go : (b : Bool) → bytes_eq r.id name ≡ b → (first_of name rows ≡ Some v → IsGiven name words v)
          → option_and_then (λ (row : Row). slice_get row.values 0) (if b then Some r else find (λ (row : Row). bytes_eq row.id name) rows) ≡ Some v → IsGiven name words v
      go true same rest e = at r.values (h.0 (same_text r.id name same)) e
      go false same rest e = rest e

  walked_values : (words : List Text) (v : Text) → first_of name (rows_after c [] words) ≡ Some v → IsGiven name words v
  walked_values words v is =
      let end = fold_given [] words (walk_from nothing_held) (record { held = record { rows = tt; pending = tt }; waiting = λ _. tt; stopped = refl }) in
      first_given words v _ (defaults_given words c _ all (settled_given name words c _ all end.held)) is

-- a value that is read of the option of this name was given
pub values_given : (name : Text) (c : List Rule) → are_fit name c ≡ true → (words : List Text) (v : Text) → first_of name (rows_after c [] words) ≡ Some v → IsGiven name words v
values_given name c fit = let tests = both (list_all (fits name) c) (is_some (arg_by_id c name)) fit in walked_values name c tests.0 tests.1
