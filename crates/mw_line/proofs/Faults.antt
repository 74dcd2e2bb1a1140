-- A reader that sees a large number as a smaller one finds the same first fault in a line as the grammar does or, without a
-- fault, the same command.
-- Used by: read_line.
use Rattle.std.proofs.Common.{◌≡◌, ℕ, ◌+◌, Bool, true, false, cond, ltb, leb, ◌&&◌, List, [], ◌∷◌, length, map, Option, Some, None, Result, Ok, Err, ◌⊎◌, inl, inr, refl, sym, ap, ap₂, subst, ◌∙◌, arith}
use Rattle.std.specs.List.{list_all}
use Rattle.std.specs.Prelude.{IfOk, ◌↔◌}
use Rattle.std.proofs.lemmas.List.{length-map}
use Rattle.std.proofs.lemmas.Bool.Decides.{nat_tests}
use Rattle.mw_words.specs.declared.limits.TheConstants.{MAX_ENTRIES, MAX_VALUE, MAX_WORDS}
use Rattle.mw_words.specs.declared.jobs.Entry.{Entry}
use Rattle.mw_words.specs.Change.{rises, rises_from}
use Rattle.mw_line.specs.declared.requests.LineFault.{LineFault}
use Rattle.mw_line.specs.declared.requests.LineFault.TheVariants.{NotACommand, AddressRange, AddressOrder, TooManyEntries, ValueRange}
use Rattle.mw_line.specs.declared.requests.Request.{Request}
use Rattle.mw_line.specs.declared.requests.Request.TheVariants as request
use Rattle.mw_words.specs.declared.jobs.Job.TheVariants as job
use Rattle.mw_line.specs.Grammar.{Command, Tenant, Admin, Get, Cas, Report, Quit, IsCommand, Spells}
use Rattle.mw_line.specs.Limits.{addr_fits, values_fit, first_fault, command_of, Answers, FitsLargestTenant}
use Rattle.mw_line.specs.LineReader.{narrow, reading, Answered}
use Rattle.mw_line.proofs.Entries.{seen_entry}
use Rattle.mw_line.proofs.ChangeReader.{order_is_left}
use Rattle.mw_line.proofs.Commands.{seen_command, reading_again, reading_found}

-- ---- entry by entry

addr_seen : (n : ℕ) → ltb (narrow.addr n) MAX_WORDS ≡ ltb n MAX_WORDS
addr_seen n = grind (arith, nat_tests)

value_seen : (n : ℕ) → leb (narrow.value n) MAX_VALUE ≡ leb n MAX_VALUE
value_seen n = grind (arith, nat_tests)

addrs_fit_seen : (es : List Entry) → list_all addr_fits (map (seen_entry narrow) es) ≡ list_all addr_fits es
addrs_fit_seen [] = refl
addrs_fit_seen (e ∷ es) = ap₂ (λ (a b : Bool). a && b) (addr_seen e.addr) (addrs_fit_seen es)

values_fit_seen : (es : List Entry) → list_all values_fit (map (seen_entry narrow) es) ≡ list_all values_fit es
values_fit_seen [] = refl
values_fit_seen (e ∷ es) = ap₂ (λ (a b : Bool). a && b) (ap₂ (λ (a b : Bool). a && b) (value_seen e.expected) (value_seen e.new)) (values_fit_seen es)

both : (a b : Bool) → (a && b) ≡ true → (a ≡ true) × (b ≡ true)
both true b h = (refl, h)
both false b h = absurd cc

addr_same : (n : ℕ) → ltb n MAX_WORDS ≡ true → narrow.addr n ≡ n
addr_same n h = grind (arith, nat_tests)

value_same : (n : ℕ) → leb n MAX_VALUE ≡ true → narrow.value n ≡ n
value_same n h = grind (arith, nat_tests)

rises_seen : (low : ℕ) (es : List Entry) → list_all addr_fits es ≡ true → rises_from low (map (seen_entry narrow) es) ≡ rises_from low es
rises_seen low [] h = refl
rises_seen low (e ∷ es) h =
    let p = both _ _ h in
    rw (addr_same e.addr p.0) (ap (λ (b : Bool). leb low e.addr && b) (rises_seen (e.addr + 1) es p.1))

same_entry : (e : Entry) → ltb e.addr MAX_WORDS ≡ true → values_fit e ≡ true → seen_entry narrow e ≡ e
same_entry e a v =
    let p = both _ _ v in
    rw (addr_same e.addr a, value_same e.expected p.0, value_same e.new p.1) refl

same_entries : (es : List Entry) → list_all addr_fits es ≡ true → list_all values_fit es ≡ true → map (seen_entry narrow) es ≡ es
same_entries [] a v = refl
same_entries (e ∷ es) a v =
    let p = both _ _ a in
    let q = both _ _ v in
    ap₂ (λ (x : Entry) (xs : List Entry). x ∷ xs) (same_entry e p.0 q.0) (same_entries es p.1 q.1)

-- ---- the whole command

chain : Bool → Bool → Bool → Bool → Option LineFault
chain long values addrs order = cond long (Some TooManyEntries) (cond values (cond addrs (cond order None (Some AddressOrder)) (Some AddressRange)) (Some ValueRange))

chain_same : (l v a o p : Bool) → (a ≡ true → o ≡ p) → chain l v a o ≡ chain l v a p
unfolding chain
chain_same l v true o p h = rw (h refl) refl
chain_same l v false o p h = refl

pub record AllFine (l v a o : Bool) : Type 0 where
  pub few : l ≡ false
  pub values : v ≡ true
  pub addrs : a ≡ true
  pub order : o ≡ true

chain_none : (l v a o : Bool) → chain l v a o ≡ None → AllFine l v a o
unfolding chain
chain_none true v a o h = absurd cc
chain_none false true true true h = record { few = refl; values = refl; addrs = refl; order = refl }
chain_none false true true false h = absurd cc
chain_none false true false o h = absurd cc
chain_none false false a o h = absurd cc

fault_by_chain : (es : List Entry) → first_fault (Cas es) ≡ chain (ltb MAX_ENTRIES (length es)) (list_all values_fit es) (list_all addr_fits es) (rises es)
unfolding chain
fault_by_chain es = refl

fault_seen : (c : Command) → first_fault (seen_command narrow c) ≡ first_fault c
unfolding chain
fault_seen (Tenant name) = refl
fault_seen Admin = refl
fault_seen (Get addr) = rw (addr_seen addr) refl
fault_seen (Cas es) = rw (length-map, values_fit_seen es, addrs_fit_seen es) (chain_same (ltb MAX_ENTRIES (length es)) (list_all values_fit es) (list_all addr_fits es) _ _ (rises_seen 0 es))
fault_seen Report = refl
fault_seen Quit = refl

abbrev no_fault : Option LineFault
no_fault = None

in_range : (b : Bool) → cond b no_fault (Some AddressRange) ≡ no_fault → b ≡ true
in_range true h = refl
in_range false h = absurd cc

fine_is_seen : (c : Command) → first_fault c ≡ None → seen_command narrow c ≡ c
fine_is_seen (Tenant name) h = refl
fine_is_seen Admin h = refl
fine_is_seen (Get addr) h = ap Get (addr_same addr (in_range (ltb addr MAX_WORDS) h))
fine_is_seen (Cas es) h =
    let p = chain_none (ltb MAX_ENTRIES (length es)) (list_all values_fit es) (list_all addr_fits es) (rises es) (sym (fault_by_chain es) ∙ h) in
    ap Cas (same_entries es p.addrs p.values)
fine_is_seen Report h = refl
fine_is_seen Quit h = refl

chain_never : (l v a o : Bool) → chain l v a o ≡ Some NotACommand → ⊥
unfolding chain
chain_never true v a o h = absurd cc
chain_never false true true true h = absurd cc
chain_never false true true false h = absurd cc
chain_never false true false o h = absurd cc
chain_never false false a o h = absurd cc

range_or_none : (b : Bool) → cond b None (Some AddressRange) ≡ Some NotACommand → ⊥
range_or_none true h = absurd cc
range_or_none false h = absurd cc

-- a line that says a command is never answered as no command
never : (c : Command) → first_fault c ≡ Some NotACommand → ⊥
never (Tenant name) h = absurd cc
never Admin h = absurd cc
never (Get addr) h = range_or_none (ltb addr MAX_WORDS) h
never (Cas es) h = chain_never (ltb MAX_ENTRIES (length es)) (list_all values_fit es) (list_all addr_fits es) (rises es) (sym (fault_by_chain es) ∙ h)
never Report h = absurd cc
never Quit h = absurd cc

answers_seen : (c : Command) (r : Result Request LineFault) → Answers (seen_command narrow c) r → Answers c r
answers_seen c (Ok q) h =
    let fine : first_fault c ≡ None = sym (fault_seen c) ∙ h.0 in
    (fine, h.1 ∙ fine_is_seen c fine)
answers_seen c (Err f) h = sym (fault_seen c) ∙ h

-- ---- which jobs are asked for

fits_largest : (q : Request) → IsCommand (command_of q) → first_fault (command_of q) ≡ None → FitsLargestTenant q
fits_largest (request.Tenant name) c h = tt
fits_largest request.Admin c h = tt
fits_largest (request.Job (job.Get addr)) c h = in_range (ltb addr MAX_WORDS) h
fits_largest (request.Job (job.Cas entries)) c h =
    let es = entries.items in
    let p = chain_none (ltb MAX_ENTRIES (length es)) (list_all values_fit es) (list_all addr_fits es) (rises es) (sym (fault_by_chain es) ∙ h) in
    order_is_left es c p.few p.addrs p.values ∙ p.order
fits_largest request.Report c h = tt
fits_largest request.Quit c h = tt

-- ---- how a line is answered

pub is_answered : (line : List ℕ) (r : Result Request LineFault) → Answered (reading narrow line) r → (c : Command) → Spells c line → Answers c r
is_answered line r h c spells =
    answers_seen c r (subst (λ (o : Option Command). Answered o r) (reading_again narrow c line spells) h)

ok_read : (line : List ℕ) (c : Command) (r : Result Request LineFault) → Spells c line → Answers c r → IfOk r (λ q. Spells (command_of q) line × (first_fault (command_of q) ≡ None))
ok_read line c (Ok q) spells h = subst (λ (d : Command). Spells d line × (first_fault d ≡ None)) (sym h.1) (spells, h.0)
ok_read line c (Err f) spells h = tt

-- what reading says of a line: the line says no command, and is answered so, or it says this command
unread : (line : List ℕ) (r : Result Request LineFault) (o : Option Command) → reading narrow line ≡ o → Answered o r → (r ≡ Err NotACommand) ⊎ ((c : Command) × Spells c line × Answers c r)
unread line r None e h = inl h
unread line r (Some m) e h =
    let read = reading_found narrow line m e in
    inr (read.command, read.spells, answers_seen read.command r (subst (λ (d : Command). Answers d r) read.value h))

pub is_read : (line : List ℕ) (r : Result Request LineFault) → Answered (reading narrow line) r → IfOk r (λ q. Spells (command_of q) line × (first_fault (command_of q) ≡ None))
is_read line r h =
    elim (unread line r (reading narrow line) refl h) [
      | inl refused ↦ rw refused tt
      | inr read ↦ ok_read line read.0 r read.1 read.2
    ]

pub job_fits : (line : List ℕ) (r : Result Request LineFault) → IfOk r (λ q. Spells (command_of q) line × (first_fault (command_of q) ≡ None)) → IfOk r FitsLargestTenant
job_fits line (Ok q) h = fits_largest q h.0.0 h.1
job_fits line (Err f) h = tt

pub is_refused : (line : List ℕ) (r : Result Request LineFault) → Answered (reading narrow line) r → (r ≡ Err NotACommand) ↔ ((c : Command) → ¬ Spells c line)
is_refused line r h = (
  λ refused c spells. never c (subst (λ (x : Result Request LineFault). Answers c x) refused (is_answered line r h c spells)),
  λ none. elim (unread line r (reading narrow line) refl h) [
    | inl refused ↦ refused
    | inr read ↦ absurd (none read.0 read.1)
  ],
)
