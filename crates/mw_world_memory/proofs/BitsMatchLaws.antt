-- If bits match the shared words of a world, they still match after the same write of both at one place.
-- Used by: Cells::get, Cells::put, put_word, mw_simulator.
use Rattle.std.specs.Prelude.{ℕ, zero, suc, ◌≡◌, ◌≢◌, ◌+◌, ◌*◌, ◌<◌, ◌⊎◌, Bool, true, false, cond, nat_lt, List, [], ◌∷◌, length, map, is_some, slice_get, slice_set, slice_index_or, IfSome, Some, None}
use Rattle.std.specs.declared.option.Option.{Option}
use Rattle.std.proofs.Common.{refl, sym, ap, subst, ◌∙◌, inl, inr, arith}
use Rattle.std.proofs.lemmas.Bool.{cases_eq}
use Rattle.std.proofs.lemmas.List.{map-set, get_or-map}
use Rattle.std.proofs.lemmas.Bool.Decides.{nat_tests}
use Rattle.mw_words.specs.declared.limits.TheConstants.{MAX_ENTRIES}
use Rattle.mw_words.specs.declared.places.At.{At}
use Rattle.mw_words.specs.declared.places.At.TheVariants.{Door as AtDoor, Gate as AtGate, Row as AtRow, Data, Status as AtStatus, Count, Addr, Expected, New}
use Rattle.mw_look.specs.Places.{Val, Fits, pack}
use Rattle.mw_world.specs.Definition.Cells.{Cells, read, write, AllFit}
use Rattle.mw_world.proofs.PlacesApart.{read-same, read-other}
use Rattle.mw_world_memory.specs.Bits.{Bits, bits_at, put_bits, is_there, entry_at, with_entry, word_bits, with_word, SamePlaces}
use Rattle.mw_world_memory.specs.BitsMatch.{BitsMatch}

-- an element that was set, if there is one
got_same : (xs : List ℕ) (i x : ℕ) → IfSome (slice_get (slice_set xs i x) i) (λ y. y ≡ x)
got_same [] i x = tt
got_same (y ∷ ys) zero x = refl
got_same (y ∷ ys) (suc i) x = got_same ys i x

got_other : (xs : List ℕ) (i k x : ℕ) → k ≢ i → slice_get (slice_set xs i x) k ≡ slice_get xs k
got_other [] i k x apart = refl
got_other (y ∷ ys) zero zero x apart = absurd (apart refl)
got_other (y ∷ ys) zero (suc k) x apart = refl
got_other (y ∷ ys) (suc i) zero x apart = refl
got_other (y ∷ ys) (suc i) (suc k) x apart = got_other ys i k x (λ e. apart (ap suc e))

got_there : (xs : List ℕ) (i x : ℕ) → is_some (slice_get (slice_set xs i x) i) ≡ is_some (slice_get xs i)
got_there [] i x = refl
got_there (y ∷ ys) zero x = refl
got_there (y ∷ ys) (suc i) x = got_there ys i x

-- the same for an entry
entry_same : (xs : List ℕ) (slot entry x : ℕ) → IfSome (entry_at (with_entry xs slot entry x) slot entry) (λ y. y ≡ x)
entry_same xs slot entry x = by (nat_lt entry MAX_ENTRIES)
  where
    by : (low : Bool) → IfSome (cond low (slice_get (cond low (slice_set xs (slot * MAX_ENTRIES + entry) x) xs) (slot * MAX_ENTRIES + entry)) None) (λ y. y ≡ x)
    by true = got_same xs (slot * MAX_ENTRIES + entry) x
    by false = tt

entry_there : (xs : List ℕ) (slot entry x : ℕ) → is_some (entry_at (with_entry xs slot entry x) slot entry) ≡ is_some (entry_at xs slot entry)
entry_there xs slot entry x = by (nat_lt entry MAX_ENTRIES)
  where
    by : (low : Bool) → is_some (cond low (slice_get (cond low (slice_set xs (slot * MAX_ENTRIES + entry) x) xs) (slot * MAX_ENTRIES + entry)) None) ≡ is_some (cond low (slice_get xs (slot * MAX_ENTRIES + entry)) None)
    by true = got_there xs (slot * MAX_ENTRIES + entry) x
    by false = refl

entry_other : (xs : List ℕ) (i j k l x : ℕ) → (k ≡ i → l ≡ j → ⊥) → entry_at (with_entry xs i j x) k l ≡ entry_at xs k l
entry_other xs i j k l x apart = by (nat_lt j MAX_ENTRIES) (nat_lt l MAX_ENTRIES) refl refl
  where
    by : (low lower : Bool) → nat_lt j MAX_ENTRIES ≡ low → nat_lt l MAX_ENTRIES ≡ lower →
        cond lower (slice_get (cond low (slice_set xs (i * MAX_ENTRIES + j) x) xs) (k * MAX_ENTRIES + l)) None ≡ cond lower (slice_get xs (k * MAX_ENTRIES + l)) None
    by low false a b = refl
    by false true a b = refl
    by true true a b =
        let below : j < MAX_ENTRIES = grind (arith, nat_tests, a) in
        let lower : l < MAX_ENTRIES = grind (arith, nat_tests, b) in
        got_other xs (i * MAX_ENTRIES + j) (k * MAX_ENTRIES + l) x (λ e. apart (omega (arith, e, below, lower)) (omega (arith, e, below, lower)))

-- the same for a tenant's word
word_is : (words : List (List ℕ)) (i j l x : ℕ) → word_bits (with_word words i j x) i l ≡ slice_get (slice_set (slice_index_or words i []) j x) l
word_is [] i j l x = refl
word_is (w ∷ ws) zero j l x = refl
word_is (w ∷ ws) (suc i) j l x = word_is ws i j l x

words_other : (words : List (List ℕ)) (i k : ℕ) (w : List ℕ) → k ≢ i → slice_index_or (slice_set words i w) k [] ≡ slice_index_or words k []
words_other [] i k w apart = refl
words_other (v ∷ vs) zero zero w apart = absurd (apart refl)
words_other (v ∷ vs) zero (suc k) w apart = refl
words_other (v ∷ vs) (suc i) zero w apart = refl
words_other (v ∷ vs) (suc i) (suc k) w apart = words_other vs i k w (λ e. apart (ap suc e))

word_same : (words : List (List ℕ)) (tenant address x : ℕ) → IfSome (word_bits (with_word words tenant address x) tenant address) (λ y. y ≡ x)
word_same words tenant address x =
    let P : Option ℕ → Type 0 = λ o. IfSome o (λ y. y ≡ x) in
    subst P (sym (word_is words tenant address address x)) (got_same (slice_index_or words tenant []) address x)

word_there : (words : List (List ℕ)) (tenant address x : ℕ) → is_some (word_bits (with_word words tenant address x) tenant address) ≡ is_some (word_bits words tenant address)
word_there words tenant address x = ap is_some (word_is words tenant address address x) ∙ got_there (slice_index_or words tenant []) address x

word_other : (words : List (List ℕ)) (i j k l x : ℕ) → (k ≡ i → l ≡ j → ⊥) → word_bits (with_word words i j x) k l ≡ word_bits words k l
word_other words i j k l x apart =
    elim (cases_eq k i) [
      | inl e ↦
          let P : ℕ → Type 0 = λ n. word_bits (with_word words i j x) n l ≡ word_bits words n l in
          subst P (sym e) (word_is words i j l x ∙ got_other (slice_index_or words i []) j l x (λ q. apart e q))
      | inr ne ↦ ap (λ ws. slice_get ws l) (words_other words i k (slice_set (slice_index_or words i []) j x) ne)
    ]

-- bits that were put at an existing place are there
bits_same : (bits : Bits) (at : At) (put : ℕ) → IfSome (bits_at (put_bits bits at put) at) (λ there. there ≡ put)
bits_same bits (AtDoor tenant) put = got_same bits.doors tenant put
bits_same bits (AtGate slot) put = got_same bits.gates slot put
bits_same bits (AtRow worker) put = got_same bits.rows worker put
bits_same bits (Data tenant address) put = word_same bits.words tenant address put
bits_same bits (AtStatus slot) put = got_same bits.statuses slot put
bits_same bits (Count slot) put = got_same bits.counts slot put
bits_same bits (Addr slot entry) put = entry_same bits.addrs slot entry put
bits_same bits (Expected slot entry) put = entry_same bits.expecteds slot entry put
bits_same bits (New slot entry) put = entry_same bits.new_values slot entry put

bits_there : (bits : Bits) (at : At) (put : ℕ) → is_there (put_bits bits at put) at ≡ is_there bits at
bits_there bits (AtDoor tenant) put = got_there bits.doors tenant put
bits_there bits (AtGate slot) put = got_there bits.gates slot put
bits_there bits (AtRow worker) put = got_there bits.rows worker put
bits_there bits (Data tenant address) put = word_there bits.words tenant address put
bits_there bits (AtStatus slot) put = got_there bits.statuses slot put
bits_there bits (Count slot) put = got_there bits.counts slot put
bits_there bits (Addr slot entry) put = entry_there bits.addrs slot entry put
bits_there bits (Expected slot entry) put = entry_there bits.expecteds slot entry put
bits_there bits (New slot entry) put = entry_there bits.new_values slot entry put

-- at each other place the bits are unchanged
bits_other : (bits : Bits) (at other : At) (put : ℕ) → other ≢ at → bits_at (put_bits bits at put) other ≡ bits_at bits other
bits_other bits (AtDoor i) (AtDoor k) put apart = got_other bits.doors i k put (λ e. apart (ap AtDoor e))
bits_other bits (AtDoor i) other put apart = refl
bits_other bits (AtGate i) (AtGate k) put apart = got_other bits.gates i k put (λ e. apart (ap AtGate e))
bits_other bits (AtGate i) other put apart = refl
bits_other bits (AtRow i) (AtRow k) put apart = got_other bits.rows i k put (λ e. apart (ap AtRow e))
bits_other bits (AtRow i) other put apart = refl
bits_other bits (Data i j) (Data k l) put apart = word_other bits.words i j k l put (λ p q. apart (λ d. Data (p d) (q d)))
bits_other bits (Data i j) other put apart = refl
bits_other bits (AtStatus i) (AtStatus k) put apart = got_other bits.statuses i k put (λ e. apart (ap AtStatus e))
bits_other bits (AtStatus i) other put apart = refl
bits_other bits (Count i) (Count k) put apart = got_other bits.counts i k put (λ e. apart (ap Count e))
bits_other bits (Count i) other put apart = refl
bits_other bits (Addr i j) (Addr k l) put apart = entry_other bits.addrs i j k l put (λ p q. apart (λ d. Addr (p d) (q d)))
bits_other bits (Addr i j) other put apart = refl
bits_other bits (Expected i j) (Expected k l) put apart = entry_other bits.expecteds i j k l put (λ p q. apart (λ d. Expected (p d) (q d)))
bits_other bits (Expected i j) other put apart = refl
bits_other bits (New i j) (New k l) put apart = entry_other bits.new_values i j k l put (λ p q. apart (λ d. New (p d) (q d)))
bits_other bits (New i j) other put apart = refl

-- a place is another one, or it isn't
either : (i j k l : ℕ) (at : ℕ → ℕ → At) → ((k ≡ i → l ≡ j → ⊥) → at k l ≢ at i j) → (at k l ≡ at i j) ⊎ (at k l ≢ at i j)
either i j k l at apart =
    elim (cases_eq k i) [
      | inl e ↦ elim (cases_eq l j) [ inl f ↦ inl (λ d. at (e d) (f d)) | inr ne ↦ inr (apart (λ p q. ne q)) ]
      | inr ne ↦ inr (apart (λ p q. ne p))
    ]

one : (i k : ℕ) (at : ℕ → At) → (k ≢ i → at k ≢ at i) → (at k ≡ at i) ⊎ (at k ≢ at i)
one i k at apart = elim (cases_eq k i) [ inl e ↦ inl (ap at e) | inr ne ↦ inr (apart ne) ]

place_cases : (at other : At) → (other ≡ at) ⊎ (other ≢ at)
place_cases (AtDoor i) (AtDoor k) = one i k AtDoor (λ ne q. let e : k ≡ i = cc in ne e)
place_cases (AtDoor i) other = inr (λ q. cc)
place_cases (AtGate i) (AtGate k) = one i k AtGate (λ ne q. let e : k ≡ i = cc in ne e)
place_cases (AtGate i) other = inr (λ q. cc)
place_cases (AtRow i) (AtRow k) = one i k AtRow (λ ne q. let e : k ≡ i = cc in ne e)
place_cases (AtRow i) other = inr (λ q. cc)
place_cases (Data i j) (Data k l) = either i j k l Data (λ ne q. let e : k ≡ i = cc in let f : l ≡ j = cc in ne e f)
place_cases (Data i j) other = inr (λ q. cc)
place_cases (AtStatus i) (AtStatus k) = one i k AtStatus (λ ne q. let e : k ≡ i = cc in ne e)
place_cases (AtStatus i) other = inr (λ q. cc)
place_cases (Count i) (Count k) = one i k Count (λ ne q. let e : k ≡ i = cc in ne e)
place_cases (Count i) other = inr (λ q. cc)
place_cases (Addr i j) (Addr k l) = either i j k l Addr (λ ne q. let e : k ≡ i = cc in let f : l ≡ j = cc in ne e f)
place_cases (Addr i j) other = inr (λ q. cc)
place_cases (Expected i j) (Expected k l) = either i j k l Expected (λ ne q. let e : k ≡ i = cc in let f : l ≡ j = cc in ne e f)
place_cases (Expected i j) other = inr (λ q. cc)
place_cases (New i j) (New k l) = either i j k l New (λ ne q. let e : k ≡ i = cc in let f : l ≡ j = cc in ne e f)
place_cases (New i j) other = inr (λ q. cc)

-- only a place's bits change: the places stay
pub put_keeps_places : (bits : Bits) (at : At) (put : ℕ) → SamePlaces bits (put_bits bits at put)
put_keeps_places bits at put other =
    elim (place_cases at other) [
      | inl e ↦
          let P : At → Type 0 = λ o. is_there (put_bits bits at put) o ≡ is_there bits o in
          subst P (sym e) (bits_there bits at put)
      | inr ne ↦ ap is_some (bits_other bits at other put ne)
    ]

if_some : (o : Option ℕ) (x y : ℕ) → x ≡ y → IfSome o (λ there. there ≡ x) → IfSome o (λ there. there ≡ y)
if_some (Some n) x y same is = is ∙ same
if_some None x y same is = tt

-- bits that match still match if a value is written at a place and its bits are put there
pub put_ties : (bits : Bits) (cells : Cells) (at : At) (x : Val at) → BitsMatch bits cells → BitsMatch (put_bits bits at (pack at x)) (write cells at x)
put_ties bits cells at x tie other =
    elim (place_cases at other) [
      | inl e ↦
          let P : At → Type 0 = λ o. IfSome (bits_at (put_bits bits at (pack at x)) o) (λ there. there ≡ pack o (read (write cells at x) o)) in
          subst P (sym e) (if_some (bits_at (put_bits bits at (pack at x)) at) (pack at x) (pack at (read (write cells at x) at)) (sym (ap (pack at) (read-same cells at x))) (bits_same bits at (pack at x)))
      | inr ne ↦
          let P : Option ℕ → Type 0 = λ o. IfSome o (λ there. there ≡ pack other (read (write cells at x) other)) in
          subst P (sym (bits_other bits at other (pack at x) ne)) (if_some (bits_at bits other) (pack other (read cells other)) (pack other (read (write cells at x) other)) (sym (ap (pack other) (read-other cells at other x ne))) (tie other))
    ]

-- a value in range leaves all words in range
pub write_fits : (cells : Cells) (at : At) (x : Val at) → Fits at x → AllFit cells → AllFit (write cells at x)
write_fits cells at x fits all other =
    elim (place_cases at other) [
      | inl e ↦
          let P : At → Type 0 = λ o. Fits o (read (write cells at x) o) in
          subst P (sym e) (subst (Fits at) (sym (read-same cells at x)) fits)
      | inr ne ↦ subst (Fits other) (sym (read-other cells at other x ne)) (all other)
    ]

-- a list of words of which one is put
pub puts_word : {V : Type 0} → (items : V → List ℕ) (words : List V) (index place tenant address x : ℕ) (old new : V) → index ≡ tenant → place ≡ address →
    index < length words → old ≡ slice_index_or words index old → items new ≡ slice_set (items old) place x →
    map items (slice_set words index new) ≡ with_word (map items words) tenant address x
puts_word items words index place tenant address x old new is_tenant is_address low is put =
    let there : slice_index_or (map items words) index [] ≡ items old = get_or-map items words index old [] low ∙ sym (ap items is) in
    map-set items words index new ∙ ap (λ list. slice_set (map items words) index list) (put ∙ ap (λ list. slice_set list place x) (sym there))
    ∙ (λ d. with_word (map items words) (is_tenant d) (is_address d) x)

set_nowhere : {A : Type 0} → (xs : List A) (i : ℕ) (x : A) → is_some (slice_get xs i) ≡ false → slice_set xs i x ≡ xs
set_nowhere [] i x past = refl
set_nowhere (y ∷ ys) zero x past = cc
set_nowhere (y ∷ ys) (suc i) x past = ap (λ zs. y ∷ zs) (set_nowhere ys i x past)

entry_nowhere : (xs : List ℕ) (slot entry x : ℕ) → is_some (entry_at xs slot entry) ≡ false → with_entry xs slot entry x ≡ xs
entry_nowhere xs slot entry x = by (nat_lt entry MAX_ENTRIES)
  where
    by : (low : Bool) → is_some (cond low (slice_get xs (slot * MAX_ENTRIES + entry)) None) ≡ false → cond low (slice_set xs (slot * MAX_ENTRIES + entry) x) xs ≡ xs
    by true past = set_nowhere xs (slot * MAX_ENTRIES + entry) x past
    by false past = refl

word_nowhere : (words : List (List ℕ)) (tenant address x : ℕ) → is_some (word_bits words tenant address) ≡ false → with_word words tenant address x ≡ words
word_nowhere [] tenant address x past = refl
word_nowhere (w ∷ ws) zero address x past = ap (λ v. v ∷ ws) (set_nowhere w address x past)
word_nowhere (w ∷ ws) (suc tenant) address x past = ap (λ vs. w ∷ vs) (word_nowhere ws tenant address x past)

-- if there is no such place, nothing changes
pub put_nowhere : (bits : Bits) (at : At) (put : ℕ) → is_there bits at ≡ false → put_bits bits at put ≡ bits
put_nowhere bits (AtDoor tenant) put past = ap (λ list. record bits { doors = list }) (set_nowhere bits.doors tenant put past)
put_nowhere bits (AtGate slot) put past = ap (λ list. record bits { gates = list }) (set_nowhere bits.gates slot put past)
put_nowhere bits (AtRow worker) put past = ap (λ list. record bits { rows = list }) (set_nowhere bits.rows worker put past)
put_nowhere bits (Data tenant address) put past = ap (λ list. record bits { words = list }) (word_nowhere bits.words tenant address put past)
put_nowhere bits (AtStatus slot) put past = ap (λ list. record bits { statuses = list }) (set_nowhere bits.statuses slot put past)
put_nowhere bits (Count slot) put past = ap (λ list. record bits { counts = list }) (set_nowhere bits.counts slot put past)
put_nowhere bits (Addr slot entry) put past = ap (λ list. record bits { addrs = list }) (entry_nowhere bits.addrs slot entry put past)
put_nowhere bits (Expected slot entry) put past = ap (λ list. record bits { expecteds = list }) (entry_nowhere bits.expecteds slot entry put past)
put_nowhere bits (New slot entry) put past = ap (λ list. record bits { new_values = list }) (entry_nowhere bits.new_values slot entry put past)

-- what is found at a place of bits that match
pub found_is : (bits : Bits) (cells : Cells) (at : At) → BitsMatch bits cells → bits_at bits at ≡ cond (is_there bits at) (Some (pack at (read cells at))) None
found_is bits cells at tie = found (bits_at bits at) (pack at (read cells at)) (tie at) where
  found : (there : Option ℕ) (x : ℕ) → IfSome there (λ y. y ≡ x) → there ≡ cond (is_some there) (Some x) None
  found None x is = refl
  found (Some y) x is = ap Some is

-- What holds after bits were put at a place, by an equation.
pub record Put (old new : Bits) (at : At) (put : ℕ) (is_put : Bool) : Type 0 where
  pub ties : (cells : Cells) (x : Val at) → put ≡ pack at x → BitsMatch old cells → BitsMatch new (write cells at x)
  pub places : SamePlaces old new
  pub nowhere : is_put ≡ false → new ≡ old

pub put_is : (old new : Bits) (at : At) (put : ℕ) (is_put : Bool) → is_put ≡ is_there old at → new ≡ put_bits old at put → Put old new at put is_put
put_is old new at put is_put there is = record {
  ties = λ cells x same tie. subst (λ bits. BitsMatch bits (write cells at x)) (sym (is ∙ ap (put_bits old at) same)) (put_ties old cells at x tie);
  places = subst (SamePlaces old) (sym is) (put_keeps_places old at put);
  nowhere = λ past. is ∙ put_nowhere old at put (sym there ∙ past);
}
