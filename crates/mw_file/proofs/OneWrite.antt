-- When a loop writes a record's values into the home words, each write sets the next value and touches only the record's home
-- words.
-- Used by: write_values.
use Rattle.std.proofs.Common.{◌≡◌, ℕ, ◌+◌, ◌-◌, ◌^◌, ◌<◌, ◌≤◌, ◌==◌, List, [], ◌∷◌, ◌++◌, length, take, drop, Some, Bool, true, if◌then◌else◌, refl, sym, ap, ◌∙◌, arith, subst, get_or}
use Rattle.std.proofs.lemmas.List.{take_more, length-drop}
use Rattle.std.proofs.lemmas.Option.{slice_get-get_or}
use Rattle.mw_disk.specs.Facts.{Facts, Called, TearsAt, Torn}
use Rattle.mw_disk.specs.Runs.{Touched}
use Rattle.mw_disk.proofs.RunLaws.{touched_none, touched_trans, touched_write, fits_after, fits_less}
use Rattle.mw_record.specs.declared.layout.TheConstants.{WORD_SIZE}
use Rattle.mw_record.specs.Layout.{home_at, number_bytes, patched}
use Rattle.mw_record.specs.Records.{Pairs, holds, home, over}
use Rattle.mw_record.proofs.ReadBytes.{length-number_bytes}
use Rattle.mw_record.proofs.Writes.{home_written}
use Rattle.mw_record.proofs.OverlaidRecords.{holds_at}
use Rattle.mw_file.specs.RollForward.{Behind, InRecord, HasHomes, IsBelow}
use Rattle.mw_file.proofs.Parts.{drop_patched}

-- the value at an address when one more entry is put over it
pub over_last : (ps : Pairs) (p : ℕ × ℕ) (a v : ℕ) → over (ps ++ p ∷ []) a v ≡ (if p.0 == a then p.1 else over ps a v)
over_last [] p a v = refl
over_last (q ∷ ps) p a v = over_last ps p a (if q.0 == a then q.1 else v)

-- The home words of a second layout at this offset have the values so far. Only bytes of the record's home words have changed.
pub record IsPut (at words : ℕ) (writes done : Pairs) (old new : Facts) : Type 0 where
  pub touched : Touched (Behind at (InRecord (Some writes))) old new
  pub values : (a : ℕ) → a < words → home (drop at new.reads) a ≡ over done a (home (drop at old.reads) a)

-- a write of one home word of a record changes bytes of the record's home words alone, whether it went well or not
pub home_touched : (start old new : Facts) (ok : Bool) (at words addr : ℕ) (writes : Pairs) (n : ℕ) → Touched (Behind at (InRecord (Some writes))) start old → HasHomes start at words
    → IsBelow words (Some writes) → holds writes addr ≡ true → n ≡ WORD_SIZE → Called old new ok → TearsAt (at + home_at addr) n old new → Torn (at + home_at addr) n old.reads new.reads
    → Touched (Behind at (InRecord (Some writes))) start new
home_touched start old new ok at words addr writes n run has below held is call tears torn =
    let S : ℕ → Type 0 = Behind at (InRecord (Some writes)) in
    let low : addr < words = below writes addr refl held in
    touched_trans S start old new run
    (touched_write S old new ok call (at + home_at addr) n tears torn
    (λ k from to. record {
      from = omega (arith, from);
      inside = record { writes = writes; is = refl; addr = addr; held = held; in_word = record { from = omega (arith, from); to = omega (arith, from, to, is) } };
    })
    (fits_less old (at + home_at addr + n) (at + home_at words) (omega (arith, low, is)) (fits_after S start old (at + home_at words) run has.fits)))

-- after a write that went well, one home word more has its value
pub home_put : (start old new : Facts) (at words addr value : ℕ) (writes done more : Pairs) (block : List ℕ) → IsPut at words writes done start old → HasHomes start at words
    → IsBelow words (Some writes) → holds writes addr ≡ true → value < 256 ^ WORD_SIZE → more ≡ done ++ (addr, value) ∷ [] → block ≡ number_bytes WORD_SIZE value
    → Called old new true → TearsAt (at + home_at addr) (length block) old new → Torn (at + home_at addr) (length block) old.reads new.reads
    → (at + home_at addr ≤ length old.reads → new.reads ≡ patched old.reads (at + home_at addr) block) → IsPut at words writes more start new
home_put start old new at words addr value writes done more block put has below held small is_more is_block call tears torn written =
    let S : ℕ → Type 0 = Behind at (InRecord (Some writes)) in
    let part : List ℕ = drop at old.reads in
    let n : length block ≡ WORD_SIZE = ap length is_block ∙ length-number_bytes WORD_SIZE value in
    let low : addr < words = below writes addr refl held in
    let fits : at + home_at words ≤ length old.reads = (fits_after S start old (at + home_at words) put.touched has.fits).reads in
    let long : length part ≡ length old.reads - at = length-drop at old.reads in
    let there : at + home_at addr ≤ length old.reads = omega (arith, low, fits) in
    let reads : drop at new.reads ≡ patched part (home_at addr) (number_bytes WORD_SIZE value) =
    ap (drop at) (written there ∙ ap (patched old.reads (at + home_at addr)) is_block) ∙ drop_patched at (home_at addr) old.reads (number_bytes WORD_SIZE value) there in
    record {
      touched = home_touched start old new true at words addr writes (length block) put.touched has below held n call tears torn;
      values = λ a lt.
          ap (λ bytes. home bytes a) reads
          ∙ home_written part addr value a small (omega (arith, low, fits, long)) (omega (arith, lt, fits, long))
          ∙ ap (λ v. if addr == a then value else v) (put.values a lt)
          ∙ sym (over_last done (addr, value) a (home (drop at start.reads) a))
          ∙ ap (λ ps. over ps a (home (drop at start.reads) a)) (sym is_more);
    }

pub put_none : (at words : ℕ) (writes : Pairs) (f : Facts) → IsPut at words writes [] f f
put_none at words writes f = record { touched = touched_none (Behind at (InRecord (Some writes))) f; values = λ a lt. refl }

-- The same for the next value, by its number among the writes.
module _ (start old : Facts) (at words : ℕ) (writes : Pairs) (i : ℕ) (put : IsPut at words writes (take i writes) start old) (has : HasHomes start at words)
    (below : IsBelow words (Some writes)) (lt : i < length writes) where
  abbrev pub next : ℕ × ℕ
  next = get_or writes i (0, 0)

  held_next : holds writes next.0 ≡ true
  held_next = holds_at writes i next (slice_get-get_or writes i (0, 0) lt)

  pub next_touched : (new : Facts) (ok : Bool) (n there : ℕ) → n ≡ WORD_SIZE → there ≡ at + home_at next.0 → Called old new ok → TearsAt there n old new → Torn there n old.reads new.reads
      → Touched (Behind at (InRecord (Some writes))) start new
  next_touched new ok n there is is_there call tears torn =
      home_touched start old new ok at words next.0 writes n put.touched has below held_next is call
      (subst (λ (k : ℕ). TearsAt k n old new) is_there tears) (subst (λ (k : ℕ). Torn k n old.reads new.reads) is_there torn)

  pub next_put : (new : Facts) (block : List ℕ) (there : ℕ) → next.1 < 256 ^ WORD_SIZE → block ≡ number_bytes WORD_SIZE next.1 → there ≡ at + home_at next.0 → Called old new true
      → TearsAt there (length block) old new → Torn there (length block) old.reads new.reads → (there ≤ length old.reads → new.reads ≡ patched old.reads there block)
      → IsPut at words writes (take (i + 1) writes) start new
  next_put new block there small is is_there call tears torn written =
      home_put start old new at words next.0 next.1 writes (take i writes) (take (i + 1) writes) block put has below held_next small (take_more writes i (0, 0) lt) is call
      (subst (λ (k : ℕ). TearsAt k (length block) old new) is_there tears) (subst (λ (k : ℕ). Torn k (length block) old.reads new.reads) is_there torn)
      (subst (λ (k : ℕ). k ≤ length old.reads → new.reads ≡ patched old.reads k block) is_there written)
