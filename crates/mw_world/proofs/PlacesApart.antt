-- A shared word has what was last written there, and a write to one word changes no other.
-- Used by: places_are_apart, mw_rule, mw_world_memory.
use Rattle.std.specs.Prelude.{ℕ, ◌≡◌, ◌≢◌}
use Rattle.std.proofs.Common.{refl, ap, arith}
use Rattle.std.proofs.lemmas.Bool.Decides.{nat_tests}
use Rattle.mw_words.specs.declared.places.At.TheVariants.{Door as AtDoor, Gate as AtGate, Row as AtRow, Data, Status as AtStatus, Count, Addr, Expected, New}
use Rattle.mw_world.specs.Maps.{upd, upd_two}
use Rattle.mw_world.specs.Claim.Laws.{ReadSame, ReadOther}

upd_same : {A : Type 0} → (f : ℕ → A) (i : ℕ) (x : A) → upd f i x i ≡ x
upd_same f i x = grind (arith, nat_tests)

upd_two_same : {A : Type 0} → (f : ℕ → ℕ → A) (i j : ℕ) (x : A) → upd_two f i j x i j ≡ x
upd_two_same f i j x = grind (arith, nat_tests)

-- at another index the map has its old value
upd_other : {A : Type 0} → (f : ℕ → A) (i k : ℕ) (x : A) → k ≢ i → upd f i x k ≡ f k
upd_other f i k x apart = grind (arith, nat_tests, apart)

upd_two_other : {A : Type 0} → (f : ℕ → ℕ → A) (i j k l : ℕ) (x : A) → (k ≡ i → l ≡ j → ⊥) → upd_two f i j x k l ≡ f k l
upd_two_other f i j k l x apart = grind (arith, nat_tests, apart)

pub read-same : ReadSame
read-same cells (AtDoor tenant) x = upd_same cells.doors tenant x
read-same cells (AtGate slot) x = upd_same cells.gates slot x
read-same cells (AtRow worker) x = upd_same cells.rows worker x
read-same cells (Data tenant address) x = upd_two_same cells.words tenant address x
read-same cells (AtStatus slot) x = upd_same cells.statuses slot x
read-same cells (Count slot) x = upd_same cells.counts slot x
read-same cells (Addr slot entry) x = upd_two_same cells.addrs slot entry x
read-same cells (Expected slot entry) x = upd_two_same cells.expecteds slot entry x
read-same cells (New slot entry) x = upd_two_same cells.new_values slot entry x

pub read-other : ReadOther
read-other cells (AtDoor i) (AtDoor k) x apart = upd_other cells.doors i k x (λ p. apart (ap AtDoor p))
read-other cells (AtDoor i) (AtGate k) x apart = refl
read-other cells (AtDoor i) (AtRow k) x apart = refl
read-other cells (AtDoor i) (Data k l) x apart = refl
read-other cells (AtDoor i) (AtStatus k) x apart = refl
read-other cells (AtDoor i) (Count k) x apart = refl
read-other cells (AtDoor i) (Addr k l) x apart = refl
read-other cells (AtDoor i) (Expected k l) x apart = refl
read-other cells (AtDoor i) (New k l) x apart = refl
read-other cells (AtGate i) (AtDoor k) x apart = refl
read-other cells (AtGate i) (AtGate k) x apart = upd_other cells.gates i k x (λ p. apart (ap AtGate p))
read-other cells (AtGate i) (AtRow k) x apart = refl
read-other cells (AtGate i) (Data k l) x apart = refl
read-other cells (AtGate i) (AtStatus k) x apart = refl
read-other cells (AtGate i) (Count k) x apart = refl
read-other cells (AtGate i) (Addr k l) x apart = refl
read-other cells (AtGate i) (Expected k l) x apart = refl
read-other cells (AtGate i) (New k l) x apart = refl
read-other cells (AtRow i) (AtDoor k) x apart = refl
read-other cells (AtRow i) (AtGate k) x apart = refl
read-other cells (AtRow i) (AtRow k) x apart = upd_other cells.rows i k x (λ p. apart (ap AtRow p))
read-other cells (AtRow i) (Data k l) x apart = refl
read-other cells (AtRow i) (AtStatus k) x apart = refl
read-other cells (AtRow i) (Count k) x apart = refl
read-other cells (AtRow i) (Addr k l) x apart = refl
read-other cells (AtRow i) (Expected k l) x apart = refl
read-other cells (AtRow i) (New k l) x apart = refl
read-other cells (Data i j) (AtDoor k) x apart = refl
read-other cells (Data i j) (AtGate k) x apart = refl
read-other cells (Data i j) (AtRow k) x apart = refl
read-other cells (Data i j) (Data k l) x apart = upd_two_other cells.words i j k l x (λ p q. apart (λ d. Data (p d) (q d)))
read-other cells (Data i j) (AtStatus k) x apart = refl
read-other cells (Data i j) (Count k) x apart = refl
read-other cells (Data i j) (Addr k l) x apart = refl
read-other cells (Data i j) (Expected k l) x apart = refl
read-other cells (Data i j) (New k l) x apart = refl
read-other cells (AtStatus i) (AtDoor k) x apart = refl
read-other cells (AtStatus i) (AtGate k) x apart = refl
read-other cells (AtStatus i) (AtRow k) x apart = refl
read-other cells (AtStatus i) (Data k l) x apart = refl
read-other cells (AtStatus i) (AtStatus k) x apart = upd_other cells.statuses i k x (λ p. apart (ap AtStatus p))
read-other cells (AtStatus i) (Count k) x apart = refl
read-other cells (AtStatus i) (Addr k l) x apart = refl
read-other cells (AtStatus i) (Expected k l) x apart = refl
read-other cells (AtStatus i) (New k l) x apart = refl
read-other cells (Count i) (AtDoor k) x apart = refl
read-other cells (Count i) (AtGate k) x apart = refl
read-other cells (Count i) (AtRow k) x apart = refl
read-other cells (Count i) (Data k l) x apart = refl
read-other cells (Count i) (AtStatus k) x apart = refl
read-other cells (Count i) (Count k) x apart = upd_other cells.counts i k x (λ p. apart (ap Count p))
read-other cells (Count i) (Addr k l) x apart = refl
read-other cells (Count i) (Expected k l) x apart = refl
read-other cells (Count i) (New k l) x apart = refl
read-other cells (Addr i j) (AtDoor k) x apart = refl
read-other cells (Addr i j) (AtGate k) x apart = refl
read-other cells (Addr i j) (AtRow k) x apart = refl
read-other cells (Addr i j) (Data k l) x apart = refl
read-other cells (Addr i j) (AtStatus k) x apart = refl
read-other cells (Addr i j) (Count k) x apart = refl
read-other cells (Addr i j) (Addr k l) x apart = upd_two_other cells.addrs i j k l x (λ p q. apart (λ d. Addr (p d) (q d)))
read-other cells (Addr i j) (Expected k l) x apart = refl
read-other cells (Addr i j) (New k l) x apart = refl
read-other cells (Expected i j) (AtDoor k) x apart = refl
read-other cells (Expected i j) (AtGate k) x apart = refl
read-other cells (Expected i j) (AtRow k) x apart = refl
read-other cells (Expected i j) (Data k l) x apart = refl
read-other cells (Expected i j) (AtStatus k) x apart = refl
read-other cells (Expected i j) (Count k) x apart = refl
read-other cells (Expected i j) (Addr k l) x apart = refl
read-other cells (Expected i j) (Expected k l) x apart = upd_two_other cells.expecteds i j k l x (λ p q. apart (λ d. Expected (p d) (q d)))
read-other cells (Expected i j) (New k l) x apart = refl
read-other cells (New i j) (AtDoor k) x apart = refl
read-other cells (New i j) (AtGate k) x apart = refl
read-other cells (New i j) (AtRow k) x apart = refl
read-other cells (New i j) (Data k l) x apart = refl
read-other cells (New i j) (AtStatus k) x apart = refl
read-other cells (New i j) (Count k) x apart = refl
read-other cells (New i j) (Addr k l) x apart = refl
read-other cells (New i j) (Expected k l) x apart = refl
read-other cells (New i j) (New k l) x apart = upd_two_other cells.new_values i j k l x (λ p q. apart (λ d. New (p d) (q d)))
