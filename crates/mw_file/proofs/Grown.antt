-- A write, a sync and a run of them keep a file's bytes below an offset, except at the offsets that they may change.
-- Used by: lay.
use Rattle.std.proofs.Common.{◌≡◌, ℕ, ◌+◌, ◌<◌, ◌≤◌, Bool, List, refl, sym, ◌∙◌, inl, inr, arith, subst}
use Rattle.std.proofs.lemmas.Bool.{cases_lt}
use Rattle.mw_disk.specs.Facts.{Facts, MayLeave, IsSynced, Torn, Called, NothingNew, TearsAt}
use Rattle.mw_disk.specs.Runs.{SameBut, Touched, LeavesOnly}
use Rattle.mw_disk.proofs.RunLaws.{called_later, later_trans}
use Rattle.mw_file.specs.Migration.{GrownBut, Grown}

-- the images of one moment, known by two names
image_at : (f : Facts) (j k : ℕ) (c : List ℕ) → j ≡ k → f.image j c → f.image k c
image_at f j k c same left = subst (λ (m : ℕ). f.image m c) same left

pub grown_refl : (S : ℕ → Type 0) (n : ℕ) (bytes : List ℕ) → GrownBut S n bytes bytes
grown_refl S n bytes = record { longer = omega arith; same = λ k lt there out. refl }

pub grown_trans : (S : ℕ → Type 0) (n : ℕ) (a b c : List ℕ) → GrownBut S n a b → GrownBut S n b c → GrownBut S n a c
grown_trans S n a b c ab bc = record {
  longer = omega (arith, ab.longer, bc.longer);
  same = λ k lt there out. bc.same k lt (omega (arith, ab.longer, there)) out ∙ ab.same k lt there out;
}

-- a write that was cut short keeps the bytes outside its range
pub grown_torn : (S : ℕ → Type 0) (n at m : ℕ) (old new : List ℕ) → ((k : ℕ) → at ≤ k → k < at + m → k < n → S k) → Torn at m old new → GrownBut S n old new
grown_torn S n at m old new within torn = record {
  longer = torn.no_shorter;
  same = λ k lt there out. elim (cases_lt k at) [
    | inl before ↦ torn.before k before there
    | inr from ↦ elim (cases_lt k (at + m)) [
      | inl in_range ↦ absurd (out (within k from in_range lt))
      | inr after ↦ torn.after k after there
    ]
  ];
}

-- what a crash during a call may leave is what it may leave at its start or at its end
call_each : (S : ℕ → Type 0) (n : ℕ) (old new : Facts) (ok : Bool) → Called old new ok
    → ((c : List ℕ) → MayLeave new c → (d : List ℕ) × MayLeave old d × GrownBut S n d c)
    → (k : ℕ) (c : List ℕ) → old.moment ≤ k → k ≤ new.moment → new.image k c → (d : List ℕ) × MayLeave old d × GrownBut S n d c
call_each S n old new ok call now k c low high left = elim (cases_lt old.moment k) [
  | inl within ↦ now c (call.fresh k c within high left)
  | inr at_start ↦ (c, image_at old k old.moment c (omega arith) (call.past k c at_start left), grown_refl S n c)
]

-- a write, whether it went well or not
pub grown_write : (S : ℕ → Type 0) (n : ℕ) (old new : Facts) (ok : Bool) → Called old new ok
    → (at m : ℕ) → TearsAt at m old new → Torn at m old.reads new.reads → ((k : ℕ) → at ≤ k → k < at + m → k < n → S k) → Grown S n old new
grown_write S n old new ok call at m tears torn within = record {
  later = called_later old new ok call;
  each = call_each S n old new ok call (λ c left. let t = tears c left in (t.0, t.1, grown_torn S n at m t.0 c within t.2));
  seen = grown_torn S n at m old.reads new.reads within torn;
}

-- a sync, whether it went well or not
pub grown_quiet : (S : ℕ → Type 0) (n : ℕ) (old new : Facts) (ok : Bool) → Called old new ok → NothingNew old new → new.reads ≡ old.reads → Grown S n old new
grown_quiet S n old new ok call nothing same = record {
  later = called_later old new ok call;
  each = call_each S n old new ok call (λ c left. (c, nothing c left, grown_refl S n c));
  seen = subst (λ (bytes : List ℕ). GrownBut S n old.reads bytes) (sym same) (grown_refl S n old.reads);
}

grown_each : (S : ℕ → Type 0) (n : ℕ) (a b c : Facts) → Grown S n a b → Grown S n b c
    → (k : ℕ) (i : List ℕ) → a.moment ≤ k → k ≤ c.moment → c.image k i → (d : List ℕ) × MayLeave a d × GrownBut S n d i
grown_each S n a b c ab bc k i low high left = elim (cases_lt k b.moment) [
  | inl before ↦ ab.each k i low (omega arith) (bc.later.past k i (omega arith) left)
  | inr since ↦
      let t = bc.each k i since high left in
      let u = ab.each b.moment t.0 ab.later.later (omega arith) t.1 in
      (u.0, u.1, grown_trans S n u.0 t.0 i u.2 t.2)
]

pub grown_more : (S : ℕ → Type 0) (n : ℕ) (a b c : Facts) → Grown S n a b → Grown S n b c → Grown S n a c
grown_more S n a b c ab bc = record {
  later = later_trans a b c ab.later bc.later;
  each = grown_each S n a b c ab bc;
  seen = grown_trans S n a.reads b.reads c.reads ab.seen bc.seen;
}

-- the same with more offsets that may change
but_wider : (S T : ℕ → Type 0) (n : ℕ) (old new : List ℕ) → ((k : ℕ) → S k → T k) → GrownBut S n old new → GrownBut T n old new
but_wider S T n old new wide grown = record {
  longer = grown.longer;
  same = λ k lt there out. grown.same k lt there (λ s. out (wide k s));
}

pub grown_wider : (S T : ℕ → Type 0) (n : ℕ) (old new : Facts) → ((k : ℕ) → S k → T k) → Grown S n old new → Grown T n old new
grown_wider S T n old new wide grown = record {
  later = grown.later;
  each = λ k c low high left. let t = grown.each k c low high left in (t.0, t.1, but_wider S T n t.0 c wide t.2);
  seen = but_wider S T n old.reads new.reads wide grown.seen;
}

-- bytes that keep their length are a case of bytes that grow
but_same : (S : ℕ → Type 0) (n : ℕ) (old new : List ℕ) → SameBut S old new → GrownBut S n old new
but_same S n old new same = record { longer = omega (arith, same.size); same = λ k lt there out. same.outside k out }

pub grown_touched : (S : ℕ → Type 0) (n : ℕ) (old new : Facts) → Touched S old new → Grown S n old new
grown_touched S n old new touched = record {
  later = touched.later;
  each = λ k c low high left. let t = touched.each k c low high left in (t.0, t.1, but_same S n t.0 c t.2);
  seen = but_same S n old.reads new.reads touched.seen;
}

-- on a synced disk each image of a crash has grown from what a read gave
pub leaves_grown : (S : ℕ → Type 0) (n : ℕ) (old new : Facts) {P : List ℕ → Type 0} → IsSynced old → Grown S n old new
    → ((c : List ℕ) → GrownBut S n old.reads c → P c) → LeavesOnly old new P
leaves_grown S n old new rest grown has = record {
  later = grown.later;
  each = λ c left.
      let t = grown.each left.0 c left.1 left.2 left.3 in
      has c (subst (λ (bytes : List ℕ). GrownBut S n bytes c) (rest t.0 t.1) t.2);
}
