-- The loops that write a record's body and a second layout write exactly the bytes that `specs/Layout` defines.
-- Used by: body, write_second.
use Rattle.std.proofs.Common.{◌≡◌, ℕ, ◌+◌, ◌-◌, ◌*◌, ◌<◌, ◌≤◌, List, [], ◌∷◌, ◌++◌, length, get_or, take, drop, replicate, refl, sym, ap, ◌∙◌, arith, append_assoc}
use Rattle.std.specs.List.{flat_map}
use Rattle.std.proofs.lemmas.List.{append-nil, length-append, take_all, take_at, drop-replicate, take_more, flat_map_more, length-take-le}
use Rattle.std.proofs.Math.Seq.{drop-append-add}
use Rattle.mw_words.specs.declared.jobs.Entry.{Entry}
use Rattle.mw_record.specs.Layout.{number_bytes, entry_bytes, patched}
use Rattle.mw_record.proofs.ReadBytes.{length-number_bytes}

pub length-entry_bytes : (e : Entry) → length (entry_bytes e) ≡ 16
length-entry_bytes e =
    length-append (number_bytes 8 e.addr) (number_bytes 8 e.new) ∙ omega (arith, length-number_bytes 8 e.addr, length-number_bytes 8 e.new)

pub length-entries : (es : List Entry) → length (flat_map entry_bytes es) ≡ 16 * length es
length-entries [] = refl
length-entries (e ∷ es) =
    length-append (entry_bytes e) (flat_map entry_bytes es) ∙ omega (arith, length-entry_bytes e, length-entries es)

-- a block that is written over zeros, directly after the bytes that were written before
pub patched_zeros : (front block : List ℕ) (at n m k : ℕ) → length front ≡ at → length block ≡ n → k ≡ n + m → patched (front ++ replicate k 0) at block ≡ (front ++ block) ++ replicate m 0
patched_zeros front block at n m k fits long all =
    let t : take at (front ++ replicate k 0) ≡ front = take_at front (replicate k 0) at fits in
    let e : at + length block ≡ length front + n = omega (arith, fits, long) in
    let d : drop (at + length block) (front ++ replicate k 0) ≡ replicate m 0 =
    ap (λ i. drop i (front ++ replicate k 0)) e
    ∙ drop-append-add front (replicate k 0) n
    ∙ drop-replicate n k 0
    ∙ ap (λ i. replicate i 0) (omega arith) in
    ap (λ xs. xs ++ (block ++ drop (at + length block) (front ++ replicate k 0))) t
    ∙ ap (λ xs. front ++ (block ++ xs)) d
    ∙ sym (append_assoc front block (replicate m 0))

-- after one more entry was written
pub written_more : (most : ℕ) (head : List ℕ) (es : List Entry) (i : ℕ) (d e : Entry) (out : List ℕ) → length head ≡ 7 → i < length es → i < most → e ≡ get_or es i d
    → out ≡ (head ++ flat_map entry_bytes (take i es)) ++ replicate (16 * (most - i)) 0
    → patched (patched out (7 + 16 * i) (number_bytes 8 e.addr)) ((7 + 16 * i) + 8) (number_bytes 8 e.new)
    ≡ (head ++ flat_map entry_bytes (take (i + 1) es)) ++ replicate (16 * (most - (i + 1))) 0
written_more most head es i d e out seven lt few is was =
    let front : List ℕ = head ++ flat_map entry_bytes (take i es) in
    let a : List ℕ = number_bytes 8 e.addr in
    let b : List ℕ = number_bytes 8 e.new in
    let long : length front ≡ 7 + 16 * i =
    length-append head (flat_map entry_bytes (take i es)) ∙ omega (arith, seven, length-entries (take i es), length-take-le i es (omega arith)) in
    let m : ℕ = 8 + 16 * (most - (i + 1)) in
    let one : patched out (7 + 16 * i) a ≡ (front ++ a) ++ replicate m 0 =
    ap (λ xs. patched xs (7 + 16 * i) a) was
    ∙ patched_zeros front a (7 + 16 * i) 8 m (16 * (most - i)) long (length-number_bytes 8 e.addr) (omega arith) in
    let longer : length (front ++ a) ≡ (7 + 16 * i) + 8 =
    length-append front a ∙ omega (arith, long, length-number_bytes 8 e.addr) in
    let two : patched (patched out (7 + 16 * i) a) ((7 + 16 * i) + 8) b ≡ ((front ++ a) ++ b) ++ replicate (16 * (most - (i + 1))) 0 =
    ap (λ xs. patched xs ((7 + 16 * i) + 8) b) one
    ∙ patched_zeros (front ++ a) b ((7 + 16 * i) + 8) 8 (16 * (most - (i + 1))) m longer (length-number_bytes 8 e.new) refl in
    let more : flat_map entry_bytes (take (i + 1) es) ≡ flat_map entry_bytes (take i es) ++ (a ++ b) =
    ap (flat_map entry_bytes) (take_more es i d lt ∙ ap (λ x. take i es ++ x ∷ []) (sym is))
    ∙ sym (flat_map_more entry_bytes [] (take i es) e) in
    let joined : (front ++ a) ++ b ≡ head ++ flat_map entry_bytes (take (i + 1) es) =
    append_assoc front a b
    ∙ append_assoc head (flat_map entry_bytes (take i es)) (a ++ b)
    ∙ ap (λ xs. head ++ xs) (sym more) in
    two ∙ ap (λ xs. xs ++ replicate (16 * (most - (i + 1))) 0) joined

-- the number of bytes of words that follow each other
pub length-words : (ws : List ℕ) → length (flat_map (number_bytes 8) ws) ≡ 8 * length ws
length-words [] = refl
length-words (w ∷ ws) = length-append (number_bytes 8 w) (flat_map (number_bytes 8) ws) ∙ omega (arith, length-number_bytes 8 w, length-words ws)

-- after a head was written over zeros
pub head_over_zeros : (out head : List ℕ) (n all : ℕ) → out ≡ replicate all 0 → length head ≡ 32 → all ≡ 32 + n → patched out 0 head ≡ (head ++ []) ++ replicate n 0
head_over_zeros out head n all zeros long fits =
    ap (λ xs. patched xs 0 head) zeros
    ∙ patched_zeros [] head 0 32 n all refl long fits
    ∙ ap (λ xs. xs ++ replicate n 0) (sym (append-nil head))

-- after one more word was written
pub word_more : (head ws : List ℕ) (i w n : ℕ) (out : List ℕ) → length head ≡ 32 → i < length ws → w ≡ get_or ws i 0
    → out ≡ (head ++ flat_map (number_bytes 8) (take i ws)) ++ replicate (8 * (length ws - i) + n) 0
    → patched out (32 + 8 * i) (number_bytes 8 w) ≡ (head ++ flat_map (number_bytes 8) (take (i + 1) ws)) ++ replicate (8 * (length ws - (i + 1)) + n) 0
word_more head ws i w n out long lt is was =
    let front : List ℕ = head ++ flat_map (number_bytes 8) (take i ws) in
    let block : List ℕ = number_bytes 8 w in
    let at : length front ≡ 32 + 8 * i =
    length-append head (flat_map (number_bytes 8) (take i ws)) ∙ omega (arith, long, length-words (take i ws), length-take-le i ws (omega arith)) in
    let more : flat_map (number_bytes 8) (take (i + 1) ws) ≡ flat_map (number_bytes 8) (take i ws) ++ block =
    ap (flat_map (number_bytes 8)) (take_more ws i 0 lt ∙ ap (λ x. take i ws ++ x ∷ []) (sym is))
    ∙ sym (flat_map_more (number_bytes 8) [] (take i ws) w) in
    ap (λ xs. patched xs (32 + 8 * i) block) was
    ∙ patched_zeros front block (32 + 8 * i) 8 (8 * (length ws - (i + 1)) + n) (8 * (length ws - i) + n) at (length-number_bytes 8 w) (omega (arith, lt))
    ∙ ap (λ xs. xs ++ replicate (8 * (length ws - (i + 1)) + n) 0) (append_assoc head (flat_map (number_bytes 8) (take i ws)) block ∙ ap (λ xs. head ++ xs) (sym more))

-- after all words were written
pub all_words : (head ws : List ℕ) (i n : ℕ) → length ws ≤ i
    → (head ++ flat_map (number_bytes 8) (take i ws)) ++ replicate (8 * (length ws - i) + n) 0 ≡ head ++ (flat_map (number_bytes 8) ws ++ replicate n 0)
all_words head ws i n past =
    let e : 8 * (length ws - i) + n ≡ n = omega (arith, past) in
    ap (λ xs. (head ++ flat_map (number_bytes 8) xs) ++ replicate (8 * (length ws - i) + n) 0) (take_all i ws past)
    ∙ ap (λ k. (head ++ flat_map (number_bytes 8) ws) ++ replicate k 0) e
    ∙ append_assoc head (flat_map (number_bytes 8) ws) (replicate n 0)
