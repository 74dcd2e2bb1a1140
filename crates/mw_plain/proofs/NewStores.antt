-- Each tenant of a new plain store is made of its line and its opened file, and a store alone represents it.
-- Used by: Plain::new.
use Rattle.std.proofs.Common.{◌≡◌, ℕ, zero, suc, ◌+◌, ◌<◌, ◌≤◌, List, [], ◌∷◌, ◌++◌, length, drop, get_or, slice_get, Option, Some, None, IsTrue, refl, sym, ap, subst, ◌∙◌, add-one, append_assoc, inl, inr, arith}
use Rattle.std.specs.Prelude.{Vec}
use Rattle.std.proofs.Math.Seq.{drop-cons}
use Rattle.std.proofs.lemmas.Bool.{cases_lt}
use Rattle.std.proofs.lemmas.List.{drop_all}
use Rattle.std.proofs.lemmas.List.Sums.{sum_by-append, sum_by-cons}
use Rattle.std.proofs.lemmas.Option.{same_Some, none-some}
use Rattle.std.specs.Option.{option_and_then, option_map_or}
use Rattle.std.specs.declared.alloc.Global.{Global}
use Rattle.mw_disk.specs.Facts.{Facts}
use Rattle.mw_config.specs.declared.lines.TenantLine.{TenantLine}
use Rattle.mw_file.specs.declared.tenant_file.TenantFile.{TenantFile}
use Rattle.mw_file.specs.File.{disk_of}
use Rattle.mw_file.specs.RecoveryInvariant.{RecoversTo}
use Rattle.mw_record.specs.Layout.{pairs_of}
use Rattle.mw_lone.specs.Store.{Store}
use Rattle.mw_plain.specs.declared.loaded_file.LoadedFile.{LoadedFile}
use Rattle.mw_plain.specs.declared.tenant.Part.{Part}
use Rattle.mw_plain.specs.declared.plain.Plain.{Plain}
use Rattle.mw_plain.specs.Quotas.{quotas_of}
use Rattle.mw_plain.specs.Lines.{IsWithin, FitsLine, FitLines, IsMadeOf, AreMadeOf, IsServedFrom, WordsRead, KeepsRead, StartsWith, quotas_in}
use Rattle.mw_plain.specs.Refinement.{Backs, IsKept}
use Rattle.mw_plain.specs.Answers.{Stands, FileKeeps}

module _ {D : Type 0} where
  -- the next line and file, and those that are left after them
  pub record Next (lines : List TenantLine) (n : ℕ) (line : TenantLine) (file : Option (TenantFile D × Vec ℕ Global)) (rest : List (Option (TenantFile D × Vec ℕ Global))) : Type 0 where
    pub there : n < length lines
    pub lines_left : drop n lines ≡ line ∷ drop (n + 1) lines
    pub within : IsWithin line
    pub fits : FitsLine line file
    pub fit : FitLines (drop (n + 1) lines) rest

  -- a line is there for the next file
  pub line_is_there : (lines : List TenantLine) (n : ℕ) (left : List (Option (TenantFile D × Vec ℕ Global))) (file : Option (TenantFile D × Vec ℕ Global)) (rest : List (Option (TenantFile D × Vec ℕ Global)))
      → left ≡ file ∷ rest → FitLines (drop n lines) left → n < length lines
  line_is_there lines n left file rest next fit = elim (cases_lt n (length lines)) [
    | inl lt ↦ lt
    | inr past ↦ absurd (subst (λ ls. FitLines ls (file ∷ rest)) (drop_all n lines past) (subst (FitLines (drop n lines)) next fit))
  ]

  pub next_of : (lines : List TenantLine) (n : ℕ) (line : TenantLine) (left : List (Option (TenantFile D × Vec ℕ Global))) (file : Option (TenantFile D × Vec ℕ Global)) (rest : List (Option (TenantFile D × Vec ℕ Global)))
      → line ≡ get_or lines n line → left ≡ file ∷ rest → FitLines (drop n lines) left → Next lines n line file rest
  next_of lines n line left file rest here next fit = elim (cases_lt n (length lines)) [
    | inl lt ↦
        let lines_left : drop n lines ≡ line ∷ drop (n + 1) lines =
        drop-cons lines n line lt ∙ ap (λ l. l ∷ drop (suc n) lines) (sym here) ∙ ap (λ m. line ∷ drop m lines) (sym (add-one n)) in
        let fits : FitLines (line ∷ drop (n + 1) lines) (file ∷ rest) = subst (λ ls. FitLines ls (file ∷ rest)) lines_left (subst (FitLines (drop n lines)) next fit) in
        record { there = lt; lines_left = lines_left; within = fits.0; fits = fits.1; fit = fits.2 }
    | inr past ↦ absurd (subst (λ ls. FitLines ls (file ∷ rest)) (drop_all n lines past) (subst (FitLines (drop n lines)) next fit))
  ]

  -- one more tenant is made
  pub made_more : (lines : List TenantLine) (files left rest : List (Option (TenantFile D × Vec ℕ Global))) (parts new : List (Part D)) (n : ℕ) (line : TenantLine) (file : Option (TenantFile D × Vec ℕ Global)) (p : Part D)
      → Next lines n line file rest → left ≡ file ∷ rest → IsMadeOf line file p → new ≡ parts ++ p ∷ []
      → ((more : List (Part D)) → AreMadeOf (drop n lines) left more → AreMadeOf lines files (parts ++ more))
      → (more : List (Part D)) → AreMadeOf (drop (n + 1) lines) rest more → AreMadeOf lines files (new ++ more)
  made_more lines files left rest parts new n line file p next is made pushed so_far more others =
      subst (λ ps. AreMadeOf lines files (ps ++ more)) (sym pushed)
      (subst (AreMadeOf lines files) (sym (append_assoc parts (p ∷ []) more))
      (so_far (p ∷ more) (subst (λ ls. AreMadeOf ls left (p ∷ more)) (sym next.lines_left) (subst (λ fs. AreMadeOf (line ∷ drop (n + 1) lines) fs (p ∷ more)) (sym is) (made, others)))))

  -- the pool has room for its quota with those before it
  pub shared_more : (lines : List TenantLine) (parts new : List (Part D)) (n pool : ℕ) (line : TenantLine) (p : Part D) → drop n lines ≡ line ∷ drop (n + 1) lines → p.quota ≡ line.quota → new ≡ parts ++ p ∷ []
      → quotas_of parts + quotas_in (drop n lines) ≤ pool → quotas_of new + quotas_in (drop (n + 1) lines) ≤ pool
  shared_more lines parts new n pool line p next same pushed so_far =
      let left : quotas_in (drop n lines) ≡ line.quota + quotas_in (drop (n + 1) lines) = ap quotas_in next ∙ sum_by-cons (λ (line : TenantLine). line.quota) line (drop (n + 1) lines) in
      let more : quotas_of new ≡ quotas_of parts + quotas_of (p ∷ []) = ap quotas_of pushed ∙ sum_by-append (λ (p : Part D). p.quota) parts (p ∷ []) in
      let one : quotas_of (p ∷ []) ≡ p.quota + 0 = sum_by-cons (λ (p : Part D). p.quota) p [] in
      omega (arith, so_far, left, more, one, same)

  -- nothing is left
  pub made_all : (lines : List TenantLine) (files left : List (Option (TenantFile D × Vec ℕ Global))) (parts : List (Part D)) (n : ℕ) → left ≡ [] → FitLines (drop n lines) left
      → ((more : List (Part D)) → AreMadeOf (drop n lines) left more → AreMadeOf lines files (parts ++ more)) → AreMadeOf lines files (parts ++ [])
  made_all lines files left parts n none fit made = made [] (none_left (drop n lines) left none fit) where
    none_left : (ls : List TenantLine) (fs : List (Option (TenantFile D × Vec ℕ Global))) → fs ≡ [] → FitLines ls fs → AreMadeOf ls fs []
    none_left [] [] none fit = tt
    none_left [] (f ∷ fs) none fit = absurd fit
    none_left (l ∷ ls) [] none fit = absurd fit
    none_left (l ∷ ls) (f ∷ fs) none fit = absurd (cc)

  -- the tenant of a number is made of the line and the file of that number
  pub made_at : (lines : List TenantLine) (files : List (Option (TenantFile D × Vec ℕ Global))) (parts : List (Part D)) (tenant : ℕ) (line : TenantLine) (file : Option (TenantFile D × Vec ℕ Global))
      → AreMadeOf lines files parts → slice_get lines tenant ≡ Some line → slice_get files tenant ≡ Some file → (p : Part D) × (slice_get parts tenant ≡ Some p) × IsMadeOf line file p
  made_at [] [] [] tenant line file made l f = absurd (none-some line l)
  made_at [] [] (p ∷ parts) tenant line file made l f = absurd made
  made_at [] (g ∷ files) parts tenant line file made l f = absurd made
  made_at (m ∷ lines) [] parts tenant line file made l f = absurd made
  made_at (m ∷ lines) (g ∷ files) [] tenant line file made l f = absurd made
  made_at (m ∷ lines) (g ∷ files) (p ∷ parts) zero line file made l f =
      (p, refl, subst (λ (x : TenantLine). IsMadeOf x file p) (same_Some m line l) (subst (λ (x : Option (TenantFile D × Vec ℕ Global)). IsMadeOf m x p) (same_Some g file f) made.0))
  made_at (m ∷ lines) (g ∷ files) (p ∷ parts) (suc tenant) line file made l f = made_at lines files parts tenant line file made.1 l f

  backs_new : (opened : Option (TenantFile D × Vec ℕ Global)) (book : Option (LoadedFile D)) (s : Store) → IsServedFrom opened book → s.used ≡ 0 → WordsRead opened s → Backs book s
  backs_new None None s is used read = (read, used)
  backs_new None (Some book) s is used read = absurd is
  backs_new (Some opened) None s is used read = absurd is
  backs_new (Some opened) (Some book) s is used read = record {
    used = used ∙ sym is.used;
    faulted = read.0 ∙ sym is.up;
    words = read.1 ∙ ap (λ v. v.items) (sym is.words);
  }

module _ {D : Type 0} (facts : D → Facts) where
  kept_new : (opened : Option (TenantFile D × Vec ℕ Global)) (book : Option (LoadedFile D)) (s : Store) → IsServedFrom opened book → s.in_doubt ≡ [] → WordsRead opened s → KeepsRead facts opened → IsKept facts book s
  kept_new None None s is none read keeps = tt
  kept_new None (Some book) s is none read keeps = absurd is
  kept_new (Some opened) None s is none read keeps = absurd is
  kept_new (Some opened) (Some book) s is none read keeps = λ honest.
      let there : IsTrue (facts (disk_of opened.0)).honest = subst (λ (f : TenantFile D). IsTrue (facts (disk_of f)).honest) is.file honest in
      subst (λ (f : TenantFile D). RecoversTo facts f s.words (pairs_of s.in_doubt)) (sym is.file)
      (subst (λ es. RecoversTo facts opened.0 s.words (pairs_of es)) (sym none) (subst (λ ws. RecoversTo facts opened.0 ws []) (sym read.1) (keeps there)))

  pub stands_new : (plain : Plain D) (lines : List TenantLine) (files : List (Option (TenantFile D × Vec ℕ Global))) (tenant : ℕ) (line : TenantLine) (opened : Option (TenantFile D × Vec ℕ Global)) (s : Store)
      → AreMadeOf lines files plain.parts.items → slice_get lines tenant ≡ Some line → slice_get files tenant ≡ Some opened → StartsWith line opened s
      → Stands plain tenant s × (KeepsRead facts opened → FileKeeps facts plain tenant s)
  stands_new plain lines files tenant line opened s made l f starts =
      let at = made_at lines files plain.parts.items tenant line opened made l f in (
        record {
          quota = starts.quota ∙ sym at.2.quota ∙ sym (ap (λ (o : Option (Part D)). option_map_or (λ p. p.quota) o 0) at.1);
          as_many = starts.as_many ∙ sym at.2.words ∙ sym (ap (λ (o : Option (Part D)). option_map_or (λ p. p.words) o 0) at.1);
          backs = subst (λ (o : Option (Part D)). Backs (option_and_then (λ p. p.book) o) s) (sym at.1) (backs_new opened at.0.book s at.2.book starts.used starts.read);
        },
        λ keeps. subst (λ (o : Option (Part D)). IsKept facts (option_and_then (λ p. p.book) o) s) (sym at.1) (kept_new opened at.0.book s at.2.book starts.certain starts.read keeps),
      )
