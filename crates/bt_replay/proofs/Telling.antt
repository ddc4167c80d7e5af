-- What tells of events and of files.
use Rattle.std.proofs.Common.{[], ◌≡◌, ℕ, zero, suc, ◌+◌, ◌≤◌, List, ◌∷◌, ◌++◌, length, Option, Some, None, refl, sym, ap, subst, ◌∙◌, append-nil, append_assoc, arith}
use Rattle.std.specs.Prelude.{flat_map, IfSome, slice_get, option_map}
use Rattle.std.specs.List.{range_with_len}
use Rattle.std.proofs.lemmas.Grind.{flat_map-append}
use Rattle.std.proofs.lemmas.Option.{slice_get_within}
use Rattle.bt_machine.specs.State.{EngineState, FileState}
use Rattle.bt_machine.specs.Report.{report, report_of}
use Rattle.bt_machine.specs.declared.report.FileReport.{FileReport}
use Rattle.bt_replay.specs.Answer.{file_line}

pub some_weaker : {A : Type 0} {P Q : A → Type 0} (r : Option A) → ((x : A) → P x → Q x) → IfSome r P → IfSome r Q
some_weaker None f h = tt
some_weaker (Some x) f h = f x h

pub some_holds : {A : Type 0} (P : A → Type 0) (r : Option A) (x : A) → IfSome r P → r ≡ Some x → P x
some_holds {A} P r x h e = let Q : Option A → Type 0 = λ o. IfSome o P in subst Q e h

-- ---- a report

abbrev line_of : EngineState → ℕ → List ℕ
line_of s file = file_line file (report s file)

range_more : (a n : ℕ) → range_with_len a (suc n) ≡ range_with_len a n ++ (a + n) ∷ []
range_more a zero = ap (λ k. k ∷ []) (omega arith)
range_more a (suc n) =
    let shift : a + 1 + n ≡ a + suc n = omega arith in
    ap (λ rest. a ∷ rest) (range_more (a + 1) n ∙ ap (λ k. range_with_len (a + 1) n ++ k ∷ []) shift)

pub told_more : (s : EngineState) (file : ℕ) (told : FileReport) (before text new : List ℕ)
    → text ≡ before ++ flat_map (line_of s) (range_with_len 0 file) → report s file ≡ Some told
    → new ≡ text ++ file_line file (Some told)
    → new ≡ before ++ flat_map (line_of s) (range_with_len 0 (file + 1))
told_more s file told before text new so_far here is =
    let count : file + 1 ≡ suc file = omega arith in
    let last : 0 + file ≡ file = omega arith in
    let next = ap (range_with_len 0) count ∙ range_more 0 file ∙ ap (λ k. range_with_len 0 file ++ k ∷ []) last in
    let lines = flat_map (line_of s) (range_with_len 0 file) in
    let more : lines ++ file_line file (Some told) ≡ flat_map (line_of s) (range_with_len 0 (file + 1)) =
    ap (λ r. lines ++ file_line file r) (sym here)
    ∙ ap (λ l. lines ++ l) (sym (append-nil (line_of s file)))
    ∙ sym (flat_map-append (line_of s) (range_with_len 0 file) (file ∷ []))
    ∙ ap (flat_map (line_of s)) (sym next) in
    is ∙ ap (λ l. l ++ file_line file (Some told)) so_far
    ∙ append_assoc before lines (file_line file (Some told)) ∙ ap (λ l. before ++ l) more

none_some : (told : FileReport) → option_map report_of None ≡ Some told → ⊥
none_some told e = cc

mapped_some : (r : Option FileState) (told : FileReport) → option_map report_of r ≡ Some told → (f : FileState) × (r ≡ Some f)
mapped_some None told e = absurd (none_some told e)
mapped_some (Some f) told e = (f, refl)

pub file_there : (s : EngineState) (file : ℕ) (told : FileReport) → report s file ≡ Some told
    → file + 1 ≤ length s.files
file_there s file told here =
    let f = mapped_some (slice_get s.files file) told here in
    let lt = slice_get_within s.files file f.0 f.1 in omega (arith, lt)
