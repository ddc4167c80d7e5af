-- Files that lead to the next of their root, found from the last file back.
use Rattle.bt_machine.proofs.Base.{◌≡◌, ℕ, ◌+◌, ◌<◌, ◌≤◌, inl, inr, Bool, true, false, cond, List, length, Some, None, refl, sym, ap, ◌∙◌, subst, arith, slice_get, slice_set, ◌==◌, ◌≢◌, eq-eqb, eqb-true, cases_lt, File}
use Rattle.std.specs.Prelude.{unwrap_or}
use Rattle.std.specs.Ordering.{is_eq, nat_cmp}
use Rattle.std.specs.Cmp.Lexicographic.{slice_cmp}
use Rattle.std.specs.BTreeMap.{Updates, IsEmpty, is_at}
use Rattle.std.specs.Map.{lookup}
use Rattle.std.proofs.lemmas.Map.Text.{is_eq-slice_cmp}
use Rattle.std.proofs.lemmas.Slice.Eq.{bytes_eq-Decides}
use Rattle.bt_machine.proofs.Lists.{some_is, some_below, set_same, set_other}
use Rattle.bt_engine_state.proofs.Lists.{get_at}
use Rattle.bt_engine_state.specs.Roots.{Numbers, number_of, IsFirstFrom, IsOfRoot, AreNextFiles}
use Rattle.bt_engine_start.specs.RootsSteps.{AreFirstsFrom}

-- one number more is looked at, of which it is not so
first_back : {P : ℕ → Type 0} {count from first : ℕ} → (P from → ⊥) → IsFirstFrom P count (from + 1) first → IsFirstFrom P count from first
first_back {P} {count} {from} {first} none is = record {
  inside = omega (arith, is.inside);
  limit = is.limit;
  has = is.has;
  is_first = λ j low p. elim (cases_lt from j) [
    | inl lt ↦ is.is_first j (omega arith) p
    | inr le ↦ absurd (none (subst P (omega arith) p))
  ];
}

-- no file was seen
pub firsts_none : (files : List File) (numbers : Numbers) {n : ℕ} → IsEmpty numbers → n ≡ length files → AreFirstsFrom files n numbers
firsts_none files numbers {n} empty all root =
    let no : number_of numbers root ≡ None = ap (λ (es : List (List ℕ × ℕ)). lookup (is_at (slice_cmp nat_cmp root)) es) empty in
    subst (λ first. IsFirstFrom (IsOfRoot files root) (length files) n first) (sym (ap (λ o. unwrap_or o (length files)) no)) (record {
      inside = omega (arith, all);
      limit = omega arith;
      has = λ lt. absurd (omega (arith, lt));
      is_first = λ j low of. absurd (let below = some_below files j of.listed in omega (arith, below, all, low));
    })

module _ (files : List File) (from : ℕ) {file : File} (listed : slice_get files from ≡ Some file) where
  -- an empty file is passed
  pub firsts_passed : (numbers : Numbers) → file.length ≡ 0 → AreFirstsFrom files (from + 1) numbers → AreFirstsFrom files from numbers
  firsts_passed numbers empty are root =
      first_back (λ of. absurd (omega (arith, of.some, empty, ap (λ (f : File). f.length) (some_is (sym of.listed ∙ listed))))) (are root)

  -- another is the first of its root then
  pub firsts_put : (old new : Numbers) → 0 < file.length → Updates (slice_cmp nat_cmp) old new file.root (Some from) → AreFirstsFrom files (from + 1) old
      → AreFirstsFrom files from new
  firsts_put old new some update are root = by (is_eq (slice_cmp nat_cmp file.root root)) refl
    where
      by : (b : Bool) → is_eq (slice_cmp nat_cmp file.root root) ≡ b → IsFirstFrom (IsOfRoot files root) (length files) from (unwrap_or (number_of new root) (length files))
      by true e =
          let own : number_of new root ≡ Some from = update.0 root ∙ ap (λ b. cond b (Some from) (number_of old root)) e in
          let same : file.root ≡ root = (bytes_eq-Decides file.root root).0 (sym (is_eq-slice_cmp file.root root) ∙ e) in
          let below = some_below files from listed in
          subst (λ first. IsFirstFrom (IsOfRoot files root) (length files) from first) (sym (ap (λ o. unwrap_or o (length files)) own)) (record {
            inside = omega arith;
            limit = omega (arith, below);
            has = λ lt. record { file = file; listed = listed; some = some; same_root = same };
            is_first = λ j low of. low;
          })
      by false e =
          let other : number_of new root ≡ number_of old root = update.0 root ∙ ap (λ b. cond b (Some from) (number_of old root)) e in
          subst (λ first. IsFirstFrom (IsOfRoot files root) (length files) from first) (sym (ap (λ o. unwrap_or o (length files)) other))
          (first_back (λ of.
          let same : file.root ≡ root = ap (λ (f : File). f.root) (some_is (sym listed ∙ of.listed)) ∙ of.same_root in
          let yes : is_eq (slice_cmp nat_cmp file.root root) ≡ true = is_eq-slice_cmp file.root root ∙ (bytes_eq-Decides file.root root).1 same in
          absurd cc) (are root))

  -- what was its first before comes next
  pub next_before : (numbers : Numbers) {next : ℕ} → next ≡ unwrap_or (number_of numbers file.root) (length files) → AreFirstsFrom files (from + 1) numbers
      → IsFirstFrom (IsOfRoot files file.root) (length files) (from + 1) next
  next_before numbers is are = subst (λ first. IsFirstFrom (IsOfRoot files file.root) (length files) (from + 1) first) (sym is) (are file.root)

-- from one file on each has its next
abbrev pub AreNextsFrom : List File → ℕ → List ℕ → Type 0
AreNextsFrom files from nexts = (i next : ℕ) (file : File) → from ≤ i → slice_get files i ≡ Some file → 0 < file.length
    → slice_get nexts i ≡ Some next → IsFirstFrom (IsOfRoot files file.root) (length files) (i + 1) next

pub nexts_none : (files : List File) (nexts : List ℕ) {n : ℕ} → n ≡ length files → AreNextsFrom files n nexts
nexts_none files nexts all i next file low listed = absurd (let below = some_below files i listed in omega (arith, below, all, low))

pub nexts_more : (files : List File) (nexts : List ℕ) (from next : ℕ) → from < length nexts
    → ((file : File) → slice_get files from ≡ Some file → 0 < file.length → IsFirstFrom (IsOfRoot files file.root) (length files) (from + 1) next)
    → AreNextsFrom files (from + 1) nexts → AreNextsFrom files from (slice_set nexts from next)
nexts_more files nexts from next inside here are i n file low listed some at = by (i == from) refl
  where
    by : (b : Bool) → (i == from) ≡ b → IsFirstFrom (IsOfRoot files file.root) (length files) (i + 1) n
    by true e =
        let same : i ≡ from = eqb-true i from e in
        let own = set_same nexts from {x = next} (get_at nexts from 0 inside) in
        let is : n ≡ next = some_is (sym at ∙ ap (slice_get (slice_set nexts from next)) same ∙ own) in
        subst (λ k. IsFirstFrom (IsOfRoot files file.root) (length files) (k + 1) n) (sym same)
        (subst (λ m. IsFirstFrom (IsOfRoot files file.root) (length files) (from + 1) m) (sym is) (here file (ap (slice_get files) (sym same) ∙ listed) some))
    by false e =
        let apart : i ≢ from = (λ same. absurd (let t = eq-eqb i from same in cc)) in
        are i n file (omega (arith, low, apart)) listed some (sym (set_other nexts from i next apart) ∙ at)

pub nexts_all : (files : List File) (nexts : List ℕ) → length nexts ≡ length files → AreNextsFrom files 0 nexts → AreNextFiles files nexts
nexts_all files nexts size are = record { size = size; each = λ i next file listed some at. are i next file (omega arith) listed some at }
