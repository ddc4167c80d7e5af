-- The calls of one file's device are calls of all devices.
use Rattle.bt_machine.proofs.Base.{[], ◌≡◌, ◌≢◌, ℕ, ◌⊎◌, inl, inr, Bool, true, false, List, ◌∷◌, length, map, Option, Some, None, refl, sym, ap, ◌∙◌, arith, subst, slice_get, slice_set, filter, ◌==◌, eqb-true, eq-eqb, length-set, Call, ◌++◌, filter-append, Contains-append_cases}
use Rattle.std.specs.Prelude.{◌↔◌}
use Rattle.bt_machine.proofs.Lists.{set_other, set_same, contains_map, some_below, get_some}
use Rattle.bt_disk.specs.Calls.{HasCalls}
use Rattle.bt_disk.proofs.CallLists.{has_none, has_then}
use Rattle.std.proofs.lemmas.List.{map-append}
use Rattle.bt_machine.specs.Devices.{DeviceCalls, calls_at, calls_of, HaveCalls}
use Rattle.bt_disk.specs.Conduct.{Conduct}

not_same : (i j : ℕ) → i ≢ j → (i == j) ≡ false
not_same i j apart = by (i == j) refl
  where
    by : (t : Bool) → (i == j) ≡ t → (i == j) ≡ false
    by true e = absurd (apart (eqb-true i j e))
    by false e = e

same_or_not : (i j : ℕ) → (i ≡ j) ⊎ (i ≢ j)
same_or_not i j = by (i == j) refl
  where
    by : (t : Bool) → (i == j) ≡ t → (i ≡ j) ⊎ (i ≢ j)
    by true e = inl (eqb-true i j e)
    by false e = inr (λ h. absurd (let t = eq-eqb i j h in cc))

own_calls : (i : ℕ) (calls : List Call) → calls_of i (calls_at i calls) ≡ calls
own_calls i [] = refl
own_calls i (c ∷ calls) = rw (eq-eqb i i refl) (ap (λ cs. c ∷ cs) (own_calls i calls))

other_calls : (file i : ℕ) (calls : List Call) → file ≢ i → calls_of file (calls_at i calls) ≡ []
other_calls file i [] apart = refl
other_calls file i (c ∷ calls) apart = rw (not_same i file (λ e. apart (sym e))) (other_calls file i calls apart)

module _ {D : Type 0} (conduct : Conduct D) where
  pub have_none : (disks : List (Option D)) → HaveCalls conduct disks [] disks
  have_none disks = record {
    count = refl;
    none = λ file. (λ e. e, λ e. e);
    of_devices = λ file call c. absurd (omega (arith, c.1));
    each = λ file after here. (after, here, has_none conduct after);
  }

  -- calls of the device of the file at i alone
  pub have_one : (disks : List (Option D)) (i : ℕ) (d e : D) (calls : List Call) → slice_get disks i ≡ Some (Some d)
      → HasCalls conduct d calls e
      → HaveCalls conduct disks (calls_at i calls) (slice_set disks i (Some e))
  have_one disks i d e calls here has = record {
    count = length-set disks i (Some e);
    none = λ file. elim (same_or_not file i) [
      | inl same ↦ (
        (λ none. absurd (let at = ap (slice_get disks) same in cc)),
        (λ none. absurd (let at = ap (slice_get (slice_set disks i (Some e))) same in let now = set_same disks i {x = Some e} here in cc)),
      )
      | inr apart ↦ (
        (λ none. set_other disks i file (Some e) apart ∙ none),
        (λ none. sym (set_other disks i file (Some e) apart) ∙ none),
      )
    ];
    of_devices = λ file call c. (
        let m = contains_map (λ call. (i, call)) calls c in
        let same : i ≡ file = ap (λ x. x.0) m.2 in
        (e, ap (slice_get (slice_set disks i (Some e))) (sym same) ∙ set_same disks i here)
        );
    each = λ file after there. elim (same_or_not file i) [
      | inl same ↦ (
          let at = ap (slice_get (slice_set disks i (Some e))) same in
          let now = set_same disks i {x = Some e} here in
          let is : e ≡ after = cc in
          let own = ap (λ f. calls_of f (calls_at i calls)) same ∙ own_calls i calls in
          (d, ap (slice_get disks) same ∙ here, rw own (subst (λ x. HasCalls conduct d calls x) is has))
          )
      | inr apart ↦ (
        after,
        sym (set_other disks i file (Some e) apart) ∙ there,
        rw (other_calls file i calls apart) (has_none conduct after),
      )
    ];
  }

  -- ---- calls after calls
  calls_append : (file : ℕ) (xs ys : DeviceCalls) → calls_of file (xs ++ ys) ≡ calls_of file xs ++ calls_of file ys
  calls_append file xs ys =
      ap (λ (cs : DeviceCalls). map (λ c. c.1) cs) (filter-append (λ (c : ℕ × Call). c.0 == file) xs ys)
      ∙ map-append (λ (c : ℕ × Call). c.1) (filter (λ c. c.0 == file) xs) (filter (λ c. c.0 == file) ys)

  there_by : (b c : List (Option D)) (file : ℕ) {d : D} → ((slice_get b file ≡ Some None) ↔ (slice_get c file ≡ Some None))
      → slice_get b file ≡ Some (Some d) → (o : Option D) → slice_get c file ≡ Some o → (e : D) × (slice_get c file ≡ Some (Some e))
  there_by b c file none here None there = absurd (let was = none.1 there in cc)
  there_by b c file none here (Some e) there = (e, there)

  still_there : (b c : List (Option D)) (file : ℕ) {d : D} → length c ≡ length b
      → ((slice_get b file ≡ Some None) ↔ (slice_get c file ≡ Some None))
      → slice_get b file ≡ Some (Some d) → (e : D) × (slice_get c file ≡ Some (Some e))
  still_there b c file size none here =
      let lt = some_below b file here in
      let there = get_some c file (omega arith) in
      there_by b c file none here there.0 there.1

  pub have_then : (a b c : List (Option D)) (xs ys : DeviceCalls) → HaveCalls conduct a xs b
      → HaveCalls conduct b ys c → HaveCalls conduct a (xs ++ ys) c
  have_then a b c xs ys first more = record {
    count = more.count ∙ first.count;
    none = λ file. ((λ e. (more.none file).0 ((first.none file).0 e)), (λ e. (first.none file).1 ((more.none file).1 e)));
    of_devices = λ file call among. elim (Contains-append_cases xs ys (file, call) among) [
      | inl before ↦ (let d = first.of_devices file call before in still_there b c file more.count (more.none file) d.1)
      | inr after ↦ more.of_devices file call after
    ];
    each = λ file after there. (
        let m = more.each file after there in
        let l = first.each file m.0 m.1 in
        (l.0, l.1, rw (calls_append file xs ys) (has_then conduct l.0 m.0 after (calls_of file xs) (calls_of file ys) l.2 m.2))
        );
  }
