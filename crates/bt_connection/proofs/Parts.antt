-- What is given on over all parts that come.
use Rattle.std.proofs.Common.{◌≡◌, ◌≤◌, ◌+◌, ◌-◌, ℕ, List, [], ◌∷◌, ◌++◌, take, drop, length, get_or, refl, inl, inr, sym, ◌∙◌, ap, subst, arith, length-append, Contains}
use Rattle.std.proofs.lemmas.List.{append_assoc, append-nil, take_all, drop_all, take-append-le, drop-append-le, take-append-drop, get_or_append_left}
use Rattle.std.proofs.lemmas.Bool.{cases_lt}
use Rattle.std.proofs.Math.Seq.{take-append-add, drop-append-add}
use Rattle.std.specs.Prelude.{◌⊎◌, slice_index}
use Rattle.std.specs.Int.{w32, to_be_bytes}
use Rattle.bt_wire.specs.declared.message.Ask.{Ask}
use Rattle.bt_wire.specs.declared.message.Message.{Message}
use Rattle.bt_wire.specs.declared.message.Message.TheVariants.{Request, Piece}
use Rattle.bt_wire.specs.Message.{message_spelling, ask_spelling}
use Rattle.bt_meta.specs.Torrent.{Metainfo}
use Rattle.bt_connection.specs.ShortBlocks.{short_blocks_of, padded}
use Rattle.bt_connection.specs.Padding.{other as unchanged}
use Rattle.bt_tree.specs.Limits.{full_block_length}
use Rattle.bt_connection.specs.Flow.{Flow, flow, IsOther, IsOfInterest}
use Rattle.bt_connection.specs.declared.translation.Side.{Side}
use Rattle.bt_connection.specs.declared.translation.Side.TheVariants.{Peer, Engine}
use Rattle.bt_connection.specs.Translation.{Stands, Settles, waits, other, translated, passes, settles}
use Rattle.bt_connection.specs.TranslationLaw.{BeginsWithNoFrame, GivesOn, ends, goes_on, Part, Come, all_came, all_given}
use Rattle.bt_wire.specs.Frames.{IsFrame}
use Rattle.bt_wire.proofs.SameFrames.{same_number}
use Rattle.bt_wire.proofs.FrameLengths.{begins_frame}
use Rattle.bt_connection.proofs.Frames.{frame_long, not_yet}
use Rattle.bt_connection.proofs.LastBlocks.{short_blocks_are}

-- ---- a message of no interest

-- where a request, or a piece of a block at most, is spelled, it is not the beginning of one
of_no_interest : (rest more payload : List ℕ) (missing kind : ℕ) → (t : IsOther rest missing) → 1 + length payload ≤ 9 + full_block_length
    → IsOfInterest kind (1 + length payload) → ¬ (rest ++ more ≡ to_be_bytes w32 (1 + length payload) ++ kind ∷ payload)
of_no_interest rest more payload missing kind t short of_interest same =
    let front : to_be_bytes w32 t.field ++ [] ≡ to_be_bytes w32 (1 + length payload) ++ []
    = append-nil (to_be_bytes w32 t.field) ∙ t.front ∙ sym (take-append-le 4 rest more t.has_field) ∙ ap (λ (xs : List ℕ). take 4 xs) same
    ∙ sym (append-nil (to_be_bytes w32 (1 + length payload))) in
    let field : t.field ≡ 1 + length payload = same_number t.field (1 + length payload) [] [] t.number (omega (arith, short)) front in
    t.other (elim (cases_lt 4 (length rest)) [
      | inl long ↦
          let is : slice_index rest 4 ≡ kind = sym (get_or_append_left rest more 0 4 long) ∙ ap (λ (xs : List ℕ). get_or xs 4 0) same in
          inr (long, subst (λ (k : ℕ). IsOfInterest k t.field) (sym is) (subst (λ (n : ℕ). IsOfInterest kind n) (sym field) of_interest))
      | inr all ↦ let few = t.has_field in inl (omega (arith, all, few), omega (arith, field, short))
    ])

pub no_frame : BeginsWithNoFrame []
no_frame frame rest is same = omega (arith, frame_long frame is, ap length same ∙ length-append frame rest)

take_seam : (n : ℕ) (xs ys : List ℕ) → take n (xs ++ ys) ≡ take n xs ++ take (n - length xs) ys
take_seam n xs ys = elim (cases_lt n (length xs)) [
  | inl less ↦
      let zero : n - length xs ≡ 0 = omega (arith, less) in
      take-append-le n xs ys (omega (arith, less)) ∙ sym (ap (λ k. take n xs ++ take k ys) zero ∙ append-nil (take n xs))
  | inr all ↦
      let count : n ≡ length xs + (n - length xs) = omega (arith, all) in
      ap (λ k. take k (xs ++ ys)) count ∙ take-append-add xs ys (n - length xs) ∙ ap (λ (zs : List ℕ). zs ++ take (n - length xs) ys) (sym (take_all n xs all))
]

drop_seam : (n : ℕ) (xs ys : List ℕ) → drop n (xs ++ ys) ≡ drop n xs ++ drop (n - length xs) ys
drop_seam n xs ys = elim (cases_lt n (length xs)) [
  | inl less ↦
      let zero : n - length xs ≡ 0 = omega (arith, less) in
      drop-append-le n xs ys (omega (arith, less)) ∙ sym (ap (λ k. drop n xs ++ drop k ys) zero)
  | inr all ↦
      let count : n ≡ length xs + (n - length xs) = omega (arith, all) in
      ap (λ k. drop k (xs ++ ys)) count ∙ drop-append-add xs ys (n - length xs) ∙ ap (λ (zs : List ℕ). zs ++ drop (n - length xs) ys) (sym (drop_all n xs all))
]

pub nil_of : (xs : List ℕ) → length xs ≡ 0 → xs ≡ []
nil_of [] none = refl
nil_of (x ∷ xs) none = absurd (omega (arith, none))

module _ (torrent : Metainfo) (side : Side) where
  abbrev blocks : List Ask
  blocks = short_blocks_of torrent

  not_asked : (rest more : List ℕ) (missing : ℕ) (ask : Ask) → (t : IsOther rest missing) → ¬ (rest ++ more ≡ message_spelling (Request ask))
  not_asked rest more missing ask t same = of_no_interest rest more (ask_spelling ask) missing 6 t (omega arith) (inl (refl, refl)) same

  not_answered : (rest more : List ℕ) (missing : ℕ) (ask : Ask) (bytes : List ℕ) → (t : IsOther rest missing) → Contains blocks ask → length bytes ≡ ask.length
      → ¬ (rest ++ more ≡ message_spelling (Piece ask.piece ask.begin bytes))
  not_answered rest more missing ask bytes t there whole same =
      let short = ((short_blocks_are torrent ask).0 there).short in
      let payload : List ℕ = to_be_bytes w32 ask.piece ++ to_be_bytes w32 ask.begin ++ bytes in
      let size : length payload ≡ 8 + length bytes
      = length-append (to_be_bytes w32 ask.piece ++ to_be_bytes w32 ask.begin) bytes in
      let few : 1 + length payload ≤ 9 + full_block_length = omega (arith, size, short, whole) in
      of_no_interest rest more payload missing 7 t few (inr (refl, omega (arith, size), few)) same

  stands : (s : Side) (rest more : List ℕ) (missing : ℕ) (m : Message) → IsOther rest missing → rest ++ more ≡ message_spelling m → Stands blocks s [] m m []
  stands Peer rest more missing m t same =
      unchanged (
        λ ask asks. not_asked rest more missing (padded ask) t (same ∙ ap message_spelling asks.1),
        λ ask asks. not_asked rest more missing ask t (same ∙ ap message_spelling asks.1),
      ) refl refl
  stands Engine rest more missing m t same =
      unchanged (λ ask bytes a. not_answered rest more missing ask bytes t a.short a.whole (same ∙ ap message_spelling a.message)) refl refl

  -- ---- stream by stream

  nothing_given : (held given : List ℕ) → GivesOn blocks side held [] given → (given ≡ []) × (held ≡ [])
  nothing_given held given (ends came given' none is) =
      let size = ap length is ∙ length-append given held in
      (nil_of given (omega (arith, size)), nil_of held (omega (arith, size)))
  nothing_given held given (goes_on came next frame run given' old new is split gives so) =
      absurd (omega (arith, frame_long frame is, ap length split ∙ length-append frame next))

  -- a message that passes in parts is given on as it is, whole or not
  passes_on : (rest more given held : List ℕ) (missing : ℕ) → IsOther rest missing → GivesOn blocks side held (drop missing more) given
      → GivesOn blocks side held (rest ++ more) (rest ++ (take missing more ++ given))
  passes_on rest more given held missing t on = elim (cases_lt (length more) missing) [
    | inl few ↦
        let nothing = nothing_given held given
        (subst (λ (xs : List ℕ). GivesOn blocks side held xs given) (drop_all missing more (omega (arith, few))) on) in
        let all : rest ++ (take missing more ++ given) ≡ rest ++ more
        = ap (λ (xs : List ℕ). rest ++ (take missing more ++ xs)) nothing.0 ∙ ap (λ (xs : List ℕ). rest ++ xs) (append-nil (take missing more) ∙ take_all missing more (omega (arith, few))) in
        ends (rest ++ more) (rest ++ (take missing more ++ given)) (λ frame others is same. not_yet rest more frame others missing t few is same)
        (sym (ap (λ (xs : List ℕ). (rest ++ (take missing more ++ given)) ++ xs) nothing.1 ∙ append-nil (rest ++ (take missing more ++ given)) ∙ all))
    | inr enough ↦
        let size = t.whole in
        let long : 4 ≤ length rest = let h = t.has_field in omega arith in
        let begins = begins_frame (rest ++ more) t.field (t.front ∙ sym (take-append-le 4 rest more long)) t.number
        (omega (arith, size, enough, length-append rest more)) in
        let count : 4 + t.field ≡ length rest + missing = omega (arith, size) in
        let whole : take (4 + t.field) (rest ++ more) ≡ rest ++ take missing more = ap (λ n. take n (rest ++ more)) count ∙ take-append-add rest more missing in
        let frame : List ℕ = rest ++ take missing more in
        let split : rest ++ more ≡ frame ++ drop missing more
        = sym (append_assoc rest (take missing more) (drop missing more) ∙ ap (λ (xs : List ℕ). rest ++ xs) (take-append-drop missing more)) in
        subst (λ (xs : List ℕ). GivesOn blocks side held (rest ++ more) xs) (append_assoc rest (take missing more) given)
        (goes_on (rest ++ more) (drop missing more) frame frame given [] [] (subst IsFrame whole begins.frame) split
        (record { message = λ m is. (m, stands side rest (take missing more) missing m t is.spelled, is.spelled); bytes = λ none. refl; memory = λ none. refl }) on)
  ]

  -- ---- part by part

  abbrev IsGivenOn : Flow → List Part → Flow → Type 0
  IsGivenOn come parts left = (given : List ℕ) × (all_given parts ≡ take come.passing (all_came parts) ++ given)
      × GivesOn blocks side left.unread (come.unread ++ drop come.passing (all_came parts)) given

  -- what comes after a part, where the first bytes of it pass
  passed : (come left : Flow) (part : Part) (parts : List Part) → length part.came ≤ come.passing
      → part.given ≡ part.came → IsGivenOn (flow (come.passing - length part.came) come.unread) parts left → IsGivenOn come (part ∷ parts) left
  passed come left part parts few same next =
      let more : List ℕ = all_came parts in
      let n : ℕ = come.passing - length part.came in
      let front : take come.passing (part.came ++ more) ≡ part.came ++ take n more
      = take_seam come.passing part.came more ∙ ap (λ (xs : List ℕ). xs ++ take n more) (take_all come.passing part.came few) in
      let back : drop come.passing (part.came ++ more) ≡ drop n more
      = drop_seam come.passing part.came more ∙ ap (λ (xs : List ℕ). xs ++ drop n more) (drop_all come.passing part.came few) in (
        next.0,
        ap (λ (xs : List ℕ). xs ++ all_given parts) same ∙ ap (λ (xs : List ℕ). part.came ++ xs) next.1 ∙ sym (append_assoc part.came (take n more) next.0)
            ∙ ap (λ (xs : List ℕ). xs ++ next.0) (sym front),
        subst (λ (xs : List ℕ). GivesOn blocks side left.unread (come.unread ++ xs) next.0) (sym back) next.2,
      )

  -- where none do
  behind : (come left : Flow) (parts : List Part) (given : List ℕ) → come.passing ≡ 0 → all_given parts ≡ given
      → GivesOn blocks side left.unread (come.unread ++ all_came parts) given → IsGivenOn come parts left
  behind come left parts given zero all on = (
    given,
    all ∙ sym (ap (λ n. take n (all_came parts) ++ given) zero),
    subst (λ n. GivesOn blocks side left.unread (come.unread ++ drop n (all_came parts)) given) (sym zero) on,
  )

  settled : (come mid left : Flow) (part : Part) (parts : List Part) → come.passing ≡ 0
      → Settles blocks side (come.unread ++ part.came) mid part.given → IsGivenOn mid parts left → IsGivenOn come (part ∷ parts) left
  settled come mid left part parts zero (waits w is none) next =
      let more : List ℕ = all_came parts in
      let same = subst (λ (f : Flow). IsGivenOn f parts left) is next in
      behind come left (part ∷ parts) same.0 zero
      (ap (λ (xs : List ℕ). xs ++ all_given parts) none ∙ same.1)
      (subst (λ (xs : List ℕ). GivesOn blocks side left.unread xs same.0) (append_assoc come.unread part.came more) same.2)
  settled come mid left part parts zero (other missing t is same) next =
      let more : List ℕ = all_came parts in
      let so = subst (λ (f : Flow). IsGivenOn f parts left) is next in
      let rest : List ℕ = come.unread ++ part.came in
      behind come left (part ∷ parts) (rest ++ (take missing more ++ so.0)) zero
      (ap (λ (xs : List ℕ). xs ++ all_given parts) same ∙ ap (λ (xs : List ℕ). rest ++ xs) so.1)
      (subst (λ (xs : List ℕ). GivesOn blocks side left.unread xs (rest ++ (take missing more ++ so.0))) (append_assoc come.unread part.came more)
      (passes_on rest more so.0 left.unread missing t so.2))
  settled come mid left part parts zero (translated found kept whole gives is) next =
      let more : List ℕ = all_came parts in
      let so = subst (λ (f : Flow). IsGivenOn f parts left) is next in
      let rest : List ℕ = come.unread ++ part.came in
      behind come left (part ∷ parts) (part.given ++ so.0) zero (ap (λ (xs : List ℕ). part.given ++ xs) so.1)
      (goes_on (come.unread ++ (part.came ++ more)) more rest part.given so.0 found kept whole (sym (append_assoc come.unread part.came more)) gives so.2)

  begins_with_none : (come mid : Flow) (part : Part) → Settles blocks side (come.unread ++ part.came) mid part.given
      → BeginsWithNoFrame mid.unread × ((mid.passing ≡ 0) ⊎ (mid.unread ≡ []))
  begins_with_none come mid part (waits w is none) = subst (λ (f : Flow). BeginsWithNoFrame f.unread × ((f.passing ≡ 0) ⊎ (f.unread ≡ []))) (sym is) (w.no_frame, inl refl)
  begins_with_none come mid part (other missing t is same) = subst (λ (f : Flow). BeginsWithNoFrame f.unread × ((f.passing ≡ 0) ⊎ (f.unread ≡ []))) (sym is) (no_frame, inr refl)
  begins_with_none come mid part (translated found kept whole gives is) = subst (λ (f : Flow). BeginsWithNoFrame f.unread × ((f.passing ≡ 0) ⊎ (f.unread ≡ []))) (sym is) (no_frame, inr refl)

  less_passes : (come : Flow) (n : ℕ) → (come.passing ≡ 0) ⊎ (come.unread ≡ []) → (come.passing - n ≡ 0) ⊎ (come.unread ≡ [])
  less_passes come n (inl zero) = inl (omega (arith, zero))
  less_passes come n (inr none) = inr none

  pub given_on : (parts : List Part) (come left : Flow) → BeginsWithNoFrame come.unread → (come.passing ≡ 0) ⊎ (come.unread ≡ [])
      → Come blocks side come parts left → IsGivenOn come parts left
  given_on [] come left none either so =
      let same : come.unread ++ drop come.passing [] ≡ come.unread
      = ap (λ (xs : List ℕ). come.unread ++ xs) (drop_all come.passing [] (omega arith)) ∙ append-nil come.unread in (
        [],
        sym (append-nil (take come.passing []) ∙ take_all come.passing [] (omega arith)),
        ends (come.unread ++ drop come.passing []) [] (subst BeginsWithNoFrame (sym same) none) (same ∙ sym (ap (λ (f : Flow). f.unread) so)),
      )
  given_on (part ∷ parts) come left none either (mid, passes few is same, others) =
      let now : Flow = flow (come.passing - length part.came) come.unread in
      passed come left part parts few same
      (given_on parts now left none (less_passes come (length part.came) either) (subst (λ (f : Flow). Come blocks side f parts left) is others))
  given_on (part ∷ parts) come left none either (mid, settles zero s, others) =
      let next = begins_with_none come mid part s in
      settled come mid left part parts zero s (given_on parts mid left next.0 next.1 others)
