-- What bytes that spell a torrent are read as.
use Rattle.bt_meta.proofs.Base.{◌≡◌, ◌≢◌, ℕ, ◌≤◌, ◌^◌, List, [], ◌++◌, length, None, Some, refl, sym, ap, ◌∙◌, arith, Data, spelling_of, IsCanonical, first_fault, info_of, layers_of, no_spelling, faulty, metainfo_of}
use Rattle.bt_bencode.specs.Law.{IsRepresentable}
use Rattle.bt_bencode.specs.Error.{AtFault}
use Rattle.bt_bencode.specs.declared.error.BencodeError.{BencodeError}
use Rattle.bt_bencode.specs.declared.error.BencodeError.TheVariants.{Truncated, BadByte, LeadingZero, IntRange, KeyOrder, TooDeep, Trailing, OutOfMemory as no_memory_left}
use Rattle.bt_bencode.proofs.ReadingLaws.{begins_once}
use Rattle.bt_bencode.proofs.Representable.{representable}
use Rattle.bt_meta.specs.Error.{refusal_of}
use Rattle.bt_meta.specs.Reader.{no_memory, too_long}
use Rattle.bt_meta.specs.Law.{SpellsOneTorrent, IsRefusedForMemoryAlone}
use Rattle.bt_meta.specs.declared.error.MetaError.TheVariants.{OutOfMemory}

fits : (d : Data) (bytes : List ℕ) → IsCanonical d → spelling_of d ≡ bytes → length bytes ≤ 2 ^ 27 → IsRepresentable d
fits d bytes canonical spelled small = let n : length (spelling_of d) ≡ length bytes = ap length spelled in representable d canonical.integers (omega arith)

same_value : (d e : Data) (bytes : List ℕ) → length bytes ≤ 2 ^ 27 → IsCanonical d → spelling_of d ≡ bytes → IsCanonical e → spelling_of e ≡ bytes → d ≡ e
same_value d e bytes small canonical spelled canonical' spelled' =
    begins_once d e [] [] (fits d _ canonical spelled small) (fits e _ canonical' spelled' small) (ap (λ s. s ++ []) (spelled ∙ sym spelled'))

pub one_torrent : SpellsOneTorrent
one_torrent bytes torrent other h k =
    let same = same_value _ _ _ h.small h.canonical h.spelled k.canonical k.spelled in
    h.described ∙ ap (λ v. metainfo_of (info_of v) (layers_of v)) same ∙ sym k.described

for_memory : (d : Data) (bytes : List ℕ) (fault : BencodeError) → IsCanonical d → spelling_of d ≡ bytes
    → AtFault (λ _ _. (d : Data) → IsCanonical d → spelling_of d ≢ bytes) fault → refusal_of fault ≡ OutOfMemory
for_memory d bytes (Truncated at) canonical spelled none = absurd (none d canonical spelled)
for_memory d bytes (BadByte at) canonical spelled none = absurd (none d canonical spelled)
for_memory d bytes (LeadingZero at) canonical spelled none = absurd (none d canonical spelled)
for_memory d bytes (IntRange at) canonical spelled none = absurd (none d canonical spelled)
for_memory d bytes (KeyOrder at) canonical spelled none = absurd (none d canonical spelled)
for_memory d bytes (TooDeep at) canonical spelled none = absurd (none d canonical spelled)
for_memory d bytes (Trailing at) canonical spelled none = absurd (none d canonical spelled)
for_memory d bytes no_memory_left canonical spelled none = refl

pub refused_for_memory : IsRefusedForMemoryAlone
refused_for_memory bytes torrent e h (no_memory small) = refl
refused_for_memory bytes torrent e h (too_long long) = let small = h.small in absurd (omega arith)
refused_for_memory bytes torrent e h (no_spelling fault small none) = for_memory _ bytes fault h.canonical h.spelled none.spells_none
refused_for_memory bytes torrent e h (faulty fault small found) =
    let same = same_value _ _ bytes small found.canonical found.spelled h.canonical h.spelled in
    let never : Some fault ≡ None = sym found.first ∙ ap first_fault same ∙ h.faultless in
    cc
