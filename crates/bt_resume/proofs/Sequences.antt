-- Texts that begin the same bytes.
use Rattle.std.proofs.Common.{◌≡◌, ℕ, List, ◌∷◌, ◌++◌, length, take, drop, refl, sym, ap, ◌∙◌, subst}
use Rattle.std.proofs.lemmas.List.{append_assoc, take_at, drop_at, take-append-drop}
use Rattle.bt_resume.specs.declared.hint.Format.{Format}
use Rattle.bt_resume.specs.declared.hint.Format.TheVariants.{One, Two}
use Rattle.bt_resume.specs.Hint.{hints_spelling}
use Rattle.bt_resume.specs.LogText.{of_one, of_two, renewed, header_format, header, body_spelling, text_length, IsBody, BeginsIn}
use Rattle.bt_resume.specs.Law.{AreReadBack, HasOneReading, AreReadFirst, HintsComeFirst, KeptLogsOpen}
use Rattle.bt_resume.specs.OneSpelling.{first_hints, same_hints, same_text, renewal_begins_none, byte_renews}
use Rattle.bt_resume.proofs.Texts.{begins_header, same_header, header_size, goes_on_by}

pub are_read_back : AreReadBack
are_read_back text rest lawful ends = record { lawful = lawful; rest = rest; spelled = refl; longest = ends }

pub are_read_first : AreReadFirst
are_read_first Two (of_two hs) (of_two bs) rest f g p is =
    let b = first_hints Two hs bs rest is.rest p is.lawful is.longest is.spelled in
    (of_two b.more, tt, ap (λ l. of_two l) b.all_are)
are_read_first One (of_one hs) (of_one bs) rest f g p is =
    let b = first_hints One hs bs rest is.rest p is.lawful is.longest.0 is.spelled in
    (of_one b.more, tt, ap (λ l. of_one l) b.all_are)
are_read_first One (of_one hs) (renewed bs cs) rest f g p is =
    let behind : List ℕ = hints_spelling Two cs ++ is.rest in
    let b = first_hints One hs bs rest (50 ∷ behind) p is.lawful.0 (renewal_begins_none One behind)
    (is.spelled ∙ append_assoc (hints_spelling One bs) (50 ∷ hints_spelling Two cs) is.rest) in
    (renewed b.more cs, tt, ap (λ l. renewed l cs) b.all_are)
are_read_first One (renewed hs cs) (of_one bs) rest f g p is =
    let behind : List ℕ = hints_spelling Two cs ++ rest in
    let same = same_hints One hs bs (50 ∷ behind) is.rest p.0 is.lawful (renewal_begins_none One behind) is.longest.0
    (sym (append_assoc (hints_spelling One hs) (50 ∷ hints_spelling Two cs) rest) ∙ is.spelled) in
    absurd (is.longest.1 (byte_renews is.rest behind (sym same.1)))
are_read_first One (renewed hs cs) (renewed bs ds) rest f g p is =
    let behind : List ℕ = hints_spelling Two cs ++ rest in
    let other : List ℕ = hints_spelling Two ds ++ is.rest in
    let olds = same_hints One hs bs (50 ∷ behind) (50 ∷ other) p.0 is.lawful.0 (renewal_begins_none One behind) (renewal_begins_none One other)
    (sym (append_assoc (hints_spelling One hs) (50 ∷ hints_spelling Two cs) rest) ∙ is.spelled
    ∙ append_assoc (hints_spelling One bs) (50 ∷ hints_spelling Two ds) is.rest) in
    let news = first_hints Two cs ds rest is.rest p.1 is.lawful.1 is.longest (ap (λ xs. drop 1 xs) olds.1) in
    (of_two news.more, tt, ap (λ l. renewed l ds) (sym olds.0) ∙ ap (λ l. renewed hs l) news.all_are)
are_read_first Two (of_one hs) all rest f g p is = absurd f
are_read_first Two (renewed hs cs) all rest f g p is = absurd f
are_read_first One (of_two hs) all rest f g p is = absurd f
are_read_first Two (of_two hs) (of_one bs) rest f g p is = absurd g
are_read_first Two (of_two hs) (renewed bs cs) rest f g p is = absurd g
are_read_first One (of_one hs) (of_two bs) rest f g p is = absurd g
are_read_first One (renewed hs cs) (of_two bs) rest f g p is = absurd g

pub hints_come_first : HintsComeFirst
hints_come_first text all p = (_, (goes_on_by text all p).hints)

pub has_one_reading : HasOneReading
has_one_reading infohash bytes a b p q =
    let same : header_format a ≡ header_format b = same_header (header_format a) (header_format b) infohash (sym p.header_is ∙ q.header_is) in
    same_text (header_format a) a b p.body_is.rest q.body_is.rest (begins_header a) (subst (λ f. BeginsIn f b) (sym same) (begins_header b))
    p.body_is.lawful q.body_is.lawful p.body_is.longest q.body_is.longest (sym p.body_is.spelled ∙ q.body_is.spelled)

-- ---- logs

pub kept_logs_open : KeptLogsOpen
kept_logs_open infohash bytes text size lawful keeps =
    let n : ℕ = text_length text in
    let rest : List ℕ = drop n bytes in
    let format : Format = header_format text in
    let head : List ℕ = header format infohash in
    let whole : bytes ≡ head ++ (body_spelling text ++ rest) =
    sym (take-append-drop n bytes) ∙ ap (λ xs. xs ++ rest) keeps.begins ∙ append_assoc head (body_spelling text) rest in
    let head_is : length head ≡ 40 = header_size format infohash size in
    let header_is : take 40 bytes ≡ head = ap (λ xs. take 40 xs) whole ∙ take_at head (body_spelling text ++ rest) 40 head_is in
    let behind : drop 40 bytes ≡ body_spelling text ++ rest = ap (λ xs. drop 40 xs) whole ∙ drop_at head (body_spelling text ++ rest) 40 head_is in (
      (format, header_is),
      λ all log.
          let same : format ≡ header_format all = same_header format (header_format all) infohash (sym header_is ∙ log.header_is) in
          are_read_first format text all rest (begins_header text) (subst (λ f. BeginsIn f all) (sym same) (begins_header all)) lawful
          (subst (λ xs. IsBody xs all) behind log.body_is),
    )
